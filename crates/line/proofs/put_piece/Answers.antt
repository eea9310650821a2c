-- `put_piece`: nothing fits, or what fits has been put.
use Rattle.std.proofs.Common.{◌≡◌, ℕ, ◌+◌, List, refl, ap, ◌∙◌, arith}
use lib.ListN.{set, get_or, length-set}
use lib.Seq.{paste-zero}
use Rattle.octets.specs.Bytes.{Bytes}
use Rattle.line.specs.Line.{line}
use Rattle.line.proofs.Lines.{put_none, put_some, paste_more}
use Rattle.line.proofs.put_piece.Goals as goal

pub returns-then-len-held : goal.returns-then-len-held
returns-then-len-held c = put_none _ c.args.piece.now _ c.if-len-held.true

pub loop-i-init : goal.loop-i-init
loop-i-init c = record { long = refl; bytes = paste-zero _ c.args.held c.args.piece.now }

pub loop-i-preserved : goal.loop-i-preserved
loop-i-preserved c =
    let a = c.args in
    let l = c.loop-i in record {
      long = rw length-set l.invariant.long;
      bytes = ap (λ (y : List ℕ). set y (a.held + l.i) (get_or a.piece.now l.i 0)) l.invariant.bytes ∙ paste_more a.buf.now a.held a.piece.now l.i (omega (arith, c.min-n.ensures, c.loop-i-test.true)) (omega (arith, c.min-n.ensures, c.loop-i-test.true));
    }

pub returns : goal.returns
returns c =
    let a = c.args in
    let l = c.loop-i in
    let e : l.i ≡ c.min-n.result = omega (arith, c.loop-i-test.false, l.auto.i-end) in
    ap (λ (d : Bytes). line d (a.held + c.min-n.result)) (rw e at l.invariant.bytes) ∙ put_some a.buf.now a.piece.now a.held c.min-n.result c.min-n.ensures
