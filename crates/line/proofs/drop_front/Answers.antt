-- `drop_front`: nothing is left, or what is left has been moved.
use Rattle.std.proofs.Common.{◌-◌, ap, ◌∙◌, arith}
use Rattle.octets.specs.Bytes.{Bytes}
use Rattle.line.specs.Line.{line}
use Rattle.line.proofs.Lines.{drop_none, drop_some, drop_zero}
use Rattle.line.proofs.drop_front.Goals as goal

pub returns-then-h-n : goal.returns-then-h-n
returns-then-h-n c = drop_none _ _ _ _ c.min-h.ensures c.if-h-n.true

pub returns-then-n-eq0 : goal.returns-then-n-eq0
returns-then-n-eq0 c = drop_zero _ _ _ _ c.min-h.ensures (omega arith) c.if-n-eq0.true

pub returns : goal.returns
returns c =
    let a = c.args in
    let h = c.min-h.result in
    ap (λ (d : Bytes). line d (h - a.n)) c.copy_within.ensures.after ∙ drop_some a.buf.now a.held a.n h c.min-h.ensures (omega arith)
