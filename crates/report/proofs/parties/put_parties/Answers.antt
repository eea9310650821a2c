-- `put_parties`: none, too many, or the count and each party.
use Rattle.std.proofs.Common.{◌≡◌, refl, sym, arith, ◌+◌, ◌≤◌}
use Rattle.report.specs.Layout.{word}
use Rattle.report.proofs.Putting.{none_put}
use Rattle.report.proofs.Sides.{no_parties, many_parties, all_parties, party_more, parties_unfit}
use Rattle.report.proofs.parties.put_parties.Goals as goal

pub returns-then-n-eq0-clause-bytes : goal.returns-then-n-eq0-clause-bytes
returns-then-n-eq0-clause-bytes c = no_parties c.args.given.words.now c.args.given.text.now _ c.if-n-eq0.true

pub returns-then-n-gt8-clause-bytes : goal.returns-then-n-gt8-clause-bytes
returns-then-n-gt8-clause-bytes c = many_parties c.args.given.words.now c.args.given.text.now _ c.if-n-gt8.true

pub loop-i-init : goal.loop-i-init
loop-i-init c = record { long = refl; within = omega arith; puts = none_put }

pub returns-in_err-to-clause-bytes : goal.returns-in_err-to-clause-bytes
returns-in_err-to-clause-bytes c =
    let w = c.args.given.words.now in
    let s = c.args.given.text.now in
    let h : c.loop-i.i + 1 ≤ word w s 33 = omega (arith, c.loop-i-test.true) in
    rw c.from_residual.ensures
    (all_parties w s _ c.if-n-eq0.false c.if-n-gt8.false c.put_field-to.ensures.bytes
    (parties_unfit w s (c.loop-i.i + 1) (word w s 33) h (party_more w s c.loop-i.i c.loop-i.invariant.puts c.in_err-to.ensures.bytes)))

pub loop-i-preserved : goal.loop-i-preserved
loop-i-preserved c = record {
  long = omega (arith, c.put_party.auto.body, c.loop-i.invariant.long);
  within = omega (arith, c.in_ok-to.ensures.room, c.loop-i.invariant.within);
  puts = party_more c.args.given.words.now c.args.given.text.now c.loop-i.i c.loop-i.invariant.puts c.in_ok-to.ensures.bytes;
}

pub returns-clause-bytes : goal.returns-clause-bytes
returns-clause-bytes c =
    let w = c.args.given.words.now in
    let s = c.args.given.text.now in
    let e : c.loop-i.i ≡ word w s 33 = omega (arith, c.loop-i-test.false, c.loop-i.auto.i-end) in
    all_parties w s _ c.if-n-eq0.false c.if-n-gt8.false c.put_field-to.ensures.bytes
    (rw (sym e) c.loop-i.invariant.puts)
