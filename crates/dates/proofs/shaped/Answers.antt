-- `shaped`: the flag says whether the bytes so far fit.
use Rattle.std.proofs.Common.{length, length-append}
use Rattle.std.proofs.lemmas.Slice.Zip.{zip_turn}
use Rattle.dates.proofs.Shapes.{flag_next}
use Rattle.dates.proofs.shaped.Goals as goal

pub loop-s-preserved : goal.loop-s-preserved
loop-s-preserved c =
    let a = c.args in
    let l = c.loop-s in
    let z = zip_turn a.shape.now a.v.now l.yielded _ _ c.next.new.self _ (cc) (cc) l.yielded_by _ c.in-Some.is c.next.ensures.steps in
    rw length-append (flag_next a.shape.now a.v.now (length l.yielded) z l.invariant c.stands_for-fits.ensures)
