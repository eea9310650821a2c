-- `lead_of`: a number without its last digit begins as it did.
use native.Mathlib.Omega.{arith}
use mathlib.Core.Path.{refl, sym, ◌∙◌}
use Rattle.octets.proofs.Rightmost.{first_small, first_step}
use Rattle.fields.proofs.first.lead_of.Goals as goal

pub loop-n-init : goal.loop-n-init
loop-n-init c = refl

pub loop-n-preserved : goal.loop-n-preserved
loop-n-preserved c = let l = c.loop-n in sym (first_step l.n (omega arith)) ∙ l.invariant

pub returns : goal.returns
returns c = let l = c.loop-n in sym (first_small l.n (omega arith)) ∙ l.invariant

pub loop-n-smaller : goal.loop-n-smaller
loop-n-smaller c = omega arith
