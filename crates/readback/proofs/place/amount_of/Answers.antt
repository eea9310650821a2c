-- The decimal, or none.
use mathlib.Core.Path.{ap, sym, ◌∙◌}
use Rattle.std.specs.Prelude.{Result}
use Rattle.decimals.specs.declared.Decimal.{Decimal}
use Rattle.fault.specs.declared.Fault.{Fault}
use Rattle.amounts.specs.Amount.{given}
use Rattle.readback.proofs.Slots.{amount_pair}
use Rattle.readback.proofs.place.amount_of.Goals as goal

pub returns-in-Ok : goal.returns-in-Ok
returns-in-Ok c = ap (λ (d : Result Decimal Fault). ((given d).whole, (given d).places)) (sym c.in-Ok.is) ∙ amount_pair _ c.read_decimal.ensures

pub returns-in-Err : goal.returns-in-Err
returns-in-Err c = ap (λ (d : Result Decimal Fault). ((given d).whole, (given d).places)) (sym c.in-Err.is) ∙ amount_pair _ c.read_decimal.ensures
