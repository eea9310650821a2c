-- `put_bytes_value`: the field where the value is fit, nothing else where it is not.
use native.Mathlib.Omega.{arith}
use borrow.Author.Tests.{not-true}
use mathlib.Core.Path.{sym, ◌∙◌}
use Rattle.writer.proofs.Fitness.{written-short}
use Rattle.writer.proofs.fill.put_bytes_value.Goals as goal

pub put_field-requires : goal.put_field-requires
put_field-requires c = (omega arith, tt, omega (arith, written-short _ _ (not-true _ (sym c.is_fit.ensures ∙ c.if-not-is_fit.false))))
