-- `year_of`: the year that four divisions find.
use native.Mathlib.Omega.{arith}
use Rattle.calendar.proofs.Years.{year_found, year_fits}
use Rattle.calendar.proofs.days.year_of.Goals as goal

pub overflow_add-result-2 : goal.overflow_add-result-2
overflow_add-result-2 c = omega (arith, year_fits c.args.d _ _ _ c.requires c.split-b.ensures.few c.split-b.ensures.short c.split-e.ensures.few)

pub overflow_add-result-3 : goal.overflow_add-result-3
overflow_add-result-3 c = omega (arith, year_fits c.args.d _ _ _ c.requires c.split-b.ensures.few c.split-b.ensures.short c.split-e.ensures.few)

pub overflow_add-result-4 : goal.overflow_add-result-4
overflow_add-result-4 c = omega (arith, year_fits c.args.d _ _ _ c.requires c.split-b.ensures.few c.split-b.ensures.short c.split-e.ensures.few)

pub returns : goal.returns
returns c = year_found c.args.d _ _ _ _ c.requires c.split-b.ensures c.split-e.ensures
