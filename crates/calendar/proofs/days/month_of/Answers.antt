-- `month_of`: the month that one division finds.
use native.Mathlib.Omega.{arith}
use mathlib.Core.Path.{ap, ◌∙◌}
use Rattle.calendar.specs.code.Walk.{evened}
use Rattle.calendar.proofs.Years.{year_most}
use Rattle.calendar.proofs.Months.{month_found}
use Rattle.calendar.proofs.days.month_of.Goals as goal

pub even-e-requires : goal.even-e-requires
even-e-requires c = omega (arith, year_most c.args.y)

pub returns : goal.returns
returns c = month_found c.args.y c.args.d c.even-e.result c.requires (c.even-e.ensures.is ∙ ap (evened c.args.d) c.is_leap.ensures)
