-- `date_of`: the year counted from 0001 is the year counted from 1970.
use mathlib.Core.Path.{◌∙◌}
use Rattle.calendar.proofs.Years.{date-found}
use Rattle.calendar.proofs.days.date_of.Goals as goal

pub returns : goal.returns
returns c = c.month_of.ensures ∙ date-found c.args.d _ _ c.year_of-y.ensures
