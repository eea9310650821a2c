-- `has_day`: four times two digits, then the calendar.
use Rattle.std.proofs.Common.{◌∙◌}
use Rattle.dates.proofs.Stamps.{day_means}
use Rattle.dates.proofs.has_day.Goals as goal

pub returns : goal.returns
returns c =
    c.is_day.ensures ∙ day_means c.args.v.now _ _ _ _ c.requires.0 c.two.ensures.is c.two-2.ensures.is c.two-3.ensures.is c.two-4.ensures.is
