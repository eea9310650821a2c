-- `before_limit`: date and time of day by divisions of the microseconds.
use Prim.Native.Nat.{◌/◌, ◌<◌}
use native.Mathlib.Omega.{arith}
use mathlib.Core.Path.{◌∙◌}
use Rattle.calendar.proofs.Dates.{date_small}
use Rattle.calendar.proofs.Texts.{utc_by}
use Rattle.calendar.proofs.before_limit.Goals as goal

-- its numbers are those of a date and of a clock
pub written-requires : goal.written-requires
written-requires c =
    let d = c.args.t / 1000000 / 86400 in
    let h : d < 2932897 = omega (arith, c.requires) in
    let D = date_small d h c.date_of-date.ensures in
    (D.0, D.1, D.2, omega arith, omega arith)

pub returns : goal.returns
returns c = c.written.ensures ∙ utc_by c.args.t c.date_of-date.ensures
