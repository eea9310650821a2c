-- The worked plans and places, by computation.
use mathlib.Core.Path.{refl}
use Rattle.report.specs.Values.{Values}
use Rattle.store.specs.Store.{takes}
use Rattle.store.specs.Plan.{item, plan}
use Rattle.store.specs.Cases.{Cases}

pub cases : (v : Values) → Cases v
unfolding item plan takes
cases v = record { between = refl; reports_alone = refl; one_fill = refl; outside = refl; first_empty = refl; lowest_number = refl }
