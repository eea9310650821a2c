-- Worked plans and places: which messages a replay is, and where a new report goes.
use Rattle.std.specs.Prelude.{ℕ, ◌≡◌, [], ◌∷◌}
use Rattle.std.proofs.Math.Option.{none, some}
use Rattle.report.specs.Values.{Values}
use Rattle.report.specs.Report.{Report}
use Rattle.store.specs.Store.{takes}
use Rattle.store.specs.Plan.{Again, Fill, plan}

-- a report of a number, whatever its values are
abbrev pub report : Values → ℕ → Report
report v n = record { values = v; number = n; time = 0 }

pub record Cases (v : Values) : Type 0 where
  -- 5 and 3 are kept, in this order, and 1 to 7 are asked for
  pub between : plan (some (report v 5) ∷ none ∷ some (report v 3) ∷ []) 7 1 ≡ Fill 1 2 ∷ Again (report v 3) ∷ Fill 4 4 ∷ Again (report v 5) ∷ Fill 6 7 ∷ []
  -- all of them are kept, and none is
  pub reports_alone : plan (some (report v 2) ∷ some (report v 1) ∷ []) 2 1 ≡ Again (report v 1) ∷ Again (report v 2) ∷ []
  pub one_fill : plan (none ∷ none ∷ []) 7 1 ≡ Fill 1 7 ∷ []
  -- what is kept outside the range does not go out
  pub outside : plan (some (report v 9) ∷ some (report v 1) ∷ []) 5 3 ≡ Fill 3 5 ∷ []
  -- "a new one takes the first empty place, else the lowest number's"
  pub first_empty : takes (some (report v 1) ∷ none ∷ some (report v 7) ∷ none ∷ []) ≡ 1
  pub lowest_number : takes (some (report v 5) ∷ some (report v 3) ∷ some (report v 4) ∷ []) ≡ 1
