-- The reports that a store keeps (document 02, Q-4): which place counts as empty, which report is found under a number, and where a new one goes.
use Rattle.std.specs.Prelude as rust
use Rattle.std.specs.Prelude.{ℕ, suc, List, [], ◌∷◌, ◌++◌, Bool, true, false, cond, eqb, ltb, length, Some, None}
use Rattle.std.proofs.Math.Option.{Option, none, some}
use Rattle.octets.specs.Bytes.{Bytes, has}
use Rattle.places.specs.Places.{places, put_at}
use Rattle.report.specs.Report.{Report, sent}
use Rattle.kept.specs.Kept.{held}

-- A TABLE of what places count as: a report, or none, which is empty
abbrev pub Table : Type 0
Table = List (Option Report)

abbrev pub numbers : Table → List ℕ
numbers [] = []
numbers (none ∷ l) = numbers l
numbers (some r ∷ l) = r.number ∷ numbers l

-- the report of that number
abbrev pub find : ℕ → Table → Option Report
find n [] = none
find n (none ∷ l) = find n l
find n (some r ∷ l) = let later = find n l in cond (eqb r.number n) (some r) later

-- where it stands, counted from 0; behind the last place if there is none
abbrev pub place_of : ℕ → Table → ℕ
place_of n [] = 0
place_of n (none ∷ l) = suc (place_of n l)
place_of n (some r ∷ l) = let later = suc (place_of n l) in cond (eqb r.number n) 0 later

abbrev pub stands : ℕ → Table → rust.Option ℕ
stands n l = let i = place_of n l in cond (ltb i (length l)) (Some i) None

-- the first empty place, and whether there is none
abbrev pub first_empty : Table → ℕ
first_empty [] = 0
first_empty (none ∷ l) = 0
first_empty (some r ∷ l) = suc (first_empty l)

abbrev pub full : Table → Bool
full [] = true
full (none ∷ l) = false
full (some r ∷ l) = full l

-- the lowest of some numbers
abbrev pub least : ℕ → List ℕ → ℕ
least n [] = n
least n (m ∷ ms) = least (cond (ltb m n) m n) ms

abbrev pub lowest : List ℕ → ℕ
lowest [] = 0
lowest (n ∷ ns) = least n ns

-- "a new one takes the first empty place, else the lowest number's"
unfoldable pub takes : Table → ℕ
takes l = cond (full l) (place_of (lowest (numbers l)) l) (first_empty l)

-- The reports of a session between two CompIDs.
module _ (us them : Bytes) where
  -- "A place that doesn't hold one AE frame as our report call writes it counts as empty, as does the second of two with one number.": met are the numbers
  -- of the places before
  abbrev pub unless_met : Option Report → List ℕ → Option Report
  unless_met none met = none
  unless_met (some r) met = cond (has met r.number) none (some r)

  abbrev pub counted : List ℕ → List Bytes → Table
  counted met [] = []
  counted met (p ∷ ps) = let r = unless_met (held us them p) met in r ∷ counted (numbers (r ∷ []) ++ met) ps

  -- what each place of a store counts as
  unfoldable pub kept : Bytes → Table
  kept store = counted [] (places store)

  -- the store with one more report
  unfoldable pub keep : Report → Bytes → Bytes
  keep r store = put_at (takes (kept store)) (sent us them r) store
