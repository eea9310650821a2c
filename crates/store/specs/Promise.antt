-- WHAT IS PROMISED OF A STORE, whatever bytes it has: a report that is kept is found again, it takes no other's place while one is empty, and from a zeroed
-- store on the last 64 are kept; and the plan of a replay covers its numbers, each once.
use Rattle.std.specs.Prelude.{ℕ, ◌-◌, ◌+◌, ◌≤◌, ◌<◌, ◌≡◌, List, [], ◌∷◌, map, true, false, length, drop}
use Rattle.std.proofs.Math.Option.{none, some}
use Rattle.octets.specs.Bytes.{Bytes}
use Rattle.places.specs.Places.{is_store, zeroed}
use Rattle.report.specs.Values.{Values}
use Rattle.report.specs.Report.{Report, sendable}
use Rattle.store.specs.Store.{Table, numbers, find, full, lowest, kept, keep}
use Rattle.store.specs.Plan.{Planned}
use Rattle.store.specs.Cases.{Cases}

-- A REPORT r that our call can write, of a number that is not kept yet, behind `keep`
pub record Keeps (us them : Bytes) (r : Report) (store : Bytes) : Type 0 where
  -- it is still a store, ..
  pub whole : is_store (keep us them r store) ≡ true
  -- .. the report is found under its number, ..
  pub new : find r.number (kept us them (keep us them r store)) ≡ some r
  -- .. and each other as before: all while a place is empty, and in a full store all but the lowest, which is gone
  pub others : full (kept us them store) ≡ false → (n : ℕ) → (n ≡ r.number → ⊥) → find n (kept us them (keep us them r store)) ≡ find n (kept us them store)
  pub higher : full (kept us them store) ≡ true → (n : ℕ) → (n ≡ r.number → ⊥) → (n ≡ lowest (numbers (kept us them store)) → ⊥)
      → find n (kept us them (keep us them r store)) ≡ find n (kept us them store)
  pub lowest_gone : full (kept us them store) ≡ true → find (lowest (numbers (kept us them store))) (kept us them (keep us them r store)) ≡ none

-- THE LAST 64: reports that are kept one behind the other, their numbers rising
abbrev pub keep_all : Bytes → Bytes → List Report → Bytes → Bytes
keep_all us them [] store = store
keep_all us them (r ∷ rs) store = keep_all us them rs (keep us them r store)

abbrev pub AllSendable : Bytes → Bytes → List Report → Type 0
AllSendable us them [] = Unit {0}
AllSendable us them (r ∷ rs) = (sendable us them r ≡ true) × AllSendable us them rs

abbrev pub Above : ℕ → List Report → Type 0
Above n [] = Unit {0}
Above n (r ∷ rs) = (n < r.number) × Above r.number rs

-- the last 64 of some reports, as a table
abbrev pub last64 : List Report → Table
last64 rs = map some (drop (length rs - 64) rs)

pub record Promise : Type 0 where
  pub keeps : (us them : Bytes) (r : Report) (store : Bytes) → is_store store ≡ true → sendable us them r ≡ true → find r.number (kept us them store) ≡ none → Keeps us them r store
  -- "a host lends a new session a zeroed one": it keeps nothing, and behind rising reports exactly the last 64, each whole
  pub zeroed_none : (us them store : Bytes) → is_store store ≡ true → (n : ℕ) → find n (kept us them (zeroed store)) ≡ none
  pub last : (us them store : Bytes) (rs : List Report) → is_store store ≡ true → AllSendable us them rs → Above 0 rs
      → (n : ℕ) → find n (kept us them (keep_all us them rs (zeroed store))) ≡ find n (last64 rs)
  -- whatever is kept
  pub planned : (table : Table) (end at : ℕ) → at ≤ end + 1 → Planned table end at
  -- worked cases
  pub cases : (v : Values) → Cases v
