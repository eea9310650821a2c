-- The plan of a replay (document 02, Q-4): what goes out, message by message, and the numbers that it covers.
use Rattle.std.specs.Prelude.{ℕ, zero, suc, ◌+◌, ◌-◌, ◌≤◌, ◌≡◌, List, [], ◌∷◌, map, cond, ◌&&◌, leb, ltb}
use Rattle.std.proofs.Math.Option.{Option, none, some}
use Rattle.frame.specs.Stream.{joined}
use Rattle.report.specs.Report.{Report}
use Rattle.store.specs.Store.{Table, numbers, find}

-- "each kept report goes out again .., and each longest run of other numbers becomes one gap fill"
pub data Item : Type 0 where
  Again : Report → Item
  Fill : ℕ → ℕ → Item  -- from one number to another, both included

abbrev pub begins : Item → ℕ
begins (Again r) = r.number
begins (Fill b e) = b

abbrev pub ends : Item → ℕ
ends (Again r) = r.number
ends (Fill b e) = e

-- n, n + 1, .., k numbers
abbrev pub upward : ℕ → ℕ → List ℕ
upward n zero = []
upward n (suc k) = n ∷ upward (n + 1) k

-- the numbers from a to b, both included
abbrev pub range : ℕ → ℕ → List ℕ
range a b = upward a (b + 1 - a)

-- the numbers that an item covers
abbrev pub covered : Item → List ℕ
covered i = range (begins i) (ends i)

-- how far a run of other numbers goes that begins at n: to one below the next kept number, or to the end
abbrev pub run_to : ℕ → ℕ → List ℕ → ℕ
run_to n end [] = end
run_to n end (m ∷ ms) = let e = run_to n end ms in cond (ltb n m && leb m e) (m - 1) e

-- The kept reports, and the last number asked for.
module _ (kept : Table) (end : ℕ) where
  abbrev pub or_fill : ℕ → Option Report → Item
  or_fill n none = Fill n (run_to n end (numbers kept))
  or_fill n (some r) = Again r

  -- what goes out at the number n
  unfoldable pub item : ℕ → Item
  item n = or_fill n (find n kept)

  -- "served in number order": at most k items from the number n on
  abbrev pub items : ℕ → ℕ → List Item
  items zero n = []
  items (suc k) n = let rest = item n ∷ items k (ends (item n) + 1) in cond (ltb end n) [] rest

  -- the plan of a replay from `at`
  unfoldable pub plan : ℕ → List Item
  plan at = items (end + 1 - at) at

  -- a longest run of numbers that are not kept, in a replay from `at`
  pub record Run (at b e : ℕ) : Type 0 where
    pub filled : b ≤ e
    pub others : (n : ℕ) → b ≤ n → n ≤ e → find n kept ≡ none
    -- it cannot begin earlier, and not go further
    pub from : find (b - 1) kept ≡ none → b ≡ at
    pub to : find (e + 1) kept ≡ none → e ≡ end

  abbrev pub Right : ℕ → Item → Type 0
  Right at (Again r) = find r.number kept ≡ some r
  Right at (Fill b e) = Run at b e

  abbrev pub AllRight : ℕ → List Item → Type 0
  AllRight at [] = Unit {0}
  AllRight at (i ∷ is) = Right at i × AllRight at is

  pub record Planned (at : ℕ) : Type 0 where
    -- "a finished replay's numbers cover the requested range exactly, each once": they are its numbers, in order
    pub covers : joined (map covered (plan at)) ≡ range at end
    -- "each kept report .., and each longest run of other numbers .."
    pub right : AllRight at (plan at)
