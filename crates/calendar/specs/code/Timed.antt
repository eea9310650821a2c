-- A time by its places, as the code reads it. Only the code needs this: nothing here states a document.
use Rattle.std.specs.Prelude.{ℕ, ◌≤◌, ◌<◌, ◌≡◌, true, length, take, drop}
use Rattle.octets.specs.Bytes.{Bytes, all, digit}
use Rattle.dates.specs.Date.{number_at}

-- digits alone, n of them from place i on
abbrev pub digits_at : ℕ → ℕ → Bytes → Type 0
digits_at i n v = all digit (take n (drop i v)) ≡ true

-- a time: its digits, and those of its decimals by its length
pub record Timed (v : Bytes) : Type 0 where
  pub long : 17 ≤ length v
  pub year : digits_at 0 4 v
  pub month : digits_at 4 2 v
  pub day : digits_at 6 2 v
  pub hour : digits_at 9 2 v
  pub minute : digits_at 12 2 v
  pub second : digits_at 15 2 v
  pub six : length v ≡ 24 → digits_at 18 6 v
  pub three : length v ≡ 21 → digits_at 18 3 v
  pub else_none : (length v ≡ 24 → ⊥) → (length v ≡ 21 → ⊥) → length v ≡ 17

-- r is the number that they write, at most six of them
pub record NumberAt (v : Bytes) (i n r : ℕ) : Type 0 where
  pub is : r ≡ number_at i n v
  pub small : r < 1_000_000
