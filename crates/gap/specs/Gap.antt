-- THE GAP between what a peer has sent and what has come (document 02, Q-5): what asks for it, what raises its highest number, what closes it.
use Rattle.std.specs.Prelude.{ℕ, ◌-◌, max, Bool, not, ◌&&◌, ◌||◌, if◌then◌else◌}
use Rattle.octets.specs.Bytes.{within}
use Rattle.octets.specs.Tests.{◌=?◌, ◌<?◌, ◌≤?◌}

-- "The session record shall hold whether a gap is open, for which expected number, the highest number seen, and when it was last asked for."
pub record Gap : Type 0 where
  pub is_open : ℕ  -- 1, or 0 where none is
  pub for : ℕ
  pub highest : ℕ
  pub asked : ℕ

abbrev pub no_gap : Gap
no_gap = record { is_open = 0; for = 0; highest = 0; asked = 0 }

abbrev pub opened : Gap → Bool
opened g = g.is_open =? 1

-- the "10 seconds", in the clock's microseconds
abbrev pub re_ask : ℕ
re_ask = 10_000_000

-- "or 10 seconds have passed on the step's clock; a clock that went back counts as passed"
unfoldable pub passed : ℕ → ℕ → Bool
passed asked t = t <? asked || re_ask ≤? (t - asked)

-- ASKING at the time t: "A too-high frame asks only if no gap is open, or E has moved since, or 10 seconds have passed"
unfoldable pub asks : ℕ → ℕ → Gap → Bool
asks t E g = not (opened g) || not (g.for =? E) || passed g.asked t

-- RAISING: "the highest number seen", by every frame N that is too high, whether it asks or not
abbrev pub highest_with : ℕ → Gap → ℕ
highest_with N g = max g.highest N

-- the gap behind a frame N that asked for E, and behind one that did not
abbrev pub asked_for : ℕ → ℕ → ℕ → Gap → Gap
asked_for t E N g = record { is_open = 1; for = E; highest = highest_with N g; asked = t }

abbrev pub seen : ℕ → Gap → Gap
seen N g = record { is_open = g.is_open; for = g.for; highest = highest_with N g; asked = g.asked }

-- CLOSING: "E above the highest seen closes it"
unfoldable pub unless_past : ℕ → Gap → Gap
unless_past E g = if g.highest <? E then no_gap else g

-- THE RANGES
-- document 01: "numbers 1 to 999,999,999"
abbrev pub numbered : ℕ → Bool
numbered n = within 1 999_999_999 n

-- "Under refusal 11 an open gap's two numbers are 1 to 999,999,999; with none open all three are 0."
unfoldable pub bounded : Gap → Bool
bounded g =
    if opened g
    then numbered g.for && numbered g.highest
    else g.is_open =? 0 && g.for =? 0 && g.highest =? 0 && g.asked =? 0
