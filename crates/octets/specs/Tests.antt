-- Tests of numbers, in words.
use Rattle.std.specs.Prelude.{ℕ, Bool, ◌==◌, nat_le, nat_lt}

infix 80 ◌=?◌
infix 80 ◌<?◌
infix 80 ◌≤?◌
abbrev pub ◌=?◌ : ℕ → ℕ → Bool
◌=?◌ m n = m == n

abbrev pub ◌<?◌ : ℕ → ℕ → Bool
◌<?◌ m n = nat_lt m n

abbrev pub ◌≤?◌ : ℕ → ℕ → Bool
◌≤?◌ m n = nat_le m n
