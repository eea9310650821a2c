-- How far the walk over a candidate's parts has come, and what one step of it answers. Only the code's walk needs these: nothing here
-- states document 01.
use Rattle.std.specs.Prelude.{ℕ, ◌+◌, ◌-◌, ◌≤◌, ◌<◌, ◌≡◌, ◌∷◌, ◌++◌, length, drop, Result, Ok, Err}
use Rattle.octets.specs.Bytes.{Bytes, value, At}
use Rattle.frame.specs.Frame.{Rule, Length, Body, GoodAt, Live, front}
use Rattle.frame.specs.Reading.{refusal, Leftmost, Reads}
use Rattle.frame.specs.declared.parts.Stop.{Stop}
use Rattle.frame.specs.declared.parts.Stop.TheVariants.{Short, Wrong}

-- the mark stands at p, and a is behind it
pub record MarkSeen (R : Rule) (s : Bytes) (p a : ℕ) : Type 0 where
  pub from : p ≤ length s
  pub within : a ≤ length s
  pub split : drop p s ≡ R.mark ++ drop a s

-- the mark and a body length of n stand at p, and a is behind its `|`
pub record SizeSeen (R : Rule) (s : Bytes) (p a n : ℕ) : Type 0 where
  pub within : a ≤ length s
  pub digits : Bytes
  pub split : drop p s ≡ R.mark ++ (digits ++ (1 ∷ drop a s))
  pub len : Length R digits
  pub worth : n ≡ value digits

-- the mark, a body length and a body with no mark in it stand at p, and a is behind the body
pub record BodySeen (R : Rule) (s : Bytes) (p a : ℕ) : Type 0 where
  pub within : a ≤ length s
  pub digits : Bytes
  pub body : Bytes
  pub split : drop p s ≡ front R digits body ++ drop a s
  pub len : Length R digits
  pub inner : Body (value digits) body
  pub free : (q : ℕ) → At body q R.mark → ⊥

-- live, and not yet whole
pub record Open (R : Rule) (s : Bytes) (p : ℕ) : Type 0 where
  pub live : Live R s p
  pub past : length s < p + live.size

-- a good frame from p to e
pub record Ended (R : Rule) (s : Bytes) (p e : ℕ) : Type 0 where
  pub from : p ≤ e
  pub to : e ≤ length s
  pub good_at : GoodAt R s p (e - p)

-- no position from p to n is live
pub record Past (R : Rule) (s : Bytes) (p n : ℕ) : Type 0 where
  pub from : p < n
  pub to : n ≤ length s
  pub none : (q : ℕ) → q < n → p ≤ q → Live R s q → ⊥

-- what looking at a part of a candidate at p answers; Seen says what is known behind the part
abbrev pub Stepped : {A : Type 0} → Rule → Bytes → ℕ → (A → Type 0) → Result A Stop → Type 0
Stepped R s p Seen (Ok a) = Seen a
Stepped R s p Seen (Err Short) = Open R s p
Stepped R s p Seen (Err (Wrong n)) = Past R s p n

-- and behind the last part: the frame's end
abbrev pub Told : Rule → Bytes → ℕ → Result ℕ Stop → Type 0
Told R s p x = Stepped R s p (Ended R s p) x

-- what the search answers: the length of the frame behind the first `at` bytes, or 0 under refusal 1, since no good frame is empty
pub record FoundAt (R : Rule) (s : Bytes) (n at : ℕ) : Type 0 where
  pub frame : 0 < n → Leftmost R s at n
  pub none : n ≡ 0 → Reads R s (refusal 1 at)
