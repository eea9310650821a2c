-- One reading of a byte string: what it answers, and what document 01 allows it to answer.
use Rattle.std.specs.Prelude.{ℕ, ◌<◌, ◌≡◌, ◌⊎◌, length, take, drop, Result, Ok, Err}
use Rattle.octets.specs.Bytes.{Bytes}
use Rattle.frame.specs.Frame.{Rule, GoodAt, Live}
use Rattle.frame.specs.declared.Found.{Found}
use Rattle.frame.specs.declared.Part.{Part}
use Rattle.frame.specs.declared.NoFrame.{NoFrame}

-- An answer in this paper's numbers: a frame, with the bytes skipped and its length; or a refusal, with its number and the bytes to drop.
pub data Answer : Type 0 where
  frame : ℕ → ℕ → Answer
  refusal : ℕ → ℕ → Answer

-- this paper's number and values for what the code answers
abbrev pub numbers : Result Found NoFrame → Answer
numbers (Ok f) = frame f.skip f.len
numbers (Err e) = refusal 1 e.drop

-- "the leftmost good frame that lies in it whole, with the number of bytes skipped before it"
pub record Leftmost (R : Rule) (s : Bytes) (p n : ℕ) : Type 0 where
  pub here : GoodAt R s p n
  pub left : (q m : ℕ) → q < p → GoodAt R s q m → ⊥

-- "else refusal 1, with the smallest live position as the number of bytes to drop, or the whole length if no position is live"
pub record Unfinished (R : Rule) (s : Bytes) (d : ℕ) : Type 0 where
  pub none : (q m : ℕ) → GoodAt R s q m → ⊥
  pub dead : (q : ℕ) → q < d → Live R s q → ⊥
  pub stop : (d ≡ length s) ⊎ ((d < length s) × Live R s d)

-- "One reading of a byte string gives: .. else refusal 1"
abbrev pub Reads : Rule → Bytes → Answer → Type 0
Reads R s (frame skip len) = Leftmost R s skip len
Reads R s (refusal number drop) = (number ≡ 1) × Unfinished R s drop

-- the same for what the code answers
abbrev pub ReadsAs : Rule → Bytes → Result Found NoFrame → Type 0
ReadsAs R s r = Reads R s (numbers r)

-- "the frame is handed out as that part of the caller's bytes": f is the part of s behind the bytes that are skipped
pub record HandedOut (R : Rule) (s f : Bytes) (skip : ℕ) : Type 0 where
  pub part : f ≡ take (length f) (drop skip s)
  pub reads : Reads R s (frame skip (length f))

abbrev pub Handed : Rule → Bytes → Result Part NoFrame → Type 0
Handed R s (Ok p) = HandedOut R s p.frame.now p.skip
Handed R s (Err e) = Reads R s (refusal 1 e.drop)
