-- Reading a whole stream, and reading it in pieces.
use Rattle.std.specs.Prelude.{ℕ, ◌+◌, List, [], ◌∷◌, ◌++◌, take, drop}
use Rattle.octets.specs.Bytes.{Bytes}
use Rattle.frame.specs.Frame.{Rule}
use Rattle.frame.specs.Reading.{frame, refusal, Reads}

-- "Reading a whole stream repeats this behind each frame; an unfinished rest at the end gives nothing."
pub data Frames (R : Rule) : Bytes → List Bytes → Type 0 where
  rest : {s : Bytes} (d : ℕ) → Reads R s (refusal 1 d) → Frames R s []
  next : {s : Bytes} {fs : List Bytes} (p n : ℕ) → Reads R s (frame p n) → Frames R (drop (p + n) s) fs → Frames R s (take n (drop p s) ∷ fs)

-- "reads and drops until refusal 1, and keeps what isn't dropped": of s, the frames handed out and what is kept
pub data Drained (R : Rule) : Bytes → List Bytes → Bytes → Type 0 where
  keep : {s : Bytes} (d : ℕ) → Reads R s (refusal 1 d) → Drained R s [] (drop d s)
  hand : {s : Bytes} {fs : List Bytes} {r : Bytes} (p n : ℕ) → Reads R s (frame p n) → Drained R (drop (p + n) s) fs r → Drained R s (take n (drop p s) ∷ fs) r

-- "Reading in pieces puts each piece (it may be empty) behind the pending rest, reads and drops until refusal 1, and keeps what isn't dropped":
-- from a pending rest, through the pieces, the frames that come out while each of them is worked off, and the rest at the end
pub data Fed (R : Rule) : Bytes → List Bytes → List (List Bytes) → Bytes → Type 0 where
  end : {r : Bytes} → Fed R r [] [] r
  piece : {r r' r'' x : Bytes} {xs fs : List Bytes} {fss : List (List Bytes)} → Drained R (r ++ x) fs r' → Fed R r' xs fss r'' → Fed R r (x ∷ xs) (fs ∷ fss) r''

-- pieces put together again, and the frames of all pieces in one row
abbrev pub joined : {A : Type 0} → List (List A) → List A
joined [] = []
joined (x ∷ xs) = x ++ joined xs
