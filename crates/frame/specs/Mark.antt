-- What a start mark must be like, so that the parts of a frame make no second one by chance and no two good frames overlap.
-- Shown by computation of `8=FIXT.1.1|9=` and of `8=FIX.4.2|9=` (proofs/Marks.antt).
use Rattle.std.specs.Prelude.{ℕ, ◌+◌, ◌-◌, ◌≤◌, ◌<◌, ◌≡◌, length, get_or}
use Rattle.octets.specs.Bytes.{Bytes, Digit}

pub record MarkOk (m : Bytes) : Type 0 where
  -- it is made of bytes
  pub bytes : (i : ℕ) → i < length m → get_or m i 0 < 256
  -- it is longer than the trailer
  pub long : 8 ≤ length m
  -- its first eight bytes and its last eight are all of it: two numbers to compare
  pub short : length m ≤ 16
  -- its first byte is no `|` and does not come again: no mark begins inside a mark
  pub first : get_or m 0 0 ≡ 1 → ⊥
  pub alone : (i : ℕ) → i < length m → 0 < i → get_or m i 0 ≡ get_or m 0 0 → ⊥
  -- its second byte is neither `|` nor a digit: no mark begins in the length's digits, and no frame ends at its second byte
  pub second : get_or m 1 0 ≡ 1 → ⊥
  pub second_digit : Digit (get_or m 1 0) → ⊥
  -- it doesn't end in `|`: a body that is filled up with `|` gets no mark by that
  pub last : get_or m (length m - 1) 0 ≡ 1 → ⊥
  -- no `|` in it is followed by `1`: no mark lies across the body's end and `10=`
  pub soh : (i : ℕ) → i < length m → get_or m i 0 ≡ 1 → get_or m (i + 1) 0 ≡ 49 → ⊥
  -- no `|` in it comes two bytes behind a digit: the end `ddd|` of a frame is no beginning of a mark
  pub end : (i : ℕ) → i < length m → get_or m (i + 2) 0 ≡ 1 → Digit (get_or m i 0) → ⊥
