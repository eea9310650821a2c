-- What the frame layer promises, in document 01's words, over a rule R: one reading, the frames of a stream, demand 3, every cutting, bytes without `|`,
-- the longest frame and the pending rest.
--
-- Shown in proofs/Promise.antt for every rule whose mark is as specs/Mark.antt asks, and so for `8=FIXT.1.1|9=` and `8=FIX.4.2|9=`. Of the way in which the
-- body length is written nothing is asked: all of this holds for every greatest number of digits, with zeros in front or without. One field has a premise on
-- it: there is a frame of the longest length where 2,048 can be written in as many digits as there may be.
use Rattle.std.specs.Prelude.{ℕ, suc, ◌+◌, ◌-◌, ◌≤◌, ◌<◌, ◌≡◌, ◌⊎◌, List, [], ◌∷◌, ◌++◌, false, length, take, drop, get_or}
use Rattle.octets.specs.Bytes.{Bytes, byte, has, value}
use Rattle.frame.specs.Frame.{Rule, fixt, longest_body, Length, Good, GoodAt, longest}
use Rattle.frame.specs.Reading.{Answer, refusal, Reads}
use Rattle.frame.specs.Stream.{Frames, Fed, joined}

-- There is one, and any two are the same.
pub record ExactlyOne {A : Type 0} (Such : A → Type 0) : Type 0 where
  pub it : A
  pub is : Such it
  pub same : (a b : A) → Such a → Such b → a ≡ b

-- TWO GOOD FRAMES, of n bytes at p and of m bytes at q
abbrev pub SameFrame : ℕ → ℕ → ℕ → ℕ → Type 0
SameFrame p n q m = (p ≡ q) × (n ≡ m)

abbrev pub NoOverlap : ℕ → ℕ → ℕ → ℕ → Type 0
NoOverlap p n q m = (p + n ≤ q) ⊎ (q + m ≤ p)

pub record FramesApart (R : Rule) : Type 0 where
  -- "Slips to shut out. Taking a length at its word and swallowing the next frame": two good frames in one byte string are the same or do not
  -- overlap,
  pub apart : {s : Bytes} {p n q m : ℕ} → GoodAt R s p n → GoodAt R s q m → SameFrame p n q m ⊎ NoOverlap p n q m
  -- and no good frame is a proper beginning of another
  pub no_beginning : (g t : Bytes) → Good R g → Good R (g ++ t) → t ≡ []

-- A WHOLE STREAM
pub record WholeStream (R : Rule) : Type 0 where
  -- "Reading a whole stream repeats this behind each frame; an unfinished rest at the end gives nothing": it gives exactly one list
  pub one_list : (s : Bytes) → ExactlyOne (λ (fs : List Bytes). Frames R s fs)
  -- Demand 3: "Any bytes, one good frame, any bytes: the frames of the whole are those of the front by itself, this frame, those of the back by
  -- itself."
  pub around : (a g b : Bytes) {fs gs : List Bytes} → Good R g → Frames R a fs → Frames R b gs → Frames R (a ++ (g ++ b)) (fs ++ (g ∷ gs))

-- A STREAM IN PIECES
-- the pieces xs are any bytes a, the bytes g and any bytes b, and the last byte of g is in piece k, counted from 0
pub record EndsIn (xs : List Bytes) (k : ℕ) (a g b : Bytes) : Type 0 where
  pub stream : joined xs ≡ a ++ (g ++ b)
  pub not_before : length (joined (take k xs)) < length a + length g
  pub by_then : length a + length g ≤ length (joined (take (suc k) xs))

-- g comes out while piece k is worked off: behind exactly the frames of what stands before it
pub record ComesOut (R : Rule) (fss : List (List Bytes)) (k : ℕ) (a g : Bytes) : Type 0 where
  pub before : List Bytes
  pub after : List Bytes
  pub here : get_or fss k [] ≡ before ++ (g ∷ after)
  pub behind : Frames R a (joined (take k fss) ++ before)

pub record InPieces (R : Rule) : Type 0 where
  -- "Reading in pieces puts each piece (it may be empty) behind the pending rest, reads and drops until refusal 1, and keeps what isn't dropped":
  -- every cutting gives exactly one row of frames for each piece, and one rest
  pub one_outcome : (xs : List Bytes) → ExactlyOne (λ (o : List (List Bytes) × Bytes). Fed R [] xs o.0 o.1)
  -- "for every cutting the frames and their order are those of the whole"
  pub whole : {xs : List Bytes} {fss : List (List Bytes)} {r : Bytes} → Fed R [] xs fss r → Frames R (joined xs) (joined fss)
  -- after each piece exactly the frames of all bytes so far have come out
  pub so_far : {xs : List Bytes} {fss : List (List Bytes)} {r : Bytes} → Fed R [] xs fss r → (k : ℕ) → Frames R (joined (take k xs)) (joined (take k fss))
  -- Demand 3: "However the stream is cut, the good frame comes out while the piece with its last byte is worked off",
  pub comes_out : {xs : List Bytes} {fss : List (List Bytes)} {r : Bytes} → Fed R [] xs fss r → (k : ℕ) (a g b : Bytes) → Good R g → EndsIn xs k a g b → ComesOut R fss k a g
  -- and there is such a piece
  pub some_piece : (xs : List Bytes) (a g b : Bytes) → Good R g → joined xs ≡ a ++ (g ++ b) → (k : ℕ) × EndsIn xs k a g b

-- BYTES WITHOUT `|`
-- A good frame ends with `|`, so bytes x that hold none end no frame: a host need not read when they come.
pub record WithoutBar (R : Rule) : Type 0 where
  -- where a reading gave refusal 1, with d bytes to drop, it gives refusal 1 again when x has come: behind all that was read, and behind what is left of
  -- it once these d bytes are dropped, where e more are to be dropped;
  pub refused_again : (s x : Bytes) (d : ℕ) → Reads R s (refusal 1 d) → has x (byte "|") ≡ false → (e : ℕ) × (Reads R (s ++ x) (refusal 1 (d + e)) × Reads R (drop d s ++ x) (refusal 1 e))
  -- so the host may as well read x together with the next piece y: while x is worked off nothing comes out, while y is what comes out of both together,
  -- and the same rest is kept
  pub with_the_next : {r r' : Bytes} {xs : List Bytes} {fss : List (List Bytes)} {d : ℕ} (x y : Bytes) → Reads R r (refusal 1 d) → has x (byte "|") ≡ false → Fed R r ((x ++ y) ∷ xs) fss r' → Fed R r (x ∷ y ∷ xs) ([] ∷ fss) r'

-- THE LONGEST FRAME
pub record LongestFrame (R : Rule) : Type 0 where
  -- "The longest frame is 2,073 bytes", and document 02: "The longest frame becomes 2,075 bytes": no good frame is longer,
  pub none_longer : (g : Bytes) → Good R g → length g ≤ longest R
  -- and one is as long, with the body length written in all the digits that it may have
  pub attained : (digits : Bytes) → Length R digits → length digits ≡ R.size.most → value digits ≡ longest_body → (g : Bytes) × Good R g × (length g ≡ longest R)

-- THE PENDING REST
pub record PendingRest (R : Rule) : Type 0 where
  -- "Under refusal 1 at most 2,072 bytes stay pending", and document 02: "the pending rest 2,074": under every refusal 1,
  pub refused : (s : Bytes) (d : ℕ) → Reads R s (refusal 1 d) → length s - d ≤ longest R - 1
  -- and behind every piece
  pub kept : {xs : List Bytes} {fss : List (List Bytes)} {r : Bytes} → Fed R [] xs fss r → length r ≤ longest R - 1

-- THE WHOLE PROMISE
pub record Promise (R : Rule) : Type 0 where
  -- "One reading of a byte string gives: the leftmost good frame ..; else refusal 1 ..": every byte string has exactly one reading
  pub one_reading : (s : Bytes) → ExactlyOne (λ (a : Answer). Reads R s a)
  pub frames_apart : FramesApart R
  pub whole_stream : WholeStream R
  pub in_pieces : InPieces R
  pub without_bar : WithoutBar R
  pub longest_frame : LongestFrame R
  pub pending_rest : PendingRest R

-- ITS NUMBERS for `8=FIXT.1.1|9=`
pub record FixtNumbers : Type 0 where
  -- "The longest frame becomes 2,075 bytes and the pending rest 2,074."
  pub none_longer : (g : Bytes) → Good fixt g → length g ≤ 2075
  pub attained : (g : Bytes) × Good fixt g × (length g ≡ 2075)
  pub refused : (s : Bytes) (d : ℕ) → Reads fixt s (refusal 1 d) → length s - d ≤ 2074
