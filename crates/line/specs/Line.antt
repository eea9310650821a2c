-- A line buffer that the host lends, the two calls that change it, and the host's loop over these calls and the reading.
use Rattle.std.specs.Prelude.{ℕ, ◌+◌, ◌-◌, ◌≤◌, ◌<◌, ◌≡◌, List, [], ◌∷◌, ◌++◌, true, false, cond, leb, length, take, drop}
use Rattle.octets.specs.Bytes.{Bytes, byte, has}
use Rattle.frame.specs.Frame.{Rule}
use Rattle.frame.specs.Reading.{frame, refusal, Reads}

-- the lent bytes, and how many of them, from the first, are pending
pub record Line : Type 0 where
  pub buffer : Bytes
  pub held : ℕ

abbrev pub line : Bytes → ℕ → Line
line buffer held = record { buffer = buffer; held = held }

abbrev pub pending : Line → Bytes
pending l = take l.held l.buffer

-- Put a piece behind the pending rest: as much as fits. (With a count that is not within the buffer nothing fits.)
abbrev pub room : Line → ℕ
room l = length l.buffer - l.held

abbrev pub fitting : Line → Bytes → ℕ
fitting l x = cond (leb (length x) (room l)) (length x) (room l)

unfoldable pub put : Line → Bytes → Line
put l x =
    record {
      buffer = take l.held l.buffer ++ take (fitting l x) x ++ drop (l.held + fitting l x) l.buffer;
      held = l.held + fitting l x;
    }

-- Drop n bytes from the front: what is behind them moves to the front, and the bytes behind that stay as they are.
unfoldable pub dropped : Line → ℕ → Line
dropped l n =
    record {
      buffer = drop n (pending l) ++ drop (length (pending l) - n) l.buffer;
      held = length (pending l) - n;
    }

-- What the two calls answer and leave, with every byte of the buffer: how many bytes were put, and how many are then pending.
abbrev pub Puts : Bytes → ℕ → Bytes → ℕ → Bytes → Type 0
Puts buffer held piece count left = line left (held + count) ≡ put (line buffer held) piece

abbrev pub Drops : Bytes → ℕ → ℕ → ℕ → Bytes → Type 0
Drops buffer held n still left = line left still ≡ dropped (line buffer held) n

-- The host reads what is pending and drops, until refusal 1.
pub data Worked (R : Rule) : Line → List Bytes → Line → Type 0 where
  keep : {l : Line} (d : ℕ) → Reads R (pending l) (refusal 1 d) → Worked R l [] (dropped l d)
  hand : {l l' : Line} {fs : List Bytes} (p n : ℕ) → Reads R (pending l) (frame p n) → Worked R (dropped l (p + n)) fs l' → Worked R l (take n (drop p (pending l)) ∷ fs) l'

-- The host's loop for one piece: put what fits, work it off, and go on with what is left of the piece.
pub data Taken (R : Rule) : Line → Bytes → List Bytes → Line → Type 0 where
  all : {l l' : Line} {x : Bytes} {fs : List Bytes} → length x ≤ room l → Worked R (put l x) fs l' → Taken R l x fs l'
  some : {l l' l'' : Line} {x : Bytes} {fs gs : List Bytes} → room l < length x → Worked R (put l x) fs l' → Taken R l' (drop (fitting l x) x) gs l'' → Taken R l x (fs ++ gs) l''

-- The host's loop for a row of pieces, with the frames that came out while each was worked off.
pub data Hosted (R : Rule) : Line → List Bytes → List (List Bytes) → Line → Type 0 where
  end : {l : Line} → Hosted R l [] [] l
  piece : {l l' l'' : Line} {x : Bytes} {xs fs : List Bytes} {fss : List (List Bytes)} → Taken R l x fs l' → Hosted R l' xs fss l'' → Hosted R l (x ∷ xs) (fs ∷ fss) l''

-- The loop of docs/HOST.md spares readings: a good frame ends with `|`, so the host works off what it put only where that holds one or fills the
-- buffer. For one piece,
pub data TakenSparing (R : Rule) : Line → Bytes → List Bytes → Line → Type 0 where
  unread : {l : Line} {x : Bytes} → length x < room l → has x (byte "|") ≡ false → TakenSparing R l x [] (put l x)
  read : {l l' : Line} {x : Bytes} {fs : List Bytes} → length x < room l → has x (byte "|") ≡ true → Worked R (put l x) fs l' → TakenSparing R l x fs l'
  full : {l l' l'' : Line} {x : Bytes} {fs gs : List Bytes} → room l ≤ length x → Worked R (put l x) fs l' → TakenSparing R l' (drop (fitting l x) x) gs l'' → TakenSparing R l x (fs ++ gs) l''

-- and for a row of pieces, with the frames that came out while each was taken.
pub data HostedSparing (R : Rule) : Line → List Bytes → List (List Bytes) → Line → Type 0 where
  end : {l : Line} → HostedSparing R l [] [] l
  piece : {l l' l'' : Line} {x : Bytes} {xs fs : List Bytes} {fss : List (List Bytes)} → TakenSparing R l x fs l' → HostedSparing R l' xs fss l'' → HostedSparing R l (x ∷ xs) (fs ∷ fss) l''
