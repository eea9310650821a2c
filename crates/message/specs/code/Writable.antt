-- The values of a kind that can be written: how long they are, and which are not. Only the code needs these: nothing here states document 01.
use Rattle.std.specs.Prelude.{ℕ, max, List, [], ◌∷◌, Bool, not, ◌||◌, eqb, length}
use Rattle.octets.specs.Bytes.{Bytes, has, decimal}
use Rattle.dates.specs.Date.{shapes}
use Rattle.kinds.specs.Kind as Words
use Rattle.kinds.specs.Kind.{Kind, text, number◌to◌, Y/N, time, day, among, formed, allowed}

abbrev pub longest : List Bytes → ℕ
longest [] = 0
longest (w ∷ l) = max (length w) (longest l)

-- how long a value of a kind can be, where a number up to b has at most `digits b` digits
abbrev pub most : (ℕ → ℕ) → Kind → ℕ
most digits (text n) = n
most digits (number a to b) = digits b
most digits Y/N = 1
most digits time = longest shapes
most digits day = 8
most digits Words.decimal = 16
most digits (among l) = longest l

-- a number as it may be read, zeros in front among its digits, and as it is written: without
abbrev pub as_read : ℕ → ℕ
as_read b = 12

abbrev pub as_written : ℕ → ℕ
as_written b = length (decimal b)

-- the bytes of a value of a kind are not to be written: rejected, but for the message
unfoldable pub unwritten : Kind → Bytes → Bool
unwritten k v = eqb (length v) 0 || has v 1 || not (formed k v) || not (allowed k v)
