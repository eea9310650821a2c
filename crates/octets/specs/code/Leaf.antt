-- What the functions on bytes answer. Only the code needs these: nothing here states document 01.
use Rattle.std.specs.Prelude.{◌≡◌, ℕ, ◌+◌, ◌-◌, ◌*◌, ◌%◌, ◌^◌, ◌<◌, ◌≤◌, Bool, true, false, length, take, drop, ◌≢◌, slice_index}
use Rattle.octets.specs.Bytes.{Bytes, sum, value, At, Digit}
use Rattle.octets.specs.declared.numbers.Num.{Num}
use Rattle.octets.specs.declared.sums.Sum.{Sum}

-- eight bytes as one number, the first one least
abbrev pub word_at : Bytes → ℕ → ℕ
word_at s i =
    slice_index s i
    + slice_index s (i + 1) * 256
    + slice_index s (i + 2) * 65536
    + slice_index s (i + 3) * 16777216
    + slice_index s (i + 4) * 4294967296
    + slice_index s (i + 5) * 1099511627776
    + slice_index s (i + 6) * 281474976710656
    + slice_index s (i + 7) * 72057594037927936

-- whether lit stands in s at p
pub record Standing (s : Bytes) (p : ℕ) (lit : Bytes) (r : Bool) : Type 0 where
  pub found : r ≡ true → At s p lit
  pub none : r ≡ false → At s p lit → ⊥

-- r bytes of lit, and not one more, stand in s from p on
pub record Matched (s : Bytes) (p : ℕ) (lit : Bytes) (r : ℕ) : Type 0 where
  pub within : p + r ≤ length s
  pub most : r ≤ length lit
  pub same : (i : ℕ) → i < r → slice_index s (p + i) ≡ slice_index lit i
  pub stop : r < length lit → p + r < length s → slice_index s (p + r) ≢ slice_index lit r

-- as many digits as are ever read in a row
abbrev pub digit_limit : ℕ
digit_limit = 12

-- c digits stand in s from p on, at most `most`, and no further one follows unless c is `most`; v is what they are worth
pub record Number (s : Bytes) (p most v c : ℕ) : Type 0 where
  pub within : p + c ≤ length s
  pub few : c ≤ most
  pub digits : (i : ℕ) → i < c → Digit (slice_index s (p + i))
  pub worth : v ≡ value (take c (drop p s))
  pub small : v < 10 ^ digit_limit
  pub stop : c < most → p + c < length s → Digit (slice_index s (p + c)) → ⊥

-- the same for every place and limit: none are read behind the end, and none where more than that are asked for
pub record Digits (s : Bytes) (p most : ℕ) (r : Num) : Type 0 where
  pub inside : p ≤ length s → most ≤ digit_limit → Number s p most r.value r.count
  pub behind : length s < p → (r.value ≡ 0) × (r.count ≡ 0)
  pub above : digit_limit < most → (r.value ≡ 0) × (r.count ≡ 0)

-- the total is the sum of the bytes before the place, modulo 2 ^ 64
abbrev pub Summed : Bytes → Sum → Type 0
Summed s r = r.total ≡ sum (take r.at s) % 2 ^ 64

-- the same, of as many times n bytes as s has
abbrev pub SummedBy : Bytes → ℕ → Sum → Type 0
SummedBy s n r = Summed s r × (r.at ≡ length s - length s % n)

-- the first place from a on, before e, at which the byte x stands; or e
pub record FirstByte (s : Bytes) (a e x r : ℕ) : Type 0 where
  pub low : a ≤ r
  pub high : r ≤ e
  pub none : (q : ℕ) → q < r → a ≤ q → slice_index s q ≢ x
  pub found : r < e → slice_index s r ≡ x

-- whether none of the n bytes from i on is x; nothing is said where the answer is no
abbrev pub Calm : Bytes → ℕ → ℕ → ℕ → Bool → Type 0
Calm s i n x r = r ≡ true → (k : ℕ) → k < n → slice_index s (i + k) ≢ x

-- x stands nowhere from a to r, a place before e or e itself
pub record CalmTo (s : Bytes) (a e x r : ℕ) : Type 0 where
  pub low : a ≤ r
  pub high : r ≤ e
  pub none : (q : ℕ) → q < r → a ≤ q → slice_index s q ≢ x

-- the next place from p on at which a row of bytes with the fifth byte x may begin: at none before it, since four bytes behind stands another byte
pub record NextStart (s : Bytes) (p x r : ℕ) : Type 0 where
  pub low : p ≤ r
  pub high : r ≤ length s
  pub inside : (q : ℕ) → q < r → p ≤ q → q + 4 < length s
  pub none : (q : ℕ) → q < r → p ≤ q → slice_index s (q + 4) ≢ x

-- lit stands whole in s between a and e
pub record Stands (s : Bytes) (a e : ℕ) (lit : Bytes) : Type 0 where
  pub place : ℕ
  pub low : a ≤ place
  pub high : place + length lit ≤ e
  pub there : At s place lit

-- it does at q
pub record Here (s : Bytes) (a e : ℕ) (lit : Bytes) (q : ℕ) : Type 0 where
  pub low : a ≤ q
  pub high : q + length lit ≤ e
  pub there : At s q lit

-- whether it does with its fifth byte at j
pub record Around (s : Bytes) (a e j : ℕ) (lit : Bytes) (r : Bool) : Type 0 where
  pub found : r ≡ true → (4 ≤ j) × Here s a e lit (j - 4)
  pub none : r ≡ false → (q : ℕ) → q + 4 ≡ j → a ≤ q → q + length lit ≤ e → At s q lit → ⊥

-- the first place at which it does, or e
pub record Searched (s : Bytes) (a e : ℕ) (lit : Bytes) (r : ℕ) : Type 0 where
  pub high : r ≤ e
  pub found : r < e → Here s a e lit r
  pub none : (q : ℕ) → q < r → a ≤ q → q + length lit ≤ e → At s q lit → ⊥
