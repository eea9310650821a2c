-- Bytes as text, tests on bytes, and numbers in decimal digits: the words that every other page is written with.
-- Nothing here is about one frame, one tag or one message.
use Rattle.std.specs.Prelude.{◌≡◌, ℕ, zero, suc, ◌+◌, ◌-◌, ◌*◌, ◌/◌, ◌%◌, ◌<◌, ◌≤◌, Bool, true, false, cond, not, ◌&&◌, ◌||◌, List, [], ◌∷◌, ◌++◌, length, take, drop, ◌==◌, nat_eq, nat_le, nat_lt, slice_index}
use Prim.Native.Char.{Char, code}
use Prim.Native.String.{String}
use Prim.Native.String as S

abbrev pub Bytes : Type 0
Bytes = List ℕ

-- the numbers of a list are bytes: below 256, as those of every slice are
abbrev pub Byted : Bytes → Type 0
Byted l = (i : ℕ) → slice_index l i < 256

-- "`|` below is the byte 1 (SOH)."
abbrev pub byte : Char → ℕ
byte c = cond (code c == (code "|")) 1 (code c)

-- the bytes of a text: fix "35=" is 51 ∷ 53 ∷ 61 ∷ []
abbrev pub fix : String → Bytes
fix S.[] = []
fix (S.◌∷◌ c s) = byte c ∷ fix s

module _ {A : Type 0} (p : A → Bool) where
  abbrev pub any : List A → Bool
  any [] = false
  any (x ∷ l) = p x || any l

  abbrev pub all : List A → Bool
  all [] = true
  all (x ∷ l) = p x && all l

-- x is among the numbers of l
abbrev pub has : List ℕ → ℕ → Bool
has l x = any (λ y. nat_eq y x) l

-- the same bytes
abbrev pub same : Bytes → Bytes → Bool
same [] [] = true
same [] (y ∷ l) = false
same (x ∷ k) [] = false
same (x ∷ k) (y ∷ l) = x == y && same k l

-- the second begins with the first
abbrev pub starts : Bytes → Bytes → Bool
starts [] l = true
starts (x ∷ k) [] = false
starts (x ∷ k) (y ∷ l) = x == y && starts k l

-- n is a number from a to b
abbrev pub within : ℕ → ℕ → ℕ → Bool
within a b n = nat_le a n && nat_le n b

-- the sum of all bytes
abbrev pub sum : Bytes → ℕ
sum [] = 0
sum (x ∷ l) = x + sum l

-- Numbers in decimal digits.
abbrev pub digit : ℕ → Bool
digit d = within (code "0") (code "9") d

-- the same as two orders
abbrev pub Digit : ℕ → Type 0
Digit d = (code "0" ≤ d) × (d ≤ code "9")

abbrev pub value_from : ℕ → Bytes → ℕ
value_from n [] = n
value_from n (d ∷ l) = value_from (n * 10 + (d - code "0")) l

-- what the digits v are worth
abbrev pub value : Bytes → ℕ
value v = value_from 0 v

-- v is 1 to n digits
abbrev pub digits : ℕ → Bytes → Bool
digits n v = within 1 n (length v) && all digit v

-- How a number is written: in at most so many digits, and whether zeros may stand in front. Tags, the body length and the numbers in fields are three uses.
pub record Writing : Type 0 where
  pub most : ℕ
  pub zeros : Bool

abbrev pub with_zeros : ℕ → Writing
with_zeros n = record { most = n; zeros = true }

abbrev pub no_zeros : ℕ → Writing
no_zeros n = record { most = n; zeros = false }

-- v is a number that is written so
unfoldable pub writes : Writing → Bytes → Bool
writes w v = digits w.most v && (w.zeros || not (starts (fix "0") v))

-- the digits of a number with no leading zero ("0" itself stands), the last k of them; a number n has no more than n + 1
abbrev pub last_digits : ℕ → ℕ → Bytes
last_digits zero n = []
last_digits (suc k) n = let longer = last_digits k (n / 10) ++ ((code "0" + n % 10) ∷ []) in cond (nat_lt n 10) ((code "0" + n) ∷ []) longer

unfoldable pub decimal : ℕ → Bytes
decimal n = last_digits (suc n) n

-- the last k digits of a number, with zeros in front: padded 2 7 is "07"
abbrev pub padded : ℕ → ℕ → Bytes
padded zero n = []
padded (suc k) n = padded k (n / 10) ++ ((code "0" + n % 10) ∷ [])

-- the bytes l stand in s from p on
abbrev pub At : Bytes → ℕ → Bytes → Type 0
At s p l = (p + length l ≤ length s) × (take (length l) (drop p s) ≡ l)
