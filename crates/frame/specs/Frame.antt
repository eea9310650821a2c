-- Document 01, "The good frame", sentence by sentence, over a rule, with the body length of document 02's Q-3.
use Rattle.std.specs.Prelude.{ℕ, ◌+◌, ◌-◌, ◌/◌, ◌%◌, ◌≤◌, ◌<◌, ◌≡◌, Bool, true, [], ◌∷◌, ◌++◌, length, take, drop, get_or, Option, IfSome, IfNone}
use Rattle.std.specs.Borrow.{Bor}
use Rattle.octets.specs.Bytes.{Bytes, byte, fix, sum, value, Writing, with_zeros, writes, At}

-- What may differ from edition to edition: the start mark, and how the body length is written.
pub record Rule : Type 0 where
  pub mark : Bytes
  pub size : Writing

-- "the body length up to 6 digits"; "the FIX integer type permits" zeros in front
abbrev pub rule_of : Bytes → Rule
rule_of mark = record { mark = mark; size = with_zeros 6 }

-- "The start mark is the 13 bytes `8=FIXT.1.1|9=`."
unfoldable pub fixt : Rule
fixt = rule_of (fix "8=FIXT.1.1|9=")

-- The mark of FIX 4.2, for the edition that change Q-11 will bring.
unfoldable pub fix42 : Rule
fix42 = rule_of (fix "8=FIX.4.2|9=")

-- "2,048": the longest body
abbrev pub longest_body : ℕ
longest_body = 2048

-- "the body length up to 6 digits with the value still 5 to 2,048"
pub record Length (R : Rule) (digits : Bytes) : Type 0 where
  pub written : writes R.size digits ≡ true
  pub low : 5 ≤ value digits
  pub high : value digits ≤ longest_body

-- "a body of that many bytes that begins `35=` and ends with `|`". (A list may hold any number; a body holds bytes.)
pub record Body (n : ℕ) (body : Bytes) : Type 0 where
  pub sized : length body ≡ n
  pub begins : At body 0 (fix "35=")
  pub ends : get_or body (n - 1) 0 ≡ byte "|"
  pub bytes : (i : ℕ) → get_or body i 0 < 256

-- "the start mark; the body length ..; `|`; a body": "all bytes before `10=`"
abbrev pub front : Rule → Bytes → Bytes → Bytes
front R digits body = R.mark ++ (digits ++ (fix "|" ++ body))

-- "`10=`, three digits, `|`"
abbrev pub three_digits : ℕ → Bytes
three_digits v = (48 + v / 100) ∷ (48 + v / 10 % 10) ∷ (48 + v % 10) ∷ []

abbrev pub trailer : ℕ → Bytes
trailer v = fix "10=" ++ (three_digits v ++ fix "|")

-- "The three digits are the sum of all bytes before `10=`, modulo 256."
abbrev pub sum_of : Rule → Bytes → Bytes → ℕ
sum_of R digits body = sum (front R digits body) % 256

-- "A good frame is: the start mark; the body length ..; `|`; a body ..; then `10=`, three digits, `|`. .. The start mark occurs nowhere in
-- the frame but at its first byte."
pub record Good (R : Rule) (g : Bytes) : Type 0 where
  pub digits : Bytes
  pub body : Bytes
  pub len : Length R digits
  pub inner : Body (value digits) body
  pub whole : g ≡ front R digits body ++ trailer (sum_of R digits body)
  pub once : (q : ℕ) → 0 < q → At g q R.mark → ⊥

-- "The longest frame becomes 2,075 bytes": the mark, as many digits as the body length may have, `|`, 2,048 bytes, the trailer
abbrev pub longest : Rule → ℕ
longest R = length R.mark + (R.size.most + (length (fix "|") + (longest_body + length (trailer 0))))

-- A good frame of n bytes stands in s at p.
pub record GoodAt (R : Rule) (s : Bytes) (p n : ℕ) : Type 0 where
  pub inside : p + n ≤ length s
  pub good : Good R (take n (drop p s))

-- "Position p of a byte string is live if some bytes, possibly none, could follow so that a good frame starts at p."
pub record Live (R : Rule) (s : Bytes) (p : ℕ) : Type 0 where
  pub more : Bytes
  pub size : ℕ
  pub good_at : GoodAt R (s ++ more) p size

-- Whether f is exactly one good frame: yes only for one, and for every one.
pub record Whether (R : Rule) (f : Bytes) (b : Bool) : Type 0 where
  pub only : b ≡ true → Good R f
  pub every : Good R f → b ≡ true

-- The body of exactly one good frame, as the layers above ask for it.
pub data BodyOf (R : Rule) (f : Bytes) : Bytes → Type 0 where
  its_body : (G : Good R f) → BodyOf R f G.body

-- and of bytes that are no good frame there is none
pub record BodyFound (R : Rule) (f : Bytes) (r : Option (Bor Bytes)) : Type 0 where
  pub some : IfSome r (λ b. BodyOf R f b.now)
  pub none : IfNone r (Good R f → ⊥)
