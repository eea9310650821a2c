-- What a value that is not rejected is like: its bytes, its form and value, and how long it can be.
use Prim.Native.Nat.{ℕ, ◌^◌, ◌≤◌, ◌<◌, max}
use native.Mathlib.Omega.{arith}
use mathlib.Core.Path.{◌≡◌, refl, ap}
use mathlib.Core.List.{List, [], ◌∷◌}
use mathlib.Core.Bool.{Bool, true, false, not, ◌||◌, false≢true}
use lib.Dec.{eqb}
use lib.ListN.{length}
use borrow.Author.Tests.{not-false}
use Rattle.octets.specs.Bytes.{Bytes, fix, any, has, same, within, value, with_zeros, decimal}
use Rattle.octets.proofs.Tests.{neither}
use Rattle.octets.proofs.Numerals.{within_is, written_true, written_means}
use Rattle.octets.proofs.Decimals.{decimal-read, decimal-worth, no_longer}
use Rattle.dates.specs.Date.{like, shapes}
use Rattle.dates.proofs.Shapes.{like-length}
use Rattle.kinds.specs.Kind.{Kind, text, number◌to◌, Y/N, time, day, among, formed, allowed, is_number}
use Rattle.kinds.specs.Kind as Kinds
use Rattle.kinds.proofs.Values.{same_true}
use Rattle.table.specs.declared.MsgType.{MsgType}
use Rattle.table.specs.Dictionary.{rows_of, listed, kind_in}
use Rattle.message.specs.Unfit.{rejected}
use Rattle.message.specs.code.Writable.{longest, most, as_read, as_written}
use Rattle.message.proofs.Pointed.{decimal-length}

pub record Accepted (m : MsgType) (t : ℕ) (v : Bytes) : Type 0 where
  pub own : listed (rows_of m) t ≡ true
  pub filled : eqb (length v) 0 ≡ false
  pub no_bar : has v 1 ≡ false
  pub form : formed (kind_in (rows_of m) t) v ≡ true
  pub right : allowed (kind_in (rows_of m) t) v ≡ true

pub accepted : (m : MsgType) (t : ℕ) (v : Bytes) → rejected m t v ≡ false → Accepted m t v
unfolding rejected
accepted m t v h =
    let k = kind_in (rows_of m) t in
    let a = neither _ (not (allowed k v)) h in
    let b = neither _ (not (formed k v)) a.0 in
    let c = neither _ (has v 1) b.0 in
    let d = neither (not (listed (rows_of m) t)) (eqb (length v) 0) c.0 in
    record { own = not-false _ d.0; filled = d.1; no_bar = c.1; form = not-false _ b.1; right = not-false _ a.1 }

pub not_rejected : (m : MsgType) (t : ℕ) (v : Bytes) → Accepted m t v → rejected m t v ≡ false
unfolding rejected
not_rejected m t v A = rw (A.own, A.filled, A.no_bar, A.form, A.right)

-- HOW LONG A VALUE OF A KIND CAN BE
-- one of a list that v is like: v is no longer than the longest
any_length : (f : Bytes → Bool) (n : ℕ) (l : List Bytes) → ((w : Bytes) → f w ≡ true → n ≡ length w) → any f l ≡ true → n ≤ longest l
any_length f n [] g h = absurd (false≢true h)
any_length f n (w ∷ l) g h = go (f w) refl h (any_length f n l g)
  where
    go : (b : Bool) → f w ≡ b → (b || any f l) ≡ true → (any f l ≡ true → n ≤ longest l) → n ≤ max (length w) (longest l)
    go true e k r = omega (arith, g w e)
    go false e k r = omega (arith, r k)

number-length : (v : Bytes) → is_number v ≡ true → length v ≤ 12
unfolding is_number
number-length v h = (written_means (with_zeros 12) v h).few

flag-length : (v : Bytes) (b c : Bool) → (same v (fix "Y")) ≡ b → (same v (fix "N")) ≡ c → (b || c) ≡ true → length v ≤ 1
flag-length v true c e f h = omega (arith, ap length (same_true v (fix "Y") e))
flag-length v false true e f h = omega (arith, ap length (same_true v (fix "N") f))
flag-length v false false e f h = absurd (false≢true h)

pub kind_length : (k : Kind) (v : Bytes) → formed k v ≡ true → allowed k v ≡ true → length v ≤ most as_read k
unfolding formed allowed
kind_length (text n) v f a = (within_is 1 n (length v) a).1
kind_length (number x to y) v f a = number-length v f
kind_length Y/N v f a = flag-length v (same v (fix "Y")) (same v (fix "N")) refl refl f
kind_length time v f a = any_length (λ s. like s v) (length v) shapes (λ w. like-length w v) f
kind_length day v f a = omega (arith, like-length (fix "YYYYMMDD") v f)
kind_length Kinds.decimal v f a = decimal-length v f a
kind_length (among l) v f a = any_length (λ w. same v w) (length v) l (λ w e. ap length (same_true v w e)) a

-- a number of the kind, as it is written
pub written-length : (k : Kind) (n : ℕ) → formed k (decimal n) ≡ true → allowed k (decimal n) ≡ true → length (decimal n) ≤ most as_written k
unfolding allowed
written-length (text l) n f a = kind_length (text l) (decimal n) f a
written-length (number x to y) n f a = no_longer n y (omega (arith, (within_is x y (value (decimal n)) a).1, decimal-worth n))
written-length Y/N n f a = kind_length Y/N (decimal n) f a
written-length time n f a = kind_length time (decimal n) f a
written-length day n f a = kind_length day (decimal n) f a
written-length Kinds.decimal n f a = kind_length Kinds.decimal (decimal n) f a
written-length (among l) n f a = kind_length (among l) (decimal n) f a

-- A NUMBER of a kind from a to b, written in digits, is accepted if it lies between
pub number-formed : (n : ℕ) → n < 10 ^ 12 → is_number (decimal n) ≡ true
unfolding is_number
number-formed n h = written_true (with_zeros 12) (decimal n) (decimal-read 11 n h)

pub number-allowed : (a b n : ℕ) → allowed (number a to b) (decimal n) ≡ within a b n
unfolding allowed
number-allowed a b n = ap (within a b) (decimal-worth n)
