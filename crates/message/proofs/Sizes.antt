-- Values of a message that are fit: absent where the message has no such field, and how long the row of the others can be.
use Prim.Native.Nat.{ℕ, ◌+◌, ◌≤◌}
use native.Mathlib.Omega.{arith}
use mathlib.Core.Path.{◌≡◌, refl, sym, ◌∙◌, subst}
use mathlib.Core.List.{List, [], ◌∷◌, ◌++◌}
use mathlib.Core.Bool.{Bool, true, false, cond, ◌&&◌, ◌||◌, false≢true}
use mathlib.Core.Option.{Option, none, some}
use lib.Dec.{eqb, leb, ltb}
use lib.ListN.{length, length-append}
use borrow.Author.Tests.{eqb-true, eq-eqb, leb-true}
use Rattle.octets.specs.Bytes.{Bytes, fix, any, all, has, decimal}
use Rattle.octets.proofs.Tests.{both, neither, or_last}
use Rattle.kinds.specs.Kind as Kinds
use Rattle.kinds.specs.Kind.{Kind, text, number◌to◌, Y/N, time, day, among, kind_of}
use Rattle.table.specs.declared.MsgType.{MsgType}
use Rattle.table.specs.Dictionary.{№453, №580, №552, header, fields, code35, administrative, groups_of, rows_of, listed, kind_in}
use Rattle.message.specs.Message.{Value, absent, bytes, Field, ◌is◌, shown, tagged, row, valued, own, order, message}
use Rattle.message.specs.Unfit.{unwritable, unfit}
use Rattle.message.specs.code.Writable.{most, as_read, as_written}
use Rattle.message.proofs.Accepted.{accepted, kind_length, written-length}
use Rattle.message.proofs.Seven.{each}

-- each of some values is fit
abbrev pub Fine : MsgType → (ℕ → Value) → List ℕ → Type 0
Fine m vs ts = (t : ℕ) → has ts t ≡ true → unfit m (t is vs t) ≡ false

pub fine_later : (m : MsgType) (vs : ℕ → Value) (t : ℕ) (ts : List ℕ) → Fine m vs (t ∷ ts) → Fine m vs ts
fine_later m vs t ts f u h = f u (or_last (eqb t u) (has ts u) h)

pub fine_first : (m : MsgType) (vs : ℕ → Value) (t : ℕ) (ts : List ℕ) → Fine m vs (t ∷ ts) → unfit m (t is vs t) ≡ false
fine_first m vs t ts f = f t (rw (eq-eqb t t refl))

pub all_fine : (m : MsgType) (vs : ℕ → Value) (ts : List ℕ) → any (unfit m) (valued vs ts) ≡ false → Fine m vs ts
all_fine m vs [] h u k = absurd (false≢true k)
all_fine m vs (t ∷ ts) h u k = let w = neither (unfit m (t is vs t)) (any (unfit m) (valued vs ts)) h in go (eqb t u) refl k w.0 (all_fine m vs ts w.1 u)
  where
    go : (b : Bool) → eqb t u ≡ b → (b || has ts u) ≡ true → unfit m (t is vs t) ≡ false → (has ts u ≡ true → unfit m (u is vs u) ≡ false) → unfit m (u is vs u) ≡ false
    go true e g x f = subst (λ (y : ℕ). unfit m (y is vs y) ≡ false) (eqb-true t u e) x
    go false e g x f = f g

-- WHAT A MESSAGE DOES NOT HAVE is absent
pub not_own : (m : MsgType) (t : ℕ) (o : Option Bytes) → unwritable m t o ≡ false → listed (rows_of m) t ≡ false → o ≡ none
not_own m t none u l = refl
not_own m t (some v) u l = absurd (false≢true (sym l ∙ (accepted m t v u).own))

-- HOW LONG A ROW CAN BE
abbrev pub Short : ℕ → Option Bytes → Type 0
Short n none = Unit {0}
Short n (some v) = length v ≤ n

pub length-tagged : (t : ℕ) (v : Bytes) → length (tagged t (some v)) ≡ length (decimal t) + length v + 2
length-tagged t v = omega (arith, length-append (decimal t ++ fix "=" ++ v) (fix "|"), length-append (decimal t ++ fix "=") v, length-append (decimal t) (fix "="))

-- where a number up to b has at most `digits b` digits
module _ (digits : ℕ → ℕ) where
  unfoldable pub width : MsgType → ℕ → ℕ
  width m t = cond (listed (rows_of m) t) (length (decimal t) + most digits (kind_in (rows_of m) t) + 2) 0

  unfoldable pub widths : MsgType → List ℕ → ℕ
  widths m [] = 0
  widths m (t ∷ ts) = width m t + widths m ts

  pub field_short : (m : MsgType) (t : ℕ) (o : Option Bytes) → unwritable m t o ≡ false → Short (most digits (kind_in (rows_of m) t)) o → length (tagged t o) ≤ width m t
  unfolding width
  field_short m t none u s = omega arith
  field_short m t (some v) u s = rw (accepted m t v u).own (omega (arith, length-tagged t v))

  pub row_short : (m : MsgType) (vs : ℕ → Value) (ts : List ℕ) → Fine m vs ts → ((t : ℕ) → has ts t ≡ true → Short (most digits (kind_in (rows_of m) t)) (shown (vs t)))
      → length (row (valued vs ts)) ≤ widths m ts
  unfolding widths
  row_short m vs [] f s = omega arith
  row_short m vs (t ∷ ts) f s =
      omega (
        arith,
        length-append (tagged t (shown (vs t))) (row (valued vs ts)),
        field_short m t (shown (vs t)) (fine_first m vs t ts f) (s t (rw (eq-eqb t t refl))),
        row_short m vs ts (fine_later m vs t ts f) (λ u h. s u (or_last (eqb t u) (has ts u) h)),
      )

-- values that may be digits with zeros in front
pub as_read_lem : (m : MsgType) (t : ℕ) (o : Option Bytes) → unwritable m t o ≡ false → Short (most as_read (kind_in (rows_of m) t)) o
as_read_lem m t none u = tt
as_read_lem m t (some v) u = let A = accepted m t v u in kind_length (kind_in (rows_of m) t) v A.form A.right

-- "numbers as numbers, others as bytes": no number is given as bytes
abbrev pub OtherKind : Kind → Type 0
OtherKind (text n) = Unit {0}
OtherKind (number a to b) = ⊥
OtherKind Y/N = Unit {0}
OtherKind time = Unit {0}
OtherKind day = Unit {0}
OtherKind Kinds.decimal = Unit {0}
OtherKind (among l) = Unit {0}

abbrev pub GivenAs : Kind → Value → Type 0
GivenAs k absent = Unit {0}
GivenAs k (Value.number n) = Unit {0}
GivenAs k (bytes v) = OtherKind k

abbrev pub AsNumbers : MsgType → (ℕ → Value) → Type 0
AsNumbers m vs = (t : ℕ) → has (order m) t ≡ true → GivenAs (kind_in (rows_of m) t) (vs t)

abbrev pub AllAs : MsgType → List Field → Type 0
AllAs m [] = Unit {0}
AllAs m ((t is v) ∷ fs) = GivenAs (kind_in (rows_of m) t) v × AllAs m fs

other_most : (k : Kind) → OtherKind k → most as_read k ≡ most as_written k
other_most (text n) o = refl
other_most (number a to b) o = absurd o
other_most Y/N o = refl
other_most time o = refl
other_most day o = refl
other_most Kinds.decimal o = refl
other_most (among l) o = refl

pub as_written_lem : (m : MsgType) (t : ℕ) (v : Value) → unfit m (t is v) ≡ false → GivenAs (kind_in (rows_of m) t) v → Short (most as_written (kind_in (rows_of m) t)) (shown v)
as_written_lem m t absent u g = tt
as_written_lem m t (Value.number n) u g = let A = accepted m t (decimal n) u in written-length (kind_in (rows_of m) t) n A.form A.right
as_written_lem m t (bytes v) u g = let A = accepted m t v u in rw (← other_most (kind_in (rows_of m) t) g) (kind_length (kind_in (rows_of m) t) v A.form A.right)

widths-short : (m : MsgType) → administrative m ≡ true → leb (widths as_written m (order m)) 485 ≡ true
unfolding width widths order own code35 rows_of header fields groups_of №453 №580 №552 kind_of decimal
widths-short =
    each (λ m. leb (widths as_written m (order m)) 485 ≡ true)
    (record { heartbeat = refl; test_request = refl; resend_request = refl; reject = refl; sequence_reset = refl; logout = refl; logon = refl })

pub widest : (m : MsgType) → administrative m ≡ true → widths as_written m (order m) ≤ 485
widest m a = leb-true (widths as_written m (order m)) 485 (widths-short m a)

-- A WHOLE BODY, of at most 490 bytes
pub type-byte : (m : MsgType) → administrative m ≡ true → (all (λ x. ltb x 256) (code35 m) && eqb (length (code35 m)) 1) ≡ true
unfolding code35
type-byte =
    each (λ m. (all (λ x. ltb x 256) (code35 m) && eqb (length (code35 m)) 1) ≡ true)
    (record { heartbeat = refl; test_request = refl; resend_request = refl; reject = refl; sequence_reset = refl; logout = refl; logon = refl })

pub one_byte : (m : MsgType) → administrative m ≡ true → length (code35 m) ≡ 1
one_byte m a = eqb-true (length (code35 m)) 1 (both (all (λ x. ltb x 256) (code35 m)) (eqb (length (code35 m)) 1) (type-byte m a)).1

module _ (m : MsgType) (a : administrative m ≡ true) (vs : ℕ → Value) where
  pub body_length : length (row (message m vs)) ≡ 5 + length (row (valued vs (order m)))
  unfolding decimal
  body_length =
      omega (arith, length-append (tagged 35 (some (code35 m))) (row (valued vs (order m))), length-tagged 35 (code35 m), one_byte m a)

  pub body_longest : Fine m vs (order m) → AsNumbers m vs → length (row (message m vs)) ≤ 490
  body_longest f g = omega (arith, body_length, row_short as_written m vs (order m) f (λ t h. as_written_lem m t (vs t) (f t h) (g t h)), widest m a)
