-- The message type that a value names, and the value that names a type.
use Prim.Native.Nat.{ℕ}
use borrow.Author.Tests.{ne_eqb}
use mathlib.Core.Path.{◌≡◌, refl, ap, ◌∙◌}
use mathlib.Core.List.{List, [], ◌∷◌}
use mathlib.Core.Bool.{Bool, true, false, cond, and-false}
use mathlib.Core.Option.{Option, none, some}
use native.Mathlib.Omega.{arith}
use denote.Enum.Declared.{tag_of}
use lib.Dec.{eqb}
use lib.ListN.{length, get_or}
use Rattle.octets.specs.Bytes.{Bytes, fix, same}
use Rattle.kinds.proofs.Values.{same-long, same_true}
use Rattle.table.specs.Dictionary.{code35, the_ten, type_among, type_of, named, type_is}
use Rattle.table.specs.code.Held.{index}
use Rattle.table.specs.declared.MsgType.{MsgType}
use Rattle.table.specs.declared.MsgType.TheVariants.{Heartbeat, TestRequest, ResendRequest, Reject, SequenceReset, Logout, Logon, OrderCancelRequest, TradeCaptureReportRequest, TradeCaptureReport}
use Rattle.table.specs.contracts.MsgType.{the_type}

-- the number of a type is its bit
pub number_is : (m : MsgType) → tag_of the_type m ≡ index m
number_is Heartbeat = refl
number_is TestRequest = refl
number_is ResendRequest = refl
number_is Reject = refl
number_is SequenceReset = refl
number_is Logout = refl
number_is Logon = refl
number_is OrderCancelRequest = refl
number_is TradeCaptureReportRequest = refl
number_is TradeCaptureReport = refl

-- THE TYPE of one byte, of two, and of others
pub one_byte : (v : Bytes) → length v ≡ 1 → (get_or v 0 0 ∷ []) ≡ v
one_byte [] n = absurd (omega arith)
one_byte (x ∷ []) n = refl
one_byte (x ∷ y ∷ v) n = absurd (omega arith)

pub other_byte : (x : ℕ) → (x ≡ 48 → ⊥) → (x ≡ 49 → ⊥) → (x ≡ 50 → ⊥) → (x ≡ 51 → ⊥) → (x ≡ 52 → ⊥) → (x ≡ 53 → ⊥) → (x ≡ 65 → ⊥) → (x ≡ 70 → ⊥) → none ≡ type_of (x ∷ [])
unfolding type_of code35
other_byte x a b c d e f g h = rw (ne_eqb x 48 a, ne_eqb x 49 b, ne_eqb x 50 c, ne_eqb x 51 d, ne_eqb x 52 e, ne_eqb x 53 f, ne_eqb x 65 g, ne_eqb x 70 h)

pub two_bytes : (v : Bytes) → length v ≡ 2 → (get_or v 0 0 ∷ get_or v 1 0 ∷ []) ≡ v
two_bytes [] n = absurd (omega arith)
two_bytes (x ∷ []) n = absurd (omega arith)
two_bytes (x ∷ y ∷ []) n = refl
two_bytes (x ∷ y ∷ z ∷ v) n = absurd (omega arith)

other_bytes : (v : Bytes) → (length v ≡ 1 → ⊥) → same v (65 ∷ 68 ∷ []) ≡ false → same v (65 ∷ 69 ∷ []) ≡ false → none ≡ type_of v
unfolding type_of code35
other_bytes v n p q =
    rw (same-long v (fix "0") n, same-long v (fix "1") n, same-long v (fix "2") n, same-long v (fix "3") n, same-long v (fix "4") n, same-long v (fix "5") n, same-long v (fix "A") n, same-long v (fix "F") n, p, q)

pub other_long : (v : Bytes) → (length v ≡ 1 → ⊥) → (length v ≡ 2 → ⊥) → none ≡ type_of v
other_long v n k = other_bytes v n (same-long v (65 ∷ 68 ∷ []) k) (same-long v (65 ∷ 69 ∷ []) k)

pub other_first : (x y : ℕ) → (x ≡ 65 → ⊥) → none ≡ type_of (x ∷ y ∷ [])
other_first x y n = other_bytes (x ∷ y ∷ []) (λ e. omega arith) (rw (ne_eqb x 65 n)) (rw (ne_eqb x 65 n))

pub other_second : (x y : ℕ) → (y ≡ 68 → ⊥) → (y ≡ 69 → ⊥) → none ≡ type_of (x ∷ y ∷ [])
other_second x y n k =
    other_bytes (x ∷ y ∷ []) (λ e. omega arith) (rw (ne_eqb y 68 n) (and-false (eqb x 65))) (rw (ne_eqb y 69 k) (and-false (eqb x 65)))

-- THE TYPE that a value names is written as that value
among_coded : (ms : List MsgType) (v : Bytes) (m : MsgType) → type_among ms v ≡ some m → v ≡ code35 m
among_coded [] v m e = let z : ◌≡◌ {A = ℕ} 0 1 = cc in absurd (omega arith)
among_coded (n ∷ ms) v m e = go (same v (code35 n)) refl e (among_coded ms v m)
  where
    go : (b : Bool) → same v (code35 n) ≡ b → cond b (some n) (type_among ms v) ≡ some m → (type_among ms v ≡ some m → v ≡ code35 m) → v ≡ code35 m
    go true k e f = let q : n ≡ m = cc in same_true v (code35 n) k ∙ ap code35 q
    go false k e f = f e

pub type_coded : (v : Bytes) (m : MsgType) → type_of v ≡ some m → v ≡ code35 m
unfolding type_of
type_coded v m e = among_coded the_ten v m e

-- and the code's answer stands for it
pub named_is : (o : Option MsgType) → type_is (named o) ≡ o
named_is none = refl
named_is (some m) = refl
