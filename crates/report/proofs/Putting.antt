-- What is put piece by piece is what is put for the fields; and the fields one behind the other.
use Prim.Native.Nat.{ℕ, ◌-◌, ◌≤◌, ◌<◌}
use native.Mathlib.Omega.{arith}
use mathlib.Core.Path.{◌≡◌, refl, sym, ap, ◌∙◌}
use mathlib.Core.List.{List, [], ◌∷◌, ◌++◌, append-nil}
use mathlib.Core.Bool.{Bool, true, false, cond, not, ◌&&◌, ◌||◌, and-false}
use lib.Dec.{eqb, leb, ltb}
use lib.ListN.{length, take, drop, length-append}
use borrow.Author.Tests.{ltb-true, le-leb, lt-leb, not-true, not-false}
use Rattle.octets.specs.Bytes.{Bytes, fix, any, has, decimal}
use Rattle.octets.proofs.Tests.{neither, any_append}
use Rattle.kinds.specs.Kind.{Kind, formed, allowed}
use Rattle.table.specs.declared.MsgType.TheVariants.{TradeCaptureReport}
use Rattle.message.specs.Message.{Value, absent, bytes, Field, ◌is◌, field, part}
use Rattle.message.specs.Unfit.{rejected, required, unfit}
use Rattle.message.specs.Wrote.{Wrote}
use Rattle.message.specs.code.Writable.{most, as_read, unwritten}
use Rattle.message.proofs.Accepted.{kind_length}
use Rattle.message.proofs.Fitness.{fit_empty}
use Rattle.message.proofs.Writes.{chain, nothing, reword, row_append, few_digits}
use Rattle.report.specs.code.Puts.{Piece, label_room, Puts, Has}
use mathlib.Core.Logic.{◌⊎◌, inl, inr}
use Rattle.std.specs.Prelude.{Option, Some, None, ◌+◌}

-- PIECES: what they show, and one behind the other
pub is_unfit : {ok : Bool} {d d' : Bytes} {at : ℕ} {xs : Bytes} → Piece ok d d' at None xs → ok ≡ false
is_unfit (Piece.unfit e) = e

pub is_put : {ok : Bool} {d d' : Bytes} {at to : ℕ} {xs : Bytes} → Piece ok d d' at (Some to) xs → (ok ≡ true) × Wrote d d' at to xs
is_put (Piece.put e w) = (e, w)

pub reshaped : {ok ok' : Bool} {d d' : Bytes} {at : ℕ} {to : Option ℕ} {xs ys : Bytes} → ok ≡ ok' → xs ≡ ys → Piece ok d d' at to xs → Piece ok' d d' at to ys
reshaped e f (Piece.unfit u) = Piece.unfit (sym e ∙ u)
reshaped e f (Piece.put u w) = Piece.put (sym e ∙ u) (reword f w)

-- one behind the other: the second is looked at where the first was put
joined : (a b : Bool) {d d₁ d₂ : Bytes} {at mid : ℕ} {to : Option ℕ} {xs ys : Bytes} → Piece a d d₁ at (Some mid) xs → Piece b d₁ d₂ mid to ys → Piece (a && b) d d₂ at to (xs ++ ys)
joined a b (Piece.put e w) (Piece.unfit u) = Piece.unfit (rw e u)
joined a b (Piece.put e w) (Piece.put u x) = Piece.put (rw e u) (chain w x)

-- A LABEL is short, and a field with it
pub label_short : (t : ℕ) → t < 100_000 → length (decimal t ++ fix "=") ≤ label_room t
label_short t h = go (ltb t 100) refl (ltb t 1000) refl
  where
    go : (a : Bool) → ltb t 100 ≡ a → (b : Bool) → ltb t 1000 ≡ b → length (decimal t ++ fix "=") ≤ cond a 3 (cond b 4 6)
    go true e b f = omega (arith, length-append (decimal t) (fix "="), few_digits 1 t (ltb-true t 100 e))
    go false e true f = omega (arith, length-append (decimal t) (fix "="), few_digits 2 t (ltb-true t 1000 f))
    go false e false f = omega (arith, length-append (decimal t) (fix "="), few_digits 4 t h)

pub field_short : (t : ℕ) (v : Bytes) → t < 100_000 → length (field (t is bytes v)) ≤ label_room t + length v + 1
field_short t v h =
    omega (arith, length-append (decimal t ++ fix "=" ++ v) (fix "|"), length-append (decimal t ++ fix "=") v, label_short t h)

-- A VALUE AT A PLACE OF THE TEXT: the place, or none
pub part_inside : (s : Bytes) (a b : ℕ) → a ≤ b → b ≤ length s → part s a b ≡ take (b - a) (drop a s)
part_inside s a b h g = rw (le-leb a b h, le-leb b (length s) g)

empty-unfit : (k : Kind) → not (unwritten k []) ≡ false
empty-unfit k = sym (fit_empty k [] refl)

pub part_nowhere : (k : Kind) (s : Bytes) (a b : ℕ) → (b < a) ⊎ (length s < b) → not (unwritten k (part s a b)) ≡ false
part_nowhere k s a b (inl h) = rw (lt-leb a b h) (empty-unfit k)
part_nowhere k s a b (inr g) = rw (lt-leb b (length s) g, and-false (leb a b)) (empty-unfit k)

pub part_fit : (k : Kind) (s : Bytes) (a b : ℕ) {v : Bytes} {r z : Bool} → a ≤ b → b ≤ length s → v ≡ take (b - a) (drop a s) → r ≡ not (unwritten k v) → r ≡ z → not (unwritten k (part s a b)) ≡ z
part_fit k s a b h g i e f = ap (λ (v : Bytes). not (unwritten k v)) (part_inside s a b h g ∙ sym i) ∙ sym e ∙ f

-- a value that can be written is no longer than its kind allows
pub fit_short : (k : Kind) (v : Bytes) {r : Bool} → r ≡ not (unwritten k v) → r ≡ true → length v ≤ most as_read k
unfolding unwritten
fit_short k v e f =
    let u = not-true _ (sym e ∙ f) in
    let a = neither _ (not (allowed k v)) u in
    let b = neither (eqb (length v) 0 || has v 1) (not (formed k v)) a.0 in
    kind_length k v (not-false _ b.1) (not-false _ a.1)

-- FIELDS
or_nothing : (b : Bool) → (b || false) ≡ b
or_nothing true = refl
or_nothing false = refl

pub rejected_is : (t : ℕ) (k : Kind) (v : Bytes) → Has t k → rejected TradeCaptureReport t v ≡ unwritten k v
unfolding rejected unwritten
rejected_is t k v H = rw (H.own, H.kind)

fit_is : (t : ℕ) (k : Kind) (v : Bytes) → Has t k → not (any (unfit TradeCaptureReport) (t is bytes v ∷ [])) ≡ not (unwritten k v)
fit_is t k v H = ap not (or_nothing _ ∙ rejected_is t k v H)

pub field_put : (t : ℕ) (k : Kind) (v : Bytes) → Has t k → {d d' : Bytes} {at to : ℕ} → not (unwritten k v) ≡ true → Wrote d d' at to (field (t is bytes v)) → Puts d d' at (Some to) (t is bytes v ∷ [])
field_put t k v H e w = Piece.put (fit_is t k v H ∙ e) (reword (sym (append-nil (field (t is bytes v)))) w)

pub field_unfit : (t : ℕ) (k : Kind) (v : Bytes) → Has t k → {d d' : Bytes} {at : ℕ} → not (unwritten k v) ≡ false → Puts d d' at None (t is bytes v ∷ [])
field_unfit t k v H e = Piece.unfit (fit_is t k v H ∙ e)

pub field-absent : (t : ℕ) → required TradeCaptureReport t ≡ false → {d : Bytes} {at : ℕ} → Puts d d at (Some at) (t is absent ∷ [])
field-absent t r = Piece.put (ap not (or_nothing _ ∙ r)) nothing

pub field-number : (t n : ℕ) → unfit TradeCaptureReport (t is Value.number n) ≡ false → {d d' : Bytes} {at to : ℕ} → Wrote d d' at to (field (t is Value.number n)) → Puts d d' at (Some to) (t is Value.number n ∷ [])
field-number t n u w = Piece.put (ap not (or_nothing _ ∙ u)) (reword (sym (append-nil (field (t is Value.number n)))) w)

-- rows of them
pub none_put : {d : Bytes} {at : ℕ} → Puts d d at (Some at) []
none_put = Piece.put refl nothing

pub rows_put : (fs gs : List Field) {d d₁ d₂ : Bytes} {at mid : ℕ} {to : Option ℕ} → Puts d d₁ at (Some mid) fs → Puts d₁ d₂ mid to gs → Puts d d₂ at to (fs ++ gs)
rows_put fs gs P Q =
    reshaped
    (both_fit (any (unfit TradeCaptureReport) fs) (any (unfit TradeCaptureReport) gs) ∙ ap not (sym (any_append (unfit TradeCaptureReport) fs gs)))
    (sym (row_append fs gs))
    (joined (not (any (unfit TradeCaptureReport) fs)) (not (any (unfit TradeCaptureReport) gs)) P Q)
  where
    both_fit : (a b : Bool) → (not a && not b) ≡ not (a || b)
    both_fit true b = refl
    both_fit false b = refl

-- one that is unfit makes the row so, whatever stands behind it
pub rows_unfit : (fs gs : List Field) {d d' e e' : Bytes} {at mid : ℕ} → Puts d d' at None fs → Puts e e' mid None (fs ++ gs)
rows_unfit fs gs P =
    Piece.unfit (ap not (any_append (unfit TradeCaptureReport) fs gs ∙ ap (λ (b : Bool). b || any (unfit TradeCaptureReport) gs) (not-false _ (is_unfit P))))

-- THREE FIELDS in a row: all are put, or the first or the second is unfit
pub three_put : (f g h : Field) {d d₁ d₂ d₃ : Bytes} {a b c : ℕ} {to : Option ℕ} → Puts d d₁ a (Some b) (f ∷ []) → Puts d₁ d₂ b (Some c) (g ∷ []) → Puts d₂ d₃ c to (h ∷ []) → Puts d d₃ a to (f ∷ g ∷ h ∷ [])
three_put f g h P Q R = rows_put (f ∷ []) (g ∷ h ∷ []) P (rows_put (g ∷ []) (h ∷ []) Q R)

pub first_unfit : (f g h : Field) {d d₁ : Bytes} {a : ℕ} {o : Option ℕ} → o ≡ None → Puts d d₁ a None (f ∷ []) → Puts d d₁ a o (f ∷ g ∷ h ∷ [])
first_unfit f g h e P = rw e (rows_unfit (f ∷ []) (g ∷ h ∷ []) P)

pub second_unfit : (f g h : Field) {d d₁ d₂ : Bytes} {a b : ℕ} {o : Option ℕ} → o ≡ None → Puts d d₁ a (Some b) (f ∷ []) → Puts d₁ d₂ b None (g ∷ []) → Puts d d₂ a o (f ∷ g ∷ h ∷ [])
second_unfit f g h e P Q = rw e (rows_unfit (f ∷ g ∷ []) (h ∷ []) (rows_put (f ∷ []) (g ∷ []) P Q))
