-- A row of fields whose values have no `|`: cut behind each `|` it gives the fields back in order, and its first field t is the value given for t.
use Prim.Native.Nat.{ℕ, zero, suc, ◌^◌, ◌<◌}
use native.Mathlib.Nat.{pow-suc}
use native.Mathlib.Omega.{arith}
use mathlib.Core.Path.{◌≡◌, refl, sym, ap, ◌∙◌}
use mathlib.Core.List.{List, [], ◌∷◌, ◌++◌, append_assoc}
use mathlib.Core.Option.{Option, none, some}
use mathlib.Core.Bool.{Bool, true, false, cond, ◌&&◌}
use lib.Dec.{eqb}
use lib.ListN.{length, drop}
use lib.Seq.{drop-append_seam}
use borrow.Author.Tests.{eqb-true, eqb-false, ne_eqb}
use Rattle.octets.specs.Bytes.{Bytes, fix, has, same, starts, value, decimal}
use Rattle.octets.proofs.Tests.{neither, any_append}
use Rattle.octets.proofs.Numerals.{Digits, row_digits}
use Rattle.octets.proofs.Decimals.{decimal-written, decimal-worth}
use Rattle.fields.specs.Field.{parts, first_of_parts, first_field}
use Rattle.kinds.proofs.Values.{same_true, same_refl}
use Rattle.message.specs.Message.{Field, ◌is◌, shown, tagged, row}

-- THE DIGITS OF A NUMBER
pub below_power : (n : ℕ) → n < 10 ^ suc n
below_power zero = omega arith
below_power (suc n) = omega (arith, pow-suc 10 (suc n), below_power n)

pub decimal-digits : (n : ℕ) → Digits (decimal n)
unfolding decimal
decimal-digits zero = ((omega arith, omega arith), tt)
decimal-digits (suc n) = row_digits (decimal (suc n)) (decimal-written (suc n) (suc n) (omega arith) (below_power (suc n))).whole

-- two numbers have the same digits only if they are the same
pub same-decimal : (t u : ℕ) → same (decimal t) (decimal u) ≡ eqb t u
same-decimal t u = go (eqb t u) refl (same (decimal t) (decimal u)) refl
  where
    go : (b : Bool) → eqb t u ≡ b → (c : Bool) → same (decimal t) (decimal u) ≡ c → same (decimal t) (decimal u) ≡ b
    go true e c f = rw (eqb-true t u e) (same_refl (decimal u))
    go false e true f = absurd (eqb-false t u e (sym (decimal-worth t) ∙ ap value (same_true (decimal t) (decimal u) f) ∙ decimal-worth u))
    go false e false f = f

-- the parts that a row should have: tag, `=`, value
abbrev pub with_part : ℕ → Option Bytes → List Bytes → List Bytes
with_part t none ps = ps
with_part t (some v) ps = (decimal t ++ (61 ∷ v)) ∷ ps

abbrev pub parts_of : List Field → List Bytes
parts_of [] = []
parts_of ((t is v) ∷ fs) = with_part t (shown v) (parts_of fs)

-- a field is its part and `|`
pub part_field : (t v r : Bytes) → t ++ (61 ∷ []) ++ v ++ (1 ∷ []) ++ r ≡ (t ++ (61 ∷ v)) ++ (1 ∷ r)
part_field t v r = simp append_assoc

-- no value has a `|`
abbrev pub FreeOne : Option Bytes → Type 0
FreeOne none = Unit {0}
FreeOne (some v) = has v 1 ≡ false

abbrev pub Free : List Field → Type 0
Free [] = Unit {0}
Free ((t is v) ∷ fs) = FreeOne (shown v) × Free fs

digits_free : (l : Bytes) → Digits l → has l 1 ≡ false
digits_free [] h = refl
digits_free (x ∷ l) h = rw (ne_eqb x 1 (λ e. omega (arith, h.0)), digits_free l h.1)

pub decimal_free : (n : ℕ) → has (decimal n) 1 ≡ false
decimal_free n = digits_free (decimal n) (decimal-digits n)

part_free : (t : ℕ) (v : Bytes) → has v 1 ≡ false → has (decimal t ++ (61 ∷ v)) 1 ≡ false
part_free t v h = any_append (λ y. eqb y 1) (decimal t) (61 ∷ v) ∙ rw (decimal_free t, h)

-- one part more
parts_one : (l r : Bytes) → has l 1 ≡ false → parts (l ++ (1 ∷ r)) ≡ l ∷ parts r
parts_one [] r h = refl
parts_one (x ∷ l) r h = let w = neither (eqb x 1) (has l 1) h in rw (w.0, parts_one l r w.1)

-- CUTTING GIVES THE FIELDS BACK, in order
pub cut_free : (fs : List Field) → Free fs → parts (row fs) ≡ parts_of fs
cut_free [] h = refl
cut_free ((t is v) ∷ fs) h = go (shown v) h.0 (cut_free fs h.1)
  where
    go : (o : Option Bytes) → FreeOne o → parts (row fs) ≡ parts_of fs → parts (tagged t o ++ row fs) ≡ with_part t o (parts_of fs)
    go none g e = e
    go (some w) g e =
        ap parts (part_field (decimal t) w (row fs)) ∙ parts_one (decimal t ++ (61 ∷ w)) (row fs) (part_free t w g) ∙ ap (λ (ps : List Bytes). (decimal t ++ (61 ∷ w)) ∷ ps) e

-- THE FIRST FIELD t
-- a part begins with t and `=` if its own tag has the digits of t
pub starts_tag : (p q v : Bytes) → Digits p → Digits q → starts (p ++ (61 ∷ [])) (q ++ (61 ∷ v)) ≡ same p q
starts_tag [] [] v h k = refl
starts_tag [] (y ∷ q) v h k = rw (ne_eqb 61 y (λ e. omega (arith, k.0)))
starts_tag (x ∷ p) [] v h k = rw (ne_eqb x 61 (λ e. omega (arith, h.0)))
starts_tag (x ∷ p) (y ∷ q) v h k = ap (λ (b : Bool). eqb x y && b) (starts_tag p q v h.1 k.1)

-- the value that a row shows for t: that of its first field with the tag t that is not left out
abbrev pub or_later : ℕ → ℕ → Option Bytes → Option Bytes → Option Bytes
or_later t u none later = later
or_later t u (some v) later = cond (eqb t u) (some v) later

abbrev pub shown_for : ℕ → List Field → Option Bytes
shown_for t [] = none
shown_for t ((u is v) ∷ fs) = or_later t u (shown v) (shown_for t fs)

first-shown : (t : ℕ) (fs : List Field) → first_of_parts (decimal t ++ fix "=") (parts_of fs) ≡ shown_for t fs
first-shown t [] = refl
first-shown t ((u is v) ∷ fs) = go (shown v) (first-shown t fs)
  where
    here : (w : Bytes) (b : Bool) → eqb t u ≡ b → first_of_parts (decimal t ++ fix "=") (parts_of fs) ≡ shown_for t fs
        → cond b (some (drop (length (decimal t ++ fix "=")) (decimal u ++ (61 ∷ w)))) (first_of_parts (decimal t ++ fix "=") (parts_of fs)) ≡ cond b (some w) (shown_for t fs)
    here w true e f =
        rw (eqb-true t u e) (ap some (ap (drop (length (decimal u ++ fix "="))) (sym (append_assoc (decimal u) (fix "=") w)) ∙ drop-append_seam (decimal u ++ fix "=") w))
    here w false e f = f

    go : (o : Option Bytes) → first_of_parts (decimal t ++ fix "=") (parts_of fs) ≡ shown_for t fs
        → first_of_parts (decimal t ++ fix "=") (with_part u o (parts_of fs)) ≡ or_later t u o (shown_for t fs)
    go none e = e
    go (some w) e = rw (starts_tag (decimal t) (decimal u) w (decimal-digits t) (decimal-digits u) ∙ same-decimal t u) (here w (eqb t u) refl e)

-- THE FIRST FIELD t OF A ROW is the value that the row shows for t
pub first_free : (t : ℕ) (fs : List Field) → Free fs → first_field t (row fs) ≡ shown_for t fs
unfolding first_field
first_free t fs h = ap (first_of_parts (decimal t ++ fix "=")) (cut_free fs h) ∙ first-shown t fs
