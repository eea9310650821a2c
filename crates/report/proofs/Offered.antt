-- The values as the host gives them: what is put for one that is given, and for one that is not.
use Prim.Native.Nat.{ℕ, ◌+◌, ◌*◌, ◌≤◌, ◌<◌}
use native.Mathlib.Omega.{arith}
use mathlib.Core.Path.{◌≡◌, refl, sym, ap, subst}
use mathlib.Core.List.{[], ◌∷◌, ◌++◌}
use mathlib.Core.Bool.{Bool, true, false, cond, not}
use mathlib.Core.Option.{none, some}
use Rattle.std.specs.Prelude.{Option, Some, None}
use lib.Dec.{ltb}
use borrow.Author.Tests.{eq-eqb, ne_eqb}
use Rattle.octets.specs.Bytes.{Bytes, fix, decimal}
use Rattle.kinds.specs.Kind.{Kind}
use Rattle.message.specs.Message.{bytes, ◌is◌, part}
use Rattle.message.specs.Wrote.{Wrote}
use Rattle.message.proofs.Fitness.{fit_empty}
use Rattle.message.proofs.Writes.{chain}
use Rattle.amounts.specs.Amount.{pointing, amount_text}
use Rattle.report.specs.Values.{optional}
use Rattle.report.specs.Layout.{word, given, text_at, needed, may_be, amount_at}
use Rattle.report.specs.code.Puts.{label_room, Puts, Has, Optional}
use Rattle.report.proofs.Figures.{figure_fit, figure_large, figure_fine}
use Rattle.report.proofs.Putting.{field_put, field_unfit, field-absent}

pub label_most : (t : ℕ) → label_room t ≤ 6
label_most t = go (ltb t 100) (ltb t 1000)
  where
    go : (a b : Bool) → cond a 3 (cond b 4 6) ≤ 6
    go true b = omega arith
    go false true = omega arith
    go false false = omega arith

module _ (words text : Bytes) (k : ℕ) where
  is_given : (word words text (3 * k) ≡ 0 → ⊥) → given words text k ≡ true
  is_given h = ap not (ne_eqb (word words text (3 * k)) 0 h)

  not_given : word words text (3 * k) ≡ 0 → given words text k ≡ false
  not_given e = ap not (eq-eqb (word words text (3 * k)) 0 e)

  -- A REQUIRED VALUE
  pub needed_put : (t : ℕ) {d d' : Bytes} {at : ℕ} {to : Option ℕ} → (word words text (3 * k) ≡ 0 → ⊥) → Puts d d' at to (t is bytes (part text (word words text (3 * k + 1)) (word words text (3 * k + 1 + 1))) ∷ []) → Puts d d' at to (t is bytes (needed words text k) ∷ [])
  needed_put t {d} {d'} {at} {to} h P =
      let e : 3 * k + 1 + 1 ≡ 3 * k + 2 = omega arith in
      subst (λ (b : Bool). Puts d d' at to (t is bytes (cond b (text_at words text k) []) ∷ [])) (sym (is_given h))
      (subst (λ (j : ℕ). Puts d d' at to (t is bytes (part text (word words text (3 * k + 1)) (word words text j)) ∷ [])) e P)

  pub needed_absent : (t : ℕ) (K : Kind) → Has t K → {d d' : Bytes} {at : ℕ} → word words text (3 * k) ≡ 0 → Puts d d' at None (t is bytes (needed words text k) ∷ [])
  needed_absent t K H {d} {d'} {at} e =
      subst (λ (b : Bool). Puts d d' at None (t is bytes (cond b (text_at words text k) []) ∷ [])) (sym (not_given e)) (field_unfit t K [] H (sym (fit_empty K [] refl)))

  -- AN AMOUNT
  abbrev whole : ℕ
  whole = word words text (3 * k + 1)

  abbrev places : ℕ
  places = word words text (3 * k + 2)

  figure_is : (t : ℕ) {d d' : Bytes} {at : ℕ} {to : Option ℕ} → (word words text (3 * k) ≡ 0 → ⊥) → Puts d d' at to (t is bytes (pointing whole places) ∷ []) → Puts d d' at to (t is bytes (amount_text (amount_at words text k)) ∷ [])
  unfolding amount_text
  figure_is t {d} {d'} {at} {to} h P =
      subst (λ (b : Bool). Puts d d' at to (t is bytes (amount_text (cond b (record { whole = whole; places = places }) (record { whole = 0; places = 9 }))) ∷ [])) (sym (is_given h)) P

  pub figure_put : (t : ℕ) → Has t Kind.decimal → {d d₁ d₂ d₃ : Bytes} {at a b to : ℕ} → (word words text (3 * k) ≡ 0 → ⊥) → whole ≤ 999_999_999_999_999 → places ≤ 8 → Wrote d d₁ at a (decimal t ++ fix "=") → Wrote d₁ d₂ a b (pointing whole places)
      → Wrote d₂ d₃ b to (fix "|") → Puts d d₃ at (Some to) (t is bytes (amount_text (amount_at words text k)) ∷ [])
  figure_put t H h l m u v w =
      figure_is t h (field_put t Kind.decimal (pointing whole places) H (figure_fit whole places l m) (chain (chain u v) w))

  pub figure_too_large : (t : ℕ) → Has t Kind.decimal → {d d' : Bytes} {at : ℕ} → (word words text (3 * k) ≡ 0 → ⊥) → 999_999_999_999_999 < whole → Puts d d' at None (t is bytes (amount_text (amount_at words text k)) ∷ [])
  figure_too_large t H h l = figure_is t h (field_unfit t Kind.decimal _ H (figure_large whole places l))

  pub figure_too_fine : (t : ℕ) → Has t Kind.decimal → {d d' : Bytes} {at : ℕ} → (word words text (3 * k) ≡ 0 → ⊥) → 8 < places → Puts d d' at None (t is bytes (amount_text (amount_at words text k)) ∷ [])
  figure_too_fine t H h l = figure_is t h (field_unfit t Kind.decimal _ H (figure_fine whole places l))

  pub figure_absent : (t : ℕ) → Has t Kind.decimal → {d d' : Bytes} {at : ℕ} → word words text (3 * k) ≡ 0 → Puts d d' at None (t is bytes (amount_text (amount_at words text k)) ∷ [])
  unfolding amount_text
  figure_absent t H {d} {d'} {at} e =
      subst (λ (b : Bool). Puts d d' at None (t is bytes (amount_text (cond b (record { whole = whole; places = places }) (record { whole = 0; places = 9 }))) ∷ [])) (sym (not_given e)) (field_unfit t Kind.decimal _ H (figure_fine 0 9 (omega arith)))

  -- AN OPTIONAL VALUE
  pub optional_put : (t : ℕ) {d d' : Bytes} {at : ℕ} {to : Option ℕ} → (word words text (3 * k) ≡ 0 → ⊥) → Puts d d' at to (t is bytes (part text (word words text (3 * k + 1)) (word words text (3 * k + 1 + 1))) ∷ []) → Puts d d' at to (t is optional (may_be words text k) ∷ [])
  optional_put t {d} {d'} {at} {to} h P =
      let e : 3 * k + 1 + 1 ≡ 3 * k + 2 = omega arith in
      subst (λ (b : Bool). Puts d d' at to (t is optional (cond b (some (text_at words text k)) none) ∷ [])) (sym (is_given h))
      (subst (λ (j : ℕ). Puts d d' at to (t is bytes (part text (word words text (3 * k + 1)) (word words text j)) ∷ [])) e P)

  pub optional_absent : (t : ℕ) (K : Kind) → Optional t K → {d : Bytes} {at : ℕ} → word words text (3 * k) ≡ 0 → Puts d d at (Some at) (t is optional (may_be words text k) ∷ [])
  optional_absent t K O {d} {at} e =
      subst (λ (b : Bool). Puts d d at (Some at) (t is optional (cond b (some (text_at words text k)) none) ∷ [])) (sym (not_given e)) (field-absent t O.may)
