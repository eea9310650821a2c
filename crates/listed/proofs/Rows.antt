-- Labels and values as fields of a report, and fields behind fields. Assumes nothing.
use Prim.Native.Nat.{ℕ}
use mathlib.Core.Path.{◌≡◌, refl, sym, ap, ap₂, ◌∙◌}
use mathlib.Core.List.{List, [], ◌∷◌, ◌++◌, append_assoc, append-nil}
use mathlib.Core.Bool.{Bool, true, false, not, ◌||◌}
use mathlib.Core.Logic.{inl, inr}
use mathlib.Core.Option.{Option, none, some}
use lib.Dec.{eqb}
use lib.ListN.{length}
use borrow.Author.Tests.{not-true, not-false}
use Rattle.octets.specs.Bytes.{Bytes, fix, any, has, decimal}
use Rattle.octets.proofs.Tests.{neither, any_append}
use Rattle.decimals.specs.Decimal.{is_decimal, whole_of, places_of}
use Rattle.kinds.specs.Kind.{Kind, formed, allowed}
use Rattle.table.specs.declared.MsgType.TheVariants.{TradeCaptureReport}
use Rattle.message.specs.Message.{bytes, Field, ◌is◌, row}
use Rattle.message.specs.Unfit.{unfit}
use Rattle.message.specs.code.Writable.{unwritten}
use Rattle.message.proofs.Writes.{row_append}
use Rattle.amounts.specs.Amount.{Amount, amount_text}
use Rattle.amounts.proofs.Amounts.{pointing_only}
use Rattle.report.specs.Values.{optional}
use Rattle.report.specs.code.Puts.{Has, Optional}
use Rattle.report.proofs.Putting.{rejected_is}
use Rattle.listed.specs.code.Taken.{anything, Labelled, Maybe, Fields}
use Rattle.listed.proofs.Taking.{Onward, onward_reworded, Both, onward_joined}

abbrev pub fits : List Field → Type 0
fits fs = any (unfit TradeCaptureReport) fs ≡ false

pub fit_both : (fs gs : List Field) → fits fs → fits gs → fits (fs ++ gs)
fit_both fs gs h k = any_append (unfit TradeCaptureReport) fs gs ∙ rw (h, k)

pub both_fit : (fs gs : List Field) → fits (fs ++ gs) → fits fs × fits gs
both_fit fs gs h = neither (any (unfit TradeCaptureReport) fs) (any (unfit TradeCaptureReport) gs) (sym (any_append (unfit TradeCaptureReport) fs gs) ∙ h)

-- ONE FIELD, its label in front of it; fields that are always the same may be part of the label
module _ (fs : List Field) (fit : fits fs) (t : ℕ) (k : Kind) (H : Has t k) (label : Bytes) (begun : label ≡ row fs ++ (decimal t ++ fix "=")) where
  can : (v : Bytes) → not (unwritten k v) ≡ true → fits (t is bytes v ∷ [])
  can v h = ap (λ (b : Bool). b || false) (rejected_is t k v H ∙ not-true _ h)

  could : (v : Bytes) → fits (t is bytes v ∷ []) → not (unwritten k v) ≡ true
  could v h = ap not (sym (rejected_is t k v H) ∙ (neither _ false h).0)

  shape : (v : Bytes) → label ++ (v ++ fix "|") ≡ row (fs ++ (t is bytes v ∷ []))
  shape v =
      ap (λ (x : Bytes). x ++ (v ++ fix "|")) begun
      ∙ append_assoc (row fs) (decimal t ++ fix "=") (v ++ fix "|")
      ∙ ap (λ (x : Bytes). row fs ++ x) (sym (append_assoc (decimal t ++ fix "=") v (fix "|")) ∙ sym (append-nil (decimal t ++ fix "=" ++ v ++ fix "|")))
      ∙ sym (row_append fs (t is bytes v ∷ []))

  there : (m : Bytes) → Labelled label k m → Fields (λ (v : Bytes). fs ++ (t is bytes v ∷ [])) m
  there m (v, (u, e)) = (v, (fit_both fs (t is bytes v ∷ []) fit (can v u), e ∙ shape v))

  back : (m : Bytes) → Fields (λ (v : Bytes). fs ++ (t is bytes v ∷ [])) m → Labelled label k m
  back m (v, (u, e)) = (v, (could v (both_fit fs (t is bytes v ∷ []) u).1, e ∙ sym (shape v)))

  pub field_took : {N : Bytes → Bool} {q r : Option Bytes} → Onward (Labelled label k) N q r → Onward (Fields (λ (v : Bytes). fs ++ (t is bytes v ∷ []))) N q r
  field_took T = onward_reworded there back T

-- an amount: its text is the one that is written for it
text_same : (v : Bytes) → not (unwritten Kind.decimal v) ≡ true → amount_text (record { whole = whole_of v; places = length (places_of v) }) ≡ v
unfolding amount_text unwritten formed
text_same v h =
    let a = neither _ (not (allowed Kind.decimal v)) (not-true _ h) in
    let b = neither (eqb (length v) 0 || has v 1) (not (is_decimal v)) a.0 in
    pointing_only v (not-false _ b.1)

module _ (t : ℕ) (H : Has t Kind.decimal) (label : Bytes) (begun : label ≡ decimal t ++ fix "=") where
  pub figure_took : {N : Bytes → Bool} {q r : Option Bytes} → Onward (Labelled label Kind.decimal) N q r → Onward (Fields (λ (a : Amount). t is bytes (amount_text a) ∷ [])) N q r
  figure_took T = onward_reworded there_amount back_amount T
    where
      there_amount : (m : Bytes) → Labelled label Kind.decimal m → Fields (λ (a : Amount). t is bytes (amount_text a) ∷ []) m
      there_amount m (v, (u, e)) =
          let a : Amount = record { whole = whole_of v; places = length (places_of v) } in
          let w : v ≡ amount_text a = sym (text_same v u) in
          let c = can [] refl t Kind.decimal H label begun v u in
          (a, (ap (λ (x : Bytes). any (unfit TradeCaptureReport) (t is bytes x ∷ [])) (sym w) ∙ c, e ∙ shape [] refl t Kind.decimal H label begun v ∙ ap (λ (x : Bytes). row (t is bytes x ∷ [])) w))

      back_amount : (m : Bytes) → Fields (λ (a : Amount). t is bytes (amount_text a) ∷ []) m → Labelled label Kind.decimal m
      back_amount m (a, (u, e)) = back [] refl t Kind.decimal H label begun m (amount_text a, (u, e))

-- one that may be absent
module _ (t : ℕ) (k : Kind) (O : Optional t k) (label : Bytes) (begun : label ≡ decimal t ++ fix "=") where
  pub optional_took : {N : Bytes → Bool} {q r : Option Bytes} → Onward (Maybe label k) N q r → Onward (Fields (λ (o : Option Bytes). t is optional o ∷ [])) N q r
  optional_took T = onward_reworded there_maybe back_maybe T
    where
      there_maybe : (m : Bytes) → Maybe label k m → Fields (λ (o : Option Bytes). t is optional o ∷ []) m
      there_maybe m (inl e) = (none, (ap (λ (b : Bool). b || false) O.may, e))
      there_maybe m (inr (v, (u, e))) = (some v, (can [] refl t k O.has label begun v u, e ∙ shape [] refl t k O.has label begun v))

      back_maybe : (m : Bytes) → Fields (λ (o : Option Bytes). t is optional o ∷ []) m → Maybe label k m
      back_maybe m (none, (u, e)) = inl e
      back_maybe m (some v, (u, e)) = inr (back [] refl t k O.has label begun m (v, (u, e)))

-- FIELDS BEHIND FIELDS
module _ {A B : Type 0} (f : A → List Field) (g : B → List Field) {N M : Bytes → Bool} {o q r : Option Bytes} where
  pub fields_joined : ((y rest : Bytes) → Fields g y → M rest ≡ true → N (y ++ rest) ≡ true) → Onward (Fields f) N o q → Onward (Fields g) M q r
      → Onward (Fields (λ (p : A × B). f p.0 ++ g p.1)) M o r
  fields_joined follows P Q = onward_reworded there_both back_both (onward_joined follows P Q)
    where
      there_both : (m : Bytes) → Both (Fields f) (Fields g) m → Fields (λ (p : A × B). f p.0 ++ g p.1) m
      there_both m (x, (y, ((a, (u, d)), ((b, (v, e)), w)))) =
          ((a, b), (fit_both (f a) (g b) u v, w ∙ ap₂ (λ (s : Bytes) (t : Bytes). s ++ t) d e ∙ sym (row_append (f a) (g b))))

      back_both : (m : Bytes) → Fields (λ (p : A × B). f p.0 ++ g p.1) m → Both (Fields f) (Fields g) m
      back_both m (p, (u, e)) =
          let F = both_fit (f p.0) (g p.1) u in
          (row (f p.0), (row (g p.1), ((p.0, (F.0, refl)), ((p.1, (F.1, refl)), e ∙ row_append (f p.0) (g p.1)))))

pub three-joined : {A B C : Type 0} (f : A → List Field) (g : B → List Field) (h : C → List Field) {N : Bytes → Bool} {o a b r : Option Bytes}
    → Onward (Fields f) anything o a → Onward (Fields g) anything a b → Onward (Fields h) N b r
    → Onward (Fields (λ (p : A × (B × C)). f p.0 ++ (g p.1.0 ++ h p.1.1))) N o r
three-joined {A} {B} {C} f g h P Q R =
    fields_joined f (λ (p : B × C). g p.0 ++ h p.1) (λ y rest k n. refl) P (fields_joined g h (λ y rest k n. refl) Q R)

-- the same fields of other values
pub renamed : {A B : Type 0} (f : A → List Field) (g : B → List Field) (to : A → B) (from : B → A) → ((a : A) → f a ≡ g (to a)) → ((b : B) → g b ≡ f (from b))
    → {N : Bytes → Bool} {q r : Option Bytes} → Onward (Fields f) N q r → Onward (Fields g) N q r
renamed {A} {B} f g to from p q T = onward_reworded there_named back_named T
  where
    there_named : (m : Bytes) → Fields f m → Fields g m
    there_named m (a, (u, e)) = (to a, (ap (any (unfit TradeCaptureReport)) (sym (p a)) ∙ u, e ∙ ap row (p a)))

    back_named : (m : Bytes) → Fields g m → Fields f m
    back_named m (b, (u, e)) = (from b, (ap (any (unfit TradeCaptureReport)) (sym (q b)) ∙ u, e ∙ ap row (q b)))
