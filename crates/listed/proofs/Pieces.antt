-- A label and a value, byte by byte. Assumes nothing.
use Rattle.std.proofs.Common.{Some, None, Ok, Err, MatchOption, Bor, length-take-le}
use Rattle.std.proofs.Common as Std
use Rattle.std.specs.Cmp.Lexicographic.{pointwise}
use Rattle.std.specs.List.{position, position_from}
use Rattle.std.proofs.lemmas.Iterator.Adapters.{position_from-zero}
use Rattle.std.proofs.lemmas.Option.{none-some}
use Rattle.std.proofs.lemmas.List.Quantifiers.{position-Some}
use Rattle.std.proofs.lemmas.List.{append_cancel_left}
use Rattle.std.proofs.lemmas.Slice.Eq.{slice_eq-Decides}
use Rattle.std.proofs.lemmas.Bool.Decides.{Decides-eqb}
use Prim.Native.Nat.{ℕ, zero, suc, ◌+◌, ◌<◌}
use native.Mathlib.Numerals.{add-one}
use native.Mathlib.Omega.{arith}
use mathlib.Core.Path.{◌≡◌, refl, sym, ap, ap₂, ◌∙◌, subst}
use mathlib.Core.List.{[], ◌∷◌, ◌++◌, append_assoc, head-eq_of_cons-eq, tail-eq_of_cons-eq}
use mathlib.Core.Bool.{Bool, true, false, cond, not, ◌||◌, false≢true}
use mathlib.Core.Logic.{inl, inr}
use mathlib.Core.Option.{Option, none, some, some-injective, none-ne-some}
use lib.Dec.{eqb}
use lib.ListN.{length, take, drop, get_or, take-append-drop}
use lib.Seq.{drop-cons, take-append_seam, drop-append_seam}
use borrow.Author.Tests.{eq-eqb, eqb-true, not-true}
use Rattle.octets.specs.Bytes.{Bytes, has, starts}
use Rattle.octets.proofs.Tests.{neither, any_append}
use Rattle.fields.proofs.Firsts.{starts-append}
use Rattle.fault.specs.declared.Fault.{Fault}
use Rattle.fault.specs.Fault.{reason}
use Rattle.kinds.specs.Kind.{Kind, formed, allowed}
use Rattle.kinds.specs.Judged.{judged}
use Rattle.message.specs.code.Writable.{unwritten}
use Rattle.message.proofs.Fitness.{fit_empty, fit_judged}
use Rattle.listed.specs.code.Taken.{left, Took, anything, without, Just, Value, Labelled, Maybe}
use Rattle.listed.proofs.Taking.{refused, reworded, Onward, on, Both, joined}

-- A LABEL
module _ (s label : Bytes) where
  label_none : pointwise eqb (take (length label) s) label ≡ false → Took (Just label) anything s none
  label_none f =
      refused
      (λ m t e n w.
      let d : take (length label) s ≡ label = ap (take (length label)) (w ∙ ap (λ (x : Bytes). x ++ t) e) ∙ take-append_seam label t in
      false≢true (sym f ∙ (slice_eq-Decides Decides-eqb (take (length label) s) label _ refl).1 d))

  label_some : pointwise eqb (take (length label) s) label ≡ true → Took (Just label) anything s (some (drop (length label) s))
  label_some f =
      let d : take (length label) s ≡ label = (slice_eq-Decides Decides-eqb (take (length label) s) label _ refl).0 f in
      let c : s ≡ label ++ drop (length label) s = sym (take-append-drop (length label) s) ∙ ap (λ (x : Bytes). x ++ drop (length label) s) d in
      record {
        seen = λ t e. (label, (refl, c ∙ ap (λ (x : Bytes). label ++ x) (some-injective _ _ e)));
        found = λ m t e n w. ap (λ (x : Bytes). some x) (ap (drop (length label)) (w ∙ ap (λ (x : Bytes). x ++ t) e) ∙ drop-append_seam label t);
      }

  pub stripped : (r : Std.Option (Bor Bytes))
      → MatchOption r (pointwise eqb (take (length label) s) label ≡ false) (λ x. (pointwise eqb (take (length label) s) label ≡ true) × (x.now ≡ drop (length label) s) × (length x.now + length label ≡ length s))
      → Took (Just label) anything s (left r)
  stripped None f = label_none f
  stripped (Some x) f = subst (λ (y : Bytes). Took (Just label) anything s (some y)) (sym f.1) (label_some f.0)

-- A VALUE
-- up to the first `|`
first_bar : (u v a b : Bytes) → has u 1 ≡ false → has v 1 ≡ false → u ++ (1 ∷ a) ≡ v ++ (1 ∷ b) → u ≡ v
first_bar [] [] a b h k e = refl
first_bar [] (y ∷ v) a b h k e =
    absurd (false≢true (sym (neither (eqb y 1) (has v 1) k).0 ∙ eq-eqb y 1 (sym (head-eq_of_cons-eq e))))
first_bar (x ∷ u) [] a b h k e =
    absurd (false≢true (sym (neither (eqb x 1) (has u 1) h).0 ∙ eq-eqb x 1 (head-eq_of_cons-eq e)))
first_bar (x ∷ u) (y ∷ v) a b h k e =
    ap₂ (λ (z : ℕ) (t : Bytes). z ∷ t) (head-eq_of_cons-eq e)
    (first_bar u v a b (neither (eqb x 1) (has u 1) h).1 (neither (eqb y 1) (has v 1) k).1 (tail-eq_of_cons-eq e))

-- a value that can be written has no `|`
fit_free : (k : Kind) (v : Bytes) → not (unwritten k v) ≡ true → has v 1 ≡ false
unfolding unwritten
fit_free k v h =
    let a = neither (eqb (length v) 0 || has v 1 || not (formed k v)) (not (allowed k v)) (not-true _ h) in
    let b = neither (eqb (length v) 0 || has v 1) (not (formed k v)) a.0 in
    (neither (eqb (length v) 0) (has v 1) b.0).1

-- the first `|`, and none before it
bar_is : (s : Bytes) (n : ℕ) → position (λ x. eqb x 1) s ≡ Some n → (n < length s) × ((has (take n s) 1 ≡ false) × (s ≡ take n s ++ (1 ∷ drop (n + 1) s)))
bar_is s n e =
    let w = position-Some (λ x. eqb x 1) s n 0 e in
    let one : get_or s n 0 ≡ 1 = eqb-true (get_or s n 0) 1 w.1 in
    let c : drop n s ≡ 1 ∷ drop (n + 1) s = drop-cons s n 0 w.0 ∙ ap₂ (λ (x : ℕ) (j : ℕ). x ∷ drop j s) one (sym (add-one n)) in
    (w.0, (free s n w.2, sym (take-append-drop n s) ∙ ap (λ (t : Bytes). take n s ++ t) c))
  where
    free : (s : Bytes) (n : ℕ) → ((i : ℕ) → i < n → eqb (get_or s i 0) 1 ≡ false) → has (take n s) 1 ≡ false
    free s zero f = refl
    free [] (suc n) f = refl
    free (x ∷ s) (suc n) f = rw (f 0 (omega arith), free s n (λ i h. f (suc i) (omega arith)))

no_bar_from : (s : Bytes) (i : ℕ) → position_from (λ x. eqb x 1) i s ≡ None → has s 1 ≡ false
no_bar_from [] i e = refl
no_bar_from (x ∷ s) i e = go (eqb x 1) (no_bar_from s (i + 1)) e
  where
    go : (b : Bool) → (position_from (λ x. eqb x 1) (i + 1) s ≡ None → has s 1 ≡ false) → cond b (Some i) (position_from (λ x. eqb x 1) (i + 1) s) ≡ None → (b || has s 1) ≡ false
    go true h f = absurd (none-some i (sym f))
    go false h f = h f

no_bar : (s : Bytes) → position (λ x. eqb x 1) s ≡ None → has s 1 ≡ false
no_bar s e = no_bar_from s 0 (sym (position_from-zero (λ x. eqb x 1) s) ∙ e)

module _ (k : Kind) (s : Bytes) where
  -- a value with its `|` is what stands before the first `|`
  module _ (n : ℕ) (B : position (λ x. eqb x 1) s ≡ Some n) where
    cut : s ≡ take n s ++ (1 ∷ drop (n + 1) s)
    cut = (bar_is s n B).1.1

    free : has (take n s) 1 ≡ false
    free = (bar_is s n B).1.0

    only : (v t : Bytes) → not (unwritten k v) ≡ true → s ≡ (v ++ (1 ∷ [])) ++ t → (v ≡ take n s) × (t ≡ drop (n + 1) s)
    only v t h w =
        let d : v ++ (1 ∷ t) ≡ take n s ++ (1 ∷ drop (n + 1) s) = sym (append_assoc v (1 ∷ []) t) ∙ sym w ∙ cut in
        let e = first_bar v (take n s) t (drop (n + 1) s) (fit_free k v h) free d in
        (e, tail-eq_of_cons-eq (append_cancel_left (take n s) (1 ∷ t) (1 ∷ drop (n + 1) s) (ap (λ (x : Bytes). x ++ (1 ∷ t)) (sym e) ∙ d)))

    unfit_refused : not (unwritten k (take n s)) ≡ false → Took (Value k) anything s none
    unfit_refused f =
        refused
        (λ m t g h w.
        false≢true (sym f ∙ ap (λ (v : Bytes). not (unwritten k v)) (sym (only g.0 t g.1.0 (w ∙ ap (λ (x : Bytes). x ++ t) g.1.1)).0) ∙ g.1.0))

    pub value_empty : n ≡ 0 → Took (Value k) anything s none
    value_empty e = unfit_refused (ap (λ (j : ℕ). not (unwritten k (take j s))) e ∙ sym (fit_empty k [] refl))

    long : (n ≡ 0 → ⊥) → length (take n s) ≡ 0 → ⊥
    long z e = z (omega (arith, length-take-le n s (omega (arith, (bar_is s n B).0)), e))

    pub value_unfit : (f : Fault) → (n ≡ 0 → ⊥) → reason (Err f) ≡ judged k (take n s) → Took (Value k) anything s none
    value_unfit f z e = unfit_refused (sym (fit_judged k (take n s) (Err f) (long z) refl free e))

    pub value_taken : (n ≡ 0 → ⊥) → reason (Ok tt) ≡ judged k (take n s) → Took (Value k) anything s (some (drop (n + 1) s))
    value_taken z e =
        record {
          seen = λ t q.
              (take n s ++ (1 ∷ []), ((take n s, (sym (fit_judged k (take n s) (Ok tt) (long z) refl free e), refl)), cut ∙ sym (append_assoc (take n s) (1 ∷ []) (drop (n + 1) s)) ∙ ap (λ (x : Bytes). (take n s ++ (1 ∷ [])) ++ x) (some-injective _ _ q)));
          found = λ m t g h w. ap (λ (x : Bytes). some x) (sym (only g.0 t g.1.0 (w ∙ ap (λ (x : Bytes). x ++ t) g.1.1)).1);
        }

  -- no `|` to the end
  pub value_open : position (λ x. eqb x 1) s ≡ None → Took (Value k) anything s none
  value_open e =
      refused
      (λ m t g h w.
      let v : Bytes = g.0 in
      let d : s ≡ v ++ (1 ∷ t) = w ∙ ap (λ (x : Bytes). x ++ t) g.1.1 ∙ append_assoc v (1 ∷ []) t in
      let q : has (v ++ (1 ∷ t)) 1 ≡ true = any_append (λ (y : ℕ). eqb y 1) v (1 ∷ t) ∙ rw (fit_free k v g.1.0) in
      false≢true (sym (no_bar s e) ∙ ap (λ (x : Bytes). has x 1) d ∙ q))

-- A LABEL WITH A VALUE
module _ (label : Bytes) (k : Kind) {s : Bytes} where
  pub labelled : {q r : Option Bytes} → Took (Just label) anything s q → Onward (Value k) anything q r → Took (Labelled label k) anything s r
  labelled P Q = reworded there back (joined (λ y t h n. refl) P Q)
    where
      there : (m : Bytes) → Both (Just label) (Value k) m → Labelled label k m
      there m (x, (y, (e, ((v, (u, f)), w)))) = (v, (u, w ∙ ap₂ (λ (a : Bytes) (b : Bytes). a ++ b) e f))

      back : (m : Bytes) → Labelled label k m → Both (Just label) (Value k) m
      back m (v, (u, w)) = (label, (v ++ (1 ∷ []), (refl, ((v, (u, refl)), w))))

  -- or nothing: what follows then does not begin with the label
  pub maybe_none : Took (Just label) anything s none → Took (Maybe label k) (without label) s (some s)
  maybe_none P = record { seen = λ t e. ([], (inl refl, some-injective _ _ e)); found = found }
    where
      found : (m t : Bytes) → Maybe label k m → without label t ≡ true → s ≡ m ++ t → some s ≡ some t
      found m t (inl e) n w = ap (λ (x : Bytes). some x) (w ∙ ap (λ (x : Bytes). x ++ t) e)
      found m t (inr (v, (u, e))) n w =
          absurd (none-ne-some _ (P.found label ((v ++ (1 ∷ [])) ++ t) refl refl (w ∙ ap (λ (x : Bytes). x ++ t) e ∙ append_assoc label (v ++ (1 ∷ [])) t)))

  pub maybe_some : {u : Bytes} {r : Option Bytes} → Took (Just label) anything s (some u) → Took (Value k) anything u r → Took (Maybe label k) (without label) s r
  maybe_some {u} {r} P Q =
      let L = labelled P (on Q) in
      record { seen = λ t e. let w = L.seen t e in (w.0, (inr w.1.0, w.1.1)); found = found }
    where
      found : (m t : Bytes) → Maybe label k m → without label t ≡ true → s ≡ m ++ t → r ≡ some t
      found m t (inl e) n w =
          let p = P.seen u refl in
          let d : t ≡ label ++ u = sym (w ∙ ap (λ (x : Bytes). x ++ t) e) ∙ p.1.1 ∙ ap (λ (x : Bytes). x ++ u) p.1.0 in
          absurd (false≢true (sym (not-true _ n) ∙ ap (starts label) d ∙ starts-append label u))
      found m t (inr g) n w = (labelled P (on Q)).found m t g refl w
