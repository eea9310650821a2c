-- One count field says how many instances a group has, and where it says one, each member is there at most once.
-- Assumes nothing.
use Prim.Native.Nat.{ℕ, ◌+◌, ◌≤◌}
use native.Mathlib.Omega.{arith}
use borrow.Author.Tests.{eq-eqb, eqb-true}
use mathlib.Core.Path.{◌≡◌, refl, ap, sym, ◌∙◌, subst}
use mathlib.Core.List.{List, [], ◌∷◌}
use mathlib.Core.Bool.{Bool, true, false, cond, false≢true}
use lib.Dec.{eqb}
use lib.ListN.{length}
use Rattle.octets.specs.Bytes.{Bytes, has, value}
use Rattle.octets.proofs.Tests.{or_last}
use Rattle.octets.proofs.Numerals.{within_is}
use Rattle.fields.specs.Field.{Part, field, malformed, part_of}
use Rattle.kinds.specs.Kind.{number◌to◌, allowed}
use Rattle.table.specs.Dictionary.{Group, rows_of, listed, kind_in, in_dictionary}
use Rattle.table.specs.declared.MsgType.{MsgType}
use Rattle.dictionary.specs.Groups.{kept, fields_among, Instances, ended, begins, follows, Counted, none, one, Grouped}
use Rattle.dictionary.specs.Promise.{PassedPart, AllPassed}
use Rattle.dictionary.proofs.Grouping.{counts, Left}

-- THE COUNT of a clean body is in its range
abbrev InRange : ℕ → List (ℕ × Bytes) → Type 0
InRange most [] = Unit {0}
InRange most (f ∷ fs) = ((1 ≤ value f.1) × (value f.1 ≤ most)) × InRange most fs

module _ (m : MsgType) (c most : ℕ) (known : in_dictionary c ≡ true) (kind : kind_in (rows_of m) c ≡ number 1 to most) where
  counts_in_range : (ps : List Bytes) → AllPassed m ps → InRange most (fields_among (eqb c) ps)
  unfolding allowed
  counts_in_range [] A = tt
  counts_in_range (p ∷ ps) A = go (part_of p) A.0 (counts_in_range ps A.1)
    where
      go : (q : Part) → PassedPart m q → InRange most (fields_among (eqb c) ps) → InRange most (kept (eqb c) q (fields_among (eqb c) ps))
      go malformed P R = absurd P
      go (field t v) P R = by (eqb c t) refl
        where
          ranged : c ≡ t → (1 ≤ value v) × (value v ≤ most)
          ranged e = within_is 1 most (value v) (rw kind at (subst (λ (n : ℕ). allowed (kind_in (rows_of m) n) v ≡ true) (sym e) (P.of_kind (subst (λ (n : ℕ). in_dictionary n ≡ true) e known)).value))

          by : (b : Bool) → eqb c t ≡ b → InRange most (cond b ((t, v) ∷ fields_among (eqb c) ps) (fields_among (eqb c) ps))
          by true e = (ranged (eqb-true c t e), R)
          by false e = R

counted_by : (most : ℕ) (cs : List (ℕ × Bytes)) (n : ℕ) → length cs ≤ 1 → InRange most cs → 0 + n ≡ 0 + counts cs → Counted most cs n
counted_by most [] n l R e = subst (Counted most []) (sym (omega (arith, e))) none
counted_by most (f ∷ []) n l R e = let q : value f.1 ≡ n = omega arith in subst (Counted most (f ∷ [])) q (one R.0.0 R.0.1)
counted_by most (f ∷ h ∷ cs) n l R e = absurd (omega arith)

pub grouped_so : (m : MsgType) (g : Group) (ps : List Bytes) → in_dictionary g.counter ≡ true → kind_in (rows_of m) g.counter ≡ number 1 to g.most → AllPassed m ps
    → length (fields_among (eqb g.counter) ps) ≤ 1 → Left g [] 0 0 (fields_among (listed g.members) ps) (fields_among (eqb g.counter) ps) → Grouped g ps
grouped_so m g ps k d A l L =
    record { number = L.number; instances = L.instances; counted = counted_by g.most (fields_among (eqb g.counter) ps) L.number l (counts_in_range m g.counter g.most k d ps A) L.counted }

pub few : {most : ℕ} {cs : List (ℕ × Bytes)} {n : ℕ} → Counted most cs n → n ≤ most
few none = omega arith
few (one a b) = b

-- ONE INSTANCE has each member at most once
abbrev pub those : ℕ → List (ℕ × Bytes) → List (ℕ × Bytes)
those t [] = []
those t (f ∷ fs) = cond (eqb t f.0) (f ∷ those t fs) (those t fs)

pub those-fields : (such : ℕ → Bool) (t : ℕ) → such t ≡ true → (ps : List Bytes) → those t (fields_among such ps) ≡ fields_among (eqb t) ps
those-fields such t h [] = refl
those-fields such t h (p ∷ ps) = go (part_of p) (those-fields such t h ps)
  where
    go : (q : Part) → those t (fields_among such ps) ≡ fields_among (eqb t) ps → those t (kept such q (fields_among such ps)) ≡ kept (eqb t) q (fields_among (eqb t) ps)
    go malformed e = e
    go (field u v) e = by (such u) (eqb t u) refl refl
      where
        by : (a b : Bool) → such u ≡ a → eqb t u ≡ b → those t (cond a ((u, v) ∷ fields_among such ps) (fields_among such ps)) ≡ cond b ((u, v) ∷ fields_among (eqb t) ps) (fields_among (eqb t) ps)
        by true true x y = rw y (ap (λ (l : List (ℕ × Bytes)). (u, v) ∷ l) e)
        by true false x y = rw y e
        by false true x y = absurd (false≢true (sym x ∙ ap such (sym (eqb-true t u y)) ∙ h))
        by false false x y = e

record Once (t : ℕ) (met : List ℕ) (fs : List (ℕ × Bytes)) : Type 0 where
  no_more : has met t ≡ true → fs ≡ []
  at_most : length fs ≤ 1

module _ {g : Group} (t : ℕ) where
  rest_once : {met : List ℕ} {fs : List (ℕ × Bytes)} {n : ℕ} → Instances g met fs n → n ≡ 0 → Once t met (those t fs)
  rest_once (ended W) z = record { no_more = λ h. refl; at_most = omega arith }
  rest_once (begins W f I) z = absurd (omega arith)
  rest_once (follows {u = u} {met = met} {t = s} {v = v} {fs = fs} x f h I) z = go (eqb t s) refl (rest_once I z)
    where
      go : (b : Bool) → eqb t s ≡ b → Once t (s ∷ u ∷ met) (those t fs) → Once t (u ∷ met) (cond b ((s, v) ∷ those t fs) (those t fs))
      go true e O =
          let q = eqb-true t s e in
          record { no_more = λ y. absurd (false≢true (sym h ∙ ap (has (u ∷ met)) (sym q) ∙ y)); at_most = omega (arith, ap length (O.no_more (rw (eq-eqb s t (sym q))))) }
      go false e O = record { no_more = λ y. O.no_more (or_last (eqb s t) (has (u ∷ met) t) y); at_most = O.at_most }

  pub single : {fs : List (ℕ × Bytes)} {n : ℕ} → Instances g [] fs n → n ≤ 1 → length (those t fs) ≤ 1
  single (ended W) l = omega arith
  single (begins {t = s} {v = v} {fs = fs} W f I) l = go (eqb t s) refl (rest_once I (omega arith))
    where
      go : (b : Bool) → eqb t s ≡ b → Once t (s ∷ []) (those t fs) → length (cond b ((s, v) ∷ those t fs) (those t fs)) ≤ 1
      go true e O = omega (arith, ap length (O.no_more (rw (eq-eqb s t (sym (eqb-true t s e))))))
      go false e O = O.at_most
