-- The pass: what the words hold of the fields before a place, and how each field moves that on.
use Prim.Native.Nat.{ℕ, zero, suc, ◌+◌, ◌*◌, ◌≤◌, ◌<◌}
use native.Mathlib.Omega.{arith}
use mathlib.Core.Path.{◌≡◌, refl, sym, ap, ◌∙◌, subst}
use mathlib.Core.List.{List, [], ◌∷◌, ◌++◌, append-nil}
use mathlib.Core.Bool.{Bool, true, false, cond}
use lib.Dec.{eqb}
use lib.ListN.{length, get_or, set, replicate, length-set, get_or-replicate}
use lib.Seq.{get_or-set_same, get_or-set_other}
use mathlib.Core.Logic.{◌⊎◌, inl, inr}
use borrow.Author.Tests.{eqb-true, eqb-false}
use Rattle.octets.specs.Bytes.{Bytes}
use Rattle.fields.specs.Item.{Cut}
use Rattle.fields.specs.First.{first_place}
use Rattle.std.specs.Option.{option_or}
use Rattle.fields.specs.declared.Item.{Item}
use Rattle.fields.specs.declared.Item.TheVariants.{Field, Malformed, End, NoBody}
use Rattle.fields.specs.First.{Place, from_to}
use Rattle.std.specs.Prelude.{Some, None}
use Rattle.fields.proofs.Firsts.{place_from, first_found, first_passed, first_malformed, first_end, first_from}
use Rattle.readback.specs.Back.{every_place}
use Rattle.readback.specs.code.Pass.{slot_of, tag_at, pair_in, slot_noted, value_noted, words_at, three, part_at, part_tag, Parts, Noted, a_part, a_value, Gathered}
use Rattle.readback.proofs.Every.{places_from, every_from, every_found, every_passed, every_malformed, every_end}
use Rattle.readback.proofs.Noted.{Value, Part, value-kept, part-kept, part_long, part_noted, values_kept, parts_kept}
use Rattle.readback.proofs.Slots.{slot_small, slot_tag, tag_slot, tag_within, tag_party, words-absent, slot_long, slot_other, three_other, three-same}

pub record Sofar (body : Bytes) (at : ℕ) (words had : List ℕ) : Type 0 where
  pub long : length words ≡ 82
  pub values : (k : ℕ) → k < 11 → Value body at words k
  pub three_counts : length had ≡ 3
  pub parts : (j : ℕ) → j < 3 → Part body at words (part_tag j) j (get_or had j 0)

-- THE START: all words zero, nothing met
zero_at : (i : ℕ) → i < 82 → ◌≡◌ {A = ℕ} (get_or (replicate 82 0) i 0) 0
zero_at i h = get_or-replicate 82 i 0 0 h

none_yet : (body : Bytes) (t j : ℕ) → j < 3 → Part body 0 (replicate 82 0) t j 0
none_yet body t j h =
    record {
      places = [];
      noted = record { eight = omega arith; few = omega arith; most = λ q a b. b; starts = λ i l. zero_at (part_at i j) (omega arith); ends = λ i l. zero_at (part_at i j + 1) (omega arith) };
      met = refl;
    }

-- THE THREE PARTS of a party, one like the other
each_part : (P : ℕ → Type 0) → P 0 → P 1 → P 2 → (j : ℕ) → j < 3 → P j
each_part P a b c zero h = a
each_part P a b c (suc zero) h = b
each_part P a b c (suc (suc zero)) h = c
each_part P a b c (suc (suc (suc j))) h = absurd (omega arith)

part_within : (j : ℕ) → j < 3 → (1 ≤ part_tag j) × (part_tag j ≤ 99_999)
part_within = each_part (λ j. (1 ≤ part_tag j) × (part_tag j ≤ 99_999)) (omega arith, omega arith) (omega arith, omega arith) (omega arith, omega arith)

part_apart : (i j : ℕ) → i < 3 → j < 3 → part_tag i ≡ part_tag j → i ≡ j
part_apart i j h =
    each_part (λ j. part_tag i ≡ part_tag j → i ≡ j)
    (each_part (λ i. part_tag i ≡ 448 → i ≡ 0) (λ e. refl) (λ e. absurd (omega arith)) (λ e. absurd (omega arith)) i h)
    (each_part (λ i. part_tag i ≡ 447 → i ≡ 1) (λ e. absurd (omega arith)) (λ e. refl) (λ e. absurd (omega arith)) i h)
    (each_part (λ i. part_tag i ≡ 452 → i ≡ 2) (λ e. absurd (omega arith)) (λ e. absurd (omega arith)) (λ e. refl) i h) j

tag_part : (k : ℕ) → k < 11 → (j : ℕ) → j < 3 → tag_at k ≡ part_tag j → ⊥
tag_part k h = let T = tag_party k h in each_part (λ j. tag_at k ≡ part_tag j → ⊥) T.0 T.1 T.2

pub sofar_none : (body : Bytes) (words : List ℕ) → words ≡ replicate 82 0 → Sofar body 0 words (replicate 3 0)
sofar_none body words e =
    subst (λ (w : List ℕ). Sofar body 0 w (replicate 3 0)) (sym e)
    (record {
      long = refl;
      values = λ k h. record { place = None; said = said k h; met = refl };
      three_counts = refl;
      parts = each_part (λ j. Part body 0 (replicate 82 0) (part_tag j) j (get_or (replicate 3 0) j 0)) (none_yet body 448 0 (omega arith)) (none_yet body 447 1 (omega arith)) (none_yet body 452 2 (omega arith));
    })
  where
    said : (k : ℕ) → k < 11 → three (replicate 82 0) k ≡ words_at k body None
    said k h = rw (zero_at (3 * k) (omega arith), zero_at (3 * k + 1) (omega arith), zero_at (3 * k + 2) (omega arith)) (sym (words-absent k body))

-- NOTHING NOTED: a field, or a malformed part, that is none of what is looked for moves the place only
value-passed : {body : Bytes} {at : ℕ} {words : List ℕ} {k : ℕ} (next : ℕ) → place_from (tag_at k) body at ≡ place_from (tag_at k) body next → Value body at words k → Value body next words k
value-passed next e H = record { place = H.place; said = H.said; met = ap (option_or H.place) (sym e) ∙ H.met }

part-passed : {body : Bytes} {at : ℕ} {words : List ℕ} {t j n : ℕ} (next : ℕ) → places_from t body at ≡ places_from t body next → Part body at words t j n → Part body next words t j n
part-passed next e P = record { places = P.places; noted = P.noted; met = ap (λ (l : List (ℕ × ℕ)). P.places ++ l) (sym e) ∙ P.met }

pub sofar_malformed : (body : Bytes) (at : ℕ) (words had : List ℕ) {s e n : ℕ} → Cut body at (Malformed s e n) → Sofar body at words had → Sofar body n words had
sofar_malformed body at words had {s} {e} {n} C S =
    record {
      long = S.long;
      values = λ k h. value-passed n (first_malformed (tag_at k) (tag_within k h).0 (tag_within k h).1 body at s e n C) (S.values k h);
      three_counts = S.three_counts;
      parts = λ j h. part-passed n (every_malformed (part_tag j) (part_within j h).0 (part_within j h).1 body at s e n C) (S.parts j h);
    }

-- ONE FIELD
module _ (body : Bytes) (at t s e next : ℕ) (words had : List ℕ) (words' : List ℕ) (C : Cut body at (Field t s e next)) (S : Sofar body at words had) where
  value_on : (u : ℕ) → t ≡ u → (k : ℕ) → k < 11 → (tag_at k ≡ u → ⊥) → place_from (tag_at k) body at ≡ place_from (tag_at k) body next
  value_on u q k h n = first_passed (tag_at k) (tag_within k h).0 (tag_within k h).1 body at t s e next C (λ z. n (sym z ∙ q))

  part_on : (u : ℕ) → 1 ≤ u → u ≤ 99_999 → (t ≡ u → ⊥) → places_from u body at ≡ places_from u body next
  part_on u l h n = every_passed u l h body at t s e next C n

  part_met : (u : ℕ) → 1 ≤ u → u ≤ 99_999 → t ≡ u → places_from u body at ≡ (s, e) ∷ places_from u body next
  part_met u l h q = every_found u l h body at t s e next C q

  -- a value of the eleven, or none of them
  module _ (a : t ≡ 448 → ⊥) (b : t ≡ 447 → ⊥) (c : t ≡ 452 → ⊥) where
    no_part : (j : ℕ) → j < 3 → places_from (part_tag j) body at ≡ places_from (part_tag j) body next
    no_part j h = part_on (part_tag j) (part_within j h).0 (part_within j h).1 (each_part (λ j. t ≡ part_tag j → ⊥) a b c j h)

    none_noted : words' ≡ words → slot_of t ≡ 11 → Sofar body next words' had
    none_noted w z =
        subst (λ (l : List ℕ). Sofar body next l had) (sym w)
        (record {
          long = S.long;
          values = λ k h. value-passed next (first_passed (tag_at k) (tag_within k h).0 (tag_within k h).1 body at t s e next C (λ q. omega (arith, sym (tag_slot k h) ∙ ap slot_of (sym q) ∙ z))) (S.values k h);
          three_counts = S.three_counts;
          parts = λ j h. part-passed next (no_part j h) (S.parts j h);
        })

    one_noted : words' ≡ slot_noted words (slot_of t) (pair_in body (slot_of t) s e) → slot_of t < 11 → Sofar body next words' had
    one_noted w z =
        record {
          long = ap length w ∙ slot_long words (slot_of t) (pair_in body (slot_of t) s e) ∙ S.long;
          values = λ k h. go k h (eqb k (slot_of t)) refl;
          three_counts = S.three_counts;
          parts = λ j h. part-passed next (no_part j h) (kept j (S.parts j h));
        }
      where
        stays : (y : ℕ) → 33 ≤ y → get_or words' y 0 ≡ get_or words y 0
        stays y h = ap (λ (l : List ℕ). get_or l y 0) w ∙ slot_other words (slot_of t) (pair_in body (slot_of t) s e) y (λ q. omega arith) (λ q. omega arith) (λ q. omega arith)

        kept : (j : ℕ) {u n : ℕ} → Part body at words u j n → Part body at words' u j n
        kept j P = part-kept words' (λ i h. stays (part_at i j) (omega arith)) (λ i h. stays (part_at i j + 1) (omega arith)) P

        go : (k : ℕ) → k < 11 → (x : Bool) → eqb k (slot_of t) ≡ x → Value body next words' k
        go k h true q =
            let H = S.values k h in
            let i = eqb-true k (slot_of t) q in
            let g : tag_at k ≡ t = ap tag_at i ∙ slot_tag t z in
            let f = first_found (tag_at k) (tag_within k h).0 (tag_within k h).1 body at t s e next C (sym g) in
            record {
              place = option_or H.place (from_to s e);
              said =
                  ap (λ (l : List ℕ). three l k) (w ∙ ap (λ (m : ℕ). slot_noted words m (pair_in body m s e)) (sym i))
                  ∙ three-same words k body H.place s e S.long h H.said;
              met = taken H.place f H.met;
            }
          where
            taken : (p : Place) → from_to s e ≡ place_from (tag_at k) body at → option_or p (place_from (tag_at k) body at) ≡ place_from (tag_at k) body 0 → option_or (option_or p (from_to s e)) (place_from (tag_at k) body next) ≡ place_from (tag_at k) body 0
            taken (Some x) f m = m
            taken None f m = f ∙ m
        go k h false q =
            let n = eqb-false k (slot_of t) q in
            value-passed next (first_passed (tag_at k) (tag_within k h).0 (tag_within k h).1 body at t s e next C (λ d. n (sym (tag_slot k h) ∙ ap slot_of (sym d))))
            (value-kept words' (ap (λ (l : List ℕ). three l k) w ∙ three_other words (slot_of t) (pair_in body (slot_of t) s e) k n) (S.values k h))

    value_noted_lem : words' ≡ value_noted body t s e words → Sofar body next words' had
    value_noted_lem w = go (eqb (slot_of t) 11) refl w
      where
        go : (x : Bool) → eqb (slot_of t) 11 ≡ x → words' ≡ cond x words (slot_noted words (slot_of t) (pair_in body (slot_of t) s e)) → Sofar body next words' had
        go true q d = none_noted d (eqb-true (slot_of t) 11 q)
        go false q d = one_noted d (omega (arith, eqb-false (slot_of t) 11 q, slot_small t))

  pub sofar_field : (r : List ℕ) → Noted body t s e words had words' r → Sofar body next words' r
  sofar_field r (a_part {j} {n} h q N) =
      record {
        long = part_long words j m s e n words' S.long h N;
        values = λ k l. value-passed next (value_on (part_tag j) q k l (tag_part k l j h)) (values_kept words j m s e n words' S.long h N l (S.values k l));
        three_counts = length-set had j n ∙ S.three_counts;
        parts = λ i l. go i l (eqb i j) refl;
      }
    where
      m : ℕ
      m = get_or had j 0

      mine : Part body next words' (part_tag j) j (get_or (set had j n) j 0)
      mine =
          subst (Part body next words' (part_tag j) j) (sym (get_or-set_same had j n 0 (omega (arith, S.three_counts))))
          (part_noted words j m s e n words' S.long h N next (part_met (part_tag j) (part_within j h).0 (part_within j h).1 q) (S.parts j h))

      go : (i : ℕ) → i < 3 → (b : Bool) → eqb i j ≡ b → Part body next words' (part_tag i) i (get_or (set had j n) i 0)
      go i l true p = subst (λ (k : ℕ). Part body next words' (part_tag k) k (get_or (set had j n) k 0)) (sym (eqb-true i j p)) mine
      go i l false p =
          let d = eqb-false i j p in
          subst (Part body next words' (part_tag i) i) (sym (get_or-set_other had j i n 0 d))
          (part-passed next (part_on (part_tag i) (part_within i l).0 (part_within i l).1 (λ z. d (part_apart i j l h (sym z ∙ q))))
          (parts_kept words j m s e n words' S.long h N i l d (S.parts i l)))
  sofar_field r (a_value a b c w) = value_noted_lem a b c w

-- THE END: nothing is left behind, so what was met is all
all_met : (t : ℕ) (body : Bytes) (at : ℕ) (p : Place) → 1 ≤ t → t ≤ 99_999 → Cut body at End → option_or p (place_from t body at) ≡ place_from t body 0 → p ≡ first_place t body
all_met t body at p low high C m = (first_from t body p low high (go p m)).is
  where
    go : (p : Place) → option_or p (place_from t body at) ≡ place_from t body 0 → p ≡ place_from t body 0
    go (Some x) k = k
    go None k = first_end t low high body at C ∙ k

all_parts : {t j n : ℕ} {words : List ℕ} (body : Bytes) (at : ℕ) → 1 ≤ t → t ≤ 99_999 → Cut body at End → Part body at words t j n → Parts words j (every_place t body) n
all_parts {t} {j} {n} {words} body at low high C P =
    subst (λ (l : List (ℕ × ℕ)). Parts words j l n)
    (sym (append-nil P.places) ∙ ap (λ (l : List (ℕ × ℕ)). P.places ++ l) (sym (every_end t low high body at C)) ∙ P.met ∙ sym (every_from t body))
    P.noted

pub sofar_end : (body : Bytes) (at : ℕ) (words had : List ℕ) → Cut body at End → Sofar body at words had → Gathered body words had
sofar_end body at words had C S =
    record {
      long = S.long;
      values = λ k h. (S.values k h).said ∙ ap (words_at k body) (all_met (tag_at k) body at (S.values k h).place (tag_within k h).0 (tag_within k h).1 C (S.values k h).met);
      parts = λ j h. all_parts body at (part_within j h).0 (part_within j h).1 C (S.parts j h);
    }

-- what is no body is nowhere, so that the walk ends at the end
pub at_end : {body : Bytes} {at : ℕ} {i : Item} → Cut body at i → (i ≡ End) ⊎ (i ≡ NoBody) → Cut body at End
at_end {body} {at} C (inl e) = subst (Cut body at) e C
at_end {body} {at} C (inr e) = absurd (subst (Cut body at) e C).lies
