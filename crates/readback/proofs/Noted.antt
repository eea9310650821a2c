-- What the words hold of the fields before a place, value by value and part by part, and a party's part noted in them.
use Prim.Native.Nat.{ℕ, ◌+◌, ◌*◌, ◌≤◌, ◌<◌}
use native.Mathlib.Omega.{arith}
use mathlib.Core.Path.{◌≡◌, refl, sym, ap, ◌∙◌, subst}
use mathlib.Core.List.{List, [], ◌∷◌, ◌++◌, append_assoc}
use mathlib.Core.Bool.{Bool, true, false, cond}
use lib.Dec.{eqb, leb, ltb}
use lib.ListN.{length, get_or, set, length-append, length-set, get_or-append, get_or-eq_default}
use lib.Seq.{get_or-set_same, get_or-set_other, get_or-append_seam}
use borrow.Author.Tests.{eqb-true, eqb-false, leb-true, leb-false, ltb-true, ltb-false}
use Rattle.octets.specs.Bytes.{Bytes}
use Rattle.std.specs.Option.{option_or}
use Rattle.fields.specs.First.{Place}
use Rattle.fields.proofs.Firsts.{place_from}
use Rattle.readback.specs.code.Pass.{tag_at, words_at, three, part_at, PartNoted, Parts}
use Rattle.readback.proofs.Every.{places_from}
use Rattle.readback.proofs.Slots.{three-words}

-- a value's words are those of the place met so far, if any; the rest is looked for behind
pub record Value (body : Bytes) (at : ℕ) (words : List ℕ) (k : ℕ) : Type 0 where
  pub place : Place
  pub said : three words k ≡ words_at k body place
  pub met : option_or place (place_from (tag_at k) body at) ≡ place_from (tag_at k) body 0

-- the places of a party's part met so far, and those behind
pub record Part (body : Bytes) (at : ℕ) (words : List ℕ) (t j n : ℕ) : Type 0 where
  pub places : List (ℕ × ℕ)
  pub noted : Parts words j places n
  pub met : places ++ places_from t body at ≡ places_from t body 0

-- WORDS THAT STAY: values and parts by their words alone
pub value-kept : {body : Bytes} {at : ℕ} {words : List ℕ} {k : ℕ} (words' : List ℕ) → three words' k ≡ three words k → Value body at words k → Value body at words' k
value-kept words' e H = record { place = H.place; said = e ∙ H.said; met = H.met }

pub part-kept : {body : Bytes} {at : ℕ} {words : List ℕ} {t j n : ℕ} (words' : List ℕ) → ((i : ℕ) → i < 8 → get_or words' (part_at i j) 0 ≡ get_or words (part_at i j) 0)
    → ((i : ℕ) → i < 8 → get_or words' (part_at i j + 1) 0 ≡ get_or words (part_at i j + 1) 0) → Part body at words t j n → Part body at words' t j n
part-kept words' a b P =
    let N = P.noted in
    record {
      places = P.places;
      noted = record { eight = N.eight; few = N.few; most = N.most; starts = λ i h. a i h ∙ N.starts i h; ends = λ i h. b i h ∙ N.ends i h };
      met = P.met;
    }

-- a part's words tell which part it is
same-part : (q m i j : ℕ) → i < 3 → j < 3 → part_at q i ≡ part_at m j → i ≡ j
same-part q m i j a b e = go (ltb q m) refl (ltb m q) refl
  where
    go : (x : Bool) → ltb q m ≡ x → (y : Bool) → ltb m q ≡ y → i ≡ j
    go true k y l = absurd (omega (arith, ltb-true q m k))
    go false k true l = absurd (omega (arith, ltb-true m q l))
    go false k false l = omega (arith, ltb-false q m k, ltb-false m q l)

-- A PARTY'S PART NOTED: its place behind those before
module _ (l : List (ℕ × ℕ)) (x : ℕ × ℕ) where
  longer : length (l ++ (x ∷ [])) ≡ length l + 1
  longer = length-append l (x ∷ [])

  place_old : (i : ℕ) → i < length l → get_or (l ++ (x ∷ [])) i (0, 0) ≡ get_or l i (0, 0)
  place_old i h = get_or-append l (x ∷ []) (0, 0) i h

  place_new : (i : ℕ) → i ≡ length l → get_or (l ++ (x ∷ [])) i (0, 0) ≡ x
  place_new i h = ap (λ (k : ℕ). get_or (l ++ (x ∷ [])) k (0, 0)) h ∙ get_or-append_seam l x [] (0, 0)

  place_none : (i : ℕ) → length l < i → get_or (l ++ (x ∷ [])) i (0, 0) ≡ get_or l i (0, 0)
  place_none i h = get_or-eq_default (l ++ (x ∷ [])) (0, 0) {n = i} (omega (arith, longer)) ∙ sym (get_or-eq_default l (0, 0) {n = i} (omega arith))

  place_other : (i : ℕ) → (i ≡ length l → ⊥) → get_or (l ++ (x ∷ [])) i (0, 0) ≡ get_or l i (0, 0)
  place_other i n = go (ltb i (length l)) refl
    where
      go : (b : Bool) → ltb i (length l) ≡ b → get_or (l ++ (x ∷ [])) i (0, 0) ≡ get_or l i (0, 0)
      go true e = place_old i (ltb-true i (length l) e)
      go false e = place_none i (apart (ltb-false i (length l) e))
        where
          apart : length l ≤ i → length l < i
          apart h = go' (eqb i (length l)) refl
            where
              go' : (b : Bool) → eqb i (length l) ≡ b → length l < i
              go' true q = absurd (n (eqb-true i (length l) q))
              go' false q = omega (arith, eqb-false i (length l) q)

module _ (words : List ℕ) (j n s e r : ℕ) (words' : List ℕ) (long : length words ≡ 82) (j3 : j < 3) (N : PartNoted words j n s e r words') where
  pub part_long : length words' ≡ 82
  part_long = ap length N.noted ∙ go (leb 8 n)
    where
      go : (b : Bool) → length (cond b words (set (set words (part_at n j) s) (part_at n j + 1) e)) ≡ 82
      go true = long
      go false = length-set (set words (part_at n j) s) (part_at n j + 1) e ∙ length-set words (part_at n j) s ∙ long

  -- a word that is neither of the two stays
  part_other : (y : ℕ) → (y ≡ part_at n j → ⊥) → (y ≡ part_at n j + 1 → ⊥) → get_or words' y 0 ≡ get_or words y 0
  part_other y a b = ap (λ (w : List ℕ). get_or w y 0) N.noted ∙ go (leb 8 n)
    where
      go : (c : Bool) → get_or (cond c words (set (set words (part_at n j) s) (part_at n j + 1) e)) y 0 ≡ get_or words y 0
      go true = refl
      go false = get_or-set_other (set words (part_at n j) s) (part_at n j + 1) y e 0 b ∙ get_or-set_other words (part_at n j) y s 0 a

  -- a ninth changes nothing
  full : (l : List (ℕ × ℕ)) → 8 ≤ n → Parts words j l n → Parts words j (l ++ ((s, e) ∷ [])) n
  full l h P =
      record {
        eight = P.eight;
        few = omega (arith, P.few, longer l (s, e));
        most = λ q a b. omega arith;
        starts = λ i k. P.starts i k ∙ ap (λ (x : ℕ × ℕ). x.0) (sym (place_old l (s, e) i (omega (arith, P.few))));
        ends = λ i k. P.ends i k ∙ ap (λ (x : ℕ × ℕ). x.1) (sym (place_old l (s, e) i (omega (arith, P.few))));
      }

  -- the two words of a new one
  start_there : n < 8 → words' ≡ set (set words (part_at n j) s) (part_at n j + 1) e → get_or words' (part_at n j) 0 ≡ s
  start_there h d =
      ap (λ (w : List ℕ). get_or w (part_at n j) 0) d
      ∙ get_or-set_other (set words (part_at n j) s) (part_at n j + 1) (part_at n j) e 0 (λ q. omega arith)
      ∙ get_or-set_same words (part_at n j) s 0 (omega arith)

  end_there : n < 8 → words' ≡ set (set words (part_at n j) s) (part_at n j + 1) e → get_or words' (part_at n j + 1) 0 ≡ e
  end_there h d =
      ap (λ (w : List ℕ). get_or w (part_at n j + 1) 0) d
      ∙ get_or-set_same (set words (part_at n j) s) (part_at n j + 1) e 0 (omega (arith, length-set words (part_at n j) s))

  one_more : (l : List (ℕ × ℕ)) → n < 8 → words' ≡ set (set words (part_at n j) s) (part_at n j + 1) e → Parts words j l n → Parts words' j (l ++ ((s, e) ∷ [])) (n + 1)
  one_more l h d P =
      record {
        eight = omega arith;
        few = omega (arith, longer l (s, e), all);
        most = λ q a b. omega (arith, longer l (s, e), all);
        starts = λ i k. go_starts i k (eqb i n) refl;
        ends = λ i k. go_ends i k (eqb i n) refl;
      }
    where
      all : n ≡ length l
      all = go (ltb n (length l)) refl
        where
          go : (b : Bool) → ltb n (length l) ≡ b → n ≡ length l
          go true q = absurd (omega (arith, P.most (n + 1) (omega arith) (omega (arith, ltb-true n (length l) q))))
          go false q = omega (arith, P.few, ltb-false n (length l) q)

      go_starts : (i : ℕ) → i < 8 → (b : Bool) → eqb i n ≡ b → get_or words' (part_at i j) 0 ≡ (get_or (l ++ ((s, e) ∷ [])) i (0, 0)).0
      go_starts i k true q =
          let w = eqb-true i n q in
          ap (λ (m : ℕ). get_or words' (part_at m j) 0) w ∙ start_there h d ∙ ap (λ (x : ℕ × ℕ). x.0) (sym (place_new l (s, e) i (w ∙ all)))
      go_starts i k false q =
          let w = eqb-false i n q in
          part_other (part_at i j) (λ z. w (omega arith)) (λ z. omega arith) ∙ P.starts i k ∙ ap (λ (x : ℕ × ℕ). x.0) (sym (place_other l (s, e) i (λ z. w (z ∙ sym all))))

      go_ends : (i : ℕ) → i < 8 → (b : Bool) → eqb i n ≡ b → get_or words' (part_at i j + 1) 0 ≡ (get_or (l ++ ((s, e) ∷ [])) i (0, 0)).1
      go_ends i k true q =
          let w = eqb-true i n q in
          ap (λ (m : ℕ). get_or words' (part_at m j + 1) 0) w ∙ end_there h d ∙ ap (λ (x : ℕ × ℕ). x.1) (sym (place_new l (s, e) i (w ∙ all)))
      go_ends i k false q =
          let w = eqb-false i n q in
          part_other (part_at i j + 1) (λ z. omega arith) (λ z. w (omega arith)) ∙ P.ends i k ∙ ap (λ (x : ℕ × ℕ). x.1) (sym (place_other l (s, e) i (λ z. w (z ∙ sym all))))

  parts_more : (l : List (ℕ × ℕ)) → Parts words j l n → Parts words' j (l ++ ((s, e) ∷ [])) r
  parts_more l P = go (leb 8 n) refl N.count N.noted
    where
      go : (b : Bool) → leb 8 n ≡ b → r ≡ cond b n (n + 1) → words' ≡ cond b words (set (set words (part_at n j) s) (part_at n j + 1) e) → Parts words' j (l ++ ((s, e) ∷ [])) r
      go true b c d = rw (c, d) (full l (leb-true 8 n b) P)
      go false b c d = subst (Parts words' j (l ++ ((s, e) ∷ []))) (sym c) (one_more l (leb-false 8 n b) d P)

  -- a part of the tag at the place
  pub part_noted : {body : Bytes} {at t : ℕ} (next : ℕ) → places_from t body at ≡ (s, e) ∷ places_from t body next → Part body at words t j n → Part body next words' t j r
  part_noted {body} {at} {t} next q P =
      record {
        places = P.places ++ ((s, e) ∷ []);
        noted = parts_more P.places P.noted;
        met = append_assoc P.places ((s, e) ∷ []) (places_from t body next) ∙ ap (λ (l : List (ℕ × ℕ)). P.places ++ l) (sym q) ∙ P.met;
      }

  -- the values and the other parts keep their words
  pub values_kept : {body : Bytes} {at k : ℕ} → k < 11 → Value body at words k → Value body at words' k
  values_kept {k = k} h H =
      value-kept words'
      (three-words (part_other (3 * k) (λ q. omega arith) (λ q. omega arith)) (part_other (3 * k + 1) (λ q. omega arith) (λ q. omega arith)) (part_other (3 * k + 2) (λ q. omega arith) (λ q. omega arith)))
      H

  pub parts_kept : {body : Bytes} {at t m : ℕ} (i : ℕ) → i < 3 → (i ≡ j → ⊥) → Part body at words t i m → Part body at words' t i m
  parts_kept i h ne P =
      part-kept words' (λ q k. part_other (part_at q i) (λ z. ne (same-part q n i j h j3 z)) (λ z. omega arith)) (λ q k. part_other (part_at q i + 1) (λ z. omega arith) (λ z. ne (same-part q n i j h j3 (omega arith)))) P
