-- The words of the eleven values and of the parties: what a note changes in them, and what it leaves.
use Prim.Native.Nat.{ℕ, suc, ◌+◌, ◌-◌, ◌*◌, ◌≤◌, ◌<◌}
use native.Mathlib.Omega.{arith}
use mathlib.Core.Path.{◌≡◌, refl, sym, ap, ◌∙◌}
use mathlib.Core.List.{List, [], ◌∷◌}
use mathlib.Core.Bool.{Bool, true, false, cond}
use lib.Dec.{eqb}
use lib.ListN.{length, take, drop, get_or, set, length-set}
use lib.Seq.{get_or-set_same, get_or-set_other}
use borrow.Author.Tests.{eqb-true, eqb-false, eq-eqb, ne_eqb, le-leb, lt-leb}
use Rattle.octets.specs.Bytes.{Bytes, within}
use Rattle.octets.proofs.Tests.{at_below}
use Rattle.octets.proofs.Numerals.{within_is}
use Rattle.std.specs.Option.{option_or}
use Rattle.fields.specs.First.{value_at}
use Rattle.fields.specs.First.{Place, from_to}
use Rattle.std.specs.Prelude.{Some, None}
use Rattle.std.proofs.lemmas.Option.{none-some, same_Some}
use Rattle.decimals.specs.Decimal.{decimal_of}
use Rattle.decimals.specs.declared.Decimal.{Decimal}
use Rattle.fault.specs.declared.Fault.{Fault}
use Rattle.std.specs.Prelude.{Result}
use Rattle.amounts.specs.Amount.{given, amount_in}
use Rattle.report.specs.Layout.{tags}
use Rattle.readback.specs.Back.{place_words, amount_words}
use Rattle.readback.specs.code.Pass.{index_in, slot_of, slot_in, tag_at, pair_in, pair_of, slot_set, slot_noted, value_noted, words_at, three, part_at, PartNoted}

-- THE PLACE OF A TAG among the eleven
index_small : (t : ℕ) (l : List ℕ) → index_in t l ≤ length l
index_small t [] = omega arith
index_small t (u ∷ l) = go (eqb t u) (index_small t l)
  where
    go : (b : Bool) → index_in t l ≤ length l → cond b 0 (index_in t l + 1) ≤ suc (length l)
    go true h = omega arith
    go false h = omega arith

pub slot_small : (t : ℕ) → slot_of t ≤ 11
unfolding slot_of
slot_small t = index_small t tags

index_is : (t : ℕ) (l : List ℕ) → index_in t l < length l → get_or l (index_in t l) 0 ≡ t
index_is t [] h = absurd (omega arith)
index_is t (u ∷ l) h = go (eqb t u) refl h (index_is t l)
  where
    go : (b : Bool) → eqb t u ≡ b → cond b 0 (index_in t l + 1) < suc (length l) → (index_in t l < length l → get_or l (index_in t l) 0 ≡ t) → get_or (u ∷ l) (cond b 0 (index_in t l + 1)) 0 ≡ t
    go true e k f = sym (eqb-true t u e)
    go false e k f = let n : index_in t l + 1 ≡ suc (index_in t l) = omega arith in rw n (f (omega arith))

pub slot_tag : (t : ℕ) → slot_of t < 11 → tag_at (slot_of t) ≡ t
unfolding slot_of
slot_tag t h = index_is t tags h

pub tag_slot : (k : ℕ) → k < 11 → slot_of (tag_at k) ≡ k
unfolding slot_of
tag_slot k h = eqb-true (slot_of (tag_at k)) k (at_below 11 (λ i. eqb (slot_of (tag_at i)) i) refl k h)

pub tag_within : (k : ℕ) → k < 11 → (1 ≤ tag_at k) × (tag_at k ≤ 99_999)
tag_within k h = within_is 1 99_999 (tag_at k) (at_below 11 (λ i. within 1 99_999 (tag_at i)) refl k h)

-- the tags of the parties are none of them
no_value : (t : ℕ) → slot_of t ≡ 11 → (k : ℕ) → k < 11 → tag_at k ≡ t → ⊥
no_value t e k h q = omega (arith, sym (tag_slot k h) ∙ ap slot_of q ∙ e)

pub tag_party : (k : ℕ) → k < 11 → (tag_at k ≡ 448 → ⊥) × (tag_at k ≡ 447 → ⊥) × (tag_at k ≡ 452 → ⊥)
unfolding slot_of
tag_party k h = (no_value 448 refl k h, no_value 447 refl k h, no_value 452 refl k h)

-- WHAT A VALUE'S WORDS SAY
pub words_there : (k : ℕ) (body : Bytes) (s e : ℕ) → words_at k body (from_to s e) ≡ 1 ∷ (pair_in body k s e).0 ∷ (pair_in body k s e).1 ∷ []
words_there k body s e = go (eqb k 3) (eqb k 4)
  where
    go : (a b : Bool) → cond a (amount_words (value_at body (from_to s e))) (cond b (amount_words (value_at body (from_to s e))) (place_words (from_to s e)))
        ≡ 1 ∷ (cond a (pair_in body 3 s e) (cond b (pair_in body 3 s e) (s, e))).0 ∷ (cond a (pair_in body 3 s e) (cond b (pair_in body 3 s e) (s, e))).1 ∷ []
    go true b = refl
    go false true = refl
    go false false = refl

pub words-absent : (k : ℕ) (body : Bytes) → words_at k body None ≡ 0 ∷ 0 ∷ 0 ∷ []
words-absent k body = go (eqb k 3) (eqb k 4)
  where
    go : (a b : Bool) → cond a (amount_words (value_at body None)) (cond b (amount_words (value_at body None)) (place_words None)) ≡ 0 ∷ 0 ∷ 0 ∷ []
    go true b = refl
    go false true = refl
    go false false = refl

-- STORES. Three words of a place behind three stores elsewhere, and there
module _ (w : List ℕ) (x a b c : ℕ) where
  abbrev pub put3 : List ℕ
  put3 = set (set (set w x a) (x + 1) b) (x + 2) c

  pub put3_long : length put3 ≡ length w
  put3_long = length-set (set (set w x a) (x + 1) b) (x + 2) c ∙ length-set (set w x a) (x + 1) b ∙ length-set w x a

  pub put3_other : (y : ℕ) → (y ≡ x → ⊥) → (y ≡ x + 1 → ⊥) → (y ≡ x + 2 → ⊥) → get_or put3 y 0 ≡ get_or w y 0
  put3_other y p q r =
      get_or-set_other (set (set w x a) (x + 1) b) (x + 2) y c 0 r
      ∙ get_or-set_other (set w x a) (x + 1) y b 0 q
      ∙ get_or-set_other w x y a 0 p

  pub put3_first : x + 2 < length w → get_or put3 x 0 ≡ a
  put3_first h =
      get_or-set_other (set (set w x a) (x + 1) b) (x + 2) x c 0 (λ e. omega arith)
      ∙ get_or-set_other (set w x a) (x + 1) x b 0 (λ e. omega arith)
      ∙ get_or-set_same w x a 0 (omega arith)

  pub put3_second : x + 2 < length w → get_or put3 (x + 1) 0 ≡ b
  put3_second h =
      get_or-set_other (set (set w x a) (x + 1) b) (x + 2) (x + 1) c 0 (λ e. omega arith)
      ∙ get_or-set_same (set w x a) (x + 1) b 0 (omega (arith, length-set w x a))

  pub put3_third : x + 2 < length w → get_or put3 (x + 2) 0 ≡ c
  put3_third h = get_or-set_same (set (set w x a) (x + 1) b) (x + 2) c 0 (omega (arith, length-set w x a, length-set (set w x a) (x + 1) b))

pub three-words : {a b c x y z : ℕ} → a ≡ x → b ≡ y → c ≡ z → a ∷ b ∷ c ∷ [] ≡ x ∷ y ∷ z ∷ []
three-words p q r = rw (p, q, r)

module _ (w : List ℕ) (k : ℕ) (p : ℕ × ℕ) where
  pub slot_long : length (slot_noted w k p) ≡ length w
  slot_long = go (eqb (get_or w (3 * k) 0) 0)
    where
      go : (b : Bool) → length (cond b (slot_set w k p) w) ≡ length w
      go true = put3_long w (3 * k) 1 p.0 p.1
      go false = refl

  -- a word elsewhere stays
  pub slot_other : (y : ℕ) → (y ≡ 3 * k → ⊥) → (y ≡ 3 * k + 1 → ⊥) → (y ≡ 3 * k + 2 → ⊥) → get_or (slot_noted w k p) y 0 ≡ get_or w y 0
  slot_other y a b c = go (eqb (get_or w (3 * k) 0) 0)
    where
      go : (d : Bool) → get_or (cond d (slot_set w k p) w) y 0 ≡ get_or w y 0
      go true = put3_other w (3 * k) 1 p.0 p.1 y a b c
      go false = refl

  -- another value's words stay
  pub three_other : (i : ℕ) → (i ≡ k → ⊥) → three (slot_noted w k p) i ≡ three w i
  three_other i n =
      three-words
      (slot_other (3 * i) (λ e. n (omega arith)) (λ e. omega arith) (λ e. omega arith))
      (slot_other (3 * i + 1) (λ e. omega arith) (λ e. n (omega arith)) (λ e. omega arith))
      (slot_other (3 * i + 2) (λ e. omega arith) (λ e. omega arith) (λ e. n (omega arith)))

-- the words that a place has, and a note of the same value behind it
pub three-same : (w : List ℕ) (k : ℕ) (body : Bytes) (p : Place) (s e : ℕ) → length w ≡ 82 → k < 11 → three w k ≡ words_at k body p
    → three (slot_noted w k (pair_in body k s e)) k ≡ words_at k body (option_or p (from_to s e))
three-same w k body (Some x) s e l h m = ap (λ (b : Bool). three (cond b (slot_set w k (pair_in body k s e)) w) k) (ne_eqb (get_or w (3 * k) 0) 0 met) ∙ m
  where
    met : get_or w (3 * k) 0 ≡ 0 → ⊥
    met z = let q = m ∙ words_there k body x.start x.end in let r : ◌≡◌ {A = ℕ} (get_or w (3 * k) 0) 1 = cc in omega arith
three-same w k body None s e l h m =
    ap (λ (b : Bool). three (cond b (slot_set w k (pair_in body k s e)) w) k) (eq-eqb (get_or w (3 * k) 0) 0 none_yet)
    ∙ three-words (put3_first w (3 * k) 1 q.0 q.1 (omega arith)) (put3_second w (3 * k) 1 q.0 q.1 (omega arith)) (put3_third w (3 * k) 1 q.0 q.1 (omega arith))
    ∙ sym (words_there k body s e)
  where
    q : ℕ × ℕ
    q = pair_in body k s e

    none_yet : get_or w (3 * k) 0 ≡ 0
    none_yet = let r = m ∙ words-absent k body in cc

-- A FIELD OF THE ELEVEN, by the tests of the code
slot_one : (n k : ℕ) → Some k ≡ slot_in n → (k ≡ n) × (n ≡ 11 → ⊥)
slot_one n k e = go (eqb n 11) refl e
  where
    go : (b : Bool) → eqb n 11 ≡ b → Some k ≡ cond b None (Some n) → (k ≡ n) × (n ≡ 11 → ⊥)
    go true q h = absurd (none-some {A = ℕ} k (sym h))
    go false q h = (same_Some {A = ℕ} k n h, eqb-false n 11 q)

slot_no : (n : ℕ) → None ≡ slot_in n → n ≡ 11
slot_no n e = go (eqb n 11) refl e
  where
    go : (b : Bool) → eqb n 11 ≡ b → None ≡ cond b None (Some n) → n ≡ 11
    go true q h = eqb-true n 11 q
    go false q h = absurd (none-some {A = ℕ} n h)

pub slot_eleven : (t k : ℕ) → Some k ≡ slot_in (slot_of t) → k < 11
slot_eleven t k e = let w = slot_one (slot_of t) k e in omega (arith, w.0, w.1, slot_small t)

module _ (body : Bytes) (t s e : ℕ) (w : List ℕ) where
  pub value_none : None ≡ slot_in (slot_of t) → w ≡ value_noted body t s e w
  value_none h = sym (ap (λ (b : Bool). cond b w (slot_noted w (slot_of t) (pair_in body (slot_of t) s e))) (eq-eqb (slot_of t) 11 (slot_no (slot_of t) h)))

  module _ (k : ℕ) (i : Some k ≡ slot_in (slot_of t)) where
    some_slot : value_noted body t s e w ≡ slot_noted w k (pair_in body k s e)
    some_slot =
        let n = slot_one (slot_of t) k i in
        ap (λ (b : Bool). cond b w (slot_noted w (slot_of t) (pair_in body (slot_of t) s e))) (ne_eqb (slot_of t) 11 n.1)
        ∙ ap (λ (m : ℕ). slot_noted w m (pair_in body m s e)) (sym n.0)

    pub value_had : (get_or w (3 * k) 0 ≡ 0 → ⊥) → w ≡ value_noted body t s e w
    value_had h = sym (some_slot ∙ ap (λ (b : Bool). cond b (slot_set w k (pair_in body k s e)) w) (ne_eqb (get_or w (3 * k) 0) 0 h))

    pub value_new : {p : ℕ × ℕ} → get_or w (3 * k) 0 ≡ 0 → p ≡ pair_in body k s e → slot_set w k p ≡ value_noted body t s e w
    value_new h q = ap (slot_set w k) q ∙ sym (some_slot ∙ ap (λ (b : Bool). cond b (slot_set w k (pair_in body k s e)) w) (eq-eqb (get_or w (3 * k) 0) 0 h))

-- WHAT IS NOTED of a value: an amount's two numbers for the fourth and the fifth
module _ (body : Bytes) (k s e : ℕ) where
  pub pair_fourth : {p : ℕ × ℕ} → k ≡ 3 → p ≡ pair_of (take (e - s) (drop s body)) → p ≡ pair_in body k s e
  pair_fourth h q = q ∙ rw (eq-eqb k 3 h)

  pub pair_fifth : {p : ℕ × ℕ} → k ≡ 4 → p ≡ pair_of (take (e - s) (drop s body)) → p ≡ pair_in body k s e
  pair_fifth h q = q ∙ rw h

  pub pair_place : (k ≡ 3 → ⊥) → (k ≡ 4 → ⊥) → (s, e) ≡ pair_in body k s e
  pair_place a b = rw (ne_eqb k 3 a, ne_eqb k 4 b)

pub amount_pair : (v : Bytes) {d : Result Decimal Fault} → d ≡ decimal_of v → ((given d).whole, (given d).places) ≡ pair_of v
unfolding amount_in
amount_pair v q = ap (λ (d : Result Decimal Fault). ((given d).whole, (given d).places)) q

-- A PARTY'S PART, by the test of the code
module _ (w : List ℕ) (j n s e : ℕ) where
  pub part_full : 8 ≤ n → PartNoted w j n s e n w
  part_full h =
      record {
        count = sym (ap (λ (b : Bool). cond b n (n + 1)) (le-leb 8 n h));
        noted = sym (ap (λ (b : Bool). cond b w (set (set w (part_at n j) s) (part_at n j + 1) e)) (le-leb 8 n h));
      }

  pub part_new : n < 8 → PartNoted w j n s e (n + 1) (set (set w (part_at n j) s) (part_at n j + 1) e)
  part_new h =
      record {
        count = sym (ap (λ (b : Bool). cond b n (n + 1)) (lt-leb 8 n h));
        noted = sym (ap (λ (b : Bool). cond b w (set (set w (part_at n j) s) (part_at n j + 1) e)) (lt-leb 8 n h));
      }
