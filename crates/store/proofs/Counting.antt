-- What places count as: where a report is found that stands in one, which numbers are kept, and that a new report has a place.
-- Assumes nothing.
use Prim.Native.Nat.{ℕ, zero, suc, ◌≤◌, ◌<◌}
use native.Mathlib.Omega.{arith}
use mathlib.Core.Path.{◌≡◌, refl, sym, ap, ◌∙◌, subst}
use mathlib.Core.List.{List, [], ◌∷◌, ◌++◌, map}
use mathlib.Core.Option.{Option, none, some, none-ne-some, some-ne-none, some-injective}
use mathlib.Core.Bool.{Bool, true, false, cond, ◌||◌, false≢true}
use mathlib.Core.Logic.{◌⊎◌, inl, inr}
use lib.Dec.{eqb, ltb}
use lib.ListN.{length, get_or, set}
use borrow.Author.Tests.{eqb-true, eq-eqb, ne_eqb}
use Rattle.octets.specs.Bytes.{Bytes, has}
use Rattle.octets.proofs.Tests.{neither, or_last}
use Rattle.report.specs.Report.{Report}
use Rattle.kept.specs.Kept.{held}
use Rattle.kept.proofs.Numbers.{number}
use Rattle.store.specs.Store.{Table, numbers, find, place_of, first_empty, full, least, lowest, takes, unless_met, counted}

-- each number once
abbrev pub Once : List ℕ → Type 0
Once [] = Unit {0}
Once (n ∷ l) = (has l n ≡ false) × Once l

-- A PLACE FOR A NEW REPORT
least_in : (n : ℕ) (ms : List ℕ) → has (n ∷ ms) (least n ms) ≡ true
least_in n [] = ap (λ (b : Bool). b || false) (eq-eqb n n refl)
least_in n (m ∷ ms) = go (ltb m n) (λ k. least_in k ms)
  where
    go : (b : Bool) → ((k : ℕ) → has (k ∷ ms) (least k ms) ≡ true) → has (n ∷ m ∷ ms) (least (cond b m n) ms) ≡ true
    go true h = or_last (eqb n (least m ms)) (has (m ∷ ms) (least m ms)) (h m)
    go false h = more (eqb n (least n ms)) (eqb m (least n ms)) (h n)
      where
        more : (a c : Bool) → (a || has ms (least n ms)) ≡ true → (a || (c || has ms (least n ms))) ≡ true
        more true c e = refl
        more false c e = or_last c (has ms (least n ms)) e

empty-place : (l : Table) → full l ≡ false → first_empty l < length l
empty-place [] e = absurd (false≢true (sym e))
empty-place (none ∷ l) e = omega arith
empty-place (some r ∷ l) e = let h = empty-place l e in omega (arith, h)

number-place : (n : ℕ) (l : Table) → has (numbers l) n ≡ true → place_of n l < length l
number-place n [] e = absurd (false≢true e)
number-place n (none ∷ l) e = let h = number-place n l e in omega (arith, h)
number-place n (some r ∷ l) e = go (eqb r.number n) (number-place n l) e
  where
    go : (b : Bool) → (has (numbers l) n ≡ true → place_of n l < length l) → (b || has (numbers l) n) ≡ true → cond b 0 (suc (place_of n l)) < suc (length l)
    go true h e = omega arith
    go false h e = let k = h e in omega (arith, k)

pub lowest_in : (l : Table) → full l ≡ true → 0 < length l → has (numbers l) (lowest (numbers l)) ≡ true
lowest_in [] e k = absurd (omega (arith, k))
lowest_in (none ∷ l) e k = absurd (false≢true e)
lowest_in (some r ∷ l) e k = least_in r.number (numbers l)

pub takes-within : (l : Table) → 0 < length l → takes l < length l
unfolding takes
takes-within l k = go (full l) refl
  where
    go : (b : Bool) → full l ≡ b → cond b (place_of (lowest (numbers l)) l) (first_empty l) < length l
    go true e = number-place (lowest (numbers l)) l (lowest_in l e k)
    go false e = empty-place l e

pub stands_not : (n : ℕ) (l : Table) → length l ≤ place_of n l → find n l ≡ none
stands_not n [] h = refl
stands_not n (none ∷ l) h = stands_not n l (omega (arith, h))
stands_not n (some r ∷ l) h = go (eqb r.number n) h (stands_not n l)
  where
    go : (b : Bool) → suc (length l) ≤ cond b 0 (suc (place_of n l)) → (length l ≤ place_of n l → find n l ≡ none) → cond b (some r) (find n l) ≡ none
    go true h rest = absurd (omega (arith, h))
    go false h rest = rest (omega (arith, h))

pub record Numbered (o : Option Report) (n : ℕ) : Type 0 where
  pub report : Report
  pub is : o ≡ some report
  pub number_is : report.number ≡ n

pub numbered : (o : Option Report) (n : ℕ) → 1 ≤ n → number o ≡ n → Numbered o n
numbered none n k e = absurd (omega (arith, k, e))
numbered (some r) n k e = record { report = r; is = refl; number_is = e }

module _ (us them : Bytes) where
  pub length_counted : (met : List ℕ) (ps : List Bytes) → length (counted us them met ps) ≡ length ps
  length_counted met [] = refl
  length_counted met (p ∷ ps) = ap suc (length_counted (numbers (unless_met us them (held us them p) met ∷ []) ++ met) ps)

  -- ONE PLACE: what it counts as behind places with the numbers met
  abbrev Counts : Option Report → List ℕ → Option Report → Type 0
  Counts o met none = (r : Report) → o ≡ some r → has met r.number ≡ true
  Counts o met (some r) = (o ≡ some r) × (has met r.number ≡ false)

  counts : (o : Option Report) (met : List ℕ) → Counts o met (unless_met us them o met)
  counts none met = λ r e. absurd (none-ne-some r e)
  counts (some r) met = go (has met r.number) refl
    where
      go : (b : Bool) → has met r.number ≡ b → Counts (some r) met (cond b none (some r))
      go true h = λ x e. subst (λ (y : Report). has met y.number ≡ true) (some-injective r x e) h
      go false h = (refl, h)

  -- FOUND WHERE IT STANDS
  pub record Stands (n : ℕ) (found : Option Report) (place : Bytes) : Type 0 where
    pub report : Report
    pub is : found ≡ some report
    pub holds : held us them place ≡ some report
    pub numbered : report.number ≡ n

  pub stands : (n : ℕ) (met : List ℕ) (ps : List Bytes) → place_of n (counted us them met ps) < length ps
      → Stands n (find n (counted us them met ps)) (get_or ps (place_of n (counted us them met ps)) [])
  stands n met [] l = absurd (omega (arith, l))
  stands n met (p ∷ ps) l = go (unless_met us them (held us them p) met) (counts (held us them p) met) (λ k. stands n k ps) l
    where
      go : (u : Option Report) → Counts (held us them p) met u
          → ((k : List ℕ) → place_of n (counted us them k ps) < length ps → Stands n (find n (counted us them k ps)) (get_or ps (place_of n (counted us them k ps)) []))
          → place_of n (u ∷ counted us them (numbers (u ∷ []) ++ met) ps) < suc (length ps)
          → Stands n (find n (u ∷ counted us them (numbers (u ∷ []) ++ met) ps)) (get_or (p ∷ ps) (place_of n (u ∷ counted us them (numbers (u ∷ []) ++ met) ps)) [])
      go none C rest l = rest met (omega (arith, l))
      go (some r) C rest l = pick (eqb r.number n) refl l
        where
          pick : (b : Bool) → eqb r.number n ≡ b → cond b 0 (suc (place_of n (counted us them (r.number ∷ met) ps))) < suc (length ps)
              → Stands n (cond b (some r) (find n (counted us them (r.number ∷ met) ps))) (get_or (p ∷ ps) (cond b 0 (suc (place_of n (counted us them (r.number ∷ met) ps)))) [])
          pick true q l = record { report = r; is = refl; holds = C.0; numbered = eqb-true r.number n q }
          pick false q l = rest (r.number ∷ met) (omega (arith, l))

  -- BY THE NUMBERS that the places hold, 0 where one holds no report
  abbrev pub number_at : List Bytes → ℕ → ℕ
  number_at ps i = number (held us them (get_or ps i []))

  -- the first place with a number is where it stands
  pub place_is : (n : ℕ) (met : List ℕ) (ps : List Bytes) (i : ℕ) → 1 ≤ n → has met n ≡ false → i ≤ length ps
      → ((j : ℕ) → j < i → number_at ps j ≡ n → ⊥) → (i < length ps → number_at ps i ≡ n) → i ≡ place_of n (counted us them met ps)
  place_is n met [] i k h l before at = omega (arith, l)
  place_is n met (p ∷ ps) zero k h l before at =
      let H = numbered (held us them p) n k (at (omega arith)) in
      go (unless_met us them (held us them p) met) (counts (held us them p) met) H.report H.is H.number_is
    where
      go : (u : Option Report) → Counts (held us them p) met u → (r : Report) → held us them p ≡ some r → r.number ≡ n
          → 0 ≡ place_of n (u ∷ counted us them (numbers (u ∷ []) ++ met) ps)
      go none C r e q = absurd (false≢true (sym h ∙ subst (λ (m : ℕ). has met m ≡ true) q (C r e)))
      go (some x) C r e q =
          let y = some-injective x r (sym C.0 ∙ e) in
          sym (rw (eq-eqb x.number n (ap (λ (z : Report). z.number) y ∙ q)))
  place_is n met (p ∷ ps) (suc i) k h l before at =
      go (unless_met us them (held us them p) met) (counts (held us them p) met)
      (λ met' h'. place_is n met' ps i k h' (omega (arith, l)) (λ j q. before (suc j) (omega (arith, q))) (λ q. at (omega (arith, q))))
    where
      go : (u : Option Report) → Counts (held us them p) met u → ((met' : List ℕ) → has met' n ≡ false → i ≡ place_of n (counted us them met' ps))
          → suc i ≡ place_of n (u ∷ counted us them (numbers (u ∷ []) ++ met) ps)
      go none C rest = ap suc (rest met h)
      go (some x) C rest =
          let d = ne_eqb x.number n (λ e. before 0 (omega arith) (ap number C.0 ∙ e)) in
          rw d (ap suc (rest (x.number ∷ met) (rw d h)))

  -- a number that is not met before is kept exactly if a place holds it
  abbrev pub numbers_of : List Bytes → List ℕ
  numbers_of ps = map (λ p. number (held us them p)) ps

  pub numbers_kept : (n : ℕ) → 1 ≤ n → (met : List ℕ) (ps : List Bytes) → has met n ≡ false → has (numbers_of ps) n ≡ has (numbers (counted us them met ps)) n
  numbers_kept n k met [] h = refl
  numbers_kept n k met (p ∷ ps) h = go (held us them p) (unless_met us them (held us them p) met) (counts (held us them p) met) (λ met' h'. numbers_kept n k met' ps h')
    where
      go : (o u : Option Report) → Counts o met u → ((met' : List ℕ) → has met' n ≡ false → has (numbers_of ps) n ≡ has (numbers (counted us them met' ps)) n)
          → (eqb (number o) n || has (numbers_of ps) n) ≡ has (numbers (u ∷ counted us them (numbers (u ∷ []) ++ met) ps)) n
      go none none C rest = rw (ne_eqb 0 n (λ e. omega (arith, e, k))) (rest met h)
      go none (some x) C rest = absurd (none-ne-some x C.0)
      go (some r) none C rest =
          rw (ne_eqb r.number n (λ e. false≢true (sym h ∙ subst (λ (m : ℕ). has met m ≡ true) e (C r refl)))) (rest met h)
      go (some r) (some x) C rest = rw (some-injective r x C.0) (pick (eqb x.number n) refl)
        where
          pick : (b : Bool) → eqb x.number n ≡ b → (b || has (numbers_of ps) n) ≡ (b || has (numbers (counted us them (x.number ∷ met) ps)) n)
          pick true q = refl
          pick false q = rest (x.number ∷ met) (rw q h)

  -- of the numbers met only those count that a place holds
  pub counted_alike : (k l : List ℕ) (ps : List Bytes) → ((n : ℕ) → has (numbers_of ps) n ≡ true → has k n ≡ has l n) → counted us them k ps ≡ counted us them l ps
  counted_alike k l [] s = refl
  counted_alike k l (p ∷ ps) s = go (held us them p) s (λ k' l' s'. counted_alike k' l' ps s')
    where
      go : (o : Option Report) → ((n : ℕ) → (eqb (number o) n || has (numbers_of ps) n) ≡ true → has k n ≡ has l n)
          → ((k' l' : List ℕ) → ((n : ℕ) → has (numbers_of ps) n ≡ true → has k' n ≡ has l' n) → counted us them k' ps ≡ counted us them l' ps)
          → unless_met us them o k ∷ counted us them (numbers (unless_met us them o k ∷ []) ++ k) ps
          ≡ unless_met us them o l ∷ counted us them (numbers (unless_met us them o l ∷ []) ++ l) ps
      go none s rest = ap (λ (t : Table). none ∷ t) (rest k l (λ n h. s n (or_last (eqb 0 n) (has (numbers_of ps) n) h)))
      go (some r) s rest =
          rw (s r.number (ap (λ (b : Bool). b || has (numbers_of ps) r.number) (eq-eqb r.number r.number refl))) (pick (has l r.number))
        where
          Counted : List ℕ → Bool → Table
          Counted met b = let u = cond b none (some r) in u ∷ counted us them (numbers (u ∷ []) ++ met) ps

          later : (n : ℕ) → has (numbers_of ps) n ≡ true → has k n ≡ has l n
          later n h = s n (or_last (eqb r.number n) (has (numbers_of ps) n) h)

          pick : (b : Bool) → Counted k b ≡ Counted l b
          pick true = ap (λ (t : Table). none ∷ t) (rest k l later)
          pick false = ap (λ (t : Table). some r ∷ t) (rest (r.number ∷ k) (r.number ∷ l) (λ n h. ap (λ (b : Bool). eqb r.number n || b) (later n h)))

  -- a number met before counts no more; where all places count, none holds it
  met_not : (n : ℕ) (met : List ℕ) (ps : List Bytes) → has met n ≡ true → has (numbers (counted us them met ps)) n ≡ false
  met_not n met [] h = refl
  met_not n met (p ∷ ps) h = go (unless_met us them (held us them p) met) (counts (held us them p) met) (λ met' h'. met_not n met' ps h')
    where
      go : (u : Option Report) → Counts (held us them p) met u → ((met' : List ℕ) → has met' n ≡ true → has (numbers (counted us them met' ps)) n ≡ false)
          → has (numbers (u ∷ counted us them (numbers (u ∷ []) ++ met) ps)) n ≡ false
      go none C rest = rest met h
      go (some r) C rest =
          rw (ne_eqb r.number n (λ e. false≢true (sym C.1 ∙ subst (λ (m : ℕ). has met m ≡ true) (sym e) h))) (rest (r.number ∷ met) (or_last (eqb r.number n) (has met n) h))

  full_free : (n : ℕ) (met : List ℕ) (ps : List Bytes) → has met n ≡ true → full (counted us them met ps) ≡ true → has (numbers_of ps) n ≡ false
  full_free n met [] h f = refl
  full_free n met (p ∷ ps) h f = go (unless_met us them (held us them p) met) (counts (held us them p) met) f (λ met' h' f'. full_free n met' ps h' f')
    where
      go : (u : Option Report) → Counts (held us them p) met u → full (u ∷ counted us them (numbers (u ∷ []) ++ met) ps) ≡ true
          → ((met' : List ℕ) → has met' n ≡ true → full (counted us them met' ps) ≡ true → has (numbers_of ps) n ≡ false)
          → has (numbers_of (p ∷ ps)) n ≡ false
      go none C f rest = absurd (false≢true f)
      go (some r) C f rest =
          rw (C.0, ne_eqb r.number n (λ e. false≢true (sym C.1 ∙ subst (λ (m : ℕ). has met m ≡ true) (sym e) h)))
          (rest (r.number ∷ met) (or_last (eqb r.number n) (has met n) h) f)

  -- each number once
  pub counted_once : (met : List ℕ) (ps : List Bytes) → Once (numbers (counted us them met ps))
  counted_once met [] = tt
  counted_once met (p ∷ ps) = go (unless_met us them (held us them p) met) (λ met'. counted_once met' ps)
    where
      go : (u : Option Report) → ((met' : List ℕ) → Once (numbers (counted us them met' ps))) → Once (numbers (u ∷ counted us them (numbers (u ∷ []) ++ met) ps))
      go none rest = rest met
      go (some r) rest =
          (met_not r.number (r.number ∷ met) ps (ap (λ (b : Bool). b || has met r.number) (eq-eqb r.number r.number refl)), rest (r.number ∷ met))

  -- A REPORT PUT INTO A PLACE that counts as empty, or where all count: its place counts as it, and the others as before
  pub counted_set : (r : Report) (p : Bytes) (met : List ℕ) (ps : List Bytes) (i : ℕ) → held us them p ≡ some r → has met r.number ≡ false → has (numbers_of ps) r.number ≡ false → i < length ps
      → (get_or (counted us them met ps) i none ≡ none) ⊎ (full (counted us them met ps) ≡ true) → counted us them met (set ps i p) ≡ set (counted us them met ps) i (some r)
  counted_set r p met [] i e h n l E = absurd (omega (arith, l))
  counted_set r p met (q ∷ ps) zero e h n l E =
      let N = (neither (eqb (number (held us them q)) r.number) (has (numbers_of ps) r.number) n).1 in
      let u : unless_met us them (held us them p) met ≡ some r = ap (λ (o : Option Report). unless_met us them o met) e ∙ rw h in
      ap (λ (o : Option Report). o ∷ counted us them (numbers (o ∷ []) ++ met) ps) u ∙ ap (λ (t : Table). some r ∷ t) (go (unless_met us them (held us them q) met) E N)
    where
      other : (m k : ℕ) → has (numbers_of ps) k ≡ false → has (numbers_of ps) m ≡ true → eqb k m ≡ false
      other m k f t = ne_eqb k m (λ e. false≢true (sym f ∙ subst (λ (x : ℕ). has (numbers_of ps) x ≡ true) (sym e) t))

      go : (u : Option Report) → (u ≡ none) ⊎ (full (u ∷ counted us them (numbers (u ∷ []) ++ met) ps) ≡ true) → has (numbers_of ps) r.number ≡ false
          → counted us them (r.number ∷ met) ps ≡ counted us them (numbers (u ∷ []) ++ met) ps
      go none E N = counted_alike (r.number ∷ met) met ps (λ m t. rw (other m r.number N t))
      go (some x) (inl f) N = absurd (some-ne-none x f)
      go (some x) (inr f) N =
          let M = full_free x.number (x.number ∷ met) ps (ap (λ (b : Bool). b || has met x.number) (eq-eqb x.number x.number refl)) f in
          counted_alike (r.number ∷ met) (x.number ∷ met) ps (λ m t. rw (other m r.number N t, other m x.number M t))
  counted_set r p met (q ∷ ps) (suc i) e h n l E =
      go (unless_met us them (held us them q) met) (counts (held us them q) met) E
      (λ met' h' E'. counted_set r p met' ps i e h' (neither (eqb (number (held us them q)) r.number) (has (numbers_of ps) r.number) n).1 (omega (arith, l)) E')
    where
      go : (u : Option Report) → Counts (held us them q) met u
          → (get_or (counted us them (numbers (u ∷ []) ++ met) ps) i none ≡ none) ⊎ (full (u ∷ counted us them (numbers (u ∷ []) ++ met) ps) ≡ true)
          → ((met' : List ℕ) → has met' r.number ≡ false → (get_or (counted us them met' ps) i none ≡ none) ⊎ (full (counted us them met' ps) ≡ true)
          → counted us them met' (set ps i p) ≡ set (counted us them met' ps) i (some r))
          → u ∷ counted us them (numbers (u ∷ []) ++ met) (set ps i p) ≡ u ∷ set (counted us them (numbers (u ∷ []) ++ met) ps) i (some r)
      go none C (inl f) rest = ap (λ (t : Table). none ∷ t) (rest met h (inl f))
      go none C (inr f) rest = absurd (false≢true f)
      go (some x) C E rest =
          let d : eqb x.number r.number ≡ false = sym (ap (λ (o : Option Report). eqb (number o) r.number) C.0) ∙ (neither (eqb (number (held us them q)) r.number) (has (numbers_of ps) r.number) n).0 in
          ap (λ (t : Table). some x ∷ t) (rest (x.number ∷ met) (rw d h) E)
