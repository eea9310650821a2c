-- The plan of a replay: it covers the numbers asked for exactly, each once; each gap fill is a longest run of numbers that are not kept; and what a plan
-- begins with.
-- Assumes nothing.
use Prim.Native.Nat.{ℕ, zero, suc, ◌+◌, ◌-◌, ◌≤◌, ◌<◌}
use native.Mathlib.Omega.{arith}
use mathlib.Core.Path.{◌≡◌, refl, sym, ap, ◌∙◌, subst}
use mathlib.Core.List.{List, [], ◌∷◌, ◌++◌, map}
use mathlib.Core.Option.{Option, none, some, none-ne-some}
use mathlib.Core.Bool.{Bool, true, false, cond, ◌&&◌, ◌||◌, false≢true}
use lib.Dec.{eqb, leb, ltb}
use borrow.Author.Tests.{ltb-true, ltb-false, leb-true, leb-false, eqb-true, eqb-false, eq-eqb, le-ltb}
use Rattle.octets.specs.Bytes.{has}
use Rattle.octets.proofs.Tests.{neither}
use Rattle.frame.specs.Stream.{joined}
use Rattle.report.specs.Report.{Report}
use Rattle.store.specs.Store.{Table, numbers, find}
use Rattle.store.specs.Plan.{Item, begins, ends, upward, range, covered, run_to, or_fill, item, items, plan, Right, AllRight, Planned}
use Rattle.store.proofs.Finding.{found_number, not_found, found_not}

-- NUMBERS IN A ROW
upward_more : (j k t n m : ℕ) → n + j ≡ m → j + k ≡ t → upward n j ++ upward m k ≡ upward n t
upward_more zero k t n m e f = let x : m ≡ n = omega (arith, e) in let y : k ≡ t = omega (arith, f) in rw (x, y)
upward_more (suc j) k zero n m e f = absurd (omega (arith, f))
upward_more (suc j) k (suc t) n m e f = ap (λ (l : List ℕ). n ∷ l) (upward_more j k t (n + 1) m (omega (arith, e)) (omega (arith, f)))

pub range_more : (a b c d : ℕ) → a ≤ b + 1 → c ≡ b + 1 → c ≤ d + 1 → range a b ++ range c d ≡ range a d
range_more a b c d k e l = upward_more (b + 1 - a) (d + 1 - c) (d + 1 - a) a c (omega (arith, k, e)) (omega (arith, k, e, l))

-- THE END OF A RUN
pub run_within : (n end : ℕ) (ms : List ℕ) → n ≤ end → (n ≤ run_to n end ms) × (run_to n end ms ≤ end)
run_within n end [] l = (l, omega arith)
run_within n end (m ∷ ms) l = go (run_within n end ms l) (ltb n m) (leb m (run_to n end ms)) refl refl
  where
    go : (n ≤ run_to n end ms) × (run_to n end ms ≤ end) → (a b : Bool) → ltb n m ≡ a → leb m (run_to n end ms) ≡ b → (n ≤ cond (a && b) (m - 1) (run_to n end ms)) × (cond (a && b) (m - 1) (run_to n end ms) ≤ end)
    go h true true p q = let x = ltb-true n m p in let y = leb-true m (run_to n end ms) q in (omega (arith, x), omega (arith, y, h.1))
    go h true false p q = h
    go h false b p q = h

-- no number of the list stands in it
pub run_clear : (n end : ℕ) (ms : List ℕ) (m : ℕ) → has ms m ≡ true → n < m → m ≤ run_to n end ms → ⊥
run_clear n end [] m h k l = false≢true h
run_clear n end (x ∷ ms) m h k l = go (λ i j. run_clear n end ms m i k j) (ltb n x) (leb x (run_to n end ms)) (eqb x m) refl refl refl l h
  where
    go : (has ms m ≡ true → m ≤ run_to n end ms → ⊥) → (a b c : Bool) → ltb n x ≡ a → leb x (run_to n end ms) ≡ b → eqb x m ≡ c → m ≤ cond (a && b) (x - 1) (run_to n end ms) → (c || has ms m) ≡ true → ⊥
    go rest true true true p q r l h = let e = eqb-true x m r in omega (arith, e, l, k)
    go rest true true false p q r l h = let y = leb-true x (run_to n end ms) q in rest h (omega (arith, l, y))
    go rest true false true p q r l h = let e = eqb-true x m r in let y = leb-false x (run_to n end ms) q in omega (arith, e, l, y)
    go rest true false false p q r l h = rest h l
    go rest false b true p q r l h = let e = eqb-true x m r in let y = ltb-false n x p in omega (arith, e, y, k)
    go rest false b false p q r l h = rest h l

-- it ends before a number of the list, or at the end
pub run_stops : (n end : ℕ) (ms : List ℕ) → has ms (run_to n end ms + 1) ≡ false → run_to n end ms ≡ end
run_stops n end [] h = refl
run_stops n end (x ∷ ms) h = go (run_stops n end ms) (ltb n x) (leb x (run_to n end ms)) refl refl h
  where
    go : (has ms (run_to n end ms + 1) ≡ false → run_to n end ms ≡ end) → (a b : Bool) → ltb n x ≡ a → leb x (run_to n end ms) ≡ b
        → has (x ∷ ms) (cond (a && b) (x - 1) (run_to n end ms) + 1) ≡ false → cond (a && b) (x - 1) (run_to n end ms) ≡ end
    go rest true true p q h =
        let y = ltb-true n x p in
        let k = neither (eqb x (x - 1 + 1)) (has ms (x - 1 + 1)) h in
        absurd (false≢true (sym k.0 ∙ eq-eqb x (x - 1 + 1) (omega (arith, y))))
    go rest true false p q h = rest (neither (eqb x (run_to n end ms + 1)) (has ms (run_to n end ms + 1)) h).1
    go rest false b p q h = rest (neither (eqb x (run_to n end ms + 1)) (has ms (run_to n end ms + 1)) h).1

-- ONE ITEM
module _ (kept : Table) (end : ℕ) where
  pub record Fits (n : ℕ) (i : Item) : Type 0 where
    pub from : begins i ≡ n
    pub on : n ≤ ends i
    pub within : ends i ≤ end

  pub item_fits : (n : ℕ) → n ≤ end → Fits n (item kept end n)
  unfolding item
  item_fits n l = go (find n kept) refl
    where
      go : (o : Option Report) → find n kept ≡ o → Fits n (or_fill kept end n o)
      go none e = let w = run_within n end (numbers kept) l in record { from = refl; on = w.0; within = w.1 }
      go (some r) e = let k = found_number n kept r e in record { from = k; on = omega (arith, k); within = omega (arith, k, l) }

  -- the number n is where an item begins
  abbrev pub Begins : ℕ → ℕ → Type 0
  Begins at n = find n kept ≡ none → find (n - 1) kept ≡ none → n ≡ at

  absent_or : (n : ℕ) → (b : Bool) → has (numbers kept) n ≡ b → (b ≡ true → ⊥) → find n kept ≡ none
  absent_or n true e h = absurd (h refl)
  absent_or n false e h = not_found n kept e

  pub item_right : (at n : ℕ) → n ≤ end → Begins at n → Right kept end at (item kept end n)
  unfolding item
  item_right at n l B = go (find n kept) refl
    where
      go : (o : Option Report) → find n kept ≡ o → Right kept end at (or_fill kept end n o)
      go none e = record {
        filled = (run_within n end (numbers kept) l).0;
        others = λ m k j. between m k j;
        from = λ f. B e f;
        to = λ f. run_stops n end (numbers kept) (found_not (run_to n end (numbers kept) + 1) kept f);
      }
        where
          between : (m : ℕ) → n ≤ m → m ≤ run_to n end (numbers kept) → find m kept ≡ none
          between m k j = pick (eqb n m) refl
            where
              pick : (b : Bool) → eqb n m ≡ b → find m kept ≡ none
              pick true p = subst (λ (x : ℕ). find x kept ≡ none) (eqb-true n m p) e
              pick false p = let d = eqb-false n m p in absent_or m (has (numbers kept) m) refl (λ h. run_clear n end (numbers kept) m h (apart d) j)
                where
                  apart : (n ≡ m → ⊥) → n < m
                  apart d = omega (arith, d, k)
      go (some r) e = subst (λ (x : ℕ). find x kept ≡ some r) (sym (found_number n kept r e)) e

  item_next : (at n : ℕ) → n ≤ end → ends (item kept end n) + 1 ≤ end → Begins at (ends (item kept end n) + 1)
  unfolding item
  item_next at n l m = go (find n kept) refl m
    where
      go : (o : Option Report) → find n kept ≡ o → ends (or_fill kept end n o) + 1 ≤ end → Begins at (ends (or_fill kept end n o) + 1)
      go none e m = λ f g. let z = run_stops n end (numbers kept) (found_not (run_to n end (numbers kept) + 1) kept f) in absurd (omega (arith, z, m))
      go (some r) e m = λ f g.
          let k = found_number n kept r e in
          let w : r.number + 1 - 1 ≡ n = omega (arith, k) in
          absurd (none-ne-some r (sym (subst (λ (y : ℕ). find y kept ≡ none) w g) ∙ e))

  -- THE PLAN
  items_cover : (k n : ℕ) → n ≤ end + 1 → end + 1 ≤ n + k → joined (map covered (items kept end k n)) ≡ range n end
  items_cover zero n l m = let z : end + 1 - n ≡ 0 = omega (arith, l, m) in sym (ap (upward n) z)
  items_cover (suc k) n l m = go (ltb end n) refl (λ a b c. items_cover k a b c)
    where
      go : (b : Bool) → ltb end n ≡ b → ((a : ℕ) → a ≤ end + 1 → end + 1 ≤ a + k → joined (map covered (items kept end k a)) ≡ range a end)
          → joined (map covered (cond b [] (item kept end n ∷ items kept end k (ends (item kept end n) + 1)))) ≡ range n end
      go true p rest = let y = ltb-true end n p in let z : end + 1 - n ≡ 0 = omega (arith, y) in sym (ap (upward n) z)
      go false p rest =
          let y = ltb-false end n p in
          let F = item_fits n y in
          let on = F.on in
          let in-it = F.within in
          let h = rest (ends (item kept end n) + 1) (omega (arith, in-it)) (omega (arith, on, m)) in
          ap (λ (x : List ℕ). covered (item kept end n) ++ x) h
          ∙ ap (λ (x : ℕ). range x (ends (item kept end n)) ++ range (ends (item kept end n) + 1) end) F.from
          ∙ range_more n (ends (item kept end n)) (ends (item kept end n) + 1) end (omega (arith, on)) refl (omega (arith, in-it))

  items_right : (at k n : ℕ) → (n ≤ end → Begins at n) → AllRight kept end at (items kept end k n)
  items_right at zero n B = tt
  items_right at (suc k) n B = go (ltb end n) refl (λ a C. items_right at k a C)
    where
      go : (b : Bool) → ltb end n ≡ b → ((a : ℕ) → (a ≤ end → Begins at a) → AllRight kept end at (items kept end k a))
          → AllRight kept end at (cond b [] (item kept end n ∷ items kept end k (ends (item kept end n) + 1)))
      go true p rest = tt
      go false p rest = let l = ltb-false end n p in (item_right at n l (B l), rest (ends (item kept end n) + 1) (λ m. item_next at n l m))

  pub planned : (at : ℕ) → at ≤ end + 1 → Planned kept end at
  unfolding plan
  planned at l = record { covers = items_cover (end + 1 - at) at l (omega (arith, l)); right = items_right at (end + 1 - at) at (λ l f g. refl) }

  -- THE NEXT ITEM of a plan
  items_enough : (j k n : ℕ) → end + 1 ≤ n + j → end + 1 ≤ n + k → items kept end j n ≡ items kept end k n
  items_enough zero zero n a b = refl
  items_enough zero (suc k) n a b = go (ltb end n) refl
    where
      go : (c : Bool) → ltb end n ≡ c → [] ≡ cond c [] (item kept end n ∷ items kept end k (ends (item kept end n) + 1))
      go true p = refl
      go false p = let y = ltb-false end n p in absurd (omega (arith, y, a))
  items_enough (suc j) zero n a b = go (ltb end n) refl
    where
      go : (c : Bool) → ltb end n ≡ c → cond c [] (item kept end n ∷ items kept end j (ends (item kept end n) + 1)) ≡ []
      go true p = refl
      go false p = let y = ltb-false end n p in absurd (omega (arith, y, b))
  items_enough (suc j) (suc k) n a b = go (ltb end n) refl (λ m u v. items_enough j k m u v)
    where
      go : (c : Bool) → ltb end n ≡ c → ((m : ℕ) → end + 1 ≤ m + j → end + 1 ≤ m + k → items kept end j m ≡ items kept end k m)
          → cond c [] (item kept end n ∷ items kept end j (ends (item kept end n) + 1)) ≡ cond c [] (item kept end n ∷ items kept end k (ends (item kept end n) + 1))
      go true p rest = refl
      go false p rest =
          let on = (item_fits n (ltb-false end n p)).on in
          ap (λ (l : List (Item)). item kept end n ∷ l) (rest (ends (item kept end n) + 1) (omega (arith, on, a)) (omega (arith, on, b)))

  pub plan_next : (n : ℕ) → n ≤ end → plan kept end n ≡ item kept end n ∷ plan kept end (ends (item kept end n) + 1)
  unfolding plan
  plan_next n l =
      let on = (item_fits n l).on in
      let e = items_enough (end + 1 - n) (suc (end - n)) n (omega (arith, l)) (omega (arith, l)) in
      let f = items_enough (end - n) (end + 1 - (ends (item kept end n) + 1)) (ends (item kept end n) + 1) (omega (arith, on, l)) (omega (arith, on, l)) in
      let g : items kept end (suc (end - n)) n ≡ item kept end n ∷ items kept end (end - n) (ends (item kept end n) + 1) = rw (le-ltb end n l) in
      e ∙ g ∙ ap (λ (x : List (Item)). item kept end n ∷ x) f

  pub plan_past : (n : ℕ) → end < n → plan kept end n ≡ []
  unfolding plan
  plan_past n l = items_enough (end + 1 - n) 0 n (omega (arith, l)) (omega (arith, l))
