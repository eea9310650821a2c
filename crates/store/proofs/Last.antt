-- Rising reports, kept one behind the other from an empty table on: the last 64 are found, and no others.
-- Assumes nothing.
use Prim.Native.Nat.{ℕ, zero, suc, ◌+◌, ◌-◌, ◌≤◌, ◌<◌}
use native.Mathlib.Omega.{arith}
use mathlib.Core.Path.{◌≡◌, refl, sym, ap, ◌∙◌, subst}
use mathlib.Core.List.{List, [], ◌∷◌, ◌++◌, map}
use mathlib.Core.Option.{Option, none, some, none-ne-some}
use mathlib.Core.Bool.{Bool, true, false, cond, ◌||◌, false≢true}
use mathlib.Core.Logic.{◌⊎◌, inl, inr, ⊎_elim}
use lib.Dec.{eqb, leb}
use lib.ListN.{length, drop, get_or, set, length-append, length-drop, length-set}
use lib.Seq.{drop-append-le, drop-drop}
use borrow.Author.Tests.{eqb-true, eqb-false, eq-eqb, ne_eqb, leb-true, leb-false}
use Rattle.octets.specs.Bytes.{has}
use Rattle.report.specs.Report.{Report}
use Rattle.store.specs.Store.{Table, numbers, find, place_of, full, lowest, takes}
use Rattle.store.specs.Promise.{Above, last64}
use Rattle.store.proofs.Finding.{not_found, found_not}
use Rattle.store.proofs.Counting.{Once, lowest_in, takes-within}
use Rattle.store.proofs.Free.{lowest_under}
use Rattle.store.proofs.Tables.{set_new, Other, set_other, empty_at, place_other, set_gone, set-count, set_full, full-count, fewer}
use Rattle.store.proofs.Keeping.{takes-empty, takes-lowest}

-- RISING REPORTS: none of a number that is not above, each later one is new
above_not : (n m : ℕ) (l : List Report) → Above n l → m ≤ n → find m (map some l) ≡ none
above_not n m [] A h = refl
above_not n m (x ∷ l) A h =
    let k = A.0 in rw (ne_eqb x.number m (λ e. omega (arith, k, e, h))) (above_not x.number m l A.1 (omega (arith, k, h)))

above-front : (n : ℕ) (k l : List Report) → Above n (k ++ l) → Above n k
above-front n [] l A = tt
above-front n (x ∷ k) l A = (A.0, above-front x.number k l A.1)

above_next : (n : ℕ) (k : List Report) (r : Report) (l : List Report) → Above n (k ++ (r ∷ l)) → n < r.number
above_next n [] r l A = A.0
above_next n (x ∷ k) r l A = let h = above_next x.number k r l A.1 in let g = A.0 in omega (arith, h, g)

above_new : (n : ℕ) (k : List Report) (r : Report) (l : List Report) → Above n (k ++ (r ∷ l)) → find r.number (map some k) ≡ none
above_new n [] r l A = refl
above_new n (x ∷ k) r l A =
    let h = above_next x.number k r l A.1 in rw (ne_eqb x.number r.number (λ e. omega (arith, h, e))) (above_new x.number k r l A.1)

abbrev above_drop : (n : ℕ) (l : List Report) (j : ℕ) → Above n l → (m : ℕ) × Above m (drop j l)
above_drop n l zero A = (n, A)
above_drop n [] (suc j) A = (n, tt)
above_drop n (x ∷ l) (suc j) A = above_drop x.number l j A.1

-- WITH ONE MORE at the end
more_other : (k : List Report) (r : Report) (n : ℕ) → (n ≡ r.number → ⊥) → find n (map some (k ++ (r ∷ []))) ≡ find n (map some k)
more_other [] r n d = rw (ne_eqb r.number n (λ e. d (sym e)))
more_other (x ∷ k) r n d = ap (λ (f : Option Report). cond (eqb x.number n) (some x) f) (more_other k r n d)

more_new : (k : List Report) (r : Report) → find r.number (map some k) ≡ none → find r.number (map some (k ++ (r ∷ []))) ≡ some r
more_new [] r f = rw (eq-eqb r.number r.number refl)
more_new (x ∷ k) r f = go (eqb x.number r.number) f (more_new k r)
  where
    go : (b : Bool) → cond b (some x) (find r.number (map some k)) ≡ none → (find r.number (map some k) ≡ none → find r.number (map some (k ++ (r ∷ []))) ≡ some r)
        → cond b (some x) (find r.number (map some (k ++ (r ∷ [])))) ≡ some r
    go true f rest = absurd (none-ne-some x (sym f))
    go false f rest = rest f

-- a table in which others are found as before, and the new one
alike_more : (l : Table) (k : List Report) (r : Report) → find r.number l ≡ some r → find r.number (map some k) ≡ none
    → ((n : ℕ) → (n ≡ r.number → ⊥) → find n l ≡ find n (map some k)) → (n : ℕ) → find n l ≡ find n (map some (k ++ (r ∷ [])))
alike_more l k r f g same n = go (eqb n r.number) refl
  where
    go : (b : Bool) → eqb n r.number ≡ b → find n l ≡ find n (map some (k ++ (r ∷ [])))
    go true e = subst (λ (m : ℕ). find m l ≡ find m (map some (k ++ (r ∷ [])))) (sym (eqb-true n r.number e)) (f ∙ sym (more_new k r g))
    go false e = let d = eqb-false n r.number e in same n d ∙ sym (more_other k r n d)

-- what is found alike has the same numbers
same_has : (k l : Table) (n : ℕ) → find n k ≡ find n l → has (numbers k) n ≡ true → has (numbers l) n ≡ true
same_has k l n e h = go (has (numbers l) n) refl
  where
    go : (b : Bool) → has (numbers l) n ≡ b → b ≡ true
    go true p = refl
    go false p = absurd (false≢true (sym (found_not n k (e ∙ not_found n l p)) ∙ h))

above-least : (d : Report) (k : List Report) (n : ℕ) → Above d.number k → has (numbers (map some (d ∷ k))) n ≡ true → d.number ≤ n
above-least d k n A h = go (leb d.number n) refl
  where
    go : (b : Bool) → leb d.number n ≡ b → d.number ≤ n
    go true p = leb-true d.number n p
    go false p =
        let q = leb-false d.number n p in
        let f : find n (map some (d ∷ k)) ≡ none = rw (ne_eqb d.number n (λ e. omega (arith, q, e))) (above_not d.number n k A (omega (arith, q))) in
        absurd (false≢true (sym (found_not n (map some (d ∷ k)) f) ∙ h))

-- THE TABLE behind some reports
pub record Behind (l : Table) (done : List Report) : Type 0 where
  pub long : length l ≡ 64
  -- as many as were kept, till it is full
  pub many : (length (numbers l) ≡ length done) ⊎ ((full l ≡ true) × (64 ≤ length done))
  pub last : (n : ℕ) → find n l ≡ find n (last64 done)

module _ (l : Table) (done : List Report) (r : Report) (rest : List Report) (B : Behind l done) (A : Above 0 (done ++ (r ∷ rest))) where
  -- what the last 64 begin above
  abbrev start : ℕ
  start = (above_drop 0 (done ++ (r ∷ rest)) (length done - 64) A).0

  rising : Above start (drop (length done - 64) done ++ (r ∷ rest))
  rising =
      subst (Above start) (drop-append-le (length done - 64) done (r ∷ rest) (omega arith)) (above_drop 0 (done ++ (r ∷ rest)) (length done - 64) A).1

  pub is_new : find r.number l ≡ none
  is_new = B.last r.number ∙ above_new start (drop (length done - 64) done) r rest rising

  -- while a place is empty all are kept
  step_empty : full l ≡ false → Behind (set l (takes l) (some r)) (done ++ (r ∷ []))
  step_empty u =
      let k = ⊎_elim (λ c. c) (λ f. absurd (false≢true (sym u ∙ f.0))) B.many in
      let b = B.long in
      let h = fewer l u in
      let w = takes-within l (omega (arith, b)) in
      let n = length-append done (r ∷ []) in
      let y : length done - 64 ≡ 0 = omega (arith, k, b, h) in
      let z : length (done ++ (r ∷ [])) - 64 ≡ 0 = omega (arith, k, b, h, n) in
      let c : length (numbers (set l (takes l) (some r))) ≡ suc (length (numbers l)) = ap (λ (i : ℕ). length (numbers (set l i (some r)))) (takes-empty l u) ∙ set-count l r u in
      record {
        long = length-set l (takes l) (some r) ∙ b;
        many = inl (omega (arith, c, k, n));
        last = λ m.
            alike_more (set l (takes l) (some r)) done r (set_new l (takes l) r w is_new) (above_new 0 done r rest A)
            (λ j d.
            set_other l (takes l) r j d (subst (Other j) (sym (ap (λ (i : ℕ). get_or l i none) (takes-empty l u) ∙ empty_at l)) tt)
            ∙ B.last j ∙ ap (λ (i : ℕ). find j (map some (drop i done))) y)
            m
            ∙ sym (ap (λ (i : ℕ). find m (map some (drop i (done ++ (r ∷ []))))) z);
      }

  -- in a full table the lowest is the first of the last 64, and goes
  module _ (O : Once (numbers l)) (u : full l ≡ true) (d : Report) (ds : List Report) (e : drop (length done - 64) done ≡ d ∷ ds) (F : Above d.number (ds ++ (r ∷ rest))) where
    found : (n : ℕ) → find n l ≡ find n (map some (d ∷ ds))
    found n = B.last n ∙ ap (λ (k : List Report). find n (map some k)) e

    low : lowest (numbers l) ≡ d.number
    low =
        let b = B.long in
        let x = lowest_under (numbers l) d.number (same_has (map some (d ∷ ds)) l d.number (sym (found d.number)) (ap (λ (c : Bool). c || has (numbers (map some ds)) d.number) (eq-eqb d.number d.number refl))) in
        let y = above-least d ds (lowest (numbers l)) (above-front d.number ds (r ∷ rest) F) (same_has l (map some (d ∷ ds)) (lowest (numbers l)) (found (lowest (numbers l))) (lowest_in l u (omega (arith, b)))) in
        omega (arith, x, y)

    others : (n : ℕ) → (n ≡ r.number → ⊥) → find n (set l (takes l) (some r)) ≡ find n (map some ds)
    others n a = ap (λ (i : ℕ). find n (set l i (some r))) (takes-lowest l u) ∙ go (eqb n d.number) refl
      where
        go : (b : Bool) → eqb n d.number ≡ b → find n (set l (place_of (lowest (numbers l)) l) (some r)) ≡ find n (map some ds)
        go true p =
            let q = eqb-true n d.number p in
            ap (λ (i : ℕ). find n (set l (place_of i l) (some r))) (low ∙ sym q) ∙ set_gone l r n O a
            ∙ sym (above_not d.number n ds (above-front d.number ds (r ∷ rest) F) (omega (arith, q)))
        go false p =
            let q = eqb-false n d.number p in
            set_other l (place_of (lowest (numbers l)) l) r n a (place_other l (lowest (numbers l)) n (λ f. q (f ∙ low)))
            ∙ found n ∙ rw (ne_eqb d.number n (λ f. q (sym f)))

    step_full : 64 ≤ length done → Behind (set l (takes l) (some r)) (done ++ (r ∷ []))
    step_full h =
        let b = B.long in
        let w = takes-within l (omega (arith, b)) in
        let n = length-append done (r ∷ []) in
        let j = length done - 64 in
        let z : length (done ++ (r ∷ [])) - 64 ≡ j + 1 = omega (arith, n, h) in
        let f : drop (length (done ++ (r ∷ [])) - 64) (done ++ (r ∷ [])) ≡ ds ++ (r ∷ []) =
        ap (λ (i : ℕ). drop i (done ++ (r ∷ []))) z ∙ drop-append-le (j + 1) done (r ∷ []) (omega (arith, h)) ∙ ap (λ (k : List Report). k ++ (r ∷ [])) (sym (drop-drop 1 j done) ∙ ap (drop 1) e) in
        record {
          long = length-set l (takes l) (some r) ∙ b;
          many = inr (set_full l (takes l) r u, omega (arith, n, h));
          last = λ m.
              alike_more (set l (takes l) (some r)) ds r (set_new l (takes l) r w is_new) (above_new d.number ds r rest F) others m
              ∙ sym (ap (λ (k : List Report). find m (map some k)) f);
        }

  pub step : Once (numbers l) → Behind (set l (takes l) (some r)) (done ++ (r ∷ []))
  step O = go (full l) refl
    where
      parts : (u : full l ≡ true) → 64 ≤ length done → (k : List Report) → drop (length done - 64) done ≡ k → 0 < length k → Above start (k ++ (r ∷ rest)) → Behind (set l (takes l) (some r)) (done ++ (r ∷ []))
      parts u h [] e n F = absurd (omega (arith, n))
      parts u h (d ∷ ds) e n F = step_full O u d ds e F.1 h

      go : (b : Bool) → full l ≡ b → Behind (set l (takes l) (some r)) (done ++ (r ∷ []))
      go true u =
          let b = B.long in
          let c = full-count l u in
          let h : 64 ≤ length done = ⊎_elim (λ k. omega (arith, k, c, b)) (λ k. k.1) B.many in
          let n = length-drop (length done - 64) done in
          parts u h (drop (length done - 64) done) refl (omega (arith, n, h)) rising
      go false u = step_empty u
