-- One place looked at by its number, and the walk over all places: where a number stands, and how far a run of other numbers goes.
-- Assumes nothing.
use Prim.Native.Nat.{ℕ, suc, ◌+◌, ◌-◌, ◌≤◌, ◌<◌}
use native.Mathlib.Omega.{arith}
use mathlib.Core.Path.{◌≡◌, refl, sym, ap, ◌∙◌, subst}
use mathlib.Core.List.{List, [], ◌∷◌}
use mathlib.Core.Option.{Option, none, some}
use mathlib.Core.Bool.{Bool, true, false, cond, ◌&&◌}
use mathlib.Core.Logic.{◌⊎◌, inl, inr, ⊎_elim}
use lib.Dec.{leb, ltb}
use lib.ListN.{length, drop, get_or, set, drop_of_length-le}
use lib.Seq.{drop-cons, get_or-set_same, get_or-set_other}
use borrow.Author.Count.{below_more}
use borrow.Author.Tests.{ltb-true, leb-true, leb-false, lt-ltb, le-ltb, le-leb, lt-leb}
use Rattle.octets.specs.Bytes.{Bytes, has}
use Rattle.places.specs.Places.{places}
use Rattle.places.proofs.Cuts.{places-length}
use Rattle.report.specs.Report.{Report}
use Rattle.kept.specs.Kept.{held}
use Rattle.kept.proofs.Numbers.{number}
use Rattle.kept.specs.code.Peeked.{Peeked}
use Rattle.store.specs.Store.{Table, numbers, place_of, stands, kept}
use Rattle.store.specs.Plan.{run_to}
use Rattle.store.proofs.Plan.{run_within, run_clear, run_stops}
use Rattle.store.proofs.Counting.{number_at, place_is, numbers_of, numbers_kept}
use Rattle.store.proofs.Standing.{kept_length}
use Rattle.std.specs.Prelude.{Some, None}

-- ONE PLACE: the number read alone is the place's number, or the place has none
module _ (us them place : Bytes) where
  peeked : (n : ℕ) → Peeked place (length us + length them) n → (number (held us them place) ≡ 0) ⊎ (number (held us them place) ≡ n)
  peeked n P = go (held us them place) refl
    where
      go : (o : Option Report) → held us them place ≡ o → (number o ≡ 0) ⊎ (number o ≡ n)
      go none e = inl refl
      go (some r) e = inr (sym (P.right us them r refl e))

  pub peeked_other : (n k : ℕ) → Peeked place (length us + length them) n → 1 ≤ k → (n ≡ k → ⊥) → number (held us them place) ≡ k → ⊥
  peeked_other n k P l d e = ⊎_elim (λ z. omega (arith, z, e, l)) (λ z. d (sym z ∙ e)) (peeked n P)

  run_on : (at end m : ℕ) → (m ≤ at) ⊎ (end < m) → end ≡ run_to at end (m ∷ [])
  run_on at end m (inl l) = sym (rw (le-ltb at m l))
  run_on at end m (inr l) = go (ltb at m)
    where
      go : (b : Bool) → end ≡ cond (b && leb m end) (m - 1) end
      go true = sym (rw (lt-leb m end l))
      go false = refl

  pub run_low : (at end n : ℕ) → Peeked place (length us + length them) n → n ≤ at → end ≡ run_to at end (number (held us them place) ∷ [])
  run_low at end n P l = run_on at end (number (held us them place)) (inl (⊎_elim (λ z. omega (arith, z)) (λ z. omega (arith, z, l)) (peeked n P)))

  pub run_high : (at end n : ℕ) → Peeked place (length us + length them) n → end < n → end ≡ run_to at end (number (held us them place) ∷ [])
  run_high at end n P l = run_on at end (number (held us them place)) (⊎_elim (λ z. inl (omega (arith, z))) (λ z. inr (omega (arith, z, l))) (peeked n P))

  pub run_not : (at end n k : ℕ) → Peeked place (length us + length them) n → k ≡ number (held us them place) → (k ≡ n → ⊥) → end ≡ run_to at end (number (held us them place) ∷ [])
  run_not at end n k P e d =
      run_on at end (number (held us them place)) (inl (⊎_elim (λ z. omega (arith, z)) (λ z. absurd (d (e ∙ z))) (peeked n P)))

  pub run_ends : (at end n k : ℕ) → k ≡ number (held us them place) → k ≡ n → at < n → n ≤ end → n - 1 ≡ run_to at end (number (held us them place) ∷ [])
  run_ends at end n k e f l h = rw (sym e ∙ f, lt-ltb at n l, le-leb n end h)

-- THE SAME NUMBERS, whatever their order and however often: the same run
run_short : (n end : ℕ) (ms : List ℕ) → end ≤ n → run_to n end ms ≡ end
run_short n end [] l = refl
run_short n end (m ∷ ms) l = go (ltb n m) (leb m (run_to n end ms)) refl refl (run_short n end ms l)
  where
    go : (a b : Bool) → ltb n m ≡ a → leb m (run_to n end ms) ≡ b → run_to n end ms ≡ end → cond (a && b) (m - 1) (run_to n end ms) ≡ end
    go true true p q e = let x = ltb-true n m p in let y = leb-true m (run_to n end ms) q in absurd (omega (arith, x, y, e, l))
    go true false p q e = e
    go false b p q e = e

run_least : (n end : ℕ) (ks ls : List ℕ) → n ≤ end → ((m : ℕ) → n < m → has ks m ≡ has ls m) → run_to n end ls ≤ run_to n end ks
run_least n end ks ls l same = go (leb (run_to n end ls) (run_to n end ks)) refl
  where
    go : (b : Bool) → leb (run_to n end ls) (run_to n end ks) ≡ b → run_to n end ls ≤ run_to n end ks
    go true p = leb-true _ _ p
    go false p = let x = leb-false (run_to n end ls) (run_to n end ks) p in stop x (has ks (run_to n end ks + 1)) refl
      where
        stop : run_to n end ks < run_to n end ls → (b : Bool) → has ks (run_to n end ks + 1) ≡ b → run_to n end ls ≤ run_to n end ks
        stop x true q =
            let k = (run_within n end ks l).0 in
            let h : n < run_to n end ks + 1 = omega (arith, k) in
            absurd (run_clear n end ls (run_to n end ks + 1) (sym (same (run_to n end ks + 1) h) ∙ q) h (omega (arith, x)))
        stop x false q = let k = (run_within n end ls l).1 in let e = run_stops n end ks q in omega (arith, e, k)

run_same : (n end : ℕ) (ks ls : List ℕ) → ((m : ℕ) → n < m → has ks m ≡ has ls m) → run_to n end ks ≡ run_to n end ls
run_same n end ks ls same = go (leb n end) refl
  where
    go : (b : Bool) → leb n end ≡ b → run_to n end ks ≡ run_to n end ls
    go true p =
        let l = leb-true n end p in
        let x = run_least n end ks ls l same in
        let y = run_least n end ls ks l (λ m h. sym (same m h)) in
        omega (arith, x, y)
    go false p =
        let l = leb-false n end p in
        let h : end ≤ n = omega (arith, l) in
        run_short n end ks h ∙ sym (run_short n end ls h)

-- ONE NUMBER FIRST, and then the others
run_swap : (n e x m : ℕ) → run_to n (run_to n e (x ∷ [])) (m ∷ []) ≡ run_to n (run_to n e (m ∷ [])) (x ∷ [])
run_swap n e x m = go (ltb n x) (ltb n m) (leb x e) (leb m e) (leb m (x - 1)) (leb x (m - 1)) refl refl refl refl refl refl
  where
    go : (a b c d p q : Bool) → ltb n x ≡ a → ltb n m ≡ b → leb x e ≡ c → leb m e ≡ d → leb m (x - 1) ≡ p → leb x (m - 1) ≡ q
        → cond (b && leb m (cond (a && c) (x - 1) e)) (m - 1) (cond (a && c) (x - 1) e) ≡ cond (a && leb x (cond (b && d) (m - 1) e)) (x - 1) (cond (b && d) (m - 1) e)
    go false false c d p q i j k l s t = refl
    go false true c d p q i j k l s t = rw l
    go true false c d p q i j k l s t = rw k
    go true true true true true true i j k l s t =
        let x0 = ltb-true n x i in let y = leb-true m (x - 1) s in let z = leb-true x (m - 1) t in absurd (omega (arith, x0, y, z))
    go true true true true true false i j k l s t = rw (s, t)
    go true true true true false true i j k l s t = rw (s, t)
    go true true true true false false i j k l s t =
        let x0 = ltb-true n x i in let m0 = ltb-true n m j in
        let y = leb-false m (x - 1) s in let z = leb-false x (m - 1) t in
        let h : x - 1 ≡ m - 1 = omega (arith, x0, m0, y, z) in rw (s, t, h)
    go true true true false true q i j k l s t =
        let y = leb-true x e k in let z = leb-false m e l in let w = leb-true m (x - 1) s in absurd (omega (arith, y, z, w))
    go true true true false false q i j k l s t = rw (s, k)
    go true true false true p true i j k l s t =
        let y = leb-false x e k in let z = leb-true m e l in let w = leb-true x (m - 1) t in absurd (omega (arith, y, z, w))
    go true true false true p false i j k l s t = rw (l, t)
    go true true false false p q i j k l s t = rw (l, k)

run_first : (n e m : ℕ) (ms : List ℕ) → run_to n e (m ∷ ms) ≡ run_to n (run_to n e (m ∷ [])) ms
run_first n e m [] = refl
run_first n e m (x ∷ ms) = run_swap n (run_to n e ms) x m ∙ ap (λ (k : ℕ). run_to n k (x ∷ [])) (run_first n e m ms)

-- THE WALK over the places of a store: the number of each place, read alone
module _ (store : Bytes) (ids : ℕ) where
  abbrev pub PeekedTo : List ℕ → ℕ → Type 0
  PeekedTo ns i = (j : ℕ) → j < i → Peeked (get_or (places store) j []) ids (get_or ns j 0)

  pub peeked_more : (ns : List ℕ) (i n : ℕ) → i < 64 → length ns ≡ 64 → PeekedTo ns i → Peeked (get_or (places store) i []) ids n → PeekedTo (set ns i n) (i + 1)
  peeked_more ns i n l e before P =
      below_more (λ j. Peeked (get_or (places store) j []) ids (get_or (set ns i n) j 0)) i
      (λ j h. subst (Peeked (get_or (places store) j []) ids) (sym (get_or-set_other ns i j n 0 (λ q. omega (arith, q, h)))) (before j h))
      (subst (Peeked (get_or (places store) i []) ids) (sym (get_or-set_same ns i n 0 (omega (arith, l, e)))) P)

-- where a number stands in a table
stands_some : (n i : ℕ) (l : Table) → i ≡ place_of n l → i < length l → Some i ≡ stands n l
stands_some n i l e h =
    ap (λ (j : ℕ). Some j) e ∙ sym (ap (λ (b : Bool). cond b (Some (place_of n l)) None) (lt-ltb (place_of n l) (length l) (omega arith)))

stands_none : (n : ℕ) (l : Table) → length l ≤ place_of n l → None ≡ stands n l
stands_none n l h = sym (ap (λ (b : Bool). cond b (Some (place_of n l)) None) (le-ltb (place_of n l) (length l) h))

module _ (us them store : Bytes) where
  stands_at : (n i : ℕ) → 1 ≤ n → i ≤ 64 → ((j : ℕ) → j < i → number_at us them (places store) j ≡ n → ⊥) → (i < 64 → number_at us them (places store) i ≡ n)
      → i ≡ place_of n (kept us them store)
  unfolding kept
  stands_at n i k l before at =
      let e = places-length store in
      place_is us them n [] (places store) i k refl (omega (arith, e, l)) before (λ h. at (omega (arith, e, h)))

  pub stands_here : (n i : ℕ) → 1 ≤ n → i < 64 → ((j : ℕ) → j < i → number_at us them (places store) j ≡ n → ⊥) → number_at us them (places store) i ≡ n
      → Some i ≡ stands n (kept us them store)
  stands_here n i k l before at =
      stands_some n i (kept us them store) (stands_at n i k (omega arith) before (λ _. at)) (omega (arith, kept_length us them store))

  pub stands_nowhere : (n : ℕ) → 1 ≤ n → ((j : ℕ) → j < 64 → number_at us them (places store) j ≡ n → ⊥) → None ≡ stands n (kept us them store)
  stands_nowhere n k before =
      let e = stands_at n 64 k (omega arith) before (λ h. absurd (omega arith)) in
      stands_none n (kept us them store) (omega (arith, kept_length us them store))

  -- what is left of a run behind all places is the run; one place more, and then the others
  pub run_all : (at e i : ℕ) → 64 ≤ i → run_to at e (numbers_of us them (drop i (places store))) ≡ e
  run_all at e i l = let n = places-length store in ap (λ (ps : List Bytes). run_to at e (numbers_of us them ps)) (drop_of_length-le (places store) {i = i} (omega (arith, n, l)))

  run_next : (at e f i : ℕ) → i < 64 → f ≡ run_to at e (number (held us them (get_or (places store) i [])) ∷ [])
      → run_to at f (numbers_of us them (drop (suc i) (places store))) ≡ run_to at e (numbers_of us them (drop i (places store)))
  run_next at e f i l q =
      let n = places-length store in
      let rest = numbers_of us them (drop (suc i) (places store)) in
      ap (λ (k : ℕ). run_to at k rest) q
      ∙ sym (run_first at e (number_at us them (places store) i) rest)
      ∙ sym (ap (λ (ps : List Bytes). run_to at e (numbers_of us them ps)) (drop-cons (places store) i [] (omega (arith, n, l))))

  abbrev pub RunFrom : ℕ → ℕ → ℕ → ℕ → Type 0
  RunFrom at end e i = run_to at e (numbers_of us them (drop i (places store))) ≡ run_to at end (numbers_of us them (places store))

  pub run_past : (at end e f i : ℕ) → i < 64 → RunFrom at end e i → f ≡ run_to at e (number (held us them (get_or (places store) i [])) ∷ [])
      → RunFrom at end f (i + 1)
  run_past at end e f i l w q =
      let s : i + 1 ≡ suc i = omega arith in
      ap (λ (k : ℕ). run_to at f (numbers_of us them (drop k (places store)))) s ∙ run_next at e f i l q ∙ w

  pub run_kept : (at end : ℕ) → run_to at end (numbers_of us them (places store)) ≡ run_to at end (numbers (kept us them store))
  unfolding kept
  run_kept at end = run_same at end (numbers_of us them (places store)) (numbers (kept us them store)) (λ m l. numbers_kept us them m (omega (arith, l)) [] (places store) refl)
