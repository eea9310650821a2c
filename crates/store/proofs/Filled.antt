-- The places as far as they were looked at: as long as each holds a report of another number, the table is known so far.
-- Assumes nothing.
use Prim.Native.Nat.{ℕ, ◌+◌, ◌≤◌, ◌<◌}
use native.Mathlib.Omega.{arith}
use native.Mathlib.Numerals.{add-one}
use mathlib.Core.Path.{◌≡◌, refl, sym, ap, ◌∙◌, subst}
use mathlib.Core.List.{List, [], ◌∷◌, ◌++◌, append-nil}
use mathlib.Core.Option.{Option, none, some}
use mathlib.Core.Bool.{Bool, true, false, ◌||◌, or_comm}
use lib.Dec.{eqb}
use lib.ListN.{length, take, drop, get_or, set, drop_of_length-le}
use lib.Seq.{drop-cons, append_snoc, take_all, take-suc-set}
use Rattle.octets.specs.Bytes.{Bytes, has}
use Rattle.octets.proofs.Tests.{any_append}
use Rattle.places.specs.Places.{is_store, places}
use Rattle.places.proofs.Cuts.{places-length}
use Rattle.report.specs.Report.{Report}
use Rattle.kept.specs.Kept.{held, number_of}
use Rattle.kept.proofs.Numbers.{number_none, number_some, number_low}
use Rattle.store.specs.Store.{Table, numbers, first_empty, full, takes, unless_met, counted, kept}
use Rattle.std.specs.Prelude.{nat_lt, Some, None}
use Rattle.std.specs.List.{IsFirstBest}
use Rattle.store.proofs.Counting.{numbered, number_at, counted_alike}
use Rattle.store.proofs.Free.{lowest_stands}

has_last : (x : ℕ) (l : List ℕ) (n : ℕ) → has (x ∷ l) n ≡ has (l ++ (x ∷ [])) n
has_last x l n =
    sym (any_append (λ y. eqb y n) l (x ∷ []) ∙ or_comm (has l n) (eqb x n || false) ∙ ap (λ (b : Bool). b || has l n) (or_comm (eqb x n) false))

module _ (us them : Bytes) where
  -- the first i places hold reports of the numbers met, each another
  pub record Filled (ps : List Bytes) (i : ℕ) (met : List ℕ) : Type 0 where
    pub full_so : full (counted us them [] ps) ≡ full (counted us them met (drop i ps))
    pub empty_so : first_empty (counted us them [] ps) ≡ i + first_empty (counted us them met (drop i ps))
    pub numbers_so : numbers (counted us them [] ps) ≡ met ++ numbers (counted us them met (drop i ps))

  pub filled_none : (ps : List Bytes) → Filled ps 0 []
  filled_none ps = record { full_so = refl; empty_so = omega arith; numbers_so = refl }

  -- one more place
  next_counts : (ps : List Bytes) (i : ℕ) (met : List ℕ) → i < length ps → counted us them met (drop i ps) ≡ counted us them met (get_or ps i [] ∷ drop (i + 1) ps)
  next_counts ps i met l = ap (counted us them met) (drop-cons ps i [] l ∙ ap (λ (k : ℕ). get_or ps i [] ∷ drop k ps) (sym (add-one i)))

  more_counts : (ps : List Bytes) (i : ℕ) (met : List ℕ) (r : Report) → i < length ps → held us them (get_or ps i []) ≡ some r → has met r.number ≡ false
      → counted us them met (drop i ps) ≡ some r ∷ counted us them (met ++ (r.number ∷ [])) (drop (i + 1) ps)
  more_counts ps i met r l e h =
      let u : unless_met us them (held us them (get_or ps i [])) met ≡ some r = ap (λ (o : Option Report). unless_met us them o met) e ∙ rw h in
      next_counts ps i met l
      ∙ ap (λ (o : Option Report). o ∷ counted us them (numbers (o ∷ []) ++ met) (drop (i + 1) ps)) u
      ∙ ap (λ (t : Table). some r ∷ t) (counted_alike us them (r.number ∷ met) (met ++ (r.number ∷ [])) (drop (i + 1) ps) (λ n h. has_last r.number met n))

  pub filled_more : (ps : List Bytes) (i n : ℕ) (met : List ℕ) → Filled ps i met → i < length ps → number_at us them ps i ≡ n → 1 ≤ n → has met n ≡ false
      → Filled ps (i + 1) (met ++ (n ∷ []))
  filled_more ps i n met F l e k h =
      let N = numbered (held us them (get_or ps i [])) n k e in
      let c = more_counts ps i met N.report l N.is (subst (λ (m : ℕ). has met m ≡ false) (sym N.number_is) h) in
      subst (λ (m : ℕ). Filled ps (i + 1) (met ++ (m ∷ []))) N.number_is
      (record {
        full_so = F.full_so ∙ ap full c;
        empty_so = F.empty_so ∙ ap (λ (t : Table). i + first_empty t) c ∙ omega arith;
        numbers_so = F.numbers_so ∙ ap (λ (t : Table). met ++ numbers t) c ∙ sym (append_snoc met N.report.number _);
      })

  -- a place that counts as empty
  at_empty : (ps : List Bytes) (i : ℕ) (met : List ℕ) → Filled ps i met → i < length ps → unless_met us them (held us them (get_or ps i [])) met ≡ none → i ≡ takes (counted us them [] ps)
  unfolding takes
  at_empty ps i met F l u =
      let c = next_counts ps i met l ∙ ap (λ (o : Option Report). o ∷ counted us them (numbers (o ∷ []) ++ met) (drop (i + 1) ps)) u in
      let f : full (counted us them [] ps) ≡ false = F.full_so ∙ ap full c in
      let e : first_empty (counted us them [] ps) ≡ i = F.empty_so ∙ ap (λ (t : Table). i + first_empty t) c ∙ omega arith in
      sym (rw f e)

  pub holds_none : (ps : List Bytes) (i : ℕ) (met : List ℕ) → Filled ps i met → i < length ps → held us them (get_or ps i []) ≡ none → i ≡ takes (counted us them [] ps)
  holds_none ps i met F l e = at_empty ps i met F l (ap (λ (o : Option Report). unless_met us them o met) e)

  pub holds_met : (ps : List Bytes) (i n : ℕ) (met : List ℕ) → Filled ps i met → i < length ps → number_at us them ps i ≡ n → 1 ≤ n → has met n ≡ true → i ≡ takes (counted us them [] ps)
  holds_met ps i n met F l e k h =
      let N = numbered (held us them (get_or ps i [])) n k e in
      at_empty ps i met F l (ap (λ (o : Option Report). unless_met us them o met) N.is ∙ rw (N.number_is, h))

  -- no place counts as empty
  pub filled_all : (ps : List Bytes) (i : ℕ) (met : List ℕ) → Filled ps (length ps) met → IsFirstBest nat_lt met (length met) i → i ≡ takes (counted us them [] ps)
  unfolding takes
  filled_all ps i met F L =
      let c = ap (counted us them met) (drop_of_length-le ps {i = length ps} (omega arith)) in
      let f : full (counted us them [] ps) ≡ true = F.full_so ∙ ap full c in
      let n : numbers (counted us them [] ps) ≡ met = F.numbers_so ∙ ap (λ (t : Table). met ++ numbers t) c ∙ append-nil met in
      lowest_stands (counted us them [] ps) i f (subst (λ (l : List ℕ). IsFirstBest nat_lt l (length l) i) (sym n) L) ∙ sym (rw f)

-- THE PLACES OF A STORE, and the numbers that were found in them
module _ (us them store : Bytes) (ns : List ℕ) (i : ℕ) (l : i < 64) (F : Filled us them (places store) i (take i ns)) where
  place : Bytes
  place = get_or (places store) i []

  among : i < length (places store)
  among = let k = places-length store in omega (arith, k, l)

  pub free_none : is_store store ≡ true → None ≡ number_of (held us them (get_or (places store) i [])) → i ≡ takes (kept us them store)
  unfolding kept
  free_none s e = holds_none us them (places store) i (take i ns) F among (number_none _ e)

  module _ (n : ℕ) (long : length (get_or (places store) i []) ≡ 512) (e : Some n ≡ number_of (held us them (get_or (places store) i []))) where
    low : 1 ≤ n
    low = number_low us them (get_or (places store) i []) n long e

    pub free_met : {b : Bool} → b ≡ has (take i ns) n → b ≡ true → i ≡ takes (kept us them store)
    unfolding kept
    free_met h t = holds_met us them (places store) i n (take i ns) F among (number_some _ n e) low (sym h ∙ t)

    pub free_more : length ns ≡ 64 → {b : Bool} → b ≡ has (take i ns) n → b ≡ false → Filled us them (places store) (i + 1) (take (i + 1) (set ns i n))
    free_more k h t =
        let g = filled_more us them (places store) i n (take i ns) F among (number_some _ n e) low (sym h ∙ t) in
        subst (Filled us them (places store) (i + 1)) (sym (ap (λ (j : ℕ). take j (set ns i n)) (add-one i) ∙ take-suc-set ns i n (omega (arith, k, l)))) g

pub free_full : (us them store : Bytes) (ns : List ℕ) (i j : ℕ) → length ns ≡ 64 → i ≡ 64 → Filled us them (places store) i (take i ns) → IsFirstBest nat_lt ns 64 j → j ≡ takes (kept us them store)
unfolding kept
free_full us them store ns i j k z F L =
    let p = places-length store in
    let t : take i ns ≡ ns = take_all i ns (omega (arith, k, z)) in
    let m : i ≡ length (places store) = omega (arith, p, z) in
    let n : 64 ≡ length ns = omega (arith, k) in
    filled_all us them (places store) j ns (subst (λ (x : ℕ). Filled us them (places store) x ns) m (subst (Filled us them (places store) i) t F)) (subst (λ (x : ℕ). IsFirstBest nat_lt ns x j) n L)
