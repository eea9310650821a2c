-- A new report is kept: the table gets it at the place that it takes. It is found under its number, each other as before, all while a place is empty, and in a
-- full store all but the lowest, which is gone.
-- Assumes nothing.
use Prim.Native.Nat.{ℕ}
use native.Mathlib.Omega.{arith}
use mathlib.Core.Path.{◌≡◌, refl, sym, ap, ◌∙◌, subst}
use mathlib.Core.List.{[]}
use mathlib.Core.Option.{none, some}
use mathlib.Core.Bool.{Bool, true, false, false≢true}
use mathlib.Core.Logic.{◌⊎◌, inl, inr}
use lib.ListN.{get_or, set}
use Rattle.octets.specs.Bytes.{Bytes, has}
use Rattle.places.specs.Places.{is_store, places, padded}
use Rattle.places.proofs.Cuts.{places-length, put_places, put_store}
use Rattle.report.specs.Report.{Report, sent, sendable}
use Rattle.report.proofs.ReadBack.{sendable_is}
use Rattle.kept.proofs.Holding.{is_held}
use Rattle.store.specs.Store.{Table, numbers, find, place_of, first_empty, full, lowest, takes, counted, kept, keep}
use Rattle.store.specs.Promise.{Keeps}
use Rattle.store.proofs.Finding.{found_not}
use Rattle.store.proofs.Counting.{lowest_in, numbers_of, numbers_kept, counted_set}
use Rattle.store.proofs.Standing.{kept_length, kept_once, takes_place}
use Rattle.store.proofs.Tables.{set_new, Other, set_other, empty_at, place_other, set_gone}

pub takes-empty : (l : Table) → full l ≡ false → takes l ≡ first_empty l
unfolding takes
takes-empty l f = rw f

pub takes-lowest : (l : Table) → full l ≡ true → takes l ≡ place_of (lowest (numbers l)) l
unfolding takes
takes-lowest l f = rw f

takes_which : (l : Table) → (get_or l (takes l) none ≡ none) ⊎ (full l ≡ true)
takes_which l = go (full l) refl
  where
    go : (b : Bool) → full l ≡ b → (get_or l (takes l) none ≡ none) ⊎ (full l ≡ true)
    go true f = inr f
    go false f = inl (ap (λ (i : ℕ). get_or l i none) (takes-empty l f) ∙ empty_at l)

module _ (us them : Bytes) (r : Report) (store : Bytes) (s : is_store store ≡ true) (h : sendable us them r ≡ true) (f : find r.number (kept us them store) ≡ none) where
  pub keep_whole : is_store (keep us them r store) ≡ true
  unfolding keep
  keep_whole = put_store store (sent us them r) (takes (kept us them store)) s

  -- the table behind
  pub keep_table : kept us them (keep us them r store) ≡ set (kept us them store) (takes (kept us them store)) (some r)
  unfolding kept keep
  keep_table =
      let S = sendable_is us them r h in
      let i = takes (kept us them store) in
      let l = takes_place us them store in
      let p = places-length store in
      let n : has (numbers_of us them (places store)) r.number ≡ false = numbers_kept us them r.number S.low [] (places store) refl ∙ found_not r.number (kept us them store) f in
      ap (counted us them []) (put_places store (sent us them r) i s l S.short)
      ∙ counted_set us them r (padded (sent us them r)) [] (places store) i (is_held us them (padded (sent us them r)) r (record { sends = h; bytes = refl })) refl n (omega (arith, l, p)) (takes_which (kept us them store))

  pub keeps : Keeps us them r store
  keeps =
      let l = kept us them store in
      let k = kept_length us them store in
      let t = takes_place us them store in
      let T = keep_table in
      record {
        whole = keep_whole;
        new = ap (find r.number) T ∙ set_new l (takes l) r (omega (arith, k, t)) f;
        others = λ u n d. ap (find n) T ∙ set_other l (takes l) r n d (subst (Other n) (sym (ap (λ (i : ℕ). get_or l i none) (takes-empty l u) ∙ empty_at l)) tt);
        higher = λ u n d e. ap (find n) T ∙ set_other l (takes l) r n d (subst (λ (i : ℕ). Other n (get_or l i none)) (sym (takes-lowest l u)) (place_other l (lowest (numbers l)) n e));
        lowest_gone = λ u. ap (find (lowest (numbers l))) T ∙ ap (λ (i : ℕ). find (lowest (numbers l)) (set l i (some r))) (takes-lowest l u) ∙ set_gone l r (lowest (numbers l)) (kept_once us them store) (apart u);
      }
    where
      -- the lowest is kept, and the new one's number is not
      apart : full (kept us them store) ≡ true → lowest (numbers (kept us them store)) ≡ r.number → ⊥
      apart u e =
          let k = kept_length us them store in
          false≢true (sym (found_not r.number (kept us them store) f) ∙ subst (λ (n : ℕ). has (numbers (kept us them store)) n ≡ true) e (lowest_in (kept us them store) u (omega (arith, k))))
