-- A zeroed store keeps nothing; rising reports that are kept in it one behind the other leave the last 64.
-- Assumes nothing.
use Prim.Native.Nat.{ℕ, zero, suc, ◌-◌}
use mathlib.Core.Path.{◌≡◌, refl, sym, ap, ◌∙◌, subst}
use mathlib.Core.List.{List, [], ◌∷◌, ◌++◌, append-nil}
use mathlib.Core.Option.{Option, none, some}
use mathlib.Core.Bool.{true, false≢true}
use mathlib.Core.Logic.{inl}
use lib.Dec.{eqb}
use lib.ListN.{length, replicate}
use lib.Seq.{append_snoc}
use Rattle.octets.specs.Bytes.{Bytes, has}
use Rattle.octets.proofs.Tests.{any_append, or_last}
use Rattle.places.specs.Places.{is_store, zeroed}
use Rattle.places.proofs.Cuts.{zeroed-places, zeroed_store}
use Rattle.report.specs.Report.{Report, sent, sendable}
use Rattle.report.proofs.Promise.{promise}
use Rattle.kept.specs.Kept.{held}
use Rattle.kept.proofs.Holding.{held_is}
use Rattle.store.specs.Store.{Table, numbers, find, unless_met, counted, kept, keep}
use Rattle.store.specs.Promise.{keep_all, AllSendable, Above, last64}
use Rattle.store.proofs.Standing.{kept_once, kept_length}
use Rattle.store.proofs.Keeping.{keep_whole, keep_table}
use Rattle.store.proofs.Last.{Behind, is_new, step}

module _ (us them : Bytes) where
  -- zeros are no report: a report ends in `|`
  zeros_hold : held us them (replicate 512 0) ≡ none
  zeros_hold = go (held us them (replicate 512 0)) refl
    where
      go : (o : Option Report) → held us them (replicate 512 0) ≡ o → o ≡ none
      go none e = refl
      go (some r) e =
          let H = held_is us them (replicate 512 0) r refl e in
          let W = promise.written us them r H.sends in
          let a : has (sent us them r) 1 ≡ true = ap (λ (l : Bytes). has l 1) W.bar.1 ∙ any_append (λ y. eqb y 1) W.bar.0 (1 ∷ []) ∙ or_last (has W.bar.0 1) true refl in
          let b : has (replicate 512 0) 1 ≡ true = ap (λ (l : Bytes). has l 1) H.bytes ∙ any_append (λ y. eqb y 1) (sent us them r) (replicate (512 - length (sent us them r)) 0) ∙ rw a in
          absurd (false≢true b)

  zeros_count : (k : ℕ) (met : List ℕ) → counted us them met (replicate k (replicate 512 0)) ≡ replicate k none
  zeros_count zero met = refl
  zeros_count (suc k) met =
      ap (λ (o : Option Report). unless_met us them o met ∷ counted us them (numbers (unless_met us them o met ∷ []) ++ met) (replicate k (replicate 512 0))) zeros_hold
      ∙ ap (λ (l : Table). none ∷ l) (zeros_count k met)

  zeroed_table : (store : Bytes) → is_store store ≡ true → kept us them (zeroed store) ≡ replicate 64 none
  unfolding kept
  zeroed_table store s = ap (counted us them []) (zeroed-places store s) ∙ zeros_count 64 []

  pub zeroed_none : (store : Bytes) → is_store store ≡ true → (n : ℕ) → find n (kept us them (zeroed store)) ≡ none
  zeroed_none store s n = ap (find n) (zeroed_table store s)

  pub zeroed_behind : (store : Bytes) → is_store store ≡ true → Behind (kept us them (zeroed store)) []
  zeroed_behind store s =
      record { long = kept_length us them (zeroed store); many = inl (ap (λ (l : Table). length (numbers l)) (zeroed_table store s)); last = zeroed_none store s }

  -- with one more report, whose number rises
  module _ (done : List Report) (r : Report) (rest : List Report) (store : Bytes) (s : is_store store ≡ true) (B : Behind (kept us them store) done) (S : sendable us them r ≡ true) (A : Above 0 (done ++ (r ∷ rest))) where
    new_number : find r.number (kept us them store) ≡ none
    new_number = is_new (kept us them store) done r rest B A

    pub still_store : is_store (keep us them r store) ≡ true
    still_store = keep_whole us them r store s S new_number

    pub one_more : Behind (kept us them (keep us them r store)) (done ++ (r ∷ []))
    one_more =
        subst (λ (l : Table). Behind l (done ++ (r ∷ []))) (sym (keep_table us them r store s S new_number))
        (step (kept us them store) done r rest B A (kept_once us them store))

  all_kept : (done rs : List Report) (store : Bytes) → is_store store ≡ true → Behind (kept us them store) done → AllSendable us them rs → Above 0 (done ++ rs)
      → (n : ℕ) → find n (kept us them (keep_all us them rs store)) ≡ find n (last64 (done ++ rs))
  all_kept done [] store s B S A n = B.last n ∙ ap (λ (l : List Report). find n (last64 l)) (sym (append-nil done))
  all_kept done (r ∷ rs) store s B S A n =
      let e = append_snoc done r rs in
      all_kept (done ++ (r ∷ [])) rs (keep us them r store) (still_store done r rs store s B S.0 A) (one_more done r rs store s B S.0 A) S.1 (subst (Above 0) (sym e) A) n
      ∙ ap (λ (l : List Report). find n (last64 l)) e

  pub last_kept : (store : Bytes) (rs : List Report) → is_store store ≡ true → AllSendable us them rs → Above 0 rs
      → (n : ℕ) → find n (kept us them (keep_all us them rs (zeroed store))) ≡ find n (last64 rs)
  last_kept store rs s S A =
      all_kept [] rs (zeroed store) (zeroed_store store s) (zeroed_behind store s) S A
