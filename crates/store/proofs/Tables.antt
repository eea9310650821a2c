-- A table with one more report: what is found in it, how many it has, and whether it is full.
-- Assumes nothing.
use Prim.Native.Nat.{ℕ, zero, suc, ◌≤◌, ◌<◌}
use native.Mathlib.Omega.{arith}
use mathlib.Core.Path.{◌≡◌, refl, sym, ap, ◌∙◌, subst}
use mathlib.Core.List.{[], ◌∷◌}
use mathlib.Core.Option.{Option, none, some, none-ne-some}
use mathlib.Core.Bool.{Bool, true, false, cond, false≢true}
use lib.Dec.{eqb}
use lib.ListN.{length, get_or, set}
use borrow.Author.Tests.{eqb-true, eq-eqb, ne_eqb}
use Rattle.octets.specs.Bytes.{has}
use Rattle.report.specs.Report.{Report}
use Rattle.store.specs.Store.{Table, numbers, find, place_of, first_empty, full}
use Rattle.store.proofs.Finding.{not_found}
use Rattle.store.proofs.Counting.{Once}

-- WHAT IS FOUND behind a report put into a place
pub set_new : (l : Table) (i : ℕ) (r : Report) → i < length l → find r.number l ≡ none → find r.number (set l i (some r)) ≡ some r
set_new [] i r h f = absurd (omega (arith, h))
set_new (o ∷ l) zero r h f = rw (eq-eqb r.number r.number refl)
set_new (none ∷ l) (suc i) r h f = set_new l i r (omega (arith, h)) f
set_new (some x ∷ l) (suc i) r h f = go (eqb x.number r.number) f (set_new l i r (omega (arith, h)))
  where
    go : (b : Bool) → cond b (some x) (find r.number l) ≡ none → (find r.number l ≡ none → find r.number (set l i (some r)) ≡ some r)
        → cond b (some x) (find r.number (set l i (some r))) ≡ some r
    go true f rest = absurd (none-ne-some x (sym f))
    go false f rest = rest f

-- a place that is not the number's
abbrev pub Other : ℕ → Option Report → Type 0
Other n none = Unit {0}
Other n (some x) = x.number ≡ n → ⊥

pub set_other : (l : Table) (i : ℕ) (r : Report) (n : ℕ) → (n ≡ r.number → ⊥) → Other n (get_or l i none) → find n (set l i (some r)) ≡ find n l
set_other [] i r n d o = refl
set_other (none ∷ l) zero r n d o = rw (ne_eqb r.number n (λ e. d (sym e)))
set_other (some x ∷ l) zero r n d o = rw (ne_eqb r.number n (λ e. d (sym e)), ne_eqb x.number n o)
set_other (none ∷ l) (suc i) r n d o = set_other l i r n d o
set_other (some x ∷ l) (suc i) r n d o = ap (λ (f : Option Report). cond (eqb x.number n) (some x) f) (set_other l i r n d o)

pub empty_at : (l : Table) → get_or l (first_empty l) none ≡ none
empty_at [] = refl
empty_at (none ∷ l) = refl
empty_at (some x ∷ l) = empty_at l

pub place_other : (l : Table) (m n : ℕ) → (n ≡ m → ⊥) → Other n (get_or l (place_of m l) none)
place_other [] m n d = tt
place_other (none ∷ l) m n d = place_other l m n d
place_other (some x ∷ l) m n d = go (eqb x.number m) refl (place_other l m n d)
  where
    go : (b : Bool) → eqb x.number m ≡ b → Other n (get_or l (place_of m l) none) → Other n (get_or (some x ∷ l) (cond b 0 (suc (place_of m l))) none)
    go true e rest = λ f. d (sym f ∙ eqb-true x.number m e)
    go false e rest = rest

pub set_gone : (l : Table) (r : Report) (n : ℕ) → Once (numbers l) → (n ≡ r.number → ⊥) → find n (set l (place_of n l) (some r)) ≡ none
set_gone [] r n O d = refl
set_gone (none ∷ l) r n O d = set_gone l r n O d
set_gone (some x ∷ l) r n O d = go (eqb x.number n) refl (set_gone l r n O.1 d)
  where
    go : (b : Bool) → eqb x.number n ≡ b → find n (set l (place_of n l) (some r)) ≡ none → find n (set (some x ∷ l) (cond b 0 (suc (place_of n l))) (some r)) ≡ none
    go true e rest = rw (ne_eqb r.number n (λ e. d (sym e))) (not_found n l (subst (λ (m : ℕ). has (numbers l) m ≡ false) (eqb-true x.number n e) O.0))
    go false e rest = rw e rest

-- HOW MANY
pub set-count : (l : Table) (r : Report) → full l ≡ false → length (numbers (set l (first_empty l) (some r))) ≡ suc (length (numbers l))
set-count [] r f = absurd (false≢true (sym f))
set-count (none ∷ l) r f = refl
set-count (some x ∷ l) r f = ap suc (set-count l r f)

pub set_full : (l : Table) (i : ℕ) (r : Report) → full l ≡ true → full (set l i (some r)) ≡ true
set_full [] i r f = f
set_full (none ∷ l) i r f = absurd (false≢true f)
set_full (some x ∷ l) zero r f = f
set_full (some x ∷ l) (suc i) r f = set_full l i r f

pub full-count : (l : Table) → full l ≡ true → length (numbers l) ≡ length l
full-count [] f = refl
full-count (none ∷ l) f = absurd (false≢true f)
full-count (some x ∷ l) f = ap suc (full-count l f)

few : (l : Table) → length (numbers l) ≤ length l
few [] = omega arith
few (none ∷ l) = let h = few l in omega (arith, h)
few (some x ∷ l) = let h = few l in omega (arith, h)

pub fewer : (l : Table) → full l ≡ false → length (numbers l) < length l
fewer [] f = absurd (false≢true (sym f))
fewer (none ∷ l) f = let h = few l in omega (arith, h)
fewer (some x ∷ l) f = let h = fewer l f in omega (arith, h)
