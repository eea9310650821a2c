-- What is found in a table is there under its number, and what is not found is not among its numbers.
-- Assumes nothing.
use Prim.Native.Nat.{ℕ}
use mathlib.Core.Path.{◌≡◌, refl, sym, ap, ◌∙◌}
use mathlib.Core.List.{[], ◌∷◌}
use mathlib.Core.Option.{none, some, none-ne-some, some-injective}
use mathlib.Core.Bool.{Bool, true, false, cond, ◌||◌}
use lib.Dec.{eqb}
use borrow.Author.Tests.{eqb-true}
use Rattle.octets.specs.Bytes.{has}
use Rattle.octets.proofs.Tests.{neither}
use Rattle.report.specs.Report.{Report}
use Rattle.store.specs.Store.{Table, numbers, find}

pub found_number : (n : ℕ) (l : Table) (r : Report) → find n l ≡ some r → r.number ≡ n
found_number n [] r e = absurd (none-ne-some r e)
found_number n (none ∷ l) r e = found_number n l r e
found_number n (some x ∷ l) r e = go (found_number n l r) (eqb x.number n) refl e
  where
    go : (find n l ≡ some r → r.number ≡ n) → (b : Bool) → eqb x.number n ≡ b → cond b (some x) (find n l) ≡ some r → r.number ≡ n
    go rest true p e = ap (λ (u : Report). u.number) (sym (some-injective x r e)) ∙ eqb-true x.number n p
    go rest false p e = rest e

pub not_found : (n : ℕ) (l : Table) → has (numbers l) n ≡ false → find n l ≡ none
not_found n [] h = refl
not_found n (none ∷ l) h = not_found n l h
not_found n (some x ∷ l) h = let k = neither (eqb x.number n) (has (numbers l) n) h in rw k.0 (not_found n l k.1)

pub found_not : (n : ℕ) (l : Table) → find n l ≡ none → has (numbers l) n ≡ false
found_not n [] h = refl
found_not n (none ∷ l) h = found_not n l h
found_not n (some x ∷ l) h = go (found_not n l) (eqb x.number n) refl h
  where
    go : (find n l ≡ none → has (numbers l) n ≡ false) → (b : Bool) → eqb x.number n ≡ b → cond b (some x) (find n l) ≡ none → (b || has (numbers l) n) ≡ false
    go rest true p e = absurd (none-ne-some x (sym e))
    go rest false p e = rest e
