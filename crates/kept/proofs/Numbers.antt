-- The number of a report as a plain number, 0 where there is none: what the walks over many places count with. No report has the number 0.
-- Assumes nothing.
use Prim.Native.Nat.{ℕ, ◌≤◌}
use native.Mathlib.Omega.{arith}
use mathlib.Core.Path.{◌≡◌, refl, sym, ap, ◌∙◌}
use mathlib.Core.Bool.{true, false, false≢true}
use mathlib.Core.Option.{Option, none, some}
use lib.Dec.{eqb}
use lib.ListN.{length}
use borrow.Author.Tests.{eqb-true, eq-eqb}
use Rattle.std.specs.Prelude as rust
use Rattle.std.specs.Prelude.{Some, None}
use Rattle.std.specs.Option.{option_eq}
use Rattle.std.proofs.lemmas.Option.{none-some, same_Some}
use Rattle.octets.specs.Bytes.{Bytes}
use Rattle.report.specs.Report.{Report}
use Rattle.report.proofs.ReadBack.{sendable_is}
use Rattle.kept.specs.Kept.{held, number_of}
use Rattle.kept.proofs.Holding.{held_is}

abbrev pub number : Option Report → ℕ
number none = 0
number (some r) = r.number

-- what the code's answer says of it
pub number_none : (o : Option Report) → None ≡ number_of o → o ≡ none
number_none none e = refl
number_none (some r) e = absurd (none-some {A = ℕ} r.number e)

pub number_some : (o : Option Report) (n : ℕ) → Some n ≡ number_of o → number o ≡ n
number_some none n e = absurd (none-some {A = ℕ} n (sym e))
number_some (some r) n e = same_Some {A = ℕ} r.number n (sym e)

pub number_not : (o : Option Report) {x : rust.Option ℕ} (n : ℕ) → 1 ≤ n → x ≡ number_of o → (x ≡ Some n → ⊥) → number o ≡ n → ⊥
number_not none n l e d h = omega arith
number_not (some r) n l e d h = d (e ∙ ap (λ (k : ℕ). Some k) h)

-- a test of the answer
pub same_yes : (x : rust.Option ℕ) (n : ℕ) → option_eq eqb x (Some n) ≡ true → x ≡ Some n
same_yes None n e = absurd (false≢true e)
same_yes (Some k) n e = ap (λ (j : ℕ). Some j) (eqb-true k n e)

pub same_no : (x : rust.Option ℕ) (n : ℕ) → option_eq eqb x (Some n) ≡ false → x ≡ Some n → ⊥
same_no None n e h = none-some {A = ℕ} n h
same_no (Some k) n e h = false≢true (sym e ∙ eq-eqb k n (same_Some {A = ℕ} k n h))

-- no report has the number 0
pub number_low : (us them place : Bytes) (n : ℕ) → length place ≡ 512 → Some n ≡ number_of (held us them place) → 1 ≤ n
number_low us them place n long e = go (held us them place) refl e
  where
    go : (o : Option Report) → held us them place ≡ o → Some n ≡ number_of o → 1 ≤ n
    go none p q = absurd (none-some {A = ℕ} n (sym q))
    go (some r) p q =
        let S = (sendable_is us them r (held_is us them place r long p).sends).low in
        let k = same_Some {A = ℕ} n r.number q in
        omega arith
