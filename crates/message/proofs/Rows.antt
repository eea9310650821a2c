-- A row of well-formed fields: no tag is 9, and the values are bytes other than `|`.
use Prim.Native.Nat.{ℕ, suc, ◌<◌}
use native.Mathlib.Omega.{arith}
use mathlib.Core.Path.{◌≡◌, refl, sym}
use mathlib.Core.List.{List, [], ◌∷◌, ◌++◌}
use mathlib.Core.Option.{Option, none, some}
use mathlib.Core.Bool.{Bool, true, false, ◌||◌, false≢true}
use lib.Dec.{eqb}
use lib.ListN.{get_or}
use borrow.Author.Tests.{eqb-false, ne_eqb}
use Rattle.octets.specs.Bytes.{Bytes, has, decimal}
use Rattle.octets.proofs.Numerals.{Digits}
use Rattle.message.specs.Message.{Field, ◌is◌, shown}
use Rattle.message.proofs.Cutting.{decimal-digits, FreeOne, Free}

-- every element is a byte other than `|`
abbrev pub Plain : Bytes → Type 0
Plain [] = Unit {0}
Plain (x ∷ l) = ((x ≡ 1 → ⊥) × (x < 256)) × Plain l

pub plain-append : (k l : Bytes) → Plain k → Plain l → Plain (k ++ l)
plain-append [] l h g = g
plain-append (x ∷ k) l h g = (h.0, plain-append k l h.1 g)

pub plain-digits : (l : Bytes) → Digits l → Plain l
plain-digits [] h = tt
plain-digits (x ∷ l) h = (((λ e. omega (arith, h.0)), omega (arith, h.0)), plain-digits l h.1)

-- bytes in which there is no `|`
pub plain_of : (l : Bytes) → has l 1 ≡ false → ((i : ℕ) → get_or l i 0 < 256) → Plain l
plain_of [] h f = tt
plain_of (x ∷ l) h f = go (eqb x 1) refl h (λ k. plain_of l k (λ i. f (suc i)))
  where
    go : (b : Bool) → eqb x 1 ≡ b → (b || has l 1) ≡ false → (has l 1 ≡ false → Plain l) → ((x ≡ 1 → ⊥) × (x < 256)) × Plain l
    go true e k g = absurd (false≢true (sym k))
    go false e k g = ((eqb-false x 1 e, f 0), g k)

pub plain-decimal : (n : ℕ) → Plain (decimal n)
plain-decimal n = plain-digits (decimal n) (decimal-digits n)

-- WHAT IS WELL FORMED: no tag is 9 (so that no `|9=` arises), and values are bytes other than `|`
abbrev pub FitOne : ℕ → Option Bytes → Type 0
FitOne t none = Unit {0}
FitOne t (some v) = (t ≡ 9 → ⊥) × Plain v

abbrev pub Fit : List Field → Type 0
Fit [] = Unit {0}
Fit ((t is v) ∷ fs) = FitOne t (shown v) × Fit fs

pub plain-part : (t : ℕ) (v : Bytes) → Plain v → Plain (decimal t ++ (61 ∷ v))
plain-part t v h = plain-append (decimal t) (61 ∷ v) (plain-decimal t) (((λ e. omega arith), omega arith), h)

-- so they are cut as fields without `|` are
plain_free : (l : Bytes) → Plain l → has l 1 ≡ false
plain_free [] h = refl
plain_free (x ∷ l) h = rw (ne_eqb x 1 h.0.0, plain_free l h.1)

pub fit_free : (fs : List Field) → Fit fs → Free fs
fit_free [] h = tt
fit_free ((t is v) ∷ fs) h = (go (shown v) h.0, fit_free fs h.1)
  where
    go : (o : Option Bytes) → FitOne t o → FreeOne o
    go none g = tt
    go (some w) g = plain_free w g.1
