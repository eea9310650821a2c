-- Which amounts can be written: those in range, and no others.
use Prim.Native.Nat.{ℕ, zero, suc, ◌+◌, ◌/◌, ◌%◌, ◌≤◌, ◌<◌}
use native.Mathlib.Omega.{arith}
use mathlib.Core.Path.{◌≡◌, refl, ◌∙◌}
use mathlib.Core.List.{[], ◌∷◌}
use mathlib.Core.Bool.{true, false, not, and-false, false≢true}
use lib.Dec.{eqb, leb}
use lib.ListN.{length}
use borrow.Author.Tests.{ne_eqb, lt-leb}
use Rattle.octets.specs.Bytes.{Bytes, has, within, decimal, padded}
use Rattle.octets.proofs.Tests.{any_append}
use Rattle.octets.proofs.Numerals.{is_within}
use Rattle.decimals.specs.Decimal.{is_decimal, in_range}
use Rattle.kinds.specs.Kind.{formed, allowed}
use Rattle.kinds.specs.Kind as Kind
use Rattle.message.specs.code.Writable.{unwritten}
use Rattle.message.proofs.Cutting.{decimal_free}
use Rattle.amounts.specs.Amount.{without, pointing}
use Rattle.amounts.proofs.Amounts.{pointing_reads}

-- NO `|` IN THE TEXT
padded_no_bar : (k n : ℕ) → has (padded k n) 1 ≡ false
padded_no_bar zero n = refl
padded_no_bar (suc k) n =
    any_append (λ (y : ℕ). eqb y 1) (padded k (n / 10)) ((48 + n % 10) ∷ []) ∙ rw (padded_no_bar k (n / 10), ne_eqb (48 + n % 10) 1 (λ e. omega arith))

no_bar : (w k : ℕ) → has (pointing w k) 1 ≡ false
no_bar w zero = decimal_free w
no_bar w (suc k) =
    any_append (λ (y : ℕ). eqb y 1) (decimal (without (suc k) w)) (46 ∷ padded (suc k) w)
    ∙ rw (decimal_free (without (suc k) w), padded_no_bar (suc k) w)

-- a decimal has some bytes
filled : (v : Bytes) → is_decimal v ≡ true → eqb (length v) 0 ≡ false
unfolding is_decimal
filled [] f = absurd (false≢true f)
filled (x ∷ v) f = ne_eqb (length (x ∷ v)) 0 (λ e. omega arith)

-- WHICH CAN BE WRITTEN
by_range : (w k : ℕ) → unwritten Kind.decimal (pointing w k) ≡ not (in_range w k)
unfolding unwritten formed allowed
by_range w k =
    let R = pointing_reads w k in
    rw (filled (pointing w k) R.form, no_bar w k, R.form, R.whole, R.places)

pub figure_fit : (w k : ℕ) → w ≤ 999_999_999_999_999 → k ≤ 8 → not (unwritten Kind.decimal (pointing w k)) ≡ true
figure_fit w k h g = rw (by_range w k, is_within 0 999_999_999_999_999 w (omega arith) h, is_within 0 8 k (omega arith) g)

pub figure_large : (w k : ℕ) → 999_999_999_999_999 < w → not (unwritten Kind.decimal (pointing w k)) ≡ false
figure_large w k h = rw (by_range w k, lt-leb w 999_999_999_999_999 h, and-false (leb 0 w))

pub figure_fine : (w k : ℕ) → 8 < k → not (unwritten Kind.decimal (pointing w k)) ≡ false
figure_fine w k h = rw (by_range w k, lt-leb k 8 h, and-false (leb 0 k)) (rw (and-false (within 0 999_999_999_999_999 w)))
