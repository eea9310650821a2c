-- Counting off spans of any sizes, months and years alike: a day that lies in a span is counted to lie there, and each day lies in one.
use Prim.Native.Nat.{ℕ, zero, suc, ◌+◌, ◌-◌, ◌≤◌, ◌<◌}
use native.Mathlib.Nat.{add-zero, zero-add}
use native.Mathlib.Omega.{arith}
use mathlib.Core.Path.{◌≡◌, refl, sym, ap, ◌∙◌}
use mathlib.Core.Bool.{Bool, true, false}
use lib.Dec.{ltb}
use borrow.Author.Tests.{lt-ltb, le-ltb, ltb-true, ltb-false}
use Rattle.calendar.specs.Time.{total, counted}

module _ (size : ℕ → ℕ) where
  total_first : (i k : ℕ) → total size i (suc k) ≡ size i + total size (i + 1) k
  total_first i zero = let e : i + 0 ≡ i = omega arith in rw e (omega arith)
  total_first i (suc k) = let e : i + suc k ≡ i + 1 + k = omega arith in rw e (omega (arith, total_first i k))

  total_more : (i j k : ℕ) → total size i (j + k) ≡ total size i j + total size (i + j) k
  total_more i j zero = let e : j + 0 ≡ j = omega arith in rw e (omega arith)
  total_more i j (suc k) =
      let n : j + suc k ≡ suc (j + k) = omega arith in
      let e : i + (j + k) ≡ i + j + k = omega arith in
      rw (n, e) (omega (arith, total_more i j k))

  pub total_behind : (i j k a b : ℕ) → total size i j ≡ a → total size i (j + k) ≡ a + b → total size (i + j) k ≡ b
  total_behind i j k a b p q = omega (arith, total_more i j k)

  -- a day of the j-th span, before the end of k spans
  pub total_inside : (i j k n day : ℕ) → total size i k ≡ n → total size i j + day < n → j < k
  total_inside i j k n day e h = go (ltb j k) refl
    where
      go : (b : Bool) → ltb j k ≡ b → j < k
      go true f = ltb-true j k f
      go false f =
          let g = ltb-false j k f in
          let l : k + (j - k) ≡ j = omega arith in
          absurd (omega (arith, total_more i k (j - k), ap (total size i) l))

  pub total_below : (i j k n day : ℕ) → total size i k ≡ n → j < k → day < size (i + j) → total size i j + day < n
  total_below i j k n day e h s =
      let l : suc j + (k - suc j) ≡ k = omega arith in
      omega (arith, total_more i (suc j) (k - suc j), ap (total size i) l)

  -- whole spans are counted off
  pub counted_past : (j k i d : ℕ) → counted size (j + k) i (total size i j + d) ≡ counted size k (i + j) d
  counted_past zero k i d = rw (zero-add k, zero-add d, add-zero i)
  counted_past (suc j) k i d =
      let e : i + suc j ≡ i + 1 + j = omega arith in
      let n : suc j + k ≡ suc (j + k) = omega arith in
      let l : size i ≤ total size i (suc j) + d = omega (arith, total_first i j) in
      let m : total size i (suc j) + d - size i ≡ total size (i + 1) j + d = omega (arith, total_first i j) in
      rw (n, le-ltb (total size i (suc j) + d) (size i) l, m, e) (counted_past j k (i + 1) d)

  counted_here : (k i d : ℕ) → d < size i → counted size k i d ≡ (i, d)
  counted_here zero i d h = refl
  counted_here (suc k) i d h = rw (lt-ltb d (size i) h)

  -- the day `day` of the span n, j spans behind the i-th, is counted to lie there
  pub counted_at : (k i j n d day : ℕ) → i + j ≡ n → total size i j + day ≡ d → j ≤ k → day < size n → counted size k i d ≡ (n, day)
  counted_at k i j n d day p q h s =
      let e : j + (k - j) ≡ k = omega arith in
      rw (← p, ← q, ← e) (counted_past j (k - j) i day ∙ counted_here (k - j) (i + j) day (rw p s))

  -- the same, counted from a later span on
  pub counted_behind : (j k i q n b d day : ℕ) → total size i j ≡ b → i + q ≡ n → total size i q + day ≡ d + b → q ≤ j + k → day < size n
      → counted size k (i + j) d ≡ (n, day)
  counted_behind j k i q n b d day t p e h s =
      sym (counted_past j k i d) ∙ counted_at (j + k) i q n (total size i j + d) day p (omega arith) h s

  -- each day of k spans lies in one of them
  pub record Lies (i k d : ℕ) : Type 0 where
    pub span : ℕ
    pub day : ℕ
    pub few : span < k
    pub here : total size i span + day ≡ d
    pub short : day < size (i + span)

  lies_below : (i k d : ℕ) → d < total size i k → Lies i k d
  lies_below i zero d h = absurd (omega arith)
  lies_below i (suc k) d h = go (ltb d (total size i k)) refl (lies_below i k d)
    where
      go : (b : Bool) → ltb d (total size i k) ≡ b → (d < total size i k → Lies i k d) → Lies i (suc k) d
      go true e f =
          let w = f (ltb-true d (total size i k) e) in
          record { span = w.span; day = w.day; few = omega (arith, w.few); here = w.here; short = w.short }
      go false e f =
          let g = ltb-false d (total size i k) e in
          record { span = k; day = d - total size i k; few = omega arith; here = omega arith; short = omega arith }

  pub lies : (i k n d : ℕ) → total size i k ≡ n → d < n → Lies i k d
  lies i k n d e h = lies_below i k d (rw e h)
