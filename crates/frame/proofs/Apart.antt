-- F3: no two good frames overlap. So what is leftmost in a stream stays leftmost in a longer one.
use Prim.Native.Nat.{ℕ, ◌+◌, ◌-◌, ◌≤◌, ◌<◌}
use native.Mathlib.Decide.{dec_lt, dec_le}
use native.Mathlib.Omega.{arith}
use mathlib.Core.Path.{◌≡◌, sym, ap, ◌∙◌, subst}
use mathlib.Core.List.{◌++◌}
use lib.ListN.{length, take, drop, get_or, length-append}
use lib.Seq.{get_or-append-add, get_or-drop, get_or-take}
use Rattle.octets.specs.Bytes.{Bytes, At, Digit}
use Rattle.octets.proofs.Lists.{at_byte, part_length, at_part}
use Rattle.frame.specs.Frame.{Rule, Good, GoodAt, front, trailer, sum_of}
use Rattle.frame.specs.Reading.{Leftmost}
use Rattle.frame.specs.Mark.{MarkOk}
use Rattle.frame.proofs.Good.{good_at_mark, good_at_length, good_more, good_less, good_here}

module _ (R : Rule) where
  -- a good frame ends in `|`, and its third byte from the end is a digit
  good_end : (g : Bytes) → Good R g → (get_or g (length g - 1) 0 ≡ 1) × Digit (get_or g (length g - 3) 0)
  good_end g G =
      let b = front R G.digits G.body in
      let v : ℕ = sum_of R G.digits G.body in
      let l : length g ≡ length b + 7 = ap length G.whole ∙ length-append b (trailer v) in
      let at : (i : ℕ) → get_or g (length b + i) 0 ≡ get_or (trailer v) i 0 =
      λ i. ap (λ (x : Bytes). get_or x (length b + i) 0) G.whole ∙ get_or-append-add b (trailer v) i 0 in
      let e₁ : length g - 1 ≡ length b + 6 = omega arith in
      let e₃ : length g - 3 ≡ length b + 4 = omega arith in (
        ap (λ (x : ℕ). get_or g x 0) e₁ ∙ at 6,
        subst Digit (sym (ap (λ (x : ℕ). get_or g x 0) e₃ ∙ at 4)) (omega arith),
      )

  pub good_end_at : {s : Bytes} {p n : ℕ} → GoodAt R s p n → (get_or s (p + n - 1) 0 ≡ 1) × Digit (get_or s (p + n - 3) 0)
  good_end_at {s} {p} {n} G =
      let g = take n (drop p s) in
      let l : length g ≡ n = part_length s p n G.inside in
      let k = (good_at_length R G).0 in
      let at : (i : ℕ) → i < n → get_or g i 0 ≡ get_or s (p + i) 0 = λ i h. get_or-take n (drop p s) i 0 h ∙ get_or-drop p s i 0 in
      let e₁ : p + (length g - 1) ≡ p + n - 1 = omega arith in
      let e₃ : p + (length g - 3) ≡ p + n - 3 = omega arith in
      let E = good_end g G.good in (
        ap (λ (x : ℕ). get_or s x 0) (sym e₁) ∙ sym (at (length g - 1) (omega arith)) ∙ E.0,
        subst Digit (at (length g - 3) (omega arith) ∙ ap (λ (x : ℕ). get_or s x 0) e₃) E.1,
      )

  module _ (ok : MarkOk R.mark) where
    -- a mark does not begin within a good frame behind its first byte, even where it runs past the frame's end
    pub no_mark_in : {s : Bytes} {q m p : ℕ} → GoodAt R s q m → At s p R.mark → q < p → p < q + m → ⊥
    no_mark_in {s} {q} {m} {p} G A l h = go (dec_le (p + length R.mark) (q + m))
      where
        e : q + (p - q) ≡ p
        e = omega arith

        go : Dec (p + length R.mark ≤ q + m) → ⊥
        go (yes k) =
            G.good.once (p - q) (omega arith) (at_part s q m (p - q) R.mark G.inside (omega arith) (subst (λ (x : ℕ). At s x R.mark) (sym e) A))
        go (no k) = past (dec_lt 2 (q + m - p))
          where
            E : (get_or s (q + m - 1) 0 ≡ 1) × Digit (get_or s (q + m - 3) 0)
            E = good_end_at G

            -- the mark's byte where the frame ends
            i : ℕ
            i = q + m - p - 1

            e₁ : p + i ≡ q + m - 1
            e₁ = omega arith

            soh : get_or R.mark i 0 ≡ 1
            soh = sym (at_byte s p R.mark A i (omega arith)) ∙ ap (λ (x : ℕ). get_or s x 0) e₁ ∙ E.0

            past : Dec (2 < q + m - p) → ⊥
            past (yes y) =
                let j : ℕ = q + m - p - 3 in
                let e₂ : j + 2 ≡ i = omega arith in
                let e₃ : q + m - 3 ≡ p + j = omega arith in
                ok.end j (omega arith) (ap (λ (x : ℕ). get_or R.mark x 0) e₂ ∙ soh)
                (subst Digit (ap (λ (x : ℕ). get_or s x 0) e₃ ∙ at_byte s p R.mark A j (omega arith)) E.1)
            past (no y) = small (dec_lt 1 (q + m - p))
              where
                small : Dec (1 < q + m - p) → ⊥
                small (yes z) = let w : i ≡ 1 = omega arith in ok.second (ap (λ (x : ℕ). get_or R.mark x 0) (sym w) ∙ soh)
                small (no z) = let w : i ≡ 0 = omega arith in ok.first (ap (λ (x : ℕ). get_or R.mark x 0) (sym w) ∙ soh)

    -- F3
    pub apart : {s : Bytes} {q m p n : ℕ} → GoodAt R s q m → GoodAt R s p n → q < p → p < q + m → ⊥
    apart F G l h = no_mark_in F (good_at_mark R G) l h

    -- what is leftmost in s is leftmost in a longer stream
    pub left_more : {s : Bytes} {p n : ℕ} (t : Bytes) → Leftmost R s p n → Leftmost R (s ++ t) p n
    left_more {s} {p} {n} t L = record { here = good_more R t L.here; left = none }
      where
        none : (q m : ℕ) → q < p → GoodAt R (s ++ t) q m → ⊥
        none q m l F = go (dec_le (q + m) (length s))
          where
            go : Dec (q + m ≤ length s) → ⊥
            go (yes k) = L.left q m l (good_less R s t F k)
            go (no k) = apart F (good_more R t L.here) l (omega (arith, L.here.inside))

    -- in front of a good frame g there are only the frames of what stands there
    pub left_none : (a g b : Bytes) → Good R g → ((q m : ℕ) → GoodAt R a q m → ⊥) → Leftmost R (a ++ (g ++ b)) (length a) (length g)
    left_none a g b G clear = record { here = good_here R a g b G; left = none }
      where
        none : (q m : ℕ) → q < length a → GoodAt R (a ++ (g ++ b)) q m → ⊥
        none q m l F = go (dec_le (q + m) (length a))
          where
            go : Dec (q + m ≤ length a) → ⊥
            go (yes k) = clear q m (good_less R a (g ++ b) F k)
            go (no k) = apart F (good_here R a g b G) l (omega arith)
