-- A frame put together from its parts is good: the parts make no second mark.
use Prim.Native.Nat.{ℕ, suc, ◌+◌, ◌-◌, ◌≤◌, ◌<◌}
use native.Mathlib.Nat.{add-zero}
use native.Mathlib.Decide.{dec_lt, dec_le}
use native.Mathlib.Omega.{arith}
use mathlib.Core.Path.{◌≡◌, refl, sym, ap, ◌∙◌, subst}
use mathlib.Core.List.{◌∷◌, ◌++◌, append_assoc}
use lib.ListN.{length, get_or, length-append, get_or-append}
use lib.Seq.{get_or-append-add}
use Rattle.octets.specs.Bytes.{Bytes, value, At}
use Rattle.octets.proofs.Lists.{at_byte, bytes_at}
use Rattle.octets.proofs.Numerals.{Digits, digit_at, written_means, row_digits}
use Rattle.frame.specs.Frame.{Rule, Length, Body, Good, front, trailer, sum_of}
use Rattle.frame.specs.Mark.{MarkOk}

module _ (m ds b tr : Bytes) where
  abbrev pub joined : Bytes
  joined = m ++ (ds ++ (1 ∷ (b ++ tr)))

  j_mark : (i : ℕ) → i < length m → get_or joined i 0 ≡ get_or m i 0
  j_mark i l = get_or-append m (ds ++ (1 ∷ (b ++ tr))) 0 i l

  pub j_digit : (i : ℕ) → i < length ds → get_or joined (length m + i) 0 ≡ get_or ds i 0
  j_digit i l = get_or-append-add m (ds ++ (1 ∷ (b ++ tr))) i 0 ∙ get_or-append ds (1 ∷ (b ++ tr)) 0 i l

  pub j_soh : get_or joined (length m + length ds) 0 ≡ 1
  j_soh =
      get_or-append-add m (ds ++ (1 ∷ (b ++ tr))) (length ds) 0
      ∙ ap (λ (k : ℕ). get_or (ds ++ (1 ∷ (b ++ tr))) k 0) (sym (add-zero (length ds)))
      ∙ get_or-append-add ds (1 ∷ (b ++ tr)) 0 0

  j_behind : (i : ℕ) → get_or joined (length m + (length ds + suc i)) 0 ≡ get_or (b ++ tr) i 0
  j_behind i = get_or-append-add m (ds ++ (1 ∷ (b ++ tr))) (length ds + suc i) 0 ∙ get_or-append-add ds (1 ∷ (b ++ tr)) (suc i) 0

  j_body : (i : ℕ) → i < length b → get_or joined (length m + (length ds + suc i)) 0 ≡ get_or b i 0
  j_body i l = j_behind i ∙ get_or-append b tr 0 i l

  j_tail : get_or joined (length m + (length ds + suc (length b))) 0 ≡ get_or tr 0 0
  j_tail = j_behind (length b) ∙ ap (λ (k : ℕ). get_or (b ++ tr) k 0) (sym (add-zero (length b))) ∙ get_or-append-add b tr 0 0

  j_length : length joined ≡ length m + (length ds + suc (length b + length tr))
  j_length = omega (arith, length-append m (ds ++ (1 ∷ (b ++ tr))), length-append ds (1 ∷ (b ++ tr)), length-append b tr)

  -- the only mark in a frame is its first
  module _ (ok : MarkOk m) (hd : Digits ds) (hn : 0 < length b) (hb : get_or b (length b - 1) 0 ≡ 1) (ht : get_or tr 0 0 ≡ 49) (hl : length tr ≡ 7)
      (none : (q : ℕ) → At b q m → ⊥) where
    pub one_mark : (q : ℕ) → 0 < q → At joined q m → ⊥
    one_mark q h a = go₁ (dec_lt q (length m))
      where
        e₀ : get_or joined q 0 ≡ get_or m 0 0
        e₀ = ap (λ (k : ℕ). get_or joined k 0) (sym (add-zero q)) ∙ at_byte joined q m a 0 (omega (arith, ok.long))

        e₁ : get_or joined (q + 1) 0 ≡ get_or m 1 0
        e₁ = at_byte joined q m a 1 (omega (arith, ok.long))

        len : q + length m ≤ length m + (length ds + suc (length b + 7))
        len = omega (arith, a.0, j_length)

        go₅ : Dec (q + length m ≤ length m + (length ds + suc (length b))) → length m + length ds < q → ⊥
        go₅ (yes l) k =
            let i : ℕ = q - (length m + length ds + 1) in
            none i
            (bytes_at b i m (omega arith)
            (λ x y.
            let w : q + x ≡ length m + (length ds + suc (i + x)) = omega arith in
            sym (j_body (i + x) (omega arith)) ∙ ap (λ (z : ℕ). get_or joined z 0) (sym w) ∙ at_byte joined q m a x y))
        go₅ (no l) k =
            let i : ℕ = length m + length ds + length b - q in
            let w₁ : q + i ≡ length m + (length ds + suc (length b - 1)) = omega (arith, ok.long, len) in
            let w₂ : q + (i + 1) ≡ length m + (length ds + suc (length b)) = omega (arith, ok.long, len) in
            let f₁ : get_or m i 0 ≡ 1 = sym (at_byte joined q m a i (omega (arith, ok.long, len))) ∙ ap (λ (z : ℕ). get_or joined z 0) w₁ ∙ j_body (length b - 1) (omega arith) ∙ hb in
            let f₂ : get_or m (i + 1) 0 ≡ 49 = sym (at_byte joined q m a (i + 1) (omega (arith, ok.long, len))) ∙ ap (λ (z : ℕ). get_or joined z 0) w₂ ∙ j_tail ∙ ht in
            ok.soh i (omega (arith, ok.long, len)) f₁ f₂

        go₃ : Dec (q < length m + length ds) → length m ≤ q → ⊥
        go₃ (yes l) k = go₄ (dec_lt (q + 1) (length m + length ds))
          where
            go₄ : Dec (q + 1 < length m + length ds) → ⊥
            go₄ (yes y) =
                let i : ℕ = q + 1 - length m in
                let w : length m + i ≡ q + 1 = omega arith in
                let f : get_or m 1 0 ≡ get_or ds i 0 = sym e₁ ∙ ap (λ (z : ℕ). get_or joined z 0) (sym w) ∙ j_digit i (omega arith) in
                ok.second_digit (omega (arith, digit_at ds hd i (omega arith)))
            go₄ (no y) =
                let w : q + 1 ≡ length m + length ds = omega arith in
                ok.second (sym e₁ ∙ ap (λ (z : ℕ). get_or joined z 0) w ∙ j_soh)
        go₃ (no l) k = go₄ (dec_lt (length m + length ds) q)
          where
            go₄ : Dec (length m + length ds < q) → ⊥
            go₄ (yes y) = go₅ (dec_le (q + length m) (length m + (length ds + suc (length b)))) y
            go₄ (no y) =
                let w : q ≡ length m + length ds = omega arith in
                ok.first (sym e₀ ∙ ap (λ (z : ℕ). get_or joined z 0) w ∙ j_soh)

        go₁ : Dec (q < length m) → ⊥
        go₁ (yes l) = ok.alone q l h (sym (j_mark q l) ∙ e₀)
        go₁ (no l) = go₃ (dec_lt q (length m + length ds)) (omega arith)

module _ (R : Rule) (ok : MarkOk R.mark) where
  pub good_make : (ds b : Bytes) → Length R ds → Body (value ds) b → ((q : ℕ) → At b q R.mark → ⊥) → Good R (front R ds b ++ trailer (sum_of R ds b))
  good_make ds b L B none =
      record {
        digits = ds;
        body = b;
        len = L;
        inner = B;
        whole = refl;
        once = λ q h a.
            one_mark R.mark ds b tr ok (row_digits ds (written_means R.size ds L.written).whole) (omega (arith, B.sized, L.low)) (ap (λ (k : ℕ). get_or b (k - 1) 0) B.sized ∙ B.ends) refl refl none q h
            (subst (λ (g : Bytes). At g q R.mark) (simp append_assoc) a);
      }
    where
      tr : Bytes
      tr = trailer (sum_of R ds b)
