-- How far behind a wrong candidate no position is live: a mark does not begin within what was read as mark, length and body.
use Prim.Native.Nat.{ℕ, ◌+◌, ◌-◌, ◌≤◌, ◌<◌}
use native.Mathlib.Nat.{add-zero}
use native.Mathlib.Decide.{dec_lt}
use native.Mathlib.Omega.{arith}
use mathlib.Core.Path.{◌≡◌, sym, ap, ◌∙◌, subst}
use mathlib.Core.List.{[], ◌∷◌, ◌++◌}
use lib.ListN.{length, take, drop, get_or, length-append, length-drop, get_or-append}
use lib.Seq.{get_or-drop}
use Rattle.octets.specs.Bytes.{Bytes, value, At}
use Rattle.octets.specs.code.Leaf.{Here, Searched}
use Rattle.octets.proofs.Lists.{at_part, at_more}
use Rattle.octets.proofs.Numerals.{Digits, digit_at, written_means, row_digits}
use Rattle.frame.specs.Frame.{Rule, Good, Live, front, trailer, sum_of}
use Rattle.frame.specs.code.Walk.{MarkSeen, SizeSeen, BodySeen, Past}
use Rattle.frame.specs.Mark.{MarkOk}
use Rattle.frame.proofs.Make.{j_digit, j_soh, good_make}
use Rattle.frame.proofs.AtMark.{live_byte, mark_unlike}
use Rattle.frame.proofs.AtBody.{body_place}
use Rattle.frame.proofs.AtTrailer.{tail_place, tail_sum}

module _ (R : Rule) (s : Bytes) where
  past_of : (p n : ℕ) → (Live R s p → ⊥) → p < n → n ≤ length s → ((q : ℕ) → p < q → q < n → Live R s q → ⊥) → Past R s p n
  past_of p n w l h f = record { from = l; to = h; none = none }
    where
      none : (q : ℕ) → q < n → p ≤ q → Live R s q → ⊥
      none q k j v = go (dec_lt p q)
        where
          go : Dec (p < q) → ⊥
          go (yes y) = f q y k v
          go (no y) = let e : q ≡ p = omega arith in w (subst (λ (x : ℕ). Live R s x) e v)

  pub past_one : (p : ℕ) → p < length s → (Live R s p → ⊥) → Past R s p (p + 1)
  past_one p h w = past_of p (p + 1) w (omega arith) (omega arith) (λ q l k v. omega arith)

  module _ (ok : MarkOk R.mark) where
    first : (q : ℕ) → q < length s → Live R s q → get_or s q 0 ≡ get_or R.mark 0 0
    first q h v = ap (λ (z : ℕ). get_or s z 0) (sym (add-zero q)) ∙ live_byte R s q 0 (omega arith) (omega (arith, ok.long)) v

    second : (q : ℕ) → q + 1 < length s → Live R s q → get_or s (q + 1) 0 ≡ get_or R.mark 1 0
    second q h v = live_byte R s q 1 h (omega (arith, ok.long)) v

    -- within the mark
    in_mark : (p q : ℕ) (r : Bytes) → drop p s ≡ R.mark ++ r → p < q → q < p + length R.mark → q < length s → Live R s q → ⊥
    in_mark p q r e l k h v =
        let w : p + (q - p) ≡ q = omega arith in
        let f : get_or s q 0 ≡ get_or R.mark (q - p) 0 =
        ap (λ (z : ℕ). get_or s z 0) (sym w)
        ∙ sym (get_or-drop p s (q - p) 0)
        ∙ ap (λ (x : Bytes). get_or x (q - p) 0) e ∙ get_or-append R.mark r 0 (q - p) (omega arith) in
        ok.alone (q - p) (omega arith) (omega arith) (sym f ∙ first q h v)

    pub past_mark : (p a : ℕ) → MarkSeen R s p a → (Live R s p → ⊥) → Past R s p a
    past_mark p a S w =
        past_of p a w (omega (arith, place, ok.long)) S.within
        (λ q l k v. in_mark p q (drop a s) S.split l (omega (arith, place)) (omega (arith, S.within)) v)
      where
        place : a ≡ p + length R.mark
        place = omega (arith, ap length S.split, S.within, S.from, length-append R.mark (drop a s), length-drop p s, length-drop a s)

    -- within the mark and the length
    in_size : (p a n : ℕ) (S : SizeSeen R s p a n) (q : ℕ) → p < q → q < a → Live R s q → ⊥
    in_size p a n S q l k v = go₁ (dec_lt q (p + length R.mark))
      where
        hd : Digits S.digits
        hd = row_digits S.digits (written_means R.size S.digits S.len.written).whole

        place : a ≡ p + (length R.mark + (length S.digits + 1))
        place = body_place R s p a n S

        byte : (i : ℕ) → get_or s (p + i) 0 ≡ get_or (R.mark ++ (S.digits ++ (1 ∷ drop a s))) i 0
        byte i = sym (get_or-drop p s i 0) ∙ ap (λ (x : Bytes). get_or x i 0) S.split

        soh : get_or s (p + (length R.mark + length S.digits)) 0 ≡ 1
        soh = byte (length R.mark + length S.digits) ∙ j_soh R.mark S.digits [] (drop a s)

        go₃ : Dec (q < p + (length R.mark + length S.digits)) → p + length R.mark ≤ q → ⊥
        go₃ (yes y) h = go₄ (dec_lt (q + 1) (p + (length R.mark + length S.digits)))
          where
            go₄ : Dec (q + 1 < p + (length R.mark + length S.digits)) → ⊥
            go₄ (yes z) =
                let w : q + 1 ≡ p + (length R.mark + (q + 1 - (p + length R.mark))) = omega arith in
                let f : get_or R.mark 1 0 ≡ get_or S.digits (q + 1 - (p + length R.mark)) 0 =
                sym (second q (omega (arith, place, S.within)) v)
                ∙ ap (λ (x : ℕ). get_or s x 0) w
                ∙ byte (length R.mark + (q + 1 - (p + length R.mark)))
                ∙ j_digit R.mark S.digits [] (drop a s) (q + 1 - (p + length R.mark)) (omega arith) in
                ok.second_digit (omega (arith, f, digit_at S.digits hd (q + 1 - (p + length R.mark)) (omega arith)))
            go₄ (no z) =
                let w : q + 1 ≡ p + (length R.mark + length S.digits) = omega arith in
                ok.second (sym (second q (omega (arith, place, S.within)) v) ∙ ap (λ (x : ℕ). get_or s x 0) w ∙ soh)
        go₃ (no y) h =
            let w : q ≡ p + (length R.mark + length S.digits) = omega (arith, place) in
            ok.first (sym (first q (omega (arith, S.within)) v) ∙ ap (λ (x : ℕ). get_or s x 0) w ∙ soh)

        go₁ : Dec (q < p + length R.mark) → ⊥
        go₁ (yes y) = in_mark p q (S.digits ++ (1 ∷ drop a s)) S.split l y (omega (arith, S.within)) v
        go₁ (no y) = go₃ (dec_lt q (p + (length R.mark + length S.digits))) (omega arith)

    pub past_size : (p a n : ℕ) → SizeSeen R s p a n → (Live R s p → ⊥) → Past R s p a
    past_size p a n S w = past_of p a w (omega (arith, body_place R s p a n S)) S.within (in_size p a n S)

    -- up to the first mark in the body
    pub past_inside : (p a n : ℕ) → SizeSeen R s p a n → (e r : ℕ) → e ≤ length s → r < e → Searched s a e R.mark r → (Live R s p → ⊥) → Past R s p r
    past_inside p a n S e r h l F w =
        past_of p r w (omega (arith, body_place R s p a n S, H.low)) (omega arith) none
      where
        H : Here s a e R.mark r
        H = F.found l

        none : (q : ℕ) → p < q → q < r → Live R s q → ⊥
        none q i j v = go (dec_lt q a)
          where
            go : Dec (q < a) → ⊥
            go (yes y) = in_size p a n S q i y v
            go (no y) = mark_unlike R s q (omega (arith, H.high)) (F.none q j (omega arith) (omega (arith, H.high))) v

    -- up to where a mark would lie across the body's end
    pub past_room : (p a : ℕ) → BodySeen R s p a → length R.mark ≤ a + 1
    past_room p a S = omega (arith, tail_place R s p a S)

    pub past_body : (p a : ℕ) → BodySeen R s p a → (Live R s p → ⊥) → Past R s p (a + 1 - length R.mark)
    past_body p a S w =
        past_of p (a + 1 - length R.mark) w (omega (arith, place, S.len.low)) (omega (arith, S.within, ok.long)) none
      where
        place : a ≡ p + (length R.mark + (length S.digits + (value S.digits + 1)))
        place = tail_place R s p a S

        G : Good R (front R S.digits S.body ++ trailer (sum_of R S.digits S.body))
        G = good_make R ok S.digits S.body S.len S.inner S.free

        none : (q : ℕ) → p < q → q < a + 1 - length R.mark → Live R s q → ⊥
        none q l k v = mark_unlike R s q (omega (arith, S.within)) stands v
          where
            stands : At s q R.mark → ⊥
            stands A =
                let e : q ≡ p + (q - p) = omega arith in
                let C : At (take (a - p) (drop p s)) (q - p) R.mark =
                at_part s p (a - p) (q - p) R.mark (omega (arith, S.within, place)) (omega arith) (subst (λ (x : ℕ). At s x R.mark) e A) in
                G.once (q - p) (omega arith)
                (at_more (front R S.digits S.body) (trailer (sum_of R S.digits S.body)) (q - p) R.mark
                (subst (λ (x : Bytes). At x (q - p) R.mark) (tail_sum R s p a S) C))
