-- A candidate's trailer, where its body is whole: what each answer about it means.
use Prim.Native.Nat.{ℕ, zero, suc, ◌+◌, ◌-◌, ◌%◌, ◌≤◌, ◌<◌}
use native.Mathlib.Nat.{add-zero, zero-add}
use native.Mathlib.Omega.{arith}
use mathlib.Core.Path.{◌≡◌, sym, ap, ◌∙◌, subst}
use mathlib.Core.List.{◌∷◌, ◌++◌, append_assoc, append_cancel_left}
use lib.ListN.{length, take, drop, get_or, length-append, length-drop, take-append-drop, get_or-append}
use lib.Seq.{get_or-append-add, get_or-drop, take_at}
use Rattle.octets.specs.Bytes.{Bytes, sum, value, At}
use Rattle.octets.specs.code.Leaf.{word_at, Matched}
use Rattle.octets.proofs.Lists.{at_byte, bytes_at, matched_at}
use Rattle.octets.proofs.Words.{same_bytes, same_word}
use Rattle.octets.proofs.Numerals.{Digits, written_means, row_digits}
use Rattle.frame.specs.Frame.{Rule, Good, Live, front, trailer, sum_of}
use Rattle.frame.specs.code.Walk.{BodySeen, Open, Ended}
use Rattle.frame.specs.Mark.{MarkOk}
use Rattle.frame.proofs.Good.{same_start}
use Rattle.frame.proofs.Make.{good_make}
use Rattle.frame.proofs.Complete.{open_of, comp_tail}
use Rattle.frame.proofs.AtMark.{at_drop, agree, rest_is, begun, begun_digits, begun_size}

-- `|` and the trailer are bytes
small_trailer : (v : ℕ) → v < 256 → (k : ℕ) → get_or (1 ∷ trailer v) k 0 < 256
small_trailer v h zero = omega arith
small_trailer v h (suc zero) = omega arith
small_trailer v h (suc (suc zero)) = omega arith
small_trailer v h (suc (suc (suc zero))) = omega arith
small_trailer v h (suc (suc (suc (suc zero)))) = omega arith
small_trailer v h (suc (suc (suc (suc (suc zero))))) = omega arith
small_trailer v h (suc (suc (suc (suc (suc (suc zero)))))) = omega arith
small_trailer v h (suc (suc (suc (suc (suc (suc (suc zero))))))) = omega arith
small_trailer v h (suc (suc (suc (suc (suc (suc (suc (suc k)))))))) = omega arith

module _ (R : Rule) (s : Bytes) (p a : ℕ) (S : BodySeen R s p a) where
  abbrev decimal : Digits S.digits
  decimal = row_digits S.digits (written_means R.size S.digits S.len.written).whole

  front_length : length (front R S.digits S.body) ≡ length R.mark + (length S.digits + (value S.digits + 1))
  front_length = omega (arith, length-append R.mark (S.digits ++ (1 ∷ S.body)), length-append S.digits (1 ∷ S.body), S.inner.sized)

  pub tail_place : a ≡ p + (length R.mark + (length S.digits + (value S.digits + 1)))
  tail_place =
      omega (arith, ap length S.split, S.within, length-append (front R S.digits S.body) (drop a s), length-drop p s, length-drop a s, front_length)

  pub tail_after : p ≤ a
  tail_after = omega (arith, tail_place)

  pub tail_behind : 1 ≤ a
  tail_behind = omega (arith, tail_place)

  pub tail_sum : take (a - p) (drop p s) ≡ front R S.digits S.body
  tail_sum =
      ap (λ (l : Bytes). take (a - p) l) S.split ∙ take_at (front R S.digits S.body) (drop a s) (a - p) (omega (arith, front_length, tail_place))

  regrouped : drop p s ≡ R.mark ++ (S.digits ++ (1 ∷ (S.body ++ drop a s)))
  regrouped = S.split ∙ regroup R.mark S.digits S.body (drop a s)
    where
      regroup : (m ds b t : Bytes) → m ++ (ds ++ (1 ∷ b)) ++ t ≡ m ++ (ds ++ (1 ∷ (b ++ t)))
      regroup m ds b t = simp append_assoc

  -- the body's last byte
  tail_bar : get_or s (a - 1) 0 ≡ 1
  tail_bar =
      let ds = S.digits in
      let k : ℕ = value S.digits - 1 in
      let w : a - 1 ≡ p + (length R.mark + (length S.digits + suc (value S.digits - 1))) = omega (arith, tail_place, S.len.low) in
      ap (λ (z : ℕ). get_or s z 0) w
      ∙ sym (get_or-drop p s (length R.mark + (length ds + suc k)) 0)
      ∙ ap (λ (l : Bytes). get_or l (length R.mark + (length ds + suc k)) 0) regrouped
      ∙ get_or-append-add R.mark (ds ++ (1 ∷ (S.body ++ drop a s))) (length ds + suc k) 0
      ∙ get_or-append-add ds (1 ∷ (S.body ++ drop a s)) (suc k) 0
      ∙ get_or-append S.body (drop a s) 0 k (omega (arith, S.inner.sized, S.len.low))
      ∙ S.inner.ends

  module _ (v : ℕ) (hv : v ≡ sum (take (a - p) (drop p s)) % 256) where
    sum_is : v ≡ sum_of R S.digits S.body
    sum_is = hv ∙ ap (λ (l : Bytes). sum l % 256) tail_sum

    -- where a live position's bytes behind the body are given, they are the trailer's
    tail_byte : Live R s p → (i : ℕ) → i < 7 → a + i < length s → get_or s (a + i) 0 ≡ get_or (trailer v) i 0
    tail_byte w i l n =
        let ds = S.digits in
        let b = S.body in
        let B = begun R s p (omega (arith, tail_place, S.within)) w in
        let d : ds ≡ B.good.digits = begun_digits R (drop p s) B ds (b ++ drop a s) decimal regrouped in
        let f = begun_size R (drop p s) B ds (b ++ drop a s) decimal regrouped in
        let k : length b ≡ length B.good.body = S.inner.sized ∙ ap value d ∙ sym B.good.inner.sized in
        let f' = sym (append_assoc b (drop a s) B.t) ∙ f in
        let z : b ≡ B.good.body = same_start b B.good.body _ _ k f' in
        let f'' : drop a s ++ B.t ≡ trailer (sum_of R ds b) ++ B.u =
        append_cancel_left b _ _ (f' ∙ ap (λ (l : Bytes). l ++ (trailer (sum_of R ds l) ++ B.u)) (sym z)) in
        sym (get_or-drop a s i 0) ∙ agree (drop a s) B.t (trailer (sum_of R ds b)) B.u i f'' (omega (arith, length-drop a s)) l
        ∙ ap (λ (x : ℕ). get_or (trailer x) i 0) (sym sum_is)

    -- there is room for the trailer, and it does not stand there
    pub tail_unlike : a + 7 ≤ length s → (At s a (trailer v) → ⊥) → Live R s p → ⊥
    tail_unlike h none w = none (bytes_at s a (trailer v) h (λ i k. tail_byte w i k (omega arith)))

    -- the body's last byte and the trailer as one number
    pub tail_at : ((k : ℕ) → get_or s k 0 < 256) → a + 7 ≤ length s → word_at s (a - 1) ≡ word_at (1 ∷ trailer v) 0 → At s a (trailer v)
    tail_at small h e =
        bytes_at s a (trailer v) h
        (λ i k. let w : a + i ≡ a - 1 + suc i = omega (arith, tail_behind) in
        ap (λ (z : ℕ). get_or s z 0) w
        ∙ same_bytes s (1 ∷ trailer v) small (small_trailer v (omega (arith, hv))) (a - 1) 0 e (suc i) (omega arith)
        ∙ ap (λ (z : ℕ). get_or (1 ∷ trailer v) z 0) (zero-add (suc i)))

    pub tail_word : At s a (trailer v) → word_at s (a - 1) ≡ word_at (1 ∷ trailer v) 0
    tail_word A = same_word s (1 ∷ trailer v) (a - 1) 0 go
      where
        go : (k : ℕ) → k < 8 → get_or s (a - 1 + k) 0 ≡ get_or (1 ∷ trailer v) (0 + k) 0
        go zero h = ap (λ (z : ℕ). get_or s z 0) (add-zero (a - 1)) ∙ tail_bar
        go (suc i) h =
            let w : a - 1 + suc i ≡ a + i = omega (arith, tail_behind) in
            ap (λ (z : ℕ). get_or s z 0) w
            ∙ at_byte s a (trailer v) A i (omega arith)
            ∙ ap (λ (z : ℕ). get_or (1 ∷ trailer v) z 0) (sym (zero-add (suc i)))

  module _ (v : ℕ) (hv : v ≡ sum (take (a - p) (drop p s)) % 256) (m : ℕ) (M : Matched s a (trailer v) m) where
    pub tail_wrong : (m ≡ 7 → ⊥) → (a + m ≡ length s → ⊥) → Live R s p → ⊥
    tail_wrong x y w =
        let l : m < 7 = omega (arith, M.most) in
        let n : a + m < length s = omega (arith, M.within) in
        M.stop l n (tail_byte v hv w m l n)

    module _ (ok : MarkOk R.mark) where
      pub tail_short : (m ≡ 7 → ⊥) → a + m ≡ length s → Open R s p
      tail_short x y =
          let f = front R S.digits S.body in
          open_of R ok s p (omega (arith, tail_place, S.within))
          (comp_tail R ok (drop p s) (drop m (trailer v)) S.digits S.body S.len S.inner S.free
          (ap (λ (l : Bytes). l ++ drop m (trailer v)) (S.split ∙ ap (λ (l : Bytes). f ++ l) (rest_is s a (trailer v) m M y))
          ∙ append_assoc f (take m (trailer v)) (drop m (trailer v))
          ∙ ap (λ (l : Bytes). f ++ l) (take-append-drop m (trailer v) ∙ ap trailer (sum_is v hv)))
          (omega (arith, length-drop m (trailer v), M.most)))

      pub tail_whole : m ≡ 7 → Ended R s p (a + 7)
      tail_whole x =
          let f = front R S.digits S.body in
          let A = matched_at s a (trailer v) m M x in
          let g = f ++ trailer v in
          let e₁ : drop p s ≡ g ++ drop (a + 7) s =
          S.split ∙ ap (λ (l : Bytes). f ++ l) (at_drop s a (trailer v) A) ∙ sym (append_assoc f (trailer v) (drop (a + 7) s)) in
          let n : length g ≡ a + 7 - p = omega (arith, length-append f (trailer v), front_length, tail_place) in
          let e₂ : take (a + 7 - p) (drop p s) ≡ f ++ trailer (sum_of R S.digits S.body) =
          ap (λ (l : Bytes). take (a + 7 - p) l) e₁ ∙ take_at g (drop (a + 7) s) (a + 7 - p) n ∙ ap (λ (x : ℕ). f ++ trailer x) (sum_is v hv) in
          record {
            from = omega (arith, tail_place);
            to = omega (arith, A.0);
            good_at =
                record {
                  inside = omega (arith, A.0, tail_place);
                  good = subst (λ (l : Bytes). Good R l) (sym e₂) (good_make R ok S.digits S.body S.len S.inner S.free);
                };
          }
