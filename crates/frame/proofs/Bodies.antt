-- Where the body of a good frame lies: behind the digits that `number` reads there, and seven bytes before the end.
use Prim.Native.Nat.{ℕ, ◌+◌, ◌-◌, ◌≤◌, ◌<◌}
use native.Mathlib.Omega.{arith}
use native.Mathlib.Decide.{dec_lt}
use mathlib.Core.Path.{◌≡◌, sym, ap, ◌∙◌, subst}
use mathlib.Core.List.{[], ◌∷◌, ◌++◌, append-nil}
use lib.ListN.{length, take, drop, get_or, length-append}
use lib.Seq.{take_at, drop_at}
use Rattle.octets.specs.Bytes.{Bytes, Digit}
use Rattle.octets.specs.code.Leaf.{Number}
use Rattle.octets.proofs.Numerals.{digit_at, written_means}
use Rattle.frame.specs.Frame.{Rule, Good, BodyOf, its_body, trailer, sum_of}
use Rattle.frame.proofs.Make.{j_digit, j_soh}
use Rattle.frame.proofs.Good.{up_to_bar, good_length, good_split, good_digits}

module _ (R : Rule) (f : Bytes) (G : Good R f) (v c : ℕ) (N : Number f (length R.mark) R.size.most v c) where
  tr : Bytes
  tr = trailer (sum_of R G.digits G.body)

  f_is : f ≡ R.mark ++ (G.digits ++ (1 ∷ (G.body ++ tr)))
  unfolding tr
  f_is = sym (append-nil f) ∙ good_split R f [] G ∙ ap (λ (l : Bytes). R.mark ++ (G.digits ++ (1 ∷ (G.body ++ l)))) (append-nil (trailer (sum_of R G.digits G.body)))

  count_is : c ≡ length G.digits
  count_is = go (dec_lt (length G.digits) c) (dec_lt c (length G.digits))
    where
      m : ℕ
      m = length R.mark

      n : ℕ
      n = length G.digits

      soh : get_or f (m + n) 0 ≡ 1
      soh = ap (λ (l : Bytes). get_or l (m + n) 0) f_is ∙ j_soh R.mark G.digits G.body tr

      dig : c < n → Digit (get_or f (m + c) 0)
      dig k =
          subst Digit (sym (ap (λ (l : Bytes). get_or l (m + c) 0) f_is ∙ j_digit R.mark G.digits G.body tr c k))
          (digit_at G.digits (good_digits R f G) c k)

      go : Dec (n < c) → Dec (c < n) → c ≡ n
      go (yes k) _ = absurd (omega (arith, N.digits n k, soh))
      go (no k) (yes l) =
          absurd (N.stop (omega (arith, (written_means R.size G.digits G.len.written).few)) (omega (arith, good_length R f G)) (dig l))
      go (no k) (no l) = omega arith

  pub body_fits : (length R.mark + (c + 1) ≤ length f - 7) × (7 ≤ length f)
  body_fits = omega (arith, good_length R f G, count_is)

  pub body_is : BodyOf R f (take (length f - 7 - (length R.mark + (c + 1))) (drop (length R.mark + (c + 1)) f))
  body_is =
      let a : ℕ = length R.mark + (c + 1) in
      let h = R.mark ++ (G.digits ++ (1 ∷ [])) in
      let e : f ≡ h ++ (G.body ++ tr) = f_is ∙ up_to_bar R.mark G.digits (G.body ++ tr) in
      let l : length h ≡ a = omega (arith, length-append R.mark (G.digits ++ (1 ∷ [])), length-append G.digits (1 ∷ []), count_is) in
      let k : length G.body ≡ length f - 7 - a = omega (arith, good_length R f G, count_is, G.inner.sized) in
      subst (λ (x : Bytes). BodyOf R f x)
      (sym
      (ap (λ (x : Bytes). take (length f - 7 - a) x) (ap (λ (x : Bytes). drop a x) e ∙ drop_at h (G.body ++ tr) a l) ∙ take_at G.body tr (length f - 7 - a) k))
      (its_body G)
