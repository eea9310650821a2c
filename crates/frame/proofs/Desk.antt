-- The desk examples W1 to W5, for the one table of all twelve.
use Prim.Native.Nat.{ℕ, ◌+◌, ◌-◌, ◌%◌, ◌<◌}
use native.Mathlib.Omega.{arith}
use native.Mathlib.Decide.{dec_lt}
use mathlib.Core.Path.{◌≡◌, refl, sym, ap, ap₂, ◌∙◌, subst}
use mathlib.Core.Logic.{inl}
use mathlib.Core.Bool.{true}
use mathlib.Core.List.{[], ◌++◌}
use lib.Dec.{lit≤, ltb}
use lib.ListN.{length, take, drop, get_or, length-append, get_or-eq_default}
use lib.Seq.{take_at, drop_at, take-length}
use borrow.Author.Tests.{ltb-true}
use Rattle.octets.specs.Bytes.{Bytes, fix, sum, writes}
use Rattle.octets.proofs.Lists.{at_byte}
use Rattle.octets.proofs.Tests.{all_below, at_below}
use Rattle.frame.specs.Frame.{Rule, fixt, Good, GoodAt, front, trailer, sum_of}
use Rattle.frame.specs.Reading.{frame, refusal, Reads}
use Rattle.frame.proofs.Good.{good_at_length, good_at_mark}
use Rattle.frame.proofs.Make.{good_make}
use Rattle.frame.proofs.Marks.{fixt_ok}
use Rattle.frame.proofs.Apart.{left_none}

module _ (R : Rule) where
  -- the last seven bytes of a good frame are the trailer of the sum of those before
  good_sum : (g : Bytes) → Good R g → drop (length g - 7) g ≡ trailer (sum (take (length g - 7) g) % 256)
  good_sum g G =
      let b = front R G.digits G.body in
      let t = trailer (sum_of R G.digits G.body) in
      let n : length b ≡ length g - 7 = omega (arith, ap length G.whole, length-append b t) in
      ap (λ (l : Bytes). drop (length g - 7) l) G.whole ∙ drop_at b t (length g - 7) n
      ∙ ap (λ (l : Bytes). trailer (sum l % 256)) (sym (ap (λ (l : Bytes). take (length g - 7) l) G.whole ∙ take_at b t (length g - 7) n))

small : (l : Bytes) → all_below (length l) (λ i. ltb (get_or l i 0) 256) ≡ true → (i : ℕ) → get_or l i 0 < 256
small l t i = go (dec_lt i (length l))
  where
    go : Dec (i < length l) → get_or l i 0 < 256
    go (yes k) = ltb-true _ 256 (at_below (length l) (λ i. ltb (get_or l i 0) 256) t i k)
    go (no k) = omega (arith, get_or-eq_default l 0 {n = i} (omega arith))

-- W1 is a good frame
w1_good : Good fixt (fix "8=FIXT.1.1|9=5|35=0|10=241|")
unfolding fixt writes
w1_good =
    good_make fixt fixt_ok (fix "5") (fix "35=0|") (record { written = refl; low = lit≤ tt; high = lit≤ tt })
    (record { sized = refl; begins = (lit≤ tt, refl); ends = refl; bytes = small (fix "35=0|") refl })
    (λ q a. omega (arith, a.0))

pub W1 : Reads fixt (fix "8=FIXT.1.1|9=5|35=0|10=241|") (frame 0 27)
W1 = record { here = record { inside = lit≤ tt; good = w1_good }; left = λ q m l. absurd (omega arith) }

-- a good frame as long as the bytes it stands in is all of them
all_of : (s : Bytes) (q m : ℕ) → q ≡ 0 → m ≡ length s → GoodAt fixt s q m → Good fixt s
all_of s q m e f G = subst (λ (l : Bytes). Good fixt l) (ap₂ (λ (n i : ℕ). take n (drop i s)) f e ∙ take-length s) G.good

pub W2 : (q m : ℕ) → GoodAt fixt (fix "8=FIXT.1.1|9=5|35=0|10=242|") q m → ⊥
unfolding fixt
W2 q m G =
    let k = (good_at_length fixt G).0 in
    let s = fix "8=FIXT.1.1|9=5|35=0|10=242|" in
    let e = good_sum fixt s (all_of s q m (omega (arith, G.inside)) (omega (arith, G.inside)) G) in
    let z : ◌≡◌ {A = ℕ} 50 49 = ap (λ (l : Bytes). get_or l 5 0) e in
    omega arith

-- W3 with its old sum has one byte more than the shortest frame: a frame would be all of it, would end one byte before, or would begin at its second byte
third : (q m : ℕ) → GoodAt fixt (fix "8=FIXT.1.1|9=05|35=0|10=241|") q m → Dec (q < 1) → Dec (m < 28) → ⊥
unfolding fixt
third q m G (yes l) (no k) =
    let s = fix "8=FIXT.1.1|9=05|35=0|10=241|" in
    let e = good_sum fixt s (all_of s q m (omega arith) (omega (arith, G.inside)) G) in
    let z : ◌≡◌ {A = ℕ} 50 48 = ap (λ (l : Bytes). get_or l 3 0) e in
    omega arith
third q m G (yes l) (yes k) =
    let s = fix "8=FIXT.1.1|9=05|35=0|10=241|" in
    let n = (good_at_length fixt G).0 in
    let e₁ : m ≡ 27 = omega arith in
    let e₂ : q ≡ 0 = omega arith in
    let e = good_sum fixt (take 27 s) (subst (λ (g : Bytes). Good fixt g) (ap₂ (λ (i j : ℕ). take i (drop j s)) e₁ e₂) G.good) in
    let z : ◌≡◌ {A = ℕ} 1 49 = ap (λ (l : Bytes). get_or l 0 0) e in
    omega arith
third q m G (no l) k =
    let s = fix "8=FIXT.1.1|9=05|35=0|10=241|" in
    let n = (good_at_length fixt G).0 in
    let e : q ≡ 1 = omega (arith, G.inside) in
    let z : ◌≡◌ {A = ℕ} 61 56 = ap (λ (i : ℕ). get_or s (i + 0) 0) (sym e) ∙ at_byte s q fixt.mark (good_at_mark fixt G) 0 (omega arith) in
    omega arith

pub W3 : (q m : ℕ) → GoodAt fixt (fix "8=FIXT.1.1|9=05|35=0|10=241|") q m → ⊥
W3 q m G = third q m G (dec_lt q 1) (dec_lt m 28)

-- "W3 becomes a frame when its sum is made right."
w3_good : Good fixt (fix "8=FIXT.1.1|9=05|35=0|10=033|")
unfolding fixt writes
w3_good =
    good_make fixt fixt_ok (fix "05") (fix "35=0|") (record { written = refl; low = lit≤ tt; high = lit≤ tt })
    (record { sized = refl; begins = (lit≤ tt, refl); ends = refl; bytes = small (fix "35=0|") refl })
    (λ q a. omega (arith, a.0))

pub W3_summed : Reads fixt (fix "8=FIXT.1.1|9=05|35=0|10=033|") (frame 0 28)
W3_summed = record { here = record { inside = lit≤ tt; good = w3_good }; left = λ q m l. absurd (omega arith) }

nothing_in : (s : Bytes) → length s < 27 → (q m : ℕ) → GoodAt fixt s q m → ⊥
unfolding fixt
nothing_in s h q m G = omega (arith, G.inside, (good_at_length fixt G).0)

pub W4 : Reads fixt (fix "") (refusal 1 0)
W4 = (refl, record { none = nothing_in [] (lit≤ tt); dead = λ q l. absurd (omega arith); stop = inl refl })

pub W5 : Reads fixt (fix "8=FIXT.1.1|9=40|" ++ fix "8=FIXT.1.1|9=5|35=0|10=241|") (frame 16 27)
W5 =
    left_none fixt fixt_ok (fix "8=FIXT.1.1|9=40|") (fix "8=FIXT.1.1|9=5|35=0|10=241|") [] w1_good
    (nothing_in (fix "8=FIXT.1.1|9=40|") (lit≤ tt))
