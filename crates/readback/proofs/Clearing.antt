-- Words cleared from a place on, and the number of parties before them.
use Prim.Native.Nat.{ℕ, ◌+◌, ◌-◌, ◌*◌, ◌≤◌, ◌<◌, min}
use native.Mathlib.Omega.{arith}
use mathlib.Core.Path.{◌≡◌, ap, ap₂, ◌∙◌}
use mathlib.Core.List.{List, ◌++◌, append-nil}
use lib.ListN.{length, take, get_or, set, replicate, length-set, length-append, length-replicate, get_or-append, get_or-replicate, drop_of_length-le}
use lib.Seq.{get_or-set_same, get_or-set_other, get_or-append-add, get_or-take, length-take-le, drop-drop}
use borrow.Rule.Slice.PartMut.{put_mid}
use Rattle.octets.specs.Bytes.{Bytes}
use Rattle.readback.specs.Back.{words_in}
use Rattle.readback.specs.code.Pass.{Gathered}
use Rattle.readback.proofs.Ending.{Zip, words_all}

-- the words before a place, and zeros behind it
put_zeros : (a k : ℕ) (xs ys : List ℕ) → a + k ≡ length xs → ys ≡ replicate k 0 → put_mid a k xs ys ≡ take a xs ++ replicate k 0
put_zeros a k xs ys e z =
    ap (λ (l : List ℕ). take a xs ++ l)
    (ap₂ (λ (l m : List ℕ). l ++ m) z (drop-drop k a xs ∙ drop_of_length-le xs {i = a + k} (omega arith)) ∙ append-nil (replicate k 0))

module _ (a k : ℕ) (xs : List ℕ) (e : a + k ≡ length xs) where
  abbrev behind_zeros : List ℕ
  behind_zeros = take a xs ++ replicate k 0

  front_long : length (take a xs) ≡ a
  front_long = length-take-le a xs (omega arith)

  long : length behind_zeros ≡ length xs
  long = omega (arith, length-append (take a xs) (replicate k 0), front_long, length-replicate {A = ℕ} k 0)

  front : (y : ℕ) → y < a → get_or behind_zeros y 0 ≡ get_or xs y 0
  front y h = get_or-append (take a xs) (replicate k 0) 0 y (omega (arith, front_long)) ∙ get_or-take a xs y 0 h

  zeros : (y : ℕ) → a ≤ y → y < length xs → get_or behind_zeros y 0 ≡ 0
  zeros y h l =
      let i : y ≡ length (take a xs) + (y - a) = omega (arith, front_long) in
      ap (λ (j : ℕ). get_or behind_zeros j 0) i ∙ get_or-append-add (take a xs) (replicate k 0) (y - a) 0 ∙ get_or-replicate k (y - a) 0 0 (omega arith)

-- the least of three
pub least_of_three : (a b c m n : ℕ) → m ≡ min a b → n ≡ min m c → Zip a b c n
least_of_three a b c m n e f = record { first = omega (arith, e, f); second = omega (arith, e, f); third = omega (arith, e, f); greatest = λ q x y z. omega (arith, e, f) }

module _ (body : Bytes) (words had : List ℕ) (G : Gathered body words had) (n : ℕ) (Z : Zip (get_or had 0 0) (get_or had 1 0) (get_or had 2 0) n) where
  pub eight_parties : n ≤ 8
  eight_parties = omega (arith, Z.first, (G.parts 0 (omega arith)).eight)

  pub numbered_long : length (set words 33 n) ≡ 82
  numbered_long = length-set words 33 n ∙ G.long

  pub finished : (k : ℕ) (ys : List ℕ) → 34 + 6 * n + k ≡ 82 → ys ≡ replicate k 0 → put_mid (34 + 6 * n) k (set words 33 n) ys ≡ words_in body
  finished k ys e z =
      let a = 34 + 6 * n in
      let xs = set words 33 n in
      let s : a + k ≡ length xs = omega (arith, numbered_long) in
      put_zeros a k xs ys s z
      ∙ words_all body words had G n Z (take a xs ++ replicate k 0) (long a k xs s ∙ numbered_long)
      (front a k xs s 33 (omega arith) ∙ get_or-set_same words 33 n 0 (omega (arith, G.long)))
      (λ y h d. front a k xs s y h ∙ get_or-set_other words 33 y n 0 d)
      (λ y h l. zeros a k xs s y h (omega (arith, numbered_long)))
