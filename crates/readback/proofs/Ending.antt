-- Behind the last field: the words with the number of parties, and zeros behind theirs, are the words of the body.
use Prim.Native.Nat.{ℕ, zero, suc, ◌+◌, ◌-◌, ◌*◌, ◌/◌, ◌≤◌, ◌<◌}
use native.Mathlib.Omega.{arith}
use mathlib.Core.Path.{◌≡◌, refl, sym, ap, ◌∙◌, subst}
use mathlib.Core.List.{List, [], ◌∷◌, ◌++◌}
use lib.ListN.{length, take, drop, get_or, replicate, length-drop, length-replicate, get_or-replicate}
use lib.Seq.{drop-cons, get_or-drop, get_or-take, ext_get_or, length-take-le, take_all}
use mathlib.Core.Bool.{Bool, true, false}
use lib.Dec.{ltb}
use borrow.Author.Tests.{ltb-true, ltb-false}
use Rattle.octets.specs.Bytes.{Bytes}
use Rattle.octets.proofs.Numerals.{is_within}
use Rattle.fields.specs.Field.{first_field}
use Rattle.fields.specs.First.{first_place, value_at}
use Rattle.fields.proofs.Firsts.{first-place}
use Rattle.readback.specs.Back.{place_words, amount_words, every_place, party_words, party_words_in, counted, words_in}
use Rattle.readback.specs.code.Pass.{tag_at, words_at, three, part_at, Parts, Gathered}
use Rattle.readback.proofs.Slots.{three-words}

-- the parties that have all three parts
abbrev pub zipped : List (ℕ × ℕ) → List (ℕ × ℕ) → List (ℕ × ℕ) → ℕ
zipped [] l k = 0
zipped (a ∷ j) [] k = 0
zipped (a ∷ j) (b ∷ l) [] = 0
zipped (a ∷ j) (b ∷ l) (c ∷ k) = suc (zipped j l k)

pub record Zip (a b c n : ℕ) : Type 0 where
  pub first : n ≤ a
  pub second : n ≤ b
  pub third : n ≤ c
  pub greatest : (q : ℕ) → q ≤ a → q ≤ b → q ≤ c → q ≤ n

zip_is : (j l k : List (ℕ × ℕ)) → Zip (length j) (length l) (length k) (zipped j l k)
zip_is [] l k = record { first = omega arith; second = omega arith; third = omega arith; greatest = λ q a b c. a }
zip_is (a ∷ j) [] k = record { first = omega arith; second = omega arith; third = omega arith; greatest = λ q a b c. b }
zip_is (a ∷ j) (b ∷ l) [] = record { first = omega arith; second = omega arith; third = omega arith; greatest = λ q a b c. c }
zip_is (a ∷ j) (b ∷ l) (c ∷ k) =
    let Z = zip_is j l k in
    record { first = omega (arith, Z.first); second = omega (arith, Z.second); third = omega (arith, Z.third); greatest = greatest Z.greatest }
  where
    greatest : ((q : ℕ) → q ≤ length j → q ≤ length l → q ≤ length k → q ≤ zipped j l k) → (q : ℕ) → q ≤ suc (length j) → q ≤ suc (length l) → q ≤ suc (length k) → q ≤ suc (zipped j l k)
    greatest f zero x y z = omega arith
    greatest f (suc q) x y z = omega (arith, f q (omega arith) (omega arith) (omega arith))

pub party-long : (j l k : List (ℕ × ℕ)) → length (party_words j l k) ≡ 6 * zipped j l k
party-long [] l k = refl
party-long (a ∷ j) [] k = refl
party-long (a ∷ j) (b ∷ l) [] = refl
party-long (a ∷ j) (b ∷ l) (c ∷ k) = omega (arith, party-long j l k)

-- THE WORDS FROM A PLACE ON
module _ (w : List ℕ) (long : length w ≡ 82) where
  drop_one : (i j : ℕ) → i < 82 → j ≡ i + 1 → drop i w ≡ get_or w i 0 ∷ drop j w
  drop_one i j h e = let k : suc i ≡ j = omega arith in drop-cons w i 0 (omega arith) ∙ ap (λ (n : ℕ). get_or w i 0 ∷ drop n w) k

  drop_three : (k : ℕ) → k < 11 → drop (3 * k) w ≡ three w k ++ drop (3 * (k + 1)) w
  drop_three k h =
      drop_one (3 * k) (3 * k + 1) (omega arith) refl
      ∙ ap (λ (r : List ℕ). get_or w (3 * k) 0 ∷ r) (drop_one (3 * k + 1) (3 * k + 2) (omega arith) (omega arith)
      ∙ ap (λ (r : List ℕ). get_or w (3 * k + 1) 0 ∷ r) (drop_one (3 * k + 2) (3 * (k + 1)) (omega arith) (omega arith)))

  zeros : (y : ℕ) → y ≤ 82 → ((z : ℕ) → y ≤ z → z < 82 → get_or w z 0 ≡ 0) → drop y w ≡ replicate (82 - y) 0
  zeros y h f =
      ext_get_or 0 (drop y w) (replicate (82 - y) 0) (length-drop y w ∙ ap (λ (n : ℕ). n - y) long ∙ sym (length-replicate (82 - y) 0))
      (λ i l. get_or-drop y w i 0 ∙ f (y + i) (omega arith) (omega (arith, length-drop y w)) ∙ sym (get_or-replicate (82 - y) i 0 0 (omega (arith, length-drop y w))))

  -- the words of a part of m parties from the i-th on
  abbrev Of : ℕ → ℕ → List (ℕ × ℕ) → ℕ → Type 0
  Of i j l m = (q : ℕ) → q < m → (get_or w (part_at (i + q) j) 0 ≡ (get_or l q (0, 0)).0) × (get_or w (part_at (i + q) j + 1) 0 ≡ (get_or l q (0, 0)).1)

  of_next : (i j m : ℕ) (a : ℕ × ℕ) (l : List (ℕ × ℕ)) → Of i j (a ∷ l) (suc m) → Of (i + 1) j l m
  of_next i j m a l f q h =
      let e : i + suc q ≡ i + 1 + q = omega arith in
      subst (λ (n : ℕ). (get_or w (part_at n j) 0 ≡ (get_or l q (0, 0)).0) × (get_or w (part_at n j + 1) 0 ≡ (get_or l q (0, 0)).1)) e (f (suc q) (omega arith))

  of_first : (i j m : ℕ) (a : ℕ × ℕ) (l : List (ℕ × ℕ)) → Of i j (a ∷ l) (suc m) → (get_or w (part_at i j) 0 ≡ a.0) × (get_or w (part_at i j + 1) 0 ≡ a.1)
  of_first i j m a l f =
      let e : i + 0 ≡ i = omega arith in
      subst (λ (n : ℕ). (get_or w (part_at n j) 0 ≡ a.0) × (get_or w (part_at n j + 1) 0 ≡ a.1)) e (f 0 (omega arith))

  two : (y i j : ℕ) (a : ℕ × ℕ) → y ≡ part_at i j → i < 8 → j < 3 → (get_or w (part_at i j) 0 ≡ a.0) × (get_or w (part_at i j + 1) 0 ≡ a.1) → drop y w ≡ a.0 ∷ a.1 ∷ drop (y + 2) w
  two y i j a e h g f =
      drop_one y (y + 1) (omega arith) refl
      ∙ ap (λ (r : List ℕ). get_or w y 0 ∷ r) (drop_one (y + 1) (y + 2) (omega arith) (omega arith))
      ∙ ap (λ (n : ℕ). n ∷ get_or w (y + 1) 0 ∷ drop (y + 2) w) (ap (λ (n : ℕ). get_or w n 0) e ∙ f.0)
      ∙ ap (λ (n : ℕ). a.0 ∷ n ∷ drop (y + 2) w) (ap (λ (n : ℕ). get_or w (n + 1) 0) e ∙ f.1)

  rows : (j l k : List (ℕ × ℕ)) (i : ℕ) → i + zipped j l k ≤ 8 → Of i 0 j (zipped j l k) → Of i 1 l (zipped j l k) → Of i 2 k (zipped j l k)
      → drop (34 + 6 * i) w ≡ party_words j l k ++ drop (34 + 6 * (i + zipped j l k)) w
  rows [] l k i h f g e = let n : i + 0 ≡ i = omega arith in rw n
  rows (a ∷ j) [] k i h f g e = let n : i + 0 ≡ i = omega arith in rw n
  rows (a ∷ j) (b ∷ l) [] i h f g e = let n : i + 0 ≡ i = omega arith in rw n
  rows (a ∷ j) (b ∷ l) (c ∷ k) i h f g e =
      let next : 34 + 6 * i + 2 + 2 + 2 ≡ 34 + 6 * (i + 1) = omega arith in
      let last : 34 + 6 * (i + 1 + zipped j l k) ≡ 34 + 6 * (i + suc (zipped j l k)) = omega arith in
      two (34 + 6 * i) i 0 a (omega arith) (omega arith) (omega arith) (of_first i 0 (zipped j l k) a j f)
      ∙ ap (λ (r : List ℕ). a.0 ∷ a.1 ∷ r) (two (34 + 6 * i + 2) i 1 b (omega arith) (omega arith) (omega arith) (of_first i 1 (zipped j l k) b l g)
      ∙ ap (λ (r : List ℕ). b.0 ∷ b.1 ∷ r) (two (34 + 6 * i + 2 + 2) i 2 c (omega arith) (omega arith) (omega arith) (of_first i 2 (zipped j l k) c k e)
      ∙ ap (λ (r : List ℕ). c.0 ∷ c.1 ∷ r) (ap (λ (n : ℕ). drop n w) next
      ∙ rows j l k (i + 1) (omega arith) (of_next i 0 (zipped j l k) a j f) (of_next i 1 (zipped j l k) b l g) (of_next i 2 (zipped j l k) c k e)
      ∙ ap (λ (n : ℕ). party_words j l k ++ drop n w) last)))

-- ALL OF THEM
module _ (body : Bytes) (words had : List ℕ) (G : Gathered body words had) (n : ℕ) (Z : Zip (get_or had 0 0) (get_or had 1 0) (get_or had 2 0) n)
    (w : List ℕ) (long : length w ≡ 82) (number : get_or w 33 0 ≡ n) (front : (y : ℕ) → y < 34 + 6 * n → (y ≡ 33 → ⊥) → get_or w y 0 ≡ get_or words y 0)
    (behind : (y : ℕ) → 34 + 6 * n ≤ y → y < 82 → get_or w y 0 ≡ 0) where
  abbrev A : List (ℕ × ℕ)
  A = take 8 (every_place 448 body)

  abbrev B : List (ℕ × ℕ)
  B = every_place 447 body

  abbrev C : List (ℕ × ℕ)
  C = every_place 452 body

  ids : Parts words 0 (every_place 448 body) (get_or had 0 0)
  ids = G.parts 0 (omega arith)

  sources : Parts words 1 (every_place 447 body) (get_or had 1 0)
  sources = G.parts 1 (omega arith)

  roles : Parts words 2 (every_place 452 body) (get_or had 2 0)
  roles = G.parts 2 (omega arith)

  few_a : get_or had 0 0 ≡ length A
  few_a = go (ltb (length (every_place 448 body)) 8) refl
    where
      l : List (ℕ × ℕ)
      l = every_place 448 body

      go : (b : Bool) → ltb (length l) 8 ≡ b → get_or had 0 0 ≡ length (take 8 l)
      go true e = omega (arith, ids.few, ids.most (length l) (omega (arith, ltb-true (length l) 8 e)) (omega arith), ap length (take_all 8 l (omega (arith, ltb-true (length l) 8 e))))
      go false e = omega (arith, ids.eight, ids.most 8 (omega arith) (ltb-false (length l) 8 e), length-take-le 8 l (ltb-false (length l) 8 e))

  count_is : zipped A B C ≡ n
  count_is =
      let P = zip_is A B C in
      let m = zipped A B C in
      let up = Z.greatest m (omega (arith, P.first, few_a)) (sources.most m (omega (arith, P.first, few_a, ids.eight)) P.second) (roles.most m (omega (arith, P.first, few_a, ids.eight)) P.third) in
      let down = P.greatest n (omega (arith, Z.first, few_a)) (omega (arith, Z.second, sources.few)) (omega (arith, Z.third, roles.few)) in
      omega arith

  eight : n ≤ 8
  eight = omega (arith, Z.first, ids.eight)

  part_of : (j : ℕ) → j < 3 → (l : List (ℕ × ℕ)) {m : ℕ} → Parts words j l m → Of w long 0 j l (zipped A B C)
  part_of j h l P q k =
      let z : 0 + q ≡ q = omega arith in (
        ap (λ (i : ℕ). get_or w (part_at i j) 0) z ∙ front (part_at q j) (omega (arith, count_is)) (λ z. omega arith) ∙ P.starts q (omega (arith, count_is, eight)),
        ap (λ (i : ℕ). get_or w (part_at i j + 1) 0) z ∙ front (part_at q j + 1) (omega (arith, count_is)) (λ z. omega arith) ∙ P.ends q (omega (arith, count_is, eight)),
      )

  first_of : Of w long 0 0 A (zipped A B C)
  first_of q k =
      let e = get_or-take 8 (every_place 448 body) q (0, 0) (omega (arith, count_is, eight)) in
      let f = part_of 0 (omega arith) (every_place 448 body) ids q k in
      (f.0 ∙ ap (λ (x : ℕ × ℕ). x.0) (sym e), f.1 ∙ ap (λ (x : ℕ × ℕ). x.1) (sym e))

  parties_are : drop 33 w ≡ counted (party_words_in body)
  unfolding party_words_in
  parties_are =
      let ws = party_words A B C in
      let m : length ws ≡ 6 * n = party-long A B C ∙ ap (λ (k : ℕ). 6 * k) count_is in
      let d : n ≡ length ws / 6 = omega (arith, m) in
      let last : 34 + 6 * (0 + zipped A B C) ≡ 34 + 6 * n = omega (arith, count_is) in
      let rest : 82 - (34 + 6 * n) ≡ 48 - length ws = omega (arith, m) in
      drop_one w long 33 34 (omega arith) (omega arith)
      ∙ ap (λ (k : ℕ). k ∷ drop 34 w) (number ∙ d)
      ∙ ap (λ (r : List ℕ). length ws / 6 ∷ r)
      (rows w long A B C 0 (omega (arith, count_is, eight)) first_of (part_of 1 (omega arith) B sources) (part_of 2 (omega arith) C roles)
      ∙ ap (λ (r : List ℕ). ws ++ r) (ap (λ (k : ℕ). drop k w) last ∙ zeros w long (34 + 6 * n) (omega (arith, eight)) behind ∙ ap (λ (k : ℕ). replicate k 0) rest))

  -- the k-th value's words, and those behind
  value_is : (k : ℕ) → k < 11 → drop (3 * k) w ≡ words_at k body (first_place (tag_at k) body) ++ drop (3 * (k + 1)) w
  value_is k h =
      drop_three w long k h
      ∙ ap (λ (r : List ℕ). r ++ drop (3 * (k + 1)) w) (three-words (front (3 * k) (omega arith) (λ z. omega arith)) (front (3 * k + 1) (omega arith) (λ z. omega arith)) (front (3 * k + 2) (omega arith) (λ z. omega arith)) ∙ G.values k h)

  amount_is : (t : ℕ) → 1 ≤ t → t ≤ 99_999 → amount_words (value_at body (first_place t body)) ≡ amount_words (first_field t body)
  amount_is t low high = ap amount_words ((first-place t body (first_place t body) refl).value (is_within 1 99_999 t low high))

  pub words_all : w ≡ words_in body
  unfolding words_in
  words_all =
      value_is 0 (omega arith) ∙ ap (λ (r : List ℕ). place_words (first_place 571 body) ++ r)
      (value_is 1 (omega arith) ∙ ap (λ (r : List ℕ). place_words (first_place 828 body) ++ r)
      (value_is 2 (omega arith) ∙ ap (λ (r : List ℕ). place_words (first_place 60 body) ++ r)
      (value_is 3 (omega arith) ∙ ap (λ (r : List ℕ). r ++ drop 12 w) (amount_is 32 (omega arith) (omega arith)) ∙ ap (λ (r : List ℕ). amount_words (first_field 32 body) ++ r)
      (value_is 4 (omega arith) ∙ ap (λ (r : List ℕ). r ++ drop 15 w) (amount_is 31 (omega arith) (omega arith)) ∙ ap (λ (r : List ℕ). amount_words (first_field 31 body) ++ r)
      (value_is 5 (omega arith) ∙ ap (λ (r : List ℕ). place_words (first_place 64 body) ++ r)
      (value_is 6 (omega arith) ∙ ap (λ (r : List ℕ). place_words (first_place 574 body) ++ r)
      (value_is 7 (omega arith) ∙ ap (λ (r : List ℕ). place_words (first_place 48 body) ++ r)
      (value_is 8 (omega arith) ∙ ap (λ (r : List ℕ). place_words (first_place 22 body) ++ r)
      (value_is 9 (omega arith) ∙ ap (λ (r : List ℕ). place_words (first_place 54 body) ++ r)
      (value_is 10 (omega arith) ∙ ap (λ (r : List ℕ). place_words (first_place 1427 body) ++ r) parties_are))))))))))
