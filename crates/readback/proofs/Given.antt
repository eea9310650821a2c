-- The words of a body, read with the body as their text, give the values that the body names.
use Prim.Native.Nat.{ℕ, zero, suc, ◌+◌, ◌-◌, ◌*◌, ◌/◌, ◌≤◌, ◌<◌}
use native.Mathlib.Omega.{arith}
use mathlib.Core.Path.{◌≡◌, refl, sym, ap, ◌∙◌}
use mathlib.Core.List.{List, [], ◌∷◌, ◌++◌, map, append_assoc}
use mathlib.Core.Bool.{cond, not}
use mathlib.Core.Option.{Option, none, some}
use lib.Dec.{eqb}
use lib.ListN.{length, take, get_or, replicate, length-append, get_or-append}
use lib.Seq.{get_or-append-add, take_all}
use Rattle.octets.specs.Bytes.{Bytes}
use Rattle.octets.proofs.Numerals.{is_within}
use Rattle.fields.specs.Field.{first_field}
use Rattle.fields.specs.First.{first_place, value_at, Inside}
use Rattle.fields.specs.First.{Place}
use Rattle.std.specs.Prelude.{Some, None}
use Rattle.fields.proofs.Firsts.{first-place}
use Rattle.message.specs.Message.{part}
use Rattle.amounts.specs.Amount.{amount_in}
use Rattle.report.specs.Values.{Party}
use Rattle.report.specs.Report.{or_empty, every_field, parties_of, values_in}
use Rattle.report.specs.Report as Report
use Rattle.report.specs.Layout.{word, needed, may_be, amount_at, parties_from, values_given}
use Rattle.readback.specs.Back.{place_words, amount_words, every_place, party_words, party_words_in, counted, words_in}
use Rattle.readback.proofs.Ending.{zipped, party-long}
use Rattle.readback.proofs.Everything.{bytes_at, part_is, every_bytes}

-- ELEVEN TIMES THREE WORDS, and what stands behind them
abbrev threes : List (List ℕ) → List ℕ → List ℕ
threes [] r = r
threes (a ∷ l) r = a ++ threes l r

abbrev AllThree : List (List ℕ) → Type 0
AllThree [] = Unit {0}
AllThree (a ∷ l) = (length a ≡ 3) × AllThree l

word_in : (l : List (List ℕ)) (r : List ℕ) → AllThree l → (k c : ℕ) → k < length l → c < 3 → get_or (threes l r) (3 * k + c) 0 ≡ get_or (get_or l k []) c 0
word_in [] r h k c a b = absurd (omega arith)
word_in (x ∷ l) r h zero c a b = ap (λ (n : ℕ). get_or (x ++ threes l r) n 0) (zero_more c) ∙ get_or-append x (threes l r) 0 c (omega (arith, h.0))
  where
    zero_more : (c : ℕ) → 3 * 0 + c ≡ c
    zero_more c = omega arith
word_in (x ∷ l) r h (suc k) c a b =
    let e : 3 * suc k + c ≡ length x + (3 * k + c) = omega (arith, h.0) in
    ap (λ (n : ℕ). get_or (x ++ threes l r) n 0) e ∙ get_or-append-add x (threes l r) (3 * k + c) 0 ∙ word_in l r h.1 k c (omega arith) b

word-behind : (l : List (List ℕ)) (r : List ℕ) → AllThree l → (i : ℕ) → get_or (threes l r) (3 * length l + i) 0 ≡ get_or r i 0
word-behind [] r h i = let e : 3 * 0 + i ≡ i = omega arith in ap (λ (n : ℕ). get_or r n 0) e
word-behind (x ∷ l) r h i =
    let e : 3 * suc (length l) + i ≡ length x + (3 * length l + i) = omega (arith, h.0) in
    ap (λ (n : ℕ). get_or (x ++ threes l r) n 0) e ∙ get_or-append-add x (threes l r) (3 * length l + i) 0 ∙ word-behind l r h.1 i

-- the words before the parties'
behind-front : (l : List (List ℕ)) (n : ℕ) (r : List ℕ) → threes l (n ∷ r) ≡ threes l (n ∷ []) ++ r
behind-front [] n r = refl
behind-front (x ∷ l) n r = ap (λ (w : List ℕ). x ++ w) (behind-front l n r) ∙ sym (append_assoc x (threes l (n ∷ [])) r)

front_long : (l : List (List ℕ)) (n : ℕ) → AllThree l → length (threes l (n ∷ [])) ≡ 3 * length l + 1
front_long [] n h = refl
front_long (x ∷ l) n h = omega (arith, length-append x (threes l (n ∷ [])), front_long l n h.1, h.0)

place-three : (p : Place) → length (place_words p) ≡ 3
place-three (Some x) = refl
place-three None = refl

amount-three : (o : Option Bytes) → length (amount_words o) ≡ 3
amount-three (some v) = refl
amount-three none = refl

-- THE PARTIES
word_at : {words : List ℕ} (f g : List ℕ) → words ≡ f ++ g → (y n : ℕ) → y ≡ length f + n → get_or words y 0 ≡ get_or g n 0
word_at f g e y n h = ap (λ (w : List ℕ). get_or w y 0) e ∙ ap (λ (i : ℕ). get_or (f ++ g) i 0) h ∙ get_or-append-add f g n 0

parties_from_lem : (words : List ℕ) (text : Bytes) (j l k : List (ℕ × ℕ)) (f r : List ℕ) (i : ℕ) → words ≡ f ++ (party_words j l k ++ r) → length f ≡ 34 + 6 * i
    → parties_from words text i (zipped j l k) ≡ parties_of (map (bytes_at text) j) (map (bytes_at text) l) (map (bytes_at text) k)
parties_from_lem words text [] l k f r i e h = refl
parties_from_lem words text (a ∷ j) [] k f r i e h = refl
parties_from_lem words text (a ∷ j) (b ∷ l) [] f r i e h = refl
parties_from_lem words text (a ∷ j) (b ∷ l) (c ∷ k) f r i e h =
    let six : List ℕ = a.0 ∷ a.1 ∷ b.0 ∷ b.1 ∷ c.0 ∷ c.1 ∷ [] in
    let g : List ℕ = party_words (a ∷ j) (b ∷ l) (c ∷ k) ++ r in
    let w = word_at f g e in
    let n = length-append f six in
    rw (
      w (34 + 6 * i + 2 * 0) 0 (omega arith),
      w (35 + 6 * i + 2 * 0) 1 (omega arith),
      w (34 + 6 * i + 2 * 1) 2 (omega arith),
      w (35 + 6 * i + 2 * 1) 3 (omega arith),
      w (34 + 6 * i + 2 * 2) 4 (omega arith),
      w (35 + 6 * i + 2 * 2) 5 (omega arith),
      parties_from_lem words text j l k (f ++ six) r (i + 1) (e ∙ sym (append_assoc f six (party_words j l k ++ r))) (omega arith),
    )

-- the first n of them
take_parties : (n : ℕ) (j l k : List Bytes) → parties_of (take n j) l k ≡ take n (parties_of j l k)
take_parties zero j l k = refl
take_parties (suc n) [] l k = refl
take_parties (suc n) (a ∷ j) [] k = refl
take_parties (suc n) (a ∷ j) (b ∷ l) [] = refl
take_parties (suc n) (a ∷ j) (b ∷ l) (c ∷ k) = ap (λ (ps : List Party). record { its448 = a; its447 = b; its452 = c } ∷ ps) (take_parties n j l k)

map-take : (f : ℕ × ℕ → Bytes) (n : ℕ) (l : List (ℕ × ℕ)) → map f (take n l) ≡ take n (map f l)
map-take f zero l = refl
map-take f (suc n) [] = refl
map-take f (suc n) (a ∷ l) = ap (λ (r : List Bytes). f a ∷ r) (map-take f n l)

module _ (body : Bytes) where
  abbrev blocks : List (List ℕ)
  blocks =
      place_words (first_place 571 body) ∷
      place_words (first_place 828 body) ∷
      place_words (first_place 60 body) ∷
      amount_words (first_field 32 body) ∷
      amount_words (first_field 31 body) ∷
      place_words (first_place 64 body) ∷
      place_words (first_place 574 body) ∷
      place_words (first_place 48 body) ∷
      place_words (first_place 22 body) ∷
      place_words (first_place 54 body) ∷
      place_words (first_place 1427 body) ∷
      []

  all_three : AllThree blocks
  all_three =
      (place-three (first_place 571 body), (place-three (first_place 828 body), (place-three (first_place 60 body), (amount-three (first_field 32 body), (amount-three (first_field 31 body), (place-three (first_place 64 body), (place-three (first_place 574 body), (place-three (first_place 48 body), (place-three (first_place 22 body), (place-three (first_place 54 body), (place-three (first_place 1427 body), tt)))))))))))

  words_are : words_in body ≡ threes blocks (counted (party_words_in body))
  unfolding words_in
  words_are = refl

  the_word : (k c : ℕ) → k < 11 → c < 3 → get_or (words_in body) (3 * k + c) 0 ≡ get_or (get_or blocks k []) c 0
  the_word k c h l = ap (λ (w : List ℕ). get_or w (3 * k + c) 0) words_are ∙ word_in blocks (counted (party_words_in body)) all_three k c h l

  -- A VALUE OF BYTES, given or not
  module _ (k : ℕ) (h : k < 11) (t : ℕ) (within : (1 ≤ t) × (t ≤ 99_999)) (e : get_or blocks k [] ≡ place_words (first_place t body)) where
    block_word : (c : ℕ) → c < 3 → get_or (words_in body) (3 * k + c) 0 ≡ get_or (place_words (first_place t body)) c 0
    block_word c l = the_word k c h l ∙ ap (λ (b : List ℕ). get_or b c 0) e

    first_word : get_or (words_in body) (3 * k) 0 ≡ get_or (place_words (first_place t body)) 0 0
    first_word = let z : 3 * k ≡ 3 * k + 0 = omega arith in ap (λ (n : ℕ). get_or (words_in body) n 0) z ∙ block_word 0 (omega arith)

    value_is : value_at body (first_place t body) ≡ first_field t body
    value_is = (first-place t body (first_place t body) refl).value (is_within 1 99_999 t within.0 within.1)

    pub needed_is : needed (words_in body) body k ≡ Report.the t body
    needed_is = rw (first_word, block_word 1 (omega arith), block_word 2 (omega arith)) (go (first_place t body) (first-place t body (first_place t body) refl).inside ∙ ap or_empty value_is)
      where
        go : (p : Place) → Inside body p → cond (not (eqb (get_or (place_words p) 0 0) 0)) (part body (get_or (place_words p) 1 0) (get_or (place_words p) 2 0)) [] ≡ or_empty (value_at body p)
        go (Some x) i = part_is body x.start x.end i.0 i.1
        go None i = refl

    pub may_be_is : may_be (words_in body) body k ≡ first_field t body
    may_be_is = rw (first_word, block_word 1 (omega arith), block_word 2 (omega arith)) (go (first_place t body) (first-place t body (first_place t body) refl).inside ∙ value_is)
      where
        go : (p : Place) → Inside body p → cond (not (eqb (get_or (place_words p) 0 0) 0)) (some (part body (get_or (place_words p) 1 0) (get_or (place_words p) 2 0))) none ≡ value_at body p
        go (Some x) i = ap some (part_is body x.start x.end i.0 i.1)
        go None i = refl

  -- AN AMOUNT, which a clean report has
  pub amount_is : (k : ℕ) → k < 11 → (t : ℕ) → get_or blocks k [] ≡ amount_words (first_field t body) → (v : Bytes) → first_field t body ≡ some v → amount_at (words_in body) body k ≡ amount_in (Report.the t body)
  amount_is k h t e v q =
      let b : get_or blocks k [] ≡ 1 ∷ (amount_in v).whole ∷ (amount_in v).places ∷ [] = e ∙ ap amount_words q in
      let z : 3 * k ≡ 3 * k + 0 = omega arith in
      let w : (c : ℕ) → c < 3 → get_or (words_in body) (3 * k + c) 0 ≡ get_or (1 ∷ (amount_in v).whole ∷ (amount_in v).places ∷ []) c 0 = λ c l. the_word k c h l ∙ ap (λ (x : List ℕ). get_or x c 0) b in
      rw (ap (λ (n : ℕ). get_or (words_in body) n 0) z ∙ w 0 (omega arith), w 1 (omega arith), w 2 (omega arith), q)

  -- THE PARTIES, up to eight
  abbrev A : List (ℕ × ℕ)
  A = take 8 (every_place 448 body)

  party_count : word (words_in body) body 33 ≡ zipped A (every_place 447 body) (every_place 452 body)
  unfolding party_words_in
  party_count =
      let m = party-long A (every_place 447 body) (every_place 452 body) in
      ap (λ (w : List ℕ). get_or w 33 0) words_are ∙ word-behind blocks (counted (party_words_in body)) all_three 0 ∙ omega (arith, m)

  parties_are : parties_from (words_in body) body 0 (word (words_in body) body 33) ≡ take 8 (Report.parties_in body)
  unfolding party_words_in
  parties_are =
      let ws : List ℕ = party_words A (every_place 447 body) (every_place 452 body) in
      ap (parties_from (words_in body) body 0) party_count
      ∙ parties_from_lem (words_in body) body A (every_place 447 body) (every_place 452 body) (threes blocks (length ws / 6 ∷ [])) (replicate (48 - length ws) 0) 0 (words_are ∙ behind-front blocks (length ws / 6) (ws ++ replicate (48 - length ws) 0)) (front_long blocks (length ws / 6) all_three)
      ∙ ap (λ (j : List Bytes). parties_of j (map (bytes_at body) (every_place 447 body)) (map (bytes_at body) (every_place 452 body))) (map-take (bytes_at body) 8 (every_place 448 body))
      ∙ take_parties 8 (map (bytes_at body) (every_place 448 body)) (map (bytes_at body) (every_place 447 body)) (map (bytes_at body) (every_place 452 body))
      ∙ ap (λ (j : List Bytes). take 8 (parties_of j (map (bytes_at body) (every_place 447 body)) (map (bytes_at body) (every_place 452 body)))) (every_bytes 448 body)
      ∙ ap (λ (l : List Bytes). take 8 (parties_of (every_field 448 body) l (map (bytes_at body) (every_place 452 body)))) (every_bytes 447 body)
      ∙ ap (λ (k : List Bytes). take 8 (parties_of (every_field 448 body) (every_field 447 body) k)) (every_bytes 452 body)

  pub values_given_lem : (v : Bytes) → first_field 32 body ≡ some v → (u : Bytes) → first_field 31 body ≡ some u → length (Report.parties_in body) ≤ 8 → values_given (words_in body) body ≡ values_in body
  unfolding values_given values_in
  values_given_lem v q u p l i =
      record {
        its571 = needed_is 0 (omega arith) 571 (omega arith, omega arith) refl i;
        its828 = needed_is 1 (omega arith) 828 (omega arith, omega arith) refl i;
        its60 = needed_is 2 (omega arith) 60 (omega arith, omega arith) refl i;
        its32 = amount_is 3 (omega arith) 32 refl v q i;
        its31 = amount_is 4 (omega arith) 31 refl u p i;
        its64 = may_be_is 5 (omega arith) 64 (omega arith, omega arith) refl i;
        its574 = needed_is 6 (omega arith) 574 (omega arith, omega arith) refl i;
        its48 = needed_is 7 (omega arith) 48 (omega arith, omega arith) refl i;
        its22 = needed_is 8 (omega arith) 22 (omega arith, omega arith) refl i;
        its54 = needed_is 9 (omega arith) 54 (omega arith, omega arith) refl i;
        its1427 = may_be_is 10 (omega arith) 1427 (omega arith, omega arith) refl i;
        parties = (parties_are ∙ take_all 8 (Report.parties_in body) l) i;
      }
