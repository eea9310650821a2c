-- The record as bytes and words, for the code that loads and saves it: whether the words are a record's, the loops over them, a new record's words.
-- Assumes nothing.
use Prim.Native.Nat.{ℕ, ◌-◌}
use mathlib.Core.Path.{◌≡◌, refl, sym, ap, ◌∙◌}
use mathlib.Core.List.{List, [], ◌∷◌}
use mathlib.Core.Bool.{Bool, true, false, ◌&&◌}
use Rattle.std.specs.List.{fold}
use Rattle.octets.specs.Bytes.{all}
use mathlib.Core.Option.{none}
use native.Mathlib.Omega.{arith}
use borrow.Author.Tests.{ne_eqb}
use lib.Dec.{eqb}
use lib.ListN.{length, get_or, set, take, drop, replicate, length-drop}
use lib.Seq.{take_all}
use Rattle.moves.specs.declared.record.Record.{Record}
use Rattle.border.specs.Record.{words_of, saved, spare, status_of, status_if, status_in}

-- WHETHER THE WORDS ARE A RECORD'S, test by test
module _ (words : List ℕ) where
  pub other_length : (length words ≡ 24 → ⊥) → none ≡ status_in words
  unfolding status_in
  other_length h = rw (ne_eqb (length words) 24 h)

  pub other_version : length words ≡ 24 → (get_or words 0 0 ≡ 1 → ⊥) → none ≡ status_in words
  unfolding status_in
  other_version e h = rw (e, ne_eqb (get_or words 0 0) 1 h)

  status_is : length words ≡ 24 → get_or words 0 0 ≡ 1 → status_if words (spare words) ≡ status_in words
  unfolding status_in
  status_is e f = rw (e, f)

  pub other_status : length words ≡ 24 → get_or words 0 0 ≡ 1 → none ≡ status_of (get_or words 1 0) → none ≡ status_in words
  other_status e f h = go (spare words) ∙ status_is e f
    where
      go : (b : Bool) → none ≡ status_if words b
      go true = h
      go false = refl

  pub not_spare : length words ≡ 24 → get_or words 0 0 ≡ 1 → spare words ≡ false → none ≡ status_in words
  not_spare e f h = sym (ap (status_if words) h) ∙ status_is e f

  pub status_read : length words ≡ 24 → get_or words 0 0 ≡ 1 → spare words ≡ true → status_of (get_or words 1 0) ≡ status_in words
  status_read e f h = sym (ap (status_if words) h) ∙ status_is e f

-- the words that are kept for later, by a fold over them
pub fold_all : (l : List ℕ) (b : Bool) → fold (λ (a : Bool) (x : ℕ). a && eqb x 0) b l ≡ b && all (λ w. eqb w 0) l
fold_all [] true = refl
fold_all [] false = refl
fold_all (x ∷ l) b = fold_all l (b && eqb x 0) ∙ both_and b (eqb x 0) (all (λ w. eqb w 0) l)
  where
    both_and : (a b c : Bool) → (a && b) && c ≡ a && (b && c)
    both_and true b c = refl
    both_and false b c = refl

-- the code looks at the words from the thirteenth on
pub spare_is : (words : List ℕ) (n : ℕ) → length words ≡ n → all (λ w. eqb w 0) (take (n - 12) (drop 12 words)) ≡ spare words
unfolding spare
spare_is words n e = ap (all (λ w. eqb w 0)) (take_all (n - 12) (drop 12 words) (omega (arith, length-drop 12 words)))

-- a new record's words
module _ (w z : List ℕ) (h : length w ≡ 24) (zeroed : z ≡ replicate (length w) 0) where
  pub fresh_length : length (set z 0 1) ≡ 24
  fresh_length = rw (zeroed, h)

  pub fresh_words : (r : Record) {v : List ℕ} → v ≡ saved (set z 0 1) r → v ≡ words_of r
  fresh_words r e = e ∙ ap (λ (x : List ℕ). saved (set x 0 1) r) (zeroed ∙ ap (λ (n : ℕ). replicate n 0) h)
