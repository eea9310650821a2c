-- The writer's values from their words, place by place. Assumes nothing.
use Prim.Native.Nat.{ℕ, zero, suc, ◌+◌, ◌-◌, ◌*◌, ◌<◌}
use mathlib.Core.Path.{◌≡◌, refl, sym, ap, ◌∙◌}
use mathlib.Core.List.{List, [], ◌∷◌, ◌++◌, map, append_assoc, map-append}
use mathlib.Core.Bool.{Bool, true, false, cond, not}
use native.Mathlib.Numerals.{add-one}
use native.Mathlib.Omega.{arith}
use lib.Dec.{eqb}
use lib.ListN.{length, set, get_or, replicate, length-append, length-map}
use lib.Seq.{set_at}
use Rattle.std.specs.Prelude.{Option, Some, None}
use Rattle.std.specs.Bool.{then_some}
use Rattle.writer.specs.declared.Given.{Given}
use Rattle.writer.specs.Call.{Values}
use Rattle.border.specs.Values.{up_to, value_at, values_of}

up_length : (n : ℕ) → length (up_to n) ≡ n
up_length zero = refl
up_length (suc n) = length-append (up_to n) (n ∷ []) ∙ ap (λ (m : ℕ). m + 1) (up_length n) ∙ add-one n

-- the first k of n places hold what f says of them, and the others d
module _ {A : Type 0} (f : ℕ → A) where
  abbrev pub filled : A → ℕ → ℕ → List A
  filled d n k = map f (up_to k) ++ replicate (n - k) d

  pub fill_more : (d : A) (n k : ℕ) → k < n → set (filled d n k) k (f k) ≡ filled d n (k + 1)
  fill_more d n k h =
      let rest = replicate (n - (k + 1)) d in
      let one : n - k ≡ suc (n - (k + 1)) = omega arith in
      ap (λ (m : ℕ). set (map f (up_to k) ++ replicate m d) k (f k)) one
      ∙ set_at (map f (up_to k)) d rest (f k) k (length-map (up_to k) f ∙ up_length k)
      ∙ sym (append_assoc (map f (up_to k)) (f k ∷ []) rest)
      ∙ ap (λ (l : List A). l ++ rest) (sym (map-append f (up_to k) (k ∷ [])) ∙ ap (λ (m : ℕ). map f (up_to m)) (sym (add-one k)))

-- the value of a place, as the code makes it
pub made : (words : List ℕ) (k : ℕ) → then_some (not (eqb (get_or words (3 * k) 0) 0)) (record { a = get_or words (3 * k + 1) 0; b = get_or words (3 * k + 2) 0 }) ≡ value_at words k
made words k = go (eqb (get_or words (3 * k) 0) 0)
  where
    x : Given
    x = record { a = get_or words (3 * k + 1) 0; b = get_or words (3 * k + 2) 0 }

    go : (b : Bool) → then_some (not b) x ≡ cond b None (Some x)
    go true = refl
    go false = refl

pub next_filled : (words : List ℕ) {values : Values} (k : ℕ) {v : Option Given} → k < 21 → v ≡ then_some (not (eqb (get_or words (3 * k) 0) 0)) (record { a = get_or words (3 * k + 1) 0; b = get_or words (3 * k + 2) 0 })
    → values ≡ filled (value_at words) None 21 k → set values k v ≡ filled (value_at words) None 21 (k + 1)
next_filled words k h e F = rw (F, e ∙ made words k) (fill_more (value_at words) None 21 k h)

pub all_filled : (words : List ℕ) {values : Values} {k : ℕ} → k ≡ 21 → values ≡ filled (value_at words) None 21 k → values ≡ values_of words
unfolding values_of
all_filled words e F = rw (F, e)
