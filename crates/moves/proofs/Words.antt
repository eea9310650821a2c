-- Laws of the words: the first that speaks, and what is said otherwise.
-- Assumes nothing.
use Prim.Native.Nat.{ℕ}
use native.Mathlib.Omega.{arith}
use mathlib.Core.Path.{◌≡◌, refl}
use mathlib.Core.Bool.{Bool, true, false}
use mathlib.Core.List.{List, [], ◌∷◌, ◌++◌}
use mathlib.Core.Option.{Option, none, some}
use Rattle.moves.specs.Words.{first, ◌when◌, ◌otherwise◌}

-- A PROPERTY of all that could be said
module _ {A : Type 0} (P : A → Type 0) where
  abbrev pub Said : Option A → Type 0
  Said none = Unit {0}
  Said (some a) = P a

  -- of each, where those before it are silent; and R where all are
  abbrev pub Each : List (Option A) → Type 0 → Type 0
  Each [] R = R
  Each (o ∷ os) R = Said o × (o ≡ none → Each os R)

  pub said_when : (a : A) (b : Bool) → (b ≡ true → P a) → Said (a when b)
  said_when a true h = h refl
  said_when a false h = tt

-- THE FIRST: what holds of each that may be it, and of silence, holds of it
pub each_first : {A : Type 0} (P : Option A → Type 0) (os : List (Option A)) → Each (λ a. P (some a)) os (P none) → P (first os)
each_first P [] h = h
each_first P (none ∷ os) h = each_first P os (h.1 refl)
each_first P (some a ∷ os) h = h.0

pub said-first : {A : Type 0} (P : A → Type 0) (os : List (Option A)) → Each P os (Unit {0}) → Said P (first os)
said-first P = each_first (Said P)

pub said_otherwise : {A : Type 0} (P : A → Type 0) (os : List (Option A)) (a : A) → Each P os (P a) → P (first os otherwise a)
said_otherwise P os a = each_first (λ o. P (o otherwise a)) os

-- one of a list, then those behind it
pub then_by : {A B : Type 0} → A → B → A × B
then_by a b = (a, b)

-- SILENCE
pub not_said : {A : Type 0} (a : A) (b : Bool) → (a when b) ≡ none → b ≡ false
not_said a true e = let z : ◌≡◌ {A = ℕ} 0 1 = cc in absurd (omega arith)
not_said a false e = refl

abbrev pub Silent : {A : Type 0} → List (Option A) → Type 0
Silent [] = Unit {0}
Silent (o ∷ os) = (o ≡ none) × Silent os

pub all_silent : {A : Type 0} (os : List (Option A)) → first os ≡ none → Silent os
all_silent [] e = tt
all_silent (none ∷ os) e = (refl, all_silent os e)
all_silent (some a ∷ os) e = let z : ◌≡◌ {A = ℕ} 0 1 = cc in absurd (omega arith)

pub none_first : {A : Type 0} (os : List (Option A)) → Silent os → first os ≡ none
none_first [] h = refl
none_first (none ∷ os) h = none_first os h.1
none_first (some a ∷ os) h = h.0

-- TWO LISTS, one behind the other
module _ {A : Type 0} where
  pub first_some : (k l : List (Option A)) (a : A) → first k ≡ some a → first (k ++ l) ≡ some a
  first_some [] l a e = let z : ◌≡◌ {A = ℕ} 0 1 = cc in absurd (omega arith)
  first_some (none ∷ k) l a e = first_some k l a e
  first_some (some x ∷ k) l a e = e

  pub first_rest : (k l : List (Option A)) → first k ≡ none → first (k ++ l) ≡ first l
  first_rest [] l e = refl
  first_rest (none ∷ k) l e = first_rest k l e
  first_rest (some x ∷ k) l e = let z : ◌≡◌ {A = ℕ} 0 1 = cc in absurd (omega arith)
