-- An answer at the C border: the number that a call returns, 0 or this paper's refusal, and its out words.
-- Both come from the `numbers` of the layer whose answer it is.
use Rattle.session.specs.Refusals.{No}
use Rattle.session.specs.declared.Refusal.{Refusal}
use Rattle.std.specs.Prelude.{ℕ, ◌≡◌, ◌-◌, List, [], ◌∷◌, ◌++◌, length, get_or, replicate}
use Rattle.std.proofs.Math.Option.{Option, none, some}

-- the refusal, or 0
abbrev pub refusal_of : Option ℕ × List ℕ → ℕ
refusal_of (none, values) = 0
refusal_of (some number, values) = number

-- the first value, 0 where there is none
abbrev pub value_of : Option ℕ × List ℕ → ℕ
value_of n = get_or n.1 0 0

-- n words: the values, with zeros in front where they are fewer
abbrev pub in_words : ℕ → Option ℕ × List ℕ → List ℕ
in_words n a = replicate (n - length a.1) 0 ++ a.1

-- whether there is a value, 1 or 0
abbrev pub any_of : Option ℕ × List ℕ → ℕ
any_of (r, []) = 0
any_of (r, v ∷ vs) = 1

-- a refusal of a call's: its number, and no value goes out in the n words
abbrev pub RefusedOut : ℕ → Refusal → ℕ → List ℕ → Type 0
RefusedOut n k r out = (r ≡ No k) × (out ≡ replicate n 0)
