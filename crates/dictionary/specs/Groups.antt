-- What a clean verdict says of a group, in the documents' words: its members are whole instances, one behind the other, as many as its count says.
use Rattle.std.specs.Prelude.{ℕ, suc, ◌≤◌, ◌≡◌, List, [], ◌∷◌, Bool, true, false, cond, ◌&&◌, eqb}
use Rattle.octets.specs.Bytes.{Bytes, any, has, value}
use Rattle.fields.specs.Field.{Part, field, malformed, part_of}
use Rattle.table.specs.Dictionary.{Row, Group, listed}
use Rattle.dictionary.specs.Verdict.{first_member}

-- "Y required, N optional": t is a required tag of some rows
abbrev pub required : List Row → ℕ → Bool
required rows t = any (λ (r : Row). eqb r.tag t && r.required) rows

-- the fields with such tags among the parts of a body, in the body's order: tag and value
abbrev pub kept : (ℕ → Bool) → Part → List (ℕ × Bytes) → List (ℕ × Bytes)
kept such malformed fs = fs
kept such (field t v) fs = cond (such t) ((t, v) ∷ fs) fs

abbrev pub fields_among : (ℕ → Bool) → List Bytes → List (ℕ × Bytes)
fields_among such [] = []
fields_among such (p ∷ ps) = kept such (part_of p) (fields_among such ps)

-- "a required member missing from the last instance, if one began, reason 1": none is missing among the members met in it
abbrev pub Whole : Group → List ℕ → Type 0
Whole g [] = Unit {0}
Whole g (u ∷ met) = (t : ℕ) → required g.members t ≡ true → has (u ∷ met) t ≡ true

-- "That first member starts each instance, the others follow in any order; another member twice in one instance: 13". These members are met in an
-- instance (none: no instance has begun), then come these fields, and in them so many instances begin.
pub data Instances (g : Group) : List ℕ → List (ℕ × Bytes) → ℕ → Type 0 where
  ended : {met : List ℕ} → Whole g met → Instances g met [] 0
  begins : {met : List ℕ} {t : ℕ} {v : Bytes} {fs : List (ℕ × Bytes)} {n : ℕ} → Whole g met → first_member g.members t ≡ true → Instances g (t ∷ []) fs n
      → Instances g met ((t, v) ∷ fs) (suc n)
  follows : {u : ℕ} {met : List ℕ} {t : ℕ} {v : Bytes} {fs : List (ℕ × Bytes)} {n : ℕ} → listed g.members t ≡ true → first_member g.members t ≡ false → has (u ∷ met) t ≡ false
      → Instances g (t ∷ u ∷ met) fs n
      → Instances g (u ∷ met) ((t, v) ∷ fs) n

-- "Group 453, 1 to 8 times": its count field is there once and says how many instances there are, or there is neither
pub data Counted (most : ℕ) : List (ℕ × Bytes) → ℕ → Type 0 where
  none : Counted most [] 0
  one : {t : ℕ} {v : Bytes} → 1 ≤ value v → value v ≤ most → Counted most ((t, v) ∷ []) (value v)

-- "then a wrong count, 16 with the count tag": the members of a group among the parts of a body are whole instances, as many as its count says
pub record Grouped (g : Group) (ps : List Bytes) : Type 0 where
  pub number : ℕ
  pub instances : Instances g [] (fields_among (listed g.members) ps) number
  pub counted : Counted g.most (fields_among (eqb g.counter) ps) number

abbrev pub AllGrouped : List Group → List Bytes → Type 0
AllGrouped [] ps = Unit {0}
AllGrouped (g ∷ gs) ps = Grouped g ps × AllGrouped gs ps
