-- The pass over the fields: what a field does to the words and to the counts of party parts, and what they hold behind the last. Only the code needs
-- this: nothing here states document 02.
use Rattle.std.specs.Prelude as rust
use Rattle.std.specs.Prelude.{ℕ, ◌+◌, ◌-◌, ◌*◌, ◌≤◌, ◌<◌, ◌≡◌, List, [], ◌∷◌, Bool, false, cond, eqb, leb, length, take, drop, get_or, set, Some, None}
use Rattle.std.proofs.Math.Option.{Option, none, some}
use Rattle.octets.specs.Bytes.{Bytes, fix, same}
use Rattle.fields.specs.Field.{first_field}
use Rattle.fields.specs.First.{first_place, value_at}
use Rattle.fields.specs.First.{Place}
use Rattle.amounts.specs.Amount.{amount_in}
use Rattle.report.specs.Layout.{tags}
use Rattle.readback.specs.Back.{place_words, amount_words, every_place}

-- whether the type is that of a report, as the code asks it
abbrev pub is_ae : Option Bytes → Bool
is_ae none = false
is_ae (some v) = same v (fix "AE")

abbrev pub names_report : Bytes → Bool
names_report body = is_ae (first_field 35 body)

-- THE ELEVEN VALUES. The place of a tag among them, and the tag of a place
abbrev pub index_in : ℕ → List ℕ → ℕ
index_in t [] = 0
index_in t (u ∷ l) = cond (eqb t u) 0 (index_in t l + 1)

unfoldable pub slot_of : ℕ → ℕ
slot_of t = index_in t tags

-- 11 is the place of none
abbrev pub slot_in : ℕ → rust.Option ℕ
slot_in k = cond (eqb k 11) None (Some k)

abbrev pub tag_at : ℕ → ℕ
tag_at k = get_or tags k 0

-- what stands behind `given`: an amount's two numbers, or the two places
abbrev pub pair_of : Bytes → ℕ × ℕ
pair_of v = ((amount_in v).whole, (amount_in v).places)

abbrev pub pair_in : Bytes → ℕ → ℕ → ℕ → ℕ × ℕ
pair_in body k start end =
    let amount = pair_of (take (end - start) (drop start body)) in cond (eqb k 3) amount (cond (eqb k 4) amount (start, end))

-- the first field of a tag has its words; a later one changes nothing
abbrev pub slot_set : List ℕ → ℕ → ℕ × ℕ → List ℕ
slot_set words k p = set (set (set words (3 * k) 1) (3 * k + 1) p.0) (3 * k + 2) p.1

abbrev pub slot_noted : List ℕ → ℕ → ℕ × ℕ → List ℕ
slot_noted words k p = cond (eqb (get_or words (3 * k) 0) 0) (slot_set words k p) words

abbrev pub value_noted : Bytes → ℕ → ℕ → ℕ → List ℕ → List ℕ
value_noted body t start end words =
    let k = slot_of t in cond (eqb k 11) words (slot_noted words k (pair_in body k start end))

-- the words of the k-th value where it lies at a place, or nowhere
abbrev pub words_at : ℕ → Bytes → Place → List ℕ
words_at k body p = cond (eqb k 3) (amount_words (value_at body p)) (cond (eqb k 4) (amount_words (value_at body p)) (place_words p))

abbrev pub three : List ℕ → ℕ → List ℕ
three words k = get_or words (3 * k) 0 ∷ get_or words (3 * k + 1) 0 ∷ get_or words (3 * k + 2) 0 ∷ []

-- THE PARTIES. The j-th part of the i-th has the words from here on
abbrev pub part_at : ℕ → ℕ → ℕ
part_at i j = 34 + 6 * i + 2 * j

pub record PartNoted (words : List ℕ) (j n start end r : ℕ) (words' : List ℕ) : Type 0 where
  pub count : r ≡ cond (leb 8 n) n (n + 1)
  pub noted : words' ≡ cond (leb 8 n) words (set (set words (part_at n j) start) (part_at n j + 1) end)

-- the places of a part's tag are l: the first eight are in the words, and counted
pub record Parts (words : List ℕ) (j : ℕ) (l : List (ℕ × ℕ)) (n : ℕ) : Type 0 where
  pub eight : n ≤ 8
  pub few : n ≤ length l
  pub most : (q : ℕ) → q ≤ 8 → q ≤ length l → q ≤ n
  pub starts : (i : ℕ) → i < 8 → get_or words (part_at i j) 0 ≡ (get_or l i (0, 0)).0
  pub ends : (i : ℕ) → i < 8 → get_or words (part_at i j + 1) 0 ≡ (get_or l i (0, 0)).1

-- the tag of a party's j-th part
abbrev pub part_tag : ℕ → ℕ
part_tag j = get_or (448 ∷ 447 ∷ 452 ∷ []) j 0

-- A FIELD: a party's part, which is counted, or one that may be among the eleven
pub data Noted (body : Bytes) (t start end : ℕ) (words had words' : List ℕ) : List ℕ → Type 0 where
  a_part : {j n : ℕ} → j < 3 → t ≡ part_tag j → PartNoted words j (get_or had j 0) start end n words' → Noted body t start end words had words' (set had j n)
  a_value : (t ≡ 448 → ⊥) → (t ≡ 447 → ⊥) → (t ≡ 452 → ⊥) → words' ≡ value_noted body t start end words → Noted body t start end words had words' had

-- BEHIND THE LAST FIELD
pub record Gathered (body : Bytes) (words had : List ℕ) : Type 0 where
  pub long : length words ≡ 82
  pub values : (k : ℕ) → k < 11 → three words k ≡ words_at k body (first_place (tag_at k) body)
  pub parts : (j : ℕ) → j < 3 → Parts words j (every_place (part_tag j) body) (get_or had j 0)
