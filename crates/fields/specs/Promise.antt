-- What is promised of a body's fields, in document 01's words. Proved once, in proofs/Promise.antt.
use Rattle.std.specs.Prelude.{ℕ, ◌≤◌, ◌≡◌, List, map, true, false, cond, length, take, None}
use Rattle.std.proofs.Math.Option.{none, some}
use Rattle.std.specs.Borrow.{Bor}
use Rattle.octets.specs.Bytes.{Bytes, within}
use Rattle.fields.specs.Field.{parts, first_field, is_body}
use Rattle.fields.specs.Item.{field_at, numbers}
use Rattle.fields.specs.First.{first_place, value_at, Inside}
use Rattle.fields.specs.Reading.{opened, HandsOut, Calls, bytes_in, items_of, joined, place_among}
use Rattle.fields.specs.declared.Item.{Item}
use Rattle.fields.specs.declared.Item.TheVariants.{End}
use Rattle.fields.specs.declared.Reader.{Reader}

-- "A reader over one body keeps its place in it and hands out one field at a time": what any number of calls on a reader just opened hand out, and
-- where they leave it
pub record InOrder (body : Bor Bytes) (l : List Item) (d : Reader) : Type 0 where
  -- the first parts of the body, in order and each once, as many as there were calls
  pub first_parts : length l ≤ length (parts body.now) → l ≡ take (length l) (items_of 0 (parts body.now))
  -- "each value is the part of the body between `=` and `|`; any other part comes out whole as malformed": the bytes of each are those of its part
  pub their_bytes : length l ≤ length (parts body.now) → map (bytes_in body.now) l ≡ take (length l) (parts body.now)
  -- the reader stands behind these parts and their `|`, in the same body
  pub stands : d ≡ record { body = body; at = length (joined (take (length l) (parts body.now))) }
  -- behind the last part there is nothing, and the reader stays
  pub then_none : length (parts body.now) ≤ length l → (r : Item) (e : Reader) → HandsOut d r e → (r ≡ End) × (e ≡ d)

pub record Promise : Type 0 where
  -- calls can go on as long as one likes
  pub goes_on : (k : ℕ) (d : Reader) → (l : List Item) × ((e : Reader) × (Calls d l e × (length l ≡ k)))
  pub in_order : (body : Bor Bytes) → is_body body.now ≡ true → (l : List Item) (d : Reader) → Calls (opened body) l d → InOrder body l d
  -- "A body is a row of fields `tag=value|`": its parts, each with its `|`, are the body
  pub row : (body : Bytes) → is_body body ≡ true → joined (parts body) ≡ body
  -- ""The first field t" means: cut the body behind each `|` and take the first part that begins with t and `=`.": the value at the place that is
  -- answered; the place is the body's; and it is that of the first field t which the reader hands out
  pub first : (t : ℕ) (body : Bytes) → within 1 99_999 t ≡ true → value_at body (first_place t body) ≡ first_field t body
  pub first_inside : (t : ℕ) (body : Bytes) → Inside body (first_place t body)
  pub first_handed : (t : ℕ) (body : Bytes) → within 1 99_999 t ≡ true → first_place t body ≡ place_among t (items_of 0 (parts body))
  -- "A tag is 1 to 5 digits without leading zero": any other number is no field's tag
  pub first_none : (t : ℕ) (body : Bytes) → within 1 99_999 t ≡ false → first_place t body ≡ None
  -- "Field reader and verdict answer refusal 10 for bytes that aren't 5 to 2,048 long, beginning `35=` and ending with `|`.": there, and only there
  pub refusal_10 : (body : Bytes) (at : ℕ) → (numbers (field_at body at)).0 ≡ cond (is_body body) none (some 10)
