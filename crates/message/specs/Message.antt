-- A message as a list of fields, and its bytes.
use Rattle.std.specs.Prelude.{ℕ, ◌-◌, List, [], ◌∷◌, ◌++◌, map, cond, ◌&&◌, eqb, leb, length, take, drop}
use Rattle.std.proofs.Math.Option.{Option, none, some}
use Rattle.octets.specs.Bytes.{Bytes, fix, same, decimal}
use Rattle.frame.specs.Frame.{fixt, front, trailer, sum_of}
use Rattle.table.specs.declared.MsgType.{MsgType}
use Rattle.table.specs.Dictionary.{code35, fields}

infix 68 ◌is◌
-- "numbers as numbers, others as bytes"; a value may be absent
pub data Value : Type 0 where
  absent : Value
  number : ℕ → Value
  bytes : Bytes → Value

pub data Field : Type 0 where
  ◌is◌ : ℕ → Value → Field

-- the bytes that a value is written as, if it is there
abbrev pub shown : Value → Option Bytes
shown absent = none
shown (number n) = some (decimal n)
shown (bytes v) = some v

-- "`tag=value|`"; an absent value leaves no field
abbrev pub tagged : ℕ → Option Bytes → Bytes
tagged t none = []
tagged t (some v) = decimal t ++ fix "=" ++ v ++ fix "|"

abbrev pub field : Field → Bytes
field (t is v) = tagged t (shown v)

-- "A body is a row of fields"
abbrev pub row : List Field → Bytes
row [] = []
row (f ∷ fs) = field f ++ row fs

-- the frame around a body: "the start mark; the body length ..; `|`; a body ..; then `10=`, three digits, `|`"
unfoldable pub framed : Bytes → Bytes
framed body = front fixt (decimal (length body)) body ++ trailer (sum_of fixt (decimal (length body)) body)

-- "then the message's fields as listed (type 4: 123, 36)"
unfoldable pub own : MsgType → List ℕ
own m = cond (same (code35 m) (fix "4")) (123 ∷ 36 ∷ []) (map (λ r. r.tag) (fields m))

-- "Reply order: 35, 49, 56, 34, 43, 52, 122, then the message's fields"
unfoldable pub order : MsgType → List ℕ
order m = 49 ∷ 56 ∷ 34 ∷ 43 ∷ 52 ∷ 122 ∷ own m

abbrev pub valued : (ℕ → Value) → List ℕ → List Field
valued vs ts = map (λ t. t is vs t) ts

-- the fields of a message of type m, with a value or none for each tag
abbrev pub message : MsgType → (ℕ → Value) → List Field
message m vs = 35 is bytes (code35 m) ∷ valued vs (order m)

-- its bytes
unfoldable pub written : MsgType → (ℕ → Value) → Bytes
written m vs = framed (row (message m vs))

-- values given as a list of fields in any order: the first for a tag stands
abbrev pub given : List Field → ℕ → Value
given [] t = absent
given ((u is v) ∷ fs) t = let later = given fs t in cond (eqb u t) v later

-- bytes of a text that lies beside the values, from a start to an end. A place that the text does not have holds no bytes, and "an empty value is one
-- that the dictionary would reject"
abbrev pub part : Bytes → ℕ → ℕ → Bytes
part text start end = cond (leb start end && leb end (length text)) (take (end - start) (drop start text)) []
