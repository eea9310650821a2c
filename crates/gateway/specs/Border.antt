-- The C border of reading, judging and the line buffer: for each call the relation between what it is given and all that it answers and leaves.
use Rattle.std.specs.Prelude.{ℕ, ◌+◌, ◌≡◌, List, [], ◌∷◌, cond, length}
use Rattle.std.proofs.Math.Option.{Option, some}
use Rattle.octets.specs.Bytes.{Bytes}
use Rattle.frame.specs.Frame.{fixt, front, Good}
use Rattle.frame.specs.Reading.{Answer, frame, refusal, Reads}
use Rattle.line.specs.Line.{line, put, dropped}
use Rattle.fields.specs.Field.{is_body}
use Rattle.fields.specs.Item.{field_at}
use Rattle.fields.specs.Item as Item
use Rattle.fields.specs.First.{first_place, place_numbers}
use Rattle.fields.specs.declared.Item.{Item}
use Rattle.fields.specs.declared.Item.TheVariants.{Field, Malformed, End, NoBody}
use Rattle.dictionary.specs.Verdict.{verdict}
use Rattle.dictionary.specs.Verdict as Verdict
use Rattle.readback.specs.Back.{read_back, words_by}
use Rattle.readback.specs.Back as ReadBack
use Rattle.border.specs.Numbers.{refusal_of, in_words, any_of}

-- fixgw_version: 2.3.0
abbrev pub version : ℕ
version = 20_300

-- fixgw_read: the bytes skipped and the frame's length, or the bytes to drop
abbrev pub read_number : Answer → ℕ
read_number (frame skip len) = 0
read_number (refusal number drop) = number

abbrev pub read_words : Answer → List ℕ
read_words (frame skip len) = skip ∷ len ∷ []
read_words (refusal number drop) = drop ∷ 0 ∷ []

pub record ReadOut (bytes : Bytes) (r : ℕ) (out : List ℕ) : Type 0 where
  pub answer : Answer
  pub reads : Reads fixt bytes answer
  pub number : r ≡ read_number answer
  pub words : out ≡ read_words answer

-- fixgw_put and fixgw_drop: the count, and every byte of the buffer
abbrev pub PutOut : Bytes → ℕ → Bytes → ℕ → Bytes → Type 0
PutOut buf held piece r buf' = line buf' (held + r) ≡ put (line buf held) piece

abbrev pub DropOut : Bytes → ℕ → ℕ → ℕ → Bytes → Type 0
DropOut buf held n r buf' = line buf' r ≡ dropped (line buf held) n

-- fixgw_body: where the body of exactly one good frame begins, behind mark, length and `|`, and how long it is; refusal 10
pub data BodyOut (f : Bytes) : ℕ → List ℕ → Type 0 where
  its_body : (G : Good fixt f) → BodyOut f 0 (length (front fixt G.digits []) ∷ length G.body ∷ [])
  no_frame : (Good fixt f → ⊥) → BodyOut f 10 (0 ∷ 0 ∷ [])

-- fixgw_field: what stands at a place (0 a field, 1 a malformed part, 2 the end), its tag, where its value begins and ends, where the next part begins
abbrev pub part : Item → ℕ
part (Field tag start end next) = 0
part (Malformed start end next) = 1
part End = 2
part NoBody = 0

pub record FieldOut (body : Bytes) (at r : ℕ) (out : List ℕ) : Type 0 where
  pub number : r ≡ refusal_of (Item.numbers (field_at body at))
  pub words : out ≡ part (field_at body at) ∷ in_words 4 (Item.numbers (field_at body at))

-- fixgw_first_field: whether it is there, where its value begins and ends; refusal 10 for bytes that are no body
abbrev pub first_in : Bytes → ℕ → Option ℕ × List ℕ
first_in body tag = cond (is_body body) (place_numbers (first_place tag body)) (some 10, [])

pub record FirstOut (body : Bytes) (tag r : ℕ) (out : List ℕ) : Type 0 where
  pub number : r ≡ refusal_of (first_in body tag)
  pub words : out ≡ any_of (first_in body tag) ∷ in_words 2 (first_in body tag)

-- fixgw_verdict: whether something was found, the reason and the tag
pub record VerdictOut (body : Bytes) (r : ℕ) (out : List ℕ) : Type 0 where
  pub number : r ≡ refusal_of (Verdict.numbers (verdict body))
  pub words : out ≡ any_of (Verdict.numbers (verdict body)) ∷ in_words 2 (Verdict.numbers (verdict body))

-- fixgw_report_values: whether something was found, the reason and the tag; and every word of the values
pub record ReportValuesOut (body : Bytes) (r : ℕ) (values out : List ℕ) : Type 0 where
  pub number : r ≡ refusal_of (ReadBack.numbers (read_back body))
  pub values_are : values ≡ words_by (read_back body) body
  pub words : out ≡ any_of (ReadBack.numbers (read_back body)) ∷ in_words 2 (ReadBack.numbers (read_back body))
