-- How the code holds the writer's tags and values, and what it puts for them. Only the code needs these: nothing here states document 01.
use Rattle.std.specs.Prelude.{ℕ, ◌/◌, ◌%◌, ◌^◌, ◌≤◌, ◌<◌, ◌≡◌, List, ◌++◌, map, Bool, true, false, cond, eqb, leb, get_or}
use Rattle.std.specs.Prelude as Given
use Rattle.std.specs.Prelude.{Some, None}
use Rattle.octets.specs.Bytes.{Bytes}
use Rattle.kinds.specs.Kind as Kinds
use Rattle.kinds.specs.Kind.{Kind, text, number◌to◌, Y/N, time, day, among}
use Rattle.kinds.specs.Judged.{meaning}
use Rattle.table.specs.declared.MsgType.{MsgType}
use Rattle.table.specs.declared.MsgType.TheVariants.{Heartbeat, ResendRequest, Reject, SequenceReset, Logout, Logon}
use Rattle.table.specs.Dictionary.{Row, header, fields, rows_of, listed, kind_in}
use Rattle.message.specs.Message.{Value, absent, bytes, ◌is◌, field, row, valued, message}
use Rattle.writer.specs.Tags.{tags, is_numeric}
use Rattle.writer.specs.Call.{refused8}
use Rattle.message.specs.Message.{part}
use Rattle.message.specs.Unfit.{required, unfit}
use Rattle.message.specs.code.Writable.{unwritten}
use Rattle.message.specs.Wrote.{Wrote}
use Rattle.writer.specs.declared.Given.{Given}
use Rattle.writer.specs.declared.types.Marks.{Marks}
use Rattle.writer.specs.declared.types.Entry.{Entry}

-- THE TABLES, at the places of the tags: a bit for each tag that a message has, and for each that it must have
unfoldable pub bit_of : ℕ → ℕ → Bool
bit_of marks k = eqb (marks / (2 ^ k) % 2) 1

abbrev pub tag_at : ℕ → ℕ
tag_at k = get_or tags k 0

pub record Marked (m : MsgType) (r : Marks) : Type 0 where
  pub own : (k : ℕ) → k < 21 → bit_of r.own k ≡ listed (rows_of m) (tag_at k)
  pub needed : (k : ℕ) → k < 21 → bit_of r.needed k ≡ required m (tag_at k)

-- the rows of the seven, in which each tag has one kind (a Test Request has no tag that a Heartbeat has not)
unfoldable pub seven_rows : List Row
seven_rows = header ++ fields Heartbeat ++ fields ResendRequest ++ fields Reject ++ fields SequenceReset ++ fields Logout ++ fields Logon

-- ONE VALUE of a call, with what its message says of the tag
pub record Holds (m : MsgType) (e : Entry) : Type 0 where
  pub own : e.own ≡ listed (rows_of m) e.tag
  pub needed : e.needed ≡ required m e.tag
  pub kind : listed (rows_of m) e.tag ≡ true → meaning e.kind ≡ kind_in (rows_of m) e.tag

abbrev pub value_by : Kind → Bytes → Given.Option Given → Value
value_by k s None = absent
value_by k s (Some g) = cond (is_numeric k) (Value.number g.a) (bytes (part s g.a g.b))

abbrev pub value_of : Entry → Bytes → Value
value_of e s = value_by (meaning e.kind) s e.value

-- a kind of which no number is above 999,999,999
abbrev pub nine_digits : Kind → Bool
nine_digits (text n) = true
nine_digits (number a to b) = leb b 999_999_999
nine_digits Y/N = true
nine_digits time = true
nine_digits day = true
nine_digits Kinds.decimal = true
nine_digits (among l) = true

-- what is put for a value: its field, or nothing but the answer that it is unfit
abbrev pub PutText : Kind → ℕ → Bytes → Bytes → Bytes → ℕ → Given.Option ℕ → Type 0
PutText k t v d d' at (Some end) = (unwritten k v ≡ false) × Wrote d d' at end (field (t is bytes v))
PutText k t v d d' at None = unwritten k v ≡ true

abbrev pub PutOne : MsgType → ℕ → Value → Bytes → Bytes → ℕ → Given.Option ℕ → Type 0
PutOne m t v d d' at (Some end) = (unfit m (t is v) ≡ false) × Wrote d d' at end (field (t is v))
PutOne m t v d d' at None = unfit m (t is v) ≡ true

-- and for all values of a call
abbrev pub PutAll : MsgType → (ℕ → Value) → Bytes → Bytes → ℕ → Given.Option ℕ → Type 0
PutAll m vs d d' at (Some end) = (refused8 m vs ≡ false) × Wrote d d' at end (row (valued vs tags))
PutAll m vs d d' at None = refused8 m vs ≡ true

-- and for the whole body, 35 before them
abbrev pub PutBody : MsgType → (ℕ → Value) → Bytes → Bytes → Given.Option ℕ → Type 0
PutBody m vs d d' (Some end) = (refused8 m vs ≡ false) × (end ≤ 502) × Wrote d d' 0 end (row (message m vs))
PutBody m vs d d' None = refused8 m vs ≡ true
