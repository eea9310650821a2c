-- What is promised of the verdict, in the documents' words. Proved once, in proofs/Promise.antt.
use Rattle.std.specs.Prelude.{ℕ, ◌≤◌, ◌≡◌, List, [], ◌∷◌, ◌++◌, true, false, cond, eqb, length}
use Rattle.std.proofs.Math.Option.{none, some}
use Rattle.octets.specs.Bytes.{Bytes, has}
use Rattle.fields.specs.Field.{Part, field, malformed, part_of, parts, first_field, is_body}
use Rattle.kinds.specs.Kind.{formed, allowed}
use Rattle.table.specs.Dictionary.{№552, header, fields, groups_of, member, rows_of, listed, kind_in, administrative, in_dictionary}
use Rattle.dictionary.specs.Verdict.{Verdict, Clean, found, msg_type, verdict, numbers}
use Rattle.dictionary.specs.Groups.{required, fields_among, AllGrouped}
use Rattle.table.specs.declared.MsgType.{MsgType}
use Rattle.table.specs.declared.MsgType.TheVariants.{TradeCaptureReport}

-- "bad form: 6 (numbers, Y/N, the shape of dates)", "bad value: 5 (ranges, lists, string length, calendar)": a value with neither is of its kind
pub record OfKind (m : MsgType) (t : ℕ) (v : Bytes) : Type 0 where
  pub form : formed (kind_in (rows_of m) t) v ≡ true
  pub value : allowed (kind_in (rows_of m) t) v ≡ true

-- A field that no rule spoke of. "tag not in the dictionary: skipped in an administrative message, 3 in AD and F", and in AE, "walked as AD and F
-- are"; "not for this message: 2"; "empty value: 4"; and of its kind.
pub record Passed (m : MsgType) (t : ℕ) (v : Bytes) : Type 0 where
  pub skipped : in_dictionary t ≡ false → administrative m ≡ true
  pub own : in_dictionary t ≡ true → listed (rows_of m) t ≡ true
  pub filled : in_dictionary t ≡ true → 1 ≤ length v
  pub of_kind : in_dictionary t ≡ true → OfKind m t v

-- "no `=`, or a malformed tag: 0": each part is a field, and it passed
abbrev pub PassedPart : MsgType → Part → Type 0
PassedPart m malformed = ⊥
PassedPart m (field t v) = Passed m t v

abbrev pub AllPassed : MsgType → List Bytes → Type 0
AllPassed m [] = Unit {0}
AllPassed m (p ∷ ps) = PassedPart m (part_of p) × AllPassed m ps

-- what a clean verdict says of a body
pub record CleanBody (body : Bytes) : Type 0 where
  -- "MsgType outside the nine: reason 11": it is one of them or AE, document 02's "tenth type"
  pub type : MsgType
  pub named : msg_type body ≡ some type
  -- every part is a field that passed
  pub passed : AllPassed type (parts body)
  -- so the first field of a tag of the dictionary is of its kind
  pub of_kind : (t : ℕ) (v : Bytes) → in_dictionary t ≡ true → first_field t body ≡ some v → OfKind type t v
  -- "the first missing required tag, header first, in the order above: 1": none is missing
  pub there : (t : ℕ) → required (header ++ fields type) t ≡ true → (v : Bytes) × (first_field t body ≡ some v)
  -- "a tag outside groups seen before: 13": each is there at most once
  pub once : (t : ℕ) → in_dictionary t ≡ true → member type t ≡ false → length (fields_among (eqb t) (parts body)) ≤ 1
  -- of each group of the type, at each level: whole instances, as many as its count says
  pub grouped : AllGrouped (groups_of type) (parts body)
  -- "group 552, exactly once, of 54 and, both optional, 1427 and group 453": in a report each of these tags is there at most once
  pub side : type ≡ TradeCaptureReport → (t : ℕ) → listed №552.members t ≡ true → length (fields_among (eqb t) (parts body)) ≤ 1

-- the reasons that document 01 names: 0 to 6, 11, 13 to 16 ..
abbrev pub reasons : List ℕ
reasons = 0 ∷ 1 ∷ 2 ∷ 3 ∷ 4 ∷ 5 ∷ 6 ∷ 11 ∷ 13 ∷ 14 ∷ 15 ∷ 16 ∷ []

-- .. and a tag, which has at most five digits
abbrev pub Found : ℕ → ℕ → Type 0
Found r t = (has reasons r ≡ true) × (t ≤ 99_999)

pub record Promise : Type 0 where
  pub clean : (body : Bytes) → verdict body ≡ Clean → CleanBody body
  pub finding : (body : Bytes) (r t : ℕ) → verdict body ≡ found r t → Found r t
  -- "Field reader and verdict answer refusal 10 for bytes that aren't 5 to 2,048 long, beginning `35=` and ending with `|`.": there, and only there
  pub refusal_10 : (body : Bytes) → (numbers (verdict body)).0 ≡ cond (is_body body) none (some 10)
  -- "a definition gives this paper's number and values for each case of the enum": they tell the cases apart
  pub told_apart : (r s : Verdict) → numbers r ≡ numbers s → r ≡ s
