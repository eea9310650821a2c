-- What the walk remembers, and what its functions answer. Only the code's walk needs these: nothing here states document 01.
use Rattle.std.specs.Prelude.{ℕ, ◌+◌, ◌≤◌, ◌≡◌, ◌⊎◌, List, [], ◌∷◌, ◌++◌, Bool, true, false, not, eqb, length, Option, Some, None}
use Rattle.octets.specs.Bytes.{Bytes, any, has, value}
use Rattle.fields.specs.Field.{Part, field, malformed}
use Rattle.fields.specs.declared.Item.{Item}
use Rattle.fields.specs.declared.Item.TheVariants.{Field, Malformed, End, NoBody}
use Rattle.kinds.specs.Kind.{is_number}
use Rattle.table.specs.Dictionary.{Row, Group, №453, №580, header, fields, listed, groups_of, rows_of}
use Rattle.table.specs.code.Held.{tags, tag_at, index, Three, Marked}
use Rattle.dictionary.specs.Verdict.{Says, Nothing, reason◌tag◌, Verdict, Clean, Open, Past, first_of, first_member, missing, incomplete, closing, closing_all, ends, left, rule1, rule4, rule5, rule6, rule7, rule8, rule9, rule10, said, opened, after, verdict_by, walk}
use Rattle.table.specs.declared.MsgType.{MsgType}
use Rattle.dictionary.specs.declared.groups.OpenGroup.{OpenGroup}
use Rattle.dictionary.specs.declared.groups.Inside.{Inside}
use Rattle.dictionary.specs.declared.groups.State.{State}
use Rattle.table.specs.declared.known.Known.{Known}

-- WHAT THE WALK REMEMBERS. An open group, and the code's
pub record InGroup (g : Open) (met : List Bool) (c : OpenGroup) : Type 0 where
  pub three : Three g.group
  pub counter : c.counter ≡ g.group.counter
  pub count : c.count ≡ g.count
  pub begun : c.begun ≡ g.begun
  pub last : eqb g.begun 0 ≡ false → Marked met g.last

-- THE TWO WALKS. The Trade Capture Report's has groups in groups, ..
abbrev pub is_report : MsgType → Bool
is_report m = eqb (index m) 9

-- .. the other types have groups none of whose members is the count of another
abbrev pub Flat : Group → Type 0
Flat g = (g ≡ №453) ⊎ (g ≡ №580)

abbrev pub AllFlat : List Open → Type 0
AllFlat [] = Unit {0}
AllFlat (g ∷ gs) = Flat g.group × AllFlat gs

-- no group is open, or one: the code's state has room for no more
pub data Stood : List Open → List Bool → Option OpenGroup → Type 0 where
  away : {met : List Bool} {o : Option OpenGroup} → o ≡ None → Stood [] met o
  within : {g : Open} {met : List Bool} {o : Option OpenGroup} {c : OpenGroup} → o ≡ Some c → InGroup g met c → Stood (g ∷ []) met o

-- a tag stands in the open group, and is its first member or not; or it is no member of it
abbrev pub StandsIn : Option OpenGroup → ℕ → Option Inside → Type 0
StandsIn o t None = (c : OpenGroup) → o ≡ Some c → (g : Group) → Three g → c.counter ≡ g.counter → listed g.members t ≡ false
StandsIn o t (Some x) =
    (o ≡ Some x.group) × ((g : Group) → Three g → x.group.counter ≡ g.counter → (listed g.members t ≡ true) × (first_member g.members t ≡ x.first))

-- no more than n instances of it have begun
abbrev pub Few : Option OpenGroup → ℕ → Type 0
Few None n = Unit {0}
Few (Some c) n = c.begun ≤ n

-- a tag outside the header was met
abbrev pub past_header : List ℕ → Bool
past_header seen = any (λ s. not (listed header s)) seen

pub record Stands (w : Past) (seen met : List Bool) (st : State) : Type 0 where
  pub marked : Marked seen w.seen
  pub over : st.over ≡ past_header w.seen
  pub stood : Stood w.inside met st.group

-- a part is a member of no group
abbrev pub NoMember : Part → Type 0
NoMember p = (g : Group) → Three g → ends g.members p ≡ true

-- WHAT THE CODE'S FUNCTIONS ANSWER, for whatever past their state stands for.
pub record Missing (marks : List Bool) (rows : List Row) (r : Says) : Type 0 where
  pub is : (met : List ℕ) → Marked marks met → r ≡ missing rows met

-- the finding on the first tag that is missing
abbrev pub missing_at : Option Known → Says
missing_at None = Nothing
missing_at (Some k) = reason 1 tag tag_at k.place

pub record Incomplete (met : List Bool) (c : OpenGroup) (r : Says) : Type 0 where
  pub is : (g : Open) → InGroup g met c → r ≡ incomplete g

pub record Closing (met : List Bool) (c : OpenGroup) (r : Says) : Type 0 where
  pub is : (g : Open) → InGroup g met c → r ≡ closing g

pub record ClosingAll (met : List Bool) (o : Option OpenGroup) (r : Says) : Type 0 where
  pub is : (gs : List Open) → Stood gs met o → r ≡ closing_all gs

pub record Rule1 (met : List Bool) (o : Option OpenGroup) (t : ℕ) (r : Says) : Type 0 where
  pub is : (gs : List Open) (v : Bytes) → Stood gs met o → r ≡ rule1 gs (field t v)

pub record Rule4 (t : ℕ) (empty : Bool) (r : Says) : Type 0 where
  pub is : (v : Bytes) → empty ≡ eqb (length v) 0 → r ≡ rule4 t v

pub record Rule5 (m : MsgType) (t : ℕ) (mark : Bool) (r : Says) : Type 0 where
  pub is : (seen : List ℕ) → mark ≡ has seen t → r ≡ rule5 m seen t

pub record Rule7 (t : ℕ) (over : Bool) (r : Says) : Type 0 where
  pub is : (seen : List ℕ) → over ≡ past_header seen → r ≡ rule7 seen t

pub record Rule8 (m : MsgType) (met : List Bool) (o : Option OpenGroup) (t : ℕ) (r : Says) : Type 0 where
  pub is : (gs : List Open) (v : Bytes) → Stood gs met o → r ≡ rule8 m (left gs (field t v)) t

pub record Rules9and10 (m : MsgType) (t : ℕ) (v : Bytes) (r : Says) : Type 0 where
  pub is : listed (rows_of m) t ≡ true → r ≡ first_of (rule9 m t v ∷ rule10 m t v ∷ [])

-- what is said of a part
pub record OfMalformed (met : List Bool) (o : Option OpenGroup) (r : Says) : Type 0 where
  pub is : (m : MsgType) (w : Past) → Stood w.inside met o → r ≡ said m w malformed

pub record OfUnknown (m : MsgType) (met : List Bool) (o : Option OpenGroup) (t : ℕ) (r : Says) : Type 0 where
  pub is : (w : Past) (v : Bytes) → Stood w.inside met o → has tags t ≡ false → r ≡ said m w (field t v)

-- a usual field, and what is said of a tag of the dictionary where it stands, its value empty or not: rules 1 and 4 to 8
pub record Usual (m : MsgType) (st : State) (t : ℕ) (again empty : Bool) : Type 0 where
  pub some : empty ≡ false
  pub away : st.group ≡ None
  pub own : listed (header ++ fields m) t ≡ true
  pub new : again ≡ false
  pub timely : st.over ≡ true → listed header t ≡ false

abbrev pub rules_of_tag : MsgType → Past → ℕ → Bytes → List Says
rules_of_tag m w t v =
    rule1 w.inside (field t v) ∷ rule4 t v ∷ rule5 m w.seen t ∷ rule6 m t ∷ rule7 w.seen t ∷ rule8 m (left w.inside (field t v)) t ∷ []

unfoldable pub said_of_tag : MsgType → Past → ℕ → Bytes → Says
said_of_tag m w t v = first_of (rules_of_tag m w t v)

pub record OfTag (m : MsgType) (seen met : List Bool) (st : State) (t : ℕ) (empty : Bool) (r : Says) : Type 0 where
  pub is : (w : Past) (v : Bytes) → Stands w seen met st → empty ≡ eqb (length v) 0 → r ≡ said_of_tag m w t v

pub record OfKnown (m : MsgType) (seen met : List Bool) (st : State) (t : ℕ) (v : Bytes) (r : Says) : Type 0 where
  pub is : (w : Past) → Stands w seen met st → r ≡ said m w (field t v)

-- the state behind a field: outside groups, where a count field opens its group, ..
pub record Over (over : Bool) (t : ℕ) (r : Bool) : Type 0 where
  pub is : (seen : List ℕ) → over ≡ past_header seen → r ≡ past_header (t ∷ seen)

pub record Counted (v : Bytes) (r : ℕ) : Type 0 where
  pub is : is_number v ≡ true → value v ≤ 999_999_999 → r ≡ value v

-- nothing is said of the value's form, nor of the value
abbrev pub RightValue : MsgType → ℕ → Bytes → Type 0
RightValue m t v = (rule9 m t v ≡ Nothing) × (rule10 m t v ≡ Nothing)

pub record Opened (t : ℕ) (v : Bytes) (r : Option OpenGroup) : Type 0 where
  pub opens : (m : MsgType) (met : List Bool) → listed (rows_of m) t ≡ true → RightValue m t v → Stood (opened (groups_of m) t v) met r
  pub none : Few r 0

-- .. and a first member
abbrev pub begun_of : OpenGroup → OpenGroup
begun_of c = record c { begun = c.begun + 1 }

-- and any of the dictionary, with the marks
pub record Remembered (seen met : List Bool) (st : State) (t : ℕ) (v : Bytes) (seen2 met2 : List Bool) (r : State) : Type 0 where
  pub is : (m : MsgType) (w : Past) → Stands w seen met st → AllFlat w.inside → said m w (field t v) ≡ Nothing → Stands (after m w (field t v)) seen2 met2 r
  pub few : (n : ℕ) → Few st.group n → Few r.group (n + 1)
  pub seen_long : length seen2 ≡ 128
  pub met_long : length met2 ≡ 128

-- THE WALK. The end of the body, ..
pub record Finished (m : MsgType) (seen met : List Bool) (o : Option OpenGroup) (r : Says) : Type 0 where
  pub is : (w : Past) → Marked seen w.seen → Stood w.inside met o → verdict_by r Clean ≡ walk m w []

-- .. and what is no field: a malformed part, or that end
abbrev pub EndedBy : MsgType → Past → Item → Verdict → Type 0
EndedBy m w (Field t s e n) r = Unit {0}
EndedBy m w (Malformed s e n) r = r ≡ verdict_by (said m w malformed) Clean
EndedBy m w End r = r ≡ walk m w []
EndedBy m w NoBody r = Unit {0}

pub record Ended (m : MsgType) (seen met : List Bool) (o : Option OpenGroup) (item : Item) (r : Verdict) : Type 0 where
  pub is : (w : Past) → Marked seen w.seen → Stood w.inside met o → EndedBy m w item r
