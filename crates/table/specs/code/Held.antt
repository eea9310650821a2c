-- How the code holds the dictionary. Only the code needs these: nothing here states document 01.
use Rattle.std.specs.Prelude.{ℕ, ◌/◌, ◌%◌, ◌^◌, ◌+◌, ◌-◌, ◌*◌, ◌<◌, ◌≤◌, ◌≡◌, ◌⊎◌, List, [], ◌∷◌, ◌++◌, map, Bool, true, false, cond, not, ◌&&◌, ◌||◌, eqb, leb, ltb, length, take, drop, get_or}
use Rattle.std.specs.Prelude as std
use Rattle.std.specs.Prelude.{Some, None}
use Rattle.std.proofs.Math.Option.{Option, none, some}
use Rattle.octets.specs.Bytes.{Bytes, any, all, has, same}
use Rattle.kinds.specs.Kind.{Kind, text, number◌to◌, Y/N, time, day, decimal, among}
use Rattle.kinds.specs.Judged.{meaning}
use Rattle.kinds.specs.declared.Kind as Code
use Rattle.kinds.specs.declared.Kind.TheVariants.{Flag, OneOf}
use Rattle.kinds.specs.declared.Choice.{Choice}
use Rattle.kinds.specs.declared.Choice.TheVariants.{ZeroOr54, ZeroOr54Or99}
use Rattle.table.specs.Dictionary.{Row, Group, groups, №453, №580, №552, the_ten, header, fields, listed, kind_in, member, rows_of, frame_tag}
use Rattle.table.specs.declared.MsgType.{MsgType}
use Rattle.table.specs.declared.MsgType.TheVariants.{Heartbeat, TestRequest, ResendRequest, Reject, SequenceReset, Logout, Logon, OrderCancelRequest, TradeCaptureReportRequest, TradeCaptureReport}
use Rattle.table.specs.declared.lines.Entry.{Entry}
use Rattle.table.specs.declared.lines.Member.{Member}
use Rattle.table.specs.declared.rows.Listed.{Listed}
use Rattle.table.specs.declared.lines.TheConstants.{TABLE}

-- THE TABLE. All rows of the documents' lists, those of document 02 last, ..
unfoldable pub all_rows : List Row
all_rows =
    header ++
    fields Heartbeat ++
    fields TestRequest ++
    fields ResendRequest ++
    fields Reject ++
    fields SequenceReset ++
    fields Logout ++
    fields Logon ++
    fields OrderCancelRequest ++
    fields TradeCaptureReportRequest ++
    №453.members ++
    №580.members ++
    fields TradeCaptureReport ++
    №552.members

-- .. and the dictionary's tags, those of the frame first and then as the rows have them, each once: the place of a tag here is the place of its
-- entry and of its mark.
abbrev pub once : List ℕ → List ℕ → List ℕ
once met [] = met
once met (t ∷ ts) = once (cond (has met t) met (met ++ t ∷ [])) ts

unfoldable pub tags : List ℕ
tags = once (8 ∷ 9 ∷ 10 ∷ []) (map (λ (r : Row). r.tag) all_rows)

-- how many there are
abbrev pub tag_count : ℕ
tag_count = 51

abbrev pub tag_at : ℕ → ℕ
tag_at p = get_or tags p 0

-- the bit of a message in an entry's marks
abbrev pub index : MsgType → ℕ
index Heartbeat = 0
index TestRequest = 1
index ResendRequest = 2
index Reject = 3
index SequenceReset = 4
index Logout = 5
index Logon = 6
index OrderCancelRequest = 7
index TradeCaptureReportRequest = 8
index TradeCaptureReport = 9

unfoldable pub bit_of : ℕ → ℕ → Bool
bit_of marks k = eqb (marks / (2 ^ k) % 2) 1

-- a kind written as bytes, so that two kinds can be compared
abbrev pub written : Kind → List Bytes
written (text n) = (0 ∷ n ∷ []) ∷ []
written (number a to b) = (1 ∷ a ∷ b ∷ []) ∷ []
written Y/N = (2 ∷ []) ∷ []
written time = (3 ∷ []) ∷ []
written day = (4 ∷ []) ∷ []
written decimal = (6 ∷ []) ∷ []
written (among l) = (5 ∷ []) ∷ l

-- a number up to 999,999,999 at most, as every count is
abbrev pub is_numeric : Kind → Bool
is_numeric (text n) = false
is_numeric (number a to b) = leb b 999_999_999
is_numeric Y/N = false
is_numeric time = false
is_numeric day = false
is_numeric decimal = false
is_numeric (among l) = false

abbrev pub same_all : List Bytes → List Bytes → Bool
same_all [] [] = true
same_all [] (w ∷ l) = false
same_all (u ∷ k) [] = false
same_all (u ∷ k) (w ∷ l) = same u w && same_all k l

abbrev pub agree : Bool → Bool → Bool
agree true b = b
agree false b = not b

-- The list of a tag in a message, 828's having one value more in a Trade Capture Report, and the kind of an entry's values there.
abbrev pub choice_in : MsgType → Choice → Choice
choice_in TradeCaptureReport ZeroOr54 = ZeroOr54Or99
choice_in _ c = c

abbrev pub kind_for : MsgType → Code.Kind → Code.Kind
kind_for m (OneOf c) = OneOf (choice_in m c)
kind_for m k = k

-- What an entry says of a group: whether its tag is a member, and whether it is the first.
abbrev pub in_group : Group → std.Option Member → Bool
in_group g None = false
in_group g (Some x) = eqb g.counter x.group

abbrev pub first_in : Group → std.Option Member → Bool
first_in g None = false
first_in g (Some x) = eqb g.counter x.group && x.first

-- An entry says of its tag what the document's lists say: in each message, ..
unfoldable pub right_in : Entry → MsgType → Bool
right_in e m =
    agree (bit_of e.marks (index m)) (listed (header ++ fields m) e.tag)
    && (agree (bit_of e.marks (10 + index m)) (member m e.tag)
    && ((not (listed (rows_of m) e.tag) || same_all (written (meaning (kind_for m e.kind))) (written (kind_in (rows_of m) e.tag)))
    && (not (bit_of e.marks 30) || is_numeric (meaning (kind_for m e.kind)))))

-- .. of each group, which its first member leads, ..
abbrev pub leads : List Row → ℕ → Bool
leads [] t = false
leads (r ∷ rs) t = eqb r.tag t

unfoldable pub right_of : Entry → Group → Bool
right_of e g = agree (in_group g e.member) (listed g.members e.tag) && agree (first_in g e.member) (leads g.members e.tag)

-- .. of the header, of the frame's tags and of the counts of groups.
unfoldable pub right : Entry → Bool
right e =
    all (right_in e) the_ten
    && (all (right_of e) groups
    && (agree (bit_of e.marks 28) (listed header e.tag)
    && (agree (bit_of e.marks 29) (frame_tag e.tag)
    && agree (bit_of e.marks 30) (any (λ g. eqb g.counter e.tag) groups))))

-- The entry at a place of the constant table, and the place that the constant slots hold for a tag: each tag has a slot of its own, any other slot
-- holds some place.
abbrev pub no_entry : Entry
no_entry = record { tag = 0; kind = Flag; marks = 0; member = None }

unfoldable pub entry_at : ℕ → Entry
entry_at p = get_or TABLE p no_entry

abbrev pub slot_of : ℕ → ℕ
slot_of t = t * 4673 / 64 % 128

abbrev pub slotted : List ℕ → ℕ → List ℕ → Bool
slotted l p [] = true
slotted l p (t ∷ ts) = eqb (get_or l (slot_of t) 0) p && slotted l (1 + p) ts

-- r is a place, and the only one that tag t can have
pub record OnlyPlace (t r : ℕ) : Type 0 where
  pub small : r < tag_count
  pub only : has tags t ≡ true → tag_at r ≡ t

-- one of the three groups
abbrev pub Three : Group → Type 0
Three g = (g ≡ №453) ⊎ ((g ≡ №580) ⊎ (g ≡ №552))

-- what an entry says, once the test is passed
pub record Right (e : Entry) : Type 0 where
  pub outside_in : (m : MsgType) → bit_of e.marks (index m) ≡ listed (header ++ fields m) e.tag
  pub member_in : (m : MsgType) → bit_of e.marks (10 + index m) ≡ member m e.tag
  pub kind_in_lem : (m : MsgType) → listed (rows_of m) e.tag ≡ true → meaning (kind_for m e.kind) ≡ kind_in (rows_of m) e.tag
  pub member_of : (g : Group) → Three g → in_group g e.member ≡ listed g.members e.tag
  pub first_of : (g : Group) → Three g → first_in g e.member ≡ leads g.members e.tag
  pub in_header : bit_of e.marks 28 ≡ listed header e.tag
  pub in_frame : bit_of e.marks 29 ≡ frame_tag e.tag
  pub counts : bit_of e.marks 30 ≡ any (λ g. eqb g.counter e.tag) groups
  pub counts_number : (m : MsgType) → bit_of e.marks 30 ≡ true → is_numeric (meaning (kind_for m e.kind)) ≡ true

-- the group that has a tag as a member
pub record MemberOf (t : ℕ) (r : std.Option Member) : Type 0 where
  pub member_of : (g : Group) → Three g → in_group g r ≡ listed g.members t
  pub first_of : (g : Group) → Three g → first_in g r ≡ leads g.members t

-- THE ROWS. A row of the code holds the place of a tag of the document's row, and is required where that is.
abbrev pub right_row : Listed → Row → Bool
right_row x r = agree x.required r.required && (ltb x.place tag_count && eqb (tag_at x.place) r.tag)

abbrev pub right_rows : List Listed → List Row → Bool
right_rows [] [] = true
right_rows [] (r ∷ rs) = false
right_rows (x ∷ l) [] = false
right_rows (x ∷ l) (r ∷ rs) = right_row x r && right_rows l rs

abbrev pub placed : List Listed → Bool
placed l = all (λ x. ltb x.place tag_count) l

-- the members of a group, by its count tag
abbrev pub members_of : ℕ → List Row
members_of g = cond (eqb g 453) №453.members (cond (eqb g 580) №580.members №552.members)

-- MARKS. A mark stands at the place of each tag that was met, and at no other.
pub record Marked (marks : List Bool) (met : List ℕ) : Type 0 where
  pub at : (p : ℕ) → p < tag_count → get_or marks p false ≡ has met (tag_at p)

-- WHAT IS MISSING. The first required tag of some rows that is not among the tags met.
abbrev pub unmet : List Row → List ℕ → Option ℕ
unmet [] met = none
unmet (r ∷ rs) met = cond (r.required && not (has met r.tag)) (some r.tag) (unmet rs met)
