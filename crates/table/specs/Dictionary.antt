-- "The dictionary is one fixed table of tags with their kinds and messages. Y required, N optional." Document 02 adds the Trade Capture Report (AE).
use Rattle.std.specs.Prelude.{ℕ, List, [], ◌∷◌, ◌++◌, Bool, true, false, cond, not, ◌||◌, eqb}
use Prim.Native.String.{String}
use Rattle.std.specs.Prelude as std
use Rattle.std.specs.Prelude.{Some, None}
use Rattle.std.proofs.Math.Option.{Option, none, some}
use Rattle.octets.specs.Bytes.{Bytes, byte, fix, any, has, same}
use Rattle.fields.specs.Field.{cut}
use Rattle.kinds.specs.Kind.{Kind, text, number◌to◌, among, kind_of}
use Rattle.table.specs.declared.MsgType.{MsgType}
use Rattle.table.specs.declared.MsgType.TheVariants.{Heartbeat, TestRequest, ResendRequest, Reject, SequenceReset, Logout, Logon, OrderCancelRequest, TradeCaptureReportRequest, TradeCaptureReport}

pub record Row : Type 0 where
  pub tag : ℕ
  pub kind : Kind
  pub required : Bool

pub record Group : Type 0 where
  pub counter : ℕ  -- the tag of its count field
  pub most : ℕ  -- 1 to this many times
  pub members : List Row

-- How a field of the lists below is written: `35 Y`, `98 of "0" Y` for the document's 98 {0} Y, `108 from 1 to 60 Y`, `group №453 N`.
infix 80 ◌Y
infix 80 ◌N
infix 80 ◌of◌Y
infix 80 ◌of◌N
infix 80 ◌from◌to◌Y
infix 80 group◌Y
infix 80 group◌N
abbrev pub row : ℕ → Kind → Bool → Row
row t k r = record { tag = t; kind = k; required = r }

abbrev pub ◌Y : ℕ → Row
◌Y t = row t (kind_of t) true

abbrev pub ◌N : ℕ → Row
◌N t = row t (kind_of t) false

abbrev pub ◌of◌Y : ℕ → String → Row
◌of◌Y t list = row t (among (cut (byte ",") (fix list))) true

abbrev pub ◌of◌N : ℕ → String → Row
◌of◌N t list = row t (among (cut (byte ",") (fix list))) false

abbrev pub ◌from◌to◌Y : ℕ → ℕ → ℕ → Row
◌from◌to◌Y t a b = row t (number a to b) true

abbrev pub group◌Y : Group → Row
group◌Y g = row g.counter (number 1 to g.most) true

abbrev pub group◌N : Group → Row
group◌N g = row g.counter (number 1 to g.most) false

-- "Group 453, 1 to 8 times: 448 Y, 447 {D} Y, 452 {1, 3, 12, 17, 76} Y. Group 580, once or twice: 75 Y, 60 N." (They stand first, since the
-- lines of F, AD and AE name them.)
unfoldable pub №453 : Group
№453 = record { counter = 453; most = 8; members = 448 Y ∷ 447 of "D" Y ∷ 452 of "1,3,12,17,76" Y ∷ [] }

unfoldable pub №580 : Group
№580 = record { counter = 580; most = 2; members = 75 Y ∷ 60 N ∷ [] }

-- "group 552, exactly once, of 54 and, both optional, 1427 and group 453": a group in a group is a member row that is the count of one
unfoldable pub №552 : Group
№552 = record { counter = 552; most = 1; members = 54 of "1,2" Y ∷ 1427 N ∷ group №453 N ∷ [] }

abbrev pub groups : List Group
groups = №453 ∷ №580 ∷ №552 ∷ []

-- "Header: 35 Y, 49 Y, 56 Y, 34 Y, 52 Y, 43 N, 97 N, 122 N, 1128 {9} N."
unfoldable pub header : List Row
header = 35 Y ∷ 49 Y ∷ 56 Y ∷ 34 Y ∷ 52 Y ∷ 43 N ∷ 97 N ∷ 122 N ∷ 1128 of "9" N ∷ []

-- The nine message types, in the document's order; document 02: "Demands 2 and 3 read as before with AE as a tenth type, walked as AD and F are". A Reject's 372
-- may name any of them.
abbrev pub the_ten : List MsgType
the_ten =
    Heartbeat ∷ TestRequest ∷ ResendRequest ∷ Reject ∷ SequenceReset ∷ Logout ∷ Logon ∷ OrderCancelRequest ∷ TradeCaptureReportRequest ∷ TradeCaptureReport ∷ []

-- What stands behind `35=`
unfoldable pub code35 : MsgType → Bytes
code35 Heartbeat = fix "0"
code35 TestRequest = fix "1"
code35 ResendRequest = fix "2"
code35 Reject = fix "3"
code35 SequenceReset = fix "4"
code35 Logout = fix "5"
code35 Logon = fix "A"
code35 OrderCancelRequest = fix "F"
code35 TradeCaptureReportRequest = fix "AD"
code35 TradeCaptureReport = fix "AE"

-- "0: 112 N. 1: 112 Y. 2: 7 Y, 16 Y. 3: 45 Y, 371 N, 372 N, 373 N, 58 N. 4: 36 Y, 123 N. 5: 1409 N, 58 N. A: 98 {0} Y, 108 (1 to 60) Y, 1137 {9} Y, 141 N.
-- F: 11 Y, 41 Y, 54 {1, 2} Y, 48 Y, 22 {8} Y, 60 Y, 453 group N. AD: 568 Y, 569 {0} Y, 263 {0} N, 828 {0, 54} N, 453 group N, 22 {8} Y, 48 Y, 580 group Y,
-- 58 N, 1041 N."; document 02, of AE: "The fields are 571, 828 {0, 54, 99}, 60, 32, 31, 64 optional, 574 {2, 4, 7, 22}, 48, 22 {8}, and group 552"
unfoldable pub fields : MsgType → List Row
fields Heartbeat = 112 N ∷ []
fields TestRequest = 112 Y ∷ []
fields ResendRequest = 7 Y ∷ 16 Y ∷ []
fields Reject = 45 Y ∷ 371 N ∷ 372 N ∷ 373 N ∷ 58 N ∷ []
fields SequenceReset = 36 Y ∷ 123 N ∷ []
fields Logout = 1409 N ∷ 58 N ∷ []
fields Logon = 98 of "0" Y ∷ 108 from 1 to 60 Y ∷ 1137 of "9" Y ∷ 141 N ∷ []
fields OrderCancelRequest = 11 Y ∷ 41 Y ∷ 54 of "1,2" Y ∷ 48 Y ∷ 22 of "8" Y ∷ 60 Y ∷ group №453 N ∷ []
fields TradeCaptureReportRequest =
    568 Y ∷ 569 of "0" Y ∷ 263 of "0" N ∷ 828 of "0,54" N ∷ group №453 N ∷ 22 of "8" Y ∷ 48 Y ∷ group №580 Y ∷ 58 N ∷ 1041 N ∷ []
fields TradeCaptureReport =
    571 Y ∷ 828 of "0,54,99" Y ∷ 60 Y ∷ 32 Y ∷ 31 Y ∷ 64 N ∷ 574 of "2,4,7,22" Y ∷ 48 Y ∷ 22 of "8" Y ∷ group №552 Y ∷ []

-- "MsgType outside the nine", which are ten now: the one of them that a value of 35 names, if it does
abbrev pub type_among : List MsgType → Bytes → Option MsgType
type_among [] v = none
type_among (m ∷ ms) v = cond (same v (code35 m)) (some m) (type_among ms v)

unfoldable pub type_of : Bytes → Option MsgType
type_of v = type_among the_ten v

-- the code's answer for it, and what such an answer stands for
abbrev pub named : Option MsgType → std.Option MsgType
named (some m) = Some m
named none = None

abbrev pub type_is : std.Option MsgType → Option MsgType
type_is (Some m) = some m
type_is None = none

-- AD and F are application messages, and AE is "walked as AD and F are"; the others are administrative
unfoldable pub administrative : MsgType → Bool
administrative m = not (same (code35 m) (fix "AD") || same (code35 m) (fix "F") || same (code35 m) (fix "AE"))

-- What the lines say of a tag.
abbrev pub listed : List Row → ℕ → Bool
listed rows t = any (λ r. eqb r.tag t) rows

abbrev pub kind_in : List Row → ℕ → Kind
kind_in [] t = text 32
kind_in (r ∷ rs) t = cond (eqb r.tag t) r.kind (kind_in rs t)

-- the groups whose count field some rows list
abbrev pub groups_among : List Group → List Row → List Group
groups_among [] rows = []
groups_among (g ∷ gs) rows = cond (listed rows g.counter) (g ∷ groups_among gs rows) (groups_among gs rows)

abbrev pub all_members : List Group → List Row
all_members [] = []
all_members (g ∷ gs) = g.members ++ all_members gs

-- "A group may hold groups, which hold fields again, down to three levels": the groups of a message are those whose count field it lists, or one of
-- its groups does, three levels down
abbrev pub deeper : List Row → List Group → List Group
deeper rows gs = groups_among groups (rows ++ all_members gs)

unfoldable pub groups_of : MsgType → List Group
groups_of m = deeper (fields m) (deeper (fields m) (deeper (fields m) []))

-- t is a member of a group of the message
unfoldable pub member : MsgType → ℕ → Bool
member m t = listed (all_members (groups_of m)) t

-- all that a message may hold
unfoldable pub rows_of : MsgType → List Row
rows_of m = header ++ fields m ++ all_members (groups_of m)

-- "(8, 9, 10 count as in it)"
abbrev pub frame_tag : ℕ → Bool
frame_tag t = has (8 ∷ 9 ∷ 10 ∷ []) t

unfoldable pub in_dictionary : ℕ → Bool
in_dictionary t = frame_tag t || any (λ m. listed (rows_of m) t) the_ten
