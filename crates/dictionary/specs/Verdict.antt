-- The verdict on a body: "fields are walked from the left and the first finding stands."
use Rattle.std.specs.Prelude.{ℕ, ◌+◌, List, [], ◌∷◌, ◌++◌, Bool, true, false, cond, not, ◌&&◌, ◌||◌, eqb, length, Result, Ok, Err}
use Rattle.std.proofs.Math.Option.{Option, none, some}
use Rattle.octets.specs.Bytes.{Bytes, any, has, value}
use Rattle.fields.specs.Field.{parts, first_field, Part, field, malformed, part_of, is_body}
use Rattle.kinds.specs.Kind.{formed, allowed}
use Rattle.table.specs.Dictionary.{Row, Group, header, fields, groups_of, member, rows_of, listed, kind_in, type_of, administrative, frame_tag, in_dictionary}
use Rattle.table.specs.declared.MsgType.{MsgType}
use Rattle.dictionary.specs.declared.Finding.{Finding}
use Rattle.dictionary.specs.declared.Unclean.{Unclean}
use Rattle.dictionary.specs.declared.Unclean.TheVariants.{Found, NoBody}

-- What the walk remembers of the fields before: the tags met outside groups (128 marks in the code), and the groups that are open, the innermost
-- first. Document 02: "A group may hold groups .. count, first-member and missing-member checks apply at each level, innermost first."
pub record Open : Type 0 where
  pub group : Group
  pub count : ℕ  -- what its count field says
  pub begun : ℕ  -- the instances begun
  pub last : List ℕ  -- the members met in the last of them

pub record Past : Type 0 where
  pub seen : List ℕ
  pub inside : List Open

-- What a rule says of a field: nothing, or a reason with a tag. Of several rules the first that speaks stands.
infix 70 reason◌tag◌
infix 68 ◌when◌
abbrev pub Says : Type 0
Says = Result (Unit {0}) Finding

abbrev pub Nothing : Says
Nothing = Ok tt

abbrev pub reason◌tag◌ : ℕ → ℕ → Says
reason◌tag◌ r t = Err (record { reason = r; tag = t })

abbrev pub ◌when◌ : Says → Bool → Says
◌when◌ s true = s
◌when◌ s false = Nothing

abbrev pub first_of : List Says → Says
first_of [] = Nothing
first_of ((Ok _) ∷ l) = first_of l
first_of ((Err f) ∷ l) = Err f

-- The first required tag of some rows that is not among the tags met: reason 1.
abbrev pub missing : List Row → List ℕ → Says
missing [] met = Nothing
missing (r ∷ rs) met = cond (r.required && not (has met r.tag)) (reason 1 tag r.tag) (missing rs met)

-- "1. it ends a group (its tag is no member, or it has no `=` or a malformed tag): a required member missing from the last instance, if one began,
-- reason 1 with that tag, first in group order; then a wrong count, 16 with the count tag. The end of the body ends a group too, and a new instance
-- runs the first of these two checks on the one before"
unfoldable pub incomplete : Open → Says
incomplete g = missing g.group.members g.last when not (eqb g.begun 0)

abbrev pub miscounted : Open → Says
miscounted g = reason 16 tag g.group.counter when not (eqb g.begun g.count)

unfoldable pub closing : Open → Says
closing g = first_of (incomplete g ∷ miscounted g ∷ [])

-- document 02: "count, first-member and missing-member checks apply at each level, innermost first": of all that are open
abbrev pub closing_all : List Open → Says
closing_all [] = Nothing
closing_all (g ∷ gs) = first_of (closing g ∷ closing_all gs ∷ [])

abbrev pub ends : List Row → Part → Bool
ends members malformed = true
ends members (field t v) = not (listed members t)

-- "That first member starts each instance"
abbrev pub first_member : List Row → ℕ → Bool
first_member [] t = false
first_member (r ∷ rs) t = eqb r.tag t

abbrev pub begins : List Row → Part → Bool
begins members malformed = false
begins members (field t v) = first_member members t

unfoldable pub rule1 : List Open → Part → Says
rule1 [] p = Nothing
rule1 (g ∷ gs) p =
    cond (ends g.group.members p) (first_of (closing g ∷ rule1 gs p ∷ [])) (incomplete g when begins g.group.members p)

-- the groups that it leaves open: the innermost is one that it is a member of; rule 8 looks there
unfoldable pub left : List Open → Part → List Open
left [] p = []
left (g ∷ gs) p = cond (ends g.group.members p) (left gs p) (g ∷ gs)

-- "2. no `=`, or a malformed tag: 0, tag reported 0"
unfoldable pub rule2 : Part → Says
rule2 malformed = reason 0 tag 0
rule2 (field t v) = Nothing

-- "3. tag not in the dictionary (8, 9, 10 count as in it): skipped in an administrative message, 3 in AD and F", and in AE, "walked as AD and F are". The rules behind it say nothing of
-- a field that is skipped.
unfoldable pub skipped : MsgType → ℕ → Bool
skipped m t = administrative m && not (in_dictionary t)

unfoldable pub rule3 : MsgType → ℕ → Says
rule3 m t = reason 3 tag t when (not (administrative m) && not (in_dictionary t))

-- "4. empty value: 4"
unfoldable pub rule4 : ℕ → Bytes → Says
rule4 t v = reason 4 tag t when eqb (length v) 0

-- "5. tag 8, 9 or 10, or a tag outside groups seen before: 13"
unfoldable pub rule5 : MsgType → List ℕ → ℕ → Says
rule5 m seen t = reason 13 tag t when (frame_tag t || (not (member m t) && has seen t))

-- "6. not for this message: 2"
unfoldable pub rule6 : MsgType → ℕ → Says
rule6 m t = reason 2 tag t when not (listed (rows_of m) t)

-- "7. header tag after a non-header tag (skipped ones apart): 14"
unfoldable pub rule7 : List ℕ → ℕ → Says
rule7 seen t = reason 14 tag t when (listed header t && any (λ s. not (listed header s)) seen)

-- "8. a member outside its group, or a first instance that doesn't begin with the group's first member: 15. That first member starts each instance,
-- the others follow in any order; another member twice in one instance: 13"
unfoldable pub rule8 : MsgType → List Open → ℕ → Says
rule8 m [] t = reason 15 tag t when member m t
rule8 m (g ∷ gs) t =
    first_of (reason 15 tag t when eqb g.begun 0 ∷ reason 13 tag t when has g.last t ∷ []) when not (first_member g.group.members t)

-- "9. bad form: 6 (numbers, Y/N, the shape of dates)"; document 02, of 31 and 32: "(else 6; out of range 5)"
unfoldable pub rule9 : MsgType → ℕ → Bytes → Says
rule9 m t v = reason 6 tag t when not (formed (kind_in (rows_of m) t) v)

-- "10. bad value: 5 (ranges, lists, string length, calendar)"
unfoldable pub rule10 : MsgType → ℕ → Bytes → Says
rule10 m t v = reason 5 tag t when not (allowed (kind_in (rows_of m) t) v)

-- What is said of a part: the first rule that speaks stands.
unfoldable pub rules4to10 : MsgType → Past → ℕ → Bytes → List Says
rules4to10 m w t v =
    rule4 t v ∷ rule5 m w.seen t ∷ rule6 m t ∷ rule7 w.seen t ∷ rule8 m (left w.inside (field t v)) t ∷ rule9 m t v ∷ rule10 m t v ∷ []

unfoldable pub said : MsgType → Past → Part → Says
said m w malformed = first_of (rule1 w.inside malformed ∷ rule2 malformed ∷ [])
said m w (field t v) =
    first_of (rule1 w.inside (field t v) ∷ rule2 (field t v) ∷ rule3 m t ∷ cond (skipped m t) [] (rules4to10 m w t v))

-- What is remembered of a field that no rule spoke of: outside groups its tag; in a group the member, which begins an instance if it is the
-- first; and the group that its count opens. A skipped field leaves nothing but the end of the groups.
abbrev pub opened : List Group → ℕ → Bytes → List Open
opened [] t v = []
opened (g ∷ gs) t v = cond (eqb g.counter t) (record { group = g; count = value v; begun = 0; last = [] } ∷ []) (opened gs t v)

abbrev pub joined : Open → ℕ → Open
joined g t =
    cond (first_member g.group.members t)
    (record { group = g.group; count = g.count; begun = g.begun + 1; last = t ∷ [] })
    (record { group = g.group; count = g.count; begun = g.begun; last = t ∷ g.last })

unfoldable pub taken : MsgType → List ℕ → List Open → ℕ → Bytes → Past
taken m seen [] t v = record { seen = t ∷ seen; inside = opened (groups_of m) t v }
taken m seen (g ∷ gs) t v = record { seen = seen; inside = opened (groups_of m) t v ++ (joined g t ∷ gs) }

unfoldable pub after : MsgType → Past → Part → Past
after m w malformed = w
after m w (field t v) =
    let inside = left w.inside (field t v) in cond (skipped m t) (record { seen = w.seen; inside = inside }) (taken m w.seen inside t v)

-- The verdict on a body: clean, the first finding, or no body.
abbrev pub Verdict : Type 0
Verdict = Result (Unit {0}) Unclean

abbrev pub Clean : Verdict
Clean = Ok tt

abbrev pub found : ℕ → ℕ → Verdict
found r t = Err (Found (record { reason = r; tag = t }))

abbrev pub no_body : Verdict
no_body = Err NoBody

-- "the first finding stands"; "At the end, after step 1: the first missing required tag, header first, in the order above: 1."
abbrev pub verdict_by : Says → Verdict → Verdict
verdict_by (Ok _) rest = rest
verdict_by (Err f) rest = Err (Found f)

abbrev pub walk : MsgType → Past → List Bytes → Verdict
walk m w [] = verdict_by (first_of (closing_all w.inside ∷ missing (header ++ fields m) w.seen ∷ [])) Clean
walk m w (p ∷ ps) = verdict_by (said m w (part_of p)) (walk m (after m w (part_of p)) ps)

-- "MsgType outside the nine", now the ten: "reason 11, tag 35. Otherwise fields are walked from the left". MsgType is the first field 35.
abbrev pub type_by : Option Bytes → Option MsgType
type_by none = none
type_by (some v) = type_of v

abbrev pub msg_type : Bytes → Option MsgType
msg_type body = type_by (first_field 35 body)

abbrev pub nothing_yet : Past
nothing_yet = record { seen = []; inside = [] }

abbrev pub judged_as : Option MsgType → Bytes → Verdict
judged_as none body = found 11 35
judged_as (some m) body = walk m nothing_yet (parts body)

-- "Field reader and verdict answer refusal 10 for bytes that aren't 5 to 2,048 long, beginning `35=` and ending with `|`."
unfoldable pub verdict : Bytes → Verdict
verdict body = cond (is_body body) (judged_as (msg_type body) body) no_body

-- "a definition gives this paper's number and values for each case of the enum": the refusal's number, if it is one, and the values.
unfoldable pub numbers : Verdict → Option ℕ × List ℕ
numbers (Ok _) = (none, [])
numbers (Err (Found f)) = (none, f.reason ∷ f.tag ∷ [])
numbers (Err NoBody) = (some 10, [])
