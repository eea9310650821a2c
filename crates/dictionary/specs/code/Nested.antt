-- The Trade Capture Report's walk, whose groups hold groups: what its functions answer. Only the code needs these: nothing here states a document.
use Rattle.std.specs.Prelude.{ℕ, ◌+◌, ◌≤◌, ◌≡◌, ◌⊎◌, List, [], ◌∷◌, Bool, true, not, ◌||◌, length, drop, Option, Some, None, Result, Ok, Err}
use Rattle.octets.specs.Bytes.{Bytes}
use Rattle.fields.specs.Field.{field, parts}
use Rattle.fields.specs.Item.{Cut}
use Rattle.fields.specs.declared.Item.{Item}
use Rattle.fields.specs.declared.Item.TheVariants.{Field, Malformed, End, NoBody}
use Rattle.table.specs.Dictionary.{Row, Group, №453, №552, listed, groups_of, rows_of}
use Rattle.table.specs.code.Held.{tag_at, Three, Marked}
use Rattle.dictionary.specs.Verdict.{Says, Verdict, Open, Past, ◌when◌, first_member, incomplete, said, opened, walk}
use Rattle.dictionary.specs.code.Held.{InGroup, past_header, RightValue}
use Rattle.table.specs.declared.MsgType.{MsgType}
use Rattle.table.specs.declared.MsgType.TheVariants.{TradeCaptureReport}
use Rattle.dictionary.specs.declared.Finding.{Finding}
use Rattle.dictionary.specs.declared.Unclean.TheVariants.{Found}
use Rattle.dictionary.specs.declared.groups.OpenGroup.{OpenGroup}
use Rattle.dictionary.specs.declared.members.Head.{Head}
use Rattle.dictionary.specs.declared.nested.Part as At

abbrev pub AE : MsgType
AE = TradeCaptureReport

abbrev pub past : List ℕ → List Open → Past
past seen groups = record { seen = seen; inside = groups }

-- THE PARTS. A group of a report, and a field that is a member of one
abbrev pub Reported : Group → Type 0
Reported g = (g ≡ №552) ⊎ (g ≡ №453)

pub record MemberAt (item : Item) (group : ℕ) (h : Head) : Type 0 where
  pub is : item ≡ Field (tag_at h.k.place) h.start h.end h.next
  pub belongs : (g : Group) → Three g → g.counter ≡ group → (listed g.members (tag_at h.k.place) ≡ true) × (first_member g.members (tag_at h.k.place) ≡ h.first)

-- what ends a group, ..
abbrev pub ends_group : List Row → Item → Bool
ends_group members (Field t start end next) = not (listed members t)
ends_group members (Malformed start end next) = true
ends_group members End = true
ends_group members NoBody = true

-- .. and what ends an instance: it ends the group, or begins another instance
abbrev pub ends_instance : List Row → Item → Bool
ends_instance members (Field t start end next) = not (listed members t) || first_member members t
ends_instance members (Malformed start end next) = true
ends_instance members End = true
ends_instance members NoBody = true

-- an item is a member of the group with this count tag, or it ends the group
abbrev pub MemberBy : Item → ℕ → Option Head → Type 0
MemberBy item group (Some h) = MemberAt item group h
MemberBy item group None = (g : Group) → Reported g → g.counter ≡ group → ends_group g.members item ≡ true

pub record MemberIn (item : Item) (group : ℕ) (r : Option Head) : Type 0 where
  pub is : MemberBy item group r

-- WHAT IS SAID of a member of the innermost open group, whatever groups are open around it, ..
pub record Rule1Inside (met : List Bool) (c : OpenGroup) (first : Bool) (r : Says) : Type 0 where
  pub is : (g : Open) → InGroup g met c → r ≡ incomplete g when first

pub record OfMember (met : List Bool) (c : OpenGroup) (t : ℕ) (first : Bool) (v : Bytes) (r : Says) : Type 0 where
  pub is : (s : List ℕ) (g : Open) (gs : List Open) → InGroup g met c → Reported g.group → listed g.group.members t ≡ true → first_member g.group.members t ≡ first
      → r ≡ said AE (past s (g ∷ gs)) (field t v)

-- .. and of a field outside groups
pub record OfOwn (seen : List Bool) (over : Bool) (t : ℕ) (v : Bytes) (r : Says) : Type 0 where
  pub is : (met : List ℕ) → Marked seen met → over ≡ past_header met → r ≡ said AE (past met []) (field t v)

-- THE GROUP WALK AND THE INSTANCE WALK. Where a walk has come to: it found fault, or its group or instance ended at a part, not before the place that
-- it began at; ..
abbrev pub Reached : Type 0
Reached = Result At.Part Finding

abbrev pub to : ℕ → Item → Reached
to at item = Ok (record { at = at; item = item })

abbrev pub Lies : Bytes → ℕ → Reached → Type 0
Lies body from (Err f) = Unit {0}
Lies body from (Ok p) = (from ≤ p.at) × (p.at ≤ length body + 1) × Cut body p.at p.item

-- .. and the words' verdict from there on, behind what they remember then
abbrev pub onward : Past → Bytes → Reached → Verdict
onward w body (Err f) = Err (Found f)
onward w body (Ok p) = walk AE w (parts (drop p.at body))

-- The stack of the words is the stack of the calls: the code's state holds the innermost open group, and the walks that called hold those around it.
pub record Goes (g : Open) (met : List Bool) (c : OpenGroup) : Type 0 where
  pub group : InGroup g met c
  pub reported : Reported g.group

-- "Group walk and instance walk call each other in the Trade Capture Report reader": the one goes through the instances of the group and leaves it,
-- whatever was met before and whatever groups are open around it; ..
pub record GroupWalk (body : Bytes) (c : OpenGroup) (from : ℕ) (r : Reached) : Type 0 where
  pub lies : Lies body from r
  pub is : (s : List ℕ) (g : Open) (gs : List Open) (met : List Bool) → Goes g met c → onward (past s gs) body r ≡ walk AE (past s (g ∷ gs)) (parts (drop from body))

-- .. the other goes through the members of one instance, and leaves the group open
pub record Along (body : Bytes) (s : List ℕ) (g : Open) (gs : List Open) (from : ℕ) (met : List Bool) (c : OpenGroup) (r : Reached) : Type 0 where
  pub later : Open
  pub goes : Goes later met c
  pub is : onward (past s (later ∷ gs)) body r ≡ walk AE (past s (g ∷ gs)) (parts (drop from body))

abbrev pub Turned : ℕ → Reached → Type 0
Turned group (Err f) = Unit {0}
Turned group (Ok p) = (g : Group) → Reported g → g.counter ≡ group → ends_instance g.members p.item ≡ true

pub record InstanceWalk (body : Bytes) (met : List Bool) (c : OpenGroup) (from : ℕ) (met2 : List Bool) (r : Reached) : Type 0 where
  pub lies : Lies body from r
  pub turns : Turned c.counter r
  pub long : length met2 ≡ 128
  pub is : (s : List ℕ) (g : Open) (gs : List Open) → Goes g met c → Along body s g gs from met2 c r

-- BEHIND A FIELD outside groups, of which nothing is said: the walk goes on as the words do, in the group that the field opens or in none
pub record Behind (body : Bytes) (t : ℕ) (v : Bytes) (from : ℕ) (r : Reached) : Type 0 where
  pub lies : Lies body from r
  pub is : (s : List ℕ) → listed (rows_of AE) t ≡ true → RightValue AE t v → onward (past s []) body r ≡ walk AE (past s (opened (groups_of AE) t v)) (parts (drop from body))
