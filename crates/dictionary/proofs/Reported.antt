-- A report's field: as a member of a group or outside groups, and what is said of it.
use Rattle.std.specs.Prelude.{Some, None, Ok, Err}
use Prim.Native.Nat.{ℕ}
use native.Mathlib.Omega.{arith}
use borrow.Author.Tests.{eq-eqb, ne_eqb, not-true}
use mathlib.Core.Path.{◌≡◌, refl, ap, sym, ◌∙◌, subst}
use mathlib.Core.Logic.{inl, inr}
use mathlib.Core.List.{List, [], ◌∷◌}
use mathlib.Core.Bool.{Bool, true, false, cond, not, ◌&&◌}
use lib.Dec.{eqb}
use Rattle.octets.specs.Bytes.{Bytes, all, has, value}
use Rattle.fields.specs.Field.{field}
use Rattle.fields.specs.declared.Item.{Item}
use Rattle.fields.specs.declared.Item.TheVariants.{Field, Malformed, End, NoBody}
use Rattle.table.specs.Dictionary.{Row, Group, №453, №580, №552, header, fields, listed, groups_of, member, rows_of, frame_tag, in_dictionary}
use Rattle.table.specs.code.Held.{tags, tag_at, Three, MemberOf, members_of}
use Rattle.dictionary.specs.Verdict.{Says, Nothing, Open, ◌when◌, first_of, first_member, incomplete, rule1, rule4, rule5, rule6, rule7, rule8, rule9, rule10, left, said, opened}
use Rattle.dictionary.specs.code.Held.{InGroup, StandsIn, Incomplete}
use Rattle.dictionary.specs.code.Nested.{AE, past, Reported, MemberIn, Rule1Inside}
use Rattle.dictionary.specs.declared.groups.OpenGroup.{OpenGroup}
use Rattle.table.specs.declared.lines.Member.{Member}
use Rattle.table.specs.declared.known.Known.{Known}
use Rattle.octets.proofs.Tests.{both}
use Rattle.dictionary.proofs.Ending.{members_by}
use Rattle.dictionary.proofs.FourToEight.{first_is, listed_all}
use Rattle.dictionary.proofs.Saying.{First, known_says, not_listed, members-placed}

pub one_of_three : (g : Group) → Reported g → Three g
one_of_three g (inl e) = inr (inr e)
one_of_three g (inr e) = inl e

-- A MEMBER: what is no field of the dictionary, a tag that is in no group or in another, and a member
pub head_none : {group : ℕ} (item : Item) → ((t s e n : ℕ) → item ≡ Field t s e n → ⊥) → MemberIn item group None
head_none (Field t s e n) k = absurd (k t s e n refl)
head_none (Malformed s e n) k = record { is = λ g R c. refl }
head_none End k = record { is = λ g R c. refl }
head_none NoBody k = record { is = λ g R c. refl }

pub head_unknown : {item : Item} {t start end next group : ℕ} → item ≡ Field t start end next → has tags t ≡ false → MemberIn item group None
head_unknown {t = t} h n = record { is = λ g R c. rw (h, not_listed t n g.members (members-placed g (one_of_three g R))) }

module _ {item : Item} {t start end next group : ℕ} (k : Known) (h : item ≡ Field t start end next) (q : tag_at k.place ≡ t) where
  pub head_away : MemberOf (tag_at k.place) None → MemberIn item group None
  head_away M = record { is = λ g R c. rw (h, sym q, sym (M.member_of g (one_of_three g R))) }

  pub head_other : {of : Member} → MemberOf (tag_at k.place) (Some of) → (of.group ≡ group → ⊥) → MemberIn item group None
  head_other {of} M n = record { is = λ g R c. rw (h, sym q, sym (M.member_of g (one_of_three g R)), ne_eqb g.counter of.group (λ e. n (sym e ∙ c))) }

  pub head_here : {of : Member} → MemberOf (tag_at k.place) (Some of) → of.group ≡ group → MemberIn item group (Some (record { k = k; first = of.first; start = start; end = end; next = next }))
  head_here {of} M e = record {
    is = record {
      is = h ∙ ap (λ (x : ℕ). Field x start end next) (sym q);
      belongs = λ g T c.
          let b = eq-eqb g.counter of.group (c ∙ sym e) in
          (sym (M.member_of g T) ∙ b, sym (first_is g.members (tag_at k.place)) ∙ sym (M.first_of g T) ∙ rw b);
    };
  }

-- a member stands in the open group
pub member_stands : (g : Open) {met : List Bool} {c : OpenGroup} {t : ℕ} {first : Bool} → InGroup g met c → listed g.group.members t ≡ true → first_member g.group.members t ≡ first
    → StandsIn (Some c) t (Some (record { group = c; first = first }))
member_stands g I h f = (
  refl,
  λ x T e.
      let q = sym (members_by x T) ∙ ap members_of (sym e ∙ I.counter) ∙ members_by g.group I.three in
      (rw q h, rw q f),
)

-- THE RULES AT A MEMBER. A member is the report's, and no tag of the frame or the header
own_member : ℕ → Bool
own_member t = member AE t && (listed (rows_of AE) t && (not (frame_tag t) && not (listed header t)))

members_own : (g : Group) → Reported g → all (λ (r : Row). own_member r.tag) g.members ≡ true
unfolding own_member member rows_of header fields groups_of №453 №580 №552
members_own g (inl e) = rw e
members_own g (inr e) = rw e

module _ (g : Open) (t : ℕ) (R : Reported g.group) (h : listed g.group.members t ≡ true) where
  own : (member AE t ≡ true) × (listed (rows_of AE) t ≡ true) × (frame_tag t ≡ false) × (listed header t ≡ false)
  unfolding own_member
  own =
      let a = both (member AE t) _ (listed_all own_member g.group.members (members_own g.group R) t h) in
      let b = both (listed (rows_of AE) t) _ a.1 in
      let c = both (not (frame_tag t)) _ b.1 in
      (a.0, b.0, not-true _ c.0, not-true _ c.1)

  pub member_listed : listed (rows_of AE) t ≡ true
  member_listed = own.1

  silent5 : (s : List ℕ) → rule5 AE s t ≡ Nothing
  unfolding rule5
  silent5 s = rw (own.2, own.0)

  silent6 : rule6 AE t ≡ Nothing
  unfolding rule6
  silent6 = rw own.1

  silent7 : (s : List ℕ) → rule7 s t ≡ Nothing
  unfolding rule7
  silent7 s = rw own.3

  rule1_here : (gs : List Open) (v : Bytes) → rule1 (g ∷ gs) (field t v) ≡ (incomplete g when first_member g.group.members t)
  unfolding rule1
  rule1_here gs v = rw h

  rule8_here : (gs : List Open) (v : Bytes) → rule8 AE (left (g ∷ gs) (field t v)) t ≡ rule8 AE (left (g ∷ []) (field t v)) t
  unfolding left rule8
  rule8_here gs v = rw h

  pub said_member : (s : List ℕ) (gs : List Open) (v : Bytes) (r : Says) → in_dictionary t ≡ true
      → First ((incomplete g when first_member g.group.members t) ∷ rule4 t v ∷ rule8 AE (left (g ∷ []) (field t v)) t ∷ rule9 AE t v ∷ rule10 AE t v ∷ []) r → r ≡ said AE (past s (g ∷ gs)) (field t v)
  said_member s gs v r k F =
      F.is ∙ sym (known_says AE (past s (g ∷ gs)) t v k ∙ rw (rule1_here gs v, silent5 s, silent6, silent7 s, rule8_here gs v)
      (quiet_three (incomplete g when first_member g.group.members t) (rule4 t v) (rule8 AE (left (g ∷ []) (field t v)) t ∷ rule9 AE t v ∷ rule10 AE t v ∷ [])))
    where
      quiet_three : (a b : Says) (l : List Says) → first_of (a ∷ b ∷ Nothing ∷ Nothing ∷ Nothing ∷ l) ≡ first_of (a ∷ b ∷ l)
      quiet_three (Ok _) (Ok _) l = refl
      quiet_three (Ok _) (Err f) l = refl
      quiet_three (Err f) b l = refl

-- rule 1
pub anew : {met : List Bool} {c : OpenGroup} {first : Bool} {r : Says} → first ≡ true → Incomplete met c r → Rule1Inside met c first r
anew f C = record { is = λ g I. rw f (C.is g I) }

pub not_anew : {met : List Bool} {c : OpenGroup} {first : Bool} → first ≡ false → Rule1Inside met c first Nothing
not_anew f = record { is = λ g I. rw f }

-- THE RULES OUTSIDE GROUPS
pub said_own : (met : List ℕ) (t : ℕ) (v : Bytes) (r : Says) → in_dictionary t ≡ true
    → First (rule4 t v ∷ rule5 AE met t ∷ rule6 AE t ∷ rule7 met t ∷ rule8 AE [] t ∷ rule9 AE t v ∷ rule10 AE t v ∷ []) r → r ≡ said AE (past met []) (field t v)
unfolding rule1 left
said_own met t v r k F = F.is ∙ sym (known_says AE (past met []) t v k)

-- THE GROUPS that a report's count fields open are a report's
abbrev AllReported : List Group → Type 0
AllReported [] = Unit {0}
AllReported (g ∷ gs) = Reported g × AllReported gs

report-groups : AllReported (groups_of AE)
unfolding groups_of fields №453 №580 №552
report-groups = (inr refl, (inl refl, tt))

only_group : {a b : Open} → (a ∷ []) ≡ (b ∷ []) → a.group ≡ b.group
only_group {a} {b} e = let z : a ≡ b = cc in ap (λ (x : Open). x.group) z

opened-among : (gs : List Group) → AllReported gs → (t : ℕ) (v : Bytes) (o : Open) → opened gs t v ≡ o ∷ [] → Reported o.group
opened-among [] A t v o h = let z : ◌≡◌ {A = ℕ} 0 1 = cc in absurd (omega arith)
opened-among (g ∷ gs) A t v o h = go (eqb g.counter t) h (opened-among gs A.1 t v o)
  where
    go : (b : Bool) → cond b (record { group = g; count = value v; begun = 0; last = [] } ∷ []) (opened gs t v) ≡ o ∷ [] → (opened gs t v ≡ o ∷ [] → Reported o.group) → Reported o.group
    go true k f = subst Reported (only_group k) A.0
    go false k f = f k

pub opened-reported : (t : ℕ) (v : Bytes) (o : Open) → opened (groups_of AE) t v ≡ o ∷ [] → Reported o.group
opened-reported t v o h = opened-among (groups_of AE) report-groups t v o h
