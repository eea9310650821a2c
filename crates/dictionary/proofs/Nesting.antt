-- A group of a report in the words: what is said where it ends, and what is remembered behind each of its members, whatever groups are open around it.
use Rattle.std.specs.Prelude.{Option, Some, None, Ok, Err}
use Rattle.dictionary.specs.declared.Finding.{Finding}
use Rattle.dictionary.specs.declared.Unclean.TheVariants.{Found}
use Prim.Native.Nat.{ℕ, ◌+◌, ◌-◌}
use native.Mathlib.Omega.{arith}
use borrow.Author.Tests.{eqb-true, eq-eqb}
use mathlib.Core.Path.{◌≡◌, refl, ap, sym, ◌∙◌, subst}
use mathlib.Core.List.{List, [], ◌∷◌, ◌++◌}
use mathlib.Core.Bool.{Bool, true, false, cond, false≢true}
use mathlib.Core.Logic.{◌⊎◌, inl, inr}
use lib.Dec.{eqb}
use lib.ListN.{length, take, drop, set, replicate, length-replicate}
use Rattle.octets.specs.Bytes.{Bytes, any}
use Rattle.fields.specs.Field.{Part, field, malformed, part_of, parts}
use Rattle.fields.specs.Item.{Span, Cut}
use Rattle.fields.specs.declared.Item.{Item}
use Rattle.fields.specs.declared.Item.TheVariants.{Field, Malformed, End, NoBody}
use Rattle.fields.proofs.Rows.{Step}
use Rattle.table.specs.Dictionary.{Row, Group, №453, №580, №552, groups, header, fields, listed, groups_of}
use Rattle.table.specs.code.Held.{tag_at, Three}
use Rattle.dictionary.specs.Verdict.{Says, Nothing, reason◌tag◌, Verdict, Clean, Open, Past, first_of, missing, closing, closing_all, ends, first_member, rule1, left, rule2, rule3, rule8, skipped, rules4to10, said, opened, joined, taken, after, verdict_by, walk}
use Rattle.dictionary.specs.code.Held.{InGroup, Stood, Closing, Opened, begun_of}
use Rattle.dictionary.specs.code.Nested.{AE, past, MemberAt, ends_group, MemberBy, MemberIn, OfMember, Reached, to, onward, Goes, GroupWalk, Along, Turned}
use Rattle.table.specs.declared.MsgType.{MsgType}
use Rattle.dictionary.specs.declared.groups.OpenGroup.{OpenGroup}
use Rattle.dictionary.specs.declared.members.Head.{Head}
use Rattle.dictionary.proofs.Ending.{stood_none, stood_one}
use Rattle.dictionary.proofs.Saying.{known_tag, rule6_silent}
use Rattle.dictionary.proofs.Reported.{opened-reported}
use Rattle.dictionary.proofs.Opening.{opens_none}
use Rattle.dictionary.proofs.Walking.{mark_more, no_marks, walk_on, field_lies, field_step, malformed_step, end_row, never_none}
use Rattle.dictionary.proofs.Turns.{Silent, silent, after-taken}

-- the head as the code finds it
pub the_member : {item : Item} {group : ℕ} {head : Option Head} {h : Head} → MemberIn item group head → head ≡ Some h → MemberAt item group h
the_member {item} {group} M q = subst (MemberBy item group) q M.is

pub the_other : {item : Item} {group : ℕ} {head : Option Head} → MemberIn item group head → head ≡ None → MemberBy item group None
the_other {item} {group} M h = subst (MemberBy item group) h M.is

-- THE END OF A GROUP, in the words: what is said of it stands before all that is said of the part that ends it, and then the groups around go on
ended : List Row → List Bytes → Bool
ended members [] = true
ended members (p ∷ ps) = ends members (part_of p)

two_say : (c x : Says) (l : List Says) (r : Verdict) → verdict_by (first_of (first_of (c ∷ x ∷ []) ∷ l)) r ≡ verdict_by c (verdict_by (first_of (x ∷ l)) r)
two_say (Ok _) (Ok _) l r = refl
two_say (Ok _) (Err f) l r = refl
two_say (Err f) x l r = refl

pop_part : (m : MsgType) (s : List ℕ) (g : Open) (gs : List Open) (p : Part) (next : List Bytes) → ends g.group.members p ≡ true
    → verdict_by (said m (past s (g ∷ gs)) p) (walk m (after m (past s (g ∷ gs)) p) next) ≡ verdict_by (closing g) (verdict_by (said m (past s gs) p) (walk m (after m (past s gs) p) next))
unfolding said after rule1 left rule2 rules4to10
pop_part m s g gs malformed next h = two_say (closing g) (rule1 gs malformed) (rule2 malformed ∷ []) (walk m (past s (g ∷ gs)) next) ∙ malformed_stops (rule1 gs malformed)
  where
    malformed_stops : (x : Says) → verdict_by (closing g) (verdict_by (first_of (x ∷ rule2 malformed ∷ [])) (walk m (past s (g ∷ gs)) next)) ≡ verdict_by (closing g) (verdict_by (first_of (x ∷ rule2 malformed ∷ [])) (walk m (past s gs) next))
    malformed_stops (Ok _) = refl
    malformed_stops (Err f) = refl
pop_part m s g gs (field t v) next h =
    rw h (two_say (closing g) (rule1 gs (field t v)) (rule2 (field t v) ∷ rule3 m t ∷ cond (skipped m t) [] (rules4to10 m (past s gs) t v)) (walk m (after m (past s gs) (field t v)) next))

pop : (m : MsgType) (s : List ℕ) (g : Open) (gs : List Open) (ps : List Bytes) → ended g.group.members ps ≡ true
    → walk m (past s (g ∷ gs)) ps ≡ verdict_by (closing g) (walk m (past s gs) ps)
unfolding ended
pop m s g gs [] h = two_say (closing g) (closing_all gs) (missing (header ++ fields m) s ∷ []) Clean
pop m s g gs (p ∷ ps) h = pop_part m s g gs (part_of p) ps h

-- the code's item ends a group where the words' parts do
ended_by : (members : List Row) {body : Bytes} {at : ℕ} (item : Item) → Cut body at item → ends_group members item ≡ true → ended members (parts (drop at body)) ≡ true
unfolding ended
ended_by members (Field t s e n) C h = let S = field_step C refl refl in rw (S.row, S.part_is) h
ended_by members (Malformed s e n) C h = let S = malformed_step C refl in rw (S.row, S.part_is)
ended_by members End C h = rw (end_row C refl)
ended_by members NoBody C h = absurd (never_none C refl)

-- a finding, or on from a part
abbrev pub reached_by : Says → ℕ → Item → Reached
reached_by (Ok _) at item = to at item
reached_by (Err f) at item = Err f

outward : (w : Past) (body : Bytes) (r : Says) (at : ℕ) (item : Item) → onward w body (reached_by r at item) ≡ verdict_by r (walk AE w (parts (drop at body)))
outward w body (Ok _) at item = refl
outward w body (Err f) at item = refl

-- the code leaves the group
pub leaves : {body : Bytes} {s : List ℕ} {g : Open} {gs : List Open} {from at : ℕ} {item : Item} {met : List Bool} {c : OpenGroup} {r : Says}
    → Along body s g gs from met c (to at item) → Cut body at item → MemberBy item c.counter None → Closing met c r
    → onward (past s gs) body (reached_by r at item) ≡ walk AE (past s (g ∷ gs)) (parts (drop from body))
leaves {body} {s} {g} {gs} {from} {at} {item} {met} {c} {r} A C H Z =
    let I = A.goes.group in
    outward (past s gs) body r at item ∙ ap (λ (x : Says). verdict_by x (walk AE (past s gs) (parts (drop at body)))) (Z.is A.later I)
    ∙ sym (pop AE s A.later gs (parts (drop at body)) (ended_by A.later.group.members item C (H A.later.group A.goes.reported (sym I.counter)))) ∙ A.is

-- A MEMBER of the innermost open group
left-inner : (g : Open) (gs : List Open) (t : ℕ) (v : Bytes) → listed g.group.members t ≡ true → left (g ∷ gs) (field t v) ≡ g ∷ gs
unfolding left
left-inner g gs t v h = rw h

-- a first member is the count of no group
first_no_count : (g : Group) (t : ℕ) → Three g → first_member g.members t ≡ true → any (λ x. eqb x.counter t) groups ≡ false
unfolding №453 №580 №552
first_no_count g t (inl e) h = let k : eqb 448 t ≡ true = rw e at h in rw (sym (eqb-true 448 t k))
first_no_count g t (inr (inl e)) h = let k : eqb 75 t ≡ true = rw e at h in rw (sym (eqb-true 75 t k))
first_no_count g t (inr (inr e)) h = let k : eqb 54 t ≡ true = rw e at h in rw (sym (eqb-true 54 t k))

abbrev pub value_in : Bytes → ℕ → ℕ → Bytes
value_in body start end = take (end - start) (drop start body)

module _ {body : Bytes} {at : ℕ} {item : Item} (C : Cut body at item) {group : ℕ} {h : Head} (M : MemberAt item group h) where
  pub member_lies : Span body at h.start h.end h.next
  member_lies = field_lies C M.is

  member_step : Step body at (take (h.end - at) (drop at body)) (field (tag_at h.k.place) (value_in body h.start h.end)) h.next
  member_step = field_step C M.is refl

module _ {body : Bytes} {at : ℕ} {item : Item} (C : Cut body at item) {c : OpenGroup} {h : Head} (M : MemberAt item c.counter h) where
  module _ {g : Open} {met : List Bool} (G : Goes g met c) where
    in_group : listed g.group.members (tag_at h.k.place) ≡ true
    in_group = (M.belongs g.group G.group.three (sym G.group.counter)).0

    is_first : first_member g.group.members (tag_at h.k.place) ≡ h.first
    is_first = (M.belongs g.group G.group.three (sym G.group.counter)).1

  module _ {met : List Bool} {r : Says} (K : OfMember met c (tag_at h.k.place) h.first (value_in body h.start h.end) r) where
    module _ {s : List ℕ} {g : Open} {gs : List Open} {from : ℕ} (A : Along body s g gs from met c (to at item)) where
      said_here : r ≡ said AE (past s (A.later ∷ gs)) (field (tag_at h.k.place) (value_in body h.start h.end))
      said_here = K.is s A.later gs A.goes.group A.goes.reported (in_group A.goes) (is_first A.goes)

      walked : walk AE (past s (A.later ∷ gs)) (parts (drop at body)) ≡ verdict_by r (walk AE (after AE (past s (A.later ∷ gs)) (field (tag_at h.k.place) (value_in body h.start h.end))) (parts (drop h.next body)))
      walked = walk_on AE (past s (A.later ∷ gs)) body _ _ at h.next (member_step C M) ∙ ap (λ (x : Says). verdict_by x (walk AE (after AE (past s (A.later ∷ gs)) (field (tag_at h.k.place) (value_in body h.start h.end))) (parts (drop h.next body)))) (sym said_here)

      -- a rule speaks
      pub faults : {f : Finding} → r ≡ Err f → Err (Found f) ≡ walk AE (past s (g ∷ gs)) (parts (drop from body))
      faults q = sym (walked ∙ rw q) ∙ A.is

      -- none does
      module _ (q : r ≡ Nothing) where
        quiet : Silent AE (past s (A.later ∷ gs)) (tag_at h.k.place) (value_in body h.start h.end)
        quiet = silent AE (past s (A.later ∷ gs)) (tag_at h.k.place) (value_in body h.start h.end) (known_tag h.k.place h.k.within) (sym q ∙ said_here)

        quiet8 : rule8 AE (A.later ∷ gs) (tag_at h.k.place) ≡ Nothing
        quiet8 = rw (left-inner A.later gs (tag_at h.k.place) (value_in body h.start h.end) (in_group A.goes)) at quiet.silent8

        onto : walk AE (past s (opened (groups_of AE) (tag_at h.k.place) (value_in body h.start h.end) ++ (joined A.later (tag_at h.k.place) ∷ gs))) (parts (drop h.next body)) ≡ walk AE (past s (g ∷ gs)) (parts (drop from body))
        unfolding taken
        onto =
            ap (λ (x : Past). walk AE x (parts (drop h.next body))) (sym (after-taken AE (past s (A.later ∷ gs)) (tag_at h.k.place) (value_in body h.start h.end) (A.later ∷ gs) (known_tag h.k.place h.k.within) (left-inner A.later gs (tag_at h.k.place) (value_in body h.start h.end) (in_group A.goes))))
            ∙ sym (walked ∙ rw q) ∙ A.is

        -- the first member begins an instance: in a first one rule 8 asks for it, behind another no other member can stand
        leads_off : (c.begun ≡ 0) ⊎ Turned c.counter (to at item) → h.first ≡ true
        unfolding rule8
        leads_off T = go h.first (is_first A.goes) T
          where
            I : InGroup A.later met c
            I = A.goes.group

            go : (f : Bool) → first_member A.later.group.members (tag_at h.k.place) ≡ f → (c.begun ≡ 0) ⊎ Turned c.counter (to at item) → f ≡ true
            go true y x = refl
            go false y (inl z) =
                let k : reason 15 tag (tag_at h.k.place) ≡ Nothing = rw (y, eq-eqb A.later.begun 0 (sym I.begun ∙ z)) at quiet8 in
                let u : ◌≡◌ {A = ℕ} 0 1 = cc in absurd (omega arith)
            go false y (inr x) =
                let k = x A.later.group A.goes.reported (sym I.counter) in
                absurd (false≢true (rw (M.is, in_group A.goes, y) at k))

        pub begins_one : (c.begun ≡ 0) ⊎ Turned c.counter (to at item) → (i : Item) → Along body s g gs from (set (replicate 128 false) h.k.place true) (begun_of c) (to h.next i)
        begins_one T i =
            let f = leads_off T in
            let I = A.goes.group in
            let n = opens_none AE (tag_at h.k.place) (value_in body h.start h.end) (first_no_count A.later.group (tag_at h.k.place) I.three (is_first A.goes ∙ f)) in
            record {
              later = record { group = A.later.group; count = A.later.count; begun = A.later.begun + 1; last = (tag_at h.k.place) ∷ [] };
              goes = record {
                reported = A.goes.reported;
                group = record { three = I.three; counter = I.counter; count = I.count; begun = ap (λ (y : ℕ). y + 1) I.begun; last = λ z. mark_more h.k.within (length-replicate 128 false) no_marks };
              };
              is = rw (n, is_first A.goes ∙ f) at onto;
            }

        -- another member
        module _ (f : h.first ≡ false) (long : length met ≡ 128) {inner : Option OpenGroup} (P : Opened (tag_at h.k.place) (value_in body h.start h.end) inner) where
          joins_to : Open
          joins_to = record { group = A.later.group; count = A.later.count; begun = A.later.begun; last = (tag_at h.k.place) ∷ A.later.last }

          joined_goes : Goes joins_to (set met h.k.place true) c
          unfolding joins_to
          joined_goes =
              let I = A.goes.group in
              record {
                reported = A.goes.reported;
                group = record { three = I.three; counter = I.counter; count = I.count; begun = I.begun; last = λ z. mark_more h.k.within long (I.last z) };
              }

          onto_joined : walk AE (past s (opened (groups_of AE) (tag_at h.k.place) (value_in body h.start h.end) ++ (joins_to ∷ gs))) (parts (drop h.next body)) ≡ walk AE (past s (g ∷ gs)) (parts (drop from body))
          unfolding joins_to
          onto_joined = rw (is_first A.goes ∙ f) at onto

          opening : Stood (opened (groups_of AE) (tag_at h.k.place) (value_in body h.start h.end)) [] inner
          opening = P.opens AE [] (rule6_silent AE (tag_at h.k.place) (sym quiet.silent6)) (quiet.silent9, quiet.silent10)

          pub joins : inner ≡ None → (i : Item) → Along body s g gs from (set met h.k.place true) c (to h.next i)
          joins z i = record { later = joins_to; goes = joined_goes; is = rw (stood_none opening z) at onto_joined }

          -- the count of a group in the group: the group walk goes through it
          pub nests : {d : OpenGroup} → inner ≡ Some d → {w : Reached} → GroupWalk body d h.next w → Along body s g gs from (set met h.k.place true) c w
          nests y {w} W =
              let x = stood_one opening y in
              record {
                later = joins_to;
                goes = joined_goes;
                is = W.is s x.0 (joins_to ∷ gs) [] (record { group = x.1.1; reported = opened-reported (tag_at h.k.place) (value_in body h.start h.end) x.0 x.1.0 })
                    ∙ ap (λ (l : List Open). walk AE (past s (l ++ (joins_to ∷ gs))) (parts (drop h.next body))) (sym x.1.0) ∙ onto_joined;
              }

-- one walk behind another
pub chains : {body : Bytes} {s : List ℕ} {g : Open} {gs : List Open} {from next : ℕ} {i : Item} {met met2 : List Bool} {c : OpenGroup} {r : Reached}
    → (A : Along body s g gs from met c (to next i)) → Along body s A.later gs next met2 c r → Along body s g gs from met2 c r
chains A B = record { later = B.later; goes = B.goes; is = B.is ∙ A.is }

pub before_any : {g : Open} {met met2 : List Bool} {c : OpenGroup} → c.begun ≡ 0 → Goes g met c → Goes g met2 c
before_any {g} z G =
    let I = G.group in
    record { reported = G.reported; group = record { three = I.three; counter = I.counter; count = I.count; begun = I.begun; last = λ n. absurd (false≢true (sym n ∙ eq-eqb g.begun 0 (sym I.begun ∙ z))) } }
