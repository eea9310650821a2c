-- The places of the table: each tag of the dictionary has one, with its entry and its mark.
use Prim.Native.Nat.{ℕ, zero, suc, ◌+◌, ◌<◌}
use native.Mathlib.Omega.{arith}
use borrow.Author.Tests.{eqb-true, ltb-true}
use mathlib.Core.Path.{◌≡◌, refl, ap, sym, ◌∙◌}
use mathlib.Core.List.{List, [], ◌∷◌, ◌++◌, map}
use mathlib.Core.Bool.{Bool, true, false, cond, not, ◌&&◌, ◌||◌, false≢true}
use mathlib.Core.Logic.{inl, inr}
use lib.Dec.{eqb, ltb}
use lib.ListN.{length, get_or}
use Rattle.octets.specs.Bytes.{Bytes, any, all, has, same}
use Rattle.kinds.specs.Kind.{Kind, text, number◌to◌, Y/N, time, day, decimal, among, kind_of}
use Rattle.kinds.specs.Judged.{meaning}
use Rattle.kinds.proofs.Values.{same_true}
use Rattle.table.specs.Dictionary.{Group, №453, №580, №552, groups, the_ten, header, fields, listed, kind_in, member, groups_of, rows_of, frame_tag}
use Rattle.table.specs.code.Held.{tag_count, all_rows, tags, tag_at, index, bit_of, is_numeric, kind_for, written, same_all, agree, in_group, leads, right_in, right_of, right, no_entry, entry_at, slot_of, slotted, OnlyPlace, Three, Right, MemberOf}
use Rattle.table.specs.declared.MsgType.{MsgType}
use Rattle.table.specs.declared.lines.Entry.{Entry}
use Rattle.table.specs.declared.lines.TheConstants.{TABLE}
use Rattle.table.specs.declared.lookup.TheConstants.{SLOTS}
use Rattle.table.proofs.Lists.{agree_true, all_ten}
use Rattle.octets.proofs.Tests.{both, all_at, map_at}

pub tags-long : length tags ≡ tag_count
unfolding all_rows tags header fields №453 №580 №552
tags-long = refl

-- the constant table is that of the definitions: one computed test over all entries and all ten messages
order : map (λ (e : Entry). e.tag) TABLE ≡ tags
unfolding all_rows tags header fields №453 №580 №552
order = refl

rights : all right TABLE ≡ true
unfolding all_rows tags bit_of right_in right_of right №453 №580 №552 header fields groups_of member rows_of kind_of
rights = refl

long : length TABLE ≡ tag_count
long = refl

pub entry_tag : (i : ℕ) → i < tag_count → (entry_at i).tag ≡ tag_at i
unfolding entry_at
entry_tag i h =
    sym (map_at (λ (e : Entry). e.tag) no_entry 0 TABLE i (omega (arith, long))) ∙ ap (λ (l : List ℕ). get_or l i 0) order

-- the place of a tag by its slot
slot_of_lem : (l : List ℕ) (x p : ℕ) (ts : List ℕ) → slotted l p ts ≡ true → has ts x ≡ true → (k : ℕ) × ((get_or l (slot_of x) 0 ≡ p + k) × (get_or ts k 0 ≡ x))
slot_of_lem l x p [] h m = absurd (false≢true m)
slot_of_lem l x p (t ∷ ts) h m =
    let w = both (eqb (get_or l (slot_of t) 0) p) (slotted l (1 + p) ts) h in
    go (eqb t x) refl m (eqb-true (get_or l (slot_of t) 0) p w.0) (slot_of_lem l x (1 + p) ts w.1)
  where
    go : (b : Bool) → eqb t x ≡ b → (b || has ts x) ≡ true → get_or l (slot_of t) 0 ≡ p
        → (has ts x ≡ true → (k : ℕ) × ((get_or l (slot_of x) 0 ≡ 1 + p + k) × (get_or ts k 0 ≡ x)))
        → (k : ℕ) × ((get_or l (slot_of x) 0 ≡ p + k) × (get_or (t ∷ ts) k 0 ≡ x))
    go true e n f later =
        let q = eqb-true t x e in
        let g : p ≡ p + 0 = omega arith in
        (0, (sym (ap (λ (y : ℕ). get_or l (slot_of y) 0) q) ∙ f ∙ g, q))
    go false e n f later = let r = later n in (suc r.0, (omega (arith, r.1.0), r.1.1))

slots : slotted SLOTS 0 tags ≡ true
unfolding all_rows tags header fields №453 №580 №552
slots = refl

small_slots : all (λ p. ltb p tag_count) SLOTS ≡ true
small_slots = refl

pub slot_place : (x : ℕ) → OnlyPlace x (get_or SLOTS (slot_of x) 0)
slot_place x =
    record {
      small = ltb-true _ tag_count (all_at (λ (p : ℕ). ltb p tag_count) 0 SLOTS small_slots (slot_of x) (omega arith));
      only = λ h. let r = slot_of_lem SLOTS x 0 tags slots h in
          let e : get_or SLOTS (slot_of x) 0 ≡ r.0 = omega (arith, r.1.0) in
          ap tag_at e ∙ r.1.1;
    }

-- its line has another tag: no line has this one
pub no_place : {x p : ℕ} → OnlyPlace x p → ((entry_at p).tag ≡ x → ⊥) → has tags x ≡ false
no_place {x} {p} O n = go (has tags x) refl
  where
    go : (b : Bool) → has tags x ≡ b → b ≡ false
    go true e = absurd (n (entry_tag p O.small ∙ O.only e))
    go false e = refl

-- no two places have the same tag
place_in : List ℕ → ℕ → ℕ
place_in [] t = 0
place_in (x ∷ l) t = cond (eqb x t) 0 (1 + place_in l t)

in_place : ℕ → List ℕ → Bool
in_place i [] = true
in_place i (x ∷ l) = eqb (place_in tags x) i && in_place (1 + i) l

in_place_at : (i : ℕ) (l : List ℕ) → in_place i l ≡ true → (k : ℕ) → k < length l → place_in tags (get_or l k 0) ≡ i + k
unfolding in_place
in_place_at i [] h k n = absurd (omega arith)
in_place_at i (x ∷ l) h zero n = eqb-true (place_in tags x) i (both (eqb (place_in tags x) i) _ h).0 ∙ omega arith
in_place_at i (x ∷ l) h (suc k) n = in_place_at (1 + i) l (both (eqb (place_in tags x) i) _ h).1 k (omega arith) ∙ omega arith

in_place_lem : in_place 0 tags ≡ true
unfolding in_place place_in all_rows tags header fields №453 №580 №552
in_place_lem = refl

back : (p : ℕ) → p < tag_count → place_in tags (tag_at p) ≡ p
back p h = in_place_at 0 tags in_place_lem p (omega (arith, tags-long)) ∙ omega arith

pub one_place : (p q : ℕ) → p < tag_count → q < tag_count → tag_at p ≡ tag_at q → p ≡ q
one_place p q h k e = sym (back p h) ∙ ap (place_in tags) e ∙ back q k

-- an entry that passed the test says of its tag what the document's lists say
kind_from : List Bytes → Kind
kind_from [] = day
kind_from (h ∷ l) =
    cond (eqb (get_or h 0 0) 0) (text (get_or h 1 0))
    (cond (eqb (get_or h 0 0) 1) (number (get_or h 1 0) to (get_or h 2 0))
    (cond (eqb (get_or h 0 0) 2) Y/N
    (cond (eqb (get_or h 0 0) 3) time
    (cond (eqb (get_or h 0 0) 4) day
    (cond (eqb (get_or h 0 0) 6) decimal
    (among l))))))

from_written : (k : Kind) → kind_from (written k) ≡ k
unfolding kind_from
from_written (text n) = refl
from_written (number a to b) = refl
from_written Y/N = refl
from_written time = refl
from_written day = refl
from_written decimal = refl
from_written (among l) = refl

same_all_true : (k l : List Bytes) → same_all k l ≡ true → k ≡ l
same_all_true [] [] h = refl
same_all_true [] (w ∷ l) h = absurd (false≢true h)
same_all_true (u ∷ k) [] h = absurd (false≢true h)
same_all_true (u ∷ k) (w ∷ l) h = rw (same_true u w (both (same u w) (same_all k l) h).0, same_all_true k l (both (same u w) (same_all k l) h).1)

same_kind : (k l : Kind) → same_all (written k) (written l) ≡ true → k ≡ l
same_kind k l h = sym (from_written k) ∙ ap kind_from (same_all_true (written k) (written l) h) ∙ from_written l

or_not : (a b : Bool) → (not a || b) ≡ true → a ≡ true → b ≡ true
or_not true b h e = h
or_not false b h e = absurd (false≢true e)

in_message : (e : Entry) → right e ≡ true → (m : MsgType) → right_in e m ≡ true
unfolding right
in_message e h = all_ten (right_in e) (both (all (right_in e) the_ten) _ h).0

in_groups : (e : Entry) → right e ≡ true → (g : Group) → Three g → right_of e g ≡ true
unfolding right
in_groups e h g three =
    let All-three = (both (all (right_of e) groups) _ (both (all (right_in e) the_ten) _ h).1).0 in
    let later = (both (right_of e №453) _ All-three).1 in
    one three (both (right_of e №453) _ All-three).0 (both (right_of e №580) _ later).0 (both (right_of e №552) _ (both (right_of e №580) _ later).1).0
  where
    one : Three g → right_of e №453 ≡ true → right_of e №580 ≡ true → right_of e №552 ≡ true → right_of e g ≡ true
    one (inl x) a b c = rw x a
    one (inr (inl x)) a b c = rw x b
    one (inr (inr x)) a b c = rw x c

module _ (e : Entry) (h : right e ≡ true) (m : MsgType) where
  out : Bool
  out = agree (bit_of e.marks (index m)) (listed (header ++ fields m) e.tag)

  mem : Bool
  mem = agree (bit_of e.marks (10 + index m)) (member m e.tag)

  kin : Bool
  kin = not (listed (rows_of m) e.tag) || same_all (written (meaning (kind_for m e.kind))) (written (kind_in (rows_of m) e.tag))

  num : Bool
  num = not (bit_of e.marks 30) || is_numeric (meaning (kind_for m e.kind))

  four : (out ≡ true) × (mem ≡ true) × (kin ≡ true) × (num ≡ true)
  unfolding right_in out mem kin num
  four =
      let a = both out _ (in_message e h m) in
      let b = both mem _ a.1 in
      let c = both kin num b.1 in
      (a.0, b.0, c.0, c.1)

right_is : (e : Entry) → right e ≡ true → Right e
unfolding right right_of out mem kin num
right_is e h =
    let g = in_groups e h in
    let h2 = (both (all (right_of e) groups) _ (both (all (right_in e) the_ten) _ h).1).1 in
    let h3 = (both (agree (bit_of e.marks 28) (listed header e.tag)) _ h2).1 in
    let h4 = (both (agree (bit_of e.marks 29) (frame_tag e.tag)) _ h3).1 in
    record {
      outside_in = λ m. agree_true _ _ (four e h m).0;
      member_in = λ m. agree_true _ _ (four e h m).1;
      kind_in_lem = λ m l. same_kind _ _ (or_not (listed (rows_of m) e.tag) _ (four e h m).2 l);
      member_of = λ x y. agree_true _ _ (both (agree (in_group x e.member) (listed x.members e.tag)) _ (g x y)).0;
      first_of = λ x y. agree_true _ _ (both (agree (in_group x e.member) (listed x.members e.tag)) _ (g x y)).1;
      in_header = agree_true _ _ (both (agree (bit_of e.marks 28) (listed header e.tag)) _ h2).0;
      in_frame = agree_true _ _ (both (agree (bit_of e.marks 29) (frame_tag e.tag)) _ h3).0;
      counts = agree_true _ _ h4;
      counts_number = λ m b. or_not (bit_of e.marks 30) _ (four e h m).3 b;
    }

-- what the entry at a place says of its tag
module _ (p : ℕ) (h : p < tag_count) where
  says : Right (entry_at p)
  unfolding entry_at
  says = right_is (entry_at p) (all_at right no_entry TABLE rights p (omega (arith, long)))

  pub in_message_at : (m : MsgType) → bit_of (entry_at p).marks (index m) ≡ listed (header ++ fields m) (tag_at p)
  in_message_at m = says.outside_in m ∙ ap (listed (header ++ fields m)) (entry_tag p h)

  pub shared_at : (m : MsgType) → bit_of (entry_at p).marks (10 + index m) ≡ member m (tag_at p)
  shared_at m = says.member_in m ∙ ap (member m) (entry_tag p h)

  pub member_at : MemberOf (tag_at p) (entry_at p).member
  member_at =
      record {
        member_of = λ g three. says.member_of g three ∙ ap (listed g.members) (entry_tag p h);
        first_of = λ g three. says.first_of g three ∙ ap (leads g.members) (entry_tag p h);
      }

  pub header_at : bit_of (entry_at p).marks 28 ≡ listed header (tag_at p)
  header_at = says.in_header ∙ ap (listed header) (entry_tag p h)

  pub frame_at : bit_of (entry_at p).marks 29 ≡ frame_tag (tag_at p)
  frame_at = says.in_frame ∙ ap frame_tag (entry_tag p h)

  pub counts_at : bit_of (entry_at p).marks 30 ≡ any (λ g. eqb g.counter (tag_at p)) groups
  counts_at = says.counts ∙ ap (λ (t : ℕ). any (λ g. eqb g.counter t) groups) (entry_tag p h)

  pub kind_at : (m : MsgType) → listed (rows_of m) (tag_at p) ≡ true → meaning (kind_for m (entry_at p).kind) ≡ kind_in (rows_of m) (tag_at p)
  kind_at m l = says.kind_in_lem m (ap (listed (rows_of m)) (entry_tag p h) ∙ l) ∙ ap (kind_in (rows_of m)) (entry_tag p h)

  pub count_numeric : (m : MsgType) → any (λ g. eqb g.counter (tag_at p)) groups ≡ true → listed (rows_of m) (tag_at p) ≡ true → is_numeric (kind_in (rows_of m) (tag_at p)) ≡ true
  count_numeric m c l = sym (ap is_numeric (kind_at m l)) ∙ says.counts_number m (counts_at ∙ c)
