-- A field by its tag, rules 1 and 4 to 8, and then by its value, rules 9 and 10; and the usual field, of whose tag nothing is said.
use Rattle.dictionary.specs.declared.Finding.{Finding}
use Rattle.std.specs.Prelude.{Option, Some, None, Err, is_some}
use Prim.Native.Nat.{ℕ, ◌<◌}
use native.Mathlib.Omega.{arith}
use borrow.Author.Tests.{not-true}
use mathlib.Core.Path.{◌≡◌, refl, sym, ◌∙◌}
use mathlib.Core.List.{List, [], ◌∷◌, ◌++◌}
use mathlib.Core.Bool.{Bool, true, false, not, ◌&&◌, false≢true}
use lib.ListN.{get_or}
use Rattle.octets.specs.Bytes.{Bytes, all}
use Rattle.octets.proofs.Tests.{both}
use Rattle.fields.specs.Field.{field}
use Rattle.table.specs.Dictionary.{Row, №453, №580, №552, the_ten, header, fields, listed, groups_of, member, frame_tag, in_dictionary}
use Rattle.table.specs.code.Held.{tag_count, tag_at}
use Rattle.table.specs.declared.MsgType.{MsgType}
use Rattle.table.proofs.Lists.{all_ten}
use Rattle.dictionary.specs.Verdict.{Says, Nothing, Past, left, rule5, rule7, rule8, rule9, rule10, said}
use Rattle.dictionary.specs.code.Held.{Stands, Rules9and10, Usual, rules_of_tag, said_of_tag, OfTag}
use Rattle.dictionary.specs.declared.groups.OpenGroup.{OpenGroup}
use Rattle.dictionary.specs.declared.groups.State.{State}
use Rattle.dictionary.proofs.Ending.{closes_none, rule1_ends}
use Rattle.dictionary.proofs.FourToEight.{rule4_some, rule6_outside, left_away, none_in, listed_all}
use Rattle.dictionary.proofs.Saying.{First, stops_in, passes_all, said_known, rule6_silent}
use Rattle.dictionary.proofs.Turns.{silent_at}

-- BY THE TAG, THEN BY THE VALUE
pub tag_said : (m : MsgType) (w : Past) (t : ℕ) (v : Bytes) {r : Says} → First (rules_of_tag m w t v) r → r ≡ said_of_tag m w t v
unfolding said_of_tag
tag_said m w t v F = F.is

module _ (m : MsgType) (w : Past) (t : ℕ) (v : Bytes) {r : Says} (k : in_dictionary t ≡ true) (p : r ≡ said_of_tag m w t v) where
  pub said_by_tag : {f : Finding} → r ≡ Err f → Err f ≡ said m w (field t v)
  unfolding said_of_tag
  said_by_tag {f} e = said_known m w t v (Err f) k (stops_in (rules_of_tag m w t v) (rule9 m t v ∷ rule10 m t v ∷ []) p e)

  pub said_by_value : {y : Says} → r ≡ Nothing → Rules9and10 m t v y → y ≡ said m w (field t v)
  unfolding said_of_tag
  said_by_value {y} e h =
      let l = rule6_silent m t (sym (silent_at (rules_of_tag m w t v) (sym e ∙ p) 3 (omega arith))) in
      said_known m w t v y k (passes_all (rules_of_tag m w t v) (rule9 m t v ∷ rule10 m t v ∷ []) p e (record { is = h.is l }))

-- THE USUAL FIELD. A tag that a message has outside groups is no tag of the frame, and no member of a group of that message
own_tag : MsgType → ℕ → Bool
own_tag m t = not (frame_tag t) && not (member m t)

own_tags : all (λ m. all (λ (r : Row). own_tag m r.tag) (header ++ fields m)) the_ten ≡ true
unfolding own_tag member header fields groups_of №453 №580 №552
own_tags = refl

module _ (m : MsgType) (t : ℕ) (h : listed (header ++ fields m) t ≡ true) where
  own : (not (frame_tag t) ≡ true) × (not (member m t) ≡ true)
  unfolding own_tag
  own = both (not (frame_tag t)) (not (member m t)) (listed_all (own_tag m) (header ++ fields m) (all_ten (λ n. all (λ (r : Row). own_tag n r.tag) (header ++ fields n)) own_tags m) t h)

  no_frame : frame_tag t ≡ false
  no_frame = not-true (frame_tag t) own.0

  no_member : member m t ≡ false
  no_member = not-true (member m t) own.1

pub is_away : (o : Option OpenGroup) → false ≡ is_some o → o ≡ None
is_away None h = refl
is_away (Some c) h = absurd (false≢true h)

module _ (m : MsgType) (st : State) {p : ℕ} (seen met : List Bool) {empty : Bool} (l : p < tag_count) (U : Usual m st (tag_at p) (get_or seen p false) empty) where
  t : ℕ
  t = tag_at p

  silent5 : (w : Past) → Stands w seen met st → rule5 m w.seen t ≡ Nothing
  unfolding rule5 t
  silent5 w S = rw (no_frame m t U.own, no_member m t U.own, sym (S.marked.at p l) ∙ U.new)

  silent7 : (w : Past) → Stands w seen met st → rule7 w.seen t ≡ Nothing
  unfolding rule7 t
  silent7 w S = rw (rw S.over at (go (listed header t) st.over U.timely))
    where
      go : (b over : Bool) → (over ≡ true → b ≡ false) → (b && over) ≡ false
      go b true h = rw (h refl)
      go true false h = refl
      go false false h = refl

  silent8 : (w : Past) (v : Bytes) → Stands w seen met st → rule8 m (left w.inside (field t v)) t ≡ Nothing
  unfolding rule8 t
  silent8 w v S = rw (left_away t (none_in t U.away) w.inside v S.stood, no_member m t U.own)

  pub usual_said : OfTag m seen met st (tag_at p) empty Nothing
  unfolding said_of_tag t
  usual_said = record {
    is = λ w v S q.
        rw (
          sym (rule1_ends t (none_in t U.away) (closes_none U.away) w.inside v S.stood),
          sym ((rule4_some {t = tag_at p} U.some).is v q),
          silent5 w S,
          sym (rule6_outside m t refl U.own),
          silent7 w S,
          silent8 w v S,
        );
  }
