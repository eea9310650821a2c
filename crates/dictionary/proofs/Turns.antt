-- Where the walk stands behind a field that no rule spoke of: skipped, outside groups, the first member of an instance, or another member.
use Rattle.dictionary.specs.declared.groups.Inside.{Inside}
use Rattle.std.specs.Prelude.{Option, Some, None, Ok, Err}
use Prim.Native.Nat.{ℕ, zero, suc, ◌+◌, ◌<◌, ◌≤◌}
use native.Mathlib.Omega.{arith}
use mathlib.Core.Path.{◌≡◌, refl, ap, sym, ◌∙◌, subst}
use mathlib.Core.List.{List, [], ◌∷◌}
use mathlib.Core.Bool.{Bool, true, false, cond, ◌&&◌, and-false}
use lib.ListN.{length, get_or, set, replicate, length-set, length-replicate}
use Rattle.octets.specs.Bytes.{Bytes, has}
use Rattle.fields.specs.Field.{field}
use Rattle.table.specs.Dictionary.{listed, groups_of, in_dictionary, administrative}
use Rattle.dictionary.specs.Verdict.{Says, Nothing, reason◌tag◌, Open, Past, first_of, first_member, left, rule1, rule4, rule6, rule8, rule9, rule10, skipped, said, opened, taken, after}
use Rattle.table.specs.code.Held.{tag_count, tag_at, tags}
use Rattle.dictionary.specs.code.Held.{Flat, AllFlat, away, within, StandsIn, Few, Stands, Over, Opened, begun_of, Remembered}
use Rattle.table.specs.declared.MsgType.{MsgType}
use Rattle.dictionary.specs.declared.groups.State.{State}
use Rattle.dictionary.specs.declared.groups.OpenGroup.{OpenGroup}
use Rattle.dictionary.proofs.FourToEight.{left_away, left_within}
use Rattle.dictionary.proofs.Saying.{known_tag, unknown_tag, unknown_left, unknown_says, rules_heard, known_says, rule6_silent}
use Rattle.dictionary.proofs.Opening.{member_opens_none}
use Rattle.dictionary.proofs.Walking.{mark_more, no_marks}

-- no rule spoke: each of them said nothing
pub silent_at : (l : List Says) → Nothing ≡ first_of l → (i : ℕ) → i < length l → get_or l i Nothing ≡ Nothing
silent_at [] h i k = refl
silent_at ((Ok _) ∷ l) h zero k = refl
silent_at ((Ok _) ∷ l) h (suc i) k = silent_at l h i (omega arith)
silent_at ((Err f) ∷ l) h i k = let z : ◌≡◌ {A = ℕ} 0 1 = cc in absurd (omega arith)

pub record Silent (m : MsgType) (w : Past) (t : ℕ) (v : Bytes) : Type 0 where
  pub silent4 : rule4 t v ≡ Nothing
  pub silent6 : rule6 m t ≡ Nothing
  pub silent8 : rule8 m (left w.inside (field t v)) t ≡ Nothing
  pub silent9 : rule9 m t v ≡ Nothing
  pub silent10 : rule10 m t v ≡ Nothing

pub silent : (m : MsgType) (w : Past) (t : ℕ) (v : Bytes) → in_dictionary t ≡ true → Nothing ≡ said m w (field t v) → Silent m w t v
silent m w t v k h =
    let f = silent_at (rules_heard m w t v) (h ∙ known_says m w t v k) in
    record { silent4 = f 1 (omega arith); silent6 = f 3 (omega arith); silent8 = f 5 (omega arith); silent9 = f 6 (omega arith); silent10 = f 7 (omega arith) }

-- a skipped field
pub unknown_skipped : (m : MsgType) (w : Past) (t : ℕ) (v : Bytes) → in_dictionary t ≡ false → Nothing ≡ said m w (field t v) → skipped m t ≡ true
unfolding skipped
unknown_skipped m w t v k h = rw k (go (administrative m) (silent_at (rule1 w.inside (field t v) ∷ cond (administrative m) Nothing (reason 3 tag t) ∷ []) (h ∙ unknown_says m w t v k) 1 (omega arith)))
  where
    go : (a : Bool) → cond a Nothing (reason 3 tag t) ≡ Nothing → (a && true) ≡ true
    go true h = refl
    go false h = let z : ◌≡◌ {A = ℕ} 0 1 = cc in absurd (omega arith)

pub known_not_skipped : (m : MsgType) (t : ℕ) → in_dictionary t ≡ true → skipped m t ≡ false
unfolding skipped
known_not_skipped m t k = rw k (and-false (administrative m))

-- where the walk stands behind a field that no rule spoke of: one that is skipped, ..
pub skips : (m : MsgType) {w : Past} (t : ℕ) (v : Bytes) {seen met : List Bool} {st : State} → Stands w seen met st → has tags t ≡ false → said m w (field t v) ≡ Nothing
    → Stands (after m w (field t v)) seen met (record { over = st.over; group = None })
unfolding after
skips m {w} t v S u q =
    rw (unknown_skipped m w t v (unknown_tag t u) (sym q), unknown_left t u w.inside v S.stood)
    (record { marked = S.marked; over = S.over; stood = away refl })

pub after-taken : (m : MsgType) (w : Past) (t : ℕ) (v : Bytes) (gs : List Open) → in_dictionary t ≡ true → left w.inside (field t v) ≡ gs → after m w (field t v) ≡ taken m w.seen gs t v
unfolding after
after-taken m w t v gs k l = rw (known_not_skipped m t k, l)

pub taken_outside : (m : MsgType) (seen : List ℕ) (t : ℕ) (v : Bytes) → taken m seen [] t v ≡ record { seen = t ∷ seen; inside = opened (groups_of m) t v }
unfolding taken
taken_outside m seen t v = refl

-- a member opens no group
taken-first : (m : MsgType) (seen : List ℕ) (g : Open) (t : ℕ) (v : Bytes) → Flat g.group → listed g.group.members t ≡ true → first_member g.group.members t ≡ true
    → taken m seen (g ∷ []) t v ≡ record { seen = seen; inside = record { group = g.group; count = g.count; begun = g.begun + 1; last = t ∷ [] } ∷ [] }
unfolding taken
taken-first m seen g t v T l f = rw (member_opens_none m g.group t v T l, f)

taken_other : (m : MsgType) (seen : List ℕ) (g : Open) (t : ℕ) (v : Bytes) → Flat g.group → listed g.group.members t ≡ true → first_member g.group.members t ≡ false
    → taken m seen (g ∷ []) t v ≡ record { seen = seen; inside = record { group = g.group; count = g.count; begun = g.begun; last = t ∷ g.last } ∷ [] }
unfolding taken
taken_other m seen g t v T l f = rw (member_opens_none m g.group t v T l, f)

few_one : {o : Option OpenGroup} {c : OpenGroup} → o ≡ Some c → (q : ℕ) → Few o q → c.begun + 1 ≤ q + 1
few_one {c = c} e q k = let j : Few (Some c) q = rw e at k in omega arith

pub few_more : (o : Option OpenGroup) {k n : ℕ} → k ≤ n → Few o k → Few o n
few_more None l h = tt
few_more (Some c) l h = omega arith

module _ {p : ℕ} {st : State} {v : Bytes} {seen met : List Bool} (h : p < tag_count) (k : length seen ≡ 128) (l : length met ≡ 128) where
  -- .. one outside groups, ..
  pub notes : {over2 : Bool} {g2 : Option OpenGroup} → StandsIn st.group (tag_at p) None → Over st.over (tag_at p) over2 → Opened (tag_at p) v g2 → Remembered seen met st (tag_at p) v (set seen p true) met (record { over = over2; group = g2 })
  notes {over2} {g2} n O N = record {
    is = λ m w S F q.
        let o = left_away (tag_at p) n w.inside v S.stood in
        let x = silent m w (tag_at p) v (known_tag p h) (sym q) in
        subst (λ (z : Past). Stands z (set seen p true) met (record { over = over2; group = g2 })) (sym (after-taken m w (tag_at p) v [] (known_tag p h) o ∙ taken_outside m w.seen (tag_at p) v))
        (record {
          marked = mark_more h k S.marked;
          over = O.is w.seen S.over;
          stood = N.opens m met (rule6_silent m (tag_at p) (sym x.silent6)) (x.silent9, x.silent10);
        });
    few = λ q x. few_more g2 (omega arith) N.none;
    seen_long = length-set seen p true ∙ k;
    met_long = l;
  }

  -- .. and one in the open group
  module _ {x : Inside} (n : StandsIn st.group (tag_at p) (Some x)) where
    pub begins_instance : {g2 : OpenGroup} → x.first ≡ true → g2 ≡ begun_of x.group → Remembered seen met st (tag_at p) v seen (set (replicate 128 false) p true) (record { over = st.over; group = Some g2 })
    begins_instance {g2} f j = record {
      is = λ m w S F q.
          let y = left_within n w.inside v S.stood in
          let g = y.0 in
          let I = y.1.1 in
          let a = after-taken m w (tag_at p) v (g ∷ []) (known_tag p h) y.1.2 ∙ taken-first m w.seen g (tag_at p) v (subst AllFlat y.1.0 F).0 y.1.3 (y.1.4 ∙ f) in
          subst (λ (z : Past). Stands z seen (set (replicate 128 false) p true) (record { over = st.over; group = Some g2 })) (sym a)
          (rw j (record {
            marked = S.marked;
            over = S.over;
            stood = within refl (record { three = I.three; counter = I.counter; count = I.count; begun = ap (λ (z : ℕ). z + 1) I.begun; last = λ z. mark_more h (length-replicate 128 false) no_marks });
          }));
      few = λ q y. rw j (few_one n.0 q y);
      seen_long = k;
      met_long = length-set (replicate 128 false) p true ∙ length-replicate 128 false;
    }

    pub joins_instance : x.first ≡ false → Remembered seen met st (tag_at p) v seen (set met p true) st
    joins_instance f = record {
      is = λ m w S F q.
          let y = left_within n w.inside v S.stood in
          let g = y.0 in
          let I = y.1.1 in
          let a = after-taken m w (tag_at p) v (g ∷ []) (known_tag p h) y.1.2 ∙ taken_other m w.seen g (tag_at p) v (subst AllFlat y.1.0 F).0 y.1.3 (y.1.4 ∙ f) in
          subst (λ (z : Past). Stands z seen (set met p true) st) (sym a)
          (record {
            marked = S.marked;
            over = S.over;
            stood = within n.0 (record { three = I.three; counter = I.counter; count = I.count; begun = I.begun; last = λ z. mark_more h l (I.last z) });
          });
      few = λ q y. few_more st.group (omega arith) y;
      seen_long = k;
      met_long = length-set met p true ∙ l;
    }
