-- The walk along the parts of a body: where it stands before each part, and one turn of it for each way that a part can go.
use Rattle.std.specs.Prelude.{Option, None, Ok, Err}
use Rattle.dictionary.specs.declared.Finding.{Finding}
use Rattle.dictionary.specs.declared.Unclean.TheVariants.{Found}
use Prim.Native.Nat.{ℕ, ◌+◌, ◌-◌, ◌<◌}
use native.Mathlib.Omega.{arith}
use borrow.Author.Tests.{eqb-true, eqb-false}
use mathlib.Core.Path.{◌≡◌, refl, ap, sym, ◌∙◌, subst}
use mathlib.Core.List.{List, [], ◌∷◌, ◌++◌}
use mathlib.Core.Bool.{Bool, true, false, cond, not, ◌&&◌, ◌||◌, false≢true}
use mathlib.Core.Logic.{inl, inr}
use lib.Dec.{eqb}
use lib.ListN.{length, get_or, take, drop, set, replicate, length-replicate, get_or-replicate}
use lib.Seq.{get_or-set_same, get_or-set_other}
use Rattle.octets.specs.Bytes.{Bytes, has, value}
use Rattle.fields.specs.Field.{Part, field, malformed, parts}
use Rattle.fields.specs.Item.{Span, Lies, Cut}
use Rattle.fields.specs.declared.Item.{Item}
use Rattle.fields.specs.declared.Item.TheVariants.{Field, Malformed, End, NoBody}
use Rattle.fields.proofs.Rows.{Step, Stepped, parts-step}
use Rattle.table.specs.Dictionary.{Row, Group, №453, №580, №552, header, fields, groups_of}
use Rattle.dictionary.specs.Verdict.{Says, Nothing, reason◌tag◌, Verdict, Clean, Open, Past, first_of, first_member, ends, left, rule1, rule2, skipped, said, opened, joined, taken, after, verdict_by, walk, nothing_yet, missing}
use Rattle.table.specs.code.Held.{tag_count, tag_at, Marked}
use Rattle.dictionary.specs.code.Held.{is_report, Flat, AllFlat, away, Few, Stands, ClosingAll, Missing, Finished, EndedBy, Ended}
use Rattle.table.specs.declared.MsgType.{MsgType}
use Rattle.table.specs.declared.MsgType.TheVariants.{Heartbeat, TestRequest, ResendRequest, Reject, SequenceReset, Logout, Logon, OrderCancelRequest, TradeCaptureReportRequest, TradeCaptureReport}
use Rattle.dictionary.specs.declared.groups.State.{State}
use Rattle.dictionary.specs.declared.groups.OpenGroup.{OpenGroup}
use Rattle.table.proofs.Places.{one_place}
use Rattle.dictionary.proofs.Ending.{alone}

-- a mark that is set, and no marks
pub mark_more : {p : ℕ} {marks : List Bool} {met : List ℕ} → p < tag_count → length marks ≡ 128 → Marked marks met → Marked (set marks p true) (tag_at p ∷ met)
mark_more {p} {marks} {met} k n M = record { at = λ q h. go q h (eqb (tag_at p) (tag_at q)) refl }
  where
    go : (q : ℕ) → q < tag_count → (b : Bool) → eqb (tag_at p) (tag_at q) ≡ b → get_or (set marks p true) q false ≡ (b || has met (tag_at q))
    go q h true x =
        let s : p ≡ q = one_place p q k h (eqb-true (tag_at p) (tag_at q) x) in
        let j : q < tag_count = h in
        rw s (get_or-set_same marks q true false (omega arith))
    go q h false x =
        get_or-set_other marks p q true false (λ s. eqb-false (tag_at p) (tag_at q) x (ap tag_at (sym s))) ∙ M.at q h

pub no_marks : Marked (replicate 128 false) []
no_marks = record { at = λ p h. get_or-replicate 128 p false false (omega arith) }

-- the nine types open flat groups only
FlatGroups : List Group → Type 0
FlatGroups [] = Unit {0}
FlatGroups (g ∷ gs) = Flat g × FlatGroups gs

flat_of : (m : MsgType) → is_report m ≡ false → FlatGroups (groups_of m)
unfolding FlatGroups groups_of fields №453 №580 №552
flat_of Heartbeat h = tt
flat_of TestRequest h = tt
flat_of ResendRequest h = tt
flat_of Reject h = tt
flat_of SequenceReset h = tt
flat_of Logout h = tt
flat_of Logon h = tt
flat_of OrderCancelRequest h = (inl refl, tt)
flat_of TradeCaptureReportRequest h = (inl refl, (inr refl, tt))
flat_of TradeCaptureReport h = absurd (false≢true (sym h))

opened_flat : (gs : List Group) (t : ℕ) (v : Bytes) → FlatGroups gs → AllFlat (opened gs t v)
unfolding FlatGroups
opened_flat [] t v F = tt
opened_flat (g ∷ gs) t v F = go (eqb g.counter t) (opened_flat gs t v F.1)
  where
    go : (b : Bool) → AllFlat (opened gs t v) → AllFlat (cond b (record { group = g; count = value v; begun = 0; last = [] } ∷ []) (opened gs t v))
    go true k = (F.0, tt)
    go false k = k

left_flat : (gs : List Open) (p : Part) → AllFlat gs → AllFlat (left gs p)
unfolding left
left_flat [] p F = tt
left_flat (g ∷ gs) p F = go (ends g.group.members p) (left_flat gs p F.1)
  where
    go : (b : Bool) → AllFlat (left gs p) → AllFlat (cond b (left gs p) (g ∷ gs))
    go true k = k
    go false k = F

append_flat : (gs ks : List Open) → AllFlat gs → AllFlat ks → AllFlat (gs ++ ks)
append_flat [] ks F K = K
append_flat (g ∷ gs) ks F K = (F.0, append_flat gs ks F.1 K)

taken_flat : (m : MsgType) (seen : List ℕ) (gs : List Open) (t : ℕ) (v : Bytes) → is_report m ≡ false → AllFlat gs → AllFlat (taken m seen gs t v).inside
unfolding taken
taken_flat m seen [] t v n F = opened_flat (groups_of m) t v (flat_of m n)
taken_flat m seen (g ∷ gs) t v n F = append_flat (opened (groups_of m) t v) (joined g t ∷ gs) (opened_flat (groups_of m) t v (flat_of m n)) (go (first_member g.group.members t), F.1)
  where
    go : (b : Bool) → Flat (cond {A = Open} b (record { group = g.group; count = g.count; begun = g.begun + 1; last = t ∷ [] }) (record { group = g.group; count = g.count; begun = g.begun; last = t ∷ g.last })).group
    go true = F.0
    go false = F.0

after_flat : (m : MsgType) (w : Past) (p : Part) → is_report m ≡ false → AllFlat w.inside → AllFlat (after m w p).inside
unfolding after
after_flat m w malformed n F = F
after_flat m w (field t v) n F = go (skipped m t)
  where
    go : (b : Bool) → AllFlat (cond {A = Past} b (record { seen = w.seen; inside = left w.inside (field t v) }) (taken m w.seen (left w.inside (field t v)) t v)).inside
    go true = left_flat w.inside (field t v) F
    go false = taken_flat m w.seen (left w.inside (field t v)) t v n (left_flat w.inside (field t v) F)

-- where the walk stands before the part at a place of the body
pub record At (m : MsgType) (body : Bytes) (seen met : List Bool) (st : State) (at : ℕ) : Type 0 where
  pub past : Past
  pub stands : Stands past seen met st
  pub flat : AllFlat past.inside
  pub rest : walk m nothing_yet (parts body) ≡ walk m past (parts (drop at body))
  pub few : Few st.group at
  pub seen_long : length seen ≡ 128
  pub met_long : length met ≡ 128

pub begins : (m : MsgType) (body : Bytes) → At m body (replicate 128 false) (replicate 128 false) (record { over = false; group = None }) 0
begins m body = record {
  past = nothing_yet;
  stands = record { marked = no_marks; over = refl; stood = away refl };
  flat = tt;
  rest = refl;
  few = tt;
  seen_long = length-replicate 128 false;
  met_long = length-replicate 128 false;
}

-- a part that is found fault with, and one that is not
pub walk_on : (m : MsgType) (w : Past) (body part : Bytes) (says : Part) (at next : ℕ) → Step body at part says next
    → walk m w (parts (drop at body)) ≡ verdict_by (said m w says) (walk m (after m w says) (parts (drop next body)))
walk_on m w body part says at next S = ap (walk m w) S.row ∙ rw S.part_is

pub malformed-speaks : (m : MsgType) (w : Past) (x y : Verdict) → verdict_by (said m w malformed) x ≡ verdict_by (said m w malformed) y
unfolding said rule2
malformed-speaks m w x y = go (rule1 w.inside malformed)
  where
    go : (s : Says) → verdict_by (first_of (s ∷ reason 0 tag 0 ∷ [])) x ≡ verdict_by (first_of (s ∷ reason 0 tag 0 ∷ [])) y
    go (Ok _) = refl
    go (Err f) = refl

module _ {m : MsgType} {body : Bytes} {seen met : List Bool} {st : State} {at : ℕ} (A : At m body seen met st at) where
  pub ends_with : {part : Bytes} {says : Part} {next : ℕ} {r : Says} {f : Finding} → Step body at part says next → r ≡ said m A.past says → r ≡ Err f
      → Err (Found f) ≡ walk m nothing_yet (parts body)
  ends_with {part} {says} {next} S s e = sym (A.rest ∙ walk_on m A.past body part says at next S ∙ rw (sym s ∙ e))

  pub goes_on : {part : Bytes} {says : Part} {next : ℕ} {r : Says} {seen2 met2 : List Bool} {st2 : State} → Step body at part says next → r ≡ said m A.past says → r ≡ Nothing
      → Stands (after m A.past says) seen2 met2 st2 → is_report m ≡ false → Few st2.group next → length seen2 ≡ 128 → length met2 ≡ 128 → At m body seen2 met2 st2 next
  goes_on {part} {says} {next} S s e T n f k l = record {
    past = after m A.past says;
    stands = T;
    flat = after_flat m A.past says n A.flat;
    rest = A.rest ∙ walk_on m A.past body part says at next S ∙ ap (λ (x : Says). verdict_by x (walk m (after m A.past says) (parts (drop next body)))) (sym s ∙ e);
    few = f;
    seen_long = k;
    met_long = l;
  }

-- what the item found at a place is
module _ {body : Bytes} {at : ℕ} {r : Item} (C : Cut body at r) where
  pub field_lies : {t s e n : ℕ} → r ≡ Field t s e n → Span body at s e n
  field_lies h = (subst (Lies body at) h C.lies).2

  pub field_step : {t s e n u : ℕ} → r ≡ Field t s e n → u ≡ t → Step body at (take (e - at) (drop at body)) (field u (take (e - s) (drop s body))) n
  field_step {t} {s} {e} {n} h k = subst (λ (x : ℕ). Step body at (take (e - at) (drop at body)) (field x (take (e - s) (drop s body))) n) (sym k) (subst (Stepped body at) h (parts-step C))

  pub malformed_step : {s e n : ℕ} → r ≡ Malformed s e n → Step body at (take (e - at) (drop at body)) malformed n
  malformed_step h = subst (Stepped body at) h (parts-step C)

  pub end_row : r ≡ End → parts (drop at body) ≡ []
  end_row h = subst (Stepped body at) h (parts-step C)

  pub never_none : r ≡ NoBody → ⊥
  never_none h = subst (Lies body at) h C.lies

-- what is no field
pub other_ends : {m : MsgType} {seen met : List Bool} {o : Option OpenGroup} {r : Verdict} (i : Item) → ((s e n : ℕ) → i ≡ Malformed s e n → ⊥) → (i ≡ End → ⊥) → Ended m seen met o i r
other_ends (Field t s e n) k h = record { is = λ w M S. tt }
other_ends (Malformed s e n) k h = absurd (k s e n refl)
other_ends End k h = absurd (h refl)
other_ends NoBody k h = record { is = λ w M S. tt }

pub ends-here : {m : MsgType} {body : Bytes} {seen met : List Bool} {st : State} {at : ℕ} (A : At m body seen met st at) {i : Item} {f : Verdict} → Cut body at i
    → ((t s e n : ℕ) → i ≡ Field t s e n → ⊥) → Ended m seen met st.group i f → f ≡ walk m nothing_yet (parts body)
ends-here {m} {body} A {i} {f} C K E = go i refl K (E.is A.past A.stands.marked A.stands.stood)
  where
    go : (j : Item) → i ≡ j → ((t s e n : ℕ) → j ≡ Field t s e n → ⊥) → EndedBy m A.past j f → f ≡ walk m nothing_yet (parts body)
    go (Field t s e n) h k v = absurd (k t s e n refl)
    go (Malformed s e n) h k v = v ∙ malformed-speaks m A.past Clean _ ∙ sym (walk_on m A.past body _ malformed _ _ (malformed_step C h)) ∙ sym A.rest
    go End h k v = v ∙ sym (A.rest ∙ ap (walk m A.past) (end_row C h))
    go NoBody h k v = absurd (never_none C h)

-- the end of the body
pub missing-append : (k l : List Row) (met : List ℕ) → missing (k ++ l) met ≡ first_of (missing k met ∷ missing l met ∷ [])
missing-append [] l met = sym (alone (missing l met))
missing-append (r ∷ k) l met = go (r.required && not (has met r.tag)) (missing-append k l met)
  where
    go : (b : Bool) → missing (k ++ l) met ≡ first_of (missing k met ∷ missing l met ∷ [])
        → cond b (reason 1 tag r.tag) (missing (k ++ l) met) ≡ first_of (cond b (reason 1 tag r.tag) (missing k met) ∷ missing l met ∷ [])
    go true h = refl
    go false h = h

module _ {m : MsgType} {seen met : List Bool} {o : Option OpenGroup} {r : Says} (C : ClosingAll met o r) where
  pub finish_closing : {f : Finding} → r ≡ Err f → Finished m seen met o (Err f)
  finish_closing e = record { is = λ w M S. rw (sym (C.is w.inside S) ∙ e) }

  module _ {h : Says} (n : r ≡ Nothing) (H : Missing seen header h) where
    pub finish_header : {f : Finding} → h ≡ Err f → Finished m seen met o (Err f)
    finish_header e = record { is = λ w M S. rw (sym (C.is w.inside S) ∙ n, missing-append header (fields m) w.seen, sym (H.is w.seen M) ∙ e) }

    pub finish_own : {x : Says} → h ≡ Nothing → Missing seen (fields m) x → Finished m seen met o x
    finish_own {x} e O = record { is = λ w M S. rw (sym (C.is w.inside S) ∙ n, missing-append header (fields m) w.seen, sym (H.is w.seen M) ∙ e, sym (O.is w.seen M), alone (first_of (x ∷ [])), alone x) }
