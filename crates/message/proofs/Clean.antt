-- Why the verdict on a message is clean: the walk takes each of its fields, and no required one is missing.
use Prim.Native.Nat.{ℕ}
use native.Mathlib.Omega.{arith}
use mathlib.Core.Path.{◌≡◌, refl, sym, ap, ◌∙◌}
use mathlib.Core.List.{List, [], ◌∷◌, ◌++◌, append-nil}
use mathlib.Core.Bool.{Bool, true, false, not, ◌&&◌, ◌||◌, false≢true}
use mathlib.Core.Option.{Option, none, some}
use lib.Dec.{eqb}
use borrow.Author.Tests.{eqb-true, eq-eqb, not-true}
use Rattle.octets.specs.Bytes.{Bytes, any, all, has, within}
use Rattle.octets.proofs.Tests.{both, neither, or_last}
use Rattle.table.specs.declared.MsgType.{MsgType}
use Rattle.table.specs.Dictionary.{Row, header, fields, administrative, listed, groups_of, member, rows_of, frame_tag, in_dictionary}
use Rattle.dictionary.specs.Verdict.{Clean, nothing_yet, walk}
use Rattle.dictionary.proofs.Taken.{at, Taken, walk_field, walk-over}
use Rattle.message.specs.Message.{Value, ◌is◌, shown, order, valued}
use Rattle.message.specs.Unfit.{required, unwritable, unfit}
use Rattle.message.proofs.Cutting.{parts_of, with_part}
use Rattle.message.proofs.Accepted.{Accepted, accepted}
use Rattle.message.proofs.Seven.{in_place, in_order, needed, known}

-- THE WALK
-- those of some tags that have a value
abbrev pub meet : ℕ → Option Bytes → List ℕ → List ℕ
meet t none l = l
meet t (some v) l = t ∷ l

abbrev pub met : (ℕ → Value) → List ℕ → List ℕ
met vs [] = []
met vs (t ∷ ts) = meet t (shown (vs t)) (met vs ts)

-- a test that fails on all tags fails on those
met_none : (p : ℕ → Bool) (vs : ℕ → Value) (ts : List ℕ) → any p ts ≡ false → any p (met vs ts) ≡ false
met_none p vs [] h = refl
met_none p vs (t ∷ ts) h = let w = neither (p t) (any p ts) h in go (shown (vs t)) (met_none p vs ts w.1)
  where
    go : (o : Option Bytes) → any p (met vs ts) ≡ false → any p (meet t o (met vs ts)) ≡ false
    go none e = e
    go (some v) e = rw ((neither (p t) (any p ts) h).0, e)

-- a tag with a value is met
met_has : (vs : ℕ → Value) (ts : List ℕ) (u : ℕ) → has ts u ≡ true → (shown (vs u) ≡ none → ⊥) → has (met vs ts) u ≡ true
met_has vs [] u h n = absurd (false≢true h)
met_has vs (t ∷ ts) u h n = go (eqb t u) refl h (shown (vs t)) refl (λ k. met_has vs ts u k n)
  where
    go : (b : Bool) → eqb t u ≡ b → (b || has ts u) ≡ true → (o : Option Bytes) → shown (vs t) ≡ o → (has ts u ≡ true → has (met vs ts) u ≡ true) → has (meet t o (met vs ts)) u ≡ true
    go true e k none s f = absurd (n (ap (λ (x : ℕ). shown (vs x)) (sym (eqb-true t u e)) ∙ s))
    go true e k (some v) s f = rw e
    go false e k none s f = f k
    go false e k (some v) s f = rw e (f k)

abbrev pub passed : List ℕ → List ℕ → List ℕ
passed [] past = past
passed (t ∷ ts) past = passed ts (t ∷ past)

passed_has : (ts past : List ℕ) (u : ℕ) → (has ts u || has past u) ≡ true → has (passed ts past) u ≡ true
passed_has [] past u h = h
passed_has (t ∷ ts) past u h = passed_has ts (t ∷ past) u (go (eqb t u) (has ts u) (has past u) h)
  where
    go : (a b c : Bool) → ((a || b) || c) ≡ true → (b || (a || c)) ≡ true
    go true true c e = refl
    go true false c e = refl
    go false b c e = e

-- what the order of the tags says at each
in_place_lem : (m : MsgType) (past seen : List ℕ) (t : ℕ) (v : Bytes) → in_place m past t ≡ true
    → ((p : ℕ → Bool) → any p past ≡ false → any p seen ≡ false) → Accepted m t v → Taken m seen t v
in_place_lem m past seen t v h less A =
    let a = both (in_dictionary t) _ h in
    let b = both (not (frame_tag t || has past t)) _ a.1 in
    let c = both (not (member m t)) _ b.1 in
    let d = both (listed (rows_of m) t) _ c.1 in
    let e = both (not (listed header t && any (λ s. not (listed header s)) past)) (within 1 99_999 t) d.1 in
    let f = neither (frame_tag t) (has past t) (not-true _ b.0) in
    record {
      low = e.1;
      known = a.0;
      fresh = rw f.0 (less (λ y. eqb y t) f.1);
      no_member = not-true _ c.0;
      in_header = header_first (listed header t) (not-true _ e.0);
      own = A.own;
      filled = A.filled;
      of_kind = record { form = A.form; value = A.right };
    }
  where
    header_first : (b : Bool) → (b && any (λ s. not (listed header s)) past) ≡ false → (b && any (λ s. not (listed header s)) seen) ≡ false
    header_first true k = less (λ s. not (listed header s)) k
    header_first false k = refl

module _ (m : MsgType) (a : administrative m ≡ true) (vs : ℕ → Value) where
  walk_clean : (ts past : List ℕ) → in_order m past ts ≡ true → ((t : ℕ) → has ts t ≡ true → unfit m (t is vs t) ≡ false)
      → walk m (at (met vs past)) (parts_of (valued vs ts)) ≡ walk m (at (met vs (passed ts past))) []
  unfolding in_order
  walk_clean [] past h fine = refl
  walk_clean (t ∷ ts) past h fine =
      go (shown (vs t)) (fine t (rw (eq-eqb t t refl))) (walk_clean ts (t ∷ past) (both (in_place m past t) (in_order m (t ∷ past) ts) h).1 (λ u k. fine u (or_last (eqb t u) (has ts u) k)))
    where
      go : (o : Option Bytes) → unwritable m t o ≡ false → walk m (at (meet t o (met vs past))) (parts_of (valued vs ts)) ≡ walk m (at (met vs (passed ts (t ∷ past)))) []
          → walk m (at (met vs past)) (with_part t o (parts_of (valued vs ts))) ≡ walk m (at (met vs (passed ts (t ∷ past)))) []
      go none u e = e
      go (some v) u e =
          walk_field m a (known m a).no_groups (met vs past) t v (parts_of (valued vs ts))
          (in_place_lem m past (met vs past) t v (both (in_place m past t) (in_order m (t ∷ past) ts) h).0 (λ p k. met_none p vs past k) (accepted m t v u))
          ∙ e

-- NO REQUIRED FIELD IS MISSING
-- a required tag is one of the message's
required-among : (l : List ℕ) (rows : List Row) (t : ℕ) → all (λ r. not r.required || has l r.tag) rows ≡ true
    → any (λ r. eqb r.tag t && r.required) rows ≡ true → has l t ≡ true
required-among l [] t h k = absurd (false≢true k)
required-among l (r ∷ rs) t h k =
    let w = both (not r.required || has l r.tag) (all (λ r. not r.required || has l r.tag) rs) h in
    go (eqb r.tag t) refl r.required w.0 k (required-among l rs t w.1)
  where
    go : (b : Bool) → eqb r.tag t ≡ b → (c : Bool) → (not c || has l r.tag) ≡ true → ((b && c) || any (λ r. eqb r.tag t && r.required) rs) ≡ true
        → (any (λ r. eqb r.tag t && r.required) rs ≡ true → has l t ≡ true) → has l t ≡ true
    go true e true g h f = ap (has l) (sym (eqb-true r.tag t e)) ∙ g
    go true e false g h f = f h
    go false e c g h f = f h

rows_are : (m : MsgType) → groups_of m ≡ [] → rows_of m ≡ header ++ fields m
unfolding rows_of
rows_are m g = rw g (append-nil (header ++ fields m))

module _ (m : MsgType) (a : administrative m ≡ true) (vs : ℕ → Value) (ts : List ℕ) (fine : (t : ℕ) → has ts t ≡ true → unfit m (t is vs t) ≡ false)
    (whole : all (λ r. not r.required || has ts r.tag) (rows_of m) ≡ true) where
  end_clean : walk m (at (met vs (passed ts []))) [] ≡ Clean
  unfolding required
  end_clean = walk-over m (met vs (passed ts [])) there
    where
      present : (t : ℕ) → required m t ≡ true → (o : Option Bytes) → unwritable m t o ≡ false → o ≡ none → ⊥
      present t r none u e = false≢true (sym u ∙ r)
      present t r (some v) u e = let z : ◌≡◌ {A = ℕ} 0 1 = cc in omega arith

      all_there : (t : ℕ) → required m t ≡ true → has ts t ≡ true → has (met vs (passed ts [])) t ≡ true
      all_there t r h = met_has vs (passed ts []) t (passed_has ts [] t (rw h)) (present t r (shown (vs t)) (fine t h))

      there : (t : ℕ) → any (λ r. eqb r.tag t && r.required) (header ++ fields m) ≡ true → has (met vs (passed ts [])) t ≡ true
      there t h =
          let k = ap (any (λ r. eqb r.tag t && r.required)) (rows_are m (known m a).no_groups) ∙ h in
          all_there t k (required-among ts (rows_of m) t whole k)

-- THE VERDICT on the row of a message's fields, each of which is fit
pub message-clean : (m : MsgType) → administrative m ≡ true → (vs : ℕ → Value) → ((t : ℕ) → has (35 ∷ order m) t ≡ true → unfit m (t is vs t) ≡ false)
    → walk m nothing_yet (parts_of (valued vs (35 ∷ order m))) ≡ Clean
unfolding needed
message-clean m a vs fine = walk_clean m a vs (35 ∷ order m) [] (known m a).ordered fine ∙ end_clean m a vs (35 ∷ order m) fine (known m a).has_all
