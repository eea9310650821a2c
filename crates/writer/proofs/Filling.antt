-- The values of a call, one place further: what the tables say at a place, and what has been put up to it.
use Prim.Native.Nat.{ℕ, ◌+◌, ◌≤◌, ◌<◌}
use native.Mathlib.Numerals.{add-one}
use native.Mathlib.Omega.{arith}
use mathlib.Core.Path.{◌≡◌, refl, sym, ap, ◌∙◌, subst}
use mathlib.Core.List.{List, [], ◌∷◌, ◌++◌, map, append-nil, head-eq_of_cons-eq, tail-eq_of_cons-eq}
use mathlib.Core.Bool.{Bool, true, false, cond, ◌&&◌, ◌||◌, false≢true}
use lib.Dec.{eqb, leb, ltb}
use lib.ListN.{length, take, get_or, get_or-map}
use lib.Seq.{take-suc, take_all}
use borrow.Author.Tests.{eqb-true, leb-true, ltb-true}
use Rattle.octets.specs.Bytes.{Bytes, any, has}
use Rattle.octets.proofs.Tests.{both, or_last, all_below, at_below, any_append, map_at}
use Rattle.kinds.specs.Kind.{Kind, kind_of}
use Rattle.kinds.specs.Judged.{meaning}
use Rattle.kinds.specs.declared.Kind.TheVariants.{Text}
use Rattle.table.specs.declared.MsgType.{MsgType}
use Rattle.table.specs.Dictionary.{№453, №580, №552, header, fields, code35, groups_of, rows_of, listed, kind_in, administrative}
use Rattle.table.specs.code.Held.{agree}
use Rattle.table.proofs.Lists.{agree_true}
use Rattle.message.specs.Message.{Value, number, bytes, Field, ◌is◌, own, order, field, row, valued}
use Rattle.writer.specs.Tags.{tags, is_numeric, numeric}
use Rattle.std.specs.Prelude as Given
use Rattle.std.specs.Prelude.{Some, None}
use Rattle.writer.specs.declared.Given.{Given}
use Rattle.writer.specs.declared.slots.TheConstants.{SLOTS}
use Rattle.writer.specs.Call.{Values, place_in, value_for, value_in, refused8}
use Rattle.message.specs.Message.{part}
use Rattle.message.specs.Unfit.{required, unfit}
use Rattle.message.specs.Wrote.{Wrote}
use Rattle.writer.specs.declared.types.Marks.{Marks}
use Rattle.writer.specs.declared.types.Slot.{Slot}
use Rattle.writer.specs.declared.types.Entry.{Entry}
use Rattle.writer.specs.code.Held.{bit_of, tag_at, Marked, seven_rows, Holds, value_by, value_of, nine_digits, PutOne, PutAll}
use Rattle.message.specs.code.Writable.{most, as_read}
use Rattle.message.proofs.Writes.{more, reword}
use Rattle.message.proofs.Seven.{each}
use Rattle.writer.proofs.Tagged.{not_listed}

-- WHAT THE TABLES SAY AT A PLACE
map_same : (f g : ℕ → Kind) (ts : List ℕ) (u : ℕ) → map f ts ≡ map g ts → has ts u ≡ true → f u ≡ g u
map_same f g [] u e h = absurd (false≢true h)
map_same f g (t ∷ ts) u e h = go (eqb t u) refl h (map_same f g ts u (tail-eq_of_cons-eq e))
  where
    go : (b : Bool) → eqb t u ≡ b → (b || has ts u) ≡ true → (has ts u ≡ true → f u ≡ g u) → f u ≡ g u
    go true q k r = subst (λ (x : ℕ). f x ≡ g x) (eqb-true t u q) (head-eq_of_cons-eq e)
    go false q k r = r k

many_tags : length tags ≡ 21
unfolding tags
many_tags = refl

unfoldable pub sound_at : ℕ → Bool
sound_at k =
    eqb (place_in tags (tag_at k)) k
    && (agree (numeric (tag_at k)) (is_numeric (kind_in seven_rows (tag_at k)))
    && (ltb (tag_at k) 100_000 && (leb (most as_read (kind_in seven_rows (tag_at k))) 256 && (nine_digits (kind_in seven_rows (tag_at k)) && has tags (tag_at k)))))

sound : all_below 21 sound_at ≡ true
unfolding sound_at tags numeric kind_of seven_rows header fields
sound = refl

pub record SoundAt (k : ℕ) : Type 0 where
  pub placed : place_in tags (tag_at k) ≡ k
  pub numbered : numeric (tag_at k) ≡ is_numeric (kind_in seven_rows (tag_at k))
  pub tag_small : tag_at k < 100_000
  pub value_short : most as_read (kind_in seven_rows (tag_at k)) ≤ 256
  pub value_small : nine_digits (kind_in seven_rows (tag_at k)) ≡ true
  pub among : has tags (tag_at k) ≡ true

pub sound_at_lem : (k : ℕ) → k < 21 → SoundAt k
unfolding sound_at
sound_at_lem k h =
    let a = both (eqb (place_in tags (tag_at k)) k) _ (at_below 21 sound_at sound k h) in
    let b = both (agree (numeric (tag_at k)) (is_numeric (kind_in seven_rows (tag_at k)))) _ a.1 in
    let c = both (ltb (tag_at k) 100_000) _ b.1 in
    let d = both (leb (most as_read (kind_in seven_rows (tag_at k))) 256) _ c.1 in
    let e = both (nine_digits (kind_in seven_rows (tag_at k))) (has tags (tag_at k)) d.1 in
    record {
      placed = eqb-true _ k a.0;
      numbered = agree_true _ _ b.0;
      tag_small = ltb-true _ 100_000 c.0;
      value_short = leb-true _ 256 d.0;
      value_small = e.0;
      among = e.1;
    }

-- a tag has the same kind in every message
kinds-same : (m : MsgType) → administrative m ≡ true → map (kind_in seven_rows) (order m) ≡ map (kind_in (rows_of m)) (order m)
unfolding order own code35 seven_rows rows_of header fields №453 №580 №552 groups_of kind_of
kinds-same =
    each (λ m. map (kind_in seven_rows) (order m) ≡ map (kind_in (rows_of m)) (order m))
    (record { heartbeat = refl; test_request = refl; resend_request = refl; reject = refl; sequence_reset = refl; logout = refl; logon = refl })

kind_own : (m : MsgType) → administrative m ≡ true → (t : ℕ) → has tags t ≡ true → listed (rows_of m) t ≡ true → kind_in seven_rows t ≡ kind_in (rows_of m) t
kind_own m a t h l = map_same (kind_in seven_rows) (kind_in (rows_of m)) (order m) t (kinds-same m a) (go (has (order m) t) refl)
  where
    go : (b : Bool) → has (order m) t ≡ b → has (order m) t ≡ true
    go true e = e
    go false e = absurd (false≢true (sym (not_listed m a t h e) ∙ l))

-- ONE PLACE of a call
abbrev pub no_slot : Slot
no_slot = record { 0 = 0; 1 = Text 0 }

abbrev pub slot_at : ℕ → Slot
slot_at k = get_or SLOTS k no_slot

pub many_slots : length SLOTS ≡ 21
many_slots = refl

abbrev pub entry_at : Bool → Bool → Values → ℕ → Entry
entry_at o n values k = record { tag = (slot_at k).0; kind = (slot_at k).1; own = o; needed = n; value = get_or values k None }

tags_are : map (λ (s : Slot). s.0) SLOTS ≡ tags
unfolding tags
tags_are = refl

kinds_are : map (λ (s : Slot). meaning s.1) SLOTS ≡ map (kind_in seven_rows) tags
unfolding tags seven_rows header fields kind_of
kinds_are = refl

module _ (k : ℕ) (h : k < 21) where
  slot_tag : (slot_at k).0 ≡ tag_at k
  slot_tag = sym (get_or-map (λ (s : Slot). s.0) SLOTS k no_slot) ∙ ap (λ (l : List ℕ). get_or l k 0) tags_are

  slot_kind : meaning (slot_at k).1 ≡ kind_in seven_rows (tag_at k)
  slot_kind =
      sym (get_or-map (λ (s : Slot). meaning s.1) SLOTS k no_slot) ∙ ap (λ (l : List Kind). get_or l k (meaning (Text 0))) kinds_are ∙ map_at (kind_in seven_rows) 0 (meaning (Text 0)) tags k (omega (arith, many_tags))

  pub slot_bounds : ((slot_at k).0 < 100_000) × (most as_read (meaning (slot_at k).1) ≤ 256) × (nine_digits (meaning (slot_at k).1) ≡ true)
  slot_bounds = (
    subst (λ (t : ℕ). t < 100_000) (sym slot_tag) (sound_at_lem k h).tag_small,
    subst (λ (x : Kind). most as_read x ≤ 256) (sym slot_kind) (sound_at_lem k h).value_short,
    ap nine_digits slot_kind ∙ (sound_at_lem k h).value_small,
  )

  module _ (values : Values) (s : Bytes) (marks : Marks) (o n : Bool) (eo : o ≡ bit_of marks.own k) (en : n ≡ bit_of marks.needed k) where
    abbrev pub entry : Entry
    entry = entry_at o n values k

    holds : (m : MsgType) → administrative m ≡ true → Marked m marks → Holds m entry
    holds m a M =
        record {
          own = eo ∙ M.own k h ∙ ap (listed (rows_of m)) (sym slot_tag);
          needed = en ∙ M.needed k h ∙ ap (required m) (sym slot_tag);
          kind = λ l.
              let l' = ap (listed (rows_of m)) (sym slot_tag) ∙ l in
              slot_kind ∙ kind_own m a (tag_at k) (sound_at_lem k h).among l' ∙ ap (kind_in (rows_of m)) (sym slot_tag);
        }

    value_is : value_of entry s ≡ value_in values s (tag_at k)
    unfolding value_in
    value_is = by (get_or values k None) ∙ ap (λ (j : ℕ). value_for s (tag_at k) (get_or values j None)) (sym (sound_at_lem k h).placed)
      where
        by : (v : Given.Option Given) → value_by (meaning entry.kind) s v ≡ value_for s (tag_at k) v
        by None = refl
        by (Some g) = ap (λ (b : Bool). cond b (number g.a) (bytes (part s g.a g.b))) (ap is_numeric slot_kind ∙ sym (sound_at_lem k h).numbered)

    -- what was put for the entry was put for the value of its tag
    pub put_here : (d d' : Bytes) (at : ℕ) (r : Given.Option ℕ) → ((m : MsgType) → Holds m entry → PutOne m entry.tag (value_of entry s) d d' at r)
        → (m : MsgType) → administrative m ≡ true → Marked m marks → PutOne m (tag_at k) (value_in values s (tag_at k)) d d' at r
    put_here d d' at r P m a M =
        subst (λ (t : ℕ). PutOne m t (value_in values s (tag_at k)) d d' at r) slot_tag
        (subst (λ (v : Value). PutOne m entry.tag v d d' at r) value_is (P m (holds m a M)))

-- the answer by its case
pub told : {r r' : Given.Option ℕ} → r ≡ r' → (t : ℕ) (v : Value) (d d' : Bytes) (at : ℕ) (marks : Marks) → ((m : MsgType) → administrative m ≡ true → Marked m marks → PutOne m t v d d' at r)
    → (m : MsgType) → administrative m ≡ true → Marked m marks → PutOne m t v d d' at r'
told e t v d d' at marks P m a M = subst (λ (x : Given.Option ℕ). PutOne m t v d d' at x) e (P m a M)

-- UP TO A PLACE
valued-append : (vs : ℕ → Value) (ts us : List ℕ) → valued vs (ts ++ us) ≡ valued vs ts ++ valued vs us
valued-append vs [] us = refl
valued-append vs (t ∷ ts) us = ap (λ (l : List Field). (t is vs t) ∷ l) (valued-append vs ts us)

one_more : (vs : ℕ → Value) (k : ℕ) → k < 21 → valued vs (take (k + 1) tags) ≡ valued vs (take k tags) ++ (tag_at k is vs (tag_at k) ∷ [])
one_more vs k h =
    let e : take (k + 1) tags ≡ take k tags ++ (tag_at k ∷ []) = rw add-one (take-suc tags k 0 (omega (arith, many_tags))) in
    ap (valued vs) e ∙ valued-append vs (take k tags) (tag_at k ∷ [])

pub put_further : (vs : ℕ → Value) (k : ℕ) → k < 21 → {d d₁ d₂ : Bytes} {at to next : ℕ} → Wrote d d₁ at to (row (valued vs (take k tags))) → Wrote d₁ d₂ to next (field (tag_at k is vs (tag_at k)))
    → Wrote d d₂ at next (row (valued vs (take (k + 1) tags)))
put_further vs k h {d} {d₁} {d₂} {at} {to} {next} w x =
    subst (λ (fs : List Field). Wrote d d₂ at next (row fs)) (sym (one_more vs k h)) (more (valued vs (take k tags)) (tag_at k is vs (tag_at k) ∷ []) w (reword (sym (append-nil (field (tag_at k is vs (tag_at k))))) x))

pub fit_further : (m : MsgType) (vs : ℕ → Value) (k : ℕ) → k < 21 → any (unfit m) (valued vs (take k tags)) ≡ false → unfit m (tag_at k is vs (tag_at k)) ≡ false
    → any (unfit m) (valued vs (take (k + 1) tags)) ≡ false
fit_further m vs k h e u = ap (any (unfit m)) (one_more vs k h) ∙ any_append (unfit m) (valued vs (take k tags)) (tag_at k is vs (tag_at k) ∷ []) ∙ rw (e, u)

-- one that is unfit is enough
any_there : (m : MsgType) (vs : ℕ → Value) (ts : List ℕ) (u : ℕ) → has ts u ≡ true → unfit m (u is vs u) ≡ true → any (unfit m) (valued vs ts) ≡ true
any_there m vs [] u h e = absurd (false≢true h)
any_there m vs (t ∷ ts) u h e = go (eqb t u) refl h (λ k. any_there m vs ts u k e)
  where
    first : unfit m (t is vs t) ≡ true → (unfit m (t is vs t) || any (unfit m) (valued vs ts)) ≡ true
    first q = rw q

    go : (b : Bool) → eqb t u ≡ b → (b || has ts u) ≡ true → (has ts u ≡ true → any (unfit m) (valued vs ts) ≡ true) → (unfit m (t is vs t) || any (unfit m) (valued vs ts)) ≡ true
    go true q k f = first (subst (λ (x : ℕ). unfit m (x is vs x) ≡ true) (sym (eqb-true t u q)) e)
    go false q k f = or_last (unfit m (t is vs t)) (any (unfit m) (valued vs ts)) (f k)

pub unfit-here : (m : MsgType) (vs : ℕ → Value) (k : ℕ) → k < 21 → unfit m (tag_at k is vs (tag_at k)) ≡ true → refused8 m vs ≡ true
unfolding refused8
unfit-here m vs k h e = any_there m vs tags (tag_at k) (sound_at_lem k h).among e

pub refused_put : (m : MsgType) (vs : ℕ → Value) (d d' : Bytes) (at : ℕ) {r : Given.Option ℕ} → r ≡ None → refused8 m vs ≡ true → PutAll m vs d d' at r
refused_put m vs d d' at e f = subst (λ (x : Given.Option ℕ). PutAll m vs d d' at x) (sym e) f

-- all of them
pub all_put : (k : ℕ) → 21 ≤ k → take k tags ≡ tags
all_put k h = take_all k tags (omega (arith, many_tags))
