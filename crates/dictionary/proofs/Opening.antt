-- The state behind a field outside groups: the header that may be over, and the group that a count field opens.
use Rattle.std.specs.Prelude.{Option, Some, None}
use Prim.Native.Nat.{ℕ, ◌≤◌, ◌<◌}
use native.Mathlib.Omega.{arith}
use borrow.Author.Tests.{eqb-true, leb-true, not-true}
use mathlib.Core.Path.{◌≡◌, refl, ap, sym, ◌∙◌}
use mathlib.Core.List.{List, [], ◌∷◌, ◌++◌, append_assoc}
use mathlib.Core.Bool.{Bool, true, false, cond, not, ◌||◌, false≢true}
use mathlib.Core.Logic.{inl, inr}
use lib.Dec.{eqb}
use Rattle.octets.specs.Bytes.{Bytes, any, all, value}
use Rattle.kinds.specs.Kind.{Kind, text, number◌to◌, Y/N, time, day, decimal, among, formed, allowed, is_number}
use Rattle.kinds.specs.Judged.{number_of}
use Rattle.table.specs.Dictionary.{Row, Group, №453, №580, №552, groups, header, fields, listed, kind_in, groups_among, all_members, groups_of, rows_of}
use Rattle.dictionary.specs.Verdict.{Nothing, reason◌tag◌, Open, ◌when◌, opened, rule9, rule10}
use Rattle.table.specs.code.Held.{tag_count, tag_at, is_numeric, Three}
use Rattle.dictionary.specs.code.Held.{Flat, away, within, Over, Counted, RightValue, Opened}
use Rattle.table.specs.declared.MsgType.{MsgType}
use Rattle.octets.proofs.Tests.{any_append, both}
use Rattle.octets.proofs.Numerals.{within_is}
use Rattle.table.proofs.Places.{count_numeric}
use Rattle.table.proofs.Groups.{closed_down}

-- the header
module _ {t : ℕ} {over b : Bool} (p : b ≡ listed header t) where
  pub over_header : b ≡ true → Over over t over
  over_header q = record { is = λ seen h. rw (sym p ∙ q) h }

  pub over_other : b ≡ false → Over over t true
  over_other q = record { is = λ seen h. rw (sym p ∙ q) }

-- the count
pub counted_is : (v : Bytes) (r : Option ℕ) (n : ℕ) → r ≡ number_of v → r ≡ Some n → Counted v n
unfolding number_of
counted_is v r n p q = record { is = λ h k. let e : Some n ≡ Some (value v) = sym q ∙ p ∙ rw h in cc }

pub counted_large : (v : Bytes) (r : Option ℕ) (n : ℕ) → r ≡ number_of v → r ≡ Some n → 999_999_999 < n → Counted v 0
unfolding number_of
counted_large v r n p q l = record { is = λ h k. let e : Some n ≡ Some (value v) = sym q ∙ p ∙ rw h in let z : n ≡ value v = cc in absurd (omega arith) }

pub counted_bad : (v : Bytes) (r : Option ℕ) (n : ℕ) → r ≡ number_of v → r ≡ None → Counted v n
unfolding number_of
counted_bad v r n p q = record { is = λ h k. let e : None ≡ Some (value v) = sym q ∙ p ∙ rw h in let z : ◌≡◌ {A = ℕ} 0 1 = cc in absurd (omega arith) }

-- the groups of a message that lists the count tag are those of the document with that count tag
opened-among : (gs : List Group) (rows : List Row) (t : ℕ) (v : Bytes) → listed rows t ≡ true → opened (groups_among gs rows) t v ≡ opened gs t v
opened-among [] rows t v h = refl
opened-among (g ∷ gs) rows t v h = go (eqb g.counter t) refl (listed rows g.counter) refl (opened-among gs rows t v h)
  where
    o : Open
    o = record { group = g; count = value v; begun = 0; last = [] }

    go : (b : Bool) → eqb g.counter t ≡ b → (c : Bool) → listed rows g.counter ≡ c → opened (groups_among gs rows) t v ≡ opened gs t v
        → opened (cond c (g ∷ groups_among gs rows) (groups_among gs rows)) t v ≡ cond b (o ∷ []) (opened gs t v)
    go b e true k ih = rw (e, ih)
    go true e false k ih = absurd (false≢true (sym k ∙ ap (listed rows) (eqb-true g.counter t e) ∙ h))
    go false e false k ih = ih

opened_none : (gs : List Group) (rows : List Row) (t : ℕ) (v : Bytes) → any (λ g. eqb g.counter t) gs ≡ false → opened (groups_among gs rows) t v ≡ []
opened_none [] rows t v h = refl
opened_none (g ∷ gs) rows t v h = go (eqb g.counter t) refl (listed rows g.counter) h (opened_none gs rows t v)
  where
    go : (b : Bool) → eqb g.counter t ≡ b → (c : Bool) → (b || any (λ x. eqb x.counter t) gs) ≡ false → (any (λ x. eqb x.counter t) gs ≡ false → opened (groups_among gs rows) t v ≡ [])
        → opened (cond c (g ∷ groups_among gs rows) (groups_among gs rows)) t v ≡ []
    go true e c k ih = absurd (false≢true (sym k))
    go false e true k ih = rw e (ih k)
    go false e false k ih = ih k

-- the group that a count tag opens
newly : Group → Bytes → Open
newly g v = record { group = g; count = value v; begun = 0; last = [] }

opens_three : (t : ℕ) (v : Bytes) → any (λ g. eqb g.counter t) groups ≡ true → (g : Group) × (Three g × (t ≡ g.counter) × (opened groups t v ≡ newly g v ∷ []))
unfolding newly
opens_three t v h = go (eqb №453.counter t) (eqb №580.counter t) (eqb №552.counter t) refl refl refl h
  where
    go : (a b c : Bool) → eqb №453.counter t ≡ a → eqb №580.counter t ≡ b → eqb №552.counter t ≡ c → (a || (b || (c || false))) ≡ true
        → (g : Group) × (Three g × (t ≡ g.counter) × (cond a (newly №453 v ∷ []) (cond b (newly №580 v ∷ []) (cond c (newly №552 v ∷ []) [])) ≡ newly g v ∷ []))
    go true b c p q r k = (№453, (inl refl, sym (eqb-true №453.counter t p), refl))
    go false true c p q r k = (№580, (inr (inl refl), sym (eqb-true №580.counter t q), refl))
    go false false true p q r k = (№552, (inr (inr refl), sym (eqb-true №552.counter t r), refl))
    go false false false p q r k = absurd (false≢true k)

no_header : (g : Group) → Three g → listed header g.counter ≡ false
unfolding header №453 №580 №552
no_header g (inl e) = rw e
no_header g (inr (inl e)) = rw e
no_header g (inr (inr e)) = rw e

own_field : (m : MsgType) (t : ℕ) → listed header t ≡ false → listed (header ++ fields m) t ≡ true → listed (fields m) t ≡ true
own_field m t n h = rw (any_append (λ (r : Row). eqb r.tag t) header (fields m), n) at h

-- a count field that the message lists, or one of its groups, opens its group; a tag that is no count opens none
opens_here : (m : MsgType) (t : ℕ) (v : Bytes) → listed (fields m ++ all_members (groups_of m)) t ≡ true → opened (groups_of m) t v ≡ opened groups t v
opens_here m t v h = ap (λ (gs : List Group). opened gs t v) (sym (closed_down m)) ∙ opened-among groups (fields m ++ all_members (groups_of m)) t v h

pub opens_none : (m : MsgType) (t : ℕ) (v : Bytes) → any (λ g. eqb g.counter t) groups ≡ false → opened (groups_of m) t v ≡ []
opens_none m t v h = ap (λ (gs : List Group). opened gs t v) (sym (closed_down m)) ∙ opened_none groups (fields m ++ all_members (groups_of m)) t v h

own_listed : (m : MsgType) (t : ℕ) → listed (fields m) t ≡ true → listed (fields m ++ all_members (groups_of m)) t ≡ true
own_listed m t h = rw (any_append (λ (r : Row). eqb r.tag t) (fields m) (all_members (groups_of m)), h)

-- NO GROUP IN A GROUP of the nine: a member of a flat group is no count, so that it opens none
flat : (rows : List Row) (t : ℕ) → all (λ (r : Row). not (any (λ (g : Group). eqb g.counter r.tag) groups)) rows ≡ true → listed rows t ≡ true
    → any (λ g. eqb g.counter t) groups ≡ false
flat [] t h k = absurd (false≢true k)
flat (r ∷ rs) t h k =
    let w = both (not (any (λ (g : Group). eqb g.counter r.tag) groups)) _ h in
    go (eqb r.tag t) refl k (not-true _ w.0) (flat rs t w.1)
  where
    go : (b : Bool) → eqb r.tag t ≡ b → (b || listed rs t) ≡ true → any (λ (g : Group). eqb g.counter r.tag) groups ≡ false → (listed rs t ≡ true → any (λ g. eqb g.counter t) groups ≡ false) → any (λ g. eqb g.counter t) groups ≡ false
    go true e k n f = ap (λ (x : ℕ). any (λ (g : Group). eqb g.counter x) groups) (sym (eqb-true r.tag t e)) ∙ n
    go false e k n f = f k

flat_groups : (g : Group) → Flat g → all (λ (r : Row). not (any (λ (x : Group). eqb x.counter r.tag) groups)) g.members ≡ true
unfolding №453 №580 №552
flat_groups g (inl e) = rw e
flat_groups g (inr e) = rw e

pub member_opens_none : (m : MsgType) (g : Group) (t : ℕ) (v : Bytes) → Flat g → listed g.members t ≡ true → opened (groups_of m) t v ≡ []
member_opens_none m g t v T h = opens_none m t v (flat g.members t (flat_groups g T) h)

numeric : (k : Kind) (v : Bytes) → is_numeric k ≡ true → formed k v ≡ is_number v
unfolding formed
numeric (text n) v h = absurd (false≢true h)
numeric (number a to b) v h = refl
numeric Y/N v h = absurd (false≢true h)
numeric time v h = absurd (false≢true h)
numeric day v h = absurd (false≢true h)
numeric decimal v h = absurd (false≢true h)
numeric (among l) v h = absurd (false≢true h)

numeric_small : (k : Kind) (v : Bytes) → is_numeric k ≡ true → allowed k v ≡ true → value v ≤ 999_999_999
unfolding allowed
numeric_small (text n) v h a = absurd (false≢true h)
numeric_small (number x to y) v h a = omega (arith, (within_is x y (value v) a).1, leb-true y 999_999_999 h)
numeric_small Y/N v h a = absurd (false≢true h)
numeric_small time v h a = absurd (false≢true h)
numeric_small day v h a = absurd (false≢true h)
numeric_small decimal v h a = absurd (false≢true h)
numeric_small (among l) v h a = absurd (false≢true h)

silent_when : (b : Bool) (n t : ℕ) → (reason n tag t when not b) ≡ Nothing → b ≡ true
silent_when true n t h = refl
silent_when false n t h = let z : ◌≡◌ {A = ℕ} 0 1 = cc in absurd (omega arith)

-- a count of which nothing is said
abbrev pub is_counter : ℕ → Bool
is_counter t = any (λ g. eqb g.counter t) groups

module _ {p : ℕ} {v : Bytes} {n : ℕ} (k : p < tag_count) (c : is_counter (tag_at p) ≡ true) (C : Counted v n) (m : MsgType) (l : listed (rows_of m) (tag_at p) ≡ true) (s : RightValue m (tag_at p) v) where
  count_is : n ≡ value v
  unfolding rule9 rule10
  count_is =
      let i = count_numeric p k m c l in
      let f = silent_when (formed (kind_in (rows_of m) (tag_at p)) v) 6 (tag_at p) s.0 in
      let a = silent_when (allowed (kind_in (rows_of m) (tag_at p)) v) 5 (tag_at p) s.1 in
      C.is (sym (numeric _ v i) ∙ f) (numeric_small _ v i a)

-- THE GROUP THAT A COUNT OPENS, outside groups or in one
own_row : (m : MsgType) (t : ℕ) → listed header t ≡ false → listed (rows_of m) t ≡ true → listed (fields m ++ all_members (groups_of m)) t ≡ true
unfolding rows_of
own_row m t n h = rw (append_assoc header (fields m) (all_members (groups_of m)), any_append (λ (r : Row). eqb r.tag t) header (fields m ++ all_members (groups_of m)), n) at h

module _ {p : ℕ} {v : Bytes} {b : Bool} (k : p < tag_count) (h : b ≡ is_counter (tag_at p)) where
  pub opened_count : {n : ℕ} → b ≡ true → Counted v n → Opened (tag_at p) v (Some (record { counter = tag_at p; count = n; begun = 0 }))
  unfolding newly
  opened_count {n} q C = record {
    none = omega arith;
    opens = λ m met l s.
        let w = opens_three (tag_at p) v (sym h ∙ q) in
        let f = own_row m (tag_at p) (ap (listed header) w.1.1 ∙ no_header w.0 w.1.0) l in
        rw (opens_here m (tag_at p) v f, w.1.2)
        (within refl (record { three = w.1.0; counter = w.1.1; count = count_is k (sym h ∙ q) C m l s; begun = refl; last = λ z. absurd (false≢true (sym z)) }));
  }

  pub opened_other : b ≡ false → Opened (tag_at p) v None
  opened_other q = record { none = tt; opens = λ m met l s. rw (opens_none m (tag_at p) v (sym h ∙ q)) (away refl) }
