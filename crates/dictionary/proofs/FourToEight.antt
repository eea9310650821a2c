-- Rules 4 to 8 and the code: what each says of a tag that was looked up.
use Rattle.dictionary.specs.declared.groups.Inside.{Inside}
use native.Mathlib.Omega.{arith}
use Rattle.std.specs.Prelude.{Option, Some, None}
use Prim.Native.Nat.{ℕ, ◌<◌}
use borrow.Author.Tests.{eqb-true, eq-eqb, ne_eqb}
use mathlib.Core.Path.{◌≡◌, refl, ap, sym, ◌∙◌}
use mathlib.Core.List.{List, [], ◌∷◌, ◌++◌}
use mathlib.Core.Bool.{Bool, true, false, ◌||◌, false≢true, or-true}
use lib.Dec.{eqb}
use lib.ListN.{get_or}
use Rattle.octets.specs.Bytes.{Bytes, all, has}
use Rattle.fields.specs.Field.{field}
use Rattle.table.specs.Dictionary.{Row, header, fields, listed, all_members, groups_of, member, rows_of, frame_tag}
use Rattle.dictionary.specs.Verdict.{Nothing, reason◌tag◌, Open, first_member, left, rule4, rule5, rule6, rule7, rule8}
use Rattle.table.specs.code.Held.{tag_count, tag_at}
use Rattle.dictionary.specs.code.Held.{InGroup, Stood, away, within, StandsIn, Rule4, Rule5, Rule7, Rule8}
use Rattle.table.specs.code.Held as Table
use Rattle.table.specs.declared.MsgType.{MsgType}
use Rattle.dictionary.specs.declared.groups.OpenGroup.{OpenGroup}
use Rattle.octets.proofs.Tests.{both, any_append}
use Rattle.dictionary.proofs.Ending.{stood_one}

-- rule 4
pub rule4-empty : {t : ℕ} {empty : Bool} → empty ≡ true → Rule4 t empty (reason 4 tag t)
unfolding rule4
rule4-empty q = record { is = λ v p. rw (sym p ∙ q) }

pub rule4_some : {t : ℕ} {empty : Bool} → empty ≡ false → Rule4 t empty Nothing
unfolding rule4
rule4_some q = record { is = λ v p. rw (sym p ∙ q) }

-- rule 5
module _ {m : MsgType} {t : ℕ} {seen b : Bool} (p : b ≡ frame_tag t) where
  pub rule5_frame : b ≡ true → Rule5 m t seen (reason 13 tag t)
  unfolding rule5
  rule5_frame q = record { is = λ s h. rw (sym p ∙ q) }

  module _ {d : Bool} (q : b ≡ false) (k : d ≡ member m t) where
    pub rule5_member : d ≡ true → Rule5 m t seen Nothing
    unfolding rule5
    rule5_member h = record { is = λ s x. rw (sym p ∙ q, sym k ∙ h) }

    pub rule5_seen : d ≡ false → seen ≡ true → Rule5 m t seen (reason 13 tag t)
    unfolding rule5
    rule5_seen h y = record { is = λ s x. rw (sym p ∙ q, sym k ∙ h, sym x ∙ y) }

    pub rule5_new : d ≡ false → seen ≡ false → Rule5 m t seen Nothing
    unfolding rule5
    rule5_new h y = record { is = λ s x. rw (sym p ∙ q, sym k ∙ h, sym x ∙ y) }

-- rule 6
pub listed_rows : (m : MsgType) (t : ℕ) → listed (rows_of m) t ≡ (listed (header ++ fields m) t || member m t)
unfolding rows_of member
listed_rows m t = any_append (λ (r : Row). eqb r.tag t) (header ++ fields m) (all_members (groups_of m))

-- what is true of the tags of all rows is true of one that they list
pub listed_all : (f : ℕ → Bool) (rows : List Row) → all (λ (r : Row). f r.tag) rows ≡ true → (t : ℕ) → listed rows t ≡ true → f t ≡ true
listed_all f [] h t k = absurd (false≢true k)
listed_all f (r ∷ rows) h t k = let w = both (f r.tag) (all (λ (r : Row). f r.tag) rows) h in go (eqb r.tag t) refl k w.0 (listed_all f rows w.1 t)
  where
    go : (b : Bool) → eqb r.tag t ≡ b → (b || listed rows t) ≡ true → f r.tag ≡ true → (listed rows t ≡ true → f t ≡ true) → f t ≡ true
    go true e k x ih = ap f (sym (eqb-true r.tag t e)) ∙ x
    go false e k x ih = ih k

module _ (m : MsgType) (t : ℕ) {b : Bool} (p : b ≡ listed (header ++ fields m) t) where
  pub rule6_outside : b ≡ true → Nothing ≡ rule6 m t
  unfolding rule6
  rule6_outside q = rw (listed_rows m t, sym p ∙ q)

  module _ {d : Bool} (q : b ≡ false) (k : d ≡ member m t) where
    pub rule6_member : d ≡ true → Nothing ≡ rule6 m t
    unfolding rule6
    rule6_member h = rw (listed_rows m t, sym k ∙ h, or-true (listed (header ++ fields m) t))

    pub rule6_not : d ≡ false → reason 2 tag t ≡ rule6 m t
    unfolding rule6
    rule6_not h = rw (listed_rows m t, sym p ∙ q, sym k ∙ h)

-- rule 7
module _ {t : ℕ} {over b : Bool} (p : b ≡ listed header t) where
  pub rule7_late : b ≡ true → over ≡ true → Rule7 t over (reason 14 tag t)
  unfolding rule7
  rule7_late q o = record { is = λ s h. rw (sym p ∙ q, sym h ∙ o) }

  pub rule7_early : b ≡ true → over ≡ false → Rule7 t over Nothing
  unfolding rule7
  rule7_early q o = record { is = λ s h. rw (sym p ∙ q, sym h ∙ o) }

  pub rule7_other : b ≡ false → Rule7 t over Nothing
  unfolding rule7
  rule7_other q = record { is = λ s h. rw (sym p ∙ q) }

-- where a field stands once rule 1 has been heard: rule 8 looks there
module _ (t : ℕ) {met : List Bool} {o : Option OpenGroup} where
  pub left_away : StandsIn o t None → (gs : List Open) (v : Bytes) → Stood gs met o → left gs (field t v) ≡ []
  unfolding left
  left_away N [] v (away z) = refl
  left_away N (g ∷ []) v (within {c = c} e I) = rw (N c e g.group I.three I.counter)
  left_away N (g ∷ (_ ∷ _)) v x5 = elim x5 [ ]

left_in : (gs : List Open) (g : Open) (t : ℕ) (v : Bytes) → gs ≡ g ∷ [] → listed g.group.members t ≡ true → left gs (field t v) ≡ g ∷ []
unfolding left
left_in gs g t v p h = rw (p, h)

module _ {t : ℕ} {met : List Bool} {o : Option OpenGroup} {x : Inside} (N : StandsIn o t (Some x)) where
  pub left_within : (gs : List Open) (v : Bytes) → Stood gs met o
      → (g : Open) × ((gs ≡ g ∷ []) × (InGroup g met x.group) × (left gs (field t v) ≡ g ∷ []) × (listed g.group.members t ≡ true) × (first_member g.group.members t ≡ x.first))
  left_within gs v S =
      let y = stood_one S N.0 in
      let n = N.1 y.0.group y.1.1.three y.1.1.counter in
      (y.0, (y.1.0, y.1.1, left_in gs y.0 t v y.1.0 n.0, n.0, n.1))

-- no group is open: none is stood in
pub none_in : {o : Option OpenGroup} (t : ℕ) → o ≡ None → StandsIn o t None
none_in t z c e = let n : ◌≡◌ {A = ℕ} 0 1 = cc in absurd (omega arith)

-- rule 8
pub first_is : (rows : List Row) (t : ℕ) → Table.leads rows t ≡ first_member rows t
first_is [] t = refl
first_is (r ∷ rs) t = refl

mark_of : (met : List Bool) (c : OpenGroup) (p : ℕ) → p < tag_count → (g : Open) → InGroup g met c → eqb g.begun 0 ≡ false → get_or met p false ≡ has g.last (tag_at p)
mark_of met c p l g I z = (I.last z).at p l

module _ {m : MsgType} {met : List Bool} {o : Option OpenGroup} {t : ℕ} where
  module _ (N : StandsIn o t None) {d : Bool} (k : d ≡ member m t) where
    pub rule8_astray : d ≡ true → Rule8 m met o t (reason 15 tag t)
    unfolding rule8
    rule8_astray h = record { is = λ gs v S. rw (left_away t N gs v S, sym k ∙ h) }

    pub rule8_none : d ≡ false → Rule8 m met o t Nothing
    unfolding rule8
    rule8_none h = record { is = λ gs v S. rw (left_away t N gs v S, sym k ∙ h) }

  module _ {x : Inside} (N : StandsIn o t (Some x)) where
    pub rule8_first : x.first ≡ true → Rule8 m met o t Nothing
    unfolding rule8
    rule8_first f = record { is = λ gs v S. let w = left_within N gs v S in rw (w.1.2, w.1.4 ∙ f) }

    module _ (f : x.first ≡ false) where
      pub rule8_unled : x.group.begun ≡ 0 → Rule8 m met o t (reason 15 tag t)
      unfolding rule8
      rule8_unled z = record { is = λ gs v S. let w = left_within N gs v S in rw (w.1.2, w.1.4 ∙ f, eq-eqb w.0.begun 0 (sym w.1.1.begun ∙ z)) }

module _ {m : MsgType} {met : List Bool} {o : Option OpenGroup} {p : ℕ} {x : Inside} (N : StandsIn o (tag_at p) (Some x)) (f : x.first ≡ false) (n : x.group.begun ≡ 0 → ⊥) (l : p < tag_count) where
  pub rule8_again : get_or met p false ≡ true → Rule8 m met o (tag_at p) (reason 13 tag tag_at p)
  unfolding rule8
  rule8_again y = record {
    is = λ gs v S.
        let w = left_within N gs v S in
        let z = ne_eqb w.0.begun 0 (λ e. n (w.1.1.begun ∙ e)) in
        rw (w.1.2, w.1.4 ∙ f, z, sym (mark_of met x.group p l w.0 w.1.1 z) ∙ y);
  }

  pub rule8_new : get_or met p false ≡ false → Rule8 m met o (tag_at p) Nothing
  unfolding rule8
  rule8_new y = record {
    is = λ gs v S.
        let w = left_within N gs v S in
        let z = ne_eqb w.0.begun 0 (λ e. n (w.1.1.begun ∙ e)) in
        rw (w.1.2, w.1.4 ∙ f, z, sym (mark_of met x.group p l w.0 w.1.1 z) ∙ y);
  }
