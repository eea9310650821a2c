-- Rule 1 and the code: an open group that goes on or ends, for whatever past the code's state stands for.
use Rattle.dictionary.specs.declared.groups.Inside.{Inside}
use Rattle.std.specs.Prelude.{Option, Some, None, Ok, Err}
use Rattle.dictionary.specs.declared.Finding.{Finding}
use Prim.Native.Nat.{ℕ}
use native.Mathlib.Omega.{arith}
use borrow.Author.Tests.{eq-eqb, ne_eqb}
use mathlib.Core.Path.{◌≡◌, refl, ap, sym, ◌∙◌, subst}
use mathlib.Core.List.{List, [], ◌∷◌}
use mathlib.Core.Bool.{Bool, true, false}
use mathlib.Core.Logic.{inl, inr}
use lib.Dec.{eqb}
use Rattle.fields.specs.Field.{Part, field}
use Rattle.octets.specs.Bytes.{Bytes}
use Rattle.table.specs.Dictionary.{Row, Group, №453, №580, №552}
use Rattle.dictionary.specs.Verdict.{Says, Nothing, reason◌tag◌, Open, first_of, missing, incomplete, closing, closing_all, rule1}
use Rattle.table.specs.code.Held.{Three, members_of}
use Rattle.dictionary.specs.code.Held.{InGroup, Stood, away, within, StandsIn, NoMember, Missing, Incomplete, Closing, ClosingAll}
use Rattle.dictionary.specs.declared.groups.OpenGroup.{OpenGroup}

-- the groups' count tags, and their members by these
pub counted : (g : Group) → Three g → g.counter ≡ 0 → ⊥
unfolding №453 №580 №552
counted g (inl e) z = let h : ◌≡◌ {A = ℕ} 453 0 = ap (λ (x : Group). x.counter) (sym e) ∙ z in omega arith
counted g (inr (inl e)) z = let h : ◌≡◌ {A = ℕ} 580 0 = ap (λ (x : Group). x.counter) (sym e) ∙ z in omega arith
counted g (inr (inr e)) z = let h : ◌≡◌ {A = ℕ} 552 0 = ap (λ (x : Group). x.counter) (sym e) ∙ z in omega arith

pub members_by : (g : Group) → Three g → members_of g.counter ≡ g.members
unfolding №453 №580 №552
members_by g (inl e) = rw e
members_by g (inr (inl e)) = rw e
members_by g (inr (inr e)) = rw e

-- of one rule alone
pub alone : (s : Says) → first_of (s ∷ []) ≡ s
alone (Ok _) = refl
alone (Err f) = refl

-- what stands where a group is open, or none
pub stood_none : {gs : List Open} {met : List Bool} {o : Option OpenGroup} → Stood gs met o → o ≡ None → gs ≡ []
stood_none (away z) h = refl
stood_none (within e I) h = cc

pub stood_one : {gs : List Open} {met : List Bool} {o : Option OpenGroup} {c : OpenGroup} → Stood gs met o → o ≡ Some c → (g : Open) × ((gs ≡ (g ∷ [])) × InGroup g met c)
stood_one (away z) h = let n : ◌≡◌ {A = ℕ} 0 1 = cc in absurd (omega arith)
stood_one {met = met} {c = c} (within {g = g} {c = d} e I) h = let q : d ≡ c = cc in (g, (refl, subst (InGroup g met) q I))

pub one_closes : (g : Open) → closing_all (g ∷ []) ≡ closing g
one_closes g = go (closing g)
  where
    go : (s : Says) → first_of (s ∷ Nothing ∷ []) ≡ s
    go (Ok _) = refl
    go (Err f) = refl

module _ {met : List Bool} {c : OpenGroup} where
  -- the last instance
  pub none_began : c.begun ≡ 0 → (g : Open) → InGroup g met c → Nothing ≡ incomplete g
  unfolding incomplete
  none_began z g I = rw (eq-eqb g.begun 0 (sym I.begun ∙ z))

  pub one_began : {r : Says} → (c.begun ≡ 0 → ⊥) → Missing met (members_of c.counter) r → (g : Open) → InGroup g met c → r ≡ incomplete g
  unfolding incomplete
  one_began n M g I =
      let b : eqb g.begun 0 ≡ false = ne_eqb g.begun 0 (λ e. n (I.begun ∙ e)) in
      rw b
      (M.is g.last (I.last b)
      ∙ ap (λ (x : ℕ). missing (members_of x) g.last) I.counter
      ∙ ap (λ (l : List Row). missing l g.last) (members_by g.group I.three))

  -- the end of a group
  module _ {r : Says} (C : Incomplete met c r) where
    pub closing_lacks : {f : Finding} → r ≡ Err f → Closing met c (Err f)
    unfolding closing
    closing_lacks e = record { is = λ g I. rw (sym (C.is g I) ∙ e) }

    pub closing_counts : r ≡ Nothing → c.begun ≡ c.count → Closing met c Nothing
    unfolding closing
    closing_counts e k = record { is = λ g I. rw (sym (C.is g I) ∙ e, eq-eqb g.begun g.count (sym I.begun ∙ k ∙ I.count)) }

    pub closing_miscounts : r ≡ Nothing → (c.begun ≡ c.count → ⊥) → Closing met c (reason 16 tag c.counter)
    unfolding closing
    closing_miscounts e k = record { is = λ g I. rw (sym (C.is g I) ∙ e, ne_eqb g.begun g.count (λ q. k (I.begun ∙ q ∙ sym I.count))) (ap (λ (x : ℕ). reason 16 tag x) I.counter) }

module _ {met : List Bool} {o : Option OpenGroup} where
  pub closes_none : o ≡ None → ClosingAll met o Nothing
  closes_none z = record { is = λ gs S. rw (stood_none S z) }

  pub closes_one : {c : OpenGroup} {r : Says} → o ≡ Some c → Closing met c r → ClosingAll met o r
  closes_one h C = record { is = λ gs S. let x = stood_one S h in rw x.1.0 (C.is x.0 x.1.1 ∙ sym (one_closes x.0)) }

  -- rule 1 where no group goes on
  pub rule1_closes : {r : Says} → ClosingAll met o r → (gs : List Open) (p : Part) → Stood gs met o → NoMember p → r ≡ rule1 gs p
  unfolding rule1
  rule1_closes C [] p S B = C.is [] S
  rule1_closes C (g ∷ []) p (within e I) B = C.is (g ∷ []) (within e I) ∙ rw (B g.group I.three)
  rule1_closes {r = r} C (g ∷ (_ ∷ _)) p x6 B = elim x6 [ ]

  -- rule 1 at a tag that stands in the open group, or in none
  module _ (t : ℕ) where
    pub rule1_ends : {r : Says} → StandsIn o t None → ClosingAll met o r → (gs : List Open) (v : Bytes) → Stood gs met o → r ≡ rule1 gs (field t v)
    unfolding rule1
    rule1_ends N C [] v S = C.is [] S
    rule1_ends N C (g ∷ []) v (within {c = c} e I) = C.is (g ∷ []) (within e I) ∙ rw (N c e g.group I.three I.counter)
    rule1_ends {r = r} N C (g ∷ (_ ∷ _)) v x6 = elim x6 [ ]

    module _ {x : Inside} (N : StandsIn o t (Some x)) where
      pub rule1_begins : {r : Says} → x.first ≡ true → Incomplete met x.group r → (gs : List Open) (v : Bytes) → Stood gs met o → r ≡ rule1 gs (field t v)
      unfolding rule1
      rule1_begins f C gs v S =
          let y = stood_one S N.0 in
          let n = N.1 y.0.group y.1.1.three y.1.1.counter in
          rw (y.1.0, n.0, n.1 ∙ f) (C.is y.0 y.1.1)

      pub rule1_goes_on : x.first ≡ false → (gs : List Open) (v : Bytes) → Stood gs met o → Nothing ≡ rule1 gs (field t v)
      unfolding rule1
      rule1_goes_on f gs v S =
          let y = stood_one S N.0 in
          let n = N.1 y.0.group y.1.1.three y.1.1.counter in
          rw (y.1.0, n.0, n.1 ∙ f)
