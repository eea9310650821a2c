-- The walk over a report's fields: outside the groups, in the side's group, and in the group of the parties inside it.
use Prim.Native.Nat.{ℕ}
use mathlib.Core.Path.{◌≡◌, refl}
use mathlib.Core.List.{List, [], ◌∷◌, ◌++◌}
use mathlib.Core.Bool.{true, false, not, ◌&&◌}
use Rattle.octets.specs.Bytes.{Bytes, any, has, within, decimal}
use Rattle.fields.specs.Field.{field}
use Rattle.table.specs.declared.MsgType.{MsgType}
use Rattle.table.specs.declared.MsgType.TheVariants.{TradeCaptureReport}
use Rattle.table.specs.Dictionary.{header, code35, administrative, listed, groups_of, member, frame_tag, in_dictionary}
use Rattle.dictionary.specs.Verdict.{Nothing, Open, Past, said, after, taken, opened, joined, left, skipped, first_member, incomplete, walk, rules4to10, rule1, rule2, rule3, rule4, rule5, rule6, rule7, rule8, rule9, rule10, ◌when◌}
use Rattle.dictionary.proofs.Taken.{part-written}
use Rattle.message.proofs.Accepted.{Accepted}

abbrev AE : MsgType
AE = TradeCaptureReport

abbrev pub at : List ℕ → List Open → Past
at seen gs = record { seen = seen; inside = gs }

application : administrative AE ≡ false
unfolding administrative code35
application = refl

-- what the table says of a tag of the report
pub record Known (t : ℕ) : Type 0 where
  pub tag : within 1 99_999 t ≡ true
  pub inside : in_dictionary t ≡ true
  pub frame : frame_tag t ≡ false

-- OUTSIDE THE GROUPS
module _ (seen : List ℕ) (t : ℕ) (v : Bytes) (K : Known t) (out : member AE t ≡ false) (fresh : has seen t ≡ false)
    (early : (listed header t && any (λ s. not (listed header s)) seen) ≡ false) (A : Accepted AE t v) where
  said_outside : said AE (at seen []) (field t v) ≡ Nothing
  unfolding said rules4to10 left skipped rule1 rule2 rule3 rule4 rule5 rule6 rule7 rule8 rule9 rule10
  said_outside = rw (application, K.inside, A.filled, K.frame, out, fresh, A.own, early, A.form, A.right)

  after_outside : after AE (at seen []) (field t v) ≡ at (t ∷ seen) (opened (groups_of AE) t v)
  unfolding after taken left skipped
  after_outside = rw application

  pub step_outside : (ps : List Bytes) → walk AE (at seen []) ((decimal t ++ (61 ∷ v)) ∷ ps) ≡ walk AE (at (t ∷ seen) (opened (groups_of AE) t v)) ps
  step_outside ps = rw (part-written t v K.tag, said_outside, after_outside)

-- IN A GROUP
module _ (seen : List ℕ) (g : Open) (gs : List Open) (t : ℕ) (v : Bytes) (K : Known t) (of-group : member AE t ≡ true) (no_Header : listed header t ≡ false)
    (its : listed g.group.members t ≡ true) (whole : (incomplete g when first_member g.group.members t) ≡ Nothing) (in_turn : rule8 AE (g ∷ gs) t ≡ Nothing)
    (A : Accepted AE t v) where
  said_inside : said AE (at seen (g ∷ gs)) (field t v) ≡ Nothing
  unfolding said rules4to10 left skipped rule1 rule2 rule3 rule4 rule5 rule6 rule7 rule9 rule10
  said_inside = rw (application, its, whole, K.inside, A.filled, K.frame, of-group, A.own, no_Header, in_turn, A.form, A.right)

  after_inside : after AE (at seen (g ∷ gs)) (field t v) ≡ at seen (opened (groups_of AE) t v ++ (joined g t ∷ gs))
  unfolding after taken left skipped
  after_inside = rw (application, its)

  pub step_inside : (ps : List Bytes) → walk AE (at seen (g ∷ gs)) ((decimal t ++ (61 ∷ v)) ∷ ps) ≡ walk AE (at seen (opened (groups_of AE) t v ++ (joined g t ∷ gs))) ps
  step_inside ps = rw (part-written t v K.tag, said_inside, after_inside)
