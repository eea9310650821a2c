-- When a verdict is clean: the walk takes a field outside groups of which no rule speaks, and ends clean where no required tag is missing. For the
-- layers above, which write such bodies.
use Prim.Native.Nat.{ℕ}
use native.Mathlib.Omega.{arith}
use mathlib.Core.Path.{◌≡◌, refl, sym, ap, ◌∙◌}
use mathlib.Core.List.{List, [], ◌∷◌, ◌++◌}
use mathlib.Core.Bool.{Bool, true, false, cond, not, ◌&&◌, ◌||◌, false≢true}
use mathlib.Core.Option.{some}
use lib.Dec.{eqb}
use lib.ListN.{length}
use borrow.Author.Tests.{eq-eqb}
use Rattle.octets.specs.Bytes.{Bytes, any, has, within, decimal}
use Rattle.octets.proofs.Numerals.{within_is}
use Rattle.octets.proofs.Tests.{or_last}
use Rattle.octets.proofs.Decimals.{decimal-written, decimal-worth}
use Rattle.fields.specs.Field.{part_of, field, parts, is_body}
use Rattle.fields.proofs.Items.{field_part}
use Rattle.table.specs.Dictionary.{Row, header, fields, administrative, listed, groups_of, member, rows_of, frame_tag, in_dictionary}
use Rattle.dictionary.specs.Verdict.{Nothing, reason◌tag◌, Clean, Past, nothing_yet, said, after, taken, left, skipped, closing, missing, walk, rules4to10, rule1, rule2, rule3, rule4, rule5, rule6, rule7, rule8, rule9, rule10, msg_type, verdict}
use Rattle.dictionary.specs.Promise.{OfKind}
use Rattle.dictionary.specs.Groups.{required}
use Rattle.table.specs.declared.MsgType.{MsgType}

-- the walk outside groups, with these tags met
abbrev pub at : List ℕ → Past
at seen = record { seen = seen; inside = [] }

-- a field of which no rule speaks there
pub record Taken (m : MsgType) (seen : List ℕ) (t : ℕ) (v : Bytes) : Type 0 where
  pub low : within 1 99_999 t ≡ true
  pub known : in_dictionary t ≡ true
  pub fresh : (frame_tag t || has seen t) ≡ false
  pub no_member : member m t ≡ false
  pub in_header : (listed header t && any (λ s. not (listed header s)) seen) ≡ false
  pub own : listed (rows_of m) t ≡ true
  pub filled : eqb (length v) 0 ≡ false
  pub of_kind : OfKind m t v

-- a field that is written as its tag, `=` and its value
pub part-written : (t : ℕ) (v : Bytes) → within 1 99_999 t ≡ true → part_of (decimal t ++ (61 ∷ v)) ≡ field t v
part-written t v h =
    let w = within_is 1 99_999 t h in
    let N = decimal-written 4 t (omega arith) (omega arith) in
    field_part (decimal t) N.whole v N ∙ ap (λ (n : ℕ). field n v) (decimal-worth t)

-- in an administrative message, which has no groups
module _ (m : MsgType) (a : administrative m ≡ true) (g : groups_of m ≡ []) (seen : List ℕ) where
  said_nothing : (t : ℕ) (v : Bytes) → Taken m seen t v → said m (at seen) (field t v) ≡ Nothing
  unfolding said rules4to10 left skipped rule1 rule2 rule3 rule4 rule5 rule6 rule7 rule8 rule9 rule10
  said_nothing t v T = rw (a, T.known, T.filled, T.no_member, T.fresh, T.own, T.in_header, T.of_kind.form, T.of_kind.value)

  after_it : (t : ℕ) (v : Bytes) → in_dictionary t ≡ true → after m (at seen) (field t v) ≡ at (t ∷ seen)
  unfolding after taken left skipped
  after_it t v k = rw (a, k, g)

  -- ONE FIELD FURTHER
  pub walk_field : (t : ℕ) (v : Bytes) (ps : List Bytes) → Taken m seen t v → walk m (at seen) ((decimal t ++ (61 ∷ v)) ∷ ps) ≡ walk m (at (t ∷ seen)) ps
  walk_field t v ps T = rw (part-written t v T.low, said_nothing t v T, after_it t v T.known)

-- THE END
pub walk-over : (m : MsgType) (seen : List ℕ) → ((t : ℕ) → required (header ++ fields m) t ≡ true → has seen t ≡ true) → walk m (at seen) [] ≡ Clean
unfolding closing
walk-over m seen f = rw (none_missing (header ++ fields m) f)
  where
    none_missing : (rows : List Row) → ((t : ℕ) → required rows t ≡ true → has seen t ≡ true) → missing rows seen ≡ Nothing
    none_missing [] f = refl
    none_missing (r ∷ rs) f = go r.required refl (has seen r.tag) refl (none_missing rs (λ t h. f t (or_last (eqb r.tag t && r.required) _ h)))
      where
        or_first : (b c d : Bool) → b ≡ true → c ≡ true → ((b && c) || d) ≡ true
        or_first true true d e k = refl
        or_first true false d e k = absurd (false≢true k)
        or_first false c d e k = absurd (false≢true e)

        go : (b : Bool) → r.required ≡ b → (c : Bool) → has seen r.tag ≡ c → missing rs seen ≡ Nothing → cond (b && not c) (reason 1 tag r.tag) (missing rs seen) ≡ Nothing
        go true e true k h = h
        go true e false k h = absurd (false≢true (sym k ∙ f r.tag (or_first _ _ _ (eq-eqb r.tag r.tag refl) e)))
        go false e c k h = h

-- THE VERDICT on a body of one of the ten types is the walk along its parts
pub verdict_walks : (m : MsgType) (body : Bytes) → is_body body ≡ true → msg_type body ≡ some m → verdict body ≡ walk m nothing_yet (parts body)
unfolding verdict
verdict_walks m body b y = rw (b, y)
