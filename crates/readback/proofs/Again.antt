-- The values of a clean report are values that our report call takes: what was read back can be written again.
-- Assumes nothing.
use Prim.Native.Nat.{ℕ, suc, ◌≤◌}
use native.Mathlib.Omega.{arith}
use borrow.Author.Tests.{ne_eqb, not-true}
use mathlib.Core.Path.{◌≡◌, refl, ap, sym, ◌∙◌, subst}
use mathlib.Core.List.{List, [], ◌∷◌, ◌++◌, map}
use mathlib.Core.Bool.{Bool, true, false, cond, not, ◌||◌, false≢true}
use mathlib.Core.Option.{Option, none, some}
use lib.Dec.{eqb}
use lib.ListN.{length, drop}
use Rattle.octets.specs.Bytes.{Bytes, decimal, writes, any, has, starts}
use Rattle.octets.proofs.Tests.{neither, all_below, at_below, any_append}
use Rattle.fields.specs.Field.{Part, field, malformed, part_of, on_first, parts, first_of_parts, first_field}
use Rattle.fields.proofs.Firsts.{tagged, tag_part, part_split}
use Rattle.kinds.specs.Kind.{kind_of, formed, allowed, is_number}
use Rattle.table.specs.Dictionary.{№453, №580, №552, header, fields, code35, administrative, groups_of, rows_of, listed, in_dictionary}
use Rattle.table.specs.declared.MsgType.TheVariants.{TradeCaptureReport}
use Rattle.dictionary.specs.Groups.{required, fields_among, Instances, ended, begins, Counted, Grouped}
use Rattle.dictionary.specs.Groups as Groups
use Rattle.dictionary.specs.Promise.{Passed, PassedPart, AllPassed}
use Rattle.dictionary.proofs.Counting.{those, those-fields}
use Rattle.message.specs.Message.{◌is◌}
use Rattle.message.specs.Unfit.{rejected, unfit}
use Rattle.message.specs.Unfit as Unfit
use Rattle.message.proofs.Accepted.{not_rejected}
use Rattle.amounts.specs.Amount.{amount_text}
use Rattle.report.specs.Values.{Party, optional, members, group, takes}
use Rattle.report.specs.Report.{every_of_parts, every_field, the, parties_of, parties_in, values_in}
use Rattle.readback.proofs.Parties.{every_of}

-- NO PART OF A BODY HAS A `|`
abbrev AllFree : List Bytes → Type 0
AllFree [] = Unit {0}
AllFree (p ∷ ps) = (has p 1 ≡ false) × AllFree ps

on_first_lem : (x : ℕ) → eqb x 1 ≡ false → (ps : List Bytes) → AllFree ps → AllFree (on_first x ps)
on_first_lem x e [] A = (rw e, tt)
on_first_lem x e (p ∷ ps) A = (rw (e, A.0), A.1)

parts_free : (body : Bytes) → AllFree (parts body)
parts_free [] = tt
parts_free (x ∷ l) = go (eqb x 1) refl (parts_free l)
  where
    go : (b : Bool) → eqb x 1 ≡ b → AllFree (parts l) → AllFree (cond b ([] ∷ parts l) (on_first x (parts l)))
    go true e A = (refl, A)
    go false e A = on_first_lem x e (parts l) A

-- SO EACH FIELD OF A CLEAN REPORT COULD BE WRITTEN
abbrev Fits : ℕ → Bytes → Type 0
Fits t v = rejected TradeCaptureReport t v ≡ false

abbrev FitPart : Part → Type 0
FitPart malformed = Unit {0}
FitPart (field t v) = Fits t v

abbrev AllFit : List Bytes → Type 0
AllFit [] = Unit {0}
AllFit (p ∷ ps) = FitPart (part_of p) × AllFit ps

known : (t : ℕ) (v : Bytes) → Passed TradeCaptureReport t v → in_dictionary t ≡ true
unfolding administrative code35
known t v P = go (in_dictionary t) refl
  where
    go : (b : Bool) → in_dictionary t ≡ b → b ≡ true
    go true e = refl
    go false e = absurd (false≢true (P.skipped e))

field_fits : (t : ℕ) (v : Bytes) → Passed TradeCaptureReport t v → has v 1 ≡ false → Fits t v
field_fits t v P n =
    let k = known t v P in
    not_rejected TradeCaptureReport t v (record { own = P.own k; filled = ne_eqb (length v) 0 (λ e. omega (arith, P.filled k)); no_bar = n; form = (P.of_kind k).form; right = (P.of_kind k).value })

all_fit : (ps : List Bytes) → AllPassed TradeCaptureReport ps → AllFree ps → AllFit ps
all_fit [] A N = tt
all_fit (p ∷ ps) A N = (go (part_of p) refl A.0, all_fit ps A.1 N.1)
  where
    go : (q : Part) → part_of p ≡ q → PassedPart TradeCaptureReport q → FitPart q
    go malformed e P = tt
    go (field t v) e P = field_fits t v P (neither (has (tagged t) 1) (has v 1) (sym (any_append (λ (y : ℕ). eqb y 1) (tagged t) v) ∙ ap (λ (x : Bytes). has x 1) (sym (part_split p v t e)) ∙ N.0)).1

-- every field of a tag, the first of them, and each party
abbrev AllOf : ℕ → List Bytes → Type 0
AllOf t [] = Unit {0}
AllOf t (v ∷ vs) = Fits t v × AllOf t vs

module _ (t : ℕ) (low : 1 ≤ t) (high : t ≤ 99_999) where
  every_fits : (ps : List Bytes) → AllFit ps → AllOf t (every_of_parts (tagged t) ps)
  every_fits [] A = tt
  every_fits (p ∷ ps) A = go (starts (tagged t) p) refl (every_fits ps A.1)
    where
      go : (b : Bool) → starts (tagged t) p ≡ b → AllOf t (every_of_parts (tagged t) ps) → AllOf t (cond b (drop (length (tagged t)) p ∷ every_of_parts (tagged t) ps) (every_of_parts (tagged t) ps))
      go true s R = (subst FitPart (tag_part t p low high s) A.0, R)
      go false s R = R

  first_fits : (ps : List Bytes) (v : Bytes) → AllFit ps → first_of_parts (tagged t) ps ≡ some v → Fits t v
  first_fits [] v A e = let z : ◌≡◌ {A = ℕ} 0 1 = cc in absurd (omega arith)
  first_fits (p ∷ ps) v A e = go (starts (tagged t) p) refl e (first_fits ps v A.1)
    where
      go : (b : Bool) → starts (tagged t) p ≡ b → cond b (some (drop (length (tagged t)) p)) (first_of_parts (tagged t) ps) ≡ some v → (first_of_parts (tagged t) ps ≡ some v → Fits t v) → Fits t v
      go true s g ih = let x : drop (length (tagged t)) p ≡ v = cc in subst (Fits t) x (subst FitPart (tag_part t p low high s) A.0)
      go false s g ih = ih g

members_fit : (j l k : List Bytes) → AllOf 448 j → AllOf 447 l → AllOf 452 k → any (unfit TradeCaptureReport) (members (parties_of j l k)) ≡ false
members_fit [] l k J L K = refl
members_fit (a ∷ j) [] k J L K = refl
members_fit (a ∷ j) (b ∷ l) [] J L K = refl
members_fit (a ∷ j) (b ∷ l) (c ∷ k) J L K = rw (J.0, L.0, K.0) (members_fit j l k J.1 L.1 K.1)

-- a count from 1 to 8
count_tests : all_below 9 (λ (n : ℕ). eqb n 0 || not (rejected TradeCaptureReport 453 (decimal n))) ≡ true
unfolding rejected rows_of header fields groups_of №453 №580 №552 formed allowed is_number decimal writes kind_of
count_tests = refl

count_fits : (n : ℕ) → n ≤ 7 → Fits 453 (decimal (suc n))
count_fits n h =
    let b = at_below 9 (λ (n : ℕ). eqb n 0 || not (rejected TradeCaptureReport 453 (decimal n))) count_tests (suc n) (omega arith) in
    not-true (rejected TradeCaptureReport 453 (decimal (suc n))) (rw (ne_eqb (suc n) 0 (λ e. omega arith)) at b)

group-fits : (ps : List Party) → length ps ≤ 8 → any (unfit TradeCaptureReport) (members ps) ≡ false → any (unfit TradeCaptureReport) (group ps) ≡ false
group-fits [] h k = refl
group-fits (p ∷ ps) h k = rw (count_fits (length ps) (omega arith)) k

one_side : Fits 552 (decimal 1)
unfolding rejected rows_of header fields groups_of №453 №580 №552 formed allowed is_number decimal writes kind_of
one_side = refl

-- THE SIDE: "group 552, exactly once, of 54": there is one, which begins with 54
abbrev first_of : List Bytes → Option Bytes
first_of [] = none
first_of (v ∷ vs) = some v

first_every : (t : Bytes) (ps : List Bytes) → first_of_parts t ps ≡ first_of (every_of_parts t ps)
first_every t [] = refl
first_every t (p ∷ ps) = go (starts t p) (first_every t ps)
  where
    go : (b : Bool) → first_of_parts t ps ≡ first_of (every_of_parts t ps) → cond b (some (drop (length t) p)) (first_of_parts t ps) ≡ first_of (cond b (drop (length t) p ∷ every_of_parts t ps) (every_of_parts t ps))
    go true e = refl
    go false e = e

first-among : (t : ℕ) → 1 ≤ t → t ≤ 99_999 → (body : Bytes) → first_field t body ≡ first_of (map (λ (f : ℕ × Bytes). f.1) (fields_among (eqb t) (parts body)))
unfolding first_field
first-among t low high body = first_every (tagged t) (parts body) ∙ ap first_of (every_of t low high (parts body))

counted_some : {most n : ℕ} {cs : List (ℕ × Bytes)} (u : Bytes) → Counted most cs n → first_of (map (λ (f : ℕ × Bytes). f.1) cs) ≡ some u → 1 ≤ n
counted_some u Groups.none e = let z : ◌≡◌ {A = ℕ} 0 1 = cc in absurd (omega arith)
counted_some u (Groups.one a b) e = a

begins_54 : {n : ℕ} {fs : List (ℕ × Bytes)} → 1 ≤ n → Instances №552 [] fs n → (v : Bytes) × (first_of (map (λ (f : ℕ × Bytes). f.1) (those 54 fs)) ≡ some v)
unfolding №552
begins_54 l (ended W) = absurd (omega arith)
begins_54 l (begins {t = t} {v = v} W f I) = (v, rw f)

side_there : (body u : Bytes) → first_field 552 body ≡ some u → Grouped №552 (parts body) → (v : Bytes) × (first_field 54 body ≡ some v)
unfolding №552
side_there body u e G =
    let n = counted_some u G.counted (sym (first-among 552 (omega arith) (omega arith) body) ∙ e) in
    let b = begins_54 n G.instances in
    (b.0, first-among 54 (omega arith) (omega arith) body ∙ ap (λ (fs : List (ℕ × Bytes)). first_of (map (λ (f : ℕ × Bytes). f.1) fs)) (sym (those-fields (listed №552.members) 54 refl (parts body))) ∙ b.1)

-- ALL THE VALUES
module _ (body : Bytes) (A : AllPassed TradeCaptureReport (parts body)) where
  its_fit : AllFit (parts body)
  its_fit = all_fit (parts body) A (parts_free body)

  value_fits : (t : ℕ) → 1 ≤ t → t ≤ 99_999 → (v : Bytes) → first_field t body ≡ some v → Fits t v
  unfolding first_field
  value_fits t low high v e = first_fits t low high (parts body) v its_fit e

  the_fits : (t : ℕ) → 1 ≤ t → t ≤ 99_999 → ((v : Bytes) × (first_field t body ≡ some v)) → Fits t (the t body)
  the_fits t low high h = rw h.1 (value_fits t low high h.0 h.1)

  may_fit : (t : ℕ) → 1 ≤ t → t ≤ 99_999 → Unfit.required TradeCaptureReport t ≡ false → unfit TradeCaptureReport (t is optional (first_field t body)) ≡ false
  may_fit t low high r = go (first_field t body) refl
    where
      go : (o : Option Bytes) → first_field t body ≡ o → unfit TradeCaptureReport (t is optional o) ≡ false
      go none e = r
      go (some v) e = value_fits t low high v e

  parties_fit : length (parties_in body) ≤ 8 → any (unfit TradeCaptureReport) (group (parties_in body)) ≡ false
  unfolding every_field
  parties_fit h =
      group-fits (parties_in body) h
      (members_fit (every_field 448 body) (every_field 447 body) (every_field 452 body) (every_fits 448 (omega arith) (omega arith) (parts body) its_fit) (every_fits 447 (omega arith) (omega arith) (parts body) its_fit) (every_fits 452 (omega arith) (omega arith) (parts body) its_fit))

  module _ (there : (t : ℕ) → required (header ++ fields TradeCaptureReport) t ≡ true → (v : Bytes) × (first_field t body ≡ some v)) (G : Grouped №552 (parts body)) (few : length (parties_in body) ≤ 8) where
    pub reportable : first_field 32 body ≡ some (amount_text (values_in body).its32) → first_field 31 body ≡ some (amount_text (values_in body).its31) → takes (values_in body) ≡ true
    unfolding takes values_in header fields №453 №580 №552 groups_of rows_of Unfit.required
    reportable q p =
        let s = there 552 refl in
        rw (
          the_fits 571 (omega arith) (omega arith) (there 571 refl),
          the_fits 828 (omega arith) (omega arith) (there 828 refl),
          the_fits 60 (omega arith) (omega arith) (there 60 refl),
          value_fits 32 (omega arith) (omega arith) _ q,
          value_fits 31 (omega arith) (omega arith) _ p,
          may_fit 64 (omega arith) (omega arith) refl,
          the_fits 574 (omega arith) (omega arith) (there 574 refl),
          the_fits 48 (omega arith) (omega arith) (there 48 refl),
          the_fits 22 (omega arith) (omega arith) (there 22 refl),
          one_side,
          the_fits 54 (omega arith) (omega arith) (side_there body s.0 s.1 G),
          may_fit 1427 (omega arith) (omega arith) refl,
          parties_fit few,
        )
