-- All that a clean verdict says of a body.
-- Assumes nothing.
use Prim.Native.Nat.{ℕ, ◌≤◌}
use native.Mathlib.Omega.{arith}
use borrow.Author.Tests.{eqb-true}
use mathlib.Core.Path.{◌≡◌, refl, ap, sym, ◌∙◌, subst}
use mathlib.Core.List.{List, [], ◌∷◌, ◌++◌}
use mathlib.Core.Bool.{Bool, true, false, ◌&&◌, ◌||◌, false≢true}
use lib.Dec.{eqb}
use lib.ListN.{length}
use Rattle.octets.specs.Bytes.{Bytes, all, has, within}
use Rattle.octets.proofs.Tests.{both}
use Rattle.fields.specs.Field.{parts}
use Rattle.kinds.specs.Kind.{number◌to◌}
use Rattle.table.specs.Dictionary.{Row, Group, №453, №580, №552, the_ten, header, fields, groups_of, member, rows_of, listed, kind_in, in_dictionary}
use Rattle.table.specs.code.Held.{all_rows, tags}
use Rattle.table.specs.declared.MsgType.{MsgType}
use Rattle.table.specs.declared.MsgType.TheVariants.{Heartbeat, TestRequest, ResendRequest, Reject, SequenceReset, Logout, Logon, OrderCancelRequest, TradeCaptureReportRequest, TradeCaptureReport}
use Rattle.table.proofs.Lists.{all_ten}
use Rattle.dictionary.specs.Verdict.{Clean, walk, nothing_yet, verdict}
use Rattle.dictionary.specs.Groups.{required, fields_among, Grouped, AllGrouped}
use Rattle.dictionary.specs.Promise.{AllPassed, CleanBody}
use Rattle.dictionary.proofs.Saying.{unknown_tag}
use Rattle.dictionary.proofs.Clean.{clean-walk, clean-type, clean-passed, clean_kind, clean-required}
use Rattle.dictionary.proofs.Inside.{Tested, fit}
use Rattle.dictionary.proofs.Grouping.{grouped_by}
use Rattle.dictionary.proofs.Once.{met_once}
use Rattle.dictionary.proofs.Counting.{grouped_so, few, those-fields, single}

-- THE TABLE'S TAGS have one to five digits
abbrev tagged_row : Row → Bool
tagged_row r = within 1 99_999 r.tag

required_tag : (rows : List Row) (t : ℕ) → all tagged_row rows ≡ true → required rows t ≡ true → within 1 99_999 t ≡ true
required_tag [] t h k = absurd (false≢true k)
required_tag (r ∷ rows) t h k = let w = both (tagged_row r) (all tagged_row rows) h in go r.required (eqb r.tag t) refl k w.0 (required_tag rows t w.1)
  where
    go : (q b : Bool) → eqb r.tag t ≡ b → ((b && q) || required rows t) ≡ true → within 1 99_999 r.tag ≡ true → (required rows t ≡ true → within 1 99_999 t ≡ true) → within 1 99_999 t ≡ true
    go true true e k l f = ap (within 1 99_999) (sym (eqb-true r.tag t e)) ∙ l
    go true false e k l f = f k
    go false true e k l f = f k
    go false false e k l f = f k

rows_tagged : all (λ (m : MsgType). all tagged_row (header ++ fields m)) the_ten ≡ true
unfolding header fields №453 №580 №552
rows_tagged = refl

pub among_all : (f : ℕ → Bool) (l : List ℕ) → all f l ≡ true → (t : ℕ) → has l t ≡ true → f t ≡ true
among_all f [] h t k = absurd (false≢true k)
among_all f (x ∷ l) h t k = let w = both (f x) (all f l) h in go (eqb x t) refl k w.0 (among_all f l w.1 t)
  where
    go : (b : Bool) → eqb x t ≡ b → (b || has l t) ≡ true → f x ≡ true → (has l t ≡ true → f t ≡ true) → f t ≡ true
    go true e k y ih = ap f (sym (eqb-true x t e)) ∙ y
    go false e k y ih = ih k

known_tagged : (t : ℕ) → in_dictionary t ≡ true → within 1 99_999 t ≡ true
unfolding all_rows tags header fields №453 №580 №552
known_tagged t h = among_all (within 1 99_999) tags refl t (go (has tags t) refl)
  where
    go : (b : Bool) → has tags t ≡ b → b ≡ true
    go true e = refl
    go false e = absurd (false≢true (sym (unknown_tag t e) ∙ h))

-- THE GROUPS OF EACH TYPE, by tests that compute
cancel_453 : Tested OrderCancelRequest №453
unfolding groups_of fields header member rows_of in_dictionary №453 №580 №552
cancel_453 = record { members = refl; counter = refl; others = refl; inner = refl; opens = λ v. refl }

request_453 : Tested TradeCaptureReportRequest №453
unfolding groups_of fields header member rows_of in_dictionary №453 №580 №552
request_453 = record { members = refl; counter = refl; others = refl; inner = refl; opens = λ v. refl }

request_580 : Tested TradeCaptureReportRequest №580
unfolding groups_of fields header member rows_of in_dictionary №453 №580 №552
request_580 = record { members = refl; counter = refl; others = refl; inner = refl; opens = λ v. refl }

report_453 : Tested TradeCaptureReport №453
unfolding groups_of fields header member rows_of in_dictionary №453 №580 №552
report_453 = record { members = refl; counter = refl; others = refl; inner = refl; opens = λ v. refl }

report_552 : Tested TradeCaptureReport №552
unfolding groups_of fields header member rows_of in_dictionary №453 №580 №552
report_552 = record { members = refl; counter = refl; others = refl; inner = refl; opens = λ v. refl }

module _ (m : MsgType) (ps : List Bytes) (h : walk m nothing_yet ps ≡ Clean) (A : AllPassed m ps) where
  -- a group that is a field of the message
  top_grouped : (g : Group) → Tested m g → member m g.counter ≡ false → kind_in (rows_of m) g.counter ≡ number 1 to g.most → Grouped g ps
  top_grouped g T n d = let F = fit m g T in grouped_so m g ps F.counter_known d A (met_once m g.counter ps F.counter_known n h) (grouped_by m g F ps h)

  -- one that is a member of another
  deep_grouped : (g : Group) → Tested m g → length (fields_among (eqb g.counter) ps) ≤ 1 → kind_in (rows_of m) g.counter ≡ number 1 to g.most → Grouped g ps
  deep_grouped g T l d = let F = fit m g T in grouped_so m g ps F.counter_known d A l (grouped_by m g F ps h)

-- "exactly once": each member is there at most once
single_member : (g : Group) (ps : List Bytes) → g.most ≡ 1 → Grouped g ps → (t : ℕ) → listed g.members t ≡ true → length (fields_among (eqb t) ps) ≤ 1
single_member g ps e G t k = subst (λ (fs : List (ℕ × Bytes)). length fs ≤ 1) (those-fields (listed g.members) t k ps) (single t G.instances (omega (arith, few G.counted)))

module _ (ps : List Bytes) (h : walk TradeCaptureReport nothing_yet ps ≡ Clean) (A : AllPassed TradeCaptureReport ps) where
  its_552 : Grouped №552 ps
  unfolding groups_of fields header member rows_of №453 №580 №552
  its_552 = top_grouped TradeCaptureReport ps h A №552 report_552 refl refl

  once_552 : (t : ℕ) → listed №552.members t ≡ true → length (fields_among (eqb t) ps) ≤ 1
  unfolding №552
  once_552 = single_member №552 ps refl its_552

  its_453 : Grouped №453 ps
  unfolding groups_of fields header member rows_of №453 №580 №552
  its_453 = deep_grouped TradeCaptureReport ps h A №453 report_453 (once_552 453 refl) refl

all_grouped : (m : MsgType) (ps : List Bytes) → walk m nothing_yet ps ≡ Clean → AllPassed m ps → AllGrouped (groups_of m) ps
unfolding groups_of fields header member rows_of №453 №580 №552
all_grouped Heartbeat ps h A = tt
all_grouped TestRequest ps h A = tt
all_grouped ResendRequest ps h A = tt
all_grouped Reject ps h A = tt
all_grouped SequenceReset ps h A = tt
all_grouped Logout ps h A = tt
all_grouped Logon ps h A = tt
all_grouped OrderCancelRequest ps h A = (top_grouped OrderCancelRequest ps h A №453 cancel_453 refl refl, tt)
all_grouped TradeCaptureReportRequest ps h A =
    let G = top_grouped TradeCaptureReportRequest ps h A in
    (G №453 request_453 refl refl, (G №580 request_580 refl refl, tt))
all_grouped TradeCaptureReport ps h A = (its_453 ps h A, (its_552 ps h A, tt))

-- ALL THAT A CLEAN VERDICT SAYS
pub clean-body : (body : Bytes) → verdict body ≡ Clean → CleanBody body
clean-body body h =
    let y = clean-type body h in
    let m = y.0 in
    let w = clean-walk m body h y.1 in
    let A = clean-passed m body h y.1 in
    record {
      type = m;
      named = y.1;
      passed = A;
      of_kind = λ t v k e. clean_kind m t body v h y.1 (known_tagged t k) k e;
      there = λ t r. clean-required m t body h y.1 (required_tag (header ++ fields m) t (all_ten (λ (n : MsgType). all tagged_row (header ++ fields n)) rows_tagged m) r) r;
      once = λ t k n. met_once m t (parts body) k n w;
      grouped = all_grouped m (parts body) w A;
      side = λ e. once_552 (parts body) (subst (λ (n : MsgType). walk n nothing_yet (parts body) ≡ Clean) e w) (subst (λ (n : MsgType). AllPassed n (parts body)) e A);
    }
