-- What is promised of the reading back, proved.
use Prim.Native.Nat.{ℕ, ◌≤◌, ◌<◌}
use native.Mathlib.Omega.{arith}
use borrow.Author.Tests.{not-true}
use mathlib.Core.Path.{◌≡◌, refl, ap, sym, ◌∙◌, subst}
use mathlib.Core.List.{List, [], ◌∷◌, ◌++◌}
use mathlib.Core.Bool.{Bool, true, false, not, ◌&&◌, ◌||◌}
use mathlib.Core.Option.{Option, none, some}
use lib.Dec.{eqb}
use lib.ListN.{length, get_or}
use Rattle.octets.specs.Bytes.{Bytes, fix, decimal, all, has}
use Rattle.octets.proofs.Tests.{both}
use Rattle.fields.specs.Field.{parts, first_field}
use Rattle.kinds.specs.Kind.{kind_of}
use Rattle.kinds.specs.Kind as Kind
use Rattle.table.specs.Dictionary.{№453, №580, №552, header, fields, groups_of, member, rows_of, listed, kind_in, in_dictionary}
use Rattle.table.specs.declared.MsgType.{MsgType}
use Rattle.table.specs.declared.MsgType.TheVariants.{TradeCaptureReport}
use Rattle.dictionary.specs.Verdict.{Verdict, Clean, found, no_body, verdict, msg_type}
use Rattle.dictionary.specs.Promise.{OfKind, AllPassed}
use Rattle.dictionary.specs.Groups.{required, fields_among, Counted, Grouped, AllGrouped}
use Rattle.dictionary.specs.declared.Unclean.TheVariants.{Found, NoBody}
use Rattle.dictionary.proofs.Bodies.{among_all, clean-body}
use Rattle.dictionary.proofs.Counting.{few}
use Rattle.calendar.specs.Time.{utc, limit}
use Rattle.message.specs.Message.{Value, absent, bytes, row, framed}
use Rattle.message.specs.Whole.{body_in}
use Rattle.message.proofs.Wholes.{body_back}
use Rattle.amounts.specs.Amount.{amount_text, amount_in}
use Rattle.amounts.proofs.Amounts.{text_back}
use Rattle.report.specs.Values as Report
use Rattle.report.specs.Report.{Report, or_empty, the, parties_in, fields_with, sent, again, sendable, values_in, report_in}
use Rattle.report.proofs.Promise as Written
use Rattle.report.specs.Layout.{tags}
use Rattle.std.specs.Prelude.{Ok, Err}
use Rattle.readback.specs.Back.{Values, read_back, numbers}
use Rattle.readback.specs.code.Pass.{names_report}
use Rattle.readback.specs.Promise.{Parties, Given, ReadsBack, Promise}
use Rattle.readback.proofs.Answers.{report_answers, values_clean, values_say, finding_says, refusal_says}
use Rattle.readback.proofs.Parties.{three, parties_of_lem, parties_are}
use Rattle.readback.proofs.Again.{reportable}
use Rattle.readback.proofs.Given.{values_given_lem}

-- the tags of the eleven values
tags-once : all (λ (t : ℕ). in_dictionary t && (listed №552.members t || not (member TradeCaptureReport t))) tags ≡ true
unfolding in_dictionary member groups_of rows_of header fields №453 №580 №552
tags-once = refl

-- WHAT A CLEAN REPORT SAYS: each required tag is there, a decimal's two numbers tell its text, and its groups are whole
module _ (body : Bytes) (c : verdict body ≡ Clean) (m : msg_type body ≡ some TradeCaptureReport) where
  its_type : (clean-body body c).type ≡ TradeCaptureReport
  its_type = let n = (clean-body body c).named in cc

  there : (t : ℕ) → required (header ++ fields TradeCaptureReport) t ≡ true → (v : Bytes) × (first_field t body ≡ some v)
  there t h = (clean-body body c).there t (ap (λ (k : MsgType). required (header ++ fields k) t) its_type ∙ h)

  told_text : (t : ℕ) (v : Bytes) → in_dictionary t ≡ true → kind_in (rows_of TradeCaptureReport) t ≡ Kind.decimal → first_field t body ≡ some v → first_field t body ≡ some (amount_text (amount_in (the t body)))
  told_text t v k d q =
      let K : OfKind TradeCaptureReport t v = subst (λ (m : MsgType). OfKind m t v) its_type ((clean-body body c).of_kind t v k q) in
      q ∙ ap some (sym (text_back v (rw d at K.form) (rw d at K.value)) ∙ ap (λ (o : Option Bytes). amount_text (amount_in (or_empty o))) (sym q))

  its_passed : AllPassed TradeCaptureReport (parts body)
  its_passed = subst (λ (k : MsgType). AllPassed k (parts body)) its_type (clean-body body c).passed

  its_groups : Grouped №453 (parts body) × Grouped №552 (parts body)
  unfolding groups_of fields №453 №580 №552
  its_groups = let G = subst (λ (k : MsgType). AllGrouped (groups_of k) (parts body)) its_type (clean-body body c).grouped in (G.0, G.1.0)

  -- a tag of the eleven is one of the side or outside groups
  its_one : (t : ℕ) → in_dictionary t ≡ true → (listed №552.members t || not (member TradeCaptureReport t)) ≡ true → length (fields_among (eqb t) (parts body)) ≤ 1
  its_one t k h = go (listed №552.members t) refl h
    where
      go : (b : Bool) → listed №552.members t ≡ b → (b || not (member TradeCaptureReport t)) ≡ true → length (fields_among (eqb t) (parts body)) ≤ 1
      go true e q = (clean-body body c).side its_type t e
      go false e q = (clean-body body c).once t k (ap (λ (m : MsgType). member m t) its_type ∙ not-true (member TradeCaptureReport t) q)

  only : (t : ℕ) → has tags t ≡ true → length (fields_among (eqb t) (parts body)) ≤ 1
  only t h = let w = both (in_dictionary t) _ (among_all (λ (t : ℕ). in_dictionary t && (listed №552.members t || not (member TradeCaptureReport t))) tags tags-once t h) in its_one t w.0 w.1

record Its-parties (body : Bytes) : Type 0 where
  are : Parties (fields_among three (parts body)) (parties_in body)
  counted : Counted 8 (fields_among (eqb 453) (parts body)) (length (parties_in body))
  few : length (parties_in body) ≤ 8

its_parties : (body : Bytes) → verdict body ≡ Clean → msg_type body ≡ some TradeCaptureReport → Its-parties body
unfolding №453
its_parties body c m =
    let G = (its_groups body c m).0 in
    let P = parties_of_lem G.number G.instances in
    let e = parties_are body P.parties P.are in
    let n : G.number ≡ length (parties_in body) = sym P.long ∙ ap length (sym e) in
    record {
      are = subst (Parties (fields_among three (parts body))) (sym e) P.are;
      counted = subst (Counted 8 (fields_among (eqb 453) (parts body))) n G.counted;
      few = omega (arith, few G.counted);
    }

given : (body : Bytes) → read_back body ≡ Values → Given body
unfolding header fields №453 №580 №552 rows_of groups_of in_dictionary kind_of values_in
given body h =
    let s = values_say body h in
    let a = there body s.0 s.1 32 refl in
    let b = there body s.0 s.1 31 refl in
    let P = its_parties body s.0 s.1 in
    let q = told_text body s.0 s.1 32 a.0 refl refl a.1 in
    let p = told_text body s.0 s.1 31 b.0 refl refl b.1 in
    record {
      clean = s.0;
      report = s.1;
      values = values_given_lem body a.0 a.1 b.0 b.1 P.few;
      only = only body s.0 s.1;
      parties = P.are;
      counted = P.counted;
      price = p;
      quantity = q;
      reportable = reportable body (its_passed body s.0 s.1) (there body s.0 s.1) (its_groups body s.0 s.1).1 P.few q p;
    }

-- WHAT OUR REPORT CALL WROTE, sent or sent again: it begins with 35=AE
begun : (us them : Bytes) (n : ℕ) (dup : Value) (t : ℕ) (orig : Value) (v : Report.Values) → names_report (row (fields_with us them n dup t orig v)) ≡ true
unfolding first_field decimal
begun us them n dup t orig v = refl

names_report_lem : (us them : Bytes) (n : ℕ) (dup : Value) (t : ℕ) (orig : Value) (v : Report.Values) → names_report (body_in (framed (row (fields_with us them n dup t orig v)))) ≡ true
names_report_lem us them n dup t orig v = ap names_report (body_back (row (fields_with us them n dup t orig v))) ∙ begun us them n dup t orig v

-- a clean body of such a report that names its values reads back as them
reads : (body : Bytes) (r : Report) → verdict body ≡ Clean → names_report body ≡ true → values_in body ≡ r.values → ReadsBack body r
reads body r c n e =
    let a = values_clean body c n in
    record {
      answered = a;
      its_values = (given body a).values ∙ e;
    }

back : (us them : Bytes) (r : Report) → sendable us them r ≡ true → ReadsBack (body_in (sent us them r)) r
unfolding sent report_in
back us them r h =
    let W = (Written.promise).written us them r h in
    reads _ r W.clean (names_report_lem us them r.number absent r.time absent r.values) (ap (λ (x : Report). x.values) W.reads)

back_again : (us them : Bytes) (r : Report) → sendable us them r ≡ true → (t : ℕ) → t < limit → ReadsBack (body_in (again us them r t)) r
unfolding again
back_again us them r h t l =
    let W = (Written.promise).repeated us them r h t in
    reads _ r (W.clean l) (names_report_lem us them r.number (bytes (fix "Y")) t (bytes (utc r.time)) r.values) W.reads

-- the case that number and values tell
told : Option ℕ → List ℕ → Verdict
told none [] = Values
told none (r ∷ l) = found r (get_or l 0 0)
told (some n) l = no_body

told_back : (r : Verdict) → told (numbers r).0 (numbers r).1 ≡ r
unfolding told
told_back (Ok u) = refl
told_back (Err (Found f)) = refl
told_back (Err NoBody) = refl

numbers_tell : (r s : Verdict) → numbers r ≡ numbers s → r ≡ s
numbers_tell r s h = sym (told_back r) ∙ ap (λ (p : Option ℕ × List ℕ). told p.0 p.1) h ∙ told_back s

pub promise : Promise
promise = record { answers = report_answers; given = given; back = back; back_again = back_again; finding = finding_says; refusal_10 = refusal_says; told_apart = numbers_tell }
