-- What is answered: by the verdict, and of a clean body by its type.
use Prim.Native.Nat.{ℕ, ◌-◌}
use native.Mathlib.Omega.{arith}
use mathlib.Core.Path.{◌≡◌, refl, sym, ap, ◌∙◌}
use mathlib.Core.List.{List}
use mathlib.Core.Logic.{◌⊎◌, inl, inr}
use mathlib.Core.Bool.{Bool, true, false, cond, false≢true}
use mathlib.Core.Option.{Option, none, some}
use lib.ListN.{take, drop, replicate}
use Rattle.octets.specs.Bytes.{Bytes, fix, same}
use Rattle.fields.specs.Field.{first_field, is_body}
use Rattle.fields.specs.First.{First, value_at}
use Rattle.fields.specs.First.{Place, from_to}
use Rattle.std.specs.Prelude.{None, Ok, Err, IsErrAnd}
use Rattle.kinds.proofs.Values.{same_true}
use Rattle.table.specs.Dictionary.{code35, type_of}
use Rattle.table.specs.declared.MsgType.{MsgType}
use Rattle.table.specs.declared.MsgType.TheVariants.{Heartbeat, TestRequest, ResendRequest, Reject, SequenceReset, Logout, Logon, OrderCancelRequest, TradeCaptureReportRequest, TradeCaptureReport}
use Rattle.dictionary.specs.Verdict.{Verdict, Clean, found, verdict, type_by, msg_type}
use Rattle.dictionary.specs.Verdict as Dictionary
use Rattle.dictionary.specs.declared.Unclean.{Unclean}
use Rattle.dictionary.specs.declared.Unclean.TheVariants.{Found, NoBody}
use Rattle.table.proofs.Types.{type_coded}
use Rattle.dictionary.proofs.Findings.{verdict-refuses}
use Rattle.readback.specs.Back.{Values, numbers, of_type, by_verdict, read_back, words_in, words_by, Reads}
use Rattle.readback.specs.Promise.{OtherType}
use Rattle.readback.specs.code.Pass.{is_ae, names_report}

-- THE TYPE by the place of the first field 35
pub type_absent : (body : Bytes) {r : Place} → First 35 body r → r ≡ None → false ≡ names_report body
type_absent body F h = ap is_ae (ap (value_at body) (sym h) ∙ F.value refl)

pub type_there : (body : Bytes) {r : Place} {s e : ℕ} {b : Bool} → First 35 body r → r ≡ from_to s e → b ≡ same (take (e - s) (drop s body)) (fix "AE") → b ≡ names_report body
type_there body F h q = q ∙ ap is_ae (ap (value_at body) (sym h) ∙ F.value refl)

-- a value names the report exactly if it is AE
report-named : type_of (fix "AE") ≡ some TradeCaptureReport
unfolding type_of code35
report-named = refl

by_value : (v : Bytes) (o : Option MsgType) → type_of v ≡ o → of_type o ≡ cond (same v (fix "AE")) Values (found 11 35)
by_value v (some m) e = ap (λ (u : Bytes). cond (same u (fix "AE")) Values (found 11 35)) (sym (type_coded v m e))
by_value v none e = go (same v (fix "AE")) refl
  where
    go : (b : Bool) → same v (fix "AE") ≡ b → found 11 35 ≡ cond b Values (found 11 35)
    go true h = let q : none ≡ some TradeCaptureReport = sym e ∙ ap type_of (same_true v (fix "AE") h) ∙ report-named in let z : ◌≡◌ {A = ℕ} 0 1 = cc in absurd (omega arith)
    go false h = refl

by_type : (body : Bytes) → of_type (msg_type body) ≡ cond (names_report body) Values (found 11 35)
by_type body = go (first_field 35 body)
  where
    go : (o : Option Bytes) → of_type (type_by o) ≡ cond (is_ae o) Values (found 11 35)
    go none = refl
    go (some v) = by_value v (type_of v) refl

-- THE ANSWER by the verdict, with the words that are left
module _ (body : Bytes) where
  given : {r : Verdict} {words : List ℕ} → r ≡ read_back body → words ≡ words_by r body → Reads body r words
  given e w = record { answer = e; words_are = w ∙ ap (λ (r : Verdict). words_by r body) e }

  answered : {o : Verdict} → o ≡ verdict body → by_verdict o (msg_type body) ≡ read_back body
  unfolding read_back
  answered e = ap (λ (o : Verdict). by_verdict o (msg_type body)) e

  pub reads_other : {o : Verdict} {b : Bool} → o ≡ verdict body → o ≡ Clean → b ≡ names_report body → b ≡ false → Reads body (found 11 35) (replicate 82 0)
  reads_other {b = b} e q n h =
      given (sym (by_type body ∙ ap (λ (c : Bool). cond c Values (found 11 35)) (sym n ∙ h)) ∙ answered (sym q ∙ e)) refl

  pub reads_values : {o : Verdict} {b : Bool} {words : List ℕ} → o ≡ verdict body → o ≡ Clean → b ≡ names_report body → b ≡ true → words ≡ words_in body → Reads body Values words
  reads_values {b = b} e q n h w =
      given (sym (by_type body ∙ ap (λ (c : Bool). cond c Values (found 11 35)) (sym n ∙ h)) ∙ answered (sym q ∙ e)) w

  pub reads_err : {u : Unclean} → Err u ≡ verdict body → (r : Verdict) → IsErrAnd r (λ v. v ≡ u) → Reads body r (replicate 82 0)
  reads_err e (Ok x) q = absurd q
  reads_err e (Err v) q = given (ap (λ (w : Unclean). Err w) q ∙ answered e) refl

  pub values_clean : verdict body ≡ Clean → names_report body ≡ true → read_back body ≡ Values
  values_clean e n = sym (answered (sym e)) ∙ by_type body ∙ ap (λ (c : Bool). cond c Values (found 11 35)) n

-- WHAT AN ANSWER SAYS of the verdict and of the type
coded_report : (m : MsgType) → same (code35 m) (fix "AE") ≡ true → m ≡ TradeCaptureReport
unfolding code35
coded_report Heartbeat h = absurd (false≢true h)
coded_report TestRequest h = absurd (false≢true h)
coded_report ResendRequest h = absurd (false≢true h)
coded_report Reject h = absurd (false≢true h)
coded_report SequenceReset h = absurd (false≢true h)
coded_report Logout h = absurd (false≢true h)
coded_report Logon h = absurd (false≢true h)
coded_report OrderCancelRequest h = absurd (false≢true h)
coded_report TradeCaptureReportRequest h = absurd (false≢true h)
coded_report TradeCaptureReport h = refl

of_values : (o : Option MsgType) → of_type o ≡ Values → o ≡ some TradeCaptureReport
of_values none e = let z : ◌≡◌ {A = ℕ} 0 1 = cc in absurd (omega arith)
of_values (some m) e = ap some (coded_report m (go (same (code35 m) (fix "AE")) refl e))
  where
    go : (b : Bool) → same (code35 m) (fix "AE") ≡ b → cond b Values (found 11 35) ≡ Values → same (code35 m) (fix "AE") ≡ true
    go true k h = k
    go false k h = let z : ◌≡◌ {A = ℕ} 0 1 = cc in absurd (omega arith)

of_report : of_type (some TradeCaptureReport) ≡ Values
unfolding code35
of_report = refl

reason_in : Verdict → ℕ
reason_in (Ok u) = 0
reason_in (Err (Found f)) = f.reason
reason_in (Err NoBody) = 0

tag_in : Verdict → ℕ
tag_in (Ok u) = 0
tag_in (Err (Found f)) = f.tag
tag_in (Err NoBody) = 0

of_finding : (o : Option MsgType) (r t : ℕ) → of_type o ≡ found r t → (o ≡ some TradeCaptureReport → ⊥) × ((r ≡ 11) × (t ≡ 35))
unfolding reason_in tag_in
of_finding o r t e = (other, go o e)
  where
    other : o ≡ some TradeCaptureReport → ⊥
    other q = let v = sym (ap of_type q ∙ of_report) ∙ e in let z : ◌≡◌ {A = ℕ} 0 1 = cc in omega arith

    by : (b : Bool) → cond b Values (found 11 35) ≡ found r t → (r ≡ 11) × (t ≡ 35)
    by true h = let z : ◌≡◌ {A = ℕ} 0 1 = cc in absurd (omega arith)
    by false h = (sym (ap reason_in h), sym (ap tag_in h))

    go : (o : Option MsgType) → of_type o ≡ found r t → (r ≡ 11) × (t ≡ 35)
    go none e = (sym (ap reason_in e), sym (ap tag_in e))
    go (some m) e = by (same (code35 m) (fix "AE")) e

of_none : (o : Option MsgType) → (numbers (of_type o)).0 ≡ none
of_none none = refl
of_none (some m) = go (same (code35 m) (fix "AE"))
  where
    go : (b : Bool) → (numbers (cond b Values (found 11 35))).0 ≡ none
    go true = refl
    go false = refl

module _ (body : Bytes) where
  pub values_say : read_back body ≡ Values → (verdict body ≡ Clean) × (msg_type body ≡ some TradeCaptureReport)
  unfolding read_back
  values_say h = go (verdict body) refl h
    where
      go : (o : Verdict) → verdict body ≡ o → by_verdict o (msg_type body) ≡ Values → (verdict body ≡ Clean) × (msg_type body ≡ some TradeCaptureReport)
      go (Ok u) e k = (e, of_values (msg_type body) k)
      go (Err u) e k = let z : ◌≡◌ {A = ℕ} 0 1 = cc in absurd (omega arith)

  pub report_answers : verdict body ≡ Clean → msg_type body ≡ some TradeCaptureReport → read_back body ≡ Values
  report_answers c m = sym (answered body (sym c)) ∙ ap of_type m ∙ of_report

  pub finding_says : (r t : ℕ) → read_back body ≡ found r t → (verdict body ≡ found r t) ⊎ OtherType body r t
  unfolding read_back
  finding_says r t h = go (verdict body) refl h
    where
      go : (o : Verdict) → verdict body ≡ o → by_verdict o (msg_type body) ≡ found r t → (verdict body ≡ found r t) ⊎ OtherType body r t
      go (Ok u) e k = let o = of_finding (msg_type body) r t k in inr (record { clean = e; other = o.0; its_reason = o.1.0; its_tag = o.1.1 })
      go (Err u) e k = inl (e ∙ k)

  pub refusal_says : (numbers (read_back body)).0 ≡ cond (is_body body) none (some 10)
  unfolding read_back Dictionary.numbers
  refusal_says = go (verdict body) ∙ verdict-refuses body
    where
      go : (o : Verdict) → (numbers (by_verdict o (msg_type body))).0 ≡ (Dictionary.numbers o).0
      go (Ok u) = of_none (msg_type body)
      go (Err (Found f)) = refl
      go (Err NoBody) = refl
