-- The reply of the report call: nothing under a refusal, else one whole report. Assumes nothing.
use Prim.Native.Nat.{ℕ}
use native.Mathlib.Omega.{arith}
use mathlib.Core.Path.{◌≡◌, refl, ap, ◌∙◌}
use mathlib.Core.List.{[], ◌∷◌}
use mathlib.Core.Option.{Option}
use lib.ListN.{length}
use Rattle.octets.specs.Bytes.{Bytes, Byted}
use Rattle.frame.specs.Frame.{fixt}
use Rattle.frame.specs.Stream.{Frames, joined}
use Rattle.fields.specs.Field.{first_field}
use Rattle.dictionary.specs.Verdict.{verdict}
use Rattle.message.proofs.Joined.{joined_frames}
use Rattle.report.specs.Values.{Values, own}
use Rattle.report.specs.Layout.{values_given}
use Rattle.report.specs.Promise.{OfBytes}
use Rattle.report.proofs.Promise as Report
use Rattle.readback.specs.Back.{read_back, words_in}
use Rattle.readback.proofs.Promise as Back
use Rattle.moves.specs.Session.{Session}
use Rattle.places.specs.Places.{is_store}
use Rattle.session.specs.Calls.{Outcome}
use Rattle.session.specs.Refusals.{No, numbers}
use Rattle.session.specs.Answer.{Answer}
use Rattle.session.specs.Answer.{Done}
use Rattle.session.specs.declared.Refusal.{Refusal}
use Rattle.session.specs.declared.Refusal.TheVariants.{SessionClosed, NotLogon, BadLogon, NumbersSpent, BufferShort, TimePast, BadValue, NoRoom, NotOneFrame, BadRecord, ReportTooLong, Replaying, BadStore}
use Rattle.border.specs.Numbers.{refusal_of}
use Rattle.reporting.specs.Call.{the_report, message, unless, report}
use Rattle.reporting.proofs.Promise.{Passed, each_report, passed-sendable}
use Rattle.gateway.specs.Promise.{WholeReport, AllOf}

module _ (s : Session) (v : Values) (t : ℕ) (buf store : Bytes) (ours : Byted s.ours) (peers : Byted s.peers) (b : OfBytes (own v)) where
  good_report : Passed s v t (is_store store) (length buf) → WholeReport v t (message s v t) s
  unfolding message
  good_report P =
      let h = passed-sendable s v t P in
      let W = (Report.promise).written s.ours s.peers (the_report s v t) h in
      let K = (Back.promise).back s.ours s.peers (the_report s v t) h in
      let F = W.good ours peers b in
      let e = F.its_body in
      record {
        frame = F.frame;
        short = W.short;
        no_finding = ap verdict e ∙ W.clean;
        head = record { sender = ap (first_field 49) e ∙ W.sender; target = ap (first_field 56) e ∙ W.target; number = ap (first_field 34) e ∙ W.numbered; time = ap (first_field 52) e ∙ W.timed };
        answered = ap read_back e ∙ K.answered;
        reads_back = ap (λ (x : Bytes). values_given (words_in x) x) e ∙ K.its_values;
      }

  abbrev Stands : Outcome → Type 0
  Stands o = AllOf (λ m. WholeReport v t m s) o.reply × Frames fixt (joined o.reply) o.reply

  pub report_whole : Stands (report s v t buf store)
  unfolding report
  report_whole =
      each_report (λ (a : Option Answer). Stands (unless s v t a buf)) s v t (is_store store) (length buf) (λ k. (tt, joined_frames [] tt))
      (λ P. let W = good_report P in ((W, tt), joined_frames (message s v t ∷ []) (W.frame, tt)))

-- IT IS NOT REFUSED, and so it went out
pub not_zero : (k : Refusal) → No k ≡ 0 → ⊥
not_zero SessionClosed e = omega (arith, e)
not_zero NotLogon e = omega (arith, e)
not_zero BadLogon e = omega (arith, e)
not_zero NumbersSpent e = omega (arith, e)
not_zero BufferShort e = omega (arith, e)
not_zero TimePast e = omega (arith, e)
not_zero BadValue e = omega (arith, e)
not_zero NoRoom e = omega (arith, e)
not_zero NotOneFrame e = omega (arith, e)
not_zero BadRecord e = omega (arith, e)
not_zero ReportTooLong e = omega (arith, e)
not_zero Replaying e = omega (arith, e)
not_zero BadStore e = omega (arith, e)

pub report_done : (s : Session) (v : Values) (t : ℕ) (buf store : Bytes) → refusal_of (numbers (report s v t buf store).answer) ≡ 0 → (report s v t buf store).answer ≡ Done
unfolding report
report_done s v t buf store =
    each_report (λ (a : Option Answer). refusal_of (numbers (unless s v t a buf).answer) ≡ 0 → (unless s v t a buf).answer ≡ Done) s v t (is_store store) (length buf)
    (λ k e. absurd (not_zero k e))
    (λ P e. refl)
