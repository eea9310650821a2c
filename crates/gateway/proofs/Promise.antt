-- The whole promise, shown: each call has exactly one outcome, what a call on a record leaves is as the page says, and the promises of the layers below.
-- Assumes nothing.
use Prim.Native.Nat.{ℕ}
use mathlib.Core.Path.{◌≡◌, refl, sym, ap, ap₂, ◌∙◌, subst}
use mathlib.Core.Logic.{◌⊎◌}
use mathlib.Core.List.{List, [], ◌∷◌}
use mathlib.Core.Option.{none, some}
use native.Mathlib.Omega.{arith}
use lib.ListN.{length, get_or}
use Rattle.octets.specs.Bytes.{Bytes, Byted}
use Rattle.frame.specs.Frame.{fixt, front, Good}
use Rattle.line.specs.Line.{line, fitting, put, dropped}
use Rattle.frame.specs.Promise.{ExactlyOne}
use Rattle.frame.proofs.Promise.{fixt_promise, fixt-numbers}
use Rattle.frame.proofs.Readable.{good?}
use Rattle.line.proofs.Promise as Line
use Rattle.fields.proofs.Promise as Fields
use Rattle.dictionary.proofs.Promise as Dictionary
use Rattle.writer.specs.Call as Written
use Rattle.writer.specs.Promise.{MessageOf, CallPromise}
use Rattle.writer.specs.Call.{Written}
use Rattle.writer.specs.declared.Unwritten.TheVariants.{Unfit, Short}
use Rattle.std.specs.Prelude.{Ok, Err}
use Rattle.replies.proofs.Promise as Replies
use Rattle.writer.proofs.Promise as Writer
use Rattle.kept.proofs.Promise as Kept
use Rattle.store.proofs.Promise as Store
use Rattle.replaying.proofs.Promise as Replaying
use Rattle.sequence.proofs.Promise as Sequence
use Rattle.requests.proofs.Promise as Requests
use Rattle.duplicates.proofs.Promise as Duplicates
use Rattle.report.proofs.Promise as ReportMessage
use Rattle.reporting.proofs.Promise as Reporting
use Rattle.readback.proofs.Promise as Back
use Rattle.session.proofs.Promise as Session
use Rattle.border.specs.Numbers.{refusal_of, value_of}
use Rattle.gateway.specs.Border.{read_number, read_words, BodyOut, its_body, no_frame}
use Rattle.border.specs.Values.{values_of}
use Rattle.gateway.specs.Calls.{LeftByWrite, step_out, tick_out, logout_out, test_request_out, report_out, replay_out, reconnect_out, new_out, write_out, WriteOut}
use Rattle.gateway.specs.Promise.{Answers, Promise}
use Rattle.gateway.proofs.OneOutcome.{read_one, body_one, field_one, first_one, verdict_one, report-values_one, put_one, drop_one}
use Rattle.gateway.proofs.Lasting.{lasts}

-- ANSWERS
-- what is a function of its input
exactly : {A : Type 0} (x : A) → ExactlyOne (λ (o : A). o ≡ x)
exactly x = record { it = x; is = refl; same = λ a b p q. p ∙ sym q }

pair : {A B : Type 0} {a a' : A} {b b' : B} → (a ≡ a') × (b ≡ b') → ◌≡◌ {A = A × B} (a, b) (a', b')
pair e = ap₂ (λ x y. (x, y)) e.0 e.1

body_is : (frame : Bytes) → (o : ℕ × List ℕ) × BodyOut frame o.0 o.1
body_is frame = go (good? fixt frame)
  where
    go : Dec (Good fixt frame) → (o : ℕ × List ℕ) × BodyOut frame o.0 o.1
    go (yes G) = ((0, length (front fixt G.digits []) ∷ length G.body ∷ []), its_body G)
    go (no h) = ((10, 0 ∷ 0 ∷ []), no_frame h)

answers : Answers
unfolding put
answers =
    record {
      read = λ s.
          let E = fixt_promise.one_reading s in
          record { it = (read_number E.it, read_words E.it); is = record { answer = E.it; reads = E.is; number = refl; words = refl }; same = λ a b A B. pair (read_one s A B) };
      body = λ f. let E = body_is f in record { it = E.0; is = E.1; same = λ a b A B. pair (body_one f A B) };
      field = λ b at. record { it = (_, _); is = record { number = refl; words = refl }; same = λ o u A B. pair (field_one b at A B) };
      first_field_lem = λ b t. record { it = (_, _); is = record { number = refl; words = refl }; same = λ o u A B. pair (first_one b t A B) };
      verdict = λ b. record { it = (_, _); is = record { number = refl; words = refl }; same = λ o u A B. pair (verdict_one b A B) };
      report_values = λ b. record { it = (_, (_, _)); is = record { number = refl; values_are = refl; words = refl }; same = λ o u A B. let e = report-values_one b A B in pair (e.0, pair e.1) };
      put = λ buf held x. record { it = (fitting (line buf held) x, (put (line buf held) x).buffer); is = refl; same = λ o u A B. pair (put_one buf held x A B) };
      drop = λ buf held n. record { it = ((dropped (line buf held) n).held, (dropped (line buf held) n).buffer); is = refl; same = λ o u A B. pair (drop_one buf held n A B) };
      write = λ type values text buf. exactly (write_out type values text buf);
      new = λ ids words us them. exactly (new_out ids words us them);
      reconnect = λ ids words. exactly (reconnect_out ids words);
      step = λ ids words f t buf store. exactly (step_out ids words f t buf store);
      tick = λ ids words t buf. exactly (tick_out ids words t buf);
      logout = λ ids words t buf. exactly (logout_out ids words t buf);
      test_request = λ ids words id t buf. exactly (test_request_out ids words id t buf);
      report = λ ids words values text t buf store. exactly (report_out ids words values text t buf store);
      replay = λ ids words t buf store. exactly (replay_out ids words t buf store);
    }

-- WRITING
module _ (type : Bytes) (values : List ℕ) (text buf : Bytes) (B : Byted text) where
  abbrev its : Written.Outcome
  its = Written.write type (values_of values) text buf

  call_is : CallPromise type (values_of values) text buf its.answer its.buffer
  call_is = (Writer.promise).call type (values_of values) text buf its.answer its.buffer B refl

  written : (n : ℕ) (buf' : Bytes) → WriteOut type values text buf 0 (n ∷ []) buf' → MessageOf type (values_of values) text buf buf' n
  unfolding write_out
  written n buf' W =
      let e = ap (λ (x : LeftByWrite). x.number) W in
      let v = ap (λ (x : LeftByWrite). get_or x.out 0 0) W in
      subst (λ (b : Bytes). MessageOf type (values_of values) text buf b n) (sym (ap (λ (x : LeftByWrite). x.buffer) W)) (call_is.a_length n (go its.answer (sym e) (sym v)))
    where
      go : (a : Written) → refusal_of (Written.numbers a) ≡ 0 → value_of (Written.numbers a) ≡ n → Written.numbers a ≡ (none, n ∷ [])
      go (Ok len) e v = ap (λ (k : ℕ). (none, k ∷ [])) v
      go (Err Unfit) e v = absurd (omega (arith, e))
      go (Err Short) e v = absurd (omega (arith, e))

  unwritten : (r : ℕ) (out : List ℕ) (buf' : Bytes) → WriteOut type values text buf r out buf' → (r ≡ 0 → ⊥) → ((r ≡ 8) ⊎ (r ≡ 9)) × (buf' ≡ buf)
  unfolding write_out
  unwritten r out buf' W h =
      let e = ap (λ (x : LeftByWrite). x.number) W in
      let p = call_is.a_refusal r (go its.answer (sym e)) in
      (p.0, ap (λ (x : LeftByWrite). x.buffer) W ∙ p.1)
    where
      go : (a : Written) → refusal_of (Written.numbers a) ≡ r → (Written.numbers a).0 ≡ some r
      go (Ok len) e = absurd (h (sym e))
      go (Err Unfit) e = ap some e
      go (Err Short) e = ap some e

pub promise : Promise
promise =
    record {
      answers = answers;
      lasts = lasts;
      written = λ type values text buf n buf' B W. written type values text buf B n buf' W;
      unwritten = λ type values text buf r out buf' B W h. unwritten type values text buf B r out buf' W h;
      frames = fixt_promise;
      sizes = fixt-numbers;
      line = Line.fixt_promise;
      room = Line.fixt-numbers;
      fields = Fields.promise;
      verdicts = Dictionary.promise;
      writing = Writer.promise;
      replies = Replies.promise;
      session = Session.promise;
      report_message = ReportMessage.promise;
      reports = Reporting.promise;
      read_back_lem = Back.promise;
      kept_place = Kept.promise;
      store = Store.promise;
      replays = Replaying.promise;
      sequence = Sequence.promise;
      requests = Requests.promise;
      duplicates = Duplicates.promise;
    }
