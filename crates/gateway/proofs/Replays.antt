-- The reply of the replay call: nothing under a refusal or where nothing is due, else one message, a kept report again or a gap fill. Assumes nothing.
use Prim.Native.Nat.{ℕ, ◌≤◌, ◌<◌}
use mathlib.Core.Path.{◌≡◌, refl, sym, ap, ◌∙◌, subst}
use mathlib.Core.Logic.{◌⊎◌, inl, inr}
use mathlib.Core.Bool.{not, false≢true}
use mathlib.Core.List.{List, [], ◌∷◌}
use mathlib.Core.Option.{some}
use lib.ListN.{length}
use borrow.Author.Tests.{eqb-true, eq-eqb, not-false}
use Rattle.octets.specs.Bytes.{Bytes, Byted, decimal}
use Rattle.frame.specs.Frame.{fixt, Good}
use Rattle.frame.specs.Stream.{Frames, joined}
use Rattle.fields.specs.Field.{first_field}
use Rattle.dictionary.specs.Verdict.{verdict}
use Rattle.dictionary.specs.Verdict.{Clean}
use Rattle.calendar.specs.Time.{limit}
use Rattle.message.specs.Whole.{body_in}
use Rattle.message.proofs.Wholes.{body_is}
use Rattle.message.proofs.Joined.{joined_frames}
use Rattle.report.specs.Report as Report
use Rattle.report.specs.Layout.{values_given}
use Rattle.readback.specs.Back.{read_back, words_in}
use Rattle.readback.proofs.Promise as Back
use Rattle.store.specs.Store.{find}
use Rattle.store.specs.Plan.{Item, Again, Fill, Run}
use Rattle.moves.specs.Session.{Session}
use Rattle.session.specs.Refusals.{numbers}
use Rattle.session.specs.Calls.{Outcome}
use Rattle.session.specs.Answer.{Done}
use Rattle.replaying.specs.Call.{its_table, its_item, message, replay}
use Rattle.replaying.specs.Promise.{Filled, Carries, Played}
use Rattle.replaying.proofs.Ways.{each_replay}
use Rattle.replaying.proofs.Promise as Replaying
use Rattle.border.specs.Numbers.{refusal_of}
use Rattle.gateway.specs.Promise.{Replayed, again, gap_filled, AllOf}
use Rattle.gateway.proofs.Reports.{not_zero}

-- it sends a message in time, or nothing
done_or_silent : (s : Session) (t : ℕ) (buf store : Bytes) → ((t < limit) × ((replay s t buf store).answer ≡ Done)) ⊎ ((replay s t buf store).reply ≡ [])
done_or_silent s t buf store =
    each_replay (λ (o : Outcome). ((t < limit) × (o.answer ≡ Done)) ⊎ (o.reply ≡ [])) s t buf store (λ k e n. inr refl) (λ r n. inr refl) (λ P. inl (P.timed, refl))

module _ (s : Session) (t : ℕ) (buf store : Bytes) (ours : Byted s.ours) (peers : Byted s.peers) (b : Byted store) where
  item_sent : t < limit → Played s t store (replay s t buf store) → Replayed t store (message s t (its_item s store)) s
  unfolding message
  item_sent l P = go (its_item s store) P.carries P.frame P.no_finding P.short
    where
      go : (i : Item) → Carries s t store i → (G : Good fixt (message s t i)) → verdict G.body ≡ Clean → length (message s t i) ≤ 600 → Replayed t store (message s t i) s
      go (Again r) A G c m =
          let e : G.body ≡ body_in (Report.again s.ours s.peers r t) = sym (body_is (Report.again s.ours s.peers r t) G) in
          let K = (Back.promise).back_again s.ours s.peers r A.2 t l in
          let R = A.3 in
          again
          (record {
            frame = G;
            short = m;
            no_finding = c;
            its_report = r;
            is_kept = subst (λ (n : ℕ). find n (its_table s store) ≡ some r) A.0 A.1;
            head = record { sender = ap (first_field 49) e ∙ R.sender; target = ap (first_field 56) e ∙ R.target; number = ap (first_field 34) e ∙ R.number ∙ ap (λ (n : ℕ). some (decimal n)) A.0; time = ap (first_field 52) e ∙ R.new_52 };
            possible_duplicate = ap (first_field 43) e ∙ R.duplicate;
            first_52 = ap (first_field 122) e ∙ R.first_52;
            answered = ap read_back e ∙ K.answered;
            reads_back = ap (λ (x : Bytes). values_given (words_in x) x) e ∙ K.its_values;
          })
      go (Fill b z) A G c m =
          let W = A.3 in
          let e : body_in (message s t (Fill b z)) ≡ W.frame.body = body_is (message s t (Fill b z)) W.frame in
          gap_filled
          (record {
            whole = W;
            to = z;
            run = subst (λ (n : ℕ). Run (its_table s store) s.replay.to s.replay.at n z) A.0 A.1;
            filled = subst (λ (n : ℕ). Filled s.ours s.peers t n z W.frame.body) A.0 (subst (Filled s.ours s.peers t b z) e A.2);
          })

  abbrev Stands : List Bytes → Type 0
  Stands ms = AllOf (λ m. Replayed t store m s) ms × Frames fixt (joined ms) ms

  pub replay_whole : Stands (replay s t buf store).reply
  replay_whole = go (done_or_silent s t buf store)
    where
      go : ((t < limit) × ((replay s t buf store).answer ≡ Done)) ⊎ ((replay s t buf store).reply ≡ []) → Stands (replay s t buf store).reply
      go (inl h) =
          let P = (Replaying.promise).played s t buf store ours peers b h.1 in
          subst Stands (sym P.one) ((item_sent h.0 P, tt), joined_frames (message s t (its_item s store) ∷ []) (P.frame, tt))
      go (inr e) = subst Stands (sym e) (tt, joined_frames [] tt)

-- WHILE ONE IS RUNNING a call that is not refused sends, and else nothing goes out
pub replay_done : (s : Session) (t : ℕ) (buf store : Bytes) → refusal_of (numbers (replay s t buf store).answer) ≡ 0 → (s.replay.at ≡ 0 → ⊥) → (replay s t buf store).answer ≡ Done
replay_done s t buf store =
    each_replay (λ (o : Outcome). refusal_of (numbers o.answer) ≡ 0 → (s.replay.at ≡ 0 → ⊥) → o.answer ≡ Done) s t buf store
    (λ k e n z h. absurd (not_zero k z))
    (λ r h z d. absurd (d (eqb-true s.replay.at 0 (not-false _ h))))
    (λ P z d. refl)

pub replay_rests : (s : Session) (t : ℕ) (buf store : Bytes) → s.replay.at ≡ 0 → (replay s t buf store).reply ≡ []
replay_rests s t buf store e =
    each_replay (λ (o : Outcome). o.reply ≡ []) s t buf store (λ k f n. refl) (λ r h. refl) (λ P. absurd (false≢true (sym (ap not (eq-eqb s.replay.at 0 e)) ∙ P.is_running)))
