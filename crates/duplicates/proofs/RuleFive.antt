-- A frame that is too low: the step makes rule 5's move, and each of its cases is what the document's sentence says.
-- Assumes nothing.
use Prim.Native.Nat.{ℕ}
use native.Mathlib.Omega.{arith}
use mathlib.Core.Path.{◌≡◌, refl, sym, ap, ◌∙◌, subst}
use mathlib.Core.Bool.{true, false, false≢true}
use mathlib.Core.List.{[]}
use mathlib.Core.Option.{none, some}
use Rattle.octets.specs.Bytes.{Bytes, fix}
use Rattle.fields.specs.Field.{first_field}
use Rattle.message.specs.Whole.{body_in}
use Rattle.calendar.specs.Later.{is_readable, moment_of, later}
use Rattle.calendar.specs.declared.moments.Moment.{Moment}
use Rattle.calendar.proofs.Order.{not_itself}
use Rattle.moves.specs.Session.{Session}
use Rattle.moves.specs.Moves.{Deeds, ◌holds◌, reject, logout, too_low, active}
use Rattle.moves.proofs.EachRule.{each_low, each_rule}
use Rattle.session.specs.Calls.{Outcome, making, settling}
use Rattle.session.proofs.EachCall.{active-step}
use Rattle.duplicates.specs.Duplicates.{TooLow, PossDup, BothTimes, RuleFive, result, rejected, ignored}

module _ (s : Session) (f : Bytes) (t : ℕ) (buf store : Bytes) (T : TooLow s f t buf store) where
  abbrev body : Bytes
  body = body_in f

  -- of the six rules only the fifth speaks
  low_is : active s body t ≡ too_low s body
  low_is = each_rule (λ (ds : Deeds). ds ≡ too_low s body) s body t (record {
    one = λ r. absurd (false≢true (sym r ∙ T.by_number.numbered));
    two = λ r h tag l. absurd (h T.by_number.peer);
    three = λ r p b. absurd (false≢true (sym T.by_number.not_bare ∙ b));
    four = λ r p b h. let l = T.below in absurd (omega (arith, h, l));
    five = λ r p b l. refl;
    six = λ r p b e. let l = T.below in absurd (omega (arith, e, l));
  })

  abbrev by : Deeds → Outcome
  by ds = settling (making t s ds buf)

  -- the step, where its move is known
  low_step : {ds : Deeds} → too_low s body ≡ ds → result s f t buf store ≡ by ds
  low_step e = active-step s f t buf store T.by_number.unrefused ∙ ap by (low_is ∙ e)

  -- A REJECT of ours, and nothing at all
  low_rejected : (reason tag : ℕ) → too_low s body ≡ reject s body reason tag → result s f t buf store ≡ rejected s f t buf store reason tag
  unfolding reject
  low_rejected reason tag e = low_step e

  low_ignored : too_low s body ≡ [] → result s f t buf store ≡ ignored s f t buf store
  low_ignored e = low_step e

  -- EACH CASE
  module _ (y : ◌holds◌ s body 43 (fix "Y") ≡ true) where
    no_original : first_field 122 body ≡ none → too_low s body ≡ reject s body 1 122
    unfolding too_low
    no_original e = rw (y, e)

    no_sending : (v : Bytes) → first_field 122 body ≡ some v → first_field 52 body ≡ none → too_low s body ≡ reject s body 1 52
    unfolding too_low
    no_sending v e k = rw (y, e, k)

  module _ (v w : Bytes) (D : PossDup s f t buf store v w) where
    bad_sending : is_readable w ≡ false → too_low s body ≡ reject s body 6 52
    unfolding too_low
    bad_sending e = rw (D.flagged, D.original, D.sending, e)

    bad_original : is_readable w ≡ true → is_readable v ≡ false → too_low s body ≡ reject s body 6 122
    unfolding too_low
    bad_original e k = rw (D.flagged, D.original, D.sending, e, k)

  module _ (v w : Bytes) (R : BothTimes s f t buf store v w) where
    too_late : later (moment_of v) (moment_of w) ≡ true → too_low s body ≡ reject s body 10 122
    unfolding too_low
    too_late e = rw (R.duplicate.flagged, R.duplicate.original, R.duplicate.sending, R.sending, R.original, e)

    not_later : later (moment_of v) (moment_of w) ≡ false → too_low s body ≡ []
    unfolding too_low
    not_later e = rw (R.duplicate.flagged, R.duplicate.original, R.duplicate.sending, R.sending, R.original, e)

    equal : moment_of v ≡ moment_of w → too_low s body ≡ []
    equal e = not_later (ap (λ (a : Moment). later a (moment_of w)) e ∙ not_itself (moment_of w))

  unflagged : ◌holds◌ s body 43 (fix "Y") ≡ false → too_low s body ≡ logout s body 101
  unfolding too_low
  unflagged e = rw e

  E_rests : (by (too_low s body)).session.E ≡ s.E
  unfolding reject
  E_rests = each_low (λ (ds : Deeds). (by ds).session.E ≡ s.E) s body refl (λ reason tag i j. refl) refl

  pub rule_5 : RuleFive s f t buf store
  rule_5 =
      record {
        unflagged = λ e. low_step (unflagged e);
        no_original = λ y e. low_rejected 1 122 (no_original y e);
        no_sending = λ v y e k. low_rejected 1 52 (no_sending y v e k);
        bad_sending = λ v w D e. low_rejected 6 52 (bad_sending v w D e);
        bad_original = λ v w D e k. low_rejected 6 122 (bad_original v w D e k);
        too_late = λ v w R e. low_rejected 10 122 (too_late v w R e);
        not_later = λ v w R e. low_ignored (not_later v w R e);
        equal = λ v w R e. low_ignored (equal v w R e);
        E_stays = subst (λ (o : Outcome). o.session.E ≡ s.E) (sym (low_step refl)) E_rests;
      }
