-- A frame that is too high: the step makes rule 4's move, it asks or it does not, and the gap behind it stays as the move left it.
-- Assumes nothing.
use Rattle.std.specs.Prelude.{if◌then◌else◌}
use Prim.Native.Nat.{ℕ}
use native.Mathlib.Omega.{arith}
use mathlib.Core.Path.{◌≡◌, refl, sym, ap, ◌∙◌, subst}
use mathlib.Core.Bool.{false≢true}
use mathlib.Core.List.{[], ◌∷◌}
use Rattle.octets.specs.Bytes.{Bytes}
use Rattle.message.specs.Whole.{body_in}
use Rattle.gap.specs.Gap.{asks, asked_for, seen}
use Rattle.gap.proofs.Laws.{past_stays}
use Rattle.moves.specs.Session.{Session}
use Rattle.moves.specs.Moves.{Deeds, N, served, too_high, active}
use Rattle.moves.proofs.EachRule.{each_high, each_rule}
use Rattle.session.specs.Calls.{Outcome, making, settling, step}
use Rattle.session.proofs.EachCall.{active-step}
use Rattle.requests.specs.Requests.{TooHigh, RuleFour, the_request}

module _ (s : Session) (f : Bytes) (t : ℕ) (buf store : Bytes) (T : TooHigh s f t buf store) where
  abbrev body : Bytes
  body = body_in f

  -- of the six rules only the fourth speaks
  high_is : active s body t ≡ too_high s body t
  high_is = each_rule (λ (ds : Deeds). ds ≡ too_high s body t) s body t (record {
    one = λ r. absurd (false≢true (sym r ∙ T.by_number.numbered));
    two = λ r h tag l. absurd (h T.by_number.peer);
    three = λ r p b. absurd (false≢true (sym T.by_number.not_bare ∙ b));
    four = λ r p b h. refl;
    five = λ r p b l. let h = T.above in absurd (omega (arith, h, l));
    six = λ r p b e. let h = T.above in absurd (omega (arith, h, e));
  })

  high_step : step s f t buf store ≡ settling (making t s (too_high s body t) buf)
  high_step = active-step s f t buf store T.by_number.unrefused ∙ ap (λ (ds : Deeds). settling (making t s ds buf)) high_is

  -- what an outcome must be like
  record Answers (o : Outcome) : Type 0 where
    asks_or_not : o.reply ≡ (if asks t s.E s.gap then the_request s f t buf store ∷ [] else [])
    gap_behind : o.session.gap ≡ (if asks t s.E s.gap then asked_for t s.E (N s body) s.gap else seen (N s body) s.gap)
    E_stays : o.session.E ≡ s.E

  -- the numbers seen are above E, so that the gap is not closed
  high_answers : Answers (settling (making t s (too_high s body t) buf))
  unfolding served
  high_answers =
      let h = T.above in
      let asked = past_stays s.E (asked_for t s.E (N s body) s.gap) (omega (arith, h)) in
      let unasked = past_stays s.E (seen (N s body) s.gap) (omega (arith, h)) in
      each_high (λ (ds : Deeds). Answers (settling (making t s ds buf))) s body t (record {
        served_asks = λ c y u a. record { asks_or_not = rw a; gap_behind = rw a asked; E_stays = refl };
        served_seen = λ c y u a. record { asks_or_not = rw a; gap_behind = rw a unasked; E_stays = refl };
        only_asks = λ a. record { asks_or_not = rw a; gap_behind = rw a asked; E_stays = refl };
        only_seen = λ a. record { asks_or_not = rw a; gap_behind = rw a unasked; E_stays = refl };
      })

  pub rule_4 : RuleFour s f t buf store
  rule_4 =
      let A = subst Answers (sym high_step) high_answers in
      record { asks_or_not = A.asks_or_not; gap_behind = A.gap_behind; E_stays = A.E_stays }
