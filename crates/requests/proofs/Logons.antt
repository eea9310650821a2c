-- The gap behind a logon that is accepted: one that is above E opens one, any other leaves none.
-- Assumes nothing.
use Rattle.std.specs.Prelude.{if◌then◌else◌}
use Prim.Native.Nat.{ℕ, ◌+◌}
use native.Mathlib.Omega.{arith}
use mathlib.Core.Path.{◌≡◌, refl, sym, ap, ◌∙◌}
use mathlib.Core.Bool.{Bool, true, false, not, ◌&&◌, false≢true}
use lib.Dec.{ltb}
use borrow.Author.Tests.{lt-ltb, le-ltb}
use Rattle.octets.specs.Bytes.{Bytes, fix}
use Rattle.fields.specs.Field.{first_field}
use Rattle.message.specs.Whole.{body_in}
use Rattle.gap.specs.Gap.{Gap, no_gap, asked_for}
use Rattle.gap.proofs.Laws.{past_none, past_stays}
use Rattle.moves.specs.Session.{Session}
use Rattle.moves.specs.Seen.{is_it}
use Rattle.moves.specs.Moves.{Deeds, N, logon, waiting}
use Rattle.moves.specs.declared.record.Status.TheVariants.{Waiting, Active, Closed}
use Rattle.moves.proofs.EachRule.{each_logon}
use Rattle.session.specs.Calls.{Outcome, settled, after_all, step}
use Rattle.session.proofs.Promise as Session
use Rattle.session.proofs.EachCall.{each_refusal, each_step}
use Rattle.requests.specs.Requests.{LogonsGap, LogonAsks}

-- a Closed session is not Active, nor is a Waiting one
not_closed : Closed ≡ Active → ⊥
not_closed e = let z : ◌≡◌ {A = ℕ} 0 1 = cc in omega arith

not_waiting : Waiting ≡ Active → ⊥
not_waiting e = let z : ◌≡◌ {A = ℕ} 0 1 = cc in omega arith

-- with 141=Y none is opened, wherever its number is
none_opened : (high resets : Bool) (g : Gap) → resets ≡ true → no_gap ≡ (if high && not resets then g else no_gap)
none_opened true true g e = refl
none_opened false true g e = refl
none_opened high false g e = absurd (false≢true e)

module _ (s : Session) (f : Bytes) (t : ℕ) (buf store : Bytes) where
  abbrev body : Bytes
  body = body_in f

  -- the gap of a logon that is accepted
  abbrev its_gap : Gap
  its_gap = if ltb s.E (N s body) && not (is_it (fix "Y") (first_field 141 body)) then asked_for t s.E (N s body) no_gap else no_gap

  abbrev Opens : Session → Type 0
  Opens u = u.status ≡ Active → u.gap ≡ its_gap

  answered_logon : Opens (settled (after_all t s (waiting s body t)))
  unfolding logon
  answered_logon = each_logon (λ (ds : Deeds). Opens (settled (after_all t s ds))) s body t (record {
    anew = λ y e a. past_none 2 ∙ none_opened (ltb s.E (N s body)) (is_it (fix "Y") (first_field 141 body)) (asked_for t s.E (N s body) no_gap) y;
    logged_out = λ a. absurd (not_closed a);
    in_turn = λ y e a. rw (le-ltb s.E (N s body) (omega (arith, e))) (past_none (s.E + 1));
    high = λ y h a. rw (lt-ltb s.E (N s body) h, y) (past_stays s.E (asked_for t s.E (N s body) no_gap) (omega (arith, h)));
  })

  pub logons : LogonsGap s f t buf store
  logons w = each_step (λ (o : Outcome). Opens o.session) s t buf f store (record {
    refused = λ k. each_refusal Opens k s (λ a. absurd (not_waiting (sym w ∙ a))) (λ a. absurd (not_closed a));
    logon = λ P st y c. answered_logon;
    move = λ P st. absurd (not_waiting (sym w ∙ st));
  })

  -- E stays behind a logon that is above it
  pub logon_asks : LogonAsks s f t buf store
  logon_asks w a l n =
      let e = ((Session.promise).slips s f t buf store).not_raised l (λ R. not_waiting (sym w ∙ R.unrefused.is_active)) in
      let g : (step s f t buf store).session.gap ≡ asked_for t s.E (N s body) no_gap = logons w a ∙ rw (lt-ltb s.E (N s body) l, n) in
      record { is_open = ap (λ (x : Gap). x.is_open) g; for_E = ap (λ (x : Gap). x.for) g ∙ sym e; at = ap (λ (x : Gap). x.asked) g }
