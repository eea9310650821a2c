-- The store behind a step: a logon with 141=Y that is accepted zeroes it, and nothing else touches it.
-- Assumes nothing.
use Prim.Native.Nat.{ℕ}
use mathlib.Core.Path.{◌≡◌, refl, sym, ap, ◌∙◌}
use mathlib.Core.Bool.{Bool, true, false, not, ◌&&◌}
use mathlib.Core.List.{◌++◌}
use lib.ListN.{length}
use borrow.Author.Tests.{not-true, not-false}
use Rattle.octets.specs.Bytes.{Bytes, fix}
use Rattle.places.specs.Places.{is_store, zeroed}
use Rattle.fields.specs.Field.{first_field}
use Rattle.message.specs.Whole.{good, body_in}
use Rattle.moves.specs.Words.{first}
use Rattle.moves.specs.Session.{◌equals◌, Session}
use Rattle.moves.specs.Seen.{is_it}
use Rattle.session.specs.Calls.{Outcome, refusing, stepping, refusals, turned_away, moves, step, renewed, store_by, store_after}
use Rattle.moves.specs.Held.{session_of}
use Rattle.session.specs.Held.{Leaves}
use Rattle.moves.specs.declared.record.Record.{Record}
use denote.Enum.Bare.{sameb}
use Rattle.moves.specs.contracts.record.Status.{the_type}
use Rattle.moves.specs.declared.record.Status.{Status}
use Rattle.moves.specs.declared.record.Status.TheVariants.{Waiting, Active, Closed}
use Rattle.session.specs.declared.Answered.{Answered}
use Rattle.session.specs.declared.Refusal.{Refusal}
use Rattle.session.proofs.Stepping.{step-lent}
use Rattle.session.proofs.EachCall.{each_refusal}

-- WHETHER IT IS RENEWED
-- a session that is not Waiting is not
pub awake_old : (s : Session) (body : Bytes) (o : Outcome) (x : Status) → (x equals Waiting) ≡ false → s.status ≡ x → renewed s body o ≡ false
awake_old s body o x n st =
    let asks = is_it (fix "Y") (first_field 141 body) in
    ap (λ (y : Status). (y equals Waiting) && (o.session.status equals Active) && asks) st ∙ ap (λ (b : Bool). b && (o.session.status equals Active) && asks) n

-- nor by a refusal
pub refused_old : (k : Refusal) (s : Session) (body buf : Bytes) → renewed s body (refusing k s buf) ≡ false
refused_old k s body buf =
    ap (λ (b : Bool). b && is_it (fix "Y") (first_field 141 body)) (each_refusal (λ (u : Session). ((s.status equals Waiting) && (u.status equals Active)) ≡ false) k s (same s.status) (closed s.status))
  where
    same : (x : Status) → ((x equals Waiting) && (x equals Active)) ≡ false
    same Waiting = refl
    same Active = refl
    same Closed = refl

    closed : (x : Status) → ((x equals Waiting) && (Closed equals Active)) ≡ false
    closed Waiting = refl
    closed Active = refl
    closed Closed = refl

module _ (s : Session) (body : Bytes) (o : Outcome) (store : Bytes) where
  old_stays : renewed s body o ≡ false → store ≡ store_by s body o store
  unfolding store_by
  old_stays e = rw e

  pub awake_stays : (x : Status) → (x equals Waiting) ≡ false → s.status ≡ x → store ≡ store_by s body o store
  awake_stays x n st = old_stays (awake_old s body o x n st)

pub refusal_stays : (s : Session) (body buf store : Bytes) {o : Outcome} {k : Refusal} → o ≡ refusing k s buf → store ≡ store_by s body o store
refusal_stays s body buf store {k = k} e = old_stays s body (refusing k s buf) store (refused_old k s body buf) ∙ ap (λ (o : Outcome). store_by s body o store) (sym e)

-- A LOGON that was answered
-- the code compares its status by the derived `==`
pub active_same : (x : Status) → sameb the_type x Active ≡ (x equals Active)
active_same Waiting = refl
active_same Active = refl
active_same Closed = refl

module _ (r : Record) (body store : Bytes) (st : r.status ≡ Waiting) {o : Outcome} {a : Answered} {d : Bytes} (l : Leaves r o a d) {b : Bool} (ra : b ≡ (a.after.status equals Active)) where
  accepted : b ≡ (o.session.status equals Active)
  accepted = ra ∙ ap (λ (z : Answered). z.after.status equals Active) l.answered

  pub unaccepted_stays : not b ≡ true → store ≡ store_by (session_of r) body o store
  unaccepted_stays h = old_stays (session_of r) body o store (rw (st, ← accepted, not-true b h))

  module _ (hb : not b ≡ false) {h : Bool} (rh : h ≡ is_it (fix "Y") (first_field 141 body)) where
    pub unasked_stays : not h ≡ true → store ≡ store_by (session_of r) body o store
    unfolding store_by
    unasked_stays n = rw (st, ← accepted, not-false b hb, ← rh, not-true h n)

    pub asked_zeroes : not h ≡ false → {z : Bytes} → z ≡ zeroed store → z ≡ store_by (session_of r) body o store
    unfolding store_by
    asked_zeroes n e = e ∙ rw (st, ← accepted, not-false b hb, ← rh, not-false h n)

-- IN EVERY STEP
pub after_as : (s : Session) (f : Bytes) (t : ℕ) (buf store : Bytes) {body : Bytes} {o : Outcome} {z : Bytes} → body ≡ body_in f → step s f t buf store ≡ o → z ≡ store_by s body o store → z ≡ store_after s f t buf store
unfolding store_after
after_as s f t buf store {body = body} {o = o} b e w = w ∙ ap (λ (x : Bytes). store_by s x o store) b ∙ ap (λ (x : Outcome). store_by s (body_in f) x store) (sym e)

pub after-lent : (s : Session) (f : Bytes) (t : ℕ) (buf store : Bytes) {b : Bool} → is_store store ≡ b
    → store_after s f t buf store ≡ store_by s (body_in f) (stepping (first (refusals s b (good f) t (length buf) ++ turned_away s (body_in f))) t (moves s.status s (body_in f) t) s buf) store
unfolding store_after
after-lent s f t buf store e = ap (λ (o : Outcome). store_by s (body_in f) o store) (step-lent s f t buf store e)
