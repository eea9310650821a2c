-- "Original time later than the resend" (document 02, Q-6): what a step answers to a frame whose number is too low, case by case in the document's order.
use Rattle.std.specs.Prelude.{ℕ, ◌+◌, ◌<◌, ◌≡◌, [], ◌∷◌, true, false}
use Rattle.std.proofs.Math.Option.{none, some}
use Rattle.octets.specs.Bytes.{Bytes, fix}
use Rattle.fields.specs.Field.{first_field}
use Rattle.message.specs.Whole.{body_in}
use Rattle.calendar.specs.Time.{utc}
use Rattle.calendar.specs.Later.{is_readable, moment_of, later}
use Rattle.moves.specs.Session.{Session, numbering, sent_at, turned}
use Rattle.moves.specs.Moves.{Logout, letter, N, ◌holds◌}
use Rattle.moves.specs.declared.record.Status.TheVariants.{Closed}
use Rattle.session.specs.Calls.{Outcome, over, keeping, settling, step}
use Rattle.session.specs.Delivery.{ByNumber, reject_with}
use Rattle.session.specs.Answer.{Done}

-- A session s, a frame f, a time t, a reply buffer and a store.
module _ (s : Session) (f : Bytes) (t : ℕ) (buf store : Bytes) where
  abbrev pub body : Bytes
  body = body_in f

  abbrev pub result : Outcome
  result = step s f t buf store

  -- A FRAME THAT IS TOO LOW: the step comes to rule 5
  pub record TooLow : Type 0 where
    pub by_number : ByNumber s f t buf store
    pub below : N s body < s.E

  -- WHAT IT MAY COME TO. A message of ours goes out as our next number, and nothing else changes: "E stays". But, as behind every step, a gap that E is past is
  -- closed; and our Logout sets Closed, which drops a replay
  abbrev pub sent : Session
  sent = sent_at t (numbering (s.next + 1) s)

  abbrev pub answered_by : Bytes → Session → Outcome
  answered_by message session = settling (record { answer = Done; session = session; reply = message ∷ []; buffer = over (message ∷ []) buf })

  abbrev pub rejected : ℕ → ℕ → Outcome
  rejected reason tag = answered_by (reject_with s f t buf store reason tag) sent

  abbrev pub logged_out : Outcome
  logged_out = answered_by (letter s.ours s.peers s.next (utc t) (Logout 101)) (turned Closed sent)

  -- nothing goes out
  abbrev pub ignored : Outcome
  ignored = settling (keeping Done s buf)

  -- it has 43=Y, and its first fields 122 and 52 are v and w
  pub record PossDup (v w : Bytes) : Type 0 where
    pub flagged : ◌holds◌ s body 43 (fix "Y") ≡ true
    pub original : first_field 122 body ≡ some v
    pub sending : first_field 52 body ≡ some w

  -- and both are times
  pub record BothTimes (v w : Bytes) : Type 0 where
    pub duplicate : PossDup v w
    pub original : is_readable v ≡ true
    pub sending : is_readable w ≡ true

  pub record RuleFive : Type 0 where
    -- "43 not Y, Logout."
    pub unflagged : ◌holds◌ s body 43 (fix "Y") ≡ false → result ≡ logged_out
    -- "43=Y without 122, Reject 1, tag 122."
    pub no_original : ◌holds◌ s body 43 (fix "Y") ≡ true → first_field 122 body ≡ none → result ≡ rejected 1 122
    -- "A missing 52 is Reject 1, tag 52"
    pub no_sending : (v : Bytes) → ◌holds◌ s body 43 (fix "Y") ≡ true → first_field 122 body ≡ some v → first_field 52 body ≡ none → result ≡ rejected 1 52
    -- "a 52 or 122 that breaks its form or the calendar is Reject 6 with that tag, 52 first"
    pub bad_sending : (v w : Bytes) → PossDup v w → is_readable w ≡ false → result ≡ rejected 6 52
    pub bad_original : (v w : Bytes) → PossDup v w → is_readable w ≡ true → is_readable v ≡ false → result ≡ rejected 6 122
    -- "a 122 later than its 52 is now Reject 10, tag 122"
    pub too_late : (v w : Bytes) → BothTimes v w → later (moment_of v) (moment_of w) ≡ true → result ≡ rejected 10 122
    -- "Otherwise ignored."
    pub not_later : (v w : Bytes) → BothTimes v w → later (moment_of v) (moment_of w) ≡ false → result ≡ ignored
    -- "equal times pass"
    pub equal : (v w : Bytes) → BothTimes v w → moment_of v ≡ moment_of w → result ≡ ignored
    -- "E stays."
    pub E_stays : result.session.E ≡ s.E
