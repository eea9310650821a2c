-- "One request for each gap" (document 02, Q-5): what frames that are too high make a session send, in any run of its calls, and what its record says of the
-- gap behind each.
use Rattle.std.specs.Prelude.{ℕ, ◌+◌, ◌≤◌, ◌<◌, ◌≡◌, ◌⊎◌, List, [], ◌∷◌, ◌++◌, true, false, not, ◌&&◌, if◌then◌else◌}
use Rattle.octets.specs.Bytes.{Bytes, fix}
use Rattle.message.specs.Whole.{body_in}
use Rattle.calendar.specs.Time.{utc}
use Rattle.gap.specs.Gap.{no_gap, opened, re_ask, asks, asked_for, seen, unless_past}
use Rattle.moves.specs.Words.{◌<?◌}
use Rattle.moves.specs.Session.{Session}
use Rattle.moves.specs.Moves.{ResendRequest, letter, #, N, clean, ◌holds◌}
use Rattle.moves.specs.declared.record.Status.TheVariants.{Waiting, Active}
use Rattle.session.specs.Calls.{Outcome, step, Step, Tick, OurLogout, OurTestRequest, Reconnect}
use Rattle.session.specs.Delivery.{Unrefused, ByNumber, Reset}
use Rattle.session.specs.declared.Refusal.{Refusal}
use Rattle.session.specs.Answer.{Refused}
use Rattle.replaying.specs.Run.{Turn, Ours, OurReport, OurReplay, turn, final}

-- a gap that was asked for at the time t: it is open for E
pub record Asked (t : ℕ) (s : Session) : Type 0 where
  pub is_open : s.gap.is_open ≡ 1
  pub for_E : s.gap.for ≡ s.E
  pub at : s.gap.asked ≡ t

-- E and the gap stay
pub record Rests (s : Session) (o : Outcome) : Type 0 where
  pub same_E : o.session.E ≡ s.E
  pub same_gap : o.session.gap ≡ s.gap

-- A session s, a frame f, a time t, a reply buffer and a store.
module _ (s : Session) (f : Bytes) (t : ℕ) (buf store : Bytes) where
  abbrev pub body : Bytes
  body = body_in f

  abbrev pub result : Outcome
  result = step s f t buf store

  -- A FRAME THAT IS TOO HIGH: the step comes to rule 4
  pub record TooHigh : Type 0 where
    pub by_number : ByNumber s f t buf store
    pub above : s.E < N s body

  -- "Resend Request 7=E, 16=0", with the next number out
  abbrev pub the_request : Bytes
  the_request = letter s.ours s.peers s.next (utc t) (ResendRequest s.E)

  -- it asks, and nothing else goes out, or it does not, and nothing goes out; its number is seen; E stays
  pub record RuleFour : Type 0 where
    pub asks_or_not : result.reply ≡ (if asks t s.E s.gap then the_request ∷ [] else [])
    pub gap_behind : result.session.gap ≡ (if asks t s.E s.gap then asked_for t s.E (N s body) s.gap else seen (N s body) s.gap)
    pub E_stays : result.session.E ≡ s.E

  -- "E above the highest seen closes it, as do logon ..; a logon above E opens one": behind a logon that is accepted
  abbrev pub LogonsGap : Type 0
  LogonsGap = s.status ≡ Waiting → result.session.status ≡ Active
      → result.session.gap ≡ (if s.E <? N s body && not (◌holds◌ s body 141 (fix "Y")) then asked_for t s.E (N s body) no_gap else no_gap)

  -- it asks: behind it the gap is open for E, asked for at the time of the step
  abbrev pub LogonAsks : Type 0
  LogonAsks = s.status ≡ Waiting → result.session.status ≡ Active → s.E < N s body → ◌holds◌ s body 141 (fix "Y") ≡ false → Asked t result.session

  -- "as do .. any reset": one that is taken
  abbrev pub ResetCloses : Type 0
  ResetCloses = Reset s f t buf store → clean s body ≡ true → s.E ≤ # s body 36 → result.session.gap ≡ no_gap

  -- "E above the highest seen closes it": every other move of an Active session leaves it, unless E is past it,
  abbrev pub LeavesGap : Type 0
  LeavesGap = Unrefused s f t buf store → (TooHigh → ⊥) → (Reset s f t buf store → clean s body ≡ true → s.E ≤ # s body 36 → ⊥)
      → result.session.gap ≡ unless_past result.session.E s.gap

  -- and a refusal leaves it
  abbrev pub RefusalRests : Type 0
  RefusalRests = (k : Refusal) → result.answer ≡ Refused k → Rests s result

-- RUNS of a session's calls, reports and replay calls among them
-- calls that are given no frame leave E and the gap
abbrev pub Frameless : Turn → Type 0
Frameless (Ours (Step f t buf store)) = ⊥
Frameless (Ours (Tick t buf)) = Unit {0}
Frameless (Ours (OurLogout t buf)) = Unit {0}
Frameless (Ours (OurTestRequest id t buf)) = Unit {0}
Frameless (Ours Reconnect) = Unit {0}
Frameless (OurReport v t buf store) = Unit {0}
Frameless (OurReplay t buf store) = Unit {0}

-- the answers to the frames of a run: what its steps send. (What the other calls send is theirs: a Heartbeat, a Logout, a Test Request, a report, a replay's
-- message.)
abbrev pub answered : Session → Turn → List Bytes
answered s (Ours (Step f t buf store)) = (step s f t buf store).reply
answered s (Ours (Tick t buf)) = []
answered s (Ours (OurLogout t buf)) = []
answered s (Ours (OurTestRequest id t buf)) = []
answered s (Ours Reconnect) = []
answered s (OurReport v t buf store) = []
answered s (OurReplay t buf store) = []

abbrev pub all_answered : Session → List Turn → List Bytes
all_answered s [] = []
all_answered s (c ∷ cs) = answered s c ++ all_answered (turn s c).session cs

-- each of its frames is too high, and comes at a time of which P holds; any other calls may come between them
abbrev pub High : (ℕ → Type 0) → Session → Turn → Type 0
High P s (Ours (Step f t buf store)) = TooHigh s f t buf store × P t
High P s (Ours (Tick t buf)) = Unit {0}
High P s (Ours (OurLogout t buf)) = Unit {0}
High P s (Ours (OurTestRequest id t buf)) = Unit {0}
High P s (Ours Reconnect) = Unit {0}
High P s (OurReport v t buf store) = Unit {0}
High P s (OurReplay t buf store) = Unit {0}

abbrev pub AllHigh : (ℕ → Type 0) → Session → List Turn → Type 0
AllHigh P s [] = Unit {0}
AllHigh P s (c ∷ cs) = High P s c × AllHigh P (turn s c).session cs

-- within 10 seconds of a time; and "10 seconds have passed on the step's clock; a clock that went back counts as passed"
abbrev pub Within : ℕ → ℕ → Type 0
Within first t = (first ≤ t) × (t < first + re_ask)

abbrev pub Passed : ℕ → ℕ → Type 0
Passed first t = (t < first) ⊎ (first + re_ask ≤ t)

-- ASKED ONCE: behind the asking, by whatever frame, frames that are too high within 10 seconds of it are not answered; E and the asking stay
module _ (t : ℕ) (s : Session) (cs : List Turn) where
  pub record AskedOnce : Type 0 where
    pub none_answered : all_answered s cs ≡ []
    pub E_stays : (final s cs).E ≡ s.E
    pub still_asked : Asked t (final s cs)
    -- and after 10 seconds one more goes out
    pub one_more : (f' : Bytes) (t' : ℕ) (buf' store' : Bytes) → TooHigh (final s cs) f' t' buf' store' → Passed t t'
        → (step (final s cs) f' t' buf' store').reply ≡ the_request (final s cs) f' t' buf' store' ∷ []

-- ONE REQUEST: a frame that asks (as the first frame of a gap does), and frames behind it that are too high as well
module _ (s : Session) (f : Bytes) (t : ℕ) (buf store : Bytes) (cs : List Turn) where
  abbrev pub first_frame : Turn
  first_frame = Ours (Step f t buf store)

  -- the session behind them all
  abbrev pub later : Session
  later = final s (first_frame ∷ cs)

  pub record OneRequest : Type 0 where
    -- of all these frames only the first is answered, by its request; E stays
    pub one : all_answered s (first_frame ∷ cs) ≡ the_request s f t buf store ∷ []
    pub E_stays : later.E ≡ s.E
    -- and after 10 seconds one more
    pub one_more : (f' : Bytes) (t' : ℕ) (buf' store' : Bytes) → TooHigh later f' t' buf' store' → Passed t t'
        → all_answered s (first_frame ∷ (cs ++ (Ours (Step f' t' buf' store') ∷ []))) ≡ the_request s f t buf store ∷ the_request later f' t' buf' store' ∷ []

-- THE RECORD: an open gap was asked for at E or before, and its highest number is E or above
pub record Around (s : Session) : Type 0 where
  pub asked_before : opened s.gap ≡ true → s.gap.for ≤ s.E
  pub not_past : opened s.gap ≡ true → s.E ≤ s.gap.highest

abbrev pub AllAround : List Outcome → Type 0
AllAround [] = Unit {0}
AllAround (o ∷ os) = Around o.session × AllAround os
