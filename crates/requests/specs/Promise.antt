-- What is promised of a gap and its requests (document 02, Q-5): Requests.antt says it.
use Rattle.std.specs.Prelude.{◌≡◌, List, true, ℕ}
use Rattle.octets.specs.Bytes.{Bytes}
use Rattle.gap.specs.Gap.{asks}
use Rattle.moves.specs.Session.{Session}
use Rattle.session.specs.Calls.{step, new}
use Rattle.replaying.specs.Run.{Turn, turn, run}
use Rattle.requests.specs.Requests.{Asked, Rests, TooHigh, RuleFour, LogonsGap, LogonAsks, ResetCloses, LeavesGap, RefusalRests, Frameless, AllHigh, Within, AskedOnce, OneRequest, Around, AllAround}
use Rattle.requests.specs.Day.{Day}

pub record Promise : Type 0 where
  -- "A too-high frame asks only if no gap is open, or E has moved since, or 10 seconds have passed on the step's clock"
  pub rule_4 : (s : Session) (f : Bytes) (t : ℕ) (buf store : Bytes) → TooHigh s f t buf store → RuleFour s f t buf store
  -- "E above the highest seen closes it, as do logon and any reset; a logon above E opens one"; and nothing else does anything to it
  pub logons : (s : Session) (f : Bytes) (t : ℕ) (buf store : Bytes) → LogonsGap s f t buf store
  pub resets : (s : Session) (f : Bytes) (t : ℕ) (buf store : Bytes) → ResetCloses s f t buf store
  pub leaves : (s : Session) (f : Bytes) (t : ℕ) (buf store : Bytes) → LeavesGap s f t buf store
  pub refused : (s : Session) (f : Bytes) (t : ℕ) (buf store : Bytes) → RefusalRests s f t buf store
  pub rests : (s : Session) (c : Turn) → Frameless c → Rests s (turn s c)
  -- "One request for each gap."
  pub one_request : (s : Session) (f : Bytes) (t : ℕ) (buf store : Bytes) (cs : List Turn) → TooHigh s f t buf store → asks t s.E s.gap ≡ true
      → AllHigh (Within t) (step s f t buf store).session cs → OneRequest s f t buf store cs
  -- the same behind any asking, that of a logon above E among them
  pub asked_once : (t : ℕ) (s : Session) (cs : List Turn) → Asked t s → AllHigh (Within t) s cs → AskedOnce t s cs
  pub logon_asks : (s : Session) (f : Bytes) (t : ℕ) (buf store : Bytes) → LogonAsks s f t buf store
  -- "E above the highest seen closes it": every call leaves a gap around E, from a new session on
  pub around : (s : Session) (cs : List Turn) → Around s → AllAround (run s cs)
  pub new_around : (us them : Bytes) → Around (new us them).session
  -- a run that it speaks of
  pub day : Day
