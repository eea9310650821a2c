-- What is promised of any run of all calls of a session (document 02, Q-10): Sequence.antt of crates/session says it.
use Rattle.std.specs.Prelude.{◌≡◌, List, map, false}
use Rattle.moves.specs.Session.{Session}
use Rattle.session.specs.Sequence.{Made, resets, Passes, NoReset, end, Sequence}
use Rattle.replaying.specs.Run.{Turn, run, final}
use Rattle.sequence.specs.Run.{made, logged}
use Rattle.sequence.specs.Day.{Day}
use Rattle.sequence.specs.Wrong.{Wrong}

pub record Promise : Type 0 where
  -- "Take any sequence of steps, ticks and reconnects between two resets": of all calls, from whichever record, with whatever is lent
  pub sequence : (s : Session) (cs : List Turn) → NoReset (logged s cs) → Sequence s (logged s cs)
  -- one call that is no reset
  pub one_call : (s : Session) (c : Turn) → resets (made s c) ≡ false → Passes (made s c)
  -- the log is that of the run: its outcomes, and the session at its end
  pub outcomes : (s : Session) (cs : List Turn) → map (λ (m : Made). m.left) (logged s cs) ≡ run s cs
  pub ends : (s : Session) (cs : List Turn) → end s (logged s cs) ≡ final s cs
  -- a run that it speaks of, and sessions that it rules out
  pub day : Day
  pub wrong : Wrong
