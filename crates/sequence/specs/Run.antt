-- The log of any run of a session's calls, with reports and replay calls among them (document 02, Q-10).
use Rattle.std.specs.Prelude.{List}
use Rattle.std.proofs.Math.Option.{Option, none}
use Rattle.octets.specs.Bytes.{Bytes}
use Rattle.moves.specs.Session.{Session}
use Rattle.session.specs.Sequence.{Made, frame_of, entry, log}
use Rattle.replaying.specs.Run.{Turn, Ours, OurReport, OurReplay, turn}

-- only a step is given a frame
abbrev pub given : Turn → Option Bytes
given (Ours c) = frame_of c
given (OurReport v t buf store) = none
given (OurReplay t buf store) = none

-- one call on a session, and a run that begins with it
abbrev pub made : Session → Turn → Made
made s c = entry given turn s c

abbrev pub logged : Session → List Turn → List Made
logged s cs = log given turn s cs
