-- The promise of a run of all calls.
-- Assumes nothing.
use mathlib.Core.Path.{◌≡◌, refl, ap}
use mathlib.Core.List.{List, [], ◌∷◌, map}
use Rattle.moves.specs.Session.{Session}
use Rattle.session.specs.Calls.{Outcome}
use Rattle.session.specs.Sequence.{Made, end}
use Rattle.replaying.specs.Run.{Turn, turn, run, final}
use Rattle.sequence.specs.Run.{given, logged}
use Rattle.sequence.specs.Promise.{Promise}
use Rattle.sequence.proofs.Runs.{sequence_of}
use Rattle.sequence.proofs.Calls.{calls}
use Rattle.sequence.proofs.Worked.{day, wrong}

outcomes : (s : Session) (cs : List Turn) → map (λ (m : Made). m.left) (logged s cs) ≡ run s cs
outcomes s [] = refl
outcomes s (c ∷ cs) = ap (λ (os : List Outcome). turn s c ∷ os) (outcomes (turn s c).session cs)

ends : (s : Session) (cs : List Turn) → end s (logged s cs) ≡ final s cs
ends s [] = refl
ends s (c ∷ cs) = ends (turn s c).session cs

pub promise : Promise
promise = record { sequence = sequence_of given turn calls; one_call = λ s c R. (calls.sound s c R).passes; outcomes = outcomes; ends = ends; day = day; wrong = wrong }
