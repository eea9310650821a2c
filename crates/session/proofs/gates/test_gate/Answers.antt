-- `test_gate`: a refusal of each message of the venue's own stands first.
use mathlib.Core.Path.{◌∙◌}
use Rattle.moves.specs.Held.{session_of}
use Rattle.session.specs.Calls.{unsendable}
use Rattle.session.proofs.Gating.{handed_on, first_of}
use Rattle.session.proofs.Venue.{eighth}
use Rattle.session.proofs.gates.test_gate.Goals as goal

pub returns-in_err-own_gate : goal.returns-in_err-own_gate
returns-in_err-own_gate c =
    let a = c.args in
    handed_on c.from_residual.result c.from_residual.ensures.1 ∙ first_of (unsendable (session_of a.r) a.time a.room) (eighth a.id.now) c.in_err-own_gate.ensures
