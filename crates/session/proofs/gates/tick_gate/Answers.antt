-- `tick_gate`: the interval of a record in its ranges is at most 60.
use mathlib.Core.Path.{sym, ◌∙◌}
use borrow.Author.Tests.{not-false}
use Rattle.moves.proofs.Words.{not_said}
use Rattle.session.specs.Answer.{Refused}
use Rattle.session.specs.declared.Refusal.TheVariants.{BadRecord}
use Rattle.session.proofs.Stepping.{ranged_is}
use Rattle.session.proofs.gates.tick_gate.Goals as goal

pub is_due-requires : goal.is_due-requires
is_due-requires c =
    (ranged_is _ (sym c.in_range.ensures ∙ not-false _ (not_said (Refused BadRecord) _ (sym c.in_ok-when.ensures)))).heartbeat.1
