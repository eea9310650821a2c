-- The verdict: no body, another type, or the walk.
use mathlib.Core.Bool.{not}
use mathlib.Core.Path.{ap, sym, ◌∙◌}
use Rattle.std.specs.Prelude.{Some}
use Rattle.dictionary.proofs.Types.{is_body_lem, verdict_nobody, verdict_other, verdict_walked, report_is, not_report}
use Rattle.dictionary.proofs.walk.verdict_on.Goals as goal

pub returns-then-not-is_body : goal.returns-then-not-is_body
returns-then-not-is_body c = verdict_nobody _ c.is_body.ensures (ap not c.if-not-is_body.true)

pub type_at_front-requires : goal.type_at_front-requires
type_at_front-requires c = sym c.is_body.ensures ∙ c.if-not-is_body.false

pub returns-in_default : goal.returns-in_default
returns-in_default c = verdict_other _ (sym c.is_body.ensures ∙ c.if-not-is_body.false) c.type_at_front.ensures c.in_default.is

pub report_walk-requires : goal.report_walk-requires
report_walk-requires c = (is_body_lem _ (sym c.is_body.ensures ∙ c.if-not-is_body.false)).most

pub returns-then-eq : goal.returns-then-eq
returns-then-eq c =
    verdict_walked _ (sym c.is_body.ensures ∙ c.if-not-is_body.false) c.type_at_front.ensures (c.in-Some.is ∙ ap Some (report_is _ c.if-eq.ensures)) c.report_walk.ensures

pub walk-requires : goal.walk-requires
walk-requires c = ((is_body_lem _ (sym c.is_body.ensures ∙ c.if-not-is_body.false)).most, not_report _ c.if-eq.ensures)

pub returns : goal.returns
returns c = verdict_walked _ (sym c.is_body.ensures ∙ c.if-not-is_body.false) c.type_at_front.ensures c.in-Some.is c.walk.ensures
