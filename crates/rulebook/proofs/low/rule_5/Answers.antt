-- `rule_5`: one law for each of the ways through it.
use mathlib.Core.Bool.{not}
use mathlib.Core.Path.{refl, ap, ◌∙◌}
use Rattle.rulebook.proofs.Deciding.{low_first, low_without, low_unsent, low_bad_sending, low_bad_original, low_later, low_ignored}
use Rattle.rulebook.proofs.Read.{by_missing, is_there, moment_by}
use Rattle.rulebook.proofs.low.rule_5.Goals as goal

pub returns-then-not-holds : goal.returns-then-not-holds
returns-then-not-holds c = search low_first

pub returns-then-eq : goal.returns-then-eq
returns-then-eq c =
    low_without _ _ c.holds.ensures c.if-not-holds.false c.time_in-original.ensures (by_missing _ _ c.time_in-original.result refl refl c.eq.ensures ∙ ap not c.if-eq.true) c.rejecting.ensures

pub returns-in-Err-Missing : goal.returns-in-Err-Missing
returns-in-Err-Missing c =
    low_unsent _ _ c.holds.ensures c.if-not-holds.false c.time_in-original.ensures (by_missing _ _ c.time_in-original.result refl refl c.eq.ensures ∙ ap not c.if-eq.false) c.time_in.ensures (rw (c.in-Err-Missing.is, c.in-Err-Missing.field-0-is) refl) c.rejecting-in-Err-Missing.ensures

pub returns-in-Err-Bad : goal.returns-in-Err-Bad
returns-in-Err-Bad c =
    low_bad_sending _ _ c.holds.ensures c.if-not-holds.false c.time_in-original.ensures (by_missing _ _ c.time_in-original.result refl refl c.eq.ensures ∙ ap not c.if-eq.false) c.time_in.ensures (rw (c.in-Err-Bad.is, c.in-Err-Bad.field-0-is) refl) (ap moment_by c.in-Err-Bad.is) c.rejecting-in-Err-Bad.ensures

pub returns-in_default : goal.returns-in_default
returns-in_default c =
    low_bad_original _ _ c.holds.ensures c.if-not-holds.false c.time_in-original.ensures (by_missing _ _ c.time_in-original.result refl refl c.eq.ensures ∙ ap not c.if-eq.false) c.time_in.ensures (ap is_there c.in-Ok.is) (ap moment_by c.in-Ok.is) (ap moment_by c.in_default.is) c.rejecting-in_default.ensures

pub returns-then-is_later : goal.returns-then-is_later
returns-then-is_later c =
    low_later _ _ c.holds.ensures c.if-not-holds.false c.time_in-original.ensures (by_missing _ _ c.time_in-original.result refl refl c.eq.ensures ∙ ap not c.if-eq.false) c.time_in.ensures (ap is_there c.in-Ok.is) (ap moment_by c.in-Ok.is) (ap moment_by c.in-Ok-original.is) c.is_later.ensures c.if-is_later.true c.rejecting-then-is_later.ensures

pub returns : goal.returns
returns c =
    low_ignored _ _ c.holds.ensures c.if-not-holds.false c.time_in-original.ensures (by_missing _ _ c.time_in-original.result refl refl c.eq.ensures ∙ ap not c.if-eq.false) c.time_in.ensures (ap is_there c.in-Ok.is) (ap moment_by c.in-Ok.is) (ap moment_by c.in-Ok-original.is) c.is_later.ensures c.if-is_later.false c.staying.ensures
