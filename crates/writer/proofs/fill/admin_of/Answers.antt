-- `admin_of`: none of the ten, or one, if it is administrative.
use mathlib.Core.Path.{ap, ◌∙◌}
use Rattle.table.specs.Dictionary.{type_is}
use Rattle.writer.proofs.Named.{type_none, type_some}
use Rattle.writer.proofs.fill.admin_of.Goals as goal

pub returns-in_err-m : goal.returns-in_err-m
returns-in_err-m c = type_none c.args.v.now c.of.ensures c.in_err-m.was c.from_residual.ensures

pub returns : goal.returns
returns c = ap type_is c.then_some.ensures ∙ type_some c.args.v.now c.in_ok-m.m c.of.ensures c.in_ok-m.was c.is_administrative.ensures
