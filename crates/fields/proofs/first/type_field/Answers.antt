-- `type_field`: the first part of a body is its field 35.
use mathlib.Core.Path.{sym, ◌∙◌}
use Rattle.fields.proofs.Firsts.{type_long, type-first}
use Rattle.fields.proofs.first.type_field.Goals as goal

pub bar-end-requires : goal.bar-end-requires
bar-end-requires c = type_long c.args.body.now (sym c.begins_with_type.ensures ∙ c.if-not-begins_with_type.false)

pub returns : goal.returns
returns c = type-first c.args.body.now _ (sym c.begins_with_type.ensures ∙ c.if-not-begins_with_type.false) c.bar-end.ensures
