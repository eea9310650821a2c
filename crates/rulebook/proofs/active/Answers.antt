use Rattle.rulebook.proofs.Choosing.{choosing}
use Rattle.rulebook.proofs.Read.{is_N}
use Rattle.rulebook.proofs.active.Goals as goal

pub rule_4-requires : goal.rule_4-requires
rule_4-requires c = (c.requires, is_N _ c.number_at.ensures c.in-Some.is, c.type_in-kind.ensures)

pub rule_6-requires : goal.rule_6-requires
rule_6-requires c = (c.requires, is_N _ c.number_at.ensures c.in-Some.is, c.type_in-kind.ensures)

pub returns-in_default : goal.returns-in_default
returns-in_default c = search choosing

pub returns-in-Some-strange_tag : goal.returns-in-Some-strange_tag
returns-in-Some-strange_tag c = search choosing

pub returns-then-is_bare_reset : goal.returns-then-is_bare_reset
returns-then-is_bare_reset c = search choosing

pub returns-then-e-n : goal.returns-then-e-n
returns-then-e-n c = search choosing

pub returns-then-n-e : goal.returns-then-n-e
returns-then-n-e c = search choosing

pub returns : goal.returns
returns c = search choosing
