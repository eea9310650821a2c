-- A first member begins an instance, another does not.
use Rattle.dictionary.proofs.Reported.{anew, not_anew}
use Rattle.dictionary.proofs.members.rule_1_inside.Goals as goal

pub returns-then-first : goal.returns-then-first
returns-then-first c = anew c.if-first.true c.incomplete.ensures

pub returns : goal.returns
returns c = not_anew c.if-first.false
