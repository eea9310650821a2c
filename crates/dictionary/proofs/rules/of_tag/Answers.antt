-- A usual field, or rules 1 and 4 to 8 where it stands.
use Rattle.dictionary.proofs.Usual.{usual_said}
use Rattle.dictionary.proofs.rules.of_tag.Goals as goal

pub returns-then-is_usual : goal.returns-then-is_usual
returns-then-is_usual c = usual_said _ _ _ _ c.args.k.within (c.is_usual.ensures c.if-is_usual.true)
