-- Rule 1: the members that the last instance lacks.
use Rattle.dictionary.proofs.Ending.{none_began, one_began}
use Rattle.dictionary.proofs.Unmet.{lacks}
use Rattle.dictionary.proofs.groups.incomplete.Goals as goal

pub returns-then-g-eq0 : goal.returns-then-g-eq0
returns-then-g-eq0 c = record { is = none_began c.if-g-eq0.true }

pub returns : goal.returns
returns c = record { is = one_began c.if-g-eq0.false (rw c.missing.ensures (lacks _ c.lacking_member.ensures)) }
