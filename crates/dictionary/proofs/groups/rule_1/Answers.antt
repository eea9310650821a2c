-- Rule 1 at a field: one that ends the group or stands in none, one that begins an instance, another member.
use Rattle.dictionary.proofs.Ending.{rule1_ends, rule1_begins, rule1_goes_on}
use Rattle.dictionary.proofs.groups.rule_1.Goals as goal

pub returns-in_default : goal.returns-in_default
returns-in_default c = λ t N. record { is = rule1_ends t (rw c.in_default.is at N) c.closing_all.ensures }

pub returns-then-at : goal.returns-then-at
returns-then-at c = λ t N. record { is = rule1_begins t (rw c.in-Some.is at N) c.if-at.true c.incomplete.ensures }

pub returns : goal.returns
returns c = λ t N. record { is = rule1_goes_on t (rw c.in-Some.is at N) c.if-at.false }
