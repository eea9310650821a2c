-- Rule 8: outside its group, the first member, a group that none began, a member again, a new one.
use Rattle.dictionary.proofs.FourToEight.{rule8_astray, rule8_none, rule8_first, rule8_unled, rule8_again, rule8_new}
use Rattle.dictionary.proofs.rules.rule_8.Goals as goal

pub returns-then-is_member : goal.returns-then-is_member
returns-then-is_member c = λ o N. rw c.tag.ensures (rule8_astray (rw c.in_default.is at N) c.is_member.ensures c.if-is_member.true)

pub returns-in_default : goal.returns-in_default
returns-in_default c = λ o N. rule8_none (rw c.in_default.is at N) c.is_member.ensures c.if-is_member.false

pub returns-then-at : goal.returns-then-at
returns-then-at c = λ o N. rule8_first (rw c.in-Some.is at N) c.if-at.true

pub returns-then-at-eq0 : goal.returns-then-at-eq0
returns-then-at-eq0 c = λ o N. rw c.tag-then-at-eq0.ensures (rule8_unled (rw c.in-Some.is at N) c.if-at.false c.if-at-eq0.true)

pub returns-then-met-k : goal.returns-then-met-k
returns-then-met-k c = λ o N. rw c.tag-then-met-k.ensures (rule8_again (rw c.in-Some.is at N) c.if-at.false c.if-at-eq0.false c.args.k.within c.if-met-k.true)

pub returns : goal.returns
returns c = λ o N. rule8_new (rw c.in-Some.is at N) c.if-at.false c.if-at-eq0.false c.args.k.within c.if-met-k.false
