-- Rule 6: for this message outside groups, as a member, or not.
use Rattle.table.specs.code.Held.{tag_at}
use Rattle.dictionary.proofs.FourToEight.{rule6_outside, rule6_member, rule6_not}
use Rattle.dictionary.proofs.rules.rule_6.Goals as goal

pub returns-then-is_in : goal.returns-then-is_in
returns-then-is_in c = rule6_outside _ (tag_at c.args.k.place) c.is_in.ensures c.if-is_in.true

pub returns-then-is_member : goal.returns-then-is_member
returns-then-is_member c = rule6_member _ (tag_at c.args.k.place) c.is_in.ensures c.if-is_in.false c.is_member.ensures c.if-is_member.true

pub returns : goal.returns
returns c = rw c.tag.ensures (rule6_not _ (tag_at c.args.k.place) c.is_in.ensures c.if-is_in.false c.is_member.ensures c.if-is_member.false)
