-- Rule 5: a tag of the frame, a member, a tag seen before, a new one.
use Rattle.dictionary.proofs.FourToEight.{rule5_frame, rule5_member, rule5_seen, rule5_new}
use Rattle.dictionary.proofs.rules.rule_5.Goals as goal

pub returns-then-is_frame : goal.returns-then-is_frame
returns-then-is_frame c = rw c.tag.ensures (rule5_frame c.is_frame.ensures c.if-is_frame.true)

pub returns-then-is_member : goal.returns-then-is_member
returns-then-is_member c = rule5_member c.is_frame.ensures c.if-is_frame.false c.is_member.ensures c.if-is_member.true

pub returns-then-seen : goal.returns-then-seen
returns-then-seen c = rw c.tag-then-seen.ensures (rule5_seen c.is_frame.ensures c.if-is_frame.false c.is_member.ensures c.if-is_member.false c.if-seen.true)

pub returns : goal.returns
returns c = rule5_new c.is_frame.ensures c.if-is_frame.false c.is_member.ensures c.if-is_member.false c.if-seen.false
