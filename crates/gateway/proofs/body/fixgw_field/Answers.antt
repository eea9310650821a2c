-- `fixgw_field`: the case of the item, in words.
use Rattle.gateway.proofs.Readings.{field_is}
use Rattle.gateway.proofs.body.fixgw_field.Goals as goal

pub returns-in-Field : goal.returns-in-Field
returns-in-Field c = field_is _ _ c.field_at.ensures c.in-Field.is

pub returns-in-Malformed : goal.returns-in-Malformed
returns-in-Malformed c = field_is _ _ c.field_at.ensures c.in-Malformed.is

pub returns-in-End : goal.returns-in-End
returns-in-End c = field_is _ _ c.field_at.ensures c.in-End.is

pub returns-in-NoBody : goal.returns-in-NoBody
returns-in-NoBody c = let a = c.args in rw (c.refuse.ensures.0, c.refuse.ensures.1) (field_is a.body.now a.at c.field_at.ensures c.in-NoBody.is)
