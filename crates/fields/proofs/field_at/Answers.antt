-- `field_at`: the item where the bytes are a body.
use Rattle.fields.specs.Item.{field_at}
use Rattle.fields.proofs.field_at.Goals as goal

pub returns-then-is_body : goal.returns-then-is_body
unfolding field_at
returns-then-is_body c = rw (← c.is_body.ensures, c.if-is_body.true) c.item_at.ensures.is

pub returns : goal.returns
unfolding field_at
returns c = rw (← c.is_body.ensures, c.if-is_body.false)
