-- `put_field`: tag, value and `|`.
use Rattle.message.proofs.Writes.{chain}
use Rattle.message.proofs.put_field.Goals as goal

pub returns-clause-bytes : goal.returns-clause-bytes
returns-clause-bytes g c = chain (chain c.put_tag-a.ensures.bytes c.put-b.ensures.bytes) c.put_byte.ensures
