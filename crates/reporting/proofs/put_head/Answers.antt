-- `put_head`: five fields one behind the other.
use native.Mathlib.Omega.{arith}
use Rattle.message.proofs.Writes.{chain, nothing}
use Rattle.reporting.proofs.put_head.Goals as goal

pub returns : goal.returns
returns c = record { bytes = chain c.put_field-a.ensures.bytes (chain c.put_field-b.ensures.bytes (chain c.put_field-c.ensures.bytes (chain c.put_field-d.ensures.bytes (chain c.put_field.ensures.bytes nothing)))); room = omega arith }
