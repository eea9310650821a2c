-- `put_body`: 35, and the fields of the values behind it.
use native.Mathlib.Omega.{arith}
use mathlib.Core.Path.{ap}
use lib.ListN.{length}
use Rattle.writer.specs.Call.{value_in}
use Rattle.message.proofs.Sizes.{one_byte}
use Rattle.writer.proofs.Calls.{body_put}
use Rattle.writer.proofs.put_body.Goals as goal

pub put_field-at-requires : goal.put_field-at-requires
put_field-at-requires c = (omega arith, tt, omega (arith, ap length c.requires.1, one_byte c.args.m c.requires.0))

pub put_values-requires : goal.put_values-requires
put_values-requires c = (c.requires.0, omega (arith, ap length c.requires.1, one_byte c.args.m c.requires.0))

pub returns : goal.returns
returns c =
    let p = c.put_values in
    let t = c.put_field-at in
    body_put c.args.m c.requires.0 (value_in c.args.values.now c.args.text.now) c.args.code.now c.args.body.now t.new.buf p.new.buf t.result c.requires.1 t.ensures.bytes p.result p.ensures
