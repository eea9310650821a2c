-- `put_value`: nothing for a part that the text does not have or for bytes that are unfit, else the field.
use Rattle.std.proofs.Common.{arith}
use Rattle.kinds.specs.Judged.{meaning}
use Rattle.report.proofs.Putting.{field_put, field_unfit, part_inside, part_nowhere, part_fit, fit_short, field_short}
use Rattle.report.proofs.pieces.put_value.Goals as goal

pub returns-in_err-v-clause-bytes : goal.returns-in_err-v-clause-bytes
returns-in_err-v-clause-bytes c = λ H.
    rw c.from_residual.ensures
    (field_unfit c.args.tag (meaning c.args.kind) _ H (part_nowhere (meaning c.args.kind) c.args.given.text.now _ _ c.in_err-v.ensures.lookup.0))

pub returns-then-not-is_fit-clause-bytes : goal.returns-then-not-is_fit-clause-bytes
returns-then-not-is_fit-clause-bytes c = λ H.
    let g = c.in_ok-v.ensures.lookup.0 in
    field_unfit c.args.tag (meaning c.args.kind) _ H (part_fit (meaning c.args.kind) c.args.given.text.now _ _ g.0 g.1 g.2 c.is_fit.ensures c.if-not-is_fit.true)

pub put_field-requires : goal.put_field-requires
put_field-requires c =
    (c.requires.0, tt, omega (arith, fit_short (meaning c.args.kind) _ c.is_fit.ensures c.if-not-is_fit.false, c.requires.2))

pub returns-clause-bytes : goal.returns-clause-bytes
returns-clause-bytes c = λ H.
    let g = c.in_ok-v.ensures.lookup.0 in
    field_put c.args.tag (meaning c.args.kind) _ H (part_fit (meaning c.args.kind) c.args.given.text.now _ _ g.0 g.1 g.2 c.is_fit.ensures c.if-not-is_fit.false) (rw (part_inside c.args.given.text.now _ _ g.0 g.1) (rw g.2 at c.put_field.ensures.bytes))

pub returns-clause-room : goal.returns-clause-room
returns-clause-room c =
    omega (arith, fit_short (meaning c.args.kind) _ c.is_fit.ensures c.if-not-is_fit.false, field_short c.args.tag c.in_ok-v.v.now c.requires.0, c.put_field.ensures.bytes.next)
