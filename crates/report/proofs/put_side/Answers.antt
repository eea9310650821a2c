-- `put_side`: the number of sides, 54, and a 1427 that may be absent.
use Rattle.message.specs.Message.{number, bytes, ◌is◌}
use Rattle.report.specs.Values.{optional}
use Rattle.report.specs.Layout.{needed, may_be}
use Rattle.report.proofs.Putting.{field-number, three_put, second_unfit}
use Rattle.report.proofs.Sides.{once_fit, has_54, has_1427}
use Rattle.report.proofs.put_side.Goals as goal

pub returns-in_err-b-clause-bytes : goal.returns-in_err-b-clause-bytes
returns-in_err-b-clause-bytes c =
    let w = c.args.given.words.now in
    let s = c.args.given.text.now in
    second_unfit (552 is number 1) (54 is bytes (needed w s 9)) (1427 is optional (may_be w s 10)) c.from_residual.ensures (field-number 552 1 once_fit c.put_field-a.ensures.bytes) (c.in_err-b.ensures.bytes has_54)

pub returns-clause-bytes : goal.returns-clause-bytes
returns-clause-bytes c =
    let w = c.args.given.words.now in
    let s = c.args.given.text.now in
    three_put (552 is number 1) (54 is bytes (needed w s 9)) (1427 is optional (may_be w s 10)) (field-number 552 1 once_fit c.put_field-a.ensures.bytes) (c.in_ok-b.ensures.bytes has_54) (c.put_optional.ensures.bytes has_1427)
