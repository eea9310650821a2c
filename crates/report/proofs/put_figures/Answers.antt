-- `put_figures`: two amounts and a date that may be absent.
use Rattle.message.specs.Message.{bytes, ◌is◌}
use Rattle.amounts.specs.Amount.{amount_text}
use Rattle.report.specs.Values.{optional}
use Rattle.report.specs.Layout.{may_be, amount_at}
use Rattle.report.proofs.Putting.{three_put, first_unfit, second_unfit}
use Rattle.report.proofs.Sides.{has_32, has_31, has_64}
use Rattle.report.proofs.put_figures.Goals as goal

pub returns-in_err-a-clause-bytes : goal.returns-in_err-a-clause-bytes
returns-in_err-a-clause-bytes c =
    let w = c.args.given.words.now in
    let s = c.args.given.text.now in
    first_unfit (32 is bytes (amount_text (amount_at w s 3))) (31 is bytes (amount_text (amount_at w s 4))) (64 is optional (may_be w s 5)) c.from_residual.ensures (c.in_err-a.ensures.bytes has_32)

pub returns-in_err-b-clause-bytes : goal.returns-in_err-b-clause-bytes
returns-in_err-b-clause-bytes c =
    let w = c.args.given.words.now in
    let s = c.args.given.text.now in
    second_unfit (32 is bytes (amount_text (amount_at w s 3))) (31 is bytes (amount_text (amount_at w s 4))) (64 is optional (may_be w s 5)) c.from_residual-in_err-b.ensures (c.in_ok-a.ensures.bytes has_32) (c.in_err-b.ensures.bytes has_31)

pub returns-clause-bytes : goal.returns-clause-bytes
returns-clause-bytes c =
    let w = c.args.given.words.now in
    let s = c.args.given.text.now in
    three_put (32 is bytes (amount_text (amount_at w s 3))) (31 is bytes (amount_text (amount_at w s 4))) (64 is optional (may_be w s 5)) (c.in_ok-a.ensures.bytes has_32) (c.in_ok-b.ensures.bytes has_31) (c.put_optional.ensures.bytes has_64)
