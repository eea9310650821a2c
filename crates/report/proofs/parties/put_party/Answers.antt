-- `put_party`: three fields.
use Rattle.std.proofs.Common.{◌+◌, ◌*◌, arith}
use Rattle.message.specs.Message.{bytes, ◌is◌}
use Rattle.report.specs.Layout.{party_part}
use Rattle.report.proofs.Putting.{three_put, first_unfit, second_unfit}
use Rattle.report.proofs.Sides.{has_448, has_447, has_452, party_at}
use Rattle.report.proofs.parties.put_party.Goals as goal

pub returns-in_err-a-clause-bytes : goal.returns-in_err-a-clause-bytes
returns-in_err-a-clause-bytes c =
    let w = c.args.given.words.now in
    let s = c.args.given.text.now in
    let i = c.args.i in
    first_unfit (448 is bytes (party_part w s i 0)) (447 is bytes (party_part w s i 1)) (452 is bytes (party_part w s i 2)) c.from_residual.ensures (party_at w s 448 i 0 (34 + 6 * i) (34 + 6 * i + 1) (omega arith) (omega arith) (c.in_err-a.ensures.bytes has_448))

pub returns-in_err-b-clause-bytes : goal.returns-in_err-b-clause-bytes
returns-in_err-b-clause-bytes c =
    let w = c.args.given.words.now in
    let s = c.args.given.text.now in
    let i = c.args.i in
    second_unfit (448 is bytes (party_part w s i 0)) (447 is bytes (party_part w s i 1)) (452 is bytes (party_part w s i 2)) c.from_residual-in_err-b.ensures (party_at w s 448 i 0 (34 + 6 * i) (34 + 6 * i + 1) (omega arith) (omega arith) (c.in_ok-a.ensures.bytes has_448)) (party_at w s 447 i 1 (34 + 6 * i + 2) (34 + 6 * i + 2 + 1) (omega arith) (omega arith) (c.in_err-b.ensures.bytes has_447))

pub returns-clause-bytes : goal.returns-clause-bytes
returns-clause-bytes c =
    let w = c.args.given.words.now in
    let s = c.args.given.text.now in
    let i = c.args.i in
    three_put (448 is bytes (party_part w s i 0)) (447 is bytes (party_part w s i 1)) (452 is bytes (party_part w s i 2)) (party_at w s 448 i 0 (34 + 6 * i) (34 + 6 * i + 1) (omega arith) (omega arith) (c.in_ok-a.ensures.bytes has_448)) (party_at w s 447 i 1 (34 + 6 * i + 2) (34 + 6 * i + 2 + 1) (omega arith) (omega arith) (c.in_ok-b.ensures.bytes has_447)) (party_at w s 452 i 2 (34 + 6 * i + 4) (34 + 6 * i + 4 + 1) (omega arith) (omega arith) (c.put_value-3.ensures.bytes has_452))
