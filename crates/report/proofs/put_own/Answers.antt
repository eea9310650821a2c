-- `put_own`: the fields group by group.
use Rattle.std.proofs.Common.{arith, None}
use Rattle.report.proofs.Sides.{own_put, all_put, side_unfit, instrument_unfit, figures_unfit, trade_unfit, within}
use Rattle.report.proofs.put_own.Goals as goal

pub returns-in_err-a : goal.returns-in_err-a
returns-in_err-a c =
    let w = c.args.given.words.now in
    let s = c.args.given.text.now in
    rw c.from_residual.ensures (own_put w s None tt (trade_unfit w s c.in_err-a.ensures.bytes))

pub returns-in_err-b : goal.returns-in_err-b
returns-in_err-b c =
    let w = c.args.given.words.now in
    let s = c.args.given.text.now in
    rw c.from_residual-in_err-b.ensures (own_put w s None tt (figures_unfit w s c.in_ok-a.ensures.bytes c.in_err-b.ensures.bytes))

pub returns-in_err-c : goal.returns-in_err-c
returns-in_err-c c =
    let w = c.args.given.words.now in
    let s = c.args.given.text.now in
    rw c.from_residual-in_err-c.ensures (own_put w s None tt (instrument_unfit w s c.in_ok-a.ensures.bytes c.in_ok-b.ensures.bytes c.in_err-c.ensures.bytes))

pub returns-in_err-d : goal.returns-in_err-d
returns-in_err-d c =
    let w = c.args.given.words.now in
    let s = c.args.given.text.now in
    rw c.from_residual-in_err-d.ensures (own_put w s None tt (side_unfit w s c.in_ok-a.ensures.bytes c.in_ok-b.ensures.bytes c.in_ok-c.ensures.bytes c.in_err-d.ensures.bytes))

pub returns : goal.returns
returns c =
    let w = c.args.given.words.now in
    let s = c.args.given.text.now in
    own_put w s c.put_parties.result
    (within c.put_parties.result (omega (arith, c.requires.1, c.in_ok-a.ensures.room, c.in_ok-b.ensures.room, c.in_ok-c.ensures.room, c.in_ok-d.ensures.room)) c.put_parties.ensures.room)
    (all_put w s c.in_ok-a.ensures.bytes c.in_ok-b.ensures.bytes c.in_ok-c.ensures.bytes c.in_ok-d.ensures.bytes c.put_parties.ensures.bytes)
