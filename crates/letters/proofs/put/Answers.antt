-- `put`: nothing, or the reply that the message is.
use Rattle.letters.proofs.Replying.{one_put, put_at}
use Rattle.letters.proofs.put.Goals as goal

pub unwrap-requires : goal.unwrap-requires
unwrap-requires c =
    let n = c.args.h.now.number in
    let A = rw c.in-Some.is at c.requires.all_put in
    let W = one_put c.args.body.now c.in-Some.l c.reply_of.result c.requires.sending A (c.reply_of.ensures n) c.number_of-number.ensures c.put_reply.ensures in
    rw W.1

pub returns : goal.returns
returns c =
    let n = c.args.h.now.number in
    let A = rw c.in-Some.is at c.requires.all_put in
    let W = one_put c.args.body.now c.in-Some.l c.reply_of.result c.requires.sending A (c.reply_of.ensures n) c.number_of-number.ensures c.put_reply.ensures in
    let w = put_at W c.unwrap.ensures in
    record { bytes = rw c.in-Some.is w.0; room = w.1 }
