-- `beat`: one message, its time in words that of the call, its CompIDs those of the record.
use borrow.Author.Rules.{rules}
use mathlib.Core.Path.{◌≡◌, ◌∙◌}
use mathlib.Core.List.{append-nil}
use lib.ListN.{length}
use Rattle.calendar.proofs.Texts.{utc_before}
use Rattle.letters.proofs.Replying.{put_at}
use Rattle.letters.proofs.Putting.{beat_put}
use Rattle.letters.proofs.beat.Goals as goal

pub unwrap-requires : goal.unwrap-requires
unwrap-requires c =
    let r = c.args.r in
    let e : length c.args.r.ours ≡ 11 = search rules in
    let f : length c.args.r.peer ≡ 11 = search rules in
    let h = c.heading-h.ensures in
    let W = beat_put r c.requires.0 e f c.args.time h.ours h.peers h.number (h.time ∙ c.utc-stamp.ensures ∙ utc_before _ c.requires.2) c.requires.1 c.put_reply.ensures in
    rw W.1

pub returns-clause-bytes : goal.returns-clause-bytes
returns-clause-bytes c =
    let r = c.args.r in
    let e : length c.args.r.ours ≡ 11 = search rules in
    let f : length c.args.r.peer ≡ 11 = search rules in
    let h = c.heading-h.ensures in
    let W = beat_put r c.requires.0 e f c.args.time h.ours h.peers h.number (h.time ∙ c.utc-stamp.ensures ∙ utc_before _ c.requires.2) c.requires.1 c.put_reply.ensures in
    rw append-nil (put_at W c.unwrap.ensures).0
