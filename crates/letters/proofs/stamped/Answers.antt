-- `stamped`: the second message stands behind the first, and has the number behind it; the time in words is that of the call, and the CompIDs are those of
-- the record.
use mathlib.Core.Path.{◌∙◌}
use Rattle.calendar.proofs.Texts.{utc_before}
use Rattle.letters.proofs.Putting.{both_letters}
use Rattle.letters.proofs.stamped.Goals as goal

pub returns-clause-bytes : goal.returns-clause-bytes
returns-clause-bytes c =
    let a = c.args in
    let h = c.heading-h.ensures in
    let t = h.time ∙ c.utc-stamp.ensures ∙ utc_before _ c.requires.in_bounds.1 in
    let one = rw (h.ours, h.peers, h.number, t) at c.put-a.ensures.bytes in
    let two = rw (h.ours, h.peers, t) at c.put.ensures.bytes in
    both_letters _ _ _ a.body.now a.r.next a.first a.second c.next_after-number.ensures.is one two
