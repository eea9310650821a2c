-- `written`: the text joined of pairs of digits.
use Rattle.calendar.proofs.Texts.{text-joined}
use Rattle.calendar.proofs.written.Goals as goal

pub returns : goal.returns
returns c =
    let s = c.args in
    text-joined s.date s.second s.micros c.two-c.ensures c.two-y.ensures c.two-m.ensures c.two-d.ensures c.two-h.ensures c.two-i.ensures c.two-s.ensures c.two-p.ensures c.two-q.ensures c.two-r.ensures
