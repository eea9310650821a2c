-- `is_later`: the order of the parts, from the year down.
use Rattle.std.proofs.Common.{◌∙◌}
use Rattle.calendar.specs.Later.{later}
use Rattle.calendar.proofs.Order.{first_decides, last_decides}
use Rattle.calendar.proofs.moments.is_later.Goals as goal

pub returns : goal.returns
unfolding later
returns c =
    let a = c.args.a in
    let b = c.args.b in
    c.lt.ensures ∙ first_decides a.year b.year _ (first_decides a.month b.month _ (first_decides a.day b.day _ (first_decides a.hour b.hour _ (first_decides a.minute b.minute _ (first_decides a.second b.second _ (last_decides a.micros b.micros))))))
