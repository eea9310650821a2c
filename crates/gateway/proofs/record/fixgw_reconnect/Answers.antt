-- `fixgw_reconnect`: no record in the words, or a reconnect of it.
use mathlib.Core.Path.{sym, ◌∙◌}
use Rattle.border.specs.Record.{record_in}
use Rattle.border.proofs.Keeping.{record_length, told_none, told_some}
use Rattle.gateway.proofs.Calls.{reconnect_unread, reconnect_left}
use Rattle.gateway.proofs.record.fixgw_reconnect.Goals as goal

pub returns-in_default : goal.returns-in_default
returns-in_default c =
    let a = c.args in
    rw c.from.ensures (reconnect_unread a.ids.now a.words.now (told_none (record_in a.ids.now a.words.now) (sym c.in_default.is ∙ c.load.ensures)))

pub leave-requires : goal.leave-requires
leave-requires c = let a = c.args in record_length a.words.now a.ids.now c.in-Some.r (told_some (record_in a.ids.now a.words.now) c.in-Some.r c.in-Some.ensures)

pub returns : goal.returns
returns c =
    let a = c.args in
    let left = c.leave.ensures in
    reconnect_left a.ids.now a.words.now (told_some (record_in a.ids.now a.words.now) c.in-Some.r c.in-Some.ensures) left.0 left.1 c.reconnect.ensures
