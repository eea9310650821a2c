-- `take_parties`: nothing at the end, else the label, one digit and as many parties.
use Rattle.std.proofs.Common.{sym, ◌∙◌}
use Rattle.std.proofs.lemmas.List.{take_rest}
use Rattle.listed.proofs.Taking.{on, stop}
use Rattle.listed.proofs.Members.{count_end, count_low, count_high, count_took, group_none, group_took}
use Rattle.listed.proofs.take_parties.Goals as goal

pub returns-then-is_empty : goal.returns-then-is_empty
returns-then-is_empty c = group_none (sym c.is_empty.ensures ∙ c.if-is_empty.true)

pub returns-in_err-take_label : goal.returns-in_err-take_label
returns-in_err-take_label c = rw c.from_residual.ensures (group_took (sym c.is_empty.ensures ∙ c.if-is_empty.false) c.in_err-take_label.ensures stop)

pub returns-in_default : goal.returns-in_default
returns-in_default c = group_took (sym c.is_empty.ensures ∙ c.if-is_empty.false) c.in_ok-take_label.ensures (on (count_end c.in_default.len_below))

pub returns-then-n-lt49 : goal.returns-then-n-lt49
returns-then-n-lt49 c = group_took (sym c.is_empty.ensures ∙ c.if-is_empty.false) c.in_ok-take_label.ensures (on (count_low c.in-len1-up.len_at_least c.if-n-lt49.true))

pub returns-then-n-gt56 : goal.returns-then-n-gt56
returns-then-n-gt56 c = group_took (sym c.is_empty.ensures ∙ c.if-is_empty.false) c.in_ok-take_label.ensures (on (count_high c.in-len1-up.len_at_least c.if-n-gt56.true))

pub returns-in_err-take_label-2 : goal.returns-in_err-take_label-2
returns-in_err-take_label-2 c =
    let h = c.in_err-take_label-2.ensures in
    rw c.from_residual-in_err-take_label-2.ensures
    (group_took (sym c.is_empty.ensures ∙ c.if-is_empty.false) c.in_ok-take_label.ensures
    (on (count_took c.in-len1-up.len_at_least c.if-n-lt49.false c.if-n-gt56.false (rw take_rest at h) stop)))

pub returns : goal.returns
returns c =
    let h = c.in_ok-take_label-2.ensures in
    group_took (sym c.is_empty.ensures ∙ c.if-is_empty.false) c.in_ok-take_label.ensures
    (on (count_took c.in-len1-up.len_at_least c.if-n-lt49.false c.if-n-gt56.false (rw take_rest at h) (on c.take_members.ensures)))
