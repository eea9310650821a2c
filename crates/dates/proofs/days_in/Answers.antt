-- `days_in`: February, the four short months, and the others.
use Rattle.std.proofs.Common.{sym, ap, ◌∙◌, ⊎_elim}
use Rattle.dates.specs.Date.{days}
use Rattle.dates.proofs.days_in.Goals as goal

pub returns-in-2 : goal.returns-in-2
returns-in-2 c = c.february.ensures ∙ sym (ap (days c.args.y) c.in-2.is)

pub returns-in-4 : goal.returns-in-4
returns-in-4 c = ⊎_elim (λ e. rw e) (⊎_elim (λ e. rw e) (⊎_elim (λ e. rw e) (λ e. rw e))) c.in-4.is
