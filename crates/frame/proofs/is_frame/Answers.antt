-- `is_frame`: the reading hands out all of it just where it is one good frame.
use mathlib.Core.Path.{sym, subst}
use lib.Dec.{T}
use borrow.Author.Tests.{eq-eqb, eqb-true}
use Rattle.frame.specs.Frame.{fixt}
use Rattle.frame.proofs.Unique.{whole_found, whole_refused, found_whole}
use Rattle.frame.proofs.is_frame.Goals as goal

pub returns-then-skip-eq0 : goal.returns-then-skip-eq0
returns-then-skip-eq0 c =
    let L = c.in-Ok.ensures.reads in
    record { only = λ e. found_whole fixt _ L c.if-skip-eq0.true (eqb-true _ _ e); every = λ G. eq-eqb _ _ (whole_found fixt _ L G).1 }

pub returns-else-skip-eq0 : goal.returns-else-skip-eq0
returns-else-skip-eq0 c =
    let L = c.in-Ok.ensures.reads in
    record { only = λ e. absurd (c.if-skip-eq0.false (eqb-true _ _ e)); every = λ G. eq-eqb _ _ (whole_found fixt _ L G).0 }

pub returns-in-Err : goal.returns-in-Err
returns-in-Err c = record { only = λ e. absurd (subst T (sym e) tt); every = λ G. absurd (whole_refused fixt _ c.in-Err.ensures G) }
