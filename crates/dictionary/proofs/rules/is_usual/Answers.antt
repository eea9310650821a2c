-- What is asked of a usual field, one after the other.
use borrow.Author.Tests.{not-true}
use mathlib.Core.Bool.{false≢true}
use mathlib.Core.Path.{sym, ◌∙◌}
use Rattle.dictionary.proofs.Usual.{is_away}
use Rattle.dictionary.proofs.rules.is_usual.Goals as goal

pub returns-then-not-st : goal.returns-then-not-st
returns-then-not-st c h =
    record {
      some = c.if-empty.false;
      away = is_away _ c.if-is_some.ensures;
      own = sym c.is_in.ensures ∙ c.if-not-is_in.false;
      new = c.if-again.false;
      timely = λ o. absurd (false≢true (sym c.if-not-st.true ∙ o));
    }

pub returns : goal.returns
returns c h =
    record {
      some = c.if-empty.false;
      away = is_away _ c.if-is_some.ensures;
      own = sym c.is_in.ensures ∙ c.if-not-is_in.false;
      new = c.if-again.false;
      timely = λ o. sym c.is_header.ensures ∙ not-true _ h;
    }

pub returns-then-empty : goal.returns-then-empty
returns-then-empty c h = absurd (false≢true h)

pub returns-then-is_some : goal.returns-then-is_some
returns-then-is_some c h = absurd (false≢true h)

pub returns-then-not-is_in : goal.returns-then-not-is_in
returns-then-not-is_in c h = absurd (false≢true h)

pub returns-then-again : goal.returns-then-again
returns-then-again c h = absurd (false≢true h)
