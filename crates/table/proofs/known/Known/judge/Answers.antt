-- The finding by the kind of the tag's line, which is the document's where the message has the tag.
use mathlib.Core.Path.{◌∙◌, ap}
use Rattle.kinds.specs.Kind.{Kind}
use Rattle.kinds.specs.Judged.{judged, meaning}
use Rattle.table.proofs.Places.{kind_at}
use Rattle.table.proofs.known.Known.judge.Goals as goal

pub returns-in-OneOf-clause-by_rows : goal.returns-in-OneOf-clause-by_rows
returns-in-OneOf-clause-by_rows c =
    λ l. c.judge_choice.ensures
    ∙ ap (λ (k : Kind). judged k c.args.v.now) (ap meaning c.in-OneOf.ensures ∙ kind_at _ c.args.self.within c.args.m l)

pub returns-in_default-clause-by_rows : goal.returns-in_default-clause-by_rows
returns-in_default-clause-by_rows c =
    λ l. c.judge.ensures
    ∙ ap (λ (k : Kind). judged k c.args.v.now) (ap meaning c.kind-kind.ensures ∙ kind_at _ c.args.self.within c.args.m l)
