use mathlib.Core.Path.{refl, ap, ◌∙◌}
use mathlib.Core.Bool.{not}
use Rattle.octets.specs.Bytes.{fix}
use Rattle.table.specs.Dictionary.{code35}
use Rattle.table.specs.declared.MsgType.TheVariants as Kind
use Rattle.dictionary.specs.Verdict.{msg_type}
use Rattle.moves.specs.Held.{session_of}
use Rattle.moves.proofs.Types.{kind_not}
use Rattle.rulebook.proofs.Deciding.{early_other, early_unclean, early_is}
use Rattle.rulebook.proofs.serving.served_early.Goals as goal

pub returns-then-ne : goal.returns-then-ne
unfolding code35
returns-then-ne c = early_other (session_of c.args.r) _ (kind_not _ Kind.ResendRequest (fix "2") refl (msg_type c.args.body.now) c.requires.1 c.ne.ensures ∙ ap not c.if-ne.true)

pub returns-then-is_err : goal.returns-then-is_err
unfolding code35
returns-then-is_err c = early_unclean (session_of c.args.r) _ (kind_not _ Kind.ResendRequest (fix "2") refl (msg_type c.args.body.now) c.requires.1 c.ne.ensures ∙ ap not c.if-ne.false) c.verdict_on.ensures c.is_err.ensures.value c.if-is_err.true

pub returns : goal.returns
unfolding code35
returns c = early_is (session_of c.args.r) _ (kind_not _ Kind.ResendRequest (fix "2") refl (msg_type c.args.body.now) c.requires.1 c.ne.ensures ∙ ap not c.if-ne.false) c.verdict_on.ensures c.is_err.ensures.value c.if-is_err.false c.served_by.ensures c.ok.ensures.value
