use mathlib.Core.Path.{refl, ap, ◌∙◌}
use mathlib.Core.Bool.{not}
use Rattle.octets.specs.Bytes.{fix}
use Rattle.table.specs.Dictionary.{code35}
use Rattle.table.specs.declared.MsgType.TheVariants as Kind
use Rattle.dictionary.specs.Verdict.{msg_type}
use Rattle.moves.specs.code.Plan.{is_bare_reset}
use Rattle.moves.proofs.Types.{kind_is}
use Rattle.rulebook.proofs.is_bare_reset.Goals as goal

pub returns-then-eq : goal.returns-then-eq
unfolding is_bare_reset code35
returns-then-eq c = rw (kind_is _ Kind.SequenceReset (fix "4") refl (msg_type c.args.body.now) c.requires c.eq.ensures ∙ c.if-eq.true) (ap not c.holds.ensures)

pub returns-else-eq : goal.returns-else-eq
unfolding is_bare_reset code35
returns-else-eq c = rw (kind_is _ Kind.SequenceReset (fix "4") refl (msg_type c.args.body.now) c.requires c.eq.ensures ∙ c.if-eq.false) c.if-eq.false
