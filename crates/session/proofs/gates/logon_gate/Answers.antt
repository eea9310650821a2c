-- `logon_gate`: 3, then 4, or neither.
use mathlib.Core.Path.{refl, ◌∙◌}
use Rattle.octets.specs.Bytes.{fix}
use Rattle.table.specs.Dictionary.{code35}
use Rattle.table.specs.declared.MsgType.TheVariants as Kind
use Rattle.dictionary.specs.Verdict.{msg_type}
use Rattle.moves.specs.Held.{session_of}
use Rattle.moves.proofs.Types.{kind_not}
use Rattle.session.proofs.Gating.{handed_on, logon_3, logon_4}
use Rattle.session.proofs.gates.logon_gate.Goals as goal

pub returns-in_err-when : goal.returns-in_err-when
unfolding code35
returns-in_err-when c =
    let body = c.args.body.now in
    let e = kind_not _ Kind.Logon (fix "A") refl (msg_type body) c.type_in.ensures c.ne.ensures in
    handed_on c.from_residual.result c.from_residual.ensures.1 ∙ logon_3 (session_of c.args.r) body c.ne.result e c.in_err-when.ensures

pub returns : goal.returns
unfolding code35
returns c =
    let body = c.args.body.now in
    let e = kind_not _ Kind.Logon (fix "A") refl (msg_type body) c.type_in.ensures c.ne.ensures in
    logon_4 (session_of c.args.r) body c.ne.result e c.in_ok-when.ensures c.is_acceptable.ensures c.when-2.ensures
