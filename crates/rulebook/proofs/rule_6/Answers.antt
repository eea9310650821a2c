use mathlib.Core.Path.{refl, ◌∙◌}
use mathlib.Core.Logic.{inl, inr}
use Rattle.octets.specs.Bytes.{fix}
use Rattle.table.specs.Dictionary.{code35}
use Rattle.table.specs.declared.MsgType.TheVariants as Kind
use Rattle.dictionary.specs.Verdict.{msg_type}
use Rattle.moves.specs.Held.{session_of}
use Rattle.moves.proofs.Types.{kind_is}
use Rattle.rulebook.proofs.Choosing.{as_type, turn_report, turn_verdict, turn_1, turn_2, turn_4, turn_5, turn_A, turn_AD, turn_F, turn_0, turn_3, turn_other, untyped, never_AE}
use Rattle.rulebook.proofs.rule_6.Goals as goal

pub returns-then-eq : goal.returns-then-eq
unfolding code35
returns-then-eq c = turn_report (session_of c.args.r) _ (kind_is _ Kind.TradeCaptureReport (fix "AE") refl (msg_type c.args.body.now) c.requires.2 c.eq.ensures ∙ c.if-eq.true) c.counting.ensures

pub returns-in-Err : goal.returns-in-Err
unfolding code35
returns-in-Err c = turn_verdict (session_of c.args.r) _ (kind_is _ Kind.TradeCaptureReport (fix "AE") refl (msg_type c.args.body.now) c.requires.2 c.eq.ensures ∙ c.if-eq.false) c.verdict_on.ensures c.in-Err.is c.rejected.ensures c.counting-in-Err.ensures

pub returns-in_default-kind : goal.returns-in_default-kind
returns-in_default-kind c = turn_other (session_of c.args.r) _ c.verdict_on.ensures c.in_default.is (untyped (session_of c.args.r) _ c.requires.2 c.in_default-kind.is) c.expecting.ensures

pub returns-in-TestRequest : goal.returns-in-TestRequest
returns-in-TestRequest c = turn_1 (session_of c.args.r) _ c.verdict_on.ensures c.in_default.is (as_type (session_of c.args.r) _ c.requires.2 c.in-Some.is c.in-TestRequest.is) c.counting-in-TestRequest.ensures

pub returns-in-ResendRequest : goal.returns-in-ResendRequest
returns-in-ResendRequest c = turn_2 (session_of c.args.r) _ c.verdict_on.ensures c.in_default.is (as_type (session_of c.args.r) _ c.requires.2 c.in-Some.is c.in-ResendRequest.is) _ c.serve.ensures

pub returns-in-SequenceReset : goal.returns-in-SequenceReset
returns-in-SequenceReset c = turn_4 (session_of c.args.r) _ c.verdict_on.ensures c.in_default.is (as_type (session_of c.args.r) _ c.requires.2 c.in-Some.is c.in-SequenceReset.is) _ c.filled.ensures

pub returns-in-Logout : goal.returns-in-Logout
returns-in-Logout c = turn_5 (session_of c.args.r) _ c.verdict_on.ensures c.in_default.is (as_type (session_of c.args.r) _ c.requires.2 c.in-Some.is c.in-Logout.is) c.closing.ensures

pub returns-in-Logon : goal.returns-in-Logon
returns-in-Logon c = turn_A (session_of c.args.r) _ c.verdict_on.ensures c.in_default.is (as_type (session_of c.args.r) _ c.requires.2 c.in-Some.is c.in-Logon.is) c.counting-in-Logon.ensures

pub returns-in-TradeCaptureReportRequest : goal.returns-in-TradeCaptureReportRequest
returns-in-TradeCaptureReportRequest c = turn_AD (session_of c.args.r) _ c.verdict_on.ensures c.in_default.is (as_type (session_of c.args.r) _ c.requires.2 c.in-Some.is c.in-TradeCaptureReportRequest.is) c.delivering.ensures

pub returns-in-OrderCancelRequest : goal.returns-in-OrderCancelRequest
returns-in-OrderCancelRequest c = turn_F (session_of c.args.r) _ c.verdict_on.ensures c.in_default.is (as_type (session_of c.args.r) _ c.requires.2 c.in-Some.is c.in-OrderCancelRequest.is) c.delivering-in-OrderCancelRequest.ensures

pub returns-in-Heartbeat : goal.returns-in-Heartbeat
unfolding code35
returns-in-Heartbeat c = elim c.in-Heartbeat.is [
  | inl h ↦ turn_0 (session_of c.args.r) _ c.verdict_on.ensures c.in_default.is (as_type (session_of c.args.r) _ c.requires.2 c.in-Some.is h) c.expecting-in-Heartbeat.ensures
  | inr g ↦ elim g [
    | inl h ↦ turn_3 (session_of c.args.r) _ c.verdict_on.ensures c.in_default.is (as_type (session_of c.args.r) _ c.requires.2 c.in-Some.is h) c.expecting-in-Heartbeat.ensures
    | inr h ↦ never_AE (session_of c.args.r) _ (kind_is _ Kind.TradeCaptureReport (fix "AE") refl (msg_type c.args.body.now) c.requires.2 c.eq.ensures ∙ c.if-eq.false) (as_type (session_of c.args.r) _ c.requires.2 c.in-Some.is h)
  ]
]
