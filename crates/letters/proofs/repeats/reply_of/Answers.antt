-- `reply_of`: by the letter, what it repeats.
use Rattle.letters.proofs.Replying.{or_zero, echo_is, logon_is, ask_is, reject_is, reject_type_is, logout_is, test_is}
use Rattle.letters.proofs.repeats.reply_of.Goals as goal

pub returns-in-Echo : goal.returns-in-Echo
returns-in-Echo c n = rw c.in-Echo.is (echo_is c.args.body.now n _ c.value_of.ensures)

pub returns-in-Logon : goal.returns-in-Logon
returns-in-Logon c n = rw c.in-Logon.is (logon_is c.args.body.now n c.number.result c.in-Logon.anew c.number.ensures.is)

pub returns-in-Ask : goal.returns-in-Ask
returns-in-Ask c n = rw c.in-Ask.is (ask_is c.args.body.now n c.in-Ask.from)

pub returns-in-Reject : goal.returns-in-Reject
returns-in-Reject c n =
    let l = c.in-Reject in
    rw l.is (reject_is c.args.body.now n l.reason l.tag c.unwrap_or.result c.code_in.result (or_zero _ c.number_in.ensures.is c.unwrap_or.ensures) c.code_in.ensures)

pub returns-in-RejectType : goal.returns-in-RejectType
returns-in-RejectType c n =
    rw c.in-RejectType.is (reject_type_is c.args.body.now n _ (or_zero _ c.number_in-in-RejectType.ensures.is c.unwrap_or-in-RejectType.ensures))

pub returns-in-Logout : goal.returns-in-Logout
returns-in-Logout c n = rw c.in-Logout.is (logout_is c.args.body.now n c.in-Logout.why)

pub returns-in-Test : goal.returns-in-Test
returns-in-Test c n = rw c.in-Test.is (test_is n c.args.body)
