-- The promise: what a frame that is too high makes a session send, one request for each gap, and the gap around E.
-- Assumes nothing.
use Rattle.requests.specs.Promise.{Promise}
use Rattle.requests.proofs.RuleFour.{rule_4}
use Rattle.requests.proofs.Logons.{logons, logon_asks}
use Rattle.requests.proofs.Leaving.{leaves, resets}
use Rattle.requests.proofs.Resting.{rests, refused}
use Rattle.requests.proofs.OneRequest.{asked_once, one_request}
use Rattle.requests.proofs.AroundE.{around, new_around}
use Rattle.requests.proofs.Worked.{day}

pub promise : Promise
promise = record { rule_4 = rule_4; logons = logons; resets = resets; leaves = leaves; refused = refused; rests = rests; one_request = one_request; asked_once = asked_once; logon_asks = logon_asks; around = around; new_around = new_around; day = day }
