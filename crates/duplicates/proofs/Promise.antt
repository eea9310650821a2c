-- The promise: what a frame that is too low comes to, by its two times.
-- Assumes nothing.
use Rattle.calendar.proofs.Promise as Times
use Rattle.duplicates.specs.Promise.{Promise}
use Rattle.duplicates.proofs.RuleFive.{rule_5}
use Rattle.duplicates.proofs.Worked.{day}

pub promise : Promise
promise = record { rule_5 = rule_5; order = Times.promise; day = day }
