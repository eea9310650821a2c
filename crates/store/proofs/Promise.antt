-- The promise on a store (specs/Promise.antt), put together.
-- Assumes nothing.
use Rattle.store.specs.Promise.{Promise}
use Rattle.store.proofs.Keeping.{keeps}
use Rattle.store.proofs.FromZero.{zeroed_none, last_kept}
use Rattle.store.proofs.Plan.{planned}
use Rattle.store.proofs.Cases.{cases}

pub promise : Promise
promise = record { keeps = keeps; zeroed_none = zeroed_none; last = last_kept; planned = planned; cases = cases }
