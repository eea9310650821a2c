-- The promise on what a place holds (specs/Kept.antt), put together.
-- Assumes nothing.
use Rattle.kept.specs.Kept.{Promise}
use Rattle.kept.proofs.Holding.{held_is, is_held}

pub promise : Promise
promise = record { holding = λ us them place l. record { is = λ r. held_is us them place r l; only = is_held us them place } }
