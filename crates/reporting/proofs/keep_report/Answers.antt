-- `keep_report`: the place that a new report takes is one of the store's, between the CompIDs of the record.
use native.Mathlib.Omega.{arith}
use lib.ListN.{take}
use Rattle.store.proofs.Standing.{takes_place}
use Rattle.reporting.proofs.Sends.{our_ids, kept_at}
use Rattle.reporting.proofs.keep_report.Goals as goal

pub put_place-requires : goal.put_place-requires
put_place-requires c =
    let a = c.args in
    let P = c.requires in
    (P.2, omega (arith, c.free_place-i.ensures, takes_place (take a.r.oursLen a.r.ours) (take a.r.peerLen a.r.peer) a.store.now), P.3)

pub returns : goal.returns
returns c = let a = c.args in kept_at a.r c.requires.0 a.m.now a.store.now c.free_place-i.ensures c.put_place.ensures

pub invariant_of-ids : goal.invariant_of-ids
invariant_of-ids c = let k = our_ids c.args.r c.requires.0 c.requires.1 in record { ours = k.0; peers = k.1 }
