-- `new`: two CompIDs that are right, or the refused session.
use Rattle.session.proofs.Beginning.{comp_length, new_done, no_ours, no_peer}
use Rattle.session.proofs.new.Goals as goal
use Rattle.session.proofs.new.Goals.{else-is_comp_id-via-then-is_comp_id+else-is_comp_id-2, else-is_comp_id-via-else-is_comp_id}

pub begun-requires : goal.begun-requires
begun-requires c =
    (comp_length c.args.ours.now c.is_comp_id.ensures c.if-is_comp_id.true, comp_length c.args.peer.now c.is_comp_id-then-is_comp_id.ensures c.if-is_comp_id-2.true)

pub returns-then-is_comp_id-2 : goal.returns-then-is_comp_id-2
returns-then-is_comp_id-2 c =
    new_done c.args.ours.now c.args.peer.now c.is_comp_id.ensures c.if-is_comp_id.true c.is_comp_id-then-is_comp_id.ensures c.if-is_comp_id-2.true c.begun.ensures c.unchanged.ensures

pub returns : goal.returns
returns c =
    elim c.else-is_comp_id.branch [
      | else-is_comp_id-via-then-is_comp_id+else-is_comp_id-2 w ↦ no_peer c.args.ours.now c.args.peer.now c.is_comp_id.ensures w.if-is_comp_id.true w.is_comp_id-then-is_comp_id.ensures w.if-is_comp_id-2.false c.begun-2.ensures c.unchanged-2.ensures
      | else-is_comp_id-via-else-is_comp_id w ↦ no_ours c.args.ours.now c.args.peer.now c.is_comp_id.ensures w.if-is_comp_id.false c.begun-2.ensures c.unchanged-2.ensures
    ]
