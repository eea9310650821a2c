-- `peeked` of the reports: their CompIDs have at most 22 bytes together.
use Rattle.std.proofs.Common.{arith}
use Rattle.kept.proofs.Few.{both}
use Rattle.store.proofs.Reports.peeked.Goals as goal

pub peeked-requires : goal.peeked-requires
peeked-requires c =
    let s = c.args.self.now in
    (s.whole, omega (arith, c.len.ensures, both s.ids.us.now s.ids.them.now s.ids.ours s.ids.peers))
