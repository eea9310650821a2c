-- `put_body`: five pieces one behind the other.
use native.Mathlib.Omega.{arith}
use Prim.Native.Nat.{◌+◌, ◌-◌}
use Rattle.octets.proofs.Lists.{part_length}
use Rattle.message.proofs.Writes.{chain}
use Rattle.possdup.proofs.put_body.Goals as goal

pub returns : goal.returns
returns c =
    let a = c.args in
    let p1 = c.put_bytes-a.ensures in
    let p2 = c.put_bytes-b.ensures in
    let p3 = c.put_bytes-c.ensures in
    let p4 = c.put_bytes-d.ensures in
    let p5 = c.put_bytes.ensures in
    record { bytes = chain p1 (chain p2 (chain p3 (chain p4 p5))); room = omega (arith, p1.next, p2.next, p3.next, p4.next, p5.next, c.requires, part_length a.place.now 17 (a.at - 17) (omega (arith, c.requires)), part_length a.place.now (a.at + 3) (a.end - (a.at + 3)) (omega (arith, c.requires))) }
