-- A CompID has at most 11 bytes, and two have at most 22.
use Prim.Native.Nat.{◌+◌, ◌≤◌}
use native.Mathlib.Omega.{arith}
use mathlib.Core.Path.{◌≡◌}
use mathlib.Core.Bool.{true}
use lib.ListN.{length}
use Rattle.octets.specs.Bytes.{Bytes}
use Rattle.message.specs.Unfit.{comp_id}
use Rattle.report.proofs.ReadBack.{comp_long}

pub short : (id : Bytes) → comp_id id ≡ true → length id ≤ 11
short id h = (comp_long id h).1

pub both : (us them : Bytes) → comp_id us ≡ true → comp_id them ≡ true → length us + length them ≤ 22
both us them h k = omega (arith, short us h, short them k)
