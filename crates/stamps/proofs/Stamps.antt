-- The times that our messages carry: each is what is written for the microsecond that it names, and what is written before the limit is one.
-- Assumes nothing.
use Prim.Native.Nat.{ℕ, ◌<◌}
use mathlib.Core.Path.{◌≡◌}
use mathlib.Core.Bool.{true}
use lib.Dec.{ltb}
use borrow.Author.Tests.{lt-ltb, ltb-true}
use Rattle.octets.specs.Bytes.{Bytes, same}
use Rattle.octets.proofs.Tests.{both}
use Rattle.kinds.proofs.Values.{same_true, same_refl}
use Rattle.calendar.specs.Time.{utc, limit, microseconds}
use Rattle.calendar.proofs.Times.{utc_names}
use Rattle.stamps.specs.code.Stamp.{is_stamp}

pub stamp_is : (v : Bytes) → is_stamp v ≡ true → (v ≡ utc (microseconds v)) × (microseconds v < limit)
unfolding is_stamp
stamp_is v h =
    let w = both (ltb (microseconds v) limit) (same v (utc (microseconds v))) h in
    (same_true v (utc (microseconds v)) w.1, ltb-true (microseconds v) limit w.0)

pub utc_stamp : (t : ℕ) → t < limit → is_stamp (utc t) ≡ true
unfolding is_stamp
utc_stamp t h = rw (utc_names t h, lt-ltb t limit h, same_refl (utc t))
