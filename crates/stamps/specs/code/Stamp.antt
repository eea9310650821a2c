-- A time as our messages carry it in 52: the bytes that some call's time before the limit gives.
use Rattle.std.specs.Prelude.{Bool, ◌&&◌, ltb}
use Rattle.octets.specs.Bytes.{Bytes, same}
use Rattle.calendar.specs.Time.{utc, limit, microseconds}

-- "A reply's 52 has six decimals."; refusal 7 keeps a time at or past the limit from being written
unfoldable pub is_stamp : Bytes → Bool
is_stamp v = ltb (microseconds v) limit && same v (utc (microseconds v))
