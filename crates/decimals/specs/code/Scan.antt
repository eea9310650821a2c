-- How the code reads a decimal. Nothing here states document 02.
use Rattle.std.specs.Prelude.{ℕ, ◌+◌, ◌-◌, ◌*◌, ◌<◌, ◌≤◌, ◌≡◌, true, length, drop, Result}
use Rattle.octets.specs.Bytes.{Bytes, value_from}
use Rattle.decimals.specs.Decimal.{leading, trailing, plain, decimal_of}
use Rattle.decimals.specs.declared.Decimal.{Decimal}
use Rattle.fault.specs.declared.Fault.{Fault}
use Rattle.decimals.specs.declared.Run.{Run}

-- w is the number x, or both are out of range
pub record Capped (w x : ℕ) : Type 0 where
  pub small : x < 1_000_000_000_000_000 → w ≡ x
  pub large : 1_000_000_000_000_000 ≤ x → 1_000_000_000_000_000 ≤ w
  pub bound : w < 10_000_000_000_000_000

pub record More (w c r : ℕ) : Type 0 where
  pub is : (x : ℕ) → Capped w x → Capped r (x * 10 + (c - 48))
  pub bound : r < 10_000_000_000_000_000

pub record Ran (v : Bytes) (from before : ℕ) (r : Run) : Type 0 where
  pub end : r.end ≡ from + length (leading (drop from v))
  pub within : r.end ≤ length v
  pub behind : from ≤ r.end
  pub rest : drop r.end v ≡ trailing (drop from v)
  pub worth : (x : ℕ) → Capped before x → Capped r.value (value_from x (leading (drop from v)))
  pub bound : r.value < 10_000_000_000_000_000

-- the digits that v begins with end at k, and are a plain number
pub record Leads (v : Bytes) (k w : ℕ) : Type 0 where
  pub end : k ≡ length (leading v)
  pub within : k ≤ length v
  pub rest : drop k v ≡ trailing v
  pub plainly : plain (leading v) ≡ true
  pub worth : Capped w (value_from 0 (leading v))

pub record Placed (v : Bytes) (r : Result Decimal Fault) : Type 0 where
  pub is : r ≡ decimal_of v
