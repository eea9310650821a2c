-- What a function that writes leaves: its bytes at a place of the buffer, and all else as it was.
use Rattle.std.specs.Prelude.{ℕ, ◌+◌, ◌≡◌, length}
use Rattle.std.proofs.lemmas.List.Edits.{sets}
use Rattle.octets.specs.Bytes.{Bytes}

-- the bytes xs stand in the buffer from `at` on, `to` is the place behind them, and all else is as it was
pub record Wrote (d d' : Bytes) (at to : ℕ) (xs : Bytes) : Type 0 where
  pub next : to ≡ at + length xs
  pub bytes : d' ≡ sets d at xs
