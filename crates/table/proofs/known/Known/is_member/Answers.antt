-- The bit of a message in a group.
use mathlib.Core.Path.{◌∙◌, ap}
use Prim.Native.Nat.{ℕ, ◌+◌}
use Rattle.table.specs.code.Held.{bit_of, entry_at}
use Rattle.table.proofs.Types.{number_is}
use Rattle.table.proofs.Places.{shared_at}
use Rattle.table.proofs.known.Known.is_member.Goals as goal

pub returns : goal.returns
returns c =
    c.bit.ensures
    ∙ ap (λ (k : ℕ). bit_of (entry_at c.args.self.place).marks (10 + k)) (number_is c.args.m)
    ∙ shared_at _ c.args.self.within c.args.m
