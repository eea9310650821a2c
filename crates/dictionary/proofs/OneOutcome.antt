-- One outcome of each call that the crate hands out: its contract is an equation, so any two answers that it allows are equal.
use mathlib.Core.Path.{◌≡◌, sym, ◌∙◌}
use Rattle.octets.specs.Bytes.{Bytes}
use Rattle.dictionary.specs.Verdict.{Verdict, verdict}

-- `verdict_on`
pub verdict_one : (body : Bytes) {r r' : Verdict} → r ≡ verdict body → r' ≡ verdict body → r ≡ r'
verdict_one body p q = p ∙ sym q
