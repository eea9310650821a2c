-- The type by the place of the first field 35.
use Prim.Native.Nat.{◌-◌}
use mathlib.Core.Path.{ap, ◌∙◌}
use lib.Dec.{eqb}
use lib.Pointwise.{pointwise}
use lib.ListN.{take, drop}
use Rattle.octets.specs.Bytes.{Bytes, fix}
use Rattle.kinds.proofs.Values.{same_by}
use Rattle.readback.proofs.Answers.{type_absent, type_there}
use Rattle.readback.proofs.is_report.Goals as goal

pub returns-in_default : goal.returns-in_default
returns-in_default c = type_absent _ c.type_field.ensures c.in_default.is

pub returns : goal.returns
returns c =
    let v = c.in-Some.field-0 in
    let part = take (v.end - v.start) (drop v.start c.args.body.now) in
    type_there _ c.type_field.ensures c.in-Some.is (c.eq.ensures ∙ ap (λ (l : Bytes). pointwise eqb part l) c.as_slice.ensures ∙ same_by part (fix "AE"))
