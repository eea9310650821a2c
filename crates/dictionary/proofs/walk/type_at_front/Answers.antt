-- The type at the front of a body: a value of one byte, of two, or a longer one.
use native.Mathlib.Omega.{arith}
use mathlib.Core.Path.{ap, ◌∙◌}
use Rattle.table.specs.Dictionary.{named}
use Rattle.dictionary.proofs.Types.{is_body_lem, body_longer, front_one, front_two, front_long}
use Rattle.dictionary.proofs.walk.type_at_front.Goals as goal

pub bounds-b-4 : goal.bounds-b-4
bounds-b-4 c = omega (arith, (is_body_lem _ c.requires).least)

pub bounds-b-3 : goal.bounds-b-3
bounds-b-3 c = omega (arith, (is_body_lem _ c.requires).least)

pub returns-then-b-eq1 : goal.returns-then-b-eq1
returns-then-b-eq1 c = c.of_one.ensures ∙ ap named (front_one _ c.requires c.if-b-eq1.true)

pub bounds-b-5 : goal.bounds-b-5
bounds-b-5 c = omega (arith, body_longer _ c.requires c.if-b-eq1.false)

pub bounds-b-3-then-b-eq1-2 : goal.bounds-b-3-then-b-eq1-2
bounds-b-3-then-b-eq1-2 c = omega (arith, (is_body_lem _ c.requires).least)

pub bounds-b-4-then-b-eq1-2 : goal.bounds-b-4-then-b-eq1-2
bounds-b-4-then-b-eq1-2 c = omega (arith, (is_body_lem _ c.requires).least)

pub returns-then-b-eq1-2 : goal.returns-then-b-eq1-2
returns-then-b-eq1-2 c = c.of_two.ensures ∙ ap named (front_two _ c.requires c.if-b-eq1.false c.if-b-eq1-2.true)

pub returns : goal.returns
returns c = ap named (front_long _ c.requires c.if-b-eq1.false c.if-b-eq1-2.false)
