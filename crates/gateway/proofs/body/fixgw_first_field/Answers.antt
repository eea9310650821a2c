-- `fixgw_first_field`: no body, or the case of the place, in words.
use mathlib.Core.Path.{sym, ◌∙◌}
use Rattle.gateway.proofs.Readings.{first_none, first_is}
use Rattle.gateway.proofs.body.fixgw_first_field.Goals as goal

pub returns-then-not-is_body : goal.returns-then-not-is_body
returns-then-not-is_body c = let a = c.args in rw (c.refuse.ensures.0, c.refuse.ensures.1) (first_none a.body.now a.tag (sym c.is_body.ensures ∙ c.if-not-is_body.true))

pub returns-in-Some : goal.returns-in-Some
returns-in-Some c = first_is _ _ (sym c.is_body.ensures ∙ c.if-not-is_body.false) c.first_field.ensures c.in-Some.is

pub returns-in-None : goal.returns-in-None
returns-in-None c = first_is _ _ (sym c.is_body.ensures ∙ c.if-not-is_body.false) c.first_field.ensures c.in-None.is
