-- `fixgw_body`: no body, or where it lies.
use Rattle.gateway.specs.Border.{no_frame}
use Rattle.gateway.proofs.Bodies.{body-room, body-found}
use Rattle.gateway.proofs.stream.fixgw_body.Goals as goal

pub returns-in_default : goal.returns-in_default
returns-in_default c = rw (c.refuse.ensures.0, c.refuse.ensures.1) (no_frame c.in_default.ensures.none)

pub overflow_sub-start : goal.overflow_sub-start
overflow_sub-start c = body-room c.in-Some.ensures.some

pub returns : goal.returns
returns c = body-found c.in-Some.ensures.some
