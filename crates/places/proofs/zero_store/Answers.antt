-- `zero_store`: zeros, as many as there were bytes.
use Rattle.places.specs.Places.{zeroed}
use Rattle.places.proofs.zero_store.Goals as goal

pub returns : goal.returns
unfolding zeroed
returns c = c.fill.ensures.after (λ y e. e)
