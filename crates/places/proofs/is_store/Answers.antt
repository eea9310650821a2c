-- `is_store`: the length, compared.
use borrow.Author.Rules.{rules}
use Rattle.places.specs.Places.{is_store}
use Rattle.places.proofs.is_store.Goals as goal

pub returns : goal.returns
unfolding is_store
returns c = search rules
