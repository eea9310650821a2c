-- `save_id`: the length, and the bytes behind it.
use borrow.Author.Rules.{rules}
use Rattle.border.proofs.Keeping.{id_put}
use Rattle.border.proofs.record.save_id.Goals as goal

pub returns : goal.returns
returns c = let a = c.args in id_put a.half.now a.n a.c.now c.requires.0 (search rules) c.copy_from_slice.ensures.after
