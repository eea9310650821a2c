-- `are_zero`: the fold is whether all are zero.
use Rattle.std.proofs.Common.{ℕ, Bool, ◌&&◌, true, eqb, rules, ◌∙◌}
use Rattle.std.proofs.lemmas.Iterator.{YieldsList-from_slice}
use Rattle.std.proofs.lemmas.Iterator.Consumers.{fold_from_yields_List}
use Rattle.border.proofs.Records.{fold_all}
use Rattle.border.proofs.record.are_zero.Goals as goal

pub returns : goal.returns
returns c =
    let w = c.args.words.now in
    fold_from_yields_List _ (λ (a : Bool) (x : ℕ). a && eqb x 0) true c.fold.result c.fold.ensures.ran (YieldsList-from_slice w c.iter.ensures.rest) (λ a x b q k. search rules) ∙ fold_all w true
