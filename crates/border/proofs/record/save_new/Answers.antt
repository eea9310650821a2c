-- `save_new`: the CompIDs' bytes; zeros, the version, the state.
use mathlib.Core.Path.{sym, ap, ap₂, ◌∙◌}
use mathlib.Core.List.{◌++◌}
use lib.ListN.{length}
use Rattle.octets.specs.Bytes.{Bytes}
use Rattle.border.proofs.Records.{fresh_length, fresh_words}
use Rattle.border.proofs.record.save_new.Goals as goal

pub save-requires : goal.save-requires
save-requires c = fresh_length c.args.words.now _ c.requires.0 (c.fill.ensures.after (λ y e. e))

pub shape_of-words : goal.shape_of-words
shape_of-words c =
    ap length (fresh_words c.args.words.now _ c.requires.0 (c.fill.ensures.after (λ y e. e)) c.args.r c.save.ensures) ∙ sym c.requires.0

pub returns : goal.returns
returns c =
    (ap₂ (λ (x y : Bytes). x ++ y) c.save_id.ensures c.save_id-2.ensures, fresh_words c.args.words.now _ c.requires.0 (c.fill.ensures.after (λ y e. e)) c.args.r c.save.ensures)
