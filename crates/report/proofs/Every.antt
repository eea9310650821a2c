-- Every field t of a row: the values that the row shows for t, in order.
use Prim.Native.Nat.{ℕ}
use mathlib.Core.Path.{◌≡◌, refl, sym, ap, ◌∙◌}
use mathlib.Core.List.{List, [], ◌∷◌, ◌++◌, append_assoc}
use mathlib.Core.Option.{Option, none, some}
use mathlib.Core.Bool.{Bool, true, false, cond}
use lib.Dec.{eqb}
use lib.ListN.{length, drop}
use lib.Seq.{drop-append_seam}
use borrow.Author.Tests.{eqb-true}
use Rattle.octets.specs.Bytes.{Bytes, fix, decimal}
use Rattle.message.specs.Message.{Field, ◌is◌, shown, row}
use Rattle.message.proofs.Cutting.{decimal-digits, same-decimal, starts_tag, with_part, parts_of}
use Rattle.message.proofs.Cutting.{Free, cut_free}
use Rattle.report.specs.Report.{every_of_parts, every_field}

abbrev pub and_later : ℕ → ℕ → Option Bytes → List Bytes → List Bytes
and_later t u none later = later
and_later t u (some v) later = cond (eqb t u) (v ∷ later) later

abbrev pub every_for : ℕ → List Field → List Bytes
every_for t [] = []
every_for t ((u is v) ∷ fs) = and_later t u (shown v) (every_for t fs)

every_shown : (t : ℕ) (fs : List Field) → every_of_parts (decimal t ++ fix "=") (parts_of fs) ≡ every_for t fs
every_shown t [] = refl
every_shown t ((u is v) ∷ fs) = go (shown v) (every_shown t fs)
  where
    behind_tag : (w : Bytes) → drop (length (decimal u ++ fix "=")) (decimal u ++ (61 ∷ w)) ≡ w
    behind_tag w = ap (drop (length (decimal u ++ fix "="))) (sym (append_assoc (decimal u) (fix "=") w)) ∙ drop-append_seam (decimal u ++ fix "=") w

    here : (w : Bytes) (b : Bool) → eqb t u ≡ b → every_of_parts (decimal t ++ fix "=") (parts_of fs) ≡ every_for t fs
        → cond b (drop (length (decimal t ++ fix "=")) (decimal u ++ (61 ∷ w)) ∷ every_of_parts (decimal t ++ fix "=") (parts_of fs)) (every_of_parts (decimal t ++ fix "=") (parts_of fs)) ≡ cond b (w ∷ every_for t fs) (every_for t fs)
    here w true e f = rw (f, eqb-true t u e) (ap (λ (x : Bytes). x ∷ every_for u fs) (behind_tag w))
    here w false e f = f

    go : (o : Option Bytes) → every_of_parts (decimal t ++ fix "=") (parts_of fs) ≡ every_for t fs
        → every_of_parts (decimal t ++ fix "=") (with_part u o (parts_of fs)) ≡ and_later t u o (every_for t fs)
    go none e = e
    go (some w) e = rw (starts_tag (decimal t) (decimal u) w (decimal-digits t) (decimal-digits u) ∙ same-decimal t u) (here w (eqb t u) refl e)

pub every_free : (t : ℕ) (fs : List Field) → Free fs → every_field t (row fs) ≡ every_for t fs
unfolding every_field
every_free t fs h = ap (every_of_parts (decimal t ++ fix "=")) (cut_free fs h) ∙ every_shown t fs
