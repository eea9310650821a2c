-- The first required tag that is missing, and what is said of it.
use Rattle.table.specs.declared.known.Known.{Known}
use Rattle.std.specs.Prelude as std
use Prim.Native.Nat.{ℕ}
use mathlib.Core.Path.{◌≡◌, refl, ap, sym, ◌∙◌}
use mathlib.Core.List.{List, [], ◌∷◌}
use mathlib.Core.Bool.{Bool, true, false, cond, not, ◌&&◌}
use mathlib.Core.Option.{Option, none, some}
use Rattle.octets.specs.Bytes.{has}
use Rattle.table.specs.Dictionary.{Row}
use Rattle.table.specs.code.Held.{unmet}
use Rattle.table.specs.code.Known.{Lacking}
use Rattle.dictionary.specs.Verdict.{Says, Nothing, reason◌tag◌, missing}
use Rattle.dictionary.specs.code.Held.{missing_at, Missing}

said_of : Option ℕ → Says
said_of none = Nothing
said_of (some t) = reason 1 tag t

by_unmet : (rows : List Row) (met : List ℕ) → missing rows met ≡ said_of (unmet rows met)
unfolding said_of
by_unmet [] met = refl
by_unmet (r ∷ rs) met = go (r.required && not (has met r.tag)) (by_unmet rs met)
  where
    go : (b : Bool) → missing rs met ≡ said_of (unmet rs met)
        → cond b (reason 1 tag r.tag) (missing rs met) ≡ said_of (cond b (some r.tag) (unmet rs met))
    go true h = refl
    go false h = h

-- what is said of the tag that was found
pub lacks : {marks : List Bool} {rows : List Row} (r : std.Option Known) → Lacking marks rows r → Missing marks rows (missing_at r)
unfolding said_of
lacks {rows = rows} std.None L = record { is = λ met M. sym (by_unmet rows met ∙ ap said_of (L.is met M)) }
lacks {rows = rows} (std.Some k) L = record { is = λ met M. sym (by_unmet rows met ∙ ap said_of (L.is met M)) }
