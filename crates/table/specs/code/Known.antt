-- What a look-up finds, and what is missing, by the places of tags.
use Rattle.std.specs.Prelude.{ℕ, ◌≡◌, List, Bool, false, Option, Some, None}
use Rattle.std.proofs.Math.Option as maybe
use Rattle.octets.specs.Bytes.{has}
use Rattle.table.specs.Dictionary.{Row}
use Rattle.table.specs.code.Held.{tags, tag_at, Marked, unmet}
use Rattle.table.specs.declared.known.Known.{Known}

-- the tag's place, or none where the dictionary doesn't have it
abbrev pub LookedUp : ℕ → Option Known → Type 0
LookedUp t None = has tags t ≡ false
LookedUp t (Some k) = tag_at k.place ≡ t

abbrev pub tag_found : Option Known → maybe.Option ℕ
tag_found None = maybe.none
tag_found (Some k) = maybe.some (tag_at k.place)

-- the first required tag of some rows that is not marked
pub record Lacking (marks : List Bool) (rows : List Row) (r : Option Known) : Type 0 where
  pub is : (met : List ℕ) → Marked marks met → unmet rows met ≡ tag_found r
