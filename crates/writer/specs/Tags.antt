-- The tags for which the writer call takes values: "header without 97 and 1128", and the fields of the seven messages.
use Rattle.std.specs.Prelude.{ℕ, List, [], ◌∷◌, Bool, true, false}
use Rattle.kinds.specs.Kind.{Kind, text, number◌to◌, Y/N, time, day, decimal, among, kind_of}

unfoldable pub tags : List ℕ
tags =
    49 ∷ 56 ∷ 34 ∷ 43 ∷ 52 ∷ 122 ∷ 112 ∷ 7 ∷ 16 ∷ 45 ∷ 371 ∷ 372 ∷ 373 ∷ 1409 ∷ 58 ∷ 123 ∷ 36 ∷ 98 ∷ 108 ∷ 1137 ∷ 141 ∷ []

-- "numbers as numbers, others as bytes"
abbrev pub is_numeric : Kind → Bool
is_numeric (text n) = false
is_numeric (number a to b) = true
is_numeric Y/N = false
is_numeric time = false
is_numeric day = false
is_numeric decimal = false
is_numeric (among l) = false

unfoldable pub numeric : ℕ → Bool
numeric t = is_numeric (kind_of t)
