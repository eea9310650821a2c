-- THE WRITER'S VALUES at the C border: 63 words, three for each of the writer's tags, in its order.
use Rattle.std.specs.Prelude.{ℕ, zero, suc, ◌+◌, ◌*◌, List, [], ◌∷◌, ◌++◌, map, cond, eqb, get_or, Option, Some, None}
use Rattle.writer.specs.declared.Given.{Given}
use Rattle.writer.specs.Call.{Values}

-- the numbers below n
abbrev pub up_to : ℕ → List ℕ
up_to zero = []
up_to (suc n) = up_to n ++ (n ∷ [])

-- the k-th tag has the words 3k, 3k + 1 and 3k + 2: {given, a, b}. A number is a; bytes lie in the text from a to b
abbrev pub value_at : List ℕ → ℕ → Option Given
value_at words k = cond (eqb (get_or words (3 * k) 0) 0) None (Some (record { a = get_or words (3 * k + 1) 0; b = get_or words (3 * k + 2) 0 }))

unfoldable pub values_of : List ℕ → Values
values_of words = map (value_at words) (up_to 21)
