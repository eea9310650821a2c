-- A report "read back for our rehearsal desk": from a body its values, the verdict's finding, or refusal 10.
use Rattle.std.specs.Prelude.{ℕ, ◌+◌, ◌-◌, ◌/◌, ◌≡◌, List, [], ◌∷◌, ◌++◌, cond, length, take, replicate, Ok, Err}
use Rattle.std.proofs.Math.Option.{Option, none, some}
use Rattle.octets.specs.Bytes.{Bytes, fix, same, starts, decimal}
use Rattle.fields.specs.Field.{parts, first_field}
use Rattle.fields.specs.First.{first_place}
use Rattle.fields.specs.First.{Place}
use Rattle.std.specs.Prelude.{Some, None}
use Rattle.table.specs.declared.MsgType.{MsgType}
use Rattle.table.specs.Dictionary.{code35}
use Rattle.dictionary.specs.Verdict.{Verdict, Clean, found, verdict, msg_type}
use Rattle.dictionary.specs.declared.Unclean.TheVariants.{Found, NoBody}
use Rattle.amounts.specs.Amount.{amount_in}
use Rattle.report.specs.Layout.{word_count}

-- THE ANSWER, as a verdict: clean where the words are the values, else the finding, or refusal 10
abbrev pub Values : Verdict
Values = Clean

-- A clean body of another type is "MsgType outside": 11, tag 35
abbrev pub of_type : Option MsgType → Verdict
of_type none = found 11 35
of_type (some m) = cond (same (code35 m) (fix "AE")) Values (found 11 35)

abbrev pub by_verdict : Verdict → Option MsgType → Verdict
by_verdict (Ok _) m = of_type m
by_verdict (Err e) m = Err e

unfoldable pub read_back : Bytes → Verdict
read_back body = by_verdict (verdict body) (msg_type body)

-- this paper's number of the refusal, and the finding if there is one
abbrev pub numbers : Verdict → Option ℕ × List ℕ
numbers (Ok _) = (none, [])
numbers (Err (Found f)) = (none, f.reason ∷ f.tag ∷ [])
numbers (Err NoBody) = (some 10, [])

-- THE WORDS (specs/Layout.antt of report): where each value lies in the body, that of its first field; an amount by its two numbers
abbrev pub place_words : Place → List ℕ
place_words (Some s) = 1 ∷ s.start ∷ s.end ∷ []
place_words None = 0 ∷ 0 ∷ 0 ∷ []

abbrev pub amount_words : Option Bytes → List ℕ
amount_words none = 0 ∷ 0 ∷ 0 ∷ []
amount_words (some v) = 1 ∷ (amount_in v).whole ∷ (amount_in v).places ∷ []

-- every place of a tag, as the first is found
abbrev pub places_in : Bytes → ℕ → List Bytes → List (ℕ × ℕ)
places_in t at [] = []
places_in t at (p ∷ ps) =
    let later = places_in t (at + length p + 1) ps in cond (starts t p) ((at + length t, at + length p) ∷ later) later

unfoldable pub every_place : ℕ → Bytes → List (ℕ × ℕ)
every_place t body = places_in (decimal t ++ fix "=") 0 (parts body)

-- the i-th party has the i-th 448, 447 and 452; there is room for eight
abbrev pub party_words : List (ℕ × ℕ) → List (ℕ × ℕ) → List (ℕ × ℕ) → List ℕ
party_words [] l k = []
party_words (a ∷ j) [] k = []
party_words (a ∷ j) (b ∷ l) [] = []
party_words (a ∷ j) (b ∷ l) (c ∷ k) = a.0 ∷ a.1 ∷ b.0 ∷ b.1 ∷ c.0 ∷ c.1 ∷ party_words j l k

unfoldable pub party_words_in : Bytes → List ℕ
party_words_in body = party_words (take 8 (every_place 448 body)) (every_place 447 body) (every_place 452 body)

-- the number of parties, their words, and zeros where there are fewer than eight
abbrev pub counted : List ℕ → List ℕ
counted ws = length ws / 6 ∷ (ws ++ replicate (48 - length ws) 0)

unfoldable pub words_in : Bytes → List ℕ
words_in body =
    place_words (first_place 571 body) ++
    (place_words (first_place 828 body) ++
    (place_words (first_place 60 body) ++
    (amount_words (first_field 32 body) ++
    (amount_words (first_field 31 body) ++
    (place_words (first_place 64 body) ++
    (place_words (first_place 574 body) ++
    (place_words (first_place 48 body) ++
    (place_words (first_place 22 body) ++
    (place_words (first_place 54 body) ++
    (place_words (first_place 1427 body) ++
    counted (party_words_in body)))))))))))

-- without values the words are zero
abbrev pub words_by : Verdict → Bytes → List ℕ
words_by (Ok _) body = words_in body
words_by (Err e) body = replicate word_count 0

-- THE CALL: what is answered for a body, and all the words that are left
pub record Reads (body : Bytes) (r : Verdict) (words : List ℕ) : Type 0 where
  pub answer : r ≡ read_back body
  pub words_are : words ≡ words_by (read_back body) body
