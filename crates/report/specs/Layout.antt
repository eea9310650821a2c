-- A REPORT'S VALUES AT THE C BORDER: 82 words and a text beside them, for the report call and for the reading back alike. "numbers as numbers, others as
-- bytes"
use Rattle.std.specs.Prelude.{ℕ, zero, suc, ◌+◌, ◌*◌, List, [], ◌∷◌, Bool, not, cond, eqb, get_or}
use Rattle.std.proofs.Math.Option.{Option, none, some}
use Rattle.octets.specs.Bytes.{Bytes}
use Rattle.message.specs.Message.{part}
use Rattle.amounts.specs.Amount.{Amount}
use Rattle.report.specs.Values.{Party, Values}

-- the k-th of eleven values has the words 3k, 3k + 1 and 3k + 2: {given, a, b}. Bytes lie in the text from a to b; an amount is a with b places
abbrev pub tags : List ℕ
tags = 571 ∷ 828 ∷ 60 ∷ 32 ∷ 31 ∷ 64 ∷ 574 ∷ 48 ∷ 22 ∷ 54 ∷ 1427 ∷ []

-- behind them the number of parties, and for the 448, 447 and 452 of each of eight the words {start, end}
abbrev pub word_count : ℕ
word_count = 82

module _ (words : List ℕ) (text : Bytes) where
  abbrev pub word : ℕ → ℕ
  word k = get_or words k 0

  abbrev pub given : ℕ → Bool
  given k = not (eqb (word (3 * k)) 0)

  abbrev pub text_at : ℕ → Bytes
  text_at k = part text (word (3 * k + 1)) (word (3 * k + 2))

  -- a required value that is not given is empty: refusal 8 stands for both
  abbrev pub needed : ℕ → Bytes
  needed k = cond (given k) (text_at k) []

  abbrev pub may_be : ℕ → Option Bytes
  may_be k = cond (given k) (some (text_at k)) none

  -- an amount that is not given has nine places, which no decimal has: refusal 8 again
  abbrev pub amount_at : ℕ → Amount
  amount_at k = cond (given k) (record { whole = word (3 * k + 1); places = word (3 * k + 2) }) (record { whole = 0; places = 9 })

  -- the part j of the party i
  abbrev pub party_part : ℕ → ℕ → Bytes
  party_part i j = part text (word (34 + 6 * i + 2 * j)) (word (35 + 6 * i + 2 * j))

  -- n parties from the i-th on; a ninth has no words, and is refusal 8 by the count of 453
  abbrev pub parties_from : ℕ → ℕ → List Party
  parties_from i zero = []
  parties_from i (suc n) = record { its448 = party_part i 0; its447 = party_part i 1; its452 = party_part i 2 } ∷ parties_from (i + 1) n

  unfoldable pub values_given : Values
  values_given =
      record {
        its571 = needed 0;
        its828 = needed 1;
        its60 = needed 2;
        its32 = amount_at 3;
        its31 = amount_at 4;
        its64 = may_be 5;
        its574 = needed 6;
        its48 = needed 7;
        its22 = needed 8;
        its54 = needed 9;
        its1427 = may_be 10;
        parties = parties_from 0 (word 33);
      }
