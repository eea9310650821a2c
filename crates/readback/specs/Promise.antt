-- What is promised of the reading back, in document 02's words. Proved once, in proofs/Promise.antt.
use Rattle.std.specs.Prelude.{ℕ, ◌≤◌, ◌<◌, ◌≡◌, List, [], ◌∷◌, ◌⊎◌, true, cond, eqb, length}
use Rattle.std.proofs.Math.Option.{none, some}
use Rattle.octets.specs.Bytes.{Bytes, has}
use Rattle.fields.specs.Field.{parts, first_field, is_body}
use Rattle.table.specs.declared.MsgType.TheVariants.{TradeCaptureReport}
use Rattle.dictionary.specs.Verdict.{Verdict, Clean, found, verdict, msg_type}
use Rattle.dictionary.specs.Groups.{fields_among, Counted}
use Rattle.calendar.specs.Time.{limit}
use Rattle.message.specs.Whole.{body_in}
use Rattle.amounts.specs.Amount.{amount_text}
use Rattle.report.specs.Values.{Party, takes}
use Rattle.report.specs.Report.{Report, sent, again, sendable, values_in}
use Rattle.report.specs.Layout.{tags, values_given}
use Rattle.readback.specs.Back.{Values, read_back, words_in, numbers}

-- "Group 453, 1 to 8 times: 448 Y, 447 {D} Y, 452 .. Y"; "That first member starts each instance, the others follow in any order": fields of these
-- three tags, one behind the other, and the parties that they are
pub data Parties : List (ℕ × Bytes) → List Party → Type 0 where
  no_party : Parties [] []
  ordered : {a b c : Bytes} {fs : List (ℕ × Bytes)} {ps : List Party} → Parties fs ps
      → Parties ((448, a) ∷ (447, b) ∷ (452, c) ∷ fs) (record { its448 = a; its447 = b; its452 = c } ∷ ps)
  turned : {a b c : Bytes} {fs : List (ℕ × Bytes)} {ps : List Party} → Parties fs ps
      → Parties ((448, a) ∷ (452, c) ∷ (447, b) ∷ fs) (record { its448 = a; its447 = b; its452 = c } ∷ ps)

-- a body whose values are answered: a clean report, and the words beside the body give the values that it names
pub record Given (body : Bytes) : Type 0 where
  pub clean : verdict body ≡ Clean
  pub report : msg_type body ≡ some TradeCaptureReport
  pub values : values_given (words_in body) body ≡ values_in body
  -- each field outside the parties is once in a clean report, so that the first is the only one
  pub only : (t : ℕ) → has tags t ≡ true → length (fields_among (eqb t) (parts body)) ≤ 1
  -- its parties are all of its fields 448, 447 and 452, each in its own party, and as many as its one 453 says, none where there is no 453
  pub parties : Parties (fields_among (has (448 ∷ 447 ∷ 452 ∷ [])) (parts body)) (values_in body).parties
  pub counted : Counted 8 (fields_among (eqb 453) (parts body)) (length (values_in body).parties)
  -- "reading gives back both": the whole number and the places of 31, and of 32, tell its text
  pub price : first_field 31 body ≡ some (amount_text (values_in body).its31)
  pub quantity : first_field 32 body ≡ some (amount_text (values_in body).its32)
  -- "a value to write that the dictionary would reject, a required one absent": there is none, so that what is read back can be written again
  pub reportable : takes (values_in body) ≡ true

-- a clean body of another type
pub record OtherType (body : Bytes) (r t : ℕ) : Type 0 where
  pub clean : verdict body ≡ Clean
  pub other : msg_type body ≡ some TradeCaptureReport → ⊥
  pub its_reason : r ≡ 11
  pub its_tag : t ≡ 35

-- "written, and read back": of what our report call wrote, all its values
pub record ReadsBack (body : Bytes) (r : Report) : Type 0 where
  pub answered : read_back body ≡ Values
  pub its_values : values_given (words_in body) body ≡ r.values

pub record Promise : Type 0 where
  -- the values are answered of every clean report, ..
  pub answers : (body : Bytes) → verdict body ≡ Clean → msg_type body ≡ some TradeCaptureReport → read_back body ≡ Values
  -- .. and of nothing else
  pub given : (body : Bytes) → read_back body ≡ Values → Given body
  pub back : (us them : Bytes) (r : Report) → sendable us them r ≡ true → ReadsBack (body_in (sent us them r)) r
  -- and of what goes out again (Q-4), the same
  pub back_again : (us them : Bytes) (r : Report) → sendable us them r ≡ true → (t : ℕ) → t < limit → ReadsBack (body_in (again us them r t)) r
  -- a finding is the verdict's, or that a clean body is of another type: 11, tag 35
  pub finding : (body : Bytes) (r t : ℕ) → read_back body ≡ found r t → (verdict body ≡ found r t) ⊎ OtherType body r t
  -- refusal 10 where the verdict has it, for bytes that are no body, there, and only there
  pub refusal_10 : (body : Bytes) → (numbers (read_back body)).0 ≡ cond (is_body body) none (some 10)
  -- "a definition gives this paper's number and values for each case of the enum": they tell the cases apart
  pub told_apart : (r s : Verdict) → numbers r ≡ numbers s → r ≡ s
