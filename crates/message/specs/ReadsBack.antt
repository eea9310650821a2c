-- What is promised of a message that is written, by the writer call or as a reply (D4).
use Rattle.std.specs.Prelude.{ℕ, ◌≤◌, ◌≡◌, ◌∷◌, true, false, length}
use Rattle.std.proofs.Math.Option.{none, some}
use Rattle.octets.specs.Bytes.{has}
use Rattle.frame.specs.Frame.{fixt, Good}
use Rattle.fields.specs.Field.{first_field}
use Rattle.table.specs.declared.MsgType.{MsgType}
use Rattle.table.specs.Dictionary.{code35}
use Rattle.dictionary.specs.Verdict.{Clean, verdict}
use Rattle.message.specs.Message.{Value, shown, row, order, message, written}

-- "what is written is a good frame, has a clean verdict, and its first fields are the values given", each of them and no other
pub record ReadsBack (m : MsgType) (vs : ℕ → Value) : Type 0 where
  pub frame : Good fixt (written m vs)
  pub its_body : frame.body ≡ row (message m vs)
  pub clean : verdict (row (message m vs)) ≡ Clean
  pub type : first_field 35 (row (message m vs)) ≡ some (code35 m)
  pub values : (t : ℕ) → has (order m) t ≡ true → first_field t (row (message m vs)) ≡ shown (vs t)
  pub no_other : (t : ℕ) → has (35 ∷ order m) t ≡ false → first_field t (row (message m vs)) ≡ none
  pub longest : length (row (message m vs)) ≤ 490
