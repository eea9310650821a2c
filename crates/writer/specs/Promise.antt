-- What is promised of the writer call, as a C programmer relies on it. All of it is the record `Promise` at the end.
use Rattle.std.specs.Prelude.{ℕ, ◌≤◌, ◌<◌, ◌≡◌, ◌⊎◌, [], ◌∷◌, true, false, length, take, drop}
use Rattle.std.proofs.Math.Option.{none, some}
use Rattle.octets.specs.Bytes.{Bytes, has, Byted}
use Rattle.fields.specs.Field.{first_field}
use Rattle.table.specs.declared.MsgType.{MsgType}
use Rattle.table.specs.Dictionary.{code35, administrative}
use Rattle.message.specs.Message.{shown, written}
use Rattle.message.specs.ReadsBack.{ReadsBack}
use Rattle.writer.specs.Tags.{tags}
use Rattle.writer.specs.Call.{Values, value_in, refused8, admin, Written, Unfit, Short, Outcome, refusing, writing, Writes, numbers}

-- THE WRITER CALL
-- a call that answers a message of n bytes: they stand at the front of the buffer, behind them "the buffer keeps its old bytes", and they read back
pub record MessageOf (type : Bytes) (vs : Values) (text buf : Bytes) (after : Bytes) (n : ℕ) : Type 0 where
  pub message : MsgType
  pub administers : administrative message ≡ true
  pub coded : type ≡ code35 message
  pub front : take n after ≡ written message (value_in vs text)
  pub behind : drop n after ≡ drop n buf
  pub fits : n ≤ length buf
  pub reads_back : ReadsBack message (value_in vs text)
  -- each of the values that a call takes, also those that its message does not have
  pub values : (t : ℕ) → has tags t ≡ true → first_field t reads_back.frame.body ≡ shown (value_in vs text t)

-- the four ways in which a call ends; refusal 8 stands before 9
pub data Ends (type : Bytes) (vs : Values) (text buf : Bytes) : Outcome → Type 0 where
  another_type : admin type ≡ none → Ends type vs text buf (refusing Unfit buf)
  unfit_value : (m : MsgType) → admin type ≡ some m → refused8 m (value_in vs text) ≡ true → Ends type vs text buf (refusing Unfit buf)
  short_buffer : (m : MsgType) → admin type ≡ some m → refused8 m (value_in vs text) ≡ false → length buf < length (written m (value_in vs text)) → Ends type vs text buf (refusing Short buf)
  whole : (m : MsgType) → admin type ≡ some m → refused8 m (value_in vs text) ≡ false → length (written m (value_in vs text)) ≤ length buf → Ends type vs text buf (writing (written m (value_in vs text)) buf)

-- what a call answers and leaves: "if the writer call answers a length, that many bytes at the front of the buffer are one good frame with a clean
-- verdict, whose first fields are exactly the values given and no others, and nothing else of the buffer has changed; if it answers 8 or 9, nothing has
-- changed at all"
pub record CallPromise (type : Bytes) (vs : Values) (text buf : Bytes) (answer : Written) (after : Bytes) : Type 0 where
  pub ending : Ends type vs text buf (record { answer = answer; buffer = after })
  pub a_length : (n : ℕ) → numbers answer ≡ (none, n ∷ []) → MessageOf type vs text buf after n
  pub a_refusal : (k : ℕ) → (numbers answer).0 ≡ some k → ((k ≡ 8) ⊎ (k ≡ 9)) × (after ≡ buf)

-- two calls were given the same: the type, and for each tag the value
pub record SameGiven (type type' : Bytes) (vs vs' : Values) (text text' : Bytes) : Type 0 where
  pub types : type ≡ type'
  pub values : (t : ℕ) → has tags t ≡ true → value_in vs text t ≡ value_in vs' text' t

-- ALL OF IT. (Where bytes are read back they are below 256, as those of every slice are; a list may hold any number.)
pub record Promise : Type 0 where
  pub call : (type : Bytes) (vs : Values) (text buf : Bytes) (answer : Written) (after : Bytes) → Byted text → Writes type vs text buf answer after
      → CallPromise type vs text buf answer after
  -- two different sets of values never write the same bytes
  pub told_apart : (type type' : Bytes) (vs vs' : Values) (text text' buf buf' : Bytes) (answer answer' : Written) (after after' : Bytes) (n n' : ℕ) → Byted text → Byted text'
      → Writes type vs text buf answer after → numbers answer ≡ (none, n ∷ []) → Writes type' vs' text' buf' answer' after' → numbers answer' ≡ (none, n' ∷ [])
      → take n after ≡ take n' after' → SameGiven type type' vs vs' text text'
