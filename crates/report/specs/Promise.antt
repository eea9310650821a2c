-- WHAT IS PROMISED OF A REPORT that our call can write (`sendable`), for any CompIDs of ours and of a peer: document 02's "written, and read back", and
-- of a report that is sent again (Q-4).
use Rattle.std.specs.Prelude.{ℕ, ◌≤◌, ◌<◌, ◌≡◌, List, ◌++◌, [], ◌∷◌, true, length}
use Rattle.std.proofs.Math.Option.{some}
use Rattle.octets.specs.Bytes.{Bytes, fix, decimal, Byted}
use Rattle.frame.specs.Frame.{fixt, Good}
use Rattle.dictionary.specs.Verdict.{Clean, verdict}
use Rattle.fields.specs.Field.{first_field}
use Rattle.calendar.specs.Time.{utc, limit}
use Rattle.message.specs.Message.{absent, number, bytes, Field, ◌is◌}
use Rattle.message.specs.Whole.{body_in}
use Rattle.report.specs.Values.{own}
use Rattle.report.specs.Report.{Report, sent, again, sendable, values_in, report_in, read}

-- the values of fields are of bytes, as those of every text that a host lends
abbrev pub OfBytes : List Field → Type 0
OfBytes [] = Unit {0}
OfBytes ((t is absent) ∷ fs) = OfBytes fs
OfBytes ((t is number n) ∷ fs) = OfBytes fs
OfBytes ((t is bytes v) ∷ fs) = Byted v × OfBytes fs

-- bytes m are one good frame, with this body
pub record Frame (m body : Bytes) : Type 0 where
  pub frame : Good fixt m
  pub its_body : frame.body ≡ body

-- "Trade Capture Report .. must be written, and read back"
pub record Written (us them : Bytes) (r : Report) : Type 0 where
  -- a good frame ..
  pub good : Byted us → Byted them → OfBytes (own r.values) → Frame (sent us them r) (body_in (sent us them r))
  -- .. whose last byte is `|` whatever its values are, ..
  pub bar : (m : Bytes) × (sent us them r ≡ m ++ fix "|")
  -- .. "and is at most 512 bytes", ..
  pub short : length (sent us them r) ≤ 512
  -- .. with a clean verdict
  pub clean : verdict (body_in (sent us them r)) ≡ Clean
  -- from us to the peer, under its number, at its time: "A report from the host takes the next number out"
  pub sender : first_field 49 (body_in (sent us them r)) ≡ some us
  pub target : first_field 56 (body_in (sent us them r)) ≡ some them
  pub numbered : first_field 34 (body_in (sent us them r)) ≡ some (decimal r.number)
  pub timed : first_field 52 (body_in (sent us them r)) ≡ some (utc r.time)
  -- "reading gives back both": all the values, each amount as its whole number and its places, and with them the number and the time, ..
  pub reads : report_in (body_in (sent us them r)) ≡ r
  -- .. by the strict reader too
  pub back : read us them (sent us them r) ≡ some r

-- Q-4: "each kept report goes out again under its old number with 43=Y, a new 52 and its first 52 as 122", and with its values
pub record Repeated (us them : Bytes) (r : Report) (t : ℕ) : Type 0 where
  pub sender : first_field 49 (body_in (again us them r t)) ≡ some us
  pub target : first_field 56 (body_in (again us them r t)) ≡ some them
  pub number : first_field 34 (body_in (again us them r t)) ≡ some (decimal r.number)
  pub duplicate : first_field 43 (body_in (again us them r t)) ≡ some (fix "Y")
  pub new_52 : first_field 52 (body_in (again us them r t)) ≡ some (utc t)
  pub first_52 : first_field 122 (body_in (again us them r t)) ≡ some (utc r.time)
  pub reads : values_in (body_in (again us them r t)) ≡ r.values
  -- a good frame with a clean verdict, and "refusal 6 now reads 600 bytes" is enough for it
  pub good : Byted us → Byted them → OfBytes (own r.values) → Frame (again us them r t) (body_in (again us them r t))
  pub short : length (again us them r t) ≤ 600
  pub clean : t < limit → verdict (body_in (again us them r t)) ≡ Clean

pub record Promise : Type 0 where
  pub written : (us them : Bytes) (r : Report) → sendable us them r ≡ true → Written us them r
  pub repeated : (us them : Bytes) (r : Report) → sendable us them r ≡ true → (t : ℕ) → Repeated us them r t
  -- Q-4: "one AE frame as our report call writes it": the strict reader reads nothing but what our call writes, byte for byte
  pub only : (us them m : Bytes) (r : Report) → read us them m ≡ some r → (sendable us them r ≡ true) × (m ≡ sent us them r)
  -- two different reports never have the same bytes, whoever sends them
  pub one : (us them us' them' : Bytes) (r r' : Report) → sendable us them r ≡ true → sendable us' them' r' ≡ true → sent us them r ≡ sent us' them' r' → r ≡ r'
