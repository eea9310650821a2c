-- The report message (AE): its bytes, the reading back, and what our report call writes.
use Rattle.std.specs.Prelude.{ℕ, List, [], ◌∷◌, ◌++◌, Bool, cond, ◌&&◌, ltb, leb, length, drop}
use Rattle.std.proofs.Math.Option.{Option, none, some}
use Rattle.octets.specs.Bytes.{Bytes, fix, same, starts, within, value, decimal}
use Rattle.fields.specs.Field.{parts, first_field}
use Rattle.calendar.specs.Time.{utc, limit, microseconds}
use Rattle.message.specs.Message.{Value, absent, number, bytes, Field, ◌is◌, row, framed}
use Rattle.message.specs.Unfit.{comp_id}
use Rattle.message.specs.Whole.{body_in}
use Rattle.amounts.specs.Amount.{amount_in}
use Rattle.report.specs.Values.{Party, Values, own, takes}

-- a report: its values, its number, the time of the call that wrote it
pub record Report : Type 0 where
  pub values : Values
  pub number : ℕ
  pub time : ℕ

-- THE BYTES. "Reply order: 35, 49, 56, 34, 43, 52, 122, then the message's fields"
abbrev pub fields_with : Bytes → Bytes → ℕ → Value → ℕ → Value → Values → List Field
fields_with us them n dup t orig v =
    35 is bytes (fix "AE") ∷ 49 is bytes us ∷ 56 is bytes them ∷ 34 is number n ∷ 43 is dup ∷ 52 is bytes (utc t) ∷ 122 is orig ∷ own v

abbrev pub fields_of : Bytes → Bytes → Report → List Field
fields_of us them r = fields_with us them r.number absent r.time absent r.values

unfoldable pub sent : Bytes → Bytes → Report → Bytes
sent us them r = framed (row (fields_of us them r))

-- Q-4: "again under its old number with 43=Y, a new 52 and its first 52 as 122": at the time t
unfoldable pub again : Bytes → Bytes → Report → ℕ → Bytes
again us them r t = framed (row (fields_with us them r.number (bytes (fix "Y")) t (bytes (utc r.time)) r.values))

-- THE READING BACK, of a body. Each field outside the parties is once in a clean report: its first field.
abbrev pub or_empty : Option Bytes → Bytes
or_empty none = []
or_empty (some v) = v

abbrev pub the : ℕ → Bytes → Bytes
the t body = or_empty (first_field t body)

-- every field t: cut the body behind each `|` and take all parts that begin with t and `=`
abbrev pub every_of_parts : Bytes → List Bytes → List Bytes
every_of_parts t [] = []
every_of_parts t (p ∷ ps) = cond (starts t p) (drop (length t) p ∷ every_of_parts t ps) (every_of_parts t ps)

unfoldable pub every_field : ℕ → Bytes → List Bytes
every_field t body = every_of_parts (decimal t ++ fix "=") (parts body)

-- a party has one 448, one 447 and one 452, in whatever order: the i-th party has the i-th of each
abbrev pub parties_of : List Bytes → List Bytes → List Bytes → List Party
parties_of [] l k = []
parties_of (a ∷ j) [] k = []
parties_of (a ∷ j) (b ∷ l) [] = []
parties_of (a ∷ j) (b ∷ l) (c ∷ k) = record { its448 = a; its447 = b; its452 = c } ∷ parties_of j l k

abbrev pub parties_in : Bytes → List Party
parties_in body = parties_of (every_field 448 body) (every_field 447 body) (every_field 452 body)

-- "reading gives back both"
unfoldable pub values_in : Bytes → Values
values_in body =
    record {
      its571 = the 571 body;
      its828 = the 828 body;
      its60 = the 60 body;
      its32 = amount_in (the 32 body);
      its31 = amount_in (the 31 body);
      its64 = first_field 64 body;
      its574 = the 574 body;
      its48 = the 48 body;
      its22 = the 22 body;
      its54 = the 54 body;
      its1427 = first_field 1427 body;
      parties = parties_in body;
    }

unfoldable pub report_in : Bytes → Report
report_in body = record { values = values_in body; number = value (the 34 body); time = microseconds (the 52 body) }

-- WHAT OUR REPORT CALL WRITES: refusals 11 (CompIDs, a number below 1), 5 (a number above 999,999,990), 7 (time), 8 (values) and 12 keep it from anything else
unfoldable pub sendable : Bytes → Bytes → Report → Bool
sendable us them r =
    comp_id us && comp_id them && within 1 999_999_990 r.number && ltb r.time limit && takes r.values && leb (length (sent us them r)) 512

-- Q-4: "one AE frame as our report call writes it": the report that its body names, if the call can write it and these are its bytes
abbrev pub if_written : Bytes → Bytes → Bytes → Report → Option Report
if_written us them m r = cond (sendable us them r && same m (sent us them r)) (some r) none

unfoldable pub read : Bytes → Bytes → Bytes → Option Report
read us them m = if_written us them m (report_in (body_in m))
