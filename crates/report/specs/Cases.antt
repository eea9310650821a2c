-- Worked reports from GW to MM, at half past nine: their bytes as they are sent and sent again, what refusals keep from being written, bytes that are
-- not as our call writes them, what clean bodies name, and the words at the C border.
use Rattle.std.specs.Prelude.{ℕ, ◌≡◌, List, [], ◌∷◌, ◌++◌, map, true, false, take, replicate}
use Prim.Native.String.{String}
use Rattle.std.proofs.Math.Option.{Option, none, some}
use Rattle.octets.specs.Bytes.{Bytes, fix}
use Rattle.calendar.specs.Time.{limit}
use Rattle.table.specs.declared.MsgType.TheVariants.{TradeCaptureReport}
use Rattle.table.specs.Dictionary.{fields}
use Rattle.message.specs.Message.{Field, ◌is◌}
use Rattle.amounts.specs.Amount.{Amount}
use Rattle.report.specs.Values.{Party, Values, own, takes}
use Rattle.report.specs.Report.{Report, sent, again, sendable, values_in, read}
use Rattle.report.specs.Layout.{values_given}

abbrev pub gw : Bytes
gw = fix "GW"

abbrev pub mm : Bytes
mm = fix "MM"

-- 09:30:00, and a minute and a microsecond later
abbrev pub half_past_nine : ℕ
half_past_nine = 1_704_187_800_000_000

abbrev pub later : ℕ
later = 1_704_187_860_000_001

-- values in the message's order: 571, 828, 60, 32, 31, 64, 574, 48, 22, 54, 1427, parties
abbrev pub amount : ℕ → ℕ → Amount
amount w k = record { whole = w; places = k }

abbrev pub party : String → String → String → Party
party a b c = record { its448 = fix a; its447 = fix b; its452 = fix c }

abbrev pub values : String → String → String → Amount → Amount → Option Bytes → String → String → String → String → Option Bytes → List Party → Values
values a b c q p d e f g s x ps =
    record {
      its571 = fix a;
      its828 = fix b;
      its60 = fix c;
      its32 = q;
      its31 = p;
      its64 = d;
      its574 = fix e;
      its48 = fix f;
      its22 = fix g;
      its54 = fix s;
      its1427 = x;
      parties = ps;
    }

-- 100 at 12.50; 0.05 at 0.00 with all that is optional
abbrev pub plain : Values
plain = values "R1" "0" "20240102-09:29:59" (amount 100 0) (amount 1250 2) none "4" "XS1" "8" "1" none []

abbrev pub full : Values
full =
    values "R2" "54" "20240102-09:29:59.125" (amount 5 2) (amount 0 2) (some (fix "20240104")) "22" "XS2" "8" "2" (some (fix "E"))
    (party "P" "D" "1" ∷ party "Q" "D" "17" ∷ [])

abbrev pub reported : Values → ℕ → ℕ → Report
reported v n t = record { values = v; number = n; time = t }

-- SENT, and read by the strict reader; and sent again
pub record Written (v : Values) (n : ℕ) (m m' : String) : Type 0 where
  pub first : sent gw mm (reported v n half_past_nine) ≡ fix m
  pub read_back : read gw mm (fix m) ≡ some (reported v n half_past_nine)
  pub second : again gw mm (reported v n half_past_nine) later ≡ fix m'

abbrev pub plain_bytes : String
plain_bytes = "8=FIXT.1.1|9=130|35=AE|49=GW|56=MM|34=5|52=20240102-09:30:00.000000|571=R1|828=0|60=20240102-09:29:59|32=100|31=12.50|574=4|48=XS1|22=8|552=1|54=1|10=248|"

abbrev pub plain_again : String
plain_again = "8=FIXT.1.1|9=164|35=AE|49=GW|56=MM|34=5|43=Y|52=20240102-09:31:00.000001|122=20240102-09:30:00.000000|571=R1|828=0|60=20240102-09:29:59|32=100|31=12.50|574=4|48=XS1|22=8|552=1|54=1|10=120|"

abbrev pub full_bytes : String
full_bytes = "8=FIXT.1.1|9=198|35=AE|49=GW|56=MM|34=6|52=20240102-09:30:00.000000|571=R2|828=54|60=20240102-09:29:59.125|32=0.05|31=0.00|64=20240104|574=22|48=XS2|22=8|552=1|54=2|1427=E|453=2|448=P|447=D|452=1|448=Q|447=D|452=17|10=175|"

abbrev pub full_again : String
full_again = "8=FIXT.1.1|9=232|35=AE|49=GW|56=MM|34=6|43=Y|52=20240102-09:31:00.000001|122=20240102-09:30:00.000000|571=R2|828=54|60=20240102-09:29:59.125|32=0.05|31=0.00|64=20240104|574=22|48=XS2|22=8|552=1|54=2|1427=E|453=2|448=P|447=D|452=1|448=Q|447=D|452=17|10=029|"

-- REFUSAL 8: one value of the plain report is other
abbrev pub unfit_values : List Values
unfit_values =
    values "" "0" "20240102-09:29:59" (amount 100 0) (amount 1250 2) none "4" "XS1" "8" "1" none [] ∷
    values "a|b" "0" "20240102-09:29:59" (amount 100 0) (amount 1250 2) none "4" "XS1" "8" "1" none [] ∷
    values "xxxxxxxxxxxxxxxxxxxxxxxxxxxxxxxxx" "0" "20240102-09:29:59" (amount 100 0) (amount 1250 2) none "4" "XS1" "8" "1" none [] ∷
    values "R1" "1" "20240102-09:29:59" (amount 100 0) (amount 1250 2) none "4" "XS1" "8" "1" none [] ∷
    values "R1" "0" "20240230-09:29:59" (amount 100 0) (amount 1250 2) none "4" "XS1" "8" "1" none [] ∷
    values "R1" "0" "20240102-09:29:59" (amount 1_000_000_000_000_000 0) (amount 1250 2) none "4" "XS1" "8" "1" none [] ∷
    values "R1" "0" "20240102-09:29:59" (amount 100 0) (amount 0 9) none "4" "XS1" "8" "1" none [] ∷
    values "R1" "0" "20240102-09:29:59" (amount 100 0) (amount 1250 2) (some (fix "2024010")) "4" "XS1" "8" "1" none [] ∷
    values "R1" "0" "20240102-09:29:59" (amount 100 0) (amount 1250 2) none "3" "XS1" "8" "1" none [] ∷
    values "R1" "0" "20240102-09:29:59" (amount 100 0) (amount 1250 2) none "4" "" "8" "1" none [] ∷
    values "R1" "0" "20240102-09:29:59" (amount 100 0) (amount 1250 2) none "4" "XS1" "4" "1" none [] ∷
    values "R1" "0" "20240102-09:29:59" (amount 100 0) (amount 1250 2) none "4" "XS1" "8" "3" none [] ∷
    values "R1" "0" "20240102-09:29:59" (amount 100 0) (amount 1250 2) none "4" "XS1" "8" "1" (some []) [] ∷
    values "R1" "0" "20240102-09:29:59" (amount 100 0) (amount 1250 2) none "4" "XS1" "8" "1" none (party "" "D" "1" ∷ []) ∷
    values "R1" "0" "20240102-09:29:59" (amount 100 0) (amount 1250 2) none "4" "XS1" "8" "1" none (party "P" "P" "1" ∷ []) ∷
    values "R1" "0" "20240102-09:29:59" (amount 100 0) (amount 1250 2) none "4" "XS1" "8" "1" none (party "P" "D" "2" ∷ []) ∷
    values "R1" "0" "20240102-09:29:59" (amount 100 0) (amount 1250 2) none "4" "XS1" "8" "1" none (replicate 9 (party "P" "D" "1")) ∷
    []

-- REFUSAL 12: seven parties, the last with so many bytes of 448: 512 and 513 bytes
abbrev pub long : String → Values
long last =
    values "RRRRRRRRRRRRRRRRRRRRRRRRRRRRRRRR" "54" "20240102-09:29:59" (amount 100 0) (amount 1250 2) none "4" "XS1" "8" "1" none
    (replicate 6 (party "xxxxxxxxxxxxxxxxxxxxxxxxxxxxxxxx" "D" "12") ++ (party last "D" "12" ∷ []))

-- the others keep a number and a time from being written
abbrev pub unsent : List Report
unsent =
    reported (long "xxxx") 5 half_past_nine ∷
    reported plain 0 half_past_nine ∷
    reported plain 999_999_991 half_past_nine ∷
    reported plain 5 limit ∷
    []

-- NOT AS OUR CALL WRITES IT
abbrev pub strange : List String
strange =
    "8=FIXT.1.1|9=131|35=AE|49=GW|56=MM|34=05|52=20240102-09:30:00.000000|571=R1|828=0|60=20240102-09:29:59|32=100|31=12.50|574=4|48=XS1|22=8|552=1|54=1|10=041|" ∷  -- a zero in front of 34
    "8=FIXT.1.1|9=138|35=AE|49=GW|56=MM|34=999999991|52=20240102-09:30:00.000000|571=R1|828=0|60=20240102-09:29:59|32=100|31=12.50|574=4|48=XS1|22=8|552=1|54=1|10=196|" ∷  -- a number that refusal 5 stands for
    "8=FIXT.1.1|9=135|35=AE|49=GW|56=MM|34=5|43=N|52=20240102-09:30:00.000000|571=R1|828=0|60=20240102-09:29:59|32=100|31=12.50|574=4|48=XS1|22=8|552=1|54=1|10=240|" ∷  -- 43
    "8=FIXT.1.1|9=123|35=AE|49=GW|56=MM|34=5|52=20240102-09:30:00|571=R1|828=0|60=20240102-09:29:59|32=100|31=12.50|574=4|48=XS1|22=8|552=1|54=1|10=172|" ∷  -- 52 without decimals
    "8=FIXT.1.1|9=130|35=AE|49=GW|56=MM|34=5|52=20240102-09:29:60.000000|571=R1|828=0|60=20240102-09:29:59|32=100|31=12.50|574=4|48=XS1|22=8|552=1|54=1|10=006|" ∷  -- second 60
    "8=FIXT.1.1|9=130|35=AE|49=GW|56=MM|34=5|52=19691231-23:59:59.000000|571=R1|828=0|60=20240102-09:29:59|32=100|31=12.50|574=4|48=XS1|22=8|552=1|54=1|10=034|" ∷  -- before 1970
    "8=FIXT.1.1|9=137|35=AE|49=GW|56=MM|34=5|52=20240102-09:30:00.000000|1128=9|571=R1|828=0|60=20240102-09:29:59|32=100|31=12.50|574=4|48=XS1|22=8|552=1|54=1|10=066|" ∷  -- 1128
    "8=FIXT.1.1|9=130|35=AE|49=GW|56=MM|34=5|52=20240102-09:30:00.000000|571=R1|828=0|60=20240102-09:29:59|31=12.50|32=100|574=4|48=XS1|22=8|552=1|54=1|10=248|" ∷  -- 31 before 32
    "8=FIXT.1.1|9=131|35=AE|49=GW|56=MM|34=5|52=20240102-09:30:00.000000|571=R1|828=0|60=20240102-09:29:59|32=100.|31=12.50|574=4|48=XS1|22=8|552=1|54=1|10=039|" ∷  -- a point and no places
    "8=FIXT.1.1|9=130|35=AE|49=GW|56=MM|34=5|52=20240102-09:30:00.000000|571=R1|828=0|60=20240102-09:29:59|32=100|31=12.50|574=4|48=XS1|22=8|54=1|552=1|10=248|" ∷  -- 54 before its group
    "8=FIXT.1.1|9=130|35=AE|49=GW|56=MN|34=5|52=20240102-09:30:00.000000|571=R1|828=0|60=20240102-09:29:59|32=100|31=12.50|574=4|48=XS1|22=8|552=1|54=1|10=249|" ∷  -- another peer
    "8=FIXT.1.1|9=130|35=AE|49=GW|56=MM|34=5|52=20240102-09:30:00.000000|571=R1|828=0|60=20240102-09:29:59|32=100|31=12.50|574=4|48=XS1|22=8|552=1|54=1|10=248||" ∷  -- a byte behind
    "8=FIXT.1.1|9=130|35=AE|49=GW|56=MM|34=5|52=20240102-09:30:00.000000|571=R1|828=0|60=20240102-09:29:59|32=100|31=12.50|574=4|48=XS1|22=8|552=1|54=1|10=248" ∷  -- cut
    "" ∷  -- nothing
    []

-- A CLEAN BODY of a member: 452 before 447, and 1427 behind the parties
abbrev pub from_member : String
from_member =
    "35=AE|49=MM|56=GW|34=5|52=20240102-09:30:00|571=R1|828=0|60=20240102-09:29:59|32=100|31=12.50|574=4|48=XS1|22=8|552=1|54=1|453=2|448=P|452=1|447=D|448=Q|447=D|452=17|1427=E|"

abbrev pub named : Values
named =
    values "R1" "0" "20240102-09:29:59" (amount 100 0) (amount 1250 2) none "4" "XS1" "8" "1" (some (fix "E"))
    (party "P" "D" "1" ∷ party "Q" "D" "17" ∷ [])

-- AT THE C BORDER: the full report's words, and the text beside them
abbrev pub text : Bytes
text = fix "R25420240102-09:29:59.1252024010422XS282EPD1QD17"

-- behind those of 571, with those of the parties at the end
abbrev pub words : List ℕ → List ℕ
words of-parties =
    1 ∷ 2 ∷ 4 ∷  -- 828
    1 ∷ 4 ∷ 25 ∷  -- 60
    1 ∷ 5 ∷ 2 ∷  -- 32
    1 ∷ 0 ∷ 2 ∷  -- 31
    1 ∷ 25 ∷ 33 ∷  -- 64
    1 ∷ 33 ∷ 35 ∷  -- 574
    1 ∷ 35 ∷ 38 ∷  -- 48
    1 ∷ 38 ∷ 39 ∷  -- 22
    1 ∷ 39 ∷ 40 ∷  -- 54
    1 ∷ 40 ∷ 41 ∷  -- 1427
    of-parties

abbrev pub two_parties : List ℕ
two_parties =
    2 ∷
    41 ∷ 42 ∷ 42 ∷ 43 ∷ 43 ∷ 44 ∷
    44 ∷ 45 ∷ 45 ∷ 46 ∷ 46 ∷ 48 ∷
    replicate 36 0

abbrev pub unfit_words : List (List ℕ)
unfit_words =
    (0 ∷ 0 ∷ 2 ∷ words two_parties) ∷  -- 571 is not given
    (1 ∷ 0 ∷ 49 ∷ words two_parties) ∷  -- its place ends behind the text
    (1 ∷ 2 ∷ 0 ∷ words two_parties) ∷  -- it ends before it starts
    (1 ∷ 0 ∷ 2 ∷ words (9 ∷ replicate 48 0)) ∷  -- nine parties
    []

-- each of a list
abbrev pub Each : {A : Type 0} → (A → Type 0) → List A → Type 0
Each P [] = Unit {0}
Each P (x ∷ l) = P x × Each P l

-- "then the message's fields as listed": the order of `own` is the dictionary's, with the side's own fields behind 552
abbrev pub tag_of : Field → ℕ
tag_of (t is v) = t

pub record Told : Type 0 where
  pub as_listed : (v : Values) → map tag_of (take 12 (own v)) ≡ map (λ r. r.tag) (fields TradeCaptureReport) ++ (54 ∷ 1427 ∷ [])
  pub plainly : Written plain 5 plain_bytes plain_again
  pub fully : Written full 6 full_bytes full_again
  pub unfit : Each (λ v. takes v ≡ false) unfit_values
  pub longest : sendable gw mm (reported (long "xxx") 5 half_past_nine) ≡ true
  pub refused : Each (λ r. sendable gw mm r ≡ false) unsent
  pub others : Each (λ m. read gw mm (fix m) ≡ none) strange
  pub names : values_in (fix from_member) ≡ named
  pub given : values_given (1 ∷ 0 ∷ 2 ∷ words two_parties) text ≡ full
  pub not_given : Each (λ ws. takes (values_given ws text) ≡ false) unfit_words
