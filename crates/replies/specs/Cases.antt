-- Worked replies: from GW to MM, number 2, at half past nine.
use Rattle.std.specs.Prelude.{◌≡◌}
use Rattle.octets.specs.Bytes.{Bytes, fix}
use Rattle.table.specs.declared.MsgType.TheVariants.{Heartbeat, TestRequest, SequenceReset}
use Rattle.message.specs.Message.{absent, row, message}
use Rattle.replies.specs.Reply.{of_heartbeat, of_test_request, of_gap_fill}

abbrev pub half_past_nine : Bytes
half_past_nine = fix "20240102-09:30:00.000000"

pub record Cases : Type 0 where
  -- the tick's Heartbeat has no 112
  pub without_112 : row (message Heartbeat (of_heartbeat (fix "GW") (fix "MM") 2 half_past_nine absent)) ≡ fix "35=0|49=GW|56=MM|34=2|52=20240102-09:30:00.000000|"
  -- a Test Request has one
  pub with_112 :
      row (message TestRequest (of_test_request (fix "GW") (fix "MM") 2 half_past_nine (fix "T1")))
      ≡ fix "35=1|49=GW|56=MM|34=2|52=20240102-09:30:00.000000|112=T1|"
  -- "(type 4: 123, 36)", "122 equal to 52"
  pub order_4 :
      row (message SequenceReset (of_gap_fill (fix "GW") (fix "MM") 2 half_past_nine 5))
      ≡ fix "35=4|49=GW|56=MM|34=2|43=Y|52=20240102-09:30:00.000000|122=20240102-09:30:00.000000|123=Y|36=5|"
