-- What the session's record says of the values of a reply, and the fields that every reply begins with. Only the code needs these.
use Rattle.std.specs.Prelude.{ℕ, ◌≤◌, ◌<◌, List, [], ◌∷◌, Bool, true, false, cond, length}
use Rattle.octets.specs.Bytes.{Bytes, fix}
use Rattle.message.specs.Message.{number, bytes, Field, ◌is◌}
use Rattle.replies.specs.Reply.{held}
use Rattle.replies.specs.Reply.{if_any, optional, unless_zero}
use Rattle.replies.specs.declared.Reply.{Reply}
use Rattle.replies.specs.declared.Reply.TheVariants.{Heartbeat, TestRequest, Logon, ResendRequest, Reject, GapFill, Logout}

-- "CompIDs (1 to 11 bytes ..)", "numbers 1 to 999,999,999"
pub record Ranged (ours peers : Bytes) (n : ℕ) : Type 0 where
  pub ours_short : length ours ≤ 11
  pub peers_short : length peers ≤ 11
  pub small : n < 1_000_000_000

-- how each reply begins: its code, and the 43 that a gap fill alone has
abbrev pub code_byte : Reply → ℕ
code_byte (Heartbeat id) = 48
code_byte (TestRequest id) = 49
code_byte (Logon seconds reset) = 65
code_byte (ResendRequest expected) = 50
code_byte (Reject refused tag type why) = 51
code_byte (GapFill next) = 52
code_byte (Logout status) = 53

abbrev pub is_duplicate : Reply → Bool
is_duplicate (Heartbeat id) = false
is_duplicate (TestRequest id) = false
is_duplicate (Logon seconds reset) = false
is_duplicate (ResendRequest expected) = false
is_duplicate (Reject refused tag type why) = false
is_duplicate (GapFill next) = true
is_duplicate (Logout status) = false

abbrev pub headed : ℕ → Bytes → Bytes → ℕ → Bool → Bytes → List Field
headed code ours peers n duplicate time =
    35 is bytes (code ∷ []) ∷ 49 is bytes ours ∷ 56 is bytes peers ∷ 34 is number n ∷ 43 is optional duplicate (fix "Y") ∷ 52 is bytes time ∷ []

-- the longest a head can be
abbrev pub longest_head : Reply → ℕ
longest_head r = cond (is_duplicate r) 99 91

-- and its own fields, as they are put
abbrev pub own_of : Bytes → Reply → List Field
own_of time (Heartbeat id) = 112 is if_any (held id) ∷ []
own_of time (TestRequest id) = 112 is bytes id.now ∷ []
own_of time (Logon seconds reset) = 98 is bytes (fix "0") ∷ 108 is number seconds ∷ 1137 is bytes (fix "9") ∷ 141 is optional reset (fix "Y") ∷ []
own_of time (ResendRequest expected) = 7 is number expected ∷ 16 is number 0 ∷ []
own_of time (Reject refused tag type why) = 45 is number refused ∷ 371 is unless_zero tag ∷ 372 is if_any (held type) ∷ 373 is number why ∷ []
own_of time (GapFill next) = 122 is bytes time ∷ 123 is bytes (fix "Y") ∷ 36 is number next ∷ []
own_of time (Logout status) = 1409 is number status ∷ []
