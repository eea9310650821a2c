-- The messages of a plan as the code puts them into the buffer. Only the code needs these: nothing here states document 01.
use Rattle.std.specs.Prelude.{ℕ, ◌+◌, ◌≤◌, ◌≡◌, List, [], ◌∷◌, ◌++◌, true, cond, length, Some}
use Rattle.octets.specs.Bytes.{Bytes}
use Rattle.frame.specs.Stream.{joined}
use Rattle.replies.specs.Replied.{reply_room, fits, message_of}
use Rattle.replies.specs.declared.Reply.{Reply}
use Rattle.moves.specs.Moves.{Letter, letter}
use Rattle.moves.specs.code.Plan.{letters_of}
use Rattle.moves.specs.declared.plan.Letter as Code
use Rattle.moves.specs.declared.plan.Letter.TheVariants.{Echo, Logon, Ask, Reject, RejectType, Logout, Test}
use Rattle.letters.specs.code.Fit.{FitLetter}

-- the messages of a plan at a time
abbrev pub bytes_of : Bytes → Bytes → Bytes → List (ℕ × Letter) → List Bytes
bytes_of ours peers time [] = []
bytes_of ours peers time (x ∷ xs) = letter ours peers x.0 time x.1 ∷ bytes_of ours peers time xs

-- the messages can be put
abbrev pub AllPut : List (ℕ × Letter) → Type 0
AllPut [] = Unit {0}
AllPut (x ∷ xs) = (x.0 ≤ 999_999_999) × FitLetter x.1 × AllPut xs

-- the number that a message uses, of the next one out
abbrev pub numbered : Code.Letter → ℕ → ℕ
numbered Echo n = n
numbered (Logon anew) n = cond anew 1 n
numbered (Ask from) n = n
numbered (Reject reason tag) n = n
numbered RejectType n = n
numbered (Logout why) n = n
numbered Test n = n

-- the reply r is the message l by the body that came: its own values fit, and its bytes are those of the words
pub record Replies (body : Bytes) (n : ℕ) (l : Code.Letter) (r : Reply) : Type 0 where
  pub fit : fits r ≡ true
  pub bytes : (ours peers stamp : Bytes) → message_of ours peers (numbered l n) stamp r ++ [] ≡ joined (bytes_of ours peers stamp (letters_of body n (Some l)))

abbrev pub IsReply : Bytes → ℕ → Code.Letter → Reply → Type 0
IsReply body n l r = AllPut (letters_of body n (Some l)) → Replies body n l r

-- what is known where a reply is put
pub record Sending (ours peers : Bytes) (n at : ℕ) (stamp buf : Bytes) : Type 0 where
  pub ours_short : length ours ≤ 11
  pub peers_short : length peers ≤ 11
  pub number : n ≤ 999_999_999
  pub stamped : length stamp ≤ 24
  pub room : at + reply_room ≤ length buf
