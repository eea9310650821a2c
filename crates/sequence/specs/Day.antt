-- A worked morning of GW with MM, so that what is said of every run is seen to speak of something: what each call answers and contributes, what is rejected
-- and delivered, where E ends; and each of the two resets.
use Prim.Native.String.{String}
use Rattle.std.specs.Prelude.{◌≡◌, List, [], ◌∷◌, map, true, false, take, replicate}
use Rattle.octets.specs.Bytes.{Bytes, fix}
use Rattle.message.specs.Message.{framed}
use Rattle.report.specs.Cases.{plain}
use Rattle.moves.specs.Session.{Session, fresh}
use Rattle.session.specs.Calls.{Step, Tick, Reconnect}
use Rattle.session.specs.Desk.{GW_MM, half_past_nine, empty}
use Rattle.session.specs.declared.Refusal.TheVariants.{NotOneFrame}
use Rattle.session.specs.Answer.{Done, Delivered, NothingDue, Refused}
use Rattle.session.specs.Sequence.{Made, rejects, nothing, counts, skips, resets, share, deliveries, NoReset, end}
use Rattle.replaying.specs.Run.{Turn, Ours, OurReport, OurReplay}
use Rattle.sequence.specs.Run.{made, logged}

-- a frame with this body comes in at half past nine; the store that is lent is zeros
unfoldable pub zeros : Bytes
zeros = replicate 32_768 0

abbrev pub comes : String → Turn
comes body = Ours (Step (framed (fix body)) half_past_nine empty zeros)

abbrev pub begin : Session
begin = fresh (fix "GW") (fix "MM")

abbrev pub morning : List Turn
morning =
    comes "35=A|49=MM|56=GW|34=1|52=20240102-09:30:00|98=0|108=30|1137=9|" ∷  -- a logon in turn
    comes "35=AD|49=MM|56=GW|34=2|52=20240102-09:30:00|568=R|569=0|22=8|48=X|580=1|75=20240102|" ∷  -- delivered
    OurReport plain half_past_nine empty zeros ∷  -- the venue tells of a trade
    comes "35=0|49=MM|56=GW|34=5|52=20240102-09:30:00|" ∷  -- too high: 3 and 4 are missing
    comes "35=4|49=MM|56=GW|34=3|52=20240102-09:30:00|123=Y|36=5|" ∷  -- a gap fill over both
    comes "35=AD|49=MM|56=GW|34=2|43=Y|52=20240102-09:30:00|122=20240102-09:30:00|568=R|569=0|22=8|48=X|580=1|75=20240102|" ∷  -- 2 again, a duplicate
    comes "35=0|49=MM|56=GW|34=5|52=yesterday|" ∷  -- rejected, and counted
    Ours (Step (fix "8=FIXT.1.1|9=5|35=0|10=242|") half_past_nine empty zeros) ∷  -- W2: no good frame
    Ours (Tick half_past_nine empty) ∷
    comes "35=F|49=MM|56=GW|34=6|52=20240102-09:30:00|11=C1|41=O1|54=1|48=DE0001234567|22=8|60=20240102-09:29:59|" ∷  -- delivered
    comes "35=4|49=MM|56=GW|34=9|52=20240102-09:30:00|36=4|" ∷  -- a Sequence Reset backwards: rejected, so it is no reset
    Ours Reconnect ∷
    comes "35=A|49=MM|56=GW|34=7|52=20240102-09:30:00|98=0|108=30|1137=9|" ∷  -- logged on again, in turn
    comes "35=2|49=MM|56=GW|34=8|52=20240102-09:30:00|7=1|16=2|" ∷  -- it asks for 1 and 2 again
    OurReplay half_past_nine empty zeros ∷
    []

pub record Day : Type 0 where
  pub no_reset : NoReset (logged begin morning)
  pub answers : map (λ (m : Made). m.left.answer) (logged begin morning)
      ≡ Done ∷ Delivered ∷ Done ∷ Done ∷ Done ∷ Done ∷ Done ∷ Refused NotOneFrame ∷ NothingDue ∷ Delivered ∷ Done ∷ Done ∷ Done ∷ Done ∷ Done ∷ []
  pub contributions : map share (logged begin morning)
      ≡ counts 1 ∷ counts 2 ∷ nothing ∷ nothing ∷ skips 3 5 ∷ nothing ∷ counts 5 ∷ nothing ∷ nothing ∷ counts 6 ∷ nothing ∷ nothing ∷ counts 7 ∷ counts 8 ∷ nothing ∷ []
  -- (the replay is left out: its message depends on what the store holds, which is not computed here)
  pub rejected : map (λ (m : Made). rejects m.left) (take 14 (logged begin morning))
      ≡ false ∷ false ∷ false ∷ false ∷ false ∷ false ∷ true ∷ false ∷ false ∷ false ∷ true ∷ false ∷ false ∷ false ∷ []
  pub delivered : deliveries (logged begin morning) ≡ 2 ∷ 6 ∷ []
  pub ends : (end begin (logged begin morning)).E ≡ 9
  -- "an accepted logon with 141=Y", and "a Sequence Reset that isn't a gap fill"
  pub anew : resets (made begin (comes "35=A|49=MM|56=GW|34=1|52=20240102-09:30:00|98=0|108=30|1137=9|141=Y|")) ≡ true
  pub bare : resets (made (GW_MM 5 2 0) (comes "35=4|49=MM|56=GW|34=9|52=20240102-09:30:00|36=7|")) ≡ true
