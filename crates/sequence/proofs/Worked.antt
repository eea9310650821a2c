-- The worked morning, and a run of each wrong session, by computation.
-- Assumes nothing.
use Prim.Native.Nat.{ℕ}
use native.Mathlib.Omega.{arith}
use mathlib.Core.Path.{◌≡◌, refl, sym}
use mathlib.Core.Bool.{false≢true}
use mathlib.Core.List.{List, [], ◌∷◌}
use Rattle.octets.specs.Bytes.{writes, decimal}
use Rattle.places.specs.Places.{is_store}
use Rattle.frame.specs.Frame.{fixt}
use Rattle.fields.specs.Field.{part_of, first_field, is_body}
use Rattle.dates.specs.Date.{good_day, good_clock}
use Rattle.kinds.specs.Kind.{kind_of, is_number, formed, allowed}
use Rattle.decimals.specs.Decimal.{is_decimal, decimal_of}
use Rattle.table.specs.Dictionary.{№453, №580, №552, header, code35, fields, type_of, administrative, groups_of, member, rows_of, in_dictionary}
use Rattle.dictionary.specs.Verdict.{incomplete, closing, rule1, left, rule2, skipped, rule3, rule4, rule5, rule6, rule7, rule8, rule9, rule10, rules4to10, said, taken, after, verdict}
use Rattle.message.specs.Message.{framed, own, order, written}
use Rattle.message.specs.Unfit.{rejected, required, comp_id}
use Rattle.message.specs.Whole.{body_in, good}
use Rattle.replies.specs.Reply as Reply
use Rattle.calendar.specs.Time.{year_days, in_year, date_of, utc}
use Rattle.calendar.specs.Later.{moment_of, later}
use Rattle.gap.specs.Gap.{passed, asks, unless_past, bounded}
use Rattle.moves.specs.Session.{in_range}
use Rattle.moves.specs.Moves.{#, readable, reject, reject_type, acceptable, logon, reset, no_reset, waiting, unserved, served, rule_1, rule_2, bare_reset, rule_3, served_first, asks_or_not, too_high, rule_4, too_low, rule_5, filled, in_turn, rule_6, active}
use Rattle.session.specs.Calls.{Tick, spent, refusals, turned_away, step, due, unticked, tick, reconnect}
use Rattle.session.specs.Sequence as Sequence
use Rattle.session.specs.Sequence.{reset_by, filled_by, counted_by, share_of}
use Rattle.amounts.specs.Amount.{amount_text}
use Rattle.report.specs.Values.{takes}
use Rattle.report.specs.Report.{sent}
use Rattle.reporting.specs.Call as Reporting
use Rattle.replaying.specs.Call as Replaying
use Rattle.session.specs.Desk.{half_past_nine, empty}
use Rattle.replaying.specs.Run.{Turn, Ours}
use Rattle.sequence.specs.Day.{zeros, comes, begin, Day}
use Rattle.sequence.specs.Wrong.{Wrong}

not_none : (n : ℕ) → n ∷ [] ≡ [] → ⊥
not_none n e = let z : ◌≡◌ {A = ℕ} 0 1 = cc in omega arith

-- behind a logon in turn
abbrev logged_on : List Turn → List Turn
logged_on cs = comes "35=A|49=MM|56=GW|34=1|52=20240102-09:30:00|98=0|108=30|1137=9|" ∷ cs

-- a gap fill from 2 up to 5, where E ends as 4; one from 2 back to 1, where it ends as 1
abbrev onward : List Turn
onward = logged_on (comes "35=4|49=MM|56=GW|34=2|52=20240102-09:30:00|123=Y|36=5|" ∷ [])

abbrev backward : List Turn
backward = logged_on (comes "35=4|49=MM|56=GW|34=2|52=20240102-09:30:00|123=Y|36=1|" ∷ [])

-- 2 twice, where both are delivered
abbrev twice : List Turn
twice = logged_on
    (comes "35=AD|49=MM|56=GW|34=2|52=20240102-09:30:00|568=R|569=0|22=8|48=X|580=1|75=20240102|" ∷
    comes "35=AD|49=MM|56=GW|34=2|43=Y|52=20240102-09:30:00|122=20240102-09:30:00|568=R|569=0|22=8|48=X|580=1|75=20240102|" ∷
    [])

-- 3 before its turn, a gap fill over 2, and 3 again
abbrev ahead : List Turn
ahead = logged_on
    (comes "35=AD|49=MM|56=GW|34=3|52=20240102-09:30:00|568=R|569=0|22=8|48=X|580=1|75=20240102|" ∷
    comes "35=4|49=MM|56=GW|34=2|52=20240102-09:30:00|123=Y|36=3|" ∷
    comes "35=AD|49=MM|56=GW|34=3|52=20240102-09:30:00|568=R|569=0|22=8|48=X|580=1|75=20240102|" ∷
    [])

-- a tick
abbrev idle : List Turn
idle = Ours (Tick half_past_nine empty) ∷ []

computed : Day × Wrong
unfolding writes decimal is_store fixt part_of first_field is_body kind_of is_number formed good_day good_clock allowed №453 №580 №552 header code35 fields type_of administrative groups_of member rows_of in_dictionary incomplete closing rule1 left rule2 skipped rule3 rule4 rule5 rule6 rule7 rule8 rule9 rule10 rules4to10 said taken after verdict framed own order written Reply.heartbeat Reply.logon Reply.resend_request Reply.reject Reply.gap_fill Reply.logout body_in good year_days in_year date_of utc comp_id in_range # readable reject reject_type acceptable logon reset no_reset waiting unserved served rule_1 rule_2 bare_reset rule_3 served_first asks_or_not too_high rule_4 passed asks unless_past bounded moment_of later too_low rule_5 filled in_turn rule_6 active spent refusals turned_away step due unticked tick reconnect Sequence.taken reset_by filled_by counted_by share_of amount_text takes sent rejected required is_decimal decimal_of Reporting.message Reporting.refusals Reporting.report Replaying.refusals Replaying.replay zeros
computed = (
  record {
    no_reset = (refl, (refl, (refl, (refl, (refl, (refl, (refl, (refl, (refl, (refl, (refl, (refl, (refl, (refl, (refl, tt)))))))))))))));
    answers = refl;
    contributions = refl;
    rejected = refl;
    delivered = refl;
    ends = refl;
    anew = refl;
    bare = refl;
  },
  record {
    gap_fill_one_short = record { begins = begin; calls = onward; no_reset = (refl, (refl, tt)); broken = λ S. let z : ◌≡◌ {A = ℕ} 4 5 = S.adds_up in omega arith };
    gap_fill_counts_once = record { begins = begin; calls = onward; no_reset = (refl, (refl, tt)); broken = λ S. let z : ◌≡◌ {A = ℕ} 3 5 = S.adds_up in omega arith };
    gap_fill_steps_back = record { begins = begin; calls = backward; no_reset = (refl, (refl, tt)); broken = λ S. let z : ◌≡◌ {A = ℕ} 1 2 = S.adds_up in omega arith };
    delivered_below_E = record { begins = begin; calls = twice; no_reset = (refl, (refl, (refl, tt))); broken = λ S. omega (arith, S.rise.0.1.0) };
    delivered_after_a_reject = record { begins = begin; calls = ahead; no_reset = (refl, (refl, (refl, (refl, tt)))); broken = λ S. not_none 3 ((S.quiet.2.1 refl).1.0 refl) };
    delivered_without_a_frame = record { begins = begin; calls = idle; no_reset = (refl, tt); broken = λ S. false≢true (sym (S.quiet.0.no_frame refl).0) };
    delivered_when_sent_again = record { begins = begin; calls = twice; no_reset = (refl, (refl, (refl, tt))); broken = λ S. omega (arith, (S.quiet.2.0.rejected refl).passed _ refl (record { sender = refl; target = refl }) refl) };
    skipped_by_a_reject = record { begins = begin; calls = onward; no_reset = (refl, (refl, tt)); broken = λ S. (S.quiet.2.0.rejected refl).not_skipped 2 5 refl };
  },
)

pub day : Day
day = computed.0

pub wrong : Wrong
wrong = computed.1
