-- The worked line fault, by computation.
-- Assumes nothing.
use mathlib.Core.Path.{refl}
use Rattle.octets.specs.Bytes.{writes, decimal}
use Rattle.places.specs.Places.{is_store}
use Rattle.frame.specs.Frame.{fixt}
use Rattle.fields.specs.Field.{part_of, first_field, is_body}
use Rattle.dates.specs.Date.{good_day, good_clock}
use Rattle.kinds.specs.Kind.{kind_of, is_number, formed, allowed}
use Rattle.table.specs.Dictionary.{№453, №580, №552, header, code35, fields, type_of, administrative, groups_of, member, rows_of, in_dictionary}
use Rattle.dictionary.specs.Verdict.{incomplete, closing, rule1, left, rule2, skipped, rule3, rule4, rule5, rule6, rule7, rule8, rule9, rule10, rules4to10, said, taken, after, verdict}
use Rattle.message.specs.Message.{framed, own, order, written}
use Rattle.message.specs.Unfit.{comp_id}
use Rattle.message.specs.Whole.{body_in, good}
use Rattle.replies.specs.Reply as Reply
use Rattle.calendar.specs.Time.{year_days, in_year, date_of, utc}
use Rattle.gap.specs.Gap.{passed, asks, unless_past, bounded}
use Rattle.moves.specs.Session.{in_range}
use Rattle.moves.specs.Moves.{#, readable, reject, reject_type, acceptable, logon, reset, no_reset, waiting, unserved, served, rule_1, rule_2, bare_reset, rule_3, served_first, asks_or_not, too_high, rule_4, too_low, rule_5, filled, in_turn, rule_6, active}
use Rattle.session.specs.Calls.{spent, refusals, turned_away, step, due, unticked, tick}
use Rattle.requests.specs.Day.{zeros, Day}

pub day : Day
unfolding writes decimal is_store fixt part_of first_field is_body kind_of is_number formed good_day good_clock allowed №453 №580 №552 header code35 fields type_of administrative groups_of member rows_of in_dictionary incomplete closing rule1 left rule2 skipped rule3 rule4 rule5 rule6 rule7 rule8 rule9 rule10 rules4to10 said taken after verdict framed own order written Reply.heartbeat Reply.logon Reply.resend_request Reply.reject Reply.gap_fill Reply.logout body_in good year_days in_year date_of utc comp_id in_range # readable reject reject_type acceptable logon reset no_reset waiting unserved served rule_1 rule_2 bare_reset rule_3 served_first asks_or_not too_high rule_4 passed asks unless_past bounded too_low rule_5 filled in_turn rule_6 active spent refusals turned_away step due unticked tick zeros
day = record { requests = refl; still_open = refl; closed = refl }
