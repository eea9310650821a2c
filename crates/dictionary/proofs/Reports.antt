-- Worked verdicts on Trade Capture Reports, by computation: groups in groups, and the report's own fields.
use mathlib.Core.Path.{◌≡◌, refl}
use mathlib.Core.List.{List, [], ◌∷◌, ◌++◌}
use Prim.Native.String.{String}
use Rattle.octets.specs.Bytes.{Bytes, fix, writes, decimal}
use Rattle.fields.specs.Field.{part_of, first_field, is_body}
use Rattle.decimals.specs.Decimal.{is_decimal}
use Rattle.dates.specs.Date.{good_day, good_clock}
use Rattle.kinds.specs.Kind.{kind_of, is_number, formed, allowed}
use Rattle.table.specs.Dictionary.{№453, №580, №552, header, code35, fields, type_of, administrative, groups_of, member, rows_of, in_dictionary}
use Rattle.dictionary.specs.Verdict.{Verdict, Clean, found, incomplete, closing, rule1, left, rule2, skipped, rule3, rule4, rule5, rule6, rule7, rule8, rule9, rule10, rules4to10, said, taken, after, verdict}

-- a report up to its group 552, and what follows
abbrev head : Bytes
head = fix "35=AE|49=GW|56=MM|34=2|52=20240102-09:30:00|571=R1|828=0|60=20240102-09:30:00|32=100|31=12.50|574=4|48=X|22=8|"

abbrev Told : List (String × Verdict) → Type 0
Told [] = Unit {0}
Told (c ∷ l) = (verdict (head ++ fix c.0) ≡ c.1) × Told l

-- "count, first-member and missing-member checks apply at each level, innermost first"
pub nested : Told (
    ("552=1|54=1|", Clean) ∷
    ("552=1|54=1|1427=E|453=1|448=P|447=D|452=1|", Clean) ∷
    ("552=1|54=1|453=2|448=P|447=D|452=1|448=Q|452=3|447=D|1427=E|64=20240104|", Clean) ∷
    ("552=1|54=1|453=2|448=P|447=D|452=1|452=3|", found 13 452) ∷
    ("552=1|54=1|453=2|448=P|447=D|452=1|1427=E|", found 16 453) ∷
    ("552=1|54=1|453=1|448=P|452=1|54=2|", found 1 447) ∷
    ("552=1|54=1|453=2|448=P|447=D|452=1|54=2|", found 16 453) ∷
    ("552=1|54=1|453=1|448=P|447=D|452=1|54=2|", found 16 552) ∷
    ("552=1|453=1|448=P|447=D|452=1|", found 15 453) ∷
    ("552=1|54=1|453=1|447=D|", found 15 447) ∷
    ("552=1|54=1|453=1|448=P|447=D|452=1|453=1|", found 13 453) ∷
    ("552=1|54=1|448=P|", found 15 448) ∷
    ("552=2|", found 5 552) ∷
    ("552=1|", found 16 552) ∷
    ("552=1|54=1|453=1|448=P|447=D|452=1|x|", found 0 0) ∷
    ("552=1|54=1|453=1|448=P|x|", found 1 447) ∷
    ("453=1|", found 15 453) ∷
    ("", found 1 552) ∷
    []
    )
unfolding verdict said taken after rules4to10 rule1 rule2 rule3 rule4 rule5 rule6 rule7 rule8 rule9 rule10 left incomplete closing skipped №453 №580 №552 header code35 fields type_of administrative groups_of member rows_of in_dictionary part_of first_field is_body is_decimal kind_of is_number formed allowed good_day good_clock writes decimal
nested = (refl, (refl, (refl, (refl, (refl, (refl, (refl, (refl, (refl, (refl, (refl, (refl, (refl, (refl, (refl, (refl, (refl, (refl, tt))))))))))))))))))

-- "walked as AD and F are": an unknown tag, another message's tag, a header tag and a tag again, in a group and behind it
pub others : Told (
    ("552=1|54=1|453=1|448=P|447=D|452=1|9999=x|", found 3 9999) ∷
    ("552=1|54=1|453=1|448=P|447=D|9999=x|", found 1 452) ∷
    ("552=1|54=1|453=2|448=P|447=D|452=1|9999=x|", found 16 453) ∷
    ("552=1|54=1|453=9|", found 5 453) ∷
    ("552=1|54=1|453=x|", found 6 453) ∷
    ("552=1|54=1|453=1|448=|", found 4 448) ∷
    ("552=1|54=1|75=20240102|", found 2 75) ∷
    ("552=1|54=1|580=1|", found 2 580) ∷
    ("552=1|54=1|43=Y|", found 14 43) ∷
    ("552=1|54=1|571=R2|", found 13 571) ∷
    ("552=1|54=1|552=1|", found 13 552) ∷
    ("552=1|54=1|1427=E|1427=F|", found 13 1427) ∷
    ("552=1|54=3|", found 5 54) ∷
    ("552=1|1427=E|54=1|", found 15 1427) ∷
    ("54=1|552=1|", found 15 54) ∷
    ("552=1|54=1|8=x|", found 13 8) ∷
    []
    )
unfolding verdict said taken after rules4to10 rule1 rule2 rule3 rule4 rule5 rule6 rule7 rule8 rule9 rule10 left incomplete closing skipped №453 №580 №552 header code35 fields type_of administrative groups_of member rows_of in_dictionary part_of first_field is_body is_decimal kind_of is_number formed allowed good_day good_clock writes decimal
others = (refl, (refl, (refl, (refl, (refl, (refl, (refl, (refl, (refl, (refl, (refl, (refl, (refl, (refl, (refl, (refl, tt))))))))))))))))
