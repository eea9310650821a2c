-- The fields of a report in their sections: each label, and the kind of the value behind it. Assumes nothing.
use mathlib.Core.Path.{◌≡◌, refl}
use mathlib.Core.List.{[], ◌∷◌}
use mathlib.Core.Bool.{false}
use mathlib.Core.Option.{Option}
use Rattle.octets.specs.Bytes.{Bytes, fix, any, decimal}
use Rattle.kinds.specs.Kind.{text, time, day, among}
use Rattle.kinds.specs.Kind as Kind
use Rattle.kinds.specs.Judged.{choices}
use Rattle.kinds.specs.declared.Choice.TheVariants.{Eight, D, OneOrTwo, ZeroOr54Or99, Matches, Roles}
use Rattle.table.specs.declared.MsgType.TheVariants.{TradeCaptureReport}
use Rattle.message.specs.Message.{number, bytes, ◌is◌}
use Rattle.message.specs.Unfit.{unfit}
use Rattle.amounts.specs.Amount.{Amount, amount_text}
use Rattle.report.specs.Values.{optional}
use Rattle.report.proofs.Sides.{has_571, has_828, has_60, has_32, has_31, has_64, has_574, has_48, has_22, has_54, has_1427, has_448, has_447, has_452, once_fit}
use Rattle.listed.specs.code.Taken.{Took, anything, without, Labelled, Maybe, Fields, trade, figures, instrument, side, party}
use Rattle.listed.proofs.Taking.{Onward, on, off}
use Rattle.listed.proofs.Rows.{field_took, figure_took, optional_took, fields_joined, three-joined, renamed}

pub trade_took : {s : Bytes} {a b r : Option Bytes} → Took (Labelled (fix "571=") (text 32)) anything s a
    → Onward (Labelled (fix "828=") (among (choices ZeroOr54Or99))) anything a b
    → Onward (Labelled (fix "60=") time) anything b r
    → Took (Fields trade) anything s r
unfolding decimal
trade_took P Q R =
    off (three-joined (λ (v : Bytes). 571 is bytes v ∷ []) (λ (v : Bytes). 828 is bytes v ∷ []) (λ (v : Bytes). 60 is bytes v ∷ [])
    (field_took [] refl 571 (text 32) has_571 (fix "571=") refl (on P))
    (field_took [] refl 828 (among (choices ZeroOr54Or99)) has_828 (fix "828=") refl Q)
    (field_took [] refl 60 time has_60 (fix "60=") refl R))

pub figures_took : {s : Bytes} {a b r : Option Bytes} → Took (Labelled (fix "32=") Kind.decimal) anything s a
    → Onward (Labelled (fix "31=") Kind.decimal) anything a b
    → Onward (Maybe (fix "64=") day) (without (fix "64=")) b r
    → Took (Fields figures) (without (fix "64=")) s r
unfolding decimal
figures_took P Q R =
    off (three-joined (λ (a : Amount). 32 is bytes (amount_text a) ∷ []) (λ (a : Amount). 31 is bytes (amount_text a) ∷ []) (λ (o : Option Bytes). 64 is optional o ∷ [])
    (figure_took 32 has_32 (fix "32=") refl (on P))
    (figure_took 31 has_31 (fix "31=") refl Q)
    (optional_took 64 day has_64 (fix "64=") refl R))

pub instrument_took : {s : Bytes} {a b r : Option Bytes} → Took (Labelled (fix "574=") (among (choices Matches))) anything s a
    → Onward (Labelled (fix "48=") (text 32)) anything a b
    → Onward (Labelled (fix "22=") (among (choices Eight))) anything b r
    → Took (Fields instrument) anything s r
unfolding decimal
instrument_took P Q R =
    off (three-joined (λ (v : Bytes). 574 is bytes v ∷ []) (λ (v : Bytes). 48 is bytes v ∷ []) (λ (v : Bytes). 22 is bytes v ∷ [])
    (field_took [] refl 574 (among (choices Matches)) has_574 (fix "574=") refl (on P))
    (field_took [] refl 48 (text 32) has_48 (fix "48=") refl Q)
    (field_took [] refl 22 (among (choices Eight)) has_22 (fix "22=") refl R))

pub side_took : {s : Bytes} {a r : Option Bytes} → Took (Labelled (fix "552=1|54=") (among (choices OneOrTwo))) anything s a
    → Onward (Maybe (fix "1427=") (text 32)) (without (fix "1427=")) a r
    → Took (Fields side) (without (fix "1427=")) s r
unfolding decimal
side_took P Q =
    let once : any (unfit TradeCaptureReport) (552 is number 1 ∷ []) ≡ false = rw once_fit in
    off (fields_joined (λ (v : Bytes). 552 is number 1 ∷ 54 is bytes v ∷ []) (λ (o : Option Bytes). 1427 is optional o ∷ []) (λ y rest h n. refl)
    (field_took (552 is number 1 ∷ []) once 54 (among (choices OneOrTwo)) has_54 (fix "552=1|54=") refl (on P))
    (optional_took 1427 (text 32) has_1427 (fix "1427=") refl Q))

pub party_took : {s : Bytes} {a b r : Option Bytes} → Took (Labelled (fix "448=") (text 32)) anything s a
    → Onward (Labelled (fix "447=") (among (choices D))) anything a b
    → Onward (Labelled (fix "452=") (among (choices Roles))) anything b r
    → Took (Fields party) anything s r
unfolding decimal
party_took P Q R =
    off (renamed (λ (v : Bytes × (Bytes × Bytes)). 448 is bytes v.0 ∷ 447 is bytes v.1.0 ∷ 452 is bytes v.1.1 ∷ []) party
    (λ v. record { its448 = v.0; its447 = v.1.0; its452 = v.1.1 })
    (λ p. (p.its448, (p.its447, p.its452)))
    (λ v. refl)
    (λ p. refl)
    (three-joined (λ (v : Bytes). 448 is bytes v ∷ []) (λ (v : Bytes). 447 is bytes v ∷ []) (λ (v : Bytes). 452 is bytes v ∷ [])
    (field_took [] refl 448 (text 32) has_448 (fix "448=") refl (on P))
    (field_took [] refl 447 (among (choices D)) has_447 (fix "447=") refl Q)
    (field_took [] refl 452 (among (choices Roles)) has_452 (fix "452=") refl R)))
