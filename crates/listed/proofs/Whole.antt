-- All sections behind each other are the fields of a report; and what the walk's end says of them. Assumes nothing.
use native.Mathlib.Omega.{arith}
use mathlib.Core.Path.{◌≡◌, refl, sym, ap, ◌∙◌}
use mathlib.Core.List.{List, [], ◌∷◌, ◌++◌, append-nil}
use mathlib.Core.Bool.{true, false, not, false≢true}
use mathlib.Core.Option.{Option, none, some, some-injective, none-ne-some}
use lib.Dec.{eqb}
use lib.ListN.{length}
use borrow.Author.Tests.{eqb-true}
use Rattle.octets.specs.Bytes.{Bytes, fix, decimal}
use Rattle.message.specs.Message.{Field, row}
use Rattle.amounts.specs.Amount.{Amount}
use Rattle.report.specs.Values.{Party, Values, group, own, takes}
use Rattle.report.proofs.Taken.{all_fit}
use Rattle.listed.specs.code.Listed.{Listed}
use Rattle.listed.specs.code.Taken.{Took, anything, without, end, Fields, trade, figures, instrument, side}
use Rattle.listed.proofs.Taking.{Onward, on, off}
use Rattle.listed.proofs.Members.{empty_is}
use Rattle.listed.proofs.Rows.{fields_joined, renamed}

-- the sections from the last to the first
abbrev Side : Type 0
Side = (Bytes × Option Bytes) × List Party

abbrev side_on : Side → List Field
side_on v = side v.0 ++ group v.1

abbrev Instrument : Type 0
Instrument = (Bytes × (Bytes × Bytes)) × Side

abbrev instrument_on : Instrument → List Field
instrument_on v = instrument v.0 ++ side_on v.1

abbrev Figures : Type 0
Figures = (Amount × (Amount × Option Bytes)) × Instrument

abbrev figures_on : Figures → List Field
figures_on v = figures v.0 ++ instrument_on v.1

abbrev Trade : Type 0
Trade = (Bytes × (Bytes × Bytes)) × Figures

abbrev trade_on : Trade → List Field
trade_on v = trade v.0 ++ figures_on v.1

abbrev values_of : Trade → Values
values_of v =
    record {
      its571 = v.0.0;
      its828 = v.0.1.0;
      its60 = v.0.1.1;
      its32 = v.1.0.0;
      its31 = v.1.0.1.0;
      its64 = v.1.0.1.1;
      its574 = v.1.1.0.0;
      its48 = v.1.1.0.1.0;
      its22 = v.1.1.0.1.1;
      its54 = v.1.1.1.0.0;
      its1427 = v.1.1.1.0.1;
      parties = v.1.1.1.1;
    }

abbrev sections_of : Values → Trade
sections_of v =
    ((v.its571, (v.its828, v.its60)), ((v.its32, (v.its31, v.its64)), ((v.its574, (v.its48, v.its22)), ((v.its54, v.its1427), v.parties))))

-- behind 64 stands 574, behind 1427 stands 453 or nothing
follows_figures : (y rest : Bytes) → Fields instrument_on y → end rest ≡ true → without (fix "64=") (y ++ rest) ≡ true
unfolding decimal
follows_figures y rest (v, (u, w)) n = ap (λ (t : Bytes). without (fix "64=") (t ++ rest)) w

follows_side : (y rest : Bytes) → Fields group y → end rest ≡ true → without (fix "1427=") (y ++ rest) ≡ true
unfolding decimal
follows_side y [] ([], (u, w)) n = ap (λ (t : Bytes). without (fix "1427=") (t ++ [])) w
follows_side y (x ∷ rest) ([], (u, w)) n = absurd (omega (arith, eqb-true (length (x ∷ rest)) 0 n))
follows_side y rest (p ∷ ps, (u, w)) n = ap (λ (t : Bytes). without (fix "1427=") (t ++ rest)) w

pub own_took : {s : Bytes} {a b c d e : Option Bytes} → Took (Fields trade) anything s a → Onward (Fields figures) (without (fix "64=")) a b → Onward (Fields instrument) anything b c
    → Onward (Fields side) (without (fix "1427=")) c d
    → Onward (Fields group) end d e
    → Took (Fields own) end s e
own_took P Q R S T =
    off (renamed trade_on own values_of sections_of (λ v. refl) (λ v. refl)
    (fields_joined trade figures_on (λ y t h n. refl) (on P)
    (fields_joined figures instrument_on follows_figures Q
    (fields_joined instrument side_on (λ y t h n. refl) R
    (fields_joined side group follows_side S T)))))

-- THE WALK'S END
module _ {s : Bytes} {r : Option Bytes} (T : Took (Fields own) end s r) where
  reached : (v : Values) → takes v ≡ true → s ≡ row (own v) → r ≡ some []
  reached v h w = T.found (row (own v)) [] (v, (all_fit v h, refl)) refl (w ∙ sym (append-nil (row (own v))))

  pub none_listed : r ≡ none → Listed s false
  none_listed z = record { yes = λ f. absurd (false≢true f); no = λ v h w. absurd (none-ne-some _ (sym z ∙ reached v h w)) }

  pub all_listed : {t : Bytes} → r ≡ some t → Listed s (eqb (length t) 0)
  unfolding takes
  all_listed {t} z = record { yes = yes_listed; no = λ v h w. ap (λ (x : Bytes). eqb (length x) 0) (some-injective _ _ (sym z ∙ reached v h w)) }
    where
      yes_listed : eqb (length t) 0 ≡ true → (v : Values) × ((takes v ≡ true) × (s ≡ row (own v)))
      yes_listed f =
          let w = T.seen t z in
          let F = w.1.0 in
          let e : t ≡ [] = empty_is t (eqb-true (length t) 0 f) in
          (F.0, (ap not F.1.0, w.1.1 ∙ ap (λ (x : Bytes). w.0 ++ x) e ∙ append-nil w.0 ∙ F.1.1))
