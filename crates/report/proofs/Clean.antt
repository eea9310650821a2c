-- A report that our call writes has a clean verdict.
use Prim.Native.Nat.{ℕ}
use mathlib.Core.Path.{◌≡◌, refl, sym, ap, ◌∙◌}
use mathlib.Core.List.{List, [], ◌∷◌, ◌++◌}
use mathlib.Core.Bool.{Bool, true, false, not, ◌&&◌}
use mathlib.Core.Option.{Option, none, some}
use lib.Dec.{eqb}
use lib.ListN.{take, drop}
use Rattle.octets.specs.Bytes.{Bytes, fix, any, has, within, decimal}
use Rattle.octets.proofs.Tests.{both, neither, any_append}
use Rattle.calendar.specs.Time.{utc}
use Rattle.table.specs.declared.MsgType.TheVariants.{TradeCaptureReport}
use Rattle.table.specs.Dictionary.{Group, №453, №580, №552, header, fields, listed, groups_of, member, rows_of, frame_tag, in_dictionary}
use Rattle.dictionary.specs.Verdict.{Nothing, Clean, Open, opened, missing, walk}
use Rattle.message.specs.Message.{number, bytes, Field, ◌is◌, shown}
use Rattle.message.proofs.Clean.{meet}
use Rattle.message.proofs.Cutting.{parts_of, with_part}
use Rattle.message.specs.Unfit.{unwritable, unfit}
use Rattle.report.specs.Values.{Values, optional, own}
use Rattle.report.specs.Report.{fields_with}
use borrow.Author.Tests.{not-true}
use Rattle.message.proofs.Accepted.{Accepted, accepted}
use Rattle.report.proofs.Taken.{here, later, fit_from}
use Rattle.report.proofs.Walking.{at, Known, step_outside}
use Rattle.report.proofs.Groups.{side, side_clean}

-- OUTSIDE THE GROUPS: a tag behind others, of which some may be absent
unfoldable pub in_place : List ℕ → ℕ → Bool
in_place past t =
    within 1 99_999 t && (in_dictionary t && (not (frame_tag t) && (not (member TradeCaptureReport t) && (not (has past t) &&
    (not (listed header t && any (λ s. not (listed header s)) past) && not (any (λ (g : Group). eqb g.counter t) (groups_of TradeCaptureReport)))))))

abbrev pub in_order : List ℕ → List Field → Bool
in_order past [] = true
in_order past ((t is v) ∷ fs) = in_place past t && in_order (t ∷ past) fs

abbrev met : List ℕ → List Field → List ℕ
met seen [] = seen
met seen ((t is v) ∷ fs) = met (meet t (shown v) seen) fs

opened_none : (gs : List Group) (t : ℕ) (v : Bytes) → any (λ (g : Group). eqb g.counter t) gs ≡ false → opened gs t v ≡ []
opened_none [] t v h = refl
opened_none (g ∷ gs) t v h = let w = neither (eqb g.counter t) (any (λ (g : Group). eqb g.counter t) gs) h in rw (w.0, opened_none gs t v w.1)

outside_walk : (fs rest : List Field) (past seen : List ℕ) → in_order past fs ≡ true → ((p : ℕ → Bool) → any p past ≡ false → any p seen ≡ false)
    → any (unfit TradeCaptureReport) fs ≡ false → walk TradeCaptureReport (at seen []) (parts_of (fs ++ rest)) ≡ walk TradeCaptureReport (at (met seen fs) []) (parts_of rest)
unfolding in_place
outside_walk [] rest past seen h less fit = refl
outside_walk ((t is v) ∷ fs) rest past seen h less fit =
    let a = both (in_place past t) (in_order (t ∷ past) fs) h in
    let b1 = both (within 1 99_999 t) _ a.0 in
    let b2 = both (in_dictionary t) _ b1.1 in
    let b3 = both (not (frame_tag t)) _ b2.1 in
    let b4 = both (not (member TradeCaptureReport t)) _ b3.1 in
    let b5 = both (not (has past t)) _ b4.1 in
    let b6 = both (not (listed header t && any (λ s. not (listed header s)) past)) (not (any (λ (g : Group). eqb g.counter t) (groups_of TradeCaptureReport))) b5.1 in
    go (shown v) (here TradeCaptureReport (t is v) fs fit) (record { tag = b1.0; inside = b2.0; frame = not-true _ b3.0 }) (not-true _ b4.0)
    (less (λ y. eqb y t) (not-true _ b5.0)) (early (listed header t) (not-true _ b6.0)) (not-true _ b6.1)
    (λ sn k. outside_walk fs rest (t ∷ past) sn a.1 k (later TradeCaptureReport (t is v) fs fit))
  where
    early : (b : Bool) → (b && any (λ s. not (listed header s)) past) ≡ false → (b && any (λ s. not (listed header s)) seen) ≡ false
    early true k = less (λ s. not (listed header s)) k
    early false k = refl

    wider : (p : ℕ → Bool) → any p (t ∷ past) ≡ false → any p (t ∷ seen) ≡ false
    wider p k = let w = neither (p t) (any p past) k in rw w.0 (less p w.1)

    same_still : (p : ℕ → Bool) → any p (t ∷ past) ≡ false → any p seen ≡ false
    same_still p k = less p (neither (p t) (any p past) k).1

    go : (o : Option Bytes) → unwritable TradeCaptureReport t o ≡ false → Known t → member TradeCaptureReport t ≡ false → has seen t ≡ false
        → (listed header t && any (λ s. not (listed header s)) seen) ≡ false → any (λ (g : Group). eqb g.counter t) (groups_of TradeCaptureReport) ≡ false
        → ((sn : List ℕ) → ((p : ℕ → Bool) → any p (t ∷ past) ≡ false → any p sn ≡ false) → walk TradeCaptureReport (at sn []) (parts_of (fs ++ rest)) ≡ walk TradeCaptureReport (at (met sn fs) []) (parts_of rest))
        → walk TradeCaptureReport (at seen []) (with_part t o (parts_of (fs ++ rest))) ≡ walk TradeCaptureReport (at (met (meet t o seen) fs) []) (parts_of rest)
    go none u K m f e n ih = ih seen same_still
    go (some w) u K m f e n ih =
        step_outside seen t w K m f e (accepted TradeCaptureReport t w u) (parts_of (fs ++ rest))
        ∙ ap (λ (gs : List Open). walk TradeCaptureReport (at (t ∷ seen) gs) (parts_of (fs ++ rest))) (opened_none (groups_of TradeCaptureReport) t w n)
        ∙ ih (t ∷ seen) wider

-- THE WHOLE MESSAGE, sent (no 43, no 122) or sent again
abbrev outer : Bytes → Bytes → ℕ → Option Bytes → ℕ → Option Bytes → Values → List Field
outer us them n dup t orig v =
    35 is bytes (fix "AE") ∷ 49 is bytes us ∷ 56 is bytes them ∷ 34 is number n ∷ 43 is optional dup ∷ 52 is bytes (utc t) ∷ 122 is optional orig ∷ take 9 (own v)

abbrev seen_by : Option Bytes → Option Bytes → Option Bytes → List ℕ
seen_by d o s =
    22 ∷ 48 ∷ 574 ∷ meet 64 (shown (optional s)) (31 ∷ 32 ∷ 60 ∷ 828 ∷ 571 ∷ meet 122 (shown (optional o)) (52 ∷ meet 43 (shown (optional d)) (34 ∷ 56 ∷ 49 ∷ 35 ∷ [])))

fresh_552 : (d o s : Option Bytes) → has (seen_by d o s) 552 ≡ false
fresh_552 none none none = refl
fresh_552 none none (some c) = refl
fresh_552 none (some b) none = refl
fresh_552 none (some b) (some c) = refl
fresh_552 (some a) none none = refl
fresh_552 (some a) none (some c) = refl
fresh_552 (some a) (some b) none = refl
fresh_552 (some a) (some b) (some c) = refl

all_there : (d o s : Option Bytes) → missing (header ++ fields TradeCaptureReport) (552 ∷ seen_by d o s) ≡ Nothing
unfolding header fields №552
all_there none none none = refl
all_there none none (some c) = refl
all_there none (some b) none = refl
all_there none (some b) (some c) = refl
all_there (some a) none none = refl
all_there (some a) none (some c) = refl
all_there (some a) (some b) none = refl
all_there (some a) (some b) (some c) = refl

known_552 : Known 552
unfolding in_dictionary rows_of header fields groups_of №453 №580 №552
known_552 = record { tag = refl; inside = refl; frame = refl }

module _ (us them : Bytes) (n : ℕ) (dup : Option Bytes) (t : ℕ) (orig : Option Bytes) (v : Values)
    (head_fit : any (unfit TradeCaptureReport) (take 7 (outer us them n dup t orig v)) ≡ false) (own-fits : any (unfit TradeCaptureReport) (own v) ≡ false) where
  in_order_lem : in_order [] (outer us them n dup t orig v) ≡ true
  unfolding in_place in_dictionary rows_of header fields groups_of member №453 №580 №552
  in_order_lem = refl

  outer_fits : any (unfit TradeCaptureReport) (outer us them n dup t orig v) ≡ false
  outer_fits =
      any_append (unfit TradeCaptureReport) (take 7 (outer us them n dup t orig v)) (take 9 (own v))
      ∙ rw head_fit (neither (any (unfit TradeCaptureReport) (take 9 (own v))) (any (unfit TradeCaptureReport) (drop 9 (own v)))
      (sym (any_append (unfit TradeCaptureReport) (take 9 (own v)) (drop 9 (own v))) ∙ own-fits)).0

  step_552 : (seen : List ℕ) → has seen 552 ≡ false → Accepted TradeCaptureReport 552 (decimal 1) → (ps : List Bytes)
      → walk TradeCaptureReport (at seen []) ((decimal 552 ++ (61 ∷ decimal 1)) ∷ ps) ≡ walk TradeCaptureReport (at (552 ∷ seen) (side 0 [] ∷ [])) ps
  unfolding member header fields groups_of №453 №580 №552
  step_552 seen f A ps = step_outside seen 552 (decimal 1) known_552 refl f refl A ps

  pub walk_clean : walk TradeCaptureReport (at [] []) (parts_of (fields_with us them n (optional dup) t (optional orig) v)) ≡ Clean
  walk_clean =
      let seen : List ℕ = seen_by dup orig v.its64 in
      let rest : List Field = drop 10 (own v) in
      let fit : any (unfit TradeCaptureReport) (drop 9 (own v)) ≡ false = fit_from TradeCaptureReport 9 (own v) own-fits in
      outside_walk (outer us them n dup t orig v) (drop 9 (own v)) [] [] in_order_lem (λ p k. k) outer_fits
      ∙ step_552 seen (fresh_552 dup orig v.its64) (accepted TradeCaptureReport 552 (decimal 1) (here TradeCaptureReport (552 is number 1) rest fit)) (parts_of rest)
      ∙ side_clean (552 ∷ seen) (all_there dup orig v.its64) v.its54 v.its1427 v.parties (later TradeCaptureReport (552 is number 1) rest fit)
