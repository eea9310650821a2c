-- A report's groups are walked clean: each party, their count, and the side around them.
use Prim.Native.Nat.{ℕ, ◌+◌}
use native.Mathlib.Omega.{arith}
use mathlib.Core.Path.{◌≡◌, refl, ◌∙◌}
use mathlib.Core.List.{List, [], ◌∷◌, ◌++◌}
use mathlib.Core.Bool.{Bool, true, false, not}
use mathlib.Core.Option.{Option, none, some}
use lib.Dec.{eqb}
use lib.ListN.{length, drop}
use borrow.Author.Tests.{ne_eqb, eq-eqb}
use Rattle.octets.specs.Bytes.{Bytes, any, has, value, decimal}
use Rattle.octets.proofs.Decimals.{decimal-worth}
use Rattle.table.specs.declared.MsgType.TheVariants.{TradeCaptureReport}
use Rattle.table.specs.Dictionary.{№453, №580, №552, header, fields, groups_of, member, rows_of, in_dictionary}
use Rattle.dictionary.specs.Verdict.{Nothing, Clean, Open, incomplete, closing, closing_all, missing, walk, rule8, ◌when◌}
use Rattle.message.specs.Message.{number, bytes, Field, ◌is◌}
use Rattle.message.proofs.Cutting.{parts_of}
use Rattle.message.specs.Unfit.{unfit}
use Rattle.report.specs.Values.{Party, optional, members, group}
use Rattle.message.proofs.Accepted.{Accepted, accepted}
use Rattle.report.proofs.Taken.{here, later, fit_from}
use Rattle.report.proofs.Walking.{at, Known, step_inside}

quiet : (b : Bool) → (Nothing when b) ≡ Nothing
quiet true = refl
quiet false = refl

-- THE PARTIES
abbrev inner : ℕ → ℕ → List ℕ → Open
inner k i l = record { group = №453; count = k; begun = i; last = l }

known_448 : Known 448
unfolding in_dictionary rows_of header fields groups_of №453 №580 №552
known_448 = record { tag = refl; inside = refl; frame = refl }

known_447 : Known 447
unfolding in_dictionary rows_of header fields groups_of №453 №580 №552
known_447 = record { tag = refl; inside = refl; frame = refl }

known_452 : Known 452
unfolding in_dictionary rows_of header fields groups_of №453 №580 №552
known_452 = record { tag = refl; inside = refl; frame = refl }

module _ (seen : List ℕ) (gs : List Open) (k : ℕ) where
  step_448 : (i : ℕ) (l : List ℕ) (v : Bytes) → incomplete (inner k i l) ≡ Nothing → Accepted TradeCaptureReport 448 v → (ps : List Bytes)
      → walk TradeCaptureReport (at seen (inner k i l ∷ gs)) ((decimal 448 ++ (61 ∷ v)) ∷ ps) ≡ walk TradeCaptureReport (at seen (inner k (i + 1) (448 ∷ []) ∷ gs)) ps
  unfolding member header fields groups_of №453 №580 №552 rule8
  step_448 i l v whole A ps = step_inside seen (inner k i l) gs 448 v known_448 refl refl refl whole refl A ps

  step_447 : (i : ℕ) (v : Bytes) → Accepted TradeCaptureReport 447 v → (ps : List Bytes)
      → walk TradeCaptureReport (at seen (inner k (i + 1) (448 ∷ []) ∷ gs)) ((decimal 447 ++ (61 ∷ v)) ∷ ps) ≡ walk TradeCaptureReport (at seen (inner k (i + 1) (447 ∷ 448 ∷ []) ∷ gs)) ps
  unfolding member header fields groups_of №453 №580 №552 rule8
  step_447 i v A ps = step_inside seen (inner k (i + 1) (448 ∷ [])) gs 447 v known_447 refl refl refl refl (rw (ne_eqb (i + 1) 0 (λ e. omega arith))) A ps

  step_452 : (i : ℕ) (v : Bytes) → Accepted TradeCaptureReport 452 v → (ps : List Bytes)
      → walk TradeCaptureReport (at seen (inner k (i + 1) (447 ∷ 448 ∷ []) ∷ gs)) ((decimal 452 ++ (61 ∷ v)) ∷ ps) ≡ walk TradeCaptureReport (at seen (inner k (i + 1) (452 ∷ 447 ∷ 448 ∷ []) ∷ gs)) ps
  unfolding member header fields groups_of №453 №580 №552 rule8
  step_452 i v A ps = step_inside seen (inner k (i + 1) (447 ∷ 448 ∷ [])) gs 452 v known_452 refl refl refl refl (rw (ne_eqb (i + 1) 0 (λ e. omega arith))) A ps

  full : (i : ℕ) → incomplete (inner k i (452 ∷ 447 ∷ 448 ∷ [])) ≡ Nothing
  unfolding incomplete №453
  full i = quiet (not (eqb i 0))

  module _ (outer : closing_all gs ≡ Nothing) (All-there : missing (header ++ fields TradeCaptureReport) seen ≡ Nothing) where
    pub parties_clean : (ps : List Party) (i : ℕ) (l : List ℕ) → incomplete (inner k i l) ≡ Nothing → any (unfit TradeCaptureReport) (members ps) ≡ false → i + length ps ≡ k
        → walk TradeCaptureReport (at seen (inner k i l ∷ gs)) (parts_of (members ps)) ≡ Clean
    unfolding closing
    parties_clean [] i l whole fit e = rw (whole, eq-eqb i k (omega arith), outer, All-there)
    parties_clean (p ∷ ps) i l whole fit e =
        let f = fit_from TradeCaptureReport in
        let fs : List Field = members (p ∷ ps) in
        step_448 i l p.its448 whole (accepted TradeCaptureReport 448 p.its448 (here TradeCaptureReport (448 is bytes p.its448) (drop 1 fs) fit)) (parts_of (drop 1 fs))
        ∙ step_447 i p.its447 (accepted TradeCaptureReport 447 p.its447 (here TradeCaptureReport (447 is bytes p.its447) (drop 2 fs) (f 1 fs fit))) (parts_of (drop 2 fs))
        ∙ step_452 i p.its452 (accepted TradeCaptureReport 452 p.its452 (here TradeCaptureReport (452 is bytes p.its452) (drop 3 fs) (f 2 fs fit))) (parts_of (drop 3 fs))
        ∙ parties_clean ps (i + 1) (452 ∷ 447 ∷ 448 ∷ []) (full (i + 1)) (f 3 fs fit) (omega arith)

-- THE SIDE
abbrev pub side : ℕ → List ℕ → Open
side b l = record { group = №552; count = value (decimal 1); begun = b; last = l }

known_54 : Known 54
unfolding in_dictionary rows_of header fields groups_of №453 №580 №552
known_54 = record { tag = refl; inside = refl; frame = refl }

known_1427 : Known 1427
unfolding in_dictionary rows_of header fields groups_of №453 №580 №552
known_1427 = record { tag = refl; inside = refl; frame = refl }

known_453 : Known 453
unfolding in_dictionary rows_of header fields groups_of №453 №580 №552
known_453 = record { tag = refl; inside = refl; frame = refl }

side-closes : (l : List ℕ) → has l 54 ≡ true → closing (side 1 l) ≡ Nothing
unfolding closing incomplete №552
side-closes l h = rw (h, decimal-worth 1)

module _ (seen : List ℕ) (All-there : missing (header ++ fields TradeCaptureReport) seen ≡ Nothing) where
  step_54 : (v : Bytes) → Accepted TradeCaptureReport 54 v → (ps : List Bytes)
      → walk TradeCaptureReport (at seen (side 0 [] ∷ [])) ((decimal 54 ++ (61 ∷ v)) ∷ ps) ≡ walk TradeCaptureReport (at seen (side 1 (54 ∷ []) ∷ [])) ps
  unfolding member header fields groups_of №453 №580 №552 rule8 incomplete
  step_54 v A ps = step_inside seen (side 0 []) [] 54 v known_54 refl refl refl refl refl A ps

  step_1427 : (v : Bytes) → Accepted TradeCaptureReport 1427 v → (ps : List Bytes)
      → walk TradeCaptureReport (at seen (side 1 (54 ∷ []) ∷ [])) ((decimal 1427 ++ (61 ∷ v)) ∷ ps) ≡ walk TradeCaptureReport (at seen (side 1 (1427 ∷ 54 ∷ []) ∷ [])) ps
  unfolding member header fields groups_of №453 №580 №552 rule8
  step_1427 v A ps = step_inside seen (side 1 (54 ∷ [])) [] 1427 v known_1427 refl refl refl refl refl A ps

  module _ (l : List ℕ) (begun : has l 54 ≡ true) (first : has l 453 ≡ false) where
    step_453 : (v : Bytes) → Accepted TradeCaptureReport 453 v → (ps : List Bytes)
        → walk TradeCaptureReport (at seen (side 1 l ∷ [])) ((decimal 453 ++ (61 ∷ v)) ∷ ps) ≡ walk TradeCaptureReport (at seen (inner (value v) 0 [] ∷ side 1 (453 ∷ l) ∷ [])) ps
    unfolding member header fields groups_of №453 №580 №552 rule8
    step_453 v A ps = step_inside seen (side 1 l) [] 453 v known_453 refl refl refl refl (rw first) A ps

    none_yet : (k : ℕ) → incomplete (inner k 0 []) ≡ Nothing
    unfolding incomplete
    none_yet k = refl

    group_clean : (ps : List Party) → any (unfit TradeCaptureReport) (group ps) ≡ false → walk TradeCaptureReport (at seen (side 1 l ∷ [])) (parts_of (group ps)) ≡ Clean
    group_clean [] fit = rw (side-closes l begun, All-there)
    group_clean (p ∷ ps) fit =
        let n : Bytes = decimal (length (p ∷ ps)) in
        step_453 n (accepted TradeCaptureReport 453 n (here TradeCaptureReport (453 is number (length (p ∷ ps))) (members (p ∷ ps)) fit)) (parts_of (members (p ∷ ps)))
        ∙ parties_clean seen (side 1 (453 ∷ l) ∷ []) (value n) (rw (side-closes (453 ∷ l) begun)) All-there (p ∷ ps) 0 [] (none_yet (value n))
        (later TradeCaptureReport (453 is number (length (p ∷ ps))) (members (p ∷ ps)) fit) (omega (arith, decimal-worth (length (p ∷ ps))))

  pub side_clean : (v : Bytes) (o : Option Bytes) (ps : List Party) → any (unfit TradeCaptureReport) (54 is bytes v ∷ 1427 is optional o ∷ group ps) ≡ false
      → walk TradeCaptureReport (at seen (side 0 [] ∷ [])) (parts_of (54 is bytes v ∷ 1427 is optional o ∷ group ps)) ≡ Clean
  side_clean v o ps fit =
      step_54 v (accepted TradeCaptureReport 54 v (here TradeCaptureReport (54 is bytes v) (1427 is optional o ∷ group ps) fit)) (parts_of (1427 is optional o ∷ group ps))
      ∙ go o (later TradeCaptureReport (54 is bytes v) (1427 is optional o ∷ group ps) fit)
    where
      go : (x : Option Bytes) → any (unfit TradeCaptureReport) (1427 is optional x ∷ group ps) ≡ false
          → walk TradeCaptureReport (at seen (side 1 (54 ∷ []) ∷ [])) (parts_of (1427 is optional x ∷ group ps)) ≡ Clean
      go none f = group_clean (54 ∷ []) refl refl ps (later TradeCaptureReport (1427 is optional none) (group ps) f)
      go (some w) f =
          step_1427 w (accepted TradeCaptureReport 1427 w (here TradeCaptureReport (1427 is bytes w) (group ps) f)) (parts_of (group ps))
          ∙ group_clean (1427 ∷ 54 ∷ []) refl refl ps (later TradeCaptureReport (1427 is bytes w) (group ps) f)
