-- The required tags of some rows that are not marked, from one row to the next.
use Prim.Native.Nat.{ℕ, suc, ◌+◌, ◌<◌}
use native.Mathlib.Omega.{arith}
use native.Mathlib.Numerals.{add-one}
use borrow.Author.Tests.{eqb-true, ltb-true}
use mathlib.Core.Path.{◌≡◌, refl, ap, sym, ◌∙◌}
use mathlib.Core.List.{List, [], ◌∷◌}
use mathlib.Core.Bool.{Bool, true, false, not, ◌&&◌, and-false, false≢true}
use mathlib.Core.Option.{some}
use lib.Dec.{eqb, ltb}
use lib.ListN.{length, drop, get_or, length-drop}
use lib.Seq.{drop-cons}
use Rattle.octets.specs.Bytes.{has}
use Rattle.octets.proofs.Tests.{both}
use Rattle.kinds.specs.Kind.{day}
use Rattle.table.specs.Dictionary.{Row}
use Rattle.table.specs.code.Held.{tag_count, agree, tag_at, right_row, right_rows, unmet, Marked}
use Rattle.table.specs.declared.rows.Listed.{Listed}
use Rattle.table.proofs.Lists.{agree_true}

rows_long : (l : List Listed) (rs : List Row) → right_rows l rs ≡ true → length l ≡ length rs
rows_long [] [] h = refl
rows_long [] (r ∷ rs) h = absurd (false≢true h)
rows_long (x ∷ l) [] h = absurd (false≢true h)
rows_long (x ∷ l) (r ∷ rs) h = ap suc (rows_long l rs (both (right_row x r) (right_rows l rs) h).1)

module _ (l : List Listed) (rs : List Row) (k : ℕ) (d : Listed) (n : k < length l) (h : right_rows (drop k l) (drop k rs) ≡ true) where
  void : Row
  void = record { tag = 0; kind = day; required = false }

  at : Listed
  at = get_or l k d

  row : Row
  row = get_or rs k void

  longer : k < length rs
  longer = omega (arith, n, length-drop k l, length-drop k rs, rows_long (drop k l) (drop k rs) h)

  front : drop k l ≡ at ∷ drop (k + 1) l
  unfolding at
  front = drop-cons l k d n ∙ ap (λ (i : ℕ). get_or l k d ∷ drop i l) (sym (add-one k))

  line : drop k rs ≡ row ∷ drop (k + 1) rs
  unfolding row
  line = drop-cons rs k void longer ∙ ap (λ (i : ℕ). get_or rs k void ∷ drop i rs) (sym (add-one k))

  one : right_rows (at ∷ drop (k + 1) l) (row ∷ drop (k + 1) rs) ≡ true
  one = sym (ap (λ (u : List Listed). right_rows u (row ∷ drop (k + 1) rs)) front) ∙ sym (ap (right_rows (drop k l)) line) ∙ h

  pub rest : right_rows (drop (k + 1) l) (drop (k + 1) rs) ≡ true
  rest = (both (right_row at row) _ one).1

  right : right_row at row ≡ true
  right = (both (right_row at row) _ one).0

  two : (ltb at.place tag_count ≡ true) × (eqb (tag_at at.place) row.tag ≡ true)
  two = let b = both (ltb at.place tag_count) _ (both (agree at.required row.required) _ right).1 in (b.0, b.1)

  pub place_small : (get_or l k d).place < tag_count
  unfolding at
  place_small = ltb-true _ tag_count two.0

  module _ (marks : List Bool) (met : List ℕ) (M : Marked marks met) where
    lacks_is : (at.required && not (get_or marks at.place false)) ≡ (row.required && not (has met row.tag))
    unfolding at
    lacks_is =
        let a = agree_true at.required row.required (both (agree at.required row.required) _ right).0 in
        let b = M.at at.place place_small ∙ ap (has met) (eqb-true (tag_at at.place) row.tag two.1) in
        rw (a, b)

    pub needed_met : ((get_or l k d).required && not (get_or marks (get_or l k d).place false)) ≡ false → unmet (drop k rs) met ≡ unmet (drop (k + 1) rs) met
    unfolding at row
    needed_met f = rw (line, sym lacks_is ∙ f)

    pub needed_not : ((get_or l k d).required && not (get_or marks (get_or l k d).place false)) ≡ true → unmet (drop k rs) met ≡ some (tag_at (get_or l k d).place)
    unfolding at row
    needed_not f = rw (line, sym lacks_is ∙ f, eqb-true (tag_at at.place) row.tag two.1)

    -- by either of the two tests
    pub passed : (get_or l k d).required ≡ false → unmet (drop k rs) met ≡ unmet (drop (k + 1) rs) met
    passed e = needed_met (ap (λ (b : Bool). b && not (get_or marks (get_or l k d).place false)) e)

    pub met_one : get_or marks (get_or l k d).place false ≡ true → unmet (drop k rs) met ≡ unmet (drop (k + 1) rs) met
    met_one e = needed_met (ap (λ (b : Bool). (get_or l k d).required && not b) e ∙ and-false (get_or l k d).required)
