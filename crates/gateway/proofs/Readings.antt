-- The border's answers of reading and judging, from the cases of the enums. Assumes nothing.
use Prim.Native.Nat.{ℕ}
use mathlib.Core.Path.{◌≡◌, refl, sym, ap, ◌∙◌, subst}
use mathlib.Core.List.{List, [], ◌∷◌}
use mathlib.Core.Bool.{true, false}
use Rattle.octets.specs.Bytes.{Bytes}
use Rattle.frame.specs.Frame.{fixt}
use Rattle.frame.specs.Reading.{frame, refusal, numbers}
use Rattle.frame.specs.Reading as Frames
use Rattle.frame.specs.declared.Found.{Found}
use Rattle.frame.specs.declared.NoFrame.{NoFrame}
use Rattle.std.specs.Prelude.{Result, Ok, Err}
use Rattle.fields.specs.Field.{is_body}
use Rattle.fields.specs.Item.{field_at}
use Rattle.fields.specs.Item as Item
use Rattle.fields.specs.First.{Place, First, place_numbers}
use Rattle.fields.specs.declared.Item.{Item}
use Rattle.dictionary.specs.Verdict.{Verdict, verdict}
use Rattle.dictionary.specs.Verdict as Verdict
use Rattle.readback.specs.Back.{Reads}
use Rattle.readback.specs.Back as ReadBack
use Rattle.dictionary.specs.declared.Unclean.TheVariants as Unclean
use mathlib.Core.Option.{Option}
use Rattle.border.specs.Numbers.{refusal_of, in_words, any_of}
use Rattle.gateway.specs.Border.{ReadOut, part, FieldOut, FirstOut, VerdictOut, ReportValuesOut}

pub read-frame : {s : Bytes} {x : Result Found NoFrame} {f : Found} → x ≡ Ok f → Frames.Reads fixt s (numbers x) → ReadOut s 0 (f.skip ∷ f.len ∷ [])
read-frame {s} {f = f} e A =
    record { answer = frame f.skip f.len; reads = subst (λ (y : Result Found NoFrame). Frames.Reads fixt s (numbers y)) e A; number = refl; words = refl }

pub read_none : {s : Bytes} {x : Result Found NoFrame} {f : NoFrame} → x ≡ Err f → Frames.Reads fixt s (numbers x) → ReadOut s 1 (f.drop ∷ 0 ∷ [])
read_none {s} {f = f} e A =
    record { answer = refusal 1 f.drop; reads = subst (λ (y : Result Found NoFrame). Frames.Reads fixt s (numbers y)) e A; number = refl; words = refl }

pub field_is : (body : Bytes) (at : ℕ) {x y : Item} → x ≡ field_at body at → x ≡ y → FieldOut body at (refusal_of (Item.numbers y)) (part y ∷ in_words 4 (Item.numbers y))
field_is body at e is =
    let z = sym is ∙ e in
    record { number = ap (λ (i : Item). refusal_of (Item.numbers i)) z; words = ap (λ (i : Item). part i ∷ in_words 4 (Item.numbers i)) z }

pub first_none : (body : Bytes) (tag : ℕ) → is_body body ≡ false → FirstOut body tag 10 (0 ∷ 0 ∷ 0 ∷ [])
first_none body tag e = record { number = rw e; words = rw e }

pub first_is : (body : Bytes) (tag : ℕ) {x y : Place} → is_body body ≡ true → First tag body x → x ≡ y → FirstOut body tag (refusal_of (place_numbers y)) (any_of (place_numbers y) ∷ in_words 2 (place_numbers y))
first_is body tag b F is =
    let z = sym is ∙ F.is in
    record { number = rw (b, z); words = rw (b, z) }

-- the number and the words of a verdict are the same for the reader of a report's values
same_numbers : (v : Verdict) → ReadBack.numbers v ≡ Verdict.numbers v
unfolding Verdict.numbers
same_numbers (Ok x) = refl
same_numbers (Err (Unclean.Found f)) = refl
same_numbers (Err Unclean.NoBody) = refl

pub verdict_is : (body : Bytes) {x : Verdict} {r : ℕ} {out : List ℕ} → x ≡ verdict body → (r ≡ refusal_of (ReadBack.numbers x)) × (out ≡ any_of (ReadBack.numbers x) ∷ in_words 2 (ReadBack.numbers x)) → VerdictOut body r out
verdict_is body {x} e J =
    let n = same_numbers x ∙ ap Verdict.numbers e in
    record { number = J.0 ∙ ap refusal_of n; words = J.1 ∙ ap (λ (a : Option ℕ × List ℕ). any_of a ∷ in_words 2 a) n }

pub report-values_are : (body : Bytes) {x : Verdict} {r : ℕ} {values out : List ℕ} → Reads body x values → (r ≡ refusal_of (ReadBack.numbers x)) × (out ≡ any_of (ReadBack.numbers x) ∷ in_words 2 (ReadBack.numbers x)) → ReportValuesOut body r values out
report-values_are body A J =
    let n = ap ReadBack.numbers A.answer in
    record { number = J.0 ∙ ap refusal_of n; values_are = A.words_are; words = J.1 ∙ ap (λ (a : Option ℕ × List ℕ). any_of a ∷ in_words 2 a) n }
