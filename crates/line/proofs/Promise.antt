-- The line's promise (specs/Promise.antt), shown for every rule whose mark meets the conditions, and so for the two editions.
use Prim.Native.Nat.{ℕ, ◌-◌, ◌≤◌}
use native.Mathlib.Omega.{arith}
use mathlib.Core.Path.{refl, ap₂}
use mathlib.Core.List.{List}
use Rattle.octets.specs.Bytes.{Bytes}
use Rattle.frame.specs.Frame.{Rule, fixt, fix42, longest}
use Rattle.frame.specs.Reading.{refusal, Reads}
use Rattle.frame.specs.Mark.{MarkOk}
use Rattle.frame.proofs.Marks.{fixt_ok, fix42_ok}
use Rattle.frame.proofs.Pieces.{nothing_drained}
use Rattle.frame.proofs.Promise as Frame
use Rattle.line.specs.Line.{Line, line, pending, dropped, Hosted}
use Rattle.line.specs.Promise.{Within, Promise, FixtNumbers}
use Rattle.line.proofs.Hosted.{pending-fits, dropped-fits, hosted_fed, hosted_kept, hosted_lent, hosted_of, hosted_one}
use Rattle.line.proofs.Sparing.{hosted_sparing_fed, hosted_sparing_of, hosted_sparing_one, hosted_sparing_roomy}

module _ (R : Rule) (ok : MarkOk R.mark) where
  held_short : (l : Line) (d : ℕ) → Reads R (pending l) (refusal 1 d) → (dropped l d).held ≤ longest R - 1
  unfolding dropped
  held_short l d A = (Frame.promise R ok).pending_rest.refused (pending l) d A

  hosted_short : {buffer : Bytes} {l : Line} {xs : List Bytes} {fss : List (List Bytes)} → Hosted R (line buffer 0) xs fss l → l.held ≤ longest R - 1
  hosted_short {buffer} {l} H =
      let w : Within (line buffer 0) = omega arith in
      omega (arith, (Frame.promise R ok).pending_rest.kept (hosted_fed R ok w H), pending-fits l (hosted_kept R ok w H).fits)

  pub promise : Promise R
  promise =
      record {
        on_the_line =
            record {
              in_pieces = λ w H. hosted_fed R ok w H;
              ends = λ l xs r.
                  let w = hosted_of R ok l xs r in
                  record { it = (w.0, w.1.0); is = w.1.1; same = λ o u F G. let e = hosted_one R refl F G in ap₂ (λ x y. (x, y)) e.0 e.1 };
              goes_on = λ r H. hosted_lent R ok r H;
              some_room = λ l d r A. omega (arith, held_short l d A, dropped-fits l d r.within, r.wide);
              much_room = λ l d w A. omega (arith, held_short l d A, dropped-fits l d w);
            };
        readings_spared =
            record {
              in_pieces = λ H. hosted_sparing_fed R ok (omega arith) (nothing_drained R ok) H;
              ends = λ l xs r.
                  let w = hosted_sparing_of R ok l xs r in
                  record { it = (w.0, w.1.0); is = w.1.1; same = λ o u F G. let e = hosted_sparing_one R refl F G in ap₂ (λ x y. (x, y)) e.0 e.1 };
              goes_on = λ r H. hosted_sparing_roomy R ok r H;
            };
        pending_rest = record { held = held_short; hosted = λ H. hosted_short H };
      }

pub fixt_promise : Promise fixt
fixt_promise = promise fixt fixt_ok

pub fix42_promise : Promise fix42
fix42_promise = promise fix42 fix42_ok

pub fixt-numbers : FixtNumbers
unfolding fixt
fixt-numbers = record { room_left = λ l d w e A. omega (arith, fixt_promise.on_the_line.much_room l d w A) }
