-- The frame layer's promise (specs/Promise.antt), shown for every rule whose mark meets the conditions, and so for the two editions.
use Prim.Native.Nat.{ℕ, ◌+◌, ◌-◌, ◌≤◌, ◌<◌}
use native.Mathlib.Decide.{dec_lt}
use native.Mathlib.Omega.{arith}
use mathlib.Core.Path.{◌≡◌, refl, sym, ap, ap₂, ◌∙◌}
use mathlib.Core.Logic.{◌⊎◌, inl, inr}
use mathlib.Core.List.{[], ◌∷◌, ◌++◌, append_assoc, append-nil, append_cancel_left}
use lib.Dec.{lit≤}
use lib.ListN.{length, length-append, length-drop}
use Rattle.octets.specs.Bytes.{Bytes, fix, value, writes}
use Rattle.octets.proofs.Numerals.{written_means, row_digits, split_digits}
use Rattle.frame.specs.Frame.{Rule, fixt, fix42, longest_body, Length, Good, GoodAt, longest}
use Rattle.frame.specs.Reading.{refusal, Reads}
use Rattle.frame.specs.Mark.{MarkOk}
use Rattle.frame.specs.Promise.{SameFrame, NoOverlap, Promise, FixtNumbers}
use Rattle.frame.proofs.Good.{good_longest, good_shortest, good_length, good_digits, good_split, good_unique, same_length}
use Rattle.frame.proofs.Unique.{reads_one}
use Rattle.frame.proofs.Marks.{fixt_ok, fix42_ok}
use Rattle.frame.proofs.Complete.{Comp, comp_fields}
use Rattle.frame.proofs.Apart.{apart}
use Rattle.frame.proofs.Readable.{reads_of}
use Rattle.frame.proofs.Streams.{frames_at, frames_one, frames_of, are_frames, frames_join}
use Rattle.frame.proofs.Worked.{rest_short}
use Rattle.frame.proofs.Pieces.{frames_so_far, frames_cut, fed_of, fed_one, fed_short, comes_out, some_piece}
use Rattle.frame.proofs.NoBar.{refused_again, with_the_next}

module _ (R : Rule) (ok : MarkOk R.mark) where
  -- ---- two good frames
  same_or_apart : {s : Bytes} {p n q m : ℕ} → GoodAt R s p n → GoodAt R s q m → SameFrame p n q m ⊎ NoOverlap p n q m
  same_or_apart {s} {p} {n} {q} {m} F G = go (dec_lt p q) (dec_lt q p)
    where
      left : p < q → Dec (q < p + n) → NoOverlap p n q m
      left l (yes h) = absurd (apart R ok F G l h)
      left l (no h) = inl (omega arith)

      right : q < p → Dec (p < q + m) → NoOverlap p n q m
      right l (yes h) = absurd (apart R ok G F l h)
      right l (no h) = inr (omega arith)

      go : Dec (p < q) → Dec (q < p) → SameFrame p n q m ⊎ NoOverlap p n q m
      go (yes l) k = inr (left l (dec_lt q (p + n)))
      go (no l) (yes k) = inr (right k (dec_lt p (q + m)))
      go (no l) (no k) = let e : p ≡ q = omega arith in inl (e, good_unique R (rw e at F) G)

  no_beginning : (g t : Bytes) → Good R g → Good R (g ++ t) → t ≡ []
  no_beginning g t G H = empty t (omega (arith, same_length R g (g ++ t) t [] G H (sym (append-nil (g ++ t))), length-append g t))
    where
      empty : (l : Bytes) → length l ≡ 0 → l ≡ []
      empty [] e = refl
      empty (x ∷ l) e = absurd (omega arith)

  -- ---- the longest frame: a body of 2,048 bytes, its length written in all the digits that it may have
  longest_good : (ds : Bytes) → Length R ds → length ds ≡ R.size.most → value ds ≡ longest_body → (g : Bytes) × Good R g × (length g ≡ longest R)
  longest_good ds L n v = (g, w.good, omega (arith, good_length R g w.good, ap length digits, ap value digits))
    where
      w : Comp R ok (R.mark ++ (ds ++ (1 ∷ [])))
      w = comp_fields R ok ds [] L (omega (arith, v)) (λ i k _. absurd (omega arith)) (λ q a. omega (arith, a.0, ok.long)) (λ i. omega arith)

      g : Bytes
      g = R.mark ++ (ds ++ (1 ∷ [])) ++ w.rest

      regroup : (m d r : Bytes) → m ++ (d ++ (1 ∷ [])) ++ r ++ [] ≡ m ++ (d ++ (1 ∷ (r ++ [])))
      regroup m d r = simp append_assoc

      digits : ds ≡ w.good.digits
      digits =
          split_digits ds w.good.digits _ _ (row_digits ds (written_means R.size ds L.written).whole) (good_digits R g w.good)
          (append_cancel_left R.mark _ _ (sym (regroup R.mark ds w.rest) ∙ good_split R g [] w.good))

  -- ---- the pending rest
  refused_short : (s : Bytes) (d : ℕ) → Reads R s (refusal 1 d) → length s - d ≤ longest R - 1
  refused_short s d A = omega (arith, rest_short R ok s A.1, length-drop d s)

  -- ---- the promise
  pub promise : Promise R
  promise =
      record {
        one_reading = λ s. let w = reads_of R ok s in record { it = w.0; is = w.1; same = reads_one R s };
        frames_apart = record { apart = same_or_apart; no_beginning = no_beginning };
        whole_stream =
            record {
              one_list = λ s. let w = frames_of R ok s in record { it = w.0; is = w.1; same = λ fs gs F G. frames_one R refl F G };
              around = λ a g b G F H. frames_join R ok g G F H;
            };
        in_pieces =
            record {
              one_outcome = λ xs.
                  let w = fed_of R ok [] xs in
                  record { it = (w.0, w.1.0); is = w.1.1; same = λ o u F G. let e = fed_one R ok refl F G in ap₂ (λ x y. (x, y)) e.0 e.1 };
              whole = λ F. frames_at R refl (sym (frames_cut R ok F)) (are_frames R ok _);
              so_far = λ F k. frames_at R refl (sym (frames_so_far R ok F k)) (are_frames R ok _);
              comes_out = λ F. comes_out R ok F;
              some_piece = λ xs a g b G. some_piece xs a g b (omega (arith, good_shortest R g G));
            };
        without_bar = record { refused_again = refused_again R ok; with_the_next = λ x y A bar F. with_the_next R ok x y A bar F };
        longest_frame = record { none_longer = good_longest R; attained = longest_good };
        pending_rest = record { refused = refused_short; kept = λ F. omega (arith, fed_short R ok F) };
      }

pub fixt_promise : Promise fixt
fixt_promise = promise fixt fixt_ok

pub fix42_promise : Promise fix42
fix42_promise = promise fix42 fix42_ok

pub fixt-numbers : FixtNumbers
unfolding fixt writes
fixt-numbers =
    record {
      none_longer = fixt_promise.longest_frame.none_longer;
      attained = fixt_promise.longest_frame.attained (fix "002048") (record { written = refl; low = lit≤ tt; high = lit≤ tt }) refl refl;
      refused = fixt_promise.pending_rest.refused;
    }
