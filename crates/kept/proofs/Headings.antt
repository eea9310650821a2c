-- The heading of a place, piece by piece.
-- Assumes nothing.
use Prim.Native.Nat.{◌+◌}
use mathlib.Core.Path.{refl}
use mathlib.Core.List.{◌++◌}
use lib.ListN.{length}
use Rattle.octets.specs.Bytes.{Bytes, fix, At}
use Rattle.kept.specs.code.Walk.{heading}
use Rattle.kept.proofs.Behind.{at_join, at_first, at_second}

module _ (us them s : Bytes) where
  pub record Pieces : Type 0 where
    pub label_49 : At s 16 (fix "|35=AE|49=")
    pub its_49 : At s 26 us
    pub label_56 : At s (26 + length us) (fix "|56=")
    pub its_56 : At s (26 + length us + 4) them
    pub label_34 : At s (26 + length us + 4 + length them) (fix "|34=")

  pub pieces : At s 16 (heading us them) → Pieces
  pieces A =
      let B = at_second s 16 (fix "|35=AE|49=") (us ++ (fix "|56=" ++ (them ++ fix "|34="))) 26 refl A in
      let C = at_second s 26 us (fix "|56=" ++ (them ++ fix "|34=")) (26 + length us) refl B in
      let D = at_second s (26 + length us) (fix "|56=") (them ++ fix "|34=") (26 + length us + 4) refl C in
      record {
        label_49 = at_first s 16 (fix "|35=AE|49=") (us ++ (fix "|56=" ++ (them ++ fix "|34="))) A;
        its_49 = at_first s 26 us (fix "|56=" ++ (them ++ fix "|34=")) B;
        label_56 = at_first s (26 + length us) (fix "|56=") (them ++ fix "|34=") C;
        its_56 = at_first s (26 + length us + 4) them (fix "|34=") D;
        label_34 = at_second s (26 + length us + 4) them (fix "|34=") (26 + length us + 4 + length them) refl D;
      }

  pub whole_heading : Pieces → At s 16 (heading us them)
  whole_heading P =
      let D = at_join s (26 + length us + 4) them (fix "|34=") (26 + length us + 4 + length them) refl P.its_56 P.label_34 in
      let C = at_join s (26 + length us) (fix "|56=") (them ++ fix "|34=") (26 + length us + 4) refl P.label_56 D in
      let B = at_join s 26 us (fix "|56=" ++ (them ++ fix "|34=")) (26 + length us) refl P.its_49 C in
      at_join s 16 (fix "|35=AE|49=") (us ++ (fix "|56=" ++ (them ++ fix "|34="))) 26 refl P.label_49 B
