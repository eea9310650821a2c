-- One reading's outcome, from what a search from the left has seen: no position behind it is live.
use Prim.Native.Nat.{ℕ, ◌-◌, ◌<◌}
use native.Mathlib.Decide.{dec_lt}
use native.Mathlib.Omega.{arith}
use mathlib.Core.Path.{refl}
use mathlib.Core.Logic.{inl, inr}
use lib.ListN.{length, get_or}
use Rattle.octets.specs.Bytes.{Bytes}
use Rattle.octets.specs.code.Leaf.{NextStart}
use Rattle.frame.specs.Frame.{Rule, GoodAt, Live}
use Rattle.frame.specs.Reading.{Unfinished}
use Rattle.frame.specs.code.Walk.{Open, Ended, Past, FoundAt}
use Rattle.frame.specs.Mark.{MarkOk}
use Rattle.frame.proofs.Good.{good_at_length, good_live, open_none}
use Rattle.frame.proofs.AtMark.{live_byte}

module _ (R : Rule) (s : Bytes) where
  -- no position before p is live
  abbrev pub Dead : ℕ → Type 0
  Dead p = (q : ℕ) → q < p → Live R s q → ⊥

  -- positions without the mark's fifth byte four bytes behind are not live
  pub dead_further : MarkOk R.mark → (p q : ℕ) → NextStart s p (get_or R.mark 4 0) q → Dead p → Dead q
  dead_further ok p q F dead i l w = go (dec_lt i p)
    where
      go : Dec (i < p) → ⊥
      go (yes y) = dead i y w
      go (no y) = F.none i l (omega arith) (live_byte R s i 4 (F.inside i l (omega arith)) (omega (arith, ok.long)) w)

  -- nor are those that a wrong candidate leaves behind
  pub dead_past : (p n : ℕ) → Past R s p n → Dead p → Dead n
  dead_past p n F dead q l w = go (dec_lt q p)
    where
      go : Dec (q < p) → ⊥
      go (yes y) = dead q y w
      go (no y) = F.none q l (omega arith) w

  pub hand_frame : (p e : ℕ) → Ended R s p e → Dead p → FoundAt R s (e - p) p
  hand_frame p e E dead =
      let z = good_at_length R E.good_at in
      record { frame = λ h. record { here = E.good_at; left = λ q m l H. dead q l (good_live R H) }; none = λ h. absurd (omega (arith, z.0)) }

  refused : (d : ℕ) → Unfinished R s d → FoundAt R s 0 d
  refused d U = record { frame = λ h. absurd (omega arith); none = λ h. (refl, U) }

  pub hand_none : Dead (length s) → FoundAt R s 0 (length s)
  hand_none dead =
      refused (length s)
      (record {
        none = λ q m H. dead q (omega (arith, H.inside, (good_at_length R H).0)) (good_live R H);
        dead = dead;
        stop = inl refl;
      })

  pub hand_open : (p : ℕ) → p < length s → Dead p → Open R s p → FoundAt R s 0 p
  hand_open p l dead o = refused p (record { none = nowhere; dead = dead; stop = inr (l, o.live) })
    where
      nowhere : (q m : ℕ) → GoodAt R s q m → ⊥
      nowhere q m H = go (dec_lt q p)
        where
          go : Dec (q < p) → ⊥
          go (yes k) = dead q k (good_live R H)
          go (no k) = open_none R o (omega arith) H
