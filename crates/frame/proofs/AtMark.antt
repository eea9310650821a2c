-- A candidate's first bytes beside the mark; and what a live position gives to compare with, part by part.
use Prim.Native.Nat.{ℕ, ◌+◌, ◌≤◌, ◌<◌}
use native.Mathlib.Omega.{arith}
use mathlib.Core.Path.{◌≡◌, sym, ap, ap₂, ◌∙◌, subst}
use mathlib.Core.List.{◌∷◌, ◌++◌, append_assoc, append_cancel_left, tail-eq_of_cons-eq}
use lib.ListN.{length, take, drop, get_or, length-drop, take-append-drop, get_or-append}
use lib.Seq.{get_or-drop, get_or-take, drop-append-le, ext_get_or, length-take-le, drop-drop}
use Rattle.octets.specs.Bytes.{Bytes, At}
use Rattle.octets.specs.code.Leaf.{Matched}
use Rattle.octets.proofs.Lists.{matched_at, bytes_at}
use Rattle.octets.proofs.Numerals.{Digits, split_digits}
use Rattle.frame.specs.Frame.{Rule, Good, Live, trailer, sum_of}
use Rattle.frame.specs.code.Walk.{MarkSeen, Open}
use Rattle.frame.specs.Mark.{MarkOk}
use Rattle.frame.proofs.Good.{good_split, good_digits}
use Rattle.frame.proofs.Complete.{Comp, open_of, comp_more, comp_mark}

pub at_drop : (s : Bytes) (p : ℕ) (l : Bytes) → At s p l → drop p s ≡ l ++ drop (p + length l) s
at_drop s p l a =
    sym (take-append-drop (length l) (drop p s)) ∙ ap₂ (λ (x y : Bytes). x ++ y) a.1 (drop-drop (length l) p s)

-- two ways to read one list agree at an index within both beginnings
pub agree : (r t l v : Bytes) (i : ℕ) → r ++ t ≡ l ++ v → i < length r → i < length l → get_or r i 0 ≡ get_or l i 0
agree r t l v i e h k = sym (get_or-append r t 0 i h) ∙ ap (λ (x : Bytes). get_or x i 0) e ∙ get_or-append l v 0 i k

-- where s ends within lit, what is matched of lit's front is matched of lit
pub matched_front : (s : Bytes) (p : ℕ) (lit : Bytes) (n m : ℕ) → n ≤ length lit → p + n ≡ length s → Matched s p (take n lit) m → Matched s p lit m
matched_front s p lit n m h e M =
    let k : length (take n lit) ≡ n = length-take-le n lit h in
    record {
      within = M.within;
      most = omega (arith, M.most);
      same = λ i l. M.same i l ∙ get_or-take n lit i 0 (omega (arith, M.most));
      stop = λ l q w. let j : m < n = omega arith in M.stop (omega arith) q (w ∙ sym (get_or-take n lit m 0 j));
    }

-- what of lit stands at p, where s ends before lit does
pub rest_is : (s : Bytes) (p : ℕ) (lit : Bytes) (m : ℕ) → Matched s p lit m → p + m ≡ length s → drop p s ≡ take m lit
rest_is s p lit m M e =
    let e₁ : length (drop p s) ≡ m = omega (arith, length-drop p s) in
    let e₂ : length (take m lit) ≡ m = length-take-le m lit M.most in
    ext_get_or 0 (drop p s) (take m lit) (e₁ ∙ sym e₂)
    (λ i l. let j : i < m = omega arith in get_or-drop p s i 0 ∙ M.same i j ∙ sym (get_or-take m lit i 0 j))

module _ (R : Rule) where
  -- what follows from a live position: the bytes there and those that could follow begin with a good frame
  pub record Begun (r : Bytes) : Type 0 where
    pub g : Bytes
    pub t : Bytes
    pub u : Bytes
    pub good : Good R g
    pub eq : r ++ t ≡ g ++ u

  abbrev pub begun : (s : Bytes) (p : ℕ) → p ≤ length s → Live R s p → Begun (drop p s)
  begun s p h w =
      let n = w.size in
      let l = drop p (s ++ w.more) in
      record { g = take n l; t = w.more; u = drop n l; good = w.good_at.good; eq = sym (drop-append-le p s w.more h) ∙ sym (take-append-drop n l) }

  -- behind the mark, behind the length
  pub begun_mark : (r : Bytes) (B : Begun r) → (r₁ : Bytes) → r ≡ R.mark ++ r₁
      → r₁ ++ B.t ≡ B.good.digits ++ (1 ∷ (B.good.body ++ (trailer (sum_of R B.good.digits B.good.body) ++ B.u)))
  begun_mark r B r₁ e =
      append_cancel_left R.mark _ _ (sym (append_assoc R.mark r₁ B.t) ∙ ap (λ (x : Bytes). x ++ B.t) (sym e) ∙ B.eq ∙ good_split R B.g B.u B.good)

  pub begun_digits : (r : Bytes) (B : Begun r) (ds r₂ : Bytes) → Digits ds → r ≡ R.mark ++ (ds ++ (1 ∷ r₂)) → ds ≡ B.good.digits
  begun_digits r B ds r₂ h e =
      split_digits ds B.good.digits (r₂ ++ B.t) _ h (good_digits R B.g B.good) (sym (append_assoc ds (1 ∷ r₂) B.t) ∙ begun_mark r B (ds ++ (1 ∷ r₂)) e)

  pub begun_size : (r : Bytes) (B : Begun r) (ds r₂ : Bytes) → Digits ds → r ≡ R.mark ++ (ds ++ (1 ∷ r₂))
      → r₂ ++ B.t ≡ B.good.body ++ (trailer (sum_of R ds B.good.body) ++ B.u)
  begun_size r B ds r₂ h e =
      let d : B.good.digits ≡ ds = sym (begun_digits r B ds r₂ h e) in
      tail-eq_of_cons-eq
      (append_cancel_left ds _ _
      (sym (append_assoc ds (1 ∷ r₂) B.t)
      ∙ begun_mark r B (ds ++ (1 ∷ r₂)) e
      ∙ ap (λ (x : Bytes). x ++ (1 ∷ (B.good.body ++ (trailer (sum_of R x B.good.body) ++ B.u)))) d))

  -- ---- the mark
  pub mark_next : (s : Bytes) (p m : ℕ) → Matched s p R.mark m → m ≡ length R.mark → MarkSeen R s p (p + m)
  mark_next s p m M e =
      record {
        from = omega (arith, M.within);
        within = M.within;
        split = at_drop s p R.mark (matched_at s p R.mark m M e) ∙ ap (λ (k : ℕ). R.mark ++ drop (p + k) s) (sym e);
      }

  -- where a live position's bytes are given, they are the mark's
  pub live_byte : (s : Bytes) (p i : ℕ) → p + i < length s → i < length R.mark → Live R s p → get_or s (p + i) 0 ≡ get_or R.mark i 0
  live_byte s p i h l w =
      let B = begun s p (omega arith) w in
      sym (get_or-drop p s i 0)
      ∙ agree (drop p s) B.t R.mark _ i (B.eq ∙ good_split R B.g B.u B.good) (omega (arith, length-drop p s)) l

  pub mark_wrong : (s : Bytes) (p m : ℕ) → Matched s p R.mark m → (m ≡ length R.mark → ⊥) → (p + m ≡ length s → ⊥) → Live R s p → ⊥
  mark_wrong s p m M h k w =
      let l : m < length R.mark = omega (arith, M.most) in
      let n : p + m < length s = omega (arith, M.within) in
      M.stop l n (live_byte s p m n l w)

  -- there is room for the mark, and it does not stand there
  pub mark_unlike : (s : Bytes) (p : ℕ) → p + length R.mark ≤ length s → (At s p R.mark → ⊥) → Live R s p → ⊥
  mark_unlike s p h none w = none (bytes_at s p R.mark h (λ i k. live_byte s p i (omega arith) k w))

  module _ (ok : MarkOk R.mark) where
    pub mark_short : (s : Bytes) (p m : ℕ) → 1 ≤ R.size.most → Matched s p R.mark m → p + m ≡ length s → Open R s p
    mark_short s p m h M e =
        open_of R ok s p (omega arith)
        (subst (λ (l : Bytes). Comp R ok l) (sym (rest_is s p R.mark m M e))
        (comp_more R ok (take m R.mark) (drop m R.mark) (subst (λ (l : Bytes). Comp R ok l) (sym (take-append-drop m R.mark)) (comp_mark R ok h))))
