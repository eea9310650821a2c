-- The line buffer: bytes put and moved are the definitions' put and drop.
use Prim.Native.Nat.{ℕ, zero, suc, ◌+◌, ◌-◌, ◌≤◌, ◌<◌, min}
use native.Mathlib.Nat.{zero-add}
use native.Mathlib.Numerals.{add-one}
use native.Mathlib.Decide.{dec_le}
use native.Mathlib.Omega.{arith}
use mathlib.Core.Path.{◌≡◌, refl, sym, ap, ap₂, ◌∙◌}
use mathlib.Core.Bool.{cond}
use mathlib.Core.List.{◌++◌}
use lib.Dec.{leb}
use lib.ListN.{set, get_or, length, take, drop, length-take, length-drop, drop_of_length-le, take-append-drop}
use lib.Seq.{paste, paste-zero, paste-suc, length-take-le, get_or-drop, get_or-take, ext_get_or}
use borrow.Author.Tests.{le-leb, lt-leb}
use Rattle.octets.specs.Bytes.{Bytes}
use Rattle.line.specs.Line.{line, room, fitting, put, dropped}

lesser : (a b : ℕ) → min a b ≡ cond (leb a b) a b
lesser a b = go (dec_le a b)
  where
    go : Dec (a ≤ b) → min a b ≡ cond (leb a b) a b
    go (yes h) = rw (le-leb a b h) (omega arith)
    go (no h) = rw (lt-leb a b (omega arith)) (omega arith)

-- ---- put
pub put_none : (d x : Bytes) (held : ℕ) → length d ≤ held → line d (held + 0) ≡ put (line d held) x
unfolding put
put_none d x held h =
    let l = line d held in
    let r : room l ≡ 0 = omega arith in
    let n : fitting l x ≡ 0 = ap (λ (k : ℕ). cond (leb (length x) k) (length x) k) r ∙ zero_or (length x) in
    ap₂ (λ (b : Bytes) (k : ℕ). line b k) (paste-zero d held x ∙ ap (λ (k : ℕ). paste d held x k) (sym n)) (ap (λ (k : ℕ). held + k) (sym n))
  where
    zero_or : (k : ℕ) → cond (leb k 0) k 0 ≡ 0
    zero_or zero = refl
    zero_or (suc k) = rw (lt-leb (suc k) 0 (omega arith))

pub paste_more : (d : Bytes) (at : ℕ) (s : Bytes) (j : ℕ) → at + j < length d → j < length s → set (paste d at s j) (at + j) (get_or s j 0) ≡ paste d at s (j + 1)
paste_more d at s j h k = paste-suc d at s j 0 h k ∙ ap (λ (n : ℕ). paste d at s n) (sym (add-one j))

pub put_some : (d x : Bytes) (held n : ℕ) → n ≡ min (length x) (length d - held) → line (paste d held x n) (held + n) ≡ put (line d held) x
unfolding put
put_some d x held n e = ap (λ (i : ℕ). line (paste d held x i) (held + i)) (e ∙ lesser (length x) (length d - held))

-- ---- drop
pub pending-length : (d : Bytes) (held h : ℕ) → h ≡ min held (length d) → length (take held d) ≡ h
pending-length d held h e = length-take held d ∙ sym e

pub drop_none : (d : Bytes) (held n h : ℕ) → h ≡ min held (length d) → h ≤ n → line d 0 ≡ dropped (line d held) n
unfolding dropped
drop_none d held n h e l =
    let p : length (take held d) ≡ h = pending-length d held h e in
    let z : length (take held d) - n ≡ 0 = omega arith in
    ap₂ (λ (b : Bytes) (k : ℕ). line b k)
    (ap₂ (λ (x : Bytes) (k : ℕ). x ++ drop k d) (sym (drop_of_length-le (take held d) {i = n} (omega arith))) (sym z)) (sym z)

pub drop_some : (d : Bytes) (held n h : ℕ) → h ≡ min held (length d) → n < h → line (paste d 0 (drop n d) (h - n)) (h - n) ≡ dropped (line d held) n
unfolding dropped
drop_some d held n h e l =
    let p : length (take held d) ≡ h = pending-length d held h e in
    let k : ℕ = h - n in
    let front : take k (drop n d) ≡ drop n (take held d) =
    ext_get_or 0 (take k (drop n d)) (drop n (take held d))
    (length-take-le k (drop n d) (omega (arith, length-drop n d)) ∙ sym (length-drop n (take held d) ∙ ap (λ (i : ℕ). i - n) p))
    (λ i y.
    let j : i < k = omega (arith, length-take-le k (drop n d) (omega (arith, length-drop n d))) in
    get_or-take k (drop n d) i 0 j ∙ get_or-drop n d i 0 ∙ sym (get_or-take held d (n + i) 0 (omega arith)) ∙ sym (get_or-drop n (take held d) i 0)) in
    ap₂ (λ (x : Bytes) (i : ℕ). line x i)
    (ap₂ (λ (x : Bytes) (i : ℕ). x ++ drop i d) front (zero-add k ∙ ap (λ (i : ℕ). i - n) (sym p)))
    (ap (λ (i : ℕ). i - n) (sym p))

pub drop_zero : (d : Bytes) (held n h : ℕ) → h ≡ min held (length d) → n < h → n ≡ 0 → line d h ≡ dropped (line d held) n
drop_zero d held n h e l z =
    let k : h - n ≡ h = omega arith in
    let p : paste d 0 (drop n d) (h - n) ≡ d =
    ap₂ (λ (m j : ℕ). paste d 0 (drop m d) j) z k ∙ ap (λ (j : ℕ). take h d ++ drop j d) (zero-add h) ∙ take-append-drop h d in
    sym (ap₂ (λ (b : Bytes) (j : ℕ). line b j) p k) ∙ drop_some d held n h e l
