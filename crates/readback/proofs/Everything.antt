-- Every field of a tag is what stands at every place of it.
use Prim.Native.Nat.{ℕ, ◌+◌, ◌-◌, ◌≤◌, ◌<◌}
use native.Mathlib.Omega.{arith}
use mathlib.Core.Path.{◌≡◌, refl, sym, ◌∙◌, subst}
use mathlib.Core.List.{List, [], ◌∷◌, ◌++◌, map}
use mathlib.Core.Bool.{Bool, true, false, cond}
use lib.Dec.{eqb, leb}
use lib.ListN.{length, take, drop}
use borrow.Author.Tests.{leb-true, leb-false, le-leb}
use Rattle.octets.specs.Bytes.{Bytes, fix, starts, decimal}
use Rattle.octets.proofs.Tests.{both}
use Rattle.fields.specs.Field.{parts}
use Rattle.fields.proofs.Rows.{part_at, part_row, part_within, part_end, parts_end}
use Rattle.message.specs.Message.{part}
use Rattle.report.specs.Report.{every_of_parts, every_field}
use Rattle.readback.specs.Back.{places_in, every_place}

-- the bytes at a place
abbrev pub bytes_at : Bytes → ℕ × ℕ → Bytes
bytes_at body p = part body p.0 p.1

pub part_is : (body : Bytes) (s e : ℕ) → s ≤ e → e ≤ length body → part body s e ≡ take (e - s) (drop s body)
part_is body s e h k = rw (le-leb s e h, le-leb e (length body) k)

starts-long : (k l : Bytes) → starts k l ≡ true → length k ≤ length l
starts-long [] l h = omega arith
starts-long (x ∷ k) [] h = let z : ◌≡◌ {A = ℕ} 0 1 = cc in absurd (omega arith)
starts-long (x ∷ k) (y ∷ l) h = omega (arith, starts-long k l (both (eqb x y) (starts k l) h).1)

every_there : (b body : Bytes) (ps : List Bytes) (at : ℕ) → parts (drop at body) ≡ ps → map (bytes_at body) (places_in b at ps) ≡ every_of_parts b ps
every_there b body [] at e = refl
every_there b body (p ∷ ps) at e = go (starts b p) refl (every_there b body ps (at + length p + 1) (rest (inner (leb (length body) at) refl)))
  where
    inner : (c : Bool) → leb (length body) at ≡ c → at < length body
    inner true k = let n = parts_end body at (leb-true (length body) at k) in let z : ◌≡◌ {A = ℕ} 0 1 = cc in absurd (omega arith)
    inner false k = leb-false (length body) at k

    first : at < length body → part_at body at ≡ p
    first h = let r = part_row body at h in cc

    rest : at < length body → parts (drop (at + length p + 1) body) ≡ ps
    rest h = let r = part_row body at h in let q = first h in subst (λ (k : Bytes). parts (drop (at + length k + 1) body) ≡ ps) q (cc)

    later : List (ℕ × ℕ)
    later = places_in b (at + length p + 1) ps

    go : (c : Bool) → starts b p ≡ c → map (bytes_at body) later ≡ every_of_parts b ps
        → map (bytes_at body) (cond c ((at + length b, at + length p) ∷ later) later) ≡ cond c (drop (length b) p ∷ every_of_parts b ps) (every_of_parts b ps)
    go true k ih =
        let h = inner (leb (length body) at) refl in
        let l = starts-long b p k in
        let v : drop (length b) p ≡ take (at + length p - (at + length b)) (drop (at + length b) body) =
        subst (λ (q : Bytes). length b ≤ length q → drop (length b) q ≡ take (at + length q - (at + length b)) (drop (at + length b) body)) (first h) (part_end body at (length b)) l in
        let n = subst (λ (q : Bytes). at + length q ≤ length body) (first h) (part_within body at h) in
        rw (part_is body (at + length b) (at + length p) (omega arith) n ∙ sym v, ih)
    go false k ih = ih

pub every_bytes : (t : ℕ) (body : Bytes) → map (bytes_at body) (every_place t body) ≡ every_field t body
unfolding every_place every_field
every_bytes t body = every_there (decimal t ++ fix "=") body (parts body) 0 refl
