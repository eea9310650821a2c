-- A candidate's body, where mark and length are read: what each answer about it means.
use Prim.Native.Nat.{ℕ, ◌+◌, ◌-◌, ◌≤◌, ◌<◌}
use native.Mathlib.Nat.{add_assoc, zero-add}
use native.Mathlib.Decide.{dec_lt}
use native.Mathlib.Omega.{arith}
use mathlib.Core.Path.{◌≡◌, sym, ap, ◌∙◌, subst}
use mathlib.Core.List.{◌∷◌, ◌++◌, append_assoc}
use lib.ListN.{length, take, drop, get_or, length-append, length-drop, take-append-drop, get_or-eq_default}
use lib.Seq.{get_or-drop, get_or-take, drop-drop}
use Rattle.octets.specs.Bytes.{Bytes, value, At}
use Rattle.octets.specs.code.Leaf.{Matched, Stands, Here, Searched}
use Rattle.octets.proofs.Lists.{at_byte, bytes_at, part_length, at_part, at_more}
use Rattle.octets.proofs.Numerals.{Digits, written_means, row_digits}
use Rattle.frame.specs.Frame.{Rule, longest_body, GoodAt, Live, trailer, sum_of}
use Rattle.frame.specs.code.Walk.{SizeSeen, BodySeen, Open}
use Rattle.frame.specs.Mark.{MarkOk}
use Rattle.frame.proofs.Good.{good_length}
use Rattle.frame.proofs.Complete.{type_tag, Comp, open_of, comp_fields}
use Rattle.frame.proofs.AtMark.{agree, Begun, begun, begun_digits, begun_size}

-- a place in what is behind a
pub at_behind : (s : Bytes) (a q : ℕ) (l : Bytes) → a ≤ length s → At (drop a s) q l → At s (a + q) l
at_behind s a q l h A =
    bytes_at s (a + q) l (omega (arith, A.0, length-drop a s))
    (λ i x. ap (λ (z : ℕ). get_or s z 0) (add_assoc a q i) ∙ sym (get_or-drop a s (q + i) 0) ∙ at_byte (drop a s) q l A i x)

module _ (R : Rule) (s : Bytes) (p a n : ℕ) (S : SizeSeen R s p a n) where
  abbrev ds : Bytes
  ds = S.digits

  abbrev decimal : Digits S.digits
  decimal = row_digits S.digits (written_means R.size S.digits S.len.written).whole

  pub size_range : (5 ≤ n) × (n ≤ longest_body)
  size_range = omega (arith, S.worth, S.len.low, S.len.high)

  pub body_place : a ≡ p + (length R.mark + (length ds + 1))
  body_place =
      omega (arith, ap length S.split, S.within, length-append R.mark (ds ++ (1 ∷ drop a s)), length-append ds (1 ∷ drop a s), length-drop p s, length-drop a s)

  before_end : p ≤ length s
  before_end = omega (arith, body_place, S.within)

  body_eq : (B : Begun R (drop p s)) → drop a s ++ B.t ≡ B.good.body ++ (trailer (sum_of R ds B.good.body) ++ B.u)
  body_eq B = begun_size R (drop p s) B ds (drop a s) decimal S.split

  same_size : (B : Begun R (drop p s)) → n ≡ value B.good.digits
  same_size B = S.worth ∙ ap value (begun_digits R (drop p s) B ds (drop a s) decimal S.split)

  -- a byte of the body, where it is there, is that of every frame that could come of it
  body_byte : (B : Begun R (drop p s)) (i : ℕ) → i < n → a + i < length s → get_or s (a + i) 0 ≡ get_or B.good.body i 0
  body_byte B i h l =
      sym (get_or-drop a s i 0) ∙ agree (drop a s) B.t B.good.body _ i (body_eq B) (omega (arith, length-drop a s)) (omega (arith, B.good.inner.sized, same_size B))

  pub tag_wrong : (m : ℕ) → Matched s a type_tag m → m < 3 → (a + m ≡ length s → ⊥) → Live R s p → ⊥
  tag_wrong m M l k w =
      let B = begun R s p before_end w in
      let h : a + m < length s = omega (arith, M.within) in
      M.stop l h
      (body_byte B m (omega (arith, size_range)) h
      ∙ ap (λ (z : ℕ). get_or B.good.body z 0) (sym (zero-add m))
      ∙ at_byte B.good.body 0 type_tag B.good.inner.begins m l)

  pub mark_inside : (e : ℕ) → e ≤ a + n → (q : ℕ) → Here s a e R.mark q → Live R s p → ⊥
  mark_inside e k q A w =
      let t = w.more in
      let F : GoodAt R (s ++ t) p w.size = w.good_at in
      let B = begun R s p before_end w in
      let z : p + (q - p) ≡ q = omega (arith, body_place, A.low) in
      let g : w.size ≡ length R.mark + (length F.good.digits + (value F.good.digits + 8)) =
      sym (part_length (s ++ t) p w.size F.inside) ∙ good_length R (take w.size (drop p (s ++ t))) F.good in
      let d : ds ≡ F.good.digits = begun_digits R (drop p s) B ds (drop a s) decimal S.split in
      F.good.once (q - p) (omega (arith, body_place, A.low, A.there.0, S.len.low))
      (at_part (s ++ t) p w.size (q - p) R.mark F.inside (omega (arith, body_place, A.low, A.high, g, ap length d, same_size B))
      (subst (λ (x : ℕ). At (s ++ t) x R.mark) (sym z) (at_more s t q R.mark A.there)))

  -- no mark begins at the body's first byte: its second is a digit
  pub behind_first : MarkOk R.mark → (m : ℕ) → Matched s a type_tag m → 3 ≤ m → (e r : ℕ) → Searched s (a + 1) e R.mark r → Searched s a e R.mark r
  behind_first ok m M l e r F =
      record {
        high = F.high;
        found = λ h. let H = F.found h in record { low = omega (arith, H.low); high = H.high; there = H.there };
        none = λ q h k w A. none q h w A k (dec_lt a q);
      }
    where
      none : (q : ℕ) → q < r → q + length R.mark ≤ e → At s q R.mark → a ≤ q → Dec (a < q) → ⊥
      none q h w A k (yes y) = F.none q h (omega arith) w A
      none q h w A k (no y) =
          let z : q ≡ a = omega arith in
          let b : get_or R.mark 1 0 ≡ 53 = sym (at_byte s q R.mark A 1 (omega (arith, ok.long))) ∙ ap (λ (x : ℕ). get_or s (x + 1) 0) z ∙ M.same 1 (omega arith) in
          ok.second_digit (omega arith, omega arith)

  pub last_wrong : a + n ≤ length s → (get_or s (a + n - 1) 0 ≡ 1 → ⊥) → Live R s p → ⊥
  last_wrong k x w =
      let B = begun R s p before_end w in
      let i : a + (n - 1) ≡ a + n - 1 = omega (arith, size_range) in
      x
      (ap (λ (z : ℕ). get_or s z 0) (sym i)
      ∙ body_byte B (n - 1) (omega (arith, size_range)) (omega (arith, size_range))
      ∙ ap (λ (z : ℕ). get_or B.good.body (z - 1) 0) (same_size B) ∙ B.good.inner.ends)

  -- what is there of the body begins the tag, has no mark and is not all
  comp_begun : MarkOk R.mark → length s < a + n → ((i : ℕ) → i < 3 → a + i < length s → get_or s (a + i) 0 ≡ get_or type_tag i 0)
      → ((i : ℕ) → get_or s i 0 < 256) → ((q : ℕ) → At (drop a s) q R.mark → ⊥) → Open R s p
  comp_begun ok k tag small none =
      open_of R ok s p before_end
      (subst (λ (l : Bytes). Comp R ok l) (sym S.split)
      (comp_fields R ok ds (drop a s) S.len (omega (arith, length-drop a s, S.worth, S.within))
      (λ i x y. get_or-drop a s i 0 ∙ tag i y (omega (arith, length-drop a s)))
      none
      (λ i. subst (λ (b : ℕ). b < 256) (sym (get_or-drop a s i 0)) (small (a + i)))))

  pub tag_short : MarkOk R.mark → (m : ℕ) → Matched s a type_tag m → m < 3 → a + m ≡ length s → ((i : ℕ) → get_or s i 0 < 256) → Open R s p
  tag_short ok m M l e small =
      comp_begun ok (omega (arith, size_range)) (λ i x y. M.same i (omega arith)) small (λ q A. omega (arith, A.0, length-drop a s, ok.long))

  pub fields_short : MarkOk R.mark → (m : ℕ) → Matched s a type_tag m → 3 ≤ m → length s < a + n → (Stands s a (length s) R.mark → ⊥)
      → ((i : ℕ) → get_or s i 0 < 256) → Open R s p
  fields_short ok m M l k none small =
      comp_begun ok k (λ i x y. M.same i (omega arith)) small
      (λ q A. none (record { place = a + q; low = omega arith; high = omega (arith, A.0, length-drop a s, S.within); there = at_behind s a q R.mark S.within A }))

  -- the body is whole
  module _ (k : a + n ≤ length s) where
    part : Bytes
    part = take n (drop a s)

    part_sized : length part ≡ n
    unfolding part
    part_sized = part_length s a n k

    part_byte : (i : ℕ) → i < n → get_or part i 0 ≡ get_or s (a + i) 0
    unfolding part
    part_byte i x = get_or-take n (drop a s) i 0 x ∙ get_or-drop a s i 0

    part_small : ((i : ℕ) → get_or s i 0 < 256) → (i : ℕ) → get_or part i 0 < 256
    part_small small i = go (dec_lt i n)
      where
        go : Dec (i < n) → get_or part i 0 < 256
        go (yes y) = omega (arith, part_byte i y, small (a + i))
        go (no y) = omega (arith, get_or-eq_default part 0 {n = i} (omega (arith, part_sized)))

    pub fields_next : (m : ℕ) → Matched s a type_tag m → 3 ≤ m → ((i : ℕ) → get_or s i 0 < 256) → get_or s (a + n - 1) 0 ≡ 1 → (Stands s a (a + n) R.mark → ⊥)
        → BodySeen R s p (a + n)
    unfolding part
    fields_next m M l small x none =
        record {
          within = k;
          digits = ds;
          body = part;
          split =
              S.split
              ∙ ap (λ (y : Bytes). R.mark ++ (ds ++ (1 ∷ y))) (sym (take-append-drop n (drop a s)) ∙ ap (λ (y : Bytes). part ++ y) (drop-drop n a s))
              ∙ regroup R.mark ds part (drop (a + n) s);
          len = S.len;
          inner =
              record {
                sized = part_sized ∙ S.worth;
                begins =
                    bytes_at part 0 type_tag (omega (arith, part_sized, size_range))
                    (λ i y. ap (λ (z : ℕ). get_or part z 0) (zero-add i) ∙ part_byte i (omega (arith, size_range)) ∙ M.same i (omega arith));
                ends =
                    let i : a + (n - 1) ≡ a + n - 1 = omega (arith, size_range) in
                    ap (λ (z : ℕ). get_or part (z - 1) 0) (sym S.worth) ∙ part_byte (n - 1) (omega (arith, size_range)) ∙ ap (λ (z : ℕ). get_or s z 0) i ∙ x;
                bytes = part_small small;
              };
          free = λ q A.
              none
              (record {
                place = a + q;
                low = omega arith;
                high = omega (arith, A.0, part_sized);
                there =
                    bytes_at s (a + q) R.mark (omega (arith, A.0, part_sized))
                    (λ i y. ap (λ (z : ℕ). get_or s z 0) (add_assoc a q i) ∙ sym (part_byte (q + i) (omega (arith, A.0, part_sized))) ∙ at_byte part q R.mark A i y);
              });
        }
      where
        regroup : (m ds b t : Bytes) → m ++ (ds ++ (1 ∷ (b ++ t))) ≡ m ++ (ds ++ (1 ∷ b)) ++ t
        regroup m ds b t = simp append_assoc
