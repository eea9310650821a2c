-- A report that is kept in a store: our call can write it, and where the store is of bytes, so are its values.
-- Assumes nothing.
use Prim.Native.Nat.{ℕ, zero, suc, ◌-◌, ◌*◌, ◌<◌}
use native.Mathlib.Omega.{arith}
use native.Mathlib.Decide.{dec_lt}
use mathlib.Core.Path.{◌≡◌, sym, ap, ◌∙◌, subst}
use mathlib.Core.Bool.{true}
use mathlib.Core.List.{List, [], ◌∷◌, ◌++◌}
use mathlib.Core.Option.{some, none-ne-some, some-injective}
use lib.ListN.{length, take, drop, replicate, take-append-drop}
use Rattle.octets.specs.Bytes.{Bytes, fix, decimal, Byted}
use Rattle.octets.proofs.Lists.{part_length}
use Rattle.frame.specs.Frame.{fixt, front, trailer, sum_of}
use Rattle.message.specs.Message.{absent, number, bytes, Field, ◌is◌, tagged, row, framed}
use Rattle.message.proofs.Frames.{framed_is}
use Rattle.message.proofs.Wholes.{bytes_take}
use Rattle.report.specs.Values.{own}
use Rattle.report.specs.Report.{Report, fields_of, sent, sendable}
use Rattle.report.specs.Promise.{OfBytes}
use Rattle.report.proofs.Heads.{head, sent_split}
use Rattle.places.specs.Places.{is_store}
use Rattle.places.proofs.Cuts.{store_is}
use Rattle.kept.proofs.Holding.{held_is}
use Rattle.store.specs.Store.{find, place_of, kept}
use Rattle.store.proofs.Standing.{found_at, found_none}

-- OF BYTES: what stands in them
left-bytes : (k l : Bytes) → Byted (k ++ l) → Byted k
left-bytes [] l B i = omega arith
left-bytes (x ∷ k) l B zero = B 0
left-bytes (x ∷ k) l B (suc i) = left-bytes k l (λ j. B (suc j)) i

right-bytes : (k l : Bytes) → Byted (k ++ l) → Byted l
right-bytes [] l B = B
right-bytes (x ∷ k) l B = right-bytes k l (λ j. B (suc j))

row_bytes : (fs : List Field) → Byted (row fs) → OfBytes fs
row_bytes [] B = tt
row_bytes ((t is absent) ∷ fs) B = row_bytes fs B
row_bytes ((t is number n) ∷ fs) B = row_bytes fs (right-bytes (tagged t (some (decimal n))) (row fs) B)
row_bytes ((t is bytes v) ∷ fs) B =
    (right-bytes (decimal t ++ fix "=") v (left-bytes (decimal t ++ fix "=" ++ v) (fix "|") (left-bytes (tagged t (some v)) (row fs) B)), row_bytes fs (right-bytes (tagged t (some v)) (row fs) B))

body_bytes : (b : Bytes) → Byted (framed b) → Byted b
body_bytes b B =
    let d = decimal (length b) in
    right-bytes (fix "|") b
    (right-bytes d (fix "|" ++ b)
    (right-bytes fixt.mark (d ++ (fix "|" ++ b))
    (left-bytes (front fixt d b) (trailer (sum_of fixt d b)) (subst Byted (framed_is b) B))))

place-bytes : (store : Bytes) (k : ℕ) → Byted store → Byted (take 512 (drop k store))
place-bytes store k B = bytes_take 512 (drop k store) (right-bytes (take k store) (drop k store) (subst Byted (sym (take-append-drop k store)) B))

-- A REPORT THAT IS FOUND
pub record Found (us them store : Bytes) (r : Report) : Type 0 where
  pub sends : sendable us them r ≡ true
  pub of_bytes : Byted store → OfBytes (own r.values)

module _ (us them store : Bytes) (r : Report) where
  own_bytes : Byted (sent us them r) → OfBytes (own r.values)
  unfolding sent
  own_bytes B =
      row_bytes (own r.values)
      (right-bytes (row (head us them r.number absent r.time absent)) (row (own r.values))
      (subst Byted (sent_split us them r) (body_bytes (row (fields_of us them r)) B)))

  pub found_kept : (n : ℕ) → is_store store ≡ true → find n (kept us them store) ≡ some r → Found us them store r
  found_kept n s f = go (dec_lt (place_of n (kept us them store)) 64)
    where
      go : Dec (place_of n (kept us them store) < 64) → Found us them store r
      go (yes l) =
          let k = 512 * place_of n (kept us them store) in
          let S = found_at us them store n l in
          let e = some-injective S.report r (sym S.is ∙ f) in
          let H = held_is us them (take 512 (drop k store)) r (part_length store k 512 (omega (arith, store_is store s, l))) (S.holds ∙ ap some e) in
          record {
            sends = H.sends;
            of_bytes = λ B. own_bytes (left-bytes (sent us them r) (replicate (512 - length (sent us them r)) 0) (subst Byted H.bytes (place-bytes store k B)));
          }
      go (no l) = absurd (none-ne-some r (sym (found_none us them store n (omega (arith, l))) ∙ f))
