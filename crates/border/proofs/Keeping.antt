-- The record is kept: what a new session's record was saved as is loaded again; saving another state changes the state's words alone, and that state is
-- loaded again; saving what was loaded changes nothing; and a session that is Closed differs in its status and its replay. Assumes nothing.
use Prim.Native.Nat.{ℕ, zero, suc, ◌+◌, ◌-◌, ◌≤◌, ◌<◌}
use mathlib.Core.Path.{◌≡◌, refl, sym, ap, ◌∙◌, subst}
use mathlib.Core.List.{List, [], ◌∷◌, ◌++◌, append-nil}
use mathlib.Core.Bool.{Bool, true, false, cond, ◌&&◌}
use mathlib.Core.Option.{Option, none, some, some-injective, none-ne-some}
use native.Mathlib.Omega.{arith}
use borrow.Author.Tests.{eqb-true}
use lib.Dec.{eqb, leb}
use lib.ListN.{length, get_or, set, take, drop, drop_of_length-le}
use borrow.Rule.Slice.PartMut.{put_mid}
use lib.Seq.{drop-cons, length-sets}
use Rattle.octets.specs.Bytes.{Bytes, Byted}
use Rattle.octets.proofs.Tests.{both}
use Rattle.gap.specs.declared.Gap.{Gap}
use Rattle.moves.specs.Session.{Session, code, turned}
use Rattle.moves.specs.Held.{held, session_of, with}
use Rattle.moves.specs.declared.record.Record.{Record}
use Rattle.moves.specs.declared.record.Status.{Status}
use Rattle.moves.specs.declared.record.Status.TheVariants.{Waiting, Active, Closed}
use Rattle.border.proofs.Records.{status_read}
use Rattle.border.specs.Record.{eleven, comp_ids_of, state, words_of, saved, closed_in, status_of, spare, status_if, status_in, gap_in, record_with, record_if, record_in}
use Rattle.moves.specs.code.Reads.{told}
use Rattle.std.specs.Prelude as Std
use Rattle.std.specs.Prelude.{Some, None}

-- A LIST element by element
front_of : (w : List ℕ) (j : ℕ) → j < length w → drop j w ≡ get_or w j 0 ∷ drop (suc j) w
front_of w j h = drop-cons w j 0 h

twelve : (w : List ℕ) → 12 ≤ length w → w ≡ get_or w 0 0 ∷ get_or w 1 0 ∷ get_or w 2 0 ∷ get_or w 3 0 ∷ get_or w 4 0 ∷ get_or w 5 0 ∷ get_or w 6 0 ∷ get_or w 7 0 ∷ get_or w 8 0 ∷ get_or w 9 0 ∷ get_or w 10 0 ∷ get_or w 11 0 ∷ drop 12 w
twelve w h =
    front_of w 0 (omega arith)
    ∙ rw (front_of w 1 (omega arith), front_of w 2 (omega arith), front_of w 3 (omega arith), front_of w 4 (omega arith), front_of w 5 (omega arith), front_of w 6 (omega arith), front_of w 7 (omega arith), front_of w 8 (omega arith), front_of w 9 (omega arith), front_of w 10 (omega arith), front_of w 11 (omega arith))

eleven_all : (l : Bytes) → length l ≡ 11 → eleven 0 l ≡ l
eleven_all l e =
    let at : (j : ℕ) → j < 11 → drop j l ≡ get_or l j 0 ∷ drop (suc j) l = λ j h. front_of l j (omega arith) in
    let end : length l ≤ 11 = omega arith in
    sym (at 0 (omega arith) ∙ rw (at 1 (omega arith), at 2 (omega arith), at 3 (omega arith), at 4 (omega arith), at 5 (omega arith), at 6 (omega arith), at 7 (omega arith), at 8 (omega arith), at 9 (omega arith), at 10 (omega arith), drop_of_length-le l end))

-- a CompID behind its length
pub id_put : (half : List ℕ) (n : ℕ) (c : Bytes) {x : Bytes} → length half ≡ 12 → length c ≡ 11 → x ≡ c → put_mid 1 (length (set half 0 n) - 1) (set half 0 n) x ≡ n ∷ eleven 0 c
id_put [] n c h l e = absurd (omega arith)
id_put (b ∷ t) n c h l e =
    let k : length (b ∷ t) - 1 ≡ length t = omega arith in
    let z : drop (length t) t ≡ [] = drop_of_length-le t (omega arith) in
    rw (e, k, z) (ap (λ (z : Bytes). n ∷ z) (append-nil c ∙ sym (eleven_all c l)))

-- BYTES
bytes-eleven : (k : ℕ) (l : Bytes) → Byted l → Byted (eleven k l)
bytes-eleven k l B zero = B (k + 0)
bytes-eleven k l B (suc zero) = B (k + 1)
bytes-eleven k l B (suc (suc zero)) = B (k + 2)
bytes-eleven k l B (suc (suc (suc zero))) = B (k + 3)
bytes-eleven k l B (suc (suc (suc (suc zero)))) = B (k + 4)
bytes-eleven k l B (suc (suc (suc (suc (suc zero))))) = B (k + 5)
bytes-eleven k l B (suc (suc (suc (suc (suc (suc zero)))))) = B (k + 6)
bytes-eleven k l B (suc (suc (suc (suc (suc (suc (suc zero))))))) = B (k + 7)
bytes-eleven k l B (suc (suc (suc (suc (suc (suc (suc (suc zero)))))))) = B (k + 8)
bytes-eleven k l B (suc (suc (suc (suc (suc (suc (suc (suc (suc zero))))))))) = B (k + 9)
bytes-eleven k l B (suc (suc (suc (suc (suc (suc (suc (suc (suc (suc zero)))))))))) = B (k + 10)
bytes-eleven k l B (suc (suc (suc (suc (suc (suc (suc (suc (suc (suc (suc i))))))))))) = omega arith

bytes_take : (n : ℕ) (l : Bytes) → Byted l → Byted (take n l)
bytes_take zero l B i = omega arith
bytes_take (suc n) [] B i = omega arith
bytes_take (suc n) (x ∷ l) B zero = B 0
bytes_take (suc n) (x ∷ l) B (suc i) = bytes_take n l (λ j. B (suc j)) i

bytes-held : (n : ℕ) (l : Bytes) → Byted l → Byted (held n l)
bytes-held n l B = go (leb n 11)
  where
    go : (b : Bool) → Byted (cond b (take n l) [])
    go true = bytes_take n l B
    go false = λ i. omega arith

-- THE STATUS by its number
pub its_status : (st : Status) → status_of (code st) ≡ some st
its_status Waiting = refl
its_status Active = refl
its_status Closed = refl

its_number : (n : ℕ) (st : Status) → status_of n ≡ some st → n ≡ code st
its_number zero st e = ap code (some-injective Waiting st e)
its_number (suc zero) st e = ap code (some-injective Active st e)
its_number (suc (suc zero)) st e = ap code (some-injective Closed st e)
its_number (suc (suc (suc n))) st e = absurd (none-ne-some st e)

-- WHAT IS SAVED: the state's eleven words, and nothing else
pub saved_is : (words : List ℕ) (r : Record) → 12 ≤ length words → saved words r ≡ get_or words 0 0 ∷ (state r ++ drop 12 words)
saved_is words r h = ap (λ (w : List ℕ). saved w r) (twelve words h)

-- words that hold a status: 24 of them, of this version, spare ones zero
record Kept (words : List ℕ) (st : Status) : Type 0 where
  pub long : length words ≡ 24
  pub versioned : get_or words 0 0 ≡ 1
  pub spared : spare words ≡ true
  pub numbered : status_of (get_or words 1 0) ≡ some st

kept_is : (words : List ℕ) (st : Status) → status_in words ≡ some st → Kept words st
unfolding status_in
kept_is words st = go (eqb (length words) 24 && eqb (get_or words 0 0) 1 && spare words) refl
  where
    go : (b : Bool) → (eqb (length words) 24 && eqb (get_or words 0 0) 1 && spare words) ≡ b → status_if words b ≡ some st → Kept words st
    go true e s =
        let p = both (eqb (length words) 24 && eqb (get_or words 0 0) 1) (spare words) e in
        let q = both (eqb (length words) 24) (eqb (get_or words 0 0) 1) p.0 in
        record { long = eqb-true (length words) 24 q.0; versioned = eqb-true (get_or words 0 0) 1 q.1; spared = p.1; numbered = s }
    go false e s = absurd (none-ne-some st s)

-- the status that a record was loaded with
module _ (ids : Bytes) (words : List ℕ) where
  loaded_with : (r : Record) → record_in ids words ≡ some r → (status_in words ≡ some r.status) × (r ≡ record_with ids words r.status)
  loaded_with r = go (status_in words) refl
    where
      go : (o : Option Status) → status_in words ≡ o → record_if ids words o ≡ some r → (status_in words ≡ some r.status) × (r ≡ record_with ids words r.status)
      go none q e = absurd (none-ne-some r e)
      go (some st) q e =
          let z : record_with ids words st ≡ r = some-injective (record_with ids words st) r e in
          let s : st ≡ r.status = ap (λ (x : Record). x.status) z in
          (q ∙ ap some s, sym z ∙ ap (record_with ids words) s)

  -- saving what was loaded changes nothing
  pub loaded_saves : (r : Record) → record_in ids words ≡ some r → saved words r ≡ words
  loaded_saves r e =
      let L = loaded_with r e in
      let K = kept_is words r.status L.0 in
      let n = its_number (get_or words 1 0) r.status K.numbered in
      saved_is words r (omega (arith, K.long))
      ∙ ap (λ (x : Record). get_or words 0 0 ∷ (code r.status ∷ x.expected ∷ x.next ∷ x.heartbeat ∷ x.sent ∷ x.replay.at ∷ x.replay.to ∷ x.gap.isOpen ∷ x.gap.expected ∷ x.gap.highest ∷ x.gap.asked ∷ drop 12 words)) L.1
      ∙ ap (λ (k : ℕ). get_or words 0 0 ∷ k ∷ get_or words 2 0 ∷ get_or words 3 0 ∷ get_or words 4 0 ∷ get_or words 5 0 ∷ get_or words 6 0 ∷ get_or words 7 0 ∷ get_or words 8 0 ∷ get_or words 9 0 ∷ get_or words 10 0 ∷ get_or words 11 0 ∷ drop 12 words) (sym n)
      ∙ sym (twelve words (omega (arith, K.long)))

  -- another state that is saved is loaded again
  pub saved_loads : (r : Record) (s : Session) → record_in ids words ≡ some r → record_in ids (saved words (with r s)) ≡ some (with r s)
  unfolding spare
  saved_loads r s e =
      let L = loaded_with r e in
      let K = kept_is words r.status L.0 in
      let z = with r s in
      let h = saved_is words z (omega (arith, K.long)) in
      let l : length (saved words z) ≡ 24 = length-sets words 1 (state z) ∙ K.long in
      let v : get_or (saved words z) 0 0 ≡ 1 = ap (λ (w : List ℕ). get_or w 0 0) h ∙ K.versioned in
      let p : spare (saved words z) ≡ true = ap spare h ∙ K.spared in
      let n : status_of (get_or (saved words z) 1 0) ≡ some s.status = ap (λ (w : List ℕ). status_of (get_or w 1 0)) h ∙ its_status s.status in
      ap (record_if ids (saved words z)) (sym (status_read (saved words z) l v p) ∙ n)
      ∙ ap (λ (w : List ℕ). some (record_with ids w s.status)) h
      ∙ ap some (sym (ap (λ (x : Record). with x s) L.1))

  -- a session that is Closed, and nothing else changed
  pub closed_words : (r : Record) → record_in ids words ≡ some r → saved words (with r (turned Closed (session_of r))) ≡ closed_in words
  closed_words r e =
      let K = kept_is words r.status (loaded_with r e).0 in
      saved_is words (with r (turned Closed (session_of r))) (omega (arith, K.long))
      ∙ ap closed_in (sym (saved_is words r (omega (arith, K.long))) ∙ loaded_saves r e)

  -- the CompIDs of a record are bytes, if those that it lies in are
  pub held_bytes : (r : Record) → record_in ids words ≡ some r → Byted ids → Byted (session_of r).ours × Byted (session_of r).peers
  held_bytes r e B =
      let L = (loaded_with r e).1 in
      (subst (λ (x : Record). Byted (held x.oursLen x.ours)) (sym L) (bytes-held (get_or ids 0 0) (eleven 1 ids) (bytes-eleven 1 ids B)), subst (λ (x : Record). Byted (held x.peerLen x.peer)) (sym L) (bytes-held (get_or ids 12 0) (eleven 13 ids) (bytes-eleven 13 ids B)))

-- WHAT THE CODE LOADS is what lies there
module _ (words : List ℕ) (ids : Bytes) where
  pub record_length : (r : Record) → some r ≡ record_in ids words → length words ≡ 24
  record_length r e = (kept_is words r.status (loaded_with ids words r (sym e)).0).long

  pub no_record : none ≡ status_in words → told (record_in ids words) ≡ None
  no_record e = ap (λ (o : Option Status). told (record_if ids words o)) (sym e)

  pub a_record : {ours peer : Bytes} {st : Status} {g : Gap} → some st ≡ status_in words → ours ≡ eleven 1 ids → peer ≡ eleven 13 ids → g ≡ gap_in words
      → Some (record { ours = ours; oursLen = get_or ids 0 0; peer = peer; peerLen = get_or ids 12 0; status = st; expected = get_or words 2 0; next = get_or words 3 0; heartbeat = get_or words 4 0; sent = get_or words 5 0; replay = record { at = get_or words 6 0; to = get_or words 7 0 }; gap = g }) ≡ told (record_in ids words)
  a_record h a c i = rw (a, c, i) (ap (λ (o : Option Status). told (record_if ids words o)) h)

-- what is told was there
pub told_some : {A : Type 0} (o : Option A) (x : A) → Some x ≡ told o → some x ≡ o
told_some none x e = let z : ◌≡◌ (Some x) None = e in absurd (cc)
told_some (some y) x e = let z : ◌≡◌ (Some x) (Some y) = e in cc

pub told_none : {A : Type 0} (o : Option A) → None ≡ told o → none ≡ o
told_none none e = refl
told_none {A = A} (some y) e = let z : ◌≡◌ {A = Std.Option A} None (Some y) = e in absurd (cc)

-- a new session's record is loaded again
pub new_loads : (r : Record) → length r.ours ≡ 11 → length r.peer ≡ 11 → record_in (comp_ids_of r) (words_of r) ≡ some r
unfolding status_in spare
new_loads r a b =
    ap (record_if (comp_ids_of r) (words_of r)) (its_status r.status)
    ∙ ap (λ (x : Bytes × Bytes). some (record { ours = x.0; oursLen = r.oursLen; peer = x.1; peerLen = r.peerLen; status = r.status; expected = r.expected; next = r.next; heartbeat = r.heartbeat; sent = r.sent; replay = r.replay; gap = r.gap })) (rw (eleven_all r.ours a, eleven_all r.peer b))
