-- Which reasons and tags a finding has: those that the rules name, of the tags of the table and of the body's fields.
use Rattle.std.specs.Prelude.{Ok, Err}
use Rattle.dictionary.specs.declared.Unclean.TheVariants.{Found as Finds, NoBody}
use Prim.Native.Nat.{ℕ, ◌+◌, ◌^◌, ◌≤◌, ◌<◌}
use native.Mathlib.Omega.{arith}
use mathlib.Core.Path.{◌≡◌, refl, subst}
use mathlib.Core.Bool.{Bool, true, false, cond, not, ◌&&◌, ◌||◌, false≢true}
use mathlib.Core.List.{List, [], ◌∷◌, ◌++◌}
use mathlib.Core.Option.{Option, none, some}
use lib.Dec.{eqb, leb}
use lib.ListN.{length}
use borrow.Author.Tests.{leb-true, eqb-true}
use Rattle.octets.specs.Bytes.{Bytes, byte, any, all, has, value, no_zeros}
use Rattle.octets.proofs.Tests.{both}
use Rattle.octets.proofs.Numerals.{written_means, value_below}
use Rattle.fields.specs.Field.{Part, field, malformed, part_of, is_tag, before, behind, parts, is_body}
use Rattle.kinds.specs.Kind.{formed, allowed}
use Rattle.table.specs.declared.MsgType.{MsgType}
use Rattle.table.specs.declared.MsgType.TheVariants.{Heartbeat, TestRequest, ResendRequest, Reject, SequenceReset, Logout, Logon, OrderCancelRequest, TradeCaptureReportRequest, TradeCaptureReport}
use Rattle.table.specs.Dictionary.{Row, Group, №453, №580, №552, groups, header, fields, groups_among, all_members, deeper, groups_of, member, rows_of, listed, kind_in, administrative, frame_tag, in_dictionary}
use Rattle.dictionary.specs.Verdict.{Says, reason◌tag◌, Verdict, Clean, found, no_body, Open, Past, ◌when◌, first_of, missing, incomplete, miscounted, closing, closing_all, ends, begins, first_member, rule1, left, rule2, skipped, rule3, rule4, rule5, rule6, rule7, rule8, rule9, rule10, rules4to10, said, opened, joined, taken, after, verdict_by, walk, msg_type, nothing_yet, judged_as, verdict, numbers}
use Rattle.dictionary.specs.Promise.{reasons, Found}

abbrev Small : Says → Type 0
Small (Ok _) = Unit {0}
Small (Err f) = Found f.reason f.tag

abbrev AllSmall : List Says → Type 0
AllSmall [] = Unit {0}
AllSmall (x ∷ l) = Small x × AllSmall l

small_first : (l : List Says) → AllSmall l → Small (first_of l)
small_first [] h = tt
small_first ((Ok _) ∷ l) h = small_first l h.1
small_first ((Err f) ∷ l) h = h.0

small_when : (x : Says) (b : Bool) → Small x → Small (x when b)
small_when x true h = h
small_when x false h = tt

-- ROWS AND GROUPS of small tags
abbrev low : Row → Bool
low r = leb r.tag 99_999

small_missing : (rows : List Row) (met : List ℕ) → all low rows ≡ true → Small (missing rows met)
small_missing [] met h = tt
small_missing (r ∷ rs) met h = go (r.required && not (has met r.tag)) (small_missing rs met (both (low r) (all low rs) h).1)
  where
    go : (b : Bool) → Small (missing rs met) → Small (cond b (reason 1 tag r.tag) (missing rs met))
    go true k = (refl, leb-true r.tag 99_999 (both (low r) (all low rs) h).0)
    go false k = k

record LowGroup (g : Group) : Type 0 where
  pub counter : g.counter ≤ 99_999
  pub members : all low g.members ≡ true

abbrev LowGroups : List Group → Type 0
LowGroups [] = Unit {0}
LowGroups (g ∷ gs) = LowGroup g × LowGroups gs

abbrev LowOpen : List Open → Type 0
LowOpen [] = Unit {0}
LowOpen (g ∷ gs) = LowGroup g.group × LowOpen gs

low_groups : LowGroups groups
unfolding №453 №580 №552
low_groups = (record { counter = omega arith; members = refl }, (record { counter = omega arith; members = refl }, (record { counter = omega arith; members = refl }, tt)))

low_among : (gs : List Group) (rows : List Row) → LowGroups gs → LowGroups (groups_among gs rows)
low_among [] rows h = tt
low_among (g ∷ gs) rows h = go (listed rows g.counter) (low_among gs rows h.1)
  where
    go : (b : Bool) → LowGroups (groups_among gs rows) → LowGroups (cond b (g ∷ groups_among gs rows) (groups_among gs rows))
    go true k = (h.0, k)
    go false k = k

low_of : (m : MsgType) → LowGroups (groups_of m)
unfolding groups_of
low_of m = low_among groups (fields m ++ all_members (deeper (fields m) (deeper (fields m) []))) low_groups

low_rows : (m : MsgType) → all low (header ++ fields m) ≡ true
unfolding header fields №453 №580 №552
low_rows Heartbeat = refl
low_rows TestRequest = refl
low_rows ResendRequest = refl
low_rows Reject = refl
low_rows SequenceReset = refl
low_rows Logout = refl
low_rows Logon = refl
low_rows OrderCancelRequest = refl
low_rows TradeCaptureReportRequest = refl
low_rows TradeCaptureReport = refl

-- THE RULES
small_incomplete : (g : Open) → LowGroup g.group → Small (incomplete g)
unfolding incomplete
small_incomplete g h = small_when (missing g.group.members g.last) (not (eqb g.begun 0)) (small_missing g.group.members g.last h.members)

small_closing : (g : Open) → LowGroup g.group → Small (closing g)
unfolding closing
small_closing g h =
    small_first (incomplete g ∷ miscounted g ∷ []) (small_incomplete g h, (small_when (reason 16 tag g.group.counter) (not (eqb g.begun g.count)) (refl, h.counter), tt))

abbrev LowPart : Part → Type 0
LowPart malformed = Unit {0}
LowPart (field t v) = t ≤ 99_999

low_part : (p : Bytes) → LowPart (part_of p)
unfolding part_of
low_part p = go (has p (byte "=")) (is_tag (before (byte "=") p)) refl
  where
    go : (a b : Bool) → is_tag (before (byte "=") p) ≡ b → LowPart (cond (a && b) (field (value (before (byte "=") p)) (behind (byte "=") p)) malformed)
    go true true e =
        let N = written_means (no_zeros 5) (before (byte "=") p) e in
        let l : value (before (byte "=") p) < 10 ^ 5 = value_below 5 (before (byte "=") p) N.whole N.few in
        omega arith
    go true false e = tt
    go false b e = tt

small_closing_all : (gs : List Open) → LowOpen gs → Small (closing_all gs)
small_closing_all [] h = tt
small_closing_all (g ∷ gs) h = small_first (closing g ∷ closing_all gs ∷ []) (small_closing g h.0, (small_closing_all gs h.1, tt))

small_rule1 : (gs : List Open) (p : Part) → LowOpen gs → Small (rule1 gs p)
unfolding rule1
small_rule1 [] p h = tt
small_rule1 (g ∷ gs) p h = go (ends g.group.members p) (small_rule1 gs p h.1)
  where
    go : (b : Bool) → Small (rule1 gs p) → Small (cond b (first_of (closing g ∷ rule1 gs p ∷ [])) (incomplete g when begins g.group.members p))
    go true k = small_first (closing g ∷ rule1 gs p ∷ []) (small_closing g h.0, (k, tt))
    go false k = small_when (incomplete g) (begins g.group.members p) (small_incomplete g h.0)

low_left : (gs : List Open) (p : Part) → LowOpen gs → LowOpen (left gs p)
unfolding left
low_left [] p h = tt
low_left (g ∷ gs) p h = go (ends g.group.members p) (low_left gs p h.1)
  where
    go : (b : Bool) → LowOpen (left gs p) → LowOpen (cond b (left gs p) (g ∷ gs))
    go true k = k
    go false k = h

reason_when : (r t : ℕ) (b : Bool) → has reasons r ≡ true → t ≤ 99_999 → Small (reason r tag t when b)
reason_when r t b h l = small_when (reason r tag t) b (h, l)

small_rule8 : (m : MsgType) (gs : List Open) (t : ℕ) → t ≤ 99_999 → Small (rule8 m gs t)
unfolding rule8
small_rule8 m [] t l = reason_when 15 t (member m t) refl l
small_rule8 m (g ∷ gs) t l =
    small_when (first_of ((reason 15 tag t when eqb g.begun 0) ∷ (reason 13 tag t when has g.last t) ∷ [])) (not (first_member g.group.members t))
    (small_first ((reason 15 tag t when eqb g.begun 0) ∷ (reason 13 tag t when has g.last t) ∷ [])
    (reason_when 15 t (eqb g.begun 0) refl l, (reason_when 13 t (has g.last t) refl l, tt)))

small_known : (m : MsgType) (w : Past) (t : ℕ) (v : Bytes) → t ≤ 99_999 → AllSmall (rules4to10 m w t v)
unfolding rules4to10 rule4 rule5 rule6 rule7 rule9 rule10
small_known m w t v l = (
  reason_when 4 t (eqb (length v) 0) refl l,
  (
    reason_when 13 t (frame_tag t || (not (member m t) && has w.seen t)) refl l,
    (
      reason_when 2 t (not (listed (rows_of m) t)) refl l,
      (
        reason_when 14 t (listed header t && any (λ (s : ℕ). not (listed header s)) w.seen) refl l,
        (
          small_rule8 m (left w.inside (field t v)) t l,
          (
            reason_when 6 t (not (formed (kind_in (rows_of m) t) v)) refl l,
            (
              reason_when 5 t (not (allowed (kind_in (rows_of m) t) v)) refl l,
              tt,
            ),
          ),
        ),
      ),
    ),
  ),
)

small_rule3 : (m : MsgType) (t : ℕ) → t ≤ 99_999 → Small (rule3 m t)
unfolding rule3
small_rule3 m t l = reason_when 3 t (not (administrative m) && not (in_dictionary t)) refl l

small_said : (m : MsgType) (w : Past) (p : Part) → LowOpen w.inside → LowPart p → Small (said m w p)
unfolding said rule2
small_said m w malformed h l = small_first (rule1 w.inside malformed ∷ rule2 malformed ∷ []) (small_rule1 w.inside malformed h, ((refl, omega arith), tt))
small_said m w (field t v) h l =
    small_first (rule1 w.inside (field t v) ∷ rule2 (field t v) ∷ rule3 m t ∷ cond (skipped m t) [] (rules4to10 m w t v))
    (small_rule1 w.inside (field t v) h, (tt, (small_rule3 m t l, go (skipped m t))))
  where
    go : (b : Bool) → AllSmall (cond b [] (rules4to10 m w t v))
    go true = tt
    go false = small_known m w t v l

-- THE WALK keeps to the table's groups
low_opened : (gs : List Group) (t : ℕ) (v : Bytes) → LowGroups gs → LowOpen (opened gs t v)
low_opened [] t v h = tt
low_opened (g ∷ gs) t v h = go (eqb g.counter t) (low_opened gs t v h.1)
  where
    go : (b : Bool) → LowOpen (opened gs t v) → LowOpen (cond b (record { group = g; count = value v; begun = 0; last = [] } ∷ []) (opened gs t v))
    go true k = (h.0, tt)
    go false k = k

low_append : (gs ks : List Open) → LowOpen gs → LowOpen ks → LowOpen (gs ++ ks)
low_append [] ks h k = k
low_append (g ∷ gs) ks h k = (h.0, low_append gs ks h.1 k)

low_taken : (m : MsgType) (seen : List ℕ) (gs : List Open) (t : ℕ) (v : Bytes) → LowOpen gs → LowOpen (taken m seen gs t v).inside
unfolding taken
low_taken m seen [] t v h = low_opened (groups_of m) t v (low_of m)
low_taken m seen (g ∷ gs) t v h = low_append (opened (groups_of m) t v) (joined g t ∷ gs) (low_opened (groups_of m) t v (low_of m)) (go (first_member g.group.members t), h.1)
  where
    go : (b : Bool) → LowGroup (cond {A = Open} b (record { group = g.group; count = g.count; begun = g.begun + 1; last = t ∷ [] }) (record { group = g.group; count = g.count; begun = g.begun; last = t ∷ g.last })).group
    go true = h.0
    go false = h.0

low_after : (m : MsgType) (w : Past) (p : Part) → LowOpen w.inside → LowOpen (after m w p).inside
unfolding after
low_after m w malformed h = h
low_after m w (field t v) h = go (skipped m t)
  where
    go : (b : Bool) → LowOpen (cond {A = Past} b (record { seen = w.seen; inside = left w.inside (field t v) }) (taken m w.seen (left w.inside (field t v)) t v)).inside
    go true = low_left w.inside (field t v) h
    go false = low_taken m w.seen (left w.inside (field t v)) t v (low_left w.inside (field t v) h)

-- a walk ends with a clean verdict or with such a finding
abbrev Told : Verdict → Type 0
Told (Ok _) = Unit {0}
Told (Err (Finds f)) = Found f.reason f.tag
Told (Err NoBody) = ⊥

told_by : (x : Says) (v : Verdict) → Small x → Told v → Told (verdict_by x v)
told_by (Ok _) v h k = k
told_by (Err f) v h k = h

told-walk : (m : MsgType) (ps : List Bytes) (w : Past) → LowOpen w.inside → Told (walk m w ps)
told-walk m [] w h =
    told_by (first_of (closing_all w.inside ∷ missing (header ++ fields m) w.seen ∷ [])) Clean
    (small_first (closing_all w.inside ∷ missing (header ++ fields m) w.seen ∷ []) (small_closing_all w.inside h, (small_missing (header ++ fields m) w.seen (low_rows m), tt))) tt
told-walk m (p ∷ ps) w h =
    told_by (said m w (part_of p)) (walk m (after m w (part_of p)) ps) (small_said m w (part_of p) h (low_part p)) (told-walk m ps (after m w (part_of p)) (low_after m w (part_of p) h))

told_as : (o : Option MsgType) (body : Bytes) → Told (judged_as o body)
told_as none body = (refl, omega arith)
told_as (some m) body = told-walk m (parts body) nothing_yet tt

-- A FINDING has one of the reasons, and a tag of at most five digits
pub verdict_finds : (body : Bytes) (r t : ℕ) → verdict body ≡ found r t → Found r t
unfolding verdict
verdict_finds body r t e = go (is_body body) (judged_as (msg_type body) body) (told_as (msg_type body) body) e
  where
    go : (b : Bool) (v : Verdict) → Told v → cond b v no_body ≡ found r t → Found r t
    go true v h e = subst Told e h
    go false v h e = let z : ◌≡◌ {A = ℕ} 0 1 = cc in absurd (omega arith)

-- REFUSAL 10 where the bytes are no body, and only there
pub verdict-refuses : (body : Bytes) → (numbers (verdict body)).0 ≡ cond (is_body body) none (some 10)
unfolding verdict numbers
verdict-refuses body = go (is_body body) (judged_as (msg_type body) body) (told_as (msg_type body) body)
  where
    go : (b : Bool) (v : Verdict) → Told v → (numbers (cond b v no_body)).0 ≡ cond b none (some 10)
    go true (Ok _) h = refl
    go true (Err (Finds f)) h = refl
    go true (Err NoBody) h = absurd h
    go false v h = refl

-- the reasons are small, so reason and tag are numbers that a Reject can carry
has_low : (n : ℕ) (l : List ℕ) (r : ℕ) → all (λ (x : ℕ). leb x n) l ≡ true → has l r ≡ true → r ≤ n
has_low n [] r h k = absurd (false≢true k)
has_low n (x ∷ l) r h k = let w = both (leb x n) (all (λ (y : ℕ). leb y n) l) h in go (eqb x r) refl k (has_low n l r w.1) (leb-true x n w.0)
  where
    go : (b : Bool) → eqb x r ≡ b → (b || has l r) ≡ true → (has l r ≡ true → r ≤ n) → x ≤ n → r ≤ n
    go true e k f g = omega (arith, eqb-true x r e)
    go false e k f g = f k

pub reason_low : (r : ℕ) → has reasons r ≡ true → r ≤ 16
reason_low r h = has_low 16 reasons r refl h

abbrev pub SmallVerdict : Verdict → Type 0
SmallVerdict (Ok _) = Unit {0}
SmallVerdict (Err (Finds f)) = (f.reason ≤ 99) × (f.tag ≤ 99_999)
SmallVerdict (Err NoBody) = Unit {0}

pub verdict_small : (body : Bytes) → SmallVerdict (verdict body)
verdict_small body = go (verdict body) refl
  where
    go : (v : Verdict) → verdict body ≡ v → SmallVerdict v
    go (Ok _) e = tt
    go (Err (Finds f)) e = let w = verdict_finds body f.reason f.tag e in (omega (arith, reason_low f.reason w.0), w.1)
    go (Err NoBody) e = tt
