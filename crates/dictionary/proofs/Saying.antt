-- What is said of a part, the first rule that speaks: malformed, of a tag outside the dictionary, or of one in it.
use Rattle.std.specs.Prelude.{Option, Result, Ok, Err}
use Rattle.dictionary.specs.declared.Finding.{Finding}
use Prim.Native.Nat.{ℕ, ◌<◌}
use native.Mathlib.Omega.{arith}
use borrow.Author.Tests.{ne_eqb}
use mathlib.Core.Path.{◌≡◌, refl, ap, sym, ◌∙◌}
use mathlib.Core.List.{List, [], ◌∷◌, ◌++◌}
use mathlib.Core.Bool.{Bool, true, false, cond, not, ◌&&◌, false≢true}
use mathlib.Core.Logic.{inl, inr}
use lib.Dec.{eqb, ltb}
use Rattle.octets.specs.Bytes.{Bytes, any, all, has}
use Rattle.fields.specs.Field.{field, malformed}
use Rattle.kinds.specs.Kind.{formed, allowed}
use Rattle.kinds.specs.Judged.{judged}
use Rattle.dates.specs.Date.{found as found_of}
use Rattle.fault.specs.Fault.{number, reason as reason_of}
use Rattle.fault.specs.declared.Fault.{Fault}
use Rattle.fault.specs.declared.Fault.TheVariants.{Value, Form}
use Rattle.table.specs.Dictionary.{Row, Group, №453, №580, №552, the_ten, header, fields, code35, listed, kind_in, groups_of, rows_of, in_dictionary, administrative}
use Rattle.dictionary.specs.Verdict.{Says, Nothing, reason◌tag◌, Open, Past, ◌when◌, first_of, rule1, rule2, rule3, rule4, rule5, rule6, rule7, rule8, rule9, rule10, left, skipped, rules4to10, said}
use Rattle.table.specs.code.Held.{tag_count, all_rows, tags, tag_at, index, Three}
use Rattle.dictionary.specs.code.Held.{NoMember, Stood, away, within, Rules9and10, rules_of_tag}
use Rattle.table.specs.declared.MsgType.{MsgType}
use Rattle.table.specs.declared.MsgType.TheVariants.{Heartbeat, TestRequest, ResendRequest, Reject, SequenceReset, Logout, Logon, OrderCancelRequest, TradeCaptureReportRequest, TradeCaptureReport}
use Rattle.dictionary.specs.declared.groups.OpenGroup.{OpenGroup}
use Rattle.octets.proofs.Tests.{both, all_at}
use Rattle.table.proofs.Places.{tags-long}

-- r is what the first rule says that speaks: one that does, and one that does not
pub record First (l : List Says) (r : Says) : Type 0 where
  pub is : r ≡ first_of l

pub stops : {r x : Says} {l : List Says} {f : Finding} → r ≡ x → r ≡ Err f → First (x ∷ l) (Err f)
stops {r} p e = record { is = rw (sym p ∙ e) }

pub passes : {r x y : Says} {l : List Says} → r ≡ x → r ≡ Nothing → First l y → First (x ∷ l) y
passes p e h = record { is = rw (sym p ∙ e) h.is }

-- and of some rules before others
pub stops_in : {r : Says} {f : Finding} (k l : List Says) → r ≡ first_of k → r ≡ Err f → First (k ++ l) (Err f)
stops_in [] l p e = let z : ◌≡◌ {A = ℕ} 0 1 = cc in absurd (omega arith)
stops_in ((Ok _) ∷ k) l p e = record { is = (stops_in k l p e).is }
stops_in ((Err x) ∷ k) l p e = record { is = sym e ∙ p }

pub passes_all : {r y : Says} (k l : List Says) → r ≡ first_of k → r ≡ Nothing → First l y → First (k ++ l) y
passes_all [] l p e h = h
passes_all ((Ok _) ∷ k) l p e h = record { is = (passes_all k l p e h).is }
passes_all ((Err f) ∷ k) l p e h = let z : ◌≡◌ {A = ℕ} 0 1 = cc in absurd (omega arith)

-- the tags that have a place are those of the dictionary
all_known : all in_dictionary tags ≡ true
unfolding all_rows tags in_dictionary rows_of header fields groups_of №453 №580 №552
all_known = refl

pub known_tag : (p : ℕ) → p < tag_count → in_dictionary (tag_at p) ≡ true
known_tag p h = all_at in_dictionary 0 tags all_known p (omega (arith, tags-long))

pub placed : Row → Bool
placed r = has tags r.tag

frame-placed : all (has tags) (8 ∷ 9 ∷ 10 ∷ []) ≡ true
unfolding all_rows tags header fields №453 №580 №552
frame-placed = refl

rows_placed : all (λ m. all placed (rows_of m)) the_ten ≡ true
unfolding placed all_rows tags rows_of header fields groups_of №453 №580 №552
rows_placed = refl

pub members-placed : (g : Group) → Three g → all placed g.members ≡ true
unfolding placed all_rows tags header fields №453 №580 №552
members-placed g (inl e) = rw e
members-placed g (inr (inl e)) = rw e
members-placed g (inr (inr e)) = rw e

module _ (t : ℕ) (n : has tags t ≡ false) where
  other : (x : ℕ) → has tags x ≡ true → eqb x t ≡ false
  other x h = ne_eqb x t (λ e. false≢true (sym n ∙ ap (has tags) (sym e) ∙ h))

  not_among : (l : List ℕ) → all (has tags) l ≡ true → has l t ≡ false
  not_among [] h = refl
  not_among (x ∷ l) h = rw (other x (both (has tags x) _ h).0, not_among l (both (has tags x) _ h).1)

  pub not_listed : (rows : List Row) → all placed rows ≡ true → listed rows t ≡ false
  unfolding placed
  not_listed [] h = refl
  not_listed (r ∷ rs) h = rw (other r.tag (both (has tags r.tag) _ h).0, not_listed rs (both (has tags r.tag) _ h).1)

  not_in : (ms : List MsgType) → all (λ m. all placed (rows_of m)) ms ≡ true → any (λ m. listed (rows_of m) t) ms ≡ false
  not_in [] h = refl
  not_in (m ∷ ms) h = rw (not_listed (rows_of m) (both (all placed (rows_of m)) _ h).0, not_in ms (both (all placed (rows_of m)) _ h).1)

  pub unknown_tag : in_dictionary t ≡ false
  unfolding in_dictionary
  unknown_tag = rw (not_among (8 ∷ 9 ∷ 10 ∷ []) frame-placed, not_in the_ten rows_placed)

  -- such a field is a member of no group
  pub unknown_member : (v : Bytes) → NoMember (field t v)
  unknown_member v g T = rw (not_listed g.members (members-placed g T))

  -- and it ends any that is open
  pub unknown_left : (gs : List Open) (v : Bytes) {met : List Bool} {o : Option OpenGroup} → Stood gs met o → left gs (field t v) ≡ []
  unfolding left
  unknown_left [] v (away z) = refl
  unknown_left (g ∷ []) v (within e I) = rw (not_listed g.group.members (members-placed g.group I.three))
  unknown_left (g ∷ (_ ∷ _)) v {met = met} {o = o} x5 = elim x5 [ ]

pub malformed_member : NoMember malformed
malformed_member g T = refl

-- what is said of each
pub said-malformed : (m : MsgType) (w : Past) (r : Says) → First (rule1 w.inside malformed ∷ reason 0 tag 0 ∷ []) r → r ≡ said m w malformed
unfolding said rule2
said-malformed m w r F = F.is

pub unknown_says : (m : MsgType) (w : Past) (t : ℕ) (v : Bytes) → in_dictionary t ≡ false
    → said m w (field t v) ≡ first_of (rule1 w.inside (field t v) ∷ cond (administrative m) Nothing (reason 3 tag t) ∷ [])
unfolding said rule2 rule3 skipped
unknown_says m w t v h = rw h (go (rule1 w.inside (field t v)) (administrative m))
  where
    go : (x : Says) (a : Bool) → first_of (x ∷ Nothing ∷ reason 3 tag t when (not a && true) ∷ cond (a && true) [] (rules4to10 m w t v)) ≡ first_of (x ∷ cond a Nothing (reason 3 tag t) ∷ [])
    go (Ok _) true = refl
    go (Ok _) false = refl
    go (Err f) a = refl

pub said_unknown : (m : MsgType) (w : Past) (t : ℕ) (v : Bytes) (r : Says) → in_dictionary t ≡ false
    → First (rule1 w.inside (field t v) ∷ cond (administrative m) Nothing (reason 3 tag t) ∷ []) r → r ≡ said m w (field t v)
said_unknown m w t v r h F = F.is ∙ sym (unknown_says m w t v h)

abbrev pub rules_heard : MsgType → Past → ℕ → Bytes → List Says
rules_heard m w t v = rules_of_tag m w t v ++ (rule9 m t v ∷ rule10 m t v ∷ [])

pub known_says : (m : MsgType) (w : Past) (t : ℕ) (v : Bytes) → in_dictionary t ≡ true → said m w (field t v) ≡ first_of (rules_heard m w t v)
unfolding said rule2 rule3 skipped rules4to10
known_says m w t v h = rw h (go (rule1 w.inside (field t v)) (administrative m))
  where
    l : List Says
    l = rule4 t v ∷ rule5 m w.seen t ∷ rule6 m t ∷ rule7 w.seen t ∷ rule8 m (left w.inside (field t v)) t ∷ rule9 m t v ∷ rule10 m t v ∷ []

    go : (x : Says) (a : Bool) → first_of (x ∷ Nothing ∷ reason 3 tag t when (not a && false) ∷ cond (a && false) [] l) ≡ first_of (x ∷ l)
    go (Ok _) true = refl
    go (Ok _) false = refl
    go (Err f) a = refl

pub said_known : (m : MsgType) (w : Past) (t : ℕ) (v : Bytes) (r : Says) → in_dictionary t ≡ true → First (rules_heard m w t v) r → r ≡ said m w (field t v)
said_known m w t v r h F = F.is ∙ sym (known_says m w t v h)

pub administrative_is : (m : MsgType) → ltb (index m) 7 ≡ administrative m
unfolding administrative code35
administrative_is Heartbeat = refl
administrative_is TestRequest = refl
administrative_is ResendRequest = refl
administrative_is Reject = refl
administrative_is SequenceReset = refl
administrative_is Logout = refl
administrative_is Logon = refl
administrative_is OrderCancelRequest = refl
administrative_is TradeCaptureReportRequest = refl
administrative_is TradeCaptureReport = refl

-- rules 9 and 10 by the code's judgement
module _ {m : MsgType} {t : ℕ} {v : Bytes} {r : Result (Unit {0}) Fault} (j : listed (rows_of m) t ≡ true → reason_of r ≡ judged (kind_in (rows_of m) t) v) where
  pub judged_well : r ≡ Ok tt → Rules9and10 m t v Nothing
  unfolding judged rule9 rule10
  judged_well e = record { is = λ l. go (formed (kind_in (rows_of m) t) v) (allowed (kind_in (rows_of m) t) v) (ap reason_of (sym e) ∙ j l) }
    where
      go : (f a : Bool) → ◌≡◌ {A = ℕ} 0 (found_of f a) → Nothing ≡ first_of (reason 6 tag t when not f ∷ reason 5 tag t when not a ∷ [])
      go true true h = refl
      go true false h = absurd (omega arith)
      go false a h = absurd (omega arith)

  pub judged_ill : {x : Fault} → r ≡ Err x → Rules9and10 m t v (reason number x tag t)
  unfolding judged rule9 rule10
  judged_ill {x} e = record { is = λ l. go x (formed (kind_in (rows_of m) t) v) (allowed (kind_in (rows_of m) t) v) (ap reason_of (sym e) ∙ j l) }
    where
      go : (y : Fault) (f a : Bool) → ◌≡◌ {A = ℕ} (number y) (found_of f a) → reason number y tag t ≡ first_of (reason 6 tag t when not f ∷ reason 5 tag t when not a ∷ [])
      go Form true true h = absurd (omega arith)
      go Form true false h = absurd (omega arith)
      go Form false a h = refl
      go Value true true h = absurd (omega arith)
      go Value true false h = refl
      go Value false a h = absurd (omega arith)

pub rule6_silent : (m : MsgType) (t : ℕ) → Nothing ≡ rule6 m t → listed (rows_of m) t ≡ true
unfolding rule6
rule6_silent m t = go (listed (rows_of m) t)
  where
    go : (b : Bool) → Nothing ≡ (reason 2 tag t when not b) → b ≡ true
    go true h = refl
    go false h = let z : ◌≡◌ {A = ℕ} 0 1 = cc in absurd (omega arith)
