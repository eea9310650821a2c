-- The replay and the store in a session's calls (document 02, Q-4): what zeroes the store, and what starts, replaces and drops a replay.
use Rattle.std.specs.Prelude.{ℕ, ◌+◌, ◌≤◌, ◌<◌, ◌≡◌, ◌∷◌, true, false}
use Rattle.std.proofs.Math.Option.{none}
use Rattle.octets.specs.Bytes.{Bytes, Byted}
use Rattle.places.specs.Places.{zeroed}
use Rattle.message.specs.Whole.{body_in}
use Rattle.moves.specs.Words.{speaks}
use Rattle.moves.specs.Session.{Session, Replay, no_replay, expecting, replaying, in_range}
use Rattle.moves.specs.Moves.{OurPeer, Start, readable, N, type, clean, asks_or_not, unserved, requested}
use Rattle.session.specs.Calls.{making, keeping, settling, step, renewed, store_after, tick, logout, test_request, reconnect}
use Rattle.session.specs.Delivery.{Unrefused}
use Rattle.moves.specs.declared.record.Status.TheVariants.{Closed}
use Rattle.session.specs.declared.Refusal.{Refusal}
use Rattle.session.specs.Answer.{Done, Refused}

-- A session s, a frame f, a time t, a reply buffer and a store.
module _ (s : Session) (f : Bytes) (t : ℕ) (buf store : Bytes) where
  -- THE STORE (document 02, Q-4)
  pub record Stored : Type 0 where
    -- "An accepted logon with 141=Y zeroes the store": it came with N = 1, and both numbers begin anew;
    pub zeroes : renewed s (body_in f) (step s f t buf store) ≡ true → store_after s f t buf store ≡ zeroed store
    pub anew : renewed s (body_in f) (step s f t buf store) ≡ true → (N s (body_in f) ≡ 1) × ((step s f t buf store).session.E ≡ 2) × ((step s f t buf store).session.next ≡ 2)
    -- every other step leaves each byte of it,
    pub stays : renewed s (body_in f) (step s f t buf store) ≡ false → store_after s f t buf store ≡ store
    -- and "no refusal changes the store"
    pub refused : (k : Refusal) → (step s f t buf store).answer ≡ Refused k → store_after s f t buf store ≡ store

  -- A RESEND REQUEST THAT IS SERVED: "if clean and not rejected below", in turn or too high
  pub record Served : Type 0 where
    pub unrefused : Unrefused s f t buf store
    pub numbered : speaks (readable s (body_in f)) ≡ true
    pub peer : OurPeer s (body_in f)
    pub not_low : s.E ≤ N s (body_in f)
    pub request : type s (body_in f) "2" ≡ true
    pub no_verdict : clean s (body_in f) ≡ true
    pub not_rejected : unserved s (body_in f) ≡ none

-- WHAT BECOMES OF A REPLAY, by what a call on s leaves: it is kept, dropped or replaced. What replaces it is what is asked for, where that is served.
pub data Moved (s left : Session) (Serves : Type 0) (asked_for : Replay) : Type 0 where
  -- it is kept, and the session was not closed (a Waiting one has none to keep, and a logon starts none)
  kept : left.replay ≡ s.replay → (left.status ≡ Closed → s.status ≡ Closed) → Moved s left Serves asked_for
  -- "Closing .. drops an unfinished replay": by our Logout, by the answer to one, by refusal 3, 4 or 5
  dropped : left.replay ≡ no_replay → left.status ≡ Closed → Moved s left Serves asked_for
  -- "a new Resend Request that can be served replaces it"
  replaced : Serves → left.replay ≡ asked_for → Moved s left Serves asked_for

pub record Disturbs (s : Session) : Type 0 where
  pub by_step : (f : Bytes) (t : ℕ) (buf store : Bytes) → Moved s (step s f t buf store).session (Served s f t buf store) (requested s (body_in f))
  -- "The step, in rule 4 too, only starts this": in turn nothing is written, E + 1; with too high a number it asks or not, and nothing else goes out
  pub starts : (f : Bytes) (t : ℕ) (buf store : Bytes) → Served s f t buf store → N s (body_in f) ≡ s.E
      → step s f t buf store ≡ settling (keeping Done (replaying (requested s (body_in f)) (expecting (s.E + 1) s)) buf)
  pub starts_too_high : (f : Bytes) (t : ℕ) (buf store : Bytes) → Served s f t buf store → s.E < N s (body_in f)
      → step s f t buf store ≡ settling (making t s (Start (requested s (body_in f)) ∷ asks_or_not s (body_in f) t) buf)
  -- "the place, within 1 to L"
  pub within_L : (f : Bytes) (t : ℕ) (buf store : Bytes) → Byted f → Served s f t buf store
      → (1 ≤ (requested s (body_in f)).at) × ((requested s (body_in f)).at ≤ (requested s (body_in f)).to) × ((requested s (body_in f)).to < s.next)
  -- the other calls, which are given no frame, drop it by closing, or leave it;
  pub by_tick : (t : ℕ) (buf : Bytes) → Moved s (tick s t buf).session ⊥ no_replay
  pub by_logout : (t : ℕ) (buf : Bytes) → Moved s (logout s t buf).session ⊥ no_replay
  pub by_test : (id : Bytes) (t : ℕ) (buf : Bytes) → Moved s (test_request s id t buf).session ⊥ no_replay
  -- "Closing or a reconnect drops an unfinished replay"
  pub by_reconnect : in_range s ≡ true → (reconnect s).session.replay ≡ no_replay
