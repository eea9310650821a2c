-- What the line promises, over a rule R: the host's loop over the lent buffer is the reading in pieces of which the frame layer speaks, also where it
-- spares readings, and how much is pending in the buffer.
--
-- Shown in proofs/Promise.antt for every rule whose mark is as frame's specs/Mark.antt asks, and so for `8=FIXT.1.1|9=` and `8=FIX.4.2|9=`.
use Rattle.std.specs.Prelude.{ℕ, ◌-◌, ◌≤◌, ◌<◌, ◌≡◌, List, [], length}
use Rattle.octets.specs.Bytes.{Bytes}
use Rattle.frame.specs.Frame.{Rule, fixt, longest}
use Rattle.frame.specs.Reading.{refusal, Reads}
use Rattle.frame.specs.Stream.{Drained, Fed}
use Rattle.frame.specs.Promise.{ExactlyOne}
use Rattle.line.specs.Line.{Line, line, pending, room, dropped, Hosted, HostedSparing}

-- THE HOST'S LINE
-- the pending bytes lie in the lent buffer
abbrev pub Within : Line → Type 0
Within l = l.held ≤ length l.buffer

-- and it has room for the longest frame
pub record Lent (R : Rule) (l : Line) : Type 0 where
  pub within : Within l
  pub wide : longest R ≤ length l.buffer

pub record OnTheLine (R : Rule) : Type 0 where
  -- the host's loop over the lent buffer is that reading in pieces: from an empty line, of which frame's promise speaks, or from any pending rest;
  pub in_pieces : {l l' : Line} {xs : List Bytes} {fss : List (List Bytes)} → Within l → Hosted R l xs fss l' → Fed R (pending l) xs fss (pending l')
  -- it ends, with exactly one row of frames for each piece and one line left,
  pub ends : (l : Line) (xs : List Bytes) → Lent R l → ExactlyOne (λ (o : List (List Bytes) × Line). Hosted R l xs o.0 o.1)
  -- which is lent as before, so that it can go on,
  pub goes_on : {l l' : Line} {xs : List Bytes} {fss : List (List Bytes)} → Lent R l → Hosted R l xs fss l' → Lent R l'
  -- and there is always room once reading has answered refusal 1:
  pub some_room : (l : Line) (d : ℕ) → Lent R l → Reads R (pending l) (refusal 1 d) → 0 < room (dropped l d)
  -- all but 2,074 bytes of the buffer
  pub much_room : (l : Line) (d : ℕ) → Within l → Reads R (pending l) (refusal 1 d) → length l.buffer - (longest R - 1) ≤ room (dropped l d)

-- THE HOST THAT SPARES READINGS
-- a lent line on which there is room, as there is on an empty one
pub record Roomy (R : Rule) (l : Line) : Type 0 where
  pub lent : Lent R l
  pub free : 0 < room l

pub record ReadingsSpared (R : Rule) : Type 0 where
  -- it loses nothing: from an empty line the frames are those of reading in pieces, each while the same piece is worked off, and what is pending at the
  -- end gives no frame when it is read, and keeps the rest that reading in pieces keeps;
  pub in_pieces : {buffer : Bytes} {l : Line} {xs : List Bytes} {fss : List (List Bytes)} → HostedSparing R (line buffer 0) xs fss l → (r : Bytes) × (Fed R [] xs fss r × Drained R (pending l) [] r)
  -- its loop ends, with exactly one row of frames for each piece and one line left,
  pub ends : (l : Line) (xs : List Bytes) → Roomy R l → ExactlyOne (λ (o : List (List Bytes) × Line). HostedSparing R l xs o.0 o.1)
  -- on which there is room again, so that it can go on: `fixgw_put` puts at least one byte of the next piece
  pub goes_on : {l l' : Line} {xs : List Bytes} {fss : List (List Bytes)} → Roomy R l → HostedSparing R l xs fss l' → Roomy R l'

-- THE PENDING REST
pub record PendingRest (R : Rule) : Type 0 where
  -- "Under refusal 1 at most 2,072 bytes stay pending", and document 02: "the pending rest 2,074": in every line buffer, when refusal 1's bytes are dropped,
  pub held : (l : Line) (d : ℕ) → Reads R (pending l) (refusal 1 d) → (dropped l d).held ≤ longest R - 1
  -- and behind every piece
  pub hosted : {buffer : Bytes} {l : Line} {xs : List Bytes} {fss : List (List Bytes)} → Hosted R (line buffer 0) xs fss l → l.held ≤ longest R - 1

-- THE WHOLE PROMISE
pub record Promise (R : Rule) : Type 0 where
  pub on_the_line : OnTheLine R
  pub readings_spared : ReadingsSpared R
  pub pending_rest : PendingRest R

-- ITS NUMBER for `8=FIXT.1.1|9=`
pub record FixtNumbers : Type 0 where
  -- "the pending rest 2,074", so that a lent buffer of 4,096 bytes then has room for 2,022 bytes of the next piece
  pub room_left : (l : Line) (d : ℕ) → Within l → length l.buffer ≡ 4096 → Reads fixt (pending l) (refusal 1 d) → 2022 ≤ room (dropped l d)
