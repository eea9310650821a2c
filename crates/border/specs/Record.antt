-- THE RECORD at the C border: "The record holds CompIDs .., status .., expected number E, next number out, heartbeat seconds and time last sent.", and, by
-- document 02, the place of a replay and the gap. It lies in 24 bytes, each CompID's length with eleven bytes behind it, and in 24 words, of which the first is the
-- record's version and those behind the twelfth are zero, kept for what is to come.
use Rattle.std.specs.Prelude.{ℕ, zero, suc, ◌+◌, List, [], ◌∷◌, ◌++◌, map, Bool, true, false, ◌&&◌, eqb, length, drop, get_or, set, replicate}
use Rattle.std.proofs.Math.Option.{Option, none, some}
use Rattle.std.proofs.lemmas.List.Edits.{sets}
use Rattle.octets.specs.Bytes.{Bytes, all}
use Rattle.gap.specs.declared.Gap.{Gap}
use Rattle.moves.specs.Session.{code}
use Rattle.moves.specs.declared.record.Record.{Record}
use Rattle.moves.specs.declared.record.Status.{Status}
use Rattle.moves.specs.declared.record.Status.TheVariants.{Waiting, Active, Closed}

-- eleven bytes from a place on
abbrev pub eleven : ℕ → Bytes → Bytes
eleven k l = map (λ i. get_or l (k + i) 0) (0 ∷ 1 ∷ 2 ∷ 3 ∷ 4 ∷ 5 ∷ 6 ∷ 7 ∷ 8 ∷ 9 ∷ 10 ∷ [])

-- the bytes of a record's CompIDs, and its words
abbrev pub comp_ids_of : Record → Bytes
comp_ids_of r = (r.oursLen ∷ eleven 0 r.ours) ++ (r.peerLen ∷ eleven 0 r.peer)

-- "whether a gap is open, for which expected number, the highest number seen, and when it was last asked for"
abbrev pub gap_words : Gap → List ℕ
gap_words g = g.isOpen ∷ g.expected ∷ g.highest ∷ g.asked ∷ []

-- status, E, next out, heartbeat, last sent, the next number of a replay and the last one asked for, the gap
abbrev pub state : Record → List ℕ
state r = code r.status ∷ r.expected ∷ r.next ∷ r.heartbeat ∷ r.sent ∷ r.replay.at ∷ r.replay.to ∷ gap_words r.gap

abbrev pub words_of : Record → List ℕ
words_of r = (1 ∷ state r) ++ replicate 12 0

-- the words with another state; all others stay
abbrev pub saved : List ℕ → Record → List ℕ
saved words r = sets words 1 (state r)

-- the words of a session that is Closed and otherwise unchanged: "Closing .. drops an unfinished replay"
abbrev pub closed_in : List ℕ → List ℕ
closed_in words = set (set (set words 1 (code Closed)) 6 0) 7 0

-- "status Waiting, Active or Closed", by its number
abbrev pub status_of : ℕ → Option Status
status_of zero = some Waiting
status_of (suc zero) = some Active
status_of (suc (suc zero)) = some Closed
status_of (suc (suc (suc n))) = none

-- the words that are kept for later are zero
unfoldable pub spare : List ℕ → Bool
spare words = all (λ w. eqb w 0) (drop 12 words)

abbrev pub status_if : List ℕ → Bool → Option Status
status_if words true = status_of (get_or words 1 0)
status_if words false = none

-- the status of a record; none where the words are no record's of this version
unfoldable pub status_in : List ℕ → Option Status
status_in words = status_if words (eqb (length words) 24 && eqb (get_or words 0 0) 1 && spare words)

abbrev pub gap_in : List ℕ → Gap
gap_in words = record { isOpen = get_or words 8 0; expected = get_or words 9 0; highest = get_or words 10 0; asked = get_or words 11 0 }

abbrev pub record_with : Bytes → List ℕ → Status → Record
record_with ids words st =
    record { ours = eleven 1 ids; oursLen = get_or ids 0 0; peer = eleven 13 ids; peerLen = get_or ids 12 0; status = st; expected = get_or words 2 0; next = get_or words 3 0; heartbeat = get_or words 4 0; sent = get_or words 5 0; replay = record { at = get_or words 6 0; to = get_or words 7 0 }; gap = gap_in words }

abbrev pub record_if : Bytes → List ℕ → Option Status → Option Record
record_if ids words none = none
record_if ids words (some st) = some (record_with ids words st)

-- the record that lies there, if there is one
abbrev pub record_in : Bytes → List ℕ → Option Record
record_in ids words = record_if ids words (status_in words)
