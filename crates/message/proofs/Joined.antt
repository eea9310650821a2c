-- Good frames, one behind the other, are read as just these frames.
use native.Mathlib.Omega.{arith}
use mathlib.Core.List.{List, [], ◌∷◌}
use Rattle.octets.specs.Bytes.{Bytes}
use Rattle.frame.specs.Frame.{fixt}
use Rattle.frame.specs.Stream.{Frames, rest, joined}
use Rattle.frame.proofs.Marks.{fixt_ok}
use Rattle.frame.proofs.Good.{good_at_length}
use Rattle.frame.proofs.Streams.{clear_rest, frames_join}
use Rattle.message.specs.Whole.{AllGood}

no_frames : Frames fixt [] []
no_frames =
    let w = clear_rest fixt fixt_ok [] (λ q m G. omega (arith, (good_at_length fixt G).0, G.inside)) in
    rest w.0 w.1

pub joined_frames : (ms : List Bytes) → AllGood ms → Frames fixt (joined ms) ms
joined_frames [] g = no_frames
joined_frames (m ∷ ms) g = frames_join fixt fixt_ok m g.0 no_frames (joined_frames ms g.1)
