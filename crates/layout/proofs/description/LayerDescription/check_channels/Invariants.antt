use Rattle.std.proofs.Common.{◌≡◌, drop}
use Rattle.layout.specs.Acceptance.{broken_channel}
use Rattle.layout.proofs.description.LayerDescription.check_channels.Given as goal

abbrev pub invariant-loop-place : goal.invariant-loop-place
invariant-loop-place l = broken_channel l.self l.place-counter (drop l.place-counter l.channels) ≡ broken_channel l.self 0 l.channels
