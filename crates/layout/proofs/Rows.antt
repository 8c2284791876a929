-- A row of channels, taken one by one.
use Rattle.std.proofs.Common.{◌≡◌, ℕ, ◌+◌, ◌<◌, List, length, get_or, drop, Some, None, Option, sym, ap, ◌∙◌}
use Rattle.std.proofs.lemmas.List.{at_drop_more}
use Rattle.numbers.specs.Refusals.{Told, refused}
use Rattle.layout.specs.Acceptance.{broken_channel, broken_channel_rule}
use Rattle.layout.specs.declared.attribute.ChannelDescription.{ChannelDescription}
use Rattle.layout.specs.declared.description.LayerDescription.{LayerDescription}

-- what the channel at k makes of the answer for those after it
abbrev choose : ℕ → Option Told → Option ℕ → Option Told
choose k later o = elim o [ Some number ↦ Some (refused number 4 k) | None ↦ later ]

module _ (d : LayerDescription) (cs : List ChannelDescription) (i : ℕ) (c : ChannelDescription) (h : i < length cs) where
  here : broken_channel d i (drop i cs) ≡ choose i (broken_channel d (i + 1) (drop (i + 1) cs)) (broken_channel_rule d (get_or cs i c))
  here = at_drop_more (broken_channel d i) cs i c h

  pub broken_here : (n : ℕ) → Some n ≡ broken_channel_rule d (get_or cs i c) → Some (refused n 4 i) ≡ broken_channel d i (drop i cs)
  broken_here n e = ap (choose i (broken_channel d (i + 1) (drop (i + 1) cs))) e ∙ sym here

  pub passes_here : None ≡ broken_channel_rule d (get_or cs i c) → broken_channel d (i + 1) (drop (i + 1) cs) ≡ broken_channel d i (drop i cs)
  passes_here e = ap (choose i (broken_channel d (i + 1) (drop (i + 1) cs))) e ∙ sym here
