-- Refusals as the rules tell them: number, module, place and kind.
use Rattle.std.specs.Prelude.{ℕ, cond, ◌||◌, Ok, Err, Result, ◌==◌}
use Rattle.numbers.specs.declared.refusal.Refusal.{Refusal}
use Rattle.numbers.specs.declared.refusal.Kind.{Kind}
use Rattle.numbers.specs.declared.refusal.Kind.TheVariants.{Invalid, NotSupported}
use Rattle.numbers.specs.declared.refusal.Module.{Module}
use Rattle.numbers.specs.declared.refusal.Module.TheVariants.{Numbers, Sides, Schemes, Layers, Prefixes, Slots, Frames, Program}
use Rattle.numbers.specs.declared.refusal.Reason.{Reason}
use Rattle.numbers.specs.declared.refusal.Reason.TheVariants.{NumberOutOfRange, PositionPastTotal, LevelIndexTooLarge, DeepLayer, WindowOutOfRange, UnspecifiedLineOrder, EmptySide, BlockSideOutOfRange, ChannelCount, SamplingOutOfRange, SamplingOnTiles, SamplingNotDividing, Subsampled, WrongChunkCount, NoSuchTile, PositionTooLarge, LineDistanceTooLarge, LineAboveLayer, TotalTooLarge, UnreadableBytes, NoBlockThere, TableLength, NoSuchBlock, SlotFilled, EmptyEntry, EmptySlot, FirstOffset, DataLength, FileEnd, NotAllowedNow}

-- the number of each rule
abbrev pub number_of : Reason → ℕ
number_of NumberOutOfRange = 1
number_of PositionPastTotal = 2
number_of LevelIndexTooLarge = 3
number_of DeepLayer = 4
number_of WindowOutOfRange = 5
number_of UnspecifiedLineOrder = 6
number_of EmptySide = 7
number_of BlockSideOutOfRange = 8
number_of ChannelCount = 9
number_of SamplingOutOfRange = 10
number_of SamplingOnTiles = 11
number_of SamplingNotDividing = 12
number_of Subsampled = 13
number_of WrongChunkCount = 14
number_of NoSuchTile = 15
number_of PositionTooLarge = 16
number_of LineDistanceTooLarge = 17
number_of LineAboveLayer = 18
number_of TotalTooLarge = 19
number_of UnreadableBytes = 20
number_of NoBlockThere = 21
number_of TableLength = 22
number_of NoSuchBlock = 23
number_of SlotFilled = 24
number_of EmptyEntry = 25
number_of EmptySlot = 26
number_of FirstOffset = 27
number_of DataLength = 28
number_of FileEnd = 29
number_of NotAllowedNow = 30

-- the number of each module
abbrev pub module_number : Module → ℕ
module_number Numbers = 1
module_number Sides = 2
module_number Schemes = 3
module_number Layers = 4
module_number Prefixes = 5
module_number Slots = 6
module_number Frames = 7
module_number Program = 8

-- a deep layer (4) and a subsampled channel (13) are left out; every other refused input is invalid
abbrev pub kind_of : ℕ → Kind
kind_of number = cond (number == 4 || number == 13) NotSupported Invalid

-- what a refusal tells
pub record Told : Type 0 where
  pub number : ℕ
  pub «module» : ℕ
  pub place : ℕ
  pub kind : Kind

-- the refusal by this number, in this module, about this place
abbrev pub refused : ℕ → ℕ → ℕ → Told
refused number m place = record { number = number; «module» = m; place = place; kind = kind_of number }

abbrev pub told : Refusal → Told
told r = refused (number_of r.reason) (module_number r.«module») r.place

-- what a call answered, seen through `f`, or what its refusal tells
abbrev pub outcome_as : {A B : Type 0} → (A → B) → Result A Refusal → Result B Told
outcome_as f (Ok a) = Ok (f a)
outcome_as f (Err r) = Err (told r)

-- what a call answered, or what its refusal tells
abbrev pub outcome : {A : Type 0} → Result A Refusal → Result A Told
outcome (Ok a) = Ok a
outcome (Err r) = Err (told r)
