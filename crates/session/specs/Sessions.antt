-- What a session holds, and what each command makes of it and answers.
use Rattle.std.specs.Prelude.{ℕ, ◌+◌, cond, List, [], ◌∷◌, ◌++◌, length, Ok, Err, Result, nat_lt}
use Rattle.numbers.specs.Refusals.{Told, outcome_as, refused}
use Rattle.numbers.specs.declared.refusal.Refusal.{Refusal}
use Rattle.schemes.specs.Blocks.{chunks_in}
use Rattle.layout.specs.Acceptance.{Laid, accepted}
use Rattle.layout.specs.Layers.{laid}
use Rattle.layout.specs.Totals.{fitting, total_bytes}
use Rattle.layout.specs.declared.attribute.ChannelDescription.{ChannelDescription}
use Rattle.layout.specs.declared.attribute.SampleType.{SampleType}
use Rattle.layout.specs.declared.description.LayerDescription.{LayerDescription}
use Rattle.layout.specs.declared.layer.Layer.{Layer}
use Rattle.commands.specs.declared.command.Command.{Command}
use Rattle.commands.specs.declared.command.Command.TheVariants.{C, S, T, O, F, B, P, N, Q, Y, X}
use Rattle.session.specs.declared.answer.Accepted.{Accepted}
use Rattle.session.specs.declared.answer.Accepted.TheVariants.{Channels as Counted, Layer as Measured}
use Rattle.session.specs.declared.session.Session.{Session}
use Rattle.session.specs.declared.session.Session.TheVariants.{Nothing, Laid as Holds}

-- a channel of this type with a sample for each pixel
abbrev pub channel : SampleType → ChannelDescription
channel sample_type = record { sample_type = sample_type; sampling = record { 0 = 1; 1 = 1 } }

-- the number of channels with one more, refused where there are 1,024
abbrev pub adding : List ChannelDescription → Result ℕ Told
adding channels = cond (nat_lt (length channels) 1024) (Ok (length channels + 1)) (Err (refused 9 8 0))

-- the channels with one more, where there is room
abbrev pub added : List ChannelDescription → SampleType → List ChannelDescription
added channels sample_type = cond (nat_lt (length channels) 1024) (channels ++ (channel sample_type ∷ [])) channels

-- a session holds the channels so far, or a layer
pub data Held : Type 0 where
  channels : List ChannelDescription → Held
  layer : Laid → Held

abbrev pub held : Session → Held
held (Nothing cs) = channels cs
held (Holds l) = layer (laid l)

-- an answer: the fields that follow `ok`, or a refusal, whose number follows `no`
abbrev pub Said : Type 0
Said = Result (List ℕ) Told

abbrev pub fields : Accepted → List ℕ
fields (Counted n) = n ∷ []
fields (Measured chunks bytes) = chunks ∷ (bytes ∷ [])

abbrev pub said : Result Accepted Refusal → Said
said answer = outcome_as fields answer

-- what a command left of a session, with its answer
abbrev pub shown : Session × Result Accepted Refusal → Held × Said
shown r = (held r.0, said r.1)

-- a refusal leaves what was held
abbrev pub stays : Held → Told → Held × Said
stays h why = (h, Err why)

-- a command that is not allowed now
abbrev pub not_now : Told
not_now = refused 30 8 0

-- `C`
abbrev pub added_to : List ChannelDescription → SampleType → Held × Said
added_to cs t = cond (nat_lt (length cs) 1024) (channels (cs ++ (channel t ∷ [])), Ok ((length cs + 1) ∷ [])) (stays (channels cs) (refused 9 8 0))

-- a layer with the fields of its answer
abbrev pub measured : Layer × Accepted → Laid × List ℕ
measured r = (laid r.0, fields r.1)

-- the layer, with its chunk count and its bytes
abbrev pub laid_out : List ChannelDescription → LayerDescription → Result (Laid × List ℕ) Told
laid_out cs d =
    elim (accepted d cs) [
      | Err why ↦ Err why
      | Ok l ↦ elim (fitting (total_bytes l)) [
        | Err why ↦ Err why
        | Ok bytes ↦ Ok (l, chunks_in l.scheme ∷ (bytes ∷ []))
      ]
    ]

-- `S` and `T`
abbrev pub laid_out_in : List ChannelDescription → LayerDescription → Held × Said
laid_out_in cs d =
    elim (laid_out cs d) [
      | Err why ↦ stays (channels cs) why
      | Ok r ↦ (layer r.0, Ok r.1)
    ]

-- each command in each state; one that is not allowed now is refused by 30
abbrev pub on_channels : List ChannelDescription → Command → Held × Said
on_channels cs (C t) = added_to cs t
on_channels cs (S d) = laid_out_in cs d
on_channels cs (T d) = laid_out_in cs d
on_channels cs (O first) = stays (channels cs) not_now
on_channels cs F = stays (channels cs) not_now
on_channels cs B = stays (channels cs) not_now
on_channels cs (P number length) = stays (channels cs) not_now
on_channels cs N = stays (channels cs) not_now
on_channels cs (Q number) = stays (channels cs) not_now
on_channels cs (Y y) = stays (channels cs) not_now
on_channels cs (X tile) = stays (channels cs) not_now

abbrev pub stepped : Held → Command → Held × Said
stepped (channels cs) command = on_channels cs command
stepped (layer l) command = stays (layer l) not_now
