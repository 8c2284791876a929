-- The commands as bytes: one letter, followed by operands of fixed widths.
use Rattle.std.specs.Prelude.{ℕ, false, cond, List, [], ◌∷◌, length, drop, Some, None, Option, ◌==◌, nat_le}
use Rattle.numbers.specs.Wholes.{optional}
use Rattle.numbers.specs.declared.rounding.RoundingMode.{RoundingMode}
use Rattle.numbers.specs.Codes.{rounding_mode}
use Rattle.layout.specs.declared.attribute.BlockDescription.TheVariants.{ScanLines, Tiles}
use Rattle.layout.specs.declared.attribute.LevelMode.{LevelMode}
use Rattle.layout.specs.Codes.{level_mode, sample_type}
use Rattle.blocks.specs.declared.line_order.LineOrder.{LineOrder}
use Rattle.blocks.specs.Codes.{line_order}
use Rattle.blocks.specs.Stored.{tile_ints_at}
use Rattle.fields.specs.Bytes.{byte_at, half_at, int_at, ints_at, long_at, word_at, words_at}
use Rattle.commands.specs.declared.command.Command.{Command}
use Rattle.commands.specs.declared.command.Command.TheVariants.{C, S, T, O, F, B, P, N, Q, Y, X}
use Rattle.layout.specs.declared.description.LayerDescription.{LayerDescription}

-- `S`: position, size, lines (two bytes), order; a command's layer is flat, and states no chunk count
abbrev pub scan_lines : List ℕ → LineOrder → LayerDescription
scan_lines ops order = record { layer_position = ints_at ops 0; layer_size = words_at ops 8; blocks = ScanLines; lines_per_block = half_at ops 16; line_order = order; deep = false; chunk_count = None }

-- `T`: position, size, tile sides, mode, rounding, order; the lines are 1
abbrev pub tiles : List ℕ → LevelMode → RoundingMode → LineOrder → LayerDescription
tiles ops mode rounding order = record { layer_position = ints_at ops 0; layer_size = words_at ops 8; blocks = Tiles (record { tile_size = words_at ops 16; level_mode = mode; rounding_mode = rounding }); lines_per_block = 1; line_order = order; deep = false; chunk_count = None }

abbrev pub tile_window : List ℕ → Option LayerDescription
tile_window ops =
    elim (level_mode (byte_at ops 24)) [
      | None ↦ None
      | Some mode ↦ elim (rounding_mode (byte_at ops 25)) [
        | None ↦ None
        | Some rounding ↦ optional (tiles ops mode rounding) (line_order (byte_at ops 26))
      ]
    ]

-- how many operand bytes follow a letter, where it is a letter of the format
abbrev pub operand_bytes : ℕ → Option ℕ
operand_bytes letter =
    cond (letter == 67) (Some 1)  -- C
    (cond (letter == 83) (Some 19)  -- S
    (cond (letter == 84) (Some 27)  -- T
    (cond (letter == 79) (Some 8)  -- O
    (cond (letter == 70) (Some 0)  -- F
    (cond (letter == 66) (Some 0)  -- B
    (cond (letter == 80) (Some 12)  -- P
    (cond (letter == 78) (Some 0)  -- N
    (cond (letter == 81) (Some 8)  -- Q
    (cond (letter == 89) (Some 4)  -- Y
    (cond (letter == 88) (Some 16)  -- X
    None))))))))))

-- the command of a letter with its operands, where each byte of them that names a case names one
abbrev pub command : ℕ → List ℕ → Option Command
command letter ops =
    cond (letter == 67) (optional C (sample_type (byte_at ops 0)))
    (cond (letter == 83) (optional (λ order. S (scan_lines ops order)) (line_order (byte_at ops 18)))
    (cond (letter == 84) (optional T (tile_window ops))
    (cond (letter == 79) (Some (O (long_at ops 0)))
    (cond (letter == 70) (Some F)
    (cond (letter == 66) (Some B)
    (cond (letter == 80) (Some (P (long_at ops 0) (word_at ops 8)))
    (cond (letter == 78) (Some N)
    (cond (letter == 81) (Some (Q (long_at ops 0)))
    (cond (letter == 89) (Some (Y (int_at ops 0)))
    (cond (letter == 88) (Some (X (tile_ints_at ops 0)))
    None))))))))))

-- the command at the front of the bytes and the bytes after it; nothing where it can't be read
abbrev pub read_command : List ℕ → Option (Command × List ℕ)
read_command [] = None
read_command (letter ∷ rest) =
    elim (operand_bytes letter) [
      | None ↦ None
      | Some n ↦ cond (nat_le n (length rest)) (optional (λ c. (c, drop n rest)) (command letter rest)) None
    ]
