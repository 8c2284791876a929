-- A whole run, from the bytes that are left to the lines that are printed for them.
use Rattle.std.specs.Prelude.{◌≡◌, ℕ, ◌-◌, ◌≤◌, List, [], ◌∷◌, length, Some, None, slice_index}
use Rattle.commands.specs.Commands.{read_command}
use Rattle.commands.specs.declared.command.Command.{Command}
use Rattle.session.specs.Sessions.{Held, said, stepped}
use Rattle.session.specs.declared.line.Line.{Line}
use Rattle.session.specs.declared.line.Line.TheVariants.{Answered, Unreadable}

-- Of an input of `total` bytes these are left, and the session holds `h`:
-- no line where no byte is left; `?` and the place of the letter, and then nothing more, where its command can't be read;
-- else the letter with the answer of its command, and the run goes on behind the command with what that left.
abbrev pub Run : ℕ → Held → List ℕ → List Line → Type 0
Run total h bytes [] = bytes ≡ []
Run total h bytes (Unreadable place ∷ more) = (1 ≤ length bytes) × (read_command bytes ≡ None) × (place ≡ total - length bytes) × (more ≡ [])
Run total h bytes (Answered letter answer ∷ more) =
    (command : Command) × (rest : List ℕ) × (read_command bytes ≡ Some (command, rest)) × (letter ≡ slice_index bytes 0) × (said answer ≡ (stepped h command).1)
    × Run total (stepped h command).0 rest more
