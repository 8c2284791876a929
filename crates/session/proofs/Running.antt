-- A command that was read takes a byte at least.
use Rattle.std.proofs.Common.{◌≡◌, ℕ, ◌<◌, ◌≤◌, Bool, true, false, cond, leb, List, [], ◌∷◌, length, drop, Some, None, Option, ap, arith, length-drop}
use Rattle.std.proofs.lemmas.Option.{same_Some}
use Rattle.numbers.specs.Wholes.{optional}
use Rattle.commands.specs.Commands.{command as command_of, operand_bytes, read_command}
use Rattle.commands.specs.declared.command.Command.{Command}

behind : (b : Bool) (o : Option Command) (xs rest : List ℕ) (c : Command) → ◌≡◌ {A = Option (Command × List ℕ)} (cond b (optional (λ k. (k, xs)) o) None) (Some (c, rest)) → xs ≡ rest
behind true (Some d) xs rest c e = ap (λ (p : Command × List ℕ). p.1) (same_Some _ _ e)
behind true None xs rest c e = cc
behind false o xs rest c e = cc

after_operands : (o : Option ℕ) (letter : ℕ) (ops rest : List ℕ) (c : Command) → ◌≡◌ {A = Option (Command × List ℕ)} (elim o [ None ↦ None | Some n ↦ cond (leb n (length ops)) (optional (λ k. (k, drop n ops)) (command_of letter ops)) None ]) (Some (c, rest)) → length rest ≤ length ops
after_operands None letter ops rest c e = cc
after_operands (Some n) letter ops rest c e =
    let is : drop n ops ≡ rest = behind (leb n (length ops)) (command_of letter ops) (drop n ops) rest c e in
    omega (arith, ap length is, length-drop n ops)

pub shorter : (bytes rest : List ℕ) (c : Command) → read_command bytes ≡ Some (c, rest) → length rest < length bytes
shorter [] rest c e = cc
shorter (letter ∷ ops) rest c e = omega (arith, after_operands (operand_bytes letter) letter ops rest c e)
