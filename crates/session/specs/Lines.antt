-- The text of a line: the letter, then `ok` and fields or `no` and a number; or `?` and a place.
use Rattle.std.specs.Prelude.{ℕ, List, ◌++◌, Ok, Err, Result, codes, decimal}
use Rattle.std.proofs.Math.Utf8.{encode}
use Rattle.numbers.specs.Refusals.{number_of}
use Rattle.numbers.specs.declared.refusal.Refusal.{Refusal}
use Rattle.session.specs.declared.answer.Accepted.{Accepted}
use Rattle.session.specs.declared.answer.Accepted.TheVariants.{Channels, Layer}
use Rattle.session.specs.declared.line.Line.{Line}
use Rattle.session.specs.declared.line.Line.TheVariants.{Answered, Unreadable}

-- the fields
abbrev pub accepted_text : Accepted → List ℕ
accepted_text (Channels count) = decimal count
accepted_text (Layer chunks bytes) = decimal chunks ++ (codes " " ++ decimal bytes)

abbrev pub answer_text : Result Accepted Refusal → List ℕ
answer_text (Ok accepted) = codes " ok " ++ accepted_text accepted
answer_text (Err refusal) = codes " no " ++ decimal (number_of refusal.reason)

abbrev pub line_text : Line → List ℕ
line_text (Answered letter answer) = encode letter ++ answer_text answer
line_text (Unreadable place) = codes "? " ++ decimal place
