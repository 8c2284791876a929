use Rattle.std.proofs.Common.{◌≤◌, List, [], ◌++◌, length, vec_items}
use Rattle.session.specs.Runs.{Run}
use Rattle.session.specs.Sessions.{channels, held}
use Rattle.session.specs.declared.line.Line.{Line}
use Rattle.session.proofs.transcript.transcript.Given as goal

-- what is printed from here on completes the run
abbrev pub invariant-loop-rest : goal.invariant-loop-rest
invariant-loop-rest l =
    (length l.rest ≤ length l.bytes)
    × ((more : List Line) → Run (length l.bytes) (held l.session) l.rest more → Run (length l.bytes) (channels []) l.bytes (vec_items l.lines ++ more))

abbrev pub decreases-loop-rest : goal.decreases-loop-rest
decreases-loop-rest l = length l.rest
