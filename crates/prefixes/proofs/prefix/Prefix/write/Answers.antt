-- The buffer holds the fields as they were written, so they are read again.
use Rattle.std.proofs.Common.{◌≡◌, ◌≤◌, length, ap, ◌∙◌, arith, w32, SFits, rules}
use Rattle.prefixes.specs.Bytes.{buffer_with, prefix_size, size_of}
use Rattle.prefixes.proofs.Writing.{TileFits, line_comes, tile_comes}
use Rattle.prefixes.proofs.prefix.Prefix.write.Goals as goal
use Rattle.prefixes.proofs.prefix.Prefix.write.Goals.{in-Line, in-Tile}

pub returns-clause-back : goal.returns-clause-back
returns-clause-back c =
    let p = c.args.self in
    let old = c.args.buffer.now in
    let new = c.match-self.buffer in
    let sized : c.prefix_size.result ≡ size_of p = c.prefix_size.ensures ∙ ap prefix_size c.naming.ensures in
    let short : p.data_length ≤ 2147483647 = search rules in
    let room : size_of p ≤ length old = omega arith in
    elim c.match-self.branch [
      | in-Line w ↦
          let y : SFits w32 w.in-Line.y = search rules in
          let holds : new ≡ buffer_with p old = search rules in
          line_comes p w.in-Line.y old new c.ok_or.result w.in-Line.is y room short holds
      | in-Tile w ↦
          let fits : TileFits w.in-Tile.coordinates = record { column = search rules; row = search rules; level_x = search rules; level_y = search rules } in
          let holds : new ≡ buffer_with p old = search rules in
          tile_comes p w.in-Tile.coordinates old new c.ok_or.result w.in-Tile.is fits room short holds
    ]
