-- An accepted layer, as the description that was laid out.
use Rattle.schemes.specs.Schemes.{any_meaning}
use Rattle.layout.specs.Acceptance.{Laid}
use Rattle.layout.specs.declared.layer.Layer.{Layer}

abbrev pub laid : Layer → Laid
laid l = record { position = l.positioned.position; order = l.line_order; scheme = any_meaning l.positioned.scheme; bytes = l.bytes_per_pixel; chunks = l.chunk_count }
