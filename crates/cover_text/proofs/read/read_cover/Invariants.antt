use Rattle.std.proofs.Common.{◌≡◌, ◌+◌, ◌≤◌, length}
use Rattle.text_lines.specs.Words.{rows_of}
use Rattle.cover_text.specs.Reading.{read_rows, reading}
use Rattle.cover_text.proofs.read.read_cover.Given as goal

abbrev pub invariant-loop-rest : goal.invariant-loop-rest
invariant-loop-rest l = (read_rows l.line (rows_of l.rest) l.found ≡ reading l.bytes) × (l.line + length l.rest ≤ 1 + length l.bytes)

abbrev pub decreases-loop-rest : goal.decreases-loop-rest
decreases-loop-rest l = length l.rest
