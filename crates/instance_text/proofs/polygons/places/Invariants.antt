use Rattle.std.proofs.Common.{◌≡◌, ◌++◌, length}
use Rattle.text_lines.specs.Lines.{fields_of}
use Rattle.instance_text.specs.Rows.{are_places, places_of}
use Rattle.instance_text.proofs.polygons.places.Given as goal

abbrev pub invariant-loop-x : goal.invariant-loop-x
invariant-loop-x l = (l.places.items ++ places_of (fields_of l.rest) ≡ places_of (fields_of l.fields)) × (are_places (fields_of l.rest) ≡ are_places (fields_of l.fields))

abbrev pub decreases-loop-x : goal.decreases-loop-x
decreases-loop-x l = length l.rest
