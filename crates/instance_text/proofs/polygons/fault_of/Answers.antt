use Rattle.std.proofs.Common.{rules}
use Rattle.text_lines.specs.Lines.{fields_of}
use Rattle.instance_text.proofs.Places.{row-rest}
use Rattle.instance_text.proofs.polygons.fault_of.Goals as goal

pub returns-then-are_numbers : goal.returns-then-are_numbers
returns-then-are_numbers c = row-rest (fields_of c.args.fields.now) c.requires (search rules) (search rules)
