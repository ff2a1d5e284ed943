use Rattle.instance_text.proofs.InstanceLengths.{length-instance_text, short_lines}
use Rattle.instance_text.proofs.laws.canonical_texts_are_short.Goals as goal

pub returns-clause-text : goal.returns-clause-text
returns-clause-text c = length-instance_text

pub returns-clause-lines : goal.returns-clause-lines
returns-clause-lines c = short_lines
