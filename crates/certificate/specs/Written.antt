-- The parts of the text of an answer.
use Rattle.std.specs.Prelude.{ℕ, List}
use Rattle.siting_definitions.specs.Line.{line_text}
use Rattle.siting_definitions.specs.AnswerText.{mark_line}
use Rattle.discard_log.specs.declared.node.Node.{Node}

-- a node's line
abbrev pub node_text : Node → List ℕ
node_text n = line_text (mark_line n.mark)
