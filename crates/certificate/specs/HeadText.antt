-- The canonical text of a head, at the front of what is still to come of an answer.
use Rattle.std.specs.Prelude.{◌≡◌, ℕ, ◌+◌, List, [], ◌∷◌, ◌++◌, length, map, codes}
use Rattle.text_lines.specs.Words.{line_bytes}
use Rattle.siting_definitions.specs.InstanceText.{version_field, instance_lines}
use Rattle.siting_definitions.specs.Answer.{Head}
use Rattle.siting_definitions.specs.AnswerText.{head_lines}
use Rattle.line_stream.specs.Coming.{Coming}

-- the lines of an answer with this head, up to the line of its root
abbrev pub front_lines : Head → List (List (List ℕ))
front_lines h =
    (codes "siting" ∷ codes "answer" ∷ version_field h.instance ∷ [])
    ∷ (instance_lines h.instance ++ head_lines h)

-- What is to come in `before` begins with these lines, and `after` is what comes after them.
pub record BeginsWith (front : List (List ℕ)) (before after : Coming) : Type 0 where
  pub lines : before.input.lines ≡ front ++ after.input.lines
  pub partial : after.input.partial ≡ before.input.partial
  pub goes_on : after.input.goes_on ≡ before.input.goes_on
  pub line : after.line ≡ before.line + length front

-- It begins with the canonical lines of this head.
abbrev pub IsHeadText : Head → Coming → Coming → Type 0
IsHeadText h before after = BeginsWith (map line_bytes (front_lines h)) before after
