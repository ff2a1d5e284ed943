-- What a polish answers.
use Rattle.std.specs.Prelude.{◌≡◌, ℤ, ℕ, true, false, List, [], ◌∷◌, codes, Option, IfSome}
use Rattle.siting_definitions.specs.Line.{text_of}
use Rattle.siting_definitions.specs.AnswerText.{optional_line}
use Rattle.siting_definitions.specs.Answer.{Answer}
use Rattle.answer_model.specs.Nodes.{nodes_of}
use Rattle.centre_bound.specs.Polished.{IsPolished, least_centre_bound}
use Rattle.bsss_cli.specs.declared.status.Status.{Status}
use Rattle.bsss_cli.specs.declared.status.Status.TheVariants.{Polished}
use Rattle.bsss_cli.specs.Outcome.{Promise, OfBytes}
use Rattle.bsss_cli.specs.Load.{IsTextOfValid, LoadAnswers, LoadStops}

-- the lines of a bound, and of the better one
abbrev pub polish_lines : Option ℤ → Option ℤ → List (List (List ℕ))
polish_lines bound polished =
    optional_line (codes "bound") bound ∷ optional_line (codes "polished") polished ∷ []

-- the least centre bound of the answer's leaves that aren't excluded
abbrev pub polished_of : Answer → Option ℤ
polished_of a = least_centre_bound a.head.instance (nodes_of a)

-- the bytes are the text of a valid answer, and the text written has its bound and the better one
pub record Polishes (bytes text : List ℕ) : Type 0 where
  pub answer : Answer
  pub of : IsTextOfValid answer bytes
  pub polished : IsPolished answer.head.instance answer.head.bound (polished_of answer)
  pub written : text ≡ text_of (polish_lines answer.head.bound (polished_of answer))

-- What a polish may answer, and the text that it writes then: each status only where its condition
-- on the bytes holds.
abbrev pub PolishAnswers : Option (List ℕ) → Status → List ℕ → Type 0
PolishAnswers told Polished text = OfBytes told (λ bytes. Polishes bytes text)
PolishAnswers told status text = LoadAnswers told status text

-- both bounds of each valid answer
abbrev pub PolishWants : Option (List ℕ) → Status → Type 0
PolishWants told status =
    IfSome told (λ bytes. (a : Answer) → IsTextOfValid a bytes → status ≡ Polished)

abbrev pub polish : Promise
polish = record {
  reads = true;
  takes_memory = true;
  reads_ahead = false;
  stops = LoadStops;
  answers = PolishAnswers;
  wanted = PolishWants;
}
