-- What a trial answers.
use Rattle.std.specs.Prelude.{◌≡◌, ℕ, pos, true, false, List, [], ◌∷◌, length, codes, MatchOption}
use Rattle.std.specs.Prelude.{⊤}
use Rattle.std.specs.Fmt.{signed_decimal}
use Rattle.siting_definitions.specs.declared.Word.{Word}
use Rattle.siting_definitions.specs.Answer.{Head, Answer}
use Rattle.siting_definitions.specs.Line.{text_of}
use Rattle.siting_definitions.specs.AnswerText.{number_line, optional_line, site_line, cost_line}
use Rattle.siting_definitions.specs.AnswerText.{word_field}
use Rattle.case_maker.specs.Made.{made}
use Rattle.command_line.specs.declared.command.Settings.{Settings}
use Rattle.bsss_cli.specs.Status.{meaning_of, IsAnswer}
use Rattle.bsss_cli.specs.Outcome.{Promise}
use Rattle.bsss_cli.specs.Solve.{IsAnswerTo}

-- the lines of a summary, by the seed, the number of points, the head and the number of the marks
abbrev pub summary_lines : ℕ → ℕ → Head → ℕ → List (List (List ℕ))
summary_lines seed points h nodes =
    (codes "trial" ∷ signed_decimal (pos seed) ∷ signed_decimal (pos points) ∷ [])
    ∷ (codes "answer" ∷ word_field h.word ∷ [])
    ∷ site_line h.best
    ∷ cost_line h.best
    ∷ optional_line (codes "bound") h.bound
    ∷ number_line (codes "leases") h.leases
    ∷ number_line (codes "nodes") nodes
    ∷ (codes "check" ∷ codes "accepted" ∷ [])
    ∷ []

-- the summary of a trial that ended with this answer
abbrev pub summary : ℕ → ℕ → Answer → List ℕ
summary seed points a = text_of (summary_lines seed points a.head (length a.marks))

-- the text is the summary of an answer to the made instance
pub record Tries (seed points : ℕ) (s : Settings) (word : Word) (text : List ℕ) : Type 0 where
  pub answer : Answer
  pub answers : IsAnswerTo (made seed points) s word answer
  pub written : text ≡ summary seed points answer

-- the summary, with the status of the answer's word
abbrev pub trial : ℕ → ℕ → Settings → Promise
trial seed points s = record {
  reads = false;
  takes_memory = true;
  reads_ahead = false;
  stops = λ got left status. ⊤;
  answers = λ told status text. MatchOption (meaning_of status).word ⊥
      (λ word. Tries seed points s word text);
  wanted = λ told status. IsAnswer status;
}
