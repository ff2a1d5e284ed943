-- The head of an answer as it is read, line by line, and the first fault of its form.
use Rattle.std.specs.Prelude.{ℕ, ◌+◌, ℤ, unsigned_abs, Bool, true, false, ◌&&◌, if◌then◌else◌}
use Rattle.std.specs.Prelude.{List, [], ◌∷◌, length, codes, Option, Some, None, Result, Ok, Err, ⊤}
use Rattle.std.specs.Str.{bytes_eq}
use Rattle.siting_definitions.specs.declared.TheConstants.{CHECK_LIMIT}
use Rattle.siting_definitions.specs.declared.Word.{Word}
use Rattle.siting_definitions.specs.Instance.{Instance}
use Rattle.siting_definitions.specs.InstanceText.{instance_text, has_cutoff}
use Rattle.siting_definitions.specs.Sites.{root_of}
use Rattle.siting_definitions.specs.Answer.{Best, Head}
use Rattle.instance_text.specs.declared.faults.InstanceFault.{InstanceFault}
use Rattle.instance_text.specs.Reading.{reading, and_then}
use Rattle.certificate.specs.declared.reader.AnswerError.{AnswerError}
use Rattle.certificate.specs.declared.reader.AnswerError.TheVariants.{Form, Instance as BadInstance}
use Rattle.certificate.specs.declared.reader.AnswerError.TheVariants.{TooLong, ReadFault}
use Rattle.line_stream.specs.declared.lines.LineError.{LineError}
use Rattle.line_stream.specs.declared.lines.LineError.TheVariants.{Missing, Surplus}
use Rattle.line_stream.specs.declared.lines.LineError.TheVariants.{TooLong as LineTooLong}
use Rattle.line_stream.specs.declared.lines.LineError.TheVariants.{Failed as SourceFailed}
use Rattle.line_stream.specs.Input.{Input, input_of, bytes_of}
use Rattle.line_stream.specs.Coming.{Coming, missing_line, next_line, input_end}
use Rattle.certificate.specs.Forms.{version_form, gap_form, budget_form, pool_form, site_form}
use Rattle.certificate.specs.Forms.{cost_form, bound_form, word_form, open_form, leases_form}
use Rattle.certificate.specs.Forms.{root_form}

-- how many bytes of an answer may be read
abbrev pub answer_limit : ℕ
answer_limit = CHECK_LIMIT

-- the beginning of these bytes
abbrev pub coming_of : List ℕ → Coming
coming_of bytes = record { input = input_of answer_limit bytes; line = 0 }

-- the error of a reader of an answer, of that of its lines: a line that is missing, or that comes
-- after the last, isn't of its form
abbrev pub answer_error : LineError → AnswerError
answer_error (Missing line) = Form line
answer_error (Surplus line) = Form line
answer_error LineTooLong = TooLong
answer_error SourceFailed = ReadFault

abbrev pub in_answer : {T : Type 0} → Result T LineError → Result T AnswerError
in_answer (Ok value) = Ok value
in_answer (Err error) = Err (answer_error error)

-- the error where no whole line comes
abbrev pub missing : Input → ℕ → AnswerError
missing input line = answer_error (missing_line input line)

-- the next line of an answer, and what comes after it
abbrev pub answer_line : Coming → Result (List ℕ × Coming) AnswerError
answer_line r = in_answer (next_line r)

abbrev pub or_form : {T : Type 0} → Option T → Coming → Result (T × Coming) AnswerError
or_form None r = Err (Form r.line)
or_form (Some v) r = Ok (v, r)

-- the value of the next line, which must be of this form
abbrev pub formed : {T : Type 0} → (List ℕ → Option T) → Coming → Result (T × Coming) AnswerError
formed form r = and_then (answer_line r) (λ n. or_form (form n.0) n.1)

-- a line before the lines of an instance
abbrev pub add_line : List ℕ → Option (List (List ℕ) × List (List ℕ))
    → Option (List (List ℕ) × List (List ℕ))
add_line line None = None
add_line line (Some parts) = Some (line ∷ parts.0, parts.1)

-- the lines of an instance, up to its line "end", and what comes after them
abbrev pub part_of : List (List ℕ) → Option (List (List ℕ) × List (List ℕ))
part_of [] = None
part_of (line ∷ lines) =
    if bytes_eq line (codes "end") then Some (line ∷ [], lines) else add_line line (part_of lines)

abbrev pub same_version : Bool → Bool → Bool
same_version a b = if a then b else if b then false else true

-- an instance, where this is its canonical text, of the version that the first line said
abbrev pub if_canonical : Bool → List ℕ → Result Instance InstanceFault → Option Instance
if_canonical second bytes (Err fault) = None
if_canonical second bytes (Ok i) =
    if bytes_eq (instance_text i) bytes && same_version second (has_cutoff i) then Some i else None

abbrev pub or_bad_instance : Option Instance → Coming → Result (Instance × Coming) AnswerError
or_bad_instance None r = Err BadInstance
or_bad_instance (Some i) r = Ok (i, r)

abbrev pub instance_in : Bool → Option (List (List ℕ) × List (List ℕ)) → Coming
    → Result (Instance × Coming) AnswerError
instance_in second None r = Err (missing r.input (r.line + length r.input.lines + 1))
instance_in second (Some parts) r =
    or_bad_instance (if_canonical second (bytes_of parts.0) (reading (bytes_of parts.0)))
    (record { input = record r.input { lines = parts.1 }; line = r.line + length parts.0 })

-- the instance of the next lines, up to the first that is "end"
abbrev pub instance_part : Bool → Coming → Result (Instance × Coming) AnswerError
instance_part second r = instance_in second (part_of r.input.lines) r

-- the lines of the gap, the budget and the pool
pub record Limits : Type 0 where
  pub gap : ℤ
  pub budget : ℕ
  pub pool : ℕ

abbrev pub limits_from : ℤ → ℤ → ℤ → Limits
limits_from gap budget pool =
    record { gap = gap; budget = unsigned_abs budget; pool = unsigned_abs pool }

abbrev pub limits_part : Coming → Result (Limits × Coming) AnswerError
limits_part r =
    and_then (formed gap_form r) (λ gap.
    and_then (formed budget_form gap.1) (λ budget.
    and_then (formed pool_form budget.1) (λ pool.
    Ok (limits_from gap.0 budget.0 pool.0, pool.1))))

-- the lines of the site and its costs
abbrev pub best_part : Coming → Result (Option Best × Coming) AnswerError
best_part r = and_then (formed site_form r) (λ site. formed (cost_form site.0) site.1)

-- the lines of the bound, the word, the open squares and the leases
pub record Outcome : Type 0 where
  pub bound : Option ℤ
  pub word : Word
  pub open_count : ℕ
  pub leases : ℕ

abbrev pub outcome_from : Option ℤ → Word → ℤ → ℤ → Outcome
outcome_from bound word opened leases = record {
  bound = bound;
  word = word;
  open_count = unsigned_abs opened;
  leases = unsigned_abs leases;
}

abbrev pub outcome_part : Coming → Result (Outcome × Coming) AnswerError
outcome_part r =
    and_then (formed bound_form r) (λ bound.
    and_then (formed word_form bound.1) (λ word.
    and_then (formed open_form word.1) (λ opened.
    and_then (formed leases_form opened.1) (λ leases.
    Ok (outcome_from bound.0 word.0 opened.0 leases.0, leases.1)))))

abbrev pub head_from : Instance → Limits → Option Best → Outcome → Head
head_from i limits best outcome =
    record {
      instance = i;
      gap = limits.gap;
      budget = limits.budget;
      pool = limits.pool;
      best = best;
      bound = outcome.bound;
      word = outcome.word;
      open_count = outcome.open_count;
      leases = outcome.leases;
    }

-- the lines of the head after the instance's
abbrev pub lines_after : Instance → Coming → Result (Head × Coming) AnswerError
lines_after i r =
    and_then (limits_part r) (λ limits.
    and_then (best_part limits.1) (λ best.
    and_then (outcome_part best.1) (λ outcome.
    and_then (formed (root_form (root_of i)) outcome.1) (λ root.
    Ok (head_from i limits.0 best.0 outcome.0, root.1)))))

-- the head of an answer up to the line of its root, and what comes after it; or the first fault of
-- its form
unfoldable pub head_reading : Coming → Result (Head × Coming) AnswerError
head_reading r =
    and_then (formed version_form r) (λ version.
    and_then (instance_part version.0 version.1) (λ instance.
    lines_after instance.0 instance.1))

-- Ok where the input ends here, and else the error: a byte that comes makes a line too many
abbrev pub end_of : Coming → Result ⊤ AnswerError
end_of r = in_answer (input_end r)
