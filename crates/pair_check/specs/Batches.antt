-- What a check says of an answer of which some lines were read and not yet checked.
use Rattle.std.specs.Prelude.{◌≡◌, ℕ, ◌+◌, ◌⊎◌, List, [], map, length, Option, Some, None, Result}
use Rattle.std.specs.Prelude.{Ok, Err}
use Rattle.siting_definitions.specs.Square.{Square}
use Rattle.siting_definitions.specs.Marks.{Tally, tally_of}
use Rattle.siting_definitions.specs.Answer.{Head}
use Rattle.line_stream.specs.Coming.{Coming}
use Rattle.certificate.specs.declared.reader.Item.{Item}
use Rattle.discard_log.specs.declared.node.Node.{Node}
use Rattle.discard_log.specs.Nodes.{mark_of}
use Rattle.answer_model.specs.Tally.{tally_sum}
use Rattle.cert_checker.specs.declared.faults.CheckFault.{CheckFault}
use Rattle.cert_checker.specs.declared.faults.CheckError.{CheckError}
use Rattle.cert_checker.specs.declared.faults.CheckError.TheVariants.{Fault}
use Rattle.cert_checker.specs.declared.checking.Accepted.{Accepted}
use Rattle.cert_checker.specs.Checking.{Progress, unless_fault, at_item, items_of}
use Rattle.cert_checker.specs.CheckReading.{at_last}
use Rattle.pair_check.specs.declared.batch.Batch.{Batch}
use Rattle.pair_check.specs.Lines.{lines_fault}

-- how far the reading has come past these lines, of which those above have this tally
abbrev pub progress_past : List Node → List Square → Tally → Progress
progress_past ns squares t =
    record { squares = squares; tally = tally_sum t (tally_of (map mark_of ns)) }

-- What there is to say of the lines that were read, and of those to come: the first fault of the
-- former, or else what the latter say.
abbrev pub says : Head → ℕ → List Node → List Square → Tally → Coming → Result Accepted CheckError
says h above ns squares t r =
    unless_fault (lines_fault h above ns)
    (items_of h (progress_past ns squares t) r r.input.lines)

-- the same, where this item was read after them
abbrev pub says_with
    : Head → ℕ → List Node → List Square → Tally → Item → Coming → Result Accepted CheckError
says_with h above ns squares t item r =
    unless_fault (lines_fault h above ns)
    (at_item h (progress_past ns squares t) r (λ next. items_of h next r r.input.lines) (Some item))

-- the same of a batch
abbrev pub batch_says : Head → Batch → Coming → Result Accepted CheckError
batch_says h b = says h b.above b.nodes.items b.walk b.tally

abbrev pub batch_says_with : Head → Batch → Item → Coming → Result Accepted CheckError
batch_says_with h b item = says_with h b.above b.nodes.items b.walk b.tally item

-- the tally of all lines that were read
abbrev pub tally_with : Batch → Tally
tally_with b = tally_sum b.tally (tally_of (map mark_of b.nodes.items))

-- the first fault of the lines of a batch
abbrev pub batch_fault : Head → Batch → Option CheckFault
batch_fault h b = lines_fault h b.above b.nodes.items

-- Where an item of this line came, that is what was said before, or its fault, where there is one.
abbrev pub TakesItem
    : ℕ → (Coming → Result Accepted CheckError) → (Coming → Result Accepted CheckError)
    → Option CheckFault → Type 0
TakesItem line before after None = (r : Coming) → r.line ≡ line → before r ≡ after r
TakesItem line before after (Some fault) =
    (r : Coming) → r.line ≡ line → before r ≡ Err (Fault fault)

-- Where the line "end" came, which is this line, that says what is said after it, with the tally of
-- all marks, or a fault.
abbrev pub Closes
    : ℕ → Head → (Coming → Result Accepted CheckError) → Result Tally CheckFault → Type 0
Closes line h before (Ok t) = (r : Coming) → r.line ≡ line → before r ≡ at_last h t r
Closes line h before (Err fault) = (r : Coming) → r.line ≡ line → before r ≡ Err (Fault fault)

-- the lines of a batch are one more than they were, or there are none
abbrev pub Grows : List Node → List Node → Type 0
Grows before after = (length after ≡ length before + 1) ⊎ (after ≡ [])
