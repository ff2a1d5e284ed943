-- Whether bytes are the text of a valid answer, and their first fault where they aren't.
use Rattle.std.specs.Prelude.{ℕ, ◌+◌, List, [], ◌∷◌, Option, Some, None, option_map, Result, Ok}
use Rattle.std.specs.Prelude.{Err}
use Rattle.siting_definitions.specs.declared.Mark.{Mark}
use Rattle.siting_definitions.specs.Square.{Square}
use Rattle.siting_definitions.specs.Sites.{root_of}
use Rattle.siting_definitions.specs.Marks.{Tally, is_split, tally_of}
use Rattle.siting_definitions.specs.Answer.{Head}
use Rattle.instance_text.specs.Reading.{and_then}
use Rattle.line_stream.specs.Coming.{Coming}
use Rattle.certificate.specs.declared.reader.AnswerError.{AnswerError}
use Rattle.certificate.specs.declared.reader.AnswerError.TheVariants.{Form, Instance as BadInstance}
use Rattle.certificate.specs.declared.reader.AnswerError.TheVariants.{TooLong as TextTooLong}
use Rattle.certificate.specs.declared.reader.AnswerError.TheVariants.{ReadFault as TextReadFault}
use Rattle.certificate.specs.declared.reader.AnswerError.TheVariants.{NoMemory as TextNoMemory}
use Rattle.certificate.specs.declared.reader.Item.{Item}
use Rattle.certificate.specs.declared.reader.Item.TheVariants.{Node, End}
use Rattle.certificate.specs.Forms.{item_form}
use Rattle.certificate.specs.HeadReading.{coming_of, missing, head_reading, end_of}
use Rattle.answer_model.specs.Head.{parts_of}
use Rattle.answer_model.specs.Tally.{tally_sum}
use Rattle.cert_checker.specs.declared.faults.TheConstants.{FORM, INSTANCE, TREE_SHORT, TREE_LONG}
use Rattle.cert_checker.specs.declared.faults.CheckFault.{CheckFault}
use Rattle.cert_checker.specs.declared.faults.CheckError.{CheckError}
use Rattle.cert_checker.specs.declared.faults.CheckError.TheVariants.{Fault, ReadFault, TooLong}
use Rattle.cert_checker.specs.declared.faults.CheckError.TheVariants.{NoMemory}
use Rattle.cert_checker.specs.declared.checking.Accepted.{Accepted}
use Rattle.cert_checker.specs.Faults.{fault_at, head_fault_of, mark_fault_of, end_fault_of}
use Rattle.cert_checker.specs.Walking.{squares_after}

-- the error of a checker, of that of a reader
abbrev pub error_of : AnswerError → CheckError
error_of (Form line) = Fault (fault_at FORM line)
error_of BadInstance = Fault (fault_at INSTANCE 2)
error_of TextTooLong = TooLong
error_of TextReadFault = ReadFault
error_of TextNoMemory = NoMemory

-- what there is to say of the rest, where there is no fault before it
abbrev pub unless_fault
    : {T : Type 0} → Option CheckFault → Result T CheckError → Result T CheckError
unless_fault None rest = rest
unless_fault (Some fault) rest = Err (Fault fault)

-- what there is to say of what a reader answered
abbrev pub read_ok
    : {T U : Type 0} → Result T AnswerError → (T → Result U CheckError) → Result U CheckError
read_ok (Ok value) more = more value
read_ok (Err error) more = Err (error_of error)

-- what an accepted answer says
abbrev pub accepted_of : Head → Tally → Accepted
accepted_of h t =
    record { word = h.word; best = option_map parts_of h.best; bound = h.bound; nodes = t.nodes }

-- How far a check has come past the head: the squares to come, first the next, and the tally of the
-- marks so far.
pub record Progress : Type 0 where
  pub squares : List Square
  pub tally : Tally

abbrev pub start_of : Head → Progress
start_of h = record { squares = root_of h.instance ∷ []; tally = tally_of [] }

abbrev pub progress_after : Progress → Mark → Progress
progress_after p m =
    record {
      squares = squares_after p.squares (is_split m);
      tally = tally_sum p.tally (tally_of (m ∷ []));
    }

-- the fault of a node line with this mark, with the squares to come
abbrev pub node_fault : Head → List Square → Mark → ℕ → Option CheckFault
node_fault h [] m line = Some (fault_at TREE_LONG line)
node_fault h (s ∷ squares) m line = mark_fault_of h s m line

-- one node line, of this number
abbrev pub take_mark : Head → ℕ → Mark → Progress → Result Progress CheckError
take_mark h line m p = unless_fault (node_fault h p.squares m line) (Ok (progress_after p m))

-- node lines, of which the first has this number: each in turn, from where the one before left the
-- check
abbrev pub take_marks : Head → ℕ → List Mark → Progress → Result Progress CheckError
take_marks h line [] p = Ok p
take_marks h line (m ∷ ms) p = and_then (take_mark h line m p) (take_marks h (line + 1) ms)

-- the fault of the line "end", with the squares to come and the tally of the marks before it
abbrev pub last_fault : Head → List Square → Tally → ℕ → Option CheckFault
last_fault h [] t line = end_fault_of h t line
last_fault h (s ∷ squares) t line = Some (fault_at TREE_SHORT line)

abbrev pub at_end : Head → Progress → Coming → Result Accepted CheckError
at_end h p r =
    unless_fault (last_fault h p.squares p.tally r.line)
    (read_ok (end_of r) (λ _. Ok (accepted_of h p.tally)))

-- one line, with what there is to say after a node line
abbrev pub at_item
    : Head → Progress → Coming → (Progress → Result Accepted CheckError) → Option Item
    → Result Accepted CheckError
at_item h p r more None = Err (Fault (fault_at FORM r.line))
at_item h p r more (Some (Node m)) = and_then (take_mark h r.line m p) more
at_item h p r more (Some End) = at_end h p r

-- what a node line of a mark is read as
abbrev pub node_item : Mark → Option Item
node_item m = Some (Node m)

-- the lines after the head
abbrev pub items_of : Head → Progress → Coming → List (List ℕ) → Result Accepted CheckError
items_of h p r [] = Err (error_of (missing r.input (r.line + 1)))
items_of h p r (line ∷ lines) =
    let after : Coming = record { input = record r.input { lines = lines }; line = r.line + 1 } in
    at_item h p after (λ next. items_of h next after lines) (item_form line)

abbrev pub after_head : Head → Coming → Result Accepted CheckError
after_head h r = unless_fault (head_fault_of h) (items_of h (start_of h) r r.input.lines)

-- what a check says of an answer that is still to come
abbrev pub check_in : Coming → Result Accepted CheckError
check_in r = read_ok (head_reading r) (λ h. after_head h.0 h.1)

-- What a check of these bytes, to their end, says: the answer whose text they are is accepted where
-- it is valid, and else this is their first fault.
unfoldable pub checking : List ℕ → Result Accepted CheckError
checking bytes = check_in (coming_of bytes)
