-- Loading the bytes of an answer step by step.
use Rattle.std.specs.Prelude.{◌≡◌, ℕ, ◌<◌, List, ◌∷◌, length, Option, Some, Ok, Err, ⊤}
use Rattle.std.specs.Bool.{OnTrue}
use Rattle.siting_definitions.specs.declared.Mark.{Mark}
use Rattle.siting_definitions.specs.Square.{Square}
use Rattle.siting_definitions.specs.Marks.{is_split}
use Rattle.siting_definitions.specs.Answer.{Answer, IsValid}
use Rattle.siting_definitions.specs.AnswerText.{answer_text}
use Rattle.line_stream.specs.Coming.{Coming}
use Rattle.certificate.specs.declared.reader.Item.TheVariants.{Node}
use Rattle.certificate.specs.Forms.{item_form}
use Rattle.certificate.specs.HeadReading.{formed}
use Rattle.cert_checker.specs.declared.faults.CheckError.{CheckError}
use Rattle.cert_checker.specs.declared.faults.CheckError.TheVariants.{Fault}
use Rattle.cert_checker.specs.declared.faults.CheckError.TheVariants.{ReadFault as CheckReadFault}
use Rattle.cert_checker.specs.declared.faults.CheckError.TheVariants.{TooLong as CheckTooLong}
use Rattle.cert_checker.specs.declared.faults.CheckError.TheVariants.{NoMemory as CheckNoMemory}
use Rattle.cert_checker.specs.Checking.{checking}
use Rattle.resume_job.specs.declared.loading.LoadError.{LoadError}
use Rattle.resume_job.specs.declared.loading.LoadError.TheVariants.{TooLong, ReadFault, Check}
use Rattle.resume_job.specs.declared.loading.LoadError.TheVariants.{NoMemory}

-- the error of a check of bytes in memory, no more than may be loaded
abbrev pub RejectsText : List ℕ → CheckError → Type 0
RejectsText bytes (Fault fault) = checking bytes ≡ Err (Fault fault)
RejectsText bytes CheckReadFault = ⊥
RejectsText bytes CheckTooLong = ⊥
RejectsText bytes CheckNoMemory = ⊤

-- the error of bytes that were all read, and are no more than may be
abbrev pub RefusesText : List ℕ → LoadError → Type 0
RefusesText bytes TooLong = ⊥
RefusesText bytes ReadFault = ⊥
RefusesText bytes (Check fault) = checking bytes ≡ Err (Fault fault)
RefusesText bytes NoMemory = ⊤

-- the bytes are the text of a valid answer with so many marks
pub record IsTextWithMarks (bytes : List ℕ) (count : ℕ) : Type 0 where
  pub answer : Answer
  pub valid : IsValid answer
  pub text : bytes ≡ answer_text answer
  pub marks : count ≡ length answer.marks

-- A node is the next to come: of the squares to come the first is its square, and the next line is
-- that of its mark, which doesn't split a square of level 0.
pub record IsNext (squares : List Square) (now : Option Coming) : Type 0 where
  pub square : Square
  pub later : List Square
  pub mark : Mark
  pub here : Coming
  pub rest : Coming
  pub squares_are : squares ≡ square ∷ later
  pub now_is : now ≡ Some here
  pub reads : formed item_form here ≡ Ok (Node mark, rest)
  pub level : OnTrue (is_split mark) (0 < square.level)
