-- What makes a call answer that the source failed.
use Rattle.std.specs.Prelude.{ℕ, ◌≤◌, Result, IsErrOf}
use Rattle.port_io.specs.Faults.{Rose}
use Rattle.certificate.specs.declared.reader.AnswerError.{AnswerError}
use Rattle.certificate.specs.declared.reader.AnswerError.TheVariants.{ReadFault}

-- the count of faults of a source never falls, and a call answers that the source failed only
-- where the count rose in it
pub record Blames {T : Type 0} (before after : ℕ) (result : Result T AnswerError) : Type 0 where
  pub later : before ≤ after
  pub failed : IsErrOf result ReadFault → Rose before after
