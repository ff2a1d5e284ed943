use Rattle.certificate.proofs.ReadLemmas.{ends_as, end_takes_none, end_blames, end_lines}
use Rattle.certificate.proofs.reader.AnswerReader.finish.Goals as goal

pub returns-clause-ends : goal.returns-clause-ends
returns-clause-ends g c = ends_as _ _ _ c.read_end.ensures

pub returns-clause-memory : goal.returns-clause-memory
returns-clause-memory g c = end_takes_none _ _ _ c.read_end.ensures

pub returns-clause-blames : goal.returns-clause-blames
returns-clause-blames g c = end_blames _ _ _ c.read_end.ensures

pub returns-clause-read : goal.returns-clause-read
returns-clause-read g c = end_lines _ _ _ _ c.read_end.ensures
