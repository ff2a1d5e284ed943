use Rattle.certificate.specs.HeadReading.{head_reading}
use Rattle.certificate.proofs.ReadLemmas.{reads_to, blames_of}
use Rattle.certificate.proofs.reader.AnswerReader.read_head.Goals as goal

pub returns-clause-reads : goal.returns-clause-reads
returns-clause-reads g c = reads_to head_reading _ _ _ c.read_head_lines.ensures

pub returns-clause-blames : goal.returns-clause-blames
returns-clause-blames g c = blames_of _ _ _ c.read_head_lines.ensures.counts
