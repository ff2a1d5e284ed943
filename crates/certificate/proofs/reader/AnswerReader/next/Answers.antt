use Rattle.certificate.specs.Forms.{item_form}
use Rattle.certificate.specs.HeadReading.{formed}
use Rattle.certificate.proofs.ReadLemmas.{reads_to, blames_of, takes_none}
use Rattle.certificate.proofs.reader.AnswerReader.next.Goals as goal

pub returns-clause-reads : goal.returns-clause-reads
returns-clause-reads g c = reads_to (formed item_form) _ _ _ c.read_item.ensures

pub returns-clause-memory : goal.returns-clause-memory
returns-clause-memory g c = takes_none (formed item_form) _ _ _ c.read_item.ensures

pub returns-clause-blames : goal.returns-clause-blames
returns-clause-blames g c = blames_of _ _ _ c.read_item.ensures.counts
