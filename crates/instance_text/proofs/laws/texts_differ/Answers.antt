use Rattle.instance_text.proofs.ReadsBack.{instance_text_injective}
use Rattle.instance_text.proofs.laws.texts_differ.Goals as goal

pub returns : goal.returns
returns c = instance_text_injective
