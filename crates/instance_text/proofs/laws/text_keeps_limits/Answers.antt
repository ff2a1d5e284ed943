use Rattle.instance_text.proofs.ReadLawful.{IsInstance-reading}
use Rattle.instance_text.proofs.laws.text_keeps_limits.Goals as goal

pub returns : goal.returns
returns c = IsInstance-reading
