use Rattle.instance_text.proofs.CutTexts.{cut-same, cut-refused}
use Rattle.instance_text.proofs.laws.cut_texts_are_refused.Goals as goal

pub returns-clause-line_feed : goal.returns-clause-line_feed
returns-clause-line_feed c = cut-same

pub returns-clause-more : goal.returns-clause-more
returns-clause-more c = cut-refused
