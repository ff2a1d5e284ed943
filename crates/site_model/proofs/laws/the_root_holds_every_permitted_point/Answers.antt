use Rattle.site_model.proofs.Rooted.{root_holds}
use Rattle.site_model.proofs.laws.the_root_holds_every_permitted_point.Goals as goal

pub returns : goal.returns
returns c = λ i p limits permitted. root_holds i p limits permitted
