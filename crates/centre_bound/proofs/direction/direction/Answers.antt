use Rattle.std.proofs.Common.{◌∙◌, FitsSigned, rules}
use mir.Syntax.{w64}
use Rattle.std.proofs.lemmas.Int.{to_z-of_z}
use Rattle.dist_bounds.specs.Limits.{longest}
use Rattle.centre_bound.proofs.VectorLemmas.{direction_short}
use Rattle.centre_bound.proofs.Computed.{direction-x, direction-y}
use Rattle.centre_bound.proofs.direction.direction.Goals as goal

pub share-requires-clause-length : goal.share-requires-clause-length
share-requires-clause-length c = c.ceil_root-length.ensures.encloses.least longest c.distance2.ensures.size

pub share-requires-2-clause-length : goal.share-requires-2-clause-length
share-requires-2-clause-length c = c.ceil_root-length.ensures.encloses.least longest c.distance2.ensures.size

pub returns-clause-x : goal.returns-clause-x
returns-clause-x c =
    let fits : FitsSigned w64 c.share.result = search rules in
    let way : FitsSigned w64 c.way_to-way.result.x = search rules in
    to_z-of_z w64 c.share.result fits
    ∙ direction-x c.args.place c.args.point _ _ _ _ (to_z-of_z w64 c.way_to-way.result.x way ∙ c.way_to-way.ensures.x) c.distance2.ensures.value c.ceil_root-length.ensures.value c.share.ensures

pub returns-clause-y : goal.returns-clause-y
returns-clause-y c =
    let fits : FitsSigned w64 c.share-2.result = search rules in
    let way : FitsSigned w64 c.way_to-way.result.y = search rules in
    to_z-of_z w64 c.share-2.result fits
    ∙ direction-y c.args.place c.args.point _ _ _ _ (to_z-of_z w64 c.way_to-way.result.y way ∙ c.way_to-way.ensures.y) c.distance2.ensures.value c.ceil_root-length.ensures.value c.share-2.ensures

pub returns-clause-short : goal.returns-clause-short
returns-clause-short c = rw (returns-clause-x c, returns-clause-y c) (direction_short c.args.place c.args.point)
