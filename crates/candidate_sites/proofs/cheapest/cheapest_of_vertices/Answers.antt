use Rattle.std.proofs.Common.{arith, ◌∙◌, ap}
use Rattle.siting_definitions.specs.Point.{grid}
use Rattle.candidate_sites.proofs.OpeningLemmas.{vertex_more, vertex_all}
use Rattle.candidate_sites.proofs.cheapest.cheapest_of_vertices.Goals as goal

pub loop-i-preserved : goal.loop-i-preserved
loop-i-preserved c =
    vertex_more c.args.instance.now c.args.found c.loop-i.cheapest _ c.args.polygon.now c.loop-i.i c.site_at-site.result (omega arith) c.loop-i.invariant
    (c.site_at-site.ensures ∙ c.grid.ensures.value ∙ ap grid c.vertex.ensures) c.cheaper_site-cheapest.ensures

pub returns : goal.returns
returns c = vertex_all c.args.instance.now c.args.found c.loop-i.cheapest c.args.polygon.now c.loop-i.i (omega arith) c.loop-i.invariant
