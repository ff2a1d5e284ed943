use Rattle.std.proofs.Common.{◌≡◌, ap, ◌∙◌, ◌-◌, arith}
use Rattle.siting_definitions.specs.Sites.{root_of}
use Rattle.siting_definitions.specs.Square.{Square}
use Rattle.near_set.proofs.NearLemmas.{root_deep}
use Rattle.bsss_cli.proofs.output.level_below.Goals as goal

pub overflow_sub-result : goal.overflow_sub-result
overflow_sub-result c =
    let level : c.start.inside.level ≡ (root_of c.args.instance.now).level = ap (λ (s : Square). s.level) (c.start.view_is ∙ c.root-start.ensures) in
    omega (arith, level, root_deep c.args.instance.now c.args.depth c.requires)

pub returns : goal.returns
returns c =
    let level : c.start.inside.level ≡ (root_of c.args.instance.now).level = ap (λ (s : Square). s.level) (c.start.view_is ∙ c.root-start.ensures) in
    ap (λ n. n - c.args.depth) level
