use Rattle.std.proofs.Common.{◌≡◌, ◌+ℤ◌, Some, None, sym, ap, FitsSigned, w64, arith}
use Rattle.std.proofs.lemmas.Int.{to_z-of_z}
use Rattle.siting_definitions.specs.Answer.{Head, upper_cost}
use Rattle.bsss_cli.specs.Near.{near}
use Rattle.bsss_cli.proofs.LoadLemmas.{Ran-loading}
use Rattle.bsss_cli.proofs.NearLemmas.{near_loads, loaded_cost, cost_fits, sum_fits, near_says_none, near_says_more, near_says}
use Rattle.bsss_cli.proofs.commands.near.run_near.Goals as goal

pub returns-in-Err : goal.returns-in-Err
returns-in-Err g c =
    Ran-loading (near c.args.slack c.args.depth c.args.limit)
    (near_loads c.args.slack c.args.depth c.args.limit) c.in-Err.ensures

pub returns-in_default : goal.returns-in_default
returns-in_default g c =
    let none : upper_cost c.in-Ok.loaded.0.best ≡ None = sym c.in_default.ensures in
    rw (sym c.in-Ok.ensures.0)
    (near_says_none c.args.slack c.args.depth c.args.limit c.args.source.now c.load_answer.new.source
    c.in-Ok.loaded.0 c.in-Ok.loaded.1 c.in-Ok.ensures.1 none c.say.ensures)

pub overflow_add-cost : goal.overflow_add-cost
overflow_add-cost g c =
    let has : upper_cost c.in-Ok.loaded.0.best ≡ Some c.in-Some.upper = sym c.in-Some.ensures in
    let small = loaded_cost c.in-Ok.loaded.0 c.in-Ok.loaded.1 c.in-Some.upper c.in-Ok.ensures.1.parts has in
    let upper : FitsSigned w64 c.in-Some.upper = cost_fits c.in-Some.upper small in
    let slack : FitsSigned w64 c.args.slack = c.ranges.slack in
    rw (to_z-of_z w64 c.in-Some.upper upper, to_z-of_z w64 c.args.slack slack)
    (sum_fits c.in-Some.upper c.args.slack small c.requires.slack_range)

pub returns-in-None : goal.returns-in-None
returns-in-None g c =
    let has : upper_cost c.in-Ok.loaded.0.best ≡ Some c.in-Some.upper = sym c.in-Some.ensures in
    let small = loaded_cost c.in-Ok.loaded.0 c.in-Ok.loaded.1 c.in-Some.upper c.in-Ok.ensures.1.parts has in
    let upper : FitsSigned w64 c.in-Some.upper = cost_fits c.in-Some.upper small in
    let slack : FitsSigned w64 c.args.slack = c.ranges.slack in
    let sum : FitsSigned w64 (c.in-Some.upper +ℤ c.args.slack) = sum_fits c.in-Some.upper c.args.slack small c.requires.slack_range in
    let instance : c.head.inside.instance ≡ c.in-Ok.loaded.0.instance = ap (λ (h : Head). h.instance) c.head.view_is in
    let counted = simp to_z-of_z at c.in-None.ensures in
    let more = rw instance at counted in
    rw (sym c.in-Ok.ensures.0)
    (near_says_more c.args.slack c.args.depth c.args.limit c.args.source.now c.load_answer.new.source
    c.in-Ok.loaded.0 c.in-Ok.loaded.1 c.in-Some.upper c.in-Ok.ensures.1 has more c.say_too_many.ensures)

pub returns : goal.returns
returns g c =
    let has : upper_cost c.in-Ok.loaded.0.best ≡ Some c.in-Some.upper = sym c.in-Some.ensures in
    let small = loaded_cost c.in-Ok.loaded.0 c.in-Ok.loaded.1 c.in-Some.upper c.in-Ok.ensures.1.parts has in
    let upper : FitsSigned w64 c.in-Some.upper = cost_fits c.in-Some.upper small in
    let slack : FitsSigned w64 c.args.slack = c.ranges.slack in
    let sum : FitsSigned w64 (c.in-Some.upper +ℤ c.args.slack) = sum_fits c.in-Some.upper c.args.slack small c.requires.slack_range in
    let instance : c.head.inside.instance ≡ c.in-Ok.loaded.0.instance = ap (λ (h : Head). h.instance) c.head.view_is in
    let counted = simp to_z-of_z at c.in-Some-count_near.ensures in
    let count = rw instance at counted in
    let wrote = simp to_z-of_z at c.say_near.ensures in
    let said = rw instance at wrote in
    rw (sym c.in-Ok.ensures.0)
    (near_says c.args.slack c.args.depth c.args.limit c.args.source.now c.load_answer.new.source
    c.in-Ok.loaded.0 c.in-Ok.loaded.1 c.in-Some.upper c.requires.depth_most c.in-Ok.ensures.1 has
    (omega (arith, count.0, count.1)) said)
