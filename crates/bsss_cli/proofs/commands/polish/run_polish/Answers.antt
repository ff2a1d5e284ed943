use Rattle.std.proofs.Common.{◌≡◌, sym, ap}
use Rattle.siting_definitions.specs.Answer.{Head}
use Rattle.bsss_cli.specs.Polish.{polish}
use Rattle.bsss_cli.proofs.LoadLemmas.{Ran-loading}
use Rattle.bsss_cli.proofs.PolishLemmas.{polish_loads, loaded_fine, polish_says}
use Rattle.bsss_cli.proofs.commands.polish.run_polish.Goals as goal

pub returns-in-Err : goal.returns-in-Err
returns-in-Err g c = Ran-loading polish polish_loads c.in-Err.ensures

pub polished-better-requires : goal.polished-better-requires
polished-better-requires g c =
    let instance : c.head.inside.instance ≡ c.in-Ok.loaded.0.instance = ap (λ (h : Head). h.instance) c.head.view_is in
    rw instance (loaded_fine c.in-Ok.loaded.0 c.in-Ok.loaded.1 c.in-Ok.ensures.1.parts)

pub returns : goal.returns
returns g c =
    let instance : c.head.inside.instance ≡ c.in-Ok.loaded.0.instance = ap (λ (h : Head). h.instance) c.head.view_is in
    let bound : c.head.inside.bound ≡ c.in-Ok.loaded.0.bound = ap (λ (h : Head). h.bound) c.head.view_is in
    let better = rw instance at c.polished-better.ensures in
    let said = rw bound at c.say_polished.ensures in
    rw (sym c.in-Ok.ensures.0)
    (polish_says c.args.source.now c.load_answer.new.source c.in-Ok.loaded.0 c.in-Ok.loaded.1 c.polished-better.result
    c.in-Ok.ensures.1 better said)
