use Rattle.std.proofs.Common.{Ok, sym, ◌∙◌, ap}
use Rattle.cover_check.specs.Cover.{Cover}
use Rattle.cover_text.proofs.RowLemmas.{after_fits, after_gives, joined_gives}
use Rattle.cover_text.proofs.read.with_instance.Goals as goal

pub returns-in-Ok : goal.returns-in-Ok
returns-in-Ok c =
    joined_gives c.args.line c.args.found c.args.rest.now c.in-Ok.instance c.in-Ok.ensures
    ∙ ap (λ (cover : Cover). Ok cover) (sym c.finish.ensures)

pub after-requires : goal.after-requires
after-requires c = after_fits c.args.line c.args.rest.now c.in-Err.error c.requires c.in-Err.ensures

pub returns-in-Err : goal.returns-in-Err
returns-in-Err c =
    rw c.after.ensures (after_gives c.args.line c.args.found c.args.rest.now c.in-Err.error c.in-Err.ensures)
