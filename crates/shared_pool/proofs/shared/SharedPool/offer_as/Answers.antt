use Rattle.std.proofs.Common.{◌≡◌, ◌-◌, ◌^◌, Some, rules, ℤ, pos, ◌<ℤ◌, FitsSigned, to_z, of_z, sym, ap, ◌∙◌, subst, subst₂, arith}
use Rattle.std.proofs.lemmas.Int.{to_z-of_z}
use Rattle.std.specs.Prelude.{min}
use Rattle.std.specs.Int.{w64}
use mathlib.Core.Option.{none}
use Rattle.atomic_table.specs.Table.{step, Allows}
use Rattle.siting_definitions.specs.Point.{Pt}
use Rattle.siting_definitions.specs.Marks.{lesser}
use Rattle.incumbent_word.specs.Word.{word_of, number_in}
use Rattle.shared_pool.specs.TableFits.{TableFits}
use Rattle.shared_pool.specs.Steps.{told_by_offer}
use Rattle.shared_pool.proofs.IncumbentSteps.{makes_offer, offer-below, offered-by}
use Rattle.shared_pool.proofs.shared.SharedPool.offer_as.Goals as goal

pub to_word-word-requires : goal.to_word-word-requires
to_word-word-requires g c =
    let fits : FitsSigned w64 c.args.upper = c.ranges.upper in
    subst (λ (z : ℤ). z <ℤ pos (2 ^ 63 - 1)) (sym (to_z-of_z w64 c.args.upper fits))
    (offer-below c.args.desk.now.seat.me.0.first.job.instance c.args.site c.args.upper c.args.desk.now.costs c.requires.offer)

pub fetch_min-found-requires : goal.fetch_min-found-requires
fetch_min-found-requires g c =
    let about = c.args.self.now.table.shared.key in
    let slots = c.args.self.now.table.shared.table_id.slots in
    let seat = c.args.desk.now.seat in
    let fits : FitsSigned w64 c.args.upper = c.ranges.upper in
    let word = c.to_word-word.result in
    let same : to_z w64 (of_z w64 c.args.upper) ≡ c.args.upper = to_z-of_z w64 c.args.upper fits in (
      c.requires.desk.table,
      omega (arith, c.args.self.now.counts.0),
      subst₂ (λ (z : Pt) (u : ℤ). Allows (TableFits about) slots seat.id seat.me 0 (λ n. min n word) (told_by_offer z u (step slots 0 word 0 none) seat.me)) (sym c.requires.told.0) (sym c.requires.told.1)
          (makes_offer about slots seat.id seat.me c.args.site c.args.upper word c.args.desk.now.rests.role_is c.requires.offer (c.to_word-word.ensures.value ∙ ap word_of same)),
    )

pub returns-clause-incumbent : goal.returns-clause-incumbent
returns-clause-incumbent g c =
    let u = number_in c.fetch_min-found.result in
    let least : Some (to_z w64 (of_z w64 c.lesser-least.result)) ≡ lesser u (Some c.args.upper) = search rules in (
      u,
      least,
      offered-by c.args.desk.now.seat.me c.fetch_min-found.new.seat.me u c.args.site g.O.Offered.site c.args.upper g.O.Offered.upper c.requires.told.0 c.requires.told.1 c.fetch_min-found.ensures.2,
    )
