use Rattle.std.proofs.Common.{◌≤ℤ◌, ◌<ℤ◌, ◌+ℤ◌, pos, sym, subst, FitsSigned, w64, rules}
use Rattle.std.proofs.lemmas.Int.{to_z-of_z}
use Rattle.siting_definitions.proofs.Integers.{int_le-true, int_lt-true, int_lt-false}
use Rattle.near_set.specs.Ceiling.{ceiling_of}
use Rattle.near_set.proofs.CeilingLemmas.{ceiling_of-bounds}
use Rattle.near_set.proofs.NearLemmas.{cheap_more, far_if_dear, near_from, stands_inside}
use Rattle.near_set.proofs.standing.standing_by_bound.Goals as goal

pub returns-then-bound-cost : goal.returns-then-bound-cost
returns-then-bound-cost c =
    let fits_cost : FitsSigned w64 c.args.cost = c.ranges.cost in
    let fits_bound : FitsSigned w64 c.fine-bound.result = search rules in
    let dear = int_lt-true c.args.cost c.fine-bound.result (simp to_z-of_z at c.if-bound-cost.true) in
    far_if_dear c.args.instance.now c.args.cost c.args.sq (subst (λ z. c.args.cost <ℤ z) c.fine-bound.ensures.value dear)

pub returns-then-is_ceiling_within : goal.returns-then-is_ceiling_within
unfolding ceiling_of
returns-then-is_ceiling_within c =
    let i = c.args.instance.now in
    let s = c.args.sq in
    let fits_cost : FitsSigned w64 c.args.cost = c.ranges.cost in
    let fits_bound : FitsSigned w64 c.fine-bound.result = search rules in
    let said = simp to_z-of_z at c.if-is_ceiling_within.ensures in
    let within = int_le-true (c.fine-bound.result +ℤ pos c.rise_across.result) c.args.cost (sym said) in
    let ceiling : ceiling_of i s ≤ℤ c.args.cost = rw (c.fine-bound.ensures.value, c.rise_across.ensures) at within in
    stands_inside i c.args.cost s c.requires (cheap_more i s (ceiling_of i s) c.args.cost ceiling (ceiling_of-bounds i s))

pub returns-else-is_ceiling_within : goal.returns-else-is_ceiling_within
returns-else-is_ceiling_within c =
    let fits_cost : FitsSigned w64 c.args.cost = c.ranges.cost in
    let fits_bound : FitsSigned w64 c.fine-bound.result = search rules in
    let cheap = int_lt-false c.args.cost c.fine-bound.result (simp to_z-of_z at c.if-bound-cost.false) in
    near_from c.args.instance.now c.args.cost c.args.sq c.requires (subst (λ z. z ≤ℤ c.args.cost) c.fine-bound.ensures.value cheap)
