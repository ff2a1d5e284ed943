use Rattle.std.proofs.Common.{◌≡◌, List, [], ◌∷◌, length, ap, arith}
use Rattle.std.specs.List.Sorted.{IsPermutation}
use Rattle.std.proofs.lemmas.List.{nil_from_length}
use Rattle.std.proofs.lemmas.List.Sorted.{length_permutation}
use Rattle.bound_heap.specs.declared.entry.Entry.{Entry}
use Rattle.pool_core.proofs.Leasing.{leased_holds}
use Rattle.pool_core.proofs.tests.step.Goals as goal

-- what is leased and given back leaves nothing leased
none_leased : (e : Entry) (before between after : List Entry) → before ≡ [] → IsPermutation (e ∷ before) between → IsPermutation between (e ∷ after) → after ≡ []
none_leased e before between after none out back =
    let empty : length before ≡ 0 = ap length none in
    nil_from_length after (omega (arith, length_permutation _ _ out, length_permutation _ _ back))

pub give_back-given-requires-clause-leased : goal.give_back-given-requires-clause-leased
give_back-given-requires-clause-leased g c = leased_holds c.in-Leased.lease c.args.pool.now c.lease.new.self c.in-Leased.ensures

pub returns-clause-leased : goal.returns-clause-leased
returns-clause-leased g c =
    none_leased c.in-Leased.lease c.args.pool.now.leased c.lease.new.self.leased _ c.requires.leased c.in-Leased.ensures.leased c.give_back-given.ensures.step.leased
