use Rattle.std.proofs.Common.{◌≡◌, ◌<◌, ℤ, List, [], ◌∷◌, ◌++◌, map, length, refl, sym, ap, ◌∙◌, FitsSigned, w64, rules, arith}
use Rattle.std.specs.List.Sorted.{IsPermutation}
use Rattle.std.proofs.lemmas.Bool.{true≢false}
use Rattle.std.proofs.lemmas.Int.{to_z-of_z}
use Rattle.std.proofs.lemmas.List.{append-nil, nil_from_length}
use Rattle.std.proofs.lemmas.List.Sorted.{IsPermutation-map, IsPermutation-pop_more, length_permutation}
use Rattle.siting_definitions.specs.declared.Mark.TheVariants.{Left}
use Rattle.discard_log.specs.declared.node.Node.{Node}
use Rattle.bound_heap.specs.declared.entry.Entry.{Entry}
use Rattle.pool_core.specs.Begun.{left_of}
use Rattle.pool_core.proofs.pool.log_waiting.Goals as goal

-- one more entry is logged
logs_more : (all logged after : List Node) (e : Entry) (bound : ℤ) (left rest : List Entry) → IsPermutation all (logged ++ map left_of left) → IsPermutation left (e ∷ rest) → bound ≡ e.bound
    → after ≡ logged ++ record { square = e.square; mark = Left bound } ∷ [] → IsPermutation all (after ++ map left_of rest)
logs_more all logged after e bound left rest h taken same is =
    let added : after ≡ logged ++ left_of e ∷ [] = is ∙ ap (λ (b : ℤ). logged ++ record { square = e.square; mark = Left b } ∷ []) same in
    rw added (IsPermutation-pop_more all logged (map left_of left) (map left_of rest) (left_of e) h (IsPermutation-map left_of left (e ∷ rest) taken))

pub push-requires : goal.push-requires
push-requires c =
    let some : 0 < length c.loop-entry.waiting.entries = c.in-Some.ensures.some.0 refl in
    omega (arith, c.loop-entry.invariant.room)

pub loop-entry-smaller : goal.loop-entry-smaller
loop-entry-smaller c =
    let fewer = length_permutation c.loop-entry.waiting.entries (c.in-Some.entry ∷ c.pop.new.self.entries) c.in-Some.ensures.entries in
    omega arith

pub loop-entry-preserved : goal.loop-entry-preserved
loop-entry-preserved c =
    let fits : FitsSigned w64 c.in-Some.entry.bound = search rules in
    let fewer = length_permutation c.loop-entry.waiting.entries (c.in-Some.entry ∷ c.pop.new.self.entries) c.in-Some.ensures.entries in
    record {
      logged = logs_more _ _ c.push.new.self.nodes c.in-Some.entry _ c.loop-entry.waiting.entries c.pop.new.self.entries c.loop-entry.invariant.logged c.in-Some.ensures.entries (to_z-of_z w64 c.in-Some.entry.bound fits) c.push.ensures.nodes;
      room = omega (arith, fewer, c.push.ensures.spare, c.loop-entry.invariant.room);
    }

none_left : (all logged : List Node) (left : List Entry) → (0 < length left → ⊥) → IsPermutation all (logged ++ map left_of left) → IsPermutation all logged
none_left all logged left none h =
    let empty : left ≡ [] = nil_from_length left (omega (arith, none)) in
    let same : logged ++ map left_of left ≡ logged = ap (λ (es : List Entry). logged ++ map left_of es) empty ∙ append-nil logged in
    rw same at h

pub returns : goal.returns
returns c = none_left _ _ c.loop-entry.waiting.entries (λ some. true≢false (sym (c.in_default.ensures.some.1 some))) c.loop-entry.invariant.logged
