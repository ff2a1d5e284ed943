use Rattle.std.proofs.Common.{◌≡◌, ℤ, false, List, [], ◌∷◌, FitsSigned, w64, to_z, of_z}
use Rattle.std.specs.List.Sorted.{IsPermutation}
use Rattle.std.proofs.lemmas.List.Sorted.{IsPermutation-append_left, IsPermutation-cons, IsPermutation-reverse, IsPermutation-trans}
use Rattle.std.proofs.lemmas.Int.{to_z-of_z}
use Rattle.siting_definitions.specs.Square.{Square}
use Rattle.bound_heap.specs.declared.entry.Entry.{Entry}
use Rattle.pool_core.proofs.give_back.wait_quarters.Goals as goal

four : (a b c d : Entry) (old one two three all : List Entry) → IsPermutation (a ∷ old) one → IsPermutation (b ∷ one) two → IsPermutation (c ∷ two) three → IsPermutation (d ∷ three) all → IsPermutation (a ∷ b ∷ c ∷ d ∷ old) all
four a b c d old one two three all h i j k =
    let turned = IsPermutation-append_left old (a ∷ b ∷ c ∷ d ∷ []) (d ∷ c ∷ b ∷ a ∷ []) (IsPermutation-reverse (a ∷ b ∷ c ∷ d ∷ [])) in
    let second = IsPermutation-trans (b ∷ a ∷ old) (b ∷ one) two (IsPermutation-cons b (a ∷ old) one h) i in
    let third = IsPermutation-trans (c ∷ b ∷ a ∷ old) (c ∷ two) three (IsPermutation-cons c (b ∷ a ∷ old) two second) j in
    IsPermutation-trans (a ∷ b ∷ c ∷ d ∷ old) (d ∷ c ∷ b ∷ a ∷ old) all turned
    (IsPermutation-trans (d ∷ c ∷ b ∷ a ∷ old) (d ∷ three) all (IsPermutation-cons d (c ∷ b ∷ a ∷ old) three third) k)

quarters_wait : (i j k l : Square) (bound other : ℤ) (old one two three all : List Entry) → other ≡ bound → IsPermutation (record { square = i; bound = other; raised = false } ∷ old) one
    → IsPermutation (record { square = j; bound = other; raised = false } ∷ one) two → IsPermutation (record { square = k; bound = other; raised = false } ∷ two) three
    → IsPermutation (record { square = l; bound = other; raised = false } ∷ three) all
    → IsPermutation (record { square = i; bound = bound; raised = false } ∷ record { square = j; bound = bound; raised = false } ∷ record { square = k; bound = bound; raised = false } ∷ record { square = l; bound = bound; raised = false } ∷ old) all
quarters_wait i j k l bound other old one two three all same p q r s = rw (← same) (four _ _ _ _ old one two three all p q r s)

pub returns-clause-entries : goal.returns-clause-entries
returns-clause-entries c =
    let fits : FitsSigned w64 c.args.bound = c.ranges.bound in
    quarters_wait _ _ _ _ c.args.bound (to_z w64 (of_z w64 c.args.bound)) _ _ _ _ _ (to_z-of_z w64 c.args.bound fits) c.wait_quarter.ensures.entries c.wait_quarter-2.ensures.entries c.wait_quarter-3.ensures.entries c.wait_quarter-4.ensures.entries
