use Rattle.std.proofs.Common.{◌≡◌, ℕ, ◌<◌, List, ◌∷◌, length, get_or, rules, sym, ◌∙◌}
use Rattle.std.specs.List.{swap_remove}
use Rattle.std.specs.List.Sorted.{IsPermutation}
use Rattle.std.proofs.lemmas.List.{get_or_read}
use Rattle.std.proofs.lemmas.List.Sorted.{IsPermutation-swap_remove}
use Rattle.bound_heap.specs.declared.entry.Entry.{Entry}
use Rattle.pool_core.proofs.give_back.take_out.Goals as goal

taken_out : (xs ys : List Entry) (i : ℕ) (x taken : Entry) → i < length xs → x ≡ get_or xs i x → taken ≡ get_or xs i taken → ys ≡ swap_remove xs i taken → IsPermutation xs (x ∷ ys)
taken_out xs ys i x taken below at read rest =
    let same : taken ≡ x = get_or_read xs i taken below read x ∙ sym at in
    rw (rest, same) (IsPermutation-swap_remove xs i x below at)

pub returns-clause-items : goal.returns-clause-items
returns-clause-items c =
    taken_out c.args.leased.now.items _ c.index_of-index.result c.args.entry.now c.swap_remove.result (search rules) (search rules) c.swap_remove.ensures.value c.swap_remove.ensures.items
