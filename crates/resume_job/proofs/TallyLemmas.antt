-- The tally of nodes, and what it counts.
use Rattle.std.proofs.Common.{◌≡◌, ℕ, ◌+◌, ◌<◌, ◌^◌, List, [], ◌∷◌, ◌++◌, map, length, get_or, take, sym, ap, ◌∙◌, subst, min, arith}
use Rattle.std.proofs.lemmas.List.{take_more, map-append, length-map, length-take}
use Rattle.siting_definitions.specs.Marks.{Tally, tally_of}
use Rattle.discard_log.specs.declared.node.Node.{Node}
use Rattle.discard_log.specs.Nodes.{mark_of}
use Rattle.answer_model.specs.Tally.{AreSmall, tally_sum}
use Rattle.answer_model.proofs.TallyLemmas.{tally_of-append, tally_of-small}

marks_more : (ns : List Node) (i : ℕ) (n : Node) → i < length ns → n ≡ get_or ns i n → map mark_of (take (i + 1) ns) ≡ map mark_of (take i ns) ++ n.mark ∷ []
marks_more ns i n within at =
    ap (map mark_of) (take_more ns i n within) ∙ map-append mark_of (take i ns) (get_or ns i n ∷ []) ∙ ap (λ (k : Node). map mark_of (take i ns) ++ k.mark ∷ []) (sym at)

-- one node more is counted
pub tally_more : (ns : List Node) (i : ℕ) (n : Node) (t after : Tally) → i < length ns → n ≡ get_or ns i n → t ≡ tally_of (map mark_of (take i ns)) → after ≡ tally_sum t (tally_of (n.mark ∷ [])) → after ≡ tally_of (map mark_of (take (i + 1) ns))
tally_more ns i n t after within at counted added =
    added ∙ ap (λ (k : Tally). tally_sum k (tally_of (n.mark ∷ []))) counted
    ∙ sym (tally_of-append (map mark_of (take i ns)) (n.mark ∷ [])) ∙ ap tally_of (sym (marks_more ns i n within at))

-- few nodes have small counts
pub tally_small : (ns : List Node) (i : ℕ) (t : Tally) → length ns < 2 ^ 40 → t ≡ tally_of (map mark_of (take i ns)) → AreSmall t
tally_small ns i t few counted =
    let count : length (map mark_of (take i ns)) ≡ min i (length ns) = length-map (take i ns) mark_of ∙ length-take i ns in
    subst AreSmall (sym counted) (tally_of-small (map mark_of (take i ns)) (omega arith))
