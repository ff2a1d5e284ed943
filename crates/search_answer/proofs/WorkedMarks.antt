-- The marks that several workers made, and their tally.
use Rattle.std.proofs.Common.{◌≡◌, ℕ, suc, ◌+◌, ◌<◌, ◌^◌, List, [], ◌∷◌, ◌++◌, map, length, get_or, take, refl, sym, ap, ◌∙◌, subst, min, arith}
use Rattle.std.specs.Prelude.{All}
use Rattle.std.proofs.lemmas.List.{take_more, map-append, length-map, length-take}
use Rattle.std.proofs.lemmas.List.Elements.{All-nil, All-cons, All-append}
use Rattle.siting_definitions.specs.Marks.{Tally, tally_of}
use Rattle.siting_definitions.specs.Answer.{IsMark}
use Rattle.discard_log.specs.declared.node.Node.{Node}
use Rattle.discard_log.specs.Nodes.{mark_of}
use Rattle.answer_model.specs.Tally.{AreSmall, tally_sum}
use Rattle.answer_model.proofs.TallyLemmas.{tally_of-append, tally_of-small}

-- a list whose every place is f of the other's is that list mapped
pub mapped-each : {X : Type 0} (f : X → X) (xs ys : List X) → length ys ≡ length xs → ((i : ℕ) (d : X) → i < length xs → get_or ys i d ≡ f (get_or xs i d)) → ys ≡ map f xs
mapped-each f [] [] long each = refl
mapped-each f [] (y ∷ ys) long each = absurd (omega arith)
mapped-each f (x ∷ xs) [] long each = absurd (omega arith)
mapped-each f (x ∷ xs) (y ∷ ys) long each =
    let head : y ≡ f x = each 0 y (omega arith) in
    let tail : ys ≡ map f xs = mapped-each f xs ys (omega arith) (λ i d h. each (suc i) d (omega arith)) in
    λ k. head k ∷ tail k

-- the marks of these nodes are in their ranges and counted
pub record IsTallied (ns : List Node) (t : Tally) : Type 0 where
  pub ranges : All IsMark (map mark_of ns)
  pub tally : t ≡ tally_of (map mark_of ns)

-- one mark more is counted
pub tallied-more : (ns : List Node) (i : ℕ) (n : Node) (t s : Tally) → i < length ns → n ≡ get_or ns i n → IsTallied (take i ns) t → IsMark n.mark → s ≡ tally_sum t (tally_of (n.mark ∷ [])) → IsTallied (take (i + 1) ns) s
tallied-more ns i n t s h at before range sum =
    let ms = map mark_of (take i ns) in
    let more : map mark_of (take (i + 1) ns) ≡ ms ++ n.mark ∷ []
    = ap (map mark_of) (take_more ns i n h) ∙ map-append mark_of (take i ns) (get_or ns i n ∷ []) ∙ ap (λ (k : Node). ms ++ k.mark ∷ []) (sym at) in
    record {
      ranges = subst (All IsMark) (sym more) (All-append IsMark ms (n.mark ∷ []) before.ranges (All-cons IsMark n.mark [] range (All-nil IsMark)));
      tally = sum ∙ ap (λ (k : Tally). tally_sum k (tally_of (n.mark ∷ []))) before.tally ∙ sym (tally_of-append ms (n.mark ∷ [])) ∙ ap tally_of (sym more);
    }

-- few nodes have small counts
pub tallied-small : (ns : List Node) (i : ℕ) (t : Tally) → length ns < 2 ^ 40 → IsTallied (take i ns) t → AreSmall t
tallied-small ns i t few here =
    let count : length (map mark_of (take i ns)) ≡ min i (length ns) = length-map (take i ns) mark_of ∙ length-take i ns in
    subst AreSmall (sym here.tally) (tally_of-small (map mark_of (take i ns)) (omega arith))
