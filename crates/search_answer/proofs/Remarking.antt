-- A list of nodes, some of which have their finished marks.
use Rattle.std.proofs.Common.{◌≡◌, ℕ, zero, suc, ◌+◌, ◌<◌, ℤ, List, [], ◌∷◌, ◌++◌, map, length, get_or, set, take, drop, Option, refl, sym, ap, ◌∙◌, subst, min, ◌^◌, add-one, arith}
use Rattle.std.proofs.lemmas.List.{get_or_read, take_more, map-append, length-map, length-take}
use Rattle.std.proofs.lemmas.List.Elements.{All-nil, All-cons, All-append}
use Rattle.siting_definitions.specs.declared.Mark.{Mark}
use Rattle.siting_definitions.specs.Marks.{Tally, tally_of}
use Rattle.siting_definitions.specs.Answer.{IsMark}
use Rattle.discard_log.specs.Nodes.{mark_of}
use Rattle.std.specs.Prelude.{All}
use Rattle.discard_log.specs.declared.node.Node.{Node}
use Rattle.discard_log.specs.Nodes.{with_mark}
use Rattle.discard_log.proofs.NodeLemmas.{set-mark}
use Rattle.answer_model.specs.Tally.{AreSmall, tally_sum}
use Rattle.answer_model.proofs.TallyLemmas.{tally_of-append, tally_of-small}
use Rattle.pool_core.specs.Job.{Job}
use Rattle.search_answer.specs.Ending.{IsKnownNode, finished_mark, finished_node}

-- a leaf with its finished mark
pub remarked_leaf : (j : Job) (u : Option ℤ) (ns : List Node) (i : ℕ) (n : Node) (m : Mark) (d : Node) → i < length ns → n ≡ get_or ns i n → m ≡ finished_mark j u n → with_mark ns i m ≡ set ns i (finished_node j u (get_or ns i d))
remarked_leaf j u ns i n m d within at made =
    sym (set-mark ns i n m within)
    ∙ ap (λ (k : Node). set ns i (record { square = k.square; mark = m })) (sym at)
    ∙ ap (λ (k : Mark). set ns i (record { square = n.square; mark = k })) made
    ∙ ap (λ (k : Node). set ns i (finished_node j u k)) (get_or_read ns i n within at d)

finished_next : {X : Type 0} (f : X → X) (xs : List X) (i : ℕ) (d : X) → i < length xs → set (map f (take i xs) ++ drop i xs) i (f (get_or (map f (take i xs) ++ drop i xs) i d)) ≡ map f (take (suc i) xs) ++ drop (suc i) xs
finished_next f [] i d h = absurd (omega arith)
finished_next f (x ∷ xs) zero d h = refl
finished_next f (x ∷ xs) (suc i) d h = ap (λ ys. f x ∷ ys) (finished_next f xs i d (omega arith))

-- the next node gets its finished mark
pub finished_more : {X : Type 0} (f : X → X) (xs : List X) (i : ℕ) (d : X) → i < length xs → set (map f (take i xs) ++ drop i xs) i (f (get_or (map f (take i xs) ++ drop i xs) i d)) ≡ map f (take (i + 1) xs) ++ drop (i + 1) xs
finished_more f xs i d h = rw (add-one i) (finished_next f xs i d h)

-- the first i nodes have their finished marks, and these are counted
pub record IsUnderway (j : Job) (u : Option ℤ) (ns : List Node) (i : ℕ) (now : List Node) (t : Tally) : Type 0 where
  pub nodes : now ≡ map (finished_node j u) (take i ns) ++ drop i ns
  pub ranges : All IsMark (map mark_of (map (finished_node j u) (take i ns)))
  pub tally : t ≡ tally_of (map mark_of (map (finished_node j u) (take i ns)))

at_next : {X : Type 0} (f : X → X) (xs : List X) (i : ℕ) (d : X) → i < length xs → get_or (map f (take i xs) ++ drop i xs) i d ≡ get_or xs i d
at_next f [] i d h = absurd (omega arith)
at_next f (x ∷ xs) zero d h = refl
at_next f (x ∷ xs) (suc i) d h = at_next f xs i d (omega arith)

-- the next node tells what its finished mark needs
pub known_next : (j : Job) (u : Option ℤ) (ns : List Node) (i : ℕ) (now : List Node) (t : Tally) (d : Node) → i < length ns → All (IsKnownNode j.instance) ns → IsUnderway j u ns i now t → IsKnownNode j.instance (get_or now i d)
known_next j u ns i now t d h known under =
    let here : get_or now i d ≡ get_or ns i d = ap (λ ks. get_or ks i d) under.nodes ∙ at_next (finished_node j u) ns i d h in
    subst (IsKnownNode j.instance) (sym here) (known i d h)

-- the marks of the first i nodes
abbrev marks_to : Job → Option ℤ → List Node → ℕ → List Mark
marks_to j u ns i = map mark_of (map (finished_node j u) (take i ns))

marks_more : (j : Job) (u : Option ℤ) (ns : List Node) (i : ℕ) (d : Node) → i < length ns → marks_to j u ns (i + 1) ≡ marks_to j u ns i ++ finished_mark j u (get_or ns i d) ∷ []
marks_more j u ns i d h =
    let n = get_or ns i d in
    let fin = finished_node j u in
    ap (λ ks. map mark_of (map fin ks)) (take_more ns i d h)
    ∙ ap (map mark_of) (map-append fin (take i ns) (n ∷ []))
    ∙ map-append mark_of (map fin (take i ns)) (fin n ∷ [])

underway_at : (j : Job) (u : Option ℤ) (ns : List Node) (i : ℕ) (now new : List Node) (t s : Tally) (m : Mark) (d : Node) → i < length ns → IsUnderway j u ns i now t
    → new ≡ set now i (finished_node j u (get_or now i d)) → m ≡ finished_mark j u (get_or now i d) → IsMark m → s ≡ tally_sum t (tally_of (m ∷ [])) → IsUnderway j u ns (i + 1) new s
underway_at j u ns i now new t s m d h under nodes mark range tally =
    let fin = finished_node j u in
    let ms = marks_to j u ns i in
    let here : get_or now i d ≡ get_or ns i d = ap (λ ks. get_or ks i d) under.nodes ∙ at_next fin ns i d h in
    let marked : finished_mark j u (get_or ns i d) ≡ m = sym (mark ∙ ap (finished_mark j u) here) in
    let more : marks_to j u ns (i + 1) ≡ ms ++ m ∷ [] = marks_more j u ns i d h ∙ ap (λ k. ms ++ k ∷ []) marked in
    record {
      nodes = nodes ∙ ap (λ ks. set ks i (fin (get_or ks i d))) under.nodes ∙ finished_more fin ns i d h;
      ranges = subst (All IsMark) (sym more) (All-append IsMark ms (m ∷ []) under.ranges (All-cons IsMark m [] range (All-nil IsMark)));
      tally = tally
          ∙ ap (λ (k : Tally). tally_sum k (tally_of (m ∷ []))) under.tally
          ∙ sym (tally_of-append ms (m ∷ []))
          ∙ ap tally_of (sym more);
    }

-- one node more has its finished mark
pub underway_more : (j : Job) (u : Option ℤ) (ns : List Node) (i : ℕ) (now new : List Node) (t s : Tally) (m : Mark) → i < length ns → IsUnderway j u ns i now t
    → ((d : Node) → new ≡ set now i (finished_node j u (get_or now i d))) → ((d : Node) → m ≡ finished_mark j u (get_or now i d)) → IsMark m → s ≡ tally_sum t (tally_of (m ∷ [])) → IsUnderway j u ns (i + 1) new s
underway_more j u [] i now new t s m h under nodes mark range tally = absurd (omega arith)
underway_more j u (n ∷ ns) i now new t s m h under nodes mark range tally = underway_at j u (n ∷ ns) i now new t s m n h under (nodes n) (mark n) range tally

-- few nodes have small counts
pub underway_small : (j : Job) (u : Option ℤ) (ns : List Node) (i : ℕ) (now : List Node) (t : Tally) → length ns < 2 ^ 40 → IsUnderway j u ns i now t → AreSmall t
underway_small j u ns i now t few under =
    let fin = finished_node j u in
    let count : length (marks_to j u ns i) ≡ min i (length ns) = length-map (map fin (take i ns)) mark_of ∙ length-map (take i ns) fin ∙ length-take i ns in
    subst AreSmall (sym under.tally) (tally_of-small (marks_to j u ns i) (omega arith))
