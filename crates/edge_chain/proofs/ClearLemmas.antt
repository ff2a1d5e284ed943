-- A chain whose edges are clear of a piece winds as often round each point of its interior.
use Rattle.std.proofs.Common.{◌≡◌, ℕ, ◌<◌, ◌⊎◌, ⊎_elim, inl, inr, Bool, true, false, not, ◌&&◌, List, [], ◌∷◌, ◌++◌, map, filter, length, get_or, take, drop, pos, ◌≤ℤ◌, ◌<ℤ◌, refl, sym, ◌∙◌, subst, arith}
use Rattle.std.specs.Prelude.{int_lt}
use Rattle.std.specs.List.{list_all, list_any}
use Rattle.std.specs.List.Sorted.{IsPermutation}
use Rattle.std.proofs.lemmas.Int.{ints}
use Rattle.std.proofs.lemmas.Bool.{or_cases, and_parts, cases_Bool}
use Rattle.std.proofs.lemmas.List.{take-append-drop, map-append, length-append}
use Rattle.std.proofs.lemmas.List.Sums.{AllPass-from_list_all, sum_by-append}
use Rattle.std.proofs.lemmas.List.Folds.{Any-from_list_any}
use Rattle.std.proofs.lemmas.List.Elements.{All-get_or, All-weaker, filter_passes}
use Rattle.std.proofs.lemmas.List.Sorted.{IsPermutation-refl, IsPermutation-append, IsPermutation-append_comm, IsPermutation-filter_both, sum_by-IsPermutation}
use Rattle.std.proofs.lemmas.Slice.Zip.{firsts-zip, seconds-zip}
use borrow.Author.Differences.{same_in}
use Rattle.siting_definitions.specs.Point.{Place, Point, side}
use Rattle.siting_definitions.specs.Polygon.{edges, vertex, origin, covers_inside}
use Rattle.siting_definitions.proofs.Integers.{int_le-true, int_lt-true}
use Rattle.edge_chain.specs.Chain.{Edge, reversed, edges_of, winding, Cancel, IsClosed}
use Rattle.edge_chain.specs.Piece.{at, IsPiece, is_left, is_right, is_clear, IsClear, inner_point}
use Rattle.edge_chain.specs.Limit.{IsLimit}
use Rattle.edge_chain.specs.Wanted.{IsWanted, IsUnwanted, rest_of}
use Rattle.edge_chain.proofs.Vectors.{side_back}
use Rattle.edge_chain.proofs.WindingLemmas.{sum_by-map, winding-append, winding-cancel, winding-permutation, winding-reversed}
use Rattle.edge_chain.proofs.PartingLemmas.{IsParted, Passes, Balanced, same_winding}
use Rattle.edge_chain.proofs.PieceLemmas.{inside_left, side_at_start, side_at_end, inner_point_inside}
use Rattle.edge_chain.proofs.LimitLemmas.{inside_open, near-limit}

-- ---- clear edges are parted from the points of the interior
-- p lies strictly to the left of each line of the piece
line_left : (vs : List Place) (p : Point) (k : ℕ) (e : Edge) → k < length (edges vs) → get_or (edges vs) k e ≡ e → covers_inside vs p ≡ true → pos 0 <ℤ side e.0 e.1 p
unfolding covers_inside
line_left vs p k e within is all =
    let test : Edge → Bool = λ e. int_lt (pos 0) (side e.0 e.1 p) in
    let passes : Edge → Type 0 = λ e. test e ≡ true in
    let here = All-get_or passes (edges vs) k e within (AllPass-from_list_all test (edges vs) all) in
    int_lt-true (pos 0) (side e.0 e.1 p) (subst passes is here)

parted_by_line : (vs : List Place) (p q : Point) (e : Edge) → covers_inside vs p ≡ true → covers_inside vs q ≡ true → list_any (λ (k : Edge). is_right k (at e.0) && is_right k (at e.1)) (edges vs) ≡ true → IsParted p q e
parted_by_line vs p q e hp hq any =
    let found = Any-from_list_any (λ (k : Edge). is_right k (at e.0) && is_right k (at e.1)) (edges vs) any in
    let k = found.1 in
    let both = and_parts (is_right k (at e.0)) (is_right k (at e.1)) found.4 in
    record {
      u = k.0;
      v = k.1;
      left_p = line_left vs p found.0 k found.2 found.3 hp;
      left_q = line_left vs q found.0 k found.2 found.3 hq;
      start = int_le-true (side k.0 k.1 (at e.0)) (pos 0) both.0;
      end = int_le-true (side k.0 k.1 (at e.1)) (pos 0) both.1;
    }

corner_at : (test : Place → Bool) (vs : List Place) → list_all test vs ≡ true → (i : ℕ) → i < length vs → test (vertex vs i) ≡ true
corner_at test vs all i h = All-get_or (λ v. test v ≡ true) vs i origin h (AllPass-from_list_all test vs all)

parted_by_left : (vs : List Place) (p q : Point) (a b : Place) → IsPiece vs → covers_inside vs p ≡ true → covers_inside vs q ≡ true → ((i : ℕ) → i < length vs → pos 0 ≤ℤ side a b (at (vertex vs i))) → IsParted p q (a, b) ⊎ (b ≡ a)
parted_by_left vs p q a b piece hp hq beside =
    let start = side_at_start a b in
    let end = side_at_end a b in
    ⊎_elim
    (λ (left_p : pos 0 <ℤ side a b p).
    ⊎_elim
    (λ (left_q : pos 0 <ℤ side a b q). inl (record { u = a; v = b; left_p = left_p; left_q = left_q; start = omega (arith, ints, start); end = omega (arith, ints, end) }))
    (λ same. inr same)
    (inside_left vs q a b piece hq beside))
    (λ same. inr same)
    (inside_left vs p a b piece hp beside)

opposite : (p q : Point) (e : Edge) → IsParted p q (reversed e) → IsParted p q e
opposite p q e h = record { u = h.u; v = h.v; left_p = h.left_p; left_q = h.left_q; start = h.end; end = h.start }

passes_clear : (vs : List Place) (p q : Point) (e : Edge) → IsPiece vs → covers_inside vs p ≡ true → covers_inside vs q ≡ true → is_clear vs e ≡ true → Passes p q e
passes_clear vs p q e piece hp hq clear =
    ⊎_elim
    (λ two.
    ⊎_elim
    (λ line. inl (parted_by_line vs p q e hp hq line))
    (λ left. parted_by_left vs p q e.0 e.1 piece hp hq (λ i h. int_le-true (pos 0) (side e.0 e.1 (at (vertex vs i))) (corner_at (λ v. is_left e (at v)) vs left i h)))
    (or_cases _ _ two))
    (λ right.
    ⊎_elim
    (λ parted. inl (opposite p q e parted))
    (λ same. inr (sym same))
    (parted_by_left vs p q e.1 e.0 piece hp hq (λ i h. let le = int_le-true (side e.0 e.1 (at (vertex vs i))) (pos 0) (corner_at (λ v. is_right e (at v)) vs right i h) in omega (arith, ints, le, side_back e.0 e.1 (at (vertex vs i))))))
    (or_cases _ _ clear)

-- ---- balanced chains
pub Balanced-from_closed : (es : List Edge) → IsClosed es → Balanced es
Balanced-from_closed es h f =
    sym (sum_by-map f (λ (e : Edge). e.0) es)
    ∙ sym (sum_by-IsPermutation f (map (λ (e : Edge). e.0) es) (map (λ (e : Edge). e.1) es) h)
    ∙ sum_by-map f (λ (e : Edge). e.1) es

Balanced-from_cancel : (es : List Edge) → Cancel es → Balanced es
Balanced-from_cancel es h f =
    sym (sum_by-IsPermutation (λ (e : Edge). f e.0) es (map reversed es) h) ∙ sum_by-map (λ (e : Edge). f e.0) reversed es

-- the edges that are clear, and then the others
parts : (vs : List Place) (es : List Edge) → IsPermutation es (filter (is_clear vs) es ++ filter (λ (e : Edge). not (is_clear vs e)) es)
parts vs es = IsPermutation-filter_both (is_clear vs) (λ (e : Edge). not (is_clear vs e)) (λ e. refl) es

rest_balanced : (xs ys es : List Edge) → IsPermutation es (xs ++ ys) → Balanced es → Balanced ys → Balanced xs
rest_balanced xs ys es parted whole part f =
    let a = sum_by-IsPermutation (λ (e : Edge). f e.0) es (xs ++ ys) parted in
    let b = sum_by-IsPermutation (λ (e : Edge). f e.1) es (xs ++ ys) parted in
    let c = sum_by-append (λ (e : Edge). f e.0) xs ys in
    let d = sum_by-append (λ (e : Edge). f e.1) xs ys in
    omega (arith, a, b, c, d, whole f, part f)

-- only the clear edges count
winding_clear : (vs : List Place) (es : List Edge) (p : Point) → IsClear vs es → winding es p ≡ winding (filter (is_clear vs) es) p
winding_clear vs es p clear =
    let cs = filter (is_clear vs) es in
    let ns = filter (λ (e : Edge). not (is_clear vs e)) es in
    same_in _ _ (omega (arith, ints, winding-permutation es (cs ++ ns) p (parts vs es), winding-append cs ns p, winding-cancel ns p clear))

-- the law, for balanced chains
pub constant : (vs : List Place) (es : List Edge) (p q : Point) → IsPiece vs → Balanced es → IsClear vs es → covers_inside vs p ≡ true → covers_inside vs q ≡ true → winding es p ≡ winding es q
constant vs es p q piece balanced clear hp hq =
    let cs = filter (is_clear vs) es in
    let ns = filter (λ (e : Edge). not (is_clear vs e)) es in
    let rest = rest_balanced cs ns es (parts vs es) balanced (Balanced-from_cancel ns clear) in
    let all = All-weaker (λ e. is_clear vs e ≡ true) (Passes p q) (λ e h. passes_clear vs p q e piece hp hq h) cs (filter_passes (is_clear vs) es) in
    winding_clear vs es p clear ∙ same_winding p q cs rest all ∙ sym (winding_clear vs es q clear)

-- ---- rings are closed
one_on : (vs : List Place) → IsPermutation vs (drop 1 vs ++ take 1 vs)
one_on vs = subst (λ xs. IsPermutation xs (drop 1 vs ++ take 1 vs)) (take-append-drop 1 vs) (IsPermutation-append_comm (take 1 vs) (drop 1 vs))

same_length : (vs : List Place) → length (drop 1 vs ++ take 1 vs) ≡ length vs
same_length [] = refl
same_length (v ∷ vs) = omega (arith, length-append vs (v ∷ []))

pub ring_closed : (vs : List Place) → IsClosed (edges vs)
ring_closed vs =
    let starts : map (λ (e : Edge). e.0) (edges vs) ≡ vs = firsts-zip vs (drop 1 vs ++ take 1 vs) (same_length vs) in
    let ends : map (λ (e : Edge). e.1) (edges vs) ≡ drop 1 vs ++ take 1 vs = seconds-zip vs (drop 1 vs ++ take 1 vs) (same_length vs) in
    subst (λ xs. IsPermutation xs (map (λ (e : Edge). e.1) (edges vs))) (sym starts)
    (subst (λ ys. IsPermutation vs ys) (sym ends) (one_on vs))

pub closed-append : (xs ys : List Edge) → IsClosed xs → IsClosed ys → IsClosed (xs ++ ys)
closed-append xs ys hx hy =
    rw (map-append (λ (e : Edge). e.0) xs ys, map-append (λ (e : Edge). e.1) xs ys)
    (IsPermutation-append (map (λ (e : Edge). e.0) xs) (map (λ (e : Edge). e.1) xs) (map (λ (e : Edge). e.0) ys) (map (λ (e : Edge). e.1) ys) hx hy)

pub rings_closed : (rings : List (List Place)) → IsClosed (edges_of rings)
rings_closed [] = IsPermutation-refl []
rings_closed (vs ∷ rings) = closed-append (edges vs) (edges_of rings) (ring_closed vs) (rings_closed rings)

Balanced-reversed : (es : List Edge) → Balanced es → Balanced (map reversed es)
Balanced-reversed es h f =
    sum_by-map (λ (e : Edge). f e.0) reversed es ∙ sym (h f) ∙ sym (sum_by-map (λ (e : Edge). f e.1) reversed es)

Balanced-append : (xs ys : List Edge) → Balanced xs → Balanced ys → Balanced (xs ++ ys)
Balanced-append xs ys hx hy f =
    omega (arith, sum_by-append (λ (e : Edge). f e.0) xs ys, sum_by-append (λ (e : Edge). f e.1) xs ys, hx f, hy f)

-- ---- no limit of wanted points lies in the interior of an unwanted piece
-- a wanted point there would be wound round as the inner point is
pub none_wanted : (region forbidden : List Edge) (vs : List Place) (r : Point) → IsPiece vs → IsClosed region → IsClosed forbidden → IsUnwanted region forbidden vs → IsWanted region forbidden r → covers_inside vs r ≡ true → ⊥
none_wanted region forbidden vs r piece hr hf unwanted wanted inside =
    let z = inner_point vs in
    let centre = inner_point_inside vs piece in
    let br = Balanced-from_closed region hr in
    let bf = Balanced-from_closed forbidden hf in
    let within = wanted.inside in
    let out = wanted.outside in
    ⊎_elim
    (λ (first : IsClear vs forbidden × (pos 0 <ℤ winding forbidden z)).
    let e = constant vs forbidden r z piece bf first.0 inside centre in let f = first.1 in absurd (omega (arith, ints, e, f, out)))
    (λ other.
    ⊎_elim
    (λ (second : IsClear vs region × (winding region z ≤ℤ pos 0)).
    let e = constant vs region r z piece br second.0 inside centre in let f = second.1 in absurd (omega (arith, ints, e, f, within)))
    (λ (third : IsClear vs (rest_of region forbidden) × (winding (rest_of region forbidden) z ≤ℤ pos 0)).
    let both = Balanced-append region (map reversed forbidden) br (Balanced-reversed forbidden bf) in
    let e = constant vs (rest_of region forbidden) r z piece both third.0 inside centre in
    let f = third.1 in
    absurd (omega (arith, ints, e, f, within, out, winding-append region (map reversed forbidden) r, winding-reversed forbidden r)))
    other)
    unwanted

pub none_inside : (region forbidden : List Edge) (vs : List Place) (p : Point) → IsPiece vs → IsClosed region → IsClosed forbidden → IsUnwanted region forbidden vs → IsLimit (IsWanted region forbidden) p → covers_inside vs p ≡ false
none_inside region forbidden vs p piece hr hf unwanted limit =
    ⊎_elim
    (λ inside. absurd (near-limit (IsWanted region forbidden) (λ r. covers_inside vs r ≡ true) p limit (inside_open vs p inside) (λ r wanted inside_r. none_wanted region forbidden vs r piece hr hf unwanted wanted inside_r)))
    (λ out. out)
    (cases_Bool (covers_inside vs p))
