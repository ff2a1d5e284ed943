-- The weight of the first demand points of a list.
use Rattle.std.proofs.Common.{◌≡◌, ℕ, ◌+◌, ◌<◌, ◌≤◌, List, length, get_or, take, unsigned_abs, ℤ, FitsSigned, w64, to_z, of_z, sym, ap, ◌∙◌, take_all}
use Rattle.std.specs.List.{sum_by}
use Rattle.std.proofs.lemmas.Int.{to_z-of_z}
use Rattle.std.proofs.lemmas.List.Sums.{sum_by_more, sum_by-take-le}
use Rattle.siting_definitions.specs.Instance.{DemandPt, weight}

-- the weight of a point
abbrev pub w_of : DemandPt → ℤ
w_of d = d.w

-- the sizes of the first i weights, added
abbrev pub weight_to : List DemandPt → ℕ → ℕ
weight_to ds i = sum_by (λ (d : DemandPt). unsigned_abs d.w) (take i ds)

-- one point more; w is its weight as the code reads it
pub weight_to-more : (ds : List DemandPt) (i : ℕ) (d : DemandPt) (sum size : ℕ) (w : ℤ) → i < length ds → d ≡ get_or ds i d → sum ≡ weight_to ds i → size ≡ unsigned_abs (to_z w64 (of_z w64 w)) → FitsSigned w64 w → w ≡ d.w → sum + size ≡ weight_to ds (i + 1)
weight_to-more ds i d sum size w within at before read fits same =
    ap (λ n. n + size) before
    ∙ ap (λ n. weight_to ds i + n) (read ∙ ap unsigned_abs (to_z-of_z w64 w fits ∙ same ∙ ap w_of at))
    ∙ sym (sum_by_more (λ (d : DemandPt). unsigned_abs d.w) ds i d within)

-- they are at most those of all
pub weight_to-le : (ds : List DemandPt) (i : ℕ) → weight_to ds i ≤ weight ds
unfolding weight
weight_to-le ds i = sum_by-take-le (λ (d : DemandPt). unsigned_abs d.w) ds i

-- and with all points they are those
pub weight_to-all : (ds : List DemandPt) (n : ℕ) → length ds ≤ n → weight_to ds n ≡ weight ds
unfolding weight
weight_to-all ds n whole = ap (λ es. sum_by (λ (d : DemandPt). unsigned_abs d.w) es) (take_all n ds whole)
