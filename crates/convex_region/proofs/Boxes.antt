-- The bounding box of a list of places, as a loop over the places finds it.
use Rattle.std.proofs.Common.{◌≡◌, ℕ, ◌+◌, ◌<◌, ◌≤◌, List, [], ◌∷◌, length, get_or, take, drop, map, All, ℤ, pos, ◌*ℤ◌, refl, sym, ap, ◌∙◌, subst, arith, take_all}
use Rattle.std.specs.List.{fold}
use Rattle.std.specs.Int.{int_max, int_min}
use Rattle.std.proofs.lemmas.List.Sums.{fold_more}
use Rattle.std.proofs.lemmas.List.Folds.{fold-map}
use Rattle.std.proofs.lemmas.List.Elements.{All-more, All-nil, All-cons}
use Rattle.siting_definitions.specs.Point.{Place}
use Rattle.siting_definitions.specs.Instance.{IsPlace}
use Rattle.siting_definitions.specs.Excluded.{box_of}

-- the coordinates of a place
abbrev pub x_of : Place → ℤ
x_of v = v.x

-- upwards
abbrev pub y_of : Place → ℤ
y_of v = v.y

-- the box of (x, y) and of the places of a list, and each of these is within the limits
pub record IsBox (x y : ℤ) (rest : List Place) (x0 y0 x1 y1 : ℤ) : Type 0 where
  pub left : x0 ≡ fold int_min x (map x_of rest)
  pub lower : y0 ≡ fold int_min y (map y_of rest)
  pub right : x1 ≡ fold int_max x (map x_of rest)
  pub upper : y1 ≡ fold int_max y (map y_of rest)
  pub places : All IsPlace rest

-- the box of one place
pub IsBox-none : (x y : ℤ) → IsBox x y [] x y x y
IsBox-none x y = record { left = refl; lower = refl; right = refl; upper = refl; places = All-nil IsPlace }

-- a fold over one more place
folded_more : (f : ℤ → ℤ → ℤ) (h : Place → ℤ) (a : ℤ) (vs : List Place) (i : ℕ) (v : Place) (r s : ℤ) → i < length vs → v ≡ get_or vs i v → r ≡ fold f a (map h (take i vs)) → s ≡ f r (h v) → s ≡ fold f a (map h (take (i + 1) vs))
folded_more f h a vs i v r s within at before now =
    now
    ∙ ap (λ r. f r (h v)) (before ∙ fold-map f h a (take i vs))
    ∙ ap (λ w. f (fold (λ b w. f b (h w)) a (take i vs)) (h w)) at
    ∙ sym (fold_more (λ b w. f b (h w)) a vs i v within)
    ∙ sym (fold-map f h a (take (i + 1) vs))

-- the box with one place more
pub IsBox-more : (x y : ℤ) (vs : List Place) (i : ℕ) (v : Place) (x0 y0 x1 y1 x0' y0' x1' y1' : ℤ) → i < length vs → v ≡ get_or vs i v → IsPlace v → IsBox x y (take i vs) x0 y0 x1 y1 → x0' ≡ int_min x0 v.x → y0' ≡ int_min y0 v.y → x1' ≡ int_max x1 v.x → y1' ≡ int_max y1 v.y → IsBox x y (take (i + 1) vs) x0' y0' x1' y1'
IsBox-more x y vs i v x0 y0 x1 y1 x0' y0' x1' y1' within at place box l d r u = record {
  left = folded_more int_min x_of x vs i v x0 x0' within at box.left l;
  lower = folded_more int_min y_of y vs i v y0 y0' within at box.lower d;
  right = folded_more int_max x_of x vs i v x1 x1' within at box.right r;
  upper = folded_more int_max y_of y vs i v y1 y1' within at box.upper u;
  places = All-more IsPlace vs i v within box.places (subst IsPlace at place);
}

-- the box of a first place and of all the others is the bounding box
bounds_by : (vs : List Place) (v : Place) (x0 y0 x1 y1 : ℤ) → 0 < length vs → v ≡ get_or vs 0 v → IsBox v.x v.y (drop 1 vs) x0 y0 x1 y1 → record { x0 = pos 65536 *ℤ x0; y0 = pos 65536 *ℤ y0; x1 = pos 65536 *ℤ x1; y1 = pos 65536 *ℤ y1 } ≡ box_of vs
unfolding box_of
bounds_by [] v x0 y0 x1 y1 some at box = absurd (omega arith)
bounds_by (w ∷ ws) v x0 y0 x1 y1 some at box = rw (box.left, box.lower, box.right, box.upper, at) refl

-- the box of all places, in grid units, is that of the definition
pub bounds_is : (vs ws : List Place) (n : ℕ) (v : Place) (x y x0 y0 x1 y1 : ℤ) → 0 < length vs → v ≡ get_or vs 0 v → ws ≡ drop 1 vs → length ws ≤ n → x ≡ v.x → y ≡ v.y → IsBox x y (take n ws) x0 y0 x1 y1 → record { x0 = pos 65536 *ℤ x0; y0 = pos 65536 *ℤ y0; x1 = pos 65536 *ℤ x1; y1 = pos 65536 *ℤ y1 } ≡ box_of vs
bounds_is vs ws n v x y x0 y0 x1 y1 some at rest all x_is y_is box =
    let whole = subst (λ us. IsBox x y us x0 y0 x1 y1) (take_all n ws all ∙ rest) box in
    let from = subst (λ z. IsBox z y (drop 1 vs) x0 y0 x1 y1) x_is whole in
    bounds_by vs v x0 y0 x1 y1 some at (subst (λ z. IsBox v.x z (drop 1 vs) x0 y0 x1 y1) y_is from)

places_by : (vs : List Place) (v : Place) → 0 < length vs → v ≡ get_or vs 0 v → IsPlace v → All IsPlace (drop 1 vs) → All IsPlace vs
places_by [] v some at place others = absurd (omega arith)
places_by (w ∷ ws) v some at place others = All-cons IsPlace w ws (subst IsPlace at place) others

-- all of them are places within the limits
pub places_are : (vs ws : List Place) (n : ℕ) (v : Place) → 0 < length vs → v ≡ get_or vs 0 v → IsPlace v → ws ≡ drop 1 vs → length ws ≤ n → All IsPlace (take n ws) → All IsPlace vs
places_are vs ws n v some at place rest all others =
    places_by vs v some at place (subst (λ us. All IsPlace us) (take_all n ws all ∙ rest) others)
