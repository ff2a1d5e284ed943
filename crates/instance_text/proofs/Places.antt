-- Fields that are coordinates in pairs, and those that aren't.
use Rattle.std.proofs.Common.{◌≡◌, ℕ, suc, ◌%◌, eqb, true, false, List, [], ◌∷◌, length, Err, refl, sym, ◌∙◌, arith}
use Rattle.std.proofs.lemmas.Bool.{and_from, and_parts, false_from_ne_true, eq-eqb, eqb-true, false≢true, true≢false}
use Rattle.text_lines.specs.declared.numbers.NumberField.{NumberField}
use Rattle.text_lines.specs.declared.numbers.NumberField.TheVariants.{NotANumber, Beyond, Value}
use Rattle.instance_text.specs.declared.faults.TheConstants.{OUT_OF_RANGE}
use Rattle.instance_text.specs.Rows.{is_number, is_in_range, are_numbers, are_coordinates, are_places, places_of, polygon_of, polygon_row}

-- two fields more
even_more : (n : ℕ) → eqb (n % 2) 0 ≡ true → eqb (suc (suc n) % 2) 0 ≡ true
even_more n even = eq-eqb _ 0 (omega (arith, eqb-true (n % 2) 0 even))

even_less : (n : ℕ) → eqb (suc (suc n) % 2) 0 ≡ true → eqb (n % 2) 0 ≡ true
even_less n even = eq-eqb (n % 2) 0 (omega (arith, eqb-true (suc (suc n) % 2) 0 even))

number_in_range : (w : NumberField) → is_in_range w ≡ true → is_number w ≡ true
number_in_range NotANumber is = is
number_in_range Beyond is = refl
number_in_range (Value z) is = refl

places_are_even : (fields : List (List ℕ)) → are_places fields ≡ true → eqb (length fields % 2) 0 ≡ true
places_are_even [] are = refl
places_are_even (x ∷ []) are = are
places_are_even (x ∷ y ∷ fields) are = even_more (length fields) (places_are_even fields (and_parts _ _ are).1)

-- fields that are places are all numbers and all coordinates
places_are_coordinates : (fields : List (List ℕ)) → are_places fields ≡ true → (are_numbers fields ≡ true) × (are_coordinates fields ≡ true)
places_are_coordinates [] are = (refl, refl)
places_are_coordinates (x ∷ []) are = absurd (false≢true are)
places_are_coordinates (x ∷ y ∷ fields) are =
    let parts = and_parts _ _ are in
    let pair = and_parts _ _ parts.0 in
    let rest = places_are_coordinates fields parts.1 in
    (and_from _ _ (number_in_range _ pair.0) (and_from _ _ (number_in_range _ pair.1) rest.0), and_from _ _ pair.0 (and_from _ _ pair.1 rest.1))

-- the row of fields that are places is that of the polygon
pub row-places : (fields : List (List ℕ)) → are_places fields ≡ true → polygon_row fields ≡ polygon_of (places_of fields)
row-places fields are = rw (places_are_even fields are, (places_are_coordinates fields are).0, (places_are_coordinates fields are).1) refl

-- and an even number of coordinates are places
coordinates_are_places : (fields : List (List ℕ)) → eqb (length fields % 2) 0 ≡ true → are_coordinates fields ≡ true → are_places fields ≡ true
coordinates_are_places [] even are = refl
coordinates_are_places (x ∷ []) even are = even
coordinates_are_places (x ∷ y ∷ fields) even are =
    let first = and_parts _ _ are in
    let second = and_parts _ _ first.1 in
    and_from _ _ (and_from _ _ first.0 second.0) (coordinates_are_places fields (even_less (length fields) even) second.1)

-- and that of other fields has a fault
pub row-rest : (fields : List (List ℕ)) → are_places fields ≡ false → eqb (length fields % 2) 0 ≡ true → are_numbers fields ≡ true → polygon_row fields ≡ Err OUT_OF_RANGE
row-rest fields are_not even numbers =
    let not_all : are_coordinates fields ≡ false =
    false_from_ne_true (are_coordinates fields) (λ are. true≢false (sym (coordinates_are_places fields even are) ∙ are_not)) in
    rw (even, numbers, not_all) refl
