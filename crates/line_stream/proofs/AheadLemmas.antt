-- Fronts of what was read ahead.
use Rattle.std.proofs.Common.{◌≡◌, ℕ, suc, ◌+◌, ◌≤◌, ◌<◌, min, eqb, Bool, true, false, cond, not, List, [], ◌∷◌, length, get_or, take, drop, refl, sym, ap, ◌∙◌, arith, nat_lt}
use Rattle.std.specs.List.{list_all, prefix_len}
use Rattle.std.proofs.lemmas.Bool.{eqb-true}
use Rattle.std.proofs.lemmas.List.{length-take, get_or-take, take-take, drop_more}
use Rattle.std.proofs.lemmas.List.Sums.{prefix_len-le-length, prefix_len_stops}
use Rattle.line_stream.specs.Feeds.{is_no_feed}

is_feed : (b : ℕ) → is_no_feed b ≡ false → b ≡ 10
is_feed b h = eqb-true b 10 (of_not (eqb b 10) h)
  where
    of_not : (t : Bool) → not t ≡ false → t ≡ true
    of_not true h = refl
    of_not false h = sym h

front_passes : (p : ℕ → Bool) (xs : List ℕ) → list_all p (take (prefix_len p xs) xs) ≡ true
front_passes p [] = refl
front_passes p (x ∷ xs) = by_test p x xs (p x) refl (front_passes p xs)
  where
    by_test : (p : ℕ → Bool) (x : ℕ) (xs : List ℕ) (t : Bool) → p x ≡ t → list_all p (take (prefix_len p xs) xs) ≡ true
        → list_all p (take (cond t (1 + prefix_len p xs) 0) (x ∷ xs)) ≡ true
    by_test p x xs true e rest = let on : 1 + prefix_len p xs ≡ suc (prefix_len p xs) = omega arith in rw on (rw e rest)
    by_test p x xs false e rest = refl

-- the bytes before the first line feed among the first k
pub front_line : (bytes : List ℕ) (k n : ℕ) → n ≡ prefix_len is_no_feed (take k bytes) → list_all is_no_feed (take n bytes) ≡ true
front_line bytes k n e =
    let within : n ≤ length (take k bytes) = rw e (prefix_len-le-length is_no_feed (take k bytes)) in
    let long : length (take k bytes) ≡ min k (length bytes) = length-take k bytes in
    ap (λ xs. list_all is_no_feed xs) (sym (take-take n k bytes (omega arith))) ∙ rw e (front_passes is_no_feed (take k bytes))

-- the line feed after them, where it is among those
pub front_feed : (bytes : List ℕ) (k n : ℕ) → n ≡ prefix_len is_no_feed (take k bytes) → nat_lt n (length (take k bytes)) ≡ true → drop n bytes ≡ 10 ∷ drop (n + 1) bytes
front_feed bytes k n e h =
    let long : length (take k bytes) ≡ min k (length bytes) = length-take k bytes in
    let less : n < length (take k bytes) = grind arith in
    let stops : is_no_feed (get_or (take k bytes) n 0) ≡ false = rw e (prefix_len_stops is_no_feed (take k bytes) 0 (rw (← e) less)) in
    let same : get_or (take k bytes) n 0 ≡ get_or bytes n 0 = get_or-take k bytes n 0 (omega arith) in
    drop_more bytes n 0 (omega arith) ∙ ap (λ b. b ∷ drop (n + 1) bytes) (sym same ∙ is_feed _ stops)

-- how many there are, with the line feed
pub front_within : (bytes : List ℕ) (most k n : ℕ) → n ≡ prefix_len is_no_feed (take k bytes) → k ≡ min most (length bytes) → n + cond (nat_lt n (length (take k bytes))) 1 0 ≤ min most (length bytes)
front_within bytes most k n e same =
    let least : n ≤ length (take k bytes) = rw e (prefix_len-le-length is_no_feed (take k bytes)) in
    let long : length (take k bytes) ≡ min k (length bytes) = length-take k bytes in
    by_test n (length (take k bytes)) (min most (length bytes)) (nat_lt n (length (take k bytes))) refl least (omega arith)
  where
    by_test : (n l m : ℕ) (t : Bool) → nat_lt n l ≡ t → n ≤ l → l ≤ m → n + cond t 1 0 ≤ m
    by_test n l m true h least most = let less : n < l = grind arith in omega arith
    by_test n l m false h least most = omega arith

-- without a line feed they are all
pub front_all : (bytes : List ℕ) (most k n : ℕ) → n ≡ prefix_len is_no_feed (take k bytes) → k ≡ min most (length bytes) → nat_lt n (length (take k bytes)) ≡ false → n ≡ min most (length bytes)
front_all bytes most k n e same h =
    let least : n ≤ length (take k bytes) = rw e (prefix_len-le-length is_no_feed (take k bytes)) in
    let long : length (take k bytes) ≡ min k (length bytes) = length-take k bytes in
    grind arith
