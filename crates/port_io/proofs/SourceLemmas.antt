-- Reads one after another.
use Rattle.std.proofs.Common.{◌≡◌, ℕ, ◌+◌, ◌-◌, ◌≤◌, List, [], ◌++◌, length, length-append, take, Option, None, Some, IfSome, ◌↔◌, ◌∙◌, sym, ap, subst, arith, append_assoc}
use Rattle.std.proofs.lemmas.List.{length-take-le}
use Rattle.std.specs.Io.KnownBytes.{Consumes, Keeps}
use Rattle.port_io.specs.Bytes.{HasRest}

-- two reads one after another
pub Consumes-then : (a b c : Option (List ℕ)) (x y : List ℕ) → Consumes a b x → Consumes b c y → Consumes a c (x ++ y)
Consumes-then None b c x y p q = tt
Consumes-then (Some a) None c x y p q = absurd p
Consumes-then (Some a) (Some b) None x y p q = absurd q
Consumes-then (Some a) (Some b) (Some c) x y p q = p ∙ (ap (λ t. x ++ t) q ∙ append_assoc_back x y c)
  where
    append_assoc_back : (x y c : List ℕ) → x ++ (y ++ c) ≡ (x ++ y) ++ c
    append_assoc_back x y c = cc (append_assoc x y c)

-- what was read came from the front, and the rest is left
pub HasRest-from : (a c : Option (List ℕ)) (x : List ℕ) → Consumes a c x → IfSome a (λ left. HasRest left c)
HasRest-from None c x p = tt
HasRest-from (Some a) c x p = record { read = x; rest = p }

-- after a read of no bytes nothing is left
pub at_end : (a b c : Option (List ℕ)) (x buf : List ℕ) (n : ℕ) → n ≡ 0 → Consumes a b x → Consumes b c (take n buf) → IfSome b (λ left. (n ≡ 0) ↔ (left ≡ [])) → IfSome a (λ _. c ≡ Some [])
at_end None b c x buf n z p q e = tt
at_end (Some a) None c x buf n z p q e = absurd p
at_end (Some a) (Some b) None x buf n z p q e = absurd q
at_end (Some a) (Some b) (Some c) x buf n z p q e =
    let nothing : b ≡ [] = e.0 z in
    let split = rw z at q in
    cc

-- how many bytes there are with the first of those that a read gave
pub length-read : (held buf : List ℕ) (count : ℕ) → count ≤ length buf → length (held ++ take count buf) ≡ length held + count
length-read held buf count within = omega (arith, length-append held (take count buf), length-take-le count buf within)

-- what holds of the number of bytes read holds of how many fewer are left
pub by_lengths : (P : ℕ → Type 0) (a c : Option (List ℕ)) (x : List ℕ) → Consumes a c x → P (length x) → IfSome a (λ xs. IfSome c (λ ys. P (length xs - length ys)))
by_lengths P None c x p holds = tt
by_lengths P (Some a) None x p holds = absurd p
by_lengths P (Some a) (Some c) x p holds =
    let count : length a - length c ≡ length x = omega (arith, ap length p, length-append x c) in
    subst P (sym count) holds

-- a read that failed left what was left
pub Consumes-kept : (a b c : Option (List ℕ)) (x : List ℕ) → Consumes a b x → Keeps b c → Consumes a c x
Consumes-kept None b c x p q = tt
Consumes-kept (Some a) None c x p q = absurd p
Consumes-kept (Some a) (Some b) None x p q = absurd q
Consumes-kept (Some a) (Some b) (Some c) x p q = p ∙ ap (λ ys. x ++ ys) (sym q)
