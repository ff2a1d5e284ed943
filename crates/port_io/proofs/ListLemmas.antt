-- A front of a list that is made of two.
use Rattle.std.proofs.Common.{◌≡◌, ℕ, ◌+◌, ◌-◌, ◌≤◌, List, ◌++◌, length, take, drop, ap, sym, ◌∙◌}
use Rattle.std.proofs.Math.Seq.{take-add}
use Rattle.std.proofs.lemmas.List.{take_at, drop_at, take-append-le, take_rest}

-- the first bytes, and then the first of those that are left
pub take-rest_add : (bytes : List ℕ) (at count : ℕ) → take at bytes ++ take count (take (length bytes - at) (drop at bytes)) ≡ take (at + count) bytes
take-rest_add bytes at count = rw take_rest (sym (take-add at count bytes))

-- what a buffer holds after bytes were copied behind those that it held
pub take-copied : (held bytes rest copied : List ℕ) (len count : ℕ) → length held ≡ len → count ≤ length copied → take count copied ≡ take count bytes → take (len + count) (held ++ (copied ++ rest)) ≡ held ++ take count bytes
take-copied held bytes rest copied len count l within same =
    take-add len count (held ++ (copied ++ rest))
    ∙ (ap (λ xs. xs ++ take count (drop len (held ++ (copied ++ rest)))) (take_at held (copied ++ rest) len l)
    ∙ (ap (λ xs. held ++ take count xs) (drop_at held (copied ++ rest) len l)
    ∙ ap (λ xs. held ++ xs) (take-append-le count copied rest within ∙ same)))
