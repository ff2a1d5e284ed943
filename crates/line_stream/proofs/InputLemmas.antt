-- The lines of an input are those of its bytes.
use Rattle.std.proofs.Common.{◌≡◌, ℕ, zero, suc, ◌+◌, ◌-◌, ◌≤◌, eqb, true, false, List, [], ◌∷◌, ◌++◌, length, refl, sym, ap, ◌∙◌, append_assoc, arith}
use Rattle.std.proofs.lemmas.Bool.{eqb-true, not-true, and_parts, and_from, cond_both, not_from_false}
use Rattle.line_stream.specs.Input.{Input, onto_lines, input_from, input_of, bytes_of}
use Rattle.line_stream.specs.Feeds.{is_feedless, are_feedless}

-- the bytes of an input
abbrev bytes_in : Input → List ℕ
bytes_in i = bytes_of i.lines ++ i.partial

onto-bytes : (b : ℕ) (lines : List (List ℕ)) (i : Input) → i.lines ≡ lines → bytes_in (onto_lines b lines i) ≡ b ∷ bytes_in i
onto-bytes b [] i is = rw (is) refl
onto-bytes b (line ∷ lines) i is = rw (is) refl

from-bytes : (b : ℕ) (i : Input) → bytes_in (input_from b i) ≡ b ∷ bytes_in i
from-bytes b i =
    cond_both (eqb b 10) (record i { lines = [] ∷ i.lines }) (onto_lines b i.lines i) (λ (o : Input). bytes_in o ≡ b ∷ bytes_in i)
    (λ is. ap (λ (c : ℕ). c ∷ bytes_in i) (sym (eqb-true b 10 is)))
    (λ _. onto-bytes b i.lines i refl)

-- a byte before an input doesn't change whether it goes on
onto-goes_on : (b : ℕ) (lines : List (List ℕ)) (i : Input) → (onto_lines b lines i).goes_on ≡ i.goes_on
onto-goes_on b [] i = refl
onto-goes_on b (line ∷ lines) i = refl

from-goes_on : (b : ℕ) (i : Input) → (input_from b i).goes_on ≡ i.goes_on
from-goes_on b i =
    cond_both (eqb b 10) (record i { lines = [] ∷ i.lines }) (onto_lines b i.lines i) (λ (o : Input). o.goes_on ≡ i.goes_on)
    (λ _. refl)
    (λ _. onto-goes_on b i.lines i)

-- an input within the limit ends
pub goes_on-within : (limit : ℕ) (bytes : List ℕ) → length bytes ≤ limit → (input_of limit bytes).goes_on ≡ false
unfolding input_of
goes_on-within limit [] within = refl
goes_on-within zero (b ∷ bs) within = absurd (omega arith)
goes_on-within (suc limit) (b ∷ bs) within = from-goes_on b (input_of limit bs) ∙ goes_on-within limit bs (omega arith)

-- the bytes of an input that was read to its end
pub bytes-input_of : (limit : ℕ) (bytes : List ℕ) → (input_of limit bytes).goes_on ≡ false → bytes ≡ bytes_of (input_of limit bytes).lines ++ (input_of limit bytes).partial
unfolding input_of
bytes-input_of limit [] ends = refl
bytes-input_of zero (b ∷ bs) ends = absurd cc
bytes-input_of (suc limit) (b ∷ bs) ends =
    ap (λ (cs : List ℕ). b ∷ cs) (bytes-input_of limit bs (sym (from-goes_on b (input_of limit bs)) ∙ ends))
    ∙ sym (from-bytes b (input_of limit bs))

onto-feedless : (b : ℕ) (lines : List (List ℕ)) (i : Input) → eqb b 10 ≡ false → i.lines ≡ lines → are_feedless lines ≡ true → are_feedless (onto_lines b lines i).lines ≡ true
onto-feedless b [] i other is clean = rw is refl
onto-feedless b (line ∷ lines) i other is clean =
    let parts = and_parts _ _ clean in
    and_from _ _ (and_from _ _ (not_from_false _ other) parts.0) parts.1

from-feedless : (b : ℕ) (i : Input) → are_feedless i.lines ≡ true → are_feedless (input_from b i).lines ≡ true
from-feedless b i clean =
    cond_both (eqb b 10) (record i { lines = [] ∷ i.lines }) (onto_lines b i.lines i) (λ (o : Input). are_feedless o.lines ≡ true)
    (λ _. clean)
    (λ other. onto-feedless b i.lines i other refl clean)

-- no line of an input has a line feed
pub are_feedless-input_of : (limit : ℕ) (bytes : List ℕ) → are_feedless (input_of limit bytes).lines ≡ true
unfolding input_of
are_feedless-input_of limit [] = refl
are_feedless-input_of zero (b ∷ bs) = refl
are_feedless-input_of (suc limit) (b ∷ bs) = from-feedless b (input_of limit bs) (are_feedless-input_of limit bs)

abbrev ended : List (List ℕ) → Input
ended lines = record { lines = lines; partial = []; goes_on = false }

-- a line without a line feed, its line feed, and the rest
line_then : (line rest : List ℕ) (lines : List (List ℕ)) (k : ℕ) → is_feedless line ≡ true → input_of (length rest + k) rest ≡ ended lines → input_of (length (line ++ 10 ∷ rest) + k) (line ++ 10 ∷ rest) ≡ ended (line ∷ lines)
unfolding input_of
line_then [] rest lines k clean is =
    let one : length (10 ∷ rest) + k ≡ suc (length rest + k) = omega arith in
    rw (one, is) refl
line_then (b ∷ bs) rest lines k clean is =
    let one : length (b ∷ (bs ++ 10 ∷ rest)) + k ≡ suc (length (bs ++ 10 ∷ rest) + k) = omega arith in
    let parts = and_parts _ _ clean in
    let other : eqb b 10 ≡ false = not-true _ parts.0 in
    rw (one, line_then bs rest lines k parts.1 is, other) refl

lines_then : (lines : List (List ℕ)) (k : ℕ) → are_feedless lines ≡ true → input_of (length (bytes_of lines) + k) (bytes_of lines) ≡ ended lines
unfolding input_of
lines_then [] k clean = refl
lines_then (line ∷ lines) k clean =
    let parts = and_parts _ _ clean in
    let split : bytes_of (line ∷ lines) ≡ line ++ 10 ∷ bytes_of lines = append_assoc line (10 ∷ []) (bytes_of lines) in
    rw split (line_then line (bytes_of lines) lines k parts.0 (lines_then lines k parts.1))

-- lines without line feeds, each with one after it, are read as they are
pub input_of-bytes_of : (limit : ℕ) (lines : List (List ℕ)) → are_feedless lines ≡ true → length (bytes_of lines) ≤ limit → input_of limit (bytes_of lines) ≡ record { lines = lines; partial = []; goes_on = false }
input_of-bytes_of limit lines clean within =
    let n = length (bytes_of lines) in
    let whole : limit ≡ n + (limit - n) = omega arith in
    rw whole (lines_then lines (limit - n) clean)
