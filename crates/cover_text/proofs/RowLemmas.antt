-- The vertices of a line, one after another, and the lines of faults.
use Rattle.std.proofs.Common.{◌≡◌, ℕ, suc, Bool, true, false, cond, eqb, map, ◌+◌, ◌^◌, ◌<◌, ◌≤◌, List, [], ◌∷◌, ◌++◌, length, Result, Ok, Err, refl, sym, ◌∙◌, ap, arith, append_assoc}
use Rattle.std.proofs.lemmas.List.{length-map}
use Rattle.text_lines.specs.Lines.{pieces_of, without_return, fields_of, onto as put_onto}
use Rattle.text_lines.specs.Words.{rows_of}
use Rattle.siting_definitions.specs.Point.{Place}
use Rattle.siting_definitions.specs.Instance.{Instance}
use Rattle.instance_text.specs.declared.faults.InstanceFault.{InstanceFault}
use Rattle.instance_text.specs.Reading.{and_then, at_line, take_line, finish, read_rows, reading, nothing_found, Found}
use Rattle.instance_text.specs.declared.faults.InstanceError.{InstanceError}
use Rattle.instance_text.specs.declared.faults.InstanceError.TheVariants.{Fault as InstanceFaulty, NoMemory as NoInstanceMemory}
use Rattle.instance_text.specs.Outcome.{Gives as InstanceGives}
use Rattle.cover_text.specs.Outcome.{Gives, error_after, FitsAfter}
use Rattle.cover_text.specs.Reading.{joined, with_instance, finish as finish_cover, Found as CoverFound}
use Rattle.cover_text.specs.Rows.{place_of, before, vertex_of, onto, vertices_of}

-- places before those that follow
abbrev pub behind : List Place → Result (List Place) ℕ → Result (List Place) ℕ
behind vs (Ok ws) = Ok (vs ++ ws)
behind vs (Err number) = Err number

behind-onto : (vs : List Place) (v : Place) (r : Result (List Place) ℕ) → behind vs (and_then r (onto v)) ≡ behind (vs ++ v ∷ []) r
behind-onto vs v (Ok ws) = ap (λ (us : List Place). Ok us) (sym (append_assoc vs (v ∷ []) ws))
behind-onto vs v (Err number) = refl

place_before : (r : Result Place ℕ) (rest gs : List (List ℕ)) (v : Place) → and_then r (before rest) ≡ Ok (v, gs) → and_then r (λ (u : Place). and_then (vertices_of rest) (onto u)) ≡ and_then (vertices_of gs) (onto v)
place_before (Ok u) rest gs v e =
    let pair : (u, rest) ≡ (v, gs) = cc in
    ap (λ (p : Place × List (List ℕ)). and_then (vertices_of p.1) (onto p.0)) pair
place_before (Err number) rest gs v e = absurd cc

-- a vertex more
vertices_of-more : (fs gs : List (List ℕ)) (v : Place) → vertex_of fs ≡ Ok (v, gs) → vertices_of fs ≡ and_then (vertices_of gs) (onto v)
vertices_of-more [] gs v e = absurd cc
vertices_of-more (x ∷ []) gs v e = absurd cc
vertices_of-more (x ∷ y ∷ rest) gs v e = place_before (place_of x y) rest gs v e

pub vertices_more : (fs gs : List (List ℕ)) (vs ws : List Place) (v : Place) (all : Result (List Place) ℕ) → vertex_of fs ≡ Ok (v, gs) → behind vs (vertices_of fs) ≡ all → ws ≡ vs ++ v ∷ [] → behind ws (vertices_of gs) ≡ all
vertices_more fs gs vs ws v all e before pushed =
    ap (λ (us : List Place). behind us (vertices_of gs)) pushed
    ∙ sym (behind-onto vs v (vertices_of gs))
    ∙ ap (λ (r : Result (List Place) ℕ). behind vs r) (sym (vertices_of-more fs gs v e))
    ∙ before

-- ---- the line of a fault
fault_here : {T : Type 0} (r : Result T ℕ) (line : ℕ) (fault : InstanceFault) → at_line line r ≡ Err fault → fault.line ≡ line
fault_here (Ok value) line fault e = absurd cc
fault_here (Err number) line fault e =
    let same : record { number = number; line = line } ≡ fault = cc in
    sym (ap (λ (f : InstanceFault). f.line) same)

fault_then : (r : Result Found ℕ) (more : Found → Result Instance InstanceFault) (line n : ℕ) (fault : InstanceFault) → ((next : Found) → more next ≡ Err fault → fault.line ≤ line + suc n) → and_then (at_line line r) more ≡ Err fault → fault.line ≤ line + suc n
fault_then (Ok next) more line n fault later e = later next e
fault_then (Err number) more line n fault later e = let here = fault_here {T = Instance} (Err number) line fault e in omega (arith, here)

-- it is one of the lines, or the one after them
pub fault_line : (rows : List (List (List ℕ))) (line : ℕ) (found : Found) (fault : InstanceFault) → read_rows line rows found ≡ Err fault → fault.line ≤ line + length rows
fault_line [] line found fault e = let here = fault_here (finish found.phase found) line fault e in omega (arith, here)
fault_line (fields ∷ rows) line found fault e =
    fault_then (take_line fields found) (λ (next : Found). read_rows (line + 1) rows next) line (length rows) fault
    (λ next h. let later = fault_line rows (line + 1) next fault h in omega (arith, later))
    e

-- ---- there are no more lines than bytes
length-onto : (b : ℕ) (pieces : List (List ℕ)) → length (put_onto b pieces) ≤ suc (length pieces)
length-onto b [] = omega arith
length-onto b (piece ∷ pieces) = omega arith

length-from : (t : Bool) (b : ℕ) (pieces : List (List ℕ)) → length (cond t ([] ∷ pieces) (put_onto b pieces)) ≤ suc (length pieces)
length-from true b pieces = omega arith
length-from false b pieces = length-onto b pieces

length-pieces : (bytes : List ℕ) → length (pieces_of bytes) ≤ length bytes
length-pieces [] = omega arith
length-pieces (b ∷ bs) = let less = length-pieces bs in let more = length-from (eqb b 10) b (pieces_of bs) in omega (arith, less, more)

length-rows : (bytes : List ℕ) → length (rows_of bytes) ≤ length bytes
length-rows bytes =
    let lines = length-map (pieces_of bytes) without_return in
    let rows = length-map (map without_return (pieces_of bytes)) fields_of in
    let few = length-pieces bytes in
    omega (arith, lines, rows, few)

-- the line of the first fault of an instance text
pub reading_line : (bytes : List ℕ) (fault : InstanceFault) → read_rows 1 (rows_of bytes) nothing_found ≡ Err fault → fault.line ≤ 1 + length bytes
reading_line bytes fault e =
    let line = fault_line (rows_of bytes) 1 nothing_found fault e in
    let few = length-rows bytes in
    omega (arith, line, few)

-- what an instance text says, by its rows
pub reading_is : (bytes : List ℕ) → reading bytes ≡ read_rows 1 (rows_of bytes) nothing_found
unfolding reading
reading_is bytes = refl

-- ---- a fault of the instance text after a line
pub after_fits : (line : ℕ) (bytes : List ℕ) (error : InstanceError) → line + length bytes < 2 ^ 63 → InstanceGives (Err error) (reading bytes) → FitsAfter line error
after_fits line bytes (InstanceFaulty fault) small e =
    let within = reading_line bytes fault (sym (reading_is bytes) ∙ e) in omega (arith, within)
after_fits line bytes NoInstanceMemory small e = tt

pub after_gives : (line : ℕ) (found : CoverFound) (bytes : List ℕ) (error : InstanceError) → InstanceGives (Err error) (reading bytes) → Gives (Err (error_after line error)) (with_instance line found (rows_of bytes))
after_gives line found bytes (InstanceFaulty fault) e = ap (joined line found) (sym (reading_is bytes) ∙ e)
after_gives line found bytes NoInstanceMemory e = tt

pub joined_gives : (line : ℕ) (found : CoverFound) (bytes : List ℕ) (instance : Instance) → reading bytes ≡ Ok instance → with_instance line found (rows_of bytes) ≡ Ok (finish_cover found instance)
joined_gives line found bytes instance e = ap (joined line found) (sym (reading_is bytes) ∙ e)
