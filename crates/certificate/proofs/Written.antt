-- The text of an answer, part by part.
use Rattle.std.proofs.Common.{◌≡◌, ℕ, List, [], ◌∷◌, ◌++◌, map, codes, refl, ap, ◌∙◌, append_assoc}
use Rattle.std.specs.List.{flat_map}
use Rattle.std.specs.Fmt.{signed_decimal}
use Rattle.std.proofs.lemmas.List.{append-nil}
use Rattle.std.proofs.lemmas.List.Concat.{flat_map-append}
use Rattle.siting_definitions.specs.Sites.{root_of}
use Rattle.siting_definitions.specs.Answer.{Head}
use Rattle.siting_definitions.specs.Line.{line_text, text_of}
use Rattle.siting_definitions.specs.InstanceText.{version_field, instance_lines, instance_text}
use Rattle.siting_definitions.specs.AnswerText.{number_line, optional_line, site_line, cost_line, word_field, root_line, mark_line, head_lines, answer_text}
use Rattle.discard_log.specs.declared.node.Node.{Node}
use Rattle.discard_log.specs.Nodes.{mark_of}
use Rattle.certificate.specs.Written.{node_text}

-- the bytes of a line, and then others
abbrev pub line_then : List (List ℕ) → List ℕ → List ℕ
line_then [] rest = 10 ∷ rest
line_then (field ∷ []) rest = field ++ 10 ∷ rest
line_then (field ∷ next ∷ fields) rest = field ++ 32 ∷ line_then (next ∷ fields) rest

line_text-then : (fields : List (List ℕ)) (rest : List ℕ) → line_text fields ++ rest ≡ line_then fields rest
line_text-then [] rest = refl
line_text-then (field ∷ []) rest = append_assoc field (10 ∷ []) rest
line_text-then (field ∷ next ∷ fields) rest =
    append_assoc field (32 ∷ line_text (next ∷ fields)) rest ∙ ap (λ bytes. field ++ 32 ∷ bytes) (line_text-then (next ∷ fields) rest)

-- lines as they are put, byte after byte
abbrev pub as_put : List (List (List ℕ)) → List ℕ
as_put [] = []
as_put (line ∷ lines) = line_then line (as_put lines)

pub text_of-as_put : (lines : List (List (List ℕ))) → text_of lines ≡ as_put lines
text_of-as_put [] = refl
text_of-as_put (line ∷ lines) = ap (λ bytes. line_text line ++ bytes) (text_of-as_put lines) ∙ line_text-then line (as_put lines)

abbrev limits_lines : Head → List (List (List ℕ))
limits_lines h = (codes "gap" ∷ signed_decimal h.gap ∷ []) ∷ number_line (codes "budget") h.budget ∷ number_line (codes "pool") h.pool ∷ []

abbrev best_lines : Head → List (List (List ℕ))
best_lines h = site_line h.best ∷ cost_line h.best ∷ []

abbrev outcome_lines : Head → List (List (List ℕ))
outcome_lines h = (codes "answer" ∷ word_field h.word ∷ []) ∷ number_line (codes "open") h.open_count ∷ number_line (codes "leases") h.leases ∷ []

-- the lines of the head, in the parts in which they are written
pub head_text-parts : (h : Head)
    → text_of (head_lines h)
    ≡ text_of (limits_lines h) ++ (text_of (best_lines h)
    ++ (line_text (optional_line (codes "bound") h.bound) ++ (text_of (outcome_lines h) ++ line_text (root_line (root_of h.instance)))))
head_text-parts h =
    let root : List (List (List ℕ)) = root_line (root_of h.instance) ∷ [] in
    let bound = optional_line (codes "bound") h.bound in
    let outcome = flat_map-append line_text (outcome_lines h) root
    ∙ ap (λ bytes. text_of (outcome_lines h) ++ bytes) (append-nil (line_text (root_line (root_of h.instance)))) in
    let best = flat_map-append line_text (best_lines h) (bound ∷ (outcome_lines h ++ root))
    ∙ ap (λ bytes. text_of (best_lines h) ++ (line_text bound ++ bytes)) outcome in
    flat_map-append line_text (limits_lines h) (best_lines h ++ bound ∷ (outcome_lines h ++ root)) ∙ ap (λ bytes. text_of (limits_lines h) ++ bytes) best

node_lines : (ns : List Node) → text_of (map mark_line (map mark_of ns)) ≡ flat_map node_text ns
node_lines [] = refl
node_lines (n ∷ ns) = ap (λ bytes. node_text n ++ bytes) (node_lines ns)

-- the whole text
pub answer_text-parts : (h : Head) (ns : List Node)
    → answer_text (record { head = h; marks = map mark_of ns })
    ≡ line_text (codes "siting" ∷ codes "answer" ∷ version_field h.instance ∷ [])
    ++ (instance_text h.instance ++ (text_of (head_lines h) ++ (flat_map node_text ns ++ codes "end\n")))
unfolding answer_text instance_text
answer_text-parts h ns =
    let first = line_text (codes "siting" ∷ codes "answer" ∷ version_field h.instance ∷ []) in
    let end : List (List (List ℕ)) = (codes "end" ∷ []) ∷ [] in
    let marks = map mark_line (map mark_of ns) in
    let marks_text = flat_map-append line_text marks end ∙ ap (λ bytes. bytes ++ codes "end\n") (node_lines ns) in
    let head_text = flat_map-append line_text (head_lines h) (marks ++ end) ∙ ap (λ bytes. text_of (head_lines h) ++ bytes) marks_text in
    let instance_part = flat_map-append line_text (instance_lines h.instance) (head_lines h ++ (marks ++ end))
    ∙ ap (λ bytes. text_of (instance_lines h.instance) ++ bytes) head_text in
    ap (λ bytes. first ++ bytes) instance_part
