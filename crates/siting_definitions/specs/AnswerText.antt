-- The text of an answer.
use Rattle.std.specs.Prelude.{ℕ, ℤ, pos, List, [], ◌∷◌, ◌++◌, map, codes, Option, Some, None}
use Rattle.std.specs.Fmt.{signed_decimal}
use Rattle.siting_definitions.specs.declared.Mark.{Mark}
use Rattle.siting_definitions.specs.declared.Mark.TheVariants.{Split, Shut, Bounded}
use Rattle.siting_definitions.specs.declared.Mark.TheVariants.{Floor as FloorMark, Left}
use Rattle.siting_definitions.specs.declared.Word.{Word}
use Rattle.siting_definitions.specs.declared.Word.TheVariants.{Solved, PoolFull}
use Rattle.siting_definitions.specs.declared.Word.TheVariants.{Budget, Floor, Empty}
use Rattle.siting_definitions.specs.Square.{Square}
use Rattle.siting_definitions.specs.Sites.{root_of}
use Rattle.siting_definitions.specs.Answer.{Best, Head, Answer}
use Rattle.siting_definitions.specs.Line.{text_of}
use Rattle.siting_definitions.specs.InstanceText.{version_field, instance_lines}

-- a line of a word and one number
abbrev pub number_line : List ℕ → ℕ → List (List ℕ)
number_line word n = word ∷ signed_decimal (pos n) ∷ []

-- a line whose number may be absent
abbrev pub optional_line : List ℕ → Option ℤ → List (List ℕ)
optional_line word None = word ∷ codes "none" ∷ []
optional_line word (Some n) = word ∷ signed_decimal n ∷ []

-- the line of the site
abbrev pub site_line : Option Best → List (List ℕ)
site_line None = codes "site" ∷ codes "none" ∷ []
site_line (Some b) = codes "site" ∷ signed_decimal b.site.x ∷ signed_decimal b.site.y ∷ []

-- the line of the site's lower and upper cost
abbrev pub cost_line : Option Best → List (List ℕ)
cost_line None = codes "cost" ∷ codes "none" ∷ []
cost_line (Some b) = codes "cost" ∷ signed_decimal b.lower ∷ signed_decimal b.upper ∷ []

-- how each word is written
abbrev pub word_field : Word → List ℕ
word_field Solved = codes "solved"
word_field PoolFull = codes "pool_full"
word_field Budget = codes "budget"
word_field Floor = codes "floor"
word_field Empty = codes "empty"

-- the line of the starting square: its corner and its level
abbrev pub root_line : Square → List (List ℕ)
root_line s =
    codes "root" ∷ signed_decimal s.x ∷ signed_decimal s.y ∷ signed_decimal (pos s.level) ∷ []

-- the line of one square's mark: a letter, and the mark's number, if it has one
abbrev pub mark_line : Mark → List (List ℕ)
mark_line (Split None) = codes "S" ∷ codes "-" ∷ []
mark_line (Split (Some v)) = codes "S" ∷ signed_decimal v ∷ []
mark_line Shut = codes "X" ∷ []
mark_line (Bounded b) = codes "B" ∷ signed_decimal b ∷ []
mark_line (FloorMark b) = codes "F" ∷ signed_decimal b ∷ []
mark_line (Left b) = codes "O" ∷ signed_decimal b ∷ []

-- the lines of the head, after the instance's
abbrev pub head_lines : Head → List (List (List ℕ))
head_lines h =
    (codes "gap" ∷ signed_decimal h.gap ∷ [])
    ∷ number_line (codes "budget") h.budget
    ∷ number_line (codes "pool") h.pool
    ∷ site_line h.best
    ∷ cost_line h.best
    ∷ optional_line (codes "bound") h.bound
    ∷ (codes "answer" ∷ word_field h.word ∷ [])
    ∷ number_line (codes "open") h.open_count
    ∷ number_line (codes "leases") h.leases
    ∷ root_line (root_of h.instance)
    ∷ []

-- the lines of an answer, each as its fields: the header, the instance, the head, the marks in
-- preorder, and the end
abbrev pub answer_lines : Answer → List (List (List ℕ))
answer_lines a =
    (codes "siting" ∷ codes "answer" ∷ version_field a.head.instance ∷ [])
    ∷ (instance_lines a.head.instance
    ++ (head_lines a.head ++ (map mark_line a.marks ++ (codes "end" ∷ []) ∷ [])))

-- the bytes of an answer
unfoldable pub answer_text : Answer → List ℕ
answer_text a = text_of (answer_lines a)
