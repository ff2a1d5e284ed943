-- Each line of an answer is one of words.
use Rattle.std.proofs.Common.{◌≡◌, ℕ, true, ℤ, pos, List, [], ◌∷◌, ◌++◌, map, codes, Option, Some, None, refl, ◌∙◌}
use Rattle.std.specs.List.{list_all}
use Rattle.std.specs.Fmt.{signed_decimal}
use Rattle.std.proofs.lemmas.Bool.{and_from}
use Rattle.std.proofs.lemmas.List.Folds.{list_all-append}
use Rattle.siting_definitions.specs.declared.Mark.{Mark}
use Rattle.siting_definitions.specs.declared.Mark.TheVariants.{Split, Shut, Bounded, Floor as FloorMark, Left}
use Rattle.siting_definitions.specs.declared.Word.{Word}
use Rattle.siting_definitions.specs.declared.Word.TheVariants.{Solved, PoolFull, Budget, Floor, Empty}
use Rattle.siting_definitions.specs.Square.{Square}
use Rattle.siting_definitions.specs.Sites.{root_of}
use Rattle.siting_definitions.specs.Answer.{Best, Head, Answer}
use Rattle.siting_definitions.specs.InstanceText.{has_cutoff, version_field, instance_lines}
use Rattle.siting_definitions.specs.AnswerText.{optional_line, site_line, cost_line, word_field, root_line, mark_line, head_lines, answer_lines}
use Rattle.text_lines.specs.Words.{is_word, are_words, AreWords}
use Rattle.text_lines.proofs.NumbersBack.{is_word-signed_decimal}
use Rattle.instance_text.proofs.ReadsBack.{AreWords-instance_lines, version_word}

two_words : (word field : List ℕ) → is_word word ≡ true → is_word field ≡ true → are_words (word ∷ field ∷ []) ≡ true
two_words word field h k = and_from _ _ h (and_from _ _ k refl)

three_words : (word x y : List ℕ) → is_word word ≡ true → is_word x ≡ true → is_word y ≡ true → are_words (word ∷ x ∷ y ∷ []) ≡ true
three_words word x y h k l = and_from _ _ h (two_words x y k l)

number_words : (word : List ℕ) (z : ℤ) → is_word word ≡ true → are_words (word ∷ signed_decimal z ∷ []) ≡ true
number_words word z h = two_words word (signed_decimal z) h (is_word-signed_decimal z)

pair_words : (word : List ℕ) (x y : ℤ) → is_word word ≡ true → are_words (word ∷ signed_decimal x ∷ signed_decimal y ∷ []) ≡ true
pair_words word x y h = three_words word (signed_decimal x) (signed_decimal y) h (is_word-signed_decimal x) (is_word-signed_decimal y)

site_words : (best : Option Best) → are_words (site_line best) ≡ true
site_words None = refl
site_words (Some b) = pair_words (codes "site") b.site.x b.site.y refl

cost_words : (best : Option Best) → are_words (cost_line best) ≡ true
cost_words None = refl
cost_words (Some b) = pair_words (codes "cost") b.lower b.upper refl

bound_words : (bound : Option ℤ) → are_words (optional_line (codes "bound") bound) ≡ true
bound_words None = refl
bound_words (Some z) = number_words (codes "bound") z refl

word_words : (word : Word) → is_word (word_field word) ≡ true
word_words Solved = refl
word_words PoolFull = refl
word_words Budget = refl
word_words Floor = refl
word_words Empty = refl

root_words : (s : Square) → are_words (root_line s) ≡ true
root_words s = and_from _ _ refl (three_words (signed_decimal s.x) (signed_decimal s.y) (signed_decimal (pos s.level)) (is_word-signed_decimal s.x)
    (is_word-signed_decimal s.y) (is_word-signed_decimal (pos s.level)))

-- the line of a mark is one of words
mark_words : (m : Mark) → are_words (mark_line m) ≡ true
mark_words (Split None) = refl
mark_words (Split (Some v)) = number_words (codes "S") v refl
mark_words Shut = refl
mark_words (Bounded b) = number_words (codes "B") b refl
mark_words (FloorMark b) = number_words (codes "F") b refl
mark_words (Left b) = number_words (codes "O") b refl

marks_words : (ms : List Mark) → list_all are_words (map mark_line ms ++ (codes "end" ∷ []) ∷ []) ≡ true
marks_words [] = refl
marks_words (m ∷ ms) = and_from _ _ (mark_words m) (marks_words ms)

-- the lines of a head are lines of words, and so are those after it
head_words : (h : Head) (rest : List (List (List ℕ))) → list_all are_words rest ≡ true → list_all are_words (head_lines h ++ rest) ≡ true
head_words h rest words =
    and_from _ _ (number_words (codes "gap") h.gap refl)
    (and_from _ _ (number_words (codes "budget") (pos h.budget) refl)
    (and_from _ _ (number_words (codes "pool") (pos h.pool) refl)
    (and_from _ _ (site_words h.best)
    (and_from _ _ (cost_words h.best)
    (and_from _ _ (bound_words h.bound)
    (and_from _ _ (two_words (codes "answer") (word_field h.word) refl (word_words h.word))
    (and_from _ _ (number_words (codes "open") (pos h.open_count) refl)
    (and_from _ _ (number_words (codes "leases") (pos h.leases) refl)
    (and_from _ _ (root_words (root_of h.instance)) words)))))))))

-- the lines of an answer are lines of words
pub answer_words : (a : Answer) → AreWords (answer_lines a)
answer_words a = record {
  test = and_from _ _ (three_words (codes "siting") (codes "answer") (version_field a.head.instance) refl refl (version_word (has_cutoff a.head.instance)))
      (list_all-append are_words (instance_lines a.head.instance) (head_lines a.head ++ (map mark_line a.marks ++ (codes "end" ∷ []) ∷ []))
      ∙ and_from _ _ (AreWords-instance_lines a.head.instance).test
      (head_words a.head (map mark_line a.marks ++ (codes "end" ∷ []) ∷ []) (marks_words a.marks)));
}
