-- The text of an answer, read as its head and its marks; and no text is that of two answers.
use Rattle.std.proofs.Common.{◌≡◌, ℕ, ◌≤◌, ◌^◌, true, false, List, [], ◌∷◌, ◌++◌, length, map, codes, Option, Some, Ok, refl, sym, ap, ◌∙◌, append_assoc, arith}
use Rattle.std.specs.Prelude.{All}
use Rattle.std.proofs.lemmas.List.{append-nil, map-append, append_cancel_right}
use Rattle.text_lines.specs.Words.{line_bytes}
use Rattle.siting_definitions.specs.declared.Mark.{Mark}
use Rattle.siting_definitions.specs.InstanceText.{version_field, instance_lines}
use Rattle.siting_definitions.specs.Answer.{Head, Answer, IsHead, IsMark}
use Rattle.siting_definitions.specs.AnswerText.{mark_line, head_lines, answer_lines, answer_text}
use Rattle.line_stream.specs.Input.{Input, input_of, bytes_of}
use Rattle.line_stream.specs.Coming.{Coming}
use Rattle.line_stream.specs.Feeds.{are_feedless}
use Rattle.certificate.specs.declared.reader.AnswerError.{AnswerError}
use Rattle.certificate.specs.HeadReading.{answer_limit, coming_of, head_reading}
use Rattle.certificate.specs.HeadText.{front_lines}
use Rattle.line_stream.proofs.InputLemmas.{bytes-input_of, are_feedless-input_of, input_of-bytes_of}
use Rattle.std.proofs.lemmas.List.Elements.{All-head, All-tail}
use Rattle.siting_definitions.specs.declared.Mark.TheVariants.{Shut}
use Rattle.certificate.specs.declared.reader.Item.{Item}
use Rattle.certificate.specs.declared.reader.Item.TheVariants.{Node}
use Rattle.certificate.specs.Forms.{item_form}
use Rattle.certificate.proofs.MarkForms.{node_back}
use Rattle.certificate.proofs.FrontLemmas.{ok_pair}
use Rattle.certificate.proofs.LineBytes.{text_of-bytes_of, feedless_lines, bytes_of_injective}
use Rattle.certificate.proofs.HeadLemmas.{read_head, head_back}
use Rattle.certificate.proofs.AnswerWords.{answer_words}

-- ---- the lines of an answer
-- the lines of an answer are those of its head and those after it
answer_lines-parts : (a : Answer)
    → map line_bytes (answer_lines a) ≡ map line_bytes (front_lines a.head) ++ (map line_bytes (map mark_line a.marks) ++ codes "end" ∷ [])
answer_lines-parts a =
    let instance = instance_lines a.head.instance in
    let head = head_lines a.head in
    let marks = map mark_line a.marks in
    let end : List (List (List ℕ)) = (codes "end" ∷ []) ∷ [] in
    ap (λ (lines : List (List ℕ)). line_bytes (codes "siting" ∷ codes "answer" ∷ version_field a.head.instance ∷ []) ∷ lines)
    (ap (map line_bytes) (sym (append_assoc instance head (marks ++ end)))
    ∙ map-append line_bytes (instance ++ head) (marks ++ end)
    ∙ ap (λ (lines : List (List ℕ)). map line_bytes (instance ++ head) ++ lines) (map-append line_bytes marks end))

answer_text-bytes_of : (a : Answer) → answer_text a ≡ bytes_of (map line_bytes (answer_lines a))
unfolding answer_text
answer_text-bytes_of a = text_of-bytes_of (answer_lines a)

feedless_answer : (a : Answer) → are_feedless (map line_bytes (answer_lines a)) ≡ true
feedless_answer a = feedless_lines (answer_lines a) (answer_words a).test

-- ---- from the text to the answer
-- the bytes of an input that ends with a line feed
bytes_from : (limit : ℕ) (bytes : List ℕ) (lines : List (List ℕ)) → (input_of limit bytes).lines ≡ lines → (input_of limit bytes).partial ≡ []
    → (input_of limit bytes).goes_on ≡ false → bytes ≡ bytes_of lines
bytes_from limit bytes lines is none ends =
    bytes-input_of limit bytes ends
    ∙ ap (λ (partial : List ℕ). bytes_of (input_of limit bytes).lines ++ partial) none
    ∙ append-nil (bytes_of (input_of limit bytes).lines)
    ∙ ap bytes_of is

answer_from : (a : Answer) (bytes : List ℕ) (lines : List (List ℕ)) → lines ≡ map line_bytes (answer_lines a) → bytes ≡ bytes_of lines
    → bytes ≡ answer_text a
answer_from a bytes lines same is = is ∙ ap bytes_of same ∙ sym (answer_text-bytes_of a)

-- Bytes from which a head is read, and after it the lines of marks and the last line alone, are the text of an answer.
pub text_is : (bytes : List ℕ) (h : Head) (marks : List Mark) (r : Coming) → head_reading (coming_of bytes) ≡ Ok (h, r)
    → r.input.lines ≡ map line_bytes (map mark_line marks) ++ codes "end" ∷ [] → r.input.partial ≡ [] → r.input.goes_on ≡ false
    → bytes ≡ answer_text (record { head = h; marks = marks })
text_is bytes h marks r read lines partial goes_on =
    let a : Answer = record { head = h; marks = marks } in
    let head = read_head h (coming_of bytes) r (are_feedless-input_of answer_limit bytes) read in
    let whole : (input_of answer_limit bytes).lines ≡ map line_bytes (front_lines h) ++ (map line_bytes (map mark_line marks) ++ codes "end" ∷ []) =
    head.1.lines ∙ ap (λ (ls : List (List ℕ)). map line_bytes (front_lines h) ++ ls) lines in
    let none : (input_of answer_limit bytes).partial ≡ [] = sym head.1.partial ∙ partial in
    let ends : (input_of answer_limit bytes).goes_on ≡ false = sym head.1.goes_on ∙ goes_on in
    answer_from a bytes _ refl (bytes_from answer_limit bytes (map line_bytes (answer_lines a)) (whole ∙ sym (answer_lines-parts a)) none ends)

-- ---- from the answer to the text
-- the input that is the text of an answer has its lines
input_of-answer_text : (limit : ℕ) (a : Answer) → length (answer_text a) ≤ limit
    → input_of limit (answer_text a) ≡ record { lines = map line_bytes (answer_lines a); partial = []; goes_on = false }
input_of-answer_text limit a within =
    let bytes : answer_text a ≡ bytes_of (map line_bytes (answer_lines a)) = answer_text-bytes_of a in
    let short : length (bytes_of (map line_bytes (answer_lines a))) ≤ limit = omega (arith, ap length bytes) in
    ap (input_of limit) bytes ∙ input_of-bytes_of limit (map line_bytes (answer_lines a)) (feedless_answer a) short

-- all of an answer is to come
abbrev whole_of : List (List ℕ) → Coming
whole_of lines = record { input = record { lines = lines; partial = []; goes_on = false }; line = 0 }

-- what comes after the head of an answer
abbrev rest_of : Answer → Coming
rest_of a =
    record {
      input = record { lines = map line_bytes (map mark_line a.marks) ++ codes "end" ∷ []; partial = []; goes_on = false };
      line = length
          (map line_bytes (front_lines a.head));
    }

-- the head of an answer is read from its lines
reads_head : (a : Answer) → IsHead a.head → head_reading (whole_of (map line_bytes (answer_lines a))) ≡ Ok (a.head, rest_of a)
reads_head a is =
    head_back a.head (whole_of (map line_bytes (answer_lines a))) (rest_of a) is
    (record { lines = answer_lines-parts a; partial = refl; goes_on = refl; line = omega arith })

-- The text of an answer is read as its head, the lines of its marks, the last line, and nothing more.
pub text_comes : (a : Answer) → IsHead a.head → All IsMark a.marks → length (answer_text a) ≤ 2 ^ 30
    → (r : Coming) × (head_reading (coming_of (answer_text a)) ≡ Ok (a.head, r))
    × (r.input.lines ≡ map line_bytes (map mark_line a.marks) ++ codes "end" ∷ []) × (r.input.partial ≡ []) × (r.input.goes_on ≡ false)
text_comes a is marks within =
    let input = input_of-answer_text answer_limit a within in
    (rest_of a, ap (λ (i : Input). head_reading (record { input = i; line = 0 })) input ∙ reads_head a is, refl, refl, refl)

-- ---- no text is that of two answers
-- the mark whose line this is
mark_in : Option Item → Mark
mark_in (Some (Node m)) = m
mark_in other = Shut

-- the marks are read back from their lines
marks_back : (ms : List Mark) → All IsMark ms → map (λ (line : List ℕ). mark_in (item_form line)) (map line_bytes (map mark_line ms)) ≡ ms
unfolding mark_in
marks_back [] are = refl
marks_back (m ∷ ms) are =
    let first : mark_in (item_form (line_bytes (mark_line m))) ≡ m = ap mark_in (node_back m (All-head IsMark m ms are)) in
    let rest = marks_back ms (All-tail IsMark m ms are) in
    cc

-- no lines are those of two lists of marks and the end
same_marks : (ms ns : List Mark) → All IsMark ms → All IsMark ns
    → map line_bytes (map mark_line ms) ++ codes "end" ∷ [] ≡ map line_bytes (map mark_line ns) ++ codes "end" ∷ [] → ms ≡ ns
same_marks ms ns are_ms are_ns same =
    let marks = λ (lines : List (List ℕ)). map (λ (line : List ℕ). mark_in (item_form line)) lines in
    let lines = append_cancel_right (map line_bytes (map mark_line ms)) (map line_bytes (map mark_line ns)) (codes "end" ∷ []) same in
    sym (marks_back ms are_ms) ∙ ap marks lines ∙ marks_back ns are_ns

along_both : (h k : Head) (ms ns : List Mark) → h ≡ k → ms ≡ ns
    → ◌≡◌ {A = Answer} (record { head = h; marks = ms }) (record { head = k; marks = ns })
along_both h k ms ns p q = cc

-- no text is that of two answers within their ranges
pub answer_text_injective : (a b : Answer) → IsHead a.head → IsHead b.head → All IsMark a.marks → All IsMark b.marks
    → answer_text a ≡ answer_text b → a ≡ b
answer_text_injective a b in_a in_b marks_a marks_b same =
    let lines : map line_bytes (answer_lines a) ≡ map line_bytes (answer_lines b) =
    bytes_of_injective _ _ (feedless_answer a) (feedless_answer b) (sym (answer_text-bytes_of a) ∙ same ∙ answer_text-bytes_of b) in
    let read = sym (reads_head a in_a) ∙ ap (λ (ls : List (List ℕ)). head_reading (whole_of ls)) lines ∙ reads_head b in_b in
    let both = ok_pair {E = AnswerError} a.head b.head (rest_of a) (rest_of b) read in
    let after = ap (λ (r : Coming). r.input.lines) both.1 in
    along_both a.head b.head a.marks b.marks both.0 (same_marks a.marks b.marks marks_a marks_b after)
