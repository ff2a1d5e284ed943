-- Lines of words are read back from the text that was written of them.
use Rattle.std.proofs.Common.{◌≡◌, ℕ, ◌-◌, ◌<◌, eqb, ltb, Bool, true, false, List, [], ◌∷◌, ◌++◌, length, get_or, map, refl, sym, ap, ◌∙◌, append_assoc, arith, zero, suc}
use Rattle.std.specs.List.{list_all}
use Rattle.std.proofs.lemmas.Bool.{and_parts, and_from, ltb-true, lt-ltb, ne_eqb}
use Rattle.std.proofs.lemmas.List.Folds.{list_all-append}
use Rattle.siting_definitions.specs.Line.{line_text, text_of}
use Rattle.text_lines.specs.Lines.{onto, pieces_of, without_return, lines_of, is_gap, fields_of}
use Rattle.text_lines.specs.Words.{is_word, are_words, AreWords, line_bytes, rows_of}

-- every byte is that of the space or above it
abbrev is_plain : List ℕ → Bool
is_plain bytes = list_all (λ b. ltb 31 b) bytes

not_byte : (low b c : ℕ) → ltb low b ≡ true → ltb low c ≡ false → eqb b c ≡ false
not_byte low b c above below = ne_eqb b c (λ same. let at : ltb low c ≡ true = rw same at above in absurd cc)

plain_at : (line : List ℕ) (i : ℕ) → is_plain line ≡ true → eqb (get_or line i 0) 13 ≡ false
plain_at [] i plain = refl
plain_at (b ∷ bs) zero plain = not_byte 31 b 13 (and_parts _ _ plain).0 refl
plain_at (b ∷ bs) (suc i) plain = plain_at bs i (and_parts _ _ plain).1

pieces_then : (line rest : List ℕ) → is_plain line ≡ true → pieces_of (line ++ 10 ∷ rest) ≡ line ∷ pieces_of rest
pieces_then [] rest plain = refl
pieces_then (b ∷ bs) rest plain =
    let parts = and_parts _ _ plain in
    let first : eqb b 10 ≡ false = not_byte 31 b 10 parts.0 refl in
    let here : pieces_of (b ∷ (bs ++ 10 ∷ rest)) ≡ onto b (pieces_of (bs ++ 10 ∷ rest)) = rw first refl in
    here ∙ ap (onto b) (pieces_then bs rest parts.1)

-- a line without control bytes, and its line feed
pub lines_then : (line rest : List ℕ) → is_plain line ≡ true → lines_of (line ++ 10 ∷ rest) ≡ line ∷ lines_of rest
lines_then line rest plain =
    ap (map without_return) (pieces_then line rest plain) ∙ rw (plain_at line (length line - 1) plain) refl

not_gap : (b : ℕ) → ltb 32 b ≡ true → is_gap b ≡ false
not_gap b above = rw (not_byte 32 b 32 above refl, not_byte 32 b 9 above refl) refl

-- a word before a space is the first field
run_then : (b : ℕ) (bs rest : List ℕ) → ltb 32 b ≡ true → list_all (λ c. ltb 32 c) bs ≡ true → fields_of (b ∷ (bs ++ 32 ∷ rest)) ≡ (b ∷ bs) ∷ fields_of rest
run_then b [] rest above more = let first : is_gap b ≡ false = not_gap b above in rw first refl
run_then b (c ∷ bs) rest above more =
    let parts = and_parts _ _ more in
    let first : is_gap b ≡ false = not_gap b above in
    let second : is_gap c ≡ false = not_gap c parts.0 in
    let here : fields_of (b ∷ (c ∷ (bs ++ 32 ∷ rest))) ≡ onto b (fields_of (c ∷ (bs ++ 32 ∷ rest))) = rw (first, second) refl in
    here ∙ ap (onto b) (run_then c bs rest parts.0 parts.1)

-- and a word alone the only one
run_last : (b : ℕ) (bs : List ℕ) → ltb 32 b ≡ true → list_all (λ c. ltb 32 c) bs ≡ true → fields_of (b ∷ bs) ≡ (b ∷ bs) ∷ []
run_last b [] above more = let first : is_gap b ≡ false = not_gap b above in rw first refl
run_last b (c ∷ bs) above more =
    let parts = and_parts _ _ more in
    let first : is_gap b ≡ false = not_gap b above in
    let second : is_gap c ≡ false = not_gap c parts.0 in
    let here : fields_of (b ∷ (c ∷ bs)) ≡ onto b (fields_of (c ∷ bs)) = rw (first, second) refl in
    here ∙ ap (onto b) (run_last c bs parts.0 parts.1)

-- a word, and a space after it
pub fields_then : (field rest : List ℕ) → is_word field ≡ true → fields_of (field ++ 32 ∷ rest) ≡ field ∷ fields_of rest
fields_then [] rest word = absurd cc
fields_then (b ∷ bs) rest word = run_then b bs rest (and_parts _ _ word).0 (and_parts _ _ word).1

-- a word at the end of the line
pub fields_last : (field : List ℕ) → is_word field ≡ true → fields_of field ≡ field ∷ []
fields_last [] word = absurd cc
fields_last (b ∷ bs) word = run_last b bs (and_parts _ _ word).0 (and_parts _ _ word).1

-- the fields of a line of words
pub fields_of-joined : (fields : List (List ℕ)) → are_words fields ≡ true → fields_of (line_bytes fields) ≡ fields
fields_of-joined [] words = refl
fields_of-joined (field ∷ []) words = fields_last field (and_parts _ _ words).0
fields_of-joined (field ∷ next ∷ fields) words =
    let parts = and_parts _ _ words in
    fields_then field (line_bytes (next ∷ fields)) parts.0 ∙ ap (λ fs. field ∷ fs) (fields_of-joined (next ∷ fields) parts.1)

-- what holds of a space and of the bytes of words holds of the bytes of lines of words
module _ (test : ℕ → Bool) (space : test 32 ≡ true) (above : (b : ℕ) → 32 < b → test b ≡ true) where
  of_bytes : (bs : List ℕ) → list_all (λ c. ltb 32 c) bs ≡ true → list_all test bs ≡ true
  of_bytes [] high = refl
  of_bytes (b ∷ bs) high = let parts = and_parts _ _ high in and_from _ _ (above b (ltb-true 32 b parts.0)) (of_bytes bs parts.1)

  of_word : (field : List ℕ) → is_word field ≡ true → list_all test field ≡ true
  of_word [] word = refl
  of_word (b ∷ bs) word = of_bytes (b ∷ bs) word

  pub of_line_bytes : (fields : List (List ℕ)) → are_words fields ≡ true → list_all test (line_bytes fields) ≡ true
  of_line_bytes [] words = refl
  of_line_bytes (field ∷ []) words = of_word field (and_parts _ _ words).0
  of_line_bytes (field ∷ next ∷ fields) words =
      let parts = and_parts _ _ words in
      list_all-append test field (32 ∷ line_bytes (next ∷ fields))
      ∙ and_from _ _ (of_word field parts.0) (and_from _ _ space (of_line_bytes (next ∷ fields) parts.1))

-- a line of words is plain
plain_joined : (fields : List (List ℕ)) → are_words fields ≡ true → is_plain (line_bytes fields) ≡ true
plain_joined fields words = of_line_bytes (λ b. ltb 31 b) refl (λ b high. lt-ltb 31 b (omega arith)) fields words

-- the text of a line is its bytes and a line feed
pub line_text-joined : (fields : List (List ℕ)) (rest : List ℕ) → line_text fields ++ rest ≡ line_bytes fields ++ 10 ∷ rest
line_text-joined [] rest = refl
line_text-joined (field ∷ []) rest = append_assoc field (10 ∷ []) rest
line_text-joined (field ∷ next ∷ fields) rest =
    append_assoc field (32 ∷ line_text (next ∷ fields)) rest
    ∙ ap (λ bytes. field ++ 32 ∷ bytes) (line_text-joined (next ∷ fields) rest)
    ∙ sym (append_assoc field (32 ∷ line_bytes (next ∷ fields)) (10 ∷ rest))

-- a line of words that was written, and what comes after it
pub lines_of-line_text : (fields : List (List ℕ)) (rest : List ℕ) → are_words fields ≡ true → lines_of (line_text fields ++ rest) ≡ line_bytes fields ∷ lines_of rest
lines_of-line_text fields rest words = ap lines_of (line_text-joined fields rest) ∙ lines_then (line_bytes fields) rest (plain_joined fields words)

rows_back : (lines : List (List (List ℕ))) → list_all are_words lines ≡ true → rows_of (text_of lines) ≡ lines
rows_back [] words = refl
rows_back (fields ∷ lines) words =
    let parts = and_parts _ _ words in
    ap (map fields_of) (lines_of-line_text fields (text_of lines) parts.0)
    ∙ ap (λ row. row ∷ rows_of (text_of lines)) (fields_of-joined fields parts.0)
    ∙ ap (λ rows. fields ∷ rows) (rows_back lines parts.1)

-- the fields of the lines of a text that was written of lines of words
pub rows_of-text_of : (lines : List (List (List ℕ))) → AreWords lines → rows_of (text_of lines) ≡ lines
rows_of-text_of lines words = rows_back lines words.test
