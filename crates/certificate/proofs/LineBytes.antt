-- The bytes of lines: lines of words have no line feeds, and such lines are told by their bytes.
use Rattle.std.proofs.Common.{◌≡◌, ℕ, ◌≤◌, ◌<◌, eqb, true, not, List, [], ◌∷◌, ◌++◌, length, map, refl, sym, ap, ◌∙◌, append_assoc, arith}
use Rattle.std.specs.List.{list_all}
use Rattle.std.proofs.lemmas.Bool.{not_from_false, ne_eqb, and_parts, and_from}
use Rattle.text_lines.specs.Words.{are_words, line_bytes}
use Rattle.line_stream.specs.Input.{Input, input_of, bytes_of}
use Rattle.line_stream.specs.Feeds.{is_feedless, are_feedless}
use Rattle.siting_definitions.specs.Line.{text_of}
use Rattle.line_stream.proofs.InputLemmas.{input_of-bytes_of}
use Rattle.text_lines.proofs.ReadBack.{line_text-joined, of_line_bytes}

-- a text is the bytes of its lines
pub text_of-bytes_of : (lines : List (List (List ℕ))) → text_of lines ≡ bytes_of (map line_bytes lines)
text_of-bytes_of [] = refl
text_of-bytes_of (line ∷ lines) =
    line_text-joined line (text_of lines) ∙ ap (λ (bytes : List ℕ). line_bytes line ++ 10 ∷ bytes) (text_of-bytes_of lines)
    ∙ sym (append_assoc (line_bytes line) (10 ∷ []) (bytes_of (map line_bytes lines)))

above_feed : (b : ℕ) → 32 < b → not (eqb b 10) ≡ true
above_feed b high = not_from_false _ (ne_eqb b 10 (λ same. omega arith))

-- a line of words has no line feed
feedless_joined : (fields : List (List ℕ)) → are_words fields ≡ true → is_feedless (line_bytes fields) ≡ true
feedless_joined fields words = of_line_bytes (λ b. not (eqb b 10)) refl above_feed fields words

-- lines of words have no line feeds
pub feedless_lines : (lines : List (List (List ℕ))) → list_all are_words lines ≡ true → are_feedless (map line_bytes lines) ≡ true
feedless_lines [] words = refl
feedless_lines (line ∷ lines) words = let parts = and_parts _ _ words in and_from _ _ (feedless_joined line parts.0) (feedless_lines lines parts.1)

-- lines without line feeds are told by their bytes
pub bytes_of_injective : (lines others : List (List ℕ)) → are_feedless lines ≡ true → are_feedless others ≡ true → bytes_of lines ≡ bytes_of others
    → lines ≡ others
bytes_of_injective lines others clean others_clean same =
    let n = length (bytes_of lines) in
    let long : length (bytes_of others) ≤ n = omega (arith, ap length same) in
    ap (λ (i : Input). i.lines) (sym (input_of-bytes_of n lines clean (omega arith)) ∙ ap (input_of n) same ∙ input_of-bytes_of n others others_clean long)
