-- The line that the program writes.
use Rattle.std.specs.Prelude.{ℕ, List, ◌++◌, codes, decimal}
use Rattle.cover_check.specs.declared.faults.CoverFault.{CoverFault}
use Rattle.cover_check.specs.declared.faults.CoverFault.TheVariants.{Edges, Owner, Triangle, Tile, Piece}
use Rattle.cover_cli.specs.declared.status.Verdict.{Verdict}
use Rattle.cover_cli.specs.declared.status.Verdict.TheVariants.{Covered, BadCover, BadInstance, Uncovered, TooLong}

-- a number after a word
abbrev pub number_text : List ℕ → ℕ → List ℕ
number_text word number = word ++ (decimal number ++ codes "\n")

-- a fault by its number and its line, after a word
abbrev pub fault_text : List ℕ → ℕ → ℕ → List ℕ
fault_text word number line =
    word ++ (decimal number ++ (codes " line " ++ (decimal line ++ codes "\n")))

-- which test of a cover fails
abbrev pub uncovered : CoverFault → List ℕ
uncovered Edges = codes "uncovered edges\n"
uncovered (Owner line) = number_text (codes "uncovered owner line ") line
uncovered (Triangle line) = number_text (codes "uncovered triangle line ") line
uncovered (Tile line) = number_text (codes "uncovered tile line ") line
uncovered (Piece number) = number_text (codes "uncovered piece ") number

-- what the bytes come to
abbrev pub text_of : Verdict → List ℕ
text_of Covered = codes "covered\n"
text_of (BadCover fault) = fault_text (codes "bad cover ") fault.number fault.line
text_of (BadInstance fault) = fault_text (codes "bad instance ") fault.number fault.line
text_of (Uncovered fault) = uncovered fault
text_of TooLong = codes "too long\n"
