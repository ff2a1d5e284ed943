-- The short texts of the program.
use Rattle.std.specs.Prelude.{ℕ, ℤ, List, ◌++◌, codes, decimal, Option, Some, None}
use Rattle.std.specs.Fmt.{signed_decimal}
use Rattle.cert_checker.specs.declared.faults.Differ.{Differ}
use Rattle.cert_checker.specs.declared.faults.CheckFault.{CheckFault}

abbrev pub bad_words : List ℕ
bad_words = codes "bad words\n"

abbrev pub too_long : List ℕ
too_long = codes "too long\n"

abbrev pub accepted : List ℕ
accepted = codes "accepted\n"

-- a fault by its number and its line, after a word and before the rest
abbrev pub fault_text : List ℕ → ℕ → ℕ → List ℕ → List ℕ
fault_text word number line rest =
    word ++ (decimal number ++ (codes " line " ++ (decimal line ++ rest)))

abbrev pub no_site : List ℕ
no_site = codes "no site\n"

abbrev pub too_many : ℕ → List ℕ
too_many limit = codes "too many above " ++ (decimal limit ++ codes "\n")

-- a number that is too small, after a word
abbrev pub small_text : List ℕ → ℕ → ℕ → List ℕ
small_text word has wants =
    word ++ (decimal has ++ (codes " wants " ++ (decimal wants ++ codes "\n")))

abbrev pub small_budget : ℕ → ℕ → List ℕ
small_budget has wants = small_text (codes "small budget has ") has wants

abbrev pub small_pool : ℕ → ℕ → List ℕ
small_pool has wants = small_text (codes "small pool has ") has wants

abbrev pub bad_instance : ℕ → ℕ → List ℕ
bad_instance number line = fault_text (codes "bad instance ") number line (codes "\n")

-- a value, or the word "none"
abbrev pub value_text : Option ℤ → List ℕ
value_text None = codes "none"
value_text (Some z) = signed_decimal z

abbrev pub differ_text : Option Differ → List ℕ
differ_text None = codes "\n"
differ_text (Some d) =
    codes " has "
    ++ (value_text d.has ++ (codes " wants " ++ (value_text d.wants ++ codes "\n")))

abbrev pub rejected : CheckFault → List ℕ
rejected f = fault_text (codes "rejected ") f.number f.line (differ_text f.differ)
