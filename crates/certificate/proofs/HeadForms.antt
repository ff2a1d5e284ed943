-- The forms of the lines of a head: each reads the canonical lines of its values, and no others.
use Rattle.std.proofs.Common.{◌≡◌, ℕ, ◌^◌, Bool, true, false, cond, ℤ, pos, List, [], ◌∷◌, ◌++◌, codes, Option, Some, None, refl, sym, ap, ◌∙◌, ◌⊎◌, inl, inr, arith, w64}
use Rattle.std.specs.Prelude.{FitsSigned, MatchOption, ⊤}
use Rattle.std.specs.Option.{option_map}
use Rattle.std.specs.Str.{bytes_eq}
use Rattle.std.specs.Fmt.{signed_decimal}
use Rattle.std.proofs.lemmas.Bool.{cond-true, cond-false}
use Rattle.std.proofs.lemmas.Option.{cond_some}
use borrow.Author.Differences.{ints}
use Rattle.text_lines.specs.Words.{line_bytes}
use Rattle.siting_definitions.specs.declared.Word.{Word}
use Rattle.siting_definitions.specs.declared.Word.TheVariants.{Solved, PoolFull, Budget, Floor, Empty}
use Rattle.siting_definitions.specs.Point.{Pt}
use Rattle.siting_definitions.specs.Square.{Square}
use Rattle.siting_definitions.specs.Answer.{Best, IsSite}
use Rattle.siting_definitions.specs.AnswerText.{optional_line, site_line, cost_line, word_field, root_line}
use Rattle.certificate.specs.Forms.{canonical_64, two_numbers, is_none, optional_number, version_form, gap_form, budget_form, pool_form, site_number, site_in, site_form, costs_in, cost_form, bound_form, word_in, word_form, open_form, leases_form, root_form}
use Rattle.certificate.proofs.NumberForms.{IsForm, IsWithin, IsForm-canonical_64, IsForm-two_numbers, IsForm-site_number, IsForm-optional_number, IsForm-after_word, IsForm-number_form, IsForm-as, same_bytes, bytes_again, map_some, choice, pair_text, pair_as, pair_not_none, optional_field, IsForm-counts, small_positive, IsCoordinate}

-- ---- lines of a word and a number
pub IsForm-gap_form : IsForm gap_form (λ z. line_bytes (codes "gap" ∷ signed_decimal z ∷ [])) (IsWithin (pos 0) (pos (2 ^ 62)))
IsForm-gap_form = IsForm-counts (codes "gap") (2 ^ 62) (omega arith)

pub IsForm-budget_form : IsForm budget_form (λ z. line_bytes (codes "budget" ∷ signed_decimal z ∷ [])) (IsWithin (pos 0) (pos 1000000))
IsForm-budget_form = IsForm-counts (codes "budget") 1000000 (omega arith)

pub IsForm-pool_form : IsForm pool_form (λ z. line_bytes (codes "pool" ∷ signed_decimal z ∷ [])) (IsWithin (pos 1) (pos 1000000))
IsForm-pool_form =
    IsForm-number_form (codes "pool") (pos 1) (pos 1000000) (λ z low high. small_positive 1000000 z (omega arith) (omega (arith, ints)) high)

pub IsForm-open_form : IsForm open_form (λ z. line_bytes (codes "open" ∷ signed_decimal z ∷ [])) (IsWithin (pos 0) (pos 1000000))
IsForm-open_form = IsForm-counts (codes "open") 1000000 (omega arith)

pub IsForm-leases_form : IsForm leases_form (λ z. line_bytes (codes "leases" ∷ signed_decimal z ∷ [])) (IsWithin (pos 0) (pos 1000000))
IsForm-leases_form = IsForm-counts (codes "leases") 1000000 (omega arith)

-- the line of the bound, or of none
pub IsForm-bound_form : IsForm bound_form (λ o. line_bytes (optional_line (codes "bound") o)) (λ o. MatchOption o ⊤ (FitsSigned w64))
IsForm-bound_form =
    IsForm-as bound_form (λ o. codes "bound" ++ 32 ∷ optional_field o) (λ o. line_bytes (optional_line (codes "bound") o))
    (λ o. MatchOption o ⊤ (FitsSigned w64))
    (IsForm-after_word (codes "bound") optional_number optional_field (λ o. MatchOption o ⊤ (FitsSigned w64)) IsForm-optional_number) same
  where
    same : (o : Option ℤ) → codes "bound" ++ 32 ∷ optional_field o ≡ line_bytes (optional_line (codes "bound") o)
    same None = refl
    same (Some z) = refl

-- ---- the site and its costs
abbrev pub site_of : Option Best → Option Pt
site_of best = option_map (λ (b : Best). b.site) best

-- the line of a site
abbrev pub site_fields : Option Pt → List (List ℕ)
site_fields None = codes "site" ∷ codes "none" ∷ []
site_fields (Some p) = codes "site" ∷ signed_decimal p.x ∷ signed_decimal p.y ∷ []

pub site_fields-site_of : (best : Option Best) → site_fields (site_of best) ≡ site_line best
site_fields-site_of None = refl
site_fields-site_of (Some b) = refl

abbrev site_field : Option Pt → List ℕ
site_field None = codes "none"
site_field (Some p) = pair_text (p.x, p.y)

abbrev site_from : ℤ × ℤ → Option Pt
site_from c = Some (record { x = c.0; y = c.1 })

-- two coordinates, or none
IsForm-site_in : IsForm site_in site_field (λ o. MatchOption o ⊤ IsSite)
IsForm-site_in = record { read = λ rest v e. found rest v (choice (is_none rest) None v _ e); back = backs }
  where
    pairs : IsForm (two_numbers site_number) pair_text (λ c. IsCoordinate c.0 × IsCoordinate c.1)
    pairs = IsForm-two_numbers site_number IsCoordinate IsForm-site_number

    found : (rest : List ℕ) (v : Option Pt) → ((is_none rest ≡ true) × (None ≡ v)) ⊎ (option_map site_from (two_numbers site_number rest) ≡ Some v)
        → (rest ≡ site_field v) × MatchOption v ⊤ IsSite
    found rest None (inl h) = (same_bytes rest (codes "none") h.0, tt)
    found rest (Some z) (inl h) = let e = h.1 in absurd cc
    found rest None (inr h) = let p = map_some site_from (two_numbers site_number rest) None h in let e = p.2 in absurd cc
    found rest (Some z) (inr h) =
        let p = map_some site_from (two_numbers site_number rest) (Some z) h in
        let e = p.2 in
        let x : p.0.0 ≡ z.x = cc in
        let y : p.0.1 ≡ z.y = cc in
        pair_as IsCoordinate rest p.0 z.x z.y (pairs.read rest p.0 p.1) x y

    backs : (v : Option Pt) → MatchOption v ⊤ IsSite → site_in (site_field v) ≡ Some v
    backs None h = refl
    backs (Some z) h = cond-false _ _ _ (pair_not_none (z.x, z.y)) ∙ ap (option_map site_from) (pairs.back (z.x, z.y) h)

-- the line of the site, or of none
pub IsForm-site_form : IsForm site_form (λ o. line_bytes (site_fields o)) (λ o. MatchOption o ⊤ IsSite)
IsForm-site_form =
    IsForm-as site_form (λ o. codes "site" ++ 32 ∷ site_field o) (λ o. line_bytes (site_fields o)) (λ o. MatchOption o ⊤ IsSite)
    (IsForm-after_word (codes "site") site_in site_field (λ o. MatchOption o ⊤ IsSite) IsForm-site_in) same
  where
    same : (o : Option Pt) → codes "site" ++ 32 ∷ site_field o ≡ line_bytes (site_fields o)
    same None = refl
    same (Some p) = refl

-- the costs are numbers of 64 bits
pub record HasCosts (b : Best) : Type 0 where
  pub lower : FitsSigned w64 b.lower
  pub upper : FitsSigned w64 b.upper

-- there are costs in range exactly where there is a site
abbrev pub AreCosts : Option Pt → Option Best → Type 0
AreCosts site best = (site_of best ≡ site) × MatchOption best ⊤ HasCosts

abbrev costs_field : Option Best → List ℕ
costs_field None = codes "none"
costs_field (Some b) = pair_text (b.lower, b.upper)

abbrev best_from : Pt → ℤ × ℤ → Option Best
best_from z c = Some (record { site = z; lower = c.0; upper = c.1 })

cost_pairs : IsForm (two_numbers canonical_64) pair_text (λ c. FitsSigned w64 c.0 × FitsSigned w64 c.1)
cost_pairs = IsForm-two_numbers canonical_64 (FitsSigned w64) IsForm-canonical_64

-- two costs where there is a site, or none where there is none
IsForm-costs_in : (site : Option Pt) → IsForm (costs_in site) costs_field (AreCosts site)
IsForm-costs_in None = record { read = reads; back = backs }
  where
    reads : (rest : List ℕ) (v : Option Best) → costs_in None rest ≡ Some v → (rest ≡ costs_field v) × AreCosts None v
    reads rest None e = (same_bytes rest (codes "none") (cond_some (is_none rest) None None e).0, (refl, tt))
    reads rest (Some b) e = let none = (cond_some (is_none rest) None (Some b) e).1 in absurd cc

    backs : (v : Option Best) → AreCosts None v → costs_in None (costs_field v) ≡ Some v
    backs None h = refl
    backs (Some b) h = let e = h.0 in absurd cc
IsForm-costs_in (Some z) = record { read = reads; back = backs }
  where
    reads : (rest : List ℕ) (v : Option Best) → costs_in (Some z) rest ≡ Some v → (rest ≡ costs_field v) × AreCosts (Some z) v
    reads rest None e = let p = map_some (best_from z) (two_numbers canonical_64 rest) None e in let no = p.2 in absurd cc
    reads rest (Some b) e =
        let p = map_some (best_from z) (two_numbers canonical_64 rest) (Some b) e in
        let same = p.2 in
        let site : z ≡ b.site = cc in
        let lower : p.0.0 ≡ b.lower = cc in
        let upper : p.0.1 ≡ b.upper = cc in
        let q = pair_as (FitsSigned w64) rest p.0 b.lower b.upper (cost_pairs.read rest p.0 p.1) lower upper in
        (q.0, (ap Some (sym site), record { lower = q.1.0; upper = q.1.1 }))

    backs : (v : Option Best) → AreCosts (Some z) v → costs_in (Some z) (costs_field v) ≡ Some v
    backs None h = let e = h.0 in absurd cc
    backs (Some b) h =
        let e = h.0 in
        let site : b.site ≡ z = cc in
        ap (option_map (best_from z)) (cost_pairs.back (b.lower, b.upper) (h.1.lower, h.1.upper)) ∙ rw (← site) refl

-- the line of the costs of a site, or of none
pub IsForm-cost_form : (site : Option Pt) → IsForm (cost_form site) (λ best. line_bytes (cost_line best)) (AreCosts site)
IsForm-cost_form site =
    IsForm-as (cost_form site) (λ best. codes "cost" ++ 32 ∷ costs_field best) (λ best. line_bytes (cost_line best)) (AreCosts site)
    (IsForm-after_word (codes "cost") (costs_in site) costs_field (AreCosts site) (IsForm-costs_in site)) same
  where
    same : (best : Option Best) → codes "cost" ++ 32 ∷ costs_field best ≡ line_bytes (cost_line best)
    same None = refl
    same (Some b) = refl

-- ---- words and the root
-- the first line of an answer of version 2 or 1
abbrev pub version_line : Bool → List (List ℕ)
version_line second = codes "siting" ∷ codes "answer" ∷ cond second (codes "2") (codes "1") ∷ []

-- the first line of an answer, of either version
pub IsForm-version_form : IsForm version_form (λ second. line_bytes (version_line second)) (λ _. ⊤)
IsForm-version_form = record { read = λ line v e. first line v (choice (bytes_eq line (codes "siting answer 1")) false v _ e); back = backs }
  where
    second : (line : List ℕ) (v : Bool) → (bytes_eq line (codes "siting answer 2") ≡ true) × (true ≡ v) → (line ≡ line_bytes (version_line v)) × ⊤
    second line true h = (same_bytes line (codes "siting answer 2") h.0, tt)
    second line false h = let e = h.1 in absurd cc

    first : (line : List ℕ) (v : Bool)
        → ((bytes_eq line (codes "siting answer 1") ≡ true) × (false ≡ v)) ⊎ (cond (bytes_eq line (codes "siting answer 2")) (Some true) None ≡ Some v)
        → (line ≡ line_bytes (version_line v)) × ⊤
    first line true (inl h) = let e = h.1 in absurd cc
    first line false (inl h) = (same_bytes line (codes "siting answer 1") h.0, tt)
    first line v (inr h) = second line v (cond_some (bytes_eq line (codes "siting answer 2")) true v h)

    backs : (v : Bool) → ⊤ → version_form (line_bytes (version_line v)) ≡ Some v
    backs true h = refl
    backs false h = refl

-- a word or what comes otherwise
word_or : (rest : List ℕ) (w v : Word) (otherwise : Option Word) → (otherwise ≡ Some v → rest ≡ word_field v)
    → cond (bytes_eq rest (word_field w)) (Some w) otherwise ≡ Some v → rest ≡ word_field v
word_or rest w v otherwise more e = found (choice (bytes_eq rest (word_field w)) w v otherwise e)
  where
    found : ((bytes_eq rest (word_field w) ≡ true) × (w ≡ v)) ⊎ (otherwise ≡ Some v) → rest ≡ word_field v
    found (inl h) = same_bytes rest (word_field w) h.0 ∙ ap word_field h.1
    found (inr h) = more h

IsForm-word_in : IsForm word_in word_field (λ _. ⊤)
IsForm-word_in = record { read = reads; back = backs }
  where
    reads : (rest : List ℕ) (v : Word) → word_in rest ≡ Some v → (rest ≡ word_field v) × ⊤
    reads rest v e = (
      word_or rest Solved v _ (word_or rest PoolFull v _ (word_or rest Budget v _
          (word_or rest Floor v _ (word_or rest Empty v None (λ no. absurd cc))))) e,
      tt,
    )

    backs : (v : Word) → ⊤ → word_in (word_field v) ≡ Some v
    backs Solved h = refl
    backs PoolFull h = refl
    backs Budget h = refl
    backs Floor h = refl
    backs Empty h = refl

-- the line of the answer's word
pub IsForm-word_form : IsForm word_form (λ w. line_bytes (codes "answer" ∷ word_field w ∷ [])) (λ _. ⊤)
IsForm-word_form = IsForm-after_word (codes "answer") word_in word_field (λ _. ⊤) IsForm-word_in

-- the line of the root of an instance
pub IsForm-root_form : (root : Square) → IsForm (root_form root) (λ s. line_bytes (root_line s)) (λ s. root ≡ s)
IsForm-root_form root = record { read = reads; back = backs }
  where
    reads : (line : List ℕ) (s : Square) → root_form root line ≡ Some s → (line ≡ line_bytes (root_line s)) × (root ≡ s)
    reads line s e =
        let test = cond_some (bytes_eq line (line_bytes (root_line root))) root s e in
        (same_bytes line (line_bytes (root_line root)) test.0 ∙ ap (λ (t : Square). line_bytes (root_line t)) test.1, test.1)

    backs : (s : Square) → root ≡ s → root_form root (line_bytes (root_line s)) ≡ Some s
    backs s same = rw (← same) (cond-true _ _ _ (bytes_again (line_bytes (root_line root))))
