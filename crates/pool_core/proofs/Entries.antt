-- Equality of entries.
use Rattle.std.proofs.Common.{◌≡◌, ℕ, eqb, Bool, true, false, ◌&&◌, Decides, ℤ, refl, sym, ap, ◌∙◌}
use Rattle.std.specs.Ordering.{int_eq}
use mathlib.Core.Bool.{beq}
use Rattle.std.proofs.lemmas.Bool.Decides.{Decides-and, Decides-eqb, Decides-int_eq, Decides-like}
use Rattle.bound_heap.specs.declared.entry.Entry.{Entry}

-- the derived comparison of entries
abbrev pub same_entry : Entry → Entry → Bool
same_entry a b =
    (int_eq a.square.x b.square.x && (int_eq a.square.y b.square.y && eqb a.square.level b.square.level)) && (int_eq a.bound b.bound && beq a.raised b.raised)

bool_decides : (a b : Bool) → Decides (beq a b) (a ≡ b)
bool_decides true true = (λ e. refl, λ e. refl)
bool_decides true false = (λ e. sym e, λ e. sym e)
bool_decides false true = (λ e. e, λ e. e)
bool_decides false false = (λ e. refl, λ e. refl)

abbrev Parts : Entry → Entry → Type 0
Parts a b = ((a.square.x ≡ b.square.x) × ((a.square.y ≡ b.square.y) × (a.square.level ≡ b.square.level))) × ((a.bound ≡ b.bound) × (a.raised ≡ b.raised))

entry_of : (x y : ℤ) (level : ℕ) (bound : ℤ) (raised : Bool) → Entry
entry_of x y level bound raised = record { square = record { x = x; y = y; level = level }; bound = bound; raised = raised }

-- entries with equal parts are equal
entry_is : (a b : Entry) → Parts a b → a ≡ b
unfolding entry_of
entry_is a b h =
    ap (λ (z : ℤ). entry_of z a.square.y a.square.level a.bound a.raised) h.0.0 ∙ ap (λ (z : ℤ). entry_of b.square.x z a.square.level a.bound a.raised) h.0.1.0
    ∙ ap (λ (n : ℕ). entry_of b.square.x b.square.y n a.bound a.raised) h.0.1.1 ∙ ap (λ (z : ℤ). entry_of b.square.x b.square.y b.square.level z a.raised) h.1.0
    ∙ ap (λ (t : Bool). entry_of b.square.x b.square.y b.square.level b.bound t) h.1.1

entry_parts : (a b : Entry) → a ≡ b → Parts a b
entry_parts a b e = (
  (ap (λ (e : Entry). e.square.x) e, (ap (λ (e : Entry). e.square.y) e, ap (λ (e : Entry). e.square.level) e)),
  (ap (λ (e : Entry). e.bound) e, ap (λ (e : Entry). e.raised) e),
)

-- it tells equal entries from others
pub entry_decides : (a b : Entry) → Decides (same_entry a b) (a ≡ b)
entry_decides a b =
    Decides-like (same_entry a b) (entry_is a b) (entry_parts a b)
    (Decides-and _ _
    (Decides-and _ _ (Decides-int_eq a.square.x b.square.x) (Decides-and _ _ (Decides-int_eq a.square.y b.square.y) (Decides-eqb a.square.level b.square.level)))
    (Decides-and _ _ (Decides-int_eq a.bound b.bound) (bool_decides a.raised b.raised)))
