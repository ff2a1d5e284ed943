-- The states after some draws, and what is drawn.
use Rattle.std.proofs.Common.{◌≡◌, ℕ, zero, suc, ◌+◌, ◌*◌, ◌/◌, ◌%◌, ◌≤◌, List, [], ◌∷◌, ◌++◌, map, ℤ, unsigned_abs, pos, None, refl, sym, ap, ◌∙◌, arith}
use Rattle.std.specs.List.{range_with_len}
use Rattle.std.proofs.lemmas.List.FromFn.{map-range_with_len_more}
use Rattle.std.proofs.lemmas.List.Sums.{sum_by-cons}
use Rattle.siting_definitions.specs.Instance.{DemandPt, weight}
use Rattle.case_maker.specs.Made.{state, draw, point_of_draws, made_point}

abbrev step : ℕ → ℕ
step s = (1103515245 * s + 12345) % 2147483648

-- the state after one draw
pub state_one : (s : ℕ) → state s 1 ≡ (1103515245 * s + 12345) % 2147483648
unfolding state
state_one s = refl

-- and after none
pub state_none : (s : ℕ) → state s 0 ≡ s
unfolding state
state_none s = refl

pub state_after : (s m n : ℕ) → state (state s m) n ≡ state s (m + n)
unfolding state
state_after s m zero = ap (state s) (omega arith)
state_after s m (suc n) = let e : suc (m + n) ≡ m + suc n = omega arith in ap step (state_after s m n) ∙ ap (state s) e

-- one draw more
pub state_more : (s t u n k : ℕ) → t ≡ state s n → u ≡ state t 1 → n + 1 ≡ k → u ≡ state s k
state_more s t u n k before next at = next ∙ ap (λ v. state v 1) before ∙ state_after s n 1 ∙ ap (state s) at

-- a draw after others
pub draw_after : (s t n m k : ℕ) → t ≡ state s n → n + m ≡ k → draw t m ≡ draw s k
draw_after s t n m k before at = ap (λ v. state v m / 65536) before ∙ ap (λ v. v / 65536) (state_after s n m ∙ ap (state s) at)

-- a point more
pub point_at : (seed k s : ℕ) (p : DemandPt) → s ≡ state seed (3 * k) → p ≡ point_of_draws (draw s 1) (draw s 2) (draw s 3) → p ≡ made_point seed k
point_at seed k s p before here =
    here
    ∙ ap (λ a. point_of_draws a (draw s 2) (draw s 3)) (draw_after seed s (3 * k) 1 (3 * k + 1) before refl)
    ∙ ap (λ b. point_of_draws (draw seed (3 * k + 1)) b (draw s 3)) (draw_after seed s (3 * k) 2 (3 * k + 2) before refl)
    ∙ ap (λ c. point_of_draws (draw seed (3 * k + 1)) (draw seed (3 * k + 2)) c) (draw_after seed s (3 * k) 3 (3 * k + 3) before refl)

-- one point more
pub points_more : (seed k s : ℕ) (ps qs : List DemandPt) (p : DemandPt) → s ≡ state seed (3 * k) → ps ≡ map (made_point seed) (range_with_len 0 k) → p ≡ point_of_draws (draw s 1) (draw s 2) (draw s 3) → qs ≡ ps ++ p ∷ [] → qs ≡ map (made_point seed) (range_with_len 0 (k + 1))
points_more seed k s ps qs p before points here pushed =
    pushed
    ∙ ap (λ ds. ds ++ p ∷ []) points
    ∙ ap (λ d. map (made_point seed) (range_with_len 0 k) ++ d ∷ []) (point_at seed k s p before here)
    ∙ sym (map-range_with_len_more (made_point seed) 0 k k (omega arith))

-- three draws more
pub state_of_next : (seed k s t : ℕ) → s ≡ state seed (3 * k) → t ≡ state s 3 → t ≡ state seed (3 * (k + 1))
state_of_next seed k s t before next = next ∙ ap (λ v. state v 3) before ∙ state_after seed (3 * k) 3 ∙ ap (state seed) (omega arith)

abbrev weight_of : DemandPt → ℕ
weight_of d = unsigned_abs d.w

-- each weight is at most 1000
weight-drawn : (seed a n : ℕ) → weight (map (made_point seed) (range_with_len a n)) ≤ 1000 * n
unfolding weight
weight-drawn seed a zero = omega arith
weight-drawn seed a (suc n) =
    let e = sum_by-cons weight_of (made_point seed a) (map (made_point seed) (range_with_len (a + 1) n)) in
    omega (arith, e, weight-drawn seed (a + 1) n)

-- so that the weights of a made instance are within the limit
pub weight-made : (seed n : ℕ) (ps : List DemandPt) → ps ≡ map (made_point seed) (range_with_len 0 n) → n ≤ 4096 → weight ps ≤ 16000000
weight-made seed n ps same few =
    let drawn = weight-drawn seed 0 n in
    let e = ap weight same in
    omega arith

-- the point of three draws, as the code makes it
pub point_is : (p : DemandPt) (x y w : ℤ) (a b c : ℕ) → p ≡ record { x = x; y = y; w = w; cutoff = None } → x ≡ pos (3 * a) → y ≡ pos (3 * b) → w ≡ pos (1 + c % 1000) → p ≡ point_of_draws a b c
point_is p x y w a b c is x_is y_is w_is = cc
