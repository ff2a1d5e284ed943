-- The tally of two lists of marks.
use Rattle.std.proofs.Common.{◌≡◌, ◌<◌, ◌^◌, refl, sym, List, [], ◌∷◌, ◌++◌, length, length-append, arith}
use Rattle.std.proofs.lemmas.List.Sums.{count_by-le-length}
use Rattle.siting_definitions.specs.declared.Mark.{Mark}
use Rattle.siting_definitions.specs.Marks.{tally_of, lesser, bound_of, least_of, is_split, is_leaf, is_open, is_floor}
use Rattle.siting_definitions.proofs.Totals.{count_by-append}
use Rattle.siting_definitions.proofs.MarkLemmas.{lesser-assoc}
use Rattle.answer_model.specs.Tally.{AreSmall, tally_sum}

least-append : (xs ys : List Mark) → least_of (xs ++ ys) ≡ lesser (least_of xs) (least_of ys)
least-append [] ys = refl
least-append (x ∷ xs) ys = rw (least-append xs ys) (sym (lesser-assoc (bound_of x) (least_of xs) (least_of ys)))

-- a tally of two lists is the sum of theirs
pub tally_of-append : (xs ys : List Mark) → tally_of (xs ++ ys) ≡ tally_sum (tally_of xs) (tally_of ys)
unfolding tally_of
tally_of-append xs ys =
    rw (length-append xs ys, count_by-append is_split xs ys, count_by-append is_leaf xs ys, count_by-append is_open xs ys, count_by-append is_floor xs ys, least-append xs ys) refl

-- fewer than 2 ^ 40 marks have small counts
pub tally_of-small : (ms : List Mark) → length ms < 2 ^ 40 → AreSmall (tally_of ms)
unfolding tally_of
tally_of-small ms few =
    record {
      nodes = few;
      splits = omega (arith, count_by-le-length is_split ms);
      leaves = omega (arith, count_by-le-length is_leaf ms);
      open_leaves = omega (arith, count_by-le-length is_open ms);
      floor_leaves = omega (arith, count_by-le-length is_floor ms);
    }
