use Rattle.std.proofs.Common.{◌≡◌, ℕ, ◌+◌, ◌*◌, ◌<◌, ◌≤◌, ℤ, ◌+ℤ◌, unsigned_abs, w64, to_z, of_z, ap, ◌∙◌, arith}
use Rattle.std.proofs.lemmas.Int.{ints}
use Rattle.convex_region.proofs.Edges.{cross_of, edge_read, area_more, area_all}
use Rattle.convex_region.proofs.build.doubled_area.Goals as goal

-- a sum of at most 64 small numbers, as the code makes it
added : (area k : ℤ) (i : ℕ) → i < 64 → unsigned_abs area ≤ 2000000000000 * i → unsigned_abs k ≤ 2000000000000 → to_z w64 (of_z w64 (area +ℤ to_z w64 (of_z w64 k))) ≡ area +ℤ k
added area k i few size small = omega (arith, ints)

added_size : (area k : ℤ) (i : ℕ) → unsigned_abs area ≤ 2000000000000 * i → unsigned_abs k ≤ 2000000000000 → unsigned_abs (area +ℤ k) ≤ 2000000000000 * (i + 1)
added_size area k i size small = omega (arith, ints)

pub loop-i-preserved : goal.loop-i-preserved
loop-i-preserved c =
    let few : c.loop-i.i < 64 = omega arith in
    let ends = edge_read c.args.vertices.now c.loop-i.i c.next_of.result c.index-vertices-i.result c.index-vertices-next_of.result c.loop-i-test.true c.index-vertices-i.is c.next_of.ensures.value c.index-vertices-next_of.is in
    rw (added _ c.cross-area.result c.loop-i.i few c.loop-i.invariant.1 c.cross-area.ensures.size) (
      area_more c.args.vertices.now c.loop-i.i _ c.cross-area.result c.loop-i-test.true c.loop-i.invariant.0 (c.cross-area.ensures.value ∙ ap cross_of ends),
      added_size _ c.cross-area.result c.loop-i.i c.loop-i.invariant.1 c.cross-area.ensures.size,
    )

pub returns : goal.returns
returns c = area_all c.args.vertices.now c.loop-i.i _ c.loop-i-test.false c.loop-i.invariant.0
