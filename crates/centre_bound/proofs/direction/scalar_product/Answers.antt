use Rattle.std.proofs.Common.{FitsSigned, rules}
use mir.Syntax.{w64}
use Rattle.std.proofs.lemmas.Int.{to_z-of_z}
use Rattle.centre_bound.proofs.Computed.{short_x, short_y, product_fits, products_fit, products_is}
use Rattle.centre_bound.proofs.direction.scalar_product.Goals as goal

pub overflow_mul-result : goal.overflow_mul-result
overflow_mul-result c =
    let u : FitsSigned w64 c.args.direction.x = search rules in
    let x : FitsSigned w64 c.args.way.x = search rules in
    rw (to_z-of_z w64 c.args.direction.x u, to_z-of_z w64 c.args.way.x x)
    (product_fits c.args.direction.x c.args.way.x (short_x c.args.direction.x c.args.direction.y c.requires.short) c.requires.x)

pub overflow_mul-result-2 : goal.overflow_mul-result-2
overflow_mul-result-2 c =
    let v : FitsSigned w64 c.args.direction.y = search rules in
    let y : FitsSigned w64 c.args.way.y = search rules in
    rw (to_z-of_z w64 c.args.direction.y v, to_z-of_z w64 c.args.way.y y)
    (product_fits c.args.direction.y c.args.way.y (short_y c.args.direction.x c.args.direction.y c.requires.short) c.requires.y)

pub overflow_add-result : goal.overflow_add-result
overflow_add-result c =
    products_fit c.args.direction.x c.args.direction.y c.args.way.x c.args.way.y c.requires.short c.requires.x c.requires.y (search rules) (search rules) (search rules) (search rules)

pub returns : goal.returns
returns c =
    products_is c.args.direction.x c.args.direction.y c.args.way.x c.args.way.y c.requires.short c.requires.x c.requires.y (search rules) (search rules) (search rules) (search rules)
