use Rattle.std.proofs.Common.{◌≡◌, refl, rules}
use Rattle.port_io.proofs.PutLemmas.{PutOn-then, PutOn-stop}
use Rattle.instance_text.proofs.Written.{instance_text-parts}
use Rattle.instance_text.proofs.write.write_instance.Goals as goal

pub returns-in_err-write_front : goal.returns-in_err-write_front
returns-in_err-write_front g c =
    rw (instance_text-parts c.args.instance.now) (PutOn-stop _ refl c.from_residual.ensures.0 c.in_err-write_front.ensures)

pub returns-in_err-write_points : goal.returns-in_err-write_points
returns-in_err-write_points g c =
    let points : c.points.result.now ≡ c.args.instance.now.points = search rules in
    let stopped = rw points at c.in_err-write_points.ensures in
    rw (instance_text-parts c.args.instance.now)
    (PutOn-then c.in_ok-write_front.ensures (PutOn-stop _ refl c.from_residual-in_err-write_points.ensures.0 stopped))

pub returns-in_err-write_polygons : goal.returns-in_err-write_polygons
returns-in_err-write_polygons g c =
    let points : c.points.result.now ≡ c.args.instance.now.points = search rules in
    let permitted : c.permitted.result.now ≡ c.args.instance.now.permitted = search rules in
    let put_points = rw points at c.in_ok-write_points.ensures in
    let stopped = rw permitted at c.in_err-write_polygons.ensures in
    rw (instance_text-parts c.args.instance.now)
    (PutOn-then c.in_ok-write_front.ensures (PutOn-then put_points (PutOn-stop _ refl c.from_residual-in_err-write_polygons.ensures.0 stopped)))

pub returns-in_err-write_polygons-2 : goal.returns-in_err-write_polygons-2
returns-in_err-write_polygons-2 g c =
    let points : c.points.result.now ≡ c.args.instance.now.points = search rules in
    let permitted : c.permitted.result.now ≡ c.args.instance.now.permitted = search rules in
    let forbidden : c.forbidden.result.now ≡ c.args.instance.now.forbidden = search rules in
    let put_points = rw points at c.in_ok-write_points.ensures in
    let put_permitted = rw permitted at c.in_ok-write_polygons.ensures in
    let stopped = rw forbidden at c.in_err-write_polygons-2.ensures in
    rw (instance_text-parts c.args.instance.now)
    (PutOn-then c.in_ok-write_front.ensures
    (PutOn-then put_points (PutOn-then put_permitted (PutOn-stop _ refl c.from_residual-in_err-write_polygons-2.ensures.0 stopped))))

pub returns : goal.returns
returns g c =
    let points : c.points.result.now ≡ c.args.instance.now.points = search rules in
    let permitted : c.permitted.result.now ≡ c.args.instance.now.permitted = search rules in
    let forbidden : c.forbidden.result.now ≡ c.args.instance.now.forbidden = search rules in
    let put_points = rw points at c.in_ok-write_points.ensures in
    let put_permitted = rw permitted at c.in_ok-write_polygons.ensures in
    let put_forbidden = rw forbidden at c.in_ok-write_polygons-2.ensures in
    rw (instance_text-parts c.args.instance.now)
    (PutOn-then c.in_ok-write_front.ensures (PutOn-then put_points (PutOn-then put_permitted (PutOn-then put_forbidden c.put.ensures))))
