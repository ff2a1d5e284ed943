use Rattle.std.proofs.Common.{rules, ◌≡◌, true, ap, sym, subst, ◌∙◌}
use Rattle.text_lines.specs.Lines.{fields_of}
use Rattle.instance_text.specs.Rows.{polygon_of, are_places, places_of, polygon_row}
use Rattle.instance_text.specs.Outcome.{Says}
use Rattle.instance_text.proofs.Places.{row-places}
use Rattle.instance_text.proofs.polygons.read_polygon.Goals as goal

pub returns-in-Some : goal.returns-in-Some
returns-in-Some c =
    let found : (are_places (fields_of c.args.fields.now) ≡ true) × (c.in-Some.vertices.items ≡ places_of (fields_of c.args.fields.now)) = search rules in
    let row : polygon_row (fields_of c.args.fields.now) ≡ polygon_of c.as_slice.result.now =
    row-places (fields_of c.args.fields.now) found.0 ∙ ap polygon_of (sym (c.as_slice.ensures.value ∙ found.1)) in
    subst (λ r. Says c.polygon_of.result r) (sym row) c.polygon_of.ensures
