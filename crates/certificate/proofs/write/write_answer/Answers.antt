use Rattle.std.proofs.Common.{◌≡◌, refl, ap}
use Rattle.port_io.proofs.PutLemmas.{PutOn-then, PutOn-stop}
use Rattle.siting_definitions.specs.Answer.{Head}
use Rattle.certificate.proofs.Written.{answer_text-parts}
use Rattle.certificate.proofs.write.write_answer.Goals as goal

pub returns-in_err-write_first_line : goal.returns-in_err-write_first_line
returns-in_err-write_first_line g c =
    let is : c.head.inside.instance ≡ c.args.head.now.instance = ap (λ (h : Head). h.instance) c.head.view_is in
    rw (answer_text-parts c.args.head.now c.args.nodes.now)
    (PutOn-stop _ refl c.from_residual.ensures.0 (rw is at c.in_err-write_first_line.ensures))

pub returns-in_err-write_instance : goal.returns-in_err-write_instance
returns-in_err-write_instance g c =
    let is : c.head.inside.instance ≡ c.args.head.now.instance = ap (λ (h : Head). h.instance) c.head.view_is in
    let first = rw is at c.in_ok-write_first_line.ensures in
    rw (answer_text-parts c.args.head.now c.args.nodes.now)
    (PutOn-then first (PutOn-stop _ refl c.from_residual-in_err-write_instance.ensures.0 (rw is at c.in_err-write_instance.ensures)))

pub returns-in_err-write_head_lines : goal.returns-in_err-write_head_lines
returns-in_err-write_head_lines g c =
    let is : c.head.inside.instance ≡ c.args.head.now.instance = ap (λ (h : Head). h.instance) c.head.view_is in
    let first = rw is at c.in_ok-write_first_line.ensures in
    let instance = rw is at c.in_ok-write_instance.ensures in
    rw (answer_text-parts c.args.head.now c.args.nodes.now)
    (PutOn-then first (PutOn-then instance (PutOn-stop _ refl c.from_residual-in_err-write_head_lines.ensures.0 c.in_err-write_head_lines.ensures)))

pub returns-in_err-write_marks : goal.returns-in_err-write_marks
returns-in_err-write_marks g c =
    let is : c.head.inside.instance ≡ c.args.head.now.instance = ap (λ (h : Head). h.instance) c.head.view_is in
    let first = rw is at c.in_ok-write_first_line.ensures in
    let instance = rw is at c.in_ok-write_instance.ensures in
    let marks = rw c.nodes.ensures at c.in_err-write_marks.ensures in
    rw (answer_text-parts c.args.head.now c.args.nodes.now)
    (PutOn-then first
    (PutOn-then instance
    (PutOn-then c.in_ok-write_head_lines.ensures (PutOn-stop _ refl c.from_residual-in_err-write_marks.ensures.0 marks))))

pub returns : goal.returns
returns g c =
    let is : c.head.inside.instance ≡ c.args.head.now.instance = ap (λ (h : Head). h.instance) c.head.view_is in
    let first = rw is at c.in_ok-write_first_line.ensures in
    let instance = rw is at c.in_ok-write_instance.ensures in
    let marks = rw c.nodes.ensures at c.in_ok-write_marks.ensures in
    rw (answer_text-parts c.args.head.now c.args.nodes.now)
    (PutOn-then first (PutOn-then instance (PutOn-then c.in_ok-write_head_lines.ensures (PutOn-then marks c.put.ensures))))
