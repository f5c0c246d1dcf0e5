use Rattle.std.proofs.Common.{◌∙◌, sym, ap, subst, arith, map, length, ◌<◌}
use Rattle.std.proofs.lemmas.List.{length-map}
use Rattle.cx_meaning.specs.Designs.{Placed}
use Rattle.cx_design.specs.PlainForms.{plain_statement}
use Rattle.cx_names.specs.Sites.{tree_at, part_at}
use Rattle.cx_names.proofs.ControlLemmas.{of_many}
use Rattle.cx_names.proofs.control.joined.Goals as goal

pub returns-then-len-gt1 : goal.returns-then-len-gt1
returns-then-len-gt1 c =
    let several : 1 < length c.args.parts.items = omega (arith, c.args.parts.ok, c.len.ensures, c.if-len-gt1.true) in
    c.at.ensures
    ∙ ap (λ f. Placed f c.args.place) c.in_order.ensures
    ∙ sym (of_many (tree_at c.args.site.now) (part_at c.args.site.now) c.args.is_static c.args.place (map plain_statement c.args.parts.items) (subst (λ n. 1 < n) (sym (length-map c.args.parts.items plain_statement)) several))
