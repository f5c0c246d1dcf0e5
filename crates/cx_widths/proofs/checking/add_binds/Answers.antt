use Rattle.std.proofs.Common.{rules, ◌+◌, ◌∷◌, ◌∙◌, ap, drop, map}
use Rattle.std.proofs.lemmas.List.{drop_more}
use Rattle.cx_design.specs.PlainDesigns.{plain_design}
use Rattle.cx_design_parts.specs.Breaks.{first_of}
use Rattle.cx_design_parts.specs.Numbered.{numbered}
use Rattle.cx_design_parts.proofs.Lists.{next_number}
use Rattle.cx_widths.specs.Binds.{plain_bind}
use Rattle.cx_widths.specs.WidthBreaks.{bind_breaks_at}
use Rattle.cx_widths.proofs.checking.add_binds.Goals as goal

pub loop-place-preserved : goal.loop-place-preserved
loop-place-preserved c =
    let f = bind_breaks_at (plain_design c.args.design.now) c.args.number in
    let items = c.in_ok-list.list.items in
    next_number plain_bind f c.loop-place.place items c.index.result.now c.loop-place.first c.add_assign.new.first (first_of c.args.first.now (numbered f 0 (map plain_bind items)))
    (drop_more items c.loop-place.place c.index.result.now (search rules) ∙ ap (λ x. x ∷ drop (c.loop-place.place + 1) items) (search rules)) c.in_ok-add_assign.ensures.value c.loop-place.invariant
