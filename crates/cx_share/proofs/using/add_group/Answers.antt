use Rattle.std.proofs.Common.{◌≡◌, ◌∙◌, ◌<◌, Bool, List, ap, sym, subst, get_or, length, rules}
use Rattle.std.proofs.lemmas.List.{length-map}
use Rattle.cx_design.specs.PlainForms.{plain_cell, plain_component}
use Rattle.cx_share.proofs.UseLemmas.{group_added, group_long}
use Rattle.cx_share.proofs.using.add_group.Goals as goal

pub join-requires : goal.join-requires
join-requires c =
    let part = plain_component c.args.part.now in
    let g = c.args.group in
    let cells = c.in-Some.cells.now in
    let inside : g < length c.args.used.now = search rules in
    let there : cells ≡ get_or c.args.used.now g cells = search rules in
    let lt = subst (λ (us : List (List Bool)). g < length us) c.requires.used inside in
    let at = there ∙ ap (λ (us : List (List Bool)). get_or us g cells) c.requires.used in
    record { count = group_long part g cells lt at ∙ length-map c.args.part.now.cells.items plain_cell ∙ sym c.requires.count }

pub returns-in-Some : goal.returns-in-Some
returns-in-Some c =
    let part = plain_component c.args.part.now in
    let g = c.args.group in
    let cells = c.in-Some.cells.now in
    let inside : g < length c.args.used.now = search rules in
    let there : cells ≡ get_or c.args.used.now g cells = search rules in
    let lt = subst (λ (us : List (List Bool)). g < length us) c.requires.used inside in
    let at = there ∙ ap (λ (us : List (List Bool)). get_or us g cells) c.requires.used in
    record { value = group_added part g cells c.args.marks.now c.join.new.self lt at (c.requires.count ∙ sym (length-map c.args.part.now.cells.items plain_cell)) c.join.ensures.value }
