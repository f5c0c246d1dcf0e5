use Rattle.std.proofs.Common.{◌≡◌, ◌∙◌, Some, None, map, ap, arith, sym}
use Rattle.std.specs.List.{slice_get}
use Rattle.std.proofs.lemmas.Grind.{common_steps}
use Rattle.std.proofs.lemmas.Option.{gets}
use Rattle.cx_design.specs.PlainForms.{plain_cell, plain_component}
use Rattle.cx_flattening.specs.Flattened.{kid_at}
use Rattle.cx_flat.specs.declared.stands.Stand.TheVariants.{Inlined, Kept}
use Rattle.cx_flat.specs.Callers.{kids_in, part_of}
use Rattle.cx_flat.specs.Tables.{kids_of, plain_table}
use Rattle.cx_flat.proofs.PlacingLemmas.{inlined_placed, kept_placed}
use Rattle.cx_flat.proofs.placing.placing_at.Goals as goal

pub returns-in_ok-inlined-in-Some-Some-Inlined : goal.returns-in_ok-inlined-in-Some-Some-Inlined
returns-in_ok-inlined-in-Some-Some-Inlined c =
    let kids = kids_in c.args.caller in
    let n = c.args.cell in
    let child = plain_component c.in-Some-Some-Inlined.child.now in
    let block = c.in-Some-Some-Inlined.block in
    let its : kid_at kids n ≡ Some child =
    sym (c.in-Some-Some-Inlined.ensures.value ∙ ap (λ cs. kid_at (kids_of (plain_table c.args.caller.table.now) (map plain_cell cs)) n) c.deref.ensures.value) in
    let at : slice_get c.args.caller.stands.now n ≡ Some (Inlined block) = grind (arith, common_steps, gets) in
    let inlined = c.in_ok-inlined-in-Some-Some-Inlined in
    record { value = inlined_placed kids (part_of c.args.caller) c.args.caller.stands.now c.requires.caller n child block inlined.inlined at its inlined.ensures.cells inlined.ensures.firsts inlined.ensures.used inlined.ensures.enabled }

pub returns-in-None-Some-Kept : goal.returns-in-None-Some-Kept
returns-in-None-Some-Kept c =
    let kids = kids_in c.args.caller in
    let n = c.args.cell in
    let number = c.in-None-Some-Kept.number in
    let none : kid_at kids n ≡ None =
    sym (c.in-None-Some-Kept.ensures.value ∙ ap (λ cs. kid_at (kids_of (plain_table c.args.caller.table.now) (map plain_cell cs)) n) c.deref.ensures.value) in
    let at : slice_get c.args.caller.stands.now n ≡ Some (Kept number) = grind (arith, common_steps, gets) in
    record { value = kept_placed kids (part_of c.args.caller) c.args.caller.stands.now c.requires.caller n number at none }
