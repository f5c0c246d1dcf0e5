use Rattle.std.proofs.Common.{◌≡◌, ◌∙◌, ◌++◌, Some, None, map, ap, append-nil, arith, sym}
use Rattle.std.specs.List.{slice_get}
use Rattle.std.proofs.lemmas.Grind.{common_steps}
use Rattle.std.proofs.lemmas.Option.{gets}
use Rattle.std.proofs.lemmas.Result.{IfOk-weaker}
use Rattle.cx_meaning.specs.declared.ports.PortRef.TheVariants as ports
use Rattle.cx_rewrites.specs.Moving.{moved_assign}
use Rattle.cx_design.specs.PlainForms.{plain_assigns, plain_component}
use Rattle.cx_flattening.specs.Flattened.{always_if, kid_at}
use Rattle.cx_flat.specs.declared.stands.Stand.TheVariants.{Inlined}
use Rattle.cx_flat.specs.Callers.{kids_in, part_of}
use Rattle.cx_flat.specs.Stands.{block_by}
use Rattle.cx_flat.specs.Tables.{plain_table}
use Rattle.cx_flat.proofs.KidLemmas.{kid_of_cell}
use Rattle.cx_flat.proofs.InvokeLemmas.{inner_map}
use Rattle.cx_flat.proofs.components.with_cell_always.Goals as goal

pub returns-in-Some-Some-Inlined : goal.returns-in-Some-Some-Inlined
returns-in-Some-Some-Inlined c =
    let kids = kids_in c.args.caller in
    let part = part_of c.args.caller in
    let n = c.args.number in
    let front = plain_assigns c.args.front.items in
    let child = plain_component c.in-Some-Some-Inlined.child.now in
    let block = c.in-Some-Some-Inlined.block in
    let at : slice_get c.args.caller.part.now.cells.items n ≡ Some c.index-cell.result.now = grind (arith, common_steps, gets) in
    let its : kid_at kids n ≡ Some child =
    kid_of_cell (plain_table c.args.caller.table.now) c.args.caller.part.now.cells.items n c.index-cell.result.now at ∙ sym c.in-Some-Some-Inlined.ensures.value in
    let stands : slice_get c.args.caller.stands.now n ≡ Some (Inlined block) = grind (arith, common_steps, gets) in
    record {
      value = IfOk-weaker c.with_moved_assigns.result _ (λ all. plain_assigns all.items ≡ front ++ always_if kids part (kid_at kids n) n)
          (λ all is.
          is ∙ ap (λ assigns. front ++ map (moved_assign (block_by block (λ m. ports.Input m))) (plain_assigns assigns)) c.deref.ensures.value
          ∙ ap (λ move. front ++ map (moved_assign move) child.always) (inner_map kids part c.args.caller.stands.now c.requires.caller n child block stands its)
          ∙ ap (λ k. front ++ always_if kids part k n) (sym its))
          c.with_moved_assigns.ensures.value;
    }

pub returns-in-None-default : goal.returns-in-None-default
returns-in-None-default c =
    let kids = kids_in c.args.caller in
    let n = c.args.number in
    let front = plain_assigns c.args.front.items in
    let at : slice_get c.args.caller.part.now.cells.items n ≡ Some c.index-cell.result.now = grind (arith, common_steps, gets) in
    let none : kid_at kids n ≡ None =
    kid_of_cell (plain_table c.args.caller.table.now) c.args.caller.part.now.cells.items n c.index-cell.result.now at ∙ sym c.in-None-default.ensures.value in
    record { value = sym (append-nil front) ∙ ap (λ k. front ++ always_if kids (part_of c.args.caller) k n) (sym none) }
