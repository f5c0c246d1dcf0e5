use Rattle.std.proofs.Common.{◌≡◌, ◌∙◌, ◌++◌, Some, None, map, ap, sym, append-nil}
use Rattle.std.proofs.lemmas.Result.{IfOk-weaker}
use Rattle.cx_design.specs.PlainForms.{plain_cell, plain_component, plain_group, plain_invoke}
use Rattle.cx_flattening.specs.Flattened.{copies, kid_at}
use Rattle.cx_flat.specs.Callers.{kids_in, part_of}
use Rattle.cx_flat.specs.Maps.{map_by}
use Rattle.cx_flat.specs.Tables.{kids_of, plain_table}
use Rattle.cx_flat.proofs.InvokeLemmas.{copies_some, copies_none}
use Rattle.cx_flat.proofs.groups.with_copies.Goals as goal

pub returns-in_ok-moves-in-Some : goal.returns-in_ok-moves-in-Some
returns-in_ok-moves-in-Some c =
    let kids = kids_in c.args.caller in
    let part = part_of c.args.caller in
    let v = plain_invoke c.args.invoke.now in
    let child = plain_component c.in-Some.child.now in
    let its : kid_at kids v.cell ≡ Some child =
    sym (c.in-Some.ensures.value ∙ ap (λ cs. kid_at (kids_of (plain_table c.args.caller.table.now) (map plain_cell cs)) v.cell) c.deref.ensures.value) in
    record {
      value = IfOk-weaker c.with_child_copies.result _ (λ all. map plain_group all.items ≡ map plain_group c.args.front.items ++ copies kids part v)
          (λ all is. is ∙ ap (λ gs. map plain_group c.args.front.items ++ gs) (copies_some kids part v child (map_by c.in_ok-moves-in-Some.moves) its (c.in_ok-moves-in-Some.ensures.value child its)))
          c.with_child_copies.ensures.value;
    }

pub returns-in-None : goal.returns-in-None
returns-in-None c =
    let kids = kids_in c.args.caller in
    let v = plain_invoke c.args.invoke.now in
    let none : kid_at kids v.cell ≡ None =
    sym (c.in-None.ensures.value ∙ ap (λ cs. kid_at (kids_of (plain_table c.args.caller.table.now) (map plain_cell cs)) v.cell) c.deref.ensures.value) in
    record { value = sym (append-nil (map plain_group c.args.front.items)) ∙ ap (λ gs. map plain_group c.args.front.items ++ gs) (copies_none kids (part_of c.args.caller) v none) }
