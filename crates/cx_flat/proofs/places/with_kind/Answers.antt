use Rattle.std.proofs.Common.{◌≡◌, ◌∙◌, ◌++◌, map, ap, sym}
use Rattle.std.proofs.lemmas.Result.{IfOk-weaker}
use Rattle.cx_design.specs.PlainForms.{plain_kind}
use Rattle.cx_flat.specs.Callers.{kids_in, part_of}
use Rattle.cx_flat.specs.Places.{kind_places, listed, plain_instances}
use Rattle.cx_flat.specs.Placing.{placed_list}
use Rattle.cx_flat.proofs.places.with_kind.Goals as goal

pub returns-in_ok-placing-in-Part : goal.returns-in_ok-placing-in-Part
returns-in_ok-placing-in-Part c =
    let front = plain_instances c.args.front.items in
    let kids = kids_in c.args.caller in
    let part = part_of c.args.caller in
    let lists = listed c.args.lists.now in
    record {
      value = IfOk-weaker c.with_list.result _ (λ all. plain_instances all.items ≡ front ++ kind_places kids part lists c.args.cell (plain_kind c.args.kind.now))
          (λ all is.
          is ∙ ap (λ place. front ++ map (map (placed_list place)) (lists c.in-Part.component)) c.in_ok-placing-in-Part.ensures.value
          ∙ ap (λ kind. front ++ kind_places kids part lists c.args.cell (plain_kind kind)) (sym c.in-Part.is))
          c.with_list.ensures.value;
    }
