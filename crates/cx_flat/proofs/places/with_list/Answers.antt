use Rattle.std.proofs.Common.{◌≡◌, ◌++◌, None, map, ap, append-nil, arith, sym, ◌∙◌}
use Rattle.std.specs.List.{slice_get}
use Rattle.std.proofs.lemmas.Grind.{common_steps}
use Rattle.std.proofs.lemmas.Option.{gets}
use Rattle.cx_flat.specs.Places.{list_at, plain_instances}
use Rattle.cx_flat.specs.Placing.{placed_by, placed_list}
use Rattle.cx_flat.proofs.places.with_list.Goals as goal

pub returns-in-None : goal.returns-in-None
returns-in-None c =
    let front = plain_instances c.args.front.items in
    let none : slice_get c.args.lists.now c.args.component ≡ None = grind (arith, common_steps, gets) in
    record { value = sym (append-nil front) ∙ ap (λ list. front ++ map (map (placed_list (placed_by c.args.placing.now))) (list_at list)) (sym none) }
