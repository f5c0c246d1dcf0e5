use Rattle.std.proofs.Common.{◌≡◌, ◌∙◌, map, ap}
use Rattle.std.proofs.lemmas.Result.{IfOk-weaker}
use Rattle.cx_rewrites.specs.Moving.{moved_group}
use Rattle.cx_design.specs.PlainForms.{plain_group}
use Rattle.cx_flattening.specs.Flattened.{own_port}
use Rattle.cx_flat.specs.Callers.{kids_in, part_of}
use Rattle.cx_flat.specs.Stands.{own_by}
use Rattle.cx_flat.proofs.InvokeLemmas.{own_map}
use Rattle.cx_flat.proofs.groups.own_groups.Goals as goal

pub returns : goal.returns
returns c =
    let kids = kids_in c.args.caller in
    let part = part_of c.args.caller in
    record {
      value = IfOk-weaker c.moved_groups.result _ (λ all. map plain_group all.items ≡ map (moved_group (own_port kids part)) part.groups)
          (λ all is. is ∙ ap (λ gs. map (moved_group (own_by c.args.caller.stands.now)) (map plain_group gs)) c.deref.ensures.value ∙ ap (λ move. map (moved_group move) part.groups) (own_map kids part c.args.caller.stands.now c.requires.caller))
          c.moved_groups.ensures.value;
    }
