use Rattle.std.proofs.Common.{◌≡◌, ◌∙◌, ◌++◌, map, ap}
use Rattle.std.proofs.lemmas.Result.{IfOk-weaker}
use Rattle.cx_rewrites.specs.Moving.{moved_assign}
use Rattle.cx_design.specs.PlainForms.{plain_assigns}
use Rattle.cx_flattening.specs.Flattened.{always_from, own_port}
use Rattle.cx_flat.specs.Callers.{kids_in, part_of}
use Rattle.cx_flat.specs.Stands.{own_by}
use Rattle.cx_flat.proofs.InvokeLemmas.{own_map}
use Rattle.cx_flat.proofs.components.always_again.Goals as goal

pub returns : goal.returns
returns c =
    let kids = kids_in c.args.caller in
    let part = part_of c.args.caller in
    let own : plain_assigns c.in_ok-all.all.items ≡ map (moved_assign (own_port kids part)) part.always =
    c.in_ok-all.ensures.value ∙ ap (λ xs. plain_assigns xs ++ map (moved_assign (own_by c.args.caller.stands.now)) (plain_assigns c.deref.result.now)) c.new.ensures.items
    ∙ ap (λ xs. map (moved_assign (own_by c.args.caller.stands.now)) (plain_assigns xs)) c.deref.ensures.value
    ∙ ap (λ move. map (moved_assign move) part.always) (own_map kids part c.args.caller.stands.now c.requires.caller) in
    record {
      value = IfOk-weaker c.with_inner_always.result _ (λ all. plain_assigns all.items ≡ map (moved_assign (own_port kids part)) part.always ++ always_from kids part 0 kids)
          (λ all is. is ∙ ap (λ l. l ++ always_from kids part 0 kids) own)
          c.with_inner_always.ensures.value;
    }
