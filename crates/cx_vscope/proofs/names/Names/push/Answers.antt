use Rattle.std.proofs.Common.{◌≡◌, [], ◌∷◌, ◌++◌, map, ap, sym, ◌∙◌}
use Rattle.std.proofs.lemmas.List.{map_push}
use Rattle.cx_vtree.specs.Sound.{has_name}
use Rattle.cx_vscope.proofs.Maps.{has_push}
use Rattle.cx_vscope.proofs.names.Names.push.Goals as goal

pub invariant_of-self-2 : goal.invariant_of-self-2
invariant_of-self-2 c =
    let e : map (λ n. n.now) c.push_reserved.new.self.items ≡ map (λ n. n.now) c.self.inside.list.items ++ c.args.name.now ∷ [] =
    ap (map (λ n. n.now)) (c.push_reserved.ensures.items ∙ ap (λ xs. xs ++ c.args.name ∷ []) c.in_ok-reserve.ensures.items)
    ∙ map_push (λ n. n.now) c.self.inside.list.items c.args.name in
    λ q. has_push c.self.inside.found c.insert.new.self c.args.name (map (λ n. n.now) c.self.inside.list.items) c.self.invariant c.in_ok-insert.ensures.updates q ∙ ap (λ xs. has_name xs q) (sym e)
