use Rattle.std.proofs.Common.{Some, option_map, map, sym, ap, ◌∙◌, arith}
use Rattle.std.proofs.lemmas.List.{length-map}
use Rattle.std.proofs.lemmas.Option.{slice_get-get_or, slice_get-map}
use Rattle.cx_ast.specs.PlainTree.{plain_component}
use Rattle.cx_names_scopes.proofs.NameLemmas.{as_many, index_at}
use Rattle.cx_names_scopes.proofs.scopes.Scope.new.Goals as goal

pub index-requires-2 : goal.index-requires-2
index-requires-2 c =
    let items = c.args.tree.now.components.items in
    omega (arith, c.args.index.now.parts.ok, as_many (map plain_component items) c.args.index.now.parts.items c.requires.index.parts, length-map items plain_component)

pub returns-clause-sound : goal.returns-clause-sound
returns-clause-sound c = record {
  index = c.requires.index;
  own = index_at c.args.tree.now.components.items c.args.index.now.parts.items c.args.number c.index.result.now c.index-2.result.now c.requires.index.parts c.requires.within c.index.ensures c.index-2.ensures;
}

pub returns-clause-part : goal.returns-clause-part
returns-clause-part c =
    let items = c.args.tree.now.components.items in
    slice_get-map plain_component items c.args.number
    ∙ ap (λ o. option_map plain_component o) (slice_get-get_or items c.args.number c.index.result.now c.requires.within)
    ∙ ap (λ x. Some (plain_component x)) (sym c.index.ensures)
