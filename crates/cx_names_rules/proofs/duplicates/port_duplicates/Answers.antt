use Rattle.std.proofs.Common.{[], map, ap, sym, ◌∙◌}
use Rattle.std.proofs.lemmas.List.{map-append}
use Rattle.cx_ast.specs.PlainTree.{PlainPort, plain_port}
use Rattle.cx_numbering.specs.NameRules.{Named, named, duplicates}
use Rattle.cx_names_rules.specs.Found.{first_of}
use Rattle.cx_names_rules.proofs.FoundLemmas.{sees_both, sees_none}
use Rattle.cx_names_rules.proofs.duplicates.port_duplicates.Goals as goal

pub returns : goal.returns
returns c =
    let name : PlainPort → Named = λ p. named p.name p.place in
    sees_both _ _ _ _ _ _ _ (c.in_ok-see_ports.ensures [] (sees_none c.new-seen.result c.new-seen.ensures)) c.in_ok-see_ports-2.ensures
    ∙ ap (λ xs. first_of c.args.found.now (duplicates [] xs)) (sym (map-append name (map plain_port c.args.inputs.now) (map plain_port c.args.outputs.now)))
