use Rattle.std.proofs.Common.{◌++◌, map, option_map, ap}
use Rattle.cx_vtree.specs.PlainParts.{plain_assign, plain_edge, plain_module}
use Rattle.cx_vnets.specs.ModuleCodes.{IsCode}
use Rattle.cx_vnets.specs.Numberings.{nets_by, arrays_by}
use Rattle.cx_velab.specs.Coded.{values_of, edge_exprs, module_exprs}
use Rattle.cx_velab.proofs.AddedLemmas.{adds_both, adds_as}
use Rattle.cx_velab.proofs.coding.push_module.Goals as goal

pub returns : goal.returns
returns c =
    adds_as (IsCode (nets_by c.args.numbers.now) (arrays_by c.args.numbers.now)) c.args.codes.now.items c.push_edge.new.codes.items
    (values_of (map plain_assign c.deref.result.now) ++ edge_exprs (option_map plain_edge c.args.part.now.edge)) (module_exprs (plain_module c.args.part.now))
    (ap (λ l. values_of (map plain_assign l) ++ edge_exprs (option_map plain_edge c.args.part.now.edge)) c.deref.ensures.value)
    (adds_both (IsCode (nets_by c.args.numbers.now) (arrays_by c.args.numbers.now)) c.args.codes.now.items c.push_assigns.new.codes.items c.push_edge.new.codes.items
    (values_of (map plain_assign c.deref.result.now)) (edge_exprs (option_map plain_edge c.args.part.now.edge)) c.in_ok-push_assigns.ensures c.in_ok-push_edge.ensures)
