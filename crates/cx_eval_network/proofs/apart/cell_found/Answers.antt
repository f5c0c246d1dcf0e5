use Rattle.std.proofs.Common.{sym, ap, ◌∙◌}
use Rattle.cx_prim.specs.Table.{row_of}
use Rattle.cx_meaning.specs.Instances.{Nothing, cell_at, cells_of}
use Rattle.cx_rules.specs.Ports.{component_of}
use Rattle.cx_eval_network.specs.Askings.{asked_of}
use Rattle.cx_eval_network.proofs.ApartLemmas.{of_primitive}
use Rattle.cx_eval_network.proofs.OwnLemmas.{cell_seen}
use Rattle.cx_eval_network.proofs.apart.cell_found.Goals as goal

pub part_found-requires : goal.part_found-requires
part_found-requires c =
    let a = asked_of c.args.asking.now in
    let f = c.requires.found in
    let stands = c.in-Part.ensures.value in
    record {
      can = c.requires.can;
      found = f;
      port = c.requires.port;
      part = (stands.0, ap (λ k. cell_at (cells_of (component_of a.design k)) c.args.cell) (sym f.component) ∙ stands.1, stands.2);
      apart = c.requires.apart;
      right = c.requires.right;
    }

pub returns-in-Nothing : goal.returns-in-Nothing
returns-in-Nothing c =
    let a = asked_of c.args.asking.now in
    let f = c.requires.found in
    record {
      found = cell_seen c.args.asking.now c.requires.can.can c.args.found f c.args.cell c.args.port Nothing c.requires.port (ap (λ k. cell_at (cells_of (component_of a.design k)) c.args.cell) (sym f.component) ∙ c.in-Nothing.ensures.value);
    }

pub unreachable-requires : goal.unreachable-requires
unreachable-requires c =
    let a = asked_of c.args.asking.now in
    let f = c.requires.found in
    of_primitive c.args.asking.now c.requires.can.can c.args.found f c.args.cell c.args.port (row_of c.in-Primitive.field-0.now) c.requires.port c.requires.apart
    (ap (λ k. cell_at (cells_of (component_of a.design k)) c.args.cell) (sym f.component) ∙ c.in-Primitive.ensures.value)
