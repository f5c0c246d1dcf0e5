use Rattle.std.proofs.Common.{sym, ap, ◌∙◌}
use Rattle.cx_meaning.specs.Sights as sights
use Rattle.cx_meaning.specs.Instances.{OfInstance, part_of}
use Rattle.cx_laws.proofs.TreeLemmas.{output_there}
use Rattle.cx_eval_network.proofs.ApartLemmas.{done_seen, driven_part, output_looked}
use Rattle.cx_eval_network.proofs.OwnLemmas.{own_cell}
use Rattle.cx_eval_network.proofs.apart.part_found.Goals as goal

pub unreachable-requires : goal.unreachable-requires
unreachable-requires c =
    driven_part c.args.asking.now c.requires.can.can c.args.found c.requires.found c.args.cell c.args.port _ c.requires.port c.requires.part c.requires.apart c.part_port.result c.part_port.ensures.value c.in-Go.is

pub child_found-requires : goal.child_found-requires
child_found-requires c =
    let asking = c.args.asking.now in
    let f = c.requires.found in
    let stands = c.requires.part in
    record {
      can = c.requires.can;
      from = f.from;
      within = f.within;
      output = (stands.0, own_cell asking c.requires.can.can c.args.found f c.args.cell (OfInstance stands.0) stands.1, output_there (part_of stands.0) c.args.port c.in-Output.output (ap (λ x. sights.part_port x c.args.port) stands.2 ∙ sym c.in-Output.ensures.value));
      right = c.requires.right;
    }

pub returns-in-Output : goal.returns-in-Output
returns-in-Output c = record {
  found = output_looked c.args.asking.now c.requires.can.can c.args.found c.requires.found c.args.cell c.args.port _ c.requires.port c.requires.part c.in-Output.output c.in-Output.ensures.value c.args.marks.now c.child_found.result
      c.child_found.ensures.found;
}

pub returns-in-Done : goal.returns-in-Done
returns-in-Done c = record {
  found =
      c.bit_seen.ensures.value ∙ ap sights.bit_of c.is_done.ensures.value
      ∙ done_seen c.args.asking.now c.requires.can.can c.args.found c.requires.found c.args.cell c.args.port _ c.requires.port c.requires.part c.in-Done.ensures.value;
}
