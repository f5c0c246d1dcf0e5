use Rattle.cx_design.specs.PlainDesigns.{plain_design}
use Rattle.cx_state.specs.States.{words_in, plain_state}
use Rattle.cx_state.proofs.Takes.{design_takes}
use Rattle.cx_state.proofs.StartsStand.{starts_stand, starts_fit, starts_unheld}
use Rattle.cx_state.proofs.starts.start_state.Goals as goal

pub start_instances-requires-clause-takes : goal.start_instances-requires-clause-takes
start_instances-requires-clause-takes c = design_takes (plain_design c.args.design.now) c.args.design.now.keeps c.args.memories.now c.requires.fits

pub returns : goal.returns
returns c = record {
  fits = starts_fit (plain_design c.args.design.now) c.args.table.now.rows.items c.args.table.now.children.items (words_in c.args.memories.now) (plain_state c.in_ok-state.state) c.requires.table c.in_ok-state.ensures;
  value = starts_stand (plain_design c.args.design.now) c.args.table.now.rows.items c.args.table.now.children.items (words_in c.args.memories.now) (plain_state c.in_ok-state.state) c.requires.table c.in_ok-state.ensures;
  held = starts_unheld (plain_design c.args.design.now) c.args.table.now.rows.items c.args.table.now.children.items (words_in c.args.memories.now) (plain_state c.in_ok-state.state) c.requires.table c.in_ok-state.ensures;
}
