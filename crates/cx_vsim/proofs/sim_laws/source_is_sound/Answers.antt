use Rattle.cx_vtree.specs.PlainSources.{plain_source}
use Rattle.cx_vsim.proofs.Widths.{rows_have_width}
use Rattle.cx_vsim.proofs.sim_laws.source_is_sound.Goals as goal

pub returns : goal.returns
returns c = record {
  sound = c.modules.ensures.sound;
  widths = rows_have_width (plain_source c.args.source.now) c.modules.ensures.sound c.externals_are_memories.ensures c.widths_are_bounded.ensures.decls;
}
