use Rattle.cx_flattening.proofs.FlatComponents.{flat_component}
use Rattle.cx_flattening.proofs.FlatStages.{keeps_circles}
use Rattle.cx_flattening.proofs.FlatWidths.{keeps_stage_three}
use Rattle.cx_flattening.proofs.FlatRanges.{keeps_guards, keeps_always}
use Rattle.cx_flattening.proofs.FlatKinds.{keeps_dones, keeps_combs}
use Rattle.cx_flattening.proofs.FlatShapes.{keeps_shapes}
use Rattle.cx_flattening.proofs.FlatStands.{keeps_stands}
use Rattle.cx_flattening.proofs.FlatLasts.{keeps_lengths}
use Rattle.std.proofs.Common.{⊎_elim}
use Rattle.cx_flattening.specs.FlatDesign.{flat_design}
use Rattle.cx_flattening.proofs.FlatRows.{flat_design_flat}
use Rattle.cx_flattening.proofs.FlatAbsent.{no_static_cell, no_bad_invoke, no_invoke_length, no_part_length, no_kept}
use Rattle.cx_flattening.proofs.laws.flat_designs_keep_rules.Goals as goal

pub returns-clause-components : goal.returns-clause-components
returns-clause-components c d k design reached = flat_component d design k reached

pub returns-clause-widths : goal.returns-clause-widths
returns-clause-widths c d design accepted undone = keeps_stage_three d design accepted undone

pub returns-clause-circles : goal.returns-clause-circles
returns-clause-circles c d design accepted undone = keeps_circles d design accepted undone

pub returns-clause-guards : goal.returns-clause-guards
returns-clause-guards c d at place name design accepted breaks = keeps_guards d design accepted at place name breaks

pub returns-clause-always : goal.returns-clause-always
returns-clause-always c d at place name design accepted undone breaks = keeps_always d design accepted undone at place name breaks

pub returns-clause-dones : goal.returns-clause-dones
returns-clause-dones c d at place name design accepted undone breaks = keeps_dones d design accepted undone at place name breaks

pub returns-clause-combs : goal.returns-clause-combs
returns-clause-combs c d at place name design accepted undone breaks = keeps_combs d design accepted undone at place name breaks

pub returns-clause-shapes : goal.returns-clause-shapes
returns-clause-shapes c d at place name design accepted breaks = keeps_shapes d design accepted at place name breaks

pub returns-clause-stands : goal.returns-clause-stands
returns-clause-stands c d at place name design accepted undone breaks = keeps_stands d design accepted undone at place name breaks

pub returns-clause-lengths : goal.returns-clause-lengths
returns-clause-lengths c d at place name design accepted undone breaks = keeps_lengths d design accepted undone at place name breaks

pub returns-clause-parts : goal.returns-clause-parts
returns-clause-parts c d at place name breaks = ⊎_elim (no_invoke_length (flat_design d) (flat_design_flat d) at place name) (no_part_length (flat_design d) (flat_design_flat d) at place name) breaks

pub returns-clause-invokes : goal.returns-clause-invokes
returns-clause-invokes c d at place name breaks = ⊎_elim (no_static_cell (flat_design d) (flat_design_flat d) at place name) (no_bad_invoke (flat_design d) (flat_design_flat d) at place name) breaks

pub returns-clause-kept : goal.returns-clause-kept
returns-clause-kept c d at place name breaks = no_kept (flat_design d) (flat_design_flat d) at place name breaks
