use Rattle.std.proofs.Common.{[], get_or}
use Rattle.cx_meaning.specs.Instances.{tree_of, paths_of}
use Rattle.cx_design.specs.PlainDesigns.{plain_design}
use Rattle.cx_rules.specs.FullPaths.{full_path}
use Rattle.cx_state.proofs.WayLemmas.{IsOnWay}
use Rattle.cx_state.proofs.paths.port_text.Given as goal

abbrev pub invariant-loop-step : goal.invariant-loop-step
invariant-loop-step l =
    IsOnWay (plain_design l.design) l.order l.port (full_path (tree_of (plain_design l.design)) (get_or (paths_of (tree_of (plain_design l.design))) l.instance []) l.port) l.component l.left l.text.items

abbrev pub decreases-loop-step : goal.decreases-loop-step
decreases-loop-step l = l.left
