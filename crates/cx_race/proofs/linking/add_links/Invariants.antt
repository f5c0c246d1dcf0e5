use Rattle.std.proofs.Common.{◌≡◌, length, take}
use Rattle.cx_graphs.specs.Graphs.{edges_of}
use Rattle.cx_design.specs.PlainForms.{plain_assigns}
use Rattle.cx_race.specs.Links.{HasLinks}
use Rattle.cx_race.proofs.linking.add_links.Given as goal

-- the edges of the assignments so far are added
abbrev pub invariant-loop-assign : goal.invariant-loop-assign
invariant-loop-assign l = (length l.graph.items ≡ length l.initial.graph.items) × HasLinks (plain_assigns (take l.assign-index l.assigns)) (edges_of l.graph.items)
