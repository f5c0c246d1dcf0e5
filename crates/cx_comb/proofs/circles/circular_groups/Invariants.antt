use Rattle.std.proofs.Common.{◌≡◌, length}
use Rattle.cx_graphs.specs.Walks.{IsReady}
use Rattle.cx_rules.specs.Ports.{component_of}
use Rattle.cx_design.specs.PlainDesigns.{plain_design}
use Rattle.cx_design_leads.specs.Nodes.{node_count}
use Rattle.cx_design_leads.specs.Edges.{IsClear}
use Rattle.cx_comb.specs.Circles.{AreGroupCircles}
use Rattle.cx_comb.proofs.circles.circular_groups.Given as goal

-- the groups so far
abbrev pub invariant-loop-group : goal.invariant-loop-group
invariant-loop-group l = let i = component_of (plain_design l.design) l.number in record {
  walk : IsReady (node_count i) l.walk;
  more : IsClear (node_count i) l.more;
  count : length l.groups.items ≡ l.group;
  value : AreGroupCircles i l.groups.items;
}
