use Rattle.std.proofs.Common.{ℕ, length}
use Rattle.cx_graphs.specs.Graphs.{Bounded}
use Rattle.cx_design_leads.specs.Edges.{IsSpreadOf}
use Rattle.cx_design_leads.proofs.leading.GroupLeads.clear.Given as goal

-- the edges lead from the targets that are left
abbrev pub invariant-loop-target : goal.invariant-loop-target
invariant-loop-target l = record {
  within : Bounded (length l.self.edges.items) l.self.targets.items;
  spread : (count : ℕ) → IsSpreadOf count l.fn.self → IsSpreadOf count l.self;
}

abbrev pub decreases-loop-target : goal.decreases-loop-target
decreases-loop-target l = length l.self.targets.items
