use Rattle.std.proofs.Common.{◌≡◌, ◌+◌, ◌<◌, ℕ, length, get_or}
use Rattle.cx_meaning.specs.Instances.{cells_of}
use Rattle.cx_rules.specs.Ports.{component_of}
use Rattle.cx_design.specs.PlainDesigns.{plain_design}
use Rattle.cx_design_leads.specs.Nodes.{ports_before}
use Rattle.cx_design_leads.proofs.numbering.starts.Given as goal

-- the cells so far
abbrev pub invariant-loop-cell : goal.invariant-loop-cell
invariant-loop-cell l =
    let cells = cells_of (component_of (plain_design l.design) l.number) in
    record {
      len : length l.starts.items ≡ l.cell + 1;
      last : l.next ≡ ports_before cells l.cell;
      all : (c : ℕ) → c < l.cell + 1 → get_or l.starts.items c 0 ≡ ports_before cells c;
    }
