use Rattle.std.proofs.Common.{◌≡◌, ℕ, Some, length, slice_get}
use Rattle.cx_rules.specs.Ports.{component_of}
use Rattle.cx_design.specs.PlainDesigns.{plain_design}
use Rattle.cx_eval_network.specs.declared.parts.PartNodes.{PartNodes}
use Rattle.cx_eval_network.specs.Nodes.{IsPartOf}
use Rattle.cx_eval_network.proofs.numbering.Nodes.new.Given as goal

-- the components so far
abbrev pub invariant-loop-number : goal.invariant-loop-number
invariant-loop-number l = record {
  sized : length l.parts.items ≡ l.number;
  each : (k : ℕ) (nodes : PartNodes) → slice_get l.parts.items k ≡ Some nodes → IsPartOf (component_of (plain_design l.design) k) nodes;
}
