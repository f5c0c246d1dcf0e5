use Rattle.cx_meaning.specs.Designs.{PlainDesign}
use Rattle.cx_eval_network.specs.Nodes.{ArePlaced, HaveParts}
use Rattle.cx_eval_network.proofs.numbering.placed.Given as goal

-- the instances so far
abbrev pub invariant-loop-number : goal.invariant-loop-number
invariant-loop-number l = (d : PlainDesign) → HaveParts d l.parts.items → ArePlaced d l.rows l.number l.instances.items l.ports.items
