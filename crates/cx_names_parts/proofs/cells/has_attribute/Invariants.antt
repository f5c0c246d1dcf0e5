use Rattle.std.proofs.Common.{◌≡◌, codes, drop}
use Rattle.cx_numbering.specs.Names.{has_attribute}
use Rattle.cx_names_parts.proofs.cells.has_attribute.Given as goal

-- the attributes behind have it exactly where all have
abbrev pub invariant-loop-attribute : goal.invariant-loop-attribute
invariant-loop-attribute l = has_attribute (codes "external") (drop l.attribute-index l.attributes) ≡ has_attribute (codes "external") l.attributes
