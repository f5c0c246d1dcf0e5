use Rattle.std.proofs.Common.{◌≡◌, drop}
use Rattle.cx_numbering.specs.NameRules.{has_other_attribute}
use Rattle.cx_names_scopes.specs.Scopes.{tree_in, part_in}
use Rattle.cx_names_rules.proofs.ports.has_other_attribute.Given as goal

-- the attributes behind have another exactly where all have
abbrev pub invariant-loop-attribute : goal.invariant-loop-attribute
invariant-loop-attribute l = has_other_attribute (tree_in l.scope) (part_in l.scope) l.name (drop l.attribute-index l.attributes) ≡ has_other_attribute (tree_in l.scope) (part_in l.scope) l.name l.attributes
