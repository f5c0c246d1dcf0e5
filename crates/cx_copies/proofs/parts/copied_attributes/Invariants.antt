use Rattle.std.proofs.Common.{◌≡◌, ◌++◌, drop}
use Rattle.cx_copies.proofs.parts.copied_attributes.Given as goal

-- the copies so far, and what is left, are all
abbrev pub invariant-loop-attribute : goal.invariant-loop-attribute
invariant-loop-attribute l = l.copies.items ++ drop l.attribute-index l.attributes ≡ l.attributes
