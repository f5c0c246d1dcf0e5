use Rattle.std.proofs.Common.{◌≡◌, ◌∷◌, map}
use Rattle.cx_design.specs.PlainForms.{plain_statement}
use Rattle.cx_profile.specs.Growing as growing
use Rattle.cx_profile.proofs.stores.then_stores.Given as goal

-- the statement, and so many enables behind it
abbrev pub invariant-loop-number : goal.invariant-loop-number
invariant-loop-number l = map plain_statement l.parts.items ≡ plain_statement l.fn.statement ∷ growing.enables l.place l.first l.number
