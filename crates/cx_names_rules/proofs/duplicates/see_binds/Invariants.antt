use Rattle.std.proofs.Common.{ℕ, List, drop}
use Rattle.cx_numbering.specs.NameRules.{bind_names}
use Rattle.cx_names_rules.specs.Seen.{Sees, SeesUpTo}
use Rattle.cx_names_rules.proofs.duplicates.see_binds.Given as goal

-- those behind are not yet seen
abbrev pub invariant-loop-bind : goal.invariant-loop-bind
invariant-loop-bind l = (before : List (List ℕ)) → Sees before l.initial.seen → SeesUpTo before (bind_names l.binds) (bind_names (drop l.bind-index l.binds)) l.initial.found l.seen l.found
