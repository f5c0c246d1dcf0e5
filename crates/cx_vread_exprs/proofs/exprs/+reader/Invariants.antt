use Rattle.std.proofs.Common.{◌+◌, ◌*◌}
use Rattle.cx_vread_exprs.proofs.exprs.+reader.Given as goal

abbrev pub decreases-expr : goal.decreases-expr
decreases-expr l = 5 * l.levels + 4

abbrev pub decreases-inner : goal.decreases-inner
decreases-inner l = 5 * l.levels

abbrev pub decreases-named : goal.decreases-named
decreases-named l = 5 * l.levels + 3

abbrev pub decreases-bracketed : goal.decreases-bracketed
decreases-bracketed l = 5 * l.levels + 2

abbrev pub decreases-nested : goal.decreases-nested
decreases-nested l = 5 * l.levels + 3

abbrev pub decreases-brackets : goal.decreases-brackets
decreases-brackets l = 5 * l.levels + 7

abbrev pub decreases-joined : goal.decreases-joined
decreases-joined l = 5 * l.levels + 5

abbrev pub decreases-inverted : goal.decreases-inverted
decreases-inverted l = 5 * l.levels + 5

abbrev pub decreases-round : goal.decreases-round
decreases-round l = 5 * l.levels + 6

abbrev pub decreases-chosen : goal.decreases-chosen
decreases-chosen l = 5 * l.levels + 5

abbrev pub decreases-applied : goal.decreases-applied
decreases-applied l = 5 * l.levels + 5
