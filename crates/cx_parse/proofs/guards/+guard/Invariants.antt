use Rattle.std.proofs.Common.{◌∷◌, map, ◌+◌, ◌*◌}
use Rattle.cx_ast.specs.PlainGuards.{plain_guard}
use Rattle.cx_grammar.specs.Calyx.{next_comp, next_conj}
use Rattle.cx_parse.specs.Readings.{state_of}
use Rattle.cx_parse.proofs.Steps.{seen}
use Rattle.cx_parse.proofs.Lists.{left, SoFar, reading_many}
use Rattle.cx_parse.proofs.guards.+guard.Given as goal

abbrev pub invariant-more_comps-loop-reader : goal.invariant-more_comps-loop-reader
invariant-more_comps-loop-reader l = SoFar (reading_many l.levels next_comp) (λ ts. seen (λ xs. (plain_guard l.fn.first) ∷ xs) (reading_many l.levels next_comp ts)) (state_of l.fn.reader) (state_of l.reader) (map plain_guard l.all.items)

abbrev pub decreases-more_comps-loop-reader : goal.decreases-more_comps-loop-reader
decreases-more_comps-loop-reader l = left (state_of l.reader)

abbrev pub invariant-more_conjs-loop-reader : goal.invariant-more_conjs-loop-reader
invariant-more_conjs-loop-reader l = SoFar (reading_many l.levels next_conj) (λ ts. seen (λ xs. (plain_guard l.fn.first) ∷ xs) (reading_many l.levels next_conj ts)) (state_of l.fn.reader) (state_of l.reader) (map plain_guard l.all.items)

abbrev pub decreases-more_conjs-loop-reader : goal.decreases-more_conjs-loop-reader
decreases-more_conjs-loop-reader l = left (state_of l.reader)

abbrev pub decreases-negation : goal.decreases-negation
decreases-negation l = 7 * l.levels + 0

abbrev pub decreases-parens : goal.decreases-parens
decreases-parens l = 7 * l.levels + 0

abbrev pub decreases-prefixed : goal.decreases-prefixed
decreases-prefixed l = 7 * l.levels + 1

abbrev pub decreases-unary : goal.decreases-unary
decreases-unary l = 7 * l.levels + 2

abbrev pub decreases-comp : goal.decreases-comp
decreases-comp l = 7 * l.levels + 2

abbrev pub decreases-more_comps : goal.decreases-more_comps
decreases-more_comps l = 7 * l.levels + 3

abbrev pub decreases-conj : goal.decreases-conj
decreases-conj l = 7 * l.levels + 4

abbrev pub decreases-more_conjs : goal.decreases-more_conjs
decreases-more_conjs l = 7 * l.levels + 5

abbrev pub decreases-guard : goal.decreases-guard
decreases-guard l = 7 * l.levels + 6
