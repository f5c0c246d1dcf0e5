use Rattle.std.proofs.Common.{◌∙◌}
use Rattle.cx_names_scopes.specs.Scopes.{tree_in, part_in}
use Rattle.cx_names_rules.proofs.VisitLemmas.{no_comb, comb_if}
use Rattle.cx_names_rules.proofs.statements.is_comb_group.Goals as goal

pub returns-in-None : goal.returns-in-None
returns-in-None c = no_comb (tree_in c.args.scope.now) (part_in c.args.scope.now) _ c.in-None.ensures.word

pub returns-in-Some : goal.returns-in-Some
returns-in-Some c = c.is_comb.ensures ∙ comb_if (tree_in c.args.scope.now) (part_in c.args.scope.now) _ c.in-Some.word c.in-Some.ensures.word
