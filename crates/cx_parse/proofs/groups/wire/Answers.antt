use Rattle.std.proofs.Common.{ap, sym, ◌∙◌}
use Rattle.cx_ast.specs.PlainTree.{Assign, Group}
use Rattle.cx_grammar.specs.Calyx.{wire, bare_assign, target}
use Rattle.cx_parse.proofs.Steps.{pair, empty, applied, stops_first, stops_second, second, seen_first, seen_second, unseen, joined}
use Rattle.cx_parse.proofs.groups.wire.Goals as goal

pub returns-then-next_is : goal.returns-then-next_is
unfolding wire bare_assign target
returns-then-next_is c = record { value = applied (c.attributes-attributes.ensures.value c.args.levels) (seen_first (sym c.next_is.ensures.value ∙ c.if-next_is.true) (joined (λ f u e k. ap (λ a. Assign a) e) c.bare_assign.ensures.value (pair {join = λ (u : Unit {0}) (_ : Unit {0}). u} empty empty))) }

pub returns-in_err-group : goal.returns-in_err-group
unfolding wire bare_assign target
returns-in_err-group c = record { value = stops_second (c.attributes-attributes.ensures.value c.args.levels) (second (sym c.next_is.ensures.value ∙ c.if-next_is.false) (stops_first (unseen c.in_err-group.ensures.value))) }

pub returns-in_ok-group : goal.returns-in_ok-group
unfolding wire bare_assign target
returns-in_ok-group c = record { value = applied (c.attributes-attributes.ensures.value c.args.levels) (seen_second (sym c.next_is.ensures.value ∙ c.if-next_is.false) (joined (λ f u e k. ap (λ a. Group a) e) c.in_ok-group.ensures.value (pair {join = λ (u : Unit {0}) (_ : Unit {0}). u} empty empty))) }
