use Rattle.std.proofs.Common.{◌≡◌, ◌+◌, ◌-◌, Some, map, refl, sym, ap, ◌∙◌, arith}
use Rattle.cx_ast.specs.PlainGuards.{PlainGuard, Not, guard_step, plain_guard}
use Rattle.cx_ast.specs.declared.guards.GuardItem.TheVariants.{rolls-Not, rolls-Operand}
use Rattle.cx_ast.specs.declared.guards.GuardItem.TheFolds.{fold-roll-GuardItem}
use Rattle.cx_grammar.specs.Grammar.{Negation, Parens}
use Rattle.cx_grammar.specs.Calyx.{nest, and_of, or_of, prefixed, unary, window, comp, conj, guard, next_comp, more_comps, next_conj, more_conjs}
use Rattle.cx_parse.proofs.Steps.{pair, without_level, empty, first, second, behind_one, moved, lost, deeper, headed, applied}
use Rattle.cx_parse.proofs.Lists.{begun, nearer, step, over, reading_many, keeps_seen}
use Rattle.cx_parse.proofs.guards.+guard.Goals as goal

pub negation-returns-then-levels-eq0 : goal.negation-returns-then-levels-eq0
negation-returns-then-levels-eq0 t c = record { value = without_level Negation c.if-levels-eq0.true (c.no_level.ensures.value Negation refl) }

pub parens-returns-then-levels-eq0 : goal.parens-returns-then-levels-eq0
parens-returns-then-levels-eq0 t c = record { value = without_level Parens c.if-levels-eq0.true (c.no_level.ensures.value Parens refl) }

pub negation-returns-in-Ok : goal.negation-returns-in-Ok
unfolding nest
negation-returns-in-Ok t c = let one : c.args.levels ≡ (c.args.levels - 1) + 1 = omega arith in record { value = moved (deeper Negation one (pair (c.sign.ensures.value (c.args.levels - 1)) c.unary-guard.ensures.value)) refl (ap (λ (g : PlainGuard). Some g) (ap plain_guard (sym (rolls-Not c.in-Ok.guard)) ∙ (fold-roll-GuardItem PlainGuard guard_step _ ∙ ap (λ g. Not (plain_guard g)) c.in-Ok.ensures.ok))) }

pub negation-returns : goal.negation-returns
unfolding nest
negation-returns t c = let one : c.args.levels ≡ (c.args.levels - 1) + 1 = omega arith in record { value = deeper Negation one (lost (pair (c.sign.ensures.value (c.args.levels - 1)) c.unary-guard.ensures.value) c.lack.ensures.value) }

pub parens-returns : goal.parens-returns
unfolding nest
parens-returns t c = let one : c.args.levels ≡ (c.args.levels - 1) + 1 = omega arith in record { value = deeper Parens one (pair (c.sign.ensures.value (c.args.levels - 1)) (pair c.guard-guard.ensures.value (c.sign-2.ensures.value (c.args.levels - 1)))) }

pub prefixed-returns-then-next_is : goal.prefixed-returns-then-next_is
unfolding prefixed
prefixed-returns-then-next_is t c = record { value = first (sym c.next_is.ensures.value ∙ c.if-next_is.true) c.negation.ensures.value }

pub prefixed-returns-then-next_is-2 : goal.prefixed-returns-then-next_is-2
unfolding prefixed
prefixed-returns-then-next_is-2 t c = record { value = second (sym c.next_is.ensures.value ∙ c.if-next_is.false) (first (sym c.next_is-else-next_is.ensures.value ∙ c.if-next_is-2.true) c.parens.ensures.value) }

pub prefixed-returns-else-next_is-2 : goal.prefixed-returns-else-next_is-2
unfolding prefixed
prefixed-returns-else-next_is-2 t c = record { value = second (sym c.next_is.ensures.value ∙ c.if-next_is.false) (second (sym c.next_is-else-next_is.ensures.value ∙ c.if-next_is-2.false) (c.window.ensures.value c.args.levels)) }

pub unary-returns-then-next_in : goal.unary-returns-then-next_in
unfolding unary prefixed window
unary-returns-then-next_in t c = record { value = first (sym c.next_in.ensures.value ∙ c.if-next_in.true) c.prefixed.ensures.value }

pub unary-returns-else-next_in : goal.unary-returns-else-next_in
unfolding unary prefixed window
unary-returns-else-next_in t c = record { value = moved (second (sym c.next_in.ensures.value ∙ c.if-next_in.false) (pair (c.operand.ensures.value c.args.levels) empty)) refl (ap (λ (g : PlainGuard). Some g) (ap plain_guard (sym (rolls-Operand c.operand.result)) ∙ fold-roll-GuardItem PlainGuard guard_step _)) }

pub comp-returns-then-next_in : goal.comp-returns-then-next_in
unfolding comp prefixed window
comp-returns-then-next_in t c = record { value = first (sym c.next_in.ensures.value ∙ c.if-next_in.true) c.prefixed.ensures.value }

pub comp-returns-else-next_in : goal.comp-returns-else-next_in
unfolding comp prefixed window
comp-returns-else-next_in t c = record { value = second (sym c.next_in.ensures.value ∙ c.if-next_in.false) (applied (c.operand-left.ensures.value c.args.levels) (c.compared.ensures.value c.args.levels)) }

pub conj-returns : goal.conj-returns
unfolding conj
conj-returns t c = record { value = moved (headed (λ gs. and_of gs) c.comp-first.ensures.value c.more_comps.ensures.value) refl (ap (λ g. Some g) c.conjunction.ensures.value) }

pub guard-returns : goal.guard-returns
unfolding guard
guard-returns t c = record { value = moved (headed (λ gs. or_of gs) c.conj-first.ensures.value c.more_conjs.ensures.value) refl (ap (λ g. Some g) c.disjunction.ensures.value) }

pub more_comps-loop-reader-init : goal.more_comps-loop-reader-init
unfolding more_comps next_comp
more_comps-loop-reader-init t c = begun (reading_many c.args.levels next_comp) {before = map plain_guard c.new-all.result.items} (ap (map plain_guard) c.new-all.ensures.items) (keeps_seen plain_guard c.keep.ensures.value)

pub more_comps-loop-reader-smaller : goal.more_comps-loop-reader-smaller
unfolding more_comps next_comp
more_comps-loop-reader-smaller t c = nearer c.args.levels next_comp refl (sym c.next_is.ensures.value ∙ c.loop-reader-test.true) (behind_one (c.sign.ensures.value c.args.levels) c.comp-part.ensures.value) c.keep-in-loop-reader.ensures.value

pub more_comps-loop-reader-preserved : goal.more_comps-loop-reader-preserved
unfolding more_comps next_comp
more_comps-loop-reader-preserved t c = step c.args.levels next_comp refl _ c.loop-reader.invariant (sym c.next_is.ensures.value ∙ c.loop-reader-test.true) (behind_one (c.sign.ensures.value c.args.levels) c.comp-part.ensures.value) (keeps_seen plain_guard c.keep-in-loop-reader.ensures.value)

pub more_comps-returns : goal.more_comps-returns
unfolding more_comps next_comp
more_comps-returns t c = record { value = record { leads = over c.args.levels next_comp refl _ c.loop-reader.invariant (sym c.next_is.ensures.value ∙ c.loop-reader-test.false) } }

pub more_conjs-loop-reader-init : goal.more_conjs-loop-reader-init
unfolding more_conjs next_conj
more_conjs-loop-reader-init t c = begun (reading_many c.args.levels next_conj) {before = map plain_guard c.new-all.result.items} (ap (map plain_guard) c.new-all.ensures.items) (keeps_seen plain_guard c.keep.ensures.value)

pub more_conjs-loop-reader-smaller : goal.more_conjs-loop-reader-smaller
unfolding more_conjs next_conj
more_conjs-loop-reader-smaller t c = nearer c.args.levels next_conj refl (sym c.next_is.ensures.value ∙ c.loop-reader-test.true) (behind_one (c.sign.ensures.value c.args.levels) c.conj-part.ensures.value) c.keep-in-loop-reader.ensures.value

pub more_conjs-loop-reader-preserved : goal.more_conjs-loop-reader-preserved
unfolding more_conjs next_conj
more_conjs-loop-reader-preserved t c = step c.args.levels next_conj refl _ c.loop-reader.invariant (sym c.next_is.ensures.value ∙ c.loop-reader-test.true) (behind_one (c.sign.ensures.value c.args.levels) c.conj-part.ensures.value) (keeps_seen plain_guard c.keep-in-loop-reader.ensures.value)

pub more_conjs-returns : goal.more_conjs-returns
unfolding more_conjs next_conj
more_conjs-returns t c = record { value = record { leads = over c.args.levels next_conj refl _ c.loop-reader.invariant (sym c.next_is.ensures.value ∙ c.loop-reader-test.false) } }
