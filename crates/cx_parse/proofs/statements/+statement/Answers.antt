use Rattle.std.proofs.Common.{◌≡◌, ◌+◌, ◌-◌, Some, map, refl, sym, ap, ◌∙◌, arith}
use Rattle.cx_ast.specs.PlainStatements.{PlainForm, PlainBlock, PlainStatement, form_step, block_step, statement_step, plain_form, plain_statement}
use Rattle.cx_ast.specs.declared.statements.StatementForm.TheVariants.{rolls-Seq, rolls-Par, rolls-While, rolls-Repeat, rolls-StaticSeq, rolls-StaticPar, rolls-StaticRepeat, rolls-StaticInvoke}
use Rattle.cx_ast.specs.declared.statements.StatementForm.TheFolds.{fold-roll-StatementForm, fold-roll-StatementItem, fold-roll-Block}
use Rattle.cx_grammar.specs.Grammar.{Braces}
use Rattle.cx_grammar.specs.Calyx.{nest, block, otherwise, marked_block, repeat_rest, static_if_rest, static_rest, static_form, static_statement, seq, par, if_form, if_rest, while_form, while_rest, repeat, enable, invoke, form, statement, statements, attributes, attribute}
use Rattle.cx_parse.proofs.Steps.{pair, without_level, empty, first, second, stops_first, stops_second, deeper, moved, applied, as_seen, seen_behind, seen_first, seen_second, unseen}
use Rattle.cx_parse.proofs.Lists.{nothing, nearer, step, over, reading_many, keeps_seen}
use Rattle.cx_ast.proofs.PlainStatementsLemmas.{if_form as plain_form-If, static_if_form}
use Rattle.cx_parse.proofs.statements.+statement.Goals as goal

pub block-returns-then-levels-eq0 : goal.block-returns-then-levels-eq0
block-returns-then-levels-eq0 t c = record { value = without_level Braces c.if-levels-eq0.true (c.no_level.ensures.value Braces refl) }

pub block-returns : goal.block-returns
unfolding nest
block-returns t c = let one : c.args.levels ≡ (c.args.levels - 1) + 1 = omega arith in record { value = moved (deeper Braces one (pair (c.sign-place.ensures.value (c.args.levels - 1)) (pair c.statements-statements.ensures.value (c.sign.ensures.value (c.args.levels - 1))))) refl (ap (λ (b : PlainBlock). Some b) (fold-roll-Block PlainForm PlainBlock PlainStatement form_step block_step statement_step _)) }

pub otherwise-returns-then-not-next_is : goal.otherwise-returns-then-not-next_is
unfolding otherwise block
otherwise-returns-then-not-next_is t c = record { value = second (sym c.next_is.ensures.value ∙ c.if-not-next_is.true) empty }

pub otherwise-returns : goal.otherwise-returns
unfolding otherwise block
otherwise-returns t c = record { value = first (sym c.next_is.ensures.value ∙ c.if-not-next_is.false) (pair (pair (c.sign.ensures.value c.args.levels) c.block.ensures.value) empty) }

pub marked_block-returns : goal.marked_block-returns
unfolding marked_block block
marked_block-returns t c = record { value = pair (c.marks-marks.ensures.value c.args.levels) c.block-block.ensures.value }

pub repeat_rest-returns : goal.repeat_rest-returns
unfolding repeat_rest block
repeat_rest-returns t c = record { value = pair (c.number-count.ensures.value c.args.levels) c.block-body.ensures.value }

pub static_if-returns : goal.static_if-returns
unfolding static_if_rest block
static_if-returns t c = record { value = moved (as_seen (λ f. f c.args.length) (pair (c.operand-test.ensures.value c.args.levels) (pair c.block-yes.ensures.value c.otherwise-no.ensures.value))) refl (ap (λ (form : PlainForm). Some form) (static_if_form c.args.length c.operand-test.result c.block-yes.result c.otherwise-no.result)) }

pub seq-returns : goal.seq-returns
unfolding seq
seq-returns t c = record { value = moved (pair (c.sign-place.ensures.value c.args.levels) c.marked_block-marks.ensures.value) refl (ap (λ (form : PlainForm). Some (form, c.sign-place.result)) (ap plain_form (sym (rolls-Seq c.marked_block-marks.result.0 c.marked_block-marks.result.1)) ∙ fold-roll-StatementForm PlainForm PlainBlock PlainStatement form_step block_step statement_step _)) }

pub par-returns : goal.par-returns
unfolding par
par-returns t c = record { value = moved (pair (c.sign-place.ensures.value c.args.levels) c.marked_block-marks.ensures.value) refl (ap (λ (form : PlainForm). Some (form, c.sign-place.result)) (ap plain_form (sym (rolls-Par c.marked_block-marks.result.0 c.marked_block-marks.result.1)) ∙ fold-roll-StatementForm PlainForm PlainBlock PlainStatement form_step block_step statement_step _)) }

pub if_form-returns : goal.if_form-returns
unfolding if_form if_rest block
if_form-returns t c = record { value = moved (pair (c.sign-place.ensures.value c.args.levels) (pair (c.operand-test.ensures.value c.args.levels) (pair (c.comb-comb.ensures.value c.args.levels) (pair c.block-yes.ensures.value c.otherwise-no.ensures.value)))) refl (ap (λ (form : PlainForm). Some (form, c.sign-place.result)) (plain_form-If c.operand-test.result c.comb-comb.result c.block-yes.result c.otherwise-no.result)) }

pub while_form-returns : goal.while_form-returns
unfolding while_form while_rest block
while_form-returns t c = record { value = moved (pair (c.sign-place.ensures.value c.args.levels) (pair (c.operand-test.ensures.value c.args.levels) (pair (c.comb-comb.ensures.value c.args.levels) c.block-body.ensures.value))) refl (ap (λ (form : PlainForm). Some (form, c.sign-place.result)) (ap plain_form (sym (rolls-While c.operand-test.result c.comb-comb.result c.block-body.result)) ∙ fold-roll-StatementForm PlainForm PlainBlock PlainStatement form_step block_step statement_step _)) }

pub repeat-returns : goal.repeat-returns
unfolding repeat
repeat-returns t c = record { value = moved (pair (c.sign-place.ensures.value c.args.levels) c.repeat_rest-count.ensures.value) refl (ap (λ (form : PlainForm). Some (form, c.sign-place.result)) (ap plain_form (sym (rolls-Repeat c.repeat_rest-count.result.0 c.repeat_rest-count.result.1)) ∙ fold-roll-StatementForm PlainForm PlainBlock PlainStatement form_step block_step statement_step _)) }

pub static_statement-returns-in_err-form : goal.static_statement-returns-in_err-form
unfolding static_statement static_form
static_statement-returns-in_err-form t c = record { value = stops_second (c.sign-place.ensures.value c.args.levels) (stops_second (c.optional_length-length.ensures.value c.args.levels) (unseen c.in_err-form.ensures.value)) }

pub static_statement-returns : goal.static_statement-returns
unfolding static_statement static_form
static_statement-returns t c = record { value = pair (c.sign-place.ensures.value c.args.levels) (applied (c.optional_length-length.ensures.value c.args.levels) c.in_ok-form.ensures.value) }

pub statement-returns-in_err-form : goal.statement-returns-in_err-form
unfolding statement
statement-returns-in_err-form t c = record { value = stops_second (c.attributes-attributes.ensures.value c.args.levels) c.in_err-form.ensures.value }

pub statement-returns : goal.statement-returns
unfolding statement
statement-returns t c = record { value = moved (pair (c.attributes-attributes.ensures.value c.args.levels) c.in_ok-form.ensures.value) refl (ap (λ (s : PlainStatement). Some s) (fold-roll-StatementItem PlainForm PlainBlock PlainStatement form_step block_step statement_step _)) }

pub static_rest-returns-then-next_is : goal.static_rest-returns-then-next_is
unfolding static_rest
static_rest-returns-then-next_is t c = record { value = moved (as_seen (λ f. f c.args.length) (first (sym c.next_is.ensures.value ∙ c.if-next_is.true) (pair (c.sign.ensures.value c.args.levels) (pair c.marked_block-marks.ensures.value empty)))) refl (ap (λ (form : PlainForm). Some form) (ap plain_form (sym (rolls-StaticSeq c.args.length c.marked_block-marks.result.0 c.marked_block-marks.result.1)) ∙ fold-roll-StatementForm PlainForm PlainBlock PlainStatement form_step block_step statement_step _)) }

pub static_rest-returns-then-next_is-2 : goal.static_rest-returns-then-next_is-2
unfolding static_rest
static_rest-returns-then-next_is-2 t c = record { value = moved (as_seen (λ f. f c.args.length) (second (sym c.next_is.ensures.value ∙ c.if-next_is.false) (first (sym c.next_is-2.ensures.value ∙ c.if-next_is-2.true) (pair (c.sign-then-next_is-2.ensures.value c.args.levels) (pair c.marked_block-marks-then-next_is-2.ensures.value empty))))) refl (ap (λ (form : PlainForm). Some form) (ap plain_form (sym (rolls-StaticPar c.args.length c.marked_block-marks-then-next_is-2.result.0 c.marked_block-marks-then-next_is-2.result.1)) ∙ fold-roll-StatementForm PlainForm PlainBlock PlainStatement form_step block_step statement_step _)) }

pub static_rest-returns-then-next_is-3 : goal.static_rest-returns-then-next_is-3
unfolding static_rest
static_rest-returns-then-next_is-3 t c = record { value = seen_second (sym c.next_is.ensures.value ∙ c.if-next_is.false) (seen_second (sym c.next_is-2.ensures.value ∙ c.if-next_is-2.false) (seen_first (sym c.next_is-3.ensures.value ∙ c.if-next_is-3.true) (seen_behind (c.sign-then-next_is-3.ensures.value c.args.levels) c.static_if.ensures.value))) }

pub static_rest-returns-then-next_is-4 : goal.static_rest-returns-then-next_is-4
unfolding static_rest
static_rest-returns-then-next_is-4 t c = record { value = moved (as_seen (λ f. f c.args.length) (second (sym c.next_is.ensures.value ∙ c.if-next_is.false) (second (sym c.next_is-2.ensures.value ∙ c.if-next_is-2.false) (second (sym c.next_is-3.ensures.value ∙ c.if-next_is-3.false) (first (sym c.next_is-4.ensures.value ∙ c.if-next_is-4.true) (pair (c.sign-then-next_is-4.ensures.value c.args.levels) (pair c.repeat_rest-count.ensures.value empty))))))) refl (ap (λ (form : PlainForm). Some form) (ap plain_form (sym (rolls-StaticRepeat c.args.length c.repeat_rest-count.result.0 c.repeat_rest-count.result.1)) ∙ fold-roll-StatementForm PlainForm PlainBlock PlainStatement form_step block_step statement_step _)) }

pub static_rest-returns-in_err-cell : goal.static_rest-returns-in_err-cell
unfolding static_rest
static_rest-returns-in_err-cell t c = record { value = stops_first (second (sym c.next_is.ensures.value ∙ c.if-next_is.false) (second (sym c.next_is-2.ensures.value ∙ c.if-next_is-2.false) (second (sym c.next_is-3.ensures.value ∙ c.if-next_is-3.false) (second (sym c.next_is-4.ensures.value ∙ c.if-next_is-4.false) (stops_second (c.sign-2.ensures.value c.args.levels) (stops_first (c.in_err-cell.ensures.value c.args.levels))))))) }

pub static_rest-returns : goal.static_rest-returns
unfolding static_rest
static_rest-returns t c = record { value = moved (as_seen (λ f. f c.args.length) (second (sym c.next_is.ensures.value ∙ c.if-next_is.false) (second (sym c.next_is-2.ensures.value ∙ c.if-next_is-2.false) (second (sym c.next_is-3.ensures.value ∙ c.if-next_is-3.false) (second (sym c.next_is-4.ensures.value ∙ c.if-next_is-4.false) (pair (c.sign-2.ensures.value c.args.levels) (pair (c.in_ok-cell.ensures.value c.args.levels) empty))))))) refl (ap (λ (form : PlainForm). Some form) (ap plain_form (sym (rolls-StaticInvoke c.args.length c.in_ok-cell.cell c.in_ok-cell.inputs c.in_ok-cell.outputs)) ∙ fold-roll-StatementForm PlainForm PlainBlock PlainStatement form_step block_step statement_step _)) }

pub form-returns-then-next_is : goal.form-returns-then-next_is
unfolding form enable seq par if_form while_form repeat invoke
form-returns-then-next_is t c = record { value = first (sym c.next_is.ensures.value ∙ c.if-next_is.true) (c.enable.ensures.value c.args.levels) }

pub form-returns-then-next_is-2 : goal.form-returns-then-next_is-2
unfolding form enable seq par if_form while_form repeat invoke
form-returns-then-next_is-2 t c = record { value = second (sym c.next_is.ensures.value ∙ c.if-next_is.false) (first (sym c.next_is-2.ensures.value ∙ c.if-next_is-2.true) c.seq.ensures.value) }

pub form-returns-then-next_is-3 : goal.form-returns-then-next_is-3
unfolding form enable seq par if_form while_form repeat invoke
form-returns-then-next_is-3 t c = record { value = second (sym c.next_is.ensures.value ∙ c.if-next_is.false) (second (sym c.next_is-2.ensures.value ∙ c.if-next_is-2.false) (first (sym c.next_is-3.ensures.value ∙ c.if-next_is-3.true) c.par.ensures.value)) }

pub form-returns-then-next_is-4 : goal.form-returns-then-next_is-4
unfolding form enable seq par if_form while_form repeat invoke
form-returns-then-next_is-4 t c = record { value = second (sym c.next_is.ensures.value ∙ c.if-next_is.false) (second (sym c.next_is-2.ensures.value ∙ c.if-next_is-2.false) (second (sym c.next_is-3.ensures.value ∙ c.if-next_is-3.false) (first (sym c.next_is-4.ensures.value ∙ c.if-next_is-4.true) c.if_form.ensures.value))) }

pub form-returns-then-next_is-5 : goal.form-returns-then-next_is-5
unfolding form enable seq par if_form while_form repeat invoke
form-returns-then-next_is-5 t c = record { value = second (sym c.next_is.ensures.value ∙ c.if-next_is.false) (second (sym c.next_is-2.ensures.value ∙ c.if-next_is-2.false) (second (sym c.next_is-3.ensures.value ∙ c.if-next_is-3.false) (second (sym c.next_is-4.ensures.value ∙ c.if-next_is-4.false) (first (sym c.next_is-5.ensures.value ∙ c.if-next_is-5.true) c.while_form.ensures.value)))) }

pub form-returns-then-next_is-6 : goal.form-returns-then-next_is-6
unfolding form enable seq par if_form while_form repeat invoke
form-returns-then-next_is-6 t c = record { value = second (sym c.next_is.ensures.value ∙ c.if-next_is.false) (second (sym c.next_is-2.ensures.value ∙ c.if-next_is-2.false) (second (sym c.next_is-3.ensures.value ∙ c.if-next_is-3.false) (second (sym c.next_is-4.ensures.value ∙ c.if-next_is-4.false) (second (sym c.next_is-5.ensures.value ∙ c.if-next_is-5.false) (first (sym c.next_is-6.ensures.value ∙ c.if-next_is-6.true) c.repeat.ensures.value))))) }

pub form-returns-then-next_is-7 : goal.form-returns-then-next_is-7
unfolding form enable seq par if_form while_form repeat invoke
form-returns-then-next_is-7 t c = record { value = second (sym c.next_is.ensures.value ∙ c.if-next_is.false) (second (sym c.next_is-2.ensures.value ∙ c.if-next_is-2.false) (second (sym c.next_is-3.ensures.value ∙ c.if-next_is-3.false) (second (sym c.next_is-4.ensures.value ∙ c.if-next_is-4.false) (second (sym c.next_is-5.ensures.value ∙ c.if-next_is-5.false) (second (sym c.next_is-6.ensures.value ∙ c.if-next_is-6.false) (first (sym c.next_is-7.ensures.value ∙ c.if-next_is-7.true) (c.invoke.ensures.value c.args.levels))))))) }

pub form-returns : goal.form-returns
unfolding form enable seq par if_form while_form repeat invoke
form-returns t c = record { value = second (sym c.next_is.ensures.value ∙ c.if-next_is.false) (second (sym c.next_is-2.ensures.value ∙ c.if-next_is-2.false) (second (sym c.next_is-3.ensures.value ∙ c.if-next_is-3.false) (second (sym c.next_is-4.ensures.value ∙ c.if-next_is-4.false) (second (sym c.next_is-5.ensures.value ∙ c.if-next_is-5.false) (second (sym c.next_is-6.ensures.value ∙ c.if-next_is-6.false) (second (sym c.next_is-7.ensures.value ∙ c.if-next_is-7.false) c.static_statement.ensures.value)))))) }

pub statements-loop-reader-init : goal.statements-loop-reader-init
unfolding statements statement attributes attribute form enable seq par if_form while_form repeat invoke static_statement
statements-loop-reader-init t c = nothing (reading_many c.args.levels statement) (ap (map plain_statement) c.new-all.ensures.items)

pub statements-loop-reader-smaller : goal.statements-loop-reader-smaller
unfolding statements statement attributes attribute form enable seq par if_form while_form repeat invoke static_statement
statements-loop-reader-smaller t c = nearer c.args.levels statement refl (sym c.next_in.ensures.value ∙ c.loop-reader-test.true) c.statement-statement.ensures.value c.keep.ensures.value

pub statements-loop-reader-preserved : goal.statements-loop-reader-preserved
unfolding statements statement attributes attribute form enable seq par if_form while_form repeat invoke static_statement
statements-loop-reader-preserved t c = step c.args.levels statement refl _ c.loop-reader.invariant (sym c.next_in.ensures.value ∙ c.loop-reader-test.true) c.statement-statement.ensures.value (keeps_seen plain_statement c.keep.ensures.value)

pub statements-returns : goal.statements-returns
unfolding statements statement attributes attribute form enable seq par if_form while_form repeat invoke static_statement
statements-returns t c = record { value = record { leads = over c.args.levels statement refl _ c.loop-reader.invariant (sym c.next_in.ensures.value ∙ c.loop-reader-test.false) } }
