use Rattle.std.proofs.lemmas.Grind.{common_steps}
use Rattle.std.proofs.Common.{◌≡◌, sym, ap, ◌∙◌, length, arith}
use Rattle.cx_design.specs.PlainForms.{form_step, statement_step, plain_component, plain_form, plain_statement}
use Rattle.cx_design.specs.declared.statements.Form as D
use Rattle.cx_design.specs.declared.statements.Form.TheFolds.{fold-roll-Form}
use Rattle.cx_design.specs.declared.statements.Form.TheVariants.{rolls-StaticIf}
use Rattle.cx_design.proofs.statements.Statement.TheLaws as S
use Rattle.cx_design.proofs.statements.Form.TheLaws as F
use Rattle.cx_meaning.specs.Designs.{PlainForm, PlainStatement, StaticIf}
use Rattle.cx_interp_islands.specs.Rooms.{samples_of}
use Rattle.cx_interp_islands.proofs.SizeLemmas.{yes_size, no_size}
use Rattle.cx_interp_islands.proofs.TakeLemmas.{arms_after_step, arms_asked_step, arms_count_step, first_tests, later_tests, first_count, item_size, yes_tests, no_tests, yes_count, no_count}
use Rattle.cx_interp_islands.proofs.samples.+take.Goals as goal

pub take_arms-loop-statement-preserved : goal.take_arms-loop-statement-preserved
take_arms-loop-statement-preserved g t c = (
  arms_after_step (plain_component c.args.part.now) (g.S.Sampler.look c.args.sampler.now) (g.S.Sampler.look c.loop-statement.sampler) c.args.arms.now c.loop-statement.statement-index c.loop-statement.number c.sample_count-number.result c.args.offset c.statement-item.result
      (samples_of c.loop-statement.samples) (samples_of c.take_while.new.samples) c.loop-statement-test.true c.statement-item.is c.loop-statement.invariant.2 c.sample_count-number.ensures.value c.take_while.ensures.value
      ∙ c.loop-statement.invariant.0,
  arms_asked_step (plain_component c.args.part.now) (g.S.Sampler.look c.args.sampler.now) (g.S.Sampler.look c.loop-statement.sampler) c.args.arms.now c.loop-statement.statement-index c.loop-statement.number c.sample_count-number.result c.args.offset c.statement-item.result
      (samples_of c.loop-statement.samples) (samples_of c.take_while.new.samples) c.loop-statement-test.true c.statement-item.is c.loop-statement.invariant.2 c.sample_count-number.ensures.value c.take_while.ensures.value
      (g.S.Sampler.fault c.loop-statement.sampler) (g.S.Sampler.fault c.take_while.new.sampler) c.take_while.ensures.fault
      ∙ c.loop-statement.invariant.1,
  c.take_while.ensures.look ∙ c.loop-statement.invariant.2,
  (λ p i. c.take_while.ensures.answers p (c.loop-statement.invariant.3 p (later_tests c.args.arms.now c.loop-statement.statement-index c.statement-item.result c.loop-statement-test.true c.statement-item.is p i))),
  (λ p w. c.take_while.ensures.answers p (c.loop-statement.invariant.4 p w)),
  arms_count_step (plain_component c.args.part.now) (g.S.Sampler.look c.args.sampler.now) (g.S.Sampler.look c.loop-statement.sampler) c.args.arms.now c.loop-statement.statement-index c.loop-statement.number c.sample_count-number.result c.args.offset c.statement-item.result
      (samples_of c.loop-statement.samples) (samples_of c.take_while.new.samples) c.loop-statement-test.true c.statement-item.is c.loop-statement.invariant.2 c.sample_count-number.ensures.value c.take_while.ensures.value
      (length c.take_while.new.samples) (let e = c.take_while.ensures.length in let f = c.loop-statement.invariant.5 in omega arith),
  c.take_while.ensures.length ∙ c.loop-statement.invariant.6,
  c.take_while.ensures.kept ∙ c.loop-statement.invariant.7,
)

pub take_arms-take_while-requires : goal.take_arms-take_while-requires
take_arms-take_while-requires g t c κs within = (
  omega (arith, c.decreases, item_size c.args.arms.now c.loop-statement.statement-index c.statement-item.result c.loop-statement-test.true c.statement-item.is),
  (
    within,
    (
      c.requires.offset,
      (
        first_count c.args.arms.now c.loop-statement.statement-index c.statement-item.result c.loop-statement-test.true c.statement-item.is c.loop-statement.number (length c.loop-statement.samples) c.loop-statement.invariant.5,
        λ p i. c.loop-statement.invariant.3 p (first_tests c.args.arms.now c.loop-statement.statement-index c.statement-item.result c.loop-statement-test.true c.statement-item.is p i),
      ),
    ),
  ),
)

pub take_parts-take_statement-requires : goal.take_parts-take_statement-requires
take_parts-take_statement-requires g t c κs within = (
  omega (arith, c.decreases, item_size c.args.parts.now c.loop-statement.statement-index c.statement-item.result c.loop-statement-test.true c.statement-item.is),
  (
    within,
    (
      c.loop-statement.invariant.5,
      (
        first_count c.args.parts.now c.loop-statement.statement-index c.statement-item.result c.loop-statement-test.true c.statement-item.is c.loop-statement.number (length c.loop-statement.samples) c.loop-statement.invariant.6,
        λ p i. c.loop-statement.invariant.3 p (first_tests c.args.parts.now c.loop-statement.statement-index c.statement-item.result c.loop-statement-test.true c.statement-item.is p i),
      ),
    ),
  ),
)

pub take_form-take_while-requires : goal.take_form-take_while-requires
take_form-take_while-requires g t c κs within =
    let is : plain_form c.args.form.now ≡ StaticIf c.in-StaticIf.length c.in-StaticIf.test (plain_statement c.in-StaticIf.yes.value) (plain_statement c.in-StaticIf.no.value) = ap plain_form c.in-StaticIf.is ∙ ap plain_form (sym (rolls-StaticIf c.in-StaticIf.length c.in-StaticIf.test c.in-StaticIf.yes c.in-StaticIf.no)) ∙ fold-roll-Form PlainForm PlainStatement form_step statement_step _ in (
      (let e : S.the_size c.deref-then-samples-number.result.now ≡ S.the_size c.in-StaticIf.yes.value = ap (λ s. S.the_size s) c.deref-then-samples-number.ensures in
          let f : F.the_size c.args.form.now ≡ F.the_size (D.StaticIf c.in-StaticIf.length c.in-StaticIf.test c.in-StaticIf.yes c.in-StaticIf.no) = ap (λ s. F.the_size s) c.in-StaticIf.is in
          omega (arith, c.decreases, e, f, yes_size c.in-StaticIf.length c.in-StaticIf.test c.in-StaticIf.yes c.in-StaticIf.no)),
      (
        within,
        (
          c.requires.offset,
          (
            yes_count (plain_form c.args.form.now) c.in-StaticIf.length c.in-StaticIf.test c.in-StaticIf.yes.value c.in-StaticIf.no.value is c.deref-then-samples-number.result.now c.deref-then-samples-number.ensures c.args.number (length c.take_sample.new.samples) (let k = c.take_sample.ensures.length in let r = c.requires.samples in omega arith),
            λ p i. c.take_sample.ensures.answers p (c.requires.ports p (yes_tests (plain_form c.args.form.now) c.in-StaticIf.length c.in-StaticIf.test c.in-StaticIf.yes.value c.in-StaticIf.no.value is c.deref-then-samples-number.result.now c.deref-then-samples-number.ensures p i)),
          ),
        ),
      ),
    )

pub take_form-take_while-requires-else-samples-number : goal.take_form-take_while-requires-else-samples-number
take_form-take_while-requires-else-samples-number g t c κs within =
    let is : plain_form c.args.form.now ≡ StaticIf c.in-StaticIf.length c.in-StaticIf.test (plain_statement c.in-StaticIf.yes.value) (plain_statement c.in-StaticIf.no.value) = ap plain_form c.in-StaticIf.is ∙ ap plain_form (sym (rolls-StaticIf c.in-StaticIf.length c.in-StaticIf.test c.in-StaticIf.yes c.in-StaticIf.no)) ∙ fold-roll-Form PlainForm PlainStatement form_step statement_step _ in (
      (let e : S.the_size c.deref-else-samples-number-2.result.now ≡ S.the_size c.in-StaticIf.no.value = ap (λ s. S.the_size s) c.deref-else-samples-number-2.ensures in
          let f : F.the_size c.args.form.now ≡ F.the_size (D.StaticIf c.in-StaticIf.length c.in-StaticIf.test c.in-StaticIf.yes c.in-StaticIf.no) = ap (λ s. F.the_size s) c.in-StaticIf.is in
          omega (arith, c.decreases, e, f, no_size c.in-StaticIf.length c.in-StaticIf.test c.in-StaticIf.yes c.in-StaticIf.no)),
      (
        within,
        (
          c.requires.offset,
          (
            no_count (plain_form c.args.form.now) c.in-StaticIf.length c.in-StaticIf.test c.in-StaticIf.yes.value c.in-StaticIf.no.value is c.deref-else-samples-number-2.result.now c.deref-else-samples-number-2.ensures c.deref-else-samples-number.result.now c.deref-else-samples-number.ensures c.sample_count.result c.args.number (length c.take_sample.new.samples) c.sample_count.ensures.value (let k = c.take_sample.ensures.length in let r = c.requires.samples in omega arith),
            λ p i. c.take_sample.ensures.answers p (c.requires.ports p (no_tests (plain_form c.args.form.now) c.in-StaticIf.length c.in-StaticIf.test c.in-StaticIf.yes.value c.in-StaticIf.no.value is c.deref-else-samples-number-2.result.now c.deref-else-samples-number-2.ensures p i)),
          ),
        ),
      ),
    )

pub take_parts-loop-statement-preserved : goal.take_parts-loop-statement-preserved
take_parts-loop-statement-preserved g t c = (
  grind (arith, common_steps),
  grind (arith, common_steps),
  c.loop-statement.invariant.2,
  (λ p i. c.loop-statement.invariant.3 p (later_tests c.args.parts.now c.loop-statement.statement-index c.statement-item.result c.loop-statement-test.true c.statement-item.is p i)),
  c.loop-statement.invariant.4,
  grind (arith, common_steps),
  grind (arith, common_steps),
  c.loop-statement.invariant.7,
  c.loop-statement.invariant.8,
)
