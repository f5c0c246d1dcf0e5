use Rattle.std.proofs.Common.{rules, ◌≡◌, ◌||◌, [], ◌++◌, sym, ap, ◌∙◌, arith}
use Rattle.cx_meaning.specs.Control.{groups_drive, groups_in, groups_in_all, groups_of, with_comb}
use Rattle.cx_meaning.specs.Designs.{PlainForm, PlainStatement, If, While, StaticIf}
use Rattle.cx_meaning.specs.Instances.{part_of, instance_at, tree_of}
use Rattle.cx_design.specs.declared.statements.Form.TheFolds.{fold-roll-Form}
use Rattle.cx_design.specs.declared.statements.Form.TheVariants as forms
use Rattle.cx_design.specs.PlainForms.{form_step, statement_step, plain_form, plain_statement, plain_statements}
use Rattle.cx_turns.specs.Machines.{design_of}
use Rattle.cx_turns.specs.Marks.{is_marked}
use Rattle.cx_turns.proofs.MarkSteps.{comb_drives, form_groups, or_two, parts_marked}
use Rattle.cx_frames.proofs.ArmLemmas.{groups_joined}
use Rattle.cx_turns.proofs.driven.+mark.Goals as goal

pub mark_all-loop-part-preserved : goal.mark_all-loop-part-preserved
mark_all-loop-part-preserved t c =
    let before = c.loop-part.invariant.room in
    let more = c.mark_form.ensures.room in
    record {
      length = c.mark_form.ensures.length ∙ c.loop-part.invariant.length;
      marked = λ path q number.
          let part = part_of (instance_at (tree_of (design_of c.args.plan.now)) path) in
          parts_marked part c.args.parts.now c.loop-part.part-index q c.part-item.result (is_marked c.loop-part.marks q) (is_marked c.mark_form.new.marks q) (omega arith) c.part-item.is
          (c.mark_form.ensures.marked path q number ∙ ap (λ gs. groups_drive part gs q || is_marked c.loop-part.marks q) (form_groups c.part-item.result))
          (groups_drive part (groups_in_all (plain_statements c.args.parts.now)) q || is_marked c.args.marks.now q) (c.loop-part.invariant.marked path q number);
      lists = c.mark_form.ensures.lists;
      room = omega (arith, before, more);
    }

pub mark_form-returns-in-If-clause-marked : goal.mark_form-returns-in-If-clause-marked
mark_form-returns-in-If-clause-marked t c path q number =
    let part = part_of (instance_at (tree_of (design_of c.args.plan.now)) path) in
    let whole : plain_form c.args.form.now ≡ If c.in-If.test c.in-If.comb (plain_statement c.in-If.yes.value) (plain_statement c.in-If.no.value) =
    ap plain_form c.in-If.is ∙ ap plain_form (sym (forms.rolls-If c.in-If.test c.in-If.comb c.in-If.yes c.in-If.no)) ∙ fold-roll-Form PlainForm PlainStatement form_step statement_step _ in
    let first : c.deref-in-If.result.now ≡ c.in-If.yes.value = search rules in
    let second : c.deref-in-If-2.result.now ≡ c.in-If.no.value = search rules in
    let ga = groups_drive part (groups_of (plain_statement c.in-If.yes.value)) q in
    let gb = groups_drive part (groups_of (plain_statement c.in-If.no.value)) q in
    let gc = groups_drive part (with_comb c.in-If.comb []) q in
    let m0 = is_marked c.args.marks.now q in
    let one : is_marked c.mark_form.new.marks q ≡ (ga || is_marked c.mark_comb.new.marks q) =
    c.mark_form.ensures.marked path q number ∙ ap (λ gs. groups_drive part gs q || is_marked c.mark_comb.new.marks q) (form_groups c.deref-in-If.result.now ∙ ap (λ s. groups_of (plain_statement s)) first) in
    let two : is_marked c.mark_form-in-If.new.marks q ≡ (gb || is_marked c.mark_form.new.marks q) =
    c.mark_form-in-If.ensures.marked path q number ∙ ap (λ gs. groups_drive part gs q || is_marked c.mark_form.new.marks q) (form_groups c.deref-in-If-2.result.now ∙ ap (λ s. groups_of (plain_statement s)) second) in
    two
    ∙ ap (λ b. gb || b) (one ∙ ap (λ b. ga || b) (c.mark_comb.ensures.marked path q number))
    ∙ or_two ga gb (gc || m0)
    ∙ or_two gc (ga || gb) m0
    ∙ ap (λ b. b || m0)
    (ap (λ b. gc || b) (sym (groups_joined part (groups_of (plain_statement c.in-If.yes.value)) (groups_of (plain_statement c.in-If.no.value)) q))
    ∙ sym (comb_drives part c.in-If.comb (groups_of (plain_statement c.in-If.yes.value) ++ groups_of (plain_statement c.in-If.no.value)) q)
    ∙ sym (ap (λ f. groups_drive part (groups_in f) q) whole))

pub mark_form-returns-in-StaticIf-clause-marked : goal.mark_form-returns-in-StaticIf-clause-marked
mark_form-returns-in-StaticIf-clause-marked t c path q number =
    let part = part_of (instance_at (tree_of (design_of c.args.plan.now)) path) in
    let whole : plain_form c.args.form.now ≡ StaticIf c.in-StaticIf.length c.in-StaticIf.test (plain_statement c.in-StaticIf.yes.value) (plain_statement c.in-StaticIf.no.value) =
    ap plain_form c.in-StaticIf.is ∙ ap plain_form (sym (forms.rolls-StaticIf c.in-StaticIf.length c.in-StaticIf.test c.in-StaticIf.yes c.in-StaticIf.no)) ∙ fold-roll-Form PlainForm PlainStatement form_step statement_step _ in
    let first : c.deref-in-StaticIf.result.now ≡ c.in-StaticIf.yes.value = search rules in
    let second : c.deref-in-StaticIf-2.result.now ≡ c.in-StaticIf.no.value = search rules in
    let ga = groups_drive part (groups_of (plain_statement c.in-StaticIf.yes.value)) q in
    let gb = groups_drive part (groups_of (plain_statement c.in-StaticIf.no.value)) q in
    let m0 = is_marked c.args.marks.now q in
    let one : is_marked c.mark_form-in-StaticIf.new.marks q ≡ (ga || m0) =
    c.mark_form-in-StaticIf.ensures.marked path q number ∙ ap (λ gs. groups_drive part gs q || m0) (form_groups c.deref-in-StaticIf.result.now ∙ ap (λ s. groups_of (plain_statement s)) first) in
    let two : is_marked c.mark_form-in-StaticIf-2.new.marks q ≡ (gb || is_marked c.mark_form-in-StaticIf.new.marks q) =
    c.mark_form-in-StaticIf-2.ensures.marked path q number ∙ ap (λ gs. groups_drive part gs q || is_marked c.mark_form-in-StaticIf.new.marks q) (form_groups c.deref-in-StaticIf-2.result.now ∙ ap (λ s. groups_of (plain_statement s)) second) in
    two
    ∙ ap (λ b. gb || b) one
    ∙ or_two ga gb m0
    ∙ ap (λ b. b || m0)
    (sym (groups_joined part (groups_of (plain_statement c.in-StaticIf.yes.value)) (groups_of (plain_statement c.in-StaticIf.no.value)) q) ∙ sym (ap (λ f. groups_drive part (groups_in f) q) whole))

pub mark_form-returns-in-While-clause-marked : goal.mark_form-returns-in-While-clause-marked
mark_form-returns-in-While-clause-marked t c path q number =
    let part = part_of (instance_at (tree_of (design_of c.args.plan.now)) path) in
    let whole : plain_form c.args.form.now ≡ While c.in-While.test c.in-While.comb (plain_statement c.in-While.body.value) =
    ap plain_form c.in-While.is ∙ ap plain_form (sym (forms.rolls-While c.in-While.test c.in-While.comb c.in-While.body)) ∙ fold-roll-Form PlainForm PlainStatement form_step statement_step _ in
    let first : c.deref-in-While.result.now ≡ c.in-While.body.value = search rules in
    let ga = groups_drive part (groups_of (plain_statement c.in-While.body.value)) q in
    let gc = groups_drive part (with_comb c.in-While.comb []) q in
    let m0 = is_marked c.args.marks.now q in
    let one : is_marked c.mark_form-in-While.new.marks q ≡ (ga || is_marked c.mark_comb-in-While.new.marks q) =
    c.mark_form-in-While.ensures.marked path q number ∙ ap (λ gs. groups_drive part gs q || is_marked c.mark_comb-in-While.new.marks q) (form_groups c.deref-in-While.result.now ∙ ap (λ s. groups_of (plain_statement s)) first) in
    one
    ∙ ap (λ b. ga || b) (c.mark_comb-in-While.ensures.marked path q number)
    ∙ or_two gc ga m0
    ∙ ap (λ b. b || m0) (sym (comb_drives part c.in-While.comb (groups_of (plain_statement c.in-While.body.value)) q) ∙ sym (ap (λ f. groups_drive part (groups_in f) q) whole))
