use Rattle.std.proofs.Common.{rules, ◌≡◌, ◌≢◌, ◌+◌, ◌-◌, ◌<◌, List, [], ◌∷◌, ◌++◌, None, get_or, length, sym, ap, ◌∙◌, subst, arith}
use Rattle.cx_meaning.specs.Designs.{PlainForm, PlainStatement, Placed, no_place, Enable}
use Rattle.cx_design.specs.PlainForms.{plain_form, plain_statement, plain_statements, form_step, statement_step}
use Rattle.cx_design.specs.declared.statements.Form.TheFolds.{fold-roll-Form, fold-roll-Statement}
use Rattle.cx_design.specs.declared.statements.Form.TheVariants as forms
use Rattle.cx_design.specs.declared.statements.Statement.{Statement}
use Rattle.cx_turns.specs.Machines.{design_of, FormStands, StandsIn}
use Rattle.cx_turns.proofs.ChildLemmas.{callee_part, child_instance, child_less, control_stands}
use Rattle.cx_turns.proofs.PartLemmas.{part_stands, part_falls}
use Rattle.cx_turns.proofs.Measures.{form_steps, steps}
use Rattle.cx_turns.proofs.StandLemmas.{enabled_group}
use Rattle.cx_weave.specs.declared.strands.Strand.{Strand}
use Rattle.cx_weave.specs.declared.strands.Strand.TheVariants as strands
use Rattle.cx_weave.specs.declared.strands.Arms.{Arms}
use Rattle.cx_weave.specs.declared.strands.Arms.TheVariants as parts
use Rattle.cx_weave.specs.Ledger.{amount, arms_amount, arms_box_amount, box_amount}
use Rattle.cx_weave.specs.Strands.{APar, IsBoth, plain_arms}
use Rattle.cx_weave.specs.Strides.{OpensAs}
use Rattle.cx_weave.specs.Supplied.{MayOpen, MayOpenAll}
use Rattle.cx_weave.proofs.Amounts.{amount_choice, amount_group, amount_idling, amount_one, amount_par, amount_repeat, amount_seq, amount_test, amount_waiting}
use Rattle.cx_weave.proofs.OpenSteps.{arm_opens, back_falls, back_stands, both_open, call_opens, front_falls, front_stands, halves, later_stand, none_are, one_is, par_opens, seq_none, seq_some}
use Rattle.cx_weave.proofs.OpenSupplies.{arm_asked, arms_asked, arms_boxed, back_asked, body_asked, body_box, both_boxed, boxed, call_box, call_strand, control_asked, first_asked, first_box, front_asked, nothing_opened, one_opened, par_box, second_box, seq_box}
use Rattle.cx_weave.proofs.StrandFolds.{is_idling, is_seq, is_par, is_call, is_one}
use Rattle.cx_weave.proofs.opening.+opened.Goals as goal

pub open_statement-open_form-requires : goal.open_statement-open_form-requires
open_statement-open_form-requires t c =
    let whole : plain_statement c.args.statement.now ≡ Placed (plain_form c.args.statement.now.form) c.args.statement.now.place = fold-roll-Statement PlainForm PlainStatement form_step statement_step _ in
    let falls : steps (plain_statement c.args.statement.now) ≡ 1 + form_steps (plain_form c.args.statement.now.form) = ap steps whole in (
      omega (arith, c.decreases, falls),
      (
        c.requires.plan,
        (
          c.requires.instance,
          (
            (c.args.statement.now.place, subst (λ s. StandsIn (design_of c.args.plan.now) c.args.instance s) whole c.requires.statement),
            subst (λ s. MayOpen (design_of c.args.plan.now) c.args.instance c.args.spares.now s) whole c.requires.supplied,
          ),
        ),
      ),
    )

pub open_form-open_enable-requires : goal.open_form-open_enable-requires
open_form-open_enable-requires t c =
    let whole : plain_form c.args.form.now ≡ Enable c.in-Enable.group = ap plain_form c.in-Enable.is ∙ ap plain_form (sym (forms.rolls-Enable c.in-Enable.group)) ∙ fold-roll-Form PlainForm PlainStatement form_step statement_step _ in
    let falls : form_steps (plain_form c.args.form.now) ≡ 1 = ap form_steps whole in (
      omega (arith, c.decreases, falls),
      (
        c.requires.plan,
        (
          c.requires.instance,
          (
            c.requires.form,
            (
              whole,
              (
                enabled_group (design_of c.args.plan.now) c.requires.plan.accepted c.requires.plan.design c.args.plan.now.table.rows.items c.args.plan.now.table.children.items c.requires.plan.table c.args.instance c.in-Enable.group
                    (subst (λ f. FormStands (design_of c.args.plan.now) c.args.instance f) whole c.requires.form),
                subst (λ f. MayOpen (design_of c.args.plan.now) c.args.instance c.args.spares.now (Placed f no_place)) whole c.requires.supplied,
              ),
            ),
          ),
        ),
      ),
    )

pub open_form-returns-in-Empty-clause-ledger : goal.open_form-returns-in-Empty-clause-ledger
open_form-returns-in-Empty-clause-ledger t c = nothing_opened c.args.spares.now strands.Idling amount_idling

pub open_form-returns-in-If-clause-ledger : goal.open_form-returns-in-If-clause-ledger
open_form-returns-in-If-clause-ledger t c = nothing_opened c.args.spares.now _ (λ x. amount_choice x _ _ _ _)

pub open_form-returns-in-While-clause-ledger : goal.open_form-returns-in-While-clause-ledger
open_form-returns-in-While-clause-ledger t c = nothing_opened c.args.spares.now _ (λ x. amount_test x _ _ _)

pub open_form-returns-in-StaticInvoke-clause-ledger : goal.open_form-returns-in-StaticInvoke-clause-ledger
open_form-returns-in-StaticInvoke-clause-ledger t c = nothing_opened c.args.spares.now strands.Waiting amount_waiting

pub open_form-returns-in-Timed-clause-ledger : goal.open_form-returns-in-Timed-clause-ledger
open_form-returns-in-Timed-clause-ledger t c = nothing_opened c.args.spares.now strands.Waiting amount_waiting

pub open_seq-open_statement-run-requires : goal.open_seq-open_statement-run-requires
open_seq-open_statement-run-requires t c =
    let are : c.args.parts.now ≡ c.in-Some.part.now ∷ c.in-Some.later.now = search rules in
    let some : 0 < length c.args.parts.now = subst (λ (xs : List Statement). 0 < length xs) (sym are) (omega arith) in
    let first : c.in-Some.part.now ≡ get_or c.args.parts.now 0 c.in-Some.part.now = ap (λ (xs : List Statement). get_or xs 0 c.in-Some.part.now) (sym are) in (
      omega (arith, c.decreases, part_falls c.args.parts.now 0 c.in-Some.part.now some first),
      (
        c.requires.plan,
        (
          c.requires.instance,
          (
            part_stands (design_of c.args.plan.now) c.args.instance c.args.parts.now 0 c.in-Some.part.now some first c.requires.parts,
            first_asked (design_of c.args.plan.now) c.args.instance c.args.spares.now c.args.parts.now c.in-Some.later.now c.in-Some.part.now are c.requires.supplied,
          ),
        ),
      ),
    )

pub open_seq-take_box-first-requires : goal.open_seq-take_box-first-requires
open_seq-take_box-first-requires t c =
    let are : c.args.parts.now ≡ c.in-Some.part.now ∷ c.in-Some.later.now = search rules in
    record {
      some =
          seq_box (design_of c.args.plan.now) c.args.instance c.args.spares.now c.open_statement-run.new.spares c.args.parts.now c.in-Some.later.now c.in-Some.part.now c.open_statement-run.result are c.requires.supplied c.open_statement-run.ensures.opens
          c.open_statement-run.ensures.ledger;
    }

pub open_seq-returns-in-None-clause-opens : goal.open_seq-returns-in-None-clause-opens
open_seq-returns-in-None-clause-opens t c =
    let count : length c.args.parts.now ≡ 0 = (let e = c.in-None.ensures.cases in search (rules, e)) in
    let are : c.args.parts.now ≡ [] = none_are c.args.parts.now count in
    seq_none (design_of c.args.plan.now) c.args.instance c.args.parts.now strands.Idling are is_idling

pub open_seq-returns-in-None-clause-ledger : goal.open_seq-returns-in-None-clause-ledger
open_seq-returns-in-None-clause-ledger t c = nothing_opened c.args.spares.now strands.Idling amount_idling

pub open_seq-returns-in-Some-clause-opens : goal.open_seq-returns-in-Some-clause-opens
open_seq-returns-in-Some-clause-opens t c =
    let d = design_of c.args.plan.now in
    let are : c.args.parts.now ≡ c.in-Some.part.now ∷ c.in-Some.later.now = search rules in
    seq_some d c.args.instance c.args.parts.now c.in-Some.later.now c.in-Some.part.now (strands.InSeq c.take_box-first.result c.in-Some.later) c.take_box-first.result.value are (is_seq c.take_box-first.result c.in-Some.later)
    (subst (OpensAs d c.args.instance (plain_statement c.in-Some.part.now)) (sym c.take_box-first.ensures.value) c.open_statement-run.ensures.opens) (later_stand d c.args.instance c.args.parts.now c.in-Some.later.now c.in-Some.part.now are c.requires.parts)

pub open_seq-returns-in-Some-clause-ledger : goal.open_seq-returns-in-Some-clause-ledger
open_seq-returns-in-Some-clause-ledger t c =
    boxed c.args.spares.now c.open_statement-run.new.spares c.take_box-first.new.spares c.open_statement-run.result (strands.InSeq c.take_box-first.result c.in-Some.later) c.open_statement-run.ensures.ledger c.take_box-first.ensures.ledger
    (λ x. amount_seq x c.take_box-first.result c.in-Some.later ∙ ap (λ (s : Strand). box_amount x + amount x s) c.take_box-first.ensures.value)

pub open_par-open_arms-opened-requires : goal.open_par-open_arms-opened-requires
open_par-open_arms-opened-requires t c =
    let none : length c.args.arms.now ≢ 0 = search rules in (
      omega (arith, c.decreases),
      (
        c.requires.plan,
        (c.requires.instance, (c.requires.arms, (omega (arith, none), arms_asked (design_of c.args.plan.now) c.args.instance c.args.spares.now (plain_statements c.args.arms.now) c.requires.supplied))),
      ),
    )

pub open_par-take_arms-room-requires : goal.open_par-take_arms-room-requires
open_par-take_arms-room-requires t c = record {
  some =
      par_box (design_of c.args.plan.now) c.args.instance c.args.spares.now (plain_statements c.args.arms.now) c.requires.supplied c.open_arms-opened.new.spares c.open_arms-opened.result c.open_arms-opened.ensures.opens c.open_arms-opened.ensures.ledger;
}

pub open_par-returns-then-is_empty-clause-ledger : goal.open_par-returns-then-is_empty-clause-ledger
open_par-returns-then-is_empty-clause-ledger t c = nothing_opened c.args.spares.now strands.Idling amount_idling

pub open_par-returns-clause-opens : goal.open_par-returns-clause-opens
open_par-returns-clause-opens t c =
    let same : c.take_arms-room.result.value ≡ c.open_arms-opened.result = c.take_arms-room.ensures.value in
    par_opens (design_of c.args.plan.now) c.args.instance c.args.arms.now c.open_arms-opened.result (strands.InPar c.take_arms-room.result) (search rules) c.open_arms-opened.ensures.opens (is_par c.take_arms-room.result ∙ ap (λ (x : Arms). APar (plain_arms x)) same)

pub open_par-returns-clause-ledger : goal.open_par-returns-clause-ledger
open_par-returns-clause-ledger t c =
    arms_boxed c.args.spares.now c.open_arms-opened.new.spares c.take_arms-room.new.spares c.open_arms-opened.result (strands.InPar c.take_arms-room.result) c.open_arms-opened.ensures.ledger c.take_arms-room.ensures.ledger
    (λ x. amount_par x c.take_arms-room.result ∙ ap (λ (a : Arms). arms_box_amount x + arms_amount x a) c.take_arms-room.ensures.value)

pub open_arms-open_statement-strand-requires : goal.open_arms-open_statement-strand-requires
open_arms-open_statement-strand-requires t c =
    let d = design_of c.args.plan.now in
    let one : length c.args.arms.now ≡ 1 = (let a = c.if-arms-eq1.true in first_of (omega (arith, a), search (rules, a))) in (
      omega (arith, c.decreases, part_falls c.args.arms.now 0 c.index-arms-0.result c.requires.some c.index-arms-0.is),
      (
        c.requires.plan,
        (
          c.requires.instance,
          (
            part_stands d c.args.instance c.args.arms.now 0 c.index-arms-0.result c.requires.some c.index-arms-0.is c.requires.arms,
            arm_asked d c.args.instance c.args.spares.now c.args.arms.now c.index-arms-0.result (one_is d c.args.instance c.args.arms.now c.index-arms-0.result one c.index-arms-0.is) c.requires.supplied,
          ),
        ),
      ),
    )

pub open_arms-open_arms-first-requires : goal.open_arms-open_arms-first-requires
open_arms-open_arms-first-requires t c =
    let d = design_of c.args.plan.now in
    let front = c.split_at.result.0.now in
    let back = c.split_at.result.1.now in
    let all : front ++ back ≡ c.args.arms.now = halves c.args.arms.now front back _ c.split_at.ensures.front c.split_at.ensures.back in
    let ends = c.split_at.ensures.back_len in
    let begins = c.split_at.ensures.front_len in
    let some = c.requires.some in
    let falls = front_falls c.args.arms.now front back all (omega (arith, ends, some)) in
    let may : MayOpenAll d c.args.instance c.args.spares.now (plain_statements (front ++ back)) = subst (λ (xs : List Statement). MayOpenAll d c.args.instance c.args.spares.now (plain_statements xs)) (sym all) c.requires.supplied in (
      omega (arith, c.decreases, falls),
      (
        c.requires.plan,
        (c.requires.instance, (front_stands d c.args.instance c.args.arms.now front back all c.requires.arms, (omega (arith, begins, some), front_asked d c.args.instance c.args.spares.now front back may))),
      ),
    )

pub open_arms-open_arms-second-requires : goal.open_arms-open_arms-second-requires
open_arms-open_arms-second-requires t c =
    let d = design_of c.args.plan.now in
    let front = c.split_at.result.0.now in
    let back = c.split_at.result.1.now in
    let all : front ++ back ≡ c.args.arms.now = halves c.args.arms.now front back _ c.split_at.ensures.front c.split_at.ensures.back in
    let ends = c.split_at.ensures.back_len in
    let begins = c.split_at.ensures.front_len in
    let some = c.requires.some in
    let falls = back_falls c.args.arms.now front back all (omega (arith, begins, some)) in
    let may : MayOpenAll d c.args.instance c.args.spares.now (plain_statements (front ++ back)) = subst (λ (xs : List Statement). MayOpenAll d c.args.instance c.args.spares.now (plain_statements xs)) (sym all) c.requires.supplied in (
      omega (arith, c.decreases, falls),
      (
        c.requires.plan,
        (
          c.requires.instance,
          (
            back_stands d c.args.instance c.args.arms.now front back all c.requires.arms,
            (
              omega (arith, ends, some),
              back_asked d c.args.instance c.args.spares.now front back may c.open_arms-first.new.spares c.open_arms-first.result c.open_arms-first.ensures.opens c.open_arms-first.ensures.ledger,
            ),
          ),
        ),
      ),
    )

pub open_arms-take_arms-one-requires : goal.open_arms-take_arms-one-requires
open_arms-take_arms-one-requires t c =
    let d = design_of c.args.plan.now in
    let front = c.split_at.result.0.now in
    let back = c.split_at.result.1.now in
    let all : front ++ back ≡ c.args.arms.now = halves c.args.arms.now front back _ c.split_at.ensures.front c.split_at.ensures.back in
    let may : MayOpenAll d c.args.instance c.args.spares.now (plain_statements (front ++ back)) = subst (λ (xs : List Statement). MayOpenAll d c.args.instance c.args.spares.now (plain_statements xs)) (sym all) c.requires.supplied in
    record {
      some =
          first_box d c.args.instance c.args.spares.now front back may c.open_arms-first.new.spares c.open_arms-first.result c.open_arms-first.ensures.opens c.open_arms-first.ensures.ledger c.open_arms-second.new.spares c.open_arms-second.result
          c.open_arms-second.ensures.opens c.open_arms-second.ensures.ledger;
    }

pub open_arms-take_arms-other-requires : goal.open_arms-take_arms-other-requires
open_arms-take_arms-other-requires t c =
    let d = design_of c.args.plan.now in
    let front = c.split_at.result.0.now in
    let back = c.split_at.result.1.now in
    let all : front ++ back ≡ c.args.arms.now = halves c.args.arms.now front back _ c.split_at.ensures.front c.split_at.ensures.back in
    let may : MayOpenAll d c.args.instance c.args.spares.now (plain_statements (front ++ back)) = subst (λ (xs : List Statement). MayOpenAll d c.args.instance c.args.spares.now (plain_statements xs)) (sym all) c.requires.supplied in
    record {
      some =
          second_box d c.args.instance c.args.spares.now front back may c.open_arms-first.new.spares c.open_arms-first.result c.open_arms-first.ensures.opens c.open_arms-first.ensures.ledger c.open_arms-second.new.spares c.take_arms-one.new.spares
          c.open_arms-second.result c.open_arms-second.ensures.opens c.open_arms-second.ensures.ledger c.take_arms-one.ensures.ledger;
    }

pub open_arms-returns-then-arms-eq1-clause-opens : goal.open_arms-returns-then-arms-eq1-clause-opens
open_arms-returns-then-arms-eq1-clause-opens t c =
    let one : length c.args.arms.now ≡ 1 = (let a = c.if-arms-eq1.true in first_of (omega (arith, a), search (rules, a))) in
    arm_opens (design_of c.args.plan.now) c.args.instance c.args.arms.now c.index-arms-0.result (parts.One c.open_statement-strand.result) c.open_statement-strand.result one c.index-arms-0.is (is_one c.open_statement-strand.result) c.open_statement-strand.ensures.opens

pub open_arms-returns-then-arms-eq1-clause-ledger : goal.open_arms-returns-then-arms-eq1-clause-ledger
open_arms-returns-then-arms-eq1-clause-ledger t c = one_opened c.args.spares.now c.open_statement-strand.new.spares c.open_statement-strand.result (parts.One c.open_statement-strand.result) c.open_statement-strand.ensures.ledger (λ x. amount_one x c.open_statement-strand.result)

pub open_arms-returns-clause-opens : goal.open_arms-returns-clause-opens
open_arms-returns-clause-opens t c =
    let d = design_of c.args.plan.now in
    let front = c.split_at.result.0.now in
    let back = c.split_at.result.1.now in
    let all : front ++ back ≡ c.args.arms.now = halves c.args.arms.now front back _ c.split_at.ensures.front c.split_at.ensures.back in
    both_open d c.args.instance c.args.arms.now front back c.open_arms-first.result c.open_arms-second.result c.both.result all
    (subst (λ (x : Arms). IsBoth (plain_arms x) (plain_arms c.open_arms-second.result) (plain_arms c.both.result)) c.take_arms-one.ensures.value
    (subst (λ (x : Arms). IsBoth (plain_arms c.take_arms-one.result.value) (plain_arms x) (plain_arms c.both.result)) c.take_arms-other.ensures.value c.both.ensures.both)) c.open_arms-first.ensures.opens c.open_arms-second.ensures.opens

pub open_arms-returns-clause-ledger : goal.open_arms-returns-clause-ledger
open_arms-returns-clause-ledger t c =
    both_boxed c.args.spares.now c.open_arms-first.new.spares c.open_arms-second.new.spares c.take_arms-one.new.spares c.take_arms-other.new.spares c.open_arms-first.result c.open_arms-second.result c.both.result c.open_arms-first.ensures.ledger
    c.open_arms-second.ensures.ledger c.take_arms-one.ensures.ledger c.take_arms-other.ensures.ledger
    (λ x.
    c.both.ensures.amount x
    ∙ ap (λ (a : Arms). (arms_box_amount x + arms_amount x a) + (arms_box_amount x + arms_amount x c.take_arms-other.result.value)) c.take_arms-one.ensures.value
    ∙ ap (λ (a : Arms). (arms_box_amount x + arms_amount x c.open_arms-first.result) + (arms_box_amount x + arms_amount x a)) c.take_arms-other.ensures.value)

pub open_repeat-open_statement-run-requires : goal.open_repeat-open_statement-run-requires
open_repeat-open_statement-run-requires t c =
    (omega (arith, c.decreases), (c.requires.plan, (c.requires.instance, (c.requires.body, body_asked (design_of c.args.plan.now) c.args.instance c.args.spares.now (plain_statement c.args.body.now) c.requires.supplied))))

pub open_repeat-take_box-run-requires : goal.open_repeat-take_box-run-requires
open_repeat-take_box-run-requires t c = record {
  some =
      body_box (design_of c.args.plan.now) c.args.instance c.args.spares.now c.open_statement-run.new.spares (plain_statement c.args.body.now) c.open_statement-run.result c.requires.supplied c.open_statement-run.ensures.opens
      c.open_statement-run.ensures.ledger;
}

pub open_repeat-returns-then-count-eq0-clause-ledger : goal.open_repeat-returns-then-count-eq0-clause-ledger
open_repeat-returns-then-count-eq0-clause-ledger t c = nothing_opened c.args.spares.now strands.Idling amount_idling

pub open_repeat-returns-clause-ledger : goal.open_repeat-returns-clause-ledger
open_repeat-returns-clause-ledger t c =
    boxed c.args.spares.now c.open_statement-run.new.spares c.take_box-run.new.spares c.open_statement-run.result (strands.InRepeat c.take_box-run.result (c.args.count - 1) c.args.body) c.open_statement-run.ensures.ledger c.take_box-run.ensures.ledger
    (λ x. amount_repeat x c.take_box-run.result (c.args.count - 1) c.args.body ∙ ap (λ (s : Strand). box_amount x + amount x s) c.take_box-run.ensures.value)

pub open_dynamic-open_call-requires : goal.open_dynamic-open_call-requires
open_dynamic-open_call-requires t c = (
  omega (arith, c.decreases),
  (
    c.requires.plan,
    (
      c.requires.instance,
      (
        c.requires.group,
        (
          c.requires.dynamic,
          (
            callee_part (design_of c.args.plan.now) c.args.instance c.args.group c.in-Some.cell c.group_row-row.result.now c.group_row-row.ensures c.in-Some.is,
            (λ path number. sym (c.group_row-row.ensures path number).callee ∙ c.in-Some.is, c.requires.supplied),
          ),
        ),
      ),
    ),
  ),
)

pub open_dynamic-returns-in-None-clause-ledger : goal.open_dynamic-returns-in-None-clause-ledger
open_dynamic-returns-in-None-clause-ledger t c = nothing_opened c.args.spares.now (strands.InGroup c.args.group) (λ x. amount_group x c.args.group)

pub open_call-control_of-control-requires-clause-instance : goal.open_call-control_of-control-requires-clause-instance
open_call-control_of-control-requires-clause-instance t c = child_instance (design_of c.args.plan.now) c.args.instance c.args.cell c.child_number-number.result c.requires.instance c.child_number-number.ensures

pub open_call-open_statement-run-requires : goal.open_call-open_statement-run-requires
open_call-open_statement-run-requires t c = (
  omega (
    arith,
    c.decreases,
    child_less (design_of c.args.plan.now) c.args.instance c.args.cell c.child_number-number.result (plain_statement c.control_of-control.result.now) c.requires.instance c.requires.part c.child_number-number.ensures c.control_of-control.ensures,
  ),
  (
    c.requires.plan,
    (
      child_instance (design_of c.args.plan.now) c.args.instance c.args.cell c.child_number-number.result c.requires.instance c.child_number-number.ensures,
      (
        control_stands (design_of c.args.plan.now) c.child_number-number.result (plain_statement c.control_of-control.result.now) c.control_of-control.ensures,
        control_asked (design_of c.args.plan.now) c.args.instance c.args.group c.args.cell c.child_number-number.result c.args.spares.now (plain_statement c.control_of-control.result.now) c.requires.dynamic c.requires.part c.child_number-number.ensures c.requires.calls
            c.control_of-control.ensures c.requires.supplied,
      ),
    ),
  ),
)

pub open_call-take_box-child-requires : goal.open_call-take_box-child-requires
open_call-take_box-child-requires t c = record {
  some =
      call_box (design_of c.args.plan.now) c.args.instance c.args.group c.args.cell c.child_number-number.result c.args.spares.now (plain_statement c.control_of-control.result.now) c.requires.dynamic c.requires.part c.child_number-number.ensures c.requires.calls
      c.control_of-control.ensures c.requires.supplied c.open_statement-run.new.spares c.open_statement-run.result c.open_statement-run.ensures.opens c.open_statement-run.ensures.ledger;
}

pub open_call-returns-clause-opens : goal.open_call-returns-clause-opens
open_call-returns-clause-opens t c =
    let d = design_of c.args.plan.now in
    call_opens d c.args.instance c.args.group c.args.cell c.child_number-number.result (plain_statement c.control_of-control.result.now) (strands.InCall c.args.group c.args.cell None c.take_box-child.result) c.take_box-child.result.value (is_call c.args.group c.args.cell None c.take_box-child.result)
    c.requires.group c.requires.dynamic c.requires.calls c.requires.part c.child_number-number.ensures c.control_of-control.ensures
    (subst (OpensAs d c.child_number-number.result (plain_statement c.control_of-control.result.now)) (sym c.take_box-child.ensures.value) c.open_statement-run.ensures.opens)

pub open_call-returns-clause-ledger : goal.open_call-returns-clause-ledger
open_call-returns-clause-ledger t c =
    boxed c.args.spares.now c.open_statement-run.new.spares c.take_box-child.new.spares c.open_statement-run.result (strands.InCall c.args.group c.args.cell None c.take_box-child.result) c.open_statement-run.ensures.ledger c.take_box-child.ensures.ledger
    (λ x. call_strand x c.args.group c.args.cell c.take_box-child.result ∙ ap (λ (s : Strand). box_amount x + amount x s) c.take_box-child.ensures.value)
