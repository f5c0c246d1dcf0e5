use Rattle.std.proofs.Common.{◌≡◌, ◌∷◌, ◌+◌, ◌++◌, [], ◌∙◌, arith, length, sym, ap, subst, drop, map, append_assoc, append-nil, suc}
use Rattle.std.proofs.lemmas.List.{drop_all, map_push}
use Rattle.cx_design.specs.PlainForms.{form_step, statement_step, plain_form, plain_statement, plain_statements}
use Rattle.cx_design.specs.declared.statements.Form.TheFolds.{fold-roll-Form, fold-roll-Statement}
use Rattle.cx_design.specs.declared.statements.Form.TheVariants as forms
use Rattle.cx_meaning.specs.Designs.{PlainForm, PlainStatement, Placed, Seq}
use Rattle.cx_net.specs.PlainNets.{plain_net_drivers, plain_net_expr}
use Rattle.cx_wiring.specs.Control.{arms_drivers, drivers_of, form_drivers}
use Rattle.cx_wiring.specs.Counts.{wires_in, arms_registers}
use Rattle.cx_wiring.specs.Stands.{behind, ends, stands}
use Rattle.cx_fsm.specs.ControlPieces.{arm_made}
use Rattle.cx_fsm.specs.Drafts.{Adds, IsWhole}
use Rattle.cx_fsm.specs.PlainStands.{beside, islands_of, past, plain_stand}
use Rattle.cx_fsm.proofs.ControlLemmas.{seq_begins, seq_step, next_begins, next_step, arms_step, over_step, par_made, repeat_made}
use Rattle.cx_fsm.proofs.StandLemmas.{past_arm, past_none}
use Rattle.cx_text.proofs.ListLaws.{drop_item}
use Rattle.cx_fsm.proofs.control.+control.Goals as goal

pub seq-loop-part-init : goal.seq-loop-part-init
seq-loop-part-init t c =
    let groups = c.args.plan.now.groups in
    let islands = islands_of c.args.plan.now in
    let x = plain_stand c.args.stand in
    let y = plain_stand c.inside-next.result in
    let whole = plain_statements c.args.parts.now in
    record {
      next = λ h. next_begins groups islands x whole y (c.inside-next.ensures.value h);
      driven = record {
        whole = λ h. h;
        driven = λ h. ap (λ l. plain_net_drivers c.inside-next.new.draft.drivers.items ++ l) (seq_begins groups islands x whole y (c.inside-next.ensures.value h));
      };
    }

pub seq-loop-part-preserved : goal.seq-loop-part-preserved
seq-loop-part-preserved t c =
    let other : drop c.loop-part.part-index c.args.parts.now ≡ c.part-item.result ∷ drop (c.loop-part.part-index + 1) c.args.parts.now = drop_item _ _ _ c.part-item.is c.loop-part-test.true in
    let groups = c.args.plan.now.groups in
    let islands = islands_of c.args.plan.now in
    let x = plain_stand c.args.stand in
    let y = plain_stand c.loop-part.next in
    let z = plain_stand c.statement_drivers-next.result in
    let s = plain_statement c.part-item.result in
    let rest = plain_statements (drop (c.loop-part.part-index + 1) c.args.parts.now) in
    let so_far : IsWhole c.statement_drivers-next.new.draft → IsWhole c.loop-part.draft = λ h. c.leads.ensures.driven.whole (c.statement_drivers-next.ensures.driven.whole h) in
    record {
      next = λ h. next_step groups islands x c.loop-part.last y z s rest _ (c.statement_drivers-next.ensures.behind h) (rw other at (c.loop-part.invariant.next (so_far h)));
      driven = record {
        whole = λ h. c.loop-part.invariant.driven.whole (so_far h);
        driven = λ h.
            seq_step groups islands x c.loop-part.last y z s rest (plain_net_drivers c.loop-part.draft.drivers.items) (plain_net_drivers c.leads.new.draft.drivers.items) (plain_net_drivers c.statement_drivers-next.new.draft.drivers.items) _
            (c.statement_drivers-next.ensures.behind h) (c.leads.ensures.driven.driven (c.statement_drivers-next.ensures.driven.whole h)) (c.statement_drivers-next.ensures.driven.driven h)
            (rw other at (c.loop-part.invariant.driven.driven (so_far h)));
      };
    }

pub seq-returns-in-None-clause-behind : goal.seq-returns-in-None-clause-behind
seq-returns-in-None-clause-behind t c = λ h.
    let none : drop c.loop-part.part-index c.args.parts.now ≡ [] = drop_all _ _ c.loop-part-test.false in
    c.one_turn.ensures.behind h ∙ (rw (none, c.in-None.is) at (c.loop-part.invariant.next (c.one_turn.ensures.driven.whole h)))

pub seq-returns-in-None-clause-driven : goal.seq-returns-in-None-clause-driven
seq-returns-in-None-clause-driven t c =
    let none : drop c.loop-part.part-index c.args.parts.now ≡ [] = drop_all _ _ c.loop-part-test.false in
    let all = form_drivers c.args.plan.now.groups (islands_of c.args.plan.now) (plain_stand c.args.stand) (Seq (plain_statements c.args.parts.now)) in
    record {
      whole = λ h. c.inside-next.ensures.kept.whole (c.loop-part.invariant.driven.whole (c.one_turn.ensures.driven.whole h));
      driven = λ h.
          c.one_turn.ensures.driven.driven h
          ∙ (rw (none, c.in-None.is) at (c.loop-part.invariant.driven.driven (c.one_turn.ensures.driven.whole h)))
          ∙ ap (λ l. plain_net_drivers l ++ all) c.inside-next.ensures.kept.kept;
    }

pub seq-returns-in-Some-clause-behind : goal.seq-returns-in-Some-clause-behind
seq-returns-in-Some-clause-behind t c = λ h.
    let none : drop c.loop-part.part-index c.args.parts.now ≡ [] = drop_all _ _ c.loop-part-test.false in
    sym (past_none (plain_stand c.loop-part.next)) ∙ (rw (none, c.in-Some.is) at (c.loop-part.invariant.next (c.end_of-end.ensures.kept.whole (c.ends.ensures.driven.whole h))))

pub seq-returns-in-Some-clause-driven : goal.seq-returns-in-Some-clause-driven
seq-returns-in-Some-clause-driven t c =
    let none : drop c.loop-part.part-index c.args.parts.now ≡ [] = drop_all _ _ c.loop-part-test.false in
    let x = plain_stand c.args.stand in
    let all = form_drivers c.args.plan.now.groups (islands_of c.args.plan.now) x (Seq (plain_statements c.args.parts.now)) in
    let so_far : IsWhole c.ends.new.draft → IsWhole c.loop-part.draft = λ h. c.end_of-end.ensures.kept.whole (c.ends.ensures.driven.whole h) in
    record {
      whole = λ h. c.inside-next.ensures.kept.whole (c.loop-part.invariant.driven.whole (so_far h));
      driven = λ h.
          c.ends.ensures.driven.driven h
          ∙ ap (λ l. plain_net_drivers l ++ ends x (plain_net_expr c.end_of-end.result) ∷ []) c.end_of-end.ensures.kept.kept
          ∙ ap (λ e. plain_net_drivers c.loop-part.draft.drivers.items ++ ends x e ∷ []) (c.end_of-end.ensures.value (c.ends.ensures.driven.whole h))
          ∙ (rw (none, c.in-Some.is) at (c.loop-part.invariant.driven.driven (so_far h)))
          ∙ ap (λ l. plain_net_drivers l ++ all) c.inside-next.ensures.kept.kept;
    }

pub par-loop-statement-preserved : goal.par-loop-statement-preserved
par-loop-statement-preserved t c =
    let other : drop c.loop-statement.statement-index c.args.arms.now ≡ c.statement-item.result ∷ drop (c.loop-statement.statement-index + 1) c.args.arms.now = drop_item _ _ _ c.statement-item.is c.loop-statement-test.true in
    let groups = c.args.plan.now.groups in
    let islands = islands_of c.args.plan.now in
    let x = plain_stand c.args.stand in
    let y = plain_stand c.loop-statement.next in
    let own = plain_stand c.arm-own.result in
    let z = plain_stand c.arm-behind.result in
    let s = plain_statement c.statement-item.result in
    let rest = plain_statements (drop (c.loop-statement.statement-index + 1) c.args.arms.now) in
    let made : IsWhole c.push-in-loop-statement.new.self → IsWhole c.arm-behind.new.draft = λ h. c.arm_over-ended.ensures.kept.whole (c.push-in-loop-statement.ensures.kept.whole h) in
    let own_made : IsWhole c.push-in-loop-statement.new.self → IsWhole c.arm-own.new.draft = λ h. c.arm-behind.ensures.driven.whole (made h) in
    let so_far : IsWhole c.push-in-loop-statement.new.self → IsWhole c.loop-statement.draft = λ h. c.arm-own.ensures.kept.whole (own_made h) in
    record {
      next = λ h.
          ap (λ v. past (beside y v) (wires_in rest) (length (arms_registers islands rest)) 0) (c.arm-behind.ensures.behind (made h) ∙ ap (behind islands s) (c.arm-own.ensures.value (own_made h)))
          ∙ past_arm islands y s rest x
          ∙ (rw other at (c.loop-statement.invariant.next (so_far h)));
      over = λ h.
          rw (c.push-in-loop-statement.ensures.value h, map_push plain_net_expr c.loop-statement.over.items c.arm_over-ended.result)
          (over_step groups islands x y own z s rest (map plain_net_expr c.loop-statement.over.items) _ (plain_net_expr c.arm_over-ended.result)
          (c.arm-own.ensures.value (own_made h)) (c.arm-behind.ensures.behind (made h)) (c.arm_over-ended.ensures.value (c.push-in-loop-statement.ensures.kept.whole h))
          (rw other at (c.loop-statement.invariant.over (so_far h))));
      driven = record {
        whole = λ h. c.loop-statement.invariant.driven.whole (so_far h);
        driven = λ h.
            rw (c.push-in-loop-statement.ensures.kept.kept, c.arm_over-ended.ensures.kept.kept)
            (arms_step groups islands x y own z s rest (plain_net_drivers c.loop-statement.draft.drivers.items) (plain_net_drivers c.arm-behind.new.draft.drivers.items) _
            (c.arm-own.ensures.value (own_made h)) (c.arm-behind.ensures.behind (made h))
            (c.arm-behind.ensures.driven.driven (made h) ∙ ap (λ l. plain_net_drivers l ++ arm_made groups islands x own s) c.arm-own.ensures.kept.kept)
            (rw other at (c.loop-statement.invariant.driven.driven (so_far h))));
      };
    }

pub par-returns-clause-driven : goal.par-returns-clause-driven
par-returns-clause-driven t c =
    let none : drop c.loop-statement.statement-index c.args.arms.now ≡ [] = drop_all _ _ c.loop-statement-test.false in
    let groups = c.args.plan.now.groups in
    let islands = islands_of c.args.plan.now in
    let x = plain_stand c.args.stand in
    let all = plain_statements c.args.arms.now in
    let arms = arms_drivers groups islands x (suc (suc c.args.stand.wire)) c.args.stand.register all in
    let first : IsWhole c.ends.new.draft → IsWhole c.stands.new.draft = λ h.
    c.push.ensures.kept.whole (c.past-next.ensures.kept.whole (c.loop-statement.invariant.driven.whole (c.ends.ensures.driven.whole h))) in
    record {
      whole = λ h. c.stands.ensures.driven.whole (first h);
      driven = λ h.
          par_made groups islands x all (map plain_net_expr c.loop-statement.over.items) _ (plain_net_drivers c.args.draft.now.drivers.items) (plain_net_drivers c.loop-statement.draft.drivers.items) _
          (sym (append-nil (plain_net_drivers c.loop-statement.draft.drivers.items))
          ∙ (rw none at (c.loop-statement.invariant.driven.driven (c.ends.ensures.driven.whole h)))
          ∙ ap (λ l. plain_net_drivers l ++ arms) (c.past-next.ensures.kept.kept ∙ c.push.ensures.kept.kept)
          ∙ ap (λ l. l ++ arms) (c.stands.ensures.driven.driven (first h))
          ∙ append_assoc (plain_net_drivers c.args.draft.now.drivers.items) (stands x ∷ []) arms)
          (sym (append-nil (map plain_net_expr c.loop-statement.over.items)) ∙ (rw none at (c.loop-statement.invariant.over (c.ends.ensures.driven.whole h))))
          c.all_of.ensures.value
          (c.ends.ensures.driven.driven h);
    }

pub statement_drivers-returns-in-Seq-clause-driven : goal.statement_drivers-returns-in-Seq-clause-driven
statement_drivers-returns-in-Seq-clause-driven t c =
    let groups = c.args.plan.now.groups in
    let islands = islands_of c.args.plan.now in
    let x = plain_stand c.args.stand in
    let place = c.args.statement.now.place in
    let form : plain_form c.args.statement.now.form ≡ Seq (plain_statements c.in-Seq.parts.items) =
    ap plain_form c.in-Seq.is ∙ ap plain_form (sym (forms.rolls-Seq c.in-Seq.parts)) ∙ fold-roll-Form PlainForm PlainStatement form_step statement_step _ in
    let is : plain_statement c.args.statement.now ≡ Placed (Seq (plain_statements c.in-Seq.parts.items)) place =
    fold-roll-Statement PlainForm PlainStatement form_step statement_step _ ∙ ap (λ f. Placed f place) form in
    subst (λ s. Adds c.args.draft.now c.seq.new.draft (drivers_of groups islands x s)) (sym is)
    (subst (λ l. Adds c.args.draft.now c.seq.new.draft (form_drivers groups islands x (Seq (plain_statements l)))) c.as_slice.ensures.value c.seq.ensures.driven)

pub counted-returns-clause-driven : goal.counted-returns-clause-driven
counted-returns-clause-driven t c =
    let n = c.in-Some.last in
    let more : c.args.count ≡ suc n = omega arith in
    let made : IsWhole c.counting.new.draft → IsWhole c.statement_drivers-next.new.draft = λ h. c.cycles-last.ensures.kept.whole (c.counting.ensures.driven.whole h) in
    let first : IsWhole c.counting.new.draft → IsWhole c.counted_inside-first.new.draft = λ h. c.statement_drivers-next.ensures.driven.whole (made h) in
    record {
      whole = λ h. c.counted_inside-first.ensures.kept.whole (first h);
      driven = λ h.
          repeat_made c.args.plan.now.groups (islands_of c.args.plan.now) (plain_stand c.args.stand) n c.args.count c.cycles-last.result (plain_statement c.args.body.now) (plain_stand c.counted_inside-first.result)
          (plain_net_drivers c.args.draft.now.drivers.items) (plain_net_drivers c.counted_inside-first.new.draft.drivers.items) (plain_net_drivers c.cycles-last.new.self.drivers.items) (plain_net_drivers c.counting.new.draft.drivers.items)
          more (c.cycles-last.ensures.value (c.counting.ensures.driven.whole h)) (c.counted_inside-first.ensures.value (first h)) (ap plain_net_drivers c.counted_inside-first.ensures.kept.kept)
          (ap plain_net_drivers c.cycles-last.ensures.kept.kept ∙ c.statement_drivers-next.ensures.driven.driven (made h))
          (c.counting.ensures.driven.driven h);
    }
