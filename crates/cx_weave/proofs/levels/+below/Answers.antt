use Rattle.std.proofs.Common.{◌≡◌, ◌+◌, sym, ap, ◌∙◌, subst, arith}
use Rattle.std.specs.Box.{with_value}
use Rattle.cx_design.specs.PlainForms.{plain_statement, plain_statements}
use Rattle.cx_turns.specs.Machines.{design_of, rows_of}
use Rattle.cx_weave.specs.declared.strands.Strand.{Strand}
use Rattle.cx_weave.specs.declared.strands.Strand.TheVariants as strands
use Rattle.cx_weave.specs.Ledger.{Kind, amount, box_amount}
use Rattle.cx_weave.specs.Strands.{ASeq, ALoop, ARepeat, IsShown, plain_strand, strand_leaves}
use Rattle.cx_weave.proofs.Amounts.{amount_loop, amount_repeat, amount_seq}
use Rattle.cx_weave.proofs.LevelSteps.{level_kept, loop_below, repeat_below, seq_below}
use Rattle.cx_weave.proofs.PartSteps.{part_shown_loop, part_shown_repeat, part_shown_seq}
use Rattle.cx_weave.proofs.StrandFolds.{is_loop, is_repeat, is_seq}
use Rattle.cx_weave.proofs.StrandSizes.{size_of}
use Rattle.cx_weave.proofs.Supplies.{loop_turns, may_as, repeat_turns, seq_turns}
use Rattle.cx_weave.proofs.levels.+below.Goals as goal

pub step_below-requires : goal.step_below-requires
step_below-requires t c =
    let d = design_of c.args.plan.now in
    let whole : plain_strand c.args.strand.now ≡ ASeq (plain_strand c.deref_mut.result.now) (plain_statements c.in-InSeq.later.now) = ap plain_strand c.in-InSeq.is ∙ is_seq c.in-InSeq.first c.in-InSeq.later ∙ ap (λ (x : Strand). ASeq (plain_strand x) (plain_statements c.in-InSeq.later.now)) (sym c.deref_mut.ensures.value) in
    let had : (x : Kind) → amount x c.args.strand.now ≡ box_amount x + amount x c.deref_mut.result.now = λ x. ap (amount x) c.in-InSeq.is ∙ amount_seq x c.in-InSeq.first c.in-InSeq.later ∙ ap (λ (s : Strand). box_amount x + amount x s) (sym c.deref_mut.ensures.value) in
    let falls : size_of (plain_strand c.args.strand.now) ≡ 1 + size_of (plain_strand c.deref_mut.result.now) = ap size_of whole in
    let leaves : strand_leaves (plain_strand c.args.strand.now) ≡ strand_leaves (plain_strand c.deref_mut.result.now) = ap strand_leaves whole in
    let less = c.requires.leaf in (
      omega (arith, c.decreases, falls),
      (
        c.requires.plan,
        (
          c.requires.machine,
          (
            c.requires.instance,
            (
              part_shown_seq d c.args.instance (plain_strand c.deref_mut.result.now) (plain_statements c.in-InSeq.later.now) (subst (IsShown d c.args.instance) whole c.requires.shown),
              (omega (arith, less, leaves), seq_turns d c.args.instance c.args.spares.now (plain_strand c.deref_mut.result.now) (λ x. amount x c.deref_mut.result.now) (plain_statements c.in-InSeq.later.now) (may_as d c.args.instance c.args.spares.now (plain_strand c.args.strand.now) (ASeq (plain_strand c.deref_mut.result.now) (plain_statements c.in-InSeq.later.now)) (λ x. amount x c.args.strand.now) (λ x. box_amount x + amount x c.deref_mut.result.now) whole had c.requires.supplied)),
            ),
          ),
        ),
      ),
    )

pub returns-in-InSeq-clause-stepped : goal.returns-in-InSeq-clause-stepped
returns-in-InSeq-clause-stepped t c =
    let d = design_of c.args.plan.now in
    let whole : plain_strand c.args.strand.now ≡ ASeq (plain_strand c.deref_mut.result.now) (plain_statements c.in-InSeq.later.now) = ap plain_strand c.in-InSeq.is ∙ is_seq c.in-InSeq.first c.in-InSeq.later ∙ ap (λ (x : Strand). ASeq (plain_strand x) (plain_statements c.in-InSeq.later.now)) (sym c.deref_mut.ensures.value) in
    let kept : Strand = strands.InSeq (with_value c.in-InSeq.first c.step_below.new.strand) c.in-InSeq.later in
    seq_below d (rows_of c.args.machine.now) (rows_of c.step_below.new.machine) c.args.instance c.args.leaf (plain_strand c.deref_mut.result.now) (plain_strand c.args.strand.now) c.step_below.new.strand kept c.step_below.new.told (plain_statements c.in-InSeq.later.now) whole
    (is_seq (with_value c.in-InSeq.first c.step_below.new.strand) c.in-InSeq.later) (subst (IsShown d c.args.instance) whole c.requires.shown).1.3 c.step_below.ensures.stepped

pub returns-in-InSeq-clause-ledger : goal.returns-in-InSeq-clause-ledger
returns-in-InSeq-clause-ledger t c =
    let had : (x : Kind) → amount x c.args.strand.now ≡ box_amount x + amount x c.deref_mut.result.now = λ x. ap (amount x) c.in-InSeq.is ∙ amount_seq x c.in-InSeq.first c.in-InSeq.later ∙ ap (λ (s : Strand). box_amount x + amount x s) (sym c.deref_mut.ensures.value) in
    let kept : Strand = strands.InSeq (with_value c.in-InSeq.first c.step_below.new.strand) c.in-InSeq.later in
    level_kept c.args.spares.now c.step_below.new.spares (λ x. amount x c.deref_mut.result.now) (λ x. amount x c.args.strand.now) c.step_below.new.strand kept c.step_below.new.told had (λ x. amount_seq x (with_value c.in-InSeq.first c.step_below.new.strand) c.in-InSeq.later) c.step_below.ensures.ledger

pub step_below-requires-in-InLoop : goal.step_below-requires-in-InLoop
step_below-requires-in-InLoop t c =
    let d = design_of c.args.plan.now in
    let whole : plain_strand c.args.strand.now ≡ ALoop (plain_strand c.deref_mut-in-InLoop.result.now) c.in-InLoop.port c.in-InLoop.comb (plain_statement c.in-InLoop.body.now) = ap plain_strand c.in-InLoop.is ∙ is_loop c.in-InLoop.run' c.in-InLoop.port c.in-InLoop.comb c.in-InLoop.body ∙ ap (λ (x : Strand). ALoop (plain_strand x) c.in-InLoop.port c.in-InLoop.comb (plain_statement c.in-InLoop.body.now)) (sym c.deref_mut-in-InLoop.ensures.value) in
    let had : (x : Kind) → amount x c.args.strand.now ≡ box_amount x + amount x c.deref_mut-in-InLoop.result.now = λ x. ap (amount x) c.in-InLoop.is ∙ amount_loop x c.in-InLoop.run' c.in-InLoop.port c.in-InLoop.comb c.in-InLoop.body ∙ ap (λ (s : Strand). box_amount x + amount x s) (sym c.deref_mut-in-InLoop.ensures.value) in
    let falls : size_of (plain_strand c.args.strand.now) ≡ 1 + size_of (plain_strand c.deref_mut-in-InLoop.result.now) = ap size_of whole in
    let leaves : strand_leaves (plain_strand c.args.strand.now) ≡ strand_leaves (plain_strand c.deref_mut-in-InLoop.result.now) = ap strand_leaves whole in
    let less = c.requires.leaf in (
      omega (arith, c.decreases, falls),
      (
        c.requires.plan,
        (
          c.requires.machine,
          (
            c.requires.instance,
            (
              part_shown_loop d c.args.instance (plain_strand c.deref_mut-in-InLoop.result.now) c.in-InLoop.port c.in-InLoop.comb (plain_statement c.in-InLoop.body.now) (subst (IsShown d c.args.instance) whole c.requires.shown),
              (omega (arith, less, leaves), loop_turns d c.args.instance c.args.spares.now (plain_strand c.deref_mut-in-InLoop.result.now) (λ x. amount x c.deref_mut-in-InLoop.result.now) c.in-InLoop.port c.in-InLoop.comb (plain_statement c.in-InLoop.body.now) (may_as d c.args.instance c.args.spares.now (plain_strand c.args.strand.now) (ALoop (plain_strand c.deref_mut-in-InLoop.result.now) c.in-InLoop.port c.in-InLoop.comb (plain_statement c.in-InLoop.body.now)) (λ x. amount x c.args.strand.now) (λ x. box_amount x + amount x c.deref_mut-in-InLoop.result.now) whole had c.requires.supplied)),
            ),
          ),
        ),
      ),
    )

pub returns-in-InLoop-clause-stepped : goal.returns-in-InLoop-clause-stepped
returns-in-InLoop-clause-stepped t c =
    let d = design_of c.args.plan.now in
    let whole : plain_strand c.args.strand.now ≡ ALoop (plain_strand c.deref_mut-in-InLoop.result.now) c.in-InLoop.port c.in-InLoop.comb (plain_statement c.in-InLoop.body.now) = ap plain_strand c.in-InLoop.is ∙ is_loop c.in-InLoop.run' c.in-InLoop.port c.in-InLoop.comb c.in-InLoop.body ∙ ap (λ (x : Strand). ALoop (plain_strand x) c.in-InLoop.port c.in-InLoop.comb (plain_statement c.in-InLoop.body.now)) (sym c.deref_mut-in-InLoop.ensures.value) in
    let kept : Strand = strands.InLoop (with_value c.in-InLoop.run' c.step_below-in-InLoop.new.strand) c.in-InLoop.port c.in-InLoop.comb c.in-InLoop.body in
    loop_below d (rows_of c.args.machine.now) (rows_of c.step_below-in-InLoop.new.machine) c.args.instance c.args.leaf (plain_strand c.deref_mut-in-InLoop.result.now) (plain_strand c.args.strand.now) c.step_below-in-InLoop.new.strand kept c.step_below-in-InLoop.new.told c.in-InLoop.port c.in-InLoop.comb (plain_statement c.in-InLoop.body.now) whole
    (is_loop (with_value c.in-InLoop.run' c.step_below-in-InLoop.new.strand) c.in-InLoop.port c.in-InLoop.comb c.in-InLoop.body) (subst (IsShown d c.args.instance) whole c.requires.shown).1.3 c.step_below-in-InLoop.ensures.stepped

pub returns-in-InLoop-clause-ledger : goal.returns-in-InLoop-clause-ledger
returns-in-InLoop-clause-ledger t c =
    let had : (x : Kind) → amount x c.args.strand.now ≡ box_amount x + amount x c.deref_mut-in-InLoop.result.now = λ x. ap (amount x) c.in-InLoop.is ∙ amount_loop x c.in-InLoop.run' c.in-InLoop.port c.in-InLoop.comb c.in-InLoop.body ∙ ap (λ (s : Strand). box_amount x + amount x s) (sym c.deref_mut-in-InLoop.ensures.value) in
    let kept : Strand = strands.InLoop (with_value c.in-InLoop.run' c.step_below-in-InLoop.new.strand) c.in-InLoop.port c.in-InLoop.comb c.in-InLoop.body in
    level_kept c.args.spares.now c.step_below-in-InLoop.new.spares (λ x. amount x c.deref_mut-in-InLoop.result.now) (λ x. amount x c.args.strand.now) c.step_below-in-InLoop.new.strand kept c.step_below-in-InLoop.new.told had (λ x. amount_loop x (with_value c.in-InLoop.run' c.step_below-in-InLoop.new.strand) c.in-InLoop.port c.in-InLoop.comb c.in-InLoop.body) c.step_below-in-InLoop.ensures.ledger

pub step_below-requires-in-InRepeat : goal.step_below-requires-in-InRepeat
step_below-requires-in-InRepeat t c =
    let d = design_of c.args.plan.now in
    let whole : plain_strand c.args.strand.now ≡ ARepeat (plain_strand c.deref_mut-in-InRepeat.result.now) c.in-InRepeat.left (plain_statement c.in-InRepeat.body.now) = ap plain_strand c.in-InRepeat.is ∙ is_repeat c.in-InRepeat.run' c.in-InRepeat.left c.in-InRepeat.body ∙ ap (λ (x : Strand). ARepeat (plain_strand x) c.in-InRepeat.left (plain_statement c.in-InRepeat.body.now)) (sym c.deref_mut-in-InRepeat.ensures.value) in
    let had : (x : Kind) → amount x c.args.strand.now ≡ box_amount x + amount x c.deref_mut-in-InRepeat.result.now = λ x. ap (amount x) c.in-InRepeat.is ∙ amount_repeat x c.in-InRepeat.run' c.in-InRepeat.left c.in-InRepeat.body ∙ ap (λ (s : Strand). box_amount x + amount x s) (sym c.deref_mut-in-InRepeat.ensures.value) in
    let falls : size_of (plain_strand c.args.strand.now) ≡ 1 + size_of (plain_strand c.deref_mut-in-InRepeat.result.now) = ap size_of whole in
    let leaves : strand_leaves (plain_strand c.args.strand.now) ≡ strand_leaves (plain_strand c.deref_mut-in-InRepeat.result.now) = ap strand_leaves whole in
    let less = c.requires.leaf in (
      omega (arith, c.decreases, falls),
      (
        c.requires.plan,
        (
          c.requires.machine,
          (
            c.requires.instance,
            (
              part_shown_repeat d c.args.instance (plain_strand c.deref_mut-in-InRepeat.result.now) c.in-InRepeat.left (plain_statement c.in-InRepeat.body.now) (subst (IsShown d c.args.instance) whole c.requires.shown),
              (omega (arith, less, leaves), repeat_turns d c.args.instance c.args.spares.now (plain_strand c.deref_mut-in-InRepeat.result.now) (λ x. amount x c.deref_mut-in-InRepeat.result.now) c.in-InRepeat.left (plain_statement c.in-InRepeat.body.now) (may_as d c.args.instance c.args.spares.now (plain_strand c.args.strand.now) (ARepeat (plain_strand c.deref_mut-in-InRepeat.result.now) c.in-InRepeat.left (plain_statement c.in-InRepeat.body.now)) (λ x. amount x c.args.strand.now) (λ x. box_amount x + amount x c.deref_mut-in-InRepeat.result.now) whole had c.requires.supplied)),
            ),
          ),
        ),
      ),
    )

pub returns-in-InRepeat-clause-stepped : goal.returns-in-InRepeat-clause-stepped
returns-in-InRepeat-clause-stepped t c =
    let d = design_of c.args.plan.now in
    let whole : plain_strand c.args.strand.now ≡ ARepeat (plain_strand c.deref_mut-in-InRepeat.result.now) c.in-InRepeat.left (plain_statement c.in-InRepeat.body.now) = ap plain_strand c.in-InRepeat.is ∙ is_repeat c.in-InRepeat.run' c.in-InRepeat.left c.in-InRepeat.body ∙ ap (λ (x : Strand). ARepeat (plain_strand x) c.in-InRepeat.left (plain_statement c.in-InRepeat.body.now)) (sym c.deref_mut-in-InRepeat.ensures.value) in
    let kept : Strand = strands.InRepeat (with_value c.in-InRepeat.run' c.step_below-in-InRepeat.new.strand) c.in-InRepeat.left c.in-InRepeat.body in
    repeat_below d (rows_of c.args.machine.now) (rows_of c.step_below-in-InRepeat.new.machine) c.args.instance c.args.leaf (plain_strand c.deref_mut-in-InRepeat.result.now) (plain_strand c.args.strand.now) c.step_below-in-InRepeat.new.strand kept c.step_below-in-InRepeat.new.told c.in-InRepeat.left (plain_statement c.in-InRepeat.body.now) whole
    (is_repeat (with_value c.in-InRepeat.run' c.step_below-in-InRepeat.new.strand) c.in-InRepeat.left c.in-InRepeat.body) (subst (IsShown d c.args.instance) whole c.requires.shown).1.3 c.step_below-in-InRepeat.ensures.stepped

pub returns-in-InRepeat-clause-ledger : goal.returns-in-InRepeat-clause-ledger
returns-in-InRepeat-clause-ledger t c =
    let had : (x : Kind) → amount x c.args.strand.now ≡ box_amount x + amount x c.deref_mut-in-InRepeat.result.now = λ x. ap (amount x) c.in-InRepeat.is ∙ amount_repeat x c.in-InRepeat.run' c.in-InRepeat.left c.in-InRepeat.body ∙ ap (λ (s : Strand). box_amount x + amount x s) (sym c.deref_mut-in-InRepeat.ensures.value) in
    let kept : Strand = strands.InRepeat (with_value c.in-InRepeat.run' c.step_below-in-InRepeat.new.strand) c.in-InRepeat.left c.in-InRepeat.body in
    level_kept c.args.spares.now c.step_below-in-InRepeat.new.spares (λ x. amount x c.deref_mut-in-InRepeat.result.now) (λ x. amount x c.args.strand.now) c.step_below-in-InRepeat.new.strand kept c.step_below-in-InRepeat.new.told had (λ x. amount_repeat x (with_value c.in-InRepeat.run' c.step_below-in-InRepeat.new.strand) c.in-InRepeat.left c.in-InRepeat.body) c.step_below-in-InRepeat.ensures.ledger
