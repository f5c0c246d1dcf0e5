use Rattle.std.proofs.Common.{◌≡◌, ◌∙◌, inl, inr, not, ap, sym}
use Rattle.cx_meaning.specs.Instances.{cells_of, cell_at, input_count}
use Rattle.cx_rules.specs.Ports.{component_of}
use Rattle.cx_design.specs.PlainForms.{plain_assigns, plain_invoke}
use Rattle.cx_design.specs.PlainDesigns.{plain_design}
use Rattle.cx_shape_calls.specs.StaticInvokes.{is_restless, some_unbound}
use Rattle.cx_shape_calls.proofs.InvokeLemmas.{marked_wrong, marked_late}
use Rattle.cx_shape_calls.proofs.invokes.is_wrong_invoke.Goals as goal
use Rattle.cx_text.proofs.OptionLaws.{none_of}

pub returns-then-is_none : goal.returns-then-is_none
returns-then-is_none c =
    let w = plain_invoke c.args.invoke.now in
    record { tally = c.requires.tally; value = marked_wrong (plain_design c.args.design.now) c.args.number w (inl (none_of w.latency (c.is_none.ensures ∙ ap not c.if-is_none.true))) }

pub returns-then-unbound : goal.returns-then-unbound
returns-then-unbound c =
    let d = plain_design c.args.design.now in
    let w = plain_invoke c.args.invoke.now in
    let unbound : c.in_ok-unbound.unbound ≡ some_unbound w.cell w.inputs (input_count (cell_at (cells_of (component_of d c.args.number)) w.cell)) =
    c.in_ok-unbound.ensures.value ∙ ap (λ l. some_unbound w.cell (plain_assigns l) c.input_count-count.result) c.as_slice-inputs.ensures.value
    ∙ ap (some_unbound w.cell w.inputs) c.input_count-count.ensures.value in
    record { tally = c.requires.tally; value = marked_wrong d c.args.number w (inr (inl (sym unbound ∙ c.if-unbound.true))) }

pub returns-then-restless : goal.returns-then-restless
returns-then-restless c =
    let d = plain_design c.args.design.now in
    let i = component_of d c.args.number in
    let w = plain_invoke c.args.invoke.now in
    let restless : c.in_ok-restless.restless ≡ is_restless i w.inputs = c.in_ok-restless.ensures.value ∙ ap (λ l. is_restless i (plain_assigns l)) c.as_slice-inputs.ensures.value in
    record { tally = c.requires.tally; value = marked_wrong d c.args.number w (inr (inr (inl (sym restless ∙ c.if-restless.true)))) }

pub returns : goal.returns
returns c =
    let d = plain_design c.args.design.now in
    let i = component_of d c.args.number in
    let w = plain_invoke c.args.invoke.now in
    let unbound : c.in_ok-unbound.unbound ≡ some_unbound w.cell w.inputs (input_count (cell_at (cells_of i) w.cell)) =
    c.in_ok-unbound.ensures.value ∙ ap (λ l. some_unbound w.cell (plain_assigns l) c.input_count-count.result) c.as_slice-inputs.ensures.value
    ∙ ap (some_unbound w.cell w.inputs) c.input_count-count.ensures.value in
    let restless : c.in_ok-restless.restless ≡ is_restless i w.inputs = c.in_ok-restless.ensures.value ∙ ap (λ l. is_restless i (plain_assigns l)) c.as_slice-inputs.ensures.value in
    record {
      tally = c.in_ok-fed_back.ensures.tally;
      value = marked_late d c.args.number w (c.is_none.ensures ∙ ap not c.if-is_none.false) (sym unbound ∙ c.if-unbound.false) (sym restless ∙ c.if-restless.false)
          c.in_ok-fed_back.fed_back c.in_ok-fed_back.ensures.value;
    }
