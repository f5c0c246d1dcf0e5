use Rattle.std.proofs.Common.{List, All, ◌≡◌, ◌≤◌, ◌∙◌, ap, subst, sym}
use Rattle.cx_text.specs.declared.limits.TheConstants.{COMPILE_SIZE}
use Rattle.cx_text.specs.Loading.{PlainRow, plain_rows}
use Rattle.cx_data.specs.Widths.{HasWordWidth}
use Rattle.cx_design.specs.PlainDesigns.{plain_design}
use Rattle.cx_meaning.specs.Designs.{PlainDesign}
use Rattle.cx_net.specs.NetsAsData.{plain_net}
use Rattle.cx_rules.specs.Counts.{counted_design_size}
use Rattle.cx_rules.specs.Externals.{external_rows}
use Rattle.cx_compiler.specs.Compiled.{HasItsNet, KeepsRules, written_net}
use Rattle.cx_compiler.proofs.RowWidths.{rows_have_width}
use Rattle.cx_compiler.proofs.nets.sized_net.Goals as goal

pub flattened-requires : goal.flattened-requires
flattened-requires c = record { undone = c.requires.flattens.undone; plain = c.requires.flattens.plain }

pub design_net-requires : goal.design_net-requires
design_net-requires c = record { rules = subst KeepsRules (sym c.in_ok-run.ensures.value) c.requires.rules }

pub returns : goal.returns
returns c =
    let within = subst (λ n. n ≤ COMPILE_SIZE) (c.in_ok-size.ensures.value ∙ ap (λ d. counted_design_size (plain_design d)) c.design.ensures.value) c.if-size-gt-COMPILE_SIZE.false in
    let same = c.in_ok-run.ensures.value in
    let net = plain_net c.in_ok-net.net in
    let Wide : List PlainRow → Type 0 = λ rows. All HasWordWidth rows in
    record {
      answer = (within, c.in_ok-net.ensures.value ∙ ap written_net same, subst (λ (e : PlainDesign). HasItsNet e net) same c.in_ok-net.ensures.meaning);
      rows = c.in_ok-rows.ensures.value ∙ ap external_rows same;
      widths = subst Wide (sym c.in_ok-rows.ensures.value) (rows_have_width (plain_design c.in_ok-run.run') c.in_ok-run.run'.keeps);
      cause = tt;
    }
