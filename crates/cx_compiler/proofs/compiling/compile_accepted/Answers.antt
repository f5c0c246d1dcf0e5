use Rattle.std.proofs.Common.{◌≤◌, ◌∙◌, sym, ap, subst, arith}
use Rattle.cx_text.specs.declared.limits.TheConstants.{COMPILE_SIZE}
use Rattle.cx_design.specs.PlainDesigns.{plain_design}
use Rattle.cx_meaning.specs.Designs.{PlainDesign}
use Rattle.cx_rules.specs.Counts.{counted_design_size}
use Rattle.cx_emit.specs.Emitted.{CanBeEmitted}
use Rattle.cx_compiler.specs.Compiled.{IsRealised, KeepsRules, written_net, written_source}
use Rattle.cx_compiler.specs.Simulated.{IsVerilogOf}
use Rattle.cx_compiler.proofs.compiling.compile_accepted.Goals as goal

pub flattened-requires : goal.flattened-requires
flattened-requires c = record { undone = c.requires.flattens.undone; plain = c.requires.flattens.plain }

pub verilog_of-requires : goal.verilog_of-requires
verilog_of-requires c =
    let within = subst (λ n. n ≤ COMPILE_SIZE) (c.in_ok-size.ensures.value ∙ ap (λ d. counted_design_size (plain_design d)) c.design.ensures.value) c.if-size-gt-COMPILE_SIZE.false in
    let same = sym c.in_ok-run.ensures.value in
    record { rules = subst KeepsRules same c.requires.rules; net = subst (λ (e : PlainDesign). CanBeEmitted (written_net e)) same (c.requires.net within) }

pub returns : goal.returns
returns c =
    let within = subst (λ n. n ≤ COMPILE_SIZE) (c.in_ok-size.ensures.value ∙ ap (λ d. counted_design_size (plain_design d)) c.design.ensures.value) c.if-size-gt-COMPILE_SIZE.false in
    let same = c.in_ok-run.ensures.value in
    record {
      answer = (within, subst (λ (e : PlainDesign). IsVerilogOf c.in_ok-text.text.items (written_source e)) same c.in_ok-text.ensures.spelled);
      meaning = subst IsRealised same c.in_ok-text.ensures.meaning;
      cause = tt;
    }
