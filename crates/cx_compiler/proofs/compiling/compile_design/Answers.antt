use Rattle.std.proofs.Common.{◌≤◌, ◌∙◌, ap, subst}
use Rattle.cx_text.specs.declared.limits.TheConstants.{COMPILE_SIZE}
use Rattle.cx_design.specs.PlainDesigns.{plain_design}
use Rattle.cx_rules.specs.Sizes.{design_size}
use Rattle.cx_compiler.proofs.compiling.compile_design.Goals as goal

pub verilog_of-requires : goal.verilog_of-requires
verilog_of-requires c =
    let within = subst (λ n. n ≤ COMPILE_SIZE) (c.design_size-size.ensures ∙ ap (λ d. design_size (plain_design d)) c.design.ensures.value) c.if-size-gt-COMPILE_SIZE.false in
    record { rules = c.requires.rules within; net = c.requires.net within }
