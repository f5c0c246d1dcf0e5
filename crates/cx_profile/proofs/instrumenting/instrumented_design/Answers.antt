use Rattle.std.proofs.Common.{◌≡◌, ◌∙◌, map, refl, ap, arith}
use Rattle.cx_rules.specs.Sizes.{sizes_of}
use Rattle.cx_design.specs.PlainForms.{plain_component, plain_parts}
use Rattle.cx_design.specs.PlainDesigns.{plain_design}
use Rattle.cx_design_sizes.specs.Capped.{capped}
use Rattle.cx_profiling.specs.Instrumented.{instrumented}
use Rattle.cx_profile.proofs.DesignLemmas.{made_is, made_keeps}
use Rattle.cx_profile.proofs.instrumenting.instrumented_design.Goals as goal

pub invariant_of-result : goal.invariant_of-result
invariant_of-result c =
    let d = plain_design c.args.design.now in
    let same : plain_parts c.in_ok-components.components.items c.args.design.now.main ≡ instrumented d = made_is d (map plain_component c.in_ok-components.components.items) c.args.design.now.main c.in_ok-components.ensures.value refl in
    let total : c.total_size.result ≡ capped (sizes_of (map plain_component c.in_ok-components.components.items)) =
    c.total_size.ensures.value ∙ ap (λ cs. capped (sizes_of (map plain_component cs))) c.deref.ensures.value in
    record { keeps = made_keeps d c.args.design.now.keeps (plain_parts c.in_ok-components.components.items c.args.design.now.main) same c.total_size.result total (omega (arith, c.from.ensures, c.if-total_size-from.false)) }
