use Rattle.std.proofs.Common.{◌∙◌, refl, arith}
use Rattle.cx_text.specs.Loading.{word_count}
use Rattle.cx_design_sizes.proofs.Caps.{ended_product}
use Rattle.cx_design_sizes.proofs.StepLemmas.{product_step}
use Rattle.cx_design_sizes.proofs.words.product.Goals as goal

pub loop-size-preserved : goal.loop-size-preserved
loop-size-preserved c =
    (product_step c.args.sizes.now c.loop-size.words c.saturating_mul-words.result c.loop-size.size-index _ c.loop-size-test.true c.saturating_mul-words.ensures ∙ c.loop-size.invariant.0, omega arith)

pub returns : goal.returns
returns c = ended_product word_count c.args.sizes.now c.loop-size.size-index c.loop-size.words refl (omega arith) c.loop-size.invariant.1 c.loop-size.invariant.0
