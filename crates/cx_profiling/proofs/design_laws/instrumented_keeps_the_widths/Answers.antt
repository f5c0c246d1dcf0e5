use Rattle.cx_profiling.proofs.WidthStage.{instrumented_keeps_widths}
use Rattle.cx_profiling.proofs.design_laws.instrumented_keeps_the_widths.Goals as goal

pub returns : goal.returns
returns c = instrumented_keeps_widths
