use Rattle.cx_design.specs.PlainDesigns.{plain_design}
use Rattle.cx_widths.specs.WidthBreaks.{width_breaks}
use Rattle.cx_widths.proofs.WidthLemmas.{are_breaks}
use Rattle.cx_widths.proofs.checking.check.Goals as goal

pub returns-in-Ok : goal.returns-in-Ok
returns-in-Ok c =
    let d = plain_design c.args.design.now in record { answer = c.result.ensures.answer 3 d (width_breaks d) (are_breaks d) c.in-Ok.ensures.value }
