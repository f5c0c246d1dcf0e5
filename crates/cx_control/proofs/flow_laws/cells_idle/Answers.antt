use Rattle.cx_control.proofs.SeenLaw.{cells_idle}
use Rattle.cx_control.proofs.flow_laws.cells_idle.Goals as goal

pub returns : goal.returns
returns c = λ d path go s around v cell row design accepted solves undriven at.
    cells_idle d path design accepted (λ o stands owner. c.accepted_always_enables_nothing.ensures d path o accepted stands owner)
    (λ h a t q x inputs states there literal is. c.seen_has_width.ensures d path h a t q x design accepted inputs states there literal is)
    go s around v solves cell row undriven at
