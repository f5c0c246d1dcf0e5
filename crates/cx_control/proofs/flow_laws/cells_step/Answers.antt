use Rattle.cx_control.proofs.SeenLaw.{cells_step}
use Rattle.cx_control.proofs.flow_laws.cells_step.Goals as goal

pub returns : goal.returns
returns c = λ d path held act go s around v cell row after design accepted solves acyclic undisturbed at outcome.
    cells_step d path design accepted (λ o stands owner. c.accepted_always_enables_nothing.ensures d path o accepted stands owner)
    (λ h a t q x inputs states there literal is. c.seen_has_width.ensures d path h a t q x design accepted inputs states there literal is)
    go s around v solves held act cell row after acyclic undisturbed at outcome
