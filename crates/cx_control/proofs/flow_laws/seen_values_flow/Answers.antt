use Rattle.cx_control.proofs.SeenLaw.{seen_flow}
use Rattle.cx_control.proofs.flow_laws.seen_values_flow.Goals as goal

pub returns : goal.returns
returns c = λ d path held act go s around v p b design accepted solves undisturbed sees.
    seen_flow d path design accepted (λ o stands owner. c.accepted_always_enables_nothing.ensures d path o accepted stands owner)
    (λ h a t q x inputs states there literal is. c.seen_has_width.ensures d path h a t q x design accepted inputs states there literal is)
    go s around v solves held act p b undisturbed sees
