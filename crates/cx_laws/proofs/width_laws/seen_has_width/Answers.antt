use Rattle.cx_laws.proofs.SeenLemmas.{sees_width}
use Rattle.cx_laws.proofs.width_laws.seen_has_width.Goals as goal

pub returns : goal.returns
returns c = λ d path held act s p b design accepted widths states there literal sees.
    sees_width d design accepted path held act s p b widths states there literal sees
