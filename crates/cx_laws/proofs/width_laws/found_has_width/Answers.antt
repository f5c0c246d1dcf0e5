use Rattle.cx_laws.proofs.SeenLemmas.{found_width}
use Rattle.cx_laws.proofs.width_laws.found_has_width.Goals as goal

pub returns : goal.returns
returns c = λ d path held act s p b design accepted acyclic widths states there literal found.
    found_width d design accepted path held act s p b widths states there literal acyclic found
