use Rattle.cx_compiler.proofs.OwedLemmas.{end_or_fault}
use Rattle.cx_compiler.proofs.laws.none_ends.Goals as goal

pub returns : goal.returns
returns c d words order budget steps fault turn after made sum design accepted faults ends =
    let r = c.run_ends_too.ensures d words order steps after made sum design accepted ends in
    end_or_fault d words made budget after r.0 fault turn r.1 faults
