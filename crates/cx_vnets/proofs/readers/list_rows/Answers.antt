use Rattle.std.proofs.Common.{subst}
use Rattle.std.proofs.lemmas.Result.{on_ok_weaker}
use Rattle.cx_graphs.specs.Graphs.{edges_of}
use Rattle.cx_vnets.specs.Readers.{IsListed}
use Rattle.cx_vnets.proofs.ReaderLemmas.{grows_more, on_ok_both, still_listed}
use Rattle.cx_vnets.proofs.readers.list_rows.Goals as goal

pub returns-then-found-clause-grows : goal.returns-then-found-clause-grows
returns-then-found-clause-grows c = on_ok_weaker c.list-then-found.result (λ g. grows_more _ _ _ c.in_ok-list.ensures.grows g) c.list-then-found.ensures.grows

pub returns-then-found-clause-listed : goal.returns-then-found-clause-listed
returns-then-found-clause-listed c =
    let row = subst (IsListed (edges_of c.list.new.rows.items) c.args.net) c.row_of-row.ensures.row c.in_ok-list.ensures.listed in
    on_ok_both c.list-then-found.result (λ g l. (still_listed _ _ g c.args.net _ row, λ e. l)) c.list-then-found.ensures.grows c.list-then-found.ensures.listed

pub returns-clause-listed : goal.returns-clause-listed
returns-clause-listed c =
    let row = subst (IsListed (edges_of c.list.new.rows.items) c.args.net) c.row_of-row.ensures.row c.in_ok-list.ensures.listed in
    let sided = c.if-found.false in
    (row, λ e. absurd (cc))
