use Rattle.std.proofs.Common.{ℕ, subst}
use Rattle.cx_graphs.specs.Graphs.{edges_of}
use Rattle.cx_vnets.specs.Readers.{IsRowed}
use Rattle.cx_vnets.specs.Watches.{IsNoted}
use Rattle.cx_vnets.proofs.readers.list_watch.Goals as goal

pub returns-clause-grows : goal.returns-clause-grows
returns-clause-grows c = record { rows = c.in_ok-list_rows.ensures.grows; notes = c.note.ensures.grows }

pub returns-clause-listed : goal.returns-clause-listed
returns-clause-listed c =
    let a = c.args in (
      subst (λ (k : ℕ). IsRowed (edges_of c.list_rows.new.rows.items) a.count a.net k a.found.literal a.found.sided) c.origin_of-from.ensures c.in_ok-list_rows.ensures.listed,
      subst (λ (k : ℕ). IsNoted c.note.new.compared.items k) c.origin_of-from.ensures c.note.ensures.noted,
    )
