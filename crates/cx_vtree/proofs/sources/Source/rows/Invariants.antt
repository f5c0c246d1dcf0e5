use Rattle.std.proofs.Common.{◌≡◌, ◌++◌, drop}
use Rattle.cx_text.specs.Loading.{plain_rows}
use Rattle.cx_vtree.specs.PlainParts.{plain_externals, rows_of}
use Rattle.cx_vtree.proofs.sources.Source.rows.Given as goal

abbrev pub invariant-loop-external : goal.invariant-loop-external
invariant-loop-external l = plain_rows l.rows.items ++ rows_of (plain_externals (drop l.external-index l.external-items)) ≡ rows_of (plain_externals l.external-items)
