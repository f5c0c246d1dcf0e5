use Rattle.std.proofs.Common.{arith}
use Rattle.cx_names_scopes.proofs.NameLemmas.{cell_within, cell_absent, cell_present}
use Rattle.cx_names_scopes.proofs.scopes.Scope.cell.Goals as goal

pub index-requires : goal.index-requires
index-requires c = omega (arith, c.args.self.now.part.now.cells.ok, cell_within _ c.args.self.now.own.now.cells c.args.name.now _ c.requires.own.cells c.in-Some.ensures.value)

pub returns-in-None : goal.returns-in-None
returns-in-None c = cell_absent _ c.args.self.now.own.now.cells c.args.name.now c.requires.own.cells c.in-None.ensures.value

pub returns-in-Some : goal.returns-in-Some
returns-in-Some c = cell_present _ c.args.self.now.own.now.cells c.args.name.now _ c.index.result.now c.requires.own.cells c.in-Some.ensures.value c.index.ensures
