use Rattle.std.proofs.Common.{List, sym, subst}
use Rattle.cx_meaning.specs.declared.ports.PortRef.TheVariants.{Cell}
use Rattle.cx_eval_network.specs.Askings.{asked_of}
use Rattle.cx_eval_network.specs.Nodes.{part_at}
use Rattle.cx_eval.specs.declared.known.Ahead.{Ahead}
use Rattle.cx_eval.specs.declared.sources.CellSources.{CellSources}
use Rattle.cx_eval.specs.declared.sources.Operator.{Operator}
use Rattle.cx_eval.specs.Shown.{AreFound, Serves}
use Rattle.cx_eval.specs.Sources.{AreCellsSeen, AreOperators, IsClosed}
use Rattle.cx_eval.proofs.SourceLaws.{shown_by}
use Rattle.cx_eval.proofs.known.find_ahead.Goals as goal

pub find_operators-requires-clause-operators : goal.find_operators-requires-clause-operators
find_operators-requires-clause-operators c =
    let asking = c.args.asking.now in
    let a = asked_of asking in
    let i = part_at a.design a.rows asking.instance in
    let closed : IsClosed i asking.active.now c.in-Closed.closed.now = subst (λ (x : Ahead). Serves asking x) c.in-Closed.is c.requires.ahead in
    subst (λ (xs : List Operator). AreOperators i asking.active.now xs) (sym c.deref.ensures.value) closed.operators

pub returns-in-Closed-clause-known : goal.returns-in-Closed-clause-known
returns-in-Closed-clause-known c =
    let asking = c.args.asking.now in
    let a = asked_of asking in
    let i = part_at a.design a.rows asking.instance in
    let operators = c.in-Closed.closed.now.operators.items in
    let closed : IsClosed i asking.active.now c.in-Closed.closed.now = subst (λ (x : Ahead). Serves asking x) c.in-Closed.is c.requires.ahead in
    let found = subst (λ (xs : List Operator). AreFound a xs c.find_operators.new.slots) c.deref.ensures.value c.find_operators.ensures.found in
    let cells = subst (λ (xs : List CellSources). AreCellsSeen i asking.active.now operators xs) (sym c.deref-in-Closed.ensures.value) closed.cells in
    record {
      component = c.requires.component;
      each = λ n p cell source at there. shown_by asking c.requires.can.can operators c.find_operators.new.slots found (Cell cell.cell p) source (cells n cell at p source there);
    }
