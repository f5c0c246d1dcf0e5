use Rattle.cx_prim.specs.Rows.{FitsPorts}
use Rattle.cx_prim.specs.Table.{row_of}
use Rattle.cx_eval.specs.Looked.{CanDemand, seen_from}
use Rattle.cx_eval.proofs.WalkLemmas.{PlainSoFar}
use Rattle.cx_eval.proofs.looking.demand_plain.Given as goal

abbrev pub invariant-loop-number : goal.invariant-loop-number
invariant-loop-number l = record {
  ready : CanDemand l.asking l.marks;
  fits : FitsPorts (row_of l.stepping.primitive.now).ports l.inputs;
  far : PlainSoFar (seen_from l.asking l.first) l.stepping.primitive.now l.stepping l.state l.fn.inputs l.number l.inputs;
}
