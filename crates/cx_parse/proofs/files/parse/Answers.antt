use Rattle.std.proofs.Common.{inl, inr, ⊎_elim}
use Rattle.cx_ast.specs.PlainTree.{plain_tree}
use Rattle.cx_grammar.proofs.OneTree.{one_tree}
use Rattle.cx_parse.proofs.Trees.{tree_no_fault, one_fault}
use Rattle.cx_parse.proofs.files.parse.Goals as goal

pub returns-in-Ok : goal.returns-in-Ok
returns-in-Ok c = record {
  parsed = c.in-Ok.ensures.parsed;
  only = λ wanted p. one_tree c.args.tokens.now (plain_tree c.in-Ok.tree) wanted c.in-Ok.ensures.parsed p;
  fault = tt;
  all_faults = λ wanted k. tree_no_fault c.args.tokens.now (plain_tree c.in-Ok.tree) wanted c.in-Ok.ensures.parsed k;
}

pub returns-in-Err : goal.returns-in-Err
returns-in-Err c = record {
  parsed = tt;
  only = λ wanted p. ⊎_elim (λ memory. memory) (λ k. absurd (tree_no_fault c.args.tokens.now wanted c.fault_of.result p k)) c.fault_of.ensures;
  fault = c.fault_of.ensures;
  all_faults = λ wanted k. ⊎_elim (λ memory. inl memory) (λ l. inr (one_fault c.args.tokens.now c.fault_of.result wanted l k)) c.fault_of.ensures;
}
