use Rattle.std.proofs.Common.{inl, inr, ⊎_elim}
use Rattle.cx_ast.specs.PlainTree.{plain_tree}
use Rattle.cx_grammar.proofs.OneTree.{one_tree}
use Rattle.cx_parse.proofs.Trees.{reading_tree, stopped, tree_no_stop, one_stop}
use Rattle.cx_parse.proofs.files.read_tree.Goals as goal

pub returns-in-Ok : goal.returns-in-Ok
returns-in-Ok c =
    let read = reading_tree c.args.tokens.now (plain_tree c.in-Ok.tree) c.in-Ok.ensures.value in
    record {
      parsed = read;
      only = λ wanted p. one_tree c.args.tokens.now (plain_tree c.in-Ok.tree) wanted read p;
      fault = tt;
      all_faults = λ wanted k. tree_no_stop c.args.tokens.now (plain_tree c.in-Ok.tree) wanted read k;
    }

pub returns-in-Err : goal.returns-in-Err
returns-in-Err c =
    let stop = stopped c.args.tokens.now c.in-Err.stop c.in-Err.ensures.value in
    record {
      parsed = tt;
      only = λ wanted p. ⊎_elim (λ memory. memory) (λ k. absurd (tree_no_stop c.args.tokens.now wanted c.in-Err.stop p k)) stop;
      fault = stop;
      all_faults = λ wanted k. ⊎_elim (λ memory. inl memory) (λ l. inr (one_stop c.args.tokens.now c.in-Err.stop wanted l k)) stop;
    }
