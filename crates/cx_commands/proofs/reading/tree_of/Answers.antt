use Rattle.std.proofs.Common.{sym, subst}
use Rattle.cx_lex.specs.Lex.{Lex}
use Rattle.cx_commands.proofs.UnreadLemmas.{lexical_fault, read_tree_of, read_fault_of}
use Rattle.cx_commands.proofs.reading.tree_of.Goals as goal

pub returns-in-Ok : goal.returns-in-Ok
returns-in-Ok c =
    let lexed : Lex c.args.text.now c.deref.result.now = subst (Lex c.args.text.now) (sym c.deref.ensures.value) c.in-Ok.ensures.tokens in
    record {
      tree = read_tree_of c.args.text.now c.deref.result.now c.read.result lexed c.read.ensures.tree;
      fault = read_fault_of c.args.text.now c.deref.result.now c.read.result lexed c.read.ensures.fault;
    }

pub returns-in-Err : goal.returns-in-Err
returns-in-Err c = record { tree = tt; fault = lexical_fault c.args.text.now c.in-Err.fault c.of_lex.result c.in-Err.ensures.fault c.of_lex.ensures }
