use Rattle.std.proofs.Common.{◌≡◌, drop, map}
use Rattle.cx_ast.specs.PlainStatements as written
use Rattle.cx_design.specs.PlainForms.{plain_statement}
use Rattle.cx_numbering.specs.DesignOf.{all_of, invokes_all}
use Rattle.cx_names.specs.Sites.{tree_at, part_at}
use Rattle.cx_names.specs.Added.{made_of, next_of, added}
use Rattle.cx_meaning.proofs.DesignsLemmas.{joined}
use Rattle.cx_names.proofs.control.+control.Given as goal

-- the statements so far, and those of the items that are left, are all; so is what is made for invokes
abbrev pub invariant-statements-loop-item : goal.invariant-statements-loop-item
invariant-statements-loop-item l =
    let tree = tree_at l.site in
    let part = part_at l.site in
    let rest = written.statements_of (written.plain_statements (drop l.item-index l.items)) in
    let whole = written.statements_of (written.plain_statements l.items) in
    record {
      value : joined (map plain_statement l.all.items) (all_of tree part (next_of (made_of l.draft)) rest) ≡ all_of tree part (next_of (made_of l.initial.draft)) whole;
      made : added tree part (made_of l.draft) (invokes_all rest) ≡ added tree part (made_of l.initial.draft) (invokes_all whole);
    }
