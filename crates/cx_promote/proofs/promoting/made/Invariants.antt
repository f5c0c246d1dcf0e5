use Rattle.std.proofs.Common.{◌≡◌, ◌++◌, drop, length, map}
use Rattle.cx_ast.specs.PlainTree.{plain_component, plain_tree}
use Rattle.cx_promotion.specs.Rewriting.{components_from, made_rows, rows_from}
use Rattle.cx_promote.proofs.promoting.made.Given as goal

-- the components and rows so far, and those that are left; there are as many indexes as components
abbrev pub invariant-loop-number : goal.invariant-loop-number
invariant-loop-number l =
    let left = map plain_component (drop l.number l.parts) in
    record {
      components : map plain_component l.components.items ++ components_from (plain_tree l.tree) l.number left ≡ components_from (plain_tree l.tree) 0 (map plain_component l.parts);
      rows : l.rows.items ++ rows_from (plain_tree l.tree) l.number left ≡ made_rows (plain_tree l.tree);
      many : length l.indexes ≡ length l.parts;
    }
