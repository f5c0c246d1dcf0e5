use Rattle.std.proofs.Common.{◌≡◌, ◌++◌, ℕ, List, drop, map, vec_len}
use Rattle.cx_ast.specs.PlainTree.{plain_wire}
use Rattle.cx_numbering.specs.Names.{number_of, groups_in}
use Rattle.cx_names_scopes.specs.Numbered.{number_in, number_from, or_else}
use Rattle.cx_names_scopes.proofs.index.group_numbers.Given as goal

-- the groups so far, and those behind, are all
abbrev pub invariant-loop-wire : goal.invariant-loop-wire
invariant-loop-wire l = record {
  numbered : (n : List ℕ) → or_else (number_in l.numbers n) (number_from (vec_len l.words) n (map (λ g. g.name) (groups_in (map plain_wire (drop l.wire-index l.wires))))) ≡ number_of n (map (λ g. g.name) (groups_in (map plain_wire l.wires)));
  worded : l.words.items ++ map (λ g. g.kind) (groups_in (map plain_wire (drop l.wire-index l.wires))) ≡ map (λ g. g.kind) (groups_in (map plain_wire l.wires));
}
