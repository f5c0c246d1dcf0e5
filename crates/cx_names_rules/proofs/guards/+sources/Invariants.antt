use Rattle.std.proofs.Common.{◌≡◌, drop, flat_map}
use Rattle.cx_ast.specs.PlainGuards.{plain_guards, guards_of}
use Rattle.cx_numbering.specs.NameRules.{source_breaks, operands_in}
use Rattle.cx_names_scopes.specs.Scopes.{tree_in, part_in}
use Rattle.cx_names_rules.specs.Found.{first_of}
use Rattle.cx_names_rules.proofs.guards.+sources.Given as goal

-- the first of the breaks so far and of those behind is the first of all
abbrev pub invariant-all_sources-loop-guard : goal.invariant-all_sources-loop-guard
invariant-all_sources-loop-guard l = first_of l.found (flat_map (source_breaks (tree_in l.scope) (part_in l.scope)) (operands_in (guards_of (plain_guards (drop l.guard-index l.guards))))) ≡ first_of l.initial.found (flat_map (source_breaks (tree_in l.scope) (part_in l.scope)) (operands_in (guards_of (plain_guards l.guards))))
