-- Where a statement stands, and its size, with the occurrences of islands.
use Rattle.std.specs.Prelude.{ℕ, ◌+◌, List, length}
use Rattle.cx_meaning.specs.Designs.{PlainComponent, PlainStatement, Placed}
use Rattle.cx_rules.specs.Items as items
use Rattle.cx_rules.specs.Items.{Visited}
use Rattle.cx_rules.specs.StaticControl.{is_island, island_occurrences, occurrences_of}
use Rattle.cx_design_sizes.specs.declared.context.LimitContext.{LimitContext}
use Rattle.cx_design_sizes.specs.declared.context.LimitContext.TheVariants as contexts

abbrev pub context_of : LimitContext → items.Context
context_of contexts.Dynamic = items.Dynamic
context_of contexts.InStatic = items.InStatic
context_of contexts.Branch = items.Branch
context_of contexts.Amiss = items.Amiss

-- the occurrences of a statement that is an island
abbrev pub occurrences_at : PlainComponent → items.Context → PlainStatement → ℕ
occurrences_at part context (Placed form place) =
    island_occurrences part (is_island part (record { context = context; form = form; place = place })) form

-- statements, with the occurrences of those that are islands
abbrev pub statements_size : PlainComponent → List Visited → ℕ
statements_size part vs = length vs + occurrences_of part vs
