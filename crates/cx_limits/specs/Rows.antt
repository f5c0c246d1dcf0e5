-- THE TABLE of components: of each what it counts, were it static, its size, and the trees of its cells. Counts stop at 2^64 - 1.
use Rattle.std.specs.Prelude.{◌≡◌, ℕ, ◌+◌, ◌<◌, max, List, [], ◌∷◌, Option, Some, None, option_map, map, get_or, slice_get, length}
use Rattle.cx_meaning.specs.Designs.{PlainKind, OfPrimitive, OfComponent, PlainCell, PlainComponent, PlainDesign, component_at}
use Rattle.cx_meaning.specs.Instances.{Instance, Node, Cells, tree_within}
use Rattle.cx_rules.specs.Items.{Visited}
use Rattle.cx_rules.specs.Ports.{component_of}
use Rattle.cx_rules.specs.Sizes.{words_below}
use Rattle.cx_rules.specs.Counts as counts
use Rattle.cx_rules.specs.Counts.{Inners, if_static, inner, inners_of, size_with, counted_instances, counted_depth, counted_weight, weight_within, instances_within, depth_within}
use Rattle.cx_design_sizes.specs.Capped.{capped}
use Rattle.cx_design_sizes.specs.declared.tallies.LimitTally.{LimitTally}
use Rattle.cx_limits.specs.declared.counting.ControlCounts.{ControlCounts}
use Rattle.cx_limits.specs.declared.inners.Inner.{Inner}
use Rattle.cx_limits.specs.declared.rows.Row.{Row}
use Rattle.cx_limits.specs.declared.rows.TreeCounts.{TreeCounts}
use Rattle.cx_limits.specs.Inners.{capped_inner, below_at}

abbrev pub plain_inner : Inner → counts.Inner
plain_inner x =
    record {
      cells = x.cells;
      always = x.always;
      groups = x.groups;
      copies = x.copies;
      statements = x.statements;
      occurrences = x.occurrences;
    }

abbrev pub plain_inners : List (Option Inner) → Inners
plain_inners below = map (option_map plain_inner) below

-- what is counted of some statements of a component
pub record IsCounted (part : PlainComponent) (below : Inners) (vs : List Visited) (told : ControlCounts) : Type 0 where
  pub statements : told.statements ≡ capped (counts.statements_counted part below vs)
  pub occurrences : told.occurrences ≡ capped (counts.occurrences_counted part below vs)

abbrev pub no_trees : TreeCounts
no_trees = record { instances = 0; depth = 0; weight = 0 }

abbrev pub no_row : Row
no_row =
    record {
      inner =
          record { cells = 0; always = 0; groups = 0; copies = 0; statements = 0; occurrences = 0 };
      size = 0;
      trees = no_trees;
    }

-- WHAT STANDS at the cells of a component, by the rows of the components
abbrev pub inner_by : PlainDesign → List Row → PlainKind → Option counts.Inner
inner_by d rows (OfPrimitive primitive) = None
inner_by d rows (OfComponent k) = if_static (component_at d k).latency (plain_inner (get_or rows k no_row).inner)

abbrev pub inners_by : PlainDesign → List Row → List PlainCell → Inners
inners_by d rows cells = map (λ c. inner_by d rows c.kind) cells

-- TREES beside others
abbrev pub beside : TreeCounts → TreeCounts → TreeCounts
beside a b =
    record {
      instances = capped (a.instances + b.instances);
      depth = max a.depth b.depth;
      weight = capped (a.weight + b.weight);
    }

-- a component above the trees of its cells
abbrev pub tree_above : Row → TreeCounts
tree_above row =
    record {
      instances = capped (row.trees.instances + 1);
      depth = capped (row.trees.depth + 1);
      weight = capped (capped (row.size + 1) + row.trees.weight);
    }

-- the tree at a cell, by the row: a static component has nothing of its own in it
abbrev pub tree_at : Option ℕ → Row → TreeCounts
tree_at None row = tree_above row
tree_at (Some latency) row = row.trees

abbrev pub tree_by : PlainDesign → List Row → PlainKind → TreeCounts
tree_by d rows (OfPrimitive primitive) = no_trees
tree_by d rows (OfComponent k) = tree_at (component_at d k).latency (get_or rows k no_row)

-- the trees at cells
abbrev pub trees_by : PlainDesign → List Row → List PlainCell → TreeCounts
trees_by d rows [] = no_trees
trees_by d rows (c ∷ cs) = beside (tree_by d rows c.kind) (trees_by d rows cs)

abbrev pub trees_in : Cells → TreeCounts
trees_in cells =
    record {
      instances = capped (instances_within cells);
      depth = capped (depth_within cells);
      weight = capped (weight_within cells);
    }

-- A ROW, where so much stands at the cells of a component
pub record IsRowWith (part : PlainComponent) (below : Inners) (trees : TreeCounts) (row : Row) : Type 0 where
  pub inner_is : plain_inner row.inner ≡ capped_inner (inner part below)
  pub size : row.size ≡ capped (size_with part below)
  pub trees_are : row.trees ≡ trees

-- the row of an instance
abbrev pub IsRowOf : Instance → Row → Type 0
IsRowOf (Node part cells) row = IsRowWith part (inners_of cells) (trees_in cells) row

-- the rows of the first so many components of an order, and of as many levels
pub record IsTable (d : PlainDesign) (order : List ℕ) (done : ℕ) (rows : List Row) : Type 0 where
  pub sized : length rows ≡ length d.components
  pub known : (i k m : ℕ) → i < done → slice_get order i ≡ Some k → i < m
      → IsRowOf (tree_within d m k) (get_or rows k no_row)

-- the rows of all components, and what stands at their cells by them
pub record AreRows (d : PlainDesign) (rows : List Row) : Type 0 where
  pub sized : length rows ≡ length d.components
  pub own : (k : ℕ) → k < length d.components → IsRowOf (component_of d k) (get_or rows k no_row)
  pub below : (k : ℕ) → k < length d.components → inners_by d rows (component_at d k).cells ≡ below_at d k

-- the counts over the tree of an instance
abbrev pub counts_of : Instance → LimitTally
counts_of i =
    record {
      instances = capped (counted_instances i);
      depth = capped (counted_depth i);
      words = capped (words_below i);
      weight = capped (counted_weight i);
    }
