-- Counts over the tree of a component.
use Rattle.std.specs.Prelude.{◌≡◌, ℕ, ◌≤◌, ◌+◌, max, List, [], ◌∷◌, get_or}
use Rattle.cx_prim.specs.Table.{row_of}
use Rattle.cx_meaning.specs.Designs.{PlainKind, OfPrimitive, OfComponent, PlainCell, PlainComponent, PlainDesign}
use Rattle.cx_meaning.specs.Instances.{Instance, Cells, tree_within}
use Rattle.cx_text.specs.Members.{In}
use Rattle.cx_rules.specs.Sizes.{size_of, weight_below, weight_in, instances_below, instances_in, depth_below, depth_in, words_below, words_in, shape_words}
use Rattle.cx_design_sizes.specs.Capped.{capped}
use Rattle.cx_design_sizes.specs.declared.tallies.LimitTally.{LimitTally}

-- of an instance with all below it, and of cells
abbrev pub tally_of : Instance → LimitTally
tally_of i =
    record {
      instances = capped (instances_below i);
      depth = capped (depth_below i);
      words = capped (words_below i);
      weight = capped (weight_below i);
    }

abbrev pub tally_in : Cells → LimitTally
tally_in cells =
    record {
      instances = capped (instances_in cells);
      depth = capped (depth_in cells);
      words = capped (words_in cells);
      weight = capped (weight_in cells);
    }

abbrev pub no_tally : LimitTally
no_tally = record { instances = 0; depth = 0; words = 0; weight = 0 }

-- cells beside others
abbrev pub beside : LimitTally → LimitTally → LimitTally
beside a b = record {
  instances = capped (a.instances + b.instances);
  depth = max a.depth b.depth;
  words = capped (a.words + b.words);
  weight = capped (a.weight + b.weight);
}

-- where the tallies of the components are known
abbrev pub kind_tally : List LimitTally → PlainKind → LimitTally
kind_tally tallies (OfPrimitive primitive) =
    record { instances = 0; depth = 0; words = capped (shape_words (row_of primitive).shape); weight = 0 }
kind_tally tallies (OfComponent k) = get_or tallies k no_tally

abbrev pub cells_tally : List LimitTally → List PlainCell → LimitTally
cells_tally tallies [] = no_tally
cells_tally tallies (c ∷ cs) = beside (kind_tally tallies c.kind) (cells_tally tallies cs)

-- a component above its cells
abbrev pub above : PlainComponent → LimitTally → LimitTally
above part below = record {
  instances = capped (1 + below.instances);
  depth = capped (1 + below.depth);
  words = below.words;
  weight = capped (size_of part + 1 + below.weight);
}

-- the tallies of these components are those of their trees, from n levels on
abbrev pub AreTallied : PlainDesign → ℕ → List LimitTally → List ℕ → Type 0
AreTallied d n tallies done = (k m : ℕ) → In done k → n ≤ m → get_or tallies k no_tally ≡ tally_of (tree_within d m k)
