-- Counts of a component in which its static components are written out: a cell of one counts as the cells in it, and an invoke as its
-- control with copies of the groups that this needs. Static components are no instances.
use Rattle.std.specs.Prelude.{ℕ, zero, suc, ◌+◌, max, nat_eq, Bool, true, false, ◌&&◌, ◌||◌, is_some, List, [], ◌∷◌, ◌++◌, Option, Some, None, length, slice_get}
use Rattle.cx_meaning.specs.Designs.{PlainInvoke, PlainGroup, PlainCell, PlainComponent, PlainDesign, component_at, PlainForm, Empty, Enable, Seq, Par, If, While, Repeat, StaticSeq, StaticPar, StaticIf, StaticRepeat, Timed, PlainStatement, Placed, PlainStatements, no_statements, a_statement}
use Rattle.cx_meaning.specs.Instances.{Instance, Node, Cells, no_cells, a_primitive, an_instance}
use Rattle.cx_meaning.specs.Control.{groups_of}
use Rattle.cx_meaning.specs.Islands.{group_length}
use Rattle.cx_rules.specs.Items.{Visited, statements_in}
use Rattle.cx_rules.specs.StaticControl.{one_if, is_dynamic, is_island}
use Rattle.cx_rules.specs.Sizes.{assigns_size, groups_size}
use Rattle.cx_rules.specs.Ports.{component_of}
use Rattle.cx_rules.specs.Invokes.{invoke_at, capture_length, invoke_in, invokes_of, captures_of}

-- the groups that control needs, by their numbers: those that it enables, and those that capture
abbrev pub needed : PlainComponent → List ℕ
needed part = groups_of part.control ++ captures_of part (invokes_of part.control)

abbrev pub is_one_of : ℕ → List ℕ → Bool
is_one_of g [] = false
is_one_of g (h ∷ hs) = nat_eq g h || is_one_of g hs

abbrev pub group_if : Bool → PlainGroup → List PlainGroup → List PlainGroup
group_if true group rest = group ∷ rest
group_if false group rest = rest

abbrev pub needed_from : List ℕ → ℕ → List PlainGroup → List PlainGroup
needed_from gs g [] = []
needed_from gs g (x ∷ xs) = group_if (is_one_of g gs) x (needed_from gs (1 + g) xs)

-- each once, in their order
abbrev pub needed_groups : PlainComponent → List PlainGroup
needed_groups part = needed_from (needed part) 0 part.groups

-- a static component as a component with a cell of it counts it
pub record Inner : Type 0 where
  -- its cells, and a wire for each output
  pub cells : ℕ
  -- its continuous assignments with the nodes of their guards
  pub always : ℕ
  -- the groups that an invoke has copies of, and these with their assignments and nodes
  pub groups : ℕ
  pub copies : ℕ
  -- the statements of its control, and the occurrences in it
  pub statements : ℕ
  pub occurrences : ℕ

-- what stands at the cells of a component, in cell order: what is counted of a static component, and nothing of another cell
abbrev pub Inners : Type 0
Inners = List (Option Inner)

abbrev pub joined : Option (Option Inner) → Option Inner
joined None = None
joined (Some x) = x

abbrev pub inner_at : Inners → ℕ → Option Inner
inner_at below c = joined (slice_get below c)

abbrev pub inner_for : Inners → Option PlainInvoke → Option Inner
inner_for below None = None
inner_for below (Some v) = inner_at below v.cell

-- CELLS: a cell of a static component counts as the cells in it, with a wire for each output
abbrev pub cell_count_of : Option Inner → ℕ
cell_count_of None = 1
cell_count_of (Some x) = x.cells

abbrev pub cells_in : List PlainCell → Inners → ℕ
cells_in [] below = 0
cells_in (c ∷ cs) [] = 1 + cells_in cs []
cells_in (c ∷ cs) (x ∷ below) = cell_count_of x + cells_in cs below

-- CONTINUOUS ASSIGNMENTS of static components, which stand once for each cell
abbrev pub always_count_of : Option Inner → ℕ
always_count_of None = 0
always_count_of (Some x) = x.always

abbrev pub always_in : Inners → ℕ
always_in [] = 0
always_in (x ∷ rest) = always_count_of x + always_in rest

-- COPIES: the groups for each invoke, and these with their assignments and nodes
abbrev pub group_count_of : Option Inner → ℕ
group_count_of None = 0
group_count_of (Some x) = x.groups

abbrev pub copy_count_of : Option Inner → ℕ
copy_count_of None = 0
copy_count_of (Some x) = x.copies

abbrev pub groups_for : Inners → List PlainInvoke → ℕ
groups_for below [] = 0
groups_for below (v ∷ vs) = group_count_of (inner_at below v.cell) + groups_for below vs

abbrev pub copies_for : Inners → List PlainInvoke → ℕ
copies_for below [] = 0
copies_for below (v ∷ vs) = copy_count_of (inner_at below v.cell) + copies_for below vs

-- STATEMENTS: an invoke counts the control of the static component, and where it captures a static seq and an enable more.
-- Every other statement counts one, and so does an invoke of a cell of another kind
abbrev pub captures_in : Option PlainInvoke → ℕ
captures_in None = 0
captures_in (Some v) = capture_length v.captures

abbrev pub statement_count_of : Option Inner → ℕ → ℕ
statement_count_of None captures = 1
statement_count_of (Some x) captures = x.statements + (captures + captures)

abbrev pub statements_for : PlainComponent → Inners → List ℕ → ℕ
statements_for part below [] = 1
statements_for part below (k ∷ ks) =
    statement_count_of (inner_for below (invoke_at part k)) (captures_in (invoke_at part k))

abbrev pub statements_counted : PlainComponent → Inners → List Visited → ℕ
statements_counted part below [] = 0
statements_counted part below (v ∷ vs) = statements_for part below (invoke_in v.form) + statements_counted part below vs

-- OCCURRENCES before repetition: an invoke counts those in the control of the static component, and one more where it captures
abbrev pub occurrence_count_of : Option Inner → ℕ → ℕ
occurrence_count_of None captures = 0
occurrence_count_of (Some x) captures = x.occurrences + captures

abbrev mutual
  pub form_counted : PlainComponent → Inners → PlainForm → ℕ
  form_counted part below Empty = 0
  form_counted part below (Enable g) = one_if (is_some (group_length part g))
  form_counted part below (Seq parts) = 0
  form_counted part below (Par arms) = 0
  form_counted part below (If test comb a b) = 0
  form_counted part below (While test comb a) = 0
  form_counted part below (Repeat count a) = 0
  form_counted part below (StaticSeq length parts) = counted_in part below parts
  form_counted part below (StaticPar length arms) = counted_in part below arms
  form_counted part below (StaticIf length test a b) = counted part below a + counted part below b
  form_counted part below (StaticRepeat length count a) = counted part below a
  form_counted part below (Timed k) =
      occurrence_count_of (inner_for below (invoke_at part k)) (captures_in (invoke_at part k))

  pub counted : PlainComponent → Inners → PlainStatement → ℕ
  counted part below (Placed form place) = form_counted part below form

  pub counted_in : PlainComponent → Inners → PlainStatements → ℕ
  counted_in part below no_statements = 0
  counted_in part below (a_statement s ss) = counted part below s + counted_in part below ss

-- an island: also a static invoke in dynamic control
abbrev pub has_invoke : PlainComponent → List ℕ → Bool
has_invoke part [] = false
has_invoke part (k ∷ ks) = is_some (invoke_at part k)

abbrev pub is_any_island : PlainComponent → Visited → Bool
is_any_island part v = is_island part v || (is_dynamic v.context && has_invoke part (invoke_in v.form))

abbrev pub island_counted : PlainComponent → Inners → Bool → PlainForm → ℕ
island_counted part below true form = form_counted part below form
island_counted part below false form = 0

abbrev pub occurrences_counted : PlainComponent → Inners → List Visited → ℕ
occurrences_counted part below [] = 0
occurrences_counted part below (v ∷ vs) =
    island_counted part below (is_any_island part v) v.form + occurrences_counted part below vs

-- a component as those with a cell of it count it
abbrev pub inner : PlainComponent → Inners → Inner
inner part below = record {
  cells = cells_in part.cells below + length part.outputs;
  always = assigns_size part.always + always_in below;
  groups = length (needed_groups part) + groups_for below part.invokes;
  copies = groups_size (needed_groups part) + copies_for below part.invokes;
  statements = statements_counted part below (statements_in part);
  occurrences = occurrences_counted part below (statements_in part);
}

abbrev pub if_static : Option ℕ → Inner → Option Inner
if_static None x = None
if_static (Some latency) x = Some x

-- what stands at the cells of an instance
abbrev pub inners_of : Cells → Inners
inners_of no_cells = []
inners_of (a_primitive row rest) = None ∷ inners_of rest
inners_of (an_instance (Node part cells) rest) = if_static part.latency (inner part (inners_of cells)) ∷ inners_of rest

-- the cells, the groups and the size of a component with its static components written out
abbrev pub counted_cells : Instance → ℕ
counted_cells (Node part cells) = cells_in part.cells (inners_of cells)

abbrev pub counted_groups : Instance → ℕ
counted_groups (Node part cells) = length part.groups + groups_for (inners_of cells) part.invokes

abbrev pub size_with : PlainComponent → Inners → ℕ
size_with part below =
    length part.inputs + length part.outputs + cells_in part.cells below
    + (groups_size part.groups + copies_for below part.invokes)
    + (assigns_size part.always + always_in below)
    + statements_counted part below (statements_in part) + occurrences_counted part below (statements_in part)

abbrev pub counted_size : Instance → ℕ
counted_size (Node part cells) = size_with part (inners_of cells)

-- the occurrences in a statement of an instance
abbrev pub occurrences_at : Instance → PlainForm → ℕ
occurrences_at (Node part cells) form = form_counted part (inners_of cells) form

-- OVER THE TREE a static component has nothing of its own, and what is below it stands below its caller
abbrev pub unless_static : Option ℕ → ℕ → ℕ
unless_static None n = n
unless_static (Some latency) n = 0

-- weight: the sum of size and 1 over the instances
abbrev pub weight_within : Cells → ℕ
weight_within no_cells = 0
weight_within (a_primitive row rest) = weight_within rest
weight_within (an_instance (Node part cells) rest) =
    unless_static part.latency (size_with part (inners_of cells) + 1) + weight_within cells
    + weight_within rest

abbrev pub counted_weight : Instance → ℕ
counted_weight (Node part cells) = size_with part (inners_of cells) + 1 + weight_within cells

-- the instances
abbrev pub instances_within : Cells → ℕ
instances_within no_cells = 0
instances_within (a_primitive row rest) = instances_within rest
instances_within (an_instance (Node part cells) rest) =
    unless_static part.latency 1 + instances_within cells + instances_within rest

abbrev pub counted_instances : Instance → ℕ
counted_instances (Node part cells) = 1 + instances_within cells

-- the depth of the tree
abbrev pub depth_within : Cells → ℕ
depth_within no_cells = 0
depth_within (a_primitive row rest) = depth_within rest
depth_within (an_instance (Node part cells) rest) =
    max (unless_static part.latency 1 + depth_within cells) (depth_within rest)

abbrev pub counted_depth : Instance → ℕ
counted_depth (Node part cells) = 1 + depth_within cells

-- S, which bounds the text of compile: the sum of size and 1 over the components that are not static, each once
abbrev pub counted_sizes : PlainDesign → ℕ → ℕ
counted_sizes d zero = 0
counted_sizes d (suc k) =
    unless_static (component_at d k).latency (counted_size (component_of d k) + 1) + counted_sizes d k

abbrev pub counted_design_size : PlainDesign → ℕ
counted_design_size d = counted_sizes d (length d.components)
