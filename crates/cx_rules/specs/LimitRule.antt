-- Stage 7: limits. Counts are numbers without bound, with the static components written out.
use Rattle.std.specs.Prelude.{◌≡◌, ℕ, ◌<◌, ◌&&◌, nat_lt, nat_le, if◌then◌else◌, Bool, false, List, Option, Some, None, codes, length}
use Rattle.cx_text.specs.declared.places.Place.{Place}
use Rattle.cx_text.specs.declared.limits.TheConstants.{CELLS, GROUPS, INSTANCES, INSTANCE_DEPTH, MEMORY_WORDS, OCCURRENCES, REPETITIONS, WEIGHT}
use Rattle.cx_meaning.specs.Designs.{PlainComponent, PlainDesign, component_at, PlainForm, Empty, Enable, Seq, Par, If, While, Repeat, StaticSeq, StaticPar, StaticIf, StaticRepeat, Timed}
use Rattle.cx_meaning.specs.Instances.{Instance, part_of, tree_of}
use Rattle.cx_meaning.specs.Islands.{form_length}
use Rattle.cx_rules.specs.Sizes.{words_below}
use Rattle.cx_rules.specs.StaticControl.{is_island, form_occurrences}
use Rattle.cx_rules.specs.Invokes.{form_lasts}
use Rattle.cx_rules.specs.Counts.{is_any_island, occurrences_at, counted_cells, counted_groups, counted_weight, counted_instances, counted_depth}
use Rattle.cx_rules.specs.Ports.{component_of}
use Rattle.cx_rules.specs.Items.{Visited}
use Rattle.cx_rules.specs.Spots.{Itself, Whole, Spot, Tells, StatementRule}

-- what a limit is on; at one place they are tried in this order
pub data Limited : Type 0 where
  OnCells : Limited
  OnGroups : Limited
  OnRepeat : Limited
  OnOccurrences : Limited
  OnLatency : Limited
  OnInstances : Limited
  OnDepth : Limited
  OnWords : Limited
  OnWeight : Limited

abbrev pub word_of : Limited → List ℕ
word_of OnCells = codes "cells"
word_of OnGroups = codes "groups"
word_of OnRepeat = codes "repeat"
word_of OnOccurrences = codes "occurrences"
word_of OnLatency = codes "latency"
word_of OnInstances = codes "instances"
word_of OnDepth = codes "depth"
word_of OnWords = codes "words"
word_of OnWeight = codes "weight"

abbrev pub order_of : Limited → ℕ
order_of OnCells = 0
order_of OnGroups = 1
order_of OnRepeat = 2
order_of OnOccurrences = 3
order_of OnLatency = 4
order_of OnInstances = 5
order_of OnDepth = 6
order_of OnWords = 7
order_of OnWeight = 8

-- the count of a repeat or a static repeat
abbrev pub count_in : PlainForm → Option ℕ
count_in Empty = None
count_in (Enable g) = None
count_in (Seq parts) = None
count_in (Par arms) = None
count_in (If test comb a b) = None
count_in (While test comb a) = None
count_in (Repeat count a) = Some count
count_in (StaticSeq length parts) = None
count_in (StaticPar length arms) = None
count_in (StaticIf length test a b) = None
count_in (StaticRepeat length count a) = Some count
count_in (Timed k) = None

abbrev pub is_too_many : Option ℕ → Bool
is_too_many None = false
is_too_many (Some n) = nat_le REPETITIONS n

-- the first limit that a statement exceeds: on the count of a repeat, on the occurrences in an island before repetition,
-- on an island's length
abbrev pub first_limit : Bool → Bool → ℕ → ℕ → Option Limited
first_limit many island occurring long =
    if many then Some OnRepeat
    else if island && nat_lt OCCURRENCES occurring then Some OnOccurrences
    else if island && nat_le REPETITIONS long then Some OnLatency
    else None

abbrev pub statement_limit : Instance → Visited → Option Limited
statement_limit i v =
    first_limit (is_too_many (count_in v.form)) (is_any_island (part_of i) v) (occurrences_at i v.form)
    (form_lasts (part_of i) v.form)

-- the same without static components: of what stands in the component itself
abbrev pub flat_limit : PlainComponent → Visited → Option Limited
flat_limit part v =
    first_limit (is_too_many (count_in v.form)) (is_island part v) (form_occurrences part v.form)
    (form_length part v.form)

-- RULE limit, at a statement: of several limits that it exceeds the first is told
abbrev pub BreaksStatement : StatementRule
BreaksStatement i v place name =
    (limited : Limited) × (statement_limit i v ≡ Some limited) × Tells place name v.place (word_of limited)

-- at a component: its cells, and its groups with those of its invokes, those of its static components among them
pub record BreaksPart (d : PlainDesign) (limited : Limited) (count limit : ℕ) (spot : Spot)
    (place : Place) (name : List ℕ) : Type 0 where
  pub within : spot.component < length d.components
  pub is : spot.part ≡ Itself (order_of limited)
  pub exceeds : limit < count
  pub tells : Tells place name (component_at d spot.component).place (word_of limited)

abbrev pub BreaksCells : PlainDesign → Spot → Place → List ℕ → Type 0
BreaksCells d spot place name =
    BreaksPart d OnCells (counted_cells (component_of d spot.component)) CELLS spot place name

abbrev pub BreaksGroups : PlainDesign → Spot → Place → List ℕ → Type 0
BreaksGroups d spot place name =
    BreaksPart d OnGroups (counted_groups (component_of d spot.component)) GROUPS spot place name

-- at main: over the instance tree, in which static components have no instances
pub record BreaksTree (d : PlainDesign) (limited : Limited) (count limit : ℕ) (spot : Spot)
    (place : Place) (name : List ℕ) : Type 0 where
  pub at_main : spot.component ≡ d.main
  pub is : spot.part ≡ Whole (order_of limited)
  pub exceeds : limit < count
  pub tells : Tells place name (component_at d d.main).place (word_of limited)

abbrev pub BreaksInstances : PlainDesign → Spot → Place → List ℕ → Type 0
BreaksInstances d = BreaksTree d OnInstances (counted_instances (tree_of d)) INSTANCES

abbrev pub BreaksDepth : PlainDesign → Spot → Place → List ℕ → Type 0
BreaksDepth d = BreaksTree d OnDepth (counted_depth (tree_of d)) INSTANCE_DEPTH

abbrev pub BreaksWords : PlainDesign → Spot → Place → List ℕ → Type 0
BreaksWords d = BreaksTree d OnWords (words_below (tree_of d)) MEMORY_WORDS

abbrev pub BreaksWeight : PlainDesign → Spot → Place → List ℕ → Type 0
BreaksWeight d = BreaksTree d OnWeight (counted_weight (tree_of d)) WEIGHT
