-- From static control to lists: each island becomes a timed statement, whose timers are cells behind the others.
use Rattle.std.specs.Prelude.{ℕ, ◌+◌, ◌*◌, Bool, true, false, List, [], ◌∷◌, ◌++◌, length, map, Option, Some, None}
use Rattle.cx_text.specs.declared.places.Place.{Place}
use Rattle.cx_prim.specs.declared.names.PrimitiveName.TheVariants as primitives
use Rattle.cx_meaning.specs.declared.ports.PortRef.{PortRef}
use Rattle.cx_meaning.specs.Designs.{PlainCell, OfPrimitive, PlainComponent, PlainDesign, PlainForm, Empty, Enable, Seq, Par, If, While, Repeat, StaticSeq, StaticPar, StaticIf, StaticRepeat, Timed, PlainStatement, Placed, PlainStatements, no_statements, a_statement}
use Rattle.cx_meaning.specs.Islands.{group_length, form_length, length_of}
use Rattle.cx_static.specs.Islands.{PlainPoint, PlainOccurrence, PlainIsland, PlainLowered, PlainLowereds}
use Rattle.cx_static.specs.declared.islands.Sample.{Sample}
use Rattle.cx_static.specs.declared.islands.IslandTimer.{IslandTimer}

-- what is gathered of an island: the cells of the component so far, and the island's lists so far
pub record Gathered : Type 0 where
  pub cells : List PlainCell
  pub timers : List IslandTimer
  pub points : List PlainPoint
  pub occurrences : List PlainOccurrence

-- where a statement begins: at a count of a timer of the island, where these samples are as wanted
pub record Begin : Type 0 where
  pub timer : ℕ
  pub at : ℕ
  pub samples : List Sample

abbrev pub begin_at : ℕ → ℕ → List Sample → Begin
begin_at timer at samples = record { timer = timer; at = at; samples = samples }

-- so many cycles later
abbrev pub later : ℕ → Begin → Begin
later n x = begin_at x.timer (x.at + n) x.samples

-- where the sample of a point is as wanted
abbrev pub sampled : ℕ → Bool → List Sample → List Sample
sampled point wanted samples = samples ++ record { point = point; wanted = wanted } ∷ []

abbrev pub if_sampled : ℕ → Bool → Begin → Begin
if_sampled point wanted x = begin_at x.timer x.at (sampled point wanted x.samples)

-- the cell of a timer of so many cycles
abbrev pub timer_cell : Place → ℕ → PlainCell
timer_cell place length = record {
  name = [];
  kind = OfPrimitive (record { name = primitives.Timer; numbers = length ∷ [] });
  external = false;
  place = place;
}

-- a timer of `length` cycles that runs while its outer one has a count from the first to before the second
abbrev pub with_timer : Place → ℕ → Option ℕ → ℕ → ℕ → Gathered → Gathered
with_timer place cycles outer from to g = record {
  cells = g.cells ++ timer_cell place cycles ∷ [];
  timers = g.timers ++ record { cell = length g.cells; outer = outer; from = from; to = to } ∷ [];
  points = g.points;
  occurrences = g.occurrences;
}

abbrev pub with_point : PortRef → Begin → Gathered → Gathered
with_point port x g = record {
  cells = g.cells;
  timers = g.timers;
  points = g.points ++ record { port = port; timer = x.timer; at = x.at; samples = x.samples } ∷ [];
  occurrences = g.occurrences;
}

-- a group of so many cycles begins; nothing where the group is not static
abbrev pub with_occurrence : ℕ → Begin → Option ℕ → Gathered → Gathered
with_occurrence group x None g = g
with_occurrence group x (Some n) g = record {
  cells = g.cells;
  timers = g.timers;
  points = g.points;
  occurrences =
      g.occurrences
      ++ record { group = group; timer = x.timer; from = x.at; to = x.at + n; samples = x.samples } ∷ [];
}

-- THE LISTS OF AN ISLAND, behind those that are gathered. The parts of a seq follow each other, the arms of a par and the
-- branches of an if begin together, an if is a point, and a repeat has a timer of its own, which begins anew in each round
module _ (part : PlainComponent) where
  abbrev mutual
    pub form_gathered : PlainForm → Begin → Gathered → Gathered
    form_gathered Empty x g = g
    form_gathered (Enable group) x g = with_occurrence group x (group_length part group) g
    form_gathered (Seq parts) x g = g
    form_gathered (Par arms) x g = g
    form_gathered (If test comb a b) x g = g
    form_gathered (While test comb a) x g = g
    form_gathered (Repeat count a) x g = g
    form_gathered (StaticSeq length parts) x g = parts_gathered parts x g
    form_gathered (StaticPar length arms) x g = arms_gathered arms x g
    form_gathered (StaticIf written test a b) x g =
        gathered b (if_sampled (length g.points) false x)
        (gathered a (if_sampled (length g.points) true x) (with_point test.port x g))
    form_gathered (StaticRepeat written count a) x g =
        gathered a (begin_at (length g.timers) 0 x.samples)
        (with_timer part.place (length_of part a) (Some x.timer) x.at (x.at + count * length_of part a) g)
    form_gathered (Timed k) x g = g

    pub gathered : PlainStatement → Begin → Gathered → Gathered
    gathered (Placed form place) x g = form_gathered form x g

    pub parts_gathered : PlainStatements → Begin → Gathered → Gathered
    parts_gathered no_statements x g = g
    parts_gathered (a_statement s ss) x g = parts_gathered ss (later (length_of part s) x) (gathered s x g)

    pub arms_gathered : PlainStatements → Begin → Gathered → Gathered
    arms_gathered no_statements x g = g
    arms_gathered (a_statement s ss) x g = arms_gathered ss x (gathered s x g)

  -- what is repeated so often
  abbrev pub rounds_gathered : ℕ → PlainStatement → Begin → Gathered → Gathered
  rounds_gathered count a x g =
      gathered a (begin_at (length g.timers) 0 x.samples)
      (with_timer part.place (length_of part a) (Some x.timer) x.at (x.at + count * length_of part a) g)

  -- an island of a component that has these cells already
  abbrev pub island_gathered : PlainForm → List PlainCell → Gathered
  island_gathered form cells =
      form_gathered form (begin_at 0 0 [])
      (with_timer part.place (form_length part form) None 0 (form_length part form)
      (record { cells = cells; timers = []; points = []; occurrences = [] }))

-- what control is lowered to beside itself: the cells of the component so far, and its islands so far
pub record Lowering : Type 0 where
  pub cells : List PlainCell
  pub islands : List PlainIsland

abbrev pub island_of : ℕ → Gathered → PlainIsland
island_of n g = record { length = n; timers = g.timers; points = g.points; occurrences = g.occurrences }

-- the statement in the place of the next island
abbrev pub timed : Lowering → PlainForm
timed l = Timed (length l.islands)

-- CONTROL: each island is Timed with its number; what comes before a statement is lowered before it
module _ (part : PlainComponent) where
  abbrev pub with_island : PlainForm → Lowering → Lowering
  with_island form l = record {
    cells = (island_gathered part form l.cells).cells;
    islands = l.islands ++ island_of (form_length part form) (island_gathered part form l.cells) ∷ [];
  }

  -- the enable of a group is an island where the group is static
  abbrev pub after_enable : ℕ → Option ℕ → Lowering → Lowering
  after_enable g None l = l
  after_enable g (Some n) l = with_island (Enable g) l

  abbrev pub lowered_enable : ℕ → Option ℕ → Lowering → PlainForm
  lowered_enable g None l = Enable g
  lowered_enable g (Some n) l = timed l

  abbrev mutual
    pub form_after : PlainForm → Lowering → Lowering
    form_after Empty l = l
    form_after (Enable g) l = after_enable g (group_length part g) l
    form_after (Seq parts) l = parts_after parts l
    form_after (Par arms) l = parts_after arms l
    form_after (If test comb a b) l = after b (after a l)
    form_after (While test comb a) l = after a l
    form_after (Repeat count a) l = after a l
    form_after (StaticSeq length parts) l = with_island (StaticSeq length parts) l
    form_after (StaticPar length arms) l = with_island (StaticPar length arms) l
    form_after (StaticIf length test a b) l = with_island (StaticIf length test a b) l
    form_after (StaticRepeat length count a) l = with_island (StaticRepeat length count a) l
    form_after (Timed k) l = l

    pub after : PlainStatement → Lowering → Lowering
    after (Placed form place) l = form_after form l

    pub parts_after : PlainStatements → Lowering → Lowering
    parts_after no_statements l = l
    parts_after (a_statement s ss) l = parts_after ss (after s l)

  abbrev mutual
    pub lowered_form : PlainForm → Lowering → PlainForm
    lowered_form Empty l = Empty
    lowered_form (Enable g) l = lowered_enable g (group_length part g) l
    lowered_form (Seq parts) l = Seq (lowered_parts parts l)
    lowered_form (Par arms) l = Par (lowered_parts arms l)
    lowered_form (If test comb a b) l = If test comb (lowered a l) (lowered b (after a l))
    lowered_form (While test comb a) l = While test comb (lowered a l)
    lowered_form (Repeat count a) l = Repeat count (lowered a l)
    lowered_form (StaticSeq written parts) l = timed l
    lowered_form (StaticPar written arms) l = timed l
    lowered_form (StaticIf written test a b) l = timed l
    lowered_form (StaticRepeat written count a) l = timed l
    lowered_form (Timed k) l = Timed k

    pub lowered : PlainStatement → Lowering → PlainStatement
    lowered (Placed form place) l = Placed (lowered_form form l) place

    pub lowered_parts : PlainStatements → Lowering → PlainStatements
    lowered_parts no_statements l = no_statements
    lowered_parts (a_statement s ss) l = a_statement (lowered s l) (lowered_parts ss (after s l))

  -- before any control
  abbrev pub unlowered : Lowering
  unlowered = record { cells = part.cells; islands = [] }

  -- A COMPONENT: all but its cells, its static invokes and its control stays
  abbrev pub lowered_component : PlainLowered
  lowered_component = record {
    part = record {
      name = part.name;
      latency = part.latency;
      inputs = part.inputs;
      outputs = part.outputs;
      cells = (after part.control unlowered).cells;
      groups = part.groups;
      invokes = [];
      always = part.always;
      control = lowered part.control unlowered;
      place = part.place;
    };
    islands = (after part.control unlowered).islands;
  }

-- THE LOWERED DESIGN
abbrev pub lowered_of : PlainDesign → PlainLowereds
lowered_of d = record { components = map lowered_component d.components; main = d.main }
