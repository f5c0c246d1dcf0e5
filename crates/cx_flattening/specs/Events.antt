-- What an island does: its groups, the cells of static components that it feeds, and the ports at which it looks, with those of the
-- static components below.
use Rattle.std.specs.Prelude.{ℕ, zero, suc, ◌+◌, Bool, true, false, List, [], ◌∷◌, ◌++◌, Option, Some, None, get_or, if◌then◌else◌}
use Rattle.cx_meaning.specs.declared.ports.PortRef.{PortRef}
use Rattle.cx_meaning.specs.declared.ports.PortRef.TheVariants as ports
use Rattle.cx_meaning.specs.Designs.{PlainAssign, PlainInvoke, PlainComponent, PlainForm, Empty, Enable, Seq, Par, If, While, Repeat, StaticSeq, StaticPar, StaticIf, StaticRepeat, Timed, PlainStatement, Placed, PlainStatements, no_statements, a_statement}
use Rattle.cx_meaning.specs.Instances.{Instance, Node, Cells, no_cells, a_primitive, an_instance, Path}
use Rattle.cx_meaning.specs.Active.{same_port}
use Rattle.cx_meaning.specs.Islands.{group_length, or_zero}
use Rattle.cx_rules.specs.Invokes.{lasts}

-- the static invoke of a number; a number that names none stands for one that takes no cycles
abbrev pub no_invoke : PlainInvoke
no_invoke = record { cell = 0; written = false; length = None; latency = None; inputs = []; captures = None }

abbrev pub the_invoke : PlainComponent → ℕ → PlainInvoke
the_invoke part k = get_or part.invokes k no_invoke

-- WHERE a port of a static component is seen: it is the port itself, at the instance's path from the island's own instance; but an
-- input of a static child is seen as what its source is seen as
pub record Spot : Type 0 where
  pub at : Path
  pub port : PortRef

abbrev pub spot : Path → PortRef → Spot
spot at port = record { at = at; port = port }

-- a sample is a port and the cycle of the island in which it is seen
pub record Sample : Type 0 where
  pub spot : Spot
  pub cycle : ℕ
  pub wanted : Bool

-- what an island does, by its own instance and those of static components below it, each named by its path: a group runs; a cell of
-- a static component is fed the sources of its inputs; the port of a static if is looked at
pub data Event : Type 0 where
  Runs : (at : Path) (group from to : ℕ) (conditions : List Sample) → Event
  Feeds : (at : Path) (cell : ℕ) (inputs : List PlainAssign) (from to : ℕ) (conditions : List Sample) → Event
  Looks : (spot : Spot) (cycle : ℕ) (conditions : List Sample) → Event

-- the static statements of an instance are told where it is, how its inputs are bound, and when and on what conditions they begin
pub record Beginning : Type 0 where
  pub at : Path
  pub bound : PortRef → Spot
  pub from : ℕ
  pub conditions : List Sample

abbrev pub Events : Type 0
Events = Beginning → List Event

abbrev pub later_by : ℕ → Beginning → Beginning
later_by n b = record { at = b.at; bound = b.bound; from = b.from + n; conditions = b.conditions }

abbrev pub also_if : Spot → Bool → Beginning → Beginning
also_if spot wanted b =
    record {
      at = b.at;
      bound = b.bound;
      from = b.from;
      conditions = record { spot = spot; cycle = b.from; wanted = wanted } ∷ b.conditions;
    }

abbrev pub group_events : ℕ → Option ℕ → Events
group_events g None b = []
group_events g (Some n) b = Runs b.at g b.from (b.from + n) b.conditions ∷ []

abbrev pub capture_events : Option ℕ → Events
capture_events None b = []
capture_events (Some g) b = Runs b.at g b.from (b.from + 1) b.conditions ∷ []

abbrev pub rounds_events : Events → ℕ → ℕ → Events
rounds_events body n zero b = []
rounds_events body n (suc k) b = body b ++ rounds_events body n k (later_by n b)

-- the source that is bound to an input
abbrev pub source_in : ℕ → List PlainAssign → PortRef → PortRef
source_in c [] otherwise = otherwise
source_in c (a ∷ rest) otherwise = if same_port a.target otherwise then a.source.port else source_in c rest otherwise

abbrev pub source_to : ℕ → List PlainAssign → ℕ → PortRef
source_to c inputs n = source_in c inputs (ports.Cell c (suc n))

-- an input of the child is seen where its source is; every other port of the child is its own
abbrev pub bound_below : (PortRef → Spot) → Path → ℕ → List PlainAssign → PortRef → Spot
bound_below bound at c inputs (ports.Input n) = bound (source_to c inputs n)
bound_below bound at c inputs (ports.Cell e p) = spot (at ++ (c ∷ [])) (ports.Cell e p)
bound_below bound at c inputs (ports.Output n) = spot (at ++ (c ∷ [])) (ports.Output n)
bound_below bound at c inputs (ports.Done g) = spot (at ++ (c ∷ [])) (ports.Done g)
bound_below bound at c inputs (ports.Literal w v) = spot (at ++ (c ∷ [])) (ports.Literal w v)

abbrev pub invoke_events : (ℕ → Events) → PlainInvoke → Events
invoke_events below v b =
    Feeds b.at v.cell v.inputs b.from (b.from + or_zero v.latency) b.conditions
    ∷ (below v.cell (record {
      at = b.at ++ (v.cell ∷ []);
      bound = bound_below b.bound b.at v.cell v.inputs;
      from = b.from;
      conditions = b.conditions;
    })
    ++ capture_events v.captures (later_by (or_zero v.latency) b))

-- THE LIST of a static statement, in source order; below gives those of the control of the child at a cell
abbrev mutual
  pub form_events : PlainComponent → (ℕ → Events) → PlainForm → Events
  form_events part below Empty b = []
  form_events part below (Enable g) b = group_events g (group_length part g) b
  form_events part below (Seq ss) b = []
  form_events part below (Par arms) b = []
  form_events part below (If test comb x y) b = []
  form_events part below (While test comb x) b = []
  form_events part below (Repeat count x) b = []
  form_events part below (StaticSeq length ss) b = seq_events part below ss b
  form_events part below (StaticPar length arms) b = par_events part below arms b
  form_events part below (StaticIf length test x y) b =
      Looks (b.bound test.port) b.from b.conditions
      ∷ (events part below x (also_if (b.bound test.port) true b) ++
      events part below y (also_if (b.bound test.port) false b))
  form_events part below (StaticRepeat length count x) b = rounds_events (events part below x) (lasts part x) count b
  form_events part below (Timed k) b = invoke_events below (the_invoke part k) b

  pub events : PlainComponent → (ℕ → Events) → PlainStatement → Events
  events part below (Placed form place) b = form_events part below form b

  pub seq_events : PlainComponent → (ℕ → Events) → PlainStatements → Events
  seq_events part below no_statements b = []
  seq_events part below (a_statement s ss) b =
      events part below s b ++ seq_events part below ss (later_by (lasts part s) b)

  pub par_events : PlainComponent → (ℕ → Events) → PlainStatements → Events
  par_events part below no_statements b = []
  par_events part below (a_statement s ss) b = events part below s b ++ par_events part below ss b

abbrev mutual
  pub control_events : Instance → Events
  control_events (Node part cells) b = events part (events_below cells) part.control b

  pub events_below : Cells → ℕ → Events
  events_below no_cells c b = []
  events_below (a_primitive row rest) zero b = []
  events_below (a_primitive row rest) (suc c) b = events_below rest c b
  events_below (an_instance child rest) zero b = control_events child b
  events_below (an_instance child rest) (suc c) b = events_below rest c b
