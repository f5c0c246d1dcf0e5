-- Islands of an instance, by their samples.
use Rattle.std.specs.Prelude.{◌≡◌, ℕ, zero, suc, true, List, Option, Some, None}
use Rattle.cx_meaning.specs.Designs.{PlainDesign, PlainComponent, PlainForm}
use Rattle.cx_meaning.specs.Instances.{Path, State, part_of, instance_at, tree_of}
use Rattle.cx_meaning.specs.Active.{nothing}
use Rattle.cx_meaning.specs.Cycles.{Fault, fault_at}
use Rattle.cx_meaning.specs.Sights.{Look, seen}
use Rattle.cx_meaning.specs.Islands.{first_unclear}
use Rattle.cx_rules.specs.StaticControl.{is_island_form}
use Rattle.cx_laws.specs.Samples.{Samples, says, begun_by, samples_after}
use Rattle.cx_interp_islands.specs.Sampled.{AreSampled}
use Rattle.cx_design.specs.declared.actives.PortFault.{PortFault}
use Rattle.cx_state.specs.Tables.{IsNumber}
use Rattle.cx_state.specs.States.{PlainInstance, inputs_held, StandsFor, under_path}

-- a form that is an island where it stands in the dynamic control of instance n
abbrev pub IsIsland : PlainDesign → ℕ → PlainForm → Type 0
IsIsland d n form =
    (path : Path) → IsNumber d n path → is_island_form (part_of (instance_at (tree_of d) path)) form ≡ true

-- the component of instance n
abbrev pub HasPart : PlainDesign → ℕ → PlainComponent → Type 0
HasPart d n part = (path : Path) → IsNumber d n path → part ≡ part_of (instance_at (tree_of d) path)

-- before cycle t of an island its samples are those of a run; before the first one whatever they are
abbrev pub SampledBefore : PlainComponent → ℕ → PlainForm → Samples → Type 0
SampledBefore part zero form kept = Unit {0}
SampledBefore part (suc t) form kept = AreSampled part t form kept

-- what is told of the first port that is no value
abbrev pub TellsUnclear : ℕ → Option PortFault → Option Fault → Type 0
TellsUnclear n None x = x ≡ None
TellsUnclear n (Some told) x = (x ≡ Some (fault_at told.kind told.port)) × (told.instance ≡ n)

-- the static ifs that begin in cycle t have been seen, from samples to the next
pub record SamplesTaken (d : PlainDesign) (rows : List PlainInstance) (n : ℕ) (part : PlainComponent)
    (form : PlainForm) (t : ℕ) (kept next : Samples) (fault : Option PortFault) : Type 0 where
  pub look : Look
  pub sees : (path : Path) (s : State) → IsNumber d n path → StandsFor (tree_of d) rows s
      → look ≡ seen (instance_at (tree_of d) path) (inputs_held rows n) nothing (under_path path s)
  pub taken : next ≡ samples_after part (says look) t form kept
  pub unclear : TellsUnclear n fault (first_unclear look (begun_by part next t form))
