-- What a turn of a leaf leaves below the levels of a strand.
use Rattle.std.specs.Prelude.{◌≡◌, ℕ, ◌≤◌, Bool, true, false, List, Option, Some, Result, Ok, Err}
use Rattle.cx_design.specs.declared.actives.PortFault.{PortFault}
use Rattle.cx_meaning.specs.Designs.{PlainDesign}
use Rattle.cx_meaning.specs.Instances.{Path, State, instance_at, tree_of}
use Rattle.cx_meaning.specs.Sights.{Held}
use Rattle.cx_state.specs.Tables.{IsNumber}
use Rattle.cx_state.specs.States.{PlainInstance, inputs_held, StandsFor, under_path, put_path}
use Rattle.cx_orders.specs.Open.{Open}
use Rattle.cx_orders.specs.Steps.{Stepped, step}
use Rattle.cx_weave.specs.declared.needs.Piece.{Piece}
use Rattle.cx_weave.specs.declared.spares.Spares.{Spares}
use Rattle.cx_weave.specs.declared.strands.Strand.{Strand}
use Rattle.cx_weave.specs.Ledger.{Kind, Ledger, amount}
use Rattle.cx_weave.specs.Strands.{PlainStrand, plain_strand, Shows}
use Rattle.cx_weave.specs.Strides.{HasStepped}
use Rattle.cx_weave.specs.Takes.{room}

-- what is open instead of `whole`, of which a turn came to x: one more turn, of its first leaf, comes to the same
pub record EndTold (d : PlainDesign) (n : ℕ) (path : Path) (s : State) (rows : List PlainInstance) (q : PlainStrand)
    (whole : Open) (x : Stepped (Option Open)) : Type 0 where
  pub instead : Open
  pub after : State
  pub shows : Shows d n q instead
  pub stands : StandsFor (tree_of d) rows (put_path path after s)
  pub same : (held : Held) → x ≡ step (instance_at (tree_of d) path) held instead 0 after
  pub fits : (k : Piece) → room k (instance_at (tree_of d) path) instead ≤ room k (instance_at (tree_of d) path) whole

-- A TURN OF LEAF k of a strand of instance n that ended a part of it: q shows what is open instead
pub record HasEnded (d : PlainDesign) (old new : List PlainInstance) (n : ℕ) (p : PlainStrand) (k : ℕ)
    (q : PlainStrand) : Type 0 where
  pub tells : (path : Path) (s : State) (o : Open) → IsNumber d n path → StandsFor (tree_of d) old s → Shows d n p o
      → EndTold d n path s new q o (step (instance_at (tree_of d) path) (inputs_held old n) o k (under_path path s))
  pub held : (m input : ℕ) → m ≤ n → inputs_held new m input ≡ inputs_held old m input

-- a turn below the levels of a strand, where it is told whether the innermost of them goes on
abbrev pub BelowStepped : PlainDesign → List PlainInstance → List PlainInstance → ℕ → PlainStrand → ℕ
    → Result Bool PortFault → Strand → Type 0
BelowStepped d old new n p k (Ok true) left = HasStepped d old new n p k (Ok (Some left))
BelowStepped d old new n p k (Ok false) left = HasEnded d old new n p k (plain_strand left)
BelowStepped d old new n p k (Err told) left = HasStepped d old new n p k (Err told)

-- its ledger; where there was a fault nothing is said
abbrev pub BelowTurned : {E : Type 0} → Spares → Spares → (Kind → ℕ) → Result Bool E → Strand → Type 0
BelowTurned old new before (Ok goes) left = Ledger old new before (λ x. amount x left)
BelowTurned old new before (Err fault) left = Unit {0}
