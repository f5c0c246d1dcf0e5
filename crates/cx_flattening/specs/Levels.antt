-- An instance whose ports stand for ports of a host: what is asked of both so that each port is seen in the host as in the instance.
use Rattle.std.specs.Prelude.{◌≡◌, ℕ, ◌+◌, ◌<◌, true, false, [], ◌∷◌, Some, map, length}
use Rattle.cx_text.specs.Members.{In}
use Rattle.cx_prim.specs.Rows.{Row}
use Rattle.cx_meaning.specs.declared.ports.PortRef.{PortRef}
use Rattle.cx_meaning.specs.declared.ports.PortRef.TheVariants as ports
use Rattle.cx_meaning.specs.declared.sights.Seen.{Seen}
use Rattle.cx_meaning.specs.declared.sights.Seen.TheVariants.{Undefined}
use Rattle.cx_meaning.specs.Designs.{PlainAssign, PlainGroup, PlainComponent}
use Rattle.cx_meaning.specs.Instances.{Instance, Nothing, OfRow, OfInstance, part_of, cells_of, cell_at, State, under}
use Rattle.cx_meaning.specs.Active.{Active, nothing, Owned, source_order, offset_of, drivers}
use Rattle.cx_meaning.specs.Sights.{Held, unheld, AnOutput, part_port, is_done_cell, bit_of, target_seen, Sees, seen, outputs_below}
use Rattle.cx_rules.specs.Circles.{IsAcyclic, AcyclicBelow}
use Rattle.cx_rules.specs.Footprints.{AssignNames, Leads}
use Rattle.cx_rewrites.specs.Moving.{moved_acting}
use Rattle.cx_flattening.specs.Whole.{is_static}
use Rattle.cx_flattening.specs.Flattened.{kid_at, flat_part, flat_kids, kept_at, block_size, start_of, wire_at, own_port}
use Rattle.cx_flattening.specs.Targets.{OwnTarget, BlockTarget}
use Rattle.cx_flattening.specs.Embedded.{IsEmbedded, Stands}

-- a port of the instance that is asked for: of its cells those that are there, and of a cell of a static component an output
abbrev pub IsKnown : Instance → PortRef → Type 0
IsKnown i (ports.Cell c p) =
    (c < length (part_of i).cells) × ((child : Instance) → cell_at (cells_of i) c ≡ OfInstance child →
    is_static child ≡ true → (n : ℕ) × (part_port (part_of child) p ≡ AnOutput n))
IsKnown i (ports.Input n) = Unit {0}
IsKnown i (ports.Output n) = Unit {0}
IsKnown i (ports.Done g) = Unit {0}
IsKnown i (ports.Literal w v) = Unit {0}

-- the port of the flat component that stands for a port of the instance
abbrev pub own_of : Instance → PortRef → PortRef
own_of i = own_port (flat_kids (cells_of i)) (part_of i)

-- the flat component's cells stand in the host from cell `first` on, and f gives the host's ports of its ports
module _ (host : Instance) (host_held : Held) (more : Active) (z : State) (i : Instance) (first : ℕ)
    (f : PortRef → PortRef) (held : Held) (act : Active) (s : State) (asked : PortRef → Type 0) where
  pub record IsLevel : Type 0 where
    pub counts : (c : ℕ) → c < length (part_of i).cells → (cell_at (cells_of i) c ≡ Nothing → ⊥)
    pub known : (p : PortRef) → asked p → IsKnown i p
    pub closed : (p q : PortRef) → asked p → Leads i act p q → asked q
    pub cells : (e p : ℕ) → f (ports.Cell e p) ≡ ports.Cell (first + e) p
    pub literals : (w v : ℕ) → f (ports.Literal w v) ≡ ports.Literal w v
    -- what drives its ports drives them there
    pub drives : (p : PortRef) → asked p → OwnTarget (flat_kids (cells_of i)) (part_of i) p
        → drivers (part_of host) more (f (own_of i p)) ≡
        map (moved_acting f) (map (moved_acting (own_of i)) (drivers (part_of i) act p))
    pub inputs : (n : ℕ) → asked (ports.Input n) → seen host host_held more z (f (ports.Input n)) ≡ held n
    pub outputs : (n : ℕ) → asked (ports.Output n)
        → seen host host_held more z (f (ports.Output n)) ≡
        target_seen Undefined (seen host host_held more z) (drivers (part_of host) more (f (ports.Output n)))
    pub holes : (g : ℕ) → asked (ports.Done g)
        → seen host host_held more z (f (ports.Done g)) ≡
        target_seen (bit_of false) (seen host host_held more z)
        (drivers (part_of host) more (f (ports.Done g)))
    -- its cells, and those of its dynamic children, stand there, in the same state
    pub rows : (c : ℕ) (row : Row) → cell_at (cells_of i) c ≡ OfRow row
        → cell_at (cells_of host) (first + kept_at (flat_kids (cells_of i)) c) ≡ OfRow row
    pub states : (c : ℕ) (row : Row) → cell_at (cells_of i) c ≡ OfRow row
        → z ((first + kept_at (flat_kids (cells_of i)) c) ∷ []) ≡ s (c ∷ [])
    pub children : (c : ℕ) (child : Instance) → cell_at (cells_of i) c ≡ OfInstance child → is_static child ≡ false
        → (twin : Instance)
        × (cell_at (cells_of host) (first + kept_at (flat_kids (cells_of i)) c) ≡ OfInstance twin)
        × ((p : ℕ) → part_port (part_of child) p ≡ part_port (part_of twin) p)
    pub gives : (c n : ℕ) (child : Instance) (x : Seen) → cell_at (cells_of i) c ≡ OfInstance child
        → is_static child ≡ false → n < length (part_of child).outputs
        → Sees child unheld nothing (under c s) (ports.Output n) x
        → outputs_below (cells_of host) (λ e. under e z) (first + kept_at (flat_kids (cells_of i)) c) n ≡ x
    pub dones : (c : ℕ) (child : Instance) → cell_at (cells_of i) c ≡ OfInstance child → is_static child ≡ false
        → is_done_cell more.done_cell (first + kept_at (flat_kids (cells_of i)) c) ≡ is_done_cell act.done_cell c
    -- and the outputs of its static children are given by their wires
    pub wires : (c n : ℕ) (child : Instance) (x : Seen) → cell_at (cells_of i) c ≡ OfInstance child
        → is_static child ≡ true → n < length (part_of child).outputs
        → Sees child unheld nothing (under c s) (ports.Output n) x
        → seen host host_held more z
        (ports.Cell (first + wire_at (flat_kids (cells_of i)) (part_of i) (flat_part child) c n) 1) ≡ x

-- no group of a component drives the port
abbrev pub IsStill : PlainComponent → PortRef → Type 0
IsStill part q = (x : PlainGroup) (a : PlainAssign) → In part.groups x → In x.assigns a → a.target ≡ q → ⊥

-- THE FLAT COMPONENT OF AN INSTANCE STANDS IN THE HOST, whatever acts there: f gives the host's ports of its ports
module _ (host : Instance) (host_held : Held) (more : Active) (z : State) (i : Instance) (first : ℕ)
    (f : PortRef → PortRef) (s : State) where
  pub record IsBase : Type 0 where
    pub cells : (e p : ℕ) → f (ports.Cell e p) ≡ ports.Cell (first + e) p
    pub literals : (w v : ℕ) → f (ports.Literal w v) ≡ ports.Literal w v
    pub drives : (q : PortRef) → BlockTarget (flat_part i) q → IsStill (flat_part i) q
        → drivers (part_of host) more (f q) ≡ map (moved_acting f) (drivers (flat_part i) nothing q)
    pub embedded : IsEmbedded i first (cells_of host)
    pub stands : Stands i first s z

  -- as far as its outputs ask for it
  pub record IsHosted : Type 0 where
    pub base : IsBase
    pub outputs : (n : ℕ) → n < length (part_of i).outputs
        → seen host host_held more z (f (ports.Output n)) ≡
        target_seen Undefined (seen host host_held more z) (drivers (part_of host) more (f (ports.Output n)))
    pub quiet : (e : ℕ) → e < length (flat_part i).cells → is_done_cell more.done_cell (first + e) ≡ false

-- EACH OUTPUT of an instance is seen in a host as in the instance, wherever its flat component stands and whatever acts there
abbrev pub OutputsSeen : Instance → Type 0
OutputsSeen i =
    (host : Instance) (held : Held) (more : Active) (z : State) → IsAcyclic host more
    → AcyclicBelow (cells_of host)
    → (first : ℕ) (f : PortRef → PortRef) (s : State) → IsHosted host held more z i first f s
    → (n : ℕ) (x : Seen) → n < length (part_of i).outputs → Sees i unheld nothing s (ports.Output n) x
    → seen host held more z (f (ports.Output n)) ≡ x

-- a port of a flat component that may be driven: these outputs and holes, and ports of its cells
abbrev pub InFlat : PlainComponent → (ℕ → Type 0) → (ℕ → Type 0) → PortRef → Type 0
InFlat part outputs holes (ports.Cell e p) = e < length part.cells
InFlat part outputs holes (ports.Input n) = ⊥
InFlat part outputs holes (ports.Output n) = outputs n
InFlat part outputs holes (ports.Done g) = holes g
InFlat part outputs holes (ports.Literal w v) = ⊥

-- a port of an instance that is asked for, with these inputs, outputs and holes
abbrev pub Asked : Instance → (ℕ → Type 0) → (ℕ → Type 0) → (ℕ → Type 0) → PortRef → Type 0
Asked i inputs outputs holes (ports.Cell c p) = IsKnown i (ports.Cell c p)
Asked i inputs outputs holes (ports.Input n) = inputs n
Asked i inputs outputs holes (ports.Output n) = outputs n
Asked i inputs outputs holes (ports.Done g) = holes g
Asked i inputs outputs holes (ports.Literal w v) = Unit {0}

-- IT ACTS THERE as the instance does: inner acts of the flat component, as act does of the instance, whose inputs are held
module _ (host : Instance) (host_held : Held) (more : Active) (z : State) (i : Instance) (first : ℕ)
    (f : PortRef → PortRef) (held : Held) (act inner : Active) (s : State)
    (inputs outputs holes : ℕ → Type 0) where
  pub record IsPlayed : Type 0 where
    pub cells : (e p : ℕ) → f (ports.Cell e p) ≡ ports.Cell (first + e) p
    pub literals : (w v : ℕ) → f (ports.Literal w v) ≡ ports.Literal w v
    pub drives : (q : PortRef) → InFlat (flat_part i) outputs holes q
        → drivers (part_of host) more (f q) ≡ map (moved_acting f) (drivers (flat_part i) inner q)
    pub acts : (g : ℕ) → g < length (part_of i).groups → inner.offset g ≡ act.offset g
    pub held_there : (n : ℕ) → inputs n → seen host host_held more z (f (ports.Input n)) ≡ held n
    pub given : (n : ℕ) → outputs n → seen host host_held more z (f (ports.Output n)) ≡
        target_seen Undefined (seen host host_held more z) (drivers (part_of host) more (f (ports.Output n)))
    pub ended : (g : ℕ) → holes g → seen host host_held more z (f (ports.Done g)) ≡
        target_seen (bit_of false) (seen host host_held more z)
        (drivers (part_of host) more (f (ports.Done g)))
    pub all_outputs : (n : ℕ) → n < length (part_of i).outputs → outputs n
    -- the inputs that active assignments name
    pub named : (o : Owned) (k n : ℕ) → In (source_order (part_of i)) o → offset_of act o.owner ≡ Some k
        → AssignNames o.assign (ports.Input n) → inputs n
    pub dones : (c : ℕ) (child : Instance) → cell_at (cells_of i) c ≡ OfInstance child → is_static child ≡ false
        → is_done_cell more.done_cell (first + kept_at (flat_kids (cells_of i)) c) ≡ is_done_cell act.done_cell c
    pub quiet : (c e : ℕ) (child : PlainComponent) → kid_at (flat_kids (cells_of i)) c ≡ Some child
        → e < block_size (Some child)
        → is_done_cell more.done_cell (first + (start_of (flat_kids (cells_of i)) (part_of i) c + e)) ≡ false
    pub embedded : IsEmbedded i first (cells_of host)
    pub stands : Stands i first s z
