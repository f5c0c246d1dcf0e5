-- What a port is seen as under an active set: a value, Conflict, or Undefined.
use Rattle.std.specs.Prelude.{◌≡◌, ℕ, zero, suc, ◌-◌, ◌⊎◌, Bool, true, false, ◌&&◌, ◌==◌, nat_lt, nat_le, nat_eq, List, [], ◌∷◌, ◌++◌, length, map, Option, Some, None, if◌then◌else◌}
use Rattle.cx_text.specs.Members.{In}
use Rattle.cx_bits.specs.BitVector.{BitVector}
use Rattle.cx_meaning.specs.declared.ports.PortRef.{PortRef}
use Rattle.cx_meaning.specs.declared.ports.PortRef.TheVariants as ports
use Rattle.cx_meaning.specs.declared.sights.Seen.{Seen}
use Rattle.cx_meaning.specs.declared.sights.Seen.TheVariants.{Value, Conflict, Undefined}
use Rattle.cx_meaning.specs.Designs.{PlainGuard, Always, Atom, Negation, All, Any, Compared, Within, PlainGuards, no_guards, a_guard, PlainComponent}
use Rattle.cx_prim.specs.declared.ports.PortRow.{PortRow}
use Rattle.cx_prim.specs.declared.ports.Side.{Side}
use Rattle.cx_prim.specs.declared.ports.Side.TheVariants.{Enable, Plain, Output, Registered}
use Rattle.cx_prim.specs.Rows.{Inputs, Row}
use Rattle.cx_meaning.specs.Rows.{side_of}
use Rattle.cx_meaning.specs.Instances.{Instance, Node, Cells, no_cells, a_primitive, an_instance, At, Nothing, OfRow, OfInstance, part_of, cells_of, cell_at, State, under}
use Rattle.cx_meaning.specs.Active.{Active, nothing, Acting, source_order, drivers}
use Rattle.cx_meaning.specs.Truths.{Truth, One, Zero, truth_of_bit, truth_of, not_truth, and_truth, or_truth, compared}
use Rattle.cx_meaning.specs.Truths as truths

-- what the ports of an instance are taken to be seen as
abbrev pub Look : Type 0
Look = PortRef → Seen

-- what the outputs of the component cells are taken to be seen as, by the cell and the number of the output
abbrev pub Below : Type 0
Below = ℕ → ℕ → Seen

-- what the inputs of an instance are held as
abbrev pub Held : Type 0
Held = ℕ → Seen

abbrev pub unheld : Held
unheld input = Undefined

abbrev pub bit_of : Bool → Seen
bit_of true = Value (record { width = 1; value = 1 })
bit_of false = Value (record { width = 1; value = 0 })

-- GUARDS, at an offset of their group
abbrev mutual
  pub guard_truth : Look → ℕ → PlainGuard → Truth
  guard_truth look at Always = One
  guard_truth look at (Atom p) = truth_of (look p.port)
  guard_truth look at (Negation g) = not_truth (guard_truth look at g)
  guard_truth look at (All gs) = all_truth look at gs
  guard_truth look at (Any gs) = any_truth look at gs
  guard_truth look at (Compared c a b) = compared c (look a.port) (look b.port)
  guard_truth look at (Within from to) = truth_of_bit (nat_le from at && nat_lt at to)

  pub all_truth : Look → ℕ → PlainGuards → Truth
  all_truth look at no_guards = One
  all_truth look at (a_guard g gs) = and_truth (guard_truth look at g) (all_truth look at gs)

  pub any_truth : Look → ℕ → PlainGuards → Truth
  any_truth look at no_guards = Zero
  any_truth look at (a_guard g gs) = or_truth (guard_truth look at g) (any_truth look at gs)

-- TARGETS. All guards are seen first: the sources whose guards are 1, in source order, or the first guard that is no value
pub data Taken : Type 0 where
  Sources : (sources : List PortRef) → Taken
  Stopped : (by : Seen) → Taken

abbrev pub with_source : PortRef → Taken → Taken
with_source source (Sources rest) = Sources (source ∷ rest)
with_source source (Stopped by) = Stopped by

abbrev pub take_guard : Truth → PortRef → Taken → Taken
take_guard One source rest = with_source source rest
take_guard Zero source rest = rest
take_guard truths.Conflict source rest = Stopped Conflict
take_guard truths.Undefined source rest = Stopped Undefined

abbrev pub taken : Look → List Acting → Taken
taken look [] = Sources []
taken look (a ∷ rest) = take_guard (guard_truth look a.offset a.assign.guard) a.assign.source.port (taken look rest)

-- of what sources are seen as, in their order: the first that is no value, the value if all are equal, else a conflict
abbrev pub agreed : Seen → Seen → Seen
agreed (Value a) (Value b) = if a.value == b.value then Value a else Conflict
agreed (Value a) Conflict = Conflict
agreed (Value a) Undefined = Undefined
agreed Conflict rest = Conflict
agreed Undefined rest = Undefined

abbrev pub all_agreed : Look → PortRef → List PortRef → Seen
all_agreed look source [] = look source
all_agreed look source (next ∷ rest) = agreed (look source) (all_agreed look next rest)

abbrev pub settle : Seen → Look → Taken → Seen
settle undriven look (Stopped by) = by
settle undriven look (Sources []) = undriven
settle undriven look (Sources (source ∷ rest)) = all_agreed look source rest

-- what a target is seen as, and what it is where no guard is 1
abbrev pub target_seen : Seen → Look → List Acting → Seen
target_seen undriven look acts = settle undriven look (taken look acts)

-- PORTS OF A CELL: what stands at its ports, in order, where the wanted ones are values and nothing stands at the others;
-- or the first wanted port, in port order, that is no value
pub data Gathered : Type 0 where
  Given : (inputs : Inputs) → Gathered
  Lacks : (port : ℕ) (seen : Seen) → Gathered

abbrev pub with_entry : Option BitVector → Gathered → Gathered
with_entry entry (Given rest) = Given (entry ∷ rest)
with_entry entry (Lacks p x) = Lacks p x

abbrev pub gather_one : ℕ → Seen → Gathered → Gathered
gather_one p (Value b) rest = with_entry (Some b) rest
gather_one p Conflict rest = Lacks p Conflict
gather_one p Undefined rest = Lacks p Undefined

abbrev pub gather_port : Bool → ℕ → Seen → Gathered → Gathered
gather_port true p x rest = gather_one p x rest
gather_port false p x rest = with_entry None rest

abbrev pub gather : (ℕ → Seen) → (ℕ → Bool) → ℕ → List PortRow → Gathered
gather look wanted p [] = Given []
gather look wanted p (port ∷ ports) = gather_port (wanted p) p (look p) (gather look wanted (suc p) ports)

-- OUTPUTS OF A PRIMITIVE: by its row over the inputs that it reads; the first that is no value decides, and an
-- address out of range gives Undefined
abbrev pub of_option : Option BitVector → Seen
of_option None = Undefined
of_option (Some b) = Value b

abbrev pub output_seen : (Inputs → Option BitVector) → Gathered → Seen
output_seen f (Given inputs) = of_option (f inputs)
output_seen f (Lacks p x) = x

-- PORTS OF A COMPONENT CELL: go, the inputs, the outputs, done
pub data PartPort : Type 0 where
  Go : PartPort
  AnInput : (input : ℕ) → PartPort
  AnOutput : (output : ℕ) → PartPort
  ItsDone : PartPort

abbrev pub output_port : ℕ → ℕ → PartPort
output_port outputs n = if nat_lt n outputs then AnOutput n else ItsDone

abbrev pub later_port : ℕ → ℕ → ℕ → PartPort
later_port inputs outputs n = if nat_lt n inputs then AnInput n else output_port outputs (n - inputs)

abbrev pub part_port : PlainComponent → ℕ → PartPort
part_port part zero = Go
part_port part (suc n) = later_port (length part.inputs) (length part.outputs) n

abbrev pub is_done_cell : Option ℕ → ℕ → Bool
is_done_cell None c = false
is_done_cell (Some d) c = nat_eq d c

-- ONE STEP: what a port is seen as, where what it needs is seen as the look and the cells below say
module _ (part : PlainComponent) (act : Active) (s : State) (look : Look) (below : Below) where
  -- an input of a cell: 0 where nothing drives an enabling port, and Undefined where nothing drives another one
  abbrev pub input_step : Seen → ℕ → ℕ → Seen
  input_step undriven c p = target_seen undriven look (drivers part act (ports.Cell c p))

  abbrev pub side_step : Row → ℕ → ℕ → Side → Seen
  side_step row c p Enable = input_step (bit_of false) c p
  side_step row c p Plain = input_step Undefined c p
  side_step row c p Output =
      output_seen (λ inputs. row.output (s (c ∷ [])) inputs p)
      (gather (λ q. look (ports.Cell c q)) (row.reads p) 0 row.ports)
  side_step row c p Registered = of_option (row.output (s (c ∷ [])) [] p)

  -- an output of a component cell is what the child gives; its done is 0 but in the capture cycle
  abbrev pub part_step : ℕ → ℕ → PartPort → Seen
  part_step c p Go = input_step (bit_of false) c p
  part_step c p (AnInput input) = input_step Undefined c p
  part_step c p (AnOutput output) = below c output
  part_step c p ItsDone = bit_of (is_done_cell act.done_cell c)

  abbrev pub cell_step : ℕ → ℕ → At → Seen
  cell_step c p Nothing = Undefined
  cell_step c p (OfRow row) = side_step row c p (side_of row p)
  cell_step c p (OfInstance child) = part_step c p (part_port (part_of child) p)

abbrev pub step : Instance → Held → Active → State → Look → Below → PortRef → Seen
step i held act s look below (ports.Cell c p) = cell_step (part_of i) act s look below c p (cell_at (cells_of i) c)
step i held act s look below (ports.Input n) = held n
step i held act s look below (ports.Output n) = target_seen Undefined look (drivers (part_of i) act (ports.Output n))
step i held act s look below (ports.Done g) = target_seen (bit_of false) look (drivers (part_of i) act (ports.Done g))
step i held act s look below (ports.Literal w v) = Value (record { width = w; value = v })

-- WHAT A STEP NEEDS: all guards of a target and the sources of those that are 1, and the inputs that an output reads
abbrev mutual
  pub GuardNames : PlainGuard → PortRef → Type 0
  GuardNames Always q = ⊥
  GuardNames (Atom p) q = p.port ≡ q
  GuardNames (Negation g) q = GuardNames g q
  GuardNames (All gs) q = AnyNames gs q
  GuardNames (Any gs) q = AnyNames gs q
  GuardNames (Compared c a b) q = (a.port ≡ q) ⊎ (b.port ≡ q)
  GuardNames (Within from to) q = ⊥

  pub AnyNames : PlainGuards → PortRef → Type 0
  AnyNames no_guards q = ⊥
  AnyNames (a_guard g gs) q = GuardNames g q ⊎ AnyNames gs q

abbrev pub IsTaken : Taken → PortRef → Type 0
IsTaken (Stopped by) q = ⊥
IsTaken (Sources sources) q = In sources q

abbrev pub TargetNeeds : Look → List Acting → PortRef → Type 0
TargetNeeds look acts q = ((a : Acting) × In acts a × GuardNames a.assign.guard q) ⊎ IsTaken (taken look acts) q

-- a wanted port of a cell
abbrev pub IsWanted : ℕ → (ℕ → Bool) → PortRef → Type 0
IsWanted c wanted q = (p : ℕ) × (wanted p ≡ true) × (ports.Cell c p ≡ q)

module _ (part : PlainComponent) (act : Active) (look : Look) where
  abbrev pub SideNeeds : Row → ℕ → ℕ → Side → PortRef → Type 0
  SideNeeds row c p Enable q = TargetNeeds look (drivers part act (ports.Cell c p)) q
  SideNeeds row c p Plain q = TargetNeeds look (drivers part act (ports.Cell c p)) q
  SideNeeds row c p Output q = IsWanted c (row.reads p) q
  SideNeeds row c p Registered q = ⊥

  abbrev pub PartNeeds : ℕ → ℕ → PartPort → PortRef → Type 0
  PartNeeds c p Go q = TargetNeeds look (drivers part act (ports.Cell c p)) q
  PartNeeds c p (AnInput input) q = TargetNeeds look (drivers part act (ports.Cell c p)) q
  PartNeeds c p (AnOutput output) q = ⊥
  PartNeeds c p ItsDone q = ⊥

  abbrev pub CellNeeds : ℕ → ℕ → At → PortRef → Type 0
  CellNeeds c p Nothing q = ⊥
  CellNeeds c p (OfRow row) q = SideNeeds row c p (side_of row p) q
  CellNeeds c p (OfInstance child) q = PartNeeds c p (part_port (part_of child) p) q

abbrev pub Needs : Instance → Active → Look → PortRef → PortRef → Type 0
Needs i act look (ports.Cell c p) q = CellNeeds (part_of i) act look c p (cell_at (cells_of i) c) q
Needs i act look (ports.Input n) q = ⊥
Needs i act look (ports.Output n) q = TargetNeeds look (drivers (part_of i) act (ports.Output n)) q
Needs i act look (ports.Done g) q = TargetNeeds look (drivers (part_of i) act (ports.Done g)) q
Needs i act look (ports.Literal w v) q = ⊥

-- SEEN AS, a rule of three parts: what the port needs here is seen as the look says; what it needs of a child, the child's outputs,
-- is seen in the child's state under its continuous assignments as `below` says (the child's inputs do not matter there, since outputs
-- rest on state); and one step from these gives what the port is seen as
pub data Sees : Instance → Held → Active → State → PortRef → Seen → Type 0 where
  by_step : {i : Instance} {held : Held} {act : Active} {s : State} {p : PortRef} {x : Seen} (look : Look)
      (below : Below)
      → (here : (q : PortRef) → Needs i act look p q → Sees i held act s q (look q))
      → (of_child : (c port n : ℕ) (child : Instance) → p ≡ ports.Cell c port →
      cell_at (cells_of i) c ≡ OfInstance child →
      Sees child unheld nothing (under c s) (ports.Output n) (below c n))
      → (one_step : step i held act s look below p ≡ x) → Sees i held act s p x

-- WHAT A PORT IS SEEN AS, FOUND: step by step from ports of which nothing is known yet. After steps enough every port is
-- found that does not need itself; one that does is Undefined
abbrev pub approach : Instance → Held → Active → State → Below → ℕ → Look
approach i held act s below zero p = Undefined
approach i held act s below (suc n) p = step i held act s (approach i held act s below n) below p

abbrev pub numbered : ℕ → ℕ → List PortRef
numbered c zero = []
numbered c (suc n) = ports.Cell c n ∷ numbered c n

abbrev pub ports_of_cells : Cells → ℕ → List PortRef
ports_of_cells no_cells c = []
ports_of_cells (a_primitive row rest) c = numbered c (length row.ports) ++ ports_of_cells rest (suc c)
ports_of_cells (an_instance child rest) c = ports_of_cells rest (suc c)

-- the ports to which something can lead: those of primitive cells, and the targets of assignments
abbrev pub ports_of : Instance → List PortRef
ports_of i = ports_of_cells (cells_of i) 0 ++ map (λ a. a.assign.target) (source_order (part_of i))

-- STEPS ENOUGH: a way of needs that meets no port twice passes at most each port to which something can lead, and ends in one more
abbrev pub steps_enough : Instance → ℕ
steps_enough i = suc (length (ports_of i))

abbrev mutual
  pub seen : Instance → Held → Active → State → Look
  seen (Node part cells) held act s p =
      approach (Node part cells) held act s (outputs_below cells (λ c. under c s))
      (steps_enough (Node part cells)) p

  pub outputs_below : Cells → (ℕ → State) → Below
  outputs_below no_cells states c n = Undefined
  outputs_below (a_primitive row rest) states zero n = Undefined
  outputs_below (a_primitive row rest) states (suc c) n = outputs_below rest (λ k. states (suc k)) c n
  outputs_below (an_instance child rest) states zero n = seen child unheld nothing (states 0) (ports.Output n)
  outputs_below (an_instance child rest) states (suc c) n = outputs_below rest (λ k. states (suc k)) c n
