-- What every design keeps: its numbers name its own parts, its names are apart, no cell leads back to its component, and
-- it breaks no rule on names that speaks of its own parts.
use Rattle.std.specs.Prelude.{◌≡◌, ◌≢◌, ℕ, ◌+◌, ◌^◌, ◌<◌, ◌≤◌, Bool, true, false, List, [], ◌∷◌, ◌++◌, Option, Some, None, codes, length, map, slice_get}
use Rattle.cx_prim.specs.declared.names.PrimitiveName.{PrimitiveName}
use Rattle.cx_prim.specs.declared.names.PrimitiveName.TheVariants as primitives
use Rattle.cx_prim.specs.PrimitiveNames.{name_text}
use Rattle.cx_prim.specs.CellStates.{StateShape, NoState, RegisterOf, MemoryOf, SequentialMemoryOf, MultiplierOf, DividerOf, TimerOf}
use Rattle.cx_prim.specs.Table.{HasRow, row_of}
use Rattle.cx_meaning.specs.declared.ports.PortRef.{PortRef}
use Rattle.cx_meaning.specs.declared.ports.PortRef.TheVariants as ports
use Rattle.cx_meaning.specs.declared.ports.PlacedPort.{PlacedPort}
use Rattle.cx_meaning.specs.declared.kinds.GroupKind.TheVariants as kinds
use Rattle.cx_meaning.specs.declared.kinds.PortDecl.{PortDecl}
use Rattle.cx_meaning.specs.Designs.{Always, PlainAssign, PlainInvoke, PlainKind, OfPrimitive, OfComponent, PlainCell, PlainComponent, PlainDesign, component_at, group_at, PlainForm, Empty, Enable, Seq, Par, If, While, Repeat, StaticSeq, StaticPar, StaticIf, StaticRepeat, Timed}
use Rattle.cx_meaning.specs.Instances.{Instance, At, Nothing, OfRow, OfInstance, part_of, cells_of, cell_at}
use Rattle.cx_text.specs.Members.{In}
use Rattle.cx_meaning.specs.Control.{groups_of}
use Rattle.cx_rules.specs.Ports.{component_of}
use Rattle.cx_rules.specs.Items.{sources_of, is_comb, Visited, statements_in, test_in}
use Rattle.cx_rules.specs.ShapeRules.{is_hole}
use Rattle.cx_rules.specs.CallShape.{IsInput, is_register, write_en_of, one}
use Rattle.cx_rules.specs.InvokeShape.{latency_at}
use Rattle.cx_rules.specs.Invokes.{invokes_of}
use Rattle.cx_rules.specs.Sizes.{design_size}

-- the number names a port
abbrev pub port_count : At → ℕ
port_count Nothing = 0
port_count (OfRow row) = length row.ports
port_count (OfInstance child) = 2 + length (part_of child).inputs + length (part_of child).outputs

abbrev pub IsThere : Instance → PortRef → Type 0
IsThere i (ports.Cell c p) = (c < length (part_of i).cells) × (p < port_count (cell_at (cells_of i) c))
IsThere i (ports.Input n) = n < length (part_of i).inputs
IsThere i (ports.Output n) = n < length (part_of i).outputs
IsThere i (ports.Done g) = g < length (part_of i).groups
IsThere i (ports.Literal w v) = Unit {0}

-- an assignment of a component, continuous or of a group
abbrev pub StandsIn : PlainComponent → Option ℕ → PlainAssign → Type 0
StandsIn part None a = In part.always a
StandsIn part (Some g) a = (g < length part.groups) × In (group_at part g).assigns a

-- an assignment names ports that are there; its target is no literal, a done is driven in its own group alone and not by a
-- bare 1'd1, an output of the signature continuously alone, and nothing reads a hole
pub record IsAssign (i : Instance) (owner : Option ℕ) (a : PlainAssign) : Type 0 where
  pub target : IsThere i a.target
  pub no_literal : (w v : ℕ) → a.target ≢ ports.Literal w v
  pub own_hole : (g : ℕ) → a.target ≡ ports.Done g → owner ≡ Some g
  pub no_bare_done : (g : ℕ) → a.target ≡ ports.Done g → a.guard ≡ Always → a.source.port ≢ ports.Literal 1 1
  pub output_outside : (n : ℕ) → a.target ≡ ports.Output n → owner ≡ None
  pub sources : (p : PlacedPort) → In (sources_of a) p → IsThere i p.port
  pub no_hole : (p : PlacedPort) → In (sources_of a) p → is_hole p.port ≡ false

-- a group that control enables is there and is no comb group; the group of a with is there and is one
abbrev pub IsEnable : PlainComponent → ℕ → Type 0
IsEnable part g = (g < length part.groups) × (is_comb (group_at part g).kind ≡ false)

abbrev pub IsWith : PlainComponent → Option ℕ → Type 0
IsWith part None = Unit {0}
IsWith part (Some g) = (g < length part.groups) × (is_comb (group_at part g).kind ≡ true)

-- a timed statement of a design that is not lowered is a static invoke of its component
abbrev pub IsForm : PlainComponent → PlainForm → Type 0
IsForm part Empty = Unit {0}
IsForm part (Enable g) = IsEnable part g
IsForm part (Seq parts) = Unit {0}
IsForm part (Par arms) = Unit {0}
IsForm part (If test comb a b) = IsWith part comb
IsForm part (While test comb a) = IsWith part comb
IsForm part (Repeat count a) = Unit {0}
IsForm part (StaticSeq length parts) = Unit {0}
IsForm part (StaticPar length arms) = Unit {0}
IsForm part (StaticIf length test a b) = Unit {0}
IsForm part (StaticRepeat length count a) = Unit {0}
IsForm part (Timed k) = k < length part.invokes

pub record IsStatement (i : Instance) (v : Visited) : Type 0 where
  pub form : IsForm (part_of i) v.form
  pub test : (p : PlacedPort) → test_in v.form ≡ Some p → IsThere i p.port
  pub no_hole : (p : PlacedPort) → test_in v.form ≡ Some p → is_hole p.port ≡ false

-- an input that a static invoke of cell c binds: an input of the cell, without a guard, from a port that is there and is no hole
pub record IsBind (i : Instance) (c : ℕ) (a : PlainAssign) : Type 0 where
  pub port : ℕ
  pub target : a.target ≡ ports.Cell c port
  pub there : IsThere i a.target
  pub input : (child : Instance) → cell_at (cells_of i) c ≡ OfInstance child → IsInput child port
  pub no_guard : a.guard ≡ Always
  pub source : IsThere i a.source.port
  pub no_hole : is_hole a.source.port ≡ false

-- the group that captures takes ports of the cell into registers and enables them, in one cycle; it has no name, and
-- no statement enables it
pub data IsCapture (i : Instance) (c : ℕ) (a : PlainAssign) : Type 0 where
  takes : (r q : ℕ) → is_register (part_of i) r ≡ true → a.target ≡ ports.Cell r 0 → a.guard ≡ Always
      → a.source.port ≡ ports.Cell c q → IsCapture i c a
  enables : (r : ℕ) → is_register (part_of i) r ≡ true → a.target ≡ write_en_of r → a.guard ≡ Always
      → a.source.port ≡ one → IsCapture i c a

pub record IsCapturing (i : Instance) (c g : ℕ) : Type 0 where
  pub there : g < length (part_of i).groups
  pub one_cycle : (group_at (part_of i) g).kind ≡ kinds.Timed 1
  pub unnamed : (group_at (part_of i) g).name ≡ []
  pub not_enabled : In (groups_of (part_of i).control) g → ⊥
  pub assigns : (a : PlainAssign) → In (group_at (part_of i) g).assigns a → IsCapture i c a

-- a static invoke names a cell and has the latency of its component; it binds inputs of the cell, each once; its group captures
pub record IsInvoke (i : Instance) (v : PlainInvoke) : Type 0 where
  pub cell : v.cell < length (part_of i).cells
  pub latency : v.latency ≡ latency_at (cell_at (cells_of i) v.cell)
  pub inputs : (a : PlainAssign) → In v.inputs a → IsBind i v.cell a
  pub once : (m n : ℕ) (a b : PlainAssign) → slice_get v.inputs m ≡ Some a → slice_get v.inputs n ≡ Some b
      → a.target ≡ b.target → m ≡ n
  pub captures : (g : ℕ) → v.captures ≡ Some g → IsCapturing i v.cell g

-- a row of a memory
abbrev pub is_memory : StateShape → Bool
is_memory NoState = false
is_memory (RegisterOf width) = false
is_memory (MemoryOf width count) = true
is_memory (SequentialMemoryOf width count) = true
is_memory (MultiplierOf width latency) = false
is_memory (DividerOf width latency) = false
is_memory (TimerOf length) = false

-- the first number of a memory is the width of its words
abbrev pub first_number : List ℕ → ℕ
first_number [] = 0
first_number (n ∷ rest) = n

-- the numbers of a primitive keep its row, no design names the internal timer, and a component's number names one
abbrev pub IsKind : PlainDesign → PlainKind → Type 0
IsKind d (OfPrimitive primitive) = HasRow primitive × (primitive.name ≢ primitives.Timer)
IsKind d (OfComponent k) = k < length d.components

-- an external cell is a memory of main with words of at most 64 bits
abbrev pub IsExternal : PlainDesign → ℕ → PlainKind → Type 0
IsExternal d k (OfPrimitive primitive) =
    (k ≡ d.main) × (is_memory (row_of primitive).shape ≡ true) × (first_number primitive.numbers ≤ 64)
IsExternal d k (OfComponent j) = ⊥

pub record IsCell (d : PlainDesign) (k : ℕ) (cell : PlainCell) : Type 0 where
  pub kind : IsKind d cell.kind
  pub external : cell.external ≡ true → IsExternal d k cell.kind

-- no two entries of a list have one name that is not empty
abbrev pub AreApart : List (List ℕ) → Type 0
AreApart names =
    (m n : ℕ) (name : List ℕ) → slice_get names m ≡ Some name → slice_get names n ≡ Some name → name ≢ []
    → m ≡ n

-- a port of the signature: 1 to 128 bits wide, and none of the four that every component has
pub record IsPort (decl : PortDecl) : Type 0 where
  pub some_bits : 1 ≤ decl.width
  pub few_bits : decl.width ≤ 128
  pub no_go : decl.name ≢ codes "go"
  pub no_clk : decl.name ≢ codes "clk"
  pub no_reset : decl.name ≢ codes "reset"
  pub no_done : decl.name ≢ codes "done"

abbrev pub IsSignature : List PortDecl → Type 0
IsSignature decls = (decl : PortDecl) → In decls decl → IsPort decl

pub record IsComponent (d : PlainDesign) (k : ℕ) : Type 0 where
  pub cells : (cell : PlainCell) → In (component_at d k).cells cell → IsCell d k cell
  pub assigns : (owner : Option ℕ) (a : PlainAssign) → StandsIn (component_at d k) owner a
      → IsAssign (component_of d k) owner a
  pub statements : (v : Visited) → In (statements_in (component_at d k)) v → IsStatement (component_of d k) v
  pub invokes : (v : PlainInvoke) → In (component_at d k).invokes v → IsInvoke (component_of d k) v
  pub invoked : (n : ℕ) → n < length (component_at d k).invokes → In (invokes_of (component_at d k).control) n
  pub captures_apart : (m n g : ℕ) (v w : PlainInvoke) → slice_get (component_at d k).invokes m ≡ Some v
      → slice_get (component_at d k).invokes n ≡ Some w
      → v.captures ≡ Some g → w.captures ≡ Some g → m ≡ n
  pub inputs : IsSignature (component_at d k).inputs
  pub outputs : IsSignature (component_at d k).outputs
  pub port_names : AreApart (map (λ decl. decl.name) ((component_at d k).inputs ++ (component_at d k).outputs))
  pub cell_names : AreApart (map (λ cell. cell.name) (component_at d k).cells)
  pub group_names : AreApart (map (λ group. group.name) (component_at d k).groups)
  pub no_primitive_name : (name : PrimitiveName) → name ≢ primitives.Timer → (component_at d k).name ≢ name_text name

-- component k has a cell of component j, or a cell of one that leads to it
pub data LeadsTo (d : PlainDesign) : ℕ → ℕ → Type 0 where
  by_cell : {k : ℕ} (j : ℕ) (cell : PlainCell) → In (component_at d k).cells cell
      → cell.kind ≡ OfComponent j → LeadsTo d k j
  by_way_of : {k j : ℕ} (m : ℕ) → LeadsTo d k m → LeadsTo d m j → LeadsTo d k j

-- WHAT EVERY DESIGN KEEPS
pub record IsDesign (d : PlainDesign) : Type 0 where
  pub main_there : d.main < length d.components
  pub main_named : (component_at d d.main).name ≡ codes "main"
  pub main_dynamic : (component_at d d.main).latency ≡ None
  pub main_bare : ((component_at d d.main).inputs ≡ []) × ((component_at d d.main).outputs ≡ [])
  pub components : (k : ℕ) → k < length d.components → IsComponent d k
  pub component_names : (j k : ℕ) → j < length d.components → k < length d.components
      → (component_at d j).name ≡ (component_at d k).name → j ≡ k
  pub not_recursive : (k : ℕ) → LeadsTo d k k → ⊥
  pub few_parts : design_size d < 2 ^ 32
