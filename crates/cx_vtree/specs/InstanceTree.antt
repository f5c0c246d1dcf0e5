-- The instances of a source, and what gives each of their nets its value.
use Rattle.std.specs.Prelude.{ℕ, ◌+◌, List, [], ◌∷◌, ◌++◌, Bool, false, ◌==◌, ◌&&◌, length, map, reverse, Option, Some, None, option_and_then, option_map, slice_get, if◌then◌else◌, codes}
use Rattle.std.specs.Option.{option_map_or}
use Rattle.std.specs.Cmp.Lexicographic.{pointwise}
use Rattle.cx_vtree.specs.Plain.{PlainExpr, PlainPort, PlainDecl, WireOf, RegisterOf, ArrayOf, PlainAssign, PlainConn, PlainInstance, PlainModule, PlainSource}

-- two names are one
abbrev pub same_name : List ℕ → List ℕ → Bool
same_name = pointwise ◌==◌

-- one instance: its module, its name, the number of the instance that holds it, and how it is connected there
pub record Placed : Type 0 where
  pub part : PlainModule
  pub name : List ℕ
  pub holder : ℕ
  pub conns : List PlainConn

-- the instances of a module in the order of the text, each with all below it; `next` is the first one's number
abbrev pub below : (PlainInstance → ℕ → ℕ → List Placed) → ℕ → ℕ → List PlainInstance → List Placed
below tree holder next [] = []
below tree holder next (i ∷ rest) = let t = tree i holder next in t ++ below tree holder (next + length t) rest

-- an instance, numbered `number`, and all below it. The modules are those that ended before, the last one first.
abbrev pub tree_from : List PlainModule → PlainInstance → ℕ → ℕ → List Placed
tree_from [] i holder number = []
tree_from (m ∷ before) i holder number =
    if same_name m.name i.kind
    then record { part = m; name = i.name; holder = holder; conns = i.conns }
    ∷ below (tree_from before) number (number + 1) m.instances
    else tree_from before i holder number

-- `main` as an instance: it has no name, and nothing is connected to it
abbrev pub main_instance : PlainInstance
main_instance = record { kind = codes "main"; name = []; conns = [] }

-- all instances of the tree of `main`, which is number 0: each before those that it holds, and these in the order of the text
abbrev pub instances_of : PlainSource → List Placed
instances_of s = tree_from (reverse s.modules) main_instance 0 0

abbrev pub ports_at : List Placed → ℕ → List PlainPort
ports_at tree i = option_map_or (λ p. p.part.ports) (slice_get tree i) []

abbrev pub decls_at : List Placed → ℕ → List PlainDecl
decls_at tree i = option_map_or (λ p. p.part.decls) (slice_get tree i) []

-- the wires and registers, in the order of the text
abbrev pub declared_nets : List PlainDecl → List (List ℕ)
declared_nets [] = []
declared_nets (WireOf n w ∷ ds) = n ∷ declared_nets ds
declared_nets (RegisterOf n w ∷ ds) = n ∷ declared_nets ds
declared_nets (ArrayOf n w k ∷ ds) = declared_nets ds

-- the nets of an instance, numbered from 0: its ports, then its wires and registers
abbrev pub nets_at : List Placed → ℕ → List (List ℕ)
nets_at tree i = map (λ p. p.name) (ports_at tree i) ++ declared_nets (decls_at tree i)

-- the arrays, in the order of the text
abbrev pub declared_arrays : List PlainDecl → List (List ℕ)
declared_arrays [] = []
declared_arrays (WireOf n w ∷ ds) = declared_arrays ds
declared_arrays (RegisterOf n w ∷ ds) = declared_arrays ds
declared_arrays (ArrayOf n w k ∷ ds) = n ∷ declared_arrays ds

-- the arrays of an instance, numbered from 0
abbrev pub arrays_at : List Placed → ℕ → List (List ℕ)
arrays_at tree i = declared_arrays (decls_at tree i)

-- what a net is in its module
pub data NetKind : Type 0 where
  Input : NetKind
  -- an output or a wire
  Driven : NetKind
  Stored : (width : ℕ) → NetKind

abbrev pub declared_kind : List PlainDecl → List ℕ → Option NetKind
declared_kind [] name = None
declared_kind (WireOf n w ∷ ds) name = if same_name n name then Some Driven else declared_kind ds name
declared_kind (RegisterOf n w ∷ ds) name = if same_name n name then Some (Stored w) else declared_kind ds name
declared_kind (ArrayOf n w k ∷ ds) name = declared_kind ds name

abbrev pub kind_in : List PlainPort → List PlainDecl → List ℕ → Option NetKind
kind_in [] ds name = declared_kind ds name
kind_in (p ∷ ps) ds name =
    if same_name p.name name then Some (if p.output then Driven else Input) else kind_in ps ds name

-- what gives a net its value in one cycle
pub data Origin : Type 0 where
  -- an input of `main`, from outside
  Outside : Origin
  -- another net, by its instance and its name
  Tied : (instance : ℕ) (net : List ℕ) → Origin
  -- a register of this width
  Held : (width : ℕ) → Origin
  -- an expression over the nets of the same instance
  Given : (e : PlainExpr) → Origin

-- the net that a port is connected to
abbrev pub net_of : List PlainConn → List ℕ → Option (List ℕ)
net_of [] port = None
net_of (c ∷ cs) port = if same_name c.port port then Some c.net else net_of cs port

-- an input has the value of the net that it is connected to in the instance around
abbrev pub input_origin : ℕ → Placed → List ℕ → Option Origin
input_origin i p port = if i == 0 then Some Outside else option_map (Tied p.holder) (net_of p.conns port)

-- the expression that is assigned to a net
abbrev pub assigned : List PlainAssign → List ℕ → Option PlainExpr
assigned [] name = None
assigned (a ∷ rest) name = if same_name a.name name then Some a.value else assigned rest name

-- whether a port of this name is an output
abbrev pub is_output : List PlainPort → List ℕ → Bool
is_output [] name = false
is_output (p ∷ ps) name = if same_name p.name name then p.output else is_output ps name

-- the output that is connected to a net
abbrev pub output_to : List PlainPort → List PlainConn → List ℕ → Option (List ℕ)
output_to ports [] net = None
output_to ports (c ∷ cs) net =
    if same_name c.net net && is_output ports c.port then Some c.port else output_to ports cs net

-- of the instances from number `number` on, the output of one in `holder` that is connected to a net there
abbrev pub driving_output : List Placed → ℕ → ℕ → List ℕ → Option Origin
driving_output [] number holder net = None
driving_output (p ∷ rest) number holder net =
    option_map_or (λ port. Some (Tied number port))
    (if p.holder == holder then output_to p.part.ports p.conns net else None)
    (driving_output rest (number + 1) holder net)

-- an output or a wire has the value of its assigned expression, or of the output of an instance
abbrev pub driver_of : List Placed → ℕ → Placed → List ℕ → Option Origin
driver_of tree i p name =
    option_map_or (λ e. Some (Given e)) (assigned p.part.assigns name) (driving_output tree 0 i name)

abbrev pub origin_by : List Placed → ℕ → Placed → List ℕ → NetKind → Option Origin
origin_by tree i p name Input = input_origin i p name
origin_by tree i p name Driven = driver_of tree i p name
origin_by tree i p name (Stored w) = Some (Held w)

-- what gives the net of a name in an instance its value; None where the instance has no such net, or nothing drives it
abbrev pub origin_of : List Placed → ℕ → List ℕ → Option Origin
origin_of tree i name =
    option_and_then
    (λ p. option_and_then (origin_by tree i p name) (kind_in p.part.ports p.part.decls name))
    (slice_get tree i)
