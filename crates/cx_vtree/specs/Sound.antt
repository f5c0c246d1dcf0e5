-- The rules that a source keeps. Each test here is true where a rule is broken; `faults_of` tells for each line of the
-- text which kinds of rules are broken there, and a source is sound where none is.
use Rattle.std.specs.Prelude.{ℕ, ◌+◌, ◌-◌, ◌^◌, ◌==◌, ◌&&◌, ◌||◌, not, nat_lt, nat_le, min, List, [], ◌∷◌, ◌++◌, Bool, true, false, Option, Some, None, option_and_then, is_none, is_some, map, length, if◌then◌else◌, codes}
use Rattle.std.specs.Option.{option_map_or}
use Rattle.std.specs.List.{list_any}
use Rattle.cx_text.specs.Loading.{word_count}
use Rattle.cx_vtree.specs.declared.operators.Operator.{Operator}
use Rattle.cx_vtree.specs.declared.operators.Operator.TheVariants.{Add, Subtract, Multiply, And, Or, Xor, ShiftLeft, ShiftRight, Equal, NotEqual, Less, Greater, AtMost, AtLeast}
use Rattle.cx_vtree.specs.declared.meanings.Meaning.{Meaning}
use Rattle.cx_vtree.specs.declared.meanings.Meaning.TheVariants.{Input, Output, Wire, Register, Array, Nothing}
use Rattle.cx_vtree.specs.Plain.{PlainExpr, Named, Number, Part, Word, Applied, Inverted, Chosen, Joined, PlainPort, PlainDecl, WireOf, RegisterOf, ArrayOf, PlainAssign, PlainConn, PlainInstance, PlainStore, PlainItem, SetTo, StoreTo, PlainEdge, PlainModule, PlainExternal, PlainSource}
use Rattle.cx_vtree.specs.InstanceTree.{same_name}
use Rattle.cx_vtree.specs.Layout.{is_laid_out}

-- which kinds of rules a line breaks
pub record Faults : Type 0 where
  pub name : Bool
  pub width : Bool
  pub limit : Bool

abbrev pub no_faults : Faults
no_faults = record { name = false; width = false; limit = false }

abbrev pub decl_name : PlainDecl → List ℕ
decl_name (WireOf n w) = n
decl_name (RegisterOf n w) = n
decl_name (ArrayOf n w k) = n

-- what a declaration or a port makes its name stand for
abbrev pub decl_meaning : PlainDecl → Meaning
decl_meaning (WireOf n w) = Wire w
decl_meaning (RegisterOf n w) = Register w
decl_meaning (ArrayOf n w k) = Array w

abbrev pub port_meaning : PlainPort → Meaning
port_meaning p = if p.output then Output p.width else Input p.width

abbrev pub meant_decl : List PlainDecl → List ℕ → Meaning
meant_decl [] name = Nothing
meant_decl (d ∷ ds) name = if same_name (decl_name d) name then decl_meaning d else meant_decl ds name

abbrev pub meant_in : List PlainPort → List PlainDecl → List ℕ → Meaning
meant_in [] ds name = meant_decl ds name
meant_in (p ∷ ps) ds name = if same_name p.name name then port_meaning p else meant_in ps ds name

abbrev pub width_of : Meaning → ℕ
width_of (Input w) = w
width_of (Output w) = w
width_of (Wire w) = w
width_of (Register w) = w
width_of (Array w) = w
width_of Nothing = 0

-- an input, a wire or a register
abbrev pub is_source : Meaning → Bool
is_source (Input w) = true
is_source (Output w) = false
is_source (Wire w) = true
is_source (Register w) = true
is_source (Array w) = false
is_source Nothing = false

abbrev pub is_array : Meaning → Bool
is_array (Input w) = false
is_array (Output w) = false
is_array (Wire w) = false
is_array (Register w) = false
is_array (Array w) = true
is_array Nothing = false

abbrev pub is_register : Meaning → Bool
is_register (Input w) = false
is_register (Output w) = false
is_register (Wire w) = false
is_register (Register w) = true
is_register (Array w) = false
is_register Nothing = false

-- a wire or an output port: it has exactly one driver
abbrev pub is_driven : Meaning → Bool
is_driven (Input w) = false
is_driven (Output w) = true
is_driven (Wire w) = true
is_driven (Register w) = false
is_driven (Array w) = false
is_driven Nothing = false

abbrev pub is_wire : Meaning → Bool
is_wire (Input w) = false
is_wire (Output w) = false
is_wire (Wire w) = true
is_wire (Register w) = false
is_wire (Array w) = false
is_wire Nothing = false

-- A scope is what each name stands for.
abbrev pub Scope : Type 0
Scope = List ℕ → Meaning

-- a name may stand in an expression: an input other than `clk`, a wire or a register
abbrev pub is_readable : Scope → List ℕ → Bool
is_readable scope n = is_source (scope n) && not (same_name n (codes "clk"))

abbrev pub is_comparison : Operator → Bool
is_comparison Add = false
is_comparison Subtract = false
is_comparison Multiply = false
is_comparison And = false
is_comparison Or = false
is_comparison Xor = false
is_comparison ShiftLeft = false
is_comparison ShiftRight = false
is_comparison Equal = true
is_comparison NotEqual = true
is_comparison Less = true
is_comparison Greater = true
is_comparison AtMost = true
is_comparison AtLeast = true

-- a name that may not stand where it stands, or a literal that does not fit its width
abbrev pub misnames : Scope → PlainExpr → Bool
misnames scope (Named n) = not (is_readable scope n)
misnames scope (Number b) = nat_le (2 ^ b.width) b.value
misnames scope (Part n high low) = not (is_readable scope n)
misnames scope (Word n i) = not (is_array (scope n)) || misnames scope i
misnames scope (Applied op a b) = misnames scope a || misnames scope b
misnames scope (Inverted a) = misnames scope a
misnames scope (Chosen c a b) = misnames scope c || misnames scope a || misnames scope b
misnames scope (Joined a b) = misnames scope a || misnames scope b

-- a width is 1 to 128
abbrev pub bad_width : ℕ → Bool
bad_width w = w == 0 || nat_lt 128 w

abbrev pub applied_width : Operator → ℕ → ℕ → Option ℕ
applied_width op v w = if v == w then Some (if is_comparison op then 1 else v) else None

abbrev pub chosen_width : ℕ → ℕ → ℕ → Option ℕ
chosen_width t v w = if t == 1 && v == w then Some v else None

abbrev pub joined_width : ℕ → ℕ → Option ℕ
joined_width v w = if nat_le (v + w) 128 then Some (v + w) else None

-- the same of operands, None where one of them has no width
abbrev pub operator_width : Operator → Option ℕ → Option ℕ → Option ℕ
operator_width op left right = option_and_then (λ v. option_and_then (applied_width op v) right) left

abbrev pub choice_width : Option ℕ → Option ℕ → Option ℕ → Option ℕ
choice_width test one other =
    option_and_then (λ t. option_and_then (λ v. option_and_then (chosen_width t v) other) one) test

abbrev pub sides_width : Option ℕ → Option ℕ → Option ℕ
sides_width high low = option_and_then (λ v. option_and_then (joined_width v) low) high

abbrev pub part_width : ℕ → ℕ → ℕ → Option ℕ
part_width w high low = if nat_le low high && nat_lt high w then Some (high + 1 - low) else None

-- the width of an expression; None where a literal is not 1 to 128 bits wide, a part is not within its name's bits,
-- operands differ in width, a condition has several bits, or a concatenation has more than 128
abbrev pub fitting_width : Scope → PlainExpr → Option ℕ
fitting_width scope (Named n) = Some (width_of (scope n))
fitting_width scope (Number b) = if bad_width b.width then None else Some b.width
fitting_width scope (Part n high low) = part_width (width_of (scope n)) high low
fitting_width scope (Word n i) = option_and_then (λ v. Some (width_of (scope n))) (fitting_width scope i)
fitting_width scope (Applied op a b) =
    option_and_then (λ v. option_and_then (applied_width op v) (fitting_width scope b))
    (fitting_width scope a)
fitting_width scope (Inverted a) = fitting_width scope a
fitting_width scope (Chosen c a b) =
    option_and_then (λ t. option_and_then
    (λ v. option_and_then (chosen_width t v) (fitting_width scope b)) (fitting_width scope a))
    (fitting_width scope c)
fitting_width scope (Joined a b) =
    option_and_then (λ v. option_and_then (joined_width v) (fitting_width scope b)) (fitting_width scope a)

-- the widths in the expression fit, and it has this width
abbrev pub has_width : Scope → PlainExpr → ℕ → Bool
has_width scope e w = option_map_or (λ v. v == w) (fitting_width scope e) false

-- more than so many levels are nested: each bracket is one, and each `[` before an index
abbrev pub nests_over : ℕ → PlainExpr → Bool
nests_over levels (Named n) = false
nests_over levels (Number b) = false
nests_over levels (Part n high low) = false
nests_over levels (Word n i) = levels == 0 || nests_over (levels - 1) i
nests_over levels (Applied op a b) = levels == 0 || nests_over (levels - 1) a || nests_over (levels - 1) b
nests_over levels (Inverted a) = levels == 0 || nests_over (levels - 1) a
nests_over levels (Chosen c a b) =
    levels == 0 || nests_over (levels - 1) c || nests_over (levels - 1) a || nests_over (levels - 1) b
nests_over levels (Joined a b) = levels == 0 || nests_over (levels - 1) a || nests_over (levels - 1) b

abbrev pub too_deep : PlainExpr → Bool
too_deep e = nests_over 64 e

abbrev pub has_name : List (List ℕ) → List ℕ → Bool
has_name ns name = list_any (λ n. same_name n name) ns

-- the module of a name, among some
abbrev pub module_named : List PlainModule → List ℕ → Option PlainModule
module_named [] name = None
module_named (m ∷ ms) name = if same_name m.name name then Some m else module_named ms name

-- whether a module has an output of this name
abbrev pub has_output : List PlainPort → List ℕ → Bool
has_output ps name = list_any (λ p. p.output && same_name p.name name) ps

-- the nets that the first of the connections drive: those of outputs, by name, of the instance's module
abbrev pub driven_by : List PlainPort → List PlainConn → List (List ℕ)
driven_by ports [] = []
driven_by ports (c ∷ cs) = if has_output ports c.port then c.net ∷ driven_by ports cs else driven_by ports cs

-- the ports of an instance's module, which ended before; none where there is no such module
abbrev pub ports_of : List PlainModule → List ℕ → List PlainPort
ports_of before kind = option_map_or (λ m. m.ports) (module_named before kind) []

abbrev pub driven_by_all : List PlainModule → List PlainInstance → List (List ℕ)
driven_by_all before [] = []
driven_by_all before (i ∷ rest) = driven_by (ports_of before i.kind) i.conns ++ driven_by_all before rest

-- the nets that a module drives
abbrev pub drivers_in : List PlainModule → PlainModule → List (List ℕ)
drivers_in before m = map (λ a. a.name) m.assigns ++ driven_by_all before m.instances

-- Ports: every module begins with `clk` and `reset`, and `main` has `go` and `done` besides, and no more.
abbrev pub is_port : List ℕ → Bool → PlainPort → Bool
is_port name output p = same_name p.name name && (if output then p.output else not p.output)

abbrev pub wrong_port : Bool → ℕ → PlainPort → Bool
wrong_port is_main index p =
    if index == 0 then not (is_port (codes "clk") false p)
    else (if index == 1 then not (is_port (codes "reset") false p)
    else (if not is_main then false
    else (if index == 2 then not (is_port (codes "go") false p)
    else (if index == 3 then not (is_port (codes "done") true p) else true))))

abbrev pub undriven : List (List ℕ) → List ℕ → Bool
undriven drivers name = not (has_name drivers name)

abbrev pub port_faults : Bool → List (List ℕ) → List (List ℕ) → ℕ → PlainPort → Faults
port_faults is_main drivers earlier index p = record {
  name = has_name earlier p.name || wrong_port is_main index p || (p.output && undriven drivers p.name);
  width = bad_width p.width || ((is_main || nat_lt index 2) && not (p.width == 1));
  limit = false;
}

abbrev pub ports_faults : Bool → List (List ℕ) → List (List ℕ) → ℕ → List PlainPort → List Faults
ports_faults is_main drivers earlier index [] = []
ports_faults is_main drivers earlier index (p ∷ ps) =
    port_faults is_main drivers earlier index p ∷ ports_faults is_main drivers (earlier ++ p.name ∷ []) (index + 1) ps

-- Declarations.
abbrev pub decl_faults : List (List ℕ) → List (List ℕ) → PlainDecl → Faults
decl_faults drivers earlier (WireOf n w) =
    record { name = has_name earlier n || undriven drivers n; width = bad_width w; limit = false }
decl_faults drivers earlier (RegisterOf n w) = record { name = has_name earlier n; width = bad_width w; limit = false }
decl_faults drivers earlier (ArrayOf n w k) =
    record { name = has_name earlier n; width = bad_width w; limit = nat_le (2 ^ 64) k }

abbrev pub decls_faults : List (List ℕ) → List (List ℕ) → List PlainDecl → List Faults
decls_faults drivers earlier [] = []
decls_faults drivers earlier (d ∷ ds) =
    decl_faults drivers earlier d ∷ decls_faults drivers (earlier ++ decl_name d ∷ []) ds

-- Assigns: each drives a wire or an output that nothing drives before.
abbrev pub assign_faults : Scope → List (List ℕ) → PlainAssign → Faults
assign_faults scope earlier a = record {
  name = not (is_driven (scope a.name)) || has_name earlier a.name || misnames scope a.value;
  width = not (has_width scope a.value (width_of (scope a.name)));
  limit = too_deep a.value;
}

abbrev pub assigns_faults : Scope → List (List ℕ) → List PlainAssign → List Faults
assigns_faults scope earlier [] = []
assigns_faults scope earlier (a ∷ rest) =
    assign_faults scope earlier a ∷ assigns_faults scope (earlier ++ a.name ∷ []) rest

-- Instances: all ports in their order; an input to an input, a wire or a register, `clk` to `clk` and `reset` to `reset`;
-- an output to a wire that nothing drives before.
abbrev pub miswired : Scope → PlainPort → PlainConn → Bool
miswired scope p c =
    not (same_name p.name c.port)
    || (if p.output then not (is_wire (scope c.net)) else not (is_source (scope c.net)))
    || ((same_name p.name (codes "clk") || same_name p.name (codes "reset")) && not (same_name p.name c.net))

abbrev pub misconnects : Scope → List PlainPort → List PlainConn → Bool
misconnects scope [] cs = not (length cs == 0)
misconnects scope (p ∷ ps) [] = true
misconnects scope (p ∷ ps) (c ∷ cs) = miswired scope p c || misconnects scope ps cs

abbrev pub misfits : Scope → List PlainPort → List PlainConn → Bool
misfits scope [] cs = false
misfits scope (p ∷ ps) [] = false
misfits scope (p ∷ ps) (c ∷ cs) = not (p.width == width_of (scope c.net)) || misfits scope ps cs

-- one of the nets is driven before it
abbrev pub doubles : List (List ℕ) → List (List ℕ) → Bool
doubles driven [] = false
doubles driven (n ∷ ns) = has_name driven n || doubles (driven ++ n ∷ []) ns

abbrev pub instance_faults : List PlainModule → Scope → List (List ℕ) → List (List ℕ) → PlainInstance → Faults
instance_faults before scope earlier driven i = record {
  name =
      has_name earlier i.name || is_none (module_named before i.kind)
      || misconnects scope (ports_of before i.kind) i.conns
      || doubles driven (driven_by (ports_of before i.kind) i.conns);
  width = misfits scope (ports_of before i.kind) i.conns;
  limit = false;
}

abbrev pub instances_faults : List PlainModule → Scope → List (List ℕ) → List (List ℕ)
    → List PlainInstance → List Faults
instances_faults before scope earlier driven [] = []
instances_faults before scope earlier driven (i ∷ rest) =
    instance_faults before scope earlier driven i
    ∷ instances_faults before scope (earlier ++ i.name ∷ []) (driven ++ driven_by (ports_of before i.kind) i.conns) rest

-- Edges: a register once in each branch, an array once.
abbrev pub set_faults : Scope → List (List ℕ) → PlainAssign → Faults
set_faults scope earlier a = record {
  name = not (is_register (scope a.name)) || has_name earlier a.name || misnames scope a.value;
  width = not (has_width scope a.value (width_of (scope a.name)));
  limit = too_deep a.value;
}

abbrev pub sets_faults : Scope → List (List ℕ) → List PlainAssign → List Faults
sets_faults scope earlier [] = []
sets_faults scope earlier (a ∷ rest) = set_faults scope earlier a ∷ sets_faults scope (earlier ++ a.name ∷ []) rest

abbrev pub store_faults : Scope → List (List ℕ) → PlainStore → Faults
store_faults scope earlier s = record {
  name =
      not (is_array (scope s.array)) || has_name earlier s.array || misnames scope s.guard
      || misnames scope s.index || misnames scope s.value;
  width =
      not (has_width scope s.guard 1) || is_none (fitting_width scope s.index)
      || not (has_width scope s.value (width_of (scope s.array)));
  limit = too_deep s.guard || too_deep s.index || too_deep s.value;
}

abbrev pub item_faults : Scope → List (List ℕ) → PlainItem → Faults
item_faults scope earlier (SetTo a) = set_faults scope earlier a
item_faults scope earlier (StoreTo s) = store_faults scope earlier s

abbrev pub item_name : PlainItem → List ℕ
item_name (SetTo a) = a.name
item_name (StoreTo s) = s.array

-- a register and an array never have one name, so one list has what was set and stored before
abbrev pub items_faults : Scope → List (List ℕ) → List PlainItem → List Faults
items_faults scope earlier [] = []
items_faults scope earlier (i ∷ rest) =
    item_faults scope earlier i ∷ items_faults scope (earlier ++ item_name i ∷ []) rest

-- as in the text: the lines that open and close the branches break nothing
abbrev pub edge_faults : Scope → Option PlainEdge → List Faults
edge_faults scope None = []
edge_faults scope (Some e) =
    no_faults ∷ no_faults ∷ sets_faults scope [] e.reset ++ no_faults ∷ items_faults scope [] e.step
    ++ no_faults ∷ no_faults ∷ []

-- Counts over the tree of a module's instances, itself with them. They stop at 2^64 - 1, far over the limits.
pub record Counts : Type 0 where
  pub nets : ℕ
  pub instances : ℕ
  pub words : ℕ

abbrev pub sum_counts : Counts → Counts → Counts
sum_counts a b = record {
  nets = min (a.nets + b.nets) (2 ^ 64 - 1);
  instances = min (a.instances + b.instances) (2 ^ 64 - 1);
  words = min (a.words + b.words) (2 ^ 64 - 1);
}

abbrev pub no_counts : Counts
no_counts = record { nets = 0; instances = 0; words = 0 }

abbrev pub decl_counts : PlainDecl → Counts
decl_counts (WireOf n w) = record { nets = 1; instances = 0; words = 0 }
decl_counts (RegisterOf n w) = record { nets = 1; instances = 0; words = 0 }
decl_counts (ArrayOf n w k) = record { nets = 0; instances = 0; words = k }

abbrev pub decls_counts : Counts → List PlainDecl → Counts
decls_counts sum [] = sum
decls_counts sum (d ∷ ds) = decls_counts (sum_counts sum (decl_counts d)) ds

-- the counts of the module of a name, where `counts` has those of the modules before, in their order
abbrev pub counts_named : List PlainModule → List Counts → List ℕ → Counts
counts_named [] counts name = no_counts
counts_named (m ∷ ms) [] name = no_counts
counts_named (m ∷ ms) (c ∷ cs) name = if same_name m.name name then c else counts_named ms cs name

abbrev pub instances_counts : List PlainModule → List Counts → Counts → List PlainInstance → Counts
instances_counts before counts sum [] = sum
instances_counts before counts sum (i ∷ rest) =
    instances_counts before counts (sum_counts sum (counts_named before counts i.kind)) rest

-- a module with its instances, and these with theirs
abbrev pub module_counts : List PlainModule → List Counts → PlainModule → Counts
module_counts before counts m =
    instances_counts before counts
    (decls_counts (record { nets = length m.ports; instances = 1; words = 0 }) m.decls) m.instances

-- nets, instances and words of arrays over the tree
abbrev pub too_large : Counts → Bool
too_large c = nat_lt 4194304 c.nets || nat_lt 131072 c.instances || nat_lt 4194304 c.words

-- Modules. `before` has those that ended before, and `counts` their counts.
abbrev pub module_faults : Bool → List PlainModule → Counts → PlainModule → Faults
module_faults is_main before own m = record {
  name = has_name (map (λ m. m.name) before) m.name || nat_lt (length m.ports) (if is_main then 4 else 2)
      || (is_main && not (same_name m.name (codes "main")));
  width = false;
  limit = is_main && too_large own;
}

-- as in the text: the line of the module, its ports, the line that ends them, its other parts, and its last line
abbrev pub lines_faults : Bool → List PlainModule → Counts → PlainModule → List Faults
lines_faults is_main before own m =
    let scope : Scope = meant_in m.ports m.decls in
    let drivers : List (List ℕ) = drivers_in before m in
    let port_names : List (List ℕ) = map (λ p. p.name) m.ports in
    module_faults is_main before own m ∷ ports_faults is_main drivers [] 0 m.ports
    ++ no_faults ∷ decls_faults drivers port_names m.decls
    ++ assigns_faults scope [] m.assigns
    ++ instances_faults before scope (port_names ++ map decl_name m.decls) (map (λ a. a.name) m.assigns) m.instances
    ++ edge_faults scope m.edge
    ++ no_faults ∷ []

-- the last module has to be `main`
abbrev pub modules_faults : List PlainModule → List Counts → List PlainModule → List Faults
modules_faults before counts [] = []
modules_faults before counts (m ∷ ms) =
    let own : Counts = module_counts before counts m in
    lines_faults (length ms == 0) before own m ++ modules_faults (before ++ m ∷ []) (counts ++ own ∷ []) ms

-- External lines speak of the last module named `main`.
abbrev pub last_named : List PlainModule → List ℕ → Option PlainModule
last_named [] name = None
last_named (m ∷ ms) name = option_map_or Some (last_named ms name) (if same_name m.name name then Some m else None)

abbrev pub instance_kind : List PlainInstance → List ℕ → Option (List ℕ)
instance_kind [] name = None
instance_kind (i ∷ rest) name = if same_name i.name name then Some i.kind else instance_kind rest name

-- the module of an external memory's instance
abbrev pub memory_module : List PlainModule → PlainExternal → Option PlainModule
memory_module modules e =
    option_and_then (λ m. option_and_then (module_named modules) (instance_kind m.instances e.instance))
    (last_named modules (codes "main"))

-- the widths and lengths of a module's arrays
abbrev pub arrays_in : List PlainDecl → List (ℕ × ℕ)
arrays_in [] = []
arrays_in (ArrayOf n w k ∷ ds) = (w, k) ∷ arrays_in ds
arrays_in (WireOf n w ∷ ds) = arrays_in ds
arrays_in (RegisterOf n w ∷ ds) = arrays_in ds

-- not one array of as many words as the sizes say
abbrev pub not_this_memory : List (ℕ × ℕ) → PlainExternal → Bool
not_this_memory [] e = true
not_this_memory (a ∷ []) e = not (a.1 == word_count e.sizes)
not_this_memory (a ∷ b ∷ rest) e = true

abbrev pub not_this_width : List (ℕ × ℕ) → PlainExternal → Bool
not_this_width [] e = false
not_this_width (a ∷ []) e = not (a.0 == e.width)
not_this_width (a ∷ b ∷ rest) e = false

abbrev pub memory_arrays : List PlainModule → PlainExternal → List (ℕ × ℕ)
memory_arrays modules e = option_map_or (λ m. arrays_in m.decls) (memory_module modules e) []

abbrev pub external_faults : List PlainModule → List (List ℕ) → List (List ℕ) → PlainExternal → Faults
external_faults modules names instances e = record {
  name = has_name names e.name || has_name instances e.instance || not_this_memory (memory_arrays modules e) e;
  width = nat_lt 64 e.width || not_this_width (memory_arrays modules e) e;
  limit = false;
}

abbrev pub externals_faults : List PlainModule → List (List ℕ) → List (List ℕ) → List PlainExternal → List Faults
externals_faults modules names instances [] = []
externals_faults modules names instances (e ∷ rest) =
    external_faults modules names instances e
    ∷ externals_faults modules (names ++ e.name ∷ []) (instances ++ e.instance ∷ []) rest

-- for each line of the text of a source, in their order, which kinds of rules it breaks
abbrev pub faults_of : PlainSource → List Faults
faults_of s = externals_faults s.modules [] [] s.externals ++ modules_faults [] [] s.modules

-- The first line that breaks a rule, and the kind: at one line a name comes before a width, and that before a limit.
pub data Break : Type 0 where
  NameAt : (line : ℕ) → Break
  WidthAt : (line : ℕ) → Break
  LimitAt : (line : ℕ) → Break

abbrev pub break_at : ℕ → Faults → Option Break → Option Break
break_at line f later =
    if f.name then Some (NameAt line)
    else (if f.width then Some (WidthAt line) else (if f.limit then Some (LimitAt line) else later))

-- of the lines from number `line` on
abbrev pub first_break : ℕ → List Faults → Option Break
first_break line [] = None
first_break line (f ∷ fs) = break_at line f (first_break (line + 1) fs)

abbrev pub break_of : PlainSource → Option Break
break_of s = first_break 1 (faults_of s)

-- some text spells the source, and no line of it breaks a rule
abbrev pub is_sound : PlainSource → Bool
is_sound s = is_laid_out s && is_none (break_of s)
