-- How long the text of a module and of a source is at most: the sum over its lines.
use Rattle.std.proofs.Common.{◌≡◌, ℕ, ◌+◌, ◌≤◌, List, [], ◌∷◌, ◌++◌, map, length, Option, Some, None, refl, arith}
use Rattle.cx_text.specs.Members.{Each}
use Rattle.cx_text.proofs.MemberLaws.{each_append}
use Rattle.cx_vtree.specs.Plain.{PlainPort, PlainDecl, PlainAssign, PlainInstance, PlainItem, SetTo, StoreTo, PlainEdge, PlainModule, PlainExternal, PlainSource}
use Rattle.cx_vtree.specs.Lines.{Line, ExternalLine, ModuleLine, PortsEnd, DeclLine, AssignLine, InstanceLine, AlwaysLine, ResetLine, SetLine, ElseLine, BranchesEnd, AlwaysEnd, ModuleEnd, lines_text}
use Rattle.cx_vtree.specs.Spelling.{port_lines, item_line, edge_lines, module_lines, modules_lines, source_lines, text_of}
use Rattle.cx_emitted.proofs.TextBytes.{AreNarrow, DeclNarrow, ItemNarrow, LineNarrow, AreShort, conns_bytes, sizes_bytes, decl_bytes, assign_bytes, item_bytes, line_bytes, sum_over, lines_fit}

-- SUMS over lists that are put together
pub sum_over-append : {A : Type 0} (f : A → ℕ) (xs ys : List A) → sum_over f (xs ++ ys) ≡ sum_over f xs + sum_over f ys
sum_over-append f [] ys = omega arith
sum_over-append f (x ∷ xs) ys = let h : sum_over f (xs ++ ys) ≡ sum_over f xs + sum_over f ys = sum_over-append f xs ys in omega arith

pub sum_over-map : {A B : Type 0} (f : B → ℕ) (g : A → B) (xs : List A) → sum_over f (map g xs) ≡ sum_over (λ x. f (g x)) xs
sum_over-map f g [] = refl
sum_over-map f g (x ∷ xs) = let h : sum_over f (map g xs) ≡ sum_over (λ y. f (g y)) xs = sum_over-map f g xs in omega arith

pub each-map : {A B : Type 0} (P : B → Type 0) (g : A → B) (xs : List A) → Each (λ x. P (g x)) xs → Each P (map g xs)
each-map P g [] each = tt
each-map P g (x ∷ xs) each = (each.0, each-map P g xs each.1)

-- PARTS of a module, each with its line feed
abbrev pub port_bytes : PlainPort → ℕ
port_bytes p = length p.name + 24

abbrev pub declared_bytes : PlainDecl → ℕ
declared_bytes d = decl_bytes d + 1

abbrev pub assigned_bytes : PlainAssign → ℕ
assigned_bytes a = assign_bytes a + 1

abbrev pub instance_bytes : PlainInstance → ℕ
instance_bytes i = length i.kind + (length i.name + (conns_bytes i.conns + 7))

abbrev pub reset_bytes : PlainAssign → ℕ
reset_bytes a = item_bytes (SetTo a) + 1

abbrev pub step_bytes : PlainItem → ℕ
step_bytes i = item_bytes i + 1

abbrev pub edge_bytes : Option PlainEdge → ℕ
edge_bytes None = 0
edge_bytes (Some e) = 85 + (sum_over reset_bytes e.reset + sum_over step_bytes e.step)

abbrev pub module_bytes : PlainModule → ℕ
module_bytes m =
    length m.name + (sum_over port_bytes m.ports + (sum_over declared_bytes m.decls + (sum_over assigned_bytes m.assigns + (sum_over instance_bytes m.instances + (edge_bytes m.edge + 22)))))

abbrev pub external_bytes : PlainExternal → ℕ
external_bytes e = length e.name + (length e.instance + (sizes_bytes e.sizes + 18))

-- all widths and numbers are of 128 bits at most
abbrev pub EdgeNarrow : Option PlainEdge → Type 0
EdgeNarrow None = Unit {0}
EdgeNarrow (Some e) = Each (λ (a : PlainAssign). AreNarrow a.value) e.reset × Each ItemNarrow e.step

pub record IsNarrow (m : PlainModule) : Type 0 where
  pub ports : Each (λ (p : PlainPort). p.width ≤ 128) m.ports
  pub decls : Each DeclNarrow m.decls
  pub assigns : Each (λ (a : PlainAssign). AreNarrow a.value) m.assigns
  pub edge : EdgeNarrow m.edge

abbrev pub ExternalNarrow : PlainExternal → Type 0
ExternalNarrow e = (e.width ≤ 128) × AreShort e.sizes

ports_sum : (ps : List PlainPort) → sum_over line_bytes (port_lines ps) ≡ sum_over port_bytes ps
ports_sum [] = refl
ports_sum (p ∷ ps) = let h : sum_over line_bytes (port_lines ps) ≡ sum_over port_bytes ps = ports_sum ps in omega arith

ports_narrow : (ps : List PlainPort) → Each (λ (p : PlainPort). p.width ≤ 128) ps → Each LineNarrow (port_lines ps)
ports_narrow [] each = tt
ports_narrow (p ∷ ps) each = (each.0, ports_narrow ps each.1)

item_sum : (i : PlainItem) → line_bytes (item_line i) ≡ step_bytes i
item_sum (SetTo a) = refl
item_sum (StoreTo s) = refl

items_sum : (is : List PlainItem) → sum_over line_bytes (map item_line is) ≡ sum_over step_bytes is
items_sum [] = refl
items_sum (i ∷ is) =
    let own : line_bytes (item_line i) ≡ step_bytes i = item_sum i in
    let h : sum_over line_bytes (map item_line is) ≡ sum_over step_bytes is = items_sum is in
    omega arith

item_narrow : (i : PlainItem) → ItemNarrow i → LineNarrow (item_line i)
item_narrow (SetTo a) h = h
item_narrow (StoreTo s) h = h

items_narrow : (is : List PlainItem) → Each ItemNarrow is → Each LineNarrow (map item_line is)
items_narrow [] each = tt
items_narrow (i ∷ is) each = (item_narrow i each.0, items_narrow is each.1)

edge_sum : (e : Option PlainEdge) → sum_over line_bytes (edge_lines e) ≡ edge_bytes e
edge_sum None = refl
edge_sum (Some e) =
    let resets : List Line = AlwaysLine ∷ ResetLine ∷ map SetLine e.reset in
    let steps : List Line = ElseLine ∷ map item_line e.step in
    let ends : List Line = BranchesEnd ∷ AlwaysEnd ∷ [] in
    let first : sum_over line_bytes ((resets ++ steps) ++ ends) ≡ sum_over line_bytes (resets ++ steps) + sum_over line_bytes ends = sum_over-append line_bytes (resets ++ steps) ends in
    let second : sum_over line_bytes (resets ++ steps) ≡ sum_over line_bytes resets + sum_over line_bytes steps = sum_over-append line_bytes resets steps in
    let third : sum_over line_bytes (map SetLine e.reset) ≡ sum_over reset_bytes e.reset = sum_over-map line_bytes SetLine e.reset in
    let fourth : sum_over line_bytes (map item_line e.step) ≡ sum_over step_bytes e.step = items_sum e.step in
    let bare : sum_over line_bytes ends ≡ 14 = refl in
    let one : sum_over line_bytes resets ≡ 31 + (21 + sum_over line_bytes (map SetLine e.reset)) = refl in
    let two : sum_over line_bytes steps ≡ 19 + sum_over line_bytes (map item_line e.step) = refl in
    omega arith

edge_narrow : (e : Option PlainEdge) → EdgeNarrow e → Each LineNarrow (edge_lines e)
edge_narrow None h = tt
edge_narrow (Some e) h =
    each_append LineNarrow ((AlwaysLine ∷ ResetLine ∷ map SetLine e.reset) ++ (ElseLine ∷ map item_line e.step)) (BranchesEnd ∷ AlwaysEnd ∷ [])
    (each_append LineNarrow (AlwaysLine ∷ ResetLine ∷ map SetLine e.reset) (ElseLine ∷ map item_line e.step) (tt, (tt, each-map LineNarrow SetLine e.reset h.0)) (tt, items_narrow e.step h.1)) (tt, (tt, tt))

module_sum : (m : PlainModule) → sum_over line_bytes (module_lines m) ≡ module_bytes m
module_sum m =
    let a : List Line = ModuleLine m.name ∷ port_lines m.ports in
    let b : List Line = PortsEnd ∷ map DeclLine m.decls in
    let c : List Line = map AssignLine m.assigns in
    let d : List Line = map InstanceLine m.instances in
    let e : List Line = edge_lines m.edge in
    let f : List Line = ModuleEnd ∷ [] in
    let first : sum_over line_bytes (((((a ++ b) ++ c) ++ d) ++ e) ++ f) ≡ sum_over line_bytes ((((a ++ b) ++ c) ++ d) ++ e) + sum_over line_bytes f = sum_over-append line_bytes ((((a ++ b) ++ c) ++ d) ++ e) f in
    let second : sum_over line_bytes ((((a ++ b) ++ c) ++ d) ++ e) ≡ sum_over line_bytes (((a ++ b) ++ c) ++ d) + sum_over line_bytes e = sum_over-append line_bytes (((a ++ b) ++ c) ++ d) e in
    let third : sum_over line_bytes (((a ++ b) ++ c) ++ d) ≡ sum_over line_bytes ((a ++ b) ++ c) + sum_over line_bytes d = sum_over-append line_bytes ((a ++ b) ++ c) d in
    let fourth : sum_over line_bytes ((a ++ b) ++ c) ≡ sum_over line_bytes (a ++ b) + sum_over line_bytes c = sum_over-append line_bytes (a ++ b) c in
    let fifth : sum_over line_bytes (a ++ b) ≡ sum_over line_bytes a + sum_over line_bytes b = sum_over-append line_bytes a b in
    let named : sum_over line_bytes a ≡ (length m.name + 9) + sum_over line_bytes (port_lines m.ports) = refl in
    let declared : sum_over line_bytes b ≡ 3 + sum_over line_bytes (map DeclLine m.decls) = refl in
    let closed : sum_over line_bytes f ≡ 10 = refl in
    let ports : sum_over line_bytes (port_lines m.ports) ≡ sum_over port_bytes m.ports = ports_sum m.ports in
    let decls : sum_over line_bytes (map DeclLine m.decls) ≡ sum_over declared_bytes m.decls = sum_over-map line_bytes DeclLine m.decls in
    let assigns : sum_over line_bytes c ≡ sum_over assigned_bytes m.assigns = sum_over-map line_bytes AssignLine m.assigns in
    let instances : sum_over line_bytes d ≡ sum_over instance_bytes m.instances = sum_over-map line_bytes InstanceLine m.instances in
    let edge : sum_over line_bytes e ≡ edge_bytes m.edge = edge_sum m.edge in
    omega arith

instances_narrow : (is : List PlainInstance) → Each LineNarrow (map InstanceLine is)
instances_narrow [] = tt
instances_narrow (i ∷ is) = (tt, instances_narrow is)

module_narrow : (m : PlainModule) → IsNarrow m → Each LineNarrow (module_lines m)
module_narrow m narrow =
    let a : List Line = ModuleLine m.name ∷ port_lines m.ports in
    let b : List Line = PortsEnd ∷ map DeclLine m.decls in
    let c : List Line = map AssignLine m.assigns in
    let d : List Line = map InstanceLine m.instances in
    let e : List Line = edge_lines m.edge in
    each_append LineNarrow ((((a ++ b) ++ c) ++ d) ++ e) (ModuleEnd ∷ [])
    (each_append LineNarrow (((a ++ b) ++ c) ++ d) e
    (each_append LineNarrow ((a ++ b) ++ c) d
    (each_append LineNarrow (a ++ b) c
    (each_append LineNarrow a b (tt, ports_narrow m.ports narrow.ports) (tt, each-map LineNarrow DeclLine m.decls narrow.decls))
    (each-map LineNarrow AssignLine m.assigns narrow.assigns))
    (instances_narrow m.instances))
    (edge_narrow m.edge narrow.edge))
    (tt, tt)

-- THE TEXT of a module
pub module_fits : (m : PlainModule) → IsNarrow m → length (lines_text (module_lines m)) ≤ module_bytes m
module_fits m narrow =
    let text = lines_fit (module_lines m) (module_narrow m narrow) in
    let few : length (lines_text (module_lines m)) ≤ sum_over line_bytes (module_lines m) = text.few in
    let all : sum_over line_bytes (module_lines m) ≡ module_bytes m = module_sum m in
    omega (arith, few, all)

modules_sum : (ms : List PlainModule) → sum_over line_bytes (modules_lines ms) ≡ sum_over module_bytes ms
modules_sum [] = refl
modules_sum (m ∷ ms) =
    let own : sum_over line_bytes (module_lines m) ≡ module_bytes m = module_sum m in
    let rest : sum_over line_bytes (modules_lines ms) ≡ sum_over module_bytes ms = modules_sum ms in
    let all : sum_over line_bytes (module_lines m ++ modules_lines ms) ≡ sum_over line_bytes (module_lines m) + sum_over line_bytes (modules_lines ms) = sum_over-append line_bytes (module_lines m) (modules_lines ms) in
    omega arith

modules_narrow : (ms : List PlainModule) → Each IsNarrow ms → Each LineNarrow (modules_lines ms)
modules_narrow [] each = tt
modules_narrow (m ∷ ms) each = each_append LineNarrow (module_lines m) (modules_lines ms) (module_narrow m each.0) (modules_narrow ms each.1)

-- THE TEXT of a source
pub text_fits : (s : PlainSource) → Each ExternalNarrow s.externals → Each IsNarrow s.modules → length (text_of s) ≤ sum_over external_bytes s.externals + sum_over module_bytes s.modules
text_fits s externals modules =
    let text = lines_fit (source_lines s) (each_append LineNarrow (map ExternalLine s.externals) (modules_lines s.modules) (each-map LineNarrow ExternalLine s.externals externals) (modules_narrow s.modules modules)) in
    let few : length (text_of s) ≤ sum_over line_bytes (map ExternalLine s.externals ++ modules_lines s.modules) = text.few in
    let all : sum_over line_bytes (map ExternalLine s.externals ++ modules_lines s.modules) ≡ sum_over line_bytes (map ExternalLine s.externals) + sum_over line_bytes (modules_lines s.modules) =
    sum_over-append line_bytes (map ExternalLine s.externals) (modules_lines s.modules) in
    let first : sum_over line_bytes (map ExternalLine s.externals) ≡ sum_over external_bytes s.externals = sum_over-map line_bytes ExternalLine s.externals in
    let second : sum_over line_bytes (modules_lines s.modules) ≡ sum_over module_bytes s.modules = modules_sum s.modules in
    omega arith
