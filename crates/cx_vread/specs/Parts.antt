-- Reading the lines of a text.
use Rattle.std.specs.Prelude.{ℕ, suc, ◌==◌, ◌&&◌, ◌||◌, not, Bool, true, false, List, ◌∷◌, length, Option, Some, None, codes, if◌then◌else◌}
use Rattle.cx_vtree.specs.Sound.{Scope, meant_in}
use Rattle.cx_vtree.specs.Plain.{PlainExpr, PlainPort, PlainDecl, WireOf, RegisterOf, ArrayOf, PlainAssign, PlainConn, PlainInstance, PlainStore, PlainItem, SetTo, StoreTo, PlainEdge, PlainModule, PlainExternal, PlainSource}
use Rattle.cx_vread_exprs.specs.Places.{Place, Reads, then_reads, then_at, after, begins, many}
use Rattle.cx_vread_exprs.specs.Tokens.{word_at, name_at, small_at, any_number_at, bounds_at}
use Rattle.cx_vread_exprs.specs.Deep.{whole_expr_at}

-- External memories.
abbrev pub more_size_at : Place → Reads ℕ
more_size_at p = then_at (after (codes " ") p) any_number_at

abbrev pub sizes_at : Place → Reads (List ℕ)
sizes_at p =
    then_reads (any_number_at p)
    (λ k q. then_reads (many (begins (codes " ")) more_size_at 3 q) (λ ks r. Some (k ∷ ks, r)))

abbrev pub external_by : List ℕ → List ℕ → Place → Reads PlainExternal
external_by n i p =
    then_reads (small_at p) (λ w q. then_at (after (codes " ") q)
    (λ r. then_reads (sizes_at r) (λ ks s. then_at (after (codes "\n") s) (λ t.
    Some (record { name = n; instance = i; width = w; sizes = ks }, t)))))

abbrev pub external_at : Place → Reads PlainExternal
external_at p =
    then_at (after (codes "// external ") p)
    (λ q.
    then_reads (word_at q) (λ n r. then_at (after (codes " ") r) (λ s. then_reads (name_at s) (λ i t.
    then_at (after (codes " ") t) (external_by n i)))))

abbrev pub externals_at : Place → Reads (List PlainExternal)
externals_at p = many (begins (codes "/")) external_at (length p.rest) p

-- Ports.
abbrev pub port_by : Bool → Place → Reads PlainPort
port_by output p =
    then_reads (bounds_at p)
    (λ w q. then_reads (name_at q) (λ n r. Some (record { output = output; name = n; width = w }, r)))

abbrev pub port_at : Place → Reads PlainPort
port_at p =
    if begins (codes "  output wire ") p then then_at (after (codes "  output wire ") p) (port_by true)
    else then_at (after (codes "  input wire ") p) (port_by false)

abbrev pub next_port_at : Place → Reads PlainPort
next_port_at p = then_at (after (codes ",\n") p) port_at

abbrev pub more_ports_at : Place → Reads (List PlainPort)
more_ports_at p = many (begins (codes ",")) next_port_at (length p.rest) p

abbrev pub ports_at : Place → Reads (List PlainPort)
ports_at p =
    then_reads (port_at p) (λ x q.
    then_reads (more_ports_at q) (λ xs r. then_at (after (codes "\n);\n") r) (λ s. Some (x ∷ xs, s))))

-- Declarations. The length of an array is told by its last index.
abbrev pub array_by : List ℕ → ℕ → Place → Reads PlainDecl
array_by n w p =
    then_at (after (codes " [0:") p) (λ q. then_reads (any_number_at q)
    (λ k r. then_at (after (codes "];\n") r) (λ s. Some (ArrayOf n w (suc k), s))))

abbrev pub register_by : List ℕ → ℕ → Place → Reads PlainDecl
register_by n w p =
    if begins (codes ";") p then then_at (after (codes ";\n") p) (λ q. Some (RegisterOf n w, q))
    else array_by n w p

abbrev pub register_at : Place → Reads PlainDecl
register_at p = then_reads (bounds_at p) (λ w q. then_reads (name_at q) (λ n r. register_by n w r))

abbrev pub wire_at : Place → Reads PlainDecl
wire_at p =
    then_reads (bounds_at p)
    (λ w q. then_reads (name_at q) (λ n r. then_at (after (codes ";\n") r) (λ s. Some (WireOf n w, s))))

abbrev pub decl_at : Place → Reads PlainDecl
decl_at p =
    if begins (codes "  reg ") p then then_at (after (codes "  reg ") p) register_at
    else then_at (after (codes "  wire ") p) wire_at

abbrev pub is_decl : Place → Bool
is_decl p = begins (codes "  wire ") p || begins (codes "  reg ") p

abbrev pub decls_at : Place → Reads (List PlainDecl)
decls_at p = many is_decl decl_at (length p.rest) p

-- Assigns.
abbrev pub assigned_by : Scope → List ℕ → Place → Reads PlainAssign
assigned_by scope n p =
    then_reads (whole_expr_at scope p)
    (λ e q. then_at (after (codes ";\n") q) (λ r. Some (record { name = n; value = e }, r)))

abbrev pub assign_at : Scope → Place → Reads PlainAssign
assign_at scope p =
    then_at (after (codes "  assign ") p)
    (λ q. then_reads (name_at q) (λ n r. then_at (after (codes " = ") r) (assigned_by scope n)))

abbrev pub assigns_at : Scope → Place → Reads (List PlainAssign)
assigns_at scope p = many (begins (codes "  assign ")) (assign_at scope) (length p.rest) p

-- Instances.
abbrev pub conn_at : Place → Reads PlainConn
conn_at p =
    then_at (after (codes ".") p) (λ q.
    then_reads (name_at q) (λ n r. then_at (after (codes "(") r) (λ s. then_reads (name_at s) (λ m t.
    then_at (after (codes ")") t) (λ u. Some (record { port = n; net = m }, u))))))

abbrev pub next_conn_at : Place → Reads PlainConn
next_conn_at p = then_at (after (codes ", ") p) conn_at

abbrev pub more_conns_at : Place → Reads (List PlainConn)
more_conns_at p = many (begins (codes ",")) next_conn_at (length p.rest) p

abbrev pub conns_at : Place → Reads (List PlainConn)
conns_at p = then_reads (conn_at p) (λ x q. then_reads (more_conns_at q) (λ xs r. Some (x ∷ xs, r)))

abbrev pub instance_by : List ℕ → List ℕ → Place → Reads PlainInstance
instance_by k n p =
    then_at (after (codes "(") p) (λ q. then_reads (conns_at q)
    (λ cs r. then_at (after (codes ");\n") r) (λ s. Some (record { kind = k; name = n; conns = cs }, s))))

abbrev pub instance_at : Place → Reads PlainInstance
instance_at p =
    then_at (after (codes "  ") p) (λ q. then_reads (name_at q)
    (λ k r. then_at (after (codes " ") r) (λ s. then_reads (name_at s) (λ n t. instance_by k n t))))

abbrev pub is_instance : Place → Bool
is_instance p = begins (codes "  ") p && not (begins (codes "  always ") p)

abbrev pub instances_at : Place → Reads (List PlainInstance)
instances_at p = many is_instance instance_at (length p.rest) p

-- Edges.
abbrev pub set_at : Scope → Place → Reads PlainAssign
set_at scope p =
    then_at (after (codes "      ") p)
    (λ q. then_reads (name_at q) (λ n r. then_at (after (codes " <= ") r) (assigned_by scope n)))

-- a store, from its index on
abbrev pub store_by : Scope → (PlainExpr × List ℕ) → Place → Reads PlainStore
store_by scope h p =
    then_reads (whole_expr_at scope p)
    (λ i q. then_at (after (codes "] <= ") q) (λ r. then_reads (whole_expr_at scope r) (λ v s.
    then_at (after (codes ";\n") s) (λ t. Some (record { guard = h.0; array = h.1; index = i; value = v }, t)))))

abbrev pub store_head_at : Scope → Place → Reads (PlainExpr × List ℕ)
store_head_at scope p =
    then_at (after (codes "      if (") p) (λ q.
    then_reads (whole_expr_at scope q)
    (λ g r. then_at (after (codes ") ") r) (λ s. then_reads (name_at s) (λ n t.
    then_at (after (codes "[") t) (λ u. Some ((g, n), u))))))

abbrev pub store_at : Scope → Place → Reads PlainItem
store_at scope p =
    then_reads (store_head_at scope p) (λ h q. then_reads (store_by scope h q) (λ s r. Some (StoreTo s, r)))

abbrev pub item_at : Scope → Place → Reads PlainItem
item_at scope p =
    if begins (codes "      if (") p then store_at scope p
    else then_reads (set_at scope p) (λ a q. Some (SetTo a, q))

abbrev pub sets_at : Scope → Place → Reads (List PlainAssign)
sets_at scope p = many (begins (codes "     ")) (set_at scope) (length p.rest) p

abbrev pub items_at : Scope → Place → Reads (List PlainItem)
items_at scope p = many (begins (codes "     ")) (item_at scope) (length p.rest) p

abbrev pub edge_at : Scope → Place → Reads PlainEdge
edge_at scope p =
    then_at (after (codes "  always @(posedge clk) begin\n    if (reset) begin\n") p)
    (λ q. then_reads (sets_at scope q) (λ sets r.
    then_at (after (codes "    end else begin\n") r) (λ s. then_reads (items_at scope s) (λ items t.
    then_at (after (codes "    end\n  end\n") t) (λ u. Some (record { reset = sets; step = items }, u))))))

abbrev pub edge_or_none_at : Scope → Place → Reads (Option PlainEdge)
edge_or_none_at scope p =
    if begins (codes "  always ") p then then_reads (edge_at scope p) (λ e q. Some (Some e, q))
    else Some (None, p)

-- Modules.
abbrev pub head_at : Place → Reads (List ℕ × List PlainPort)
head_at p =
    then_at (after (codes "module ") p) (λ q. then_reads (name_at q) (λ n r. then_at (after (codes "(\n") r) (λ s.
    then_reads (ports_at s) (λ ps t. Some ((n, ps), t)))))

-- what stands in a module behind its declarations
pub record PlainBody : Type 0 where
  pub assigns : List PlainAssign
  pub instances : List PlainInstance
  pub edge : Option PlainEdge

-- names have these meanings
abbrev pub body_at : Scope → Place → Reads PlainBody
body_at scope p =
    then_reads (assigns_at scope p)
    (λ xs q. then_reads (instances_at q) (λ is r. then_reads (edge_or_none_at scope r) (λ e s.
    then_at (after (codes "endmodule\n") s) (λ t. Some (record { assigns = xs; instances = is; edge = e }, t)))))

abbrev pub with_body : (List ℕ × List PlainPort) → List PlainDecl → PlainBody → PlainModule
with_body h ds b =
    record {
      name = h.0;
      ports = h.1;
      decls = ds;
      assigns = b.assigns;
      instances = b.instances;
      edge = b.edge;
    }

abbrev pub module_by : (List ℕ × List PlainPort) → Place → Reads PlainModule
module_by h p =
    then_reads (decls_at p)
    (λ ds q. then_reads (body_at (meant_in h.1 ds) q) (λ b r. Some (with_body h ds b, r)))

abbrev pub module_at : Place → Reads PlainModule
module_at p = then_reads (head_at p) module_by

abbrev pub is_left : Place → Bool
is_left p = not (length p.rest == 0)

abbrev pub more_modules_at : Place → Reads (List PlainModule)
more_modules_at p = many is_left module_at (length p.rest) p

abbrev pub modules_at : Place → Reads (List PlainModule)
modules_at p = then_reads (module_at p) (λ m q. then_reads (more_modules_at q) (λ ms r. Some (m ∷ ms, r)))

abbrev pub source_at : Place → Reads PlainSource
source_at p =
    then_reads (externals_at p)
    (λ es q. then_reads (modules_at q) (λ ms r. Some (record { externals = es; modules = ms }, r)))
