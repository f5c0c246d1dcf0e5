-- What the checks speak of, for the Rust types.
use Rattle.std.specs.Prelude.{ℕ, nat_lt, List, [], ◌∷◌, ◌++◌, Bool, false, ◌||◌, is_none, map, if◌then◌else◌}
use Rattle.cx_vtree.specs.Plain.{PlainExternal, PlainInstance, PlainModule, PlainPort}
use Rattle.cx_vtree.specs.Sound.{Scope, meant_in, Counts, Faults, no_faults, has_name, module_named, misconnects, misfits, ports_of, drivers_in, decl_name, module_faults, ports_faults, decls_faults, assigns_faults, instances_faults, edge_faults}
use Rattle.cx_vsound.specs.declared.counts.Sums.{Sums}

abbrev pub counts_in : Sums → Counts
counts_in c = record { nets = c.nets; instances = c.instances; words = c.words }

-- the names of the outputs among ports
abbrev pub output_names : List PlainPort → List (List ℕ)
output_names [] = []
output_names (p ∷ ps) = if p.output then p.name ∷ output_names ps else output_names ps

-- the faults of an instance, where it is known whether a net of it is driven twice
abbrev pub instance_faults_by : Bool → List PlainModule → Scope → List (List ℕ) → PlainInstance → Faults
instance_faults_by doubled before scope earlier i = record {
  name =
      has_name earlier i.name || is_none (module_named before i.kind)
      || misconnects scope (ports_of before i.kind) i.conns || doubled;
  width = misfits scope (ports_of before i.kind) i.conns;
  limit = false;
}

-- the faults of an external memory, where it is known whether its length or its width is another's
abbrev pub external_faults_by : Bool → Bool → List (List ℕ) → List (List ℕ) → PlainExternal → Faults
external_faults_by other_length other_width names instances e = record {
  name = has_name names e.name || has_name instances e.instance || other_length;
  width = nat_lt 64 e.width || other_width;
  limit = false;
}

-- the faults of the lines of a module to its last declaration
abbrev pub signature_faults : Bool → List PlainModule → Counts → PlainModule → List Faults
signature_faults is_main before own m =
    module_faults is_main before own m ∷ ports_faults is_main (drivers_in before m) [] 0 m.ports
    ++ no_faults ∷ decls_faults (drivers_in before m) (map (λ p. p.name) m.ports) m.decls

-- the faults of its other lines
abbrev pub body_faults : List PlainModule → PlainModule → List Faults
body_faults before m =
    let scope : Scope = meant_in m.ports m.decls in
    assigns_faults scope [] m.assigns
    ++ instances_faults before scope (map (λ p. p.name) m.ports ++ map decl_name m.decls)
    (map (λ a. a.name) m.assigns) m.instances
    ++ edge_faults scope m.edge
    ++ no_faults ∷ []
