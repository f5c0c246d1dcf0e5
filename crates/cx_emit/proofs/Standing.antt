-- Where the components and cells of a net stand among the instances of its source.
use Rattle.std.proofs.Common.{◌≡◌, ℕ, zero, suc, ◌+◌, ◌<◌, List, [], ◌∷◌, ◌++◌, Bool, true, false, map, length, reverse, Option, Some, slice_get, refl, ap, sym, ◌∙◌, subst, if◌then◌else◌, arith}
use Rattle.std.specs.Prelude.{codes}
use Rattle.std.specs.Option.{option_map_or}
use Rattle.std.proofs.lemmas.Bool.{both_ways, false_from_ne_true, eq-eqb, cond-true, cond-false}
use Rattle.std.proofs.lemmas.Option.{slice_get-get_or}
use Rattle.cx_prim.specs.Table.{PrimitiveRow, HasRow}
use Rattle.cx_meaning.specs.declared.kinds.PortDecl.{PortDecl}
use Rattle.cx_meaning.specs.Designs.{PlainKind, OfPrimitive, OfComponent, PlainCell}
use Rattle.cx_meaning.specs.Instances.{Path}
use Rattle.cx_vtree.specs.Plain.{PlainPort, PlainInstance, PlainModule, PlainSource}
use Rattle.cx_vtree.specs.InstanceTree.{same_name, Placed, tree_from, main_instance, instances_of}
use Rattle.cx_vtree.specs.Sound.{module_named, has_name, is_sound}
use Rattle.cx_vlaws.proofs.Fresh.{has_each}
use Rattle.cx_vlaws.proofs.Modules.{AllKeep, sound_keeps, new_name, reverse-cons}
use Rattle.cx_vlaws.proofs.Trees.{number_of, placed}
use Rattle.cx_vlaws.proofs.Forest.{part_at, main_named}
use Rattle.cx_vlaws.proofs.Mains.{main_at, main-ports}
use Rattle.cx_net.specs.Nets.{PlainNetComponent, PlainNet}
use Rattle.cx_net.specs.NetTree.{no_net_component, net_component_at}
use Rattle.cx_emit.specs.Fits.{IsFlat}
use Rattle.cx_emit.specs.Names.{numbered, instance_name, module_name, primitive_name}
use Rattle.cx_emit.specs.Numbered.{with_numbers}
use Rattle.cx_emit.specs.Signatures.{one_bit, input_port, output_port, signature_at, primitive_module, kind_ports, cell_ports}
use Rattle.cx_emit.specs.Sources.{conn, port_conn, cell_instance, component_module, primitive_modules, source_of}
use Rattle.cx_net.specs.NetPaths.{LeadsTo}
use Rattle.cx_emit.specs.Places.{part_number, cell_number, number_at}
use Rattle.cx_net.specs.NetFits.{IsFitKind}
use Rattle.cx_emit.proofs.NumberedLemmas.{In, in_left, in_right, in_numbered, in_mapped}
use Rattle.cx_emit.proofs.NetPrimitives.{its_primitives, its_primitive}
use Rattle.cx_vtree.proofs.InstanceTreeLemmas.{same_is, is_same}
use Rattle.cx_text.proofs.OptionLaws.{one_value}

in_reverse : {A : Type 0} (x : A) (xs : List A) → In x xs → In x (reverse xs)
in_reverse x [] h = absurd (let e = h.1 in cc)
in_reverse x (y ∷ ys) (zero, e) = subst (In x) (sym (reverse-cons y ys)) (in_right x (reverse ys) (y ∷ []) (zero, e))
in_reverse x (y ∷ ys) (suc k, e) = subst (In x) (sym (reverse-cons y ys)) (in_left x (reverse ys) (y ∷ []) (in_reverse x ys (k, e)))

-- a module is found by its name among modules that break no rule
named_at : (is_main : Bool) (modules : List PlainModule) → AllKeep is_main modules → (m : PlainModule) → In m modules → module_named modules m.name ≡ Some m
named_at is_main [] keeps m h = absurd (let e = h.1 in cc)
named_at is_main (x ∷ ms) keeps m (zero, e) =
    let same : x ≡ m = cc in
    cond-true (same_name x.name m.name) (Some x) (module_named ms m.name) (is_same x.name m.name (ap (λ (y : PlainModule). y.name) same)) ∙ ap Some same
named_at is_main (x ∷ ms) keeps m (suc k, e) =
    let later : In m (reverse ms) = in_reverse m ms (k, e) in
    let other : same_name x.name m.name ≡ false = false_from_ne_true (same_name x.name m.name) (λ same.
    both_ways (has_name (map (λ y. y.name) (reverse ms)) m.name)
    (subst (λ n. has_name (map (λ y. y.name) (reverse ms)) n ≡ false) (same_is x.name m.name same) (new_name is_main (reverse ms) _ x keeps.0))
    (has_each (λ (y : PlainModule). y.name) (reverse ms) later.0 m later.1)) in
    cond-false (same_name x.name m.name) (Some x) (module_named ms m.name) other ∙ named_at false ms keeps.1 m (k, e)

pub number-same : (source : PlainSource) (holder n : ℕ) (xs : List PlainInstance) (s : ℕ) → part_number source holder n xs s ≡ number_of (tree_from (reverse source.modules)) holder n xs s
number-same source holder n [] s = refl
number-same source holder n (x ∷ xs) zero = refl
number-same source holder n (x ∷ xs) (suc s) = number-same source holder (n + length (tree_from (reverse source.modules) x holder n)) xs s

module _ (net : PlainNet) (sound : is_sound (source_of net) ≡ true) (fit : IsFlat net) where
  abbrev pub source : PlainSource
  source = source_of net

  abbrev pub tree : List Placed
  tree = instances_of source

  abbrev pub comp : ℕ → PlainNetComponent
  comp k = net_component_at net k

  -- the module of component k
  abbrev pub own : ℕ → PlainModule
  own k = component_module net k (comp k)

  abbrev modules : List PlainModule
  modules = reverse source.modules

  pub comp_there : (k : ℕ) → k < length net.components → slice_get net.components k ≡ Some (comp k)
  comp_there k lt = slice_get-get_or net.components k no_net_component lt

  known : (m : PlainModule) → In m source.modules → module_named modules m.name ≡ Some m
  known m h = named_at true modules (sound_keeps source sound) m (in_reverse m source.modules h)

  -- the module of a component, and that of a primitive, are found by their names
  pub own_known : (k : ℕ) → k < length net.components → module_named modules (module_name net.main k) ≡ Some (own k)
  own_known k lt = known (own k) (in_right (own k) (primitive_modules net) (with_numbers (component_module net) net.components) (k, in_numbered (component_module net) net.components k (comp k) (comp_there k lt)))

  pub primitive_known : (k c : ℕ) (cell : PlainCell) (p : PrimitiveRow) → k < length net.components → slice_get (comp k).cells c ≡ Some cell → cell.kind ≡ OfPrimitive p
      → module_named modules (primitive_name p) ≡ Some (primitive_module p)
  primitive_known k c cell p lt there is =
      let (n, at) = its_primitive net fit.fits k c cell p lt there is in
      known (primitive_module p) (in_left (primitive_module p) (primitive_modules net) (with_numbers (component_module net) net.components) (n, in_mapped primitive_module (its_primitives net) n p at))

  -- instance i is of component k
  pub record IsPlaced (k i : ℕ) : Type 0 where
    pub within : k < length net.components
    pub place : Placed
    pub at : slice_get tree i ≡ Some place
    pub is : place.part ≡ own k

  -- main comes first
  pub main_placed : IsPlaced net.main 0
  main_placed =
      let r = main_at source sound in
      let found : module_named modules (codes "main") ≡ Some r.m = subst (λ ms. module_named ms (codes "main") ≡ Some r.m) (sym r.are) (main_named r.m r.before (r.kept, r.earlier)) in
      let name : module_name net.main net.main ≡ codes "main" = ap (λ b. if b then codes "main" else numbered (codes "m") net.main) (eq-eqb net.main net.main refl) in
      record {
        within = fit.fits.has_main;
        place = placed main_instance 0 r.m;
        at = r.first;
        is = one_value (module_named modules (codes "main")) r.m (own net.main) found (ap (module_named modules) (sym name) ∙ own_known net.main fit.fits.has_main);
      }

  -- main has no inputs but go
  pub main_inputs : (comp net.main).inputs ≡ []
  main_inputs = go (comp net.main).inputs refl where
    third : slice_get (own net.main).ports 3 ≡ Some (record { output = true; name = codes "done"; width = 1 })
    third =
        let r = main_at source sound in
        let same = one_value (slice_get tree 0) main_placed.place (placed main_instance 0 r.m) main_placed.at r.first in
        ap (λ (m : PlainModule). slice_get m.ports 3) (sym main_placed.is) ∙ ap (λ (q : Placed). slice_get q.part.ports 3) same ∙ ap (λ ps. slice_get ps 3) (main-ports r.m r.before r.kept)

    go : (inputs : List PortDecl) → (comp net.main).inputs ≡ inputs → (comp net.main).inputs ≡ []
    go [] is = is
    go (d ∷ ds) is =
        let first : slice_get (own net.main).ports 3 ≡ Some (input_port 0 d) =
        ap (λ ins. slice_get (one_bit (codes "clk") ∷ one_bit (codes "reset") ∷ one_bit (codes "go") ∷ with_numbers input_port ins ++ with_numbers output_port (comp net.main).outputs
        ++ record { output = true; name = codes "done"; width = 1 } ∷ []) 3) is in
        let same : Some (input_port 0 d) ≡ Some (record { output = true; name = codes "done"; width = 1 }) = sym first ∙ third in
        let wrong : false ≡ true = ap (λ o. option_map_or (λ (p : PlainPort). p.output) o false) same in absurd (cc)

  -- the ports of cell c of component k, behind the clock and the reset
  abbrev pub ports_of_cell : PlainCell → List PlainPort
  ports_of_cell cell = (cell_ports net cell).ports

  -- the instance of cell c in instance i
  pub record IsCell (k i c : ℕ) (cell : PlainCell) : Type 0 where
    pub place : Placed
    pub at : slice_get tree (cell_number source i c) ≡ Some place
    pub inner : cell_number source i c ≡ 0 → ⊥
    pub holder : place.holder ≡ i
    pub name : place.name ≡ instance_name c
    pub kind : module_named modules (cell_ports net cell).kind ≡ Some place.part
    pub conns : place.conns ≡ conn (codes "clk") (codes "clk") ∷ conn (codes "reset") (codes "reset") ∷ with_numbers (port_conn c) (ports_of_cell cell)

  pub cell_placed : (k i c : ℕ) (cell : PlainCell) → IsPlaced k i → slice_get (comp k).cells c ≡ Some cell → IsCell k i c cell
  cell_placed k i c cell p there =
      let y : PlainInstance = cell_instance c (cell_ports net cell) in
      let stands : slice_get (own k).instances c ≡ Some y =
      in_numbered cell_instance (map (cell_ports net) (comp k).cells) c (cell_ports net cell) (in_mapped (cell_ports net) (comp k).cells c cell there) in
      let stands_here : slice_get p.place.part.instances c ≡ Some y = subst (λ (m : PlainModule). slice_get m.instances c ≡ Some y) (sym p.is) stands in
      let (part, kind, at) = part_at source sound i p.place p.at c y stands_here in
      let number : cell_number source i c ≡ number_of (tree_from modules) i (i + 1) p.place.part.instances c =
      ap (λ (o : Option Placed). part_number source i (i + 1) (option_map_or (λ q. q.part.instances) o []) c) p.at ∙ number-same source i (i + 1) p.place.part.instances c in
      let here : slice_get tree (cell_number source i c) ≡ Some (placed y i part) = subst (λ n. slice_get tree n ≡ Some (placed y i part)) (sym number) at in
      record {
        place = placed y i part;
        at = here;
        inner = λ first.
            let r = main_at source sound in
            let none : placed y i part ≡ placed main_instance 0 r.m = one_value (slice_get tree 0) (placed y i part) (placed main_instance 0 r.m) (subst (λ n. slice_get tree n ≡ Some (placed y i part)) first here) r.first in
            let wired : y.conns ≡ [] = ap (λ (q : Placed). q.conns) none in cc;
        holder = refl;
        name = refl;
        kind = kind;
        conns = refl;
      }

  fit_kind : (k c : ℕ) (cell : PlainCell) (kind : PlainKind) → k < length net.components → slice_get (comp k).cells c ≡ Some cell → cell.kind ≡ kind → IsFitKind k kind
  fit_kind k c cell kind lt there is = subst (IsFitKind k) is ((fit.fits.components k lt).cells c cell there)

  -- the instance of a primitive cell is of its module
  pub primitive_placed : (k i c : ℕ) (cell : PlainCell) (p : PrimitiveRow) → IsPlaced k i → slice_get (comp k).cells c ≡ Some cell → cell.kind ≡ OfPrimitive p
      → (h : IsCell k i c cell) → h.place.part ≡ primitive_module p
  primitive_placed k i c cell p placing there is h =
      one_value (module_named modules (primitive_name p)) h.place.part (primitive_module p)
      (subst (λ kind. module_named modules (kind_ports net kind).kind ≡ Some h.place.part) is h.kind) (primitive_known k c cell p placing.within there is)

  pub primitive_fits : (k i c : ℕ) (cell : PlainCell) (p : PrimitiveRow) → IsPlaced k i → slice_get (comp k).cells c ≡ Some cell → cell.kind ≡ OfPrimitive p → HasRow p
  primitive_fits k i c cell p placing there is = fit_kind k c cell (OfPrimitive p) placing.within there is

  -- components come behind those of their cells
  pub child_lower : (k i c : ℕ) (cell : PlainCell) (child : ℕ) → IsPlaced k i → slice_get (comp k).cells c ≡ Some cell → cell.kind ≡ OfComponent child → child < k
  child_lower k i c cell child placing there is = fit_kind k c cell (OfComponent child) placing.within there is

  -- the instance of a component's cell is of that component
  pub child_placed : (k i c : ℕ) (cell : PlainCell) (child : ℕ) → IsPlaced k i → slice_get (comp k).cells c ≡ Some cell → cell.kind ≡ OfComponent child → IsPlaced child (cell_number source i c)
  child_placed k i c cell child placing there is =
      let h = cell_placed k i c cell placing there in
      let lower = child_lower k i c cell child placing there is in
      let bound = placing.within in
      let lt : child < length net.components = omega arith in
      record {
        within = lt;
        place = h.place;
        at = h.at;
        is = one_value (module_named modules (module_name net.main child)) h.place.part (own child)
            (subst (λ kind. module_named modules (kind_ports net kind).kind ≡ Some h.place.part) is h.kind) (own_known child lt);
      }

  -- the ports of a cell's instance
  pub cell_module_ports : (k i c : ℕ) (cell : PlainCell) → IsPlaced k i → slice_get (comp k).cells c ≡ Some cell → (h : IsCell k i c cell)
      → h.place.part.ports ≡ one_bit (codes "clk") ∷ one_bit (codes "reset") ∷ ports_of_cell cell
  cell_module_ports k i c cell placing there h = go cell.kind refl where
    go : (kind : PlainKind) → cell.kind ≡ kind → h.place.part.ports ≡ one_bit (codes "clk") ∷ one_bit (codes "reset") ∷ ports_of_cell cell
    go (OfPrimitive p) is =
        ap (λ (m : PlainModule). m.ports) (primitive_placed k i c cell p placing there is h)
        ∙ ap (λ kind. one_bit (codes "clk") ∷ one_bit (codes "reset") ∷ (kind_ports net kind).ports) (sym is)
    go (OfComponent child) is =
        let q = child_placed k i c cell child placing there is in
        let same : h.place ≡ q.place = one_value (slice_get tree (cell_number source i c)) h.place q.place h.at q.at in
        ap (λ (r : Placed). r.part.ports) same ∙ ap (λ (m : PlainModule). m.ports) q.is
        ∙ ap (λ o. one_bit (codes "clk") ∷ one_bit (codes "reset") ∷ signature_at o) (sym (comp_there child q.within))
        ∙ ap (λ kind. one_bit (codes "clk") ∷ one_bit (codes "reset") ∷ (kind_ports net kind).ports) (sym is)

  -- INSTANCES STAND: what a path leads to stands at its number
  pub placed_at : (k i : ℕ) (path : Path) (h : ℕ) → IsPlaced k i → LeadsTo net k path h → IsPlaced h (number_at source i path)
  placed_at k i [] h placing leads = subst (λ j. IsPlaced j i) leads placing
  placed_at k i (c ∷ path) h placing (cell, child, there, is, leads) = placed_at child (cell_number source i c) path h (child_placed k i c cell child placing there is) leads
