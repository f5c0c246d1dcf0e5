-- The source of a net has no more nets than are counted over the tree of the net.
use Rattle.std.proofs.Common.{map, ◌≡◌, ℕ, zero, suc, ◌+◌, ◌<◌, ◌≤◌, true, List, [], ◌∷◌, ◌++◌, length, reverse, Some, slice_get, refl, sym, ap, ◌∙◌, subst, if◌then◌else◌, arith}
use Rattle.std.specs.Prelude.{codes}
use Rattle.std.proofs.lemmas.Bool.{eq-eqb}
use Rattle.std.proofs.lemmas.List.{length-map}
use Rattle.cx_text.specs.Members.{Each}
use Rattle.cx_prim.specs.Table.{PrimitiveRow, row_of}
use Rattle.cx_meaning.specs.Designs.{PlainKind, OfPrimitive, OfComponent, PlainCell}
use Rattle.cx_vtree.specs.InstanceTree.{Placed, declared_nets, below, tree_from, main_instance, instances_of}
use Rattle.cx_vtree.specs.Plain.{PlainInstance, PlainModule}
use Rattle.cx_vtree.specs.Sound.{module_named, is_sound}
use Rattle.cx_vlaws.specs.Counts.{nets_count}
use Rattle.cx_vlaws.proofs.Forest.{unfolds}
use Rattle.cx_vlaws.proofs.Modules.{sound_keeps}
use Rattle.cx_vmods.specs.Modules.{port_of}
use Rattle.cx_net.specs.Nets.{PlainNetComponent, PlainNet}
use Rattle.cx_net.specs.NetFits.{IsFitKind}
use Rattle.cx_net.specs.NetLimits.{nets_inside, nets_below}
use Rattle.cx_net.specs.NetTree.{net_component_at, net_within, net_tree}
use Rattle.cx_emit.specs.Fits.{IsFlat}
use Rattle.cx_emit.specs.Names.{numbered, module_name, primitive_name}
use Rattle.cx_emit.specs.Numbered.{numbered_from}
use Rattle.cx_emit.specs.Signatures.{primitive_module, kind_ports, cell_ports}
use Rattle.cx_emit.specs.Sources.{cell_instance, component_module, source_of}
use Rattle.cx_emit.proofs.CellPorts.{each_in, length-signature}
use Rattle.cx_emit.proofs.Counted.{IsThereKind, child_nets, all_ports, all_nets, nets-in, component_declared}
use Rattle.cx_emit.proofs.PrimitiveModules.{primitive_owes}
use Rattle.cx_emit.proofs.Standing.{comp_there, own_known, primitive_known}

nets_both : (xs ys : List Placed) (n m : ℕ) → nets_count xs ≤ n → nets_count ys ≤ m → nets_count (xs ++ ys) ≤ n + m
nets_both [] ys n m h k = omega (arith, h, k)
nets_both (x ∷ xs) ys n m h k = let rest : nets_count (xs ++ ys) ≤ nets_count xs + m = nets_both xs ys (nets_count xs) m (omega arith) k in omega (arith, h, rest)

module _ (net : PlainNet) (sound : is_sound (source_of net) ≡ true) (fit : IsFlat net) where
  abbrev modules : List PlainModule
  modules = reverse (source_of net).modules

  abbrev comp : ℕ → PlainNetComponent
  comp k = net_component_at net k

  abbrev tree : PlainInstance → ℕ → ℕ → List Placed
  tree = tree_from modules

  -- an instance has the nets of its module, and those of all that it holds
  tree_nets : (x : PlainInstance) (holder n : ℕ) (m : PlainModule) → module_named modules x.kind ≡ Some m
      → nets_count (tree x holder n) ≡ length m.ports + length (declared_nets m.decls) + nets_count (below tree n (n + 1) m.instances)
  tree_nets x holder n m found = ap nets_count (unfolds true modules (sound_keeps (source_of net) sound) x holder n m found)

  -- the instance of a primitive cell
  primitive_nets : (k c : ℕ) (cell : PlainCell) (p : PrimitiveRow) → k < length net.components → slice_get (comp k).cells c ≡ Some cell → cell.kind ≡ OfPrimitive p
      → (x : PlainInstance) (holder n : ℕ) → x.kind ≡ primitive_name p → nets_count (tree x holder n) ≤ 2 + length (row_of p).ports + nets_inside (row_of p).shape
  primitive_nets k c cell p lt there is x holder n named =
      let m : PlainModule = primitive_module p in
      let found : module_named modules x.kind ≡ Some m = ap (module_named modules) named ∙ primitive_known net sound fit k c cell p lt there is in
      let all : nets_count (tree x holder n) ≡ length m.ports + length (declared_nets m.decls) + 0 = tree_nets x holder n m found in
      let few = (primitive_owes [] (codes "cx_m") refl p (subst (IsFitKind k) is ((fit.fits.components k lt).cells c cell there))).nets in
      let long = length-map (row_of p).ports port_of in
      omega (arith, all, few, long)

  -- over the cells of a component, where each has as many
  cells_nets : (levels b : ℕ) (cells : List PlainCell)
      → ((c : ℕ) (cell : PlainCell) → slice_get cells c ≡ Some cell → (x : PlainInstance) (holder n : ℕ) → x.kind ≡ (cell_ports net cell).kind → nets_count (tree x holder n) ≤ child_nets net levels cell.kind)
      → (holder next : ℕ) → nets_count (below tree holder next (numbered_from cell_instance b (map (cell_ports net) cells))) ≤ all_nets net levels cells
  cells_nets levels b [] each holder next = omega arith
  cells_nets levels b (cell ∷ cells) each holder next =
      let x : PlainInstance = cell_instance b (cell_ports net cell) in
      let t : List Placed = tree x holder next in
      nets_both t (below tree holder (next + length t) (numbered_from cell_instance (suc b) (map (cell_ports net) cells))) (child_nets net levels cell.kind) (all_nets net levels cells)
      (each zero cell refl x holder next refl)
      (cells_nets levels (suc b) cells (λ c other there y h n named. each (suc c) other there y h n named) holder (next + length t))

  kinds_there : (k : ℕ) → k < length net.components → Each (λ (cell : PlainCell). IsThereKind net cell.kind) (comp k).cells
  kinds_there k lt = each_in (comp k).cells (λ cell h. by_kind cell.kind ((fit.fits.components k lt).cells h.0 cell h.1)) where
    by_kind : (kind : PlainKind) → IsFitKind k kind → IsThereKind net kind
    by_kind (OfPrimitive p) h = tt
    by_kind (OfComponent j) lower = omega (arith, lower, lt)

  -- an instance of a component
  component_nets : (levels k : ℕ) → k < levels → k < length net.components → (x : PlainInstance) (holder n : ℕ) → x.kind ≡ module_name net.main k → nets_count (tree x holder n) ≤ nets_below (net_within net levels k)
  component_nets zero k enough lt x holder n named = absurd (omega (arith, enough))
  component_nets (suc levels) k enough lt x holder n named =
      let m : PlainModule = component_module net k (comp k) in
      let all : nets_count (tree x holder n) ≡ length m.ports + length (declared_nets m.decls) + nets_count (below tree n (n + 1) m.instances) = tree_nets x holder n m (ap (module_named modules) named ∙ own_known net sound fit k lt) in
      let declared : length (declared_nets m.decls) ≡ all_ports net levels (comp k).cells + length (comp k).wires + length (comp k).registers = (component_declared net (comp_there net sound fit) levels k (kinds_there k lt)).0 in
      let long = length-signature (comp k) in
      let inner = nets-in net levels (comp k).cells in
      let rest : nets_count (below tree n (n + 1) m.instances) ≤ all_nets net levels (comp k).cells = cells_nets levels 0 (comp k).cells (λ c cell there y h i is. by_kind (component_nets levels) c cell there cell.kind refl y h i is) n (n + 1) in
      omega (arith, all, declared, long, inner, rest)
    where
      by_kind : ((j : ℕ) → j < levels → j < length net.components → (y : PlainInstance) (h i : ℕ) → y.kind ≡ module_name net.main j → nets_count (tree y h i) ≤ nets_below (net_within net levels j))
          → (c : ℕ) (cell : PlainCell) → slice_get (comp k).cells c ≡ Some cell → (kind : PlainKind) → cell.kind ≡ kind → (y : PlainInstance) (h i : ℕ) → y.kind ≡ (kind_ports net cell.kind).kind
          → nets_count (tree y h i) ≤ child_nets net levels cell.kind
      by_kind inner c cell there (OfPrimitive p) is y h i at =
          subst (λ kind. nets_count (tree y h i) ≤ child_nets net levels kind) (sym is) (primitive_nets k c cell p lt there is y h i (at ∙ ap (λ kind. (kind_ports net kind).kind) is))
      by_kind inner c cell there (OfComponent j) is y h i at =
          let lower : j < k = subst (IsFitKind k) is ((fit.fits.components k lt).cells c cell there) in
          subst (λ kind. nets_count (tree y h i) ≤ child_nets net levels kind) (sym is)
          (inner j (omega (arith, lower, enough)) (omega (arith, lower, lt)) y h i (at ∙ ap (λ kind. (kind_ports net kind).kind) is))

  -- THE NETS of the whole
  pub source_nets : nets_count (instances_of (source_of net)) ≤ nets_below (net_tree net)
  source_nets =
      let name : codes "main" ≡ module_name net.main net.main = sym (ap (λ b. if b then codes "main" else numbered (codes "m") net.main) (eq-eqb net.main net.main refl)) in
      component_nets (length net.components) net.main fit.fits.has_main fit.fits.has_main main_instance 0 0 name
