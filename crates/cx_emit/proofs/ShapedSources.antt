-- The source of a net is shaped as a design asks, where each component of the net has the cells and the registers of one of the design.
use Rattle.std.proofs.Common.{◌≡◌, ◌⊎◌, inl, inr, ℕ, zero, suc, ◌+◌, ◌<◌, ◌≤◌, true, false, List, [], ◌∷◌, ◌++◌, length, map, Some, option_map, slice_get, refl, sym, ap, ◌∙◌, subst, if◌then◌else◌, arith}
use Rattle.std.specs.Prelude.{codes, ◌==◌}
use Rattle.std.proofs.lemmas.Bool.{eq-eqb, cond-true, cond-false, false_from_ne_true, or_parts}
use Rattle.std.proofs.lemmas.List.{length-map, map-append}
use Rattle.std.proofs.lemmas.Option.{slice_get-map, slice_get-get_or, slice_get_within}
use Rattle.cx_text.proofs.ListLaws.{at_map}
use Rattle.cx_prim.specs.Table.{PrimitiveRow}
use Rattle.cx_meaning.specs.Designs.{PlainKind, OfPrimitive, OfComponent, PlainCell, PlainDesign, component_at}
use Rattle.cx_rules.specs.Wellformed.{LeadsTo}
use Rattle.cx_vtree.specs.InstanceTree.{same_name}
use Rattle.cx_vtree.specs.Plain.{PlainPort, PlainDecl, WireOf, RegisterOf, ArrayOf, PlainInstance, PlainModule}
use Rattle.cx_vtree.specs.Sound.{Faults, Counts, arrays_in, module_counts, lines_faults, modules_faults, is_sound}
use Rattle.cx_vlaws.specs.Names.{AreApart}
use Rattle.cx_vlaws.proofs.Cleans.{Clean, clean_left, clean_right}
use Rattle.cx_vlaws.proofs.Fresh.{Fresh, fresh_apart}
use Rattle.cx_vlaws.proofs.Modules.{sound-faults}
use Rattle.cx_net.specs.Nets.{PlainNetComponent, PlainNet}
use Rattle.cx_net.specs.NetTree.{no_net_component, net_component_at}
use Rattle.cx_net.specs.NetFits.{IsFitKind, IsFit}
use Rattle.cx_net.proofs.NetsLemmas.{each_all}
use Rattle.cx_emit.specs.Names.{numbered, cell_port_name, wire_name, module_name, primitive_name}
use Rattle.cx_emit.specs.Numbered.{numbered_from, with_numbers, lists_from}
use Rattle.cx_emit.specs.Signatures.{PlainCellPorts, primitive_module, kind_ports, cell_ports}
use Rattle.cx_emit.specs.Sources.{port_decl, cell_decls, wire_decl, register_decl, decls_with, cell_instance, component_module, primitive_modules, source_of}
use Rattle.cx_emit.specs.Shapes.{most_registers, registers_in, Use, IsUse, IsPartModule, IsOfKind, IsShaped}
use Rattle.cx_emit.proofs.CellPorts.{each_in}
use Rattle.cx_emit.proofs.NumberedLemmas.{In, in_left, in_right, in_either, in_numbered, numbered_in, in_mapped}
use Rattle.cx_emit.proofs.NetPrimitives.{its_primitives, its_primitive}
use Rattle.cx_emit.proofs.ModuleNames.{map-numbered}
use Rattle.cx_vtree.proofs.InstanceTreeLemmas.{same_is, is_same}
use Rattle.cx_emit.proofs.PortPlaces.{length-numbered}

-- WHAT IS ASKED OF THE NET: the component of the design that each of its components stands for, and what is in these
abbrev pub kind_for : (ℕ → ℕ) → PlainKind → PlainKind
kind_for stands (OfPrimitive p) = OfPrimitive p
kind_for stands (OfComponent j) = OfComponent (stands j)

-- of component k of the design
pub record IsPartFor (d : PlainDesign) (stands : ℕ → ℕ) (k : ℕ) (part : PlainNetComponent) : Type 0 where
  pub reached : (k ≡ d.main) ⊎ LeadsTo d d.main k
  pub registers : length part.registers ≤ most_registers (component_at d k)
  pub use_of : ℕ → Use
  pub cells : (c : ℕ) (cell : PlainCell) → slice_get part.cells c ≡ Some cell → IsUse d k (kind_for stands cell.kind) (use_of c)
  pub once : (i j : ℕ) → i < length part.cells → j < length part.cells → use_of i ≡ use_of j → i ≡ j

pub record IsNetFor (d : PlainDesign) (net : PlainNet) : Type 0 where
  pub stands : ℕ → ℕ
  pub main : stands net.main ≡ d.main
  pub parts : (k : ℕ) → k < length net.components → IsPartFor d stands (stands k) (net_component_at net k)

-- DECLARATIONS of a component's module: registers, and no array
arrays_in-append : (xs ys : List PlainDecl) → arrays_in xs ≡ [] → arrays_in ys ≡ [] → arrays_in (xs ++ ys) ≡ []
arrays_in-append [] ys h k = k
arrays_in-append (WireOf n w ∷ xs) ys h k = arrays_in-append xs ys h k
arrays_in-append (RegisterOf n w ∷ xs) ys h k = arrays_in-append xs ys h k
arrays_in-append (ArrayOf n w s ∷ xs) ys h k = absurd (cc)

registers_in-append : (xs ys : List PlainDecl) → registers_in (xs ++ ys) ≡ registers_in xs + registers_in ys
registers_in-append [] ys = omega arith
registers_in-append (WireOf n w ∷ xs) ys = registers_in-append xs ys
registers_in-append (RegisterOf n w ∷ xs) ys = let h = registers_in-append xs ys in omega (arith, h)
registers_in-append (ArrayOf n w s ∷ xs) ys = registers_in-append xs ys

-- wires alone
record AreWires (ds : List PlainDecl) : Type 0 where
  no_array : arrays_in ds ≡ []
  no_register : registers_in ds ≡ 0

wires_numbered : {A : Type 0} (f : ℕ → A → PlainDecl) (name : ℕ → A → List ℕ) (width : A → ℕ) → ((n : ℕ) (x : A) → f n x ≡ WireOf (name n x) (width x)) → (b : ℕ) (xs : List A) → AreWires (numbered_from f b xs)
wires_numbered f name width is b [] = record { no_array = refl; no_register = refl }
wires_numbered f name width is b (x ∷ xs) =
    let rest = wires_numbered f name width is (suc b) xs in
    record {
      no_array = ap (λ d. arrays_in (d ∷ numbered_from f (suc b) xs)) (is b x) ∙ rest.no_array;
      no_register = ap (λ d. registers_in (d ∷ numbered_from f (suc b) xs)) (is b x) ∙ rest.no_register;
    }

wires_both : (xs ys : List PlainDecl) → AreWires xs → AreWires ys → AreWires (xs ++ ys)
wires_both xs ys h k =
    let sum = registers_in-append xs ys in
    let none = h.no_register in
    let nor = k.no_register in
    record { no_array = arrays_in-append xs ys h.no_array k.no_array; no_register = omega (arith, sum, none, nor) }

cells_wires : (b : ℕ) (cells : List PlainCellPorts) → AreWires (lists_from cell_decls b cells)
cells_wires b [] = record { no_array = refl; no_register = refl }
cells_wires b (cell ∷ cells) =
    wires_both (cell_decls b cell) (lists_from cell_decls (suc b) cells) (wires_numbered (port_decl b) (λ n (x : PlainPort). cell_port_name b n) (λ (x : PlainPort). x.width) (λ n x. refl) 0 cell.ports) (cells_wires (suc b) cells)

registers_numbered : (b : ℕ) (ws : List ℕ) → (arrays_in (numbered_from register_decl b ws) ≡ []) × (registers_in (numbered_from register_decl b ws) ≡ length ws)
registers_numbered b [] = (refl, refl)
registers_numbered b (w ∷ ws) = let rest = registers_numbered (suc b) ws in let few = rest.1 in (rest.0, omega (arith, few))

module _ (part : PlainNetComponent) (cells : List PlainCellPorts) where
  wires_first : AreWires (lists_from cell_decls 0 cells ++ with_numbers wire_decl part.wires)
  wires_first = wires_both (lists_from cell_decls 0 cells) (with_numbers wire_decl part.wires) (cells_wires 0 cells) (wires_numbered wire_decl (λ n w. wire_name n) (λ w. w) (λ n w. refl) 0 part.wires)

  declares_no_array : arrays_in (decls_with part cells) ≡ []
  declares_no_array = arrays_in-append (lists_from cell_decls 0 cells ++ with_numbers wire_decl part.wires) (with_numbers register_decl part.registers) wires_first.no_array (registers_numbered 0 part.registers).0

  declares_registers : registers_in (decls_with part cells) ≡ length part.registers
  declares_registers =
      let sum = registers_in-append (lists_from cell_decls 0 cells ++ with_numbers wire_decl part.wires) (with_numbers register_decl part.registers) in
      let none = wires_first.no_register in
      let own = (registers_numbered 0 part.registers).1 in
      omega (arith, sum, none, own)

-- THE MODULES of a source, each with what it is of
record Labelled : Type 0 where
  part : PlainModule
  kind : PlainKind

abbrev labelled : PlainModule → PlainKind → Labelled
labelled part kind = record { part = part; kind = kind }

-- the kind of the module of a name
abbrev kind_named : List Labelled → List ℕ → PlainKind
kind_named [] name = OfComponent 0
kind_named (x ∷ xs) name = if same_name x.part.name name then x.kind else kind_named xs name

kind_named-at : (xs : List Labelled) (k : ℕ) (x : Labelled) → slice_get xs k ≡ Some x → ((j : ℕ) (y : Labelled) → slice_get xs j ≡ Some y → y.part.name ≡ x.part.name → j ≡ k) → kind_named xs x.part.name ≡ x.kind
kind_named-at [] k x e apart = absurd (cc)
kind_named-at (y ∷ xs) zero x e apart =
    let same : y ≡ x = cc in
    cond-true (same_name y.part.name x.part.name) y.kind (kind_named xs x.part.name) (is_same y.part.name x.part.name (ap (λ (z : Labelled). z.part.name) same)) ∙ ap (λ (z : Labelled). z.kind) same
kind_named-at (y ∷ xs) (suc k) x e apart =
    let other : same_name y.part.name x.part.name ≡ false = false_from_ne_true (same_name y.part.name x.part.name) (λ same. let no : 0 ≡ suc k = apart 0 y refl (same_is y.part.name x.part.name same) in omega (arith, no)) in
    cond-false (same_name y.part.name x.part.name) y.kind (kind_named xs x.part.name) other
    ∙ kind_named-at xs k x e (λ j z at same. let next : suc j ≡ suc k = apart (suc j) z at same in omega (arith, next))

-- no two modules that break no rule have one name
modules_fresh : (before : List PlainModule) (counts : List Counts) (ms : List PlainModule) → Clean (modules_faults before counts ms) → Fresh (map (λ m. m.name) before) (map (λ m. m.name) ms)
modules_fresh before counts [] clean = tt
modules_fresh before counts (m ∷ ms) clean =
    let own : Counts = module_counts before counts m in
    let here : List Faults = lines_faults (length ms == 0) before own m in
    let rest : List Faults = modules_faults (before ++ m ∷ []) (counts ++ own ∷ []) ms in
    let head = (clean_left here rest clean).0 in (
      (or_parts _ _ (or_parts _ _ (ap (λ (f : Faults). f.name) head)).0).0,
      subst (λ ns. Fresh ns (map (λ x. x.name) ms)) (map-append (λ x. x.name) before (m ∷ [])) (modules_fresh (before ++ m ∷ []) (counts ++ own ∷ []) ms (clean_right here rest clean)),
    )

module _ (net : PlainNet) (stands : ℕ → ℕ) where
  abbrev primitive_label : PrimitiveRow → Labelled
  primitive_label p = labelled (primitive_module p) (OfPrimitive p)

  abbrev own_label : ℕ → PlainNetComponent → Labelled
  own_label k part = labelled (component_module net k part) (OfComponent (stands k))

  abbrev primitive_labels : List Labelled
  primitive_labels = map primitive_label (its_primitives net)

  abbrev own_labels : List Labelled
  own_labels = with_numbers own_label net.components

  abbrev labels : List Labelled
  labels = primitive_labels ++ own_labels

  primitives_same : (ps : List PrimitiveRow) → map (λ (x : Labelled). x.part) (map primitive_label ps) ≡ map primitive_module ps
  primitives_same [] = refl
  primitives_same (p ∷ ps) = ap (λ ms. primitive_module p ∷ ms) (primitives_same ps)

  labels_same : map (λ (x : Labelled). x.part) labels ≡ (source_of net).modules
  labels_same =
      map-append (λ (x : Labelled). x.part) primitive_labels own_labels
      ∙ ap (λ ms. ms ++ map (λ (x : Labelled). x.part) own_labels) (primitives_same (its_primitives net))
      ∙ ap (λ ms. primitive_modules net ++ ms) (map-numbered (λ (x : Labelled). x.part) own_label 0 net.components)

  label_at : (k : ℕ) (m : PlainModule) → slice_get (source_of net).modules k ≡ Some m → (x : Labelled) × (slice_get labels k ≡ Some x) × (x.part ≡ m)
  label_at k m e = at_map (λ (x : Labelled). x.part) labels k m (ap (λ ms. slice_get ms k) labels_same ∙ e)

  module _ (sound : is_sound (source_of net) ≡ true) where
    names_apart : AreApart (map (λ (m : PlainModule). m.name) (map (λ (x : Labelled). x.part) labels))
    names_apart = subst (λ ms. AreApart (map (λ (m : PlainModule). m.name) ms)) (sym labels_same) (fresh_apart [] (map (λ (m : PlainModule). m.name) (source_of net).modules) (modules_fresh [] [] (source_of net).modules (sound-faults (source_of net) sound).1))

    name_at : (k : ℕ) (x : Labelled) → slice_get labels k ≡ Some x → slice_get (map (λ (m : PlainModule). m.name) (map (λ (y : Labelled). y.part) labels)) k ≡ Some x.part.name
    name_at k x e = slice_get-map (λ (m : PlainModule). m.name) (map (λ (y : Labelled). y.part) labels) k ∙ ap (option_map (λ (m : PlainModule). m.name)) (slice_get-map (λ (y : Labelled). y.part) labels k ∙ ap (option_map (λ (y : Labelled). y.part)) e)

    -- each is of the kind that is found by its name
    label_found : (x : Labelled) → In x labels → kind_named labels x.part.name ≡ x.kind
    label_found x h =
        kind_named-at labels h.0 x h.1 (λ j y at same. names_apart j h.0 x.part.name (name_at j y at ∙ ap Some same) (name_at h.0 x h.1))

    abbrev comp : ℕ → PlainNetComponent
    comp k = net_component_at net k

    comp_there : (k : ℕ) → k < length net.components → slice_get net.components k ≡ Some (comp k)
    comp_there k lt = slice_get-get_or net.components k no_net_component lt

    own_kind : (k : ℕ) → k < length net.components → kind_named labels (module_name net.main k) ≡ OfComponent (stands k)
    own_kind k lt = label_found (own_label k (comp k)) (in_right (own_label k (comp k)) primitive_labels own_labels (k, in_numbered own_label net.components k (comp k) (comp_there k lt)))

    primitive_kind : (p : PrimitiveRow) → In p (its_primitives net) → kind_named labels (primitive_name p) ≡ OfPrimitive p
    primitive_kind p (n, at) = label_found (primitive_label p) (in_left (primitive_label p) primitive_labels own_labels (n, in_mapped primitive_label (its_primitives net) n p at))

    -- a module of a primitive has the primitive's name, so no two are of one
    label_named : (p : PrimitiveRow) (x : Labelled) → x.kind ≡ OfPrimitive p → In x primitive_labels ⊎ In x own_labels → x.part.name ≡ primitive_name p
    label_named p x is (inl (n, e)) =
        let (q, at, same) = at_map primitive_label (its_primitives net) n x e in
        let kinds : OfPrimitive q ≡ OfPrimitive p = ap (λ (y : Labelled). y.kind) same ∙ is in
        let one : q ≡ p = cc in
        ap (λ (y : Labelled). y.part.name) (sym same) ∙ ap primitive_name one
    label_named p x is (inr (k, e)) =
        let (part, there, same) = numbered_in own_label net.components k x e in
        let kinds : OfComponent (stands k) ≡ OfPrimitive p = ap (λ (y : Labelled). y.kind) same ∙ is in
        absurd (cc)

    module_named_for : (p : PrimitiveRow) (k : ℕ) (m : PlainModule) → slice_get (source_of net).modules k ≡ Some m → kind_named labels m.name ≡ OfPrimitive p → slice_get (map (λ (n : PlainModule). n.name) (map (λ (y : Labelled). y.part) labels)) k ≡ Some (primitive_name p)
    module_named_for p k m e is =
        let (x, at, same) = label_at k m e in
        let kind : x.kind ≡ OfPrimitive p = sym (label_found x (k, at)) ∙ ap (λ (n : PlainModule). kind_named labels n.name) same ∙ is in
        name_at k x at ∙ ap Some (label_named p x kind (in_either x primitive_labels own_labels (k, at)))

    one_each : (p : PrimitiveRow) (i j : ℕ) (m n : PlainModule) → slice_get (source_of net).modules i ≡ Some m → slice_get (source_of net).modules j ≡ Some n → kind_named labels m.name ≡ OfPrimitive p → kind_named labels n.name ≡ OfPrimitive p → i ≡ j
    one_each p i j m n e g is other = names_apart i j (primitive_name p) (module_named_for p i m e is) (module_named_for p j n g other)

    module _ (fit : IsFit net) where
      -- the module of a cell is of the cell's kind
      cell_kind : (k c : ℕ) (cell : PlainCell) → k < length net.components → slice_get (comp k).cells c ≡ Some cell → kind_named labels (cell_ports net cell).kind ≡ kind_for stands cell.kind
      cell_kind k c cell lt there = by_kind cell.kind refl where
        by_kind : (kind : PlainKind) → cell.kind ≡ kind → kind_named labels (kind_ports net kind).kind ≡ kind_for stands kind
        by_kind (OfPrimitive p) is = primitive_kind p (its_primitive net fit k c cell p lt there is)
        by_kind (OfComponent j) is = let lower : j < k = subst (IsFitKind k) is ((fit.components k lt).cells c cell there) in own_kind j (omega (arith, lower, lt))

      module _ (d : PlainDesign) where
        part_shaped : (k : ℕ) → k < length net.components → IsPartFor d stands (stands k) (comp k) → IsPartModule d (kind_named labels) (stands k) (component_module net k (comp k))
        part_shaped k lt for = record {
          reached = for.reached;
          no_array = declares_no_array (comp k) (map (cell_ports net) (comp k).cells);
          registers = (let few = for.registers in let same = declares_registers (comp k) (map (cell_ports net) (comp k).cells) in omega (arith, few, same));
          use_of = for.use_of;
          each = λ i x e.
              let (y, at, is) = numbered_in cell_instance (map (cell_ports net) (comp k).cells) i x e in
              let (cell, there, same) = at_map (cell_ports net) (comp k).cells i y at in
              let named : (cell_ports net cell).kind ≡ x.kind = ap (λ (z : PlainCellPorts). z.kind) same ∙ ap (λ (z : PlainInstance). z.kind) is in
              let kinds : kind_for stands cell.kind ≡ kind_named labels x.kind = sym (cell_kind k i cell lt there) ∙ ap (kind_named labels) named in
              subst (λ kind. IsUse d (stands k) kind (for.use_of i)) kinds (for.cells i cell there);
          once = λ i j less fewer.
              let ports = length-map (comp k).cells (cell_ports net) in
              let made = length-numbered cell_instance 0 (map (cell_ports net) (comp k).cells) in
              for.once i j (omega (arith, less, ports, made)) (omega (arith, fewer, ports, made));
        }

        module _ (parts : (k : ℕ) → k < length net.components → IsPartFor d stands (stands k) (comp k)) where
          label_shaped : (x : Labelled) → In x labels → IsOfKind d (kind_named labels) x.kind x.part
          label_shaped x h = by_place (in_either x primitive_labels own_labels h) where
            by_place : In x primitive_labels ⊎ In x own_labels → IsOfKind d (kind_named labels) x.kind x.part
            by_place (inl (n, e)) =
                let (p, at, same) = at_map primitive_label (its_primitives net) n x e in
                subst (λ (y : Labelled). IsOfKind d (kind_named labels) y.kind y.part) same refl
            by_place (inr (k, e)) =
                let (part, there, same) = numbered_in own_label net.components k x e in
                let lt = slice_get_within net.components k part there in
                let sames : Some (comp k) ≡ Some part = sym (comp_there k lt) ∙ there in
                let part_is : comp k ≡ part = cc in
                subst (λ (y : Labelled). IsOfKind d (kind_named labels) y.kind y.part) same (subst (λ (y : PlainNetComponent). IsPartModule d (kind_named labels) (stands k) (component_module net k y)) part_is (part_shaped k lt (parts k lt)))

          module_shaped : (m : PlainModule) → In m (source_of net).modules → IsOfKind d (kind_named labels) (kind_named labels m.name) m
          module_shaped m h =
              let (x, at, is) = label_at h.0 m h.1 in
              subst (λ (n : PlainModule). IsOfKind d (kind_named labels) (kind_named labels n.name) n) is
              (subst (λ kind. IsOfKind d (kind_named labels) kind x.part) (sym (label_found x (h.0, at))) (label_shaped x (h.0, at)))

-- THE SOURCE of such a net is shaped
pub source_shaped : (d : PlainDesign) (net : PlainNet) → IsFit net → is_sound (source_of net) ≡ true → IsNetFor d net → IsShaped d (source_of net)
source_shaped d net fit sound for = record {
  kind = kind_named (labels net for.stands);
  modules = each_all (λ (m : PlainModule). IsOfKind d (kind_named (labels net for.stands)) (kind_named (labels net for.stands) m.name) m) (source_of net).modules
      (each_in (source_of net).modules (module_shaped net for.stands sound fit d for.parts));
  one_each = one_each net for.stands sound;
  main =
      let name : module_name net.main net.main ≡ codes "main" = ap (λ b. if b then codes "main" else numbered (codes "m") net.main) (eq-eqb net.main net.main refl) in
      ap (kind_named (labels net for.stands)) (sym name) ∙ own_kind net for.stands sound net.main fit.has_main ∙ ap OfComponent for.main;
}
