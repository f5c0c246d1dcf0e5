-- The external lines of a net's source keep the rules.
use Rattle.std.proofs.Common.{◌≡◌, inl, inr, ℕ, zero, suc, ◌+◌, ◌^◌, ◌<◌, ◌≤◌, ◌&&◌, ◌||◌, not, Bool, true, false, List, [], ◌∷◌, ◌++◌, length, map, Some, None, option_and_then, slice_get, refl, ap, sym, ◌∙◌, subst, if◌then◌else◌, arith, append_assoc, eq-eqb, le-ltb, le-leb, lt-ltb}
use Rattle.std.specs.Prelude.{codes, nat_lt, nat_le}
use Rattle.std.specs.Option.{option_map_or}
use Rattle.std.proofs.lemmas.Bool.{or_from, and_from, cond-true, cond-false, false_from_ne_true}
use Rattle.std.proofs.lemmas.Option.{slice_get_within}
use Rattle.cx_text.specs.Members.{Each}
use Rattle.cx_text.specs.Loading.{word_count}
use Rattle.cx_prim.specs.CellStates.{StateShape}
use Rattle.cx_prim.specs.Table.{PrimitiveRow, row_of}
use Rattle.cx_meaning.specs.Designs.{PlainKind, OfPrimitive, OfComponent, PlainCell}
use Rattle.cx_rules.specs.Wellformed.{first_number}
use Rattle.cx_rules.specs.Externals.{numbers_of, sizes_in}
use Rattle.cx_state.proofs.Shapes.{IsMemoryOf, memory_shape}
use Rattle.cx_vtree.specs.Plain.{PlainInstance, PlainModule, PlainExternal}
use Rattle.cx_vtree.specs.InstanceTree.{same_name}
use Rattle.cx_vtree.specs.Layout.{is_word, is_name, external_fits}
use Rattle.cx_vtree.specs.Sound.{has_name, module_named, decl_name, last_named, instance_kind, memory_module, arrays_in, not_this_memory, not_this_width, memory_arrays, external_faults, externals_faults}
use Rattle.cx_vlaws.proofs.Fresh.{has_each, has-append, Fresh, fresh_right}
use Rattle.cx_vlaws.proofs.Scopes.{other_than}
use Rattle.cx_net.specs.Nets.{PlainNetComponent, PlainNet}
use Rattle.cx_net.specs.NetTree.{net_component_at}
use Rattle.cx_net.specs.NetFits.{IsFitKind, IsExternalKind, IsFit, HasNoHoles}
use Rattle.cx_net.specs.NetLimits.{IsWritableExternal, IsWritable}
use Rattle.cx_emit.specs.Names.{numbered, instance_name, module_name, primitive_name}
use Rattle.cx_emit.specs.Numbered.{numbered_from, with_numbers, lists_from}
use Rattle.cx_emit.specs.Signatures.{primitive_module, kind_ports, cell_ports}
use Rattle.cx_emit.specs.Sources.{cell_instance, component_module, primitive_modules, external_of, cell_externals, externals_at, source_of}
use Rattle.cx_emit.proofs.NetPrimitives.{its_primitives, its_primitive}
use Rattle.cx_emit.proofs.NumberedLemmas.{in_mapped, In, in_left, in_numbered, lists_in}
use Rattle.cx_emit.proofs.NameLaws.{is_name-numbered, numbered-injective}
use Rattle.cx_emit.proofs.FaultLaws.{IsClean, AreClean, no_lines, a_line}
use Rattle.cx_emit.proofs.PrimitiveModules.{arrays_of, primitive_owes}
use Rattle.cx_emit.proofs.CellPorts.{each_in, comp_there, part_names}
use Rattle.cx_emit.proofs.ModuleWalk.{modules_differ}
use Rattle.cx_vtree.proofs.InstanceTreeLemmas.{same_is, is_same, same_self}

-- a module, and an instance, is found by its name
module_found : (earlier : List (List ℕ)) (ms : List PlainModule) (q : ℕ) (m : PlainModule) → Fresh earlier (map (λ x. x.name) ms) → slice_get ms q ≡ Some m → module_named ms m.name ≡ Some m
module_found earlier [] q m f e = absurd (cc)
module_found earlier (x ∷ ms) zero m f e =
    let same : x ≡ m = cc in
    cond-true (same_name x.name m.name) (Some x) (module_named ms m.name) (is_same x.name m.name (ap (λ (y : PlainModule). y.name) same)) ∙ ap Some same
module_found earlier (x ∷ ms) (suc q) m f e =
    cond-false (same_name x.name m.name) (Some x) (module_named ms m.name) (other_than earlier (map (λ y. y.name) ms) x.name m.name f.1 (has_each (λ (y : PlainModule). y.name) ms q m e))
    ∙ module_found (earlier ++ x.name ∷ []) ms q m f.1 e

instance_found : (earlier : List (List ℕ)) (xs : List PlainInstance) (q : ℕ) (i : PlainInstance) → Fresh earlier (map (λ x. x.name) xs) → slice_get xs q ≡ Some i → instance_kind xs i.name ≡ Some i.kind
instance_found earlier [] q i f e = absurd (cc)
instance_found earlier (x ∷ xs) zero i f e =
    let same : x ≡ i = cc in
    cond-true (same_name x.name i.name) (Some x.kind) (instance_kind xs i.name) (is_same x.name i.name (ap (λ (y : PlainInstance). y.name) same)) ∙ ap (λ (y : PlainInstance). Some y.kind) same
instance_found earlier (x ∷ xs) (suc q) i f e =
    cond-false (same_name x.name i.name) (Some x.kind) (instance_kind xs i.name) (other_than earlier (map (λ y. y.name) xs) x.name i.name f.1 (has_each (λ (y : PlainInstance). y.name) xs q i e))
    ∙ instance_found (earlier ++ x.name ∷ []) xs q i f.1 e

-- the last module has the name
last_found : (ms : List PlainModule) (m : PlainModule) → last_named (ms ++ m ∷ []) m.name ≡ Some m
last_found [] m = cond-true (same_name m.name m.name) (Some m) None (same_self m.name)
last_found (x ∷ ms) m = ap (λ o. option_map_or Some o (if same_name x.name m.name then Some x else None)) (last_found ms m)

module _ (net : PlainNet) where
  -- that of the last component
  last_module : (k : ℕ) (parts : List PlainNetComponent) (j : ℕ) (part : PlainNetComponent) → slice_get parts j ≡ Some part → length parts ≡ suc j
      → (ms : List PlainModule) × (numbered_from (component_module net) k parts ≡ ms ++ component_module net (k + j) part ∷ [])
  last_module k [] j part e long = absurd (cc)
  last_module k (x ∷ []) zero part e long =
      let same : x ≡ part = cc in
      let place : k ≡ k + 0 = omega arith in
      ([], ap (λ m. m ∷ []) (ap (component_module net k) same ∙ ap (λ n. component_module net n part) place))
  last_module k (x ∷ y ∷ parts) zero part e long = absurd (omega (arith, long))
  last_module k (x ∷ parts) (suc j) part e long =
      let (ms, is) = last_module (suc k) parts j part e (omega (arith, long)) in
      let place : suc k + j ≡ k + suc j = omega arith in
      (component_module net k x ∷ ms, ap (λ l. component_module net k x ∷ l) (is ∙ ap (λ n. ms ++ component_module net n part ∷ []) place))

module _ (net : PlainNet) (fit : IsFit net) (no_holes : HasNoHoles net) (writable : IsWritable net) where
  abbrev main : PlainNetComponent
  main = net_component_at net net.main

  abbrev own : PlainModule
  own = component_module net net.main main

  abbrev modules : List PlainModule
  modules = (source_of net).modules

  main_last : last_named modules (codes "main") ≡ Some own
  main_last =
      let there = comp_there net fit writable net.main fit.has_main in
      let (ms, is) = last_module net 0 net.components net.main main there (sym writable.main_last) in
      let place : 0 + net.main ≡ net.main = omega arith in
      let named : own.name ≡ codes "main" = ap (λ b. if b then codes "main" else numbered (codes "m") net.main) (eq-eqb net.main net.main refl) in
      let all : modules ≡ (primitive_modules net ++ ms) ++ own ∷ [] =
      ap (λ l. primitive_modules net ++ l) (is ∙ ap (λ n. ms ++ component_module net n main ∷ []) place) ∙ sym (append_assoc (primitive_modules net) ms (own ∷ [])) in
      ap (λ l. last_named l (codes "main")) all ∙ ap (last_named ((primitive_modules net ++ ms) ++ own ∷ [])) (sym named) ∙ last_found (primitive_modules net ++ ms) own

  -- AN EXTERNAL CELL
  module _ (c : ℕ) (cell : PlainCell) (there : slice_get main.cells c ≡ Some cell) (external : cell.external ≡ true) where
    its_kind : (p : PrimitiveRow) → cell.kind ≡ OfPrimitive p → instance_kind own.instances (instance_name c) ≡ Some (primitive_name p)
    its_kind p is =
        let wired : slice_get own.instances c ≡ Some (cell_instance c (cell_ports net cell)) =
        in_numbered cell_instance (map (cell_ports net) main.cells) c (cell_ports net cell) (in_mapped (cell_ports net) main.cells c cell there) in
        let names = part_names net fit writable net.main (module_name net.main net.main) fit.has_main in
        let behind = fresh_right [] (map (λ p. p.name) own.ports) (map decl_name own.decls ++ map (λ i. i.name) own.instances) names in
        let parts = fresh_right (map (λ p. p.name) own.ports) (map decl_name own.decls) (map (λ i. i.name) own.instances) behind in
        instance_found (map (λ p. p.name) own.ports ++ map decl_name own.decls) own.instances c (cell_instance c (cell_ports net cell)) parts wired ∙ ap (λ kind. Some (kind_ports net kind).kind) is

    its_module : (p : PrimitiveRow) → cell.kind ≡ OfPrimitive p → module_named modules (primitive_name p) ≡ Some (primitive_module p)
    its_module p is =
        let m : PlainModule = primitive_module p in
        let (n, at) = its_primitive net fit net.main c cell p fit.has_main there is in
        let among = in_left m (primitive_modules net) (with_numbers (component_module net) net.components) (n, in_mapped primitive_module (its_primitives net) n p at) in
        module_found [] modules among.0 m (modules_differ net fit no_holes writable) among.1

    -- its memory
    arrays_here : (p : PrimitiveRow) → cell.kind ≡ OfPrimitive p → memory_arrays modules (external_of c cell) ≡ (first_number p.numbers, word_count (sizes_in p.numbers)) ∷ []
    arrays_here p is =
        let has = subst (IsFitKind net.main) is ((fit.components net.main fit.has_main).cells c cell there) in
        let kind = subst IsExternalKind is (fit.externals c cell there external) in
        let found : memory_module modules (external_of c cell) ≡ Some (primitive_module p) =
        ap (option_and_then (λ (m : PlainModule). option_and_then (module_named modules) (instance_kind m.instances (instance_name c)))) main_last
        ∙ ap (option_and_then (module_named modules)) (its_kind p is) ∙ its_module p is in
        ap (λ o. option_map_or (λ (m : PlainModule). arrays_in m.decls) o []) found ∙ (primitive_owes [] (codes "cx_m") refl p has).arrays
        ∙ of_shape (row_of p).shape (first_number p.numbers) (word_count (sizes_in p.numbers)) (memory_shape p kind)
      where
        of_shape : (shape : StateShape) (w k : ℕ) → IsMemoryOf shape w k → arrays_of shape ≡ (w, k) ∷ []
        of_shape shape w k (inl e) = ap arrays_of e
        of_shape shape w k (inr e) = ap arrays_of e

    ok : IsWritableExternal cell
    ok = writable.externals c cell there external

    external_clean : (names instances : List (List ℕ)) → has_name names cell.name ≡ false → has_name instances (instance_name c) ≡ false → IsClean (external_faults modules names instances (external_of c cell))
    external_clean names instances new new_instance = go cell.kind refl where
      go : (kind : PlainKind) → cell.kind ≡ kind → IsClean (external_faults modules names instances (external_of c cell))
      go (OfComponent j) is = absurd (subst IsExternalKind is (fit.externals c cell there external))
      go (OfPrimitive p) is =
          let numbers : numbers_of cell.kind ≡ p.numbers = ap numbers_of is in
          let arrays = arrays_here p is in
          record {
            name = or_from (has_name names cell.name || has_name instances (instance_name c)) (not_this_memory (memory_arrays modules (external_of c cell)) (external_of c cell))
                (or_from (has_name names cell.name) (has_name instances (instance_name c)) new new_instance)
                (ap (λ xs. not_this_memory xs (external_of c cell)) arrays ∙ ap not (eq-eqb (word_count (sizes_in p.numbers)) (word_count (sizes_in (numbers_of cell.kind))) (ap (λ n. word_count (sizes_in n)) (sym numbers))));
            width = or_from (nat_lt 64 (first_number (numbers_of cell.kind))) (not_this_width (memory_arrays modules (external_of c cell)) (external_of c cell)) (le-ltb 64 (first_number (numbers_of cell.kind)) ok.few_bits)
                (ap (λ xs. not_this_width xs (external_of c cell)) arrays ∙ ap not (eq-eqb (first_number p.numbers) (first_number (numbers_of cell.kind)) (ap first_number (sym numbers))));
            limit = refl;
          }

    external_laid : external_fits (external_of c cell) ≡ true
    external_laid = go cell.kind refl where
      go : (kind : PlainKind) → cell.kind ≡ kind → external_fits (external_of c cell) ≡ true
      go (OfComponent j) is = absurd (subst IsExternalKind is (fit.externals c cell there external))
      go (OfPrimitive p) is =
          let numbers : numbers_of cell.kind ≡ p.numbers = ap numbers_of is in
          let has = subst (IsFitKind net.main) is ((fit.components net.main fit.has_main).cells c cell there) in
          let kind = subst IsExternalKind is (fit.externals c cell there external) in
          let sizes = subst (λ n. (0 < length (sizes_in n)) × (length (sizes_in n) ≤ 4)) (sym numbers) ((primitive_owes [] (codes "cx_m") refl p has).sizes kind) in
          let within = slice_get_within main.cells c cell there in
          let few = (writable.components net.main fit.has_main).few_cells in
          and_from (is_word cell.name && is_name (instance_name c) && nat_lt 0 (length (sizes_in (numbers_of cell.kind)))) (nat_le (length (sizes_in (numbers_of cell.kind))) 4)
          (and_from (is_word cell.name && is_name (instance_name c)) (nat_lt 0 (length (sizes_in (numbers_of cell.kind))))
          (and_from (is_word cell.name) (is_name (instance_name c)) ok.word (is_name-numbered (codes "i") refl (omega arith) c (omega (arith, within, few)))) (lt-ltb 0 (length (sizes_in (numbers_of cell.kind))) sizes.0))
          (le-leb (length (sizes_in (numbers_of cell.kind))) 4 sizes.1)

  -- ALL EXTERNAL LINES
  few_main : length main.cells < 2 ^ 64
  few_main = (writable.components net.main fit.has_main).few_cells

  -- what comes before has no name of cell b or behind it
  abbrev Lacks : ℕ → List (List ℕ) → List (List ℕ) → Type 0
  Lacks b names instances = (c : ℕ) (cell : PlainCell) → b ≤ c → slice_get main.cells c ≡ Some cell → cell.external ≡ true → (has_name names cell.name ≡ false) × (has_name instances (instance_name c) ≡ false)

  externals_clean : (b : ℕ) (cells : List PlainCell) → ((j : ℕ) → slice_get cells j ≡ slice_get main.cells (b + j)) → (names instances : List (List ℕ)) → Lacks b names instances
      → AreClean (externals_faults modules names instances (lists_from cell_externals b cells))
  externals_clean b [] places names instances lacks = no_lines
  externals_clean b (cell ∷ cells) places names instances lacks =
      go cell.external refl (externals_clean (suc b) cells (λ j. let step : b + suc j ≡ suc b + j = omega arith in places (suc j) ∙ ap (slice_get main.cells) step))
    where
      there : slice_get main.cells b ≡ Some cell
      there = let first : b + 0 ≡ b = omega arith in sym (ap (slice_get main.cells) first) ∙ sym (places zero)

      go : (t : Bool) → cell.external ≡ t
          → ((names instances : List (List ℕ)) → ((c : ℕ) (other : PlainCell) → suc b ≤ c → slice_get main.cells c ≡ Some other → other.external ≡ true → (has_name names other.name ≡ false) × (has_name instances (instance_name c) ≡ false))
          → AreClean (externals_faults modules names instances (lists_from cell_externals (suc b) cells)))
          → AreClean (externals_faults modules names instances ((if t then external_of b cell ∷ [] else []) ++ lists_from cell_externals (suc b) cells))
      go false inner walk = walk names instances (λ c other from at outer. lacks c other (omega (arith, from)) at outer)
      go true inner walk =
          let own_lacks = lacks b cell (omega arith) there inner in
          a_line (external_clean b cell there inner names instances own_lacks.0 own_lacks.1)
          (walk (names ++ cell.name ∷ []) (instances ++ instance_name b ∷ []) (λ c other from at outer.
          let before = lacks c other (omega (arith, from)) at outer in (
            has-append names (cell.name ∷ []) other.name
                ∙ or_from (has_name names other.name) (has_name (cell.name ∷ []) other.name) before.0
                (or_from (same_name cell.name other.name) false
                (false_from_ne_true (same_name cell.name other.name) (λ e. let place = writable.externals_apart b c cell other there inner at outer (same_is cell.name other.name e) in omega (arith, from, place))) refl),
            has-append instances (instance_name b ∷ []) (instance_name c)
                ∙ or_from (has_name instances (instance_name c)) (has_name (instance_name b ∷ []) (instance_name c)) before.1
                (or_from (same_name (instance_name b) (instance_name c)) false
                (false_from_ne_true (same_name (instance_name b) (instance_name c)) (λ e.
                let all = few_main in let here = slice_get_within main.cells b cell there in let far = slice_get_within main.cells c other at in
                let place = numbered-injective (codes "i") b c (omega (arith, here, all)) (omega (arith, far, all)) (same_is (instance_name b) (instance_name c) e) in omega (arith, from, place))) refl),
          )))

  externals_are : (source_of net).externals ≡ lists_from cell_externals 0 main.cells
  externals_are = ap externals_at (comp_there net fit writable net.main fit.has_main)

  pub external_lines : AreClean (externals_faults modules [] [] (source_of net).externals)
  external_lines =
      subst (λ es. AreClean (externals_faults modules [] [] es)) (sym externals_are)
      (externals_clean 0 main.cells (λ j. let place : j ≡ 0 + j = omega arith in ap (slice_get main.cells) place) [] [] (λ c cell from at outer. (refl, refl)))

  pub externals_laid : Each (λ e. external_fits e ≡ true) (source_of net).externals
  externals_laid =
      subst (Each (λ e. external_fits e ≡ true)) (sym externals_are)
      (each_in (lists_from cell_externals 0 main.cells) (λ e h.
      let (c, cell, at, inner) = lists_in cell_externals main.cells e h in
      one c cell at e cell.external refl inner))
    where
      one : (c : ℕ) (cell : PlainCell) → slice_get main.cells c ≡ Some cell → (e : PlainExternal) (t : Bool) → cell.external ≡ t → In e (if t then external_of c cell ∷ [] else []) → external_fits e ≡ true
      one c cell at e false outer (q, f) = absurd (cc)
      one c cell at e true outer (suc q, f) = absurd (cc)
      one c cell at e true outer (zero, f) = let same : external_of c cell ≡ e = cc in subst (λ x. external_fits x ≡ true) same (external_laid c cell at outer)
