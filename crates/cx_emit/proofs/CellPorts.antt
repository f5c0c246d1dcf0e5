-- The ports of a cell's module: their names and widths; and that a component has few parts.
use Rattle.std.proofs.Common.{◌≡◌, ◌⊎◌, inl, inr, ℕ, zero, suc, ◌+◌, ◌^◌, ◌<◌, ◌==◌, Bool, true, false, List, [], ◌∷◌, ◌++◌, length, length-append, map, All, Some, option_map, slice_get, refl, ap, sym, ◌∙◌, subst, if◌then◌else◌, arith}
use Rattle.std.specs.Prelude.{codes}
use Rattle.std.proofs.lemmas.List.{length-map, map-append}
use Rattle.std.proofs.lemmas.Option.{slice_get-map, slice_get-get_or, slice_get_within}
use Rattle.std.proofs.lemmas.List.Elements.{All-head, All-tail}
use Rattle.cx_text.specs.Members.{Each}
use Rattle.cx_prim.specs.declared.ports.PortRow.{PortRow}
use Rattle.cx_prim.specs.Widths.{IsWidth}
use Rattle.cx_prim.specs.Table.{row_of}
use Rattle.cx_meaning.specs.declared.kinds.PortDecl.{PortDecl}
use Rattle.cx_meaning.specs.Designs.{PlainKind, OfPrimitive, OfComponent, PlainCell}
use Rattle.cx_vtree.specs.Plain.{PlainPort}
use Rattle.cx_vtree.specs.Layout.{is_name}
use Rattle.cx_vlaws.proofs.Fresh.{Fresh, fresh_left}
use Rattle.cx_vmods.specs.Modules.{port_of, module_of}
use Rattle.cx_net.specs.Nets.{PlainNetComponent, PlainNet}
use Rattle.cx_net.specs.NetTree.{net_component_at, no_net_component}
use Rattle.cx_net.specs.NetFits.{signature_widths, kind_width, IsFitKind, IsFit}
use Rattle.cx_net.specs.NetLimits.{IsWritableComponent, IsWritable}
use Rattle.cx_emit.specs.Names.{numbered, module_name}
use Rattle.cx_emit.specs.Numbered.{numbered_from, with_numbers}
use Rattle.cx_emit.specs.Numbers.{HaveFewPorts, HasFewParts}
use Rattle.cx_emit.specs.Sources.{module_with}
use Rattle.cx_emit.specs.Signatures.{one_bit, input_port, output_port, signature_of, signature_at, module_ports, kind_ports, cell_ports}
use Rattle.cx_emit.proofs.NumberedLemmas.{In, in_either, numbered_in}
use Rattle.cx_emit.proofs.NameLaws.{is_name-numbered}
use Rattle.cx_emit.proofs.PrimitiveNames.{is_name-primitive_name}
use Rattle.cx_emit.proofs.ModuleNames.{names_in, names_in-apart}
use Rattle.cx_emit.proofs.PortPlaces.{PortIs, is_go, is_input, is_output, is_done, done_port, port_is, length-numbered}
use Rattle.cx_emit.proofs.CleanModules.{each_more}
use Rattle.cx_emit.proofs.StatelessModules.{one_wide}
use Rattle.cx_emit.proofs.PrimitiveModules.{primitive_owes}
use Rattle.cx_text.proofs.OptionLaws.{map_some}

-- it holds of each element, by where they stand
pub each_in : {A : Type 0} {P : A → Type 0} (xs : List A) → ((x : A) → In x xs → P x) → Each P xs
each_in [] h = tt
each_in (x ∷ xs) h = (h x (zero, refl), each_in xs (λ y i. h y (suc i.0, i.1)))

pub in_each : {A : Type 0} (P : A → Type 0) (xs : List A) (x : A) → Each P xs → In x xs → P x
in_each P [] x each (q, e) = absurd (cc)
in_each P (y ∷ xs) x each (zero, e) = let same : y ≡ x = cc in subst P same each.0
in_each P (y ∷ xs) x each (suc q, e) = in_each P xs x each.1 (q, e)

pub all_each : {A : Type 0} (P : A → Type 0) (xs : List A) → All P xs → Each P xs
all_each P [] h = tt
all_each P (x ∷ xs) h = (All-head P x xs h, all_each P xs (All-tail P x xs h))

-- a port has a name and a width
pub record IsFinePort (p : PlainPort) : Type 0 where
  pub named : is_name p.name ≡ true
  pub wide : IsWidth p.width

-- behind the clock and the reset
pub record ArePorts (ps : List PlainPort) : Type 0 where
  pub fine : Each IsFinePort ps
  pub apart : Fresh [] (map (λ p. p.name) (one_bit (codes "clk") ∷ one_bit (codes "reset") ∷ ps))

pub length-signature : (part : PlainNetComponent) → length (signature_of part) ≡ 2 + length part.inputs + length part.outputs
length-signature part =
    let inputs = length-numbered input_port 0 part.inputs in
    let outputs = length-numbered output_port 0 part.outputs in
    let front = length-append (one_bit (codes "go") ∷ with_numbers input_port part.inputs) (with_numbers output_port part.outputs) in
    let whole = length-append (one_bit (codes "go") ∷ with_numbers input_port part.inputs ++ with_numbers output_port part.outputs) (done_port ∷ []) in
    omega (arith, inputs, outputs, front, whole)

numbered_widths : (f : ℕ → PortDecl → PlainPort) → ((n : ℕ) (d : PortDecl) → (f n d).width ≡ d.width) → (b : ℕ) (ds : List PortDecl) → map (λ p. p.width) (numbered_from f b ds) ≡ map (λ d. d.width) ds
numbered_widths f same b [] = refl
numbered_widths f same b (d ∷ ds) = ap (λ w. w ∷ map (λ p. p.width) (numbered_from f (suc b) ds)) (same b d) ∙ ap (λ ws. d.width ∷ ws) (numbered_widths f same (suc b) ds)

widths-signature : (part : PlainNetComponent) → map (λ p. p.width) (signature_of part) ≡ signature_widths part
widths-signature part =
    map-append (λ p. p.width) (one_bit (codes "go") ∷ with_numbers input_port part.inputs ++ with_numbers output_port part.outputs) (done_port ∷ [])
    ∙ ap (λ ws. ws ++ 1 ∷ [])
    (map-append (λ p. p.width) (one_bit (codes "go") ∷ with_numbers input_port part.inputs) (with_numbers output_port part.outputs)
    ∙ ap (λ ws. (1 ∷ ws) ++ map (λ p. p.width) (with_numbers output_port part.outputs)) (numbered_widths input_port (λ n d. refl) 0 part.inputs)
    ∙ ap (λ ws. (1 ∷ map (λ d. d.width) part.inputs) ++ ws) (numbered_widths output_port (λ n d. refl) 0 part.outputs))

module _ (net : PlainNet) (fit : IsFit net) (writable : IsWritable net) where
  abbrev comp : ℕ → PlainNetComponent
  comp k = net_component_at net k

  few_numbers : (k : ℕ) → k < length net.components → k < 2 ^ 64
  few_numbers k lt = let few = writable.few in omega (arith, lt, few)

  pub comp_there : (k : ℕ) → k < length net.components → slice_get net.components k ≡ Some (comp k)
  comp_there k lt = slice_get-get_or net.components k no_net_component lt

  pub module_named_well : (k : ℕ) → k < length net.components → is_name (module_name net.main k) ≡ true
  module_named_well k lt = go (k == net.main) where
    go : (b : Bool) → is_name (if b then codes "main" else numbered (codes "m") k) ≡ true
    go true = refl
    go false = is_name-numbered (codes "m") refl (omega arith) k (few_numbers k lt)

  -- the module of a cell has a name
  pub kind_named : (k c : ℕ) (cell : PlainCell) → k < length net.components → slice_get (comp k).cells c ≡ Some cell → is_name (cell_ports net cell).kind ≡ true
  kind_named k c cell lt there = by_kind cell.kind ((fit.components k lt).cells c cell there) where
    by_kind : (kind : PlainKind) → IsFitKind k kind → is_name (kind_ports net kind).kind ≡ true
    by_kind (OfPrimitive p) has = is_name-primitive_name p has
    by_kind (OfComponent j) lower = module_named_well j (omega (arith, lt, lower))

  -- FEW PARTS
  few_kind_ports : (k : ℕ) (kind : PlainKind) → k < length net.components → IsFitKind k kind → length (kind_ports net kind).ports < 2 ^ 64
  few_kind_ports k (OfPrimitive p) lt has =
      let few = (primitive_owes [] (codes "cx_m") refl p has).few in
      let long : length (map port_of (row_of p).ports) ≡ length (row_of p).ports = length-map (row_of p).ports port_of in
      omega (arith, few, long)
  few_kind_ports k (OfComponent j) lt lower =
      let within : j < length net.components = omega (arith, lt, lower) in
      let few = (writable.components j within).few_ports in
      let long = length-signature (comp j) in
      subst (λ o. length (signature_at o) < 2 ^ 64) (sym (comp_there j within)) (omega (arith, few, long))

  few_ports_of : (k : ℕ) → k < length net.components → (cells : List PlainCell) → Each (λ cell. IsFitKind k cell.kind) cells → HaveFewPorts (map (cell_ports net) cells)
  few_ports_of k lt [] each = tt
  few_ports_of k lt (cell ∷ cells) each = (few_kind_ports k cell.kind lt each.0, few_ports_of k lt cells each.1)

  pub has_few : (k : ℕ) → k < length net.components → HasFewParts (comp k) (map (cell_ports net) (comp k).cells)
  has_few k lt =
      let ok = writable.components k lt in
      let ports = ok.few_ports in
      let cells = ok.few_cells in
      let same : length (map (cell_ports net) (comp k).cells) ≡ length (comp k).cells = length-map (comp k).cells (cell_ports net) in
      record {
        inputs = omega (arith, ports);
        outputs = omega (arith, ports);
        wires = ok.few_wires;
        registers = ok.few_registers;
        cells = omega (arith, cells, same);
        ports = few_ports_of k lt (comp k).cells (each_in (comp k).cells (λ cell i. (fit.components k lt).cells i.0 cell i.1));
      }

  -- no two parts of a component's module have one name
  pub part_names : (k : ℕ) (name : List ℕ) (lt : k < length net.components) → Fresh [] (names_in (module_with name (comp k) (map (cell_ports net) (comp k).cells)))
  part_names k name lt = names_in-apart (comp k) (map (cell_ports net) (comp k).cells) (has_few k lt) name

  -- THE PORTS of a component's module, and of that of a primitive
  signature_fine : (k : ℕ) → k < length net.components → Each IsFinePort (signature_of (comp k))
  signature_fine k lt = each_in (signature_of (comp k)) (λ p h. either p (in_either p (one_bit (codes "go") ∷ with_numbers input_port (comp k).inputs ++ with_numbers output_port (comp k).outputs) (done_port ∷ []) h)) where
    ok : IsWritableComponent (comp k)
    ok = writable.components k lt

    input_fine : (p : PlainPort) → In p (with_numbers input_port (comp k).inputs) → IsFinePort p
    input_fine p (n, e) =
        let (d, there, is) = numbered_in input_port (comp k).inputs n p e in
        let few = ok.few_ports in
        let within = slice_get_within (comp k).inputs n d there in
        subst IsFinePort is (record { named = is_name-numbered (codes "in") refl (omega arith) n (omega (arith, within, few)); wide = in_each (λ x. IsWidth x.width) (comp k).inputs d (all_each (λ x. IsWidth x.width) (comp k).inputs ok.input_widths) (n, there) })

    output_fine : (p : PlainPort) → In p (with_numbers output_port (comp k).outputs) → IsFinePort p
    output_fine p (n, e) =
        let (d, there, is) = numbered_in output_port (comp k).outputs n p e in
        let few = ok.few_ports in
        let within = slice_get_within (comp k).outputs n d there in
        subst IsFinePort is (record { named = is_name-numbered (codes "out") refl (omega arith) n (omega (arith, within, few)); wide = in_each (λ x. IsWidth x.width) (comp k).outputs d (all_each (λ x. IsWidth x.width) (comp k).outputs ok.output_widths) (n, there) })

    go_fine : (p : PlainPort) → In p (one_bit (codes "go") ∷ with_numbers input_port (comp k).inputs) → IsFinePort p
    go_fine p (zero, e) = let same : one_bit (codes "go") ≡ p = cc in subst IsFinePort same (record { named = refl; wide = one_wide })
    go_fine p (suc n, e) = input_fine p (n, e)

    done_fine : (p : PlainPort) → In p (done_port ∷ []) → IsFinePort p
    done_fine p (zero, e) = let same : done_port ≡ p = cc in subst IsFinePort same (record { named = refl; wide = one_wide })
    done_fine p (suc n, e) = absurd (cc)

    front : (p : PlainPort) → In p (one_bit (codes "go") ∷ with_numbers input_port (comp k).inputs) ⊎ In p (with_numbers output_port (comp k).outputs) → IsFinePort p
    front p (inl h) = go_fine p h
    front p (inr h) = output_fine p h

    either : (p : PlainPort) → In p (one_bit (codes "go") ∷ with_numbers input_port (comp k).inputs ++ with_numbers output_port (comp k).outputs) ⊎ In p (done_port ∷ []) → IsFinePort p
    either p (inl h) = front p (in_either p (one_bit (codes "go") ∷ with_numbers input_port (comp k).inputs) (with_numbers output_port (comp k).outputs) h)
    either p (inr h) = done_fine p h

  pub signature_ports : (k : ℕ) → k < length net.components → ArePorts (signature_of (comp k))
  signature_ports k lt = record {
    fine = signature_fine k lt;
    apart = fresh_left [] (map (λ p. p.name) (module_ports (comp k))) _ (part_names k (codes "main") lt);
  }

  pub kind_ports_are : (k : ℕ) (kind : PlainKind) → k < length net.components → IsFitKind k kind → ArePorts (kind_ports net kind).ports
  kind_ports_are k (OfPrimitive p) lt has =
      let owed = (primitive_owes [] (codes "cx_m") refl p has).kept in
      record {
        fine = each_more (map port_of (row_of p).ports) (λ q h. record { named = h.named; wide = h.wide }) owed.ports.1.1;
        apart = fresh_left [] (map (λ q. q.name) (module_of p (codes "cx_m")).ports) _ owed.names;
      }
  kind_ports_are k (OfComponent j) lt lower =
      let within : j < length net.components = omega (arith, lt, lower) in
      subst (λ o. ArePorts (signature_at o)) (sym (comp_there j within)) (signature_ports j within)

  -- a port that has a width is there with it
  pub port_there : (k : ℕ) (kind : PlainKind) (p w : ℕ) → k < length net.components → IsFitKind k kind → kind_width net kind p ≡ Some w
      → (port : PlainPort) × (slice_get (kind_ports net kind).ports p ≡ Some port) × (port.width ≡ w)
  port_there k (OfPrimitive primitive) p w lt has e =
      let (row, at, same) = map_some (λ (x : PortRow). x.width) (slice_get (row_of primitive).ports p) w e in
      (port_of row, slice_get-map port_of (row_of primitive).ports p ∙ ap (option_map port_of) at, same)
  port_there k (OfComponent j) p w lt lower e =
      let within : j < length net.components = omega (arith, lt, lower) in
      let (port, at, same) = by_place (port_is (comp j) p w e) in
      (port, ap (λ o. slice_get (signature_at o) p) (comp_there j within) ∙ at, same)
    where
      by_place : PortIs (comp j) p w → (port : PlainPort) × (slice_get (signature_of (comp j)) p ≡ Some port) × (port.width ≡ w)
      by_place (is_go kind at wide first) = (one_bit (codes "go"), at, sym wide)
      by_place (is_input n d kind there at wide place) = (input_port n d, at, sym wide)
      by_place (is_output n d kind there at wide) = (output_port n d, at, sym wide)
      by_place (is_done kind at wide) = (done_port, at, sym wide)

  -- and one that is there has its width
  pub port_wide : (k : ℕ) (kind : PlainKind) (p : ℕ) (port : PlainPort) → k < length net.components → IsFitKind k kind → slice_get (kind_ports net kind).ports p ≡ Some port → kind_width net kind p ≡ Some port.width
  port_wide k (OfPrimitive primitive) p port lt has e =
      let (row, at, same) = map_some port_of (slice_get (row_of primitive).ports p) port (sym (slice_get-map port_of (row_of primitive).ports p) ∙ e) in
      ap (option_map (λ (x : PortRow). x.width)) at ∙ ap (λ (x : PlainPort). Some x.width) same
  port_wide k (OfComponent j) p port lt lower e =
      let within : j < length net.components = omega (arith, lt, lower) in
      let here : slice_get (signature_of (comp j)) p ≡ Some port = ap (λ o. slice_get (signature_at o) p) (sym (comp_there j within)) ∙ e in
      ap (λ l. slice_get l p) (sym (widths-signature (comp j))) ∙ slice_get-map (λ (x : PlainPort). x.width) (signature_of (comp j)) p ∙ ap (option_map (λ (x : PlainPort). x.width)) here
