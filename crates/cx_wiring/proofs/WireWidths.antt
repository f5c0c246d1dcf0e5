-- The registers and wires of the net of a component have 1 to 128 bits.
use Rattle.std.proofs.Common.{◌≡◌, inl, inr, ℕ, zero, suc, ◌-◌, ◌<◌, Bool, true, false, if◌then◌else◌, List, [], ◌∷◌, ◌++◌, length, replicate, Option, Some, None, slice_get, refl, ap, sym, ◌∙◌, subst}
use Rattle.std.specs.Prelude.{nat_lt, option_map, unwrap_or, All}
use Rattle.std.proofs.lemmas.Option.{slice_get-map, slice_get-get_or}
use Rattle.cx_text.proofs.MemberLaws.{in_at, each_append}
use Rattle.cx_prim.specs.declared.ports.PortRow.{PortRow}
use Rattle.cx_prim.specs.Widths.{IsWidth}
use Rattle.cx_prim.specs.Table.{row_of}
use Rattle.cx_meaning.specs.declared.ports.PortRef.TheVariants as ports
use Rattle.cx_meaning.specs.declared.kinds.PortDecl.{PortDecl}
use Rattle.cx_meaning.specs.Designs.{PlainKind, OfPrimitive, OfComponent, PlainCell, PlainComponent, PlainDesign, no_component, component_at, PlainForm, Empty, Enable, Seq, Par, If, While, Repeat, StaticSeq, StaticPar, StaticIf, StaticRepeat, Timed, PlainStatement, Placed, PlainStatements, no_statements, a_statement}
use Rattle.cx_meaning.specs.Sights.{AnInput, AnOutput, ItsDone, output_port, part_port}
use Rattle.cx_rules.specs.Ports.{declared_width, part_width}
use Rattle.cx_rules.specs.Wellformed.{IsSignature, IsDesign}
use Rattle.cx_net.specs.Nets.{PlainNetTarget, ToPort, ToRegister, ToWire, ToHole, ToDone}
use Rattle.cx_net.proofs.NetsLemmas.{each_all}
use Rattle.cx_static.specs.Islands.{PlainIsland, PlainLowered}
use Rattle.cx_static.specs.Lowering.{lowered_component, lowered_of}
use Rattle.cx_wiring.specs.Counts.{sample_registers, form_registers, registers_of, registers_in, arms_registers}
use Rattle.cx_wiring.specs.Trees.{Driven, pairs, pair_widths, tree_widths}
use Rattle.cx_wiring.specs.Wiring.{groups, bits, plain_wires, component_registers, component_driven, width_in_part, kind_width, port_width, known_width, target_width}
use Rattle.cx_wiring.proofs.FitLemmas.{are_at}
use Rattle.cx_wiring.proofs.PortWidths.{ports_wide, one_bit, count_bits}
use Rattle.cx_text.proofs.ListLaws.{there_below}
use Rattle.cx_text.specs.Members.{Each}

are_replicated : (w n : ℕ) → IsWidth w → Each IsWidth (replicate n w)
are_replicated w zero wide = tt
are_replicated w (suc n) wide = (wide, are_replicated w n wide)

-- REGISTERS
samples_wide : (o : Option PlainIsland) → Each IsWidth (sample_registers o)
samples_wide None = tt
samples_wide (Some island) = are_replicated 1 (length island.points) one_bit

module _ (islands : List PlainIsland) where
  mutual
    form_wide : (form : PlainForm) → Each IsWidth (form_registers islands form)
    form_wide Empty = tt
    form_wide (Enable g) = tt
    form_wide (Seq parts) = parts_wide parts
    form_wide (Par arms) = arms_wide arms
    form_wide (If test comb a b) = each_append IsWidth (registers_of islands a) (registers_of islands b) (registers_wide a) (registers_wide b)
    form_wide (While test comb a) = registers_wide a
    form_wide (Repeat zero a) = tt
    form_wide (Repeat (suc n) a) = (count_bits, registers_wide a)
    form_wide (StaticSeq written parts) = tt
    form_wide (StaticPar written arms) = tt
    form_wide (StaticIf written test a b) = tt
    form_wide (StaticRepeat written count a) = tt
    form_wide (Timed k) = samples_wide (slice_get islands k)

    pub registers_wide : (s : PlainStatement) → Each IsWidth (registers_of islands s)
    registers_wide (Placed form place) = form_wide form

    parts_wide : (ss : PlainStatements) → Each IsWidth (registers_in islands ss)
    parts_wide no_statements = tt
    parts_wide (a_statement s ss) = each_append IsWidth (registers_of islands s) (registers_in islands ss) (registers_wide s) (parts_wide ss)

    arms_wide : (ss : PlainStatements) → Each IsWidth (arms_registers islands ss)
    arms_wide no_statements = tt
    arms_wide (a_statement s ss) = (count_bits, each_append IsWidth (registers_of islands s) (arms_registers islands ss) (registers_wide s) (arms_wide ss))

pub component_registers_wide : (lowered : PlainLowered) → Each IsWidth (component_registers lowered)
component_registers_wide lowered = (count_bits, registers_wide lowered.islands lowered.part.control)

-- PORTS of signatures
declared_wide : (decls : List PortDecl) → IsSignature decls → (n w : ℕ) → declared_width decls n ≡ Some w → IsWidth w
declared_wide decls sign n w e = by (slice_get decls n) refl e
  where
    by : (found : Option PortDecl) → slice_get decls n ≡ found → option_map (λ (decl : PortDecl). decl.width) found ≡ Some w → IsWidth w
    by None is f = absurd cc
    by (Some decl) is f =
        let port = sign decl (in_at decls n decl is) in
        let same : decl.width ≡ w = cc in
        subst IsWidth same (record { some_bits = port.some_bits; few_bits = port.few_bits })

part_wide : (component : PlainComponent) → IsSignature component.inputs → IsSignature component.outputs → (p w : ℕ) → part_width component (part_port component p) ≡ Some w → IsWidth w
part_wide component inputs outputs zero w e = let same : 1 ≡ w = cc in subst IsWidth same one_bit
part_wide component inputs outputs (suc m) w e = by_input (nat_lt m (length component.inputs)) e
  where
    by_output : (r : ℕ) (b : Bool) → part_width component (if b then AnOutput r else ItsDone) ≡ Some w → IsWidth w
    by_output r true f = declared_wide component.outputs outputs r w f
    by_output r false f = let same : 1 ≡ w = cc in subst IsWidth same one_bit

    by_input : (b : Bool) → part_width component (if b then AnInput m else output_port (length component.outputs) (m - length component.inputs)) ≡ Some w → IsWidth w
    by_input true f = declared_wide component.inputs inputs m w f
    by_input false f = by_output (m - length component.inputs) (nat_lt (m - length component.inputs) (length component.outputs)) f

module _ (d : PlainDesign) (rules : IsDesign d) (k : ℕ) (within : k < length d.components) where
  abbrev part : PlainComponent
  part = component_at d k

  abbrev low : PlainLowered
  low = lowered_component part

  child_there : (j : ℕ) (child : PlainLowered) → slice_get (lowered_of d).components j ≡ Some child → (j < length d.components) × (child ≡ lowered_component (component_at d j))
  child_there j child e = by (slice_get d.components j) refl (sym (slice_get-map lowered_component d.components j) ∙ e)
    where
      by : (found : Option PlainComponent) → slice_get d.components j ≡ found → option_map lowered_component found ≡ Some child → (j < length d.components) × (child ≡ lowered_component (component_at d j))
      by None is f = absurd cc
      by (Some x) is f =
          let less = there_below d.components j x is in
          let same : Some (lowered_component (component_at d j)) ≡ Some child = ap (option_map lowered_component) (sym (slice_get-get_or d.components j no_component less)) ∙ ap (option_map lowered_component) is ∙ f in
          (less, sym (some_same (lowered_component (component_at d j)) child same))
        where
          some_same : (a b : PlainLowered) → Some a ≡ Some b → a ≡ b
          some_same a b g = cc

  child_wide : (found : Option PlainLowered) (j p w : ℕ) → slice_get (lowered_of d).components j ≡ found → width_in_part (lowered_of d) low found p ≡ Some w → IsWidth w
  child_wide None j p w is e = absurd cc
  child_wide (Some child) j p w is e =
      let r = child_there j child is in
      let sound = rules.components j r.0 in
      part_wide (component_at d j) sound.inputs sound.outputs p w (subst (λ (x : PlainLowered). part_width x.part (part_port x.part p) ≡ Some w) r.1 e)

  row_wide : (found : Option PortRow) (w : ℕ) → ((port : PortRow) → found ≡ Some port → IsWidth port.width) → option_map (λ (port : PortRow). port.width) found ≡ Some w → IsWidth w
  row_wide None w each e = absurd cc
  row_wide (Some port) w each e = let same : port.width ≡ w = cc in subst IsWidth same (each port refl)

  kind_wide : (kind : PlainKind) (p w : ℕ) → kind_width (lowered_of d) low kind p ≡ Some w → IsWidth w
  kind_wide (OfPrimitive primitive) p w e =
      row_wide (slice_get (row_of primitive).ports p) w (λ port is. are_at (λ (x : PortRow). IsWidth x.width) (row_of primitive).ports (ports_wide primitive) p port is) e
  kind_wide (OfComponent j) p w e = child_wide (slice_get (lowered_of d).components j) j p w refl e

  cell_wide : (found : Option PlainCell) (p w : ℕ) → port_width (lowered_of d) low found p ≡ Some w → IsWidth w
  cell_wide None p w e = absurd cc
  cell_wide (Some cell) p w e = kind_wide cell.kind p w e

  plain_wide : Each IsWidth (plain_wires low)
  plain_wide = each_append IsWidth (replicate (groups low) 32) (replicate (bits low) 1) (are_replicated 32 (groups low) count_bits) (are_replicated 1 (bits low) one_bit)

  known_wide : (t : PlainNetTarget) (w : ℕ) → known_width (lowered_of d) low t ≡ Some w → IsWidth w
  known_wide (ToPort (ports.Cell c p)) w e = cell_wide (slice_get low.part.cells c) p w e
  known_wide (ToPort (ports.Output n)) w e = declared_wide low.part.outputs (rules.components k within).outputs n w e
  known_wide (ToPort (ports.Input n)) w e = absurd cc
  known_wide (ToPort (ports.Done g)) w e = absurd cc
  known_wide (ToPort (ports.Literal u v)) w e = absurd cc
  known_wide (ToRegister n) w e = are_at IsWidth (component_registers low) (component_registers_wide low) n w e
  known_wide (ToWire n) w e = are_at IsWidth (plain_wires low) plain_wide n w e
  known_wide (ToHole n) w e = absurd cc
  known_wide ToDone w e = absurd cc

  or_one : (o : Option ℕ) → ((w : ℕ) → o ≡ Some w → IsWidth w) → IsWidth (unwrap_or o 1)
  or_one None each = one_bit
  or_one (Some w) each = each w refl

  target_wide : (t : PlainNetTarget) → IsWidth (target_width (lowered_of d) low t)
  target_wide t = or_one (known_width (lowered_of d) low t) (known_wide t)

  pairs_wide : (w n : ℕ) → IsWidth w → Each IsWidth (pair_widths w n)
  pairs_wide w zero wide = tt
  pairs_wide w (suc n) wide = (one_bit, (wide, pairs_wide w n wide))

  trees_wide : (ts : List Driven) → Each IsWidth (tree_widths (target_width (lowered_of d) low) ts)
  trees_wide [] = tt
  trees_wide (t ∷ ts) =
      each_append IsWidth (pair_widths (target_width (lowered_of d) low t.target) (pairs (length t.drivers))) (tree_widths (target_width (lowered_of d) low) ts)
      (pairs_wide (target_width (lowered_of d) low t.target) (pairs (length t.drivers)) (target_wide t.target)) (trees_wide ts)

  -- THE WIRES of a component
  pub wires_wide : Each IsWidth (plain_wires low ++ tree_widths (target_width (lowered_of d) low) (component_driven low))
  wires_wide = each_append IsWidth (plain_wires low) (tree_widths (target_width (lowered_of d) low) (component_driven low)) plain_wide (trees_wide (component_driven low))

signature_are : (decls : List PortDecl) → IsSignature decls → Each (λ (decl : PortDecl). IsWidth decl.width) decls
signature_are [] sign = tt
signature_are (decl ∷ decls) sign = (let port = sign decl (inl refl) in record { some_bits = port.some_bits; few_bits = port.few_bits }, signature_are decls (λ x i. sign x (inr i)))

-- the ports of a signature
pub signature_wide : (decls : List PortDecl) → IsSignature decls → All (λ (decl : PortDecl). IsWidth decl.width) decls
signature_wide decls sign = each_all (λ (decl : PortDecl). IsWidth decl.width) decls (signature_are decls sign)
