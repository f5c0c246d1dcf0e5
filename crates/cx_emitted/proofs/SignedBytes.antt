-- In the net of a design that is not too large numbers are short, and so are the names of ports around its cells.
use Rattle.std.proofs.Common.{◌≡◌, ◌⊎◌, inl, inr, ⊎_elim, ℕ, suc, ◌+◌, ◌^◌, ◌<◌, ◌≤◌, ◌==◌, ◌||◌, Bool, true, false, List, [], ◌∷◌, ◌++◌, length, map, Option, Some, None, slice_get, nat_eq, refl, subst, sym, ap, ◌∙◌, arith, if◌then◌else◌}
use Rattle.std.specs.Prelude.{codes, option_map}
use Rattle.std.proofs.lemmas.Bool.Decides.{eqb_tells}
use Rattle.std.proofs.lemmas.List.{length-map}
use Rattle.std.proofs.lemmas.Option.{slice_get-map, slice_get-get_or, slice_get_within}
use Rattle.cx_text.proofs.MemberLaws.{each_append}
use Rattle.cx_prim.specs.declared.ports.PortRow.{PortRow}
use Rattle.cx_prim.specs.Table.{PrimitiveRow, HasRow, row_of}
use Rattle.cx_meaning.specs.Designs.{PlainKind, OfPrimitive, OfComponent, PlainCell, PlainDesign, no_component, component_at}
use Rattle.cx_text.specs.Members.{Each, In}
use Rattle.cx_rules.specs.Sizes.{size_of, design_size}
use Rattle.cx_rules.specs.Wellformed.{IsDesign}
use Rattle.cx_vtree.specs.Plain.{PlainPort}
use Rattle.cx_net.specs.Nets.{PlainNetComponent, PlainNet}
use Rattle.cx_net.specs.NetTree.{no_net_component, net_component_at}
use Rattle.cx_holes.specs.Inlining.{inlined_component, inlined}
use Rattle.cx_static.specs.Lowering.{lowered_of}
use Rattle.cx_wiring.specs.Reached.{has_number, place_in, order}
use Rattle.cx_wiring.specs.Wiring.{net_of, kind_in, cell_in}
use Rattle.cx_wiring.specs.PartNets.{wired_in}
use Rattle.cx_wiring.proofs.FitNets.{size_among}
use Rattle.cx_wiring.proofs.MainLaws.{Tells}
use Rattle.cx_wiring.proofs.RowCounts.{primitive_nets}
use Rattle.cx_wiring.proofs.WayLemmas.{there, placed}
use Rattle.cx_vmods.specs.Modules.{port_of}
use Rattle.cx_emit.specs.Names.{numbered, input_name, output_name, module_name}
use Rattle.cx_emit.specs.Numbered.{numbered_from, with_numbers}
use Rattle.cx_emit.specs.Signatures.{input_port, output_port, signature_of, signature_at, kind_ports, cell_ports}
use Rattle.cx_emit.proofs.CellPorts.{length-signature}
use Rattle.cx_emitted.proofs.PrimitiveBytes.{port_name_few}
use Rattle.cx_emitted.proofs.ComponentBytes.{five, input_short, output_short, PortShort, CellShort}
use Rattle.cx_emitted.proofs.JoinBytes.{IsSigned, IsShown}

place_few : (k : ℕ) (ns : List ℕ) → place_in k ns ≤ length ns
place_few k [] = omega arith
place_few k (n ∷ rest) = by (nat_eq k n) (has_number k rest) (place_few k rest)
  where
    by : (same here : Bool) → place_in k rest ≤ length rest → (if same then 0 else (if here then suc (place_in k rest) else 0)) ≤ suc (length rest)
    by true here h = omega arith
    by false true h = omega arith
    by false false h = omega arith

-- what stands at the place of a number
pub place_at : (k : ℕ) (ns : List ℕ) → has_number k ns ≡ true → slice_get ns (place_in k ns) ≡ Some k
place_at k [] h = absurd (cc)
place_at k (n ∷ ns) h = by (eqb_tells k n) (place_at k ns) where
  by : Tells k n → (has_number k ns ≡ true → slice_get ns (place_in k ns) ≡ Some k) → slice_get (n ∷ ns) (place_in k (n ∷ ns)) ≡ Some k
  by (inl e) later = ap (λ b. slice_get (n ∷ ns) (if b then 0 else (if has_number k ns then suc (place_in k ns) else 0))) e.0 ∙ ap Some (sym e.1)
  by (inr e) later =
      let rest : has_number k ns ≡ true = ap (λ b. b || has_number k ns) (sym e.0) ∙ h in
      ap (λ b. slice_get (n ∷ ns) (if b then 0 else (if has_number k ns then suc (place_in k ns) else 0))) e.0
      ∙ ap (λ b. slice_get (n ∷ ns) (if b then suc (place_in k ns) else 0)) rest
      ∙ later rest

-- a signature of few ports has short names
each_numbered : {A : Type 0} (g : ℕ → A → PlainPort) (bound : ℕ) → ((m : ℕ) (x : A) → m < bound → PortShort (g m x)) → (n : ℕ) (xs : List A) → n + length xs ≤ bound → Each PortShort (numbered_from g n xs)
each_numbered g bound short n [] few = tt
each_numbered g bound short n (x ∷ xs) few =
    let less : n < bound = omega (arith, few) in
    let more : suc n + length xs ≤ bound = omega (arith, few) in
    (short n x less, each_numbered g bound short (suc n) xs more)

signature_short : (part : PlainNetComponent) → length part.inputs ≤ 10 ^ 5 → length part.outputs ≤ 10 ^ 5 → Each PortShort (signature_of part)
signature_short part ins outs =
    let few_ins : 0 + length part.inputs ≤ 10 ^ 5 = omega (arith, ins) in
    let few_outs : 0 + length part.outputs ≤ 10 ^ 5 = omega (arith, outs) in
    each_append PortShort ((record { output = false; name = codes "go"; width = 1 } ∷ with_numbers input_port part.inputs) ++ with_numbers output_port part.outputs) (record { output = true; name = codes "done"; width = 1 } ∷ [])
    (each_append PortShort (record { output = false; name = codes "go"; width = 1 } ∷ with_numbers input_port part.inputs) (with_numbers output_port part.outputs)
    (omega arith, each_numbered input_port (10 ^ 5) (λ m x less. let h : length (input_name m) ≤ 10 = input_short m less in omega (arith, h)) 0 part.inputs few_ins)
    (each_numbered output_port (10 ^ 5) (λ m x less. let h : length (output_name m) ≤ 11 = output_short m less in omega (arith, h)) 0 part.outputs few_outs))
    (omega arith, tt)

rows_short : (ps : List PortRow) → Each PortShort (map port_of ps)
rows_short [] = tt
rows_short (p ∷ ps) = (port_name_few p.name, rows_short ps)

module _ (d : PlainDesign) (rules : IsDesign d) (small : design_size d ≤ 16384) where
  abbrev pub places : List ℕ
  places = order (lowered_of d)

  abbrev pub holed : PlainNet
  holed = net_of (lowered_of d)

  abbrev pub net : PlainNet
  net = inlined holed

  pub sized : (k : ℕ) → k < length d.components → size_of (component_at d k) < 16384
  sized k within =
      let h : size_of (component_at d k) < design_size d = size_among d.components k (component_at d k) (slice_get-get_or d.components k no_component within) in
      omega (arith, h, small)

  -- what stands at the place of a component
  pub record Stands (j : ℕ) (o : Option PlainNetComponent) : Type 0 where
    pub none_or : (o ≡ None) ⊎ (o ≡ Some (inlined_component (wired_in d (component_at d j))))

  some_same : (a b : PlainNetComponent) → Some a ≡ Some b → a ≡ b
  some_same a b e = cc

  pub stands : (j : ℕ) → has_number j places ≡ true → Stands j (slice_get net.components (place_in j places))
  stands j here = by (slice_get holed.components (place_in j places)) refl
    where
      by : (o : Option PlainNetComponent) → slice_get holed.components (place_in j places) ≡ o → Stands j (slice_get net.components (place_in j places))
      by None e = record { none_or = inl (slice_get-map inlined_component holed.components (place_in j places) ∙ ap (option_map inlined_component) e) }
      by (Some x) e =
          let within = slice_get_within holed.components (place_in j places) x e in
          let same : x ≡ net_component_at holed (place_in j places) = some_same x (net_component_at holed (place_in j places)) (sym e ∙ slice_get-get_or holed.components (place_in j places) no_net_component within) in
          let is : x ≡ wired_in d (component_at d j) = same ∙ placed d rules j here in
          record { none_or = inr (slice_get-map inlined_component holed.components (place_in j places) ∙ ap (option_map inlined_component) e ∙ ap (λ (y : PlainNetComponent). Some (inlined_component y)) is) }

  pub signed : (j : ℕ) → has_number j places ≡ true → IsSigned d rules net places j
  signed j here =
      let long = length-signature (inlined_component (wired_in d (component_at d j))) in
      ⊎_elim
      (λ e. let none : length (signature_at (slice_get net.components (place_in j places))) ≡ 0 = ap (λ o. length (signature_at o)) e in omega (arith, none))
      (λ e. let some : length (signature_at (slice_get net.components (place_in j places))) ≡ length (signature_of (inlined_component (wired_in d (component_at d j)))) = ap (λ o. length (signature_at o)) e in omega (arith, some, long))
      (stands j here).none_or

  ports_short : (j : ℕ) → has_number j places ≡ true → Each PortShort (signature_at (slice_get net.components (place_in j places)))
  ports_short j here =
      let less : j < length d.components = there d rules j here in
      let size : size_of (component_at d j) < 16384 = sized j less in
      let ins : length (component_at d j).inputs ≤ 10 ^ 5 = omega (arith, size) in
      let outs : length (component_at d j).outputs ≤ 10 ^ 5 = omega (arith, size) in
      ⊎_elim
      (λ e. subst (λ o. Each PortShort (signature_at o)) (sym e) tt)
      (λ e. subst (λ o. Each PortShort (signature_at o)) (sym e) (signature_short (inlined_component (wired_in d (component_at d j))) ins outs))
      (stands j here).none_or

  pub module_short : (k : ℕ) → k < 10 ^ 5 → length (module_name net.main k) ≤ 15
  module_short k few = by (k == net.main)
    where
      by : (b : Bool) → length (if b then codes "main" else numbered (codes "m") k) ≤ 15
      by true = omega arith
      by false = let h : length (numbered (codes "m") k) ≤ 1 + 8 = five (codes "m") k few in omega (arith, h)

  -- CELLS
  kind_short : (kind : PlainKind) → ((j : ℕ) → kind ≡ OfComponent j → has_number j places ≡ true) → CellShort (kind_ports net (kind_in places kind))
  kind_short (OfPrimitive p) here =
      let nets = primitive_nets p in
      let long : length (map port_of (row_of p).ports) ≡ length (row_of p).ports = length-map (row_of p).ports port_of in
      record { few = omega (arith, nets, long); ports = rows_short (row_of p).ports }
  kind_short (OfComponent j) here =
      let sign = signed j (here j refl) in
      let size : size_of (component_at d j) < 16384 = sized j (there d rules j (here j refl)) in
      record { few = omega (arith, sign, size); ports = ports_short j (here j refl) }

  pub cells_short : (cells : List PlainCell) → ((cell : PlainCell) (j : ℕ) → In cells cell → cell.kind ≡ OfComponent j → has_number j places ≡ true) → Each CellShort (map (cell_ports net) (map (cell_in places) cells))
  cells_short [] here = tt
  cells_short (c ∷ cells) here = (kind_short c.kind (λ j is. here c j (inl refl) is), cells_short cells (λ cell j i is. here cell j (inr i) is))

  -- cells that stand there
  pub cells_shown : length places < 10 ^ 5 → (cells : List PlainCell) → ((cell : PlainCell) (j : ℕ) → In cells cell → cell.kind ≡ OfComponent j → has_number j places ≡ true)
      → ((cell : PlainCell) (p : PrimitiveRow) → In cells cell → cell.kind ≡ OfPrimitive p → HasRow p) → (cell : PlainCell) → In cells cell → IsShown d rules net places cell.kind
  cells_shown many cells here rows cell i = by cell.kind refl
    where
      by : (kind : PlainKind) → cell.kind ≡ kind → IsShown d rules net places kind
      by (OfPrimitive p) is = rows cell p i is
      by (OfComponent j) is =
          let place : place_in j places ≤ length places = place_few j places in
          (signed j (here cell j i is), module_short (place_in j places) (omega (arith, place, many)))
