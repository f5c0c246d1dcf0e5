-- The counts of modules are at most those of the net's tree.
use Rattle.std.proofs.Common.{◌≡◌, ℕ, suc, ◌+◌, ◌-◌, ◌^◌, ◌<◌, ◌≤◌, List, [], ◌∷◌, ◌++◌, length, map, Some, slice_get, refl, ap, sym, ◌∙◌, subst, arith}
use Rattle.std.specs.Prelude.{min}
use Rattle.std.proofs.lemmas.List.{length-map}
use Rattle.cx_text.specs.Members.{Each}
use Rattle.cx_vmods.specs.Modules.{port_of}
use Rattle.cx_meaning.specs.Designs.{PlainKind, OfPrimitive, OfComponent, PlainCell}
use Rattle.cx_prim.specs.Table.{row_of}
use Rattle.cx_vtree.specs.Plain.{PlainDecl, WireOf, RegisterOf, ArrayOf, PlainPort, PlainModule}
use Rattle.cx_vtree.specs.InstanceTree.{declared_nets}
use Rattle.cx_vtree.specs.Sound.{Counts, sum_counts, decl_counts, decls_counts, counts_named, instances_counts, module_counts}
use Rattle.cx_vlaws.specs.Counts.{declared_words}
use Rattle.cx_rules.specs.Sizes.{shape_words}
use Rattle.cx_net.specs.Nets.{PlainNetComponent, PlainNet}
use Rattle.cx_net.specs.NetTree.{net_component_at, add_net_cell, net_cells_for, net_part, net_within}
use Rattle.cx_net.specs.NetLimits.{nets_inside, signature_size, nets_below, nets_in, instances_below, instances_in, words_below, words_in}
use Rattle.cx_emit.specs.Numbered.{numbered_from, with_numbers, lists_from}
use Rattle.cx_emit.specs.Names.{cell_port_name, wire_name}
use Rattle.cx_emit.specs.Signatures.{signature_at, kind_ports, cell_ports}
use Rattle.cx_emit.specs.Sources.{port_decl, cell_decls, wire_decl, register_decl, decls_with, cell_instance, component_module}
use Rattle.cx_net.proofs.DriverLemmas.{part-within}
use Rattle.cx_emit.proofs.CellPorts.{length-signature}

-- at most so many
pub record AtMost (c : Counts) (nets instances words : ℕ) : Type 0 where
  pub few_nets : c.nets ≤ nets
  pub few_instances : c.instances ≤ instances
  pub few_words : c.words ≤ words

cap_less : (n m : ℕ) → n ≤ m → min n (2 ^ 64 - 1) ≤ m
cap_less n m h = omega (arith, h)

sum_most : (a b : Counts) (n i w n' i' w' : ℕ) → AtMost a n i w → AtMost b n' i' w' → AtMost (sum_counts a b) (n + n') (i + i') (w + w')
sum_most a b n i w n' i' w' h k =
    let hn = h.few_nets in let kn = k.few_nets in let hi = h.few_instances in let ki = k.few_instances in let hw = h.few_words in let kw = k.few_words in
    record {
      few_nets = cap_less (a.nets + b.nets) (n + n') (omega (arith, hn, kn));
      few_instances = cap_less (a.instances + b.instances) (i + i') (omega (arith, hi, ki));
      few_words = cap_less (a.words + b.words) (w + w') (omega (arith, hw, kw));
    }

pub most_more : (c : Counts) (n i w n' i' w' : ℕ) → n ≤ n' → i ≤ i' → w ≤ w' → AtMost c n i w → AtMost c n' i' w'
most_more c n i w n' i' w' en ei ew h =
    let hn = h.few_nets in let hi = h.few_instances in let hw = h.few_words in
    record { few_nets = omega (arith, hn, en); few_instances = omega (arith, hi, ei); few_words = omega (arith, hw, ew) }

-- declarations
pub decls_most : (sum : Counts) (ds : List PlainDecl) (n i w : ℕ) → AtMost sum n i w → AtMost (decls_counts sum ds) (n + length (declared_nets ds)) i (w + declared_words ds)
decls_most sum [] n i w h = most_more sum n i w (n + 0) i (w + 0) (omega arith) (omega arith) (omega arith) h
decls_most sum (WireOf x v ∷ ds) n i w h =
    let one : AtMost (sum_counts sum (decl_counts (WireOf x v))) (n + 1) (i + 0) (w + 0) = sum_most sum (decl_counts (WireOf x v)) n i w 1 0 0 h (record { few_nets = omega arith; few_instances = omega arith; few_words = omega arith }) in
    let rest = decls_most (sum_counts sum (decl_counts (WireOf x v))) ds (n + 1) (i + 0) (w + 0) one in
    most_more (decls_counts (sum_counts sum (decl_counts (WireOf x v))) ds) (n + 1 + length (declared_nets ds)) (i + 0) (w + 0 + declared_words ds) _ _ _ (omega arith) (omega arith) (omega arith) rest
decls_most sum (RegisterOf x v ∷ ds) n i w h =
    let one : AtMost (sum_counts sum (decl_counts (RegisterOf x v))) (n + 1) (i + 0) (w + 0) = sum_most sum (decl_counts (RegisterOf x v)) n i w 1 0 0 h (record { few_nets = omega arith; few_instances = omega arith; few_words = omega arith }) in
    let rest = decls_most (sum_counts sum (decl_counts (RegisterOf x v))) ds (n + 1) (i + 0) (w + 0) one in
    most_more (decls_counts (sum_counts sum (decl_counts (RegisterOf x v))) ds) (n + 1 + length (declared_nets ds)) (i + 0) (w + 0 + declared_words ds) _ _ _ (omega arith) (omega arith) (omega arith) rest
decls_most sum (ArrayOf x v k ∷ ds) n i w h =
    let one : AtMost (sum_counts sum (decl_counts (ArrayOf x v k))) (n + 0) (i + 0) (w + k) = sum_most sum (decl_counts (ArrayOf x v k)) n i w 0 0 k h (record { few_nets = omega arith; few_instances = omega arith; few_words = omega arith }) in
    let rest = decls_most (sum_counts sum (decl_counts (ArrayOf x v k))) ds (n + 0) (i + 0) (w + k) one in
    most_more (decls_counts (sum_counts sum (decl_counts (ArrayOf x v k))) ds) (n + 0 + length (declared_nets ds)) (i + 0) (w + k + declared_words ds) _ _ _ (omega arith) (omega arith) (omega arith) rest

-- a module without instances
pub alone_most : (before : List PlainModule) (counts : List Counts) (m : PlainModule) → m.instances ≡ [] → AtMost (module_counts before counts m) (length m.ports + length (declared_nets m.decls)) 1 (declared_words m.decls)
alone_most before counts m none =
    let sum : Counts = decls_counts (record { nets = length m.ports; instances = 1; words = 0 }) m.decls in
    let most = decls_most (record { nets = length m.ports; instances = 1; words = 0 }) m.decls (length m.ports) 1 0 (record { few_nets = omega arith; few_instances = omega arith; few_words = omega arith }) in
    subst (λ is. AtMost (instances_counts before counts sum is) (length m.ports + length (declared_nets m.decls)) 1 (declared_words m.decls)) (sym none)
    (most_more sum (length m.ports + length (declared_nets m.decls)) 1 (0 + declared_words m.decls) _ _ _ (omega arith) (omega arith) (omega arith) most)

-- a primitive, or a component that is there
abbrev pub IsThereKind : PlainNet → PlainKind → Type 0
IsThereKind net (OfPrimitive p) = Unit {0}
IsThereKind net (OfComponent j) = j < length net.components

-- WHAT THE MODULE OF A KIND COUNTS, by the tree below it
module _ (net : PlainNet) where
  abbrev pub child_nets : ℕ → PlainKind → ℕ
  child_nets levels (OfPrimitive p) = 2 + length (row_of p).ports + nets_inside (row_of p).shape
  child_nets levels (OfComponent j) = nets_below (net_within net levels j)

  abbrev pub child_instances : ℕ → PlainKind → ℕ
  child_instances levels (OfPrimitive p) = 1
  child_instances levels (OfComponent j) = instances_below (net_within net levels j)

  abbrev pub child_words : ℕ → PlainKind → ℕ
  child_words levels (OfPrimitive p) = shape_words (row_of p).shape
  child_words levels (OfComponent j) = words_below (net_within net levels j)

  -- the wires around it
  abbrev pub child_ports : ℕ → PlainKind → ℕ
  child_ports levels (OfPrimitive p) = length (row_of p).ports
  child_ports levels (OfComponent j) = signature_size (net_part (net_within net levels j))

  -- over some cells
  abbrev pub all_ports : ℕ → List PlainCell → ℕ
  all_ports levels [] = 0
  all_ports levels (cell ∷ cells) = child_ports levels cell.kind + all_ports levels cells

  abbrev pub all_nets : ℕ → List PlainCell → ℕ
  all_nets levels [] = 0
  all_nets levels (cell ∷ cells) = child_nets levels cell.kind + all_nets levels cells

  abbrev pub all_instances : ℕ → List PlainCell → ℕ
  all_instances levels [] = 0
  all_instances levels (cell ∷ cells) = child_instances levels cell.kind + all_instances levels cells

  abbrev pub all_words : ℕ → List PlainCell → ℕ
  all_words levels [] = 0
  all_words levels (cell ∷ cells) = child_words levels cell.kind + all_words levels cells

  pub nets-in : (levels : ℕ) (cells : List PlainCell) → nets_in (net_cells_for (net_within net levels) cells) ≡ all_ports levels cells + all_nets levels cells
  nets-in levels [] = refl
  nets-in levels (cell ∷ cells) = let rest = nets-in levels cells in let first = go cell.kind in omega (arith, rest, first) where
    go : (kind : PlainKind) → nets_in (add_net_cell (net_within net levels) kind (net_cells_for (net_within net levels) cells)) ≡ child_ports levels kind + child_nets levels kind + nets_in (net_cells_for (net_within net levels) cells)
    go (OfPrimitive p) = refl
    go (OfComponent j) = refl

  instances-in : (levels : ℕ) (cells : List PlainCell) → instances_in (net_cells_for (net_within net levels) cells) ≡ all_instances levels cells
  instances-in levels [] = refl
  instances-in levels (cell ∷ cells) = go cell.kind ∙ ap (λ n. child_instances levels cell.kind + n) (instances-in levels cells) where
    go : (kind : PlainKind) → instances_in (add_net_cell (net_within net levels) kind (net_cells_for (net_within net levels) cells)) ≡ child_instances levels kind + instances_in (net_cells_for (net_within net levels) cells)
    go (OfPrimitive p) = refl
    go (OfComponent j) = refl

  words-in : (levels : ℕ) (cells : List PlainCell) → words_in (net_cells_for (net_within net levels) cells) ≡ all_words levels cells
  words-in levels [] = refl
  words-in levels (cell ∷ cells) = go cell.kind ∙ ap (λ n. child_words levels cell.kind + n) (words-in levels cells) where
    go : (kind : PlainKind) → words_in (add_net_cell (net_within net levels) kind (net_cells_for (net_within net levels) cells)) ≡ child_words levels kind + words_in (net_cells_for (net_within net levels) cells)
    go (OfPrimitive p) = refl
    go (OfComponent j) = refl

  -- DECLARATIONS of a component
  nets_declared : (xs ys : List PlainDecl) → length (declared_nets (xs ++ ys)) ≡ length (declared_nets xs) + length (declared_nets ys)
  nets_declared [] ys = omega arith
  nets_declared (WireOf x w ∷ xs) ys = let rest = nets_declared xs ys in omega (arith, rest)
  nets_declared (RegisterOf x w ∷ xs) ys = let rest = nets_declared xs ys in omega (arith, rest)
  nets_declared (ArrayOf x w k ∷ xs) ys = nets_declared xs ys

  words_declared : (xs ys : List PlainDecl) → declared_words (xs ++ ys) ≡ declared_words xs + declared_words ys
  words_declared [] ys = omega arith
  words_declared (WireOf x w ∷ xs) ys = words_declared xs ys
  words_declared (RegisterOf x w ∷ xs) ys = words_declared xs ys
  words_declared (ArrayOf x w k ∷ xs) ys = let rest = words_declared xs ys in omega (arith, rest)

  wires_declared : {A : Type 0} (f : ℕ → A → PlainDecl) (name : ℕ → A → List ℕ) (width : A → ℕ) → ((n : ℕ) (x : A) → f n x ≡ WireOf (name n x) (width x)) → (b : ℕ) (xs : List A)
      → (length (declared_nets (numbered_from f b xs)) ≡ length xs) × (declared_words (numbered_from f b xs) ≡ 0)
  wires_declared f name width is b [] = (refl, refl)
  wires_declared f name width is b (x ∷ xs) =
      let rest = wires_declared f name width is (suc b) xs in
      (ap (λ d. length (declared_nets (d ∷ numbered_from f (suc b) xs))) (is b x) ∙ ap suc rest.0, ap (λ d. declared_words (d ∷ numbered_from f (suc b) xs)) (is b x) ∙ rest.1)

  registers_declared : (b : ℕ) (ws : List ℕ) → (length (declared_nets (numbered_from register_decl b ws)) ≡ length ws) × (declared_words (numbered_from register_decl b ws) ≡ 0)
  registers_declared b [] = (refl, refl)
  registers_declared b (w ∷ ws) = let rest = registers_declared (suc b) ws in (ap suc rest.0, rest.1)

  module _ (there : (j : ℕ) → j < length net.components → slice_get net.components j ≡ Some (net_component_at net j)) where
    kind_ports_many : (levels : ℕ) (kind : PlainKind) → IsThereKind net kind → length (kind_ports net kind).ports ≡ child_ports levels kind
    kind_ports_many levels (OfPrimitive p) h = length-map (row_of p).ports port_of
    kind_ports_many levels (OfComponent j) lt =
        ap (λ o. length (signature_at o)) (there j lt) ∙ length-signature (net_component_at net j) ∙ ap signature_size (sym (part-within net levels j))

    cells_declared : (levels b : ℕ) (cells : List PlainCell) → Each (λ cell. IsThereKind net cell.kind) cells
        → (length (declared_nets (lists_from cell_decls b (map (cell_ports net) cells))) ≡ all_ports levels cells) × (declared_words (lists_from cell_decls b (map (cell_ports net) cells)) ≡ 0)
    cells_declared levels b [] each = (refl, refl)
    cells_declared levels b (cell ∷ cells) each =
        let own : List PlainDecl = cell_decls b (cell_ports net cell) in
        let others : List PlainDecl = lists_from cell_decls (suc b) (map (cell_ports net) cells) in
        let first = wires_declared (port_decl b) (λ n (x : PlainPort). cell_port_name b n) (λ (x : PlainPort). x.width) (λ n x. refl) 0 (cell_ports net cell).ports in
        let rest = cells_declared levels (suc b) cells each.1 in (
          nets_declared own others ∙ ap (λ n. n + length (declared_nets others)) (first.0 ∙ kind_ports_many levels cell.kind each.0) ∙ ap (λ n. child_ports levels cell.kind + n) rest.0,
          words_declared own others ∙ ap (λ n. n + declared_words others) first.1 ∙ ap (λ n. 0 + n) rest.1,
        )

    pub component_declared : (levels k : ℕ) → Each (λ cell. IsThereKind net cell.kind) (net_component_at net k).cells
        → (length (declared_nets (decls_with (net_component_at net k) (map (cell_ports net) (net_component_at net k).cells)))
        ≡ all_ports levels (net_component_at net k).cells + length (net_component_at net k).wires + length (net_component_at net k).registers)
        × (declared_words (decls_with (net_component_at net k) (map (cell_ports net) (net_component_at net k).cells)) ≡ 0)
    component_declared levels k each =
        let part : PlainNetComponent = net_component_at net k in
        let at_cells : List PlainDecl = lists_from cell_decls 0 (map (cell_ports net) part.cells) in
        let cells = cells_declared levels 0 part.cells each in
        let wires = wires_declared wire_decl (λ n w. wire_name n) (λ w. w) (λ n w. refl) 0 part.wires in
        let registers = registers_declared 0 part.registers in
        let front = nets_declared at_cells (with_numbers wire_decl part.wires) in
        let whole = nets_declared (at_cells ++ with_numbers wire_decl part.wires) (with_numbers register_decl part.registers) in
        let front_words = words_declared at_cells (with_numbers wire_decl part.wires) in
        let whole_words = words_declared (at_cells ++ with_numbers wire_decl part.wires) (with_numbers register_decl part.registers) in
        let c0 = cells.0 in let c1 = cells.1 in let w0 = wires.0 in let w1 = wires.1 in let r0 = registers.0 in let r1 = registers.1 in
        (omega (arith, c0, w0, r0, front, whole), omega (arith, c1, w1, r1, front_words, whole_words))

    -- INSTANCES of a component
    module _ (before : List PlainModule) (counts : List Counts) (levels : ℕ) where
      abbrev pub IsCounted : PlainCell → Type 0
      IsCounted cell = AtMost (counts_named before counts (cell_ports net cell).kind) (child_nets levels cell.kind) (child_instances levels cell.kind) (child_words levels cell.kind)

      instances_most : (b : ℕ) (cells : List PlainCell) (sum : Counts) (n i w : ℕ) → Each IsCounted cells → AtMost sum n i w
          → AtMost (instances_counts before counts sum (numbered_from cell_instance b (map (cell_ports net) cells))) (n + all_nets levels cells) (i + all_instances levels cells) (w + all_words levels cells)
      instances_most b [] sum n i w each h = most_more sum n i w (n + 0) (i + 0) (w + 0) (omega arith) (omega arith) (omega arith) h
      instances_most b (cell ∷ cells) sum n i w each h =
          let one = sum_most sum (counts_named before counts (cell_ports net cell).kind) n i w (child_nets levels cell.kind) (child_instances levels cell.kind) (child_words levels cell.kind) h each.0 in
          let rest = instances_most (suc b) cells (sum_counts sum (counts_named before counts (cell_ports net cell).kind)) (n + child_nets levels cell.kind) (i + child_instances levels cell.kind) (w + child_words levels cell.kind)
          each.1 one in
          most_more _ (n + child_nets levels cell.kind + all_nets levels cells) (i + child_instances levels cell.kind + all_instances levels cells) (w + child_words levels cell.kind + all_words levels cells) _ _ _
          (omega arith) (omega arith) (omega arith) rest

      -- THE COUNTS of a component's module
      pub component_most : (k : ℕ) → Each (λ cell. IsThereKind net cell.kind) (net_component_at net k).cells → Each IsCounted (net_component_at net k).cells
          → AtMost (module_counts before counts (component_module net k (net_component_at net k))) (nets_below (net_within net (suc levels) k)) (instances_below (net_within net (suc levels) k)) (words_below (net_within net (suc levels) k))
      component_most k are_there each =
          let part : PlainNetComponent = net_component_at net k in
          let m : PlainModule = component_module net k part in
          let start : Counts = record { nets = length m.ports; instances = 1; words = 0 } in
          let declared = component_declared levels k are_there in
          let d0 = declared.0 in let d1 = declared.1 in
          let sum = decls_most start m.decls (length m.ports) 1 0 (record { few_nets = omega arith; few_instances = omega arith; few_words = omega arith }) in
          let all = instances_most 0 part.cells (decls_counts start m.decls) (length m.ports + length (declared_nets m.decls)) 1 (0 + declared_words m.decls) each sum in
          let long = length-signature part in
          let nets = nets-in levels part.cells in
          let instances = instances-in levels part.cells in
          let words = words-in levels part.cells in
          most_more (module_counts before counts m) (length m.ports + length (declared_nets m.decls) + all_nets levels part.cells) (1 + all_instances levels part.cells) (0 + declared_words m.decls + all_words levels part.cells) _ _ _
          (omega (arith, d0, long, nets)) (omega (arith, instances)) (omega (arith, d1, words)) all
