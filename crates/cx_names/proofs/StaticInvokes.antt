-- A static invoke of a component's text is one that a design keeps.
use Rattle.std.proofs.Common.{◌≡◌, ℕ, zero, suc, ◌-◌, ◌<◌, Bool, true, false, ◌||◌, cond, is_some, nat_lt, List, [], ◌∷◌, ◌++◌, Option, Some, None, length, map, flat_map, option_map, slice_get, unwrap_or, codes, ◌⊎◌, inl, inr, ⊎_elim, refl, sym, ap, ◌∙◌, subst, arith, true≢false}
use Rattle.std.proofs.lemmas.Bool.{lt-ltb}
use Rattle.std.proofs.lemmas.List.{length-map}
use Rattle.std.proofs.lemmas.Option.{slice_get-map, slice_get_within}
use Rattle.cx_text.proofs.MemberLaws.{flat_in, in_at}
use Rattle.cx_text.specs.Members.{In}
use Rattle.cx_prim.specs.declared.names.PrimitiveName.{PrimitiveName}
use Rattle.cx_prim.specs.declared.names.PrimitiveName.TheVariants as primitives
use Rattle.cx_prim.specs.PortNames.{text_of}
use Rattle.cx_prim.specs.Rows.{Row}
use Rattle.cx_prim.specs.RegisterRow.{register_row}
use Rattle.cx_prim.specs.Widths.{is_width}
use Rattle.cx_prim.specs.Table.{PrimitiveRow, row_at, row_of, no_row, at_width}
use Rattle.cx_ast.specs.declared.operands.OperandForm.{OperandForm}
use Rattle.cx_ast.specs.declared.operands.OperandForm.TheVariants as operands
use Rattle.cx_ast.specs.declared.statements.BindItem.{BindItem}
use Rattle.cx_ast.specs.PlainTree as ast
use Rattle.cx_ast.specs.PlainTree.{PlainTree}
use Rattle.cx_meaning.specs.declared.ports.PortRef.TheVariants as ports
use Rattle.cx_meaning.specs.Designs.{PlainAssign, PlainInvoke, PlainCell, PlainKind, OfPrimitive, OfComponent, PlainComponent, PlainDesign, component_at}
use Rattle.cx_meaning.specs.Instances.{Instance, At, OfRow, OfInstance, cell_at, cells_of, part_of, add_cell, cells_for, tree_within, input_count}
use Rattle.cx_meaning.specs.Sights.{PartPort, AnInput, output_port, part_port}
use Rattle.cx_meaning.proofs.DesignsLemmas.{same_part}
use Rattle.cx_rules.specs.Ports.{component_of as instance_of, is_instance}
use Rattle.cx_rules.specs.CallShape.{IsInput, is_register, is_register_cell}
use Rattle.cx_rules.specs.InvokeShape.{latency_at}
use Rattle.cx_rules.specs.Wellformed.{IsBind, IsCapture}
use Rattle.cx_rules.specs.Wellformed as wellformed
use Rattle.cx_numbering.specs.Names.{same_name, later, number_of, is_among, signature_ports, port_names, component_names, cell_names, cell_among, component_among, primitive_of, CellOf, Neither, APrimitive, AComponent, cell_of, cell_port_names, found_cell_ports, latency_of, found_latency, cell_go, is_external}
use Rattle.cx_numbering.specs.DesignOf.{Invoke, number_or_0, cell_port, port_of, register_of, input_assign, static_capture, kind_or, decl_of, plain_cell_of, component_of, design_of}
use Rattle.cx_numbering.specs.NameRules.{named, bind_names, is_reg, is_go_name, found_reg, is_register_in, kind_breaks, input_breaks, output_names}
use Rattle.cx_names_scopes.proofs.NameLemmas.{number_within, is_among-append}
use Rattle.cx_numbering.proofs.NamesLemmas.{is_among-cons, same_name-true}
use Rattle.cx_names.proofs.Base.{Distinct, distinct_from, apart, map_map}
use Rattle.cx_names.proofs.NumberLemmas.{there, or_0, number_at, cell_found, part_found}
use Rattle.cx_names.proofs.There.{of_component, component_is, part_is, source_there, cell_port_there}
use Rattle.cx_names.proofs.Circles.{KeptCell}
use Rattle.cx_names.proofs.InvokeLemmas.{KeptInvoke, row_kept, input_named, input_only, input_source, output_register}
use Rattle.cx_text.proofs.BoolLaws.{and_both, or_either}
use Rattle.cx_meaning.proofs.InstancesLemmas.{at_kind, at_cell, at_number}

-- WHAT STANDS AT A CELL is told by what the cell is of
pub kind_told : {A : Type 0} (f : At → A) (g : PlainKind → A) (d : PlainDesign) (n : ℕ) → ((p : PrimitiveRow) → f (OfRow (row_of p)) ≡ g (OfPrimitive p)) → ((j : ℕ) → f (OfInstance (tree_within d n j)) ≡ g (OfComponent j))
    → (cells : List PlainCell) (c : ℕ) (cell : PlainCell) → slice_get cells c ≡ Some cell → f (cell_at (cells_for (tree_within d n) cells) c) ≡ g cell.kind
kind_told f g d n rows parts cells c cell h = ap f (at_number (tree_within d n) cells c ∙ ap (at_cell (tree_within d n)) h) ∙ by cell.kind
  where
    by : (kind : PlainKind) → f (at_kind (tree_within d n) kind) ≡ g kind
    by (OfPrimitive p) = rows p
    by (OfComponent j) = parts j

abbrev kind_latency : PlainDesign → PlainKind → Option ℕ
kind_latency d (OfPrimitive p) = None
kind_latency d (OfComponent j) = (component_at d j).latency

abbrev kind_inputs : PlainDesign → PlainKind → ℕ
kind_inputs d (OfPrimitive p) = 0
kind_inputs d (OfComponent j) = length (component_at d j).inputs

abbrev is_component_kind : PlainKind → Bool
is_component_kind (OfPrimitive p) = false
is_component_kind (OfComponent j) = true

-- NUMBERS of names in a list before others
number_before : (name : List ℕ) (front back : List (List ℕ)) → is_among name back ≡ false → number_of name (front ++ back) ≡ number_of name front
number_before name [] back h = none (number_of name back) h
  where
    none : (o : Option ℕ) → is_some o ≡ false → o ≡ None
    none None h = refl
    none (Some n) h = absurd (true≢false h)
number_before name (x ∷ front) back h = ap (λ o. cond (same_name x name) (Some 0) (later o)) (number_before name front back h)

either_right : (a c : Bool) → a ≡ false → (a || c) ≡ true → c ≡ true
either_right a c f h = ⊎_elim (λ l. absurd (true≢false (sym l ∙ f))) (λ r. r) (or_either a c h)

either_left : (a c : Bool) → c ≡ false → (a || c) ≡ true → a ≡ true
either_left a c f h = ⊎_elim (λ l. l) (λ r. absurd (true≢false (sym r ∙ f))) (or_either a c h)

-- a port of a component's cell that is neither its go nor an output is the input of its number, one behind the go
record InputNumber (comp : ast.PlainComponent) (name : List ℕ) : Type 0 where
  input : ℕ
  few : input < length (port_names comp.inputs)
  number : number_of name (cell_port_names (AComponent comp)) ≡ Some (suc input)

input_number : (comp : ast.PlainComponent) (name : List ℕ) → same_name (codes "go") name ≡ false → is_among name (cell_port_names (AComponent comp)) ≡ true → is_among name (port_names comp.outputs ++ (codes "done" ∷ [])) ≡ false
    → InputNumber comp name
input_number comp name go among outer =
    let rest = port_names comp.outputs ++ (codes "done" ∷ []) in
    let inner = either_right (same_name (codes "go") name) (is_among name (port_names comp.inputs ++ rest)) go (sym (is_among-cons name (codes "go") (port_names comp.inputs ++ rest)) ∙ among) in
    let first = either_left (is_among name (port_names comp.inputs)) (is_among name rest) outer (sym (is_among-append name (port_names comp.inputs) rest) ∙ inner) in
    let place = there name (port_names comp.inputs) first in
    record {
      input = place.0;
      few = number_within name (port_names comp.inputs) place.0 place.1;
      number = ap (λ t. cond t (Some 0) (later (number_of name (port_names comp.inputs ++ rest)))) go ∙ ap later (number_before name (port_names comp.inputs) rest outer ∙ place.1);
    }

input_placed : (part : PlainComponent) (port n : ℕ) → port ≡ suc n → n < length part.inputs → part_port part port ≡ AnInput n
input_placed part port n e few =
    ap (part_port part) e ∙ ap (λ t. cond t (AnInput n) (output_port (length part.outputs) (n - length part.inputs))) (lt-ltb n (length part.inputs) few)

-- the ports in and write_en of a register are the first two
abbrev HasInFirst : Row → Type 0
HasInFirst row = (number_or_0 (codes "in") (map (λ port. text_of port.name) row.ports) ≡ 0) × (number_or_0 (codes "write_en") (map (λ port. text_of port.name) row.ports) ≡ 1)

register_first : (numbers : List ℕ) → is_some (at_width register_row numbers) ≡ true → HasInFirst (unwrap_or (at_width register_row numbers) no_row)
register_first [] h = absurd cc
register_first (w ∷ []) h = by (is_width w) h
  where
    by : (b : Bool) → is_some (cond b (Some (register_row w)) None) ≡ true → HasInFirst (unwrap_or (cond b (Some (register_row w)) None) no_row)
    by true h = (refl, refl)
    by false h = absurd cc
register_first (w ∷ v ∷ rest) h = absurd cc

row_first : (p : PrimitiveRow) → p.name ≡ primitives.Reg → is_some (row_at p.name p.numbers) ≡ true → HasInFirst (row_of p)
row_first p name h =
    let whole : p ≡ record { name = primitives.Reg; numbers = p.numbers } = ap (λ n. record { name = n; numbers = p.numbers }) name in
    subst (λ q. HasInFirst (row_of q)) (sym whole) (register_first p.numbers (subst (λ n. is_some (row_at n p.numbers) ≡ true) name h))

reg_name : (tree : PlainTree) (part : ast.PlainComponent) (n : PrimitiveName) (numbers : List ℕ) → is_reg tree part (APrimitive (record { name = n; numbers = numbers })) ≡ true → n ≡ primitives.Reg
reg_name tree part primitives.Reg numbers r = refl
reg_name tree part _ numbers r = absurd cc

-- the component of a cell
pub component_numbered : (tree : PlainTree) (found : ast.PlainCell) (comp : ast.PlainComponent) → cell_of tree found ≡ AComponent comp → component_at (design_of tree) (number_or_0 comp.name (component_names tree)) ≡ component_of tree comp
component_numbered tree found comp e =
    let place = part_found found.kind tree.components comp (of_component (primitive_of found.kind) found.numbers (component_among found.kind tree.components) comp e) in
    ap (component_at (design_of tree)) (or_0 comp.name (component_names tree) place.number place.is) ∙ component_is tree place.number comp place.at

module _ (tree : PlainTree) (k : ℕ) (part : ast.PlainComponent) (at : slice_get tree.components k ≡ Some part) where
  abbrev here : Instance
  here = instance_of (design_of tree) k

  told : {A : Type 0} (f : At → A) (g : PlainKind → A) → ((p : PrimitiveRow) → f (OfRow (row_of p)) ≡ g (OfPrimitive p)) → ((n j : ℕ) → f (OfInstance (tree_within (design_of tree) n j)) ≡ g (OfComponent j))
      → (name : List ℕ) (found : ast.PlainCell) → cell_among name part.cells ≡ Some found → f (cell_at (cells_of here) (number_or_0 name (cell_names part))) ≡ g (kind_or tree part (cell_of tree found))
  told f g rows parts name found e =
      let place = cell_found name part.cells found e in
      let number : number_or_0 name (cell_names part) ≡ place.number = or_0 name (cell_names part) place.number place.is in
      let stands : slice_get (component_of tree part).cells place.number ≡ Some (plain_cell_of tree part found) = slice_get-map (plain_cell_of tree part) part.cells place.number ∙ ap (λ o. option_map (plain_cell_of tree part) o) place.at in
      let within : k < length tree.components = slice_get_within tree.components k part at in
      let as_many : length (design_of tree).components ≡ length tree.components = length-map tree.components (component_of tree) in
      ap (λ c. f (cell_at (cells_of here) c)) number ∙ levels (length (design_of tree).components) (omega (arith, within, as_many)) place.number (ap (λ p. slice_get p.cells place.number) (component_is tree k part at) ∙ stands)
    where
      levels : (m : ℕ) → 0 < m → (c : ℕ) → slice_get (component_at (design_of tree) k).cells c ≡ Some (plain_cell_of tree part found) → f (cell_at (cells_of (tree_within (design_of tree) m k)) c) ≡ g (kind_or tree part (cell_of tree found))
      levels zero few c h = absurd (omega (arith, few))
      levels (suc n) few c h = kind_told f g (design_of tree) n rows (parts n) (component_at (design_of tree) k).cells c (plain_cell_of tree part found) h

  -- LATENCY
  pub latency_told : (name : List ℕ) (found : ast.PlainCell) → cell_among name part.cells ≡ Some found → (cell_breaks_none : kind_breaks tree part found (cell_of tree found) ≡ [])
      → found_latency tree (cell_among name part.cells) ≡ latency_at (cell_at (cells_of here) (number_or_0 name (cell_names part)))
  latency_told name found e kept =
      ap (found_latency tree) e ∙ by (cell_of tree found) refl kept
      ∙ sym (told latency_at (kind_latency (design_of tree)) (λ p. refl) (λ n j. ap (λ (q : PlainComponent). q.latency) (same_part (design_of tree) n j)) name found e)
    where
      by : (of : CellOf) → cell_of tree found ≡ of → kind_breaks tree part found of ≡ [] → latency_of of ≡ kind_latency (design_of tree) (kind_or tree part of)
      by Neither f h = absurd cc
      by (APrimitive p) f h = refl
      by (AComponent comp) f h = sym (ap (λ (q : PlainComponent). q.latency) (component_numbered tree found comp f))

  -- A BOUND INPUT
  module _ (v : Invoke) (own : KeptInvoke tree part v) where
    bound_input : (b : BindItem) → In v.inputs b → (child : Instance) → cell_at (cells_of here) (number_or_0 v.cell (cell_names part)) ≡ OfInstance child
        → IsInput child (number_or_0 b.name (found_cell_ports tree (cell_among v.cell part.cells)))
    bound_input b i child stands = by (cell_of tree own.found) refl
      where
        is_part : is_component_kind (kind_or tree part (cell_of tree own.found)) ≡ true
        is_part = sym (told is_instance is_component_kind (λ p. refl) (λ n j. refl) v.cell own.found own.is) ∙ ap is_instance stands

        many : length (part_of child).inputs ≡ kind_inputs (design_of tree) (kind_or tree part (cell_of tree own.found))
        many =
            ap input_count (sym stands)
            ∙ told input_count (kind_inputs (design_of tree)) (λ p. refl) (λ n j. ap (λ (q : PlainComponent). length q.inputs) (same_part (design_of tree) n j)) v.cell own.found own.is

        only : (is_among b.name (output_names tree part (cell_of tree own.found)) ≡ false) × (is_go_name tree part (cell_go (cell_of tree own.found)) b.name ≡ false)
        only = input_only tree part v.cell (cell_of tree own.found) b (own.inputs b i)

        among : is_among b.name (cell_port_names (cell_of tree own.found)) ≡ true
        among = sym (ap (λ o. is_among b.name (found_cell_ports tree o)) own.is) ∙ input_named tree part v.cell (cell_of tree own.found) b (own.inputs b i)

        by : (of : CellOf) → cell_of tree own.found ≡ of → IsInput child (number_or_0 b.name (found_cell_ports tree (cell_among v.cell part.cells)))
        by Neither e = absurd (true≢false (sym among ∙ ap (λ o. is_among b.name (cell_port_names o)) e))
        by (APrimitive p) e = absurd (true≢false (sym is_part ∙ ap (λ o. is_component_kind (kind_or tree part o)) e))
        by (AComponent comp) e =
            (let found = input_number comp b.name (ap (λ o. is_go_name tree part (cell_go o) b.name) (sym e) ∙ only.1) (ap (λ o. is_among b.name (cell_port_names o)) (sym e) ∙ among) (ap (λ o. is_among b.name (output_names tree part o)) (sym e) ∙ only.0) in
            let count : length (port_names comp.inputs) ≡ length (component_of tree comp).inputs = length-map (signature_ports comp.inputs) (λ q. q.name) ∙ sym (length-map (signature_ports comp.inputs) (decl_of tree comp)) in
            let part_many : length (part_of child).inputs ≡ length (component_of tree comp).inputs = many ∙ ap (λ o. kind_inputs (design_of tree) (kind_or tree part o)) e ∙ ap (λ (q : PlainComponent). length q.inputs) (component_numbered tree own.found comp e) in
            let few = found.few in
            let port : number_or_0 b.name (found_cell_ports tree (cell_among v.cell part.cells)) ≡ suc found.input =
            ap (λ o. number_or_0 b.name (found_cell_ports tree o)) own.is ∙ ap (λ o. number_or_0 b.name (cell_port_names o)) e ∙ or_0 b.name (cell_port_names (AComponent comp)) (suc found.input) found.number in
            (found.input, input_placed (part_of child) _ found.input port (omega (arith, few, count, part_many))))

    pub bind_is : (b : BindItem) → In v.inputs b → IsBind here (number_or_0 v.cell (cell_names part)) (input_assign tree part v b)
    bind_is b i =
        let source = source_there tree k part at b.value (input_source tree part v.cell (cell_of tree own.found) b (own.inputs b i)) in
        record {
          port = number_or_0 b.name (found_cell_ports tree (cell_among v.cell part.cells));
          target = refl;
          there = cell_port_there tree k part at v.cell b.name (input_named tree part v.cell (cell_of tree own.found) b (own.inputs b i));
          input = bound_input b i;
          no_guard = refl;
          source = source.there;
          no_hole = source.no_hole;
        }

    -- two binds of one target are one
    same_port_name : (m n : List ℕ) → is_among m (found_cell_ports tree (cell_among v.cell part.cells)) ≡ true → is_among n (found_cell_ports tree (cell_among v.cell part.cells)) ≡ true
        → number_or_0 m (found_cell_ports tree (cell_among v.cell part.cells)) ≡ number_or_0 n (found_cell_ports tree (cell_among v.cell part.cells)) → m ≡ n
    same_port_name m n h g e =
        let names = found_cell_ports tree (cell_among v.cell part.cells) in
        let one = there m names h in
        let two = there n names g in
        let same : one.0 ≡ two.0 = sym (or_0 m names one.0 one.1) ∙ e ∙ or_0 n names two.0 two.1 in
        let both : Some m ≡ Some n = sym (number_at m names one.0 one.1) ∙ ap (slice_get names) same ∙ number_at n names two.0 two.1 in
        cc

    bind_at : (m : ℕ) (a : PlainAssign) → slice_get (map (input_assign tree part v) v.inputs) m ≡ Some a → (b : BindItem) × (slice_get v.inputs m ≡ Some b) × (input_assign tree part v b ≡ a)
    bind_at m a h = by (slice_get v.inputs m) refl (sym (slice_get-map (input_assign tree part v) v.inputs m) ∙ h)
      where
        by : (o : Option BindItem) → slice_get v.inputs m ≡ o → option_map (input_assign tree part v) o ≡ Some a → (b : BindItem) × (slice_get v.inputs m ≡ Some b) × (input_assign tree part v b ≡ a)
        by None e h = absurd cc
        by (Some b) e h = let same : input_assign tree part v b ≡ a = cc in (b, e, same)

    one_port : {c p d q : ℕ} → ports.Cell c p ≡ ports.Cell d q → p ≡ q
    one_port e = cc

    pub bound_once : (m n : ℕ) (a b : PlainAssign) → slice_get (map (input_assign tree part v) v.inputs) m ≡ Some a → slice_get (map (input_assign tree part v) v.inputs) n ≡ Some b → a.target ≡ b.target → m ≡ n
    bound_once m n a b h g e =
        let one = bind_at m a h in
        let two = bind_at n b g in
        let named_one = input_named tree part v.cell (cell_of tree own.found) one.0 (own.inputs one.0 (in_at v.inputs m one.0 one.1)) in
        let named_two = input_named tree part v.cell (cell_of tree own.found) two.0 (own.inputs two.0 (in_at v.inputs n two.0 two.1)) in
        let port = one_port (ap (λ (x : PlainAssign). x.target) one.2 ∙ e ∙ sym (ap (λ (x : PlainAssign). x.target) two.2)) in
        let same : one.0.name ≡ two.0.name = same_port_name one.0.name two.0.name named_one named_two port in
        let distinct : Distinct (map (λ x. x.name) (bind_names v.inputs)) = (distinct_from [] (bind_names v.inputs) own.binds).1 in
        let names : map (λ x. x.name) (bind_names v.inputs) ≡ map (λ (x : BindItem). x.name) v.inputs = map_map (λ (x : BindItem). named x.name x.place) (λ x. x.name) v.inputs in
        apart (map (λ (x : BindItem). x.name) v.inputs) (subst Distinct names distinct) m n one.0.name
        (slice_get-map (λ (x : BindItem). x.name) v.inputs m ∙ ap (λ o. option_map (λ (x : BindItem). x.name) o) one.1)
        (slice_get-map (λ (x : BindItem). x.name) v.inputs n ∙ ap (λ o. option_map (λ (x : BindItem). x.name) o) two.1 ∙ ap Some (sym same))

    -- A CAPTURED OUTPUT
    module _ (kept : (cell : ast.PlainCell) → In part.cells cell → KeptCell tree part cell) where
      record Takes (b : BindItem) : Type 0 where
        register : List ℕ
        named_so : register_of tree part b ≡ register
        target : port_of tree part b.value.form ≡ ports.Cell (number_or_0 register (cell_names part)) 0
        enable : cell_port tree part register (codes "write_en") ≡ ports.Cell (number_or_0 register (cell_names part)) 1
        is : is_register (component_of tree part) (number_or_0 register (cell_names part)) ≡ true

      found_takes : (b : BindItem) (cell port : List ℕ) → b.value.form ≡ operands.Port cell port → port ≡ codes "in" → (c : ast.PlainCell) → cell_among cell part.cells ≡ Some c → is_reg tree part (cell_of tree c) ≡ true → Takes b
      found_takes b cell port form first c e r = let place = cell_found cell part.cells c e in by (cell_of tree c) refl r (kept c (in_at part.cells place.number c place.at)).kind
        where
          by : (of : CellOf) → cell_of tree c ≡ of → is_reg tree part of ≡ true → kind_breaks tree part c of ≡ [] → Takes b
          by Neither f r h = absurd (true≢false (sym r))
          by (AComponent comp) f r h = absurd (true≢false (sym r))
          by (APrimitive p) f r h =
              (let place = cell_found cell part.cells c e in
              let name = reg_name tree part p.name p.numbers r in
              let row = row_first p name (row_kept tree part c p h) in
              let names : found_cell_ports tree (cell_among cell part.cells) ≡ cell_port_names (APrimitive p) = ap (λ o. found_cell_ports tree o) e ∙ ap cell_port_names f in
              let number : number_or_0 cell (cell_names part) ≡ place.number = or_0 cell (cell_names part) place.number place.is in
              let stands : slice_get (component_of tree part).cells place.number ≡ Some (plain_cell_of tree part c) = slice_get-map (plain_cell_of tree part) part.cells place.number ∙ ap (λ o. option_map (plain_cell_of tree part) o) place.at in
              record {
                register = cell;
                named_so = ap (λ o. register_of tree part (record { name = b.name; value = record { form = o; place = b.value.place }; place = b.place })) form;
                target = ap (port_of tree part) form ∙ ap (λ q. cell_port tree part cell q) first ∙ ap (λ ns. ports.Cell (number_or_0 cell (cell_names part)) (number_or_0 (codes "in") ns)) names ∙ ap (ports.Cell (number_or_0 cell (cell_names part))) row.0;
                enable = ap (λ ns. ports.Cell (number_or_0 cell (cell_names part)) (number_or_0 (codes "write_en") ns)) names ∙ ap (ports.Cell (number_or_0 cell (cell_names part))) row.1;
                is = ap (is_register (component_of tree part)) number ∙ ap is_register_cell stands ∙ ap (λ o. is_register_cell (Some (record { name = c.name; kind = kind_or tree part o; external = is_external c; place = c.place }))) f
                    ∙ ap (λ n. is_register_cell (Some (record { name = c.name; kind = OfPrimitive (record { name = n; numbers = p.numbers }); external = is_external c; place = c.place }))) name;
              })

      takes : (b : BindItem) → (form : OperandForm) → b.value.form ≡ form → is_register_in tree part form ≡ true → Takes b
      takes b (operands.Own name) e h = absurd (true≢false (sym h))
      takes b (operands.Hole group hole) e h = absurd (true≢false (sym h))
      takes b (operands.Literal width value) e h = absurd (true≢false (sym h))
      takes b (operands.Port cell port) e h =
          let parts = and_both (found_reg tree part (cell_among cell part.cells)) (same_name port (codes "in")) h in
          by (cell_among cell part.cells) refl parts.0 (same_name-true port (codes "in") parts.1)
        where
          by : (o : Option ast.PlainCell) → cell_among cell part.cells ≡ o → found_reg tree part o ≡ true → port ≡ codes "in" → Takes b
          by None f r first = absurd (true≢false (sym r))
          by (Some c) f r first = found_takes b cell port e first c f r

      pub capture_is : (a : PlainAssign) → In (flat_map (static_capture tree part v) v.outputs) a → IsCapture here (number_or_0 v.cell (cell_names part)) a
      capture_is a i =
          let found = flat_in (static_capture tree part v) v.outputs a i in
          let b = found.0 in
          own_capture b (takes b b.value.form refl (output_register tree part v.cell (cell_of tree own.found) b (own.outputs b found.1))) found.2
        where
          register_here : (r : ℕ) → is_register (component_of tree part) r ≡ true → is_register (part_of here) r ≡ true
          register_here r h = ap (λ q. is_register q r) (part_is tree k part at) ∙ h

          own_capture : (b : BindItem) (t : Takes b) → In (static_capture tree part v b) a → IsCapture here (number_or_0 v.cell (cell_names part)) a
          own_capture b t (inl e) =
              subst (IsCapture here (number_or_0 v.cell (cell_names part))) e
              (wellformed.takes (number_or_0 (t.register) (cell_names part)) (number_or_0 b.name (found_cell_ports tree (cell_among v.cell part.cells))) (register_here _ (t.is)) (t.target) refl refl)
          own_capture b t (inr (inl e)) =
              subst (IsCapture here (number_or_0 v.cell (cell_names part))) e
              (wellformed.enables (number_or_0 (t.register) (cell_names part)) (register_here _ (t.is)) (ap (λ c. cell_port tree part c (codes "write_en")) (t.named_so) ∙ t.enable) refl refl)
          own_capture b t (inr (inr n)) = absurd n
