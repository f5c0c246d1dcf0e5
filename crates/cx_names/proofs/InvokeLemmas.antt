-- The groups of invokes keep what a design keeps.
use Rattle.std.proofs.Common.{◌≡◌, ℕ, true, false, ◌||◌, ◌&&◌, is_some, is_none, List, [], ◌∷◌, ◌++◌, Option, Some, None, flat_map, codes, ⊎_elim, refl, sym, ap, ◌∙◌, subst, true≢false}
use Rattle.cx_text.proofs.MemberLaws.{in_at}
use Rattle.cx_prim.specs.declared.names.PrimitiveName.{PrimitiveName}
use Rattle.cx_prim.specs.declared.names.PrimitiveName.TheVariants as primitives
use Rattle.cx_prim.specs.Table.{PrimitiveRow, row_at}
use Rattle.cx_ast.specs.declared.operands.OperandForm.{OperandForm}
use Rattle.cx_ast.specs.declared.operands.OperandForm.TheVariants as operands
use Rattle.cx_ast.specs.declared.statements.BindItem.{BindItem}
use Rattle.cx_ast.specs.PlainTree as ast
use Rattle.cx_ast.specs.PlainTree.{PlainTree}
use Rattle.cx_text.specs.Members.{In}
use Rattle.cx_numbering.specs.Names.{same_name, is_among, port_names, cell_among, CellOf, Neither, APrimitive, AComponent, cell_of, cell_port_names, found_cell_ports, cell_go}
use Rattle.cx_numbering.specs.DesignOf.{Invoke}
use Rattle.cx_numbering.specs.NameRules.{duplicates, bind_names, source_breaks, unknown, is_clock, is_static_end, is_component, found_component, is_unknown, is_reg, found_reg, is_register_in, kind_breaks, input_breaks, output_breaks, output_names, is_go_name, invoke_on, form_breaks}
use Rattle.cx_ast.specs.PlainStatements as statements
use Rattle.cx_names_scopes.proofs.NameLemmas.{is_among-append}
use Rattle.cx_numbering.proofs.NamesLemmas.{is_among-cons}
use Rattle.cx_names.proofs.Base.{append_none, flat_none, tell_none}
use Rattle.cx_names.proofs.NumberLemmas.{cell_found}
use Rattle.cx_names.proofs.Rows.{go_there, register_ports}
use Rattle.cx_names.proofs.Circles.{KeptCell}
use Rattle.std.proofs.lemmas.Bool.{or_right, or_parts}
use Rattle.cx_text.proofs.BoolLaws.{and_both, or_either, not_not}

from_none : {A : Type 0} (o : Option A) → is_none o ≡ false → is_some o ≡ true
from_none None h = absurd (true≢false h)
from_none (Some x) h = refl

-- the go and the done of a component's cell
done_of_component : (part : ast.PlainComponent) → is_among (codes "done") (cell_port_names (AComponent part)) ≡ true
done_of_component part =
    is_among-cons (codes "done") (codes "go") (port_names part.inputs ++ (port_names part.outputs ++ (codes "done" ∷ [])))
    ∙ is_among-append (codes "done") (port_names part.inputs) (port_names part.outputs ++ (codes "done" ∷ []))
    ∙ or_right (is_among (codes "done") (port_names part.inputs)) _ (is_among-append (codes "done") (port_names part.outputs) (codes "done" ∷ []) ∙ or_right (is_among (codes "done") (port_names part.outputs)) true refl)

-- an output of a component's cell is among its ports
output_of_component : (n : List ℕ) (part : ast.PlainComponent) → is_among n (port_names part.outputs ++ (codes "done" ∷ [])) ≡ true → is_among n (cell_port_names (AComponent part)) ≡ true
output_of_component n part h =
    is_among-cons n (codes "go") (port_names part.inputs ++ (port_names part.outputs ++ (codes "done" ∷ [])))
    ∙ or_right _ (is_among n (port_names part.inputs ++ (port_names part.outputs ++ (codes "done" ∷ []))))
    (is_among-append n (port_names part.inputs) (port_names part.outputs ++ (codes "done" ∷ [])) ∙ or_right (is_among n (port_names part.inputs)) _ h)

-- what an invoke drives, and its done
pub record Started (of : CellOf) : Type 0 where
  pub go : List ℕ
  pub is : cell_go of ≡ Some go
  pub start : is_among go (cell_port_names of) ≡ true
  pub done : is_among (codes "done") (cell_port_names of) ≡ true

module _ (tree : PlainTree) (part : ast.PlainComponent) where
  pub row_kept : (cell : ast.PlainCell) (p : PrimitiveRow) → kind_breaks tree part cell (APrimitive p) ≡ [] → is_some (row_at p.name p.numbers) ≡ true
  row_kept cell p h = from_none (row_at p.name p.numbers) (tell_none _ _ _ _ h)

  pub started : (cell : ast.PlainCell) (of : CellOf) → kind_breaks tree part cell of ≡ [] → is_none (cell_go of) ≡ false → Started of
  started cell Neither h go = absurd (true≢false go)
  started cell (APrimitive p) h go = by (cell_go (APrimitive p)) refl go
    where
      by : (o : Option (List ℕ)) → cell_go (APrimitive p) ≡ o → is_none o ≡ false → Started (APrimitive p)
      by None e go = absurd (true≢false go)
      by (Some g) e go = let has = go_there p.name p.numbers g (row_kept cell p h) e in record { go = g; is = e; start = has.start; done = has.done }
  started cell (AComponent c) h go = record { go = codes "go"; is = refl; start = refl; done = done_of_component c }

  -- a register's cell
  register_is : (cell : ast.PlainCell) (of : CellOf) → kind_breaks tree part cell of ≡ [] → is_reg tree part of ≡ true
      → (is_among (codes "write_en") (cell_port_names of) ≡ true) × (is_among (codes "done") (cell_port_names of) ≡ true) × (is_component tree part of ≡ false)
  register_is cell Neither h r = absurd (true≢false (sym r))
  register_is cell (AComponent c) h r = absurd (true≢false (sym r))
  register_is cell (APrimitive p) h r =
      let row = row_kept cell p h in
      let name : p.name ≡ primitives.Reg = reg_name p.name r in
      let has = register_ports p.numbers (subst (λ n. is_some (row_at n p.numbers) ≡ true) name row) in
      let whole : p ≡ record { name = primitives.Reg; numbers = p.numbers } = ap (λ n. record { name = n; numbers = p.numbers }) name in
      (subst (λ q. is_among (codes "write_en") (cell_port_names (APrimitive q)) ≡ true) (sym whole) has.start, subst (λ q. is_among (codes "done") (cell_port_names (APrimitive q)) ≡ true) (sym whole) has.done, refl)
    where
      reg_name : (n : PrimitiveName) → is_reg tree part (APrimitive (record { name = n; numbers = p.numbers })) ≡ true → n ≡ primitives.Reg
      reg_name primitives.Reg r = refl
      reg_name _ r = absurd cc

  -- an output's register
  pub record Register (form : OperandForm) : Type 0 where
    pub cell : List ℕ
    pub port : List ℕ
    pub is : form ≡ operands.Port cell port
    pub start : is_among (codes "write_en") (found_cell_ports tree (cell_among cell part.cells)) ≡ true
    pub done : is_among (codes "done") (found_cell_ports tree (cell_among cell part.cells)) ≡ true
    pub no_clock : is_clock tree part cell port ≡ false

  pub register_of_form : ((cell : ast.PlainCell) → In part.cells cell → KeptCell tree part cell) → (form : OperandForm) → is_register_in tree part form ≡ true → Register form
  register_of_form kept (operands.Own name) h = absurd (true≢false (sym h))
  register_of_form kept (operands.Hole group hole) h = absurd (true≢false (sym h))
  register_of_form kept (operands.Literal width value) h = absurd (true≢false (sym h))
  register_of_form kept (operands.Port cell port) h = by (cell_among cell part.cells) refl (and_both (found_reg tree part (cell_among cell part.cells)) _ h).0
    where
      by : (o : Option ast.PlainCell) → cell_among cell part.cells ≡ o → found_reg tree part o ≡ true → Register (operands.Port cell port)
      by None e r = absurd (true≢false (sym r))
      by (Some c) e r =
          let found = cell_found cell part.cells c e in
          let is = register_is c (cell_of tree c) (kept c (in_at part.cells found.number c found.at)).kind r in
          record {
            cell = cell;
            port = port;
            is = refl;
            start = ap (λ o. is_among (codes "write_en") (found_cell_ports tree o)) e ∙ is.0;
            done = ap (λ o. is_among (codes "done") (found_cell_ports tree o)) e ∙ is.1;
            no_clock = ap (λ o. found_component tree part o && (same_name port (codes "clk") || same_name port (codes "reset"))) e ∙ ap (λ b. b && (same_name port (codes "clk") || same_name port (codes "reset"))) is.2;
          }

  -- what an invoke keeps
  pub record KeptInvoke (k : Invoke) : Type 0 where
    pub binds : duplicates [] (bind_names k.inputs) ≡ []
    pub found : ast.PlainCell
    pub is : cell_among k.cell part.cells ≡ Some found
    pub go : is_none (cell_go (cell_of tree found)) ≡ false
    pub inputs : (b : BindItem) → In k.inputs b → input_breaks tree part k.cell (cell_of tree found) b ≡ []
    pub outputs : (b : BindItem) → In k.outputs b → output_breaks tree part k.cell (cell_of tree found) b ≡ []

  pub kept_invoke : (k : Invoke) → form_breaks tree part (statements.Invoke k.cell k.inputs k.outputs) k.place ≡ [] → KeptInvoke k
  kept_invoke k h =
      let parts = append_none _ (invoke_on tree part k.cell k.inputs k.outputs k.place (cell_among k.cell part.cells)) h in
      by (cell_among k.cell part.cells) refl (append_none (duplicates [] (bind_names k.inputs)) (duplicates [] (bind_names k.outputs)) parts.0).0 parts.1
    where
      by : (o : Option ast.PlainCell) → cell_among k.cell part.cells ≡ o → duplicates [] (bind_names k.inputs) ≡ [] → invoke_on tree part k.cell k.inputs k.outputs k.place o ≡ [] → KeptInvoke k
      by None e apart h = absurd cc
      by (Some found) e apart h =
          let two = append_none _ (flat_map (output_breaks tree part k.cell (cell_of tree found)) k.outputs) h in
          let one = append_none _ (flat_map (input_breaks tree part k.cell (cell_of tree found)) k.inputs) two.0 in
          record {
            binds = apart;
            found = found;
            is = e;
            go = tell_none _ _ _ _ one.0;
            inputs = λ b i. flat_none (input_breaks tree part k.cell (cell_of tree found)) k.inputs one.1 b i;
            outputs = λ b i. flat_none (output_breaks tree part k.cell (cell_of tree found)) k.outputs two.1 b i;
          }

  -- an input's name is that of a port, and so is an output's
  pub input_named : (cell : List ℕ) (of : CellOf) (b : BindItem) → input_breaks tree part cell of b ≡ [] → is_among b.name (found_cell_ports tree (cell_among cell part.cells)) ≡ true
  input_named cell of b h =
      let two = append_none _ (source_breaks tree part b.value) h in
      let one = append_none _ _ two.0 in
      let clock = (or_parts _ (is_clock tree part cell b.name) (tell_none _ _ _ _ one.1)).1 in
      ⊎_elim (λ i. i) (λ c. absurd (true≢false (sym c ∙ clock))) (or_either (is_among b.name (found_cell_ports tree (cell_among cell part.cells))) (is_clock tree part cell b.name) (not_not _ (tell_none _ _ _ _ one.0)))

  -- and it is neither an output nor a go
  pub input_only : (cell : List ℕ) (of : CellOf) (b : BindItem) → input_breaks tree part cell of b ≡ [] → (is_among b.name (output_names tree part of) ≡ false) × (is_go_name tree part (cell_go of) b.name ≡ false)
  input_only cell of b h =
      let two = append_none _ (source_breaks tree part b.value) h in
      let one = append_none _ _ two.0 in
      or_parts (is_among b.name (output_names tree part of)) _ (or_parts _ (is_clock tree part cell b.name) (tell_none _ _ _ _ one.1)).0

  pub input_source : (cell : List ℕ) (of : CellOf) (b : BindItem) → input_breaks tree part cell of b ≡ [] → source_breaks tree part b.value ≡ []
  input_source cell of b h = (append_none _ (source_breaks tree part b.value) h).1

  pub output_named : (cell : List ℕ) (found : ast.PlainCell) (b : BindItem) → cell_among cell part.cells ≡ Some found → output_breaks tree part cell (cell_of tree found) b ≡ [] → is_among b.name (found_cell_ports tree (cell_among cell part.cells)) ≡ true
  output_named cell found b e h =
      let three = append_none _ _ h in
      let two = append_none _ (unknown tree part b.value) three.0 in
      let one = append_none _ _ two.0 in
      ap (λ o. is_among b.name (found_cell_ports tree o)) e
      ∙ by (cell_of tree found) (not_not _ (or_parts _ (is_static_end tree part cell b.name) (tell_none _ _ _ _ one.1)).0)
      (ap (λ o. is_among b.name (found_cell_ports tree o) || (found_component tree part o && (same_name b.name (codes "clk") || same_name b.name (codes "reset")))) (sym e) ∙ not_not _ (tell_none _ _ _ _ one.0))
    where
      by : (of : CellOf) → is_among b.name (output_names tree part of) ≡ true → (is_among b.name (cell_port_names of) || (is_component tree part of && (same_name b.name (codes "clk") || same_name b.name (codes "reset")))) ≡ true → is_among b.name (cell_port_names of) ≡ true
      by Neither o k = absurd (true≢false (sym o))
      by (APrimitive p) o k = ⊎_elim (λ i. i) (λ c. absurd (true≢false (sym c))) (or_either (is_among b.name (cell_port_names (APrimitive p))) false k)
      by (AComponent c) o k = output_of_component b.name c o

  pub output_register : (cell : List ℕ) (of : CellOf) (b : BindItem) → output_breaks tree part cell of b ≡ [] → is_register_in tree part b.value.form ≡ true
  output_register cell of b h = not_not _ (tell_none _ _ _ _ (append_none _ _ h).1)

  pub output_known : (cell : List ℕ) (of : CellOf) (b : BindItem) → output_breaks tree part cell of b ≡ [] → is_unknown tree part b.value.form ≡ false
  output_known cell of b h = tell_none _ _ _ _ (append_none _ (unknown tree part b.value) (append_none _ _ h).0).1
