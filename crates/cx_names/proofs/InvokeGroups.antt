-- The assignments of an invoke's group keep what a design keeps.
use Rattle.std.proofs.Common.{◌≡◌, ℕ, ◌<◌, true, false, List, [], ◌∷◌, ◌++◌, Option, Some, length, map, flat_map, slice_get, codes, inl, inr, ⊎_elim, refl, sym, ap, ◌∙◌, subst, true≢false}
use Rattle.cx_text.proofs.MemberLaws.{flat_in, image_in, in_at, in_either}
use Rattle.cx_ast.specs.declared.operands.OperandForm.TheVariants as operands
use Rattle.cx_ast.specs.declared.statements.BindItem.{BindItem}
use Rattle.cx_ast.specs.PlainTree as ast
use Rattle.cx_ast.specs.PlainTree.{PlainTree}
use Rattle.cx_meaning.specs.declared.ports.PortRef.TheVariants as ports
use Rattle.cx_meaning.specs.declared.ports.PlacedPort.{PlacedPort}
use Rattle.cx_meaning.specs.Designs.{Always, Atom, PlainAssign, guards_of}
use Rattle.cx_meaning.specs.Instances.{part_of}
use Rattle.cx_text.specs.Members.{In}
use Rattle.cx_rules.specs.Items.{sources_of, operands_of, operands_in}
use Rattle.cx_rules.specs.Ports.{component_of as instance_of}
use Rattle.cx_rules.specs.Wellformed.{IsAssign, IsThere}
use Rattle.cx_numbering.specs.Names.{is_among, cell_among, found_cell_ports, cell_of}
use Rattle.cx_numbering.specs.DesignOf.{Invoke, cell_port, port_of, go_port, go_guard, found_go, register_of, register_done, input_assign, go_assign, capture_assigns, static_capture, capture_group, done_assign, invoke_group, design_of}
use Rattle.cx_numbering.specs.NameRules.{is_clock, is_unknown}
use Rattle.cx_names.proofs.NumberLemmas.{cell_found}
use Rattle.cx_names.proofs.There.{IsSource, source_there, cell_port_there}
use Rattle.cx_names.proofs.Circles.{KeptCell}
use Rattle.cx_names.proofs.InvokeLemmas.{Started, started, Register, register_of_form, KeptInvoke, input_named, input_source, output_named, output_register, output_known}
use Rattle.cx_text.proofs.BoolLaws.{or_either, not_not}

cell_or_literal : (c p w v : ℕ) → ports.Cell c p ≡ ports.Literal w v → ⊥
cell_or_literal c p w v e = absurd cc

cell_or_done : (c p g : ℕ) → ports.Cell c p ≡ ports.Done g → ⊥
cell_or_done c p g e = absurd cc

cell_or_output : (c p n : ℕ) → ports.Cell c p ≡ ports.Output n → ⊥
cell_or_output c p n e = absurd cc

done_or_literal : (g w v : ℕ) → ports.Done g ≡ ports.Literal w v → ⊥
done_or_literal g w v e = absurd cc

done_or_output : (g n : ℕ) → ports.Done g ≡ ports.Output n → ⊥
done_or_output g n e = absurd cc

-- what a conjunction of ports looks at
pub atoms : {A : Type 0} (f : A → PlacedPort) (xs : List A) → operands_in (guards_of (map (λ x. Atom (f x)) xs)) ≡ map f xs
atoms f [] = refl
atoms f (x ∷ xs) = ap (λ ps. f x ∷ ps) (atoms f xs)

module _ (tree : PlainTree) (k : ℕ) (part : ast.PlainComponent) (at : slice_get tree.components k ≡ Some part) (kept : (cell : ast.PlainCell) → In part.cells cell → KeptCell tree part cell) where
  cell_source : (cell port : List ℕ) → is_among port (found_cell_ports tree (cell_among cell part.cells)) ≡ true → IsSource tree k part at (cell_port tree part cell port)
  cell_source cell port h = record { there = cell_port_there tree k part at cell port h; no_hole = refl }

  one_source : IsSource tree k part at (ports.Literal 1 1)
  one_source = record { there = tt; no_hole = refl }

  cell_assign : (owner : Option ℕ) (a : PlainAssign) (cell port : List ℕ) → a.target ≡ cell_port tree part cell port → is_among port (found_cell_ports tree (cell_among cell part.cells)) ≡ true
      → ((p : PlacedPort) → In (sources_of a) p → IsSource tree k part at p.port) → IsAssign (instance_of (design_of tree) k) owner a
  cell_assign owner a cell port e h sources = record {
    target = subst (λ t. IsThere (instance_of (design_of tree) k) t) (sym e) (cell_port_there tree k part at cell port h);
    no_literal = λ w v l. cell_or_literal _ _ w v (sym e ∙ l);
    own_hole = λ g d. absurd (cell_or_done _ _ g (sym e ∙ d));
    no_bare_done = λ g d. absurd (cell_or_done _ _ g (sym e ∙ d));
    output_outside = λ n o. absurd (cell_or_output _ _ n (sym e ∙ o));
    sources = λ p i. (sources p i).there;
    no_hole = λ p i. (sources p i).no_hole;
  }

  done_drives : (g : ℕ) (a : PlainAssign) → a.target ≡ ports.Done g → g < length (part_of (instance_of (design_of tree) k)).groups → (a.guard ≡ Always → a.source.port ≡ ports.Literal 1 1 → ⊥)
      → ((p : PlacedPort) → In (sources_of a) p → IsSource tree k part at p.port) → IsAssign (instance_of (design_of tree) k) (Some g) a
  done_drives g a e few bare sources = record {
    target = subst (λ t. IsThere (instance_of (design_of tree) k) t) (sym e) few;
    no_literal = λ w v l. done_or_literal g w v (sym e ∙ l);
    own_hole = λ h d. same h (sym e ∙ d);
    no_bare_done = λ h d always one. bare always one;
    output_outside = λ n o. absurd (done_or_output g n (sym e ∙ o));
    sources = λ p i. (sources p i).there;
    no_hole = λ p i. (sources p i).no_hole;
  }
    where
      same : (h : ℕ) → ports.Done g ≡ ports.Done h → Some g ≡ Some h
      same h d = (let is : g ≡ h = cc in ap Some is)

  port_known : (cell port : List ℕ) → is_unknown tree part (operands.Port cell port) ≡ false → is_clock tree part cell port ≡ false → is_among port (found_cell_ports tree (cell_among cell part.cells)) ≡ true
  port_known cell port known clock =
      ⊎_elim (λ i. i) (λ c. absurd (true≢false (sym c ∙ clock))) (or_either (is_among port (found_cell_ports tree (cell_among cell part.cells))) (is_clock tree part cell port) (not_not _ known))

  -- the register of an output by its form
  register_named : (b : BindItem) (r : Register tree part b.value.form) → register_of tree part b ≡ r.cell
  register_named b r = ap (λ f. register_of tree part (record { name = b.name; value = record { form = f; place = b.value.place }; place = b.place })) r.is

  module _ (v : Invoke) (own : KeptInvoke tree part v) where
    start : Started (cell_of tree own.found)
    start =
        (let found = cell_found v.cell part.cells own.found own.is in
        started tree part own.found (cell_of tree own.found) (kept own.found (in_at part.cells found.number own.found found.at)).kind own.go)

    among_own : (port : List ℕ) → is_among port (found_cell_ports tree (Some own.found)) ≡ true → is_among port (found_cell_ports tree (cell_among v.cell part.cells)) ≡ true
    among_own port h = ap (λ o. is_among port (found_cell_ports tree o)) own.is ∙ h

    done_source : IsSource tree k part at (cell_port tree part v.cell (codes "done"))
    done_source = cell_source v.cell (codes "done") (among_own (codes "done") start.done)

    register : (b : BindItem) → In v.outputs b → Register tree part b.value.form
    register b i = register_of_form tree part kept b.value.form (output_register tree part v.cell (cell_of tree own.found) b (own.outputs b i))

    register_port : (b : BindItem) (i : In v.outputs b) (port : List ℕ) → is_among port (found_cell_ports tree (cell_among (register b i).cell part.cells)) ≡ true → is_among port (found_cell_ports tree (cell_among (register_of tree part b) part.cells)) ≡ true
    register_port b i port h = ap (λ c. is_among port (found_cell_ports tree (cell_among c part.cells))) (register_named b (register b i)) ∙ h

    register_source : (b : BindItem) → In v.outputs b → IsSource tree k part at (cell_port tree part (register_of tree part b) (codes "done"))
    register_source b i = cell_source (register_of tree part b) (codes "done") (register_port b i (codes "done") (register b i).done)

    input_kept : (g : ℕ) (b : BindItem) → In v.inputs b → IsAssign (instance_of (design_of tree) k) (Some g) (input_assign tree part v b)
    input_kept g b i =
        cell_assign (Some g) (input_assign tree part v b) v.cell b.name refl (input_named tree part v.cell (cell_of tree own.found) b (own.inputs b i)) sources
      where
        sources : (p : PlacedPort) → In (sources_of (input_assign tree part v b)) p → IsSource tree k part at p.port
        sources p (inl e) = subst (λ q. IsSource tree k part at q.port) e (source_there tree k part at b.value (input_source tree part v.cell (cell_of tree own.found) b (own.inputs b i)))
        sources p (inr j) = absurd j

    go_kept : (g : ℕ) → IsAssign (instance_of (design_of tree) k) (Some g) (go_assign tree part v)
    go_kept g =
        cell_assign (Some g) (go_assign tree part v) v.cell start.go
        (ap (λ o. go_port tree part (found_go tree part o) v.cell) own.is ∙ ap (λ o. go_port tree part o v.cell) start.is) (among_own start.go start.start) sources
      where
        guarded : (outputs : List BindItem) (p : PlacedPort) → In (operands_of (go_guard tree part v outputs)) p → IsSource tree k part at p.port
        guarded [] p j = absurd j
        guarded (b ∷ bs) p (inl e) = subst (λ q. IsSource tree k part at q.port) e done_source
        guarded (b ∷ bs) p (inr j) = absurd j

        sources : (p : PlacedPort) → In (sources_of (go_assign tree part v)) p → IsSource tree k part at p.port
        sources p (inl e) = subst (λ q. IsSource tree k part at q.port) e one_source
        sources p (inr j) = guarded v.outputs p j

    capture_kept : (g : ℕ) (b : BindItem) (i : In v.outputs b) (a : PlainAssign) → In (capture_assigns tree part v b) a → IsAssign (instance_of (design_of tree) k) (Some g) a
    capture_kept g b i a (inl e) =
        let r = register b i in
        let known : is_unknown tree part (operands.Port r.cell r.port) ≡ false = ap (is_unknown tree part) (sym r.is) ∙ output_known tree part v.cell (cell_of tree own.found) b (own.outputs b i) in
        subst (λ x. IsAssign (instance_of (design_of tree) k) (Some g) x) e
        (cell_assign (Some g) _ r.cell r.port (ap (port_of tree part) r.is) (port_known r.cell r.port known r.no_clock)
        (λ p j. ⊎_elim (λ f. subst (λ q. IsSource tree k part at q.port) f (cell_source v.cell b.name (output_named tree part v.cell own.found b own.is (own.outputs b i)))) (λ n. absurd n) j))
    capture_kept g b i a (inr (inl e)) =
        subst (λ x. IsAssign (instance_of (design_of tree) k) (Some g) x) e
        (cell_assign (Some g) _ (register_of tree part b) (codes "write_en") refl (register_port b i (codes "write_en") (register b i).start)
        (λ p j. ⊎_elim (λ f. subst (λ q. IsSource tree k part at q.port) f done_source) (λ n. absurd n) j))
    capture_kept g b i a (inr (inr n)) = absurd n

    done_kept : (g : ℕ) → g < length (part_of (instance_of (design_of tree) k)).groups → (outputs : List BindItem) → ((b : BindItem) → In outputs b → In v.outputs b) → IsAssign (instance_of (design_of tree) k) (Some g) (done_assign tree part v g outputs)
    done_kept g few [] among =
        done_drives g (done_assign tree part v g []) refl few (λ always one. cell_or_literal _ _ 1 1 one)
        (λ p j. ⊎_elim (λ f. subst (λ q. IsSource tree k part at q.port) f done_source) (λ n. absurd n) j)
    done_kept g few (b ∷ []) among =
        done_drives g (done_assign tree part v g (b ∷ [])) refl few (λ always one. cell_or_literal _ _ 1 1 one)
        (λ p j. ⊎_elim (λ f. subst (λ q. IsSource tree k part at q.port) f (register_source b (among b (inl refl)))) (λ n. absurd n) j)
    done_kept g few (b ∷ c ∷ bs) among =
        done_drives g (done_assign tree part v g (b ∷ c ∷ bs)) refl few (λ always one. no_guard always)
        (λ p j. ⊎_elim (λ f. subst (λ q. IsSource tree k part at q.port) f one_source) (λ n. every p n) j)
      where
        no_guard : (done_assign tree part v g (b ∷ c ∷ bs)).guard ≡ Always → ⊥
        no_guard always = absurd cc

        every : (p : PlacedPort) → In (operands_of (done_assign tree part v g (b ∷ c ∷ bs)).guard) p → IsSource tree k part at p.port
        every p j =
            (let found = image_in (register_done tree part v) (b ∷ c ∷ bs) p (subst (λ ps. In ps p) (atoms (register_done tree part v) (b ∷ c ∷ bs)) j) in
            subst (λ q. IsSource tree k part at q.port) found.2 (register_source found.0 (among found.0 found.1)))

    pub invoke_kept : (g : ℕ) → g < length (part_of (instance_of (design_of tree) k)).groups → (a : PlainAssign) → In (invoke_group tree part g v).assigns a → IsAssign (instance_of (design_of tree) k) (Some g) a
    invoke_kept g few a i = ⊎_elim input (λ j. rest j) (in_either (map (input_assign tree part v) v.inputs) _ a i)
      where
        input : In (map (input_assign tree part v) v.inputs) a → IsAssign (instance_of (design_of tree) k) (Some g) a
        input j = (let found = image_in (input_assign tree part v) v.inputs a j in subst (λ x. IsAssign (instance_of (design_of tree) k) (Some g) x) found.2 (input_kept g found.0 found.1))

        capture : In (flat_map (capture_assigns tree part v) v.outputs) a → IsAssign (instance_of (design_of tree) k) (Some g) a
        capture j = (let found = flat_in (capture_assigns tree part v) v.outputs a j in capture_kept g found.0 found.1 a found.2)

        last : In (done_assign tree part v g v.outputs ∷ []) a → IsAssign (instance_of (design_of tree) k) (Some g) a
        last (inl e) = subst (λ x. IsAssign (instance_of (design_of tree) k) (Some g) x) e (done_kept g few v.outputs (λ b j. j))
        last (inr n) = absurd n

        rest : In (go_assign tree part v ∷ (flat_map (capture_assigns tree part v) v.outputs ++ (done_assign tree part v g v.outputs ∷ []))) a → IsAssign (instance_of (design_of tree) k) (Some g) a
        rest (inl e) = subst (λ x. IsAssign (instance_of (design_of tree) k) (Some g) x) e (go_kept g)
        rest (inr j) = ⊎_elim capture last (in_either (flat_map (capture_assigns tree part v) v.outputs) (done_assign tree part v g v.outputs ∷ []) a j)

    -- and those of the group that captures
    static_capture_kept : (g : ℕ) (b : BindItem) (i : In v.outputs b) (a : PlainAssign) → In (static_capture tree part v b) a → IsAssign (instance_of (design_of tree) k) (Some g) a
    static_capture_kept g b i a (inl e) = capture_kept g b i a (inl e)
    static_capture_kept g b i a (inr (inl e)) =
        subst (λ x. IsAssign (instance_of (design_of tree) k) (Some g) x) e
        (cell_assign (Some g) _ (register_of tree part b) (codes "write_en") refl (register_port b i (codes "write_en") (register b i).start)
        (λ p j. ⊎_elim (λ f. subst (λ q. IsSource tree k part at q.port) f one_source) (λ n. absurd n) j))
    static_capture_kept g b i a (inr (inr n)) = absurd n

    pub captures_kept : (g : ℕ) (a : PlainAssign) → In (capture_group tree part v).assigns a → IsAssign (instance_of (design_of tree) k) (Some g) a
    captures_kept g a j = (let found = flat_in (static_capture tree part v) v.outputs a j in static_capture_kept g found.0 found.1 a found.2)
