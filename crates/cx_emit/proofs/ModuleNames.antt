-- The ports, the declarations and the instances of a component's module have names of their own.
use Rattle.std.proofs.Common.{◌≡◌, ℕ, suc, List, [], ◌∷◌, ◌++◌, map, refl, ap, sym, ◌∙◌, subst, append_assoc, append-nil}
use Rattle.std.specs.Prelude.{codes}
use Rattle.std.proofs.lemmas.List.{map-append}
use Rattle.cx_vtree.specs.Plain.{PlainModule}
use Rattle.cx_vtree.specs.Sound.{decl_name}
use Rattle.cx_vlaws.proofs.Fresh.{Fresh}
use Rattle.cx_net.specs.Nets.{PlainNetComponent}
use Rattle.cx_emit.specs.Numbered.{numbered_from, with_numbers, lists_from}
use Rattle.cx_emit.specs.Numbers.{AreFew, HasFewParts}
use Rattle.cx_emit.specs.Names.{numbered, input_name, output_name, wire_name, register_name, instance_name}
use Rattle.cx_emit.specs.Signatures.{PlainCellPorts, input_port, output_port, module_ports}
use Rattle.cx_emit.specs.Sources.{port_decl, cell_decls, wire_decl, register_decl, decls_with, cell_instance, module_with}
use Rattle.cx_emit.proofs.ApartLaws.{letters_in, Kin, names_of, port_names, have_numbered, fresh_numbered, have_twice, fresh_twice, fresh_kins}

pub map-numbered : {A B C : Type 0} (g : B → C) (f : ℕ → A → B) (k : ℕ) (xs : List A) → map g (numbered_from f k xs) ≡ numbered_from (λ j x. g (f j x)) k xs
map-numbered g f k [] = refl
map-numbered g f k (x ∷ xs) = ap (λ ys. g (f k x) ∷ ys) (map-numbered g f (suc k) xs)

decl_names-cells : (k : ℕ) (cells : List PlainCellPorts) → map decl_name (lists_from cell_decls k cells) ≡ port_names (codes "c") k cells
decl_names-cells k [] = refl
decl_names-cells k (cell ∷ cells) =
    map-append decl_name (cell_decls k cell) (lists_from cell_decls (suc k) cells)
    ∙ ap (λ own. own ++ map decl_name (lists_from cell_decls (suc k) cells)) (map-numbered decl_name (port_decl k) 0 cell.ports)
    ∙ ap (λ rest. with_numbers (λ p port. decl_name (port_decl k p port)) cell.ports ++ rest) (decl_names-cells (suc k) cells)

-- one name without digits
unfoldable pub one_kin : (name : List ℕ) → letters_in name ≡ name → Kin
one_kin name own = record { letters = name; names = name ∷ []; have = (own, tt); apart = (refl, tt) }

unfoldable pub numbered_kin : {A : Type 0} (letters : List ℕ) → letters_in (codes "cx_" ++ letters) ≡ codes "cx_" ++ letters → (xs : List A) → AreFew xs → Kin
numbered_kin letters own xs few = record { letters = codes "cx_" ++ letters; names = with_numbers (λ j x. numbered letters j) xs; have = have_numbered letters own xs few; apart = fresh_numbered letters xs few }

-- all names of a module: its ports, its declarations and its instances
abbrev pub names_in : PlainModule → List (List ℕ)
names_in m = map (λ p. p.name) m.ports ++ (map decl_name m.decls ++ map (λ i. i.name) m.instances)

module _ (part : PlainNetComponent) (cells : List PlainCellPorts) (few : HasFewParts part cells) where
  kins : List Kin
  kins =
      one_kin (codes "clk") refl ∷ one_kin (codes "reset") refl ∷ one_kin (codes "go") refl
      ∷ numbered_kin (codes "in") refl part.inputs few.inputs ∷ numbered_kin (codes "out") refl part.outputs few.outputs ∷ one_kin (codes "done") refl
      ∷ record { letters = codes "cx_c"; names = port_names (codes "c") 0 cells; have = have_twice (codes "c") refl cells few.cells few.ports; apart = fresh_twice (codes "c") cells few.cells few.ports }
      ∷ numbered_kin (codes "w") refl part.wires few.wires ∷ numbered_kin (codes "r") refl part.registers few.registers ∷ numbered_kin (codes "i") refl cells few.cells ∷ []

  inputs_named : List (List ℕ)
  inputs_named = with_numbers (λ j x. input_name j) part.inputs

  outputs_named : List (List ℕ)
  outputs_named = with_numbers (λ j x. output_name j) part.outputs

  kins_apart : Fresh [] (names_of kins)
  unfolding kins one_kin numbered_kin
  kins_apart = fresh_kins [] [] kins tt (refl, (refl, (refl, (refl, (refl, (refl, (refl, (refl, (refl, (refl, tt))))))))))

  ports_named : map (λ p. p.name) (module_ports part) ≡ codes "clk" ∷ codes "reset" ∷ codes "go" ∷ ((inputs_named ++ outputs_named) ++ codes "done" ∷ [])
  unfolding inputs_named outputs_named
  ports_named =
      ap (λ ns. codes "clk" ∷ codes "reset" ∷ codes "go" ∷ ns)
      (map-append (λ p. p.name) (with_numbers input_port part.inputs ++ with_numbers output_port part.outputs) _
      ∙ ap (λ ns. ns ++ codes "done" ∷ [])
      (map-append (λ p. p.name) (with_numbers input_port part.inputs) (with_numbers output_port part.outputs)
      ∙ ap (λ ns. ns ++ map (λ p. p.name) (with_numbers output_port part.outputs)) (map-numbered (λ p. p.name) input_port 0 part.inputs)
      ∙ ap (λ ns. with_numbers (λ j x. input_name j) part.inputs ++ ns) (map-numbered (λ p. p.name) output_port 0 part.outputs)))

  decls_named : map decl_name (decls_with part cells) ≡ (port_names (codes "c") 0 cells ++ with_numbers (λ j x. wire_name j) part.wires) ++ with_numbers (λ j x. register_name j) part.registers
  decls_named =
      map-append decl_name (lists_from cell_decls 0 cells ++ with_numbers wire_decl part.wires) (with_numbers register_decl part.registers)
      ∙ ap (λ ns. ns ++ map decl_name (with_numbers register_decl part.registers))
      (map-append decl_name (lists_from cell_decls 0 cells) (with_numbers wire_decl part.wires)
      ∙ ap (λ ns. ns ++ map decl_name (with_numbers wire_decl part.wires)) (decl_names-cells 0 cells)
      ∙ ap (λ ns. port_names (codes "c") 0 cells ++ ns) (map-numbered decl_name wire_decl 0 part.wires))
      ∙ ap (λ ns. (port_names (codes "c") 0 cells ++ with_numbers (λ j x. wire_name j) part.wires) ++ ns) (map-numbered decl_name register_decl 0 part.registers)

  module _ (name : List ℕ) where
    -- no two parts of the module have one name
    pub names_in-apart : Fresh [] (names_in (module_with name part cells))
    unfolding kins one_kin numbered_kin inputs_named outputs_named
    names_in-apart =
        let those : List (List ℕ) = with_numbers (λ j x. instance_name j) cells in
        let c : List (List ℕ) = port_names (codes "c") 0 cells in
        let w : List (List ℕ) = with_numbers (λ j x. wire_name j) part.wires in
        let r : List (List ℕ) = with_numbers (λ j x. register_name j) part.registers in
        let ins : List (List ℕ) = with_numbers (λ j x. input_name j) part.inputs in
        let outs : List (List ℕ) = with_numbers (λ j x. output_name j) part.outputs in
        let all : names_in (module_with name part cells) ≡ (codes "clk" ∷ codes "reset" ∷ codes "go" ∷ ((ins ++ outs) ++ codes "done" ∷ [])) ++ (((c ++ w) ++ r) ++ those) =
        ap (λ ns. ns ++ (map decl_name (decls_with part cells) ++ map (λ i. i.name) (with_numbers cell_instance cells))) ports_named
        ∙ ap (λ ns. (codes "clk" ∷ codes "reset" ∷ codes "go" ∷ ((ins ++ outs) ++ codes "done" ∷ [])) ++ (ns ++ map (λ i. i.name) (with_numbers cell_instance cells))) decls_named
        ∙ ap (λ ns. (codes "clk" ∷ codes "reset" ∷ codes "go" ∷ ((ins ++ outs) ++ codes "done" ∷ [])) ++ (((c ++ w) ++ r) ++ ns)) (map-numbered (λ i. i.name) cell_instance 0 cells) in
        subst (Fresh []) (sym (all ∙ ap (λ ns. codes "clk" ∷ codes "reset" ∷ codes "go" ∷ ns) (grouped ins outs c w r those))) kins_apart
      where
        grouped : (ins outs c w r those : List (List ℕ)) → ((ins ++ outs) ++ codes "done" ∷ []) ++ (((c ++ w) ++ r) ++ those) ≡ ins ++ (outs ++ (codes "done" ∷ (c ++ (w ++ (r ++ (those ++ []))))))
        grouped ins outs c w r those = simp (append_assoc, append-nil)
