-- What follows the lines of a text so far, by what they await.
use Rattle.std.proofs.Common.{◌≡◌, ◌⊎◌, inl, inr, ℕ, ◌<◌, true, false, ◌&&◌, List, [], ◌∷◌, ◌++◌, map, length, Option, Some, None, refl, ◌∙◌, ap, sym, arith, append_assoc}
use Rattle.std.specs.Prelude.{codes, nat_lt}
use Rattle.std.specs.List.{list_all}
use Rattle.std.proofs.lemmas.Bool.{and_from, and_parts, lt-ltb, ltb-true}
use Rattle.cx_vtree.specs.Layout.{is_name, port_fits, decl_fits, assign_fits, instance_fits, item_fits, edge_fits, module_fits, external_fits}
use Rattle.cx_vtree.specs.Lines.{ExternalLine, ModuleLine, PortLine, DeclLine, AssignLine, InstanceLine, SetLine, line_text, lines_text}
use Rattle.cx_vtree.specs.Plain.{PlainPort, PlainDecl, PlainAssign, PlainInstance, PlainItem, PlainEdge, PlainModule, PlainExternal, PlainSource}
use Rattle.cx_vtree.specs.Spelling.{port_lines, item_line, edge_lines, module_lines}
use Rattle.cx_vwrite.specs.Pieces.{modules_text}
use Rattle.cx_vwrite.proofs.LinesText.{edge_text}
use Rattle.cx_vread.specs.declared.astray.Between.{Between}
use Rattle.cx_vread.specs.declared.astray.Between.TheVariants.{Externals, Modules, Port, PortsDone, Decls, Assigns, Instances, Branches, Sets, Items, EdgeDone, ModuleDone}
use Rattle.cx_vread.specs.Astray.{IsText}
use Rattle.cx_vread.proofs.SourceAgain.{module_pieces, source_text}
use Rattle.cx_vread.proofs.LineAgain.{one_more_port}

pub record ModulesFollow (x : List ℕ) : Type 0 where
  pub modules : List PlainModule
  pub fit : list_all module_fits modules ≡ true
  pub text_is : x ≡ modules_text modules

pub record ExternalsFollow (x : List ℕ) : Type 0 where
  pub externals : List PlainExternal
  pub modules : List PlainModule
  pub fit : list_all external_fits externals ≡ true
  pub modules_fit : list_all module_fits modules ≡ true
  pub some : 0 < length modules
  pub text_is : x ≡ lines_text (map ExternalLine externals) ++ modules_text modules

pub record EndFollows (x : List ℕ) : Type 0 where
  pub more : List ℕ
  pub text_is : x ≡ codes "endmodule\n" ++ more
  pub behind : ModulesFollow more

pub record EdgeEndFollows (x : List ℕ) : Type 0 where
  pub more : List ℕ
  pub text_is : x ≡ codes "  end\n" ++ more
  pub behind : EndFollows more

pub record ItemsFollow (x : List ℕ) : Type 0 where
  pub items : List PlainItem
  pub more : List ℕ
  pub fit : list_all item_fits items ≡ true
  pub text_is : x ≡ lines_text (map item_line items) ++ (codes "    end\n" ++ more)
  pub behind : EdgeEndFollows more

pub record SetsFollow (x : List ℕ) : Type 0 where
  pub sets : List PlainAssign
  pub more : List ℕ
  pub fit : list_all assign_fits sets ≡ true
  pub text_is : x ≡ lines_text (map SetLine sets) ++ (codes "    end else begin\n" ++ more)
  pub behind : ItemsFollow more

pub record BranchesFollow (x : List ℕ) : Type 0 where
  pub more : List ℕ
  pub text_is : x ≡ codes "    if (reset) begin\n" ++ more
  pub behind : SetsFollow more

pub record EdgeFollows (x : List ℕ) : Type 0 where
  pub more : List ℕ
  pub text_is : x ≡ codes "  always @(posedge clk) begin\n" ++ more
  pub behind : BranchesFollow more

-- the end of a module, or an edge before it
abbrev pub LastFollows : List ℕ → Type 0
LastFollows x = EndFollows x ⊎ EdgeFollows x

pub record InstancesFollow (x : List ℕ) : Type 0 where
  pub instances : List PlainInstance
  pub more : List ℕ
  pub fit : list_all instance_fits instances ≡ true
  pub text_is : x ≡ lines_text (map InstanceLine instances) ++ more
  pub behind : LastFollows more

pub record AssignsFollow (x : List ℕ) : Type 0 where
  pub assigns : List PlainAssign
  pub more : List ℕ
  pub fit : list_all assign_fits assigns ≡ true
  pub text_is : x ≡ lines_text (map AssignLine assigns) ++ more
  pub behind : InstancesFollow more

pub record DeclsFollow (x : List ℕ) : Type 0 where
  pub decls : List PlainDecl
  pub more : List ℕ
  pub fit : list_all decl_fits decls ≡ true
  pub text_is : x ≡ lines_text (map DeclLine decls) ++ more
  pub behind : AssignsFollow more

pub record PortsDoneFollow (x : List ℕ) : Type 0 where
  pub more : List ℕ
  pub text_is : x ≡ codes ");\n" ++ more
  pub behind : DeclsFollow more

pub record PortsFollow (x : List ℕ) : Type 0 where
  pub first : PlainPort
  pub others : List PlainPort
  pub more : List ℕ
  pub fit : list_all port_fits (first ∷ others) ≡ true
  pub text_is : x ≡ lines_text (port_lines (first ∷ others)) ++ more
  pub behind : PortsDoneFollow more

abbrev pub Follows : Between → List ℕ → Type 0
Follows Externals x = ExternalsFollow x
Follows Modules x = ModulesFollow x
Follows Port x = PortsFollow x
Follows PortsDone x = PortsDoneFollow x
Follows Decls x = DeclsFollow x
Follows Assigns x = AssignsFollow x
Follows Instances x = InstancesFollow x
Follows Branches x = BranchesFollow x
Follows Sets x = SetsFollow x
Follows Items x = ItemsFollow x
Follows EdgeDone x = EdgeEndFollows x
Follows ModuleDone x = EndFollows x

-- What follows later lines follows earlier ones, where none of those between has to stand.
pub no_instance : (x : List ℕ) → LastFollows x → InstancesFollow x
no_instance x h = record { instances = []; more = x; fit = refl; text_is = refl; behind = h }

pub no_assign : (x : List ℕ) → InstancesFollow x → AssignsFollow x
no_assign x h = record { assigns = []; more = x; fit = refl; text_is = refl; behind = h }

pub no_decl : (x : List ℕ) → AssignsFollow x → DeclsFollow x
no_decl x h = record { decls = []; more = x; fit = refl; text_is = refl; behind = h }

-- One line more before what follows.
pub one_decl : (d : PlainDecl) (y : List ℕ) → decl_fits d ≡ true → DeclsFollow y → DeclsFollow ((line_text (DeclLine d) ++ codes "\n") ++ y)
one_decl d y fit f =
    let own : List ℕ = line_text (DeclLine d) ++ codes "\n" in
    record {
      decls = d ∷ f.decls;
      more = f.more;
      fit = and_from (decl_fits d) (list_all decl_fits f.decls) fit f.fit;
      text_is = ap (λ t. own ++ t) f.text_is ∙ sym (append_assoc own (lines_text (map DeclLine f.decls)) f.more);
      behind = f.behind;
    }

pub one_assign : (a : PlainAssign) (y : List ℕ) → assign_fits a ≡ true → AssignsFollow y → AssignsFollow ((line_text (AssignLine a) ++ codes "\n") ++ y)
one_assign a y fit f =
    let own : List ℕ = line_text (AssignLine a) ++ codes "\n" in
    record {
      assigns = a ∷ f.assigns;
      more = f.more;
      fit = and_from (assign_fits a) (list_all assign_fits f.assigns) fit f.fit;
      text_is = ap (λ t. own ++ t) f.text_is ∙ sym (append_assoc own (lines_text (map AssignLine f.assigns)) f.more);
      behind = f.behind;
    }

pub one_instance : (i : PlainInstance) (y : List ℕ) → instance_fits i ≡ true → InstancesFollow y → InstancesFollow ((line_text (InstanceLine i) ++ codes "\n") ++ y)
one_instance i y fit f =
    let own : List ℕ = line_text (InstanceLine i) ++ codes "\n" in
    record {
      instances = i ∷ f.instances;
      more = f.more;
      fit = and_from (instance_fits i) (list_all instance_fits f.instances) fit f.fit;
      text_is = ap (λ t. own ++ t) f.text_is ∙ sym (append_assoc own (lines_text (map InstanceLine f.instances)) f.more);
      behind = f.behind;
    }

pub one_set : (a : PlainAssign) (y : List ℕ) → assign_fits a ≡ true → SetsFollow y → SetsFollow ((line_text (SetLine a) ++ codes "\n") ++ y)
one_set a y fit f =
    let own : List ℕ = line_text (SetLine a) ++ codes "\n" in
    record {
      sets = a ∷ f.sets;
      more = f.more;
      fit = and_from (assign_fits a) (list_all assign_fits f.sets) fit f.fit;
      text_is = ap (λ t. own ++ t) f.text_is ∙ sym (append_assoc own (lines_text (map SetLine f.sets)) (codes "    end else begin\n" ++ f.more));
      behind = f.behind;
    }

pub one_item : (i : PlainItem) (y : List ℕ) → item_fits i ≡ true → ItemsFollow y → ItemsFollow ((line_text (item_line i) ++ codes "\n") ++ y)
one_item i y fit f =
    let own : List ℕ = line_text (item_line i) ++ codes "\n" in
    record {
      items = i ∷ f.items;
      more = f.more;
      fit = and_from (item_fits i) (list_all item_fits f.items) fit f.fit;
      text_is = ap (λ t. own ++ t) f.text_is ∙ sym (append_assoc own (lines_text (map item_line f.items)) (codes "    end\n" ++ f.more));
      behind = f.behind;
    }

pub one_external : (e : PlainExternal) (y : List ℕ) → external_fits e ≡ true → ExternalsFollow y → ExternalsFollow ((line_text (ExternalLine e) ++ codes "\n") ++ y)
one_external e y fit f =
    let own : List ℕ = line_text (ExternalLine e) ++ codes "\n" in
    record {
      externals = e ∷ f.externals;
      modules = f.modules;
      fit = and_from (external_fits e) (list_all external_fits f.externals) fit f.fit;
      modules_fit = f.modules_fit;
      some = f.some;
      text_is = ap (λ t. own ++ t) f.text_is ∙ sym (append_assoc own (lines_text (map ExternalLine f.externals)) (modules_text f.modules));
    }

pub last_port : (p : PlainPort) (y : List ℕ) → port_fits p ≡ true → PortsDoneFollow y → PortsFollow ((line_text (PortLine p false) ++ codes "\n") ++ y)
last_port p y fit f =
    let own : List ℕ = line_text (PortLine p false) ++ codes "\n" in
    let alone : own ++ y ≡ (own ++ []) ++ y = sym (append_assoc own [] y) in
    record { first = p; others = []; more = y; fit = and_from (port_fits p) true fit refl; text_is = alone; behind = f }

pub next_port : (p : PlainPort) (y : List ℕ) → port_fits p ≡ true → PortsFollow y → PortsFollow ((line_text (PortLine p true) ++ codes "\n") ++ y)
next_port p y fit f =
    let own : List ℕ = line_text (PortLine p true) ++ codes "\n" in
    record {
      first = p;
      others = f.first ∷ f.others;
      more = f.more;
      fit = and_from (port_fits p) (list_all port_fits (f.first ∷ f.others)) fit f.fit;
      text_is = ap (λ t. own ++ t) f.text_is ∙ sym (append_assoc own (lines_text (port_lines (f.first ∷ f.others))) f.more) ∙ ap (λ t. t ++ f.more) (sym (one_more_port p f.first f.others));
      behind = f.behind;
    }

-- A module from its lines.
edge_pieces : (e : PlainEdge) (z : List ℕ) → lines_text (edge_lines (Some e)) ++ z
    ≡ codes "  always @(posedge clk) begin\n" ++ (codes "    if (reset) begin\n" ++ (lines_text (map SetLine e.reset) ++ (codes "    end else begin\n" ++ (lines_text (map item_line e.step) ++ (codes "    end\n" ++ (codes "  end\n" ++ z))))))
edge_pieces e z =
    let g : (codes "  always @(posedge clk) begin\n    if (reset) begin\n" ++ (lines_text (map SetLine e.reset) ++ (codes "    end else begin\n" ++ (lines_text (map item_line e.step) ++ codes "    end\n  end\n")))) ++ z
    ≡ codes "  always @(posedge clk) begin\n    if (reset) begin\n" ++ (lines_text (map SetLine e.reset) ++ (codes "    end else begin\n" ++ (lines_text (map item_line e.step) ++ (codes "    end\n  end\n" ++ z)))) = simp append_assoc in
    ap (λ t. t ++ z) (sym (edge_text e)) ∙ g

record LastFound (x : List ℕ) : Type 0 where
  edge : Option PlainEdge
  rest : List PlainModule
  edge_fit : edge_fits edge ≡ true
  rest_fit : list_all module_fits rest ≡ true
  text_is : x ≡ lines_text (edge_lines edge) ++ (codes "endmodule\n" ++ modules_text rest)

last_found : (x : List ℕ) → LastFollows x → LastFound x
last_found x (inl f) = record { edge = None; rest = f.behind.modules; edge_fit = refl; rest_fit = f.behind.fit; text_is = f.text_is ∙ ap (λ t. codes "endmodule\n" ++ t) f.behind.text_is }
last_found x (inr f) =
    let s = f.behind.behind in
    let i = s.behind in
    let d = i.behind in
    let m = d.behind.behind in
    let own : PlainEdge = record { reset = s.sets; step = i.items } in
    record {
      edge = Some own;
      rest = m.modules;
      edge_fit = and_from (list_all assign_fits s.sets) (list_all item_fits i.items) s.fit i.fit;
      rest_fit = m.fit;
      text_is = f.text_is ∙ ap (λ t. codes "  always @(posedge clk) begin\n" ++ t) (f.behind.text_is ∙ ap (λ t. codes "    if (reset) begin\n" ++ t) (s.text_is ∙ ap (λ t. lines_text (map SetLine s.sets) ++ (codes "    end else begin\n" ++ t))
          (i.text_is ∙ ap (λ t. lines_text (map item_line i.items) ++ (codes "    end\n" ++ t)) (d.text_is ∙ ap (λ t. codes "  end\n" ++ t) (d.behind.text_is ∙ ap (λ t. codes "endmodule\n" ++ t) m.text_is)))))
          ∙ sym (edge_pieces own (codes "endmodule\n" ++ modules_text m.modules));
    }

record HeadFound (n : List ℕ) (y : List ℕ) : Type 0 where
  one : PlainModule
  rest : List PlainModule
  one_fit : module_fits one ≡ true
  rest_fit : list_all module_fits rest ≡ true
  text_is : codes "module " ++ (n ++ (codes "(\n" ++ y)) ≡ lines_text (module_lines one) ++ modules_text rest

head_found : (n : List ℕ) (y : List ℕ) → is_name n ≡ true → PortsFollow y → HeadFound n y
head_found n y name p =
    let d = p.behind.behind in
    let a = d.behind in
    let i = a.behind in
    let l = last_found i.more i.behind in
    let ports : List PlainPort = p.first ∷ p.others in
    let some : nat_lt 0 (length ports) ≡ true = lt-ltb 0 (length ports) (omega arith) in
    let own : PlainModule = record { name = n; ports = ports; decls = d.decls; assigns = a.assigns; instances = i.instances; edge = l.edge } in
    record {
      one = own;
      rest = l.rest;
      one_fit = and_from (is_name n && nat_lt 0 (length ports) && list_all port_fits ports && list_all decl_fits d.decls && list_all assign_fits a.assigns && list_all instance_fits i.instances) (edge_fits l.edge)
          (and_from (is_name n && nat_lt 0 (length ports) && list_all port_fits ports && list_all decl_fits d.decls && list_all assign_fits a.assigns) (list_all instance_fits i.instances)
          (and_from (is_name n && nat_lt 0 (length ports) && list_all port_fits ports && list_all decl_fits d.decls) (list_all assign_fits a.assigns)
          (and_from (is_name n && nat_lt 0 (length ports) && list_all port_fits ports) (list_all decl_fits d.decls)
          (and_from (is_name n && nat_lt 0 (length ports)) (list_all port_fits ports) (and_from (is_name n) (nat_lt 0 (length ports)) name some) p.fit) d.fit) a.fit) i.fit) l.edge_fit;
      rest_fit = l.rest_fit;
      text_is = ap (λ t. codes "module " ++ (n ++ (codes "(\n" ++ t))) (p.text_is ∙ ap (λ t. lines_text (port_lines ports) ++ t) (p.behind.text_is ∙ ap (λ t. codes ");\n" ++ t)
          (d.text_is ∙ ap (λ t. lines_text (map DeclLine d.decls) ++ t) (a.text_is ∙ ap (λ t. lines_text (map AssignLine a.assigns) ++ t) (i.text_is ∙ ap (λ t. lines_text (map InstanceLine i.instances) ++ t) l.text_is)))))
          ∙ sym (module_pieces own (modules_text l.rest));
    }

head_again : (n y : List ℕ) → (line_text (ModuleLine n) ++ codes "\n") ++ y ≡ codes "module " ++ (n ++ (codes "(\n" ++ y))
head_again n y = simp append_assoc

pub next_module : (n y : List ℕ) → is_name n ≡ true → PortsFollow y → ModulesFollow ((line_text (ModuleLine n) ++ codes "\n") ++ y)
next_module n y name p =
    let h = head_found n y name p in
    record { modules = h.one ∷ h.rest; fit = and_from (module_fits h.one) (list_all module_fits h.rest) h.one_fit h.rest_fit; text_is = head_again n y ∙ h.text_is }

pub first_module : (n y : List ℕ) → is_name n ≡ true → PortsFollow y → ExternalsFollow ((line_text (ModuleLine n) ++ codes "\n") ++ y)
first_module n y name p =
    let h = head_found n y name p in
    record { externals = []; modules = h.one ∷ h.rest; fit = refl; modules_fit = and_from (module_fits h.one) (list_all module_fits h.rest) h.one_fit h.rest_fit; some = omega arith; text_is = head_again n y ∙ h.text_is }

-- The lines of a module.
edge_follows : (e : Option PlainEdge) (z : List ℕ) → edge_fits e ≡ true → ModulesFollow z → LastFollows (lines_text (edge_lines e) ++ (codes "endmodule\n" ++ z))
edge_follows None z fit m = inl (record { more = z; text_is = refl; behind = m })
edge_follows (Some e) z fit m =
    let parts = and_parts (list_all assign_fits e.reset) (list_all item_fits e.step) fit in
    let t1 : List ℕ = codes "endmodule\n" ++ z in
    let t2 : List ℕ = codes "  end\n" ++ t1 in
    let t3 : List ℕ = lines_text (map item_line e.step) ++ (codes "    end\n" ++ t2) in
    let t4 : List ℕ = lines_text (map SetLine e.reset) ++ (codes "    end else begin\n" ++ t3) in
    let f1 : EndFollows t1 = record { more = z; text_is = refl; behind = m } in
    let f2 : EdgeEndFollows t2 = record { more = t1; text_is = refl; behind = f1 } in
    let f3 : ItemsFollow t3 = record { items = e.step; more = t2; fit = parts.1; text_is = refl; behind = f2 } in
    let f4 : SetsFollow t4 = record { sets = e.reset; more = t3; fit = parts.0; text_is = refl; behind = f3 } in
    inr (record { more = codes "    if (reset) begin\n" ++ t4; text_is = edge_pieces e t1; behind = record { more = t4; text_is = refl; behind = f4 } })

ports_follow : (ps : List PlainPort) (z : List ℕ) → 0 < length ps → list_all port_fits ps ≡ true → PortsDoneFollow z → PortsFollow (lines_text (port_lines ps) ++ z)
ports_follow [] z some fit h = absurd (omega arith)
ports_follow (p ∷ ps) z some fit h = record { first = p; others = ps; more = z; fit = fit; text_is = refl; behind = h }

-- behind the first line of a module
pub record ModuleOpens (m : PlainModule) (x : List ℕ) : Type 0 where
  pub more : List ℕ
  pub name : is_name m.name ≡ true
  pub text_is : x ≡ (line_text (ModuleLine m.name) ++ codes "\n") ++ more
  pub behind : PortsFollow more

pub module_opens : (m : PlainModule) (z : List ℕ) → module_fits m ≡ true → ModulesFollow z → ModuleOpens m (lines_text (module_lines m) ++ z)
module_opens m z f h =
    let f6 = and_parts (is_name m.name && nat_lt 0 (length m.ports) && list_all port_fits m.ports && list_all decl_fits m.decls && list_all assign_fits m.assigns && list_all instance_fits m.instances) (edge_fits m.edge) f in
    let f5 = and_parts (is_name m.name && nat_lt 0 (length m.ports) && list_all port_fits m.ports && list_all decl_fits m.decls && list_all assign_fits m.assigns) (list_all instance_fits m.instances) f6.0 in
    let f4 = and_parts (is_name m.name && nat_lt 0 (length m.ports) && list_all port_fits m.ports && list_all decl_fits m.decls) (list_all assign_fits m.assigns) f5.0 in
    let f3 = and_parts (is_name m.name && nat_lt 0 (length m.ports) && list_all port_fits m.ports) (list_all decl_fits m.decls) f4.0 in
    let f2 = and_parts (is_name m.name && nat_lt 0 (length m.ports)) (list_all port_fits m.ports) f3.0 in
    let f1 = and_parts (is_name m.name) (nat_lt 0 (length m.ports)) f2.0 in
    let t1 : List ℕ = lines_text (edge_lines m.edge) ++ (codes "endmodule\n" ++ z) in
    let t2 : List ℕ = lines_text (map InstanceLine m.instances) ++ t1 in
    let t3 : List ℕ = lines_text (map AssignLine m.assigns) ++ t2 in
    let t4 : List ℕ = lines_text (map DeclLine m.decls) ++ t3 in
    let t5 : List ℕ = codes ");\n" ++ t4 in
    let g2 : InstancesFollow t2 = record { instances = m.instances; more = t1; fit = f5.1; text_is = refl; behind = edge_follows m.edge z f6.1 h } in
    let g3 : AssignsFollow t3 = record { assigns = m.assigns; more = t2; fit = f4.1; text_is = refl; behind = g2 } in
    let g4 : DeclsFollow t4 = record { decls = m.decls; more = t3; fit = f3.1; text_is = refl; behind = g3 } in
    let g5 : PortsDoneFollow t5 = record { more = t4; text_is = refl; behind = g4 } in
    record {
      more = lines_text (port_lines m.ports) ++ t5;
      name = f1.0;
      text_is = module_pieces m z ∙ sym (head_again m.name (lines_text (port_lines m.ports) ++ t5));
      behind = ports_follow m.ports t5 (ltb-true 0 (length m.ports) f1.1) f2.1 g5;
    }

-- A text follows no line.
pub text_follows : (x : List ℕ) → IsText x → ExternalsFollow x
text_follows x t =
    let s = t.source in
    let f2 = and_parts (list_all external_fits s.externals && nat_lt 0 (length s.modules)) (list_all module_fits s.modules) t.laid in
    let f1 = and_parts (list_all external_fits s.externals) (nat_lt 0 (length s.modules)) f2.0 in
    record { externals = s.externals; modules = s.modules; fit = f1.0; modules_fit = f2.1; some = ltb-true 0 (length s.modules) f1.1; text_is = t.spelled ∙ source_text s }

pub text_from : (x : List ℕ) → ExternalsFollow x → IsText x
text_from x f =
    let s : PlainSource = record { externals = f.externals; modules = f.modules } in
    record {
      source = s;
      spelled = f.text_is ∙ sym (source_text s);
      laid = and_from (list_all external_fits f.externals && nat_lt 0 (length f.modules)) (list_all module_fits f.modules) (and_from (list_all external_fits f.externals) (nat_lt 0 (length f.modules)) f.fit (lt-ltb 0 (length f.modules) f.some)) f.modules_fit;
    }

-- Something may always follow.
nothing : ModulesFollow []
nothing = record { modules = []; fit = refl; text_is = refl }

end : EndFollows (codes "endmodule\n")
end = record { more = []; text_is = refl; behind = nothing }

edge_end : EdgeEndFollows (codes "  end\nendmodule\n")
edge_end = record { more = codes "endmodule\n"; text_is = refl; behind = end }

no_items : ItemsFollow (codes "    end\n  end\nendmodule\n")
no_items = record { items = []; more = codes "  end\nendmodule\n"; fit = refl; text_is = refl; behind = edge_end }

no_sets : SetsFollow (codes "    end else begin\n    end\n  end\nendmodule\n")
no_sets = record { sets = []; more = codes "    end\n  end\nendmodule\n"; fit = refl; text_is = refl; behind = no_items }

branches : BranchesFollow (codes "    if (reset) begin\n    end else begin\n    end\n  end\nendmodule\n")
branches = record { more = codes "    end else begin\n    end\n  end\nendmodule\n"; text_is = refl; behind = no_sets }

no_instances : InstancesFollow (codes "endmodule\n")
no_instances = no_instance (codes "endmodule\n") (inl end)

no_assigns : AssignsFollow (codes "endmodule\n")
no_assigns = no_assign (codes "endmodule\n") no_instances

no_decls : DeclsFollow (codes "endmodule\n")
no_decls = no_decl (codes "endmodule\n") no_assigns

ports_done : PortsDoneFollow (codes ");\nendmodule\n")
ports_done = record { more = codes "endmodule\n"; text_is = refl; behind = no_decls }

abbrev a_port : PlainPort
a_port = record { output = false; name = codes "clk"; width = 1 }

port : PortsFollow ((line_text (PortLine a_port false) ++ codes "\n") ++ codes ");\nendmodule\n")
port = last_port a_port (codes ");\nendmodule\n") refl ports_done

pub some_follows : (b : Between) → (y : List ℕ) × Follows b y
some_follows Externals = (_, first_module (codes "main") _ refl port)
some_follows Modules = (_, nothing)
some_follows Port = (_, port)
some_follows PortsDone = (_, ports_done)
some_follows Decls = (_, no_decls)
some_follows Assigns = (_, no_assigns)
some_follows Instances = (_, no_instances)
some_follows Branches = (_, branches)
some_follows Sets = (_, no_sets)
some_follows Items = (_, no_items)
some_follows EdgeDone = (_, edge_end)
some_follows ModuleDone = (_, end)
