-- A line that is spelled is read, and what follows begins with such a line.
use Rattle.std.proofs.Common.{◌≡◌, ◌⊎◌, inl, inr, ℕ, ◌-◌, ◌<◌, true, false, ◌&&◌, List, [], ◌∷◌, ◌++◌, map, length, Some, refl, ◌∙◌, ap, arith, append_assoc, if◌then◌else◌}
use Rattle.std.specs.Prelude.{codes, nat_lt}
use Rattle.std.specs.List.{list_all}
use Rattle.std.proofs.lemmas.Bool.{and_parts}
use Rattle.cx_vtree.specs.Layout.{is_name, expr_fits, port_fits, decl_fits, assign_fits, instance_fits, item_fits, module_fits, external_fits}
use Rattle.cx_vtree.specs.Lines.{decimal_text, expr_text, bounds_text, side_text, ExternalLine, ModuleLine, PortLine, DeclLine, AssignLine, InstanceLine, SetLine, line_text, lines_text}
use Rattle.cx_vtree.specs.Plain.{PlainExpr, PlainPort, PlainDecl, WireOf, RegisterOf, ArrayOf, PlainAssign, PlainInstance, PlainItem, SetTo, StoreTo, PlainModule, PlainExternal}
use Rattle.cx_vtree.specs.Spelling.{port_lines, item_line}
use Rattle.cx_vwrite.specs.Pieces.{modules_text}
use Rattle.cx_vread_exprs.specs.Passing.{passed_at}
use Rattle.cx_vread_exprs.specs.Places.{Place, Reads, then_reads, then_at, after, begins}
use Rattle.cx_vread_exprs.specs.Tokens.{name_at}
use Rattle.cx_vread_exprs.proofs.NumberAgain.{clean}
use Rattle.cx_vread_exprs.proofs.ExprAgain.{closed, name_again, small_again}
use Rattle.cx_vread_exprs.proofs.PassAgain.{passed_again}
use Rattle.cx_vread.specs.declared.astray.Between.{Between}
use Rattle.cx_vread.specs.declared.astray.Between.TheVariants.{Externals, Modules, Port, PortsDone, Decls, Assigns, Instances, Branches, Sets, Items, EdgeDone, ModuleDone}
use Rattle.cx_vread.specs.LineSteps.{fixed_by, module_line, port_line, array_line, decl_line, value_line, assign_line, instance_line, set_line, store_line, after_instances, after_assigns, after_decls, line_at}
use Rattle.cx_vread.specs.Parts.{is_decl}
use Rattle.cx_vread.proofs.LinePieces.{wire_pieces, register_pieces, array_pieces, assign_pieces, store_pieces}
use Rattle.cx_vread.proofs.LineAgain.{bounds_again, port_again, starts_decl, one_more_port}
use Rattle.cx_vread.proofs.InstanceAgain.{instances_so, starts_instance, instance-not_assign, instance-not_decl}
use Rattle.cx_vread.proofs.EdgeAgain.{set_pieces, not_store}
use Rattle.cx_vread.proofs.ExternalAgain.{externals_so}
use Rattle.cx_vread.proofs.FollowLines.{EdgeEndFollows, ItemsFollow, LastFollows, InstancesFollow, AssignsFollow, PortsDoneFollow, Follows, module_opens}

-- External memories, modules and ports.
pub external_again : (e : PlainExternal) (y : List ℕ) → external_fits e ≡ true → line_at Externals (clean ((line_text (ExternalLine e) ++ codes "\n") ++ y)) ≡ Some (Externals, clean y)
external_again e y h = ap (λ r. then_reads r (λ e q. Some (Externals, q))) (externals_so.reads_so e y h tt)

pub module_again : (n y : List ℕ) → is_name n ≡ true → module_line (clean ((line_text (ModuleLine n) ++ codes "\n") ++ y)) ≡ Some (Port, clean y)
module_again n y h =
    let e : (line_text (ModuleLine n) ++ codes "\n") ++ y ≡ codes "module " ++ (n ++ (codes "(\n" ++ y)) = simp append_assoc in
    ap (λ t. module_line (clean t)) e ∙ ap (λ r. then_reads r (λ n r. fixed_by (codes "(\n") Port r)) (name_again n (codes "(\n" ++ y) h refl)

pub first_again : (n y : List ℕ) → is_name n ≡ true → line_at Externals (clean ((line_text (ModuleLine n) ++ codes "\n") ++ y)) ≡ Some (Port, clean y)
first_again n y h = module_again n y h

pub next_port_again : (p : PlainPort) (y : List ℕ) → port_fits p ≡ true → port_line (clean ((line_text (PortLine p true) ++ codes "\n") ++ y)) ≡ Some (Port, clean y)
next_port_again p y h =
    let fits = and_parts (is_name p.name) (nat_lt 0 p.width) h in
    let e : (line_text (PortLine p true) ++ codes "\n") ++ y ≡ side_text p.output ++ (bounds_text p.width ++ (p.name ++ (codes ",\n" ++ y))) = simp append_assoc in
    ap (λ t. port_line (clean t)) e
    ∙ ap (λ r. then_reads r (λ x q. if begins (codes ",") q then fixed_by (codes ",\n") Port q else fixed_by (codes "\n") PortsDone q)) (port_again p.output p.name p.width (codes ",\n" ++ y) fits.0 fits.1 refl)

pub last_port_again : (p : PlainPort) (y : List ℕ) → port_fits p ≡ true → port_line (clean ((line_text (PortLine p false) ++ codes "\n") ++ y)) ≡ Some (PortsDone, clean y)
last_port_again p y h =
    let fits = and_parts (is_name p.name) (nat_lt 0 p.width) h in
    let e : (line_text (PortLine p false) ++ codes "\n") ++ y ≡ side_text p.output ++ (bounds_text p.width ++ (p.name ++ ([] ++ (codes "\n" ++ y)))) = simp append_assoc in
    ap (λ t. port_line (clean t)) e
    ∙ ap (λ r. then_reads r (λ x q. if begins (codes ",") q then fixed_by (codes ",\n") Port q else fixed_by (codes "\n") PortsDone q)) (port_again p.output p.name p.width (codes "\n" ++ y) fits.0 fits.1 refl)

-- Declarations.
abbrev named_end : Place → Reads Between
named_end p = then_reads (name_at p) (λ n s. if begins (codes ";") s then fixed_by (codes ";\n") Decls s else array_line s)

pub decl_again : (d : PlainDecl) (y : List ℕ) → decl_fits d ≡ true → decl_line (clean ((line_text (DeclLine d) ++ codes "\n") ++ y)) ≡ Some (Decls, clean y)
decl_again (WireOf n w) y h =
    let fits = and_parts (is_name n) (nat_lt 0 w) h in
    ap (λ t. decl_line (clean t)) (wire_pieces (bounds_text w) n y)
    ∙ ap (λ r. then_reads r (λ w r. then_reads (name_at r) (λ n s. fixed_by (codes ";\n") Decls s))) (bounds_again w (n ++ (codes ";\n" ++ y)) fits.1)
    ∙ ap (λ r. then_reads r (λ n s. fixed_by (codes ";\n") Decls s)) (name_again n (codes ";\n" ++ y) fits.0 refl)
decl_again (RegisterOf n w) y h =
    let fits = and_parts (is_name n) (nat_lt 0 w) h in
    ap (λ t. decl_line (clean t)) (register_pieces (bounds_text w) n y)
    ∙ ap (λ r. then_reads r (λ w r. named_end r)) (bounds_again w (n ++ (codes ";\n" ++ y)) fits.1)
    ∙ ap (λ r. then_reads r (λ n s. if begins (codes ";") s then fixed_by (codes ";\n") Decls s else array_line s)) (name_again n (codes ";\n" ++ y) fits.0 refl)
decl_again (ArrayOf n w k) y h =
    let fit = and_parts (is_name n && nat_lt 0 w) (nat_lt 0 k) h in
    let fits = and_parts (is_name n) (nat_lt 0 w) fit.0 in
    let end : List ℕ = decimal_text (k - 1) ++ (codes "];\n" ++ y) in
    ap (λ t. decl_line (clean t)) (array_pieces (bounds_text w) n (decimal_text (k - 1)) y)
    ∙ ap (λ r. then_reads r (λ w r. named_end r)) (bounds_again w (n ++ (codes " [0:" ++ end)) fits.1)
    ∙ ap (λ r. then_reads r (λ n s. if begins (codes ";") s then fixed_by (codes ";\n") Decls s else array_line s)) (name_again n (codes " [0:" ++ end) fits.0 refl)
    ∙ ap (λ r. then_reads r (λ k r. fixed_by (codes "];\n") Decls r)) (small_again (k - 1) (codes "];\n" ++ y) refl)

pub own_decl_again : (d : PlainDecl) (y : List ℕ) → decl_fits d ≡ true → line_at Decls (clean ((line_text (DeclLine d) ++ codes "\n") ++ y)) ≡ Some (Decls, clean y)
own_decl_again d y h =
    let p : Place = clean ((line_text (DeclLine d) ++ codes "\n") ++ y) in
    ap (λ b. if b then decl_line p else after_decls p) (starts_decl d y) ∙ decl_again d y h

-- Assigns, and the lines of an edge.
value_again : (next : Between) (e : PlainExpr) (y : List ℕ) → expr_fits e ≡ true → value_line next (clean (expr_text e ++ (codes ";\n" ++ y))) ≡ Some (next, clean y)
value_again next e y h = ap (λ o. then_at o (fixed_by (codes ";\n") next)) (passed_again e (codes ";\n" ++ y) h (closed 59 _ refl refl))

pub assign_again : (a : PlainAssign) (y : List ℕ) → assign_fits a ≡ true → after_decls (clean ((line_text (AssignLine a) ++ codes "\n") ++ y)) ≡ Some (Assigns, clean y)
assign_again a y h =
    let fits = and_parts (is_name a.name) (expr_fits a.value) h in
    ap (λ t. after_decls (clean t)) (assign_pieces a.name (expr_text a.value) y)
    ∙ ap (λ r. then_reads r (λ n r. then_at (after (codes " = ") r) (value_line Assigns))) (name_again a.name (codes " = " ++ (expr_text a.value ++ (codes ";\n" ++ y))) fits.0 refl)
    ∙ value_again Assigns a.value y fits.1

set_again : (next : Between) (n : List ℕ) (e : PlainExpr) (y : List ℕ) → is_name n ≡ true → expr_fits e ≡ true
    → set_line next (clean (codes "      " ++ (n ++ (codes " <= " ++ (expr_text e ++ (codes ";\n" ++ y)))))) ≡ Some (next, clean y)
set_again next n e y f g =
    ap (λ r. then_reads r (λ n r. then_at (after (codes " <= ") r) (value_line next))) (name_again n (codes " <= " ++ (expr_text e ++ (codes ";\n" ++ y))) f refl)
    ∙ value_again next e y g

pub own_set_again : (a : PlainAssign) (y : List ℕ) → assign_fits a ≡ true → line_at Sets (clean ((line_text (SetLine a) ++ codes "\n") ++ y)) ≡ Some (Sets, clean y)
own_set_again a y h =
    let fits = and_parts (is_name a.name) (expr_fits a.value) h in
    ap (λ t. line_at Sets (clean t)) (set_pieces a y) ∙ set_again Sets a.name a.value y fits.0 fits.1

store_again : (g : PlainExpr) (n : List ℕ) (i v : PlainExpr) (y : List ℕ) → is_name n ≡ true → expr_fits g ≡ true → expr_fits i ≡ true → expr_fits v ≡ true
    → store_line (clean (codes "      if (" ++ (expr_text g ++ (codes ") " ++ (n ++ (codes "[" ++ (expr_text i ++ (codes "] <= " ++ (expr_text v ++ (codes ";\n" ++ y)))))))))) ≡ Some (Items, clean y)
store_again g n i v y fn fg fi fv =
    let x3 : List ℕ = codes "] <= " ++ (expr_text v ++ (codes ";\n" ++ y)) in
    let x2 : List ℕ = codes "[" ++ (expr_text i ++ x3) in
    ap (λ o. then_at (then_at o (λ r. then_at (after (codes ") ") r) (λ s. then_reads (name_at s) (λ n t. after (codes "[") t)))) (λ q. then_at (passed_at q) (λ r. then_at (after (codes "] <= ") r) (value_line Items))))
    (passed_again g (codes ") " ++ (n ++ x2)) fg (closed 41 _ refl refl))
    ∙ ap (λ r. then_at (then_reads r (λ n t. after (codes "[") t)) (λ q. then_at (passed_at q) (λ r. then_at (after (codes "] <= ") r) (value_line Items)))) (name_again n x2 fn refl)
    ∙ ap (λ o. then_at o (λ r. then_at (after (codes "] <= ") r) (value_line Items))) (passed_again i x3 fi (closed 93 _ refl refl))
    ∙ value_again Items v y fv

pub own_item_again : (i : PlainItem) (y : List ℕ) → item_fits i ≡ true → line_at Items (clean ((line_text (item_line i) ++ codes "\n") ++ y)) ≡ Some (Items, clean y)
own_item_again (SetTo a) y h =
    let fits = and_parts (is_name a.name) (expr_fits a.value) h in
    let p : Place = clean (codes "      " ++ (a.name ++ (codes " <= " ++ (expr_text a.value ++ (codes ";\n" ++ y))))) in
    ap (λ t. line_at Items (clean t)) (set_pieces a y)
    ∙ ap (λ b. if b then store_line p else set_line Items p) (not_store a.name (codes "<= " ++ (expr_text a.value ++ (codes ";\n" ++ y))) fits.0)
    ∙ set_again Items a.name a.value y fits.0 fits.1
own_item_again (StoreTo s) y h =
    let f3 = and_parts (is_name s.array && expr_fits s.guard && expr_fits s.index) (expr_fits s.value) h in
    let f2 = and_parts (is_name s.array && expr_fits s.guard) (expr_fits s.index) f3.0 in
    let f1 = and_parts (is_name s.array) (expr_fits s.guard) f2.0 in
    ap (λ t. line_at Items (clean t)) (store_pieces (expr_text s.guard) s.array (expr_text s.index) (expr_text s.value) y) ∙ store_again s.guard s.array s.index s.value y f1.0 f1.1 f2.1 f3.1

-- Instances.
pub instance_again : (i : PlainInstance) (y : List ℕ) → instance_fits i ≡ true → after_assigns (clean ((line_text (InstanceLine i) ++ codes "\n") ++ y)) ≡ Some (Instances, clean y)
instance_again i y h =
    let p : Place = clean ((line_text (InstanceLine i) ++ codes "\n") ++ y) in
    ap (λ b. if b then instance_line p else after_instances p) (starts_instance i y h) ∙ ap (λ r. then_reads r (λ i q. Some (Instances, q))) (instances_so.reads_so i y h tt)

-- What follows is read as its first line.
pub record Steps (b : Between) (x : List ℕ) : Type 0 where
  pub next : Between
  pub more : List ℕ
  pub reads : line_at b (clean x) ≡ Some (next, clean more)
  pub behind : Follows next more

abbrev pub Ends : Between → List ℕ → Type 0
Ends b x = (b ≡ Modules) × (x ≡ [])

-- lines of one kind, of which one stands first
regroup : (own rest more : List ℕ) → (own ++ rest) ++ more ≡ own ++ (rest ++ more)
regroup own rest more = append_assoc own rest more

externals_step : (es : List PlainExternal) (ms : List PlainModule) → list_all external_fits es ≡ true → list_all module_fits ms ≡ true → 0 < length ms → Steps Externals (lines_text (map ExternalLine es) ++ modules_text ms)
externals_step [] [] f g some = absurd (omega arith)
externals_step [] (m ∷ ms) f g some =
    let fit = and_parts (module_fits m) (list_all module_fits ms) g in
    let o = module_opens m (modules_text ms) fit.0 (record { modules = ms; fit = fit.1; text_is = refl }) in
    record { next = Port; more = o.more; reads = ap (λ t. line_at Externals (clean t)) o.text_is ∙ first_again m.name o.more o.name; behind = o.behind }
externals_step (e ∷ es) ms f g some =
    let fit = and_parts (external_fits e) (list_all external_fits es) f in
    let own : List ℕ = line_text (ExternalLine e) ++ codes "\n" in
    let more : List ℕ = lines_text (map ExternalLine es) ++ modules_text ms in
    record {
      next = Externals;
      more = more;
      reads = ap (λ t. line_at Externals (clean t)) (regroup own (lines_text (map ExternalLine es)) (modules_text ms)) ∙ external_again e more fit.0;
      behind = record { externals = es; modules = ms; fit = fit.1; modules_fit = g; some = some; text_is = refl };
    }

modules_step : (ms : List PlainModule) → list_all module_fits ms ≡ true → Ends Modules (modules_text ms) ⊎ Steps Modules (modules_text ms)
modules_step [] f = inl (refl, refl)
modules_step (m ∷ ms) f =
    let fit = and_parts (module_fits m) (list_all module_fits ms) f in
    let o = module_opens m (modules_text ms) fit.0 (record { modules = ms; fit = fit.1; text_is = refl }) in
    inr (record { next = Port; more = o.more; reads = ap (λ t. line_at Modules (clean t)) o.text_is ∙ module_again m.name o.more o.name; behind = o.behind })

ports_step : (p : PlainPort) (ps : List PlainPort) (more : List ℕ) → list_all port_fits (p ∷ ps) ≡ true → PortsDoneFollow more → Steps Port (lines_text (port_lines (p ∷ ps)) ++ more)
ports_step p [] more f h =
    let own : List ℕ = line_text (PortLine p false) ++ codes "\n" in
    record {
      next = PortsDone;
      more = more;
      reads = ap (λ t. line_at Port (clean t)) (regroup own [] more) ∙ last_port_again p more (and_parts (port_fits p) true f).0;
      behind = h;
    }
ports_step p (q ∷ ps) more f h =
    let fit = and_parts (port_fits p) (list_all port_fits (q ∷ ps)) f in
    let own : List ℕ = line_text (PortLine p true) ++ codes "\n" in
    let rest : List ℕ = lines_text (port_lines (q ∷ ps)) in
    record {
      next = Port;
      more = rest ++ more;
      reads = ap (λ t. line_at Port (clean (t ++ more))) (one_more_port p q ps) ∙ ap (λ t. line_at Port (clean t)) (regroup own rest more) ∙ next_port_again p (rest ++ more) fit.0;
      behind = record { first = q; others = ps; more = more; fit = fit.1; text_is = refl; behind = h };
    }

-- where no instance stands
last_step : (x : List ℕ) → LastFollows x → Steps Instances x
last_step x (inl f) = record { next = Modules; more = f.more; reads = ap (λ t. after_assigns (clean t)) f.text_is; behind = f.behind }
last_step x (inr f) = record { next = Branches; more = f.more; reads = ap (λ t. after_assigns (clean t)) f.text_is; behind = f.behind }

last-not_assign : (x : List ℕ) → LastFollows x → begins (codes "  assign ") (clean x) ≡ false
last-not_assign x (inl f) = ap (λ t. begins (codes "  assign ") (clean t)) f.text_is
last-not_assign x (inr f) = ap (λ t. begins (codes "  assign ") (clean t)) f.text_is

last-not_decl : (x : List ℕ) → LastFollows x → is_decl (clean x) ≡ false
last-not_decl x (inl f) = ap (λ t. is_decl (clean t)) f.text_is
last-not_decl x (inr f) = ap (λ t. is_decl (clean t)) f.text_is

instances_step : (is : List PlainInstance) (more : List ℕ) → list_all instance_fits is ≡ true → LastFollows more → Steps Instances (lines_text (map InstanceLine is) ++ more)
instances_step [] more f h = last_step more h
instances_step (i ∷ is) more f h =
    let fit = and_parts (instance_fits i) (list_all instance_fits is) f in
    let own : List ℕ = line_text (InstanceLine i) ++ codes "\n" in
    let rest : List ℕ = lines_text (map InstanceLine is) in
    record {
      next = Instances;
      more = rest ++ more;
      reads = ap (λ t. after_assigns (clean t)) (regroup own rest more) ∙ instance_again i (rest ++ more) fit.0;
      behind = record { instances = is; more = more; fit = fit.1; text_is = refl; behind = h };
    }

instances-not_assign : (is : List PlainInstance) (more : List ℕ) → list_all instance_fits is ≡ true → LastFollows more → begins (codes "  assign ") (clean (lines_text (map InstanceLine is) ++ more)) ≡ false
instances-not_assign [] more f h = last-not_assign more h
instances-not_assign (i ∷ is) more f h =
    let own : List ℕ = line_text (InstanceLine i) ++ codes "\n" in
    ap (λ t. begins (codes "  assign ") (clean t)) (regroup own (lines_text (map InstanceLine is)) more)
    ∙ instance-not_assign i (lines_text (map InstanceLine is) ++ more) (and_parts (instance_fits i) (list_all instance_fits is) f).0

instances-not_decl : (is : List PlainInstance) (more : List ℕ) → list_all instance_fits is ≡ true → LastFollows more → is_decl (clean (lines_text (map InstanceLine is) ++ more)) ≡ false
instances-not_decl [] more f h = last-not_decl more h
instances-not_decl (i ∷ is) more f h =
    let own : List ℕ = line_text (InstanceLine i) ++ codes "\n" in
    ap (λ t. is_decl (clean t)) (regroup own (lines_text (map InstanceLine is)) more)
    ∙ instance-not_decl i (lines_text (map InstanceLine is) ++ more) (and_parts (instance_fits i) (list_all instance_fits is) f).0

assigns_step : (xs : List PlainAssign) (more : List ℕ) → list_all assign_fits xs ≡ true → InstancesFollow more → Steps Assigns (lines_text (map AssignLine xs) ++ more)
assigns_step [] more f h =
    let s = instances_step h.instances h.more h.fit h.behind in
    let other : begins (codes "  assign ") (clean more) ≡ false = ap (λ t. begins (codes "  assign ") (clean t)) h.text_is ∙ instances-not_assign h.instances h.more h.fit h.behind in
    record {
      next = s.next;
      more = s.more;
      reads = ap (λ b. if b then assign_line (clean more) else after_assigns (clean more)) other ∙ ap (λ t. after_assigns (clean t)) h.text_is ∙ s.reads;
      behind = s.behind;
    }
assigns_step (a ∷ xs) more f h =
    let fit = and_parts (assign_fits a) (list_all assign_fits xs) f in
    let own : List ℕ = line_text (AssignLine a) ++ codes "\n" in
    let rest : List ℕ = lines_text (map AssignLine xs) in
    record {
      next = Assigns;
      more = rest ++ more;
      reads = ap (λ t. after_decls (clean t)) (regroup own rest more) ∙ assign_again a (rest ++ more) fit.0;
      behind = record { assigns = xs; more = more; fit = fit.1; text_is = refl; behind = h };
    }

assigns-not_decl : (xs : List PlainAssign) (more : List ℕ) → InstancesFollow more → is_decl (clean (lines_text (map AssignLine xs) ++ more)) ≡ false
assigns-not_decl [] more h = ap (λ t. is_decl (clean t)) h.text_is ∙ instances-not_decl h.instances h.more h.fit h.behind
assigns-not_decl (a ∷ xs) more h = refl

decls_step : (ds : List PlainDecl) (more : List ℕ) → list_all decl_fits ds ≡ true → AssignsFollow more → Steps Decls (lines_text (map DeclLine ds) ++ more)
decls_step [] more f h =
    let s = assigns_step h.assigns h.more h.fit h.behind in
    let other : is_decl (clean more) ≡ false = ap (λ t. is_decl (clean t)) h.text_is ∙ assigns-not_decl h.assigns h.more h.behind in
    record {
      next = s.next;
      more = s.more;
      reads = ap (λ b. if b then decl_line (clean more) else after_decls (clean more)) other ∙ ap (λ t. after_decls (clean t)) h.text_is ∙ s.reads;
      behind = s.behind;
    }
decls_step (d ∷ ds) more f h =
    let fit = and_parts (decl_fits d) (list_all decl_fits ds) f in
    let own : List ℕ = line_text (DeclLine d) ++ codes "\n" in
    let rest : List ℕ = lines_text (map DeclLine ds) in
    record {
      next = Decls;
      more = rest ++ more;
      reads = ap (λ t. line_at Decls (clean t)) (regroup own rest more) ∙ own_decl_again d (rest ++ more) fit.0;
      behind = record { decls = ds; more = more; fit = fit.1; text_is = refl; behind = h };
    }

sets_step : (xs : List PlainAssign) (more : List ℕ) → list_all assign_fits xs ≡ true → ItemsFollow more → Steps Sets (lines_text (map SetLine xs) ++ (codes "    end else begin\n" ++ more))
sets_step [] more f h = record { next = Items; more = more; reads = refl; behind = h }
sets_step (a ∷ xs) more f h =
    let fit = and_parts (assign_fits a) (list_all assign_fits xs) f in
    let own : List ℕ = line_text (SetLine a) ++ codes "\n" in
    let rest : List ℕ = lines_text (map SetLine xs) in
    let end : List ℕ = codes "    end else begin\n" ++ more in
    record {
      next = Sets;
      more = rest ++ end;
      reads = ap (λ t. line_at Sets (clean t)) (regroup own rest end) ∙ own_set_again a (rest ++ end) fit.0;
      behind = record { sets = xs; more = more; fit = fit.1; text_is = refl; behind = h };
    }

items_step : (xs : List PlainItem) (more : List ℕ) → list_all item_fits xs ≡ true → EdgeEndFollows more → Steps Items (lines_text (map item_line xs) ++ (codes "    end\n" ++ more))
items_step [] more f h = record { next = EdgeDone; more = more; reads = refl; behind = h }
items_step (i ∷ xs) more f h =
    let fit = and_parts (item_fits i) (list_all item_fits xs) f in
    let own : List ℕ = line_text (item_line i) ++ codes "\n" in
    let rest : List ℕ = lines_text (map item_line xs) in
    let end : List ℕ = codes "    end\n" ++ more in
    record {
      next = Items;
      more = rest ++ end;
      reads = ap (λ t. line_at Items (clean t)) (regroup own rest end) ∙ own_item_again i (rest ++ end) fit.0;
      behind = record { items = xs; more = more; fit = fit.1; text_is = refl; behind = h };
    }

-- what stands elsewhere is the same text
moved : (b : Between) (x y : List ℕ) → x ≡ y → Steps b y → Steps b x
moved b x y same s = record { next = s.next; more = s.more; reads = ap (λ t. line_at b (clean t)) same ∙ s.reads; behind = s.behind }

pub follows_steps : (b : Between) (x : List ℕ) → Follows b x → Ends b x ⊎ Steps b x
follows_steps Externals x h = inr (moved Externals x _ h.text_is (externals_step h.externals h.modules h.fit h.modules_fit h.some))
follows_steps Modules x h = go (modules_step h.modules h.fit)
  where
    go : Ends Modules (modules_text h.modules) ⊎ Steps Modules (modules_text h.modules) → Ends Modules x ⊎ Steps Modules x
    go (inl e) = inl (refl, h.text_is ∙ e.1)
    go (inr s) = inr (moved Modules x _ h.text_is s)
follows_steps Port x h = inr (moved Port x _ h.text_is (ports_step h.first h.others h.more h.fit h.behind))
follows_steps PortsDone x h = inr (record { next = Decls; more = h.more; reads = ap (λ t. line_at PortsDone (clean t)) h.text_is; behind = h.behind })
follows_steps Decls x h = inr (moved Decls x _ h.text_is (decls_step h.decls h.more h.fit h.behind))
follows_steps Assigns x h = inr (moved Assigns x _ h.text_is (assigns_step h.assigns h.more h.fit h.behind))
follows_steps Instances x h = inr (moved Instances x _ h.text_is (instances_step h.instances h.more h.fit h.behind))
follows_steps Branches x h = inr (record { next = Sets; more = h.more; reads = ap (λ t. line_at Branches (clean t)) h.text_is; behind = h.behind })
follows_steps Sets x h = inr (moved Sets x _ h.text_is (sets_step h.sets h.more h.fit h.behind))
follows_steps Items x h = inr (moved Items x _ h.text_is (items_step h.items h.more h.fit h.behind))
follows_steps EdgeDone x h = inr (record { next = ModuleDone; more = h.more; reads = ap (λ t. line_at EdgeDone (clean t)) h.text_is; behind = h.behind })
follows_steps ModuleDone x h = inr (record { next = Modules; more = h.more; reads = ap (λ t. line_at ModuleDone (clean t)) h.text_is; behind = h.behind })
