-- A source that is spelled is read.
use Rattle.std.proofs.Common.{◌≡◌, ℕ, ◌<◌, not, true, false, ◌&&◌, List, [], ◌∷◌, ◌++◌, map, length, Option, Some, None, refl, ◌∙◌, ap, sym, arith, append_assoc, append-nil}
use Rattle.std.specs.Prelude.{codes, nat_lt, option_map}
use Rattle.std.specs.List.{list_all}
use Rattle.std.proofs.lemmas.Bool.{and_parts, ltb-true, ne_eqb}
use Rattle.cx_vtree.specs.Layout.{is_name, port_fits, decl_fits, assign_fits, instance_fits, edge_fits, module_fits, external_fits, is_laid_out}
use Rattle.cx_vtree.specs.Lines.{ExternalLine, DeclLine, AssignLine, InstanceLine, lines_text}
use Rattle.cx_vtree.specs.Plain.{PlainPort, PlainAssign, PlainInstance, PlainEdge, PlainModule, PlainExternal, PlainSource}
use Rattle.cx_vtree.specs.Sound.{Scope, meant_in}
use Rattle.cx_vtree.specs.Spelling.{port_lines, edge_lines, module_lines, modules_lines, text_of}
use Rattle.cx_vwrite.specs.Pieces.{modules_text}
use Rattle.cx_vwrite.proofs.LinesText.{lines_text_append, whole_text, modules_text-lines}
use Rattle.cx_vread_exprs.specs.Places as places
use Rattle.cx_vread_exprs.specs.Places.{Place, Reads, then_reads, then_at, begins, many}
use Rattle.cx_vread.specs.Held.{is_held}
use Rattle.cx_vread.proofs.Kept.{kept_port, kept_decl, kept_assign, kept_edge, kept_scope, kept_module, kept_external, kept_source}
use Rattle.cx_vread.proofs.KeptSame.{held_kept}
use Rattle.cx_vread.specs.Parts.{is_decl, is_instance, ports_at, instances_at, edge_or_none_at, head_at, body_at, with_body, module_by, module_at, is_left, more_modules_at, modules_at, source_at}
use Rattle.cx_vread.proofs.EdgeAgain.{edge_again}
use Rattle.cx_vread_exprs.proofs.ExprAgain.{name_again}
use Rattle.cx_vread.proofs.ExternalAgain.{externals_again}
use Rattle.cx_vread.proofs.InstanceAgain.{instance_text_of, instances_again, instance-not_assign, instance-not_decl}
use Rattle.cx_vread.proofs.LineAgain.{ports_again, decls_again, assigns_again}
use Rattle.cx_vread.proofs.ManyAgain.{joined_text, Again, all_again, Anything}
use Rattle.cx_vread_exprs.proofs.NumberAgain.{clean}

-- Where the lines of one kind end, no line of it begins.
edge-not_decl : (e : Option PlainEdge) (y : List ℕ) → is_decl (clean (lines_text (edge_lines e) ++ (codes "endmodule\n" ++ y))) ≡ false
edge-not_decl None y = refl
edge-not_decl (Some e) y = refl

edge-not_assign : (e : Option PlainEdge) (y : List ℕ) → begins (codes "  assign ") (clean (lines_text (edge_lines e) ++ (codes "endmodule\n" ++ y))) ≡ false
edge-not_assign None y = refl
edge-not_assign (Some e) y = refl

edge-not_instance : (e : Option PlainEdge) (y : List ℕ) → is_instance (clean (lines_text (edge_lines e) ++ (codes "endmodule\n" ++ y))) ≡ false
edge-not_instance None y = refl
edge-not_instance (Some e) y = refl

instances-not_decl : (is : List PlainInstance) (e : Option PlainEdge) (y : List ℕ) → list_all instance_fits is ≡ true
    → is_decl (clean (lines_text (map InstanceLine is) ++ (lines_text (edge_lines e) ++ (codes "endmodule\n" ++ y)))) ≡ false
instances-not_decl [] e y f = edge-not_decl e y
instances-not_decl (i ∷ is) e y f =
    let z : List ℕ = lines_text (edge_lines e) ++ (codes "endmodule\n" ++ y) in
    ap (λ t. is_decl (clean t)) (append_assoc (instance_text_of i) (lines_text (map InstanceLine is)) z)
    ∙ instance-not_decl i (lines_text (map InstanceLine is) ++ z) (and_parts (instance_fits i) (list_all instance_fits is) f).0

instances-not_assign : (is : List PlainInstance) (e : Option PlainEdge) (y : List ℕ) → list_all instance_fits is ≡ true
    → begins (codes "  assign ") (clean (lines_text (map InstanceLine is) ++ (lines_text (edge_lines e) ++ (codes "endmodule\n" ++ y)))) ≡ false
instances-not_assign [] e y f = edge-not_assign e y
instances-not_assign (i ∷ is) e y f =
    let z : List ℕ = lines_text (edge_lines e) ++ (codes "endmodule\n" ++ y) in
    ap (λ t. begins (codes "  assign ") (clean t)) (append_assoc (instance_text_of i) (lines_text (map InstanceLine is)) z)
    ∙ instance-not_assign i (lines_text (map InstanceLine is) ++ z) (and_parts (instance_fits i) (list_all instance_fits is) f).0

assigns-not_decl : (xs : List PlainAssign) (z : List ℕ) → is_decl (clean z) ≡ false → is_decl (clean (lines_text (map AssignLine xs) ++ z)) ≡ false
assigns-not_decl [] z h = h
assigns-not_decl (a ∷ xs) z h = refl

head_again : (n : List ℕ) (ps : List PlainPort) (z : List ℕ) → is_name n ≡ true → 0 < length ps → list_all port_fits ps ≡ true
    → head_at (clean (codes "module " ++ (n ++ (codes "(\n" ++ (lines_text (port_lines ps) ++ (codes ");\n" ++ z)))))) ≡ Some ((n, map kept_port ps), clean z)
head_again n [] z f some fits = absurd (omega arith)
head_again n (p ∷ ps) z f some fits =
    ap (λ r. then_reads r (λ n r. then_at (places.after (codes "(\n") r) (λ s. then_reads (ports_at s) (λ ps t. Some ((n, ps), t))))) (name_again n (codes "(\n" ++ (lines_text (port_lines (p ∷ ps)) ++ (codes ");\n" ++ z))) f refl)
    ∙ ap (λ r. then_reads r (λ ps t. Some ((n, ps), t))) (ports_again p ps z fits)

regroup : (h n o p q d a i e c y : List ℕ) → (((h ++ n ++ o) ++ (p ++ (q ++ d))) ++ (a ++ (i ++ (e ++ c)))) ++ y ≡ h ++ (n ++ (o ++ (p ++ (q ++ (d ++ (a ++ (i ++ (e ++ (c ++ y)))))))))
regroup h n o p q d a i e c y = simp append_assoc

pub module_pieces : (m : PlainModule) (y : List ℕ) → lines_text (module_lines m) ++ y
    ≡ codes "module " ++ (m.name ++ (codes "(\n" ++ (lines_text (port_lines m.ports) ++ (codes ");\n" ++ (lines_text (map DeclLine m.decls)
    ++ (lines_text (map AssignLine m.assigns) ++ (lines_text (map InstanceLine m.instances) ++ (lines_text (edge_lines m.edge) ++ (codes "endmodule\n" ++ y)))))))))
module_pieces m y =
    ap (λ t. t ++ y) (whole_text m)
    ∙ regroup (codes "module ") m.name (codes "(\n") (lines_text (port_lines m.ports)) (codes ");\n") (lines_text (map DeclLine m.decls)) (lines_text (map AssignLine m.assigns)) (lines_text (map InstanceLine m.instances)) (lines_text (edge_lines m.edge)) (codes "endmodule\n") y

-- the parts behind the declarations, where names have these meanings
body_again : (scope : Scope) (xs : List PlainAssign) (is : List PlainInstance) (e : Option PlainEdge) (y : List ℕ) → list_all assign_fits xs ≡ true → list_all instance_fits is ≡ true → edge_fits e ≡ true
    → body_at scope (clean (lines_text (map AssignLine xs) ++ (lines_text (map InstanceLine is) ++ (lines_text (edge_lines e) ++ (codes "endmodule\n" ++ y)))))
    ≡ Some (record { assigns = map (kept_assign scope) xs; instances = is; edge = option_map (kept_edge scope) e }, clean y)
body_again scope xs is e y fx fi fe =
    let z4 : List ℕ = codes "endmodule\n" ++ y in
    let z3 : List ℕ = lines_text (edge_lines e) ++ z4 in
    let z2 : List ℕ = lines_text (map InstanceLine is) ++ z3 in
    ap (λ r. then_reads r (λ xs q. then_reads (instances_at q) (λ is r. then_reads (edge_or_none_at scope r) (λ e s. then_at (places.after (codes "endmodule\n") s) (λ t. Some (record { assigns = xs; instances = is; edge = e }, t))))))
    (assigns_again scope xs z2 fx (instances-not_assign is e y fi))
    ∙ ap (λ r. then_reads r (λ is r. then_reads (edge_or_none_at scope r) (λ e s. then_at (places.after (codes "endmodule\n") s) (λ t. Some (record { assigns = map (kept_assign scope) xs; instances = is; edge = e }, t)))))
    (instances_again is z3 fi (edge-not_instance e y))
    ∙ ap (λ r. then_reads r (λ e s. then_at (places.after (codes "endmodule\n") s) (λ t. Some (record { assigns = map (kept_assign scope) xs; instances = is; edge = e }, t))))
    (edge_again scope e z4 fe refl)

module_again : (m : PlainModule) (y : List ℕ) → module_fits m ≡ true → module_at (clean (lines_text (module_lines m) ++ y)) ≡ Some (kept_module m, clean y)
module_again m y f =
    let f6 = and_parts (is_name m.name && nat_lt 0 (length m.ports) && list_all port_fits m.ports && list_all decl_fits m.decls && list_all assign_fits m.assigns && list_all instance_fits m.instances) (edge_fits m.edge) f in
    let f5 = and_parts (is_name m.name && nat_lt 0 (length m.ports) && list_all port_fits m.ports && list_all decl_fits m.decls && list_all assign_fits m.assigns) (list_all instance_fits m.instances) f6.0 in
    let f4 = and_parts (is_name m.name && nat_lt 0 (length m.ports) && list_all port_fits m.ports && list_all decl_fits m.decls) (list_all assign_fits m.assigns) f5.0 in
    let f3 = and_parts (is_name m.name && nat_lt 0 (length m.ports) && list_all port_fits m.ports) (list_all decl_fits m.decls) f4.0 in
    let f2 = and_parts (is_name m.name && nat_lt 0 (length m.ports)) (list_all port_fits m.ports) f3.0 in
    let f1 = and_parts (is_name m.name) (nat_lt 0 (length m.ports)) f2.0 in
    let z2 : List ℕ = lines_text (map InstanceLine m.instances) ++ (lines_text (edge_lines m.edge) ++ (codes "endmodule\n" ++ y)) in
    let z1 : List ℕ = lines_text (map AssignLine m.assigns) ++ z2 in
    let h0 : List ℕ × List PlainPort = (m.name, map kept_port m.ports) in
    ap (λ t. module_at (clean t)) (module_pieces m y)
    ∙ ap (λ r. then_reads r module_by) (head_again m.name m.ports (lines_text (map DeclLine m.decls) ++ z1) f1.0 (ltb-true 0 (length m.ports) f1.1) f2.1)
    ∙ ap (λ r. then_reads r (λ ds q. then_reads (body_at (meant_in h0.1 ds) q) (λ b r. Some (with_body h0 ds b, r))))
    (decls_again m.decls z1 f3.1 (assigns-not_decl m.assigns z2 (instances-not_decl m.instances m.edge y f5.1)))
    ∙ ap (λ r. then_reads r (λ b r. Some (with_body h0 (map kept_decl m.decls) b, r))) (body_again (kept_scope m) m.assigns m.instances m.edge y f4.1 f5.1 f6.1)

abbrev module_text_of : PlainModule → List ℕ
module_text_of m = lines_text (module_lines m)

modules_so : Again is_left module_at kept_module module_text_of module_fits Anything
modules_so = record {
  starts_so = λ m y h. ap not (ne_eqb (length (module_text_of m ++ y)) 0 (λ e. omega arith));
  reads_so = λ m y h ends. module_again m y h;
  follows_so = λ m y h. tt;
  some_text = λ m h. omega arith;
}

pub modules_joined : (ms : List PlainModule) → modules_text ms ≡ joined_text module_text_of ms
modules_joined [] = refl
modules_joined (m ∷ ms) = ap (λ t. lines_text (module_lines m) ++ t) (modules_joined ms)

modules_again : (m : PlainModule) (ms : List PlainModule) → list_all module_fits (m ∷ ms) ≡ true
    → modules_at (clean (modules_text (m ∷ ms))) ≡ Some (map kept_module (m ∷ ms), clean [])
modules_again m ms f =
    let fit = and_parts (module_fits m) (list_all module_fits ms) f in
    let t : List ℕ = joined_text module_text_of ms ++ [] in
    ap (λ t. modules_at (clean (lines_text (module_lines m) ++ t))) (modules_joined ms ∙ sym (append-nil (joined_text module_text_of ms)))
    ∙ ap (λ r. then_reads r (λ m q. then_reads (more_modules_at q) (λ ms r. Some (m ∷ ms, r)))) (module_again m t fit.0)
    ∙ ap (λ r. then_reads r (λ ms r. Some (kept_module m ∷ ms, r))) (all_again modules_so ms [] fit.1 tt refl)

source_of_parts : (es : List PlainExternal) (ms : List PlainModule) → list_all external_fits es ≡ true → 0 < length ms → list_all module_fits ms ≡ true
    → source_at (clean (lines_text (map ExternalLine es) ++ modules_text ms)) ≡ Some (record { externals = map kept_external es; modules = map kept_module ms }, clean [])
source_of_parts es [] f some g = absurd (omega arith)
source_of_parts es (m ∷ ms) f some g =
    ap (λ r. then_reads r (λ es q. then_reads (modules_at q) (λ ms r. Some (record { externals = es; modules = ms }, r)))) (externals_again es (modules_text (m ∷ ms)) f refl)
    ∙ ap (λ r. then_reads r (λ ms r. Some (record { externals = map kept_external es; modules = ms }, r))) (modules_again m ms g)

pub source_text : (s : PlainSource) → text_of s ≡ lines_text (map ExternalLine s.externals) ++ modules_text s.modules
source_text s = lines_text_append (map ExternalLine s.externals) (modules_lines s.modules) ∙ ap (λ t. lines_text (map ExternalLine s.externals) ++ t) (sym (modules_text-lines s.modules))

-- the text of a source is read as what a tree keeps of it
pub source_kept : (s : PlainSource) → is_laid_out s ≡ true → source_at (clean (text_of s)) ≡ Some (kept_source s, clean [])
source_kept s f =
    let f2 = and_parts (list_all external_fits s.externals && nat_lt 0 (length s.modules)) (list_all module_fits s.modules) f in
    let f1 = and_parts (list_all external_fits s.externals) (nat_lt 0 (length s.modules)) f2.0 in
    ap (λ t. source_at (clean t)) (source_text s)
    ∙ source_of_parts s.externals s.modules f1.0 (ltb-true 0 (length s.modules) f1.1) f2.1

-- so a source that a tree holds is read as it
pub source_again : (s : PlainSource) → is_laid_out s ≡ true → is_held s ≡ true → source_at (clean (text_of s)) ≡ Some (s, clean [])
source_again s f h = source_kept s f ∙ ap (λ t. Some (t, clean [])) (held_kept s h)
