-- A source that is read stands in the text.
use Rattle.std.proofs.Common.{◌≡◌, ℕ, ◌+◌, ◌<◌, ◌≤◌, ◌==◌, ◌⊎◌, ⊎_elim, true, false, ◌&&◌, List, [], ◌∷◌, ◌++◌, map, length, Option, Some, ◌∙◌, ap, sym, arith, append_assoc, append-nil, length-append}
use Rattle.std.specs.Prelude.{codes, nat_lt, option_map}
use Rattle.std.specs.List.{list_all}
use Rattle.std.proofs.lemmas.Bool.{and_from, lt-ltb, eqb-true, not-false}
use Rattle.std.proofs.lemmas.List.{map-id, nil_from_length}
use Rattle.cx_vtree.specs.Layout.{is_name, port_fits, decl_fits, assign_fits, instance_fits, edge_fits, module_fits, external_fits, is_laid_out}
use Rattle.cx_vtree.specs.Lines.{Line, ExternalLine, DeclLine, AssignLine, InstanceLine, line_text, lines_text}
use Rattle.cx_vtree.specs.Plain.{PlainPort, PlainDecl, PlainAssign, PlainInstance, PlainEdge, PlainModule, PlainSource}
use Rattle.cx_vtree.specs.Sound.{Scope, meant_in}
use Rattle.cx_vtree.specs.Spelling.{port_lines, edge_lines, module_lines, text_of}
use Rattle.cx_vwrite.specs.Pieces.{modules_text}
use Rattle.cx_vread_exprs.specs.Places.{Place, then_reads, then_at, after, begins}
use Rattle.cx_vread_exprs.specs.Tokens.{name_at}
use Rattle.cx_vread_exprs.proofs.Found.{ends, then_reads_some, step_at, name_found}
use Rattle.cx_vread.specs.Parts.{externals_at, external_at, ports_at, is_decl, decl_at, decls_at, assign_at, assigns_at, is_instance, instance_at, instances_at, edge_or_none_at, head_at, PlainBody, body_at, with_body, module_by, module_at, is_left, more_modules_at, modules_at, source_at}
use Rattle.cx_vread.proofs.Kept.{kept_port, kept_decl, kept_assign, kept_edge, kept_module, kept_source}
use Rattle.cx_vread.proofs.ManyAgain.{joined_text, lines_joined}
use Rattle.cx_vread.proofs.SourceAgain.{module_pieces, modules_joined, source_text}
use Rattle.cx_vread.proofs.ManyFound.{FindsBy, many_found}
use Rattle.cx_vread.proofs.LinesFound.{external_found, ports_found, decl_found, assign_found}
use Rattle.cx_vread.proofs.InstancesFound.{instance_found}
use Rattle.cx_vread.proofs.EdgesFound.{edge_found}

abbrev module_text_of : PlainModule → List ℕ
module_text_of m = lines_text (module_lines m)

-- the parts of a module behind its ports
record BodyFound (n : List ℕ) (ps : List PlainPort) (p : Place) (y : PlainModule) (q : Place) : Type 0 where
  one : (ports : List PlainPort) → PlainModule
  text_is : (ports : List PlainPort) → codes "module " ++ (n ++ (codes "(\n" ++ (lines_text (port_lines ports) ++ (codes ");\n" ++ p.rest)))) ≡ module_text_of (one ports) ++ q.rest
  fits_is : p.fits ≡ true
  kept_is : (ports : List PlainPort) → map kept_port ports ≡ ps → kept_module (one ports) ≡ y
  good_is : (ports : List PlainPort) → is_name n ≡ true → nat_lt 0 (length ports) ≡ true → list_all port_fits ports ≡ true → module_fits (one ports) ≡ true

abbrev body_of : List PlainAssign → List PlainInstance → Option PlainEdge → PlainBody
body_of xs is e = record { assigns = xs; instances = is; edge = e }

same_body : (xs ys : List PlainAssign) (is js : List PlainInstance) (e f : Option PlainEdge) (b : PlainBody)
    → xs ≡ ys → is ≡ js → e ≡ f → body_of ys js f ≡ b → body_of xs is e ≡ b
same_body xs ys is js e f b p q r h = ap (λ xs. body_of xs is e) p ∙ ap (λ is. body_of ys is e) q ∙ ap (body_of ys js) r ∙ h

abbrev made : List ℕ → List PlainPort → List PlainDecl → List PlainAssign → List PlainInstance → Option PlainEdge → PlainModule
made n ps ds xs is e = record { name = n; ports = ps; decls = ds; assigns = xs; instances = is; edge = e }

-- lines of one kind, and texts one behind the other
lines_there : {X : Type 0} (line : X → Line) (xs : List X) (p r : List ℕ) → p ≡ joined_text (λ x. line_text (line x) ++ codes "\n") xs ++ r → p ≡ lines_text (map line xs) ++ r
lines_there line xs p r e = e ∙ ap (λ t. t ++ r) (sym (lines_joined line xs))

chained : (p p2 p3 p4 q a i e m : List ℕ) → p ≡ a ++ p2 → p2 ≡ i ++ p3 → p3 ≡ e ++ p4 → p4 ≡ m ++ q → p ≡ a ++ (i ++ (e ++ (m ++ q)))
chained p p2 p3 p4 q a i e m g h k l = g ∙ ap (λ t. a ++ t) (h ∙ ap (λ t. i ++ t) (k ∙ ap (λ t. e ++ t) l))

-- the parts behind the declarations, where names have these meanings
record TailFound (scope : Scope) (p : Place) (b : PlainBody) (q : Place) : Type 0 where
  assigns : List PlainAssign
  instances : List PlainInstance
  edge : Option PlainEdge
  text_is : p.rest ≡ lines_text (map AssignLine assigns) ++ (lines_text (map InstanceLine instances) ++ (lines_text (edge_lines edge) ++ (codes "endmodule\n" ++ q.rest)))
  fits_is : p.fits ≡ true
  kept_is : body_of (map (kept_assign scope) assigns) instances (option_map (kept_edge scope) edge) ≡ b
  good_assigns : list_all assign_fits assigns ≡ true
  good_instances : list_all instance_fits instances ≡ true
  edge_laid : edge_fits edge ≡ true

tail_found : (scope : Scope) (p : Place) (b : PlainBody) (q : Place) → body_at scope p ≡ Some (b, q) → q.fits ≡ true → TailFound scope p b q
tail_found scope p b q is ok =
    let s2 = then_reads_some (assigns_at scope p) b q (λ xs r. then_reads (instances_at r) (λ is s. then_reads (edge_or_none_at scope s) (λ e t. then_at (after (codes "endmodule\n") t) (λ u. Some (body_of xs is e, u))))) is in
    let s3 = then_reads_some (instances_at s2.1) b q (λ is s. then_reads (edge_or_none_at scope s) (λ e t. then_at (after (codes "endmodule\n") t) (λ u. Some (body_of s2.0 is e, u)))) s2.3 in
    let s4 = then_reads_some (edge_or_none_at scope s3.1) b q (λ e t. then_at (after (codes "endmodule\n") t) (λ u. Some (body_of s2.0 s3.0 e, u))) s3.3 in
    let s5 = step_at (codes "endmodule\n") s4.1 b q (λ u. Some (body_of s2.0 s3.0 s4.0, u)) s4.3 in
    let both = ends b q (body_of s2.0 s3.0 s4.0) s5.0 s5.2 in
    let e = edge_found scope s3.1 s4.0 s4.1 s4.2 (s5.1.fits_is ∙ ap (λ q. q.fits) both.1 ∙ ok) in
    let is = many_found is_instance instance_at instance_found (length s2.1.rest) s2.1 s3.0 s3.1 s3.2 e.fits_is in
    let xs = many_found (begins (codes "  assign ")) (assign_at scope) (assign_found scope) (length p.rest) p s2.0 s2.1 s2.2 is.fits_is in
    record {
      assigns = xs.all;
      instances = is.all;
      edge = e.one;
      text_is = chained p.rest s2.1.rest s3.1.rest s4.1.rest q.rest (lines_text (map AssignLine xs.all)) (lines_text (map InstanceLine is.all)) (lines_text (edge_lines e.one)) (codes "endmodule\n")
          (lines_there AssignLine xs.all p.rest s2.1.rest xs.text_is) (lines_there InstanceLine is.all s2.1.rest s3.1.rest is.text_is) e.text_is (s5.1.text_is ∙ ap (λ q. codes "endmodule\n" ++ q.rest) both.1);
      fits_is = xs.fits_is;
      kept_is = same_body (map (kept_assign scope) xs.all) s2.0 is.all s3.0 (option_map (kept_edge scope) e.one) s4.0 b xs.kept_is (sym (map-id is.all) ∙ is.kept_is) e.kept_is both.0;
      good_assigns = xs.good_is;
      good_instances = is.good_is;
      edge_laid = e.laid;
    }

record BodyParts (n : List ℕ) (ps : List PlainPort) (p : Place) (y : PlainModule) (q : Place) : Type 0 where
  decls : List PlainDecl
  assigns : List PlainAssign
  instances : List PlainInstance
  edge : Option PlainEdge
  text_is : p.rest ≡ lines_text (map DeclLine decls) ++ (lines_text (map AssignLine assigns) ++ (lines_text (map InstanceLine instances) ++ (lines_text (edge_lines edge) ++ (codes "endmodule\n" ++ q.rest))))
  fits_is : p.fits ≡ true
  kept_is : made n ps (map kept_decl decls) (map (kept_assign (meant_in ps (map kept_decl decls))) assigns) instances (option_map (kept_edge (meant_in ps (map kept_decl decls))) edge) ≡ y
  good_decls : list_all decl_fits decls ≡ true
  good_assigns : list_all assign_fits assigns ≡ true
  good_instances : list_all instance_fits instances ≡ true
  edge_laid : edge_fits edge ≡ true

body_parts : (n : List ℕ) (ps : List PlainPort) (p : Place) (y : PlainModule) (q : Place) → module_by (n, ps) p ≡ Some (y, q) → q.fits ≡ true → BodyParts n ps p y q
body_parts n ps p y q is ok =
    let s1 = then_reads_some (decls_at p) y q (λ ds q. then_reads (body_at (meant_in ps ds) q) (λ b r. Some (with_body (n, ps) ds b, r))) is in
    let s2 = then_reads_some (body_at (meant_in ps s1.0) s1.1) y q (λ b r. Some (with_body (n, ps) s1.0 b, r)) s1.3 in
    let both = ends y q (with_body (n, ps) s1.0 s2.0) s2.1 s2.3 in
    let t = tail_found (meant_in ps s1.0) s1.1 s2.0 s2.1 s2.2 (ap (λ q. q.fits) both.1 ∙ ok) in
    let ds = many_found is_decl decl_at decl_found (length p.rest) p s1.0 s1.1 s1.2 t.fits_is in
    record {
      decls = ds.all;
      assigns = t.assigns;
      instances = t.instances;
      edge = t.edge;
      text_is = lines_there DeclLine ds.all p.rest s1.1.rest ds.text_is ∙ ap (λ t. lines_text (map DeclLine ds.all) ++ t) (t.text_is
          ∙ ap (λ q. lines_text (map AssignLine t.assigns) ++ (lines_text (map InstanceLine t.instances) ++ (lines_text (edge_lines t.edge) ++ (codes "endmodule\n" ++ q.rest)))) both.1);
      fits_is = ds.fits_is;
      kept_is = ap (λ ds. made n ps ds (map (kept_assign (meant_in ps ds)) t.assigns) t.instances (option_map (kept_edge (meant_in ps ds)) t.edge)) ds.kept_is
          ∙ ap (with_body (n, ps) s1.0) t.kept_is ∙ both.0;
      good_decls = ds.good_is;
      good_assigns = t.good_assigns;
      good_instances = t.good_instances;
      edge_laid = t.edge_laid;
    }

body_from : (n : List ℕ) (ps : List PlainPort) (p : Place) (y : PlainModule) (q : Place) → BodyParts n ps p y q → BodyFound n ps p y q
body_from n ps p y q x =
    let own : List PlainPort → PlainModule = λ ports. made n ports x.decls x.assigns x.instances x.edge in
    record {
      one = own;
      text_is = λ ports. ap (λ t. codes "module " ++ (n ++ (codes "(\n" ++ (lines_text (port_lines ports) ++ (codes ");\n" ++ t))))) x.text_is ∙ sym (module_pieces (own ports) q.rest);
      fits_is = x.fits_is;
      kept_is = λ ports kept. ap (λ ps. made n ps (map kept_decl x.decls) (map (kept_assign (meant_in ps (map kept_decl x.decls))) x.assigns) x.instances (option_map (kept_edge (meant_in ps (map kept_decl x.decls))) x.edge)) kept ∙ x.kept_is;
      good_is = λ ports name some fits.
          and_from (is_name n && nat_lt 0 (length ports) && list_all port_fits ports && list_all decl_fits x.decls && list_all assign_fits x.assigns && list_all instance_fits x.instances) (edge_fits x.edge)
          (and_from (is_name n && nat_lt 0 (length ports) && list_all port_fits ports && list_all decl_fits x.decls && list_all assign_fits x.assigns) (list_all instance_fits x.instances)
          (and_from (is_name n && nat_lt 0 (length ports) && list_all port_fits ports && list_all decl_fits x.decls) (list_all assign_fits x.assigns)
          (and_from (is_name n && nat_lt 0 (length ports) && list_all port_fits ports) (list_all decl_fits x.decls)
          (and_from (is_name n && nat_lt 0 (length ports)) (list_all port_fits ports) (and_from (is_name n) (nat_lt 0 (length ports)) name some) fits) x.good_decls) x.good_assigns) x.good_instances) x.edge_laid;
    }

body_found : (n : List ℕ) (ps : List PlainPort) (p : Place) (y : PlainModule) (q : Place) → module_by (n, ps) p ≡ Some (y, q) → q.fits ≡ true → BodyFound n ps p y q
body_found n ps p y q is ok = body_from n ps p y q (body_parts n ps p y q is ok)

module_found : FindsBy kept_module module_text_of module_fits module_at
module_found p y q is ok =
    let t1 = then_reads_some (head_at p) y q module_by is in
    let s1 = step_at (codes "module ") p t1.0 t1.1 (λ q. then_reads (name_at q) (λ n r. then_at (after (codes "(\n") r) (λ s. then_reads (ports_at s) (λ ps t. Some ((n, ps), t))))) t1.2 in
    let s2 = then_reads_some (name_at s1.0) t1.0 t1.1 (λ n r. then_at (after (codes "(\n") r) (λ s. then_reads (ports_at s) (λ ps t. Some ((n, ps), t)))) s1.2 in
    let s3 = step_at (codes "(\n") s2.1 t1.0 t1.1 (λ s. then_reads (ports_at s) (λ ps t. Some ((s2.0, ps), t))) s2.3 in
    let s4 = then_reads_some (ports_at s3.0) t1.0 t1.1 (λ ps t. Some ((s2.0, ps), t)) s3.2 in
    let both = ends t1.0 t1.1 (s2.0, s4.0) s4.1 s4.3 in
    let same_head : module_by (s2.0, s4.0) s4.1 ≡ Some (y, q) = ap (λ h. module_by h s4.1) both.0 ∙ ap (module_by t1.0) both.1 ∙ t1.3 in
    let body = body_found s2.0 s4.0 s4.1 y q same_head ok in
    let ports = ports_found s3.0 s4.0 s4.1 s4.2 body.fits_is in
    let n = name_found s1.0 s2.0 s2.1 s2.2 in
    record {
      one = body.one ports.all;
      text_is = s1.1.text_is ∙ ap (λ t. codes "module " ++ t) (n.stands.text_is ∙ ap (λ t. s2.0 ++ t) (s3.1.text_is ∙ ap (λ t. codes "(\n" ++ t) ports.text_is)) ∙ body.text_is ports.all;
      fits_is = s1.1.fits_is ∙ n.stands.fits_is ∙ s3.1.fits_is ∙ ports.fits_is;
      kept_is = body.kept_is ports.all ports.kept_is;
      good_is = body.good_is ports.all n.passes ports.some ports.good_is;
    }

-- modules are read to the end of the text
some_module : (m : PlainModule) → 0 < length (module_text_of m)
some_module m = omega arith

room_left : (ms : List PlainModule) (z : List ℕ) → length ms + length z ≤ length (joined_text module_text_of ms ++ z)
room_left [] z = omega arith
room_left (m ∷ ms) z =
    let rest = room_left ms z in
    let one = some_module m in
    let e = ap length (append_assoc (module_text_of m) (joined_text module_text_of ms) z) in
    let l = length-append (module_text_of m) (joined_text module_text_of ms ++ z) in
    omega arith

no_rest : (q : Place) → is_left q ≡ false → length q.rest ≡ 0
no_rest q h = eqb-true (length q.rest) 0 (not-false (length q.rest == 0) h)

at_end : (ms : List PlainModule) (p q : Place) → p.rest ≡ joined_text module_text_of ms ++ q.rest → (is_left q ≡ false) ⊎ (length ms ≡ length p.rest) → q.rest ≡ []
at_end ms p q text ends =
    let room = room_left ms q.rest in
    let long = ap length text in
    nil_from_length q.rest (⊎_elim (λ none. no_rest q none) (λ all. let same = all in omega arith) ends)

record ModulesFound (p : Place) (ys : List PlainModule) (q : Place) : Type 0 where
  all : List PlainModule
  text_is : p.rest ≡ modules_text all
  fits_is : p.fits ≡ true
  kept_is : map kept_module all ≡ ys
  good_is : list_all module_fits all ≡ true
  some : nat_lt 0 (length all) ≡ true

modules_found : (p : Place) (ys : List PlainModule) (q : Place) → modules_at p ≡ Some (ys, q) → q.fits ≡ true → ModulesFound p ys q
modules_found p ys q is ok =
    let s1 = then_reads_some (module_at p) ys q (λ m q. then_reads (more_modules_at q) (λ ms r. Some (m ∷ ms, r))) is in
    let s2 = then_reads_some (more_modules_at s1.1) ys q (λ ms r. Some (s1.0 ∷ ms, r)) s1.3 in
    let both = ends ys q (s1.0 ∷ s2.0) s2.1 s2.3 in
    let more = many_found is_left module_at module_found (length s1.1.rest) s1.1 s2.0 s2.1 s2.2 (ap (λ q. q.fits) both.1 ∙ ok) in
    let one = module_found p s1.0 s1.1 s1.2 more.fits_is in
    let none : s2.1.rest ≡ [] = at_end more.all s1.1 s2.1 more.text_is more.until in
    record {
      all = one.one ∷ more.all;
      text_is = one.text_is ∙ ap (λ t. module_text_of one.one ++ t) (more.text_is ∙ ap (λ t. joined_text module_text_of more.all ++ t) none ∙ append-nil (joined_text module_text_of more.all) ∙ sym (modules_joined more.all));
      fits_is = one.fits_is;
      kept_is = ap (λ x. x ∷ map kept_module more.all) one.kept_is ∙ ap (λ xs. s1.0 ∷ xs) more.kept_is ∙ both.0;
      good_is = and_from (module_fits one.one) (list_all module_fits more.all) one.good_is more.good_is;
      some = lt-ltb 0 (length (one.one ∷ more.all)) (omega arith);
    }

-- what is read stands in the text
pub record SourceFound (text : List ℕ) (read : PlainSource) : Type 0 where
  pub source : PlainSource
  pub spelled : text ≡ text_of source
  pub laid : is_laid_out source ≡ true
  pub kept_is : kept_source source ≡ read

pub source_found : (p : Place) (read : PlainSource) (q : Place) → source_at p ≡ Some (read, q) → q.fits ≡ true → SourceFound p.rest read
source_found p read q is ok =
    let s1 = then_reads_some (externals_at p) read q (λ es q. then_reads (modules_at q) (λ ms r. Some (record { externals = es; modules = ms }, r))) is in
    let s2 = then_reads_some (modules_at s1.1) read q (λ ms r. Some (record { externals = s1.0; modules = ms }, r)) s1.3 in
    let both = ends read q (record { externals = s1.0; modules = s2.0 }) s2.1 s2.3 in
    let ms = modules_found s1.1 s2.0 s2.1 s2.2 (ap (λ q. q.fits) both.1 ∙ ok) in
    let es = many_found (begins (codes "/")) external_at external_found (length p.rest) p s1.0 s1.1 s1.2 ms.fits_is in
    let own : PlainSource = record { externals = es.all; modules = ms.all } in
    record {
      source = own;
      spelled = es.text_is ∙ ap (λ t. t ++ s1.1.rest) (sym (lines_joined ExternalLine es.all)) ∙ ap (λ t. lines_text (map ExternalLine es.all) ++ t) ms.text_is ∙ sym (source_text own);
      laid = and_from (list_all external_fits es.all && nat_lt 0 (length ms.all)) (list_all module_fits ms.all) (and_from (list_all external_fits es.all) (nat_lt 0 (length ms.all)) es.good_is ms.some) ms.good_is;
      kept_is = ap (λ es. record { externals = es; modules = map kept_module ms.all }) es.kept_is ∙ ap (λ ms. record { externals = s1.0; modules = ms }) ms.kept_is ∙ both.0;
    }
