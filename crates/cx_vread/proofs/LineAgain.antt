-- The lines of ports, declarations and assigns that are spelled are read.
use Rattle.std.proofs.Common.{◌≡◌, ℕ, suc, ◌+◌, ◌-◌, ◌<◌, ◌^◌, inl, not, Bool, true, false, ◌&&◌, List, [], ◌∷◌, ◌++◌, map, length, Some, refl, ◌∙◌, ap, arith, append_assoc, append-nil, ⊎_elim}
use Rattle.std.specs.Prelude.{codes, nat_lt, min}
use Rattle.std.specs.List.{list_all}
use Rattle.std.proofs.lemmas.Bool.{and_parts, ltb-true, ne_eqb, cases_lt}
use Rattle.cx_vtree.specs.Layout.{is_name, is_name_byte, expr_fits, port_fits, decl_fits, assign_fits}
use Rattle.cx_vtree.specs.Lines.{decimal_text, expr_text, bounds_text, side_text, PortLine, DeclLine, AssignLine, line_text, lines_text}
use Rattle.cx_vtree.specs.Plain.{PlainExpr, PlainPort, PlainDecl, WireOf, RegisterOf, ArrayOf, PlainAssign}
use Rattle.cx_vtree.specs.Spelling.{port_lines}
use Rattle.cx_vread_exprs.specs.Places as places
use Rattle.cx_vread_exprs.specs.Places.{Place, Reads, then_reads, then_at, begins, many}
use Rattle.cx_vread_exprs.specs.Tokens.{kept_small, name_at, capped, no_more, bounds_at}
use Rattle.cx_vread.proofs.Kept.{kept_port, kept_decl, kept_assign}
use Rattle.cx_vread_exprs.proofs.Kept.{kept_by}
use Rattle.cx_vread_exprs.proofs.Numerals.{capped_some, capped_none}
use Rattle.cx_vtree.specs.Sound.{Scope}
use Rattle.cx_vread.specs.Parts.{port_by, port_at, next_port_at, more_ports_at, ports_at, array_by, register_by, decl_at, is_decl, decls_at, assigned_by, assign_at, assigns_at}
use Rattle.cx_vread_exprs.proofs.ExprAgain.{closed, name_again}
use Rattle.cx_vread_exprs.proofs.WholeExprs.{whole_again}
use Rattle.cx_vread.proofs.ManyAgain.{joined_text, Again, all_again, lines_joined, Anything}
use Rattle.cx_vread_exprs.proofs.NumberAgain.{clean, number_again, any_number_again}
use Rattle.cx_text.specs.Spans.{Stops}

-- what is kept of a width that its greatest bit tells
pub width_kept : (w : ℕ) → 0 < w → no_more 254 (capped (w - 1)) + 1 ≡ kept_small w
width_kept w low = ⊎_elim
    (λ lt. let e : min (w - 1) 254 + 1 ≡ min w 255 = omega arith in ap (λ o. no_more 254 o + 1) (capped_some (w - 1) lt) ∙ e)
    (λ le. let e : 254 + 1 ≡ min w 255 = omega arith in ap (λ o. no_more 254 o + 1) (capped_none (w - 1) le) ∙ e)
    (cases_lt (w - 1) (2 ^ 128))

-- a width, and what follows it
pub bounds_again : (w : ℕ) (x : List ℕ) → nat_lt 0 w ≡ true → bounds_at (clean (bounds_text w ++ x)) ≡ Some (kept_small w, clean x)
bounds_again w x l =
    let e : bounds_text w ++ x ≡ codes "[" ++ (decimal_text (w - 1) ++ (codes ":0] " ++ x)) = simp append_assoc in
    ap (λ t. bounds_at (clean t)) e
    ∙ ap (λ r. then_reads r (λ n r. then_at (places.after (codes ":0] ") r) (λ s. Some (no_more 254 n + 1, s)))) (number_again 10 (w - 1) (codes ":0] " ++ x) (inl refl) refl)
    ∙ ap (λ n. Some (n, clean x)) (width_kept w (ltb-true 0 w l))

-- a port, from its width to its name
port_by_again : (output : Bool) (n : List ℕ) (w : ℕ) (x : List ℕ) → is_name n ≡ true → nat_lt 0 w ≡ true → Stops is_name_byte x
    → port_by output (clean (bounds_text w ++ (n ++ x))) ≡ Some (record { output = output; name = n; width = kept_small w }, clean x)
port_by_again output n w x f l ends =
    ap (λ r. then_reads r (λ w q. then_reads (name_at q) (λ n r. Some (record { output = output; name = n; width = w }, r)))) (bounds_again w (n ++ x) l)
    ∙ ap (λ r. then_reads r (λ n r. Some (record { output = output; name = n; width = kept_small w }, r))) (name_again n x f ends)

abbrev port_text : PlainPort → List ℕ
port_text p = side_text p.output ++ (bounds_text p.width ++ p.name)

pub port_again : (output : Bool) (n : List ℕ) (w : ℕ) (x : List ℕ) → is_name n ≡ true → nat_lt 0 w ≡ true → Stops is_name_byte x
    → port_at (clean (side_text output ++ (bounds_text w ++ (n ++ x)))) ≡ Some (record { output = output; name = n; width = kept_small w }, clean x)
port_again true n w x f l ends = port_by_again true n w x f l ends
port_again false n w x f l ends = port_by_again false n w x f l ends

-- ports after the first, with the comma before each
abbrev pub next_text : PlainPort → List ℕ
next_text p = codes ",\n" ++ (side_text p.output ++ (bounds_text p.width ++ p.name))

next_again : Again (begins (codes ",")) next_port_at kept_port next_text port_fits (Stops is_name_byte)
next_again = record {
  starts_so = λ p y h. refl;
  reads_so = λ p y h ends.
      let fits = and_parts (is_name p.name) (nat_lt 0 p.width) h in
      let e : next_text p ++ y ≡ codes ",\n" ++ (side_text p.output ++ (bounds_text p.width ++ (p.name ++ y))) = simp append_assoc in
      ap (λ t. next_port_at (clean t)) e ∙ port_again p.output p.name p.width y fits.0 fits.1 ends;
  follows_so = λ p y h. refl;
  some_text = λ p h. omega arith;
}

regrouped : (side bounds name x : List ℕ) → side ++ (bounds ++ (name ++ x)) ≡ (side ++ (bounds ++ name)) ++ x
regrouped side bounds name x = simp append_assoc

-- the line of a port that another follows
first_line : (side bounds name tail x : List ℕ) → ((((side ++ bounds) ++ name) ++ codes ",") ++ codes "\n" ++ tail) ++ x ≡ side ++ (bounds ++ (name ++ (codes ",\n" ++ (tail ++ x))))
first_line side bounds name tail x = simp append_assoc

-- the line of the last port
last_line : (side bounds name x : List ℕ) → ((((side ++ bounds) ++ name) ++ []) ++ codes "\n" ++ []) ++ x ≡ side ++ (bounds ++ (name ++ (codes "\n" ++ x)))
last_line side bounds name x = simp (append_assoc, append-nil)

pub one_more_port : (p q : PlainPort) (qs : List PlainPort) → lines_text (port_lines (p ∷ q ∷ qs)) ≡ lines_text (PortLine p true ∷ port_lines (q ∷ qs))
one_more_port p q qs = ap (λ b. lines_text (PortLine p (not b) ∷ port_lines (q ∷ qs))) (ne_eqb (length (q ∷ qs)) 0 (λ e. omega arith))

after_port : (q joined x : List ℕ) → codes ",\n" ++ (q ++ (joined ++ x)) ≡ ((codes ",\n" ++ q) ++ joined) ++ x
after_port q joined x = simp append_assoc

-- the text of ports, and of the line that ends them
pub ports_joined : (ps : List PlainPort) (x : List ℕ) (p : PlainPort)
    → lines_text (port_lines (p ∷ ps)) ++ (codes ");\n" ++ x) ≡ side_text p.output ++ (bounds_text p.width ++ (p.name ++ (joined_text next_text ps ++ (codes "\n" ++ (codes ");\n" ++ x)))))
ports_joined [] x p = last_line (side_text p.output) (bounds_text p.width) p.name (codes ");\n" ++ x)
ports_joined (q ∷ qs) x p =
    let end : List ℕ = codes ");\n" ++ x in
    let joined : List ℕ = joined_text next_text qs in
    let f : side_text q.output ++ (bounds_text q.width ++ (q.name ++ (joined ++ (codes "\n" ++ end)))) ≡ (side_text q.output ++ (bounds_text q.width ++ q.name)) ++ (joined ++ (codes "\n" ++ end)) = regrouped (side_text q.output) (bounds_text q.width) q.name (joined ++ (codes "\n" ++ end)) in
    ap (λ t. t ++ end) (one_more_port p q qs)
    ∙ first_line (side_text p.output) (bounds_text p.width) p.name (lines_text (port_lines (q ∷ qs))) end
    ∙ ap (λ t. side_text p.output ++ (bounds_text p.width ++ (p.name ++ (codes ",\n" ++ t)))) (ports_joined qs x q ∙ f)
    ∙ ap (λ t. side_text p.output ++ (bounds_text p.width ++ (p.name ++ t))) (after_port (side_text q.output ++ (bounds_text q.width ++ q.name)) joined (codes "\n" ++ end))

stops_after : (ps : List PlainPort) (x : List ℕ) → Stops is_name_byte (joined_text next_text ps ++ (codes "\n" ++ x))
stops_after [] x = refl
stops_after (p ∷ ps) x = refl

pub ports_again : (p : PlainPort) (ps : List PlainPort) (x : List ℕ) → list_all port_fits (p ∷ ps) ≡ true
    → ports_at (clean (lines_text (port_lines (p ∷ ps)) ++ (codes ");\n" ++ x))) ≡ Some (map kept_port (p ∷ ps), clean x)
ports_again p ps x f =
    let fit = and_parts (port_fits p) (list_all port_fits ps) f in
    let fits = and_parts (is_name p.name) (nat_lt 0 p.width) fit.0 in
    let end : List ℕ = codes "\n" ++ (codes ");\n" ++ x) in
    ap (λ t. ports_at (clean t)) (ports_joined ps x p)
    ∙ ap (λ r. then_reads r (λ x q. then_reads (more_ports_at q) (λ xs r. then_at (places.after (codes "\n);\n") r) (λ s. Some (x ∷ xs, s)))))
    (port_again p.output p.name p.width (joined_text next_text ps ++ end) fits.0 fits.1 (stops_after ps (codes ");\n" ++ x)))
    ∙ ap (λ r. then_reads r (λ xs r. then_at (places.after (codes "\n);\n") r) (λ s. Some (kept_port p ∷ xs, s))))
    (all_again next_again ps end fit.1 refl refl)

-- Declarations.
last_again : (n : List ℕ) (w k : ℕ) (x : List ℕ) → nat_lt 0 k ≡ true
    → array_by n w (clean (codes " [0:" ++ (decimal_text (k - 1) ++ (codes "];\n" ++ x)))) ≡ Some (ArrayOf n w k, clean x)
last_again n w k x some =
    let low : 0 < k = ltb-true 0 k some in
    let back : suc (k - 1) ≡ k = omega arith in
    ap (λ r. then_reads r (λ k r. then_at (places.after (codes "];\n") r) (λ s. Some (ArrayOf n w (suc k), s)))) (any_number_again (k - 1) (codes "];\n" ++ x) refl)
    ∙ ap (λ k. Some (ArrayOf n w k, clean x)) back

abbrev pub decl_text_of : PlainDecl → List ℕ
decl_text_of d = line_text (DeclLine d) ++ codes "\n"

pub decl_again : (d : PlainDecl) (y : List ℕ) → decl_fits d ≡ true → decl_at (clean (decl_text_of d ++ y)) ≡ Some (kept_decl d, clean y)
decl_again (WireOf n w) y f =
    let fits = and_parts (is_name n) (nat_lt 0 w) f in
    let e : decl_text_of (WireOf n w) ++ y ≡ codes "  wire " ++ (bounds_text w ++ (n ++ (codes ";\n" ++ y))) = simp append_assoc in
    ap (λ t. decl_at (clean t)) e
    ∙ ap (λ r. then_reads r (λ w q. then_reads (name_at q) (λ n r. then_at (places.after (codes ";\n") r) (λ s. Some (WireOf n w, s))))) (bounds_again w (n ++ (codes ";\n" ++ y)) fits.1)
    ∙ ap (λ r. then_reads r (λ n r. then_at (places.after (codes ";\n") r) (λ s. Some (WireOf n (kept_small w), s)))) (name_again n (codes ";\n" ++ y) fits.0 refl)
decl_again (RegisterOf n w) y f =
    let fits = and_parts (is_name n) (nat_lt 0 w) f in
    let e : decl_text_of (RegisterOf n w) ++ y ≡ codes "  reg " ++ (bounds_text w ++ (n ++ (codes ";\n" ++ y))) = simp append_assoc in
    ap (λ t. decl_at (clean t)) e
    ∙ ap (λ r. then_reads r (λ w q. then_reads (name_at q) (λ n r. register_by n w r))) (bounds_again w (n ++ (codes ";\n" ++ y)) fits.1)
    ∙ ap (λ r. then_reads r (λ n r. register_by n (kept_small w) r)) (name_again n (codes ";\n" ++ y) fits.0 refl)
decl_again (ArrayOf n w k) y f =
    let fit = and_parts (is_name n && nat_lt 0 w) (nat_lt 0 k) f in
    let fits = and_parts (is_name n) (nat_lt 0 w) fit.0 in
    let end : List ℕ = decimal_text (k - 1) ++ (codes "];\n" ++ y) in
    let e : decl_text_of (ArrayOf n w k) ++ y ≡ codes "  reg " ++ (bounds_text w ++ (n ++ (codes " [0:" ++ (decimal_text (k - 1) ++ (codes "];\n" ++ y))))) = simp append_assoc in
    ap (λ t. decl_at (clean t)) e
    ∙ ap (λ r. then_reads r (λ w q. then_reads (name_at q) (λ n r. register_by n w r))) (bounds_again w (n ++ (codes " [0:" ++ end)) fits.1)
    ∙ ap (λ r. then_reads r (λ n r. register_by n (kept_small w) r)) (name_again n (codes " [0:" ++ end) fits.0 refl)
    ∙ last_again n (kept_small w) k y fit.1

pub starts_decl : (d : PlainDecl) (y : List ℕ) → is_decl (clean (decl_text_of d ++ y)) ≡ true
starts_decl (WireOf n w) y = refl
starts_decl (RegisterOf n w) y = refl
starts_decl (ArrayOf n w k) y = refl

some_decl : (d : PlainDecl) → 0 < length (decl_text_of d)
some_decl (WireOf n w) = omega arith
some_decl (RegisterOf n w) = omega arith
some_decl (ArrayOf n w k) = omega arith

decls_so : Again is_decl decl_at kept_decl decl_text_of decl_fits Anything
decls_so = record {
  starts_so = λ d y h. starts_decl d y;
  reads_so = λ d y h ends. decl_again d y h;
  follows_so = λ d y h. tt;
  some_text = λ d h. some_decl d;
}

pub decls_again : (ds : List PlainDecl) (z : List ℕ) → list_all decl_fits ds ≡ true → is_decl (clean z) ≡ false
    → decls_at (clean (lines_text (map DeclLine ds) ++ z)) ≡ Some (map kept_decl ds, clean z)
decls_again ds z f stops =
    ap (λ t. decls_at (clean (t ++ z))) (lines_joined DeclLine ds) ∙ all_again decls_so ds z f tt stops

-- Assigns.
module _ (scope : Scope) where
  -- the end of the line
  pub assigned_again : (n : List ℕ) (e : PlainExpr) (y : List ℕ) → expr_fits e ≡ true
      → assigned_by scope n (clean (expr_text e ++ (codes ";\n" ++ y))) ≡ Some (record { name = n; value = kept_by scope e }, clean y)
  assigned_again n e y f =
      ap (λ r. then_reads r (λ e q. then_at (places.after (codes ";\n") q) (λ r. Some (record { name = n; value = e }, r)))) (whole_again scope e (codes ";\n" ++ y) f (closed 59 _ refl refl))

  abbrev assign_text_of : PlainAssign → List ℕ
  assign_text_of a = line_text (AssignLine a) ++ codes "\n"

  assign_again : (n : List ℕ) (e : PlainExpr) (y : List ℕ) → is_name n ≡ true → expr_fits e ≡ true
      → assign_at scope (clean (codes "  assign " ++ (n ++ (codes " = " ++ (expr_text e ++ (codes ";\n" ++ y)))))) ≡ Some (record { name = n; value = kept_by scope e }, clean y)
  assign_again n e y f g =
      ap (λ r. then_reads r (λ n r. then_at (places.after (codes " = ") r) (assigned_by scope n))) (name_again n (codes " = " ++ (expr_text e ++ (codes ";\n" ++ y))) f refl)
      ∙ assigned_again n e y g

  assigns_so : Again (begins (codes "  assign ")) (assign_at scope) (kept_assign scope) assign_text_of assign_fits Anything
  assigns_so = record {
    starts_so = λ a y h. refl;
    reads_so = λ a y h ends.
        let fits = and_parts (is_name a.name) (expr_fits a.value) h in
        let e : assign_text_of a ++ y ≡ codes "  assign " ++ (a.name ++ (codes " = " ++ (expr_text a.value ++ (codes ";\n" ++ y)))) = simp append_assoc in
        ap (λ t. assign_at scope (clean t)) e ∙ assign_again a.name a.value y fits.0 fits.1;
    follows_so = λ a y h. tt;
    some_text = λ a h. omega arith;
  }

  pub assigns_again : (xs : List PlainAssign) (z : List ℕ) → list_all assign_fits xs ≡ true → begins (codes "  assign ") (clean z) ≡ false
      → assigns_at scope (clean (lines_text (map AssignLine xs) ++ z)) ≡ Some (map (kept_assign scope) xs, clean z)
  assigns_again xs z f stops = ap (λ t. assigns_at scope (clean (t ++ z))) (lines_joined AssignLine xs) ∙ all_again assigns_so xs z f tt stops
