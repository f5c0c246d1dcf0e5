-- A line that is read stands in the text, is read before any other rest, and stands before all that may follow it.
use Rattle.std.proofs.Common.{◌≡◌, inl, inr, ℕ, ◌+◌, ◌-◌, ◌==◌, not, Bool, true, false, ◌&&◌, ◌||◌, List, [], ◌∷◌, ◌++◌, Option, Some, None, refl, ◌∙◌, ap, sym, subst, arith, append_assoc, if◌then◌else◌}
use Rattle.std.specs.Prelude.{codes, is_some, nat_lt}
use Rattle.std.proofs.lemmas.Bool.{and_from, and_parts, not-true, eqb-true, lt-ltb}
use Rattle.cx_vtree.specs.Layout.{is_name, expr_fits, port_fits, decl_fits, assign_fits, item_fits}
use Rattle.cx_vtree.specs.Lines.{decimal_text, expr_text, bounds_text, side_text, Line, ExternalLine, ModuleLine, PortLine, PortsEnd, DeclLine, AssignLine, InstanceLine, AlwaysLine, ResetLine, SetLine, ElseLine, BranchesEnd, AlwaysEnd, ModuleEnd, line_text}
use Rattle.cx_vtree.specs.Spelling.{item_line}
use Rattle.cx_vtree.specs.Plain.{PlainExpr, PlainPort, PlainDecl, WireOf, RegisterOf, ArrayOf, PlainAssign, PlainStore, PlainItem, SetTo, StoreTo}
use Rattle.cx_vread_exprs.specs.Passing.{passed_at}
use Rattle.cx_vread_exprs.specs.Places.{Place, Reads, then_reads, then_at, after, after_text, begins}
use Rattle.cx_vread_exprs.specs.Tokens.{name_at, small_at, bounds_at}
use Rattle.cx_vread_exprs.proofs.NumberAgain.{clean}
use Rattle.cx_vread_exprs.proofs.Found.{ends, Stands, after_found, then_at_some, then_reads_some, step_at, name_found}
use Rattle.cx_vread_exprs.proofs.SignsFound.{small_found}
use Rattle.cx_vread_exprs.proofs.PassFound.{passed_found}
use Rattle.cx_vread.specs.declared.astray.Between.{Between}
use Rattle.cx_vread.specs.declared.astray.Between.TheVariants.{Externals, Modules, Port, PortsDone, Decls, Assigns, Instances, Branches, Sets, Items, EdgeDone, ModuleDone}
use Rattle.cx_vread.specs.LineSteps.{fixed_by, external_line, module_line, port_line, wire_line, array_line, register_line, decl_line, value_line, assign_line, instance_line, set_line, store_head, store_line, step_line, after_instances, after_assigns, after_decls, line_at}
use Rattle.cx_vread.specs.Parts.{is_decl, is_instance, external_at, port_at, instance_at}
use Rattle.cx_vread.proofs.LinePieces.{wire_pieces, register_pieces, array_pieces, assign_pieces, set_line_pieces, store_pieces}
use Rattle.cx_vread.proofs.LinesFound.{bounds_found, external_found, port_found}
use Rattle.cx_vread.proofs.InstancesFound.{instance_found}
use Rattle.cx_vread.proofs.LinesFits.{external_fits_on, port_fits_on, instance_fits_on}
use Rattle.cx_vread.proofs.PlainLines.{no_feed, is_plain, line_fits}
use Rattle.cx_vread.proofs.FollowLines.{DeclsFollow, AssignsFollow, InstancesFollow, LastFollows, Follows, no_instance, no_assign, no_decl, one_decl, one_assign, one_instance, one_set, one_item, one_external, last_port, next_port, next_module, first_module}
use Rattle.cx_vread.proofs.StepAgain.{external_again, module_again, next_port_again, last_port_again, own_decl_again, assign_again, own_set_again, own_item_again, instance_again}

-- whether a text begins here says nothing of what follows the line
begins_local : (want own y z : List ℕ) → is_plain want ≡ true → is_some (after_text want (own ++ (codes "\n" ++ y))) ≡ is_some (after_text want (own ++ (codes "\n" ++ z)))
begins_local [] own y z h = refl
begins_local (w ∷ ws) [] y z h = go (10 == w) refl
  where
    go : (t : Bool) → (10 == w) ≡ t → is_some (if 10 == w then after_text ws y else None) ≡ is_some (if 10 == w then after_text ws z else None)
    go true same =
        let parts = and_parts (no_feed w) (is_plain ws) h in
        let is : 10 ≡ w = eqb-true 10 w same in
        let other : (w == 10) ≡ false = not-true (w == 10) parts.0 in
        let clash : (10 == 10) ≡ false = subst (λ n. (n == 10) ≡ false) (sym is) other in
        absurd (cc)
    go false other = ap (λ t. is_some (if t then after_text ws y else None)) other ∙ sym (ap (λ t. is_some (if t then after_text ws z else None)) other)
begins_local (w ∷ ws) (c ∷ cs) y z h = both (c == w) (begins_local ws cs y z (and_parts (no_feed w) (is_plain ws) h).1)
  where
    both : (t : Bool) → is_some (after_text ws (cs ++ (codes "\n" ++ y))) ≡ is_some (after_text ws (cs ++ (codes "\n" ++ z)))
        → is_some (if t then after_text ws (cs ++ (codes "\n" ++ y)) else None) ≡ is_some (if t then after_text ws (cs ++ (codes "\n" ++ z)) else None)
    both true more = more
    both false more = refl

-- a test of what a line begins with
abbrev pub Local : (Place → Bool) → Type 0
Local test = (p : Place) (own y z : List ℕ) → p.rest ≡ own ++ (codes "\n" ++ y) → test (clean (own ++ (codes "\n" ++ z))) ≡ test p

local_begins : (want : List ℕ) → is_plain want ≡ true → Local (begins want)
local_begins want h p own y z text = begins_local want own z y h ∙ ap (λ t. is_some (after_text want t)) (sym text)

local_decl : Local is_decl
local_decl p own y z text =
    let q : Place = clean (own ++ (codes "\n" ++ z)) in
    ap (λ b. b || begins (codes "  reg ") q) (local_begins (codes "  wire ") refl p own y z text) ∙ ap (λ b. begins (codes "  wire ") p || b) (local_begins (codes "  reg ") refl p own y z text)

local_instance : Local is_instance
local_instance p own y z text =
    let q : Place = clean (own ++ (codes "\n" ++ z)) in
    ap (λ b. b && not (begins (codes "  always ") q)) (local_begins (codes "  ") refl p own y z text) ∙ ap (λ b. begins (codes "  ") p && not b) (local_begins (codes "  always ") refl p own y z text)

-- a line that is read stands here, is read before any other rest, and stands before what may follow it
pub record LineFound (read : Place → Reads Between) (before : List ℕ → Type 0) (next : Between) (p q : Place) : Type 0 where
  pub line : Line
  pub fit : line_fits line ≡ true
  pub text_is : p.rest ≡ (line_text line ++ codes "\n") ++ q.rest
  pub fits_is : p.fits ≡ q.fits
  pub again : (y : List ℕ) → read (clean ((line_text line ++ codes "\n") ++ y)) ≡ Some (next, clean y)
  pub follows : (y : List ℕ) → Follows next y → before ((line_text line ++ codes "\n") ++ y)

abbrev pub FindsLine : (Place → Reads Between) → (List ℕ → Type 0) → Type 0
FindsLine read before = (p : Place) (next : Between) (q : Place) → read p ≡ Some (next, q) → p.fits ≡ true → LineFound read before next p q

-- Where one of two readers is taken by a test of what the line begins with; what the first reads is known with the test.
tested : (test : Place → Bool) (one other : Place → Reads Between) (before : List ℕ → Type 0) → Local test
    → ((p : Place) (next : Between) (q : Place) → one p ≡ Some (next, q) → p.fits ≡ true → LineFound (λ p. if test p then one p else other p) before next p q)
    → FindsLine other before → FindsLine (λ p. if test p then one p else other p) before
tested test one other before local finds finds_other p next q is clear = go (test p) refl is
  where
    on_line : (l : Line) (y z : List ℕ) → p.rest ≡ (line_text l ++ codes "\n") ++ y → test (clean ((line_text l ++ codes "\n") ++ z)) ≡ test p
    on_line l y z text = ap (λ t. test (clean t)) (append_assoc (line_text l) (codes "\n") z) ∙ local p (line_text l) y z (text ∙ append_assoc (line_text l) (codes "\n") y)

    go : (t : Bool) → test p ≡ t → (if t then one p else other p) ≡ Some (next, q) → LineFound (λ p. if test p then one p else other p) before next p q
    go true holds is = finds p next q is clear
    go false fails is =
        let f = finds_other p next q is clear in
        record {
          line = f.line;
          fit = f.fit;
          text_is = f.text_is;
          fits_is = f.fits_is;
          again = λ y. let r : Place = clean ((line_text f.line ++ codes "\n") ++ y) in ap (λ b. if b then one r else other r) (on_line f.line q.rest y f.text_is ∙ fails) ∙ f.again y;
          follows = f.follows;
        }

-- what follows later lines follows earlier ones
widened : (read : Place → Reads Between) (narrow wide : List ℕ → Type 0) → ((x : List ℕ) → narrow x → wide x) → FindsLine read narrow → FindsLine read wide
widened read narrow wide more finds p next q is clear =
    let f = finds p next q is clear in
    record { line = f.line; fit = f.fit; text_is = f.text_is; fits_is = f.fits_is; again = f.again; follows = λ y h. more ((line_text f.line ++ codes "\n") ++ y) (f.follows y h) }

-- lines that are one fixed text
fixed_next : (want : List ℕ) (to : Between) (p : Place) (next : Between) (q : Place) → fixed_by want to p ≡ Some (next, q) → to ≡ next
fixed_next want to p next q is = let s = step_at want p next q (λ q. Some (to, q)) is in (ends next q to s.0 s.2).0

fixed_stands : (want : List ℕ) (to : Between) (p : Place) (next : Between) (q : Place) → fixed_by want to p ≡ Some (next, q) → Stands want p q
fixed_stands want to p next q is = let s = step_at want p next q (λ q. Some (to, q)) is in subst (λ q. Stands want p q) (ends next q to s.0 s.2).1 s.1

fixed_found : (l : Line) → line_fits l ≡ true → (to : Between) (before : List ℕ → Type 0) (read : Place → Reads Between) → ((y : List ℕ) → read (clean ((line_text l ++ codes "\n") ++ y)) ≡ Some (to, clean y))
    → ((y : List ℕ) → Follows to y → before ((line_text l ++ codes "\n") ++ y)) → (p : Place) (next : Between) (q : Place) → fixed_by (line_text l ++ codes "\n") to p ≡ Some (next, q) → LineFound read before next p q
fixed_found l fit to before read reads follows p next q is =
    let stands = fixed_stands (line_text l ++ codes "\n") to p next q is in
    let same : to ≡ next = fixed_next (line_text l ++ codes "\n") to p next q is in
    record {
      line = l;
      fit = fit;
      text_is = stands.text_is;
      fits_is = stands.fits_is;
      again = λ y. reads y ∙ ap (λ n. Some (n, clean y)) same;
      follows = λ y h. follows y (subst (λ n. Follows n y) (sym same) h);
    }

ports_end_found : (p : Place) (next : Between) (q : Place) → fixed_by (codes ");\n") Decls p ≡ Some (next, q) → p.fits ≡ true → LineFound (fixed_by (codes ");\n") Decls) (Follows PortsDone) next p q
ports_end_found p next q is clear = fixed_found PortsEnd refl Decls (Follows PortsDone) (fixed_by (codes ");\n") Decls) (λ y. refl) (λ y h. record { more = y; text_is = refl; behind = h }) p next q is

always_found : (p : Place) (next : Between) (q : Place) → fixed_by (codes "  always @(posedge clk) begin\n") Branches p ≡ Some (next, q) → p.fits ≡ true → LineFound after_instances LastFollows next p q
always_found p next q is clear = fixed_found AlwaysLine refl Branches LastFollows after_instances (λ y. refl) (λ y h. inr (record { more = y; text_is = refl; behind = h })) p next q is

end_found : (p : Place) (next : Between) (q : Place) → fixed_by (codes "endmodule\n") Modules p ≡ Some (next, q) → p.fits ≡ true → LineFound (fixed_by (codes "endmodule\n") Modules) (Follows ModuleDone) next p q
end_found p next q is clear = fixed_found ModuleEnd refl Modules (Follows ModuleDone) (fixed_by (codes "endmodule\n") Modules) (λ y. refl) (λ y h. record { more = y; text_is = refl; behind = h }) p next q is

reset_found : (p : Place) (next : Between) (q : Place) → fixed_by (codes "    if (reset) begin\n") Sets p ≡ Some (next, q) → p.fits ≡ true → LineFound (fixed_by (codes "    if (reset) begin\n") Sets) (Follows Branches) next p q
reset_found p next q is clear = fixed_found ResetLine refl Sets (Follows Branches) (fixed_by (codes "    if (reset) begin\n") Sets) (λ y. refl) (λ y h. record { more = y; text_is = refl; behind = h }) p next q is

else_found : (p : Place) (next : Between) (q : Place) → fixed_by (codes "    end else begin\n") Items p ≡ Some (next, q) → p.fits ≡ true → LineFound (fixed_by (codes "    end else begin\n") Items) (Follows Sets) next p q
else_found p next q is clear = fixed_found ElseLine refl Items (Follows Sets) (fixed_by (codes "    end else begin\n") Items) (λ y. refl) (λ y h. record { sets = []; more = y; fit = refl; text_is = refl; behind = h }) p next q is

branches_end_found : (p : Place) (next : Between) (q : Place) → fixed_by (codes "    end\n") EdgeDone p ≡ Some (next, q) → p.fits ≡ true → LineFound (fixed_by (codes "    end\n") EdgeDone) (Follows Items) next p q
branches_end_found p next q is clear = fixed_found BranchesEnd refl EdgeDone (Follows Items) (fixed_by (codes "    end\n") EdgeDone) (λ y. refl) (λ y h. record { items = []; more = y; fit = refl; text_is = refl; behind = h }) p next q is

always_end_found : (p : Place) (next : Between) (q : Place) → fixed_by (codes "  end\n") ModuleDone p ≡ Some (next, q) → p.fits ≡ true → LineFound (fixed_by (codes "  end\n") ModuleDone) (Follows EdgeDone) next p q
always_end_found p next q is clear = fixed_found AlwaysEnd refl ModuleDone (Follows EdgeDone) (fixed_by (codes "  end\n") ModuleDone) (λ y. refl) (λ y h. record { more = y; text_is = refl; behind = h }) p next q is

-- External memories, modules and ports.
external_line_found : (p : Place) (next : Between) (q : Place) → external_line p ≡ Some (next, q) → p.fits ≡ true → LineFound (line_at Externals) (Follows Externals) next p q
external_line_found p next q is clear =
    let s = then_reads_some (external_at p) next q (λ e q. Some (Externals, q)) is in
    let both = ends next q Externals s.1 s.3 in
    let kept = external_fits_on p s.0 s.1 s.2 in
    let f = external_found p s.0 s.1 s.2 (sym kept ∙ clear) in
    record {
      line = ExternalLine f.one;
      fit = f.good_is;
      text_is = f.text_is ∙ ap (λ q. (line_text (ExternalLine f.one) ++ codes "\n") ++ q.rest) both.1;
      fits_is = kept ∙ ap (λ q. q.fits) both.1;
      again = λ y. external_again f.one y f.good_is ∙ ap (λ n. Some (n, clean y)) both.0;
      follows = λ y h. one_external f.one y f.good_is (subst (λ n. Follows n y) (sym both.0) h);
    }

module_line_by : (before : List ℕ → Type 0) → ((n y : List ℕ) → is_name n ≡ true → Follows Port y → before ((line_text (ModuleLine n) ++ codes "\n") ++ y)) → FindsLine module_line before
module_line_by before follows p next q is clear =
    let s1 = step_at (codes "module ") p next q (λ q. then_reads (name_at q) (λ n r. fixed_by (codes "(\n") Port r)) is in
    let s2 = then_reads_some (name_at s1.0) next q (λ n r. fixed_by (codes "(\n") Port r) s1.2 in
    let s3 = step_at (codes "(\n") s2.1 next q (λ q. Some (Port, q)) s2.3 in
    let both = ends next q Port s3.0 s3.2 in
    let n = name_found s1.0 s2.0 s2.1 s2.2 in
    record {
      line = ModuleLine s2.0;
      fit = n.passes;
      text_is = s1.1.text_is ∙ ap (λ t. codes "module " ++ t) (n.stands.text_is ∙ ap (λ t. s2.0 ++ t) (s3.1.text_is ∙ ap (λ q. codes "(\n" ++ q.rest) both.1)) ∙ sym (module_line_pieces s2.0 q.rest);
      fits_is = s1.1.fits_is ∙ n.stands.fits_is ∙ s3.1.fits_is ∙ ap (λ q. q.fits) both.1;
      again = λ y. module_again s2.0 y n.passes ∙ ap (λ n. Some (n, clean y)) both.0;
      follows = λ y h. follows s2.0 y n.passes (subst (λ n. Follows n y) (sym both.0) h);
    }
  where
    module_line_pieces : (n x : List ℕ) → (line_text (ModuleLine n) ++ codes "\n") ++ x ≡ codes "module " ++ (n ++ (codes "(\n" ++ x))
    module_line_pieces n x = simp append_assoc

port_line_pieces : (side bounds name comma x : List ℕ) → ((side ++ bounds ++ name ++ comma) ++ codes "\n") ++ x ≡ (side ++ (bounds ++ name)) ++ (comma ++ (codes "\n" ++ x))
port_line_pieces side bounds name comma x = simp append_assoc

port_line_found : FindsLine port_line (Follows Port)
port_line_found p next q is clear =
    let s = then_reads_some (port_at p) next q (λ x q. if begins (codes ",") q then fixed_by (codes ",\n") Port q else fixed_by (codes "\n") PortsDone q) is in
    let kept = port_fits_on p s.0 s.1 s.2 in
    let f = port_found p s.0 s.1 s.2 (sym kept ∙ clear) in
    go f.one s.1 f.text_is f.good_is kept (begins (codes ",") s.1) s.3
  where
    go : (x : PlainPort) (m : Place) → p.rest ≡ (side_text x.output ++ (bounds_text x.width ++ x.name)) ++ m.rest → port_fits x ≡ true → p.fits ≡ m.fits → (t : Bool)
        → (if t then fixed_by (codes ",\n") Port m else fixed_by (codes "\n") PortsDone m) ≡ Some (next, q) → LineFound port_line (Follows Port) next p q
    go x m text fits kept true is =
        let s = step_at (codes ",\n") m next q (λ q. Some (Port, q)) is in
        let both = ends next q Port s.0 s.2 in
        record {
          line = PortLine x true;
          fit = fits;
          text_is = text ∙ ap (λ t. (side_text x.output ++ (bounds_text x.width ++ x.name)) ++ t) (s.1.text_is ∙ ap (λ q. codes ",\n" ++ q.rest) both.1) ∙ sym (port_line_pieces (side_text x.output) (bounds_text x.width) x.name (codes ",") q.rest);
          fits_is = kept ∙ s.1.fits_is ∙ ap (λ q. q.fits) both.1;
          again = λ y. next_port_again x y fits ∙ ap (λ n. Some (n, clean y)) both.0;
          follows = λ y h. next_port x y fits (subst (λ n. Follows n y) (sym both.0) h);
        }
    go x m text fits kept false is =
        let s = step_at (codes "\n") m next q (λ q. Some (PortsDone, q)) is in
        let both = ends next q PortsDone s.0 s.2 in
        record {
          line = PortLine x false;
          fit = fits;
          text_is = text ∙ ap (λ t. (side_text x.output ++ (bounds_text x.width ++ x.name)) ++ t) (s.1.text_is ∙ ap (λ q. codes "\n" ++ q.rest) both.1) ∙ sym (port_line_pieces (side_text x.output) (bounds_text x.width) x.name [] q.rest);
          fits_is = kept ∙ s.1.fits_is ∙ ap (λ q. q.fits) both.1;
          again = λ y. last_port_again x y fits ∙ ap (λ n. Some (n, clean y)) both.0;
          follows = λ y h. last_port x y fits (subst (λ n. Follows n y) (sym both.0) h);
        }

-- Declarations.
array_end : (k x : List ℕ) → (codes " [0:" ++ (k ++ codes "];\n")) ++ x ≡ codes " [0:" ++ (k ++ (codes "];\n" ++ x))
array_end k x = simp append_assoc

-- a declaration that stands here
declared : (d : PlainDecl) (next : Between) (p q : Place) → Decls ≡ next → decl_fits d ≡ true → p.rest ≡ (line_text (DeclLine d) ++ codes "\n") ++ q.rest → p.fits ≡ q.fits
    → LineFound (line_at Decls) DeclsFollow next p q
declared d next p q same fits text kept =
    record {
      line = DeclLine d;
      fit = fits;
      text_is = text;
      fits_is = kept;
      again = λ y. own_decl_again d y fits ∙ ap (λ n. Some (n, clean y)) same;
      follows = λ y h. one_decl d y fits (subst (λ n. Follows n y) (sym same) h);
    }

record ArrayFound (r : Place) (next : Between) (q : Place) : Type 0 where
  last : ℕ
  next_is : Decls ≡ next
  stands : Stands (codes " [0:" ++ (decimal_text last ++ codes "];\n")) r q

array_line_found : (r : Place) (next : Between) (q : Place) → array_line r ≡ Some (next, q) → ArrayFound r next q
array_line_found r next q is =
    let s1 = step_at (codes " [0:") r next q (λ q. then_reads (small_at q) (λ k r. fixed_by (codes "];\n") Decls r)) is in
    let s2 = then_reads_some (small_at s1.0) next q (λ k r. fixed_by (codes "];\n") Decls r) s1.2 in
    let s3 = step_at (codes "];\n") s2.1 next q (λ q. Some (Decls, q)) s2.3 in
    let both = ends next q Decls s3.0 s3.2 in
    let k = small_found s1.0 s2.0 s2.1 s2.2 in
    record {
      last = k.number;
      next_is = both.0;
      stands = record {
        text_is = s1.1.text_is ∙ ap (λ t. codes " [0:" ++ t) (k.stands.text_is ∙ ap (λ t. decimal_text k.number ++ t) (s3.1.text_is ∙ ap (λ q. codes "];\n" ++ q.rest) both.1)) ∙ sym (array_end (decimal_text k.number) q.rest);
        fits_is = s1.1.fits_is ∙ k.stands.fits_is ∙ s3.1.fits_is ∙ ap (λ q. q.fits) both.1;
      };
    }

-- by the first bytes of the line
decl_line_found : (p : Place) (next : Between) (q : Place) → decl_line p ≡ Some (next, q) → LineFound (line_at Decls) DeclsFollow next p q
decl_line_found p next q is = go (begins (codes "  reg ") p) is
  where
    array : (n : List ℕ) (w last : ℕ) (r : Place) → is_name n ≡ true → nat_lt 0 w ≡ true → Decls ≡ next → p.rest ≡ codes "  reg " ++ (bounds_text w ++ (n ++ r.rest)) → p.fits ≡ r.fits
        → Stands (codes " [0:" ++ (decimal_text last ++ codes "];\n")) r q → LineFound (line_at Decls) DeclsFollow next p q
    array n w last r name some same text kept stands =
        let own : PlainDecl = ArrayOf n w (last + 1) in
        let one : last ≡ last + 1 - 1 = omega arith in
        let long : nat_lt 0 (last + 1) ≡ true = lt-ltb 0 (last + 1) (omega arith) in
        let fits : decl_fits own ≡ true = and_from (is_name n && nat_lt 0 w) (nat_lt 0 (last + 1)) (and_from (is_name n) (nat_lt 0 w) name some) long in
        declared own next p q same fits
        (text ∙ ap (λ t. codes "  reg " ++ (bounds_text w ++ (n ++ t))) (stands.text_is ∙ array_end (decimal_text last) q.rest ∙ ap (λ k. codes " [0:" ++ (decimal_text k ++ (codes "];\n" ++ q.rest))) one) ∙ sym (array_pieces (bounds_text w) n (decimal_text (last + 1 - 1)) q.rest))
        (kept ∙ stands.fits_is)

    register : (n : List ℕ) (w : ℕ) (r : Place) → is_name n ≡ true → nat_lt 0 w ≡ true → p.rest ≡ codes "  reg " ++ (bounds_text w ++ (n ++ r.rest)) → p.fits ≡ r.fits → (t : Bool)
        → (if t then fixed_by (codes ";\n") Decls r else array_line r) ≡ Some (next, q) → LineFound (line_at Decls) DeclsFollow next p q
    register n w r name some text kept true is =
        let s = step_at (codes ";\n") r next q (λ q. Some (Decls, q)) is in
        let both = ends next q Decls s.0 s.2 in
        let own : PlainDecl = RegisterOf n w in
        let fits : decl_fits own ≡ true = and_from (is_name n) (nat_lt 0 w) name some in
        declared own next p q both.0 fits
        (text ∙ ap (λ t. codes "  reg " ++ (bounds_text w ++ (n ++ t))) (s.1.text_is ∙ ap (λ q. codes ";\n" ++ q.rest) both.1) ∙ sym (register_pieces (bounds_text w) n q.rest))
        (kept ∙ s.1.fits_is ∙ ap (λ q. q.fits) both.1)
    register n w r name some text kept false is =
        let a = array_line_found r next q is in
        array n w a.last r name some a.next_is text kept a.stands

    go : (t : Bool) → (if t then register_line p else wire_line p) ≡ Some (next, q) → LineFound (line_at Decls) DeclsFollow next p q
    go true is =
        let s1 = step_at (codes "  reg ") p next q (λ q. then_reads (bounds_at q) (λ w r. then_reads (name_at r) (λ n s. if begins (codes ";") s then fixed_by (codes ";\n") Decls s else array_line s))) is in
        let s2 = then_reads_some (bounds_at s1.0) next q (λ w r. then_reads (name_at r) (λ n s. if begins (codes ";") s then fixed_by (codes ";\n") Decls s else array_line s)) s1.2 in
        let s3 = then_reads_some (name_at s2.1) next q (λ n s. if begins (codes ";") s then fixed_by (codes ";\n") Decls s else array_line s) s2.3 in
        let w = bounds_found s1.0 s2.0 s2.1 s2.2 in
        let n = name_found s2.1 s3.0 s3.1 s3.2 in
        register s3.0 w.width s3.1 n.passes w.some
        (s1.1.text_is ∙ ap (λ t. codes "  reg " ++ t) (w.stands.text_is ∙ ap (λ t. bounds_text w.width ++ t) n.stands.text_is))
        (s1.1.fits_is ∙ w.stands.fits_is ∙ n.stands.fits_is) (begins (codes ";") s3.1) s3.3
    go false is =
        let s1 = step_at (codes "  wire ") p next q (λ q. then_reads (bounds_at q) (λ w r. then_reads (name_at r) (λ n s. fixed_by (codes ";\n") Decls s))) is in
        let s2 = then_reads_some (bounds_at s1.0) next q (λ w r. then_reads (name_at r) (λ n s. fixed_by (codes ";\n") Decls s)) s1.2 in
        let s3 = then_reads_some (name_at s2.1) next q (λ n s. fixed_by (codes ";\n") Decls s) s2.3 in
        let s4 = step_at (codes ";\n") s3.1 next q (λ q. Some (Decls, q)) s3.3 in
        let both = ends next q Decls s4.0 s4.2 in
        let w = bounds_found s1.0 s2.0 s2.1 s2.2 in
        let n = name_found s2.1 s3.0 s3.1 s3.2 in
        let fits : decl_fits (WireOf s3.0 w.width) ≡ true = and_from (is_name s3.0) (nat_lt 0 w.width) n.passes w.some in
        declared (WireOf s3.0 w.width) next p q both.0 fits
        (s1.1.text_is ∙ ap (λ t. codes "  wire " ++ t) (w.stands.text_is ∙ ap (λ t. bounds_text w.width ++ t) (n.stands.text_is ∙ ap (λ t. s3.0 ++ t) (s4.1.text_is ∙ ap (λ q. codes ";\n" ++ q.rest) both.1))) ∙ sym (wire_pieces (bounds_text w.width) s3.0 q.rest))
        (s1.1.fits_is ∙ w.stands.fits_is ∙ n.stands.fits_is ∙ s4.1.fits_is ∙ ap (λ q. q.fits) both.1)

-- Expressions to the end of their line.
record ValueStands (to next : Between) (p q : Place) : Type 0 where
  value : PlainExpr
  text_is : p.rest ≡ expr_text value ++ (codes ";\n" ++ q.rest)
  fits_is : p.fits ≡ q.fits
  laid : expr_fits value ≡ true
  next_is : to ≡ next

value_found : (to : Between) (p : Place) (next : Between) (q : Place) → value_line to p ≡ Some (next, q) → ValueStands to next p q
value_found to p next q is =
    let s1 = then_at_some (passed_at p) next q (fixed_by (codes ";\n") to) is in
    let s2 = step_at (codes ";\n") s1.0 next q (λ q. Some (to, q)) s1.2 in
    let both = ends next q to s2.0 s2.2 in
    let e = passed_found p s1.0 s1.1 in
    record {
      value = e.one;
      text_is = e.stands.text_is ∙ ap (λ t. expr_text e.one ++ t) (s2.1.text_is ∙ ap (λ q. codes ";\n" ++ q.rest) both.1);
      fits_is = e.stands.fits_is ∙ s2.1.fits_is ∙ ap (λ q. q.fits) both.1;
      laid = e.laid;
      next_is = both.0;
    }

-- where the test of an assign has been made
assign_line_found : (p : Place) (next : Between) (q : Place) → assign_line p ≡ Some (next, q) → LineFound after_decls AssignsFollow next p q
assign_line_found p next q is =
    let s1 = step_at (codes "  assign ") p next q (λ q. then_reads (name_at q) (λ n r. then_at (after (codes " = ") r) (value_line Assigns))) is in
    let s2 = then_reads_some (name_at s1.0) next q (λ n r. then_at (after (codes " = ") r) (value_line Assigns)) s1.2 in
    let s3 = step_at (codes " = ") s2.1 next q (value_line Assigns) s2.3 in
    let n = name_found s1.0 s2.0 s2.1 s2.2 in
    let v = value_found Assigns s3.0 next q s3.2 in
    let own : PlainAssign = record { name = s2.0; value = v.value } in
    let fits : assign_fits own ≡ true = and_from (is_name s2.0) (expr_fits v.value) n.passes v.laid in
    record {
      line = AssignLine own;
      fit = fits;
      text_is = s1.1.text_is ∙ ap (λ t. codes "  assign " ++ t) (n.stands.text_is ∙ ap (λ t. s2.0 ++ t) (s3.1.text_is ∙ ap (λ t. codes " = " ++ t) v.text_is)) ∙ sym (assign_pieces s2.0 (expr_text v.value) q.rest);
      fits_is = s1.1.fits_is ∙ n.stands.fits_is ∙ s3.1.fits_is ∙ v.fits_is;
      again = λ y. assign_again own y fits ∙ ap (λ n. Some (n, clean y)) v.next_is;
      follows = λ y h. one_assign own y fits (subst (λ n. Follows n y) (sym v.next_is) h);
    }

record SetStands (to next : Between) (p q : Place) : Type 0 where
  own : PlainAssign
  fits : assign_fits own ≡ true
  text_is : p.rest ≡ (line_text (SetLine own) ++ codes "\n") ++ q.rest
  fits_is : p.fits ≡ q.fits
  next_is : to ≡ next

set_found : (to : Between) (p : Place) (next : Between) (q : Place) → set_line to p ≡ Some (next, q) → SetStands to next p q
set_found to p next q is =
    let s1 = step_at (codes "      ") p next q (λ q. then_reads (name_at q) (λ n r. then_at (after (codes " <= ") r) (value_line to))) is in
    let s2 = then_reads_some (name_at s1.0) next q (λ n r. then_at (after (codes " <= ") r) (value_line to)) s1.2 in
    let s3 = step_at (codes " <= ") s2.1 next q (value_line to) s2.3 in
    let n = name_found s1.0 s2.0 s2.1 s2.2 in
    let v = value_found to s3.0 next q s3.2 in
    record {
      own = record { name = s2.0; value = v.value };
      fits = and_from (is_name s2.0) (expr_fits v.value) n.passes v.laid;
      text_is = s1.1.text_is ∙ ap (λ t. codes "      " ++ t) (n.stands.text_is ∙ ap (λ t. s2.0 ++ t) (s3.1.text_is ∙ ap (λ t. codes " <= " ++ t) v.text_is)) ∙ sym (set_line_pieces s2.0 (expr_text v.value) q.rest);
      fits_is = s1.1.fits_is ∙ n.stands.fits_is ∙ s3.1.fits_is ∙ v.fits_is;
      next_is = v.next_is;
    }

own_set_found : (p : Place) (next : Between) (q : Place) → set_line Sets p ≡ Some (next, q) → LineFound (line_at Sets) (Follows Sets) next p q
own_set_found p next q is =
    let s = set_found Sets p next q is in
    record {
      line = SetLine s.own;
      fit = s.fits;
      text_is = s.text_is;
      fits_is = s.fits_is;
      again = λ y. own_set_again s.own y s.fits ∙ ap (λ n. Some (n, clean y)) s.next_is;
      follows = λ y h. one_set s.own y s.fits (subst (λ n. Follows n y) (sym s.next_is) h);
    }

-- the guard and the array of a store
record HeadStands (p q : Place) : Type 0 where
  guard : PlainExpr
  array : List ℕ
  text_is : p.rest ≡ codes "      if (" ++ (expr_text guard ++ (codes ") " ++ (array ++ (codes "[" ++ q.rest))))
  fits_is : p.fits ≡ q.fits
  laid : expr_fits guard ≡ true
  name : is_name array ≡ true

place_at : (o : Option Place) (z : Place) (f : Place → Option Place) → then_at o f ≡ Some z → (q : Place) × (o ≡ Some q) × (f q ≡ Some z)
place_at None z f e = absurd (cc)
place_at (Some q) z f e = (q, refl, e)

place_reads : {X : Type 0} (r : Reads X) (z : Place) (f : X → Place → Option Place) → then_reads r f ≡ Some z → (x : X) × (q : Place) × (r ≡ Some (x, q)) × (f x q ≡ Some z)
place_reads None z f e = absurd (cc)
place_reads (Some x) z f e = (x.0, x.1, refl, e)

head_stands : (p q : Place) → store_head p ≡ Some q → HeadStands p q
head_stands p q is =
    let s1 = place_at (after (codes "      if (") p) q (λ q. then_at (passed_at q) (λ r. then_at (after (codes ") ") r) (λ s. then_reads (name_at s) (λ n t. after (codes "[") t)))) is in
    let s2 = place_at (passed_at s1.0) q (λ r. then_at (after (codes ") ") r) (λ s. then_reads (name_at s) (λ n t. after (codes "[") t))) s1.2 in
    let s3 = place_at (after (codes ") ") s2.0) q (λ s. then_reads (name_at s) (λ n t. after (codes "[") t)) s2.2 in
    let s4 = place_reads (name_at s3.0) q (λ n t. after (codes "[") t) s3.2 in
    let t1 = after_found (codes "      if (") p s1.0 s1.1 in
    let t3 = after_found (codes ") ") s2.0 s3.0 s3.1 in
    let t5 = after_found (codes "[") s4.1 q s4.3 in
    let g = passed_found s1.0 s2.0 s2.1 in
    let n = name_found s3.0 s4.0 s4.1 s4.2 in
    record {
      guard = g.one;
      array = s4.0;
      text_is = t1.text_is ∙ ap (λ t. codes "      if (" ++ t) (g.stands.text_is ∙ ap (λ t. expr_text g.one ++ t) (t3.text_is ∙ ap (λ t. codes ") " ++ t) (n.stands.text_is ∙ ap (λ t. s4.0 ++ t) t5.text_is)));
      fits_is = t1.fits_is ∙ g.stands.fits_is ∙ t3.fits_is ∙ n.stands.fits_is ∙ t5.fits_is;
      laid = g.laid;
      name = n.passes;
    }

-- a line of the branch without reset that stands here
stored : (i : PlainItem) (next : Between) (p q : Place) → Items ≡ next → item_fits i ≡ true → line_fits (item_line i) ≡ true → p.rest ≡ (line_text (item_line i) ++ codes "\n") ++ q.rest → p.fits ≡ q.fits → LineFound (line_at Items) (Follows Items) next p q
stored i next p q same fits fit text kept =
    record {
      line = item_line i;
      fit = fit;
      text_is = text;
      fits_is = kept;
      again = λ y. own_item_again i y fits ∙ ap (λ n. Some (n, clean y)) same;
      follows = λ y h. one_item i y fits (subst (λ n. Follows n y) (sym same) h);
    }

store_line_found : (p : Place) (next : Between) (q : Place) → store_line p ≡ Some (next, q) → LineFound (line_at Items) (Follows Items) next p q
store_line_found p next q is =
    let s1 = then_at_some (store_head p) next q (λ q. then_at (passed_at q) (λ r. then_at (after (codes "] <= ") r) (value_line Items))) is in
    let s2 = then_at_some (passed_at s1.0) next q (λ r. then_at (after (codes "] <= ") r) (value_line Items)) s1.2 in
    let s3 = step_at (codes "] <= ") s2.0 next q (value_line Items) s2.2 in
    let h = head_stands p s1.0 s1.1 in
    let i = passed_found s1.0 s2.0 s2.1 in
    let v = value_found Items s3.0 next q s3.2 in
    let own : PlainStore = record { guard = h.guard; array = h.array; index = i.one; value = v.value } in
    let fits : item_fits (StoreTo own) ≡ true =
    and_from (is_name h.array && expr_fits h.guard && expr_fits i.one) (expr_fits v.value) (and_from (is_name h.array && expr_fits h.guard) (expr_fits i.one) (and_from (is_name h.array) (expr_fits h.guard) h.name h.laid) i.laid) v.laid in
    stored (StoreTo own) next p q v.next_is fits fits
    (h.text_is ∙ ap (λ t. codes "      if (" ++ (expr_text h.guard ++ (codes ") " ++ (h.array ++ (codes "[" ++ t))))) (i.stands.text_is ∙ ap (λ t. expr_text i.one ++ t) (s3.1.text_is ∙ ap (λ t. codes "] <= " ++ t) v.text_is))
    ∙ sym (store_pieces (expr_text h.guard) h.array (expr_text i.one) (expr_text v.value) q.rest))
    (h.fits_is ∙ i.stands.fits_is ∙ s3.1.fits_is ∙ v.fits_is)

step_line_found : (p : Place) (next : Between) (q : Place) → step_line p ≡ Some (next, q) → LineFound (line_at Items) (Follows Items) next p q
step_line_found p next q is = go (begins (codes "      if (") p) is
  where
    go : (t : Bool) → (if t then store_line p else set_line Items p) ≡ Some (next, q) → LineFound (line_at Items) (Follows Items) next p q
    go true is = store_line_found p next q is
    go false is = let s = set_found Items p next q is in stored (SetTo s.own) next p q s.next_is s.fits s.fits s.text_is s.fits_is

-- Instances.
instance_line_found : (p : Place) (next : Between) (q : Place) → instance_line p ≡ Some (next, q) → p.fits ≡ true → LineFound after_assigns InstancesFollow next p q
instance_line_found p next q is clear =
    let s = then_reads_some (instance_at p) next q (λ i q. Some (Instances, q)) is in
    let both = ends next q Instances s.1 s.3 in
    let kept = instance_fits_on p s.0 s.1 s.2 in
    let f = instance_found p s.0 s.1 s.2 (sym kept ∙ clear) in
    record {
      line = InstanceLine f.one;
      fit = f.good_is;
      text_is = f.text_is ∙ ap (λ q. (line_text (InstanceLine f.one) ++ codes "\n") ++ q.rest) both.1;
      fits_is = kept ∙ ap (λ q. q.fits) both.1;
      again = λ y. instance_again f.one y f.good_is ∙ ap (λ n. Some (n, clean y)) both.0;
      follows = λ y h. one_instance f.one y f.good_is (subst (λ n. Follows n y) (sym both.0) h);
    }

-- By what is awaited.
end_of_last : FindsLine (fixed_by (codes "endmodule\n") Modules) LastFollows
end_of_last = widened (fixed_by (codes "endmodule\n") Modules) (Follows ModuleDone) LastFollows (λ x h. inl h) end_found

after_instances_found : FindsLine after_instances LastFollows
after_instances_found = tested (begins (codes "  always ")) (fixed_by (codes "  always @(posedge clk) begin\n") Branches) (fixed_by (codes "endmodule\n") Modules) LastFollows (local_begins (codes "  always ") refl) always_found end_of_last

after_assigns_found : FindsLine after_assigns InstancesFollow
after_assigns_found = tested is_instance instance_line after_instances InstancesFollow local_instance instance_line_found (widened after_instances LastFollows InstancesFollow no_instance after_instances_found)

after_decls_found : FindsLine after_decls AssignsFollow
after_decls_found =
    tested (begins (codes "  assign ")) assign_line after_assigns AssignsFollow (local_begins (codes "  assign ") refl) (λ p next q is clear. assign_line_found p next q is) (widened after_assigns InstancesFollow AssignsFollow no_assign after_assigns_found)

-- whatever is awaited
pub line_found : (b : Between) → FindsLine (line_at b) (Follows b)
line_found Externals = tested (begins (codes "/")) external_line module_line (Follows Externals) (local_begins (codes "/") refl) external_line_found (module_line_by (Follows Externals) first_module)
line_found Modules = module_line_by (Follows Modules) next_module
line_found Port = port_line_found
line_found PortsDone = ports_end_found
line_found Decls = tested is_decl decl_line after_decls DeclsFollow local_decl (λ p next q is clear. decl_line_found p next q is) (widened after_decls AssignsFollow DeclsFollow no_decl after_decls_found)
line_found Assigns = after_decls_found
line_found Instances = after_assigns_found
line_found Branches = reset_found
line_found Sets = tested (begins (codes "     ")) (set_line Sets) (fixed_by (codes "    end else begin\n") Items) (Follows Sets) (local_begins (codes "     ") refl) (λ p next q is clear. own_set_found p next q is) else_found
line_found Items = tested (begins (codes "     ")) step_line (fixed_by (codes "    end\n") EdgeDone) (Follows Items) (local_begins (codes "     ") refl) (λ p next q is clear. step_line_found p next q is) branches_end_found
line_found EdgeDone = always_end_found
line_found ModuleDone = end_found
