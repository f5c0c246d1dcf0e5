-- The lines that are read stand in the text: external memories, ports, declarations and assigns.
use Rattle.std.proofs.Common.{◌≡◌, ℕ, suc, ◌+◌, ◌-◌, ◌<◌, ◌≤◌, Bool, true, false, ◌&&◌, List, ◌∷◌, ◌++◌, map, length, Some, refl, ◌∙◌, ap, sym, subst, arith, append_assoc, if◌then◌else◌}
use Rattle.std.specs.Prelude.{codes, nat_lt, nat_le}
use Rattle.std.specs.List.{list_all}
use Rattle.std.proofs.lemmas.List.{map-id}
use Rattle.std.proofs.lemmas.Bool.{and_from, lt-ltb, le-leb}
use Rattle.cx_vtree.specs.Layout.{is_name, is_word, expr_fits, port_fits, decl_fits, assign_fits, external_fits}
use Rattle.cx_vtree.specs.Spelling.{port_lines}
use Rattle.cx_vtree.specs.Lines.{decimal_text, expr_text, bounds_text, side_text, sizes_text, ExternalLine, DeclLine, AssignLine, line_text, lines_text}
use Rattle.cx_vtree.specs.Plain.{PlainExpr, PlainPort, PlainDecl, WireOf, RegisterOf, ArrayOf, PlainAssign, PlainExternal}
use Rattle.cx_vtree.specs.Sound.{Scope}
use Rattle.cx_vread_exprs.specs.Places.{Place, then_reads, then_at, after, begins, many}
use Rattle.cx_vread_exprs.specs.Tokens.{kept_small, word_at, name_at, number_at, any_number_at, capped, no_more, small_at, bounds_at}
use Rattle.cx_vread_exprs.specs.Deep.{whole_expr_at}
use Rattle.cx_vread_exprs.proofs.Found.{ends, Stands, WordFound, then_reads_some, step_at, word_found, name_found}
use Rattle.cx_vread_exprs.proofs.ExprAgain.{Ends, closed}
use Rattle.cx_vread_exprs.proofs.WholeExprs.{whole_found}
use Rattle.cx_vread_exprs.proofs.SignsFound.{number_found, any_number_found, small_found}
use Rattle.cx_vread.specs.Parts.{more_size_at, sizes_at, external_by, external_at, port_by, port_at, next_port_at, more_ports_at, ports_at, array_by, register_by, register_at, wire_at, decl_at, assigned_by, assign_at}
use Rattle.cx_vread.proofs.LinePieces.{sizes_pieces, external_pieces, bounds_pieces, port_pieces, wire_pieces, register_pieces, array_pieces, assign_pieces}
use Rattle.cx_vread.proofs.Kept.{kept_port, kept_decl, kept_assign, kept_external}
use Rattle.cx_vread.proofs.ExternalAgain.{next_text as size_text, sizes_joined, any_size}
use Rattle.cx_vread.proofs.LineAgain.{width_kept, next_text as port_next, ports_joined}
use Rattle.cx_vread.proofs.ManyAgain.{joined_text}
use Rattle.cx_vread.proofs.ManyFound.{Found, FindsBy, many_found}

-- a size
size_found : FindsBy (λ k. k) decimal_text any_size any_number_at
size_found p n q is ok =
    let f = any_number_found p n q is in
    record { one = n; text_is = f.text_is; fits_is = f.fits_is ∙ ok; kept_is = refl; good_is = refl }

more_size_found : FindsBy (λ k. k) size_text any_size more_size_at
more_size_found p n q is ok =
    let s = step_at (codes " ") p n q any_number_at is in
    let f = size_found s.0 n q s.2 ok in
    record {
      one = f.one;
      text_is = s.1.text_is ∙ ap (λ t. codes " " ++ t) f.text_is ∙ sym (append_assoc (codes " ") (decimal_text f.one) q.rest);
      fits_is = s.1.fits_is ∙ f.fits_is;
      kept_is = f.kept_is;
      good_is = refl;
    }

record SizesFound (p : Place) (ns : List ℕ) (q : Place) : Type 0 where
  sizes : List ℕ
  text_is : codes " " ++ p.rest ≡ sizes_text sizes ++ q.rest
  fits_is : p.fits ≡ true
  kept_is : sizes ≡ ns
  some : 0 < length sizes
  few : length sizes ≤ 4

sizes_found : (p : Place) (ns : List ℕ) (q : Place) → sizes_at p ≡ Some (ns, q) → q.fits ≡ true → SizesFound p ns q
sizes_found p ns q is ok =
    let s1 = then_reads_some (any_number_at p) ns q (λ k q. then_reads (many (begins (codes " ")) more_size_at 3 q) (λ ks r. Some (k ∷ ks, r))) is in
    let s2 = then_reads_some (many (begins (codes " ")) more_size_at 3 s1.1) ns q (λ ks r. Some (s1.0 ∷ ks, r)) s1.3 in
    let both = ends ns q (s1.0 ∷ s2.0) s2.1 s2.3 in
    let more = many_found (begins (codes " ")) more_size_at more_size_found 3 s1.1 s2.0 s2.1 s2.2 (ap (λ q. q.fits) both.1 ∙ ok) in
    let one = size_found p s1.0 s1.1 s1.2 more.fits_is in
    let three = more.few in
    record {
      sizes = one.one ∷ more.all;
      text_is = ap (λ t. codes " " ++ t) (one.text_is ∙ ap (λ t. decimal_text one.one ++ t) (more.text_is ∙ ap (λ t. t ++ s2.1.rest) (sym (sizes_joined more.all)) ∙ ap (λ q. sizes_text more.all ++ q.rest) both.1)) ∙ sym (sizes_pieces (decimal_text one.one) (sizes_text more.all) q.rest);
      fits_is = one.fits_is;
      kept_is = ap (λ k. k ∷ more.all) one.kept_is ∙ ap (λ ks. s1.0 ∷ ks) (sym (map-id more.all) ∙ more.kept_is) ∙ both.0;
      some = omega arith;
      few = omega arith;
    }

abbrev pub external_text_of : PlainExternal → List ℕ
external_text_of e = line_text (ExternalLine e) ++ codes "\n"

-- the width and the sizes of an external memory, behind its names
record ExternalEnds (n i : List ℕ) (p : Place) (e : PlainExternal) (q : Place) : Type 0 where
  width : ℕ
  sizes : List ℕ
  text_is : p.rest ≡ decimal_text width ++ (sizes_text sizes ++ (codes "\n" ++ q.rest))
  fits_is : p.fits ≡ true
  kept_is : kept_external (record { name = n; instance = i; width = width; sizes = sizes }) ≡ e
  some : 0 < length sizes
  few : length sizes ≤ 4

abbrev external_of : List ℕ → List ℕ → ℕ → List ℕ → PlainExternal
external_of n i w ks = record { name = n; instance = i; width = w; sizes = ks }

external_same : (n i : List ℕ) (v w : ℕ) (js ks : List ℕ) (e : PlainExternal) → v ≡ w → js ≡ ks → external_of n i w ks ≡ e → external_of n i v js ≡ e
external_same n i v w js ks e f g h = ap (λ v. external_of n i v js) f ∙ ap (external_of n i w) g ∙ h

external_by_found : (n i : List ℕ) (p : Place) (e : PlainExternal) (q : Place) → external_by n i p ≡ Some (e, q) → q.fits ≡ true → ExternalEnds n i p e q
external_by_found n i p e q is ok =
    let s6 = then_reads_some (small_at p) e q (λ w q. then_at (after (codes " ") q) (λ r. then_reads (sizes_at r) (λ ks s. then_at (after (codes "\n") s) (λ t. Some (external_of n i w ks, t))))) is in
    let s7 = step_at (codes " ") s6.1 e q (λ r. then_reads (sizes_at r) (λ ks s. then_at (after (codes "\n") s) (λ t. Some (external_of n i s6.0 ks, t)))) s6.3 in
    let s8 = then_reads_some (sizes_at s7.0) e q (λ ks s. then_at (after (codes "\n") s) (λ t. Some (external_of n i s6.0 ks, t))) s7.2 in
    let s9 = step_at (codes "\n") s8.1 e q (λ t. Some (external_of n i s6.0 s8.0, t)) s8.3 in
    let both = ends e q (external_of n i s6.0 s8.0) s9.0 s9.2 in
    let w = small_found p s6.0 s6.1 s6.2 in
    let ks = sizes_found s7.0 s8.0 s8.1 s8.2 (s9.1.fits_is ∙ ap (λ q. q.fits) both.1 ∙ ok) in
    record {
      width = w.number;
      sizes = ks.sizes;
      text_is = w.stands.text_is ∙ ap (λ t. decimal_text w.number ++ t) (s7.1.text_is ∙ ks.text_is ∙ ap (λ t. sizes_text ks.sizes ++ t) (s9.1.text_is ∙ ap (λ q. codes "\n" ++ q.rest) both.1));
      fits_is = w.stands.fits_is ∙ s7.1.fits_is ∙ ks.fits_is;
      kept_is = external_same n i (kept_small w.number) s6.0 ks.sizes s8.0 e w.value_is ks.kept_is both.0;
      some = ks.some;
      few = ks.few;
    }

external_whole : (p q : Place) (e : PlainExternal) (n i : List ℕ) (a b c d r : Place) → Stands (codes "// external ") p a → WordFound is_word a n b → Stands (codes " ") b c → WordFound is_name c i d → Stands (codes " ") d r
    → ExternalEnds n i r e q → Found kept_external external_text_of external_fits p e q
external_whole p q e n i a b c d r head word space name gap x =
    let some = x.some in
    let few = x.few in
    record {
      one = external_of n i x.width x.sizes;
      text_is = head.text_is ∙ ap (λ t. codes "// external " ++ t) (word.stands.text_is ∙ ap (λ t. n ++ t) (space.text_is ∙ ap (λ t. codes " " ++ t) (name.stands.text_is ∙ ap (λ t. i ++ t) (gap.text_is ∙ ap (λ t. codes " " ++ t) x.text_is))))
          ∙ sym (external_pieces n i (decimal_text x.width) (sizes_text x.sizes) q.rest);
      fits_is = head.fits_is ∙ word.stands.fits_is ∙ space.fits_is ∙ name.stands.fits_is ∙ gap.fits_is ∙ x.fits_is;
      kept_is = x.kept_is;
      good_is = and_from (is_word n && is_name i && nat_lt 0 (length x.sizes)) (nat_le (length x.sizes) 4)
          (and_from (is_word n && is_name i) (nat_lt 0 (length x.sizes)) (and_from (is_word n) (is_name i) word.passes name.passes) (lt-ltb 0 (length x.sizes) some)) (le-leb (length x.sizes) 4 few);
    }

pub external_found : FindsBy kept_external external_text_of external_fits external_at
external_found p e q is ok =
    let s1 = step_at (codes "// external ") p e q (λ q. then_reads (word_at q) (λ n r. then_at (after (codes " ") r) (λ s. then_reads (name_at s) (λ i t. then_at (after (codes " ") t) (external_by n i))))) is in
    let s2 = then_reads_some (word_at s1.0) e q (λ n r. then_at (after (codes " ") r) (λ s. then_reads (name_at s) (λ i t. then_at (after (codes " ") t) (external_by n i)))) s1.2 in
    let s3 = step_at (codes " ") s2.1 e q (λ s. then_reads (name_at s) (λ i t. then_at (after (codes " ") t) (external_by s2.0 i))) s2.3 in
    let s4 = then_reads_some (name_at s3.0) e q (λ i t. then_at (after (codes " ") t) (external_by s2.0 i)) s3.2 in
    let s5 = step_at (codes " ") s4.1 e q (external_by s2.0 s4.0) s4.3 in
    external_whole p q e s2.0 s4.0 s1.0 s2.1 s3.0 s4.1 s5.0 s1.1 (word_found s1.0 s2.0 s2.1 s2.2) s3.1 (name_found s3.0 s4.0 s4.1 s4.2) s5.1 (external_by_found s2.0 s4.0 s5.0 e q s5.2 ok)

-- a width
pub record WidthFound (p : Place) (w : ℕ) (q : Place) : Type 0 where
  pub width : ℕ
  pub stands : Stands (bounds_text width) p q
  pub kept_is : kept_small width ≡ w
  pub some : nat_lt 0 width ≡ true

pub bounds_found : (p : Place) (w : ℕ) (q : Place) → bounds_at p ≡ Some (w, q) → WidthFound p w q
bounds_found p w q is =
    let s1 = step_at (codes "[") p w q (λ q. then_reads (number_at 10 q) (λ n r. then_at (after (codes ":0] ") r) (λ s. Some (no_more 254 n + 1, s)))) is in
    let s2 = then_reads_some (number_at 10 s1.0) w q (λ n r. then_at (after (codes ":0] ") r) (λ s. Some (no_more 254 n + 1, s))) s1.2 in
    let s3 = step_at (codes ":0] ") s2.1 w q (λ s. Some (no_more 254 s2.0 + 1, s)) s2.3 in
    let both = ends w q (no_more 254 s2.0 + 1) s3.0 s3.2 in
    let f = number_found s1.0 s2.0 s2.1 s2.2 in
    let back : f.number ≡ f.number + 1 - 1 = omega arith in
    record {
      width = f.number + 1;
      stands = record {
        text_is = s1.1.text_is ∙ ap (λ t. codes "[" ++ t) (f.stands.text_is ∙ ap (λ n. decimal_text n ++ s2.1.rest) back ∙ ap (λ t. decimal_text (f.number + 1 - 1) ++ t) (s3.1.text_is ∙ ap (λ q. codes ":0] " ++ q.rest) both.1)) ∙ sym (bounds_pieces (decimal_text (f.number + 1 - 1)) q.rest);
        fits_is = s1.1.fits_is ∙ f.stands.fits_is ∙ s3.1.fits_is ∙ ap (λ q. q.fits) both.1;
      };
      kept_is = sym (width_kept (f.number + 1) (omega arith)) ∙ ap (λ n. no_more 254 (capped n) + 1) (sym back) ∙ ap (λ o. no_more 254 o + 1) f.value_is ∙ both.0;
      some = lt-ltb 0 (f.number + 1) (omega arith);
    }

-- ports
abbrev pub port_text : PlainPort → List ℕ
port_text p = side_text p.output ++ (bounds_text p.width ++ p.name)

port_by_found : (output : Bool) (p m : Place) (y : PlainPort) (q : Place) → Stands (side_text output) p m → port_by output m ≡ Some (y, q) → q.fits ≡ true → Found kept_port port_text port_fits p y q
port_by_found output p m y q side is ok =
    let s1 = then_reads_some (bounds_at m) y q (λ w q. then_reads (name_at q) (λ n r. Some (record { output = output; name = n; width = w }, r))) is in
    let s2 = then_reads_some (name_at s1.1) y q (λ n r. Some (record { output = output; name = n; width = s1.0 }, r)) s1.3 in
    let both = ends y q (record { output = output; name = s2.0; width = s1.0 }) s2.1 s2.3 in
    let w = bounds_found m s1.0 s1.1 s1.2 in
    let n = name_found s1.1 s2.0 s2.1 s2.2 in
    let own : PlainPort = record { output = output; name = s2.0; width = w.width } in
    record {
      one = own;
      text_is = side.text_is ∙ ap (λ t. side_text output ++ t) (w.stands.text_is ∙ ap (λ t. bounds_text w.width ++ t) (n.stands.text_is ∙ ap (λ q. s2.0 ++ q.rest) both.1)) ∙ sym (port_pieces (side_text output) (bounds_text w.width) s2.0 q.rest);
      fits_is = side.fits_is ∙ w.stands.fits_is ∙ n.stands.fits_is ∙ ap (λ q. q.fits) both.1 ∙ ok;
      kept_is = ap (λ w. record { output = output; name = s2.0; width = w }) w.kept_is ∙ both.0;
      good_is = and_from (is_name s2.0) (nat_lt 0 w.width) n.passes w.some;
    }

pub port_found : FindsBy kept_port port_text port_fits port_at
port_found p y q is ok = go (begins (codes "  output wire ") p) is
  where
    go : (t : Bool) → (if t then then_at (after (codes "  output wire ") p) (port_by true) else then_at (after (codes "  input wire ") p) (port_by false)) ≡ Some (y, q) → Found kept_port port_text port_fits p y q
    go true is = let s = step_at (codes "  output wire ") p y q (port_by true) is in port_by_found true p s.0 y q s.1 s.2 ok
    go false is = let s = step_at (codes "  input wire ") p y q (port_by false) is in port_by_found false p s.0 y q s.1 s.2 ok

next_port_found : FindsBy kept_port port_next port_fits next_port_at
next_port_found p y q is ok =
    let s = step_at (codes ",\n") p y q port_at is in
    let f = port_found s.0 y q s.2 ok in
    let assoc : port_next f.one ++ q.rest ≡ codes ",\n" ++ (port_text f.one ++ q.rest) = append_assoc (codes ",\n") (port_text f.one) q.rest in
    record { one = f.one; text_is = s.1.text_is ∙ ap (λ t. codes ",\n" ++ t) f.text_is ∙ sym assoc; fits_is = s.1.fits_is ∙ f.fits_is; kept_is = f.kept_is; good_is = f.good_is }

pub record PortsFound (p : Place) (ys : List PlainPort) (q : Place) : Type 0 where
  pub all : List PlainPort
  pub text_is : p.rest ≡ lines_text (port_lines all) ++ (codes ");\n" ++ q.rest)
  pub fits_is : p.fits ≡ true
  pub kept_is : map kept_port all ≡ ys
  pub good_is : list_all port_fits all ≡ true
  pub some : nat_lt 0 (length all) ≡ true

pub ports_found : (p : Place) (ys : List PlainPort) (q : Place) → ports_at p ≡ Some (ys, q) → q.fits ≡ true → PortsFound p ys q
ports_found p ys q is ok =
    let s1 = then_reads_some (port_at p) ys q (λ x q. then_reads (more_ports_at q) (λ xs r. then_at (after (codes "\n);\n") r) (λ s. Some (x ∷ xs, s)))) is in
    let s2 = then_reads_some (more_ports_at s1.1) ys q (λ xs r. then_at (after (codes "\n);\n") r) (λ s. Some (s1.0 ∷ xs, s))) s1.3 in
    let s3 = step_at (codes "\n);\n") s2.1 ys q (λ s. Some (s1.0 ∷ s2.0, s)) s2.3 in
    let both = ends ys q (s1.0 ∷ s2.0) s3.0 s3.2 in
    let more = many_found (begins (codes ",")) next_port_at next_port_found (length s1.1.rest) s1.1 s2.0 s2.1 s2.2 (s3.1.fits_is ∙ ap (λ q. q.fits) both.1 ∙ ok) in
    let one = port_found p s1.0 s1.1 s1.2 more.fits_is in
    record {
      all = one.one ∷ more.all;
      text_is = one.text_is ∙ ap (λ t. port_text one.one ++ t) (more.text_is ∙ ap (λ t. joined_text port_next more.all ++ t) (s3.1.text_is ∙ ap (λ q. codes "\n);\n" ++ q.rest) both.1)) ∙ port_pieces (side_text one.one.output) (bounds_text one.one.width) one.one.name (joined_text port_next more.all ++ (codes "\n" ++ (codes ");\n" ++ q.rest))) ∙ sym (ports_joined more.all q.rest one.one);
      fits_is = one.fits_is;
      kept_is = ap (λ x. x ∷ map kept_port more.all) one.kept_is ∙ ap (λ xs. s1.0 ∷ xs) more.kept_is ∙ both.0;
      good_is = and_from (port_fits one.one) (list_all port_fits more.all) one.good_is more.good_is;
      some = lt-ltb 0 (length (one.one ∷ more.all)) (omega arith);
    }

-- Declarations.
abbrev pub decl_text_of : PlainDecl → List ℕ
decl_text_of d = line_text (DeclLine d) ++ codes "\n"

wire_found : (p m : Place) (d : PlainDecl) (q : Place) → Stands (codes "  wire ") p m → wire_at m ≡ Some (d, q) → q.fits ≡ true → Found kept_decl decl_text_of decl_fits p d q
wire_found p m d q head is ok =
    let s1 = then_reads_some (bounds_at m) d q (λ w q. then_reads (name_at q) (λ n r. then_at (after (codes ";\n") r) (λ s. Some (WireOf n w, s)))) is in
    let s2 = then_reads_some (name_at s1.1) d q (λ n r. then_at (after (codes ";\n") r) (λ s. Some (WireOf n s1.0, s))) s1.3 in
    let s3 = step_at (codes ";\n") s2.1 d q (λ s. Some (WireOf s2.0 s1.0, s)) s2.3 in
    let both = ends d q (WireOf s2.0 s1.0) s3.0 s3.2 in
    let w = bounds_found m s1.0 s1.1 s1.2 in
    let n = name_found s1.1 s2.0 s2.1 s2.2 in
    record {
      one = WireOf s2.0 w.width;
      text_is = head.text_is ∙ ap (λ t. codes "  wire " ++ t) (w.stands.text_is ∙ ap (λ t. bounds_text w.width ++ t) (n.stands.text_is ∙ ap (λ t. s2.0 ++ t) (s3.1.text_is ∙ ap (λ q. codes ";\n" ++ q.rest) both.1))) ∙ sym (wire_pieces (bounds_text w.width) s2.0 q.rest);
      fits_is = head.fits_is ∙ w.stands.fits_is ∙ n.stands.fits_is ∙ s3.1.fits_is ∙ ap (λ q. q.fits) both.1 ∙ ok;
      kept_is = ap (WireOf s2.0) w.kept_is ∙ both.0;
      good_is = and_from (is_name s2.0) (nat_lt 0 w.width) n.passes w.some;
    }

plain_register_found : (p m r : Place) (n : List ℕ) (w : ℕ) (d : PlainDecl) (q : Place) → Stands (codes "  reg ") p m → (b : Place) → WidthFound m w b → Stands n b r → is_name n ≡ true
    → then_at {Y = PlainDecl × Place} (after (codes ";\n") r) (λ q. Some (RegisterOf n w, q)) ≡ Some (d, q) → q.fits ≡ true → Found kept_decl decl_text_of decl_fits p d q
plain_register_found p m r n w d q head b width name h is ok =
    let s = step_at (codes ";\n") r d q (λ q. Some (RegisterOf n w, q)) is in
    let both = ends d q (RegisterOf n w) s.0 s.2 in
    record {
      one = RegisterOf n width.width;
      text_is = head.text_is ∙ ap (λ t. codes "  reg " ++ t) (width.stands.text_is ∙ ap (λ t. bounds_text width.width ++ t) (name.text_is ∙ ap (λ t. n ++ t) (s.1.text_is ∙ ap (λ q. codes ";\n" ++ q.rest) both.1))) ∙ sym (register_pieces (bounds_text width.width) n q.rest);
      fits_is = head.fits_is ∙ width.stands.fits_is ∙ name.fits_is ∙ s.1.fits_is ∙ ap (λ q. q.fits) both.1 ∙ ok;
      kept_is = ap (RegisterOf n) width.kept_is ∙ both.0;
      good_is = and_from (is_name n) (nat_lt 0 width.width) h width.some;
    }

array_found : (p m r : Place) (n : List ℕ) (w : ℕ) (d : PlainDecl) (q : Place) → Stands (codes "  reg ") p m → (b : Place) → WidthFound m w b → Stands n b r → is_name n ≡ true
    → array_by n w r ≡ Some (d, q) → q.fits ≡ true → Found kept_decl decl_text_of decl_fits p d q
array_found p m r n w d q head b width name h is ok =
    let s1 = step_at (codes " [0:") r d q (λ q. then_reads (any_number_at q) (λ k r. then_at (after (codes "];\n") r) (λ s. Some (ArrayOf n w (suc k), s)))) is in
    let s2 = then_reads_some (any_number_at s1.0) d q (λ k r. then_at (after (codes "];\n") r) (λ s. Some (ArrayOf n w (suc k), s))) s1.2 in
    let s3 = step_at (codes "];\n") s2.1 d q (λ s. Some (ArrayOf n w (suc s2.0), s)) s2.3 in
    let both = ends d q (ArrayOf n w (suc s2.0)) s3.0 s3.2 in
    let k = any_number_found s1.0 s2.0 s2.1 s2.2 in
    let last : s2.0 ≡ suc s2.0 - 1 = omega arith in
    record {
      one = ArrayOf n width.width (suc s2.0);
      text_is = head.text_is ∙ ap (λ t. codes "  reg " ++ t) (width.stands.text_is ∙ ap (λ t. bounds_text width.width ++ t) (name.text_is ∙ ap (λ t. n ++ t) (s1.1.text_is ∙ ap (λ t. codes " [0:" ++ t)
          (k.text_is ∙ ap (λ k. decimal_text k ++ s2.1.rest) last ∙ ap (λ t. decimal_text (suc s2.0 - 1) ++ t) (s3.1.text_is ∙ ap (λ q. codes "];\n" ++ q.rest) both.1))))) ∙ sym (array_pieces (bounds_text width.width) n (decimal_text (suc s2.0 - 1)) q.rest);
      fits_is = head.fits_is ∙ width.stands.fits_is ∙ name.fits_is ∙ s1.1.fits_is ∙ k.fits_is ∙ s3.1.fits_is ∙ ap (λ q. q.fits) both.1 ∙ ok;
      kept_is = ap (λ w. ArrayOf n w (suc s2.0)) width.kept_is ∙ both.0;
      good_is = and_from (is_name n && nat_lt 0 width.width) (nat_lt 0 (suc s2.0)) (and_from (is_name n) (nat_lt 0 width.width) h width.some) (lt-ltb 0 (suc s2.0) (omega arith));
    }

pub decl_found : FindsBy kept_decl decl_text_of decl_fits decl_at
decl_found p d q is ok = go (begins (codes "  reg ") p) is
  where
    kind : (m : Place) (s2 : Place) (n : List ℕ) (w : ℕ) → Stands (codes "  reg ") p m → (b : Place) → WidthFound m w b → Stands n b s2 → is_name n ≡ true → (t : Bool)
        → (if t then then_at {Y = PlainDecl × Place} (after (codes ";\n") s2) (λ q. Some (RegisterOf n w, q)) else array_by n w s2) ≡ Some (d, q) → Found kept_decl decl_text_of decl_fits p d q
    kind m r n w head b width name h true is = plain_register_found p m r n w d q head b width name h is ok
    kind m r n w head b width name h false is = array_found p m r n w d q head b width name h is ok

    go : (t : Bool) → (if t then then_at (after (codes "  reg ") p) register_at else then_at (after (codes "  wire ") p) wire_at) ≡ Some (d, q) → Found kept_decl decl_text_of decl_fits p d q
    go true is =
        let s0 = step_at (codes "  reg ") p d q register_at is in
        let s1 = then_reads_some (bounds_at s0.0) d q (λ w q. then_reads (name_at q) (λ n r. register_by n w r)) s0.2 in
        let s2 = then_reads_some (name_at s1.1) d q (λ n r. register_by n s1.0 r) s1.3 in
        let n = name_found s1.1 s2.0 s2.1 s2.2 in
        kind s0.0 s2.1 s2.0 s1.0 s0.1 s1.1 (bounds_found s0.0 s1.0 s1.1 s1.2) n.stands n.passes (begins (codes ";") s2.1) s2.3
    go false is = let s = step_at (codes "  wire ") p d q wire_at is in wire_found p s.0 d q s.1 s.2 ok

-- Assigns.
abbrev pub assign_text_of : PlainAssign → List ℕ
assign_text_of a = line_text (AssignLine a) ++ codes "\n"

module _ (scope : Scope) where
  pub record ValueFound (p : Place) (n : List ℕ) (a : PlainAssign) (q : Place) : Type 0 where
    pub value : PlainExpr
    pub text_is : p.rest ≡ expr_text value ++ (codes ";\n" ++ q.rest)
    pub fits_is : p.fits ≡ true
    pub kept_is : kept_assign scope (record { name = n; value = value }) ≡ a
    pub laid : expr_fits value ≡ true

  pub assigned_found : (n : List ℕ) (p : Place) (a : PlainAssign) (q : Place) → assigned_by scope n p ≡ Some (a, q) → q.fits ≡ true → ValueFound p n a q
  assigned_found n p a q is ok =
      let s1 = then_reads_some (whole_expr_at scope p) a q (λ e q. then_at (after (codes ";\n") q) (λ r. Some (record { name = n; value = e }, r))) is in
      let s2 = step_at (codes ";\n") s1.1 a q (λ r. Some (record { name = n; value = s1.0 }, r)) s1.3 in
      let both = ends a q (record { name = n; value = s1.0 }) s2.0 s2.2 in
      let e = whole_found scope p s1.0 s1.1 s1.2 (s2.1.fits_is ∙ ap (λ q. q.fits) both.1 ∙ ok) (subst Ends (sym s2.1.text_is) (closed 59 _ refl refl)) in
      record {
        value = e.one;
        text_is = e.text_is ∙ ap (λ t. expr_text e.one ++ t) (s2.1.text_is ∙ ap (λ q. codes ";\n" ++ q.rest) both.1);
        fits_is = e.fits_is;
        kept_is = ap (λ v. record { name = n; value = v }) e.kept_is ∙ both.0;
        laid = e.laid;
      }

  pub assign_found : FindsBy (kept_assign scope) assign_text_of assign_fits (assign_at scope)
  assign_found p a q is ok =
      let s1 = step_at (codes "  assign ") p a q (λ q. then_reads (name_at q) (λ n r. then_at (after (codes " = ") r) (assigned_by scope n))) is in
      let s2 = then_reads_some (name_at s1.0) a q (λ n r. then_at (after (codes " = ") r) (assigned_by scope n)) s1.2 in
      let s3 = step_at (codes " = ") s2.1 a q (assigned_by scope s2.0) s2.3 in
      let n = name_found s1.0 s2.0 s2.1 s2.2 in
      let v = assigned_found s2.0 s3.0 a q s3.2 ok in
      record {
        one = record { name = s2.0; value = v.value };
        text_is = s1.1.text_is ∙ ap (λ t. codes "  assign " ++ t) (n.stands.text_is ∙ ap (λ t. s2.0 ++ t) (s3.1.text_is ∙ ap (λ t. codes " = " ++ t) v.text_is)) ∙ sym (assign_pieces s2.0 (expr_text v.value) q.rest);
        fits_is = s1.1.fits_is ∙ n.stands.fits_is ∙ s3.1.fits_is ∙ v.fits_is;
        kept_is = v.kept_is;
        good_is = and_from (is_name s2.0) (expr_fits v.value) n.passes v.laid;
      }
