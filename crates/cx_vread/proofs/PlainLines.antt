-- No line has a line feed within it.
use Rattle.std.proofs.Common.{◌≡◌, ℕ, ◌-◌, inl, inr, ◌==◌, not, Bool, true, false, ◌&&◌, List, [], ◌∷◌, ◌++◌, length, refl, ◌∙◌, ap, arith, append_assoc}
use Rattle.std.specs.Prelude.{codes, nat_lt, nat_le}
use Rattle.std.specs.List.{list_all}
use Rattle.std.proofs.lemmas.Bool.{and_from, and_parts}
use Rattle.std.proofs.lemmas.Bool.Decides.{nat_tests}
use Rattle.std.proofs.lemmas.List.Folds.{list_all-append}
use Rattle.cx_vtree.specs.declared.operators.Operator.{Operator}
use Rattle.cx_vtree.specs.declared.operators.Operator.TheVariants.{Add, Subtract, Multiply, And, Or, Xor, ShiftLeft, ShiftRight, Equal, NotEqual, Less, Greater, AtMost, AtLeast}
use Rattle.cx_vtree.specs.Layout.{is_name_byte, is_word, is_name, begins_word, expr_fits, port_fits, decl_fits, assign_fits, conn_fits, instance_fits, item_fits, external_fits}
use Rattle.cx_vtree.specs.Lines.{number_text, decimal_text, op_text, expr_text, sizes_text, bounds_text, conn_text, more_conns_text, conns_text, decl_text, side_text, comma_text, Line, ExternalLine, ModuleLine, PortLine, PortsEnd, DeclLine, AssignLine, InstanceLine, AlwaysLine, ResetLine, SetLine, ElseLine, StoreLine, BranchesEnd, AlwaysEnd, ModuleEnd, line_text}
use Rattle.cx_vtree.specs.Plain.{PlainExpr, Named, Number, Part, Word, Applied, Inverted, Chosen, Joined, PlainDecl, WireOf, RegisterOf, ArrayOf, PlainConn, StoreTo}
use Rattle.cx_vread_exprs.specs.Tokens.{is_digit_in}
use Rattle.cx_vread_exprs.proofs.NumberAgain.{text_digits}
use Rattle.cx_vread_exprs.proofs.ExprAgain.{name_parts}

abbrev pub no_feed : ℕ → Bool
no_feed c = not (c == 10)

abbrev pub is_plain : List ℕ → Bool
is_plain bytes = list_all no_feed bytes

-- what a line's layout asks
abbrev pub line_fits : Line → Bool
line_fits (ExternalLine e) = external_fits e
line_fits (ModuleLine n) = is_name n
line_fits (PortLine p more) = port_fits p
line_fits PortsEnd = true
line_fits (DeclLine d) = decl_fits d
line_fits (AssignLine a) = assign_fits a
line_fits (InstanceLine i) = instance_fits i
line_fits AlwaysLine = true
line_fits ResetLine = true
line_fits (SetLine a) = assign_fits a
line_fits ElseLine = true
line_fits (StoreLine s) = item_fits (StoreTo s)
line_fits BranchesEnd = true
line_fits AlwaysEnd = true
line_fits ModuleEnd = true

joined : (a b : List ℕ) → is_plain a ≡ true → is_plain b ≡ true → is_plain (a ++ b) ≡ true
joined a b f g = list_all-append no_feed a b ∙ and_from (is_plain a) (is_plain b) f g

weaker : (test : ℕ → Bool) → ((c : ℕ) → test c ≡ true → no_feed c ≡ true) → (bytes : List ℕ) → list_all test bytes ≡ true → is_plain bytes ≡ true
weaker test one [] h = refl
weaker test one (c ∷ cs) h =
    let parts = and_parts (test c) (list_all test cs) h in
    and_from (no_feed c) (is_plain cs) (one c parts.0) (weaker test one cs parts.1)

name_byte-not_feed : (c : ℕ) → is_name_byte c ≡ true → (c == 10) ≡ false
name_byte-not_feed c h = grind (arith, nat_tests)

decimal-not_feed : (c : ℕ) → is_digit_in 10 c ≡ true → (c == 10) ≡ false
decimal-not_feed c h = grind (arith, nat_tests)

hexadecimal-not_feed : (c : ℕ) → is_digit_in 16 c ≡ true → (c == 10) ≡ false
hexadecimal-not_feed c h = grind (arith, nat_tests)

plain_name : (n : List ℕ) → is_name n ≡ true → is_plain n ≡ true
plain_name n h = weaker is_name_byte (λ c h. ap not (name_byte-not_feed c h)) n (name_parts n h).1

plain_word : (n : List ℕ) → is_word n ≡ true → is_plain n ≡ true
plain_word n h =
    let parts = and_parts (begins_word n && list_all is_name_byte n) (nat_le (length n) 255) h in
    weaker is_name_byte (λ c h. ap not (name_byte-not_feed c h)) n (and_parts (begins_word n) (list_all is_name_byte n) parts.0).1

plain_decimal : (n : ℕ) → is_plain (decimal_text n) ≡ true
plain_decimal n = weaker (is_digit_in 10) (λ c h. ap not (decimal-not_feed c h)) (decimal_text n) (text_digits 10 n (inl refl))

plain_hexadecimal : (n : ℕ) → is_plain (number_text 16 n) ≡ true
plain_hexadecimal n = weaker (is_digit_in 16) (λ c h. ap not (hexadecimal-not_feed c h)) (number_text 16 n) (text_digits 16 n (inr refl))

plain_operator : (op : Operator) → is_plain (op_text op) ≡ true
plain_operator Add = refl
plain_operator Subtract = refl
plain_operator Multiply = refl
plain_operator And = refl
plain_operator Or = refl
plain_operator Xor = refl
plain_operator ShiftLeft = refl
plain_operator ShiftRight = refl
plain_operator Equal = refl
plain_operator NotEqual = refl
plain_operator Less = refl
plain_operator Greater = refl
plain_operator AtMost = refl
plain_operator AtLeast = refl

plain_expr_text : (e : PlainExpr) → expr_fits e ≡ true → is_plain (expr_text e) ≡ true
plain_expr_text (Named n) h = plain_name n h
plain_expr_text (Number b) h =
    joined (decimal_text b.width ++ codes "'h") (number_text 16 b.value) (joined (decimal_text b.width) (codes "'h") (plain_decimal b.width) refl) (plain_hexadecimal b.value)
plain_expr_text (Part n high low) h =
    let e : expr_text (Part n high low) ≡ n ++ (codes "[" ++ (decimal_text high ++ (codes ":" ++ (decimal_text low ++ codes "]")))) = simp append_assoc in
    ap is_plain e
    ∙ joined n (codes "[" ++ (decimal_text high ++ (codes ":" ++ (decimal_text low ++ codes "]")))) (plain_name n h)
    (joined (decimal_text high) (codes ":" ++ (decimal_text low ++ codes "]")) (plain_decimal high) (joined (decimal_text low) (codes "]") (plain_decimal low) refl))
plain_expr_text (Word n i) h =
    let fit = and_parts (is_name n) (expr_fits i) h in
    let e : expr_text (Word n i) ≡ n ++ (codes "[" ++ (expr_text i ++ codes "]")) = simp append_assoc in
    ap is_plain e ∙ joined n (codes "[" ++ (expr_text i ++ codes "]")) (plain_name n fit.0) (joined (expr_text i) (codes "]") (plain_expr_text i fit.1) refl)
plain_expr_text (Applied op a b) h =
    let fit = and_parts (expr_fits a) (expr_fits b) h in
    let e : expr_text (Applied op a b) ≡ codes "(" ++ (expr_text a ++ (codes " " ++ (op_text op ++ (codes " " ++ (expr_text b ++ codes ")"))))) = simp append_assoc in
    ap is_plain e
    ∙ joined (expr_text a) (codes " " ++ (op_text op ++ (codes " " ++ (expr_text b ++ codes ")")))) (plain_expr_text a fit.0)
    (joined (op_text op) (codes " " ++ (expr_text b ++ codes ")")) (plain_operator op) (joined (expr_text b) (codes ")") (plain_expr_text b fit.1) refl))
plain_expr_text (Inverted a) h =
    let e : expr_text (Inverted a) ≡ codes "(~" ++ (expr_text a ++ codes ")") = simp append_assoc in
    ap is_plain e ∙ joined (expr_text a) (codes ")") (plain_expr_text a h) refl
plain_expr_text (Chosen c a b) h =
    let fits = and_parts (expr_fits c && expr_fits a) (expr_fits b) h in
    let fit = and_parts (expr_fits c) (expr_fits a) fits.0 in
    let e : expr_text (Chosen c a b) ≡ codes "(" ++ (expr_text c ++ (codes " ? " ++ (expr_text a ++ (codes " : " ++ (expr_text b ++ codes ")"))))) = simp append_assoc in
    ap is_plain e
    ∙ joined (expr_text c) (codes " ? " ++ (expr_text a ++ (codes " : " ++ (expr_text b ++ codes ")")))) (plain_expr_text c fit.0)
    (joined (expr_text a) (codes " : " ++ (expr_text b ++ codes ")")) (plain_expr_text a fit.1) (joined (expr_text b) (codes ")") (plain_expr_text b fits.1) refl))
plain_expr_text (Joined a b) h =
    let fit = and_parts (expr_fits a) (expr_fits b) h in
    let e : expr_text (Joined a b) ≡ codes "{" ++ (expr_text a ++ (codes ", " ++ (expr_text b ++ codes "}"))) = simp append_assoc in
    ap is_plain e
    ∙ joined (expr_text a) (codes ", " ++ (expr_text b ++ codes "}")) (plain_expr_text a fit.0) (joined (expr_text b) (codes "}") (plain_expr_text b fit.1) refl)

plain_bounds : (w : ℕ) → is_plain (bounds_text w) ≡ true
plain_bounds w =
    let e : bounds_text w ≡ codes "[" ++ (decimal_text (w - 1) ++ codes ":0] ") = simp append_assoc in
    ap is_plain e ∙ joined (decimal_text (w - 1)) (codes ":0] ") (plain_decimal (w - 1)) refl

plain_sizes : (ns : List ℕ) → is_plain (sizes_text ns) ≡ true
plain_sizes [] = refl
plain_sizes (n ∷ ns) =
    let e : sizes_text (n ∷ ns) ≡ codes " " ++ (decimal_text n ++ sizes_text ns) = simp append_assoc in
    ap is_plain e ∙ joined (decimal_text n) (sizes_text ns) (plain_decimal n) (plain_sizes ns)

plain_conn : (c : PlainConn) → conn_fits c ≡ true → is_plain (conn_text c) ≡ true
plain_conn c h =
    let fit = and_parts (is_name c.port) (is_name c.net) h in
    let e : conn_text c ≡ codes "." ++ (c.port ++ (codes "(" ++ (c.net ++ codes ")"))) = simp append_assoc in
    ap is_plain e ∙ joined c.port (codes "(" ++ (c.net ++ codes ")")) (plain_name c.port fit.0) (joined c.net (codes ")") (plain_name c.net fit.1) refl)

plain_more_conns : (cs : List PlainConn) → list_all conn_fits cs ≡ true → is_plain (more_conns_text cs) ≡ true
plain_more_conns [] h = refl
plain_more_conns (c ∷ cs) h =
    let fit = and_parts (conn_fits c) (list_all conn_fits cs) h in
    let e : more_conns_text (c ∷ cs) ≡ codes ", " ++ (conn_text c ++ more_conns_text cs) = simp append_assoc in
    ap is_plain e ∙ joined (conn_text c) (more_conns_text cs) (plain_conn c fit.0) (plain_more_conns cs fit.1)

plain_conns : (cs : List PlainConn) → list_all conn_fits cs ≡ true → is_plain (conns_text cs) ≡ true
plain_conns [] h = refl
plain_conns (c ∷ cs) h =
    let fit = and_parts (conn_fits c) (list_all conn_fits cs) h in
    joined (conn_text c) (more_conns_text cs) (plain_conn c fit.0) (plain_more_conns cs fit.1)

plain_decl : (d : PlainDecl) → decl_fits d ≡ true → is_plain (decl_text d) ≡ true
plain_decl (WireOf n w) h =
    let fit = and_parts (is_name n) (nat_lt 0 w) h in
    let e : decl_text (WireOf n w) ≡ codes "  wire " ++ (bounds_text w ++ (n ++ codes ";")) = simp append_assoc in
    ap is_plain e ∙ joined (bounds_text w) (n ++ codes ";") (plain_bounds w) (joined n (codes ";") (plain_name n fit.0) refl)
plain_decl (RegisterOf n w) h =
    let fit = and_parts (is_name n) (nat_lt 0 w) h in
    let e : decl_text (RegisterOf n w) ≡ codes "  reg " ++ (bounds_text w ++ (n ++ codes ";")) = simp append_assoc in
    ap is_plain e ∙ joined (bounds_text w) (n ++ codes ";") (plain_bounds w) (joined n (codes ";") (plain_name n fit.0) refl)
plain_decl (ArrayOf n w k) h =
    let fits = and_parts (is_name n && nat_lt 0 w) (nat_lt 0 k) h in
    let fit = and_parts (is_name n) (nat_lt 0 w) fits.0 in
    let e : decl_text (ArrayOf n w k) ≡ codes "  reg " ++ (bounds_text w ++ (n ++ (codes " [0:" ++ (decimal_text (k - 1) ++ codes "];")))) = simp append_assoc in
    ap is_plain e
    ∙ joined (bounds_text w) (n ++ (codes " [0:" ++ (decimal_text (k - 1) ++ codes "];"))) (plain_bounds w)
    (joined n (codes " [0:" ++ (decimal_text (k - 1) ++ codes "];")) (plain_name n fit.0) (joined (decimal_text (k - 1)) (codes "];") (plain_decimal (k - 1)) refl))

plain_side : (output : Bool) (x : List ℕ) → is_plain x ≡ true → is_plain (side_text output ++ x) ≡ true
plain_side true x h = h
plain_side false x h = h

plain_comma : (more : Bool) → is_plain (comma_text more) ≡ true
plain_comma true = refl
plain_comma false = refl

pub plain_line : (l : Line) → line_fits l ≡ true → is_plain (line_text l) ≡ true
plain_line (ExternalLine x) h =
    let f3 = and_parts (is_word x.name && is_name x.instance && nat_lt 0 (length x.sizes)) (nat_le (length x.sizes) 4) h in
    let f2 = and_parts (is_word x.name && is_name x.instance) (nat_lt 0 (length x.sizes)) f3.0 in
    let f1 = and_parts (is_word x.name) (is_name x.instance) f2.0 in
    let e : line_text (ExternalLine x) ≡ codes "// external " ++ (x.name ++ (codes " " ++ (x.instance ++ (codes " " ++ (decimal_text x.width ++ sizes_text x.sizes))))) = simp append_assoc in
    ap is_plain e
    ∙ joined x.name (codes " " ++ (x.instance ++ (codes " " ++ (decimal_text x.width ++ sizes_text x.sizes)))) (plain_word x.name f1.0)
    (joined x.instance (codes " " ++ (decimal_text x.width ++ sizes_text x.sizes)) (plain_name x.instance f1.1) (joined (decimal_text x.width) (sizes_text x.sizes) (plain_decimal x.width) (plain_sizes x.sizes)))
plain_line (ModuleLine n) h =
    let e : line_text (ModuleLine n) ≡ codes "module " ++ (n ++ codes "(") = simp append_assoc in
    ap is_plain e ∙ joined n (codes "(") (plain_name n h) refl
plain_line (PortLine p more) h =
    let fit = and_parts (is_name p.name) (nat_lt 0 p.width) h in
    let e : line_text (PortLine p more) ≡ side_text p.output ++ (bounds_text p.width ++ (p.name ++ comma_text more)) = simp append_assoc in
    ap is_plain e
    ∙ plain_side p.output (bounds_text p.width ++ (p.name ++ comma_text more)) (joined (bounds_text p.width) (p.name ++ comma_text more) (plain_bounds p.width) (joined p.name (comma_text more) (plain_name p.name fit.0) (plain_comma more)))
plain_line PortsEnd h = refl
plain_line (DeclLine d) h = plain_decl d h
plain_line (AssignLine a) h =
    let fit = and_parts (is_name a.name) (expr_fits a.value) h in
    let e : line_text (AssignLine a) ≡ codes "  assign " ++ (a.name ++ (codes " = " ++ (expr_text a.value ++ codes ";"))) = simp append_assoc in
    ap is_plain e ∙ joined a.name (codes " = " ++ (expr_text a.value ++ codes ";")) (plain_name a.name fit.0) (joined (expr_text a.value) (codes ";") (plain_expr_text a.value fit.1) refl)
plain_line (InstanceLine i) h =
    let f3 = and_parts (is_name i.kind && is_name i.name && nat_lt 0 (length i.conns)) (list_all conn_fits i.conns) h in
    let f2 = and_parts (is_name i.kind && is_name i.name) (nat_lt 0 (length i.conns)) f3.0 in
    let f1 = and_parts (is_name i.kind) (is_name i.name) f2.0 in
    let e : line_text (InstanceLine i) ≡ codes "  " ++ (i.kind ++ (codes " " ++ (i.name ++ (codes "(" ++ (conns_text i.conns ++ codes ");"))))) = simp append_assoc in
    ap is_plain e
    ∙ joined i.kind (codes " " ++ (i.name ++ (codes "(" ++ (conns_text i.conns ++ codes ");")))) (plain_name i.kind f1.0)
    (joined i.name (codes "(" ++ (conns_text i.conns ++ codes ");")) (plain_name i.name f1.1) (joined (conns_text i.conns) (codes ");") (plain_conns i.conns f3.1) refl))
plain_line AlwaysLine h = refl
plain_line ResetLine h = refl
plain_line (SetLine a) h =
    let fit = and_parts (is_name a.name) (expr_fits a.value) h in
    let e : line_text (SetLine a) ≡ codes "      " ++ (a.name ++ (codes " <= " ++ (expr_text a.value ++ codes ";"))) = simp append_assoc in
    ap is_plain e ∙ joined a.name (codes " <= " ++ (expr_text a.value ++ codes ";")) (plain_name a.name fit.0) (joined (expr_text a.value) (codes ";") (plain_expr_text a.value fit.1) refl)
plain_line ElseLine h = refl
plain_line (StoreLine s) h =
    let f3 = and_parts (is_name s.array && expr_fits s.guard && expr_fits s.index) (expr_fits s.value) h in
    let f2 = and_parts (is_name s.array && expr_fits s.guard) (expr_fits s.index) f3.0 in
    let f1 = and_parts (is_name s.array) (expr_fits s.guard) f2.0 in
    let e : line_text (StoreLine s) ≡ codes "      if (" ++ (expr_text s.guard ++ (codes ") " ++ (s.array ++ (codes "[" ++ (expr_text s.index ++ (codes "] <= " ++ (expr_text s.value ++ codes ";"))))))) = simp append_assoc in
    ap is_plain e
    ∙ joined (expr_text s.guard) (codes ") " ++ (s.array ++ (codes "[" ++ (expr_text s.index ++ (codes "] <= " ++ (expr_text s.value ++ codes ";")))))) (plain_expr_text s.guard f1.1)
    (joined s.array (codes "[" ++ (expr_text s.index ++ (codes "] <= " ++ (expr_text s.value ++ codes ";")))) (plain_name s.array f1.0)
    (joined (expr_text s.index) (codes "] <= " ++ (expr_text s.value ++ codes ";")) (plain_expr_text s.index f2.1) (joined (expr_text s.value) (codes ";") (plain_expr_text s.value f3.1) refl)))
plain_line BranchesEnd h = refl
plain_line AlwaysEnd h = refl
plain_line ModuleEnd h = refl
