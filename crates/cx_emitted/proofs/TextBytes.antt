-- How long the parts of a text are at most: of names their length, of numbers as many bytes as 128 bits need.
use Rattle.std.proofs.Common.{◌≡◌, ℕ, ◌+◌, ◌-◌, ◌^◌, ◌<◌, ◌≤◌, ◌==◌, Bool, true, false, List, [], ◌∷◌, ◌++◌, map, length, if◌then◌else◌, arith, length-append}
use Rattle.std.specs.Prelude.{codes}
use Rattle.std.proofs.Math.Pow.{pow_mono}
use Rattle.std.specs.Int.Digits.{digits_of}
use Rattle.std.proofs.lemmas.List.{length-map}
use Rattle.std.proofs.lemmas.Int.Digits.{length-digits_of-le}
use Rattle.cx_text.specs.Members.{Each}
use Rattle.cx_vtree.specs.Plain.{PlainExpr, Named, Number, Part, Word, Applied, Inverted, Chosen, Joined, PlainDecl, WireOf, RegisterOf, ArrayOf, PlainAssign, PlainConn, PlainItem, SetTo, StoreTo}
use Rattle.cx_vtree.specs.Lines.{glyph, number_text, decimal_text, op_text, expr_text, Line, ExternalLine, ModuleLine, PortLine, PortsEnd, DeclLine, AssignLine, InstanceLine, AlwaysLine, ResetLine, SetLine, ElseLine, StoreLine, BranchesEnd, AlwaysEnd, ModuleEnd, sizes_text, bounds_text, conn_text, more_conns_text, conns_text, decl_text, side_text, comma_text, line_text, lines_text}

-- a text of at most so many bytes
pub record Fits (n : ℕ) (text : List ℕ) : Type 0 where
  pub few : length text ≤ n

pub exactly : (text : List ℕ) → Fits (length text) text
exactly text = record { few = omega arith }

pub less : (m n : ℕ) (text : List ℕ) → m ≤ n → Fits m text → Fits n text
less m n text h k = let few : length text ≤ m = k.few in record { few = omega arith }

pub both : (m n : ℕ) (xs ys : List ℕ) → Fits m xs → Fits n ys → Fits (m + n) (xs ++ ys)
both m n xs ys h k =
    let first : length xs ≤ m = h.few in
    let second : length ys ≤ n = k.few in
    record { few = omega (arith, length-append xs ys) }

-- NUMBERS
pub number_fits : (base n k : ℕ) → 2 ≤ base → 1 ≤ k → n < base ^ k → Fits k (number_text base n)
number_fits base n k some one small = by (n == 0)
  where
    by : (b : Bool) → Fits k (if b then codes "0" else map glyph (digits_of base n))
    by true = record { few = omega arith }
    by false =
        let long : length (map glyph (digits_of base n)) ≡ length (digits_of base n) = length-map (digits_of base n) glyph in
        let few : length (digits_of base n) ≤ k = length-digits_of-le base k n some small in
        record { few = omega arith }

-- NUMBERS of an expression have at most 128 bits, and parts are of such nets
abbrev pub AreNarrow : PlainExpr → Type 0
AreNarrow (Named n) = Unit {0}
AreNarrow (Number b) = (b.width ≤ 128) × (b.value < 2 ^ b.width)
AreNarrow (Part n high low) = (high < 1000) × (low < 1000)
AreNarrow (Word n i) = AreNarrow i
AreNarrow (Applied op a b) = AreNarrow a × AreNarrow b
AreNarrow (Inverted a) = AreNarrow a
AreNarrow (Chosen c a b) = AreNarrow c × (AreNarrow a × AreNarrow b)
AreNarrow (Joined a b) = AreNarrow a × AreNarrow b

abbrev pub expr_bytes : PlainExpr → ℕ
expr_bytes (Named n) = length n
expr_bytes (Number b) = 37
expr_bytes (Part n high low) = length n + 9
expr_bytes (Word n i) = length n + (expr_bytes i + 2)
expr_bytes (Applied op a b) = expr_bytes a + (expr_bytes b + (length (op_text op) + 4))
expr_bytes (Inverted a) = expr_bytes a + 3
expr_bytes (Chosen c a b) = expr_bytes c + (expr_bytes a + (expr_bytes b + 8))
expr_bytes (Joined a b) = expr_bytes a + (expr_bytes b + 4)

pub expr_fits : (e : PlainExpr) → AreNarrow e → Fits (expr_bytes e) (expr_text e)
expr_fits (Named n) narrow = exactly n
expr_fits (Number b) narrow =
    let width : b.width ≤ 128 = narrow.0 in
    let more : 2 ^ b.width ≤ 2 ^ 128 = pow_mono width in
    let value : b.value < 2 ^ b.width = narrow.1 in
    let small : b.value < 16 ^ 32 = omega (arith, more, value) in
    let bits : b.width < 10 ^ 3 = omega (arith, width) in
    less ((3 + 2) + 32) (37) (expr_text (Number b)) (omega arith)
    (both ((3 + 2)) (32) _ (number_text 16 b.value) (both (3) (2) _ (codes "'h") (number_fits 10 b.width 3 (omega arith) (omega arith) bits) (exactly (codes "'h"))) (number_fits 16 b.value 32 (omega arith) (omega arith) small))
expr_fits (Part n high low) narrow =
    let up : high < 10 ^ 3 = omega (arith, narrow.0) in
    let down : low < 10 ^ 3 = omega (arith, narrow.1) in
    less ((((((length n) + 1) + 3) + 1) + 3) + 1) (expr_bytes (Part n high low)) (expr_text (Part n high low)) (omega arith)
    (both ((((((length n) + 1) + 3) + 1) + 3)) (1) _ (codes "]") (both (((((length n) + 1) + 3) + 1)) (3) _ (decimal_text low) (both ((((length n) + 1) + 3)) (1) _ (codes ":") (both (((length n) + 1)) (3) _ (decimal_text high) (both ((length n)) (1) _ (codes "[") (exactly n) (exactly (codes "["))) (number_fits 10 high 3 (omega arith) (omega arith) up)) (exactly (codes ":"))) (number_fits 10 low 3 (omega arith) (omega arith) down)) (exactly (codes "]")))
expr_fits (Word n i) narrow =
    let own = expr_fits i narrow in
    less ((((length n) + 1) + (expr_bytes i)) + 1) (expr_bytes (Word n i)) (expr_text (Word n i)) (omega arith)
    (both ((((length n) + 1) + (expr_bytes i))) (1) _ (codes "]") (both (((length n) + 1)) ((expr_bytes i)) _ (expr_text i) (both ((length n)) (1) _ (codes "[") (exactly n) (exactly (codes "["))) own) (exactly (codes "]")))
expr_fits (Applied op a b) narrow =
    let first = expr_fits a narrow.0 in
    let second = expr_fits b narrow.1 in
    less ((((((1 + (expr_bytes a)) + 1) + (length (op_text op))) + 1) + (expr_bytes b)) + 1) (expr_bytes (Applied op a b)) (expr_text (Applied op a b)) (omega arith)
    (both ((((((1 + (expr_bytes a)) + 1) + (length (op_text op))) + 1) + (expr_bytes b))) (1) _ (codes ")") (both (((((1 + (expr_bytes a)) + 1) + (length (op_text op))) + 1)) ((expr_bytes b)) _ (expr_text b) (both ((((1 + (expr_bytes a)) + 1) + (length (op_text op)))) (1) _ (codes " ") (both (((1 + (expr_bytes a)) + 1)) ((length (op_text op))) _ (op_text op) (both ((1 + (expr_bytes a))) (1) _ (codes " ") (both (1) ((expr_bytes a)) _ (expr_text a) (exactly (codes "(")) first) (exactly (codes " "))) (exactly (op_text op))) (exactly (codes " "))) second) (exactly (codes ")")))
expr_fits (Inverted a) narrow =
    let own = expr_fits a narrow in
    less ((2 + (expr_bytes a)) + 1) (expr_bytes (Inverted a)) (expr_text (Inverted a)) (omega arith)
    (both ((2 + (expr_bytes a))) (1) _ (codes ")") (both (2) ((expr_bytes a)) _ (expr_text a) (exactly (codes "(~")) own) (exactly (codes ")")))
expr_fits (Chosen c a b) narrow =
    let test = expr_fits c narrow.0 in
    let first = expr_fits a narrow.1.0 in
    let second = expr_fits b narrow.1.1 in
    less ((((((1 + (expr_bytes c)) + 3) + (expr_bytes a)) + 3) + (expr_bytes b)) + 1) (expr_bytes (Chosen c a b)) (expr_text (Chosen c a b)) (omega arith)
    (both ((((((1 + (expr_bytes c)) + 3) + (expr_bytes a)) + 3) + (expr_bytes b))) (1) _ (codes ")") (both (((((1 + (expr_bytes c)) + 3) + (expr_bytes a)) + 3)) ((expr_bytes b)) _ (expr_text b) (both ((((1 + (expr_bytes c)) + 3) + (expr_bytes a))) (3) _ (codes " : ") (both (((1 + (expr_bytes c)) + 3)) ((expr_bytes a)) _ (expr_text a) (both ((1 + (expr_bytes c))) (3) _ (codes " ? ") (both (1) ((expr_bytes c)) _ (expr_text c) (exactly (codes "(")) test) (exactly (codes " ? "))) first) (exactly (codes " : "))) second) (exactly (codes ")")))
expr_fits (Joined a b) narrow =
    let first = expr_fits a narrow.0 in
    let second = expr_fits b narrow.1 in
    less ((((1 + (expr_bytes a)) + 2) + (expr_bytes b)) + 1) (expr_bytes (Joined a b)) (expr_text (Joined a b)) (omega arith)
    (both ((((1 + (expr_bytes a)) + 2) + (expr_bytes b))) (1) _ (codes "}") (both (((1 + (expr_bytes a)) + 2)) ((expr_bytes b)) _ (expr_text b) (both ((1 + (expr_bytes a))) (2) _ (codes ", ") (both (1) ((expr_bytes a)) _ (expr_text a) (exactly (codes "{")) first) (exactly (codes ", "))) second) (exactly (codes "}")))

-- LINES, without the line feed
abbrev pub conn_bytes : PlainConn → ℕ
conn_bytes c = length c.port + (length c.net + 3)

-- with the comma and the space before each
abbrev pub conns_bytes : List PlainConn → ℕ
conns_bytes [] = 0
conns_bytes (c ∷ cs) = conn_bytes c + 2 + conns_bytes cs

abbrev pub sizes_bytes : List ℕ → ℕ
sizes_bytes [] = 0
sizes_bytes (n ∷ ns) = 21 + sizes_bytes ns

-- numbers of at most 64 bits
abbrev pub AreShort : List ℕ → Type 0
AreShort [] = Unit {0}
AreShort (n ∷ ns) = (n < 2 ^ 64) × AreShort ns

abbrev pub decl_bytes : PlainDecl → ℕ
decl_bytes (WireOf n w) = length n + 16
decl_bytes (RegisterOf n w) = length n + 15
decl_bytes (ArrayOf n w k) = length n + 41

abbrev pub DeclNarrow : PlainDecl → Type 0
DeclNarrow (WireOf n w) = w ≤ 128
DeclNarrow (RegisterOf n w) = w ≤ 128
DeclNarrow (ArrayOf n w k) = (w ≤ 128) × (k < 2 ^ 64)

abbrev pub assign_bytes : PlainAssign → ℕ
assign_bytes a = length a.name + (expr_bytes a.value + 13)

abbrev pub item_bytes : PlainItem → ℕ
item_bytes (SetTo a) = length a.name + (expr_bytes a.value + 11)
item_bytes (StoreTo s) = expr_bytes s.guard + (length s.array + (expr_bytes s.index + (expr_bytes s.value + 19)))

abbrev pub ItemNarrow : PlainItem → Type 0
ItemNarrow (SetTo a) = AreNarrow a.value
ItemNarrow (StoreTo s) = AreNarrow s.guard × (AreNarrow s.index × AreNarrow s.value)

conn_fits : (c : PlainConn) → Fits (conn_bytes c) (conn_text c)
conn_fits c =
    less ((((1 + (length c.port)) + 1) + (length c.net)) + 1) (conn_bytes c) (conn_text c) (omega arith)
    (both ((((1 + (length c.port)) + 1) + (length c.net))) (1) _ (codes ")") (both (((1 + (length c.port)) + 1)) ((length c.net)) _ (c.net) (both ((1 + (length c.port))) (1) _ (codes "(") (both (1) ((length c.port)) _ (c.port) (exactly (codes ".")) (exactly c.port)) (exactly (codes "("))) (exactly c.net)) (exactly (codes ")")))

more_conns_fit : (cs : List PlainConn) → Fits (conns_bytes cs) (more_conns_text cs)
more_conns_fit [] = exactly []
more_conns_fit (c ∷ cs) =
    let rest = more_conns_fit cs in
    less ((2 + (conn_bytes c)) + (conns_bytes cs)) (conns_bytes (c ∷ cs)) (more_conns_text (c ∷ cs)) (omega arith)
    (both ((2 + (conn_bytes c))) ((conns_bytes cs)) _ (more_conns_text cs) (both (2) ((conn_bytes c)) _ (conn_text c) (exactly (codes ", ")) (conn_fits c)) rest)

conns_fit : (cs : List PlainConn) → Fits (conns_bytes cs) (conns_text cs)
conns_fit [] = exactly []
conns_fit (c ∷ cs) =
    less (conn_bytes c + conns_bytes cs) (conns_bytes (c ∷ cs)) (conns_text (c ∷ cs)) (omega arith) (both (conn_bytes c) (conns_bytes cs) (conn_text c) _ (conn_fits c) (more_conns_fit cs))

short_fits : (n : ℕ) → n < 2 ^ 64 → Fits 20 (decimal_text n)
short_fits n few = let small : n < 10 ^ 20 = omega (arith, few) in number_fits 10 n 20 (omega arith) (omega arith) small

sizes_fit : (ns : List ℕ) → AreShort ns → Fits (sizes_bytes ns) (sizes_text ns)
sizes_fit [] short = exactly []
sizes_fit (n ∷ ns) short =
    both 21 (sizes_bytes ns) (codes " " ++ decimal_text n) _ (both 1 20 (codes " ") _ (exactly (codes " ")) (short_fits n short.0)) (sizes_fit ns short.1)

width_fits : (w : ℕ) → w ≤ 128 → Fits 3 (decimal_text w)
width_fits w few = let small : w < 10 ^ 3 = omega (arith, few) in number_fits 10 w 3 (omega arith) (omega arith) small

bounds_fit : (w : ℕ) → w ≤ 128 → Fits 8 (bounds_text w)
bounds_fit w few =
    let below : w - 1 ≤ 128 = omega (arith, few) in
    less ((1 + 3) + 4) (8) (bounds_text w) (omega arith)
    (both ((1 + 3)) (4) _ (codes ":0] ") (both (1) (3) _ (decimal_text (w - 1)) (exactly (codes "[")) (width_fits (w - 1) below)) (exactly (codes ":0] ")))

decl_fits : (d : PlainDecl) → DeclNarrow d → Fits (decl_bytes d) (decl_text d)
decl_fits (WireOf n w) few =
    less (((7 + 8) + (length n)) + 1) (decl_bytes (WireOf n w)) (decl_text (WireOf n w)) (omega arith)
    (both (((7 + 8) + (length n))) (1) _ (codes ";") (both ((7 + 8)) ((length n)) _ (n) (both (7) (8) _ (bounds_text w) (exactly (codes "  wire ")) (bounds_fit w few)) (exactly n)) (exactly (codes ";")))
decl_fits (RegisterOf n w) few =
    less (((6 + 8) + (length n)) + 1) (decl_bytes (RegisterOf n w)) (decl_text (RegisterOf n w)) (omega arith)
    (both (((6 + 8) + (length n))) (1) _ (codes ";") (both ((6 + 8)) ((length n)) _ (n) (both (6) (8) _ (bounds_text w) (exactly (codes "  reg ")) (bounds_fit w few)) (exactly n)) (exactly (codes ";")))
decl_fits (ArrayOf n w k) few =
    let below : k - 1 < 2 ^ 64 = omega (arith, few.1) in
    less (((((6 + 8) + (length n)) + 4) + 20) + 2) (decl_bytes (ArrayOf n w k)) (decl_text (ArrayOf n w k)) (omega arith)
    (both (((((6 + 8) + (length n)) + 4) + 20)) (2) _ (codes "];") (both ((((6 + 8) + (length n)) + 4)) (20) _ (decimal_text (k - 1)) (both (((6 + 8) + (length n))) (4) _ (codes " [0:") (both ((6 + 8)) ((length n)) _ (n) (both (6) (8) _ (bounds_text w) (exactly (codes "  reg ")) (bounds_fit w few.0)) (exactly n)) (exactly (codes " [0:"))) (short_fits (k - 1) below)) (exactly (codes "];")))

side_fits : (output : Bool) → Fits 14 (side_text output)
side_fits true = record { few = omega arith }
side_fits false = record { few = omega arith }

comma_fits : (more : Bool) → Fits 1 (comma_text more)
comma_fits true = record { few = omega arith }
comma_fits false = record { few = omega arith }

-- LINES, each with its line feed
abbrev pub line_bytes : Line → ℕ
line_bytes (ExternalLine e) = length e.name + (length e.instance + (sizes_bytes e.sizes + 18))
line_bytes (ModuleLine n) = length n + 9
line_bytes (PortLine p more) = length p.name + 24
line_bytes PortsEnd = 3
line_bytes (DeclLine d) = decl_bytes d + 1
line_bytes (AssignLine a) = assign_bytes a + 1
line_bytes (InstanceLine i) = length i.kind + (length i.name + (conns_bytes i.conns + 7))
line_bytes AlwaysLine = 31
line_bytes ResetLine = 21
line_bytes (SetLine a) = item_bytes (SetTo a) + 1
line_bytes ElseLine = 19
line_bytes (StoreLine s) = item_bytes (StoreTo s) + 1
line_bytes BranchesEnd = 8
line_bytes AlwaysEnd = 6
line_bytes ModuleEnd = 10

abbrev pub LineNarrow : Line → Type 0
LineNarrow (ExternalLine e) = (e.width ≤ 128) × AreShort e.sizes
LineNarrow (ModuleLine n) = Unit {0}
LineNarrow (PortLine p more) = p.width ≤ 128
LineNarrow PortsEnd = Unit {0}
LineNarrow (DeclLine d) = DeclNarrow d
LineNarrow (AssignLine a) = AreNarrow a.value
LineNarrow (InstanceLine i) = Unit {0}
LineNarrow AlwaysLine = Unit {0}
LineNarrow ResetLine = Unit {0}
LineNarrow (SetLine a) = AreNarrow a.value
LineNarrow ElseLine = Unit {0}
LineNarrow (StoreLine s) = ItemNarrow (StoreTo s)
LineNarrow BranchesEnd = Unit {0}
LineNarrow AlwaysEnd = Unit {0}
LineNarrow ModuleEnd = Unit {0}

line_fits : (l : Line) → LineNarrow l → Fits (line_bytes l) (line_text l ++ codes "\n")
line_fits (ExternalLine e) narrow =
    less (((((12 + ((length e.name) + 1)) + ((length e.instance) + 1)) + 3) + (sizes_bytes e.sizes)) + 1) (line_bytes (ExternalLine e)) (line_text (ExternalLine e) ++ codes "\n") (omega arith)
    (both (((((12 + ((length e.name) + 1)) + ((length e.instance) + 1)) + 3) + (sizes_bytes e.sizes))) (1) _ (codes "\n") (both ((((12 + ((length e.name) + 1)) + ((length e.instance) + 1)) + 3)) ((sizes_bytes e.sizes)) _ (sizes_text e.sizes) (both (((12 + ((length e.name) + 1)) + ((length e.instance) + 1))) (3) _ (decimal_text e.width) (both ((12 + ((length e.name) + 1))) (((length e.instance) + 1)) _ (e.instance ++ codes " ") (both (12) (((length e.name) + 1)) _ (e.name ++ codes " ") (exactly (codes "// external ")) (both ((length e.name)) (1) _ (codes " ") (exactly e.name) (exactly (codes " ")))) (both ((length e.instance)) (1) _ (codes " ") (exactly e.instance) (exactly (codes " ")))) (width_fits e.width narrow.0)) (sizes_fit e.sizes narrow.1)) (exactly (codes "\n")))
line_fits (ModuleLine n) narrow =
    less (((7 + (length n)) + 1) + 1) (line_bytes (ModuleLine n)) (line_text (ModuleLine n) ++ codes "\n") (omega arith)
    (both (((7 + (length n)) + 1)) (1) _ (codes "\n") (both ((7 + (length n))) (1) _ (codes "(") (both (7) ((length n)) _ (n) (exactly (codes "module ")) (exactly n)) (exactly (codes "("))) (exactly (codes "\n")))
line_fits (PortLine p more) narrow =
    less ((((14 + 8) + (length p.name)) + 1) + 1) (line_bytes (PortLine p more)) (line_text (PortLine p more) ++ codes "\n") (omega arith)
    (both ((((14 + 8) + (length p.name)) + 1)) (1) _ (codes "\n") (both (((14 + 8) + (length p.name))) (1) _ (comma_text more) (both ((14 + 8)) ((length p.name)) _ (p.name) (both (14) (8) _ (bounds_text p.width) (side_fits p.output) (bounds_fit p.width narrow)) (exactly p.name)) (comma_fits more)) (exactly (codes "\n")))
line_fits PortsEnd narrow = record { few = omega arith }
line_fits (DeclLine d) narrow = both (decl_bytes d) 1 (decl_text d) (codes "\n") (decl_fits d narrow) (exactly (codes "\n"))
line_fits (AssignLine a) narrow =
    let value = expr_fits a.value narrow in
    less (((((9 + (length a.name)) + 3) + (expr_bytes a.value)) + 1) + 1) (line_bytes (AssignLine a)) (line_text (AssignLine a) ++ codes "\n") (omega arith)
    (both (((((9 + (length a.name)) + 3) + (expr_bytes a.value)) + 1)) (1) _ (codes "\n") (both ((((9 + (length a.name)) + 3) + (expr_bytes a.value))) (1) _ (codes ";") (both (((9 + (length a.name)) + 3)) ((expr_bytes a.value)) _ (expr_text a.value) (both ((9 + (length a.name))) (3) _ (codes " = ") (both (9) ((length a.name)) _ (a.name) (exactly (codes "  assign ")) (exactly a.name)) (exactly (codes " = "))) value) (exactly (codes ";"))) (exactly (codes "\n")))
line_fits (InstanceLine i) narrow =
    less (((((((2 + (length i.kind)) + 1) + (length i.name)) + 1) + (conns_bytes i.conns)) + 2) + 1) (line_bytes (InstanceLine i)) (line_text (InstanceLine i) ++ codes "\n") (omega arith)
    (both (((((((2 + (length i.kind)) + 1) + (length i.name)) + 1) + (conns_bytes i.conns)) + 2)) (1) _ (codes "\n") (both ((((((2 + (length i.kind)) + 1) + (length i.name)) + 1) + (conns_bytes i.conns))) (2) _ (codes ");") (both (((((2 + (length i.kind)) + 1) + (length i.name)) + 1)) ((conns_bytes i.conns)) _ (conns_text i.conns) (both ((((2 + (length i.kind)) + 1) + (length i.name))) (1) _ (codes "(") (both (((2 + (length i.kind)) + 1)) ((length i.name)) _ (i.name) (both ((2 + (length i.kind))) (1) _ (codes " ") (both (2) ((length i.kind)) _ (i.kind) (exactly (codes "  ")) (exactly i.kind)) (exactly (codes " "))) (exactly i.name)) (exactly (codes "("))) (conns_fit i.conns)) (exactly (codes ");"))) (exactly (codes "\n")))
line_fits AlwaysLine narrow = record { few = omega arith }
line_fits ResetLine narrow = record { few = omega arith }
line_fits (SetLine a) narrow =
    let value = expr_fits a.value narrow in
    less (((((6 + (length a.name)) + 4) + (expr_bytes a.value)) + 1) + 1) (line_bytes (SetLine a)) (line_text (SetLine a) ++ codes "\n") (omega arith)
    (both (((((6 + (length a.name)) + 4) + (expr_bytes a.value)) + 1)) (1) _ (codes "\n") (both ((((6 + (length a.name)) + 4) + (expr_bytes a.value))) (1) _ (codes ";") (both (((6 + (length a.name)) + 4)) ((expr_bytes a.value)) _ (expr_text a.value) (both ((6 + (length a.name))) (4) _ (codes " <= ") (both (6) ((length a.name)) _ (a.name) (exactly (codes "      ")) (exactly a.name)) (exactly (codes " <= "))) value) (exactly (codes ";"))) (exactly (codes "\n")))
line_fits ElseLine narrow = record { few = omega arith }
line_fits (StoreLine s) narrow =
    let guard = expr_fits s.guard narrow.0 in
    let index = expr_fits s.index narrow.1.0 in
    let value = expr_fits s.value narrow.1.1 in
    less (((((((((10 + (expr_bytes s.guard)) + 2) + (length s.array)) + 1) + (expr_bytes s.index)) + 5) + (expr_bytes s.value)) + 1) + 1) (line_bytes (StoreLine s)) (line_text (StoreLine s) ++ codes "\n") (omega arith)
    (both (((((((((10 + (expr_bytes s.guard)) + 2) + (length s.array)) + 1) + (expr_bytes s.index)) + 5) + (expr_bytes s.value)) + 1)) (1) _ (codes "\n") (both ((((((((10 + (expr_bytes s.guard)) + 2) + (length s.array)) + 1) + (expr_bytes s.index)) + 5) + (expr_bytes s.value))) (1) _ (codes ";") (both (((((((10 + (expr_bytes s.guard)) + 2) + (length s.array)) + 1) + (expr_bytes s.index)) + 5)) ((expr_bytes s.value)) _ (expr_text s.value) (both ((((((10 + (expr_bytes s.guard)) + 2) + (length s.array)) + 1) + (expr_bytes s.index))) (5) _ (codes "] <= ") (both (((((10 + (expr_bytes s.guard)) + 2) + (length s.array)) + 1)) ((expr_bytes s.index)) _ (expr_text s.index) (both ((((10 + (expr_bytes s.guard)) + 2) + (length s.array))) (1) _ (codes "[") (both (((10 + (expr_bytes s.guard)) + 2)) ((length s.array)) _ (s.array) (both ((10 + (expr_bytes s.guard))) (2) _ (codes ") ") (both (10) ((expr_bytes s.guard)) _ (expr_text s.guard) (exactly (codes "      if (")) guard) (exactly (codes ") "))) (exactly s.array)) (exactly (codes "["))) index) (exactly (codes "] <= "))) value) (exactly (codes ";"))) (exactly (codes "\n")))
line_fits BranchesEnd narrow = record { few = omega arith }
line_fits AlwaysEnd narrow = record { few = omega arith }
line_fits ModuleEnd narrow = record { few = omega arith }

-- a sum over a list
abbrev pub sum_over : {A : Type 0} → (A → ℕ) → List A → ℕ
sum_over f [] = 0
sum_over f (x ∷ xs) = f x + sum_over f xs

pub lines_fit : (ls : List Line) → Each LineNarrow ls → Fits (sum_over line_bytes ls) (lines_text ls)
lines_fit [] each = exactly []
lines_fit (l ∷ ls) each = both (line_bytes l) (sum_over line_bytes ls) (line_text l ++ codes "\n") (lines_text ls) (line_fits l each.0) (lines_fit ls each.1)
