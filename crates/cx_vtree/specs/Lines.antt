-- The lines of a Verilog text, and how each is spelled.
use Rattle.std.specs.Prelude.{ℕ, ◌+◌, ◌-◌, ◌==◌, List, [], ◌∷◌, ◌++◌, Bool, nat_lt, map, if◌then◌else◌, codes}
use Rattle.std.specs.Int.Digits.{digits_of}
use Rattle.cx_vtree.specs.declared.operators.Operator.{Operator}
use Rattle.cx_vtree.specs.declared.operators.Operator.TheVariants.{Add, Subtract, Multiply, And, Or, Xor, ShiftLeft, ShiftRight, Equal, NotEqual, Less, Greater, AtMost, AtLeast}
use Rattle.cx_vtree.specs.Plain.{PlainExpr, Named, Number, Part, Word, Applied, Inverted, Chosen, Joined, PlainPort, PlainDecl, WireOf, RegisterOf, ArrayOf, PlainAssign, PlainConn, PlainInstance, PlainStore, PlainExternal}

-- the byte of a digit: `0` to `9`, then `a` to `f`
abbrev pub glyph : ℕ → ℕ
glyph d = if nat_lt d 10 then 48 + d else 87 + d

-- a number in a base, without leading zeros
abbrev pub number_text : ℕ → ℕ → List ℕ
number_text base n = if n == 0 then codes "0" else map glyph (digits_of base n)

abbrev pub decimal_text : ℕ → List ℕ
decimal_text n = number_text 10 n

abbrev pub op_text : Operator → List ℕ
op_text Add = codes "+"
op_text Subtract = codes "-"
op_text Multiply = codes "*"
op_text And = codes "&"
op_text Or = codes "|"
op_text Xor = codes "^"
op_text ShiftLeft = codes "<<"
op_text ShiftRight = codes ">>"
op_text Equal = codes "=="
op_text NotEqual = codes "!="
op_text Less = codes "<"
op_text Greater = codes ">"
op_text AtMost = codes "<="
op_text AtLeast = codes ">="

abbrev pub expr_text : PlainExpr → List ℕ
expr_text (Named n) = n
expr_text (Number b) = decimal_text b.width ++ codes "'h" ++ number_text 16 b.value
expr_text (Part n high low) = n ++ codes "[" ++ decimal_text high ++ codes ":" ++ decimal_text low ++ codes "]"
expr_text (Word n i) = n ++ codes "[" ++ expr_text i ++ codes "]"
expr_text (Applied op a b) =
    codes "(" ++ expr_text a ++ codes " " ++ op_text op ++ codes " " ++ expr_text b ++ codes ")"
expr_text (Inverted a) = codes "(~" ++ expr_text a ++ codes ")"
expr_text (Chosen c a b) =
    codes "(" ++ expr_text c ++ codes " ? " ++ expr_text a ++ codes " : " ++ expr_text b ++ codes ")"
expr_text (Joined a b) = codes "{" ++ expr_text a ++ codes ", " ++ expr_text b ++ codes "}"

-- a line without its line feed
pub data Line : Type 0 where
  ExternalLine : (e : PlainExternal) → Line
  ModuleLine : (name : List ℕ) → Line
  -- a port; `more` says that a comma follows, and another port
  PortLine : (p : PlainPort) (more : Bool) → Line
  PortsEnd : Line
  DeclLine : (d : PlainDecl) → Line
  AssignLine : (a : PlainAssign) → Line
  InstanceLine : (i : PlainInstance) → Line
  AlwaysLine : Line
  ResetLine : Line
  SetLine : (a : PlainAssign) → Line
  ElseLine : Line
  StoreLine : (s : PlainStore) → Line
  BranchesEnd : Line
  AlwaysEnd : Line
  ModuleEnd : Line

abbrev pub sizes_text : List ℕ → List ℕ
sizes_text [] = []
sizes_text (n ∷ ns) = codes " " ++ decimal_text n ++ sizes_text ns

-- the number that stands for a width or a length: one less
abbrev pub bounds_text : ℕ → List ℕ
bounds_text w = codes "[" ++ decimal_text (w - 1) ++ codes ":0] "

abbrev pub conn_text : PlainConn → List ℕ
conn_text c = codes "." ++ c.port ++ codes "(" ++ c.net ++ codes ")"

-- the connections after the first
abbrev pub more_conns_text : List PlainConn → List ℕ
more_conns_text [] = []
more_conns_text (c ∷ cs) = codes ", " ++ conn_text c ++ more_conns_text cs

abbrev pub conns_text : List PlainConn → List ℕ
conns_text [] = []
conns_text (c ∷ cs) = conn_text c ++ more_conns_text cs

abbrev pub decl_text : PlainDecl → List ℕ
decl_text (WireOf n w) = codes "  wire " ++ bounds_text w ++ n ++ codes ";"
decl_text (RegisterOf n w) = codes "  reg " ++ bounds_text w ++ n ++ codes ";"
decl_text (ArrayOf n w k) = codes "  reg " ++ bounds_text w ++ n ++ codes " [0:" ++ decimal_text (k - 1) ++ codes "];"

-- how the line of a port begins, and how it ends
abbrev pub side_text : Bool → List ℕ
side_text output = if output then codes "  output wire " else codes "  input wire "

abbrev pub comma_text : Bool → List ℕ
comma_text more = if more then codes "," else []

-- the words of an external line
abbrev pub external_text : List ℕ → List ℕ → List ℕ
external_text name instance = codes "// external " ++ (name ++ codes " ") ++ (instance ++ codes " ")

abbrev pub line_text : Line → List ℕ
line_text (ExternalLine e) = external_text e.name e.instance ++ decimal_text e.width ++ sizes_text e.sizes
line_text (ModuleLine n) = codes "module " ++ n ++ codes "("
line_text (PortLine p more) = side_text p.output ++ bounds_text p.width ++ p.name ++ comma_text more
line_text PortsEnd = codes ");"
line_text (DeclLine d) = decl_text d
line_text (AssignLine a) = codes "  assign " ++ a.name ++ codes " = " ++ expr_text a.value ++ codes ";"
line_text (InstanceLine i) =
    codes "  " ++ i.kind ++ codes " " ++ i.name ++ codes "(" ++ conns_text i.conns ++ codes ");"
line_text AlwaysLine = codes "  always @(posedge clk) begin"
line_text ResetLine = codes "    if (reset) begin"
line_text (SetLine a) = codes "      " ++ a.name ++ codes " <= " ++ expr_text a.value ++ codes ";"
line_text ElseLine = codes "    end else begin"
line_text (StoreLine s) =
    codes "      if (" ++ expr_text s.guard ++ codes ") " ++ s.array ++ codes "[" ++ expr_text s.index
    ++ codes "] <= " ++ expr_text s.value ++ codes ";"
line_text BranchesEnd = codes "    end"
line_text AlwaysEnd = codes "  end"
line_text ModuleEnd = codes "endmodule"

-- each line with its line feed
abbrev pub lines_text : List Line → List ℕ
lines_text [] = []
lines_text (l ∷ ls) = line_text l ++ codes "\n" ++ lines_text ls
