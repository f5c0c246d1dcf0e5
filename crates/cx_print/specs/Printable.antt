-- Which trees have a text: names, strings, numbers and literals by the rules of their tokens, and 64 levels at most.
use Rattle.std.specs.Prelude.{◌≡◌, ◌≢◌, ℕ, zero, suc, ◌^◌, ◌<◌, Bool, true, false, List, [], Option, Some, None}
use Rattle.std.specs.List.{AllByRecursion}
use Rattle.cx_ast.specs.declared.tokens.TokenKind.TheVariants as kinds
use Rattle.cx_ast.specs.declared.components.Attribute.{Attribute}
use Rattle.cx_ast.specs.declared.components.Mark.{Mark}
use Rattle.cx_ast.specs.declared.operands.OperandForm.{OperandForm}
use Rattle.cx_ast.specs.declared.operands.OperandForm.TheVariants as operands
use Rattle.cx_ast.specs.declared.operands.OperandItem.{OperandItem}
use Rattle.cx_ast.specs.declared.statements.BindItem.{BindItem}
use Rattle.cx_ast.specs.declared.trees.ImportItem.{ImportItem}
use Rattle.cx_ast.specs.declared.wiring.GroupWord.{GroupWord}
use Rattle.cx_ast.specs.declared.wiring.GroupWord.TheVariants as group_words
use Rattle.cx_ast.specs.PlainGuards.{PlainGuard, PlainGuards, NoGuards, GuardThen}
use Rattle.cx_ast.specs.PlainGuards as guards
use Rattle.cx_ast.specs.PlainStatements.{PlainForm, PlainElse, NoElse, Else, PlainStatement, Placed, PlainStatements, NoStatements, StatementThen, PlainBlock, Braces}
use Rattle.cx_ast.specs.PlainStatements as plain
use Rattle.cx_ast.specs.PlainTree.{PlainPort, PlainCell, PlainAssign, PlainGroup, PlainWire, PlainComponent, PlainTree}
use Rattle.cx_ast.specs.PlainTree as wires
use Rattle.cx_grammar.specs.declared.terminals.Terminal.TheVariants as t
use Rattle.cx_grammar.specs.Terminals.{word_terminal}
use Rattle.cx_print.specs.declared.guards.Binding.{Binding}
use Rattle.cx_print.specs.declared.guards.Binding.TheVariants.{OrPart, AndPart, NotPart}
use Rattle.cx_print.specs.Layout.{IsWritable, IsWritableWord}
use Rattle.cx_print.specs.Pieces.{needs_parens}

-- a name that is no reserved word
abbrev pub IsName : List ℕ → Type 0
IsName bytes = IsWritableWord bytes × (word_terminal bytes ≡ t.Name)

abbrev pub IsText : List ℕ → Type 0
IsText bytes = IsWritable (kinds.Text bytes)

abbrev pub IsNumber : ℕ → Type 0
IsNumber n = n < 2 ^ 64

abbrev pub IfThere : {A : Type 0} → (A → Type 0) → Option A → Type 0
IfThere P None = Unit {0}
IfThere P (Some x) = P x

-- an attribute may be named by a reserved word
abbrev pub IsAttribute : Attribute → Type 0
IsAttribute a = IsWritableWord a.name × IfThere IsNumber a.number

abbrev pub IsMark : Mark → Type 0
IsMark m = IsText m.name × IsNumber m.number

-- the name in brackets may be a reserved word
abbrev pub IsForm : OperandForm → Type 0
IsForm (operands.Own port) = IsName port
IsForm (operands.Port cell port) = IsName cell × IsName port
IsForm (operands.Hole group hole) = IsName group × IsWritableWord hole
IsForm (operands.Literal width value) = IsWritable (kinds.Literal width value)

abbrev pub IsOperand : OperandItem → Type 0
IsOperand o = IsForm o.form

abbrev pub IsNoLiteral : OperandForm → Type 0
IsNoLiteral (operands.Own port) = Unit {0}
IsNoLiteral (operands.Port cell port) = Unit {0}
IsNoLiteral (operands.Hole group hole) = Unit {0}
IsNoLiteral (operands.Literal width value) = ⊥

abbrev pub IsTarget : OperandItem → Type 0
IsTarget o = IsForm o.form × IsNoLiteral o.form

abbrev pub IsBind : BindItem → Type 0
IsBind b = IsName b.name × IsOperand b.value

-- it fits with a level less
abbrev pub OneDeeper : (ℕ → Type 0) → ℕ → Type 0
OneDeeper inside zero = ⊥
OneDeeper inside (suc n) = inside n

-- parentheses begin a level
abbrev pub IsWrapped : Bool → (ℕ → Type 0) → ℕ → Type 0
IsWrapped true inside n = OneDeeper inside n
IsWrapped false inside n = inside n

abbrev pub HasTwo : PlainGuards → Type 0
HasTwo NoGuards = ⊥
HasTwo (GuardThen g NoGuards) = ⊥
HasTwo (GuardThen g (GuardThen h gs)) = Unit {0}

-- A guard within n levels. `!` begins one, and so do the parentheses that a part needs. A conjunction or disjunction has
-- two parts at least.
abbrev mutual
  pub IsInside : PlainGuard → ℕ → Type 0
  IsInside (guards.Or gs) n = HasTwo gs × AreParts OrPart gs n
  IsInside (guards.And gs) n = HasTwo gs × AreParts AndPart gs n
  IsInside (guards.Compare c left right) n = IsOperand left × IsOperand right
  IsInside (guards.Not g) n = OneDeeper (IsWrapped (needs_parens NotPart g) (IsInside g)) n
  IsInside (guards.Operand o) n = IsOperand o
  IsInside (guards.At at) n = IsNumber at
  IsInside (guards.During from to) n = IsNumber from × IsNumber to

  pub AreParts : Binding → PlainGuards → ℕ → Type 0
  AreParts binding NoGuards n = Unit {0}
  AreParts binding (GuardThen g gs) n = IsWrapped (needs_parens binding g) (IsInside g) n × AreParts binding gs n

abbrev pub IsGuard : PlainGuard → Type 0
IsGuard g = IsInside g 64

-- control within n levels: a block begins one
abbrev mutual
  pub IsControl : PlainForm → ℕ → Type 0
  IsControl (plain.Enable group ms) n = IsName group × AllByRecursion IsMark ms
  IsControl (plain.Seq ms block) n = AllByRecursion IsMark ms × IsBlock block n
  IsControl (plain.Par ms block) n = AllByRecursion IsMark ms × IsBlock block n
  IsControl (plain.StaticSeq length ms block) n = IfThere IsNumber length × AllByRecursion IsMark ms × IsBlock block n
  IsControl (plain.StaticPar length ms block) n = IfThere IsNumber length × AllByRecursion IsMark ms × IsBlock block n
  IsControl (plain.If test comb body otherwise) n =
      IsOperand test × IfThere IsName comb × IsBlock body n × IsElse otherwise n
  IsControl (plain.StaticIf length test body otherwise) n =
      IfThere IsNumber length × IsOperand test × IsBlock body n × IsElse otherwise n
  IsControl (plain.While test comb body) n = IsOperand test × IfThere IsName comb × IsBlock body n
  IsControl (plain.Repeat count body) n = IsNumber count × IsBlock body n
  IsControl (plain.StaticRepeat length count body) n = IfThere IsNumber length × IsNumber count × IsBlock body n
  IsControl (plain.Invoke cell inputs outputs) n =
      IsName cell × AllByRecursion IsBind inputs × AllByRecursion IsBind outputs
  IsControl (plain.StaticInvoke length cell inputs outputs) n =
      IfThere IsNumber length × IsName cell × AllByRecursion IsBind inputs × AllByRecursion IsBind outputs

  pub IsElse : PlainElse → ℕ → Type 0
  IsElse NoElse n = Unit {0}
  IsElse (Else block) n = IsBlock block n

  pub IsStatement : PlainStatement → ℕ → Type 0
  IsStatement (Placed attributes form place) n = AllByRecursion IsAttribute attributes × IsControl form n

  pub AreStatements : PlainStatements → ℕ → Type 0
  AreStatements NoStatements n = Unit {0}
  AreStatements (StatementThen s ss) n = IsStatement s n × AreStatements ss n

  pub IsBlock : PlainBlock → ℕ → Type 0
  IsBlock (Braces ss place) n = OneDeeper (AreStatements ss) n

abbrev pub IsAssign : PlainAssign → Type 0
IsAssign a = AllByRecursion IsAttribute a.attributes × IsTarget a.target × IfThere IsGuard a.guard × IsOperand a.source

abbrev pub IsGroupWord : GroupWord → Type 0
IsGroupWord group_words.Plain = Unit {0}
IsGroupWord group_words.Comb = Unit {0}
IsGroupWord (group_words.Timed n) = IsNumber n

abbrev pub IsGroup : PlainGroup → Type 0
IsGroup g =
    AllByRecursion IsAttribute g.attributes × IsGroupWord g.kind × IsName g.name
    × AllByRecursion IsMark g.marks × AllByRecursion IsAssign g.assigns

abbrev pub IsWire : PlainWire → Type 0
IsWire (wires.Group g) = IsGroup g
IsWire (wires.Assign a) = IsAssign a

abbrev pub IsPort : PlainPort → Type 0
IsPort p = AllByRecursion IsAttribute p.attributes × IsName p.name × IsNumber p.width

abbrev pub IsCell : PlainCell → Type 0
IsCell c =
    AllByRecursion IsAttribute c.attributes × IsName c.name × AllByRecursion IsMark c.marks × IsName c.kind
    × AllByRecursion IsNumber c.numbers

pub record IsComponent (c : PlainComponent) : Type 0 where
  pub attributes : AllByRecursion IsAttribute c.attributes
  pub length : IfThere IsNumber c.length
  pub name : IsName c.name
  pub marks : AllByRecursion IsMark c.marks
  pub inputs : AllByRecursion IsPort c.inputs
  pub outputs : AllByRecursion IsPort c.outputs
  pub cells : AllByRecursion IsCell c.cells
  pub wires : AllByRecursion IsWire c.wires
  pub control : IfThere (λ block. IsBlock block 64) c.control

-- a file has a component at least
pub record IsPrintable (t : PlainTree) : Type 0 where
  pub imports : AllByRecursion (λ (i : ImportItem). IsText i.path) t.imports
  pub some : t.components ≢ []
  pub components : AllByRecursion IsComponent t.components
