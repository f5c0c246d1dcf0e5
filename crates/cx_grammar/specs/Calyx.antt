-- The productions of the Calyx text.
use Rattle.std.specs.Prelude.{ℕ, zero, suc, List, [], ◌∷◌, Option, Some, None, Err, if◌then◌else◌}
use Rattle.cx_text.specs.declared.places.Place.{Place}
use Rattle.cx_ast.specs.declared.tokens.Token.{Token}
use Rattle.cx_ast.specs.declared.tokens.TokenKind.{TokenKind}
use Rattle.cx_ast.specs.declared.tokens.TokenKind.TheVariants as kinds
use Rattle.cx_ast.specs.declared.components.Attribute.{Attribute}
use Rattle.cx_ast.specs.declared.components.Mark.{Mark}
use Rattle.cx_ast.specs.declared.guards.Comparison.{Comparison}
use Rattle.cx_ast.specs.declared.guards.Comparison.TheVariants as comparisons
use Rattle.cx_ast.specs.declared.operands.OperandForm.{OperandForm}
use Rattle.cx_ast.specs.declared.operands.OperandForm.TheVariants as operands
use Rattle.cx_ast.specs.declared.operands.OperandItem.{OperandItem}
use Rattle.cx_ast.specs.declared.statements.BindItem.{BindItem}
use Rattle.cx_ast.specs.declared.trees.ImportItem.{ImportItem}
use Rattle.cx_ast.specs.declared.wiring.GroupWord.{GroupWord}
use Rattle.cx_ast.specs.declared.wiring.GroupWord.TheVariants as group_words
use Rattle.cx_ast.specs.PlainGuards.{PlainGuard, Compare, Operand, At, During, guards_of}
use Rattle.cx_ast.specs.PlainGuards as guards
use Rattle.cx_ast.specs.PlainStatements.{PlainForm, PlainStatement, PlainBlock, statements_of, else_of}
use Rattle.cx_ast.specs.PlainStatements as plain
use Rattle.cx_ast.specs.PlainTree.{PlainPort, PlainCell, PlainAssign, PlainGroup, PlainWire, PlainComponent, PlainTree}
use Rattle.cx_ast.specs.PlainTree as wires
use Rattle.cx_grammar.specs.declared.terminals.Terminal.{Terminal}
use Rattle.cx_grammar.specs.declared.terminals.Terminal.TheVariants as t
use Rattle.cx_grammar.specs.Terminals.{begins}
use Rattle.cx_grammar.specs.Grammar.{Nest, Negation, Parens, Braces, Nested, Grammar, Empty, One, Pair, Choice, Several, Commas, Deeper, Spelling, Spells, opening}
use Rattle.cx_grammar.specs.Reading.{Reads, read, unexpected, too_deep}

-- what a token carries
abbrev pub word_of : TokenKind → List ℕ
word_of (kinds.Word word) = word
word_of (kinds.Number n) = []
word_of (kinds.Literal width value) = []
word_of (kinds.Text bytes) = []
word_of (kinds.Sign sign) = []

abbrev pub text_of : TokenKind → List ℕ
text_of (kinds.Word word) = []
text_of (kinds.Number n) = []
text_of (kinds.Literal width value) = []
text_of (kinds.Text bytes) = bytes
text_of (kinds.Sign sign) = []

abbrev pub number_of : TokenKind → ℕ
number_of (kinds.Word word) = 0
number_of (kinds.Number n) = n
number_of (kinds.Literal width value) = 0
number_of (kinds.Text bytes) = 0
number_of (kinds.Sign sign) = 0

abbrev pub literal_of : TokenKind → OperandForm
literal_of (kinds.Word word) = operands.Literal 0 0
literal_of (kinds.Number n) = operands.Literal 0 0
literal_of (kinds.Literal width value) = operands.Literal width value
literal_of (kinds.Text bytes) = operands.Literal 0 0
literal_of (kinds.Sign sign) = operands.Literal 0 0

-- a name and its place
abbrev pub Named : Type 0
Named = List ℕ × Place

abbrev pub named : Token → Named
named token = (word_of token.kind, token.place)

-- a reserved word or a sign
abbrev pub sign : Terminal → Grammar Place
sign terminal = One (terminal ∷ []) (λ token. token.place)

-- a word that is not reserved
abbrev pub name : Grammar Named
name = One (t.Name ∷ []) named

-- any word
abbrev pub words : List Terminal
words =
    t.Name ∷ t.Import ∷ t.Component ∷ t.Cells ∷ t.Wires ∷ t.Control ∷ t.Group ∷ t.Comb ∷ t.Static ∷ t.Seq
    ∷ t.Par ∷ t.If ∷ t.Else ∷ t.While ∷ t.Repeat ∷ t.Invoke ∷ t.With ∷ t.Ref ∷ []

abbrev pub word : Grammar (List ℕ)
word = One words (λ token. word_of token.kind)

abbrev pub number : Grammar ℕ
number = One (t.Number ∷ []) (λ token. number_of token.kind)

abbrev pub text : Grammar (List ℕ)
text = One (t.Text ∷ []) (λ token. text_of token.kind)

-- g behind a sign, and g before one
abbrev pub behind : {A : Type 0} → Terminal → Grammar A → Grammar A
behind terminal g = Pair (λ _ x. x) (sign terminal) g

abbrev pub before : {A : Type 0} → Grammar A → Terminal → Grammar A
before g terminal = Pair (λ x _. x) g (sign terminal)

abbrev pub within : {A : Type 0} → Terminal → Grammar A → Terminal → Grammar A
within from g to = behind from (before g to)

-- one after the other, both kept
abbrev pub pair : {A B : Type 0} → Grammar A → Grammar B → Grammar (A × B)
pair {A = A} {B = B} g h = Pair (λ (x : A) (y : B). (x, y)) g h

-- the value seen by a function
abbrev pub mapped : {A B : Type 0} → (A → B) → Grammar A → Grammar B
mapped {A = A} f g = Pair (λ (x : A) (_ : Unit {0}). f x) g (Empty tt)

-- {g}
abbrev pub many : {A : Type 0} → Grammar A → Grammar (List A)
many g = Several (λ xs. xs) g

-- [g]
abbrev pub maybe : {A : Type 0} → Grammar A → Grammar (Option A)
maybe g = Choice (mapped (λ x. Some x) g) (Empty None)

-- attr = "@" name ["(" number ")"]
unfoldable pub attribute_number : Grammar (Option ℕ)
attribute_number = maybe (within t.OpenParen number t.CloseParen)

unfoldable pub attribute : Grammar Attribute
attribute = behind t.At (Pair (λ w n. record { name = w; number = n }) word attribute_number)

unfoldable pub attributes : Grammar (List Attribute)
attributes = many attribute

-- marks = "<" string "=" number {"," string "=" number} ">"
unfoldable pub mark : Grammar Mark
mark = Pair (λ w n. record { name = w; number = n }) text (behind t.Equal number)

unfoldable pub next_mark : Grammar Mark
next_mark = behind t.Comma mark

unfoldable pub more_marks : Grammar (List Mark)
more_marks = many next_mark

unfoldable pub marks : Grammar (List Mark)
marks = Choice (behind t.Less (Pair (λ m ms. m ∷ ms) mark (before more_marks t.Greater))) (Empty [])

-- import = "import" string ";"
unfoldable pub import : Grammar ImportItem
import = Pair (λ place path. record { path = path; place = place }) (sign t.Import) (before text t.Semicolon)

-- port = {attr} name ":" number
abbrev pub port_of : List Attribute → Named × ℕ → PlainPort
port_of attrs p = record { attributes = attrs; name = p.0.0; width = p.1; place = p.0.1 }

unfoldable pub port : Grammar PlainPort
port = Pair port_of attributes (pair name (behind t.Colon number))

-- "(" [ports] ")"
unfoldable pub some_ports : Grammar (List PlainPort)
some_ports = Choice (Commas (λ ps. ps) port) (Empty [])

unfoldable pub ports : Grammar (List PlainPort)
ports = within t.OpenParen some_ports t.CloseParen

unfoldable pub outputs : Grammar (List PlainPort)
outputs = Choice (behind t.Arrow ports) (Empty [])

-- target = name | name "." name | name "[" name "]"
abbrev pub port_form : Named → List ℕ → OperandForm
port_form n cell = operands.Port cell n.0

abbrev pub hole_form : List ℕ → List ℕ → OperandForm
hole_form hole group = operands.Hole group hole

unfoldable pub reference : Grammar (List ℕ → OperandForm)
reference =
    Choice (behind t.Dot (mapped port_form name))
    (Choice (within t.OpenBracket (mapped hole_form word) t.CloseBracket) (Empty (λ p. operands.Own p)))

abbrev pub target_of : Named → (List ℕ → OperandForm) → OperandItem
target_of n form = record { form = form n.0; place = n.1 }

unfoldable pub target : Grammar OperandItem
target = Pair target_of name reference

-- operand = target | literal
unfoldable pub literal : Grammar OperandItem
literal = One (t.Literal ∷ []) (λ token. record { form = literal_of token.kind; place = token.place })

unfoldable pub operand : Grammar OperandItem
operand = Choice target literal

-- cmp
unfoldable pub cmp : Grammar Comparison
cmp =
    Choice (mapped (λ _. comparisons.Equal) (sign t.EqualEqual))
    (Choice (mapped (λ _. comparisons.NotEqual) (sign t.NotEqual))
    (Choice (mapped (λ _. comparisons.Less) (sign t.Less))
    (Choice (mapped (λ _. comparisons.Greater) (sign t.Greater))
    (Choice (mapped (λ _. comparisons.LessEqual) (sign t.LessEqual))
    (mapped (λ _. comparisons.GreaterEqual) (sign t.GreaterEqual))))))

-- "%" number | "%" "[" number ":" number "]"
unfoldable pub window_range : Grammar PlainGuard
window_range =
    behind t.OpenBracket
    (Pair (λ from to. During from to) number (behind t.Colon (before number t.CloseBracket)))

unfoldable pub window : Grammar PlainGuard
window = behind t.Percent (Choice (mapped (λ n. At n) number) window_range)

-- unary = "!" unary | "(" guard ")" | operand | window; here those that do not begin with an operand
unfoldable pub prefixed : Grammar PlainGuard
prefixed = Choice (Deeper Negation) (Choice (Deeper Parens) window)

unfoldable pub unary : Grammar PlainGuard
unary = Choice prefixed (mapped (λ o. Operand o) operand)

-- comp = operand cmp operand | unary; here what follows its first operand
unfoldable pub compared : Grammar (OperandItem → PlainGuard)
compared = Choice (Pair (λ c right left. Compare c left right) cmp operand) (Empty (λ left. Operand left))

unfoldable pub comp : Grammar PlainGuard
comp = Choice prefixed (Pair (λ o f. f o) operand compared)

-- conj = comp {"&" comp}
-- one part stands for itself
abbrev pub and_of : List PlainGuard → PlainGuard
and_of [] = guards.And guards.NoGuards
and_of (g ∷ []) = g
and_of (g ∷ h ∷ gs) = guards.And (guards_of (g ∷ h ∷ gs))

unfoldable pub next_comp : Grammar PlainGuard
next_comp = behind t.And comp

unfoldable pub more_comps : Grammar (List PlainGuard)
more_comps = many next_comp

unfoldable pub conj : Grammar PlainGuard
conj = Pair (λ g gs. and_of (g ∷ gs)) comp more_comps

-- guard = conj {"|" conj}
abbrev pub or_of : List PlainGuard → PlainGuard
or_of [] = guards.Or guards.NoGuards
or_of (g ∷ []) = g
or_of (g ∷ h ∷ gs) = guards.Or (guards_of (g ∷ h ∷ gs))

unfoldable pub next_conj : Grammar PlainGuard
next_conj = behind t.Or conj

unfoldable pub more_conjs : Grammar (List PlainGuard)
more_conjs = many next_conj

unfoldable pub guard : Grammar PlainGuard
guard = Pair (λ g gs. or_of (g ∷ gs)) conj more_conjs

-- What follows "=" in an assignment: operand | guard "?" operand.
abbrev pub Value : Type 0
Value = Option PlainGuard × OperandItem

-- the rest of a guard behind its first comp, and "?" operand
abbrev pub guarded_of : List PlainGuard → List PlainGuard × OperandItem → PlainGuard → Value
guarded_of gs r g = (Some (or_of (and_of (g ∷ gs) ∷ r.0)), r.1)

unfoldable pub guarded : Grammar (PlainGuard → Value)
guarded = Pair guarded_of more_comps (pair more_conjs (behind t.Question operand))

-- what follows an operand: the rest of a guard that begins with it, or nothing
unfoldable pub guard_value : Grammar (OperandItem → Value)
guard_value = Pair (λ f k o. k (f o)) compared guarded

unfoldable pub after_operand : Grammar (OperandItem → Value)
after_operand = Choice guard_value (Empty (λ o. (None, o)))

unfoldable pub value : Grammar Value
value = Choice (Pair (λ g k. k g) prefixed guarded) (Pair (λ o k. k o) operand after_operand)

-- assign = {attr} target "=" value ";"; here without its attributes
abbrev pub assign_of : OperandItem → Value → List Attribute → PlainAssign
assign_of o v attrs = record { attributes = attrs; target = o; guard = v.0; source = v.1; place = o.place }

unfoldable pub bare_assign : Grammar (List Attribute → PlainAssign)
bare_assign = Pair (λ o v. assign_of o v) target (behind t.Equal (before value t.Semicolon))

unfoldable pub assign : Grammar PlainAssign
assign = Pair (λ attrs f. f attrs) attributes bare_assign

-- "<" number ">"
unfoldable pub length_of : Grammar ℕ
length_of = within t.Less number t.Greater

unfoldable pub optional_length : Grammar (Option ℕ)
optional_length = maybe length_of

-- ["comb" | "static" "<" number ">"] "group"
unfoldable pub group_word : Grammar (GroupWord × Place)
group_word =
    Choice (Pair (λ p _. (group_words.Comb, p)) (sign t.Comb) (sign t.Group))
    (Choice (Pair (λ p n. (group_words.Timed n, p)) (sign t.Static) (before length_of t.Group))
    (mapped (λ p. (group_words.Plain, p)) (sign t.Group)))

-- group = {attr} group_word name [marks] "{" {assign} "}"; here without its attributes
unfoldable pub assigns : Grammar (List PlainAssign)
assigns = many assign

abbrev pub group_of : GroupWord × Place → Named × (List Mark × List PlainAssign) → List Attribute → PlainGroup
group_of k r attrs =
    record { attributes = attrs; kind = k.0; name = r.0.0; marks = r.1.0; assigns = r.1.1; place = k.1 }

unfoldable pub bare_group : Grammar (List Attribute → PlainGroup)
bare_group = Pair group_of group_word (pair name (pair marks (within t.OpenBrace assigns t.CloseBrace)))

abbrev pub assign_wire : (List Attribute → PlainAssign) → List Attribute → PlainWire
assign_wire f attrs = wires.Assign (f attrs)

abbrev pub group_wire : (List Attribute → PlainGroup) → List Attribute → PlainWire
group_wire f attrs = wires.Group (f attrs)

unfoldable pub wire : Grammar PlainWire
wire = Pair (λ attrs f. f attrs) attributes (Choice (mapped assign_wire bare_assign) (mapped group_wire bare_group))

-- wires = "wires" "{" {group | assign} "}"
unfoldable pub wire_list : Grammar (List PlainWire)
wire_list = many wire

unfoldable pub wires_part : Grammar (List PlainWire)
wires_part = behind t.Wires (within t.OpenBrace wire_list t.CloseBrace)

-- cell = {attr} name [marks] "=" name "(" [number {"," number}] ")" ";"
unfoldable pub next_number : Grammar ℕ
next_number = behind t.Comma number

unfoldable pub more_numbers : Grammar (List ℕ)
more_numbers = many next_number

unfoldable pub numbers : Grammar (List ℕ)
numbers = Choice (Pair (λ n ns. n ∷ ns) number more_numbers) (Empty [])

unfoldable pub cell_kind : Grammar (Named × List ℕ)
cell_kind = pair name (before (within t.OpenParen numbers t.CloseParen) t.Semicolon)

abbrev pub cell_of : List Attribute → Named × (List Mark × (Named × List ℕ)) → PlainCell
cell_of attrs r =
    record {
      attributes = attrs;
      name = r.0.0;
      marks = r.1.0;
      kind = r.1.1.0.0;
      numbers = r.1.1.1;
      place = r.0.1;
    }

unfoldable pub cell : Grammar PlainCell
cell = Pair cell_of attributes (pair name (pair marks (behind t.Equal cell_kind)))

-- cells = "cells" "{" {cell} "}"
unfoldable pub cell_list : Grammar (List PlainCell)
cell_list = many cell

unfoldable pub cells : Grammar (List PlainCell)
cells = behind t.Cells (within t.OpenBrace cell_list t.CloseBrace)

-- bind = name "=" operand
abbrev pub bind_of : Named → OperandItem → BindItem
bind_of n o = record { name = n.0; value = o; place = n.1 }

unfoldable pub bind : Grammar BindItem
bind = Pair bind_of name (behind t.Equal operand)

-- "(" [binds] ")"
unfoldable pub some_binds : Grammar (List BindItem)
some_binds = Choice (Commas (λ bs. bs) bind) (Empty [])

unfoldable pub binds : Grammar (List BindItem)
binds = within t.OpenParen some_binds t.CloseParen

-- control = "control" block
unfoldable pub block : Grammar PlainBlock
block = Deeper Braces

unfoldable pub control : Grammar (Option PlainBlock)
control = maybe (behind t.Control block)

-- ["with" name], ["else" block]
abbrev pub text_in : Named → List ℕ
text_in n = n.0

unfoldable pub comb : Grammar (Option (List ℕ))
comb = maybe (behind t.With (mapped text_in name))

unfoldable pub otherwise : Grammar (Option PlainBlock)
otherwise = maybe (behind t.Else block)

-- the forms of a statement, behind the word that begins each
unfoldable pub marked_block : Grammar (List Mark × PlainBlock)
marked_block = pair marks block

abbrev pub if_of : OperandItem → Option (List ℕ) × (PlainBlock × Option PlainBlock) → PlainForm
if_of o r = plain.If o r.0 r.1.0 (else_of r.1.1)

unfoldable pub if_rest : Grammar PlainForm
if_rest = Pair if_of operand (pair comb (pair block otherwise))

abbrev pub while_of : OperandItem → Option (List ℕ) × PlainBlock → PlainForm
while_of o r = plain.While o r.0 r.1

unfoldable pub while_rest : Grammar PlainForm
while_rest = Pair while_of operand (pair comb block)

unfoldable pub repeat_rest : Grammar (ℕ × PlainBlock)
repeat_rest = pair number block

abbrev pub static_if_of : OperandItem → PlainBlock × Option PlainBlock → Option ℕ → PlainForm
static_if_of o r l = plain.StaticIf l o r.0 (else_of r.1)

unfoldable pub static_if_rest : Grammar (Option ℕ → PlainForm)
static_if_rest = Pair static_if_of operand (pair block otherwise)

-- what an invoke names, and what it binds
abbrev pub Called : Type 0
Called = Named × (List BindItem × List BindItem)

unfoldable pub invoke_rest : Grammar Called
invoke_rest = pair name (pair binds (before binds t.Semicolon))

-- what follows "static" ["<" number ">"]
abbrev pub static_seq_of : List Mark × PlainBlock → Option ℕ → PlainForm
static_seq_of r l = plain.StaticSeq l r.0 r.1

abbrev pub static_par_of : List Mark × PlainBlock → Option ℕ → PlainForm
static_par_of r l = plain.StaticPar l r.0 r.1

abbrev pub static_repeat_of : ℕ × PlainBlock → Option ℕ → PlainForm
static_repeat_of r l = plain.StaticRepeat l r.0 r.1

abbrev pub static_invoke_of : Called → Option ℕ → PlainForm
static_invoke_of r l = plain.StaticInvoke l r.0.0 r.1.0 r.1.1

unfoldable pub static_rest : Grammar (Option ℕ → PlainForm)
static_rest =
    Choice (behind t.Seq (mapped static_seq_of marked_block))
    (Choice (behind t.Par (mapped static_par_of marked_block))
    (Choice (behind t.If static_if_rest)
    (Choice (behind t.Repeat (mapped static_repeat_of repeat_rest))
    (behind t.Invoke (mapped static_invoke_of invoke_rest)))))

unfoldable pub static_form : Grammar PlainForm
static_form = Pair (λ l f. f l) optional_length static_rest

-- a form and its place
abbrev pub enable_of : Named → List Mark → PlainForm × Place
enable_of n ms = (plain.Enable n.0 ms, n.1)

abbrev pub seq_of : Place → List Mark × PlainBlock → PlainForm × Place
seq_of p r = (plain.Seq r.0 r.1, p)

abbrev pub par_of : Place → List Mark × PlainBlock → PlainForm × Place
par_of p r = (plain.Par r.0 r.1, p)

abbrev pub repeat_of : Place → ℕ × PlainBlock → PlainForm × Place
repeat_of p r = (plain.Repeat r.0 r.1, p)

abbrev pub invoke_of : Place → Called → PlainForm × Place
invoke_of p r = (plain.Invoke r.0.0 r.1.0 r.1.1, p)

abbrev pub form_of : Place → PlainForm → PlainForm × Place
form_of p f = (f, p)

unfoldable pub enable : Grammar (PlainForm × Place)
enable = Pair enable_of name (before marks t.Semicolon)

unfoldable pub seq : Grammar (PlainForm × Place)
seq = Pair seq_of (sign t.Seq) marked_block

unfoldable pub par : Grammar (PlainForm × Place)
par = Pair par_of (sign t.Par) marked_block

unfoldable pub if_form : Grammar (PlainForm × Place)
if_form = Pair form_of (sign t.If) if_rest

unfoldable pub while_form : Grammar (PlainForm × Place)
while_form = Pair form_of (sign t.While) while_rest

unfoldable pub repeat : Grammar (PlainForm × Place)
repeat = Pair repeat_of (sign t.Repeat) repeat_rest

unfoldable pub invoke : Grammar (PlainForm × Place)
invoke = Pair invoke_of (sign t.Invoke) invoke_rest

unfoldable pub static_statement : Grammar (PlainForm × Place)
static_statement = Pair form_of (sign t.Static) static_form

unfoldable pub form : Grammar (PlainForm × Place)
form =
    Choice enable (Choice seq
    (Choice par (Choice if_form (Choice while_form (Choice repeat (Choice invoke static_statement))))))

-- stmt = {attr} form
abbrev pub statement_of : List Attribute → PlainForm × Place → PlainStatement
statement_of attrs f = plain.Placed attrs f.0 f.1

unfoldable pub statement : Grammar PlainStatement
statement = Pair statement_of attributes form

unfoldable pub statements : Grammar (List PlainStatement)
statements = many statement

-- the parts that nest: "!" unary, "(" guard ")", and block = "{" {stmt} "}"
unfoldable pub nest : (n : Nest) → Grammar (Nested n)
nest Negation = Pair (λ _ g. guards.Not g) (sign t.Not) unary
nest Parens = within t.OpenParen guard t.CloseParen
nest Braces =
    Pair (λ place ss. plain.Braces (statements_of ss) place) (sign t.OpenBrace)
    (before statements t.CloseBrace)

-- component = {attr} ["static" "<" number ">"] "component" name [marks] "(" [ports] ")" ["->" "(" [ports] ")"] "{"
-- cells wires [control] "}"
unfoldable pub component_word : Grammar (Option ℕ × Place)
component_word =
    Choice (Pair (λ p n. (Some n, p)) (sign t.Static) (before length_of t.Component))
    (mapped (λ p. (None, p)) (sign t.Component))

-- name, marks, inputs and outputs
abbrev pub Signature : Type 0
Signature = Named × (List Mark × (List PlainPort × List PlainPort))

unfoldable pub signature : Grammar Signature
signature = pair name (pair marks (pair ports outputs))

-- cells, wires and control
abbrev pub Body : Type 0
Body = List PlainCell × (List PlainWire × Option PlainBlock)

unfoldable pub body : Grammar Body
body = behind t.OpenBrace (pair cells (pair wires_part (before control t.CloseBrace)))

abbrev pub component_of : List Attribute → (Option ℕ × Place) × (Signature × Body) → PlainComponent
component_of attrs r = record {
  attributes = attrs;
  length = r.0.0;
  name = r.1.0.0.0;
  marks = r.1.0.1.0;
  inputs = r.1.0.1.1.0;
  outputs = r.1.0.1.1.1;
  cells = r.1.1.0;
  wires = r.1.1.1.0;
  control = r.1.1.1.1;
  place = r.0.1;
}

unfoldable pub component : Grammar PlainComponent
component = Pair component_of attributes (pair component_word (pair signature body))

-- file = {import} component {component}
unfoldable pub imports : Grammar (List ImportItem)
imports = many import

unfoldable pub components : Grammar (List PlainComponent)
components = many component

unfoldable pub file : Grammar PlainTree
file = Pair (λ is r. record { imports = is; components = r }) imports (Pair (λ c cs. c ∷ cs) component components)

-- the spellings of the parts that nest, with at most n levels
abbrev pub spelled_within : ℕ → (n : Nest) → Spelling (Nested n)
spelled_within zero n ts x rest = ⊥
spelled_within (suc levels) n ts x rest = Spells (spelled_within levels) (nest n) ts x rest

-- reading the parts that nest, with at most n levels
abbrev pub nested_at : ℕ → (n : Nest) → List Token → Reads (Nested n)
nested_at zero n ts = if begins (opening n ∷ []) ts then Err (too_deep ts) else Err (unexpected ts)
nested_at (suc levels) n ts = read (nested_at levels) (nest n) ts
