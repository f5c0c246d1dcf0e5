-- What the grammar gives for ports, cells, groups, components and files is printable.
use Rattle.std.proofs.Common.{◌≡◌, ℕ, List, [], None}
use Rattle.std.specs.List.{AllByRecursion}
use Rattle.cx_text.specs.declared.places.Place.{Place}
use Rattle.cx_ast.specs.declared.tokens.Token.{Token}
use Rattle.cx_ast.specs.declared.tokens.TokenKind.{TokenKind}
use Rattle.cx_ast.specs.PlainTokens.{kinds_of}
use Rattle.cx_ast.specs.declared.components.Attribute.{Attribute}
use Rattle.cx_ast.specs.declared.trees.ImportItem.{ImportItem}
use Rattle.cx_ast.specs.declared.wiring.GroupWord.TheVariants as group_words
use Rattle.cx_ast.specs.PlainStatements.{PlainBlock}
use Rattle.cx_ast.specs.PlainTree.{PlainGroup, PlainWire, PlainTree}
use Rattle.cx_lex.specs.Lex.{IsToken, HasTokens, Lex}
use Rattle.cx_lex.specs.Lex as lex
use Rattle.cx_grammar.specs.declared.terminals.Terminal.TheVariants as t
use Rattle.cx_grammar.specs.Calyx as calyx
use Rattle.cx_grammar.specs.Parsing.{Parse}
use Rattle.cx_print.specs.Layout.{IsWritable, AreWritable}
use Rattle.cx_print.specs.Printable.{IsName, IsText, IsNumber, IfThere, IsAttribute, IsMark, IsBlock, IsAssign, IsGroupWord, IsGroup, IsWire, IsPort, IsCell, IsComponent, IsPrintable}
use Rattle.cx_print.proofs.Giving.{Gives, gives_nothing, gives_choice, gives_pair, gives_many, gives_commas, gives_behind, gives_before, gives_mapped, gives_within, gives_maybe, sign_given}
use Rattle.cx_print.proofs.HeaderGiven.{name_given, number_given, text_given, attributes_given, marks_given, length_given}
use Rattle.cx_print.proofs.GuardGiven.{bare_assign_given, assigns_given}
use Rattle.cx_print.proofs.ControlGiven.{block_given}

port_given : Gives 64 calyx.port IsPort
unfolding calyx.port
port_given = gives_pair attributes_given (gives_pair name_given (gives_behind t.Colon number_given) (λ x. IsName x.0.0 × IsNumber x.1) (λ x y p q. (p, q))) IsPort (λ x y p q. (p, q.0, q.1))

ports_given : Gives 64 calyx.ports (AllByRecursion IsPort)
unfolding calyx.ports calyx.some_ports
ports_given = gives_within t.OpenParen (gives_commas port_given) t.CloseParen

outputs_given : Gives 64 calyx.outputs (AllByRecursion IsPort)
unfolding calyx.outputs
outputs_given = gives_choice (gives_behind t.Arrow ports_given) (gives_nothing [] (AllByRecursion IsPort) tt)

numbers_given : Gives 64 calyx.numbers (AllByRecursion IsNumber)
unfolding calyx.numbers calyx.more_numbers calyx.next_number
numbers_given = gives_choice (gives_pair number_given (gives_many (gives_behind t.Comma number_given)) (AllByRecursion IsNumber) (λ x y p q. (p, q))) (gives_nothing [] (AllByRecursion IsNumber) tt)

cell_kind_given : Gives 64 calyx.cell_kind (λ x. IsName x.0.0 × AllByRecursion IsNumber x.1)
unfolding calyx.cell_kind
cell_kind_given = gives_pair name_given (gives_before (gives_within t.OpenParen numbers_given t.CloseParen) t.Semicolon) (λ x. IsName x.0.0 × AllByRecursion IsNumber x.1) (λ x y p q. (p, q))

cell_given : Gives 64 calyx.cell IsCell
unfolding calyx.cell
cell_given =
    gives_pair attributes_given
    (gives_pair name_given
    (gives_pair marks_given (gives_behind t.Equal cell_kind_given) (λ x. AllByRecursion IsMark x.0 × IsName x.1.0.0 × AllByRecursion IsNumber x.1.1) (λ x y p q. (p, q.0, q.1)))
    (λ x. IsName x.0.0 × AllByRecursion IsMark x.1.0 × IsName x.1.1.0.0 × AllByRecursion IsNumber x.1.1.1) (λ x y p q. (p, q.0, q.1, q.2)))
    IsCell (λ x y p q. (p, q.0, q.1, q.2, q.3))

cells_given : Gives 64 calyx.cells (AllByRecursion IsCell)
unfolding calyx.cells calyx.cell_list
cells_given = gives_behind t.Cells (gives_within t.OpenBrace (gives_many cell_given) t.CloseBrace)

group_word_given : Gives 64 calyx.group_word (λ x. IsGroupWord x.0)
unfolding calyx.group_word
group_word_given =
    gives_choice (gives_pair (sign_given t.Comb) (sign_given t.Group) (λ x. IsGroupWord x.0) (λ x y p q. tt))
    (gives_choice (gives_pair (sign_given t.Static) (gives_before length_given t.Group) (λ x. IsGroupWord x.0) (λ x y p q. q)) (gives_mapped (λ p. (group_words.Plain, p)) (sign_given t.Group) (λ x. IsGroupWord x.0) (λ x p. tt)))

-- behind the attributes
abbrev IsBareGroup : (List Attribute → PlainGroup) → Type 0
IsBareGroup f = (attrs : List Attribute) → AllByRecursion IsAttribute attrs → IsGroup (f attrs)

abbrev IsBareWire : (List Attribute → PlainWire) → Type 0
IsBareWire f = (attrs : List Attribute) → AllByRecursion IsAttribute attrs → IsWire (f attrs)

bare_group_given : Gives 64 calyx.bare_group IsBareGroup
unfolding calyx.bare_group
bare_group_given =
    gives_pair group_word_given
    (gives_pair name_given
    (gives_pair marks_given (gives_within t.OpenBrace assigns_given t.CloseBrace) (λ x. AllByRecursion IsMark x.0 × AllByRecursion IsAssign x.1) (λ x y p q. (p, q)))
    (λ x. IsName x.0.0 × AllByRecursion IsMark x.1.0 × AllByRecursion IsAssign x.1.1) (λ x y p q. (p, q.0, q.1)))
    IsBareGroup (λ x y p q. λ attrs h. (h, p, q.0, q.1, q.2))

wire_given : Gives 64 calyx.wire IsWire
unfolding calyx.wire
wire_given =
    gives_pair attributes_given
    (gives_choice (gives_mapped calyx.assign_wire bare_assign_given IsBareWire (λ f p. p)) (gives_mapped calyx.group_wire bare_group_given IsBareWire (λ f p. p)))
    IsWire (λ attrs f p q. q attrs p)

wires_given : Gives 64 calyx.wires_part (AllByRecursion IsWire)
unfolding calyx.wires_part calyx.wire_list
wires_given = gives_behind t.Wires (gives_within t.OpenBrace (gives_many wire_given) t.CloseBrace)

component_word_given : Gives 64 calyx.component_word (λ x. IfThere IsNumber x.0)
unfolding calyx.component_word
component_word_given =
    gives_choice (gives_pair (sign_given t.Static) (gives_before length_given t.Component) (λ x. IfThere IsNumber x.0) (λ x y p q. q)) (gives_mapped (λ p. (None, p)) (sign_given t.Component) (λ x. IfThere IsNumber x.0) (λ x p. tt))

control_given : Gives 64 calyx.control (IfThere (λ block. IsBlock block 64))
unfolding calyx.control
control_given = gives_maybe (gives_behind t.Control (block_given 64))

abbrev IsSignature : calyx.Signature → Type 0
IsSignature x = IsName x.0.0 × AllByRecursion IsMark x.1.0 × AllByRecursion IsPort x.1.1.0 × AllByRecursion IsPort x.1.1.1

abbrev IsBody : calyx.Body → Type 0
IsBody x = AllByRecursion IsCell x.0 × AllByRecursion IsWire x.1.0 × IfThere (λ (block : PlainBlock). IsBlock block 64) x.1.1

signature_given : Gives 64 calyx.signature IsSignature
unfolding calyx.signature
signature_given =
    gives_pair name_given
    (gives_pair marks_given (gives_pair ports_given outputs_given (λ x. AllByRecursion IsPort x.0 × AllByRecursion IsPort x.1) (λ x y p q. (p, q))) (λ x. AllByRecursion IsMark x.0 × AllByRecursion IsPort x.1.0 × AllByRecursion IsPort x.1.1) (λ x y p q. (p, q.0, q.1)))
    IsSignature (λ x y p q. (p, q.0, q.1, q.2))

body_given : Gives 64 calyx.body IsBody
unfolding calyx.body
body_given =
    gives_behind t.OpenBrace (gives_pair cells_given
    (gives_pair wires_given (gives_before control_given t.CloseBrace) (λ x. AllByRecursion IsWire x.0 × IfThere (λ (block : PlainBlock). IsBlock block 64) x.1) (λ x y p q. (p, q)))
    IsBody (λ x y p q. (p, q.0, q.1)))

component_given : Gives 64 calyx.component IsComponent
unfolding calyx.component
component_given =
    gives_pair attributes_given
    (gives_pair component_word_given (gives_pair signature_given body_given (λ x. IsSignature x.0 × IsBody x.1) (λ x y p q. (p, q))) (λ x. IfThere IsNumber x.0.0 × IsSignature x.1.0 × IsBody x.1.1) (λ x y p q. (p, q.0, q.1)))
    IsComponent (λ x y p q. record {
      attributes = p;
      length = q.0;
      name = q.1.0;
      marks = q.1.1;
      inputs = q.1.2;
      outputs = q.1.3;
      cells = q.2.0;
      wires = q.2.1;
      control = q.2.2;
    })

import_given : Gives 64 calyx.import (λ (i : ImportItem). IsText i.path)
unfolding calyx.import
import_given = gives_pair (sign_given t.Import) (gives_before text_given t.Semicolon) (λ (i : ImportItem). IsText i.path) (λ x y p q. q)

file_given : Gives 64 calyx.file IsPrintable
unfolding calyx.file calyx.imports calyx.components
file_given =
    gives_pair (gives_many import_given)
    (gives_pair component_given (gives_many component_given) (λ cs. (cs ≡ [] → ⊥) × AllByRecursion IsComponent cs) (λ x y p q. ((λ e. absurd (cc)), (p, q))))
    IsPrintable (λ x y p q. record { imports = p; some = q.0; components = q.1 })

-- the tokens of a text can be written
token_writable : (bytes rest : List ℕ) (kind : TokenKind) → IsToken bytes rest kind → IsWritable kind
token_writable bytes rest kind (lex.name w h) = (w.begins, w.each, h)
token_writable bytes rest kind (lex.number numeral small stops) = small
token_writable bytes rest kind (lex.literal width letter base digits numeral narrow based digital small stops) = (narrow, small)
token_writable bytes rest kind (lex.string body each short) = (each, short)
token_writable bytes rest kind (lex.sign s longest) = tt

tokens_writable : (place : Place) (text : List ℕ) (tokens : List Token) → HasTokens place text tokens → AreWritable (kinds_of tokens)
tokens_writable place text tokens lex.ended = tt
tokens_writable place text tokens (lex.gap bytes rest between more) = tokens_writable _ rest tokens more
tokens_writable place text tokens (lex.token bytes rest kind first more) = (token_writable bytes rest kind first, tokens_writable _ rest _ more)

-- the tree of a text is printable
pub tree_of_text : (text : List ℕ) (tokens : List Token) (tree : PlainTree) → Lex text tokens → Parse tokens tree → IsPrintable tree
unfolding Parse
tree_of_text text tokens tree lexed parsed = (file_given.gives tokens [] tree (tokens_writable _ text tokens lexed) parsed).0
