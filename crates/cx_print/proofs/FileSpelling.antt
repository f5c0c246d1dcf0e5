-- Ports, cells, groups, components and whole files: what each adds is read by its production as an equal part apart from places.
use Rattle.std.proofs.Common.{◌≡◌, ℕ, List, [], ◌∷◌, Option, Some, None, option_map, codes, refl, ap, map, arith}
use Rattle.std.specs.List.{AllByRecursion}
use Rattle.cx_ast.specs.declared.signs.Sign.TheVariants as signs
use Rattle.cx_ast.specs.declared.components.Attribute.{Attribute}
use Rattle.cx_ast.specs.declared.trees.ImportItem.{ImportItem}
use Rattle.cx_ast.specs.declared.wiring.GroupWord.{GroupWord}
use Rattle.cx_ast.specs.declared.wiring.GroupWord.TheVariants as group_words
use Rattle.cx_ast.specs.PlainStatements.{PlainBlock}
use Rattle.cx_ast.specs.PlainTree.{PlainPort, PlainCell, PlainAssign, PlainGroup, PlainWire, PlainComponent, PlainTree}
use Rattle.cx_ast.specs.PlainTree as wires
use Rattle.cx_grammar.specs.declared.terminals.Terminal.TheVariants as t
use Rattle.cx_grammar.specs.Grammar.{Grammar, Empty, Pair}
use Rattle.cx_grammar.specs.Calyx as calyx
use Rattle.cx_print.specs.declared.pieces.Gap.{Gap}
use Rattle.cx_print.specs.declared.pieces.Gap.TheVariants.{Tight, Space, Line}
use Rattle.cx_print.specs.Pieces.{Pieces, put_sign, put_word, put_number, more_of, with_commas, add_lines, add_from, behind_attributes, behind_marks, behind_imports, add_marks, add_group_word, add_assign, add_wire, add_port, add_ports, add_outputs, add_cell, add_component_word, add_control_part, add_section, add_component, add_import}
use Rattle.cx_print.specs.Places.{bare_import, bare_port, bare_cell, bare_assign, bare_group, bare_wire, bare_block, bare_component, without_places}
use Rattle.cx_print.specs.Printable.{IsText, IsNumber, IfThere, IsBlock, IsGroupWord, IsGroup, IsWire, IsPort, IsCell, IsComponent, IsPrintable}
use Rattle.cx_print.proofs.Adding.{Adds, AddsMany, adds_nothing, adds_pair, adds_left, adds_right, many_none, many_more, adds_several}
use Rattle.cx_print.proofs.HeaderSpelling.{name_added, number_added, text_added, keyword_added, behind_added, before_added, within_added, mapped_added, attributes_added, marks_added, length_added, commas_added}
use Rattle.cx_print.proofs.GuardSpelling.{bare_assign_added, assigns_added}
use Rattle.cx_print.proofs.ControlSpelling.{word_behind_added, block_added}

-- ports
port_added : (gap : Gap) (p : PlainPort) → IsPort p → Adds 64 calyx.port (λ q. bare_port q ≡ bare_port p) (add_port gap p)
unfolding calyx.port
port_added gap p h =
    adds_pair (attributes_added gap p.attributes h.0)
    (adds_pair (name_added (behind_attributes gap p.attributes) p.name h.1) (behind_added Tight signs.Colon t.Colon refl (number_added Space p.width h.2)) (λ x. (x.0.0 ≡ p.name) × (x.1 ≡ p.width)) (λ x y p q. (p, q)))
    _ (λ x y p q. cc)

ports_added : (gap : Gap) (ps : List PlainPort) → AllByRecursion IsPort ps → Adds 64 calyx.ports (λ qs. map bare_port qs ≡ map bare_port ps) (add_ports gap ps)
unfolding calyx.ports calyx.some_ports
ports_added gap ps h = within_added gap signs.OpenParen t.OpenParen refl (commas_added calyx.port bare_port IsPort add_port port_added ps h) Tight signs.CloseParen t.CloseParen refl

outputs_added : (ps : List PlainPort) → AllByRecursion IsPort ps → Adds 64 calyx.outputs (λ qs. map bare_port qs ≡ map bare_port ps) (add_outputs ps)
unfolding calyx.outputs
outputs_added [] h = adds_right _ (adds_nothing [] _ refl)
outputs_added (p ∷ ps) h = adds_left (Empty []) (behind_added Space signs.Arrow t.Arrow refl (ports_added Space (p ∷ ps) h))

-- cells
numbers_many : (ns : List ℕ) → AllByRecursion IsNumber ns → AddsMany 64 calyx.next_number (λ xs. xs ≡ ns) (more_of put_number ns)
unfolding calyx.next_number
numbers_many [] h = many_none _ _ refl
numbers_many (n ∷ ns) h = many_more (behind_added Tight signs.Comma t.Comma refl (number_added Space n h.0)) (numbers_many ns h.1) _ (λ x xs p q. cc)

some_numbers_added : (ns : List ℕ) → AllByRecursion IsNumber ns → Adds 64 calyx.numbers (λ xs. xs ≡ ns) (with_commas put_number ns)
unfolding calyx.numbers calyx.more_numbers
some_numbers_added [] h = adds_right _ (adds_nothing [] _ refl)
some_numbers_added (n ∷ ns) h = adds_left (Empty []) (adds_pair (number_added Tight n h.0) (adds_several (λ xs. xs) (numbers_many ns h.1) (λ xs. xs ≡ ns) (λ xs p. p)) _ (λ x xs p q. cc))

cell_added : (gap : Gap) (c : PlainCell) → IsCell c → Adds 64 calyx.cell (λ d. bare_cell d ≡ bare_cell c) (add_cell gap c)
unfolding calyx.cell calyx.cell_kind
cell_added gap c h =
    adds_pair (attributes_added gap c.attributes h.0)
    (adds_pair (name_added (behind_attributes gap c.attributes) c.name h.1)
    (adds_pair (marks_added c.marks h.2)
    (behind_added Space signs.Equal t.Equal refl
    (adds_pair (name_added Space c.kind h.3)
    (before_added (within_added Tight signs.OpenParen t.OpenParen refl (some_numbers_added c.numbers h.4) Tight signs.CloseParen t.CloseParen refl) Tight signs.Semicolon t.Semicolon refl)
    (λ x. (x.0.0 ≡ c.kind) × (x.1 ≡ c.numbers)) (λ x y p q. (p, q))))
    (λ x. (x.0 ≡ c.marks) × (x.1.0.0 ≡ c.kind) × (x.1.1 ≡ c.numbers)) (λ x y p q. (p, q.0, q.1)))
    (λ x. (x.0.0 ≡ c.name) × (x.1.0 ≡ c.marks) × (x.1.1.0.0 ≡ c.kind) × (x.1.1.1 ≡ c.numbers)) (λ x y p q. (p, q.0, q.1, q.2)))
    _ (λ x y p q. cc)

-- one after the other, each on a line of its own
module _ {A : Type 0} (g : Grammar A) (bare : A → A) (Is : A → Type 0) (add : Gap → A → Pieces → Pieces) (each : (gap : Gap) (x : A) → Is x → Adds 64 g (λ y. bare y ≡ bare x) (add gap x)) where
  lines_many : (xs : List A) → AllByRecursion Is xs → AddsMany 64 g (λ ys. map bare ys ≡ map bare xs) (add_lines add xs)
  lines_many [] h = many_none _ _ refl
  lines_many (x ∷ xs) h = many_more (each Line x h.0) (lines_many xs h.1) _ (λ y ys p q. cc)

  lines_added : (xs : List A) → AllByRecursion Is xs → Adds 64 (calyx.many g) (λ ys. map bare ys ≡ map bare xs) (add_lines add xs)
  lines_added xs h = adds_several (λ ys. ys) (lines_many xs h) _ (λ ys p. p)

  from_many : (gap : Gap) (xs : List A) → AllByRecursion Is xs → AddsMany 64 g (λ ys. map bare ys ≡ map bare xs) (add_from add gap xs)
  from_many gap [] h = many_none _ _ refl
  from_many gap (x ∷ xs) h = many_more (each gap x h.0) (from_many Line xs h.1) _ (λ y ys p q. cc)

  from_added : (gap : Gap) (xs : List A) → AllByRecursion Is xs → Adds 64 (calyx.many g) (λ ys. map bare ys ≡ map bare xs) (add_from add gap xs)
  from_added gap xs h = adds_several (λ ys. ys) (from_many gap xs h) _ (λ ys p. p)

cells_added : (cs : List PlainCell) → AllByRecursion IsCell cs → Adds 64 calyx.cells (λ ds. map bare_cell ds ≡ map bare_cell cs) (add_section add_cell (codes "cells") cs)
unfolding calyx.cells calyx.cell_list
cells_added cs h =
    word_behind_added Line (codes "cells") t.Cells (refl, refl, omega arith) refl
    (within_added Space signs.OpenBrace t.OpenBrace refl (lines_added calyx.cell bare_cell IsCell add_cell cell_added cs h) Line signs.CloseBrace t.CloseBrace refl)

-- groups
group_word_added : (gap : Gap) (w : GroupWord) → IsGroupWord w → Adds 64 calyx.group_word (λ x. x.0 ≡ w) (add_group_word gap w)
unfolding calyx.group_word
group_word_added gap group_words.Plain h = adds_right _ (adds_right _ (mapped_added (λ p. (group_words.Plain, p)) (keyword_added gap (codes "group") t.Group (refl, refl, omega arith) refl) _ (λ x p. refl)))
group_word_added gap group_words.Comb h =
    adds_left _ (adds_pair (keyword_added gap (codes "comb") t.Comb (refl, refl, omega arith) refl) (keyword_added Space (codes "group") t.Group (refl, refl, omega arith) refl) _ (λ x y p q. refl))
group_word_added gap (group_words.Timed n) h =
    adds_right _ (adds_left _ (adds_pair (keyword_added gap (codes "static") t.Static (refl, refl, omega arith) refl)
    (adds_pair (length_added n h) (keyword_added Space (codes "group") t.Group (refl, refl, omega arith) refl) (λ x. x ≡ n) (λ x y p q. p))
    _ (λ x y p q. ap (λ m. group_words.Timed m) q)))

-- wires, whose attributes are read before
LikeWire : List Attribute → PlainWire → (List Attribute → PlainWire) → Type 0
LikeWire attrs w f = (xs : List Attribute) → xs ≡ attrs → bare_wire (f xs) ≡ bare_wire w

LikeGroup : PlainGroup → (List Attribute → PlainGroup) → Type 0
LikeGroup g f = (xs : List Attribute) → xs ≡ g.attributes → bare_group (f xs) ≡ bare_group g

-- what is added behind the attributes
abbrev add_bare_group : Gap → PlainGroup → Pieces → Pieces
add_bare_group gap g before = put_sign Line signs.CloseBrace (add_lines add_assign g.assigns (put_sign Space signs.OpenBrace (add_marks g.marks (put_word Space g.name (add_group_word gap g.kind before)))))

bare_group_added : (gap : Gap) (g : PlainGroup) → IsGroup g → Adds 64 calyx.bare_group (LikeGroup g) (add_bare_group gap g)
unfolding calyx.bare_group LikeGroup
bare_group_added gap g h =
    adds_pair (group_word_added gap g.kind h.1)
    (adds_pair (name_added Space g.name h.2)
    (adds_pair (marks_added g.marks h.3) (within_added Space signs.OpenBrace t.OpenBrace refl (assigns_added g.assigns h.4) Line signs.CloseBrace t.CloseBrace refl)
    (λ x. (x.0 ≡ g.marks) × (map bare_assign x.1 ≡ map bare_assign g.assigns)) (λ x y p q. (p, q)))
    (λ x. (x.0.0 ≡ g.name) × (x.1.0 ≡ g.marks) × (map bare_assign x.1.1 ≡ map bare_assign g.assigns)) (λ x y p q. (p, q.0, q.1)))
    _ (λ x y p q. λ xs e. cc)

wire_added : (gap : Gap) (w : PlainWire) → IsWire w → Adds 64 calyx.wire (λ x. bare_wire x ≡ bare_wire w) (add_wire gap w)
unfolding calyx.wire LikeWire LikeGroup
wire_added gap (wires.Group g) h =
    adds_pair (attributes_added gap g.attributes h.0)
    (adds_right _ (mapped_added calyx.group_wire (bare_group_added (behind_attributes gap g.attributes) g h) (LikeWire g.attributes (wires.Group g)) (λ f p. λ xs e. ap (λ x. wires.Group x) (p xs e))))
    _ (λ xs f p q. q xs p)
wire_added gap (wires.Assign a) h =
    adds_pair (attributes_added gap a.attributes h.0)
    (adds_left _ (mapped_added calyx.assign_wire (bare_assign_added (behind_attributes gap a.attributes) a h) (LikeWire a.attributes (wires.Assign a)) (λ f p. λ xs e. ap (λ x. wires.Assign x) (p xs e))))
    _ (λ xs f p q. q xs p)

wires_added : (ws : List PlainWire) → AllByRecursion IsWire ws → Adds 64 calyx.wires_part (λ xs. map bare_wire xs ≡ map bare_wire ws) (add_section add_wire (codes "wires") ws)
unfolding calyx.wires_part calyx.wire_list
wires_added ws h =
    word_behind_added Line (codes "wires") t.Wires (refl, refl, omega arith) refl
    (within_added Space signs.OpenBrace t.OpenBrace refl (lines_added calyx.wire bare_wire IsWire add_wire wire_added ws h) Line signs.CloseBrace t.CloseBrace refl)

-- components
component_word_added : (gap : Gap) (length : Option ℕ) → IfThere IsNumber length → Adds 64 calyx.component_word (λ x. x.0 ≡ length) (add_component_word gap length)
unfolding calyx.component_word
component_word_added gap None h = adds_right _ (mapped_added (λ p. (None, p)) (keyword_added gap (codes "component") t.Component (refl, refl, omega arith) refl) _ (λ x p. refl))
component_word_added gap (Some n) h =
    adds_left _ (adds_pair (keyword_added gap (codes "static") t.Static (refl, refl, omega arith) refl)
    (adds_pair (length_added n h) (keyword_added Space (codes "component") t.Component (refl, refl, omega arith) refl) (λ x. x ≡ n) (λ x y p q. p))
    _ (λ x y p q. ap (λ m. Some m) q))

control_added : (control : Option PlainBlock) → IfThere (λ block. IsBlock block 64) control → Adds 64 calyx.control (λ x. option_map bare_block x ≡ option_map bare_block control) (add_control_part control)
unfolding calyx.control
control_added None h = adds_right _ (adds_nothing None _ refl)
control_added (Some block) h =
    adds_left (Empty None) (mapped_added (λ x. Some x) (word_behind_added Line (codes "control") t.Control (refl, refl, omega arith) refl (block_added block 64 h)) _ (λ x p. ap (λ y. Some y) p))

IsSignature : PlainComponent → calyx.Signature → Type 0
IsSignature c x = (x.0.0 ≡ c.name) × (x.1.0 ≡ c.marks) × (map bare_port x.1.1.0 ≡ map bare_port c.inputs) × (map bare_port x.1.1.1 ≡ map bare_port c.outputs)

IsBody : PlainComponent → calyx.Body → Type 0
IsBody c x = (map bare_cell x.0 ≡ map bare_cell c.cells) × (map bare_wire x.1.0 ≡ map bare_wire c.wires) × (option_map bare_block x.1.1 ≡ option_map bare_block c.control)

signature_added : (c : PlainComponent) → IsComponent c → Adds 64 calyx.signature (IsSignature c) (λ before. add_outputs c.outputs (add_ports (behind_marks c.marks) c.inputs (add_marks c.marks (put_word Space c.name before))))
unfolding calyx.signature IsSignature
signature_added c h =
    adds_pair (name_added Space c.name h.name)
    (adds_pair (marks_added c.marks h.marks)
    (adds_pair (ports_added (behind_marks c.marks) c.inputs h.inputs) (outputs_added c.outputs h.outputs) (λ x. (map bare_port x.0 ≡ map bare_port c.inputs) × (map bare_port x.1 ≡ map bare_port c.outputs)) (λ x y p q. (p, q)))
    (λ x. (x.0 ≡ c.marks) × (map bare_port x.1.0 ≡ map bare_port c.inputs) × (map bare_port x.1.1 ≡ map bare_port c.outputs)) (λ x y p q. (p, q.0, q.1)))
    _ (λ x y p q. (p, q.0, q.1, q.2))

body_added : (c : PlainComponent) → IsComponent c
    → Adds 64 calyx.body (IsBody c) (λ before. put_sign Line signs.CloseBrace (add_control_part c.control (add_section add_wire (codes "wires") c.wires (add_section add_cell (codes "cells") c.cells (put_sign Space signs.OpenBrace before)))))
unfolding calyx.body IsBody
body_added c h =
    behind_added Space signs.OpenBrace t.OpenBrace refl
    (adds_pair (cells_added c.cells h.cells)
    (adds_pair (wires_added c.wires h.wires) (before_added (control_added c.control h.control) Line signs.CloseBrace t.CloseBrace refl) (λ x. (map bare_wire x.0 ≡ map bare_wire c.wires) × (option_map bare_block x.1 ≡ option_map bare_block c.control)) (λ x y p q. (p, q)))
    _ (λ x y p q. (p, q.0, q.1)))

component_added : (gap : Gap) (c : PlainComponent) → IsComponent c → Adds 64 calyx.component (λ d. bare_component d ≡ bare_component c) (add_component gap c)
unfolding calyx.component IsSignature IsBody
component_added gap c h =
    adds_pair (attributes_added gap c.attributes h.attributes)
    (adds_pair (component_word_added (behind_attributes gap c.attributes) c.length h.length)
    (adds_pair (signature_added c h) (body_added c h) (λ x. IsSignature c x.0 × IsBody c x.1) (λ x y p q. (p, q)))
    (λ x. (x.0.0 ≡ c.length) × IsSignature c x.1.0 × IsBody c x.1.1) (λ x y p q. (p, q.0, q.1)))
    _ (λ x y p q. cc)

-- files
import_added : (gap : Gap) (i : ImportItem) → IsText i.path → Adds 64 calyx.import (λ j. bare_import j ≡ bare_import i) (add_import gap i)
unfolding calyx.import
import_added gap i h =
    adds_pair (keyword_added gap (codes "import") t.Import (refl, refl, omega arith) refl) (before_added (text_added Space i.path h) Tight signs.Semicolon t.Semicolon refl) _ (λ x y p q. cc)

some_components_added : (gap : Gap) (cs : List PlainComponent) → (cs ≡ [] → ⊥) → AllByRecursion IsComponent cs
    → Adds 64 (Pair (λ c ds. c ∷ ds) calyx.component calyx.components) (λ ds. map bare_component ds ≡ map bare_component cs) (add_from add_component gap cs)
unfolding calyx.components
some_components_added gap [] some h = absurd (some refl)
some_components_added gap (c ∷ cs) some h = adds_pair (component_added gap c h.0) (from_added calyx.component bare_component IsComponent add_component component_added Line cs h.1) _ (λ x xs p q. cc)

pub tree_added : (tree : PlainTree) → IsPrintable tree → Adds 64 calyx.file (λ x. without_places x ≡ without_places tree) (λ before. add_from add_component (behind_imports tree.imports) tree.components (add_from add_import Tight tree.imports before))
unfolding calyx.file calyx.imports
tree_added tree h =
    adds_pair (from_added calyx.import bare_import (λ i. IsText i.path) add_import import_added Tight tree.imports h.imports) (some_components_added (behind_imports tree.imports) tree.components h.some h.components) _ (λ x y p q. cc)
