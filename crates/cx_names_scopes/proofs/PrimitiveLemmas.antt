-- Primitives by name, and their ports.
use Rattle.std.proofs.Common.{◌≡◌, ℕ, ◌+◌, Bool, true, false, not, ◌&&◌, ◌||◌, List, [], ◌∷◌, None, Some, cond, map, drop, slice_get, refl, sym, ◌∙◌, ap, true≢false}
use Rattle.cx_prim.specs.declared.names.PrimitiveName.{PrimitiveName}
use Rattle.cx_prim.specs.declared.names.PrimitiveName.TheVariants.{Timer}
use Rattle.cx_prim.specs.declared.ports.PortRow.{PortRow}
use Rattle.cx_prim.specs.PortNames.{text_of}
use Rattle.cx_prim.specs.PrimitiveNames.{name_text, IsNamed}
use Rattle.cx_prim.specs.Rows.{is_output_side}
use Rattle.cx_ast.specs.PlainTree.{PlainTree, PlainComponent}
use Rattle.cx_numbering.specs.Names.{same_name, is_among, primitive_among, primitive_of, primitive_names}
use Rattle.cx_numbering.specs.NameRules.{output_rows}
use Rattle.cx_names_scopes.proofs.NameLemmas.{drop_found}
use Rattle.cx_numbering.proofs.NamesLemmas.{same_name-true, is_among-cons}

is_timer : PrimitiveName → Bool
is_timer Timer = true
is_timer _ = false

are_nameable : List PrimitiveName → Bool
unfolding is_timer
are_nameable [] = true
are_nameable (p ∷ ps) = not (is_timer p) && are_nameable ps

absent_among : (text : List ℕ) (ps : List PrimitiveName) → are_nameable ps ≡ true → ((name : PrimitiveName) → IsNamed name text → ⊥) → primitive_among text ps ≡ None
unfolding is_timer are_nameable
absent_among text [] nameable none = refl
absent_among text (p ∷ ps) nameable none = by (is_timer p) (same_name (name_text p) text) refl refl nameable (absent_among text ps)
  where
    by : (t b : Bool) → is_timer p ≡ t → same_name (name_text p) text ≡ b → not t && are_nameable ps ≡ true → (are_nameable ps ≡ true → ((name : PrimitiveName) → IsNamed name text → ⊥) → primitive_among text ps ≡ None)
        → cond b (Some p) (primitive_among text ps) ≡ None
    by true b q r h rest = absurd (true≢false (sym h))
    by false false q r h rest = rest h none
    by false true q r h rest = absurd (none p (record { spelled = same_name-true (name_text p) text r; nameable = λ e. true≢false (ap is_timer (sym e) ∙ q) }))

pub primitive_absent : (text : List ℕ) → ((name : PrimitiveName) → IsNamed name text → ⊥) → primitive_of text ≡ None
unfolding is_timer are_nameable
primitive_absent text none = absent_among text primitive_names refl none

abbrev pub texts : List PortRow → List (List ℕ)
texts ports = map (λ port. text_of port.name) ports

-- the port of a number has the name, or has not
pub port_first : (ports : List PortRow) (i : ℕ) (port : PortRow) (name text : List ℕ) (all : Bool) → slice_get ports i ≡ Some port → text ≡ text_of port.name → same_name text name ≡ true
    → is_among name (texts (drop i ports)) ≡ all → true ≡ all
port_first ports i port name text all found spelled same behind =
    sym (ap (λ b. b || is_among name (texts (drop (i + 1) ports))) (ap (λ t. same_name t name) (sym spelled) ∙ same))
    ∙ sym (is_among-cons name (text_of port.name) (texts (drop (i + 1) ports)))
    ∙ ap (λ ps. is_among name (texts ps)) (sym (drop_found ports i port found))
    ∙ behind

pub port_other : (ports : List PortRow) (i : ℕ) (port : PortRow) (name text : List ℕ) (all : Bool) → slice_get ports i ≡ Some port → text ≡ text_of port.name → same_name text name ≡ false
    → is_among name (texts (drop i ports)) ≡ all → is_among name (texts (drop (i + 1) ports)) ≡ all
port_other ports i port name text all found spelled other behind =
    sym (ap (λ b. b || is_among name (texts (drop (i + 1) ports))) (ap (λ t. same_name t name) (sym spelled) ∙ other))
    ∙ sym (is_among-cons name (text_of port.name) (texts (drop (i + 1) ports)))
    ∙ ap (λ ps. is_among name (texts ps)) (sym (drop_found ports i port found))
    ∙ behind

module _ (tree : PlainTree) (part : PlainComponent) where
  abbrev outputs : List PortRow → List (List ℕ)
  outputs ports = output_rows tree part ports

  among_outputs : (port : PortRow) (rest : List PortRow) (name : List ℕ) → is_among name (outputs (port ∷ rest)) ≡ ((is_output_side port.side && same_name (text_of port.name) name) || is_among name (outputs rest))
  among_outputs port rest name = by (is_output_side port.side)
    where
      by : (b : Bool) → is_among name (cond b (text_of port.name ∷ outputs rest) (outputs rest)) ≡ ((b && same_name (text_of port.name) name) || is_among name (outputs rest))
      by true = is_among-cons name (text_of port.name) (outputs rest)
      by false = refl

  pub output_first : (ports : List PortRow) (i : ℕ) (port : PortRow) (name : List ℕ) (all : Bool) → slice_get ports i ≡ Some port → (is_output_side port.side && same_name (text_of port.name) name) ≡ true
      → is_among name (outputs (drop i ports)) ≡ all → true ≡ all
  output_first ports i port name all found same behind =
      sym (ap (λ b. b || is_among name (outputs (drop (i + 1) ports))) same)
      ∙ sym (among_outputs port (drop (i + 1) ports) name)
      ∙ ap (λ ps. is_among name (outputs ps)) (sym (drop_found ports i port found))
      ∙ behind

  pub output_other : (ports : List PortRow) (i : ℕ) (port : PortRow) (name : List ℕ) (all : Bool) → slice_get ports i ≡ Some port → (is_output_side port.side && same_name (text_of port.name) name) ≡ false
      → is_among name (outputs (drop i ports)) ≡ all → is_among name (outputs (drop (i + 1) ports)) ≡ all
  output_other ports i port name all found other behind =
      sym (ap (λ b. b || is_among name (outputs (drop (i + 1) ports))) other)
      ∙ sym (among_outputs port (drop (i + 1) ports) name)
      ∙ ap (λ ps. is_among name (outputs ps)) (sym (drop_found ports i port found))
      ∙ behind
