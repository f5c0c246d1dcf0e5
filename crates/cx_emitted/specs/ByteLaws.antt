-- THE LAWS: how large the module of a primitive is at most, and the text of a design.
use Rattle.std.specs.Prelude.{◌≡◌, ℕ, ◌+◌, ◌*◌, ◌<◌, ◌≤◌, true, List, length}
use Rattle.cx_text.specs.declared.limits.TheConstants.{COMPILE_SIZE}
use Rattle.cx_prim.specs.Table.{PrimitiveRow, HasRow}
use Rattle.cx_meaning.specs.Active.{Owned, source_order}
use Rattle.cx_meaning.specs.Designs.{PlainDesign, component_at}
use Rattle.cx_text.specs.Members.{In}
use Rattle.cx_rules.specs.Flat.{IsFlat}
use Rattle.cx_rules.specs.Accepted.{IsAccepted}
use Rattle.cx_rules.specs.Sizes.{design_size, weight_of}
use Rattle.cx_rules.specs.Wellformed.{IsDesign}
use Rattle.cx_vtree.specs.InstanceTree.{declared_nets}
use Rattle.cx_vtree.specs.Layout.{is_name}
use Rattle.cx_vtree.specs.Lines.{lines_text}
use Rattle.cx_vtree.specs.Plain.{PlainModule, PlainSource}
use Rattle.cx_vtree.specs.Sound.{is_sound}
use Rattle.cx_vtree.specs.Spelling.{module_lines, text_of}
use Rattle.cx_holes.specs.Inlining.{inlined}
use Rattle.cx_static.specs.Lowering.{lowered_of}
use Rattle.cx_wiring.specs.Nesting.{HasParts}
use Rattle.cx_wiring.specs.Wiring.{net_of}
use Rattle.cx_vmods.specs.Modules.{module_of}
use Rattle.cx_emit.specs.Sources.{source_of}
use Rattle.cx_emitted.specs.Shallow.{IsShallow}

-- the text of a module
abbrev pub module_text : PlainModule → List ℕ
module_text m = lines_text (module_lines m)

-- the nets in it: its ports, wires and registers
abbrev pub nets_in : PlainModule → ℕ
nets_in m = length m.ports + length (declared_nets m.decls)

-- A SMALL MODULE has at most 28 nets, and 2,816 bytes beside its name
pub record IsSmall (m : PlainModule) : Type 0 where
  pub nets : nets_in m ≤ 28
  pub bytes : length (module_text m) ≤ length m.name + 2816

-- the module of each primitive of the table is small under each name, whatever its numbers are
abbrev pub PrimitivesAreSmall : Type 0
PrimitivesAreSmall = (p : PrimitiveRow) (name : List ℕ) → HasRow p → is_name name ≡ true → IsSmall (module_of p name)

-- no part of a guard is Always, which stands for an assignment without a guard
abbrev pub HasGuards : PlainDesign → Type 0
HasGuards d =
    (k : ℕ) → k < length d.components → (o : Owned) → In (source_order (component_at d k)) o
    → HasParts o.assign.guard

-- FEW BYTES: 4,096 for each unit of the design's size and 256 for each unit of its weight
abbrev pub HasFewBytes : PlainDesign → PlainSource → Type 0
HasFewBytes d source = length (text_of source) ≤ 4096 * design_size d + 256 * weight_of d

-- the source that the passes make of an accepted design within the size has few bytes where it is sound, if its
-- guards have such parts and no statement stands within more than 64 static ifs
abbrev pub TextsAreSmall : Type 0
TextsAreSmall =
    (d : PlainDesign) → IsDesign d → IsFlat d → IsAccepted d → design_size d ≤ COMPILE_SIZE → HasGuards d
    → IsShallow d
    → is_sound (source_of (inlined (net_of (lowered_of d)))) ≡ true
    → HasFewBytes d (source_of (inlined (net_of (lowered_of d))))
