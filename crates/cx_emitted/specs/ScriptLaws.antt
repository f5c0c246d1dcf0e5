-- What is said of the source that the passes make of an accepted design.
use Rattle.std.specs.Prelude.{◌≡◌, true}
use Rattle.cx_meaning.specs.Designs.{PlainDesign}
use Rattle.cx_rules.specs.Flat.{IsFlat}
use Rattle.cx_rules.specs.Accepted.{IsAccepted}
use Rattle.cx_rules.specs.Wellformed.{IsDesign}
use Rattle.cx_vtree.specs.Sound.{is_sound}
use Rattle.cx_static.specs.Lowering.{lowered_of}
use Rattle.cx_wiring.specs.Wiring.{net_of}
use Rattle.cx_holes.specs.Inlining.{inlined}
use Rattle.cx_emit.specs.Sources.{source_of}
use Rattle.cx_emitted.specs.Always.{RealisesAlways}

-- where it is sound, it realises the design always
abbrev pub SourcesRealiseAlways : Type 0
SourcesRealiseAlways =
    (d : PlainDesign) → IsDesign d → IsFlat d → IsAccepted d
    → is_sound (source_of (inlined (net_of (lowered_of d)))) ≡ true
    → RealisesAlways d (source_of (inlined (net_of (lowered_of d))))
