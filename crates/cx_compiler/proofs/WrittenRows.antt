-- The net and the source that are written of a design, pass by pass, are those of the definitions.
use Rattle.std.proofs.Common.{◌≡◌, ℕ, List, Result, Ok, Err, IfOk, sym, ap, ◌∙◌, subst}
use Rattle.cx_meaning.specs.Designs.{PlainDesign}
use Rattle.cx_net.specs.Nets.{PlainNet}
use Rattle.cx_static.specs.Islands.{PlainLowereds}
use Rattle.cx_static.specs.Lowering.{lowered_of}
use Rattle.cx_wiring.specs.Wiring.{net_of}
use Rattle.cx_holes.specs.Inlining.{inlined}
use Rattle.cx_emit.specs.Emitted.{CanBeEmitted}
use Rattle.cx_emit.specs.Sources.{source_of}
use Rattle.cx_vtree.specs.Plain.{PlainSource}
use Rattle.cx_compiler.specs.Simulated.{IsVerilogOf}
use Rattle.cx_compiler.specs.Compiled.{written_net, written_source}

-- pass by pass
pub net_passed : {X F : Type 0} (made : X → PlainNet) (d : PlainDesign) (lowered : PlainLowereds) (net : PlainNet) (r : Result X F) → lowered ≡ lowered_of d → net ≡ net_of lowered
    → IfOk r (λ x. made x ≡ inlined net) → IfOk r (λ x. made x ≡ written_net d)
net_passed made d lowered net (Ok x) l n own = own ∙ ap (λ m. inlined m) (n ∙ ap (λ m. net_of m) l)
net_passed made d lowered net (Err fault) l n own = tt

pub source_passed : {X F : Type 0} (made : X → PlainSource) (d : PlainDesign) (net : PlainNet) (r : Result X F) → net ≡ written_net d
    → IfOk r (λ x. made x ≡ source_of net) → IfOk r (λ x. made x ≡ written_source d)
source_passed made d net (Ok x) n own = own ∙ ap (λ m. source_of m) n
source_passed made d net (Err fault) n own = tt

-- the net before the last pass can be emitted
pub emits_passed : (d : PlainDesign) (net : PlainNet) → net ≡ written_net d → CanBeEmitted (written_net d) → CanBeEmitted net
emits_passed d net n can = subst CanBeEmitted (sym n) can

-- and the text that spells it
pub spelt_so : {X F : Type 0} (bytes : X → List ℕ) (d : PlainDesign) (source : PlainSource) (r : Result X F) → source ≡ written_source d
    → IfOk r (λ x. IsVerilogOf (bytes x) source) → IfOk r (λ x. IsVerilogOf (bytes x) (written_source d))
spelt_so bytes d source (Ok x) same h = subst (IsVerilogOf (bytes x)) same h
spelt_so bytes d source (Err fault) same h = tt
