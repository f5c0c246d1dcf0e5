-- The first of some faults.
use Rattle.std.proofs.Common.{◌≡◌, List, [], ◌∷◌, ◌++◌, Option, Some, None, refl, sym, ap, ◌∙◌}
use Rattle.cx_meaning.specs.declared.ports.PortRef.{PortRef}
use Rattle.cx_meaning.specs.declared.sights.Seen.{Seen}
use Rattle.cx_meaning.specs.declared.sights.Seen.TheVariants as sights
use Rattle.cx_meaning.specs.Sights.{Look}
use Rattle.cx_meaning.specs.Cycles.{Fault}
use Rattle.cx_meaning.specs.Islands.{fault_of, first_unclear}
use Rattle.cx_interp_islands.specs.Asked.{earlier_fault}

pub earlier_fault_assoc : (a b c : Option Fault) → earlier_fault (earlier_fault a b) c ≡ earlier_fault a (earlier_fault b c)
earlier_fault_assoc None b c = refl
earlier_fault_assoc (Some a) b c = refl

earlier_fault-fault_of : (port : PortRef) (seen : Seen) (a b : Option Fault) → earlier_fault (fault_of port seen a) b ≡ fault_of port seen (earlier_fault a b)
earlier_fault-fault_of port (sights.Value v) a b = refl
earlier_fault-fault_of port sights.Conflict a b = refl
earlier_fault-fault_of port sights.Undefined a b = refl

pub first_unclear-append : (look : Look) (ports more : List PortRef) → first_unclear look (ports ++ more) ≡ earlier_fault (first_unclear look ports) (first_unclear look more)
first_unclear-append look [] more = refl
first_unclear-append look (port ∷ ports) more =
    ap (fault_of port (look port)) (first_unclear-append look ports more)
    ∙ sym (earlier_fault-fault_of port (look port) (first_unclear look ports) (first_unclear look more))

-- what some ports tell after others is what all tell
pub told_after : (look : Look) (fault : Option Fault) (ports more : List PortRef)
    → earlier_fault (earlier_fault fault (first_unclear look ports)) (first_unclear look more) ≡ earlier_fault fault (first_unclear look (ports ++ more))
told_after look fault ports more =
    earlier_fault_assoc fault (first_unclear look ports) (first_unclear look more)
    ∙ ap (earlier_fault fault) (sym (first_unclear-append look ports more))
