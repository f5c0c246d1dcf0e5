-- One step over ports that are known.
use Rattle.std.proofs.Common.{◌≡◌, ℕ, zero, suc, refl, sym, subst}
use Rattle.cx_meaning.specs.declared.ports.PortRef.{PortRef}
use Rattle.cx_meaning.specs.declared.ports.PortRef.TheVariants as ports
use Rattle.cx_meaning.specs.Instances.{Instance, Node, Cells, no_cells, a_primitive, an_instance, OfInstance, cells_of, cell_at, State, under}
use Rattle.cx_meaning.specs.Active.{Active, nothing}
use Rattle.cx_meaning.specs.Sights.{Look, Below, Held, unheld, step, Sees, by_step, seen}
use Rattle.cx_meaning.proofs.SightsLemmas.{one_sight}
use Rattle.cx_rules.specs.Footprints.{Leads}
use Rattle.cx_rules.specs.Circles.{IsAcyclic, AreAcyclic, AcyclicBelow}
use Rattle.cx_rules.proofs.FoundLemmas.{needs_leads, seen_found}

pub child_acyclic : (cells : Cells) → AcyclicBelow cells → (c : ℕ) (child : Instance) → cell_at cells c ≡ OfInstance child → AreAcyclic child
child_acyclic no_cells below c child e = cc
child_acyclic (a_primitive row rest) below zero child e = cc
child_acyclic (a_primitive row rest) below (suc c) child e = child_acyclic rest below c child e
child_acyclic (an_instance one rest) below zero child e = subst AreAcyclic (let f : OfInstance one ≡ OfInstance child = e in cc) below.0
child_acyclic (an_instance one rest) below (suc c) child e = child_acyclic rest below.1 c child e

output_found : (child : Instance) → AreAcyclic child → (s : State) (n : ℕ) → Sees child unheld nothing s (ports.Output n) (seen child unheld nothing s (ports.Output n))
output_found (Node part cells) a s n = seen_found (Node part cells) unheld nothing s a.0 a.1 (ports.Output n)

pub decided : (i : Instance) (held : Held) (act : Active) (s : State) (look : Look) (below : Below) (p : PortRef)
    → IsAcyclic i act → AcyclicBelow (cells_of i)
    → ((q : PortRef) → Leads i act p q → look q ≡ seen i held act s q)
    → ((c port n : ℕ) (child : Instance) → p ≡ ports.Cell c port → cell_at (cells_of i) c ≡ OfInstance child → below c n ≡ seen child unheld nothing (under c s) (ports.Output n))
    → step i held act s look below p ≡ seen i held act s p
decided i held act s look below p acyclic deeper known children =
    one_sight
    (by_step look below
    (λ q need. subst (λ x. Sees i held act s q x) (sym (known q (needs_leads i act look p q need))) (seen_found i held act s acyclic deeper q))
    (λ c port n child e at. subst (λ x. Sees child unheld nothing (under c s) (ports.Output n) x) (sym (children c port n child e at)) (output_found child (child_acyclic (cells_of i) deeper c child at) (under c s) n))
    refl)
    (seen_found i held act s acyclic deeper p)
