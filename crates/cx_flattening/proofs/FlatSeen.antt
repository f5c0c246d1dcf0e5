-- WHAT IS SEEN OF ALL CELLS: in the host each port of each cell, and of those of static children at every depth, is seen as in the tree.
use Rattle.std.proofs.Common.{◌≡◌, ℕ, suc, ◌+◌, ◌<◌, ⊎_elim, List, [], length, Some, None, sym, ap, ◌∙◌, arith}
use Rattle.cx_meaning.specs.declared.ports.PortRef.{PortRef}
use Rattle.cx_meaning.specs.declared.ports.PortRef.TheVariants as ports
use Rattle.cx_meaning.specs.Designs.{PlainAssign, PlainComponent}
use Rattle.cx_meaning.specs.Instances.{Instance, Node, Cells, no_cells, a_primitive, an_instance, OfRow, OfInstance, part_of, cells_of, cell_at, State}
use Rattle.cx_meaning.specs.Active.{Active}
use Rattle.cx_meaning.specs.Sights.{Held, seen}
use Rattle.cx_meaning.proofs.InstancesLemmas.{row_instance}
use Rattle.cx_rules.specs.Circles.{IsAcyclic, AcyclicBelow}
use Rattle.cx_flattening.specs.Deeds.{Deed, deeds_below}
use Rattle.cx_flattening.specs.Flattened.{kept_at, flat_kids}
use Rattle.cx_flattening.specs.Acting.{fed_by, ActsAs, AllActAs}
use Rattle.cx_flattening.specs.Levels.{IsPlayed}
use Rattle.cx_flattening.specs.Fair.{AllFair, AllFairBelow}
use Rattle.cx_flattening.specs.Seeing.{CellsSeen, AllSeen, NoCircle, NoneBelow}
use Rattle.cx_flattening.proofs.PortLemmas.{own-kept}
use Rattle.cx_flattening.proofs.Standing.{within_row, fair_own}
use Rattle.cx_flattening.proofs.LevelSights.{kid-row}
use Rattle.cx_flattening.proofs.FlatOutputs.{kids_seen}
use Rattle.cx_flattening.proofs.FlatSights.{played_found}
use Rattle.cx_flattening.proofs.FlatChildren.{idle_played, fed_played}

-- a child that is fed gets inputs that may be asked for
abbrev pub Alive : Instance → List Deed → (ℕ → Type 0) → Type 0
Alive i deeds inputs = (d : ℕ) (sources : List PlainAssign) → fed_by d deeds ≡ Some sources → (n : ℕ) → n < length (part_of i).inputs → inputs n

pub none_fed : (d : ℕ) (deeds : List Deed) (sources : List PlainAssign) → deeds ≡ [] → fed_by d deeds ≡ Some sources → ⊥
none_fed d deeds sources e f = let none : None ≡ Some sources = sym (ap (fed_by d) e) ∙ f in cc

module _ (host : Instance) (host_held : Held) (more : Active) (z : State) (acyclic : IsAcyclic host more) (deeper : AcyclicBelow (cells_of host)) where
  mutual
    pub cells_seen : (i : Instance) → AllFair i → (first : ℕ) (f : PortRef → PortRef) (held : Held) (act inner : Active) (s : State) (inputs outputs holes : ℕ → Type 0)
        → IsPlayed host host_held more z i first f held act inner s inputs outputs holes → (deeds : List Deed) → ActsAs i act deeds inner → NoCircle i act deeds → Alive i deeds inputs
        → CellsSeen (seen host host_held more z) i first held act deeds s
    cells_seen (Node part cells) fair first f held act inner s inputs outputs holes played deeds does calm alive =
        all_seen cells part cells 0 (λ n. ap (cell_at cells) (plus n)) fair fair.1 first f held act inner s inputs outputs holes played deeds does.1 calm calm.2 alive
      where
        plus : (a : ℕ) → a ≡ 0 + a
        plus a = omega arith

    all_seen : (rest : Cells) (part : PlainComponent) (cells : Cells) (c : ℕ) → ((n : ℕ) → cell_at rest n ≡ cell_at cells (c + n)) → AllFair (Node part cells) → AllFairBelow rest
        → (first : ℕ) (f : PortRef → PortRef) (held : Held) (act inner : Active) (s : State) (inputs outputs holes : ℕ → Type 0)
        → IsPlayed host host_held more z (Node part cells) first f held act inner s inputs outputs holes → (deeds : List Deed) → AllActAs (flat_kids cells) part rest c deeds inner
        → NoCircle (Node part cells) act deeds → NoneBelow rest c deeds → Alive (Node part cells) deeds inputs
        → AllSeen (seen host host_held more z) (flat_kids cells) part rest c first (seen (Node part cells) held act s) deeds s
    all_seen no_cells part cells c tail fair fair_rest first f held act inner s inputs outputs holes played deeds does calm calm_rest alive = tt
    all_seen (a_primitive row rest) part cells c tail fair fair_rest first f held act inner s inputs outputs holes played deeds does calm calm_rest alive = (
      λ p.
          ap (seen host host_held more z) (sym (ap f (own-kept (flat_kids cells) part c p (kid-row cells c row at)) ∙ played.cells (kept_at (flat_kids cells) c) p))
          ∙ played_found part cells fair.0 (kids_seen cells fair.1) host host_held more z acyclic deeper first f held act inner s inputs outputs holes played calm.0 calm.1 (ports.Cell c p)
          (within_row (Node part cells) fair.0 c row at, λ child e static. absurd (row_instance row child (sym at ∙ e))),
      all_seen rest part cells (suc c) (λ n. tail (suc n) ∙ ap (cell_at cells) (plus c n)) fair fair_rest first f held act inner s inputs outputs holes played deeds does calm calm_rest alive,
    )
      where
        plus : (a b : ℕ) → a + suc b ≡ suc a + b
        plus a b = omega arith

        zero_plus : (a : ℕ) → a + 0 ≡ a
        zero_plus a = omega arith

        at : cell_at cells c ≡ OfRow row
        at = ap (cell_at cells) (sym (zero_plus c)) ∙ sym (tail 0)
    all_seen (an_instance child rest) part cells c tail fair fair_rest first f held act inner s inputs outputs holes played deeds does calm calm_rest alive = (
      λ static.
          let h = does.0 static in
          ⊎_elim
          (λ idle. cells_seen child fair_rest.0 _ _ _ _ h.0 _ _ _ _
          (idle_played part cells fair.0 (kids_seen cells fair.1) host host_held more z acyclic deeper first f held act inner s inputs outputs holes played c child at static (fair_own child fair_rest.0) deeds calm.0 calm.1 alive h.0 h.2 idle)
          (deeds_below c deeds) h.2 (calm_rest.0 static) (λ d sources e n less. none_fed d (deeds_below c deeds) sources idle.none_below e))
          (λ fed. cells_seen child fair_rest.0 _ _ _ _ h.0 _ _ _ _
          (fed_played part cells fair.0 (kids_seen cells fair.1) host host_held more z acyclic deeper first f held act inner s inputs outputs holes played c child at static (fair_own child fair_rest.0) deeds calm.0 calm.1 alive h.0 h.2 fed)
          (deeds_below c deeds) h.2 (calm_rest.0 static) (λ d sources e n less. less))
          h.3,
      all_seen rest part cells (suc c) (λ n. tail (suc n) ∙ ap (cell_at cells) (plus c n)) fair fair_rest.1 first f held act inner s inputs outputs holes played deeds does.1 calm calm_rest.1 alive,
    )
      where
        plus : (a b : ℕ) → a + suc b ≡ suc a + b
        plus a b = omega arith

        zero_plus : (a : ℕ) → a + 0 ≡ a
        zero_plus a = omega arith

        at : cell_at cells c ≡ OfInstance child
        at = ap (cell_at cells) (sym (zero_plus c)) ∙ sym (tail 0)
