-- THE PORTS AT WHICH STATIC IFS LOOK are seen alike in each instance of the tree; so samples say the same, and the first port that is no value is
-- the one that stands for it.
use Rattle.std.proofs.Common.{◌≡◌, ℕ, zero, suc, ◌+◌, List, [], ◌∷◌, map, Option, Some, None, refl, sym, ap, ◌∙◌, subst, arith}
use Rattle.std.specs.Prelude.{nat_eq, if◌then◌else◌}
use Rattle.cx_meaning.specs.declared.ports.PortRef.{PortRef}
use Rattle.cx_meaning.specs.declared.sights.Seen.{Seen}
use Rattle.cx_meaning.specs.declared.sights.Seen.TheVariants as sights
use Rattle.cx_meaning.specs.Truths.{truth_of}
use Rattle.cx_meaning.specs.Instances.{Instance, Node, Cells, no_cells, a_primitive, an_instance, At, Nothing, OfRow, OfInstance, part_of, cells_of, cell_at, child_at, Path, State, under}
use Rattle.cx_meaning.specs.Sights.{Held, unheld}
use Rattle.cx_meaning.specs.Cycles.{Fault}
use Rattle.cx_meaning.specs.Islands.{is_one, fault_of}
use Rattle.cx_rewrites.specs.Renaming.{renamed}
use Rattle.cx_rewrites.specs.Tallies.{none}
use Rattle.cx_rewrites.specs.Standing.{renumbered, renumbered_below}
use Rattle.cx_flattening.specs.Events.{Spot}
use Rattle.cx_flattening.specs.Deeds.{History, and_now, fault_in, or_later, first_unclear}
use Rattle.cx_flattening.specs.Whole.{look_below, look_at}
use Rattle.cx_sharing.specs.Giving.{new_cell}
use Rattle.cx_sharing.specs.Following.{SharedStands, shared_fault}
use Rattle.cx_sharing.proofs.TwinLemmas.{row_twin, nothing_twin}
use Rattle.cx_sharing.proofs.TwinStates.{child_renumbered, child_is, child_state}
use Rattle.cx_sharing.proofs.SharedLeaves.{bare_seen}
use Rattle.cx_sharing.proofs.SharedCycles.{faulted}
use Rattle.cx_sharing.proofs.WholeTwins.{Twins, twins, Remain, none_left, a_row_stays, a_row_goes, a_child}
use Rattle.cx_sharing.proofs.WholeMoved.{number_at, moved_spot, Says}

-- what is looked at below a cell, by what stands there
abbrev looked : At → State → Path → PortRef → Seen
looked Nothing s at p = sights.Undefined
looked (OfRow row) s at p = sights.Undefined
looked (OfInstance child) s at p = look_below child unheld s at p

look_is : (cells : Cells) (c : ℕ) (s : State) (at : Path) (p : PortRef) → look_at cells c s at p ≡ looked (cell_at cells c) s at p
look_is no_cells c s at p = refl
look_is (a_primitive row rest) zero s at p = refl
look_is (a_primitive row rest) (suc c) s at p = look_is rest c s at p
look_is (an_instance child rest) zero s at p = refl
look_is (an_instance child rest) (suc c) s at p = look_is rest c s at p

-- A CHILD of twins
pub record TwinChild (i j : Instance) (c : ℕ) (child : Instance) : Type 0 where
  pub twin : Instance
  pub there : cell_at (cells_of j) (new_cell (part_of i) c) ≡ OfInstance twin
  pub both : Twins child twin

pub twin_child : {i j : Instance} → Twins i j → (c : ℕ) (child : Instance) → cell_at (cells_of i) c ≡ OfInstance child → TwinChild i j c child
twin_child (twins {part} {other} {cells} {kin} twin fit invoked remain) c child at = let start : c ≡ 0 + c = omega arith in subst (λ n. TwinChild (Node part cells) (Node other kin) n child) (sym start) (found remain c child at)
  where
    found : {i j : Instance} {first : ℕ} {list left : Cells} → Remain i j first list left → (n : ℕ) (kid : Instance) → cell_at list n ≡ OfInstance kid → TwinChild i j (first + n) kid
    found none_left n kid e = absurd (cc)
    found (a_row_stays row other_row on rest) zero kid e = absurd (cc)
    found {i} {j} {first} (a_row_stays row other_row on rest) (suc n) kid e = let next : suc first + n ≡ first + suc n = omega arith in subst (λ k. TwinChild i j k kid) next (found rest n kid e)
    found (a_row_goes row off rest) zero kid e = absurd (cc)
    found {i} {j} {first} (a_row_goes row off rest) (suc n) kid e = let next : suc first + n ≡ first + suc n = omega arith in subst (λ k. TwinChild i j k kid) next (found rest n kid e)
    found {i} {j} {first} (a_child one other_one here there lone both rest) zero kid e =
        let same : one ≡ kid = cc in
        let start : first ≡ first + 0 = omega arith in
        subst (λ k. TwinChild i j k kid) start (record { twin = other_one; there = there; both = subst (λ x. Twins x other_one) same both })
    found {i} {j} {first} (a_child one other_one here there lone both rest) (suc n) kid e = let next : suc first + n ≡ first + suc n = omega arith in subst (λ k. TwinChild i j k kid) next (found rest n kid e)

-- EACH PORT of each instance, under the continuous assignments alone
pub looks_alike : (at : Path) {i j : Instance} → Twins i j → (held : Held) (s z : State) → SharedStands i s z → (p : PortRef)
    → look_below j held z (renumbered new_cell i at) (renamed (number_at i at) p) ≡ look_below i held s at p
looks_alike [] (twins {part} {other} {cells} {kin} twin fit invoked remain) held s z stands p = bare_seen (Node part cells) (Node other kin) twin fit held p none s z stands
looks_alike (c ∷ at) (twins {part} {other} {cells} {kin} twin fit invoked remain) held s z stands p =
    look_is kin (new_cell part c) (under (new_cell part c) z) (renumbered_below new_cell cells c at) (renamed (new_cell (part_of (child_at cells c at))) p)
    ∙ by (cell_at cells c) refl (λ child e. looks_alike at (twin_child (twins twin fit invoked remain) c child e).both unheld (under c s) (under (new_cell part c) z) (child_state (Node part cells) s z c child stands e) p)
    ∙ sym (look_is cells c (under c s) at p)
  where
    mine : Twins (Node part cells) (Node other kin)
    mine = twins twin fit invoked remain

    path : Path
    path = renumbered_below new_cell cells c at

    port : PortRef
    port = renamed (new_cell (part_of (child_at cells c at))) p

    by : (x : At) → cell_at cells c ≡ x
        → ((child : Instance) (e : cell_at cells c ≡ OfInstance child)
        → look_below (twin_child mine c child e).twin unheld (under (new_cell part c) z) (renumbered new_cell child at) (renamed (number_at child at) p) ≡ look_below child unheld (under c s) at p)
        → looked (cell_at kin (new_cell part c)) (under (new_cell part c) z) path port ≡ looked x (under c s) at p
    by Nothing e inner = ap (λ y. looked y (under (new_cell part c) z) path port) (nothing_twin (twin.cells c) e)
    by (OfRow row) e inner = ap (λ y. looked y (under (new_cell part c) z) path port) (row_twin row (twin.cells c) e).3
    by (OfInstance child) e inner =
        let r = twin_child mine c child e in
        ap (λ y. looked y (under (new_cell part c) z) path port) r.there
        ∙ ap (λ q. look_below r.twin unheld (under (new_cell part c) z) q port) (child_renumbered cells c child at e)
        ∙ ap (λ x. look_below r.twin unheld (under (new_cell part c) z) (renumbered new_cell child at) (renamed (new_cell (part_of x)) p)) (child_is cells c child at e)
        ∙ inner child e

module _ {i j : Instance} (both : Twins i j) (held : Held) (s z : State) (stands : SharedStands i s z) where
  -- SAMPLES
  pub says_now : (h k : History) → Says i h k → (t : ℕ) → Says i (and_now h t (look_below i held s)) (and_now k t (look_below j held z))
  says_now h k says t x u =
      ap (λ y. if nat_eq t u then is_one (truth_of y) else k (moved_spot i x) u) (looks_alike x.at both held s z stands x.port)
      ∙ ap (λ b. if nat_eq t u then is_one (truth_of (look_below i held s x.at x.port)) else b) (says x u)

  -- THE FIRST PORT that is no value
  one_unclear : (x : Spot) (y : Seen) → fault_in (renumbered new_cell i x.at) (fault_of (renamed (number_at i x.at) x.port) y None) ≡ faulted (shared_fault i) (fault_in x.at (fault_of x.port y None))
  one_unclear x (sights.Value b) = refl
  one_unclear x sights.Conflict = refl
  one_unclear x sights.Undefined = refl

  later_faulted : (o p q : Option Fault) → q ≡ faulted (shared_fault i) p → or_later (faulted (shared_fault i) o) q ≡ faulted (shared_fault i) (or_later o p)
  later_faulted None p q e = e
  later_faulted (Some f) p q e = refl

  pub unclear_alike : (list : List Spot) → first_unclear (look_below j held z) (map (moved_spot i) list) ≡ faulted (shared_fault i) (first_unclear (look_below i held s) list)
  unclear_alike [] = refl
  unclear_alike (x ∷ rest) =
      ap (λ y. or_later (fault_in (renumbered new_cell i x.at) (fault_of (renamed (number_at i x.at) x.port) y None)) (first_unclear (look_below j held z) (map (moved_spot i) rest))) (looks_alike x.at both held s z stands x.port)
      ∙ ap (λ o. or_later o (first_unclear (look_below j held z) (map (moved_spot i) rest))) (one_unclear x (look_below i held s x.at x.port))
      ∙ later_faulted (fault_in x.at (fault_of x.port (look_below i held s x.at x.port) None)) (first_unclear (look_below i held s) rest) (first_unclear (look_below j held z) (map (moved_spot i) rest)) (unclear_alike rest)
