-- Ports whose sights hang on a set of cells alone, and the cycles that do.
use Rattle.std.proofs.Common.{◌≡◌, ℕ, inl, inr, Bool, true, false, ◌||◌, Option, Some, None, List, [], ◌∷◌, refl, sym, ap, ◌∙◌, subst}
use Rattle.std.proofs.Math.Path.{fun_ext}
use Rattle.cx_text.specs.Members.{In}
use Rattle.cx_prim.specs.declared.ports.Side.{Side}
use Rattle.cx_prim.specs.declared.ports.Side.TheVariants as sides
use Rattle.cx_prim.specs.Rows.{Row}
use Rattle.cx_meaning.specs.declared.ports.PortRef.{PortRef}
use Rattle.cx_meaning.specs.declared.ports.PortRef.TheVariants as ports
use Rattle.cx_meaning.specs.declared.sights.Seen.{Seen}
use Rattle.cx_meaning.specs.Rows.{side_of}
use Rattle.cx_meaning.specs.Designs.{PlainAssign, PlainComponent, group_at}
use Rattle.cx_meaning.specs.Instances.{Instance, Cells, At, Nothing, OfRow, OfInstance, cell_at, cell_count, cells_of, part_of, State, Set, under}
use Rattle.cx_meaning.specs.Active.{Active, nothing, Owned, source_order, offset_of, drivers}
use Rattle.cx_meaning.specs.Sights.{Look, Below, Held, unheld, PartPort, Go, AnInput, AnOutput, ItsDone, part_port, of_option, output_seen, gather, side_step, part_step, cell_step, step, Sees, by_step, seen}
use Rattle.cx_meaning.specs.Cycles.{Fault, Next, enables, after_enabling, cell_outcome, outcome_of, first_fault, stepped, state_after, unless_fault, cycle_by, every_cell, cycle}
use Rattle.cx_meaning.specs.Control.{group_drives, groups_drive}
use Rattle.cx_meaning.specs.Islands.{turn_of}
use Rattle.cx_meaning.proofs.CycleLemmas.{IsAlike, faults_alike, outcomes_alike, outcomes_same}
use Rattle.cx_meaning.proofs.SightsLemmas.{one_sight}
use Rattle.cx_rules.specs.Footprints.{AssignNames, Mentions, SideLeads, PartLeads, CellLeads, Leads}
use Rattle.cx_rules.specs.Circles.{IsAcyclic, AcyclicBelow}
use Rattle.cx_rules.proofs.FoundLemmas.{needs_leads, same_is, seen_found}
use Rattle.cx_rules.proofs.ForeignLemmas.{foreign_zero, OwnerOf, continuous, of_group, owner_of}
use Rattle.cx_frames.specs.Agreeing.{Agree}
use Rattle.cx_frames.proofs.AlikeLemmas.{AlikeTurn}
use Rattle.cx_frames.proofs.QuietLemmas.{quiet_outcome}
use Rattle.cx_frames.proofs.RuleLemmas.{IsKept}
use Rattle.cx_meaning.proofs.ControlLaws.{driver}
use Rattle.cx_meaning.proofs.ActiveLemmas.{acting_acts}

-- the ports of the cells of a set, and those of the instance itself that may be looked at
abbrev pub InFrame : (ℕ → Type 0) → PortRef → Type 0
InFrame set (ports.Cell c p) = set c
InFrame set (ports.Input n) = Unit {0}
InFrame set (ports.Output n) = ⊥
InFrame set (ports.Done g) = Unit {0}
InFrame set (ports.Literal w v) = Unit {0}

pub in_frame : (set : ℕ → Type 0) (q : PortRef) → ((c p : ℕ) → q ≡ ports.Cell c p → set c) → ((n : ℕ) → q ≡ ports.Output n → ⊥) → InFrame set q
in_frame set (ports.Cell c p) h k = h c p refl
in_frame set (ports.Input n) h k = tt
in_frame set (ports.Output n) h k = k n refl
in_frame set (ports.Done g) h k = tt
in_frame set (ports.Literal w v) h k = tt

-- a set holds what continuous assignments of its cells name
abbrev pub IsThrough : PlainComponent → (ℕ → Type 0) → Type 0
IsThrough part set = (c p e q : ℕ) (a : PlainAssign) → set c → In part.always a → a.target ≡ ports.Cell c p → AssignNames a (ports.Cell e q) → set e

-- and what a group drives and names
pub record IsWithin (part : PlainComponent) (set : ℕ → Type 0) (g : ℕ) : Type 0 where
  pub drives : (c : ℕ) → group_drives part g c ≡ true → set c
  pub names : (a : PlainAssign) (c p : ℕ) → In (group_at part g).assigns a → AssignNames a (ports.Cell c p) → set c

-- the active groups are among these
abbrev pub IsAmong : Active → List ℕ → Type 0
IsAmong act gs = (g k : ℕ) → act.offset g ≡ Some k → In gs g

-- one step hangs on the state of the cell of a port alone
side_same : (part : PlainComponent) (act : Active) (s t : State) (look : Look) (below : Below) (c p : ℕ) (row : Row) (side : Side) → s (c ∷ []) ≡ t (c ∷ []) → side_step part act t look below row c p side ≡ side_step part act s look below row c p side
side_same part act s t look below c p row sides.Enable e = refl
side_same part act s t look below c p row sides.Plain e = refl
side_same part act s t look below c p row sides.Output e = ap (λ state. output_seen (λ inputs. row.output state inputs p) (gather (λ q. look (ports.Cell c q)) (row.reads p) 0 row.ports)) (sym e)
side_same part act s t look below c p row sides.Registered e = ap (λ state. of_option (row.output state [] p)) (sym e)

part_same : (part : PlainComponent) (act : Active) (s t : State) (look : Look) (below : Below) (c p : ℕ) (port : PartPort) → part_step part act t look below c p port ≡ part_step part act s look below c p port
part_same part act s t look below c p Go = refl
part_same part act s t look below c p (AnInput n) = refl
part_same part act s t look below c p (AnOutput n) = refl
part_same part act s t look below c p ItsDone = refl

cell_same : (part : PlainComponent) (act : Active) (s t : State) (look : Look) (below : Below) (c p : ℕ) (at : At) → s (c ∷ []) ≡ t (c ∷ []) → cell_step part act t look below c p at ≡ cell_step part act s look below c p at
cell_same part act s t look below c p Nothing e = refl
cell_same part act s t look below c p (OfRow row) e = side_same part act s t look below c p row (side_of row p) e
cell_same part act s t look below c p (OfInstance child) e = part_same part act s t look below c p (part_port (part_of child) p)

-- CYCLES THAT END ALIKE: each listed primitive comes to the same or goes on, and those of the set come to the same
turn_alike : (set : ℕ → Type 0) (x y : Option Fault) (a b : State) → x ≡ y → Agree set a b → AlikeTurn set (turn_of (unless_fault x a)) (turn_of (unless_fault y b))
turn_alike set x y a b e h = subst (λ z. AlikeTurn set (turn_of (unless_fault x a)) (turn_of (unless_fault z b))) e (one x)
  where
    one : (z : Option Fault) → AlikeTurn set (turn_of (unless_fault z a)) (turn_of (unless_fault z b))
    one None = (b, refl, h)
    one (Some f) = refl

pub ends_alike : (set : ℕ → Type 0) (listed : Set) (look more : Look) (cells : Cells) (s t : State)
    → ((c : ℕ) (row : Row) → cell_at cells c ≡ OfRow row → listed c ≡ true → IsAlike (cell_outcome look c row (s (c ∷ []))) (cell_outcome more c row (t (c ∷ []))))
    → ((c : ℕ) (row : Row) → set c → cell_outcome look c row (s (c ∷ [])) ≡ cell_outcome more c row (t (c ∷ [])))
    → Agree set s t → AlikeTurn set (turn_of (cycle_by listed look cells s)) (turn_of (cycle_by listed more cells t))
ends_alike set listed look more cells s t alike same agree =
    turn_alike set (first_fault (outcome_of listed look cells s) 0 (cell_count cells)) (first_fault (outcome_of listed more cells t) 0 (cell_count cells)) _ _
    (faults_alike (outcome_of listed look cells s) (outcome_of listed more cells t) 0 (cell_count cells) (λ c. outcomes_alike listed look more cells s t c (alike c))) states
  where
    states : Agree set (state_after (outcome_of listed look cells s) s) (state_after (outcome_of listed more cells t) t)
    states c [] inside =
        ap (stepped (s (c ∷ []))) (outcomes_same listed look more cells s t c (agree c [] inside) (λ row at on. same c row inside))
        ∙ ap (λ d. stepped d (outcome_of listed more cells t c)) (agree c [] inside)
    states c (e ∷ path) inside = agree c (e ∷ path) inside

none_drives : (part : PlainComponent) (gs : List ℕ) (g c : ℕ) → groups_drive part gs c ≡ false → In gs g → group_drives part g c ≡ true → ⊥
none_drives part [] g c e i f = absurd i
none_drives part (h ∷ gs) g c e i f = go (group_drives part h c) refl e i (λ k j. none_drives part gs g c k j f)
  where
    true_false : true ≡ false → ⊥
    true_false e = cc

    go : (b : Bool) → group_drives part h c ≡ b → (b || groups_drive part gs c) ≡ false → In (h ∷ gs) g → (groups_drive part gs c ≡ false → In gs g → ⊥) → ⊥
    go true here e i later = true_false e
    go false here e (inl same) later = true_false (sym f ∙ ap (λ x. group_drives part x c) (sym same) ∙ here)
    go false here e (inr j) later = later e j

module _ (i : Instance) (held : Held) (act : Active) (set : ℕ → Type 0) (gs : List ℕ)
    (kept : IsKept i) (through : IsThrough (part_of i) set) (among : IsAmong act gs) (looks : (g : ℕ) → In gs g → IsWithin (part_of i) set g) where
  -- what is named by an active assignment of a port in the frame is in it
  by_cell : (c p : ℕ) (q : PortRef) (o : Owned) (k : ℕ) → set c → In (source_order (part_of i)) o → o.assign.target ≡ ports.Cell c p → offset_of act o.owner ≡ Some k → AssignNames o.assign q → OwnerOf (part_of i) o → InFrame set q
  by_cell c p q o k inside stands target acts names (continuous e j) =
      in_frame set q (λ b n f. through c p b n o.assign inside j target (subst (AssignNames o.assign) f names)) (λ n f. kept.sources o n stands (subst (AssignNames o.assign) f names))
  by_cell c p q o k inside stands target acts names (of_group g e j) =
      in_frame set q (λ b n f. (looks g (among g k (ap (offset_of act) (sym e) ∙ acts))).names o.assign b n j (subst (AssignNames o.assign) f names)) (λ n f. kept.sources o n stands (subst (AssignNames o.assign) f names))

  by_hole : (h : ℕ) (q : PortRef) (o : Owned) (k : ℕ) → In (source_order (part_of i)) o → o.assign.target ≡ ports.Done h → offset_of act o.owner ≡ Some k → AssignNames o.assign q → OwnerOf (part_of i) o → InFrame set q
  by_hole h q o k stands target acts names (continuous e j) = absurd (kept.holes o.assign h j target)
  by_hole h q o k stands target acts names (of_group g e j) =
      in_frame set q (λ b n f. (looks g (among g k (ap (offset_of act) (sym e) ∙ acts))).names o.assign b n j (subst (AssignNames o.assign) f names)) (λ n f. kept.sources o n stands (subst (AssignNames o.assign) f names))

  cell_mentions : (c p : ℕ) (q : PortRef) → set c → Mentions (drivers (part_of i) act (ports.Cell c p)) q → InFrame set q
  cell_mentions c p q inside (b, j, names) =
      let r = acting_acts act (ports.Cell c p) (source_order (part_of i)) b j in
      by_cell c p q r.owned b.offset inside r.stands (same_is r.owned.assign.target (ports.Cell c p) r.target) r.acts (subst (λ a. AssignNames a q) (sym r.same) names) (owner_of (part_of i) r.owned r.stands)

  hole_mentions : (h : ℕ) (q : PortRef) → Mentions (drivers (part_of i) act (ports.Done h)) q → InFrame set q
  hole_mentions h q (b, j, names) =
      let r = acting_acts act (ports.Done h) (source_order (part_of i)) b j in
      by_hole h q r.owned b.offset r.stands (same_is r.owned.assign.target (ports.Done h) r.target) r.acts (subst (λ a. AssignNames a q) (sym r.same) names) (owner_of (part_of i) r.owned r.stands)

  side_closed : (c p : ℕ) (q : PortRef) (row : Row) (side : Side) → set c → SideLeads (part_of i) act row c p side q → InFrame set q
  side_closed c p q row sides.Enable inside l = cell_mentions c p q inside l
  side_closed c p q row sides.Plain inside l = cell_mentions c p q inside l
  side_closed c p q row sides.Output inside (m, reads, is) = subst (InFrame set) is inside
  side_closed c p q row sides.Registered inside l = absurd l

  part_closed : (c p : ℕ) (q : PortRef) (port : PartPort) → set c → PartLeads (part_of i) act c p port q → InFrame set q
  part_closed c p q Go inside l = cell_mentions c p q inside l
  part_closed c p q (AnInput n) inside l = cell_mentions c p q inside l
  part_closed c p q (AnOutput n) inside l = absurd l
  part_closed c p q ItsDone inside l = absurd l

  cell_closed : (c p : ℕ) (q : PortRef) (at : At) → set c → CellLeads (part_of i) act c p at q → InFrame set q
  cell_closed c p q Nothing inside l = absurd l
  cell_closed c p q (OfRow row) inside l = side_closed c p q row (side_of row p) inside l
  cell_closed c p q (OfInstance child) inside l = part_closed c p q (part_port (part_of child) p) inside l

  -- what leads from a port in the frame is in it
  pub closed : (p q : PortRef) → InFrame set p → Leads i act p q → InFrame set q
  closed (ports.Cell c p) q inside l = cell_closed c p q (cell_at (cells_of i) c) inside l
  closed (ports.Input n) q inside l = absurd l
  closed (ports.Output n) q inside l = absurd inside
  closed (ports.Done g) q inside l = hole_mentions g q l
  closed (ports.Literal w v) q inside l = absurd l

  module _ (s t : State) (agree : Agree set s t) where
    same_step : (look : Look) (below : Below) (p : PortRef) → InFrame set p → step i held act t look below p ≡ step i held act s look below p
    same_step look below (ports.Cell c p) inside = cell_same (part_of i) act s t look below c p (cell_at (cells_of i) c) (agree c [] inside)
    same_step look below (ports.Input n) inside = refl
    same_step look below (ports.Output n) inside = absurd inside
    same_step look below (ports.Done g) inside = refl
    same_step look below (ports.Literal w v) inside = refl

    same_under : (c : ℕ) → set c → under c s ≡ under c t
    same_under c inside = fun_ext (λ path. agree c path inside)

    carried : {p : PortRef} {x : Seen} → InFrame set p → Sees i held act s p x → Sees i held act t p x
    carried {p} {x} inside (by_step look below h b e) =
        by_step look below
        (λ q need. carried (closed p q inside (needs_leads i act look p q need)) (h q need))
        (λ c port n child is at. subst (λ state. Sees child unheld nothing state (ports.Output n) (below c n)) (same_under c (subst (InFrame set) is inside)) (b c port n child is at))
        (same_step look below p inside ∙ e)

    module _ (acyclic : IsAcyclic i act) (deeper : AcyclicBelow (cells_of i)) where
      -- a port in the frame is seen alike
      pub seen_alike : (p : PortRef) → InFrame set p → seen i held act s p ≡ seen i held act t p
      seen_alike p inside = one_sight (carried inside (seen_found i held act s acyclic deeper p)) (seen_found i held act t acyclic deeper p)

      outcome_alike : (c : ℕ) (row : Row) → set c → cell_outcome (seen i held act s) c row (s (c ∷ [])) ≡ cell_outcome (seen i held act t) c row (t (c ∷ []))
      outcome_alike c row inside =
          ap (λ look. after_enabling look row (s (c ∷ [])) (gather look (enables row) 0 row.ports)) (fun_ext (λ p. seen_alike (ports.Cell c p) inside))
          ∙ ap (cell_outcome (seen i held act t) c row) (agree c [] inside)

      -- no active group drives the cell
      quiet_cell : (c : ℕ) (row : Row) → cell_at (cells_of i) c ≡ OfRow row → groups_drive (part_of i) gs c ≡ false → (state : State) → cell_outcome (seen i held act state) c row (state (c ∷ [])) ≡ Next (row.idle (state (c ∷ [])))
      quiet_cell c row at none state =
          quiet_outcome row (kept.lawful c row at) (seen i held act state) c (state (c ∷ []))
          (λ p side. foreign_zero i act c p (λ o j owner target. kept.quiet o c p row j owner target at side) (λ g drives. unused g drives (act.offset g) refl) row at side held state)
        where
          unused : (g : ℕ) → group_drives (part_of i) g c ≡ true → (x : Option ℕ) → act.offset g ≡ x → act.offset g ≡ None
          unused g drives None e = e
          unused g drives (Some k) e = absurd (none_drives (part_of i) gs g c none (among g k e) drives)

      both_outcomes : (c : ℕ) (row : Row) → cell_at (cells_of i) c ≡ OfRow row → IsAlike (cell_outcome (seen i held act s) c row (s (c ∷ []))) (cell_outcome (seen i held act t) c row (t (c ∷ [])))
      both_outcomes c row at = go (groups_drive (part_of i) gs c) refl
        where
          go : (b : Bool) → groups_drive (part_of i) gs c ≡ b → IsAlike (cell_outcome (seen i held act s) c row (s (c ∷ []))) (cell_outcome (seen i held act t) c row (t (c ∷ [])))
          go true e = let r = driver (part_of i) gs c e in inl (outcome_alike c row ((looks r.0 r.1).drives c r.2))
          go false e = inr (row.idle (s (c ∷ [])), row.idle (t (c ∷ [])), quiet_cell c row at e s, quiet_cell c row at e t)

      -- a cycle ends alike
      pub cycle_alike : AlikeTurn set (turn_of (cycle i held act s)) (turn_of (cycle i held act t))
      cycle_alike = ends_alike set every_cell (seen i held act s) (seen i held act t) (cells_of i) s t (λ c row at on. both_outcomes c row at) (λ c row inside. outcome_alike c row inside) agree
