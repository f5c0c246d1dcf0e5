-- A CYCLE of an instance with its static children is one of the shared instance with its own: it goes on where that does, with the same states, or
-- has its fault.
use Rattle.std.proofs.Common.{◌≡◌, ℕ, suc, inl, inr, Bool, true, false, List, [], ◌∷◌, map, refl, sym, ap, ◌∙◌, subst}
use Rattle.std.specs.Prelude.{is_some, if◌then◌else◌}
use Rattle.std.proofs.Math.Path.{fun_ext}
use Rattle.cx_text.specs.Members.{In}
use Rattle.cx_meaning.specs.declared.ports.PortRef.{PortRef}
use Rattle.cx_meaning.specs.declared.ports.PortRef.TheVariants as ports
use Rattle.cx_meaning.specs.Designs.{PlainAssign, PlainComponent}
use Rattle.cx_meaning.specs.Instances.{Instance, Node, Cells, a_primitive, an_instance, OfInstance, part_of, cells_of, cell_at, State, under, put}
use Rattle.cx_meaning.specs.Active.{Active, same_port, entries}
use Rattle.cx_meaning.specs.Sights.{Look, Held, seen, is_done_cell}
use Rattle.cx_meaning.specs.Cycles.{Ended, Goes, Faults, cycle}
use Rattle.cx_meaning.specs.Islands.{turn_of}
use Rattle.cx_rules.specs.Circles.{IsAcyclic}
use Rattle.cx_rewrites.specs.Renaming.{renamed}
use Rattle.cx_rewrites.specs.Tallies.{Tally, none}
use Rattle.cx_rewrites.specs.Carrying.{Exact, TurnCarried}
use Rattle.cx_flattening.specs.Events.{source_in, source_to}
use Rattle.cx_flattening.specs.Deeds.{Deed, own_entries, deeds_below, held_below}
use Rattle.cx_flattening.specs.Whole.{with_child, is_static, child_if, whole_cycle, cycles_below}
use Rattle.cx_sharing.specs.Uses.{is_candidate}
use Rattle.cx_sharing.specs.Giving.{stays, staying, new_cell}
use Rattle.cx_sharing.specs.Following.{SharedStands, shared_fault}
use Rattle.cx_sharing.proofs.UsedLemmas.{Covers, UsedMeet, Inside}
use Rattle.cx_sharing.proofs.TwinLemmas.{IsTwin, stays_is, other_stays}
use Rattle.cx_sharing.proofs.TwinStates.{child_state, back_state, told_below}
use Rattle.cx_sharing.proofs.SharedSights.{seen_there}
use Rattle.cx_sharing.proofs.SharedCycles.{cycle_shared}
use Rattle.cx_sharing.proofs.WholeTwins.{Twins, twins, twin_of, Remain, none_left, a_row_stays, a_row_goes, a_child, staying_next}
use Rattle.cx_sharing.proofs.WholeMoved.{moved_deed, own-moved, below-moved, source_to-moved, held-moved}
use Rattle.cx_sharing.proofs.WholeMeets.{IsQuiet, DoneUses, FedQuiet, done_covers, Fine, FineBelow}

-- the cycle goes on with the same states, or has the same fault
abbrev pub EndedAlike : Instance → Ended → Ended → Type 0
EndedAlike i (Goes a) x = (z : State) × (x ≡ Goes z) × SharedStands i a z
EndedAlike i (Faults f) x = x ≡ Faults (shared_fault i f)

module _ (i : Instance) (before one : Tally) where
  abbrev R : Tally → State → State → Type 0
  R counted = SharedStands i

  pub of_turn : (o x : Ended) → TurnCarried Exact R (shared_fault i) before one (turn_of o) (turn_of x) → EndedAlike i o x
  of_turn (Goes a) (Goes b) (z, e, r) = (z, (let same : b ≡ z = cc in ap Goes same), r)
  of_turn (Goes a) (Faults f) (z, e, r) = absurd (cc)
  of_turn (Faults f) (Goes b) e = absurd (cc)
  of_turn (Faults f) (Faults g) e = let same : g ≡ shared_fault i f = cc in ap Faults same

  pub to_turn : (o x : Ended) → EndedAlike i o x → TurnCarried Exact R (shared_fault i) before one (turn_of o) (turn_of x)
  to_turn (Goes a) x (z, e, r) = (z, ap turn_of e, r)
  to_turn (Faults f) x e = ap turn_of e

-- A CHILD'S CYCLE beside what the cells before it came to
with_alike : (i : Instance) (c : ℕ) (child : Instance) → cell_at (cells_of i) c ≡ OfInstance child → is_candidate (part_of i) c ≡ false → (o x own twin : Ended)
    → EndedAlike i o x → EndedAlike child own twin → EndedAlike i (with_child c o own) (with_child (new_cell (part_of i) c) x twin)
with_alike i c child at other (Faults f) x own twin e inner = ap (λ y. with_child (new_cell (part_of i) c) y twin) e
with_alike i c child at other (Goes a) x (Faults f) twin (z, e, r) inner =
    ap (λ y. with_child (new_cell (part_of i) c) y twin) e ∙ ap (with_child (new_cell (part_of i) c) (Goes z)) inner ∙ ap Faults (sym (told_below i c child f at))
with_alike i c child at other (Goes a) x (Goes b) twin (z, e, r) (y, f, q) = (
  put (new_cell (part_of i) c) y z,
  ap (λ w. with_child (new_cell (part_of i) c) w twin) e ∙ ap (with_child (new_cell (part_of i) c) (Goes z)) f,
  back_state i c child b y a z at other q r,
)

child_alike : (i : Instance) (c : ℕ) (child : Instance) → cell_at (cells_of i) c ≡ OfInstance child → is_candidate (part_of i) c ≡ false → (static : Bool) (o x own twin : Ended)
    → EndedAlike i o x → (static ≡ true → EndedAlike child own twin) → EndedAlike i (child_if static c o own) (child_if static (new_cell (part_of i) c) x twin)
child_alike i c child at other true o x own twin e inner = with_alike i c child at other o x own twin e (inner refl)
child_alike i c child at other false o x own twin e inner = e

-- a port of no candidate is inside, whatever is used
quiet_inside : (part : PlainComponent) (used : ℕ → Type 0) (p : PortRef) → IsQuiet part p → Inside part used p
quiet_inside part used (ports.Cell c n) h = inl (h c n refl)
quiet_inside part used (ports.Input n) h = tt
quiet_inside part used (ports.Output n) h = tt
quiet_inside part used (ports.Done g) h = tt
quiet_inside part used (ports.Literal w v) h = tt

-- and so is the source of an input of a child
source_quiet : (part : PlainComponent) (c n : ℕ) → is_candidate part c ≡ false → (inputs : List PlainAssign) → ((a : PlainAssign) → In inputs a → IsQuiet part a.source.port) → IsQuiet part (source_to c inputs n)
source_quiet part c n other [] quiet = λ d p e. (let same : c ≡ d = cc in subst (λ x. is_candidate part x ≡ false) same other)
source_quiet part c n other (a ∷ rest) quiet = by (same_port a.target (ports.Cell c (suc n))) (source_quiet part c n other rest (λ b k. quiet b (inr k)))
  where
    by : (b : Bool) → IsQuiet part (source_to c rest n) → IsQuiet part (if b then a.source.port else source_in c rest (ports.Cell c (suc n)))
    by true later = quiet a (inl refl)
    by false later = later

static_alike : (child twin : Instance) → IsTwin child twin → is_static twin ≡ is_static child
static_alike child twin both = ap (λ (x : PlainComponent). is_some x.latency) both.part

mutual
  cells_alike : {part : PlainComponent} {all : Cells} {j : Instance} {c : ℕ} {cells kin : Cells} → Remain (Node part all) j c cells kin → (look other : Look) (ds : List Deed)
      → ((p : PortRef) → IsQuiet part p → other (renamed (new_cell part) p) ≡ look p) → FedQuiet part ds → FineBelow cells c ds
      → (s z : State) → SharedStands (Node part all) s z → (o x : Ended) → EndedAlike (Node part all) o x
      → EndedAlike (Node part all) (cycles_below cells c look ds s o) (cycles_below kin (staying (stays part) c) other (map (moved_deed (Node part all)) ds) z x)
  cells_alike none_left look other ds sees quiet fine s z stands o x alike = alike
  cells_alike {part} {all} {c = c} {cells = a_primitive _ rest} {kin = a_primitive _ more} (a_row_stays row twin on remain) look other ds sees quiet fine s z stands o x alike =
      subst (λ e. EndedAlike (Node part all) (cycles_below rest (suc c) look ds s o) (cycles_below more e other (map (moved_deed (Node part all)) ds) z x)) (staying_next (stays part) c true on)
      (cells_alike remain look other ds sees quiet fine s z stands o x alike)
  cells_alike {part} {all} {c = c} {cells = a_primitive _ rest} {kin = kin} (a_row_goes row off remain) look other ds sees quiet fine s z stands o x alike =
      subst (λ e. EndedAlike (Node part all) (cycles_below rest (suc c) look ds s o) (cycles_below kin e other (map (moved_deed (Node part all)) ds) z x)) (staying_next (stays part) c false off)
      (cells_alike remain look other ds sees quiet fine s z stands o x alike)
  cells_alike {part} {all} {c = c} {cells = an_instance _ rest} {kin = an_instance _ more} (a_child child twin here there lone both remain) look other ds sees quiet fine s z stands o x alike =
      subst (λ e. EndedAlike (Node part all) (cycles_below rest (suc c) look ds s (child_if (is_static child) c o own)) (cycles_below more e other mds z (child_if (is_static twin) place x its))) (staying_next (stays part) c true on)
      (cells_alike remain look other ds sees quiet fine.1 s z stands (child_if (is_static child) c o own) (child_if (is_static twin) place x its)
      (subst (λ b. EndedAlike (Node part all) (child_if (is_static child) c o own) (child_if b place x its)) (sym (static_alike child twin (twin_of both)))
      (subst (λ e. EndedAlike (Node part all) (child_if (is_static child) c o own) (child_if (is_static child) e x its)) number
      (child_alike (Node part all) c child here lone (is_static child) o x own its alike (λ static. subst (EndedAlike child own) (sym its_is) (deeds_alike both kds (fine.0 static) held (under c s) (under (new_cell part c) z) (child_state (Node part all) s z c child stands here)))))))
    where
      mds : List Deed
      mds = map (moved_deed (Node part all)) ds

      place : ℕ
      place = staying (stays part) c

      on : stays part c ≡ true
      on = other_stays part c lone

      number : new_cell part c ≡ place
      number = stays_is part c on

      kds : List Deed
      kds = deeds_below c ds

      held : Held
      held = held_below look c ds

      own : Ended
      own = whole_cycle child held (entries (own_entries kds)) kds (under c s)

      its : Ended
      its = whole_cycle twin (held_below other place mds) (entries (own_entries (deeds_below place mds))) (deeds_below place mds) (under place z)

      -- what the twin is told is what the child is, moved
      below_is : deeds_below (new_cell part c) mds ≡ map (moved_deed child) kds
      below_is = below-moved part all c lone child here ds

      held_is : held_below other (new_cell part c) mds ≡ held
      held_is = fun_ext (λ n. held-moved part all c lone look other n ds (λ inputs k.
          ap other (source_to-moved part all c lone inputs n) ∙ sees (source_to c inputs n) (source_quiet part c n lone inputs (λ a m. quiet c inputs k a m))))

      its_is : its ≡ whole_cycle twin held (entries (own_entries kds)) (map (moved_deed child) kds) (under (new_cell part c) z)
      its_is =
          ap (λ e. whole_cycle twin (held_below other e mds) (entries (own_entries (deeds_below e mds))) (deeds_below e mds) (under e z)) (sym number)
          ∙ ap (λ h. whole_cycle twin h (entries (own_entries (deeds_below (new_cell part c) mds))) (deeds_below (new_cell part c) mds) (under (new_cell part c) z)) held_is
          ∙ ap (λ l. whole_cycle twin held (entries (own_entries l)) l (under (new_cell part c) z)) below_is
          ∙ ap (λ l. whole_cycle twin held (entries l) (map (moved_deed child) kds) (under (new_cell part c) z)) (own-moved child kds)

  -- A CYCLE OF AN ISLAND, or of a static child
  pub deeds_alike : {i j : Instance} → Twins i j → (ds : List Deed) → Fine i ds → (held : Held) (s z : State) → SharedStands i s z
      → EndedAlike i (whole_cycle i held (entries (own_entries ds)) ds s) (whole_cycle j held (entries (own_entries ds)) (map (moved_deed i) ds) z)
  deeds_alike (twins {part} {other} {cells} {kin} twin fit invoked remain) ds fine held s z stands =
      cells_alike remain (seen (Node part cells) held act s) (seen (Node other kin) held act z) ds
      (λ p h. seen_there (Node part cells) (Node other kin) twin act act (λ g. refl) (DoneUses part ds) (done_covers part ds) fine.0 held s z stands (λ c. refl) fine.1 p (quiet_inside part (DoneUses part ds) p h))
      fine.2 fine.3 s z stands
      (cycle (Node part cells) held act s) (cycle (Node other kin) held act z)
      (of_turn (Node part cells) none none (cycle (Node part cells) held act s) (cycle (Node other kin) held act z)
      (cycle_shared (Node part cells) (Node other kin) twin act act (λ g. refl) (DoneUses part ds) (done_covers part ds) fine.0 held (λ c. refl) fine.1 none none s z stands))
    where
      act : Active
      act = entries (own_entries ds)

-- A CYCLE under any active set, what is used by which meets
pub whole_alike : {i j : Instance} → Twins i j → (act more : Active) → ((g : ℕ) → more.offset g ≡ act.offset g)
    → (used : ℕ → Type 0) → Covers (part_of i) used act → UsedMeet (part_of i) used → ((c : ℕ) → is_done_cell act.done_cell c ≡ is_done_cell more.done_cell (new_cell (part_of i) c)) → IsAcyclic i act
    → (held : Held) (ds : List Deed) → FedQuiet (part_of i) ds → FineBelow (cells_of i) 0 ds → (s z : State) → SharedStands i s z
    → EndedAlike i (whole_cycle i held act ds s) (whole_cycle j held more (map (moved_deed i) ds) z)
whole_alike (twins {part} {other} {cells} {kin} twin fit invoked remain) act more offsets used covers meets dones acyclic held ds quiet fine s z stands =
    cells_alike remain (seen (Node part cells) held act s) (seen (Node other kin) held more z) ds
    (λ p h. seen_there (Node part cells) (Node other kin) twin act more offsets used covers meets held s z stands dones acyclic p (quiet_inside part used p h)) quiet fine s z stands
    (cycle (Node part cells) held act s) (cycle (Node other kin) held more z)
    (of_turn (Node part cells) none none (cycle (Node part cells) held act s) (cycle (Node other kin) held more z)
    (cycle_shared (Node part cells) (Node other kin) twin act more offsets used covers meets held dones acyclic none none s z stands))
