-- THE INVARIANT IS KEPT: it holds at a start from rest, is kept by a step without a fault, and an end leaves all at rest.
use Rattle.std.proofs.Common.{◌≡◌, ℕ, zero, suc, ◌⊎◌, inl, inr, Bool, true, false, ◌||◌, List, [], ◌∷◌, Option, Some, None, if◌then◌else◌, refl, sym, ap, ◌∙◌, subst}
use Rattle.std.proofs.Math.Path.{fun_ext}
use Rattle.cx_text.specs.Members.{In}
use Rattle.cx_text.specs.declared.places.Place.{Place}
use Rattle.cx_meaning.specs.declared.ports.PortRef.TheVariants as ports
use Rattle.cx_meaning.specs.Designs.{PlainComponent, PlainForm, Enable, PlainStatement, Placed, group_at}
use Rattle.cx_meaning.specs.Instances as instances
use Rattle.cx_meaning.specs.Instances.{Instance, Node, Cells, no_cells, a_primitive, an_instance, Nothing, OfRow, OfInstance, cell_at, cells_of, part_of, Path, State, just, idle_at, idle_below, instance_at}
use Rattle.cx_meaning.specs.Active.{group, capture}
use Rattle.cx_meaning.specs.Truths.{One, truth_of}
use Rattle.cx_meaning.specs.Sights.{Held, seen}
use Rattle.cx_meaning.specs.Cycles.{Fault, Ended, Goes, Faults, cycle}
use Rattle.cx_meaning.specs.Control.{form_drives, drives}
use Rattle.cx_meaning.specs.Islands.{is_one, turn_of}
use Rattle.cx_meaning.specs.Calls.{called, captures}
use Rattle.cx_meaning.specs.Running.{leaves, control_below}
use Rattle.cx_rules.specs.Footprints.{Reads}
use Rattle.cx_frames.proofs.LeafFrames.{called_drives}
use Rattle.cx_lockstep.specs.Worlds.{Control, At, Done, Machine, edge_of, edge, is_done}
use Rattle.cx_lockstep.specs.Statements.{LeafMachines, machine_of}
use Rattle.cx_lockstep.specs.Doing.{Does}
use Rattle.cx_lockstep.specs.Lawful.{AreLawful}
use Rattle.cx_lockstep.specs.Running.{Running, AGroup, AnIsland, leaf_of, leaf_writes, leaf_next, group_next, island_next, at_control, running}
use Rattle.cx_lockstep.proofs.RunningLaws.{no_faults, stays}
use Rattle.cx_lockstep.proofs.WriteLaws.{IsWithin, runs_within, writes_none, Alone, alone}
use Rattle.cx_control.specs.Codings.{Coding, Bank, region_bank, at_fine}
use Rattle.cx_control.specs.CodingLaws.{IsBank, region_bank_is}
use Rattle.cx_control.specs.Spots.{Spot, Cell, Number, Input, Holds, Kept, cells_in, held_in, pull, spots_of, reads_spot}
use Rattle.cx_control.specs.Numbers.{number_idle_at, number_idle_below, idle_by, spot_idle, world_of, Rests}
use Rattle.cx_control.specs.Leaves.{Coded, code_of, child_at, written, turn_writes, turn_faults, inputs_now, captured_now, hole_now, capture_now, child_writes, child_faults, leaf_machines}
use Rattle.cx_control.specs.Controls.{coded_control, coded_below}
use Rattle.cx_control.specs.Standing.{Bare, bare, bare_under, RestsAt, Calling, runs, at_end, captured, GoodAt, good_control, good_below}
use Rattle.cx_control.specs.Keeping.{AllRest, Keeps}
use Rattle.cx_control.specs.InstanceRules.{InstanceRules, Stands}
use Rattle.cx_control.specs.CallRules.{CallRules}
use Rattle.cx_control.specs.ControlRules.{ControlRules}
use Rattle.cx_control.proofs.RestLaws.{number_idle_at-zero, number_idle_below-zero}
use Rattle.cx_control.proofs.CallLaws.{ChildLaws}
use Rattle.cx_control.proofs.StaticRuns.{IsLeaf, runs_leaf}
use Rattle.cx_control.proofs.LeafLaws.{true_false, is_one_of, not_one_of, ActsAs, kind_acts, IsQuietEnd, turn_number, island_ends, kind_ends, island_number, kind_number}
use Rattle.cx_control.proofs.ControlLaws.{IslandsDo, control_coded, leaves_end, stands_at, leaves_are_lawful, node_does, child_does}
use Rattle.cx_meaning.proofs.InstancesLemmas.{just_same, not_just, nothing_instance, row_instance}
use Rattle.cx_meaning.proofs.ControlLemmas.{called_child}

-- the invariant of what stands at a cell
abbrev pub KeepsBelow : Cells → ℕ → Type 0
KeepsBelow cells c = Keeps (coded_below cells c) (good_below cells c) (λ path d. idle_below cells c path d) (λ path n v. number_idle_below cells c path n v)

-- below what is no component numbers stay
pub number_stays : (cells : Cells) (c : ℕ) → ((child : Instance) → cell_at cells c ≡ OfInstance child → ⊥) → (path : Path) (n v : ℕ) → number_idle_below cells c path n v ≡ v
number_stays no_cells c none path n v = refl
number_stays (a_primitive row rest) zero none path n v = refl
number_stays (a_primitive row rest) (suc c) none path n v = number_stays rest c none path n v
number_stays (an_instance child rest) zero none path n v = absurd (none child refl)
number_stays (an_instance child rest) (suc c) none path n v = number_stays rest c none path n v

-- a cell is a component's, or it is not
pub is_child : (cells : Cells) (c : ℕ) → ((child : Instance) × (cell_at cells c ≡ OfInstance child)) ⊎ ((child : Instance) → cell_at cells c ≡ OfInstance child → ⊥)
is_child no_cells c = inr (λ child e. absurd (cc))
is_child (a_primitive row rest) zero = inr (λ child e. absurd (cc))
is_child (a_primitive row rest) (suc c) = is_child rest c
is_child (an_instance child rest) zero = inl (child, refl)
is_child (an_instance child rest) (suc c) = is_child rest c

module _ (part : PlainComponent) (cells : Cells) (control : ControlRules (Node part cells)) (islands : IslandsDo (Node part cells))
    (below : (c : ℕ) (child : Instance) → cell_at cells c ≡ OfInstance child → ChildLaws cells c (coded_below cells c)) (kept : (c : ℕ) (child : Instance) → cell_at cells c ≡ OfInstance child → KeepsBelow cells c) where
  abbrev i : Instance
  i = Node part cells

  rules : InstanceRules i
  rules = control.rules

  abbrev P : LeafMachines Spot Holds Fault
  P = leaf_machines i (coded_below cells)

  abbrev M : Machine Spot Holds
  M = machine_of P part.control

  abbrev kid : ℕ → Coded
  kid c = coded_below cells c

  pub root : Stands i part.control
  root = stands_at i part.control refl

  abbrev spots : PlainStatement → Spot → Bool
  spots t = spots_of (drives part t)

  abbrev seen_spots : PlainStatement → Spot → Type 0
  seen_spots t = reads_spot (Reads part t)

  pub law : AreLawful (world_of i) (Rests i) (leaves i (control_below cells)) P spots seen_spots (Stands i)
  law = leaves_are_lawful part cells control islands below

  abbrev GoodOf : List (Running P) → Bare → Type 0
  GoodOf rs b = GoodAt i (coded_below cells) (good_below cells) rs b

  abbrev CallingOf : ℕ → ℕ → Bare → Type 0
  CallingOf g c b = Calling i (coded_below cells) (good_below cells) g c b

  -- the leaves that run stand in the control
  pub run_stands : (k : Control M.Place) (r : Running P) → In (at_control (running P part.control) k) r → Stands i (leaf_of P r)
  run_stands (At p) r m = IsWithin.stands (runs_within (world_of i) (Rests i) (leaves i (control_below cells)) P spots seen_spots (Stands i) law r part.control root p m)
  run_stands Done r m = absurd m

  pub run_leaf : (k : Control M.Place) (r : Running P) → In (at_control (running P part.control) k) r → IsLeaf P r
  run_leaf (At p) r m = runs_leaf P r part.control p m
  run_leaf Done r m = absurd m

  -- A CALL
  module _ (g : ℕ) (place : Place) (c : ℕ) (stands : Stands i (Placed (Enable g) place)) (e : called i g ≡ Some c) where
    pub call : CallRules i g c
    call = control.calls g place c stands e

    pub its_child : Instance
    its_child = (called_child cells (group_at part g).assigns c e).0

    pub at_child : cell_at cells c ≡ OfInstance (called_child cells (group_at part g).assigns c e).0
    at_child = (called_child cells (group_at part g).assigns c e).1

    pub it : ChildLaws cells c (kid c)
    it = below c (called_child cells (group_at part g).assigns c e).0 at_child

    pub keeps : KeepsBelow cells c
    keeps = kept c (called_child cells (group_at part g).assigns c e).0 at_child

    pub bank : IsBank (Coded.machine (kid c)) (region_bank (Coded.coding (kid c)))
    bank = region_bank_is (Coded.machine (kid c)) (Coded.coding (kid c)) it.region.coded it.region.front

    pub drives_it : drives part (Placed (Enable g) place) c ≡ true
    drives_it = ap (λ b. b || false) (called_drives cells (group_at part g).assigns c e)

    hole_opens : (b : Bare) → captures i g ≡ true → ((d : ℕ) → form_drives part (Enable g) d ≡ true → (d ≡ c → ⊥) → idle_at i (d ∷ []) (b.cell (d ∷ [])) ≡ b.cell (d ∷ []))
        → (held : Held) → truth_of (seen i held (group g) b.cell (ports.Done g)) ≡ One → ⊥
    hole_opens b k rest held is_set = not_one_of (truth_of (seen i held (group g) b.cell (ports.Done g))) (call.is_open k held b.cell rest) is_set

    -- it begins where its component rests
    begins : (b : Bare) → RestsAt cells c b → (captures i g ≡ true → (held : Held) → truth_of (seen i held (group g) b.cell (ports.Done g)) ≡ One → ⊥) → CallingOf g c b
    begins b rests hole =
        runs it.region.front.first
        (subst (at_fine (Coding.IsFine (Coded.coding (kid c)))) it.region.front.starts it.region.coded.starts)
        (λ n. rests.numbers_rest [] n ∙ sym (ap (λ k. code_of (kid c) k n) (sym it.region.front.starts) ∙ bank.zeros_at n))
        (subst (λ k. good_below cells c k (bare_under c b)) it.region.front.starts
        (keeps.started (bare_under c b) (record { cells = rests.cells_rest; numbers = λ d path n. rests.numbers_rest (d ∷ path) n })))
        hole

    -- at its end an idle edge leaves nothing under way
    pub end_rests : (b : Bare) → ((n : ℕ) → b.number c [] n ≡ code_of (kid c) Done n) → good_below cells c Done (bare_under c b) → (path : Path) → idle_below cells c path (b.cell (c ∷ path)) ≡ b.cell (c ∷ path)
    end_rests b code good path = AllRest.cells (keeps.ended (bare_under c b) good) path

    end_numbers : (b : Bare) → ((n : ℕ) → b.number c [] n ≡ code_of (kid c) Done n) → good_below cells c Done (bare_under c b) → (path : Path) (n : ℕ) → number_idle_below cells c path n (b.number c path n) ≡ 0
    end_numbers b code good [] zero = ap (number_idle_below cells c [] 0) (code 0) ∙ it.leaves_end
    end_numbers b code good [] (suc n) = ap (number_idle_below cells c [] (suc n)) (code (suc n)) ∙ number_idle_below-zero cells c [] (suc n)
    end_numbers b code good (d ∷ path) n = ap (number_idle_below cells c (d ∷ path) n) (AllRest.numbers (keeps.ended (bare_under c b) good) d path n) ∙ number_idle_below-zero cells c (d ∷ path) n

    pub decoded : (s : Kept) (k : Control (Machine.Place (Coded.machine (kid c)))) → at_fine (Coding.IsFine (Coded.coding (kid c))) k → ((n : ℕ) → s (Number (c ∷ []) n) ≡ code_of (kid c) k n) → child_at (kid c) c s ≡ k
    decoded s k fine code = ap (Bank.decode (region_bank (Coded.coding (kid c)))) (fun_ext code) ∙ bank.decoded k fine

  -- where all rests each list of leaves that stand is good
  all_rest : (k : Control M.Place) (b : Bare) → ((path : Path) → idle_at i path (b.cell path) ≡ b.cell path) → ((c : ℕ) (path : Path) (n : ℕ) → b.number c path n ≡ 0) → GoodOf (at_control (running P part.control) k) b
  all_rest k b rest zeros = record {
    rests = λ c none. record { cells_rest = λ path. rest (c ∷ path); numbers_rest = λ path n. zeros c path n };
    calls = λ g place stand c m e.
        let stands = run_stands k (AGroup g place stand) m in
        begins g place c stands e b (record { cells_rest = λ path. rest (c ∷ path); numbers_rest = λ path n. zeros c path n }) (λ caps. hole_opens g place c stands e b caps (λ d driven differ. rest (d ∷ [])));
    nowhere = λ c not_child path n. zeros c path n;
  }

  -- ONE STEP
  module _ (p : M.Place) (s : Kept) (good : GoodOf (running P part.control p) (bare s)) (ok : M.faults p s ≡ false) where
    abbrev R : List (Running P)
    R = running P part.control p

    abbrev R2 : List (Running P)
    R2 = at_control (running P part.control) (M.step p s)

    abbrev after : Kept
    after = edge (idle_by (λ path d. idle_at i path d) (λ path n v. number_idle_at i path n v)) M (At p) s

    abbrev next : Bare
    next = bare after

    -- of a cell that only leaves drive that end
    abbrev Quiet : ℕ → Type 0
    Quiet c = (r : Running P) → In R r → drives part (leaf_of P r) c ≡ true → (q : Running P) → In (leaf_next P r s) q → ⊥

    pub group_done : (g : ℕ) (place : Place) (k : Control (Machine.Place (LeafMachines.enable P g))) → ((q : Running P) → In (group_next P g place k) q → ⊥) → is_done k ≡ true
    group_done g place (At stand) never = absurd (never (AGroup g place stand) (inl refl))
    group_done g place Done never = refl

    pub island_done : (form : PlainForm) (place : Place) (k : Control (Machine.Place (LeafMachines.island P form))) → ((q : Running P) → In (island_next P form place k) q → ⊥) → is_done k ≡ true
    island_done form place (At stand) never = absurd (never (AnIsland form place stand) (inl refl))
    island_done form place Done never = refl

    pub ends_none : (r : Running P) → ((q : Running P) → In (leaf_next P r s) q → ⊥) → (x : Spot) → leaf_writes P r s x ≡ None
    ends_none (AGroup g place stand) never x = IsQuietEnd.nothing (kind_ends i (coded_below cells) s g (group_at part g).kind stand) (group_done g place _ never) x
    ends_none (AnIsland form place stand) never x = IsQuietEnd.nothing (island_ends i (coded_below cells) s form stand) (island_done form place _ never) x

    abbrev group_of : Running P → Option ℕ
    group_of (AGroup g place stand) = Some g
    group_of (AnIsland form place stand) = None

    pub group_goes : (g : ℕ) (place : Place) (k : Control (Machine.Place (LeafMachines.enable P g))) (q : Running P) → In (group_next P g place k) q → (is_done k ≡ false) × (leaf_of P q ≡ Placed (Enable g) place) × (group_of q ≡ Some g)
    group_goes g place (At stand) q (inl e) = (refl, ap (leaf_of P) (sym e), ap group_of (sym e))
    group_goes g place (At stand) q (inr m) = absurd m
    group_goes g place Done q m = absurd m

    island_goes : (form : PlainForm) (place : Place) (k : Control (Machine.Place (LeafMachines.island P form))) (q : Running P) → In (island_next P form place k) q → (leaf_of P q ≡ Placed form place) × (group_of q ≡ None)
    island_goes form place (At stand) q (inl e) = (ap (leaf_of P) (sym e), ap group_of (sym e))
    island_goes form place (At stand) q (inr m) = absurd m
    island_goes form place Done q m = absurd m

    same_leaf : (r q : Running P) → In (leaf_next P r s) q → leaf_of P q ≡ leaf_of P r
    same_leaf (AGroup g place stand) q m = (group_goes g place _ q m).1
    same_leaf (AnIsland form place stand) q m = (island_goes form place _ q m).0

    -- a driver of a cell among leaves, and one that goes on
    pub driver_of : (c : ℕ) (rs : List (Running P)) → ((r : Running P) × In rs r × (drives part (leaf_of P r) c ≡ true)) ⊎ ((r : Running P) → In rs r → drives part (leaf_of P r) c ≡ false)
    driver_of c [] = inr (λ r m. absurd m)
    driver_of c (r ∷ rs) = either (drives part (leaf_of P r) c) refl (driver_of c rs)
      where
        either : (b : Bool) → drives part (leaf_of P r) c ≡ b → ((q : Running P) × In rs q × (drives part (leaf_of P q) c ≡ true)) ⊎ ((q : Running P) → In rs q → drives part (leaf_of P q) c ≡ false)
            → ((q : Running P) × In (r ∷ rs) q × (drives part (leaf_of P q) c ≡ true)) ⊎ ((q : Running P) → In (r ∷ rs) q → drives part (leaf_of P q) c ≡ false)
        either true d later = inl (r, inl refl, d)
        either false d (inl later) = inl (later.0, inr later.1, later.2)
        either false d (inr later) = inr none
          where
            none : (q : Running P) → In (r ∷ rs) q → drives part (leaf_of P q) c ≡ false
            none q (inl same) = ap (λ t. drives part (leaf_of P t) c) (sym same) ∙ d
            none q (inr m) = later q m

    record Going (c : ℕ) (rs : List (Running P)) : Type 0 where
      leaf : Running P
      runs : In rs leaf
      driven : drives part (leaf_of P leaf) c ≡ true
      onward : Running P
      follows : In (leaf_next P leaf s) onward

    abbrev NoneGoes : ℕ → List (Running P) → Type 0
    NoneGoes c rs = (r : Running P) → In rs r → drives part (leaf_of P r) c ≡ true → (q : Running P) → In (leaf_next P r s) q → ⊥

    going_of : (c : ℕ) (rs : List (Running P)) → Going c rs ⊎ NoneGoes c rs
    going_of c [] = inr (λ r m. absurd m)
    going_of c (r ∷ rs) = either (drives part (leaf_of P r) c) refl (leaf_next P r s) refl (going_of c rs)
      where
        with_first : ((q : Running P) → drives part (leaf_of P r) c ≡ true → In (leaf_next P r s) q → ⊥) → NoneGoes c rs → NoneGoes c (r ∷ rs)
        with_first first later q (inl same) d t m = first t (ap (λ u. drives part (leaf_of P u) c) same ∙ d) (subst (λ u. In (leaf_next P u s) t) (sym same) m)
        with_first first later q (inr n) d t m = later q n d t m

        either : (b : Bool) → drives part (leaf_of P r) c ≡ b → (l : List (Running P)) → leaf_next P r s ≡ l → Going c rs ⊎ NoneGoes c rs → Going c (r ∷ rs) ⊎ NoneGoes c (r ∷ rs)
        either true d (q ∷ more) f later = inl (record { leaf = r; runs = inl refl; driven = d; onward = q; follows = subst (λ l. In l q) (sym f) (inl refl) })
        either b d l f (inl later) = inl (record { leaf = later.leaf; runs = inr later.runs; driven = later.driven; onward = later.onward; follows = later.follows })
        either true d [] f (inr later) = inr (with_first (λ q e m. subst (λ l. In l q) f m) later)
        either false d l f (inr later) = inr (with_first (λ q e m. true_false (drives part (leaf_of P r) c) e d) later)

    -- WHAT IS WRITTEN
    pub written_by : (x : Spot) (r : Running P) → In R r → spots (leaf_of P r) x ≡ true → M.writes p s x ≡ leaf_writes P r s x
    written_by x r m d = Alone.writes_it (alone (world_of i) (Rests i) (leaves i (control_below cells)) P spots seen_spots (Stands i) law s x r d part.control root p m)

    one_next : (k : Control M.Place) (x : Spot) (r q : Running P) → In (at_control (running P part.control) k) r → In (at_control (running P part.control) k) q → spots (leaf_of P r) x ≡ true → spots (leaf_of P q) x ≡ true → r ≡ q
    one_next (At p2) x r q m n d f = Alone.is_only (alone (world_of i) (Rests i) (leaves i (control_below cells)) P spots seen_spots (Stands i) law s x r d part.control root p2 m) q n f
    one_next Done x r q m n d f = absurd m

    pub none_written : (x : Spot) → ((r : Running P) → In R r → spots (leaf_of P r) x ≡ false) → M.writes p s x ≡ None
    none_written x free = writes_none (world_of i) (Rests i) (leaves i (control_below cells)) P spots seen_spots (Stands i) law s x part.control root p free

    pub quiet_writes : (c : ℕ) → Quiet c → (x : Spot) → ((r : Running P) → spots (leaf_of P r) x ≡ drives part (leaf_of P r) c) → M.writes p s x ≡ None
    quiet_writes c quiet x at_c = either (driver_of c R)
      where
        either : ((r : Running P) × In R r × (drives part (leaf_of P r) c ≡ true)) ⊎ ((r : Running P) → In R r → drives part (leaf_of P r) c ≡ false) → M.writes p s x ≡ None
        either (inl (r, m, d)) = written_by x r m (at_c r ∙ d) ∙ ends_none r (quiet r m d) x
        either (inr free) = none_written x (λ r m. at_c r ∙ free r m)

    idles : (x : Spot) → M.writes p s x ≡ None → after x ≡ spot_idle i x (s x)
    idles x none = ap (λ o. edge_of o (spot_idle i x (s x))) none

    -- CALLS in this cycle
    module _ (g : ℕ) (place : Place) (stand : Machine.Place (LeafMachines.enable P g)) (c : ℕ) (m : In R (AGroup g place stand)) (e : called i g ≡ Some c) where
      pub its_stands : Stands i (Placed (Enable g) place)
      its_stands = run_stands (At p) (AGroup g place stand) m

      pub acts : ActsAs i (coded_below cells) g c s (LeafMachines.enable P g) stand
      acts = kind_acts i (coded_below cells) g c s (group_at part g).kind (CallRules.plain (call g place c its_stands e)) e stand

      abbrev hole : Bool
      hole = hole_now i (kid c) g c (captures i g) (child_at (kid c) c s) s

      abbrev inputs : Held
      inputs = inputs_now i (kid c) g c (captures i g) s

      pub hole_at : (k : Control (Machine.Place (Coded.machine (kid c)))) (b : Bool) → child_at (kid c) c s ≡ k → captures i g ≡ b → hole ≡ (if b then captured_now i (kid c) g c (captures i g) s else is_done k)
      hole_at k b at caps =
          ap (λ q. hole_now i (kid c) g c (captures i g) q s) at ∙ ap (λ t. if t then captured_now i (kid c) g c (captures i g) s else is_done k) caps

      pub open_low : ((held : Held) → truth_of (seen i held (group g) (cells_in s) (ports.Done g)) ≡ One → ⊥) → captured_now i (kid c) g c (captures i g) s ≡ true → ⊥
      open_low is_open is_set = is_open (held_in s) (is_one_of (truth_of (seen i (held_in s) (group g) (cells_in s) (ports.Done g))) is_set)

      -- where it ends its numbers go to 0
      ended_numbers : hole ≡ true → CallingOf g c (bare s) → (path : Path) (n : ℕ) → number_idle_below cells c path n (s (Number (c ∷ path) n)) ≡ 0
      ended_numbers ends (runs q fine code gd is_open) = either (captures i g) refl
        where
          at_q : child_at (kid c) c s ≡ At q
          at_q = decoded g place c its_stands e s (At q) fine code

          either : (b : Bool) → captures i g ≡ b → (path : Path) (n : ℕ) → number_idle_below cells c path n (s (Number (c ∷ path) n)) ≡ 0
          either true caps path n = absurd (open_low (is_open caps) (sym (hole_at (At q) true at_q caps) ∙ ends))
          either false caps path n = true_false hole ends (hole_at (At q) false at_q caps)
      ended_numbers ends (at_end code gd is_open) = either (captures i g) refl
        where
          either : (b : Bool) → captures i g ≡ b → (path : Path) (n : ℕ) → number_idle_below cells c path n (s (Number (c ∷ path) n)) ≡ 0
          either true caps path n = absurd (open_low (is_open caps) (sym (hole_at Done true (decoded g place c its_stands e s Done tt code) caps) ∙ ends))
          either false caps path n = end_numbers g place c its_stands e (bare s) code gd path n
      ended_numbers ends (captured rests caps is_set) = λ path n. ap (number_idle_below cells c path n) (rests.numbers_rest path n) ∙ number_idle_below-zero cells c path n

      -- IT GOES ON
      module _ (goes_on : hole ≡ false) where
        pub writes_so : (x : Spot) → spots (Placed (Enable g) place) x ≡ true → M.writes p s x ≡ child_writes i (kid c) g c (captures i g) (child_at (kid c) c s) s x
        writes_so x d =
            written_by x (AGroup g place stand) m d ∙ acts.writes x ∙ ap (λ b. if b then None else child_writes i (kid c) g c (captures i g) (child_at (kid c) c s) s x) goes_on

        pub no_fault : child_faults i (kid c) g c (captures i g) (child_at (kid c) c s) s ≡ false
        no_fault =
            sym (ap (λ b. if b then false else child_faults i (kid c) g c (captures i g) (child_at (kid c) c s) s) goes_on)
            ∙ sym acts.faults ∙ no_faults P s (AGroup g place stand) part.control p ok m

        pub here : {A : Type 0} (v : Option A) → (if just c c then v else None) ≡ v
        here v = ap (λ b. if b then v else None) (just_same c)

        -- the child moves
        moves : (q : Machine.Place (Coded.machine (kid c))) → Coding.IsFine (Coded.coding (kid c)) q → ((n : ℕ) → s (Number (c ∷ []) n) ≡ code_of (kid c) (At q) n) → good_below cells c (At q) (bare_under c (bare s)) → CallingOf g c next
        moves q fine code gd =
            stands_next (Machine.step (Coded.machine (kid c)) q (pull c inputs s)) numbers
            (Keeps.fine (keeps g place c its_stands e) q (pull c inputs s) fine)
            (subst (λ b. good_below cells c (Machine.step (Coded.machine (kid c)) q (pull c inputs s)) b) same_next
            (Keeps.kept (keeps g place c its_stands e) q (pull c inputs s) fine gd
            (sym (ap (λ k. child_faults i (kid c) g c (captures i g) k s) at_q) ∙ no_fault)))
          where
            at_q : child_at (kid c) c s ≡ At q
            at_q = decoded g place c its_stands e s (At q) fine code

            driven : (path : Path) → spots (Placed (Enable g) place) (Cell (c ∷ path)) ≡ true
            driven path = drives_it g place c its_stands e

            write_of : (x : Spot) → spots (Placed (Enable g) place) x ≡ true → M.writes p s x ≡ child_writes i (kid c) g c (captures i g) (At q) s x
            write_of x d = writes_so x d ∙ ap (λ k. child_writes i (kid c) g c (captures i g) k s x) at_q

            numbers : (n : ℕ) → next.number c [] n ≡ code_of (kid c) (Machine.step (Coded.machine (kid c)) q (pull c inputs s)) n
            numbers n = ap (λ o. edge_of o (number_idle_below cells c [] n (s (Number (c ∷ []) n)))) (write_of (Number (c ∷ []) n) (driven []) ∙ here (Some (code_of (kid c) (Machine.step (Coded.machine (kid c)) q (pull c inputs s)) n)))

            same_bare : (a b : Bare) → ((path : Path) → a.cell path ≡ b.cell path) → ((d : ℕ) (path : Path) (n : ℕ) → a.number d path n ≡ b.number d path n) → a ≡ b
            same_bare a b f h = ap (λ u. record { cell = u; number = a.number }) (fun_ext f) ∙ ap (λ u. record { cell = b.cell; number = u }) (fun_ext (λ d. fun_ext (λ path. fun_ext (λ n. h d path n))))

            same_next : bare (edge (idle_by (λ path d. idle_below cells c path d) (λ path n v. number_idle_below cells c path n v)) (Coded.machine (kid c)) (At q) (pull c inputs s)) ≡ bare_under c next
            same_next = same_bare _ _
                (λ path. sym (ap (λ o. edge_of o (idle_below cells c path (s (Cell (c ∷ path))))) (write_of (Cell (c ∷ path)) (driven path) ∙ here (Machine.writes (Coded.machine (kid c)) q (pull c inputs s) (Cell path)))))
                (λ d path n. sym (ap (λ o. edge_of o (number_idle_below cells c (d ∷ path) n (s (Number (c ∷ d ∷ path) n)))) (write_of (Number (c ∷ d ∷ path) n) (driven (d ∷ path)) ∙ here (Machine.writes (Coded.machine (kid c)) q (pull c inputs s) (Number (d ∷ path) n)))))

            -- what captures makes an idle edge meanwhile
            opens : captures i g ≡ true → (held : Held) → truth_of (seen i held (group g) next.cell (ports.Done g)) ≡ One → ⊥
            opens caps = hole_opens g place c its_stands e next caps still
              where
                still : (d : ℕ) → form_drives part (Enable g) d ≡ true → (d ≡ c → ⊥) → idle_at i (d ∷ []) (next.cell (d ∷ [])) ≡ next.cell (d ∷ [])
                still d drive differ =
                    let idle = idles (Cell (d ∷ [])) (write_of (Cell (d ∷ [])) drive ∙ ap (λ b. if b then Machine.writes (Coded.machine (kid c)) q (pull c inputs s) (Cell []) else None) (not_just c d differ)) in
                    ap (idle_at i (d ∷ [])) idle ∙ rules.settles (cells_in s) (d ∷ []) ∙ sym idle

            stands_next : (k : Control (Machine.Place (Coded.machine (kid c)))) → ((n : ℕ) → next.number c [] n ≡ code_of (kid c) k n) → at_fine (Coding.IsFine (Coded.coding (kid c))) k → good_below cells c k (bare_under c next) → CallingOf g c next
            stands_next (At r) f is h = runs r is f h opens
            stands_next Done f is h = at_end f h opens

        -- the child is at its end, and the registers capture
        captures_now : ((n : ℕ) → s (Number (c ∷ []) n) ≡ code_of (kid c) Done n) → good_below cells c Done (bare_under c (bare s)) → captures i g ≡ true → CallingOf g c next
        captures_now code gd caps = by_cycle (cycle i (held_in s) (capture g c) (cells_in s)) refl
          where
            at_its_end : child_at (kid c) c s ≡ Done
            at_its_end = decoded g place c its_stands e s Done tt code

            write_of : (x : Spot) → spots (Placed (Enable g) place) x ≡ true → M.writes p s x ≡ turn_writes (form_drives part (Enable g)) (capture_now i (kid c) g c (captures i g) s) x
            write_of x d =
                writes_so x d ∙ ap (λ k. child_writes i (kid c) g c (captures i g) k s x) at_its_end
                ∙ ap (λ b. if b then turn_writes (form_drives part (Enable g)) (capture_now i (kid c) g c (captures i g) s) x else None) caps

            clean : turn_faults (capture_now i (kid c) g c (captures i g) s) ≡ false
            clean =
                sym (ap (λ b. if b then turn_faults (capture_now i (kid c) g c (captures i g) s) else false) caps)
                ∙ sym (ap (λ k. child_faults i (kid c) g c (captures i g) k s) at_its_end) ∙ no_fault

            by_cycle : (t : Ended) → cycle i (held_in s) (capture g c) (cells_in s) ≡ t → CallingOf g c next
            by_cycle (Faults fault) is = true_false true refl (ap (λ t. turn_faults (turn_of t)) (sym is) ∙ clean)
            by_cycle (Goes left) is = captured rest caps set_so
              where
                cell_of : (d : ℕ) (path : Path) → form_drives part (Enable g) d ≡ true → next.cell (d ∷ path) ≡ left (d ∷ path)
                cell_of d path drive =
                    ap (λ o. edge_of o (idle_at i (d ∷ path) (s (Cell (d ∷ path)))))
                    (write_of (Cell (d ∷ path)) drive ∙ ap (λ t. turn_writes (form_drives part (Enable g)) (turn_of t) (Cell (d ∷ path))) is ∙ ap (λ b. written b left (Cell (d ∷ path))) drive)

                rest : RestsAt cells c next
                rest = record {
                  cells_rest = λ path. let same = cell_of c path (drives_it g place c its_stands e) ∙ rules.children its_child_here (held_in s) (capture g c) (cells_in s) left c (at_child g place c its_stands e) is path in
                      ap (idle_below cells c path) same ∙ end_rests g place c its_stands e (bare s) code gd path ∙ sym same;
                  numbers_rest = λ path n. idles (Number (c ∷ path) n) (write_of (Number (c ∷ path) n) (drives_it g place c its_stands e) ∙ turn_number i (coded_below cells) s (form_drives part (Enable g)) (capture_now i (kid c) g c (captures i g) s) (c ∷ path) n)
                      ∙ end_numbers g place c its_stands e (bare s) code gd path n;
                }
                  where
                    its_child_here : Instance
                    its_child_here = (called_child cells (group_at part g).assigns c e).0

                set_so : (held : Held) → truth_of (seen i held (group g) next.cell (ports.Done g)) ≡ One
                set_so held =
                    is_one_of (truth_of (seen i held (group g) next.cell (ports.Done g)))
                    (CallRules.is_set (call g place c its_stands e) caps (held_in s) held (cells_in s) left next.cell is (λ d drive differ. cell_of d [] drive))

        goes : CallingOf g c (bare s) → CallingOf g c next
        goes (runs q fine code gd is_open) = moves q fine code gd
        goes (at_end code gd is_open) = either (captures i g) refl
          where
            either : (b : Bool) → captures i g ≡ b → CallingOf g c next
            either true caps = captures_now code gd caps
            either false caps = true_false hole (hole_at Done false (decoded g place c its_stands e s Done tt code) caps) goes_on
        goes (captured rests caps is_set) =
            true_false hole (ap (λ b. if b then captured_now i (kid c) g c (captures i g) s else is_done (child_at (kid c) c s)) caps ∙ ap is_one (is_set (held_in s))) goes_on

    -- A CELL THAT IS QUIET rests afterwards
    quiet_numbers : (c : ℕ) → Quiet c → (path : Path) (n : ℕ) → number_idle_below cells c path n (s (Number (c ∷ path) n)) ≡ 0
    quiet_numbers c quiet = by_child (is_child cells c)
      where
        of_driver : (child : Instance) → cell_at cells c ≡ OfInstance child → (r : Running P) → In R r → drives part (leaf_of P r) c ≡ true → (path : Path) (n : ℕ) → number_idle_below cells c path n (s (Number (c ∷ path) n)) ≡ 0
        of_driver child at (AGroup g place stand) m d =
            let stands = run_stands (At p) (AGroup g place stand) m in
            let e = control.calls_it g place c child stands at d in
            ended_numbers g place stand c m e (sym (ActsAs.ends (acts g place stand c m e)) ∙ group_done g place _ (quiet (AGroup g place stand) m d)) (good.calls g place stand c m e)
        of_driver child at (AnIsland form place stand) m d =
            absurd (control.no_island_calls form place c child (run_stands (At p) (AnIsland form place stand) m) (run_leaf (At p) (AnIsland form place stand) m) at d)

        by_driver : (child : Instance) → cell_at cells c ≡ OfInstance child → ((r : Running P) × In R r × (drives part (leaf_of P r) c ≡ true)) ⊎ ((r : Running P) → In R r → drives part (leaf_of P r) c ≡ false)
            → (path : Path) (n : ℕ) → number_idle_below cells c path n (s (Number (c ∷ path) n)) ≡ 0
        by_driver child at (inl (r, m, d)) = of_driver child at r m d
        by_driver child at (inr free) = λ path n. ap (number_idle_below cells c path n) (RestsAt.numbers_rest (good.rests c free) path n) ∙ number_idle_below-zero cells c path n

        by_child : ((child : Instance) × (cell_at cells c ≡ OfInstance child)) ⊎ ((child : Instance) → cell_at cells c ≡ OfInstance child → ⊥) → (path : Path) (n : ℕ) → number_idle_below cells c path n (s (Number (c ∷ path) n)) ≡ 0
        by_child (inl (child, at)) = by_driver child at (driver_of c R)
        by_child (inr none) = λ path n. number_stays cells c none path n (s (Number (c ∷ path) n)) ∙ good.nowhere c none path n

    rests_after : (c : ℕ) → Quiet c → RestsAt cells c next
    rests_after c quiet = record {
      cells_rest = λ path. let idle = idles (Cell (c ∷ path)) (quiet_writes c quiet (Cell (c ∷ path)) (λ r. refl)) in ap (idle_below cells c path) idle ∙ rules.settles (cells_in s) (c ∷ path) ∙ sym idle;
      numbers_rest = λ path n. idles (Number (c ∷ path) n) (quiet_writes c quiet (Number (c ∷ path) n) (λ r. refl)) ∙ quiet_numbers c quiet path n;
    }

    -- a leaf that runs next drives what is quiet, or it ran before
    later_runs : (r q : Running P) → In R r → In (leaf_next P r s) q → In R2 q
    later_runs r q m follows = stays P s r q follows part.control p m

    -- THE CALLS that run next
    next_call : (g : ℕ) (place : Place) (stand : Machine.Place (LeafMachines.enable P g)) (c : ℕ) → In R2 (AGroup g place stand) → called i g ≡ Some c → CallingOf g c next
    next_call g place stand c m e = by_going (going_of c R)
      where
        stands : Stands i (Placed (Enable g) place)
        stands = run_stands (M.step p s) (AGroup g place stand) m

        driven : drives part (Placed (Enable g) place) c ≡ true
        driven = drives_it g place c stands e

        -- what goes on and drives a cell of the group is the group
        is_it : (d : ℕ) → drives part (Placed (Enable g) place) d ≡ true → (r q : Running P) → In R r → drives part (leaf_of P r) d ≡ true → In (leaf_next P r s) q → AGroup g place stand ≡ q
        is_it d drive r q n f follows =
            one_next (M.step p s) (Cell (d ∷ [])) (AGroup g place stand) q m (later_runs r q n follows) drive (ap (λ t. drives part t d) (same_leaf r q follows) ∙ f)

        went_on : (r q : Running P) → In R r → In (leaf_next P r s) q → AGroup g place stand ≡ q → CallingOf g c next
        went_on (AGroup h place2 stand2) q n follows same =
            let onward = group_goes h place2 _ q follows in
            let is_group : h ≡ g = some_is h g (sym onward.2 ∙ ap group_of (sym same)) in
            subst (λ k. CallingOf k c next) is_group
            (let f : called i h ≡ Some c = ap (called i) is_group ∙ e in
            goes h place2 stand2 c n f (sym (ActsAs.ends (acts h place2 stand2 c n f)) ∙ onward.0) (good.calls h place2 stand2 c n f))
          where
            some_is : (a b : ℕ) → ◌≡◌ {A = Option ℕ} (Some a) (Some b) → a ≡ b
            some_is a b f = cc
        went_on (AnIsland form place2 stand2) q n follows same = absurd (no_group (ap group_of same ∙ (island_goes form place2 _ q follows).1))
          where
            no_group : ◌≡◌ {A = Option ℕ} (Some g) None → ⊥
            no_group f = cc

        begin : Quiet c → CallingOf g c next
        begin quiet = begins g place c stands e next (rests_after c quiet) (λ caps. hole_opens g place c stands e next caps still)
          where
            -- what drives a cell of the group and goes on drives its child too
            quiet_too : (d : ℕ) → drives part (Placed (Enable g) place) d ≡ true → Quiet d
            quiet_too d drive r n f q follows =
                let same = is_it d drive r q n f follows in
                quiet r n (ap (λ t. drives part t c) (sym (same_leaf r q follows) ∙ ap (leaf_of P) (sym same)) ∙ driven) q follows

            still : (d : ℕ) → form_drives part (Enable g) d ≡ true → (d ≡ c → ⊥) → idle_at i (d ∷ []) (next.cell (d ∷ [])) ≡ next.cell (d ∷ [])
            still d drive differ = RestsAt.cells_rest (rests_after d (quiet_too d drive)) []

        by_going : Going c R ⊎ NoneGoes c R → CallingOf g c next
        by_going (inl going) = went_on going.leaf going.onward going.runs going.follows (is_it c driven going.leaf going.onward going.runs going.driven going.follows)
        by_going (inr quiet) = begin quiet

    next_nowhere : (c : ℕ) → ((child : Instance) → cell_at cells c ≡ OfInstance child → ⊥) → (path : Path) (n : ℕ) → next.number c path n ≡ 0
    next_nowhere c none path n =
        idles (Number (c ∷ path) n) (by_driver (driver_of c R)) ∙ number_stays cells c none path n (s (Number (c ∷ path) n)) ∙ good.nowhere c none path n
      where
        away : (g d : ℕ) → called i g ≡ Some d → just d c ≡ false
        away g d e = let child = called_child cells (group_at part g).assigns d e in not_just d c (λ same. none child.0 (ap (cell_at cells) same ∙ child.1))

        of_leaf : (r : Running P) → leaf_writes P r s (Number (c ∷ path) n) ≡ None
        of_leaf (AGroup g place stand) = kind_number i (coded_below cells) s c path n g (group_at part g).kind (away g) stand
        of_leaf (AnIsland form place stand) = island_number i (coded_below cells) s c path n form stand

        by_driver : ((r : Running P) × In R r × (drives part (leaf_of P r) c ≡ true)) ⊎ ((r : Running P) → In R r → drives part (leaf_of P r) c ≡ false) → M.writes p s (Number (c ∷ path) n) ≡ None
        by_driver (inl (r, m, d)) = written_by (Number (c ∷ path) n) r m d ∙ of_leaf r
        by_driver (inr free) = none_written (Number (c ∷ path) n) free

    kept_here : GoodOf R2 next
    kept_here = record {
      rests = λ c none. rests_after c (λ r m d q follows. true_false (drives part (leaf_of P r) c) d (ap (λ t. drives part t c) (sym (same_leaf r q follows)) ∙ none q (later_runs r q m follows)));
      calls = next_call;
      nowhere = next_nowhere;
    }

  -- THE INVARIANT of an instance, from those of the components below
  pub node_keeps : Keeps (coded_control i) (good_control i) (λ path d. idle_at i path d) (λ path n v. number_idle_at i path n v)
  node_keeps = record {
    kept = λ p s fine good ok. kept_here p s good ok;
    fine = λ p s fine. (control_coded i control).coded.stays p s fine;
    started = λ b rest. all_rest M.start b rest.cells rest.numbers;
    ended = λ b good. record { cells = ended_cells b good; numbers = λ c path n. RestsAt.numbers_rest (good.rests c (λ r m. absurd m)) path n };
    zero_stays = number_idle_at-zero i;
    leaves_end = leaves_end i;
    inputs = λ p s n. Does.only (node_does part cells control islands below) p s (Input n) refl;
  }
    where
      ended_cells : (b : Bare) → GoodOf [] b → (path : Path) → idle_at i path (b.cell path) ≡ b.cell path
      ended_cells b good [] = refl
      ended_cells b good (c ∷ path) = RestsAt.cells_rest (good.rests c (λ r m. absurd m)) path

mutual
  -- THE LAW, by the tree
  pub control_keeps : (i : Instance) → ((path : Path) → ControlRules (instance_at i path)) → ((path : Path) → IslandsDo (instance_at i path))
      → Keeps (coded_control i) (good_control i) (λ path d. idle_at i path d) (λ path n v. number_idle_at i path n v)
  control_keeps (Node part cells) all_rules all_islands =
      node_keeps part cells (all_rules []) (all_islands []) (λ c child at. child_does cells c (λ path. all_rules (c ∷ path)) (λ path. all_islands (c ∷ path)) child at)
      (λ c child at. child_keeps cells c (λ path. all_rules (c ∷ path)) (λ path. all_islands (c ∷ path)) child at)

  -- and of what stands at a cell
  pub child_keeps : (cells : Cells) (c : ℕ) → ((path : Path) → ControlRules (instances.child_at cells c path)) → ((path : Path) → IslandsDo (instances.child_at cells c path)) → (child : Instance) → cell_at cells c ≡ OfInstance child → KeepsBelow cells c
  child_keeps no_cells c all_rules all_islands child at = absurd (nothing_instance child at)
  child_keeps (a_primitive row rest) zero all_rules all_islands child at = absurd (row_instance row child at)
  child_keeps (a_primitive row rest) (suc c) all_rules all_islands child at =
      let inner = child_keeps rest c all_rules all_islands child at in
      record { kept = inner.kept; fine = inner.fine; started = inner.started; ended = inner.ended; zero_stays = inner.zero_stays; leaves_end = inner.leaves_end; inputs = inner.inputs }
  child_keeps (an_instance other rest) zero all_rules all_islands child at =
      let inner = control_keeps other all_rules all_islands in
      record { kept = inner.kept; fine = inner.fine; started = inner.started; ended = inner.ended; zero_stays = inner.zero_stays; leaves_end = inner.leaves_end; inputs = inner.inputs }
  child_keeps (an_instance other rest) (suc c) all_rules all_islands child at =
      let inner = child_keeps rest c all_rules all_islands child at in
      record { kept = inner.kept; fine = inner.fine; started = inner.started; ended = inner.ended; zero_stays = inner.zero_stays; leaves_end = inner.leaves_end; inputs = inner.inputs }
