-- THE LAW OF A CALL: the machine of a group that calls does what the call means, where the control of the child does what it means.
use Rattle.std.proofs.Common.{◌≡◌, ℕ, zero, suc, ◌+◌, ◌-◌, ◌<◌, ◌≤◌, inl, nat_lt, Bool, true, false, ◌||◌, [], ◌∷◌, Option, Some, None, if◌then◌else◌, refl, sym, ap, ◌∙◌, subst, arith}
use Rattle.std.proofs.Math.Path.{fun_ext}
use Rattle.std.proofs.lemmas.Bool.{lt-ltb, ltb-true, both_ways}
use Rattle.cx_text.specs.declared.places.Place.{Place}
use Rattle.cx_meaning.specs.declared.ports.PortRef.TheVariants as ports
use Rattle.cx_meaning.specs.declared.sights.Seen.TheVariants.{Undefined}
use Rattle.cx_meaning.specs.Designs.{PlainComponent, Enable, PlainStatement, Placed, group_at}
use Rattle.cx_meaning.specs.Instances.{Instance, Node, Cells, cell_at, Path, State, just, merge, put, under, idle_at, idle_below, idle, input_count}
use Rattle.cx_meaning.specs.Active.{group, capture}
use Rattle.cx_meaning.specs.Truths.{truth_of}
use Rattle.cx_meaning.specs.Sights.{Held, seen}
use Rattle.cx_meaning.specs.Cycles.{Fault, Ended, Goes, Faults, cycle}
use Rattle.cx_meaning.specs.Answers.{Answer, End, More, Meaning, after_turns, then_do, idle_turn, Turn, turn_then, one_turn}
use Rattle.cx_meaning.specs.Answers as answers
use Rattle.cx_meaning.specs.Control.{form_drives, drives}
use Rattle.cx_meaning.specs.Islands.{turn_of, is_one}
use Rattle.cx_meaning.specs.Calls as calls
use Rattle.cx_meaning.specs.Calls.{captures, lift_answer, inputs_of_call, after_child}
use Rattle.cx_meaning.specs.Running.{control_below}
use Rattle.cx_rules.specs.Items.{Dynamic, Visited}
use Rattle.cx_rules.specs.Footprints.{Reads}
use Rattle.cx_frames.specs.Agreeing as frames
use Rattle.cx_frames.proofs.AlikeLemmas.{AlikeTurn}
use Rattle.cx_frames.proofs.LeafFrames.{called_drives, IsGood, group_seen, capture_alike}
use Rattle.cx_frames.proofs.StatementFrames.{through, good}
use Rattle.cx_lockstep.specs.Worlds.{World, Control, At, Done, Machine, edge_of, edge, Agree, is_done}
use Rattle.cx_lockstep.specs.Doing as doing
use Rattle.cx_lockstep.specs.Doing.{Settles, After, EndsAs, GoesOn, Meets, Does}
use Rattle.cx_lockstep.proofs.FollowLaws.{Respects, ends_respects, goes_respects, moved, meets_done}
use Rattle.cx_lockstep.proofs.TurnLaws.{meets_cycle}
use Rattle.cx_control.specs.Codings.{Coding, Bank, region_bank, at_fine}
use Rattle.cx_control.specs.CodingLaws.{IsBank, region_bank_is}
use Rattle.cx_control.specs.StatementCodingLaws.{IsRegion}
use Rattle.cx_control.specs.Spots.{Spot, Cell, Number, Input, Holds, Kept, cells_in, held_in, shown, pull, own_input, spots_of, reads_spot}
use Rattle.cx_control.specs.Numbers.{number_idle_at, number_idle_below, spot_idle, world_of, world_below, Rests, RestsBelow}
use Rattle.cx_control.specs.Leaves.{Coded, code_of, child_at, written, turn_writes, turn_faults, inputs_now, captured_now, hole_now, capture_now, child_writes, call_writes, child_faults, call_machine}
use Rattle.cx_control.specs.InstanceRules.{InstanceRules, Stands}
use Rattle.cx_control.specs.CallRules.{CallRules}
use Rattle.cx_control.proofs.RestLaws.{number_idle_at-zero, number_idle_below-zero, rest_is_kept, idle_is_shown, idle_rests, cycle_keeps_root, cycle_keeps_at}
use Rattle.cx_control.proofs.GroupLaws.{spots_within, turn_writes-none}
use Rattle.cx_meaning.proofs.InstancesLemmas.{just_true, not_just, just_same}
use Rattle.cx_rules.proofs.CirclesLemmas.{cells_below}

-- what a caller knows of the control at a cell
pub record ChildLaws (cells : Cells) (c : ℕ) (child : Coded) : Type 1 where
  pub does : Does (world_below cells c) (RestsBelow cells c) child.machine (spots_of (λ e. true)) (reads_spot (λ e. Unit {0})) (λ held. control_below cells c held)
  pub region : IsRegion child.machine child.coding
  -- an idle edge leaves its end
  pub leaves_end : number_idle_below cells c [] 0 (Coding.size child.coding) ≡ 0
  pub own_inputs : (held other : Held) (s : State) (n : ℕ) → ((input : ℕ) → input < input_count (cell_at cells c) → held input ≡ other input) → control_below cells c held s n ≡ control_below cells c other s n

module _ (part : PlainComponent) (cells : Cells) (rules : InstanceRules (Node part cells)) (g : ℕ) (place : Place) (stands : Stands (Node part cells) (Placed (Enable g) place))
    (c : ℕ) (call : CallRules (Node part cells) g c) (child : Coded) (below : ChildLaws cells c child) (capturing : Bool) (is_so : captures (Node part cells) g ≡ capturing) where
  abbrev i : Instance
  i = Node part cells

  abbrev Whole : PlainStatement
  Whole = Placed (Enable g) place

  abbrev Seen : ℕ → Type 0
  Seen = Reads part Whole

  abbrev visited : Visited
  visited = record { context = Dynamic; form = Enable g; place = place }

  abbrev K : Machine Spot Holds
  K = call_machine i child g c capturing

  abbrev Stand : Type 0
  Stand = Machine.Place child.machine

  bank : IsBank child.machine (region_bank child.coding)
  bank = region_bank_is child.machine child.coding below.region.coded below.region.front

  driven_here : drives part Whole c ≡ true
  driven_here = ap (λ b. b || false) (called_drives cells (group_at part g).assigns c call.calls)

  within : (d : ℕ) → drives part Whole d ≡ true → Seen d
  within d e = (rules.closed Whole).driven d e

  -- what the child's control reads and drives of its own store
  abbrev Own : Spot → Type 0
  Own (Cell path) = Unit {0}
  Own (Number [] n) = ⊥
  Own (Number (d ∷ path) n) = Unit {0}
  Own (Input n) = Unit {0}

  abbrev is_below : Spot → Bool
  is_below = spots_of (just c)

  good_here : (held : Held) → IsGood i held Seen rules.kept (through i held rules.kept rules.circles rules.groups rules.islands visited stands Seen (rules.closed Whole)) (cells_below i rules.circles) g
  good_here held = good i held rules.kept rules.circles rules.groups rules.islands visited stands Seen (rules.closed Whole) g (inl refl)

  module _ (R : Spot → Type 0) (more : (x : Spot) → reads_spot Seen x → R x) (D : Spot → Bool) (less : (x : Spot) → D x ≡ false → spots_of (drives part Whole) x ≡ false)
      (e : Held) (st : State) (settled : Settles (world_of i) (Rests i) R (shown e st)) where
    -- the inputs that are held
    abbrev held_now : Held
    held_now = own_input (input_count (cell_at cells c)) (inputs_of_call i e g c st)

    cell_read : (d : ℕ) (path : Path) → Seen d → R (Cell (d ∷ path))
    cell_read d path inside = more (Cell (d ∷ path)) inside

    own_cell : (path : Path) → R (Cell (c ∷ path))
    own_cell path = more (Cell (c ∷ path)) (within c driven_here)

    own_number : (path : Path) (n : ℕ) → R (Number (c ∷ path) n)
    own_number path n = more (Number (c ∷ path) n) (within c driven_here)

    -- THE STORE SHOWS the child's control at a place and its store, and all else as it was
    record Shows (p : Control Stand) (own s : Kept) : Type 0 where
      cells_there : (path : Path) → s (Cell (c ∷ path)) ≡ own (Cell path)
      code : (n : ℕ) → s (Number (c ∷ []) n) ≡ code_of child p n
      deeper : (d : ℕ) (path : Path) (n : ℕ) → s (Number (c ∷ d ∷ path) n) ≡ own (Number (d ∷ path) n)
      inputs : (n : ℕ) → own (Input n) ≡ held_now n
      outside : (x : Spot) → R x → is_below x ≡ false → s x ≡ shown e st x

    module _ (p : Control Stand) (fine : at_fine (Coding.IsFine child.coding) p) (own s : Kept) (shows : Shows p own s) (w : Kept) (near : Agree R w s) where
      decoded : child_at child c w ≡ p
      decoded =
          ap (Bank.decode (region_bank child.coding)) (fun_ext (λ n. near (Number (c ∷ []) n) (own_number [] n) ∙ shows.code n))
          ∙ bank.decoded p fine

      elsewhere : (d : ℕ) (path : Path) → Seen d → just c d ≡ false → w (Cell (d ∷ path)) ≡ st (d ∷ path)
      elsewhere d path inside away = near (Cell (d ∷ path)) (cell_read d path inside) ∙ shows.outside (Cell (d ∷ path)) (cell_read d path inside) away

      inputs_near : held_in w ≡ e
      inputs_near = fun_ext (λ n. near (Input n) (more (Input n) tt) ∙ shows.outside (Input n) (more (Input n) tt) refl)

      -- the state with what is below the cell now
      abbrev mixed : State
      mixed = merge (just c) (cells_in w) st

      like_mixed : frames.Agree Seen (cells_in w) mixed
      like_mixed d path inside = either (just c d) refl
        where
          either : (b : Bool) → just c d ≡ b → w (Cell (d ∷ path)) ≡ (if b then w (Cell (d ∷ path)) else st (d ∷ path))
          either true is = refl
          either false is = elsewhere d path inside is

      held_same : (n : ℕ) → inputs_now i child g c capturing w n ≡ held_now n
      held_same n = either (nat_lt n (input_count (cell_at cells c))) refl
        where
          either : (b : Bool) → nat_lt n (input_count (cell_at cells c)) ≡ b
              → (if b then seen i (held_in w) (group g) (cells_in w) (ports.Cell c (suc n)) else Undefined) ≡ (if b then seen i e (group g) st (ports.Cell c (suc n)) else Undefined)
          either true is =
              ap (λ h. seen i h (group g) (cells_in w) (ports.Cell c (suc n))) inputs_near
              ∙ group_seen i e Seen rules.kept (through i e rules.kept rules.circles rules.groups rules.islands visited stands Seen (rules.closed Whole)) (cells_below i rules.circles) g (good_here e)
              (cells_in w) mixed like_mixed (ports.Cell c (suc n)) (within c driven_here)
              ∙ call.held e mixed st (λ d path differ. ap (λ b. if b then w (Cell (d ∷ path)) else st (d ∷ path)) (not_just c d differ)) n (ltb-true n (input_count (cell_at cells c)) is)
          either false is = refl

      -- the hole is 0 until the registers have captured
      low : (b : Bool) → capturing ≡ b → (if b then captured_now i child g c capturing w else false) ≡ false
      low false is = refl
      low true is = call.is_open (is_so ∙ is) (held_in w) (cells_in w) (λ d driven differ. still d driven (not_just c d differ))
        where
          still : (d : ℕ) → drives part Whole d ≡ true → just c d ≡ false → idle_at i (d ∷ []) (w (Cell (d ∷ []))) ≡ w (Cell (d ∷ []))
          still d driven away =
              subst (λ v. idle_at i (d ∷ []) v ≡ v) (sym (elsewhere d [] (within d driven) away)) (settled (Cell (d ∷ [])) (cell_read d [] (within d driven)))

      module _ (hole : Bool) (is_hole : hole_now i child g c capturing p w ≡ hole) where
        steps_as : K.step tt w ≡ (if hole then Done else At tt)
        steps_as = ap (λ k. if hole_now i child g c capturing k w then Done else At tt) decoded ∙ ap (λ b. if b then Done else At tt) is_hole

        writes_as : (x : Spot) → K.writes tt w x ≡ (if hole then None else child_writes i child g c capturing p w x)
        writes_as x = ap (λ k. call_writes i child g c capturing k w x) decoded ∙ ap (λ b. if b then None else child_writes i child g c capturing p w x) is_hole

        faults_as : K.faults tt w ≡ (if hole then false else child_faults i child g c capturing p w)
        faults_as =
            ap (λ k. if hole_now i child g c capturing k w then false else child_faults i child g c capturing k w) decoded
            ∙ ap (λ b. if b then false else child_faults i child g c capturing p w) is_hole

    -- THE CHILD RUNS in the store of the caller, cycle for cycle
    module _ (q : Stand) (fine : Coding.IsFine child.coding q) (own s : Kept) (shows : Shows (At q) own s) (w : Kept) (near : Agree R w s) where
      abbrev its : Kept
      its = pull c (inputs_now i child g c capturing w) w

      its_near : Agree Own its own
      its_near (Cell path) r = near (Cell (c ∷ path)) (own_cell path) ∙ shows.cells_there path
      its_near (Number [] n) r = absurd r
      its_near (Number (d ∷ path) n) r = near (Number (c ∷ d ∷ path) n) (own_number (d ∷ path) n) ∙ shows.deeper d path n
      its_near (Input n) r = held_same (At q) fine own s shows w near n ∙ sym (shows.inputs n)

      still_low : hole_now i child g c capturing (At q) w ≡ false
      still_low = low (At q) fine own s shows w near capturing refl

      goes_on : K.step tt w ≡ At tt
      goes_on = steps_as (At q) fine own s shows w near false still_low

      its_faults : K.faults tt w ≡ Machine.faults child.machine q its
      its_faults = faults_as (At q) fine own s shows w near false still_low

      its_writes : (x : Spot) → K.writes tt w x ≡ child_writes i child g c capturing (At q) w x
      its_writes x = writes_as (At q) fine own s shows w near false still_low x

      abbrev after_its : Kept
      after_its = edge (World.idle (world_below cells c)) child.machine (At q) its

      abbrev after_all : Kept
      after_all = edge (World.idle (world_of i)) K (At tt) w

      at_own : {A : Type 0} (v : Option A) → (if just c c then v else None) ≡ v
      at_own v = ap (λ b. if b then v else None) (just_same c)

      away_none : (x : Spot) → is_below x ≡ false → child_writes i child g c capturing (At q) w x ≡ None
      away_none (Cell []) away = refl
      away_none (Cell (d ∷ path)) away = ap (λ b. if b then Machine.writes child.machine q its (Cell path) else None) away
      away_none (Number [] n) away = refl
      away_none (Number (d ∷ []) n) away = ap (λ b. if b then Some (code_of child (Machine.step child.machine q its) n) else None) away
      away_none (Number (d ∷ f ∷ path) n) away = ap (λ b. if b then Machine.writes child.machine q its (Number (f ∷ path) n) else None) away
      away_none (Input n) away = refl

      shows_next : Shows (Machine.step child.machine q its) after_its after_all
      shows_next = record {
        cells_there = λ path. ap (λ o. edge_of o (idle_below cells c path (w (Cell (c ∷ path))))) (its_writes (Cell (c ∷ path)) ∙ at_own (Machine.writes child.machine q its (Cell path)));
        code = λ n. ap (λ o. edge_of o (number_idle_below cells c [] n (w (Number (c ∷ []) n)))) (its_writes (Number (c ∷ []) n) ∙ at_own (Some (code_of child (Machine.step child.machine q its) n)));
        deeper = λ d path n. ap (λ o. edge_of o (number_idle_below cells c (d ∷ path) n (w (Number (c ∷ d ∷ path) n)))) (its_writes (Number (c ∷ d ∷ path) n) ∙ at_own (Machine.writes child.machine q its (Number (d ∷ path) n)));
        inputs = λ n. ap (λ o. edge_of o (its (Input n))) (below.does.only q its (Input n) refl) ∙ held_same (At q) fine own s shows w near n;
        outside = λ x r away.
            ap (λ o. edge_of o (spot_idle i x (w x))) (its_writes x ∙ away_none x away)
            ∙ ap (spot_idle i x) (near x r ∙ shows.outside x r away) ∙ (rest_is_kept i).quiet x (shown e st x) (settled x r);
      }

    runs_on : (P : Control Stand → Kept → Type 0) (Q : Control (Unit {0}) → Kept → Type 0) (u : ℕ)
        → ((p : Control Stand) (own s : Kept) → at_fine (Coding.IsFine child.coding) p → Shows p own s → P p own → After (world_of i) (Rests i) K R u Q (At tt) s)
        → (k : ℕ) (p : Control Stand) (own s : Kept) → at_fine (Coding.IsFine child.coding) p → Shows p own s
        → After (world_below cells c) (RestsBelow cells c) child.machine Own k P p own → After (world_of i) (Rests i) K R (k + u) Q (At tt) s
    runs_on P Q u finish zero p own s fine shows now =
        let same : u ≡ 0 + u = omega arith in subst (λ n. After (world_of i) (Rests i) K R n Q (At tt) s) same (finish p own s fine shows now)
    runs_on P Q u finish (suc k) Done own s fine shows now = absurd now
    runs_on P Q u finish (suc k) (At q) own s fine shows now =
        let same : suc (k + u) ≡ suc k + u = omega arith in
        let go : After (world_of i) (Rests i) K R (suc (k + u)) Q (At tt) s =
        λ w near. let it = now (pull c (inputs_now i child g c capturing w) w) (its_near q fine own s shows w near) in (
          its_faults q fine own s shows w near ∙ it.0,
          subst (λ d. After (world_of i) (Rests i) K R (k + u) Q d (edge (World.idle (world_of i)) K (At tt) w)) (sym (goes_on q fine own s shows w near))
              (runs_on P Q u finish k (Machine.step child.machine q (pull c (inputs_now i child g c capturing w) w)) _ _ (bank.stays q _ fine) (shows_next q fine own s shows w near) it.1),
        )
        in
        subst (λ n. After (world_of i) (Rests i) K R n Q (At tt) s) same go

    not_below : (x : Spot) → spots_of (drives part Whole) x ≡ false → is_below x ≡ false
    not_below (Cell []) free = refl
    not_below (Cell (d ∷ path)) free = not_just c d (λ is. both_ways (drives part Whole c) (ap (drives part Whole) (sym is) ∙ free) driven_here)
    not_below (Number [] n) free = refl
    not_below (Number (d ∷ path) n) free = not_just c d (λ is. both_ways (drives part Whole c) (ap (drives part Whole) (sym is) ∙ free) driven_here)
    not_below (Input n) free = refl

    -- a last turn, in which nothing is written
    record IsSilent (w : Kept) : Type 0 where
      clean : K.faults tt w ≡ false
      is_over : K.step tt w ≡ Done
      nothing : (x : Spot) → K.writes tt w x ≡ None

    last_cycle : (s : Kept) (last : State) (m : ℕ) → ((w : Kept) → Agree R w s → IsSilent w) → ((x : Spot) → R x → spot_idle i x (s x) ≡ shown e (idle i last) x)
        → ((x : Spot) → R x → D x ≡ false → shown e (idle i last) x ≡ s x) → Meets (world_of i) (Rests i) K R {F = Fault} e D (At tt) s m (idle_turn (idle i) last m)
    last_cycle s last zero silent idles kept = tt
    last_cycle s last (suc m) silent idles kept =
        meets_cycle (world_of i) (Rests i) {F = Fault} K R e D tt Done s (idle i last) m (λ w near. IsSilent.clean (silent w near)) (λ w near. IsSilent.is_over (silent w near))
        (λ w near x r. ap (λ o. edge_of o (spot_idle i x (w x))) (IsSilent.nothing (silent w near) x) ∙ ap (spot_idle i x) (near x r) ∙ idles x r)
        kept (End (idle i last) 0) (meets_done (world_of i) (Rests i) K R e D (idle i last) m (λ x r. idle_rests i rules e last x))

    -- THE CHILD HAS ENDED with this state
    module _ (own : State) where
      abbrev over : State
      over = put c own st

      -- its numbers still say so
      abbrev at_end : Kept
      at_end (Cell path) = over path
      at_end (Number [] n) = 0
      at_end (Number (d ∷ []) n) = if just c d then code_of child Done n else 0
      at_end (Number (d ∷ f ∷ path) n) = 0
      at_end (Input n) = e n

      at_cell : (P : ℕ → Type 0) (d : ℕ) → (just c d ≡ true → P c) → (just c d ≡ false → P d) → P d
      at_cell P d here away = either (just c d) refl
        where
          either : (b : Bool) → just c d ≡ b → P d
          either true is = subst P (just_true c d is) (here is)
          either false is = away is

      over_here : (path : Path) → over (c ∷ path) ≡ own path
      over_here path = ap (λ b. if b then own path else st (c ∷ path)) (just_same c)

      over_away : (d : ℕ) (path : Path) → just c d ≡ false → over (d ∷ path) ≡ st (d ∷ path)
      over_away d path away = ap (λ b. if b then own path else st (d ∷ path)) away

      code_here : (n : ℕ) → ◌≡◌ {A = ℕ} (if just c c then code_of child Done n else 0) (code_of child Done n)
      code_here n = ap (λ b. if b then code_of child Done n else 0) (just_same c)

      code_away : (d n : ℕ) → just c d ≡ false → ◌≡◌ {A = ℕ} (if just c d then code_of child Done n else 0) 0
      code_away d n away = ap (λ b. if b then code_of child Done n else 0) away

      end_shows : Shows Done (shown held_now own) at_end
      end_shows = record { cells_there = over_here; code = code_here; deeper = λ d path n. refl; inputs = λ n. refl; outside = outside }
        where
          outside : (x : Spot) → R x → is_below x ≡ false → at_end x ≡ shown e st x
          outside (Cell []) r away = refl
          outside (Cell (d ∷ path)) r away = over_away d path away
          outside (Number [] n) r away = refl
          outside (Number (d ∷ []) n) r away = code_away d n away
          outside (Number (d ∷ f ∷ path) n) r away = refl
          outside (Input n) r away = refl

      ends_there : (inner s : Kept) → Shows Done inner s → Agree Own inner (shown held_now own) → Agree R s at_end
      ends_there inner s shows same (Cell []) r = shows.outside (Cell []) r refl
      ends_there inner s shows same (Cell (d ∷ path)) r =
          at_cell (λ k. R (Cell (k ∷ path)) → s (Cell (k ∷ path)) ≡ over (k ∷ path)) d
          (λ is k. shows.cells_there path ∙ same (Cell path) tt ∙ sym (over_here path)) (λ away k. shows.outside (Cell (d ∷ path)) k away ∙ sym (over_away d path away)) r
      ends_there inner s shows same (Number [] n) r = shows.outside (Number [] n) r refl
      ends_there inner s shows same (Number (d ∷ []) n) r =
          at_cell (λ k. R (Number (k ∷ []) n) → s (Number (k ∷ []) n) ≡ (if just c k then code_of child Done n else 0)) d
          (λ is k. shows.code n ∙ sym (code_here n)) (λ away k. shows.outside (Number (d ∷ []) n) k away ∙ sym (code_away d n away)) r
      ends_there inner s shows same (Number (d ∷ f ∷ path) n) r =
          at_cell (λ k. R (Number (k ∷ f ∷ path) n) → s (Number (k ∷ f ∷ path) n) ≡ 0) d
          (λ is k. shows.deeper f path n ∙ same (Number (f ∷ path) n) tt) (λ away k. shows.outside (Number (d ∷ f ∷ path) n) k away) r
      ends_there inner s shows same (Input n) r = shows.outside (Input n) r refl

      -- what the group does not drive is as it was, and rests
      as_it_was : (x : Spot) → R x → D x ≡ false → at_end x ≡ shown e st x
      as_it_was x r free = end_shows.outside x r (not_below x (less x free))

      over_rests : (x : Spot) → R x → spots_of (drives part Whole) x ≡ false → Rests i x (shown e over x)
      over_rests (Cell []) r free = refl
      over_rests (Cell (d ∷ path)) r free = subst (λ v. idle_at i (d ∷ path) v ≡ v) (sym (over_away d path (not_below (Cell (d ∷ path)) free))) (settled (Cell (d ∷ path)) r)
      over_rests (Number path n) r free = refl
      over_rests (Input n) r free = tt

      code_leaves : (n : ℕ) → number_idle_below cells c [] n (code_of child Done n) ≡ 0
      code_leaves zero = below.leaves_end
      code_leaves (suc n) = number_idle_below-zero cells c [] (suc n)

      -- an idle edge leads all its numbers to 0
      number_leaves : (path : Path) (n : ℕ) → number_idle_at i path n (at_end (Number path n)) ≡ 0
      number_leaves [] n = number_idle_at-zero i [] n
      number_leaves (d ∷ []) n =
          at_cell (λ k. number_idle_below cells k [] n (if just c k then code_of child Done n else 0) ≡ 0) d
          (λ is. ap (number_idle_below cells c [] n) (code_here n) ∙ code_leaves n) (λ away. ap (number_idle_below cells d [] n) (code_away d n away) ∙ number_idle_below-zero cells d [] n)
      number_leaves (d ∷ f ∷ path) n = number_idle_at-zero i (d ∷ f ∷ path) n

      over_idles : (x : Spot) → R x → spot_idle i x (at_end x) ≡ shown e (idle i over) x
      over_idles (Cell path) r = refl
      over_idles (Number path n) r = number_leaves path n
      over_idles (Input n) r = refl

      -- A PLAIN CALL ends with an idle turn
      module _ (plain : capturing ≡ false) where
        plain_silent : (w : Kept) → Agree R w at_end → IsSilent w
        plain_silent w near =
            let hole : hole_now i child g c capturing Done w ≡ true = ap (λ b. if b then captured_now i child g c capturing w else true) plain in
            record {
              clean = faults_as Done tt (shown held_now own) at_end end_shows w near true hole;
              is_over = steps_as Done tt (shown held_now own) at_end end_shows w near true hole;
              nothing = writes_as Done tt (shown held_now own) at_end end_shows w near true hole;
            }

        plain_kept : (x : Spot) → R x → D x ≡ false → shown e (idle i over) x ≡ at_end x
        plain_kept x r free = (rest_is_kept i).rested e over x (over_rests x r (less x free)) ∙ over_is x r free
          where
            over_is : (x : Spot) → R x → D x ≡ false → shown e over x ≡ at_end x
            over_is (Cell path) r free = refl
            over_is (Number path n) r free = sym (as_it_was (Number path n) r free)
            over_is (Input n) r free = refl

        plain_meets : (m : ℕ) → Meets (world_of i) (Rests i) K R {F = Fault} e D (At tt) at_end m (idle_turn (idle i) over m)
        plain_meets m = last_cycle at_end over m plain_silent over_idles plain_kept

      -- ONE THAT CAPTURES makes a cycle in which the done of the cell is 1, and then an idle turn
      module _ (it_captures : capturing ≡ true) (after : State) (goes : cycle i e (capture g c) over ≡ Goes after) where
        undriven : (d : ℕ) (path : Path) → R (Cell (d ∷ path)) → drives part Whole d ≡ false → after (d ∷ path) ≡ over (d ∷ path)
        undriven d path r free = cycle_keeps_at i rules e (capture g c) over after goes d path (rules.capturing Whole g c d (inl refl) free) (over_rests (Cell (d ∷ path)) r free)

        module _ (w : Kept) (near : Agree R w at_end) where
          abbrev there : Turn State Fault
          there = capture_now i child g c capturing w

          alike : AlikeTurn Seen (answers.Goes after) there
          alike =
              subst (λ h. AlikeTurn Seen (answers.Goes after) (turn_of (cycle i h (capture g c) (cells_in w)))) (sym (inputs_near Done tt (shown held_now own) at_end end_shows w near))
              (subst (λ t. AlikeTurn Seen (turn_of t) (turn_of (cycle i e (capture g c) (cells_in w)))) goes
              (capture_alike i e Seen rules.kept (through i e rules.kept rules.circles rules.groups rules.islands visited stands Seen (rules.closed Whole)) (cells_below i rules.circles) g c (good_here e)
              over (cells_in w) (λ d path inside. sym (near (Cell (d ∷ path)) (cell_read d path inside)))))

          no_hole : hole_now i child g c capturing Done w ≡ false
          no_hole = ap (λ b. if b then captured_now i child g c capturing w else true) it_captures ∙ low Done tt (shown held_now own) at_end end_shows w near true it_captures

          capture_clean : K.faults tt w ≡ false
          capture_clean =
              faults_as Done tt (shown held_now own) at_end end_shows w near false no_hole
              ∙ ap (λ b. if b then turn_faults there else false) it_captures ∙ ap turn_faults alike.1

          capture_stays : K.step tt w ≡ At tt
          capture_stays = steps_as Done tt (shown held_now own) at_end end_shows w near false no_hole

          capture_writes : (x : Spot) → K.writes tt w x ≡ turn_writes {F = Fault} (form_drives part (Enable g)) (answers.Goes alike.0) x
          capture_writes x =
              writes_as Done tt (shown held_now own) at_end end_shows w near false no_hole x
              ∙ ap (λ b. if b then turn_writes (form_drives part (Enable g)) there x else None) it_captures
              ∙ ap (λ t. turn_writes (form_drives part (Enable g)) t x) alike.1

          number_none : (b : Bool) (path : Path) (n : ℕ) → written b alike.0 (Number path n) ≡ None
          number_none true path n = refl
          number_none false path n = refl

          capture_edge : (x : Spot) → R x → edge_of (turn_writes {F = Fault} (form_drives part (Enable g)) (answers.Goes alike.0) x) (spot_idle i x (w x)) ≡ shown e after x
          capture_edge (Cell []) r = near (Cell []) r ∙ sym (cycle_keeps_root i rules e (capture g c) over after goes)
          capture_edge (Cell (d ∷ path)) r = either (drives part Whole d) refl
            where
              either : (b : Bool) → drives part Whole d ≡ b → edge_of (written (drives part Whole d) alike.0 (Cell (d ∷ path))) (spot_idle i (Cell (d ∷ path)) (w (Cell (d ∷ path)))) ≡ after (d ∷ path)
              either true driven = ap (λ b. edge_of (written b alike.0 (Cell (d ∷ path))) (spot_idle i (Cell (d ∷ path)) (w (Cell (d ∷ path))))) driven ∙ sym (alike.2 d path (within d driven))
              either false free =
                  ap (λ b. edge_of (written b alike.0 (Cell (d ∷ path))) (spot_idle i (Cell (d ∷ path)) (w (Cell (d ∷ path))))) free
                  ∙ ap (idle_at i (d ∷ path)) (near (Cell (d ∷ path)) r) ∙ over_rests (Cell (d ∷ path)) r free ∙ sym (undriven d path r free)
          capture_edge (Number path n) r =
              ap (λ o. edge_of o (number_idle_at i path n (w (Number path n)))) (number_none (spots_of (drives part Whole) (Number path n)) path n)
              ∙ ap (number_idle_at i path n) (near (Number path n) r) ∙ number_leaves path n
          capture_edge (Input n) r = near (Input n) r

        after_is : (x : Spot) → R x → D x ≡ false → shown e after x ≡ at_end x
        after_is (Cell []) r free = cycle_keeps_root i rules e (capture g c) over after goes
        after_is (Cell (d ∷ path)) r free = undriven d path r (less (Cell (d ∷ path)) free)
        after_is (Number path n) r free = sym (as_it_was (Number path n) r free)
        after_is (Input n) r free = refl

        -- then the hole is 1
        captured_silent : (w : Kept) → Agree R w (shown e after) → IsSilent w
        captured_silent w near =
            let inputs : held_in w ≡ e = fun_ext (λ n. near (Input n) (more (Input n) tt)) in
            let seen_so : seen i e (group g) (cells_in w) (ports.Done g) ≡ seen i e (group g) after (ports.Done g) =
            group_seen i e Seen rules.kept (through i e rules.kept rules.circles rules.groups rules.islands visited stands Seen (rules.closed Whole)) (cells_below i rules.circles) g (good_here e)
            (cells_in w) after (λ d path inside. near (Cell (d ∷ path)) (cell_read d path inside)) (ports.Done g) tt in
            let captured : captured_now i child g c capturing w ≡ true =
            ap (λ h. is_one (truth_of (seen i h (group g) (cells_in w) (ports.Done g)))) inputs ∙ ap (λ x. is_one (truth_of x)) seen_so ∙ call.is_set (is_so ∙ it_captures) e e over after after goes (λ d driven differ. refl) in
            let hole : (k : Control Stand) → hole_now i child g c capturing k w ≡ true = λ k. ap (λ b. if b then captured_now i child g c capturing w else is_done k) it_captures ∙ captured in
            record {
              clean = ap (λ b. if b then false else child_faults i child g c capturing (child_at child c w) w) (hole (child_at child c w));
              is_over = ap (λ b. if b then Done else At tt) (hole (child_at child c w));
              nothing = λ x. ap (λ b. if b then None else child_writes i child g c capturing (child_at child c w) w x) (hole (child_at child c w));
            }

        captured_kept : (x : Spot) → R x → D x ≡ false → shown e (idle i after) x ≡ shown e after x
        captured_kept x r free = (rest_is_kept i).rested e after x (subst (Rests i x) (sym (after_is x r free ∙ as_it_was x r free)) (settled x r))

        captures_meet : (m : ℕ) → Meets (world_of i) (Rests i) K R {F = Fault} e D (At tt) at_end (suc m) (after_turns 1 (idle_turn (idle i) after m))
        captures_meet m =
            meets_cycle (world_of i) (Rests i) K R e D tt (At tt) at_end after m capture_clean capture_stays
            (λ w near x r. ap (λ o. edge_of o (spot_idle i x (w x))) (capture_writes w near x) ∙ capture_edge w near x r) after_is
            (idle_turn (idle i) after m) (last_cycle (shown e after) after m captured_silent (λ x r. sym (idle_is_shown i e after x)) captured_kept)

      after_meets : (b : Bool) → capturing ≡ b → (m : ℕ) → Meets (world_of i) (Rests i) K R e D (At tt) at_end m (after_child i e g c b over m)
      after_meets false plain m = plain_meets plain m
      after_meets true it_captures zero = tt
      after_meets true it_captures (suc m) = by_cycle (cycle i e (capture g c) over) refl
        where
          by_cycle : (t : Ended) → cycle i e (capture g c) over ≡ t → Meets (world_of i) (Rests i) K R e D (At tt) at_end (suc m) (turn_then (idle i) over (turn_of t) (λ after. idle_turn (idle i) after m))
          by_cycle (Goes after) goes = captures_meet it_captures after goes m
          by_cycle (Faults fault) is = tt

      -- the child's turns, and what comes after them
      module _ (n t : ℕ) (met : doing.Ended (world_below cells c) (RestsBelow cells c) child.machine Own (spots_of (λ d. true)) (Machine.start child.machine) (shown held_now (under c st)) n (shown held_now own) t)
          (shows : Shows (Machine.start child.machine) (shown held_now (under c st)) (shown e st)) where
        finish : (Q : Control (Unit {0}) → Kept → Type 0) (u : ℕ) → Respects (world_of i) (Rests i) K R Q → After (world_of i) (Rests i) K R u Q (At tt) at_end
            → (p : Control Stand) (inner s : Kept) → at_fine (Coding.IsFine child.coding) p → Shows p inner s
            → EndsAs (world_below cells c) (RestsBelow cells c) child.machine Own (shown held_now own) p inner → After (world_of i) (Rests i) K R u Q (At tt) s
        finish Q u respects rest Done inner s fine shows_it is = moved (world_of i) (Rests i) K R Q respects u (At tt) at_end s (ends_there inner s shows_it is) rest
        finish Q u respects rest (At q) inner s fine shows_it is = absurd is

        ended_meets : (o : Answer State Fault) → Meets (world_of i) (Rests i) K R e D (At tt) at_end (n - t) o → Meets (world_of i) (Rests i) K R e D (At tt) (shown e st) n (after_turns t o)
        ended_meets (End last u) rest = record {
          in_budget = (let first : t ≤ n = met.in_budget in let second : u ≤ n - t = rest.in_budget in omega arith);
          keeps = λ x r free. rest.keeps x r free ∙ as_it_was x r free;
          settled = rest.settled;
          ends = runs_on _ (EndsAs (world_of i) (Rests i) K R (shown e last)) u (finish _ u (ends_respects (world_of i) (Rests i) K R (shown e last)) rest.ends) t _ _ _ bank.starts shows met.ends;
        }
        ended_meets (answers.Fault fault u) rest = tt
        ended_meets More rest =
            let first : t ≤ n = met.in_budget in
            let whole : t + (n - t) ≡ n = omega arith in
            subst (λ k. After (world_of i) (Rests i) K R k (GoesOn (world_of i) (Rests i) K R) (At tt) (shown e st)) whole
            (runs_on _ (GoesOn (world_of i) (Rests i) K R) (n - t) (finish _ (n - t) (goes_respects (world_of i) (Rests i) K R) rest) t _ _ _ bank.starts shows met.ends)

    start_shows : Shows (Machine.start child.machine) (shown held_now (under c st)) (shown e st)
    start_shows = record { cells_there = λ path. refl; code = λ n. sym (bank.zeros_at n); deeper = λ d path n. refl; inputs = λ n. refl; outside = λ x r away. refl }

    still_going : (p : Control Stand) (inner s : Kept) → at_fine (Coding.IsFine child.coding) p → Shows p inner s → GoesOn (world_below cells c) (RestsBelow cells c) child.machine Own p inner
        → After (world_of i) (Rests i) K R 0 (GoesOn (world_of i) (Rests i) K R) (At tt) s
    still_going p inner s fine shows_it goes = tt

    answer_meets : (n : ℕ) (o : Answer State Fault)
        → Meets (world_below cells c) (RestsBelow cells c) child.machine Own held_now (spots_of (λ d. true)) (Machine.start child.machine) (shown held_now (under c st)) n o
        → Meets (world_of i) (Rests i) K R e D (At tt) (shown e st) n (then_do (lift_answer c st o) n (after_child i e g c capturing))
    answer_meets n (End own t) met = ended_meets own n t met start_shows (after_child i e g c capturing (put c own st) (n - t)) (after_meets own capturing refl (n - t))
    answer_meets n (answers.Fault fault t) met = tt
    answer_meets n More met =
        let whole : n + 0 ≡ n = omega arith in
        subst (λ k. After (world_of i) (Rests i) K R k (GoesOn (world_of i) (Rests i) K R) (At tt) (shown e st)) whole
        (runs_on _ (GoesOn (world_of i) (Rests i) K R) 0 still_going n _ _ _ bank.starts start_shows met)

    call_meets : (n : ℕ) → Meets (world_of i) (Rests i) K R e D (At tt) (shown e st) n (calls.call i (control_below cells) e g c st n)
    call_meets n =
        subst (λ b. Meets (world_of i) (Rests i) K R e D (At tt) (shown e st) n (then_do (lift_answer c st (control_below cells c (inputs_of_call i e g c st) (under c st) n)) n (after_child i e g c b))) (sym is_so)
        (subst (λ o. Meets (world_of i) (Rests i) K R e D (At tt) (shown e st) n (then_do (lift_answer c st o) n (after_child i e g c capturing)))
        (below.own_inputs held_now (inputs_of_call i e g c st) (under c st) n (λ input inside. ap (λ b. if b then inputs_of_call i e g c st input else Undefined) (lt-ltb input (input_count (cell_at cells c)) inside)))
        (answer_meets n (control_below cells c held_now (under c st) n) (below.does.does Own (spots_of (λ d. true)) reads_own (λ x free. free) held_now (under c st) n settled_there)))
      where
        reads_own : (x : Spot) → reads_spot (λ d. Unit {0}) x → Own x
        reads_own (Cell path) r = tt
        reads_own (Number [] n) r = absurd r
        reads_own (Number (d ∷ path) n) r = tt
        reads_own (Input n) r = tt

        settled_there : Settles (world_below cells c) (RestsBelow cells c) Own (shown held_now (under c st))
        settled_there (Cell path) r = settled (Cell (c ∷ path)) (own_cell path)
        settled_there (Number path n) r = refl
        settled_there (Input n) r = tt

  only : (p : Unit {0}) (s : Kept) (x : Spot) → spots_of (drives part Whole) x ≡ false → K.writes p s x ≡ None
  only p s x free = by_hole (hole_now i child g c capturing (child_at child c s) s) (child_at child c s)
    where
      away : (d : ℕ) → drives part Whole d ≡ false → just c d ≡ false
      away d none = not_just c d (λ is. both_ways (drives part Whole c) (ap (drives part Whole) (sym is) ∙ none) driven_here)

      at_place : (q : Stand) (y : Spot) → spots_of (drives part Whole) y ≡ false → child_writes i child g c capturing (At q) s y ≡ None
      at_place q (Cell []) none = refl
      at_place q (Cell (d ∷ path)) none = ap (λ b. if b then Machine.writes child.machine q (pull c (inputs_now i child g c capturing s) s) (Cell path) else None) (away d none)
      at_place q (Number [] n) none = refl
      at_place q (Number (d ∷ []) n) none = ap (λ b. if b then Some (code_of child (Machine.step child.machine q (pull c (inputs_now i child g c capturing s) s)) n) else None) (away d none)
      at_place q (Number (d ∷ f ∷ path) n) none = ap (λ b. if b then Machine.writes child.machine q (pull c (inputs_now i child g c capturing s) s) (Number (f ∷ path) n) else None) (away d none)
      at_place q (Input n) none = refl

      by_capture : (b : Bool) → (if b then turn_writes (form_drives part (Enable g)) (capture_now i child g c capturing s) x else None) ≡ None
      by_capture true = turn_writes-none (form_drives part (Enable g)) (capture_now i child g c capturing s) x free
      by_capture false = refl

      by_hole : (b : Bool) (k : Control Stand) → (if b then None else child_writes i child g c capturing k s x) ≡ None
      by_hole true k = refl
      by_hole false (At q) = at_place q x free
      by_hole false Done = by_capture capturing

  -- THE MACHINE OF A CALL DOES what the call means
  pub call_leaf : Does (world_of i) (Rests i) K (spots_of (drives part Whole)) (reads_spot Seen) (λ held. calls.call i (control_below cells) held g c)
  call_leaf = record {
    sees = spots_within (drives part Whole) Seen within;
    only = only;
    does = λ R D more less held st n settled. call_meets R more D less held st settled n;
  }
