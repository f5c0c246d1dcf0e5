-- THE LAW OF A GROUP: the machine of a plain group that calls nothing does what its enable means. With it what a turn writes.
use Rattle.std.proofs.Common.{◌≡◌, ℕ, inl, true, false, [], ◌∷◌, None, refl, sym, ap, ◌∙◌, subst}
use Rattle.std.proofs.Math.Path.{fun_ext}
use Rattle.cx_text.specs.declared.places.Place.{Place}
use Rattle.cx_meaning.specs.declared.ports.PortRef.TheVariants as ports
use Rattle.cx_meaning.specs.Designs.{Enable, PlainStatement, Placed}
use Rattle.cx_meaning.specs.Instances.{Instance, part_of, Path, State, Set, idle}
use Rattle.cx_meaning.specs.Active.{Active, group}
use Rattle.cx_meaning.specs.Truths.{Truth, One, Zero, truth_of}
use Rattle.cx_meaning.specs.Truths as truths
use Rattle.cx_meaning.specs.Sights.{Held, seen}
use Rattle.cx_meaning.specs.Cycles.{Fault, Ended, Goes, cycle}
use Rattle.cx_meaning.specs.Answers.{Turn, turns_of}
use Rattle.cx_meaning.specs.Answers as answers
use Rattle.cx_meaning.specs.Control.{form_drives, drives}
use Rattle.cx_meaning.specs.Calls.{hole_turn, group_turn}
use Rattle.cx_rules.specs.Items.{Dynamic, Visited}
use Rattle.cx_rules.specs.Footprints.{Reads}
use Rattle.cx_frames.specs.Agreeing as frames
use Rattle.cx_frames.specs.Rests.{IsUndriven}
use Rattle.cx_frames.proofs.AlikeLemmas.{AlikeTurn}
use Rattle.cx_frames.proofs.LeafFrames.{group_alike}
use Rattle.cx_frames.proofs.StatementFrames.{through, good}
use Rattle.cx_lockstep.specs.Worlds.{Agree, edge_of}
use Rattle.cx_lockstep.specs.Doing.{Does}
use Rattle.cx_lockstep.proofs.TurnLaws.{Takes, turn_does}
use Rattle.cx_control.specs.Spots.{Spot, Cell, Number, Input, Kept, cells_in, held_in, shown, spots_of, reads_spot}
use Rattle.cx_control.specs.Numbers.{number_idle_at, spot_idle, world_of, Rests}
use Rattle.cx_control.specs.Leaves.{written, turn_next, turn_writes, turn_faults, group_machine}
use Rattle.cx_control.specs.InstanceRules.{InstanceRules, Stands}
use Rattle.cx_control.proofs.RestLaws.{number_idle_at-zero, rest_is_kept, idle_is_shown, idle_rests, cycle_keeps_root, cycle_keeps_at}
use Rattle.cx_text.proofs.NumberLaws.{false_true}
use Rattle.cx_meaning.proofs.CyclesLemmas.{turn_goes}
use Rattle.cx_rules.proofs.CirclesLemmas.{cells_below}

-- what a set holds is within another
pub spots_within : (set : Set) (fact : ℕ → Type 0) → ((c : ℕ) → set c ≡ true → fact c) → (x : Spot) → spots_of set x ≡ true → reads_spot fact x
spots_within set fact within (Cell []) e = absurd (false_true e)
spots_within set fact within (Cell (c ∷ path)) e = within c e
spots_within set fact within (Number [] n) e = absurd (false_true e)
spots_within set fact within (Number (c ∷ path) n) e = within c e
spots_within set fact within (Input n) e = tt

-- WHAT A TURN WRITES is the state that it comes to
pub turn_writes-none : {F : Type 0} (set : Set) (turn : Turn State F) (x : Spot) → spots_of set x ≡ false → turn_writes set turn x ≡ None
turn_writes-none set answers.Ends x free = refl
turn_writes-none set (answers.Goes after) x free = ap (λ b. written b after x) free
turn_writes-none set (answers.Faults fault) x free = refl

module _ (i : Instance) (set : Set) (held : Held) where
  pub turn_written : (F : Type 0) (s a b : State) (w : Kept) → ((c : ℕ) (path : Path) → set c ≡ true → a (c ∷ path) ≡ b (c ∷ path))
      → ((x : Spot) → spots_of set x ≡ true → w x ≡ shown held s x) → (x : Spot) → spots_of set x ≡ true
      → edge_of (turn_writes {F = F} set (answers.Goes a) x) (spot_idle i x (w x)) ≡ shown held b x
  turn_written F s a b w same near (Cell []) driven = absurd (false_true driven)
  turn_written F s a b w same near (Cell (c ∷ path)) driven =
      ap (λ t. edge_of (written t a (Cell (c ∷ path))) (spot_idle i (Cell (c ∷ path)) (w (Cell (c ∷ path))))) driven ∙ same c path driven
  turn_written F s a b w same near (Number [] n) driven = absurd (false_true driven)
  turn_written F s a b w same near (Number (c ∷ path) n) driven =
      ap (λ t. edge_of (written t a (Number (c ∷ path) n)) (spot_idle i (Number (c ∷ path) n) (w (Number (c ∷ path) n)))) driven
      ∙ ap (number_idle_at i (c ∷ path) n) (near (Number (c ∷ path) n) driven) ∙ number_idle_at-zero i (c ∷ path) n
  turn_written F s a b w same near (Input n) driven = absurd (false_true driven)

  -- and what nothing active drives is kept
  pub turn_kept : (rules : InstanceRules i) (act : Active) (s after : State) → cycle i held act s ≡ Goes after → ((c : ℕ) → set c ≡ false → IsUndriven (part_of i) act c)
      → (x : Spot) → spots_of set x ≡ false → Rests i x (shown held s x) → shown held after x ≡ shown held s x
  turn_kept rules act s after goes undriven (Cell []) free rests = cycle_keeps_root i rules held act s after goes
  turn_kept rules act s after goes undriven (Cell (c ∷ path)) free rests = cycle_keeps_at i rules held act s after goes c path (undriven c free) rests
  turn_kept rules act s after goes undriven (Number path n) free rests = refl
  turn_kept rules act s after goes undriven (Input n) free rests = refl

hole_goes : (g : ℕ) (truth : Truth) (ended : Ended) (after : State) → hole_turn g ended truth ≡ answers.Goes after → ended ≡ Goes after
hole_goes g One ended after e = absurd (cc)
hole_goes g Zero ended after e = turn_goes ended after e
hole_goes g truths.Conflict ended after e = absurd (cc)
hole_goes g truths.Undefined ended after e = absurd (cc)

-- WHAT A STATEMENT READS, in the store and in the state that is shown
module _ (set : ℕ → Type 0) (held : Held) (s : State) (w : Kept) (near : Agree (reads_spot set) w (shown held s)) where
  pub near_inputs : held_in w ≡ held
  near_inputs = fun_ext (λ n. near (Input n) tt)

  pub near_cells : frames.Agree set s (cells_in w)
  near_cells c below inside = sym (near (Cell (c ∷ below)) inside)

module _ (i : Instance) (rules : InstanceRules i) (g : ℕ) (place : Place) (stands : Stands i (Placed (Enable g) place)) where
  abbrev Whole : PlainStatement
  Whole = Placed (Enable g) place

  abbrev Seen : ℕ → Type 0
  Seen = Reads (part_of i) Whole

  abbrev visited : Visited
  visited = record { context = Dynamic; form = Enable g; place = place }

  takes : (held : Held) (s : State) (w : Kept) → Agree (reads_spot Seen) w (shown held s)
      → Takes (world_of i) (Rests i) (group_machine i g) tt (spots_of (drives (part_of i) Whole)) (λ e. idle i) held s w (group_turn i held g s)
  takes held s w near = by_turn (group_turn i held g s) refl alike
    where
      turn_there : Turn State Fault
      turn_there = group_turn i (held_in w) g (cells_in w)

      alike : AlikeTurn Seen (group_turn i held g s) (group_turn i (held_in w) g (cells_in w))
      alike =
          subst (λ h. AlikeTurn Seen (group_turn i held g s) (group_turn i h g (cells_in w))) (sym (near_inputs Seen held s w near))
          (group_alike i held Seen rules.kept (through i held rules.kept rules.circles rules.groups rules.islands visited stands Seen (rules.closed Whole)) (cells_below i rules.circles) g
          (good i held rules.kept rules.circles rules.groups rules.islands visited stands Seen (rules.closed Whole) g (inl refl)) s (cells_in w) (near_cells Seen held s w near))

      by_turn : (t : Turn State Fault) → group_turn i held g s ≡ t → AlikeTurn Seen t (group_turn i (held_in w) g (cells_in w))
          → Takes (world_of i) (Rests i) (group_machine i g) tt (spots_of (drives (part_of i) Whole)) (λ e. idle i) held s w t
      by_turn answers.Ends is same = record {
        clean = ap turn_faults same;
        is_over = ap turn_next same;
        writes_none = λ x. ap (λ t. turn_writes (form_drives (part_of i) (Enable g)) t x) same;
        idles = λ x driven. idle_is_shown i held s x;
        settles = λ x driven. idle_rests i rules held s x;
      }
      by_turn (answers.Goes after) is (b, same, agrees) = record {
        clean = ap turn_faults same;
        stays = ap turn_next same;
        writes_it = λ x driven. ap (λ t. edge_of (turn_writes (form_drives (part_of i) (Enable g)) t x) (spot_idle i x (w x))) same
            ∙ turn_written i (form_drives (part_of i) (Enable g)) held Fault s b after w
            (λ c path inside. sym (agrees c path ((rules.closed Whole).driven c inside)))
            (λ y inside. near y (spots_within (drives (part_of i) Whole) Seen (λ c k. (rules.closed Whole).driven c k) y inside)) x driven;
        keeps = turn_kept i (form_drives (part_of i) (Enable g)) held rules (group g) s after (hole_goes g (truth_of (seen i held (group g) s (ports.Done g))) (cycle i held (group g) s) after is)
            (λ c free. rules.alone Whole g c (inl refl) free);
      }
      by_turn (answers.Faults fault) is same = tt

  -- THE MACHINE OF A GROUP DOES what its turns mean
  pub group_leaf : Does (world_of i) (Rests i) (group_machine i g) (spots_of (drives (part_of i) Whole)) (reads_spot Seen) (λ held. turns_of (idle i) (group_turn i held g))
  group_leaf =
      turn_does (world_of i) (Rests i) (group_machine i g) tt (spots_of (drives (part_of i) Whole)) (λ e. idle i)
      (λ x v rests. (rest_is_kept i).quiet x v rests) (λ e s x rests. (rest_is_kept i).rested e s x rests)
      (λ d s x free. turn_writes-none (form_drives (part_of i) (Enable g)) (group_turn i (held_in s) g (cells_in s)) x free)
      (λ held. group_turn i held g) (reads_spot Seen) takes refl
      (spots_within (drives (part_of i) Whole) Seen (λ c k. (rules.closed Whole).driven c k))
