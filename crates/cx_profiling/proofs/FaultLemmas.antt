-- The faults of an island are at ports that a map leaves, where the ports that it moves are always values.
use Rattle.std.proofs.Common.{◌≡◌, ℕ, zero, suc, inl, inr, ◌⊎◌, Bool, true, false, List, [], ◌∷◌, Option, Some, None, refl, sym, ap, ◌∙◌, subst}
use Rattle.cx_text.specs.Members.{In}
use Rattle.cx_meaning.specs.declared.ports.PortRef.{PortRef}
use Rattle.cx_meaning.specs.declared.sights.Seen.{Seen}
use Rattle.cx_meaning.specs.declared.sights.Seen.TheVariants as sights
use Rattle.cx_meaning.specs.declared.sights.FaultKind.{FaultKind}
use Rattle.cx_meaning.specs.declared.sights.FaultKind.TheVariants as kinds
use Rattle.cx_meaning.specs.Instances.{Instance, State, idle}
use Rattle.cx_meaning.specs.Active.{Active, nothing, entries}
use Rattle.cx_meaning.specs.Sights.{Look, Held, bit_of, seen}
use Rattle.cx_meaning.specs.Cycles.{Fault, fault_at, Ended, Goes, Faults, cycle}
use Rattle.cx_meaning.specs.Answers.{Answer, End, More, Turn, Ends, after_turns, turn_then}
use Rattle.cx_meaning.specs.Answers as answers
use Rattle.cx_meaning.specs.Islands.{Occurrence, History, and_now, active_in, looked_at, fault_of, first_unclear, turn_of, unless_unclear, island_turn, island_from}
use Rattle.cx_rewrites.specs.Tallies.{Tally}
use Rattle.cx_rewrites.specs.Carrying.{Exact, Carried}

-- A port is left, or it is one bit
abbrev pub IsLeft : (PortRef → PortRef) → Look → PortRef → Type 0
IsLeft mv look p = (mv p ≡ p) ⊎ ((b : Bool) × (look p ≡ bit_of b))

module _ (faults : Fault → Fault) where
  abbrev pub IsFixed : Answer State Fault → Type 0
  IsFixed (End s t) = Unit {0}
  IsFixed (answers.Fault f t) = faults f ≡ f
  IsFixed More = Unit {0}

  later_fixed : (o : Answer State Fault) → IsFixed o → IsFixed (after_turns 1 o)
  later_fixed (End s t) h = tt
  later_fixed (answers.Fault f t) h = h
  later_fixed More h = tt

  -- what is carried by a map of faults is carried as it is
  pub carried_fixed : (R : Tally → State → State → Type 0) (before counted : Tally) (o x : Answer State Fault) → IsFixed o → Carried Exact R faults before counted o x → Carried Exact R (λ f. f) before counted o x
  carried_fixed R before counted (End s t) x fixed carried = carried
  carried_fixed R before counted (answers.Fault f t) x fixed carried = carried ∙ ap (λ g. answers.Fault g t) fixed
  carried_fixed R before counted More x fixed carried = carried

  unclear_fixed : (look : Look) (list : List PortRef) → ((p : PortRef) (kind : FaultKind) → In list p → ((b : Bool) → look p ≡ bit_of b → ⊥) → faults (fault_at kind p) ≡ fault_at kind p)
      → (f : Fault) → first_unclear look list ≡ Some f → faults f ≡ f
  unclear_fixed look [] ports f e = absurd (cc)
  unclear_fixed look (p ∷ rest) ports f e = by (look p) refl e (unclear_fixed look rest (λ q kind i. ports q kind (inr i)) f)
    where
      no_bit : (x : Seen) → look p ≡ x → ((v : Bool) → x ≡ bit_of v → ⊥) → (b : Bool) → look p ≡ bit_of b → ⊥
      no_bit x is other b h = other b (sym is ∙ h)

      conflict : (b : Bool) → sights.Conflict ≡ bit_of b → ⊥
      conflict true h = cc
      conflict false h = cc

      undefined : (b : Bool) → sights.Undefined ≡ bit_of b → ⊥
      undefined true h = cc
      undefined false h = cc

      by : (x : Seen) → look p ≡ x → fault_of p x (first_unclear look rest) ≡ Some f → (first_unclear look rest ≡ Some f → faults f ≡ f) → faults f ≡ f
      by (sights.Value v) is e later = later e
      by sights.Conflict is e later = let told : fault_at kinds.Conflict p ≡ f = cc in subst (λ g. faults g ≡ g) told (ports p kinds.Conflict (inl refl) (no_bit sights.Conflict is conflict))
      by sights.Undefined is e later = let told : fault_at kinds.Undefined p ≡ f = cc in subst (λ g. faults g ≡ g) told (ports p kinds.Undefined (inl refl) (no_bit sights.Undefined is undefined))

  module _ (i : Instance) (held : Held) (list : List Occurrence)
      (cycles : (act : Active) (s : State) (f : Fault) → cycle i held act s ≡ Faults f → faults f ≡ f)
      (ports : (s : State) (h : History) (t : ℕ) (p : PortRef) (kind : FaultKind) → In (looked_at h t list) p → ((b : Bool) → seen i held nothing s p ≡ bit_of b → ⊥) → faults (fault_at kind p) ≡ fault_at kind p) where
    turn_fixed : (t : ℕ) (h : History) (s : State) (f : Fault) → island_turn i held list t h s ≡ answers.Faults f → faults f ≡ f
    turn_fixed t h s f e = by (first_unclear (seen i held nothing s) (looked_at h t list)) refl e
      where
        of_cycle : (x : Ended) → cycle i held (entries (active_in h t list)) s ≡ x → turn_of x ≡ answers.Faults f → faults f ≡ f
        of_cycle (Goes a) is e = absurd (cc)
        of_cycle (Faults g) is e = let same : g ≡ f = cc in cycles (entries (active_in h t list)) s f (is ∙ ap Faults same)

        by : (x : Option Fault) → first_unclear (seen i held nothing s) (looked_at h t list) ≡ x → unless_unclear x (cycle i held (entries (active_in h t list)) s) ≡ answers.Faults f → faults f ≡ f
        by None is e = of_cycle (cycle i held (entries (active_in h t list)) s) refl e
        by (Some g) is e = let same : g ≡ f = cc in unclear_fixed (seen i held nothing s) (looked_at h t list) (ports s h t) f (is ∙ ap Some same)

    pub island_fixed : (left t : ℕ) (before : History) (s : State) (n : ℕ) → IsFixed (island_from i held list left t before s n)
    island_fixed zero t before s zero = tt
    island_fixed zero t before s (suc n) = tt
    island_fixed (suc left) t before s zero = tt
    island_fixed (suc left) t before s (suc n) =
        by (island_turn i held list t (and_now before t (seen i held nothing s)) s) refl (λ a. island_fixed left (suc t) (and_now before t (seen i held nothing s)) a n)
      where
        by : (o : Turn State Fault) → island_turn i held list t (and_now before t (seen i held nothing s)) s ≡ o
            → ((a : State) → IsFixed (island_from i held list left (suc t) (and_now before t (seen i held nothing s)) a n))
            → IsFixed (turn_then (idle i) s o (λ after. island_from i held list left (suc t) (and_now before t (seen i held nothing s)) after n))
        by Ends is h = tt
        by (answers.Goes a) is h = later_fixed (island_from i held list left (suc t) (and_now before t (seen i held nothing s)) a n) (h a)
        by (answers.Faults f) is h = turn_fixed t (and_now before t (seen i held nothing s)) s f is
