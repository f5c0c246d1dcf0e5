-- The timers of a component's islands are cells behind its own.
use Rattle.std.proofs.Common.{◌≡◌, ℕ, zero, suc, ◌+◌, ◌*◌, ◌≤◌, ◌<◌, ◌==◌, true, false, if◌then◌else◌, List, [], ◌∷◌, ◌++◌, length, Option, Some, None, slice_get, refl, ap, subst, arith, length-append}
use Rattle.cx_text.specs.declared.places.Place.{Place}
use Rattle.cx_meaning.specs.declared.ports.PortRef.TheVariants as ports
use Rattle.cx_meaning.specs.Designs.{PlainComponent, PlainForm, Empty, Enable, Seq, Par, If, While, Repeat, StaticSeq, StaticPar, StaticIf, StaticRepeat, Timed, PlainStatement, Placed, PlainStatements, no_statements, a_statement}
use Rattle.cx_meaning.specs.Islands.{group_length, form_length, length_of}
use Rattle.cx_net.specs.Nets.{ToPort}
use Rattle.cx_net.specs.NetMeaning.{same_target}
use Rattle.cx_static.specs.declared.islands.IslandTimer.{IslandTimer}
use Rattle.cx_static.specs.Islands.{PlainIsland}
use Rattle.cx_static.specs.Lowering.{Gathered, Begin, begin_at, later, if_sampled, timer_cell, with_timer, with_point, with_occurrence, form_gathered, gathered, parts_gathered, arms_gathered, Lowering, island_of, island_gathered, with_island, after_enable, form_after, after, parts_after, unlowered, lowered_component}
use Rattle.std.proofs.lemmas.Bool.{ne_eqb}
use Rattle.cx_wiring_cycles.proofs.ControlPorts.{OfTimers}

module _ (n : ℕ) where
  abbrev TimersFrom : List IslandTimer → Type 0
  TimersFrom [] = Unit {0}
  TimersFrom (timer ∷ rest) = (n ≤ timer.cell) × TimersFrom rest

  abbrev IslandsFrom : List PlainIsland → Type 0
  IslandsFrom [] = Unit {0}
  IslandsFrom (island ∷ rest) = TimersFrom island.timers × IslandsFrom rest

  timers_both : (xs ys : List IslandTimer) → TimersFrom xs → TimersFrom ys → TimersFrom (xs ++ ys)
  timers_both [] ys h k = k
  timers_both (x ∷ xs) ys h k = (h.0, timers_both xs ys h.1 k)

  islands_both : (xs ys : List PlainIsland) → IslandsFrom xs → IslandsFrom ys → IslandsFrom (xs ++ ys)
  islands_both [] ys h k = k
  islands_both (x ∷ xs) ys h k = (h.0, islands_both xs ys h.1 k)

  -- there are so many cells, and timers behind them
  record Behind (g : Gathered) : Type 0 where
    cells : n ≤ length g.cells
    timers : TimersFrom g.timers

  record AllBehind (l : Lowering) : Type 0 where
    cells : n ≤ length l.cells
    islands : IslandsFrom l.islands

  timer_behind : (place : Place) (cycles : ℕ) (outer : Option ℕ) (from to : ℕ) (g : Gathered) → Behind g → Behind (with_timer place cycles outer from to g)
  timer_behind place cycles outer from to g h =
      let few = h.cells in
      record { cells = omega (arith, length-append g.cells (timer_cell place cycles ∷ []), few); timers = timers_both g.timers _ h.timers (few, tt) }

  occurrence_behind : (group : ℕ) (x : Begin) (o : Option ℕ) (g : Gathered) → Behind g → Behind (with_occurrence group x o g)
  occurrence_behind group x None g h = h
  occurrence_behind group x (Some cycles) g h = record { cells = h.cells; timers = h.timers }

  point_behind : (port : _) (x : Begin) (g : Gathered) → Behind g → Behind (with_point port x g)
  point_behind port x g h = record { cells = h.cells; timers = h.timers }

  module _ (part : PlainComponent) where
    mutual
      form_gathers : (form : PlainForm) (x : Begin) (g : Gathered) → Behind g → Behind (form_gathered part form x g)
      form_gathers Empty x g h = h
      form_gathers (Enable group) x g h = occurrence_behind group x (group_length part group) g h
      form_gathers (Seq parts) x g h = h
      form_gathers (Par arms) x g h = h
      form_gathers (If test comb a b) x g h = h
      form_gathers (While test comb a) x g h = h
      form_gathers (Repeat count a) x g h = h
      form_gathers (StaticSeq written parts) x g h = parts_gather parts x g h
      form_gathers (StaticPar written arms) x g h = arms_gather arms x g h
      form_gathers (StaticIf written test a b) x g h =
          gathers b (if_sampled (length g.points) false x) (gathered part a (if_sampled (length g.points) true x) (with_point test.port x g))
          (gathers a (if_sampled (length g.points) true x) (with_point test.port x g) (point_behind test.port x g h))
      form_gathers (StaticRepeat written count a) x g h =
          gathers a (begin_at (length g.timers) 0 x.samples) (with_timer part.place (length_of part a) (Some x.timer) x.at (x.at + count * length_of part a) g)
          (timer_behind part.place (length_of part a) (Some x.timer) x.at (x.at + count * length_of part a) g h)
      form_gathers (Timed k) x g h = h

      gathers : (s : PlainStatement) (x : Begin) (g : Gathered) → Behind g → Behind (gathered part s x g)
      gathers (Placed form place) x g h = form_gathers form x g h

      parts_gather : (ss : PlainStatements) (x : Begin) (g : Gathered) → Behind g → Behind (parts_gathered part ss x g)
      parts_gather no_statements x g h = h
      parts_gather (a_statement s ss) x g h = parts_gather ss (later (length_of part s) x) (gathered part s x g) (gathers s x g h)

      arms_gather : (ss : PlainStatements) (x : Begin) (g : Gathered) → Behind g → Behind (arms_gathered part ss x g)
      arms_gather no_statements x g h = h
      arms_gather (a_statement s ss) x g h = arms_gather ss x (gathered part s x g) (gathers s x g h)

    island_lowers : (form : PlainForm) (l : Lowering) → AllBehind l → AllBehind (with_island part form l)
    island_lowers form l h =
        let k = form_gathers form (begin_at 0 0 []) (with_timer part.place (form_length part form) None 0 (form_length part form) (record { cells = l.cells; timers = []; points = []; occurrences = [] }))
        (timer_behind part.place (form_length part form) None 0 (form_length part form) (record { cells = l.cells; timers = []; points = []; occurrences = [] }) (record { cells = h.cells; timers = tt })) in
        record { cells = k.cells; islands = islands_both l.islands (island_of (form_length part form) (island_gathered part form l.cells) ∷ []) h.islands (k.timers, tt) }

    enable_lowers : (g : ℕ) (o : Option ℕ) (l : Lowering) → AllBehind l → AllBehind (after_enable part g o l)
    enable_lowers g None l h = h
    enable_lowers g (Some cycles) l h = island_lowers (Enable g) l h

    mutual
      form_lowers : (form : PlainForm) (l : Lowering) → AllBehind l → AllBehind (form_after part form l)
      form_lowers Empty l h = h
      form_lowers (Enable g) l h = enable_lowers g (group_length part g) l h
      form_lowers (Seq parts) l h = parts_lower parts l h
      form_lowers (Par arms) l h = parts_lower arms l h
      form_lowers (If test comb a b) l h = lowers b (after part a l) (lowers a l h)
      form_lowers (While test comb a) l h = lowers a l h
      form_lowers (Repeat count a) l h = lowers a l h
      form_lowers (StaticSeq written parts) l h = island_lowers (StaticSeq written parts) l h
      form_lowers (StaticPar written arms) l h = island_lowers (StaticPar written arms) l h
      form_lowers (StaticIf written test a b) l h = island_lowers (StaticIf written test a b) l h
      form_lowers (StaticRepeat written count a) l h = island_lowers (StaticRepeat written count a) l h
      form_lowers (Timed k) l h = h

      lowers : (s : PlainStatement) (l : Lowering) → AllBehind l → AllBehind (after part s l)
      lowers (Placed form place) l h = form_lowers form l h

      parts_lower : (ss : PlainStatements) (l : Lowering) → AllBehind l → AllBehind (parts_after part ss l)
      parts_lower no_statements l h = h
      parts_lower (a_statement s ss) l h = parts_lower ss (after part s l) (lowers s l h)

  -- such timers are no port of an earlier cell
  no_earlier : (c p : ℕ) → c < n → (timers : List IslandTimer) → TimersFrom timers → OfTimers (λ u. same_target u (ToPort (ports.Cell c p)) ≡ false) timers
  no_earlier c p less [] h = tt
  no_earlier c p less (timer ∷ rest) h =
      let from = h.0 in (ap (λ b. if b then 0 == p else false) (ne_eqb timer.cell c (λ e. omega (arith, from, less, e))), no_earlier c p less rest h.1)

  island_at : (islands : List PlainIsland) (k : ℕ) (island : PlainIsland) → slice_get islands k ≡ Some island → IslandsFrom islands → TimersFrom island.timers
  island_at [] k island e h = absurd (cc)
  island_at (x ∷ xs) zero island e h = same x island e h.0
    where
      same : (a b : PlainIsland) → ◌≡◌ {A = Option PlainIsland} (Some a) (Some b) → TimersFrom a.timers → TimersFrom b.timers
      same a b f t = let g : a ≡ b = cc in subst (λ (y : PlainIsland). TimersFrom y.timers) g t
  island_at (x ∷ xs) (suc k) island e h = island_at xs k island e h.1

-- A PORT OF A CELL of the component is none of a timer, and an output is none
pub cell_no_timer : (part : PlainComponent) (c p : ℕ) → c < length part.cells → (k : ℕ) (island : PlainIsland) → slice_get (lowered_component part).islands k ≡ Some island
    → OfTimers (λ u. same_target u (ToPort (ports.Cell c p)) ≡ false) island.timers
cell_no_timer part c p less k island e =
    let all = lowers (length part.cells) part part.control (unlowered part) (record { cells = omega arith; islands = tt }) in
    no_earlier (length part.cells) c p less island.timers (island_at (length part.cells) (lowered_component part).islands k island e all.islands)

pub output_no_timer : (n : ℕ) (timers : List IslandTimer) → OfTimers (λ u. same_target u (ToPort (ports.Output n)) ≡ false) timers
output_no_timer n [] = tt
output_no_timer n (timer ∷ rest) = (refl, output_no_timer n rest)
