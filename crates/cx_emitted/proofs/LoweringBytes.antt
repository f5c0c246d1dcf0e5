-- What lowered control costs, with its islands: no more than 4,096 for each statement of the control, where none stands within more than
-- 64 static ifs.
use Rattle.std.proofs.Common.{◌≡◌, ℕ, ◌+◌, ◌-◌, ◌*◌, ◌≤◌, true, false, List, [], ◌∷◌, ◌++◌, length, Option, Some, None, arith, length-append}
use Rattle.cx_text.specs.declared.places.Place.{Place}
use Rattle.cx_meaning.specs.declared.ports.PortRef.{PortRef}
use Rattle.cx_meaning.specs.declared.ports.PlacedPort.{PlacedPort}
use Rattle.cx_meaning.specs.Designs.{PlainCell, PlainComponent, PlainForm, Empty, Enable, Seq, Par, If, While, Repeat, StaticSeq, StaticPar, StaticIf, StaticRepeat, Timed, PlainStatement, Placed, PlainStatements, no_statements, a_statement}
use Rattle.cx_meaning.specs.Islands.{group_length, form_length, length_of}
use Rattle.cx_rules.specs.Items.{Context, Dynamic, InStatic, Branch, visit, visit_all}
use Rattle.cx_static.specs.declared.islands.IslandTimer.{IslandTimer}
use Rattle.cx_static.specs.Islands.{PlainPoint, PlainOccurrence, PlainIsland}
use Rattle.cx_static.specs.Lowering.{Gathered, Begin, begin_at, later, sampled, if_sampled, with_timer, with_point, with_occurrence, form_gathered, gathered, parts_gathered, arms_gathered, island_gathered, island_of, Lowering, with_island, after_enable, lowered_enable, form_after, after, parts_after, lowered_form, lowered, lowered_parts}
use Rattle.cx_emitted.specs.Shallow.{FormShallow, Shallow, PartsShallow}

-- points, with their wires and registers, and occurrences, with their wires
abbrev pub points_weigh : List PlainPoint → ℕ
points_weigh [] = 0
points_weigh (p ∷ rest) = 1368 + 76 * length p.samples + points_weigh rest

abbrev pub occurrences_weigh : List PlainOccurrence → ℕ
occurrences_weigh [] = 0
occurrences_weigh (o ∷ rest) = 793 + 19 * length o.samples + occurrences_weigh rest

pub points_weigh-append : (xs ys : List PlainPoint) → points_weigh (xs ++ ys) ≡ points_weigh xs + points_weigh ys
points_weigh-append [] ys = omega arith
points_weigh-append (x ∷ xs) ys = let h : points_weigh (xs ++ ys) ≡ points_weigh xs + points_weigh ys = points_weigh-append xs ys in omega arith

pub occurrences_weigh-append : (xs ys : List PlainOccurrence) → occurrences_weigh (xs ++ ys) ≡ occurrences_weigh xs + occurrences_weigh ys
occurrences_weigh-append [] ys = omega arith
occurrences_weigh-append (x ∷ xs) ys = let h : occurrences_weigh (xs ++ ys) ≡ occurrences_weigh xs + occurrences_weigh ys = occurrences_weigh-append xs ys in omega arith

-- a timer costs 1,944 with its wire, its drivers, its cell and its module
abbrev pub gathered_weighs : Gathered → ℕ
gathered_weighs g = 1958 * length g.timers + (points_weigh g.points + occurrences_weigh g.occurrences)

abbrev pub island_weighs : PlainIsland → ℕ
island_weighs i = (1958 * length i.timers + (points_weigh i.points + occurrences_weigh i.occurrences)) - 167

abbrev pub islands_weigh : List PlainIsland → ℕ
islands_weigh [] = 0
islands_weigh (i ∷ islands) = island_weighs i + islands_weigh islands

pub islands_weigh-append : (xs ys : List PlainIsland) → islands_weigh (xs ++ ys) ≡ islands_weigh xs + islands_weigh ys
islands_weigh-append [] ys = omega arith
islands_weigh-append (x ∷ xs) ys = let h : islands_weigh (xs ++ ys) ≡ islands_weigh xs + islands_weigh ys = islands_weigh-append xs ys in omega arith

module _ (part : PlainComponent) where
  -- ONE MORE
  timer_weighs : (place : Place) (n : ℕ) (outer : Option ℕ) (from to : ℕ) (g : Gathered) → gathered_weighs (with_timer place n outer from to g) ≡ gathered_weighs g + 1958
  timer_weighs place n outer from to g =
      let timer : IslandTimer = record { cell = length g.cells; outer = outer; from = from; to = to } in
      let long : length (g.timers ++ timer ∷ []) ≡ length g.timers + 1 = length-append g.timers (timer ∷ []) in
      omega arith

  occurrence_weighs : (group : ℕ) (x : Begin) (o : Option ℕ) (g : Gathered) → gathered_weighs (with_occurrence group x o g) ≤ gathered_weighs g + (793 + 19 * length x.samples)
  occurrence_weighs group x None g = omega arith
  occurrence_weighs group x (Some n) g =
      let occurrence : PlainOccurrence = record { group = group; timer = x.timer; from = x.at; to = x.at + n; samples = x.samples } in
      let all : occurrences_weigh (g.occurrences ++ occurrence ∷ []) ≡ occurrences_weigh g.occurrences + occurrences_weigh (occurrence ∷ []) = occurrences_weigh-append g.occurrences (occurrence ∷ []) in
      omega arith

  point_weighs : (port : PortRef) (x : Begin) (g : Gathered) → gathered_weighs (with_point port x g) ≡ gathered_weighs g + (1368 + 76 * length x.samples)
  point_weighs port x g =
      let point : PlainPoint = record { port = port; timer = x.timer; at = x.at; samples = x.samples } in
      let all : points_weigh (g.points ++ point ∷ []) ≡ points_weigh g.points + points_weigh (point ∷ []) = points_weigh-append g.points (point ∷ []) in
      omega arith

  -- WHAT A STATEMENT OF STATIC CONTROL ADDS, within these samples and so many static ifs more: with 2,070 to spare, since a static if may cost
  -- what its branches have to spare
  mutual
    form_adds : (form : PlainForm) (context : Context) (place : Place) (n : ℕ) (x : Begin) (g : Gathered) → FormShallow n form → length x.samples + n ≤ 64
        → gathered_weighs (form_gathered part form x g) + 2070 ≤ gathered_weighs g + 4090 * length (visit context (Placed form place))
    form_adds Empty context place n x g shallow few = omega arith
    form_adds (Enable group) context place n x g shallow few =
        let h : gathered_weighs (with_occurrence group x (group_length part group) g) ≤ gathered_weighs g + (793 + 19 * length x.samples) = occurrence_weighs group x (group_length part group) g in
        omega arith
    form_adds (Seq parts) context place n x g shallow few = omega arith
    form_adds (Par arms) context place n x g shallow few = omega arith
    form_adds (If test comb y z) context place n x g shallow few = omega arith
    form_adds (While test comb y) context place n x g shallow few = omega arith
    form_adds (Repeat count y) context place n x g shallow few = omega arith
    form_adds (StaticSeq written parts) context place n x g shallow few =
        let h : gathered_weighs (parts_gathered part parts x g) ≤ gathered_weighs g + 4090 * length (visit_all InStatic parts) = parts_add parts n x g shallow few in
        omega arith
    form_adds (StaticPar written arms) context place n x g shallow few =
        let h : gathered_weighs (arms_gathered part arms x g) ≤ gathered_weighs g + 4090 * length (visit_all InStatic arms) = arms_add arms n x g shallow few in
        omega arith
    form_adds (StaticIf written test y z) context place n x g shallow few =
        let first = with_point test.port x g in
        let second = gathered part y (if_sampled (length g.points) true x) first in
        let some : 1 ≤ n = shallow.0 in
        let yes : length (sampled (length g.points) true x.samples) ≡ length x.samples + 1 = length-append x.samples (record { point = length g.points; wanted = true } ∷ []) in
        let no : length (sampled (length g.points) false x.samples) ≡ length x.samples + 1 = length-append x.samples (record { point = length g.points; wanted = false } ∷ []) in
        let few_yes : length (sampled (length g.points) true x.samples) + (n - 1) ≤ 64 = omega arith in
        let few_no : length (sampled (length g.points) false x.samples) + (n - 1) ≤ 64 = omega arith in
        let point : gathered_weighs first ≡ gathered_weighs g + (1368 + 76 * length x.samples) = point_weighs test.port x g in
        let one : gathered_weighs second + 2070 ≤ gathered_weighs first + 4090 * length (visit Branch y) = statement_adds y Branch (n - 1) (if_sampled (length g.points) true x) first shallow.1.0 few_yes in
        let two : gathered_weighs (gathered part z (if_sampled (length g.points) false x) second) + 2070 ≤ gathered_weighs second + 4090 * length (visit Branch z) = statement_adds z Branch (n - 1) (if_sampled (length g.points) false x) second shallow.1.1 few_no in
        let all : length (visit Branch y ++ visit Branch z) ≡ length (visit Branch y) + length (visit Branch z) = length-append (visit Branch y) (visit Branch z) in
        omega arith
    form_adds (StaticRepeat written count y) context place n x g shallow few =
        let first = with_timer part.place (length_of part y) (Some x.timer) x.at (x.at + count * length_of part y) g in
        let h : gathered_weighs (gathered part y (begin_at (length g.timers) 0 x.samples) first) + 2070 ≤ gathered_weighs first + 4090 * length (visit InStatic y) = statement_adds y InStatic n (begin_at (length g.timers) 0 x.samples) first shallow few in
        let k : gathered_weighs first ≡ gathered_weighs g + 1958 = timer_weighs part.place (length_of part y) (Some x.timer) x.at (x.at + count * length_of part y) g in
        omega arith
    form_adds (Timed k) context place n x g shallow few = omega arith

    statement_adds : (s : PlainStatement) (context : Context) (n : ℕ) (x : Begin) (g : Gathered) → Shallow n s → length x.samples + n ≤ 64 → gathered_weighs (gathered part s x g) + 2070 ≤ gathered_weighs g + 4090 * length (visit context s)
    statement_adds (Placed form place) context n x g shallow few = form_adds form context place n x g shallow few

    parts_add : (ss : PlainStatements) (n : ℕ) (x : Begin) (g : Gathered) → PartsShallow n ss → length x.samples + n ≤ 64 → gathered_weighs (parts_gathered part ss x g) ≤ gathered_weighs g + 4090 * length (visit_all InStatic ss)
    parts_add no_statements n x g shallow few = omega arith
    parts_add (a_statement s ss) n x g shallow few =
        let one : gathered_weighs (gathered part s x g) + 2070 ≤ gathered_weighs g + 4090 * length (visit InStatic s) = statement_adds s InStatic n x g shallow.0 few in
        let two : gathered_weighs (parts_gathered part ss (later (length_of part s) x) (gathered part s x g)) ≤ gathered_weighs (gathered part s x g) + 4090 * length (visit_all InStatic ss) =
        parts_add ss n (later (length_of part s) x) (gathered part s x g) shallow.1 few in
        let all : length (visit InStatic s ++ visit_all InStatic ss) ≡ length (visit InStatic s) + length (visit_all InStatic ss) = length-append (visit InStatic s) (visit_all InStatic ss) in
        omega arith

    arms_add : (ss : PlainStatements) (n : ℕ) (x : Begin) (g : Gathered) → PartsShallow n ss → length x.samples + n ≤ 64 → gathered_weighs (arms_gathered part ss x g) ≤ gathered_weighs g + 4090 * length (visit_all InStatic ss)
    arms_add no_statements n x g shallow few = omega arith
    arms_add (a_statement s ss) n x g shallow few =
        let one : gathered_weighs (gathered part s x g) + 2070 ≤ gathered_weighs g + 4090 * length (visit InStatic s) = statement_adds s InStatic n x g shallow.0 few in
        let two : gathered_weighs (arms_gathered part ss x (gathered part s x g)) ≤ gathered_weighs (gathered part s x g) + 4090 * length (visit_all InStatic ss) = arms_add ss n x (gathered part s x g) shallow.1 few in
        let all : length (visit InStatic s ++ visit_all InStatic ss) ≡ length (visit InStatic s) + length (visit_all InStatic ss) = length-append (visit InStatic s) (visit_all InStatic ss) in
        omega arith

  -- a static if with its branches
  branches_add : (written : Option ℕ) (test : PlacedPort) (y z : PlainStatement) (n : ℕ) (x : Begin) (g : Gathered) → FormShallow n (StaticIf written test y z) → length x.samples + n ≤ 64
      → gathered_weighs (form_gathered part (StaticIf written test y z) x g) + 4140 ≤ gathered_weighs g + (1368 + 76 * length x.samples) + 4090 * length (visit Branch y ++ visit Branch z)
  branches_add written test y z n x g shallow few =
      let first = with_point test.port x g in
      let second = gathered part y (if_sampled (length g.points) true x) first in
      let some : 1 ≤ n = shallow.0 in
      let yes : length (sampled (length g.points) true x.samples) ≡ length x.samples + 1 = length-append x.samples (record { point = length g.points; wanted = true } ∷ []) in
      let no : length (sampled (length g.points) false x.samples) ≡ length x.samples + 1 = length-append x.samples (record { point = length g.points; wanted = false } ∷ []) in
      let few_yes : length (sampled (length g.points) true x.samples) + (n - 1) ≤ 64 = omega arith in
      let few_no : length (sampled (length g.points) false x.samples) + (n - 1) ≤ 64 = omega arith in
      let point : gathered_weighs first ≡ gathered_weighs g + (1368 + 76 * length x.samples) = point_weighs test.port x g in
      let one : gathered_weighs second + 2070 ≤ gathered_weighs first + 4090 * length (visit Branch y) = statement_adds y Branch (n - 1) (if_sampled (length g.points) true x) first shallow.1.0 few_yes in
      let two : gathered_weighs (gathered part z (if_sampled (length g.points) false x) second) + 2070 ≤ gathered_weighs second + 4090 * length (visit Branch z) = statement_adds z Branch (n - 1) (if_sampled (length g.points) false x) second shallow.1.1 few_no in
      let all : length (visit Branch y ++ visit Branch z) ≡ length (visit Branch y) + length (visit Branch z) = length-append (visit Branch y) (visit Branch z) in
      omega arith

  -- AN ISLAND, with the statement that stands for it, from the first statement of the island on
  abbrev bare : List PlainCell → PlainForm → Gathered
  bare cells form = with_timer part.place (form_length part form) None 0 (form_length part form) (record { cells = cells; timers = []; points = []; occurrences = [] })

  island_adds : (form : PlainForm) (place : Place) (cells : List PlainCell) → FormShallow 64 form
      → 1448 + island_weighs (island_of (form_length part form) (island_gathered part form cells)) ≤ 4096 * length (visit Dynamic (Placed form place))
  island_adds Empty place cells shallow = omega arith
  island_adds (Enable group) place cells shallow =
      let h : gathered_weighs (with_occurrence group (begin_at 0 0 []) (group_length part group) (bare cells (Enable group))) ≤ gathered_weighs (bare cells (Enable group)) + 793 = occurrence_weighs group (begin_at 0 0 []) (group_length part group) (bare cells (Enable group)) in
      omega arith
  island_adds (Seq parts) place cells shallow = omega arith
  island_adds (Par arms) place cells shallow = omega arith
  island_adds (If test comb y z) place cells shallow = omega arith
  island_adds (While test comb y) place cells shallow = omega arith
  island_adds (Repeat count y) place cells shallow = omega arith
  island_adds (StaticSeq written parts) place cells shallow =
      let few : 0 + 64 ≤ 64 = omega arith in
      let h : gathered_weighs (parts_gathered part parts (begin_at 0 0 []) (bare cells (StaticSeq written parts))) ≤ gathered_weighs (bare cells (StaticSeq written parts)) + 4090 * length (visit_all InStatic parts) =
      parts_add parts 64 (begin_at 0 0 []) (bare cells (StaticSeq written parts)) shallow few in
      omega arith
  island_adds (StaticPar written arms) place cells shallow =
      let few : 0 + 64 ≤ 64 = omega arith in
      let h : gathered_weighs (arms_gathered part arms (begin_at 0 0 []) (bare cells (StaticPar written arms))) ≤ gathered_weighs (bare cells (StaticPar written arms)) + 4090 * length (visit_all InStatic arms) =
      arms_add arms 64 (begin_at 0 0 []) (bare cells (StaticPar written arms)) shallow few in
      omega arith
  island_adds (StaticIf written test y z) place cells shallow =
      let few : 0 + 64 ≤ 64 = omega arith in
      let h : gathered_weighs (form_gathered part (StaticIf written test y z) (begin_at 0 0 []) (bare cells (StaticIf written test y z))) + 4140 ≤ gathered_weighs (bare cells (StaticIf written test y z)) + 1368 + 4090 * length (visit Branch y ++ visit Branch z) =
      branches_add written test y z 64 (begin_at 0 0 []) (bare cells (StaticIf written test y z)) shallow few in
      omega arith
  island_adds (StaticRepeat written count y) place cells shallow =
      let few : 0 + 64 ≤ 64 = omega arith in
      let own = bare cells (StaticRepeat written count y) in
      let first = with_timer part.place (length_of part y) (Some 0) 0 (0 + count * length_of part y) own in
      let h : gathered_weighs (gathered part y (begin_at 1 0 []) first) + 2070 ≤ gathered_weighs first + 4090 * length (visit InStatic y) = statement_adds y InStatic 64 (begin_at 1 0 []) first shallow few in
      let k : gathered_weighs first ≡ gathered_weighs own + 1958 = timer_weighs part.place (length_of part y) (Some 0) 0 (0 + count * length_of part y) own in
      omega arith
  island_adds (Timed k) place cells shallow = omega arith

  -- CONTROL: each statement that is left costs 1,448 with its wires and registers
  with_island_weighs : (form : PlainForm) (place : Place) (l : Lowering) → FormShallow 64 form → 1448 + islands_weigh (with_island part form l).islands ≤ islands_weigh l.islands + 4096 * length (visit Dynamic (Placed form place))
  with_island_weighs form place l shallow =
      let i : PlainIsland = island_of (form_length part form) (island_gathered part form l.cells) in
      let own : 1448 + island_weighs i ≤ 4096 * length (visit Dynamic (Placed form place)) = island_adds form place l.cells shallow in
      let all : islands_weigh (l.islands ++ i ∷ []) ≡ islands_weigh l.islands + islands_weigh (i ∷ []) = islands_weigh-append l.islands (i ∷ []) in
      omega arith

  enable_weighs : (g : ℕ) (place : Place) (o : Option ℕ) (l : Lowering)
      → 1448 * length (visit Dynamic (Placed (lowered_enable part g o l) place)) + islands_weigh (after_enable part g o l).islands ≤ islands_weigh l.islands + 4096 * length (visit Dynamic (Placed (Enable g) place))
  enable_weighs g place None l = omega arith
  enable_weighs g place (Some n) l =
      let h : 1448 + islands_weigh (with_island part (Enable g) l).islands ≤ islands_weigh l.islands + 4096 * length (visit Dynamic (Placed (Enable g) place)) = with_island_weighs (Enable g) place l tt in
      omega arith

  mutual
    form_lowers : (form : PlainForm) (place : Place) (l : Lowering) → FormShallow 64 form
        → 1448 * length (visit Dynamic (Placed (lowered_form part form l) place)) + islands_weigh (form_after part form l).islands ≤ islands_weigh l.islands + 4096 * length (visit Dynamic (Placed form place))
    form_lowers Empty place l shallow = omega arith
    form_lowers (Enable g) place l shallow = enable_weighs g place (group_length part g) l
    form_lowers (Seq parts) place l shallow =
        let h : 1448 * length (visit_all Dynamic (lowered_parts part parts l)) + islands_weigh (parts_after part parts l).islands ≤ islands_weigh l.islands + 4096 * length (visit_all Dynamic parts) = parts_lower parts l shallow in
        omega arith
    form_lowers (Par arms) place l shallow =
        let h : 1448 * length (visit_all Dynamic (lowered_parts part arms l)) + islands_weigh (parts_after part arms l).islands ≤ islands_weigh l.islands + 4096 * length (visit_all Dynamic arms) = parts_lower arms l shallow in
        omega arith
    form_lowers (If test comb a b) place l shallow =
        let one : 1448 * length (visit Dynamic (lowered part a l)) + islands_weigh (after part a l).islands ≤ islands_weigh l.islands + 4096 * length (visit Dynamic a) = statement_lowers a l shallow.0 in
        let two : 1448 * length (visit Dynamic (lowered part b (after part a l))) + islands_weigh (after part b (after part a l)).islands ≤ islands_weigh (after part a l).islands + 4096 * length (visit Dynamic b) = statement_lowers b (after part a l) shallow.1 in
        let left : length (visit Dynamic (lowered part a l) ++ visit Dynamic (lowered part b (after part a l))) ≡ length (visit Dynamic (lowered part a l)) + length (visit Dynamic (lowered part b (after part a l))) =
        length-append (visit Dynamic (lowered part a l)) (visit Dynamic (lowered part b (after part a l))) in
        let right : length (visit Dynamic a ++ visit Dynamic b) ≡ length (visit Dynamic a) + length (visit Dynamic b) = length-append (visit Dynamic a) (visit Dynamic b) in
        omega arith
    form_lowers (While test comb a) place l shallow =
        let h : 1448 * length (visit Dynamic (lowered part a l)) + islands_weigh (after part a l).islands ≤ islands_weigh l.islands + 4096 * length (visit Dynamic a) = statement_lowers a l shallow in
        omega arith
    form_lowers (Repeat count a) place l shallow =
        let h : 1448 * length (visit Dynamic (lowered part a l)) + islands_weigh (after part a l).islands ≤ islands_weigh l.islands + 4096 * length (visit Dynamic a) = statement_lowers a l shallow in
        omega arith
    form_lowers (StaticSeq written parts) place l shallow = let h : 1448 + islands_weigh (with_island part (StaticSeq written parts) l).islands ≤ islands_weigh l.islands + 4096 * length (visit Dynamic (Placed (StaticSeq written parts) place)) = with_island_weighs (StaticSeq written parts) place l shallow in omega arith
    form_lowers (StaticPar written arms) place l shallow = let h : 1448 + islands_weigh (with_island part (StaticPar written arms) l).islands ≤ islands_weigh l.islands + 4096 * length (visit Dynamic (Placed (StaticPar written arms) place)) = with_island_weighs (StaticPar written arms) place l shallow in omega arith
    form_lowers (StaticIf written test a b) place l shallow = let h : 1448 + islands_weigh (with_island part (StaticIf written test a b) l).islands ≤ islands_weigh l.islands + 4096 * length (visit Dynamic (Placed (StaticIf written test a b) place)) = with_island_weighs (StaticIf written test a b) place l shallow in omega arith
    form_lowers (StaticRepeat written count a) place l shallow = let h : 1448 + islands_weigh (with_island part (StaticRepeat written count a) l).islands ≤ islands_weigh l.islands + 4096 * length (visit Dynamic (Placed (StaticRepeat written count a) place)) = with_island_weighs (StaticRepeat written count a) place l shallow in omega arith
    form_lowers (Timed k) place l shallow = omega arith

    -- A STATEMENT that is lowered, with the islands that it makes
    pub statement_lowers : (s : PlainStatement) (l : Lowering) → Shallow 64 s → 1448 * length (visit Dynamic (lowered part s l)) + islands_weigh (after part s l).islands ≤ islands_weigh l.islands + 4096 * length (visit Dynamic s)
    statement_lowers (Placed form place) l shallow = form_lowers form place l shallow

    parts_lower : (ss : PlainStatements) (l : Lowering) → PartsShallow 64 ss → 1448 * length (visit_all Dynamic (lowered_parts part ss l)) + islands_weigh (parts_after part ss l).islands ≤ islands_weigh l.islands + 4096 * length (visit_all Dynamic ss)
    parts_lower no_statements l shallow = omega arith
    parts_lower (a_statement s ss) l shallow =
        let one : 1448 * length (visit Dynamic (lowered part s l)) + islands_weigh (after part s l).islands ≤ islands_weigh l.islands + 4096 * length (visit Dynamic s) = statement_lowers s l shallow.0 in
        let two : 1448 * length (visit_all Dynamic (lowered_parts part ss (after part s l))) + islands_weigh (parts_after part ss (after part s l)).islands ≤ islands_weigh (after part s l).islands + 4096 * length (visit_all Dynamic ss) = parts_lower ss (after part s l) shallow.1 in
        let left : length (visit Dynamic (lowered part s l) ++ visit_all Dynamic (lowered_parts part ss (after part s l))) ≡ length (visit Dynamic (lowered part s l)) + length (visit_all Dynamic (lowered_parts part ss (after part s l))) =
        length-append (visit Dynamic (lowered part s l)) (visit_all Dynamic (lowered_parts part ss (after part s l))) in
        let right : length (visit Dynamic s ++ visit_all Dynamic ss) ≡ length (visit Dynamic s) + length (visit_all Dynamic ss) = length-append (visit Dynamic s) (visit_all Dynamic ss) in
        omega arith
