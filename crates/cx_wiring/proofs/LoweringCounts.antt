-- How much lowering adds: for each statement two timers, a point and an island at most, for each occurrence one, and cells that cost no more
-- than the timers do.
use Rattle.std.proofs.Common.{◌≡◌, ℕ, zero, suc, ◌+◌, ◌*◌, ◌≤◌, true, false, List, [], ◌∷◌, ◌++◌, length, Option, Some, None, refl, ap, arith, length-append, zero-mul, suc-mul}
use Rattle.std.specs.Prelude.{is_some}
use Rattle.cx_text.specs.declared.places.Place.{Place}
use Rattle.cx_meaning.specs.Designs.{PlainCell, PlainComponent, PlainForm, Empty, Enable, Seq, Par, If, While, Repeat, StaticSeq, StaticPar, StaticIf, StaticRepeat, Timed, PlainStatement, Placed, PlainStatements, no_statements, a_statement}
use Rattle.cx_meaning.specs.Islands.{group_length, form_length, length_of}
use Rattle.cx_rules.specs.Items.{Context, Dynamic, InStatic, Branch, visit, visit_all}
use Rattle.cx_rules.specs.StaticControl.{one_if, is_island, form_occurrences, occurrences, occurrences_in, island_occurrences, occurrences_of}
use Rattle.cx_static.specs.declared.islands.IslandTimer.{IslandTimer}
use Rattle.cx_static.specs.Islands.{PlainPoint, PlainOccurrence, PlainIsland}
use Rattle.cx_static.specs.Lowering.{Gathered, Begin, begin_at, later, if_sampled, timer_cell, with_timer, with_point, with_occurrence, form_gathered, gathered, parts_gathered, arms_gathered, island_gathered, island_of, Lowering, with_island, after_enable, form_after, after, parts_after}
use Rattle.cx_rules.proofs.StaticControlLemmas.{occurrences_of-append}
use Rattle.cx_text.proofs.NumberLaws.{times_none, times_one}

-- SUMS
abbrev pub cells_cost : (PlainCell → ℕ) → List PlainCell → ℕ
cells_cost cost [] = 0
cells_cost cost (c ∷ cells) = cost c + cells_cost cost cells

pub cells_cost-append : (cost : PlainCell → ℕ) (xs ys : List PlainCell) → cells_cost cost (xs ++ ys) ≡ cells_cost cost xs + cells_cost cost ys
cells_cost-append cost [] ys = omega arith
cells_cost-append cost (x ∷ xs) ys = let h : cells_cost cost (xs ++ ys) ≡ cells_cost cost xs + cells_cost cost ys = cells_cost-append cost xs ys in omega arith

abbrev pub total : (PlainIsland → ℕ) → List PlainIsland → ℕ
total f [] = 0
total f (i ∷ islands) = f i + total f islands

pub total-append : (f : PlainIsland → ℕ) (xs ys : List PlainIsland) → total f (xs ++ ys) ≡ total f xs + total f ys
total-append f [] ys = omega arith
total-append f (x ∷ xs) ys = let h : total f (xs ++ ys) ≡ total f xs + total f ys = total-append f xs ys in omega arith

abbrev pub all_timers : List PlainIsland → ℕ
all_timers = total (λ i. length i.timers)

abbrev pub all_points : List PlainIsland → ℕ
all_points = total (λ i. length i.points)

abbrev pub all_occurrences : List PlainIsland → ℕ
all_occurrences = total (λ i. length i.occurrences)

times_both : (e m a b : ℕ) → m ≡ a + b → e * m ≡ e * a + e * b
times_both zero m a b h = omega (arith, zero-mul m, zero-mul a, zero-mul b)
times_both (suc e) m a b h = let k : e * m ≡ e * a + e * b = times_both e m a b h in omega (arith, suc-mul e m, suc-mul e a, suc-mul e b, h)

-- cells, of which each timer costs so much at most
module _ (part : PlainComponent) (cost : PlainCell → ℕ) (each : ℕ) (timer_cost : (place : Place) (n : ℕ) → cost (timer_cell place n) ≤ each) where
  record Grown (g h : Gathered) (visits occurring : ℕ) : Type 0 where
    timers : length h.timers ≤ length g.timers + visits
    points : length h.points ≤ length g.points + visits
    occurrences : length h.occurrences ≤ length g.occurrences + occurring
    cells : cells_cost cost h.cells + each * length g.timers ≤ cells_cost cost g.cells + each * length h.timers

  grown_itself : (g : Gathered) (visits occurring : ℕ) → Grown g g visits occurring
  grown_itself g visits occurring = record { timers = omega arith; points = omega arith; occurrences = omega arith; cells = omega arith }

  grown_on : (f g h : Gathered) (a b p q c r : ℕ) → Grown f g a p → Grown g h b q → a + b ≤ c → p + q ≤ r → Grown f h c r
  grown_on f g h a b p q c r x y few less =
      let t : length g.timers ≤ length f.timers + a = x.timers in
      let u : length h.timers ≤ length g.timers + b = y.timers in
      let v : length g.points ≤ length f.points + a = x.points in
      let w : length h.points ≤ length g.points + b = y.points in
      let m : length g.occurrences ≤ length f.occurrences + p = x.occurrences in
      let n : length h.occurrences ≤ length g.occurrences + q = y.occurrences in
      let k : cells_cost cost g.cells + each * length f.timers ≤ cells_cost cost f.cells + each * length g.timers = x.cells in
      let l : cells_cost cost h.cells + each * length g.timers ≤ cells_cost cost g.cells + each * length h.timers = y.cells in
      record { timers = omega arith; points = omega arith; occurrences = omega arith; cells = omega arith }

  timer_grown : (place : Place) (n : ℕ) (outer : Option ℕ) (from to : ℕ) (g : Gathered) → Grown g (with_timer place n outer from to g) 1 0
  timer_grown place n outer from to g =
      let timer : IslandTimer = record { cell = length g.cells; outer = outer; from = from; to = to } in
      let long : length (g.timers ++ timer ∷ []) ≡ length g.timers + 1 = length-append g.timers (timer ∷ []) in
      let times : each * length (g.timers ++ timer ∷ []) ≡ each * length g.timers + each * 1 = times_both each (length (g.timers ++ timer ∷ [])) (length g.timers) 1 long in
      let one : each * 1 ≡ each = times_one each in
      let all : cells_cost cost (g.cells ++ timer_cell place n ∷ []) ≡ cells_cost cost g.cells + cells_cost cost (timer_cell place n ∷ []) = cells_cost-append cost g.cells (timer_cell place n ∷ []) in
      let own : cost (timer_cell place n) ≤ each = timer_cost place n in
      record { timers = omega arith; points = omega arith; occurrences = omega arith; cells = omega arith }

  occurrence_grown : (group : ℕ) (x : Begin) (o : Option ℕ) (g : Gathered) → Grown g (with_occurrence group x o g) 1 (one_if (is_some o))
  occurrence_grown group x None g = grown_itself g 1 0
  occurrence_grown group x (Some n) g =
      let occurrence : PlainOccurrence = record { group = group; timer = x.timer; from = x.at; to = x.at + n; samples = x.samples } in
      let long : length (g.occurrences ++ occurrence ∷ []) ≡ length g.occurrences + 1 = length-append g.occurrences (occurrence ∷ []) in
      record { timers = omega arith; points = omega arith; occurrences = omega arith; cells = omega arith }

  mutual
    form_grown : (form : PlainForm) (context : Context) (place : Place) (x : Begin) (g : Gathered) → Grown g (form_gathered part form x g) (length (visit context (Placed form place))) (form_occurrences part form)
    form_grown Empty context place x g = grown_itself g 1 0
    form_grown (Enable group) context place x g = occurrence_grown group x (group_length part group) g
    form_grown (Seq parts) context place x g = grown_itself g (length (visit context (Placed (Seq parts) place))) 0
    form_grown (Par arms) context place x g = grown_itself g (length (visit context (Placed (Par arms) place))) 0
    form_grown (If test comb y z) context place x g = grown_itself g (length (visit context (Placed (If test comb y z) place))) 0
    form_grown (While test comb y) context place x g = grown_itself g (length (visit context (Placed (While test comb y) place))) 0
    form_grown (Repeat count y) context place x g = grown_itself g (length (visit context (Placed (Repeat count y) place))) 0
    form_grown (StaticSeq written parts) context place x g =
        grown_on g g (parts_gathered part parts x g) 1 (length (visit_all InStatic parts)) 0 (occurrences_in part parts) (suc (length (visit_all InStatic parts))) (occurrences_in part parts) (grown_itself g 1 0) (parts_grown parts x g)
        (omega arith) (omega arith)
    form_grown (StaticPar written arms) context place x g =
        grown_on g g (arms_gathered part arms x g) 1 (length (visit_all InStatic arms)) 0 (occurrences_in part arms) (suc (length (visit_all InStatic arms))) (occurrences_in part arms) (grown_itself g 1 0) (arms_grown arms x g)
        (omega arith) (omega arith)
    form_grown (StaticIf written test y z) context place x g =
        let first = with_point test.port x g in
        let second = gathered part y (if_sampled (length g.points) true x) first in
        let third = gathered part z (if_sampled (length g.points) false x) second in
        let point : PlainPoint = record { port = test.port; timer = x.timer; at = x.at; samples = x.samples } in
        let long : length (g.points ++ point ∷ []) ≡ length g.points + 1 = length-append g.points (point ∷ []) in
        let both : length (visit Branch y ++ visit Branch z) ≡ length (visit Branch y) + length (visit Branch z) = length-append (visit Branch y) (visit Branch z) in
        let one : Grown g first 1 0 = record { timers = omega arith; points = omega arith; occurrences = omega arith; cells = omega arith } in
        let two = grown_on g first second 1 (length (visit Branch y)) 0 (occurrences part y) (1 + length (visit Branch y)) (occurrences part y) one (grown y Branch (if_sampled (length g.points) true x) first) (omega arith) (omega arith) in
        grown_on g second third (1 + length (visit Branch y)) (length (visit Branch z)) (occurrences part y) (occurrences part z) (suc (length (visit Branch y ++ visit Branch z))) (occurrences part y + occurrences part z) two
        (grown z Branch (if_sampled (length g.points) false x) second) (omega arith) (omega arith)
    form_grown (StaticRepeat written count y) context place x g =
        let first = with_timer part.place (length_of part y) (Some x.timer) x.at (x.at + count * length_of part y) g in
        grown_on g first (gathered part y (begin_at (length g.timers) 0 x.samples) first) 1 (length (visit InStatic y)) 0 (occurrences part y) (suc (length (visit InStatic y))) (occurrences part y)
        (timer_grown part.place (length_of part y) (Some x.timer) x.at (x.at + count * length_of part y) g) (grown y InStatic (begin_at (length g.timers) 0 x.samples) first) (omega arith) (omega arith)
    form_grown (Timed k) context place x g = grown_itself g 1 0

    grown : (s : PlainStatement) (context : Context) (x : Begin) (g : Gathered) → Grown g (gathered part s x g) (length (visit context s)) (occurrences part s)
    grown (Placed form place) context x g = form_grown form context place x g

    parts_grown : (ss : PlainStatements) (x : Begin) (g : Gathered) → Grown g (parts_gathered part ss x g) (length (visit_all InStatic ss)) (occurrences_in part ss)
    parts_grown no_statements x g = grown_itself g 0 0
    parts_grown (a_statement s ss) x g =
        let both : length (visit InStatic s ++ visit_all InStatic ss) ≡ length (visit InStatic s) + length (visit_all InStatic ss) = length-append (visit InStatic s) (visit_all InStatic ss) in
        grown_on g (gathered part s x g) (parts_gathered part ss (later (length_of part s) x) (gathered part s x g)) (length (visit InStatic s)) (length (visit_all InStatic ss)) (occurrences part s) (occurrences_in part ss)
        (length (visit InStatic s ++ visit_all InStatic ss)) (occurrences part s + occurrences_in part ss) (grown s InStatic x g) (parts_grown ss (later (length_of part s) x) (gathered part s x g)) (omega arith) (omega arith)

    arms_grown : (ss : PlainStatements) (x : Begin) (g : Gathered) → Grown g (arms_gathered part ss x g) (length (visit_all InStatic ss)) (occurrences_in part ss)
    arms_grown no_statements x g = grown_itself g 0 0
    arms_grown (a_statement s ss) x g =
        let both : length (visit InStatic s ++ visit_all InStatic ss) ≡ length (visit InStatic s) + length (visit_all InStatic ss) = length-append (visit InStatic s) (visit_all InStatic ss) in
        grown_on g (gathered part s x g) (arms_gathered part ss x (gathered part s x g)) (length (visit InStatic s)) (length (visit_all InStatic ss)) (occurrences part s) (occurrences_in part ss)
        (length (visit InStatic s ++ visit_all InStatic ss)) (occurrences part s + occurrences_in part ss) (grown s InStatic x g) (arms_grown ss x (gathered part s x g)) (omega arith) (omega arith)

  -- CONTROL
  pub record Adds (l m : Lowering) (visits occurring : ℕ) : Type 0 where
    pub timers : all_timers m.islands ≤ all_timers l.islands + (visits + visits)
    pub points : all_points m.islands ≤ all_points l.islands + visits
    pub occurrences : all_occurrences m.islands ≤ all_occurrences l.islands + occurring
    pub islands : length m.islands ≤ length l.islands + visits
    pub cells : cells_cost cost m.cells + each * all_timers l.islands ≤ cells_cost cost l.cells + each * all_timers m.islands

  adds_nothing : (l : Lowering) (visits occurring : ℕ) → Adds l l visits occurring
  adds_nothing l visits occurring = record { timers = omega arith; points = omega arith; occurrences = omega arith; islands = omega arith; cells = omega arith }

  adds_on : (k l m : Lowering) (a b p q c r : ℕ) → Adds k l a p → Adds l m b q → a + b ≤ c → p + q ≤ r → Adds k m c r
  adds_on k l m a b p q c r x y few less =
      let t : all_timers l.islands ≤ all_timers k.islands + (a + a) = x.timers in
      let u : all_timers m.islands ≤ all_timers l.islands + (b + b) = y.timers in
      let v : all_points l.islands ≤ all_points k.islands + a = x.points in
      let w : all_points m.islands ≤ all_points l.islands + b = y.points in
      let g : all_occurrences l.islands ≤ all_occurrences k.islands + p = x.occurrences in
      let h : all_occurrences m.islands ≤ all_occurrences l.islands + q = y.occurrences in
      let i : length l.islands ≤ length k.islands + a = x.islands in
      let j : length m.islands ≤ length l.islands + b = y.islands in
      let e : cells_cost cost l.cells + each * all_timers k.islands ≤ cells_cost cost k.cells + each * all_timers l.islands = x.cells in
      let f : cells_cost cost m.cells + each * all_timers l.islands ≤ cells_cost cost l.cells + each * all_timers m.islands = y.cells in
      record { timers = omega arith; points = omega arith; occurrences = omega arith; islands = omega arith; cells = omega arith }

  adds_more : (l m : Lowering) (a b p q : ℕ) → Adds l m a p → a ≤ b → p ≤ q → Adds l m b q
  adds_more l m a b p q x few less = adds_on l l m 0 a 0 p b q (adds_nothing l 0 0) x (omega arith) (omega arith)

  island_adds : (form : PlainForm) (place : Place) (l : Lowering) → Adds l (with_island part form l) (length (visit Dynamic (Placed form place))) (form_occurrences part form)
  island_adds form place l =
      let bare : Gathered = record { cells = l.cells; timers = []; points = []; occurrences = [] } in
      let start = with_timer part.place (form_length part form) None 0 (form_length part form) bare in
      let g = island_gathered part form l.cells in
      let i : PlainIsland = island_of (form_length part form) g in
      let visits : ℕ = length (visit Dynamic (Placed form place)) in
      let all = grown_on bare start g 1 (length (visit Dynamic (Placed form place))) 0 (form_occurrences part form) (1 + length (visit Dynamic (Placed form place))) (form_occurrences part form)
      (timer_grown part.place (form_length part form) None 0 (form_length part form) bare) (form_grown form Dynamic place (begin_at 0 0 []) start) (omega arith) (omega arith) in
      let point = form_grown form Dynamic place (begin_at 0 0 []) start in
      let t : length g.timers ≤ 0 + (1 + length (visit Dynamic (Placed form place))) = all.timers in
      let p : length g.points ≤ 0 + length (visit Dynamic (Placed form place)) = point.points in
      let o : length g.occurrences ≤ 0 + form_occurrences part form = all.occurrences in
      let c : cells_cost cost g.cells + each * 0 ≤ cells_cost cost l.cells + each * length g.timers = all.cells in
      let none : each * 0 ≡ 0 = times_none each in
      let timers : all_timers (l.islands ++ i ∷ []) ≡ all_timers l.islands + (length g.timers + 0) = total-append (λ x. length x.timers) l.islands (i ∷ []) in
      let points : all_points (l.islands ++ i ∷ []) ≡ all_points l.islands + (length g.points + 0) = total-append (λ x. length x.points) l.islands (i ∷ []) in
      let occurring : all_occurrences (l.islands ++ i ∷ []) ≡ all_occurrences l.islands + (length g.occurrences + 0) = total-append (λ x. length x.occurrences) l.islands (i ∷ []) in
      let long : length (l.islands ++ i ∷ []) ≡ length l.islands + 1 = length-append l.islands (i ∷ []) in
      let sum : all_timers (l.islands ++ i ∷ []) ≡ all_timers l.islands + length g.timers = omega arith in
      let times : each * all_timers (l.islands ++ i ∷ []) ≡ each * all_timers l.islands + each * length g.timers = times_both each (all_timers (l.islands ++ i ∷ [])) (all_timers l.islands) (length g.timers) sum in
      record { timers = omega arith; points = omega arith; occurrences = omega arith; islands = omega arith; cells = omega arith }

  static_adds : (form : PlainForm) (place : Place) (l : Lowering) → is_island part (record { context = Dynamic; form = form; place = place }) ≡ true
      → Adds l (with_island part form l) (length (visit Dynamic (Placed form place))) (occurrences_of part (visit Dynamic (Placed form place)))
  static_adds form place l is =
      let own : island_occurrences part (is_island part (record { context = Dynamic; form = form; place = place })) form ≡ form_occurrences part form = ap (λ b. island_occurrences part b form) is in
      adds_more l (with_island part form l) (length (visit Dynamic (Placed form place))) (length (visit Dynamic (Placed form place))) (form_occurrences part form) (occurrences_of part (visit Dynamic (Placed form place)))
      (island_adds form place l) (omega arith) (omega arith)

  enable_adds : (g : ℕ) (place : Place) (o : Option ℕ) (l : Lowering) → group_length part g ≡ o → Adds l (after_enable part g o l) 1 (occurrences_of part (visit Dynamic (Placed (Enable g) place)))
  enable_adds g place None l is = adds_nothing l 1 (occurrences_of part (visit Dynamic (Placed (Enable g) place)))
  enable_adds g place (Some n) l is = static_adds (Enable g) place l (ap is_some is)

  mutual
    form_adds : (form : PlainForm) (place : Place) (l : Lowering) → Adds l (form_after part form l) (length (visit Dynamic (Placed form place))) (occurrences_of part (visit Dynamic (Placed form place)))
    form_adds Empty place l = adds_nothing l 1 0
    form_adds (Enable g) place l = enable_adds g place (group_length part g) l refl
    form_adds (Seq parts) place l =
        adds_more l (parts_after part parts l) (length (visit_all Dynamic parts)) (suc (length (visit_all Dynamic parts))) (occurrences_of part (visit_all Dynamic parts)) (0 + occurrences_of part (visit_all Dynamic parts)) (parts_add parts l) (omega arith) (omega arith)
    form_adds (Par arms) place l =
        adds_more l (parts_after part arms l) (length (visit_all Dynamic arms)) (suc (length (visit_all Dynamic arms))) (occurrences_of part (visit_all Dynamic arms)) (0 + occurrences_of part (visit_all Dynamic arms)) (parts_add arms l) (omega arith) (omega arith)
    form_adds (If test comb a b) place l =
        let both : length (visit Dynamic a ++ visit Dynamic b) ≡ length (visit Dynamic a) + length (visit Dynamic b) = length-append (visit Dynamic a) (visit Dynamic b) in
        let sums : occurrences_of part (visit Dynamic a ++ visit Dynamic b) ≡ occurrences_of part (visit Dynamic a) + occurrences_of part (visit Dynamic b) = occurrences_of-append part (visit Dynamic a) (visit Dynamic b) in
        adds_on l (after part a l) (after part b (after part a l)) (length (visit Dynamic a)) (length (visit Dynamic b)) (occurrences_of part (visit Dynamic a)) (occurrences_of part (visit Dynamic b))
        (suc (length (visit Dynamic a ++ visit Dynamic b))) (0 + occurrences_of part (visit Dynamic a ++ visit Dynamic b)) (statement_adds a l) (statement_adds b (after part a l)) (omega arith) (omega arith)
    form_adds (While test comb a) place l =
        adds_more l (after part a l) (length (visit Dynamic a)) (suc (length (visit Dynamic a))) (occurrences_of part (visit Dynamic a)) (0 + occurrences_of part (visit Dynamic a)) (statement_adds a l) (omega arith) (omega arith)
    form_adds (Repeat count a) place l =
        adds_more l (after part a l) (length (visit Dynamic a)) (suc (length (visit Dynamic a))) (occurrences_of part (visit Dynamic a)) (0 + occurrences_of part (visit Dynamic a)) (statement_adds a l) (omega arith) (omega arith)
    form_adds (StaticSeq written parts) place l = static_adds (StaticSeq written parts) place l refl
    form_adds (StaticPar written arms) place l = static_adds (StaticPar written arms) place l refl
    form_adds (StaticIf written test a b) place l = static_adds (StaticIf written test a b) place l refl
    form_adds (StaticRepeat written count a) place l = static_adds (StaticRepeat written count a) place l refl
    form_adds (Timed k) place l = adds_nothing l 1 0

    -- WHAT CONTROL ADDS
    pub statement_adds : (s : PlainStatement) (l : Lowering) → Adds l (after part s l) (length (visit Dynamic s)) (occurrences_of part (visit Dynamic s))
    statement_adds (Placed form place) l = form_adds form place l

    parts_add : (ss : PlainStatements) (l : Lowering) → Adds l (parts_after part ss l) (length (visit_all Dynamic ss)) (occurrences_of part (visit_all Dynamic ss))
    parts_add no_statements l = adds_nothing l 0 0
    parts_add (a_statement s ss) l =
        let both : length (visit Dynamic s ++ visit_all Dynamic ss) ≡ length (visit Dynamic s) + length (visit_all Dynamic ss) = length-append (visit Dynamic s) (visit_all Dynamic ss) in
        let sums : occurrences_of part (visit Dynamic s ++ visit_all Dynamic ss) ≡ occurrences_of part (visit Dynamic s) + occurrences_of part (visit_all Dynamic ss) = occurrences_of-append part (visit Dynamic s) (visit_all Dynamic ss) in
        adds_on l (after part s l) (parts_after part ss (after part s l)) (length (visit Dynamic s)) (length (visit_all Dynamic ss)) (occurrences_of part (visit Dynamic s)) (occurrences_of part (visit_all Dynamic ss))
        (length (visit Dynamic s ++ visit_all Dynamic ss)) (occurrences_of part (visit Dynamic s ++ visit_all Dynamic ss)) (statement_adds s l) (parts_add ss (after part s l)) (omega arith) (omega arith)
