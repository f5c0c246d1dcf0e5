-- How many registers the control of a lowered component has, counted as the shape of a source counts them: among them a sample for each static if.
use Rattle.std.proofs.Common.{◌≡◌, ℕ, zero, suc, ◌+◌, ◌*◌, ◌≤◌, true, false, List, [], ◌∷◌, ◌++◌, length, Option, Some, None, refl, arith, length-append}
use Rattle.cx_text.specs.declared.places.Place.{Place}
use Rattle.cx_meaning.specs.Designs.{PlainComponent, PlainForm, Empty, Enable, Seq, Par, If, While, Repeat, StaticSeq, StaticPar, StaticIf, StaticRepeat, Timed, PlainStatement, Placed, PlainStatements, no_statements, a_statement, list_of}
use Rattle.cx_meaning.specs.Islands.{group_length, form_length, length_of}
use Rattle.cx_rules.specs.Items.{Context, Dynamic, InStatic, Branch, Visited, visit, visit_all, statements_in}
use Rattle.cx_static.specs.Islands.{PlainPoint, PlainIsland}
use Rattle.cx_static.specs.Lowering.{Gathered, Begin, begin_at, later, if_sampled, with_timer, with_point, with_occurrence, form_gathered, gathered, parts_gathered, arms_gathered, island_gathered, island_of, Lowering, with_island, after_enable, lowered_enable, form_after, after, parts_after, lowered_form, lowered, lowered_parts, unlowered, lowered_component}
use Rattle.cx_wiring.specs.Counts.{form_registers, registers_of, registers_in, arms_registers}
use Rattle.cx_wiring.specs.Wiring.{component_registers}
use Rattle.cx_wiring.proofs.ControlCounts.{Untimed, timed_in, lowered_total, samples_are}
use Rattle.cx_wiring.proofs.CountLaws.{samples_at, samples_in}
use Rattle.cx_wiring.proofs.LoweringCounts.{total-append, all_points}
use Rattle.cx_emit.specs.Shapes.{summed, arms_in, repeats_in, static_ifs_in, most_registers}

-- SUMS
pub summed-append : (f : Visited → ℕ) (vs ws : List Visited) → summed f (vs ++ ws) ≡ summed f vs + summed f ws
summed-append f [] ws = omega arith
summed-append f (v ∷ vs) ws = let h : summed f (vs ++ ws) ≡ summed f vs + summed f ws = summed-append f vs ws in omega arith

abbrev arms : List Visited → ℕ
arms = summed (λ v. arms_in v.form)

abbrev repeats : List Visited → ℕ
repeats = summed (λ v. repeats_in v.form)

abbrev ifs : List Visited → ℕ
ifs = summed (λ v. static_ifs_in v.form)

module _ (part : PlainComponent) where
  -- THE POINTS of an island: one for each `static if`
  abbrev Grows : Gathered → Gathered → List Visited → Type 0
  Grows g h vs = length h.points ≤ length g.points + ifs vs

  occurrence_grows : (group : ℕ) (x : Begin) (o : Option ℕ) (g : Gathered) (vs : List Visited) → Grows g (with_occurrence group x o g) vs
  occurrence_grows group x None g vs = omega arith
  occurrence_grows group x (Some n) g vs = omega arith

  two_grow : (f g h : Gathered) (vs ws : List Visited) → Grows f g vs → Grows g h ws → Grows f h (vs ++ ws)
  two_grow f g h vs ws one other = let points = summed-append (λ v. static_ifs_in v.form) vs ws in omega (arith, one, other, points)

  mutual
    form_grows : (form : PlainForm) (context : Context) (place : Place) (x : Begin) (g : Gathered) → Grows g (form_gathered part form x g) (visit context (Placed form place))
    form_grows Empty context place x g = omega arith
    form_grows (Enable group) context place x g = occurrence_grows group x (group_length part group) g (visit context (Placed (Enable group) place))
    form_grows (Seq parts) context place x g = omega arith
    form_grows (Par ss) context place x g = omega arith
    form_grows (If test comb a b) context place x g = omega arith
    form_grows (While test comb a) context place x g = omega arith
    form_grows (Repeat count a) context place x g = omega arith
    form_grows (StaticSeq written parts) context place x g = let h : Grows g (parts_gathered part parts x g) (visit_all InStatic parts) = parts_grow parts x g in omega (arith, h)
    form_grows (StaticPar written ss) context place x g = let h : Grows g (arms_gathered part ss x g) (visit_all InStatic ss) = arms_grow ss x g in omega (arith, h)
    form_grows (StaticIf written test a b) context place x g =
        let first = with_point test.port x g in
        let second = gathered part a (if_sampled (length g.points) true x) first in
        let third = gathered part b (if_sampled (length g.points) false x) second in
        let point : PlainPoint = record { port = test.port; timer = x.timer; at = x.at; samples = x.samples } in
        let long = length-append g.points (point ∷ []) in
        let both = two_grow first second third (visit Branch a) (visit Branch b) (grows a Branch (if_sampled (length g.points) true x) first) (grows b Branch (if_sampled (length g.points) false x) second) in
        omega (arith, long, both)
    form_grows (StaticRepeat written count a) context place x g =
        let first = with_timer part.place (length_of part a) (Some x.timer) x.at (x.at + count * length_of part a) g in
        let h = grows a InStatic (begin_at (length g.timers) 0 x.samples) first in
        omega (arith, h)
    form_grows (Timed k) context place x g = omega arith

    grows : (s : PlainStatement) (context : Context) (x : Begin) (g : Gathered) → Grows g (gathered part s x g) (visit context s)
    grows (Placed form place) context x g = form_grows form context place x g

    parts_grow : (ss : PlainStatements) (x : Begin) (g : Gathered) → Grows g (parts_gathered part ss x g) (visit_all InStatic ss)
    parts_grow no_statements x g = omega arith
    parts_grow (a_statement s ss) x g =
        two_grow g (gathered part s x g) (parts_gathered part ss (later (length_of part s) x) (gathered part s x g)) (visit InStatic s) (visit_all InStatic ss) (grows s InStatic x g)
        (parts_grow ss (later (length_of part s) x) (gathered part s x g))

    arms_grow : (ss : PlainStatements) (x : Begin) (g : Gathered) → Grows g (arms_gathered part ss x g) (visit_all InStatic ss)
    arms_grow no_statements x g = omega arith
    arms_grow (a_statement s ss) x g =
        two_grow g (gathered part s x g) (arms_gathered part ss x (gathered part s x g)) (visit InStatic s) (visit_all InStatic ss) (grows s InStatic x g) (arms_grow ss x (gathered part s x g))

  -- those of all islands of control
  abbrev Lowers : Lowering → Lowering → List Visited → Type 0
  Lowers l m vs = all_points m.islands ≤ all_points l.islands + ifs vs

  two_lower : (k l m : Lowering) (vs ws : List Visited) → Lowers k l vs → Lowers l m ws → Lowers k m (vs ++ ws)
  two_lower k l m vs ws one other = let points = summed-append (λ v. static_ifs_in v.form) vs ws in omega (arith, one, other, points)

  island_lowers : (form : PlainForm) (place : Place) (l : Lowering) → Lowers l (with_island part form l) (visit Dynamic (Placed form place))
  island_lowers form place l =
      let bare : Gathered = record { cells = l.cells; timers = []; points = []; occurrences = [] } in
      let start = with_timer part.place (form_length part form) None 0 (form_length part form) bare in
      let i : PlainIsland = island_of (form_length part form) (island_gathered part form l.cells) in
      let few : length i.points ≤ 0 + ifs (visit Dynamic (Placed form place)) = form_grows form Dynamic place (begin_at 0 0 []) start in
      let sum = total-append (λ x. length x.points) l.islands (i ∷ []) in
      omega (arith, few, sum)

  enable_lowers : (g : ℕ) (place : Place) (o : Option ℕ) (l : Lowering) → Lowers l (after_enable part g o l) (visit Dynamic (Placed (Enable g) place))
  enable_lowers g place None l = omega arith
  enable_lowers g place (Some n) l = island_lowers (Enable g) place l

  mutual
    form_lowers : (form : PlainForm) (place : Place) (l : Lowering) → Lowers l (form_after part form l) (visit Dynamic (Placed form place))
    form_lowers Empty place l = omega arith
    form_lowers (Enable g) place l = enable_lowers g place (group_length part g) l
    form_lowers (Seq parts) place l = let h : Lowers l (parts_after part parts l) (visit_all Dynamic parts) = parts_lower parts l in omega (arith, h)
    form_lowers (Par ss) place l = let h : Lowers l (parts_after part ss l) (visit_all Dynamic ss) = parts_lower ss l in omega (arith, h)
    form_lowers (If test comb a b) place l =
        let h = two_lower l (after part a l) (after part b (after part a l)) (visit Dynamic a) (visit Dynamic b) (lowers a l) (lowers b (after part a l)) in
        omega (arith, h)
    form_lowers (While test comb a) place l = let h : Lowers l (after part a l) (visit Dynamic a) = lowers a l in omega (arith, h)
    form_lowers (Repeat count a) place l = let h : Lowers l (after part a l) (visit Dynamic a) = lowers a l in omega (arith, h)
    form_lowers (StaticSeq written parts) place l = island_lowers (StaticSeq written parts) place l
    form_lowers (StaticPar written ss) place l = island_lowers (StaticPar written ss) place l
    form_lowers (StaticIf written test a b) place l = island_lowers (StaticIf written test a b) place l
    form_lowers (StaticRepeat written count a) place l = island_lowers (StaticRepeat written count a) place l
    form_lowers (Timed k) place l = omega arith

    lowers : (s : PlainStatement) (l : Lowering) → Lowers l (after part s l) (visit Dynamic s)
    lowers (Placed form place) l = form_lowers form place l

    parts_lower : (ss : PlainStatements) (l : Lowering) → Lowers l (parts_after part ss l) (visit_all Dynamic ss)
    parts_lower no_statements l = omega arith
    parts_lower (a_statement s ss) l = two_lower l (after part s l) (parts_after part ss (after part s l)) (visit Dynamic s) (visit_all Dynamic ss) (lowers s l) (parts_lower ss (after part s l))

  -- REGISTERS of lowered control, where its islands are among these
  module _ (among : List PlainIsland) where
    abbrev kept : List Visited → ℕ
    kept = summed (λ v. samples_at among v.form)

    enable_registers : (g : ℕ) (place : Place) (o : Option ℕ) (l : Lowering) → length (form_registers among (lowered_enable part g o l)) ≤ kept (visit Dynamic (Placed (lowered_enable part g o l) place))
    enable_registers g place None l = omega arith
    enable_registers g place (Some n) l = omega arith

    abbrev Few : List ℕ → List Visited → List Visited → Type 0
    Few registers vs ws = length registers ≤ arms vs + repeats vs + kept ws

    two_few : (rs qs : List ℕ) (vs ws xs ys : List Visited) → Few rs vs xs → Few qs ws ys → Few (rs ++ qs) (vs ++ ws) (xs ++ ys)
    two_few rs qs vs ws xs ys h k =
        let long = length-append rs qs in
        let a = summed-append (λ v. arms_in v.form) vs ws in
        let r = summed-append (λ v. repeats_in v.form) vs ws in
        let s = summed-append (λ v. samples_at among v.form) xs ys in
        omega (arith, h, k, long, a, r, s)

    mutual
      form_registers_few : (form : PlainForm) (place : Place) (l : Lowering) → Few (form_registers among (lowered_form part form l)) (visit Dynamic (Placed form place)) (visit Dynamic (Placed (lowered_form part form l) place))
      form_registers_few Empty place l = omega arith
      form_registers_few (Enable g) place l = let h = enable_registers g place (group_length part g) l in omega (arith, h)
      form_registers_few (Seq parts) place l = let h : Few (registers_in among (lowered_parts part parts l)) (visit_all Dynamic parts) (visit_all Dynamic (lowered_parts part parts l)) = parts_registers_few parts l in omega (arith, h)
      form_registers_few (Par ss) place l = let h = arms_registers_few ss l in omega (arith, h)
      form_registers_few (If test comb a b) place l =
          let h = two_few (registers_of among (lowered part a l)) (registers_of among (lowered part b (after part a l))) (visit Dynamic a) (visit Dynamic b) (visit Dynamic (lowered part a l)) (visit Dynamic (lowered part b (after part a l)))
          (registers_few a l) (registers_few b (after part a l)) in
          omega (arith, h)
      form_registers_few (While test comb a) place l = let h : Few (registers_of among (lowered part a l)) (visit Dynamic a) (visit Dynamic (lowered part a l)) = registers_few a l in omega (arith, h)
      form_registers_few (Repeat zero a) place l = omega arith
      form_registers_few (Repeat (suc n) a) place l = let h : Few (registers_of among (lowered part a l)) (visit Dynamic a) (visit Dynamic (lowered part a l)) = registers_few a l in omega (arith, h)
      form_registers_few (StaticSeq written parts) place l = omega arith
      form_registers_few (StaticPar written ss) place l = omega arith
      form_registers_few (StaticIf written test a b) place l = omega arith
      form_registers_few (StaticRepeat written count a) place l = omega arith
      form_registers_few (Timed k) place l = omega arith

      registers_few : (s : PlainStatement) (l : Lowering) → Few (registers_of among (lowered part s l)) (visit Dynamic s) (visit Dynamic (lowered part s l))
      registers_few (Placed form place) l = form_registers_few form place l

      parts_registers_few : (ss : PlainStatements) (l : Lowering) → Few (registers_in among (lowered_parts part ss l)) (visit_all Dynamic ss) (visit_all Dynamic (lowered_parts part ss l))
      parts_registers_few no_statements l = omega arith
      parts_registers_few (a_statement s ss) l =
          two_few (registers_of among (lowered part s l)) (registers_in among (lowered_parts part ss (after part s l))) (visit Dynamic s) (visit_all Dynamic ss) (visit Dynamic (lowered part s l))
          (visit_all Dynamic (lowered_parts part ss (after part s l))) (registers_few s l) (parts_registers_few ss (after part s l))

      -- one more for each arm
      arms_registers_few : (ss : PlainStatements) (l : Lowering)
          → length (arms_registers among (lowered_parts part ss l)) ≤ length (list_of ss) + (arms (visit_all Dynamic ss) + repeats (visit_all Dynamic ss) + kept (visit_all Dynamic (lowered_parts part ss l)))
      arms_registers_few no_statements l = omega arith
      arms_registers_few (a_statement s ss) l =
          let h : Few (registers_of among (lowered part s l)) (visit Dynamic s) (visit Dynamic (lowered part s l)) = registers_few s l in
          let k = arms_registers_few ss (after part s l) in
          let long = length-append (registers_of among (lowered part s l)) (arms_registers among (lowered_parts part ss (after part s l))) in
          let a = summed-append (λ v. arms_in v.form) (visit Dynamic s) (visit_all Dynamic ss) in
          let r = summed-append (λ v. repeats_in v.form) (visit Dynamic s) (visit_all Dynamic ss) in
          let p = summed-append (λ v. samples_at among v.form) (visit Dynamic (lowered part s l)) (visit_all Dynamic (lowered_parts part ss (after part s l))) in
          omega (arith, h, k, long, a, r, p)

    samples_summed : (vs : List Visited) → kept vs ≡ samples_in among vs
    samples_summed [] = refl
    samples_summed (v ∷ vs) = let h : kept vs ≡ samples_in among vs = samples_summed vs in omega arith

  -- THE REGISTERS of a component whose statements are those of a design
  pub component_registers_few : Untimed (statements_in part) → length (component_registers (lowered_component part)) ≤ most_registers part
  component_registers_few untimed =
      let low = lowered_component part in
      let vs : List Visited = visit Dynamic low.part.control in
      let held : Few low.islands (registers_of low.islands low.part.control) (statements_in part) vs = registers_few low.islands part.control (unlowered part) in
      let same : kept low.islands vs ≡ samples_in low.islands vs = samples_summed low.islands vs in
      let sampled : samples_in low.islands vs ≡ timed_in (λ i. length i.points) low.islands vs = samples_are low.islands vs in
      let pointed : timed_in (λ i. length i.points) low.islands vs + 0 ≡ all_points low.islands = lowered_total part (λ i. length i.points) part.control (unlowered part) low.islands untimed (λ n x e. e) in
      let points : all_points low.islands ≤ 0 + ifs (statements_in part) = lowers part.control (unlowered part) in
      omega (arith, held, same, sampled, pointed, points)
