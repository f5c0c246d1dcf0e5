-- What the timers behind the cells of a lowered component are for: each is that of an island or of a `static repeat`, by the number of the statement
-- in pre-order; they stand in that order, the one of an island before that of a `static repeat` that is one, so no two are for one thing.
use Rattle.std.proofs.Common.{◌≡◌, ◌⊎◌, inl, inr, ℕ, zero, suc, ◌+◌, ◌-◌, ◌*◌, ◌<◌, ◌≤◌, true, false, List, [], ◌∷◌, ◌++◌, length, get_or, drop, Option, Some, None, slice_get, refl, sym, ap, ◌∙◌, subst, if◌then◌else◌, arith, length-append, lt-ltb, le-ltb}
use Rattle.std.specs.Prelude.{is_some, nat_lt}
use Rattle.std.proofs.lemmas.Bool.{cases_lt}
use Rattle.std.proofs.lemmas.List.{append_assoc, append-nil, drop_at}
use Rattle.cx_text.specs.declared.places.Place.{Place}
use Rattle.cx_meaning.specs.Designs.{PlainKind, PlainCell, PlainComponent, PlainForm, Empty, Enable, Seq, Par, If, While, Repeat, StaticSeq, StaticPar, StaticIf, StaticRepeat, Timed, PlainStatement, Placed, PlainStatements, no_statements, a_statement}
use Rattle.cx_meaning.specs.Islands.{group_length, form_length, length_of}
use Rattle.cx_rules.specs.Items.{Context, Dynamic, InStatic, Branch, Visited, visit, visit_parts, visit_all, statements_in}
use Rattle.cx_rules.specs.StaticControl.{is_island}
use Rattle.cx_static.specs.Lowering.{Gathered, Begin, begin_at, later, if_sampled, timer_cell, with_timer, with_point, with_occurrence, form_gathered, gathered, parts_gathered, arms_gathered, Lowering, with_island, after_enable, form_after, after, parts_after, unlowered}
use Rattle.cx_wiring.specs.PartNets.{timer_cells}
use Rattle.cx_emit.specs.Shapes.{timer_kind, Use, ForCell, ForIsland, ForRepeat, IsTimerOf}
use Rattle.cx_text.proofs.ListLaws.{there_at, front, behind}

-- ORDER: for what each of some uses is, by numbers that rise from one to before another
abbrev key : Use → ℕ
key (ForCell c) = 0
key (ForIsland n) = 2 * n
key (ForRepeat n) = suc (2 * n)

abbrev Rising : ℕ → ℕ → List Use → Type 0
Rising from to [] = from ≤ to
Rising from to (u ∷ us) = (from ≤ key u) × Rising (suc (key u)) to us

rising_lower : (less from to : ℕ) (us : List Use) → less ≤ from → Rising from to us → Rising less to us
rising_lower less from to [] few h = omega (arith, few, h)
rising_lower less from to (u ∷ us) few h = (let low : from ≤ key u = h.0 in omega (arith, few, low), h.1)

rising_more : (from to more : ℕ) (us : List Use) → to ≤ more → Rising from to us → Rising from more us
rising_more from to more [] few h = omega (arith, few, h)
rising_more from to more (u ∷ us) few h = (h.0, rising_more (suc (key u)) to more us few h.1)

rising_both : (from mid to : ℕ) (xs ys : List Use) → Rising from mid xs → Rising mid to ys → Rising from to (xs ++ ys)
rising_both from mid to [] ys h k = rising_lower from mid to ys h k
rising_both from mid to (x ∷ xs) ys h k = (h.0, rising_both (suc (key x)) mid to xs ys h.1 k)

rising_at : (from to : ℕ) (us : List Use) (n : ℕ) (u : Use) → Rising from to us → slice_get us n ≡ Some u → from ≤ key u
rising_at from to [] n u h e = absurd (cc)
rising_at from to (x ∷ us) zero u h e = let same : x ≡ u = cc in subst (λ y. from ≤ key y) same h.0
rising_at from to (x ∷ us) (suc n) u h e =
    let low : from ≤ key x = h.0 in
    let next : suc (key x) ≤ key u = rising_at (suc (key x)) to us n u h.1 e in
    omega (arith, low, next)

rising_once : (from to : ℕ) (us : List Use) (i j : ℕ) (u : Use) → Rising from to us → slice_get us i ≡ Some u → slice_get us j ≡ Some u → i ≡ j
rising_once from to [] i j u h e f = absurd (cc)
rising_once from to (x ∷ us) zero zero u h e f = refl
rising_once from to (x ∷ us) zero (suc j) u h e f =
    let same : x ≡ u = cc in
    let next : suc (key x) ≤ key u = rising_at (suc (key x)) to us j u h.1 f in
    let keys : key x ≡ key u = ap key same in
    absurd (omega (arith, next, keys))
rising_once from to (x ∷ us) (suc i) zero u h e f =
    let same : x ≡ u = cc in
    let next : suc (key x) ≤ key u = rising_at (suc (key x)) to us i u h.1 e in
    let keys : key x ≡ key u = ap key same in
    absurd (omega (arith, next, keys))
rising_once from to (x ∷ us) (suc i) (suc j) u h e f = ap suc (rising_once (suc (key x)) to us i j u h.1 e f)

module _ (part : PlainComponent) where
  abbrev all : List Visited
  all = statements_in part

  -- each of these cells is for its use
  abbrev AreFor : List Use → List PlainCell → Type 0
  AreFor [] [] = Unit {0}
  AreFor [] (c ∷ cs) = ⊥
  AreFor (u ∷ us) [] = ⊥
  AreFor (u ∷ us) (c ∷ cs) = IsTimerOf part c.kind u × AreFor us cs

  for_both : (us vs : List Use) (xs ys : List PlainCell) → AreFor us xs → AreFor vs ys → AreFor (us ++ vs) (xs ++ ys)
  for_both [] vs [] ys h k = k
  for_both [] vs (x ∷ xs) ys h k = absurd h
  for_both (u ∷ us) vs [] ys h k = absurd h
  for_both (u ∷ us) vs (x ∷ xs) ys h k = (h.0, for_both us vs xs ys h.1 k)

  for_at : (us : List Use) (cells : List PlainCell) (t : ℕ) (cell : PlainCell) → AreFor us cells → slice_get cells t ≡ Some cell → (u : Use) × (slice_get us t ≡ Some u) × IsTimerOf part cell.kind u
  for_at [] [] t cell h e = absurd (cc)
  for_at [] (c ∷ cs) t cell h e = absurd h
  for_at (u ∷ us) [] t cell h e = absurd h
  for_at (u ∷ us) (c ∷ cs) zero cell h e = let same : c ≡ cell = cc in (u, refl, subst (λ (x : PlainCell). IsTimerOf part x.kind u) same h.0)
  for_at (u ∷ us) (c ∷ cs) (suc t) cell h e = for_at us cs t cell h.1 e

  -- THE TIMERS that stand behind others
  record Adds (before now : List PlainCell) (from to : ℕ) : Type 0 where
    more : List PlainCell
    cells : now ≡ before ++ more
    uses : List Use
    are : AreFor uses more
    rising : Rising from to uses

  adds_nothing : (cells : List PlainCell) (from to : ℕ) → from ≤ to → Adds cells cells from to
  adds_nothing cells from to few = record { more = []; cells = sym (append-nil cells); uses = []; are = tt; rising = few }

  adds_within : {a b : List PlainCell} (low from to high : ℕ) → low ≤ from → to ≤ high → Adds a b from to → Adds a b low high
  adds_within low from to high few fewer h = record { more = h.more; cells = h.cells; uses = h.uses; are = h.are; rising = rising_lower low from high h.uses few (rising_more from to high h.uses fewer h.rising) }

  adds_both : {a b c : List PlainCell} (from mid to : ℕ) → Adds a b from mid → Adds b c mid to → Adds a c from to
  adds_both {a} from mid to h k = record {
    more = h.more ++ k.more;
    cells = k.cells ∙ ap (λ xs. xs ++ k.more) h.cells ∙ append_assoc a h.more k.more;
    uses = h.uses ++ k.uses;
    are = for_both h.uses k.uses h.more k.more h.are k.are;
    rising = rising_both from mid to h.uses k.uses h.rising k.rising;
  }

  a_timer : (place : Place) (n : ℕ) (u : Use) (cells : List PlainCell) → IsTimerOf part (timer_kind n) u → Adds cells (cells ++ timer_cell place n ∷ []) (key u) (suc (key u))
  a_timer place n u cells is = record { more = timer_cell place n ∷ []; cells = refl; uses = u ∷ []; are = (is, tt); rising = (omega arith, omega arith) }

  -- STATEMENTS that stand from a number on
  abbrev Sits : ℕ → List Visited → Type 0
  Sits b vs = (n : ℕ) (v : Visited) → slice_get vs n ≡ Some v → slice_get all (b + n) ≡ Some v

  sits_here : (b : ℕ) (v : Visited) (vs : List Visited) → Sits b (v ∷ vs) → slice_get all b ≡ Some v
  sits_here b v vs sits = let same : b + 0 ≡ b = omega arith in subst (λ n. slice_get all n ≡ Some v) same (sits 0 v refl)

  sits_next : (b : ℕ) (v : Visited) (vs : List Visited) → Sits b (v ∷ vs) → Sits (suc b) vs
  sits_next b v vs sits n w e = let same : b + suc n ≡ suc b + n = omega arith in subst (λ m. slice_get all m ≡ Some w) same (sits (suc n) w e)

  sits_left : (b : ℕ) (xs ys : List Visited) → Sits b (xs ++ ys) → Sits b xs
  sits_left b xs ys sits n w e = sits n w (front xs ys n w e)

  sits_right : (b : ℕ) (xs ys : List Visited) → Sits b (xs ++ ys) → Sits (b + length xs) ys
  sits_right b xs ys sits n w e =
      let same : b + (length xs + n) ≡ b + length xs + n = omega arith in
      subst (λ m. slice_get all m ≡ Some w) same (sits (length xs + n) w (behind xs ys (length xs + n) n refl ∙ e))

  -- a list of statements, and a statement, whose own number is taken for the timer of an island
  abbrev ListAdds : List PlainCell → List PlainCell → ℕ → List Visited → Type 0
  ListAdds a c b vs = Adds a c (2 * b) (2 * (b + length vs))

  abbrev OneAdds : List PlainCell → List PlainCell → ℕ → ℕ → Type 0
  OneAdds a c b below = Adds a c (suc (2 * b)) (2 * (b + suc below))

  one_nothing : (cells : List PlainCell) (b below : ℕ) → OneAdds cells cells b below
  one_nothing cells b below = adds_nothing cells (suc (2 * b)) (2 * (b + suc below)) (omega arith)

  inside : {a c : List PlainCell} (b : ℕ) (vs : List Visited) → ListAdds a c (suc b) vs → OneAdds a c b (length vs)
  inside b vs h = adds_within (suc (2 * b)) (2 * suc b) (2 * (suc b + length vs)) (2 * (b + suc (length vs))) (omega arith) (omega arith) h

  alone : {a c : List PlainCell} (b below : ℕ) → OneAdds a c b below → Adds a c (2 * b) (2 * (b + suc below))
  alone b below h = adds_within (2 * b) (suc (2 * b)) (2 * (b + suc below)) (2 * (b + suc below)) (omega arith) (omega arith) h

  none_at : (cells : List PlainCell) (b : ℕ) → ListAdds cells cells b []
  none_at cells b = adds_nothing cells (2 * b) (2 * (b + 0)) (omega arith)

  two_add : {f g h : List PlainCell} (b : ℕ) (xs ys : List Visited) → ListAdds f g b xs → ListAdds g h (b + length xs) ys → ListAdds f h b (xs ++ ys)
  two_add b xs ys one other =
      let long = length-append xs ys in
      adds_within (2 * b) (2 * b) (2 * (b + length xs + length ys)) (2 * (b + length (xs ++ ys))) (omega arith) (omega (arith, long)) (adds_both (2 * b) (2 * (b + length xs)) (2 * (b + length xs + length ys)) one other)

  -- IN AN ISLAND
  occurrence_adds : (group : ℕ) (x : Begin) (o : Option ℕ) (g : Gathered) (b below : ℕ) → OneAdds g.cells (with_occurrence group x o g).cells b below
  occurrence_adds group x None g b below = one_nothing g.cells b below
  occurrence_adds group x (Some n) g b below = one_nothing g.cells b below

  mutual
    form_adds : (form : PlainForm) (context : Context) (place : Place) (x : Begin) (g : Gathered) (b : ℕ) → Sits b (visit context (Placed form place)) → OneAdds g.cells (form_gathered part form x g).cells b (length (visit_parts context form))
    form_adds Empty context place x g b sits = one_nothing g.cells b 0
    form_adds (Enable group) context place x g b sits = occurrence_adds group x (group_length part group) g b 0
    form_adds (Seq parts) context place x g b sits = one_nothing g.cells b (length (visit_parts context (Seq parts)))
    form_adds (Par ss) context place x g b sits = one_nothing g.cells b (length (visit_parts context (Par ss)))
    form_adds (If test comb s t) context place x g b sits = one_nothing g.cells b (length (visit_parts context (If test comb s t)))
    form_adds (While test comb s) context place x g b sits = one_nothing g.cells b (length (visit_parts context (While test comb s)))
    form_adds (Repeat count s) context place x g b sits = one_nothing g.cells b (length (visit_parts context (Repeat count s)))
    form_adds (StaticSeq written parts) context place x g b sits =
        inside b (visit_all InStatic parts) (parts_add parts x g (suc b) (sits_next b (record { context = context; form = StaticSeq written parts; place = place }) (visit_all InStatic parts) sits))
    form_adds (StaticPar written ss) context place x g b sits =
        inside b (visit_all InStatic ss) (arms_add ss x g (suc b) (sits_next b (record { context = context; form = StaticPar written ss; place = place }) (visit_all InStatic ss) sits))
    form_adds (StaticIf written test s t) context place x g b sits =
        let first = with_point test.port x g in
        let second = gathered part s (if_sampled (length g.points) true x) first in
        let next = sits_next b (record { context = context; form = StaticIf written test s t; place = place }) (visit Branch s ++ visit Branch t) sits in
        inside b (visit Branch s ++ visit Branch t)
        (two_add (suc b) (visit Branch s) (visit Branch t)
        (adds s Branch (if_sampled (length g.points) true x) first (suc b) (sits_left (suc b) (visit Branch s) (visit Branch t) next))
        (adds t Branch (if_sampled (length g.points) false x) second (suc b + length (visit Branch s)) (sits_right (suc b) (visit Branch s) (visit Branch t) next)))
    form_adds (StaticRepeat written count s) context place x g b sits =
        let own : Visited = record { context = context; form = StaticRepeat written count s; place = place } in
        let first = with_timer part.place (length_of part s) (Some x.timer) x.at (x.at + count * length_of part s) g in
        let timer : Adds g.cells first.cells (suc (2 * b)) (suc (suc (2 * b))) = a_timer part.place (length_of part s) (ForRepeat b) g.cells (own, sits_here b own (visit InStatic s) sits, (length_of part s, refl, refl)) in
        let body : ListAdds first.cells (gathered part s (begin_at (length g.timers) 0 x.samples) first).cells (suc b) (visit InStatic s) =
        adds s InStatic (begin_at (length g.timers) 0 x.samples) first (suc b) (sits_next b own (visit InStatic s) sits) in
        adds_both (suc (2 * b)) (2 * suc b) (2 * (b + suc (length (visit InStatic s))))
        (adds_within (suc (2 * b)) (suc (2 * b)) (suc (suc (2 * b))) (2 * suc b) (omega arith) (omega arith) timer)
        (adds_within (2 * suc b) (2 * suc b) (2 * (suc b + length (visit InStatic s))) (2 * (b + suc (length (visit InStatic s)))) (omega arith) (omega arith) body)
    form_adds (Timed k) context place x g b sits = one_nothing g.cells b 0

    adds : (s : PlainStatement) (context : Context) (x : Begin) (g : Gathered) (b : ℕ) → Sits b (visit context s) → ListAdds g.cells (gathered part s x g).cells b (visit context s)
    adds (Placed form place) context x g b sits = alone b (length (visit_parts context form)) (form_adds form context place x g b sits)

    parts_add : (ss : PlainStatements) (x : Begin) (g : Gathered) (b : ℕ) → Sits b (visit_all InStatic ss) → ListAdds g.cells (parts_gathered part ss x g).cells b (visit_all InStatic ss)
    parts_add no_statements x g b sits = none_at g.cells b
    parts_add (a_statement s ss) x g b sits =
        two_add b (visit InStatic s) (visit_all InStatic ss) (adds s InStatic x g b (sits_left b (visit InStatic s) (visit_all InStatic ss) sits))
        (parts_add ss (later (length_of part s) x) (gathered part s x g) (b + length (visit InStatic s)) (sits_right b (visit InStatic s) (visit_all InStatic ss) sits))

    arms_add : (ss : PlainStatements) (x : Begin) (g : Gathered) (b : ℕ) → Sits b (visit_all InStatic ss) → ListAdds g.cells (arms_gathered part ss x g).cells b (visit_all InStatic ss)
    arms_add no_statements x g b sits = none_at g.cells b
    arms_add (a_statement s ss) x g b sits =
        two_add b (visit InStatic s) (visit_all InStatic ss) (adds s InStatic x g b (sits_left b (visit InStatic s) (visit_all InStatic ss) sits))
        (arms_add ss x (gathered part s x g) (b + length (visit InStatic s)) (sits_right b (visit InStatic s) (visit_all InStatic ss) sits))

  -- IN CONTROL
  abbrev Lowers : Lowering → Lowering → ℕ → List Visited → Type 0
  Lowers l m b vs = Sits b vs → ListAdds l.cells m.cells b vs

  -- a statement that is no island
  one_lowers : (l m : Lowering) (v : Visited) (vs : List Visited) (b : ℕ) → Lowers l m (suc b) vs → Lowers l m b (v ∷ vs)
  one_lowers l m v vs b h sits = alone b (length vs) (inside b vs (h (sits_next b v vs sits)))

  two_lower : (k l m : Lowering) (vs ws : List Visited) (b : ℕ) → Lowers k l b vs → Lowers l m (b + length vs) ws → Lowers k m b (vs ++ ws)
  two_lower k l m vs ws b one other sits = two_add b vs ws (one (sits_left b vs ws sits)) (other (sits_right b vs ws sits))

  none_lowers : (l : Lowering) (v : Visited) (b : ℕ) → Lowers l l b (v ∷ [])
  none_lowers l v b sits = alone b 0 (one_nothing l.cells b 0)

  island_lowers : (form : PlainForm) (place : Place) (l : Lowering) (b : ℕ) → is_island part (record { context = Dynamic; form = form; place = place }) ≡ true → Lowers l (with_island part form l) b (visit Dynamic (Placed form place))
  island_lowers form place l b is sits =
      let own : Visited = record { context = Dynamic; form = form; place = place } in
      let bare : Gathered = record { cells = l.cells; timers = []; points = []; occurrences = [] } in
      let start = with_timer part.place (form_length part form) None 0 (form_length part form) bare in
      let timer : Adds l.cells start.cells (2 * b) (suc (2 * b)) = a_timer part.place (form_length part form) (ForIsland b) l.cells (own, sits_here b own (visit_parts Dynamic form) sits, is, refl) in
      adds_both (2 * b) (suc (2 * b)) (2 * (b + suc (length (visit_parts Dynamic form)))) timer (form_adds form Dynamic place (begin_at 0 0 []) start b sits)

  enable_lowers : (g : ℕ) (place : Place) (o : Option ℕ) (l : Lowering) (b : ℕ) → group_length part g ≡ o → Lowers l (after_enable part g o l) b (visit Dynamic (Placed (Enable g) place))
  enable_lowers g place None l b is = none_lowers l (record { context = Dynamic; form = Enable g; place = place }) b
  enable_lowers g place (Some n) l b is = island_lowers (Enable g) place l b (ap is_some is)

  mutual
    form_lowers : (form : PlainForm) (place : Place) (l : Lowering) (b : ℕ) → Lowers l (form_after part form l) b (visit Dynamic (Placed form place))
    form_lowers Empty place l b = none_lowers l (record { context = Dynamic; form = Empty; place = place }) b
    form_lowers (Enable g) place l b = enable_lowers g place (group_length part g) l b refl
    form_lowers (Seq parts) place l b = one_lowers l (parts_after part parts l) (record { context = Dynamic; form = Seq parts; place = place }) (visit_all Dynamic parts) b (parts_lower parts l (suc b))
    form_lowers (Par ss) place l b = one_lowers l (parts_after part ss l) (record { context = Dynamic; form = Par ss; place = place }) (visit_all Dynamic ss) b (parts_lower ss l (suc b))
    form_lowers (If test comb s t) place l b =
        one_lowers l (after part t (after part s l)) (record { context = Dynamic; form = If test comb s t; place = place }) (visit Dynamic s ++ visit Dynamic t) b
        (two_lower l (after part s l) (after part t (after part s l)) (visit Dynamic s) (visit Dynamic t) (suc b) (lowers s l (suc b)) (lowers t (after part s l) (suc b + length (visit Dynamic s))))
    form_lowers (While test comb s) place l b = one_lowers l (after part s l) (record { context = Dynamic; form = While test comb s; place = place }) (visit Dynamic s) b (lowers s l (suc b))
    form_lowers (Repeat count s) place l b = one_lowers l (after part s l) (record { context = Dynamic; form = Repeat count s; place = place }) (visit Dynamic s) b (lowers s l (suc b))
    form_lowers (StaticSeq written parts) place l b = island_lowers (StaticSeq written parts) place l b refl
    form_lowers (StaticPar written ss) place l b = island_lowers (StaticPar written ss) place l b refl
    form_lowers (StaticIf written test s t) place l b = island_lowers (StaticIf written test s t) place l b refl
    form_lowers (StaticRepeat written count s) place l b = island_lowers (StaticRepeat written count s) place l b refl
    form_lowers (Timed k) place l b = none_lowers l (record { context = Dynamic; form = Timed k; place = place }) b

    lowers : (s : PlainStatement) (l : Lowering) (b : ℕ) → Lowers l (after part s l) b (visit Dynamic s)
    lowers (Placed form place) l b = form_lowers form place l b

    parts_lower : (ss : PlainStatements) (l : Lowering) (b : ℕ) → Lowers l (parts_after part ss l) b (visit_all Dynamic ss)
    parts_lower no_statements l b = λ sits. none_at l.cells b
    parts_lower (a_statement s ss) l b =
        two_lower l (after part s l) (parts_after part ss (after part s l)) (visit Dynamic s) (visit_all Dynamic ss) b (lowers s l b) (parts_lower ss (after part s l) (b + length (visit Dynamic s)))

  -- THE TIMERS of a component
  all_sit : Sits 0 all
  all_sit n v e = let same : n ≡ 0 + n = omega arith in subst (λ m. slice_get all m ≡ Some v) same e

  own_lowers : ListAdds part.cells (after part part.control (unlowered part)).cells 0 all
  own_lowers = lowers part.control (unlowered part) 0 all_sit

  timer_cells_are : timer_cells part ≡ own_lowers.more
  timer_cells_are = ap (drop (length part.cells)) own_lowers.cells ∙ drop_at part.cells own_lowers.more (length part.cells) refl

  -- EACH TIMER is for one thing
  timer_for : (t : ℕ) (cell : PlainCell) → slice_get (timer_cells part) t ≡ Some cell → (u : Use) × (slice_get own_lowers.uses t ≡ Some u) × IsTimerOf part cell.kind u
  timer_for t cell e = for_at own_lowers.uses own_lowers.more t cell own_lowers.are (ap (λ cells. slice_get cells t) (sym timer_cells_are) ∙ e)

  pub is_timer : (t : ℕ) (cell : PlainCell) → slice_get (timer_cells part) t ≡ Some cell → (n : ℕ) × (cell.kind ≡ timer_kind n)
  is_timer t cell e = let r = timer_for t cell e in by r.0 r.2 where
    by : (u : Use) → IsTimerOf part cell.kind u → (n : ℕ) × (cell.kind ≡ timer_kind n)
    by (ForCell c) h = absurd h
    by (ForIsland n) h = (form_length part h.0.form, h.3)
    by (ForRepeat n) h = (h.2.0, h.2.2)

  -- WHAT EACH CELL of the lowered component is for: the design's own come first
  pub use_at : ℕ → Use
  use_at c = if nat_lt c (length part.cells) then ForCell c else get_or own_lowers.uses (c - length part.cells) (ForCell c)

  pub use_of_cell : (c : ℕ) → c < length part.cells → use_at c ≡ ForCell c
  unfolding use_at
  use_of_cell c less = ap (λ b. if b then ForCell c else get_or own_lowers.uses (c - length part.cells) (ForCell c)) (lt-ltb c (length part.cells) less)

  get_at : (us : List Use) (n : ℕ) (u d : Use) → slice_get us n ≡ Some u → get_or us n d ≡ u
  get_at [] n u d e = absurd (cc)
  get_at (v ∷ us) zero u d e = let same : v ≡ u = cc in same
  get_at (v ∷ us) (suc n) u d e = get_at us n u d e

  past : (c : ℕ) (u : Use) → length part.cells ≤ c → slice_get own_lowers.uses (c - length part.cells) ≡ Some u → use_at c ≡ u
  unfolding use_at
  past c u behind_all e =
      ap (λ b. if b then ForCell c else get_or own_lowers.uses (c - length part.cells) (ForCell c)) (le-ltb c (length part.cells) behind_all)
      ∙ get_at own_lowers.uses (c - length part.cells) u (ForCell c) e

  pub use_of_timer : (c : ℕ) (cell : PlainCell) → length part.cells ≤ c → slice_get (timer_cells part) (c - length part.cells) ≡ Some cell → IsTimerOf part cell.kind (use_at c)
  use_of_timer c cell behind_all e = let r = timer_for (c - length part.cells) cell e in subst (IsTimerOf part cell.kind) (sym (past c r.0 behind_all r.1)) r.2

  -- NO TWO are for one thing
  not_for_cell : (kind : PlainKind) (u : Use) (c : ℕ) → IsTimerOf part kind u → u ≡ ForCell c → ⊥
  not_for_cell kind u c h e = subst (IsTimerOf part kind) e h

  pub use_once : (i j : ℕ) → i < length part.cells + length (timer_cells part) → j < length part.cells + length (timer_cells part) → use_at i ≡ use_at j → i ≡ j
  use_once i j less fewer same = by (cases_lt i (length part.cells)) (cases_lt j (length part.cells)) where
    timer : (c : ℕ) → length part.cells ≤ c → c < length part.cells + length (timer_cells part)
        → (cell : PlainCell) × (u : Use) × (use_at c ≡ u) × (slice_get own_lowers.uses (c - length part.cells) ≡ Some u) × IsTimerOf part cell.kind u
    timer c behind_all within =
        let r = there_at (timer_cells part) (c - length part.cells) (omega (arith, behind_all, within)) in
        let u = timer_for (c - length part.cells) r.0 r.1 in
        (r.0, u.0, past c u.0 behind_all u.1, u.1, u.2)

    by : (i < length part.cells) ⊎ (length part.cells ≤ i) → (j < length part.cells) ⊎ (length part.cells ≤ j) → i ≡ j
    by (inl h) (inl k) = let e : ForCell i ≡ ForCell j = sym (use_of_cell i h) ∙ same ∙ use_of_cell j k in cc
    by (inl h) (inr k) = let r = timer j k fewer in absurd (not_for_cell r.0.kind r.1 i r.4 (sym r.2 ∙ sym same ∙ use_of_cell i h))
    by (inr h) (inl k) = let r = timer i h less in absurd (not_for_cell r.0.kind r.1 j r.4 (sym r.2 ∙ same ∙ use_of_cell j k))
    by (inr h) (inr k) =
        let r = timer i h less in
        let s = timer j k fewer in
        let one : s.1 ≡ r.1 = sym s.2 ∙ sym same ∙ r.2 in
        let at : i - length part.cells ≡ j - length part.cells =
        rising_once 0 (2 * (0 + length all)) own_lowers.uses (i - length part.cells) (j - length part.cells) r.1 own_lowers.rising r.3 (s.3 ∙ ap Some one) in
        omega (arith, at, h, k)
