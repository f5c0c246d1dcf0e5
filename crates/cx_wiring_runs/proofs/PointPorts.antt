-- The port of each point of a component's islands is the test of a static if of its control.
use Rattle.std.proofs.Common.{◌≡◌, inl, inr, ℕ, ◌+◌, ◌*◌, true, false, List, [], length, Option, Some, None, slice_get, refl, sym, ap, subst}
use Rattle.cx_text.proofs.MemberLaws.{in_left, in_right}
use Rattle.cx_text.specs.declared.places.Place.{Place}
use Rattle.cx_meaning.specs.declared.ports.PortRef.{PortRef}
use Rattle.cx_meaning.specs.declared.ports.PlacedPort.{PlacedPort}
use Rattle.cx_meaning.specs.Designs.{PlainComponent, PlainForm, Empty, Enable, Seq, Par, If, While, Repeat, StaticSeq, StaticPar, StaticIf, StaticRepeat, Timed, PlainStatement, Placed, PlainStatements, no_statements, a_statement}
use Rattle.cx_text.specs.Members.{In}
use Rattle.cx_meaning.specs.Islands.{group_length, form_length, length_of}
use Rattle.cx_rules.specs.Items.{Context, Dynamic, InStatic, Branch, Visited, visit, visit_parts, visit_all, statements_in}
use Rattle.cx_static.specs.Islands.{PlainPoint, PlainIsland}
use Rattle.cx_static.specs.Lowering.{Gathered, Begin, begin_at, later, if_sampled, with_timer, with_point, with_occurrence, form_gathered, gathered, parts_gathered, arms_gathered, lowered_component}
use Rattle.cx_wiring.proofs.GatherLaws.{IsFound, earlier, last, found}
use Rattle.cx_wiring.proofs.IslandCells.{IsMade, FormMakes, StatementMakes, PartsMake, made_well}

module _ (part : PlainComponent) (Q : PortRef → Type 0) where
  -- THE TESTS of static ifs in a statement keep it
  abbrev mutual
    pub FormStatics : PlainForm → Type 0
    FormStatics Empty = Unit {0}
    FormStatics (Enable g) = Unit {0}
    FormStatics (Seq parts) = Unit {0}
    FormStatics (Par arms) = Unit {0}
    FormStatics (If test comb a b) = Unit {0}
    FormStatics (While test comb a) = Unit {0}
    FormStatics (Repeat count a) = Unit {0}
    FormStatics (StaticSeq written parts) = PartsStatics parts
    FormStatics (StaticPar written arms) = PartsStatics arms
    FormStatics (StaticIf written test a b) = Q test.port × (Statics a × Statics b)
    FormStatics (StaticRepeat written count a) = Statics a
    FormStatics (Timed k) = Unit {0}

    pub Statics : PlainStatement → Type 0
    Statics (Placed form place) = FormStatics form

    pub PartsStatics : PlainStatements → Type 0
    PartsStatics no_statements = Unit {0}
    PartsStatics (a_statement s ss) = Statics s × PartsStatics ss

  abbrev Keep : Gathered → Type 0
  Keep g = (n : ℕ) (p : PlainPoint) → slice_get g.points n ≡ Some p → Q p.port

  with_occurrence_keeps : (group : ℕ) (x : Begin) (o : Option ℕ) (g : Gathered) → Keep g → Keep (with_occurrence group x o g)
  with_occurrence_keeps group x None g h = h
  with_occurrence_keeps group x (Some n) g h = h

  with_point_keeps : (port : PortRef) (x : Begin) (g : Gathered) → Q port → Keep g → Keep (with_point port x g)
  with_point_keeps port x g q h n p e = one (found g.points (record { port = port; timer = x.timer; at = x.at; samples = x.samples }) n p e)
    where
      one : IsFound g.points (record { port = port; timer = x.timer; at = x.at; samples = x.samples }) n p → Q p.port
      one (earlier f) = h n p f
      one (last f same) = subst Q (sym (ap (λ (z : PlainPoint). z.port) same)) q

  -- so do the points that are gathered
  mutual
    form_keeps : (form : PlainForm) (x : Begin) (g : Gathered) → FormStatics form → Keep g → Keep (form_gathered part form x g)
    form_keeps Empty x g s h = h
    form_keeps (Enable group) x g s h = with_occurrence_keeps group x (group_length part group) g h
    form_keeps (Seq parts) x g s h = h
    form_keeps (Par arms) x g s h = h
    form_keeps (If test comb a b) x g s h = h
    form_keeps (While test comb a) x g s h = h
    form_keeps (Repeat count a) x g s h = h
    form_keeps (StaticSeq written parts) x g s h = parts_keep parts x g s h
    form_keeps (StaticPar written arms) x g s h = arms_keep arms x g s h
    form_keeps (StaticIf written test a b) x g s h =
        keeps b (if_sampled (length g.points) false x) (gathered part a (if_sampled (length g.points) true x) (with_point test.port x g)) s.1.1
        (keeps a (if_sampled (length g.points) true x) (with_point test.port x g) s.1.0 (with_point_keeps test.port x g s.0 h))
    form_keeps (StaticRepeat written count a) x g s h =
        keeps a (begin_at (length g.timers) 0 x.samples) (with_timer part.place (length_of part a) (Some x.timer) x.at (x.at + count * length_of part a) g) s h
    form_keeps (Timed k) x g s h = h

    keeps : (t : PlainStatement) (x : Begin) (g : Gathered) → Statics t → Keep g → Keep (gathered part t x g)
    keeps (Placed form place) x g s h = form_keeps form x g s h

    parts_keep : (ts : PlainStatements) (x : Begin) (g : Gathered) → PartsStatics ts → Keep g → Keep (parts_gathered part ts x g)
    parts_keep no_statements x g s h = h
    parts_keep (a_statement t ts) x g s h = parts_keep ts (later (length_of part t) x) (gathered part t x g) s.1 (keeps t x g s.0 h)

    arms_keep : (ts : PlainStatements) (x : Begin) (g : Gathered) → PartsStatics ts → Keep g → Keep (arms_gathered part ts x g)
    arms_keep no_statements x g s h = h
    arms_keep (a_statement t ts) x g s h = arms_keep ts x (gathered part t x g) s.1 (keeps t x g s.0 h)

  -- WHERE EACH TEST of a static if keeps it
  abbrev Each : List Visited → Type 0
  Each vs = (v : Visited) → In vs v → (written : Option ℕ) (test : PlacedPort) (a b : PlainStatement) → v.form ≡ StaticIf written test a b → Q test.port

  mutual
    form_statics : (form : PlainForm) (context : Context) → ((written : Option ℕ) (test : PlacedPort) (a b : PlainStatement) → form ≡ StaticIf written test a b → Q test.port) → Each (visit_parts context form) → FormStatics form
    form_statics Empty context own each = tt
    form_statics (Enable g) context own each = tt
    form_statics (Seq parts) context own each = tt
    form_statics (Par arms) context own each = tt
    form_statics (If test comb a b) context own each = tt
    form_statics (While test comb a) context own each = tt
    form_statics (Repeat count a) context own each = tt
    form_statics (StaticSeq written parts) context own each = parts_statics parts InStatic each
    form_statics (StaticPar written arms) context own each = parts_statics arms InStatic each
    form_statics (StaticIf written test a b) context own each = (
      own written test a b refl,
      (
        statement_statics a Branch (λ v i. each v (in_left (visit Branch a) (visit Branch b) v i)),
        statement_statics b Branch (λ v i. each v (in_right (visit Branch a) (visit Branch b) v i)),
      ),
    )
    form_statics (StaticRepeat written count a) context own each = statement_statics a InStatic each
    form_statics (Timed k) context own each = tt

    statement_statics : (s : PlainStatement) (context : Context) → Each (visit context s) → Statics s
    statement_statics (Placed form place) context each = form_statics form context (λ written test a b e. each (record { context = context; form = form; place = place }) (inl refl) written test a b e) (λ v i. each v (inr i))

    parts_statics : (ss : PlainStatements) (context : Context) → Each (visit_all context ss) → PartsStatics ss
    parts_statics no_statements context each = tt
    parts_statics (a_statement s ss) context each =
        (statement_statics s context (λ v i. each v (in_left (visit context s) (visit_all context ss) v i)), parts_statics ss context (λ v i. each v (in_right (visit context s) (visit_all context ss) v i)))

  mutual
    form_makes : (form : PlainForm) (place : Place) → Each (visit Dynamic (Placed form place)) → FormMakes part FormStatics form
    form_makes Empty place each = tt
    form_makes (Enable g) place each = λ n e. tt
    form_makes (Seq parts) place each = parts_make parts (λ v i. each v (inr i))
    form_makes (Par arms) place each = parts_make arms (λ v i. each v (inr i))
    form_makes (If test comb a b) place each =
        (statement_makes a (λ v i. each v (inr (in_left (visit Dynamic a) (visit Dynamic b) v i))), statement_makes b (λ v i. each v (inr (in_right (visit Dynamic a) (visit Dynamic b) v i))))
    form_makes (While test comb a) place each = statement_makes a (λ v i. each v (inr i))
    form_makes (Repeat count a) place each = statement_makes a (λ v i. each v (inr i))
    form_makes (StaticSeq written parts) place each = statement_statics (Placed (StaticSeq written parts) place) Dynamic each
    form_makes (StaticPar written arms) place each = statement_statics (Placed (StaticPar written arms) place) Dynamic each
    form_makes (StaticIf written test a b) place each = statement_statics (Placed (StaticIf written test a b) place) Dynamic each
    form_makes (StaticRepeat written count a) place each = statement_statics (Placed (StaticRepeat written count a) place) Dynamic each
    form_makes (Timed k) place each = tt

    statement_makes : (s : PlainStatement) → Each (visit Dynamic s) → StatementMakes part FormStatics s
    statement_makes (Placed form place) each = form_makes form place each

    parts_make : (ss : PlainStatements) → Each (visit_all Dynamic ss) → PartsMake part FormStatics ss
    parts_make no_statements each = tt
    parts_make (a_statement s ss) each =
        (statement_makes s (λ v i. each v (in_left (visit Dynamic s) (visit_all Dynamic ss) v i)), parts_make ss (λ v i. each v (in_right (visit Dynamic s) (visit_all Dynamic ss) v i)))

  -- the ports of all points keep it
  pub points_keep : ((v : Visited) → In (statements_in part) v → (written : Option ℕ) (test : PlacedPort) (a b : PlainStatement) → v.form ≡ StaticIf written test a b → Q test.port)
      → (k : ℕ) (island : PlainIsland) → slice_get (lowered_component part).islands k ≡ Some island → (n : ℕ) (p : PlainPoint) → slice_get island.points n ≡ Some p → Q p.port
  points_keep each k island is n p at =
      let m = made_well part FormStatics (statement_makes part.control each) k island is in
      form_keeps (IsMade.form m.0) (begin_at 0 0 []) (with_timer part.place (form_length part (IsMade.form m.0)) None 0 (form_length part (IsMade.form m.0)) (record { cells = IsMade.cells m.0; timers = []; points = []; occurrences = [] })) m.1
      (λ j q e. absurd cc) n p (subst (λ (i : PlainIsland). slice_get i.points n ≡ Some p) (IsMade.is m.0) at)
