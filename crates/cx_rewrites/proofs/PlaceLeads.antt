-- WHAT DEPENDS ON WHAT, what rests on state, and the groups and conditions of a statement are the same apart from places.
use Rattle.std.proofs.Common.{◌≡◌, ℕ, List, [], ◌∷◌, ◌++◌, map, refl, sym, ap, ◌∙◌, subst}
use Rattle.std.proofs.lemmas.List.{map-append}
use Rattle.std.specs.Prelude.{flat_map}
use Rattle.cx_prim.specs.declared.ports.Side.{Side}
use Rattle.cx_prim.specs.declared.ports.Side.TheVariants as sides
use Rattle.cx_prim.specs.Rows.{Row}
use Rattle.cx_meaning.specs.Rows.{side_of}
use Rattle.cx_meaning.specs.declared.ports.PortRef.{PortRef}
use Rattle.cx_meaning.specs.declared.ports.PortRef.TheVariants as ports
use Rattle.cx_meaning.specs.Designs.{PlainComponent, group_at, PlainForm, Empty, Enable, Seq, Par, If, While, Repeat, StaticSeq, StaticPar, StaticIf, StaticRepeat, Timed, PlainStatement, Placed, PlainStatements, no_statements, a_statement, no_place}
use Rattle.cx_meaning.specs.Instances.{Instance, At, OfRow, OfInstance, part_of, cells_of, cell_at}
use Rattle.cx_meaning.specs.Active.{Active, Acting, source_order, acting, drivers}
use Rattle.cx_meaning.specs.Sights.{PartPort, Go, AnInput, AnOutput, ItsDone, part_port}
use Rattle.cx_meaning.specs.Control.{groups_of, groups_drive, drives}
use Rattle.cx_rules.specs.Items.{Context, below_dynamic, Dynamic, InStatic, Branch, Visited, visit, visit_parts, visit_all, test_in, option_list, tests_of}
use Rattle.cx_rules.specs.Footprints.{Mentions, SideLeads, PartLeads, CellLeads, Leads, Depends, at_once, by_way_of, Rests, literal_rests, input_rests, registered_rests, output_rests, done_rests, combinational_rests}
use Rattle.cx_rules.specs.RaceRule.{HasCycle}
use Rattle.cx_rewrites.specs.Places.{unplaced_port, unplaced_assign, unplaced_acting, unplaced_form, unplaced, unplaced_statements, unplaced_visited, SamePart}
use Rattle.cx_rewrites.proofs.PlaceLemmas.{SameTree, SameAt, none_there, a_row_there, a_child_there, same_at, same_parts, same_cells, part_port-same, acting-unplaced}
use Rattle.cx_rewrites.proofs.PlaceStatements.{assigns-same, groups_drive-same, groups_of-unplaced}
use Rattle.cx_rewrites.proofs.PlacePorts.{target_is, names_same, twin_in}

drivers-same : (part other : PlainComponent) → SamePart part other → (act : Active) (p : PortRef) → map unplaced_acting (drivers part act p) ≡ map unplaced_acting (drivers other act p)
drivers-same part other same act p = sym (acting-unplaced act p (source_order part)) ∙ ap (acting act p) same.order ∙ acting-unplaced act p (source_order other)

mentions-same : (part other : PlainComponent) → SamePart part other → (act : Active) (p q : PortRef) → Mentions (drivers part act p) q → Mentions (drivers other act p) q
mentions-same part other same act p q (a, i, n) =
    let r = twin_in unplaced_acting (drivers part act p) (drivers other act p) a (drivers-same part other same act p) i in
    (r.0, r.1, names_same a.assign r.0.assign (ap (λ (x : Acting). x.assign) r.2) q n)

module _ (i j : Instance) (t : SameTree i j) where
  abbrev same_here : SamePart (part_of i) (part_of j)
  same_here = same_parts i j t

  module _ (act : Active) where
    side_leads : (row twin : Row) (c p : ℕ) (side : Side) (q : PortRef) → row ≡ twin → SideLeads (part_of i) act row c p side q → SideLeads (part_of j) act twin c p side q
    side_leads row twin c p sides.Enable q e l = mentions-same (part_of i) (part_of j) same_here act (ports.Cell c p) q l
    side_leads row twin c p sides.Plain q e l = mentions-same (part_of i) (part_of j) same_here act (ports.Cell c p) q l
    side_leads row twin c p sides.Output q e (m, reads, is) = (m, ap (λ (r : Row). r.reads p m) (sym e) ∙ reads, is)
    side_leads row twin c p sides.Registered q e l = l

    part_leads : (c p : ℕ) (port : PartPort) (q : PortRef) → PartLeads (part_of i) act c p port q → PartLeads (part_of j) act c p port q
    part_leads c p Go q l = mentions-same (part_of i) (part_of j) same_here act (ports.Cell c p) q l
    part_leads c p (AnInput n) q l = mentions-same (part_of i) (part_of j) same_here act (ports.Cell c p) q l
    part_leads c p (AnOutput n) q l = l
    part_leads c p ItsDone q l = l

    cell_leads : (c p : ℕ) (at to : At) (q : PortRef) → SameAt at to → CellLeads (part_of i) act c p at q → CellLeads (part_of j) act c p to q
    cell_leads c p at to q none_there l = l
    cell_leads c p at to q (a_row_there {row = row} {twin = twin} e) l =
        subst (λ side. SideLeads (part_of j) act twin c p side q) (ap (λ r. side_of r p) e) (side_leads row twin c p (side_of row p) q e l)
    cell_leads c p at to q (a_child_there {child = child} {twin = twin} s) l =
        subst (λ port. PartLeads (part_of j) act c p port q) (part_port-same (part_of child) (part_of twin) (same_parts child twin s) p) (part_leads c p (part_port (part_of child) p) q l)

    pub leads-same : (p q : PortRef) → Leads i act p q → Leads j act p q
    leads-same (ports.Cell c p) q l = cell_leads c p (cell_at (cells_of i) c) (cell_at (cells_of j) c) q (same_at (cells_of i) (cells_of j) (same_cells i j t) c) l
    leads-same (ports.Input n) q l = l
    leads-same (ports.Output n) q l = mentions-same (part_of i) (part_of j) same_here act (ports.Output n) q l
    leads-same (ports.Done g) q l = mentions-same (part_of i) (part_of j) same_here act (ports.Done g) q l
    leads-same (ports.Literal w v) q l = l

    pub depends-same : (p q : PortRef) → Depends i act p q → Depends j act p q
    depends-same p q (at_once l) = at_once (leads-same p q l)
    depends-same p q (by_way_of r l d) = by_way_of r (leads-same p r l) (depends-same r q d)

    pub has_cycle-same : HasCycle i act → HasCycle j act
    has_cycle-same (p, d) = (p, depends-same p p d)

-- the same stands at the cell, as a row or as a child
row_at : (at to : At) (row : Row) → SameAt at to → at ≡ OfRow row → to ≡ OfRow row
row_at at to row none_there e = absurd (cc)
row_at at to row (a_row_there {row = own} {twin = twin} s) e = ap OfRow (sym s) ∙ e
row_at at to row (a_child_there s) e = absurd (cc)

child_at : (at to : At) (child : Instance) → SameAt at to → at ≡ OfInstance child → (twin : Instance) × (to ≡ OfInstance twin) × SameTree child twin
child_at at to child none_there e = absurd (cc)
child_at at to child (a_row_there s) e = absurd (cc)
child_at at to child (a_child_there {child = own} {twin = twin} s) e = let same : own ≡ child = cc in (twin, refl, subst (λ x. SameTree x twin) same s)

pub child_there : (i j : Instance) → SameTree i j → (c : ℕ) (child : Instance) → cell_at (cells_of i) c ≡ OfInstance child → (twin : Instance) × (cell_at (cells_of j) c ≡ OfInstance twin) × SameTree child twin
child_there i j t c child e = child_at (cell_at (cells_of i) c) (cell_at (cells_of j) c) child (same_at (cells_of i) (cells_of j) (same_cells i j t) c) e

-- WHAT RESTS ON STATE, where the other tree is the same too, the other way round
pub rests-same : (i j : Instance) → SameTree i j → SamePart (part_of j) (part_of i) → {q : PortRef} → Rests i q → Rests j q
rests-same i j t back literal_rests = literal_rests
rests-same i j t back input_rests = input_rests
rests-same i j t back (registered_rests {c} {p} row at side) =
    registered_rests row (row_at (cell_at (cells_of i) c) (cell_at (cells_of j) c) row (same_at (cells_of i) (cells_of j) (same_cells i j t) c) at) side
rests-same i j t back (output_rests {c} {p} n child at port) =
    let r = child_there i j t c child at in output_rests n r.0 r.1 (sym (part_port-same (part_of child) (part_of r.0) (same_parts child r.0 r.2) p) ∙ port)
rests-same i j t back (done_rests {c} {p} child at port) =
    let r = child_there i j t c child at in done_rests r.0 r.1 (sym (part_port-same (part_of child) (part_of r.0) (same_parts child r.0 r.2) p) ∙ port)
rests-same i j t back (combinational_rests {c} {p} row at side undriven named_rest) =
    combinational_rests row (row_at (cell_at (cells_of i) c) (cell_at (cells_of j) c) row (same_at (cells_of i) (cells_of j) (same_cells i j t) c) at) side
    (λ m g a reads stands target.
    let r = twin_in unplaced_assign (group_at (part_of j) g).assigns (group_at (part_of i) g).assigns a (assigns-same (part_of j) (part_of i) back g) stands in
    undriven m g r.0 reads r.1 (sym (target_is a r.0 r.2) ∙ target))
    (λ m a q reads stands target names.
    let r = twin_in unplaced_assign (part_of j).always (part_of i).always a back.always stands in
    rests-same i j t back (named_rest m r.0 q reads r.1 (sym (target_is a r.0 r.2) ∙ target) (names_same a r.0 r.2 q names)))

-- STATEMENTS in pre-order
two_visits : (xs ys us vs : List Visited) → us ≡ map unplaced_visited xs → vs ≡ map unplaced_visited ys → us ++ vs ≡ map unplaced_visited (xs ++ ys)
two_visits xs ys us vs e h = ap (λ list. list ++ vs) e ∙ ap (λ list. map unplaced_visited xs ++ list) h ∙ sym (map-append unplaced_visited xs ys)

mutual
  pub visit-unplaced : (context : Context) (s : PlainStatement) → visit context (unplaced s) ≡ map unplaced_visited (visit context s)
  visit-unplaced context (Placed form place) = ap (λ list. record { context = context; form = unplaced_form form; place = no_place } ∷ list) (visit_parts-unplaced context form)

  visit_parts-unplaced : (context : Context) (form : PlainForm) → visit_parts context (unplaced_form form) ≡ map unplaced_visited (visit_parts context form)
  visit_parts-unplaced context Empty = refl
  visit_parts-unplaced context (Enable g) = refl
  visit_parts-unplaced context (Seq parts) = visit_all-unplaced (below_dynamic context) parts
  visit_parts-unplaced context (Par arms) = visit_all-unplaced (below_dynamic context) arms
  visit_parts-unplaced context (If test comb a b) =
      two_visits (visit (below_dynamic context) a) (visit (below_dynamic context) b) _ _ (visit-unplaced (below_dynamic context) a) (visit-unplaced (below_dynamic context) b)
  visit_parts-unplaced context (While test comb a) = visit-unplaced (below_dynamic context) a
  visit_parts-unplaced context (Repeat count a) = visit-unplaced (below_dynamic context) a
  visit_parts-unplaced context (StaticSeq length parts) = visit_all-unplaced InStatic parts
  visit_parts-unplaced context (StaticPar length arms) = visit_all-unplaced InStatic arms
  visit_parts-unplaced context (StaticIf length test a b) = two_visits (visit Branch a) (visit Branch b) _ _ (visit-unplaced Branch a) (visit-unplaced Branch b)
  visit_parts-unplaced context (StaticRepeat length count a) = visit-unplaced InStatic a
  visit_parts-unplaced context (Timed k) = refl

  visit_all-unplaced : (context : Context) (ss : PlainStatements) → visit_all context (unplaced_statements ss) ≡ map unplaced_visited (visit_all context ss)
  visit_all-unplaced context no_statements = refl
  visit_all-unplaced context (a_statement s ss) = two_visits (visit context s) (visit_all context ss) _ _ (visit-unplaced context s) (visit_all-unplaced context ss)

tests_in-unplaced : (vs : List Visited) → flat_map (λ v. option_list (test_in v.form)) (map unplaced_visited vs) ≡ map unplaced_port (flat_map (λ v. option_list (test_in v.form)) vs)
tests_in-unplaced [] = refl
tests_in-unplaced (v ∷ vs) =
    ap (λ list. option_list (test_in (unplaced_form v.form)) ++ list) (tests_in-unplaced vs)
    ∙ ap (λ list. list ++ map unplaced_port (flat_map (λ v. option_list (test_in v.form)) vs)) (one v.form)
    ∙ sym (map-append unplaced_port (option_list (test_in v.form)) (flat_map (λ v. option_list (test_in v.form)) vs))
  where
    one : (form : PlainForm) → option_list (test_in (unplaced_form form)) ≡ map unplaced_port (option_list (test_in form))
    one Empty = refl
    one (Enable g) = refl
    one (Seq parts) = refl
    one (Par arms) = refl
    one (If test comb a b) = refl
    one (While test comb a) = refl
    one (Repeat count a) = refl
    one (StaticSeq length parts) = refl
    one (StaticPar length arms) = refl
    one (StaticIf length test a b) = refl
    one (StaticRepeat length count a) = refl
    one (Timed k) = refl

-- WHAT A STATEMENT ENABLES, DRIVES AND TESTS
module _ (part other : PlainComponent) (same : SamePart part other) (s z : PlainStatement) (e : unplaced s ≡ unplaced z) where
  pub groups_is : groups_of s ≡ groups_of z
  groups_is = sym (groups_of-unplaced s) ∙ ap groups_of e ∙ groups_of-unplaced z

  pub drives-same : (c : ℕ) → drives part s c ≡ drives other z c
  drives-same c = groups_drive-same part other same (groups_of s) c ∙ ap (λ gs. groups_drive other gs c) groups_is

  pub tests_is : map unplaced_port (tests_of s) ≡ map unplaced_port (tests_of z)
  tests_is =
      sym (tests_in-unplaced (visit Dynamic s))
      ∙ ap (flat_map (λ v. option_list (test_in v.form))) (sym (visit-unplaced Dynamic s) ∙ ap (visit Dynamic) e ∙ visit-unplaced Dynamic z)
      ∙ tests_in-unplaced (visit Dynamic z)
