-- What an accepted design gives the timers of a node: its statement is not lowered yet, its cells are all there, each timer counts some
-- cycles and no more than 32 bits number, and no assignment drives one.
use Rattle.std.proofs.Common.{◌≡◌, inl, inr, ⊎_elim, ℕ, ◌*◌, ◌<◌, ◌≤◌, ◌^◌, true, List, [], length, Some, is_some, refl, sym, ap, subst}
use Rattle.std.proofs.lemmas.Bool.{cases_lt}
use Rattle.cx_text.proofs.MemberLaws.{in_left, in_right, number_in}
use Rattle.cx_text.specs.declared.places.Place.{Place}
use Rattle.cx_text.specs.declared.limits.TheConstants.{REPETITIONS}
use Rattle.cx_text.specs.declared.rules.Rule.TheVariants.{Limit}
use Rattle.cx_meaning.specs.declared.ports.PortRef.{PortRef}
use Rattle.cx_meaning.specs.declared.ports.PortRef.TheVariants as ports
use Rattle.cx_meaning.specs.Designs.{PlainComponent, PlainDesign, component_at, no_component, PlainForm, Empty, Enable, Seq, Par, If, While, Repeat, StaticSeq, StaticPar, StaticIf, StaticRepeat, Timed, PlainStatement, Placed, PlainStatements, no_statements, a_statement}
use Rattle.cx_meaning.specs.Instances.{Instance, Node, Cells, no_cells, part_of, cells_for, cell_count}
use Rattle.cx_meaning.proofs.CycleLemmas.{count_for}
use Rattle.cx_meaning.specs.Active.{Owned, source_order}
use Rattle.cx_text.specs.Members.{In}
use Rattle.cx_meaning.specs.Islands.{or_zero, group_length, form_length}
use Rattle.cx_rules.specs.Ports.{component_of}
use Rattle.cx_rules.specs.Items.{Context, Dynamic, InStatic, Branch, Visited, visit, visit_parts, visit_all, statements_in}
use Rattle.cx_rules.specs.StaticControl.{is_static, may_stand, is_island}
use Rattle.cx_rules.specs.LimitRule.{word_of}
use Rattle.cx_rules.proofs.CountsLemmas.{lasts_within}
use Rattle.cx_rules.proofs.LimitRuleLemmas.{over_latency}
use Rattle.cx_rules.specs.Spots.{AStatement}
use Rattle.cx_rules.specs.Flat.{IsFlat}
use Rattle.cx_rules.specs.Accepted.{IsAccepted}
use Rattle.cx_rules.specs.Wellformed.{IsDesign, IsForm, IsThere}
use Rattle.cx_laws.specs.Positions.{FormIfs}
use Rattle.cx_laws.proofs.VisitLemmas.{AllHold, first_hold, rest_hold}
use Rattle.cx_laws.proofs.StaticLemmas.{group_lasts}
use Rattle.cx_laws.proofs.LengthLemmas.{StandsWell, long_form, stands_well, no_empty, no_empty_bare}
use Rattle.cx_static.specs.Lowering.{lowered_component}
use Rattle.cx_wiring.specs.Assignments.{is_driven, driven_assigns}
use Rattle.cx_wiring.proofs.DesignNames.{in_filter}
use Rattle.cx_wiring.proofs.ComponentCounts as counts
use Rattle.cx_wiring.proofs.ListedLaws.{FormRepeats, StatementRepeats, AllRepeats}
use Rattle.cx_wiring.proofs.IslandCells.{StatementMakes, FormMakes, PartsMake, RunsWell, timers_fit}
use Rattle.cx_wiring.proofs.TimerRows.{TimersFit, IsOwnTarget}
use Rattle.cx_wiring_cycles.proofs.IslandReads.{NoTimed, IsUntimed, NoneTimed}
use Rattle.cx_meaning.proofs.DesignsLemmas.{same_part}

pub record TimerRules (part : PlainComponent) (cells : Cells) : Type 0 where
  pub untimed : IsUntimed part.control
  pub count : cell_count cells ≡ length part.cells
  pub fit : TimersFit part
  pub targets : (o : Owned) → In (driven_assigns (lowered_component part)) o → IsOwnTarget part o.assign.target
  -- each static if takes some cycles
  pub ifs : (v : Visited) → In (statements_in part) v → FormIfs (λ n. 0 < n) part v.form

-- WHAT HOLDS of a visited statement: it is not lowered, may stand where it stands, takes some cycles where it is static, and as an island no
-- more than 32 bits number
pub record VisitWell (part : PlainComponent) (v : Visited) : Type 0 where
  pub untimed : (n : ℕ) → v.form ≡ Timed n → ⊥
  pub stands : StandsWell part v
  pub limited : is_island part v ≡ true → form_length part v.form < 2 ^ 32
  pub enables : (g n : ℕ) → v.form ≡ Enable g → group_length part g ≡ Some n → 0 < n

module _ (part : PlainComponent) (none : part.invokes ≡ []) where
  all_stand : (list : List Visited) → AllHold (VisitWell part) list → AllHold (StandsWell part) list
  all_stand list w v i = (w v i).stands

  -- none is Timed
  mutual
    no_timed : (context : Context) (form : PlainForm) → ((n : ℕ) → form ≡ Timed n → ⊥) → AllHold (VisitWell part) (visit_parts context form) → NoTimed form
    no_timed context Empty not_lowered w = tt
    no_timed context (Enable g) not_lowered w = tt
    no_timed context (Seq parts) not_lowered w = none_timed _ parts w
    no_timed context (Par arms) not_lowered w = none_timed _ arms w
    no_timed context (If test comb a b) not_lowered w = (untimed _ a (first_hold (visit _ a) (visit _ b) w), untimed _ b (rest_hold (visit _ a) (visit _ b) w))
    no_timed context (While test comb a) not_lowered w = untimed _ a w
    no_timed context (Repeat count a) not_lowered w = untimed _ a w
    no_timed context (StaticSeq written parts) not_lowered w = tt
    no_timed context (StaticPar written arms) not_lowered w = tt
    no_timed context (StaticIf written test a b) not_lowered w = tt
    no_timed context (StaticRepeat written count a) not_lowered w = tt
    no_timed context (Timed k) not_lowered w = not_lowered k refl

    untimed : (context : Context) (s : PlainStatement) → AllHold (VisitWell part) (visit context s) → IsUntimed s
    untimed context (Placed form place) w = no_timed context form ((w (record { context = context; form = form; place = place }) (inl refl)).untimed) (λ v i. w v (inr i))

    none_timed : (context : Context) (ss : PlainStatements) → AllHold (VisitWell part) (visit_all context ss) → NoneTimed ss
    none_timed context no_statements w = tt
    none_timed context (a_statement s ss) w = (untimed context s (first_hold (visit context s) (visit_all context ss) w), none_timed context ss (rest_hold (visit context s) (visit_all context ss) w))

  -- each static repeat takes some cycles
  mutual
    form_runs : (context : Context) (form : PlainForm) (place : Place) → AllHold (StandsWell part) (visit context (Placed form place)) → FormRepeats part (λ count p. 0 < count * p) form
    form_runs context Empty place w = tt
    form_runs context (Enable g) place w = tt
    form_runs context (Seq parts) place w = tt
    form_runs context (Par arms) place w = tt
    form_runs context (If test comb a b) place w = tt
    form_runs context (While test comb a) place w = tt
    form_runs context (Repeat count a) place w = tt
    form_runs context (StaticSeq written parts) place w = all_run parts (λ v i. w v (inr i))
    form_runs context (StaticPar written arms) place w = all_run arms (λ v i. w v (inr i))
    form_runs context (StaticIf written test a b) place w =
        (statement_runs Branch a (λ v i. w v (inr (in_left (visit Branch a) (visit Branch b) v i))), statement_runs Branch b (λ v i. w v (inr (in_right (visit Branch a) (visit Branch b) v i))))
    form_runs context (StaticRepeat written count a) place w = (
      (w (record { context = context; form = StaticRepeat written count a; place = place }) (inl refl)).lasts refl (long_form part none context (StaticRepeat written count a) refl (λ v i. w v (inr i))),
      statement_runs InStatic a (λ v i. w v (inr i)),
    )
    form_runs context (Timed k) place w = tt

    statement_runs : (context : Context) (s : PlainStatement) → AllHold (StandsWell part) (visit context s) → StatementRepeats part (λ count p. 0 < count * p) s
    statement_runs context (Placed form place) w = form_runs context form place w

    all_run : (ss : PlainStatements) → AllHold (StandsWell part) (visit_all InStatic ss) → AllRepeats part (λ count p. 0 < count * p) ss
    all_run no_statements w = tt
    all_run (a_statement s ss) w = (statement_runs InStatic s (first_hold (visit InStatic s) (visit_all InStatic ss) w), all_run ss (rest_hold (visit InStatic s) (visit_all InStatic ss) w))

  -- so does each island, and no more than 32 bits number
  static_makes : (form : PlainForm) (place : Place) → is_static form ≡ true → may_stand part Dynamic form ≡ true → is_island part (record { context = Dynamic; form = form; place = place }) ≡ true → AllHold (VisitWell part) (visit Dynamic (Placed form place))
      → RunsWell part (2 ^ 32) form
  static_makes form place static stands island w =
      let own = w (record { context = Dynamic; form = form; place = place }) (inl refl) in
      let stand = all_stand (visit Dynamic (Placed form place)) w in
      record { some = own.stands.lasts static (long_form part none Dynamic form stands (λ v i. stand v (inr i))); few = own.limited island; repeats = form_runs Dynamic form place stand }

  mutual
    form_makes : (form : PlainForm) (place : Place) → AllHold (VisitWell part) (visit Dynamic (Placed form place)) → FormMakes part (RunsWell part (2 ^ 32)) form
    form_makes Empty place w = tt
    form_makes (Enable g) place w = λ n e.
        let own = w (record { context = Dynamic; form = Enable g; place = place }) (inl refl) in
        record {
          some = subst (λ o. 0 < or_zero o) (sym e) (own.enables g n refl e);
          few = own.limited (ap is_some e);
          repeats = tt;
        }
    form_makes (Seq parts) place w = parts_make parts (λ v i. w v (inr i))
    form_makes (Par arms) place w = parts_make arms (λ v i. w v (inr i))
    form_makes (If test comb a b) place w = (statement_makes a (λ v i. w v (inr (in_left (visit Dynamic a) (visit Dynamic b) v i))), statement_makes b (λ v i. w v (inr (in_right (visit Dynamic a) (visit Dynamic b) v i))))
    form_makes (While test comb a) place w = statement_makes a (λ v i. w v (inr i))
    form_makes (Repeat count a) place w = statement_makes a (λ v i. w v (inr i))
    form_makes (StaticSeq written parts) place w = static_makes (StaticSeq written parts) place refl refl refl w
    form_makes (StaticPar written arms) place w = static_makes (StaticPar written arms) place refl refl refl w
    form_makes (StaticIf written test a b) place w = static_makes (StaticIf written test a b) place refl refl refl w
    form_makes (StaticRepeat written count a) place w = static_makes (StaticRepeat written count a) place refl refl refl w
    form_makes (Timed k) place w = tt

    statement_makes : (s : PlainStatement) → AllHold (VisitWell part) (visit Dynamic s) → StatementMakes part (RunsWell part (2 ^ 32)) s
    statement_makes (Placed form place) w = form_makes form place w

    parts_make : (ss : PlainStatements) → AllHold (VisitWell part) (visit_all Dynamic ss) → PartsMake part (RunsWell part (2 ^ 32)) ss
    parts_make no_statements w = tt
    parts_make (a_statement s ss) w = (statement_makes s (first_hold (visit Dynamic s) (visit_all Dynamic ss) w), parts_make ss (rest_hold (visit Dynamic s) (visit_all Dynamic ss) w))

-- A TARGET that is there is one of the component's own
own_target : (i : Instance) (p : PortRef) → IsThere i p → IsOwnTarget (part_of i) p
own_target i (ports.Cell c p) there = there.0
own_target i (ports.Input n) there = tt
own_target i (ports.Output n) there = tt
own_target i (ports.Done g) there = tt
own_target i (ports.Literal w v) there = tt

own_targets : (part : PlainComponent) (cells : Cells) → ((o : Owned) → In (source_order part) o → IsThere (Node part cells) o.assign.target) → (o : Owned) → In (driven_assigns (lowered_component part)) o → IsOwnTarget part o.assign.target
own_targets part cells there o i = own_target (Node part cells) o.assign.target (there o (in_filter (is_driven (lowered_component part)) (source_order part) o i))

-- OF AN ACCEPTED DESIGN
module _ (d : PlainDesign) (design : IsDesign d) (flat : IsFlat d) (accepted : IsAccepted d) (k : ℕ) (within : k < length d.components) where
  -- an island over the limit breaks it, or one before it
  few : (v : Visited) → In (statements_in (component_at d k)) v → is_island (part_of (component_of d k)) v ≡ true → form_length (part_of (component_of d k)) v.form < 2 ^ 32
  few v i island =
      ⊎_elim
      (λ l. l)
      (λ l. let n = number_in (statements_in (component_at d k)) v i in
      let over = over_latency (component_of d k) v island (subst (λ n. REPETITIONS ≤ n) (sym (lasts_within d flat (length d.components) k v.form)) l) in
      absurd (accepted.limits Limit (record { component = k; part = AStatement n.0 }) v.place (word_of over.0) refl
      (inr (inr (inl (record { within = within; number = n.0; is = refl; statement = v; stands = n.1; breaks = (over.0, over.1, (refl, refl)) }))))))
      (cases_lt (form_length (part_of (component_of d k)) v.form) (2 ^ 32))

  formed : (v : Visited) → In (statements_in (component_at d k)) v → IsForm (component_at d k) v.form
  formed v i = subst (λ part. IsForm part v.form) (same_part d (length d.components) k) ((design.components k within).statements v i).form

  lasting : (v : Visited) → In (statements_in (component_at d k)) v → (g n : ℕ) → v.form ≡ Enable g → group_length (component_at d k) g ≡ Some n → 0 < n
  lasting v i g n e f = let there : IsForm (component_at d k) (Enable g) = subst (IsForm (component_at d k)) e (formed v i) in group_lasts d accepted k within g n there.0 f

  visit_well : (v : Visited) → In (statements_in (component_at d k)) v → VisitWell (component_at d k) v
  visit_well v i = record {
    untimed = λ n is. counts.no_timed (component_at d k) (flat k within) n (subst (IsForm (component_at d k)) is (formed v i));
    stands = stands_well d flat accepted k within v i;
    limited = subst (λ x. is_island x v ≡ true → form_length x v.form < 2 ^ 32) (same_part d (length d.components) k) (few v i);
    enables = lasting v i;
  }

  -- OF A COMPONENT'S INSTANCE with one level at least
  pub timer_rules : (child : ℕ → Instance) → ((o : Owned) → In (source_order (component_at d k)) o → IsThere (Node (component_at d k) (cells_for child (component_at d k).cells)) o.assign.target)
      → TimerRules (component_at d k) (cells_for child (component_at d k).cells)
  timer_rules child there = record {
    untimed = untimed (component_at d k) (flat k within).no_invoke Dynamic (component_at d k).control visit_well;
    count = count_for child (component_at d k).cells;
    fit = timers_fit (component_at d k) (2 ^ 32) (statement_makes (component_at d k) (flat k within).no_invoke (component_at d k).control visit_well);
    targets = own_targets (component_at d k) (cells_for child (component_at d k).cells) there;
    ifs = no_empty d flat accepted k within;
  }

-- and where there is no component
pub no_timer_rules : ((o : Owned) → In (source_order no_component) o → IsThere (Node no_component no_cells) o.assign.target) → TimerRules no_component no_cells
no_timer_rules there = record {
  untimed = tt;
  count = refl;
  fit = λ k island is. absurd cc;
  targets = own_targets no_component no_cells there;
  ifs = no_empty_bare no_component refl;
}
