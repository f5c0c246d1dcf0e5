-- WHAT THE CONTROL OF AN INSTANCE IS LOWERED TO keeps what runs.
use Rattle.std.proofs.Common.{inl, inr, ℕ, Option, Some, None, List, length, option_map, unwrap_or, refl, sym, ap, ◌∙◌}
use Rattle.cx_text.proofs.MemberLaws.{in_left, in_right}
use Rattle.cx_text.specs.declared.places.Place.{Place}
use Rattle.cx_meaning.specs.Designs.{PlainCell, PlainComponent, PlainForm, Empty, Enable, Seq, Par, If, While, Repeat, StaticSeq, StaticPar, StaticIf, StaticRepeat, Timed, PlainStatement, Placed, PlainStatements, no_statements, a_statement}
use Rattle.cx_meaning.specs.Instances.{Instance, part_of}
use Rattle.cx_meaning.specs.Islands.{form_length, group_length}
use Rattle.cx_text.specs.Members.{In}
use Rattle.cx_rules.specs.Items.{Dynamic, Visited, statements_in, visit, visit_all}
use Rattle.cx_laws.specs.Positions.{HasNoEmptyIf}
use Rattle.cx_control.specs.InstanceRules.{Stands}
use Rattle.cx_control.specs.IslandRules.{IslandRules}
use Rattle.cx_static.specs.Islands.{PlainIsland}
use Rattle.cx_static.specs.Lowering.{Lowering, timer_cell, island_gathered, island_of, with_island, timed, after_enable, lowered_enable, form_after, after, parts_after, lowered_form, lowered, lowered_parts, unlowered, lowered_component}
use Rattle.cx_wiring.specs.TimerCounts.{kind_cycles}
use Rattle.cx_wiring.proofs.GatherLaws.{island_there}
use Rattle.cx_wiring.proofs.IslandCells.{IsBefore, itself, both_before, before_after, before_parts}
use Rattle.cx_wiring_runs.specs.Listed.{IslandLowers, EnableLowers, FormLowers, StatementLowers, PartsLower, KeepsWhatRuns}
use Rattle.cx_wiring_runs.proofs.ListedRuns.{SameCycles, lists_run}
use Rattle.cx_text.proofs.ListLaws.{get_end}

module _ (i : Instance) (rules : IslandRules i) (no_empty : (v : Visited) → In (statements_in (part_of i)) v → HasNoEmptyIf (part_of i) v.form) where
  abbrev part : PlainComponent
  part = part_of i

  abbrev final : Lowering
  final = after (part_of i) (part_of i).control (unlowered (part_of i))

  abbrev AreVisited : List Visited → Type 0
  AreVisited list = (v : Visited) → In list v → In (statements_in (part_of i)) v

  same_cycles : (form : PlainForm) (l : Lowering) → IsBefore (with_island (part_of i) form l) final → SameCycles (part_of i) form l.cells final.cells
  same_cycles form l before n timer e =
      let k = island_there part form l.cells n timer e in
      ap (λ (o : Option PlainCell). unwrap_or (option_map (λ (c : PlainCell). kind_cycles c.kind) o) 0) (before.cells timer.cell (timer_cell (part_of i).place k.0) k.1 ∙ sym k.1)

  island_lowers : (form : PlainForm) (place : Place) (l : Lowering) → Stands i (Placed form place) → IsBefore (with_island (part_of i) form l) final → IslandLowers i final.cells final.islands form (timed l)
  island_lowers form place l stands before =
      let lists : PlainIsland = island_of (form_length part form) (island_gathered part form l.cells) in
      record {
        number = length l.islands;
        lists = lists;
        is = refl;
        listed = before.islands (length l.islands) lists (get_end l.islands lists);
        runs = λ held kept s n.
            lists_run i held form l.cells final.cells (same_cycles form l before) (no_empty (record { context = Dynamic; form = form; place = place }) stands)
            (λ h t samples. rules.active form h t samples) (λ h t samples. rules.begun form place stands h t samples) kept s n;
      }

  enable_lowers : (g : ℕ) (o : Option ℕ) (place : Place) (l : Lowering) → Stands i (Placed (Enable g) place) → IsBefore (after_enable (part_of i) g o l) final
      → EnableLowers i final.cells final.islands g o (lowered_enable (part_of i) g o l)
  enable_lowers g None place l stands before = refl
  enable_lowers g (Some n) place l stands before = island_lowers (Enable g) place l stands before

  mutual
    form_lowers : (form : PlainForm) (place : Place) (l : Lowering) → AreVisited (visit Dynamic (Placed form place)) → IsBefore (form_after (part_of i) form l) final
        → FormLowers i final.cells final.islands form (lowered_form (part_of i) form l)
    form_lowers Empty place l each before = refl
    form_lowers (Enable g) place l each before = enable_lowers g (group_length part g) place l (each (record { context = Dynamic; form = Enable g; place = place }) (inl refl)) before
    form_lowers (Seq parts) place l each before = (lowered_parts part parts l, refl, parts_lower parts l (λ v j. each v (inr j)) before)
    form_lowers (Par arms) place l each before = (lowered_parts part arms l, refl, parts_lower arms l (λ v j. each v (inr j)) before)
    form_lowers (If test comb a b) place l each before = (
      lowered part a l,
      lowered part b (after part a l),
      refl,
      statement_lowers a l (λ v j. each v (inr (in_left (visit Dynamic a) (visit Dynamic b) v j))) (both_before part (after part a l) (after part b (after part a l)) final (before_after part b (after part a l)) before),
      statement_lowers b (after part a l) (λ v j. each v (inr (in_right (visit Dynamic a) (visit Dynamic b) v j))) before,
    )
    form_lowers (While test comb a) place l each before = (lowered part a l, refl, statement_lowers a l (λ v j. each v (inr j)) before)
    form_lowers (Repeat count a) place l each before = (lowered part a l, refl, statement_lowers a l (λ v j. each v (inr j)) before)
    form_lowers (StaticSeq written parts) place l each before = island_lowers (StaticSeq written parts) place l (each (record { context = Dynamic; form = StaticSeq written parts; place = place }) (inl refl)) before
    form_lowers (StaticPar written arms) place l each before = island_lowers (StaticPar written arms) place l (each (record { context = Dynamic; form = StaticPar written arms; place = place }) (inl refl)) before
    form_lowers (StaticIf written test a b) place l each before = island_lowers (StaticIf written test a b) place l (each (record { context = Dynamic; form = StaticIf written test a b; place = place }) (inl refl)) before
    form_lowers (StaticRepeat written count a) place l each before =
        island_lowers (StaticRepeat written count a) place l (each (record { context = Dynamic; form = StaticRepeat written count a; place = place }) (inl refl)) before
    form_lowers (Timed k) place l each before = refl

    statement_lowers : (s : PlainStatement) (l : Lowering) → AreVisited (visit Dynamic s) → IsBefore (after (part_of i) s l) final → StatementLowers i final.cells final.islands s (lowered (part_of i) s l)
    statement_lowers (Placed form place) l each before = (lowered_form part form l, refl, form_lowers form place l each before)

    parts_lower : (ss : PlainStatements) (l : Lowering) → AreVisited (visit_all Dynamic ss) → IsBefore (parts_after (part_of i) ss l) final → PartsLower i final.cells final.islands ss (lowered_parts (part_of i) ss l)
    parts_lower no_statements l each before = refl
    parts_lower (a_statement s ss) l each before = (
      lowered part s l,
      lowered_parts part ss (after part s l),
      refl,
      statement_lowers s l (λ v j. each v (in_left (visit Dynamic s) (visit_all Dynamic ss) v j)) (both_before part (after part s l) (parts_after part ss (after part s l)) final (before_parts part ss (after part s l)) before),
      parts_lower ss (after part s l) (λ v j. each v (in_right (visit Dynamic s) (visit_all Dynamic ss) v j)) before,
    )

  -- THE CONTROL
  pub control_lowers : KeepsWhatRuns i (lowered_component (part_of i))
  control_lowers = statement_lowers (part_of i).control (unlowered (part_of i)) (λ v j. j) (itself part final)
