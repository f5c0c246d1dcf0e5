-- THE SOURCE OF AN ACCEPTED DESIGN realises it always: by its net, the net without holes, and the first power-up state.
use Rattle.std.proofs.Common.{◌≡◌, ℕ, true, false, List, refl, sym, ap, ◌∙◌, subst}
use Rattle.cx_text.specs.Loading.{PlainMemory, FitsRows, words_loaded}
use Rattle.cx_meaning.specs.Designs.{PlainDesign}
use Rattle.cx_meaning.specs.Instances as instances
use Rattle.cx_meaning.specs.Instances.{Path, tree_of, instance_at, start}
use Rattle.cx_laws.proofs.StartLemmas.{design_starts_settled}
use Rattle.cx_rules.specs.Accepted.{IsAccepted}
use Rattle.cx_rules.specs.Externals.{external_rows, rows_of}
use Rattle.cx_rules.specs.Flat.{IsFlat}
use Rattle.cx_rules.specs.Wellformed.{IsDesign}
use Rattle.cx_control.specs.ControlRules.{ControlRules}
use Rattle.cx_control.specs.IslandRules.{IslandRules}
use Rattle.cx_vtree.specs.Plain.{PlainSource}
use Rattle.cx_vtree.specs.Meaning.{State, resetting}
use Rattle.cx_vtree.specs.InstanceTree.{instances_of}
use Rattle.cx_vtree.specs.Edges.{state_after}
use Rattle.cx_vtree.specs.PlainParts as parts
use Rattle.cx_vtree.specs.SimRun.{start_state}
use Rattle.cx_vtree.specs.Sound.{is_sound}
use Rattle.cx_vmods.proofs.TableLaws.{each_is_built}
use Rattle.cx_net.specs.NetEdges.{net_after}
use Rattle.cx_net.specs.NetRuns.{at_reset, net_start, net_words}
use Rattle.cx_net.specs.NetTree.{net_tree}
use Rattle.cx_net.specs.Nets.{PlainNetComponent, PlainNet}
use Rattle.cx_static.specs.Lowering.{lowered_of}
use Rattle.cx_wiring.specs.Wiring.{net_of}
use Rattle.cx_wiring.proofs.FitNets.{net_fits}
use Rattle.cx_wiring.proofs.FitTargets.{targets_there}
use Rattle.cx_wiring.proofs.MainLaws.{rows_of-net_of}
use Rattle.cx_wiring_runs.proofs.GroundedRuns.{HasLook, whole_look}
use Rattle.cx_wiring_runs.proofs.DesignGrounded.{design_grounded}
use Rattle.cx_wiring_runs.proofs.DesignHolds.{HoldsNet}
use Rattle.cx_holes.specs.Inlining.{inlined}
use Rattle.cx_holes.specs.Names.{NetNames}
use Rattle.cx_holes.proofs.FitNames.{fit_names}
use Rattle.cx_holes.proofs.RenamedRuns.{part_same}
use Rattle.cx_holes.proofs.RenamedFits.{inlined_fits, inlined_no_holes}
use Rattle.cx_emit.specs.Fits.{IsFlat as IsWithoutHoles}
use Rattle.cx_emit.specs.Sources.{source_of}
use Rattle.cx_emit.specs.States.{StatesStand}
use Rattle.cx_emit.proofs.RowLemmas.{rows_of-source_of}
use Rattle.cx_emitted.specs.Power.{after_power}
use Rattle.cx_emitted.proofs.ResetLemmas.{alike_after}
use Rattle.cx_emitted.proofs.SourceResets.{source_reset}
use Rattle.cx_emitted.specs.Scripts.{Stay}
use Rattle.cx_emitted.specs.Stays.{Stays}
use Rattle.cx_emitted.specs.Always.{RealisesAlways}
use Rattle.cx_emitted.proofs.AheadLemmas.{LeadsTo}
use Rattle.cx_emitted.proofs.NetCycles.{NetCycle}
use Rattle.cx_emitted.proofs.HoleLemmas.{holeless_leads, holeless_reset}
use Rattle.cx_emitted.proofs.MachineLemmas.{machine_runs_anew}
use Rattle.cx_emitted.proofs.NetLemmas.{net_passes}
use Rattle.cx_emitted.proofs.PowerLemmas.{alike_leads, is_at}
use Rattle.cx_emitted.proofs.RootLemmas.{RootGood, RootShows, script_keeps, ScriptKeeps}
use Rattle.cx_emitted.proofs.SourceLemmas.{first_stands, source_leads}

module _ (d : PlainDesign) (design : IsDesign d) (flat : IsFlat d) (accepted : IsAccepted d) (rules : (path : Path) → ControlRules (instance_at (tree_of d) path)) (islands : (path : Path) → IslandRules (instance_at (tree_of d) path)) where
  abbrev net : PlainNet
  net = net_of (lowered_of d)

  abbrev source : PlainSource
  source = source_of (inlined net)

  names : NetNames net
  names = fit_names net (net_fits d design flat accepted) (targets_there d design flat accepted)

  flat_net : IsWithoutHoles (inlined net)
  flat_net = record { fits = inlined_fits net names (net_fits d design flat accepted); no_holes = inlined_no_holes net }

  rows_same : parts.rows_of source.externals ≡ external_rows d
  rows_same = rows_of-source_of (inlined net) ∙ ap (λ part. rows_of (PlainNetComponent.cells part)) (part_same net.components net.main) ∙ rows_of-net_of d design.main_there

  keeps : ScriptKeeps d (net_tree net) (HoldsNet d design flat accepted) (RootGood d design flat accepted rules islands (design_starts_settled d)) (RootShows d design flat accepted rules islands (design_starts_settled d))
  keeps = script_keeps d design flat accepted rules islands (design_starts_settled d)

  -- THE NET, behind the edge with reset
  module _ (memories : List PlainMemory) (fits : FitsRows (external_rows d) memories) where
    abbrev words : List (List ℕ)
    words = words_loaded memories

    first : HasLook (net_tree net) false (net_start (net_tree net) words)
    first = whole_look (net_tree net) false (net_start (net_tree net) words) (design_grounded d design flat accepted words (memories, fits, refl) false (net_start (net_tree net) words) at_reset)

    net_is_at : (stays : List Stay) (s : instances.State) → Stays d (start (tree_of d) words) stays s
        → LeadsTo d (NetCycle (net_tree net)) (net_words (net_tree net)) (net_after (net_tree net) true false (net_start (net_tree net) words) first.look) stays s
    net_is_at stays s script =
        net_passes d (net_tree net) (HoldsNet d design flat accepted) (RootGood d design flat accepted rules islands (design_starts_settled d)) (RootShows d design flat accepted rules islands (design_starts_settled d)) keeps
        (machine_runs_anew d rules islands) script (net_after (net_tree net) true false (net_start (net_tree net) words) first.look) (design_starts_settled d words)
        (keeps.law.starts words first.look (memories, fits, refl) first.is).1

  pub realised_always : is_sound (source_of (inlined (net_of (lowered_of d)))) ≡ true → RealisesAlways d (source_of (inlined (net_of (lowered_of d))))
  realised_always sound memories fits power has go nets stays s script =
      let l = first memories fits in
      let held = holeless_reset net names (words_loaded memories) l.look l.is in
      let stand = first_stands (inlined net) sound flat_net each_is_built memories (subst (λ rows. FitsRows rows memories) (sym rows_same) fits) held.0 held.1 in
      let kept : State = state_after (instances_of source) (resetting (start_state source (words_loaded memories))) stand.0 in
      let stands = subst (λ v. StatesStand (inlined net) net.main 0 v kept) held.2 stand.1 in
      let at_net = holeless_leads net names d (net_after (net_tree net) true false (net_start (net_tree net) (words_loaded memories)) l.look) stays s (net_is_at memories fits stays s script) in
      let at_source = source_leads (inlined net) sound flat_net each_is_built d (net_after (net_tree net) true false (net_start (net_tree net) (words_loaded memories)) l.look) stays s at_net kept stands in
      let alike = alike_after source (source_reset (inlined net)) (words_loaded memories) (start_state source (words_loaded memories)) power (λ i name k. refl) has 0 go stand.0 nets in
      is_at source sound d (after_power source go nets power) stays s (alike_leads source d kept (after_power source go nets power) stays s alike at_source)
