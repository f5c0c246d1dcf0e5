-- The source of a net makes the cycles of the net, and tells the words that the net has.
use Rattle.std.proofs.Common.{◌≡◌, Bool, true, false, List, refl, ◌∙◌, subst}
use Rattle.cx_text.specs.Loading.{PlainMemory, FitsRows, words_loaded}
use Rattle.cx_meaning.specs.Designs.{PlainDesign}
use Rattle.cx_meaning.specs.Instances as instances
use Rattle.cx_vtree.specs.Plain.{PlainSource}
use Rattle.cx_vtree.specs.InstanceTree.{Placed}
use Rattle.cx_vtree.specs.Meaning.{State, Look, resetting}
use Rattle.cx_vtree.specs.Edges.{state_after}
use Rattle.cx_vtree.specs.PlainParts as parts
use Rattle.cx_vtree.specs.SimRun.{words_of, start_state}
use Rattle.cx_vtree.specs.Sound.{is_sound}
use Rattle.cx_vmods.specs.Laws.{EachIsBuilt}
use Rattle.cx_net.specs.Nets.{PlainNet}
use Rattle.cx_net.specs.NetTree.{net_tree}
use Rattle.cx_net.specs.NetMeaning.{NetState, NetLook}
use Rattle.cx_net.specs.NetEdges.{net_after}
use Rattle.cx_net.specs.NetRuns.{IsWholeLook, net_start, net_words}
use Rattle.cx_emit.specs.Fits.{IsFlat}
use Rattle.cx_emit.specs.Sources.{source_of}
use Rattle.cx_emit.specs.States.{StatesStand}
use Rattle.cx_emit.proofs.AllValued.{WholeText, whole_text}
use Rattle.cx_emit.proofs.EdgeValues.{edge_carries}
use Rattle.cx_emit.proofs.RunLemmas.{same_words, same_done}
use Rattle.cx_emit.proofs.Standing.{tree}
use Rattle.cx_emit.proofs.StartValues.{starts_stand}
use Rattle.cx_emitted.specs.Scripts.{Stay}
use Rattle.cx_emitted.specs.Always.{in_cycle, SourceCycle}
use Rattle.cx_emitted.proofs.AheadLemmas.{LeadsTo, leads_carry}
use Rattle.cx_emitted.proofs.NetCycles.{NetCycle}

module _ (net : PlainNet) (sound : is_sound (source_of net) ≡ true) (fit : IsFlat net) (built : EachIsBuilt) where
  abbrev the_source : PlainSource
  the_source = source_of net

  abbrev the_tree : List Placed
  the_tree = tree net sound fit

  -- A CYCLE: done is the same, and the states stand for each other behind it
  goes : (go : Bool) (s : NetState) (done : Bool) (t : NetState) (kept : State) → StatesStand net net.main 0 s kept → NetCycle (net_tree net) go s done t
      → (l : State) × SourceCycle the_source go kept done l × StatesStand net net.main 0 t l
  goes go s done t kept stand c =
      let seen : WholeText the_tree (in_cycle go kept) = whole_text net sound fit built (in_cycle go kept) go s c.look stand refl c.whole in
      let after : State = state_after the_tree (in_cycle go kept) seen.look in (
        after,
        record { look = seen.look; whole = seen.whole; shows = same_done net sound fit built (in_cycle go kept) go s c.look stand refl c.whole seen ∙ c.shows; leads = refl },
        subst (λ x. StatesStand net net.main 0 x after) c.leads (edge_carries net sound fit built (in_cycle go kept) seen.look seen.whole false go s c.look stand refl refl c.whole),
      )

  -- THE FIRST STATE, behind the edge with reset
  pub first_stands : (memories : List PlainMemory) → FitsRows (parts.rows_of the_source.externals) memories → (look : NetLook)
      → IsWholeLook (net_tree net) false (net_start (net_tree net) (words_loaded memories)) look
      → (seen : Look) × StatesStand net net.main 0 (net_after (net_tree net) true false (net_start (net_tree net) (words_loaded memories)) look) (state_after the_tree (resetting (start_state the_source (words_loaded memories))) seen)
  first_stands memories fits look whole =
      let start : State = start_state the_source (words_loaded memories) in
      let stand = starts_stand net sound fit built memories fits in
      let w = whole_text net sound fit built (resetting start) false (net_start (net_tree net) (words_loaded memories)) look stand refl whole in
      (w.look, edge_carries net sound fit built (resetting start) w.look w.whole true false (net_start (net_tree net) (words_loaded memories)) look stand refl refl whole)

  -- SCRIPTS
  pub source_leads : (d : PlainDesign) (v : NetState) (stays : List Stay) (s : instances.State) → LeadsTo d (NetCycle (net_tree net)) (net_words (net_tree net)) v stays s → (kept : State) → StatesStand net net.main 0 v kept
      → LeadsTo d (SourceCycle the_source) (words_of the_source) kept stays s
  source_leads d v stays s is kept stand =
      leads_carry (NetCycle (net_tree net)) (SourceCycle the_source) (StatesStand net net.main 0) goes (net_words (net_tree net)) (words_of the_source) (same_words net sound fit built) d v kept stays s stand is
