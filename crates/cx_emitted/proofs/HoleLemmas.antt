-- A net without holes makes the cycles of the net.
use Rattle.std.proofs.Common.{◌≡◌, ℕ, Bool, true, false, List, length, refl, sym, ap, ◌∙◌, subst}
use Rattle.cx_meaning.specs.Designs.{PlainDesign}
use Rattle.cx_meaning.specs.Instances.{State}
use Rattle.cx_net.specs.Nets.{PlainNet}
use Rattle.cx_net.specs.NetTree.{NetInstance, net_tree}
use Rattle.cx_net.specs.NetMeaning.{NetState, NetLook}
use Rattle.cx_net.specs.NetEdges.{net_after}
use Rattle.cx_net.specs.NetRuns.{IsWholeLook, net_start, net_words}
use Rattle.cx_holes.specs.Inlining.{inlined}
use Rattle.cx_holes.specs.Names.{NetNames}
use Rattle.cx_holes.specs.Renamed.{inlined_tree, TreeNames}
use Rattle.cx_holes.proofs.RenamedLooks.{forth, forth_alike}
use Rattle.cx_holes.proofs.RenamedEdges.{after_same, start_same, words_same}
use Rattle.cx_holes.proofs.RenamedRuns.{forth_done, whole_forth, tree_same, within_names}
use Rattle.cx_emitted.specs.Scripts.{Stay}
use Rattle.cx_emitted.proofs.AheadLemmas.{LeadsTo, leads_carry}
use Rattle.cx_emitted.proofs.NetCycles.{NetCycle}

module _ (tree : NetInstance) (names : TreeNames tree) where
  -- A CYCLE, from the same state to the same
  cycle_forth : (go : Bool) (s : NetState) (done : Bool) (t k : NetState) → s ≡ k → NetCycle tree go s done t → (l : NetState) × NetCycle (inlined_tree tree) go k done l × (t ≡ l)
  cycle_forth go s done t k same c = (
    t,
    subst (λ x. NetCycle (inlined_tree tree) go x done t) same (record {
      look = forth tree c.look;
      whole = whole_forth tree names go s c.look c.whole;
      shows = forth_done tree c.look ∙ c.shows;
      leads = after_same tree names false go s c.look (forth tree c.look) (forth_alike tree c.look) ∙ c.leads;
    }),
    refl,
  )

  -- the cycle of the edge with reset
  reset_forth : (words : List (List ℕ)) (look : NetLook) → IsWholeLook tree false (net_start tree words) look
      → (new : NetLook) × IsWholeLook (inlined_tree tree) false (net_start (inlined_tree tree) words) new
      × (net_after (inlined_tree tree) true false (net_start (inlined_tree tree) words) new ≡ net_after tree true false (net_start tree words) look)
  reset_forth words look w =
      let same = start_same tree words in
      let new = forth tree look in (
        new,
        subst (λ s. IsWholeLook (inlined_tree tree) false s new) (sym same) (whole_forth tree names false (net_start tree words) look w),
        ap (λ s. net_after (inlined_tree tree) true false s new) same ∙ after_same tree names true false (net_start tree words) look new (forth_alike tree look),
      )

  -- SCRIPTS
  inlined_leads : (d : PlainDesign) (v : NetState) (stays : List Stay) (s : State) → LeadsTo d (NetCycle tree) (net_words tree) v stays s → LeadsTo d (NetCycle (inlined_tree tree)) (net_words (inlined_tree tree)) v stays s
  inlined_leads d v stays s is =
      leads_carry (NetCycle tree) (NetCycle (inlined_tree tree)) (λ x y. x ≡ y) cycle_forth (net_words tree) (net_words (inlined_tree tree)) (λ x y e. words_same tree y ∙ ap (net_words tree) (sym e)) d v v stays s refl is

module _ (n : PlainNet) (names : NetNames n) where
  -- SCRIPTS WITHOUT HOLES
  pub holeless_leads : (d : PlainDesign) (v : NetState) (stays : List Stay) (s : State) → LeadsTo d (NetCycle (net_tree n)) (net_words (net_tree n)) v stays s
      → LeadsTo d (NetCycle (net_tree (inlined n))) (net_words (net_tree (inlined n))) v stays s
  holeless_leads d v stays s is =
      subst (λ tree. LeadsTo d (NetCycle tree) (net_words tree) v stays s) (sym (tree_same n)) (inlined_leads (net_tree n) (within_names n names (length n.components) n.main) d v stays s is)

  -- and the cycle of the edge with reset
  pub holeless_reset : (words : List (List ℕ)) (look : NetLook) → IsWholeLook (net_tree n) false (net_start (net_tree n) words) look
      → (new : NetLook) × IsWholeLook (net_tree (inlined n)) false (net_start (net_tree (inlined n)) words) new
      × (net_after (net_tree (inlined n)) true false (net_start (net_tree (inlined n)) words) new ≡ net_after (net_tree n) true false (net_start (net_tree n) words) look)
  holeless_reset words look w =
      subst
      (λ tree. (new : NetLook) × IsWholeLook tree false (net_start tree words) new × (net_after tree true false (net_start tree words) new ≡ net_after (net_tree n) true false (net_start (net_tree n) words) look)) (sym (tree_same n))
      (reset_forth (net_tree n) (within_names n names (length n.components) n.main) words look w)
