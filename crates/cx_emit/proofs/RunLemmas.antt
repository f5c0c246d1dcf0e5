-- What a net comes to its source comes to.
use Rattle.std.proofs.Common.{◌≡◌, ℕ, suc, ◌+◌, ◌==◌, Bool, true, false, List, [], ◌∷◌, ◌++◌, length, map, Some, slice_get, refl, ap, sym, ◌∙◌, subst, if◌then◌else◌, arith}
use Rattle.std.specs.Prelude.{codes}
use Rattle.std.specs.Option.{option_map_or}
use Rattle.cx_bits.specs.BitVector.{BitVector}
use Rattle.cx_text.specs.Loading.{word_count, words_loaded}
use Rattle.cx_prim.specs.CellStates as cell_states
use Rattle.cx_meaning.specs.Designs.{PlainKind, OfPrimitive, OfComponent, PlainCell}
use Rattle.cx_meaning.specs.Instances.{if_external, externals_from}
use Rattle.cx_rules.specs.Wellformed.{first_number}
use Rattle.cx_rules.specs.Externals.{sizes_in, numbers_of}
use Rattle.cx_state.proofs.Shapes.{memory_shape}
use Rattle.cx_vtree.specs.Plain.{PlainSource}
use Rattle.cx_vtree.specs.InstanceTree.{Placed, decls_at}
use Rattle.cx_vtree.specs.Meaning.{State, Moment, running, resetting}
use Rattle.cx_vtree.specs.Edges.{state_after}
use Rattle.cx_vtree.specs.SimRun as text
use Rattle.cx_vtree.specs.SimRun.{Outcome, DoneAt, NotDone, instance_named, first_array, numbers_from, words_in, words_of, start_state, RunsFrom, SimRun}
use Rattle.cx_vtree.specs.Sound.{is_sound}
use Rattle.cx_vmods.specs.Built.{kept_at}
use Rattle.cx_net.specs.Nets.{PlainNetComponent, PlainNet}
use Rattle.cx_net.specs.NetTree.{net_component_at, net_tree}
use Rattle.cx_net.specs.NetMeaning.{NetState, TheDone, NetLook, truth_bit, is_true}
use Rattle.cx_net.specs.NetRuns as nets
use Rattle.cx_net.specs.NetRuns.{net_externals, net_start, net_words, IsWholeLook, NetRunsFrom, ends, spent, goes_on, NetRun, after_reset}
use Rattle.cx_emit.specs.Fits.{IsFlat}
use Rattle.cx_emit.specs.Numbered.{lists_from}
use Rattle.cx_emit.specs.Sources.{external_of, cell_externals, source_of}
use Rattle.cx_emit.specs.Places.{cell_number}
use Rattle.cx_vmods.specs.Laws.{EachIsBuilt}
use Rattle.cx_vmods.proofs.TableLaws.{each_is_built}
use Rattle.cx_net.specs.NetFits.{IsExternalKind, IsFit, HasNoHoles}
use Rattle.cx_emit.specs.States.{StatesStand}
use Rattle.cx_emit.specs.RunsAs.{Runs, RunsAs}
use Rattle.cx_emit.proofs.Standing.{tree, main_placed, cell_placed}
use Rattle.cx_emit.proofs.CellValues.{is_built}
use Rattle.cx_net.proofs.DriverLemmas.{part-within}
use Rattle.cx_emit.proofs.TextWholes.{whole_has}
use Rattle.cx_emit.proofs.EdgeValues.{edge_carries}
use Rattle.cx_emit.proofs.Situations.{main_situation}
use Rattle.cx_emit.proofs.AllValued.{WholeText, whole_text}
use Rattle.cx_emit.proofs.ExternalLemmas.{externals_are, found_at, are_words, map_numbers}
use Rattle.cx_emit.proofs.StartValues.{decls_here, starts_stand}
use Rattle.cx_net.proofs.WidthLaws.{bit_is}

module _ (net : PlainNet) (sound : is_sound (source_of net) ≡ true) (fit : IsFlat net) (built : EachIsBuilt) where
  abbrev the_source : PlainSource
  the_source = source_of net

  abbrev the_tree : List Placed
  the_tree = tree net sound fit

  abbrev cells : List PlainCell
  cells = (net_component_at net net.main).cells

  module _ (s : NetState) (kept : State) (stand : StatesStand net net.main 0 s kept) where
    -- the words of an external cell
    cell_words : (c : ℕ) (cell : PlainCell) → slice_get cells c ≡ Some cell → cell.external ≡ true → (kind : PlainKind) → cell.kind ≡ kind → words_in the_tree kept (external_of c cell) ≡ cell_states.words_of (s.cell (c ∷ []))
    cell_words c cell there external (OfComponent child) is = absurd (subst IsExternalKind is (fit.fits.externals c cell there external))
    cell_words c cell there external (OfPrimitive p) is =
        let j : ℕ = cell_number the_source 0 c in
        let main = main_placed net sound fit in
        let state = stand.cells [] net.main c cell p refl there is in
        let kind = subst IsExternalKind is (fit.fits.externals c cell there external) in
        let long = (are_words p (s.cell (c ∷ [])) (first_number p.numbers) (word_count (sizes_in p.numbers)) (memory_shape p kind) state.1).length in
        let count : length (cell_states.words_of (s.cell (c ∷ []))) ≡ word_count (external_of c cell).sizes = long ∙ ap (λ n. word_count (sizes_in n)) (sym (ap numbers_of is)) in
        let module_is_built = is_built net sound fit built (running kept) net.main 0 c cell p main there is (cell_placed net sound fit net.main 0 c cell main there) in
        ap (λ o. option_map_or (λ i. map (kept.word i (first_array (decls_at the_tree i))) (numbers_from 0 (word_count (external_of c cell).sizes))) o []) (found_at net sound fit c cell there external)
        ∙ map_numbers (kept.word j (first_array (decls_at the_tree j))) 0 (word_count (external_of c cell).sizes) (cell_states.words_of (s.cell (c ∷ []))) count
        (λ k lt.
        let place : 0 + k ≡ k = omega arith in
        ap (kept.word j (first_array (decls_at the_tree j))) place ∙ ap (λ ds. kept.word j (first_array ds) k) (decls_here net sound fit built c cell p there is)
        ∙ module_is_built.words (kept_at kept j) (s.cell (c ∷ [])) k state.0 state.1 lt)

    words_from : (cs : List PlainCell) (b : ℕ) → ((t : ℕ) (cell : PlainCell) → slice_get cs t ≡ Some cell → cell.external ≡ true → words_in the_tree kept (external_of (b + t) cell) ≡ cell_states.words_of (s.cell ((b + t) ∷ [])))
        → map (words_in the_tree kept) (lists_from cell_externals b cs) ≡ map (λ c. cell_states.words_of (s.cell (c ∷ []))) (externals_from b cs)
    words_from [] b each = refl
    words_from (x ∷ cs) b each = go x.external refl (words_from cs (suc b) later) where
      later : (t : ℕ) (cell : PlainCell) → slice_get cs t ≡ Some cell → cell.external ≡ true → words_in the_tree kept (external_of (suc b + t) cell) ≡ cell_states.words_of (s.cell ((suc b + t) ∷ []))
      later t cell at is = let place : b + suc t ≡ suc b + t = omega arith in subst (λ n. words_in the_tree kept (external_of n cell) ≡ cell_states.words_of (s.cell (n ∷ []))) place (each (suc t) cell at is)

      go : (e : Bool) → x.external ≡ e → map (words_in the_tree kept) (lists_from cell_externals (suc b) cs) ≡ map (λ c. cell_states.words_of (s.cell (c ∷ []))) (externals_from (suc b) cs)
          → map (words_in the_tree kept) ((if x.external then external_of b x ∷ [] else []) ++ lists_from cell_externals (suc b) cs) ≡ map (λ c. cell_states.words_of (s.cell (c ∷ []))) (if_external x.external b (externals_from (suc b) cs))
      go false is rest =
          ap (λ e. map (words_in the_tree kept) ((if e then external_of b x ∷ [] else []) ++ lists_from cell_externals (suc b) cs)) is ∙ rest
          ∙ sym (ap (λ e. map (λ c. cell_states.words_of (s.cell (c ∷ []))) (if_external e b (externals_from (suc b) cs))) is)
      go true is rest =
          let place : b + 0 ≡ b = omega arith in
          let first : words_in the_tree kept (external_of b x) ≡ cell_states.words_of (s.cell (b ∷ [])) = subst (λ n. words_in the_tree kept (external_of n x) ≡ cell_states.words_of (s.cell (n ∷ []))) place (each 0 x refl is) in
          ap (λ e. map (words_in the_tree kept) ((if e then external_of b x ∷ [] else []) ++ lists_from cell_externals (suc b) cs)) is
          ∙ ap (λ w. w ∷ map (words_in the_tree kept) (lists_from cell_externals (suc b) cs)) first ∙ ap (λ l. cell_states.words_of (s.cell (b ∷ [])) ∷ l) rest
          ∙ sym (ap (λ e. map (λ c. cell_states.words_of (s.cell (c ∷ []))) (if_external e b (externals_from (suc b) cs))) is)

    pub same_words : words_of the_source kept ≡ net_words (net_tree net) s
    same_words =
        ap (map (words_in the_tree kept)) (externals_are net sound fit)
        ∙ words_from cells 0 (λ t cell at is. let place : t ≡ 0 + t = omega arith in subst (λ n. words_in the_tree kept (external_of n cell) ≡ cell_states.words_of (s.cell (n ∷ []))) place (cell_words t cell at is cell.kind refl))
        ∙ sym (ap (λ (x : PlainNetComponent). map (λ c. cell_states.words_of (s.cell (c ∷ []))) (net_externals x)) (part-within net (length net.components) net.main))

  -- in a cycle in which states stand for each other done is the same
  pub same_done : (now : Moment) (go : Bool) (s : NetState) (look : NetLook) (stand : StatesStand net net.main 0 s now.state) (goes : now.go ≡ (if go then 1 else 0)) → IsWholeLook (net_tree net) go s look
      → (seen : WholeText the_tree now) → text.is_done seen.look ≡ nets.is_done look
  same_done now go s look stand goes whole seen =
      let x = main_situation net sound fit built now go s look stand goes whole in
      let (v, known) = x.all [] net.main TheDone 1 refl refl in
      let carried = x.looked [] net.main TheDone 1 v refl refl known in
      let (b, bit) = bit_is v carried.1 in
      ap (λ o. option_map_or (λ u. u.value == 1) o false) (whole_has the_source sound now seen.look seen.whole 0 (codes "done") v carried.0)
      ∙ ap (λ (u : BitVector). u.value == 1) bit ∙ of_bit b ∙ sym (ap (λ o. option_map_or is_true o false) known ∙ ap is_true bit)
    where
      of_bit : (b : Bool) → ((truth_bit b).value == 1) ≡ is_true (truth_bit b)
      of_bit true = refl
      of_bit false = refl

  seen_whole : (s : NetState) (kept : State) → StatesStand net net.main 0 s kept → (look : NetLook) → IsWholeLook (net_tree net) true s look → WholeText the_tree (running kept)
  seen_whole s kept stand look whole = whole_text net sound fit built (running kept) true s look stand refl whole

  done_in : (s : NetState) (kept : State) (stand : StatesStand net net.main 0 s kept) (look : NetLook) (whole : IsWholeLook (net_tree net) true s look) → text.is_done (seen_whole s kept stand look whole).look ≡ nets.is_done look
  done_in s kept stand look whole = same_done (running kept) true s look stand refl whole (seen_whole s kept stand look whole)

  runs_from : {s : NetState} {cycle left : ℕ} {o : Outcome} → NetRunsFrom (net_tree net) s cycle left o → (kept : State) → StatesStand net net.main 0 s kept → RunsFrom the_source kept cycle left o
  runs_from {s} {cycle} {left} (ends look whole done) kept stand =
      let w = seen_whole s kept stand look whole in
      subst (λ ws. RunsFrom the_source kept cycle left (DoneAt cycle ws)) (same_words s kept stand) (text.ends w.look w.whole (done_in s kept stand look whole ∙ done))
  runs_from {s} {cycle} (spent look whole done) kept stand = let w = seen_whole s kept stand look whole in text.spent w.look w.whole (done_in s kept stand look whole ∙ done)
  runs_from {s} {cycle} (goes_on look whole done rest) kept stand =
      let w = seen_whole s kept stand look whole in
      text.goes_on w.look w.whole (done_in s kept stand look whole ∙ done)
      (runs_from rest (state_after the_tree (running kept) w.look) (edge_carries net sound fit built (running kept) w.look w.whole false true s look stand refl refl whole))

  runs_as : Runs net
  runs_as memories last o fits (after_reset look whole rest) =
      let start : State = start_state the_source (words_loaded memories) in
      let stand = starts_stand net sound fit built memories fits in
      let w = whole_text net sound fit built (resetting start) false (net_start (net_tree net) (words_loaded memories)) look stand refl whole in
      text.after_reset w.look w.whole
      (runs_from rest (state_after the_tree (resetting start) w.look)
      (edge_carries net sound fit built (resetting start) w.look w.whole true false (net_start (net_tree net) (words_loaded memories)) look stand refl refl whole))

-- THE SOURCE RUNS AS THE NET
pub source_runs_as : (net : PlainNet) → IsFit net → HasNoHoles net → is_sound (source_of net) ≡ true → RunsAs net (source_of net)
source_runs_as net fits no_holes sound = record { sound = sound; runs = runs_as net sound (record { fits = fits; no_holes = no_holes }) each_is_built }
