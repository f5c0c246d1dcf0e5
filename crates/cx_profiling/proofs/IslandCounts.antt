-- What islands, groups and calls count hangs on a set of cells alone.
use Rattle.std.proofs.Common.{◌≡◌, ℕ, zero, suc, Option, Some, None, List, [], refl, ap, ◌∙◌}
use Rattle.std.proofs.Math.Path.{fun_ext}
use Rattle.cx_meaning.specs.declared.ports.PortRef.TheVariants as ports
use Rattle.cx_meaning.specs.declared.ports.PlacedPort.{PlacedPort}
use Rattle.cx_meaning.specs.declared.kinds.GroupKind.{GroupKind}
use Rattle.cx_meaning.specs.declared.kinds.GroupKind.TheVariants as kinds
use Rattle.cx_meaning.specs.Designs.{PlainForm, Enable, group_at}
use Rattle.cx_meaning.specs.Instances.{Instance, cells_of, part_of, State, under}
use Rattle.cx_meaning.specs.Active.{Entry, nothing, group, entries}
use Rattle.cx_meaning.specs.Sights.{Held, seen}
use Rattle.cx_meaning.specs.Control.{groups_in}
use Rattle.cx_meaning.specs.Islands.{form_length, Occurrence, form_flat, History, no_history, active_in, and_now, island_turn}
use Rattle.cx_meaning.specs.Calls.{group_turn, called, inputs_of_call}
use Rattle.cx_rules.specs.Items.{Context, visit_parts, test_in}
use Rattle.cx_rules.specs.Circles.{IsAcyclic, AcyclicBelow}
use Rattle.cx_frames.specs.Agreeing.{Agree}
use Rattle.cx_frames.proofs.ControlFrames.{Holds}
use Rattle.cx_frames.proofs.RuleLemmas.{IsKept}
use Rattle.cx_frames.proofs.SightFrames.{InFrame, IsThrough}
use Rattle.cx_frames.proofs.LeafFrames.{called_drives, IsGood, group_seen, group_alike}
use Rattle.cx_frames.proofs.IslandFrames.{AllFine, AreSame, active_same, form_fine, island_alike, now_same}
use Rattle.cx_rewrites.specs.Tallies.{Tally, plus, below, island_count_from}
use Rattle.cx_profiling.specs.Counting.{made_with, ChildrenCount, count_island, count_call_or_turns, count_enable}
use Rattle.cx_profiling.proofs.CountFrames.{CountsAgree, both_counted, turn_counts, turns_counts}

module _ (i : Instance) (held : Held) (set : ℕ → Type 0) (kept : IsKept i) (through : IsThrough (part_of i) set) (deeper : AcyclicBelow (cells_of i)) where
  abbrev Good : ℕ → Type 0
  Good = IsGood i held set kept through deeper

  abbrev Same : History → History → Type 0
  Same = AreSame Good (InFrame set)

  module _ (bare : IsAcyclic i nothing) where
    module _ (list : List Occurrence) (fine : AllFine Good (InFrame set) list) (acyclic : (h : History) (t : ℕ) → IsAcyclic i (entries (active_in h t list))) where
      cycles_count : (made : List Entry → Tally) (left t : ℕ) (h k : History) (s s2 : State) (n : ℕ) → Same h k → Agree set s s2
          → island_count_from made i held list left t h s n ≡ island_count_from made i held list left t k s2 n
      cycles_count made zero t h k s s2 n same agree = refl
      cycles_count made (suc left) t h k s s2 zero same agree = refl
      cycles_count made (suc left) t h k s s2 (suc n) same agree =
          let one : History = and_now h t (seen i held nothing s) in
          let other : History = and_now k t (seen i held nothing s2) in
          let later : Same one other = now_same i held set kept through deeper bare list fine acyclic t h k s s2 same agree in
          turn_counts set (island_turn i held list t one s) (island_turn i held list t other s2)
          (λ after. plus (made (active_in one t list)) (island_count_from made i held list left (suc t) one after n))
          (λ after. plus (made (active_in other t list)) (island_count_from made i held list left (suc t) other after n))
          (island_alike i held set kept through deeper bare list fine acyclic t one other s s2 later agree)
          (λ a b more. both_counted (ap made (active_same Good (InFrame set) one other later t list fine)) (cycles_count made left (suc t) one other a b n later more))

    -- an island whose groups and tests are within the set
    pub island_counts : (P : PlainForm → Type 0) → ((form : PlainForm) (p : PlacedPort) → P form → test_in form ≡ Some p → InFrame set p.port)
        → (context : Context) (form : PlainForm) → P form → Holds Good P (groups_in form) (visit_parts context form)
        → ((h : History) (t : ℕ) → IsAcyclic i (entries (active_in h t (form_flat (part_of i) form 0 [])))) → CountsAgree set (count_island i held form)
    island_counts P tests context form p holds acyclic s s2 n agree =
        cycles_count (form_flat (part_of i) form 0 []) (form_fine Good (InFrame set) P tests (part_of i) context form 0 [] p holds tt) acyclic
        (λ es. made_with (entries es)) (form_length (part_of i) form) 0 no_history no_history s s2 n (λ port at inside. refl) agree

  -- groups and calls
  module _ (counts : ChildrenCount) (g : ℕ) (good : Good g) where
    call_counts : (c : ℕ) → set c → CountsAgree set (count_call_or_turns i counts held g (Some c))
    call_counts c inside s t n h =
        let inputs : inputs_of_call i held g c s ≡ inputs_of_call i held g c t =
        fun_ext (λ input. group_seen i held set kept through deeper g good s t h (ports.Cell c (suc input)) inside) in
        let lower : under c s ≡ under c t = fun_ext (λ path. h c path inside) in
        ap (λ x. below c (counts c x (under c s) n)) inputs ∙ ap (λ x. below c (counts c (inputs_of_call i held g c t) x n)) lower

    called_counts : (o : Option ℕ) → called i g ≡ o → CountsAgree set (count_call_or_turns i counts held g o)
    called_counts None e s t n h = turns_counts set (group_turn i held g) (made_with (group g)) (group_alike i held set kept through deeper g good) s t n h
    called_counts (Some c) e s t n h = call_counts c (good.within.drives c (called_drives (cells_of i) (group_at (part_of i) g).assigns c e)) s t n h

    pub enable_counts : (kind : GroupKind) → CountsAgree set (count_island i held (Enable g)) → CountsAgree set (count_enable i counts held g kind)
    enable_counts kinds.Plain f s t n h = called_counts (called i g) refl s t n h
    enable_counts kinds.Comb f s t n h = called_counts (called i g) refl s t n h
    enable_counts (kinds.Timed length) f s t n h = f s t n h
