-- An island has no number behind the samples of its static ifs.
use Rattle.std.proofs.Common.{◌≡◌, ℕ, zero, suc, ◌+◌, ◌≤◌, if◌then◌else◌, [], ◌∷◌, length, Option, Some, None, slice_get, refl, ap, ◌∙◌, arith}
use Rattle.std.proofs.lemmas.Bool.{le-ltb}
use Rattle.cx_meaning.specs.declared.kinds.GroupKind.{GroupKind}
use Rattle.cx_meaning.specs.declared.kinds.GroupKind.TheVariants as kinds
use Rattle.cx_meaning.specs.Designs.{PlainComponent, PlainDesign, PlainForm, Empty, Enable, Seq, Par, If, While, Repeat, StaticSeq, StaticPar, StaticIf, StaticRepeat, Timed, Placed, group_at}
use Rattle.cx_meaning.specs.Instances as instances
use Rattle.cx_meaning.specs.Instances.{Cells}
use Rattle.cx_meaning.specs.Islands.{group_length, kind_length, form_length}
use Rattle.cx_laws.specs.Samples.{form_ifs}
use Rattle.cx_control.specs.Codings.{Coding}
use Rattle.cx_control.specs.Controls.{kind_coding, coded_below}
use Rattle.cx_control.specs.ControlRules.{ControlRules}
use Rattle.cx_net.specs.NetMeaning.{NetState}
use Rattle.cx_static.specs.Islands.{PlainIsland}
use Rattle.cx_static.specs.Lowering.{island_of, island_gathered, begin_at, with_timer, Lowering, with_island, after_enable, lowered_enable, after, lowered_component, unlowered}
use Rattle.cx_wiring.proofs.IslandCells.{IsBefore}
use Rattle.cx_wiring_cycles.specs.IslandNumbers.{island_number, of_island}
use Rattle.cx_wiring_cycles.proofs.EntryLaws.{form_points}
use Rattle.cx_wiring_runs.proofs.NodeRules.{NodeRules}
use Rattle.cx_wiring_runs.proofs.NodeCells.{CellRules}
use Rattle.cx_wiring_runs.proofs.NodeTurns.{IslandsEnd}
use Rattle.cx_text.proofs.ListLaws.{get_end}

module _ (part : PlainComponent) (v : NetState) where
  -- the points of the island of a form
  points_are : (form : PlainForm) (l : Lowering) → length (island_gathered part form l.cells).points ≡ form_ifs form
  points_are form l =
      let e = form_points part form (begin_at 0 0 []) (with_timer part.place (form_length part form) None 0 (form_length part form) (record { cells = l.cells; timers = []; points = []; occurrences = [] })) in
      e ∙ omega arith

  number_past : (island : PlainIsland) (count first n : ℕ) → length island.points ≡ count → 2 + count ≤ n → island_number (lowered_component part).part.cells (λ c. v.cell (c ∷ [])) (v.register []) (Some island) first n ≡ 0
  number_past island count first zero e over = absurd (omega arith)
  number_past island count first (suc zero) e over = absurd (omega arith)
  number_past island count first (suc (suc n)) e over = ap (λ b. if b then v.register [] (first + n) else 0) (le-ltb n (length island.points) (omega (arith, e, over)))

  form_end : (form : PlainForm) (l : Lowering) → IsBefore (with_island part form l) (after part part.control (unlowered part)) → (first n : ℕ) → 2 + form_ifs form ≤ n → of_island part v first (length l.islands) n ≡ 0
  form_end form l stage first n over =
      let is : slice_get (lowered_component part).islands (length l.islands) ≡ Some (island_of (form_length part form) (island_gathered part form l.cells)) =
      stage.islands (length l.islands) (island_of (form_length part form) (island_gathered part form l.cells)) (get_end l.islands (island_of (form_length part form) (island_gathered part form l.cells))) in
      ap (λ o. island_number (lowered_component part).part.cells (λ c. v.cell (c ∷ [])) (v.register []) o first n) is
      ∙ number_past (island_of (form_length part form) (island_gathered part form l.cells)) (form_ifs form) first n (points_are form l) over

module _ (d : PlainDesign) (part : PlainComponent) (cells : Cells) (rules : NodeRules d (instances.Node part cells)) (own : CellRules (instances.Node part cells)) (control : ControlRules (instances.Node part cells)) (v : NetState) where
  -- a static group's numbers are those of an island
  timed_extra : (g : ℕ) (kind : GroupKind) (c : ℕ) → kind_length kind ≡ Some c → (n : ℕ) → Coding.extra (kind_coding (instances.Node part cells) (coded_below cells) g kind) ≤ n → 2 + form_ifs (Enable g) ≤ n
  timed_extra g kinds.Plain c is n over = absurd cc
  timed_extra g kinds.Comb c is n over = absurd cc
  timed_extra g (kinds.Timed m) c is n over = over

  -- BEHIND THE LAST there is none
  pub islands_end : IslandsEnd d part cells rules own control v
  islands_end (Placed Empty own_place) l untimed stage place lowers first n over = absurd cc
  islands_end (Placed (Enable g) own_place) l untimed stage place lowers first n over = by (group_length part g) refl stage lowers
    where
      by : (o : Option ℕ) → group_length part g ≡ o → IsBefore (after_enable part g o l) (after part part.control (unlowered part)) → Placed (lowered_enable part g o l) own_place ≡ Placed (Timed (length l.islands)) place
          → of_island part v first (length l.islands) n ≡ 0
      by None is b f = absurd cc
      by (Some c) is b f = form_end part v (Enable g) l b first n (timed_extra g (group_at part g).kind c is n over)
  islands_end (Placed (Seq parts) own_place) l untimed stage place lowers first n over = absurd cc
  islands_end (Placed (Par arms) own_place) l untimed stage place lowers first n over = absurd cc
  islands_end (Placed (If test comb a b) own_place) l untimed stage place lowers first n over = absurd cc
  islands_end (Placed (While test comb a) own_place) l untimed stage place lowers first n over = absurd cc
  islands_end (Placed (Repeat count a) own_place) l untimed stage place lowers first n over = absurd cc
  islands_end (Placed (StaticSeq written parts) own_place) l untimed stage place lowers first n over = form_end part v (StaticSeq written parts) l stage first n over
  islands_end (Placed (StaticPar written arms) own_place) l untimed stage place lowers first n over = form_end part v (StaticPar written arms) l stage first n over
  islands_end (Placed (StaticIf written test a b) own_place) l untimed stage place lowers first n over = form_end part v (StaticIf written test a b) l stage first n over
  islands_end (Placed (StaticRepeat written count a) own_place) l untimed stage place lowers first n over = form_end part v (StaticRepeat written count a) l stage first n over
  islands_end (Placed (Timed k) own_place) l untimed stage place lowers first n over = absurd (untimed k own_place refl)
