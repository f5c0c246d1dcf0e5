-- THE FLAT INSTANCE sees and does in a cycle what the tree sees and does.
use Rattle.std.proofs.Common.{◌≡◌, ℕ, ◌+◌, ◌<◌, false, List, length, Option, Some, None, nat_eq, refl, sym, ap, ◌∙◌, arith}
use Rattle.std.proofs.lemmas.Bool.{ne_eqb}
use Rattle.cx_meaning.specs.declared.ports.PortRef.{PortRef}
use Rattle.cx_meaning.specs.declared.ports.PortRef.TheVariants as ports
use Rattle.cx_meaning.specs.Designs.{PlainComponent}
use Rattle.cx_meaning.specs.Instances.{Instance, Node, Cells, part_of, cells_of, State}
use Rattle.cx_meaning.specs.Active.{Active, drivers}
use Rattle.cx_meaning.specs.Sights.{Held, is_done_cell, seen}
use Rattle.cx_meaning.specs.Cycles.{first_fault, outcome_of, state_after, unless_fault, Ended, Goes, Faults, every_cell, cycle}
use Rattle.cx_rules.specs.Circles.{IsAcyclic, AcyclicBelow}
use Rattle.cx_rules.proofs.FoundLemmas.{seen_solves}
use Rattle.cx_flattening.specs.Deeds.{Deed}
use Rattle.cx_flattening.specs.Whole.{whole_cycle}
use Rattle.cx_flattening.specs.Flattened.{Kids, kid_at, kept_at, start_of, flat_part, flat_kids}
use Rattle.cx_flattening.specs.Levels.{IsKnown, own_of, Asked, IsPlayed}
use Rattle.cx_flattening.specs.Seeing.{CellsSeen}
use Rattle.cx_flattening.specs.FlatFaults.{EndsAs, CycleAs}
use Rattle.cx_flattening.specs.Beside.{kept_done, IsBeside}
use Rattle.cx_flattening.proofs.Placing.{kept_less, kept_apart}
use Rattle.cx_flattening.proofs.MovedTwice.{moved_still}
use Rattle.cx_flattening.proofs.LevelSights.{kid-dynamic}
use Rattle.cx_flattening.proofs.FlatOutputs.{drivers_like, kids_seen}
use Rattle.cx_flattening.proofs.FlatSights.{played_found}
use Rattle.cx_flattening.proofs.FlatChildren.{own_acts}
use Rattle.cx_flattening.proofs.FlatSeen.{cells_seen}
use Rattle.cx_flattening.proofs.FlatCycles.{cycle_told}
use Rattle.cx_flattening.proofs.FlatSafe.{flat_acyclic}
use Rattle.cx_flattening.proofs.FlatDeeper.{flat_deeper}

abbrev pub all_numbers : ℕ → Type 0
all_numbers n = Unit {0}

-- the done of a called cell is that of the cell where it stands, and of no cell of a block
done_kept : (kids : Kids) (done : Option ℕ) (c : ℕ) → ((d : ℕ) → done ≡ Some d → kid_at kids d ≡ None) → kid_at kids c ≡ None → is_done_cell (kept_done kids done) (0 + kept_at kids c) ≡ is_done_cell done c
done_kept kids None c its e = refl
done_kept kids (Some d) c its e = ap (nat_eq (kept_at kids d)) (zero_plus (kept_at kids c)) ∙ kept_apart kids d c (its d refl) e
  where
    zero_plus : (a : ℕ) → 0 + a ≡ a
    zero_plus a = omega arith

done_quiet : (kids : Kids) (part : PlainComponent) (done : Option ℕ) (c e : ℕ) → ((d : ℕ) → done ≡ Some d → (d < length part.cells) × (kid_at kids d ≡ None)) → is_done_cell (kept_done kids done) (0 + (start_of kids part c + e)) ≡ false
done_quiet kids part None c e its = refl
done_quiet kids part (Some d) c e its =
    let h = its d refl in
    let less = kept_less kids part.cells d h.0 h.1 in
    ne_eqb (kept_at kids d) (0 + (start_of kids part c + e)) (λ same. omega (arith, less, same))

module _ (part : PlainComponent) (cells : Cells) (flat : Instance) (held : Held) (act more : Active) (deeds : List Deed) (s z : State) (beside : IsBeside (Node part cells) flat act more deeds s z) where
  abbrev kids : Kids
  kids = flat_kids cells

  acyclic : IsAcyclic flat more
  acyclic = flat_acyclic (Node part cells) flat beside.flattened beside.fair act more deeds beside.acts beside.no_circle

  deeper : AcyclicBelow (cells_of flat)
  deeper = flat_deeper (Node part cells) flat beside.flattened beside.fair act deeds beside.no_circle

  played : IsPlayed flat held more z (Node part cells) 0 (λ q. q) held act more s all_numbers all_numbers all_numbers
  played = record {
    cells = λ e p. ap (λ k. ports.Cell k p) (zero_plus e);
    literals = λ w v. refl;
    drives = λ q h. drivers_like (part_of flat) (flat_part (Node part cells)) beside.flattened.0 more q ∙ sym (moved_still (drivers (flat_part (Node part cells)) more q));
    acts = own_acts (Node part cells) act deeds more beside.acts;
    held_there = λ n h. seen_solves flat held more z acyclic deeper (ports.Input n);
    given = λ n h. seen_solves flat held more z acyclic deeper (ports.Output n);
    ended = λ g h. seen_solves flat held more z acyclic deeper (ports.Done g);
    all_outputs = λ n h. tt;
    named = λ o k n j active names. tt;
    dones = λ c child at dynamic.
        ap (λ o. is_done_cell o (0 + kept_at kids c)) beside.done ∙ done_kept kids act.done_cell c (λ d e. (beside.kept d e).1) (kid-dynamic cells c child at dynamic);
    quiet = λ c e kid its less. ap (λ o. is_done_cell o (0 + (start_of kids part c + e))) beside.done ∙ done_quiet kids part act.done_cell c e beside.kept;
    embedded = beside.flattened.1;
    stands = beside.stands;
  }
    where
      zero_plus : (a : ℕ) → a ≡ 0 + a
      zero_plus a = omega arith

  asked : (p : PortRef) → IsKnown (Node part cells) p → Asked (Node part cells) all_numbers all_numbers all_numbers p
  asked (ports.Cell c p) known = known
  asked (ports.Input n) known = tt
  asked (ports.Output n) known = tt
  asked (ports.Done g) known = tt
  asked (ports.Literal w v) known = tt

  top_seen : (p : PortRef) → IsKnown (Node part cells) p → seen flat held more z (own_of (Node part cells) p) ≡ seen (Node part cells) held act s p
  top_seen p known =
      played_found part cells beside.fair.0 (kids_seen cells beside.fair.1) flat held more z acyclic deeper 0 (λ q. q) held act more s all_numbers all_numbers all_numbers played
      beside.no_circle.0 beside.no_circle.1 p (asked p known)

  top_cells : CellsSeen (seen flat held more z) (Node part cells) 0 held act deeds s
  top_cells =
      cells_seen flat held more z acyclic deeper (Node part cells) beside.fair 0 (λ q. q) held act more s all_numbers all_numbers all_numbers played deeds beside.acts beside.no_circle
      (λ d sources e n less. tt)

  top_cycle : CycleAs (Node part cells) (whole_cycle (Node part cells) held act deeds s) (cycle flat held more z)
  top_cycle = choice (whole_cycle (Node part cells) held act deeds s) (cycle_told (cells_of flat) (seen flat held more z) z (Node part cells) beside.fair 0 held act deeds s top_cells beside.flattened.1 beside.stands)
    where
      choice : (x : Ended) → EndsAs (Node part cells) 0 (outcome_of every_cell (seen flat held more z) (cells_of flat) z) z (length (flat_part (Node part cells)).cells) x → CycleAs (Node part cells) x (cycle flat held more z)
      choice (Goes after) h = (
        state_after (outcome_of every_cell (seen flat held more z) (cells_of flat) z) z,
        ap (λ n. unless_fault (first_fault (outcome_of every_cell (seen flat held more z) (cells_of flat) z) 0 n) (state_after (outcome_of every_cell (seen flat held more z) (cells_of flat) z) z)) beside.flattened.2
            ∙ ap (λ f. unless_fault f (state_after (outcome_of every_cell (seen flat held more z) (cells_of flat) z) z)) h.0,
        h.1,
      )
      choice (Faults f) h =
          ap (λ n. unless_fault (first_fault (outcome_of every_cell (seen flat held more z) (cells_of flat) z) 0 n) (state_after (outcome_of every_cell (seen flat held more z) (cells_of flat) z) z)) beside.flattened.2
          ∙ ap (λ f. unless_fault f (state_after (outcome_of every_cell (seen flat held more z) (cells_of flat) z) z)) h

pub top_played : (i flat : Instance) (held : Held) (act more : Active) (deeds : List Deed) (s z : State) → IsBeside i flat act more deeds s z → IsPlayed flat held more z i 0 (λ q. q) held act more s all_numbers all_numbers all_numbers
top_played (Node part cells) flat held act more deeds s z beside = played part cells flat held act more deeds s z beside

-- EACH PORT of the caller is seen in the flat instance as in the tree
pub flat_seen : (i flat : Instance) (held : Held) (act more : Active) (deeds : List Deed) (s z : State) (p : PortRef) → IsBeside i flat act more deeds s z → IsKnown i p → seen flat held more z (own_of i p) ≡ seen i held act s p
flat_seen (Node part cells) flat held act more deeds s z p beside known = top_seen part cells flat held act more deeds s z beside p known

-- and each port of each cell, of static children too
pub flat_cells_seen : (i flat : Instance) (held : Held) (act more : Active) (deeds : List Deed) (s z : State) → IsBeside i flat act more deeds s z → CellsSeen (seen flat held more z) i 0 held act deeds s
flat_cells_seen (Node part cells) flat held act more deeds s z beside = top_cells part cells flat held act more deeds s z beside

-- A CYCLE of the flat instance is one of the tree
pub flat_cycle : (i flat : Instance) (held : Held) (act more : Active) (deeds : List Deed) (s z : State) → IsBeside i flat act more deeds s z → CycleAs i (whole_cycle i held act deeds s) (cycle flat held more z)
flat_cycle (Node part cells) flat held act more deeds s z beside = top_cycle part cells flat held act more deeds s z beside
