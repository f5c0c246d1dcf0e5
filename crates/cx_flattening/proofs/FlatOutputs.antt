-- WHAT OUTPUTS ARE SEEN AS: those of an instance whose cells stand in a host are seen there as in the instance, whatever acts.
use Rattle.std.proofs.Common.{◌≡◌, ℕ, zero, suc, ◌+◌, ◌<◌, inl, true, false, [], ◌∷◌, ◌++◌, length, map, Some, None, refl, sym, ap, ◌∙◌, subst, arith}
use Rattle.std.proofs.lemmas.List.{length-append}
use Rattle.cx_prim.specs.Rows.{Row}
use Rattle.cx_meaning.specs.declared.ports.PortRef.{PortRef}
use Rattle.cx_meaning.specs.declared.ports.PortRef.TheVariants as ports
use Rattle.cx_meaning.specs.declared.sights.Seen.{Seen}
use Rattle.cx_meaning.specs.declared.sights.Seen.TheVariants as sights
use Rattle.cx_meaning.specs.Designs.{PlainComponent}
use Rattle.cx_meaning.specs.Instances.{Instance, Node, Cells, no_cells, a_primitive, an_instance, OfRow, OfInstance, part_of, cells_of, cell_at, State, under}
use Rattle.cx_meaning.specs.Active.{Active, nothing, owned, owned_by_groups, by_place, acting, drivers}
use Rattle.cx_meaning.specs.Sights.{Held, unheld, part_port, later_port, is_done_cell, cell_step, target_seen, Given, gather_port, output_seen, Sees, seen, outputs_below}
use Rattle.cx_meaning.proofs.InstancesLemmas.{row_instance}
use Rattle.cx_rules.specs.Circles.{IsAcyclic, AcyclicBelow}
use Rattle.cx_rules.proofs.CirclesLemmas.{cells_below, own_acyclic}
use Rattle.cx_rules.proofs.FoundLemmas.{seen_solves}
use Rattle.cx_rewrites.specs.Moving.{moved_acting}
use Rattle.cx_flattening.specs.Whole.{is_static}
use Rattle.cx_flattening.specs.Flattened.{Kids, kid_at, kept_at, block_size, start_of, wire_at, flat_part, flat_kids, own_port, child_port}
use Rattle.cx_flattening.specs.Targets.{OwnTarget, BlockTarget}
use Rattle.cx_flattening.specs.Embedded.{IsLike, wire_row, HasWires, IsEmbedded, Stands}
use Rattle.cx_flattening.specs.Levels.{IsKnown, IsLevel, IsBase, IsHosted, OutputsSeen}
use Rattle.cx_flattening.specs.Fair.{IsNamed, IsFair, AllFair, AllFairBelow}
use Rattle.cx_flattening.proofs.Placing.{kept_less}
use Rattle.cx_flattening.proofs.PortLemmas.{own-kept}
use Rattle.cx_flattening.proofs.FlatDrivers.{own_drivers, idle_drivers}
use Rattle.cx_flattening.proofs.StillPorts.{own_still, block_still}
use Rattle.cx_flattening.proofs.MovedTwice.{moved_twice, moved_still}
use Rattle.cx_flattening.proofs.Standing.{TwinAt, embedded_row, embedded_static, embedded_dynamic, stands_row, stands_static, stands_dynamic, wire_there, in_flat_cells, within_child, acyclic_child}
use Rattle.cx_flattening.proofs.RestingPorts.{Resting, an_output, at_rest, is_read, none_drives, resting_closed}
use Rattle.cx_flattening.proofs.LevelSights.{kid-static, kid-dynamic, flat-inputs, flat-outputs, level_seen}
use Rattle.cx_flattening.specs.Flattened.{kept, blocks}
use Rattle.cx_meaning.proofs.SightsLemmas.{outputs_at}

-- a wire gives what it is given
pub wire_gives : (host : Instance) (held : Held) (more : Active) (z : State) → IsAcyclic host more → AcyclicBelow (cells_of host) → (w width : ℕ) → cell_at (cells_of host) w ≡ OfRow (wire_row width)
    → seen host held more z (ports.Cell w 1) ≡ seen host held more z (ports.Cell w 0)
wire_gives host held more z acyclic deeper w width at =
    seen_solves host held more z acyclic deeper (ports.Cell w 1)
    ∙ ap (cell_step (part_of host) more z (seen host held more z) (outputs_below (cells_of host) (λ c. under c z)) w 1) at
    ∙ by_value (seen host held more z (ports.Cell w 0))
  where
    -- an output over one input that is read
    by_value : (x : Seen) → output_seen (λ inputs. (wire_row width).output (z (w ∷ [])) inputs 1) (gather_port true 0 x (Given (None ∷ []))) ≡ x
    by_value (sights.Value b) = refl
    by_value sights.Conflict = refl
    by_value sights.Undefined = refl

-- components of one signature have the same ports
pub ports_like : (a b : PlainComponent) → a.inputs ≡ b.inputs → a.outputs ≡ b.outputs → (p : ℕ) → part_port a p ≡ part_port b p
ports_like a b e f zero = refl
ports_like a b e f (suc n) = ap (λ i. later_port (length i) (length a.outputs) n) e ∙ ap (λ o. later_port (length b.inputs) (length o) n) f

pub drivers_like : (a b : PlainComponent) → IsLike a b → (act : Active) (p : PortRef) → drivers a act p ≡ drivers b act p
drivers_like a b like act p =
    ap (λ l. acting act p (by_place (owned None l ++ owned_by_groups 0 a.groups))) like.always ∙ ap (λ l. acting act p (by_place (owned None b.always ++ owned_by_groups 0 l))) like.groups

-- the twin of a dynamic child is a host of its own
pub twin_hosted : (twin child : Instance) (s z : State) → IsAcyclic twin nothing → AcyclicBelow (cells_of twin) → IsLike (part_of twin) (flat_part child) → IsEmbedded child 0 (cells_of twin) → Stands child 0 s z
    → IsHosted twin unheld nothing z child 0 (λ q. q) s
twin_hosted twin child s z acyclic deeper like embedded stands = record {
  base = record {
    cells = λ e p. ap (λ k. ports.Cell k p) (zero_plus e);
    literals = λ w v. refl;
    drives = λ q there still. drivers_like (part_of twin) (flat_part child) like nothing q ∙ sym (moved_still (drivers (flat_part child) nothing q));
    embedded = embedded;
    stands = stands;
  };
  outputs = λ n less. seen_solves twin unheld nothing z acyclic deeper (ports.Output n);
  quiet = λ e less. refl;
}
  where
    zero_plus : (a : ℕ) → a ≡ 0 + a
    zero_plus a = omega arith

module _ (part : PlainComponent) (cells : Cells) (fair : IsFair (Node part cells)) (below : (c : ℕ) (child : Instance) → cell_at cells c ≡ OfInstance child → OutputsSeen child) where
  abbrev kids : Kids
  kids = flat_kids cells

  pub resting_known : (p : PortRef) → Resting (Node part cells) p → IsKnown (Node part cells) p
  resting_known p (an_output less) = tt
  resting_known p (at_rest rests leads named) = known p named
    where
      known : (q : PortRef) → IsNamed (Node part cells) q → IsKnown (Node part cells) q
      known (ports.Cell c n) h = h
      known (ports.Input n) h = tt
      known (ports.Output n) h = tt
      known (ports.Done g) h = tt
      known (ports.Literal w v) h = tt
  resting_known p (is_read m row at side reads rests leads less) = (less, λ child e static. absurd (row_instance row child (sym at ∙ e)))

  -- no input and no hole is among them, and of the outputs those that are there
  pub no_input : (n : ℕ) → Resting (Node part cells) (ports.Input n) → ⊥
  no_input n (at_rest rests leads named) = leads (n, inl refl)

  pub no_hole : (g : ℕ) → Resting (Node part cells) (ports.Done g) → ⊥
  no_hole g (at_rest rests leads named) = named

  pub an_output_there : (n : ℕ) → Resting (Node part cells) (ports.Output n) → n < length part.outputs
  an_output_there n (an_output less) = less
  an_output_there n (at_rest rests leads named) = absurd named

  pub block_target : (p : PortRef) → Resting (Node part cells) p → OwnTarget kids part p → BlockTarget (flat_part (Node part cells)) (own_port kids part p)
  block_target (ports.Cell c p) rest own =
      subst (BlockTarget (flat_part (Node part cells))) (sym (own-kept kids part c p own.1))
      (let less = kept_less kids part.cells c own.0 own.1 in let all = length-append (kept kids part.cells) (blocks kids part.cells) in omega (arith, less, all))
  block_target (ports.Input n) rest own = absurd own
  block_target (ports.Output n) rest own = an_output_there n rest
  block_target (ports.Done g) rest own = absurd (no_hole g rest)
  block_target (ports.Literal w v) rest own = absurd own

  module _ (host : Instance) (held : Held) (more : Active) (z : State) (acyclic : IsAcyclic host more) (deeper : AcyclicBelow (cells_of host)) (first : ℕ) (f : PortRef → PortRef) (s : State)
      (base : IsBase host held more z (Node part cells) first f s) where
    zero_plus : (a : ℕ) → 0 + a ≡ a
    zero_plus a = omega arith

    sum : (a b c : ℕ) → a + (b + c) ≡ a + b + c
    sum a b c = omega arith

    pub outputs_there : (c n : ℕ) (child : Instance) → cell_at cells c ≡ OfInstance child → is_static child ≡ false → n < length (part_of child).outputs → (x : Seen) → Sees child unheld nothing (under c s) (ports.Output n) x
        → outputs_below (cells_of host) (λ e. under e z) (first + kept_at kids c) n ≡ x
    outputs_there c n child at dynamic less x sees =
        let r = subst (TwinAt kids part first (cells_of host) child) (zero_plus c) (embedded_dynamic kids part first (cells_of host) cells 0 c child base.embedded at dynamic) in
        let z_at = subst (λ k. Stands child 0 (under k s) (under (first + kept_at kids k) z)) (zero_plus c) (stands_dynamic kids part first s z cells 0 c child base.stands at dynamic) in
        let calm = acyclic_child (cells_of host) (first + kept_at kids c) r.0 deeper r.1 in
        outputs_at (cells_of host) (λ e. under e z) (first + kept_at kids c) n r.0 r.1
        ∙ below c child at r.0 unheld nothing (under (first + kept_at kids c) z) (own_acyclic r.0 calm) (cells_below r.0 calm) 0 (λ q. q) (under c s)
        (twin_hosted r.0 child (under c s) (under (first + kept_at kids c) z) (own_acyclic r.0 calm) (cells_below r.0 calm) r.2 r.3 z_at) n x less sees

    module _ (c : ℕ) (child : Instance) (at : cell_at cells c ≡ OfInstance child) (static : is_static child ≡ true) (there : c < length part.cells)
        (calm : (e : ℕ) → e < block_size (Some (flat_part child)) → is_done_cell more.done_cell (first + (start_of kids part c + e)) ≡ false) where
      abbrev kid : PlainComponent
      kid = flat_part child

      abbrev move : PortRef → PortRef
      move = child_port kids part kid c (λ n. ports.Input n)

      its : kid_at kids c ≡ Some kid
      its = kid-static cells c child at static

      stood : IsEmbedded child (first + start_of kids part c) (cells_of host) × HasWires (part_of child).outputs (first + wire_at kids part kid c 0) (cells_of host)
      stood = subst (λ k. IsEmbedded child (first + start_of kids part k) (cells_of host) × HasWires (part_of child).outputs (first + wire_at kids part kid k 0) (cells_of host)) (zero_plus c) (embedded_static kids part first (cells_of host) cells 0 c child base.embedded at static)

      wire_is : (n : ℕ) → n < length (part_of child).outputs → (width : ℕ) × (cell_at (cells_of host) (first + wire_at kids part kid c n) ≡ OfRow (wire_row width))
      wire_is n less =
          let r = wire_there (part_of child).outputs (first + wire_at kids part kid c 0) n (cells_of host) stood.1 less in
          (r.0, ap (cell_at (cells_of host)) (shifted (start_of kids part c + length kid.cells)) ∙ r.1)
        where
          shifted : (a : ℕ) → first + (a + n) ≡ first + (a + 0) + n
          shifted a = omega arith

      pub inside : (q : PortRef) → BlockTarget kid q → BlockTarget (flat_part (Node part cells)) (move q)
      inside (ports.Cell e p) less = in_flat_cells kids part c e kid there its (omega (arith, less))
      inside (ports.Input n) less = absurd less
      inside (ports.Output n) less =
          let all = in_flat_cells kids part c (length kid.cells + n) kid there its (omega (arith, less)) in
          omega (arith, all)
      inside (ports.Done g) less = absurd less
      inside (ports.Literal w v) less = absurd less

      -- the child stands there too
      pub child_hosted : IsHosted host held more z child (first + start_of kids part c) (λ q. f (move q)) (under c s)
      child_hosted = record {
        base = record {
          cells = λ e p. base.cells (start_of kids part c + e) p ∙ ap (λ k. ports.Cell k p) (sum first (start_of kids part c) e);
          literals = base.literals;
          drives = λ q target still.
              base.drives (move q) (inside q target) (block_still kids part fair.targets (flat_part (Node part cells)) refl c kid its (λ n. ports.Input n) q target still)
              ∙ ap (map (moved_acting f)) (idle_drivers kids part fair.targets nothing (flat_part (Node part cells)) refl refl c kid its [] nothing
              (record { unfed = refl; none_below = refl; still = λ g. refl; copies = λ j g is u. refl }) (λ n. ports.Input n) q target)
              ∙ moved_twice f move (drivers kid nothing q);
          embedded = stood.0;
          stands = subst (λ k. Stands child (first + start_of kids part k) (under k s) z) (zero_plus c) (stands_static kids part first s z cells 0 c child base.stands at static);
        };
        outputs = λ n less.
            let w = wire_is n less in
            ap (seen host held more z) (base.cells (wire_at kids part kid c n) 0)
            ∙ seen_solves host held more z acyclic deeper (ports.Cell (first + wire_at kids part kid c n) 0)
            ∙ ap (cell_step (part_of host) more z (seen host held more z) (outputs_below (cells_of host) (λ k. under k z)) (first + wire_at kids part kid c n) 0) w.1
            ∙ ap (λ q. target_seen sights.Undefined (seen host held more z) (drivers (part_of host) more q)) (sym (base.cells (wire_at kids part kid c n) 0));
        quiet = λ e less. ap (is_done_cell more.done_cell) (sym (sum first (start_of kids part c) e)) ∙ calm e (omega (arith, less));
      }

      pub wire_seen : (n : ℕ) (x : Seen) → n < length (part_of child).outputs → Sees child unheld nothing (under c s) (ports.Output n) x → seen host held more z (ports.Cell (first + wire_at kids part kid c n) 1) ≡ x
      wire_seen n x less sees =
          let w = wire_is n less in
          wire_gives host held more z acyclic deeper (first + wire_at kids part kid c n) w.0 w.1
          ∙ ap (seen host held more z) (sym (base.cells (wire_at kids part kid c n) 0))
          ∙ below c child at host held more z acyclic deeper (first + start_of kids part c) (λ q. f (move q)) (under c s) child_hosted n x less sees

    pub rows_there : (c : ℕ) (row : Row) → cell_at cells c ≡ OfRow row → cell_at (cells_of host) (first + kept_at kids c) ≡ OfRow row
    rows_there c row at = ap (λ k. cell_at (cells_of host) (first + kept_at kids k)) (sym (zero_plus c)) ∙ embedded_row kids part first (cells_of host) cells 0 c row base.embedded at

    pub states_there : (c : ℕ) (row : Row) → cell_at cells c ≡ OfRow row → z ((first + kept_at kids c) ∷ []) ≡ s (c ∷ [])
    states_there c row at = subst (λ k. z ((first + kept_at kids k) ∷ []) ≡ s (k ∷ [])) (zero_plus c) (stands_row kids part first s z cells 0 c row base.stands at)

    pub twins_there : (c : ℕ) (child : Instance) → cell_at cells c ≡ OfInstance child → is_static child ≡ false
        → (twin : Instance) × (cell_at (cells_of host) (first + kept_at kids c) ≡ OfInstance twin) × ((p : ℕ) → part_port (part_of child) p ≡ part_port (part_of twin) p)
    twins_there c child at dynamic =
        let r = subst (TwinAt kids part first (cells_of host) child) (zero_plus c) (embedded_dynamic kids part first (cells_of host) cells 0 c child base.embedded at dynamic) in
        (r.0, r.1, λ p. ports_like (part_of child) (part_of r.0) (sym (r.2.inputs ∙ flat-inputs child)) (sym (r.2.outputs ∙ flat-outputs child)) p)

    pub kept_inside : (c : ℕ) → c < length part.cells → kid_at kids c ≡ None → kept_at kids c < length (flat_part (Node part cells)).cells
    kept_inside c less e =
        let inside = kept_less kids part.cells c less e in
        let all = length-append (kept kids part.cells) (blocks kids part.cells) in
        omega (arith, inside, all)

    module _ (outputs : (n : ℕ) → n < length part.outputs → seen host held more z (f (ports.Output n)) ≡ target_seen sights.Undefined (seen host held more z) (drivers (part_of host) more (f (ports.Output n))))
        (quiet : (e : ℕ) → e < length (flat_part (Node part cells)).cells → is_done_cell more.done_cell (first + e) ≡ false) where
      level : IsLevel host held more z (Node part cells) first f unheld nothing s (Resting (Node part cells))
      level = record {
        counts = fair.counts;
        known = resting_known;
        closed = resting_closed (Node part cells) fair nothing;
        cells = base.cells;
        literals = base.literals;
        drives = λ p rest own.
            base.drives (own_port kids part p) (block_target p rest own) (own_still kids part fair.targets (flat_part (Node part cells)) refl p own (none_drives (Node part cells) fair p rest own))
            ∙ ap (map (moved_acting f)) (own_drivers kids part fair.targets nothing (flat_part (Node part cells)) refl refl nothing p own (λ g less. refl));
        inputs = λ n rest. absurd (no_input n rest);
        outputs = λ n rest. outputs n (an_output_there n rest);
        holes = λ g rest. absurd (no_hole g rest);
        rows = rows_there;
        states = states_there;
        children = twins_there;
        gives = λ c n child x at dynamic less sees. outputs_there c n child at dynamic less x sees;
        dones = λ c child at dynamic. quiet (kept_at kids c) (kept_inside c (within_child (Node part cells) fair c child at) (kid-dynamic cells c child at dynamic));
        wires = λ c n child x at static less sees.
            wire_seen c child at static (within_child (Node part cells) fair c child at)
            (λ e inner. quiet (start_of kids part c + e) (in_flat_cells kids part c e (flat_part child) (within_child (Node part cells) fair c child at) (kid-static cells c child at static) inner)) n x less sees;
      }

      pub output_seen_there : (n : ℕ) (x : Seen) → n < length part.outputs → Sees (Node part cells) unheld nothing s (ports.Output n) x → seen host held more z (f (ports.Output n)) ≡ x
      output_seen_there n x less sees =
          level_seen host held more z acyclic deeper (Node part cells) first f unheld nothing s (Resting (Node part cells)) level (ports.Output n) x (an_output less) sees

mutual
  pub outputs_seen : (i : Instance) → AllFair i → OutputsSeen i
  outputs_seen (Node part cells) fair host held more z acyclic deeper first f s hosted n x less sees =
      output_seen_there part cells fair.0 (kids_seen cells fair.1) host held more z acyclic deeper first f s hosted.base hosted.outputs hosted.quiet n x less sees

  pub kids_seen : (cells : Cells) → AllFairBelow cells → (c : ℕ) (child : Instance) → cell_at cells c ≡ OfInstance child → OutputsSeen child
  kids_seen no_cells fair c child e = absurd (cc)
  kids_seen (a_primitive row rest) fair zero child e = absurd (cc)
  kids_seen (a_primitive row rest) fair (suc c) child e = kids_seen rest fair c child e
  kids_seen (an_instance other rest) fair zero child e = let same : other ≡ child = cc in subst OutputsSeen same (outputs_seen other fair.0)
  kids_seen (an_instance other rest) fair (suc c) child e = kids_seen rest fair.1 c child e
