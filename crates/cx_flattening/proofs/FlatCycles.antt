-- A CYCLE: the cells of a host, among which those of a tree stand, end a cycle as the tree does, where what is seen of them is the same.
use Rattle.std.proofs.Common.{◌≡◌, ℕ, zero, suc, ◌+◌, ◌<◌, ◌≤◌, inl, inr, ⊎_elim, Bool, true, false, List, [], ◌∷◌, length, Option, Some, None, refl, sym, ap, ◌∙◌, subst, arith}
use Rattle.std.proofs.lemmas.List.{length-append}
use Rattle.std.proofs.Math.Path.{fun_ext}
use Rattle.std.specs.Prelude.{◌⊎◌, if◌then◌else◌}
use Rattle.std.proofs.lemmas.Bool.{cases_eq, cases_lt}
use Rattle.cx_prim.specs.CellStates.{CellState}
use Rattle.cx_prim.specs.Rows.{Row}
use Rattle.cx_meaning.specs.declared.kinds.PortDecl.{PortDecl}
use Rattle.cx_meaning.specs.declared.ports.PortRef.{PortRef}
use Rattle.cx_meaning.specs.declared.ports.PortRef.TheVariants as ports
use Rattle.cx_meaning.specs.declared.sights.Seen.{Seen}
use Rattle.cx_meaning.specs.Designs.{PlainCell, PlainComponent}
use Rattle.cx_meaning.specs.Instances.{Instance, Node, Cells, no_cells, a_primitive, an_instance, OfRow, OfInstance, part_of, cell_at, cell_count, Path, State, beneath, put, under}
use Rattle.cx_meaning.specs.Active.{Active, entries}
use Rattle.cx_meaning.specs.Sights.{Look, Held, seen, gather}
use Rattle.cx_meaning.specs.Cycles.{Fault, fault_at, Outcome, Next, Stops, enables, after_enabling, cell_outcome, outcome_at, outcome_of, first_of, first_fault, stepped, state_after, Ended, Goes, Faults, unless_fault, every_cell, cycle}
use Rattle.cx_meaning.proofs.InstancesLemmas.{just_same, not_just, row_instance}
use Rattle.cx_meaning.proofs.CycleLemmas.{state_after-same}
use Rattle.cx_flattening.specs.Deeds.{Deed, own_entries, deeds_below, held_below, or_later}
use Rattle.cx_flattening.specs.Whole.{is_static, with_child, child_if, whole_cycle, cycles_below}
use Rattle.cx_flattening.specs.Flattened.{Kids, kid_at, kid_if, kept_if, kept, behind, kept_at, block, blocks, flat_cells, block_size, block_at, start_of, wire_at, flat_part, flat_kids}
use Rattle.cx_flattening.specs.Embedded.{HasWires, IsEmbedded, AreEmbedded, Stands, AllStand}
use Rattle.cx_flattening.specs.Fair.{AllFair, AllFairBelow}
use Rattle.cx_flattening.specs.Seeing.{CellsSeen, AllSeen}
use Rattle.cx_flattening.specs.FlatFaults.{spot_if, flat_spot, spot_in, at_spot, flat_fault, EndsAs}
use Rattle.cx_flattening.specs.Sampling.{placed}
use Rattle.cx_flattening.proofs.PortLemmas.{own-kept}
use Rattle.cx_flattening.proofs.FirstFaults.{first_split}
use Rattle.cx_flattening.proofs.Standing.{TwinAt, embedded_row, embedded_dynamic, stands_row, stands_dynamic, length-block}
use Rattle.cx_flattening.proofs.LevelSights.{kid-row, kid-static, kid-dynamic, flat-outputs}

-- NUMBERS of cells
kept-zero : (kids : Kids) → kept_at kids 0 ≡ 0
kept-zero [] = refl
kept-zero (k ∷ ks) = refl

behind-both : (x y : Option PlainComponent) (n : ℕ) → behind x (behind y n) ≡ behind y (behind x n)
behind-both None None n = refl
behind-both None (Some b) n = refl
behind-both (Some a) None n = refl
behind-both (Some a) (Some b) n = refl

kept-suc : (kids : Kids) (c : ℕ) → kept_at kids (suc c) ≡ behind (kid_at kids c) (kept_at kids c)
kept-suc [] c = refl
kept-suc (k ∷ ks) zero = ap (behind k) (kept-zero ks)
kept-suc (k ∷ ks) (suc c) = ap (behind k) (kept-suc ks c) ∙ behind-both k (kid_at ks c) (kept_at ks c)

block-zero : (kids : Kids) → block_at kids 0 ≡ 0
block-zero [] = refl
block-zero (k ∷ ks) = refl

block-suc : (kids : Kids) (c : ℕ) → block_at kids (suc c) ≡ block_at kids c + block_size (kid_at kids c)
block-suc [] c = refl
block-suc (k ∷ ks) zero = let none = block-zero ks in omega (arith, none)
block-suc (k ∷ ks) (suc c) = let ih = block-suc ks c in omega (arith, ih)

abbrev kept_count : Cells → ℕ
kept_count no_cells = 0
kept_count (a_primitive row rest) = suc (kept_count rest)
kept_count (an_instance child rest) = behind (kid_if (is_static child) (flat_part child)) (kept_count rest)

length-kept : (cells : Cells) (list : List PlainCell) → cell_count cells ≡ length list → length (kept (flat_kids cells) list) ≡ kept_count cells
length-kept no_cells [] e = refl
length-kept no_cells (x ∷ xs) e = absurd (omega (arith, e))
length-kept (a_primitive row rest) [] e = absurd (omega (arith, e))
length-kept (a_primitive row rest) (x ∷ xs) e = ap suc (length-kept rest xs (omega (arith, e)))
length-kept (an_instance child rest) [] e = absurd (omega (arith, e))
length-kept (an_instance child rest) (x ∷ xs) e = choice (is_static child) (length-kept rest xs (omega (arith, e)))
  where
    choice : (b : Bool) → length (kept (flat_kids rest) xs) ≡ kept_count rest → length (kept_if (kid_if b (flat_part child)) x (kept (flat_kids rest) xs)) ≡ behind (kid_if b (flat_part child)) (kept_count rest)
    choice true ih = ih
    choice false ih = ap suc ih

block-all : (cells : Cells) (list : List PlainCell) → cell_count cells ≡ length list → block_at (flat_kids cells) (cell_count cells) ≡ length (blocks (flat_kids cells) list)
block-all no_cells [] e = refl
block-all no_cells (x ∷ xs) e = absurd (omega (arith, e))
block-all (a_primitive row rest) [] e = absurd (omega (arith, e))
block-all (a_primitive row rest) (x ∷ xs) e = let ih = block-all rest xs (omega (arith, e)) in omega (arith, ih)
block-all (an_instance child rest) [] e = absurd (omega (arith, e))
block-all (an_instance child rest) (x ∷ xs) e =
    let ih = block-all rest xs (omega (arith, e)) in
    let all = length-append (block (kid_if (is_static child) (flat_part child)) x) (blocks (flat_kids rest) xs) in
    let size = length-block (kid_if (is_static child) (flat_part child)) x in
    omega (arith, ih, all, size)

-- ONE CELL comes to what another does, where their ports are seen alike
outcome_alike : (look other : Look) (c e : ℕ) (row : Row) (d : CellState) → ((p : ℕ) → look (ports.Cell e p) ≡ other (ports.Cell c p)) → cell_outcome look e row d ≡ cell_outcome other c row d
outcome_alike look other c e row d same = ap (λ (g : ℕ → Seen). after_enabling g row d (gather g (enables row) 0 row.ports)) (fun_ext same)

-- the same state in all its cells is the same where it stands
pub stands_alike : (i : Instance) (first : ℕ) (s t z w : State) → ((path : Path) → s path ≡ t path) → ((path : Path) → z path ≡ w path) → Stands i first s z → Stands i first t w
stands_alike i first s t z w same alike h = subst (λ x. Stands i first t x) (fun_ext alike) (subst (λ x. Stands i first x z) (fun_ext same) h)

-- a child's own fault, by its place among the cells
pub spot-in : (cells : Cells) (c : ℕ) (child : Instance) (start cell : ℕ) (path : Path) (p : PortRef) → cell_at cells c ≡ OfInstance child → is_static child ≡ true → spot_in cells c start cell path p ≡ flat_spot child start path p
spot-in no_cells c child start cell path p e static = absurd (cc)
spot-in (a_primitive row rest) zero child start cell path p e static = absurd (cc)
spot-in (a_primitive row rest) (suc c) child start cell path p e static = spot-in rest c child start cell path p e static
spot-in (an_instance other rest) zero child start cell path p e static =
    let same : other ≡ child = cc in
    ap (λ b. spot_if b cell (flat_spot other start path p) (flat_spot other 0 path p)) (ap is_static same ∙ static) ∙ ap (λ k. flat_spot k start path p) same
spot-in (an_instance other rest) (suc c) child start cell path p e static = spot-in rest c child start cell path p e static

abbrev told : Instance → ℕ → Option Fault → Option Fault
told i first None = None
told i first (Some f) = Some (flat_fault i first f)

-- no wire stops
wires_go : (look : Look) (cells : Cells) (z : State) (outputs : List PortDecl) (e : ℕ) → HasWires outputs e cells → first_fault (outcome_of every_cell look cells z) e (length outputs) ≡ None
wires_go look cells z [] e h = refl
wires_go look cells z (output ∷ outputs) e h =
    ap (λ x. first_of e (outcome_at look e x (z (e ∷ []))) (first_fault (outcome_of every_cell look cells z) (suc e) (length outputs))) h.0 ∙ wires_go look cells z outputs (suc e) h.1

-- a cycle of a static child
abbrev child_cycle : Instance → Look → ℕ → List Deed → State → Ended
child_cycle child other c deeds s = whole_cycle child (held_below other c deeds) (entries (own_entries (deeds_below c deeds))) (deeds_below c deeds) (under c s)

module _ (host : Cells) (look : Look) (z : State) where
  abbrev out : ℕ → Outcome
  out = outcome_of every_cell look host z

  -- THE OWN CELLS of an instance
  module _ (part : PlainComponent) (cells : Cells) (first : ℕ) (other : Look) (deeds : List Deed) (s : State) where
    abbrev kids : Kids
    kids = flat_kids cells

    abbrev comes : ℕ → Outcome
    comes = outcome_of every_cell other cells s

    row_alike : (c : ℕ) (row : Row) → cell_at cells c ≡ OfRow row → cell_at host (first + kept_at kids c) ≡ OfRow row → z ((first + kept_at kids c) ∷ []) ≡ s (c ∷ [])
        → ((p : ℕ) → look (ports.Cell (first + kept_at kids c) p) ≡ other (ports.Cell c p)) → out (first + kept_at kids c) ≡ comes c
    row_alike c row at there same seen_alike =
        ap (λ x. outcome_at look (first + kept_at kids c) x (z ((first + kept_at kids c) ∷ []))) there
        ∙ ap (cell_outcome look (first + kept_at kids c) row) same ∙ outcome_alike look other c (first + kept_at kids c) row (s (c ∷ [])) seen_alike
        ∙ ap (λ x. outcome_at other c x (s (c ∷ []))) (sym at)

    one_told : (c : ℕ) → kid_at kids c ≡ None → (o : Outcome) (later : Option Fault) → first_of (first + kept_at kids c) o (told (Node part cells) first later) ≡ told (Node part cells) first (first_of c o later)
    one_told c none (Next after) later = refl
    one_told c none (Stops kind p) later = ap (λ q. Some (fault_at kind (placed first q))) (sym (own-kept kids part c p none))

    own_faults : (rest : Cells) (c : ℕ) → ((n : ℕ) → cell_at rest n ≡ cell_at cells (c + n)) → AllSeen look kids part rest c first other deeds s → AreEmbedded kids part rest c first host → AllStand kids part rest c first s z
        → first_fault out (first + kept_at kids c) (kept_count rest) ≡ told (Node part cells) first (first_fault comes c (cell_count rest))
    own_faults no_cells c tail see embedded stands = refl
    own_faults (a_primitive row rest) c tail see embedded stands =
        ap (λ o. first_of (first + kept_at kids c) o (first_fault out (suc (first + kept_at kids c)) (kept_count rest))) (row_alike c row at embedded.0 stands.0 see.0)
        ∙ ap (λ e. first_of (first + kept_at kids c) (comes c) (first_fault out e (kept_count rest))) next
        ∙ ap (first_of (first + kept_at kids c) (comes c)) (own_faults rest (suc c) (λ n. tail (suc n) ∙ ap (cell_at cells) (plus c n)) see.1 embedded.1 stands.1)
        ∙ one_told c (kid-row cells c row at) (comes c) (first_fault comes (suc c) (cell_count rest))
      where
        plus : (a b : ℕ) → a + suc b ≡ suc a + b
        plus a b = omega arith

        zero_plus : (a : ℕ) → a + 0 ≡ a
        zero_plus a = omega arith

        at : cell_at cells c ≡ OfRow row
        at = ap (cell_at cells) (sym (zero_plus c)) ∙ sym (tail 0)

        next : suc (first + kept_at kids c) ≡ first + kept_at kids (suc c)
        next =
            let e : kept_at kids (suc c) ≡ suc (kept_at kids c) = kept-suc kids c ∙ ap (λ k. behind k (kept_at kids c)) (kid-row cells c row at) in
            omega (arith, e)
    own_faults (an_instance child rest) c tail see embedded stands = choice (is_static child) refl (own_faults rest (suc c) (λ n. tail (suc n) ∙ ap (cell_at cells) (plus c n)) see.1 embedded.2 stands.2)
      where
        plus : (a b : ℕ) → a + suc b ≡ suc a + b
        plus a b = omega arith

        zero_plus : (a : ℕ) → a + 0 ≡ a
        zero_plus a = omega arith

        at : cell_at cells c ≡ OfInstance child
        at = ap (cell_at cells) (sym (zero_plus c)) ∙ sym (tail 0)

        passes : first_fault comes (suc c) (cell_count rest) ≡ first_fault comes c (suc (cell_count rest))
        passes = ap (λ x. first_of c (outcome_at other c x (s (c ∷ []))) (first_fault comes (suc c) (cell_count rest))) (sym at)

        choice : (b : Bool) → is_static child ≡ b → first_fault out (first + kept_at kids (suc c)) (kept_count rest) ≡ told (Node part cells) first (first_fault comes (suc c) (cell_count rest))
            → first_fault out (first + kept_at kids c) (behind (kid_if b (flat_part child)) (kept_count rest)) ≡ told (Node part cells) first (first_fault comes c (suc (cell_count rest)))
        choice true e ih =
            let same : kept_at kids (suc c) ≡ kept_at kids c = kept-suc kids c ∙ ap (λ k. behind k (kept_at kids c)) (kid-static cells c child at e) in
            ap (λ k. first_fault out (first + k) (kept_count rest)) (sym same) ∙ ih ∙ ap (told (Node part cells) first) passes
        choice false e ih =
            let twin = embedded.1 e in
            let same : kept_at kids (suc c) ≡ suc (kept_at kids c) = kept-suc kids c ∙ ap (λ k. behind k (kept_at kids c)) (kid-dynamic cells c child at e) in
            let next : suc (first + kept_at kids c) ≡ first + kept_at kids (suc c) = omega (arith, same) in
            ap (λ x. first_of (first + kept_at kids c) (outcome_at look (first + kept_at kids c) x (z ((first + kept_at kids c) ∷ []))) (first_fault out (suc (first + kept_at kids c)) (kept_count rest))) twin.1
            ∙ ap (λ k. first_fault out k (kept_count rest)) next ∙ ih ∙ ap (told (Node part cells) first) passes

    -- THE BLOCKS of its static children, one after the other: the state so far, in which the first c of them have made their steps
    pub record StandsSoFar (c : ℕ) (after : State) : Type 0 where
      pub rows : (d : ℕ) (row : Row) → cell_at cells d ≡ OfRow row → state_after out z ((first + kept_at kids d) ∷ []) ≡ after (d ∷ [])
      pub twins : (d : ℕ) (child : Instance) → cell_at cells d ≡ OfInstance child → is_static child ≡ false → Stands child 0 (under d after) (under (first + kept_at kids d) (state_after out z))
      pub steps : (d : ℕ) (child : Instance) → cell_at cells d ≡ OfInstance child → is_static child ≡ true → d < c → Stands child (first + start_of kids part d) (under d after) (state_after out z)

    abbrev pub Ready : ℕ → Ended → Type 0
    Ready c (Goes after) = (first_fault out first (start_of kids part c) ≡ None) × StandsSoFar c after
    Ready c (Faults f) = first_fault out first (start_of kids part c) ≡ Some (flat_fault (Node part cells) first f)

    start-suc : (c : ℕ) → start_of kids part (suc c) ≡ start_of kids part c + block_size (kid_at kids c)
    start-suc c = let e = block-suc kids c in omega (arith, e)

    -- a cell without a block
    skips : (c : ℕ) (before : Ended) → kid_at kids c ≡ None → ((child : Instance) → cell_at cells c ≡ OfInstance child → is_static child ≡ true → ⊥) → Ready c before → Ready (suc c) before
    skips c (Goes after) none apart h = (
      ap (first_fault out first) same ∙ h.0,
      record { rows = h.1.rows; twins = h.1.twins; steps = λ d child at static less. later d child at static less (cases_eq d c) },
    )
      where
        same : start_of kids part (suc c) ≡ start_of kids part c
        same = let e : start_of kids part (suc c) ≡ start_of kids part c + 0 = start-suc c ∙ ap (λ k. start_of kids part c + block_size k) none in omega (arith, e)

        later : (d : ℕ) (child : Instance) → cell_at cells d ≡ OfInstance child → is_static child ≡ true → d < suc c → (d ≡ c) ⊎ (d ≡ c → ⊥) → Stands child (first + start_of kids part d) (under d after) (state_after out z)
        later d child at static less (inl e) = absurd (apart child (ap (cell_at cells) (sym e) ∙ at) static)
        later d child at static less (inr ne) = h.1.steps d child at static (strictly d c less ne)
          where
            strictly : (a b : ℕ) → a < suc b → (a ≡ b → ⊥) → a < b
            strictly a b l n = ⊎_elim (λ (x : a < b). x) (λ (x : b ≤ a). absurd (n (omega (arith, l, x)))) (cases_lt a b)
    skips c (Faults f) none apart h = ap (first_fault out first) same ∙ h
      where
        same : start_of kids part (suc c) ≡ start_of kids part c
        same = let e : start_of kids part (suc c) ≡ start_of kids part c + 0 = start-suc c ∙ ap (λ k. start_of kids part c + block_size k) none in omega (arith, e)

    -- the state of other cells, where that of one is put
    put_beside : (c d : ℕ) (own after : State) → (d ≡ c → ⊥) → (path : Path) → put c own after (d ∷ path) ≡ after (d ∷ path)
    put_beside c d own after apart path = ap (λ b. if b then beneath own (d ∷ path) else after (d ∷ path)) (not_just c d apart)

    put_there : (c : ℕ) (own after : State) (path : Path) → put c own after (c ∷ path) ≡ own path
    put_there c own after path = ap (λ b. if b then beneath own (c ∷ path) else after (c ∷ path)) (just_same c)

    -- the block of a static child
    module _ (c : ℕ) (child : Instance) (at : cell_at cells c ≡ OfInstance child) (static : is_static child ≡ true)
        (wires : HasWires (part_of child).outputs (first + wire_at kids part (flat_part child) c 0) host) where
      abbrev kid : PlainComponent
      kid = flat_part child

      block_split : first_fault out first (start_of kids part (suc c)) ≡ or_later (first_fault out first (start_of kids part c)) (first_fault out (first + start_of kids part c) (length kid.cells))
      block_split =
          ap (first_fault out first) (start-suc c ∙ ap (λ k. start_of kids part c + block_size k) (kid-static cells c child at static))
          ∙ first_split out first (start_of kids part c) (length kid.cells + length kid.outputs)
          ∙ ap (or_later (first_fault out first (start_of kids part c))) (first_split out (first + start_of kids part c) (length kid.cells) (length kid.outputs))
          ∙ ap (λ x. or_later (first_fault out first (start_of kids part c)) (or_later (first_fault out (first + start_of kids part c) (length kid.cells)) x)) none
          ∙ ap (or_later (first_fault out first (start_of kids part c))) (or_none (first_fault out (first + start_of kids part c) (length kid.cells)))
        where
          or_none : (x : Option Fault) → or_later x None ≡ x
          or_none None = refl
          or_none (Some f) = refl

          place : first + start_of kids part c + length kid.cells ≡ first + wire_at kids part kid c 0
          place = omega arith

          none : first_fault out (first + start_of kids part c + length kid.cells) (length kid.outputs) ≡ None
          none =
              ap (λ e. first_fault out e (length kid.outputs)) place ∙ ap (λ l. first_fault out (first + wire_at kids part kid c 0) (length l)) (flat-outputs child)
              ∙ wires_go look host z (part_of child).outputs (first + wire_at kids part kid c 0) wires

      block_ends : (before x : Ended) → Ready c before → EndsAs child (first + start_of kids part c) out z (length kid.cells) x → Ready (suc c) (with_child c before x)
      block_ends (Faults f) x h ends = block_split ∙ ap (λ y. or_later y (first_fault out (first + start_of kids part c) (length kid.cells))) h
      block_ends (Goes after) (Faults f) h ends =
          block_split ∙ ap (λ y. or_later y (first_fault out (first + start_of kids part c) (length kid.cells))) h.0 ∙ ends
          ∙ ap (λ x. Some (at_spot f.kind x)) (sym (spot-in cells c child (first + start_of kids part c) (first + kept_at kids c) f.path f.port at static))
      block_ends (Goes after) (Goes own) h ends = (
        block_split ∙ ap (λ y. or_later y (first_fault out (first + start_of kids part c) (length kid.cells))) h.0 ∙ ends.0,
        record {
          rows = λ d row d_at. h.1.rows d row d_at ∙ sym (put_beside c d own after (λ e. row_instance row child (sym d_at ∙ ap (cell_at cells) e ∙ at)) []);
          twins = λ d other d_at dynamic.
              stands_alike other 0 (under d after) (under d (put c own after)) (under (first + kept_at kids d) (state_after out z)) (under (first + kept_at kids d) (state_after out z))
              (λ path. sym (put_beside c d own after (λ e. not_both other dynamic (ap (cell_at cells) (sym e) ∙ d_at)) path)) (λ path. refl) (h.1.twins d other d_at dynamic);
          steps = λ d other d_at is_one less. put_step d other d_at is_one less (cases_eq d c);
        },
      )
        where
          same_child : (other : Instance) → cell_at cells c ≡ OfInstance other → child ≡ other
          same_child other e = let same : OfInstance child ≡ OfInstance other = sym at ∙ e in cc

          not_both : (other : Instance) → is_static other ≡ false → cell_at cells c ≡ OfInstance other → ⊥
          not_both other dynamic e = let none : true ≡ false = sym static ∙ ap is_static (same_child other e) ∙ dynamic in cc

          strictly : (a b : ℕ) → a < suc b → (a ≡ b → ⊥) → a < b
          strictly a b l n = ⊎_elim (λ (y : a < b). y) (λ (y : b ≤ a). absurd (n (omega (arith, l, y)))) (cases_lt a b)

          put_step : (d : ℕ) (other : Instance) → cell_at cells d ≡ OfInstance other → is_static other ≡ true → d < suc c → (d ≡ c) ⊎ (d ≡ c → ⊥) → Stands other (first + start_of kids part d) (under d (put c own after)) (state_after out z)
          put_step d other d_at is_one less (inl e) =
              subst (λ k. Stands other (first + start_of kids part k) (under k (put c own after)) (state_after out z)) (sym e)
              (subst (λ k. Stands k (first + start_of kids part c) (under c (put c own after)) (state_after out z)) (same_child other (ap (cell_at cells) (sym e) ∙ d_at))
              (stands_alike child (first + start_of kids part c) own (under c (put c own after)) (state_after out z) (state_after out z) (λ path. sym (put_there c own after path)) (λ path. refl) ends.1))
          put_step d other d_at is_one less (inr ne) =
              stands_alike other (first + start_of kids part d) (under d after) (under d (put c own after)) (state_after out z) (state_after out z)
              (λ path. sym (put_beside c d own after ne path)) (λ path. refl) (h.1.steps d other d_at is_one (strictly d c less ne))

    -- in the end
    instance_within : (rest : Cells) (c : ℕ) (child : Instance) → cell_at rest c ≡ OfInstance child → c < cell_count rest
    instance_within no_cells c child e = absurd (cc)
    instance_within (a_primitive row rest) zero child e = absurd (cc)
    instance_within (a_primitive row rest) (suc c) child e = let ih = instance_within rest c child e in omega (arith, ih)
    instance_within (an_instance other rest) zero child e = omega arith
    instance_within (an_instance other rest) (suc c) child e = let ih = instance_within rest c child e in omega (arith, ih)

    all_stand : (rest : Cells) (c : ℕ) → ((n : ℕ) → cell_at rest n ≡ cell_at cells (c + n)) → (after : State) → StandsSoFar (cell_count cells) after → AllStand kids part rest c first after (state_after out z)
    all_stand no_cells c tail after h = tt
    all_stand (a_primitive row rest) c tail after h = (h.rows c row at, all_stand rest (suc c) (λ n. tail (suc n) ∙ ap (cell_at cells) (plus c n)) after h)
      where
        plus : (a b : ℕ) → a + suc b ≡ suc a + b
        plus a b = omega arith

        zero_plus : (a : ℕ) → a + 0 ≡ a
        zero_plus a = omega arith

        at : cell_at cells c ≡ OfRow row
        at = ap (cell_at cells) (sym (zero_plus c)) ∙ sym (tail 0)
    all_stand (an_instance child rest) c tail after h =
        (λ static. h.steps c child at static (instance_within cells c child at), λ dynamic. h.twins c child at dynamic, all_stand rest (suc c) (λ n. tail (suc n) ∙ ap (cell_at cells) (plus c n)) after h)
      where
        plus : (a b : ℕ) → a + suc b ≡ suc a + b
        plus a b = omega arith

        zero_plus : (a : ℕ) → a + 0 ≡ a
        zero_plus a = omega arith

        at : cell_at cells c ≡ OfInstance child
        at = ap (cell_at cells) (sym (zero_plus c)) ∙ sym (tail 0)

    -- of what is seen of all cells that of one
    seen_row : (rest : Cells) (c n : ℕ) (row : Row) → AllSeen look kids part rest c first other deeds s → cell_at rest n ≡ OfRow row → (p : ℕ) → look (ports.Cell (first + kept_at kids (c + n)) p) ≡ other (ports.Cell (c + n) p)
    seen_row no_cells c n row h e p = absurd (cc)
    seen_row (a_primitive row2 rest) c zero row h e p = subst (λ k. look (ports.Cell (first + kept_at kids k) p) ≡ other (ports.Cell k p)) (plus_zero c) (h.0 p)
      where
        plus_zero : (a : ℕ) → a ≡ a + 0
        plus_zero a = omega arith
    seen_row (a_primitive row2 rest) c (suc n) row h e p = subst (λ k. look (ports.Cell (first + kept_at kids k) p) ≡ other (ports.Cell k p)) (plus c n) (seen_row rest (suc c) n row h.1 e p)
      where
        plus : (a b : ℕ) → suc a + b ≡ a + suc b
        plus a b = omega arith
    seen_row (an_instance child rest) c zero row h e p = absurd (cc)
    seen_row (an_instance child rest) c (suc n) row h e p = subst (λ k. look (ports.Cell (first + kept_at kids k) p) ≡ other (ports.Cell k p)) (plus c n) (seen_row rest (suc c) n row h.1 e p)
      where
        plus : (a b : ℕ) → suc a + b ≡ a + suc b
        plus a b = omega arith

    -- in the beginning
    zero_plus : (a : ℕ) → 0 + a ≡ a
    zero_plus a = omega arith

    stays : (d : ℕ) (child : Instance) → cell_at cells d ≡ OfInstance child → (path : Path) → s (d ∷ path) ≡ state_after comes s (d ∷ path)
    stays d child at path = sym (state_after-same comes s d (ap (λ x. stepped (s (d ∷ [])) (outcome_at other d x (s (d ∷ [])))) at) path)

    twin_stays : (d : ℕ) (child twin : Instance) → cell_at host (first + kept_at kids d) ≡ OfInstance twin → (path : Path) → z ((first + kept_at kids d) ∷ path) ≡ state_after out z ((first + kept_at kids d) ∷ path)
    twin_stays d child twin at path =
        sym (state_after-same out z (first + kept_at kids d) (ap (λ x. stepped (z ((first + kept_at kids d) ∷ [])) (outcome_at look (first + kept_at kids d) x (z ((first + kept_at kids d) ∷ [])))) at) path)

    own_steps : AllSeen look kids part cells 0 first other deeds s → AreEmbedded kids part cells 0 first host → AllStand kids part cells 0 first s z → StandsSoFar 0 (state_after comes s)
    own_steps see embedded stands = record {
      rows = λ d row at.
          let there = ap (λ k. cell_at host (first + kept_at kids k)) (sym (zero_plus d)) ∙ embedded_row kids part first host cells 0 d row embedded at in
          let same = subst (λ k. z ((first + kept_at kids k) ∷ []) ≡ s (k ∷ [])) (zero_plus d) (stands_row kids part first s z cells 0 d row stands at) in
          let alike : (p : ℕ) → look (ports.Cell (first + kept_at kids d) p) ≡ other (ports.Cell d p) = λ p. subst (λ k. look (ports.Cell (first + kept_at kids k) p) ≡ other (ports.Cell k p)) (zero_plus d) (seen_row cells 0 d row see at p) in
          ap (λ o. stepped (z ((first + kept_at kids d) ∷ [])) o) (row_alike d row at there same alike) ∙ ap (λ x. stepped x (comes d)) same;
      twins = λ d child at dynamic.
          let twin = subst (TwinAt kids part first host child) (zero_plus d) (embedded_dynamic kids part first host cells 0 d child embedded at dynamic) in
          let there = subst (λ k. Stands child 0 (under k s) (under (first + kept_at kids k) z)) (zero_plus d) (stands_dynamic kids part first s z cells 0 d child stands at dynamic) in
          stands_alike child 0 (under d s) (under d (state_after comes s)) (under (first + kept_at kids d) z) (under (first + kept_at kids d) (state_after out z)) (stays d child at) (twin_stays d child twin.0 twin.1) there;
      steps = λ d child at static less. absurd (omega (arith, less));
    }

    begins : cell_count cells ≡ length part.cells → AllSeen look kids part cells 0 first other deeds s → AreEmbedded kids part cells 0 first host → AllStand kids part cells 0 first s z
        → Ready 0 (unless_fault (first_fault comes 0 (cell_count cells)) (state_after comes s))
    begins count see embedded stands = choice (first_fault comes 0 (cell_count cells)) faults
      where
        begin : start_of kids part 0 ≡ kept_count cells
        begin = let none = block-zero kids in let kept_all = length-kept cells part.cells count in omega (arith, none, kept_all)

        place : first ≡ first + kept_at kids 0
        place = let none = kept-zero kids in omega (arith, none)

        faults : first_fault out first (start_of kids part 0) ≡ told (Node part cells) first (first_fault comes 0 (cell_count cells))
        faults =
            ap (first_fault out first) begin ∙ ap (λ e. first_fault out e (kept_count cells)) place
            ∙ own_faults cells 0 (λ n. ap (cell_at cells) (sym (zero_plus n))) see embedded stands

        choice : (x : Option Fault) → first_fault out first (start_of kids part 0) ≡ told (Node part cells) first x → Ready 0 (unless_fault x (state_after comes s))
        choice None e = (e, own_steps see embedded stands)
        choice (Some f) e = e

    ends : cell_count cells ≡ length part.cells → (x : Ended) → Ready (cell_count cells) x → EndsAs (Node part cells) first out z (length (flat_cells kids part.cells)) x
    ends count (Goes after) h = (ap (first_fault out first) all ∙ h.0, all_stand cells 0 (λ n. ap (cell_at cells) (sym (zero_plus n))) after h.1)
      where
        all : length (flat_cells kids part.cells) ≡ start_of kids part (cell_count cells)
        all = let both = length-append (kept kids part.cells) (blocks kids part.cells) in let some = block-all cells part.cells count in omega (arith, both, some)
    ends count (Faults f) h = ap (first_fault out first) all ∙ h
      where
        all : length (flat_cells kids part.cells) ≡ start_of kids part (cell_count cells)
        all = let both = length-append (kept kids part.cells) (blocks kids part.cells) in let some = block-all cells part.cells count in omega (arith, both, some)

  mutual
    -- A CYCLE OF THE TREE is one of the host's cells
    pub cycle_told : (i : Instance) → AllFair i → (first : ℕ) (held : Held) (act : Active) (deeds : List Deed) (s : State) → CellsSeen look i first held act deeds s → IsEmbedded i first host → Stands i first s z
        → EndsAs i first out z (length (flat_part i).cells) (whole_cycle i held act deeds s)
    cycle_told (Node part cells) fair first held act deeds s see embedded stands =
        ends part cells first (seen (Node part cells) held act s) deeds s fair.0.count (whole_cycle (Node part cells) held act deeds s)
        (subst (λ n. Ready part cells first (seen (Node part cells) held act s) deeds s n (whole_cycle (Node part cells) held act deeds s)) (zero_plus part cells first (seen (Node part cells) held act s) deeds s (cell_count cells))
        (blocks_told cells part cells first (seen (Node part cells) held act s) deeds s 0 (λ n. ap (cell_at cells) (sym (zero_plus part cells first (seen (Node part cells) held act s) deeds s n))) fair.1 see embedded stands (cycle (Node part cells) held act s)
        (begins part cells first (seen (Node part cells) held act s) deeds s fair.0.count see embedded stands)))

    blocks_told : (rest : Cells) (part : PlainComponent) (cells : Cells) (first : ℕ) (other : Look) (deeds : List Deed) (s : State) (c : ℕ) → ((n : ℕ) → cell_at rest n ≡ cell_at cells (c + n)) → AllFairBelow rest
        → AllSeen look (flat_kids cells) part rest c first other deeds s → AreEmbedded (flat_kids cells) part rest c first host → AllStand (flat_kids cells) part rest c first s z
        → (before : Ended) → Ready part cells first other deeds s c before → Ready part cells first other deeds s (c + cell_count rest) (cycles_below rest c other deeds s before)
    blocks_told no_cells part cells first other deeds s c tail fair see embedded stands before h = subst (λ n. Ready part cells first other deeds s n before) (plus_zero c) h
      where
        plus_zero : (a : ℕ) → a ≡ a + 0
        plus_zero a = omega arith
    blocks_told (a_primitive row rest) part cells first other deeds s c tail fair see embedded stands before h =
        subst (λ n. Ready part cells first other deeds s n (cycles_below rest (suc c) other deeds s before)) (plus c (cell_count rest))
        (blocks_told rest part cells first other deeds s (suc c) (λ n. tail (suc n) ∙ ap (cell_at cells) (sym (plus c n))) fair see.1 embedded.1 stands.1 before
        (skips part cells first other deeds s c before (kid-row cells c row at) (λ child e static. row_instance row child (sym at ∙ e)) h))
      where
        plus : (a b : ℕ) → suc a + b ≡ a + suc b
        plus a b = omega arith

        zero_added : (a : ℕ) → a + 0 ≡ a
        zero_added a = omega arith

        at : cell_at cells c ≡ OfRow row
        at = ap (cell_at cells) (sym (zero_added c)) ∙ sym (tail 0)
    blocks_told (an_instance child rest) part cells first other deeds s c tail fair see embedded stands before h =
        subst (λ n. Ready part cells first other deeds s n (cycles_below rest (suc c) other deeds s (child_if (is_static child) c before (child_cycle child other c deeds s)))) (plus c (cell_count rest))
        (blocks_told rest part cells first other deeds s (suc c) (λ n. tail (suc n) ∙ ap (cell_at cells) (sym (plus c n))) fair.1 see.1 embedded.2 stands.2 (child_if (is_static child) c before (child_cycle child other c deeds s))
        (choice (is_static child) refl (λ static. cycle_told child fair.0 (first + start_of (flat_kids cells) part c) (held_below other c deeds) (entries (own_entries (deeds_below c deeds))) (deeds_below c deeds) (under c s) (see.0 static) (embedded.0 static).0 (stands.0 static))))
      where
        plus : (a b : ℕ) → suc a + b ≡ a + suc b
        plus a b = omega arith

        zero_added : (a : ℕ) → a + 0 ≡ a
        zero_added a = omega arith

        at : cell_at cells c ≡ OfInstance child
        at = ap (cell_at cells) (sym (zero_added c)) ∙ sym (tail 0)

        choice : (b : Bool) → is_static child ≡ b → (is_static child ≡ true → EndsAs child (first + start_of (flat_kids cells) part c) out z (length (flat_part child).cells) (child_cycle child other c deeds s))
            → Ready part cells first other deeds s (suc c) (child_if b c before (child_cycle child other c deeds s))
        choice true e told_child = block_ends part cells first other deeds s c child at e (embedded.0 e).1 before (child_cycle child other c deeds s) h (told_child e)
        choice false e told_child = skips part cells first other deeds s c before (kid-dynamic cells c child at e) (λ kid f static. not_both kid f static e at) h
          where
            not_both : (kid : Instance) → cell_at cells c ≡ OfInstance kid → is_static kid ≡ true → is_static child ≡ false → cell_at cells c ≡ OfInstance child → ⊥
            not_both kid f static dynamic there =
                let same : OfInstance kid ≡ OfInstance child = sym f ∙ there in
                let one : kid ≡ child = cc in
                let none : true ≡ false = sym static ∙ ap is_static one ∙ dynamic in cc
