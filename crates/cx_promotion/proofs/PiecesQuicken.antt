-- A PIECE QUICKENS: enables of promoted groups, one after another, and the static seq of them.
use Rattle.std.proofs.Common.{◌≡◌, ℕ, ◌+◌, ◌≤◌, false, List, [], ◌∷◌, ◌++◌, length, Option, Some, None, refl, sym, ap, ◌∙◌, subst, arith}
use Rattle.std.proofs.Math.Path.{fun_ext}
use Rattle.cx_text.specs.declared.places.Place.{Place}
use Rattle.cx_meaning.specs.declared.ports.PortRef.{PortRef}
use Rattle.cx_meaning.specs.declared.ports.PortRef.TheVariants as ports
use Rattle.cx_meaning.specs.Designs.{PlainAssign, PlainGroup, PlainComponent, group_at, no_place, Enable, Seq, StaticSeq, PlainStatement, Placed, PlainStatements, no_statements, a_statement}
use Rattle.cx_meaning.specs.Instances.{Instance, Node, Cells, At, Nothing, OfRow, OfInstance, part_of, cells_of, cell_at, State, idle, IsSettled}
use Rattle.cx_meaning.specs.Sights.{Held}
use Rattle.cx_meaning.specs.Cycles.{Fault}
use Rattle.cx_meaning.specs.Answers.{Answer, End, More, Turn, turns_of, then_do, stay}
use Rattle.cx_meaning.specs.Answers as answers
use Rattle.cx_meaning.specs.Control.{Leaves, groups_in_all, run_parts}
use Rattle.cx_meaning.specs.Islands.{kind_length, group_length, or_zero, occurrence, island_from, no_history, island}
use Rattle.cx_meaning.specs.Calls.{group_turn, called_by, called_in, if_instance, enable}
use Rattle.cx_meaning.specs.Running.{Children, leaves, control_below}
use Rattle.cx_meaning.proofs.RunningLemmas.{steady_island, steady_statement}
use Rattle.cx_rules.specs.Ports.{is_instance, is_part_port}
use Rattle.cx_rules.specs.ShapeRules.{some_target}
use Rattle.cx_frames.proofs.CycleLemmas.{idle_at-row}
use Rattle.cx_rewrites.specs.Tallies.{none, Counted}
use Rattle.cx_rewrites.specs.Carrying.{NoLater, Same, Carried}
use Rattle.cx_rewrites.proofs.TurnLemmas.{enable-turns, enable-island}
use Rattle.cx_promotion.specs.Made.{IsPromoted, IsRun, no_more, one_more}
use Rattle.cx_promotion.proofs.RowReady.{SettledIsReady, row_settled}
use Rattle.cx_promotion.proofs.Twins.{Twins, beside_each, idle-twin}
use Rattle.cx_promotion.proofs.MadeBeside.{KindAt, no_cell, a_row, a_part, MadeBeside}
use Rattle.cx_promotion.proofs.Shapes.{or_none, shape_of}
use Rattle.cx_promotion.proofs.Near.{AreReady}
use Rattle.cx_promotion.proofs.Chains.{total, chain, one_by_one, AllInStep, chain_ends}
use Rattle.cx_promotion.proofs.Runs.{one_cycle}
use Rattle.cx_promotion.proofs.Pieces as pieces
use Rattle.cx_promotion.proofs.Pieces.{RunOf, static_seq_is}
use Rattle.cx_promotion.proofs.GroupTurn.{group_in_step}
use Rattle.cx_promotion.proofs.LeavesQuicken.{same_fault, grown, Quicker}
use Rattle.cx_promotion.proofs.Members.{plain_length}

-- a group that drives no component cell calls none
module _ (i whole : Instance) (kinds_at : (c : ℕ) → KindAt (cell_at (cells_of i) c) (cell_at (cells_of whole) c)) where
  not_called : (at other : At) (c : ℕ) (later : Option ℕ) → KindAt at other → is_instance other ≡ false → if_instance at c later ≡ later
  not_called Nothing other c later (no_cell x) none = refl
  not_called (OfRow row) other c later a_row none = refl
  not_called (OfInstance child) other c later a_part none = absurd (cc)

  no_call : (p : PortRef) (later : Option ℕ) → is_part_port whole p ≡ false → called_by (cells_of i) p later ≡ later
  no_call (ports.Cell c p) later apart = not_called (cell_at (cells_of i) c) (cell_at (cells_of whole) c) c later (kinds_at c) apart
  no_call (ports.Input n) later apart = refl
  no_call (ports.Output n) later apart = refl
  no_call (ports.Done g) later apart = refl
  no_call (ports.Literal w v) later apart = refl

  pub called_none : (list : List PlainAssign) → some_target (is_part_port whole) list ≡ false → called_in (cells_of i) list ≡ None
  called_none [] apart = refl
  called_none (a ∷ rest) apart =
      let both = or_none (is_part_port whole a.target) (some_target (is_part_port whole) rest) apart in
      no_call a.target (called_in (cells_of i) rest) both.0 ∙ called_none rest both.1

then_stay : (o : Answer State Fault) (n : ℕ) → then_do o n stay ≡ o
then_stay (End s t) n = ap (End s) (let same : t + 0 ≡ t = omega arith in same)
then_stay (answers.Fault f t) n = refl
then_stay More n = refl

-- the enable of a static group alone is a static seq of one
module _ (j : Instance) (held : Held) (g k : ℕ) (place : Place) (is : group_length (part_of j) g ≡ Some k) where
  single_island : (s : State) (n : ℕ) → island j held (Enable g) s n ≡ island j held (StaticSeq None (a_statement (Placed (Enable g) place) no_statements)) s n
  single_island s n =
      ap (λ o. island_from j held (occurrence g 0 [] o) (or_zero o) 0 no_history s n) is
      ∙ ap (λ left. island_from j held (occurrence g 0 [] (Some k)) left 0 no_history s n) (let same : k ≡ k + 0 = omega arith in same)
      ∙ sym (ap (λ o. island_from j held (occurrence g 0 [] o ++ []) (or_zero o + 0) 0 no_history s n) is)

module _ (part other : PlainComponent) (cells more : Cells) (t : Twins MadeBeside (Node part cells) (Node other more)) (held : Held) where
  abbrev i : Instance
  i = Node part cells

  abbrev j : Instance
  j = Node other more

  abbrev h : MadeBeside i j
  h = beside_each MadeBeside i j t

  abbrev P : ℕ → Type 0
  P g = IsPromoted h.whole part other g

  abbrev L : Leaves State Fault
  L = leaves i (control_below cells) held

  -- the lengths of groups in the new design
  abbrev len : ℕ → ℕ
  len g = or_zero (group_length other g)

  abbrev old_turn : ℕ → State → Turn State Fault
  old_turn = group_turn i held

  pub promoted_length : (g : ℕ) (is : P g) → group_length other g ≡ Some is.0
  promoted_length g is = ap (λ (x : PlainGroup). kind_length x.kind) is.2

  run_is : {ss : PlainStatements} → IsRun P ss → RunOf other len (groups_in_all ss) ss
  run_is no_more = pieces.no_more
  run_is (one_more {g = g} {p = p} is later) = let e = promoted_length g is in pieces.one_more p (e ∙ ap Some (sym (ap or_zero e))) (run_is later)

  all_in_step : {ss : PlainStatements} → IsRun P ss → AllInStep (idle i) old_turn (one_cycle len j held) len (AreReady i) (groups_in_all ss)
  all_in_step no_more = tt
  all_in_step (one_more {g = g} is later) = (group_in_step i j t held g is len (ap or_zero (promoted_length g is)), all_in_step later)

  pub enable_turns : (g : ℕ) → P g → (s : State) (n : ℕ) → enable i (control_below cells) held g s n ≡ turns_of (idle i) (old_turn g) s n
  enable_turns g is s n =
      let shape = shape_of h.whole (group_at part g) is.0 is.1 in
      enable-turns i (control_below cells) held g (plain_length (group_at part g).kind shape.plain) (called_none i h.whole h.cells (group_at part g).assigns shape.no_part) s n

  run_one_by_one : {ss : PlainStatements} → IsRun P ss → (s : State) (n : ℕ) → run_parts L ss s n ≡ one_by_one (idle i) old_turn (one_cycle len j held) len (AreReady i) (groups_in_all ss) s n
  run_one_by_one no_more s n = refl
  run_one_by_one (one_more {g = g} {p = p} {ss = ss} is later) s n =
      ap (λ o. then_do o n (run_parts L ss)) (enable_turns g is s n)
      ∙ ap (then_do (turns_of (idle i) (old_turn g) s n) n) (fun_ext (λ s1. fun_ext (λ k. run_one_by_one later s1 k)))

  settled_ready : (s : State) → IsSettled i s → AreReady i s
  settled_ready s settled = record {
    cells = λ c row is. let r = h.rows c row is in subst SettledIsReady r.1 (row_settled r.0) (s (c ∷ [])) (sym (idle_at-row i c row (s (c ∷ [])) is) ∙ settled (c ∷ []));
    below = λ c e path. settled (c ∷ e ∷ path);
  }

  some_group : {s0 : PlainStatement} {run : PlainStatements} → IsRun P (a_statement s0 run) → 1 ≤ length (groups_in_all (a_statement s0 run))
  some_group (one_more is later) = omega arith

  -- A PIECE
  module _ (s0 : PlainStatement) (run : PlainStatements) (is : IsRun P (a_statement s0 run)) where
    abbrev ss : PlainStatements
    ss = a_statement s0 run

    abbrev gs : List ℕ
    gs = groups_in_all ss

    abbrev sum : ℕ
    sum = total len gs + 1

    piece_ends : (s a : State) (n k : ℕ) → IsSettled i s → run_parts L ss s n ≡ End a k → (k ≡ total len gs + length gs) × (island j held (StaticSeq None ss) s sum ≡ End a sum)
    piece_ends s a n k settled ends =
        let r = chain_ends (idle i) old_turn (one_cycle len j held) len (AreReady i) gs s s a n k (all_in_step is) (fun_ext settled) (settled_ready s settled) (sym (run_one_by_one is s n) ∙ ends) in
        (r.0, static_seq_is j held len (run_is is) s sum ∙ ap (λ rest. chain rest (one_cycle len j held) len gs s sum) (idle-twin MadeBeside i j t) ∙ r.1)

    pub piece_quicker : (counts : Counted State) → Quicker i counts (run_parts L ss) (island j held (StaticSeq None ss))
    piece_quicker counts before s z n m room e settled = by (run_parts L ss s n) refl
      where
        by : (o : Answer State Fault) → run_parts L ss s n ≡ o → Carried NoLater Same same_fault before (counts s n) o (island j held (StaticSeq None ss) z m)
        by (End a k) ends =
            let within : k ≤ n = (grown n (run_parts L ss s n) (run_parts L ss s n) a k (steady_statement i held (Placed (Seq ss) no_place) s n n (omega arith)) ends).0 in
            let ended = piece_ends s a n k settled ends in
            let turns : k ≡ total len gs + length gs = ended.0 in
            let some : 1 ≤ length gs = some_group is in
            let less : sum ≤ k = omega arith in
            let fits : sum ≤ m = omega arith in
            let later = grown sum (island j held (StaticSeq None ss) s sum) (island j held (StaticSeq None ss) s m) a sum (steady_island j held (StaticSeq None ss) s sum m fits) ended.1 in
            (a, sum, ap (λ y. island j held (StaticSeq None ss) y m) (sym e) ∙ later.1, less, refl)
        by (answers.Fault f k) ends = tt
        by More ends = tt

  -- ONE ENABLE of a promoted group
  pub promoted_quicker : (others : Children) (counts : Counted State) (g : ℕ) → P g → Quicker i counts (enable i (control_below cells) held g) (enable j others held g)
  promoted_quicker others counts g is before s z n m room e settled =
      subst (λ o. Carried NoLater Same same_fault before (counts s n) o (enable j others held g z m)) (then_stay (enable i (control_below cells) held g s n) n)
      (subst (λ x. Carried NoLater Same same_fault before (counts s n) (run_parts L (a_statement (Placed (Enable g) no_place) no_statements) s n) x)
      (sym (enable-island j others held g is.0 (promoted_length g is) z m ∙ single_island j held g is.0 no_place (promoted_length g is) z m))
      (piece_quicker (Placed (Enable g) no_place) no_statements (one_more is no_more) counts before s z n m room e settled))
