-- RUNS QUICKEN, with static components: where the run of an instance's control ends from a settled state, that of the new control ends no later in
-- the same state.
use Rattle.std.proofs.Common.{◌≡◌, ℕ, zero, suc, ◌⊎◌, inl, inr, true, None, refl, sym, ap, ◌∙◌, subst}
use Rattle.std.proofs.Math.Path.{fun_ext}
use Rattle.cx_text.proofs.MemberLaws.{in_left, in_right}
use Rattle.cx_text.specs.Members.{In}
use Rattle.cx_text.specs.declared.places.Place.{Place}
use Rattle.cx_meaning.specs.Designs.{PlainComponent, group_at, no_place, PlainForm, Empty, Enable, Seq, Par, If, While, Repeat, StaticSeq, StaticPar, StaticIf, StaticRepeat, Timed, PlainStatement, Placed, PlainStatements, a_statement}
use Rattle.cx_meaning.specs.Instances.{Instance, Node, Cells, no_cells, a_primitive, an_instance, OfInstance, cell_at, State, Set, merge, idle, IsSettled}
use Rattle.cx_meaning.specs.Sights.{Held}
use Rattle.cx_meaning.specs.Cycles.{Fault}
use Rattle.cx_meaning.specs.Control.{Leaves, run_form, run, run_parts}
use Rattle.cx_meaning.proofs.InstancesLemmas.{instance_is, nothing_instance, row_instance}
use Rattle.cx_meaning.proofs.RunningLemmas.{idle_settles, merge_settles}
use Rattle.cx_rules.specs.Items.{Dynamic, Visited, visit, visit_all, statements_in}
use Rattle.cx_rules.specs.StaticControl.{is_static}
use Rattle.cx_rewrites.specs.Tallies.{Tally, none, uncounted, count_form, count, count_parts}
use Rattle.cx_rewrites.specs.Carrying.{NoLater, Rests, Carries}
use Rattle.cx_rewrites.specs.Beside.{FormBeside, outright, empties, seqs, collapsed, pars, ifs, whiles, repeats, Beside, placed, PartsBeside, no_parts, a_part, as_one, ArmsBeside, no_arms, an_arm}
use Rattle.cx_rewrites.proofs.BesideLemmas.{run_carries}
use Rattle.cx_promotion.specs.Made as made
use Rattle.cx_promotion.specs.Made.{IsPromoted, IsRun, FormMade, StatementMade, PartsMade, ArmsMade}
use Rattle.cx_promotion.proofs.Twins.{Twins, TwinCells, beside_each, idle-twin}
use Rattle.cx_promotion.proofs.MadeBeside.{MadeBeside}
use Rattle.cx_promotion.proofs.Members.{group_made}
use Rattle.cx_promotion.proofs.ControlStays.{visit_joined, tests_carry, static_still}
use Rattle.cx_promotion.proofs.MadeControl.{made_groups}
use Rattle.cx_promotion.proofs.LeavesQuicken.{same_fault, recounted, SameSettled, Quicker, steady_quicker, with_settled}
use Rattle.cx_promotion.proofs.InvokesMade.{made_invokes, drives_all-made}
use Rattle.cx_flattening.proofs.WholeSteady.{steady_island, whole_settles}
use Rattle.cx_promotion.proofs.WholeIslands.{whole_island_stays}
use Rattle.cx_promotion.proofs.WholePieces.{piece_whole, promoted_whole}
use Rattle.cx_promotion.proofs.WholeLeaves.{enable_whole}
use Rattle.cx_rules.specs.Invokes.{drives_all}
use Rattle.cx_flattening.specs.Controlled.{AllControlled, AllControlledBelow}
use Rattle.cx_flattening.specs.Whole.{whole_island, whole_leaves, whole_control, whole_below}
use Rattle.cx_flattening.proofs.Ruled.{AllRuled, AllRuledBelow}
use Rattle.cx_promotion.proofs.Impossible.{no_true}

module _ (part other : PlainComponent) (cells more : Cells) (t : Twins MadeBeside (Node part cells) (Node other more)) (ruled : AllRuled (Node part cells)) (controlled : AllControlled (Node part cells)) (held : Held)
    (children : (c : ℕ) (child : Instance) → cell_at cells c ≡ OfInstance child → (own : Held)
    → Carries NoLater (SameSettled child) same_fault (λ s n. none) (whole_below cells c own) (whole_below more c own)) where
  abbrev i : Instance
  i = Node part cells

  abbrev j : Instance
  j = Node other more

  abbrev h : MadeBeside i j
  h = beside_each MadeBeside i j t

  abbrev P : ℕ → Type 0
  P g = IsPromoted h.whole part other g

  abbrev L : Leaves State Fault
  L = whole_leaves i (whole_below cells) held

  abbrev M : Leaves State Fault
  M = whole_leaves j (whole_below more) held

  abbrev R : Tally → State → State → Type 0
  R = SameSettled i

  rests : Rests R L.rest M.rest
  rests before s z r = (ap (idle i) r.0 ∙ ap (λ (rest : State → State). rest z) (sym (idle-twin MadeBeside i j t)), idle_settles i h.keeps_idle s)

  -- a form that is quicker outright
  outright_form : (form twin : PlainForm) → Quicker i (count_form L uncounted form) (run_form L form) (run_form M twin) → FormBeside NoLater R same_fault L uncounted M form twin
  outright_form form twin quicker =
      outright (λ before s z n m room r.
      with_settled i before (count_form L uncounted form s n) (run_form L form s n) (run_form M twin z m)
      (quicker before s z n m room r.0 r.1) (whole_settles i h.keeps_idle held (Placed form no_place) s n r.1))

  -- ARMS
  merges_carry : (arm twin : PlainStatement) → StatementMade P arm twin → (a b x y : State) → (a ≡ x) × IsSettled i a → (b ≡ y) × IsSettled i b
      → (merge (drives_all part arm) a b ≡ merge (drives_all other twin) x y) × IsSettled i (merge (drives_all part arm) a b)
  merges_carry arm twin is a b x y one two = (
    ap (λ (set : Set). merge set a b) (fun_ext (λ c. sym (drives_all-made h.whole part other h.made arm twin (made_groups P is) (made_invokes P is) c)))
        ∙ ap (λ s. merge (drives_all other twin) s b) one.0
        ∙ ap (merge (drives_all other twin) x) two.0,
    merge_settles i (drives_all part arm) a b one.1 two.1,
  )

  -- STATIC CONTROL of the source
  equal_beside : (form : PlainForm) → is_static form ≡ true → ((s : State) (n : ℕ) → whole_island j held form s n ≡ whole_island i held form s n) → FormBeside NoLater R same_fault L uncounted M form form
  equal_beside Empty e same = no_true e
  equal_beside (Enable g) e same = no_true e
  equal_beside (Seq parts) e same = no_true e
  equal_beside (Par arms) e same = no_true e
  equal_beside (If p k a b) e same = no_true e
  equal_beside (While p k a) e same = no_true e
  equal_beside (Repeat k a) e same = no_true e
  equal_beside (StaticSeq k parts) e same =
      outright_form (StaticSeq k parts) (StaticSeq k parts)
      (steady_quicker i (count_form L uncounted (StaticSeq k parts)) (whole_island i held (StaticSeq k parts)) (whole_island j held (StaticSeq k parts)) (steady_island i held (StaticSeq k parts)) same)
  equal_beside (StaticPar k arms) e same =
      outright_form (StaticPar k arms) (StaticPar k arms)
      (steady_quicker i (count_form L uncounted (StaticPar k arms)) (whole_island i held (StaticPar k arms)) (whole_island j held (StaticPar k arms)) (steady_island i held (StaticPar k arms)) same)
  equal_beside (StaticIf k p a b) e same =
      outright_form (StaticIf k p a b) (StaticIf k p a b)
      (steady_quicker i (count_form L uncounted (StaticIf k p a b)) (whole_island i held (StaticIf k p a b)) (whole_island j held (StaticIf k p a b)) (steady_island i held (StaticIf k p a b)) same)
  equal_beside (StaticRepeat k m a) e same =
      outright_form (StaticRepeat k m a) (StaticRepeat k m a)
      (steady_quicker i (count_form L uncounted (StaticRepeat k m a)) (whole_island i held (StaticRepeat k m a)) (whole_island j held (StaticRepeat k m a)) (steady_island i held (StaticRepeat k m a)) same)
  equal_beside (Timed k) e same = no_true e

  static_beside : (form : PlainForm) (place : Place) → is_static form ≡ true → ((v : Visited) → In (visit Dynamic (Placed form place)) v → In (statements_in part) v)
      → FormBeside NoLater R same_fault L uncounted M form form
  static_beside form place is sub =
      equal_beside form is
      (whole_island_stays i j t ruled controlled held form (record { context = Dynamic; place = place; inside = sub }) (λ g k. (static_still part other cells more t held form place is sub g k).1))

  -- A STATIC INVOKE
  timed_beside : (k : ℕ) (place : Place) → ((v : Visited) → In (visit Dynamic (Placed (Timed k) place)) v → In (statements_in part) v) → FormBeside NoLater R same_fault L uncounted M (Timed k) (Timed k)
  timed_beside k place sub =
      outright_form (Timed k) (Timed k)
      (steady_quicker i (count_form L uncounted (Timed k)) (whole_island i held (Timed k)) (whole_island j held (Timed k)) (steady_island i held (Timed k))
      (whole_island_stays i j t ruled controlled held (Timed k) (record { context = Dynamic; place = place; inside = sub }) (λ g none. absurd none)))

  -- AN ENABLE, of a group that stays or is promoted
  enable_beside : (g : ℕ) (place : Place) → In (statements_in part) (record { context = Dynamic; form = Enable g; place = place }) → FormBeside NoLater R same_fault L uncounted M (Enable g) (Enable g)
  enable_beside g place stands = outright_form (Enable g) (Enable g) (by (group_made h.whole h.made.groups g))
    where
      by : (group_at other g ≡ group_at part g) ⊎ P g → Quicker i (count_form L uncounted (Enable g)) (run_form L (Enable g)) (run_form M (Enable g))
      by (inl stays) =
          enable_whole i j t ruled controlled held g stays (h.statements (record { context = Dynamic; form = Enable g; place = place }) stands).0 (whole_below cells) (whole_below more) children
          (count_form L uncounted (Enable g)) place stands
      by (inr promoted) = promoted_whole part other cells more t held (whole_below more) (count_form L uncounted (Enable g)) g promoted

  -- A PIECE
  piece_carries : (s0 : PlainStatement) (piece : PlainStatements) (place : Place) → IsRun P (a_statement s0 piece)
      → Carries NoLater R same_fault (count_parts L uncounted (a_statement s0 piece)) (run_parts L (a_statement s0 piece)) (run M (Placed (StaticSeq None (a_statement s0 piece)) place))
  piece_carries s0 piece place is before s z n m room r =
      with_settled i before (count_parts L uncounted (a_statement s0 piece) s n) (run_parts L (a_statement s0 piece) s n) (whole_island j held (StaticSeq None (a_statement s0 piece)) z m)
      (piece_whole part other cells more t held s0 piece is (count_parts L uncounted (a_statement s0 piece)) before s z n m room r.0 r.1)
      (whole_settles i h.keeps_idle held (Placed (Seq (a_statement s0 piece)) no_place) s n r.1)

  -- STATEMENTS stand beside what was made of them
  mutual
    form_beside : {form twin : PlainForm} → FormMade P form twin → (place : Place) → ((v : Visited) → In (visit Dynamic (Placed form place)) v → In (statements_in part) v)
        → FormBeside NoLater R same_fault L uncounted M form twin
    form_beside made.empty place sub = empties
    form_beside (made.enable {g = g}) place sub = enable_beside g place (sub (record { context = Dynamic; form = Enable g; place = place }) (inl refl))
    form_beside (made.seq parts) place sub = seqs (parts_beside parts (λ v k. sub v (inr k)))
    form_beside (made.collapsed {p = p} parts) place sub = collapsed {there = p} (parts_beside parts (λ v k. sub v (inr k)))
    form_beside (made.par arms) place sub = pars (arms_beside arms (λ v k. sub v (inr k)))
    form_beside (made.if_made {test = p} {comb = with_group} {a = a} {b = b} one two) place sub =
        ifs {p = p} {q = p} (λ before s z r. tests_carry part other cells more t held p.port with_group (h.statements (record { context = Dynamic; form = If p with_group a b; place = place }) (sub _ (inl refl))) s z r.0)
        (beside one (λ v k. sub v (inr (in_left (visit Dynamic a) (visit Dynamic b) v k))))
        (beside two (λ v k. sub v (inr (in_right (visit Dynamic a) (visit Dynamic b) v k))))
    form_beside (made.while_made {test = p} {comb = with_group} {a = a} one) place sub =
        whiles {p = p} {q = p} (λ before s z r. tests_carry part other cells more t held p.port with_group (h.statements (record { context = Dynamic; form = While p with_group a; place = place }) (sub _ (inl refl))) s z r.0) (beside one (λ v k. sub v (inr k)))
    form_beside (made.repeat_made one) place sub = repeats (beside one (λ v k. sub v (inr k)))
    form_beside (made.static {form = form} is) place sub = static_beside form place is sub
    form_beside (made.timed {k = k}) place sub = timed_beside k place sub

    beside : {s twin : PlainStatement} → StatementMade P s twin → ((v : Visited) → In (visit Dynamic s) v → In (statements_in part) v) → Beside NoLater R same_fault L uncounted M s twin
    beside (made.placed {p = p} form) sub = placed (form_beside form p sub)

    parts_beside : {ss twins : PlainStatements} → PartsMade P ss twins → ((v : Visited) → In (visit_all Dynamic ss) v → In (statements_in part) v) → PartsBeside NoLater R same_fault L uncounted M ss twins
    parts_beside made.no_parts sub = no_parts
    parts_beside (made.a_part {s = s} {ss = ss} first later) sub =
        a_part (beside first (λ v k. sub v (in_left (visit Dynamic s) (visit_all Dynamic ss) v k))) (parts_beside later (λ v k. sub v (in_right (visit Dynamic s) (visit_all Dynamic ss) v k)))
    parts_beside (made.a_run {s = s} {run = piece} {ss = ss} {p = p} is later) sub =
        as_one s piece ss (piece_carries s piece p is) (parts_beside later (λ v k. sub v (visit_joined Dynamic (a_statement s piece) ss v k)))

    arms_beside : {ss twins : PlainStatements} → ArmsMade P ss twins → ((v : Visited) → In (visit_all Dynamic ss) v → In (statements_in part) v) → ArmsBeside NoLater R same_fault L uncounted M ss twins
    arms_beside made.no_arms sub = no_arms
    arms_beside (made.an_arm {s = s} {t = twin} {ss = ss} first later) sub =
        an_arm (λ before z n a b x y k l e f one two. merges_carry s twin first a b x y one two)
        (beside first (λ v k. sub v (in_left (visit Dynamic s) (visit_all Dynamic ss) v k))) (arms_beside later (λ v k. sub v (in_right (visit Dynamic s) (visit_all Dynamic ss) v k)))

  -- THE CONTROL of the instance
  pub node_quickens : Carries NoLater R same_fault (λ s n. none) (whole_control i held) (whole_control j held)
  node_quickens before s z n m room r =
      recounted (λ a b. (a ≡ b) × IsSettled i a) before (count L uncounted part.control s n) none (whole_control i held s n) (whole_control j held z m)
      (run_carries NoLater R same_fault L uncounted M rests (beside h.made.control (λ v k. k)) before s z n m room r)

-- CONTROL, by the tree
mutual
  pub whole_quickens : (i j : Instance) → Twins MadeBeside i j → AllRuled i → AllControlled i → (held : Held) → Carries NoLater (SameSettled i) same_fault (λ s n. none) (whole_control i held) (whole_control j held)
  whole_quickens (Node part cells) (Node other more) (h, hs) ruled controlled held before s z n m room r =
      node_quickens part other cells more (h, hs) ruled controlled held (λ c child is own. below_quickens cells more hs ruled.1 controlled.1 c child is own) before s z n m room r

  below_quickens : (cells more : Cells) → TwinCells MadeBeside cells more → AllRuledBelow cells → AllControlledBelow cells → (c : ℕ) (child : Instance) → cell_at cells c ≡ OfInstance child → (held : Held)
      → Carries NoLater (SameSettled child) same_fault (λ s n. none) (whole_below cells c held) (whole_below more c held)
  below_quickens no_cells no_cells h ruled controlled c child is held = absurd (nothing_instance child is)
  below_quickens no_cells (a_primitive twin more) h ruled controlled c child is held = absurd h
  below_quickens no_cells (an_instance twin more) h ruled controlled c child is held = absurd h
  below_quickens (a_primitive row rest) no_cells h ruled controlled c child is held = absurd h
  below_quickens (a_primitive row rest) (a_primitive twin more) (e, h) ruled controlled zero child is held = absurd (row_instance row child is)
  below_quickens (a_primitive row rest) (a_primitive twin more) (e, h) ruled controlled (suc c) child is held = below_quickens rest more h ruled controlled c child is held
  below_quickens (a_primitive row rest) (an_instance twin more) h ruled controlled c child is held = absurd h
  below_quickens (an_instance kid rest) no_cells h ruled controlled c child is held = absurd h
  below_quickens (an_instance kid rest) (a_primitive twin more) h ruled controlled c child is held = absurd h
  below_quickens (an_instance kid rest) (an_instance twin more) (t, h) ruled controlled zero child is held =
      subst (λ k. Carries NoLater (SameSettled k) same_fault (λ s n. none) (whole_control kid held) (whole_control twin held)) (instance_is kid child is) (whole_quickens kid twin t ruled.0 controlled.0 held)
  below_quickens (an_instance kid rest) (an_instance twin more) (t, h) ruled controlled (suc c) child is held = below_quickens rest more h ruled.1 controlled.1 c child is held
