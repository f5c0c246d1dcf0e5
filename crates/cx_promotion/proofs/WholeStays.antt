-- A CYCLE WITH STATIC CHILDREN STAYS, and what is seen below: where no promoted group acts, in the instance and in its static children.
use Rattle.std.proofs.Common.{◌≡◌, ℕ, zero, suc, ◌+◌, inl, inr, Bool, true, false, List, [], ◌∷◌, Option, Some, None, refl, sym, ap, ◌∙◌, subst, arith}
use Rattle.std.specs.Prelude.{is_some, nat_eq}
use Rattle.std.proofs.Math.Path.{fun_ext}
use Rattle.std.proofs.lemmas.Bool.{eqb-true}
use Rattle.cx_text.specs.Members.{In}
use Rattle.cx_meaning.specs.declared.ports.PortRef.{PortRef}
use Rattle.cx_meaning.specs.Designs.{group_at}
use Rattle.cx_meaning.specs.Instances.{Instance, Node, Cells, no_cells, a_primitive, an_instance, part_of, Path, State, under, instance_at, child_at}
use Rattle.cx_meaning.specs.Active.{Active, nothing, Entry, entries, offset_in}
use Rattle.cx_meaning.specs.Sights.{Look, Held, unheld, seen}
use Rattle.cx_meaning.specs.Cycles.{Ended, cycle}
use Rattle.cx_meaning.specs.Islands.{group_length}
use Rattle.cx_meaning.proofs.ActiveLemmas.{entry_of}
use Rattle.cx_meaning.proofs.InstancesLemmas.{here}
use Rattle.cx_rules.proofs.CirclesLemmas.{own_acyclic}
use Rattle.cx_rules.proofs.ItemsLemmas.{plain_untimed}
use Rattle.cx_flattening.specs.Deeds.{Deed, Acts, Fed, deed_if, own_entries, deeds_below, held_below}
use Rattle.cx_flattening.specs.Seeing.{NoCircle, NoneBelow}
use Rattle.cx_flattening.specs.Whole.{with_child, is_static, child_if, whole_cycle, cycles_below, look_below, look_at}
use Rattle.cx_flattening.proofs.FlatDeeds.{lower}
use Rattle.cx_promotion.specs.Made.{IsPromoted}
use Rattle.cx_promotion.proofs.Twins.{Twins, TwinCells, beside_each}
use Rattle.cx_promotion.proofs.MadeBeside.{MadeBeside}
use Rattle.cx_promotion.proofs.Shapes.{shape_of}
use Rattle.cx_promotion.proofs.Stays.{IsIdle, seen_stays, cycle_stays}

-- a group with a length is not promoted
pub timed_still : (i j : Instance) (h : MadeBeside i j) (g : ℕ) → is_some (group_length (part_of i) g) ≡ true → IsPromoted h.whole (part_of i) (part_of j) g → ⊥
timed_still i j h g timed promoted = plain_untimed (group_at (part_of i) g).kind (shape_of h.whole (group_at (part_of i) g) promoted.0 promoted.1).plain timed

-- so no promoted one is active where all that are have lengths
pub entries_still : (i j : Instance) (h : MadeBeside i j) (es : List Entry) → ((e : Entry) → In es e → is_some (group_length (part_of i) e.group) ≡ true) → IsIdle i j h (entries es)
entries_still i j h es timed g promoted = by (offset_in es g) refl
  where
    by : (k : Option ℕ) → offset_in es g ≡ k → offset_in es g ≡ None
    by None e = e
    by (Some k) e = let r = entry_of es g k e in absurd (timed_still i j h g (subst (λ x. is_some (group_length (part_of i) x) ≡ true) r.2 (timed r.0 r.1)) promoted)

-- DEEDS whose groups have lengths, each in the instance at its path
abbrev pub IsTimed : Instance → Deed → Type 0
IsTimed i (Acts path e) = is_some (group_length (part_of (instance_at i path)) e.group) ≡ true
IsTimed i (Fed path cell inputs) = Unit {0}

abbrev pub TimedDeeds : Instance → List Deed → Type 0
TimedDeeds i ds = (d : Deed) → In ds d → IsTimed i d

own_in : (ds : List Deed) (e : Entry) → In (own_entries ds) e → In ds (Acts [] e)
own_in [] e k = absurd k
own_in (Acts [] x ∷ rest) e (inl same) = inl (ap (Acts []) same)
own_in (Acts [] x ∷ rest) e (inr k) = inr (own_in rest e k)
own_in (Acts (c ∷ at) x ∷ rest) e k = inr (own_in rest e k)
own_in (Fed at c inputs ∷ rest) e k = inr (own_in rest e k)

pub own_timed : (i : Instance) (ds : List Deed) → TimedDeeds i ds → (e : Entry) → In (own_entries ds) e → is_some (group_length (part_of i) e.group) ≡ true
own_timed i ds timed e k = subst (λ x. is_some (group_length (part_of x) e.group) ≡ true) (here i) (timed (Acts [] e) (own_in ds e k))

below_in : (c : ℕ) (ds : List Deed) (path : Path) (e : Entry) → In (deeds_below c ds) (Acts path e) → In ds (Acts (c ∷ path) e)
below_in c [] path e k = absurd k
below_in c (Acts [] x ∷ rest) path e k = inr (below_in c rest path e k)
below_in c (Acts (d ∷ at) x ∷ rest) path e k = by (nat_eq d c) refl k (below_in c rest path e)
  where
    by : (b : Bool) → nat_eq d c ≡ b → In (deed_if b (Acts at x) (deeds_below c rest)) (Acts path e) → (In (deeds_below c rest) (Acts path e) → In rest (Acts (c ∷ path) e)) → In (Acts (d ∷ at) x ∷ rest) (Acts (c ∷ path) e)
    by true is (inl same) later = inl (ap (lower (d ∷ [])) same ∙ ap (λ n. Acts (n ∷ path) e) (eqb-true d c is))
    by true is (inr j) later = inr (later j)
    by false is j later = inr (later j)
below_in c (Fed [] d inputs ∷ rest) path e k = inr (below_in c rest path e k)
below_in c (Fed (d ∷ at) x inputs ∷ rest) path e k = by (nat_eq d c) k (below_in c rest path e)
  where
    no_feed : Fed at x inputs ≡ Acts path e → ⊥
    no_feed same = cc

    by : (b : Bool) → In (deed_if b (Fed at x inputs) (deeds_below c rest)) (Acts path e) → (In (deeds_below c rest) (Acts path e) → In rest (Acts (c ∷ path) e)) → In (Fed (d ∷ at) x inputs ∷ rest) (Acts (c ∷ path) e)
    by true (inl same) later = absurd (no_feed same)
    by true (inr j) later = inr (later j)
    by false j later = inr (later j)

-- of the cells from c on
abbrev pub TimedBelow : Cells → ℕ → List Deed → Type 0
TimedBelow cells c ds = (n d : ℕ) (path : Path) (e : Entry) → d ≡ c + n → In ds (Acts (d ∷ path) e) → is_some (group_length (part_of (child_at cells n path)) e.group) ≡ true

first_timed : (child : Instance) (rest : Cells) (c : ℕ) (ds : List Deed) → TimedBelow (an_instance child rest) c ds → TimedDeeds child (deeds_below c ds)
first_timed child rest c ds timed (Acts path e) k = timed 0 c path e (let same : c ≡ c + 0 = omega arith in same) (below_in c ds path e k)
first_timed child rest c ds timed (Fed path cell inputs) k = tt

child_same : (b : Bool) (c : ℕ) (before x y : Ended) → (b ≡ true → x ≡ y) → child_if b c before x ≡ child_if b c before y
child_same true c before x y same = ap (with_child c before) (same refl)
child_same false c before x y same = refl

pub static_same : (i j : Instance) → MadeBeside i j → is_static j ≡ is_static i
static_same i j h = ap (λ (o : Option ℕ). is_some o) (sym h.made.latency)

-- THE CYCLE
mutual
  pub whole_stays : (i j : Instance) (t : Twins MadeBeside i j) (held : Held) (act : Active) (ds : List Deed) (s : State) → IsIdle i j (beside_each MadeBeside i j t) act → NoCircle i act ds → TimedDeeds i ds
      → whole_cycle j held act ds s ≡ whole_cycle i held act ds s
  whole_stays (Node part cells) (Node other more) (h, hs) held act ds s idle calm timed =
      cells_stay cells more hs 0 (seen (Node other more) held act s) ds s (cycle (Node other more) held act s) calm.2
      (λ n d path e is k. timed (Acts (n ∷ path) e) (subst (λ x. In ds (Acts (x ∷ path) e)) (let same : d ≡ n = omega (arith, is) in same) k))
      ∙ ap (λ look. cycles_below cells 0 look ds s (cycle (Node other more) held act s)) (fun_ext (λ p. seen_stays (Node part cells) (Node other more) (h, hs) held act s idle calm.0 p))
      ∙ ap (cycles_below cells 0 (seen (Node part cells) held act s) ds s) (cycle_stays (Node part cells) (Node other more) (h, hs) held act s idle calm.0)

  pub cells_stay : (cells more : Cells) → TwinCells MadeBeside cells more → (c : ℕ) (look : Look) (ds : List Deed) (s : State) (before : Ended) → NoneBelow cells c ds → TimedBelow cells c ds
      → cycles_below more c look ds s before ≡ cycles_below cells c look ds s before
  cells_stay no_cells no_cells h c look ds s before calm timed = refl
  cells_stay no_cells (a_primitive twin more) h c look ds s before calm timed = absurd h
  cells_stay no_cells (an_instance twin more) h c look ds s before calm timed = absurd h
  cells_stay (a_primitive row rest) no_cells h c look ds s before calm timed = absurd h
  cells_stay (a_primitive row rest) (a_primitive twin more) (e, h) c look ds s before calm timed =
      cells_stay rest more h (suc c) look ds s before calm (λ n d path x is k. timed (suc n) d path x (omega (arith, is)) k)
  cells_stay (a_primitive row rest) (an_instance twin more) h c look ds s before calm timed = absurd h
  cells_stay (an_instance child rest) no_cells h c look ds s before calm timed = absurd h
  cells_stay (an_instance child rest) (a_primitive twin more) h c look ds s before calm timed = absurd h
  cells_stay (an_instance child rest) (an_instance twin more) (t, h) c look ds s before calm timed =
      let lower_timed = first_timed child rest c ds timed in
      cells_stay rest more h (suc c) look ds s
      (child_if (is_static twin) c before (whole_cycle twin (held_below look c ds) (entries (own_entries (deeds_below c ds))) (deeds_below c ds) (under c s)))
      calm.1 (λ n d path x is k. timed (suc n) d path x (omega (arith, is)) k)
      ∙ ap (cycles_below rest (suc c) look ds s)
      (ap (λ b. child_if b c before (whole_cycle twin (held_below look c ds) (entries (own_entries (deeds_below c ds))) (deeds_below c ds) (under c s))) (static_same child twin (beside_each MadeBeside child twin t))
      ∙ child_same (is_static child) c before
      (whole_cycle twin (held_below look c ds) (entries (own_entries (deeds_below c ds))) (deeds_below c ds) (under c s))
      (whole_cycle child (held_below look c ds) (entries (own_entries (deeds_below c ds))) (deeds_below c ds) (under c s))
      (λ static.
      whole_stays child twin t (held_below look c ds) (entries (own_entries (deeds_below c ds))) (deeds_below c ds) (under c s)
      (entries_still child twin (beside_each MadeBeside child twin t) (own_entries (deeds_below c ds)) (own_timed child (deeds_below c ds) lower_timed))
      (calm.0 static) lower_timed))

-- WHAT IS SEEN BELOW, under the continuous assignments alone
mutual
  pub looks_stay : (i j : Instance) → Twins MadeBeside i j → (held : Held) (s : State) (path : Path) (p : PortRef) → look_below j held s path p ≡ look_below i held s path p
  looks_stay (Node part cells) (Node other more) (h, hs) held s [] p =
      seen_stays (Node part cells) (Node other more) (h, hs) held nothing s (λ g is. refl) (own_acyclic (Node part cells) h.acyclic) p
  looks_stay (Node part cells) (Node other more) (h, hs) held s (c ∷ path) p = cells_look cells more hs c (under c s) path p

  cells_look : (cells more : Cells) → TwinCells MadeBeside cells more → (c : ℕ) (s : State) (path : Path) (p : PortRef) → look_at more c s path p ≡ look_at cells c s path p
  cells_look no_cells no_cells h c s path p = refl
  cells_look no_cells (a_primitive twin more) h c s path p = absurd h
  cells_look no_cells (an_instance twin more) h c s path p = absurd h
  cells_look (a_primitive row rest) no_cells h c s path p = absurd h
  cells_look (a_primitive row rest) (a_primitive twin more) (e, h) zero s path p = refl
  cells_look (a_primitive row rest) (a_primitive twin more) (e, h) (suc c) s path p = cells_look rest more h c s path p
  cells_look (a_primitive row rest) (an_instance twin more) h c s path p = absurd h
  cells_look (an_instance child rest) no_cells h c s path p = absurd h
  cells_look (an_instance child rest) (a_primitive twin more) h c s path p = absurd h
  cells_look (an_instance child rest) (an_instance twin more) (t, h) zero s path p = looks_stay child twin t unheld s path p
  cells_look (an_instance child rest) (an_instance twin more) (t, h) (suc c) s path p = cells_look rest more h c s path p
