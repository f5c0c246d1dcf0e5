-- STATIC CHILDREN AT REST: where they are settled and nothing is done in them, a cycle leaves them as they are, so it is that of the instance alone.
use Rattle.std.proofs.Common.{◌≡◌, ℕ, zero, suc, ◌+◌, inl, inr, Bool, true, false, List, [], ◌∷◌, None, refl, sym, ap, ◌∙◌, subst, arith}
use Rattle.std.proofs.Math.Path.{fun_ext}
use Rattle.std.specs.Prelude.{if◌then◌else◌}
use Rattle.cx_prim.specs.Rows.{Row}
use Rattle.cx_meaning.specs.Instances.{Instance, Node, Cells, no_cells, a_primitive, an_instance, At, Nothing, OfRow, OfInstance, cells_of, cell_at, cell_count, Path, State, under, put, just, IsSettled}
use Rattle.cx_meaning.specs.Active.{Active, entries}
use Rattle.cx_meaning.specs.Sights.{Look, Held, unheld, seen}
use Rattle.cx_meaning.specs.Cycles.{Fault, Outcome, Next, outcome_at, outcome_of, first_of, first_fault, stepped, state_after, Ended, Goes, Faults, unless_fault, every_cell, cycle}
use Rattle.cx_meaning.proofs.InstancesLemmas.{just_true, nothing_instance, row_instance}
use Rattle.cx_rules.proofs.ForeignLemmas.{foreign_zero}
use Rattle.cx_frames.proofs.CycleLemmas.{idle_at-row, cycle_keeps_children}
use Rattle.cx_frames.proofs.QuietLemmas.{quiet_outcome}
use Rattle.cx_frames.proofs.RuleLemmas.{IsKept}
use Rattle.cx_rewrites.proofs.StandingLemmas.{idle_below-child}
use Rattle.cx_flattening.specs.Deeds.{Deed, Acts, Fed, own_entries, deeds_below, held_below}
use Rattle.cx_flattening.specs.Seeing.{NoCircle, NoneBelow}
use Rattle.cx_flattening.specs.Whole.{with_child, is_static, child_if, whole_cycle, cycles_below}
use Rattle.cx_flattening.proofs.FlatDeeper.{none_below}
use Rattle.cx_promotion.proofs.Twins.{Twins, TwinCells, twin_cells, TwinAt, none_there, a_row_there, a_child_there, twins_at}
use Rattle.cx_promotion.proofs.MadeBeside.{MadeBeside}
use Rattle.cx_promotion.proofs.Stays.{deeper}
use Rattle.cx_promotion.proofs.WholeStays.{TimedBelow, cells_stay}

-- AN IDLE CYCLE of a settled instance alone changes nothing
module _ (i : Instance) (kept : IsKept i) (held : Held) (s : State) (settled : IsSettled i s) where
  abbrev each : ℕ → Outcome
  each = outcome_of every_cell (seen i held (entries []) s) (cells_of i) s

  row_rests : (c : ℕ) (row : Row) → cell_at (cells_of i) c ≡ OfRow row → outcome_at (seen i held (entries []) s) c (OfRow row) (s (c ∷ [])) ≡ Next (s (c ∷ []))
  row_rests c row at =
      quiet_outcome row (kept.lawful c row at) (seen i held (entries []) s) c (s (c ∷ []))
      (λ p side. foreign_zero i (entries []) c p (λ o stands none target. kept.quiet o c p row stands none target at side) (λ g drives. refl) row at side held s)
      ∙ ap Next (sym (idle_at-row i c row (s (c ∷ [])) at) ∙ settled (c ∷ []))

  each_rests : (c : ℕ) → each c ≡ Next (s (c ∷ []))
  each_rests c = by (cell_at (cells_of i) c) refl
    where
      by : (at : At) → cell_at (cells_of i) c ≡ at → outcome_at (seen i held (entries []) s) c at (s (c ∷ [])) ≡ Next (s (c ∷ []))
      by Nothing is = refl
      by (OfRow row) is = row_rests c row is
      by (OfInstance child) is = refl

  no_fault : (c n : ℕ) → first_fault each c n ≡ None
  no_fault c zero = refl
  no_fault c (suc n) = ap (λ o. first_of c o (first_fault each (suc c) n)) (each_rests c) ∙ no_fault (suc c) n

  same_after : (path : Path) → state_after each s path ≡ s path
  same_after [] = refl
  same_after (c ∷ []) = ap (stepped (s (c ∷ []))) (each_rests c)
  same_after (c ∷ e ∷ path) = refl

  cycle_rests : cycle i held (entries []) s ≡ Goes s
  cycle_rests = ap (λ fault. unless_fault fault (state_after each s)) (no_fault 0 (cell_count (cells_of i))) ∙ ap Goes (fun_ext same_after)

-- WHAT IS DONE in the instance alone
abbrev pub AllOwn : List Deed → Type 0
AllOwn [] = Unit {0}
AllOwn (Acts [] e ∷ rest) = AllOwn rest
AllOwn (Acts (c ∷ path) e ∷ rest) = ⊥
AllOwn (Fed path cell inputs ∷ rest) = ⊥

none_deeper : (ds : List Deed) → AllOwn ds → (c : ℕ) → deeds_below c ds ≡ []
none_deeper [] own c = refl
none_deeper (Acts [] e ∷ rest) own c = none_deeper rest own c
none_deeper (Acts (d ∷ path) e ∷ rest) own c = absurd own
none_deeper (Fed path cell inputs ∷ rest) own c = absurd own

none_fed : (look : Look) (ds : List Deed) → AllOwn ds → (c n : ℕ) → held_below look c ds n ≡ unheld n
none_fed look [] own c n = refl
none_fed look (Acts [] e ∷ rest) own c n = none_fed look rest own c n
none_fed look (Acts (d ∷ path) e ∷ rest) own c n = absurd own
none_fed look (Fed path cell inputs ∷ rest) own c n = absurd own

own_timed_below : (cells : Cells) (ds : List Deed) → AllOwn ds → (c : ℕ) → TimedBelow cells c ds
own_timed_below cells [] own c n d path e is k = absurd k
own_timed_below cells (Acts [] x ∷ rest) own c n d path e is (inl same) = absurd (let wrong : Acts [] x ≡ Acts (d ∷ path) e = same in cc)
own_timed_below cells (Acts [] x ∷ rest) own c n d path e is (inr k) = own_timed_below cells rest own c n d path e is k
own_timed_below cells (Acts (f ∷ at) x ∷ rest) own c n d path e is k = absurd own
own_timed_below cells (Fed at cell inputs ∷ rest) own c n d path e is k = absurd own

own_calm : (cells : Cells) (ds : List Deed) → AllOwn ds → (c : ℕ) → NoneBelow cells c [] → NoneBelow cells c ds
own_calm no_cells ds own c calm = tt
own_calm (a_primitive row rest) ds own c calm = own_calm rest ds own (suc c) calm
own_calm (an_instance child rest) ds own c calm =
    (λ static. subst (λ list. NoCircle child (entries (own_entries list)) list) (sym (none_deeper ds own c)) (calm.0 static), own_calm rest ds own (suc c) calm.1)

-- a child that is put back where it stood
put_back : (c : ℕ) (own s : State) → ((path : Path) → s (c ∷ path) ≡ own path) → put c own s ≡ s
put_back c own s same = fun_ext each
  where
    each : (path : Path) → put c own s path ≡ s path
    each [] = refl
    each (d ∷ path) = by (just c d) refl
      where
        by : (b : Bool) → just c d ≡ b → (if b then own path else s (d ∷ path)) ≡ s (d ∷ path)
        by true e = sym (same path) ∙ ap (λ n. s (n ∷ path)) (just_true c d e)
        by false e = refl

-- A CYCLE leaves settled children as they are
abbrev pub KidsRest : Cells → State → Type 0
KidsRest cells s = (c : ℕ) (child : Instance) → cell_at cells c ≡ OfInstance child → IsSettled child (under c s)

-- the cells from c on
abbrev RestFrom : Cells → ℕ → State → State → Type 0
RestFrom cells c s after = (n d : ℕ) (child : Instance) → d ≡ c + n → cell_at cells n ≡ OfInstance child → IsSettled child (under d s) × ((path : Path) → after (d ∷ path) ≡ s (d ∷ path))

mutual
  idle_cycle : (i j : Instance) → Twins MadeBeside i j → (held : Held) (s : State) → IsSettled i s → whole_cycle i held (entries []) [] s ≡ Goes s
  idle_cycle (Node part cells) (Node other more) (h, hs) held s settled =
      ap (cycles_below cells 0 (seen (Node part cells) held (entries []) s) [] s) (cycle_rests (Node part cells) h.kept held s settled)
      ∙ cells_rest cells more hs 0 (seen (Node part cells) held (entries []) s) [] tt s s
      (λ n d child is at. (λ path. sym (idle_below-child cells d child path (s (d ∷ path)) (subst (λ x. cell_at cells x ≡ OfInstance child) (let same : n ≡ d = omega (arith, is) in same) at)) ∙ settled (d ∷ path), λ path. refl))

  cells_rest : (cells more : Cells) → TwinCells MadeBeside cells more → (c : ℕ) (look : Look) (ds : List Deed) → AllOwn ds → (s after : State) → RestFrom cells c s after → cycles_below cells c look ds s (Goes after) ≡ Goes after
  cells_rest no_cells no_cells h c look ds own s after rests = refl
  cells_rest no_cells (a_primitive twin more) h c look ds own s after rests = absurd h
  cells_rest no_cells (an_instance twin more) h c look ds own s after rests = absurd h
  cells_rest (a_primitive row rest) no_cells h c look ds own s after rests = absurd h
  cells_rest (a_primitive row rest) (a_primitive twin more) (e, h) c look ds own s after rests =
      cells_rest rest more h (suc c) look ds own s after (λ n d child is at. rests (suc n) d child (omega (arith, is)) at)
  cells_rest (a_primitive row rest) (an_instance twin more) h c look ds own s after rests = absurd h
  cells_rest (an_instance child rest) no_cells h c look ds own s after rests = absurd h
  cells_rest (an_instance child rest) (a_primitive twin more) h c look ds own s after rests = absurd h
  cells_rest (an_instance child rest) (an_instance twin more) (t, h) c look ds own s after rests =
      ap (cycles_below rest (suc c) look ds s)
      (child_rests (is_static child)
      (ap (λ list. whole_cycle child (held_below look c ds) (entries (own_entries list)) list (under c s)) (none_deeper ds own c)
      ∙ ap (λ (own_held : Held). whole_cycle child own_held (entries []) [] (under c s)) (fun_ext (λ n. none_fed look ds own c n))
      ∙ idle_cycle child twin t unheld (under c s) here.0))
      ∙ cells_rest rest more h (suc c) look ds own s after (λ n d kid is at. rests (suc n) d kid (omega (arith, is)) at)
    where
      here : IsSettled child (under c s) × ((path : Path) → after (c ∷ path) ≡ s (c ∷ path))
      here = rests 0 c child (let same : c ≡ c + 0 = omega arith in same) refl

      child_rests : (b : Bool) → whole_cycle child (held_below look c ds) (entries (own_entries (deeds_below c ds))) (deeds_below c ds) (under c s) ≡ Goes (under c s)
          → child_if b c (Goes after) (whole_cycle child (held_below look c ds) (entries (own_entries (deeds_below c ds))) (deeds_below c ds) (under c s)) ≡ Goes after
      child_rests true rested = ap (with_child c (Goes after)) rested ∙ ap Goes (put_back c (under c s) after here.1)
      child_rests false rested = refl

-- a fault stays the fault
faults_stay : (cells : Cells) (c : ℕ) (look : Look) (ds : List Deed) (s : State) (fault : Fault) → cycles_below cells c look ds s (Faults fault) ≡ Faults fault
faults_stay no_cells c look ds s fault = refl
faults_stay (a_primitive row rest) c look ds s fault = faults_stay rest (suc c) look ds s fault
faults_stay (an_instance child rest) c look ds s fault = ap (cycles_below rest (suc c) look ds s) (by (is_static child)) ∙ faults_stay rest (suc c) look ds s fault
  where
    by : (b : Bool) → child_if b c (Faults fault) (whole_cycle child (held_below look c ds) (entries (own_entries (deeds_below c ds))) (deeds_below c ds) (under c s)) ≡ Faults fault
    by true = refl
    by false = refl

-- after whatever cycle
cells_keep : (cells more : Cells) → TwinCells MadeBeside cells more → (look : Look) (ds : List Deed) → AllOwn ds → (s : State) → KidsRest cells s → (x : Ended)
    → ((after : State) → x ≡ Goes after → (c : ℕ) (child : Instance) → cell_at cells c ≡ OfInstance child → (path : Path) → after (c ∷ path) ≡ s (c ∷ path)) → cycles_below cells 0 look ds s x ≡ x
cells_keep cells more h look ds own s kids (Faults fault) keeps = faults_stay cells 0 look ds s fault
cells_keep cells more h look ds own s kids (Goes after) keeps =
    cells_rest cells more h 0 look ds own s after
    (λ n d child is at. let there : cell_at cells d ≡ OfInstance child = subst (λ x. cell_at cells x ≡ OfInstance child) (let same : n ≡ d = omega (arith, is) in same) at in (kids d child there, keeps after refl d child there))

-- THE CYCLE OF THE OLD INSTANCE, and that of the new one, is its own
pub old_rests : (i j : Instance) → Twins MadeBeside i j → (held : Held) (act : Active) (ds : List Deed) → AllOwn ds → (s : State) → KidsRest (cells_of i) s → whole_cycle i held act ds s ≡ cycle i held act s
old_rests (Node part cells) (Node other more) (h, hs) held act ds own s kids =
    cells_keep cells more hs (seen (Node part cells) held act s) ds own s kids (cycle (Node part cells) held act s)
    (λ after goes c child at path. cycle_keeps_children (Node part cells) held act every_cell s after goes c child at path)

child_twin : (at twin : At) (child : Instance) → TwinAt MadeBeside at twin → at ≡ OfInstance child → (other : Instance) × (twin ≡ OfInstance other)
child_twin at twin child none_there e = absurd (nothing_instance child e)
child_twin at twin child (a_row_there {row = row}) e = absurd (row_instance row child e)
child_twin at twin child (a_child_there {twin = other} t) e = (other, refl)

pub new_rests : (i j : Instance) → Twins MadeBeside i j → (held : Held) (act : Active) (ds : List Deed) → AllOwn ds → (s : State) → KidsRest (cells_of i) s → whole_cycle j held act ds s ≡ cycle j held act s
new_rests (Node part cells) (Node other more) (h, hs) held act ds own s kids =
    cells_stay cells more hs 0 (seen (Node other more) held act s) ds s (cycle (Node other more) held act s)
    (own_calm cells ds own 0 (none_below cells (deeper (Node part cells) (Node other more) (h, hs)))) (own_timed_below cells ds own 0)
    ∙ cells_keep cells more hs (seen (Node other more) held act s) ds own s kids (cycle (Node other more) held act s)
    (λ after goes c child at path.
    let twin = child_twin (cell_at cells c) (cell_at more c) child (twins_at MadeBeside cells more hs c) at in
    cycle_keeps_children (Node other more) held act every_cell s after goes c twin.0 twin.1 path)

-- and they rest behind it
kids_after : (cells : Cells) (s after : State) → KidsRest cells s → ((c : ℕ) (child : Instance) → cell_at cells c ≡ OfInstance child → (path : Path) → after (c ∷ path) ≡ s (c ∷ path)) → KidsRest cells after
kids_after cells s after kids keeps c child at = subst (IsSettled child) (sym (fun_ext (λ path. keeps c child at path))) (kids c child at)

pub old_rest_on : (i : Instance) (held : Held) (act : Active) (s after : State) → KidsRest (cells_of i) s → cycle i held act s ≡ Goes after → KidsRest (cells_of i) after
old_rest_on i held act s after kids goes = kids_after (cells_of i) s after kids (λ c child at path. cycle_keeps_children i held act every_cell s after goes c child at path)

pub new_rest_on : (i j : Instance) → Twins MadeBeside i j → (held : Held) (act : Active) (s after : State) → KidsRest (cells_of i) s → cycle j held act s ≡ Goes after → KidsRest (cells_of i) after
new_rest_on i j t held act s after kids goes =
    kids_after (cells_of i) s after kids
    (λ c child at path.
    let twin = child_twin (cell_at (cells_of i) c) (cell_at (cells_of j) c) child (twins_at MadeBeside (cells_of i) (cells_of j) (twin_cells MadeBeside i j t) c) at in
    cycle_keeps_children j held act every_cell s after goes c twin.0 twin.1 path)
