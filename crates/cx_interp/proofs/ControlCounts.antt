-- What arms, groups, calls and the run of main count.
use Rattle.std.proofs.Common.{◌≡◌, ℕ, zero, suc, ◌+◌, ◌-◌, ◌<◌, true, false, List, [], ◌∷◌, ◌++◌, length, take, Ok, Option, Some, None, refl, sym, ap, ◌∙◌, subst, arith}
use Rattle.std.specs.Prelude.{is_some}
use Rattle.std.proofs.Math.Path.{fun_ext}
use Rattle.cx_meaning.specs.declared.ports.PlacedPort.{PlacedPort}
use Rattle.cx_meaning.specs.declared.kinds.GroupKind.{GroupKind}
use Rattle.cx_meaning.specs.declared.kinds.GroupKind.TheVariants as kinds
use Rattle.cx_meaning.specs.Designs.{PlainDesign, PlainForm, Empty, Enable, Seq, Par, If, While, Repeat, StaticSeq, StaticPar, StaticIf, StaticRepeat, Timed, PlainStatement, group_at}
use Rattle.cx_meaning.specs.Instances.{Instance, Node, Cells, no_cells, a_primitive, an_instance, OfInstance, Path, State, under, start, cell_at, cells_of, part_of, instance_at, tree_of, IsSettled}
use Rattle.cx_meaning.specs.Sights.{Held, unheld}
use Rattle.cx_meaning.specs.Calls.{called, inputs_of_call}
use Rattle.cx_meaning.specs.Islands.{kind_length}
use Rattle.cx_meaning.proofs.InstancesLemmas.{here, main_first}
use Rattle.cx_rules.specs.StaticControl.{is_island_form}
use Rattle.cx_rewrites.specs.Tallies.{Tally, below}
use Rattle.cx_profiling.specs.Counting.{count_control, count_below, count_island, count_call_or_turns, count_enable, tally_of}
use Rattle.cx_profiling.specs.StatementCounts.{count_statement, count_of_arms}
use Rattle.cx_design.specs.declared.statements.Statement.{Statement}
use Rattle.cx_design.specs.PlainForms.{plain_statements}
use Rattle.cx_state.specs.Tables.{IsNumber}
use Rattle.cx_state.specs.States.{PlainInstance, inputs_held, StandsFor, under_path, put_path, IsUnheld}
use Rattle.cx_frames.specs.Arms.{all_drive, arms_run}
use Rattle.cx_frames.specs.Ran.{Outcome, Ran}
use Rattle.cx_turns.specs.Children.{HasChild, HasControl, HoldsCall}
use Rattle.cx_turns.specs.Tests.{Tested}
use Rattle.cx_state.proofs.TableLemmas.{further}
use Rattle.cx_turns.proofs.ChildLemmas.{called_is, under_child}
use Rattle.cx_text.proofs.NumberLaws.{never}
use Rattle.cx_interp.specs.declared.answers.Answer.{Answer}
use Rattle.cx_interp.specs.declared.answers.Answer.TheVariants.{End, Fault, More}
use Rattle.cx_interp.specs.Done.{Done, later, limit_of, join}
use Rattle.cx_interp.specs.Counts.{KeepsShape, at_path, Grows}
use Rattle.cx_interp.specs.Counted.{Tallying, GrowsBy, Counted, MainCounted, turns_count_of, statement_counts, form_counts}
use Rattle.cx_interp.proofs.GrowthLemmas.{at_path_same, at_path_child, grows_same, rows_kept, grows_both_at, by_holds, by_fails}
use Rattle.cx_interp.proofs.DoneLemmas.{settled_after}
use Rattle.cx_interp.proofs.ParLemmas.{some_do, some_drive}

-- an end is told by an end
pub later_ends : (k : ℕ) (a : Answer) (turns : ℕ) → later k a ≡ End turns → (first : ℕ) × (a ≡ End first)
later_ends k (End t) turns e = (t, refl)
later_ends k (Fault f t) turns e = absurd (let h : Fault f (k + t) ≡ End turns = e in cc)
later_ends k More turns e = absurd (let h : More ≡ End turns = e in cc)

pub join_ends : (a b : Answer) (turns : ℕ) → join a b ≡ End turns → ((first : ℕ) × (a ≡ End first)) × ((second : ℕ) × (b ≡ End second))
join_ends (End t) (End u) turns e = ((t, refl), (u, refl))
join_ends (End t) (Fault g u) turns e = absurd (let h : Fault g u ≡ End turns = e in cc)
join_ends (End t) More turns e = absurd (let h : More ≡ End turns = e in cc)
join_ends (Fault f t) (End u) turns e = absurd (let h : Fault f t ≡ End turns = e in cc)
join_ends (Fault f t) (Fault g u) turns e = absurd (let h : Fault g u ≡ End turns = e in cc)
join_ends (Fault f t) More turns e = absurd (let h : Fault f t ≡ End turns = e in cc)
join_ends More (End u) turns e = absurd (let h : More ≡ End turns = e in cc)
join_ends More (Fault g u) turns e = absurd (let h : Fault g u ≡ End turns = e in cc)
join_ends More More turns e = absurd (let h : More ≡ End turns = e in cc)

-- THE ARMS OF A PAR, one after the other on the one state
abbrev pub arms_count : List PlainStatement → Tallying
arms_count arms i held s n = count_of_arms i held arms s n

abbrev pub ArmsAddUp : PlainDesign → ℕ → List PlainStatement → ℕ → PlainStatement → Type 0
ArmsAddUp d n list k arm = (path : Path) (held : Held) (s cur : State) (m budget : ℕ) (o : Outcome) → IsNumber d n path
    → Ran (instance_at (tree_of d) path) (all_drive (part_of (instance_at (tree_of d) path)) (take k list)) (arms_run (instance_at (tree_of d) path) held (take k list)) s m cur o
    → (q : Path) (g : ℕ)
    → count_of_arms (instance_at (tree_of d) path) held (take (k + 1) list) s budget q g
    ≡ count_of_arms (instance_at (tree_of d) path) held (take k list) s budget q g + count_statement (instance_at (tree_of d) path) held arm cur budget q g

module _ (d : PlainDesign) (n : ℕ) (list : List PlainStatement) (k : ℕ) (arm : PlainStatement) (law : ArmsAddUp d n list k arm) where
  arms_grow : (old middle : List PlainInstance) (initially so_far finally : List (List ℕ)) (budget : ℕ) (a : Answer)
      → Done d old middle n (some_drive (take k list)) (some_do (take k list)) budget a → KeepsShape initially so_far
      → GrowsBy d old initially so_far n (arms_count (take k list)) budget → GrowsBy d middle so_far finally n (statement_counts arm) budget
      → GrowsBy d old initially finally n (arms_count (take (k + 1) list)) budget
  arms_grow old middle initially so_far finally budget a done shape one two has path s number stands settled =
      let i : Instance = instance_at (tree_of d) path in
      let held : Held = inputs_held old n in
      let l = done.leaves path s number stands settled in
      grows_both_at d n old middle initially so_far finally path s (count_of_arms i held (take k list) (under_path path s) budget)
      (count_of_arms i held (take (k + 1) list) (under_path path s) budget) (statement_counts arm) budget l.after l.held
      (law path held (under_path path s) l.after budget budget l.outcome number l.ran) (one has path s number stands settled)
      (two (rows_kept d initially so_far shape has) path (put_path path l.after s) number l.stands
      (settled_after d n old middle (some_drive (take k list)) (some_do (take k list)) budget a path s settled l))

  pub arms_counted : (old middle : List PlainInstance) (initially so_far finally : List (List ℕ)) (budget : ℕ) (a b : Answer)
      → Done d old middle n (some_drive (take k list)) (some_do (take k list)) budget a → Counted d old initially so_far n (arms_count (take k list)) budget a
      → Counted d middle so_far finally n (statement_counts arm) (limit_of budget a) b → Counted d old initially finally n (arms_count (take (k + 1) list)) budget (join a b)
  arms_counted old middle initially so_far finally budget a b done one two = record {
    shape = two.shape ∙ one.shape;
    grows = λ turns e.
        let ends = join_ends a b turns e in
        let all : limit_of budget a ≡ budget = ap (limit_of budget) (ends.0).1 in
        arms_grow old middle initially so_far finally budget a done one.shape (one.grows (ends.0).0 (ends.0).1)
        (subst (λ m. GrowsBy d middle so_far finally n (statement_counts arm) m) all (two.grows (ends.1).0 (ends.1).1));
  }

pub par_none : (arms : List Statement) → length arms ≡ 0 → (i : Instance) (held : Held) (s : State) (n : ℕ) (q : Path) (g : ℕ)
    → form_counts (Par (plain_statements arms)) i held s n q g ≡ 0
par_none [] e i held s n q g = refl
par_none (x ∷ xs) e i held s n q g = absurd (let f : suc (length xs) ≡ 0 = e in omega (arith, f))

-- AN IF: a run that begins a test later
pub counted_later : (d : PlainDesign) (n : ℕ) (rows : List PlainInstance) (old new : List (List ℕ)) (first whole : Tallying) (left budget k : ℕ) (a : Answer)
    → (GrowsBy d rows old new n first left → GrowsBy d rows old new n whole budget)
    → Counted d rows old new n first left a → Counted d rows old new n whole budget (later k a)
counted_later d n rows old new first whole left budget k a wider one =
    record { shape = one.shape; grows = λ turns e. let ends = later_ends k a turns e in wider (one.grows ends.0 ends.1) }

module _ (d : PlainDesign) (n : ℕ) (port : PlacedPort) (comb : Option ℕ) (yes no : PlainStatement) (rows : List PlainInstance) (old new : List (List ℕ)) (budget : ℕ)
    (a : Answer) (some : 0 < budget) where
  one_less : suc (budget - 1) ≡ budget
  one_less = omega arith

  pub if_counts_yes : Tested d rows n port.port comb (Ok true) → Counted d rows old new n (statement_counts yes) (budget - 1) a
      → Counted d rows old new n (form_counts (If port comb yes no)) budget (later 1 a)
  if_counts_yes tested one = counted_later d n rows old new (statement_counts yes) (form_counts (If port comb yes no)) (budget - 1) budget 1 a
      (λ grows. subst (λ b. GrowsBy d rows old new n (form_counts (If port comb yes no)) b) one_less
      (by_holds d n port.port comb (statement_counts yes) (statement_counts no) rows old new (budget - 1) tested grows)) one

  pub if_counts_no : Tested d rows n port.port comb (Ok false) → Counted d rows old new n (statement_counts no) (budget - 1) a
      → Counted d rows old new n (form_counts (If port comb yes no)) budget (later 1 a)
  if_counts_no tested one = counted_later d n rows old new (statement_counts no) (form_counts (If port comb yes no)) (budget - 1) budget 1 a
      (λ grows. subst (λ b. GrowsBy d rows old new n (form_counts (If port comb yes no)) b) one_less
      (by_fails d n port.port comb (statement_counts yes) (statement_counts no) rows old new (budget - 1) tested grows)) one

-- THE ENABLE OF A GROUP that takes turns, or calls
abbrev pub child_counts : ℕ → ℕ → Tallying
child_counts g c i held s n = below c (count_below (cells_of i) c (inputs_of_call i held g c s) (under c s) n)

module _ (i : Instance) (held : Held) (g : ℕ) (s : State) (n : ℕ) where
  count_kind : (o : Option ℕ) (kind : GroupKind) → kind_length kind ≡ None → called i g ≡ o
      → count_call_or_turns i (count_below (cells_of i)) held g o s n ≡ count_enable i (count_below (cells_of i)) held g kind s n
  count_kind o kinds.Plain e is = ap (λ x. count_call_or_turns i (count_below (cells_of i)) held g x s n) (sym is)
  count_kind o kinds.Comb e is = ap (λ x. count_call_or_turns i (count_below (cells_of i)) held g x s n) (sym is)
  count_kind o (kinds.Timed m) e is = absurd (let f : ◌≡◌ {A = Option ℕ} (Some m) None = e in cc)

  pub count_turns : kind_length (group_at (part_of i) g).kind ≡ None → called i g ≡ None → turns_count_of g i held s n ≡ form_counts (Enable g) i held s n
  count_turns e is = count_kind None (group_at (part_of i) g).kind e is

  pub count_call : (c : ℕ) → kind_length (group_at (part_of i) g).kind ≡ None → called i g ≡ Some c → child_counts g c i held s n ≡ form_counts (Enable g) i held s n
  count_call c e is = count_kind (Some c) (group_at (part_of i) g).kind e is

-- THE RUN OF A CHILD counts below its cell
count_child : (cells : Cells) (c : ℕ) (child : Instance) (held : Held) (s : State) (n : ℕ) → cell_at cells c ≡ OfInstance child
    → count_below cells c held s n ≡ count_control child held s n
count_child no_cells c child held s n e = absurd (cc)
count_child (a_primitive row rest) zero child held s n e = absurd (cc)
count_child (a_primitive row rest) (suc c) child held s n e = count_child rest c child held s n e
count_child (an_instance own rest) zero child held s n e = let same : own ≡ child = cc in ap (λ i. count_control i held s n) same
count_child (an_instance own rest) (suc c) child held s n e = count_child rest c child held s n e

pub count_is : (i : Instance) (held : Held) (s : State) (n : ℕ) → count_statement i held (part_of i).control s n ≡ count_control i held s n
count_is (Node part cells) held s n = refl

abbrev pub SufficesToCount : PlainDesign → Type 0
SufficesToCount d =
    (path : Path) (held other : Held) (s : State) (m : ℕ) → ((input : ℕ) → input < length (part_of (instance_at (tree_of d) path)).inputs → held input ≡ other input)
    → (q : Path) (g : ℕ) → count_control (instance_at (tree_of d) path) held s m q g ≡ count_control (instance_at (tree_of d) path) other s m q g

module _ (d : PlainDesign) (n g c number : ℕ) (calls : (path : Path) → IsNumber d n path → called (instance_at (tree_of d) path) g ≡ Some c)
    (has_child : HasChild d n c number) (suffices : SufficesToCount d)
    (old middle : List PlainInstance) (control : PlainStatement) (budget : ℕ) (is_control : HasControl d number control) (hold : HoldsCall d old middle n g c number) where
  child_means : (path : Path) (s : State) → IsNumber d n path → StandsFor (tree_of d) old s → (q : Path) (h : ℕ)
      → statement_counts control (instance_at (tree_of d) (path ++ c ∷ [])) (inputs_held middle number) (under_path (path ++ c ∷ []) s) budget q h
      ≡ count_below (cells_of (instance_at (tree_of d) path)) c (inputs_of_call (instance_at (tree_of d) path) (inputs_held old n) g c (under_path path s))
      (under c (under_path path s)) budget q h
  child_means path s at stood q h =
      let i : Instance = instance_at (tree_of d) path in
      let j : Instance = instance_at (tree_of d) (path ++ c ∷ []) in
      let inputs : Held = inputs_of_call i (inputs_held old n) g c (under_path path s) in
      let r = called_is i g c (calls path at) in
      ap (λ x. statement_counts x j (inputs_held middle number) (under_path (path ++ c ∷ []) s) budget q h) (is_control (path ++ c ∷ []) (has_child path at))
      ∙ ap (λ (t : Tally). t q h) (count_is j (inputs_held middle number) (under_path (path ++ c ∷ []) s) budget)
      ∙ suffices (path ++ c ∷ []) (inputs_held middle number) inputs (under_path (path ++ c ∷ []) s) budget (λ input lt. hold.inputs path s input at stood lt) q h
      ∙ ap (λ (x : State). count_control j inputs x budget q h) (under_child path c s)
      ∙ ap (λ x. count_control x inputs (under c (under_path path s)) budget q h) (further (tree_of d) path c r.0 r.1)
      ∙ sym (ap (λ (t : Tally). t q h) (count_child (cells_of i) c r.0 inputs (under c (under_path path s)) budget r.1))

  pub child_grows : (initially so_far : List (List ℕ)) → GrowsBy d middle initially so_far number (statement_counts control) budget
      → GrowsBy d old initially so_far n (child_counts g c) budget
  child_grows initially so_far one has path s at stood settled =
      let i : Instance = instance_at (tree_of d) path in
      let own : Tally = count_below (cells_of i) c (inputs_of_call i (inputs_held old n) g c (under_path path s)) (under c (under_path path s)) budget in
      let there : Tally = statement_counts control (instance_at (tree_of d) (path ++ c ∷ [])) (inputs_held middle number) (under_path (path ++ c ∷ []) s) budget in
      subst (λ (t : Tally). Grows d initially so_far t) (at_path_child path c own)
      (grows_same d initially so_far (at_path (path ++ c ∷ []) there) (at_path (path ++ c ∷ []) own) (at_path_same (path ++ c ∷ []) there own (child_means path s at stood))
      (one has (path ++ c ∷ []) s (has_child path at) (hold.stands s stood) settled))

-- AN ISLAND of dynamic control counts as one
kind_counts : (i : Instance) (held : Held) (g : ℕ) (s : State) (n : ℕ) (kind : GroupKind) → is_some (kind_length kind) ≡ true
    → count_island i held (Enable g) s n ≡ count_enable i (count_below (cells_of i)) held g kind s n
kind_counts i held g s n kinds.Plain e = never e
kind_counts i held g s n kinds.Comb e = never e
kind_counts i held g s n (kinds.Timed m) e = refl

pub island_counts : (i : Instance) (held : Held) (form : PlainForm) (s : State) (n : ℕ) → is_island_form (part_of i) form ≡ true
    → count_island i held form s n ≡ form_counts form i held s n
island_counts i held Empty s n e = never e
island_counts i held (Enable g) s n e = kind_counts i held g s n (group_at (part_of i) g).kind e
island_counts i held (Seq parts) s n e = never e
island_counts i held (Par arms) s n e = never e
island_counts i held (If test comb a b) s n e = never e
island_counts i held (While test comb a) s n e = never e
island_counts i held (Repeat count a) s n e = never e
island_counts i held (StaticSeq length parts) s n e = refl
island_counts i held (StaticPar length arms) s n e = refl
island_counts i held (StaticIf length test a b) s n e = refl
island_counts i held (StaticRepeat length count a) s n e = refl
island_counts i held (Timed k) s n e = never e

-- THE RUN OF MAIN
pub main_counted : (d : PlainDesign) (rows : List PlainInstance) (old new : List (List ℕ)) (control : PlainStatement) (budget : ℕ) (a : Answer) (words : List (List ℕ))
    → HasControl d 0 control → IsUnheld rows → IsSettled (tree_of d) (start (tree_of d) words)
    → StandsFor (tree_of d) rows (start (tree_of d) words) → Counted d rows old new 0 (statement_counts control) budget a → MainCounted d words budget a old new
main_counted d rows old new control budget a words is_control none_held settled stands one = record {
  shape = one.shape;
  grows = λ turns e has.
      let tree : Instance = tree_of d in
      let s : State = start tree words in
      let number : IsNumber d 0 [] = main_first tree in
      let held : inputs_held rows 0 ≡ unheld = fun_ext (λ input. none_held 0 input) in
      let means : statement_counts control (instance_at tree []) (inputs_held rows 0) s budget ≡ tally_of d words budget =
      ap (λ x. statement_counts x (instance_at tree []) (inputs_held rows 0) s budget) (is_control [] number)
      ∙ count_is (instance_at tree []) (inputs_held rows 0) s budget
      ∙ ap (λ i. count_control i (inputs_held rows 0) s budget) (here tree)
      ∙ ap (λ (h : Held). count_control tree h s budget) held in
      subst (λ (t : Tally). Grows d old new t) means (one.grows turns e has [] s number stands settled);
}
