-- What statements need, counted up to a limit.
use Rattle.std.proofs.Common.{◌≡◌, ℕ, zero, suc, ◌+◌, ◌<◌, ◌≤◌, max, ⊎_elim, List, [], ◌∷◌, ◌++◌, get_or, set, length, drop, Option, Some, None, refl, sym, ap, ◌∙◌, subst, arith}
use Rattle.std.proofs.Math.Seq.{drop-cons}
use Rattle.std.proofs.lemmas.Bool.{cases_lt}
use Rattle.std.proofs.lemmas.List.{get_or-set_same, get_or-set_other}
use Rattle.cx_meaning.specs.declared.kinds.GroupKind.{GroupKind}
use Rattle.cx_meaning.specs.declared.kinds.GroupKind.TheVariants as kinds
use Rattle.cx_meaning.specs.Designs.{PlainDesign, PlainForm, Enable, PlainStatement, Placed, no_place, group_at, list_of}
use Rattle.cx_meaning.specs.Instances.{Instance, Node, Cells, no_cells, a_primitive, an_instance, Nothing, OfRow, OfInstance, cell_at, cells_of, part_of, Path, instance_at, paths_of, tree_of}
use Rattle.cx_meaning.specs.Islands.{kind_length}
use Rattle.cx_meaning.specs.Calls.{called}
use Rattle.cx_design.specs.declared.statements.Statement.{Statement}
use Rattle.cx_design.specs.PlainForms.{plain_statement, plain_statements}
use Rattle.cx_state.specs.Tables.{IsNumber}
use Rattle.cx_turns.specs.Children.{IsPart, HasChild, HasControl}
use Rattle.cx_turns.specs.Groups.{HasLength}
use Rattle.cx_turns.proofs.ChildLemmas.{child_after}
use Rattle.cx_state.proofs.TableLemmas.{further}
use Rattle.cx_weave.specs.declared.needs.Piece.{Piece}
use Rattle.cx_weave.specs.Rows.{Covers, CoversBehind, CoversFrom}
use Rattle.cx_weave.specs.Takes.{island_takes, call_takes, called_need, kind_need, control_need, below_need, need, needs, all_needs}
use Rattle.cx_text.proofs.ListLaws.{there_below}
use Rattle.cx_meaning.proofs.InstancesLemmas.{here as instance_self, main_first}

pub covers_self : (told n : ℕ) → told ≡ n → Covers told n
covers_self told n is less = omega (arith, is)

-- the first of a list from some place on
split_at : (xs : List Statement) (at : ℕ) (s : Statement) → at < length xs → s ≡ get_or xs at s → drop at xs ≡ s ∷ drop (at + 1) xs
split_at xs at s less is =
    drop-cons xs at s less ∙ ap (λ (y : Statement). y ∷ drop (suc at) xs) (sym is) ∙ ap (λ m. s ∷ drop m xs) (let f : suc at ≡ at + 1 = omega arith in f)

pub list_length : (xs : List Statement) → length (list_of (plain_statements xs)) ≡ length xs
list_length [] = refl
list_length (x ∷ xs) = ap (λ n. suc n) (list_length xs)

module _ (k : Piece) (i : Instance) where
  -- by the same form
  pub of_form : (told : ℕ) (form other : PlainForm) → form ≡ other → Covers told (need k i (Placed other no_place)) → Covers told (need k i (Placed form no_place))
  of_form told form other is covers = subst (λ f. Covers told (need k i (Placed f no_place))) (sym is) covers

  -- THE PARTS OF A SEQ so far
  abbrev pub MostSoFar : List Statement → ℕ → ℕ → Type 0
  MostSoFar parts at most = (a : ℕ) × Covers most a × (max a (needs k i (plain_statements (drop at parts))) ≡ needs k i (plain_statements parts))

  pub most_next : (parts : List Statement) (at most told next : ℕ) (s : Statement) → at < length parts → s ≡ get_or parts at s → MostSoFar parts at most → Covers told (need k i (plain_statement s))
      → ((a b : ℕ) → Covers most a → Covers told b → Covers next (max a b)) → MostSoFar parts (at + 1) next
  most_next parts at most told next s less is (a, covers, e) one larger =
      let whole : max a (max (need k i (plain_statement s)) (needs k i (plain_statements (drop (at + 1) parts)))) ≡ needs k i (plain_statements parts) =
      subst (λ xs. max a (needs k i (plain_statements xs)) ≡ needs k i (plain_statements parts)) (split_at parts at s less is) e in
      (max a (need k i (plain_statement s)), larger a (need k i (plain_statement s)) covers one, omega (arith, whole))

  -- THE ARMS OF A PAR so far
  abbrev pub AllSoFar : List Statement → ℕ → ℕ → Type 0
  AllSoFar arms at all = (a : ℕ) × Covers all a × (a + all_needs k i (plain_statements (drop at arms)) ≡ all_needs k i (plain_statements arms))

  pub all_next : (arms : List Statement) (at all told next : ℕ) (s : Statement) → at < length arms → s ≡ get_or arms at s → AllSoFar arms at all → Covers told (need k i (plain_statement s))
      → ((a b : ℕ) → Covers all a → Covers told b → Covers next (a + b)) → AllSoFar arms (at + 1) next
  all_next arms at all told next s less is (a, covers, e) one both =
      let whole : a + (need k i (plain_statement s) + all_needs k i (plain_statements (drop (at + 1) arms))) ≡ all_needs k i (plain_statements arms) =
      subst (λ xs. a + all_needs k i (plain_statements xs) ≡ all_needs k i (plain_statements arms)) (split_at arms at s less is) e in
      (a + need k i (plain_statement s), both a (need k i (plain_statement s)) covers one, omega (arith, whole))

-- THE ENABLE OF A GROUP: of a call, with what the child's control takes
kind_called : (k : Piece) (i : Instance) (child : ℕ → ℕ) (g : ℕ) (kind : GroupKind) → None ≡ kind_length kind → kind_need k i child g kind ≡ called_need k child (called i g)
kind_called k i child g kinds.Plain e = refl
kind_called k i child g kinds.Comb e = refl
kind_called k i child g (kinds.Timed length) e = absurd (let f : ◌≡◌ {A = Option ℕ} None (Some length) = e in cc)

kind_island : (k : Piece) (i : Instance) (child : ℕ → ℕ) (g cycles : ℕ) (kind : GroupKind) → Some cycles ≡ kind_length kind → kind_need k i child g kind ≡ island_takes k
kind_island k i child g cycles kinds.Plain e = absurd (let f : ◌≡◌ {A = Option ℕ} (Some cycles) None = e in cc)
kind_island k i child g cycles kinds.Comb e = absurd (let f : ◌≡◌ {A = Option ℕ} (Some cycles) None = e in cc)
kind_island k i child g cycles (kinds.Timed length) e = refl

pub control_is : (k : Piece) (i : Instance) → control_need k i ≡ need k i (part_of i).control
control_is k (Node part cells) = refl

child_is : (k : Piece) (cells : Cells) (c : ℕ) (child : Instance) → cell_at cells c ≡ OfInstance child → below_need k cells c ≡ control_need k child
child_is k no_cells c child e = absurd (let f : Nothing ≡ OfInstance child = e in cc)
child_is k (a_primitive row rest) zero child e = absurd (let f : OfRow row ≡ OfInstance child = e in cc)
child_is k (a_primitive row rest) (suc c) child e = child_is k rest c child e
child_is k (an_instance own rest) zero child e = let same : own ≡ child = (let f : OfInstance own ≡ OfInstance child = e in cc) in ap (control_need k) same
child_is k (an_instance own rest) (suc c) child e = child_is k rest c child e

module _ (d : PlainDesign) (n : ℕ) (k : Piece) where
  pub enable_none : (g told : ℕ) → told ≡ 0 → HasLength d n g None → (path : Path) → IsNumber d n path → called (instance_at (tree_of d) path) g ≡ None → Covers told (need k (instance_at (tree_of d) path) (Placed (Enable g) no_place))
  enable_none g told is length path number calls =
      let i = instance_at (tree_of d) path in
      covers_self told (need k i (Placed (Enable g) no_place)) (is ∙ sym (kind_called k i (below_need k (cells_of i)) g (group_at (part_of i) g).kind (length path number) ∙ ap (called_need k (below_need k (cells_of i))) calls))

  pub enable_call : (g c m told inner own : ℕ) (table : List ℕ) → HasLength d n g None → IsPart d n c → HasChild d n c m → CoversBehind d k table n → inner ≡ get_or table m 0 → own ≡ call_takes k
      → ((a b : ℕ) → Covers own a → Covers inner b → Covers told (a + b)) → (path : Path) → IsNumber d n path → called (instance_at (tree_of d) path) g ≡ Some c → Covers told (need k (instance_at (tree_of d) path) (Placed (Enable g) no_place))
  enable_call g c m told inner own table length part has behind is takes both path number calls =
      let i = instance_at (tree_of d) path in
      let p = part path number in
      let after : n < m = child_after d n c m part has path number in
      let below : below_need k (cells_of i) c ≡ control_need k (instance_at (tree_of d) (path ++ c ∷ [])) = child_is k (cells_of i) c p.0 p.1 ∙ ap (control_need k) (sym (further (tree_of d) path c p.0 p.1)) in
      let covers : Covers inner (below_need k (cells_of i) c) = subst (λ x. Covers x (below_need k (cells_of i) c)) (sym is) (subst (λ x. Covers (get_or table m 0) x) (sym below) (behind m (path ++ c ∷ []) after (has path number))) in
      let e : need k i (Placed (Enable g) no_place) ≡ call_takes k + below_need k (cells_of i) c =
      kind_called k i (below_need k (cells_of i)) g (group_at (part_of i) g).kind (length path number) ∙ ap (called_need k (below_need k (cells_of i))) calls in
      subst (λ x. Covers told x) (sym e) (both (call_takes k) (below_need k (cells_of i) c) (covers_self own (call_takes k) takes) covers)

-- of a call, with the control of the child of a number
pub needs_call : (d : PlainDesign) (n : ℕ) (k : Piece) (g c m : ℕ) (control : PlainStatement) → HasLength d n g None → IsPart d n c → HasChild d n c m → HasControl d m control → (path : Path) → IsNumber d n path → called (instance_at (tree_of d) path) g ≡ Some c
    → need k (instance_at (tree_of d) path) (Placed (Enable g) no_place) ≡ call_takes k + need k (instance_at (tree_of d) (path ++ c ∷ [])) control
needs_call d n k g c m control length part has controls path number calls =
    let i = instance_at (tree_of d) path in
    let p = part path number in
    let child = instance_at (tree_of d) (path ++ c ∷ []) in
    let below : below_need k (cells_of i) c ≡ need k child control =
    child_is k (cells_of i) c p.0 p.1
    ∙ ap (control_need k) (sym (further (tree_of d) path c p.0 p.1)) ∙ control_is k child ∙ ap (need k child) (sym (controls (path ++ c ∷ []) (has path number))) in
    kind_called k i (below_need k (cells_of i)) g (group_at (part_of i) g).kind (length path number) ∙ ap (called_need k (below_need k (cells_of i))) calls ∙ ap (λ x. call_takes k + x) below

-- A TABLE, filled from its last row
module _ (d : PlainDesign) (k : Piece) where
  pub none_behind : (table : List ℕ) (at : ℕ) → length (paths_of (tree_of d)) ≤ at → CoversFrom d k table at
  none_behind table at past m path le number = absurd (let h = there_below (paths_of (tree_of d)) m path number in omega (arith, past, le, h))

  pub from_next : (table : List ℕ) (n told : ℕ) (control : PlainStatement) → n < length table → HasControl d n control → ((path : Path) → IsNumber d n path → Covers told (need k (instance_at (tree_of d) path) control)) → CoversBehind d k table n
      → CoversFrom d k (set table n told) n
  from_next table n told control inside controls covers behind m path le number = ⊎_elim
      (λ (less : n < m). subst (λ x. Covers x (control_need k (instance_at (tree_of d) path))) (sym (get_or-set_other table n m told 0 (λ e. absurd (omega (arith, e, less))))) (behind m path less number))
      (λ (above : m ≤ n).
      let same : m ≡ n = omega (arith, le, above) in
      let here : IsNumber d n path = subst (λ x. IsNumber d x path) same number in
      let i = instance_at (tree_of d) path in
      let one : Covers told (control_need k i) = subst (λ x. Covers told x) (ap (need k i) (controls path here) ∙ sym (control_is k i)) (covers path here) in
      subst (λ x. Covers x (control_need k i)) (sym (ap (λ j. get_or (set table n told) j 0) same ∙ get_or-set_same table n told 0 inside)) one)
      (cases_lt n m)

  pub main_covered : (table : List ℕ) → CoversFrom d k table 0 → Covers (get_or table 0 0) (control_need k (tree_of d))
  main_covered table from = subst (λ i. Covers (get_or table 0 0) (control_need k i)) (instance_self (tree_of d)) (from 0 [] (omega arith) (main_first (tree_of d)))
