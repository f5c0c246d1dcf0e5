-- Statements as they are opened, and the strands that show them.
use Rattle.std.proofs.Common.{◌≡◌, ◌≢◌, ℕ, zero, suc, ◌+◌, ◌<◌, true, List, [], ◌∷◌, ◌++◌, length, get_or, take, drop, Option, Some, None, refl, sym, ap, ◌∙◌, subst, append_assoc, arith}
use Rattle.std.specs.Prelude.{is_some}
use Rattle.std.proofs.lemmas.List.{take-append-drop}
use Rattle.cx_text.proofs.MemberLaws.{in_left, in_right}
use Rattle.cx_text.specs.declared.places.Place.{Place}
use Rattle.cx_meaning.specs.declared.kinds.GroupKind.{GroupKind}
use Rattle.cx_meaning.specs.declared.kinds.GroupKind.TheVariants as kinds
use Rattle.cx_meaning.specs.Designs.{PlainDesign, PlainForm, Empty, Enable, Seq, Par, If, While, Repeat, StaticSeq, StaticPar, StaticIf, StaticRepeat, Timed, PlainStatement, Placed, no_place, PlainStatements, group_at}
use Rattle.cx_meaning.specs.Instances.{Instance, Node, Cells, no_cells, a_primitive, an_instance, Nothing, OfRow, OfInstance, cell_at, cells_of, part_of, Path, instance_at, tree_of}
use Rattle.cx_meaning.specs.Islands.{kind_length}
use Rattle.cx_meaning.specs.Calls.{called}
use Rattle.cx_text.specs.Members.{In}
use Rattle.cx_rules.specs.Items.{Dynamic, visit, visit_all}
use Rattle.cx_rules.specs.StaticControl.{is_island_form}
use Rattle.cx_design.specs.declared.statements.Statement.{Statement}
use Rattle.cx_design.specs.PlainForms.{plain_statement, plain_statements}
use Rattle.cx_state.specs.Tables.{IsNumber}
use Rattle.cx_turns.specs.Children.{IsPart, HasChild, HasControl}
use Rattle.cx_turns.specs.Groups.{HasLength, IsGroupOf}
use Rattle.cx_turns.specs.Machines.{StandsIn, StandIn}
use Rattle.cx_turns.proofs.Measures.{all_steps, steps}
use Rattle.cx_state.proofs.TableLemmas.{further}
use Rattle.cx_weave.specs.declared.strands.Strand.{Strand}
use Rattle.cx_weave.specs.declared.strands.Arms.{Arms}
use Rattle.cx_orders.specs.Open.{Open, InSeq, InRepeat, an_arm, beside, open_with, open_form, open_island, open_called, open_kind, open_enable, open_control, open_below, open_statement, open_statements}
use Rattle.cx_orders.specs.Steps.{seq_left, repeat_left}
use Rattle.cx_weave.specs.Strands.{PlainStrand, AnIdling, ASeq, APar, ARepeat, ACall, one_arm, plain_strand, plain_arms, CallsCell, IsBoth, Shows, ShowsAll}
use Rattle.cx_weave.specs.Strides.{OpensAs, OpenAs, LeftShown, LeavesAs}
use Rattle.cx_weave.proofs.PartSteps.{both_shown}
use Rattle.cx_text.proofs.NumberLaws.{never}

-- a form of an instance, as it is opened
abbrev pub opens : Instance → PlainForm → Open
opens i form = open_form (part_of i) (open_enable i (open_below (cells_of i))) form

pub statement_opens : (i : Instance) (form : PlainForm) (place : Place) → open_statement i (Placed form place) ≡ opens i form
statement_opens (Node part cells) form place = refl

pub with_statement : (i : Instance) (st : PlainStatement) → open_with (part_of i) (open_enable i (open_below (cells_of i))) st ≡ open_statement i st
with_statement (Node part cells) st = refl

control_opens : (i : Instance) → open_control i ≡ open_statement i (part_of i).control
control_opens (Node part cells) = refl

child_opens : (cells : Cells) (c : ℕ) (child : Instance) → cell_at cells c ≡ OfInstance child → open_below cells c ≡ open_control child
child_opens no_cells c child e = absurd (let f : Nothing ≡ OfInstance child = e in cc)
child_opens (a_primitive row rest) zero child e = absurd (let f : OfRow row ≡ OfInstance child = e in cc)
child_opens (a_primitive row rest) (suc c) child e = child_opens rest c child e
child_opens (an_instance own rest) zero child e = let same : own ≡ child = (let f : OfInstance own ≡ OfInstance child = e in cc) in ap open_control same
child_opens (an_instance own rest) (suc c) child e = child_opens rest c child e

-- a child's control, in the tree
child_control : (d : PlainDesign) (n c : ℕ) → IsPart d n c → (path : Path) → IsNumber d n path
    → open_below (cells_of (instance_at (tree_of d) path)) c ≡ open_statement (instance_at (tree_of d) (path ++ c ∷ [])) (part_of (instance_at (tree_of d) (path ++ c ∷ []))).control
child_control d n c part path number =
    let p = part path number in
    child_opens (cells_of (instance_at (tree_of d) path)) c p.0 p.1 ∙ ap open_control (sym (further (tree_of d) path c p.0 p.1)) ∙ control_opens (instance_at (tree_of d) (path ++ c ∷ []))

kind_called : (i : Instance) (child : ℕ → Open) (g : ℕ) (kind : GroupKind) → None ≡ kind_length kind → open_kind i child g kind ≡ open_called child g (called i g)
kind_called i child g kinds.Plain e = refl
kind_called i child g kinds.Comb e = refl
kind_called i child g (kinds.Timed length) e = absurd (let f : ◌≡◌ {A = Option ℕ} None (Some length) = e in cc)

-- the enable of a group that is not static
enable_opens : (d : PlainDesign) (n g : ℕ) (o : Option ℕ) → HasLength d n g None → (path : Path) → IsNumber d n path → called (instance_at (tree_of d) path) g ≡ o
    → opens (instance_at (tree_of d) path) (Enable g) ≡ open_called (open_below (cells_of (instance_at (tree_of d) path))) g o
enable_opens d n g o length path number calls =
    let i = instance_at (tree_of d) path in
    kind_called i (open_below (cells_of i)) g (group_at (part_of i) g).kind (length path number) ∙ ap (open_called (open_below (cells_of i)) g) calls

kind_opens : (i : Instance) (child : ℕ → Open) (g : ℕ) (kind : GroupKind) → is_some (kind_length kind) ≡ true → open_kind i child g kind ≡ open_island (part_of i) (Enable g)
kind_opens i child g kinds.Plain e = never e
kind_opens i child g kinds.Comb e = never e
kind_opens i child g (kinds.Timed length) e = refl

-- an island of dynamic control
pub island_opens : (i : Instance) (form : PlainForm) → is_island_form (part_of i) form ≡ true → opens i form ≡ open_island (part_of i) form
island_opens i Empty e = never e
island_opens i (Enable g) e = kind_opens i (open_below (cells_of i)) g (group_at (part_of i) g).kind e
island_opens i (Seq parts) e = never e
island_opens i (Par arms) e = never e
island_opens i (If test comb a b) e = never e
island_opens i (While test comb a) e = never e
island_opens i (Repeat count a) e = never e
island_opens i (StaticSeq length parts) e = refl
island_opens i (StaticPar length arms) e = refl
island_opens i (StaticIf length test a b) e = refl
island_opens i (StaticRepeat length count a) e = refl
island_opens i (Timed k) e = never e

module _ (d : PlainDesign) (n : ℕ) where
  -- by what is shown of the form
  pub opens_as : (form : PlainForm) (strand : Strand) (p : PlainStrand) → plain_strand strand ≡ p → ((path : Path) → IsNumber d n path → Shows d n p (opens (instance_at (tree_of d) path) form)) → OpensAs d n (Placed form no_place) strand
  opens_as form strand p is shows path number =
      subst (Shows d n (plain_strand strand)) (sym (statement_opens (instance_at (tree_of d) path) form no_place)) (subst (λ q. Shows d n q (opens (instance_at (tree_of d) path) form)) (sym is) (shows path number))

  -- A SEQ
  pub seq_none : (parts : List Statement) (strand : Strand) → parts ≡ [] → plain_strand strand ≡ AnIdling → OpensAs d n (Placed (Seq (plain_statements parts)) no_place) strand
  seq_none parts strand none is = opens_as (Seq (plain_statements parts)) strand AnIdling is (λ path number. ap (λ (xs : List Statement). opens (instance_at (tree_of d) path) (Seq (plain_statements xs))) none)

  -- a seq of which this part runs
  pub seq_shown : (later : PlainStatements) (st : PlainStatement) (strand inner : Strand) → plain_strand strand ≡ ASeq (plain_strand inner) later → OpensAs d n st inner → StandIn d n later → (path : Path) → IsNumber d n path
      → Shows d n (plain_strand strand) (InSeq (open_statement (instance_at (tree_of d) path) st) later)
  seq_shown later st strand inner is opens stands path number =
      subst (λ q. Shows d n q (InSeq (open_statement (instance_at (tree_of d) path) st) later)) (sym is) (open_statement (instance_at (tree_of d) path) st, refl, opens path number, stands)

  pub seq_some : (parts later : List Statement) (part : Statement) (strand inner : Strand) → parts ≡ part ∷ later → plain_strand strand ≡ ASeq (plain_strand inner) (plain_statements later) → OpensAs d n (plain_statement part) inner → StandIn d n (plain_statements later)
      → OpensAs d n (Placed (Seq (plain_statements parts)) no_place) strand
  seq_some parts later part strand inner are is opened stands =
      opens_as (Seq (plain_statements parts)) strand (plain_strand strand) refl
      (λ path number.
      let i = instance_at (tree_of d) path in
      let e : opens i (Seq (plain_statements parts)) ≡ InSeq (open_statement i (plain_statement part)) (plain_statements later) =
      ap (λ (xs : List Statement). opens i (Seq (plain_statements xs))) are ∙ ap (λ o. InSeq o (plain_statements later)) (with_statement i (plain_statement part)) in
      subst (Shows d n (plain_strand strand)) (sym e) (seq_shown (plain_statements later) (plain_statement part) strand inner is opened stands path number))

  pub repeat_shown : (left : ℕ) (body : PlainStatement) (strand inner : Strand) → plain_strand strand ≡ ARepeat (plain_strand inner) left body → OpensAs d n body inner → StandsIn d n body → (path : Path) → IsNumber d n path
      → Shows d n (plain_strand strand) (InRepeat (open_statement (instance_at (tree_of d) path) body) left body)
  repeat_shown left body strand inner is opens stands path number =
      subst (λ q. Shows d n q (InRepeat (open_statement (instance_at (tree_of d) path) body) left body)) (sym is) (open_statement (instance_at (tree_of d) path) body, refl, opens path number, stands)

  -- A CALL
  pub call_opens : (g c m : ℕ) (control : PlainStatement) (strand inner : Strand) → plain_strand strand ≡ ACall g c None (plain_strand inner) → IsGroupOf d n g → HasLength d n g None → CallsCell d n g c → IsPart d n c → HasChild d n c m → HasControl d m control
      → OpensAs d m control inner → OpensAs d n (Placed (Enable g) no_place) strand
  call_opens g c m control strand inner is group length calls part has controls opened =
      opens_as (Enable g) strand (ACall g c None (plain_strand inner)) is
      (λ path number.
      let i = instance_at (tree_of d) path in
      let there = has path number in
      let below : open_below (cells_of i) c ≡ open_statement (instance_at (tree_of d) (path ++ c ∷ [])) control =
      child_control d n c part path number ∙ ap (open_statement (instance_at (tree_of d) (path ++ c ∷ []))) (sym (controls (path ++ c ∷ []) there)) in (
        open_below (cells_of i) c,
        enable_opens d n g (Some c) length path number (calls path number),
        group,
        calls,
        tt,
        (m, has, subst (Shows d m (plain_strand inner)) (sym below) (opened (path ++ c ∷ []) there)),
      ))

  -- THE ARMS OF A PAR
  pub one_is : (xs : List Statement) (s : Statement) → length xs ≡ 1 → s ≡ get_or xs 0 s → xs ≡ s ∷ []
  one_is [] s one is = absurd (omega (arith, one))
  one_is (x ∷ []) s one is = ap (λ (y : Statement). y ∷ []) (sym is)
  one_is (x ∷ y ∷ xs) s one is = absurd (omega (arith, one))

  pub arm_opens : (arms : List Statement) (s : Statement) (opened : Arms) (x : Strand) → length arms ≡ 1 → s ≡ get_or arms 0 s → plain_arms opened ≡ one_arm (plain_strand x) → OpensAs d n (plain_statement s) x → OpenAs d n (plain_statements arms) opened
  arm_opens arms s opened x one first is opens path number =
      let i = instance_at (tree_of d) path in
      subst (λ (xs : List Statement). ShowsAll d n (plain_arms opened) (open_statements i (plain_statements xs))) (sym (one_is arms s one first))
      (subst (λ a. ShowsAll d n a (open_statements i (plain_statements (s ∷ [])))) (sym is)
      (plain_statement s, open_with (part_of i) (open_enable i (open_below (cells_of i))) (plain_statement s), refl, subst (Shows d n (plain_strand x)) (sym (with_statement i (plain_statement s))) (opens path number)))

  open_beside : (i : Instance) (front back : List Statement) → open_statements i (plain_statements (front ++ back)) ≡ beside (open_statements i (plain_statements front)) (open_statements i (plain_statements back))
  open_beside i [] back = refl
  open_beside i (s ∷ ss) back = ap (an_arm (plain_statement s) (open_with (part_of i) (open_enable i (open_below (cells_of i))) (plain_statement s))) (open_beside i ss back)

  pub both_open : (arms front back : List Statement) (one other opened : Arms) → front ++ back ≡ arms → IsBoth (plain_arms one) (plain_arms other) (plain_arms opened) → OpenAs d n (plain_statements front) one → OpenAs d n (plain_statements back) other
      → OpenAs d n (plain_statements arms) opened
  both_open arms front back one other opened are is first later path number =
      let i = instance_at (tree_of d) path in
      subst (λ (xs : List Statement). ShowsAll d n (plain_arms opened) (open_statements i (plain_statements xs))) are
      (subst (λ l. ShowsAll d n (plain_arms opened) l) (sym (open_beside i front back))
      (both_shown d n (plain_arms one) (plain_arms other) (plain_arms opened) (open_statements i (plain_statements front)) (open_statements i (plain_statements back)) is (first path number) (later path number)))

  pub par_opens : (arms : List Statement) (opened : Arms) (strand : Strand) → length arms ≢ 0 → OpenAs d n (plain_statements arms) opened → plain_strand strand ≡ APar (plain_arms opened) → OpensAs d n (Placed (Par (plain_statements arms)) no_place) strand
  par_opens [] opened strand some arms_open is = absurd (some refl)
  par_opens (s ∷ ss) opened strand some arms_open is =
      opens_as (Par (plain_statements (s ∷ ss))) strand (APar (plain_arms opened)) is (λ path number. (open_statements (instance_at (tree_of d) path) (plain_statements (s ∷ ss)), refl, arms_open path number))

  pub par_none : (arms : List Statement) (strand : Strand) → length arms ≡ 0 → plain_strand strand ≡ AnIdling → OpensAs d n (Placed (Par (plain_statements arms)) no_place) strand
  par_none [] strand none is = opens_as (Par (plain_statements [])) strand AnIdling is (λ path number. refl)
  par_none (s ∷ ss) strand none is = absurd (let f : suc (length ss) ≡ 0 = none in omega (arith, f))

pub none_are : (xs : List Statement) → length xs ≡ 0 → xs ≡ []
none_are [] e = refl
none_are (x ∷ xs) e = absurd (let f : suc (length xs) ≡ 0 = e in omega (arith, f))

-- the first part of a seq stands where all do
pub first_stands : (d : PlainDesign) (n : ℕ) (parts later : List Statement) (part : Statement) → parts ≡ part ∷ later → StandIn d n (plain_statements parts) → StandsIn d n (plain_statement part)
first_stands d n parts later part are stands path v number inside =
    subst (λ (xs : List Statement). StandIn d n (plain_statements xs)) are stands path v number (in_left (visit Dynamic (plain_statement part)) (visit_all Dynamic (plain_statements later)) v inside)

-- the later parts of a seq stand where all do
pub later_stand : (d : PlainDesign) (n : ℕ) (parts later : List Statement) (part : Statement) → parts ≡ part ∷ later → StandIn d n (plain_statements parts) → StandIn d n (plain_statements later)
later_stand d n parts later part are stands path v number inside =
    subst (λ (xs : List Statement). StandIn d n (plain_statements xs)) are stands path v number (in_right (visit Dynamic (plain_statement part)) (visit_all Dynamic (plain_statements later)) v inside)

-- HALVES of some arms stand where all do, and are less work
pub halves : (arms front back : List Statement) (at : ℕ) → front ≡ take at arms → back ≡ drop at arms → front ++ back ≡ arms
halves arms front back at first later = ap (λ (xs : List Statement). xs ++ back) first ∙ ap (λ (xs : List Statement). take at arms ++ xs) later ∙ take-append-drop at arms

visited : (front back : List Statement) → visit_all Dynamic (plain_statements (front ++ back)) ≡ visit_all Dynamic (plain_statements front) ++ visit_all Dynamic (plain_statements back)
visited [] back = refl
visited (s ∷ ss) back =
    ap (λ l. visit Dynamic (plain_statement s) ++ l) (visited ss back) ∙ sym (append_assoc (visit Dynamic (plain_statement s)) (visit_all Dynamic (plain_statements ss)) (visit_all Dynamic (plain_statements back)))

pub front_stands : (d : PlainDesign) (n : ℕ) (arms front back : List Statement) → front ++ back ≡ arms → StandIn d n (plain_statements arms) → StandIn d n (plain_statements front)
front_stands d n arms front back are stands path v number inside =
    subst (λ (xs : List Statement). StandIn d n (plain_statements xs)) (sym are) stands path v number
    (subst (λ l. In l v) (sym (visited front back)) (in_left (visit_all Dynamic (plain_statements front)) (visit_all Dynamic (plain_statements back)) v inside))

pub back_stands : (d : PlainDesign) (n : ℕ) (arms front back : List Statement) → front ++ back ≡ arms → StandIn d n (plain_statements arms) → StandIn d n (plain_statements back)
back_stands d n arms front back are stands path v number inside =
    subst (λ (xs : List Statement). StandIn d n (plain_statements xs)) (sym are) stands path v number
    (subst (λ l. In l v) (sym (visited front back)) (in_right (visit_all Dynamic (plain_statements front)) (visit_all Dynamic (plain_statements back)) v inside))

some_steps : (st : PlainStatement) → 0 < steps st
some_steps (Placed form place) = omega arith

more_steps : (xs : List Statement) → 0 < length xs → 0 < all_steps (plain_statements xs)
more_steps [] some = absurd (omega (arith, some))
more_steps (x ∷ xs) some = (let h = some_steps (plain_statement x) in omega (arith, h))

steps_beside : (front back : List Statement) → all_steps (plain_statements (front ++ back)) ≡ all_steps (plain_statements front) + all_steps (plain_statements back)
steps_beside [] back = omega arith
steps_beside (s ∷ ss) back = (let h = steps_beside ss back in omega (arith, h))

pub front_falls : (arms front back : List Statement) → front ++ back ≡ arms → 0 < length back → all_steps (plain_statements front) < all_steps (plain_statements arms)
front_falls arms front back are some =
    let all : all_steps (plain_statements arms) ≡ all_steps (plain_statements front) + all_steps (plain_statements back) = ap (λ (xs : List Statement). all_steps (plain_statements xs)) (sym are) ∙ steps_beside front back in
    let more = more_steps back some in
    omega (arith, all, more)

pub back_falls : (arms front back : List Statement) → front ++ back ≡ arms → 0 < length front → all_steps (plain_statements back) < all_steps (plain_statements arms)
back_falls arms front back are some =
    let all : all_steps (plain_statements arms) ≡ all_steps (plain_statements front) + all_steps (plain_statements back) = ap (λ (xs : List Statement). all_steps (plain_statements xs)) (sym are) ∙ steps_beside front back in
    let more = more_steps front some in
    omega (arith, all, more)

-- WHAT IS LEFT of a seq and a repeat behind a part
module _ (d : PlainDesign) (n : ℕ) where
  pub seq_ended : (later : List Statement) → later ≡ [] → LeavesAs d n None None (λ i. seq_left i (plain_statements later))
  seq_ended later none path None number shown = subst (λ (xs : List Statement). LeftShown d n None (seq_left (instance_at (tree_of d) path) (plain_statements xs) None)) (sym none) tt
  seq_ended later none path (Some o) number shown = absurd shown

  pub seq_next : (parts later : List Statement) (part : Statement) (strand inner : Strand) → parts ≡ part ∷ later → plain_strand strand ≡ ASeq (plain_strand inner) (plain_statements later) → OpensAs d n (plain_statement part) inner → StandIn d n (plain_statements later)
      → LeavesAs d n None (Some strand) (λ i. seq_left i (plain_statements parts))
  seq_next parts later part strand inner are is opened stands path None number shown =
      subst (λ (xs : List Statement). LeftShown d n (Some strand) (seq_left (instance_at (tree_of d) path) (plain_statements xs) None)) (sym are) (seq_shown d n (plain_statements later) (plain_statement part) strand inner is opened stands path number)
  seq_next parts later part strand inner are is opened stands path (Some o) number shown = absurd shown

  pub seq_on : (later : PlainStatements) (strand inner : Strand) → plain_strand strand ≡ ASeq (plain_strand inner) later → StandIn d n later → LeavesAs d n (Some inner) (Some strand) (λ i. seq_left i later)
  seq_on later strand inner is stands path None number shown = absurd shown
  seq_on later strand inner is stands path (Some o) number shown = subst (λ q. Shows d n q (InSeq o later)) (sym is) (o, refl, shown, stands)

  pub repeat_ended : (rounds : ℕ) (body : PlainStatement) → rounds ≡ 0 → LeavesAs d n None None (λ i. repeat_left i rounds body)
  repeat_ended rounds body none path None number shown = subst (λ k. LeftShown d n None (repeat_left (instance_at (tree_of d) path) k body None)) (sym none) tt
  repeat_ended rounds body none path (Some o) number shown = absurd shown

  pub repeat_next : (rounds left : ℕ) (body : PlainStatement) (strand inner : Strand) → rounds ≡ suc left → plain_strand strand ≡ ARepeat (plain_strand inner) left body → OpensAs d n body inner → StandsIn d n body → LeavesAs d n None (Some strand) (λ i. repeat_left i rounds body)
  repeat_next rounds left body strand inner some is opened stands path None number shown =
      subst (λ k. LeftShown d n (Some strand) (repeat_left (instance_at (tree_of d) path) k body None)) (sym some) (repeat_shown d n left body strand inner is opened stands path number)
  repeat_next rounds left body strand inner some is opened stands path (Some o) number shown = absurd shown

  pub repeat_on : (rounds : ℕ) (body : PlainStatement) (strand inner : Strand) → plain_strand strand ≡ ARepeat (plain_strand inner) rounds body → StandsIn d n body → LeavesAs d n (Some inner) (Some strand) (λ i. repeat_left i rounds body)
  repeat_on rounds body strand inner is stands path None number shown = absurd shown
  repeat_on rounds body strand inner is stands path (Some o) number shown = subst (λ q. Shows d n q (InRepeat o rounds body)) (sym is) (o, refl, shown, stands)
