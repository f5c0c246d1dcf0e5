-- Spare parts for statements as they are opened, and the ledger of it.
use Rattle.std.proofs.Common.{◌≡◌, ℕ, ◌+◌, ◌≤◌, ◌<◌, max, Vec, Global, List, [], ◌∷◌, ◌++◌, length, None, refl, sym, ap, ◌∙◌, subst, arith}
use Rattle.std.specs.Prelude.{vec_len, vec_capacity}
use Rattle.cx_meaning.specs.declared.sights.Seen.{Seen}
use Rattle.cx_meaning.specs.Designs.{PlainDesign, PlainStatement, PlainStatements, Placed, no_place, Enable, Seq, Par, list_of}
use Rattle.cx_meaning.specs.Instances.{Instance, Path, instance_at, tree_of}
use Rattle.cx_design.specs.declared.statements.Statement.{Statement}
use Rattle.cx_design.specs.PlainForms.{plain_statement, plain_statements}
use Rattle.cx_state.specs.Tables.{IsNumber}
use Rattle.cx_turns.specs.Children.{HasChild, HasControl, IsPart}
use Rattle.cx_turns.specs.Groups.{HasLength}
use Rattle.cx_weave.specs.declared.needs.Piece.{Piece}
use Rattle.cx_weave.specs.declared.needs.Piece.TheVariants as pieces
use Rattle.cx_weave.specs.declared.spares.Spares.{Spares}
use Rattle.cx_weave.specs.declared.strands.Strand.{Strand}
use Rattle.cx_weave.specs.declared.strands.Strand.TheVariants as strands
use Rattle.cx_weave.specs.declared.strands.Arms.{Arms}
use Rattle.cx_orders.specs.Open.{open_statement, open_statements}
use Rattle.cx_weave.specs.Strands.{plain_strand, plain_arms, CallsCell}
use Rattle.cx_weave.specs.Strides.{OpensAs, OpenAs}
use Rattle.cx_weave.specs.Takes.{box_takes, par_takes, call_takes, arms_take, arms_in, need, needs, all_needs, room, taken}
use Rattle.cx_weave.specs.Ledger.{Kind, Pieces, Lacks, amount, arms_amount, inputs_amount, box_amount, arms_box_amount, Ledger, Opened, ArmsOpened}
use Rattle.cx_weave.specs.Supplied.{Supplied, MayOpen, MayOpenAll}
use Rattle.cx_weave.proofs.Amounts.{amount_call}
use Rattle.cx_weave.proofs.Ledgers.{and_then, untouched}
use Rattle.cx_weave.proofs.NeedSteps.{needs_call}
use Rattle.cx_weave.proofs.RoomSteps.{all_opened, opened_room}
use Rattle.cx_weave.proofs.Supplies.{less_asked, onward}
use Rattle.cx_weave.proofs.TakenSteps.{all_taken_room, both_take, taken_room}

-- what takes nothing
pub nothing_opened : (s : Spares) (strand : Strand) → ((x : Kind) → amount x strand ≡ 0) → Opened s s strand
nothing_opened s strand none = record { most = λ x. (let e = none x in omega (arith, e)); least = λ k. (let e = none (Pieces k) in omega (arith, e)); places = λ k. omega arith }

-- a strand in a box, around what is open of a part
pub boxed : (old mid new : Spares) (run strand : Strand) → Opened old mid run → Ledger mid new (λ x. 0) box_amount → ((x : Kind) → amount x strand ≡ box_amount x + amount x run) → Opened old new strand
boxed old mid new run strand one two is =
    and_then old mid new (λ x. 0) (λ x. amount x run) (λ x. 0) box_amount (λ x. 0) (λ x. amount x strand) (λ x. 0) (λ x. amount x run) one two (λ x. omega arith) (λ x. omega arith) is

pub arms_boxed : (old mid new : Spares) (arms : Arms) (strand : Strand) → ArmsOpened old mid arms → Ledger mid new (λ x. 0) arms_box_amount → ((x : Kind) → amount x strand ≡ arms_box_amount x + arms_amount x arms) → Opened old new strand
arms_boxed old mid new arms strand one two is =
    and_then old mid new (λ x. 0) (λ x. arms_amount x arms) (λ x. 0) arms_box_amount (λ x. 0) (λ x. amount x strand) (λ x. 0) (λ x. arms_amount x arms) one two (λ x. omega arith) (λ x. omega arith) is

-- one arm
pub one_opened : (old new : Spares) (arm : Strand) (arms : Arms) → Opened old new arm → ((x : Kind) → arms_amount x arms ≡ amount x arm) → ArmsOpened old new arms
one_opened old new arm arms l is = record {
  most = λ x. (let h = l.most x in let e = is x in omega (arith, h, e));
  least = λ k. (let h = l.least k in let e = is (Pieces k) in omega (arith, h, e));
  places = l.places;
}

-- a call whose inputs are not yet seen
pub none_taken : {V : Type 0} (room : V → ℕ) (x : Kind) → inputs_amount room x None ≡ 0
none_taken room (Pieces pieces.Boxes) = refl
none_taken room (Pieces pieces.Arms) = refl
none_taken room (Pieces pieces.Islands) = refl
none_taken room (Pieces pieces.Inputs) = refl
none_taken room (Lacks l) = refl

pub call_strand : (x : Kind) (g c : ℕ) (child : _) → amount x (strands.InCall g c None child) ≡ box_amount x + amount x child.value
call_strand x g c child = (let e = amount_call x g c None child in let f = none_taken (λ (v : Vec Seen Global). vec_capacity v) x in omega (arith, e, f))

-- two halves of arms, each in a box
pub both_boxed : (old one two three new : Spares) (front back whole : Arms) → ArmsOpened old one front → ArmsOpened one two back → Ledger two three (λ x. 0) arms_box_amount → Ledger three new (λ x. 0) arms_box_amount
    → ((x : Kind) → arms_amount x whole ≡ (arms_box_amount x + arms_amount x front) + (arms_box_amount x + arms_amount x back)) → ArmsOpened old new whole
both_boxed old one two three new front back whole a b c e is = record {
  most = λ x. (let p = a.most x in let q = b.most x in let r = c.most x in let s = e.most x in let w = is x in omega (arith, p, q, r, s, w));
  least = λ k. (let p = a.least k in let q = b.least k in let r = c.least k in let s = e.least k in let w = is (Pieces k) in omega (arith, p, q, r, s, w));
  places = λ k. (let p = a.places k in let q = b.places k in let r = c.places k in let s = e.places k in omega (arith, p, q, r, s));
}

-- WHAT IS OPENED takes no more than was asked
pub opened_takes : (k : Piece) (d : PlainDesign) (n : ℕ) (st : PlainStatement) (strand : Strand) (path : Path) → IsNumber d n path → OpensAs d n st strand → amount (Pieces k) strand ≤ need k (instance_at (tree_of d) path) st
opened_takes k d n st strand path number opens =
    let le = taken_room k d n path (plain_strand strand) (open_statement (instance_at (tree_of d) path) st) number (opens path number) in
    let room_le = opened_room k (instance_at (tree_of d) path) st in
    omega (arith, le, room_le)

pub arms_take_less : (k : Piece) (d : PlainDesign) (n : ℕ) (sts : PlainStatements) (arms : Arms) (path : Path) → IsNumber d n path → OpenAs d n sts arms
    → arms_take k + (arms_take k + arms_amount (Pieces k) arms) ≤ par_takes k (length (list_of sts)) + all_needs k (instance_at (tree_of d) path) sts
arms_take_less k d n sts arms path number opens =
    let i = instance_at (tree_of d) path in
    let le = all_taken_room k d n path (plain_arms arms) (open_statements i sts) number (opens path number) in
    let all = all_opened k i sts in
    let count : par_takes k (arms_in (open_statements i sts)) ≡ par_takes k (length (list_of sts)) = ap (par_takes k) all.0 in
    let most = all.1 in
    omega (arith, le, count, most)

-- a box is left for the strand around a part
pub box_left : (d : PlainDesign) (n m : ℕ) (old new : Spares) (asked : Piece → Instance → ℕ) (st : PlainStatement) (run : Strand) (s : Supplied d n old asked (λ x. 0)) (path : Path) → IsNumber d m path
    → box_takes pieces.Boxes + need pieces.Boxes (instance_at (tree_of d) path) st ≤ asked pieces.Boxes (instance_at (tree_of d) s.path) → OpensAs d m st run → Opened old new run → 0 < vec_len new.boxes
box_left d n m old new asked st run s path number fewer opens l =
    let takes = opened_takes pieces.Boxes d m st run path number opens in
    let enough = s.enough pieces.Boxes in
    let least = l.least pieces.Boxes in
    omega (arith, takes, enough, least, fewer)

-- A SEQ: its first part
pub first_asked : (d : PlainDesign) (n : ℕ) (spares : Spares) (parts later : List Statement) (part : Statement) → parts ≡ part ∷ later → MayOpen d n spares (Placed (Seq (plain_statements parts)) no_place) → MayOpen d n spares (plain_statement part)
first_asked d n spares parts later part are may =
    less_asked d n spares (λ k i. need k i (Placed (Seq (plain_statements parts)) no_place)) (λ k i. need k i (plain_statement part)) (λ x. 0) (λ x. 0) (λ x. 0) may (λ x. omega arith)
    (λ k i. subst (λ (xs : List Statement). need k i (plain_statement part) + 0 ≤ need k i (Placed (Seq (plain_statements xs)) no_place)) (sym are) (omega arith))

pub seq_box : (d : PlainDesign) (n : ℕ) (old new : Spares) (parts later : List Statement) (part : Statement) (run : Strand) → parts ≡ part ∷ later → MayOpen d n old (Placed (Seq (plain_statements parts)) no_place)
    → OpensAs d n (plain_statement part) run → Opened old new run → 0 < vec_len new.boxes
seq_box d n old new parts later part run are may opens l =
    let i = instance_at (tree_of d) may.path in
    box_left d n n old new (λ k j. need k j (Placed (Seq (plain_statements parts)) no_place)) (plain_statement part) run may may.path may.number
    (subst (λ (xs : List Statement). 1 + need pieces.Boxes i (plain_statement part) ≤ need pieces.Boxes i (Placed (Seq (plain_statements xs)) no_place)) (sym are) (omega arith)) opens l

-- the next part, whose box is in hand
pub next_asked : (d : PlainDesign) (n : ℕ) (spares : Spares) (parts later : List Statement) (part : Statement) → parts ≡ part ∷ later → Supplied d n spares (λ k i. box_takes k + needs k i (plain_statements parts)) box_amount → MayOpen d n spares (plain_statement part)
next_asked d n spares parts later part are s =
    less_asked d n spares (λ k i. box_takes k + needs k i (plain_statements parts)) (λ k i. need k i (plain_statement part)) box_amount box_amount (λ x. 0) s (λ x. omega arith)
    (λ k i. subst (λ (xs : List Statement). need k i (plain_statement part) + box_takes k ≤ box_takes k + needs k i (plain_statements xs)) (sym are) (omega arith))

pub round_asked : (d : PlainDesign) (n : ℕ) (spares : Spares) (body : PlainStatement) → Supplied d n spares (λ k i. box_takes k + need k i body) box_amount → MayOpen d n spares body
round_asked d n spares body s = less_asked d n spares (λ k i. box_takes k + need k i body) (λ k i. need k i body) box_amount box_amount (λ x. 0) s (λ x. omega arith) (λ k i. omega arith)

-- A REPEAT, and the body of a while: the body
pub body_asked : (d : PlainDesign) (n : ℕ) (spares : Spares) (body : PlainStatement) → Supplied d n spares (λ k i. box_takes k + need k i body) (λ x. 0) → MayOpen d n spares body
body_asked d n spares body s = less_asked d n spares (λ k i. box_takes k + need k i body) (λ k i. need k i body) (λ x. 0) (λ x. 0) (λ x. 0) s (λ x. omega arith) (λ k i. omega arith)

pub body_box : (d : PlainDesign) (n : ℕ) (old new : Spares) (body : PlainStatement) (run : Strand) → Supplied d n old (λ k i. box_takes k + need k i body) (λ x. 0) → OpensAs d n body run → Opened old new run → 0 < vec_len new.boxes
body_box d n old new body run s opens l = box_left d n n old new (λ k i. box_takes k + need k i body) body run s s.path s.number (omega arith) opens l

-- AN IF: its branches
module _ (d : PlainDesign) (n : ℕ) (spares : Spares) (a b : PlainStatement) (s : Supplied d n spares (λ k i. max (need k i a) (need k i b)) (λ x. 0)) where
  pub first_branch : MayOpen d n spares a
  first_branch = less_asked d n spares (λ k i. max (need k i a) (need k i b)) (λ k i. need k i a) (λ x. 0) (λ x. 0) (λ x. 0) s (λ x. omega arith) (λ k i. omega arith)

  pub second_branch : MayOpen d n spares b
  second_branch = less_asked d n spares (λ k i. max (need k i a) (need k i b)) (λ k i. need k i b) (λ x. 0) (λ x. 0) (λ x. 0) s (λ x. omega arith) (λ k i. omega arith)

-- A PAR: its arms, and a box for them
module _ (d : PlainDesign) (n : ℕ) (old : Spares) (sts : PlainStatements) (may : MayOpen d n old (Placed (Par sts) no_place)) where
  pub arms_asked : MayOpenAll d n old sts
  arms_asked = less_asked d n old (λ k i. need k i (Placed (Par sts) no_place)) (λ k i. par_takes k (length (list_of sts)) + all_needs k i sts) (λ x. 0) (λ x. 0) (λ x. 0) may (λ x. omega arith) (λ k i. omega arith)

  pub par_box : (new : Spares) (arms : Arms) → OpenAs d n sts arms → ArmsOpened old new arms → 0 < vec_len new.arms
  par_box new arms opens l =
      let takes = arms_take_less pieces.Arms d n sts arms may.path may.number opens in
      let enough = may.enough pieces.Arms in
      let least = l.least pieces.Arms in
      omega (arith, takes, enough, least)

-- one arm
pub arm_asked : (d : PlainDesign) (n : ℕ) (spares : Spares) (arms : List Statement) (arm : Statement) → arms ≡ arm ∷ [] → MayOpenAll d n spares (plain_statements arms) → MayOpen d n spares (plain_statement arm)
arm_asked d n spares arms arm are may =
    less_asked d n spares (λ k i. par_takes k (length (list_of (plain_statements arms))) + all_needs k i (plain_statements arms)) (λ k i. need k i (plain_statement arm)) (λ x. 0) (λ x. 0) (λ x. 0) may (λ x. omega arith)
    (λ k i. subst (λ (xs : List Statement). need k i (plain_statement arm) + 0 ≤ par_takes k (length (list_of (plain_statements xs))) + all_needs k i (plain_statements xs)) (sym are) (omega arith))

-- halves of arms
counts_beside : (front back : List Statement) → length (list_of (plain_statements (front ++ back))) ≡ length (list_of (plain_statements front)) + length (list_of (plain_statements back))
counts_beside [] back = omega arith
counts_beside (s ∷ ss) back = (let h = counts_beside ss back in omega (arith, h))

needs_beside : (k : Piece) (i : Instance) (front back : List Statement) → all_needs k i (plain_statements (front ++ back)) ≡ all_needs k i (plain_statements front) + all_needs k i (plain_statements back)
needs_beside k i [] back = omega arith
needs_beside k i (s ∷ ss) back = (let h = needs_beside k i ss back in omega (arith, h))

module _ (d : PlainDesign) (n : ℕ) (old : Spares) (front back : List Statement) (may : MayOpenAll d n old (plain_statements (front ++ back))) where
  halved : (k : Piece) (i : Instance)
      → par_takes k (length (list_of (plain_statements (front ++ back)))) + all_needs k i (plain_statements (front ++ back))
      ≡ (par_takes k (length (list_of (plain_statements front))) + all_needs k i (plain_statements front)) + (par_takes k (length (list_of (plain_statements back))) + all_needs k i (plain_statements back))
  halved k i =
      let boxes : par_takes k (length (list_of (plain_statements (front ++ back)))) ≡ par_takes k (length (list_of (plain_statements front))) + par_takes k (length (list_of (plain_statements back))) =
      ap (par_takes k) (counts_beside front back) ∙ both_take k (length (list_of (plain_statements front))) (length (list_of (plain_statements back))) in
      let sum = needs_beside k i front back in
      omega (arith, boxes, sum)

  pub front_asked : MayOpenAll d n old (plain_statements front)
  front_asked =
      less_asked d n old (λ k i. par_takes k (length (list_of (plain_statements (front ++ back)))) + all_needs k i (plain_statements (front ++ back))) (λ k i. par_takes k (length (list_of (plain_statements front))) + all_needs k i (plain_statements front)) (λ x. 0) (λ x. 0) (λ x. 0) may
      (λ x. omega arith) (λ k i. (let e = halved k i in omega (arith, e)))

  -- behind the first half, the second, and both boxes
  module _ (mid : Spares) (one : Arms) (first : OpenAs d n (plain_statements front) one) (l : ArmsOpened old mid one) where
    pub back_asked : MayOpenAll d n mid (plain_statements back)
    back_asked = record {
      lengths = may.lengths;
      suffice = may.suffice;
      path = may.path;
      number = may.number;
      enough = λ k. (let e = halved k (instance_at (tree_of d) may.path) in let a = may.enough k in let t = arms_take_less k d n (plain_statements front) one may.path may.number first in let h = l.least k in omega (arith, e, a, t, h));
      places = λ k. (let p = may.places k in let h = l.most (Pieces k) in let q = l.places k in omega (arith, p, h, q));
      lists = (let a = may.lists in let h = l.most (Lacks may.lengths) in omega (arith, a, h));
    }

    two_boxes : (new : Spares) (other : Arms) → OpenAs d n (plain_statements back) other → ArmsOpened mid new other → 2 ≤ vec_len new.arms
    two_boxes new other later r =
        let e = halved pieces.Arms (instance_at (tree_of d) may.path) in
        let a = may.enough pieces.Arms in
        let t = arms_take_less pieces.Arms d n (plain_statements front) one may.path may.number first in
        let u = arms_take_less pieces.Arms d n (plain_statements back) other may.path may.number later in
        let h = l.least pieces.Arms in
        let g = r.least pieces.Arms in
        omega (arith, e, a, t, u, h, g)

    pub first_box : (new : Spares) (other : Arms) → OpenAs d n (plain_statements back) other → ArmsOpened mid new other → 0 < vec_len new.arms
    first_box new other later r = (let e = two_boxes new other later r in omega (arith, e))

    pub second_box : (new last : Spares) (other : Arms) → OpenAs d n (plain_statements back) other → ArmsOpened mid new other → Ledger new last (λ x. 0) arms_box_amount → 0 < vec_len last.arms
    second_box new last other later r taken = (let e = two_boxes new other later r in let h = taken.least pieces.Arms in omega (arith, e, h))

-- A CALL: the child's control, and a box for it
module _ (d : PlainDesign) (n g c m : ℕ) (old : Spares) (control : PlainStatement) (length : HasLength d n g None) (part : IsPart d n c) (has : HasChild d n c m) (calls : CallsCell d n g c) (controls : HasControl d m control)
    (may : MayOpen d n old (Placed (Enable g) no_place)) where
  asked_below : (k : Piece) → need k (instance_at (tree_of d) may.path) (Placed (Enable g) no_place) ≡ call_takes k + need k (instance_at (tree_of d) (may.path ++ c ∷ [])) control
  asked_below k = needs_call d n k g c m control length part has controls may.path may.number (calls may.path may.number)

  pub control_asked : MayOpen d m old control
  control_asked =
      onward d n m old old (λ k i. need k i (Placed (Enable g) no_place)) (λ k i. need k i control) (λ x. 0) (λ x. 0) (λ x. 0) (λ x. 0) (λ x. 0) (λ x. 0) may (untouched old (λ x. 0)) (may.path ++ c ∷ []) (has may.path may.number) (λ x. omega arith) (λ x. omega arith)
      (λ k. (let e = asked_below k in omega (arith, e)))

  pub call_box : (new : Spares) (run : Strand) → OpensAs d m control run → Opened old new run → 0 < vec_len new.boxes
  call_box new run opens l =
      box_left d n m old new (λ k i. need k i (Placed (Enable g) no_place)) control run may (may.path ++ c ∷ []) (has may.path may.number) (let e = asked_below pieces.Boxes in omega (arith, e)) opens l
