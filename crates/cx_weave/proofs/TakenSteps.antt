-- What strands take now is no more than what they take at most.
use Rattle.std.proofs.Common.{◌≡◌, ℕ, ◌+◌, ◌≤◌, List, [], ◌∷◌, ◌++◌, Option, Some, None, refl, sym, ap, subst, arith}
use Rattle.cx_meaning.specs.declared.sights.Seen.{Seen}
use Rattle.cx_meaning.specs.Designs.{PlainDesign}
use Rattle.cx_meaning.specs.Instances.{Instance, Path, instance_at, tree_of}
use Rattle.cx_state.specs.Tables.{IsNumber}
use Rattle.cx_turns.proofs.ChildLemmas.{called_is}
use Rattle.cx_weave.specs.declared.needs.Piece.{Piece}
use Rattle.cx_weave.specs.declared.needs.Piece.TheVariants as pieces
use Rattle.cx_orders.specs.Open.{Open, Opens, no_arms, an_arm, beside}
use Rattle.cx_weave.specs.Strands.{PlainStrand, AnIdling, AGroup, AChoice, ATest, AnIsland, ACapture, AClosing, AWaiting, ASeq, APar, ALoop, ARepeat, ACall, PlainArms, one_arm, both_arms, Shows, ShowsAll}
use Rattle.cx_weave.specs.Takes.{box_takes, par_takes, island_takes, call_takes, arms_in, room, rooms, inputs_taken, arms_take, taken, all_taken}
use Rattle.cx_weave.proofs.CallSteps.{child_is}

call_taken : (k : Piece) (inputs : Option (List Seen)) (x y : ℕ) → x ≤ y → box_takes k + inputs_taken k inputs + x ≤ call_takes k + y
call_taken pieces.Boxes inputs x y le = omega (arith, le)
call_taken pieces.Arms inputs x y le = omega (arith, le)
call_taken pieces.Islands inputs x y le = omega (arith, le)
call_taken pieces.Inputs None x y le = omega (arith, le)
call_taken pieces.Inputs (Some list) x y le = omega (arith, le)

-- the boxes of arms
pub one_takes : (k : Piece) → arms_take k + arms_take k ≡ par_takes k 1
one_takes pieces.Boxes = refl
one_takes pieces.Arms = refl
one_takes pieces.Islands = refl
one_takes pieces.Inputs = refl

pub both_take : (k : Piece) (m n : ℕ) → par_takes k (m + n) ≡ par_takes k m + par_takes k n
both_take pieces.Boxes m n = refl
both_take pieces.Arms m n = omega arith
both_take pieces.Islands m n = refl
both_take pieces.Inputs m n = refl

pub arms_beside : (front back : Opens) → arms_in (beside front back) ≡ arms_in front + arms_in back
arms_beside no_arms back = omega arith
arms_beside (an_arm st arm arms) back = (let h = arms_beside arms back in omega (arith, h))

pub rooms_beside : (k : Piece) (i : Instance) (front back : Opens) → rooms k i (beside front back) ≡ rooms k i front + rooms k i back
rooms_beside k i no_arms back = omega arith
rooms_beside k i (an_arm st arm arms) back = (let h = rooms_beside k i arms back in omega (arith, h))

module _ (k : Piece) (d : PlainDesign) where
  mutual
    pub taken_room : (n : ℕ) (path : Path) (p : PlainStrand) (o : Open) → IsNumber d n path → Shows d n p o → taken k p ≤ room k (instance_at (tree_of d) path) o
    taken_room n path AnIdling o number shown = omega arith
    taken_room n path (AGroup g) o number shown = omega arith
    taken_room n path (AChoice port comb a b) o number shown = omega arith
    taken_room n path (ATest port comb body) o number shown = omega arith
    taken_room n path (AnIsland form t left samples cells) o number shown = subst (λ x. island_takes k ≤ room k (instance_at (tree_of d) path) x) (sym shown.1) (omega arith)
    taken_room n path (ACapture g c) o number shown = omega arith
    taken_room n path (AClosing g) o number shown = omega arith
    taken_room n path AWaiting o number shown = omega arith
    taken_room n path (ASeq first later) o number (run, e, inner, stands) =
        let i = instance_at (tree_of d) path in
        let le = taken_room n path first run number inner in
        subst (λ x. box_takes k + taken k first ≤ room k i x) (sym e) (omega (arith, le))
    taken_room n path (APar arms) o number (list, e, all) =
        let i = instance_at (tree_of d) path in
        let le = all_taken_room n path arms list number all in
        subst (λ x. arms_take k + all_taken k arms ≤ room k i x) (sym e) (omega (arith, le))
    taken_room n path (ALoop run port comb body) o number (now, e, inner, stands) =
        let i = instance_at (tree_of d) path in
        let le = taken_room n path run now number inner in
        subst (λ x. box_takes k + taken k run ≤ room k i x) (sym e) (omega (arith, le))
    taken_room n path (ARepeat run left body) o number (now, e, inner, stands) =
        let i = instance_at (tree_of d) path in
        let le = taken_room n path run now number inner in
        subst (λ x. box_takes k + taken k run ≤ room k i x) (sym e) (omega (arith, le))
    taken_room n path (ACall g c inputs child) o number (now, e, group, calls, fits, (m, has, inner)) =
        let i = instance_at (tree_of d) path in
        let same = child_is d n c (λ p q. let r = called_is (instance_at (tree_of d) p) g c (calls p q) in (r.0, r.1)) path number in
        let le : taken k child ≤ room k (instance_at i (c ∷ [])) now = subst (λ x. taken k child ≤ room k x now) same (taken_room m (path ++ c ∷ []) child now (has path number) inner) in
        subst (λ x. box_takes k + inputs_taken k inputs + taken k child ≤ room k i x) (sym e) (call_taken k inputs (taken k child) (room k (instance_at i (c ∷ [])) now) le)

    -- two boxes more than the halves take
    pub all_taken_room : (n : ℕ) (path : Path) (arms : PlainArms) (list : Opens) → IsNumber d n path → ShowsAll d n arms list
        → arms_take k + (arms_take k + all_taken k arms) ≤ par_takes k (arms_in list) + rooms k (instance_at (tree_of d) path) list
    all_taken_room n path (one_arm arm) list number (st, first, e, one) =
        let i = instance_at (tree_of d) path in
        let le = taken_room n path arm first number one in
        let boxes = one_takes k in
        subst (λ x. arms_take k + (arms_take k + taken k arm) ≤ par_takes k (arms_in x) + rooms k i x) (sym e) (omega (arith, le, boxes))
    all_taken_room n path (both_arms leaves one other) list number (front, back, e, first, later, told) =
        let i = instance_at (tree_of d) path in
        let l = all_taken_room n path one front number first in
        let r = all_taken_room n path other back number later in
        let boxes = both_take k (arms_in front) (arms_in back) in
        let count : par_takes k (arms_in (beside front back)) ≡ par_takes k (arms_in front + arms_in back) = ap (par_takes k) (arms_beside front back) in
        let sum = rooms_beside k i front back in
        subst (λ x. arms_take k + (arms_take k + ((arms_take k + all_taken k one) + (arms_take k + all_taken k other))) ≤ par_takes k (arms_in x) + rooms k i x) (sym e) (omega (arith, l, r, boxes, count, sum))
