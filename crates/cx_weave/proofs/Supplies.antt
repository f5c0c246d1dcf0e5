-- Spare parts for what is asked: for a statement and its parts, for what is open and for what it opens.
use Rattle.std.proofs.Common.{◌≡◌, ℕ, ◌+◌, ◌≤◌, max, List, [], ◌∷◌, ◌++◌, Option, Some, refl, sym, ap, ◌∙◌, subst, arith}
use Rattle.cx_meaning.specs.declared.sights.Seen.{Seen}
use Rattle.cx_meaning.specs.declared.ports.PlacedPort.{PlacedPort}
use Rattle.cx_meaning.specs.Designs.{PlainDesign, PlainStatement, PlainStatements}
use Rattle.cx_meaning.specs.Instances.{Instance, Path, instance_at, tree_of}
use Rattle.cx_state.specs.Tables.{IsNumber}
use Rattle.cx_turns.specs.Children.{HasChild}
use Rattle.cx_turns.proofs.ChildLemmas.{called_is}
use Rattle.cx_weave.specs.declared.needs.Piece.{Piece}
use Rattle.cx_weave.specs.declared.needs.Piece.TheVariants as pieces
use Rattle.cx_weave.specs.declared.spares.Spares.{Spares}
use Rattle.cx_orders.specs.Open.{Open, Opens, beside}
use Rattle.cx_weave.specs.Strands.{PlainStrand, AChoice, ATest, ASeq, APar, ALoop, ARepeat, ACall, PlainArms, one_arm, both_arms, Shows, ShowsAll}
use Rattle.cx_weave.specs.Takes.{box_takes, par_takes, call_takes, inputs_taken, arms_take, arms_in, need, needs, room, rooms, taken, all_taken}
use Rattle.cx_weave.specs.Ledger.{Kind, Pieces, Lacks, box_amount, arms_box_amount, HasPlaces, Ledger}
use Rattle.cx_weave.specs.Supplied.{Supplied, MayTurn, MayTurnAll}
use Rattle.cx_weave.proofs.Ledgers.{untouched}
use Rattle.cx_weave.proofs.CallSteps.{child_is, same_child}
use Rattle.cx_weave.proofs.TakenSteps.{all_taken_room, arms_beside, both_take, one_takes, rooms_beside, taken_room}

-- FROM ONE REQUEST TO THE NEXT: some of what is in hand is turned into other things, and some is put aside, which was asked too
pub onward : (d : PlainDesign) (n m : ℕ) (old new : Spares) (asked also : Piece → Instance → ℕ) (hand before after rest aside kept : Kind → ℕ) → (s : Supplied d n old asked hand) → Ledger old new before after → (path : Path) → IsNumber d m path
    → ((x : Kind) → hand x ≡ before x + (rest x + aside x)) → ((x : Kind) → kept x ≡ after x + rest x)
    → ((k : Piece) → also k (instance_at (tree_of d) path) + aside (Pieces k) ≤ asked k (instance_at (tree_of d) s.path)) → Supplied d m new also kept
onward d n m old new asked also hand before after rest aside kept s l path number first last fewer = record {
  lengths = s.lengths;
  suffice = s.suffice;
  path = path;
  number = number;
  enough = λ k. (let a = fewer k in let b = s.enough k in let e = first (Pieces k) in let f = last (Pieces k) in let h = l.least k in omega (arith, a, b, e, f, h));
  places = λ k. (let b = s.places k in let e = first (Pieces k) in let f = last (Pieces k) in let h = l.most (Pieces k) in let p = l.places k in omega (arith, b, e, f, h, p));
  lists = (let b = s.lists in let e = first (Lacks s.lengths) in let f = last (Lacks s.lengths) in let h = l.most (Lacks s.lengths) in omega (arith, b, e, f, h));
}

-- in the same place, before anything is taken
pub less_asked : (d : PlainDesign) (n : ℕ) (old : Spares) (asked also : Piece → Instance → ℕ) (hand aside kept : Kind → ℕ) → Supplied d n old asked hand
    → ((x : Kind) → hand x ≡ kept x + aside x) → ((k : Piece) (i : Instance) → also k i + aside (Pieces k) ≤ asked k i) → Supplied d n old also kept
less_asked d n old asked also hand aside kept s first fewer =
    onward d n n old old asked also hand (λ x. 0) (λ x. 0) kept aside kept s (untouched old (λ x. 0)) s.path s.number (λ x. (let e = first x in omega (arith, e))) (λ x. omega arith) (λ k. fewer k (instance_at (tree_of d) s.path))

-- and behind a turn
pub turned_asked : (d : PlainDesign) (n : ℕ) (old new : Spares) (asked also : Piece → Instance → ℕ) (hand before after rest kept : Kind → ℕ) → Supplied d n old asked hand → Ledger old new before after
    → ((x : Kind) → hand x ≡ before x + rest x) → ((x : Kind) → kept x ≡ after x + rest x) → ((k : Piece) (i : Instance) → also k i ≤ asked k i) → Supplied d n new also kept
turned_asked d n old new asked also hand before after rest kept s l first last fewer =
    onward d n n old new asked also hand before after rest (λ x. 0) kept s l s.path s.number (λ x. (let e = first x in omega (arith, e))) last (λ k. (let h = fewer k (instance_at (tree_of d) s.path) in omega (arith, h)))

-- A STATEMENT OF WHICH ONE PART IS OPEN: of the part
part_turns : (d : PlainDesign) (n : ℕ) (spares : Spares) (inner : PlainStrand) (whole run : Open) (hand part : Kind → ℕ) → Shows d n inner run → ((k : Piece) (i : Instance) → room k i run + box_takes k ≤ room k i whole)
    → ((x : Kind) → hand x ≡ box_amount x + part x) → Supplied d n spares (λ k i. room k i whole) hand → MayTurn d n spares inner part
part_turns d n spares inner whole run hand part shown fewer is s = (
  run,
  shown,
  less_asked d n spares (λ k i. room k i whole) (λ k i. room k i run) hand box_amount part s (λ x. (let e = is x in omega (arith, e))) fewer,
)

module _ (d : PlainDesign) (n : ℕ) (spares : Spares) (p : PlainStrand) (part : Kind → ℕ) where
  pub seq_turns : (later : PlainStatements) → MayTurn d n spares (ASeq p later) (λ x. box_amount x + part x) → MayTurn d n spares p part
  seq_turns later (o, (run, e, inner, stands), s) =
      part_turns d n spares p o run (λ x. box_amount x + part x) part inner (λ k i. subst (λ w. room k i run + box_takes k ≤ room k i w) (sym e) (omega arith)) (λ x. refl) s

  pub loop_turns : (port : PlacedPort) (comb : Option ℕ) (body : PlainStatement) → MayTurn d n spares (ALoop p port comb body) (λ x. box_amount x + part x) → MayTurn d n spares p part
  loop_turns port comb body (o, (run, e, inner, stands), s) =
      part_turns d n spares p o run (λ x. box_amount x + part x) part inner (λ k i. subst (λ w. room k i run + box_takes k ≤ room k i w) (sym e) (omega arith)) (λ x. refl) s

  pub repeat_turns : (rounds : ℕ) (body : PlainStatement) → MayTurn d n spares (ARepeat p rounds body) (λ x. box_amount x + part x) → MayTurn d n spares p part
  repeat_turns rounds body (o, (run, e, inner, stands), s) =
      part_turns d n spares p o run (λ x. box_amount x + part x) part inner (λ k i. subst (λ w. room k i run + box_takes k ≤ room k i w) (sym e) (omega arith)) (λ x. refl) s

  -- and behind its turn
  module _ (new : Spares) (left : Kind → ℕ) (l : Ledger spares new part left) where
    pub seq_goes_on : (later : PlainStatements) → MayTurn d n spares (ASeq p later) (λ x. box_amount x + part x) → Supplied d n new (λ k i. box_takes k + needs k i later) (λ x. box_amount x + left x)
    seq_goes_on later (o, (run, e, inner, stands), s) =
        turned_asked d n spares new (λ k i. room k i o) (λ k i. box_takes k + needs k i later) (λ x. box_amount x + part x) part left box_amount (λ x. box_amount x + left x) s l (λ x. omega arith) (λ x. omega arith)
        (λ k i. subst (λ w. box_takes k + needs k i later ≤ room k i w) (sym e) (omega arith))

    pub loop_goes_on : (port : PlacedPort) (comb : Option ℕ) (body : PlainStatement) → MayTurn d n spares (ALoop p port comb body) (λ x. box_amount x + part x) → HasPlaces new (λ x. box_amount x + left x)
    loop_goes_on port comb body (o, shown, s) k = (let b = s.places k in let h = l.most (Pieces k) in let q = l.places k in omega (arith, b, h, q))

    pub repeat_goes_on : (rounds : ℕ) (body : PlainStatement) → MayTurn d n spares (ARepeat p rounds body) (λ x. box_amount x + part x) → Supplied d n new (λ k i. box_takes k + need k i body) (λ x. box_amount x + left x)
    repeat_goes_on rounds body (o, (run, e, inner, stands), s) =
        turned_asked d n spares new (λ k i. room k i o) (λ k i. box_takes k + need k i body) (λ x. box_amount x + part x) part left box_amount (λ x. box_amount x + left x) s l (λ x. omega arith) (λ x. omega arith)
        (λ k i. subst (λ w. box_takes k + need k i body ≤ room k i w) (sym e) (omega arith))

-- THE ARMS OF A PAR, whose box is in hand
pub par_turns : (d : PlainDesign) (n : ℕ) (spares : Spares) (arms : PlainArms) (part : Kind → ℕ) → MayTurn d n spares (APar arms) (λ x. arms_box_amount x + part x) → MayTurnAll d n spares arms part
par_turns d n spares arms part (o, (list, e, all), s) = (
  list,
  all,
  less_asked d n spares (λ k i. room k i o) (λ k i. par_takes k (arms_in list) + rooms k i list) (λ x. arms_box_amount x + part x) (λ x. 0) (λ x. arms_box_amount x + part x) s (λ x. omega arith)
      (λ k i. subst (λ w. (par_takes k (arms_in list) + rooms k i list) + 0 ≤ room k i w) (sym e) (omega arith)),
)

-- one arm: two boxes were asked with it
pub arm_turns : (d : PlainDesign) (n : ℕ) (spares : Spares) (arm : PlainStrand) (part : Kind → ℕ) → MayTurnAll d n spares (one_arm arm) part → MayTurn d n spares arm part
arm_turns d n spares arm part (list, (st, first, e, shown), s) = (
  first,
  shown,
  less_asked d n spares (λ k i. par_takes k (arms_in list) + rooms k i list) (λ k i. room k i first) (λ x. arms_box_amount x + part x) arms_box_amount part s (λ x. omega arith)
      (λ k i. (let boxes = one_takes k in subst (λ w. room k i first + arms_take k ≤ par_takes k (arms_in w) + rooms k i w) (sym e) (omega (arith, boxes)))),
)

-- a half: the other has taken no more than was asked for it
module _ (d : PlainDesign) (n : ℕ) (spares : Spares) (leaves : ℕ) (one other : PlainArms) (part rest : Kind → ℕ) where
  abbrev Halves : Type 0
  Halves = MayTurnAll d n spares (both_arms leaves one other) (λ x. (arms_box_amount x + part x) + (arms_box_amount x + rest x))

  split : (front back : Opens) (k : Piece) (i : Instance) → par_takes k (arms_in (beside front back)) + rooms k i (beside front back) ≡ (par_takes k (arms_in front) + rooms k i front) + (par_takes k (arms_in back) + rooms k i back)
  split front back k i =
      let boxes : par_takes k (arms_in (beside front back)) ≡ par_takes k (arms_in front) + par_takes k (arms_in back) = ap (par_takes k) (arms_beside front back) ∙ both_take k (arms_in front) (arms_in back) in
      let sum = rooms_beside k i front back in
      omega (arith, boxes, sum)

  pub front_turns : ((k : Piece) → rest (Pieces k) ≡ all_taken k other) → Halves → MayTurnAll d n spares one part
  front_turns is (list, (front, back, e, first, later, told), s) = (
    front,
    first,
    onward d n n spares spares (λ k i. par_takes k (arms_in list) + rooms k i list) (λ k i. par_takes k (arms_in front) + rooms k i front) (λ x. arms_box_amount x + ((arms_box_amount x + part x) + (arms_box_amount x + rest x))) (λ x. 0) (λ x. 0)
        (λ x. arms_box_amount x + part x) (λ x. arms_box_amount x + (arms_box_amount x + rest x)) (λ x. arms_box_amount x + part x) s (untouched spares (λ x. 0)) s.path s.number (λ x. omega arith) (λ x. omega arith)
        (λ k.
        let i = instance_at (tree_of d) s.path in
        let le = all_taken_room k d n s.path other back s.number later in
        let same = is k in
        let sum = split front back k i in
        subst (λ w. (par_takes k (arms_in front) + rooms k i front) + (arms_take k + (arms_take k + rest (Pieces k))) ≤ par_takes k (arms_in w) + rooms k i w) (sym e) (omega (arith, le, same, sum))),
  )

  pub back_turns : ((k : Piece) → part (Pieces k) ≡ all_taken k one) → Halves → MayTurnAll d n spares other rest
  back_turns is (list, (front, back, e, first, later, told), s) = (
    back,
    later,
    onward d n n spares spares (λ k i. par_takes k (arms_in list) + rooms k i list) (λ k i. par_takes k (arms_in back) + rooms k i back) (λ x. arms_box_amount x + ((arms_box_amount x + part x) + (arms_box_amount x + rest x))) (λ x. 0) (λ x. 0)
        (λ x. arms_box_amount x + rest x) (λ x. arms_box_amount x + (arms_box_amount x + part x)) (λ x. arms_box_amount x + rest x) s (untouched spares (λ x. 0)) s.path s.number (λ x. omega arith) (λ x. omega arith)
        (λ k.
        let i = instance_at (tree_of d) s.path in
        let le = all_taken_room k d n s.path one front s.number first in
        let same = is k in
        let sum = split front back k i in
        subst (λ w. (par_takes k (arms_in back) + rooms k i back) + (arms_take k + (arms_take k + part (Pieces k))) ≤ par_takes k (arms_in w) + rooms k i w) (sym e) (omega (arith, le, same, sum))),
  )

-- behind a turn of a half, the box of which is in hand
module _ (old : Spares) (part rest : Kind → ℕ) (new : Spares) (left : Kind → ℕ) (places : HasPlaces old (λ x. (arms_box_amount x + part x) + (arms_box_amount x + rest x))) where
  pub front_placed : Ledger old new part left → HasPlaces new (λ x. (arms_box_amount x + left x) + (arms_box_amount x + rest x))
  front_placed l k = (let p = places k in let h = l.most (Pieces k) in let q = l.places k in omega (arith, p, h, q))

  pub back_placed : Ledger old new rest left → HasPlaces new (λ x. (arms_box_amount x + part x) + (arms_box_amount x + left x))
  back_placed l k = (let p = places k in let h = l.most (Pieces k) in let q = l.places k in omega (arith, p, h, q))

-- and behind one of all the arms
pub par_placed : (d : PlainDesign) (n : ℕ) (old : Spares) (arms : PlainArms) (part : Kind → ℕ) (new : Spares) (left : Kind → ℕ) → Ledger old new part left → MayTurn d n old (APar arms) (λ x. arms_box_amount x + part x) → HasPlaces new (λ x. arms_box_amount x + left x)
par_placed d n old arms part new left l (o, shown, s) k = (let p = s.places k in let h = l.most (Pieces k) in let q = l.places k in omega (arith, p, h, q))

-- A CALL: its box and its inputs are in hand
call_pieces : {V : Type 0} (k : Piece) (list : V) → box_takes k + inputs_taken k (Some list) ≡ call_takes k
call_pieces pieces.Boxes list = refl
call_pieces pieces.Arms list = refl
call_pieces pieces.Islands list = refl
call_pieces pieces.Inputs list = refl

module _ (d : PlainDesign) (n g c : ℕ) (old : Spares) (inputs : Option (List Seen)) (child : PlainStrand) (held part : Kind → ℕ) (may : MayTurn d n old (ACall g c inputs child) (λ x. box_amount x + held x + part x)) where
  -- the child takes no more than was asked for it
  child_room : (k : Piece) → taken k child ≤ room k (instance_at (instance_at (tree_of d) may.2.path) (c ∷ [])) may.1.0
  child_room k =
      let (o, (now, e, group, calls, fits, (m, at, shown)), s) = may in
      let same = child_is d n c (λ p q. let r = called_is (instance_at (tree_of d) p) g c (calls p q) in (r.0, r.1)) s.path s.number in
      subst (λ x. taken k child ≤ room k x now) same (taken_room k d m (s.path ++ c ∷ []) child now (at s.path s.number) shown)

  pub hold_supplied : ((k : Piece) → part (Pieces k) ≡ taken k child) → Supplied d n old (λ k i. call_takes k) (λ x. box_amount x + held x)
  hold_supplied is =
      let (o, (now, e, group, calls, fits, more), s) = may in
      onward d n n old old (λ k i. room k i o) (λ k i. call_takes k) (λ x. box_amount x + held x + part x) (λ x. 0) (λ x. 0) (λ x. box_amount x + held x) part (λ x. box_amount x + held x) s (untouched old (λ x. 0)) s.path s.number (λ x. omega arith) (λ x. omega arith)
      (λ k.
      let le = child_room k in
      let same = is k in
      subst (λ w. call_takes k + part (Pieces k) ≤ room k (instance_at (tree_of d) s.path) w) (sym e) (omega (arith, le, same)))

  module _ {V : Type 0} (m : ℕ) (has : HasChild d n c m) (mid : Spares) (list : V) (own : Kind → ℕ) (is : (k : Piece) → own (Pieces k) ≡ inputs_taken k (Some list)) (l : Ledger old mid held own) where
    behind_hold : Supplied d n mid (λ k i. room k i may.0) (λ x. box_amount x + own x + part x)
    behind_hold = turned_asked d n old mid (λ k i. room k i may.0) (λ k i. room k i may.0) (λ x. box_amount x + held x + part x) held own (λ x. box_amount x + part x) (λ x. box_amount x + own x + part x) may.2 l (λ x. omega arith) (λ x. omega arith) (λ k i. omega arith)

    pub child_turns : MayTurn d m mid child part
    unfolding behind_hold turned_asked onward
    child_turns =
        let (o, (now, e, group, calls, fits, (j, at, shown)), s) = may in
        let same = child_is d n c (λ p q. let r = called_is (instance_at (tree_of d) p) g c (calls p q) in (r.0, r.1)) s.path s.number in (
          now,
          subst (λ x. Shows d x child now) (same_child d n c j m at has s.path s.number) shown,
          onward d n m mid mid (λ k i. room k i o) (λ k i. room k i now) (λ x. box_amount x + own x + part x) (λ x. 0) (λ x. 0) part (λ x. box_amount x + own x) part behind_hold (untouched mid (λ x. 0)) (s.path ++ c ∷ []) (has s.path s.number) (λ x. omega arith) (λ x. omega arith)
              (λ k.
              let boxes = call_pieces k list in
              let its = is k in
              let below : room k (instance_at (tree_of d) (s.path ++ c ∷ [])) now ≡ room k (instance_at (instance_at (tree_of d) s.path) (c ∷ [])) now = ap (λ i. room k i now) same in
              subst (λ w. room k (instance_at (tree_of d) (s.path ++ c ∷ [])) now + (box_takes k + own (Pieces k)) ≤ room k (instance_at (tree_of d) s.path) w) (sym e) (omega (arith, boxes, its, below))),
        )

    pub call_placed : (new : Spares) (left : Kind → ℕ) → Ledger mid new part left → HasPlaces new (λ x. box_amount x + own x + left x)
    call_placed new left after k = (let p = behind_hold.places k in let h = after.most (Pieces k) in let q = after.places k in omega (arith, p, h, q))

-- THE SAME, said in another way
pub supplied_as : (d : PlainDesign) (n : ℕ) (spares : Spares) (asked : Piece → Instance → ℕ) (hand kept : Kind → ℕ) → ((x : Kind) → hand x ≡ kept x) → Supplied d n spares asked hand → Supplied d n spares asked kept
supplied_as d n spares asked hand kept is s = less_asked d n spares asked asked hand (λ x. 0) kept s (λ x. (let e = is x in omega (arith, e))) (λ k i. omega arith)

pub may_as : (d : PlainDesign) (n : ℕ) (spares : Spares) (p q : PlainStrand) (hand kept : Kind → ℕ) → p ≡ q → ((x : Kind) → hand x ≡ kept x) → MayTurn d n spares p hand → MayTurn d n spares q kept
may_as d n spares p q hand kept same is (o, shown, s) = (o, subst (λ r. Shows d n r o) same shown, supplied_as d n spares (λ k i. room k i o) hand kept is s)

pub all_may_as : (d : PlainDesign) (n : ℕ) (spares : Spares) (p q : PlainArms) (hand kept : Kind → ℕ) → p ≡ q → ((x : Kind) → hand x ≡ kept x) → MayTurnAll d n spares p hand → MayTurnAll d n spares q kept
all_may_as d n spares p q hand kept same is (list, shown, s) = (
  list,
  subst (λ r. ShowsAll d n r list) same shown,
  supplied_as d n spares (λ k i. par_takes k (arms_in list) + rooms k i list) (λ x. arms_box_amount x + hand x) (λ x. arms_box_amount x + kept x) (λ x. (let e = is x in omega (arith, e))) s,
)

-- LEAVES that open something
pub choice_turns : (d : PlainDesign) (n : ℕ) (spares : Spares) (port : PlacedPort) (comb : Option ℕ) (a b : PlainStatement) (hand : Kind → ℕ) → ((x : Kind) → hand x ≡ 0) → MayTurn d n spares (AChoice port comb a b) hand
    → Supplied d n spares (λ k i. max (need k i a) (need k i b)) (λ x. 0)
choice_turns d n spares port comb a b hand none (o, (e, stands), s) =
    less_asked d n spares (λ k i. room k i o) (λ k i. max (need k i a) (need k i b)) hand (λ x. 0) (λ x. 0) s (λ x. (let f = none x in omega (arith, f)))
    (λ k i. subst (λ w. max (need k i a) (need k i b) + 0 ≤ room k i w) (sym e) (omega arith))

pub test_turns : (d : PlainDesign) (n : ℕ) (spares : Spares) (port : PlacedPort) (comb : Option ℕ) (body : PlainStatement) (hand : Kind → ℕ) → ((x : Kind) → hand x ≡ 0) → MayTurn d n spares (ATest port comb body) hand
    → Supplied d n spares (λ k i. box_takes k + need k i body) (λ x. 0)
test_turns d n spares port comb body hand none (o, (e, stands), s) =
    less_asked d n spares (λ k i. room k i o) (λ k i. box_takes k + need k i body) hand (λ x. 0) (λ x. 0) s (λ x. (let f = none x in omega (arith, f)))
    (λ k i. subst (λ w. (box_takes k + need k i body) + 0 ≤ room k i w) (sym e) (omega arith))

pub turn_placed : (d : PlainDesign) (n : ℕ) (spares : Spares) (p : PlainStrand) (hand kept : Kind → ℕ) → ((x : Kind) → hand x ≡ kept x) → MayTurn d n spares p hand → HasPlaces spares kept
turn_placed d n spares p hand kept is (o, shown, s) k = (let h = s.places k in let e = is (Pieces k) in omega (arith, h, e))

pub all_turn_placed : (d : PlainDesign) (n : ℕ) (spares : Spares) (arms : PlainArms) (hand kept : Kind → ℕ) → ((x : Kind) → hand x ≡ kept x) → MayTurnAll d n spares arms hand → HasPlaces spares kept
all_turn_placed d n spares arms hand kept is (list, shown, s) k = (let h = s.places k in let e = is (Pieces k) in omega (arith, h, e))
