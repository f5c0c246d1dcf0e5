-- WHAT A STATEMENT DOES it does in its own cycles, where its conditions hold.
use Rattle.std.proofs.Common.{◌≡◌, ℕ, zero, suc, ◌+◌, ◌*◌, ◌-◌, ◌<◌, ◌≤◌, max, inl, ⊎_elim, Bool, true, false, ◌&&◌, nat_le, nat_lt, List, [], ◌∷◌, ◌++◌, length, Option, Some, None, refl, sym, ap, subst, arith}
use Rattle.std.proofs.lemmas.Bool.{ltb-true, leb-true, le-leb, lt-ltb}
use Rattle.cx_text.proofs.MemberLaws.{in_either}
use Rattle.cx_meaning.specs.Designs.{PlainInvoke, PlainComponent, PlainForm, Empty, Enable, Seq, Par, If, While, Repeat, StaticSeq, StaticPar, StaticIf, StaticRepeat, Timed, PlainStatement, Placed, PlainStatements, no_statements, a_statement}
use Rattle.cx_meaning.specs.Instances.{Instance, Node, Cells, no_cells, a_primitive, an_instance, OfInstance, part_of, cell_at}
use Rattle.cx_meaning.specs.Islands.{group_length, or_zero, is_wanted}
use Rattle.cx_text.specs.Members.{In}
use Rattle.cx_rules.specs.Invokes.{invoke_at, capture_length, invoke_length, form_lasts, lasts, sum_lasts, max_lasts}
use Rattle.cx_flattening.specs.Events.{the_invoke, Spot, Sample, Event, Runs, Feeds, Looks, Beginning, Events, later_by, also_if, group_events, capture_events, rounds_events, bound_below, invoke_events, form_events, events, seq_events, par_events, control_events, events_below}
use Rattle.cx_flattening.specs.Deeds.{History, hold, Deed, Acts, Fed, deed_if, is_now, deeds_in}
use Rattle.cx_flattening.specs.Controlled.{timed_in, timed_of, timed_all, IsControlled, AllControlled, AllControlledBelow}
use Rattle.cx_flattening.proofs.FlatLengths.{invoke_takes, AllThere, there_left, there_right}
use Rattle.cx_text.proofs.BoolLaws.{all_three}

pub deeds-both : (h : History) (t : ℕ) (xs ys : List Event) → deeds_in h t (xs ++ ys) ≡ deeds_in h t xs ++ deeds_in h t ys
deeds-both h t [] ys = refl
deeds-both h t (Runs at g from to conditions ∷ xs) ys = choice (is_now h t from to conditions) (deeds-both h t xs ys)
  where
    choice : (b : Bool) → deeds_in h t (xs ++ ys) ≡ deeds_in h t xs ++ deeds_in h t ys
        → deed_if b (Acts at (record { group = g; offset = t - from })) (deeds_in h t (xs ++ ys)) ≡ deed_if b (Acts at (record { group = g; offset = t - from })) (deeds_in h t xs) ++ deeds_in h t ys
    choice true ih = ap (λ l. Acts at (record { group = g; offset = t - from }) ∷ l) ih
    choice false ih = ih
deeds-both h t (Feeds at c inputs from to conditions ∷ xs) ys = choice (is_now h t from to conditions) (deeds-both h t xs ys)
  where
    choice : (b : Bool) → deeds_in h t (xs ++ ys) ≡ deeds_in h t xs ++ deeds_in h t ys → deed_if b (Fed at c inputs) (deeds_in h t (xs ++ ys)) ≡ deed_if b (Fed at c inputs) (deeds_in h t xs) ++ deeds_in h t ys
    choice true ih = ap (λ l. Fed at c inputs ∷ l) ih
    choice false ih = ih
deeds-both h t (Looks x at conditions ∷ xs) ys = deeds-both h t xs ys

-- the control of a child, by its cell
pub events-child : (cells : Cells) (c : ℕ) (child : Instance) (b : Beginning) → cell_at cells c ≡ OfInstance child → events_below cells c b ≡ control_events child b
events-child no_cells c child b e = absurd (cc)
events-child (a_primitive row rest) zero child b e = absurd (cc)
events-child (a_primitive row rest) (suc c) child b e = events-child rest c child b e
events-child (an_instance other rest) zero child b e = let same : other ≡ child = cc in ap (λ i. control_events i b) same
events-child (an_instance other rest) (suc c) child b e = events-child rest c child b e

-- a cycle within a stretch in which the conditions hold
pub record InWindow (h : History) (t from to : ℕ) (conditions : List Sample) : Type 0 where
  pub begun : from ≤ t
  pub left : t < to
  pub holds : hold h conditions ≡ true

pub window_now : (h : History) (t from to : ℕ) (conditions : List Sample) → InWindow h t from to conditions → is_now h t from to conditions ≡ true
window_now h t from to conditions w = three (nat_le from t) (nat_lt t to) (hold h conditions) (le-leb from t w.begun) (lt-ltb t to w.left) w.holds
  where
    three : (a b c : Bool) → a ≡ true → b ≡ true → c ≡ true → (a && b && c) ≡ true
    three true true true e f g = refl
    three true true false e f g = absurd (cc)
    three true false c e f g = absurd (cc)
    three false b c e f g = absurd (cc)

module _ (h : History) (t : ℕ) where
  pub now_is : (from to : ℕ) (conditions : List Sample) → is_now h t from to conditions ≡ true → InWindow h t from to conditions
  now_is from to conditions e =
      let r = all_three (nat_le from t) (nat_lt t to) (hold h conditions) e in
      record { begun = leb-true from t r.0; left = ltb-true t to r.1; holds = r.2 }

  one_in : (b : Bool) (x d : Deed) → In (deed_if b x []) d → b ≡ true
  one_in true x d i = refl
  one_in false x d i = absurd i

  abbrev pub Within : Beginning → ℕ → List Event → Type 0
  Within b n list = (d : Deed) → In (deeds_in h t list) d → InWindow h t b.from (b.from + n) b.conditions

  both_within : (b : Beginning) (n : ℕ) (xs ys : List Event) → Within b n xs → Within b n ys → Within b n (xs ++ ys)
  both_within b n xs ys one other d i = ⊎_elim (one d) (other d) (in_either (deeds_in h t xs) (deeds_in h t ys) d (subst (λ l. In l d) (deeds-both h t xs ys) i))

  wider : (b : Beginning) (m n : ℕ) (list : List Event) → m ≤ n → Within b m list → Within b n list
  wider b m n list less inside d i = let w = inside d i in record { begun = w.begun; left = (let l = w.left in omega (arith, less, l)); holds = w.holds }

  later_within : (b : Beginning) (a n : ℕ) (list : List Event) → Within (later_by a b) n list → Within b (a + n) list
  later_within b a n list inside d i =
      let w = inside d i in record { begun = (let l = w.begun in omega (arith, l)); left = (let l = w.left in omega (arith, l)); holds = w.holds }

  under_condition : (b : Beginning) (x : Spot) (wanted : Bool) (n : ℕ) (list : List Event) → Within (also_if x wanted b) n list → Within b n list
  under_condition b x wanted n list inside d i = let w = inside d i in record { begun = w.begun; left = w.left; holds = rest (is_wanted wanted (h x b.from)) (hold h b.conditions) w.holds }
    where
      rest : (p q : Bool) → (p && q) ≡ true → q ≡ true
      rest true true e = refl
      rest true false e = absurd (cc)
      rest false true e = absurd (cc)
      rest false false e = absurd (cc)

  group_within : (g : ℕ) (o : Option ℕ) (b : Beginning) → Within b (or_zero o) (group_events g o b)
  group_within g None b d i = absurd i
  group_within g (Some n) b d i = now_is b.from (b.from + n) b.conditions (one_in (is_now h t b.from (b.from + n) b.conditions) (Acts b.at (record { group = g; offset = t - b.from })) d i)

  capture_within : (o : Option ℕ) (b : Beginning) → Within b (capture_length o) (capture_events o b)
  capture_within None b d i = absurd i
  capture_within (Some g) b d i = now_is b.from (b.from + 1) b.conditions (one_in (is_now h t b.from (b.from + 1) b.conditions) (Acts b.at (record { group = g; offset = t - b.from })) d i)

  feed_within : (b : Beginning) (c n : ℕ) (v : PlainInvoke) (rest : List Event) → Within b n rest → Within b n (Feeds b.at c v.inputs b.from (b.from + n) b.conditions ∷ rest)
  feed_within b c n v rest inside d i = choice (is_now h t b.from (b.from + n) b.conditions) refl i
    where
      choice : (x : Bool) → is_now h t b.from (b.from + n) b.conditions ≡ x → In (deed_if x (Fed b.at c v.inputs) (deeds_in h t rest)) d → InWindow h t b.from (b.from + n) b.conditions
      choice true e j = now_is b.from (b.from + n) b.conditions e
      choice false e j = inside d j

  pub rounds_within : (body : Events) (n : ℕ) → ((b : Beginning) → Within b n (body b)) → (count : ℕ) (b : Beginning) → Within b (count * n) (rounds_events body n count b)
  rounds_within body n inside zero b = λ d i. absurd i
  rounds_within body n inside (suc count) b =
      subst (λ m. Within b m (body b ++ rounds_events body n count (later_by n b))) (sym (suc-times count n))
      (both_within b (n + count * n) (body b) (rounds_events body n count (later_by n b))
      (wider b n (n + count * n) (body b) (omega arith) (inside b)) (later_within b n (count * n) (rounds_events body n count (later_by n b)) (rounds_within body n inside count (later_by n b))))
    where
      suc-times : (a m : ℕ) → suc a * m ≡ m + a * m
      suc-times a m = grind arith

  -- what is claimed of a tree
  abbrev pub ControlWithin : Instance → Type 0
  ControlWithin i = (b : Beginning) → Within b (lasts (part_of i) (part_of i).control) (control_events i b)

  module _ (part : PlainComponent) (cells : Cells) (controlled : IsControlled (Node part cells)) (below : (c : ℕ) (child : Instance) → cell_at cells c ≡ OfInstance child → ControlWithin child) where
    invoke_within : (j : ℕ) → j < length part.invokes → (b : Beginning) → Within b (invoke_length (invoke_at part j)) (invoke_events (events_below cells) (the_invoke part j) b)
    invoke_within j there b =
        let v = the_invoke part j in
        let its = controlled.invokes j there in
        let start : Beginning = record { at = b.at ++ (v.cell ∷ []); bound = bound_below b.bound b.at v.cell v.inputs; from = b.from; conditions = b.conditions } in
        let child : Within b (or_zero v.latency) (events_below cells v.cell start) =
        subst (λ l. Within b (or_zero v.latency) l) (sym (events-child cells v.cell its.child start its.stands)) (subst (λ n. Within b n (control_events its.child start)) (sym (ap or_zero its.latency)) (below v.cell its.child its.stands start)) in
        let capture : Within b (or_zero v.latency + capture_length v.captures) (capture_events v.captures (later_by (or_zero v.latency) b)) =
        later_within b (or_zero v.latency) (capture_length v.captures) (capture_events v.captures (later_by (or_zero v.latency) b)) (capture_within v.captures (later_by (or_zero v.latency) b)) in
        subst (λ n. Within b n (invoke_events (events_below cells) v b)) (sym (invoke_takes part j (lasts (part_of its.child) (part_of its.child).control) there its.latency))
        (feeds v start (both_within b (or_zero v.latency + capture_length v.captures) (events_below cells v.cell start) (capture_events v.captures (later_by (or_zero v.latency) b))
        (wider b (or_zero v.latency) (or_zero v.latency + capture_length v.captures) (events_below cells v.cell start) (omega arith) child) capture))
      where
        feeds : (v : PlainInvoke) (start : Beginning) → Within b (or_zero v.latency + capture_length v.captures) (events_below cells v.cell start ++ capture_events v.captures (later_by (or_zero v.latency) b))
            → Within b (or_zero v.latency + capture_length v.captures)
            (Feeds b.at v.cell v.inputs b.from (b.from + or_zero v.latency) b.conditions ∷ (events_below cells v.cell start ++ capture_events v.captures (later_by (or_zero v.latency) b)))
        feeds v start inside d i = choice (is_now h t b.from (b.from + or_zero v.latency) b.conditions) refl i
          where
            choice : (x : Bool) → is_now h t b.from (b.from + or_zero v.latency) b.conditions ≡ x
                → In (deed_if x (Fed b.at v.cell v.inputs) (deeds_in h t (events_below cells v.cell start ++ capture_events v.captures (later_by (or_zero v.latency) b)))) d
                → InWindow h t b.from (b.from + (or_zero v.latency + capture_length v.captures)) b.conditions
            choice true e j = let w = now_is b.from (b.from + or_zero v.latency) b.conditions e in record { begun = w.begun; left = (let l = w.left in omega (arith, l)); holds = w.holds }
            choice false e j = inside d j

    mutual
      pub form_within : (form : PlainForm) → AllThere (timed_in form) (length part.invokes) → (b : Beginning) → Within b (form_lasts part form) (form_events part (events_below cells) form b)
      form_within Empty there b d i = absurd i
      form_within (Enable g) there b d i = group_within g (group_length part g) b d i
      form_within (Seq ss) there b d i = absurd i
      form_within (Par arms) there b d i = absurd i
      form_within (If test comb x y) there b d i = absurd i
      form_within (While test comb x) there b d i = absurd i
      form_within (Repeat count x) there b d i = absurd i
      form_within (StaticSeq length ss) there b d i = seq_within ss there b d i
      form_within (StaticPar length arms) there b d i = par_within arms there b d i
      form_within (StaticIf length test x y) there b d i =
          both_within b (max (lasts part x) (lasts part y)) (events part (events_below cells) x (also_if (b.bound test.port) true b)) (events part (events_below cells) y (also_if (b.bound test.port) false b))
          (wider b (lasts part x) (max (lasts part x) (lasts part y)) (events part (events_below cells) x (also_if (b.bound test.port) true b)) (left_max (lasts part x) (lasts part y))
          (under_condition b (b.bound test.port) true (lasts part x) (events part (events_below cells) x (also_if (b.bound test.port) true b)) (one_within x (there_left (timed_of x) (timed_of y) _ there) (also_if (b.bound test.port) true b))))
          (wider b (lasts part y) (max (lasts part x) (lasts part y)) (events part (events_below cells) y (also_if (b.bound test.port) false b)) (right_max (lasts part x) (lasts part y))
          (under_condition b (b.bound test.port) false (lasts part y) (events part (events_below cells) y (also_if (b.bound test.port) false b)) (one_within y (there_right (timed_of x) (timed_of y) _ there) (also_if (b.bound test.port) false b)))) d i
        where
          left_max : (a c : ℕ) → a ≤ max a c
          left_max a c = omega arith

          right_max : (a c : ℕ) → c ≤ max a c
          right_max a c = omega arith
      form_within (StaticRepeat length count x) there b d i = rounds_within (events part (events_below cells) x) (lasts part x) (λ e. one_within x there e) count b d i
      form_within (Timed k) there b d i = invoke_within k (there k (inl refl)) b d i

      pub one_within : (s : PlainStatement) → AllThere (timed_of s) (length part.invokes) → (b : Beginning) → Within b (lasts part s) (events part (events_below cells) s b)
      one_within (Placed form place) there b d i = form_within form there b d i

      pub seq_within : (ss : PlainStatements) → AllThere (timed_all ss) (length part.invokes) → (b : Beginning) → Within b (sum_lasts part ss) (seq_events part (events_below cells) ss b)
      seq_within no_statements there b d i = absurd i
      seq_within (a_statement s ss) there b d i =
          both_within b (lasts part s + sum_lasts part ss) (events part (events_below cells) s b) (seq_events part (events_below cells) ss (later_by (lasts part s) b))
          (wider b (lasts part s) (lasts part s + sum_lasts part ss) (events part (events_below cells) s b) (omega arith) (one_within s (there_left (timed_of s) (timed_all ss) _ there) b))
          (later_within b (lasts part s) (sum_lasts part ss) (seq_events part (events_below cells) ss (later_by (lasts part s) b)) (seq_within ss (there_right (timed_of s) (timed_all ss) _ there) (later_by (lasts part s) b))) d i

      par_within : (ss : PlainStatements) → AllThere (timed_all ss) (length part.invokes) → (b : Beginning) → Within b (max_lasts part ss) (par_events part (events_below cells) ss b)
      par_within no_statements there b d i = absurd i
      par_within (a_statement s ss) there b d i =
          both_within b (max (lasts part s) (max_lasts part ss)) (events part (events_below cells) s b) (par_events part (events_below cells) ss b)
          (wider b (lasts part s) (max (lasts part s) (max_lasts part ss)) (events part (events_below cells) s b) (left_max (lasts part s) (max_lasts part ss)) (one_within s (there_left (timed_of s) (timed_all ss) _ there) b))
          (wider b (max_lasts part ss) (max (lasts part s) (max_lasts part ss)) (par_events part (events_below cells) ss b) (right_max (lasts part s) (max_lasts part ss)) (par_within ss (there_right (timed_of s) (timed_all ss) _ there) b)) d i
        where
          left_max : (a c : ℕ) → a ≤ max a c
          left_max a c = omega arith

          right_max : (a c : ℕ) → c ≤ max a c
          right_max a c = omega arith

  mutual
    pub control_within : (i : Instance) → AllControlled i → ControlWithin i
    control_within (Node part cells) controlled b = one_within part cells controlled.0 (kids_within cells controlled.1) part.control controlled.0.timed b

    pub kids_within : (cells : Cells) → AllControlledBelow cells → (c : ℕ) (child : Instance) → cell_at cells c ≡ OfInstance child → ControlWithin child
    kids_within no_cells controlled c child e = absurd (cc)
    kids_within (a_primitive row rest) controlled zero child e = absurd (cc)
    kids_within (a_primitive row rest) controlled (suc c) child e = kids_within rest controlled c child e
    kids_within (an_instance other rest) controlled zero child e = let same : other ≡ child = cc in subst ControlWithin same (control_within other controlled.0)
    kids_within (an_instance other rest) controlled (suc c) child e = kids_within rest controlled.1 c child e
