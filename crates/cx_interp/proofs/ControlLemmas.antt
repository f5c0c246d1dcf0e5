-- Parts of statements: what they drive, that they stand in the control, and what is left of a seq, a loop or a repeat.
use Rattle.std.proofs.Common.{◌≡◌, ℕ, zero, suc, ◌+◌, ◌-◌, ◌≤◌, ◌<◌, true, false, ◌||◌, ◌≢◌, List, [], ◌∷◌, ◌++◌, length, get_or, drop, Ok, Err, Option, Some, None, refl, sym, ap, ◌∙◌, subst, arith}
use Rattle.std.proofs.Math.Seq.{drop-cons}
use Rattle.cx_meaning.specs.declared.ports.PlacedPort.{PlacedPort}
use Rattle.cx_meaning.specs.Designs.{PlainDesign, PlainComponent, PlainForm, Empty, Timed, Seq, If, While, Repeat, PlainStatement}
use Rattle.cx_meaning.specs.Instances.{Instance, part_of, idle}
use Rattle.cx_meaning.specs.Answers.{loop, rounds}
use Rattle.cx_meaning.specs.Calls.{test}
use Rattle.cx_meaning.specs.Control.{with_comb, groups_of, groups_in_all, group_drives, groups_drive}
use Rattle.cx_design.specs.declared.actives.PortFault.{PortFault}
use Rattle.cx_design.specs.declared.statements.Statement.{Statement}
use Rattle.cx_design.specs.PlainForms.{plain_statement, plain_statements}
use Rattle.cx_state.specs.States.{PlainInstance, IsStateOf}
use Rattle.cx_turns.specs.Groups.{Driving}
use Rattle.cx_turns.specs.Tests.{Tested}
use Rattle.cx_interp.specs.declared.answers.Answer.TheVariants.{End, Fault, More}
use Rattle.cx_interp.specs.declared.answers.Answer.{Answer}
use Rattle.cx_interp.specs.Doings.{Doing, then_does, stay_does, idle_does, statement_does, statement_drives, form_does, form_drives, parts_do, parts_drive, test_does}
use Rattle.cx_interp.specs.Done.{later, Done}
use Rattle.cx_interp.proofs.DoneLemmas.{Stops, done_more, done_wider, done_same, done_stay, done_no_turn, done_then, done_stopped, done_holds, done_fails, done_unclear}
use Rattle.cx_interp.proofs.RanLemmas.{enough_tests}
use Rattle.cx_interp.proofs.ContinueLemmas.{Continues, continues_start, continues_after, continues_stop, later_later}
use Rattle.std.proofs.lemmas.Bool.{or_parts}

both_undriven : (part : PlainComponent) (gs hs : List ℕ) (c : ℕ) → groups_drive part (gs ++ hs) c ≡ false → (groups_drive part gs c ≡ false) × (groups_drive part hs c ≡ false)
both_undriven part [] hs c e = (refl, e)
both_undriven part (g ∷ gs) hs c e =
    let here = or_parts (group_drives part g c) (groups_drive part (gs ++ hs) c) e in
    let there = both_undriven part gs hs c here.1 in
    (ap (λ b. b || groups_drive part gs c) here.0 ∙ there.0, there.1)

comb_undriven : (part : PlainComponent) (comb : Option ℕ) (gs : List ℕ) (c : ℕ) → groups_drive part (with_comb comb gs) c ≡ false → groups_drive part gs c ≡ false
comb_undriven part None gs c e = e
comb_undriven part (Some g) gs c e = (or_parts (group_drives part g c) (groups_drive part gs c) e).1

-- A PART of statements
part_undriven : (parts : List Statement) (k : ℕ) (x : Statement) → k < length parts → (i : Instance) (c : ℕ) → parts_drive (plain_statements parts) i c ≡ false → statement_drives (plain_statement (get_or parts k x)) i c ≡ false
part_undriven [] k x lt i c e = absurd (omega arith)
part_undriven (s ∷ ss) zero x lt i c e = (both_undriven (part_of i) (groups_of (plain_statement s)) (groups_in_all (plain_statements ss)) c e).0
part_undriven (s ∷ ss) (suc k) x lt i c e =
    part_undriven ss k x (let h : suc k < suc (length ss) = lt in omega arith) i c (both_undriven (part_of i) (groups_of (plain_statement s)) (groups_in_all (plain_statements ss)) c e).1

-- A SEQ
module _ (d : PlainDesign) (n : ℕ) (parts : List Statement) (initial now : List PlainInstance) (whole : Doing) (budget spent k : ℕ) (x : Statement) (lt : k < length parts) (is : x ≡ get_or parts k x) where
  abbrev Left : List PlainInstance → ℕ → ℕ → Type 0
  Left rows j used = Continues d n (parts_drive (plain_statements parts)) initial rows (parts_do (plain_statements (drop j parts))) (budget - used) whole budget used

  opened : drop k parts ≡ x ∷ drop (suc k) parts
  opened = drop-cons parts k x lt ∙ ap (λ s. s ∷ drop (suc k) parts) (sym is)

  unfolded : Left now k spent → Continues d n (parts_drive (plain_statements parts)) initial now (then_does (statement_does (plain_statement x)) (parts_do (plain_statements (drop (suc k) parts)))) (budget - spent) whole budget spent
  unfolded goes = subst (λ ss. Continues d n (parts_drive (plain_statements parts)) initial now (parts_do (plain_statements ss)) (budget - spent) whole budget spent) opened goes

  widened : (middle : List PlainInstance) (a : Answer) → Done d now middle n (statement_drives (plain_statement x)) (statement_does (plain_statement x)) (budget - spent) a
      → Done d now middle n (parts_drive (plain_statements parts)) (statement_does (plain_statement x)) (budget - spent) a
  widened middle a one =
      done_wider d n (statement_drives (plain_statement x)) now middle (parts_drive (plain_statements parts)) (statement_does (plain_statement x)) (budget - spent) a
      (λ i c e. subst (λ s. statement_drives (plain_statement s) i c ≡ false) (sym is) (part_undriven parts k x lt i c e)) one

  pub seq_after : (middle : List PlainInstance) (turns : ℕ) → Left now k spent → Done d now middle n (statement_drives (plain_statement x)) (statement_does (plain_statement x)) (budget - spent) (End turns) → Left middle (suc k) (spent + turns)
  seq_after middle turns goes one =
      let left : budget - spent - turns ≡ budget - (spent + turns) = omega arith in
      subst (λ m. Continues d n (parts_drive (plain_statements parts)) initial middle (parts_do (plain_statements (drop (suc k) parts))) m whole budget (spent + turns)) left
      (continues_after d n (parts_drive (plain_statements parts)) initial now (statement_does (plain_statement x)) (parts_do (plain_statements (drop (suc k) parts))) (budget - spent) whole budget spent (unfolded goes) middle turns (widened middle (End turns) one))

  pub seq_stop : (new : List PlainInstance) (a : Answer) → Stops a → Left now k spent → Done d now new n (statement_drives (plain_statement x)) (statement_does (plain_statement x)) (budget - spent) a
      → Done d initial new n (parts_drive (plain_statements parts)) whole budget (later spent a)
  seq_stop new a stop goes one =
      continues_stop d n (parts_drive (plain_statements parts)) initial now (statement_does (plain_statement x)) (parts_do (plain_statements (drop (suc k) parts))) (budget - spent) whole budget spent (unfolded goes) new a stop (widened new a one)

-- all parts have been run
pub seq_end : (d : PlainDesign) (n : ℕ) (parts : List Statement) (initial now : List PlainInstance) (whole : Doing) (budget spent k : ℕ) → drop k parts ≡ [] → IsStateOf d now
    → Continues d n (parts_drive (plain_statements parts)) initial now (parts_do (plain_statements (drop k parts))) (budget - spent) whole budget spent
    → Done d initial now n (parts_drive (plain_statements parts)) whole budget (End spent)
seq_end d n parts initial now whole budget spent k none fits goes =
    let ended : Done d now now n (parts_drive (plain_statements parts)) (parts_do (plain_statements (drop k parts))) (budget - spent) (End 0) =
    subst (λ ss. Done d now now n (parts_drive (plain_statements parts)) (parts_do (plain_statements ss)) (budget - spent) (End 0)) (sym none) (done_stay d n (parts_drive (plain_statements parts)) now (budget - spent) fits) in
    let sum : spent + 0 ≡ spent = omega arith in
    subst (λ t. Done d initial now n (parts_drive (plain_statements parts)) whole budget (End t)) sum (goes now (End 0) ended)

-- at first all parts of a seq with a part are left
pub seq_start : (d : PlainDesign) (n : ℕ) (parts : List Statement) (rows : List PlainInstance) (budget : ℕ) → 0 < length parts
    → Continues d n (parts_drive (plain_statements parts)) rows rows (parts_do (plain_statements (drop 0 parts))) (budget - 0) (form_does (Seq (plain_statements parts))) budget 0
seq_start d n [] rows budget some = absurd (omega arith)
seq_start d n (s ∷ ss) rows budget some = continues_start d n (parts_drive (plain_statements (s ∷ ss))) rows (form_does (Seq (plain_statements (s ∷ ss)))) budget

-- AN IF
module _ (d : PlainDesign) (n : ℕ) (port : PlacedPort) (comb : Option ℕ) (yes no : PlainStatement) where
  abbrev if_drives : Driving
  if_drives = form_drives (If port comb yes no)

  yes_undriven : (i : Instance) (c : ℕ) → if_drives i c ≡ false → statement_drives yes i c ≡ false
  yes_undriven i c e = (both_undriven (part_of i) (groups_of yes) (groups_of no) c (comb_undriven (part_of i) comb (groups_of yes ++ groups_of no) c e)).0

  no_undriven : (i : Instance) (c : ℕ) → if_drives i c ≡ false → statement_drives no i c ≡ false
  no_undriven i c e = (both_undriven (part_of i) (groups_of yes) (groups_of no) c (comb_undriven (part_of i) comb (groups_of yes ++ groups_of no) c e)).1

  one_more : (budget : ℕ) → 0 < budget → suc (budget - 1) ≡ budget
  one_more budget some = omega arith

  pub if_yes : (old new : List PlainInstance) (budget : ℕ) (a : Answer) → 0 < budget → Tested d old n port.port comb (Ok true) → Done d old new n (statement_drives yes) (statement_does yes) (budget - 1) a
      → Done d old new n if_drives (form_does (If port comb yes no)) budget (later 1 a)
  if_yes old new budget a some tested one =
      subst (λ b. Done d old new n if_drives (form_does (If port comb yes no)) b (later 1 a)) (one_more budget some)
      (done_holds d n if_drives port.port comb (statement_does yes) (statement_does no) old new (budget - 1) a tested (done_wider d n (statement_drives yes) old new if_drives (statement_does yes) (budget - 1) a yes_undriven one))

  pub if_no : (old new : List PlainInstance) (budget : ℕ) (a : Answer) → 0 < budget → Tested d old n port.port comb (Ok false) → Done d old new n (statement_drives no) (statement_does no) (budget - 1) a
      → Done d old new n if_drives (form_does (If port comb yes no)) budget (later 1 a)
  if_no old new budget a some tested one =
      subst (λ b. Done d old new n if_drives (form_does (If port comb yes no)) b (later 1 a)) (one_more budget some)
      (done_fails d n if_drives port.port comb (statement_does yes) (statement_does no) old new (budget - 1) a tested (done_wider d n (statement_drives no) old new if_drives (statement_does no) (budget - 1) a no_undriven one))

  pub if_unclear : (rows : List PlainInstance) (budget : ℕ) (fault : PortFault) → 0 < budget → IsStateOf d rows → Tested d rows n port.port comb (Err fault) → Done d rows rows n if_drives (form_does (If port comb yes no)) budget (Fault fault 0)
  if_unclear rows budget fault some fits tested =
      subst (λ b. Done d rows rows n if_drives (form_does (If port comb yes no)) b (Fault fault 0)) (one_more budget some) (done_unclear d n if_drives port.port comb (statement_does yes) (statement_does no) rows (budget - 1) fault fits tested)

  pub if_no_turn : (rows : List PlainInstance) (budget : ℕ) → budget ≡ 0 → IsStateOf d rows → Done d rows rows n if_drives (form_does (If port comb yes no)) budget More
  if_no_turn rows budget none fits = subst (λ b. Done d rows rows n if_drives (form_does (If port comb yes no)) b More) (sym none) (done_no_turn d n if_drives rows (form_does (If port comb yes no)) (λ i held s. refl) fits)

-- A WHILE
module _ (d : PlainDesign) (n : ℕ) (port : PlacedPort) (comb : Option ℕ) (body : PlainStatement) where
  abbrev while_drives : Driving
  while_drives = form_drives (While port comb body)

  abbrev while_does : Doing
  while_does = form_does (While port comb body)

  body_undriven : (i : Instance) (c : ℕ) → while_drives i c ≡ false → statement_drives body i c ≡ false
  body_undriven i c e = comb_undriven (part_of i) comb (groups_of body) c e

  module _ (initial now : List PlainInstance) (budget spent : ℕ) where
    abbrev pub WhileLeft : Type 0
    WhileLeft = Continues d n while_drives initial now while_does (budget - spent) while_does budget spent

  pub while_start : (rows : List PlainInstance) (budget : ℕ) → WhileLeft rows rows budget 0
  while_start rows budget = continues_start d n while_drives rows while_does budget

  more : (budget spent : ℕ) → spent < budget → suc (budget - (spent + 1)) ≡ budget - spent
  more budget spent lt = omega arith

  -- the loop with so many tests at most
  abbrev loop_at : ℕ → Doing
  loop_at tests i held s k = loop tests (idle i) (test i held port.port comb) (statement_does body i held) s k

  -- the body, and then the tests behind it
  abbrev loop_rest : ℕ → Doing
  loop_rest left = then_does (statement_does body) (loop_at (suc left))

  pub while_fails : (initial now : List PlainInstance) (budget spent : ℕ) → spent < budget → IsStateOf d now → Tested d now n port.port comb (Ok false) → WhileLeft initial now budget spent → Done d initial now n while_drives while_does budget (End (spent + 1))
  while_fails initial now budget spent lt fits tested goes =
      goes now (End 1)
      (subst (λ b. Done d now now n while_drives while_does b (End 1)) (more budget spent lt)
      (done_same d n while_drives now now (test_does port.port comb (loop_rest (budget - (spent + 1))) stay_does) while_does (suc (budget - (spent + 1))) (End 1) (λ i held s. refl)
      (done_fails d n while_drives port.port comb (loop_rest (budget - (spent + 1))) stay_does now now (budget - (spent + 1)) (End 0) tested (done_stay d n while_drives now (budget - (spent + 1)) fits))))

  pub while_unclear : (initial now : List PlainInstance) (budget spent : ℕ) (fault : PortFault) → spent < budget → IsStateOf d now → Tested d now n port.port comb (Err fault) → WhileLeft initial now budget spent
      → Done d initial now n while_drives while_does budget (Fault fault spent)
  while_unclear initial now budget spent fault lt fits tested goes =
      let sum : spent + 0 ≡ spent = omega arith in
      subst (λ t. Done d initial now n while_drives while_does budget (Fault fault t)) sum
      (goes now (Fault fault 0)
      (subst (λ b. Done d now now n while_drives while_does b (Fault fault 0)) (more budget spent lt)
      (done_same d n while_drives now now (test_does port.port comb (loop_rest (budget - (spent + 1))) stay_does) while_does (suc (budget - (spent + 1))) (Fault fault 0) (λ i held s. refl)
      (done_unclear d n while_drives port.port comb (loop_rest (budget - (spent + 1))) stay_does now (budget - (spent + 1)) fault fits tested))))

  pub while_spent : (initial now : List PlainInstance) (budget spent : ℕ) → budget ≤ spent → IsStateOf d now → WhileLeft initial now budget spent → Done d initial now n while_drives while_does budget More
  while_spent initial now budget spent le fits goes =
      let none : budget - spent ≡ 0 = omega arith in
      goes now More (subst (λ b. Done d now now n while_drives while_does b More) (sym none) (done_no_turn d n while_drives now while_does (λ i held s. refl) fits))

  module _ (initial now : List PlainInstance) (budget spent : ℕ) (lt : spent < budget) (tested : Tested d now n port.port comb (Ok true)) where
    abbrev left_over : ℕ
    left_over = budget - (spent + 1)

    -- a test that holds, and what comes of the body and the tests behind it
    held_then_rest : (new : List PlainInstance) (a : Answer) → Done d now new n while_drives (then_does (statement_does body) (loop_at (suc left_over))) left_over a → Done d now new n while_drives while_does (budget - spent) (later 1 a)
    held_then_rest new a one =
        subst (λ b. Done d now new n while_drives while_does b (later 1 a)) (more budget spent lt)
        (done_same d n while_drives now new (test_does port.port comb (then_does (statement_does body) (loop_at (suc left_over))) stay_does) while_does (suc left_over) (later 1 a) (λ i held s. refl)
        (done_holds d n while_drives port.port comb (then_does (statement_does body) (loop_at (suc left_over))) stay_does now new left_over a tested one))

    widened_body : (new : List PlainInstance) (a : Answer) → Done d now new n (statement_drives body) (statement_does body) left_over a → Done d now new n while_drives (statement_does body) left_over a
    widened_body new a one = done_wider d n (statement_drives body) now new while_drives (statement_does body) left_over a body_undriven one

    pub while_body : (middle : List PlainInstance) (turns : ℕ) → WhileLeft initial now budget spent → Done d now middle n (statement_drives body) (statement_does body) left_over (End turns) → WhileLeft initial middle budget (spent + 1 + turns)
    while_body middle turns goes one new a rest =
        let less : budget - (spent + 1 + turns) ≡ left_over - turns = omega arith in
        let few : left_over - turns < suc left_over = omega arith in
        let here : Done d middle new n while_drives while_does (left_over - turns) a = subst (λ b. Done d middle new n while_drives while_does b a) less rest in
        let bounded : Done d middle new n while_drives (loop_at (suc left_over)) (left_over - turns) a =
        done_same d n while_drives middle new while_does (loop_at (suc left_over)) (left_over - turns) a
        (λ i held s. enough_tests (idle i) (test i held port.port comb) (statement_does body i held) (suc (left_over - turns)) (suc left_over) (left_over - turns) (omega arith) few s) here in
        let two : Done d now new n while_drives (then_does (statement_does body) (loop_at (suc left_over))) left_over (later turns a) =
        done_then d n while_drives now middle new (statement_does body) (loop_at (suc left_over)) left_over turns a (widened_body middle (End turns) one) bounded in
        subst (λ x. Done d initial new n while_drives while_does budget x) (later_later spent 1 (later turns a) ∙ later_later (spent + 1) turns a)
        (goes new (later 1 (later turns a)) (held_then_rest new (later turns a) two))

    pub while_body_stops : (new : List PlainInstance) (a : Answer) → Stops a → WhileLeft initial now budget spent → Done d now new n (statement_drives body) (statement_does body) left_over a → Done d initial new n while_drives while_does budget (later (spent + 1) a)
    while_body_stops new a stop goes one =
        subst (λ x. Done d initial new n while_drives while_does budget x) (later_later spent 1 a)
        (goes new (later 1 a) (held_then_rest new a (done_stopped d n while_drives now new (statement_does body) (loop_at (suc left_over)) left_over a stop (widened_body new a one))))

-- A REPEAT
module _ (d : PlainDesign) (n : ℕ) (body : PlainStatement) where
  -- so many rounds of it
  abbrev pub rounds_do : ℕ → Doing
  rounds_do k i held s m = rounds k (statement_does body i held) s m

  abbrev pub RoundsLeft : List PlainInstance → List PlainInstance → ℕ → Doing → ℕ → ℕ → Type 0
  RoundsLeft initial now k whole budget spent = Continues d n (statement_drives body) initial now (rounds_do k) (budget - spent) whole budget spent

  pub repeat_start : (rows : List PlainInstance) (count budget : ℕ) → count ≢ 0 → RoundsLeft rows rows (count - 0) (form_does (Repeat count body)) budget 0
  repeat_start rows zero budget some new a done = absurd (some refl)
  repeat_start rows (suc count) budget some new a done =
      let same : suc count - 0 ≡ suc count = omega arith in
      let one : Done d rows new n (statement_drives body) (rounds_do (suc count)) (budget - 0) a = subst (λ k. Done d rows new n (statement_drives body) (rounds_do k) (budget - 0) a) same done in
      continues_start d n (statement_drives body) rows (form_does (Repeat (suc count) body)) budget new a one

  module _ (initial now : List PlainInstance) (whole : Doing) (budget spent count round : ℕ) (lt : round < count) (goes : RoundsLeft initial now (count - round) whole budget spent) where
    opened_round : Continues d n (statement_drives body) initial now (then_does (statement_does body) (rounds_do (count - (round + 1)))) (budget - spent) whole budget spent
    opened_round =
        let next : count - round ≡ suc (count - (round + 1)) = omega arith in
        subst (λ k. RoundsLeft initial now k whole budget spent) next goes

    pub repeat_after : (middle : List PlainInstance) (turns : ℕ) → Done d now middle n (statement_drives body) (statement_does body) (budget - spent) (End turns) → RoundsLeft initial middle (count - (round + 1)) whole budget (spent + turns)
    repeat_after middle turns one =
        let left : budget - spent - turns ≡ budget - (spent + turns) = omega arith in
        subst (λ m. Continues d n (statement_drives body) initial middle (rounds_do (count - (round + 1))) m whole budget (spent + turns)) left
        (continues_after d n (statement_drives body) initial now (statement_does body) (rounds_do (count - (round + 1))) (budget - spent) whole budget spent opened_round middle turns one)

    pub repeat_stop : (new : List PlainInstance) (a : Answer) → Stops a → Done d now new n (statement_drives body) (statement_does body) (budget - spent) a → Done d initial new n (statement_drives body) whole budget (later spent a)
    repeat_stop new a stop one = continues_stop d n (statement_drives body) initial now (statement_does body) (rounds_do (count - (round + 1))) (budget - spent) whole budget spent opened_round new a stop one

  pub repeat_end : (initial now : List PlainInstance) (whole : Doing) (budget spent k : ℕ) → k ≡ 0 → IsStateOf d now → RoundsLeft initial now k whole budget spent → Done d initial now n (statement_drives body) whole budget (End spent)
  repeat_end initial now whole budget spent k none fits goes =
      let sum : spent + 0 ≡ spent = omega arith in
      subst (λ t. Done d initial now n (statement_drives body) whole budget (End t)) sum
      (goes now (End 0) (subst (λ j. Done d now now n (statement_drives body) (rounds_do j) (budget - spent) (End 0)) (sym none) (done_stay d n (statement_drives body) now (budget - spent) fits)))

pub drop_past : {A : Type 0} (xs : List A) (k : ℕ) → length xs ≤ k → drop k xs ≡ []
drop_past xs zero le = no_items xs (omega arith)
  where
    no_items : {A : Type 0} (xs : List A) → length xs ≡ 0 → xs ≡ []
    no_items [] e = refl
    no_items (x ∷ xs) e = absurd (let f : suc (length xs) ≡ 0 = e in omega (arith, f))
drop_past [] (suc k) le = refl
drop_past (x ∷ xs) (suc k) le = drop_past xs k (let h : suc (length xs) ≤ suc k = le in omega (arith, h))

-- a seq without parts
pub seq_empty : (d : PlainDesign) (n : ℕ) (parts : List Statement) (rows : List PlainInstance) (budget : ℕ) (a : Answer) → length parts ≡ 0 → ((driving : Driving) → Done d rows rows n driving idle_does budget a)
    → Done d rows rows n (parts_drive (plain_statements parts)) (form_does (Seq (plain_statements parts))) budget a
seq_empty d n [] rows budget a e h = h (parts_drive (plain_statements []))
seq_empty d n (x ∷ xs) rows budget a e h = absurd (let f : suc (length xs) ≡ 0 = e in omega (arith, f))

-- the end of the loop, by the index
pub seq_ended : (d : PlainDesign) (n : ℕ) (parts : List Statement) (initial now : List PlainInstance) (whole : Doing) (budget spent k : ℕ) → length parts ≤ k → IsStateOf d now
    → Continues d n (parts_drive (plain_statements parts)) initial now (parts_do (plain_statements (drop k parts))) (budget - spent) whole budget spent
    → Done d initial now n (parts_drive (plain_statements parts)) whole budget (End spent)
seq_ended d n parts initial now whole budget spent k le fits goes = seq_end d n parts initial now whole budget spent k (drop_past parts k le) fits goes

-- the index of the next part
pub seq_next : (d : PlainDesign) (n : ℕ) (parts : List Statement) (initial now middle : List PlainInstance) (whole : Doing) (budget spent k turns : ℕ) (x : Statement) → k < length parts → x ≡ get_or parts k x
    → Continues d n (parts_drive (plain_statements parts)) initial now (parts_do (plain_statements (drop k parts))) (budget - spent) whole budget spent
    → Done d now middle n (statement_drives (plain_statement x)) (statement_does (plain_statement x)) (budget - spent) (End turns)
    → Continues d n (parts_drive (plain_statements parts)) initial middle (parts_do (plain_statements (drop (k + 1) parts))) (budget - (spent + turns)) whole budget (spent + turns)
seq_next d n parts initial now middle whole budget spent k turns x lt is goes one =
    let next : suc k ≡ k + 1 = omega arith in
    subst (λ j. Continues d n (parts_drive (plain_statements parts)) initial middle (parts_do (plain_statements (drop j parts))) (budget - (spent + turns)) whole budget (spent + turns)) next
    (seq_after d n parts initial now whole budget spent k x lt is middle turns goes one)

-- no turn, and a statement of a lowered design
pub empty_form : (d : PlainDesign) (n : ℕ) (f : PlainForm) (rows : List PlainInstance) (budget : ℕ) (a : Answer) → f ≡ Empty → ((driving : Driving) → Done d rows rows n driving idle_does budget a) → Done d rows rows n (form_drives f) (form_does f) budget a
empty_form d n f rows budget a e h = subst (λ x. Done d rows rows n (form_drives x) (form_does x) budget a) (sym e) (h (form_drives Empty))

pub timed_form : (d : PlainDesign) (n k : ℕ) (f : PlainForm) (rows : List PlainInstance) (budget : ℕ) → f ≡ Timed k → IsStateOf d rows → Done d rows rows n (form_drives f) (form_does f) budget More
timed_form d n k f rows budget e fits = subst (λ x. Done d rows rows n (form_drives x) (form_does x) budget More) (sym e) (done_more d n (form_drives (Timed k)) rows (form_does (Timed k)) budget (λ i held s. refl) fits)

pub repeat_none : (d : PlainDesign) (n : ℕ) (body : PlainStatement) (rows : List PlainInstance) (count budget : ℕ) (a : Answer) → count ≡ 0 → ((driving : Driving) → Done d rows rows n driving idle_does budget a)
    → Done d rows rows n (statement_drives body) (form_does (Repeat count body)) budget a
repeat_none d n body rows count budget a e h = subst (λ k. Done d rows rows n (statement_drives body) (form_does (Repeat k body)) budget a) (sym e) (h (statement_drives body))
