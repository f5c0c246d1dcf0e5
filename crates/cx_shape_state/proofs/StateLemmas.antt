-- The list of breaks has the breaks of the rules that speak of what rests on state, and no others.
use Rattle.std.proofs.Common.{◌≡◌, ◌+◌, ◌-◌, ◌<◌, ◌≤◌, ℕ, zero, suc, Bool, true, false, ◌&&◌, not, List, [], ◌∷◌, Option, Some, None, length, slice_get, ◌⊎◌, inl, inr, ⊎_elim, refl, sym, ap, ◌∙◌, subst, arith, true≢false, add-one}
use Rattle.std.specs.List.{list_all}
use Rattle.cx_text.proofs.MemberLaws.{in_either, in_left, in_right}
use Rattle.cx_text.specs.declared.places.Place.{Place}
use Rattle.cx_text.specs.declared.rules.Rule.{Rule}
use Rattle.cx_text.specs.declared.rules.Rule.TheVariants as rule
use Rattle.cx_meaning.specs.declared.ports.PortRef.{PortRef}
use Rattle.cx_meaning.specs.declared.ports.PortRef.TheVariants as ports
use Rattle.cx_meaning.specs.declared.ports.PlacedPort.{PlacedPort}
use Rattle.cx_meaning.specs.Designs.{PlainDesign, component_at, group_at, PlainForm, Empty, Enable, Seq, Par, If, While, Repeat, StaticSeq, StaticPar, StaticIf, StaticRepeat, Timed, PlainStatement}
use Rattle.cx_meaning.specs.Instances.{Instance, part_of}
use Rattle.cx_meaning.specs.Active.{Owned, source_order}
use Rattle.cx_text.specs.Members.{In}
use Rattle.cx_rules.specs.Ports.{component_of, path_of}
use Rattle.cx_rules.specs.Items.{sources_of, Visited, statements_in}
use Rattle.cx_rules.specs.Footprints.{AssignNames, Rests}
use Rattle.cx_rules.specs.Spots.{AnAssign, AStatement, Spot, Tells, OnAssign, OnStatement, AssignRule, StatementRule}
use Rattle.cx_rules.specs.ShapeRules.{BreaksDoneNotState, BreaksStaticTest, BreaksOutputNotState, BreaksKept, LeadsToInput}
use Rattle.cx_rules.specs.Accepted.{key_of}
use Rattle.cx_design_parts.specs.Breaks.{Broken, first_of}
use Rattle.cx_design_parts.specs.Numbered.{numbered}
use Rattle.cx_design_parts.specs.Answers.{AreBreaksBy}
use Rattle.cx_design_parts.proofs.Lists.{first_append, in_numbered, numbered_in, broken, in_all, all_hold}
use Rattle.cx_shape_state.specs.Resting.{rests_at}
use Rattle.cx_shape_state.proofs.Found.{found_rests, rests_found, inner_rests, inner_apart, leads_found}
use Rattle.cx_shape_state.specs.StateBreaks.{StateBreaks, break_unless, all_rest, done_break, output_break, target_breaks, is_input, none_input, is_kept, kept_breaks, assign_breaks, static_test, test_breaks, assign_breaks_at, test_breaks_at, component_breaks, state_breaks}
use Rattle.cx_rules.proofs.KeyOrder.{before_irreflexive}
use Rattle.cx_rules.proofs.FoundLemmas.{source_in, source_named}

abbrev Holds : PlainDesign → Broken → Type 0
Holds d b = StateBreaks d b.rule b.spot b.place b.name

break_in : (t : Bool) (r : Rule) (spot : Spot) (place : Place) (name : List ℕ) (b : Broken) → In (break_unless t r spot place name) b → (t ≡ false) × (broken r spot place name ≡ b)
break_in true r spot place name b h = absurd h
break_in false r spot place name b (inl e) = (refl, e)
break_in false r spot place name b (inr h) = absurd h

in_break : (t : Bool) (r : Rule) (spot : Spot) (at : Place) (called : List ℕ) (place : Place) (name : List ℕ) → t ≡ false → Tells place name at called
    → In (break_unless t r spot at called) (broken r spot place name)
in_break true r spot at called place name e t = absurd (true≢false e)
in_break false r spot at called place name e t = inl (ap (λ p. broken r spot p called) (sym t.0) ∙ ap (λ n. broken r spot place n) (sym t.1))

-- a port that does not rest
pub one_fails : (f : PlacedPort → Bool) (ps : List PlacedPort) → list_all f ps ≡ false → (p : PlacedPort) × In ps p × (f p ≡ false)
one_fails f [] e = absurd (true≢false e)
one_fails f (p ∷ ps) e = choice (f p) refl e (one_fails f ps)
  where
    choice : (t : Bool) → f p ≡ t → t && list_all f ps ≡ false → (list_all f ps ≡ false → (q : PlacedPort) × In ps q × (f q ≡ false))
        → (q : PlacedPort) × In (p ∷ ps) q × (f q ≡ false)
    choice true g h more = let rest = more h in (rest.0, inr rest.1, rest.2)
    choice false g h more = (p, inl refl, g)

pub all_fail : (f : PlacedPort → Bool) (ps : List PlacedPort) (p : PlacedPort) → In ps p → f p ≡ false → list_all f ps ≡ false
all_fail f [] p i e = absurd i
all_fail f (q ∷ ps) p (inl g) e = ap (λ t. t && list_all f ps) (ap f g ∙ e)
all_fail f (q ∷ ps) p (inr i) e = ap (λ t. f q && t) (all_fail f ps p i e) ∙ and_false (f q)
  where
    and_false : (t : Bool) → t && false ≡ false
    and_false true = refl
    and_false false = refl

is_true_or_false : (t : Bool) → (t ≡ true) ⊎ (t ≡ false)
is_true_or_false true = inl refl
is_true_or_false false = inr refl

-- a signature input among what a continuous assignment of a static component names
input_is : (q : PortRef) → not (is_input q) ≡ false → (n : ℕ) × (q ≡ ports.Input n)
input_is (ports.Cell c p) e = absurd (true≢false e)
input_is (ports.Input n) e = (n, refl)
input_is (ports.Output n) e = absurd (true≢false e)
input_is (ports.Done g) e = absurd (true≢false e)
input_is (ports.Literal w v) e = absurd (true≢false e)

unkept : (latency owner : Option ℕ) (ps : List PlacedPort) → is_kept latency owner ps ≡ false → (n : ℕ) × (latency ≡ Some n) × (owner ≡ None) × (none_input ps ≡ false)
unkept None owner ps e = absurd (true≢false e)
unkept (Some n) None ps e = (n, refl, refl, e)
unkept (Some n) (Some g) ps e = absurd (true≢false e)

-- PORTS of component k
module _ (d : PlainDesign) (k : ℕ) (q : PortRef) where
  abbrev at : Instance
  at = component_of d k

  pub unrested : rests_at at true q ≡ false → Rests at q → ⊥
  unrested e r = true≢false (sym (rests_found d k q r) ∙ e)

  pub never_rests : (Rests at q → ⊥) → rests_at at true q ≡ false
  never_rests none = ⊎_elim (λ e. absurd (none (found_rests d k q e))) (λ e. e) (is_true_or_false (rests_at at true q))

  outer : rests_at at false q ≡ false → (Rests at q → ⊥) ⊎ LeadsToInput at q
  outer e = ⊎_elim (λ t. inr (leads_found d k q (found_rests d k q t) e)) (λ t. inl (unrested t)) (is_true_or_false (rests_at at true q))

  is_outer : (Rests at q → ⊥) ⊎ LeadsToInput at q → rests_at at false q ≡ false
  is_outer h = ⊎_elim (λ e. absurd (⊎_elim (λ none. none (inner_rests d k q e)) (λ l. inner_apart d k q e l) h)) (λ e. e) (is_true_or_false (rests_at at false q))

-- ASSIGNMENTS
module _ (d : PlainDesign) (k m : ℕ) (a : Owned) (within : k < length d.components) (stands : slice_get (source_order (component_at d k)) m ≡ Some a) where
  abbrev here : Spot
  here = record { component = k; part = AnAssign m }

  on_assign : (r : AssignRule) (place : Place) (name : List ℕ) → r (component_of d k) a place name → OnAssign r d here place name
  on_assign r place name b = record { within = within; number = m; is = refl; assign = a; stands = stands; breaks = b }

  done_holds : (g : ℕ) (b : Broken) → a.assign.target ≡ ports.Done g → In (done_break (component_of d k) here a.assign g) b → Holds d b
  done_holds g b e h =
      let i = component_of d k in
      let found = break_in (all_rest i true (sources_of a.assign)) rule.DoneNotState here a.assign.place (group_at (part_of i) g).name b h in
      let p = one_fails (λ x. rests_at i true x.port) (sources_of a.assign) found.0 in
      subst (Holds d) found.1
      (on_assign BreaksDoneNotState a.assign.place (group_at (part_of i) g).name (g, e, (p.0.port, source_named a.assign p.0 p.1, unrested d k p.0.port p.2), (refl, refl)))

  output_holds : (n : ℕ) (b : Broken) → a.assign.target ≡ ports.Output n → In (output_break (component_of d k) here a.assign n) b → Holds d b
  output_holds n b e h =
      let i = component_of d k in
      let found = break_in (all_rest i false (sources_of a.assign)) rule.OutputNotState here a.assign.place (path_of i (ports.Output n)) b h in
      let p = one_fails (λ x. rests_at i false x.port) (sources_of a.assign) found.0 in
      subst (Holds d) found.1
      (inl (on_assign BreaksOutputNotState a.assign.place (path_of i (ports.Output n)) (n, e, (p.0.port, source_named a.assign p.0 p.1, outer d k p.0.port p.2), (refl, ap (path_of i) (sym e)))))

  kept_holds : (b : Broken) → In (kept_breaks (component_of d k) here a) b → Holds d b
  kept_holds b h =
      let i = component_of d k in
      let ps = sources_of a.assign in
      let found = break_in (is_kept (part_of i).latency a.owner ps) rule.OutputNotState here a.assign.place (path_of i a.assign.target) b h in
      let is = unkept (part_of i).latency a.owner ps found.0 in
      let p = one_fails (λ x. not (is_input x.port)) ps is.3 in
      let n = input_is p.0.port p.2 in
      subst (Holds d) found.1
      (inr (on_assign BreaksKept a.assign.place (path_of i a.assign.target) (is.0, is.1, is.2, (n.0, subst (AssignNames a.assign) n.1 (source_named a.assign p.0 p.1)), (refl, refl))))

  target_holds : (target : PortRef) (b : Broken) → a.assign.target ≡ target → In (target_breaks (component_of d k) here a.assign target) b → Holds d b
  target_holds (ports.Cell c p) b e h = absurd h
  target_holds (ports.Input n) b e h = absurd h
  target_holds (ports.Output n) b e h = output_holds n b e h
  target_holds (ports.Done g) b e h = done_holds g b e h
  target_holds (ports.Literal w v) b e h = absurd h

  assign_holds : (b : Broken) → In (assign_breaks (component_of d k) here a) b → Holds d b
  assign_holds b h =
      ⊎_elim
      (target_holds a.assign.target b refl)
      (kept_holds b)
      (in_either (target_breaks (component_of d k) here a.assign a.assign.target) (kept_breaks (component_of d k) here a) b h)

-- STATEMENTS
static_is : (form : PlainForm) (p : PlacedPort) → static_test form ≡ Some p
    → (length : Option ℕ) × (test : PlacedPort) × (x : PlainStatement) × (y : PlainStatement) × (form ≡ StaticIf length test x y) × (test ≡ p)
static_is Empty p e = absurd (cc)
static_is (Enable g) p e = absurd (cc)
static_is (Seq parts) p e = absurd (cc)
static_is (Par arms) p e = absurd (cc)
static_is (If test comb x y) p e = absurd (cc)
static_is (While test comb x) p e = absurd (cc)
static_is (Repeat count x) p e = absurd (cc)
static_is (StaticSeq length parts) p e = absurd (cc)
static_is (StaticPar length arms) p e = absurd (cc)
static_is (StaticIf length test x y) p e = (length, test, x, y, refl, (cc))
static_is (StaticRepeat length count x) p e = absurd (cc)
static_is (Timed j) p e = absurd (cc)

module _ (d : PlainDesign) (k m : ℕ) (v : Visited) (within : k < length d.components) (stands : slice_get (statements_in (component_at d k)) m ≡ Some v) where
  abbrev there : Spot
  there = record { component = k; part = AStatement m }

  on_statement : (r : StatementRule) (place : Place) (name : List ℕ) → r (component_of d k) v place name → OnStatement r d there place name
  on_statement r place name b = record { within = within; number = m; is = refl; statement = v; stands = stands; breaks = b }

  test_holds : (test : Option PlacedPort) (b : Broken) → static_test v.form ≡ test → In (test_breaks (component_of d k) there v.place test) b → Holds d b
  test_holds None b t h = absurd h
  test_holds (Some p) b t h =
      let i = component_of d k in
      let found = break_in (rests_at i true p.port) rule.StaticShape there v.place [] b h in
      let is = static_is v.form p t in
      let none = unrested d k is.1.port (ap (λ x. rests_at i true x.port) is.5 ∙ found.0) in
      subst (Holds d) found.1 (on_statement BreaksStaticTest v.place [] (is.0, is.1, is.2, is.3, is.4, none, (refl, refl)))

component_holds : (d : PlainDesign) (k : ℕ) (b : Broken) → k < length d.components → In (component_breaks d k) b → Holds d b
component_holds d k b within h =
    ⊎_elim
    (λ l. let found = numbered_in (assign_breaks_at d k) 0 (source_order (component_at d k)) b l in
    let same : 0 + found.0 ≡ found.0 = omega arith in
    assign_holds d k found.0 found.1 within found.2 b (subst (λ n. In (assign_breaks_at d k n found.1) b) same found.3))
    (λ r. let found = numbered_in (test_breaks_at d k) 0 (statements_in (component_at d k)) b r in
    let same : 0 + found.0 ≡ found.0 = omega arith in
    test_holds d k found.0 found.1 within found.2 (static_test found.1.form) b refl (subst (λ n. In (test_breaks_at d k n found.1) b) same found.3))
    (in_either (numbered (assign_breaks_at d k) 0 (source_order (component_at d k))) (numbered (test_breaks_at d k) 0 (statements_in (component_at d k))) b h)

assign_in : (d : PlainDesign) (r : Rule) (spot : Spot) (place : Place) (name : List ℕ) (rules : AssignRule) (o : OnAssign rules d spot place name)
    → ((s : Spot) → In (assign_breaks (component_of d spot.component) s o.assign) (broken r s place name)) → In (state_breaks d) (broken r spot place name)
assign_in d r spot place name rules o has =
    let k = spot.component in
    let order = source_order (component_at d k) in
    let same : o.number ≡ 0 + o.number = omega arith in
    let spot_is : record { component = k; part = AnAssign o.number } ≡ spot = ap (λ part. record { component = k; part = part }) (sym o.is) in
    in_all (component_breaks d) (length d.components) k (broken r spot place name) o.within
    (in_left (numbered (assign_breaks_at d k) 0 order) (numbered (test_breaks_at d k) 0 (statements_in (component_at d k))) (broken r spot place name)
    (in_numbered (assign_breaks_at d k) 0 order o.number o.assign (broken r spot place name) o.stands
    (subst (λ n. In (assign_breaks_at d k n o.assign) (broken r spot place name)) same
    (subst (λ s. In (assign_breaks (component_of d k) (record { component = k; part = AnAssign o.number }) o.assign) (broken r s place name)) spot_is (has (record { component = k; part = AnAssign o.number }))))))

statement_in : (d : PlainDesign) (r : Rule) (spot : Spot) (place : Place) (name : List ℕ) (rules : StatementRule) (o : OnStatement rules d spot place name) (p : PlacedPort)
    → static_test o.statement.form ≡ Some p
    → ((s : Spot) → In (test_breaks (component_of d spot.component) s o.statement.place (Some p)) (broken r s place name)) → In (state_breaks d) (broken r spot place name)
statement_in d r spot place name rules o p t has =
    let k = spot.component in
    let list = statements_in (component_at d k) in
    let same : o.number ≡ 0 + o.number = omega arith in
    let own : Spot = record { component = k; part = AStatement o.number } in
    let spot_is : own ≡ spot = ap (λ part. record { component = k; part = part }) (sym o.is) in
    in_all (component_breaks d) (length d.components) k (broken r spot place name) o.within
    (in_right (numbered (assign_breaks_at d k) 0 (source_order (component_at d k))) (numbered (test_breaks_at d k) 0 list) (broken r spot place name)
    (in_numbered (test_breaks_at d k) 0 list o.number o.statement (broken r spot place name) o.stands
    (subst (λ n. In (test_breaks_at d k n o.statement) (broken r spot place name)) same
    (subst (λ s. In (test_breaks (component_of d k) own o.statement.place (static_test o.statement.form)) (broken r s place name)) spot_is
    (subst (λ x. In (test_breaks (component_of d k) own o.statement.place x) (broken r own place name)) (sym t) (has own))))))

done_in : (d : PlainDesign) (spot : Spot) (place : Place) (name : List ℕ) → OnAssign BreaksDoneNotState d spot place name → In (state_breaks d) (broken rule.DoneNotState spot place name)
done_in d spot place name o =
    let k = spot.component in
    let i = component_of d k in
    let a = o.assign.assign in
    let g = o.breaks.0 in
    let q = o.breaks.2.0 in
    let p = source_in a q o.breaks.2.1 in
    let fails : rests_at i true p.0.port ≡ false = ap (rests_at i true) p.2 ∙ never_rests d k q o.breaks.2.2 in
    let all : all_rest i true (sources_of a) ≡ false = all_fail (λ x. rests_at i true x.port) (sources_of a) p.0 p.1 fails in
    assign_in d rule.DoneNotState spot place name BreaksDoneNotState o (λ s.
    in_left (target_breaks i s a a.target) (kept_breaks i s o.assign) (broken rule.DoneNotState s place name)
    (subst (λ target. In (target_breaks i s a target) (broken rule.DoneNotState s place name)) (sym o.breaks.1)
    (in_break (all_rest i true (sources_of a)) rule.DoneNotState s a.place (group_at (part_of i) g).name place name all o.breaks.3)))

output_in : (d : PlainDesign) (spot : Spot) (place : Place) (name : List ℕ) → OnAssign BreaksOutputNotState d spot place name → In (state_breaks d) (broken rule.OutputNotState spot place name)
output_in d spot place name o =
    let k = spot.component in
    let i = component_of d k in
    let a = o.assign.assign in
    let n = o.breaks.0 in
    let q = o.breaks.2.0 in
    let p = source_in a q o.breaks.2.1 in
    let fails : rests_at i false p.0.port ≡ false = ap (rests_at i false) p.2 ∙ is_outer d k q o.breaks.2.2 in
    let all : all_rest i false (sources_of a) ≡ false = all_fail (λ x. rests_at i false x.port) (sources_of a) p.0 p.1 fails in
    assign_in d rule.OutputNotState spot place name BreaksOutputNotState o (λ s.
    in_left (target_breaks i s a a.target) (kept_breaks i s o.assign) (broken rule.OutputNotState s place name)
    (subst (λ target. In (target_breaks i s a target) (broken rule.OutputNotState s place name)) (sym o.breaks.1)
    (in_break (all_rest i false (sources_of a)) rule.OutputNotState s a.place (path_of i (ports.Output n)) place name all (o.breaks.3.0, o.breaks.3.1 ∙ ap (path_of i) o.breaks.1))))

kept_in : (d : PlainDesign) (spot : Spot) (place : Place) (name : List ℕ) → OnAssign BreaksKept d spot place name → In (state_breaks d) (broken rule.OutputNotState spot place name)
kept_in d spot place name o =
    let i = component_of d spot.component in
    let a = o.assign.assign in
    let ps = sources_of a in
    let p = source_in a (ports.Input o.breaks.3.0) o.breaks.3.1 in
    let named : none_input ps ≡ false = all_fail (λ x. not (is_input x.port)) ps p.0 p.1 (ap (λ q. not (is_input q)) p.2) in
    let fails : is_kept (part_of i).latency o.assign.owner ps ≡ false =
    ap (λ l. is_kept l o.assign.owner ps) o.breaks.1 ∙ ap (λ w. is_kept (Some o.breaks.0) w ps) o.breaks.2 ∙ named in
    assign_in d rule.OutputNotState spot place name BreaksKept o (λ s.
    in_right (target_breaks i s a a.target) (kept_breaks i s o.assign) (broken rule.OutputNotState s place name)
    (in_break (is_kept (part_of i).latency o.assign.owner ps) rule.OutputNotState s a.place (path_of i a.target) place name fails o.breaks.4))

test_in_list : (d : PlainDesign) (spot : Spot) (place : Place) (name : List ℕ) → OnStatement BreaksStaticTest d spot place name → In (state_breaks d) (broken rule.StaticShape spot place name)
test_in_list d spot place name o =
    let k = spot.component in
    let i = component_of d k in
    let test = o.breaks.1 in
    statement_in d rule.StaticShape spot place name BreaksStaticTest o test (ap static_test o.breaks.4) (λ s.
    in_break (rests_at i true test.port) rule.StaticShape s o.statement.place [] place name (never_rests d k test.port o.breaks.5) o.breaks.6)

all_breaks : (d : PlainDesign) (r : Rule) (spot : Spot) (place : Place) (name : List ℕ) → StateBreaks d r spot place name → In (state_breaks d) (broken r spot place name)
all_breaks d rule.DoneNotState spot place name o = done_in d spot place name o
all_breaks d rule.OutputNotState spot place name (inl o) = output_in d spot place name o
all_breaks d rule.OutputNotState spot place name (inr o) = kept_in d spot place name o
all_breaks d rule.StaticShape spot place name o = test_in_list d spot place name o
all_breaks d rule.BadByte spot place name o = absurd o
all_breaks d rule.OpenComment spot place name o = absurd o
all_breaks d rule.OpenString spot place name o = absurd o
all_breaks d rule.BadLiteral spot place name o = absurd o
all_breaks d rule.Unexpected spot place name o = absurd o
all_breaks d rule.TooDeep spot place name o = absurd o
all_breaks d rule.Duplicate spot place name o = absurd o
all_breaks d rule.UnknownName spot place name o = absurd o
all_breaks d rule.UnknownPrimitive spot place name o = absurd o
all_breaks d rule.BadParameters spot place name o = absurd o
all_breaks d rule.Recursive spot place name o = absurd o
all_breaks d rule.NoMain spot place name o = absurd o
all_breaks d rule.LeftOut spot place name o = absurd o
all_breaks d rule.Width spot place name o = absurd o
all_breaks d rule.GuardWidth spot place name o = absurd o
all_breaks d rule.Literal spot place name o = absurd o
all_breaks d rule.NotATarget spot place name o = absurd o
all_breaks d rule.NotASource spot place name o = absurd o
all_breaks d rule.NoDone spot place name o = absurd o
all_breaks d rule.AlwaysEnable spot place name o = absurd o
all_breaks d rule.CombEnable spot place name o = absurd o
all_breaks d rule.StaticGuard spot place name o = absurd o
all_breaks d rule.CallShape spot place name o = absurd o
all_breaks d rule.CombCycle spot place name o = absurd o
all_breaks d rule.Race spot place name o = absurd o
all_breaks d rule.Limit spot place name o = absurd o
all_breaks d rule.TooLarge spot place name o = absurd o

-- the list is that of the rules
pub are_breaks : (d : PlainDesign) → AreBreaksBy (StateBreaks d) (state_breaks d)
are_breaks d = record {
  by_family = λ b h. all_hold (component_breaks d) (Holds d) (length d.components) b (λ k. component_holds d k b) h;
  all_family = λ r spot place name o. (broken r spot place name, all_breaks d r spot place name o, before_irreflexive (key_of r spot place));
}
