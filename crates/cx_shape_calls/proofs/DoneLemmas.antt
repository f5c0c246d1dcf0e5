-- Targets that are counted, and the dones of the captured registers.
use Rattle.std.proofs.Common.{◌≡◌, ◌≢◌, ◌+◌, ◌<◌, ◌≤◌, ℕ, suc, Bool, true, false, ◌&&◌, ◌||◌, not, cond, nat_eq, List, [], ◌∷◌, Option, Some, None, length, map, filter, take, Bor, get_or, slice_get, refl, sym, ap, ◌∙◌, subst, arith, tests}
use Rattle.std.specs.Option.{unwrap_or}
use Rattle.std.proofs.lemmas.List.{length-take, length-map}
use Rattle.std.proofs.lemmas.List.Filters.{length-filter_more}
use Rattle.cx_design.specs.declared.groups.Assign.{Assign}
use Rattle.cx_design.specs.PlainForms.{plain_assign}
use Rattle.cx_callees.specs.declared.callees.Callee.{Callee}
use Rattle.std.specs.List.{list_all, list_any}
use Rattle.cx_meaning.specs.declared.ports.PortRef.{PortRef}
use Rattle.cx_meaning.specs.declared.ports.PortRef.TheVariants as ports
use Rattle.cx_meaning.specs.Designs.{PlainAssign, PlainGroup}
use Rattle.cx_meaning.specs.Instances.{Instance}
use Rattle.cx_rules.specs.Items.{is_plain}
use Rattle.cx_meaning.specs.Active.{same_port}
use Rattle.cx_rules.specs.ShapeRules.{is_hole_of, some_target}
use Rattle.cx_rules.specs.CallShape.{go_port, register_done, wanted_dones, with_target, are_dones, is_right_done}
use Rattle.cx_callees.specs.Callees.{PlainCallee, plain_callee, done_of, called_of}
use Rattle.cx_shape_calls.specs.Forms.{count_of, is_wrong_done, lacks_go_or_done, is_none, is_calling}
use Rattle.cx_shape_calls.proofs.CaptureLemmas.{eq_sym}
use Rattle.cx_text.proofs.BoolLaws.{and_both}
use Rattle.cx_text.proofs.NumberLaws.{from_eq}

both_same : (a b c d : ℕ) → nat_eq a b && nat_eq c d ≡ nat_eq b a && nat_eq d c
both_same a b c d = ap (λ t. t && nat_eq c d) (eq_sym a b) ∙ ap (λ t. nat_eq b a && t) (eq_sym c d)

pub same_sym : (a b : PortRef) → same_port a b ≡ same_port b a
same_sym (ports.Cell c p) (ports.Cell d q) = both_same c d p q
same_sym (ports.Input i) (ports.Input j) = eq_sym i j
same_sym (ports.Output i) (ports.Output j) = eq_sym i j
same_sym (ports.Done g) (ports.Done h) = eq_sym g h
same_sym (ports.Literal w v) (ports.Literal x u) = both_same w x v u
same_sym a b = refl

one_or_more : (n : ℕ) → true ≡ not (nat_eq (suc n) 0)
one_or_more n = grind (arith, tests)

counted : (w : PortRef) (ps : List PortRef) → not (nat_eq (count_of w ps) 0) ≡ list_any (same_port w) ps
counted w [] = refl
counted w (p ∷ ps) = choice (same_port p w) (counted w ps) ∙ ap (λ b. b || list_any (same_port w) ps) (same_sym p w)
  where
    choice : (b : Bool) → not (nat_eq (count_of w ps) 0) ≡ list_any (same_port w) ps
        → not (nat_eq (length (cond b (p ∷ filter (λ q. same_port q w) ps) (filter (λ q. same_port q w) ps))) 0) ≡ b || list_any (same_port w) ps
    choice true ih = sym (one_or_more (count_of w ps))
    choice false ih = ih

abbrev Counts : (ℕ → ℕ → ℕ) → List PortRef → Type 0
Counts times ps = (c p : ℕ) → times c p ≡ count_of (ports.Cell c p) ps

-- one more port is counted
pub count_more : (times next : ℕ → ℕ → ℕ) (ps : List PortRef) (i : ℕ) (port : PortRef) → i < length ps → port ≡ get_or ps i port → Counts times (take i ps)
    → ((c p : ℕ) → next c p ≡ times c p + cond (same_port port (ports.Cell c p)) 1 0) → Counts next (take (i + 1) ps)
count_more times next ps i port lt is h step c p =
    let w = ports.Cell c p in
    step c p ∙ ap (λ n. n + cond (same_port port w) 1 0) (h c p) ∙ ap (λ q. count_of w (take i ps) + cond (same_port q w) 1 0) is
    ∙ sym (length-filter_more (λ q. same_port q w) ps i port lt)

pub count_few : (w : PortRef) (ps : List PortRef) → count_of w ps ≤ length ps
count_few w [] = omega arith
count_few w (p ∷ ps) = choice (same_port p w) (count_few w ps)
  where
    choice : (b : Bool) → count_of w ps ≤ length ps → length (cond b (p ∷ filter (λ q. same_port q w) ps) (filter (λ q. same_port q w) ps)) ≤ suc (length ps)
    choice true ih = omega (arith, ih)
    choice false ih = omega (arith, ih)

pub count_taken : (w : PortRef) (ps : List PortRef) (i : ℕ) → count_of w (take i ps) ≤ length ps
count_taken w ps i = omega (arith, count_few w (take i ps), length-take i ps)

-- what one more of a key leaves
pub with_one : (b : Bool) (o : Option ℕ) (n : ℕ) → (b ≡ true → unwrap_or o 0 ≡ n) → unwrap_or (cond b (Some (n + 1)) o) 0 ≡ unwrap_or o 0 + cond b 1 0
with_one true o n h = ap (λ m. m + 1) (sym (h refl))
with_one false o n h = omega arith

pub same_key : (times : ℕ → ℕ → ℕ) (c p d q : ℕ) → nat_eq c d && nat_eq p q ≡ true → times d q ≡ times c p
same_key times c p d q h =
    let is = and_both (nat_eq c d) (nat_eq p q) h in
    sym (ap (λ v. times v p) (from_eq c d is.0) ∙ ap (λ v. times d v) (from_eq p q is.1))

pub targets_counted : (w : PortRef) (assigns : List Assign) → count_of w (map (λ a. a.target) assigns) ≡ length (with_target w (map plain_assign assigns))
targets_counted w [] = refl
targets_counted w (a ∷ rest) = choice (same_port a.target w) (targets_counted w rest)
  where
    choice : (b : Bool) → count_of w (map (λ a. a.target) rest) ≡ length (with_target w (map plain_assign rest))
        → length (cond b (a.target ∷ filter (λ q. same_port q w) (map (λ a. a.target) rest)) (filter (λ q. same_port q w) (map (λ a. a.target) rest)))
        ≡ length (cond b (plain_assign a ∷ with_target w (map plain_assign rest)) (with_target w (map plain_assign rest)))
    choice true ih = ap suc ih
    choice false ih = ih

have_dones : (times : ℕ → ℕ → ℕ) (ps : List PortRef) → Counts times ps → (rs : List ℕ)
    → list_all (λ r. not (nat_eq (times r 3) 0)) rs ≡ list_all (λ w. list_any (same_port w) ps) (map register_done rs)
have_dones times ps h [] = refl
have_dones times ps h (r ∷ rs) =
    ap (λ b. b && list_all (λ r. not (nat_eq (times r 3) 0)) rs) (ap (λ n. not (nat_eq n 0)) (h r 3) ∙ counted (register_done r) ps)
    ∙ ap (λ b. list_any (same_port (register_done r)) ps && b) (have_dones times ps h rs)

many : (rs : List ℕ) → length (map register_done rs) ≡ length rs
many [] = refl
many (r ∷ rs) = ap suc (many rs)

-- of as many ports as there are captured registers, some
pub dones_counted : (done : PortRef) (times : ℕ → ℕ → ℕ) (ps : List PortRef) (rs : List ℕ) (right : Bool) → Counts times ps → rs ≢ [] → length ps ≡ length rs
    → right ≡ list_all (λ r. not (nat_eq (times r 3) 0)) rs → right ≡ are_dones (wanted_dones done rs) (Some ps)
dones_counted done times ps [] right h some len e = absurd (some refl)
dones_counted done times ps (r ∷ rs) right h some len e =
    let same : nat_eq (length ps) (length (register_done r ∷ map register_done rs)) ≡ true = subst (λ n. nat_eq n (suc (length (map register_done rs))) ≡ true) (sym len) (subst (λ n. nat_eq (suc (length rs)) (suc n) ≡ true) (sym (many rs)) (equal (suc (length rs)))) in
    e ∙ have_dones times ps h (r ∷ rs) ∙ ap (λ b. b && list_all (λ w. list_any (same_port w) ps) (register_done r ∷ map register_done rs)) (sym same)
  where
    equal : (n : ℕ) → nat_eq n n ≡ true
    equal n = grind (arith, tests)

none_of : (ks : List PlainCallee) → list_any (λ k. false) ks ≡ false
none_of [] = refl
none_of (k ∷ ks) = none_of ks

all_alike : (b : Bool) (ks : List PlainCallee) → b ≡ b || list_any (λ k. b) ks
all_alike true ks = refl
all_alike false ks = sym (none_of ks)

-- where a register is captured, the first of the called cells tells for all
first_tells : (k : PlainCallee) (ks : List PlainCallee) (rs : List ℕ) (dones : List PlainAssign) (right : Bool) → rs ≢ []
    → right ≡ is_right_done (wanted_dones (done_of k) rs) dones → not right ≡ is_wrong_done (k ∷ ks) rs dones
first_tells k ks [] dones right some e = absurd (some refl)
first_tells k ks (r ∷ rs) dones right some e = ap not e ∙ all_alike (not (is_right_done (register_done r ∷ map register_done rs) dones)) ks

abbrev callee_or : Callee → Option Callee → Callee
callee_or k None = k
callee_or k (Some l) = l

pub first_is_told : (called : List Callee) (k : Callee) (rs : List ℕ) (dones : List PlainAssign) (right : Bool) → slice_get called 0 ≡ Some k → rs ≢ []
    → right ≡ is_right_done (wanted_dones (done_of (plain_callee k)) rs) dones → not right ≡ is_wrong_done (map plain_callee called) rs dones
first_is_told [] k rs dones right at some e = absurd (cc)
first_is_told (l ∷ called) k rs dones right at some e =
    let same : l ≡ k = ap (callee_or l) at in
    subst (λ v. not right ≡ is_wrong_done (plain_callee v ∷ map plain_callee called) rs dones) (sym same)
    (first_tells (plain_callee k) (map plain_callee called) rs dones right some e)

-- a port is driven where it is the target of some
pub driven_if : (w : PortRef) (assigns : List PlainAssign) → some_target (same_port w) assigns ≡ not (nat_eq (length (with_target w assigns)) 0)
driven_if w [] = refl
driven_if w (a ∷ rest) = ap (λ b. b || some_target (same_port w) rest) (same_sym w a.target) ∙ choice (same_port a.target w) (driven_if w rest)
  where
    choice : (b : Bool) → some_target (same_port w) rest ≡ not (nat_eq (length (with_target w rest)) 0)
        → b || some_target (same_port w) rest ≡ not (nat_eq (length (cond b (a ∷ with_target w rest) (with_target w rest))) 0)
    choice true ih = one_or_more (length (with_target w rest))
    choice false ih = ih

hole_is : (g : ℕ) (t : PortRef) → is_hole_of g t ≡ same_port (ports.Done g) t
hole_is g (ports.Cell c p) = refl
hole_is g (ports.Input n) = refl
hole_is g (ports.Output n) = refl
hole_is g (ports.Done h) = eq_sym h g
hole_is g (ports.Literal w v) = refl

some_hole : (g : ℕ) (assigns : List PlainAssign) → some_target (is_hole_of g) assigns ≡ some_target (same_port (ports.Done g)) assigns
some_hole g [] = refl
some_hole g (a ∷ rest) = ap (λ b. b || some_target (is_hole_of g) rest) (hole_is g a.target) ∙ ap (λ b. same_port (ports.Done g) a.target || b) (some_hole g rest)

pub lacks_is : (called : List PlainCallee) (g : ℕ) (assigns : List PlainAssign) (times : ℕ → ℕ → ℕ) (has_done : Bool)
    → ((c p : ℕ) → times c p ≡ length (with_target (ports.Cell c p) assigns)) → has_done ≡ not (nat_eq (length (with_target (ports.Done g) assigns)) 0)
    → list_any (λ k. not (not (nat_eq (times k.cell 0) 0) && has_done)) called ≡ lacks_go_or_done called g assigns
lacks_is [] g assigns times has_done h e = refl
lacks_is (k ∷ ks) g assigns times has_done h e =
    ap (λ b. b || list_any (λ k. not (not (nat_eq (times k.cell 0) 0) && has_done)) ks)
    (ap (λ b. not (b && has_done)) (ap (λ n. not (nat_eq n 0)) (h k.cell 0) ∙ sym (driven_if (go_port k.cell) assigns))
    ∙ ap (λ b. not (some_target (same_port (go_port k.cell)) assigns && b)) (e ∙ sym (some_hole g assigns ∙ driven_if (ports.Done g) assigns)))
    ∙ ap (λ b. not (some_target (same_port (go_port k.cell)) assigns && some_target (is_hole_of g) assigns) || b) (lacks_is ks g assigns times has_done h e)

-- the go or the done is not driven, by what was counted
pub lacks_told : (ks called : List PlainCallee) (g : ℕ) (assigns : List PlainAssign) (times : ℕ → ℕ → ℕ) (has_done lacks : Bool) → ks ≡ called
    → lacks ≡ list_any (λ k. not (not (nat_eq (times k.cell 0) 0) && has_done)) ks
    → ((c p : ℕ) → times c p ≡ length (with_target (ports.Cell c p) assigns)) → has_done ≡ not (nat_eq (length (with_target (ports.Done g) assigns)) 0)
    → lacks ≡ lacks_go_or_done called g assigns
lacks_told ks called g assigns times has_done lacks same e h d =
    e ∙ ap (λ l. list_any (λ k. not (not (nat_eq (times k.cell 0) 0) && has_done)) l) same ∙ lacks_is called g assigns times has_done h d

pub calling_if : (i : Instance) (group : PlainGroup) (ks : List Callee) → map plain_callee ks ≡ called_of i group.assigns → is_plain group.kind ≡ true → nat_eq (length ks) 0 ≡ false
    → is_calling i group ≡ true
calling_if i group ks same plain some = ap (λ b. b && not (is_none (called_of i group.assigns))) plain ∙ ap (λ l. not (is_none l)) (sym same) ∙ choice ks some
  where
    choice : (l : List Callee) → nat_eq (length l) 0 ≡ false → not (is_none (map plain_callee l)) ≡ true
    choice [] h = sym h
    choice (k ∷ l) h = refl

pub some_if_not : (dones : List (Bor Assign)) (wanted : List PlainAssign) (none : Bool) → map (λ a. plain_assign a.now) dones ≡ wanted → none ≡ nat_eq (length dones) 0
    → not none ≡ not (nat_eq (length wanted) 0)
some_if_not dones wanted none same e = ap not e ∙ ap (λ n. not (nat_eq n 0)) (sym (length-map dones (λ (a : Bor Assign). plain_assign a.now))) ∙ ap (λ l. not (nat_eq (length l) 0)) same

pub wrong_told : (ks called : List PlainCallee) (rs captured : List ℕ) (dones wanted : List PlainAssign) (wrong : Bool) → ks ≡ called → rs ≡ captured → dones ≡ wanted
    → wrong ≡ is_wrong_done ks rs dones → wrong ≡ is_wrong_done called captured wanted
wrong_told ks called rs captured dones wanted wrong a b c e = e ∙ ap (λ l. is_wrong_done l rs dones) a ∙ ap (λ l. is_wrong_done called l dones) b ∙ ap (λ l. is_wrong_done called captured l) c
