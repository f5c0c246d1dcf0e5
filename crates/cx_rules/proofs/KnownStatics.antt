-- Worked values of the rules of static components, each from the sentence above it: a design that breaks a rule, and one near it that does not.
use Rattle.std.proofs.Common.{◌≡◌, ◌≢◌, ℕ, zero, suc, ◌<◌, ◌⊎◌, inl, inr, true, false, [], ◌∷◌, ◌++◌, List, Some, None, length, codes, refl, sym, ap, ◌∙◌, subst, arith}
use Rattle.cx_text.specs.Members.{In}
use Rattle.cx_text.specs.declared.places.Place.{Place}
use Rattle.cx_prim.specs.declared.names.PrimitiveName.TheVariants as primitives
use Rattle.cx_prim.specs.declared.ports.Side.TheVariants as sides
use Rattle.cx_prim.specs.Rows.{Row}
use Rattle.cx_prim.specs.Table.{row_of}
use Rattle.cx_meaning.specs.declared.ports.PortRef.{PortRef}
use Rattle.cx_meaning.specs.declared.ports.PortRef.TheVariants.{Cell, Input, Output}
use Rattle.cx_meaning.specs.declared.kinds.PortDecl.{PortDecl}
use Rattle.cx_meaning.specs.Rows.{side_of}
use Rattle.cx_meaning.specs.Designs.{PlainAssign, PlainCell, PlainGroup, PlainInvoke, PlainComponent, PlainDesign, PlainStatement, Placed, Atom, StaticSeq, StaticPar, StaticRepeat, Timed, Empty, statements_of}
use Rattle.cx_meaning.specs.Instances.{Instance, OfInstance, part_of, cells_of, cell_at, tree_within}
use Rattle.cx_meaning.specs.Active.{Owned}
use Rattle.cx_meaning.specs.Sights.{GuardNames}
use Rattle.cx_meaning.proofs.InstancesLemmas.{row_is, row_instance}
use Rattle.cx_meaning.proofs.KnownDesigns.{placed, assign, guarded, comb_group, timed_group, child_cell, reg, adder, cell, st, enable, seq, number, one_bit}
use Rattle.cx_rules.specs.Items.{Dynamic, Visited}
use Rattle.cx_rules.specs.Ports.{component_of}
use Rattle.cx_rules.specs.Spots.{Itself, AStatement, Spot, OnStatement}
use Rattle.cx_rules.specs.Footprints.{AssignNames, Rests, literal_rests, registered_rests, output_rests, done_rests, combinational_rests}
use Rattle.cx_rules.specs.StaticControl.{is_timed}
use Rattle.cx_rules.specs.Invokes.{invoke_at, invoke_length, lasts}
use Rattle.cx_rules.specs.Counts.{inner, inners_of, counted_cells, counted_groups, counted_size}
use Rattle.cx_rules.specs.InvokeShape.{BreaksStaticCell, LeadsToCell, itself, through, InvokeBreak, another_kind, unbound, restless, fed_back, BreaksInvoke}
use Rattle.cx_rules.specs.ShapeRules.{BreaksInvokeLength, IsWrongControl, BreaksPartLength, BreaksKept}

abbrev place : ℕ → ℕ → Place
place line column = record { line = line; column = column }

abbrev port : List ℕ → PortDecl
port name = record { name = name; width = 32 }

abbrev named : List ℕ → PlainCell → PlainCell
named name cell = record cell { name = name }

-- static<2> sq(x: 32) -> (y: 32): p takes x into r, q doubles it, and y is r; beside r and the adder there is v, a wire
abbrev take : PlainGroup
take = timed_group 1 (assign (Cell 0 0) (Input 0) 1 ∷ assign (Cell 0 1) (one_bit 1) 2 ∷ [])

abbrev double : PlainGroup
double = timed_group 1 (assign (Cell 1 0) (Cell 0 2) 3 ∷ assign (Cell 1 1) (Cell 0 2) 4 ∷ assign (Cell 0 0) (Cell 1 2) 5 ∷ assign (Cell 0 1) (one_bit 1) 6 ∷ [])

abbrev both : PlainStatement
both = st (StaticSeq None (statements_of (enable 0 ∷ enable 1 ∷ [])))

-- sq with this latency, these continuous assignments and this control, at 9:1
abbrev static_part : ℕ → List PlainAssign → PlainStatement → PlainComponent
static_part latency always control = record {
  name = codes "sq";
  latency = Some latency;
  inputs = port (codes "x") ∷ [];
  outputs = port (codes "y") ∷ [];
  cells = named (codes "r") (reg 32) ∷ adder ∷ named (codes "v") (cell primitives.Wire (32 ∷ [])) ∷ [];
  groups = take ∷ double ∷ [];
  invokes = [];
  always = always;
  control = control;
  place = place 9 1;
}

abbrev y_is_r : PlainAssign
y_is_r = assign (Output 0) (Cell 0 2) 7

abbrev sq : PlainComponent
sq = static_part 2 (y_is_r ∷ []) both

-- dy: a component of the same ports that is not static
abbrev dy : PlainComponent
dy = record sq { name = codes "dy"; latency = None; groups = []; control = st Empty }

-- c = sq(), k = std_reg(32), w = std_wire(32), a = std_add(32), d = dy()
abbrev main_cells : List PlainCell
main_cells = named (codes "c") (child_cell 1) ∷ reg 32 ∷ cell primitives.Wire (32 ∷ []) ∷ adder ∷ named (codes "d") (child_cell 2) ∷ []

abbrev c_x : PortRef
c_x = Cell 0 1

abbrev c_y : PortRef
c_y = Cell 0 2

abbrev k_out : PortRef
k_out = Cell 1 2

abbrev w_out : PortRef
w_out = Cell 2 1

abbrev a_out : PortRef
a_out = Cell 3 2

abbrev main_with : List PlainInvoke → List PlainGroup → List PlainAssign → PlainStatement → PlainDesign
main_with invokes groups always control = record {
  components = record { name = codes "main"; latency = None; inputs = []; outputs = []; cells = main_cells; groups = groups; invokes = invokes; always = always; control = control; place = place 1 1 }
      ∷ sq ∷ dy ∷ [];
  main = 0;
}

-- static invoke c(x = source)(), at 7:1, and the caller whose control it is
abbrev its_control : PlainStatement
its_control = Placed (Timed 0) (place 7 1)

abbrev x_is : PortRef → PlainAssign
x_is source = assign c_x source 19

abbrev invoke_with : List PlainAssign → PlainInvoke
invoke_with inputs = record { cell = 0; written = true; length = None; latency = Some 2; inputs = inputs; captures = None }

abbrev here : Visited
here = record { context = Dynamic; form = Timed 0; place = place 7 1 }

abbrev caller : PlainInvoke → List PlainGroup → List PlainAssign → Instance
caller invoke groups always = component_of (main_with (invoke ∷ []) groups always its_control) 0

abbrev feeding : PortRef → List PlainGroup → List PlainAssign → Instance
feeding source groups always = caller (invoke_with (x_is source ∷ [])) groups always

-- the instance of sq in the caller
abbrev child : PlainDesign → Instance
child d = tree_within d 2 1

-- an invoke that breaks nothing, told of at no place
spared : (i : Instance) (v : PlainInvoke) (at : Place) (name : List ℕ) → invoke_at (part_of i) 0 ≡ Some v → (InvokeBreak i v → ⊥) → BreaksInvoke i here at name → ⊥
spared i v at name is fine b =
    let k = b.0 in
    let w = b.1 in
    let form : Timed 0 ≡ Timed k = b.2 in
    let first : 0 ≡ k = cc in
    let stands : invoke_at (part_of i) 0 ≡ Some w = subst (λ n. invoke_at (part_of i) n ≡ Some w) (sym first) b.3 in
    let same : w ≡ v = (let both : Some w ≡ Some v = sym stands ∙ is in cc) in
    fine (subst (λ z. InvokeBreak i z) same b.4)

-- an invoke of c that binds x to a source that rests and that leads back to nothing
sound : (i : Instance) (source : PortRef) (one : Instance) → cell_at (cells_of i) 0 ≡ OfInstance one → length (part_of one).inputs ≡ 1 → Rests i source
    → ((e p : ℕ) → source ≡ Cell e p → LeadsToCell (part_of i) e 0 → ⊥) → InvokeBreak i (invoke_with (x_is source ∷ [])) → ⊥
sound i source one at inputs rests apart (another_kind e) = absurd (cc)
sound i source one at inputs rests apart (unbound other zero there below none) = absurd (cc)
sound i source one at inputs rests apart (unbound other (suc n) there below none) =
    let same : one ≡ other = (let e : OfInstance one ≡ OfInstance other = sym at ∙ there in cc) in
    let inside : suc n < length (part_of one).inputs = subst (λ z. suc n < length (part_of z).inputs) (sym same) below in
    absurd (omega arith)
sound i source one at inputs rests apart (restless a q (inl e) (inl guard) not) = subst (λ z. GuardNames z.guard q) (sym e) guard
sound i source one at inputs rests apart (restless a q (inl e) (inr s) not) = not (subst (λ z. Rests i z) (ap (λ z. z.source.port) e ∙ s) rests)
sound i source one at inputs rests apart (restless a q (inr j) names not) = absurd j
sound i source one at inputs rests apart (fed_back a e p (inl f) (inl guard) leads) = subst (λ z. GuardNames z.guard (Cell e p)) (sym f) guard
sound i source one at inputs rests apart (fed_back a e p (inl f) (inr s) leads) = apart e p (ap (λ z. z.source.port) f ∙ s) leads
sound i source one at inputs rests apart (fed_back a e p (inr j) names leads) = absurd j

-- static invoke c()(): x is unbound
abbrev bare : PlainInvoke
bare = invoke_with []

pub known_unbound : BreaksInvoke (caller bare [] []) here (place 7 1) (codes "c")
known_unbound = (0, bare, refl, refl, unbound (child (main_with (bare ∷ []) [] [] its_control)) 0 refl (omega arith) refl, (refl, refl))

-- it is told of the one statement of main
pub known_unbound_told : OnStatement BreaksInvoke (main_with (bare ∷ []) [] [] its_control) (record { component = 0; part = AStatement 0 }) (place 7 1) (codes "c")
known_unbound_told = record { within = omega arith; number = 0; is = refl; statement = here; stands = refl; breaks = known_unbound }

-- static invoke c(x = 32'd3)() breaks nothing
pub known_bound : (at : Place) (name : List ℕ) → BreaksInvoke (feeding (number 3) [] []) here at name → ⊥
known_bound at name =
    spared (feeding (number 3) [] []) (invoke_with (x_is (number 3) ∷ [])) at name refl
    (sound (feeding (number 3) [] []) (number 3) (child (main_with (invoke_with (x_is (number 3) ∷ []) ∷ []) [] [] its_control)) refl refl literal_rests (λ e p f leads. absurd (cc)))

-- the rows of k, w and a
abbrev reg_row : Row
reg_row = row_of (record { name = primitives.Reg; numbers = 32 ∷ [] })

abbrev wire_row : Row
wire_row = row_of (record { name = primitives.Wire; numbers = 32 ∷ [] })

abbrev add_row : Row
add_row = row_of (record { name = primitives.Add; numbers = 32 ∷ [] })

-- a comb group that makes k.out + k.out, and the same continuously
abbrev doubled : List PlainAssign
doubled = assign (Cell 3 0) k_out 11 ∷ assign (Cell 3 1) k_out 12 ∷ []

-- static invoke c(x = a.out)() where a group drives a.left: it does not rest on state
abbrev group_sum : Instance
group_sum = feeding a_out (comb_group doubled ∷ []) []

known_sum_moves : Rests group_sum a_out → ⊥
known_sum_moves (registered_rests row at side) = absurd (let none : sides.Output ≡ sides.Registered = ap (λ r. side_of r 2) (row_is add_row row at) ∙ side in cc)
known_sum_moves (output_rests n one at port) = row_instance add_row one at
known_sum_moves (done_rests one at port) = row_instance add_row one at
known_sum_moves (combinational_rests row at side groups always) = groups 0 0 (assign (Cell 3 0) k_out 11) (ap (λ r. r.reads 2 0) (sym (row_is add_row row at))) (inl refl) refl

pub known_restless : BreaksInvoke group_sum here (place 7 1) (codes "c")
known_restless = (0, invoke_with (x_is a_out ∷ []), refl, refl, restless (x_is a_out) a_out (inl refl) (inr refl) known_sum_moves, (refl, refl))

-- with a.left = k.out and a.right = k.out continuously it does, and a leads to k alone
abbrev sum : Instance
sum = feeding a_out [] doubled

names_k : (a : PlainAssign) (q : PortRef) → In doubled a → AssignNames a q → k_out ≡ q
names_k a q (inl e) (inl guard) = absurd (subst (λ z. GuardNames z.guard q) (sym e) guard)
names_k a q (inl e) (inr s) = ap (λ z. z.source.port) e ∙ s
names_k a q (inr (inl e)) (inl guard) = absurd (subst (λ z. GuardNames z.guard q) (sym e) guard)
names_k a q (inr (inl e)) (inr s) = ap (λ z. z.source.port) e ∙ s
names_k a q (inr (inr j)) names = absurd j

known_sum_rests : Rests sum a_out
known_sum_rests = combinational_rests add_row refl refl (λ m g a reads stands target. stands) (λ m a q reads stands target names. subst (λ z. Rests sum z) (names_k a q stands names) (registered_rests reg_row refl refl))

a_leads_to : (c : ℕ) → LeadsToCell (part_of sum) 3 c → (c ≡ 3) ⊎ (c ≡ 1)
a_leads_to _ itself = inl refl
a_leads_to c (through m p q a leads stands target names) = inr (let e : k_out ≡ Cell c q = names_k a (Cell c q) stands names in cc)

a_stays : (zero ≡ 3) ⊎ (zero ≡ 1) → ⊥
a_stays (inl e) = cc
a_stays (inr e) = cc

a_apart : (e p : ℕ) → a_out ≡ Cell e p → LeadsToCell (part_of sum) e 0 → ⊥
a_apart e p f leads = let third : e ≡ 3 = cc in a_stays (a_leads_to 0 (subst (λ n. LeadsToCell (part_of sum) n 0) third leads))

pub known_resting : (at : Place) (name : List ℕ) → BreaksInvoke sum here at name → ⊥
known_resting at name =
    spared sum (invoke_with (x_is a_out ∷ [])) at name refl
    (sound sum a_out (child (main_with (invoke_with (x_is a_out ∷ []) ∷ []) [] doubled its_control)) refl refl known_sum_rests a_apart)

-- static invoke c(x = c.y)() names the cell itself
pub known_own_output : BreaksInvoke (feeding c_y [] []) here (place 7 1) (codes "c")
known_own_output = (0, invoke_with (x_is c_y ∷ []), refl, refl, fed_back (x_is c_y) 0 2 (inl refl) (inr refl) itself, (refl, refl))

-- w.in = source
abbrev w_in : PortRef → PlainAssign
w_in source = assign (Cell 2 0) source 13

-- static invoke c(x = w.out)() with w.in = c.y
pub known_fed_back : BreaksInvoke (feeding w_out [] (w_in c_y ∷ [])) here (place 7 1) (codes "c")
known_fed_back = (
  0,
  invoke_with (x_is w_out ∷ []),
  refl,
  refl,
  fed_back (x_is w_out) 2 1 (inl refl) (inr refl) (through 2 0 2 (w_in c_y) itself (inl refl) refl (inr refl)),
  (refl, refl),
)

-- and with w.in = c.y ? 32'd1, whose guard is too wide besides
abbrev w_if : PlainAssign
w_if = guarded (Cell 2 0) (Atom (placed c_y)) (number 1) 13

pub known_fed_back_by_guard : BreaksInvoke (feeding w_out [] (w_if ∷ [])) here (place 7 1) (codes "c")
known_fed_back_by_guard = (0, invoke_with (x_is w_out ∷ []), refl, refl, fed_back (x_is w_out) 2 1 (inl refl) (inr refl) (through 2 0 2 w_if itself (inl refl) refl (inl refl)), (refl, refl))

-- and with w.in = a.out; a.left = c.y
abbrev a_left : PlainAssign
a_left = assign (Cell 3 0) c_y 14

pub known_fed_back_by_two : BreaksInvoke (feeding w_out [] (w_in a_out ∷ a_left ∷ [])) here (place 7 1) (codes "c")
known_fed_back_by_two = (
  0,
  invoke_with (x_is w_out ∷ []),
  refl,
  refl,
  fed_back (x_is w_out) 2 1 (inl refl) (inr refl) (through 3 0 2 a_left (through 2 0 2 (w_in a_out) itself (inl refl) refl (inr refl)) (inr (inl refl)) refl (inr refl)),
  (refl, refl),
)

-- where a group has w.in = c.y, w leads to itself alone
abbrev by_group : Instance
by_group = feeding w_out (comb_group (w_in c_y ∷ []) ∷ []) []

pub known_group_leads_nowhere : (c : ℕ) → LeadsToCell (part_of by_group) 2 c → c ≡ 2
known_group_leads_nowhere _ itself = refl
known_group_leads_nowhere c (through m p q a leads stands target names) = absurd stands

-- with w.in = k.out it leads to k alone, and breaks nothing
abbrev forth : Instance
forth = feeding w_out [] (w_in k_out ∷ [])

of_k : (a : PlainAssign) (q : PortRef) → In (w_in k_out ∷ []) a → AssignNames a q → k_out ≡ q
of_k a q (inl e) (inl guard) = absurd (subst (λ z. GuardNames z.guard q) (sym e) guard)
of_k a q (inl e) (inr s) = ap (λ z. z.source.port) e ∙ s
of_k a q (inr j) names = absurd j

known_wire_rests : Rests forth w_out
known_wire_rests = combinational_rests wire_row refl refl (λ m g a reads stands target. stands) (λ m a q reads stands target names. subst (λ z. Rests forth z) (of_k a q stands names) (registered_rests reg_row refl refl))

w_leads_to : (c : ℕ) → LeadsToCell (part_of forth) 2 c → (c ≡ 2) ⊎ (c ≡ 1)
w_leads_to _ itself = inl refl
w_leads_to c (through m p q a leads stands target names) = inr (let e : k_out ≡ Cell c q = of_k a (Cell c q) stands names in cc)

w_stays : (zero ≡ 2) ⊎ (zero ≡ 1) → ⊥
w_stays (inl e) = cc
w_stays (inr e) = cc

w_apart : (e p : ℕ) → w_out ≡ Cell e p → LeadsToCell (part_of forth) e 0 → ⊥
w_apart e p f leads = let second : e ≡ 2 = cc in w_stays (w_leads_to 0 (subst (λ n. LeadsToCell (part_of forth) n 0) second leads))

pub known_fed_forth : (at : Place) (name : List ℕ) → BreaksInvoke forth here at name → ⊥
known_fed_forth at name =
    spared forth (invoke_with (x_is w_out ∷ [])) at name refl
    (sound forth w_out (child (main_with (invoke_with (x_is w_out ∷ []) ∷ []) [] (w_in k_out ∷ []) its_control)) refl refl known_wire_rests w_apart)

-- static invoke d(x = 32'd3)(): d is of a component that is not static
abbrev of_another : PlainInvoke
of_another = record { cell = 4; written = true; length = None; latency = None; inputs = assign (Cell 4 1) (number 3) 19 ∷ []; captures = None }

pub known_another_kind : BreaksInvoke (caller of_another [] []) here (place 7 1) (codes "d")
known_another_kind = (0, of_another, refl, refl, another_kind refl, (refl, refl))

-- c.x = 32'd1 in a group, and the same of d
abbrev in_group : PortRef → Owned
in_group target = record { owner = Some 0; assign = assign target (number 1) 11 }

pub known_static_cell : BreaksStaticCell (feeding (number 3) [] []) (in_group c_x) (place 5 11) (codes "c.x")
known_static_cell = (refl, (refl, refl))

pub known_dynamic_cell : (at : Place) (name : List ℕ) → BreaksStaticCell (feeding (number 3) [] []) (in_group (Cell 4 1)) at name → ⊥
known_dynamic_cell at name b = let none : false ≡ true = b.0 in cc

-- LENGTHS. Of an invoke: two cycles, and one more where k takes y; an invoke of d has none, also where k takes its output, and there is no
-- second one
abbrev capturing : PlainInvoke
capturing = record { cell = 0; written = true; length = None; latency = Some 2; inputs = x_is (number 4) ∷ []; captures = Some 0 }

pub known_lengths : (invoke_length (Some bare) ≡ 2) × (invoke_length (Some capturing) ≡ 3) × (invoke_length None ≡ 0)
known_lengths = (refl, refl, refl)

pub known_no_lengths : (invoke_length (Some of_another) ≡ 0) × (invoke_length (Some (record of_another { captures = Some 0 })) ≡ 0)
known_no_lengths = (refl, refl)

-- k.in = c.y; k.write_en = 1'd1
abbrev k_takes_y : PlainGroup
k_takes_y = timed_group 1 (assign (Cell 1 0) c_y 30 ∷ assign (Cell 1 1) (one_bit 1) 30 ∷ [])

-- static seq { static invoke c(x = 32'd3)(); static invoke c(x = 32'd4)(y = k.in); }
abbrev two_invokes : PlainStatement
two_invokes = st (StaticSeq None (statements_of (st (Timed 0) ∷ st (Timed 1) ∷ [])))

abbrev two_of_c : PlainDesign
two_of_c = main_with (invoke_with (x_is (number 3) ∷ []) ∷ capturing ∷ []) (k_takes_y ∷ []) [] two_invokes

-- one behind the other, beside each other, and four turns of the first
pub known_two_lasts : lasts (part_of (component_of two_of_c 0)) two_invokes ≡ 5
known_two_lasts = refl

pub known_beside_lasts : lasts (part_of (component_of two_of_c 0)) (st (StaticPar None (statements_of (st (Timed 0) ∷ st (Timed 1) ∷ [])))) ≡ 3
known_beside_lasts = refl

pub known_turns_last : lasts (part_of (component_of two_of_c 0)) (st (StaticRepeat None 4 (st (Timed 0)))) ≡ 8
known_turns_last = refl

-- static<n> invoke c(x = 32'd4)(y = k.in)
abbrev lasting : ℕ → PlainInvoke
lasting n = record capturing { length = Some n }

pub known_wrong_length : BreaksInvokeLength (caller (lasting 2) (k_takes_y ∷ []) []) here (place 7 1) []
known_wrong_length = (0, lasting 2, refl, refl, refl, inl (2, refl, λ e. absurd (cc)), (refl, refl))

abbrev IsOff : PlainInvoke → Type 0
IsOff w = ((n : ℕ) × (w.length ≡ Some n) × (n ≢ invoke_length (Some w))) ⊎ (invoke_length (Some w) ≡ 0)

three_it_is : IsOff (lasting 3) → ⊥
three_it_is (inl b) = b.2 (let e : Some 3 ≡ Some b.0 = b.1 in let same : b.0 ≡ 3 = cc in same)
three_it_is (inr e) = cc

pub known_right_length : (at : Place) (name : List ℕ) → BreaksInvokeLength (caller (lasting 3) (k_takes_y ∷ []) []) here at name → ⊥
known_right_length at name b =
    let part = part_of (caller (lasting 3) (k_takes_y ∷ []) []) in
    let k = b.0 in
    let w = b.1 in
    let form : Timed 0 ≡ Timed k = b.2 in
    let first : 0 ≡ k = cc in
    let stands : Some (lasting 3) ≡ Some w = subst (λ n. invoke_at part n ≡ Some w) (sym first) b.3 in
    let same : w ≡ lasting 3 = cc in
    three_it_is (subst IsOff same b.5)

-- static<9> invoke d(x = 32'd3)() has no length that it could miss
abbrev lasting_of_another : PlainInvoke
lasting_of_another = record of_another { length = Some 9 }

pub known_no_length : (at : Place) (name : List ℕ) → BreaksInvokeLength (caller lasting_of_another [] []) here at name → ⊥
known_no_length at name b =
    let part = part_of (caller lasting_of_another [] []) in
    let k = b.0 in
    let w = b.1 in
    let form : Timed 0 ≡ Timed k = b.2 in
    let first : 0 ≡ k = cc in
    let stands : Some lasting_of_another ≡ Some w = subst (λ n. invoke_at part n ≡ Some w) (sym first) b.3 in
    let same : w ≡ lasting_of_another = cc in
    let none : false ≡ true = subst (λ z. is_timed (Some z) ≡ true) same b.4 in
    cc

-- CONTROL OF A STATIC COMPONENT, which stands second in a design
abbrev second : PlainComponent → PlainDesign
second part = record { components = dy ∷ part ∷ []; main = 0 }

abbrev second_itself : Spot
second_itself = record { component = 1; part = Itself 0 }

-- static<3>, and p and q take two cycles
pub known_wrong_latency : BreaksPartLength (second (static_part 3 [] both)) second_itself (place 9 1) (codes "sq")
known_wrong_latency = record { within = omega arith; is = refl; latency = 3; static = refl; control = inr (refl, λ e. absurd (cc)); tells = (refl, refl) }

-- seq { p; q; }, and no control
pub known_dynamic_control : IsWrongControl (static_part 2 [] (seq (enable 0 ∷ enable 1 ∷ []))) 2
known_dynamic_control = inl refl

pub known_no_control : IsWrongControl (static_part 2 [] (st Empty)) 2
known_no_control = inl refl

-- sq is right, and so is static<1> with p alone
two_it_is : IsWrongControl sq 2 → ⊥
two_it_is (inl e) = cc
two_it_is (inr b) = b.1 refl

pub known_right_latency : (at : Place) (name : List ℕ) → BreaksPartLength (second sq) second_itself at name → ⊥
known_right_latency at name b = let static : Some 2 ≡ Some b.latency = b.static in let same : b.latency ≡ 2 = cc in two_it_is (subst (λ n. IsWrongControl sq n) same b.control)

pub known_one_group : IsWrongControl (static_part 1 [] (enable 0)) 1 → ⊥
known_one_group (inl e) = cc
known_one_group (inr b) = b.1 refl

-- a component of this latency whose control is one invoke of c: it lasts a cycle longer where k takes y, and wants the word static
abbrev outer : PlainInvoke → PlainComponent
outer invoke = record (part_of (caller invoke (k_takes_y ∷ []) [])) { latency = Some 2 }

pub known_capture_is_too_long : IsWrongControl (outer capturing) 2
known_capture_is_too_long = inr (refl, λ e. absurd (cc))

pub known_without_the_word : IsWrongControl (outer (record bare { written = false })) 2
known_without_the_word = inl refl

pub known_with_the_word : IsWrongControl (outer bare) 2 → ⊥
known_with_the_word (inl e) = cc
known_with_the_word (inr b) = b.1 refl

-- CONTINUOUS ASSIGNMENTS OF A STATIC COMPONENT. v.in = x breaks the rule in sq
abbrev v_in : PortRef → PlainAssign
v_in source = assign (Cell 2 0) source 8

abbrev always_of : PlainAssign → Owned
always_of a = record { owner = None; assign = a }

pub known_kept : BreaksKept (component_of (second sq) 1) (always_of (v_in (Input 0))) (place 5 8) (codes "v.in")
known_kept = (2, refl, refl, (0, inr refl), (refl, refl))

-- v.in = x ? 32'd1
pub known_kept_guard : BreaksKept (component_of (second sq) 1) (always_of (guarded (Cell 2 0) (Atom (placed (Input 0))) (number 1) 8)) (place 5 8) (codes "v.in")
known_kept_guard = (2, refl, refl, (0, inl refl), (refl, refl))

-- v.in = r.out does not, nor does v.in = x in a group, nor in a component that is not static
not_r : (n : ℕ) → AssignNames (v_in (Cell 0 2)) (Input n) → ⊥
not_r n (inl guard) = guard
not_r n (inr e) = cc

pub known_kept_state : (at : Place) (name : List ℕ) → BreaksKept (component_of (second sq) 1) (always_of (v_in (Cell 0 2))) at name → ⊥
known_kept_state at name b = not_r b.3.0 b.3.1

pub known_kept_group : (at : Place) (name : List ℕ) → BreaksKept (component_of (second sq) 1) (record { owner = Some 0; assign = v_in (Input 0) }) at name → ⊥
known_kept_group at name b = let none : Some zero ≡ None = b.2 in cc

pub known_kept_dynamic : (at : Place) (name : List ℕ) → BreaksKept (component_of (second sq) 0) (always_of (v_in (Input 0))) at name → ⊥
known_kept_dynamic at name b = let none : None ≡ Some b.0 = b.1 in cc

-- COUNTS of a static component whose control is static invoke c(x = 32'd4)(y = k.in), for a component with a cell of it: 8 cells, of which 4
-- are those of c (r, the adder, v and a wire for y); 1 continuous assignment, of c; the group that takes y, 3 with its assignments, and copies
-- of p and q, 8 with theirs; the 3 statements of sq, and 2 more that capture; 2 occurrences and 1
abbrev calls_c : Instance
calls_c = caller capturing (k_takes_y ∷ []) []

pub known_inner_caller : inner (outer capturing) (inners_of (cells_of calls_c)) ≡ record { cells = 8; always = 1; groups = 3; copies = 11; statements = 5; occurrences = 3 }
known_inner_caller = refl

-- static seq { p; p; }: copies of p, once for an invoke, and of no group that control does not enable
pub known_inner_needed : inner (static_part 2 (y_is_r ∷ []) (st (StaticSeq None (statements_of (enable 0 ∷ enable 0 ∷ []))))) []
    ≡ record { cells = 4; always = 1; groups = 1; copies = 3; statements = 3; occurrences = 2 }
known_inner_needed = refl

-- of a caller with two invokes: seq { static invoke c(x = 32'd3)(); static invoke c(x = 32'd4)(y = k.in); }
abbrev calling : List PlainInvoke → PlainComponent
calling invokes = part_of (component_of (main_with invokes (k_takes_y ∷ []) [] (seq (st (Timed 0) ∷ st (Timed 1) ∷ []))) 0)

abbrev beside_sq : PlainComponent → Instance
beside_sq part = component_of (record { components = part ∷ sq ∷ dy ∷ []; main = 0 }) 0

abbrev twice_c : Instance
twice_c = beside_sq (calling (invoke_with (x_is (number 3) ∷ []) ∷ capturing ∷ []))

-- c counts four cells, and k, w, a and d are four more. Each invoke has copies of p and q
pub known_twice_counted : (counted_cells twice_c ≡ 8) × (counted_groups twice_c ≡ 5)
known_twice_counted = (refl, refl)

-- 8 cells; 3 for the group that captures, and 8 for p and q with their assignments, twice; 1 continuous assignment of c;
-- 9 statements (the seq, the 3 of sq, and these with 2 more that capture); 2 occurrences, and 2 with 1 more
pub known_twice_size : counted_size twice_c ≡ 42
known_twice_size = refl

-- the second invoke is of another cell e = sq(): 4 cells and 1 continuous assignment more, and as many copies
abbrev one_each : Instance
one_each =
    beside_sq (record (calling (invoke_with (x_is (number 3) ∷ []) ∷ record capturing { cell = 5; inputs = assign (Cell 5 1) (number 4) 19 ∷ [] } ∷ []))
    { cells = main_cells ++ (child_cell 1 ∷ []) })

pub known_one_each_size : (counted_cells one_each ≡ 12) × (counted_groups one_each ≡ 5) × (counted_size one_each ≡ 47)
known_one_each_size = (refl, refl, refl)

-- static invoke d(..)(), twice: 8 cells, for c is there though nothing runs it; 3 for the group; 1 continuous assignment of c; a seq and
-- two statements. No copies, and no occurrences
pub known_uncalled_size : counted_size (beside_sq (calling (of_another ∷ of_another ∷ []))) ≡ 15
known_uncalled_size = refl
