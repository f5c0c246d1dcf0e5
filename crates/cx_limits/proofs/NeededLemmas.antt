-- Flags of groups: those that are set are the groups that control needs.
use Rattle.std.proofs.Common.{◌≡◌, ℕ, zero, suc, ◌+◌, ◌<◌, nat_eq, Bool, true, false, ◌||◌, inl, inr, ◌⊎◌, ⊎_elim, List, [], ◌∷◌, ◌++◌, Option, Some, None, option_map, length, set, replicate, refl, sym, ap, ◌∙◌, subst, arith}
use Rattle.std.specs.Prelude.{slice_get}
use Rattle.std.proofs.Math.Logic.{∥∥₁_elim}
use denote.Struct.Props.{props}
use Rattle.std.proofs.lemmas.Bool.{eq-eqb, eqb-true, false_from_ne_true}
use Rattle.cx_text.proofs.MemberLaws.{in_either, in_left, in_right}
use Rattle.cx_meaning.specs.Designs.{PlainGroup, PlainInvoke, PlainComponent, PlainDesign, component_at}
use Rattle.cx_text.specs.Members.{In}
use Rattle.cx_meaning.specs.Control.{groups_of}
use Rattle.cx_text.proofs.ListLaws.{there_below}
use Rattle.cx_rules.specs.Items.{option_list}
use Rattle.cx_rules.specs.Invokes.{invoke_at, invokes_of, capture_of, captures_of}
use Rattle.cx_rules.specs.Counts.{is_one_of, group_if, needed, needed_from, needed_groups}
use Rattle.cx_rules.specs.Wellformed.{IsDesign}
use Rattle.cx_limits.specs.Inners.{set_all, captures_by, flagged, needs_of}
use Rattle.cx_text.proofs.BoolLaws.{bools_same, or_assoc, or_either, or_left, or_right}

-- FLAGS
pub set_past : (flags : List Bool) (g : ℕ) → length flags < suc g → set flags g true ≡ flags
set_past [] g h = refl
set_past (b ∷ bs) zero h = absurd (omega arith)
set_past (b ∷ bs) (suc g) h = ap (λ xs. b ∷ xs) (set_past bs g (let k : suc (length bs) < suc (suc g) = h in omega arith))

pub set_all_append : (flags : List Bool) (gs hs : List ℕ) → set_all flags (gs ++ hs) ≡ set_all (set_all flags gs) hs
set_all_append flags [] hs = refl
set_all_append flags (g ∷ gs) hs = set_all_append (set flags g true) gs hs

or_true : (b : Bool) → (b || true) ≡ true
or_true true = refl
or_true false = refl

or_false : (b : Bool) → (b || false) ≡ b
or_false true = refl
or_false false = refl

with_false : (o : Option Bool) → option_map (λ b. b || false) o ≡ o
with_false None = refl
with_false (Some b) = ap Some (or_false b)

with_both : (a c : Bool) (o : Option Bool) → option_map (λ b. b || c) (option_map (λ b. b || a) o) ≡ option_map (λ b. b || (a || c)) o
with_both a c None = refl
with_both a c (Some b) = ap Some (or_assoc b a c)

differs : (m n : ℕ) → (m ≡ n → ⊥) → nat_eq m n ≡ false
differs m n h = false_from_ne_true (nat_eq m n) (λ e. h (eqb-true m n e))

suc_eq : (m n : ℕ) → nat_eq m n ≡ nat_eq (suc m) (suc n)
suc_eq m n =
    bools_same (nat_eq m n) (nat_eq (suc m) (suc n)) (λ e. eq-eqb (suc m) (suc n) (ap suc (eqb-true m n e)))
    (λ e. eq-eqb m n (let f : suc m ≡ suc n = eqb-true (suc m) (suc n) e in omega arith))

set_flag : (flags : List Bool) (g h : ℕ) → slice_get (set flags g true) h ≡ option_map (λ b. b || nat_eq h g) (slice_get flags h)
set_flag [] g h = refl
set_flag (b ∷ bs) zero zero = ap Some (sym (or_true b))
set_flag (b ∷ bs) zero (suc h) =
    sym (with_false (slice_get bs h)) ∙ ap (λ x. option_map (λ c. c || x) (slice_get bs h)) (sym (differs (suc h) zero (λ e. absurd (let f : suc h ≡ zero = e in omega arith))))
set_flag (b ∷ bs) (suc g) zero = ap Some (sym (or_false b)) ∙ ap (λ x. Some (b || x)) (sym (differs zero (suc g) (λ e. absurd (let f : zero ≡ suc g = e in omega arith))))
set_flag (b ∷ bs) (suc g) (suc h) = set_flag bs g h ∙ ap (λ x. option_map (λ c. c || x) (slice_get bs h)) (suc_eq h g)

flags_are : (flags : List Bool) (gs : List ℕ) (h : ℕ) → slice_get (set_all flags gs) h ≡ option_map (λ b. b || is_one_of h gs) (slice_get flags h)
flags_are flags [] h = sym (with_false (slice_get flags h))
flags_are flags (g ∷ gs) h =
    flags_are (set flags g true) gs h ∙ ap (option_map (λ b. b || is_one_of h gs)) (set_flag flags g h) ∙ with_both (nat_eq h g) (is_one_of h gs) (slice_get flags h)

no_flags : (n h : ℕ) → h < n → slice_get (replicate n false) h ≡ Some false
no_flags zero h lt = absurd (omega arith)
no_flags (suc n) zero lt = refl
no_flags (suc n) (suc h) lt = no_flags n h (let k : suc h < suc n = lt in omega arith)

flagged_needed : (gs : List ℕ) (flags : List Bool) (g : ℕ) (groups : List PlainGroup) → ((h : ℕ) → h < length groups → slice_get flags h ≡ Some (is_one_of (g + h) gs))
    → flagged flags groups ≡ needed_from gs g groups
flagged_needed gs [] g [] is = refl
flagged_needed gs (b ∷ bs) g [] is = refl
flagged_needed gs [] g (x ∷ xs) is = absurd (let e : None ≡ Some (is_one_of (g + zero) gs) = is zero (omega arith) in cc)
flagged_needed gs (b ∷ bs) g (x ∷ xs) is =
    ap (λ c. group_if c x (flagged bs xs)) (own (is zero (omega arith)) ∙ ap (λ n. is_one_of n gs) (let z : g + zero ≡ g = omega arith in z))
    ∙ ap (group_if (is_one_of g gs) x)
    (flagged_needed gs bs (1 + g) xs (λ h lt. is (suc h) (omega arith) ∙ ap (λ n. Some (is_one_of n gs)) (let z : g + suc h ≡ 1 + g + h = omega arith in z)))
  where
    own : Some b ≡ Some (is_one_of (g + zero) gs) → b ≡ is_one_of (g + zero) gs
    own e = cc

-- MEMBERS
one_of_append : (h : ℕ) (gs hs : List ℕ) → is_one_of h (gs ++ hs) ≡ (is_one_of h gs || is_one_of h hs)
one_of_append h [] hs = refl
one_of_append h (g ∷ gs) hs = ap (λ b. nat_eq h g || b) (one_of_append h gs hs) ∙ sym (or_assoc (nat_eq h g) (is_one_of h gs) (is_one_of h hs))

one_of : (h : ℕ) (gs : List ℕ) → In gs h → is_one_of h gs ≡ true
one_of h [] i = absurd i
one_of h (g ∷ gs) (inl e) = or_left (nat_eq h g) (is_one_of h gs) (eq-eqb h g (sym e))
one_of h (g ∷ gs) (inr i) = or_right (nat_eq h g) (is_one_of h gs) (one_of h gs i)

one_in : (h : ℕ) (gs : List ℕ) → is_one_of h gs ≡ true → In gs h
one_in h [] e = absurd (let f : false ≡ true = e in cc)
one_in h (g ∷ gs) e = ⊎_elim (λ same. inl (sym (eqb-true h g same))) (λ rest. inr (one_in h gs rest)) (or_either (nat_eq h g) (is_one_of h gs) e)

-- THE GROUPS that capture
abbrev Captures : List PlainInvoke → ℕ → Type 0
Captures vs h = (k : ℕ) × (v : PlainInvoke) × (slice_get vs k ≡ Some v) × (v.captures ≡ Some h)

option_in : (o : Option ℕ) (h : ℕ) → In (option_list o) h → o ≡ Some h
option_in None h i = absurd i
option_in (Some g) h (inl e) = ap Some e
option_in (Some g) h (inr i) = absurd i

in_option : (o : Option ℕ) (h : ℕ) → o ≡ Some h → In (option_list o) h
in_option o h e = subst (λ x. In (option_list x) h) (sym e) (inl refl)

by_in : (vs : List PlainInvoke) (h : ℕ) → In (captures_by vs) h → Captures vs h
by_in [] h i = absurd i
by_in (v ∷ vs) h i =
    ⊎_elim (λ own. (zero, v, refl, option_in v.captures h own)) (λ rest. let r = by_in vs h rest in (suc r.0, r.1, r.2, r.3)) (in_either (option_list v.captures) (captures_by vs) h i)

in_by : (vs : List PlainInvoke) (k h : ℕ) (v : PlainInvoke) → slice_get vs k ≡ Some v → v.captures ≡ Some h → In (captures_by vs) h
in_by [] k h v e c = absurd cc
in_by (w ∷ vs) zero h v e c = in_left (option_list w.captures) (captures_by vs) h (in_option w.captures h (ap (λ (x : PlainInvoke). x.captures) (let f : w ≡ v = cc in f) ∙ c))
in_by (w ∷ vs) (suc k) h v e c = in_right (option_list w.captures) (captures_by vs) h (in_by vs k h v e c)

capture_in : (o : Option PlainInvoke) (h : ℕ) → In (capture_of o) h → (v : PlainInvoke) × (o ≡ Some v) × (v.captures ≡ Some h)
capture_in None h i = absurd i
capture_in (Some v) h i = (v, refl, option_in v.captures h i)

of_in : (part : PlainComponent) (ks : List ℕ) (h : ℕ) → In (captures_of part ks) h → Captures part.invokes h
of_in part [] h i = absurd i
of_in part (k ∷ ks) h i =
    ⊎_elim (λ own. let r = capture_in (invoke_at part k) h own in (k, r.0, r.1, r.2)) (λ rest. of_in part ks h rest) (in_either (capture_of (invoke_at part k)) (captures_of part ks) h i)

in_of : (part : PlainComponent) (ks : List ℕ) (k h : ℕ) (v : PlainInvoke) → In ks k → slice_get part.invokes k ≡ Some v → v.captures ≡ Some h → In (captures_of part ks) h
in_of part [] k h v i e c = absurd i
in_of part (j ∷ ks) k h v (inl same) e c =
    in_left (capture_of (invoke_at part j)) (captures_of part ks) h (subst (λ o. In (capture_of o) h) (sym (ap (invoke_at part) same ∙ e)) (in_option v.captures h c))
in_of part (j ∷ ks) k h v (inr i) e c = in_right (capture_of (invoke_at part j)) (captures_of part ks) h (in_of part ks k h v i e c)

-- THE NEEDED GROUPS, where each invoke stands in control
same_captures : (part : PlainComponent) → ((n : ℕ) → n < length part.invokes → In (invokes_of part.control) n) → (h : ℕ)
    → is_one_of h (captures_by part.invokes) ≡ is_one_of h (captures_of part (invokes_of part.control))
same_captures part invoked h =
    bools_same (is_one_of h (captures_by part.invokes)) (is_one_of h (captures_of part (invokes_of part.control)))
    (λ e. let r = by_in part.invokes h (one_in h (captures_by part.invokes) e) in
    one_of h (captures_of part (invokes_of part.control)) (in_of part (invokes_of part.control) r.0 h r.1 (invoked r.0 (there_below part.invokes r.0 r.1 r.2)) r.2 r.3))
    (λ e. let r = of_in part (invokes_of part.control) h (one_in h (captures_of part (invokes_of part.control)) e) in
    one_of h (captures_by part.invokes) (in_by part.invokes r.0 h r.1 r.2 r.3))

flag_at : (part : PlainComponent) → ((n : ℕ) → n < length part.invokes → In (invokes_of part.control) n) → (h : ℕ) → h < length part.groups
    → slice_get (set_all (set_all (replicate (length part.groups) false) (groups_of part.control)) (captures_by part.invokes)) h ≡ Some (is_one_of (zero + h) (needed part))
flag_at part invoked h lt =
    let enabled = groups_of part.control in
    let captured = captures_of part (invokes_of part.control) in
    let bare = replicate (length part.groups) false in
    flags_are (set_all bare enabled) (captures_by part.invokes) h
    ∙ ap (option_map (λ b. b || is_one_of h (captures_by part.invokes))) (flags_are bare enabled h)
    ∙ ap (λ o. option_map (λ b. b || is_one_of h (captures_by part.invokes)) (option_map (λ b. b || is_one_of h enabled) o)) (no_flags (length part.groups) h lt)
    ∙ ap (λ b. Some (is_one_of h enabled || b)) (same_captures part invoked h)
    ∙ ap Some (sym (one_of_append h enabled captured))
    ∙ ap (λ n. Some (is_one_of n (needed part))) (let z : h ≡ zero + h = omega arith in z)

pub needs_are : (part : PlainComponent) → ((n : ℕ) → n < length part.invokes → In (invokes_of part.control) n) → needs_of part ≡ needed_groups part
needs_are part invoked =
    flagged_needed (needed part) (set_all (set_all (replicate (length part.groups) false) (groups_of part.control)) (captures_by part.invokes)) zero part.groups
    (flag_at part invoked)

-- as in each component of a design
pub needs_at : (d : PlainDesign) (k : ℕ) → ∥ IsDesign d ∥₁ → k < length d.components → needs_of (component_at d k) ≡ needed_groups (component_at d k)
needs_at d k keeps lt =
    needs_are (component_at d k)
    (λ n less. one_in n (invokes_of (component_at d k).control)
    (∥∥₁_elim keeps (hlevel props) (λ h. one_of n (invokes_of (component_at d k).control) ((h.components k lt).invoked n less))))
