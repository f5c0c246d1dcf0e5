-- What gives a net its value.
use Rattle.std.proofs.Common.{◌≡◌, ◌⊎◌, ℕ, zero, suc, ◌+◌, ◌==◌, List, [], ◌∷◌, ◌++◌, Bool, true, false, ◌||◌, map, Option, Some, None, slice_get, refl, ap, sym, ◌∙◌, subst, inl, inr, if◌then◌else◌, arith}
use Rattle.std.specs.Option.{option_map_or}
use Rattle.std.proofs.lemmas.Bool.{or_parts, or_left, or_right, eq-eqb, eqb-true, cond-true, cond-false}
use Rattle.cx_vtree.specs.declared.meanings.Meaning.{Meaning}
use Rattle.cx_vtree.specs.declared.meanings.Meaning.TheVariants as meant
use Rattle.cx_vtree.specs.Plain.{PlainExpr, PlainPort, PlainDecl, WireOf, RegisterOf, ArrayOf, PlainAssign}
use Rattle.cx_vtree.specs.InstanceTree.{same_name, Placed, declared_nets, NetKind, Input, Driven, Stored, declared_kind, kind_in, Origin, Tied, assigned, output_to, driving_output}
use Rattle.cx_vtree.specs.Sound.{has_name, decl_name, decl_meaning, port_meaning, meant_in, width_of, is_source, is_driven}
use Rattle.cx_vlaws.proofs.Fresh.{has_each, has_left, has_right, Fresh}
use Rattle.cx_vlaws.proofs.Scopes.{port_names, other_than, port_at_has, Declared, as_port, as_decl, as_nothing, declared_by}
use Rattle.cx_vtree.proofs.InstanceTreeLemmas.{same_is, is_same}

-- the search for an output that is connected to a net
pub driving_some : (tree : List Placed) (number i : ℕ) (net : List ℕ) (k : ℕ) (p : Placed) (port : List ℕ) → slice_get tree k ≡ Some p → p.holder ≡ i → output_to p.part.ports p.conns net ≡ Some port
    → (o : Origin) × (driving_output tree number i net ≡ Some o)
driving_some [] number i net k p port e around out = absurd (cc)
driving_some (q ∷ tree) number i net zero p port e around out =
    let same : q ≡ p = cc in
    let holds : (q.holder == i) ≡ true = eq-eqb q.holder i (ap (λ (y : Placed). y.holder) same ∙ around) in
    let found : output_to q.part.ports q.conns net ≡ Some port = ap (λ (y : Placed). output_to y.part.ports y.conns net) same ∙ out in (
      Tied number port,
      ap (λ b. option_map_or (λ x. Some (Tied number x)) (if b then output_to q.part.ports q.conns net else None) (driving_output tree (number + 1) i net)) holds
          ∙ ap (λ o. option_map_or (λ x. Some (Tied number x)) o (driving_output tree (number + 1) i net)) found,
    )
driving_some (q ∷ tree) number i net (suc k) p port e around out = go (if q.holder == i then output_to q.part.ports q.conns net else None) (driving_some tree (number + 1) i net k p port e around out) where
  go : (here : Option (List ℕ)) → ((o : Origin) × (driving_output tree (number + 1) i net ≡ Some o)) → (o : Origin) × (option_map_or (λ x. Some (Tied number x)) here (driving_output tree (number + 1) i net) ≡ Some o)
  go None later = later
  go (Some x) later = (Tied number x, refl)

pub record IsDriving (tree : List Placed) (number i : ℕ) (net : List ℕ) (o : Origin) : Type 0 where
  pub k : ℕ
  pub p : Placed
  pub port : List ℕ
  pub at : slice_get tree k ≡ Some p
  pub around : p.holder ≡ i
  pub out : output_to p.part.ports p.conns net ≡ Some port
  pub is : o ≡ Tied (number + k) port

pub driving_found : (tree : List Placed) (number i : ℕ) (net : List ℕ) (o : Origin) → driving_output tree number i net ≡ Some o → IsDriving tree number i net o
driving_found [] number i net o e = absurd (cc)
driving_found (q ∷ tree) number i net o e = go (q.holder == i) (output_to q.part.ports q.conns net) refl refl e (driving_found tree (number + 1) i net o) where
  next : IsDriving tree (number + 1) i net o → IsDriving (q ∷ tree) number i net o
  next d = let same : number + 1 + d.k ≡ number + suc d.k = omega arith in
      record { k = suc d.k; p = d.p; port = d.port; at = d.at; around = d.around; out = d.out; is = d.is ∙ ap (λ n. Tied n d.port) same }

  go : (holds : Bool) (found : Option (List ℕ)) → (q.holder == i) ≡ holds → output_to q.part.ports q.conns net ≡ found
      → option_map_or (λ x. Some (Tied number x)) (if holds then found else None) (driving_output tree (number + 1) i net) ≡ Some o
      → (driving_output tree (number + 1) i net ≡ Some o → IsDriving tree (number + 1) i net o) → IsDriving (q ∷ tree) number i net o
  go true (Some x) holds found is later =
      let same : number ≡ number + 0 = omega arith in
      let origin : o ≡ Tied number x = cc in
      record { k = zero; p = q; port = x; at = refl; around = eqb-true q.holder i holds; out = found; is = origin ∙ ap (λ n. Tied n x) same }
  go true None holds found is later = next (later is)
  go false found' holds found is later = next (later is)

-- the expression that is assigned to a net
pub assigned_found : (xs : List PlainAssign) (n : List ℕ) (e : PlainExpr) → assigned xs n ≡ Some e → (k : ℕ) × (a : PlainAssign) × (slice_get xs k ≡ Some a) × (a.name ≡ n) × (a.value ≡ e)
assigned_found [] n e h = absurd (cc)
assigned_found (x ∷ xs) n e h = go (same_name x.name n) refl (assigned_found xs n e) where
  go : (same : Bool) → same_name x.name n ≡ same → (assigned xs n ≡ Some e → (k : ℕ) × (a : PlainAssign) × (slice_get xs k ≡ Some a) × (a.name ≡ n) × (a.value ≡ e))
      → (k : ℕ) × (a : PlainAssign) × (slice_get (x ∷ xs) k ≡ Some a) × (a.name ≡ n) × (a.value ≡ e)
  go true is later =
      let same : Some x.value ≡ Some e = sym (cond-true (same_name x.name n) (Some x.value) (assigned xs n) is) ∙ h in (zero, x, refl, same_is x.name n is, cc)
  go false is later =
      let (k, a, at, named, value) = later (sym (cond-false (same_name x.name n) (Some x.value) (assigned xs n) is) ∙ h) in (suc k, a, at, named, value)

pub assigned_none : (xs : List PlainAssign) (n : List ℕ) → assigned xs n ≡ None → has_name (map (λ a. a.name) xs) n ≡ false
assigned_none [] n h = refl
assigned_none (x ∷ xs) n h = go (same_name x.name n) refl (assigned_none xs n) where
  go : (same : Bool) → same_name x.name n ≡ same → (assigned xs n ≡ None → has_name (map (λ a. a.name) xs) n ≡ false) → (same_name x.name n || has_name (map (λ a. a.name) xs) n) ≡ false
  go true is later = absurd (let some = sym (cond-true (same_name x.name n) (Some x.value) (assigned xs n) is) ∙ h in cc)
  go false is later = ap (λ b. b || has_name (map (λ a. a.name) xs) n) is ∙ later (sym (cond-false (same_name x.name n) (Some x.value) (assigned xs n) is) ∙ h)

pub none-assigned : (xs : List PlainAssign) (n : List ℕ) → has_name (map (λ a. a.name) xs) n ≡ false → assigned xs n ≡ None
none-assigned [] n h = refl
none-assigned (x ∷ xs) n h =
    let ends = or_parts (same_name x.name n) (has_name (map (λ a. a.name) xs) n) h in
    cond-false (same_name x.name n) (Some x.value) (assigned xs n) ends.0 ∙ none-assigned xs n ends.1

pub assigned-at : (earlier : List (List ℕ)) (xs : List PlainAssign) → Fresh earlier (map (λ a. a.name) xs) → (k : ℕ) (a : PlainAssign) → slice_get xs k ≡ Some a → assigned xs a.name ≡ Some a.value
assigned-at earlier [] f k a e = absurd (cc)
assigned-at earlier (x ∷ xs) f zero a e =
    let same : x ≡ a = cc in
    cond-true (same_name x.name a.name) (Some x.value) (assigned xs a.name) (is_same x.name a.name (ap (λ (y : PlainAssign). y.name) same)) ∙ ap (λ (y : PlainAssign). Some y.value) same
assigned-at earlier (x ∷ xs) f (suc k) a e =
    cond-false (same_name x.name a.name) (Some x.value) (assigned xs a.name) (other_than earlier (map (λ a. a.name) xs) x.name a.name f.1 (has_each (λ (y : PlainAssign). y.name) xs k a e)) ∙ assigned-at (earlier ++ x.name ∷ []) xs f.1 k a e

-- a net has a kind
abbrev HasKind : Option NetKind → Type 0
HasKind o = (kind : NetKind) × (o ≡ Some kind)

kind_choice : (same nets : Bool) (here : NetKind) (later : Option NetKind) → (nets ≡ true → HasKind later) → (same || nets) ≡ true → HasKind (if same then Some here else later)
kind_choice true nets here later h e = (here, refl)
kind_choice false nets here later h e = h e

declared_has : (ds : List PlainDecl) (n : List ℕ) → has_name (declared_nets ds) n ≡ true → HasKind (declared_kind ds n)
declared_has [] n e = absurd (cc)
declared_has (WireOf x w ∷ ds) n e = kind_choice (same_name x n) (has_name (declared_nets ds) n) Driven (declared_kind ds n) (declared_has ds n) e
declared_has (RegisterOf x w ∷ ds) n e = kind_choice (same_name x n) (has_name (declared_nets ds) n) (Stored w) (declared_kind ds n) (declared_has ds n) e
declared_has (ArrayOf x w k ∷ ds) n e = declared_has ds n e

pub net_has : (ps : List PlainPort) (ds : List PlainDecl) (n : List ℕ) → has_name (port_names ps ++ declared_nets ds) n ≡ true → HasKind (kind_in ps ds n)
net_has [] ds n e = declared_has ds n e
net_has (p ∷ ps) ds n e = kind_choice (same_name p.name n) (has_name (port_names ps ++ declared_nets ds) n) (if p.output then Driven else Input) (kind_in ps ds n) (net_has ps ds n) e

-- what reads or drives a net names one
decl_net : (ds : List PlainDecl) (k : ℕ) (d : PlainDecl) → slice_get ds k ≡ Some d → (decl_meaning d ≡ meant.Wire (width_of (decl_meaning d))) ⊎ (decl_meaning d ≡ meant.Register (width_of (decl_meaning d))) → has_name (declared_nets ds) (decl_name d) ≡ true
decl_net [] k d e h = absurd (cc)
decl_net (x ∷ ds) zero d e h = let same : x ≡ d = cc in subst (λ y. has_name (declared_nets (x ∷ ds)) (decl_name y) ≡ true) same (go x (subst (λ y. (decl_meaning y ≡ meant.Wire (width_of (decl_meaning y))) ⊎ (decl_meaning y ≡ meant.Register (width_of (decl_meaning y)))) (sym same) h)) where
  go : (y : PlainDecl) → (decl_meaning y ≡ meant.Wire (width_of (decl_meaning y))) ⊎ (decl_meaning y ≡ meant.Register (width_of (decl_meaning y))) → has_name (declared_nets (y ∷ ds)) (decl_name y) ≡ true
  go (WireOf n w) m = or_left (same_name n n) (has_name (declared_nets ds) n) (is_same n n refl)
  go (RegisterOf n w) m = or_left (same_name n n) (has_name (declared_nets ds) n) (is_same n n refl)
  go (ArrayOf n w j) (inl m) = absurd (cc)
  go (ArrayOf n w j) (inr m) = absurd (cc)
decl_net (WireOf n w ∷ ds) (suc k) d e h = or_right (same_name n (decl_name d)) (has_name (declared_nets ds) (decl_name d)) (decl_net ds k d e h)
decl_net (RegisterOf n w ∷ ds) (suc k) d e h = or_right (same_name n (decl_name d)) (has_name (declared_nets ds) (decl_name d)) (decl_net ds k d e h)
decl_net (ArrayOf n w j ∷ ds) (suc k) d e h = decl_net ds k d e h

-- an input, an output, a wire or a register
abbrev pub is_net : Meaning → Bool
is_net (meant.Input w) = true
is_net (meant.Output w) = true
is_net (meant.Wire w) = true
is_net (meant.Register w) = true
is_net (meant.Array w) = false
is_net meant.Nothing = false

pub source_net : (m : Meaning) → is_source m ≡ true → is_net m ≡ true
source_net (meant.Input w) e = refl
source_net (meant.Output w) e = refl
source_net (meant.Wire w) e = refl
source_net (meant.Register w) e = refl
source_net (meant.Array w) e = e
source_net meant.Nothing e = e

decl_kind : (d : PlainDecl) → is_net (decl_meaning d) ≡ true → (decl_meaning d ≡ meant.Wire (width_of (decl_meaning d))) ⊎ (decl_meaning d ≡ meant.Register (width_of (decl_meaning d)))
decl_kind (WireOf n w) e = inl refl
decl_kind (RegisterOf n w) e = inr refl
decl_kind (ArrayOf n w k) e = absurd (cc)

pub meant_net : (ps : List PlainPort) (ds : List PlainDecl) (n : List ℕ) → is_net (meant_in ps ds n) ≡ true → has_name (port_names ps ++ declared_nets ds) n ≡ true
meant_net ps ds n e = go (declared_by ps ds n) where
  go : Declared ps ds n → has_name (port_names ps ++ declared_nets ds) n ≡ true
  go (as_port k p at named means) = has_left (port_names ps) (declared_nets ds) n (subst (λ m. has_name (port_names ps) m ≡ true) named (port_at_has ps k p at))
  go (as_decl k d at named means) =
      has_right (port_names ps) (declared_nets ds) n (subst (λ m. has_name (declared_nets ds) m ≡ true) named (decl_net ds k d at (decl_kind d (sym (ap is_net means) ∙ e))))
  go (as_nothing means) = absurd (let h = sym (ap is_net means) ∙ e in cc)

-- ports by what they mean
pub input_port : (output : Bool) (v w : ℕ) → (if output then meant.Output v else meant.Input v) ≡ meant.Input w → output ≡ false
input_port true v w e = absurd (cc)
input_port false v w e = refl

pub driven_port : (output : Bool) (v : ℕ) → is_driven (if output then meant.Output v else meant.Input v) ≡ true → output ≡ true
driven_port true v e = refl
driven_port false v e = e

pub width-port : (p : PlainPort) → width_of (port_meaning p) ≡ p.width
width-port p = go p.output where
  go : (output : Bool) → width_of (if output then meant.Output p.width else meant.Input p.width) ≡ p.width
  go true = refl
  go false = refl

pub decl_no_input : (d : PlainDecl) (w : ℕ) → decl_meaning d ≡ meant.Input w → ⊥
decl_no_input (WireOf n v) w e = cc
decl_no_input (RegisterOf n v) w e = cc
decl_no_input (ArrayOf n v k) w e = cc
