-- Widths of what names stand for.
use Rattle.std.proofs.Common.{◌≡◌, ℕ, zero, suc, ◌+◌, ◌<◌, ◌≤◌, ◌==◌, List, [], ◌∷◌, Bool, true, false, reverse, Some, slice_get, refl, ap, sym, ◌∙◌, subst, if◌then◌else◌, arith}
use Rattle.std.specs.Prelude.{nat_lt}
use Rattle.std.proofs.lemmas.Bool.{or_parts, or_left, or_right, eqb-false, ltb-false}
use Rattle.cx_vtree.specs.declared.meanings.Meaning.{Meaning}
use Rattle.cx_vtree.specs.declared.meanings.Meaning.TheVariants as meant
use Rattle.cx_vtree.specs.Plain.{PlainPort, PlainDecl, WireOf, RegisterOf, ArrayOf, PlainSource}
use Rattle.cx_vtree.specs.InstanceTree.{same_name, Placed, ports_at, decls_at, nets_at, instances_of, NetKind, declared_arrays, arrays_at}
use Rattle.cx_vtree.specs.Sound.{has_name, decl_name, decl_meaning, port_meaning, width_of, is_driven, is_array, drivers_in, bad_width, is_sound}
use Rattle.cx_vlaws.specs.Widths.{scope_at}
use Rattle.cx_vlaws.specs.Origins.{IsNet, width_at}
use Rattle.cx_vlaws.proofs.Fresh.{has_at, at_has}
use Rattle.cx_vlaws.proofs.Scopes.{port_names, meant-port, meant-decl, Declared, as_port, as_decl, as_nothing, declared_by, kind_of, kind-by_meaning}
use Rattle.cx_vlaws.proofs.Forest.{instance_keeps}
use Rattle.cx_vlaws.proofs.Parts.{port_keeps, decl_keeps}
use Rattle.cx_vlaws.proofs.Instances.{by_part, fresh_at}
use Rattle.cx_vlaws.proofs.OriginLemmas.{net_has, is_net, meant_net, width-port}
use Rattle.cx_vtree.proofs.InstanceTreeLemmas.{same_self}

pub wide : (w : ℕ) → bad_width w ≡ false → (0 < w) × (w ≤ 128)
wide w e =
    let ends = or_parts (w == 0) (nat_lt 128 w) e in
    let some : w ≡ 0 → ⊥ = eqb-false w 0 ends.0 in
    let few : w ≤ 128 = ltb-false 128 w ends.1 in
    (positive w some, few)
  where
    positive : (n : ℕ) → (n ≡ 0 → ⊥) → 0 < n
    positive zero h = absurd (h refl)
    positive (suc n) h = omega arith

-- parts of an instance
pub port-means : (source : PlainSource) → is_sound source ≡ true → (i k : ℕ) (p : PlainPort) → slice_get (ports_at (instances_of source) i) k ≡ Some p → scope_at (instances_of source) i p.name ≡ port_meaning p
port-means source sound i k p e = meant-port [] (ports_at (instances_of source) i) (decls_at (instances_of source) i) k p (fresh_at source sound i).0 e

pub decl-means : (source : PlainSource) → is_sound source ≡ true → (i k : ℕ) (d : PlainDecl) → slice_get (decls_at (instances_of source) i) k ≡ Some d → scope_at (instances_of source) i (decl_name d) ≡ decl_meaning d
decl-means source sound i k d e = meant-decl (ports_at (instances_of source) i) (decls_at (instances_of source) i) k d (fresh_at source sound i).1 e

pub port_wide : (source : PlainSource) → is_sound source ≡ true → (i k : ℕ) (p : PlainPort) → slice_get (ports_at (instances_of source) i) k ≡ Some p → (0 < p.width) × (p.width ≤ 128)
port_wide source sound i k p e = by_part (λ ps ds. slice_get ps k ≡ Some p → (0 < p.width) × (p.width ≤ 128)) (instances_of source) i (λ h. absurd (cc))
    (λ q at h.
    let a = instance_keeps source sound i q at in
    let place : k ≡ 0 + k = omega arith in
    wide p.width (port_keeps a.is_main (drivers_in (reverse a.before) q.part) [] 0 k q.part.ports a.kept.ports k p h place).width) e

pub decl_wide : (source : PlainSource) → is_sound source ≡ true → (i k : ℕ) (d : PlainDecl) → slice_get (decls_at (instances_of source) i) k ≡ Some d → (0 < width_of (decl_meaning d)) × (width_of (decl_meaning d) ≤ 128)
decl_wide source sound i k d e = by_part (λ ps ds. slice_get ds k ≡ Some d → (0 < width_of (decl_meaning d)) × (width_of (decl_meaning d) ≤ 128)) (instances_of source) i (λ h. absurd (cc))
    (λ q at h. let a = instance_keeps source sound i q at in wide (width_of (decl_meaning d)) (decl_keeps (drivers_in (reverse a.before) q.part) (port_names q.part.ports) q.part.decls a.kept.decls k d h).0) e

pub net_wide : (source : PlainSource) → is_sound source ≡ true → (i : ℕ) (n : List ℕ) → IsNet (instances_of source) i n → (0 < width_at (instances_of source) i n) × (width_at (instances_of source) i n ≤ 128)
net_wide source sound i n (k, at) =
    let tree : List Placed = instances_of source in
    let ps : List PlainPort = ports_at tree i in
    let ds : List PlainDecl = decls_at tree i in
    let some = net_has ps ds n (has_at (nets_at tree i) k n at) in
    go (declared_by ps ds n) some.0 (sym (kind-by_meaning (port_names ps) ps ds n (fresh_at source sound i).1) ∙ some.1) where
      go : Declared (ports_at (instances_of source) i) (decls_at (instances_of source) i) n → (kind : NetKind) → kind_of (scope_at (instances_of source) i n) ≡ Some kind
          → (0 < width_at (instances_of source) i n) × (width_at (instances_of source) i n ≤ 128)
      go (as_port j p there named means) kind is = subst (λ w. (0 < w) × (w ≤ 128)) (sym (ap width_of means ∙ width-port p)) (port_wide source sound i j p there)
      go (as_decl j d there named means) kind is = subst (λ w. (0 < w) × (w ≤ 128)) (sym (ap width_of means)) (decl_wide source sound i j d there)
      go (as_nothing means) kind is = absurd (let h = sym (ap kind_of means) ∙ is in cc)

-- what is meant is there
pub net_meant : (tree : List Placed) (i : ℕ) (n : List ℕ) → is_net (scope_at tree i n) ≡ true → IsNet tree i n
net_meant tree i n e = at_has (nets_at tree i) n (meant_net (ports_at tree i) (decls_at tree i) n e)

pub driven_net : (m : Meaning) → is_driven m ≡ true → is_net m ≡ true
driven_net (meant.Input w) e = refl
driven_net (meant.Output w) e = refl
driven_net (meant.Wire w) e = refl
driven_net (meant.Register w) e = refl
driven_net (meant.Array w) e = e
driven_net meant.Nothing e = e

decl_array : (ds : List PlainDecl) (k : ℕ) (d : PlainDecl) → slice_get ds k ≡ Some d → is_array (decl_meaning d) ≡ true → has_name (declared_arrays ds) (decl_name d) ≡ true
decl_array [] k d e h = absurd (cc)
decl_array (x ∷ ds) zero d e h = let same : x ≡ d = cc in subst (λ y. has_name (declared_arrays (x ∷ ds)) (decl_name y) ≡ true) same (go x (ap (λ y. is_array (decl_meaning y)) same ∙ h)) where
  go : (y : PlainDecl) → is_array (decl_meaning y) ≡ true → has_name (declared_arrays (y ∷ ds)) (decl_name y) ≡ true
  go (WireOf n w) m = absurd (cc)
  go (RegisterOf n w) m = absurd (cc)
  go (ArrayOf n w j) m = or_left (same_name n n) (has_name (declared_arrays ds) n) (same_self n)
decl_array (WireOf n w ∷ ds) (suc k) d e h = decl_array ds k d e h
decl_array (RegisterOf n w ∷ ds) (suc k) d e h = decl_array ds k d e h
decl_array (ArrayOf n w j ∷ ds) (suc k) d e h = or_right (same_name n (decl_name d)) (has_name (declared_arrays ds) (decl_name d)) (decl_array ds k d e h)

pub array_meant : (tree : List Placed) (i : ℕ) (n : List ℕ) → is_array (scope_at tree i n) ≡ true → (k : ℕ) × (slice_get (arrays_at tree i) k ≡ Some n)
array_meant tree i n e = go (declared_by (ports_at tree i) (decls_at tree i) n) where
  go : Declared (ports_at tree i) (decls_at tree i) n → (k : ℕ) × (slice_get (arrays_at tree i) k ≡ Some n)
  go (as_port k p at named means) = absurd (no_array p.output p.width (sym (ap is_array means) ∙ e))
    where
      no_array : (output : Bool) (w : ℕ) → is_array (if output then meant.Output w else meant.Input w) ≡ true → ⊥
      no_array true w h = cc
      no_array false w h = cc
  go (as_decl k d at named means) = at_has (arrays_at tree i) n (subst (λ m. has_name (declared_arrays (decls_at tree i)) m ≡ true) named (decl_array (decls_at tree i) k d at (sym (ap is_array means) ∙ e)))
  go (as_nothing means) = absurd (let h = sym (ap is_array means) ∙ e in cc)

pub array_wide : (source : PlainSource) → is_sound source ≡ true → (i : ℕ) (n : List ℕ) → is_array (scope_at (instances_of source) i n) ≡ true → (0 < width_at (instances_of source) i n) × (width_at (instances_of source) i n ≤ 128)
array_wide source sound i n e = go (declared_by (ports_at (instances_of source) i) (decls_at (instances_of source) i) n) where
  go : Declared (ports_at (instances_of source) i) (decls_at (instances_of source) i) n → (0 < width_at (instances_of source) i n) × (width_at (instances_of source) i n ≤ 128)
  go (as_port j p there named means) = subst (λ w. (0 < w) × (w ≤ 128)) (sym (ap width_of means ∙ width-port p)) (port_wide source sound i j p there)
  go (as_decl j d there named means) = subst (λ w. (0 < w) × (w ≤ 128)) (sym (ap width_of means)) (decl_wide source sound i j d there)
  go (as_nothing means) = absurd (let h = sym (ap is_array means) ∙ e in cc)
