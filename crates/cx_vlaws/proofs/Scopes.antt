-- What the names of a module stand for, where none is declared twice.
use Rattle.std.proofs.Common.{◌≡◌, ◌⊎◌, ℕ, zero, suc, List, [], ◌∷◌, ◌++◌, Bool, true, false, ◌&&◌, ◌||◌, map, Option, Some, None, slice_get, refl, ap, ◌∙◌, subst, inl, inr, if◌then◌else◌}
use Rattle.std.proofs.lemmas.Bool.{or_parts, both_ways, false_from_ne_true, cond-true, cond-false}
use Rattle.cx_vtree.specs.declared.meanings.Meaning.{Meaning}
use Rattle.cx_vtree.specs.declared.meanings.Meaning.TheVariants as meant
use Rattle.cx_vtree.specs.Plain.{PlainPort, PlainDecl, WireOf, RegisterOf, ArrayOf}
use Rattle.cx_vtree.specs.InstanceTree.{same_name, NetKind, Input, Driven, Stored, declared_kind, kind_in, is_output}
use Rattle.cx_vtree.specs.Sound.{has_name, has_output, decl_name, decl_meaning, port_meaning, meant_decl, meant_in}
use Rattle.cx_vlaws.proofs.Fresh.{has_each, Fresh, fresh_not, fresh_head}
use Rattle.cx_vtree.proofs.InstanceTreeLemmas.{same_is, is_same}

abbrev pub port_names : List PlainPort → List (List ℕ)
port_names ps = map (λ p. p.name) ps

pub port_at_has : (ps : List PlainPort) (k : ℕ) (p : PlainPort) → slice_get ps k ≡ Some p → has_name (port_names ps) p.name ≡ true
port_at_has ps k p e = has_each (λ q. q.name) ps k p e

-- a name that is among those that follow is not the first
pub other_than : (earlier ns : List (List ℕ)) (x n : List ℕ) → Fresh (earlier ++ x ∷ []) ns → has_name ns n ≡ true → same_name x n ≡ false
other_than earlier ns x n f e = false_from_ne_true (same_name x n) (λ same.
    both_ways (has_name ns n) (subst (λ m. has_name ns m ≡ false) (same_is x n same) (fresh_head earlier ns x f)) e)

-- a name that stands for nothing else
pub meant-past : (ps : List PlainPort) (ds : List PlainDecl) (n : List ℕ) → has_name (port_names ps) n ≡ false → meant_in ps ds n ≡ meant_decl ds n
meant-past [] ds n e = refl
meant-past (p ∷ ps) ds n e =
    let parts = or_parts (same_name p.name n) (has_name (port_names ps) n) e in
    cond-false (same_name p.name n) (port_meaning p) (meant_in ps ds n) parts.0 ∙ meant-past ps ds n parts.1

pub meant-port : (earlier : List (List ℕ)) (ps : List PlainPort) (ds : List PlainDecl) (k : ℕ) (p : PlainPort) → Fresh earlier (port_names ps) → slice_get ps k ≡ Some p → meant_in ps ds p.name ≡ port_meaning p
meant-port earlier [] ds k p f e = absurd (cc)
meant-port earlier (x ∷ ps) ds zero p f e =
    let same : x ≡ p = cc in
    cond-true (same_name x.name p.name) (port_meaning x) (meant_in ps ds p.name) (is_same x.name p.name (ap (λ q. q.name) same)) ∙ ap port_meaning same
meant-port earlier (x ∷ ps) ds (suc k) p f e =
    cond-false (same_name x.name p.name) (port_meaning x) (meant_in ps ds p.name) (other_than earlier (port_names ps) x.name p.name f.1 (port_at_has ps k p e))
    ∙ meant-port (earlier ++ x.name ∷ []) ps ds k p f.1 e

decl-meant : (earlier : List (List ℕ)) (ds : List PlainDecl) (k : ℕ) (d : PlainDecl) → Fresh earlier (map decl_name ds) → slice_get ds k ≡ Some d → meant_decl ds (decl_name d) ≡ decl_meaning d
decl-meant earlier [] k d f e = absurd (cc)
decl-meant earlier (x ∷ ds) zero d f e =
    let same : x ≡ d = cc in
    cond-true (same_name (decl_name x) (decl_name d)) (decl_meaning x) (meant_decl ds (decl_name d)) (is_same (decl_name x) (decl_name d) (ap decl_name same)) ∙ ap decl_meaning same
decl-meant earlier (x ∷ ds) (suc k) d f e =
    cond-false (same_name (decl_name x) (decl_name d)) (decl_meaning x) (meant_decl ds (decl_name d)) (other_than earlier (map decl_name ds) (decl_name x) (decl_name d) f.1 (has_each decl_name ds k d e))
    ∙ decl-meant (earlier ++ decl_name x ∷ []) ds k d f.1 e

-- a declared name is no port's
pub no_port : (ps : List PlainPort) (ds : List PlainDecl) (n : List ℕ) → Fresh (port_names ps) (map decl_name ds) → has_name (map decl_name ds) n ≡ true → has_name (port_names ps) n ≡ false
no_port ps ds n f e = false_from_ne_true (has_name (port_names ps) n) (λ h. both_ways (has_name (map decl_name ds) n) (fresh_not (port_names ps) (map decl_name ds) n f h) e)

pub meant-decl : (ps : List PlainPort) (ds : List PlainDecl) (k : ℕ) (d : PlainDecl) → Fresh (port_names ps) (map decl_name ds) → slice_get ds k ≡ Some d → meant_in ps ds (decl_name d) ≡ decl_meaning d
meant-decl ps ds k d f e =
    meant-past ps ds (decl_name d) (no_port ps ds (decl_name d) f (has_each decl_name ds k d e)) ∙ decl-meant (port_names ps) ds k d f e

-- where a name stands for something, a port or a declaration has it
pub data Declared (ps : List PlainPort) (ds : List PlainDecl) (n : List ℕ) : Type 0 where
  as_port : (k : ℕ) (p : PlainPort) → slice_get ps k ≡ Some p → p.name ≡ n → meant_in ps ds n ≡ port_meaning p → Declared ps ds n
  as_decl : (k : ℕ) (d : PlainDecl) → slice_get ds k ≡ Some d → decl_name d ≡ n → meant_in ps ds n ≡ decl_meaning d → Declared ps ds n
  as_nothing : meant_in ps ds n ≡ meant.Nothing → Declared ps ds n

find-decl : (ds : List PlainDecl) (n : List ℕ) → ((k : ℕ) × (d : PlainDecl) × (slice_get ds k ≡ Some d) × (decl_name d ≡ n) × (meant_decl ds n ≡ decl_meaning d)) ⊎ (meant_decl ds n ≡ meant.Nothing)
find-decl [] n = inr refl
find-decl (x ∷ ds) n = go (same_name (decl_name x) n) refl (find-decl ds n) where
  go : (same : Bool) → same_name (decl_name x) n ≡ same
      → ((k : ℕ) × (d : PlainDecl) × (slice_get ds k ≡ Some d) × (decl_name d ≡ n) × (meant_decl ds n ≡ decl_meaning d)) ⊎ (meant_decl ds n ≡ meant.Nothing)
      → ((k : ℕ) × (d : PlainDecl) × (slice_get (x ∷ ds) k ≡ Some d) × (decl_name d ≡ n) × (meant_decl (x ∷ ds) n ≡ decl_meaning d)) ⊎ (meant_decl (x ∷ ds) n ≡ meant.Nothing)
  go true is later = inl (zero, x, refl, same_is (decl_name x) n is, cond-true (same_name (decl_name x) n) (decl_meaning x) (meant_decl ds n) is)
  go false is (inl (k, d, at, named, means)) = inl (suc k, d, at, named, cond-false (same_name (decl_name x) n) (decl_meaning x) (meant_decl ds n) is ∙ means)
  go false is (inr means) = inr (cond-false (same_name (decl_name x) n) (decl_meaning x) (meant_decl ds n) is ∙ means)

pub declared_by : (ps : List PlainPort) (ds : List PlainDecl) (n : List ℕ) → Declared ps ds n
declared_by [] ds n = go (find-decl ds n) where
  go : ((k : ℕ) × (d : PlainDecl) × (slice_get ds k ≡ Some d) × (decl_name d ≡ n) × (meant_decl ds n ≡ decl_meaning d)) ⊎ (meant_decl ds n ≡ meant.Nothing) → Declared [] ds n
  go (inl (k, d, at, named, means)) = as_decl k d at named means
  go (inr means) = as_nothing means
declared_by (x ∷ ps) ds n = go (same_name x.name n) refl (declared_by ps ds n) where
  go : (same : Bool) → same_name x.name n ≡ same → Declared ps ds n → Declared (x ∷ ps) ds n
  go true is later = as_port zero x refl (same_is x.name n is) (cond-true (same_name x.name n) (port_meaning x) (meant_in ps ds n) is)
  go false is (as_port k p at named means) = as_port (suc k) p at named (cond-false (same_name x.name n) (port_meaning x) (meant_in ps ds n) is ∙ means)
  go false is (as_decl k d at named means) = as_decl k d at named (cond-false (same_name x.name n) (port_meaning x) (meant_in ps ds n) is ∙ means)
  go false is (as_nothing means) = as_nothing (cond-false (same_name x.name n) (port_meaning x) (meant_in ps ds n) is ∙ means)

-- the kind of net that a meaning is
abbrev pub kind_of : Meaning → Option NetKind
kind_of (meant.Input w) = Some Input
kind_of (meant.Output w) = Some Driven
kind_of (meant.Wire w) = Some Driven
kind_of (meant.Register w) = Some (Stored w)
kind_of (meant.Array w) = None
kind_of meant.Nothing = None

kind-none : (ds : List PlainDecl) (n : List ℕ) → has_name (map decl_name ds) n ≡ false → declared_kind ds n ≡ None
kind-none [] n e = refl
kind-none (WireOf x w ∷ ds) n e = let parts = or_parts (same_name x n) (has_name (map decl_name ds) n) e in cond-false (same_name x n) (Some Driven) (declared_kind ds n) parts.0 ∙ kind-none ds n parts.1
kind-none (RegisterOf x w ∷ ds) n e = let parts = or_parts (same_name x n) (has_name (map decl_name ds) n) e in cond-false (same_name x n) (Some (Stored w)) (declared_kind ds n) parts.0 ∙ kind-none ds n parts.1
kind-none (ArrayOf x w k ∷ ds) n e = kind-none ds n (or_parts (same_name x n) (has_name (map decl_name ds) n) e).1

kind-choice : (same : Bool) (a : Option NetKind) (b : Option NetKind) (m l : Meaning) → a ≡ kind_of m → b ≡ kind_of l → (if same then a else b) ≡ kind_of (if same then m else l)
kind-choice true a b m l e f = e
kind-choice false a b m l e f = f

-- an array is no net, and a later one of its name there is none
kind-array : (same : Bool) (b : Option NetKind) (w : ℕ) (l : Meaning) → (same ≡ true → b ≡ None) → b ≡ kind_of l → b ≡ kind_of (if same then meant.Array w else l)
kind-array true b w l h f = h refl
kind-array false b w l h f = f

kind-declared : (earlier : List (List ℕ)) (ds : List PlainDecl) (n : List ℕ) → Fresh earlier (map decl_name ds) → declared_kind ds n ≡ kind_of (meant_decl ds n)
kind-declared earlier [] n f = refl
kind-declared earlier (WireOf x w ∷ ds) n f = kind-choice (same_name x n) (Some Driven) (declared_kind ds n) (meant.Wire w) (meant_decl ds n) refl (kind-declared (earlier ++ x ∷ []) ds n f.1)
kind-declared earlier (RegisterOf x w ∷ ds) n f = kind-choice (same_name x n) (Some (Stored w)) (declared_kind ds n) (meant.Register w) (meant_decl ds n) refl (kind-declared (earlier ++ x ∷ []) ds n f.1)
kind-declared earlier (ArrayOf x w k ∷ ds) n f =
    kind-array (same_name x n) (declared_kind ds n) w (meant_decl ds n)
    (λ same. kind-none ds n (subst (λ m. has_name (map decl_name ds) m ≡ false) (same_is x n same) (fresh_head earlier (map decl_name ds) x f.1)))
    (kind-declared (earlier ++ x ∷ []) ds n f.1)

port-kind : (output : Bool) (w : ℕ) → Some (if output then Driven else Input) ≡ kind_of (if output then meant.Output w else meant.Input w)
port-kind true w = refl
port-kind false w = refl

-- the kind of a net is that of what its name stands for
pub kind-by_meaning : (earlier : List (List ℕ)) (ps : List PlainPort) (ds : List PlainDecl) (n : List ℕ) → Fresh earlier (map decl_name ds) → kind_in ps ds n ≡ kind_of (meant_in ps ds n)
kind-by_meaning earlier [] ds n f = kind-declared earlier ds n f
kind-by_meaning earlier (p ∷ ps) ds n f =
    kind-choice (same_name p.name n) (Some (if p.output then Driven else Input)) (kind_in ps ds n) (port_meaning p) (meant_in ps ds n) (port-kind p.output p.width) (kind-by_meaning earlier ps ds n f)

-- an output by name
pub output-past : (ps : List PlainPort) (n : List ℕ) → has_name (port_names ps) n ≡ false → has_output ps n ≡ false
output-past [] n e = refl
output-past (p ∷ ps) n e = let parts = or_parts (same_name p.name n) (has_name (port_names ps) n) e in go p.output (same_name p.name n) parts.0 (output-past ps n parts.1) where
  go : (output same : Bool) → same ≡ false → has_output ps n ≡ false → ((output && same) || has_output ps n) ≡ false
  go true false e f = f
  go true true e f = absurd (cc)
  go false same e f = f

pub has-output : (earlier : List (List ℕ)) (ps : List PlainPort) (n : List ℕ) → Fresh earlier (port_names ps) → has_output ps n ≡ is_output ps n
has-output earlier [] n f = refl
has-output earlier (p ∷ ps) n f = go p.output (same_name p.name n) refl (has-output (earlier ++ p.name ∷ []) ps n f.1) where
  go : (output same : Bool) → same_name p.name n ≡ same → has_output ps n ≡ is_output ps n → ((output && same) || has_output ps n) ≡ (if same then output else is_output ps n)
  go true true is h = refl
  go true false is h = h
  go false true is h = output-past ps n (subst (λ m. has_name (port_names ps) m ≡ false) (same_is p.name n is) (fresh_head earlier (port_names ps) p.name f.1))
  go false false is h = h
