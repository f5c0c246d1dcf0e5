-- The names of an instance, and what they stand for.
use Rattle.std.proofs.Common.{◌≡◌, ℕ, List, [], ◌∷◌, ◌++◌, Bool, true, false, ◌||◌, map, Option, Some, None, slice_get, refl, ap, sym, ◌∙◌, subst}
use Rattle.std.specs.Option.{option_map_or}
use Rattle.std.proofs.lemmas.Bool.{or_right, both_ways, false_from_ne_true}
use Rattle.cx_vtree.specs.Plain.{PlainPort, PlainDecl, WireOf, RegisterOf, ArrayOf, PlainModule, PlainSource}
use Rattle.cx_vtree.specs.InstanceTree.{same_name, Placed, ports_at, decls_at, declared_nets, instances_of, declared_arrays}
use Rattle.cx_vtree.specs.Sound.{Counts, has_name, decl_name, drivers_in, is_sound}
use Rattle.cx_vlaws.specs.Names.{AreApart}
use Rattle.cx_vlaws.proofs.Fresh.{has_at, has-append, Fresh, fresh_not, fresh_head, fresh_both, fresh_apart, fresh-nets, fresh-arrays, declared-net}
use Rattle.cx_vlaws.proofs.Scopes.{port_names}
use Rattle.cx_vlaws.proofs.Modules.{Keeps}
use Rattle.cx_vlaws.proofs.Forest.{instance_keeps}
use Rattle.cx_vlaws.proofs.Parts.{ports_fresh, decls_fresh}
use Rattle.cx_text.proofs.BoolLaws.{or_second}
use Rattle.cx_vtree.proofs.InstanceTreeLemmas.{same_is}

pub fresh_ports : (is_main : Bool) (before : List PlainModule) (own : Counts) (m : PlainModule) → Keeps is_main before own m → Fresh [] (port_names m.ports)
fresh_ports is_main before own m k = ports_fresh is_main (drivers_in before m) [] 0 m.ports k.ports

pub fresh_decls : (is_main : Bool) (before : List PlainModule) (own : Counts) (m : PlainModule) → Keeps is_main before own m → Fresh (port_names m.ports) (map decl_name m.decls)
fresh_decls is_main before own m k = decls_fresh (drivers_in before m) (port_names m.ports) m.decls k.decls

-- the ports and declarations of an instance, or none where it is not there
pub by_part : (P : List PlainPort → List PlainDecl → Type 0) (tree : List Placed) (i : ℕ) → P [] [] → ((p : Placed) → slice_get tree i ≡ Some p → P p.part.ports p.part.decls) → P (ports_at tree i) (decls_at tree i)
by_part P tree i nothing each = go (slice_get tree i) refl where
  go : (o : Option Placed) → slice_get tree i ≡ o → P (option_map_or (λ p. p.part.ports) o []) (option_map_or (λ p. p.part.decls) o [])
  go None e = nothing
  go (Some p) e = each p e

-- the names of the ports and declarations of an instance are apart
abbrev pub FreshAt : List Placed → ℕ → Type 0
FreshAt tree i = Fresh [] (port_names (ports_at tree i)) × Fresh (port_names (ports_at tree i)) (map decl_name (decls_at tree i))

pub fresh_at : (source : PlainSource) → is_sound source ≡ true → (i : ℕ) → FreshAt (instances_of source) i
fresh_at source sound i = by_part (λ ps ds. Fresh [] (port_names ps) × Fresh (port_names ps) (map decl_name ds)) (instances_of source) i (tt, tt) (λ p e.
    let a = instance_keeps source sound i p e in
    (fresh_ports a.is_main _ _ p.part a.kept, fresh_decls a.is_main _ _ p.part a.kept))

pub names_apart : (ps : List PlainPort) (ds : List PlainDecl) → Fresh [] (port_names ps) → Fresh (port_names ps) (map decl_name ds) → AreApart (port_names ps ++ map decl_name ds)
names_apart ps ds f g = fresh_apart [] (port_names ps ++ map decl_name ds) (fresh_both [] (port_names ps) (map decl_name ds) f g)

pub nets_apart : (ps : List PlainPort) (ds : List PlainDecl) → Fresh [] (port_names ps) → Fresh (port_names ps) (map decl_name ds) → AreApart (port_names ps ++ declared_nets ds)
nets_apart ps ds f g = fresh_apart [] (port_names ps ++ declared_nets ds) (fresh_both [] (port_names ps) (declared_nets ds) f (fresh-nets (port_names ps) (port_names ps) ds (λ n h. h) g))

pub arrays_apart : (ps : List PlainPort) (ds : List PlainDecl) → Fresh (port_names ps) (map decl_name ds) → AreApart (declared_arrays ds)
arrays_apart ps ds g = fresh_apart (port_names ps) (declared_arrays ds) (fresh-arrays (port_names ps) (port_names ps) ds (λ n h. h) g)

-- an array is declared
pub declared-array : (ds : List PlainDecl) (n : List ℕ) → has_name (declared_arrays ds) n ≡ true → has_name (map decl_name ds) n ≡ true
declared-array [] n e = e
declared-array (WireOf x w ∷ ds) n e = or_right (same_name x n) (has_name (map decl_name ds) n) (declared-array ds n e)
declared-array (RegisterOf x w ∷ ds) n e = or_right (same_name x n) (has_name (map decl_name ds) n) (declared-array ds n e)
declared-array (ArrayOf x w k ∷ ds) n e = or_second (same_name x n) (has_name (declared_arrays ds) n) (has_name (map decl_name ds) n) (declared-array ds n) e

-- a declared net is no array
no_array : (same nets : Bool) (arrays : Bool) → (same ≡ true → arrays ≡ false) → (nets ≡ true → arrays ≡ false) → (same || nets) ≡ true → arrays ≡ false
no_array true nets arrays h g e = h refl
no_array false nets arrays h g e = g e

not_declared : (earlier : List (List ℕ)) (x n : List ℕ) (ds : List PlainDecl) → Fresh (earlier ++ x ∷ []) (map decl_name ds) → same_name x n ≡ true → has_name (map decl_name ds) n ≡ false
not_declared earlier x n ds f same = subst (λ m. has_name (map decl_name ds) m ≡ false) (same_is x n same) (fresh_head earlier (map decl_name ds) x f)

pub net-no_array : (earlier : List (List ℕ)) (ds : List PlainDecl) (n : List ℕ) → Fresh earlier (map decl_name ds) → has_name (declared_nets ds) n ≡ true → has_name (declared_arrays ds) n ≡ false
net-no_array earlier [] n f e = absurd (cc)
net-no_array earlier (WireOf x w ∷ ds) n f e =
    no_array (same_name x n) (has_name (declared_nets ds) n) (has_name (declared_arrays ds) n)
    (λ same. false_from_ne_true (has_name (declared_arrays ds) n) (λ h. both_ways (has_name (map decl_name ds) n) (not_declared earlier x n ds f.1 same) (declared-array ds n h)))
    (net-no_array (earlier ++ x ∷ []) ds n f.1) e
net-no_array earlier (RegisterOf x w ∷ ds) n f e =
    no_array (same_name x n) (has_name (declared_nets ds) n) (has_name (declared_arrays ds) n)
    (λ same. false_from_ne_true (has_name (declared_arrays ds) n) (λ h. both_ways (has_name (map decl_name ds) n) (not_declared earlier x n ds f.1 same) (declared-array ds n h)))
    (net-no_array (earlier ++ x ∷ []) ds n f.1) e
net-no_array earlier (ArrayOf x w k ∷ ds) n f e = go (same_name x n) refl (net-no_array (earlier ++ x ∷ []) ds n f.1 e) where
  go : (same : Bool) → same_name x n ≡ same → has_name (declared_arrays ds) n ≡ false → (same_name x n || has_name (declared_arrays ds) n) ≡ false
  go true is later = absurd (both_ways (has_name (map decl_name ds) n) (not_declared earlier x n ds f.1 is) (declared-net ds n e))
  go false is later = ap (λ b. b || has_name (declared_arrays ds) n) is ∙ later

pub nets-no_arrays : (ps : List PlainPort) (ds : List PlainDecl) → Fresh (port_names ps) (map decl_name ds) → (j k : ℕ) (n : List ℕ) → slice_get (port_names ps ++ declared_nets ds) j ≡ Some n → slice_get (declared_arrays ds) k ≡ Some n → ⊥
nets-no_arrays ps ds g j k n e f =
    let array : has_name (declared_arrays ds) n ≡ true = has_at (declared_arrays ds) k n f in
    go (has_name (port_names ps) n) refl (sym (has-append (port_names ps) (declared_nets ds) n) ∙ has_at (port_names ps ++ declared_nets ds) j n e) array where
      go : (port : Bool) → has_name (port_names ps) n ≡ port → (has_name (port_names ps) n || has_name (declared_nets ds) n) ≡ true → has_name (declared_arrays ds) n ≡ true → ⊥
      go true is either_way array =
          both_ways (has_name (map decl_name ds) n) (fresh_not (port_names ps) (map decl_name ds) n g is) (declared-array ds n array)
      go false is either_way array =
          both_ways (has_name (declared_arrays ds) n) (net-no_array (port_names ps) ds n g (sym (ap (λ b. b || has_name (declared_nets ds) n) is) ∙ either_way)) array
