-- What is known inside an instance is so in its tree, and what an edge leaves there.
use Rattle.std.specs.Prelude.{◌≡◌, ℕ, zero, suc, ◌+◌, ◌≤◌, ◌==◌, Bool, true, false, List, [], ◌∷◌, ◌++◌, Option, Some, None, map, slice_get, option_and_then, if◌then◌else◌, refl}
use Rattle.std.specs.Option.{option_map_or}
use Rattle.std.proofs.Common.{ap, sym, ◌∙◌, subst, arith, eq-eqb}
use Rattle.std.proofs.lemmas.Bool.{eqb-true}
use Rattle.std.specs.Cmp.Lexicographic.{bytes_decides}
use Rattle.cx_bits.specs.BitVector.{BitVector}
use Rattle.cx_vtree.specs.Plain.{PlainExpr, PlainDecl, PlainModule}
use Rattle.cx_vtree.specs.InstanceTree.{Placed, same_name, decls_at, nets_at, declared_nets, NetKind, Input, Driven, Stored, kind_in, Origin, Given, assigned, driving_output, origin_by}
use Rattle.cx_vtree.specs.Meaning.{Moment, Look, HasValue, by_step, IsRight, word_in, expr_in, expr_at, from_origin}
use Rattle.cx_vmods.specs.Stands.{Kept}
use Rattle.cx_vmods.specs.Built.{kept_at, Stands}
use Rattle.cx_vmods.specs.Inside.{Known, found, AreKnown, value_of, value_by, value_in}

-- nothing is known
pub none_known : {tree : List Placed} {now : Moment} {j : ℕ} → AreKnown tree now j []
none_known = record { each = λ name v e. absurd (cc) }

-- one net more is known
pub also_known : {tree : List Placed} {now : Moment} {j : ℕ} (k : Known) {ks : List Known} → HasValue tree now j k.name k.bits → AreKnown tree now j ks → AreKnown tree now j (k ∷ ks)
also_known {tree} {now} {j} k {ks} has rest = record { each = λ name v e. by name v (same_name k.name name) refl e }
  where
    by : (name : List ℕ) (v : BitVector) (same : Bool) → same_name k.name name ≡ same → (if same then Some k.bits else found ks name) ≡ Some v → HasValue tree now j name v
    by name v true is e =
        let bits : k.bits ≡ v = cc in
        subst (λ (n : List ℕ). HasValue tree now j n v) ((bytes_decides k.name name).0 is) (subst (λ (b : BitVector). HasValue tree now j k.name b) bits has)
    by name v false is e = rest.each name v e

-- what is known in one instance, as a look
abbrev look_of : ℕ → List Known → Look
look_of j ks i name = if i == j then found ks name else None

module _ {tree : List Placed} {now : Moment} {j : ℕ} {ks : List Known} where
  right_look : AreKnown tree now j ks → IsRight tree now (look_of j ks)
  right_look all i name v e = by (i == j) refl e
    where
      by : (same : Bool) → (i == j) ≡ same → (if same then found ks name else None) ≡ Some v → HasValue tree now i name v
      by true is e = subst (λ (k : ℕ). HasValue tree now k name v) (sym (eqb-true i j is)) (all.each name v e)
      by false is e = absurd (cc)

own_look : (j : ℕ) (ks : List Known) → look_of j ks j ≡ found ks
own_look j ks =
    let same : (j == j) ≡ true = eq-eqb j j refl in
    let look : Bool → List ℕ → Option BitVector = λ b name. if b then found ks name else None in
    ap look same

-- an assigned expression gives what it is worth
by_expr : (tree : List Placed) (now : Moment) (look : Look) (j : ℕ) (name : List ℕ) (given : Option PlainExpr) (other : Option Origin) (v : BitVector)
    → option_and_then (expr_at tree now look j) given ≡ Some v → option_and_then (from_origin tree now look j name) (option_map_or (λ e. Some (Given e)) given other) ≡ Some v
by_expr tree now look j name None other v e = absurd (cc)
by_expr tree now look j name (Some x) other v e = e

module _ (tree : List Placed) (now : Moment) (look : Look) (j : ℕ) (p : Placed) (name : List ℕ) (v : BitVector) where
  by_kind : (kind : Option NetKind) → value_by (expr_at tree now look j) (now.state.register j) name (assigned p.part.assigns name) kind ≡ Some v
      → option_and_then (from_origin tree now look j name) (option_and_then (origin_by tree j p name) kind) ≡ Some v
  by_kind None e = absurd (cc)
  by_kind (Some Input) e = absurd (cc)
  by_kind (Some Driven) e = by_expr tree now look j name (assigned p.part.assigns name) (driving_output tree 0 j name) v e
  by_kind (Some (Stored w)) e = e

-- the expressions of an instance, by what is known there
own_expr : (m : PlainModule) (tree : List Placed) (now : Moment) (j : ℕ) (ks : List Known) → Stands m tree j → expr_at tree now (look_of j ks) j ≡ value_of m (kept_at now.state j) ks
own_expr m tree now j ks stands =
    let decls : decls_at tree j ≡ m.decls = ap (λ (o : Option Placed). option_map_or (λ p. p.part.decls) o []) stands.there ∙ ap (λ (x : PlainModule). x.decls) stands.is in
    ap (λ (nets : List ℕ → Option BitVector). expr_in nets (word_in (now.state.word j) (decls_at tree j))) (own_look j ks)
    ∙ ap (λ (ds : List PlainDecl). expr_in (found ks) (word_in (now.state.word j) ds)) decls

-- a net has the value that the known ones give it
pub has_by : {m : PlainModule} {tree : List Placed} {now : Moment} {j : ℕ} {ks : List Known} {name : List ℕ} {v : BitVector}
    → Stands m tree j → AreKnown tree now j ks → value_in m (kept_at now.state j) ks name ≡ Some v → HasValue tree now j name v
has_by {m} {tree} {now} {j} {ks} {name} {v} stands all e =
    let here : (x : PlainModule) → x ≡ m → value_by (expr_at tree now (look_of j ks) j) (now.state.register j) name (assigned x.assigns name) (kind_in x.ports x.decls name) ≡ Some v =
    λ x is. ap (λ (y : PlainModule). value_by (expr_at tree now (look_of j ks) j) (now.state.register j) name (assigned y.assigns name) (kind_in y.ports y.decls name)) is
    ∙ ap (λ (value : PlainExpr → Option BitVector). value_by value (now.state.register j) name (assigned m.assigns name) (kind_in m.ports m.decls name)) (own_expr m tree now j ks stands)
    ∙ e in
    let p = stands.placed in
    by_step (look_of j ks) (right_look all)
    (ap (λ (o : Option Placed). option_and_then (from_origin tree now (look_of j ks) j name) (option_and_then (λ q. option_and_then (origin_by tree j q name) (kind_in q.part.ports q.part.decls name)) o)) stands.there
    ∙ by_kind tree now (look_of j ks) j p name v (kind_in p.part.ports p.part.decls name) (here p.part stands.is))

-- one or the other
or_later : (b : Bool) (v : BitVector) (o : Option BitVector) → (w : BitVector) × (o ≡ Some w) → (w : BitVector) × ((if b then Some v else o) ≡ Some w)
or_later true v o have = (v, refl)
or_later false v o have = have

-- every net of the instance has a value, where those of all behind the clock and the reset are known
pub all_have : {m : PlainModule} {tree : List Placed} {now : Moment} {j k : ℕ} {ks : List Known} {name : List ℕ} (clock reset : List ℕ)
    → Stands m tree j → AreKnown tree now j ks → map (λ p. p.name) m.ports ++ declared_nets m.decls ≡ clock ∷ reset ∷ map (λ x. x.name) ks
    → slice_get (nets_at tree j) k ≡ Some name → 2 ≤ k → (v : BitVector) × HasValue tree now j name v
all_have {m} {tree} {now} {j} {k} {ks} {name} clock reset stands all nets at behind = by k behind (ap (λ (ns : List (List ℕ)). slice_get ns k) (sym here) ∙ at)
  where
    here : nets_at tree j ≡ clock ∷ reset ∷ map (λ x. x.name) ks
    here = ap (λ (o : Option Placed). map (λ p. p.name) (option_map_or (λ p. p.part.ports) o []) ++ declared_nets (option_map_or (λ p. p.part.decls) o [])) stands.there
        ∙ ap (λ (x : PlainModule). map (λ p. p.name) x.ports ++ declared_nets x.decls) stands.is ∙ nets

    among : (xs : List Known) (n : ℕ) → slice_get (map (λ x. x.name) xs) n ≡ Some name → (v : BitVector) × (found xs name ≡ Some v)
    among [] n e = absurd (cc)
    among (x ∷ xs) zero e = (x.bits, let is : x.name ≡ name = cc in ap (λ (b : Bool). if b then Some x.bits else found xs name) ((bytes_decides x.name name).1 is))
    among (x ∷ xs) (suc n) e = or_later (same_name x.name name) x.bits (found xs name) (among xs n e)

    by : (n : ℕ) → 2 ≤ n → slice_get (clock ∷ reset ∷ map (λ x. x.name) ks) n ≡ Some name → (v : BitVector) × HasValue tree now j name v
    by zero few e = absurd (omega arith)
    by (suc zero) few e = absurd (omega arith)
    by (suc (suc n)) few e = let f = among ks n e in (f.0, all.each name f.0 f.1)

-- an assigned net has the value of its expression, by its kind
pub driven_value : (m : PlainModule) (kept : Kept) (ks : List Known) (name : List ℕ) (e : PlainExpr) (v : BitVector) → kind_in m.ports m.decls name ≡ Some Driven
    → assigned m.assigns name ≡ Some e → value_of m kept ks e ≡ Some v → value_in m kept ks name ≡ Some v
driven_value m kept ks name e v kind given is =
    ap (value_by (value_of m kept ks) kept.register name (assigned m.assigns name)) kind ∙ ap (option_and_then (value_of m kept ks)) given ∙ is

-- and a register what is kept
pub stored_value : (m : PlainModule) (kept : Kept) (ks : List Known) (name : List ℕ) (w : ℕ) → kind_in m.ports m.decls name ≡ Some (Stored w)
    → value_in m kept ks name ≡ Some (record { width = w; value = kept.register name })
stored_value m kept ks name w kind = ap (value_by (value_of m kept ks) kept.register name (assigned m.assigns name)) kind
