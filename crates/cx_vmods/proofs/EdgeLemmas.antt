-- What an edge leaves in the registers and the words of an instance.
use Rattle.std.specs.Prelude.{◌≡◌, ℕ, ◌%◌, ◌^◌, ◌<◌, ◌==◌, not, nat_lt, Bool, true, false, List, [], Option, Some, None, IsSome, slice_get, option_map, option_and_then, if◌then◌else◌, refl}
use Rattle.std.specs.Option.{option_map_or}
use Rattle.std.proofs.Common.{ap, ◌∙◌, subst, arith}
use Rattle.std.proofs.Math.Nat.{mod-eq_of_lt}
use Rattle.std.proofs.lemmas.Nat.{pow_pos}
use Rattle.std.proofs.lemmas.Bool.Decides.{nat_tests}
use Rattle.cx_bits.specs.BitVector.{BitVector}
use Rattle.cx_vtree.specs.Plain.{PlainExpr, Named, Number, Part, Word, Applied, Inverted, Chosen, Joined, PlainDecl, PlainStore, PlainEdge, PlainModule}
use Rattle.cx_vtree.specs.Operators.{operate, inverted, part_of, joined}
use Rattle.cx_vtree.specs.InstanceTree.{Placed, decls_at, nets_at, kind_in, assigned, origin_by, origin_of}
use Rattle.cx_vtree.specs.Meaning.{Moment, Look, HasValue, by_step, word_in, expr_in, expr_at, from_origin}
use Rattle.cx_vtree.specs.Edges.{edge_at, acting_sets, acting_stores, number_or, array_size, store_to, word_by, state_after}
use Rattle.cx_vtree.specs.SimRun.{IsWhole}
use Rattle.cx_vtree.proofs.Values.{one_value}
use Rattle.cx_vmods.specs.Built.{kept_at, Stands}
use Rattle.cx_vmods.specs.Inside.{Known, found, AreKnown, value_of, set_in}
use Rattle.cx_vmods.proofs.InsideLemmas.{none_known}
use Rattle.cx_text.proofs.OptionLaws.{bind_some, more_choice}
use Rattle.cx_vtree.proofs.Runs.{net_in}

abbrev IsIn : List ℕ → List (List ℕ) → Type 0
IsIn n ns = (k : ℕ) × (slice_get ns k ≡ Some n)

-- what has a value is a net of its instance
valued_in : (tree : List Placed) (now : Moment) (i : ℕ) (n : List ℕ) (v : BitVector) → HasValue tree now i n v → IsIn n (nets_at tree i)
valued_in tree now i n v (by_step look right e) =
    let (o, is, f) = bind_some (from_origin tree now look i n) (origin_of tree i n) v e in
    let (p, at, g) = bind_some (λ p. option_and_then (origin_by tree i p n) (kind_in p.part.ports p.part.decls n)) (slice_get tree i) o is in
    let (kind, kinds, h) = bind_some (origin_by tree i p n) (kind_in p.part.ports p.part.decls n) o g in
    rw at (net_in p.part.ports p.part.decls n kind kinds)

-- a whole look has what a net has
pub whole_has : {tree : List Placed} {now : Moment} {i : ℕ} {n : List ℕ} {v : BitVector} (look : Look) → IsWhole tree now look → HasValue tree now i n v → look i n ≡ Some v
whole_has {tree} {now} {i} {n} {v} look whole has = by (look i n) refl
  where
    by : (o : Option BitVector) → look i n ≡ o → look i n ≡ Some v
    by None none = let at = valued_in tree now i n v has in absurd (let some = subst IsSome none (whole.whole i at.0 n at.1) in cc)
    by (Some w) some = some ∙ ap Some (one_value (whole.right i n w some) has)

-- what gave something gives it again, where more is known
more_map : {A B : Type 0} (f : A → B) (a b : Option A) → ((x : A) → a ≡ Some x → b ≡ Some x) → (y : B) → option_map f a ≡ Some y → option_map f b ≡ Some y
more_map f None b more y e = absurd (cc)
more_map f (Some x) b more y e = ap (option_map f) (more x refl) ∙ e

more_bind : {A B : Type 0} (f g : A → Option B) (a b : Option A) → ((x : A) → a ≡ Some x → b ≡ Some x) → ((x : A) (y : B) → f x ≡ Some y → g x ≡ Some y) → (y : B)
    → option_and_then f a ≡ Some y → option_and_then g b ≡ Some y
more_bind f g None b more next y e = absurd (cc)
more_bind f g (Some x) b more next y e = ap (option_and_then g) (more x refl) ∙ next x y e

module _ (nets more : List ℕ → Option BitVector) (words : List ℕ → ℕ → BitVector) (knows : (n : List ℕ) (v : BitVector) → nets n ≡ Some v → more n ≡ Some v) where
  -- an expression keeps its value where more nets are known
  pub more_expr : (e : PlainExpr) (v : BitVector) → expr_in nets words e ≡ Some v → expr_in more words e ≡ Some v
  more_expr (Named n) v e = knows n v e
  more_expr (Number b) v e = e
  more_expr (Part n high low) v e = more_map (part_of high low) (nets n) (more n) (knows n) v e
  more_expr (Word n i) v e = more_map (λ k. words n k.value) (expr_in nets words i) (expr_in more words i) (more_expr i) v e
  more_expr (Applied op a b) v e =
      more_bind _ _ (expr_in nets words a) (expr_in more words a) (more_expr a) (λ x y f. more_map (operate op x) (expr_in nets words b) (expr_in more words b) (more_expr b) y f) v e
  more_expr (Inverted a) v e = more_map inverted (expr_in nets words a) (expr_in more words a) (more_expr a) v e
  more_expr (Chosen c a b) v e =
      more_bind _ _ (expr_in nets words c) (expr_in more words c) (more_expr c) (λ t y f. more_choice (t.value == 0) _ _ _ _ y (more_expr b y) (more_expr a y) f) v e
  more_expr (Joined a b) v e =
      more_bind _ _ (expr_in nets words a) (expr_in more words a) (more_expr a) (λ x y f. more_map (joined x) (expr_in nets words b) (expr_in more words b) (more_expr b) y f) v e

-- an expression has in a whole look the value that the known nets give it
pub whole_expr : {m : PlainModule} {tree : List Placed} {now : Moment} {j : ℕ} {ks : List Known} (look : Look) (e : PlainExpr) (v : BitVector)
    → Stands m tree j → IsWhole tree now look → AreKnown tree now j ks → value_of m (kept_at now.state j) ks e ≡ Some v → expr_at tree now look j e ≡ Some v
whole_expr {m} {tree} {now} {j} {ks} look e v stands whole all is =
    let decls : decls_at tree j ≡ m.decls = ap (λ (o : Option Placed). option_map_or (λ p. p.part.decls) o []) stands.there ∙ ap (λ (x : PlainModule). x.decls) stands.is in
    ap (λ (ds : List PlainDecl). expr_in (look j) (word_in (now.state.word j) ds) e) decls
    ∙ more_expr (found ks) (look j) (word_in (now.state.word j) m.decls) (λ n w f. whole_has look whole (all.each n w f)) e v is

edge_here : {m : PlainModule} {tree : List Placed} {j : ℕ} → Stands m tree j → edge_at tree j ≡ m.edge
edge_here stands = ap (λ (o : Option Placed). option_and_then (λ p. p.part.edge) o) stands.there ∙ ap (λ (x : PlainModule). x.edge) stands.is

-- a register that an edge sets takes the value
pub set_has : {m : PlainModule} {tree : List Placed} {now : Moment} {j : ℕ} {ks : List Known} (name : List ℕ) (v : BitVector) (reset : ℕ) (look : Look)
    → Stands m tree j → IsWhole tree now look → now.reset ≡ reset → AreKnown tree now j ks → set_in reset m (kept_at now.state j) ks name ≡ Some v
    → (state_after tree now look).register j name ≡ v.value
set_has {m} {tree} {now} {j} {ks} name v reset look stands whole is all e =
    let old = now.state.register j name in
    ap (λ (r : ℕ). option_map_or (λ x. number_or old (expr_at tree now look j x)) (assigned (acting_sets r (edge_at tree j)) name) old) is
    ∙ ap (λ (g : Option PlainEdge). option_map_or (λ x. number_or old (expr_at tree now look j x)) (assigned (acting_sets reset g) name) old) (edge_here stands)
    ∙ by old (assigned (acting_sets reset m.edge) name) e
  where
    by : (old : ℕ) (given : Option PlainExpr) → option_and_then (value_of m (kept_at now.state j) ks) given ≡ Some v → option_map_or (λ x. number_or old (expr_at tree now look j x)) given old ≡ v.value
    by old None f = absurd (cc)
    by old (Some x) f = ap (number_or old) (whole_expr look x v stands whole all f)

-- a register that an edge with reset sets to 0
pub register_cleared : {m : PlainModule} {tree : List Placed} {now : Moment} {j : ℕ} (name : List ℕ) (width : ℕ) (look : Look)
    → Stands m tree j → IsWhole tree now look → now.reset ≡ 1 → set_in 1 m (kept_at now.state j) [] name ≡ Some (record { width = width; value = 0 % 2 ^ width })
    → (state_after tree now look).register j name ≡ 0
register_cleared name width look stands whole is set = set_has name (record { width = width; value = 0 % 2 ^ width }) 1 look stands whole is none_known set ∙ mod-eq_of_lt (pow_pos width)

-- the words of an array that no acting branch stores into stay
pub word_stays : {m : PlainModule} {tree : List Placed} {j : ℕ} (now : Moment) (name : List ℕ) (reset : ℕ) (look : Look) (index : ℕ)
    → Stands m tree j → now.reset ≡ reset → store_to (acting_stores reset m.edge) name ≡ None → (state_after tree now look).word j name index ≡ now.state.word j name index
word_stays {m} {tree} {j} now name reset look index stands is none =
    let old = now.state.word j name index in
    let stores : store_to (acting_stores now.reset (edge_at tree j)) name ≡ None =
    ap (λ (r : ℕ). store_to (acting_stores r (edge_at tree j)) name) is ∙ ap (λ (g : Option PlainEdge). store_to (acting_stores reset g) name) (edge_here stands) ∙ none in
    ap (λ (o : Option PlainStore). if nat_lt index (array_size (decls_at tree j) name) then option_map_or (word_by tree now look j old index) o old else old) stores
    ∙ same (nat_lt index (array_size (decls_at tree j) name)) old
  where
    same : (b : Bool) (x : ℕ) → (if b then x else x) ≡ x
    same true x = refl
    same false x = refl

-- what a store leaves in a word: where the guard is not 0 and the index is the word's own, the value
abbrev pub after_store : BitVector → BitVector → BitVector → ℕ → ℕ → ℕ
after_store guard index value n old = if not (guard.value == 0) then (if index.value == n then value.value else old) else old

-- a word of an array that an edge without reset stores into
pub word_stored : {m : PlainModule} {tree : List Placed} {now : Moment} {j : ℕ} {ks : List Known} (name : List ℕ) (s : PlainStore) (guard index value : BitVector) (look : Look) (n : ℕ)
    → Stands m tree j → IsWhole tree now look → now.reset ≡ 0 → AreKnown tree now j ks → store_to (acting_stores 0 m.edge) name ≡ Some s
    → value_of m (kept_at now.state j) ks s.guard ≡ Some guard → value_of m (kept_at now.state j) ks s.index ≡ Some index → value_of m (kept_at now.state j) ks s.value ≡ Some value
    → n < array_size m.decls name → (state_after tree now look).word j name n ≡ after_store guard index value n (now.state.word j name n)
word_stored {m} {tree} {now} {j} {ks} name s guard index value look n stands whole is all store guards indexes values within =
    let old = now.state.word j name n in
    let stores : store_to (acting_stores now.reset (edge_at tree j)) name ≡ Some s =
    ap (λ (r : ℕ). store_to (acting_stores r (edge_at tree j)) name) is ∙ ap (λ (g : Option PlainEdge). store_to (acting_stores 0 g) name) (edge_here stands) ∙ store in
    let decls : decls_at tree j ≡ m.decls = ap (λ (o : Option Placed). option_map_or (λ p. p.part.decls) o []) stands.there ∙ ap (λ (x : PlainModule). x.decls) stands.is in
    let inside : nat_lt n (array_size (decls_at tree j) name) ≡ true =
    ap (λ (ds : List PlainDecl). nat_lt n (array_size ds name)) decls ∙ grind (arith, nat_tests) in
    ap (λ (o : Option PlainStore). if nat_lt n (array_size (decls_at tree j) name) then option_map_or (word_by tree now look j old n) o old else old) stores
    ∙ ap (λ (b : Bool). if b then word_by tree now look j old n s else old) inside
    ∙ ap (λ (g : Option BitVector). if not (number_or 0 g == 0) then (if option_map_or (λ b. b.value == n) (expr_at tree now look j s.index) false then number_or old (expr_at tree now look j s.value) else old) else old) (whole_expr look s.guard guard stands whole all guards)
    ∙ ap (λ (i : Option BitVector). if not (guard.value == 0) then (if option_map_or (λ b. b.value == n) i false then number_or old (expr_at tree now look j s.value) else old) else old) (whole_expr look s.index index stands whole all indexes)
    ∙ ap (λ (v : Option BitVector). if not (guard.value == 0) then (if index.value == n then number_or old v else old) else old) (whole_expr look s.value value stands whole all values)
