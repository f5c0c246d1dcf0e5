-- A run from reset has one outcome at most.
use Rattle.std.proofs.Common.{◌≡◌, ℕ, ◌+◌, ◌<◌, zero, suc, ◌⊎◌, inl, inr, Bool, true, false, List, [], ◌∷◌, ◌++◌, map, Option, Some, None, option_and_then, refl, ap, sym, ◌∙◌, subst, if◌then◌else◌, ⊎_elim}
use Rattle.std.specs.Prelude.{IsSome, slice_get}
use Rattle.std.proofs.lemmas.Bool.{cases_order}
use Rattle.std.specs.Cmp.Lexicographic.{same_text}
use Rattle.cx_bits.specs.BitVector.{BitVector}
use Rattle.cx_vtree.specs.Plain.{PlainPort, PlainDecl, WireOf, RegisterOf, ArrayOf, PlainSource}
use Rattle.cx_vtree.specs.InstanceTree.{Placed, same_name, nets_at, declared_nets, NetKind, declared_kind, kind_in, origin_by, origin_of, instances_of}
use Rattle.cx_vtree.specs.Meaning.{State, Moment, resetting, running, Look, from_origin, HasValue, by_step}
use Rattle.cx_vtree.specs.Edges.{state_after}
use Rattle.cx_vtree.specs.SimRun.{Outcome, LoopAt, IsFirstLoop, IsWhole, is_done, start_state, RunsFrom, loops, ends, spent, goes_on, SimRun, loops_in_reset, after_reset}
use Rattle.cx_vtree.proofs.Values.{right_agree}
use Rattle.cx_text.proofs.OptionLaws.{bind_some}
use Rattle.cx_text.proofs.ListLaws.{slice_get-next}

abbrev IsIn : List ℕ → List (List ℕ) → Type 0
IsIn n ns = (k : ℕ) × (slice_get ns k ≡ Some n)

pub in_next : (n x : List ℕ) (ns : List (List ℕ)) → IsIn n ns → IsIn n (x ∷ ns)
in_next n x ns h = (suc h.0, slice_get-next x ns h.0 ∙ h.1)

in_here : (n x : List ℕ) (ns : List (List ℕ)) → same_name x n ≡ true → IsIn n (x ∷ ns)
in_here n x ns e = (zero, ap Some (same_text x n (sym e)))

-- by the two sides of a test of names
by_test : {A : Type 0} (P : Type 0) (t : Bool) (a b : Option A) (x : A) → (if t then a else b) ≡ Some x → (t ≡ true → P) → (b ≡ Some x → P) → P
by_test P true a b x e here there = here refl
by_test P false a b x e here there = there e

-- what has a kind is declared
pub declared_in : (ds : List PlainDecl) (n : List ℕ) (kind : NetKind) → declared_kind ds n ≡ Some kind → IsIn n (declared_nets ds)
declared_in [] n kind e = absurd (cc)
declared_in (WireOf x w ∷ ds) n kind e = by_test _ (same_name x n) _ _ kind e (in_here n x (declared_nets ds)) (λ f. in_next n x (declared_nets ds) (declared_in ds n kind f))
declared_in (RegisterOf x w ∷ ds) n kind e = by_test _ (same_name x n) _ _ kind e (in_here n x (declared_nets ds)) (λ f. in_next n x (declared_nets ds) (declared_in ds n kind f))
declared_in (ArrayOf x w k ∷ ds) n kind e = declared_in ds n kind e

pub net_in : (ps : List PlainPort) (ds : List PlainDecl) (n : List ℕ) (kind : NetKind) → kind_in ps ds n ≡ Some kind → IsIn n (map (λ p. p.name) ps ++ declared_nets ds)
net_in [] ds n kind e = declared_in ds n kind e
net_in (p ∷ ps) ds n kind e =
    by_test _ (same_name p.name n) _ _ kind e (in_here n p.name (map (λ p. p.name) ps ++ declared_nets ds))
    (λ f. in_next n p.name (map (λ p. p.name) ps ++ declared_nets ds) (net_in ps ds n kind f))

module _ (tree : List Placed) (m : Moment) where
  -- what has a value is a net of its instance
  valued_in : (i : ℕ) (n : List ℕ) (v : BitVector) → HasValue tree m i n v → IsIn n (nets_at tree i)
  valued_in i n v (by_step look right e) =
      let (o, is, f) = bind_some (from_origin tree m look i n) (origin_of tree i n) v e in
      let (p, at, g) = bind_some (λ p. option_and_then (origin_by tree i p n) (kind_in p.part.ports p.part.decls n)) (slice_get tree i) o is in
      let (kind, kinds, h) = bind_some (origin_by tree i p n) (kind_in p.part.ports p.part.decls n) o g in
      rw at (net_in p.part.ports p.part.decls n kind kinds)

  -- two whole looks are one
  same_entry : (a b : Look) → IsWhole tree m a → IsWhole tree m b → (i : ℕ) (n : List ℕ) → a i n ≡ b i n
  same_entry a b ha hb i n = go (a i n) (b i n) refl refl where
    go : (x y : Option BitVector) → a i n ≡ x → b i n ≡ y → x ≡ y
    go None None ex ey = refl
    go (Some v) (Some w) ex ey = ap Some (right_agree tree m a b ha.right hb.right i n v w ex ey)
    go (Some v) None ex ey =
        let d = valued_in i n v (ha.right i n v ex) in
        let h = hb.whole i d.0 n d.1 in
        absurd (let f = ap (λ o. o) ey in let g = subst IsSome ey h in cc)
    go None (Some w) ex ey =
        let d = valued_in i n w (hb.right i n w ey) in
        let h = ha.whole i d.0 n d.1 in
        absurd (let g = subst IsSome ex h in cc)

  same_look : (a b : Look) → IsWhole tree m a → IsWhole tree m b → a ≡ b
  same_look a b ha hb = λ t i n. same_entry a b ha hb i n t

  -- a net without a value is in no whole look
  no_loop : (i k : ℕ) (look : Look) → IsFirstLoop tree m i k → IsWhole tree m look → ⊥
  no_loop i k look l w = go (look i l.name) refl where
    go : (o : Option BitVector) → look i l.name ≡ o → ⊥
    go None e = let g = subst IsSome e (w.whole i k l.name l.stands_there) in absurd (cc)
    go (Some v) e = l.no_value v (w.right i l.name v e)

  -- of two places one is first, unless they are one
  places : (i k j h : ℕ) → (((i < j) ⊎ ((i ≡ j) × (k < h))) ⊎ ((j < i) ⊎ ((j ≡ i) × (h < k)))) ⊎ ((i ≡ j) × (k ≡ h))
  places i k j h = ⊎_elim
      (λ same. ⊎_elim (λ one. inr (same, one)) (λ order. inl (⊎_elim (λ a. inl (inr (same, a))) (λ b. inr (inr (sym same, b))) order)) (cases_order k h))
      (λ order. inl (⊎_elim (λ a. inl (inl a)) (λ b. inr (inl b)) order))
      (cases_order i j)

  one_loop : (i k j h : ℕ) → IsFirstLoop tree m i k → IsFirstLoop tree m j h → LoopAt i k ≡ LoopAt j h
  one_loop i k j h a b = ⊎_elim
      (λ one. absurd (⊎_elim
      (λ earlier. let v = b.earlier_have i k a.name earlier a.stands_there in a.no_value v.0 v.1)
      (λ earlier. let v = a.earlier_have j h b.name earlier b.stands_there in b.no_value v.0 v.1)
      one))
      (λ same. ap (λ x. LoopAt x k) same.0 ∙ ap (LoopAt j) same.1)
      (places i k j h)

  -- the state after is one too, and so is whether `done` is 1
  same_after : (a b : Look) → IsWhole tree m a → IsWhole tree m b → state_after tree m a ≡ state_after tree m b
  same_after a b ha hb = ap (state_after tree m) (same_look a b ha hb)

  not_both : {P : Type 0} (a b : Look) → IsWhole tree m a → IsWhole tree m b → is_done a ≡ true → is_done b ≡ false → P
  not_both a b ha hb high low = absurd (let same = ap is_done (same_look a b ha hb) in cc)

one_run : {source : PlainSource} {s : State} {cycle left : ℕ} {o q : Outcome} → RunsFrom source s cycle left o → (p : Outcome) → p ≡ q → RunsFrom source s cycle left p → o ≡ q
one_run {source} {s} (loops {i = i} {k = k} a) p is (loops {i = j} {k = h} b) = one_loop (instances_of source) (running s) i k j h a b ∙ is
one_run {source} {s} (loops {i = i} {k = k} a) p is (ends look w d) = absurd (no_loop (instances_of source) (running s) i k look a w)
one_run {source} {s} (loops {i = i} {k = k} a) p is (spent look w d) = absurd (no_loop (instances_of source) (running s) i k look a w)
one_run {source} {s} (loops {i = i} {k = k} a) p is (goes_on look w d r) = absurd (no_loop (instances_of source) (running s) i k look a w)
one_run {source} {s} (ends look w d) p is (loops {i = i} {k = k} a) = absurd (no_loop (instances_of source) (running s) i k look a w)
one_run {source} {s} (ends look w d) p is (ends more w' d') = is
one_run {source} {s} (ends look w d) p is (spent more w' d') = not_both (instances_of source) (running s) look more w w' d d'
one_run {source} {s} (ends look w d) p is (goes_on more w' d' r) = not_both (instances_of source) (running s) look more w w' d d'
one_run {source} {s} (spent look w d) p is (loops {i = i} {k = k} a) = absurd (no_loop (instances_of source) (running s) i k look a w)
one_run {source} {s} (spent look w d) p is (ends more w' d') = not_both (instances_of source) (running s) more look w' w d' d
one_run {source} {s} (spent look w d) p is (spent more w' d') = is
one_run {source} {s} (goes_on look w d r) p is (loops {i = i} {k = k} a) = absurd (no_loop (instances_of source) (running s) i k look a w)
one_run {source} {s} (goes_on look w d r) p is (ends more w' d') = not_both (instances_of source) (running s) more look w' w d' d
one_run {source} {s} {cycle} (goes_on {left = left} look w d r) p is (goes_on more w' d' r') =
    one_run r p is (subst (λ st. RunsFrom source st (cycle + 1) left p) (same_after (instances_of source) (running s) more look w' w) r')

pub one_outcome : {source : PlainSource} {loaded : List (List ℕ)} {last : ℕ} {o q : Outcome} → SimRun source loaded last o → SimRun source loaded last q → o ≡ q
one_outcome {source} {loaded} (loops_in_reset {i = i} {k = k} a) (loops_in_reset {i = j} {k = h} b) = one_loop (instances_of source) (resetting (start_state source loaded)) i k j h a b
one_outcome {source} {loaded} (loops_in_reset {i = i} {k = k} a) (after_reset look w r) = absurd (no_loop (instances_of source) (resetting (start_state source loaded)) i k look a w)
one_outcome {source} {loaded} (after_reset look w r) (loops_in_reset {i = i} {k = k} a) = absurd (no_loop (instances_of source) (resetting (start_state source loaded)) i k look a w)
one_outcome {source} {loaded} {last} {o} {q} (after_reset look w r) (after_reset more w' r') =
    one_run r q refl (subst (λ st. RunsFrom source st 0 last q) (same_after (instances_of source) (resetting (start_state source loaded)) more look w' w) r')
