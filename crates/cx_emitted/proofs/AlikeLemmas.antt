-- States that hold the same in registers and in words run alike.
use Rattle.std.proofs.Common.{◌≡◌, ℕ, ◌==◌, nat_lt, not, List, [], ◌∷◌, Bool, true, false, Option, Some, None, map, option_map, option_and_then, if◌then◌else◌, refl, sym, ap, ◌∙◌, subst}
use Rattle.std.specs.Option.{option_map_or}
use Rattle.cx_bits.specs.BitVector.{BitVector}
use Rattle.cx_text.specs.Loading.{word_count}
use Rattle.cx_vtree.specs.Operators.{operate, inverted, joined}
use Rattle.cx_vtree.specs.Plain.{PlainExpr, Named, Number, Part, Word, Applied, Inverted, Chosen, Joined, PlainDecl, WireOf, RegisterOf, ArrayOf, PlainStore, PlainExternal, PlainSource}
use Rattle.cx_vtree.specs.InstanceTree.{Placed, same_name, decls_at, Origin, Outside, Tied, Held, Given, origin_of, assigned, instances_of}
use Rattle.cx_vtree.specs.Meaning.{State, Moment, running, Look, word_in, expr_in, expr_at, from_origin, step, HasValue, by_step}
use Rattle.cx_vtree.specs.Edges.{acting_sets, acting_stores, edge_at, number_or, array_size, store_to, word_by, state_after}
use Rattle.cx_vtree.specs.SimRun.{Outcome, DoneAt, IsWhole, instance_named, first_array, numbers_from, words_in, RunsFrom, loops, ends, spent, goes_on}

-- two states hold the same in each register that is there, and in each word
pub record Alike (tree : List Placed) (s t : State) : Type 0 where
  pub registers : (i : ℕ) (name : List ℕ) (w : ℕ) → origin_of tree i name ≡ Some (Held w) → s.register i name ≡ t.register i name
  pub words : (i : ℕ) (name : List ℕ) (index : ℕ) → s.word i name index ≡ t.word i name index

words_alike : (f g : List ℕ → ℕ → ℕ) → ((n : List ℕ) (k : ℕ) → f n k ≡ g n k) → (ds : List PlainDecl) (name : List ℕ) (k : ℕ) → word_in f ds name k ≡ word_in g ds name k
words_alike f g same [] name k = refl
words_alike f g same (ArrayOf n w size ∷ ds) name k =
    ap (λ v. if same_name n name then record { width = w; value = if nat_lt k size then v else 0 } else word_in f ds name k) (same name k)
    ∙ ap (λ (b : BitVector). if same_name n name then record { width = w; value = if nat_lt k size then g name k else 0 } else b) (words_alike f g same ds name k)
words_alike f g same (WireOf n w ∷ ds) name k = words_alike f g same ds name k
words_alike f g same (RegisterOf n w ∷ ds) name k = words_alike f g same ds name k

expr_alike : (nets : List ℕ → Option BitVector) (f g : List ℕ → ℕ → BitVector) → ((n : List ℕ) (k : ℕ) → f n k ≡ g n k) → (e : PlainExpr) → expr_in nets f e ≡ expr_in nets g e
expr_alike nets f g same (Named n) = refl
expr_alike nets f g same (Number b) = refl
expr_alike nets f g same (Part n high low) = refl
expr_alike nets f g same (Word n i) = ap (option_map (λ (k : BitVector). f n k.value)) (expr_alike nets f g same i) ∙ by (expr_in nets g i) where
  by : (o : Option BitVector) → option_map (λ (k : BitVector). f n k.value) o ≡ option_map (λ (k : BitVector). g n k.value) o
  by None = refl
  by (Some k) = ap Some (same n k.value)
expr_alike nets f g same (Applied op a b) =
    ap (option_and_then (λ x. option_map (operate op x) (expr_in nets f b))) (expr_alike nets f g same a)
    ∙ ap (λ o. option_and_then (λ x. option_map (operate op x) o) (expr_in nets g a)) (expr_alike nets f g same b)
expr_alike nets f g same (Inverted a) = ap (option_map inverted) (expr_alike nets f g same a)
expr_alike nets f g same (Chosen c a b) =
    ap (option_and_then (λ (t : BitVector). if t.value == 0 then expr_in nets f b else expr_in nets f a)) (expr_alike nets f g same c)
    ∙ ap (λ o. option_and_then (λ (t : BitVector). if t.value == 0 then o else expr_in nets f a) (expr_in nets g c)) (expr_alike nets f g same b)
    ∙ ap (λ o. option_and_then (λ (t : BitVector). if t.value == 0 then expr_in nets g b else o) (expr_in nets g c)) (expr_alike nets f g same a)
expr_alike nets f g same (Joined a b) =
    ap (option_and_then (λ x. option_map (joined x) (expr_in nets f b))) (expr_alike nets f g same a)
    ∙ ap (λ o. option_and_then (λ x. option_map (joined x) o) (expr_in nets g a)) (expr_alike nets f g same b)

map_alike : (f g : ℕ → ℕ) → ((n : ℕ) → f n ≡ g n) → (ns : List ℕ) → map f ns ≡ map g ns
map_alike f g same [] = refl
map_alike f g same (n ∷ ns) = ap (λ x. x ∷ map f ns) (same n) ∙ ap (λ xs. g n ∷ xs) (map_alike f g same ns)

-- a cycle with this go and without reset
abbrev now : ℕ → State → Moment
now go s = record { state = s; reset = 0; go = go }

module _ (tree : List Placed) where
  turned : (s t : State) → Alike tree s t → Alike tree t s
  turned s t a = record { registers = λ i name w e. sym (a.registers i name w e); words = λ i name k. sym (a.words i name k) }

  module _ (go : ℕ) (s t : State) (a : Alike tree s t) where
    at_alike : (look : Look) (i : ℕ) (e : PlainExpr) → expr_at tree (now go s) look i e ≡ expr_at tree (now go t) look i e
    at_alike look i e = expr_alike (look i) _ _ (words_alike (s.word i) (t.word i) (a.words i) (decls_at tree i)) e

    origin_alike : (look : Look) (i : ℕ) (name : List ℕ) (o : Option Origin) → origin_of tree i name ≡ o
        → option_and_then (from_origin tree (now go s) look i name) o ≡ option_and_then (from_origin tree (now go t) look i name) o
    origin_alike look i name None e = refl
    origin_alike look i name (Some Outside) e = refl
    origin_alike look i name (Some (Tied j net)) e = refl
    origin_alike look i name (Some (Held w)) e = ap (λ v. Some (record { width = w; value = v })) (a.registers i name w e)
    origin_alike look i name (Some (Given x)) e = at_alike look i x

    step_alike : (look : Look) (i : ℕ) (name : List ℕ) → step tree (now go s) look i name ≡ step tree (now go t) look i name
    step_alike look i name = origin_alike look i name (origin_of tree i name) refl

    has_alike : {i : ℕ} {name : List ℕ} {v : BitVector} → HasValue tree (now go s) i name v → HasValue tree (now go t) i name v
    has_alike {i} {name} (by_step look right e) = by_step look (λ j net w f. has_alike (right j net w f)) (sym (step_alike look i name) ∙ e)

    pub whole_alike : (look : Look) → IsWhole tree (now go s) look → IsWhole tree (now go t) look
    whole_alike look w = record { right = λ j net v e. has_alike (w.right j net v e); whole = w.whole }

    stored_alike : (look : Look) (i old new index : ℕ) → old ≡ new → (x : PlainStore) → word_by tree (now go s) look i old index x ≡ word_by tree (now go t) look i new index x
    stored_alike look i old new index same x =
        ap (λ o. word_by tree (now go s) look i o index x) same
        ∙ ap (λ g. if not (number_or 0 g == 0) then (if option_map_or (λ (b : BitVector). b.value == index) (expr_at tree (now go s) look i x.index) false then number_or new (expr_at tree (now go s) look i x.value) else new) else new) (at_alike look i x.guard)
        ∙ ap (λ g. if not (number_or 0 (expr_at tree (now go t) look i x.guard) == 0) then (if option_map_or (λ (b : BitVector). b.value == index) g false then number_or new (expr_at tree (now go s) look i x.value) else new) else new) (at_alike look i x.index)
        ∙ ap (λ g. if not (number_or 0 (expr_at tree (now go t) look i x.guard) == 0) then (if option_map_or (λ (b : BitVector). b.value == index) (expr_at tree (now go t) look i x.index) false then number_or new g else new) else new) (at_alike look i x.value)

    pub after_alike : (look : Look) → Alike tree (state_after tree (now go s) look) (state_after tree (now go t) look)
    after_alike look = record {
      registers = λ i name w e. register i name (assigned (acting_sets 0 (edge_at tree i)) name) (a.registers i name w e);
      words = λ i name k. word i name k (store_to (acting_stores 0 (edge_at tree i)) name) (nat_lt k (array_size (decls_at tree i) name)) (a.words i name k);
    } where
      register : (i : ℕ) (name : List ℕ) (o : Option PlainExpr) → s.register i name ≡ t.register i name
          → option_map_or (λ e. number_or (s.register i name) (expr_at tree (now go s) look i e)) o (s.register i name) ≡ option_map_or (λ e. number_or (t.register i name) (expr_at tree (now go t) look i e)) o (t.register i name)
      register i name None same = same
      register i name (Some e) same = ap (λ v. number_or v (expr_at tree (now go s) look i e)) same ∙ ap (number_or (t.register i name)) (at_alike look i e)

      word : (i : ℕ) (name : List ℕ) (k : ℕ) (o : Option PlainStore) (b : Bool) → s.word i name k ≡ t.word i name k
          → (if b then option_map_or (word_by tree (now go s) look i (s.word i name k) k) o (s.word i name k) else s.word i name k) ≡ (if b then option_map_or (word_by tree (now go t) look i (t.word i name k) k) o (t.word i name k) else t.word i name k)
      word i name k o false same = same
      word i name k None true same = same
      word i name k (Some x) true same = stored_alike look i (s.word i name k) (t.word i name k) k same x

  module _ (s t : State) (a : Alike tree s t) where
    -- the words that are told are the same
    pub told_alike : (es : List PlainExternal) → map (words_in tree s) es ≡ map (words_in tree t) es
    told_alike [] = refl
    told_alike (e ∷ es) = ap (λ x. x ∷ map (words_in tree s) es) (one (instance_named tree 0 e.instance)) ∙ ap (λ xs. words_in tree t e ∷ xs) (told_alike es) where
      one : (o : Option ℕ) → option_map_or (λ j. map (s.word j (first_array (decls_at tree j))) (numbers_from 0 (word_count e.sizes))) o []
          ≡ option_map_or (λ j. map (t.word j (first_array (decls_at tree j))) (numbers_from 0 (word_count e.sizes))) o []
      one None = refl
      one (Some j) = map_alike _ _ (a.words j (first_array (decls_at tree j))) (numbers_from 0 (word_count e.sizes))

-- STATES ALIKE RUN ALIKE
pub runs_alike : (source : PlainSource) {s : State} {cycle left : ℕ} {o : Outcome} → RunsFrom source s cycle left o → (t : State) → Alike (instances_of source) s t → RunsFrom source t cycle left o
runs_alike source {s} {cycle} {left} (loops l) t a =
    loops (record {
      name = l.name;
      stands_there = l.stands_there;
      no_value = λ v h. l.no_value v (has_alike (instances_of source) 1 t s (turned (instances_of source) s t a) h);
      earlier_have = λ i k n before there. let x = l.earlier_have i k n before there in (x.0, has_alike (instances_of source) 1 s t a x.1);
    })
runs_alike source {s} {cycle} {left} (ends look w d) t a =
    subst (λ ws. RunsFrom source t cycle left (DoneAt cycle ws)) (sym (told_alike (instances_of source) s t a source.externals)) (ends look (whole_alike (instances_of source) 1 s t a look w) d)
runs_alike source {s} (spent look w d) t a = spent look (whole_alike (instances_of source) 1 s t a look w) d
runs_alike source {s} (goes_on look w d rest) t a =
    goes_on look (whole_alike (instances_of source) 1 s t a look w) d (runs_alike source rest (state_after (instances_of source) (running t) look) (after_alike (instances_of source) 1 s t a look))
