-- A search for the grounded nodes begins, goes on, and ends.
use Rattle.std.proofs.Common.{◌≡◌, ◌<◌, ◌≤◌, ℕ, zero, suc, Bool, true, false, List, [], ◌∷◌, ◌++◌, Some, length, take, get_or, slice_get, slice_set, replicate, ◌⊎◌, inl, inr, ⊎_elim, refl, sym, ap, ◌∙◌, subst, arith}
use Rattle.std.proofs.lemmas.List.{length-set}
use Rattle.std.proofs.Math.ListN.{length-replicate}
use Rattle.cx_text.specs.Members.{In}
use Rattle.cx_graphs.specs.Graphs.{Edges, targets_of, Bounded, Marked}
use Rattle.cx_graphs.specs.Edges.{with_edge, without_edges, no_edges}
use Rattle.cx_graphs.specs.Grounds.{IsGrounded, grounded, is_grounded}
use Rattle.cx_graphs.specs.GroundSearch.{AllMarked, Waits, IsOnWay}
use Rattle.cx_graphs.proofs.Ends.{ends_are_grounded, grounded_end}
use Rattle.cx_graphs.proofs.EdgeLemmas.{length-with_edge, length-without_edges, length-no_edges, in_front, in_end, front_or_end, edge_added, edge_kept, edge_from, taken_or_left, none_of_taken, left_from, no_edge}
use Rattle.cx_graphs.proofs.Takes.{in_take_all, marked_here, marked_still, marked_from, no_mark, set_or_same, zero_at, none_taken}

module _ (g : Edges) where
  pub begins : (nodes : ℕ) (all : List ℕ) → length g ≡ nodes → Bounded nodes all → ((n : ℕ) → n < nodes → In all n)
      → IsOnWay g (replicate nodes false) (replicate nodes 0) (no_edges nodes) [] all
  begins nodes all same few each = record {
    mark_count = length-replicate nodes false ∙ sym same;
    known_count = length-replicate nodes 0 ∙ sym same;
    waiting_count = length-no_edges nodes ∙ sym same;
    sound = λ n h. absurd (no_mark nodes n h);
    met = λ n m i. absurd (none_taken (targets_of g n) m (subst (λ k. In (take k (targets_of g n)) m) (zero_at nodes n) i));
    placed = λ n within. inr (inl (each n (subst (λ k. n < k) same within)));
    few_wait = λ m n i. absurd (no_edge nodes m n i);
    few_fresh = λ n i. absurd i;
    few_todo = λ n i. subst (λ k. n < k) (sym same) (few n i);
  }

  pub begins_at : (nodes : ℕ) (all : List ℕ) (marks : List Bool) (known : List ℕ) (waiting : Edges) (fresh : List ℕ) → length g ≡ nodes → Bounded nodes all → ((n : ℕ) → n < nodes → In all n)
      → marks ≡ replicate nodes false → known ≡ replicate nodes 0 → waiting ≡ no_edges nodes → fresh ≡ [] → IsOnWay g marks known waiting fresh all
  begins_at nodes all marks known waiting fresh same few each bare none apart empty =
      subst (λ m. IsOnWay g m known waiting fresh all) (sym bare)
      (subst (λ k. IsOnWay g (replicate nodes false) k waiting fresh all) (sym none)
      (subst (λ w. IsOnWay g (replicate nodes false) (replicate nodes 0) w fresh all) (sym apart)
      (subst (λ f. IsOnWay g (replicate nodes false) (replicate nodes 0) (no_edges nodes) f all) (sym empty) (begins nodes all same few each))))

  module _ (marks : List Bool) (known : List ℕ) (waiting : Edges) (fresh todo : List ℕ) (node : ℕ) (way : IsOnWay g marks known waiting fresh (node ∷ todo)) where
    node_within : node < length g
    node_within = way.few_todo node (inl refl)

    -- a node that is marked already
    pub settles_marked : Marked marks node → IsOnWay g marks known waiting fresh todo
    settles_marked marked = record {
      mark_count = way.mark_count;
      known_count = way.known_count;
      waiting_count = way.waiting_count;
      sound = way.sound;
      met = way.met;
      placed = λ n within. ⊎_elim (λ m. inl m) (λ p. ⊎_elim (λ t. ⊎_elim (λ e. inl (subst (Marked marks) e marked)) (λ i. inr (inl i)) t) (λ w. inr (inr w)) p) (way.placed n within);
      few_wait = way.few_wait;
      few_fresh = way.few_fresh;
      few_todo = λ n i. way.few_todo n (inr i);
    }

    met_now : (next : ℕ) → AllMarked marks (take next (targets_of g node)) → (n : ℕ) → AllMarked marks (take (get_or (slice_set known node next) n 0) (targets_of g n))
    met_now next here n m i =
        ⊎_elim
        (λ same. way.met n m (subst (λ k. In (take k (targets_of g n)) m) same i))
        (λ set. here m (subst (λ v. In (take next (targets_of g v)) m) (sym set.0) (subst (λ k. In (take k (targets_of g n)) m) set.1 i)))
        (set_or_same known node next n)

    -- a node that waits
    pub settles_waiting : (next need : ℕ) → AllMarked marks (take next (targets_of g node)) → need < length g → In (targets_of g node) need
        → slice_get marks need ≡ Some false → IsOnWay g marks (slice_set known node next) (with_edge waiting need node) fresh todo
    settles_waiting next need here within edge bare = record {
      mark_count = way.mark_count;
      known_count = length-set known node next ∙ way.known_count;
      waiting_count = length-with_edge waiting need node ∙ way.waiting_count;
      sound = way.sound;
      met = met_now next here;
      placed = λ n inside. ⊎_elim (λ m. inl m) (λ p. ⊎_elim (λ t. ⊎_elim (λ e. inr (inr (subst (λ v. Waits g marks (with_edge waiting need node) fresh v) e it_waits))) (λ i. inr (inl i)) t) (λ w. inr (inr (still n w))) p) (way.placed n inside);
      few_wait = λ m n i. ⊎_elim (λ j. way.few_wait m n j) (λ e. subst (λ v. v < length g) e node_within) (edge_from waiting need node m n i);
      few_fresh = way.few_fresh;
      few_todo = λ n i. way.few_todo n (inr i);
    }
      where
        it_waits : Waits g marks (with_edge waiting need node) fresh node
        it_waits = record {
          need = need;
          edge = edge;
          waits = edge_added waiting need node (subst (λ k. need < k) (sym way.waiting_count) within);
          not_gone = λ h. absurd (let wrong : Some true ≡ Some false = sym h ∙ bare in cc);
        }

        still : (n : ℕ) → Waits g marks waiting fresh n → Waits g marks (with_edge waiting need node) fresh n
        still n w = record { need = w.need; edge = w.edge; waits = edge_kept waiting need node w.need n w.waits; not_gone = w.not_gone }

    -- a node that is marked now
    pub settles_marking : (next : ℕ) → AllMarked marks (take next (targets_of g node)) → length (targets_of g node) ≤ next
        → IsOnWay g (slice_set marks node true) (slice_set known node next) waiting (fresh ++ node ∷ []) todo
    settles_marking next here all = record {
      mark_count = length-set marks node true ∙ way.mark_count;
      known_count = length-set known node next ∙ way.known_count;
      waiting_count = way.waiting_count;
      sound = λ n h. ⊎_elim (way.sound n) (λ e. subst (IsGrounded g) e is_grounded_now) (marked_from marks node n h);
      met = λ n m i. marked_still marks node m (met_now next here n m i);
      placed = λ n inside. ⊎_elim (λ m. inl (marked_still marks node n m)) (λ p. ⊎_elim (λ t. ⊎_elim (λ e. inl (subst (Marked (slice_set marks node true)) e marked)) (λ i. inr (inl i)) t) (λ w. inr (inr (still n w))) p) (way.placed n inside);
      few_wait = way.few_wait;
      few_fresh = λ n i. ⊎_elim (way.few_fresh n) (λ e. subst (λ v. v < length g) e node_within) (front_or_end fresh node n i);
      few_todo = λ n i. way.few_todo n (inr i);
    }
      where
        marked : Marked (slice_set marks node true) node
        marked = marked_here marks node (subst (λ k. node < k) (sym way.mark_count) node_within)

        is_grounded_now : IsGrounded g node
        is_grounded_now = grounded node_within (λ m i. way.sound m (here m (in_take_all (targets_of g node) next m all i)))

        still : (n : ℕ) → Waits g marks waiting fresh n → Waits g (slice_set marks node true) waiting (fresh ++ node ∷ []) n
        still n w = record {
          need = w.need;
          edge = w.edge;
          waits = w.waits;
          not_gone = λ h. ⊎_elim (λ m. in_front fresh node w.need (w.not_gone m)) (λ e. subst (In (fresh ++ node ∷ [])) e (in_end fresh node)) (marked_from marks node w.need h);
        }

  -- the nodes that wait for a marked one have yet to be settled
  pub wakes : (marks : List Bool) (known : List ℕ) (waiting : Edges) (fresh rest : List ℕ) (node : ℕ) → fresh ≡ rest ++ node ∷ []
      → IsOnWay g marks known waiting fresh [] → IsOnWay g marks known (without_edges waiting node) rest (targets_of waiting node)
  wakes marks known waiting fresh rest node split way = record {
    mark_count = way.mark_count;
    known_count = way.known_count;
    waiting_count = length-without_edges waiting node ∙ way.waiting_count;
    sound = way.sound;
    met = way.met;
    placed = λ n inside. ⊎_elim (λ m. inl m) (λ p. ⊎_elim (λ t. absurd t) (λ w. inr (woken n w)) p) (way.placed n inside);
    few_wait = λ m n i. way.few_wait m n (left_from waiting node m n i);
    few_fresh = λ n i. way.few_fresh n (subst (λ l. In l n) (sym split) (in_front rest node n i));
    few_todo = λ n i. way.few_wait node n i;
  }
    where
      woken : (n : ℕ) → Waits g marks waiting fresh n → In (targets_of waiting node) n ⊎ Waits g marks (without_edges waiting node) rest n
      woken n w = ⊎_elim (λ h. inl h.1) (λ left. inr (record {
        need = w.need;
        edge = w.edge;
        waits = left;
        not_gone = λ h. ⊎_elim (λ i. i) (λ e. absurd (none_of_taken waiting node n (subst (λ v. In (targets_of (without_edges waiting node) v) n) (sym e) left)))
            (front_or_end rest node w.need (subst (λ l. In l w.need) split (w.not_gone h)));
      })) (taken_or_left waiting node w.need n w.waits)

  -- at the end what is grounded is marked
  marked_at_end : (marks : List Bool) (known : List ℕ) (waiting : Edges) → IsOnWay g marks known waiting [] [] → (n : ℕ) → IsGrounded g n → Marked marks n
  marked_at_end marks known waiting way n (grounded within targets) =
      ⊎_elim (λ m. m) (λ p. ⊎_elim (λ t. absurd t) (λ w. absurd (w.not_gone (marked_at_end marks known waiting way w.need (targets w.need w.edge)))) p) (way.placed n within)

  pub ends : (marks : List Bool) (known : List ℕ) (waiting : Edges) → IsOnWay g marks known waiting [] [] → (n : ℕ) → n < length g → slice_get marks n ≡ Some (is_grounded g n)
  ends marks known waiting way n within = by_mark (slice_get_there marks n (subst (λ k. n < k) (sym way.mark_count) within))
    where
      slice_get_there : (ms : List Bool) (k : ℕ) → k < length ms → (b : Bool) × (slice_get ms k ≡ Some b)
      slice_get_there [] k h = absurd (omega (arith, h))
      slice_get_there (m ∷ ms) zero h = (m, refl)
      slice_get_there (m ∷ ms) (suc k) h = slice_get_there ms k (omega (arith, h))

      same_truth : (a b : Bool) → (a ≡ true → b ≡ true) → (b ≡ true → a ≡ true) → a ≡ b
      same_truth true b f h = sym (f refl)
      same_truth false true f h = h refl
      same_truth false false f h = refl

      truth : (b : Bool) → slice_get marks n ≡ Some b → b ≡ is_grounded g n
      truth b at =
          same_truth b (is_grounded g n)
          (λ e. grounded_end g n (way.sound n (at ∙ ap Some e)))
          (λ e. let marked = marked_at_end marks known waiting way n (ends_are_grounded g (length g) n e) in let same : Some b ≡ Some true = sym at ∙ marked in cc)

      by_mark : (b : Bool) × (slice_get marks n ≡ Some b) → slice_get marks n ≡ Some (is_grounded g n)
      by_mark h = h.1 ∙ ap Some (truth h.0 h.1)
