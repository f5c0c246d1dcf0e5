-- What the steps of a walk leave, and what stands at its end.
use Rattle.std.proofs.Common.{◌≡◌, ℕ, zero, suc, ◌+◌, ◌<◌, ◌≤◌, List, [], ◌∷◌, ◌++◌, Some, length, slice_get, slice_set, inl, inr, ⊎_elim, refl, sym, ap, ◌∙◌, subst, arith}
use Rattle.std.proofs.lemmas.List.{length-set, length-map}
use Rattle.std.proofs.lemmas.Option.{slice_get_within}
use Rattle.cx_text.proofs.MemberLaws.{in_at, in_either, in_left}
use Rattle.cx_text.specs.Members.{In}
use Rattle.cx_graphs.specs.declared.walking.Mark.{Mark}
use Rattle.cx_graphs.specs.declared.walking.Mark.TheVariants.{Fresh, Entered, Left}
use Rattle.cx_graphs.specs.declared.walking.Step.{Step}
use Rattle.cx_graphs.specs.declared.walking.Next.{Next}
use Rattle.std.specs.declared.vec.Vec.{Vec}
use Rattle.cx_graphs.specs.Graphs.{Edges, Bounded, IsGraph, edges_of, targets_of}
use Rattle.cx_graphs.specs.Ways.{Targets, Way, edge, further, HasCircle, Comes, HasCircleFrom, IsOrder, LeadsWithin, both}
use Rattle.cx_graphs.specs.Walks.{Is, freshness, fresh_count, IsKnown, IsChain, AreLeft, IsWalk, IsNext, AllCome, NoFresher}
use Rattle.cx_graphs.proofs.Lists.{some_is, in_last, the_last, get_left, get_last, in_get, set_here, set_other, set_from, places_differ}
use Rattle.cx_text.proofs.NumberLaws.{same_or_not}

pub fresh_entered : Fresh ≡ Entered → ⊥
fresh_entered e = cc

pub fresh_left : Fresh ≡ Left → ⊥
fresh_left e = cc

pub entered_left : Entered ≡ Left → ⊥
entered_left e = cc

pub entered_fresh : Entered ≡ Fresh → ⊥
entered_fresh e = cc

pub left_entered : Left ≡ Entered → ⊥
left_entered e = cc

pub left_fresh : Left ≡ Fresh → ⊥
left_fresh e = cc

-- how many are fresh after one is marked
pub count_set : (marks : List Mark) (n : ℕ) (before after : Mark) → Is marks n before → fresh_count (slice_set marks n after) + freshness before ≡ fresh_count marks + freshness after
count_set [] n before after e = absurd (cc)
count_set (mark ∷ marks) zero before after e = let same : freshness mark ≡ freshness before = ap freshness (some_is mark before e) in omega (arith, same)
count_set (mark ∷ marks) (suc n) before after e = let rest = count_set marks n before after e in omega (arith, rest)

pub still_left : (marks : List Mark) (n t : ℕ) → n < length marks → Is marks t Left → Is (slice_set marks n Left) t Left
still_left marks n t h l = ⊎_elim (λ e. subst (λ k. Is (slice_set marks n Left) k Left) e (set_here marks n Left h)) (λ d. set_other marks n t Left Left d l) (same_or_not n t)

module _ (targets : Targets) where
  -- CHAINS
  pub chain_front : (xs ys : List Step) → IsChain targets (xs ++ ys) → IsChain targets xs
  chain_front [] ys c = tt
  chain_front (x ∷ xs) ys c = (λ r i. c.0 r (in_left xs ys r i), chain_front xs ys c.1)

  pub chain_last : (xs : List Step) (s r : Step) → IsChain targets (xs ++ s ∷ []) → In xs r → Way targets r.node s.node × (r.node ≡ s.node → ⊥)
  chain_last [] s r c i = absurd i
  chain_last (x ∷ xs) s r c (inl e) = subst (λ (v : Step). Way targets v.node s.node × (v.node ≡ s.node → ⊥)) e (c.0 s (the_last xs s))
  chain_last (x ∷ xs) s r c (inr i) = chain_last xs s r c.1 i

  pub chain_more : (xs : List Step) (s : Step) → IsChain targets xs → ((r : Step) → In xs r → Way targets r.node s.node × (r.node ≡ s.node → ⊥)) → IsChain targets (xs ++ s ∷ [])
  chain_more [] s c h = (λ r i. absurd i, tt)
  chain_more (x ∷ xs) s c h = (
    λ r i. ⊎_elim (λ j. c.0 r j) (λ e. subst (λ (v : Step). Way targets x.node v.node × (x.node ≡ v.node → ⊥)) e (h x (inl refl))) (in_last xs s r i),
    chain_more xs s c.1 (λ r i. h r (inr i)),
  )

  -- WAYS
  pub way_on : {a b : ℕ} (c : ℕ) → Way targets a b → In (targets b) c → Way targets a c
  way_on c (edge e) i = further _ e (edge i)
  way_on c (further k e w) i = further k e (way_on c w i)

  pub comes_on : (starts : List ℕ) (a b : ℕ) → Comes targets starts a → In (targets a) b → Comes targets starts b
  comes_on starts a b (inl i) e = inr (a, i, edge e)
  comes_on starts a b (inr (s, i, w)) e = inr (s, i, way_on b w e)

  -- A WALK begins
  pub begins : (count : ℕ) (marks : List Mark) (path : List Step) (order entered : List ℕ) → length marks ≡ count → ((n : ℕ) → n < count → Is marks n Fresh)
      → path ≡ [] → order ≡ [] → entered ≡ [] → IsWalk targets count marks path order entered
  begins count marks path order entered long fresh no_path no_order none =
      let off_path : (s : Step) → In path s → ⊥ = λ s i. subst (λ l. In l s) no_path i in
      let not_ordered : (n : ℕ) → In order n → ⊥ = λ n i. subst (λ l. In l n) no_order i in
      let here : (n : ℕ) (mark : Mark) → Is marks n mark → Is marks n Fresh = λ n mark e. fresh n (subst (λ k. n < k) long (slice_get_within marks n mark e)) in
      record {
        known = record { same_length = long; within = λ n i. absurd (subst (λ l. In l n) none i); known = λ n h. inl (fresh n h) };
        on_path = λ s i. absurd (off_path s i);
        entered_on = λ n e. absurd (fresh_entered (some_is Fresh Entered (sym (here n Entered e) ∙ e)));
        chain = subst (IsChain targets) (sym no_path) tt;
        passed = λ s i. absurd (off_path s i);
        left_ordered = λ n e. absurd (fresh_left (some_is Fresh Left (sym (here n Left e) ∙ e)));
        ordered_left = λ n i. absurd (not_ordered n i);
        once = λ i j n e f. absurd (not_ordered n (in_at order i n e));
        earlier = λ i n m e f. absurd (not_ordered n (in_at order i n e));
      }

  -- a fresh node is entered
  pub enters : (count : ℕ) (marks : List Mark) (path : List Step) (order entered : List ℕ) (node : ℕ) → node < count → IsWalk targets count marks path order entered
      → Is marks node Fresh → ((s : Step) → In path s → Way targets s.node node)
      → IsWalk targets count (slice_set marks node Entered) (path ++ record { node = node; next = 0 } ∷ []) order (entered ++ node ∷ [])
  enters count marks path order entered node below w fresh ways =
      let s : Step = record { node = node; next = 0 } in
      let within : node < length marks = subst (λ k. node < k) (sym w.known.same_length) below in
      record {
        known = record {
          same_length = length-set marks node Entered ∙ w.known.same_length;
          within = λ n i. ⊎_elim (λ j. w.known.within n j) (λ e. subst (λ k. k < count) e below) (in_last entered node n i);
          known = λ n h. ⊎_elim
              (λ f. ⊎_elim (λ e. inr (subst (λ k. In (entered ++ node ∷ []) k) e (the_last entered node))) (λ d. inl (set_other marks node n Entered Fresh d f)) (same_or_not node n))
              (λ j. inr (in_left entered (node ∷ []) n j))
              (w.known.known n h);
        };
        on_path = λ r i. ⊎_elim
            (λ j. set_other marks node r.node Entered Entered (places_differ marks node r.node Fresh Entered fresh_entered fresh (w.on_path r j)) (w.on_path r j))
            (λ e. subst (λ (v : Step). Is (slice_set marks node Entered) v.node Entered) e (set_here marks node Entered within))
            (in_last path s r i);
        entered_on = λ n e. ⊎_elim
            (λ b. (s, the_last path s, b.0))
            (λ b. let r = w.entered_on n b.0 in (r.0, in_left path (s ∷ []) r.0 r.1, r.2))
            (set_from marks node n Entered Entered e);
        chain = chain_more path s w.chain (λ r i. (ways r i, λ e. places_differ marks node r.node Fresh Entered fresh_entered fresh (w.on_path r i) (sym e)));
        passed = λ r i. ⊎_elim
            (λ j k t lt e. let l = w.passed r j k t lt e in set_other marks node t Entered Left (places_differ marks node t Fresh Left fresh_left fresh l) l)
            (λ e k t lt f. let none : k < 0 = subst (λ (v : Step). k < v.next) (sym e) lt in absurd (omega (arith, none)))
            (in_last path s r i);
        left_ordered = λ n e. ⊎_elim (λ b. absurd (entered_left b.1)) (λ b. w.left_ordered n b.0) (set_from marks node n Entered Left e);
        ordered_left = λ n i. let l = w.ordered_left n i in set_other marks node n Entered Left (places_differ marks node n Fresh Left fresh_left fresh l) l;
        once = w.once;
        earlier = w.earlier;
      }

  once_more : (order : List ℕ) (node : ℕ) → ((i j n : ℕ) → slice_get order i ≡ Some n → slice_get order j ≡ Some n → i ≡ j) → (In order node → ⊥)
      → (i j n : ℕ) → slice_get (order ++ node ∷ []) i ≡ Some n → slice_get (order ++ node ∷ []) j ≡ Some n → i ≡ j
  once_more order node once new i j n e f =
      ⊎_elim
      (λ a. ⊎_elim (λ b. once i j n a b) (λ b. absurd (new (subst (In order) (sym b.1) (in_at order i n a)))) (get_last order node n j f))
      (λ a. ⊎_elim (λ b. absurd (new (subst (In order) (sym a.1) (in_at order j n b)))) (λ b. a.0 ∙ sym b.0) (get_last order node n j f))
      (get_last order node n i e)

  earlier_more : (order : List ℕ) (node : ℕ) → ((i n m : ℕ) → slice_get order i ≡ Some n → In (targets n) m → (j : ℕ) × (j < i) × (slice_get order j ≡ Some m))
      → ((m : ℕ) → In (targets node) m → In order m)
      → (i n m : ℕ) → slice_get (order ++ node ∷ []) i ≡ Some n → In (targets n) m → (j : ℕ) × (j < i) × (slice_get (order ++ node ∷ []) j ≡ Some m)
  earlier_more order node earlier all i n m e f =
      ⊎_elim
      (λ a. let r = earlier i n m a f in (r.0, r.1, get_left order (node ∷ []) r.0 m r.2))
      (λ b. let r = in_get order m (all m (subst (λ k. In (targets k) m) (sym b.1) f)) in (r.0, subst (λ k. r.0 < k) (sym b.0) r.1, get_left order (node ∷ []) r.0 m r.2))
      (get_last order node n i e)

  -- the last node of the path is left
  pub leaves : (count : ℕ) (marks : List Mark) (path : List Step) (s : Step) (order entered : List ℕ) → IsWalk targets count marks (path ++ s ∷ []) order entered
      → ((t : ℕ) → In (targets s.node) t → Is marks t Left) → IsWalk targets count (slice_set marks s.node Left) path (order ++ s.node ∷ []) entered
  leaves count marks path s order entered w all =
      let here : Is marks s.node Entered = w.on_path s (the_last path s) in
      let within : s.node < length marks = slice_get_within marks s.node Entered here in
      record {
        known = record {
          same_length = length-set marks s.node Left ∙ w.known.same_length;
          within = w.known.within;
          known = λ n h. ⊎_elim (λ f. inl (set_other marks s.node n Left Fresh (places_differ marks s.node n Entered Fresh entered_fresh here f) f)) inr (w.known.known n h);
        };
        on_path = λ r i. set_other marks s.node r.node Left Entered (λ e. (chain_last path s r w.chain i).1 (sym e)) (w.on_path r (in_left path (s ∷ []) r i));
        entered_on = λ n e. ⊎_elim
            (λ b. absurd (left_entered b.1))
            (λ b. let r = w.entered_on n b.0 in ⊎_elim (λ j. (r.0, j, r.2)) (λ f. absurd (b.1 (ap (λ (v : Step). v.node) f ∙ r.2))) (in_last path s r.0 r.1))
            (set_from marks s.node n Left Entered e);
        chain = chain_front path (s ∷ []) w.chain;
        passed = λ r i k t lt e. still_left marks s.node t within (w.passed r (in_left path (s ∷ []) r i) k t lt e);
        left_ordered = λ n e. ⊎_elim
            (λ b. subst (In (order ++ s.node ∷ [])) b.0 (the_last order s.node))
            (λ b. in_left order (s.node ∷ []) n (w.left_ordered n b.0))
            (set_from marks s.node n Left Left e);
        ordered_left = λ n i. ⊎_elim
            (λ j. still_left marks s.node n within (w.ordered_left n j))
            (λ e. subst (λ k. Is (slice_set marks s.node Left) k Left) e (set_here marks s.node Left within))
            (in_last order s.node n i);
        once = once_more order s.node w.once (λ i. entered_left (some_is Entered Left (sym here ∙ w.ordered_left s.node i)));
        earlier = earlier_more order s.node w.earlier (λ m i. w.left_ordered m (all m i));
      }

  -- the last step of the path goes on to a later edge
  pub advances : (count : ℕ) (marks : List Mark) (path : List Step) (s : Step) (order entered : List ℕ) (at : ℕ) → IsWalk targets count marks (path ++ s ∷ []) order entered
      → AreLeft (targets s.node) marks at → IsWalk targets count marks (path ++ record { node = s.node; next = at } ∷ []) order entered
  advances count marks path s order entered at w passed =
      let later : Step = record { node = s.node; next = at } in
      record {
        known = w.known;
        on_path = λ r i. ⊎_elim
            (λ j. w.on_path r (in_left path (s ∷ []) r j))
            (λ e. subst (λ (v : Step). Is marks v.node Entered) e (w.on_path s (the_last path s)))
            (in_last path later r i);
        entered_on = λ n e. let r = w.entered_on n e in ⊎_elim
            (λ j. (r.0, in_left path (later ∷ []) r.0 j, r.2))
            (λ f. (later, the_last path later, ap (λ (v : Step). v.node) f ∙ r.2))
            (in_last path s r.0 r.1);
        chain = chain_more path later (chain_front path (s ∷ []) w.chain) (λ r i. chain_last path s r w.chain i);
        passed = λ r i. ⊎_elim
            (λ j. w.passed r (in_left path (s ∷ []) r j))
            (λ e. subst (λ (v : Step). AreLeft (targets v.node) marks v.next) e passed)
            (in_last path later r i);
        left_ordered = w.left_ordered;
        ordered_left = w.ordered_left;
        once = w.once;
        earlier = w.earlier;
      }

  -- an edge to a node of the path closes a circle
  pub closes : (count : ℕ) (marks : List Mark) (path : List Step) (s : Step) (order entered : List ℕ) (t : ℕ) → IsWalk targets count marks (path ++ s ∷ []) order entered
      → In (targets s.node) t → Is marks t Entered → (r : Step) × In (path ++ s ∷ []) r × Way targets r.node r.node
  closes count marks path s order entered t w e here =
      let r = w.entered_on t here in
      ⊎_elim
      (λ i. (r.0, r.1, subst (Way targets r.0.node) (sym r.2) (way_on t (chain_last path s r.0 w.chain i).0 e)))
      (λ same. (r.0, r.1, subst (λ k. Way targets k k) (sym r.2) (subst (λ k. Way targets k t) (ap (λ (v : Step). v.node) same ∙ r.2) (edge e))))
      (in_last path s r.0 r.1)

  -- the path from a step to a fresh node
  pub ways_on : (path : List Step) (s : Step) (t : ℕ) → IsChain targets (path ++ s ∷ []) → In (targets s.node) t → (r : Step) → In (path ++ s ∷ []) r → Way targets r.node t
  ways_on path s t c e r i = ⊎_elim (λ j. way_on t (chain_last path s r c j).0 e) (λ same. subst (λ (v : Step). Way targets v.node t) same (edge e)) (in_last path s r i)

  pub all_come_more : (starts : List ℕ) (path : List Step) (s later : Step) → AllCome targets starts (path ++ s ∷ []) → later.node ≡ s.node → AllCome targets starts (path ++ later ∷ [])
  all_come_more starts path s later h same r i = ⊎_elim (λ j. h r (in_left path (s ∷ []) r j)) (λ e. subst (Comes targets starts) (sym same ∙ ap (λ (v : Step). v.node) e) (h s (the_last path s))) (in_last path later r i)

  pub all_come_on : (starts : List ℕ) (path : List Step) (s last : Step) → AllCome targets starts (path ++ s ∷ []) → In (targets s.node) last.node → AllCome targets starts ((path ++ s ∷ []) ++ last ∷ [])
  all_come_on starts path s last h e r i = ⊎_elim (λ j. h r j) (λ same. subst (λ (v : Step). Comes targets starts v.node) same (comes_on starts s.node last.node (h s (the_last path s)) e)) (in_last (path ++ s ∷ []) last r i)

  -- THE END of a walk: ways lead to earlier nodes
  pub way_down : (order : List ℕ) → ((i n m : ℕ) → slice_get order i ≡ Some n → In (targets n) m → (j : ℕ) × (j < i) × (slice_get order j ≡ Some m))
      → {m n : ℕ} → Way targets m n → (i : ℕ) → slice_get order i ≡ Some m → (j : ℕ) × (j < i) × (slice_get order j ≡ Some n)
  way_down order earlier {m} {n} (edge e) i g = earlier i m n g e
  way_down order earlier {m} {n} (further k e w) i g =
      let r = earlier i m k g e in let q = way_down order earlier w r.0 r.2 in (q.0, omega (arith, q.1, r.1), q.2)

  pub no_circle : (count : ℕ) (marks : List Mark) (path : List Step) (order entered : List ℕ) → IsWalk targets count marks path order entered → (n : ℕ) → In order n → Way targets n n → ⊥
  no_circle count marks path order entered w n i way =
      let r = in_get order n i in
      let q = way_down order w.earlier way r.0 r.2 in
      let same : r.0 ≡ q.0 = w.once r.0 q.0 n r.2 q.2 in
      omega (arith, q.1, same)

  pub no_circle_from : (count : ℕ) (marks : List Mark) (path : List Step) (order entered starts : List ℕ) → IsWalk targets count marks path order entered
      → ((n : ℕ) → In starts n → In order n) → HasCircleFrom targets starts → ⊥
  no_circle_from count marks path order entered starts w all (n, comes, way) =
      no_circle count marks path order entered w n
      (⊎_elim (λ i. all n i) (λ c. let r = in_get order c.0 (all c.0 c.1) in let q = way_down order w.earlier c.2 r.0 r.2 in in_at order q.0 n q.2) comes) way

  -- where the path is empty, what is not fresh is left
  pub left_at_end : (count : ℕ) (marks : List Mark) (order entered : List ℕ) (n : ℕ) → IsWalk targets count marks [] order entered → n < count → (Is marks n Fresh → ⊥) → In order n
  left_at_end count marks order entered n w h d = w.left_ordered n (choice marks n (subst (λ k. n < k) (sym w.known.same_length) h) d (λ e. (w.entered_on n e).1))
    where
      choice : (ms : List Mark) (n : ℕ) → n < length ms → (Is ms n Fresh → ⊥) → (Is ms n Entered → ⊥) → Is ms n Left
      choice [] n h f e = absurd (omega (arith, h))
      choice (Fresh ∷ ms) zero h f e = absurd (f refl)
      choice (Entered ∷ ms) zero h f e = absurd (e refl)
      choice (Left ∷ ms) zero h f e = refl
      choice (m ∷ ms) (suc n) h f e = choice ms n (omega (arith, h)) f e

  -- more starts
  pub from_more : (starts : List ℕ) (s : ℕ) → In starts s → HasCircleFrom targets (s ∷ []) → HasCircleFrom targets starts
  from_more starts s i (n, comes, way) = (
    n,
    ⊎_elim
        (λ j. ⊎_elim (λ e. inl (subst (In starts) e i)) (λ k. absurd k) j)
        (λ c. inr (s, i, ⊎_elim (λ e. subst (λ k. Way targets k n) (sym e) c.2) (λ k. absurd k) c.1))
        comes,
    way,
  )

pub way_map : {targets others : Targets} → ((n m : ℕ) → In (targets n) m → In (others n) m) → {m n : ℕ} → Way targets m n → Way others m n
way_map h {m} {n} (edge e) = edge (h m n e)
way_map h {m} {n} (further k e w) = further k (h m k e) (way_map h w)

pub targets_within : (g : Edges) (n m : ℕ) → In (targets_of g n) m → n < length g
targets_within [] n m i = absurd i
targets_within (ms ∷ g) zero m i = omega arith
targets_within (ms ∷ g) (suc n) m i = let rest = targets_within g n m i in omega (arith, rest)

pub way_within : (g : Edges) {m n : ℕ} → Way (targets_of g) m n → m < length g
way_within g {m} {n} (edge e) = targets_within g m n e
way_within g {m} {n} (further k e w) = targets_within g m k e

-- the walk of the same lists
pub same_walk : (targets : Targets) (count : ℕ) (marks after : List Mark) (path path_after : List Step) (order order_after entered entered_after : List ℕ)
    → IsWalk targets count marks path order entered → after ≡ marks → path_after ≡ path → order_after ≡ order → entered_after ≡ entered
    → IsWalk targets count after path_after order_after entered_after
same_walk targets count marks after path path_after order order_after entered entered_after w a b c d =
    subst (λ l. IsWalk targets count l path_after order_after entered_after) (sym a)
    (subst (λ l. IsWalk targets count marks l order_after entered_after) (sym b)
    (subst (λ l. IsWalk targets count marks path l entered_after) (sym c)
    (subst (λ l. IsWalk targets count marks path order l) (sym d) w)))

pub next_at : (first second a b : List ℕ) (ms marks : List Mark) (from : ℕ) (next : Next) → first ≡ a → second ≡ b → ms ≡ marks
    → (AreLeft (first ++ second) ms from → IsNext (first ++ second) ms next) → AreLeft (a ++ b) marks from → IsNext (a ++ b) marks next
next_at first second a b ms marks from next e f g h =
    subst (λ l. AreLeft (a ++ b) l from → IsNext (a ++ b) l next) g
    (subst (λ l. AreLeft (a ++ l) ms from → IsNext (a ++ l) ms next) f
    (subst (λ l. AreLeft (l ++ second) ms from → IsNext (l ++ second) ms next) e h))

pub both_within : {A : Type 0} (lists : List (Vec ℕ A)) (more : Edges) → IsGraph (edges_of lists) → LeadsWithin (length lists) more → (n : ℕ) → Bounded (length lists) (both (edges_of lists) more n)
both_within lists more g h n m i =
    ⊎_elim (λ j. subst (λ k. m < k) (length-map lists _) (g n m j)) (λ j. h n m j) (in_either (targets_of (edges_of lists) n) (targets_of more n) m i)

-- what a mark other than the fresh one leaves fresh was fresh
pub none_fresher : (marks : List Mark) (node : ℕ) (mark : Mark) → (mark ≡ Fresh → ⊥) → NoFresher marks (slice_set marks node mark)
none_fresher marks node mark d n f = ⊎_elim (λ b. absurd (d b.1)) (λ b. b.0) (set_from marks node n mark Fresh f)

-- the edges of a node that is not there
pub targets_gone : {A : Type 0} (lists : List (Vec ℕ A)) (node : ℕ) → length lists ≤ node → [] ≡ targets_of (edges_of lists) node
targets_gone [] node h = refl
targets_gone (x ∷ lists) zero h = absurd (omega (arith, h))
targets_gone (x ∷ lists) (suc node) h = targets_gone lists node (omega (arith, h))

-- one node is made fresh again
pub refreshes : (count : ℕ) (marks : List Mark) (entered rest : List ℕ) (node : ℕ) → entered ≡ rest ++ node ∷ [] → IsKnown count marks entered → IsKnown count (slice_set marks node Fresh) rest
refreshes count marks entered rest node e k =
    let within : node < length marks = subst (λ l. node < l) (sym k.same_length) (k.within node (subst (λ l. In l node) (sym e) (the_last rest node))) in
    let here : Is (slice_set marks node Fresh) node Fresh = set_here marks node Fresh within in
    record {
      same_length = length-set marks node Fresh ∙ k.same_length;
      within = λ n i. k.within n (subst (λ l. In l n) (sym e) (in_left rest (node ∷ []) n i));
      known = λ n h. ⊎_elim
          (λ same. inl (subst (λ j. Is (slice_set marks node Fresh) j Fresh) same here))
          (λ d. ⊎_elim
          (λ f. inl (set_other marks node n Fresh Fresh d f))
          (λ i. ⊎_elim inr (λ same. absurd (d same)) (in_last rest node n (subst (λ l. In l n) e i)))
          (k.known n h))
          (same_or_not node n);
    }

-- AN ORDER: the edges of another graph are none
pub no_more : (xs : List ℕ) (n : ℕ) → In (xs ++ []) n → In xs n
no_more xs n i = ⊎_elim (λ j. j) (λ k. absurd k) (in_either xs [] n i)

pub is_order : (g : Edges) (count : ℕ) (marks : List Mark) (order entered : List ℕ) → length g ≡ count → IsWalk (both g []) count marks [] order entered → ((n : ℕ) → n < count → In order n) → IsOrder g order
is_order g count marks order entered long w all = record {
  within = λ n i. subst (λ k. n < k) (w.known.same_length ∙ sym long) (slice_get_within marks n Left (w.ordered_left n i));
  all = λ n h. all n (subst (λ k. n < k) long h);
  once = w.once;
  earlier = λ i n m e f. w.earlier i n m e (in_left (targets_of g n) [] m f);
}

pub circle_alone : (g : Edges) (starts : List ℕ) → HasCircleFrom (both g []) starts → HasCircle (targets_of g)
circle_alone g starts (n, comes, way) = (n, way_map (λ k m i. no_more (targets_of g k) m i) way)

pub circle_from_all : (g : Edges) (starts : List ℕ) → ((n : ℕ) → n < length g → In starts n) → HasCircle (targets_of g) → HasCircleFrom (both g []) starts
circle_from_all g starts all (n, way) = (n, inl (all n (way_within g way)), way_map (λ k m i. in_left (targets_of g k) [] m i) way)
