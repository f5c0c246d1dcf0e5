-- A circle that goes by an edge of a group stands in the pruned graph.
use Rattle.std.proofs.Common.{◌≡◌, ℕ, List, ◌⊎◌, inl, inr, ⊎_elim, refl, subst}
use Rattle.cx_text.proofs.MemberLaws.{in_either, in_left, in_right}
use Rattle.cx_text.specs.Members.{In}
use Rattle.cx_graphs.specs.Graphs.{Edges, targets_of}
use Rattle.cx_graphs.specs.Ways.{Targets, Way, edge, further, HasCircle, HasCircleFrom, both}
use Rattle.cx_graphs.proofs.WalkLemmas.{way_map}

way_join : {targets : Targets} {a b c : ℕ} → Way targets a b → Way targets b c → Way targets a c
way_join (edge e) w = further _ e w
way_join (further k e v) w = further k e (way_join v w)

module _ (g more pruned : Edges) (back : ℕ → Type 0) (keep : (m n : ℕ) → In (targets_of g m) n → back n → In (targets_of pruned m) n)
    (from_more : (m n : ℕ) → In (targets_of more m) n → back m) (along : (m n : ℕ) → In (targets_of g m) n → back n → back m) where
  -- a way to a node from which a group is reached is kept
  pruned_way : {a b : ℕ} → back b → Way (both g more) a b → Way (both pruned more) a b × back a
  pruned_way {a} {b} h (edge e) =
      ⊎_elim
      (λ i. (edge (in_left (targets_of pruned a) (targets_of more a) b (keep a b i h)), along a b i h))
      (λ i. (edge (in_right (targets_of pruned a) (targets_of more a) b i), from_more a b i))
      (in_either (targets_of g a) (targets_of more a) b e)
  pruned_way {a} {b} h (further k e w) =
      let r = pruned_way h w in
      ⊎_elim
      (λ i. (further k (in_left (targets_of pruned a) (targets_of more a) k (keep a k i r.1)) r.0, along a k i r.1))
      (λ i. (further k (in_right (targets_of pruned a) (targets_of more a) k i) r.0, from_more a k i))
      (in_either (targets_of g a) (targets_of more a) k e)

  -- a way goes along the graph alone, or by a node from which an edge of the group leads
  record ByMore (a b : ℕ) : Type 0 where
    node : ℕ
    target : ℕ
    leads : In (targets_of more node) target
    to : (a ≡ node) ⊎ Way (both g more) a node
    on : Way (both g more) node b

  way_by : {a b : ℕ} → Way (both g more) a b → Way (targets_of g) a b ⊎ ByMore a b
  way_by {a} {b} (edge e) =
      ⊎_elim
      (λ i. inl (edge i))
      (λ i. inr (record { node = a; target = b; leads = i; to = inl refl; on = edge e }))
      (in_either (targets_of g a) (targets_of more a) b e)
  way_by {a} {b} (further k e w) =
      ⊎_elim
      (λ v. ⊎_elim
      (λ i. inl (further k i v))
      (λ i. inr (record { node = a; target = k; leads = i; to = inl refl; on = further k e w }))
      (in_either (targets_of g a) (targets_of more a) k e))
      (λ r. inr (record {
        node = r.node;
        target = r.target;
        leads = r.leads;
        to = inr (⊎_elim (λ same. subst (Way (both g more) a) same (edge e)) (λ v. further k e v) r.to);
        on = r.on;
      }))
      (way_by w)

  pub circle_kept : (starts : List ℕ) → ((m n : ℕ) → In (targets_of more m) n → In starts m) → (HasCircle (targets_of g) → ⊥) → HasCircle (both g more) → HasCircleFrom (both pruned more) starts
  circle_kept starts begins none (n, w) =
      ⊎_elim
      (λ v. absurd (none (n, v)))
      (λ r. let circle : Way (both g more) r.node r.node = ⊎_elim (λ same. subst (Way (both g more) r.node) same r.on) (λ v. way_join r.on v) r.to in
      (r.node, inl (begins r.node r.target r.leads), (pruned_way (from_more r.node r.target r.leads) circle).0))
      (way_by w)

pub pruned_circle : (g more pruned : Edges) (starts : List ℕ) → ((m n : ℕ) → In (targets_of pruned m) n → In (targets_of g m) n) → HasCircleFrom (both pruned more) starts → HasCircle (both g more)
pruned_circle g more pruned starts sub (n, comes, way) = (
  n,
  way_map
      (λ m k i. ⊎_elim (λ j. in_left (targets_of g m) (targets_of more m) k (sub m k j)) (λ j. in_right (targets_of g m) (targets_of more m) k j) (in_either (targets_of pruned m) (targets_of more m) k i))
      way,
)

-- where no edge of the group leads to a node from which the group is reached, a way to one goes along the graph alone
module _ (g more : Edges) (back : ℕ → Type 0) (from_more : (m n : ℕ) → In (targets_of more m) n → back m) (along : (m n : ℕ) → In (targets_of g m) n → back n → back m)
    (never : (m n : ℕ) → In (targets_of more m) n → back n → ⊥) where
  plain_way : {a b : ℕ} → back b → Way (both g more) a b → Way (targets_of g) a b × back a
  plain_way {a} {b} h (edge e) = ⊎_elim (λ i. (edge i, along a b i h)) (λ i. absurd (never a b i h)) (in_either (targets_of g a) (targets_of more a) b e)
  plain_way {a} {b} h (further k e w) =
      let r = plain_way h w in ⊎_elim (λ i. (further k i r.0, along a k i r.1)) (λ i. absurd (never a k i r.1)) (in_either (targets_of g a) (targets_of more a) k e)

  pub no_circle_back : (HasCircle (targets_of g) → ⊥) → HasCircle (both g more) → ⊥
  no_circle_back none (n, w) =
      ⊎_elim
      (λ v. none (n, v))
      (λ r. let circle : Way (both g more) r.node r.node = ⊎_elim (λ same. subst (Way (both g more) r.node) same r.on) (λ v. way_join r.on v) r.to in
      none (r.node, (plain_way (from_more r.node r.target r.leads) circle).0))
      (way_by g more g back (λ m k i h. i) from_more along w)
