-- What stands at the first place of a name.
use Rattle.std.proofs.Common.{◌≡◌, ℕ, suc, ◌+◌, ◌<◌, ◌≤◌, Bool, true, false, cond, ◌||◌, List, [], ◌∷◌, ◌++◌, map, length, take, get_or, Option, Some, None, is_some, slice_get, option_map, refl, ap, sym, ◌∙◌, arith, if◌then◌else◌}
use Rattle.std.specs.HashMap as maps
use Rattle.std.specs.HashMap.{HashMap}
use Rattle.std.specs.Cmp.Lexicographic.{same_text}
use Rattle.std.specs.Option.{option_or, unwrap_or}
use Rattle.std.proofs.lemmas.List.{length-take-le, map_push, take_more}
use Rattle.std.proofs.lemmas.Option.{slice_get-map, slice_get_past}
use denote.Ref.{Bor}
use Rattle.cx_vtree.specs.InstanceTree.{same_name}
use Rattle.cx_vtree.specs.Plain.{PlainInstance, PlainModule}
use Rattle.cx_vtree.specs.Sound.{Counts, counts_named, has_name, instance_kind, module_named, no_counts}
use Rattle.cx_vscope.specs.declared.drafts.DraftModule.{DraftModule}
use Rattle.cx_vscope.specs.Drafts.{draft_module, draft_modules}
use Rattle.cx_vtree.specs.declared.modules.Instance.{Instance}
use Rattle.cx_vtree.specs.PlainParts.{plain_instance}
use Rattle.cx_vsound.specs.declared.counts.Sums.{Sums}
use Rattle.cx_vsound.specs.Parts.{counts_in}
use Rattle.cx_vsound.specs.Firsts.{HasFirst, instance_names, module_names}
use Rattle.cx_vtree.specs.NameNumbers.{position, number_by}
use Rattle.cx_text.proofs.ListLaws.{length-map}
use Rattle.cx_text.proofs.OptionLaws.{none_of, option_or-none}

-- a name without a number gets one
pub entered : {S : Type 0} (m n : HashMap (Bor (List ℕ)) ℕ S) (key : Bor (List ℕ)) (v : ℕ) → is_some (number_by m key.now) ≡ false → maps.Updates (λ x y. same_name x.now y.now) m n key (Some v)
    → (q : List ℕ) → number_by n q ≡ option_or (number_by m q) (if same_name key.now q then Some v else None)
entered m n key v none up q = up.0 (record { ref_ptr = (0, 0); now = q }) ∙ go (same_name key.now q) refl where
  go : (t : Bool) → same_name key.now q ≡ t → cond t (Some v) (number_by m q) ≡ option_or (number_by m q) (if t then Some v else None)
  go true e = ap (λ o. option_or o (Some v)) (sym (none_of (number_by m key.now) none) ∙ ap (number_by m) (same_text key.now q (sym e)))
  go false e = sym (option_or-none (number_by m q))

-- one name more
later : (t : Bool) (o : Option ℕ) (n : ℕ) → option_map suc (option_or o (if t then Some n else None)) ≡ option_or (option_map suc o) (if t then Some (suc n) else None)
later true None n = refl
later true (Some k) n = refl
later false None n = refl
later false (Some k) n = refl

first_more : (ns : List (List ℕ)) (n q : List ℕ) → position (ns ++ n ∷ []) q ≡ option_or (position ns q) (if same_name n q then Some (length ns) else None)
first_more [] n q = refl
first_more (x ∷ ns) n q = go (same_name x q) (first_more ns n q)
  where
    go : (t : Bool) → position (ns ++ n ∷ []) q ≡ option_or (position ns q) (if same_name n q then Some (length ns) else None)
        → (if t then Some 0 else option_map suc (position (ns ++ n ∷ []) q)) ≡ option_or (if t then Some 0 else option_map suc (position ns q)) (if same_name n q then Some (suc (length ns)) else None)
    go true e = refl
    go false e = ap (option_map suc) e ∙ later (same_name n q) (position ns q) (length ns)

pub has_more : {S : Type 0} (m n : HashMap (Bor (List ℕ)) ℕ S) (ns more : List (List ℕ)) (name : List ℕ) (v : ℕ) → HasFirst m ns
    → ((q : List ℕ) → number_by n q ≡ option_or (number_by m q) (if same_name name q then Some v else None)) → v ≡ length ns → more ≡ ns ++ name ∷ [] → HasFirst n more
has_more m n ns more name v has put is is_more q =
    put q ∙ ap (λ o. option_or o (if same_name name q then Some v else None)) (has q) ∙ ap (λ k. option_or (position ns q) (if same_name name q then Some k else None)) is
    ∙ sym (first_more ns name q) ∙ ap (λ l. position l q) (sym is_more)

-- what has a number, and what has none
module-at : (ms : List PlainModule) (q : List ℕ) (n : ℕ) → position (module_names ms) q ≡ Some n → module_named ms q ≡ slice_get ms n
module-at [] q n e = absurd (cc)
module-at (m ∷ ms) q n e = go (same_name m.name q) (position (module_names ms) q) e (module-at ms q)
  where
    go : (t : Bool) (o : Option ℕ) → (if t then Some 0 else option_map suc o) ≡ Some n → ((k : ℕ) → o ≡ Some k → module_named ms q ≡ slice_get ms k)
        → (if t then Some m else module_named ms q) ≡ slice_get (m ∷ ms) n
    go true o e h = let zero_is : 0 ≡ n = cc in ap (slice_get (m ∷ ms)) zero_is
    go false None e h = absurd (cc)
    go false (Some k) e h = let next : suc k ≡ n = cc in h k refl ∙ ap (slice_get (m ∷ ms)) next

module-none : (ms : List PlainModule) (q : List ℕ) → position (module_names ms) q ≡ None → module_named ms q ≡ None
module-none [] q e = refl
module-none (m ∷ ms) q e = go (same_name m.name q) (position (module_names ms) q) e (module-none ms q)
  where
    go : (t : Bool) (o : Option ℕ) → (if t then Some 0 else option_map suc o) ≡ None → (o ≡ None → module_named ms q ≡ None) → (if t then Some m else module_named ms q) ≡ None
    go true o e h = absurd (cc)
    go false None e h = h refl
    go false (Some k) e h = absurd (cc)

kind-at : (is : List PlainInstance) (q : List ℕ) (n : ℕ) → position (instance_names is) q ≡ Some n → instance_kind is q ≡ option_map (λ i. i.kind) (slice_get is n)
kind-at [] q n e = absurd (cc)
kind-at (i ∷ is) q n e = go (same_name i.name q) (position (instance_names is) q) e (kind-at is q)
  where
    go : (t : Bool) (o : Option ℕ) → (if t then Some 0 else option_map suc o) ≡ Some n → ((k : ℕ) → o ≡ Some k → instance_kind is q ≡ option_map (λ i. i.kind) (slice_get is k))
        → (if t then Some i.kind else instance_kind is q) ≡ option_map (λ i. i.kind) (slice_get (i ∷ is) n)
    go true o e h = let zero_is : 0 ≡ n = cc in ap (λ k. option_map (λ i. i.kind) (slice_get (i ∷ is) k)) zero_is
    go false None e h = absurd (cc)
    go false (Some k) e h = let next : suc k ≡ n = cc in h k refl ∙ ap (λ k. option_map (λ i. i.kind) (slice_get (i ∷ is) k)) next

kind-none : (is : List PlainInstance) (q : List ℕ) → position (instance_names is) q ≡ None → instance_kind is q ≡ None
kind-none [] q e = refl
kind-none (i ∷ is) q e = go (same_name i.name q) (position (instance_names is) q) e (kind-none is q)
  where
    go : (t : Bool) (o : Option ℕ) → (if t then Some 0 else option_map suc o) ≡ None → (o ≡ None → instance_kind is q ≡ None) → (if t then Some i.kind else instance_kind is q) ≡ None
    go true o e h = absurd (cc)
    go false None e h = h refl
    go false (Some k) e h = absurd (cc)

counts-at : (ms : List PlainModule) (cs : List Counts) (q : List ℕ) (n : ℕ) → position (module_names ms) q ≡ Some n → counts_named ms cs q ≡ unwrap_or (slice_get cs n) no_counts
counts-at [] cs q n e = absurd (cc)
counts-at (m ∷ ms) [] q n e = refl
counts-at (m ∷ ms) (c ∷ cs) q n e = go (same_name m.name q) (position (module_names ms) q) e (counts-at ms cs q)
  where
    go : (t : Bool) (o : Option ℕ) → (if t then Some 0 else option_map suc o) ≡ Some n → ((k : ℕ) → o ≡ Some k → counts_named ms cs q ≡ unwrap_or (slice_get cs k) no_counts)
        → (if t then c else counts_named ms cs q) ≡ unwrap_or (slice_get (c ∷ cs) n) no_counts
    go true o e h = let zero_is : 0 ≡ n = cc in ap (λ k. unwrap_or (slice_get (c ∷ cs) k) no_counts) zero_is
    go false None e h = absurd (cc)
    go false (Some k) e h = let next : suc k ≡ n = cc in h k refl ∙ ap (λ k. unwrap_or (slice_get (c ∷ cs) k) no_counts) next

counts-none : (ms : List PlainModule) (cs : List Counts) (q : List ℕ) → position (module_names ms) q ≡ None → counts_named ms cs q ≡ no_counts
counts-none [] cs q e = refl
counts-none (m ∷ ms) [] q e = refl
counts-none (m ∷ ms) (c ∷ cs) q e = go (same_name m.name q) (position (module_names ms) q) e (counts-none ms cs q)
  where
    go : (t : Bool) (o : Option ℕ) → (if t then Some 0 else option_map suc o) ≡ None → (o ≡ None → counts_named ms cs q ≡ no_counts) → (if t then c else counts_named ms cs q) ≡ no_counts
    go true o e h = absurd (cc)
    go false None e h = h refl
    go false (Some k) e h = absurd (cc)

-- a name is there where it has a number
pub named-has : (ms : List PlainModule) (q : List ℕ) → is_some (position (module_names ms) q) ≡ has_name (map (λ m. m.name) ms) q
named-has [] q = refl
named-has (m ∷ ms) q = go (same_name m.name q) (position (module_names ms) q) (named-has ms q)
  where
    go : (t : Bool) (o : Option ℕ) → is_some o ≡ has_name (map (λ m. m.name) ms) q → is_some (if t then Some 0 else option_map suc o) ≡ (t || has_name (map (λ m. m.name) ms) q)
    go true o e = refl
    go false None e = e
    go false (Some k) e = e

module _ {S : Type 0} (first : HashMap (Bor (List ℕ)) ℕ S) where
  pub named_at : (ms : List PlainModule) (q : List ℕ) (n : ℕ) → HasFirst first (module_names ms) → Some n ≡ number_by first q → slice_get ms n ≡ module_named ms q
  named_at ms q n has e = sym (module-at ms q n (sym (e ∙ has q)))

  pub named_none : (ms : List PlainModule) (q : List ℕ) → HasFirst first (module_names ms) → None ≡ number_by first q → None ≡ module_named ms q
  named_none ms q has e = sym (module-none ms q (sym (e ∙ has q)))

  pub kind_at : (is : List PlainInstance) (q : List ℕ) (n : ℕ) → HasFirst first (instance_names is) → Some n ≡ number_by first q → option_map (λ i. i.kind) (slice_get is n) ≡ instance_kind is q
  kind_at is q n has e = sym (kind-at is q n (sym (e ∙ has q)))

  pub kind_none : (is : List PlainInstance) (q : List ℕ) → HasFirst first (instance_names is) → None ≡ number_by first q → None ≡ instance_kind is q
  kind_none is q has e = sym (kind-none is q (sym (e ∙ has q)))

-- one instance more
pub instances_next : {S : Type 0} (m n : HashMap (Bor (List ℕ)) ℕ S) (is : List Instance) (i : ℕ) (x : Instance) → HasFirst m (instance_names (map plain_instance (take i is)))
    → ((q : List ℕ) → number_by n q ≡ option_or (number_by m q) (if same_name x.name q then Some i else None)) → i < length is → x ≡ get_or is i x → HasFirst n (instance_names (map plain_instance (take (i + 1) is)))
instances_next m n is i x has put small at =
    let one : take (i + 1) is ≡ take i is ++ x ∷ [] = take_more is i x small ∙ ap (λ y. take i is ++ y ∷ []) (sym at) in
    let count : length (instance_names (map plain_instance (take i is))) ≡ i =
    length-map (λ i. i.name) (map plain_instance (take i is)) ∙ length-map plain_instance (take i is) ∙ length-take-le i is (omega (arith, small)) in
    has_more m n (instance_names (map plain_instance (take i is))) (instance_names (map plain_instance (take (i + 1) is))) x.name i has put (sym count)
    (ap (λ l. instance_names (map plain_instance l)) one ∙ ap instance_names (map_push plain_instance (take i is) x) ∙ map_push (λ i. i.name) (map plain_instance (take i is)) (plain_instance x))

-- one module more
pub modules_more : {S : Type 0} (m n : HashMap (Bor (List ℕ)) ℕ S) (ms : List DraftModule) (x : DraftModule) (k : ℕ) → HasFirst m (module_names (draft_modules ms))
    → ((q : List ℕ) → number_by n q ≡ option_or (number_by m q) (if same_name x.name q then Some k else None)) → k ≡ length ms → HasFirst n (module_names (draft_modules (ms ++ x ∷ [])))
modules_more m n ms x k has put is =
    let count : length (module_names (draft_modules ms)) ≡ length ms = length-map (λ m. m.name) (draft_modules ms) ∙ length-map draft_module ms in
    has_more m n (module_names (draft_modules ms)) (module_names (draft_modules (ms ++ x ∷ []))) x.name k has put (is ∙ sym count)
    (ap module_names (map_push draft_module ms x) ∙ map_push (λ m. m.name) (draft_modules ms) (draft_module x))

module _ {S : Type 0} (first : HashMap (Bor (List ℕ)) ℕ S) (q : List ℕ) (n : ℕ) (is : Some n ≡ number_by first q) where
  pub module_there : (ms : List DraftModule) (m : DraftModule) → HasFirst first (module_names (draft_modules ms)) → slice_get ms n ≡ Some m → Some (draft_module m) ≡ module_named (draft_modules ms) q
  module_there ms m has at = sym (slice_get-map draft_module ms n ∙ ap (option_map draft_module) at) ∙ named_at first (draft_modules ms) q n has is

  pub module_past : (ms : List DraftModule) → HasFirst first (module_names (draft_modules ms)) → length ms ≤ n → None ≡ module_named (draft_modules ms) q
  module_past ms has past = sym (slice_get-map draft_module ms n ∙ ap (option_map draft_module) (slice_get_past ms n past)) ∙ named_at first (draft_modules ms) q n has is

  pub kind_there : (is : List Instance) (i : Instance) → HasFirst first (instance_names (map plain_instance is)) → slice_get is n ≡ Some i → Some i.module ≡ instance_kind (map plain_instance is) q
  kind_there l i has at = sym (ap (option_map (λ i. i.kind)) (slice_get-map plain_instance l n ∙ ap (option_map plain_instance) at)) ∙ kind_at first (map plain_instance l) q n has is

  pub kind_past : (is : List Instance) → HasFirst first (instance_names (map plain_instance is)) → length is ≤ n → None ≡ instance_kind (map plain_instance is) q
  kind_past l has past = sym (ap (option_map (λ i. i.kind)) (slice_get-map plain_instance l n ∙ ap (option_map plain_instance) (slice_get_past l n past))) ∙ kind_at first (map plain_instance l) q n has is

-- the counts of the first module of a name
pub counts_absent : (ms : List PlainModule) (cs : List Counts) (q : List ℕ) → None ≡ position (module_names ms) q → no_counts ≡ counts_named ms cs q
counts_absent ms cs q e = sym (counts-none ms cs q (sym e))

module _ (ms : List PlainModule) (sums : List Sums) (q : List ℕ) (n : ℕ) (is : Some n ≡ position (module_names ms) q) where
  pub counts_past : length sums ≤ n → no_counts ≡ counts_named ms (map counts_in sums) q
  counts_past past = sym (counts-at ms (map counts_in sums) q n (sym is) ∙ ap (λ o. unwrap_or o no_counts) (slice_get-map counts_in sums n ∙ ap (option_map counts_in) (slice_get_past sums n past)))

  pub counts_there : (s : Sums) → slice_get sums n ≡ Some s → counts_in s ≡ counts_named ms (map counts_in sums) q
  counts_there s at = sym (counts-at ms (map counts_in sums) q n (sym is) ∙ ap (λ o. unwrap_or o no_counts) (slice_get-map counts_in sums n ∙ ap (option_map counts_in) at))
