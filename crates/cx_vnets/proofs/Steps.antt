-- The steps of the search.
use Rattle.std.proofs.Common.{◌≡◌, ◌≢◌, ℕ, zero, suc, ◌+◌, ◌-◌, ◌*◌, ◌<◌, ◌≤◌, ◌⊎◌, ⊎_elim, inl, inr, Bool, true, false, cond, List, [], ◌∷◌, Option, Some, IsSome, is_some, option_map, length, get_or, set, slice_get, refl, sym, ap, ◌∙◌, subst, arith, count_by, get_or-set_same, get_or-set_other, length-set}
use Rattle.std.proofs.lemmas.List.Sums.{sum_by-set, count_by-le-length}
use Rattle.std.proofs.lemmas.Option.{slice_get-get_or, get_or_from_slice_get}
use Rattle.std.proofs.lemmas.Bool.{cases_eq, cases_lt}
use Rattle.cx_bits.specs.BitVector.{BitVector}
use Rattle.cx_vnets.specs.declared.marks.NetMark.{NetMark}
use Rattle.cx_vnets.specs.declared.marks.NetMark.TheVariants.{Unseen, Open, Known}
use Rattle.cx_vnets.specs.declared.marks.FoundValue.{FoundValue}
use Rattle.cx_vnets.specs.declared.marks.FoundValue.TheVariants.{Worth, Waits}
use Rattle.cx_vnets.specs.declared.nets.Nets.{Nets}
use Rattle.cx_vnets.specs.declared.nets.Stored.{Stored}
use Rattle.cx_vnets.specs.Values.{rule, HasValue, by_rule, IsRight}
use Rattle.cx_vnets.specs.Fits.{width_at, Fits}
use Rattle.cx_vnets.specs.Looks.{marked, seen, look_net}
use Rattle.cx_vnets.specs.Search.{mark_at, no_bits, value_at, SameWidths, Ready, Visited, AllHave, AllKnown, IsFirstWithout}
use Rattle.cx_vnets.proofs.Widths.{seen_known, net_there}
use Rattle.cx_vnets.proofs.Agreement.{worth_of, known_by, worth_net}
use Rattle.cx_vnets.proofs.Waiting.{Blocks, IsPending, pending, net_width, width_there, some_along}

abbrev pub is_unseen : NetMark → Bool
is_unseen Unseen = true
is_unseen Open = false
is_unseen Known = false

abbrev pub unseen : List NetMark → ℕ
unseen marks = count_by is_unseen marks

-- the nets that wait for one another, from the root up
pub record Going (n : Nets) (s : Stored) (root : ℕ) (old marks : List NetMark) (values : List BitVector) (stack : List ℕ) (depth : ℕ) : Type 0 where
  pub long : length marks ≡ length n.drivers.items
  pub stack_long : length stack ≡ length n.drivers.items
  pub widths : SameWidths values s.nets.items
  pub right : (f : ℕ) → mark_at marks f ≡ Known → HasValue n s f (value_at values f)
  pub opened : (m : ℕ) → mark_at marks m ≡ Open → (i : ℕ) × (i < depth) × (get_or stack i 0 ≡ m)
  pub inside : (i : ℕ) → i < depth → get_or stack i 0 < length n.drivers.items
  pub chain : (i : ℕ) → i + 1 < depth → Blocks n s (get_or stack i 0) (get_or stack (i + 1) 0)
  pub bottom : 0 < depth → get_or stack 0 0 ≡ root
  pub seen_root : mark_at marks root ≢ Unseen
  pub kept : (f : ℕ) → mark_at old f ≡ Known → mark_at marks f ≡ Known
  pub room : depth + unseen marks ≤ length n.drivers.items

-- an element after a write
pub at_set : {A : Type 0} (xs : List A) (i m : ℕ) (x d : A) (P : A → Type 0) → i < length xs → (m ≡ i → P x) → (m ≢ i → P (get_or xs m d)) → P (get_or (set xs i x) m d)
at_set xs i m x d P lt h k =
    ⊎_elim
    (λ e. subst P (sym (ap (λ j. get_or (set xs i x) j d) e ∙ get_or-set_same xs i x d lt)) (h e))
    (λ ne. subst P (sym (get_or-set_other xs i m x d ne)) (k ne))
    (cases_eq m i)

-- a value of the same width keeps all widths
pub width_set : (values : List BitVector) (i : ℕ) (v : BitVector) → width_at values i ≡ Some v.width → (f : ℕ) → width_at (set values i v) f ≡ width_at values f
width_set [] i v e f = refl
width_set (y ∷ ys) zero v e zero = sym e
width_set (y ∷ ys) zero v e (suc f) = refl
width_set (y ∷ ys) (suc i) v e zero = refl
width_set (y ∷ ys) (suc i) v e (suc f) = width_set ys i v e f

abbrev weight : NetMark → ℕ
weight x = cond (is_unseen x) 1 0

unseen_open : (marks : List NetMark) (i : ℕ) → i < length marks → mark_at marks i ≡ Unseen → unseen (set marks i Open) + 1 ≡ unseen marks
unseen_open marks i lt u =
    let e = sum_by-set weight marks i Open Unseen lt in
    let w : weight (mark_at marks i) ≡ 1 = ap weight u in
    omega arith

unseen_known : (marks : List NetMark) (i : ℕ) → i < length marks → unseen (set marks i Known) ≤ unseen marks
unseen_known marks i lt = let e = sum_by-set weight marks i Known Unseen lt in omega arith

known_else : (x : NetMark) → x ≢ Unseen → x ≢ Open → x ≡ Known
known_else Unseen h k = absurd (h refl)
known_else Open h k = absurd (k refl)
known_else Known h k = refl

pub unseen_else : (x : NetMark) → x ≢ Known → x ≢ Open → x ≡ Unseen
unseen_else Unseen h k = refl
unseen_else Open h k = absurd (k refl)
unseen_else Known h k = absurd (h refl)

-- nets of which each needs another of them have no value
no_value_in : (n : Nets) (s : Stored) (P : ℕ → Type 0)
    → ((f : ℕ) → P f → (more : ℕ → Option BitVector) → IsRight n s more → (v : BitVector) → rule n s more f ≡ Some v → (g : ℕ) × (P g) × ((w : BitVector) × (more g ≡ Some w)))
    → (f : ℕ) (v : BitVector) → HasValue n s f v → P f → ⊥
no_value_in n s P h f v (by_rule nets right e) p =
    let r = h f p nets right v e in
    no_value_in n s P h r.0 r.2.0 (right r.0 r.2.0 r.2.1) r.1

-- a mark of a net that is waited for
not_known : (marks : List NetMark) (values : List BitVector) (m : ℕ) → m < length marks → m < length values → seen marks values m ≡ Waits m → mark_at marks m ≢ Known
not_known marks values m lm lv w = λ known.
    let a = slice_get-get_or marks m Unseen lm ∙ ap Some known in
    let b = slice_get-get_or values m no_bits lv in
    let c = ap (λ o. marked o (slice_get values m) m) a ∙ ap (λ o. marked (Some Known) o m) b in
    cc

module _ (n : Nets) (s : Stored) (fits : Fits n s) where
  values_there : (values : List BitVector) → SameWidths values s.nets.items → (f : ℕ) → IsSome (width_at s.nets.items f) → f < length values
  values_there values widths f some = net_there values f (some_along n s fits (width_at values f) (width_at s.nets.items f) (widths f) some)

  right_known : (marks : List NetMark) (values : List BitVector) → ((f : ℕ) → mark_at marks f ≡ Known → HasValue n s f (value_at values f)) → IsRight n s (known_by marks values)
  right_known marks values right g w e = go (seen marks values g) refl e
    where
      go : (o : FoundValue) → seen marks values g ≡ o → worth_of o ≡ Some w → HasValue n s g w
      go (Waits m) is e = cc
      go (Worth v) is e =
          let k = seen_known marks values g v is in
          let same : v ≡ w = cc in
          subst (HasValue n s g) (get_or_from_slice_get values g v no_bits k.1 ∙ same) (right g (get_or_from_slice_get marks g Known Unseen k.0))

  pub start_going : (root : ℕ) (marks : List NetMark) (values : List BitVector) (stack : List ℕ) → Ready n s marks values → root < length n.drivers.items → mark_at marks root ≡ Unseen → length stack ≡ length n.drivers.items
      → Going n s root marks (set marks root Open) values (set stack 0 root) 1
  start_going root marks values stack r lt u sl =
      let l : root < length marks = omega (arith, r.long) in
      let l0 : 0 < length stack = omega arith in
      let first = get_or-set_same stack 0 root 0 l0 in
      record {
        long = length-set marks root Open ∙ r.long;
        stack_long = length-set stack 0 root ∙ sl;
        widths = r.widths;
        right = λ f. at_set marks root f Open Unseen (λ x. x ≡ Known → HasValue n s f (value_at values f)) l (λ e h. cc) (λ ne h. r.right f h);
        opened = λ m. at_set marks root m Open Unseen (λ x. x ≡ Open → (i : ℕ) × (i < 1) × (get_or (set stack 0 root) i 0 ≡ m)) l (λ e h. (0, omega arith, first ∙ sym e)) (λ ne h. absurd (r.closed m h));
        inside = λ i h. let e : 0 ≡ i = omega arith in subst (λ i. get_or (set stack 0 root) i 0 < length n.drivers.items) e (omega (arith, first));
        chain = λ i h. absurd (omega arith);
        bottom = λ h. first;
        seen_root = at_set marks root root Open Unseen (λ x. x ≢ Unseen) l (λ e h. cc) (λ ne. absurd (ne refl));
        kept = λ f h. at_set marks root f Open Unseen (λ x. x ≡ Known) l (λ e. let b : mark_at marks root ≡ Known = ap (mark_at marks) (sym e) ∙ h in cc) (λ ne. h);
        room = omega (arith, unseen_open marks root l u, count_by-le-length is_unseen marks, r.long);
      }

  module _ (root : ℕ) (old marks : List NetMark) (values : List BitVector) (stack : List ℕ) (depth : ℕ) (g : Going n s root old marks values stack depth) (pos : 0 < depth) where
    abbrev top : ℕ
    top = get_or stack (depth - 1) 0

    pub top_within : top < length n.drivers.items
    top_within = g.inside (depth - 1) (omega arith)

    pub top_marks : top < length marks
    top_marks = let h = top_within in omega (arith, g.long)

    pub top_values : top < length values
    top_values = values_there values g.widths top (width_there n s fits top top_within)

    right : IsRight n s (known_by marks values)
    right = right_known marks values g.right

    pub pop_going : (v : BitVector) → Worth v ≡ look_net n s marks values top → Going n s root old (set marks top Known) (set values top v) stack (depth - 1)
    pop_going v w =
        let l = top_marks in
        let has : HasValue n s top v = by_rule (known_by marks values) right (sym (worth_net n s marks values top) ∙ ap worth_of (sym w)) in
        let wide : width_at values top ≡ Some v.width = g.widths top ∙ net_width n s fits marks values g.widths top v top_within (sym w) in
        record {
          long = length-set marks top Known ∙ g.long;
          stack_long = g.stack_long;
          widths = λ f. width_set values top v wide f ∙ g.widths f;
          right = λ f. at_set marks top f Known Unseen (λ y. y ≡ Known → HasValue n s f (value_at (set values top v) f)) l
              (λ e h. subst (λ j. HasValue n s j (value_at (set values top v) j)) (sym e) (subst (HasValue n s top) (sym (get_or-set_same values top v no_bits top_values)) has))
              (λ ne h. subst (HasValue n s f) (sym (get_or-set_other values top f v no_bits ne)) (g.right f h));
          opened = λ m. at_set marks top m Known Unseen (λ y. y ≡ Open → (i : ℕ) × (i < depth - 1) × (get_or stack i 0 ≡ m)) l (λ e h. cc)
              (λ ne h.
              let o = g.opened m h in
              let not_top : o.0 ≢ depth - 1 = λ e. ne (sym o.2 ∙ ap (λ i. get_or stack i 0) e) in
              let below : o.0 < depth = o.1 in
              (o.0, omega arith, o.2));
          inside = λ i h. g.inside i (omega arith);
          chain = λ i h. g.chain i (omega arith);
          bottom = λ h. g.bottom pos;
          seen_root = at_set marks top root Known Unseen (λ x. x ≢ Unseen) l (λ e h. cc) (λ ne. g.seen_root);
          kept = λ f h. at_set marks top f Known Unseen (λ x. x ≡ Known) l (λ e. refl) (λ ne. g.kept f h);
          room = omega (arith, unseen_known marks top l, g.room);
        }

    pub pop_smaller : 2 * unseen (set marks top Known) + (depth - 1) < 2 * unseen marks + depth
    pop_smaller = omega (arith, unseen_known marks top top_marks)

    module _ (m : ℕ) (w : Waits m ≡ look_net n s marks values top) where
      waiting : IsPending n s marks values top m
      waiting = pending n s fits marks values right top m top_within (sym w)

      pub m_values : m < length values
      m_values = values_there values g.widths m waiting.there

      pub m_marks : m < length marks
      m_marks = let l = net_there s.nets.items m waiting.there in omega (arith, g.long, fits.long)

      m_unseen : mark_at marks m ≢ Open → mark_at marks m ≡ Unseen
      m_unseen no_open = unseen_else (mark_at marks m) (not_known marks values m m_marks m_values waiting.unknown) no_open

      pub push_smaller : mark_at marks m ≢ Open → 2 * unseen (set marks m Open) + (depth + 1) < 2 * unseen marks + depth
      push_smaller no_open = let c = unseen_open marks m m_marks (m_unseen no_open) in omega arith

      pub push_room : mark_at marks m ≢ Open → depth < length stack
      push_room no_open = let c = unseen_open marks m m_marks (m_unseen no_open) in omega (arith, g.room, g.stack_long)

      -- a net on the list
      abbrev Listed : ℕ → Type 0
      Listed f = (i : ℕ) × (i < depth) × (get_or stack i 0 ≡ f)

      listed_needs : mark_at marks m ≡ Open → (f : ℕ) → Listed f → (more : ℕ → Option BitVector) → IsRight n s more → (v : BitVector) → rule n s more f ≡ Some v → (h : ℕ) × (Listed h) × ((x : BitVector) × (more h ≡ Some x))
      listed_needs o f (i, lt, is) more r v e = go (cases_lt (i + 1) depth)
        where
          go : ((i + 1 < depth) ⊎ (depth ≤ i + 1)) → (h : ℕ) × (Listed h) × ((x : BitVector) × (more h ≡ Some x))
          go (inl l) =
              let e' : rule n s more (get_or stack i 0) ≡ Some v = ap (rule n s more) is ∙ e in
              (get_or stack (i + 1) 0, (i + 1, l, refl), g.chain i l more r v e')
          go (inr l) =
              let last : depth - 1 ≡ i = omega arith in
              let e' : rule n s more top ≡ Some v = ap (rule n s more) (ap (λ j. get_or stack j 0) last ∙ is) ∙ e in
              (m, g.opened m o, waiting.blocks more r v e')

      pub stuck_going : mark_at marks m ≡ Open → (v : BitVector) → HasValue n s root v → ⊥
      stuck_going o v d = no_value_in n s Listed (listed_needs o) root v d (0, pos, g.bottom pos)

      pub push_going : mark_at marks m ≢ Open → Going n s root old (set marks m Open) values (set stack depth m) (depth + 1)
      push_going no_open =
          let l = m_marks in
          let u = m_unseen no_open in
          let c = unseen_open marks m l u in
          let nl = push_room no_open in
          let new = get_or-set_same stack depth m 0 nl in
          record {
            long = length-set marks m Open ∙ g.long;
            stack_long = length-set stack depth m ∙ g.stack_long;
            widths = g.widths;
            right = λ f. at_set marks m f Open Unseen (λ x. x ≡ Known → HasValue n s f (value_at values f)) l (λ e h. cc) (λ ne h. g.right f h);
            opened = λ a. at_set marks m a Open Unseen (λ x. x ≡ Open → (i : ℕ) × (i < depth + 1) × (get_or (set stack depth m) i 0 ≡ a)) l
                (λ e h. (depth, omega arith, new ∙ sym e))
                (λ ne h. let o = g.opened a h in let ni : o.0 ≢ depth = omega (arith, o.1) in (o.0, omega (arith, o.1), get_or-set_other stack depth o.0 m 0 ni ∙ o.2));
            inside = λ i h. at_set stack depth i m 0 (λ x. x < length n.drivers.items) nl (λ e. omega (arith, g.long, l)) (λ ne. g.inside i (omega arith));
            chain = λ i h.
                at_set stack depth (i + 1) m 0 (λ y. Blocks n s (get_or (set stack depth m) i 0) y) nl
                (λ e. at_set stack depth i m 0 (λ x. Blocks n s x m) nl (λ e'. absurd (omega arith))
                (λ ne. let last : depth - 1 ≡ i = omega arith in subst (λ j. Blocks n s (get_or stack j 0) m) last waiting.blocks))
                (λ ne. at_set stack depth i m 0 (λ x. Blocks n s x (get_or stack (i + 1) 0)) nl (λ e'. absurd (omega arith)) (λ ne'. g.chain i (omega arith)));
            bottom = λ h. let ne : 0 ≢ depth = omega arith in get_or-set_other stack depth 0 m 0 ne ∙ g.bottom pos;
            seen_root = at_set marks m root Open Unseen (λ x. x ≢ Unseen) l (λ e h. cc) (λ ne. g.seen_root);
            kept = λ a h. at_set marks m a Open Unseen (λ x. x ≡ Known) l (λ e. let k : mark_at marks m ≡ Known = ap (mark_at marks) (sym e) ∙ g.kept a h in cc) (λ ne. g.kept a h);
            room = omega (arith, c, g.room);
          }

  -- a net that has its value
  module _ (marks : List NetMark) (values : List BitVector) (r : Ready n s marks values) (f : ℕ) (within : f < length n.drivers.items) where
    pub f_values : f < length values
    f_values = values_there values r.widths f (width_there n s fits f within)

    pub one_ready : (v : BitVector) → Worth v ≡ look_net n s marks values f → Ready n s (set marks f Known) (set values f v)
    one_ready v w =
        let l : f < length marks = omega (arith, r.long) in
        let has : HasValue n s f v = by_rule (known_by marks values) (right_known marks values r.right) (sym (worth_net n s marks values f) ∙ ap worth_of (sym w)) in
        let wide : width_at values f ≡ Some v.width = r.widths f ∙ net_width n s fits marks values r.widths f v within (sym w) in
        record {
          long = length-set marks f Known ∙ r.long;
          widths = λ g. width_set values f v wide g ∙ r.widths g;
          right = λ g. at_set marks f g Known Unseen (λ y. y ≡ Known → HasValue n s g (value_at (set values f v) g)) l
              (λ e h. subst (λ j. HasValue n s j (value_at (set values f v) j)) (sym e) (subst (HasValue n s f) (sym (get_or-set_same values f v no_bits f_values)) has))
              (λ ne h. subst (HasValue n s g) (sym (get_or-set_other values f g v no_bits ne)) (r.right g h));
          closed = λ g. at_set marks f g Known Unseen (λ y. y ≢ Open) l (λ e h. cc) (λ ne. r.closed g);
        }

  -- a root that is known already
  pub known_before : (root : ℕ) (marks : List NetMark) (values : List BitVector) → Ready n s marks values → mark_at marks root ≡ Known → Visited n s root marks marks values true
  known_before root marks values r e = (r, e, λ f h. h)

  pub all_have : (marks : List NetMark) (values : List BitVector) → Ready n s marks values → ((f : ℕ) → f < length n.drivers.items → mark_at marks f ≡ Known) → AllHave n s values
  all_have marks values r known f lt = r.right f (known f lt)

  pub all_known : (marks : List NetMark) (values : List BitVector) → Ready n s marks values → ((f : ℕ) → f < length n.drivers.items → mark_at marks f ≡ Known) → AllKnown marks values
  all_known marks values r known = λ f lt.
      let here : f < length s.nets.items = net_there s.nets.items f (ap is_some (sym (r.widths f)) ∙ ap (λ o. is_some (option_map (λ (v : BitVector). v.width) o)) (slice_get-get_or values f no_bits lt)) in
      let driven : f < length n.drivers.items = omega (arith, fits.long) in
      let marked : f < length marks = omega (arith, r.long) in
      slice_get-get_or marks f Unseen marked ∙ ap Some (known f driven)

  pub first_without : (root : ℕ) (marks : List NetMark) (values : List BitVector) → Ready n s marks values → ((f : ℕ) → f < root → mark_at marks f ≡ Known) → root < length n.drivers.items
      → ((v : BitVector) → HasValue n s root v → ⊥) → IsFirstWithout n s root
  first_without root marks values r known lt none = record { there = lt; earlier_have = λ f l. (value_at values f, r.right f (known f l)); no_value = none }
