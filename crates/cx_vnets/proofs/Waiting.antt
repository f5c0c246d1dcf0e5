-- What a look that waits for a net tells: the net is needed.
use Rattle.std.proofs.Common.{◌≡◌, ℕ, ◌+◌, ◌<◌, ◌==◌, Bool, true, false, List, Option, Some, None, IsSome, is_some, option_and_then, option_map, length, slice_get, refl, ap, ◌∙◌, sym, subst, if◌then◌else◌}
use Rattle.std.proofs.lemmas.Option.{slice_get-get_or, option_and_then_some}
use Rattle.cx_bits.specs.BitVector.{BitVector}
use Rattle.cx_vtree.specs.Operators.{operate, inverted, part_of, joined}
use Rattle.cx_vtree.specs.Sound.{applied_width, chosen_width, joined_width, part_width}
use Rattle.cx_vnets.specs.declared.codes.Code.{Code}
use Rattle.cx_vnets.specs.declared.codes.Code.TheVariants.{Net, Literal, Slice, Item', Binary', Not', Choose', Cat'}
use Rattle.cx_vnets.specs.declared.codes.NetPosition.{NetPosition}
use Rattle.cx_vnets.specs.declared.marks.NetMark.{NetMark}
use Rattle.cx_vnets.specs.declared.marks.NetMark.TheVariants.{Unseen, Open, Known}
use Rattle.cx_vnets.specs.declared.marks.FoundValue.{FoundValue}
use Rattle.cx_vnets.specs.declared.marks.FoundValue.TheVariants.{Worth, Waits}
use Rattle.cx_vnets.specs.declared.nets.Nets.{Nets}
use Rattle.cx_vnets.specs.declared.nets.Stored.{Stored}
use Rattle.cx_vnets.specs.declared.nets.Driver.{Driver}
use Rattle.cx_vnets.specs.declared.nets.Driver.TheVariants.{Held, Tied, Given}
use Rattle.cx_vnets.specs.Arrays.{array_width}
use Rattle.cx_vnets.specs.Codes.{code_in, code_width}
use Rattle.cx_vnets.specs.Values.{driver_in, code_at, rule, IsRight}
use Rattle.cx_vnets.specs.Fits.{width_at, width_in, Fits}
use Rattle.cx_vnets.specs.Looks.{found_map, found_and_then, look, marked, seen, seen_from, words_from, look_stored, look_code, look_driver, look_net}
use Rattle.cx_vnets.specs.Search.{SameWidths, no_bits}
use Rattle.cx_vnets.proofs.Widths.{and_first, and_second, and_third, look_width, seen_width, word_width}
use Rattle.cx_vnets.proofs.Agreement.{Agree, agree_code, worth_of, worth_look, known_by, right_agree}

-- the code waits for a net: it is there, and is needed wherever the code has a value
pub record IsWanted (nets : ℕ → FoundValue) (widths : ℕ → Option ℕ) (words : ℕ → ℕ → BitVector) (c : Code) (m : ℕ) : Type 0 where
  pub local : ℕ
  pub waits : nets local ≡ Waits m
  pub there : IsSome (widths local)
  pub needed : (more : ℕ → Option BitVector) → ((k : ℕ) → Agree (worth_of (nets k)) (more k)) → (v : BitVector) → code_in more words c ≡ Some v
      → (x : BitVector) × (more local ≡ Some x)

map_first : (f : BitVector → BitVector) (o : Option BitVector) (v : BitVector) → option_map f o ≡ Some v → (x : BitVector) × (o ≡ Some x)
map_first f None v e = cc
map_first f (Some x) v e = (x, refl)

bind_first : (f : BitVector → Option BitVector) (o : Option BitVector) (v : BitVector) → option_and_then f o ≡ Some v → (x : BitVector) × (o ≡ Some x)
bind_first f None v e = cc
bind_first f (Some x) v e = (x, refl)

bind_second : (f : BitVector → BitVector → BitVector) (o p : Option BitVector) (v : BitVector) → option_and_then (λ x. option_map (f x) p) o ≡ Some v → (x : BitVector) × (p ≡ Some x)
bind_second f None p v e = cc
bind_second f (Some x) p v e = map_first (f x) p v e

map_waits : (f : BitVector → BitVector) (o : FoundValue) (m : ℕ) → found_map f o ≡ Waits m → o ≡ Waits m
map_waits f (Worth x) m e = cc
map_waits f (Waits k) m e = e

bind_waits : {P : Type 0} (f : BitVector → FoundValue) (o : FoundValue) (m : ℕ) → found_and_then f o ≡ Waits m → (o ≡ Waits m → P) → ((x : BitVector) → o ≡ Worth x → f x ≡ Waits m → P) → P
bind_waits f (Worth x) m e h k = k x refl e
bind_waits f (Waits i) m e h k = h e

module _ (nets : ℕ → FoundValue) (nw : ℕ → Option ℕ) (words : ℕ → ℕ → BitVector) (aw : ℕ → Option ℕ) where
  -- the whole waits for what a part waits for
  lift : (a c : Code) (m : ℕ) → IsWanted nets nw words a m
      → ((more : ℕ → Option BitVector) → ((k : ℕ) → Agree (worth_of (nets k)) (more k)) → (v : BitVector) → code_in more words c ≡ Some v → (x : BitVector) × (code_in more words a ≡ Some x))
      → IsWanted nets nw words c m
  lift a c m w h = record {
    local = w.local;
    waits = w.waits;
    there = w.there;
    needed = λ more agrees v e. let r : (x : BitVector) × (code_in more words a ≡ Some x) = h more agrees v e in w.needed more agrees r.0 r.1;
  }

  pub wants : (c : Code) (m : ℕ) → IsSome (code_width nw aw c) → look nets words c ≡ Waits m → IsWanted nets nw words c m
  wants (Net k) m s l = record { local = k; waits = l; there = s; needed = λ more agrees v e. (v, e) }
  wants (Literal b) m s l = cc
  wants (Slice k high low) m s l = record {
    local = k;
    waits = map_waits (part_of high low) (nets k) m l;
    there = and_first (λ w. part_width w high low) (nw k) s;
    needed = λ more agrees v e. map_first (part_of high low) (more k) v e;
  }
  wants (Item' a p i) m s l =
      lift i (Item' a p i) m (wants i m (and_first (λ w. aw a) (code_width nw aw i) s) (map_waits (λ x. words a x.value) (look nets words i) m l))
      (λ more agrees v e. map_first (λ x. words a x.value) (code_in more words i) v e)
  wants (Binary' op p a q b) m s l =
      bind_waits (λ x. found_map (operate op x) (look nets words b)) (look nets words a) m l
      (λ first. lift a (Binary' op p a q b) m (wants a m (and_first (λ v. option_and_then (applied_width op v) (code_width nw aw b)) (code_width nw aw a) s) first)
      (λ more agrees v e. bind_first (λ x. option_map (operate op x) (code_in more words b)) (code_in more words a) v e))
      (λ x is second. lift b (Binary' op p a q b) m (wants b m (and_second (applied_width op) (code_width nw aw a) (code_width nw aw b) s) (map_waits (operate op x) (look nets words b) m second))
      (λ more agrees v e. bind_second (operate op) (code_in more words a) (code_in more words b) v e))
  wants (Not' p a) m s l =
      lift a (Not' p a) m (wants a m s (map_waits inverted (look nets words a) m l)) (λ more agrees v e. map_first inverted (code_in more words a) v e)
  wants (Choose' p c q a r b) m s l =
      bind_waits (λ t. if t.value == 0 then look nets words b else look nets words a) (look nets words c) m l
      (λ first. lift c (Choose' p c q a r b) m (wants c m (and_first (λ t. option_and_then (λ v. option_and_then (chosen_width t v) (code_width nw aw b)) (code_width nw aw a)) (code_width nw aw c) s) first)
      (λ more agrees v e. bind_first (λ t. if t.value == 0 then code_in more words b else code_in more words a) (code_in more words c) v e))
      (λ t is second.
      side t is
      (wants b m (and_third chosen_width (code_width nw aw c) (code_width nw aw a) (code_width nw aw b) s))
      (wants a m (and_second (λ t v. option_and_then (chosen_width t v) (code_width nw aw b)) (code_width nw aw c) (code_width nw aw a) s))
      (t.value == 0) refl second)
    where
      side : (t : BitVector) → look nets words c ≡ Worth t → (look nets words b ≡ Waits m → IsWanted nets nw words b m) → (look nets words a ≡ Waits m → IsWanted nets nw words a m)
          → (zero : Bool) → (t.value == 0) ≡ zero → (if zero then look nets words b else look nets words a) ≡ Waits m → IsWanted nets nw words (Choose' p c q a r b) m
      side t is wb wa true z l = lift b (Choose' p c q a r b) m (wb l) (λ more agrees v e.
          option_and_then_some (λ u. if u.value == 0 then code_in more words b else code_in more words a) (code_in more words c) v e (λ u there rest.
          let same : t ≡ u = agree_code (λ k. worth_of (nets k)) more words agrees c t u (sym (worth_look nets words c) ∙ ap worth_of is) there in
          (v, sym (ap (λ x. if x then code_in more words b else code_in more words a) z) ∙ ap (λ (x : BitVector). if x.value == 0 then code_in more words b else code_in more words a) same ∙ rest)))
      side t is wb wa false z l = lift a (Choose' p c q a r b) m (wa l) (λ more agrees v e.
          option_and_then_some (λ u. if u.value == 0 then code_in more words b else code_in more words a) (code_in more words c) v e (λ u there rest.
          let same : t ≡ u = agree_code (λ k. worth_of (nets k)) more words agrees c t u (sym (worth_look nets words c) ∙ ap worth_of is) there in
          (v, sym (ap (λ x. if x then code_in more words b else code_in more words a) z) ∙ ap (λ (x : BitVector). if x.value == 0 then code_in more words b else code_in more words a) same ∙ rest)))
  wants (Cat' p a q b) m s l =
      bind_waits (λ x. found_map (joined x) (look nets words b)) (look nets words a) m l
      (λ first. lift a (Cat' p a q b) m (wants a m (and_first (λ v. option_and_then (joined_width v) (code_width nw aw b)) (code_width nw aw a) s) first)
      (λ more agrees v e. bind_first (λ x. option_map (joined x) (code_in more words b)) (code_in more words a) v e))
      (λ x is second. lift b (Cat' p a q b) m (wants b m (and_second joined_width (code_width nw aw a) (code_width nw aw b) s) (map_waits (joined x) (look nets words b) m second))
      (λ more agrees v e. bind_second joined (code_in more words a) (code_in more words b) v e))

marked_waits : (o : Option NetMark) (p : Option BitVector) (f m : ℕ) → marked o p f ≡ Waits m → f ≡ m
marked_waits None p f m e = cc
marked_waits (Some Unseen) p f m e = cc
marked_waits (Some Open) p f m e = cc
marked_waits (Some Known) None f m e = cc
marked_waits (Some Known) (Some v) f m e = cc

seen_waits : (marks : List NetMark) (values : List BitVector) (f m : ℕ) → seen marks values f ≡ Waits m → f ≡ m
seen_waits marks values f m e = marked_waits (slice_get marks f) (slice_get values f) f m e

-- where the one has a value, the other has one that it comes from
abbrev pub Blocks : Nets → Stored → ℕ → ℕ → Type 0
Blocks n s f g = (more : ℕ → Option BitVector) → IsRight n s more → (v : BitVector) → rule n s more f ≡ Some v → (w : BitVector) × (more g ≡ Some w)

-- a net that is waited for is there, is not known, and is needed
pub record IsPending (n : Nets) (s : Stored) (marks : List NetMark) (values : List BitVector) (f m : ℕ) : Type 0 where
  pub there : IsSome (width_at s.nets.items m)
  pub unknown : seen marks values m ≡ Waits m
  pub blocks : Blocks n s f m

module _ (n : Nets) (s : Stored) (fits : Fits n s) where
  pub width_there : (f : ℕ) → f < length n.drivers.items → IsSome (width_at s.nets.items f)
  width_there f l = let here : f < length s.nets.items = subst (λ k. f < k) fits.long l in ap (λ o. is_some (option_map (λ (v : BitVector). v.width) o)) (slice_get-get_or s.nets.items f no_bits here)

  pub some_along : (a b : Option ℕ) → a ≡ b → IsSome b → IsSome a
  some_along a b e h = ap is_some e ∙ h

  module _ (marks : List NetMark) (values : List BitVector) (right : IsRight n s (known_by marks values)) (f m : ℕ) (within : f < length n.drivers.items) where
    pend_tied : (g : ℕ) → slice_get n.drivers.items f ≡ Some (Tied g) → seen marks values g ≡ Waits m → IsPending n s marks values f m
    pend_tied g is l =
        let same : g ≡ m = seen_waits marks values g m l in
        record {
          there = subst (λ k. IsSome (width_at s.nets.items k)) same (some_along (width_at s.nets.items g) (width_at s.nets.items f) (fits.tied f g is) (width_there f within));
          unknown = subst (λ k. seen marks values k ≡ Waits m) same l;
          blocks = λ more right' v e. (v, subst (λ k. more k ≡ Some v) same (sym (ap (driver_in n s more f) is) ∙ e));
        }

    pend_given : (c : ℕ) (p : NetPosition) (code : Code) → slice_get n.drivers.items f ≡ Some (Given c p) → slice_get n.codes.items c ≡ Some code → width_in s p code ≡ width_at s.nets.items f
        → look (seen_from marks values p.nets) (words_from s.arrays.items p.arrays) code ≡ Waits m → IsPending n s marks values f m
    pend_given c p code is at width l =
        let w = wants (seen_from marks values p.nets) (λ k. width_at s.nets.items (p.nets + k)) (words_from s.arrays.items p.arrays) (λ a. array_width s.arrays.items (p.arrays + a)) code m
        (some_along (width_in s p code) (width_at s.nets.items f) width (width_there f within)) l in
        let same : p.nets + w.local ≡ m = seen_waits marks values (p.nets + w.local) m w.waits in
        record {
          there = subst (λ k. IsSome (width_at s.nets.items k)) same w.there;
          unknown = subst (λ k. seen marks values k ≡ Waits m) same w.waits;
          blocks = λ more right' v e.
              let given : code_in (λ k. more (p.nets + k)) (words_from s.arrays.items p.arrays) code ≡ Some v =
              sym (ap (driver_in n s more f) is ∙ ap (option_and_then (code_at s more p)) at) ∙ e in
              let r = w.needed (λ k. more (p.nets + k)) (λ k. right_agree n s (known_by marks values) more right right' (p.nets + k)) v given in
              (r.0, subst (λ k. more k ≡ Some r.0) same r.1);
        }

    pub pending : look_net n s marks values f ≡ Waits m → IsPending n s marks values f m
    pending l = go (slice_get n.drivers.items f) refl l
      where
        go : (o : Option Driver) → slice_get n.drivers.items f ≡ o → look_driver n s marks values f o ≡ Waits m → IsPending n s marks values f m
        go None is l = let some = slice_get-get_or n.drivers.items f Held within in cc
        go (Some Held) is l =
            let here : f < length s.nets.items = subst (λ k. f < k) fits.long within in
            let stored = ap (λ o. look_stored o f) (slice_get-get_or s.nets.items f no_bits here) in cc
        go (Some (Tied g)) is l = pend_tied g is l
        go (Some (Given c p)) is l =
            let r = fits.given f c p is in
            pend_given c p r.0 is r.1 r.2 (sym (ap (look_code s marks values f p.nets p.arrays) r.1) ∙ l)

  -- what a look finds has the net's width
  module _ (marks : List NetMark) (values : List BitVector) (widths : SameWidths values s.nets.items) (f : ℕ) (v : BitVector) where
    seen_wide : (g : ℕ) → (x : BitVector) → seen marks values g ≡ Worth x → width_at s.nets.items g ≡ Some x.width
    seen_wide g x l = sym (widths g) ∙ seen_width marks values g x l

    stored_wide : (o : Option BitVector) → look_stored o f ≡ Worth v → option_map (λ (x : BitVector). x.width) o ≡ Some v.width
    stored_wide None l = cc
    stored_wide (Some x) l = let same : x ≡ v = cc in ap (λ (y : BitVector). Some y.width) same

    given_wide : (c : ℕ) (p : NetPosition) (code : Code) → width_in s p code ≡ width_at s.nets.items f
        → (o : Option ℕ) → width_at s.nets.items f ≡ o → IsSome o → look (seen_from marks values p.nets) (words_from s.arrays.items p.arrays) code ≡ Worth v → width_at s.nets.items f ≡ Some v.width
    given_wide c p code width None at some l = cc
    given_wide c p code width (Some w) at some l =
        at ∙ ap Some (sym (look_width (seen_from marks values p.nets) (λ k. width_at s.nets.items (p.nets + k)) (λ k x i. seen_wide (p.nets + k) x i) (words_from s.arrays.items p.arrays)
        (λ a. array_width s.arrays.items (p.arrays + a)) (λ a i u has. word_width s.arrays.items fits.even (p.arrays + a) i u has) code w v (width ∙ at) l))

    pub net_width : f < length n.drivers.items → look_net n s marks values f ≡ Worth v → width_at s.nets.items f ≡ Some v.width
    net_width within l = go (slice_get n.drivers.items f) refl l
      where
        go : (o : Option Driver) → slice_get n.drivers.items f ≡ o → look_driver n s marks values f o ≡ Worth v → width_at s.nets.items f ≡ Some v.width
        go None is l = cc
        go (Some Held) is l = stored_wide (slice_get s.nets.items f) l
        go (Some (Tied g)) is l = sym (fits.tied f g is) ∙ seen_wide g v l
        go (Some (Given c p)) is l =
            let r = fits.given f c p is in
            given_wide c p r.0 r.2 (width_at s.nets.items f) refl (width_there f within) (sym (ap (look_code s marks values f p.nets p.arrays) r.1) ∙ l)
