-- What fits by its widths fits whatever has the same widths.
use Rattle.std.proofs.Common.{◌≡◌, ℕ, suc, ◌+◌, Bool, not, List, [], ◌∷◌, Option, Some, None, is_some, option_and_then, map, length, slice_set, refl, sym, ap, ◌∙◌, subst, arith}
use Rattle.cx_bits.specs.BitVector.{BitVector}
use Rattle.cx_vtree.specs.Sound.{applied_width, chosen_width, joined_width, part_width}
use Rattle.cx_vnets.specs.declared.arrays.Words.{Words}
use Rattle.cx_vnets.specs.declared.codes.Code.{Code}
use Rattle.cx_vnets.specs.declared.codes.Code.TheVariants.{Net, Literal, Slice, Item', Binary', Not', Choose', Cat'}
use Rattle.cx_vnets.specs.declared.codes.NetPosition.{NetPosition}
use Rattle.cx_vnets.specs.declared.edges.Set.{Set}
use Rattle.cx_vnets.specs.declared.nets.Nets.{Nets}
use Rattle.cx_vnets.specs.declared.nets.Stored.{Stored}
use Rattle.cx_vnets.specs.declared.stores.Store.{Store}
use Rattle.cx_vnets.specs.Arrays.{IsEven, array_width}
use Rattle.cx_vnets.specs.Codes.{code_width}
use Rattle.cx_vnets.specs.Edges.{width_of, SetsFit}
use Rattle.cx_vnets.specs.Fits.{width_at, Fits}
use Rattle.cx_vnets.specs.Search.{SameWidths}
use Rattle.cx_vnets.specs.Stores.{plain_words, HasCode, StoresFit}
use Rattle.cx_vnets.specs.declared.machines.Machine.{Machine}
use Rattle.cx_vnets.specs.declared.machines.Bench.{Bench}
use Rattle.cx_vnets.specs.declared.runs.RunAnswer.{RunAnswer}
use Rattle.cx_vnets.specs.declared.runs.RunAnswer.TheVariants.{Done, Loop, More}
use Rattle.cx_vnets.specs.Machines.{KeepsWidths, IsAfter}
use Rattle.cx_vnets.specs.Runs.{bit, WithInputs, IsReady, IsLooked, Outcome, DoneIn, NotDone, outcome_of, FlatFrom, loops, ends, spent, goes_on}
use Rattle.cx_vnets.proofs.EdgeLemmas.{width_set}

module _ (nets nets' arrays arrays' : ℕ → Option ℕ) (same : (k : ℕ) → nets k ≡ nets' k) (alike : (a : ℕ) → arrays a ≡ arrays' a) where
  both : (f : ℕ → ℕ → Option ℕ) (o p q r : Option ℕ) → o ≡ p → q ≡ r → option_and_then (λ v. option_and_then (f v) q) o ≡ option_and_then (λ v. option_and_then (f v) r) p
  both f o p q r e e' = ap (λ z. option_and_then (λ v. option_and_then (f v) z) o) e' ∙ ap (option_and_then (λ v. option_and_then (f v) r)) e

  same_width : (c : Code) → code_width nets arrays c ≡ code_width nets' arrays' c
  same_width (Net k) = same k
  same_width (Literal b) = refl
  same_width (Slice k high low) = ap (option_and_then (λ w. part_width w high low)) (same k)
  same_width (Item' a p i) = ap (λ z. option_and_then (λ v. z) (code_width nets arrays i)) (alike a) ∙ ap (option_and_then (λ v. arrays' a)) (same_width i)
  same_width (Binary' op p a q b) = both (applied_width op) (code_width nets arrays a) (code_width nets' arrays' a) (code_width nets arrays b) (code_width nets' arrays' b) (same_width a) (same_width b)
  same_width (Not' p a) = same_width a
  same_width (Choose' p c q a r b) =
      ap (λ z. option_and_then (λ t. option_and_then (λ v. option_and_then (chosen_width t v) z) (code_width nets arrays a)) (code_width nets arrays c)) (same_width b)
      ∙ ap (λ z. option_and_then (λ t. option_and_then (λ v. option_and_then (chosen_width t v) (code_width nets' arrays' b)) z) (code_width nets arrays c)) (same_width a)
      ∙ ap (option_and_then (λ t. option_and_then (λ v. option_and_then (chosen_width t v) (code_width nets' arrays' b)) (code_width nets' arrays' a))) (same_width c)
  same_width (Cat' p a q b) = both joined_width (code_width nets arrays a) (code_width nets' arrays' a) (code_width nets arrays b) (code_width nets' arrays' b) (same_width a) (same_width b)

module _ (values values' : List BitVector) (arrays arrays' : List Words) (widths : SameWidths values' values) (alike : (a : ℕ) → array_width arrays' a ≡ array_width arrays a) where
  width-along : (p : NetPosition) (c : Code) → width_of values' arrays' p c ≡ width_of values arrays p c
  width-along p c = same_width (λ k. width_at values' (p.nets + k)) (λ k. width_at values (p.nets + k)) (λ a. array_width arrays' (p.arrays + a)) (λ a. array_width arrays (p.arrays + a))
      (λ k. widths (p.nets + k)) (λ a. alike (p.arrays + a)) c

  pub sets-keep : (codes : List Code) (sets : List Set) → SetsFit codes values arrays sets → SetsFit codes values' arrays' sets
  sets-keep codes sets fits = λ j x is. let f = fits j x is in (f.0, f.1, (f.2.0, width-along x.place f.0 ∙ f.2.1, widths x.net ∙ f.2.2))

  code-keeps : (codes : List Code) (p : NetPosition) (k : ℕ) → HasCode codes values arrays p k → HasCode codes values' arrays' p k
  code-keeps codes p k h = (h.0, h.1, ap is_some (width-along p h.0) ∙ h.2)

  pub stores-keep : (codes : List Code) (stores : List Store) → StoresFit codes values arrays stores → StoresFit codes values' arrays' stores
  stores-keep codes stores fits = λ j x is.
      let f = fits j x is in
      record {
        guard = code-keeps codes x.place x.guard f.guard;
        index = code-keeps codes x.place x.index f.index;
        value = code-keeps codes x.place x.value f.value;
        wide = λ c at. width-along x.place c ∙ f.wide c at ∙ sym (alike x.array);
      }

-- lists of the same widths have the same lengths
lengths-same : (xs ys : List BitVector) → ((f : ℕ) → width_at xs f ≡ width_at ys f) → length xs ≡ length ys
lengths-same [] [] h = refl
lengths-same [] (y ∷ ys) h = let e = h 0 in cc
lengths-same (x ∷ xs) [] h = let e = h 0 in cc
lengths-same (x ∷ xs) (y ∷ ys) h = ap suc (lengths-same xs ys (λ f. h (suc f)))

pub fits-keep : (n : Nets) (before after : Stored) → KeepsWidths before after → Fits n before → Fits n after
fits-keep n before after keeps fits = record {
  long = fits.long ∙ sym (lengths-same after.nets.items before.nets.items keeps.nets);
  even = keeps.even;
  tied = λ f g is. keeps.nets g ∙ fits.tied f g is ∙ sym (keeps.nets f);
  given = λ f c p is. let r = fits.given f c p is in
      (r.0, r.1, width-along before.nets.items after.nets.items before.arrays.items after.arrays.items keeps.nets keeps.arrays p r.0 ∙ r.2 ∙ sym (keeps.nets f));
}

pub ready-keeps : (m : Machine) (before after : Stored) (b : Bench) → KeepsWidths before after → IsReady m before b → IsReady m after b
ready-keeps m before after b keeps r = record {
  fits = fits-keep m.nets before after keeps r.fits;
  resets = sets-keep before.nets.items after.nets.items before.arrays.items after.arrays.items keeps.nets keeps.arrays m.nets.codes.items m.resets.items r.resets;
  sets = sets-keep before.nets.items after.nets.items before.arrays.items after.arrays.items keeps.nets keeps.arrays m.nets.codes.items m.sets.items r.sets;
  stores = stores-keep before.nets.items after.nets.items before.arrays.items after.arrays.items keeps.nets keeps.arrays m.nets.codes.items m.stores.items r.stores;
  reset = keeps.nets m.reset ∙ r.reset;
  go = keeps.nets m.go ∙ r.go;
  done = ap is_some (keeps.nets m.done) ∙ r.done;
  marks = r.marks;
  stack = r.stack;
  writes = r.writes;
  values = λ f. r.values f ∙ sym (keeps.nets f);
}

pub keeps-more : (a b c : Stored) → KeepsWidths a b → KeepsWidths b c → KeepsWidths a c
keeps-more a b c first then_ = record { nets = λ f. then_.nets f ∙ first.nets f; arrays = λ k. then_.arrays k ∙ first.arrays k; even = then_.even }

-- inputs are one bit, as they were
pub inputs-keep : (m : Machine) (reset : Bool) (before after : Stored) (b : Bench) → WithInputs m reset before after → IsReady m before b → KeepsWidths before after
inputs-keep m reset before after b w r =
    let first : (f : ℕ) → width_at (slice_set before.nets.items m.reset (bit reset)) f ≡ width_at before.nets.items f = width_set before.nets.items m.reset (bit reset) r.reset in
    record {
      nets = λ f. ap (λ l. width_at l f) w.nets ∙ width_set (slice_set before.nets.items m.reset (bit reset)) m.go (bit (not reset)) (first m.go ∙ r.go) f ∙ first f;
      arrays = λ a. ap (λ l. array_width l a) w.arrays;
      even = subst (λ (l : List Words). IsEven l) (sym w.arrays) r.fits.even;
    }

-- sets and stores fit the values of the nets
pub ready-sets : (m : Machine) (s : Stored) (b : Bench) → IsReady m s b → SetsFit m.nets.codes.items b.values.items s.arrays.items m.sets.items
ready-sets m s b r = sets-keep s.nets.items b.values.items s.arrays.items s.arrays.items r.values (λ a. refl) m.nets.codes.items m.sets.items r.sets

pub ready-resets : (m : Machine) (s : Stored) (b : Bench) → IsReady m s b → SetsFit m.nets.codes.items b.values.items s.arrays.items m.resets.items
ready-resets m s b r = sets-keep s.nets.items b.values.items s.arrays.items s.arrays.items r.values (λ a. refl) m.nets.codes.items m.resets.items r.resets

pub ready-stores : (m : Machine) (s : Stored) (b : Bench) → IsReady m s b → StoresFit m.nets.codes.items b.values.items s.arrays.items m.stores.items
ready-stores m s b r = stores-keep s.nets.items b.values.items s.arrays.items s.arrays.items r.values (λ a. refl) m.nets.codes.items m.stores.items r.stores

-- a bench with as much room
pub ready-bench : (m : Machine) (s : Stored) (b c : Bench) → length c.marks.items ≡ length b.marks.items → length c.stack.items ≡ length b.stack.items → length c.writes.items ≡ length b.writes.items
    → SameWidths c.values.items s.nets.items → IsReady m s b → IsReady m s c
ready-bench m s b c marks stack writes values r = record {
  fits = r.fits;
  resets = r.resets;
  sets = r.sets;
  stores = r.stores;
  reset = r.reset;
  go = r.go;
  done = r.done;
  marks = marks ∙ r.marks;
  stack = stack ∙ r.stack;
  writes = writes ∙ r.writes;
  values = values;
}

-- a bench with as much room, and the same values, after an edge
pub ready-edge : (m : Machine) (s t : Stored) (b c : Bench) → KeepsWidths s t → c.marks.items ≡ b.marks.items → c.stack.items ≡ b.stack.items → length c.writes.items ≡ length m.stores.items
    → c.values.items ≡ b.values.items → IsReady m s b → IsReady m t c
ready-edge m s t b c widths marks stack writes values ready =
    ready-bench m t b c (ap length marks) (ap length stack) (writes ∙ sym ready.writes) (λ f. ap (λ l. width_at l f) values ∙ ready.values f ∙ sym (widths.nets f)) (ready-keeps m s t b widths ready)

-- the run ends in a cycle that gives its answer
pub looked-ends : (m : Machine) (s : Stored) (cycle left : ℕ) (values : List BitVector) (a : RunAnswer) → IsLooked m s cycle values (Some a) → FlatFrom m s cycle left (outcome_of a s)
looked-ends m s cycle left values (Done t) h = subst (λ c. FlatFrom m s cycle left (DoneIn c (map plain_words s.arrays.items))) (sym h.0) (ends values h.1 h.2)
looked-ends m s cycle left values (Loop f) h = loops h
looked-ends m s cycle left values More h = absurd h

pub looked-spent : (m : Machine) (s : Stored) (cycle : ℕ) (values : List BitVector) → IsLooked m s cycle values None → FlatFrom m s cycle 0 NotDone
looked-spent m s cycle values h = spent values h.0 h.1

-- a cycle more
pub goes-more : (m : Machine) (s next : Stored) (cycle left more : ℕ) (values : List BitVector) (o : Outcome) → IsLooked m s cycle values None
    → IsAfter m.nets.codes.items m.sets.items m.stores.items values s next → left ≡ more + 1 → FlatFrom m next (cycle + 1) more o → FlatFrom m s cycle left o
goes-more m s next cycle left more values o h after e run =
    let same : suc more ≡ left = omega arith in
    subst (λ k. FlatFrom m s cycle k o) same (goes_on values next h.0 h.1 after run)
