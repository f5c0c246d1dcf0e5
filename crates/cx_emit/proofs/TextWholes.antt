-- A look that has the value of each net of a sound source has that of each expression.
use Rattle.std.proofs.Common.{◌≡◌, ℕ, true, List, Option, Some, None, option_and_then, slice_get, refl, ap, sym, ◌∙◌, subst}
use Rattle.std.specs.Prelude.{IsSome}
use Rattle.cx_bits.specs.BitVector.{BitVector}
use Rattle.cx_vtree.specs.declared.meanings.Meaning.{Meaning}
use Rattle.cx_vtree.specs.declared.meanings.Meaning.TheVariants as meant
use Rattle.cx_vtree.specs.Plain.{PlainExpr, PlainSource}
use Rattle.cx_vtree.specs.InstanceTree.{Placed, NetKind, kind_in, origin_by, origin_of, instances_of}
use Rattle.cx_vtree.specs.Meaning.{Moment, Look, expr_at, from_origin, HasValue, by_step, Eval}
use Rattle.cx_vtree.specs.SimRun.{IsWhole}
use Rattle.cx_vtree.specs.Sound.{is_sound}
use Rattle.cx_vtree.proofs.Values.{one_value}
use Rattle.cx_vlaws.specs.Origins.{IsNet}
use Rattle.cx_vlaws.proofs.Scopes.{kind_of}
use Rattle.cx_vlaws.proofs.OriginLemmas.{is_net}
use Rattle.cx_vlaws.proofs.MeaningLemmas.{net_meant}
use Rattle.cx_vlaws.proofs.Given.{scope-at, kind-here}
use Rattle.cx_emit.proofs.Evals.{eval_within}
use Rattle.cx_text.proofs.OptionLaws.{bind_some}

kind_is_net : (m : Meaning) (kind : NetKind) → kind_of m ≡ Some kind → is_net m ≡ true
kind_is_net (meant.Input w) kind e = refl
kind_is_net (meant.Output w) kind e = refl
kind_is_net (meant.Wire w) kind e = refl
kind_is_net (meant.Register w) kind e = refl
kind_is_net (meant.Array w) kind e = absurd (cc)
kind_is_net meant.Nothing kind e = absurd (cc)

module _ (source : PlainSource) (sound : is_sound source ≡ true) (m : Moment) where
  abbrev tree : List Placed
  tree = instances_of source

  -- what has a value is a net
  pub valued_net : (i : ℕ) (n : List ℕ) (v : BitVector) → HasValue tree m i n v → IsNet tree i n
  valued_net i n v (by_step look right e) =
      let (o, is, f) = bind_some (from_origin tree m look i n) (origin_of tree i n) v e in
      let (p, at, g) = bind_some (λ p. option_and_then (origin_by tree i p n) (kind_in p.part.ports p.part.decls n)) (slice_get tree i) o is in
      let (kind, kinds, h) = bind_some (origin_by tree i p n) (kind_in p.part.ports p.part.decls n) o g in
      net_meant tree i n (ap (λ s. is_net (s n)) (scope-at tree i p at) ∙ kind_is_net _ kind (sym (kind-here source sound i p at n) ∙ kinds))

  module _ (look : Look) (whole : IsWhole tree m look) where
    pub whole_has : (i : ℕ) (n : List ℕ) (v : BitVector) → HasValue tree m i n v → look i n ≡ Some v
    whole_has i n v h = let (k, at) = valued_net i n v h in go (look i n) refl (whole.whole i k n at) where
      go : (o : Option BitVector) → look i n ≡ o → IsSome (look i n) → look i n ≡ Some v
      go None e some = absurd (let g = subst IsSome e some in cc)
      go (Some u) e some = e ∙ ap Some (one_value (whole.right i n u e) h)

    pub eval_whole : (i : ℕ) (e : PlainExpr) (v : BitVector) → Eval tree m i e v → expr_at tree m look i e ≡ Some v
    eval_whole i e v h = eval_within tree m i look (λ n w has. whole_has i n w has) e v h
