-- WHAT IS WRITTEN IS READ as the tree that was printed, behind lines of comments.
use Rattle.std.proofs.Common.{◌≡◌, ℕ, false, List, [], ◌∷◌, sym, ◌∙◌, subst, append-nil}
use Rattle.std.specs.List.{AllByRecursion}
use Rattle.cx_text.specs.declared.places.Place.{Place}
use Rattle.cx_text.specs.Places.{start, after_bytes}
use Rattle.cx_ast.specs.declared.tokens.Token.{Token}
use Rattle.cx_ast.specs.PlainTokens.{kinds_of}
use Rattle.cx_ast.specs.PlainTree.{PlainTree, PlainComponent}
use Rattle.cx_lex.specs.Lex.{Lex}
use Rattle.cx_grammar.specs.Grammar.{Spells}
use Rattle.cx_grammar.specs.Calyx.{file, spelled_within}
use Rattle.cx_grammar.specs.Parsing.{Parse}
use Rattle.cx_print.specs.Pieces.{tokens_of}
use Rattle.cx_print.specs.Places.{without_places}
use Rattle.cx_print.specs.Printable.{IsPrintable}
use Rattle.cx_print.proofs.FileSpelling.{tree_added}
use Rattle.cx_meaning.specs.Instances.{tree_of}
use Rattle.cx_meaning.specs.Active.{no_later}
use Rattle.cx_numbering.specs.DesignOf.{design_of}
use Rattle.cx_rewrites.specs.Places.{SameDesign}
use Rattle.cx_rewrites.proofs.PlaceAccepted.{accepted_there}
use Rattle.cx_rewrites.proofs.PlaceDesigns.{tree_of-same, words_of-same, external_rows-same}
use Rattle.cx_flattening.proofs.WholePlaces.{whole_main-same}
use Rattle.cx_rewritten.specs.Ordered.{places_in, Rise, AreOf, none_left, left_out, one_kept, StandAs, KeepsOrder}
use Rattle.cx_rewritten.specs.Written.{IsWritten, IsReadAs}
use Rattle.cx_rewritten.proofs.PlaceNames.{full_path-same}
use Rattle.cx_rewritten.proofs.CommentLemmas.{shifted, behind_comments}
use Rattle.cx_rewritten.proofs.RisingLemmas.{text_in_order}
use Rattle.cx_rewritten.proofs.SameTrees.{same_design, same_accepted}
use Rattle.cx_print.proofs.PrintLemmas.{no_tokens}

-- some of what rises rises
kept_of : (P : Place → Type 0) {some all : List Place} → AreOf some all → AllByRecursion P all → AllByRecursion P some
kept_of P none_left h = tt
kept_of P (left_out more) h = kept_of P more h.1
kept_of P (one_kept more) h = (h.0, kept_of P more h.1)

kept_rise : {some all : List Place} → AreOf some all → Rise all → Rise some
kept_rise none_left h = tt
kept_rise (left_out more) h = kept_rise more h.1
kept_rise (one_kept {p = p} more) h = (kept_of (λ q. no_later q p ≡ false) more h.0, kept_rise more h.1)

stand_in_order : (new old : List PlainComponent) → StandAs new old → AllByRecursion (λ part. Rise (places_in part)) old → AllByRecursion (λ part. Rise (places_in part)) new
stand_in_order [] old s h = tt
stand_in_order (part ∷ rest) [] s h = absurd s
stand_in_order (part ∷ rest) (old ∷ more) s h = (kept_rise s.0 h.0, stand_in_order rest more s.1 h.1)

-- TOKENS of the kinds of a printed tree are read as that tree

record Read (tree : PlainTree) (tokens : List Token) : Type 0 where
  pub again : PlainTree
  pub parsed : Parse tokens again
  pub equal : without_places again ≡ without_places tree

read : (tree : PlainTree) → IsPrintable tree → (tokens : List Token) → kinds_of tokens ≡ tokens_of tree → Read tree tokens
unfolding Parse
read tree h tokens e =
    let a = tree_added tree h in
    let b = a.begun tokens [] (e ∙ a.added [] ∙ sym (append-nil a.kinds)) in
    record { again = b.value; parsed = subst (λ rest. Spells (spelled_within 64) file tokens b.value rest) (no_tokens b.rest b.left) b.spelled; equal = b.is }

pub written_read : (text written : List ℕ) (tokens : List Token) (tree new : PlainTree) → Lex text tokens → Parse tokens tree → KeepsOrder tree new → IsPrintable new → IsWritten new written → IsReadAs new written
written_read text written tokens tree new lexed parsed keeps printable w =
    let moved = shifted w.printed.lexed (after_bytes start w.comments) in
    let whole : Lex written moved.others = subst (λ bytes. Lex bytes moved.others) (sym w.printed.appended) (behind_comments w.are start w.printed.text moved.others moved.lexed) in
    let found = read new printable moved.others (moved.same ∙ w.printed.same) in
    let same : SameDesign (design_of new) (design_of found.again) =
    same_design new found.again (sym found.equal) (stand_in_order new.components tree.components keeps (text_in_order text tokens tree lexed parsed)) (text_in_order written moved.others found.again whole found.parsed) in
    record {
      again = found.again;
      tokens = moved.others;
      lexed = whole;
      parsed = found.parsed;
      equal = found.equal;
      accepted = same_accepted new found.again (sym found.equal) (accepted_there (design_of new) (design_of found.again) same);
      run = λ ws n. whole_main-same (design_of new) (design_of found.again) same ws n;
      words = words_of-same (tree_of (design_of new)) (tree_of (design_of found.again)) (tree_of-same (design_of new) (design_of found.again) same);
      rows = external_rows-same (design_of new) (design_of found.again) same;
      names = full_path-same (design_of new) (design_of found.again) same;
    }
