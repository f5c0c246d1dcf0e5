-- A statement with moved ports stands within as many static ifs as the statement.
use Rattle.std.specs.Prelude.{ℕ, suc, ◌-◌, List, [], ◌∷◌}
use Rattle.cx_text.specs.declared.places.Place.{Place}
use Rattle.cx_meaning.specs.declared.ports.PortRef.{PortRef}
use Rattle.cx_meaning.specs.Designs.{PlainForm, Empty, Enable, Seq, Par, If, While, Repeat, StaticSeq, StaticPar, StaticIf, StaticRepeat, Timed, PlainStatement, Placed, PlainStatements, no_statements, a_statement, statements_of}
use Rattle.cx_emitted.specs.Shallow.{FormShallow, Shallow, PartsShallow}
use Rattle.cx_rewrites.specs.Moving.{moved_form, moved_statement, moved_statements}
use Rattle.cx_profiling.specs.Counters.{Shown}
use Rattle.cx_profiling.specs.Instrumented.{store_enables}

module _ (move : PortRef → PortRef) where
  mutual
    form_moved : (n : ℕ) (form : PlainForm) → FormShallow n form → FormShallow n (moved_form move form)
    form_moved n Empty h = tt
    form_moved n (Enable g) h = tt
    form_moved n (Seq parts) h = all_moved n parts h
    form_moved n (Par arms) h = all_moved n arms h
    form_moved n (If test comb a b) h = (statement_moved n a h.0, statement_moved n b h.1)
    form_moved n (While test comb a) h = statement_moved n a h
    form_moved n (Repeat count a) h = statement_moved n a h
    form_moved n (StaticSeq written parts) h = all_moved n parts h
    form_moved n (StaticPar written arms) h = all_moved n arms h
    form_moved n (StaticIf written test a b) h = (h.0, (statement_moved (n - 1) a h.1.0, statement_moved (n - 1) b h.1.1))
    form_moved n (StaticRepeat written count a) h = statement_moved n a h
    form_moved n (Timed k) h = tt

    pub statement_moved : (n : ℕ) (s : PlainStatement) → Shallow n s → Shallow n (moved_statement move s)
    statement_moved n (Placed form place) h = form_moved n form h

    all_moved : (n : ℕ) (ss : PlainStatements) → PartsShallow n ss → PartsShallow n (moved_statements move ss)
    all_moved n no_statements h = tt
    all_moved n (a_statement s ss) h = (statement_moved n s h.0, all_moved n ss h.1)

-- and the enables of stores stand within none
pub stores_shallow : (n : ℕ) (place : Place) (g : ℕ) (list : List Shown) → PartsShallow n (statements_of (store_enables place g list))
stores_shallow n place g [] = tt
stores_shallow n place g (x ∷ xs) = (tt, stores_shallow n place (suc g) xs)
