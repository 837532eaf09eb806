-- The verdict is the lower of the tables' and the edge's. Assumes nothing.
use Rattle.std.proofs.Common.{◌≡◌, arith, Bool, true, false, cond, ◌||◌, refl, ap, ◌∙◌, ltb, Ok, Err}
use Rattle.std.proofs.lemmas.Bool.Decides.{nat_tests}
use Rattle.std.specs.Ordering.{ord_min}
use Rattle.brep.specs.declared.Edge.{Edge}
use Rattle.brep.specs.Rows.{Tables}
use Rattle.options.specs.declared.Options.{Options}
use Rattle.refusal.specs.contracts.RefusalOrd.TheImpl.{ghosts}
use Rattle.refusal.specs.declared.Refusal.{Refusal}
use Rattle.refusal.specs.declared.Refusal.TheVariants.{Oversize, Unbounded, IllFormed, Unordered, TooDeep, Missing}
use Rattle.refusal.specs.Refusal.{number_of}
use Rattle.refusal.proofs.Laws.{cmp-number_of}
use Rattle.causes_bounds.specs.Bounds.{unbounded_tables, unbounded_edge, unbounded}
use Rattle.causes_form.specs.Forms.{ill_formed_tables, ill_formed_edge, ill_formed}
use Rattle.causes.specs.Own.Lowest.{lowest_of}
use Rattle.causes.specs.Causes.{oversize, unordered, too_deep, missing, verdict, tables_verdict, edge_verdict}

-- of two refusals std's `min` is that of the lower number
pub min_is_lower : (m n : Refusal) → ord_min ghosts.cmp m n ≡ cond (ltb (number_of n) (number_of m)) n m
min_is_lower m n = rw (cmp-number_of n m) (grind (arith, nat_tests))

-- ---- the law
-- the tables' tests a to f and the edge's p, q and r, one by one
apart : (a b c d f p q r : Bool)
    → cond a (Err Oversize) (cond (b || p) (Err Unbounded) (cond (c || q) (Err IllFormed) (cond d (Err Unordered) (cond f (Err TooDeep) (cond r (Err Missing) (Ok tt))))))
    ≡ lowest_of (cond a (Err Oversize) (cond b (Err Unbounded) (cond c (Err IllFormed) (cond d (Err Unordered) (cond f (Err TooDeep) (Ok tt))))))
    (cond p (Err Unbounded) (cond q (Err IllFormed) (cond r (Err Missing) (Ok tt))))
unfolding lowest_of
apart true b c d f true q r = refl
apart true b c d f false true r = refl
apart true b c d f false false true = refl
apart true b c d f false false false = refl
apart false true c d f true q r = refl
apart false true c d f false true r = refl
apart false true c d f false false true = refl
apart false true c d f false false false = refl
apart false false true d f true q r = refl
apart false false true d f false true r = refl
apart false false true d f false false true = refl
apart false false true d f false false false = refl
apart false false false true f true q r = refl
apart false false false true f false true r = refl
apart false false false true f false false true = refl
apart false false false true f false false false = refl
apart false false false false true true q r = refl
apart false false false false true false true r = refl
apart false false false false true false false true = refl
apart false false false false true false false false = refl
apart false false false false false true q r = refl
apart false false false false false false true r = refl
apart false false false false false false false true = refl
apart false false false false false false false false = refl

module _ (t : Tables) (e : Edge) (o : Options) where
  pub verdict_apart : verdict t e o ≡ lowest_of (tables_verdict t) (edge_verdict t e o)
  unfolding verdict tables_verdict edge_verdict unbounded ill_formed
  verdict_apart =
      apart (oversize t) (unbounded_tables t.points t.reals t.ranges) (ill_formed_tables t) (unordered t) (too_deep t)
      (unbounded_edge e o) (ill_formed_edge e o) (missing t e)

  -- over accepted tables the edge's is the verdict
  pub verdict_edge : tables_verdict t ≡ Ok tt → verdict t e o ≡ edge_verdict t e o
  unfolding lowest_of
  verdict_edge h = verdict_apart ∙ ap (λ v. lowest_of v (edge_verdict t e o)) h
