-- The walk over the stops: what is held, then what the rest of the walk pushes, is the whole. Assumes nothing.
use Rattle.std.specs.Prelude.{Option, ℕ, Some, None}
use mathlib.Core.Path.{◌≡◌, refl, sym, ap, subst, ◌∙◌}
use mathlib.Core.Bool.{Bool, true, false}
use mathlib.Core.List.{List, [], ◌∷◌, ◌++◌, append_assoc}
use Prim.Native.Nat.{ℕ, ◌+◌, ◌≤◌}
use native.Mathlib.Numerals.{add-one}
use lib.ListN.{length, get_or, drop}
use lib.Ieee.{Float, nan, ne}
use Rattle.math.specs.declared.Interval.{Interval}
use Rattle.brep.specs.Tree.{CurveTree}
use Rattle.curve_prepared.specs.declared.PreparedCurve.{PreparedCurve}
use Rattle.curve_prepared.specs.Own.PreparedCurve.{curve_of}
use Rattle.edge_drawing.specs.declared.Drawing.{Drawing}
use Rattle.edge_drawing.specs.Own.Drawing.{drawn_curve}
use Rattle.options.specs.declared.Mode.{Mode}
use Rattle.options.specs.declared.Resolved.{Resolved}
use Rattle.edge_params.specs.Params.{breaks_along, unless_hi}
use Rattle.edge_params.specs.Own.Bisected.{subdivided, walked, through, bisected}
use Rattle.knots_thin.specs.Thin.{kept_breaks}
use Rattle.edge_subdivide.specs.declared.End.{End}
use Rattle.edge_subdivide.specs.Bisect.{end_at, within_budget}
use Rattle.edge_subdivide.specs.declared.recorder.Recorder.{Recorder}
use Rattle.edge_subdivide.specs.Own.Recorder.{Records}
use Rattle.edge_subdivide.proofs.Laws.{end_t}
pub use Rattle.edge_subdivide.proofs.Laws.{end_own}
use Rattle.edge_subdivide.proofs.Recorded.{records_none, records_refused, records_then}
use Rattle.edge_sample.specs.Sample.{sampler}
use Rattle.edge_sample.specs.Own.Answered.{stops}
use Rattle.edge_sample.proofs.Stops.{stop_last, stops_from, stops_past}

-- ---- a span, by whether its end is range.hi
module _ (range : Interval) (b : Float) where
  pub not_hi : ne b range.hi ≡ true → b ∷ [] ≡ unless_hi range b
  unfolding unless_hi
  not_hi e = sym (ap (λ (t : Bool). elim t [ true ↦ b ∷ [] | false ↦ [] ]) e)

  pub is_hi : ne b range.hi ≡ false → [] ≡ unless_hi range b
  unfolding unless_hi
  is_hi e = sym (ap (λ (t : Bool). elim t [ true ↦ b ∷ [] | false ↦ [] ]) e)

-- ---- the curve that is drawn, prepared
pub prepared_drawn : (d : Drawing) (p : PreparedCurve) → p.tables.now ≡ d.tables.now → p.row ≡ d.edge.curve → curve_of p ≡ drawn_curve d
prepared_drawn d p T R = rw (T, R)

-- ---- the walk
module _ (mode : Mode) (c : CurveTree) (range : Interval) (r : Resolved) where
  -- what one span pushes
  abbrev pub span : Float → Float → List Float
  span a b = subdivided (within_budget c r) r.depth a b ++ unless_hi range b

  -- what the walk pushes from left on, with range.hi
  pub onwards : Float → List Float → List Float
  onwards left bs = walked (sampler mode c range r) range left bs ++ (range.hi ∷ [])

  onwards_none : (left : Float) → onwards left [] ≡ range.hi ∷ []
  unfolding onwards walked
  onwards_none left = refl

  onwards_more : (left b : Float) (bs : List Float) → span left b ++ onwards b bs ≡ onwards left (b ∷ bs)
  unfolding onwards walked sampler
  onwards_more left b bs = simp append_assoc

  -- behind what first holds; left is the end at the last stop, i the number of the next one
  pub record Walking (breaks : List Float) (first to : Recorder) (left : End) (i : ℕ) : Type 0 where
    pub own : left ≡ end_at c left.t
    pub last : left.t ≡ get_or (range.lo ∷ stops range breaks) i nan
    pub front : List Float
    pub held : Records c front (Some tt) first to
    pub all : front ++ onwards left.t (drop i (stops range breaks)) ≡ onwards range.lo (stops range breaks)

  -- the options that the limits are of are the walk's
  pub span_of : (o : Resolved) → o ≡ r → (a b : Float) {w : Option (Unit {0})} {old new : Recorder}
      → Records c (subdivided (within_budget c o) o.depth a b ++ unless_hi range b) w old new → Records c (span a b) w old new
  span_of o e a b {w} {old} {new} h =
      subst (λ (x : Resolved). Records c (subdivided (within_budget c x) x.depth a b ++ unless_hi range b) w old new) e h

  module _ (breaks : List Float) where
    -- range.lo, and what is put behind it; the breaks are those of the curve d, which the walk's own is
    module _ (d : CurveTree) (same : c ≡ d) (B : breaks ≡ kept_breaks mode d range.lo range.hi r.sag) (low : End)
        (L : low ≡ end_at c range.lo) {w₁ : Option (Unit {0})} {start first : Recorder} (h : Records c (low.t ∷ []) w₁ start first) where
      whole : low.t ∷ onwards range.lo (stops range breaks) ≡ bisected (sampler mode c range r) range
      unfolding onwards through breaks_along stops sampler
      whole =
          ap (λ (t : Float). t ∷ onwards range.lo (stops range breaks)) (end_t c range.lo low L)
          ∙ ap (λ (bs : List Float). range.lo ∷ onwards range.lo (stops range bs)) (B ∙ ap (λ (x : CurveTree). kept_breaks mode x range.lo range.hi r.sag) (sym same))

      whole_of : {w : Option (Unit {0})} {to : Recorder} → Records c (low.t ∷ onwards range.lo (stops range breaks)) w start to
          → Records d (bisected (sampler mode d range r) range) w start to
      whole_of {w} {to} g =
          subst (λ (x : CurveTree). Records x (bisected (sampler mode x range r) range) w start to) same
          (subst (λ (l : List Float). Records c l w start to) whole g)

      pub low_refused : w₁ ≡ None → Records d (bisected (sampler mode d range r) range) None start first
      low_refused e = whole_of (records_refused c h e (onwards range.lo (stops range breaks)))

      pub low_then : w₁ ≡ Some tt → {w : Option (Unit {0})} {to : Recorder} → Records c (onwards range.lo (stops range breaks)) w first to
          → Records d (bisected (sampler mode d range r) range) w start to
      low_then e g = whole_of (records_then c h e (onwards range.lo (stops range breaks)) g)

      pub walking_start : Walking breaks first first low 0
      walking_start = record {
        own = end_own c range.lo low L;
        last = end_t c range.lo low L;
        front = [];
        held = records_none c first;
        all = ap (λ (x : Float). onwards x (stops range breaks)) (end_t c range.lo low L);
      }

    module _ {first to : Recorder} {left : End} {i : ℕ} (s : Walking breaks first to left i) where
      -- one stop more
      module _ (h : i ≤ length breaks) (b : Float) (is : b ≡ get_or (stops range breaks) i nan) (right : End) (own : right ≡ end_at c b)
          {w : Option (Unit {0})} {new : Recorder} (g : Records c (span left.t right.t) w to new) where
        rest : List Float
        rest = onwards right.t (drop (i + 1) (stops range breaks))

        here : right.t ≡ get_or (stops range breaks) i nan
        here = end_t c b right own ∙ is

        behind : right.t ∷ drop (i + 1) (stops range breaks) ≡ drop i (stops range breaks)
        behind = ap (λ (x : Float). x ∷ drop (i + 1) (stops range breaks)) here ∙ stops_from range breaks i h

        more : (s.front ++ span left.t right.t) ++ rest ≡ onwards range.lo (stops range breaks)
        unfolding rest
        more =
            append_assoc s.front (span left.t right.t) rest
            ∙ ap (λ (l : List Float). s.front ++ l)
            (onwards_more left.t right.t (drop (i + 1) (stops range breaks)) ∙ ap (onwards left.t) behind)
            ∙ s.all

        joined : Records c (s.front ++ span left.t right.t) w first new
        joined = records_then c s.held refl (span left.t right.t) g

        pub walking_refused : w ≡ None → Records c (onwards range.lo (stops range breaks)) None first new
        walking_refused e = subst (λ (l : List Float). Records c l None first new) more (records_refused c joined e rest)

        pub walking_next : w ≡ Some tt → Walking breaks first new right (i + 1)
        unfolding rest
        walking_next e = record {
          own = end_own c b right own;
          last = here ∙ ap (λ (j : ℕ). get_or (range.lo ∷ stops range breaks) j nan) (sym (add-one i));
          front = s.front ++ span left.t right.t;
          held = subst (λ (q : Option (Unit {0})). Records c (s.front ++ span left.t right.t) q first new) e joined;
          all = more;
        }

      -- range.hi
      pub walking_done : i ≡ length breaks + 1 → {w : Option (Unit {0})} {new : Recorder} → Records c (left.t ∷ []) w to new
          → Records c (onwards range.lo (stops range breaks)) w first new
      walking_done e {w} {new} g =
          subst (λ (l : List Float). Records c l w first new) done
          (records_then c s.held refl (left.t ∷ []) g)
        where
          hi : left.t ≡ range.hi
          hi =
              s.last ∙ ap (λ (j : ℕ). get_or (range.lo ∷ stops range breaks) j nan) (e ∙ add-one (length breaks))
              ∙ sym (stop_last range breaks (length breaks) refl)

          done : s.front ++ (left.t ∷ []) ≡ onwards range.lo (stops range breaks)
          done =
              ap (λ (l : List Float). s.front ++ l)
              (ap (λ (t : Float). t ∷ []) hi
              ∙ sym (ap (onwards left.t) (stops_past range breaks i e) ∙ onwards_none left.t))
              ∙ s.all
