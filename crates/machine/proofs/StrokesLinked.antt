-- Where no element is lost: the strokes and the bars after them, through the events of a step.
-- Assumes nothing.
use mathlib.Core.Path.{◌≡◌, refl, ap, sym, ◌∙◌, subst}
use mathlib.Core.Bool.{Bool, true, false, not}
use mathlib.Core.List.{List, [], ◌∷◌, ◌++◌, append_assoc, nil≢cons, head-eq_of_cons-eq}
use mathlib.Core.Option.{Option, none, some, none-ne-some}
use mathlib.Core.Logic.{◌⊎◌, inl, inr}
use lib.IntN.{ℤ}
use lib.Signed.{lt_z, le_z}
use lib.Dec.{T}
use lib.Ieee.{le}
use Rattle.bars.specs.Lists.{All, keep_if, skip_while, init, last}
use Rattle.bars.specs.declared.Bar.{Bar}
use Rattle.bars.specs.Bars.{Merged}
use Rattle.machine.specs.Fractals.{Fractal, check_fxs, fxs_after}
use Rattle.machine.specs.Strokes.{Stroke, Found, candidate}
use Rattle.machine.specs.Feed.{add_found, Moved, add_made}
use Rattle.machine.specs.ByTime.{from, stroke_of}
use Rattle.machine.proofs.MachineByTime.{joined, break_if, break_last}
use Rattle.machine.specs.Break.{breaks}
use Rattle.machine.proofs.Facts.{shape}
use Rattle.machine.specs.Rising.{Rising}
use Rattle.arith.proofs.FloatOrder.{AtMost, at_most, decide, contra}
use Rattle.machine.proofs.Lists.{All-map, All-left, All-right}
use Rattle.machine.proofs.Places.{from_skip, from_stop}
use Rattle.machine.proofs.FractalWindows.{Window, Cut, window_shaped, window_rises, window_number, window_mid}
use Rattle.machine.proofs.EndFirstExtreme.{FirstBest}
use Rattle.machine.proofs.MadeStroke.{best_in, kept_in, Facts, facts, end_window, end-candidate, MadeFrom}
use Rattle.machine.proofs.StrokesChain.{first-is, last_snoc}
use Rattle.machine.proofs.MergingKeepsOrder.{stamps, Upto, Ordered, ordered_rising, All-from}
use Rattle.machine.proofs.StrokesBefore.{Two, ordered_follows}
use Rattle.machine.proofs.MergedRanges.{IsMerged, low-high}
use Rattle.machine.proofs.GrownBars.{Grown, same, over-map, grown-map, Trip, Exact, exact_suffix}
use Rattle.machine.proofs.BarsApart.{Way, Numbered, shape_ways, ways_shape, over-beyond}
use Rattle.machine.proofs.StrokesTied.{exact-map, Loose, Firm, firm_loose, Beyond, Solid, Post, init-is, loose_tail, took_exact, took_firm}
use Rattle.machine.proofs.EndIsPeak.{start_of, straight_none, peak_of}
use Rattle.machine.proofs.NewestLast.{Lost}
use Rattle.machine.proofs.MadeStroke as made
use Rattle.machine.proofs.StrokesBeforeKept as steps
use Rattle.bars.proofs.Times as times
use Rattle.machine.proofs.FewerFractals.{candidate_other, nothing_found}

abbrev time : Merged → ℤ
time k = k.bar.time

-- ---- parts of exact lists

pub exact-tail : (P : Bar → Type 0) (a : Merged) (l : List Merged) → Exact P (a ∷ l) → Exact P l
exact-tail P a [] x = tt
exact-tail P a (b ∷ l) x = exact_suffix P a b l x

exact-from_if : (P : Bar → Type 0) (t : ℤ) (a : Merged) (l : List Merged) → T (lt_z (time a) t) ⊎ T (not (lt_z (time a) t)) → Exact P (a ∷ l) → Exact P (from t l) → Exact P (from t (a ∷ l))
exact-from_if P t a l (inl h) x r = subst (Exact P) (sym (from_skip t a l h)) r
exact-from_if P t a l (inr h) x r = subst (Exact P) (sym (from_stop t a l (times.not-lt-le (time a) t h))) x

pub exact-from : (P : Bar → Type 0) (t : ℤ) (l : List Merged) → Exact P l → Exact P (from t l)
unfolding from skip_while
exact-from P t [] x = tt
exact-from P t (a ∷ l) x = exact-from_if P t a l (decide (lt_z (time a) t)) x (exact-from P t l (exact-tail P a l x))

trip_left : (P : Bar → Type 0) (a b : Merged) (p q : List Merged) → Trip P a b (p ++ q) → Trip P a b p
trip_left P a b [] q t = tt
trip_left P a b (c ∷ p) q t = (t.0, trip_left P b c p q t.1)

exact-left : (P : Bar → Type 0) (p q : List Merged) → Exact P (p ++ q) → Exact P p
exact-left P [] q x = tt
exact-left P (a ∷ []) q x = tt
exact-left P (a ∷ b ∷ p) q x = (x.0, trip_left P a b p q x.1)

exact-at : (P : Bar → Type 0) (p : List Merged) (a b c : Merged) (r : List Merged) → Exact P (p ++ a ∷ b ∷ c ∷ r) → Grown P (a ∷ b ∷ []) c
exact-at P [] a b c r x = x.1.0
exact-at P (k ∷ p) a b c r x = exact-at P p a b c r (exact-tail P k (p ++ a ∷ b ∷ c ∷ r) x)

-- ---- the strokes

abbrev pub Links : (Bar → Type 0) → ℤ → (Stroke → List Merged → Type 0) → List Stroke → List Merged → Type 0
Links P n E [] l = Unit {0}
Links P n E (b ∷ []) l = Solid P n b × E b l
Links P n E (b ∷ b' ∷ bs) l = Solid P n b × Firm P b (init b'.bars) × Links P n E (b' ∷ bs) l

-- the last one and what follows it are changed
pub links_find : (P : Bar → Type 0) (n : ℤ) (E E' : Stroke → List Merged → Type 0) (R : List Merged → Type 0) (l : List Merged) → ((s : Stroke) → Solid P n s → E s l → (m : List Merged) × E' s m × R m)
    → (b : Stroke) (bs : List Stroke) → Links P n E (b ∷ bs) l → (m : List Merged) × Links P n E' (b ∷ bs) m × R m
links_find P n E E' R l f b [] k = let r = f b k.0 k.1 in (r.0, (k.0, r.1), r.2)
links_find P n E E' R l f b (b' ∷ bs) k = let r = links_find P n E E' R l f b' bs k.2 in (r.0, (k.0, k.1, r.1), r.2)

pub links_last : (P : Bar → Type 0) (n : ℤ) (E E' : Stroke → List Merged → Type 0) (l m : List Merged) → ((s : Stroke) → Solid P n s → E s l → E' s m) → (bs : List Stroke) → Links P n E bs l → Links P n E' bs m
links_last P n E E' l m f [] k = tt
links_last P n E E' l m f (b ∷ []) k = (k.0, f b k.0 k.1)
links_last P n E E' l m f (b ∷ b' ∷ bs) k = (k.0, k.1, links_last P n E E' l m f (b' ∷ bs) k.2)

pub links_put : (P : Bar → Type 0) (n : ℤ) (E : Stroke → List Merged → Type 0) (bs : List Stroke) (c : Stroke) (l m : List Merged) → ((s : Stroke) → Solid P n s → E s l → Firm P s (init c.bars)) → Links P n E bs l
    → Solid P n c → Firm P c m → Links P n (Firm P) (bs ++ c ∷ []) m
links_put P n E [] c l m f k w g = (w, g)
links_put P n E (b ∷ []) c l m f k w g = (k.0, f b k.0 k.1, (w, g))
links_put P n E (b ∷ b' ∷ bs) c l m f k w g = (k.0, k.1, links_put P n E (b' ∷ bs) c l m f k.2 w g)

links_at : (P : Bar → Type 0) (n : ℤ) (E : Stroke → List Merged → Type 0) (bs : List Stroke) (s : Stroke) (l : List Merged) → Links P n E (bs ++ s ∷ []) l → Solid P n s × E s l
links_at P n E [] s l k = k
links_at P n E (b ∷ []) s l k = k.2
links_at P n E (b ∷ b' ∷ bs) s l k = links_at P n E (b' ∷ bs) s l k.2

links_took : (P : Bar → Type 0) (n : ℤ) (bs : List Stroke) (s : Stroke) (l : List Merged) → Links P n (Loose P) (bs ++ s ∷ []) l → Links P n (Firm P) bs (joined s l)
links_took P n [] s l k = tt
links_took P n (b ∷ []) s l k = (k.0, took_firm P n s k.2.0 b l k.2.1 k.1)
links_took P n (b ∷ b' ∷ bs) s l k = (k.0, k.1, links_took P n (b' ∷ bs) s l k.2)

pub links_shed : (P : Bar → Type 0) (n : ℤ) (E : Stroke → List Merged → Type 0) (b : Stroke) (bs : List Stroke) (l : List Merged) → Links P n E (b ∷ bs) l → Links P n E bs l
links_shed P n E b [] l k = tt
links_shed P n E b (b' ∷ bs) l k = k.2

pub post_loose : (P : Bar → Type 0) (s : Stroke) (l : List Merged) → Post P s l → Loose P s l
post_loose P s l (inl f) = firm_loose P s l f
post_loose P s l (inr f) = f.0

-- ---- with another P

solid_map : (P P' : Bar → Type 0) (n n' : ℤ) (s : Stroke) → ((z : Bar) → T (lt_z z.time n) → P z → P' z) → T (le_z n n') → Solid P n s → Solid P' n' s
solid_map P P' n n' s f le w =
    let u = w.under in
    let e = All-map (w.front ++ w.before ∷ s.end.left ∷ s.end.mid ∷ []) (λ k a. a.1) u in
    let q = append_assoc w.front (w.before ∷ s.end.left ∷ []) (s.end.mid ∷ []) in
    let e' = subst (All (λ k. All (λ t. T (lt_z t n)) k.elements)) (sym q) e in
    record {
      front = w.front;
      before = w.before;
      bars = w.bars;
      exact = exact-map P P' (λ t. T (lt_z t n)) f (w.front ++ w.before ∷ s.end.left ∷ []) (All-left (λ k. All (λ t. T (lt_z t n)) k.elements) (w.front ++ w.before ∷ s.end.left ∷ []) (s.end.mid ∷ []) e') w.exact;
      grown = grown-map P P' (λ t. T (lt_z t n)) (w.before ∷ s.end.left ∷ []) s.end.mid f (All-right (λ k. All (λ t. T (lt_z t n)) k.elements) (w.front ++ w.before ∷ s.end.left ∷ []) (s.end.mid ∷ []) e').0 w.grown;
      way = w.way;
      rises = w.rises;
      under = All-map (w.front ++ w.before ∷ s.end.left ∷ s.end.mid ∷ []) (λ k a. All-map (stamps k) (λ t h. times.lt-le_trans t n n' h le) a) u;
      peak = w.peak;
    }

pub firm_map : (P P' : Bar → Type 0) (Q : ℤ → Type 0) (s : Stroke) → ((z : Bar) → Q z.time → P z → P' z) → (l : List Merged) → All (λ k. All Q k.elements) l → Firm P s l → Firm P' s l
firm_map P P' Q s f [] q x = x
firm_map P P' Q s f (a ∷ []) q x = x
firm_map P P' Q s f (a ∷ z ∷ r) q x = (x.0, over-map P P' Q (s.end.left ∷ []) s.end.mid z f q.1.0 x.1, x.2)

init_under : (P : Bar → Type 0) (n : ℤ) (s : Stroke) → Solid P n s → All (λ k. All (λ t. T (lt_z t n)) k.elements) (init s.bars)
init_under P n s w = subst (All (λ k. All (λ t. T (lt_z t n)) k.elements)) (sym (init-is P n s w)) (All-map (w.front ++ w.before ∷ s.end.left ∷ s.end.mid ∷ []) (λ k a. a.1) w.under)

links_head : (P : Bar → Type 0) (n : ℤ) (E : Stroke → List Merged → Type 0) (b : Stroke) (bs : List Stroke) (l : List Merged) → Links P n E (b ∷ bs) l → Solid P n b
links_head P n E b [] l k = k.0
links_head P n E b (b' ∷ bs) l k = k.0

pub links_map : (P P' : Bar → Type 0) (n n' : ℤ) (l : List Merged) → ((z : Bar) → T (lt_z z.time n) → P z → P' z) → T (le_z n n') → ((s : Stroke) → Firm P s l → Firm P' s l) → (bs : List Stroke) → Links P n (Firm P) bs l → Links P' n' (Firm P') bs l
links_map P P' n n' l f le g [] k = tt
links_map P P' n n' l f le g (b ∷ []) k = (solid_map P P' n n' b f le k.0, g b k.1)
links_map P P' n n' l f le g (b ∷ b' ∷ bs) k = (
  solid_map P P' n n' b f le k.0,
  firm_map P P' (λ t. T (lt_z t n)) b f (init b'.bars) (init_under P n b' (links_head P n (Firm P) b' bs l k.2)) k.1,
  links_map P P' n n' l f le g (b' ∷ bs) k.2,
)

-- ---- a stroke is made

-- two bars or more: all but the last, and the last but one
snoc_cons : (x : Merged) (p : List Merged) → (q : List Merged) × (k : Merged) × (x ∷ p ≡ q ++ k ∷ [])
snoc_cons x [] = ([], x, refl)
snoc_cons x (y ∷ p) = let r = snoc_cons y p in (x ∷ r.0, r.1, ap (x ∷◌) r.2)

snoc_of : (p : List Merged) (a : Merged) → Two (p ++ a ∷ []) → (q : List Merged) × (x : Merged) × (p ≡ q ++ x ∷ [])
snoc_of [] a t = absurd t
snoc_of (x ∷ p) a t = snoc_cons x p

firm_left : (P : Bar → Type 0) (b : Stroke) (q : List Merged) (x h k : Merged) (r : List Merged) → Firm P b (q ++ x ∷ h ∷ k ∷ r) → Firm P b (q ++ x ∷ h ∷ k ∷ [])
firm_left P b [] x h k r f = f
firm_left P b (a ∷ []) x h k r f = f
firm_left P b (a ∷ c ∷ []) x h k r f = f
firm_left P b (a ∷ c ∷ d ∷ q) x h k r f = f

two_none : (k z : Merged) → [] ≡ check_fxs (k ∷ z ∷ [])
unfolding check_fxs fxs_after
two_none k z = refl

module _ (P : Bar → Type 0) (num : (z : Bar) → P z → Numbered z) (n : ℤ) (l : List Merged) (o : Ordered l) (up : All (Upto n) l) (ok : All IsMerged l) (x : Exact P l)
    (s e : Fractal) (fs : List Fractal) (q : check_fxs l ≡ s ∷ fs) (best : FirstBest e.mark e (keep_if (candidate s) fs)) where
  rise : Rising l
  rise = ordered_rising l o

  F : Facts l (s ∷ fs)
  F = subst (Facts l) q (facts l rise)

  w : Window e l
  w = end_window l rise s e fs F best

  abbrev c0 : Cut e (steps.l0 l o s e fs q best)
  c0 = steps.c0 l o s e fs q best

  abbrev b : Stroke
  b = stroke_of l (s ∷ fs) s e

  before-two : Two (c0.before ++ e.left ∷ [])
  before-two = subst Two (steps.back_is l o s e fs q best) (steps.two l o s e fs q best)

  abbrev fr : (p : List Merged) × (k : Merged) × (c0.before ≡ p ++ k ∷ [])
  fr = snoc_of c0.before e.left before-two

  bars_are : b.bars ≡ fr.0 ++ fr.1 ∷ e.left ∷ e.mid ∷ e.right ∷ []
  bars_are =
      steps.bars_are l o s e fs q best ∙ ap (◌++ e.left ∷ e.mid ∷ e.right ∷ []) fr.2 ∙ append_assoc fr.0 (fr.1 ∷ []) (e.left ∷ e.mid ∷ e.right ∷ [])

  whole : steps.l0 l o s e fs q best ≡ fr.0 ++ fr.1 ∷ e.left ∷ e.mid ∷ e.right ∷ c0.after
  whole = c0.is ∙ ap (◌++ e.left ∷ e.mid ∷ e.right ∷ c0.after) fr.2 ∙ append_assoc fr.0 (fr.1 ∷ []) (e.left ∷ e.mid ∷ e.right ∷ c0.after)

  x0 : Exact P (fr.0 ++ fr.1 ∷ e.left ∷ e.mid ∷ e.right ∷ c0.after)
  x0 = subst (Exact P) whole (exact-from P (time s.left) l x)

  made_under : All (λ k. All (λ t. T (lt_z t n)) (stamps k)) (fr.0 ++ fr.1 ∷ e.left ∷ e.mid ∷ [])
  made_under =
      let p = fr.0 ++ fr.1 ∷ e.left ∷ e.mid ∷ [] in
      let r = e.right ∷ c0.after in
      let z : steps.l0 l o s e fs q best ≡ p ++ r = whole ∙ sym (append_assoc fr.0 (fr.1 ∷ e.left ∷ e.mid ∷ []) r) in
      let f = (ordered_follows p r (subst Ordered z (steps.o0 l o s e fs q best))).0.0 in
      let h = (All-right (Upto n) p r (subst (All (Upto n)) z (All-from (Upto n) (time s.left) l up))).0.0 in
      All-map p (λ k a. All-map (stamps k) (λ t g. times.lt-le_trans t (time e.right) n g h) a) f

  shaped : T (shape e.mark e.left.bar e.mid.bar e.right.bar)
  shaped = window_shaped e l w

  start-low : AtMost s.mid.bar.low s.mid.bar.high
  start-low = at_most s.mid.bar.low s.mid.bar.high (low-high s.mid (mid_of s l ok F.windows.0))
    where
      mid_of : (f : Fractal) (l : List Merged) → All IsMerged l → Window f l → IsMerged f.mid
      mid_of f [] a w = absurd w
      mid_of f (k ∷ l) a w = window_mid IsMerged f k l a.1 w

  pub made_solid : Solid P n b
  unfolding stroke_of
  made_solid =
      record {
        front = fr.0;
        before = fr.1;
        bars = bars_are;
        exact = exact-left P (fr.0 ++ fr.1 ∷ e.left ∷ []) (e.mid ∷ e.right ∷ c0.after) (subst (Exact P) (sym (append_assoc fr.0 (fr.1 ∷ e.left ∷ []) (e.mid ∷ e.right ∷ c0.after))) x0);
        grown = exact-at P fr.0 fr.1 e.left e.mid (e.right ∷ c0.after) x0;
        way = (shape_ways e.mark e.left.bar e.mid.bar e.right.bar shaped).0;
        rises = (window_rises e l rise w).0;
        under = made_under;
        peak = peak_of P num l s e fs (start_of P l s fs x q) (made.rising l rise s e fs F best).0 (All-map fs (λ f v. window_number f l v) F.windows.1) start-low
            (candidate_other s e (end-candidate l rise s e fs F best)) (kept_in (candidate s) e fs (best_in e.mark e (keep_if (candidate s) fs) best)) best b refl refl;
      }

  pub made_firm : Firm P b (from (time e.left) l)
  unfolding stroke_of
  made_firm = subst (Firm P b) (sym (steps.rest-is l o s e fs q best)) (refl, same e.mid refl, (shape_ways e.mark e.left.bar e.mid.bar e.right.bar shaped).1)

  -- the stroke before is followed by the new stroke's bars
  at_head : (a : Stroke) → Solid P n a → (m : List Merged) → Firm P a m → check_fxs m ≡ s ∷ fs → from (time s.left) m ≡ m
  at_head a v [] f g = absurd f
  at_head a v (k ∷ []) f g = absurd f
  at_head a v (k ∷ z ∷ []) f g = absurd (nil≢cons (two_none k z ∙ g))
  at_head a v (k ∷ z ∷ c ∷ r) f g =
      let y = subst (λ i. Way a.end.mark i.bar z.bar) (sym f.0) (over-beyond a.end.mark P a.end.left a.end.mid z v.way f.1) in
      let t = first-is a.end.mark k z c r (ways_shape a.end.mark k.bar z.bar c.bar y f.2) in
      let i : k ≡ s.left = ap (λ h. h.left) (head-eq_of_cons-eq (sym t.1 ∙ g)) in
      subst (λ h. from (time h) (k ∷ z ∷ c ∷ r) ≡ k ∷ z ∷ c ∷ r) i (from_stop (time k) k (z ∷ c ∷ r) (times.le_refl (time k)))

  pub made-next : (a : Stroke) → Solid P n a → Firm P a l → Firm P a (init b.bars)
  unfolding made_solid stroke_of
  made-next a v f =
      let g = subst (Firm P a) (sym (at_head a v l f q) ∙ whole) f in
      subst (Firm P a) (sym (init-is P n b made_solid)) (firm_left P a fr.0 fr.1 e.left e.mid (e.right ∷ c0.after) g)

-- ---- the step

some-last : (b : Stroke) (bs : List Stroke) → last (b ∷ bs) ≡ none → ⊥
unfolding last
some-last b [] e = none-ne-some b (sym e)
some-last b (b' ∷ bs) e = some-last b' bs e

-- a single bar has one element
abbrev pub One : List Merged → Type 0
One [] = Unit {0}
One (x ∷ []) = init x.elements ≡ []
One (x ∷ y ∷ l) = Unit {0}

pub two-one : (l : List Merged) → Two l → One l
two-one [] t = absurd t
two-one (x ∷ []) t = absurd t
two-one (x ∷ y ∷ l) t = tt

-- bars that go beyond the end have no fractal, and break the stroke
beyond-none : (s : Stroke) (l : List Merged) → Beyond s l → check_fxs l ≡ []
beyond-none s [] b = absurd b
beyond-none s (a ∷ []) b = absurd b
beyond-none s (a ∷ z ∷ []) b = absurd b
beyond-none s (a ∷ z ∷ c ∷ []) b = straight_none s.end.mark a z c b.0 b.1
beyond-none s (a ∷ z ∷ c ∷ d ∷ r) b = absurd b

beyond-breaks : (P : Bar → Type 0) (n : ℤ) (s : Stroke) (l : List Merged) → Solid P n s → Beyond s l → T (breaks s (last l))
unfolding breaks last
beyond-breaks P n s [] w b = absurd b
beyond-breaks P n s (a ∷ []) w b = absurd b
beyond-breaks P n s (a ∷ z ∷ []) w b = absurd b
beyond-breaks P n s (a ∷ z ∷ c ∷ []) w b = w.peak c b.2
beyond-breaks P n s (a ∷ z ∷ c ∷ d ∷ r) w b = absurd b

abbrev Now : (Bar → Type 0) → ℤ → Moved → Type 0
Now P n m = Exact P m.left × Links P n (Post P) m.kept m.left

abbrev pub Then : (Bar → Type 0) → ℤ → Moved → Type 0
Then P n m = Exact P m.left × Links P n (Firm P) m.kept m.left

module _ (P : Bar → Type 0) (num : (z : Bar) → P z → Numbered z) (n : ℤ) where
  post_firm : (s : Stroke) (l : List Merged) (f : Fractal) (fs : List Fractal) → check_fxs l ≡ f ∷ fs → Post P s l → Firm P s l
  post_firm s l f fs e (inl x) = x
  post_firm s l f fs e (inr x) = absurd (nil≢cons (sym (beyond-none s l x.1) ∙ e))

  pub add_now : (l : List Merged) (bs : List Stroke) (f : Found) → Ordered l → All (Upto n) l → All IsMerged l → Exact P l → Links P n (Post P) bs l → (f ≡ nothing_found l) ⊎ MadeFrom l f → Now P n (add_made bs f)
  unfolding add_made add_found
  add_now l bs f o u ok x k (inl e) = subst (λ z. Now P n (add_made bs z)) (sym e) (x, k)
  add_now l bs f o u ok x k (inr m) =
      let c = stroke_of l (m.start ∷ m.others) m.start m.end in
      let rest = from (time m.end.left) l in
      let g = links_put P n (Post P) bs c l rest (λ s w p. made-next P num n l o u ok x m.start m.end m.others m.all m.first s w (post_firm s l m.start m.others m.all p)) k
      (made_solid P num n l o u ok x m.start m.end m.others m.all m.first) (made_firm P num n l o u ok x m.start m.end m.others m.all m.first) in
      subst (λ z. Now P n (add_made bs z)) (sym m.found) (exact-from P (time m.end.left) l x, links_last P n (Firm P) (Post P) rest rest (λ s w i. inl i) (bs ++ c ∷ []) g)

  pub add_then : (l : List Merged) (bs : List Stroke) (f : Found) → Ordered l → All (Upto n) l → All IsMerged l → Exact P l → Links P n (Firm P) bs l → (f ≡ nothing_found l) ⊎ MadeFrom l f → Then P n (add_made bs f)
  unfolding add_made add_found
  add_then l bs f o u ok x k (inl e) = subst (λ z. Then P n (add_made bs z)) (sym e) (x, k)
  add_then l bs f o u ok x k (inr m) =
      let c = stroke_of l (m.start ∷ m.others) m.start m.end in
      let rest = from (time m.end.left) l in
      let g = links_put P n (Firm P) bs c l rest (λ s w p. made-next P num n l o u ok x m.start m.end m.others m.all m.first s w p) k
      (made_solid P num n l o u ok x m.start m.end m.others m.all m.first) (made_firm P num n l o u ok x m.start m.end m.others m.all m.first) in
      subst (λ z. Then P n (add_made bs z)) (sym m.found) (exact-from P (time m.end.left) l x, g)

  -- where the test of the break fails, all is firm
  post_kept : (s : Stroke) (l : List Merged) → Solid P n s → T (not (breaks s (last l))) → Post P s l → Firm P s l
  post_kept s l w h (inl x) = x
  post_kept s l w h (inr x) = contra (breaks s (last l)) (beyond-breaks P n s l w x.1) h

  break_then : (t : Bool) (m : Moved) (b : Stroke) → last m.kept ≡ some b → (T (not t) → T (not (breaks b (last m.left)))) → Now P n m → Then P n (break_if t m b)
  unfolding break_if
  break_then true m b e h k =
      let q = last_snoc m.kept b e in
      let j = links_last P n (Post P) (Loose P) m.left m.left (λ s w x. post_loose P s m.left x) m.kept k.1 in
      let i = subst (λ z. Links P n (Loose P) z m.left) q j in
      let a = links_at P n (Loose P) (init m.kept) b m.left i in
      (took_exact P n b a.0 m.left a.1 k.0, links_took P n (init m.kept) b m.left i)
  break_then false m b e h k =
      let q = last_snoc m.kept b e in
      (k.0, subst (λ z. Links P n (Firm P) z m.left) (sym q) (links_fix (init m.kept) b m.left (h tt) (subst (λ z. Links P n (Post P) z m.left) q k.1)))
    where
      links_fix : (bs : List Stroke) (s : Stroke) (l : List Merged) → T (not (breaks s (last l))) → Links P n (Post P) (bs ++ s ∷ []) l → Links P n (Firm P) (bs ++ s ∷ []) l
      links_fix [] s l h k = (k.0, post_kept s l k.0 h k.1)
      links_fix (b ∷ []) s l h k = (k.0, k.1, links_fix [] s l h k.2)
      links_fix (b ∷ b' ∷ bs) s l h k = (k.0, k.1, links_fix (b' ∷ bs) s l h k.2)

  last_none : (m : Moved) → last m.kept ≡ none → Now P n m → Then P n m
  last_none m e k = (k.0, none_kept m.kept m.left e k.1)
    where
      none_kept : (bs : List Stroke) (l : List Merged) → last bs ≡ none → Links P n (Post P) bs l → Links P n (Firm P) bs l
      none_kept [] l e k = tt
      none_kept (b ∷ bs) l e k = absurd (some-last b bs e)

  pub break_last_then : (m : Moved) (o : Option Stroke) → last m.kept ≡ o → Now P n m → Then P n (break_last m o)
  unfolding break_last
  break_last_then m none e k = last_none m e k
  break_last_then m (some b) e k = break_then (breaks b (last m.left)) m b e (λ t. t) k

  -- no tail is lost
  pub now_safe : (m : Moved) → Now P n m → Lost m → ⊥
  now_safe m k x =
      let j = links_last P n (Post P) (Loose P) m.left m.left (λ s w y. post_loose P s m.left y) m.kept k.1 in
      let a = links_at P n (Loose P) (init m.kept) x.stroke m.left (subst (λ z. Links P n (Loose P) z m.left) (last_snoc m.kept x.stroke x.last') j) in
      loose_tail P n x.stroke a.0 m.left a.1 x.nothing
