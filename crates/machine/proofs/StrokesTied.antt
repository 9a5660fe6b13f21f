-- Where no element is lost: the bars after a stroke begin with its end's first bar and a second bar that was merged of its end's middle bar and later ones.
-- Assumes nothing.
use mathlib.Core.Path.{◌≡◌, refl, ap, sym, ◌∙◌, subst}
use mathlib.Core.Bool.{Bool, true, false, not}
use mathlib.Core.List.{List, [], ◌∷◌, ◌++◌, append_assoc, nil≢cons, tail-eq_of_cons-eq}
use mathlib.Core.Logic.{◌⊎◌, inl, inr}
use lib.IntN.{ℤ}
use lib.Signed.{lt_z, le_z}
use lib.Dec.{T}
use lib.Ieee.{lt}
use Rattle.bars.specs.Lists.{All, fold_left, init}
use Rattle.bars.specs.declared.Bar.{Bar}
use Rattle.bars.specs.Bars.{Merged, own}
use Rattle.machine.specs.declared.Mark.{Mark}
use Rattle.machine.specs.declared.Mark.TheVariants.{D, G}
use Rattle.machine.specs.Strokes.{Stroke}
use Rattle.bars.specs.Merging.{united, contains, merged_up, merged_down, settle, remove_include, merge_in, at_times}
use Rattle.machine.specs.ByTime.{from}
use Rattle.machine.proofs.MachineByTime.{joined}
use Rattle.machine.specs.Break.{broken_by}
use Rattle.arith.specs.Order.{max_of, min_of}
use Rattle.machine.proofs.Lists.{All-left}
use Rattle.machine.proofs.MergingKeepsFractal.{merge_head}
use Rattle.machine.proofs.StrokesChain.{init_snoc}
use Rattle.machine.proofs.Places.{from_skip, from_stop}
use Rattle.machine.proofs.MergingKeepsOrder.{stamps, pick}
use Rattle.arith.proofs.FloatOrder.{decide, lt_asym, lt-left, lt-right, lt-le_trans, le_lt_trans}
use Rattle.arith.proofs.MaxMin.{le_max_left, min_le_left}
use Rattle.machine.proofs.StrokesBefore.{Two}
use Rattle.machine.proofs.NewestLast.{fold_snoc}
use Rattle.machine.proofs.GrownBars.{Grown, first, next, Over, same, more, grown-over, grown-map, over_local, merge_local, fold_local, Looks, regrow, outcome, Trip, Exact, Small, trip_merged}
use Rattle.machine.proofs.BarsApart.{Rises, Way, way_not, Numbered, put_apart, beyond-joins, within-joins, over-beyond, over-within, grown-apart, long, bar_of_lem}
use Rattle.bars.proofs.Times as times

abbrev time : Merged → ℤ
time k = k.bar.time

-- ---- maps

pub trip_map : (P P' : Bar → Type 0) (Q : ℤ → Type 0) → ((z : Bar) → Q z.time → P z → P' z) → (a b : Merged) (l : List Merged) → All (λ k. All Q k.elements) l → Trip P a b l → Trip P' a b l
trip_map P P' Q f a b [] q t = tt
trip_map P P' Q f a b (c ∷ l) q t = (grown-map P P' Q (a ∷ b ∷ []) c f q.0 t.0, trip_map P P' Q f b c l q.1 t.1)

pub exact-map : (P P' : Bar → Type 0) (Q : ℤ → Type 0) → ((z : Bar) → Q z.time → P z → P' z) → (l : List Merged) → All (λ k. All Q k.elements) l → Exact P l → Exact P' l
exact-map P P' Q f [] q x = tt
exact-map P P' Q f (a ∷ []) q x = tt
exact-map P P' Q f (a ∷ b ∷ l) q x = (grown-map P P' Q (a ∷ []) b f q.1.0 x.0, trip_map P P' Q f a b l q.1.1 x.1)

-- ---- the last merging is undone

pub record Undo (P : Bar → Type 0) (raw : List Bar) (p : List Merged) (k : Merged) : Type 0 where
  pub back : List Merged
  pub eq : (y : Bar) → fold_left merge_in p (at_times raw (init k.elements) ++ y ∷ []) ≡ merge_in back y
  pub shrunk : (back ≡ p) ⊎ ((m : Merged) × (z : Bar) × (back ≡ p ++ m ∷ []) × (k.elements ≡ m.elements ++ z.time ∷ []))

module _ (P : Bar → Type 0) (raw : List Bar) (Q : ℤ → Type 0) (f : (z : Bar) → Q z.time → P z → Looks raw z) where
  pub first-eq : (p : List Merged) (k : Merged) (z y : Bar) → k ≡ own z → fold_left merge_in p (at_times raw (init k.elements) ++ y ∷ []) ≡ merge_in p y
  unfolding fold_left own init at_times
  first-eq p k z y e = ap (λ c. fold_left merge_in p (at_times raw (init c.elements) ++ y ∷ [])) e

  pub next-eq : (p : List Merged) (k m : Merged) (z y : Bar) → Grown P p m → All Q k.elements → k.elements ≡ m.elements ++ z.time ∷ [] → fold_left merge_in p (at_times raw (init k.elements) ++ y ∷ []) ≡ merge_in (p ++ m ∷ []) y
  next-eq p k m z y g a l =
      ap (λ c. fold_left merge_in p (at_times raw (init c) ++ y ∷ [])) l
      ∙ ap (λ c. fold_left merge_in p (at_times raw c ++ y ∷ [])) (init_snoc m.elements z.time)
      ∙ fold_snoc p (at_times raw m.elements) y
      ∙ ap (λ c. merge_in c y) (regrow P raw Q p m f (All-left Q m.elements (z.time ∷ []) (subst (All Q) l a)) g)

  abbrev pub next_undo : (p : List Merged) (k m : Merged) (z : Bar) → Grown P p m → All Q k.elements → k.elements ≡ m.elements ++ z.time ∷ [] → Undo P raw p k
  next_undo p k m z g a l = record { back = p ++ m ∷ []; eq = λ y. next-eq p k m z y g a l; shrunk = inr (m, z, refl, l) }

  abbrev pub first_undo : (p : List Merged) (k : Merged) (z : Bar) → k ≡ own z → Undo P raw p k
  first_undo p k z e = record { back = p; eq = λ y. first-eq p k z y e; shrunk = inl refl }

  -- behind one bar
  pub pair_undo : (a k : Merged) → Grown P (a ∷ []) k → All Q k.elements → (u : Undo P raw (a ∷ []) k) × Exact P u.back
  pair_undo a k (first k' z p e q) h = (first_undo (a ∷ []) k' z e, tt)
  pair_undo a k (next k' m z g p e l) h = (next_undo (a ∷ []) k' m z g h l, (g, tt))

  two_back : (p : List Merged) (k : Merged) (u : Undo P raw p k) → Two p → Two u.back
  two_back p k u t = elim u.shrunk [ inl e ↦ subst Two (sym e) t | inr e ↦ subst Two (sym e.2) (two_snoc p e.0 t) ]
    where
      two_snoc : (p : List Merged) (m : Merged) → Two p → Two (p ++ m ∷ [])
      two_snoc [] m t = absurd t
      two_snoc (a ∷ []) m t = absurd t
      two_snoc (a ∷ b ∷ p) m t = tt

  abbrev undo_front : (x : Merged) (p : List Merged) (k : Merged) → Two p → Undo P raw p k → Undo P raw (x ∷ p) k
  undo_front x p k t u =
      record {
        back = x ∷ u.back;
        eq = λ y. fold_local x p (at_times raw (init k.elements) ++ y ∷ []) t ∙ ap (x ∷◌) (u.eq y) ∙ sym (merge_local x u.back y (two_back p k u t));
        shrunk = elim u.shrunk [ inl e ↦ inl (ap (x ∷◌) e) | inr e ↦ inr (e.0, e.1, ap (x ∷◌) e.2, e.3) ];
      }

-- the third bar, if any, is on this side of z
abbrev pub Fract : Mark → Merged → List Merged → Type 0
Fract m z [] = Unit {0}
Fract m z (c ∷ r) = Way m c.bar z.bar

pub record TripUndo (P : Bar → Type 0) (raw : List Bar) (a b : Merged) (q : List Merged) (k : Merged) : Type 0 where
  pub undo : Undo P raw (a ∷ b ∷ q) k
  pub rest : List Merged
  pub is : undo.back ≡ a ∷ b ∷ rest
  pub trip : Trip P a b rest
  pub fract : (m : Mark) → Way m a.bar b.bar → Fract m b (q ++ k ∷ []) → Fract m b rest

module _ (P : Bar → Type 0) (raw : List Bar) (Q : ℤ → Type 0) (f : (z : Bar) → Q z.time → P z → Looks raw z) (num : (z : Bar) → P z → Numbered z) where
  stage_within : (m : Mark) (a b c k : Merged) (z : Bar) → Grown P (a ∷ b ∷ []) c → merge_in (b ∷ c ∷ []) z ≡ b ∷ k ∷ [] → Way m a.bar b.bar → Way m k.bar b.bar → Way m c.bar b.bar
  stage_within m a b c k z g e w h = elim (grown-apart m P a b c num w g) [ inl x ↦ x | inr x ↦ absurd (way_not m b.bar k.bar (beyond-joins m b c k z x e) h) ]

  pub trip_undo : (a b : Merged) (q : List Merged) (k : Merged) → Trip P a b (q ++ k ∷ []) → All Q k.elements → TripUndo P raw a b q k
  unfolding merge_in
  trip_undo a b [] k t h = third t.0 h
    where
      third : {k : Merged} → Grown P (a ∷ b ∷ []) k → All Q k.elements → TripUndo P raw a b [] k
      third (first k' z p e s) h = record { undo = first_undo P raw Q f (a ∷ b ∷ []) k' z e; rest = []; is = refl; trip = tt; fract = λ m w x. tt }
      third (next k' c z g p e l) h =
          record { undo = next_undo P raw Q f (a ∷ b ∷ []) k' c z g h l; rest = c ∷ []; is = refl; trip = (g, tt); fract = λ m w x. stage_within m a b c k' z g (tail-eq_of_cons-eq e) w x }
  trip_undo a b (c ∷ q) k t h =
      let u = trip_undo b c q k t.1 h in
      record {
        undo = undo_front P raw Q f a (b ∷ c ∷ q) k tt u.undo;
        rest = c ∷ u.rest;
        is = ap (a ∷◌) u.is;
        trip = (t.0, u.trip);
        fract = λ m w x. x;
      }

-- ---- a stroke and the bars after it

abbrev pub Loose : (Bar → Type 0) → Stroke → List Merged → Type 0
Loose P s [] = ⊥
Loose P s (a ∷ []) = ⊥
Loose P s (a ∷ z ∷ r) = (a ≡ s.end.left) × Over P (s.end.left ∷ []) s.end.mid z

abbrev pub Firm : (Bar → Type 0) → Stroke → List Merged → Type 0
Firm P s [] = ⊥
Firm P s (a ∷ []) = ⊥
Firm P s (a ∷ z ∷ r) = (a ≡ s.end.left) × Over P (s.end.left ∷ []) s.end.mid z × Fract s.end.mark z r

pub firm_loose : (P : Bar → Type 0) (s : Stroke) (l : List Merged) → Firm P s l → Loose P s l
firm_loose P s [] f = f
firm_loose P s (a ∷ []) f = f
firm_loose P s (a ∷ z ∷ r) f = (f.0, f.1)

-- the three bars rise beyond the stroke's end
abbrev pub Beyond : Stroke → List Merged → Type 0
Beyond s [] = ⊥
Beyond s (a ∷ []) = ⊥
Beyond s (a ∷ z ∷ []) = ⊥
Beyond s (a ∷ z ∷ c ∷ []) = Way s.end.mark a.bar z.bar × Way s.end.mark z.bar c.bar × Way s.end.mark s.end.mid.bar c.bar
Beyond s (a ∷ z ∷ c ∷ d ∷ r) = ⊥

pub record Solid (P : Bar → Type 0) (n : ℤ) (s : Stroke) : Type 0 where
  pub front : List Merged
  pub before : Merged
  pub bars : s.bars ≡ front ++ before ∷ s.end.left ∷ s.end.mid ∷ s.end.right ∷ []
  pub exact : Exact P (front ++ before ∷ s.end.left ∷ [])
  pub grown : Grown P (before ∷ s.end.left ∷ []) s.end.mid
  pub way : Way s.end.mark s.end.left.bar s.end.mid.bar
  pub rises : T (lt_z (time s.end.left) (time s.end.mid))
  pub under : All (λ k. All (λ t. T (lt_z t n)) (stamps k)) (front ++ before ∷ s.end.left ∷ s.end.mid ∷ [])
  pub peak : (k : Merged) → Way s.end.mark s.end.mid.bar k.bar → T (broken_by s k)

-- ---- a bar is merged in

-- what is above a bar merged upwards is above what it was merged of
up_under_if : (h m z : Merged) (w y : Bar) (u d i : Bool) → Rises h.bar m.bar → T u → h ∷ settle u d i m y ≡ h ∷ z ∷ [] → Rises z.bar w → Rises m.bar w
unfolding settle merged_up united
up_under_if h m z w y true d true a k e r =
    let q = subst (λ x. Rises x.bar w) (sym (bar_of_lem h (merged_up m y) z e)) r in
    record {
      high = le_lt_trans m.bar.high (max_of m.bar.high y.high) w.high (le_max_left m.bar.high y.high (lt-right h.bar.high m.bar.high a.high)) q.high;
      low = le_lt_trans m.bar.low (max_of m.bar.low y.low) w.low (le_max_left m.bar.low y.low (lt-right h.bar.low m.bar.low a.low)) q.low;
    }
up_under_if h m z w y true d false a k e r = absurd (long h z h m (own y) e)
up_under_if h m z w y false d i a k e r = absurd k

down_under_if : (h m z : Merged) (w y : Bar) (u d i : Bool) → Rises m.bar h.bar → T (not u) → T d → h ∷ settle u d i m y ≡ h ∷ z ∷ [] → Rises w z.bar → Rises w m.bar
unfolding settle merged_down united
down_under_if h m z w y false true true a n k e r =
    let q = subst (λ x. Rises w x.bar) (sym (bar_of_lem h (merged_down m y) z e)) r in
    record {
      high = lt-le_trans w.high (min_of m.bar.high y.high) m.bar.high q.high (min_le_left m.bar.high y.high (lt-left m.bar.high h.bar.high a.high));
      low = lt-le_trans w.low (min_of m.bar.low y.low) m.bar.low q.low (min_le_left m.bar.low y.low (lt-left m.bar.low h.bar.low a.low));
    }
down_under_if h m z w y false true false a n k e r = absurd (long h z h m (own y) e)
down_under_if h m z w y false false i a n k e r = absurd k
down_under_if h m z w y true d i a n k e r = absurd n

joins_under : (k : Mark) (h m z : Merged) (w y : Bar) → Way k h.bar m.bar → merge_in (h ∷ m ∷ []) y ≡ h ∷ z ∷ [] → Way k z.bar w → Way k m.bar w
unfolding merge_in remove_include
joins_under G h m z w y a e r = up_under_if h m z w y (lt h.bar.high m.bar.high) (lt m.bar.high h.bar.high) (contains m.bar y) a a.high e r
joins_under D h m z w y a e r =
    let n : T (not (lt h.bar.high m.bar.high)) = elim (decide (lt h.bar.high m.bar.high)) [ inl l ↦ absurd (lt_asym h.bar.high m.bar.high l a.high) | inr k ↦ k ] in
    down_under_if h m z w y (lt h.bar.high m.bar.high) (lt m.bar.high h.bar.high) (contains m.bar y) a n a.high e r

over_under : (k : Mark) (P : Bar → Type 0) (h m z : Merged) (w : Bar) → Way k h.bar m.bar → Over P (h ∷ []) m z → Way k z.bar w → Way k m.bar w
over_under k P h m z w a (same z' e) r = subst (λ x. Way k x.bar w) e r
over_under k P h m z w a (more z' c y o p t e l) r = over_under k P h m c w a o (joins_under k h c z' w y (over-beyond k P h m c a o) e r)

-- ---- times

time_if : (h m z : Merged) (y : Bar) (u d i : Bool) → h ∷ settle u d i m y ≡ h ∷ z ∷ [] → (Q : ℤ → Type 0) → Q (time m) → Q y.time → Q (time z)
unfolding settle merged_up merged_down united
time_if h m z y true d true e Q p q = subst (λ x. Q (time x)) (bar_of_lem h (merged_up m y) z e) (pick Q (lt y.high m.bar.high) (time m) y.time p q)
time_if h m z y false true true e Q p q = subst (λ x. Q (time x)) (bar_of_lem h (merged_down m y) z e) (pick Q (lt m.bar.low y.low) (time m) y.time p q)
time_if h m z y false false true e Q p q = absurd (long h z h m (own y) e)
time_if h m z y true d false e Q p q = absurd (long h z h m (own y) e)
time_if h m z y false d false e Q p q = absurd (long h z h m (own y) e)

over-time : (P : Bar → Type 0) (h m z : Merged) → Over P (h ∷ []) m z → T (le_z (time m) (time z))
unfolding merge_in remove_include
over-time P h m z (same z' e) = subst (λ x. T (le_z (time m) (time x))) (sym e) (times.le_refl (time m))
over-time P h m z (more z' c y o p t e l) =
    time_if h c z' y (lt h.bar.high c.bar.high) (lt c.bar.high h.bar.high) (contains c.bar y) e (λ v. T (le_z (time m) v)) (over-time P h m c o) t

-- ---- a bar is merged in

abbrev pub Post : (Bar → Type 0) → Stroke → List Merged → Type 0
Post P s l = Firm P s l ⊎ (Loose P s l × Beyond s l)

module _ (P : Bar → Type 0) (n : ℤ) (s : Stroke) (w : Solid P n s) (y : Bar) (num : Numbered y) (p : P y) (late : T (le_z (time s.end.mid) y.time)) where
  abbrev h : Merged
  h = s.end.left

  merged-one : (z : Merged) → Small z → Over P (h ∷ []) s.end.mid z → Post P s (merge_in (h ∷ z ∷ []) y)
  unfolding own
  merged-one z sm o =
      let a = over-beyond s.end.mark P h s.end.mid z w.way o in
      elim (outcome h z y sm) [
        | inl e ↦ elim (put_apart s.end.mark h z y num a e) [
          | inl x ↦ inl (subst (Firm P s) (sym e) (refl, o, x))
          | inr x ↦ inr (subst (Loose P s) (sym e) (refl, o), subst (Beyond s) (sym e) (a, x, over_under s.end.mark P h s.end.mid z y w.way o x))
        ]
        | inr j ↦ inl (subst (Firm P s) (sym j.is) (refl, more j.bar z y o p late j.is j.elements, tt))
      ]

  merged-two : (z c : Merged) → Small c → Over P (h ∷ []) s.end.mid z → Way s.end.mark c.bar z.bar → Firm P s (merge_in (h ∷ z ∷ c ∷ []) y)
  unfolding merge_in
  merged-two z c sm o x = elim (outcome z c y sm) [
    | inl e ↦ subst (λ l. Firm P s (h ∷ l)) (sym e) (refl, o, x)
    | inr j ↦ subst (λ l. Firm P s (h ∷ l)) (sym j.is) (refl, o, within-joins s.end.mark z c j.bar y x j.is)
  ]

  merged-more : (z c d : Merged) (r : List Merged) → Over P (h ∷ []) s.end.mid z → Way s.end.mark c.bar z.bar → Firm P s (merge_in (h ∷ z ∷ c ∷ d ∷ r) y)
  unfolding merge_in
  merged-more z c d r o x = let m = merge_head c d r y in subst (λ l. Firm P s (h ∷ z ∷ l)) (sym m.1) (refl, o, x)

  merged-all : (z : Merged) (r : List Merged) → All Small (z ∷ r) → Over P (h ∷ []) s.end.mid z → Fract s.end.mark z r → Post P s (merge_in (h ∷ z ∷ r) y)
  merged-all z [] sm o x = merged-one z sm.0 o
  merged-all z (c ∷ []) sm o x = inl (merged-two z c sm.1.0 o x)
  merged-all z (c ∷ d ∷ r) sm o x = inl (merged-more z c d r o x)

  pub firm_merged : (l : List Merged) → All Small l → Firm P s l → Post P s (merge_in l y)
  firm_merged [] sm f = absurd f
  firm_merged (a ∷ []) sm f = absurd f
  firm_merged (a ∷ z ∷ r) sm f = subst (λ x. Post P s (merge_in (x ∷ z ∷ r) y)) (sym f.0) (merged-all z r sm.1 f.1 f.2)

-- the list stays exact
pub exact-merged : (P : Bar → Type 0) (l : List Merged) (y : Bar) → P y → All Small l → Exact P l → Exact P (merge_in l y)
unfolding merge_in
exact-merged P [] y p sm x = tt
exact-merged P (a ∷ []) y p sm x = (first (own y) y p refl refl, tt)
exact-merged P (a ∷ b ∷ []) y p sm x = elim (outcome a b y sm.1.0) [
  | inl e ↦ subst (Exact P) (sym e) (x.0, (first (own y) y p refl e, tt))
  | inr j ↦ subst (Exact P) (sym j.is) (next j.bar b y x.0 p j.is j.elements, tt)
]
exact-merged P (a ∷ b ∷ c ∷ l) y p sm x =
    let r = trip_merged P a b c l y p sm.1.1 x.1 in
    subst (λ z. Exact P (a ∷ z)) (sym r.1) (x.0, r.2)

-- ---- the stroke breaks

exact-join : (P : Bar → Type 0) (a b : Merged) (q : List Merged) (x h z : Merged) (r : List Merged) → Trip P a b (q ++ x ∷ h ∷ []) → Grown P (x ∷ h ∷ []) z → Trip P h z r → Trip P a b (q ++ x ∷ h ∷ z ∷ r)
exact-join P a b [] x h z r t g u = (t.0, (t.1.0, (g, u)))
exact-join P a b (c ∷ q) x h z r t g u = (t.0, exact-join P b c q x h z r t.1 g u)

joins-exact : (P : Bar → Type 0) (q : List Merged) (x h z : Merged) (r : List Merged) → Exact P (q ++ x ∷ h ∷ []) → Grown P (x ∷ h ∷ []) z → Trip P h z r → Exact P (q ++ x ∷ h ∷ z ∷ r)
joins-exact P [] x h z r e g u = (e.0, (g, u))
joins-exact P (a ∷ []) x h z r e g u = (e.0, (e.1.0, (g, u)))
joins-exact P (a ∷ b ∷ q) x h z r e g u = (e.0, exact-join P a b q x h z r e.1 g u)

firm_joins : (P : Bar → Type 0) (b : Stroke) (q : List Merged) (x h k z : Merged) (r : List Merged) → Over P (h ∷ []) k z → Firm P b (q ++ x ∷ h ∷ k ∷ []) → Firm P b (q ++ x ∷ h ∷ z ∷ r)
firm_joins P b [] x h k z r o f = (f.0, f.1, over-within b.end.mark P h k z f.2 o)
firm_joins P b (a ∷ []) x h k z r o f = f
firm_joins P b (a ∷ c ∷ []) x h k z r o f = f
firm_joins P b (a ∷ c ∷ d ∷ q) x h k z r o f = f

module _ (P : Bar → Type 0) (n : ℤ) (s : Stroke) (w : Solid P n s) where
  abbrev e0 : Merged
  e0 = s.end.left

  -- all but the last bar
  pub init-is : init s.bars ≡ w.front ++ w.before ∷ s.end.left ∷ s.end.mid ∷ []
  init-is =
      ap init (w.bars ∙ sym (append_assoc w.front (w.before ∷ s.end.left ∷ s.end.mid ∷ []) (s.end.right ∷ [])))
      ∙ init_snoc (w.front ++ w.before ∷ s.end.left ∷ s.end.mid ∷ []) s.end.right

  back_is : init (init s.bars) ≡ w.front ++ w.before ∷ s.end.left ∷ []
  back_is =
      ap init (init-is ∙ sym (append_assoc w.front (w.before ∷ s.end.left ∷ []) (s.end.mid ∷ [])))
      ∙ init_snoc (w.front ++ w.before ∷ s.end.left ∷ []) s.end.mid

  tail-is : (z : Merged) (r : List Merged) → Over P (e0 ∷ []) s.end.mid z → from (time s.end.mid) (e0 ∷ z ∷ r) ≡ z ∷ r
  tail-is z r o = from_skip (time s.end.mid) e0 (z ∷ r) w.rises ∙ from_stop (time s.end.mid) z r (over-time P e0 s.end.mid z o)

  joined_is : (z : Merged) (r : List Merged) → Over P (e0 ∷ []) s.end.mid z → joined s (e0 ∷ z ∷ r) ≡ w.front ++ w.before ∷ e0 ∷ z ∷ r
  unfolding joined
  joined_is z r o =
      ap (◌++ from (time s.end.mid) (e0 ∷ z ∷ r)) back_is
      ∙ ap ((w.front ++ w.before ∷ e0 ∷ []) ++◌) (tail-is z r o)
      ∙ append_assoc w.front (w.before ∷ e0 ∷ []) (z ∷ r)

  -- the tail is not empty
  pub loose_tail : (l : List Merged) → Loose P s l → from (time s.end.mid) l ≡ [] → ⊥
  loose_tail [] f e = f
  loose_tail (a ∷ []) f e = f
  loose_tail (a ∷ z ∷ r) f e = nil≢cons (sym (subst (λ x. from (time s.end.mid) (x ∷ z ∷ r) ≡ []) f.0 e) ∙ tail-is z r f.1)

  pub took_exact : (l : List Merged) → Loose P s l → Exact P l → Exact P (joined s l)
  took_exact [] f x = absurd f
  took_exact (a ∷ []) f x = absurd f
  took_exact (a ∷ z ∷ r) f x =
      subst (λ v. Exact P (joined s (v ∷ z ∷ r))) (sym f.0)
      (subst (Exact P) (sym (joined_is z r f.1))
      (joins-exact P w.front w.before e0 z r w.exact (grown-over P (w.before ∷ e0 ∷ []) s.end.mid z w.grown (over_local P w.before e0 s.end.mid z f.1)) (subst (λ v. Trip P v z r) f.0 x.1)))

  pub took_firm : (b : Stroke) (l : List Merged) → Loose P s l → Firm P b (init s.bars) → Firm P b (joined s l)
  took_firm b [] f x = absurd f
  took_firm b (a ∷ []) f x = absurd f
  took_firm b (a ∷ z ∷ r) f x =
      subst (λ v. Firm P b (joined s (v ∷ z ∷ r))) (sym f.0)
      (subst (Firm P b) (sym (joined_is z r f.1)) (firm_joins P b w.front w.before e0 s.end.mid z r f.1 (subst (Firm P b) init-is x)))
