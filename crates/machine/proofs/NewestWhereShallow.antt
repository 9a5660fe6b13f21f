-- The newest raw bar is the last element of the last unfinished bar, bars that repeat the last time included, where no unfinished bar of a state before has more
-- than 100 elements.
-- Assumes nothing.
use Prim.Native.Nat.{ℕ}
use native.Mathlib.Omega.{arith}
use mathlib.Core.Path.{◌≡◌, refl, ap, sym, ◌∙◌, subst}
use mathlib.Core.Bool.{Bool, true, false, not, ◌&&◌, cond}
use mathlib.Core.List.{List, [], ◌∷◌, ◌++◌, append_assoc}
use mathlib.Core.Option.{Option, none, some}
use mathlib.Core.Logic.{◌⊎◌, inl, inr}
use lib.ListN.{length, length-append}
use lib.IntN.{ℤ}
use lib.Signed.{lt_z, le_z}
use lib.Dec.{T, ltb}
use lib.Ieee.Fits.{and_l, and_r, and_i}
use Rattle.bars.specs.Lists.{All, keep_if, skip_while, fold_left, init, last, some_of}
use Rattle.bars.specs.declared.Bar.{Bar}
use Rattle.bars.specs.Bars.{Merged, own}
use Rattle.machine.specs.Fractals.{Fractal, check_fxs}
use Rattle.machine.specs.Strokes.{Stroke, start_best}
use Rattle.machine.specs.Stand.{State, fresh}
use Rattle.machine.specs.Feed.{Moved, shed_if, raw_with, merged_with, is_later}
use Rattle.bars.specs.Merging.{merge_all, merge_in, at_times, again}
use Rattle.machine.specs.ByTime.{cut_at, cut_by_time, check_bi_by_time}
use Rattle.machine.proofs.MachineByTime.{move_some, move, drop_early, finish, step_with, step, feed_if, feed, run, joined, start, Asks, Shallow}
use Rattle.machine.specs.Rising.{Rising}
use Rattle.bars.specs.Questions.{question9, is_bar}
use Rattle.machine.specs.Soundness.{names, same_time, ends_on, closes, newest_last}
use Rattle.arith.proofs.FloatOrder.{decide, contra, or_r, or-e}
use Rattle.machine.proofs.Lists.{keep_yes, keep_no, skip_yes, skip_no, All-map, All-zip, All-append, All-left, All-right}
use Rattle.machine.proofs.FractalWindows.{Window, cut_window}
use Rattle.machine.proofs.MadeStroke.{Facts, facts, check_outcome}
use Rattle.machine.proofs.MergingKeepsOrder.{stamps, Upto, RisingT, ordered_rising, ordered_right}
use Rattle.machine.proofs.StrokesChain.{last_snoc}
use Rattle.machine.proofs.ChainKept.{start_in, cut_ordered, cut_all}
use Rattle.machine.proofs.StrokesBefore.{Inv, ordered_follows, two-merged, trivially}
use Rattle.machine.proofs.StrokesBeforeKept.{move_inv, shed_inv}
use Rattle.machine.proofs.ReplacedBars.{RisingBars, Stands, Fine, Fed, fed, last-raw, last_some, start_fine, bars-last, raw-before}
use Rattle.machine.proofs.MergedRanges.{IsMerged}
use Rattle.machine.proofs.EventsKeep.{Keeps, move_keeps}
use Rattle.machine.proofs.StrokeBuilt.{Built, built_keeps}
use Rattle.machine.proofs.GrownBars.{Grown, Over, same, more, grown-over, grown_front, Looks, Exact, Small}
use Rattle.machine.proofs.BarsApart.{Way, Numbered, bar_numbered, over-beyond}
use Rattle.machine.proofs.StrokesTied.{exact-map, Undo, pair_undo, next_undo, trip_undo, Firm, Solid, Post, firm_merged, exact-merged}
use Rattle.machine.proofs.StrokesLinked.{Links, links_find, links_last, links_map, links_shed, firm_map, exact-from, One, two-one, Then, add_now, add_then, break_last_then, now_safe}
use Rattle.machine.proofs.NewestLast.{Ends, fed-ends, move-ends, between, MayLose, NoneLost}
use Rattle.machine.proofs.ElementsNamed.{names_more, names_if}
use Rattle.machine.proofs.TimeFloor.{last-elements, joined-two}
use Rattle.machine.proofs.ReachedWell.{Called, Kept, Well, fed-kept, feed_well, start_well}
use Rattle.machine.proofs.NewestWhereLater.{newest_unless_lost}
use Rattle.machine.proofs.StrokesBeforeKept as steps
use Rattle.bars.proofs.Times as times
use Rattle.machine.proofs.FewerFractals.{in_all}

abbrev time : Merged → ℤ
time k = k.bar.time

-- ---- a raw bar is found by its time

-- if z's time is that of a raw bar, z is that bar; and z passed the questions
abbrev Part : List Bar → Bar → Type 0
Part raw z = (T (names raw z.time) → Looks raw z) × T (is_bar z)

part_numbered : (raw : List Bar) (z : Bar) → Part raw z → Numbered z
part_numbered raw z p = bar_numbered z p.1

abbrev near : Bar → Bar → Bool
near z b = le_z b.time z.time && le_z z.time b.time

not-near : (z r : Bar) → T (lt_z z.time r.time) → T (not (near z r))
not-near z r h = elim (decide (near z r)) [ inl n ↦ contra (le_z r.time z.time) (and_l (le_z r.time z.time) (le_z z.time r.time) n) (times.lt_not_le r.time z.time h) | inr n ↦ n ]

not_near' : (z r : Bar) → T (lt_z r.time z.time) → T (not (near z r))
not_near' z r h = elim (decide (near z r)) [ inl n ↦ contra (le_z z.time r.time) (and_r (le_z r.time z.time) (le_z z.time r.time) n) (times.lt_not_le z.time r.time h) | inr n ↦ n ]

keep_cons : (p : Bar → Bool) (x : Bar) (l m : List Bar) → keep_if p l ≡ keep_if p m → keep_if p (x ∷ l) ≡ keep_if p (x ∷ m)
unfolding keep_if
keep_cons p x l m e = ap (λ r. cond (p x) (x ∷ r) r) e

keep_snoc_no : (p : Bar → Bool) (l : List Bar) (b : Bar) → T (not (p b)) → keep_if p (l ++ b ∷ []) ≡ keep_if p l
keep_snoc_no p [] b h = keep_no p b [] h
keep_snoc_no p (x ∷ l) b h = keep_cons p x (l ++ b ∷ []) l (keep_snoc_no p l b h)

keep_snoc_yes : (p : Bar → Bool) (l : List Bar) (b : Bar) → T (p b) → All (λ x. T (not (p x))) l → keep_if p (l ++ b ∷ []) ≡ b ∷ []
unfolding keep_if
keep_snoc_yes p [] b h a = keep_yes p b [] h
keep_snoc_yes p (x ∷ l) b h a = keep_no p x (l ++ b ∷ []) a.0 ∙ keep_snoc_yes p l b h a.1

names-less : (l : List Bar) (b : Bar) (t : ℤ) → T (lt_z t b.time) → T (names (l ++ b ∷ []) t) → T (names l t)
unfolding names some_of same_time
names-less [] b t h k = elim (or-e (same_time b.time t) false k) [ inl s ↦ contra (le_z b.time t) (and_l (le_z b.time t) (le_z t b.time) s) (times.lt_not_le b.time t h) | inr n ↦ n ]
names-less (x ∷ l) b t h k = names_if x (l ++ b ∷ []) l t (or-e (same_time x.time t) (names (l ++ b ∷ []) t) k) (names-less l b t h)

part_later : (raw : List Bar) (b z : Bar) → T (lt_z z.time b.time) → Part raw z → Part (raw ++ b ∷ []) z
part_later raw b z h p = ((λ n. keep_snoc_no (near z) raw b (not-near z b h) ∙ p.0 (names-less raw b z.time h n)), p.1)

part_swap : (q : List Bar) (r b z : Bar) → r.time ≡ b.time → T (lt_z z.time b.time) → Part (q ++ r ∷ []) z → Part (q ++ b ∷ []) z
part_swap q r b z e h p = (
  (λ n. keep_snoc_no (near z) q b (not-near z b h) ∙ sym (keep_snoc_no (near z) q r (not-near z r (subst (λ t. T (lt_z z.time t)) (sym e) h))) ∙ p.0 (names_more q (r ∷ []) z.time (names-less q b z.time h n))),
  p.1,
)

part_new : (q : List Bar) (b : Bar) → All (λ x. T (lt_z x.time b.time)) q → T (is_bar b) → Part (q ++ b ∷ []) b
part_new q b a ok = ((λ n. keep_snoc_yes (near b) q b (and_i (le_z b.time b.time) (le_z b.time b.time) (times.le_refl b.time) (times.le_refl b.time)) (All-map q (λ x h. not_near' b x h) a)), ok)

-- ---- dropping the early ones

names-late : (l : List Bar) (u t : ℤ) → All (λ x. T (le_z u x.time)) l → T (names l t) → T (le_z u t)
unfolding names some_of same_time
names-late [] u t a h = absurd h
names-late (x ∷ l) u t a h = elim (or-e (same_time x.time t) (names l t) h) [ inl s ↦ times.le_trans u x.time t a.0 (and_l (le_z x.time t) (le_z t x.time) s) | inr n ↦ names-late l u t a.1 n ]

record Dropped (u : ℤ) (l m : List Bar) : Type 0 where
  late : All (λ x. T (le_z u x.time)) m
  named : (t : ℤ) → T (names m t) → T (names l t)
  kept : (z : Bar) → T (le_z u z.time) → keep_if (near z) m ≡ keep_if (near z) l

dropped_if : (u : ℤ) (x : Bar) (l : List Bar) → T (lt_z x.time u) ⊎ T (not (lt_z x.time u)) → All (λ y. T (lt_z x.time y.time)) l → Dropped u l (skip_while (λ r. lt_z r.time u) l)
    → Dropped u (x ∷ l) (skip_while (λ r. lt_z r.time u) (x ∷ l))
unfolding names some_of
dropped_if u x l (inl h) a d =
    subst (Dropped u (x ∷ l)) (sym (skip_yes (λ r. lt_z r.time u) x l h))
    (record {
      late = d.late;
      named = λ t n. or_r (same_time x.time t) (names l t) (d.named t n);
      kept = λ z k. d.kept z k ∙ sym (keep_no (near z) x l (not_near' z x (times.lt-le_trans x.time u z.time h k)));
    })
dropped_if u x l (inr h) a d =
    let k = times.not-lt-le x.time u h in
    subst (Dropped u (x ∷ l)) (sym (skip_no (λ r. lt_z r.time u) x l h))
    (record { late = (k, All-map l (λ y g. times.le_trans u x.time y.time k (times.lt-le x.time y.time g)) a); named = λ t n. n; kept = λ z j. refl })

dropped : (u : ℤ) (l : List Bar) → RisingBars l → Dropped u l (skip_while (λ r. lt_z r.time u) l)
unfolding skip_while
dropped u [] r = record { late = tt; named = λ t n. n; kept = λ z j. refl }
dropped u (x ∷ l) r = dropped_if u x l (decide (lt_z x.time u)) r.0 (dropped u l r.1)

part_drop : (bs : List Stroke) (raw : List Bar) (z : Bar) → RisingBars raw → Part raw z → Part (drop_early bs raw) z
unfolding drop_early
part_drop [] raw z r p = p
part_drop (b ∷ bs) raw z r p =
    let u = b.start.left.bar.time in
    let d = dropped u raw r in
    ((λ n. d.kept z (names-late (skip_while (λ x. lt_z x.time u) raw) u z.time d.late n) ∙ p.0 (d.named z.time n)), p.1)

-- ---- the last merging is undone

ends-not : (n : ℤ) (ts : List ℤ) → All (λ t. T (lt_z t n)) ts → T (ends_on n (last ts)) → ⊥
unfolding ends_on last same_time
ends-not n [] a h = h
ends-not n (t ∷ []) a h = contra (le_z n t) (and_l (le_z n t) (le_z t n) h) (times.lt_not_le n t a.0)
ends-not n (t ∷ u ∷ ts) a h = ends-not n (u ∷ ts) a.1 h

mid_under : (P : Bar → Type 0) (n : ℤ) (s : Stroke) → Solid P n s → All (λ t. T (lt_z t n)) (stamps s.end.mid)
mid_under P n s w =
    (All-right (λ k. All (λ t. T (lt_z t n)) (stamps k)) (w.front ++ w.before ∷ s.end.left ∷ []) (s.end.mid ∷ [])
    (subst (All (λ k. All (λ t. T (lt_z t n)) (stamps k))) (sym (append_assoc w.front (w.before ∷ s.end.left ∷ []) (s.end.mid ∷ []))) w.under)).0

module _ (raw : List Bar) (n : ℤ) (k : Merged) (called : All (λ t. T (names raw t)) k.elements) where
  abbrev P : Bar → Type 0
  P = Part raw

  look : (z : Bar) → T (names raw z.time) → P z → Looks raw z
  look z h p = p.0 h

  record Rest (p back : List Merged) : Type 0 where
    eq : (y : Bar) → fold_left merge_in p (at_times raw (init k.elements) ++ y ∷ []) ≡ merge_in back y
    exact : Exact P back
    shrunk : (back ≡ p) ⊎ ((m : Merged) × (z : Bar) × (back ≡ p ++ m ∷ []) × (k.elements ≡ m.elements ++ z.time ∷ []))

  rest_of : (p : List Merged) (u : Undo P raw p k) → Exact P u.back → Rest p u.back
  rest_of p u x = record { eq = u.eq; exact = x; shrunk = u.shrunk }

  rest-none : (p : List Merged) → One (p ++ k ∷ []) → Exact P (p ++ k ∷ []) → (back : List Merged) × Rest p back
  unfolding at_times fold_left
  rest-none [] o x = ([], record { eq = λ y. ap (λ ts. fold_left merge_in [] (at_times raw ts ++ y ∷ [])) o; exact = tt; shrunk = inl refl })
  rest-none (a ∷ []) o x = let u = pair_undo P raw (λ t. T (names raw t)) look a k x.0 called in (u.0.back, rest_of (a ∷ []) u.0 u.1)
  rest-none (a ∷ b ∷ q) o x =
      let u = trip_undo P raw (λ t. T (names raw t)) look (part_numbered raw) a b q k x.1 called in
      (u.undo.back, rest_of (a ∷ b ∷ q) u.undo (subst (Exact P) (sym u.is) (x.0, u.trip)))

  over-rest : (s : Stroke) (w : Solid P n s) (a : Merged) → a ≡ s.end.left → Over P (s.end.left ∷ []) s.end.mid k → Ends n (a ∷ k ∷ []) → (m : List Merged) × Firm P s m × Rest (a ∷ []) m
  unfolding last closes
  over-rest s w a e (same k' q) h = absurd (ends-not n k'.elements (subst (λ z. All (λ t. T (lt_z t n)) z.elements) (sym q) (mid_under P n s w).1) h)
  over-rest s w a e (more k' m z o p t q l) h =
      let g = subst (λ v. Grown P (v ∷ []) m) (sym e) (grown-over P (s.end.left ∷ []) s.end.mid m (grown_front P w.before s.end.left s.end.mid w.grown) o) in
      (a ∷ m ∷ [], (e, o, tt), rest_of (a ∷ []) (next_undo P raw (λ t. T (names raw t)) look (a ∷ []) k' m z g called l) (g, tt))

  rest_some : (p : List Merged) → Exact P (p ++ k ∷ []) → Ends n (p ++ k ∷ []) → (s : Stroke) → Solid P n s → Firm P s (p ++ k ∷ []) → (m : List Merged) × Firm P s m × Rest p m
  rest_some [] x h s w f = absurd f
  rest_some (a ∷ []) x h s w f = over-rest s w a f.0 f.1 h
  rest_some (a ∷ b ∷ q) x h s w f =
      let u = trip_undo P raw (λ t. T (names raw t)) look (part_numbered raw) a b q k x.1 called in
      let y = subst (λ v. Way s.end.mark v.bar b.bar) (sym f.0) (over-beyond s.end.mark P s.end.left s.end.mid b w.way f.1) in
      (u.undo.back, subst (Firm P s) (sym u.is) (f.0, f.1, u.fract s.end.mark y f.2), rest_of (a ∷ b ∷ q) u.undo (subst (Exact P) (sym u.is) (x.0, u.trip)))

  rest_links : (p : List Merged) (bs : List Stroke) → One (p ++ k ∷ []) → Exact P (p ++ k ∷ []) → Ends n (p ++ k ∷ []) → Links P n (Firm P) bs (p ++ k ∷ []) → (m : List Merged) × Links P n (Firm P) bs m × Rest p m
  rest_links p [] o x h l = let r = rest-none p o x in (r.0, tt, r.1)
  rest_links p (b ∷ bs) o x h l = links_find P n (Firm P) (Firm P) (Rest p) (p ++ k ∷ []) (rest_some p x h) b bs l

  rest_all : (S : Merged → Type 0) (p back : List Merged) → Rest p back → All S p → ((m : Merged) (z : Bar) → k.elements ≡ m.elements ++ z.time ∷ [] → S m) → All S back
  rest_all S p back r a f = elim r.shrunk [ inl e ↦ subst (All S) (sym e) a | inr e ↦ subst (All S) (sym e.2) (All-append S p (e.0 ∷ []) a (f e.0 e.1 e.3, tt)) ]

-- ---- a bar comes

-- what is held of a state whose newest raw bar is at n
abbrev Held : List Bar → ℤ → List Merged → List Stroke → Type 0
Held raw n l bs = Exact (Part raw) l × Links (Part raw) n (Firm (Part raw)) bs l × One l × Ends n l

-- right after merging
abbrev Fresh : List Bar → ℤ → List Merged → List Stroke → Type 0
Fresh raw n l bs = Exact (Part raw) l × Links (Part raw) n (Post (Part raw)) bs l × One l

one-merged : (l : List Merged) (y : Bar) → One (merge_in l y)
unfolding merge_in own init
one-merged [] y = refl
one-merged (x ∷ l) y = two-one (merge_in (x ∷ l) y) (two-merged x l y)

merged-fresh : (raw : List Bar) (l : List Merged) (bs : List Stroke) (y : Bar) → Part raw y → All Small l → Exact (Part raw) l → Links (Part raw) y.time (Firm (Part raw)) bs l → Fresh raw y.time (merge_in l y) bs
merged-fresh raw l bs y p sm x k = (
  exact-merged (Part raw) l y p sm x,
  links_last (Part raw) y.time (Firm (Part raw)) (Post (Part raw)) l (merge_in l y)
      (λ s w f. firm_merged (Part raw) y.time s w y (part_numbered raw y p) p (times.lt-le (time s.end.mid) y.time (mid_under (Part raw) y.time s w).0) l sm f) bs k,
  one-merged l y,
)

-- from one list of raw bars to another, for bars whose elements are all before y
moved_fresh : (raw raw' : List Bar) (n : ℤ) (l : List Merged) (bs : List Stroke) (y : Bar) → T (le_z n y.time) → ((z : Bar) → T (lt_z z.time y.time) → Part raw z → Part raw' z) → Part raw' y → All Small l
    → All (λ k. All (λ t. T (lt_z t y.time)) k.elements) l → Exact (Part raw) l → Links (Part raw) n (Firm (Part raw)) bs l → Fresh raw' y.time (merge_in l y) bs
moved_fresh raw raw' n l bs y le f p sm u x k =
    merged-fresh raw' l bs y p sm (exact-map (Part raw) (Part raw') (λ t. T (lt_z t y.time)) f l u x)
    (links_map (Part raw) (Part raw') n y.time l (λ z h q. f z (times.lt-le_trans z.time n y.time h le) q) le (λ s g. firm_map (Part raw) (Part raw') (λ t. T (lt_z t y.time)) s f l u g) bs k)

later-fresh : (raw : List Bar) (r : Bar) (l : List Merged) (bs : List Stroke) (y : Bar) → Inv r.time bs l → All (λ x. T (lt_z x.time y.time)) raw → T (lt_z r.time y.time) → T (is_bar y) → All Small l → Held raw r.time l bs
    → Fresh (raw ++ y ∷ []) y.time (merge_in l y) bs
later-fresh raw r l bs y i a lt ok sm h =
    moved_fresh raw (raw ++ y ∷ []) r.time l bs y (times.lt-le r.time y.time lt) (λ z g p. part_later raw y z g p) (part_new raw y a ok) sm
    (All-map l (λ k u. All-map k.elements (λ t g. times.le_lt_trans t r.time y.time g lt) u.1) i.upto) h.0 h.1

rising_under : (n : ℤ) (ts : List ℤ) (v : ℤ) → RisingT (ts ++ v ∷ []) → All (λ t. T (le_z t n)) (ts ++ v ∷ []) → All (λ t. T (lt_z t n)) ts
rising_under n [] v r a = tt
rising_under n (t ∷ ts) v r a =
    (times.lt-le_trans t v n (All-right (λ w. T (lt_z t w)) ts (v ∷ []) r.0).0 (All-right (λ w. T (le_z w n)) (t ∷ ts) (v ∷ []) a).0, rising_under n ts v r.1 a.1)

snoc_fresh : (q : List Bar) (r : Bar) (p : List Merged) (k : Merged) (bs : List Stroke) (y : Bar) → r.time ≡ y.time → Inv y.time bs (p ++ k ∷ []) → All (λ x. T (lt_z x.time y.time)) q → T (is_bar y)
    → All Small (p ++ k ∷ []) → All (λ t. T (names (q ++ r ∷ []) t)) k.elements → Held (q ++ r ∷ []) y.time (p ++ k ∷ []) bs
    → Fresh (q ++ y ∷ []) y.time (fold_left merge_in p (at_times (q ++ r ∷ []) (init k.elements) ++ y ∷ [])) bs
snoc_fresh q r p k bs y e i a ok sm c h =
    let raw = q ++ r ∷ [] in
    let u = rest_links raw y.time k c p bs h.2 h.0 h.3 h.1 in
    let f = (ordered_follows p (k ∷ []) i.ordered).0.0 in
    let ku = (All-right (Upto y.time) p (k ∷ []) i.upto).0 in
    let small : All Small u.0 = rest_all raw y.time k c Small p u.0 u.2 (All-left Small p (k ∷ []) sm)
    (λ m z l. let g = (All-right Small p (k ∷ []) sm).0 in omega (arith, length-append m.elements (z.time ∷ []), ap length l)) in
    let under : All (λ b. All (λ t. T (lt_z t y.time)) b.elements) u.0 = rest_all raw y.time k c (λ b. All (λ t. T (lt_z t y.time)) b.elements) p u.0 u.2
    (All-map p (λ b g. All-map b.elements (λ t j. times.lt-le_trans t (time k) y.time j ku.0) g.1) f)
    (λ m z l. rising_under y.time m.elements z.time (subst RisingT l (ordered_right p (k ∷ []) i.ordered).0) (subst (All (λ t. T (le_z t y.time))) l ku.1)) in
    subst (λ m. Fresh (q ++ y ∷ []) y.time m bs) (sym (u.2.eq y))
    (moved_fresh raw (q ++ y ∷ []) y.time u.0 bs y (times.le_refl y.time) (λ z g d. part_swap q r y z e g d) (part_new q y a ok) small under u.2.exact u.1)

-- the elements of the last bar name raw bars
last_called : (u : ℤ) (raw : List Bar) (p : List Merged) (k : Merged) (bs : List Stroke) (n : ℤ) → Inv n bs (p ++ k ∷ []) → Kept u raw (p ++ k ∷ []) bs → All (λ t. T (names raw t)) k.elements
last_called u raw p k bs n i w =
    All-zip k.elements (λ t f h. f h) (All-right (Called u raw) p (k ∷ []) w.named.0).0 (last-elements u p k i.ordered w.low.bars w.low.single)

same-fresh : (u : ℤ) (q : List Bar) (r : Bar) (l : List Merged) (bs : List Stroke) (y : Bar) → r.time ≡ y.time → Inv y.time bs l → All (λ x. T (lt_z x.time y.time)) q → T (is_bar y) → All Small l
    → Kept u (q ++ r ∷ []) l bs → Held (q ++ r ∷ []) y.time l bs → Fresh (q ++ y ∷ []) y.time (fold_left merge_in (init l) (again (q ++ r ∷ []) (last l) y)) bs
unfolding again last init fold_left closes
same-fresh u q r [] bs y e i a ok sm w h = absurd h.3
same-fresh u q r (x ∷ l) bs y e i a ok sm w h =
    let k = last_some x l in
    let s = last_snoc (x ∷ l) k.0 k.1 in
    let j = subst (Inv y.time bs) s i in
    subst (λ z. Fresh (q ++ y ∷ []) y.time (fold_left merge_in (init (x ∷ l)) (again (q ++ r ∷ []) z y)) bs) (sym k.1)
    (snoc_fresh q r (init (x ∷ l)) k.0 bs y e j a ok (subst (All Small) s sm) (last_called u (q ++ r ∷ []) (init (x ∷ l)) k.0 bs y.time j (subst (λ z. Kept u (q ++ r ∷ []) z bs) s w))
    (subst (λ z. Held (q ++ r ∷ []) y.time z bs) s h))

-- ---- a state

abbrev Holds : Option Bar → State → Type 0
Holds none s = Unit {0}
Holds (some r) s = Held s.raw r.time s.unfinished s.strokes

fresh-later : (o : Option Bar) (s : State) (y : Bar) → last s.raw ≡ o → Stands o s.raw s.strokes s.unfinished → T (is_later o y) → T (is_bar y) → All Small s.unfinished → Holds o s
    → Fresh (s.raw ++ y ∷ []) y.time (merge_in s.unfinished y) s.strokes
unfolding is_later merge_in own init
fresh-later none s y e f h ok sm g =
    subst (λ z. Fresh (s.raw ++ y ∷ []) y.time (merge_in s.unfinished y) z) (sym f.0)
    (subst (λ z. Fresh (s.raw ++ y ∷ []) y.time (merge_in z y) []) (sym f.1) (tt, tt, refl))
fresh-later (some r) s y e f h ok sm g = later-fresh s.raw r s.unfinished s.strokes y f.0 (raw-before s.raw r y e f.1 h) h ok sm g

fresh-same : (u : ℤ) (o : Option Bar) (s : State) (y : Bar) → last s.raw ≡ o → Stands o s.raw s.strokes s.unfinished → T (not (is_later o y)) → T (question9 o y) → T (is_bar y) → All Small s.unfinished
    → Kept u s.raw s.unfinished s.strokes → Holds o s → Fresh (init s.raw ++ y ∷ []) y.time (fold_left merge_in (init s.unfinished) (again s.raw (last s.unfinished) y)) s.strokes
unfolding is_later question9
fresh-same u none s y e f h k ok sm w g = absurd h
fresh-same u (some r) s y e f h k ok sm w g =
    let t : r.time ≡ y.time = times.le_antisym r.time y.time k (times.not-lt-le r.time y.time h) in
    let q = last_snoc s.raw r e in
    let b = subst (λ v. All (λ x. T (lt_z x.time v)) (init s.raw)) t (bars-last (init s.raw) r (subst RisingBars q f.1)) in
    subst (λ z. Fresh (init s.raw ++ y ∷ []) y.time (fold_left merge_in (init s.unfinished) (again z (last s.unfinished) y)) s.strokes) (sym q)
    (same-fresh u (init s.raw) r s.unfinished s.strokes y t (subst (λ z. Inv z s.strokes s.unfinished) t f.0) b ok sm (subst (λ z. Kept u z s.unfinished s.strokes) q w)
    (subst (λ z. Held z y.time s.unfinished s.strokes) q (subst (λ v. Held s.raw v s.unfinished s.strokes) t g)))

fed-fresh : (u : ℤ) (t : Bool) (s : State) (y : Bar) → Fine s → (T t → T (is_later (last s.raw) y)) → (T (not t) → T (not (is_later (last s.raw) y))) → T (question9 (last s.raw) y) → T (is_bar y) → All Small s.unfinished
    → Kept u s.raw s.unfinished s.strokes → Holds (last s.raw) s → Fresh (raw_with t s y) y.time (merged_with t s y) s.strokes
unfolding raw_with merged_with merge_all
fed-fresh u true s y f h k n ok sm w g = fresh-later (last s.raw) s y refl f (h tt) ok sm g
fed-fresh u false s y f h k n ok sm w g = fresh-same u (last s.raw) s y refl f (k tt) n ok sm w g

-- ---- the strokes are looked at

one-cut : (l : List Merged) (fs : List Fractal) → Rising l → Facts l fs → One l → One (cut_at l fs)
unfolding cut_at
one-cut l [] r F h = h
one-cut l (f ∷ fs) r F h =
    let a = start_best (λ g. g) f fs in
    let c = cut_window a l r (in_all (λ x. Window x l) a (f ∷ fs) F.windows (start_in f fs)) in
    subst One (sym c.from-left) tt

one_keeps : (n : ℤ) → Keeps (λ l bs. (Inv n bs l × All Built bs) × One l)
one_keeps n =
    record {
      cuts = λ l r. ((built_keeps n).cuts l r.0, one-cut l (check_fxs l) (ordered_rising l r.0.0.ordered) (facts l (ordered_rising l r.0.0.ordered)) r.1);
      makes = λ l bs f m r. ((built_keeps n).makes l bs f m r.0, subst One (sym (steps.rest-is l r.0.0.ordered m.start m.end m.others m.all m.first)) tt);
      takes = λ l bs s r. ((built_keeps n).takes l bs s r.0, two-one (joined s l) (joined-two s l (All-right Built bs (s ∷ []) r.0.1).0));
    }

module _ (raw : List Bar) (n : ℤ) (minimum : ℕ) where
  abbrev Q : Bar → Type 0
  Q = Part raw

  move_safe : (l : List Merged) (bs : List Stroke) → Inv n bs l → All IsMerged l → Fresh raw n l bs → MayLose minimum l bs → ⊥
  move_safe l [] i ok h x = x
  move_safe l (b ∷ bs) i ok h x =
      now_safe Q (part_numbered raw) n (between minimum l b bs) (add_now Q (part_numbered raw) n l (b ∷ bs) (check_bi_by_time minimum l) i.ordered i.upto ok h.0 h.1 (check_outcome minimum l)) x

  some_then : (l : List Merged) (bs : List Stroke) → Inv n bs l → All IsMerged l → Fresh raw n l bs → Then Q n (move_some minimum l bs)
  unfolding move_some cut_by_time
  some_then l [] i ok h =
      add_then Q (part_numbered raw) n (cut_by_time l) [] (check_bi_by_time minimum (cut_by_time l)) (cut_ordered l (check_fxs l) i.ordered) (cut_all (Upto n) l (check_fxs l) i.upto) (cut_all IsMerged l (check_fxs l) ok) (exact-cut l (check_fxs l) h.0) tt
      (check_outcome minimum (cut_by_time l))
    where
      exact-cut : (l : List Merged) (fs : List Fractal) → Exact Q l → Exact Q (cut_at l fs)
      exact-cut l [] x = x
      exact-cut l (f ∷ fs) x = exact-from Q (start_best (λ g. g) f fs).left.bar.time l x
  some_then l (b ∷ bs) i ok h =
      let m = between minimum l b bs in
      break_last_then Q (part_numbered raw) n m (last m.kept) refl (add_now Q (part_numbered raw) n l (b ∷ bs) (check_bi_by_time minimum l) i.ordered i.upto ok h.0 h.1 (check_outcome minimum l))

  short_none : (bs : List Stroke) → Links Q n (Post Q) bs [] → Links Q n (Firm Q) bs []
  short_none bs k = links_last Q n (Post Q) (Firm Q) [] [] (λ s w p. elim (p) [ inl f ↦ f | inr f ↦ absurd f.0 ]) bs k

  short-one : (x : Merged) (bs : List Stroke) → Links Q n (Post Q) bs (x ∷ []) → Links Q n (Firm Q) bs (x ∷ [])
  short-one x bs k = links_last Q n (Post Q) (Firm Q) (x ∷ []) (x ∷ []) (λ s w p. elim (p) [ inl f ↦ f | inr f ↦ absurd f.0 ]) bs k

  short-two : (x y : Merged) (bs : List Stroke) → Links Q n (Post Q) bs (x ∷ y ∷ []) → Links Q n (Firm Q) bs (x ∷ y ∷ [])
  short-two x y bs k = links_last Q n (Post Q) (Firm Q) (x ∷ y ∷ []) (x ∷ y ∷ []) (λ s w p. elim (p) [ inl f ↦ f | inr f ↦ absurd f.1 ]) bs k

  move_then : (l : List Merged) (bs : List Stroke) → Inv n bs l → All IsMerged l → Fresh raw n l bs → Then Q n (move minimum l bs)
  unfolding move
  move_then [] bs i ok h = (h.0, short_none bs h.1)
  move_then (x ∷ []) bs i ok h = (h.0, short-one x bs h.1)
  move_then (x ∷ y ∷ []) bs i ok h = (h.0, short-two x y bs h.1)
  move_then (x ∷ y ∷ z ∷ l) bs i ok h = some_then (x ∷ y ∷ z ∷ l) bs i ok h

  move-held : (l : List Merged) (bs : List Stroke) → Inv n bs l → All IsMerged l → All Built bs → Fresh raw n l bs → Ends n l → Held raw n (move minimum l bs).left (move minimum l bs).kept
  unfolding cut_by_time
  move-held l bs i ok w h e =
      let t = move_then l bs i ok h in
      let o = move_keeps _ (one_keeps n) minimum l bs ((i, w), h.2) in
      let d : Ends n (move minimum l bs).left = elim (move-ends n minimum l bs i.ordered (cut_ordered l (check_fxs l) i.ordered) e) [ inl x ↦ x | inr x ↦ absurd (move_safe l bs i ok h x) ] in
      (t.0, t.1, o.1, d)

-- ---- the oldest is shed, raw bars are dropped

shed-held : (t : Bool) (raw : List Bar) (n : ℤ) (l : List Merged) (bs : List Stroke) → Held raw n l bs → Held raw n l (shed_if t bs)
unfolding shed_if
shed-held true raw n l [] h = h
shed-held true raw n l (b ∷ bs) h = (h.0, links_shed (Part raw) n (Firm (Part raw)) b bs l h.1, h.2, h.3)
shed-held false raw n l bs h = h

all_units : (l : List Merged) → All (λ k. All (λ t. Unit {0}) k.elements) l
all_units [] = tt
all_units (k ∷ l) = (trivially k.elements, all_units l)

drop-held : (raw : List Bar) (n : ℤ) (l : List Merged) (bs : List Stroke) → RisingBars raw → Held raw n l bs → Held (drop_early bs raw) n l bs
drop-held raw n l bs r h =
    let f : (z : Bar) → Part raw z → Part (drop_early bs raw) z = λ z p. part_drop bs raw z r p in (
      exact-map (Part raw) (Part (drop_early bs raw)) (λ t. Unit {0}) (λ z u p. f z p) l (all_units l) h.0,
      links_map (Part raw) (Part (drop_early bs raw)) n n l (λ z u p. f z p) (times.le_refl n) (λ s g. firm_map (Part raw) (Part (drop_early bs raw)) (λ t. Unit {0}) s (λ z u p. f z p) l (all_units l) g) bs h.1,
      h.2,
      h.3,
    )

finish-holds : (most : ℕ) (raw old : List Bar) (b : Bar) (m : Moved) → raw ≡ old ++ b ∷ [] → RisingBars raw → Inv b.time m.kept m.left → Held raw b.time m.left m.kept
    → Holds (last (finish most raw m).state.raw) (finish most raw m).state
unfolding finish
finish-holds most raw old b m e a i h =
    let t = ltb most (length m.kept) in
    let bs = shed_if t m.kept in
    let j = shed_inv t b.time m.kept m.left i in
    let q : last (drop_early bs raw) ≡ some b = ap (λ z. last (drop_early bs z)) e ∙ last-raw bs old b j.early in
    subst (λ o. Holds o (record { raw = drop_early bs raw; unfinished = m.left; strokes = bs })) (sym q) (drop-held raw b.time m.left bs a (shed-held t raw b.time m.left m.kept h))

-- ---- a feed

module _ (minimum most : ℕ) (t : Bool) (s : State) (b : Bar) (f : Fine s) (d : Fed b s.strokes (merged_with t s b) (raw_with t s b)) (w : Well most s) (ok : T (is_bar b)) (reach : T (le_z w.floor b.time))
    (yes : T t → T (is_later (last s.raw) b)) (nope : T (not t) → T (not (is_later (last s.raw) b))) (later : T (question9 (last s.raw) b)) (small : All Small s.unfinished) (h : Holds (last s.raw) s) where
  fr : Fresh (raw_with t s b) b.time (merged_with t s b) s.strokes
  fr = fed-fresh w.floor t s b f yes nope later ok small w.kept h

  oks : All IsMerged (merged_with t s b)
  oks = (fed-kept w.floor t s b f d w.kept ok reach nope later).merged.0

  step_safe : MayLose minimum (merged_with t s b) s.strokes → ⊥
  step_safe = move_safe (raw_with t s b) b.time minimum (merged_with t s b) s.strokes d.inv oks fr

  step-holds : Holds (last (step_with minimum most t s b).state.raw) (step_with minimum most t s b).state
  unfolding step_with
  step-holds =
      finish-holds most (raw_with t s b) d.old b (move minimum (merged_with t s b) s.strokes) d.is d.rise (move_inv b.time minimum (merged_with t s b) s.strokes d.inv)
      (move-held (raw_with t s b) b.time minimum (merged_with t s b) s.strokes d.inv oks w.kept.built fr (fed-ends t s b))

feed-shallow : (minimum most : ℕ) (t : Bool) (s : State) (b : Bar) → Fine s → (w : Well most s) → (T t → T (is_bar b) × T (question9 (last s.raw) b)) → All Small s.unfinished → Holds (last s.raw) s
    → (T t → MayLose minimum (merged_with (is_later (last s.raw) b) s b) s.strokes → ⊥) × Holds (last (feed_if minimum most t s b).state.raw) (feed_if minimum most t s b).state
unfolding feed_if step
feed-shallow minimum most true s b f w a sm h =
    let l = is_later (last s.raw) b in
    let q = a tt in
    let d = fed l s b f (λ x. x) (λ x. x) q.1 in
    let r = w.reach b q.0 q.1 in
    ((λ u. step_safe minimum most l s b f d w q.0 r (λ x. x) (λ x. x) q.1 sm h), step-holds minimum most l s b f d w q.0 r (λ x. x) (λ x. x) q.1 sm h)
feed-shallow minimum most false s b f w a sm h = ((λ u. absurd u), h)

shallow_safe : (ok : State → Bar → Bool) → Asks ok → (minimum most : ℕ) (s : State) (bs : List Bar) → Fine s → Well most s → Holds (last s.raw) s → Shallow ok minimum most s bs → NoneLost ok minimum most s bs
unfolding feed
shallow_safe ok a minimum most s [] f w h sm = tt
shallow_safe ok a minimum most s (b ∷ bs) f w h sm =
    let r = feed-shallow minimum most (ok s b) s b f w (a s b) sm.0 h in
    let v = feed_well minimum most (ok s b) s b f w (a s b) in
    (r.0, shallow_safe ok a minimum most (feed_if minimum most (ok s b) s b).state bs v.0 v.1 r.1 sm.1)

start-holds : Holds (last start.state.raw) start.state
unfolding start fresh last
start-holds = tt

-- every list of feed calls in which no unfinished bar grows deeper than 100 elements
pub newest-shallow : (ok : State → Bar → Bool) → Asks ok → (minimum most : ℕ) (bs : List Bar) → Shallow ok minimum most start.state bs → T (newest_last (run ok minimum most start bs).state)
newest-shallow ok a minimum most bs sm = newest_unless_lost ok a minimum most bs (shallow_safe ok a minimum most start.state bs start_fine (start_well most) start-holds sm)
