-- Laws of the steps of the asking: questions 5 to 10, the last stroke, and the plan behind the tail. Assumes nothing.
use Rattle.std.specs.Prelude as Std
use Prim.Native.Nat.{ℕ, zero, suc, ◌+◌, ◌-◌, ◌<◌, ◌≤◌}
use native.Mathlib.Omega.{arith}
use mathlib.Core.Bool.{Bool, true, false}
use mathlib.Core.List.{List, [], ◌∷◌, map}
use mathlib.Core.Option.{Option, none, some}
use mathlib.Core.Path.{◌≡◌, refl, ap, sym, ◌∙◌, subst}
use lib.ListN.{length, take, length-map, length-append}
use lib.IntN.{ℤ}
use lib.Signed.{lt_z}
use lib.Ieee.{Float}
use borrow.Author.Tests.{lt-ltb, le-ltb}
use Rattle.std.specs.Prelude.{Result, Ok, Err, Some, None}
use Rattle.bars.specs.declared.Bar.{Bar}
use Rattle.bars.specs.declared.refusals.Question.{Question}
use Rattle.bars.specs.declared.refusals.Question.TheVariants.{MinimumLength, MostStrokes, Rooms, Sound, Time, Prices, Volumes, LowAtMostHigh, NotEarlier, RawRoom, UnfinishedRoom, StrokeRoom, Exists, OutputRoom, Summary, Places, Record, Digits}
use Rattle.bars.specs.Bars.{Merged}
use Rattle.bars.specs.Lists.{last}
use Rattle.bars.specs.Refusals.{number}
use Rattle.bars.specs.Questions.{question9, not_earlier, first_failed, first_failed_after}
use Rattle.bars.specs.Code.MergedBars.{merge_bars}
use Rattle.stores.specs.Stores.{RawStore, raw_part, zip_with, bar_of, raw_bars, merged_bars}
use Rattle.stores.specs.Code.StoreRows.{SizedMerged}
use Rattle.stores.proofs.Columns.{raw-length, raw_at}
use Rattle.machine.specs.Feed.{is_later}
use Rattle.machine.specs.FeedQuestions.{fewer_if, or_else, first_of}
use Rattle.strokes.specs.declared.Stand.{Stand}
use Rattle.strokes.specs.declared.strokes_store.LastStroke.{LastStroke}
use Rattle.strokes.specs.Lent.{Stores}
use Rattle.strokes.specs.StateRead.{bar_counts, total}
use Rattle.strokes.specs.Code.BarSteps.{merged_again}
use Rattle.strokes.specs.Code.StrokeSteps.{last_read, last_bars}
use Rattle.strokes.proofs.StoredRaw.{last-take}
use Rattle.check_bi.specs.declared.check_fx.Candle.{Candle}
use Rattle.check_bi.specs.Code.Scan.{candle_of}
use Rattle.check_bi.specs.declared.view.View.{View}
use Rattle.check_bi.specs.Code.View.{view, candle_from, candles, times_in, rows_in, bars_in, places}
use Rattle.check_bi.proofs.ScanViews.{length-view, candles-view, view-map}
use Rattle.asking.specs.declared.merged_tail.Tail.{Tail}
use Rattle.asking.specs.declared.plan.Last.{Last}
use Rattle.asking.specs.declared.plan.Plan.{Plan}
use Rattle.asking.specs.Code.MergedTail.{Holds, CanTail, HasTail, bars_only, merged_by, last_kept, rows_of, shown}
use Rattle.asking.specs.Code.FeedPlan.{plan_of, refused_of, Long}
use Rattle.asking.specs.Code.AskSteps.{early_by, EarlyOf, last_from, last_in, HasLast, CanPlan, bar_candle, planned, TriedWith, CanTry, tried_bars, TriedOf}
use Rattle.asking.proofs.MergedTails.{none_kept, one_kept}
use Rattle.asking.proofs.TailsAgain.{later-bars}

-- ---- questions 5 to 10

-- a question has a number
pub numbered : (q : Question) → number q ≡ 0 → ⊥
numbered MinimumLength e = absurd (omega arith)
numbered MostStrokes e = absurd (omega arith)
numbered Rooms e = absurd (omega arith)
numbered Sound e = absurd (omega arith)
numbered Time e = absurd (omega arith)
numbered Prices e = absurd (omega arith)
numbered Volumes e = absurd (omega arith)
numbered LowAtMostHigh e = absurd (omega arith)
numbered NotEarlier e = absurd (omega arith)
numbered RawRoom e = absurd (omega arith)
numbered UnfinishedRoom e = absurd (omega arith)
numbered StrokeRoom e = absurd (omega arith)
numbered Exists e = absurd (omega arith)
numbered OutputRoom e = absurd (omega arith)
numbered Summary e = absurd (omega arith)
numbered Places e = absurd (omega arith)
numbered Record e = absurd (omega arith)
numbered Digits e = absurd (omega arith)

first_some : (q n : ℕ) → (q ≡ 0 → ⊥) → first_of q n ≡ q
unfolding first_of
first_some zero n h = absurd (h refl)
first_some (suc q) n h = refl

-- o is the newest raw bar, if there is one
module _ (o : Option Bar) (count room : ℕ) (b : Bar) where
  -- one of questions 5 to 9 is answered "no"
  pub early-refused : (q : Question) → number q ≡ first_failed o b → EarlyOf o count room b (Err q)
  unfolding early_by
  early-refused q e =
      let n = first_some (number q) (or_else (fewer_if (is_later o b) count room) 10 0) (numbered q) in
      record { failed = sym n ∙ ap (λ (x : ℕ). first_of x (or_else (fewer_if (is_later o b) count room) 10 0)) e; later = tt }

  -- question 10 is
  pub early-full : 0 ≡ first_failed o b → is_later o b ≡ true → room ≤ count → EarlyOf o count room b (Err RawRoom)
  unfolding early_by first_of or_else fewer_if
  early-full e f h =
      record {
        failed =
            sym ((λ i. first_of (sym e i) (or_else (fewer_if (f i) count room) 10 0)) ∙ ap (λ (x : Bool). or_else x 10 0) (le-ltb count room h));
        later = tt;
      }

  -- none is
  pub early-passed : (x : Bool) → 0 ≡ first_failed o b → x ≡ is_later o b → (x ≡ true → count < room) → EarlyOf o count room b (Ok x)
  unfolding early_by first_of or_else fewer_if
  early-passed x e f h =
      record {
        failed = sym ((λ i. first_of (sym e i) (or_else (fewer_if (sym f i) count room) 10 0)) ∙ by x h);
        later = f;
      }
    where
      by : (x : Bool) → (x ≡ true → count < room) → or_else (fewer_if x count room) 10 0 ≡ 0
      by true h = ap (λ (x : Bool). or_else x 10 0) (lt-ltb count room (h refl))
      by false h = refl

module _ (u : RawStore) (n count room : ℕ) (b : Bar) (r : Result Bool Question) where
  -- no raw bar is kept
  pub none_early : None ≡ last_kept n u → EarlyOf none count room b r → EarlyOf (last (take n (raw_bars u))) count room b r
  unfolding last
  none_early e h = subst (λ (o : Option Bar). EarlyOf o count room b r) (sym (ap (λ (i : ℕ). last (take i (raw_bars u))) (none_kept n u e))) h

  -- k is the newest
  pub some_early : (k : Bar) → Holds u n → Some k ≡ last_kept n u → EarlyOf (some k) count room b r → EarlyOf (last (take n (raw_bars u))) count room b r
  some_early k holds e h =
      let q = one_kept n u k e in
      let more = q.0 in
      let kept = holds.kept in
      let sized = holds.store in
      let p : last (take n (raw_bars u)) ≡ some k =
      last-take n (raw_bars u) k (omega arith) (rw (raw-length u (length u.times) sized) kept)
      ∙ ap some (raw_at u (n - 1) k (record { times = omega arith; ids = omega (arith, sized.ids); prices = omega (arith, sized.prices) }) ∙ sym q.1)
      in
      subst (λ (o : Option Bar). EarlyOf o count room b r) (sym p) h

-- what questions 5 to 9 are behind the raw bar k
pub after_newest : (k b : Bar) (x : ℤ) → x ≡ k.time → first_failed_after (Std.Some x) b ≡ first_failed (some k) b
unfolding first_failed first_failed_after not_earlier question9
after_newest k b x e = ap (λ (z : ℤ). first_failed_after (Std.Some z) b) e

pub later_newest : (k b : Bar) (x y : ℤ) → x ≡ k.time → y ≡ b.time → lt_z x y ≡ is_later (some k) b
unfolding is_later
later_newest k b x y e d = λ i. lt_z (e i) (d i)

-- ---- the last stroke

pub last_none : (s : Stand) (ts : List ℤ) (ps : List (List Float)) (n : ℕ) → n ≡ 0 → None ≡ last_in n s ts ps
unfolding last_in
last_none s ts ps n e = ap (λ (i : ℕ). last_in i s ts ps) (sym e)

last_by : (s : Stand) (ts : List ℤ) (ps : List (List Float)) (n : ℕ) → (n ≡ 0 → ⊥) → Some (last_from (last_read s ts ps)) ≡ last_in n s ts ps
unfolding last_in
last_by s ts ps zero h = absurd (h refl)
last_by s ts ps (suc n) h = refl

module _ (s : Stand) (ts : List ℤ) (ps : List (List Float)) (k : LastStroke) (b : Last) (h : HasLast s ts ps) (kept : s.strokes ≡ 0 → ⊥) (e : k ≡ last_read s ts ps) (from : b ≡ last_from k) where
  pub last_some : Some b ≡ last_in s.strokes s ts ps
  last_some = ap Some (from ∙ ap last_from e) ∙ last_by s ts ps s.strokes kept

  pub last_two : Long b
  unfolding last_read last_bars last_from
  last_two =
      let w = h.stands (omega (arith, kept)) in
      let two = w.two in
      let fit = w.fits in
      let few = h.few in
      let n : b.bars ≡ last_bars s = ap (λ (x : Last). x.bars) from ∙ ap (λ (x : LastStroke). x.bars) e in
      record { two = omega arith; few = omega arith }

-- ---- the view of store and tail

-- of the rows of a store
raw-candles : (ts is : List ℤ) (ps : List (List Float)) → length is ≡ length ts → length ps ≡ length ts → map bar_candle (raw_bars (record { times = ts; ids = is; prices = ps })) ≡ candles ts ps
unfolding raw_bars zip_with candles bar_of candle_from bar_candle
raw-candles [] is ps a b = refl
raw-candles (t ∷ ts) [] ps a b = absurd (omega arith)
raw-candles (t ∷ ts) (i ∷ is) [] a b = absurd (omega arith)
raw-candles (t ∷ ts) (i ∷ is) (p ∷ ps) a b = ap (candle_from t p ∷◌) (raw-candles ts is ps (omega arith) (omega arith))

bars-candles : (l : List Merged) → map bar_candle (bars_only l) ≡ map candle_of l
unfolding bars_only bar_candle candle_of
bars-candles [] = refl
bars-candles (k ∷ l) = ap (candle_of k ∷◌) (bars-candles l)

-- the view v of the first bars of the store u and of the tail t
module _ {N : ℕ} (u : RawStore) (t : Tail N) (h : CanTail u t 0) (v : View) (times : times_in v ≡ view t.base u.times t.rows t.times) (rows : rows_in v ≡ view t.base u.prices t.rows t.prices) where
  pub view-candles : bars_in v ≡ map bar_candle (shown u t)
  view-candles =
      let a = h.behind.store in
      let fits = h.behind.kept in
      let z = h.tail in
      (λ i. candles (times i) (rows i))
      ∙ candles-view u.times t.times u.prices t.prices t.base t.rows fits (rw a.prices fits)
      ∙ sym (λ i. view t.base (raw-candles u.times u.ids u.prices a.ids a.prices i) t.rows (raw-candles t.times t.ids t.prices (z.ids ∙ sym z.times) (z.prices ∙ sym z.times) i))
      ∙ sym (view-map bar_candle t.base (raw_bars u) t.rows (raw_bars (rows_of t)))

  abbrev many : ℕ
  many = t.base + t.rows

  pub view-total : places v ≡ length (map bar_candle (shown u t))
  view-total =
      let a = h.behind.store in
      let fits = h.behind.kept in
      let room = h.room in
      let within : t.rows ≤ length t.times = omega (arith, h.tail.times) in
      sym (length-append v.times.now v.tail_times.now)
      ∙ ap length times
      ∙ length-view u.times t.times t.base t.rows fits within
      ∙ sym (length-map (shown u t) bar_candle
      ∙ length-view (raw_bars u) (raw_bars (rows_of t)) t.base t.rows (rw (raw-length u (length u.times) a) fits) (omega (arith, raw-length (rows_of t) N h.tail)))

  pub view-few : many < 4294967296 → places v < 4294967296
  view-few few =
      let fits = h.behind.kept in
      let room = h.room in
      let within : t.rows ≤ length t.times = omega (arith, h.tail.times) in
      let p : places v ≡ many = sym (length-append v.times.now v.tail_times.now) ∙ ap length times ∙ length-view u.times t.times t.base t.rows fits within in
      omega arith

-- the view v of what the tail t shows behind the unfinished bars, whose columns are u
module _ {N : ℕ} (s : Stand) (m : Stores) (t : Tail N) (h : CanPlan s m t) (u : RawStore) (e : u ≡ raw_part m.unfinished) (v : View) (times : times_in v ≡ view t.base u.times t.rows t.times)
    (rows : rows_in v ≡ view t.base u.prices t.rows t.prices) where
  pub in-columns : CanTail u t 0
  in-columns = subst (λ (x : RawStore). CanTail x t 0) (sym e) h.tail

  pub seen_as : bars_in v ≡ map bar_candle (shown (raw_part m.unfinished) t)
  seen_as = view-candles u t in-columns v times rows ∙ ap (λ (x : RawStore). map bar_candle (shown x t)) e

  pub seen_all : places v ≡ length (map bar_candle (shown (raw_part m.unfinished) t))
  seen_all = view-total u t in-columns v times rows ∙ ap (λ (x : RawStore). length (map bar_candle (shown x t))) e

  pub seen_few : places v < 4294967296
  seen_few = view-few u t in-columns v times rows h.few

-- ---- a bar is tried

-- the unfinished bars are seen as v, and the plan p is made of that; q are questions 11 and 12
module _ (s : Stand) (v w : List Candle) (ts : List ℤ) (ps : List (List Float)) (o : Std.Option Last) (p : Plan) (total-seen used : ℕ) (last-is : o ≡ last_in s.strokes s ts ps) (is : v ≡ w)
    (all : total-seen ≡ length w) (sum : used ≡ total (bar_counts s)) (made : p ≡ plan_of s.minimum o v) where
  plan-is : p ≡ planned s w ts ps
  plan-is = made ∙ (λ i. plan_of s.minimum (last-is i) (is i))

  asks : (q : ℕ) → q ≡ refused_of p total-seen s.rooms.unfinished used s.rooms.strokes → q ≡ refused_of (planned s w ts ps) (length w) s.rooms.unfinished (total (bar_counts s)) s.rooms.strokes
  asks q e = e ∙ (λ i. refused_of (plan-is i) (all i) s.rooms.unfinished (sum i) s.rooms.strokes)

  pub try_refused : (q : Question) → number q ≡ refused_of p total-seen s.rooms.unfinished used s.rooms.strokes → TriedWith s w ts ps (Err q)
  try_refused q e = record { failed = asks (number q) e; plan = tt }

  pub try_done : 0 ≡ refused_of p total-seen s.rooms.unfinished used s.rooms.strokes → TriedWith s w ts ps (Ok p)
  try_done e = record { failed = asks 0 e; plan = plan-is }

-- the tail t behind the unfinished bars
module _ {N : ℕ} (later : Bool) (s : Stand) (m : Stores) (h : CanTry later s m) (b : Bar) (t : Tail N) (l : List Bar) (s_of : HasTail (raw_part m.unfinished) t l × (t.base ≤ s.unfinished)) where
  pub can_plan : N ≤ 103 → CanPlan s m t
  can_plan short =
      let fits = h.fits in
      let small = h.small in
      let before = s_of.1 in
      let within = s_of.0.within in
      record {
        tail = record { behind = record { store = h.unfinished.raw; kept = omega arith }; tail = s_of.0.sized; room = omega arith; tied = s_of.0.tied };
        few = omega arith;
        last = h.last;
      }

  -- l are the unfinished bars once b has come
  pub tried : (r : Result Plan Question) → l ≡ bars_only (tried_bars later s m.raw m.unfinished b) → TriedWith s (map bar_candle (shown (raw_part m.unfinished) t)) m.strokes.times m.fractals.prices r
      → TriedOf later s m b r
  tried r q w =
      subst (λ (x : List Candle). TriedWith s x m.strokes.times m.fractals.prices r)
      (ap (map bar_candle) (s_of.0.bars ∙ q) ∙ bars-candles (tried_bars later s m.raw m.unfinished b)) w

-- a later bar
pub bars_later : (s : Stand) (m : Stores) (b : Bar) → SizedMerged m.unfinished (length m.unfinished.times) → merge_bars (take s.unfinished (raw_bars (raw_part m.unfinished))) b ≡ bars_only (tried_bars true s m.raw m.unfinished b)
unfolding tried_bars merged_by
bars_later s m b h = later-bars m.unfinished (length m.unfinished.times) s.unfinished b h

-- a bar with the last time
pub bars_again : (s : Stand) (m : Stores) (b : Bar) → bars_only (merged_again (take s.raw (raw_bars m.raw)) (take s.unfinished (merged_bars m.unfinished)) b) ≡ bars_only (tried_bars false s m.raw m.unfinished b)
unfolding tried_bars merged_by
bars_again s m b = refl

-- the unfinished bars' columns are u
pub holds_unfinished : (later : Bool) (s : Stand) (m : Stores) (u : RawStore) → u ≡ raw_part m.unfinished → CanTry later s m → Holds u s.unfinished
holds_unfinished later s m u e h = subst (λ (x : RawStore). Holds x s.unfinished) (sym e) (record { store = h.unfinished.raw; kept = h.fits })

pub later_has : {N : ℕ} (s : Stand) (m : Stores) (b : Bar) (t : Tail N) (u : RawStore) → u ≡ raw_part m.unfinished
    → HasTail u t (merge_bars (take s.unfinished (raw_bars u)) b) × (t.base ≤ s.unfinished)
    → HasTail (raw_part m.unfinished) t (merge_bars (take s.unfinished (raw_bars (raw_part m.unfinished))) b) × (t.base ≤ s.unfinished)
later_has s m b t u e h = (subst (λ (x : RawStore). HasTail x t (merge_bars (take s.unfinished (raw_bars x)) b)) e h.0, h.1)
