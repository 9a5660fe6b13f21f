-- What the asking answers is what the plain machine's feed asks: questions 5 to 12 and the plan of the state that is read off a sound stand. Assumes nothing.
use Prim.Native.Nat.{ℕ, zero, suc, ◌≤◌}
use native.Mathlib.Omega.{arith}
use mathlib.Core.Bool.{Bool, true, false}
use mathlib.Core.List.{List, [], ◌∷◌, map}
use mathlib.Core.Option.{Option, none, some}
use mathlib.Core.Path.{◌≡◌, refl, ap, sym, ◌∙◌, subst}
use lib.ListN.{length, take, length-map}
use Rattle.std.specs.Prelude.{Some, Ok, Err}
use Rattle.bars.specs.declared.Bar.{Bar}
use Rattle.bars.specs.declared.refusals.Question.{Question}
use Rattle.bars.specs.Refusals.{number}
use Rattle.bars.specs.Bars.{Merged}
use Rattle.bars.specs.Lists.{last, init}
use Rattle.bars.specs.Questions.{first_failed}
use Rattle.stores.specs.Stores.{MergedStore, raw_bars, raw_part}
use Rattle.stores.specs.Code.StoreRows.{bar_at}
use Rattle.machine.specs.declared.Mark.{Mark}
use Rattle.machine.specs.declared.Mark.TheVariants.{D, G}
use Rattle.machine.specs.Strokes.{Stroke, direction_of}
use Rattle.machine.specs.Stand.{Settings, State}
use Rattle.machine.specs.Names.{starting_mark}
use Rattle.machine.specs.Feed.{is_later, merged_with}
use Rattle.machine.specs.Soundness.{bars_of}
use Rattle.machine.specs.FeedQuestions.{fewer_if, merged, question10, question11, question12, or_else, first_of, failed_after4}
use Rattle.strokes.specs.declared.Stand.{Stand}
use Rattle.strokes.specs.StateRead.{stroke_with, settings_of, state_of, bar_counts, total}
use Rattle.strokes.specs.Lent.{Stores, FractalStore}
use Rattle.strokes.specs.Code.BarSteps.{merged_again}
use Rattle.strokes.specs.Code.StrokeSteps.{Kept, LastStands, LastIs, kept_strokes, last_read}
use Rattle.strokes.proofs.StoredStrokes.{last-is}
use Rattle.sound.proofs.SoundFacts.{Facts}
use Rattle.check_bi.specs.Code.Scan.{candle_of}
use Rattle.asking.specs.declared.plan.Plan.{Plan}
use Rattle.asking.specs.Code.MergedTail.{Holds, merged_by}
use Rattle.asking.specs.Code.FeedPlan.{plan_of, refused_of}
use Rattle.asking.specs.Code.Asked.{time_or0, last_of, plan_for, AskedOf}
use Rattle.asking.specs.Code.AskSteps.{early_by, EarlyOf, last_from, last_in, planned, CanTry, tried_bars, TriedOf}
use Rattle.asking.proofs.AskLaws.{numbered}
use Rattle.asking.proofs.PlanMeans.{KeptLast, Planned, plan_means, questions_asked}

-- ---- the last stroke

mark-back : (m : Mark) → starting_mark (direction_of m) ≡ m
unfolding direction_of
mark-back D = refl
mark-back G = refl

no_strokes : (bs : List Stroke) → length bs ≡ 0 → last bs ≡ none
unfolding last
no_strokes [] h = refl
no_strokes (b ∷ bs) h = absurd (omega arith)

-- the last stroke w of bs, if there is one, and its last but one bar
pub record Stood (bs : List Stroke) : Type 0 where
  pub stroke : Stroke
  pub before : Merged
  pub is : 1 ≤ length bs → (last bs ≡ some stroke) × (last (init stroke.bars) ≡ some before)

kept-last : (bs : List Stroke) (h : Stood bs) → KeptLast bs h.stroke (last_of (last bs))
unfolding last_of time_or0 last
kept-last [] h = tt
kept-last (a ∷ bs) h =
    let q = h.is (omega arith) in
    let w = h.stroke in
    subst (λ (o : Option Stroke). KeptLast (a ∷ bs) w (last_of o)) (sym q.0)
    (q.0, record { mark-is = refl; high_is = refl; low-is = refl; bars_are = refl; before = h.before; before-is = q.1; time-is = ap time_or0 q.1 })

module _ (s : Stand) (k : MergedStore) (f : FractalStore) (kept : Kept s k f) (stands : 1 ≤ s.strokes → LastStands s s.rooms.strokes) (many : length (kept_strokes s k f) ≡ s.strokes)
    (lb : length s.bars ≡ 65) (lf : length s.fractals ≡ 65) where
  abbrev bs : List Stroke
  bs = kept_strokes s k f

  read : 1 ≤ s.strokes → LastIs s k f (last_read s k.times f.prices)
  read one = let few = kept.strokes in last-is s k f kept (stands one) (omega arith) (omega arith)

  stood_by : (n : ℕ) → s.strokes ≡ n → Stood bs
  stood_by zero e = record { stroke = stroke_with [] []; before = record { bar = bar_at (raw_part k) 0; elements = [] }; is = λ h. absurd (omega (arith, h, many)) }
  stood_by (suc n) e = let r = read (omega arith) in record { stroke = r.stroke; before = r.before; is = λ h. (r.is, r.last_but_one) }

  pub stood : Stood bs
  stood = stood_by s.strokes refl

  last_by : (n : ℕ) → s.strokes ≡ n → last_in n s k.times f.prices ≡ last_of (last bs)
  unfolding last_in last_from last_of time_or0
  last_by zero e = ap last_of (sym (no_strokes bs (many ∙ e)))
  last_by (suc n) e =
      let r = read (omega arith) in
      (λ i. Some (record {
        mark = (ap starting_mark r.direction ∙ mark-back r.stroke.start.mark) i;
        high = r.high i;
        low = r.low i;
        bars = r.count i;
        time = (r.time ∙ sym (ap time_or0 r.last_but_one)) i;
      }))
      ∙ ap last_of (sym r.is)

  -- what is read of the columns is the last stroke's
  pub last_read_lem : last_in s.strokes s k.times f.prices ≡ last_of (last bs)
  last_read_lem = last_by s.strokes refl

-- ---- the questions in order

-- what stands behind question 10 is asked where none before it is answered "no"
then_asked : (q n : ℕ) (t : Bool) (x : ℕ) → x ≡ first_of q (or_else t 10 0) → (x ≡ 0 → ⊥) → x ≡ first_of q (or_else t 10 n)
unfolding first_of or_else
then_asked zero n true x e h = absurd (h e)
then_asked zero n false x e h = e
then_asked (suc q) n t x e h = e

first-passed : (q n : ℕ) (t : Bool) → 0 ≡ first_of q (or_else t 10 0) → n ≡ first_of q (or_else t 10 n)
unfolding first_of or_else
first-passed zero n true h = refl
first-passed zero n false h = absurd (omega arith)
first-passed (suc q) n t h = absurd (omega arith)

merged_by_lem : (t : Bool) (s : State) (b : Bar) → merged_by t s.raw s.unfinished b ≡ merged_with t s b
unfolding merged_by merged_with merged_again
merged_by_lem true s b = refl
merged_by_lem false s b = refl

-- a bar that is not later stands behind a raw bar
some-raw : (l : List Bar) (n : ℕ) (b : Bar) → is_later (last (take n l)) b ≡ false → 1 ≤ n
unfolding is_later last
some-raw l zero b h = let y : ◌≡◌ {A = ℕ} 0 1 = cc in absurd (omega arith)
some-raw l (suc n) b h = omega arith

-- ---- a sound stand is asked

module _ (s : Stand) (m : Stores) (h : Facts s m) (lb : length s.bars ≡ 65) (lf : length s.fractals ≡ 65) (b : Bar) where
  abbrev c : Settings
  c = settings_of s

  abbrev st : State
  st = state_of s m

  abbrev newest : Option Bar
  newest = last (take s.raw (raw_bars m.raw))

  early-is : (x : ℕ) → x ≡ early_by (first_failed newest b) (is_later newest b) s.raw s.rooms.raw → x ≡ first_of (first_failed (last st.raw) b) (or_else (question10 c st b) 10 0)
  unfolding state_of settings_of question10 early_by
  early-is x e = e ∙ ap (λ (n : ℕ). first_of (first_failed (last st.raw) b) (or_else (fewer_if (is_later (last st.raw) b) n s.rooms.raw) 10 0)) (sym h.raw-length)

  -- one of questions 5 to 10 is answered "no"
  pub asked-early : (q : Question) → EarlyOf newest s.raw s.rooms.raw b (Err q) → AskedOf c st b (Err q)
  unfolding failed_after4
  asked-early q early =
      record {
        failed = then_asked (first_failed (last st.raw) b) (or_else (question11 c st b) 11 (or_else (question12 c st b) 12 0)) (question10 c st b) (number q) (early-is (number q) early.failed) (numbered q);
        later = tt;
        plan = tt;
      }

  pub can_try : (later : Bool) → later ≡ is_later newest b → CanTry later s m
  unfolding bar_counts
  can_try later is =
      let r = h.rising-raw in
      let ra = r.sized.times in
      let u = h.unfinished in
      let ua = u.raw.times in
      let few-raw = h.few-raw in
      let few-unfinished = h.few-unfinished in
      let room = h.room-unfinished.to in
      let strokes = h.room-strokes.to in
      let sa = h.strokes.raw.times in
      let fa = h.fractals.prices in
      let few = h.few-strokes in
      let fit = h.few-bars in
      record {
        raw = record { sized = record { times = refl; ids = r.sized.ids ∙ sym ra; prices = r.sized.prices ∙ sym ra }; fits = omega arith; rise = r.rise };
        unfinished =
            record { raw = record { times = refl; ids = u.raw.ids ∙ sym ua; prices = u.raw.prices ∙ sym ua }; counts = u.counts ∙ sym ua; elements = u.elements ∙ sym ua };
        fits = omega arith;
        small = omega arith;
        again = λ z.
            (let l = h.last_has (some-raw (raw_bars m.raw) s.raw b (sym is ∙ z)) in
            record { kept = l.kept; some = l.some; most = l.most });
        last = record { stands = λ one. subst (LastStands s) (sym sa) (h.last-stands one); even = fa ∙ sym sa; few = omega arith; most = omega arith; sum = omega arith };
      }

  strokes_are : length (kept_strokes s m.strokes m.fractals) ≡ s.strokes
  unfolding kept_strokes state_of
  strokes_are = h.strokes-length

  abbrev last-here : Stood (kept_strokes s m.strokes m.fractals)
  last-here = stood s m.strokes m.fractals h.kept h.last-stands strokes_are lb lf

  planned_for : Planned c.minimum (merged st b) st.strokes last-here.stroke (plan_for c st b)
  unfolding plan_for settings_of state_of kept_strokes
  planned_for =
      plan_means s.minimum (merged st b) (map candle_of (merged st b)) refl last-here.stroke st.strokes (last_of (last st.strokes))
      (kept-last st.strokes last-here)

  -- all of questions 5 to 10 are answered "yes"
  module _ (later : Bool) (early : EarlyOf newest s.raw s.rooms.raw b (Ok later)) where
    bars_are : tried_bars later s m.raw m.unfinished b ≡ merged st b
    unfolding tried_bars state_of merged
    bars_are = merged_by_lem later st b ∙ ap (λ (x : Bool). merged_with x st b) early.later

    plan-is : planned s (map candle_of (tried_bars later s m.raw m.unfinished b)) m.strokes.times m.fractals.prices ≡ plan_for c st b
    unfolding plan_for settings_of state_of kept_strokes
    plan-is =
        λ i. plan_of s.minimum (last_read_lem s m.strokes m.fractals h.kept h.last-stands strokes_are lb lf i) (map candle_of (bars_are i))

    asks : (n : ℕ)
        → n ≡ refused_of (planned s (map candle_of (tried_bars later s m.raw m.unfinished b)) m.strokes.times m.fractals.prices) (length (map candle_of (tried_bars later s m.raw m.unfinished b)))
        s.rooms.unfinished (total (bar_counts s)) s.rooms.strokes
        → n ≡ failed_after4 c st b
    unfolding failed_after4 settings_of bar_counts
    asks n e =
        let v = tried_bars later s m.raw m.unfinished b in
        let q = first_failed (last st.raw) b in
        let w : total (take s.strokes s.bars) ≡ bars_of st.strokes = sym h.bars-length in
        e
        ∙ (λ i. refused_of (plan-is i) ((length-map v candle_of ∙ ap length bars_are) i) s.rooms.unfinished (w i) s.rooms.strokes)
        ∙ questions_asked c st b last-here.stroke (plan_for c st b) planned_for
        ∙ first-passed q (or_else (question11 c st b) 11 (or_else (question12 c st b) 12 0)) (question10 c st b) (early-is 0 early.failed)

    -- one of questions 11 and 12 is answered "no"
    pub asked-late : (q : Question) → TriedOf later s m b (Err q) → AskedOf c st b (Err q)
    asked-late q tried = record { failed = asks (number q) tried.failed; later = tt; plan = tt }

    -- both are answered "yes"
    pub asked-last : (p : Plan) → TriedOf later s m b (Ok p) → AskedOf c st b (Ok (record { later = later; plan = p }))
    unfolding state_of
    asked-last p tried = record { failed = asks 0 tried.failed; later = early.later; plan = tried.plan ∙ plan-is }

-- what questions 5 to 10 ask of the raw store
pub early_asks : (s : Stand) (m : Stores) → Facts s m → Holds m.raw s.raw
early_asks s m h =
    let r = h.raw in
    let e = r.times in
    let few = h.few-raw in
    record { store = record { times = refl; ids = r.ids ∙ sym e; prices = r.prices ∙ sym e }; kept = omega arith }
