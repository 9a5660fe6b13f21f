-- Laws of the unfinished bars seen as the store's first bars and a tail behind them. Assumes nothing.
use Prim.Native.Nat.{ℕ, zero, suc, ◌+◌, ◌-◌, ◌<◌, ◌≤◌}
use mathlib.Core.Bool.{true, false}
use mathlib.Core.List.{List, [], ◌∷◌, ◌++◌, append-nil}
use mathlib.Core.Path.{◌≡◌, refl, ap, sym, ◌∙◌, subst}
use native.Mathlib.Numerals.{add-one}
use native.Mathlib.Omega.{arith}
use lib.ListN.{length, take, drop, get_or, drop_of_length-le}
use lib.Seq.{take-suc, append_snoc, length-take-le, drop-cons}
use lib.IntN.{ℤ, pos}
use Rattle.std.specs.Prelude.{Option, Some, None}
use Rattle.bars.specs.declared.Bar.{Bar}
use Rattle.bars.specs.Lists.{keep_if, fold_left}
use Rattle.bars.specs.Merging.{at_times}
use Rattle.stores.specs.Stores.{RawStore, raw_bars}
use Rattle.stores.specs.Code.StoreRows.{SizedRaw, bar_at}
use Rattle.stores.specs.Code.TailRows.{TailHas, TailTakes}
use Rattle.bars.specs.Code.MergedBars.{merge_bars, merge_bars_all, behind}
use Rattle.stores.proofs.Columns.{raw-length, raw_at}
use Rattle.stores.proofs.Searching.{timed}
use Rattle.stores.proofs.TailMerging.{view-merged}
use Rattle.check_bi.specs.Code.View.{view}
use Rattle.asking.specs.declared.merged_tail.Tail.{Tail}
use Rattle.asking.specs.Code.MergedTail.{Holds, CanTail, HasTail, TailGrown, last_kept, rows_of, shown}

-- ---- the last of the first bars

pub kept_none : (n : ℕ) (u : RawStore) → n ≡ 0 → None ≡ last_kept n u
unfolding last_kept
kept_none n u e = ap (λ (i : ℕ). last_kept i u) (sym e)

pub kept_some : (n : ℕ) (u : RawStore) → (n ≡ 0 → ⊥) → Some (bar_at u (n - 1)) ≡ last_kept n u
unfolding last_kept
kept_some zero u h = absurd (h refl)
kept_some (suc n) u h = ap (λ (i : ℕ). Some (bar_at u i)) (omega arith)

how_many : Option Bar → ℕ
how_many None = 0
how_many (Some k) = 1

bar_or : Bar → Option Bar → Bar
bar_or d None = d
bar_or d (Some k) = k

pub none_kept : (n : ℕ) (u : RawStore) → None ≡ last_kept n u → n ≡ 0
unfolding last_kept how_many
none_kept zero u e = refl
none_kept (suc n) u e = absurd (omega (arith, ap how_many e))

pub one_kept : (n : ℕ) (u : RawStore) (k : Bar) → Some k ≡ last_kept n u → (0 < n) × (k ≡ bar_at u (n - 1))
unfolding last_kept how_many bar_or
one_kept zero u k e = absurd (omega (arith, ap how_many e))
one_kept (suc n) u k e = (omega arith, ap (bar_or k) e ∙ ap (bar_at u) (omega arith))

-- the first n bars end with it
pub kept-last : (u : RawStore) (n : ℕ) → Holds u n → 0 < n → take n (raw_bars u) ≡ take (n - 1) (raw_bars u) ++ bar_at u (n - 1) ∷ []
kept-last u n h more =
    let kept = h.kept in
    let sized = h.store in
    let e : n ≡ suc (n - 1) = omega arith in
    let p : n - 1 < length (raw_bars u) = omega (arith, raw-length u (length u.times) sized) in
    ap (λ (i : ℕ). take i (raw_bars u)) e
    ∙ take-suc (raw_bars u) (n - 1) (bar_at u (n - 1)) p
    ∙ ap (λ (x : Bar). take (n - 1) (raw_bars u) ++ x ∷ [])
    (raw_at u (n - 1) (bar_at u (n - 1)) (record { times = omega arith; ids = omega (arith, sized.ids); prices = omega (arith, sized.prices) }))

-- ---- the rows of a tail, as they were lent

pub takes_tied : (k : Option Bar) (s : RawStore) (m : ℕ) (b : Bar) (t t' : RawStore) (r : ℕ) → t.times ≡ t'.times → t.ids ≡ t'.ids → t.prices ≡ t'.prices → TailTakes k s m b t r → TailTakes k s m b t' r
takes_tied k s m b t t' r x y z h = subst (λ (w : RawStore). TailTakes k s m b w r) (λ i. record { times = x i; ids = y i; prices = z i }) h

-- ---- one bar merged

behind-one : (l : List Bar) (k : Bar) (x y : List Bar) (b : Bar) → 0 < length x → k ∷ y ≡ merge_bars (k ∷ x) b → l ++ k ∷ y ≡ merge_bars (l ++ k ∷ x) b
behind-one l k [] y b h e = let w : ⊥ = omega arith in absurd w
behind-one l k (k2 ∷ x) y b h e = view-merged l k k2 x y b e

-- the tail t' after b was merged into the tail t
module _ {N : ℕ} (u : RawStore) (t : Tail N) (h : CanTail u t 1) (b : Bar) (t' : Tail N) (sized : SizedRaw (rows_of t') N) (base : t'.base ≡ t.base) where
  abbrev own : List Bar
  own = take t.rows (raw_bars (rows_of t))

  abbrev own' : List Bar
  own' = take t'.rows (raw_bars (rows_of t'))

  long : length own ≡ t.rows
  long = let room = h.room in length-take-le t.rows (raw_bars (rows_of t)) (omega (arith, raw-length (rows_of t) N h.tail))

  grown : shown u t' ≡ merge_bars (shown u t) b → t.rows ≤ t'.rows → t'.rows ≤ t.rows + 1 → TailGrown u t 1 t' (merge_bars (shown u t) b)
  grown e least most =
      let room = h.room in
      record { has = record { bars = e; sized = sized; within = omega arith; tied = λ z. base ∙ h.tied (omega (arith, z)) }; base = base; rows = most }

  alone : t.base ≡ 0 → TailTakes None (rows_of t) t.rows b (rows_of t') t'.rows → TailGrown u t 1 t' (merge_bars (shown u t) b)
  unfolding view behind TailTakes
  alone z q =
      let w : TailHas false b (rows_of t) t.rows 1 (rows_of t') t'.rows (merge_bars (behind false b ++ own) b) = q in
      grown (ap (λ (i : ℕ). take i (raw_bars u) ++ own') (base ∙ z) ∙ w.bars ∙ ap (λ (i : ℕ). merge_bars (take i (raw_bars u) ++ own) b) (sym z)) w.least w.most

  behind_kept : 0 < t.base → TailTakes (Some (bar_at u (t.base - 1))) (rows_of t) t.rows b (rows_of t') t'.rows → TailGrown u t 1 t' (merge_bars (shown u t) b)
  unfolding view behind TailTakes
  behind_kept more q =
      let k = bar_at u (t.base - 1) in
      let w : TailHas true k (rows_of t) t.rows 1 (rows_of t') t'.rows (merge_bars (behind true k ++ own) b) = q in
      let l = take (t.base - 1) (raw_bars u) in
      let p : take t.base (raw_bars u) ≡ l ++ k ∷ [] = kept-last u t.base h.behind more in
      let c = long in
      let y : t.rows ≡ 0 → ⊥ = λ z. (let i = h.tied z in omega arith) in
      let f : 0 < length own = omega arith in
      grown
      (ap (λ (i : ℕ). take i (raw_bars u) ++ own') base
      ∙ ap (λ (x : List Bar). x ++ own') p
      ∙ append_snoc l k own'
      ∙ behind-one l k own own' b f w.bars
      ∙ ap (λ (x : List Bar). merge_bars x b) (sym (append_snoc l k own) ∙ ap (λ (x : List Bar). x ++ own) (sym p)))
      w.least
      w.most

  by_base : (n : ℕ) → n ≡ t.base → (k : Option Bar) → k ≡ last_kept n u → TailTakes k (rows_of t) t.rows b (rows_of t') t'.rows → TailGrown u t 1 t' (merge_bars (shown u t) b)
  unfolding last_kept
  by_base zero e k p q = alone (sym e) (subst (λ (x : Option Bar). TailTakes x (rows_of t) t.rows b (rows_of t') t'.rows) p q)
  by_base (suc n) e k p q =
      behind_kept (omega arith) (subst (λ (x : Option Bar). TailTakes x (rows_of t) t.rows b (rows_of t') t'.rows) (p ∙ ap (λ (i : ℕ). Some (bar_at u i)) (omega arith)) q)

  pub merged : (k : Option Bar) → k ≡ last_kept t.base u → TailTakes k (rows_of t) t.rows b (rows_of t') t'.rows → TailGrown u t 1 t' (merge_bars (shown u t) b)
  merged k p q = by_base t.base refl k p q

-- ---- the tail's first bar

module _ {N : ℕ} (u : RawStore) (n : ℕ) (t : Tail N) (sized : SizedRaw (rows_of t) N) where
  pub started_none : None ≡ last_kept n u → t.base ≡ 0 → t.rows ≡ 0 → HasTail u t (take n (raw_bars u)) × (t.base ≤ n) × (t.rows ≤ 1)
  unfolding view
  started_none e z w =
      let none = none_kept n u e in (
        record {
          bars = (λ i. take (z i) (raw_bars u) ++ take (w i) (raw_bars (rows_of t))) ∙ ap (λ (i : ℕ). take i (raw_bars u)) (sym none);
          sized = sized;
          within = omega arith;
          tied = λ x. z;
        },
        omega arith,
        omega arith,
      )

  pub started-one : (s : RawStore) (m : ℕ) (b : Bar) → Holds u n → 1 ≤ N → m ≡ 0 → Some b ≡ last_kept n u → t.base ≡ n - 1 → TailTakes None s m b (rows_of t) t.rows
      → HasTail u t (take n (raw_bars u)) × (t.base ≤ n) × (t.rows ≤ 1)
  unfolding view behind TailTakes merge_bars
  started-one s m b h wide none e z q =
      let k = one_kept n u b e in
      let more = k.0 in
      let own = take t.rows (raw_bars (rows_of t)) in
      let w : TailHas false b s 0 1 (rows_of t) t.rows (b ∷ []) = subst (λ (i : ℕ). TailTakes None s i b (rows_of t) t.rows) none q in
      let most = w.most in
      let one : own ≡ b ∷ [] = w.bars in
      let l = take (n - 1) (raw_bars u) in (
        record {
          bars =
              ap (λ (i : ℕ). take i (raw_bars u) ++ own) z
              ∙ ap (λ (x : List Bar). l ++ x) one
              ∙ ap (λ (x : Bar). l ++ x ∷ []) k.1
              ∙ sym (kept-last u n h more);
          sized = sized;
          within = omega arith;
          tied = λ y. absurd (omega (arith, ap (λ (i : ℕ). length (take i (raw_bars (rows_of t)))) y, ap length one));
        },
        omega arith,
        omega arith,
      )

-- ---- a bar more

-- the tail t of the first n bars of u has begun
pub can_go : {N : ℕ} (u : RawStore) (n : ℕ) (t : Tail N) (l : List Bar) (more : ℕ) → Holds u n → HasTail u t l × (t.base ≤ n) × (t.rows ≤ 1) → 1 + more ≤ N → CanTail u t more
can_go u n t l more h s wide =
    let kept = h.kept in
    let before = s.1 in
    let few = s.2 in
    record { behind = record { store = h.store; kept = omega arith }; tail = s.0.sized; room = omega arith; tied = s.0.tied }

-- the bars are other bars
pub tail_of : {N : ℕ} (u : RawStore) (t : Tail N) (l l' : List Bar) → l ≡ l' → HasTail u t l → HasTail u t l'
tail_of u t l l' e h = subst (HasTail u t) e h

pub later_put : {N : ℕ} (u : RawStore) (n : ℕ) (t t' : Tail N) (l : List Bar) (b : Bar) → HasTail u t l × (t.base ≤ n) × (t.rows ≤ 1) → TailGrown u t 1 t' (merge_bars (shown u t) b)
    → HasTail u t' (merge_bars l b) × (t'.base ≤ n) × (t'.rows ≤ 2)
later_put u n t t' l b s g =
    let before = s.1 in
    let few = s.2 in
    let same = g.base in
    let one = g.rows in
    (tail_of u t' (merge_bars (shown u t) b) (merge_bars l b) (ap (λ (x : List Bar). merge_bars x b) s.0.bars) g.has, omega arith, omega arith)

-- ---- the raw bar of a time

-- no raw bar of the time, and one
pub named_none : {N : ℕ} (u : RawStore) (t : Tail N) (bs : List Bar) → CanTail u t 1 → bs ≡ [] → TailGrown u t 1 t (merge_bars_all (shown u t) bs)
unfolding merge_bars_all fold_left
named_none u t bs h e =
    let room = h.room in
    record { has = record { bars = ap (merge_bars_all (shown u t)) (sym e); sized = h.tail; within = omega arith; tied = h.tied }; base = refl; rows = omega arith }

pub named-one : {N : ℕ} (u : RawStore) (t t' : Tail N) (bs : List Bar) (b : Bar) → bs ≡ b ∷ [] → TailGrown u t 1 t' (merge_bars (shown u t) b) → TailGrown u t 1 t' (merge_bars_all (shown u t) bs)
unfolding merge_bars_all fold_left
named-one u t t' bs b e h = subst (TailGrown u t 1 t') (sym (ap (merge_bars_all (shown u t)) e)) h

-- ---- the run

merge_both : (l a b : List Bar) → merge_bars_all l (a ++ b) ≡ merge_bars_all (merge_bars_all l a) b
unfolding merge_bars_all fold_left
merge_both l [] b = refl
merge_both l (x ∷ a) b = merge_both (merge_bars l x) a b

-- the first time of some, and then the others
times_both : (raw : List Bar) (t : ℤ) (ts : List ℤ) → at_times raw (t ∷ []) ++ at_times raw ts ≡ at_times raw (t ∷ ts)
unfolding at_times
times_both raw t ts = ap (λ (x : List Bar). x ++ at_times raw ts) (append-nil (keep_if (timed (λ b. b.time) t) raw))

-- once the bars of the first i of the times es are merged into the tail a, and it is the tail t: what is left to merge gives the answer
pub record TailGoing {N : ℕ} (u : RawStore) (a : Tail N) (raw : List Bar) (es : List ℤ) (i : ℕ) (t : Tail N) : Type 0 where
  pub upto : i ≤ length es
  pub sized : SizedRaw (rows_of t) N
  pub tied : t.rows ≡ 0 → t.base ≡ 0
  pub base : t.base ≡ a.base
  pub rows : t.rows ≤ a.rows + i
  pub left : merge_bars_all (shown u t) (at_times raw (drop i es)) ≡ merge_bars_all (shown u a) (at_times raw es)

module _ {N : ℕ} (u : RawStore) (a : Tail N) (raw : List Bar) (es : List ℤ) (h : CanTail u a (length es)) where
  pub run-first : TailGoing u a raw es 0 a
  run-first = record { upto = omega arith; sized = h.tail; tied = h.tied; base = refl; rows = omega arith; left = refl }

  module _ (i : ℕ) (t : Tail N) (g : TailGoing u a raw es i t) where
    pub run_can : i < length es → CanTail u t 1
    run_can here =
        let room = h.room in
        let kept = h.behind.kept in
        let grown = g.rows in
        let same = g.base in
        record { behind = record { store = h.behind.store; kept = omega arith }; tail = g.sized; room = omega arith; tied = g.tied }

    pub run-turn : (t' : Tail N) (x : ℤ) → i < length es → x ≡ get_or es i (pos 0) → TailGrown u t 1 t' (merge_bars_all (shown u t) (at_times raw (x ∷ []))) → TailGoing u a raw es (i + 1) t'
    run-turn t' x here reads q =
        let grown = g.rows in
        let more = q.rows in
        let v = shown u t in
        record {
          upto = omega arith;
          sized = q.has.sized;
          tied = q.has.tied;
          base = q.base ∙ g.base;
          rows = omega arith;
          left =
              ap (λ (l : List Bar). merge_bars_all l (at_times raw (drop (i + 1) es))) q.has.bars
              ∙ sym (merge_both v (at_times raw (x ∷ [])) (at_times raw (drop (i + 1) es)))
              ∙ ap (merge_bars_all v) (times_both raw x (drop (i + 1) es))
              ∙ ap (λ (ts : List ℤ). merge_bars_all v (at_times raw ts)) ((λ j. reads j ∷ drop (add-one i j) es) ∙ sym (drop-cons es i (pos 0) here))
              ∙ g.left;
        }

    pub run_end : length es ≤ i → TailGrown u a (length es) t (merge_bars_all (shown u a) (at_times raw es))
    unfolding merge_bars_all fold_left at_times
    run_end over =
        let upto = g.upto in
        let room = h.room in
        let grown = g.rows in
        record {
          has =
              record {
                bars = ap (λ (ts : List ℤ). merge_bars_all (shown u t) (at_times raw ts)) (sym (drop_of_length-le es {i = i} over)) ∙ g.left;
                sized = g.sized;
                within = omega arith;
                tied = g.tied;
              };
          base = g.base;
          rows = omega arith;
        }
