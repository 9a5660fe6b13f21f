-- Bars in order: the time and the elements of each are before those of every later one. Merging keeps the order.
-- Assumes nothing.
use Prim.Native.Nat.{ℕ, zero, suc}
use mathlib.Core.Bool.{Bool, true, false, cond}
use mathlib.Core.List.{List, [], ◌∷◌, ◌++◌}
use lib.ListN.{take}
use lib.IntN.{ℤ}
use lib.Signed.{lt_z, le_z}
use lib.Dec.{T}
use lib.Ieee.{Float, lt}
use Rattle.bars.specs.Lists.{All, skip_while}
use Rattle.bars.specs.declared.Bar.{Bar}
use Rattle.bars.specs.Bars.{Merged, own}
use Rattle.bars.specs.Merging.{united, contains, merged_up, merged_down, settle, remove_include, merge_in}
use Rattle.arith.specs.Order.{max_of, min_of}
use Rattle.machine.specs.ByTime.{from}
use Rattle.machine.specs.Rising.{Rising}
use Rattle.machine.proofs.Lists.{All-map, All-append, All-left, All-right, All_skip}
use Rattle.bars.proofs.Times as times

-- the times that a merged bar names
abbrev pub stamps : Merged → List ℤ
stamps k = k.bar.time ∷ k.elements

abbrev pub Under : List ℤ → ℤ → Type 0
Under l t = All (λ u. T (lt_z u t)) l

abbrev pub Upto : ℤ → Merged → Type 0
Upto t k = All (λ u. T (le_z u t)) (stamps k)

abbrev pub Before : Merged → Merged → Type 0
Before x y = All (λ v. Under (stamps x) v) (stamps y)

abbrev pub RisingT : List ℤ → Type 0
RisingT [] = Unit {0}
RisingT (t ∷ l) = All (λ v. T (lt_z t v)) l × RisingT l

abbrev pub Ordered : List Merged → Type 0
Ordered [] = Unit {0}
Ordered (x ∷ l) = RisingT x.elements × All (Before x) l × Ordered l

pub ordered_rising : (l : List Merged) → Ordered l → Rising l
ordered_rising [] o = tt
ordered_rising (x ∷ l) o = (All-map l (λ y h. h.0.0) o.1, ordered_rising l o.2)

-- ---- a bar merged in

All-take : (P : ℤ → Type 0) (n : ℕ) (l : List ℤ) → All P l → All P (take n l)
All-take P zero l h = tt
All-take P (suc n) [] h = tt
All-take P (suc n) (t ∷ l) h = (h.0, All-take P n l h.1)

rising-take : (n : ℕ) (l : List ℤ) → RisingT l → RisingT (take n l)
rising-take zero l h = tt
rising-take (suc n) [] h = tt
rising-take (suc n) (t ∷ l) h = (All-take (λ v. T (lt_z t v)) n l h.0, rising-take n l h.1)

rising_snoc : (l : List ℤ) (t : ℤ) → RisingT l → Under l t → RisingT (l ++ t ∷ [])
rising_snoc [] t h u = (tt, tt)
rising_snoc (x ∷ l) t h u = (All-append (λ v. T (lt_z x v)) l (t ∷ []) h.0 (u.0, tt), rising_snoc l t h.1 u.1)

-- what holds of the time of k2 or of b, and of the elements of k2 and of b, holds of every time that the two together name
pub united-stamps : (P : ℤ → Type 0) (k : Merged) (b : Bar) (t : ℤ) (h l : Float) → P t → All P k.elements → P b.time → All P (stamps (united k b t h l))
unfolding united
united-stamps P k b t h l p e q = (p, All-append P (take 100 k.elements) (b.time ∷ []) (All-take P 100 k.elements e) (q, tt))

pub pick : (P : ℤ → Type 0) (c : Bool) (s t : ℤ) → P s → P t → P (cond c s t)
pick P true s t p q = p
pick P false s t p q = q

-- what is needed of P, to hold of a bar united of k and b
abbrev pub Unites : (Merged → Type 0) → Merged → Bar → Type 0
Unites P k b = (c : Bool) (h l : Float) → P (united k b (cond c k.bar.time b.time) h l)

pub settle-all : (P : Merged → Type 0) (u d i : Bool) (k : Merged) (b : Bar) → P k → P (own b) → Unites P k b → All P (settle u d i k b)
unfolding settle merged_up merged_down
settle-all P true d true k b p q r = (r (lt b.high k.bar.high) (max_of k.bar.high b.high) (max_of k.bar.low b.low), tt)
settle-all P false true true k b p q r = (r (lt k.bar.low b.low) (min_of k.bar.high b.high) (min_of k.bar.low b.low), tt)
settle-all P false false true k b p q r = (p, (q, tt))
settle-all P true d false k b p q r = (p, (q, tt))
settle-all P false d false k b p q r = (p, (q, tt))

pub merge_all_lem : (P : Merged → Type 0) (l : List Merged) (b : Bar) → All P l → P (own b) → ((k : Merged) → P k → Unites P k b) → All P (merge_in l b)
unfolding merge_in remove_include
merge_all_lem P [] b a q r = (q, tt)
merge_all_lem P (k1 ∷ []) b a q r = (a.0, (q, tt))
merge_all_lem P (k1 ∷ k2 ∷ []) b a q r =
    (a.0, settle-all P (lt k1.bar.high k2.bar.high) (lt k2.bar.high k1.bar.high) (contains k2.bar b) k2 b a.1.0 q (r k2 a.1.0))
merge_all_lem P (k1 ∷ k2 ∷ k3 ∷ l) b a q r = (a.0, merge_all_lem P (k2 ∷ k3 ∷ l) b a.1 q r)

-- every time that the bars name is before t
abbrev pub Below : List Merged → ℤ → Type 0
Below l t = All (λ k. Under (stamps k) t) l

before-united : (x k : Merged) (b : Bar) → Under (stamps x) b.time → Before x k → Unites (Before x) k b
before-united x k b u p c h lo =
    united-stamps (λ v. Under (stamps x) v) k b (cond c k.bar.time b.time) h lo (pick (λ v. Under (stamps x) v) c k.bar.time b.time p.0 u) p.1 u

before-own : (x : Merged) (b : Bar) → Under (stamps x) b.time → Before x (own b)
unfolding own
before-own x b u = (u, (u, tt))

pub before-merged : (x : Merged) (l : List Merged) (b : Bar) → All (Before x) l → Under (stamps x) b.time → All (Before x) (merge_in l b)
before-merged x l b a u = merge_all_lem (Before x) l b a (before-own x b u) (λ k p. before-united x k b u p)

pub upto_merged : (l : List Merged) (b : Bar) → Below l b.time → All (Upto b.time) (merge_in l b)
unfolding own
upto_merged l b a =
    let e = times.le_refl b.time in
    merge_all_lem (Upto b.time) l b (All-map l (λ k u. All-map (stamps k) (λ t h. times.lt-le t b.time h) u) a) (e, (e, tt))
    (λ k p c h lo. united-stamps (λ v. T (le_z v b.time)) k b (cond c k.bar.time b.time) h lo (pick (λ v. T (le_z v b.time)) c k.bar.time b.time p.0 e) p.1 e)

settle_ordered : (u d i : Bool) (k : Merged) (b : Bar) → RisingT k.elements → Under (stamps k) b.time → Ordered (settle u d i k b)
unfolding settle merged_up merged_down united own
settle_ordered true d true k b r s = (rising_snoc (take 100 k.elements) b.time (rising-take 100 k.elements r) (All-take (λ v. T (lt_z v b.time)) 100 k.elements s.1), tt, tt)
settle_ordered false true true k b r s = (rising_snoc (take 100 k.elements) b.time (rising-take 100 k.elements r) (All-take (λ v. T (lt_z v b.time)) 100 k.elements s.1), tt, tt)
settle_ordered false false true k b r s = (r, ((s, (s, tt)), tt), ((tt, tt), tt, tt))
settle_ordered true d false k b r s = (r, ((s, (s, tt)), tt), ((tt, tt), tt, tt))
settle_ordered false d false k b r s = (r, ((s, (s, tt)), tt), ((tt, tt), tt, tt))

pub merge_ordered : (l : List Merged) (b : Bar) → Ordered l → Below l b.time → Ordered (merge_in l b)
unfolding merge_in remove_include own
merge_ordered [] b o u = ((tt, tt), tt, tt)
merge_ordered (k1 ∷ []) b o u = (o.0, ((u.0, (u.0, tt)), tt), ((tt, tt), tt, tt))
merge_ordered (k1 ∷ k2 ∷ []) b o u = (
  o.0,
  settle-all (Before k1) (lt k1.bar.high k2.bar.high) (lt k2.bar.high k1.bar.high) (contains k2.bar b) k2 b o.1.0 (before-own k1 b u.0) (before-united k1 k2 b u.0 o.1.0),
  settle_ordered (lt k1.bar.high k2.bar.high) (lt k2.bar.high k1.bar.high) (contains k2.bar b) k2 b o.2.0 u.1.0,
)
merge_ordered (k1 ∷ k2 ∷ k3 ∷ l) b o u = (o.0, before-merged k1 (k2 ∷ k3 ∷ l) b o.1 u.0, merge_ordered (k2 ∷ k3 ∷ l) b o.2 u.1)

-- behind other bars
pub merge_ordered_after : (p l : List Merged) (b : Bar) → Ordered (p ++ l) → Below (p ++ l) b.time → Ordered (p ++ merge_in l b)
merge_ordered_after [] l b o u = merge_ordered l b o u
merge_ordered_after (x ∷ p) l b o u =
    (o.0, All-append (Before x) p (merge_in l b) (All-left (Before x) p l o.1) (before-merged x l b (All-right (Before x) p l o.1) u.0), merge_ordered_after p l b o.2 u.1)

-- ---- parts of ordered lists

pub ordered_left : (l r : List Merged) → Ordered (l ++ r) → Ordered l
ordered_left [] r o = tt
ordered_left (x ∷ l) r o = (o.0, All-left (Before x) l r o.1, ordered_left l r o.2)

pub ordered_right : (l r : List Merged) → Ordered (l ++ r) → Ordered r
ordered_right [] r o = o
ordered_right (x ∷ l) r o = ordered_right l r o.2

-- a list with its end cut down to bars that stood there, in order
pub ordered_swap : (p l r : List Merged) → Ordered (p ++ l) → Ordered r → ((P : Merged → Type 0) → All P l → All P r) → Ordered (p ++ r)
ordered_swap [] l r o q s = q
ordered_swap (x ∷ p) l r o q s =
    (o.0, All-append (Before x) p r (All-left (Before x) p l o.1) (s (Before x) (All-right (Before x) p l o.1)), ordered_swap p l r o.2 q s)

ordered_skip_if : (t : Bool) (l r : List Merged) → Ordered l → Ordered r → Ordered (cond t l r)
ordered_skip_if true l r o q = o
ordered_skip_if false l r o q = q

pub ordered_from : (t : ℤ) (l : List Merged) → Ordered l → Ordered (from t l)
unfolding from skip_while
ordered_from t [] o = tt
ordered_from t (x ∷ l) o = ordered_skip_if (lt_z x.bar.time t) (from t l) (x ∷ l) (ordered_from t l o.2) o

pub All-from : (P : Merged → Type 0) (t : ℤ) (l : List Merged) → All P l → All P (from t l)
unfolding from
All-from P t l a = All_skip P (λ k. lt_z k.bar.time t) l a
