-- The windows that hold no fractal, from feed to feed: what is known before the first, what clear_after asks, and what it answers. Assumes nothing.
use Rattle.std.specs.Prelude.{None}
use Prim.Native.Nat.{ℕ, zero, suc, ◌+◌, ◌-◌, ◌≤◌, ◌<◌}
use native.Mathlib.Omega.{arith}
use mathlib.Core.Path.{◌≡◌, refl, ap, sym, subst}
use mathlib.Core.Bool.{true, false}
use mathlib.Core.List.{List}
use mathlib.Core.Logic.{◌⊎◌, inl, inr}
use lib.ListN.{length}
use lib.Ieee.{Float}
use Rattle.arith.proofs.FloatOrder.{lt-or_ge}
use Rattle.bars.specs.declared.Bar.{Bar}
use Rattle.machine.specs.declared.Mark.TheVariants.{D}
use Rattle.check_bi.specs.Code.Windows.{taken_at, NoneBetween, NoFractals}
use Rattle.check_bi.proofs.ScanWindows.{none_yet, clear_none}
use Rattle.strokes.specs.declared.Stand.{Stand}
use Rattle.strokes.specs.Lent.{Stores}
use Rattle.sound.proofs.NewestLaws.{lengths}
use Rattle.feed.specs.PortCalls.{FeedIs}
use Rattle.stores.specs.Stores.{MergedStore}
use Rattle.from_fresh.specs.declared.windows.Counts.{Counts}
use Rattle.from_fresh.specs.FromFresh.{FromFresh}
use Rattle.from_fresh.specs.Code.ClearWindows.{Clear, ClearAfter}
use Rattle.from_fresh.proofs.FromFreshLaws.{from-fresh-sizes, from-fresh-small}
use Rattle.from_fresh.proofs.ClearKept.{clear_left}

-- nothing need be known
pub clear_begins : (s : Stand) (m : Stores) → Clear s m 0
clear_begins s m = record { none = clear_none m.unfinished.prices; within = λ h. absurd (omega arith) }

-- ---- what clear_after asks

few : (c u : ℕ) → (0 < c → c + 2 ≤ u) → c ≤ u
few zero u h = omega arith
few (suc c) u h = let p = h (omega arith) in omega arith

pub can_look : {s s' : Stand} {m m' : Stores} {c : ℕ} → FromFresh s m → Clear s m c → FromFresh s' m'
    → (s.raw < 4294967296) × (s.unfinished < 4294967296) × (s'.unfinished < 4294967296) × (c ≤ s.unfinished) × (s'.unfinished ≤ length m'.unfinished.prices)
can_look {s = s} {s' = s'} {m' = m'} {c = c} x k y =
    let a = from-fresh-small x in
    let a0 = a.0 in
    let a1 = a.1 in
    let b1 = (from-fresh-small y).1 in
    let f = lengths s' m' (from-fresh-sizes y) in
    (omega arith, omega arith, omega arith, few c s.unfinished k.within, rw f.unfinished.raw.prices f.few-unfinished)

-- ---- what it answers

module _ (ps : List (List Float)) (strokes made raw raw' u u' c : ℕ) where
  pub none-known : ClearAfter ps strokes made raw raw' u u' c 0
  none-known = record { known = 0; kept = λ h. absurd (omega arith); looked = none_yet (taken_at ps None) u' 0 }

  pub looked_on : (k r : ℕ) → strokes ≡ 0 → made ≡ 0 → (0 < k → (0 < c) × (raw' ≡ raw + 1) × (k ≡ c + u' - (u + 1))) → NoneBetween (taken_at ps None) u' k r
      → ClearAfter ps strokes made raw raw' u u' c r
  looked_on k r z y h n = record { known = k; kept = λ p. (z, y, (h p).0, (h p).1, (h p).2); looked = n }

-- ---- from feed to feed

-- a bar that was refused leaves as many raw bars
fed-later : {s s' : Stand} {m m' : Stores} {b : Bar} (failed : ℕ) {made broken shed : ℕ} → FeedIs s m b failed made broken shed s' m' → s'.raw ≡ s.raw + 1 → failed ≡ 0
fed-later zero f e = refl
fed-later (suc n) f e = let p = ap (λ (t : Stand). t.raw) (f.refused (λ q. omega arith)).0 in absurd (omega arith)

module _ {s s' : Stand} {m m' : Stores} {b : Bar} {failed made broken shed c r : ℕ} (x : FromFresh s m) (k : Clear s m c) (f : FeedIs s m b failed made broken shed s' m')
    (a : ClearAfter m'.unfinished.prices s.strokes made s.raw s'.raw s.unfinished s'.unfinished c r) where
  left : 0 < a.known → NoFractals m'.unfinished.prices a.known
  left h =
      let w = a.kept h in
      let g = subst (λ (n : ℕ). FeedIs s m b n made broken shed s' m') (fed-later failed f w.3) f in
      subst (NoFractals m'.unfinished.prices) (sym w.4) (clear_left g (from-fresh-sizes x) w.0 w.1 w.3 c k.none (k.within w.2))

  none_of : (j : ℕ) → j < r → (j < a.known) ⊎ (a.known ≤ j) → taken_at m'.unfinished.prices None j ≡ false
  none_of j h (inl p) = left (omega arith) j p
  none_of j h (inr p) = a.looked.none j p h

  within_of : 0 < r → (a.known < r) ⊎ (r ≤ a.known) → r + 2 ≤ s'.unfinished
  within_of h (inl p) = let q = a.looked.within p in omega arith
  within_of h (inr p) =
      let q = a.looked.from in
      let w = a.kept (omega arith) in
      let e = w.4 in
      let g = k.within w.2 in
      omega arith

  pub clear_next : Clear s' m' r
  clear_next = record { none = λ j h. none_of j h (lt-or_ge j a.known); within = λ h. within_of h (lt-or_ge a.known r) }

-- ---- as the code has them: the counts before and after the feed, and the unfinished bars afterwards

abbrev counts_of : Stand → Counts
counts_of s = record { strokes = s.strokes; raw = s.raw; unfinished = s.unfinished }

module _ {s s' : Stand} {m m' : Stores} {c : ℕ} (before after : Counts) (u : MergedStore) (x : FromFresh s m) (k : Clear s m c) (eb : before ≡ counts_of s) (ea : after ≡ counts_of s') (eu : u ≡ m'.unfinished) where
  pub can_look_on : FromFresh s' m'
      → (before.raw < 4294967296) × (before.unfinished < 4294967296) × (after.unfinished < 4294967296) × (c ≤ before.unfinished) × (after.unfinished ≤ length u.prices)
  can_look_on y =
      let p = can_look x k y in
      let b1 : before.raw ≡ s.raw = ap (λ (z : Counts). z.raw) eb in
      let b2 : before.unfinished ≡ s.unfinished = ap (λ (z : Counts). z.unfinished) eb in
      let a2 : after.unfinished ≡ s'.unfinished = ap (λ (z : Counts). z.unfinished) ea in
      let l : length u.prices ≡ length m'.unfinished.prices = ap (λ (z : MergedStore). length z.prices) eu in
      let p0 = p.0 in
      let p1 = p.1 in
      let p2 = p.2 in
      let p3 = p.3 in
      let p4 = p.4 in
      (omega arith, omega arith, omega arith, omega arith, omega arith)

  pub looked_after : {b : Bar} {failed made broken shed r : ℕ} → FeedIs s m b failed made broken shed s' m'
      → ClearAfter u.prices before.strokes made before.raw after.raw before.unfinished after.unfinished c r → Clear s' m' r
  looked_after {made = made} {r = r} f a =
      clear_next x k f
      (subst (λ (z : MergedStore). ClearAfter z.prices s.strokes made s.raw s'.raw s.unfinished s'.unfinished c r) eu
      (subst (λ (z : Counts). ClearAfter u.prices s.strokes made s.raw z.raw s.unfinished z.unfinished c r) ea
      (subst (λ (z : Counts). ClearAfter u.prices z.strokes made z.raw after.raw z.unfinished after.unfinished c r) eb a)))
