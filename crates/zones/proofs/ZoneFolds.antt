-- A zone that is grown stroke by stroke is ZS::new of all its strokes, and a stroke opens a new zone after it where get_zs_seq says so.
-- Assumes nothing.
use mathlib.Core.Path.{◌≡◌, refl, ap, sym, ◌∙◌}
use mathlib.Core.Bool.{Bool, true, false, not, ◌&&◌}
use Rattle.std.specs.Prelude.{Option, Some, None}
use mathlib.Core.List.{List, [], ◌∷◌, ◌++◌, foldl}
use lib.Ieee.{Float, lt}
use Rattle.arith.specs.Order.{max_of, min_of}
use Rattle.bars.specs.Lists as Lists
use Rattle.bars.specs.Lists.{every}
use Rattle.machine.specs.declared.Direction.{Direction}
use Rattle.machine.specs.declared.Direction.TheVariants.{Up, Down}
use Rattle.named.specs.Folds.{greatest, least}
use Rattle.zones.specs.declared.Summary.{Summary}
use Rattle.zones.specs.declared.zone_building.GrowingZone.{GrowingZone}
use Rattle.zones.specs.Zones.{Zone, highs, lows, zg, zd, zz, gg, dd, outside, opens, meets_range, is_valid, zone_with, last_from, zone_of}
use Rattle.zones.specs.Code.GrowingZone.{started, joined_early, joined_later, joined_if, joined_of, grown, outside_of, opens_of, zz_of, meets_if, first_meet, valid_of, zone_from}
use Rattle.arith.proofs.Tests.{and_true, and_assoc}

-- with the third stroke, and with a later one
pub third_joined : (z : GrowingZone) (s b : Summary) → z.second ≡ Some b → z.third ≡ None → joined_early z z.second (Some s) s ≡ joined_of z s
unfolding joined_of joined_if
third_joined z s b p q = ap (λ (o : Option Summary). joined_early z o (Some s) s) p ∙ sym (λ i. joined_if (p i) (q i) z s)

pub later_joined : (z : GrowingZone) (s b c : Summary) → z.second ≡ Some b → z.third ≡ Some c → joined_later z s ≡ joined_of z s
unfolding joined_of joined_if
later_joined z s b c p q = sym (λ i. joined_if (p i) (q i) z s)

-- of three strokes a, b, c or more
abbrev three_on : Summary → Summary → Summary → Float → Float → Summary → Float → Float → Bool → GrowingZone
three_on a b c g d x u v t = record { first = a; second = Some b; third = Some c; last = x; zg = g; zd = d; gg = u; dd = v; later = t }

module _ (a b c : Summary) (g d : Float) where
  later_fold : (x : Summary) (u v : Float) (t : Bool) (l : List Summary)
      → foldl joined_of (three_on a b c g d x u v t) l ≡ three_on a b c g d (last_from x l) (Lists.fold_left max_of u (highs l)) (Lists.fold_left min_of v (lows l)) (t && every (meets_range g d) l)
  unfolding joined_of joined_if joined_later last_from highs lows Lists.fold_left every
  later_fold x u v t [] = ap (three_on a b c g d x u v) (sym (and_true t))
  later_fold x u v t (s ∷ l) =
      later_fold s (max_of u s.high) (min_of v s.low) (t && meets_range g d s) l
      ∙ ap (three_on a b c g d (last_from s l) (Lists.fold_left max_of (max_of u s.high) (highs l)) (Lists.fold_left min_of (min_of v s.low) (lows l))) (sym (and_assoc t (meets_range g d s) (every (meets_range g d) l)))

-- ---- is_valid

one_meets : (n p : Bool) → n && ((p && true) && true) ≡ n && (p && true)
one_meets false p = refl
one_meets true true = refl
one_meets true false = refl

two-meet : (n p q : Bool) → n && ((p && (q && true)) && true) ≡ n && (p && (q && true))
two-meet false p q = refl
two-meet true false q = refl
two-meet true true true = refl
two-meet true true false = refl

three-meet : (n p q r e : Bool) → n && ((p && (q && r)) && e) ≡ n && (p && (q && (r && e)))
three-meet false p q r e = refl
three-meet true false q r e = refl
three-meet true true false r e = refl
three-meet true true true r e = refl

abbrev answered : List Summary → Summary → Summary → Bool → Zone
answered z a b v =
    record { sdt = a.began; edt = b.ended; sdir = a.direction; edir = b.direction; zg = zg z; zd = zd z; zz = zz z; gg = gg z; dd = dd z; valid = v; strokes = z }

-- whether the stroke meets the range of the strokes z
abbrev meets : List Summary → Summary → Bool
meets z s = meets_range (zg z) (zd z) s

abbrev apart : List Summary → Bool
apart z = not (lt (zg z) (zd z))

-- started with a and joined by each stroke of l in turn, it is ZS::new of them all
pub zone-grown : (a : Summary) (l : List Summary) → zone_from (grown a l) (a ∷ l) ≡ zone_of (a ∷ l)
unfolding grown started joined_of joined_if joined_early zone_from zz_of valid_of first_meet meets_if zone_of zone_with last_from is_valid zg zd zz gg dd least greatest highs lows Lists.fold_left every
zone-grown a [] = ap (answered (a ∷ []) a a) (one_meets (apart (a ∷ [])) (meets (a ∷ []) a))
zone-grown a (b ∷ []) = ap (answered (a ∷ b ∷ []) a b) (two-meet (apart (a ∷ b ∷ [])) (meets (a ∷ b ∷ []) a) (meets (a ∷ b ∷ []) b))
zone-grown a (b ∷ c ∷ l) =
    let z = a ∷ b ∷ c ∷ l in
    ap (λ (w : GrowingZone). zone_from w z) (later_fold a b c (zg z) (zd z) c (gg (a ∷ b ∷ c ∷ [])) (dd (a ∷ b ∷ c ∷ [])) true l)
    ∙ ap (answered z a (last_from c l)) (three-meet (apart z) (meets z a) (meets z b) (meets z c) (every (meets z) l))

-- ---- opening a new zone

outside-is : (d : Direction) (w : GrowingZone) (z : List Summary) (s : Summary) → w.zg ≡ zg z → w.zd ≡ zd z → outside_of d w s ≡ outside d z s
unfolding outside_of outside
outside-is Up w z s p q = ap (lt s.high) q
outside-is Down w z s p q = ap (λ (x : Float). lt x s.low) p

pub opens-grown : (a : Summary) (l : List Summary) (s : Summary) → opens_of (grown a l) s ≡ opens (a ∷ l) s
unfolding opens_of opens zone_from zone_of zone_with
opens-grown a l s = outside-is s.direction (grown a l) (a ∷ l) s (ap (λ (z : Zone). z.zg) (zone-grown a l)) (ap (λ (z : Zone). z.zd) (zone-grown a l))

-- ---- one stroke more

fold_snoc : (w : GrowingZone) (l : List Summary) (s : Summary) → joined_of (foldl joined_of w l) s ≡ foldl joined_of w (l ++ s ∷ [])
fold_snoc w [] s = refl
fold_snoc w (b ∷ l) s = fold_snoc (joined_of w b) l s

pub joined-grown : (a : Summary) (l : List Summary) (s : Summary) → joined_of (grown a l) s ≡ grown a (l ++ s ∷ [])
unfolding grown
joined-grown a l s = fold_snoc (started a) l s
