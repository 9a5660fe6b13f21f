-- Rounding to d places, d from 0 to 6: the proof of `SevenPlaces` of specs/RoundingPlaces.antt. Assumes nothing.
use Rattle.std.proofs.Common.{◌≡◌, ℕ, ◌+◌, ◌*◌, ◌^◌, ◌<◌, ◌≤◌, Bool, true, false, T, eqb, ℤ, sym, refl, ap, ◌∙◌, subst, inl, inr, zero-lt-suc, mul-one, arith, eqb→eq}
use native.Mathlib.Nat.{one-le-pow}
use lib.Ieee.{Float, nan, inf, fin, binary64, up, down, round, div, unlike, fits}
use lib.Ieee.Fits.{down_pos, mul-fits, eq→eqb}
use lib.Ieee.Exact.{HasValue}
use lib.Ieee.Nearest.{div_same}
use Rattle.arith.specs.declared.rounding.Part.TheVariants.{Whole}
use Rattle.arith.specs.Rounding.{half_up, round_away, ten_to, round_to}
use Rattle.arith.specs.RoundingParts.{IsNotFinite, IsWhole, FallsTo}
use Rattle.arith.specs.RoundingPlaces.{scaled, SevenPlaces}
use Rattle.arith.proofs.FloatOrder.{decide, contra}
use Rattle.arith.proofs.FloatValues.{div-at}
use Rattle.arith.proofs.RoundingLaws.{of_value, ten-exact}
use Rattle.arith.proofs.RoundingParts.{half-whole, goes_to, whole-left, left_over, four_parts}

-- ---- whole rounding by value

-- the nearest whole number of a number does not depend on the fraction that it is written as
same_half : (a c b d : ℕ) → 0 < c → 0 < d → b * c ≡ a * d → half_up b d ≡ half_up a c
same_half a c b d C D e = div_same (2 * b + d) (2 * d) (2 * a + c) (2 * c) (omega arith) (omega arith) (omega arith)

-- a finite float goes to that whole number, exactly, also from 2 ^ 53 up
rounded-value : (s : Bool) (m : ℕ) (e : ℤ) → T (fits binary64 (fin s m e)) → IsWhole (round_away (fin s m e)) s (half_up (m * up e) (down e))
rounded-value s m e t = elim (decide (eqb (left_over m e) 0)) [
  | inl h ↦ stays (whole-left s m e (eqb→eq (left_over m e) 0 h))
  | inr z ↦ goes_to s m e t (λ (w : FallsTo (fin s m e) Whole). contra (eqb (left_over m e) 0) (eq→eqb (of_value (fin s m e) w.0 w.1 w.2)) z) (half_up (m * up e) (down e)) refl
]
  where
    stays : FallsTo (fin s m e) Whole → IsWhole (round_away (fin s m e)) s (half_up (m * up e) (down e))
    stays w =
        subst (λ (x : Float). IsWhole x s (half_up (m * up e) (down e))) (sym (four_parts.whole (fin s m e) t w.0 w.1 w.2))
        (refl, w.2.1 ∙ ap (λ (n : ℕ). n * down e) (sym (half-whole (m * up e) (down e) w.1 (down_pos e) w.2.1)))

by_value : (x : Float) → T (fits binary64 x) → (s : Bool) (a c : ℕ) → 0 < c → HasValue x s a c → IsWhole (round_away x) s (half_up a c)
by_value nan t s a c C p = absurd p
by_value (inf u) t s a c C p = absurd p
by_value (fin u m e) t s a c C p =
    subst (λ (n : ℕ). IsWhole (round_away (fin u m e)) s n) (same_half a c (m * up e) (down e) C (down_pos e) p.1)
    (subst (λ (v : Bool). IsWhole (round_away (fin u m e)) v (half_up (m * up e) (down e))) p.0 (rounded-value u m e t))

-- ---- the quotient by 10 ^ d

like_plus : (s : Bool) → unlike s false ≡ s
like_plus true = refl
like_plus false = refl

nearest : (d : ℕ) → d ≤ 6 → (v : Float) (s : Bool) (a c : ℕ) → 0 < c → HasValue (scaled d v) s a c → round_to d v ≡ round binary64 s (half_up a c) (10 ^ d)
unfolding round_to
nearest d h v s a c C p =
    div-at binary64 (round_away (scaled d v)) (ten_to d) s false (half_up a c) 1 (10 ^ d) 1 (zero-lt-suc 0) (zero-lt-suc 0) (one-le-pow d 10 (zero-lt-suc 9))
    (by_value (scaled d v) (mul-fits binary64 v (ten_to d)) s a c C p) (ten-exact d h)
    ∙ ap (λ (t : Bool). round binary64 t (half_up a c * 1) (10 ^ d * 1)) (like_plus s)
    ∙ ap (λ (n : ℕ). round binary64 s n (10 ^ d * 1)) (mul-one (half_up a c))
    ∙ ap (λ (n : ℕ). round binary64 s (half_up a c) n) (mul-one (10 ^ d))

-- what is no finite number stays
stays_by : (x y : Float) (b c : ℕ) → HasValue y false b c → IsNotFinite x → div binary64 (round_away x) y ≡ x
unfolding round_away div
stays_by nan y b c p f = refl
stays_by (fin s m e) y b c p f = absurd f
stays_by (inf s) nan b c p f = absurd p
stays_by (inf s) (inf t) b c p f = absurd p
stays_by (inf s) (fin t n g) b c p f = ap inf (ap (λ (z : Bool). unlike s z) p.0 ∙ like_plus s)

not_finite : (d : ℕ) → d ≤ 6 → (v : Float) → IsNotFinite (scaled d v) → round_to d v ≡ scaled d v
unfolding round_to
not_finite d h v f = stays_by (scaled d v) (ten_to d) (10 ^ d) 1 (ten-exact d h) f

pub seven-places : SevenPlaces
seven-places = record { exact = ten-exact; nearest = nearest; not_finite = not_finite }
