-- Whole rounding in four parts, of document 02's request five and in its order: NaN and infinities, whole operands, the nearest whole number, ties.
-- A part is told by what the operand is. A finite float has a sign and a size, which is the fraction m * up e / down e, and what counts is how that fraction lies among the whole
-- numbers; how the code finds out does not come up. The proof is `four_parts` of proofs/RoundingParts. Definitions only.
use Rattle.std.specs.Prelude.{◌≡◌, ℕ, ◌+◌, ◌*◌, ◌<◌, Bool, not, T, ◌≢◌, Float}
use Rattle.std.specs.Float.{nan, inf, fin, binary64}
use Rattle.std.specs.Float.Ieee.{up, down, fits}
use Rattle.std.specs.Float.Ieee.Exact.{HasValue}
use Rattle.std.specs.Float.Ieee.Scale.{finite}
use Rattle.arith.specs.declared.rounding.Part.{Part}
use Rattle.arith.specs.declared.rounding.Part.TheVariants.{NotFinite, Whole, Nearest, Tie}
use Rattle.arith.specs.Rounding.{round_away}

-- ---- what the operand is

-- 1. a NaN or an infinity
abbrev pub IsNotFinite : Float → Type 0
IsNotFinite x = T (not (finite x))

-- 2. of the sign s, and in size the whole number n: 0 is one, of either sign, and so is every finite float from 2 ^ 52 up
abbrev pub IsWhole : Float → Bool → ℕ → Type 0
IsWhole x s n = HasValue x s n 1

-- a / c is not the whole number n, and less than one half away from it: n - 1/2 < a / c < n + 1/2
abbrev pub Near : ℕ → ℕ → ℕ → Type 0
Near a c n = (a ≢ n * c) × (2 * (n * c) < 2 * a + c) × (2 * a < 2 * (n * c) + c)

-- 3. of the sign s, and in size near the whole number n
abbrev pub IsNear : Float → Bool → ℕ → Type 0
IsNear nan s n = ⊥
IsNear (inf t) s n = ⊥
IsNear (fin t m e) s n = (t ≡ s) × Near (m * up e) (down e) n

-- 4. of the sign s, and in size n + 1/2, halfway between its neighbours n and n + 1
abbrev pub IsHalfway : Float → Bool → ℕ → Type 0
IsHalfway x s n = HasValue x s (2 * n + 1) 2

-- x falls to the part p
abbrev pub FallsTo : Float → Part → Type 0
FallsTo x NotFinite = IsNotFinite x
FallsTo x Whole = (s : Bool) × (n : ℕ) × IsWhole x s n
FallsTo x Nearest = (s : Bool) × (n : ℕ) × IsNear x s n
FallsTo x Tie = (s : Bool) × (n : ℕ) × IsHalfway x s n

-- ---- what rounding makes of it

-- 3. r is the whole number that x is near, with the sign of x, also where it is 0
abbrev pub ToNearest : Float → Float → Type 0
ToNearest x r = (s : Bool) (n : ℕ) → IsNear x s n → IsWhole r s n

-- 4. r is, of the two neighbours of x, the one of larger size, with the sign of x
abbrev pub TiesToAway : Float → Float → Type 0
TiesToAway x r = (s : Bool) (n : ℕ) → IsHalfway x s n → IsWhole r s (n + 1)

-- ---- the claim

pub record FourParts : Type 0 where
  -- every float falls to a part, and to no other
  pub cover : (x : Float) → (p : Part) × FallsTo x p
  pub only_one : (x : Float) (p q : Part) → FallsTo x p → FallsTo x q → p ≡ q
  -- 1. NaN and infinities stay. (NaN is one value here: its sign and payload are no part of any claim.)
  pub not_finite : (x : Float) → IsNotFinite x → round_away x ≡ x
  -- 2. whole operands stay
  pub whole : (x : Float) → T (fits binary64 x) → (s : Bool) (n : ℕ) → IsWhole x s n → round_away x ≡ x
  -- 3. the nearest whole number; no other is nearer than one half
  pub nearest : (x : Float) → T (fits binary64 x) → ToNearest x (round_away x)
  pub one-nearest : (x : Float) (s t : Bool) (n k : ℕ) → IsNear x s n → IsNear x t k → (s ≡ t) × (n ≡ k)
  -- 4. of the two neighbours the one of larger size
  pub tie : (x : Float) → T (fits binary64 x) → TiesToAway x (round_away x)
