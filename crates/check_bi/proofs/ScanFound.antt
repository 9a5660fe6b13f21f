-- What check_bi finds lies in the view. Assumes nothing.
use Rattle.std.proofs.Common.{ℕ, ◌+◌, ◌<◌, ◌≤◌, Bool, true, false, not, ◌&&◌, leb, Option, Some, None, IfSome, arith}
use Rattle.check_bi.specs.declared.scan.Best.{Best}
use Rattle.check_bi.specs.declared.scan.Scan.{Scan}
use Rattle.check_bi.specs.Code.Scan.{BestFits, EndFits, ScanFits, holds_of, bars_to, found_if, found_by, found_of, found_on, FoundFits}

-- a stroke can be made of what the scan found
pub end_fits : (o : Option Best) (n start i : ℕ) → i < 4294967296 → IfSome o (BestFits n start i) → IfSome o (EndFits start)
end_fits None n start i l h = tt
end_fits (Some b) n start i l h = record { early = h.early; fits = omega (arith, h.near) }

fits_if : (t : Bool) (s : Scan) (b : Best) (total : ℕ) → s.start.place ≤ b.end.place → b.end.place + 2 < total → FoundFits (found_if t s b) total
unfolding found_if bars_to
fits_if true s b total h k = record { rest_in = omega arith; bars_in = omega arith; enough = omega arith }
fits_if false s b total h k = tt

fits_by : (minimum total i : ℕ) (s : Scan) (o : Option Best) → IfSome o (BestFits s.count s.start.place i) → IfSome o (λ b. b.end.place + 2 < total) → FoundFits (found_by minimum s o) total
unfolding found_by
fits_by minimum total i s None h k = tt
fits_by minimum total i s (Some b) h k = fits_if (leb minimum (bars_to s b.end) && not (holds_of s.start b.end)) s b total h.early k

pub found_fits : (minimum total : ℕ) (o : Option Scan) → ScanFits o total → FoundFits (found_on minimum o) total
unfolding found_on found_of
found_fits minimum total None h = tt
found_fits minimum total (Some s) h = fits_by minimum total total s s.best h.small.best h.best
