use Rattle.bars.specs.Lists.{copied}
use Rattle.bars.specs.Gaps.{gap_number, gap_values, gap_covered, gaps_of}
use lib.ListN.{take}
use mathlib.Core.List.{map}
use mathlib.Core.Path.{◌≡◌}
use Rattle.bars.proofs.gaps.list_gaps.Given as goal

abbrev pub invariant-loop-i : goal.invariant-loop-i
invariant-loop-i l =
    record {
      kinds : l.kinds ≡ copied l.initial.kinds 0 (map gap_number (gaps_of l.places (take l.n l.prices))) 0 l.i;
      values : l.values ≡ copied l.initial.values 0 (map gap_values (gaps_of l.places (take l.n l.prices))) 0 l.i;
      covered : l.covered ≡ copied l.initial.covered 0 (map gap_covered (gaps_of l.places (take l.n l.prices))) 0 l.i;
    }
