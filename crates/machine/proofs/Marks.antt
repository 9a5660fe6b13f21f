-- The two marks.
-- Assumes nothing.
use mathlib.Core.Path.{◌≡◌, refl}
use mathlib.Core.Bool.{Bool, true, false, not, true≢false}
use lib.Dec.{T}
use Rattle.machine.specs.declared.Mark.{Mark}
use Rattle.machine.specs.declared.Mark.TheVariants.{D, G}
use Rattle.machine.specs.Fractals.{same_mark}

-- two changes of mark lead back
pub back : (p q r : Mark) → T (not (same_mark p q)) → T (not (same_mark q r)) → r ≡ p
unfolding same_mark
back D D r h k = absurd h
back D G D h k = refl
back D G G h k = absurd k
back G D D h k = absurd k
back G D G h k = refl
back G G r h k = absurd h

pub same_mark_refl : (p : Mark) → same_mark p p ≡ true
unfolding same_mark
same_mark_refl D = refl
same_mark_refl G = refl

pub same-eq : (p q : Mark) → T (same_mark p q) → q ≡ p
unfolding same_mark
same-eq D D h = refl
same-eq D G h = absurd h
same-eq G D h = absurd h
same-eq G G h = refl

pub not_same : (p q : Mark) → T (not (same_mark p q)) → q ≡ p → ⊥
unfolding same_mark
not_same D D h e = h
not_same D G h e = let z : ◌≡◌ {A = Bool} true false = cc in true≢false z
not_same G D h e = let z : ◌≡◌ {A = Bool} true false = cc in true≢false z
not_same G G h e = h

-- two marks that are not s are one
pub both_other : (s a b : Mark) → T (not (same_mark s a)) → T (not (same_mark s b)) → b ≡ a
unfolding same_mark
both_other D D b h k = absurd h
both_other D G D h k = absurd k
both_other D G G h k = refl
both_other G D D h k = refl
both_other G D G h k = absurd k
both_other G G b h k = absurd h
