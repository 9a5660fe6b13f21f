use Prim.Native.Nat.{ℕ, ◌+◌, ◌≤◌}
use native.Mathlib.Omega.{arith}
use mathlib.Core.Path.{◌≡◌, refl, ap, sym, ◌∙◌, subst}
use mathlib.Core.List.{◌∷◌, ◌++◌}
use lib.ListN.{length, take, drop, length-set}
use Rattle.zones.specs.declared.Summary.{Summary}
use Rattle.zones.specs.declared.lent_zone.Building.{Building}
use Rattle.zones.specs.Code.ZoneSteps.{no_zone, next_of, states_of}
use Rattle.zones.proofs.ZoneStates.{next-few, next_some, first_size, states_turn, states_end, states_none}
use Rattle.zones.proofs.lent_zone.zones_of_run.Goals as goal

begun : (b : Building) (s : Summary) → b ≡ next_of no_zone s → (1 ≤ b.size) × (b.size + b.done ≤ 0 + 1)
begun b s e = let k = first_size s in let z = k.0 in let d = k.1 in rw e (omega arith, omega arith)

grown : (b b' : Building) (s : Summary) (i : ℕ) → b' ≡ next_of b s → b.size + b.done ≤ i + 1 → (1 ≤ b'.size) × (b'.size + b'.done ≤ i + 1 + 1)
grown b b' s i e h = let k = next-few b s in rw e (next_some b s, omega arith)

pub returns-in_default : goal.returns-in_default
returns-in_default c = states_none _ _ c.in_default.ensures.cases

pub loop-i-init : goal.loop-i-init
unfolding states_of
loop-i-init c =
    let e = c.start-b.ensures in
    let n = begun _ _ e in
    (refl, n.0, n.1, ap (λ (x : Building). x ∷ states_of x c.in-Some.rest.now) e ∙ ap (states_of no_zone) (sym c.in-Some.ensures.cases.0))

pub loop-i-preserved : goal.loop-i-preserved
loop-i-preserved c =
    let l = c.loop-i in
    let v = l.invariant in
    let t = c.loop-i-test.true in
    let p = c.requires in
    let q = c.in-Some.ensures.cases.1 in
    let e = c.next-b.ensures in
    let n = grown l.b _ _ l.i e v.2 in
    (length-set l.zones _ _ ∙ v.0, n.0, n.1, states_turn _ l.i _ l.zones l.b _ _ (omega arith) (omega arith) e v.3)

pub returns : goal.returns
returns c =
    let l = c.loop-i in
    let t = c.loop-i-test.false in
    let h = l.auto in
    let rest = c.in-Some.rest.now in
    let all = states_of no_zone c.args.run.now in
    let q = c.in-Some.ensures.cases.1 in
    let n : l.i ≡ length rest = omega arith in
    let k : l.i + 1 ≡ length c.args.run.now = omega arith in
    subst (λ (x : ℕ). take x l.zones ≡ all) k (states_end rest l.zones l.b (l.i + 1) all (subst (λ (x : ℕ). take (l.i + 1) l.zones ++ states_of l.b (drop x rest) ≡ all) n l.invariant.3))
