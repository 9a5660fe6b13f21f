use Rattle.writing.proofs.StepLaws.{makeable_found, made_found, made_none}
use Rattle.stores.specs.Columns.{merged_in, merged_of}
use Rattle.strokes.specs.Columns.{fractals_of}
use Rattle.std.specs.Prelude.{is_some}
use mathlib.Core.Path.{ap}
use native.Mathlib.Omega.{arith}
use Rattle.writing.proofs.stroke_moves.make_if.Goals as goal

pub overflow_add-first : goal.overflow_add-first
overflow_add-first c =
    let a = c.args in
    let p = makeable_found a.plan.found c.in-Some.f a.plan.cut a.stand (merged_in a.unfinished) c.in-Some.is c.requires.makes in
    let x = p.inside in let y = p.unfinished in let z = p.merged.raw.times in omega arith

pub make_stroke-requires : goal.make_stroke-requires
make_stroke-requires c =
    let a = c.args in
    record { fact_1 = makeable_found a.plan.found c.in-Some.f a.plan.cut a.stand (merged_in a.unfinished) c.in-Some.is c.requires.makes; fact_2 = c.requires.kept }

pub returns-in-Some-clause-made : goal.returns-in-Some-clause-made
returns-in-Some-clause-made c = let a = c.args in made_found a.plan.found c.in-Some.f a.plan.cut a.stand (merged_in a.unfinished) (merged_of a.strokes.now) (fractals_of a.fractals.now) _ _ _ c.in-Some.is c.make_stroke.ensures.made

pub returns-clause-made : goal.returns-clause-made
returns-clause-made c = let a = c.args in made_none (is_some a.plan.found) a.stand (merged_in a.unfinished) (merged_of a.strokes.now) (fractals_of a.fractals.now) _ _ (ap is_some c.in_default.is) c.requires.kept
