use Rattle.sound.proofs.SoundStrokes.{cut-count, cut_lengths}
use Rattle.sound.proofs.NewestLaws.{newest-is}
use Rattle.sound.proofs.newest.newest_is_last.Goals as goal

pub slice_bounds-newest_named-end : goal.slice_bounds-newest_named-end
slice_bounds-newest_named-end c = cut-count c.args.rt.now c.args.stand.raw c.requires.times

pub slice_bounds-newest_named-end-2 : goal.slice_bounds-newest_named-end-2
slice_bounds-newest_named-end-2 c = cut-count c.args.uc.now c.args.stand.unfinished c.requires.counts

pub slice_bounds-newest_named-end-3 : goal.slice_bounds-newest_named-end-3
slice_bounds-newest_named-end-3 c = cut-count c.args.ue.now c.args.stand.unfinished c.requires.elements

pub newest_named-requires : goal.newest_named-requires
newest_named-requires c =
    cut_lengths c.args.uc.now c.args.ue.now c.args.stand.unfinished c.requires.counts c.requires.elements

pub returns : goal.returns
returns c =
    let a = c.args in
    newest-is a.stand a.rt.now a.uc.now a.ue.now _ c.newest_named.ensures
