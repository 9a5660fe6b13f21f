use Rattle.zones.specs.Columns.{zones_of, strokes_of}
use Rattle.zones.proofs.ListedZoneLaws.{few-zones, zones-counted, room_built, columns-written, zones_full, zones-room, strokes_full, zones_put}
use Rattle.zones.proofs.zone_writing.write_run.Goals as goal
use Rattle.zones.proofs.zone_writing.write_run.Goals.{then-not-fits-via-then-not-fits, then-not-fits-via-else-not-fits+then-not-fits-2}

pub zone_count-requires : goal.zone_count-requires
zone_count-requires c = few-zones c.args.run.now _ c.requires c.zones_of_run-built.ensures

pub returns-then-not-fits-clause-listed : goal.returns-then-not-fits-clause-listed
returns-then-not-fits-clause-listed c =
    let a = c.args in
    let run = a.run.now in
    let n = zones-counted run _ c.requires c.zones_of_run-built.ensures _ c.zone_count.ensures in
    elim c.then-not-fits.branch [
      | then-not-fits-via-then-not-fits w ↦ zones_full run _ (zones_of a.zones.now) (strokes_of a.strokes.now) _ c.fits.result n c.fits.ensures w.if-not-fits.true
      | then-not-fits-via-else-not-fits+then-not-fits-2 w ↦ strokes_full run _ (zones_of a.zones.now) (strokes_of a.strokes.now) _ _ n c.fits.ensures w.fits-else-not-fits.ensures w.if-not-fits.false w.if-not-fits-2.true
    ]

pub write_zones-requires : goal.write_zones-requires
write_zones-requires c =
    let a = c.args in
    let run = a.run.now in
    let n = zones-counted run _ c.requires c.zones_of_run-built.ensures _ c.zone_count.ensures in
    room_built run _ c.requires c.zones_of_run-built.ensures (zones_of a.zones.now) (zones-room run _ (zones_of a.zones.now) (strokes_of a.strokes.now) _ c.fits.result n c.fits.ensures c.if-not-fits.false)

pub returns-clause-listed : goal.returns-clause-listed
returns-clause-listed c =
    let a = c.args in
    let run = a.run.now in
    let d = zones_of a.zones.now in
    let e = strokes_of a.strokes.now in
    let n = zones-counted run _ c.requires c.zones_of_run-built.ensures _ c.zone_count.ensures in
    let room = zones-room run _ d e _ c.fits.result n c.fits.ensures c.if-not-fits.false in
    zones_put run _ d e _ _ n c.fits.ensures c.fits-else-not-fits.ensures _ _ c.if-not-fits.false c.if-not-fits-2.false (columns-written run _ c.requires c.zones_of_run-built.ensures d _ room c.write_zones.ensures.written) c.write_strokes.ensures.written
