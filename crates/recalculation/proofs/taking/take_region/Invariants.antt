use Rattle.std.proofs.Common.{◌≡◌, ◌≤◌}
use Rattle.tag_store.specs.Store.{given_tags}
use Rattle.bitmap_laws.specs.RecalcLaws.{TakesBelow}
use Rattle.recalculation.specs.Places.{awaits_from}
use Rattle.recalculation.specs.Rest.{StaysButTags}
use Rattle.recalculation.specs.Rule.{tagger_by}
use Rattle.recalculation.specs.Run.{ShowsDisk}
use Rattle.recalculation.proofs.taking.take_region.Given as goal

-- The blocks of the region before this one have their tags.
abbrev pub invariant-loop-block : goal.invariant-loop-block
invariant-loop-block g l =
    let geometry = l.places.geometry in
    record {
      above : l.begin ≤ l.block;
      taken : TakesBelow (tagger_by l.maker geometry) geometry (awaits_from l.places.first) l.region l.block (given_tags l.fn.tags) (given_tags l.tags) (g.D.Disk.moments l.fn.disk) (g.D.Disk.moments l.disk);
      run : ShowsDisk geometry l.run (g.D.Disk.moments l.disk);
      stays : StaysButTags l.fn.tags l.tags (g.D.Disk.identity l.fn.disk) (g.D.Disk.identity l.disk) (g.D.Disk.moments l.fn.disk) (g.D.Disk.moments l.disk);
      faults : g.D.Counted.faults l.disk ≡ g.D.Counted.faults l.fn.disk;
    }
