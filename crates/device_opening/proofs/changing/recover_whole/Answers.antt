use Rattle.std.proofs.Common.{◌∙◌, subst}
use Rattle.disk_model.specs.Disk.{OnlyAdds, last_image}
use Rattle.disk_model.specs.Moments.{EachSince}
use Rattle.disk_model.proofs.MomentsLemmas.{EachMoment-then}
use Rattle.image_model.specs.Geometry.{Geometry}
use Rattle.image_model.specs.Walk.{later}
use Rattle.image_model.proofs.NumberLemmas.{later_low}
use Rattle.direct_laws.specs.CallLaws.{ReadsTagsNow}
use Rattle.recalculation.specs.All.{IsOfTagsOnly}
use Rattle.recalculation.proofs.AllLemmas.{recovered_cells_law, recovered_changes_law}
use Rattle.tag_store.specs.Store.{given_tags}
use Rattle.device_opening.specs.Judged.{judged_format}
use Rattle.device_opening.proofs.EmptiedJournalLemmas.{emptied_journal}
use Rattle.device_opening.proofs.MadeLemmas.{opened_behind, tags_behind}
use Rattle.device_opening.proofs.MomentsLemmas.{now_told}
use Rattle.device_opening.proofs.changing.recover_whole.Goals as goal

pub returns-clause-emptied : goal.returns-clause-emptied
returns-clause-emptied g c start told last told_last =
    let f = judged_format (g.D.Disk.identity c.args.disk.now).sectors c.args.image in
    let done = c.in_ok-recovered.ensures in
    let image = c.in_ok-recovered.recovered in
    let mid = now_told c.recover_emptied.ensures.leaves.writes start told in
    let left = done.emptied.left start told mid.0 mid.1 in
    let both = left.unused.0 done.emptied.unused in
    let now = left.recovered.now in
    let empty = emptied_journal now mid.0 left.recovered.keeps.stands (g.met.D.Disk.reads_an_image c.recover_emptied.new.disk mid.0 mid.1) left.recovered.rests (left.recovered.next_is ∙ both.0) both.1 in
    let waits = c.args.recalculation.awaiting in
    record {
      disk = now;
      number = later 3 now.number;
      emptied =
          recovered_changes_law f (last_image start) image.at.next image.at.number image.maker waits (given_tags image.tags) (given_tags c.recalculate_all.new.tags) mid.0
          (g.D.Disk.moments c.recover_emptied.new.disk) (g.D.Disk.moments c.recalculate_all.new.disk) (later 3 now.number) mid.1
          (record {
            recovered = left.recovered;
            no_bitmap = c.requires.judged.format.no_bitmap;
            opening = c.requires.recalculation.awaiting;
            rule_is = done.made.maker ∙ c.requires.judged.maker;
          })
          (later_low 3 now.number) empty c.in_ok-recalculate_all.ensures.taken.journal
          (subst (λ (x : Geometry). ReadsTagsNow x (given_tags c.recalculate_all.new.tags) (g.D.Disk.moments c.recalculate_all.new.disk)) c.requires.recalculation.awaiting.geometry c.in_ok-recalculate_all.ensures.back)
          last told_last;
    }

pub returns-clause-leaves : goal.returns-clause-leaves
returns-clause-leaves g c =
    let f = judged_format (g.D.Disk.identity c.args.disk.now).sectors c.args.image in
    let done = c.in_ok-recovered.ensures in
    let image = c.in_ok-recovered.recovered in
    let waits = c.args.recalculation.awaiting in
    let second = subst (λ (x : Geometry). EachSince (OnlyAdds (IsOfTagsOnly x)) (g.D.Disk.moments c.recover_emptied.new.disk) (g.D.Disk.moments c.recalculate_all.new.disk)) c.requires.recalculation.awaiting.geometry c.recalculate_all.ensures.moments in
    record {
      cells = λ start told opens.
          let mid = now_told c.recover_emptied.ensures.leaves.writes start told in
          let left = done.emptied.left start told mid.0 mid.1 in
          EachMoment-then (c.recover_emptied.ensures.leaves.cells start told opens)
          (recovered_cells_law f (last_image start) image.at.next image.at.number image.maker waits (given_tags image.tags) mid.0
          (g.D.Disk.moments c.recover_emptied.new.disk) (g.D.Disk.moments c.recalculate_all.new.disk) mid.1
          (record {
            recovered = left.recovered;
            no_bitmap = c.requires.judged.format.no_bitmap;
            opening = c.requires.recalculation.awaiting;
            rule_is = done.made.maker ∙ c.requires.judged.maker;
          }) c.recalculate_all.ensures.through.journal);
      writes = tags_behind f.geometry c.recover_emptied.ensures.leaves.writes (λ start middle told told_m. (done.emptied.left start told middle told_m).pending) second;
    }

pub returns-in_err-recalculate_all-clause-leaves : goal.returns-in_err-recalculate_all-clause-leaves
returns-in_err-recalculate_all-clause-leaves g c =
    let f = judged_format (g.D.Disk.identity c.args.disk.now).sectors c.args.image in
    let done = c.in_ok-recovered.ensures in
    let image = c.in_ok-recovered.recovered in
    let waits = c.args.recalculation.awaiting in
    let second = subst (λ (x : Geometry). EachSince (OnlyAdds (IsOfTagsOnly x)) (g.D.Disk.moments c.recover_emptied.new.disk) (g.D.Disk.moments c.recalculate_all.new.disk)) c.requires.recalculation.awaiting.geometry c.recalculate_all.ensures.moments in
    record {
      cells = λ start told opens.
          let mid = now_told c.recover_emptied.ensures.leaves.writes start told in
          let left = done.emptied.left start told mid.0 mid.1 in
          EachMoment-then (c.recover_emptied.ensures.leaves.cells start told opens)
          (recovered_cells_law f (last_image start) image.at.next image.at.number image.maker waits (given_tags image.tags) mid.0
          (g.D.Disk.moments c.recover_emptied.new.disk) (g.D.Disk.moments c.recalculate_all.new.disk) mid.1
          (record {
            recovered = left.recovered;
            no_bitmap = c.requires.judged.format.no_bitmap;
            opening = c.requires.recalculation.awaiting;
            rule_is = done.made.maker ∙ c.requires.judged.maker;
          }) c.recalculate_all.ensures.through.journal);
      writes = tags_behind f.geometry c.recover_emptied.ensures.leaves.writes (λ start middle told told_m. (done.emptied.left start told middle told_m).pending) second;
    }

pub returns-clause-written : goal.returns-clause-written
returns-clause-written g c =
    let f = judged_format (g.D.Disk.identity c.args.disk.now).sectors c.args.image in
    let second = subst (λ (x : Geometry). EachSince (OnlyAdds (IsOfTagsOnly x)) (g.D.Disk.moments c.recover_emptied.new.disk) (g.D.Disk.moments c.recalculate_all.new.disk)) c.requires.recalculation.awaiting.geometry c.recalculate_all.ensures.moments in
    opened_behind f.geometry c.recover_emptied.ensures.leaves.writes (λ start middle told told_m. (c.in_ok-recovered.ensures.emptied.left start told middle told_m).pending) second
