use Rattle.std.proofs.Common.{sym, ◌∙◌, subst, List}
use Rattle.disk_model.specs.Disk.{Content, OnlyAdds}
use Rattle.disk_model.specs.Moments.{EachSince}
use Rattle.tag_store.specs.Store.{IsOutForTag, given_tags}
use Rattle.direct_laws.specs.CallLaws.{KeepsNow, StandsThrough}
use Rattle.direct_laws.proofs.CallLemmas.{still_law}
use Rattle.direct_laws.proofs.ServeLemmas.{tags_kept_law}
use Rattle.direct_laws.specs.ServeLaws.{WritesBack}
use Rattle.direct_mode.proofs.StoreCalls.{back_kept, gets_tag, reads_whole}
use Rattle.direct_mode.proofs.reading.read_block.Goals as goal

pub returns-in_err-read_block-clause-kept : goal.returns-in_err-read_block-clause-kept
returns-in_err-read_block-clause-kept g c d awaiting has = record {
  through = still_law d _ _ c.read_block.ensures.kept (λ x told. (has.now x told).stands);
  cells = record { geometry = has.geometry; now = subst (KeepsNow d awaiting (given_tags c.args.tags.now)) (sym c.read_block.ensures.kept) has.now };
}

pub returns-clause-kept : goal.returns-clause-kept
returns-clause-kept g c d awaiting has =
    let store = c.args.tags.now in
    let disk = c.read_block.new.disk in
    let last = c.get.new.disk in
    let kept = tags_kept_law d store.geometry awaiting (given_tags store) (given_tags c.get.new.self) _ _ has.geometry (subst (KeepsNow d awaiting (given_tags store)) (sym c.read_block.ensures.kept) has.now)
    (gets_tag store c.get.new.self (g.D.Disk.identity disk) (g.D.Disk.identity last) c.read_block.ensures.store c.get.ensures.store
    (reads_whole (g.D.Disk.identity disk) (g.D.Disk.moments disk) (g.met.D.Disk.reads_an_image disk) (g.met.D.Disk.whole_sectors disk))
    c.args.block c.get.ensures.keeps c.get.ensures.moments) in
    record {
      through = subst (λ (m : List Content). StandsThrough d m (g.D.Disk.moments last)) c.read_block.ensures.kept kept.0;
      cells = record { geometry = has.geometry ∙ sym c.get.ensures.keeps.geometry; now = kept.1 };
    }

pub returns-clause-moments : goal.returns-clause-moments
returns-clause-moments g c =
    subst (λ (m : List Content). EachSince (OnlyAdds (IsOutForTag c.args.block c.args.tags.now)) m (g.D.Disk.moments c.get.new.disk)) c.read_block.ensures.kept c.get.ensures.moments

pub returns-in_err-read_block-clause-back : goal.returns-in_err-read_block-clause-back
returns-in_err-read_block-clause-back g c = back_kept c.args.tags.now.geometry (given_tags c.args.tags.now) _ _ c.read_block.ensures.kept

pub returns-clause-back : goal.returns-clause-back
returns-clause-back g c =
    let store = c.args.tags.now in
    let disk = c.read_block.new.disk in
    let last = c.get.new.disk in
    subst (λ (m : List Content). WritesBack store.geometry (given_tags store) (given_tags c.get.new.self) m (g.D.Disk.moments last)) c.read_block.ensures.kept
    (gets_tag store c.get.new.self (g.D.Disk.identity disk) (g.D.Disk.identity last) c.read_block.ensures.store c.get.ensures.store
    (reads_whole (g.D.Disk.identity disk) (g.D.Disk.moments disk) (g.met.D.Disk.reads_an_image disk) (g.met.D.Disk.whole_sectors disk))
    c.args.block c.get.ensures.keeps c.get.ensures.moments)
