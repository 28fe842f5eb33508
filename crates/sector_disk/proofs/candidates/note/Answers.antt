use Rattle.std.proofs.Common.{refl}
use Rattle.sector_disk.proofs.CandidateLemmas.{noted_write}
use Rattle.sector_disk.proofs.candidates.note.Goals.{then-found-index, else-found-index}
use Rattle.sector_disk.proofs.candidates.note.Goals as goal

pub returns-after-found-index-clause-noted : goal.returns-after-found-index-clause-noted
returns-after-found-index-clause-noted c content noted =
    let found = c.args.found.now in
    elim c.if-found-index.branch [
      | then-found-index w ↦ rw (c.in-Write.is, w.found-is) (noted_write content c.args.at c.in-Write.place c.args.index found.last c.in-Write.bytes found.count found.chosen c.in-Write.bytes noted c.if-place-at.true
          (λ e. refl) (λ other. absurd (other w.if-found-index.true)))
      | else-found-index w ↦ rw (c.in-Write.is, w.found-is) (noted_write content c.args.at c.in-Write.place c.args.index found.last c.in-Write.bytes found.count found.chosen found.chosen noted c.if-place-at.true
          (λ e. absurd (w.if-found-index.false e)) (λ other. refl))
    ]
