use Rattle.std.proofs.Common.{◌≡◌, ◌*◌, ap, ◌∙◌}
use Rattle.image_model.specs.Geometry.{Shape}
use Rattle.image_model.specs.Section.{Entry}
use Rattle.journal_model.specs.Ring.{JournalRing, with_put}
use Rattle.journal_ring.specs.Ring.{with_entry}
use Rattle.journal_ring.specs.Places.{entry_of}
use Rattle.journal_ring.proofs.RingLemmas.{put-steps}
use Rattle.journal_ring.proofs.ring.Ring.put.Goals as goal

pub returns-clause-put : goal.returns-clause-put
returns-clause-put c =
    let put : Entry = record { sector = c.args.block * c.shape.result.spb; bytes = c.args.bytes.now; tag = c.args.tag.now } in
    let spb : c.shape.result.spb ≡ c.args.self.now.geometry.shape.spb =
    ap (λ (s : Shape). s.spb) c.shape.ensures.shape ∙ ap (λ (ring : JournalRing). ring.geometry.shape.spb) c.self.view_is in
    let same : put ≡ entry_of c.args.self.now.geometry c.args.block c.args.bytes.now c.args.tag.now =
    λ i. record { sector = c.args.block * spb i; bytes = c.args.bytes.now; tag = c.args.tag.now } in
    c.put_last.ensures.put ∙ ap (with_entry put) c.in_ok-make_open.ensures.open ∙ put-steps put c.args.self.now
    ∙ ap (λ (entry : Entry). with_put entry c.args.self.now) same
