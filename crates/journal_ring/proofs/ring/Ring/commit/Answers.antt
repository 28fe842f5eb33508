use Rattle.std.proofs.Common.{◌≡◌, ◌≤◌, ℕ, length, sym, subst, ap, ◌∙◌}
use Rattle.std.proofs.lemmas.List.FromFn.{length-map-range_with_len}
use Rattle.disk_model.specs.Disk.{Content, IsOfRun, IsRun, OnlyAdds, newest_only, with_run}
use Rattle.disk_model.specs.Moments.{EachSince, IsChangedBy}
use Rattle.image_model.specs.Geometry.{initial, section_at}
use Rattle.journal_model.specs.Ring.{JournalRing, with_commit, IsNextBatch}
use Rattle.journal_ring.specs.Batch.{next_of, HasCommitted, HasWritten, WritesBatch}
use Rattle.journal_ring.specs.Ring.{entries_held, view_of}
use Rattle.journal_ring.specs.Runs.{batch_in, Sections}
use Rattle.journal_ring.proofs.BatchLemmas.{batch_told}
use Rattle.journal_ring.proofs.CommitLemmas.{batch-run, committed_of, cuts_of}
use Rattle.journal_ring.proofs.ring.Ring.commit.Goals as goal

pub write_batch-requires-clause-run : goal.write_batch-requires-clause-run
write_batch-requires-clause-run g c =
    let geometry = c.self.inside.pool.geometry in
    let pool = c.self.inside.pool.bytes in
    let m = c.self.inside.marks in
    let sectors : ℕ = (g.D.Disk.identity c.args.disk.now).sectors in
    let next = subst (λ (ring : JournalRing). IsNextBatch ring (batch_in c.self.inside.pool c.next-from.result c.batch-count.result)) (sym c.self.view_is) (batch_told c.self.inside.pool.geometry c.self.inside.pool.bytes c.self.inside.counts.items c.self.inside.marks c.args.self.now c.sections-total.result c.next-from.result c.batch-count.result c.self.invariant c.self.view_is c.sections-total.ensures c.next-from.ensures.next c.batch-count.ensures) in
    let enough = subst (λ (ring : JournalRing). initial ring.geometry ≤ sectors) (sym c.self.view_is) c.requires.disk.enough in
    let at : section_at geometry (next_of geometry.sections m) ≡ c.batch_at-at.result =
    ap (λ (ring : JournalRing). section_at ring.geometry ring.next) c.self.view_is ∙ sym c.batch_at-at.ensures in
    subst (λ (n : ℕ). IsRun n (length (batch_in c.self.inside.pool c.next-from.result c.batch-count.result)) sectors) at
    (batch-run geometry pool c.self.inside.counts.items m (batch_in c.self.inside.pool c.next-from.result c.batch-count.result) sectors c.self.invariant c.if-self-eq0.false next enough)

pub returns-in_err-write_batch-clause-cuts : goal.returns-in_err-write_batch-clause-cuts
returns-in_err-write_batch-clause-cuts g c =
    let ring : JournalRing = c.args.self.now in
    let writes : WritesBatch ring (g.D.Disk.moments c.args.disk.now) (g.D.Disk.moments c.write_batch.new.disk) =
    record {
      bytes = (batch_in c.self.inside.pool c.next-from.result c.batch-count.result);
      batch = (batch_told c.self.inside.pool.geometry c.self.inside.pool.bytes c.self.inside.counts.items c.self.inside.marks c.args.self.now c.sections-total.result c.next-from.result c.batch-count.result c.self.invariant c.self.view_is c.sections-total.ensures c.next-from.ensures.next c.batch-count.ensures);
      adds = subst (λ (n : ℕ). EachSince (OnlyAdds (IsOfRun n (batch_in c.self.inside.pool c.next-from.result c.batch-count.result))) (g.D.Disk.moments c.args.disk.now) (g.D.Disk.moments c.write_batch.new.disk))
          c.batch_at-at.ensures c.write_batch.ensures.moments;
    } in
    cuts_of ring writes

pub returns-clause-moved : goal.returns-clause-moved
returns-clause-moved g c = (
  λ other. cc,
  λ none.
      let m = c.self.inside.marks in
      let long = length-map-range_with_len (entries_held c.self.inside.pool.geometry c.self.inside.pool.bytes m.first) m.committed m.opened in
      let empty : length (view_of c.self.inside.pool.geometry c.self.inside.pool.bytes m).opened ≡ 0 =
      ap (λ (ring : JournalRing). length ring.opened) c.self.view_is ∙ ap length none in
      absurd (c.if-self-eq0.false (sym long ∙ empty)),
)

pub returns-clause-committed : goal.returns-clause-committed
returns-clause-committed g c did d sound is stands =
    let ring : JournalRing = c.args.self.now in
    let before = g.D.Disk.moments c.args.disk.now in
    let after = g.D.Disk.moments c.write_batch.new.disk in
    let has : HasWritten ring before after =
    record {
      bytes = (batch_in c.self.inside.pool c.next-from.result c.batch-count.result);
      batch = (batch_told c.self.inside.pool.geometry c.self.inside.pool.bytes c.self.inside.counts.items c.self.inside.marks c.args.self.now c.sections-total.result c.next-from.result c.batch-count.result c.self.invariant c.self.view_is c.sections-total.ensures c.next-from.ensures.next c.batch-count.ensures);
      written = subst (λ (n : ℕ). IsChangedBy (λ (x : Content). newest_only (with_run n (batch_in c.self.inside.pool c.next-from.result c.batch-count.result) x)) before after) c.batch_at-at.ensures c.in_ok-write_batch.ensures.written;
    } in
    let same = ap (λ (x : Sections). view_of x.geometry x.bytes c.self.inside.marks) c.write_batch.ensures.pool ∙ c.self.view_is in
    subst (λ (now : JournalRing). HasCommitted d ring now after) (sym (c.move_on.ensures ∙ ap with_commit same))
    (committed_of ring has (g.met.D.Disk.reads_an_image c.args.disk.now) d sound is stands)

pub returns-clause-cuts : goal.returns-clause-cuts
returns-clause-cuts g c =
    let ring : JournalRing = c.args.self.now in
    let writes : WritesBatch ring (g.D.Disk.moments c.args.disk.now) (g.D.Disk.moments c.write_batch.new.disk) =
    record {
      bytes = (batch_in c.self.inside.pool c.next-from.result c.batch-count.result);
      batch = (batch_told c.self.inside.pool.geometry c.self.inside.pool.bytes c.self.inside.counts.items c.self.inside.marks c.args.self.now c.sections-total.result c.next-from.result c.batch-count.result c.self.invariant c.self.view_is c.sections-total.ensures c.next-from.ensures.next c.batch-count.ensures);
      adds = subst (λ (n : ℕ). EachSince (OnlyAdds (IsOfRun n (batch_in c.self.inside.pool c.next-from.result c.batch-count.result))) (g.D.Disk.moments c.args.disk.now) (g.D.Disk.moments c.write_batch.new.disk))
          c.batch_at-at.ensures c.write_batch.ensures.moments;
    } in
    cuts_of ring writes

pub returns-clause-written : goal.returns-clause-written
returns-clause-written g c =
    let ring : JournalRing = c.args.self.now in
    let before = g.D.Disk.moments c.args.disk.now in
    let after = g.D.Disk.moments c.write_batch.new.disk in
    let has : HasWritten ring before after =
    record {
      bytes = (batch_in c.self.inside.pool c.next-from.result c.batch-count.result);
      batch = (batch_told c.self.inside.pool.geometry c.self.inside.pool.bytes c.self.inside.counts.items c.self.inside.marks c.args.self.now c.sections-total.result c.next-from.result c.batch-count.result c.self.invariant c.self.view_is c.sections-total.ensures c.next-from.ensures.next c.batch-count.ensures);
      written = subst (λ (n : ℕ). IsChangedBy (λ (x : Content). newest_only (with_run n (batch_in c.self.inside.pool c.next-from.result c.batch-count.result) x)) before after) c.batch_at-at.ensures c.in_ok-write_batch.ensures.written;
    } in
    has

pub returns-clause-moments : goal.returns-clause-moments
returns-clause-moments g c =
    let ring : JournalRing = c.args.self.now in
    let writes : WritesBatch ring (g.D.Disk.moments c.args.disk.now) (g.D.Disk.moments c.write_batch.new.disk) =
    record {
      bytes = (batch_in c.self.inside.pool c.next-from.result c.batch-count.result);
      batch = (batch_told c.self.inside.pool.geometry c.self.inside.pool.bytes c.self.inside.counts.items c.self.inside.marks c.args.self.now c.sections-total.result c.next-from.result c.batch-count.result c.self.invariant c.self.view_is c.sections-total.ensures c.next-from.ensures.next c.batch-count.ensures);
      adds = subst (λ (n : ℕ). EachSince (OnlyAdds (IsOfRun n (batch_in c.self.inside.pool c.next-from.result c.batch-count.result))) (g.D.Disk.moments c.args.disk.now) (g.D.Disk.moments c.write_batch.new.disk))
          c.batch_at-at.ensures c.write_batch.ensures.moments;
    } in
    writes

pub returns-in_err-write_batch-clause-moments : goal.returns-in_err-write_batch-clause-moments
returns-in_err-write_batch-clause-moments g c =
    let ring : JournalRing = c.args.self.now in
    let writes : WritesBatch ring (g.D.Disk.moments c.args.disk.now) (g.D.Disk.moments c.write_batch.new.disk) =
    record {
      bytes = (batch_in c.self.inside.pool c.next-from.result c.batch-count.result);
      batch = (batch_told c.self.inside.pool.geometry c.self.inside.pool.bytes c.self.inside.counts.items c.self.inside.marks c.args.self.now c.sections-total.result c.next-from.result c.batch-count.result c.self.invariant c.self.view_is c.sections-total.ensures c.next-from.ensures.next c.batch-count.ensures);
      adds = subst (λ (n : ℕ). EachSince (OnlyAdds (IsOfRun n (batch_in c.self.inside.pool c.next-from.result c.batch-count.result))) (g.D.Disk.moments c.args.disk.now) (g.D.Disk.moments c.write_batch.new.disk))
          c.batch_at-at.ensures c.write_batch.ensures.moments;
    } in
    writes
