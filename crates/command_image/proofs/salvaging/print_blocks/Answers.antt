use Rattle.std.proofs.Common.{◌≡◌, ◌∙◌, ◌+◌, inl, inr, refl, subst, arith, rules, List, ℕ}
use Rattle.std.specs.Option.{option_map}
use Rattle.run_model.specs.Ending.{Failed, NoMemory}
use Rattle.image_model.proofs.Regions.{blocks-low}
use Rattle.stream_io.specs.Stream.{with_bytes, AddsPrefix}
use Rattle.image_salvage.specs.Telling.{as_verdict}
use Rattle.salvage_model.specs.Verdicts.{is_good}
use Rattle.command_image.proofs.SalvagingLemmas.{bad_few, cut_at_block, cut_in_block, same_then, told_all, told_low, told_more}
use Rattle.command_image.proofs.salvaging.print_blocks.Goals as goal
use Rattle.run_model.specs.declared.outer.Outer.TheVariants as outers

pub returns-in_default-clause-cut : goal.returns-in_default-clause-cut
returns-in_default-clause-cut g c =
    let inv = c.lines.invariant in
    cut_at_block c.args.salvage.now.image c.lines.salvage.image (g.D.Disk.identity c.args.salvage.now.disk.now) (g.D.Disk.identity c.lines.salvage.disk.now)
    (g.D.Disk.moments c.args.salvage.now.disk.now) (g.D.Disk.moments c.lines.salvage.disk.now) inv.image inv.same inv.identity inv.moments
    c.lines.bad (g.O.Sink.held c.args.out.now) (g.O.Sink.held c.lines.out) inv.told (Failed outers.Disk) (inr refl)

pub returns-in_default-told-clause-told : goal.returns-in_default-told-clause-told
returns-in_default-told-clause-told g c =
    let inv = c.lines.invariant in
    told_all c.args.salvage.now.image c.lines.salvage.image (g.D.Disk.identity c.args.salvage.now.disk.now) (g.D.Disk.identity c.lines.salvage.disk.now)
    (g.D.Disk.moments c.args.salvage.now.disk.now) (g.D.Disk.moments c.lines.salvage.disk.now) inv.image inv.same inv.identity inv.moments
    c.lines.bad (g.O.Sink.held c.args.out.now) (g.O.Sink.held c.lines.out) inv.told (rw c.in_default-told.is at c.in-Ok.ensures.verdict)

pub returns-in_default-write_verdict-clause-cut : goal.returns-in_default-write_verdict-clause-cut
returns-in_default-write_verdict-clause-cut g c =
    let inv = c.lines.invariant in
    cut_at_block c.args.salvage.now.image c.lines.salvage.image (g.D.Disk.identity c.args.salvage.now.disk.now) (g.D.Disk.identity c.lines.salvage.disk.now)
    (g.D.Disk.moments c.args.salvage.now.disk.now) (g.D.Disk.moments c.lines.salvage.disk.now) inv.image inv.same inv.identity inv.moments
    c.lines.bad (g.O.Sink.held c.args.out.now) (g.O.Sink.held c.lines.out) inv.told NoMemory (inl refl)

pub returns-in_default-put_all-clause-cut : goal.returns-in_default-put_all-clause-cut
returns-in_default-put_all-clause-cut g c =
    let inv = c.lines.invariant in
    let tells = (rw c.in-Some.is at c.in-Ok.ensures.verdict) in
    let gives = (rw c.in-Some.is at c.in-Ok.ensures.bytes) in
    cut_in_block c.args.salvage.now.image c.lines.salvage.image (g.D.Disk.identity c.args.salvage.now.disk.now) (g.D.Disk.identity c.lines.salvage.disk.now)
    (g.D.Disk.moments c.args.salvage.now.disk.now) (g.D.Disk.moments c.lines.salvage.disk.now) inv.image inv.same inv.identity inv.moments
    c.lines.bad (g.O.Sink.held c.args.out.now) (g.O.Sink.held c.lines.out) inv.told c.in-Some.verdict c.lines.bytes c.next.new.bytes (g.O.Sink.held c.put_all.new.sink) tells gives
    (subst (λ (line : List ℕ). AddsPrefix line (g.O.Sink.held c.lines.out) (g.O.Sink.held c.put_all.new.sink))
    (c.deref.ensures.value ∙ c.in-Ok-write_verdict.ensures) c.in_default-put_all.ensures.err)

pub bad_with-bad-requires : goal.bad_with-bad-requires
bad_with-bad-requires g c =
    let inv = c.lines.invariant in
    let low = told_low c.args.salvage.now.image c.lines.salvage.image (g.D.Disk.identity c.args.salvage.now.disk.now) (g.D.Disk.identity c.lines.salvage.disk.now)
    (g.D.Disk.moments c.args.salvage.now.disk.now) (g.D.Disk.moments c.lines.salvage.disk.now) inv.image inv.same inv.identity inv.moments
    c.in-Some.verdict (rw c.in-Some.is at c.in-Ok.ensures.verdict) in
    let few = inv.few in
    omega (arith, few, low, blocks-low _ _ inv.image.format.geometry)

pub lines-preserved : goal.lines-preserved
lines-preserved g c =
    let inv = c.lines.invariant in
    let tells = (rw c.in-Some.is at c.in-Ok.ensures.verdict) in
    let gives = (rw c.in-Some.is at c.in-Ok.ensures.bytes) in
    let next : c.next.new.self.image.told ≡ c.lines.salvage.image.told + 1 = (rw c.in-Some.is at c.in-Ok.ensures.told) in
    record {
      image = c.next.ensures.image;
      same = same_then c.args.salvage.now.image c.lines.salvage.image c.next.new.self.image inv.same c.next.ensures.same;
      bytes = (search rules);
      few = rw (next, c.bad_with-bad.ensures) (bad_few (is_good (as_verdict c.in-Some.verdict)) c.lines.bad c.lines.salvage.image.told inv.few);
      identity = c.next.ensures.identity ∙ inv.identity;
      moments = c.next.ensures.kept ∙ inv.moments;
      same_disk = c.next.ensures.same_disk ∙ inv.same_disk;
      disk_faults = c.in-Ok.ensures.cause.passed ∙ inv.disk_faults;
      sink_faults = c.in-Ok-put_all.ensures.cause.passed ∙ inv.sink_faults;
      told = rw (next, c.bad_with-bad.ensures)
          (told_more c.args.salvage.now.image c.lines.salvage.image (g.D.Disk.identity c.args.salvage.now.disk.now) (g.D.Disk.identity c.lines.salvage.disk.now)
          (g.D.Disk.moments c.args.salvage.now.disk.now) (g.D.Disk.moments c.lines.salvage.disk.now) inv.image inv.same inv.identity inv.moments
          c.lines.bad (g.O.Sink.held c.args.out.now) (g.O.Sink.held c.lines.out) inv.told c.in-Some.verdict c.lines.bytes c.next.new.bytes (g.O.Sink.held c.put_all.new.sink) tells gives
          (subst (λ (line : List ℕ). g.O.Sink.held c.put_all.new.sink ≡ option_map (with_bytes line) (g.O.Sink.held c.lines.out))
          (c.deref.ensures.value ∙ c.in-Ok-write_verdict.ensures) c.in-Ok-put_all.ensures.written));
    }
