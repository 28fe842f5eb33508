use Rattle.std.proofs.Common.{refl}
use Rattle.hmac_tag.specs.TagMaker.{key_of}
use Rattle.command_mirror.specs.Calls.{ending_by}
use Rattle.command_mirror.proofs.ReadLemmas.{none_taken, read_none}
use Rattle.command_mirror.proofs.RefusedLemmas.{refused_by_first, refused_by_second}
use Rattle.command_mirror.proofs.RunningLemmas.{false_is_no_true, opened_now, read_on_legs, refused_by_legs, run_on_legs}
use Rattle.command_mirror.proofs.mirroring.mirror_devices.Goals as goal

-- ---- an image is refused

pub returns-in-Err-clause-runs : goal.returns-in-Err-clause-runs
returns-in-Err-clause-runs g c script told start told_start second_start told_second =
    rw (c.handed_back-fault.ensures.disk, c.ended_by_opening.ensures, c.handed_back-fault.ensures.fault)
    (refused_by_first c.images_that_open_have_no_fault.ensures c.args.consent (key_of c.args.hash)
    (g.D.Disk.identity c.args.disk.now) _ (g.E.Disk.identity c.args.second.now)
    (g.D.Disk.moments c.args.disk.now) (g.D.Disk.moments c.in-Err.refused.disk.now)
    (g.E.Disk.moments c.args.second.now) start second_start told_start told_second script
    (g.O.Sink.held c.args.out.now) c.in-Err.ensures.err c.in-Err.refused.fault c.in-Err.ensures.refused)

pub returns-in-Err-clause-read : goal.returns-in-Err-clause-read
returns-in-Err-clause-read g c = (
  none_taken _ _,
  λ script told start told_start second_start told_second. read_none _ script _ _ _ told,
)

pub returns-in-Err-open-clause-runs : goal.returns-in-Err-open-clause-runs
returns-in-Err-open-clause-runs g c script told start told_start second_start told_second =
    let key = key_of c.args.hash in
    let disk = g.D.Disk.identity c.args.disk.now in
    let a = g.D.Disk.moments c.args.disk.now in
    let b = g.D.Disk.moments c.in-Ok.first.disk.now in
    rw (
      c.give_back.ensures.disk,
      c.handed_back-fault-in-Err-open.ensures.disk,
      c.ended_by_second.ensures,
      c.handed_back-fault-in-Err-open.ensures.fault,
    )
    (refused_by_second c.images_that_open_have_no_fault.ensures c.args.consent key
    disk _ (g.E.Disk.identity c.args.second.now) a b (g.E.Disk.moments c.args.second.now)
    start second_start told_start told_second script (g.O.Sink.held c.args.out.now)
    c.in-Ok.ensures.leaves (c.in-Ok.ensures.accepted start told_start)
    (opened_now c.args.consent key disk c.in-Ok.first.parts a b start told_start c.in-Ok.ensures.opened) _
    (g.E.Disk.moments c.in-Err-open.refused.disk.now) (rw c.requires.twins at c.in-Err-open.ensures.err)
    c.in-Err-open.refused.fault (rw c.requires.twins at c.in-Err-open.ensures.refused))

pub returns-in-Err-open-clause-read : goal.returns-in-Err-open-clause-read
returns-in-Err-open-clause-read g c = (
  none_taken _ _,
  λ script told start told_start second_start told_second. read_none _ script _ _ _ told,
)

-- ---- they are no mirror

pub returns-in-Err-mirror_of-clause-runs : goal.returns-in-Err-mirror_of-clause-runs
returns-in-Err-mirror_of-clause-runs g c script told start told_start second_start told_second =
    let key = key_of c.args.hash in
    let back = c.in-Err-mirror_of.ensures.back in
    rw (
      c.give_back-in-Err-mirror_of.ensures.disk,
      c.give_back-in-Err-mirror_of-2.ensures.disk,
      back.0,
      back.1,
      c.ended_by_legs.ensures,
    )
    (refused_by_legs c.images_that_open_have_no_fault.ensures c.args.consent key
    (g.D.Disk.identity c.args.disk.now) _ (g.E.Disk.identity c.args.second.now) _
    (g.D.Disk.moments c.args.disk.now) (g.D.Disk.moments c.in-Ok.first.disk.now)
    (g.E.Disk.moments c.args.second.now) (g.E.Disk.moments c.in-Ok-open.other.disk.now)
    start second_start told_start told_second script c.in-Ok.first.parts c.in-Ok-open.other.parts
    c.in-Ok.ensures.leaves (rw c.requires.twins at c.in-Ok-open.ensures.leaves)
    (c.in-Ok.ensures.accepted start told_start)
    ((rw c.requires.twins at c.in-Ok-open.ensures.accepted) second_start told_second)
    c.in-Ok.ensures.opened (rw c.requires.twins at c.in-Ok-open.ensures.opened)
    (g.O.Sink.held c.args.out.now) c.in-Err-mirror_of.unequal back.2
    (λ equal. false_is_no_true (rw c.in-Err-mirror_of.is at (c.mirror_of.ensures.unequal.1 equal))))

pub returns-in-Err-mirror_of-clause-read : goal.returns-in-Err-mirror_of-clause-read
returns-in-Err-mirror_of-clause-read g c = (
  none_taken _ _,
  λ script told start told_start second_start told_second. read_none _ script _ _ _ told,
)

-- ---- the script is run on them

pub returns-in-Ok-mirror_of-clause-runs : goal.returns-in-Ok-mirror_of-clause-runs
returns-in-Ok-mirror_of-clause-runs g c script told start told_start second_start told_second =
    let key = key_of c.args.hash in
    let made = c.in-Ok-mirror_of.ensures.made in
    let ran = rw (made.0, made.1) at c.run_mirror.ensures.ran in
    run_on_legs c.images_that_open_have_no_fault.ensures c.args.consent key
    (g.D.Disk.identity c.args.disk.now) _ (g.E.Disk.identity c.args.second.now) _
    (g.D.Disk.moments c.args.disk.now) (g.D.Disk.moments c.in-Ok.first.disk.now)
    (g.E.Disk.moments c.args.second.now) (g.E.Disk.moments c.in-Ok-open.other.disk.now)
    start second_start told_start told_second script c.in-Ok.first.parts c.in-Ok-open.other.parts
    c.in-Ok.ensures.leaves (rw c.requires.twins at c.in-Ok-open.ensures.leaves)
    (c.in-Ok.ensures.accepted start told_start)
    ((rw c.requires.twins at c.in-Ok-open.ensures.accepted) second_start told_second)
    c.in-Ok.ensures.opened (rw c.requires.twins at c.in-Ok-open.ensures.opened)
    (c.in-Ok-mirror_of.ensures.unequal.0 refl) (ending_by c.run_mirror.new.ended)
    (g.D.Disk.moments c.run_mirror.result.0.now) (g.E.Disk.moments c.run_mirror.result.1.now)
    (g.O.Sink.held c.args.out.now) (g.O.Sink.held c.run_mirror.new.out)
    (λ w run is is_run. ran w script run is told is_run)

pub returns-in-Ok-mirror_of-clause-read : goal.returns-in-Ok-mirror_of-clause-read
returns-in-Ok-mirror_of-clause-read g c = (
  c.run_mirror.ensures.read.0,
  λ script told start told_start second_start told_second.
      let key = key_of c.args.hash in
      let made = c.in-Ok-mirror_of.ensures.made in
      let reads = rw (made.0, made.1) at c.run_mirror.ensures.read.1 in
      read_on_legs c.images_that_open_have_no_fault.ensures c.args.consent key
      (g.D.Disk.identity c.args.disk.now) _ (g.E.Disk.identity c.args.second.now) _
      (g.D.Disk.moments c.args.disk.now) (g.D.Disk.moments c.in-Ok.first.disk.now)
      (g.E.Disk.moments c.args.second.now) (g.E.Disk.moments c.in-Ok-open.other.disk.now)
      start second_start told_start told_second script c.in-Ok.first.parts c.in-Ok-open.other.parts
      c.in-Ok.ensures.leaves (rw c.requires.twins at c.in-Ok-open.ensures.leaves)
      (c.in-Ok.ensures.accepted start told_start)
      ((rw c.requires.twins at c.in-Ok-open.ensures.accepted) second_start told_second)
      c.in-Ok.ensures.opened (rw c.requires.twins at c.in-Ok-open.ensures.opened)
      (c.in-Ok-mirror_of.ensures.unequal.0 refl) _ _ _ _
      (λ w run is is_run. reads w script run is told is_run),
)
