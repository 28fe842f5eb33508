use Rattle.std.proofs.Common.{rules, ◌≡◌, Bool, true, false, sym, ◌∙◌, subst}
use Rattle.disk_model.specs.Disk.{OnlyAdds}
use Rattle.disk_model.specs.Moments.{EachSince}
use Rattle.image_model.specs.Geometry.{Geometry}
use Rattle.recalculation.specs.Recalculation.{IsOfTagsOrHead, fields_left}
use Rattle.image_model.specs.declared.flags.TheConstants.{RECALCULATING}
use Rattle.image_model.specs.Superblock.{has_flag}
use Rattle.direct_mode.proofs.ServingLemmas.{on_err_always}
use Rattle.journal_device.specs.Answers.{WritesMove}
use Rattle.journal_device.specs.Device.{standing_of, standing_on}
use Rattle.journal_device.proofs.DoneLemmas.{stands_now}
use Rattle.journal_device.proofs.FieldsLemmas.{close_heads, journal_heads, unmoved}
use Rattle.journal_device.proofs.EndLemmas.{journal_ends, journal_failed, journal_places, settle_ends, settle_places}
use Rattle.journal_device.proofs.closing.close.Goals as goal

-- ---- the journal

pub returns-in_err-close-clause-ends : goal.returns-in_err-close-clause-ends
returns-in_err-close-clause-ends g c = record {
  done = search rules;
  err = on_err_always c.from_residual.result (λ w is.
      let parts = c.args.parts.now in
      let journal = c.args.state.now.journal in
      let recalculation = c.args.state.now.recalculation in
      let a = g.D.Disk.moments c.args.disk.now in
      let v = standing_on w is.disk in
      journal_failed w parts journal recalculation a is (g.D.Disk.moments c.close.new.disk) (c.close.ensures.left (standing_of v) (stands_now v parts journal recalculation a is.over)));
}

pub returns-in_err-close-clause-writes : goal.returns-in_err-close-clause-writes
returns-in_err-close-clause-writes g c =
    let m = g.D.Disk.moments c.close.new.disk in
    record { middle = m; all = c.close.ensures.moments; moves = unmoved (has_flag RECALCULATING c.args.state.now.recalculation.position.flags) c.args.parts.now.tags.geometry m }

pub returns-in_err-close-clause-heads : goal.returns-in_err-close-clause-heads
returns-in_err-close-clause-heads g c =
    journal_heads c.args.parts.now c.args.state.now.journal c.args.state.now.recalculation (g.D.Disk.moments c.args.disk.now) (fields_left c.args.state.now.recalculation) (g.D.Disk.moments c.close.new.disk) c.close.ensures.left

pub returns-then-not-is_set-clause-ends : goal.returns-then-not-is_set-clause-ends
returns-then-not-is_set-clause-ends g c = record {
  done = journal_ends c.args.parts.now c.args.state.now.journal c.args.state.now.recalculation (g.D.Disk.moments c.args.disk.now) c.close.new.self c.close.new.tags (g.D.Disk.moments c.close.new.disk)
      c.in_ok-close.ensures.closed c.close.ensures.left c.in_ok-close.ensures.free;
  err = tt;
}

pub returns-then-not-is_set-clause-placed : goal.returns-then-not-is_set-clause-placed
returns-then-not-is_set-clause-placed g c =
    let off : c.is_set.result ≡ false = search rules in
    let unset : has_flag RECALCULATING c.args.state.now.recalculation.position.flags ≡ false = sym c.is_set.ensures.set ∙ off in
    journal_places c.args.parts.now c.args.state.now.journal c.args.state.now.recalculation (g.D.Disk.moments c.args.disk.now) c.close.new.self c.close.new.tags (g.D.Disk.moments c.close.new.disk)
    c.in_ok-close.ensures.closed c.close.ensures.left c.in_ok-close.ensures.free unset

pub returns-then-not-is_set-clause-writes : goal.returns-then-not-is_set-clause-writes
returns-then-not-is_set-clause-writes g c =
    let m = g.D.Disk.moments c.close.new.disk in
    record { middle = m; all = c.close.ensures.moments; moves = unmoved (has_flag RECALCULATING c.args.state.now.recalculation.position.flags) c.args.parts.now.tags.geometry m }

pub returns-then-not-is_set-clause-heads : goal.returns-then-not-is_set-clause-heads
returns-then-not-is_set-clause-heads g c =
    journal_heads c.args.parts.now c.args.state.now.journal c.args.state.now.recalculation (g.D.Disk.moments c.args.disk.now) (fields_left c.args.state.now.recalculation) (g.D.Disk.moments c.close.new.disk) c.close.ensures.left

-- ---- the position

pub returns-clause-ends : goal.returns-clause-ends
returns-clause-ends g c =
    let on : c.is_set.result ≡ true = search rules in
    settle_ends c.args.parts.now c.args.state.now.journal c.args.state.now.recalculation (g.D.Disk.moments c.args.disk.now) c.close.new.self c.close.new.tags (g.D.Disk.moments c.close.new.disk)
    c.in_ok-close.ensures.closed c.close.ensures.left c.in_ok-close.ensures.free (c.is_set.ensures.position (sym c.is_set.ensures.set ∙ on))
    c.settle.new.self c.settle.new.tags (g.D.Disk.moments c.settle.new.disk) c.settle.result c.settle.ensures.settled c.settle.ensures.through

pub returns-clause-placed : goal.returns-clause-placed
returns-clause-placed g c =
    let on : c.is_set.result ≡ true = search rules in
    settle_places c.args.parts.now c.args.state.now.journal c.args.state.now.recalculation (g.D.Disk.moments c.args.disk.now) c.close.new.self c.close.new.tags (g.D.Disk.moments c.close.new.disk)
    c.in_ok-close.ensures.closed c.close.ensures.left c.in_ok-close.ensures.free (c.is_set.ensures.position (sym c.is_set.ensures.set ∙ on))
    c.settle.new.self c.settle.new.tags (g.D.Disk.moments c.settle.new.disk) c.settle.result c.settle.ensures.settled

pub returns-clause-writes : goal.returns-clause-writes
returns-clause-writes g c =
    let on : c.is_set.result ≡ true = search rules in
    let m = g.D.Disk.moments c.close.new.disk in
    let b = g.D.Disk.moments c.settle.new.disk in
    record {
      middle = m;
      all = c.close.ensures.moments;
      moves = subst (λ (t : Bool). WritesMove t c.args.parts.now.tags.geometry m b) (sym (sym c.is_set.ensures.set ∙ on))
          (subst (λ (y : Geometry). EachSince (OnlyAdds (IsOfTagsOrHead y)) m b) c.close.ensures.geometry.0 c.settle.ensures.writes);
    }

pub returns-clause-heads : goal.returns-clause-heads
returns-clause-heads g c =
    close_heads c.args.parts.now c.args.state.now.journal c.args.state.now.recalculation (g.D.Disk.moments c.args.disk.now) c.close.new.self c.close.new.tags (g.D.Disk.moments c.close.new.disk) (g.D.Disk.moments c.settle.new.disk)
    c.in_ok-close.ensures.closed c.close.ensures.left c.in_ok-close.ensures.free c.settle.ensures.through
