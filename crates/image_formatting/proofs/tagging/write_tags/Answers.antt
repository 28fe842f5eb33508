use Rattle.std.proofs.Common.{rules, ◌≡◌, inl, inr, ⊎_elim, ℕ, ◌+◌, ◌-◌, ◌*◌, ◌/◌, ◌%◌, ap, subst, arith}
use Rattle.disk_model.specs.Disk.{last_image}
use Rattle.disk_model.specs.Identity.{DiskIdentity}
use Rattle.disk_model.specs.Moments.{HasNow}
use Rattle.image_model.specs.Geometry.{quotient_up}
use Rattle.image_model.specs.Entries.{IsWithin}
use Rattle.place_model.proofs.TagsLemmas.{order}
use Rattle.formatting_model.specs.Blocks.{HasTagRun}
use Rattle.formatting_model.proofs.RunsLemmas.{changes_then, changes_wider}
use Rattle.formatting_model.proofs.TaggingLemmas.{group_fits, group_whole, next_run_inside, tags_next, whole_tags}
use Rattle.formatting_model.specs.Stays.{IsRunByte, ReadsKeep}
use Rattle.formatting_model.proofs.StaysLemmas.{keep_then, keep_wider}
use Rattle.formatting_model.specs.Written.{IsOfTagRun}
use Rattle.formatting_model.proofs.WrittenLemmas.{tag_run_next, writes_then}
use Rattle.image_formatting.proofs.tagging.write_tags.Goals as goal

pub overflow_add-next : goal.overflow_add-next
overflow_add-next g c =
    let le = order c.args.shape.tag c.loop-done.done c.args.count c.loop-done.invariant.low in
    omega (arith, le, c.requires.run.inside, c.requires.run.few)

pub write_tag_run-requires-clause-fits : goal.write_tag_run-requires-clause-fits
write_tag_run-requires-clause-fits g c =
    let fits = group_fits c.min-part.result c.args.shape.tag (c.args.count - c.loop-done.done) c.min-part.ensures in
    omega (arith, fits, c.loop-done.invariant.room)

pub write_tag_run-requires-clause-run : goal.write_tag_run-requires-clause-run
write_tag_run-requires-clause-run g c =
    let begins : c.loop-done.done % 512 ≡ 0 = ⊎_elim (λ e. e) (λ e. absurd (omega (arith, e, c.loop-done-test.true))) c.loop-done.invariant.whole in
    let whole = whole_tags c.loop-done.done c.args.shape.tag begins in
    let inside = next_run_inside c.args.at c.loop-done.done c.min-part.result c.args.count c.args.shape.tag whole (omega (arith, c.min-part.ensures, c.loop-done-test.true)) in
    let same = ap (λ (d : DiskIdentity). d.sectors) c.loop-done.invariant.identity in
    record { inside = omega (arith, inside, same, c.requires.run.inside); few = omega (arith, same, c.requires.run.few) }

pub returns-in_err-write_tag_run-clause-moments : goal.returns-in_err-write_tag_run-clause-moments
returns-in_err-write_tag_run-clause-moments g c =
    let begins : c.loop-done.done % 512 ≡ 0 = ⊎_elim (λ e. e) (λ e. absurd (omega (arith, e, c.loop-done-test.true))) c.loop-done.invariant.whole in
    let whole = whole_tags c.loop-done.done c.args.shape.tag begins in
    let inside = next_run_inside c.args.at c.loop-done.done c.min-part.result c.args.count c.args.shape.tag whole (omega (arith, c.min-part.ensures, c.loop-done-test.true)) in
    changes_then (IsWithin c.args.at (quotient_up (c.args.count * c.args.shape.tag) 512)) c.loop-done.invariant.moments
    (changes_wider _ (IsWithin c.args.at (quotient_up (c.args.count * c.args.shape.tag) 512)) (λ s of. (omega (arith, of.0), omega (arith, of.1, inside))) c.write_tag_run.ensures.moments)

pub returns-in_err-write_tag_run-clause-writes : goal.returns-in_err-write_tag_run-clause-writes
returns-in_err-write_tag_run-clause-writes g c =
    let begins : c.loop-done.done % 512 ≡ 0 = ⊎_elim (λ e. e) (λ e. absurd (omega (arith, e, c.loop-done-test.true))) c.loop-done.invariant.whole in
    let whole = whole_tags c.loop-done.done c.args.shape.tag begins in
    writes_then (IsOfTagRun c.args.at (c.args.count * c.args.shape.tag)) (IsOfTagRun (c.args.at + c.loop-done.done * c.args.shape.tag / 512) (c.min-part.result * c.args.shape.tag))
    c.loop-done.invariant.writes c.write_tag_run.ensures.writes
    (tag_run_next _ _ c.args.at c.loop-done.done c.min-part.result c.args.count c.args.shape.tag whole (omega (arith, c.min-part.ensures, c.loop-done-test.true)) c.loop-done.invariant.stays)

pub loop-done-preserved : goal.loop-done-preserved
loop-done-preserved g c =
    let begins : c.loop-done.done % 512 ≡ 0 = ⊎_elim (λ e. e) (λ e. absurd (omega (arith, e, c.loop-done-test.true))) c.loop-done.invariant.whole in
    let whole = whole_tags c.loop-done.done c.args.shape.tag begins in
    let inside = next_run_inside c.args.at c.loop-done.done c.min-part.result c.args.count c.args.shape.tag whole (omega (arith, c.min-part.ensures, c.loop-done-test.true)) in
    let size = c.requires.makes.size in
    let sum : (c.loop-done.done + c.min-part.result) * c.args.shape.tag ≡ c.loop-done.done * c.args.shape.tag + c.min-part.result * c.args.shape.tag = omega arith in
    record {
      low = omega (arith, c.min-part.ensures, c.loop-done-test.true);
      whole = ⊎_elim inl (λ all. inr (omega (arith, all, c.loop-done-test.true))) (group_whole c.loop-done.done c.args.shape.tag (c.args.count - c.loop-done.done) c.min-part.result begins c.min-part.ensures);
      tags = tags_next c.args.maker.now c.args.shape.spb c.args.first c.loop-done.done c.min-part.result c.args.at _ c.args.shape.tag size (omega (arith, c.requires.makes.shape_.tag)) whole c.loop-done.invariant.tags
          c.write_tag_run.ensures.moments c.in_ok-write_tag_run.ensures.tags;
      stays = keep_then _ _ _ (IsRunByte c.args.at ((c.loop-done.done + c.min-part.result) * c.args.shape.tag)) _ c.loop-done.invariant.moments
          (keep_wider _ _ (IsRunByte c.args.at (c.loop-done.done * c.args.shape.tag)) _ (λ s j low of. record { begins = of.begins; ends = omega (arith, of.ends, sum) }) c.loop-done.invariant.stays)
          (keep_wider _ _ (IsRunByte (c.args.at + c.loop-done.done * c.args.shape.tag / 512) (c.min-part.result * c.args.shape.tag)) _ (λ s j low of. record { begins = omega (arith, of.begins); ends = omega (arith, of.ends, sum, whole) }) c.in_ok-write_tag_run.ensures.stays);
      room = search rules;
      identity = search rules;
      faults = search rules;
      moments = changes_then (IsWithin c.args.at (quotient_up (c.args.count * c.args.shape.tag) 512)) c.loop-done.invariant.moments
          (changes_wider _ (IsWithin c.args.at (quotient_up (c.args.count * c.args.shape.tag) 512)) (λ s of. (omega (arith, of.0), omega (arith, of.1, inside))) c.write_tag_run.ensures.moments);
      writes = writes_then (IsOfTagRun c.args.at (c.args.count * c.args.shape.tag)) (IsOfTagRun (c.args.at + c.loop-done.done * c.args.shape.tag / 512) (c.min-part.result * c.args.shape.tag))
          c.loop-done.invariant.writes c.write_tag_run.ensures.writes
          (tag_run_next _ _ c.args.at c.loop-done.done c.min-part.result c.args.count c.args.shape.tag whole (omega (arith, c.min-part.ensures, c.loop-done-test.true)) c.loop-done.invariant.stays);
    }

pub returns-clause-tags : goal.returns-clause-tags
returns-clause-tags g c =
    let all : c.loop-done.done ≡ c.args.count = omega (arith, c.loop-done-test.false, c.loop-done.invariant.low) in
    subst (λ (n : ℕ). HasNow (λ x. HasTagRun c.args.maker.now c.args.shape.spb c.args.first n c.args.at (last_image x)) (g.D.Disk.moments c.loop-done.disk)) all c.loop-done.invariant.tags

pub returns-clause-stays : goal.returns-clause-stays
returns-clause-stays g c =
    let all : c.loop-done.done ≡ c.args.count = omega (arith, c.loop-done-test.false, c.loop-done.invariant.low) in
    subst (λ (n : ℕ). ReadsKeep (IsRunByte c.args.at (n * c.args.shape.tag)) (g.D.Disk.moments c.args.disk.now) (g.D.Disk.moments c.loop-done.disk)) all c.loop-done.invariant.stays
