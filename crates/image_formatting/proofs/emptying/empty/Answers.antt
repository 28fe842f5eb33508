use Rattle.commit_id.specs.Shape.{as_shape}
use Rattle.std.proofs.Common.{rules, ◌≡◌, ℕ, ◌+◌, ◌-◌, ◌*◌, ◌/◌, ◌<◌, ◌∙◌, ap, sym, subst, arith, length, replicate, None, Option}
use Rattle.std.proofs.lemmas.List.{take_rest}
use Rattle.disk_model.specs.Disk.{last_image}
use Rattle.image_model.specs.Geometry.{Shape, journal_sectors, section_entries, section_sectors}
use Rattle.image_model.specs.Section.{Entry}
use Rattle.image_model.specs.Entries.{BearsNumber, HoldsEntries, IsWithin}
use Rattle.formatting_model.specs.Journal.{HasEmptyRests}
use Rattle.image_model.proofs.GeometryLemmas.{section_at-lt}
use Rattle.formatting_model.proofs.JournalLemmas.{first_open, journal_inside, no_entries, rest_size, rests_begin, rests_next, sections_some}
use Rattle.formatting_model.proofs.RunsLemmas.{changes_then, write_changes}
use Rattle.image_formatting.proofs.emptying.empty.Goals as goal

pub overflow_step-i : goal.overflow_step-i
overflow_step-i g c =
    let width : c.shape-shape.result.sectors ≡ section_sectors c.args.geometry.now.shape =
    c.shape-shape.ensures.is_shape.sectors ∙ ap (λ (x : Shape). section_sectors x) c.shape-shape.ensures.shape in
    omega (arith, width, sections_some c.args.geometry.now.shape)

pub loop-i-init : goal.loop-i-init
loop-i-init g c =
    let geometry = c.args.geometry.now in
    let width : c.shape-shape.result.sectors ≡ section_sectors geometry.shape =
    c.shape-shape.ensures.is_shape.sectors ∙ ap (λ (x : Shape). section_sectors x) c.shape-shape.ensures.shape in
    record {
      begun = subst (λ (n : ℕ). c.args.bitmap < c.args.bitmap / n * section_sectors geometry.shape + section_sectors geometry.shape) (sym width) (first_open geometry c.args.bitmap);
      emptied = λ x told. subst (λ (n : ℕ). HasEmptyRests geometry c.args.bitmap (c.args.bitmap / n) (last_image x)) (sym width) (rests_begin geometry c.args.bitmap (last_image x));
      section = search rules;
      identity = search rules;
      faults = search rules;
      moments = search rules;
    }

pub clear-requires-clause-section : goal.clear-requires-clause-section
clear-requires-clause-section g c =
    (journal_inside c.args.geometry.now _ c.loop-i.i c.requires.geometry (omega (arith, c.loop-i-test.true, c.sections-i-end.ensures))).2

pub write_run-requires-clause-run : goal.write_run-requires-clause-run
write_run-requires-clause-run g c =
    let geometry = c.args.geometry.now in
    let inside = journal_inside geometry _ c.loop-i.i c.requires.geometry (omega (arith, c.loop-i-test.true, c.sections-i-end.ensures)) in
    let width : c.shape-shape.result.sectors ≡ section_sectors geometry.shape =
    c.shape-shape.ensures.is_shape.sectors ∙ ap (λ (x : Shape). section_sectors x) c.shape-shape.ensures.shape in
    let skips = c.saturating_sub-skipped.ensures ∙ ap (λ (n : ℕ). c.args.bitmap - c.loop-i.i * n) width in
    let size = rest_size c.clear.new.bytes (section_sectors geometry.shape) c.saturating_sub-skipped.result (c.clear.auto.bytes ∙ c.loop-i.invariant.section) in
    let same = ap (λ d. d.sectors) c.loop-i.invariant.identity in
    record {
      whole = omega (arith, size);
      some = omega (arith, size, skips, c.loop-i.invariant.begun);
      inside = omega (arith, size, skips, c.loop-i.invariant.begun, inside, c.section_at.ensures, same);
    }

pub returns-in_err-write_run-clause-moments : goal.returns-in_err-write_run-clause-moments
returns-in_err-write_run-clause-moments g c =
    let geometry = c.args.geometry.now in
    let inside = journal_inside geometry _ c.loop-i.i c.requires.geometry (omega (arith, c.loop-i-test.true, c.sections-i-end.ensures)) in
    let width : c.shape-shape.result.sectors ≡ section_sectors geometry.shape =
    c.shape-shape.ensures.is_shape.sectors ∙ ap (λ (x : Shape). section_sectors x) c.shape-shape.ensures.shape in
    let skips = c.saturating_sub-skipped.ensures ∙ ap (λ (n : ℕ). c.args.bitmap - c.loop-i.i * n) width in
    let size = rest_size c.clear.new.bytes (section_sectors geometry.shape) c.saturating_sub-skipped.result (c.clear.auto.bytes ∙ c.loop-i.invariant.section) in
    let behind = IsWithin (8 + c.args.bitmap) (journal_sectors geometry - c.args.bitmap) in
    changes_then behind c.loop-i.invariant.moments
    (write_changes behind _ _ (λ s low high. (omega (arith, low, c.section_at.ensures, skips), omega (arith, high, size, skips, c.loop-i.invariant.begun, inside, c.section_at.ensures, c.requires.bitmap))) c.write_run.ensures.moments)

pub loop-i-preserved : goal.loop-i-preserved
loop-i-preserved g c =
    let geometry = c.args.geometry.now in
    let inside = journal_inside geometry _ c.loop-i.i c.requires.geometry (omega (arith, c.loop-i-test.true, c.sections-i-end.ensures)) in
    let width : c.shape-shape.result.sectors ≡ section_sectors geometry.shape =
    c.shape-shape.ensures.is_shape.sectors ∙ ap (λ (x : Shape). section_sectors x) c.shape-shape.ensures.shape in
    let skips = c.saturating_sub-skipped.ensures ∙ ap (λ (n : ℕ). c.args.bitmap - c.loop-i.i * n) width in
    let long : length c.clear.new.bytes ≡ 512 * section_sectors geometry.shape = c.clear.auto.bytes ∙ c.loop-i.invariant.section in
    let size = rest_size c.clear.new.bytes (section_sectors geometry.shape) c.saturating_sub-skipped.result long in
    let next = section_at-lt geometry c.loop-i.i (c.loop-i.i + 1) (omega arith) in
    let shape = c.shape-shape.ensures.shape in
    let entries : HoldsEntries geometry.shape (no_entries geometry) c.clear.new.bytes =
    subst (λ (x : Shape). HoldsEntries x (replicate (section_entries x) (let none : Option Entry = None in none)) c.clear.new.bytes) shape
    (subst (λ (n : ℕ). HoldsEntries (as_shape c.shape-shape.result) (replicate n (let none : Option Entry = None in none)) c.clear.new.bytes) c.shape-shape.ensures.is_shape.entries c.clear.ensures.entries) in
    let number : BearsNumber geometry.shape c.loop-i.i 0 c.clear.new.bytes = subst (λ (x : Shape). BearsNumber x c.loop-i.i 0 c.clear.new.bytes) shape c.clear.ensures.number in
    let behind = IsWithin (8 + c.args.bitmap) (journal_sectors geometry - c.args.bitmap) in
    record {
      begun = omega (arith, c.loop-i.invariant.begun, next);
      emptied = rests_next geometry c.args.bitmap c.loop-i.i c.saturating_sub-skipped.result c.clear.new.bytes _ skips c.loop-i.invariant.begun
          (take_rest c.clear.new.bytes (512 * c.saturating_sub-skipped.result)) (record { entries = entries; numbers = number }) _ _ c.loop-i.invariant.emptied
          (rw c.section_at.ensures at c.in_ok-write_run.ensures.written);
      section = long;
      identity = search rules;
      faults = search rules;
      moments = changes_then behind c.loop-i.invariant.moments
          (write_changes behind _ _ (λ s low high. (omega (arith, low, c.section_at.ensures, skips), omega (arith, high, size, skips, c.loop-i.invariant.begun, inside, c.section_at.ensures, c.requires.bitmap))) c.write_run.ensures.moments);
    }

pub returns-clause-emptied : goal.returns-clause-emptied
returns-clause-emptied g c = λ x told section low within.
    c.loop-i.invariant.emptied x told section (omega (arith, low, c.loop-i-test.false, c.sections-i-end.ensures)) within
