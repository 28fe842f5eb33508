use Rattle.std.proofs.Common.{◌≢◌, ◌≤◌, ℕ, refl, sym, ◌∙◌, ap, subst, arith}
use Rattle.disk_model.proofs.MomentsLemmas.{no_moment}
use Rattle.journal_model.specs.Ring.{JournalRing, with_settle}
use Rattle.journal_model.specs.Steps.{after_settle}
use Rattle.place_writer.specs.Moves.{FreesPlaced, IsPlacedOn}
use Rattle.place_writer.specs.Placement.{IsPlacementOf, placed_in, without}
use Rattle.place_writer.specs.declared.placement.Placement.{Placement}
use Rattle.place_writer.proofs.PlacementLemmas.{frees, none_to_free, without_is}
use Rattle.tag_store.specs.Store.{given_tags}
use Rattle.place_writer.proofs.WritingLemmas.{gives_still}
use Rattle.place_writer.proofs.PlacedOnLemmas.{cuts_kept, settled_on}
use Rattle.place_writer.proofs.PlacingLawsLemmas.{settled_cells_law}
use Rattle.place_writer.proofs.placer.Placer.settle.Goals as goal

-- Where a section is wholly placed there is one to free.
some_to_free : (p : Placement) (ring : JournalRing) → IsPlacementOf p ring → 1 ≤ p.sections
    → with_settle (placed_in p ring) ring ≢ ring
some_to_free p ring is some = (frees p ring is some).some

pub returns-then-self-eq0-clause-moments : goal.returns-then-self-eq0-clause-moments
returns-then-self-eq0-clause-moments g c = record {
  tags = no_moment (g.D.Disk.moments c.args.disk.now) _;
  none = λ none. refl;
}

pub returns-then-self-eq0-clause-tags : goal.returns-then-self-eq0-clause-tags
returns-then-self-eq0-clause-tags g c = gives_still c.args.tags.now.geometry (given_tags c.args.tags.now) (g.D.Disk.moments c.args.disk.now)

pub returns-in_err-flush-clause-moments : goal.returns-in_err-flush-clause-moments
returns-in_err-flush-clause-moments g c =
    let some : 1 ≤ c.args.self.now.sections = omega (arith, c.if-self-eq0.false, ap (λ (q : Placement). q.sections) c.self.view_is) in
    record {
      tags = c.flush.ensures.moments;
      none = λ none. absurd (some_to_free c.args.self.now c.args.ring.now c.requires.placement some none);
    }

pub returns-clause-moments : goal.returns-clause-moments
returns-clause-moments g c =
    let some : 1 ≤ c.args.self.now.sections = omega (arith, c.if-self-eq0.false, ap (λ (q : Placement). q.sections) c.self.view_is) in
    record {
      tags = c.flush.ensures.moments;
      none = λ none. absurd (some_to_free c.args.self.now c.args.ring.now c.requires.placement some none);
    }

pub returns-then-self-eq0-clause-moved : goal.returns-then-self-eq0-clause-moved
returns-then-self-eq0-clause-moved g c = record {
  none = none_to_free c.args.self.now c.args.ring.now c.requires.placement (sym (ap (λ (p : Placement). p.sections) c.self.view_is) ∙ c.if-self-eq0.true);
  ring_ = refl;
  placement = refl;
  store = refl;
  disk = refl;
}

pub returns-in_err-flush-clause-cuts : goal.returns-in_err-flush-clause-cuts
returns-in_err-flush-clause-cuts g c d on = cuts_kept d (c.flush.ensures.stands d on.cells)

pub returns-clause-cuts : goal.returns-clause-cuts
returns-clause-cuts g c d on = cuts_kept d (c.flush.ensures.stands d on.cells)

pub returns-clause-moved : goal.returns-clause-moved
returns-clause-moved g c =
    let p = c.args.self.now in
    let ring = c.args.ring.now in
    let some : 1 ≤ p.sections = omega (arith, c.if-self-eq0.false, ap (λ (q : Placement). q.sections) c.self.view_is) in
    let left = c.free_sections.ensures ∙ ap (λ (n : ℕ). without n ring) (ap (λ (q : Placement). q.sections) c.self.view_is) in
    subst (λ (n : ℕ). FreesPlaced p (record { sections = 0; entries = n }) ring c.free_sections.new.ring) (sym (ap (λ (q : Placement). q.entries) c.self.view_is))
    (subst (λ (r : JournalRing). FreesPlaced p (record { sections = 0; entries = p.entries }) ring r) (sym left) (frees p ring c.requires.placement some))

pub returns-clause-placement : goal.returns-clause-placement
returns-clause-placement g c =
    let p = c.args.self.now in
    let ring = c.args.ring.now in
    let left = c.free_sections.ensures ∙ ap (λ (n : ℕ). without n ring) (ap (λ (q : Placement). q.sections) c.self.view_is) in
    subst (λ (n : ℕ). IsPlacementOf (record { sections = 0; entries = n }) c.free_sections.new.ring) (sym (ap (λ (q : Placement). q.entries) c.self.view_is))
    (subst (λ (r : JournalRing). IsPlacementOf (record { sections = 0; entries = p.entries }) r) (sym left) (without_is p ring c.requires.placement))

pub returns-clause-settled : goal.returns-clause-settled
returns-clause-settled g c d on =
    let p = c.args.self.now in
    let ring = c.args.ring.now in
    let left = c.free_sections.ensures ∙ ap (λ (n : ℕ). without n ring) (ap (λ (q : Placement). q.sections) c.self.view_is) in
    let cells = c.in_ok-flush.ensures.settled d on.cells in
    record {
      on =
          subst (λ (n : ℕ). IsPlacedOn (after_settle d) (record { sections = 0; entries = n }) c.free_sections.new.ring c.flush.new.tags (g.D.Disk.moments c.flush.new.disk)) (sym (ap (λ (q : Placement). q.entries) c.self.view_is))
          (subst (λ (r : JournalRing). IsPlacedOn (after_settle d) (record { sections = 0; entries = p.entries }) r c.flush.new.tags (g.D.Disk.moments c.flush.new.disk)) (sym left)
          (settled_on d p ring c.args.tags.now on c.flush.new.tags c.requires.placement.sections cells));
      images = λ content told image is. settled_cells_law (after_settle d) content (cells.now content told).stands refl image is;
    }
