use Rattle.std.proofs.Common.{◌≡◌, ◌<◌, ℕ, refl, sym, ◌∙◌, ap, subst, Option, Some, None, List}
use Rattle.std.specs.Prelude.{IfOk}
use Rattle.std.proofs.lemmas.Option.{none-some}
use Rattle.std.proofs.lemmas.Result.{IfOk-weaker}
use Rattle.disk_model.specs.Moments.{HasNow}
use Rattle.disk_model.proofs.MomentsLemmas.{no_moment}
use Rattle.image_model.specs.Geometry.{Geometry}
use Rattle.image_model.specs.Section.{Entry}
use Rattle.tag_store.specs.Store.{IsOutForTag}
use Rattle.journal_mode.specs.Journal.{PlacedRing}
use Rattle.journal_mode.specs.Reads.{GivesBlock, HasRead, IsCellNow, ReadsPlaced, newest_in}
use Rattle.journal_mode.specs.Standing.{JournalStanding, StandsAs}
use Rattle.journal_mode.specs.Calls.{GivesEach}
use Rattle.journal_mode.proofs.GivesLemmas.{tags_kept, tags_same, told_adds}
use Rattle.journal_mode.proofs.ReadsLemmas.{absent, entry_cell, entry_low, found, gives_entry, gives_placed, left_standing, placed_cell}
use Rattle.journal_mode.proofs.journal.Journal.read_block.Goals as goal

pub read_entry-requires-clause-section : goal.read_entry-requires-clause-section
read_entry-requires-clause-section g c =
    (found c.self.inside.ring c.self.inside.placer c.self.inside.overlay c.self.invariant c.args.block c.in-Some.place (sym c.in-Some.is ∙ c.newest.ensures)).section_low

pub read_entry-requires-clause-entry : goal.read_entry-requires-clause-entry
read_entry-requires-clause-entry g c =
    entry_low c.self.inside.ring c.args.block c.in-Some.place
    (found c.self.inside.ring c.self.inside.placer c.self.inside.overlay c.self.invariant c.args.block c.in-Some.place (sym c.in-Some.is ∙ c.newest.ensures))

pub returns-in-Some-clause-read : goal.returns-in-Some-clause-read
returns-in-Some-clause-read g c =
    let is = found c.self.inside.ring c.self.inside.placer c.self.inside.overlay c.self.invariant c.args.block c.in-Some.place (sym c.in-Some.is ∙ c.newest.ensures) in
    let told : newest_in c.args.self.now.ring c.args.block ≡ Some is.entry = ap (λ (j : PlacedRing). newest_in j.ring c.args.block) (sym c.self.view_is) ∙ is.newest in
    subst (λ (o : Option Entry). HasRead o c.args.block c.read_entry.new.out c.read_entry.result c.args.tags.now c.args.tags.now c.args.disk.now c.args.disk.now (g.D.Disk.moments c.args.disk.now)) (sym told)
    (record {
      bytes_ = c.read_entry.ensures.bytes is.entry is.there;
      tag_ = c.read_entry.ensures.tag is.entry is.there;
      store = refl;
      disk = refl;
    })

pub returns-in-Some-clause-cell : goal.returns-in-Some-clause-cell
returns-in-Some-clause-cell g c w stands idle content now =
    let is = found c.self.inside.ring c.self.inside.placer c.self.inside.overlay c.self.invariant c.args.block c.in-Some.place (sym c.in-Some.is ∙ c.newest.ensures) in
    let told : newest_in c.args.self.now.ring c.args.block ≡ Some is.entry = ap (λ (j : PlacedRing). newest_in j.ring c.args.block) (sym c.self.view_is) ∙ is.newest in
    let low : c.args.block < c.args.self.now.ring.geometry.blocks = subst (λ (y : Geometry). c.args.block < y.blocks) (sym c.requires.geometry) c.requires.block.low in
    subst (λ (xs : List ℕ). GivesBlock w c.args.block xs c.read_entry.result) (sym (c.read_entry.ensures.bytes is.entry is.there))
    (subst (λ (tag : List ℕ). GivesBlock w c.args.block is.entry.bytes tag) (sym (c.read_entry.ensures.tag is.entry is.there))
    (gives_entry w c.args.self.now c.args.tags.now (g.D.Disk.moments c.args.disk.now) c.args.block stands idle low is.entry told))

pub returns-in-Some-clause-whole : goal.returns-in-Some-clause-whole
returns-in-Some-clause-whole g c w awaiting stands idle keeps rested content now =
    let is = found c.self.inside.ring c.self.inside.placer c.self.inside.overlay c.self.invariant c.args.block c.in-Some.place (sym c.in-Some.is ∙ c.newest.ensures) in
    let told : newest_in c.args.self.now.ring c.args.block ≡ Some is.entry = ap (λ (j : PlacedRing). newest_in j.ring c.args.block) (sym c.self.view_is) ∙ is.newest in
    let low : c.args.block < c.args.self.now.ring.geometry.blocks = subst (λ (y : Geometry). c.args.block < y.blocks) (sym c.requires.geometry) c.requires.block.low in
    subst (λ (xs : List ℕ). IsCellNow w c.args.block xs c.read_entry.result) (sym (c.read_entry.ensures.bytes is.entry is.there))
    (subst (λ (tag : List ℕ). IsCellNow w c.args.block is.entry.bytes tag) (sym (c.read_entry.ensures.tag is.entry is.there))
    (entry_cell w c.args.self.now c.args.tags.now (g.D.Disk.moments c.args.disk.now) c.args.block stands idle low is.entry told))

pub returns-in-Some-clause-kept : goal.returns-in-Some-clause-kept
returns-in-Some-clause-kept g c w stands = record {
  stands = no_moment (g.D.Disk.moments c.args.disk.now) _;
  left = no_moment (g.D.Disk.moments c.args.disk.now) _;
  now = stands;
  gives = tags_same w.disk c.args.tags.now (g.D.Disk.moments c.args.disk.now);
}

pub returns-in-None-clause-read : goal.returns-in-None-clause-read
returns-in-None-clause-read g c =
    let none : newest_in c.args.self.now.ring c.args.block ≡ None =
    ap (λ (j : PlacedRing). newest_in j.ring c.args.block) (sym c.self.view_is)
    ∙ absent c.self.inside.ring c.self.inside.placer c.self.inside.overlay c.self.invariant c.args.block (sym c.in-None.is ∙ c.newest.ensures) in
    subst (λ (o : Option Entry). IfOk c.read_placed.result (λ tag. HasRead o c.args.block c.read_placed.new.out tag c.args.tags.now c.read_placed.new.tags c.args.disk.now c.read_placed.new.disk (g.D.Disk.moments c.args.disk.now))) (sym none)
    c.read_placed.ensures.read

pub returns-in-None-clause-cell : goal.returns-in-None-clause-cell
returns-in-None-clause-cell g c =
    let none : newest_in c.args.self.now.ring c.args.block ≡ None =
    ap (λ (j : PlacedRing). newest_in j.ring c.args.block) (sym c.self.view_is)
    ∙ absent c.self.inside.ring c.self.inside.placer c.self.inside.overlay c.self.invariant c.args.block (sym c.in-None.is ∙ c.newest.ensures) in
    let store = c.args.tags.now in
    let before = g.D.Disk.moments c.args.disk.now in
    let low : c.args.block < c.args.self.now.ring.geometry.blocks = subst (λ (y : Geometry). c.args.block < y.blocks) (sym c.requires.geometry) c.requires.block.low in
    IfOk-weaker c.read_placed.result (λ tag. ReadsPlaced c.args.block c.read_placed.new.out tag store before)
    (λ tag. (w : JournalStanding) → StandsAs w c.args.self.now store before → w.history.pending ≡ None → HasNow (λ x. GivesBlock w c.args.block c.read_placed.new.out tag) before)
    (λ tag reads w stands idle. gives_placed w c.args.self.now store before c.args.block stands idle low c.read_placed.new.out tag (c.read_placed.auto.out ∙ c.requires.block.size) none reads)
    c.read_placed.ensures.read

pub returns-in-None-clause-whole : goal.returns-in-None-clause-whole
returns-in-None-clause-whole g c =
    let none : newest_in c.args.self.now.ring c.args.block ≡ None =
    ap (λ (j : PlacedRing). newest_in j.ring c.args.block) (sym c.self.view_is)
    ∙ absent c.self.inside.ring c.self.inside.placer c.self.inside.overlay c.self.invariant c.args.block (sym c.in-None.is ∙ c.newest.ensures) in
    let store = c.args.tags.now in
    let before = g.D.Disk.moments c.args.disk.now in
    let low : c.args.block < c.args.self.now.ring.geometry.blocks = subst (λ (y : Geometry). c.args.block < y.blocks) (sym c.requires.geometry) c.requires.block.low in
    IfOk-weaker c.read_placed.result (λ tag. ReadsPlaced c.args.block c.read_placed.new.out tag store before)
    (λ tag. GivesEach c.args.self.now c.args.block c.read_placed.new.out tag store before)
    (λ tag reads w awaiting stands idle keeps rested.
    placed_cell w c.args.self.now store before c.args.block stands idle low awaiting c.read_placed.new.out tag (c.read_placed.auto.out ∙ c.requires.block.size) none keeps (rested none) reads)
    c.read_placed.ensures.read

pub returns-in-None-clause-journaled : goal.returns-in-None-clause-journaled
returns-in-None-clause-journaled g c entry told =
    let none : newest_in c.args.self.now.ring c.args.block ≡ None =
    ap (λ (j : PlacedRing). newest_in j.ring c.args.block) (sym c.self.view_is)
    ∙ absent c.self.inside.ring c.self.inside.placer c.self.inside.overlay c.self.invariant c.args.block (sym c.in-None.is ∙ c.newest.ensures) in
    absurd (none-some entry (sym none ∙ told))

pub returns-in-None-clause-kept : goal.returns-in-None-clause-kept
returns-in-None-clause-kept g c w stands =
    let through = c.read_placed.ensures.stands w.disk stands.placed.cells in record {
      stands = through;
      left = left_standing w c.args.self.now c.args.tags.now stands through;
      now = record {
        device = stands.device;
        placed = record {
          ring_ = stands.placed.ring_;
          placed = stands.placed.placed;
          cells = c.read_placed.ensures.cells w.disk stands.placed.cells;
        };
      };
      gives =
          tags_kept w.disk w.disk c.args.tags.now c.read_placed.new.tags (g.D.Disk.moments c.args.disk.now) (g.D.Disk.moments c.read_placed.new.disk) stands.placed.cells.geometry (λ n low. refl)
          (told_adds (IsOutForTag c.args.block c.args.tags.now) (g.D.Disk.moments c.args.disk.now) (g.D.Disk.moments c.read_placed.new.disk) c.read_placed.ensures.moments)
          c.read_placed.ensures.tags;
    }
