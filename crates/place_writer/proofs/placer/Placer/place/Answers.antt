use Rattle.std.proofs.Common.{Some, length, sym, ◌∙◌, ap, subst, arith}
use Rattle.std.proofs.lemmas.Option.{same_Some}
use Rattle.disk_model.specs.Disk.{OnlyAdds}
use Rattle.disk_model.specs.Moments.{EachSince}
use Rattle.image_model.specs.Geometry.{Geometry}
use Rattle.image_model.specs.Section.{Entry}
use Rattle.journal_laws.specs.Device.{block_of}
use Rattle.direct_mode.specs.Cells.{IsOfBlockOrTags}
use Rattle.place_writer.specs.Moves.{GivesEntry, PlacesOne}
use Rattle.place_writer.specs.Placement.{IsPlacementOf, IsWholeEntry, after_next, next_place}
use Rattle.place_writer.specs.declared.placement.Placement.{Placement}
use Rattle.place_writer.proofs.PlacementLemmas.{after_is, entry_low, gives_next, next_found, places_one, sections_few, writes_next}
use Rattle.place_writer.proofs.PlacedOnLemmas.{cuts_placed, next_on, placed_on}
use Rattle.place_writer.proofs.placer.Placer.place.Goals as goal

pub place_entry-requires-clause-entry : goal.place_entry-requires-clause-entry
place_entry-requires-clause-entry g c =
    (next_found c.args.self.now c.args.ring.now c.in-Some.place c.requires.placement c.next.ensures.bounds
    (ap (λ (p : Placement). next_place p c.args.ring.now) (sym c.self.view_is) ∙ sym c.next.ensures.place ∙ c.in-Some.is)).low

pub place_entry-requires-clause-whole : goal.place_entry-requires-clause-whole
place_entry-requires-clause-whole g c entry there =
    let found = next_found c.args.self.now c.args.ring.now c.in-Some.place c.requires.placement c.next.ensures.bounds
    (ap (λ (p : Placement). next_place p c.args.ring.now) (sym c.self.view_is) ∙ sym c.next.ensures.place ∙ c.in-Some.is) in
    subst (λ (x : Entry). IsWholeEntry c.args.ring.now.geometry x) (same_Some found.entry entry (sym found.is ∙ there)) found.whole

pub returns-in_err-place_entry-clause-cuts : goal.returns-in_err-place_entry-clause-cuts
returns-in_err-place_entry-clause-cuts g c d on =
    let ring = c.args.ring.now in
    let found = next_found c.args.self.now ring c.in-Some.place c.requires.placement c.next.ensures.bounds
    (ap (λ (p : Placement). next_place p ring) (sym c.self.view_is) ∙ sym c.next.ensures.place ∙ c.in-Some.is) in
    cuts_placed d (c.place_entry.ensures.stands d found.entry found.is (next_on d c.args.self.now ring c.args.tags.now on found.entry found.told) on.cells)

pub returns-in_err-place_entry-clause-moments : goal.returns-in_err-place_entry-clause-moments
returns-in_err-place_entry-clause-moments g c =
    let ring = c.args.ring.now in
    let found = next_found c.args.self.now ring c.in-Some.place c.requires.placement c.next.ensures.bounds
    (ap (λ (p : Placement). next_place p ring) (sym c.self.view_is) ∙ sym c.next.ensures.place ∙ c.in-Some.is) in
    writes_next c.args.self.now ring found.entry found.told
    (subst (λ (y : Geometry). EachSince (OnlyAdds (IsOfBlockOrTags y (block_of y found.entry) found.entry.bytes)) (g.D.Disk.moments c.args.disk.now) (g.D.Disk.moments c.place_entry.new.disk)) (sym c.requires.geometry)
    (c.place_entry.ensures.moments found.entry found.is))

pub after_next-self-inside-requires-clause-sections : goal.after_next-self-inside-requires-clause-sections
after_next-self-inside-requires-clause-sections g c =
    let ring = c.args.ring.now in
    let found = next_found c.args.self.now ring c.in-Some.place c.requires.placement c.next.ensures.bounds
    (ap (λ (p : Placement). next_place p ring) (sym c.self.view_is) ∙ sym c.next.ensures.place ∙ c.in-Some.is) in
    omega (arith, sections_few c.args.tags.now.geometry _ c.requires.store.geometry, ap (λ (y : Geometry). y.sections) c.requires.geometry, found.more, c.next.ensures.bounds.fits, ap (λ (p : Placement). p.sections) c.self.view_is)

pub after_next-self-inside-requires-clause-entries : goal.after_next-self-inside-requires-clause-entries
after_next-self-inside-requires-clause-entries g c =
    let ring = c.args.ring.now in
    let found = next_found c.args.self.now ring c.in-Some.place c.requires.placement c.next.ensures.bounds
    (ap (λ (p : Placement). next_place p ring) (sym c.self.view_is) ∙ sym c.next.ensures.place ∙ c.in-Some.is) in
    omega (arith, entry_low c.args.self.now ring c.requires.placement found.more, ap length found.here, c.entries_in.ensures, ap (λ (p : Placement). p.entries) c.self.view_is)

pub returns-clause-moved : goal.returns-clause-moved
returns-clause-moved g c =
    let ring = c.args.ring.now in
    let found = next_found c.args.self.now ring c.in-Some.place c.requires.placement c.next.ensures.bounds
    (ap (λ (p : Placement). next_place p ring) (sym c.self.view_is) ∙ sym c.next.ensures.place ∙ c.in-Some.is) in
    subst (λ (q : Placement). PlacesOne c.args.self.now q ring)
    (sym (c.after_next-self-inside.ensures ∙ ap (λ (p : Placement). after_next p c.entries_in.result) c.self.view_is
    ∙ ap (after_next c.args.self.now) (c.entries_in.ensures ∙ ap length found.here)))
    (places_one c.args.self.now ring c.requires.placement found.more)

pub returns-clause-placement : goal.returns-clause-placement
returns-clause-placement g c =
    let ring = c.args.ring.now in
    let found = next_found c.args.self.now ring c.in-Some.place c.requires.placement c.next.ensures.bounds
    (ap (λ (p : Placement). next_place p ring) (sym c.self.view_is) ∙ sym c.next.ensures.place ∙ c.in-Some.is) in
    subst (λ (q : Placement). IsPlacementOf q ring)
    (sym (c.after_next-self-inside.ensures ∙ ap (λ (p : Placement). after_next p c.entries_in.result) c.self.view_is
    ∙ ap (after_next c.args.self.now) (c.entries_in.ensures ∙ ap length found.here)))
    (after_is c.args.self.now ring c.requires.placement found.more)

pub returns-clause-placed : goal.returns-clause-placed
returns-clause-placed g c d on =
    let ring = c.args.ring.now in
    let found = next_found c.args.self.now ring c.in-Some.place c.requires.placement c.next.ensures.bounds
    (ap (λ (p : Placement). next_place p ring) (sym c.self.view_is) ∙ sym c.next.ensures.place ∙ c.in-Some.is) in
    let moved : PlacesOne c.args.self.now c.after_next-self-inside.result ring = returns-clause-moved g c in
    placed_on d c.args.self.now ring c.args.tags.now on c.after_next-self-inside.result c.place_entry.new.tags moved.next
    (c.in_ok-place_entry.ensures.placed d found.entry found.is (next_on d c.args.self.now ring c.args.tags.now on found.entry found.told) on.cells)

pub returns-clause-tags : goal.returns-clause-tags
returns-clause-tags g c =
    let ring = c.args.ring.now in
    let found = next_found c.args.self.now ring c.in-Some.place c.requires.placement c.next.ensures.bounds
    (ap (λ (p : Placement). next_place p ring) (sym c.self.view_is) ∙ sym c.next.ensures.place ∙ c.in-Some.is) in
    let old = c.args.tags.now in
    let new = c.place_entry.new.tags in
    gives_next c.args.self.now ring found.entry old new (g.D.Disk.moments c.args.disk.now) (g.D.Disk.moments c.place_entry.new.disk) found.told
    (subst (λ (y : Geometry). GivesEntry y (Some found.entry) old new (g.D.Disk.moments c.args.disk.now) (g.D.Disk.moments c.place_entry.new.disk)) (sym c.requires.geometry)
    (c.in_ok-place_entry.ensures.tags found.entry found.is))

pub returns-clause-cuts : goal.returns-clause-cuts
returns-clause-cuts g c d on =
    let ring = c.args.ring.now in
    let found = next_found c.args.self.now ring c.in-Some.place c.requires.placement c.next.ensures.bounds
    (ap (λ (p : Placement). next_place p ring) (sym c.self.view_is) ∙ sym c.next.ensures.place ∙ c.in-Some.is) in
    cuts_placed d (c.place_entry.ensures.stands d found.entry found.is (next_on d c.args.self.now ring c.args.tags.now on found.entry found.told) on.cells)

pub returns-clause-moments : goal.returns-clause-moments
returns-clause-moments g c =
    let ring = c.args.ring.now in
    let found = next_found c.args.self.now ring c.in-Some.place c.requires.placement c.next.ensures.bounds
    (ap (λ (p : Placement). next_place p ring) (sym c.self.view_is) ∙ sym c.next.ensures.place ∙ c.in-Some.is) in
    writes_next c.args.self.now ring found.entry found.told
    (subst (λ (y : Geometry). EachSince (OnlyAdds (IsOfBlockOrTags y (block_of y found.entry) found.entry.bytes)) (g.D.Disk.moments c.args.disk.now) (g.D.Disk.moments c.place_entry.new.disk)) (sym c.requires.geometry)
    (c.place_entry.ensures.moments found.entry found.is))
