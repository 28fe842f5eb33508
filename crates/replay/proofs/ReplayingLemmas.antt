-- A disk while the entries of a journal are placed.
use Rattle.std.proofs.Common.{◌≡◌, inl, inr, ℕ, zero, suc, ◌^◌, ◌<◌, ◌≤◌, refl, sym, ◌∙◌, ap, subst, arith, Option, Some, Ok, List, [], ◌∷◌, length, filter_map, slice_get, option_and_then}
use Rattle.std.specs.List.{Contains}
use Rattle.std.specs.Result.{is_ok}
use Rattle.std.proofs.lemmas.Option.{none-some, same_Some, slice_get_within, get_or_from_slice_get}
use Rattle.disk_model.specs.Disk.{Content, Image}
use Rattle.disk_model.specs.Identity.{DiskIdentity}
use Rattle.image_model.specs.declared.entry_place.EntryPlace.{EntryPlace}
use Rattle.image_model.specs.Cells.{entry_of, replayed_entries}
use Rattle.image_model.specs.Geometry.{Geometry, IsGeometry}
use Rattle.image_model.specs.Grid.{walk_of}
use Rattle.image_model.specs.Section.{Entry}
use Rattle.image_model.proofs.GeometryLemmas.{IsGeometry-larger}
use Rattle.image_model.proofs.NumberLemmas.{cases_option}
use Rattle.journal_model.specs.JournaledDisk.{JournaledDisk, IsFormed, StandsFor}
use Rattle.journal_reading.specs.declared.reading.JudgedJournal.{JudgedJournal}
use Rattle.journal_reading.specs.Index.{counted_places, numbered_entry}
use Rattle.journal_reading.specs.Journal.{journal_image}
use Rattle.journal_reading.specs.Places.{places_of}
use Rattle.journal_reading.proofs.IndexLemmas.{counted_places-walk, replayed-places}
use Rattle.journal_reading.proofs.JournalLemmas.{entry_of-journal, replayed_entries-journal, walk_of-journal}
use Rattle.tag_store.specs.Store.{IsStore, Store}
use Rattle.replay.specs.Replaying.{IsReadOn, entries_on, with_placed}

-- ---- what is kept of a list

module _ {X Y : Type 0} (f : X → Option Y) where
  -- What is kept of one element is among what is kept of all.
  kept_among : (xs : List X) (k : ℕ) (x : X) (y : Y) → slice_get xs k ≡ Some x → f x ≡ Some y → (i : ℕ) × (slice_get (filter_map f xs) i ≡ Some y)
  kept_among [] k x y there some = absurd (none-some x there)
  kept_among (a ∷ xs) zero x y there some =
      let here : f a ≡ Some y = ap f (same_Some a x there) ∙ some in
      (zero, rw here refl)
  kept_among (a ∷ xs) (suc k) x y there some = elim (cases_option (f a)) [
    | inl none ↦ let rest = kept_among xs k x y there some in (rest.0, rw none rest.1)
    | inr kept ↦ let rest = kept_among xs k x y there some in (suc rest.0, rw kept.1 rest.1)
  ]

-- ---- the entries of a walk

-- The entry at a place of it is one of them.
pub among_entries : (g : Geometry) (image : Image) (walk : List (ℕ × ℕ)) (k : ℕ) (place : EntryPlace) (entry : Entry) → slice_get (places_of g walk) k ≡ Some place → entry_of g image place ≡ Some entry
    → Contains (entries_on g image walk) entry
among_entries g image walk k place entry there some =
    let at = kept_among (entry_of g image) (places_of g walk) k place entry there some in
    (at.0, slice_get_within (entries_on g image walk) at.0 entry at.1, get_or_from_slice_get (entries_on g image walk) at.0 entry entry at.1)

module _ (g : Geometry) (sectors : ℕ) (bytes : List ℕ) (journal : JudgedJournal) (image : Image) (geometry : IsGeometry g sectors) (is : IsReadOn g bytes journal image) where
  walk_there : walk_of g (journal_image bytes) ≡ Ok journal.plan
  walk_there = sym (walk_of-journal g sectors bytes image geometry is.read) ∙ is.on.plan_

  -- By the bytes that were read they are those of the image,
  pub entries_read : entries_on g (journal_image bytes) journal.plan.walk ≡ replayed_entries g image
  entries_read =
      sym (replayed-places g (journal_image bytes) journal.plan walk_there)
      ∙ sym (replayed_entries-journal g sectors bytes image geometry is.read (ap is_ok walk_there))

  -- and each stands at its number.
  pub numbered_read : (k : ℕ) (place : EntryPlace) → slice_get (places_of g journal.plan.walk) k ≡ Some place → place.section < g.sections
      → entry_of g (journal_image bytes) place ≡ numbered_entry g image k
  numbered_read k place there low =
      sym (entry_of-journal g sectors bytes image geometry is.read place.section place.entry low)
      ∙ sym (ap (option_and_then (entry_of g image)) there)
      ∙ sym (ap (λ (xs : List EntryPlace). option_and_then (entry_of g image) (slice_get xs k)) (counted_places-walk g image journal.plan is.on.plan_))

  pub counted_read : length (places_of g journal.plan.walk) ≡ length (counted_places g image)
  counted_read = ap length (sym (counted_places-walk g image journal.plan is.on.plan_))

-- ---- more is placed

module _ (d : JournaledDisk) (p q : ℕ) (more : p ≤ q) (low : q ≤ length d.entries) where
  pub formed_more : IsFormed (with_placed p d) → IsFormed (with_placed q d)
  formed_more formed = record {
    has_geometry = formed.has_geometry;
    is_geometry = formed.is_geometry;
    no_bitmap = formed.no_bitmap;
    settled_low = let le = formed.settled_low in omega arith;
    placed_low = low;
    base = formed.base;
    each = formed.each;
  }

  -- What may be in place with some entries placed may be with more.
  pub StandsFor-more : (c : Content) → StandsFor (with_placed p d) c → StandsFor (with_placed q d) c
  StandsFor-more c stands = record {
    sound = record {
      formed = formed_more stands.sound.formed;
      has_walk = stands.sound.has_walk;
      held = stands.sound.held;
      start_low = stands.sound.start_low;
    };
    each = λ sector x has.
        let may = stands.each sector x has in
        record {
          outside = record {
            whole = may.outside.whole;
            head = may.outside.head;
            in_place = record {
              data_ = λ b k b_low k_low there. let at = may.outside.in_place.data_ b k b_low k_low there in (at.0, at.1, omega (arith, at.2), at.3);
              tags = λ b i b_low i_low rests there. let at = may.outside.in_place.tags b i b_low i_low rests there in (at.0, at.1, omega (arith, at.2), at.3);
            };
          };
          journal = may.journal;
        };
  }

-- The places of a store lie on some disk.
pub geometry_of : (g : Geometry) (store : Store) (disk : DiskIdentity) (moments : List Content) → g ≡ store.geometry → IsStore store disk moments → IsGeometry g (2 ^ 48)
geometry_of g store disk moments same is =
    subst (λ (x : Geometry). IsGeometry x (2 ^ 48)) (sym same) (IsGeometry-larger store.geometry disk.sectors (2 ^ 48) is.geometry is.geometry.device (omega arith))
