-- Which blocks the journal holds.
use Rattle.std.proofs.Common.{◌≡◌, ℕ, ◌-◌, ◌*◌, ◌/◌, ◌%◌, ◌≤◌, ◌==◌, Bool, true, false, ◌&&◌, ◌||◌, refl, sym, ◌∙◌, ap, subst, arith, Option, Some, None, List, [], ◌∷◌, ◌++◌, length, map}
use Rattle.std.specs.List.{AllByRecursion, list_any}
use Rattle.std.specs.Option.{is_some, option_or}
use Rattle.std.proofs.lemmas.List.{map-append}
use Rattle.std.proofs.lemmas.List.Folds.{list_any-append}
use Rattle.std.proofs.lemmas.Nat.{div-add-mod'}
use Rattle.image_model.specs.Cells.{last_entry, salt_of}
use Rattle.image_model.specs.Geometry.{Geometry}
use Rattle.image_model.specs.Section.{Entry}
use Rattle.device_model.specs.Journal.{SectionState, Free, SectionCounts, is_uncommitted, is_committed, is_unfreed}
use Rattle.place_model.proofs.EachLemmas.{all_flat, all_append, all_drop}
use Rattle.journal_model.specs.Entries.{IsBlockEntry}
use Rattle.journal_model.proofs.EntriesLemmas.{last_entry-append}
use Rattle.journal_model.proofs.HistoryLemmas.{same_block}
use Rattle.journal_model.specs.Ring.{entries_of}
use Rattle.journal_model.proofs.JournalRingLemmas.{entries_of-append}
use Rattle.journal_laws.specs.Device.{block_of, committed_counts, freed_count, placed_count, AreOpened}
use Rattle.journal_laws.specs.PromiseLaws.{IsJournaledLaw}
use Rattle.journal_laws.proofs.RingLemmas.{held_at}

module _ (g : Geometry) (b : ℕ) where
  abbrev here : SectionCounts → Bool
  here s = is_unfreed s && list_any (λ block. block == b) s.blocks

  abbrev among : List Entry → Bool
  among xs = list_any (λ block. block == b) (map (block_of g) xs)

  among-append : (xs ys : List Entry) → list_any (λ block. block == b) (map (block_of g) (xs ++ ys)) ≡ (list_any (λ block. block == b) (map (block_of g) xs) || list_any (λ block. block == b) (map (block_of g) ys))
  among-append xs ys = ap (list_any (λ block. block == b)) (map-append (block_of g) xs ys) ∙ list_any-append (λ block. block == b) (map (block_of g) xs) (map (block_of g) ys)

  none_free : (free : List SectionCounts) → AllByRecursion (λ (s : SectionCounts). s.state ≡ Free) free → list_any here free ≡ false
  none_free [] all = refl
  none_free (s ∷ free) all =
      let first : is_unfreed s ≡ false = ap (λ (state : SectionState). is_uncommitted state || is_committed state) all.0 in
      rw (first, none_free free all.1) refl

  any_committed : (p : ℕ) (xs : List (List Entry)) → list_any here (committed_counts g p xs) ≡ among (entries_of xs)
  any_committed p [] = refl
  any_committed p (x ∷ xs) = ap (λ (t : Bool). among x || t) (any_committed (p - length x) xs) ∙ sym (among-append x (entries_of xs))

  any_opened : (closed : Bool) (opened : List (List Entry)) (op : List SectionCounts) → AreOpened g closed opened op → list_any here op ≡ among (entries_of opened)
  any_opened closed [] [] are = refl
  any_opened closed [] (s ∷ op) are = absurd are
  any_opened closed (x ∷ opened) [] are = absurd are
  any_opened closed (x ∷ opened) (s ∷ op) are =
      let first : here s ≡ among x = ap (λ (t : Bool). (t || is_committed s.state) && list_any (λ block. block == b) s.blocks) are.0.uncommitted ∙ ap (list_any (λ block. block == b)) are.0.blocks in
      ap (λ (t : Bool). t || list_any here op) first ∙ ap (λ (t : Bool). among x || t) (any_opened closed opened op are.1) ∙ sym (among-append x (entries_of opened))

  -- An entry of the block among some is one that is found.
  module _ (some : 1 ≤ g.shape.spb) where
    one_found : (entry : Entry) → entry.sector % g.shape.spb ≡ 0 → (block_of g entry == b) ≡ is_some (last_entry g (entry ∷ []) b)
    one_found entry whole =
        let spb = g.shape.spb in
        let sector : entry.sector / spb * spb ≡ entry.sector = omega (arith, div-add-mod' entry.sector spb, whole) in
        sym (same_block (entry.sector / spb) b spb some) ∙ ap (λ (m : ℕ). m == b * spb) sector ∙ tells (entry.sector == b * spb) refl
      where
        tells : (t : Bool) → (entry.sector == b * g.shape.spb) ≡ t → t ≡ is_some (last_entry g (entry ∷ []) b)
        tells true e = rw e refl
        tells false e = rw e refl

    found : (xs : List Entry) → AllByRecursion (λ (entry : Entry). entry.sector % g.shape.spb ≡ 0) xs → among xs ≡ is_some (last_entry g xs b)
    found [] all = refl
    found (x ∷ xs) all =
        ap (λ (t : Bool). t || among xs) (one_found x all.0) ∙ ap (λ (t : Bool). is_some (last_entry g (x ∷ []) b) || t) (found xs all.1)
        ∙ either (last_entry g (x ∷ []) b) (last_entry g xs b)
        ∙ ap (λ (o : Option Entry). is_some o) (sym (last_entry-append g (x ∷ []) xs b))
      where
        either : (o p : Option Entry) → (is_some o || is_some p) ≡ is_some (option_or p o)
        either None None = refl
        either None (Some y) = refl
        either (Some x) None = refl
        either (Some x) (Some y) = refl

all_whole : (key salt : Option (List ℕ)) (g : Geometry) (xs : List Entry) → AllByRecursion (IsBlockEntry key salt g) xs → AllByRecursion (λ (entry : Entry). entry.sector % g.shape.spb ≡ 0) xs
all_whole key salt g [] all = tt
all_whole key salt g (x ∷ xs) all = (all.0.replayable.whole, all_whole key salt g xs all.1)

pub is_journaled_law : IsJournaledLaw
is_journaled_law f h j d r b is =
    let g = d.geometry in
    let c = is.counts in
    let part = placed_count d r in
    let P = IsBlockEntry d.key (salt_of d.superblock) g in
    let all : AllByRecursion P (entries_of (r.committed ++ r.opened)) =
    subst (AllByRecursion P) (sym (entries_of-append r.committed r.opened))
    (all_append P (entries_of r.committed) (entries_of r.opened) (subst (AllByRecursion P) (held_at d r is.sound is.is_ring) (all_drop P (freed_count d r) d.entries is.sound.formed.each)) (all_flat P r.opened is.is_ring.each)) in
    ap (list_any (here g b)) c.sections
    ∙ list_any-append (here g b) c.free (committed_counts g part r.committed ++ c.opened)
    ∙ ap (λ (t : Bool). t || list_any (here g b) (committed_counts g part r.committed ++ c.opened)) (none_free g b c.free c.all_free)
    ∙ list_any-append (here g b) (committed_counts g part r.committed) c.opened
    ∙ ap (λ (t : Bool). t || list_any (here g b) c.opened) (any_committed g b part r.committed)
    ∙ ap (λ (t : Bool). among g b (entries_of r.committed) || t) (any_opened g b r.closed r.opened c.opened c.are_opened)
    ∙ sym (among-append g b (entries_of r.committed) (entries_of r.opened))
    ∙ ap (among g b) (sym (entries_of-append r.committed r.opened))
    ∙ found g b is.sound.formed.is_geometry.spb.0 (entries_of (r.committed ++ r.opened)) (all_whole d.key (salt_of d.superblock) g (entries_of (r.committed ++ r.opened)) all)
