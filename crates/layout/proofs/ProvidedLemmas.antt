-- How many sectors a disk is told to provide.
use Rattle.std.proofs.Common.{◌≡◌, ◌≢◌, ℕ, ◌+◌, ◌^◌, Bool, List, [], ◌∷◌, Ok, Err, refl, sym, ap, ◌∙◌}
use Rattle.std.specs.Prelude.{◌==◌}
use Rattle.std.proofs.lemmas.Bool.{eq-eqb, le-ltb, ne_eqb}
use Rattle.image_model.specs.Faults.{ok_unless}
use Rattle.image_model.specs.Superblock.{Superblock}
use Rattle.image_model.specs.Geometry.{Geometry, best_provided, best_provided_of, initial, journal_sectors, layout_of, size_faults}
use Rattle.image_model.specs.declared.geom_fault.GeomFault.{GeomFault}
use Rattle.image_model.specs.declared.geom_fault.GeomFault.TheVariants.{TooSmall}
use Rattle.image_model.proofs.FaultLemmas.{ok_unless-append_err}
use Rattle.layout.specs.Layout.{IsWithinLimits}
use Rattle.layout.proofs.RoomLemmas.{journal_within}

-- The sectors without which a disk provides none.
abbrev least_sectors : Geometry → ℕ
least_sectors g = initial g + g.tag_run + 8

-- ---- for callers

-- What is refused by size alone is refused.
pub best_provided_of-refused : (s : Superblock) (sectors : ℕ) (fault : GeomFault)
    → Err fault ≡ ok_unless (size_faults (layout_of s) sectors) (layout_of s) → Err fault ≡ best_provided_of s sectors
unfolding best_provided_of
best_provided_of-refused s sectors fault told =
    let g = layout_of s in
    let best = best_provided g sectors in
    let later : List (Bool × GeomFault) = (best == 0, TooSmall sectors (least_sectors g)) ∷ [] in
    sym (ok_unless-append_err (size_faults g sectors) later g best fault (sym told))

-- A disk that can provide no sector is too small.
pub best_provided_of-none : (s : Superblock) (sectors best need : ℕ) (g : Geometry) → IsWithinLimits s sectors g
    → best ≡ best_provided g sectors → best ≡ 0 → need ≡ least_sectors g
    → Err (TooSmall sectors need) ≡ best_provided_of s sectors
unfolding best_provided_of
best_provided_of-none s sectors best need g within best_is none need_is =
    let own = sym within.geometry in
    let best_own : best_provided (layout_of s) sectors ≡ 0 =
    ap (λ g. best_provided g sectors) own ∙ sym best_is ∙ none in
    let need_own : least_sectors (layout_of s) ≡ need = ap least_sectors own ∙ sym need_is in
    let device = le-ltb (2 ^ 48) sectors within.device in
    let journal = le-ltb (2 ^ 20) (journal_sectors (layout_of s)) (journal_within s sectors g within) in
    rw (device, journal, eq-eqb _ 0 best_own, need_own) refl

-- Another provides the most that it can.
pub best_provided_of-best : (s : Superblock) (sectors best : ℕ) (g : Geometry) → IsWithinLimits s sectors g
    → best ≡ best_provided g sectors → best ≢ 0 → Ok best ≡ best_provided_of s sectors
unfolding best_provided_of
best_provided_of-best s sectors best g within best_is some =
    let best_own : best_provided (layout_of s) sectors ≡ best =
    ap (λ g. best_provided g sectors) (sym within.geometry) ∙ sym best_is in
    let device = le-ltb (2 ^ 48) sectors within.device in
    let journal = le-ltb (2 ^ 20) (journal_sectors (layout_of s)) (journal_within s sectors g within) in
    rw (device, journal, best_own, ne_eqb best 0 some) refl
