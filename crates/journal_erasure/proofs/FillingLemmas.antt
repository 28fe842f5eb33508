-- What filling a blank journal writes.
use Rattle.std.proofs.Common.{◌≡◌, ℕ, subst, List}
use Rattle.disk_model.specs.Disk.{Content, OnlyAdds}
use Rattle.disk_model.specs.Moments.{EachSince}
use Rattle.image_model.specs.Geometry.{Geometry, journal_sectors, section_at}
use Rattle.image_model.specs.Scan.{SectorCell}
use Rattle.journal_erasure.specs.Filling.{IsOfLacking, lacks_number}
use Rattle.journal_erasure.specs.Parts.{IsOfChosen}

-- What is written of the sectors of the whole journal.
pub lacking_moments : {a b : List Content} (g : Geometry) (cells : List SectorCell) (number at end : ℕ) (empty : List ℕ) → at ≡ section_at g 0 → end ≡ journal_sectors g
    → EachSince (OnlyAdds (IsOfChosen (lacks_number cells number) at 0 end empty)) a b → EachSince (OnlyAdds (IsOfLacking g cells number empty)) a b
lacking_moments {a} {b} g cells number at end empty here all m =
    subst (λ (n : ℕ). EachSince (OnlyAdds (IsOfChosen (lacks_number cells number) n 0 (journal_sectors g) empty)) a b) here
    (subst (λ (n : ℕ). EachSince (OnlyAdds (IsOfChosen (lacks_number cells number) at 0 n empty)) a b) all m)
