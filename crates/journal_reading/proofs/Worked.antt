-- The definitions at values from outside.
use Rattle.std.proofs.Common.{◌≡◌, refl, [], ◌∷◌}
use Rattle.journal_reading.specs.Journal.{journal_image}

-- Sector 8 is the first of the journal.
journal_image-first : journal_image (7 ∷ 9 ∷ []) 8 ≡ 7 ∷ 9 ∷ []
journal_image-first = refl
