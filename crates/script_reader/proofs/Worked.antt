-- The lines that are left of scripts, by hand. 16777210 bytes stand before some, so that six more are within
-- the bound.
use Rattle.std.specs.Prelude.{◌≡◌, [], ◌∷◌, codes, refl}
use Rattle.script_reader.specs.Lines.{lines_left}

lines_left-some : lines_left 7 (codes "flush\n\nread 0 1\n") ≡ codes "flush" ∷ [] ∷ codes "read 0 1" ∷ []
lines_left-some = refl

lines_left-open : lines_left 7 (codes "flush\nflush") ≡ codes "flush" ∷ codes "flush" ∷ []
lines_left-open = refl

lines_left-to_the_bound : lines_left 16777210 (codes "ab\ncde") ≡ codes "ab" ∷ codes "cde" ∷ []
lines_left-to_the_bound = refl

lines_left-beyond : lines_left 16777210 (codes "ab\ncdef") ≡ codes "ab" ∷ []
lines_left-beyond = refl

lines_left-newline_beyond : lines_left 16777210 (codes "ab\ncde\n") ≡ codes "ab" ∷ []
lines_left-newline_beyond = refl

lines_left-newline_at_the_bound : lines_left 16777210 (codes "ab\ncd\nf") ≡ codes "ab" ∷ codes "cd" ∷ []
lines_left-newline_at_the_bound = refl

lines_left-at_the_bound : lines_left 16777216 (codes "a\n") ≡ []
lines_left-at_the_bound = refl
