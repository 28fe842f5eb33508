-- Texts by their lines.
use Rattle.std.proofs.Common.{◌≡◌, ℕ, List, [], ◌∷◌, ◌++◌, codes, refl, sym, ap, ◌∙◌, append_assoc, append-nil}
use Rattle.std.specs.Fmt.{decimal}
use Rattle.dump_model.specs.Lines.{joined_lines}

joined_lines-append : (a b : List (List ℕ)) → joined_lines (a ++ b) ≡ joined_lines a ++ joined_lines b
joined_lines-append [] b = refl
joined_lines-append (line ∷ a) b =
    ap (λ (xs : List ℕ). (line ++ codes "\n") ++ xs) (joined_lines-append a b)
    ∙ sym (append_assoc (line ++ codes "\n") (joined_lines a) (joined_lines b))

-- One more line, put before the others.
line_before : (all first second line : List ℕ) (lines : List (List ℕ))
    → second ≡ first ++ (line ++ codes "\n") → all ≡ second ++ joined_lines lines
    → all ≡ first ++ joined_lines (line ∷ lines)
line_before all first second line lines put rest =
    rest ∙ ap (λ (xs : List ℕ). xs ++ joined_lines lines) put
    ∙ append_assoc first (line ++ codes "\n") (joined_lines lines)

-- ---- for callers

-- Five lines, of which each was put behind the one before it.
pub five_lines : (t u v w x y a b c d e : List ℕ)
    → u ≡ t ++ (a ++ codes "\n") → v ≡ u ++ (b ++ codes "\n") → w ≡ v ++ (c ++ codes "\n")
    → x ≡ w ++ (d ++ codes "\n") → y ≡ x ++ (e ++ codes "\n")
    → y ≡ t ++ joined_lines (a ∷ b ∷ c ∷ d ∷ e ∷ [])
five_lines t u v w x y a b c d e is_u is_v is_w is_x is_y =
    line_before y t u a (b ∷ c ∷ d ∷ e ∷ []) is_u
    (line_before y u v b (c ∷ d ∷ e ∷ []) is_v
    (line_before y v w c (d ∷ e ∷ []) is_w
    (line_before y w x d (e ∷ []) is_x
    (line_before y x y e [] is_y (sym (append-nil y))))))

-- Lines in two parts,
pub two_parts : (t u v : List ℕ) (a b : List (List ℕ)) → u ≡ t ++ joined_lines a → v ≡ u ++ joined_lines b
    → v ≡ t ++ joined_lines (a ++ b)
two_parts t u v a b is_u is_v =
    is_v ∙ ap (λ (xs : List ℕ). xs ++ joined_lines b) is_u
    ∙ append_assoc t (joined_lines a) (joined_lines b)
    ∙ ap (λ (xs : List ℕ). t ++ xs) (sym (joined_lines-append a b))

-- and in three, where there was no text before.
pub three_parts : (none t u v : List ℕ) (a b c : List (List ℕ)) → none ≡ []
    → t ≡ none ++ joined_lines a → u ≡ t ++ joined_lines b → v ≡ u ++ joined_lines c
    → v ≡ joined_lines (a ++ b ++ c)
three_parts none t u v a b c is_none is_t is_u is_v =
    two_parts none u v (a ++ b) c (two_parts none t u a b is_t is_u) is_v
    ∙ ap (λ (xs : List ℕ). xs ++ joined_lines (a ++ b ++ c)) is_none

-- A line with a number, which is this one.
pub number_put : (t u name : List ℕ) (n m : ℕ) → u ≡ t ++ (name ++ decimal n ++ codes "\n") → n ≡ m
    → u ≡ t ++ (name ++ decimal m ++ codes "\n")
number_put t u name n m put is = put ∙ ap (λ (k : ℕ). t ++ (name ++ decimal k ++ codes "\n")) is

-- One line with a number, put behind a text.
pub number_line : (t u name : List ℕ) (n : ℕ) → u ≡ t ++ (name ++ decimal n ++ codes "\n")
    → u ≡ t ++ joined_lines ((name ++ decimal n) ∷ [])
number_line t u name n put =
    put ∙ ap (λ (xs : List ℕ). t ++ xs) (sym (append-nil (name ++ decimal n ++ codes "\n")))
