-- Texts that are printed one after the other, and how far that came.
use Rattle.std.proofs.Common.{◌≡◌, ◌≢◌, ℕ, ◌+◌, ◌<◌, Bool, List, [], ◌∷◌, ◌++◌, length, take, map, flat_map, append_assoc, length-append, length-take, arith, refl, sym, ◌∙◌, ap, subst}
use Rattle.std.proofs.lemmas.List.Concat.{flat_map-cons}
use Rattle.run_model.specs.Ending.{Ending, Failed}
use Rattle.run_model.specs.ScriptRun.{ScriptStep, changes_in, texts_of}
use Rattle.run_laws.proofs.ScriptRunLemmas.{came_into, run_is_whole}
use Rattle.run_model.specs.CommandRun.{IsEndedShort, IsFromOutside, only_prints, printing_step}
use Rattle.command_task.proofs.RunningLemmas.{short_further}
use Rattle.run_model.specs.declared.outer.Outer.TheVariants as outers

-- The first of them says something.
abbrev pub BeginsText : List (List ℕ) → Type 0
BeginsText [] = ⊥
BeginsText (text ∷ texts) = 0 < length text

-- The first is printed so far, and not to its end.
pub text_short : (text : List ℕ) (texts : List (List ℕ)) (found : Bool) (count : ℕ) (ending : Ending) → count < length text
    → (ending ≢ Failed outers.Sink → count ≡ 0) → IsFromOutside ending
    → IsEndedShort (only_prints (text ∷ texts) found) (take count text) [] ending
text_short text texts found count ending less only outside =
    let step = printing_step text in
    let rest = only_prints texts found in
    let all : length (texts_of (only_prints (text ∷ texts) found).steps) ≡ length text + length (texts_of rest.steps) =
    ap length (run_is_whole step rest).0 ∙ length-append text (texts_of rest.steps) in
    record {
      came = (came_into step rest).text count less;
      whole_steps = λ other. (0, ap (λ n. take n text) (only other));
      short = λ complete. omega (arith, less, length-take count text, all);
      outside = outside;
    }

-- Nothing is printed.
pub none_short : (texts : List (List ℕ)) (found : Bool) (ending : Ending) → BeginsText texts → IsFromOutside ending
    → IsEndedShort (only_prints texts found) [] [] ending
none_short [] found ending begins outside = absurd begins
none_short (text ∷ texts) found ending begins outside = text_short text texts found 0 ending begins (λ other. refl) outside

module _ {X : Type 0} (f : X → List ℕ) where
  -- These are printed, and of the rest so much.
  pub texts_short : (done : List X) (rest : List (List ℕ)) (found : Bool) (text : List ℕ) (ending : Ending)
      → IsEndedShort (only_prints rest found) text [] ending
      → IsEndedShort (only_prints (map f done ++ rest) found) (flat_map f done ++ text) [] ending
  texts_short [] rest found text ending cut = cut
  texts_short (x ∷ done) rest found text ending cut =
      subst (λ (l : List ℕ). IsEndedShort (only_prints (map f (x ∷ done) ++ rest) found) l [] ending)
      (sym (append_assoc (f x) (flat_map f done) text) ∙ ap (λ (l : List ℕ). l ++ text) (sym (flat_map-cons f x done)))
      (short_further (printing_step (f x)) (only_prints (map f done ++ rest) found) (flat_map f done ++ text) [] ending
      (texts_short done rest found text ending cut))

  -- All are printed.
  pub texts_whole : (done : List X) (rest : List (List ℕ))
      → texts_of (map printing_step (map f done ++ rest)) ≡ flat_map f done ++ texts_of (map printing_step rest)
  texts_whole [] rest = refl
  texts_whole (x ∷ done) rest =
      flat_map-cons (λ (s : ScriptStep). s.text) (printing_step (f x)) (map printing_step (map f done ++ rest))
      ∙ ap (λ (l : List ℕ). f x ++ l) (texts_whole done rest)
      ∙ sym (append_assoc (f x) (flat_map f done) (texts_of (map printing_step rest)))
      ∙ ap (λ (l : List ℕ). l ++ texts_of (map printing_step rest)) (sym (flat_map-cons f x done))

-- A text changes nothing.
pub texts_change_nothing : (texts : List (List ℕ)) → changes_in (map printing_step texts) ≡ []
texts_change_nothing [] = refl
texts_change_nothing (text ∷ texts) =
    flat_map-cons (λ (s : ScriptStep). s.changes) (printing_step text) (map printing_step texts)
    ∙ texts_change_nothing texts
