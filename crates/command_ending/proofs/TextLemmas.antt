-- Lines by their pieces.
use Rattle.std.proofs.Common.{◌≡◌, ℕ, List, [], ◌∷◌, ◌++◌, refl, sym, ap, ◌∙◌, subst, append_assoc, append-nil, codes, false, Result, OnOk, OnErr, Option}
use Rattle.std.specs.Option.{option_map}
use Rattle.std.proofs.lemmas.Result.{on_ok_weaker, on_err_weaker}
use Rattle.device_model.specs.Refusals.{ImageFault, LineFault, hexadecimal}
use Rattle.run_model.specs.Ending.{ByImage, BySecond, ByLine, refusal_line}
use Rattle.std.specs.Fmt.{digits}
use Rattle.stream_io.specs.Stream.{with_bytes, AddsPrefix}
use Rattle.stream_io.proofs.StreamLemmas.{AddsPrefix-then, with_bytes-with_bytes}
use Rattle.command_ending.specs.Ended.{Puts, rest_of_line, rest_of_image_line, numbered_line, script_line_of}

-- What is said of some bytes is said of the same ones.
pub as_written : {T E : Type 0} (r : Result T E) (a b : List ℕ) (old new : Option (List ℕ)) → a ≡ b
    → OnOk r (new ≡ option_map (with_bytes a) old) → OnOk r (new ≡ option_map (with_bytes b) old)
as_written r a b old new is =
    on_ok_weaker r (λ held. held ∙ ap (λ (x : List ℕ). option_map (with_bytes x) old) is)

pub as_prefix : {T E : Type 0} (r : Result T E) (a b : List ℕ) (old new : Option (List ℕ)) → a ≡ b
    → OnErr r (AddsPrefix a old new) → OnErr r (AddsPrefix b old new)
as_prefix r a b old new is = on_err_weaker r (subst (λ (x : List ℕ). AddsPrefix x old new) is)

pub same_put : {T E : Type 0} {r : Result T E} {a b : List ℕ} {old new : Option (List ℕ)} → a ≡ b
    → Puts a old new r → Puts b old new r
same_put {r = r} {a = a} {b = b} {old = old} {new = new} is put = record {
  written = as_written r a b old new is put.written;
  err = as_prefix r a b old new is put.err;
}

-- These bytes were taken, and then the line was put behind them.
pub put_behind : {T E : Type 0} (r : Result T E) (a b : List ℕ) (old middle new : Option (List ℕ))
    → middle ≡ option_map (with_bytes a) old → Puts b middle new r → Puts (a ++ b) old new r
put_behind r a b old middle new first put = record {
  written = on_ok_weaker r (λ held. held ∙ ap (option_map (with_bytes b)) first ∙ with_bytes-with_bytes a b old) put.written;
  err = on_err_weaker r (AddsPrefix-then a b old middle new first) put.err;
}

-- ---- pieces, put together from the left and from the right

abbrev pub from_left : List ℕ → List (List ℕ) → List ℕ
from_left text [] = text
from_left text (piece ∷ pieces) = from_left (text ++ piece) pieces

abbrev pub from_right : List (List ℕ) → List ℕ
from_right [] = []
from_right (piece ∷ pieces) = piece ++ from_right pieces

-- They make the same text.
pub same_pieces : (text : List ℕ) (pieces : List (List ℕ)) → text ++ from_right pieces ≡ from_left text pieces
same_pieces text [] = append-nil text
same_pieces text (piece ∷ pieces) = sym (append_assoc text piece (from_right pieces)) ∙ same_pieces (text ++ piece) pieces

three_parts : (a b c d : List ℕ) → ((a ++ b) ++ c) ++ d ≡ a ++ (b ++ (c ++ d))
three_parts a b c d = append_assoc (a ++ b) c d ∙ append_assoc a b (c ++ d)

-- ---- lines of an image, behind their first words

pub text_line : (text : List ℕ) → text ++ (codes "\n" ++ []) ≡ rest_of_line text
unfolding rest_of_line
text_line text = refl

pub number_line : (name digits number : List ℕ) → digits ≡ number
    → name ++ (digits ++ (codes "\n" ++ [])) ≡ rest_of_line (name ++ number)
number_line name digits number is =
    ap (λ (x : List ℕ). name ++ (x ++ codes "\n")) is
    ∙ sym (append_assoc name number (codes "\n"))
    ∙ text_line (name ++ number)

pub numbers_line : (name one other a b : List ℕ) → a ≡ one → b ≡ other
    → name ++ (a ++ (codes " " ++ (b ++ (codes "\n" ++ [])))) ≡ rest_of_line (name ++ one ++ codes " " ++ other)
numbers_line name one other a b is_one is_other =
    ap (λ (x : List ℕ). name ++ (x ++ (codes " " ++ (b ++ codes "\n")))) is_one
    ∙ ap (λ (x : List ℕ). name ++ (one ++ (codes " " ++ (x ++ codes "\n")))) is_other
    ∙ sym (three_parts (name ++ one) (codes " ") other (codes "\n") ∙ append_assoc name one _)
    ∙ text_line (name ++ one ++ codes " " ++ other)

pub flags_line : (name d : List ℕ) (flags : ℕ) → d ≡ digits 16 false flags
    → name ++ (codes "0x" ++ (d ++ (codes "\n" ++ []))) ≡ rest_of_line (name ++ hexadecimal flags)
flags_line name d flags is =
    ap (λ (x : List ℕ). name ++ (codes "0x" ++ (x ++ codes "\n"))) is
    ∙ sym (append_assoc name (hexadecimal flags) (codes "\n"))
    ∙ text_line (name ++ hexadecimal flags)

pub block_line : (section entry sector s e x : List ℕ) → s ≡ section → e ≡ entry → x ≡ sector
    → codes "journal block " ++ (s ++ (codes " " ++ (e ++ (codes " " ++ (x ++ (codes "\n" ++ []))))))
    ≡ rest_of_line (codes "journal block " ++ section ++ codes " " ++ entry ++ codes " " ++ sector)
block_line section entry sector s e x is_s is_e is_x =
    let space = codes " " in
    let after : List ℕ → List ℕ = λ y. codes "journal block " ++ y in
    ap (λ (y : List ℕ). after (y ++ (space ++ (e ++ (space ++ (x ++ codes "\n")))))) is_s
    ∙ ap (λ (y : List ℕ). after (section ++ (space ++ (y ++ (space ++ (x ++ codes "\n")))))) is_e
    ∙ ap (λ (y : List ℕ). after (section ++ (space ++ (entry ++ (space ++ (y ++ codes "\n")))))) is_x
    ∙ same_pieces (codes "journal block ") (section ∷ space ∷ entry ∷ space ∷ sector ∷ codes "\n" ∷ [])
    ∙ text_line (codes "journal block " ++ section ++ space ++ entry ++ space ++ sector)

pub tag_line : (section entry stored computed s e p q : List ℕ) → s ≡ section → e ≡ entry → p ≡ stored → q ≡ computed
    → codes "journal tag " ++ (s ++ (codes " " ++ (e ++ (codes " stored " ++ (p ++ (codes " computed " ++ (q ++ (codes "\n" ++ []))))))))
    ≡ rest_of_line (codes "journal tag " ++ section ++ codes " " ++ entry ++ codes " stored " ++ stored ++ codes " computed " ++ computed)
tag_line section entry stored computed s e p q is_s is_e is_p is_q =
    let space = codes " " in
    let behind : List ℕ → List ℕ → List ℕ → List ℕ → List ℕ =
    λ a b c d. codes "journal tag " ++ (a ++ (space ++ (b ++ (codes " stored " ++ (c ++ (codes " computed " ++ (d ++ codes "\n"))))))) in
    ap (λ (y : List ℕ). behind y e p q) is_s
    ∙ ap (λ (y : List ℕ). behind section y p q) is_e
    ∙ ap (λ (y : List ℕ). behind section entry y q) is_p
    ∙ ap (λ (y : List ℕ). behind section entry stored y) is_q
    ∙ same_pieces (codes "journal tag ")
    (section ∷ space ∷ entry ∷ codes " stored " ∷ stored ∷ codes " computed " ∷ computed ∷ codes "\n" ∷ [])
    ∙ text_line (codes "journal tag " ++ section ++ space ++ entry ++ codes " stored " ++ stored ++ codes " computed " ++ computed)

-- ---- the line of legs that are no mirror

pub legs_line : (a_blocks a_size b_blocks b_size p q r s : List ℕ) → p ≡ a_blocks → q ≡ a_size → r ≡ b_blocks → s ≡ b_size
    → codes "fault legs " ++ (p ++ (codes " " ++ (q ++ (codes " " ++ (r ++ (codes " " ++ (s ++ (codes "\n" ++ []))))))))
    ≡ codes "fault legs " ++ a_blocks ++ codes " " ++ a_size ++ codes " " ++ b_blocks ++ codes " " ++ b_size ++ codes "\n"
legs_line a_blocks a_size b_blocks b_size p q r s is_p is_q is_r is_s =
    let space = codes " " in
    let behind : List ℕ → List ℕ → List ℕ → List ℕ → List ℕ =
    λ a b c d. codes "fault legs " ++ (a ++ (space ++ (b ++ (space ++ (c ++ (space ++ (d ++ codes "\n"))))))) in
    ap (λ (y : List ℕ). behind y q r s) is_p
    ∙ ap (λ (y : List ℕ). behind a_blocks y r s) is_q
    ∙ ap (λ (y : List ℕ). behind a_blocks a_size y s) is_r
    ∙ ap (λ (y : List ℕ). behind a_blocks a_size b_blocks y) is_s
    ∙ same_pieces (codes "fault legs ")
    (a_blocks ∷ space ∷ a_size ∷ space ∷ b_blocks ∷ space ∷ b_size ∷ codes "\n" ∷ [])

-- ---- lines of a script

pub script_line : (number text : List ℕ)
    → codes "fault line " ++ (number ++ (codes " " ++ (text ++ codes "\n"))) ≡ numbered_line number text
unfolding numbered_line
script_line number text =
    ap (λ (x : List ℕ). codes "fault line " ++ x) (sym (three_parts number (codes " ") text (codes "\n")))

pub value_line : (number name value v : List ℕ) → v ≡ value
    → codes "fault line " ++ (number ++ (codes " " ++ (name ++ (v ++ (codes "\n" ++ [])))))
    ≡ numbered_line number (name ++ value)
value_line number name value v is =
    ap (λ (x : List ℕ). codes "fault line " ++ (number ++ (codes " " ++ (name ++ (x ++ codes "\n"))))) is
    ∙ ap (λ (x : List ℕ). codes "fault line " ++ (number ++ (codes " " ++ x)))
    (sym (append_assoc name value (codes "\n")))
    ∙ script_line number (name ++ value)

pub range_line : (number one other a b : List ℕ) → a ≡ one → b ≡ other
    → codes "fault line " ++ (number ++ (codes " range " ++ (a ++ (codes " " ++ (b ++ (codes "\n" ++ []))))))
    ≡ numbered_line number (codes "range " ++ one ++ codes " " ++ other)
range_line number one other a b is_one is_other =
    let after : List ℕ → List ℕ = λ x. codes "fault line " ++ (number ++ (codes " range " ++ x)) in
    ap (λ (x : List ℕ). after (x ++ (codes " " ++ (b ++ codes "\n")))) is_one
    ∙ ap (λ (x : List ℕ). after (one ++ (codes " " ++ (x ++ codes "\n")))) is_other
    ∙ ap after (sym (three_parts one (codes " ") other (codes "\n")))
    ∙ script_line number (codes "range " ++ one ++ codes " " ++ other)

pub form_line : (digits number name word text : List ℕ) → digits ≡ number → name ++ word ≡ text
    → codes "fault line " ++ (digits ++ (codes " " ++ (name ++ (word ++ (codes "\n" ++ [])))))
    ≡ numbered_line number text
form_line digits number name word text is_number is_text =
    ap (λ (x : List ℕ). codes "fault line " ++ (x ++ (codes " " ++ (name ++ (word ++ codes "\n"))))) is_number
    ∙ ap (λ (x : List ℕ). codes "fault line " ++ (number ++ (codes " " ++ x)))
    (sym (append_assoc name word (codes "\n")))
    ∙ ap (λ (x : List ℕ). codes "fault line " ++ (number ++ (codes " " ++ (x ++ codes "\n")))) is_text
    ∙ script_line number text

-- ---- as the last line of a refusal

pub image_told : (fault : ImageFault) → codes "fault image " ++ rest_of_image_line fault ≡ refusal_line (ByImage fault)
unfolding rest_of_line
image_told fault = refl

pub second_told : (fault : ImageFault) → codes "fault second " ++ rest_of_image_line fault ≡ refusal_line (BySecond fault)
unfolding rest_of_line
second_told fault = refl

pub line_told : (number : ℕ) (fault : LineFault)
    → script_line_of number fault ≡ refusal_line (ByLine number fault)
unfolding numbered_line
line_told number fault = refl
