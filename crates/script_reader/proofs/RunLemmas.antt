-- What a reader of lines finds, run by run.
use Rattle.std.proofs.Common.{◌≡◌, ◌≢◌, ⊎_elim, ℕ, ◌+◌, ◌<◌, ◌≤◌, List, [], ◌∷◌, ◌++◌, length, take, refl, sym, ◌∙◌, ap, subst, inl, inr, arith, append_assoc, append-nil, length-append, Option, None, Some}
use Rattle.std.specs.Option.{ForSome, IsSomeAnd}
use Rattle.std.specs.List.{Contains}
use Rattle.std.proofs.Math.Seq.{take-append_seam}
use Rattle.std.proofs.lemmas.List.Elements.{All-append, Contains-append_cases}
use Rattle.device_model.specs.Grammar.{most_line}
use Rattle.device_model.specs.ScriptBytes.{most_script, HasNoNewline}
use Rattle.script_reader.specs.Reading.{Reading, IsWithin, IsSettled, TakesLine, BeginsLine}
use Rattle.script_reader.specs.Lines.{lines_left, FindsWholeLine, FindsLongLine, FindsLongScript, FindsLine}
use Rattle.script_reader.specs.Run.{TakesRun, EndsRun}
use Rattle.script_reader.specs.declared.next_line.NextLine.{NextLine}
use Rattle.script_reader.specs.declared.next_line.NextLine.TheVariants.{Line, End, LongLine, LongScript}
use Rattle.script_reader.proofs.ToldLemmas.{told_weaker, told_then}
use Rattle.script_reader.proofs.LinesLemmas.{lines_left-ended, lines_left-some, lines_left-none, lines_left-bound, lines_left-long}

-- ---- one run

HasNoNewline-run : (ending : List ℕ) (old new : Reading) → HasNoNewline old.line → TakesRun ending old new
    → HasNoNewline new.line
HasNoNewline-run ending old new plain run =
    rw run.line (All-append (λ byte. byte ≢ 10) old.line run.run plain run.plain)

-- The bytes to come are those of the line, the ending and what follows it.
run_bytes : (ending : List ℕ) (start old new : Reading) (before left : List ℕ)
    → BeginsLine start old before (old.unread ++ left) → TakesRun ending old new
    → before ≡ new.line ++ (ending ++ (new.unread ++ left))
run_bytes ending start old new before left begins run =
    begins.bytes ∙ (rw (run.unread, run.line) (simp append_assoc))

run_counted : (ending : List ℕ) (start old new : Reading) (before left : List ℕ)
    → BeginsLine start old before (old.unread ++ left) → TakesRun ending old new
    → new.taken ≡ start.taken + length new.line + length ending
run_counted ending start old new before left begins run =
    omega (arith, begins.counted, run.taken, ap length run.line, length-append old.line run.run)

-- More bytes were read: of the reader what is unread alone has changed.
BeginsLine-read : (start old now : Reading) (before left later : List ℕ)
    → BeginsLine start old before (old.unread ++ left)
    → now ≡ record old { unread = now.unread } → old.unread ++ left ≡ now.unread ++ later
    → BeginsLine start now before (now.unread ++ later)
BeginsLine-read start old now before left later begins same goes =
    let line : now.line ≡ old.line = ap (λ (r : Reading). r.line) same in
    let taken : now.taken ≡ old.taken = ap (λ (r : Reading). r.taken) same in
    record {
      plain = rw line begins.plain;
      bytes = begins.bytes ∙ (rw (line, goes) refl);
      counted = rw (line, taken) begins.counted;
    }

BeginsLine-run : (start old new : Reading) (before left : List ℕ)
    → BeginsLine start old before (old.unread ++ left) → TakesRun [] old new
    → BeginsLine start new before (new.unread ++ left)
BeginsLine-run start old new before left begins run = record {
  plain = HasNoNewline-run [] old new begins.plain run;
  bytes = run_bytes [] start old new before left begins run;
  counted = omega (arith, run_counted [] start old new before left begins run);
}

TakesLine-begins : (start now : Reading) (before after : List ℕ) → BeginsLine start now before after
    → TakesLine start now before after
TakesLine-begins start now before after begins = record {
  plain = begins.plain;
  ending = [];
  short = omega arith;
  bytes = begins.bytes;
  counted = omega (arith, begins.counted);
}

TakesLine-run : (ending : List ℕ) (start old new : Reading) (before left : List ℕ) → length ending ≤ 1
    → BeginsLine start old before (old.unread ++ left) → TakesRun ending old new
    → TakesLine start new before (new.unread ++ left)
TakesLine-run ending start old new before left short begins run = record {
  plain = HasNoNewline-run ending old new begins.plain run;
  ending = ending;
  short = short;
  bytes = run_bytes ending start old new before left begins run;
  counted = run_counted ending start old new before left begins run;
}

-- ---- what was read settles the line

pub IsSettled-run : (old new : Reading) → TakesRun [] old new → IsSettled old → IsSettled new
IsSettled-run old new run settled = ⊎_elim
    (λ contains.
    let P : List ℕ → Type 0 = λ unread. Contains unread 10 in
    ⊎_elim
    (λ here. absurd (run.plain here.0 10 here.1 here.2))
    (λ behind. inl behind)
    (Contains-append_cases run.run new.unread 10 (subst P run.unread contains)))
    (λ beyond. inr (omega (arith, beyond, run.taken, ap length run.unread, length-append run.run new.unread)))
    settled

-- Then not all bytes that were read are taken.
pub IsSettled-unread : (reading now : Reading) → now ≡ record reading { unread = now.unread } → IsWithin now
    → IsSettled reading → 0 < length reading.unread
IsSettled-unread reading now same within settled = ⊎_elim
    (λ contains. omega (arith, contains.1))
    (λ beyond. omega (arith, beyond, within.taken, ap (λ (r : Reading). r.taken) same))
    settled

-- ---- inside a line

-- The reader is inside a line that began when it stood at `start` and its source had `first` left.
pub record IsInLine (start : Reading) (first : Option (List ℕ)) (now : Reading) (last : Option (List ℕ))
    : Type 0 where
  pub begins : ForSome first (λ left. IsSomeAnd last
      (λ later. BeginsLine start now (start.unread ++ left) (now.unread ++ later)))
  pub short : length now.line ≤ most_line
  pub counted : now.taken ≡ start.taken + length now.line

-- More bytes were read.
pub IsInLine-read : (start old now : Reading) (first middle last : Option (List ℕ))
    → IsInLine start first old middle
    → now ≡ record old { unread = now.unread }
    → ForSome middle (λ left. IsSomeAnd last
    (λ later. (old.unread ++ left ≡ now.unread ++ later) × (now.unread ≡ [] → later ≡ [])))
    → IsInLine start first now last
IsInLine-read start old now first middle last inside same read = record {
  begins =
      told_then
      (λ left between. BeginsLine start old (start.unread ++ left) (old.unread ++ between))
      (λ between later. (old.unread ++ between ≡ now.unread ++ later) × (now.unread ≡ [] → later ≡ []))
      (λ left later. BeginsLine start now (start.unread ++ left) (now.unread ++ later))
      first middle last inside.begins read
      (λ left between later begins goes. BeginsLine-read start old now (start.unread ++ left) between later
      begins same goes.0);
  short = rw (ap (λ (r : Reading). r.line) same) inside.short;
  counted = rw (ap (λ (r : Reading). r.line) same, ap (λ (r : Reading). r.taken) same) inside.counted;
}

-- A run was taken that does not end the line.
pub IsInLine-run : (start old new : Reading) (first last : Option (List ℕ)) → IsInLine start first old last
    → EndsRun None old new
    → IsInLine start first new last
IsInLine-run start old new first last inside (run, short, more) = record {
  begins =
      told_weaker
      (λ left later. BeginsLine start old (start.unread ++ left) (old.unread ++ later))
      (λ left later. BeginsLine start new (start.unread ++ left) (new.unread ++ later))
      first last inside.begins
      (λ left later begins. BeginsLine-run start old new (start.unread ++ left) later begins run);
  short = short;
  counted = omega (arith, inside.counted, run.taken, ap length run.line, length-append old.line run.run);
}

-- Nothing has changed.
pub IsInLine-same : (start old now : Reading) (first middle last : Option (List ℕ))
    → IsInLine start first old middle → now ≡ old → last ≡ middle
    → IsInLine start first now last
IsInLine-same start old now first middle last inside same left =
    let P : Reading → Type 0 = λ reading. IsInLine start first reading last in
    let Q : Option (List ℕ) → Type 0 = λ bytes. IsInLine start first old bytes in
    subst P (sym same) (subst Q (sym left) inside)

pub TakesLine-inside : (start now : Reading) (first last : Option (List ℕ)) → IsInLine start first now last
    → ForSome first (λ left. IsSomeAnd last
    (λ later. TakesLine start now (start.unread ++ left) (now.unread ++ later)))
TakesLine-inside start now first last inside =
    told_weaker
    (λ left later. BeginsLine start now (start.unread ++ left) (now.unread ++ later))
    (λ left later. TakesLine start now (start.unread ++ left) (now.unread ++ later))
    first last inside.begins
    (λ left later begins. TakesLine-begins start now (start.unread ++ left) (now.unread ++ later) begins)

-- ---- where the line ends

FindsWholeLine-run : (start old new : Reading) (before left : List ℕ)
    → BeginsLine start old before (old.unread ++ left) → TakesRun (10 ∷ []) old new
    → length new.line ≤ most_line → FindsWholeLine start new before (new.unread ++ left)
FindsWholeLine-run start old new before left begins run short =
    let bytes : before ≡ new.line ++ 10 ∷ (new.unread ++ left) =
    run_bytes (10 ∷ []) start old new before left begins run in
    let counted : new.taken ≡ start.taken + length new.line + 1 =
    run_counted (10 ∷ []) start old new before left begins run in
    record {
      next = ap (lines_left start.taken) bytes
          ∙ lines_left-ended start.taken new.line (new.unread ++ left)
          (HasNoNewline-run (10 ∷ []) old new begins.plain run) (omega (arith, counted, run.within))
          ∙ ap (λ (taken : ℕ). new.line ∷ lines_left taken (new.unread ++ left)) (sym counted);
      short = short;
      more = omega (arith, counted);
      counted = omega (arith, counted, ap length bytes, length-append new.line (10 ∷ (new.unread ++ left)));
    }

FindsLongLine-run : (start old new : Reading) (before left : List ℕ)
    → BeginsLine start old before (old.unread ++ left) → TakesRun [] old new
    → length new.line ≡ most_line + 1 → FindsLongLine start new before
FindsLongLine-run start old new before left begins run long =
    let now = BeginsLine-run start old new before left begins run in
    let lines = lines_left-long start.taken new.line (new.unread ++ left) now.plain
    (omega (arith, now.counted, run.within)) (omega (arith, long)) in
    record {
      bytes = new.line ++ lines.behind;
      others = lines.others;
      next = ap (lines_left start.taken) now.bytes ∙ lines.lines_are;
      long = omega (arith, long, length-append new.line lines.behind);
      line = sym (ap (λ (n : ℕ). take n (new.line ++ lines.behind)) (sym long)
          ∙ take-append_seam new.line lines.behind);
    }

FindsLongScript-at : (start now : Reading) (before after : List ℕ) → BeginsLine start now before after
    → length now.line ≤ most_line
    → now.taken ≡ most_script → 0 < length after → FindsLongScript start now before
FindsLongScript-at start now before after begins short bound more =
    let reached : start.taken + length now.line ≡ most_script = sym begins.counted ∙ bound in
    record {
      none = ap (lines_left start.taken) begins.bytes
          ∙ lines_left-bound start.taken now.line after begins.plain reached short more;
      beyond = omega (arith, reached, more, ap length begins.bytes, length-append now.line after);
      line = sym (ap (λ (n : ℕ). take n before) (omega (arith, reached))
          ∙ ap (take (length now.line)) begins.bytes ∙ take-append_seam now.line after);
    }

run_ends : (next : NextLine) (start old new : Reading) (before later : List ℕ)
    → BeginsLine start old before (old.unread ++ later)
    → length old.line ≤ most_line → 0 < length old.unread → EndsRun (Some next) old new
    → FindsLine next start new before (new.unread ++ later)
run_ends Line start old new before later begins short more (run, fits) =
    FindsWholeLine-run start old new before later begins run fits
run_ends End start old new before later begins short more run = absurd run
run_ends LongLine start old new before later begins short more (run, long) =
    FindsLongLine-run start old new before later begins run long
run_ends LongScript start old new before later begins short more (same, bound) =
    let P : Reading → Type 0 = λ r. FindsLongScript start r before in
    subst P (sym same) (FindsLongScript-at start old before (old.unread ++ later) begins short bound
    (omega (arith, more, length-append old.unread later)))

run_takes : (next : NextLine) (start old new : Reading) (before later : List ℕ)
    → BeginsLine start old before (old.unread ++ later)
    → EndsRun (Some next) old new → TakesLine start new before (new.unread ++ later)
run_takes Line start old new before later begins (run, fits) =
    TakesLine-run (10 ∷ []) start old new before later (omega arith) begins run
run_takes End start old new before later begins run = absurd run
run_takes LongLine start old new before later begins (run, long) =
    TakesLine-run [] start old new before later (omega arith) begins run
run_takes LongScript start old new before later begins (same, bound) =
    let P : Reading → Type 0 = λ r. TakesLine start r before (r.unread ++ later) in
    subst P (sym same) (TakesLine-begins start old before (old.unread ++ later) begins)

script_ends : (next : NextLine) (start now : Reading) (before after text : List ℕ) → now.line ≡ text
    → BeginsLine start now before after
    → length now.line ≤ most_line → now.taken ≤ most_script → (now.line ≢ [] → next ≡ Line)
    → (now.line ≡ [] → next ≡ End) → after ≡ []
    → FindsLine next start now before after
script_ends next start now before after [] is begins short within line end none =
    let nothing : before ≡ [] = begins.bytes ∙ (rw (is, none) refl) in
    let fits : start.taken ≤ most_script = omega (arith, begins.counted, within) in
    rw (end is) (record {
      none = ap (lines_left start.taken) nothing ∙ lines_left-none start.taken fits;
      within = omega (arith, fits, ap length nothing);
      line = is;
      end = none;
    })
script_ends next start now before after (x ∷ xs) is begins short within line end none =
    let some : now.line ≢ [] = λ empty. cc in
    let bytes : before ≡ now.line = begins.bytes ∙ (rw none (append-nil now.line)) in
    let fits : start.taken + length now.line ≤ most_script = omega (arith, begins.counted, within) in
    let has_bytes : 0 < length now.line = omega (arith, ap length is) in
    rw (line some) (record {
      next = ap (lines_left start.taken) bytes
          ∙ lines_left-some start.taken now.line begins.plain fits has_bytes
          ∙ ap (λ (lines : List (List ℕ)). now.line ∷ lines)
          (sym (ap (lines_left now.taken) none ∙ lines_left-none now.taken within));
      short = short;
      more = omega (arith, begins.counted, has_bytes);
      counted = omega (arith, begins.counted, ap length bytes, ap length none);
    })

-- ---- for callers

-- A run of the unread bytes ends the line.
pub FindsLine-run : (next : NextLine) (start old new : Reading) (first last : Option (List ℕ))
    → IsInLine start first old last
    → 0 < length old.unread → EndsRun (Some next) old new
    → ForSome first (λ left. IsSomeAnd last
    (λ later. FindsLine next start new (start.unread ++ left) (new.unread ++ later)))
FindsLine-run next start old new first last inside more run =
    told_weaker
    (λ left later. BeginsLine start old (start.unread ++ left) (old.unread ++ later))
    (λ left later. FindsLine next start new (start.unread ++ left) (new.unread ++ later))
    first last inside.begins
    (λ left later begins. run_ends next start old new (start.unread ++ left) later begins inside.short more run)

pub TakesLine-end : (next : NextLine) (start old new : Reading) (first last : Option (List ℕ))
    → IsInLine start first old last → EndsRun (Some next) old new
    → ForSome first (λ left. IsSomeAnd last
    (λ later. TakesLine start new (start.unread ++ left) (new.unread ++ later)))
TakesLine-end next start old new first last inside run =
    told_weaker
    (λ left later. BeginsLine start old (start.unread ++ left) (old.unread ++ later))
    (λ left later. TakesLine start new (start.unread ++ left) (new.unread ++ later))
    first last inside.begins
    (λ left later begins. run_takes next start old new (start.unread ++ left) later begins run)

-- The script's end ends the line, or there is none.
pub FindsLine-end : (next : NextLine) (start old now : Reading) (first middle last : Option (List ℕ))
    → IsInLine start first old middle
    → now ≡ record old { unread = now.unread }
    → ForSome middle (λ left. IsSomeAnd last
    (λ later. (old.unread ++ left ≡ now.unread ++ later) × (now.unread ≡ [] → later ≡ [])))
    → now.unread ≡ [] → IsWithin now → (now.line ≢ [] → next ≡ Line) → (now.line ≡ [] → next ≡ End)
    → ForSome first (λ left. IsSomeAnd last
    (λ later. FindsLine next start now (start.unread ++ left) (now.unread ++ later)))
FindsLine-end next start old now first middle last inside same read no_unread within line end =
    told_then
    (λ left between. BeginsLine start old (start.unread ++ left) (old.unread ++ between))
    (λ between later. (old.unread ++ between ≡ now.unread ++ later) × (now.unread ≡ [] → later ≡ []))
    (λ left later. FindsLine next start now (start.unread ++ left) (now.unread ++ later))
    first middle last inside.begins read
    (λ left between later begins goes.
    let begins_now = BeginsLine-read start old now (start.unread ++ left) between later begins same goes.0 in
    let none : now.unread ++ later ≡ [] = rw (no_unread, goes.1 no_unread) refl in
    let short : length now.line ≤ most_line = rw (ap (λ (r : Reading). r.line) same) inside.short in
    script_ends next start now (start.unread ++ left) (now.unread ++ later) now.line refl begins_now short
    within.taken line end none)

-- ---- how much is taken of the source for a line

-- Inside a line no more than a line may have was taken.
pub taken_inside : (start now : Reading) (first last : Option (List ℕ)) → IsInLine start first now last
    → now.taken ≤ start.taken + (most_line + 1)
taken_inside start now first last inside = omega (arith, inside.counted, inside.short)

-- At its end its newline was taken too, or a byte beyond its bound.
pub taken_end : (next : NextLine) (start old new : Reading) (first last : Option (List ℕ))
    → IsInLine start first old last → EndsRun (Some next) old new → new.taken ≤ start.taken + (most_line + 1)
taken_end Line start old new first last inside (run, short) =
    omega (arith, inside.counted, run.taken, ap length run.line, length-append old.line run.run, short)
taken_end End start old new first last inside ends = absurd ends
taken_end LongLine start old new first last inside (run, long) =
    omega (arith, inside.counted, run.taken, ap length run.line, length-append old.line run.run, long)
taken_end LongScript start old new first last inside (same, bound) =
    subst (λ (r : Reading). r.taken ≤ start.taken + (most_line + 1)) (sym same)
    (taken_inside start old first last inside)
