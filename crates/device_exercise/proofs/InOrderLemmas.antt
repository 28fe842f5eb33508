-- Lines that are made one after the other.
use Rattle.std.proofs.Common.{◌≡◌, List, [], ◌∷◌, ◌++◌, map, false, refl, sym, ◌∙◌, ap, subst, append_assoc}
use Rattle.std.proofs.lemmas.List.{map-append}
use Rattle.disk_model.specs.Disk.{Content, EachImage, Image}
use Rattle.disk_model.specs.Moments.{EachMoment, HasNow}
use Rattle.disk_model.proofs.MomentsLemmas.{EachMoment-weaker, no_moment}
use Rattle.device_model.specs.Device.{DeviceKind, IsLeftWithin}
use Rattle.device_model.specs.History.{Change, History, with_changes}
use Rattle.device_model.specs.Mode.{DeviceFormat}
use Rattle.device_model.specs.Progress.{DeviceState, changes_of}
use Rattle.device_model.specs.Script.{Ask, AskLine, ScriptLine, after_script, line_events, line_outcome}
use Rattle.device_model.proofs.ScriptLemmas.{history-after}
use Rattle.workload_model.specs.Exercise.{asking_line}
use Rattle.workload_model.proofs.ExerciseLemmas.{after_events-script}
use Rattle.device.specs.Device.{kind_of}
use Rattle.device.specs.Run.{HasRun, IsCutOff, standing_behind}
use Rattle.device.specs.declared.mode.DeviceParts.{DeviceParts}
use Rattle.device.proofs.ModeLemmas.{left_now}
use Rattle.device.proofs.RunLemmas.{left-wider}
use Rattle.device_parts.specs.Device.{Standing}
use Rattle.device_parts.specs.declared.condition.Condition.TheVariants as Conditions
use Rattle.script_session.specs.LineRun.{events_of}
use Rattle.device_exercise.specs.Exercising.{events_of_asks}
use Rattle.device_exercise.specs.InOrder.{AreAsksBegun, AreAsksMade, changes_by_ask}
use Rattle.workload_model.specs.InOrder.{AreLinesBegun, AreLinesMade, changes_by_line, first_changes, history_behind}

-- ---- changes

changes_by_line-append : (f : DeviceFormat) (s : DeviceState) (xs ys : List ScriptLine)
    → changes_by_line f s (xs ++ ys) ≡ changes_by_line f s xs ++ changes_by_line f (after_script f s xs) ys
changes_by_line-append f s [] ys = refl
changes_by_line-append f s (x ∷ xs) ys =
    ap (λ (l : List (List Change)). (line_outcome f s x).changes ∷ l)
    (changes_by_line-append f (line_outcome f s x).after xs ys)

history_behind-append : (xs ys : List (List Change)) (h : History)
    → history_behind (xs ++ ys) h ≡ history_behind ys (history_behind xs h)
history_behind-append [] ys h = refl
history_behind-append (x ∷ xs) ys h = history_behind-append xs ys (with_changes x h)

-- The changes of lines lead to the history that the lines leave.
pub history_behind-lines : (f : DeviceFormat) (s : DeviceState) (lines : List ScriptLine)
    → history_behind (changes_by_line f s lines) s.history ≡ (after_script f s lines).history
history_behind-lines f s [] = refl
history_behind-lines f s (line ∷ lines) =
    let outcome = line_outcome f s line in
    ap (history_behind (changes_by_line f outcome.after lines)) (sym (history-after f s (line_events f s line)))
    ∙ history_behind-lines f outcome.after lines

-- ---- lines

module _ (kind : DeviceKind) (entry : Image) where
  pub lines_made_then : (h : History) (xs ys : List (List Change)) (a b c : List Content)
      → AreLinesMade kind entry h xs a b → AreLinesMade kind entry (history_behind xs h) ys b c
      → AreLinesMade kind entry h (xs ++ ys) a c
  lines_made_then h [] ys a b c first second =
      subst (λ (m : List Content). AreLinesMade kind entry h ys m c) first second
  lines_made_then h (x ∷ xs) ys a b c first second =
      (first.0, (first.1.0, lines_made_then (with_changes x h) xs ys first.0 b c first.1.1 second))

  -- Lines that are made are begun, with more behind them.
  pub lines_made_begun : (h : History) (xs ys : List (List Change)) (a b : List Content)
      → AreLinesMade kind entry h xs a b → AreLinesBegun kind entry h (xs ++ ys) a b
  lines_made_begun h xs ys a b made = record {
    done = xs;
    rest = ys;
    is = refl;
    between = b;
    made = made;
    next = no_moment b _;
  }

  pub lines_begun_then : (h : History) (xs ys : List (List Change)) (a b c : List Content)
      → AreLinesMade kind entry h xs a b → AreLinesBegun kind entry (history_behind xs h) ys b c
      → AreLinesBegun kind entry h (xs ++ ys) a c
  lines_begun_then h xs ys a b c first second = record {
    done = xs ++ second.done;
    rest = second.rest;
    is = ap (λ (l : List (List Change)). xs ++ l) second.is ∙ sym (append_assoc xs second.done second.rest);
    between = second.between;
    made = lines_made_then h xs second.done a b second.between first second.made;
    next = subst (λ (x : History). EachMoment second.between c (IsLeftWithin kind entry x (first_changes second.rest)))
        (sym (history_behind-append xs second.done h)) second.next;
  }

  first_wider : (h : History) (xs ys : List (List Change)) (c : Content)
      → IsLeftWithin kind entry h (first_changes xs) c → IsLeftWithin kind entry h (first_changes (xs ++ ys)) c
  first_wider h [] ys c left = left-wider kind entry h [] (first_changes ys) c left
  first_wider h (x ∷ xs) ys c left = left

  pub lines_begun_wider : (h : History) (xs ys : List (List Change)) (a b : List Content)
      → AreLinesBegun kind entry h xs a b → AreLinesBegun kind entry h (xs ++ ys) a b
  lines_begun_wider h xs ys a b begun = record {
    done = begun.done;
    rest = begun.rest ++ ys;
    is = ap (λ (l : List (List Change)). l ++ ys) begun.is ∙ append_assoc begun.done begun.rest ys;
    between = begun.between;
    made = begun.made;
    next = EachMoment-weaker (first_wider (history_behind begun.done h) begun.rest ys) begun.next;
  }

  -- One line is cut off.
  pub line_begun : (h : History) (changes : List Change) (a b : List Content)
      → EachMoment a b (IsLeftWithin kind entry h changes) → AreLinesBegun kind entry h (changes ∷ []) a b
  line_begun h changes a b since = record {
    done = [];
    rest = changes ∷ [];
    is = refl;
    between = a;
    made = refl;
    next = since;
  }

-- ---- requests

module _ (w : Standing) where
  -- What is ahead behind some requests.
  ahead-is : (xs ys : List Ask)
      → changes_by_ask w (xs ++ ys) ≡ changes_by_ask w xs ++ changes_by_ask (standing_behind w (events_of_asks w xs)) ys
  ahead-is xs ys =
      let f = w.format in
      let s = w.state in
      ap (changes_by_line f s) (map-append asking_line xs ys)
      ∙ changes_by_line-append f s (map asking_line xs) (map asking_line ys)
      ∙ ap (λ (u : DeviceState). changes_by_ask w xs ++ changes_by_line f u (map asking_line ys))
      (sym (after_events-script f s (map asking_line xs)))

  behind-is : (xs : List Ask)
      → (standing_behind w (events_of_asks w xs)).state.history ≡ history_behind (changes_by_ask w xs) w.state.history
  behind-is xs =
      ap (λ (u : DeviceState). u.history) (after_events-script w.format w.state (map asking_line xs))
      ∙ sym (history_behind-lines w.format w.state (map asking_line xs))

  pub asks_made_then : (xs ys : List Ask) (a b c : List Content) → AreAsksMade w xs a b
      → AreAsksMade (standing_behind w (events_of_asks w xs)) ys b c → AreAsksMade w (xs ++ ys) a c
  asks_made_then xs ys a b c first second =
      let more = changes_by_ask (standing_behind w (events_of_asks w xs)) ys in
      subst (λ (l : List (List Change)). AreLinesMade (kind_of w) w.entry w.state.history l a c) (sym (ahead-is xs ys))
      (lines_made_then (kind_of w) w.entry w.state.history (changes_by_ask w xs) more a b c first
      (subst (λ (h : History). AreLinesMade (kind_of w) w.entry h more b c) (behind-is xs) second))

  pub asks_begun_then : (xs ys : List Ask) (a b c : List Content) → AreAsksMade w xs a b
      → AreAsksBegun (standing_behind w (events_of_asks w xs)) ys b c → AreAsksBegun w (xs ++ ys) a c
  asks_begun_then xs ys a b c first second =
      let more = changes_by_ask (standing_behind w (events_of_asks w xs)) ys in
      subst (λ (l : List (List Change)). AreLinesBegun (kind_of w) w.entry w.state.history l a c)
      (sym (ahead-is xs ys))
      (lines_begun_then (kind_of w) w.entry w.state.history (changes_by_ask w xs) more a b c first
      (subst (λ (h : History). AreLinesBegun (kind_of w) w.entry h more b c) (behind-is xs) second))

  pub asks_begun_wider : (xs ys : List Ask) (a b : List Content) → AreAsksBegun w xs a b
      → AreAsksBegun w (xs ++ ys) a b
  asks_begun_wider xs ys a b begun =
      let more = changes_by_ask (standing_behind w (events_of_asks w xs)) ys in
      subst (λ (l : List (List Change)). AreLinesBegun (kind_of w) w.entry w.state.history l a b)
      (sym (ahead-is xs ys))
      (lines_begun_wider (kind_of w) w.entry w.state.history (changes_by_ask w xs) more a b begun)

  pub ask_made : (ask : Ask) (p : DeviceParts) (a b : List Content)
      → HasRun w (events_of w (AskLine false ask)) p a b → AreAsksMade w (ask ∷ []) a b
  ask_made ask p a b run =
      let events = events_of w (AskLine false ask) in
      let now = left_now (standing_behind w events) Conditions.Working p.mode p.common b run.device in
      let left = subst (λ (h : History). HasNow (EachImage ((kind_of w).MayBeLeft w.entry h)) b)
      (history-after w.format w.state events) now.left in
      (b, (record { since = run.since; now = λ c told. record { opens = now.opens c told; left = left c told } }, refl))

  pub ask_begun : (ask : Ask) (a b : List Content) → IsCutOff w (events_of w (AskLine false ask)) a b
      → AreAsksBegun w (ask ∷ []) a b
  ask_begun ask a b cut =
      line_begun (kind_of w) w.entry w.state.history
      (changes_of w.format w.state (events_of w (AskLine false ask))) a b cut.since
