-- Events one after the other, and what may be left of them.
use Rattle.std.proofs.Common.{◌≡◌, ℕ, zero, suc, ◌+◌, List, [], ◌∷◌, ◌++◌, length, take, refl, sym, ◌∙◌, ap, subst, Some, append-nil, append_assoc}
use Rattle.std.proofs.lemmas.List.Sums.{fold-append}
use Rattle.std.proofs.lemmas.Option.{none-some, same_Some}
use Rattle.std.proofs.Math.Seq.{take-append-add}
use Rattle.disk_model.specs.Disk.{Content, Image, EachImage}
use Rattle.disk_model.specs.Moments.{EachMoment}
use Rattle.disk_model.proofs.MomentsLemmas.{EachMoment-then, EachMoment-weaker, no_moment}
use Rattle.device_model.specs.Device.{DeviceKind, IsLeftWithin}
use Rattle.device_model.specs.History.{Change, Begun, Written, Flushed, History, with_change, with_changes}
use Rattle.device_model.specs.Mode.{DeviceFormat}
use Rattle.device_model.specs.Progress.{DeviceState, Event, EventResult, Submit, Serve, Step, Take, Close, FailedServe, FailedStep, FailedClose, Working, after_events, changes_of, event_result, first_begun}
use Rattle.device_model.proofs.IdleLemmas.{after_events-append}
use Rattle.device_model.proofs.ScriptLemmas.{changes_of-append, history-after}
use Rattle.device_model.proofs.SubmissionLemmas.{result-working}
use Rattle.device_parts.specs.declared.condition.Condition.TheVariants as Conditions
use Rattle.device.specs.declared.mode.DeviceParts.{DeviceParts}
use Rattle.device_parts.specs.Device.{HasDone}
use Rattle.device.specs.Device.{IsDevice, any_mode, kind_of}
use Rattle.device_parts.specs.Device.{Standing}
use Rattle.device_opening.proofs.MomentsLemmas.{EachMoment-both}
use Rattle.device.proofs.ModeLemmas.{left_now}
use Rattle.device.specs.Run.{HasBegun, HasFailed, HasRun, IsCutOff, failed_of, standing_behind}
use Rattle.device.specs.Tags.{Leaves, LeavesIn}
use Rattle.device.proofs.TagsLemmas.{leaves_all, leaves_left, leaves_then}

-- ---- changes

-- Some of the first of some changes are some of the first of more.
take_within : (made : ℕ) (xs ys : List Change) → (m : ℕ) × (take m (xs ++ ys) ≡ take made xs)
take_within zero xs ys = (0, refl)
take_within (suc made) [] ys = (0, refl)
take_within (suc made) (x ∷ xs) ys =
    let rest = take_within made xs ys in
    (suc rest.0, ap (λ (l : List Change). x ∷ l) rest.1)

-- Some of the first of the first ones are some of the first.
take_first : (k n : ℕ) (xs : List Change) → (m : ℕ) × (take m xs ≡ take k (take n xs))
take_first zero n xs = (0, refl)
take_first (suc k) zero xs = (0, refl)
take_first (suc k) (suc n) [] = (0, refl)
take_first (suc k) (suc n) (x ∷ xs) =
    let rest = take_first k n xs in
    (suc rest.0, ap (λ (l : List Change). x ∷ l) rest.1)

-- What a serve that fails has begun is some of the first that it does.
all_begun : (changes : List Change) → (m : ℕ) × (take m changes ≡ first_begun changes)
all_begun [] = (0, refl)
all_begun (Begun write ∷ changes) = (1, refl)
all_begun (Written write ∷ changes) = (0, refl)
all_begun (Flushed ∷ changes) = (0, refl)

module _ (kind : DeviceKind) (entry : Image) where
  -- What is left within some changes is left within them and more, in front or behind.
  pub left-wider : (h : History) (xs ys : List Change) (c : Content) → IsLeftWithin kind entry h xs c
      → IsLeftWithin kind entry h (xs ++ ys) c
  left-wider h xs ys c is =
      let m = take_within is.made xs ys in
      record {
        made = m.0;
        opens = is.opens;
        left = subst (λ (l : List Change). EachImage (kind.MayBeLeft entry (with_changes l h)) c) (sym m.1) is.left;
      }

  pub left-behind : (h : History) (xs ys : List Change) (c : Content)
      → IsLeftWithin kind entry (with_changes xs h) ys c → IsLeftWithin kind entry h (xs ++ ys) c
  left-behind h xs ys c is = record {
    made = length xs + is.made;
    opens = is.opens;
    left = subst (λ (x : History). EachImage (kind.MayBeLeft entry x) c)
        (sym (ap (λ (l : List Change). with_changes l h) (take-append-add xs ys is.made)
        ∙ fold-append with_change h xs (take is.made ys))) is.left;
  }

-- ---- some events, and more

module _ (w : Standing) where
  abbrev f : DeviceFormat
  f = w.format

  abbrev s : DeviceState
  s = w.state

  abbrev LeftIn : List Change → Content → Type 0
  LeftIn changes c = IsLeftWithin (kind_of w) w.entry s.history changes c

  since_wider : (xs ys : List Event) (c : Content) → LeftIn (changes_of f s xs) c
      → LeftIn (changes_of f s (xs ++ ys)) c
  since_wider xs ys c is =
      subst (λ (l : List Change). LeftIn l c) (sym (changes_of-append f s xs ys))
      (left-wider (kind_of w) w.entry s.history (changes_of f s xs) (changes_of f (after_events f s xs) ys) c is)

  since_behind : (xs ys : List Event) (c : Content)
      → IsLeftWithin (kind_of w) w.entry (after_events f s xs).history (changes_of f (after_events f s xs) ys) c
      → LeftIn (changes_of f s (xs ++ ys)) c
  since_behind xs ys c is =
      let more = changes_of f (after_events f s xs) ys in
      let moved = subst (λ (h : History). IsLeftWithin (kind_of w) w.entry h more c) (history-after f s xs) is in
      subst (λ (l : List Change). LeftIn l c) (sym (changes_of-append f s xs ys))
      (left-behind (kind_of w) w.entry s.history (changes_of f s xs) more c moved)

  -- What some events leave is left by them and more,
  others_wider : (xs ys : List Event) (a b : List Content) → LeavesIn w xs a b → LeavesIn w (xs ++ ys) a b
  others_wider xs ys a b others =
      subst (λ (l : List Change). Leaves w l a b) (sym (changes_of-append f s xs ys))
      (leaves_left w (changes_of f s xs) (changes_of f (after_events f s xs) ys) others)

  -- and by those behind them, too.
  others_then : (xs ys : List Event) (a b c : List Content)
      → LeavesIn w xs a b → LeavesIn (standing_behind w xs) ys b c → LeavesIn w (xs ++ ys) a c
  others_then xs ys a b c first second =
      let more = changes_of f (after_events f s xs) ys in
      subst (λ (l : List Change). Leaves w l a c) (sym (changes_of-append f s xs ys))
      (leaves_then w (after_events f s xs) (changes_of f s xs) more (history-after f s xs) first second)

  -- Nothing is done.
  pub run_none : (p : DeviceParts) (a : List Content) → IsDevice w Conditions.Working p a → HasRun w [] p a a
  run_none p a is = record {
    device = is;
    since = no_moment a _;
    others = leaves_all w [] refl;
  }

  pub none_begun : (events : List Event) (p q : DeviceParts) (a b : List Content) → IsDevice w Conditions.Working p a
      → q ≡ p → b ≡ a → HasBegun w events q a b
  none_begun events p q a b is same same_moments = record {
    made = [];
    rest = events;
    all = refl;
    run = subst (λ (x : DeviceParts). HasRun w [] x a b) (sym same)
        (subst (λ (m : List Content). HasRun w [] p a m) (sym same_moments) (run_none p a is));
  }

  -- Events behind others that are done.
  pub run_then : (xs ys : List Event) (p q : DeviceParts) (a b c : List Content) (first : HasRun w xs p a b)
      → HasRun (standing_behind w xs) ys q b c → HasRun w (xs ++ ys) q a c
  run_then xs ys p q a b c first second = record {
    device = subst (λ (u : DeviceState). IsDevice (record w { state = u }) Conditions.Working q c)
        (sym (after_events-append f s xs ys)) second.device;
    since = EachMoment-then (EachMoment-weaker (since_wider xs ys) first.since) (EachMoment-weaker (since_behind xs ys) second.since);
    others = others_then xs ys a b c first.others second.others;
  }

  -- They may be cut off,
  pub cut_then : (xs ys : List Event) (p : DeviceParts) (a b c : List Content) (first : HasRun w xs p a b)
      → IsCutOff (standing_behind w xs) ys b c → IsCutOff w (xs ++ ys) a c
  cut_then xs ys p a b c first second = record {
    since = EachMoment-then (EachMoment-weaker (since_wider xs ys) first.since) (EachMoment-weaker (since_behind xs ys) second.since);
    now = λ x told. since_behind xs ys x (second.now x told);
    others = others_then xs ys a b c first.others second.others;
  }

  -- or not begun,
  pub cut_run : (xs ys : List Event) (p : DeviceParts) (a b : List Content) → HasRun w xs p a b
      → IsCutOff w (xs ++ ys) a b
  cut_run xs ys p a b first = record {
    since = EachMoment-weaker (since_wider xs ys) first.since;
    now = λ x told.
        let left = left_now (standing_behind w xs) Conditions.Working p.mode p.common b first.device in
        since_behind xs ys x (record { made = 0; opens = left.opens x told; left = left.left x told });
    others = others_wider xs ys a b first.others;
  }

  -- as where the first were cut off.
  pub cut_wider : (xs ys : List Event) (a b : List Content) → IsCutOff w xs a b → IsCutOff w (xs ++ ys) a b
  cut_wider xs ys a b cut = record {
    since = EachMoment-weaker (since_wider xs ys) cut.since;
    now = λ x told. since_wider xs ys x (cut.now x told);
    others = others_wider xs ys a b cut.others;
  }

  -- Events that come to the same.
  pub run_same : (xs ys : List Event) (p : DeviceParts) (a b : List Content)
      → after_events f s xs ≡ after_events f s ys → changes_of f s xs ≡ changes_of f s ys
      → HasRun w xs p a b → HasRun w ys p a b
  run_same xs ys p a b after changes run = record {
    device = subst (λ (u : DeviceState). IsDevice (record w { state = u }) Conditions.Working p b) after run.device;
    since = EachMoment-weaker (λ c is. subst (λ (l : List Change). LeftIn l c) changes is) run.since;
    others = subst (λ (l : List Change). Leaves w l a b) changes run.others;
  }

  pub cut_same : (xs ys : List Event) (a b : List Content) → changes_of f s xs ≡ changes_of f s ys
      → IsCutOff w xs a b → IsCutOff w ys a b
  cut_same xs ys a b changes cut = record {
    since = EachMoment-weaker (λ c is. subst (λ (l : List Change). LeftIn l c) changes is) cut.since;
    now = λ x told. subst (λ (l : List Change). LeftIn l x) changes (cut.now x told);
    others = subst (λ (l : List Change). Leaves w l a b) changes cut.others;
  }

  -- ---- a serve that failed

  -- Events are done before it,
  pub failed_then : (xs ys : List Event) (p q : DeviceParts) (a b c : List Content) (first : HasRun w xs p a b)
      → HasFailed (standing_behind w xs) ys q b c → HasFailed w (xs ++ ys) q a c
  failed_then xs ys p q a b c first second = record {
    cut = cut_then xs ys p a b c first second.cut;
    made = xs ++ second.made;
    event = second.event;
    rest = second.rest;
    same =
        ap (after_events f s) (append_assoc xs second.made (second.event ∷ second.rest))
        ∙ after_events-append f s xs (second.made ++ second.event ∷ second.rest) ∙ second.same ∙ sym (after_events-append f s xs ys);
    failed = second.failed;
    fails = second.fails;
    device = subst (λ (u : DeviceState). IsDevice (record w { state = u }) Conditions.Broken q c)
        (sym (ap (after_events f s) (append_assoc xs second.made (second.failed ∷ [])) ∙ after_events-append f s xs (second.made ++ second.failed ∷ []))) second.device;
  }

  -- or come behind it,
  pub failed_wider : (xs ys : List Event) (p : DeviceParts) (a b : List Content) → HasFailed w xs p a b
      → HasFailed w (xs ++ ys) p a b
  failed_wider xs ys p a b failed = record {
    cut = cut_wider xs ys a b failed.cut;
    made = failed.made;
    event = failed.event;
    rest = failed.rest ++ ys;
    failed = failed.failed;
    fails = failed.fails;
    same =
        ap (after_events f s) (sym (append_assoc failed.made (failed.event ∷ failed.rest) ys))
        ∙ after_events-append f s (failed.made ++ failed.event ∷ failed.rest) ys
        ∙ ap (λ (u : DeviceState). after_events f u ys) failed.same ∙ sym (after_events-append f s xs ys);
    device = failed.device;
  }

  -- or come to the same.
  pub failed_same : (xs ys : List Event) (p : DeviceParts) (a b : List Content)
      → after_events f s xs ≡ after_events f s ys → changes_of f s xs ≡ changes_of f s ys
      → HasFailed w xs p a b → HasFailed w ys p a b
  failed_same xs ys p a b after changes failed = record {
    cut = cut_same xs ys a b changes failed.cut;
    made = failed.made;
    event = failed.event;
    rest = failed.rest;
    failed = failed.failed;
    fails = failed.fails;
    same = failed.same ∙ after;
    device = failed.device;
  }

  -- ---- one event

  pub run_one : (event : Event) (p : DeviceParts) (a b : List Content) → HasDone any_mode w event Conditions.Working p a b
      → LeavesIn w (event ∷ []) a b → HasRun w (event ∷ []) p a b
  run_one event p a b done others =
      let changes = (event_result f s event).changes in
      record {
        device = done.device;
        since = EachMoment-weaker (λ c is. record {
          made = is.1.within.kept;
          opens = is.0;
          left = subst (λ (h : History). EachImage ((kind_of w).MayBeLeft w.entry h) c)
              (is.1.within.is ∙ ap (λ (l : List Change). with_changes (take is.1.within.kept l) s.history) (sym (append-nil changes))) is.1.each;
        }) (EachMoment-both done.through.opens done.through.left);
        others = others;
      }

  -- A call in which the disk failed makes some of the first changes that it would make else.
  pub record IsFirstOf (event failed : Event) : Type 0 where
    pub count : ℕ
    pub is : (event_result f s failed).changes ≡ take count (event_result f s event).changes

  pub first_of : (event failed : Event) → s.condition ≡ Working → failed_of event ≡ Some failed → IsFirstOf event failed
  first_of (Submit submission) failed works same = absurd (none-some failed same)
  first_of (Serve ticket) failed works same =
      let changes = (event_result f s (Serve ticket)).changes in
      let m = all_begun changes in
      subst (IsFirstOf (Serve ticket)) (same_Some (FailedServe ticket) failed same) (record {
        count = m.0;
        is =
            ap (λ (x : EventResult). x.changes) (result-working f s (FailedServe ticket) works)
            ∙ ap (λ (x : EventResult). first_begun x.changes) (sym (result-working f s (Serve ticket) works)) ∙ sym m.1;
      })
  first_of (Step actor) failed works same =
      subst (IsFirstOf (Step actor)) (same_Some (FailedStep actor) failed same) (record { count = 0; is = ap (λ (x : EventResult). x.changes) (result-working f s (FailedStep actor) works) })
  first_of (Take ticket) failed works same = absurd (none-some failed same)
  first_of Close failed works same =
      subst (IsFirstOf Close) (same_Some FailedClose failed same) (record { count = 0; is = ap (λ (x : EventResult). x.changes) (result-working f s FailedClose works) })
  first_of (FailedServe ticket) failed works same = absurd (none-some failed same)
  first_of (FailedStep actor) failed works same = absurd (none-some failed same)
  first_of FailedClose failed works same = absurd (none-some failed same)

  cut_failed : (event failed : Event) (p : DeviceParts) (a b : List Content) → IsFirstOf event failed
      → HasDone any_mode w failed Conditions.Broken p a b → LeavesIn w (event ∷ []) a b → IsCutOff w (event ∷ []) a b
  cut_failed event failed p a b first done others =
      let changes = (event_result f s event).changes in
      record {
        since = EachMoment-weaker (λ c is.
            let m = take_first is.1.within.kept first.count changes in
            record {
              made = m.0;
              opens = is.0;
              left = subst (λ (h : History). EachImage ((kind_of w).MayBeLeft w.entry h) c)
                  (is.1.within.is
                  ∙ ap (λ (l : List Change). with_changes (take is.1.within.kept l) s.history) first.is
                  ∙ ap (λ (l : List Change). with_changes l s.history) (sym m.1)
                  ∙ ap (λ (l : List Change). with_changes (take m.0 l) s.history) (sym (append-nil changes))) is.1.each;
            }) (EachMoment-both done.through.opens done.through.left);
        now = λ x told.
            let left = left_now (standing_behind w (failed ∷ [])) Conditions.Broken p.mode p.common b done.device in
            record {
              made = first.count;
              opens = left.opens x told;
              left = subst (λ (h : History). EachImage ((kind_of w).MayBeLeft w.entry h) x)
                  (ap (λ (l : List Change). with_changes l s.history) first.is
                  ∙ ap (λ (l : List Change). with_changes (take first.count l) s.history) (sym (append-nil changes))) (left.left x told);
            };
        others = others;
      }

  -- An event in which the disk failed.
  pub one_failed : (event failed : Event) (p : DeviceParts) (a b : List Content) → s.condition ≡ Working
      → failed_of event ≡ Some failed → HasDone any_mode w failed Conditions.Broken p a b → LeavesIn w (event ∷ []) a b
      → HasFailed w (event ∷ []) p a b
  one_failed event failed p a b works fails done others = record {
    cut = cut_failed event failed p a b (first_of event failed works fails) done others;
    made = [];
    event = event;
    rest = [];
    same = refl;
    failed = failed;
    fails = fails;
    device = done.device;
  }
